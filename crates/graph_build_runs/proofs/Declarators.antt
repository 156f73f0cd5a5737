-- Declarators of scalars do what they mean, wherever these are kept, and so do those of arrays without an initializer.
use Rattle.std.proofs.Common.{◌≡◌, ℕ, zero, suc, ◌+◌, ◌*◌, ◌/◌, ◌≤◌, inl, inr, List, [], ◌∷◌, Option, Some, None, true, false, slice_get, refl, sym, ap, ◌∙◌, subst, arith}
use Rattle.std.specs.Prelude.{◌==◌, if◌then◌else◌, nat_le}
use Rattle.std.specs.Option.{option_map_or}
use Rattle.std.proofs.lemmas.Bool.Decides.{nat_tests}
use Rattle.c_tree.specs.declared.types.IntegerType.{IntegerType}
use Rattle.c_tree.specs.declared.types.IntegerType.TheVariants.{Char, SignedChar, UnsignedChar, Short, UnsignedShort, Int, UnsignedInt, Long, UnsignedLong}
use Rattle.c_tree.specs.declared.object_type.Scalar.{Scalar}
use Rattle.c_tree.specs.declared.object_type.ObjectType.TheVariants as of-object
use Rattle.c_tree.specs.TypedExpressions.{RvalueTree}
use Rattle.c_tree.specs.TypedStatements.{DeclaredTree, Zero, Scalar as scalar-initial}
use Rattle.c_tree.specs.Programs.{AutomaticTree}
use Rattle.c_type_rules.specs.Integers.{integer_size as integer_bytes, scalar_size as type_size}
use Rattle.c_type_rules.specs.Types.{loaded_type}
use Rattle.c_type_laws.specs.Kinds.{is_of}
use Rattle.c_type_laws.specs.Expressions.{kind_of}
use Rattle.c_meaning_values.specs.Memory.{Memory as SourceMemory}
use Rattle.c_meaning_values.specs.Types.{element_scalar, value_count, scalar_size, size_by_stars}
use Rattle.c_meaning.specs.Activations as activations
use Rattle.c_meaning.specs.Statements.{declare_with}
use Rattle.graph_core.specs.Graphs as unit
use Rattle.graph_build_names.specs.Names.{scalar_of, object_of}
use Rattle.graph_build_steps.specs.Drafts.{instruction_before}
use Rattle.graph_build_steps.specs.Steps.{or_zero}
use Rattle.graph_build_statements.specs.Coding.{going}
use Rattle.graph_build_statements.specs.Declaring.{object_type_of, cleared, declare_single, declare_array, declare_kept, declare_scalar, declare_as}
use Rattle.graph_build_runs.proofs.Leads.{names_in}
use Rattle.graph_build_runs.proofs.Operands.{Apart}
use Rattle.graph_build_runs.proofs.Activities.{Activity, coding_in, here_in, place_at, placed}
use Rattle.graph_build_runs.proofs.Outcomes.{GoesOn}
use Rattle.graph_build_runs.proofs.Stops.{Lawful}
use Rattle.graph_build_runs.proofs.AtPlaces.{Works, Begins}
use Rattle.graph_build_runs.proofs.Keeping.{KeepsOn}
use Rattle.graph_build_runs.proofs.Declared.{initialised_goes, zero_goes, initialised_keeps, zero_keeps}
use Rattle.graph_build_runs.proofs.Stored.{stored_goes, zeroed_goes}
use Rattle.graph_build_runs.proofs.Clearing.{sizes, cleared_goes}
use Rattle.graph_build_runs.proofs.Forming.{DeclaratorDoes}

module _ (k : Activity) (law : Lawful k) (d : DeclaredTree) (a : AutomaticTree) (is : slice_get k.setting.program.automatics d.variable ≡ Some a) where
  -- A scalar that is kept in a name, with its initializer,
  pub named_initialised : (j : ℕ) (e : RvalueTree) → scalar_of (names_in k.setting) d.variable ≡ Some j → d.initial ≡ scalar-initial e → Works k (place_at k d.spot.at) e → is_of (kind_of k.setting.program k.setting.tree e) (loaded_type (element_scalar a.of)) ≡ true
      → ((began : SourceMemory) → Apart (placed k (place_at k d.spot.at) began) j e) → DeclaratorDoes k d
  named_initialised j e named init works fits apart scope low w le b =
      let b1 = subst (λ o. Begins k scope d.spot.at (λ t i. declare_as (coding_in k) o d t (going (coding_in k) w.next i))) named b in
      let b2 = subst (λ q. Begins k scope d.spot.at (λ t i. declare_scalar (coding_in k) d.spot.at j q t (going (coding_in k) w.next i))) init b1 in (
        subst (λ q. GoesOn k low (d.variable + 1) (d.variable ∷ []) w scope (Some d.spot.at) (λ s. activations.at (here_in k) d.spot s (declare_with k.calls (here_in k) d.spot d.variable q))) (sym init)
            (initialised_goes k law scope low w d.spot d.variable j a is named le e works fits apart b2),
        subst (λ q. KeepsOn k low (d.variable + 1) (d.variable ∷ []) scope (λ s. activations.at (here_in k) d.spot s (declare_with k.calls (here_in k) d.spot d.variable q))) (sym init) (initialised_keeps k scope low d.spot b.here d.variable a is le (law.apart.single d.variable j a named is) e works fits),
      )

  -- and without one.
  pub named_zero : (j : ℕ) → scalar_of (names_in k.setting) d.variable ≡ Some j → d.initial ≡ Zero → DeclaratorDoes k d
  named_zero j named init scope low w le b =
      let b1 = subst (λ o. Begins k scope d.spot.at (λ t i. declare_as (coding_in k) o d t (going (coding_in k) w.next i))) named b in
      let b2 = subst (λ q. Begins k scope d.spot.at (λ t i. declare_scalar (coding_in k) d.spot.at j q t (going (coding_in k) w.next i))) init b1 in (
        subst (λ q. GoesOn k low (d.variable + 1) (d.variable ∷ []) w scope (Some d.spot.at) (λ s. activations.at (here_in k) d.spot s (declare_with k.calls (here_in k) d.spot d.variable q))) (sym init) (zero_goes k law scope low w d.spot d.variable j a is named le b2),
        subst (λ q. KeepsOn k low (d.variable + 1) (d.variable ∷ []) scope (λ s. activations.at (here_in k) d.spot s (declare_with k.calls (here_in k) d.spot d.variable q))) (sym init) (zero_keeps k scope low d.spot b.here d.variable a is le),
      )

  -- One in memory, with its initializer,
  module _ (j : ℕ) (sc : Scalar) (nowhere : scalar_of (names_in k.setting) d.variable ≡ None) (named : object_of (names_in k.setting) d.variable ≡ Some j) (inside : a.in_memory ≡ true) (one : a.of ≡ of-object.Scalar sc) where
    kept_begins : (scope : List ℕ) (next : Option ℕ) → Begins k scope d.spot.at (λ t i. declare_as (coding_in k) (scalar_of (names_in k.setting) d.variable) d t (going (coding_in k) next i)) → Begins k scope d.spot.at (λ t i. declare_single (coding_in k) d.spot.at j sc d.initial t (going (coding_in k) next i))
    kept_begins scope next b =
        let b1 = subst (λ o. Begins k scope d.spot.at (λ t i. declare_as (coding_in k) o d t (going (coding_in k) next i))) nowhere b in
        let b2 = subst (λ o. Begins k scope d.spot.at (λ t i. declare_kept (coding_in k) d.spot.at (or_zero o) (object_type_of k.setting.program d.variable) d.initial t (going (coding_in k) next i))) named b1 in
        let typed : object_type_of k.setting.program d.variable ≡ of-object.Scalar sc = ap (λ r. option_map_or (λ (q : AutomaticTree). q.of) r (of-object.Array (record { base = Char; stars = 0 }) 0)) is ∙ one in
        subst (λ of. Begins k scope d.spot.at (λ t i. declare_kept (coding_in k) d.spot.at j of d.initial t (going (coding_in k) next i))) typed b2

    kept_of : sc ≡ element_scalar a.of
    kept_of = sym (ap element_scalar one)

    kept_single : value_count a.of ≡ 1
    kept_single = ap value_count one

    pub kept_initialised : (e : RvalueTree) → d.initial ≡ scalar-initial e → Works k (place_at k d.spot.at) e → is_of (kind_of k.setting.program k.setting.tree e) (loaded_type (element_scalar a.of)) ≡ true → DeclaratorDoes k d
    kept_initialised e init works fits scope low w le b =
        let b1 = kept_begins scope w.next b in
        let b2 = subst (λ q. Begins k scope d.spot.at (λ t i. declare_single (coding_in k) d.spot.at j sc q t (going (coding_in k) w.next i))) init b1 in
        let b3 = subst (λ s. Begins k scope d.spot.at (λ t i. declare_single (coding_in k) d.spot.at j s (scalar-initial e) t (going (coding_in k) w.next i))) kept_of b2 in (
          subst (λ q. GoesOn k low (d.variable + 1) (d.variable ∷ []) w scope (Some d.spot.at) (λ s. activations.at (here_in k) d.spot s (declare_with k.calls (here_in k) d.spot d.variable q))) (sym init)
              (stored_goes k law d.variable j a is named inside scope low w d.spot le kept_single e works fits b3),
          subst (λ q. KeepsOn k low (d.variable + 1) (d.variable ∷ []) scope (λ s. activations.at (here_in k) d.spot s (declare_with k.calls (here_in k) d.spot d.variable q))) (sym init) (initialised_keeps k scope low d.spot b.here d.variable a is le kept_single e works fits),
        )

    -- and without one.
    pub kept_zero : d.initial ≡ Zero → DeclaratorDoes k d
    kept_zero init scope low w le b =
        let b1 = kept_begins scope w.next b in
        let b2 = subst (λ q. Begins k scope d.spot.at (λ t i. declare_single (coding_in k) d.spot.at j sc q t (going (coding_in k) w.next i))) init b1 in
        let b3 = subst (λ s. Begins k scope d.spot.at (λ t i. declare_single (coding_in k) d.spot.at j s Zero t (going (coding_in k) w.next i))) kept_of b2 in (
          subst (λ q. GoesOn k low (d.variable + 1) (d.variable ∷ []) w scope (Some d.spot.at) (λ s. activations.at (here_in k) d.spot s (declare_with k.calls (here_in k) d.spot d.variable q))) (sym init) (zeroed_goes k law d.variable j a is named inside scope low w d.spot le kept_single b3),
          subst (λ q. KeepsOn k low (d.variable + 1) (d.variable ∷ []) scope (λ s. activations.at (here_in k) d.spot s (declare_with k.calls (here_in k) d.spot d.variable q))) (sym init) (zero_keeps k scope low d.spot b.here d.variable a is le),
        )

-- a size is one in both
pub type_sizes : (base : IntegerType) (stars : ℕ) → type_size (record { base = base; stars = stars }) ≡ size_by_stars base stars
type_sizes Char zero = refl
type_sizes SignedChar zero = refl
type_sizes UnsignedChar zero = refl
type_sizes Short zero = refl
type_sizes UnsignedShort zero = refl
type_sizes Int zero = refl
type_sizes UnsignedInt zero = refl
type_sizes Long zero = refl
type_sizes UnsignedLong zero = refl
type_sizes base (suc stars) = ap (λ b. if b then integer_bytes base else 4) (some_stars stars)
  where
    some_stars : (n : ℕ) → (suc n == 0) ≡ false
    some_stars n = grind (arith, nat_tests)

pub some_words : (n size : ℕ) → 1 ≤ n → 1 ≤ size → nat_le ((n * size + 3) / 4) 0 ≡ false
some_words n size le ge = none ((n * size + 3) / 4) (quarter (n * size) (product n size le ge))
  where
    product : (n m : ℕ) → 1 ≤ n → 1 ≤ m → 1 ≤ n * m
    product n m a b = grind arith

    quarter : (x : ℕ) → 1 ≤ x → 1 ≤ (x + 3) / 4
    quarter x h = omega (arith, h)

    none : (x : ℕ) → 1 ≤ x → nat_le x 0 ≡ false
    none x h = grind (arith, nat_tests, h)

pub some_size : (base : IntegerType) (stars : ℕ) → 1 ≤ size_by_stars base stars
some_size base stars = elim (sizes base stars) [
  | inl e ↦ omega (arith, e)
  | inr more ↦ elim more [
    | inl e ↦ omega (arith, e)
    | inr e ↦ omega (arith, e)
  ]
]

-- An array without an initializer.
pub array_zero : (k : Activity) → Lawful k → (d : DeclaredTree) (a : AutomaticTree) → slice_get k.setting.program.automatics d.variable ≡ Some a → (j : ℕ) (sc : Scalar) (n : ℕ) → scalar_of (names_in k.setting) d.variable ≡ None → object_of (names_in k.setting) d.variable ≡ Some j → a.in_memory ≡ true → a.of ≡ of-object.Array sc n
    → 1 ≤ n → d.initial ≡ Zero → DeclaratorDoes k d
array_zero k law d a is j sc n nowhere named inside array enough init scope low w le b =
    let b1 = subst (λ o. Begins k scope d.spot.at (λ t i. declare_as (coding_in k) o d t (going (coding_in k) w.next i))) nowhere b in
    let b2 = subst (λ o. Begins k scope d.spot.at (λ t i. declare_kept (coding_in k) d.spot.at (or_zero o) (object_type_of k.setting.program d.variable) d.initial t (going (coding_in k) w.next i))) named b1 in
    let typed : object_type_of k.setting.program d.variable ≡ of-object.Array sc n = ap (λ r. option_map_or (λ (q : AutomaticTree). q.of) r (of-object.Array (record { base = Char; stars = 0 }) 0)) is ∙ array in
    let b3 = subst (λ of. Begins k scope d.spot.at (λ t i. declare_kept (coding_in k) d.spot.at j of d.initial t (going (coding_in k) w.next i))) typed b2 in
    let b4 = subst (λ q. Begins k scope d.spot.at (λ t i. declare_array (coding_in k) d.spot.at j sc (type_size sc * n) q t (going (coding_in k) w.next i))) init b3 in
    let bytes : type_size sc * n ≡ n * scalar_size sc = ap (λ x. x * n) (type_sizes sc.base sc.stars) ∙ swapped (scalar_size sc) n in
    let b5 = subst (λ x. Begins k scope d.spot.at (λ t i. cleared j x 0 (going (coding_in k) w.next i))) bytes b4 in
    let b6 = subst (λ c. Begins k scope d.spot.at (λ t i. if c then going (coding_in k) w.next i else instruction_before (unit.Zero j ((n * scalar_size sc + 3) / 4)) (going (coding_in k) w.next i))) (some_words n (scalar_size sc) enough (some_size sc.base sc.stars)) b5 in
    let counts : value_count a.of ≡ n = ap value_count array in
    let elements : element_scalar a.of ≡ sc = ap element_scalar array in
    let b7 = subst (λ x. Begins k scope d.spot.at (λ t i. instruction_before (unit.Zero j ((x * scalar_size sc + 3) / 4)) (going (coding_in k) w.next i))) (sym counts) b6 in
    let b8 = subst (λ s. Begins k scope d.spot.at (λ t i. instruction_before (unit.Zero j ((value_count a.of * scalar_size s + 3) / 4)) (going (coding_in k) w.next i))) (sym elements) b7 in (
      subst (λ q. GoesOn k low (d.variable + 1) (d.variable ∷ []) w scope (Some d.spot.at) (λ s. activations.at (here_in k) d.spot s (declare_with k.calls (here_in k) d.spot d.variable q))) (sym init) (cleared_goes k law d.variable j a is named inside scope low w d.spot le b8),
      subst (λ q. KeepsOn k low (d.variable + 1) (d.variable ∷ []) scope (λ s. activations.at (here_in k) d.spot s (declare_with k.calls (here_in k) d.spot d.variable q))) (sym init) (zero_keeps k scope low d.spot b.here d.variable a is le),
    )
  where
    swapped : (x y : ℕ) → x * y ≡ y * x
    swapped x y = grind arith
