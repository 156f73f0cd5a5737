-- A well-typed declarator whose blocks stand does what it means, whatever its initial value is.
use Rattle.std.proofs.Common.{◌≡◌, ℕ, ◌+◌, ◌<◌, ◌≤◌, inl, inr, List, [], ◌∷◌, length, Option, Some, None, true, false, slice_get, refl, sym, ◌∙◌, subst, arith}
use Rattle.std.specs.Prelude.{◌==◌, nat_le, nat_lt}
use Rattle.std.proofs.lemmas.Bool.{leb-true, eqb-true}
use Rattle.std.proofs.lemmas.Bool.Decides.{nat_tests}
use Rattle.c_tree.specs.declared.types.IntegerType.{IntegerType}
use Rattle.c_tree.specs.declared.object_type.Scalar.{Scalar}
use Rattle.c_tree.specs.declared.object_type.ObjectType.{ObjectType}
use Rattle.c_tree.specs.declared.object_type.ObjectType.TheVariants as of-object
use Rattle.c_tree.specs.declared.object_type.ValueType.TheVariants.{Integer}
use Rattle.c_tree.specs.TypedExpressions.{RvalueTree, Convert}
use Rattle.c_tree.specs.TypedStatements.{InitialTree, Zero, Scalar as scalar-initial, Elements, Literal, DeclaredTree}
use Rattle.c_tree.specs.Programs.{AutomaticTree, LiteralTree}
use Rattle.c_type_rules.specs.Integers.{scalar_size as type_size}
use Rattle.c_type_rules.specs.Types.{loaded_type}
use Rattle.c_type_laws.specs.Kind.{Kind}
use Rattle.c_type_laws.specs.Kinds.{is_of, is_typed, is_integer}
use Rattle.c_type_laws.specs.Expressions.{kind_of}
use Rattle.c_type_laws.specs.Statements.{same_spot, literal_fits, are_elements, initialises, declares_as, is_declared}
use Rattle.c_meaning_values.specs.Memory.{Memory as SourceMemory}
use Rattle.c_meaning_values.specs.Types.{element_scalar}
use Rattle.graph_build_names.specs.Names.{scalar_of, object_of}
use Rattle.graph_build_statements.specs.Reached.{bare}
use Rattle.graph_build_runs.proofs.Leads.{names_in}
use Rattle.graph_build_runs.proofs.Homes.{object_inside}
use Rattle.graph_build_runs.proofs.Moving.{AreSmall}
use Rattle.graph_build_runs.proofs.Shapes.{typed_of, two_true, three_true, any_integer}
use Rattle.graph_build_runs.proofs.Apartness.{assigned_apart}
use Rattle.graph_build_runs.proofs.Coding.{LaidOut}
use Rattle.graph_build_runs.proofs.Activities.{Activity, place_at, placed}
use Rattle.graph_build_runs.proofs.Stops.{Lawful}
use Rattle.graph_build_runs.proofs.AtPlaces.{Works}
use Rattle.graph_build_runs.proofs.Forming.{LaidAt, DeclaratorDoes, works_of}
use Rattle.graph_build_runs.proofs.Calls.{CallsGood}
use Rattle.graph_build_runs.proofs.OwnObjects.{object_if_no_scalar}
use Rattle.graph_build_runs.proofs.Declarators.{named_initialised, named_zero, kept_initialised, kept_zero, array_zero, type_sizes}
use Rattle.graph_build_runs.proofs.ArrayElements.{bare_cases, converted_fits, ElementsWork}
use Rattle.graph_build_runs.proofs.ArrayDeclarators.{array_elements, array_literal}

-- no pointers are subtracted in what initialises
abbrev pub LaidAll : Activity → List RvalueTree → Type 0
LaidAll k [] = Unit {0}
LaidAll k (e ∷ more) = LaidAt k e × LaidAll k more

abbrev pub LaidInitial : Activity → InitialTree → Type 0
LaidInitial k Zero = Unit {0}
LaidInitial k (scalar-initial e) = LaidAt k e
LaidInitial k (Elements all) = LaidAll k all
LaidInitial k (Literal m) = Unit {0}

-- What is asked of a declarator beside its types: an array has elements and is in memory, and of a literal the unit has the bytes.
pub record DeclaratorStands (k : Activity) (d : DeclaredTree) : Type 0 where
  pub laid : LaidInitial k d.initial
  pub arrays : (a : AutomaticTree) (sc : Scalar) (n : ℕ) → slice_get k.setting.program.automatics d.variable ≡ Some a → a.of ≡ of-object.Array sc n → (a.in_memory ≡ true) × (1 ≤ n)
  pub copied : (m : ℕ) (l : LiteralTree) → d.initial ≡ Literal m → slice_get k.setting.program.array_literals m ≡ Some l → slice_get k.setting.unit.array_bytes m ≡ Some l.bytes

module _ (k : Activity) (law : Lawful k) (out : (place : ℕ) (began : SourceMemory) → LaidOut (placed k place began)) (small : AreSmall k.setting.program) (good : CallsGood k) where
  abbrev kind : RvalueTree → Kind
  kind e = kind_of k.setting.program k.setting.tree e

  -- an element works without its conversion
  bare_works : (place : ℕ) (sc : Scalar) (e : RvalueTree) → is_of (kind e) (loaded_type sc) ≡ true → LaidAt k e → Works k place (bare e)
  bare_works place sc e fits laid = elim (bare_cases e) [
    | inl found ↦ subst (λ q. Works k place (bare q)) (sym found.2) (stripped found.0 found.1 (subst (λ q. is_of (kind q) (loaded_type sc) ≡ true) found.2 fits) (subst (LaidAt k) found.2 laid))
    | inr same ↦ subst (Works k place) (sym same) (works_of k law out small good place e (typed_of (kind e) (loaded_type sc) fits) laid)
  ]
    where
      stripped : (t : IntegerType) (b : RvalueTree) → is_of (kind (Convert t b)) (loaded_type sc) ≡ true → LaidAt k (Convert t b) → Works k place b
      stripped t b fits laid =
          let whole = converted_fits (is_integer (kind b)) (Integer t) (loaded_type sc) fits in
          let c = any_integer (kind b) whole.0 in
          works_of k law out small good place b (subst (λ z. is_typed z ≡ true) (sym c.1) refl) laid

  elements_work : (place : ℕ) (sc : Scalar) (all : List RvalueTree) → are_elements k.setting.program k.setting.tree sc all ≡ true → LaidAll k all → ElementsWork k place sc all
  elements_work place sc [] h laid = tt
  elements_work place sc (e ∷ more) h laid = let c = two_true (is_of (kind e) (loaded_type sc)) (are_elements k.setting.program k.setting.tree sc more) h in (bare_works place sc e c.0 laid.0, c.0, elements_work place sc more c.1 laid.1)

  -- a declarator of a variable
  module _ (d : DeclaredTree) (stands : DeclaratorStands k d) (a : AutomaticTree) (is : slice_get k.setting.program.automatics d.variable ≡ Some a) where
    abbrev place : ℕ
    place = place_at k d.spot.at

    abbrev Initialises : ObjectType → InitialTree → Type 0
    Initialises of i = initialises k.setting.program k.setting.tree of i ≡ true

    fits_in : (of : ObjectType) (e : RvalueTree) → a.of ≡ of → is_of (kind e) (loaded_type (element_scalar of)) ≡ true → is_of (kind e) (loaded_type (element_scalar a.of)) ≡ true
    fits_in of e one h = subst (λ s. is_of (kind e) (loaded_type (element_scalar s)) ≡ true) (sym one) h

    laid_in : (i : InitialTree) → d.initial ≡ i → LaidInitial k i
    laid_in i e = subst (LaidInitial k) e stands.laid

    -- that is kept in a name
    by_name : (j : ℕ) → scalar_of (names_in k.setting) d.variable ≡ Some j → (of : ObjectType) → a.of ≡ of → (i : InitialTree) → d.initial ≡ i → Initialises of i → DeclaratorDoes k d
    by_name j named (of-object.Scalar sc) one Zero init h = named_zero k law d a is j named init
    by_name j named (of-object.Scalar sc) one (scalar-initial e) init h =
        named_initialised k law d a is j e named init (works_of k law out small good place e (typed_of (kind e) (loaded_type sc) h) (laid_in (scalar-initial e) init)) (fits_in (of-object.Scalar sc) e one h)
        (λ began. assigned_apart (placed k place began) law.low (record { one = law.apart.one; outside = law.apart.outside; single = law.apart.single }) d.variable j named a is sc one e h)
    by_name j named (of-object.Scalar sc) one (Elements all) init h = cc
    by_name j named (of-object.Scalar sc) one (Literal m) init h = cc
    by_name j named (of-object.Array sc n) one i init h = let out_of = law.apart.outside d.variable j a named is in let in_it = (stands.arrays a sc n is one).0 in both_ways (sym out_of ∙ in_it)
      where
        both_ways : {A : Type 0} → false ≡ true → A
        both_ways h = cc

    -- that is in memory
    by_object : (j : ℕ) → scalar_of (names_in k.setting) d.variable ≡ None → object_of (names_in k.setting) d.variable ≡ Some j → a.in_memory ≡ true → (of : ObjectType) → a.of ≡ of → (i : InitialTree) → d.initial ≡ i → Initialises of i → DeclaratorDoes k d
    by_object j nowhere named inside (of-object.Scalar sc) one Zero init h = kept_zero k law d a is j sc nowhere named inside one init
    by_object j nowhere named inside (of-object.Scalar sc) one (scalar-initial e) init h =
        kept_initialised k law d a is j sc nowhere named inside one e init (works_of k law out small good place e (typed_of (kind e) (loaded_type sc) h) (laid_in (scalar-initial e) init)) (fits_in (of-object.Scalar sc) e one h)
    by_object j nowhere named inside (of-object.Scalar sc) one (Elements all) init h = cc
    by_object j nowhere named inside (of-object.Scalar sc) one (Literal m) init h = cc
    by_object j nowhere named inside (of-object.Array sc n) one Zero init h = array_zero k law d a is j sc n nowhere named inside one (stands.arrays a sc n is one).1 init
    by_object j nowhere named inside (of-object.Array sc n) one (scalar-initial e) init h = cc
    by_object j nowhere named inside (of-object.Array sc n) one (Elements all) init h =
        let c = two_true (nat_le (length all) n) (are_elements k.setting.program k.setting.tree sc all) h in
        array_elements k law d a is j sc n nowhere named inside one all init (stands.arrays a sc n is one).1 (leb-true (length all) n c.0) (elements_work place sc all c.1 (laid_in (Elements all) init))
    by_object j nowhere named inside (of-object.Array sc n) one (Literal m) init h = by (slice_get k.setting.program.array_literals m) refl h
      where
        by : (o : Option LiteralTree) → slice_get k.setting.program.array_literals m ≡ o → literal_fits o sc n ≡ true → DeclaratorDoes k d
        by None e h = cc
        by (Some l) e h =
            let c = two_true (type_size sc == 1) (nat_le (length l.bytes) (n + 1)) h in
            array_literal k law d a is j sc n nowhere named inside one m l init e (stands.copied m l init e) (sym (type_sizes sc.base sc.stars) ∙ eqb-true (type_size sc) 1 c.0)

    by_home : (o : Option ℕ) → scalar_of (names_in k.setting) d.variable ≡ o → k.setting.tree.first_variable ≤ d.variable → d.variable < k.setting.tree.first_variable + k.setting.tree.variables → Initialises a.of d.initial → DeclaratorDoes k d
    by_home (Some j) named le lt h = by_name j named a.of refl d.initial refl h
    by_home None nowhere le lt h =
        let home = object_if_no_scalar k.setting.program k.setting.tree k.setting.again d.variable a le lt is nowhere in
        by_object home.0 nowhere home.1 (object_inside k.setting.program k.setting.tree k.setting.again d.variable home.0 a home.1 is) a.of refl d.initial refl h

  -- A well-typed declarator does what it means.
  pub declarator_does : (d : DeclaredTree) → is_declared k.setting.program k.setting.tree d ≡ true → DeclaratorStands k d → (k.setting.tree.first_variable + k.setting.tree.parameters ≤ d.variable) × DeclaratorDoes k d
  declarator_does d typed stands =
      let c = three_true (nat_le (k.setting.tree.first_variable + k.setting.tree.parameters) d.variable) (nat_lt d.variable (k.setting.tree.first_variable + k.setting.tree.variables)) (declares_as k.setting.program k.setting.tree d (slice_get k.setting.program.automatics d.variable)) typed in
      let le = leb-true (k.setting.tree.first_variable + k.setting.tree.parameters) d.variable c.0 in (le, by (slice_get k.setting.program.automatics d.variable) refl (omega (arith, le)) (below d.variable (k.setting.tree.first_variable + k.setting.tree.variables) c.1) c.2)
    where
      below : (m n : ℕ) → nat_lt m n ≡ true → m < n
      below m n h = grind (arith, nat_tests, h)

      by : (o : Option AutomaticTree) → slice_get k.setting.program.automatics d.variable ≡ o → k.setting.tree.first_variable ≤ d.variable → d.variable < k.setting.tree.first_variable + k.setting.tree.variables → declares_as k.setting.program k.setting.tree d o ≡ true → DeclaratorDoes k d
      by None e le lt h = cc
      by (Some a) e le lt h = by_home d stands a e (scalar_of (names_in k.setting) d.variable) refl le lt (two_true (same_spot d.spot a.spot) (initialises k.setting.program k.setting.tree a.of d.initial) h).1
