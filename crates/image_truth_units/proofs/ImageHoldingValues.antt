-- The words that the machine holds of a unit's values are those of the program's values.
use Rattle.std.proofs.Common.{◌≡◌, ℕ, zero, suc, true, false, Some, List, [], ◌∷◌, slice_get, refl, sym, ap, ◌∙◌, subst, arith}
use Rattle.std.specs.Prelude.{◌==◌, if◌then◌else◌}
use Rattle.std.proofs.lemmas.Bool.Decides.{nat_tests}
use Rattle.std.proofs.lemmas.Option.{none-some, same_Some}
use Rattle.c_tree.specs.declared.types.IntegerType as named
use Rattle.c_tree.specs.declared.types.IntegerType.TheVariants.{Char, SignedChar, UnsignedChar, Short, UnsignedShort, Int, UnsignedInt, Long, UnsignedLong}
use Rattle.c_tree.specs.declared.object_type.Scalar.{Scalar}
use Rattle.c_tree.specs.declared.object_type.ValueType.TheVariants as value-type
use Rattle.c_tree.specs.declared.object_type.ObjectType.TheVariants as of-object
use Rattle.c_tree.specs.Programs.{ProgramTree}
use Rattle.c_type_rules.specs.Types.{loaded_type, pointed_to}
use Rattle.c_meaning_values.specs.declared.value.Value as source-value
use Rattle.c_meaning_values.specs.declared.value.Value.TheVariants as source
use Rattle.c_meaning_values.specs.Types.{scalar_size, size_by_stars}
use Rattle.c_meaning_values.specs.Memory as source-memory
use Rattle.c_meaning_values.specs.Memory.{is_over}
use Rattle.graph_core.specs.declared.value.Value as unit-value
use Rattle.graph_core.specs.declared.value.Value.TheVariants as unit
use Rattle.graph_core.specs.Memory as unit-memory
use Rattle.graph_core.specs.Values.{size_of}
use Rattle.graph_build_steps.specs.Rules as rule
use Rattle.rv_emit_steps.specs.Meaning.{Means, HoldsBits}
use Rattle.graph_build_runs.specs.Typed.{IsOf}
use Rattle.graph_build_runs.specs.Correspondence.{SameObject, SamePointer, points, ended, SameValue, SameValues}
use Rattle.image_form.specs.Form.{Form}
use Rattle.image_truth_units.specs.Standing.{Standing, IsArea, LeadsInto, IsWordOf, AreBitsOf, IsOfType}

-- ---- Types

-- a value of the type that an object's elements have
pub typed : (memory : source-memory.Memory) (e : Scalar) (v : source-value.Value) → IsOf memory (loaded_type e) v → IsOfType e.base e.stars v
typed memory e v of = by_stars e.stars refl
  where
    by_value : (stars : ℕ) (v : source-value.Value) → IsOf memory (if stars == 0 then value-type.Integer e.base else value-type.Pointer (of-object.Scalar (pointed_to e))) v → IsOfType e.base stars v
    by_value zero (source.Number z) of = of
    by_value zero source.Null of = of
    by_value zero (source.Pointer n offset) of = of
    by_value (suc stars) v of = pointer v (subst (λ b. IsOf memory (if b then value-type.Integer e.base else value-type.Pointer (of-object.Scalar (pointed_to e))) v) (some stars) of)
      where
        some : (k : ℕ) → (suc k == 0) ≡ false
        some k = grind (arith, nat_tests)

        pointer : (v : source-value.Value) → IsOf memory (value-type.Pointer (of-object.Scalar (pointed_to e))) v → IsOfType e.base (suc stars) v
        pointer (source.Number z) of = of
        pointer source.Null of = tt
        pointer (source.Pointer n offset) of = tt

    by_stars : (stars : ℕ) → e.stars ≡ stars → IsOfType e.base e.stars v
    by_stars stars same = by_value e.stars v of

-- a unit's element has the size of the scalar type that it is of
pub element_size : (e : Scalar) → size_of (rule.element_of e) ≡ scalar_size e
element_size e = by_type e.base e.stars
  where
    some : (k : ℕ) → (suc k == 0) ≡ false
    some k = grind (arith, nat_tests)

    by_type : (base : named.IntegerType) (stars : ℕ) → size_of (rule.element_of (record { base = base; stars = stars })) ≡ size_by_stars base stars
    by_type Char zero = refl
    by_type SignedChar zero = refl
    by_type UnsignedChar zero = refl
    by_type Short zero = refl
    by_type UnsignedShort zero = refl
    by_type Int zero = refl
    by_type UnsignedInt zero = refl
    by_type Long zero = refl
    by_type UnsignedLong zero = refl
    by_type Char (suc k) = rw (some k) refl
    by_type SignedChar (suc k) = rw (some k) refl
    by_type UnsignedChar (suc k) = rw (some k) refl
    by_type Short (suc k) = rw (some k) refl
    by_type UnsignedShort (suc k) = rw (some k) refl
    by_type Int (suc k) = rw (some k) refl
    by_type UnsignedInt (suc k) = rw (some k) refl
    by_type Long (suc k) = rw (some k) refl
    by_type UnsignedLong (suc k) = rw (some k) refl

-- ---- Words

module _ (p : ProgramTree) (m : Form) (stack : List Standing) (memory : source-memory.Memory) (others : unit-memory.Memory) (addresses : ℕ → ℕ)
    (areas : (n k : ℕ) (o : source-memory.Object) (q : unit-memory.Object) → slice_get memory k ≡ Some o → slice_get others n ≡ Some q → SameObject p o q → IsArea p m stack o.owner (addresses n) (unit-memory.bytes_of q)) where
  -- the word of a pointer leads to where it points
  pointer_leads : (n offset : ℕ) (w : unit-value.Value) (word : ℕ) → SamePointer p memory others n offset w → Means addresses others w word → (o : source-memory.Object) → slice_get memory n ≡ Some o → is_over o.phase ≡ false → LeadsInto p m stack o.owner offset word
  pointer_leads n offset w word (points o is alive inside k q there same le w_is) means x at over =
      let object : o ≡ x = same_Some o x (sym is ∙ at) in
      let leads = subst (λ v. Means addresses others v word) w_is means in
      subst (λ y. LeadsInto p m stack y.owner offset word) object (record { start = addresses k; bytes = unit-memory.bytes_of q; area = areas k n o q is there same; within = le; leads = leads.2 })
  pointer_leads n offset w word (ended o is over_is known) means x at over =
      let object : o ≡ x = same_Some o x (sym is ∙ at) in
      let done : is_over x.phase ≡ true = ap (λ (y : source-memory.Object). is_over y.phase) (sym object) ∙ ap is_over over_is in
      absurd cc

  -- A word that means the unit's value is one of the program's.
  pub value_means : (v : source-value.Value) (w : unit-value.Value) (word : ℕ) → SameValue p memory others v w → Means addresses others w word → IsWordOf p m stack memory v word
  value_means (source.Number z) w word same means = subst (λ x. Means addresses others x word) same means
  value_means source.Null w word same means = subst (λ x. Means addresses others x word) same means
  value_means (source.Pointer n offset) w word same means = pointer_leads n offset w word same means

  -- a pointer's bits are a whole word
  pointer_bits : (n offset : ℕ) (w : unit-value.Value) (bits : ℕ) → SamePointer p memory others n offset w → HoldsBits addresses others 4 w bits → (o : source-memory.Object) → slice_get memory n ≡ Some o → is_over o.phase ≡ false → LeadsInto p m stack o.owner offset bits
  pointer_bits n offset w bits same holds = pointer_leads n offset w bits same (by_value w holds)
    where
      by_value : (w : unit-value.Value) → HoldsBits addresses others 4 w bits → Means addresses others w bits
      by_value (unit.Number k) holds = holds
      by_value (unit.Pointer k size at) holds = holds
      by_value unit.Odd holds = holds

  -- The bits that hold the unit's value are those of the program's.
  pub bits_mean : (base : named.IntegerType) (stars : ℕ) (v : source-value.Value) (w : unit-value.Value) (bits : ℕ) → IsOfType base stars v → SameValue p memory others v w → HoldsBits addresses others (size_by_stars base stars) w bits → AreBitsOf p m stack memory v (size_by_stars base stars) bits
  bits_mean base zero (source.Number z) w bits of same holds = record { word = _; means = refl; kept = subst (λ x. HoldsBits addresses others (size_by_stars base zero) x bits) same holds }
  bits_mean base zero source.Null w bits of same holds = absurd of
  bits_mean base zero (source.Pointer n offset) w bits of same holds = absurd of
  bits_mean base (suc stars) (source.Number z) w bits of same holds = absurd of
  bits_mean base (suc stars) source.Null w bits of same holds = record { word = bits; means = subst (λ x. HoldsBits addresses others 4 x bits) same holds; kept = refl }
  bits_mean base (suc stars) (source.Pointer n offset) w bits of same holds = record { word = bits; means = pointer_bits n offset w bits same holds; kept = refl }

-- ---- Lists of values

-- a value by its index, and the unit's
pub value_at : (p : ProgramTree) (memory : source-memory.Memory) (others : unit-memory.Memory) (vs : List source-value.Value) (ws : List unit-value.Value) (i : ℕ) (v : source-value.Value) → SameValues p memory others vs ws → slice_get vs i ≡ Some v
    → (w : unit-value.Value) × (slice_get ws i ≡ Some w) × SameValue p memory others v w
value_at p memory others [] ws i v same is = absurd (none-some v is)
value_at p memory others (x ∷ vs) [] i v same is = absurd same
value_at p memory others (x ∷ vs) (w ∷ ws) zero v same is = (w, refl, subst (λ y. SameValue p memory others y w) (same_Some x v is) same.0)
value_at p memory others (x ∷ vs) (w ∷ ws) (suc i) v same is = value_at p memory others vs ws i v same.1 is
