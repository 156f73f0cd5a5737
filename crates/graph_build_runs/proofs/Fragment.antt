-- The induction over expressions, for those of the constructs below: each is a lemma of its own, and the induction only names them.
use Rattle.std.proofs.Common.{◌≡◌, ℕ, ◌+◌, ◌<◌, ◌≤◌, Option, Some, None, Bool, true, false, slice_get, refl, sym, ap, ◌∙◌, subst, arith, ℤ, ◌+ℤ◌, ◌-ℤ◌}
use Rattle.std.specs.Prelude.{if◌then◌else◌, option_map}
use Rattle.word_base.specs.Types.{holds, in_range, converted}
use Rattle.word_base.specs.Operations.{result_of_type}
use Rattle.c_tree.specs.declared.types.IntegerType.{IntegerType}
use Rattle.c_tree.specs.declared.types.IntegerType.TheVariants.{Int}
use Rattle.c_tree.specs.declared.object_type.Scalar.{Scalar}
use Rattle.c_tree.specs.declared.object_type.ObjectType.{ObjectType}
use Rattle.c_tree.specs.declared.object_type.ObjectType.TheVariants as of-object
use Rattle.c_tree.specs.declared.object_type.ValueType.TheVariants.{Integer}
use Rattle.c_tree.specs.declared.object_type.Object.TheVariants as object
use Rattle.c_tree.specs.declared.typed_expression.Arithmetic as declared-arithmetic
use Rattle.c_tree.specs.declared.typed_expression.Arithmetic.TheVariants as arithmetic-is
use Rattle.c_tree.specs.declared.typed_expression.Comparison as declared-comparison
use Rattle.c_tree.specs.TypedExpressions.{RvalueTree, Constant, Null, Load, Arithmetic, Compare, And, Or, Comma, Discard, Assign, Named}
use Rattle.c_tree.specs.Programs.{AutomaticTree, ProgramTree}
use Rattle.c_type_rules.specs.Constants.{calculated}
use Rattle.c_type_rules.specs.Integers.{integer}
use Rattle.c_type_rules.specs.Types.{loaded_type}
use Rattle.c_type_laws.specs.Kind.{Of}
use Rattle.c_type_laws.specs.Kinds.{is_promoted, is_of}
use Rattle.c_type_laws.specs.Expressions.{kind_of}
use Rattle.c_meaning_values.specs.declared.value.Value.{Value}
use Rattle.c_meaning_values.specs.declared.value.Value.TheVariants as source
use Rattle.c_meaning_values.specs.Memory.{Memory}
use Rattle.c_meaning_values.specs.Operations.{arithmetic}
use Rattle.c_meaning_steps.specs.States.{State, Evaluated, value_or_undefined}
use Rattle.c_meaning.specs.Expressions.{Calls, evaluate}
use Rattle.graph_build_layout.specs.declared.laid.Use.{Use}
use Rattle.graph_build_layout.specs.declared.laid.Use.TheVariants.{Anywhere, Nothing, Tested}
use Rattle.graph_build_names.specs.Names.{scalar_of}
use Rattle.graph_build_runs.proofs.Words.{in_range_is}
use Rattle.graph_build_runs.proofs.Leads.{Setting, names_in, size_in, depth_in}
use Rattle.graph_build_runs.proofs.Later.{later_refl}
use Rattle.graph_build_runs.proofs.Kept.{Sound, ScalarsFirst}
use Rattle.graph_build_runs.proofs.Noting.{ScalarsApart}
use Rattle.graph_build_runs.proofs.Typing.{HasKind, Keeps, Typed}
use Rattle.graph_build_runs.proofs.Standing.{Grows}
use Rattle.graph_build_runs.proofs.Operands.{Apart, Does, Low, Spares}
use Rattle.graph_build_runs.proofs.Scalars.{constant_does, null_does, scalar_does, assigned_does}
use Rattle.graph_build_runs.proofs.Arithmetic.{IsRight, Computes, arithmetic_does, add_computes, subtract_computes}
use Rattle.graph_build_runs.proofs.ComparedValues.{compare_does}
use Rattle.graph_build_runs.proofs.Choices.{Tops, and_does, or_does}
use Rattle.graph_build_runs.proofs.Sequences.{comma_does, discard_does}
use Rattle.graph_build_runs.proofs.Sparing.{spares}
use Rattle.graph_build_runs.proofs.Lays.{lays}
use Rattle.graph_build_runs.proofs.Growing.{grows}
use Rattle.graph_build_runs.proofs.Meanings.{constant_typed, null_typed}
use Rattle.graph_build_runs.proofs.Meant.{variable_typed, load_of, assign_of, both_typed, compare_of, comma_of, discard_of, and_of, or_of}
use Rattle.graph_build_runs.proofs.Wrapping.{wrapped_holds}

-- a number that is kept in a type is one of the type
pub kept_holds : (t : IntegerType) (y z : ℤ) → result_of_type (integer t) y ≡ Some z → holds (integer t) z ≡ true
kept_holds t y z h = go (integer t).is_signed h
  where
    go : (b : Bool) → (if b then in_range (integer t) y else Some (converted (integer t) y)) ≡ Some z → holds (integer t) z ≡ true
    go true k = let r = in_range_is (integer t) y z k in ap (holds (integer t)) (sym r.1) ∙ r.0
    go false k = let same : converted (integer t) y ≡ z = cc in ap (holds (integer t)) (sym same) ∙ wrapped_holds t y

-- what an operator gives is of its type
abbrev pub Stays : declared-arithmetic.Arithmetic → IntegerType → Type 0
Stays o t = (a b z : ℤ) → calculated o t a b ≡ Some z → holds (integer t) z ≡ true

pub arithmetic_of : (x : Setting) (calls : Calls) (o : declared-arithmetic.Arithmetic) (t : IntegerType) (a b : RvalueTree) → Stays o t → kind_of x.program x.tree (Arithmetic o t a b) ≡ Of (Integer t) → Typed x calls a → Typed x calls b → Typed x calls (Arithmetic o t a b)
arithmetic_of x calls o t a b stays kind typed_a typed_b s sound =
    subst (λ k. Keeps x.program x.begun s.memory k (evaluate calls (depth_in x) (Arithmetic o t a b) s)) (sym kind)
    (both_typed x calls a b (Of (Integer t)) (λ v w s1. value_or_undefined (arithmetic o t v w) s1) typed_a typed_b (λ v w s1 sound1 ka kb. gives v w s1 sound1) s sound)
  where
    by_number : (p q : ℤ) (s1 : State) → Sound x.program x.begun s1 → (r : Option ℤ) → calculated o t p q ≡ r → Keeps x.program x.begun s1.memory (Of (Integer t)) (value_or_undefined (option_map source.Number r) s1)
    by_number p q s1 sound1 None e = tt
    by_number p q s1 sound1 (Some z) e = record { sound = sound1; later = later_refl s1.memory; is = stays p q z e }

    gives : (v w : Value) (s1 : State) → Sound x.program x.begun s1 → Keeps x.program x.begun s1.memory (Of (Integer t)) (value_or_undefined (arithmetic o t v w) s1)
    gives (source.Number p) (source.Number q) s1 sound1 = by_number p q s1 sound1 (calculated o t p q) refl
    gives (source.Number p) source.Null s1 sound1 = tt
    gives (source.Number p) (source.Pointer n k) s1 sound1 = tt
    gives source.Null w s1 sound1 = tt
    gives (source.Pointer n k) w s1 sound1 = tt

-- Expressions of constants, scalars, `+`, `-`, comparisons, `&&`, `||`, the comma, casts to `void`, and assignments to scalars, well typed.
pub data Covered (x : Setting) : RvalueTree → Type 0 where
  constant : {z : ℤ} {t : IntegerType} → holds (integer t) z ≡ true → Covered x (Constant z t)
  null : Covered x Null
  scalar : {sc : Scalar} {v : ℕ} {of : ObjectType} → (k : ℕ) → scalar_of (names_in x) v ≡ Some k → kind_of x.program x.tree (Load sc (Named (object.Automatic v) of)) ≡ Of (loaded_type sc) → of ≡ of-object.Scalar sc
      → ((a : AutomaticTree) → slice_get x.program.automatics v ≡ Some a → a.of ≡ of) → Covered x (Load sc (Named (object.Automatic v) of))
  sum : {t : IntegerType} {a b : RvalueTree} → is_promoted t ≡ true → kind_of x.program x.tree (Arithmetic arithmetic-is.Add t a b) ≡ Of (Integer t) → kind_of x.program x.tree a ≡ Of (Integer t) → kind_of x.program x.tree b ≡ Of (Integer t)
      → Covered x a → Covered x b → Covered x (Arithmetic arithmetic-is.Add t a b)
  difference : {t : IntegerType} {a b : RvalueTree} → is_promoted t ≡ true → kind_of x.program x.tree (Arithmetic arithmetic-is.Subtract t a b) ≡ Of (Integer t) → kind_of x.program x.tree a ≡ Of (Integer t) → kind_of x.program x.tree b ≡ Of (Integer t)
      → Covered x a → Covered x b → Covered x (Arithmetic arithmetic-is.Subtract t a b)
  compared : {o : declared-comparison.Comparison} {t : IntegerType} {a b : RvalueTree} → is_promoted t ≡ true → kind_of x.program x.tree (Compare o t a b) ≡ Of (Integer Int) → kind_of x.program x.tree a ≡ Of (Integer t) → kind_of x.program x.tree b ≡ Of (Integer t)
      → Covered x a → Covered x b → Covered x (Compare o t a b)
  conjunction : {a b : RvalueTree} → kind_of x.program x.tree (And a b) ≡ Of (Integer Int) → Covered x a → Covered x b → Covered x (And a b)
  disjunction : {a b : RvalueTree} → kind_of x.program x.tree (Or a b) ≡ Of (Integer Int) → Covered x a → Covered x b → Covered x (Or a b)
  sequence : {a b : RvalueTree} → kind_of x.program x.tree (Comma a b) ≡ kind_of x.program x.tree b → Covered x a → Covered x b → Covered x (Comma a b)
  discarded : {e : RvalueTree} → Covered x e → Covered x (Discard e)
  assigned : {sc : Scalar} {v : ℕ} {of : ObjectType} {e : RvalueTree} → (k : ℕ) → scalar_of (names_in x) v ≡ Some k → kind_of x.program x.tree (Assign sc (Named (object.Automatic v) of) e) ≡ Of (loaded_type sc) → of ≡ of-object.Scalar sc
      → ((a : AutomaticTree) → slice_get x.program.automatics v ≡ Some a → a.of ≡ of) → is_of (kind_of x.program x.tree e) (loaded_type sc) ≡ true → Apart x k e → Covered x e → Covered x (Assign sc (Named (object.Automatic v) of) e)

module _ (x : Setting) (calls : Calls) (low : ScalarsFirst x) (apart : ScalarsApart x) where
  low_of : (e : RvalueTree) → Low x e
  low_of e t le = let h = lays (names_in x) (size_in x) low e Anywhere t le in record { next = h.next; below = h.below }

  tops_of : (u : Use) (e : RvalueTree) → Tops x u e
  tops_of u e t le = (lays (names_in x) (size_in x) low e u t le).top

  spares_of : (e : RvalueTree) → Spares x e
  spares_of e y le = spares (names_in x) (size_in x) low y le e

  grows_of : (e : RvalueTree) → Grows (names_in x) x.place x.top x.graph e
  grows_of e t goal h = grows (names_in x) x.place x.top x.graph e t goal h

  -- a right operand of the operator's type
  right_of : (o : declared-arithmetic.Arithmetic) (t : IntegerType) (b : RvalueTree) → kind_of x.program x.tree b ≡ Of (Integer t) → ((z : ℤ) → holds (integer t) z ≡ true → IsRight o t z) → (memory : Memory) (z : ℤ) → HasKind memory (kind_of x.program x.tree b) (source.Number z) → IsRight o t z
  right_of o t b kind fits memory z is = fits z (subst (λ k. HasKind memory k (source.Number z)) kind is)

  -- They come to values of their types.
  pub covered_typed : {e : RvalueTree} → Covered x e → Typed x calls e
  covered_typed (constant {z = z} {t = t} fits) = constant_typed x calls z t fits
  covered_typed null = null_typed x calls
  covered_typed (scalar {sc = sc} {v = v} {of = of} k is kind one fits) = load_of x calls sc (Named (object.Automatic v) of) kind one (variable_typed x calls v of fits)
  covered_typed (sum {t = t} {a = a} {b = b} promoted kind ka kb ca cb) = arithmetic_of x calls arithmetic-is.Add t a b (λ p q z h. kept_holds t (p +ℤ q) z h) kind (covered_typed ca) (covered_typed cb)
  covered_typed (difference {t = t} {a = a} {b = b} promoted kind ka kb ca cb) = arithmetic_of x calls arithmetic-is.Subtract t a b (λ p q z h. kept_holds t (p -ℤ q) z h) kind (covered_typed ca) (covered_typed cb)
  covered_typed (compared {o = o} {t = t} {a = a} {b = b} promoted kind ka kb ca cb) = compare_of x calls o t a b kind (covered_typed ca) (covered_typed cb)
  covered_typed (conjunction {a = a} {b = b} kind ca cb) = and_of x calls a b kind (covered_typed ca) (covered_typed cb)
  covered_typed (disjunction {a = a} {b = b} kind ca cb) = or_of x calls a b kind (covered_typed ca) (covered_typed cb)
  covered_typed (sequence {a = a} {b = b} kind ca cb) = comma_of x calls a b kind (covered_typed ca) (covered_typed cb)
  covered_typed (discarded {e = e} c) = discard_of x calls e (covered_typed c)
  covered_typed (assigned {sc = sc} {v = v} {of = of} {e = e} k is kind one fits of_e free c) = assign_of x calls sc (Named (object.Automatic v) of) e kind one of_e (variable_typed x calls v of fits) (covered_typed c)

  -- Their code does what they mean.
  pub covered_does : {e : RvalueTree} → Covered x e → Does x calls e
  covered_does (constant {z = z} {t = t} fits) = constant_does x calls z t fits
  covered_does null = null_does x calls
  covered_does (scalar {sc = sc} {v = v} {of = of} k is kind one fits) = scalar_does x calls sc v of k is
  covered_does (sum {t = t} {a = a} {b = b} promoted kind ka kb ca cb) =
      arithmetic_does x calls low arithmetic-is.Add t a b (add_computes t promoted) ka (right_of arithmetic-is.Add t b kb (λ z h. h)) (covered_typed ca) (covered_typed cb) (low_of a) (low_of b) (spares_of b) (grows_of a) (covered_does ca) (covered_does cb)
  covered_does (difference {t = t} {a = a} {b = b} promoted kind ka kb ca cb) =
      arithmetic_does x calls low arithmetic-is.Subtract t a b (subtract_computes t promoted) ka (right_of arithmetic-is.Subtract t b kb (λ z h. h)) (covered_typed ca) (covered_typed cb) (low_of a) (low_of b) (spares_of b) (grows_of a) (covered_does ca) (covered_does cb)
  covered_does (compared {o = o} {t = t} {a = a} {b = b} promoted kind ka kb ca cb) =
      compare_does x calls low o t promoted a b ka kb (covered_typed ca) (covered_typed cb) (low_of a) (low_of b) (spares_of b) (grows_of a) (covered_does ca) (covered_does cb)
  covered_does (conjunction {a = a} {b = b} kind ca cb) = and_does x calls low a b (covered_typed ca) (tops_of Tested a) (grows_of a) (grows_of b) (covered_does ca) (covered_does cb)
  covered_does (disjunction {a = a} {b = b} kind ca cb) = or_does x calls low a b (covered_typed ca) (tops_of Tested a) (grows_of a) (grows_of b) (covered_does ca) (covered_does cb)
  covered_does (sequence {a = a} {b = b} kind ca cb) = comma_does x calls a b (covered_typed ca) (tops_of Nothing a) (grows_of a) (covered_does ca) (covered_does cb)
  covered_does (discarded {e = e} c) = discard_does x calls e (covered_typed c) (covered_does c)
  covered_does (assigned {sc = sc} {v = v} {of = of} {e = e} k is kind one fits of_e free c) = assigned_does x calls apart sc v of k is e low (covered_typed c) free (covered_does c)
