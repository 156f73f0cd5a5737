-- Computations and their keys.
use Rattle.std.proofs.Common.{◌≡◌, ℕ, ◌-◌, true, false, ◌&&◌, [], ◌∷◌, get_or, Option, Some, None, refl, sym, ap, ◌∙◌}
use Rattle.std.specs.Prelude.{◌==◌, if◌then◌else◌, nat_lt}
use Rattle.std.proofs.lemmas.Bool.{true≢false, eq-eqb, eqb-true, and_parts}
use Rattle.word_base.specs.declared.operation.Operation.{Operation}
use Rattle.word_base.specs.declared.operation.Operation.TheVariants.{Add, Sub, Mul, Div, Divu, Rem, Remu, Sll, Srl, Sra, And, Or, Xor, Slt, Sltu}
use Rattle.word_base.specs.declared.operation.Truncation.{Truncation}
use Rattle.word_base.specs.declared.operation.Truncation.TheVariants.{Unsigned8, Signed16, Unsigned16, Signed8}
use Rattle.graph_core.specs.Graphs.{Operand, Name, Constant, StaticAddress, Instruction}
use Rattle.graph_core.specs.Computations.{Computation, Operating, Truncating, Comparing, computed_by}
use Rattle.motion_pass_points.specs.Computing.{operation_number, truncation_number, operand_key, key_of, same_three, same_key, is_same, is_some_same, does}
use Rattle.base_laws.proofs.Booleans.{and_all as both_true}

abbrev Key : Type 0
Key = ℕ × ((ℕ × (ℕ × ℕ)) × (ℕ × (ℕ × ℕ)))

abbrev operation_at : ℕ → Operation
operation_at n = get_or (Add ∷ Sub ∷ Mul ∷ Div ∷ Divu ∷ Rem ∷ Remu ∷ Sll ∷ Srl ∷ Sra ∷ And ∷ Or ∷ Xor ∷ Slt ∷ Sltu ∷ []) n Add

abbrev truncation_at : ℕ → Truncation
truncation_at n = get_or (Unsigned8 ∷ Signed16 ∷ Unsigned16 ∷ Signed8 ∷ []) n Unsigned8

abbrev operand_at : ℕ × (ℕ × ℕ) → Operand
operand_at k = if k.0 == 0 then Name k.1.0 else (if k.0 == 1 then Constant k.1.0 else StaticAddress k.1.0 k.1.1)

operand_back : (a : Operand) → operand_at (operand_key a) ≡ a
operand_back (Name x) = refl
operand_back (Constant word) = refl
operand_back (StaticAddress object offset) = refl

abbrev computation_at : Key → Computation
computation_at k =
    if nat_lt k.0 15 then Operating (operation_at k.0) (operand_at k.1.0) (operand_at k.1.1)
    else (if nat_lt k.0 19 then Truncating (truncation_at (k.0 - 15)) (operand_at k.1.0) else Comparing (operand_at k.1.0) (operand_at k.1.1))

operated_back : (o : Operation) (a b : Operand) → computation_at (operation_number o, (operand_key a, operand_key b)) ≡ Operating o (operand_at (operand_key a)) (operand_at (operand_key b))
operated_back Add a b = refl
operated_back Sub a b = refl
operated_back Mul a b = refl
operated_back Div a b = refl
operated_back Divu a b = refl
operated_back Rem a b = refl
operated_back Remu a b = refl
operated_back Sll a b = refl
operated_back Srl a b = refl
operated_back Sra a b = refl
operated_back And a b = refl
operated_back Or a b = refl
operated_back Xor a b = refl
operated_back Slt a b = refl
operated_back Sltu a b = refl

truncated_back : (t : Truncation) (a : Operand) → computation_at (truncation_number t, (operand_key a, operand_key a)) ≡ Truncating t (operand_at (operand_key a))
truncated_back Unsigned8 a = refl
truncated_back Signed16 a = refl
truncated_back Unsigned16 a = refl
truncated_back Signed8 a = refl

computation_back : (e : Computation) → computation_at (key_of e) ≡ e
computation_back (Operating o a b) = operated_back o a b ∙ (λ i. Operating o (operand_back a i) (operand_back b i))
computation_back (Truncating t a) = truncated_back t a ∙ (λ i. Truncating t (operand_back a i))
computation_back (Comparing a b) = λ i. Comparing (operand_back a i) (operand_back b i)

-- computations with one key are one
pub one_key : (d e : Computation) → key_of d ≡ key_of e → d ≡ e
one_key d e q = sym (computation_back d) ∙ ap computation_at q ∙ computation_back e

three_self : (k : ℕ × (ℕ × ℕ)) → same_three k k ≡ true
three_self k = both_true _ _ (eq-eqb k.0 k.0 refl) (both_true _ _ (eq-eqb k.1.0 k.1.0 refl) (eq-eqb k.1.1 k.1.1 refl))

pub key_self : (k : Key) → same_key k k ≡ true
key_self k = both_true _ _ (eq-eqb k.0 k.0 refl) (both_true _ _ (three_self k.1.0) (three_self k.1.1))

three_alike : (k q : ℕ × (ℕ × ℕ)) → same_three k q ≡ true → k ≡ q
three_alike k q e =
    let outer = and_parts (k.0 == q.0) ((k.1.0 == q.1.0) && (k.1.1 == q.1.1)) e in
    let inner = and_parts (k.1.0 == q.1.0) (k.1.1 == q.1.1) outer.1 in
    let a : k.0 ≡ q.0 = eqb-true k.0 q.0 outer.0 in
    let b : k.1.0 ≡ q.1.0 = eqb-true k.1.0 q.1.0 inner.0 in
    let c : k.1.1 ≡ q.1.1 = eqb-true k.1.1 q.1.1 inner.1 in
    (λ i. (a i, (b i, c i)))

pub key_alike : (k q : Key) → same_key k q ≡ true → k ≡ q
key_alike k q e =
    let outer = and_parts (k.0 == q.0) (same_three k.1.0 q.1.0 && same_three k.1.1 q.1.1) e in
    let inner = and_parts (same_three k.1.0 q.1.0) (same_three k.1.1 q.1.1) outer.1 in
    let a : k.0 ≡ q.0 = eqb-true k.0 q.0 outer.0 in
    let b : k.1.0 ≡ q.1.0 = three_alike k.1.0 q.1.0 inner.0 in
    let c : k.1.1 ≡ q.1.1 = three_alike k.1.1 q.1.1 inner.1 in
    (λ i. (a i, (b i, c i)))

-- one computation is the other, where both are the same
pub same_is : (d e : Computation) → is_same d e ≡ true → d ≡ e
same_is d e q = one_key d e (key_alike (key_of d) (key_of e) q)

pub same_self : (e : Computation) → is_same e e ≡ true
same_self e = key_self (key_of e)

-- an instruction does what it computes
pub does_it : (e : Computation) (i : Instruction) → computed_by i ≡ Some e → does e i ≡ true
does_it e i q = ap (is_some_same e) q ∙ same_self e

pub it_does : (e : Computation) (i : Instruction) → does e i ≡ true → computed_by i ≡ Some e
it_does e i q = by (computed_by i) refl
  where
    by : (o : Option Computation) → computed_by i ≡ o → computed_by i ≡ Some e
    by None at = absurd (true≢false (sym q ∙ ap (is_some_same e) at))
    by (Some d) at = at ∙ ap Some (same_is d e (sym (ap (is_some_same e) at) ∙ q))
