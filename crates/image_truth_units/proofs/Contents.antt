-- What an owner's object holds is found in the memory of a program's run, where no other object that has not ended is the owner's.
use Rattle.std.proofs.Common.{◌≡◌, ◌≢◌, ℕ, zero, suc, Bool, true, false, not, ◌&&◌, Some, [], ◌∷◌, slice_get, refl, sym, ap, ◌∙◌, arith}
use Rattle.std.specs.Prelude.{◌==◌, if◌then◌else◌, option_map, option_and_then}
use Rattle.std.specs.Option.{option_map_or}
use Rattle.std.proofs.lemmas.Bool.{eq-eqb, eqb-true, and_parts}
use Rattle.std.proofs.lemmas.Option.{none-some, same_Some}
use Rattle.word_base.specs.Owners.{Owner, Static, Literal, Variable, is_same_owner}
use Rattle.c_meaning_values.specs.declared.value.Phase.{Phase}
use Rattle.c_meaning_values.specs.declared.value.Phase.TheVariants.{Live, Ended}
use Rattle.c_meaning_values.specs.Memory.{Memory, Object, is_owned, is_over, object_of, contents}

-- ---- Owners

own_same : (a : Owner) → is_same_owner a a ≡ true
own_same (Static n) = eq-eqb n n refl
own_same (Literal n) = eq-eqb n n refl
own_same (Variable x d) = ap (λ b. b && d == d) (eq-eqb x x refl) ∙ eq-eqb d d refl

same_own : (a b : Owner) → is_same_owner a b ≡ true → a ≡ b
same_own (Static n) (Static k) e = ap (λ i. Static i) (eqb-true n k e)
same_own (Static n) (Literal k) e = cc
same_own (Static n) (Variable x d) e = cc
same_own (Literal n) (Static k) e = cc
same_own (Literal n) (Literal k) e = ap (λ i. Literal i) (eqb-true n k e)
same_own (Literal n) (Variable x d) e = cc
same_own (Variable y c) (Static k) e = cc
same_own (Variable y c) (Literal k) e = cc
same_own (Variable y c) (Variable x d) e =
    let parts = and_parts (y == x) (c == d) e in
    ap (λ i. Variable i c) (eqb-true y x parts.0) ∙ ap (λ i. Variable x i) (eqb-true c d parts.1)

alive : (phase : Phase) → not (is_over phase) ≡ true → phase ≢ Ended
alive phase e ended = let over : not (is_over phase) ≡ false = ap (λ q. not (is_over q)) ended in cc

-- ---- Objects

found : (memory : Memory) (n : ℕ) (o : Object) (owner : Owner) → slice_get memory n ≡ Some o → is_owned owner o ≡ true → ((k : ℕ) (q : Object) → slice_get memory k ≡ Some q → is_owned owner q ≡ true → k ≡ n) → object_of owner memory ≡ Some n
found [] n o owner is own only = absurd (none-some o is)
found (q ∷ memory) zero o owner is own only =
    let first : is_owned owner q ≡ true = ap (is_owned owner) (same_Some q o is) ∙ own in
    ap (λ b. if b then Some 0 else option_map (λ n. suc n) (object_of owner memory)) first
found (q ∷ memory) (suc n) o owner is own only = by_first (is_owned owner q) refl (found memory n o owner is own (λ k r there mine. let same = only (suc k) r there mine in omega (arith, same)))
  where
    by_first : (b : Bool) → is_owned owner q ≡ b → object_of owner memory ≡ Some n → object_of owner (q ∷ memory) ≡ Some (suc n)
    by_first true e rest = absurd (let same = only 0 q refl e in omega (arith, same))
    by_first false e rest = ap (λ b. if b then Some 0 else option_map (λ n. suc n) (object_of owner memory)) e ∙ ap (option_map (λ n. suc n)) rest

-- The values of an owner are those of its object, where no other one that has not ended is its.
pub contents_are : (memory : Memory) (n : ℕ) (o : Object) (owner : Owner) → ((j k : ℕ) (q r : Object) → slice_get memory j ≡ Some q → slice_get memory k ≡ Some r → q.phase ≢ Ended → r.phase ≢ Ended → q.owner ≡ r.owner → j ≡ k)
    → slice_get memory n ≡ Some o → o.owner ≡ owner → o.phase ≡ Live → contents owner memory ≡ o.values
contents_are memory n o owner differ is owned live =
    let same : is_same_owner owner o.owner ≡ true = ap (is_same_owner owner) owned ∙ own_same owner in
    let own : is_owned owner o ≡ true = ap (λ phase. not (is_over phase) && is_same_owner owner o.owner) live ∙ same in
    let lives : o.phase ≢ Ended = λ ended. absurd (let wrong : Live ≡ Ended = sym live ∙ ended in cc) in
    let number = found memory n o owner is own (λ k q there mine.
    let parts = and_parts (not (is_over q.phase)) (is_same_owner owner q.owner) mine in
    differ k n q o there is (alive q.phase parts.0) lives (sym (same_own owner q.owner parts.1) ∙ sym owned)) in
    ap (λ r. option_map_or (λ (o : Object). o.values) (option_and_then (λ n. slice_get memory n) r) []) number ∙ ap (λ r. option_map_or (λ (o : Object). o.values) r []) is
