-- Texts that are taken for the names of passes one after the other.
use Rattle.std.proofs.Common.{arith, refl, sym, ap, ◌∙◌, ◌≡◌, ℕ, ◌+◌, ◌<◌, ◌≤◌, ◌&&◌, Bool, true, false, zero, suc, List, [], ◌∷◌, map, length, take, slice_index_or, Some, None, true≢false, Bor}
use Rattle.std.specs.Prelude.{nat_le}
use Rattle.std.specs.List.{list_all}
use Rattle.std.proofs.lemmas.List.{take_all}
use Rattle.std.proofs.lemmas.List.Folds.{list_all-map}
use Rattle.std.proofs.lemmas.Bool.Decides.{nat_tests}
use Rattle.debug_records.specs.Change.{IsPassName, is_lower_case}
use Rattle.command_line.specs.Words.{Text}
use Rattle.command_line.specs.Values.{all_named, is_pass_name}

pub not_named : (t : Text) → ¬ IsPassName t → is_pass_name t ≡ false
not_named t other = go (nat_le 1 (length t)) (nat_le (length t) 16) (list_all is_lower_case t) refl refl refl
  where
    go : (a b c : Bool) → nat_le 1 (length t) ≡ a → nat_le (length t) 16 ≡ b → list_all is_lower_case t ≡ c → (nat_le 1 (length t) && (nat_le (length t) 16 && list_all is_lower_case t)) ≡ false
    go false b c p q r = rw p refl
    go true false c p q r = rw (p, q) refl
    go true true false p q r = rw (p, q, r) refl
    go true true true p q r =
        let some : 1 ≤ length t = grind (arith, nat_tests) in
        let most : length t ≤ 16 = grind (arith, nat_tests) in
        absurd (other (record { some = some; most = most; lower_case = r }))

-- a text fails
pub one_fails : {X : Type 0} (p : X → Bool) (xs : List X) (i : ℕ) (d : X) → i < length xs → p (slice_index_or xs i d) ≡ false → list_all p xs ≡ false
one_fails p [] i d lt one = absurd (omega arith)
one_fails p (x ∷ xs) zero d lt one = rw one refl
one_fails p (x ∷ xs) (suc i) d lt one = ap (λ (b : Bool). p x && b) (one_fails p xs i d (omega arith) one) ∙ and_false (p x)
  where
    and_false : (b : Bool) → (b && false) ≡ false
    and_false true = refl
    and_false false = refl

-- so the texts are no names
pub none_named : (texts : List (Bor Text)) (i : ℕ) (d : Bor Text) → i < length texts → ¬ IsPassName (slice_index_or texts i d).now → None ≡ all_named (map (λ s. s.now) texts)
none_named texts i d lt other =
    let bad = not_named (slice_index_or texts i d).now other in
    let all : list_all is_pass_name (map (λ s. s.now) texts) ≡ false = list_all-map is_pass_name (λ s. s.now) texts ∙ one_fails (λ s. is_pass_name s.now) texts i d lt bad in
    rw all refl

-- or all are
pub all_are_named : (texts : List (Bor Text)) (i : ℕ) → length texts ≤ i → list_all (λ s. is_pass_name s.now) (take i texts) ≡ true → Some (map (λ s. s.now) texts) ≡ all_named (map (λ s. s.now) texts)
all_are_named texts i le all =
    let each : list_all is_pass_name (map (λ s. s.now) texts) ≡ true =
    list_all-map is_pass_name (λ s. s.now) texts ∙ ap (list_all (λ s. is_pass_name s.now)) (sym (take_all i texts le)) ∙ all in
    rw each refl
