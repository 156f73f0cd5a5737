-- Each token is the longest at its byte.
use Rattle.std.proofs.Common.{◌≡◌, ℕ, zero, suc, ◌+◌, ◌≤◌, Bool, true, false, cond, ◌&&◌, leb, ltb, ◌⊎◌, inl, inr, List, [], ◌∷◌, length, get_or, drop, Option, Some, None, Result, Ok, Err, refl, ap, arith}
use Rattle.std.specs.List.{AllByRecursion, list_all, prefix_len}
use Rattle.std.specs.Option.{option_map_or}
use Rattle.std.proofs.lemmas.Bool.{leb-true}
use Rattle.c_token.specs.declared.fault.Fault.{Fault}
use Rattle.c_token.specs.declared.token.Constant as constant
use Rattle.c_token.specs.declared.token.Punctuator.{Punctuator}
use Rattle.c_token.specs.Bytes.{is_letter, is_digit, is_word_byte, text_has}
use Rattle.c_token.specs.Constants.{is_number_byte, constant_at}
use Rattle.c_token.specs.Laws.{WordsAreLongest, ConstantsAreLongest, PunctuatorsAreLongest}
use Rattle.c_token.specs.Lexemes.{Word}
use Rattle.c_token.specs.Punctuators.{punctuators, find_punctuator, longest_punctuator}
use Rattle.c_token.specs.Reading.{◌>>=◌}
use Rattle.c_token.specs.Words.{word_at}
use Rattle.base_laws.proofs.Booleans.{both_true as and_parts}

-- what stands behind the longest front that passes does not pass
stops : (p : ℕ → Bool) (text : List ℕ) (at : ℕ) → p 0 ≡ false → p (get_or text (at + prefix_len p (drop at text)) 0) ≡ false
stops p [] at none = none
stops p (b ∷ text) (suc at) none = let next : suc at + prefix_len p (drop at text) ≡ suc (at + prefix_len p (drop at text)) = omega arith in rw next (stops p text at none)
stops p (b ∷ text) zero none = by_test (p b) refl (stops p text zero none)
  where
    by_test : (t : Bool) → p b ≡ t → p (get_or text (0 + prefix_len p text) 0) ≡ false → p (get_or (b ∷ text) (0 + cond t (1 + prefix_len p text) 0) 0) ≡ false
    by_test true e behind = let next : 0 + (1 + prefix_len p text) ≡ suc (0 + prefix_len p text) = omega arith in rw next behind
    by_test false e behind = e

word_end : (r : Result Word Fault) (size end : ℕ) (w : Word) → ◌>>=◌ {B = Word × ℕ} r (λ v. Ok (v, size)) ≡ Ok (w, end) → size ≡ end
word_end (Err f) size end w e = absurd cc
word_end (Ok v) size end w e = let pair : ◌≡◌ {A = Word × ℕ} (v, size) (w, end) = cc in ap (λ (x : Word × ℕ). x.1) pair

constant_end : (o : Option constant.Constant) (f : Fault) (size end : ℕ) (c : constant.Constant) → option_map_or {U = Result (constant.Constant × ℕ) Fault} (λ v. Ok (v, size)) o (Err f) ≡ Ok (c, end) → size ≡ end
constant_end None f size end c e = absurd cc
constant_end (Some v) f size end c e = let pair : ◌≡◌ {A = constant.Constant × ℕ} (v, size) (c, end) = cc in ap (λ (x : constant.Constant × ℕ). x.1) pair

no_word : is_word_byte 0 ≡ false
unfolding is_word_byte is_letter is_digit
no_word = refl

no_number : is_number_byte 0 ≡ false
unfolding is_number_byte is_word_byte is_letter is_digit
no_number = refl

pub words_are_longest : WordsAreLongest
unfolding word_at
words_are_longest text at w end e = rw (word_end _ _ end w e) at (stops is_word_byte text at no_word)

pub constants_are_longest : ConstantsAreLongest
unfolding constant_at
constants_are_longest text at c end e = rw (constant_end _ _ _ end c e) at (stops is_number_byte text at no_number)

chosen : {A : Type 0} (b : Bool) (x y z : A) → cond b x y ≡ z → ((b ≡ true) × (x ≡ z)) ⊎ ((b ≡ false) × (y ≡ z))
chosen true x y z e = inl (refl, e)
chosen false x y z e = inr (refl, e)

-- no spelling is longer than one before it, and none is empty
abbrev longest_first : List (List ℕ × Punctuator) → Bool
longest_first [] = true
longest_first (m ∷ ms) = (ltb 0 (length m.0) && list_all (λ k. leb (length k.0) (length m.0)) ms) && longest_first ms

below : (text : List ℕ) (at n : ℕ) (ms : List (List ℕ × Punctuator)) → list_all (λ k. leb (length k.0) n) ms ≡ true → AllByRecursion (λ k. text_has text at k.0 ≡ true → at + length k.0 ≤ at + n) ms
below text at n [] e = tt
below text at n (m ∷ ms) e =
    let p = and_parts (leb (length m.0) n) (list_all (λ k. leb (length k.0) n) ms) e in
    let le : length m.0 ≤ n = leb-true _ _ p.0 in
    (λ _. omega arith, below text at n ms p.1)

found_end : (n k : ℕ) (p q : Punctuator) → ◌≡◌ {A = Option (Punctuator × ℕ)} (Some (p, n)) (Some (q, k)) → n ≡ k
found_end n k p q e = let pair : ◌≡◌ {A = Punctuator × ℕ} (p, n) (q, k) = cc in ap (λ (x : Punctuator × ℕ). x.1) pair

not_both : {b : Bool} → b ≡ false → b ≡ true → ⊥
not_both e f = cc

longest : (ms : List (List ℕ × Punctuator)) (text : List ℕ) (at end : ℕ) (p : Punctuator) → longest_first ms ≡ true → find_punctuator ms text at ≡ Some (p, end)
    → AllByRecursion (λ k. text_has text at k.0 ≡ true → at + length k.0 ≤ end) ms
longest [] text at end p sorted e = tt
longest (m ∷ ms) text at end p sorted e =
    let parts = and_parts (ltb 0 (length m.0) && list_all (λ k. leb (length k.0) (length m.0)) ms) (longest_first ms) sorted in
    let first = and_parts (ltb 0 (length m.0)) (list_all (λ k. leb (length k.0) (length m.0)) ms) parts.0 in
    elim (chosen (ltb 0 (length m.0) && text_has text at m.0) (Some (m.1, at + length m.0)) (find_punctuator ms text at) (Some (p, end)) e) [
      | inl h ↦ let same : at + length m.0 ≡ end = found_end _ _ _ _ h.1 in (λ _. omega (arith, same), rw same at (below text at (length m.0) ms first.1))
      | inr h ↦ (λ b. absurd (not_both h.0 (rw (first.0, b) refl)), longest ms text at end p parts.1 h.1)
    ]

pub punctuators_are_longest : PunctuatorsAreLongest
unfolding longest_punctuator
punctuators_are_longest text at p end e = longest punctuators text at end p refl e
