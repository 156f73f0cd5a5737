-- Letters and digits.
use Rattle.std.proofs.Common.{◌≡◌, ℕ, ◌<◌, true, List, [], ◌∷◌, Result, Ok, Err, refl, arith, Bor}
use Rattle.std.specs.Result.{IsOk, MatchResult}
use Rattle.std.specs.List.{list_all}
use Rattle.std.specs.Str.{IsAscii, IsUtf8}
use Rattle.std.proofs.lemmas.Str.{IsUtf8-from_ascii}
use Rattle.std.proofs.lemmas.Str.Ascii.{IsAscii-nil, IsAscii-cons}
use Rattle.std.proofs.lemmas.Bool.Decides.{nat_tests}
use Rattle.c_token.specs.Bytes.{is_letter, is_digit, is_word_byte}
use Rattle.c_token.proofs.Runs.{and_left, and_right}

small : (b : ℕ) → is_word_byte b ≡ true → b < 128
unfolding is_word_byte is_letter is_digit
small b h = grind (arith, nat_tests)

ascii : (word : List ℕ) → list_all is_word_byte word ≡ true → IsAscii word
ascii [] h = IsAscii-nil
ascii (b ∷ word) h = IsAscii-cons b word (small b (and_left (is_word_byte b) _ h)) (ascii word (and_right (is_word_byte b) _ h))

-- letters and digits are a text
pub text_of_words : {E : Type 0} (P : E → Type 0) (word : List ℕ) (r : Result (Bor (List ℕ)) E) → list_all is_word_byte word ≡ true
    → MatchResult r (λ s. (s.now ≡ word) × IsUtf8 word) (λ e. ¬ (IsUtf8 word) × P e) → IsOk r
text_of_words P word (Ok s) h m = refl
text_of_words P word (Err e) h m = absurd (m.0 (IsUtf8-from_ascii word (ascii word h)))
