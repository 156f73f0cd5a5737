-- The generated text is that of the statements that are drawn.
use Rattle.std.proofs.Common.{◌≡◌, ℕ, zero, suc, ◌+◌, ◌/◌, ◌%◌, ◌<◌, List, [], ◌∷◌, ◌++◌, length, refl, ap, append_assoc, arith}
use Rattle.work_gen.specs.Generated.{letter, right_side, next_state, statement, statements, head, tail, text}
use Rattle.work_gen_laws.specs.Drawn.{Letter, byte, side_text, line_text, lines_text, whole_text, letter_of, side_of, drawn, drawn_all}

letter_is : (k : ℕ) → k < 4 → 97 + k ≡ byte (letter_of k)
letter_is zero h = refl
letter_is (suc zero) h = refl
letter_is (suc (suc zero)) h = refl
letter_is (suc (suc (suc zero))) h = refl
letter_is (suc (suc (suc (suc k)))) h = absurd (omega (arith, h))

letters : (n : ℕ) → letter n ≡ byte (letter_of (n % 4))
letters n = letter_is (n % 4) (omega arith)

side_is : (k : ℕ) → k < 4 → (l m : Letter) → right_side k (byte l) (byte m) ≡ side_text (side_of k l m)
side_is zero h l m = refl
side_is (suc zero) h l m = refl
side_is (suc (suc zero)) h l m = refl
side_is (suc (suc (suc zero))) h l m = refl
side_is (suc (suc (suc (suc k)))) h l m = absurd (omega (arith, h))

pub line_is : (r : ℕ) → statement r ≡ line_text (drawn r)
unfolding statement
line_is r =
    let target = letters r in
    let left = letters (r / 4) in
    let right = letters (r / 16) in
    let side = side_is (r / 64 % 4) (omega arith) (letter_of (r / 4 % 4)) (letter_of (r / 16 % 4)) in
    let s = side_of (r / 64 % 4) (letter_of (r / 4 % 4)) (letter_of (r / 16 % 4)) in
    rw (target, left, right, side) (ap (λ (x : List ℕ). byte (letter_of (r % 4)) ∷ 61 ∷ x) (append_assoc (side_text s) (59 ∷ []) (10 ∷ [])))

pub lines_are : (count x : ℕ) → statements count x ≡ lines_text (drawn_all count x)
lines_are zero x = refl
lines_are (suc count) x = rw (line_is (next_state x / 65536), lines_are count (next_state x)) refl

pub text_is : (seed size : ℕ) → text seed size ≡ whole_text (drawn_all size seed)
unfolding text
text_is seed size = ap (λ (s : List ℕ). head ++ (s ++ tail)) (lines_are size seed)

pub count_is : (count x : ℕ) → length (drawn_all count x) ≡ count
count_is zero x = refl
count_is (suc count) x = ap suc (count_is count (next_state x))
