-- The bytes of the code, by its words.
use Rattle.std.proofs.Common.{◌≡◌, ℕ, zero, suc, ◌+◌, ◌-◌, ◌*◌, ◌/◌, ◌%◌, ◌<◌, ap, subst, ◌∙◌, arith, refl, List, [], ◌∷◌, length}
use Rattle.std.specs.Prelude.{slice_index}
use Rattle.rv_machine.specs.Memory.{half_in, word_in, bytes_of_words}

-- The four bytes of the word at k, from the offset i on.
pub record WordAt (ws : List ℕ) (k i : ℕ) : Type 0 where
  pub first : (j : ℕ) → j ≡ i → slice_index (bytes_of_words ws) j ≡ slice_index ws k % 256
  pub second : (j : ℕ) → j ≡ i + 1 → slice_index (bytes_of_words ws) j ≡ slice_index ws k / 256 % 256
  pub third : (j : ℕ) → j ≡ i + 2 → slice_index (bytes_of_words ws) j ≡ slice_index ws k / 65536 % 256
  pub fourth : (j : ℕ) → j ≡ i + 3 → slice_index (bytes_of_words ws) j ≡ slice_index ws k / 16777216 % 256

-- A byte of the later words stands four places on.
later : (w : ℕ) (ws : List ℕ) (i j v : ℕ) → j ≡ i + 4 → slice_index (bytes_of_words ws) i ≡ v → slice_index (bytes_of_words (w ∷ ws)) j ≡ v
unfolding bytes_of_words
later w ws i zero v e h = absurd (omega arith)
later w ws i (suc zero) v e h = absurd (omega arith)
later w ws i (suc (suc zero)) v e h = absurd (omega arith)
later w ws i (suc (suc (suc zero))) v e h = absurd (omega arith)
later w ws i (suc (suc (suc (suc j)))) v e h = let same : j ≡ i = omega arith in ap (slice_index (bytes_of_words ws)) same ∙ h

here : (w : ℕ) (ws : List ℕ) → WordAt (w ∷ ws) 0 0
unfolding bytes_of_words
here w ws = record {
  first = λ j e. ap (slice_index (bytes_of_words (w ∷ ws))) e;
  second = λ j e. let f : j ≡ 1 = omega arith in ap (slice_index (bytes_of_words (w ∷ ws))) f;
  third = λ j e. let f : j ≡ 2 = omega arith in ap (slice_index (bytes_of_words (w ∷ ws))) f;
  fourth = λ j e. let f : j ≡ 3 = omega arith in ap (slice_index (bytes_of_words (w ∷ ws))) f;
}

pub word_at : (ws : List ℕ) (k i : ℕ) → i ≡ 4 * k → k < length ws → WordAt ws k i
word_at [] k i e h = absurd (omega arith)
word_at (w ∷ ws) zero i e h = let f : 0 ≡ i = omega arith in subst (WordAt (w ∷ ws) 0) f (here w ws)
word_at (w ∷ ws) (suc k) i e h =
    let r : WordAt ws k (i - 4) = word_at ws k (i - 4) (omega arith) (omega arith) in
    record {
      first = λ j f. later w ws (j - 4) j _ (omega arith) (r.first (j - 4) (omega arith));
      second = λ j f. later w ws (j - 4) j _ (omega arith) (r.second (j - 4) (omega arith));
      third = λ j f. later w ws (j - 4) j _ (omega arith) (r.third (j - 4) (omega arith));
      fourth = λ j f. later w ws (j - 4) j _ (omega arith) (r.fourth (j - 4) (omega arith));
    }

-- The byte at an offset, by the offset's place in its word.
pub byte_0 : (ws : List ℕ) (i : ℕ) → i < 4 * length ws → i % 4 ≡ 0 → slice_index (bytes_of_words ws) i ≡ slice_index ws (i / 4) % 256
byte_0 ws i h e = let w : WordAt ws (i / 4) (4 * (i / 4)) = word_at ws (i / 4) (4 * (i / 4)) refl (omega arith) in w.first i (omega arith)

pub byte_1 : (ws : List ℕ) (i : ℕ) → i < 4 * length ws → i % 4 ≡ 1 → slice_index (bytes_of_words ws) i ≡ slice_index ws (i / 4) / 256 % 256
byte_1 ws i h e = let w : WordAt ws (i / 4) (4 * (i / 4)) = word_at ws (i / 4) (4 * (i / 4)) refl (omega arith) in w.second i (omega arith)

pub byte_2 : (ws : List ℕ) (i : ℕ) → i < 4 * length ws → i % 4 ≡ 2 → slice_index (bytes_of_words ws) i ≡ slice_index ws (i / 4) / 65536 % 256
byte_2 ws i h e = let w : WordAt ws (i / 4) (4 * (i / 4)) = word_at ws (i / 4) (4 * (i / 4)) refl (omega arith) in w.third i (omega arith)

pub byte_3 : (ws : List ℕ) (i : ℕ) → i < 4 * length ws → i % 4 ≡ 3 → slice_index (bytes_of_words ws) i ≡ slice_index ws (i / 4) / 16777216 % 256
byte_3 ws i h e = let w : WordAt ws (i / 4) (4 * (i / 4)) = word_at ws (i / 4) (4 * (i / 4)) refl (omega arith) in w.fourth i (omega arith)

-- The halfword and the word at an offset.
pub low_half : (ws : List ℕ) (i : ℕ) → i < 4 * length ws → i % 4 ≡ 0 → half_in (bytes_of_words ws) i ≡ slice_index ws (i / 4) % 65536
unfolding half_in
low_half ws i h e =
    let w : WordAt ws (i / 4) i = word_at ws (i / 4) i (omega arith) (omega arith) in
    let a = w.first i refl in let b = w.second (i + 1) refl in omega arith

pub high_half : (ws : List ℕ) (i : ℕ) → i < 4 * length ws → i % 4 ≡ 2 → slice_index ws (i / 4) < 4294967296 → half_in (bytes_of_words ws) i ≡ slice_index ws (i / 4) / 65536
unfolding half_in
high_half ws i h e f =
    let w : WordAt ws (i / 4) (4 * (i / 4)) = word_at ws (i / 4) (4 * (i / 4)) refl (omega arith) in
    let a = w.third i (omega arith) in let b = w.fourth (i + 1) (omega arith) in omega arith

pub word_is : (ws : List ℕ) (i : ℕ) → i < 4 * length ws → i % 4 ≡ 0 → slice_index ws (i / 4) < 4294967296 → slice_index ws (i / 4) ≡ word_in (bytes_of_words ws) i
unfolding word_in
word_is ws i h e f =
    let w : WordAt ws (i / 4) i = word_at ws (i / 4) i (omega arith) (omega arith) in
    let a = w.first i refl in let b = w.second (i + 1) refl in let c = w.third (i + 2) refl in let d = w.fourth (i + 3) refl in omega arith
