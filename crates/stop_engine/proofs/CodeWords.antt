-- The words of the bytes of an image's code are those of its code.
use Rattle.std.proofs.Common.{◌≡◌, ℕ, ◌*◌, ◌/◌, ◌%◌, ◌<◌, ◌≤◌, List, [], ◌∷◌, length, map, get_or, refl, sym, ap, ◌∙◌, arith}
use Rattle.std.specs.List.{range_with_len}
use Rattle.std.proofs.lemmas.List.FromFn.{fill_by_all}
use Rattle.std.proofs.lemmas.Option.{slice_get-get_or}
use Rattle.image_form.specs.Form.{Form}
use Rattle.image_form.specs.Rules.{AllFit, IsImage}
use Rattle.image_form.specs.Spelling.{spelled}
use Rattle.image_form.proofs.ReadBack.{length-spelled}
use Rattle.image_form.proofs.TableLaws.{each_at}
use Rattle.memory_map.specs.Maps.{most_words}
use Rattle.rv_machine.specs.Memory.{bytes_of_words, word_in, words_in}
use Rattle.rv_machine.proofs.CodeBytes.{word_is}

-- Numbers are spelled by the bytes of words.
spelled-bytes : (words : List ℕ) → spelled words ≡ bytes_of_words words
unfolding bytes_of_words
spelled-bytes [] = refl
spelled-bytes (w ∷ words) =
    ap (λ (l : List ℕ). w % 256 ∷ w / 256 % 256 ∷ w / 65536 % 256 ∷ w / 16777216 % 256 ∷ l) (spelled-bytes words)

-- The word that is read of a word's bytes.
word-back : (words : List ℕ) (k : ℕ) → AllFit words → k < length words → get_or words k 0 ≡ word_in (spelled words) (4 * k)
word-back words k fit lt =
    let at : 4 * k / 4 ≡ k = omega arith in
    let fits : get_or words k 0 < 4294967296 =
    each_at (λ n. n < 4294967296) words k (get_or words k 0) fit (slice_get-get_or words k 0 lt) in
    ap (λ i. get_or words i 0) (sym at)
    ∙ word_is words (4 * k) (omega arith) (omega arith) (rw at fits)
    ∙ ap (λ bytes. word_in bytes (4 * k)) (sym (spelled-bytes words))

-- The words of the bytes of words that fit are these words.
pub words-back : (words : List ℕ) → AllFit words → words_in (spelled words) ≡ words
unfolding words_in
words-back words fit =
    let long : length (spelled words) ≡ 4 * length words = length-spelled words in
    let count : length (spelled words) / 4 ≡ length words = omega arith in
    let word : ℕ → ℕ = λ k. word_in (spelled words) (4 * k) in
    ap (λ n. map word (range_with_len 0 n)) count
    ∙ sym (fill_by_all word words (length words) 0 refl (λ k lt. word-back words k fit lt))

-- The bytes of an image's code are whole words.
pub code-whole : (m : Form) → length (spelled m.code) % 4 ≡ 0
code-whole m = let long = length-spelled m.code in omega (arith, long)

-- They are no more than the map of the image lets them be.
pub code-few : (m : Form) → IsImage m → length (spelled m.code) ≤ 4 * most_words m.version.map
code-few m image = let long = length-spelled m.code in let few = image.sizes.code in omega (arith, long, few)
