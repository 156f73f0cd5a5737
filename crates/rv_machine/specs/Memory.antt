-- Words, halfwords and bytes in a list of bytes, the lowest byte first.
use Rattle.std.specs.Prelude.{ℕ, ◌+◌, ◌*◌, ◌/◌, ◌%◌, List, [], ◌∷◌, length, map, slice_index, slice_set}
use Rattle.std.specs.List.{range_with_len}

-- The byte at an offset.
abbrev pub byte_in : List ℕ → ℕ → ℕ
byte_in xs i = slice_index xs i

-- The halfword of the two bytes from an offset on.
unfoldable pub half_in : List ℕ → ℕ → ℕ
half_in xs i = slice_index xs i + slice_index xs (i + 1) * 256

-- The word of the four bytes from an offset on.
unfoldable pub word_in : List ℕ → ℕ → ℕ
word_in xs i =
    slice_index xs i + slice_index xs (i + 1) * 256 + slice_index xs (i + 2) * 65536 + slice_index xs (i + 3) * 16777216

-- The bytes with the low byte of a value written at an offset.
abbrev pub with_byte : List ℕ → ℕ → ℕ → List ℕ
with_byte xs i v = slice_set xs i (v % 256)

-- The bytes with the low two bytes of a value written from an offset on.
unfoldable pub with_half : List ℕ → ℕ → ℕ → List ℕ
with_half xs i v = slice_set (slice_set xs i (v % 256)) (i + 1) (v / 256 % 256)

-- The bytes with the low four bytes of a value written from an offset on.
unfoldable pub with_word : List ℕ → ℕ → ℕ → List ℕ
with_word xs i v =
    slice_set (slice_set (slice_set (slice_set xs i (v % 256)) (i + 1) (v / 256 % 256)) (i + 2) (v / 65536 % 256))
    (i + 3) (v / 16777216 % 256)

-- The bytes of words, each word's lowest byte first.
unfoldable pub bytes_of_words : List ℕ → List ℕ
bytes_of_words [] = []
bytes_of_words (w ∷ ws) = w % 256 ∷ w / 256 % 256 ∷ w / 65536 % 256 ∷ w / 16777216 % 256 ∷ bytes_of_words ws

-- The words of bytes, four bytes a word: of that number k they are the bytes from the offset 4 * k on.
unfoldable pub words_in : List ℕ → List ℕ
words_in bytes = map (λ k. word_in bytes (4 * k)) (range_with_len 0 (length bytes / 4))
