-- Rows of bits, as contracts see them: lists of lists.
use Rattle.std.specs.Prelude.{ℕ, ◌/◌, ◌%◌, ◌==◌, Bool, true, false, if◌then◌else◌, ◌&&◌, ◌||◌, List, [], ◌∷◌, length, map, slice_index_or, slice_set}
use Rattle.std.specs.Int.{bit_at}
use Rattle.std.specs.List.{range_with_len}

-- the bits of a row; none where there is no such row
abbrev pub row_at : List (List Bool) → (row : ℕ) → List Bool
row_at rows row = slice_index_or rows row []

-- whether a bit of a row is set; none is outside
abbrev pub is_set : List (List Bool) → (row bit : ℕ) → Bool
is_set rows row bit = slice_index_or (row_at rows row) bit false

-- the rows with one bit set, or clear
abbrev pub with_bit : List (List Bool) → (row bit : ℕ) → Bool → List (List Bool)
with_bit rows row bit b = slice_set rows row (slice_set (row_at rows row) bit b)

-- two rows bit by bit, as far as both go
abbrev pub joined : (Bool → Bool → Bool) → List Bool → List Bool → List Bool
joined f (a ∷ more) (b ∷ others) = f a b ∷ joined f more others
joined f _ _ = []

-- what is left of two bits where rows meet: their union, or their intersection
abbrev pub met_bit : (unite : Bool) → Bool → Bool → Bool
met_bit true a b = a || b
met_bit false a b = a && b

-- what is left of two rows where they meet
abbrev pub met : (unite : Bool) → List Bool → List Bool → List Bool
met unite a b = joined (met_bit unite) a b

-- what is kept of a row, with what is written
abbrev pub passed : (row kept written : List Bool) → List Bool
passed row kept written = joined (λ a b. a || b) (joined (λ a b. a && b) row kept) written

-- a row whose 64 bits that begin with bit 64 * index are those of a word
abbrev pub with_word : (row : List Bool) (index word : ℕ) → List Bool
with_word row index word =
    map (λ bit. if bit / 64 == index then bit_at word (bit % 64) == 1 else slice_index_or row bit false)
    (range_with_len 0 (length row))
