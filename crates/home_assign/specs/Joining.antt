-- For each name the earliest earlier one to which it is joined, as instructions join them one by one.
use Rattle.std.specs.Prelude.{ℕ, ◌==◌, max, min, if◌then◌else◌, Option, Some, None, List, [], ◌∷◌, slice_index_or, slice_set}
use Rattle.graph_core.specs.Graphs.{Instruction, Move, Name, Block}

-- the earlier one of a name, if there is one, and another
abbrev pub earliest : Option ℕ → ℕ → ℕ
earliest None y = y
earliest (Some z) y = min z y

-- of two names the later one is joined to the earlier one too
abbrev pub with_join : List (Option ℕ) → (x y : ℕ) → List (Option ℕ)
with_join first x y =
    if x == y then first
    else slice_set first (max x y) (Some (earliest (slice_index_or first (max x y) None) (min x y)))

-- with what an instruction joins
abbrev pub with_copy : Instruction → List (Option ℕ) → List (Option ℕ)
with_copy (Move x (Name y)) first = with_join first x y
with_copy _ first = first

-- with what instructions join
abbrev pub with_copies : List Instruction → List (Option ℕ) → List (Option ℕ)
with_copies [] first = first
with_copies (i ∷ more) first = with_copies more (with_copy i first)

-- with what blocks join
abbrev pub with_blocks : List Block → List (Option ℕ) → List (Option ℕ)
with_blocks [] first = first
with_blocks (b ∷ more) first = with_blocks more (with_copies b.instructions first)
