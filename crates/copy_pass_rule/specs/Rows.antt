-- The rows by which it is found where copies are missing.
use Rattle.std.specs.Prelude.{◌≡◌, ℕ, zero, suc, ◌+◌, ◌<◌, ◌==◌, ◌||◌, Bool, true, false, Option, Some, None, List, [], ◌∷◌, length, map, slice_get}
use Rattle.graph_core.specs.Graphs.{Block}
use Rattle.graph_core.specs.Uses.{target_of}
use Rattle.graph_paths.specs.declared.marks.Marks.{Marks}
use Rattle.graph_paths.specs.Flood.{Course}
use Rattle.graph_paths.specs.PathMarksTable.{bits_of}
use Rattle.copy_pass_rule.specs.declared.copies.CopyAt.{CopyAt}
use Rattle.copy_pass_rule.specs.Flow.{missing_along}

-- For each of so many scalars a row that tells the copies of which it is a part, from bit 1 on.
pub record AreParts (copies : List CopyAt) (scalars : ℕ) (parts : Marks) : Type 0 where
  pub count : parts.count ≡ scalars
  pub width : parts.width ≡ length copies + 1
  pub parts_of : (n k : ℕ) (c : CopyAt) → n < scalars → slice_get copies k ≡ Some c
      → bits_of parts n (suc k) ≡ ((n == c.target) || (n == c.source))
  pub apart : (n : ℕ) → n < scalars → bits_of parts n 0 ≡ false

-- whether a copy is missing behind a block, from whether it is before it
abbrev pub missing_past : CopyAt → (n : ℕ) → Option Block → (before : Bool) → Bool
missing_past c n None before = before
missing_past c n (Some b) before = missing_along c n (map target_of b.instructions) before

-- what a block does to a fact: bit 0, that some way leads there, passes; and each copy is missing behind the block or
-- not
abbrev pub fact_past : List CopyAt → (n : ℕ) → Option Block → (fact : ℕ) → (before : Bool) → Bool
fact_past [] n b fact before = before
fact_past (c ∷ copies) n b zero before = before
fact_past (c ∷ copies) n b (suc zero) before = missing_past c n b before
fact_past (c ∷ copies) n b (suc (suc k)) before = fact_past copies n b (suc k) before

-- how the copies flow that are missing: as execution goes, through the blocks to which ways lead
abbrev pub going_missing : List Block → List CopyAt → (led : ℕ → Bool) → Course
going_missing blocks copies led =
    record {
      blocks = blocks;
      is_open = led;
      forward = true;
      width = length copies + 1;
      does = λ n fact before. fact_past copies n (slice_get blocks n) fact before;
    }
