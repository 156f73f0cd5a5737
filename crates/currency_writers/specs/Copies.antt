-- The copies by which scalars get the values that temporaries keep.
use Rattle.std.specs.Prelude.{◌≡◌, ◌==◌, ℕ, ◌<◌, if◌then◌else◌, Option, Some, None, List, [], ◌∷◌, length, slice_get}
use Rattle.std.specs.Option.{option_map_or}
use Rattle.std.specs.Global.{Vec}
use Rattle.graph_core.specs.Graphs.{Instruction, graph_view}
use Rattle.graph_homes.specs.Reused.{first_among, first_copy, one_or_other}
use Rattle.currency_writers.specs.declared.copies.Copied as declared-copied
use Rattle.currency_writers.specs.declared.copies.Copies as declared-copies

-- the name of which the first of copies in a place is
abbrev pub first_of : List declared-copied.Copied → (p : ℕ) → Option ℕ
first_of [] p = None
first_of (c ∷ more) p = if c.place == p then Some c.from else first_of more p

-- the copies to a name
abbrev pub copies_to : List (Vec declared-copied.Copied) → (x : ℕ) → List declared-copied.Copied
copies_to all x = option_map_or (λ v. v.items) (slice_get all x) []

-- The copies to scalars are those that were, and behind them those of these instructions, before which a place is in
-- force.
pub record AreCopied (old new : declared-copies.Copies) (place : Option ℕ) (all : List Instruction) : Type 0 where
  pub graph : new.graph.now ≡ old.graph.now
  pub count : length new.by_target.items ≡ length old.by_target.items
  pub first : (p x : ℕ) → x < length old.by_target.items
      → first_of (copies_to new.by_target.items x) p
      ≡ one_or_other (first_of (copies_to old.by_target.items x) p) (first_among p x place all)

-- For each scalar the first copies to it are those of the function.
pub record AreCopies (c : declared-copies.Copies) : Type 0 where
  pub first : (p x : ℕ) → x < length c.by_target.items
      → first_of (copies_to c.by_target.items x) p ≡ first_copy p x (graph_view c.graph.now).blocks
  pub count : length c.by_target.items ≡ length (graph_view c.graph.now).scalars
