-- Which names are asked for: those that something reads which stays.
use Rattle.std.specs.Prelude.{◌≡◌, ℕ, ◌<◌, ◌≤◌, ◌==◌, ◌&&◌, Bool, true, false, not, if◌then◌else◌, Some, List, [], ◌∷◌, length, slice_get, ⊤}
use Rattle.graph_core.specs.Graphs.{Instruction, End, Block}
use Rattle.graph_core.specs.Uses.{reads_of_end, targets_of, target_of, is_computation}
use Rattle.graph_core.specs.Paths.{Among, reads, writes}

-- Which writes go is told by a number for each, by its block and how many instructions stand behind it there: 0 where
-- it stays, and else its turn.
abbrev pub Turns : Type 0
Turns = (block left : ℕ) → ℕ

module _ (turns : Turns) where
  -- a write goes
  abbrev pub is_going : (n left : ℕ) → Bool
  is_going n left = not (turns n left == 0)

  -- an instruction is a computation that goes
  abbrev pub is_gone : (n left : ℕ) → Instruction → Bool
  is_gone n left i = is_going n left && is_computation i

  -- an instruction asks for a name: it reads it, and does not go
  abbrev pub asks : (n left : ℕ) → Instruction → (x : ℕ) → Bool
  asks n left i x = not (is_gone n left i) && reads x i

  -- Some way from a point comes to what asks for a name, without a write of it.
  pub data IsAsked (blocks : List Block) (x : ℕ) : (n : ℕ) → List Instruction → End → Type 0 where
    by_end : {n : ℕ} {e : End} → Among x (reads_of_end e) → IsAsked blocks x n [] e
    next : {n : ℕ} {i : Instruction} {rest : List Instruction} {e : End} → asks n (length rest) i x ≡ true
        → IsAsked blocks x n (i ∷ rest) e
    later : {n : ℕ} {i : Instruction} {rest : List Instruction} {e : End} → writes x i ≡ false
        → IsAsked blocks x n rest e → IsAsked blocks x n (i ∷ rest) e
    leads : {n l : ℕ} {e : End} (b : Block) → Among l (targets_of e) → slice_get blocks l ≡ Some b
        → IsAsked blocks x l b.instructions b.end → IsAsked blocks x n [] e

  -- Where this is told of a name at the start of each block, that is told of it at a point: it is told at least where
  -- something asks for it.
  abbrev pub TellsAsked : (told : ℕ → Bool) (count x n : ℕ) → (here : Bool) → List Instruction → End → Type 0
  TellsAsked told count x n here [] e =
      (Among x (reads_of_end e) → here ≡ true)
      × ((l : ℕ) → l < count → Among l (targets_of e) → told l ≡ true → here ≡ true)
  TellsAsked told count x n here (i ∷ rest) e =
      (asks n (length rest) i x ≡ true → here ≡ true) × (writes x i ≡ false → TellsAsked told count x n here rest e)
