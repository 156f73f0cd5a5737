-- What is left where it is told of each write whether it goes.
use Rattle.std.specs.Prelude.{◌≡◌, ℕ, ◌+◌, Bool, true, false, List, [], ◌∷◌, ◌++◌, length, ⊤}
use Rattle.graph_core.specs.Graphs.{NoteValue, Instruction, Note, Block}
use Rattle.dead_pass_rule.specs.Removing.{without}

-- it is a note of this scalar
pub data IsNoteOf (x : ℕ) : Instruction → Type 0 where
  notes : {v : NoteValue} → IsNoteOf x (Note x v)

-- the same instruction, or a note of the same scalar
pub data IsKeptAs : Instruction → Instruction → Type 0 where
  same : {i : Instruction} → IsKeptAs i i
  noted : {x : ℕ} {v w : NoteValue} → IsKeptAs (Note x v) (Note x w)

-- What is left of an instruction that goes, or stays, is behind others.
pub data IsPushed (goes : Bool) (i : Instruction) (old new : List Instruction) : Type 0 where
  went : goes ≡ true → new ≡ old ++ without i → IsPushed goes i old new
  stayed : {j : Instruction} → goes ≡ false → IsKeptAs i j → new ≡ old ++ j ∷ [] → IsPushed goes i old new

-- What is left of instructions, of which it is told by how many stand behind whether they go.
pub data AreLeftBy (goes : ℕ → Bool) : List Instruction → List Instruction → Type 0 where
  none : AreLeftBy goes [] []
  gone : {i : Instruction} {rest left : List Instruction} → goes (length rest) ≡ true → AreLeftBy goes rest left
      → AreLeftBy goes (i ∷ rest) (without i ++ left)
  kept : {i j : Instruction} {rest left : List Instruction} → goes (length rest) ≡ false → IsKeptAs i j
      → AreLeftBy goes rest left → AreLeftBy goes (i ∷ rest) (j ∷ left)

-- What is left of a block, if it is reached; else it stays.
pub data IsLeftBlockBy (goes : (block left : ℕ) → Bool) (reached : ℕ → Bool) (n : ℕ) (b : Block) : Block → Type 0 where
  unreached : reached n ≡ false → IsLeftBlockBy goes reached n b b
  reduced : {left : List Instruction} → reached n ≡ true → AreLeftBy (goes n) b.instructions left
      → IsLeftBlockBy goes reached n b (record {
        place = b.place;
        instructions = left;
        end = b.end;
      })

-- the blocks from a number on, one by one
abbrev pub AreLeftBlocksBy : (goes : (block left : ℕ) → Bool) → (reached : ℕ → Bool) → (n : ℕ)
    → (before after : List Block) → Type 0
AreLeftBlocksBy goes reached n [] [] = ⊤
AreLeftBlocksBy goes reached n [] (c ∷ after) = ⊥
AreLeftBlocksBy goes reached n (b ∷ before) [] = ⊥
AreLeftBlocksBy goes reached n (b ∷ before) (c ∷ after) =
    IsLeftBlockBy goes reached n b c × AreLeftBlocksBy goes reached (n + 1) before after
