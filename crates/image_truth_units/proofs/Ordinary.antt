-- Instructions of which expressions are made: they begin no place, and neither set nor copy words. Inner blocks have no others, and places of their own.
use Rattle.std.proofs.Common.{◌≡◌, ℕ, ◌≤◌, Bool, true, false, Some, None, List, [], ◌∷◌, ◌++◌, refl}
use Rattle.graph_core.specs.Graphs.{Instruction, Marker, Zero, CopyWords, Block}
use Rattle.graph_core.specs.Bounds.{most_words}
use Rattle.graph_build_steps.specs.Drafts.{Made, Goal, To, Unused, Either, with_inner_block}

abbrev pub is_ordinary : Instruction → Bool
is_ordinary (Marker p) = false
is_ordinary (Zero object words) = false
is_ordinary (CopyWords object bytes words) = false
is_ordinary _ = true

abbrev pub AllOrdinary : List Instruction → Type 0
AllOrdinary [] = Unit {0}
AllOrdinary (i ∷ more) = (is_ordinary i ≡ true) × AllOrdinary more

-- Words are set and copied first, and they are few.
pub data WordsFirst : List Instruction → Type 0 where
  sets : {object words : ℕ} {more : List Instruction} → words ≤ most_words → WordsFirst more → WordsFirst (Zero object words ∷ more)
  copies : {object bytes words : ℕ} {more : List Instruction} → words ≤ most_words → WordsFirst more → WordsFirst (CopyWords object bytes words ∷ more)
  ordinary : {all : List Instruction} → AllOrdinary all → WordsFirst all

-- A place's block begins with its marker, and behind that sets and copies words first.
pub record IsPlaced (b : Block) : Type 0 where
  pub place : ℕ
  pub rest : List Instruction
  pub no_place : b.place ≡ None
  pub is : b.instructions ≡ Marker place ∷ rest
  pub first : WordsFirst rest

module _ (Own : ℕ → Type 0) where
  pub record IsInner (b : Block) : Type 0 where
    pub place : ℕ
    pub has : b.place ≡ Some place
    pub own : Own place
    pub all : AllOrdinary b.instructions

  abbrev pub AreInner : List Block → Type 0
  AreInner [] = Unit {0}
  AreInner (b ∷ more) = IsInner b × AreInner more

  -- what is made of expressions, and what it is made for
  abbrev pub Fine : Made → Type 0
  Fine m = AllOrdinary m.ops × AreInner m.inner

  abbrev pub FineGoal : Goal → Type 0
  FineGoal (To want m) = Fine m
  FineGoal (Unused m) = Fine m
  FineGoal (Either one other inner) = AreInner inner

  inner_more : (xs : List Block) (b : Block) → AreInner xs → IsInner b → AreInner (xs ++ b ∷ [])
  inner_more [] b h k = (k, tt)
  inner_more (x ∷ xs) b h k = (h.0, inner_more xs b h.1 k)

  -- a block that is closed is one more inner block
  pub closed_fine : (place : ℕ) → Own place → (m : Made) → Fine m → AreInner (with_inner_block place m)
  closed_fine place own m h =
      inner_more m.inner (record { place = Some place; instructions = m.ops; end = m.end }) h.1 (record { place = place; has = refl; own = own; all = h.0 })
