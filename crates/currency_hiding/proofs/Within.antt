-- What a valid graph writes is in its places, and what it copies are its names.
use Rattle.std.proofs.Common.{◌≡◌, inl, inr, ℕ, zero, suc, ◌<◌, Bool, true, false, Option, Some, None, List, [], ◌∷◌, ◌++◌, sym, subst}
use Rattle.std.specs.Prelude.{◌⊎◌, ◌==◌, ◌&&◌, if◌then◌else◌, slice_get}
use Rattle.std.specs.List.{AllByRecursion}
use Rattle.std.proofs.lemmas.Option.{none-some, same_Some}
use Rattle.base_laws.proofs.Lists.{all_there}
use Rattle.graph_core.specs.Graphs.{Name, Constant, StaticAddress, Instruction, Marker, Note, Move, Operate, Truncate, Same, Address, Load, Store, Zero, CopyWords, Call, Block, Graph, UnitForm}
use Rattle.graph_core.specs.Paths.{Among, front, behind}
use Rattle.graph_core.specs.Points.{is_place}
use Rattle.graph_core.specs.Validity.{IsBlock, IsGraph, IsInstruction, IsOwnPlace, markers_in, markers_of_blocks, place_behind}
use Rattle.graph_homes.specs.Reused.{first_among, first_copy, one_or_other}
use Rattle.currency_writers.specs.declared.writers.Writer as declared-writer
use Rattle.currency_writers.specs.Writers.{IsWriter, instruction, parameter}
use Rattle.currency_hiding.specs.Found.{AreCopiesBelow, ArePlaced}

-- ---- Places

among_first : (p : ℕ) (xs ys : List ℕ) → Among p xs → Among p (xs ++ ys)
among_first p [] ys among = elim among [ ]
among_first p (x ∷ xs) ys front = front
among_first p (x ∷ xs) ys (behind more) = behind (among_first p xs ys more)

among_last : (p : ℕ) (xs ys : List ℕ) → Among p ys → Among p (xs ++ ys)
among_last p [] ys among = among
among_last p (x ∷ xs) ys among = behind (among_last p xs ys among)

-- a place in force behind instructions is one of their markers, or was in force before
behind_marked : (before rest : List Instruction) (o : Option ℕ) (p : ℕ) → place_behind before o ≡ Some p → (o ≡ Some p) ⊎ Among p (markers_in (before ++ rest))
behind_marked [] rest o p e = inl e
behind_marked (Marker q ∷ before) rest o p e = elim (behind_marked before rest (Some q) p e) [ inl f ↦ inr (subst (λ n. Among n (q ∷ markers_in (before ++ rest))) (same_Some q p f) front) | inr more ↦ inr (behind more) ]
behind_marked (Note y v ∷ before) rest o p e = behind_marked before rest o p e
behind_marked (Move y a ∷ before) rest o p e = behind_marked before rest o p e
behind_marked (Operate y k a b ∷ before) rest o p e = behind_marked before rest o p e
behind_marked (Truncate y t a ∷ before) rest o p e = behind_marked before rest o p e
behind_marked (Same y a b ∷ before) rest o p e = behind_marked before rest o p e
behind_marked (Address y k ∷ before) rest o p e = behind_marked before rest o p e
behind_marked (Load y k l ∷ before) rest o p e = behind_marked before rest o p e
behind_marked (Store k l a ∷ before) rest o p e = behind_marked before rest o p e
behind_marked (Zero k w ∷ before) rest o p e = behind_marked before rest o p e
behind_marked (CopyWords k b w ∷ before) rest o p e = behind_marked before rest o p e
behind_marked (Call y f a ∷ before) rest o p e = behind_marked before rest o p e

-- the markers of a block are those of its graph
block_marked : (blocks : List Block) (n : ℕ) (b : Block) (p : ℕ) → slice_get blocks n ≡ Some b → Among p (markers_in b.instructions) → Among p (markers_of_blocks blocks)
block_marked [] n b p at among = absurd (none-some b at)
block_marked (c ∷ blocks) zero b p at among = among_first p (markers_in c.instructions) (markers_of_blocks blocks) (subst (λ (d : Block). Among p (markers_in d.instructions)) (sym (same_Some c b at)) among)
block_marked (c ∷ blocks) (suc n) b p at among = among_last p (markers_in c.instructions) (markers_of_blocks blocks) (block_marked blocks n b p at among)

own_place : (g : Graph) (o : Option ℕ) (p : ℕ) → IsOwnPlace g o → o ≡ Some p → (p ≡ g.entry) ⊎ Among p (markers_of_blocks g.blocks)
own_place g None p own e = absurd (none-some p e)
own_place g (Some q) p own e = subst (λ n. (n ≡ g.entry) ⊎ Among n (markers_of_blocks g.blocks)) (same_Some q p e) own

-- what writes names stands in places of its graph
pub writer_placed : (u : UnitForm) (g : Graph) (f : ℕ) → IsGraph u g → (p x : ℕ) (w : declared-writer.Writer) → IsWriter f g p x w → (p ≡ g.entry) ⊎ Among p (markers_of_blocks g.blocks)
writer_placed u g f valid p x _ (instruction {n} {i} {rest} at target) =
    (let block : IsBlock u g at.block = all_there (IsBlock u g) g.blocks n at.block valid.blocks at.is in
    elim (behind_marked at.before (i ∷ rest) at.block.place p at.place) [
      | inl e ↦ own_place g at.block.place p block.own e
      | inr more ↦ inr (block_marked g.blocks n at.block p at.is (subst (λ (l : List Instruction). Among p (markers_in l)) (sym at.instructions) more))
    ])
writer_placed u g f valid p x _ (parameter {k} entry at) = inl entry

-- so all that is written is in places below a number, if the graph's are
pub placed_by : (u : UnitForm) (g : Graph) (f places : ℕ) → IsGraph u g → g.entry < places → ((p : ℕ) → Among p (markers_of_blocks g.blocks) → p < places) → ArePlaced f g places
placed_by u g f places valid entry marked p x w writes = elim (writer_placed u g f valid p x w writes) [ inl e ↦ subst (λ n. n < places) (sym e) entry | inr among ↦ marked p among ]

-- ---- Copies

module _ (u : UnitForm) (g : Graph) where
  -- what is copied is a name of the graph
  among_low : (p x t : ℕ) (place : Option ℕ) (all : List Instruction) → AllByRecursion (IsInstruction u g) all → first_among p x place all ≡ Some t → t < g.name_count
  among_low p x t place [] valid e = absurd (none-some t e)
  among_low p x t place (Marker q ∷ more) valid e = among_low p x t (Some q) more valid.1 e
  among_low p x t place (Note y v ∷ more) valid e = among_low p x t place more valid.1 e
  among_low p x t place (Move y (Name m) ∷ more) valid e = by_test (λ h. among_low p x t place more valid.1 h) (is_place p place && y == x) e
    where
      by_test : (first_among p x place more ≡ Some t → t < g.name_count) → (b : Bool) → (if b then Some m else first_among p x place more) ≡ Some t → t < g.name_count
      by_test rest true h = subst (λ n. n < g.name_count) (same_Some m t h) valid.0.1
      by_test rest false h = rest h
  among_low p x t place (Move y (Constant w) ∷ more) valid e = among_low p x t place more valid.1 e
  among_low p x t place (Move y (StaticAddress o n) ∷ more) valid e = among_low p x t place more valid.1 e
  among_low p x t place (Operate y o a b ∷ more) valid e = among_low p x t place more valid.1 e
  among_low p x t place (Truncate y o a ∷ more) valid e = among_low p x t place more valid.1 e
  among_low p x t place (Same y a b ∷ more) valid e = among_low p x t place more valid.1 e
  among_low p x t place (Address y o ∷ more) valid e = among_low p x t place more valid.1 e
  among_low p x t place (Load y o l ∷ more) valid e = among_low p x t place more valid.1 e
  among_low p x t place (Store o l a ∷ more) valid e = among_low p x t place more valid.1 e
  among_low p x t place (Zero o w ∷ more) valid e = among_low p x t place more valid.1 e
  among_low p x t place (CopyWords o b w ∷ more) valid e = among_low p x t place more valid.1 e
  among_low p x t place (Call y f a ∷ more) valid e = among_low p x t place more valid.1 e

  either_of : (a b : Option ℕ) (t : ℕ) → one_or_other a b ≡ Some t → (a ≡ Some t) ⊎ (b ≡ Some t)
  either_of None b t e = inr e
  either_of (Some a) b t e = inl e

  copies_low : (p x t : ℕ) (blocks : List Block) → AllByRecursion (IsBlock u g) blocks → first_copy p x blocks ≡ Some t → t < g.name_count
  copies_low p x t [] valid e = absurd (none-some t e)
  copies_low p x t (b ∷ more) valid e = elim (either_of (first_among p x b.place b.instructions) (first_copy p x more) t e) [
    | inl first ↦ among_low p x t b.place b.instructions valid.0.instructions first
    | inr rest ↦ copies_low p x t more valid.1 rest
  ]

  pub copied_low : IsGraph u g → AreCopiesBelow g g.name_count
  copied_low valid p x t copied = copies_low p x t g.blocks valid.blocks copied
