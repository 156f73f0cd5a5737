-- The markers of a graph, told by where they stand and by their list.
use Rattle.std.proofs.Common.{◌≡◌, ℕ, zero, suc, ◌⊎◌, inl, inr, Some, List, [], ◌∷◌, slice_get, refl, sym, ◌∙◌, subst}
use Rattle.std.proofs.lemmas.Option.{none-some, same_Some}
use Rattle.graph_core.specs.Graphs.{Instruction, Marker, Note, Move, Operate, Truncate, Same, Address, Load, Store, Zero, CopyWords, Call, Block, End, Graph}
use Rattle.graph_core.specs.Paths.{Among, History, Path, Way, behind, front, goes, passes, path, stays}
use Rattle.graph_core.specs.Validity.{markers_in, markers_of_blocks}
use Rattle.pass_law.specs.Keeps.{SameFunction}
use Rattle.graph_homes.specs.Owned.{IsPlaceOf}
use Rattle.graph_core.proofs.Among.{among_behind, among_either, among_front, marker_in}

-- and a place of theirs has its marker among them
marker_from : (all : List Instruction) (p : ℕ) → Among p (markers_in all) → Among (Marker p) all
marker_from [] p among = elim among [ ]
marker_from (Marker q ∷ rest) p front = front
marker_from (Marker q ∷ rest) p (behind among) = behind (marker_from rest p among)
marker_from (Note y v ∷ rest) p among = behind (marker_from rest p among)
marker_from (Move y a ∷ rest) p among = behind (marker_from rest p among)
marker_from (Operate y o a b ∷ rest) p among = behind (marker_from rest p among)
marker_from (Truncate y t a ∷ rest) p among = behind (marker_from rest p among)
marker_from (Same y a b ∷ rest) p among = behind (marker_from rest p among)
marker_from (Address y o ∷ rest) p among = behind (marker_from rest p among)
marker_from (Load y e l ∷ rest) p among = behind (marker_from rest p among)
marker_from (Store e l a ∷ rest) p among = behind (marker_from rest p among)
marker_from (Zero o k ∷ rest) p among = behind (marker_from rest p among)
marker_from (CopyWords o b k ∷ rest) p among = behind (marker_from rest p among)
marker_from (Call y f all ∷ rest) p among = behind (marker_from rest p among)

-- a marker of a block is one of all blocks
pub in_blocks : (blocks : List Block) (k p : ℕ) (b : Block) → slice_get blocks k ≡ Some b → Among (Marker p) b.instructions → Among p (markers_of_blocks blocks)
in_blocks [] k p b is among = absurd (none-some b is)
in_blocks (x ∷ more) zero p b is among = among_front (markers_in x.instructions) (markers_of_blocks more) p (marker_in x.instructions p (subst (λ (y : Block). Among (Marker p) y.instructions) (sym (same_Some x b is)) among))
in_blocks (x ∷ more) (suc k) p b is among = among_behind (markers_in x.instructions) (markers_of_blocks more) p (in_blocks more k p b is among)

-- a marker of all blocks is one of a block
of_block : (blocks : List Block) (p : ℕ) → Among p (markers_of_blocks blocks) → (k : ℕ) × (b : Block) × (slice_get blocks k ≡ Some b) × Among (Marker p) b.instructions
of_block [] p among = elim among [ ]
of_block (x ∷ more) p among = by (λ a. of_block more p a) (among_either (markers_in x.instructions) (markers_of_blocks more) p among)
  where
    by : (Among p (markers_of_blocks more) → (k : ℕ) × (b : Block) × (slice_get more k ≡ Some b) × Among (Marker p) b.instructions) → Among p (markers_in x.instructions) ⊎ Among p (markers_of_blocks more)
        → (k : ℕ) × (b : Block) × (slice_get (x ∷ more) k ≡ Some b) × Among (Marker p) b.instructions
    by rest (inl here) = (0, x, refl, marker_from x.instructions p here)
    by rest (inr later) = let r = rest later in (suc r.0, r.1, r.2, r.3)

-- Graphs of one function have the same places: what is a place of the second is one of the first.
pub place_back : (g h : Graph) → SameFunction g h → (place : ℕ) → IsPlaceOf h place → IsPlaceOf g place
place_back g h same place (inl entry) = inl (entry ∙ same.entry)
place_back g h same place (inr has) =
    let r = of_block g.blocks place ((same.markers place).1 (in_blocks h.blocks has.number place has.block has.is has.marker)) in
    inr (record { number = r.0; block = r.1; is = r.2; marker = r.3 })

-- ---- On paths

-- a marker of what stands behind an instruction
marker_further : (i : Instruction) (rest : List Instruction) (p : ℕ) → Among p (markers_in rest) → Among p (markers_in (i ∷ rest))
marker_further (Marker q) rest p among = behind among
marker_further _ rest p among = among

module _ (g : Graph) where
  -- on a way the markers of what is left of a block are the graph's
  way_marked : (all : List Instruction) (end : End) (h : History) (n : ℕ) (rest : List Instruction) (e : End) → ((q : ℕ) → Among q (markers_in all) → Among q (markers_of_blocks g.blocks)) → Way g 0 all end h n rest e → (p : ℕ) → Among p (markers_in rest) → Among p (markers_of_blocks g.blocks)
  way_marked all end [] n rest e are stays p among = are p among
  way_marked all end (_ ∷ h) n rest e are (passes {i = i} way w) p among = way_marked all end h n (i ∷ rest) e are way p (marker_further i rest p among)
  way_marked all end h n rest e are (goes way to b at) p among = in_blocks g.blocks n p b at (marker_from b.instructions p among)

  -- A place that a path comes to has its marker among the graph's.
  pub path_marked : (h : History) (n p : ℕ) (rest : List Instruction) (e : End) → Path g h n (Marker p ∷ rest) e → Among p (markers_of_blocks g.blocks)
  path_marked h n p rest e (path b at way) = way_marked b.instructions b.end h n (Marker p ∷ rest) e (λ q among. in_blocks g.blocks 0 q b at (marker_from b.instructions q among)) way p front
