-- Properties of points of a graph: what is left of a block, and its end.
use Rattle.std.specs.Prelude.{◌≡◌, ℕ, ◌+◌, ◌-◌, false, Some, List, [], ◌∷◌, slice_get}
use Rattle.graph_core.specs.Graphs.{Instruction, Marker, End, Block, Graph}
use Rattle.graph_core.specs.Uses.{targets_of}
use Rattle.graph_core.specs.Paths.{Among, is_marker}
use Rattle.graph_core.specs.WellMarked.{ComesToMarker}

module _ (blocks : List Block) where
  -- a property holds where the block of this label begins
  abbrev pub AtLabel : (List Instruction → End → Type 0) → (l : ℕ) → Type 0
  AtLabel G l = (b : Block) → slice_get blocks l ≡ Some b → G b.instructions b.end

  -- A property goes back: it holds in front of an instruction that is no marker where it holds behind it, and at the
  -- end of a block where it holds at each block to which that leads.
  pub record GoesBack (G : List Instruction → End → Type 0) : Type 0 where
    pub step : (i : Instruction) (rest : List Instruction) (e : End) → is_marker i ≡ false → G rest e → G (i ∷ rest) e
    pub end : (e : End) → ((l : ℕ) → Among l (targets_of e) → AtLabel G l) → G [] e

  -- A property goes on: the other way round.
  pub record GoesOn (G : List Instruction → End → Type 0) : Type 0 where
    pub step : (i : Instruction) (rest : List Instruction) (e : End) → is_marker i ≡ false → G (i ∷ rest) e → G rest e
    pub over : (e : End) → G [] e → (l : ℕ) → Among l (targets_of e) → AtLabel G l

  -- Inner blocks, the last one in order of evaluation first, stand among these blocks, of which there are so many, from
  -- the last one on.
  abbrev pub StandIn : (top : ℕ) → List Block → Type 0
  StandIn top inner = (k : ℕ) (b : Block) → slice_get inner k ≡ Some b → slice_get blocks (top - (k + 1)) ≡ Some b

module _ (g : Graph) where
  -- the first marker on some path from here is that of a place
  pub data Meets : List Instruction → End → ℕ → Type 0 where
    here : {p : ℕ} {rest : List Instruction} {e : End} → Meets (Marker p ∷ rest) e p
    past : {i : Instruction} {rest : List Instruction} {e : End} {p : ℕ} → is_marker i ≡ false → Meets rest e p
        → Meets (i ∷ rest) e p
    over : {e : End} {p : ℕ} (l : ℕ) (b : Block) → Among l (targets_of e) → slice_get g.blocks l ≡ Some b
        → Meets b.instructions b.end p → Meets [] e p

  -- Each marker that comes first on a path from here may follow, and each path comes to one or to an end.
  pub record IsLed (follows : ℕ → Type 0) (rest : List Instruction) (e : End) : Type 0 where
    pub meets : (p : ℕ) → Meets rest e p → follows p
    pub comes : ComesToMarker g rest e
