-- What a pass leaves as it was, and what it adds to the log.
use Rattle.std.specs.Prelude.{◌≡◌, List, [], ◌∷◌, ◌++◌, length, ⊤}
use Rattle.std.specs.List.{AllByRecursion}
use Rattle.debug_records.specs.declared.change.PassName.{PassName}
use Rattle.debug_records.specs.declared.change.Kind as declared-kind
use Rattle.graph_core.specs.Graphs.{Graph, Logged, UnitForm}

-- A function keeps its entry, its parameters, its variables, and the number from which on temporaries are those of code
-- motion.
pub record KeepsFunction (g h : Graph) : Type 0 where
  pub entry : h.entry ≡ g.entry
  pub parameters : h.parameters ≡ g.parameters
  pub scalars : h.scalars ≡ g.scalars
  pub objects : h.objects ≡ g.objects
  pub first_moved : h.first_moved ≡ g.first_moved

-- A function keeps all that, its temporaries, and as many blocks as it had.
pub record KeepsAllButBlocks (g h : Graph) : Type 0 where
  pub function : KeepsFunction g h
  pub names : h.name_count ≡ g.name_count
  pub blocks : length h.blocks ≡ length g.blocks

-- There are as many functions as before, and what became of each is made so.
abbrev pub EachFunction : (IsMade : Graph → Graph → Type 0) → (before after : List Graph) → Type 0
EachFunction IsMade [] [] = ⊤
EachFunction IsMade [] (h ∷ hs) = ⊥
EachFunction IsMade (g ∷ gs) [] = ⊥
EachFunction IsMade (g ∷ gs) (h ∷ hs) = IsMade g h × EachFunction IsMade gs hs

-- What functions share is the same in both units.
pub record ShareTheSame (u v : UnitForm) : Type 0 where
  pub main : v.main ≡ u.main
  pub statics : v.statics ≡ u.statics
  pub array_bytes : v.array_bytes ≡ u.array_bytes
  pub steps : v.steps ≡ u.steps
  pub assignments : v.assignments ≡ u.assignments
  pub room : v.room ≡ u.room

-- a change of this kind, by this pass
pub record IsChangeOf (pass : PassName) (kind : declared-kind.Kind) (c : Logged) : Type 0 where
  pub by : c.pass ≡ pass
  pub is : c.kind ≡ kind

-- The log is the old one, and behind it only changes of one kind by one pass.
pub record AddsChanges (pass : PassName) (kind : declared-kind.Kind) (u v : UnitForm) : Type 0 where
  pub added : List Logged
  pub log : v.log ≡ u.log ++ added
  pub changes : AllByRecursion (IsChangeOf pass kind) added

-- There are the same functions, each with its entry, its parameters and its variables, and what functions share is the
-- same: `main`, static storage, the steps of the program's flow, which place assigns which variable, and the room.
pub record KeepsShape (u v : UnitForm) : Type 0 where
  pub shared : ShareTheSame u v
  pub functions : EachFunction KeepsFunction u.graphs v.graphs
