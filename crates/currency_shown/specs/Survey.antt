-- What a walk over a function bears out: at each place what is found there, and in each block to which one leads what
-- is so where it begins.
use Rattle.std.specs.Prelude.{◌≡◌, ℕ, ◌+◌, ◌-◌, ◌≤◌, ◌<◌, ◌⊎◌, min, true, false, Option, Some, List, [], ◌∷◌, length, map, slice_get}
use Rattle.std.specs.Global.{Vec}
use Rattle.places.specs.declared.table.PlaceRow as declared-row
use Rattle.places.specs.declared.table.PlaceTable as declared-table
use Rattle.graph_core.specs.declared.block.Block as declared-block
use Rattle.graph_core.specs.Graphs.{Instruction, Marker, Binding, Block, End, Graph, Jump, instruction_view, end_view}
use Rattle.graph_core.specs.Validity.{markers_in, markers_of_blocks, AreAllDifferent}
use Rattle.graph_paths.specs.Reached.{IsReached}
use Rattle.graph_core.specs.Uses.{targets_of}
use Rattle.graph_core.specs.Paths.{Among, History, Passed}
use Rattle.graph_core.specs.Graphs.{Logged, graph_view}
use Rattle.dead_pass_writes.specs.RemovedChangesTelling.{AreToldOf}
use Rattle.currency_notes.specs.declared.function.Function as declared-function
use Rattle.currency_notes.specs.declared.homes.Homes as declared-homes
use Rattle.currency_notes.specs.Sources.{place_where, IsToldBy}
use Rattle.currency_notes.specs.declared.state.State as declared-state
use Rattle.currency_notes.specs.Notes.{IsKept, IsSo}
use Rattle.currency_notes.specs.Full.{IsEqual}
use Rattle.currency_shown.specs.declared.found.Unshown as declared-unshown
use Rattle.currency_shown.specs.declared.found.Found as declared-found
use Rattle.currency_shown.specs.declared.states.States as declared-states
use Rattle.currency_shown.specs.declared.survey.Survey as declared-survey
use Rattle.currency_shown.specs.declared.numbering.Numbering as declared-numbering
use Rattle.currency_shown.specs.Chains.{comes_to, AreChains, IsWithinSome, Starts}
use Rattle.currency_shown.specs.Found.{entries_of, is_met, AreBelow, ArePlacesOf, AreVisibleTold, IsPlaceOf, IsPlaceReached, IsSeen, IsShownBy, Shows}

-- a path comes to what instructions and an end are left of, in some block
abbrev pub IsSomewhere : Graph → List Instruction → End → Type 0
IsSomewhere g rest e = (n : ℕ) × IsReached g n rest e

-- the places that instructions begin are different ones, of which none was met
pub record AreFresh (found : declared-found.Found) (places : List ℕ) : Type 0 where
  pub different : AreAllDifferent places
  pub unmet : (p : ℕ) → Among p places → is_met found p ≡ false

-- a place is begun in one of these blocks
pub record IsMarkedIn (blocks : List Block) (numbers : List ℕ) (p : ℕ) : Type 0 where
  pub number : ℕ
  pub block : Block
  pub among : Among number numbers
  pub is : slice_get blocks number ≡ Some block
  pub marked : Among p (markers_in block.instructions)

-- A variable is visible at a place, and a scalar is that variable.
pub record IsSeenAt (table : declared-table.PlaceTable) (numbering : declared-numbering.Numbering) (x p : ℕ)
    : Type 0 where
  pub row : declared-row.PlaceRow
  pub is : slice_get table.rows.items (p - 1) ≡ Some row
  pub seen : IsSeen numbering row.visible.items x

module _ (v : declared-survey.Survey) where
  -- What a function is walked over with fits it: its chains are of its blocks, its places are those of its number, each
  -- begun once, and its scalars those of its variables.
  pub record IsSurvey : Type 0 where
    pub chains : AreChains v.function.now.graph.now.blocks.items v.chains.now
    pub places : ArePlacesOf v.table.now v.number (graph_view v.function.now.graph.now)
    pub once : AreAllDifferent (markers_of_blocks (graph_view v.function.now.graph.now).blocks)
    pub numbers : AreBelow v.numbering (length v.function.now.graph.now.scalars.items)

  -- each place that is told of was met, is one of the function, is reached by a path, and the scalar is visible there
  abbrev pub IsMetWith : declared-found.Found → (x p : ℕ) → Type 0
  IsMetWith found x p =
      (is_met found p ≡ true) × IsPlaceOf v.table.now v.number p
      × IsPlaceReached (graph_view v.function.now.graph.now) p × IsSeenAt v.table.now v.numbering x p

  -- There is something of each place and each scalar, and what is told of places was met.
  pub record AreMet (found : declared-found.Found) : Type 0 where
    pub each : (x : ℕ) (u : declared-unshown.Unshown) → Among u (entries_of found.unshown.items x)
        → IsMetWith found x u.place.0
    pub places : length found.met.items ≡ min (length v.table.now.rows.items + 1) 18446744073709551615
    pub scalars : length found.unshown.items ≡ length v.function.now.graph.now.scalars.items

  -- More is met and told, and nothing more of places that were met.
  pub record IsExtended (old new : declared-found.Found) : Type 0 where
    pub met : (p : ℕ) → is_met old p ≡ true → is_met new p ≡ true
    pub kept : (x : ℕ) (u : declared-unshown.Unshown) → Among u (entries_of old.unshown.items x)
        → Among u (entries_of new.unshown.items x)
    pub only : (x : ℕ) (u : declared-unshown.Unshown) → Among u (entries_of new.unshown.items x)
        → Among u (entries_of old.unshown.items x) ⊎ (is_met old u.place.0 ≡ false)
    pub all : AreMet new

-- A state comes behind an instruction of another one, where a place is in force behind it: it is so behind the
-- instruction wherever that one is so before it, no more is lost than must be, and of a note the first change is told
-- that removed an assignment of its scalar in the place.
pub record IsStep (f : declared-function.Function) (place : Option ℕ) (old new : declared-state.State) (i : Instruction)
    : Type 0 where
  pub so : (ps : List Binding) (p : Passed) (h : History) → p.instruction ≡ i → IsSo f.homes ps old h
      → IsSo f.homes ps new (p ∷ h)
  pub kept : IsKept f.homes i old new
  pub told : (log : List Logged) → AreToldOf log f.removed.now → IsToldBy log (graph_view f.graph.now) i place old new

module _ (v : declared-survey.Survey) (states : declared-states.States) where
  -- a chain begins with a block, and no more is so there than in a state
  abbrev pub IsStartWithin : (block : ℕ) → declared-state.State → Type 0
  IsStartWithin l s = Starts v.chains.now l × IsWithinSome (comes_to states l) s

  -- no more is so in the blocks to which an end leads than in a state
  abbrev pub IsWithinNext : End → declared-state.State → Type 0
  IsWithinNext e s =
      (l : ℕ) → Among l (targets_of e) → l < length v.function.now.graph.now.blocks.items → IsStartWithin l s

  -- no more is so where the function begins
  abbrev pub IsWithinFirst : declared-state.State → Type 0
  IsWithinFirst s = 0 < length v.function.now.graph.now.blocks.items → IsStartWithin 0 s

module _ (v : declared-survey.Survey) (found : declared-found.Found) where
  abbrev pub homes_of_survey : declared-homes.Homes
  homes_of_survey = v.function.now.homes

  -- What is found at a place is so in a state: the place was met, and is one of the function; the scalars that are
  -- visible are told of, or shown by their homes; and what is told is so, and their homes do not show them.
  pub record IsFound (s : declared-state.State) (p : ℕ) : Type 0 where
    pub row : declared-row.PlaceRow
    pub some : 1 ≤ p
    pub is : slice_get v.table.now.rows.items (p - 1) ≡ Some row
    pub of : row.function ≡ v.number
    pub met : is_met found p ≡ true
    pub told : AreVisibleTold homes_of_survey s v.numbering p found.unshown.items row.visible.items
    pub shown : (x : ℕ) (u : declared-unshown.Unshown) → Among u (entries_of found.unshown.items x) → u.place.0 ≡ p
        → Shows homes_of_survey s x u.last
    pub apart : (x : ℕ) (u : declared-unshown.Unshown) → Among u (entries_of found.unshown.items x) → u.place.0 ≡ p
        → IsShownBy homes_of_survey s x → ⊥

  -- From state to state over instructions that are left of a block, and what is found at their markers is so.
  abbrev pub IsSound : (block : ℕ) → List Instruction → (first last : declared-state.State) → Type 0
  IsSound n [] s t = s ≡ t
  IsSound n (i ∷ rest) s t =
      ((p : ℕ) → i ≡ Marker p → IsFound s p)
      ×
      ((u : declared-state.State)
      × IsStep v.function.now (place_where (graph_view v.function.now.graph.now) n (length rest)) s u i
      × IsSound n rest u t)

module _ (v : declared-survey.Survey) (states : declared-states.States) (found : declared-found.Found) where
  -- Blocks follow one another, from state to state, and are sound, and no more is so where the last of them leads.
  abbrev pub IsChainSound : List ℕ → End → declared-state.State → Type 0
  IsChainSound [] e s = IsWithinNext v states e s
  IsChainSound (l ∷ more) e s =
      (e ≡ Jump l) × ((b : declared-block.Block) × (slice_get v.function.now.graph.now.blocks.items l ≡ Some b)
      ×
      ((t : declared-state.State) × IsSound v found l (map instruction_view b.instructions.items) s t
      × IsChainSound more (end_view b.end) t))

  -- A chain is sound from what is so where it begins, if a path comes to it.
  abbrev pub IsReachedSound : List ℕ → Type 0
  IsReachedSound chain =
      (l : ℕ) (more : List ℕ) → chain ≡ l ∷ more → (t : declared-state.State) → comes_to states l ≡ Some t
      → (s : declared-state.State) × IsEqual s t × IsChainSound chain (Jump l) s

  -- Each chain is.
  abbrev pub AreChainsSound : List (Vec ℕ) → Type 0
  AreChainsSound chains = (c : Vec ℕ) → Among c chains → IsReachedSound c.items

  -- What a function was walked over with is so in the end: no more is so where it begins, each chain is sound, and what
  -- is told of places was met.
  pub record IsWalked (entered : declared-state.State) : Type 0 where
    pub begins : IsWithinFirst v states entered
    pub sound : AreChainsSound v.chains.now
    pub met : AreMet v found
