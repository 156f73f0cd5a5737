-- What can be told of scalars that their homes do not show.
use Rattle.std.specs.Prelude.{◌≡◌, ◌≢◌, ℕ, ◌+◌, ◌^◌, ◌<◌, ◌≤◌, Some, None, List, ◌∷◌, length, map}
use Rattle.places.specs.declared.flow.FlowTable.{FlowTable}
use Rattle.places.specs.declared.table.PlaceTable as declared-table
use Rattle.graph_homes.specs.declared.home.Home.{Home}
use Rattle.graph_homes.specs.Homes.{HoldsOnAllPaths}
use Rattle.graph_core.specs.Graphs.{Instruction, Marker, End, Scalar, Graph, Logged, Recipe, Is, Of, Name, graph_view}
use Rattle.graph_core.specs.Paths.{Among, History, Path, last_note}
use Rattle.graph_core.specs.Validity.{AreAllDifferent, markers_of_blocks}
use Rattle.graph_core.specs.WellMarked.{IsVariable}
use Rattle.currency_notes.specs.Homes.{home_in}
use Rattle.currency_notes.specs.Sources.{IsSource}
use Rattle.currency_shown.specs.declared.found.LastNote as declared-last
use Rattle.currency_shown.specs.declared.found.Unshown as declared-unshown
use Rattle.currency_shown.specs.Found.{ArePlacesOf}
use Rattle.currency_shown.specs.Shown.{AreDistinct, IsVisible}
use Rattle.currency_writers.specs.declared.writers.Writers as declared-writers
use Rattle.currency_writers.specs.Writers.{AreHomed}
use Rattle.currency_hiding.specs.declared.teller.Teller as declared-teller
use Rattle.currency_hiding.specs.Changes.{log_of}
use Rattle.currency_hiding.specs.Found.{AreCopiesBelow, ArePlaced as AreWritersPlaced}
use Rattle.currency_hiding.specs.First.{HasNone}

-- Where the last note of a scalar is not its own, a change of the log removed an assignment of its variable in the
-- place of the note.
abbrev pub AreSourced : List Logged → Graph → Type 0
AreSourced log g =
    (h : History) (n p x variable : ℕ) (rest : List Instruction) (e : End) (r : Recipe) → Path g h n (Marker p ∷ rest) e
    → IsVariable g x variable → last_note x h ≡ Some (Is r) → r ≢ Of (Name x)
    → (number : ℕ) × IsSource log g x h number

-- SHOWN OR HIDDEN: where a scalar's variable is visible and nothing may be told to hide it, its own value holds on all
-- paths.
abbrev pub AreShownOrHidden : List Logged → FlowTable → (home : ℕ → Home) → (f : ℕ) → Graph → declared-table.PlaceTable
    → Type 0
AreShownOrHidden log flow home f g table =
    (p x variable : ℕ) → IsVariable g x variable → IsVisible table p variable → HasNone log flow home f g x variable p
    → HoldsOnAllPaths home g p x (Of (Name x))

-- Of each of these entries something can be told, at one of so many places: a change is told beside a recipe, and where
-- no recipe is, it is not so that nothing may be told.
pub record CanBeTold (HasNothing : (p : ℕ) → Type 0) (places : ℕ) (entries : List declared-unshown.Unshown)
    : Type 0 where
  pub placed : (u : declared-unshown.Unshown) → Among u entries → u.place.0 < places
  pub sourced : (u : declared-unshown.Unshown) (l : declared-last.LastNote) → Among u entries → u.last ≡ Some l
      → l.change ≢ None
  pub some : (u : declared-unshown.Unshown) → Among u entries → u.last ≡ None → HasNothing u.place.0 → ⊥

-- By what is known of a unit and of what writes a function's names nothing may be told at a place.
abbrev pub HasNoneBy : declared-teller.Teller → declared-writers.Writers → (x variable p : ℕ) → Type 0
HasNoneBy t w x variable p =
    HasNone (log_of t.changes) t.search.flow.table.now (home_in w.homes.now) w.function (graph_view w.graph.now)
    x variable p

-- WHAT CAN BE TOLD OF A FUNCTION: its names have their homes, its places are those of a table, no two of its scalars
-- are one variable, notes of its scalars are their own or have changes, and a scalar is shown or hidden by evidence.
pub record IsTellable (log : List Logged) (flow : FlowTable) (homes : List Home) (number : ℕ) (g : Graph)
    (table : declared-table.PlaceTable) : Type 0 where
  pub homed : AreHomed number g homes
  pub written : AreWritersPlaced number g (length table.rows.items + 1)
  pub copied : AreCopiesBelow g (length homes)
  pub distinct : 1 ≤ length g.scalars → AreDistinct homes
  pub scalars : length g.scalars < 2 ^ 32
  pub variables : AreAllDifferent (map (λ (s : Scalar). s.variable) g.scalars)
  pub once : AreAllDifferent (markers_of_blocks g.blocks)
  pub places : ArePlacesOf table number g
  pub rows : length table.rows.items < 4294967295
  pub sourced : AreSourced log g
  pub evidence : AreShownOrHidden log flow (home_in homes) number g table
