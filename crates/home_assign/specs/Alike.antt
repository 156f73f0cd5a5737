-- What is seen of the run of a unit, and of the run of the same unit over homes.
use Rattle.std.specs.Prelude.{◌≡◌, ◌≢◌, ◌⊎◌, ℕ, ◌<◌, true, false, Some, List, ◌∷◌, length, map, option_map, slice_get}
use Rattle.std.specs.List.{AllByRecursion}
use Rattle.event_runs.specs.Agreement.{Pairs}
use Rattle.graph_homes.specs.Homes.{HoldsOnAllPaths, is_same_home}
use Rattle.graph_core.specs.declared.value.Value.{Value}
use Rattle.graph_core.specs.declared.value.Shadow.{Shadow}
use Rattle.graph_core.specs.declared.value.Shadow.TheVariants as shadow
use Rattle.graph_core.specs.Graphs.{Recipe, Is, Instruction, Note, Graph, UnitForm}
use Rattle.graph_core.specs.Memory.{Memory}
use Rattle.graph_core.specs.Values.{is_odd}
use Rattle.graph_core.specs.Runs.{Activation, Configuration, Frame, Event, Put, Stop, frame, recipe_value}
use Rattle.graph_solve_live.specs.Live.{IsReadFirst}
use Rattle.graph_homes.specs.Homed.{HomedForm, home_of, home_number, placed, placed_instruction, placed_end, placed_graph}
use Rattle.graph_homes.specs.Seen.{Seen, Going, Over}

-- A frame that a stop shows, and the same over homes: there no shadow is known.
pub record IsSameFrame (a b : Frame) : Type 0 where
  pub function : b.function ≡ a.function
  pub place : b.place ≡ a.place
  pub many : length b.shadows ≡ length a.shadows
  pub gone : AllByRecursion (λ s. s ≡ shadow.Gone) b.shadows

module _ (h : HomedForm) where
  -- No other name of a function has the home of this one.
  abbrev pub IsAlone : (function : ℕ) → Graph → (x : ℕ) → Type 0
  IsAlone f g x = (y : ℕ) → y < g.name_count → y ≢ x → is_same_home (home_of h f y) (home_of h f x) ≡ false

  -- what an activation over homes holds in the home of a name
  abbrev pub held_in : (function : ℕ) → (held : ℕ → Value) → (x : ℕ) → Value
  held_in f held x = held (home_number (home_of h f x))

  -- The activation over homes of an activation, in the same block, where its homes hold these values and it has these
  -- shadows.
  abbrev pub placed_activation : Activation → (held : ℕ → Value) → (shadows : ℕ → Shadow) → Activation
  placed_activation a held shadows = record {
    function = a.function;
    graph = placed_graph (home_of h a.function) a.graph;
    place = a.place;
    block = a.block;
    names = held;
    shadows = shadows;
    first_object = a.first_object;
    rest = map (placed_instruction (home_of h a.function)) a.rest;
    end = placed_end (home_of h a.function) a.end;
    wants = option_map (placed (home_of h a.function)) a.wants;
  }

  -- An activation of a function of the unit, and the same over homes: of it no shadow is known.
  pub record IsSame (a b : Activation) : Type 0 where
    pub of : slice_get h.unit.graphs a.function ≡ Some a.graph
    pub held : ℕ → Value
    pub shadows : ℕ → Shadow
    pub placed : b ≡ placed_activation a held shadows
    pub gone : (x : ℕ) → shadows x ≡ shadow.Gone

  -- The home of a name holds the name's value, if no other name has that home, or if the name is read from here on
  -- before it is written.
  abbrev pub HoldsNames : (a b : Activation) → Type 0
  HoldsNames a b =
      (x : ℕ) → x < a.graph.name_count → IsAlone a.function a.graph x ⊎ IsReadFirst a.graph x a.rest a.end
      → held_in a.function b.names x ≡ a.names x

  -- The same of an activation that waits for a call, but for the name that the call's value goes to.
  abbrev pub HoldsOthers : (a b : Activation) → Type 0
  HoldsOthers a b =
      (x : ℕ) → x < a.graph.name_count
      → IsAlone a.function a.graph x ⊎ (IsReadFirst a.graph x a.rest a.end × (a.wants ≢ Some x))
      → held_in a.function b.names x ≡ a.names x

  -- The two activations that go on, and two that wait.
  abbrev pub IsSameHere : (a b : Activation) → Type 0
  IsSameHere a b = IsSame a b × HoldsNames a b

  abbrev pub IsSameWaiting : (a b : Activation) → Type 0
  IsSameWaiting a b = IsSame a b × HoldsOthers a b

  -- A configuration of the unit, and one over homes: the same memory, input and activations.
  pub record AreSame (c d : Configuration) : Type 0 where
    pub memory : d.memory ≡ c.memory
    pub input : d.input ≡ c.input
    pub here : IsSameHere c.here d.here
    pub waiting : Pairs IsSameWaiting c.waiting d.waiting

  -- The value of a recipe, each name of which is read in its home.
  abbrev pub shown_value : (function : ℕ) → (held : ℕ → Value) → Recipe → Value
  shown_value f held r = recipe_value h.unit.statics (held_in f held) r

  -- The place where the activation begins: where a recipe gives a scalar's value on all paths to it, the scalar's
  -- shadow is known, and it is the value of that recipe over homes.
  abbrev pub AreShown : (a b : Activation) → Type 0
  AreShown a b =
      (x : ℕ) (r : Recipe) → HoldsOnAllPaths (home_of h a.function) a.graph a.place x r
      → (a.shadows x ≡ shadow.Known (shown_value a.function b.names r))
      × (is_odd (shown_value a.function b.names r) ≡ false)

  -- What is seen of the unit, and the same of the unit over homes.
  pub data SameSeen : Seen → Seen → Type 0 where
    byte : {b : ℕ} {c d : Configuration} → AreSame c d → SameSeen (Going (Put b) c) (Going (Put b) d)
    stop : {frames others : List Frame} {memory : Memory} {c d : Configuration}
        → frames ≡ frame c.here ∷ map frame c.waiting → memory ≡ c.memory → Pairs IsSameFrame frames others
        → AreSame c d → AreShown c.here d.here
        → SameSeen (Going (Stop frames memory) c) (Going (Stop others memory) d)
    over : {e : Event} → SameSeen (Over e) (Over e)

-- The next instruction is a note of what is not known: so the unit goes on no further, while over homes it does.
pub record IsOddNote (u : UnitForm) (c : Configuration) : Type 0 where
  pub x : ℕ
  pub recipe : Recipe
  pub rest : List Instruction
  pub next : c.here.rest ≡ Note x (Is recipe) ∷ rest
  pub odd : is_odd (recipe_value u.statics c.here.names recipe) ≡ true

-- Where no two names of a function share a home, each home holds the value of its name.
abbrev pub HoldsAll : (h : HomedForm) → (a b : Activation) → Type 0
HoldsAll h a b = (x : ℕ) → x < a.graph.name_count → held_in h a.function b.names x ≡ a.names x

-- The same of all activations of two configurations.
pub record HoldAll (h : HomedForm) (c d : Configuration) : Type 0 where
  pub here : HoldsAll h c.here d.here
  pub waiting : Pairs (HoldsAll h) c.waiting d.waiting

-- Where a recipe gives a scalar's value on all paths to the place where an activation is, its frame shows the value of
-- that recipe over homes.
abbrev pub ShowsRecipes : (h : HomedForm) → (a b : Activation) → Type 0
ShowsRecipes h a b =
    (x : ℕ) (r : Recipe) → x < length a.graph.scalars → HoldsOnAllPaths (home_of h a.function) a.graph a.place x r
    → slice_get (frame a).shadows x ≡ Some (shadow.Known (shown_value h a.function b.names r))
