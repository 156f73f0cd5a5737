-- Well marked units: markers follow the flow of the program, and notes say what becomes of each scalar.
use Rattle.std.specs.Prelude.{◌≡◌, ◌≢◌, ℕ, ◌<◌, ◌≤◌, ◌⊎◌, true, false, Option, Some, option_map, List, [], ◌∷◌, ◌++◌, length, map, slice_get}
use Rattle.places.specs.Flow.{can_go, assigns}
use Rattle.debug_records.specs.Change.{is_taken}
use Rattle.debug_records.specs.declared.change.Kind.TheVariants.{Sunk}
use Rattle.graph_core.specs.Graphs.{Operand, Name, Of, Scalar, NoteValue, Is, Instruction, Marker, Note, Zero, CopyWords, End, Return, Block, Graph, Logged, UnitForm}
use Rattle.graph_core.specs.Uses.{is_computation, target_of, reads_of, reads_of_end, targets_of}
use Rattle.graph_core.specs.Paths.{History, Among, Path, place_of, writes, is_call, called, is_bound, written, unnoted, owed}
use Rattle.graph_core.specs.Validity.{AreAllDifferent, IsValid, place_behind}
use Rattle.graph_core.specs.Bounds.{most_words}

-- An instruction stands in a place, whether a path reaches it or not: here among these instructions, of which the first
-- stands where this place is in force.
pub data StandsIn (p : ℕ) (i : Instruction) : (in_force : Option ℕ) → List Instruction → Type 0 where
  here : {all : List Instruction} → StandsIn p i (Some p) (i ∷ all)
  behind : {place : Option ℕ} {j : Instruction} {all : List Instruction}
      → StandsIn p i (place_behind (j ∷ []) place) all → StandsIn p i place (j ∷ all)

-- an instruction of a graph stands in a place; a marker stands in the place before it
pub record InPlace (g : Graph) (p : ℕ) (i : Instruction) : Type 0 where
  pub number : ℕ
  pub block : Block
  pub is : slice_get g.blocks number ≡ Some block
  pub stands : StandsIn p i block.place block.instructions

-- Each way from here comes to a marker or to an end of the function.
pub data ComesToMarker (g : Graph) : List Instruction → End → Type 0 where
  at_marker : {p : ℕ} {rest : List Instruction} {e : End} → ComesToMarker g (Marker p ∷ rest) e
  on : {i : Instruction} {rest : List Instruction} {e : End} → ComesToMarker g rest e → ComesToMarker g (i ∷ rest) e
  leaves : {a : Option Operand} → ComesToMarker g [] (Return a)
  goes : {e : End}
      →
      ((l : ℕ) (b : Block) → Among l (targets_of e) → slice_get g.blocks l ≡ Some b
      → ComesToMarker g b.instructions b.end)
      → ComesToMarker g [] e

-- the variable of a scalar
abbrev pub IsVariable : Graph → (x variable : ℕ) → Type 0
IsVariable g x variable = option_map (λ (s : Scalar). s.variable) (slice_get g.scalars x) ≡ Some variable

-- a temporary that code motion did not make
pub record IsLocal (g : Graph) (t : ℕ) : Type 0 where
  pub temporary : length g.scalars ≤ t
  pub not_moved : t < g.first_moved

-- the log has a change by which an assignment of a variable went from a place
pub record WasTaken (log : List Logged) (place variable : ℕ) : Type 0 where
  pub change : Logged
  pub logged : Among change log
  pub taken : is_taken change.kind ≡ true
  pub at : change.place ≡ place
  pub of : change.variable ≡ variable

-- A scalar is written in a place: by an instruction, or, at the entry, by the call that binds the parameters to it.
pub data WrittenIn (g : Graph) (p x : ℕ) : Type 0 where
  instruction : (i : Instruction) → InPlace g p i → writes x i ≡ true → WrittenIn g p x
  bound : p ≡ g.entry → is_bound x g.parameters ≡ true → WrittenIn g p x

-- the log has a change by which an assignment of a variable sank
pub record WasSunk (log : List Logged) (variable : ℕ) : Type 0 where
  pub change : Logged
  pub logged : Among change log
  pub sunk : change.kind ≡ Sunk
  pub of : change.variable ≡ variable

-- In a place a scalar is written and noted in pairs: directly behind each instruction that writes it stands the
-- scalar's own note, and each note of it there is its own and stands directly behind an instruction that writes it. No
-- call binds it there.
pub record ArePaired (g : Graph) (p x : ℕ) : Type 0 where
  pub noted : (n : ℕ) (b : Block) (before rest : List Instruction) (i : Instruction) → slice_get g.blocks n ≡ Some b
      → b.instructions ≡ before ++ i ∷ rest
      → place_behind before b.place ≡ Some p → writes x i ≡ true
      → (more : List Instruction) × (rest ≡ Note x (Is (Of (Name x))) ∷ more)
  pub written : (n : ℕ) (b : Block) (before rest : List Instruction) (v : NoteValue) → slice_get g.blocks n ≡ Some b
      → b.instructions ≡ before ++ Note x v ∷ rest
      → place_behind before b.place ≡ Some p
      → (v ≡ Is (Of (Name x))) × (front : List Instruction) × (i : Instruction) × (before ≡ front ++ i ∷ [])
      × (writes x i ≡ true)
  pub unbound : p ≡ g.entry → is_bound x g.parameters ≡ false

module _ (u : UnitForm) (g : Graph) where
  -- A scalar may be written and noted in a place: the place assigns its variable, or an assignment of the variable
  -- sank, and the place writes and notes the scalar in pairs.
  abbrev pub MayStand : (p x variable : ℕ) → Type 0
  MayStand p x variable = (assigns u.assignments p variable ≡ true) ⊎ (WasSunk u.log variable × ArePaired g p x)

  -- An instruction behind a history may read what another place wrote to a temporary: it is a computation of a
  -- temporary that code motion made, or it writes a scalar in a place that does not assign its variable.
  pub data ReadsAcross (h : History) (i : Instruction) : Type 0 where
    moved : (t : ℕ) → target_of i ≡ Some t → g.first_moved ≤ t → is_computation i ≡ true → ReadsAcross h i
    sunk : (x variable p : ℕ) → target_of i ≡ Some x → IsVariable g x variable → place_of h ≡ Some p
        → assigns u.assignments p variable ≡ false → ReadsAcross h i

  -- A note is that of the scalar itself, in a place that writes it; or it stands in the place of an assignment of its
  -- variable that went, and does not write it any more.
  abbrev pub IsRightNote : (p x variable : ℕ) → NoteValue → Type 0
  IsRightNote p x variable v =
      ((v ≡ Is (Of (Name x))) × WrittenIn g p x)
      ⊎ ((v ≢ Is (Of (Name x))) × (WrittenIn g p x → ⊥) × WasTaken u.log p variable)

  -- A graph is well marked.
  pub record IsWellMarked : Type 0 where
    -- The graph begins with the marker of its entry, and no edge leads back there.
    pub begins : (b : Block) → slice_get g.blocks 0 ≡ Some b
        → (rest : List Instruction) × (b.instructions ≡ Marker g.entry ∷ rest)
    pub first : (n : ℕ) (b : Block) → slice_get g.blocks n ≡ Some b → Among 0 (targets_of b.end) → ⊥
    -- Markers that follow one another on a path are a step of the program's flow.
    pub flows : (h : History) (n : ℕ) (p q : ℕ) (rest : List Instruction) (e : End) → Path g h n (Marker q ∷ rest) e
        → place_of h ≡ Some p → can_go u.steps p q ≡ true
    -- Each cycle has a marker.
    pub cycles : (n : ℕ) (b : Block) → slice_get g.blocks n ≡ Some b → ComesToMarker g b.instructions b.end
    -- The entry's place has no call, and each path from the entry to an end has another marker.
    pub entry_calls : (i : Instruction) → InPlace g g.entry i → is_call i ≡ false
    pub leaves : (h : History) (n : ℕ) (a : Option Operand) → Path g h n [] (Return a) → place_of h ≢ Some g.entry
    -- Words that are set or copied are few, and precede each call of their place.
    pub zeroes : (p object words : ℕ) → InPlace g p (Zero object words) → words ≤ most_words
    pub copies : (p object bytes words : ℕ) → InPlace g p (CopyWords object bytes words) → words ≤ most_words
    pub zeroes_first : (h : History) (n : ℕ) (object words : ℕ) (rest : List Instruction) (e : End)
        → Path g h n (Zero object words ∷ rest) e → called h ≡ false
    pub copies_first : (h : History) (n : ℕ) (object bytes words : ℕ) (rest : List Instruction) (e : End)
        → Path g h n (CopyWords object bytes words ∷ rest) e → called h ≡ false
    -- No variable has two scalars.
    pub variables : AreAllDifferent (map (λ (s : Scalar). s.variable) g.scalars)
    -- A scalar is written and noted only where it may.
    pub written_where : (p x variable : ℕ) → IsVariable g x variable → WrittenIn g p x → MayStand p x variable
    pub noted_where : (p x variable : ℕ) (v : NoteValue) → IsVariable g x variable → InPlace g p (Note x v)
        → MayStand p x variable
    -- From the marker of a place that assigns a variable, and from each write of its scalar, each path to the next
    -- marker notes the scalar.
    pub noted : (h : History) (n : ℕ) (p x variable : ℕ) (rest : List Instruction) (e : End) → IsVariable g x variable
        → Path g h n (Marker p ∷ rest) e → owed (λ q. assigns u.assignments q variable) x h ≡ false
    -- Each note that a path comes to is right, and one that is of the scalar itself stands behind a write of it.
    pub right : (h : History) (n : ℕ) (p x variable : ℕ) (v : NoteValue) (rest : List Instruction) (e : End)
        → IsVariable g x variable → Path g h n (Note x v ∷ rest) e → place_of h ≡ Some p → IsRightNote p x variable v
    pub behind_write : (h : History) (n : ℕ) (x : ℕ) (rest : List Instruction) (e : End)
        → Path g h n (Note x (Is (Of (Name x))) ∷ rest) e → written g x h ≡ true
    -- No call stands between a write of a scalar and its note.
    pub calls : (h : History) (n : ℕ) (i : Instruction) (x variable : ℕ) (rest : List Instruction) (e : End)
        → IsVariable g x variable → Path g h n (i ∷ rest) e → is_call i ≡ true → unnoted x h ≡ false
    -- A temporary that code motion did not make is read only behind a write of it in the same place, but by what may
    -- read across places.
    pub local : (h : History) (n : ℕ) (i : Instruction) (t : ℕ) (rest : List Instruction) (e : End) → IsLocal g t
        → Path g h n (i ∷ rest) e → Among t (reads_of i)
        → (written g t h ≡ true) ⊎ ReadsAcross h i
    pub local_at_end : (h : History) (n : ℕ) (t : ℕ) (e : End) → IsLocal g t → Path g h n [] e
        → Among t (reads_of_end e) → written g t h ≡ true

-- A unit is well marked.
pub record AreWellMarked (u : UnitForm) : Type 0 where
  pub valid : IsValid u
  pub graphs : (f : ℕ) (g : Graph) → slice_get u.graphs f ≡ Some g → IsWellMarked u g
