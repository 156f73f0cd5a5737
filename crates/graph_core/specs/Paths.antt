-- Paths through a graph, and what is true along them. A path is its history: the instructions that it passed, the
-- latest first, each with the value that it wrote.
use Rattle.std.specs.Prelude.{◌≡◌, ℕ, ◌==◌, ◌&&◌, ◌||◌, Bool, true, false, if◌then◌else◌, Option, Some, None, List, [], ◌∷◌, length, slice_get}
use Rattle.std.specs.Option.{option_map_or}
use Rattle.std.specs.List.{list_any}
use Rattle.graph_core.specs.declared.value.Value.{Value}
use Rattle.graph_core.specs.Graphs.{NoteValue, Instruction, Marker, Note, Call, End, Block, Binding, ToScalar, ToObject, Graph}
use Rattle.graph_core.specs.Uses.{target_of, targets_of, reads_of}

-- An instruction that was passed: its block, how many instructions stand behind it there, what it is, and the value
-- that it wrote, if it writes one.
pub record Passed : Type 0 where
  pub block : ℕ
  pub left : ℕ
  pub instruction : Instruction
  pub wrote : Value

-- What was passed on a way, the latest first.
abbrev pub History : Type 0
History = List Passed

-- It is one of these.
pub data Among {A : Type 0} (a : A) : List A → Type 0 where
  front : {all : List A} → Among a (a ∷ all)
  behind : {b : A} {all : List A} → Among a all → Among a (b ∷ all)

-- A way from a point of a graph to another. A point is the number of a block, what is left of it, and its end. The way
-- is what it passed.
pub data Way (g : Graph) (from : ℕ) (rest : List Instruction) (end : End) : History → (block : ℕ) → List Instruction
    → End → Type 0 where
  stays : Way g from rest end [] from rest end
  passes : {h : History} {n : ℕ} {i : Instruction} {left : List Instruction} {e : End}
      → Way g from rest end h n (i ∷ left) e → (v : Value) → Way g from rest end (record {
        block = n;
        left = length left;
        instruction = i;
        wrote = v;
      } ∷ h) n left e
  goes : {h : History} {n l : ℕ} {e : End} → Way g from rest end h n [] e → Among l (targets_of e) → (b : Block)
      → slice_get g.blocks l ≡ Some b → Way g from rest end h l b.instructions b.end

-- A path from a function's entry to a point.
pub data Path (g : Graph) (h : History) (n : ℕ) (rest : List Instruction) (end : End) : Type 0 where
  path : (b : Block) → slice_get g.blocks 0 ≡ Some b → Way g 0 b.instructions b.end h n rest end → Path g h n rest end

-- the place in force: that of the last marker
abbrev pub place_by : Instruction → Option ℕ → Option ℕ
place_by (Marker p) before = Some p
place_by _ before = before

-- the place in force behind a history, if a marker was passed
abbrev pub place_of : History → Option ℕ
place_of [] = None
place_of (i ∷ h) = place_by i.instruction (place_of h)

-- an instruction writes a name
abbrev pub writes : ℕ → Instruction → Bool
writes x i = option_map_or (λ y. y == x) (target_of i) false

-- an instruction reads a name
abbrev pub reads : ℕ → Instruction → Bool
reads x i = list_any (λ y. y == x) (reads_of i)

-- an instruction begins a place
abbrev pub is_marker : Instruction → Bool
is_marker (Marker p) = true
is_marker _ = false

-- an instruction is a call
abbrev pub is_call : Instruction → Bool
is_call (Call x f all) = true
is_call _ = false

-- an instruction is a note of a scalar
abbrev pub notes : ℕ → Instruction → Bool
notes x (Note y v) = y == x
notes x _ = false

-- something was passed since the last marker
abbrev pub since_marker : (Instruction → Bool) → History → Bool
since_marker is [] = false
since_marker is (i ∷ h) = if is_marker i.instruction then false else is i.instruction || since_marker is h

-- a call was passed in the place in force
abbrev pub called : History → Bool
called h = since_marker is_call h

-- a parameter is bound to this scalar
abbrev pub is_bound : ℕ → List Binding → Bool
is_bound x [] = false
is_bound x (ToScalar y ∷ more) = y == x || is_bound x more
is_bound x (ToObject object ∷ more) = is_bound x more

module _ (g : Graph) where
  -- a marker begins a place that writes a name before any instruction: the entry, to which the call binds the
  -- parameters
  abbrev pub bound_at : ℕ → Instruction → Bool
  bound_at x (Marker p) = p == g.entry && is_bound x g.parameters
  bound_at x _ = false

  -- a name was written in the place in force
  abbrev pub written : ℕ → History → Bool
  written x [] = false
  written x (i ∷ h) =
      if is_marker i.instruction then bound_at x i.instruction else writes x i.instruction || written x h

-- a scalar was written behind its last note
abbrev pub unnoted : ℕ → History → Bool
unnoted x [] = false
unnoted x (i ∷ h) = if notes x i.instruction then false else writes x i.instruction || unnoted x h

-- A note of a scalar is owed: since the marker of a place that assigns it, or since a write of it.
abbrev pub owed_by : (assigns : ℕ → Bool) → ℕ → Instruction → Bool → Bool
owed_by assigns x (Marker p) before = assigns p
owed_by assigns x i before = if notes x i then false else writes x i || before

-- a note of a scalar is owed behind a history
abbrev pub owed : (assigns : ℕ → Bool) → ℕ → History → Bool
owed assigns x [] = false
owed assigns x (i ∷ h) = owed_by assigns x i.instruction (owed assigns x h)

-- what the last note of a scalar says
abbrev pub note_by : ℕ → Instruction → Option NoteValue → Option NoteValue
note_by x (Note y v) before = if y == x then Some v else before
note_by x _ before = before

-- the last note of a scalar, if one was passed
abbrev pub last_note : ℕ → History → Option NoteValue
last_note x [] = None
last_note x (i ∷ h) = note_by x i.instruction (last_note x h)
