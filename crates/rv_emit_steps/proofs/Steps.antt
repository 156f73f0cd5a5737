-- Where the words of an instruction that goes straight on stand in the code, the machine does the unit's step.
use Rattle.std.proofs.Common.{slice_get, ◌≡◌, ℕ, ◌+◌, ◌*◌, ap, ◌∙◌, Option, Some, None, sym, subst, refl, List, ◌∷◌, length, Bool}
use Rattle.std.specs.Prelude.{option_and_then, option_map}
use Rattle.rv_machine.specs.State.{MachineState}
use Rattle.graph_core.specs.Graphs.{Instruction, Marker, Note, Move, Operate, Truncate, Same, Address, Load, Store, Zero, CopyWords, Call}
use Rattle.graph_core.specs.Memory.{Memory, zeroed, copied}
use Rattle.graph_core.specs.Runs.{Configuration, Goes, step, step_from, with_memory}
use Rattle.graph_core.specs.Uses.{target_of}
use Rattle.graph_core.specs.Validity.{IsInstruction}
use Rattle.graph_homes.specs.Homed.{placed_instruction}
use Rattle.rv_emit_storage.specs.Storages.{StorageForm, home_at}
use Rattle.rv_emit_words.specs.Growing.{CodeState, with_code}
use Rattle.rv_emit_instructions.specs.Code.{with_instruction}
use Rattle.rv_emit_instructions.specs.Filling.{zero_code, copy_code}
use Rattle.rv_emit_steps.specs.Holding.{Holding, AreInRange}
use Rattle.rv_emit_steps.specs.Programs.{Program, CodeAt, Stands}
use Rattle.rv_emit_steps.specs.Frames.{Setting, IsStorage, HoldsFrame, DoesStep, IsStraight, straight_code}
use Rattle.rv_emit_steps.proofs.Instructions.{straight_does}
use Rattle.rv_emit_steps.proofs.Copies.{copy_comes}
use Rattle.rv_emit_steps.proofs.Zeros.{Comes, zero_comes}

-- The words of such an instruction are those that it becomes.
pub straight_appended : (g : StorageForm) (entry : ℕ) (x : Instruction) (s : CodeState) → IsStraight x → with_instruction g entry x s ≡ with_code (straight_code g s.held x) s
straight_appended g entry (Marker p) s straight = absurd straight
straight_appended g entry (Note x v) s straight = refl
straight_appended g entry (Move x a) s straight = refl
straight_appended g entry (Operate x op a b) s straight = refl
straight_appended g entry (Truncate x t a) s straight = refl
straight_appended g entry (Same x a b) s straight = refl
straight_appended g entry (Address x object) s straight = refl
straight_appended g entry (Load x e l) s straight = refl
straight_appended g entry (Store e l a) s straight = refl
straight_appended g entry (Zero object words) s straight = absurd straight
straight_appended g entry (CopyWords object bytes words) s straight = absurd straight
straight_appended g entry (Call target f all) s straight = absurd straight

-- What is left of the block is no part of the frame.
abbrev pub going_on : Configuration → List Instruction → Configuration
going_on c rest = record c { here = record c.here { rest = rest } }

pub rest_framed : (w : Setting) (c : Configuration) (h : Holding) (rest : List Instruction) → HoldsFrame w c h → HoldsFrame w (going_on c rest) h
rest_framed w c h rest frame = record {
  fetch = frame.fetch;
  scratch = frame.scratch;
  aligned = frame.aligned;
  map = frame.map;
  low = frame.low;
  high = frame.high;
  homes = frame.homes;
  objects = frame.objects;
  laid = frame.laid;
  free = frame.free;
  own = frame.own;
  static = frame.static;
  arrays = frame.arrays;
}

-- The step of the unit over homes.
pub step_done : (w : Setting) (c : Configuration) (h : Holding) (x : Instruction) (rest : List Instruction) → IsStorage w → HoldsFrame w c h → AreInRange h → c.here.rest ≡ placed_instruction (home_at w.storage) x ∷ rest
    → IsInstruction w.unit w.graph x → IsStraight x → DoesStep w (going_on c rest) h (option_map (home_at w.storage) (target_of x)) (straight_code w.storage w.held x) (step w.unit c)
step_done w c h x rest storage frame range is valid straight =
    subst (λ all. DoesStep w (going_on c rest) h (option_map (home_at w.storage) (target_of x)) (straight_code w.storage w.held x) (step_from w.unit all c)) (sym is)
    (straight_does w (going_on c rest) h storage (rest_framed w c h rest frame) range x valid straight)

-- Where the words stand that set an object to zero, the machine comes behind them, in at most as many instructions as they are and three for each word, unseen, and holds the frame of the configuration to which the step leads.
pub zero_arrives : (p : Program) (s : MachineState) (index : ℕ) (b : Bool) (w : Setting) (c d : Configuration) (h : Holding) (object words : ℕ) (rest : List Instruction) → IsStorage w → HoldsFrame w c h → Stands p s index h
    → CodeAt p index b (zero_code w.storage object words) → c.here.rest ≡ placed_instruction (home_at w.storage) (Zero object words) ∷ rest → IsInstruction w.unit w.graph (Zero object words) → step w.unit c ≡ Goes d
    → Comes p s index b (length (zero_code w.storage object words) + 3 * words) (zero_code w.storage object words) w c.memory h d
zero_arrives p s index b w c d h object words rest storage frame stands there is valid goes =
    by_memory (zeroed c.memory (c.here.first_object + object) words) refl (ap (λ all. step_from w.unit all c) (sym is) ∙ goes)
  where
    by_memory : (later : Option Memory) → zeroed c.memory (c.here.first_object + object) words ≡ later → with_memory (going_on c rest) later ≡ Goes d
        → Comes p s index b (length (zero_code w.storage object words) + 3 * words) (zero_code w.storage object words) w c.memory h d
    by_memory None made e = cc
    by_memory (Some later) made e =
        let same : record (going_on c rest) { memory = later } ≡ d = cc in
        subst (λ q. Comes p s index b (length (zero_code w.storage object words) + 3 * words) (zero_code w.storage object words) w c.memory h q) same
        (zero_comes p s index b w (going_on c rest) h storage (rest_framed w c h rest frame) object words later valid stands made there)

-- The same of the words that copy an array's bytes, with five instructions for each word.
pub copy_arrives : (p : Program) (s : MachineState) (index : ℕ) (b : Bool) (w : Setting) (c d : Configuration) (h : Holding) (object bytes words : ℕ) (rest : List Instruction) → IsStorage w → HoldsFrame w c h → Stands p s index h
    → CodeAt p index b (copy_code w.storage w.held object bytes words) → c.here.rest ≡ placed_instruction (home_at w.storage) (CopyWords object bytes words) ∷ rest → IsInstruction w.unit w.graph (CopyWords object bytes words) → step w.unit c ≡ Goes d
    → Comes p s index b (length (copy_code w.storage w.held object bytes words) + 5 * words) (copy_code w.storage w.held object bytes words) w c.memory h d
copy_arrives p s index b w c d h object bytes words rest storage frame stands code is valid goes =
    by_array (slice_get w.unit.array_bytes bytes) refl (ap (λ all. step_from w.unit all c) (sym is) ∙ goes)
  where
    by_memory : (all : List ℕ) → slice_get w.unit.array_bytes bytes ≡ Some all → (later : Option Memory) → copied c.memory (c.here.first_object + object) all words ≡ later → with_memory (going_on c rest) later ≡ Goes d
        → Comes p s index b (length (copy_code w.storage w.held object bytes words) + 5 * words) (copy_code w.storage w.held object bytes words) w c.memory h d
    by_memory all there None made e = cc
    by_memory all there (Some later) made e =
        let same : record (going_on c rest) { memory = later } ≡ d = cc in
        subst (λ q. Comes p s index b (length (copy_code w.storage w.held object bytes words) + 5 * words) (copy_code w.storage w.held object bytes words) w c.memory h q) same
        (copy_comes p s index b w (going_on c rest) h storage (rest_framed w c h rest frame) object bytes words all later valid.0 there stands made code)

    by_array : (found : Option (List ℕ)) → slice_get w.unit.array_bytes bytes ≡ found → with_memory (going_on c rest) (option_and_then (λ all. copied c.memory (c.here.first_object + object) all words) found) ≡ Goes d
        → Comes p s index b (length (copy_code w.storage w.held object bytes words) + 5 * words) (copy_code w.storage w.held object bytes words) w c.memory h d
    by_array None there e = cc
    by_array (Some all) there e = by_memory all there (copied c.memory (c.here.first_object + object) all words) refl e
