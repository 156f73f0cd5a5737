-- Where the words of an instruction that goes straight on stand, the machine does its step, and holds all activations behind it.
use Rattle.std.proofs.Common.{◌≡◌, ℕ, ◌+◌, ◌≤◌, sym, ap, ◌∙◌, subst, arith, List, [], ◌∷◌, length, Bool}
use Rattle.std.specs.Prelude.{option_map}
use Rattle.rv_machine.specs.State.{MachineState}
use Rattle.graph_core.specs.Graphs.{Instruction, Marker, Note, Move, Operate, Truncate, Same, Address, Load, Store, Zero, CopyWords, Call, UnitForm}
use Rattle.graph_core.specs.Runs.{Activation, Configuration, Goes, step, step_from, execute}
use Rattle.graph_core.specs.Uses.{target_of}
use Rattle.graph_core.specs.Validity.{IsInstruction}
use Rattle.graph_homes.specs.declared.home.Home.{Home}
use Rattle.graph_homes.specs.Homed.{placed_instruction}
use Rattle.rv_emit_words.specs.declared.piece.Held.{Held}
use Rattle.rv_emit_storage.specs.Storages.{home_at}
use Rattle.rv_emit_steps.specs.Holding.{Holding}
use Rattle.rv_emit_steps.specs.Doing.{done_by_all}
use Rattle.rv_emit_steps.specs.Programs.{Program, CodeAt, behind, Stands}
use Rattle.rv_emit_steps.specs.Points.{Reaches}
use Rattle.rv_emit_steps.proofs.Straight.{code_does}
use Rattle.rv_emit_steps.specs.Frames.{Setting, IsStorage, HoldsFrame, Performs, DoesStep, IsStraight, straight_code}
use Rattle.rv_emit_steps.proofs.Steps.{going_on, step_done}
use Rattle.rv_emit_runs.specs.Keeping.{IsTargetAmong, IsSaved, LeavesRest, IsNoCall}
use Rattle.rv_emit_runs.specs.Waiting.{FunctionCode, IsFunctionCode, setting_of, HoldsAll}
use Rattle.rv_emit_runs.proofs.Keeping.{performed_leaves, all_kept}
use Rattle.rv_emit_runs.proofs.Same.{SameActivation, StepKeeps, execute_keeps}

-- The home that an instruction writes is one of the function's.
pub target_among : (w : Setting) (x : Instruction) → IsStorage w → IsInstruction w.unit w.graph x → IsStraight x → IsTargetAmong w.slots (option_map (home_at w.storage) (target_of x))
target_among w (Marker p) storage valid straight = tt
target_among w (Note x v) storage valid straight = tt
target_among w (Move x a) storage valid straight = storage.homes x valid.0
target_among w (Operate x op a b) storage valid straight = storage.homes x valid.0
target_among w (Truncate x t a) storage valid straight = storage.homes x valid.0
target_among w (Same x a b) storage valid straight = storage.homes x valid.0
target_among w (Address x object) storage valid straight = storage.homes x valid.0
target_among w (Load x e l) storage valid straight = storage.homes x valid.0
target_among w (Store e l a) storage valid straight = tt
target_among w (Zero object words) storage valid straight = absurd straight
target_among w (CopyWords object bytes words) storage valid straight = absurd straight
target_among w (Call target f all) storage valid straight = absurd straight

-- One that goes straight on is no call.
pub straight_no_call : (home : ℕ → Home) (x : Instruction) → IsStraight x → IsNoCall (placed_instruction home x)
straight_no_call home (Marker p) straight = tt
straight_no_call home (Note x v) straight = tt
straight_no_call home (Move x a) straight = tt
straight_no_call home (Operate x op a b) straight = tt
straight_no_call home (Truncate x t a) straight = tt
straight_no_call home (Same x a b) straight = tt
straight_no_call home (Address x object) straight = tt
straight_no_call home (Load x e l) straight = tt
straight_no_call home (Store e l a) straight = tt
straight_no_call home (Zero object words) straight = tt
straight_no_call home (CopyWords object bytes words) straight = tt
straight_no_call home (Call target f all) straight = absurd straight

-- What is left of the block is no part of what is kept.
pub same_going_on : (c d : Configuration) (rest : List Instruction) → SameActivation (going_on c rest) d → SameActivation c d
same_going_on c d rest same = record { function = same.function; first = same.first; waiting = same.waiting; those = same.those; longer = same.longer }

-- The machine comes behind words, in at most so many instructions, unseen, and holds a configuration.
pub record AllCome (p : Program) (s : MachineState) (index : ℕ) (b : Bool) (most to : ℕ) (last : Bool) (codes : ℕ → FunctionCode) (u : UnitForm) (addresses : ℕ → ℕ) (resumes : Activation → ℕ → Type 0) (held : List Held) (d : Configuration) : Type 0 where
  pub count : ℕ
  pub few : count ≤ most
  pub holding : Holding
  pub reaches : Reaches p count (record { state = s; shown = b }) [] to last holding
  pub all : HoldsAll codes u addresses resumes held d holding

module _ (codes : ℕ → FunctionCode) (u : UnitForm) (valid : (k : ℕ) → IsFunctionCode u (codes k)) (addresses : ℕ → ℕ) (resumes : Activation → ℕ → Type 0) where
  pub straight_comes : (p : Program) (s : MachineState) (index : ℕ) (b : Bool) (held : List Held) (c d : Configuration) (h : Holding) (x : Instruction) (rest : List Instruction) → HoldsAll codes u addresses resumes held c h → Stands p s index h
      → CodeAt p index b (straight_code (codes c.here.function).storage held x) → c.here.rest ≡ placed_instruction (home_at (codes c.here.function).storage) x ∷ rest → IsInstruction u (codes c.here.function).graph x → IsStraight x
      → IsSaved (codes c.here.function).saved (option_map (home_at (codes c.here.function).storage) (target_of x)) → step u c ≡ Goes d
      → AllCome p s index b (length (straight_code (codes c.here.function).storage held x)) (index + length (straight_code (codes c.here.function).storage held x)) (behind b (straight_code (codes c.here.function).storage held x)) codes u addresses resumes held d
  straight_comes p s index b held c d h x rest all stands there is legal straight saved goes =
      let f : FunctionCode = codes c.here.function in
      let w : Setting = setting_of u addresses held f in
      let storage : IsStorage w = (valid c.here.function).storage addresses held in
      let code = straight_code f.storage held x in
      let target = option_map (home_at f.storage) (target_of x) in
      let done : Performs w (going_on c rest) h target code d = subst (λ q. DoesStep w (going_on c rest) h target code q) goes (step_done w c h x rest storage all.here stands.in_range is legal straight) in
      let left : LeavesRest w (going_on c rest) h (done_by_all code h) target = performed_leaves w (going_on c rest) d h target code done in
      let goes_here : execute u (placed_instruction (home_at f.storage) x) (going_on c rest) ≡ Goes d = ap (λ l. step_from u l c) (sym is) ∙ goes in
      let step_same : SameActivation (going_on c rest) d × (d.input ≡ c.input) = (subst (λ q. StepKeeps (going_on c rest) q) goes_here (execute_keeps u (placed_instruction (home_at f.storage) x) (going_on c rest) (straight_no_call (home_at f.storage) x straight))) in
      let same : SameActivation c d = same_going_on c d rest step_same.0 in
      record {
        count = length code;
        few = omega arith;
        holding = done_by_all code h;
        reaches = code_does p s index h b code stands there done.can;
        all = all_kept codes u valid addresses resumes held held c d h (done_by_all code h) target all (record { registers = left.registers; memory = left.memory }) (target_among w x storage legal straight) saved same
            (subst (λ k. HoldsFrame (setting_of u addresses held (codes k)) d (done_by_all code h)) (sym same.function) done.frame) (done.input ∙ all.input ∙ sym step_same.1);
      }
