-- Where the words of an instruction stand that sets an object to zero or to bytes that are known, the machine does its step, and holds all activations behind it.
use Rattle.std.proofs.Common.{◌≡◌, ℕ, ◌+◌, ◌*◌, sym, ap, ◌∙◌, subst, None, Bool, List, ◌∷◌, length}
use Rattle.rv_code.specs.declared.instruction.Instruction.{Instruction as MachineInstruction}
use Rattle.rv_machine.specs.State.{MachineState}
use Rattle.graph_core.specs.Graphs.{Instruction, Zero, CopyWords, UnitForm}
use Rattle.graph_core.specs.Runs.{Activation, Configuration, Goes, step, step_from, execute}
use Rattle.graph_core.specs.Validity.{IsInstruction}
use Rattle.graph_homes.specs.Homed.{placed_instruction}
use Rattle.rv_emit_words.specs.declared.piece.Held.{Held}
use Rattle.rv_emit_storage.specs.Storages.{home_at}
use Rattle.rv_emit_instructions.specs.Filling.{zero_code, copy_code}
use Rattle.rv_emit_steps.specs.Holding.{Holding}
use Rattle.rv_emit_steps.specs.Programs.{Program, CodeAt, behind, Stands}
use Rattle.rv_emit_steps.specs.Frames.{Setting, HoldsFrame}
use Rattle.rv_emit_steps.proofs.Steps.{going_on, zero_arrives, copy_arrives}
use Rattle.rv_emit_steps.proofs.Zeros.{Comes}
use Rattle.rv_emit_runs.specs.Waiting.{FunctionCode, IsFunctionCode, setting_of, HoldsAll}
use Rattle.rv_emit_runs.proofs.Keeping.{all_kept}
use Rattle.rv_emit_runs.proofs.Loading.{kept_no_a0}
use Rattle.rv_emit_runs.proofs.Same.{SameActivation, StepKeeps, execute_keeps}
use Rattle.rv_emit_runs.proofs.Stepping.{AllCome, same_going_on}

module _ (codes : ℕ → FunctionCode) (u : UnitForm) (valid : (k : ℕ) → IsFunctionCode u (codes k)) (addresses : ℕ → ℕ) (resumes : Activation → ℕ → Type 0) (p : Program) (s : MachineState) (index : ℕ) (b : Bool) (held : List Held) (c d : Configuration) (h : Holding)
    (all : HoldsAll codes u addresses resumes held c h) (stands : Stands p s index h) where
  -- Words that come to where the machine holds the frame of a configuration come to where it holds all activations.
  all_come : (most : ℕ) (code : List MachineInstruction) → Comes p s index b most code (setting_of u addresses held (codes c.here.function)) c.memory h d → SameActivation c d → d.input ≡ c.input
      → AllCome p s index b most (index + length code) (behind b code) codes u addresses resumes held d
  all_come most code comes same input = record {
    count = comes.count;
    few = comes.few;
    holding = comes.holding;
    reaches = comes.reaches;
    all = all_kept codes u valid addresses resumes held held c d h comes.holding None all (record { registers = λ q none kept. comes.kept q kept.left (kept_no_a0 q kept); memory = λ y out. comes.outside y out }) tt tt same
        (subst (λ k. HoldsFrame (setting_of u addresses held (codes k)) d comes.holding) (sym same.function) comes.frame) (comes.input ∙ all.input ∙ sym input);
  }

  pub zero_all : (object words : ℕ) (rest : List Instruction) → CodeAt p index b (zero_code (codes c.here.function).storage object words) → c.here.rest ≡ placed_instruction (home_at (codes c.here.function).storage) (Zero object words) ∷ rest
      → IsInstruction u (codes c.here.function).graph (Zero object words) → step u c ≡ Goes d
      → AllCome p s index b (length (zero_code (codes c.here.function).storage object words) + 3 * words) (index + length (zero_code (codes c.here.function).storage object words)) (behind b (zero_code (codes c.here.function).storage object words)) codes u addresses resumes held d
  zero_all object words rest there is legal goes =
      let w : Setting = setting_of u addresses held (codes c.here.function) in
      let goes_here : execute u (Zero object words) (going_on c rest) ≡ Goes d = ap (λ l. step_from u l c) (sym is) ∙ goes in
      let kept : SameActivation (going_on c rest) d × (d.input ≡ c.input) = subst (λ q. StepKeeps (going_on c rest) q) goes_here (execute_keeps u (Zero object words) (going_on c rest) tt) in
      all_come (length (zero_code (codes c.here.function).storage object words) + 3 * words) (zero_code (codes c.here.function).storage object words)
      (zero_arrives p s index b w c d h object words rest ((valid c.here.function).storage addresses held) all.here stands there is legal goes) (same_going_on c d rest kept.0) kept.1

  pub copy_all : (object bytes words : ℕ) (rest : List Instruction) → CodeAt p index b (copy_code (codes c.here.function).storage held object bytes words)
      → c.here.rest ≡ placed_instruction (home_at (codes c.here.function).storage) (CopyWords object bytes words) ∷ rest → IsInstruction u (codes c.here.function).graph (CopyWords object bytes words) → step u c ≡ Goes d
      → AllCome p s index b (length (copy_code (codes c.here.function).storage held object bytes words) + 5 * words) (index + length (copy_code (codes c.here.function).storage held object bytes words)) (behind b (copy_code (codes c.here.function).storage held object bytes words)) codes u addresses
      resumes held d
  copy_all object bytes words rest there is legal goes =
      let w : Setting = setting_of u addresses held (codes c.here.function) in
      let goes_here : execute u (CopyWords object bytes words) (going_on c rest) ≡ Goes d = ap (λ l. step_from u l c) (sym is) ∙ goes in
      let kept : SameActivation (going_on c rest) d × (d.input ≡ c.input) = subst (λ q. StepKeeps (going_on c rest) q) goes_here (execute_keeps u (CopyWords object bytes words) (going_on c rest) tt) in
      all_come (length (copy_code (codes c.here.function).storage held object bytes words) + 5 * words) (copy_code (codes c.here.function).storage held object bytes words)
      (copy_arrives p s index b w c d h object bytes words rest ((valid c.here.function).storage addresses held) all.here stands there is legal goes) (same_going_on c d rest kept.0) kept.1
