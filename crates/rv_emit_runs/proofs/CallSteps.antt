-- Where the words of a call stand, the machine does the unit's step: a function begins, a byte is put out or read, the run ends.
use Rattle.std.proofs.Common.{◌≡◌, ℕ, ◌+◌, ◌≤◌, sym, subst, refl, Option, Some, None, Bool, true, false, cond, List, [], ◌∷◌, ◌++◌, length, map, slice_get}
use Rattle.std.specs.Prelude.{option_map}
use Rattle.std.specs.List.{AllByRecursion, list_any}
use Rattle.memory_map.specs.Maps.{most_words}
use Rattle.rv_emit_storage.specs.UnitMaps.{map_of_unit}
use Rattle.rv_code.specs.declared.instruction.Instruction.TheVariants as instruction
use Rattle.rv_code.specs.declared.instruction.ImmediateOperation.TheVariants.{Addi}
use Rattle.rv_machine.specs.State.{MachineState}
use Rattle.graph_core.specs.declared.value.Value.{Value}
use Rattle.graph_core.specs.declared.instruction.Callee.{Callee}
use Rattle.graph_core.specs.declared.instruction.Callee.TheVariants as callee
use Rattle.graph_core.specs.Graphs.{Operand, Instruction, Call, Block, UnitForm}
use Rattle.graph_core.specs.Values.{is_odd}
use Rattle.graph_core.specs.Runs.{Activation, Configuration, Stepped, Wild, value, first_argument, put_out, exited, call, step, step_from}
use Rattle.graph_core.specs.Validity.{IsOperand, IsWanted}
use Rattle.graph_homes.specs.declared.home.Home.{Home}
use Rattle.graph_homes.specs.Homed.{home_number, placed, placed_operand, placed_instruction, placed_graph}
use Rattle.rv_emit_words.specs.declared.piece.Held.{Held}
use Rattle.rv_emit_storage.specs.Storages.{home_at}
use Rattle.rv_emit_words.specs.Growing.{forgotten}
use Rattle.rv_emit_steps.specs.Holding.{Holding}
use Rattle.rv_emit_steps.specs.Programs.{Program, distance, IsAt, CodeAt, behind, Stands}
use Rattle.rv_emit_steps.proofs.Steps.{going_on, rest_framed}
use Rattle.rv_emit_code.specs.Beginning.{beginning_behind, beginning_code}
use Rattle.rv_emit_runs.specs.Keeping.{IsTargetAmong, IsSaved}
use Rattle.rv_emit_runs.specs.Passing.{passing_code, passing_held, AreWords}
use Rattle.rv_emit_runs.specs.Pieces.{IsJump}
use Rattle.rv_emit_runs.specs.Returns.{Resumes, answer_code}
use Rattle.rv_emit_runs.specs.Waiting.{FunctionCode, IsFunctionCode, setting_of, HoldsAll}
use Rattle.rv_emit_runs.proofs.Beginning.{ShareStatics}
use Rattle.rv_emit_runs.proofs.Bindings.{AreBindable}
use Rattle.rv_emit_runs.proofs.Calling.{DoesFunctionCall, call_done}
use Rattle.rv_emit_runs.proofs.Library.{DoesCall, putchar_does, getchar_does, exit_does}

-- What is left of the block is no part of what the machine holds.
pub all_going_on : (codes : ℕ → FunctionCode) (u : UnitForm) (addresses : ℕ → ℕ) (resumes : Activation → ℕ → Type 0) (held : List Held) (c : Configuration) (h : Holding) (rest : List Instruction) → HoldsAll codes u addresses resumes held c h → HoldsAll codes u addresses resumes held (going_on c rest) h
all_going_on codes u addresses resumes held c h rest all = record {
  here = rest_framed (setting_of u addresses held (codes c.here.function)) c h rest all.here;
  waiting = all.waiting;
  depth = all.depth;
  room = all.room;
  objects = all.objects;
  input = all.input;
  below = all.below;
}

-- The home of a wanted name is one of the function's.
wanted_among : (u : UnitForm) (f : FunctionCode) → IsFunctionCode u f → (x : Option ℕ) → IsWanted f.graph x → IsTargetAmong f.slots (option_map (home_at f.storage) x)
wanted_among u f fits None is = tt
wanted_among u f fits (Some x) is = (fits.storage (λ n. n) []).homes x is

wanted_home : (home : ℕ → Home) (x : Option ℕ) → option_map (placed home) x ≡ option_map home_number (option_map home x)
wanted_home home None = refl
wanted_home home (Some x) = refl

-- A step that works with no value that is not known does what the call does.
unless_any_odd : (D : Stepped → Type 0) (b : Bool) (q : Stepped) → D Wild → D q → D (cond b Wild q)
unless_any_odd D true q wild done = wild
unless_any_odd D false q wild done = done

module _ (p : Program) (codes : ℕ → FunctionCode) (u : UnitForm) (valid : (k : ℕ) → IsFunctionCode u (codes k)) (addresses : ℕ → ℕ) (goes_on : Activation → ℕ → Type 0) (s : MachineState) (i : ℕ) (b : Bool) (held : List Held) (c : Configuration) (h : Holding)
    (all : HoldsAll codes u addresses (Resumes p codes goes_on) held c h) (stands : Stands p s i h) (target : Option ℕ) (wants : IsWanted (codes c.here.function).graph target) (rest : List Instruction) (arguments : List Operand)
    (legal : AllByRecursion (IsOperand u.statics (codes c.here.function).graph) arguments) (fit : AreWords arguments) where
  abbrev home : ℕ → Home
  home = home_at (codes c.here.function).storage

  abbrev values : List Value
  values = map (value u.statics c.here.names) (map (placed_operand (home_at (codes c.here.function).storage)) arguments)

  -- The step of a call, by what it calls.
  call_step : (D : Stepped → Type 0) (f : Callee) → c.here.rest ≡ placed_instruction (home_at (codes c.here.function).storage) (Call target f arguments) ∷ rest → D Wild
      → D (call u (going_on c rest) (option_map (placed (home_at (codes c.here.function).storage)) target) f (map (value u.statics c.here.names) (map (placed_operand (home_at (codes c.here.function).storage)) arguments))) → D (step u c)
  call_step D f is wild done = subst (λ l. D (step_from u l c)) (sym is) (unless_any_odd D (list_any is_odd values) (call u (going_on c rest) (option_map (placed home) target) f values) wild done)

  -- A function.
  pub function_call_done : ShareStatics codes → (function at : ℕ) (few : length arguments ≤ 8) (is_main : Bool) (block : Block) → c.here.rest ≡ placed_instruction (home_at (codes c.here.function).storage) (Call target (callee.Function function) arguments) ∷ rest
      → CodeAt p i b (passing_code (codes c.here.function).storage 0 held arguments)
      → (after : ℕ) → after ≤ i + length (passing_code (codes c.here.function).storage 0 held arguments) + 2 → IsJump p (i + length (passing_code (codes c.here.function).storage 0 held arguments)) (behind b (passing_code (codes c.here.function).storage 0 held arguments)) 1 1 at after
      → CodeAt p at false (beginning_code (codes function).storage (codes function).graph (codes function).saved (codes function).size is_main) → length arguments ≡ length (codes function).graph.parameters
      → AreBindable (codes function).storage (codes function).graph (codes function).saved (codes function).graph.parameters → after ≤ most_words (map_of_unit u)
      → Resumes p codes goes_on (record (going_on c rest).here { wants = option_map (placed (home_at (codes c.here.function).storage)) target }) after
      → slice_get u.graphs function ≡ Some (placed_graph (home_at (codes function).storage) (codes function).graph) → slice_get (placed_graph (home_at (codes function).storage) (codes function).graph).blocks 0 ≡ Some block
      → DoesFunctionCall p s b (length (passing_code (codes c.here.function).storage 0 held arguments) + 5 + length (beginning_behind (codes function).storage (codes function).graph (codes function).saved (codes function).size is_main))
      (at + 1 + 1 + 1 + 1 + length (beginning_behind (codes function).storage (codes function).graph (codes function).saved (codes function).size is_main)) codes u (Resumes p codes goes_on) (step u c)
  function_call_done share function at few is_main block is code after short jump begin many bindable low resume has_graph has_block =
      call_step
      (λ q. DoesFunctionCall p s b (length (passing_code (codes c.here.function).storage 0 held arguments) + 5 + length (beginning_behind (codes function).storage (codes function).graph (codes function).saved (codes function).size is_main))
      (at + 1 + 1 + 1 + 1 + length (beginning_behind (codes function).storage (codes function).graph (codes function).saved (codes function).size is_main)) codes u (Resumes p codes goes_on) q)
      (callee.Function function) is tt
      (call_done codes u valid addresses (Resumes p codes goes_on) share p s i b held (going_on c rest) h (all_going_on codes u addresses (Resumes p codes goes_on) held c h rest all) stands function at arguments few legal fit code after short jump is_main begin block (option_map (placed home) target) many bindable low
      resume has_graph has_block)

  -- The environment: how many words stand before the call, and what stands behind it.
  module _ (saved : IsSaved (codes c.here.function).saved (option_map (home_at (codes c.here.function).storage) target)) (few : length arguments ≤ 7) where
    abbrev pub front_words : ℕ → ℕ
    front_words n = length (passing_code (codes c.here.function).storage 0 held arguments ++ instruction.Immediate Addi 17 0 n ∷ [])

    abbrev pub answer_words : ℕ
    answer_words = length (answer_code (codes c.here.function).storage (option_map (home_at (codes c.here.function).storage) target))

    abbrev pub EnvironmentCode : ℕ → Type 0
    EnvironmentCode n = CodeAt p i b (passing_code (codes c.here.function).storage 0 held arguments ++ instruction.Immediate Addi 17 0 n ∷ instruction.Ecall ∷ answer_code (codes c.here.function).storage (option_map (home_at (codes c.here.function).storage) target))

    abbrev pub DoesEnvironment : ℕ → Stepped → Type 0
    DoesEnvironment n q = DoesCall p s i b (front_words n + 1 + answer_words) (i + front_words n + 1 + answer_words) codes u addresses (Resumes p codes goes_on) (forgotten 17 (passing_held 0 held arguments)) q

    pub putchar_done : (a : Operand) (more : List Operand) → arguments ≡ a ∷ more → c.here.rest ≡ placed_instruction (home_at (codes c.here.function).storage) (Call target callee.Putchar arguments) ∷ rest → EnvironmentCode 2 → DoesEnvironment 2 (step u c)
    putchar_done a more one is code =
        call_step (DoesEnvironment 2) callee.Putchar is tt
        (subst (λ l. DoesEnvironment 2 (put_out (going_on c rest) (option_map (placed home) target) (first_argument (map (value u.statics c.here.names) (map (placed_operand home) l))))) (sym one)
        (putchar_does p codes u valid addresses goes_on s i b held (going_on c rest) h (all_going_on codes u addresses (Resumes p codes goes_on) held c h rest all) stands (option_map (placed home) target) (option_map home target) (wanted_home home target)
        (wanted_among u (codes c.here.function) (valid c.here.function) target wants) saved arguments few legal fit a more one code))

    pub getchar_done : c.here.rest ≡ placed_instruction (home_at (codes c.here.function).storage) (Call target callee.Getchar arguments) ∷ rest → EnvironmentCode 1 → DoesEnvironment 1 (step u c)
    getchar_done is code =
        call_step (DoesEnvironment 1) callee.Getchar is tt
        (getchar_does p codes u valid addresses goes_on s i b held (going_on c rest) h (all_going_on codes u addresses (Resumes p codes goes_on) held c h rest all) stands (option_map (placed home) target) (option_map home target) (wanted_home home target)
        (wanted_among u (codes c.here.function) (valid c.here.function) target wants) saved arguments few legal fit code)

    pub exit_done : (a : Operand) (more : List Operand) → arguments ≡ a ∷ more → c.here.rest ≡ placed_instruction (home_at (codes c.here.function).storage) (Call target callee.Exit arguments) ∷ rest → EnvironmentCode 10 → DoesEnvironment 10 (step u c)
    exit_done a more one is code =
        call_step (DoesEnvironment 10) callee.Exit is tt
        (subst (λ l. DoesEnvironment 10 (exited (first_argument (map (value u.statics c.here.names) (map (placed_operand home) l))))) (sym one)
        (exit_does p codes u valid addresses goes_on s i b held (going_on c rest) h (all_going_on codes u addresses (Resumes p codes goes_on) held c h rest all) stands (option_map (placed home) target) (option_map home target) (wanted_home home target)
        (wanted_among u (codes c.here.function) (valid c.here.function) target wants) saved arguments few legal fit a more one code))
