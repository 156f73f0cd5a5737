-- Calls of the environment do the unit's steps: a byte is put out, a byte is read, the run ends.
use Rattle.std.proofs.Common.{◌≡◌, ◌≢◌, ℕ, ◌+◌, ◌%◌, ◌<◌, ◌≤◌, ⊎_elim, inl, inr, sym, ap, ◌∙◌, subst, arith, refl, Option, Bool, false, List, [], ◌∷◌, ◌++◌, append_assoc, length}
use Rattle.std.specs.Prelude.{option_map}
use Rattle.std.specs.Int.{cast_signed, w32}
use Rattle.std.specs.List.{AllByRecursion}
use Rattle.rv_code.specs.declared.instruction.Instruction.{Instruction as MachineInstruction}
use Rattle.rv_code.specs.declared.instruction.Instruction.TheVariants.{Immediate, Ecall}
use Rattle.rv_code.specs.declared.instruction.ImmediateOperation.TheVariants.{Addi}
use Rattle.rv_machine.specs.Run.{MachineEvent, Byte, Exit}
use Rattle.rv_machine.specs.State.{MachineState, word}
use Rattle.rv_machine.specs.Table.{operated_immediate}
use Rattle.graph_core.specs.declared.value.Value.{Value}
use Rattle.graph_core.specs.declared.value.Value.TheVariants.{Number, Pointer, Odd}
use Rattle.graph_core.specs.Graphs.{Operand, UnitForm}
use Rattle.graph_core.specs.Runs.{Activation, Configuration, Event, Stepped, Goes, Shows, Ends as EndsUnit, Wild, value, take_wanted, exited, put_out, got}
use Rattle.graph_core.specs.Validity.{IsOperand}
use Rattle.graph_homes.specs.declared.home.Home.{Home}
use Rattle.graph_homes.specs.Homed.{home_number, placed_operand}
use Rattle.rv_emit_words.specs.declared.piece.Held.{Held}
use Rattle.rv_emit_storage.specs.Storages.{StorageForm, home_at, source_of}
use Rattle.rv_emit_words.specs.Growing.{forgotten}
use Rattle.rv_emit_steps.specs.Holding.{Holding}
use Rattle.rv_emit_steps.specs.Doing.{done_by_all, writing}
use Rattle.rv_emit_steps.specs.Programs.{Program, IsAt, CodeAt, behind, Stands}
use Rattle.rv_emit_steps.specs.Points.{Ends, Reaches}
use Rattle.rv_emit_steps.proofs.Calling.{end_of_input_read, byte_read, byte_put, ends_with_status}
use Rattle.rv_emit_steps.proofs.Placing.{code_front, code_rest, done_by_both, can_do_both, reaches_then, reaches_end, regions_stay}
use Rattle.rv_emit_steps.proofs.Registers.{register_other}
use Rattle.rv_emit_steps.proofs.Straight.{code_does}
use Rattle.rv_emit_steps.specs.EmitMovesDoing.{HoldsAll as HoldsAllOf, value_of}
use Rattle.rv_emit_steps.specs.Meaning.{Means}
use Rattle.rv_emit_steps.specs.Frames.{Setting, IsStorage, AreScratch, HoldsFrame}
use Rattle.rv_emit_steps.proofs.Operands.{operand_means}
use Rattle.rv_emit_runs.specs.Keeping.{IsTargetAmong, IsSaved}
use Rattle.rv_emit_runs.specs.Passing.{passing_code, passing_held, ArePassed, AreWords}
use Rattle.rv_emit_runs.specs.Returns.{IsShownAs, byte as byte_so, exited as exited_so, Resumes, answer_code}
use Rattle.rv_emit_runs.specs.Settings.{IsKept}
use Rattle.rv_emit_runs.specs.Waiting.{FunctionCode, IsFunctionCode, setting_of, HoldsAll}
use Rattle.rv_emit_runs.proofs.Bringing.{words_in_range}
use Rattle.rv_emit_runs.proofs.Keeping.{all_reheld, input_changed}
use Rattle.rv_emit_runs.proofs.Loading.{all_left, held_forgotten, scratch_forgotten, kept_no_a0, kept_no_a7, held_but_a0}
use Rattle.rv_emit_runs.proofs.Passing.{Passes, arguments_pass}
use Rattle.rv_emit_runs.proofs.Returning.{EndsRun, answered_comes}
use Rattle.rv_emit_runs.proofs.Stepping.{AllCome}

-- Behind words that show a byte the machine holds a configuration.
pub record AllShow (p : Program) (s : MachineState) (b : Bool) (most to : ℕ) (codes : ℕ → FunctionCode) (u : UnitForm) (addresses : ℕ → ℕ) (resumes : Activation → ℕ → Type 0) (held : List Held) (e : Event) (d : Configuration) : Type 0 where
  pub count : ℕ
  pub few : count ≤ most
  pub event : MachineEvent
  pub shown : IsShownAs e event
  pub holding : Holding
  pub reaches : Reaches p count (record { state = s; shown = b }) (event ∷ []) to false holding
  pub all : HoldsAll codes u addresses resumes held d holding

-- Code does the step of a call of the environment. Where the step is wild, nothing is said of the code.
abbrev pub DoesCall : Program → MachineState → (index : ℕ) → Bool → (most to : ℕ) → (codes : ℕ → FunctionCode) → UnitForm → (addresses : ℕ → ℕ) → (resumes : Activation → ℕ → Type 0) → List Held → Stepped → Type 0
DoesCall p s i b most to codes u addresses resumes held (Goes d) = AllCome p s i b most to false codes u addresses resumes held d
DoesCall p s i b most to codes u addresses resumes held (Shows e d) = AllShow p s b most to codes u addresses resumes held e d
DoesCall p s i b most to codes u addresses resumes held (EndsUnit e) = EndsRun p s b most e
DoesCall p s i b most to codes u addresses resumes held Wild = Unit {0}

-- The machine stands at a call of the environment: its number is in a7, and its first argument, if it has one, in a0. Registers but t0 to t2, s0 and a0 to a7, memory and the input are as they were.
pub record StandsAtCall (p : Program) (s : MachineState) (b : Bool) (number most index : ℕ) (g : StorageForm) (later : List Held) (h : Holding) (arguments : List Operand) (rest : List MachineInstruction) : Type 0 where
  pub holding : Holding
  pub reaches : Reaches p most (record { state = s; shown = b }) [] index false holding
  pub at : IsAt p index false Ecall
  pub behind : CodeAt p (index + 1) false rest
  pub named : holding.registers 17 ≡ number
  pub first : (a : Operand) (more : List Operand) → arguments ≡ a ∷ more → holding.registers 10 ≡ value_of g h (source_of g a)
  pub kept : (q : ℕ) → IsKept q → holding.registers q ≡ h.registers q
  pub map : holding.regions ≡ h.regions
  pub memory : holding.memory ≡ h.memory
  pub input : holding.input ≡ h.input
  pub held : HoldsAllOf later holding
  pub scratch : AreScratch later

-- The words before the call lead there.
module _ (p : Program) (s : MachineState) (i : ℕ) (b : Bool) (w : Setting) (c : Configuration) (h : Holding) (storage : IsStorage w) (frame : HoldsFrame w c h) (stands : Stands p s i h) where
  none_behind : (code : List MachineInstruction) (x : MachineInstruction) → behind b (code ++ x ∷ []) ≡ false
  none_behind [] x = refl
  none_behind (y ∷ code) x = refl

  pub comes_to_call : (number : ℕ) (arguments : List Operand) (rest : List MachineInstruction) → number < 2048 → length arguments ≤ 7 → AllByRecursion (IsOperand w.unit.statics w.graph) arguments → AreWords arguments
      → CodeAt p i b (passing_code w.storage 0 w.held arguments ++ Immediate Addi 17 0 number ∷ Ecall ∷ rest)
      → StandsAtCall p s b number (length (passing_code w.storage 0 w.held arguments ++ Immediate Addi 17 0 number ∷ [])) (i + length (passing_code w.storage 0 w.held arguments ++ Immediate Addi 17 0 number ∷ [])) w.storage (forgotten 17 (passing_held 0 w.held arguments)) h arguments rest
  unfolding operated_immediate
  comes_to_call number arguments rest small few legal fit code =
      let passing = passing_code w.storage 0 w.held arguments in
      let held = passing_held 0 w.held arguments in
      let last = Immediate Addi 17 0 number ∷ [] in
      let pass : Passes w.storage passing held h h 0 arguments = arguments_pass w c h arguments storage frame (words_in_range h stands.in_range) legal fit (omega (arith, few)) in
      let t : Holding = done_by_all passing h in
      let v : ℕ = word (t.registers 0 + number) in
      let g : Holding = writing 17 v t in
      let both : done_by_all (passing ++ last) h ≡ g = done_by_both passing last h in
      let cut : CodeAt p i b ((passing ++ last) ++ Ecall ∷ rest) = subst (λ l. CodeAt p i b l) (sym (append_assoc passing last (Ecall ∷ rest))) code in
      let back = code_rest p i b (passing ++ last) (Ecall ∷ rest) cut in
      let here = none_behind passing (Immediate Addi 17 0 number) in
      let one = code_does p s i h b (passing ++ last) stands (code_front p i b (passing ++ last) (Ecall ∷ rest) cut) (can_do_both passing last h pass.can (tt, tt)) in
      let zero : t.registers 0 ≡ 0 = pass.kept 0 (λ e. cc) (inl (omega arith)) ∙ frame.fetch.none in
      let other : (q : ℕ) → q ≢ 17 → g.registers q ≡ t.registers q = λ q ne. register_other 17 v q t.registers ne in
      record {
        holding = g;
        reaches = subst (λ q. Reaches p (length (passing ++ last)) (record { state = s; shown = b }) [] (i + length (passing ++ last)) q g) here
            (subst (λ (u : Holding). Reaches p (length (passing ++ last)) (record { state = s; shown = b }) [] (i + length (passing ++ last)) (behind b (passing ++ last)) u) both one);
        at = subst (λ q. IsAt p (i + length (passing ++ last)) q Ecall) here back.0;
        behind = back.1;
        named = omega (arith, zero, small);
        first = λ a more is. other 10 (λ e. cc) ∙ (subst (λ l. ArePassed w.storage h t 0 l) is pass.passed).0;
        kept = λ q kept. other q (kept_no_a7 q kept) ∙ pass.kept q kept.left.t0 (⊎_elim (λ (l : q < 10). inl (omega (arith, l))) (λ (u : 17 < q). inr u) kept.arguments);
        map = regions_stay passing h;
        memory = pass.memory;
        input = pass.input;
        held = held_forgotten 17 held t g (λ q ne scr. other q ne) (all_left held pass.scratch) pass.all_held;
        scratch = scratch_forgotten 17 held pass.scratch;
      }

-- ---- The calls

module _ (p : Program) (codes : ℕ → FunctionCode) (u : UnitForm) (valid : (k : ℕ) → IsFunctionCode u (codes k)) (addresses : ℕ → ℕ) (goes_on : Activation → ℕ → Type 0) (s : MachineState) (i : ℕ) (b : Bool) (held : List Held) (c : Configuration) (h : Holding)
    (all : HoldsAll codes u addresses (Resumes p codes goes_on) held c h) (stands : Stands p s i h) (wanted : Option ℕ) (target : Option Home) (wants : wanted ≡ option_map home_number target) (among : IsTargetAmong (codes c.here.function).slots target)
    (saved : IsSaved (codes c.here.function).saved target) (arguments : List Operand) (few : length arguments ≤ 7) (legal : AllByRecursion (IsOperand u.statics (codes c.here.function).graph) arguments) (fit : AreWords arguments) where
  abbrev g : StorageForm
  g = (codes c.here.function).storage

  abbrev later : List Held
  later = forgotten 17 (passing_held 0 held arguments)

  abbrev answer : List MachineInstruction
  answer = answer_code (codes c.here.function).storage target

  abbrev front : ℕ → ℕ
  front n = length (passing_code (codes c.here.function).storage 0 held arguments ++ Immediate Addi 17 0 n ∷ [])

  abbrev last : ℕ → ℕ
  last n = i + front n + 1 + length (answer_code (codes c.here.function).storage target)

  abbrev Code : ℕ → Type 0
  Code n = CodeAt p i b (passing_code (codes c.here.function).storage 0 held arguments ++ Immediate Addi 17 0 n ∷ Ecall ∷ answer_code (codes c.here.function).storage target)

  at_call : (n : ℕ) → n < 2048 → Code n → StandsAtCall p s b n (front n) (i + front n) g later h arguments answer
  at_call n small code = comes_to_call p s i b (setting_of u addresses held (codes c.here.function)) c h ((valid c.here.function).storage addresses held) all.here stands n arguments (answer_code (codes c.here.function).storage target) small few legal fit code

  -- All activations, where the call wrote a0.
  behind_call : (n : ℕ) (at : StandsAtCall p s b n (front n) (i + front n) g later h arguments answer) (v : ℕ) → HoldsAll codes u addresses (Resumes p codes goes_on) later c (writing 10 v at.holding)
  behind_call n at v =
      let t : Holding = at.holding in
      let other : (q : ℕ) → q ≢ 10 → (writing 10 v t).registers q ≡ t.registers q = λ q ne. register_other 10 v q t.registers ne in
      all_reheld codes u valid addresses (Resumes p codes goes_on) held later c h (writing 10 v t) all (λ q kept. other q (kept_no_a0 q kept) ∙ at.kept q kept) at.map at.memory at.input (held_but_a0 later t (writing 10 v t) other at.scratch at.held) at.scratch

  -- What is left is to write the result.
  answers : (n k : ℕ) (d : Configuration) (t : Holding) (state : MachineState) (v : Value) → HoldsAll codes u addresses (Resumes p codes goes_on) later d t → d.here ≡ c.here → Stands p state k t → CodeAt p k false answer → Means addresses d.memory v (t.registers 10)
      → AllCome p state k false (length answer) (k + length answer) false codes u addresses (Resumes p codes goes_on) later (record d { here = take_wanted wanted v c.here })
  answers n k d t state v held_all same stands_there code means =
      answered_comes p codes u valid addresses goes_on later d t c.here v held_all same state k wanted target wants among saved stands_there code means

  -- A byte is put out.
  pub putchar_does : (a : Operand) (more : List Operand) → arguments ≡ a ∷ more → Code 2
      → DoesCall p s i b (front 2 + 1 + length answer) (last 2) codes u addresses (Resumes p codes goes_on) later (put_out c wanted (value u.statics c.here.names (placed_operand (home_at g) a)))
  putchar_does a more is code = by_value (value u.statics c.here.names (placed_operand (home_at g) a)) (operand_means (setting_of u addresses held (codes c.here.function)) c h a ((valid c.here.function).storage addresses held) all.here (subst (λ l. AllByRecursion (IsOperand u.statics (codes c.here.function).graph) l) is legal).0)
    where
      by_value : (v : Value) → Means addresses c.memory v (value_of g h (source_of g a)) → DoesCall p s i b (front 2 + 1 + length answer) (last 2) codes u addresses (Resumes p codes goes_on) later (put_out c wanted v)
      by_value (Number n) means =
          let at = at_call 2 (omega arith) code in
          let shown = byte_put p at.reaches.state (i + front 2) at.holding false at.reaches.stands at.at at.named in
          let word : at.holding.registers 10 ≡ n = at.first a more is ∙ means in
          let t : Holding = writing 10 (at.holding.registers 10 % 256) at.holding in
          let rest = answers 2 (i + front 2 + 1) c t shown.state (Number (n % 256)) (behind_call 2 at (at.holding.registers 10 % 256)) refl shown.stands at.behind (ap (λ x. x % 256) word) in
          record {
            count = front 2 + (1 + rest.count);
            few = let most = rest.few in omega (arith, most);
            event = Byte (n % 256);
            shown = byte_so;
            holding = rest.holding;
            reaches = subst (λ x. Reaches p (front 2 + (1 + rest.count)) (record { state = s; shown = b }) (Byte (x % 256) ∷ []) (last 2) false rest.holding) word
                (reaches_then p (front 2) (1 + rest.count) (record { state = s; shown = b }) [] (i + front 2) false at.holding (Byte (at.holding.registers 10 % 256) ∷ []) (last 2) false rest.holding at.reaches
                (reaches_then p 1 rest.count (record { state = at.reaches.state; shown = false }) (Byte (at.holding.registers 10 % 256) ∷ []) (i + front 2 + 1) false t [] (last 2) false rest.holding shown rest.reaches));
            all = rest.all;
          }
      by_value (Pointer object size offset) means = tt
      by_value Odd means = tt

  -- A byte of the input is read, or its end.
  pub getchar_does : Code 1 → DoesCall p s i b (front 1 + 1 + length answer) (last 1) codes u addresses (Resumes p codes goes_on) later (got c wanted c.input)
  getchar_does code = by_input c.input refl
    where
      goes : (d : Configuration) (v : ℕ) (t : Holding) → (at : StandsAtCall p s b 1 (front 1) (i + front 1) g later h arguments answer) → (one : Reaches p 1 (record { state = at.reaches.state; shown = false }) [] (i + front 1 + 1) false t)
          → HoldsAll codes u addresses (Resumes p codes goes_on) later d t → d.here ≡ c.here → t.registers 10 ≡ v
          → AllCome p s i b (front 1 + 1 + length answer) (last 1) false codes u addresses (Resumes p codes goes_on) later (record d { here = take_wanted wanted (Number v) c.here })
      goes d v t at one held_all same is =
          let rest = answers 1 (i + front 1 + 1) d t one.state (Number v) held_all same one.stands at.behind is in
          record {
            count = front 1 + (1 + rest.count);
            few = let most = rest.few in omega (arith, most);
            holding = rest.holding;
            reaches = reaches_then p (front 1) (1 + rest.count) (record { state = s; shown = b }) [] (i + front 1) false at.holding [] (last 1) false rest.holding at.reaches
                (reaches_then p 1 rest.count (record { state = at.reaches.state; shown = false }) [] (i + front 1 + 1) false t [] (last 1) false rest.holding one rest.reaches);
            all = rest.all;
          }

      by_input : (input : List ℕ) → c.input ≡ input → DoesCall p s i b (front 1 + 1 + length answer) (last 1) codes u addresses (Resumes p codes goes_on) later (got c wanted input)
      by_input [] none =
          let at = at_call 1 (omega arith) code in
          let empty : at.holding.input ≡ [] = at.input ∙ all.input ∙ none in
          goes c 4294967295 (writing 10 4294967295 at.holding) at (end_of_input_read p at.reaches.state (i + front 1) at.holding false at.reaches.stands at.at at.named empty) (behind_call 1 at 4294967295) refl refl
      by_input (byte ∷ input) some =
          let at = at_call 1 (omega arith) code in
          let there : at.holding.input ≡ byte ∷ input = at.input ∙ all.input ∙ some in
          goes (record c { input = input }) byte (record (writing 10 byte at.holding) { input = input }) at (byte_read p at.reaches.state (i + front 1) at.holding false byte input at.reaches.stands at.at at.named there)
          (input_changed codes u valid addresses (Resumes p codes goes_on) later c (writing 10 byte at.holding) input (behind_call 1 at byte)) refl refl

  -- The run ends.
  pub exit_does : (a : Operand) (more : List Operand) → arguments ≡ a ∷ more → Code 10
      → DoesCall p s i b (front 10 + 1 + length answer) (last 10) codes u addresses (Resumes p codes goes_on) later (exited (value u.statics c.here.names (placed_operand (home_at g) a)))
  exit_does a more is code = by_value (value u.statics c.here.names (placed_operand (home_at g) a)) (operand_means (setting_of u addresses held (codes c.here.function)) c h a ((valid c.here.function).storage addresses held) all.here (subst (λ l. AllByRecursion (IsOperand u.statics (codes c.here.function).graph) l) is legal).0)
    where
      by_value : (v : Value) → Means addresses c.memory v (value_of g h (source_of g a)) → DoesCall p s i b (front 10 + 1 + length answer) (last 10) codes u addresses (Resumes p codes goes_on) later (exited v)
      by_value (Number n) means =
          let at = at_call 10 (omega arith) code in
          let word : at.holding.registers 10 ≡ n = at.first a more is ∙ means in
          let ended = reaches_end p (front 10) 1 (record { state = s; shown = b }) [] (i + front 10) false at.holding (Exit (cast_signed w32 (at.holding.registers 10)) ∷ []) at.reaches
          (ends_with_status p at.reaches.state (i + front 10) at.holding false at.reaches.stands at.at at.named) in
          record {
            count = front 10 + 1;
            few = omega arith;
            event = Exit (cast_signed w32 n);
            shown = exited_so;
            ends = subst (λ x. Ends p.stops (front 10 + 1) (record { state = s; shown = b }) (Exit (cast_signed w32 x) ∷ [])) word ended;
          }
      by_value (Pointer object size offset) means = tt
      by_value Odd means = tt
