-- The machine does the step of a call: a function begins, a byte is put out or read, the run ends.
use Rattle.std.proofs.Common.{◌≡◌, ℕ, ◌+◌, ◌-◌, ◌<◌, ◌≤◌, sym, ap, ◌∙◌, subst, arith, refl, Option, Some, None, Bool, true, false, cond, List, [], ◌∷◌, ◌++◌, length, length-append, map, slice_get}
use Rattle.std.specs.Prelude.{◌==◌, option_map}
use Rattle.std.specs.List.{AllByRecursion, list_any}
use Rattle.std.proofs.lemmas.Option.{slice_get_within}
use Rattle.memory_map.specs.Maps.{most_words}
use Rattle.rv_emit_runs.proofs.Maps.{code_map, jump_inside}
use Rattle.rv_emit_storage.specs.UnitMaps.{map_of_unit}
use Rattle.rv_code.specs.declared.instruction.Instruction.{Instruction as MachineInstruction}
use Rattle.rv_code.specs.declared.instruction.Instruction.TheVariants as instruction
use Rattle.rv_code.specs.declared.instruction.ImmediateOperation.TheVariants.{Addi}
use Rattle.graph_core.specs.declared.value.Value.{Value}
use Rattle.graph_core.specs.declared.instruction.Callee.{Callee}
use Rattle.graph_core.specs.declared.instruction.Callee.TheVariants as callee
use Rattle.graph_core.specs.Graphs.{Operand, Instruction, Call, Graph, UnitForm}
use Rattle.graph_core.specs.Paths.{called}
use Rattle.graph_core.specs.Runs.{Activation, Configuration, TooDeep, Stepped, Goes, Shows, Ends as EndsUnit, Wild, value, begun, goes_if, execute, step}
use Rattle.graph_core.specs.Values.{is_odd}
use Rattle.graph_core.specs.Validity.{IsValid, IsOperand, IsWanted, HasParameters, KeepsPlace}
use Rattle.graph_homes.specs.declared.home.Home.{Home}
use Rattle.graph_homes.specs.Homed.{HomedForm, HaveHomes, home_number, placed, placed_operand, placed_instruction, placed_graph, placed_block, over_homes}
use Rattle.rv_emit_tables.specs.Emitted.{EmittedForm}
use Rattle.rv_emit_words.specs.declared.piece.Held.{Held}
use Rattle.rv_emit_storage.specs.Storages.{home_at}
use Rattle.rv_emit_words.specs.Growing.{CodeState, with_code, forgotten}
use Rattle.rv_emit_instructions.specs.Code.{with_instruction}
use Rattle.rv_emit_steps.specs.Programs.{distance, CodeAt, behind}
use Rattle.rv_emit_steps.specs.Points.{Point}
use Rattle.rv_emit_steps.proofs.Steps.{going_on}
use Rattle.rv_emit_code.specs.Beginning.{beginning_behind}
use Rattle.rv_emit_runs.specs.Keeping.{IsTargetAmong, IsSaved}
use Rattle.rv_emit_runs.specs.Passing.{passing_code, passing_held, AreWords}
use Rattle.rv_emit_runs.specs.Placed.{PlacedAt}
use Rattle.rv_emit_runs.specs.Returns.{Resumes, answer_code}
use Rattle.rv_emit_runs.specs.Waiting.{FunctionCode, IsFunctionCode}
use Rattle.rv_emit_runs.proofs.Calling.{DoesFunctionCall}
use Rattle.rv_emit_runs.proofs.CallSteps.{function_call_done, putchar_done, getchar_done, exit_done}
use Rattle.rv_emit_runs.proofs.Library.{DoesCall}
use Rattle.rv_emit_runs.specs.Laid.{graph_at, IsCode}
use Rattle.rv_emit_runs.proofs.Beginnings.{begins_there, first_block, block_over_homes, activation_begins, enters_over_homes}
use Rattle.rv_emit_runs.proofs.Frames.{graph_is, graph_valid, over_homes_there, all_codes, share_statics, are_bindable}
use Rattle.rv_emit_runs.proofs.Places.{keeps_same, unmarked_keeps, unmarked_behind}
use Rattle.rv_emit_runs.proofs.Related.{GoesOn, Related, DoesStep, does_within, come_unseen, on_same, end_done}
use Rattle.rv_emit_runs.proofs.Rest.{program_in, codes_in, blocks_in, places_in, position_of, RestFrom, NextAt, next_at, rest_behind}
use Rattle.rv_emit_runs.proofs.States.{growing, going_on_from, getchar_is, putchar_is, exit_is, function_called, function_is, function_goes_on, called_pieces, CallThere, function_there}
use Rattle.rv_emit_runs.proofs.Straights.{rest_is, step_is, words_done, words_few, passes_it, saved_is}
use Rattle.rv_emit_runs.proofs.Tracks.{pieces_of, Position, passed_by, at_block, Advances, begins_function, calls_function}
use Rattle.rv_emit_runs.proofs.UnitSteps.{spot_of, KeepsSpot, IsPlain, execute_spot, ShowsRightly, step_right}

-- The home of a wanted name is one of the function's, and its number is that of the name over homes.
wanted_among : (u : UnitForm) (f : FunctionCode) → IsFunctionCode u f → (x : Option ℕ) → IsWanted f.graph x → IsTargetAmong f.slots (option_map (home_at f.storage) x)
wanted_among u f fits None is = tt
wanted_among u f fits (Some x) is = (fits.storage (λ n. n) []).homes x is

wanted_home : (home : ℕ → Home) (x : Option ℕ) → option_map (placed home) x ≡ option_map home_number (option_map home x)
wanted_home home None = refl
wanted_home home (Some x) = refl

-- A list of one.
one_of : (all : List Operand) → length all ≡ 1 → (a : Operand) × (all ≡ a ∷ [])
one_of [] e = cc
one_of (a ∷ []) e = (a, refl)
one_of (a ∷ b ∷ more) e = absurd (omega (arith, e))

-- A call of a function has as many arguments as that has parameters.
pub called_there : (u : UnitForm) (f n : ℕ) → HasParameters (slice_get u.graphs f) n → (f < length u.graphs) × (n ≡ length (graph_at u f).parameters)
called_there u f n has = by_found (slice_get u.graphs f) refl has
  where
    by_found : (found : Option Graph) → slice_get u.graphs f ≡ found → HasParameters found n → (f < length u.graphs) × (n ≡ length (graph_at u f).parameters)
    by_found None is many = absurd many
    by_found (Some g) is many = (slice_get_within u.graphs f g is, many ∙ ap (λ (z : Graph). length z.parameters) (sym (graph_is u f g is)))

module _ (h : HomedForm) (valid : IsValid h.unit) (homed : HaveHomes h) (e : EmittedForm) (code : IsCode h e) (c : Configuration) (q : Point) (r : Related h e code c q) (target : Option ℕ) (callee_is : Callee) (arguments : List Operand) (more : List Instruction)
    (is : r.rest.more ≡ Call target callee_is arguments ∷ more) (wants : IsWanted (codes_in h e code c.here.function).graph target) (legal : AllByRecursion (IsOperand h.unit.statics (codes_in h e code c.here.function).graph) arguments) (fit : AreWords arguments) where
  abbrev f : FunctionCode
  f = codes_in h e code c.here.function

  abbrev home : ℕ → Home
  home = home_at (codes_in h e code c.here.function).storage

  abbrev rest : List Instruction
  rest = map (placed_instruction (home_at (codes_in h e code c.here.function).storage)) more

  among : IsTargetAmong (codes_in h e code c.here.function).slots (option_map (home_at (codes_in h e code c.here.function).storage) target)
  among = wanted_among (over_homes h) f (all_codes h valid homed code.arrangement (over_homes h) c.here.function) target wants

  saved : IsSaved (codes_in h e code c.here.function).saved (option_map (home_at (codes_in h e code c.here.function).storage) target)
  saved = saved_is h valid homed e code c q r (Call target callee_is arguments) more is among

  -- ---- The environment

  -- A step to a configuration behind a call of the environment, by its number.
  environment_step : (n : ℕ) → calls_function (Call target callee_is arguments) ≡ false → IsPlain (placed_instruction (home_at (codes_in h e code c.here.function).storage) (Call target callee_is arguments))
      → CodeAt (program_in h e code) r.index q.shown
      (passing_code (codes_in h e code c.here.function).storage 0 r.held arguments ++ instruction.Immediate Addi 17 0 n ∷ instruction.Ecall ∷ answer_code (codes_in h e code c.here.function).storage (option_map (home_at (codes_in h e code c.here.function).storage) target))
      → ((d : Configuration) → spot_of d.here ≡ spot_of (going_on c (map (placed_instruction (home_at (codes_in h e code c.here.function).storage)) more)).here
      → RestFrom h e code (passed_by (position_of r.rest) (Call target callee_is arguments) more) (spot_of d.here)
      (r.index + length (passing_code (codes_in h e code c.here.function).storage 0 r.held arguments ++ instruction.Immediate Addi 17 0 n ∷ []) + 1 + length (answer_code (codes_in h e code c.here.function).storage (option_map (home_at (codes_in h e code c.here.function).storage) target)))
      (forgotten 17 (passing_held 0 r.held arguments)) false)
      → DoesCall (program_in h e code) q.state r.index q.shown
      (length (passing_code (codes_in h e code c.here.function).storage 0 r.held arguments ++ instruction.Immediate Addi 17 0 n ∷ []) + 1 + length (answer_code (codes_in h e code c.here.function).storage (option_map (home_at (codes_in h e code c.here.function).storage) target)))
      (r.index + length (passing_code (codes_in h e code c.here.function).storage 0 r.held arguments ++ instruction.Immediate Addi 17 0 n ∷ []) + 1 + length (answer_code (codes_in h e code c.here.function).storage (option_map (home_at (codes_in h e code c.here.function).storage) target)))
      (codes_in h e code) (over_homes h) r.addresses (Resumes (program_in h e code) (codes_in h e code) (GoesOn h e code)) (forgotten 17 (passing_held 0 r.held arguments)) (step (over_homes h) c)
      → DoesStep h e code (position_of r.rest) (length (passing_code (codes_in h e code c.here.function).storage 0 r.held arguments ++ instruction.Immediate Addi 17 0 n ∷ []) + 1 + length (answer_code (codes_in h e code c.here.function).storage (option_map (home_at (codes_in h e code c.here.function).storage) target))) q (step (over_homes h) c)
  environment_step n none plain there left does = by_step (step (over_homes h) c) refl does (step_right (over_homes h) c)
    where
      kept : (z : Stepped) → step (over_homes h) c ≡ z → KeepsSpot (going_on c (map (placed_instruction (home_at (codes_in h e code c.here.function).storage)) more)) z
      kept z is_z =
          subst (λ y. KeepsSpot (going_on c rest) y) (sym (step_is h valid homed e code c q r (Call target callee_is arguments) more is) ∙ is_z) (execute_spot (over_homes h) (placed_instruction home (Call target callee_is arguments)) (going_on c rest) plain)

      by_step : (z : Stepped) → step (over_homes h) c ≡ z
          → DoesCall (program_in h e code) q.state r.index q.shown
          (length (passing_code (codes_in h e code c.here.function).storage 0 r.held arguments ++ instruction.Immediate Addi 17 0 n ∷ []) + 1 + length (answer_code (codes_in h e code c.here.function).storage (option_map (home_at (codes_in h e code c.here.function).storage) target)))
          (r.index + length (passing_code (codes_in h e code c.here.function).storage 0 r.held arguments ++ instruction.Immediate Addi 17 0 n ∷ []) + 1 + length (answer_code (codes_in h e code c.here.function).storage (option_map (home_at (codes_in h e code c.here.function).storage) target)))
          (codes_in h e code) (over_homes h) r.addresses (Resumes (program_in h e code) (codes_in h e code) (GoesOn h e code)) (forgotten 17 (passing_held 0 r.held arguments)) z → ShowsRightly z → DoesStep h e code (position_of r.rest) (length (passing_code (codes_in h e code c.here.function).storage 0 r.held arguments ++ instruction.Immediate Addi 17 0 n ∷ []) + 1 + length (answer_code (codes_in h e code c.here.function).storage (option_map (home_at (codes_in h e code c.here.function).storage) target))) q z
      by_step (Goes d) is_z done right = come_unseen h e code (position_of r.rest) (passed_by (position_of r.rest) (Call target callee_is arguments) more) q r.index _ _ false r.addresses (forgotten 17 (passing_held 0 r.held arguments)) d done (left d (kept (Goes d) is_z)) (passes_it h valid homed e code c q r (Call target callee_is arguments) more is none)
      by_step (Shows seen d) is_z done right = record {
        count = done.count;
        few = done.few;
        event = done.event;
        point = record { state = done.reaches.state; shown = false };
        leads = done.reaches.leads;
        same = on_same h e code seen done.event d done.shown right;
        related = record {
          addresses = r.addresses;
          index = r.index + length (passing_code f.storage 0 r.held arguments ++ instruction.Immediate Addi 17 0 n ∷ []) + 1 + length (answer_code f.storage (option_map home target));
          held = forgotten 17 (passing_held 0 r.held arguments);
          holding = done.holding;
          stands = done.reaches.stands;
          all = done.all;
          rest = (left d (kept (Shows seen d) is_z)).rest;
        };
      }
      by_step (EndsUnit seen) is_z done right = end_done h e code q _ seen done right
      by_step Wild is_z done right = tt

  -- What stands there, and what is left behind it.
  environment_there : (n : ℕ)
      → with_instruction (codes_in h e code c.here.function).storage (codes_in h e code c.here.function).graph.entry (Call target callee_is arguments) (growing r.held r.rest.owner q.shown)
      ≡ record (with_code (passing_code (codes_in h e code c.here.function).storage 0 r.held arguments ++ instruction.Immediate Addi 17 0 n ∷ instruction.Ecall ∷ answer_code (codes_in h e code c.here.function).storage (option_map (home_at (codes_in h e code c.here.function).storage) target)) (growing r.held r.rest.owner q.shown)) { held = forgotten 17 (passing_held 0 r.held arguments) }
      → (d : Configuration) → spot_of d.here ≡ spot_of (going_on c (map (placed_instruction (home_at (codes_in h e code c.here.function).storage)) more)).here
      → CodeAt (program_in h e code) r.index q.shown
      (passing_code (codes_in h e code c.here.function).storage 0 r.held arguments ++ instruction.Immediate Addi 17 0 n ∷ instruction.Ecall ∷ answer_code (codes_in h e code c.here.function).storage (option_map (home_at (codes_in h e code c.here.function).storage) target))
      × RestFrom h e code (passed_by (position_of r.rest) (Call target callee_is arguments) more) (spot_of d.here)
      (r.index + length (passing_code (codes_in h e code c.here.function).storage 0 r.held arguments ++ instruction.Immediate Addi 17 0 n ∷ []) + 1 + length (answer_code (codes_in h e code c.here.function).storage (option_map (home_at (codes_in h e code c.here.function).storage) target)))
      (forgotten 17 (passing_held 0 r.held arguments)) false
  environment_there n appended d spot =
      let passing : List MachineInstruction = passing_code f.storage 0 r.held arguments in
      let answer : List MachineInstruction = answer_code f.storage (option_map home target) in
      let words : List MachineInstruction = passing ++ instruction.Immediate Addi 17 0 n ∷ instruction.Ecall ∷ answer in
      let later : List Held = forgotten 17 (passing_held 0 r.held arguments) in
      let done = words_done h valid homed e code c q r (Call target callee_is arguments) more is words later tt appended d spot in
      let long = length-append passing (instruction.Immediate Addi 17 0 n ∷ instruction.Ecall ∷ answer) in
      let short = length-append passing (instruction.Immediate Addi 17 0 n ∷ []) in
      let same : r.index + length words ≡ r.index + length (passing ++ instruction.Immediate Addi 17 0 n ∷ []) + 1 + length answer = omega (arith, long, short) in
      (done.0, subst (λ b. RestFrom h e code (passed_by (position_of r.rest) (Call target callee_is arguments) more) (spot_of d.here) (r.index + length (passing ++ instruction.Immediate Addi 17 0 n ∷ []) + 1 + length answer) later b) (unshown passing n answer) (subst (λ k. RestFrom h e code (passed_by (position_of r.rest) (Call target callee_is arguments) more) (spot_of d.here) k later (behind q.shown words)) same done.1))
    where
      unshown : (passing : List MachineInstruction) (n : ℕ) (answer : List MachineInstruction) → behind q.shown (passing ++ instruction.Immediate Addi 17 0 n ∷ instruction.Ecall ∷ answer) ≡ false
      unshown [] n answer = refl
      unshown (x ∷ passing) n answer = refl

  -- Its words are no more than the pieces of the instruction.
  environment_few : (n : ℕ)
      → with_instruction (codes_in h e code c.here.function).storage (codes_in h e code c.here.function).graph.entry (Call target callee_is arguments) (growing r.held r.rest.owner q.shown)
      ≡ record (with_code (passing_code (codes_in h e code c.here.function).storage 0 r.held arguments ++ instruction.Immediate Addi 17 0 n ∷ instruction.Ecall ∷ answer_code (codes_in h e code c.here.function).storage (option_map (home_at (codes_in h e code c.here.function).storage) target)) (growing r.held r.rest.owner q.shown)) { held = forgotten 17 (passing_held 0 r.held arguments) }
      → length (passing_code (codes_in h e code c.here.function).storage 0 r.held arguments ++ instruction.Immediate Addi 17 0 n ∷ []) + 1 + length (answer_code (codes_in h e code c.here.function).storage (option_map (home_at (codes_in h e code c.here.function).storage) target))
      ≤ pieces_of (codes_in h e code c.here.function).storage (codes_in h e code c.here.function).graph.entry (Call target callee_is arguments) (growing r.held r.rest.owner q.shown)
  environment_few n appended =
      let passing : List MachineInstruction = passing_code f.storage 0 r.held arguments in
      let answer : List MachineInstruction = answer_code f.storage (option_map home target) in
      let words : List MachineInstruction = passing ++ instruction.Immediate Addi 17 0 n ∷ instruction.Ecall ∷ answer in
      let few = words_few h valid homed e code c q r (Call target callee_is arguments) more is words (forgotten 17 (passing_held 0 r.held arguments)) appended in
      let long = length-append passing (instruction.Immediate Addi 17 0 n ∷ instruction.Ecall ∷ answer) in
      let short = length-append passing (instruction.Immediate Addi 17 0 n ∷ []) in
      omega (arith, few, long, short)

  pub getchar_step : callee_is ≡ callee.Getchar → length arguments ≡ 0 → DoesStep h e code (position_of r.rest) (pieces_of (codes_in h e code c.here.function).storage (codes_in h e code c.here.function).graph.entry (Call target callee_is arguments) (growing r.held r.rest.owner q.shown)) q (step (over_homes h) c)
  getchar_step same none =
      let s : CodeState = growing r.held r.rest.owner q.shown in
      let appended = ap (λ k. with_instruction f.storage f.graph.entry (Call target k arguments) s) same ∙ getchar_is f.storage target arguments s in
      let there = environment_there 1 appended (going_on c rest) refl in
      does_within h e code (position_of r.rest) _ _ q (step (over_homes h) c) (environment_few 1 appended)
      (environment_step 1 (ap (λ k. calls_function (Call target k arguments)) same) (subst (λ k. IsPlain (placed_instruction home (Call target k arguments))) (sym same) tt) there.0 (λ d spot. (environment_there 1 appended d spot).1)
      (getchar_done (program_in h e code) (codes_in h e code) (over_homes h) (all_codes h valid homed code.arrangement (over_homes h)) r.addresses (GoesOn h e code) q.state r.index q.shown r.held c r.holding r.all r.stands target wants rest arguments legal fit saved (omega (arith, none))
      (rest_is h valid homed e code c q r (Call target callee_is arguments) more is ∙ ap (λ k. placed_instruction home (Call target k arguments) ∷ rest) same) there.0))

  pub putchar_step : callee_is ≡ callee.Putchar → length arguments ≡ 1 → DoesStep h e code (position_of r.rest) (pieces_of (codes_in h e code c.here.function).storage (codes_in h e code c.here.function).graph.entry (Call target callee_is arguments) (growing r.held r.rest.owner q.shown)) q (step (over_homes h) c)
  putchar_step same one =
      let s : CodeState = growing r.held r.rest.owner q.shown in
      let first = one_of arguments one in
      let appended = ap (λ k. with_instruction f.storage f.graph.entry (Call target k arguments) s) same ∙ putchar_is f.storage target arguments s in
      let there = environment_there 2 appended (going_on c rest) refl in
      does_within h e code (position_of r.rest) _ _ q (step (over_homes h) c) (environment_few 2 appended)
      (environment_step 2 (ap (λ k. calls_function (Call target k arguments)) same) (subst (λ k. IsPlain (placed_instruction home (Call target k arguments))) (sym same) tt) there.0 (λ d spot. (environment_there 2 appended d spot).1)
      (putchar_done (program_in h e code) (codes_in h e code) (over_homes h) (all_codes h valid homed code.arrangement (over_homes h)) r.addresses (GoesOn h e code) q.state r.index q.shown r.held c r.holding r.all r.stands target wants rest arguments legal fit saved (omega (arith, one))
      first.0 [] first.1 (rest_is h valid homed e code c q r (Call target callee_is arguments) more is ∙ ap (λ k. placed_instruction home (Call target k arguments) ∷ rest) same) there.0))

  pub exit_step : callee_is ≡ callee.Exit → length arguments ≡ 1 → DoesStep h e code (position_of r.rest) (pieces_of (codes_in h e code c.here.function).storage (codes_in h e code c.here.function).graph.entry (Call target callee_is arguments) (growing r.held r.rest.owner q.shown)) q (step (over_homes h) c)
  exit_step same one =
      let s : CodeState = growing r.held r.rest.owner q.shown in
      let first = one_of arguments one in
      let appended = ap (λ k. with_instruction f.storage f.graph.entry (Call target k arguments) s) same ∙ exit_is f.storage target arguments s in
      let there = environment_there 10 appended (going_on c rest) refl in
      does_within h e code (position_of r.rest) _ _ q (step (over_homes h) c) (environment_few 10 appended)
      (environment_step 10 (ap (λ k. calls_function (Call target k arguments)) same) (subst (λ k. IsPlain (placed_instruction home (Call target k arguments))) (sym same) tt) there.0 (λ d spot. (environment_there 10 appended d spot).1)
      (exit_done (program_in h e code) (codes_in h e code) (over_homes h) (all_codes h valid homed code.arrangement (over_homes h)) r.addresses (GoesOn h e code) q.state r.index q.shown r.held c r.holding r.all r.stands target wants rest arguments legal fit saved (omega (arith, one))
      first.0 [] first.1 (rest_is h valid homed e code c q r (Call target callee_is arguments) more is ∙ ap (λ k. placed_instruction home (Call target k arguments) ∷ rest) same) there.0))

  -- ---- A function

  module _ (function : ℕ) (same : callee_is ≡ callee.Function function) (has : HasParameters (slice_get h.unit.graphs function) (length arguments)) where
    low : function < length h.unit.graphs
    low = (called_there h.unit function (length arguments) has).0

    many : length arguments ≡ length (codes_in h e code function).graph.parameters
    many = (called_there h.unit function (length arguments) has).1

    few : length arguments ≤ 8
    few = let most = (graph_valid h.unit valid function low).parameters in let is_many = many in omega (arith, most, is_many)

    abbrev passing : List MachineInstruction
    passing = passing_code (codes_in h e code c.here.function).storage 0 r.held arguments

    abbrev answer : List MachineInstruction
    answer = answer_code (codes_in h e code c.here.function).storage (option_map (home_at (codes_in h e code c.here.function).storage) target)

    next : NextAt h e code (spot_of c.here) r.index r.held q.shown r.rest (Call target callee_is arguments) more
    next = next_at h e code (spot_of c.here) r.index r.held q.shown r.rest (Call target callee_is arguments) more is

    appended : with_instruction (codes_in h e code c.here.function).storage (codes_in h e code c.here.function).graph.entry (Call target callee_is arguments) (growing r.held r.rest.owner q.shown)
        ≡ function_called (codes_in h e code c.here.function).storage target function arguments (growing r.held r.rest.owner q.shown)
    appended =
        let s : CodeState = growing r.held r.rest.owner q.shown in
        ap (λ k. with_instruction f.storage f.graph.entry (Call target k arguments) s) same ∙ function_is f.storage target function arguments s

    there : CallThere (program_in h e code) (places_in h e code c.here.function) r.index next.behind_it (passing_code (codes_in h e code c.here.function).storage 0 r.held arguments) q.shown r.rest.owner function
        (answer_code (codes_in h e code c.here.function).storage (option_map (home_at (codes_in h e code c.here.function).storage) target))
    there =
        let s : CodeState = growing r.held r.rest.owner q.shown in
        function_there (program_in h e code) (places_in h e code c.here.function) r.index next.behind_it f.storage target function arguments s refl
        (subst (λ (t : CodeState). PlacedAt (program_in h e code) (places_in h e code c.here.function) r.index t.pieces next.behind_it) appended next.there)

    -- The place in force is that of the activation.
    same_owner : r.rest.owner ≡ c.here.place
    same_owner = some_is (unmarked_keeps (Call target callee_is arguments) more (Some r.rest.owner) (Some c.here.place) tt (subst (λ l. KeepsPlace l (Some r.rest.owner) (Some c.here.place)) is r.rest.owned))
      where
        some_is : {m n : ℕ} → Some m ≡ Some n → m ≡ n
        some_is e = cc

    later : RestFrom h e code (passed_by (position_of r.rest) (Call target callee_is arguments) more) (spot_of (going_on c (map (placed_instruction (home_at (codes_in h e code c.here.function).storage)) more)).here) next.behind_it [] false
    later =
        let s : CodeState = growing r.held r.rest.owner q.shown in
        rest_behind h e code (spot_of c.here) r.index r.held q.shown r.rest (Call target callee_is arguments) more is next c.here.place r.rest.owner [] false (ap going_on_from appended ∙ function_goes_on f.storage target function arguments s)
        (keeps_same more (Some r.rest.owner) (Some c.here.place) (ap (λ n. Some n) same_owner)) (unmarked_behind (Call target callee_is arguments) more (Some c.here.place) tt) (unmarked_behind (Call target callee_is arguments) [] (Some c.here.place) tt)

    -- The activation waits where its code goes on.
    resume : Resumes (program_in h e code) (codes_in h e code) (GoesOn h e code) (record (going_on c (map (placed_instruction (home_at (codes_in h e code c.here.function).storage)) more)).here { wants = option_map (placed (home_at (codes_in h e code c.here.function).storage)) target })
        there.after
    resume =
        let waits = subst (λ k. RestFrom h e code (passed_by (position_of r.rest) (Call target callee_is arguments) more) (spot_of (going_on c rest).here) k [] false) there.is later in
        record {
          target = option_map home target;
          wants = wanted_home home target;
          among = among;
          saved = saved;
          code = there.answers;
          rest = record {
            rest = waits.rest;
            call = there.after - 1;
            target = option_map home target;
            wants = wanted_home home target;
            among = among;
            is = (let some = there.some in omega (arith, some));
            owned = there.owned ∙ same_owner;
            calls = ap (λ (p : Position). called p.history) waits.is;
          };
        }

    -- The index behind the call is one of the code, or that behind it.
    low_index : there.after ≤ most_words (map_of_unit (over_homes h))
    low_index =
        let low_call = jump_inside (program_in h e code) (r.index + length passing) (behind q.shown passing) 1 1 (code.arrangement.function function) there.after there.calls in
        let same : most_words (map_of_unit (over_homes h)) ≡ most_words e.map = ap (λ m. most_words m) (code_map h e code) in
        omega (arith, low_call, same)

    abbrev graph : Graph
    graph = placed_graph (home_at (codes_in h e code function).storage) (codes_in h e code function).graph

    abbrev values : List Value
    values = map (value h.unit.statics c.here.names) (map (placed_operand (home_at (codes_in h e code c.here.function).storage)) arguments)

    abbrev waiting : List Activation
    waiting = record (going_on c (map (placed_instruction (home_at (codes_in h e code c.here.function).storage)) more)).here { wants = option_map (placed (home_at (codes_in h e code c.here.function).storage)) target } ∷ c.waiting

    abbrev d : Configuration
    d = begun c.memory c.input function values waiting graph (placed_block (home_at (codes_in h e code function).storage) (first_block h valid e code function low).block)

    does : step (over_homes h) c ≡ cond (list_any is_odd values) Wild (cond (length c.waiting + 1 == 1024) (EndsUnit TooDeep) (Goes d))
    does =
        step_is h valid homed e code c q r (Call target callee_is arguments) more is
        ∙ ap (λ k. execute (over_homes h) (placed_instruction home (Call target k arguments)) (going_on c rest)) same
        ∙ ap (λ o. cond (list_any is_odd values) Wild (cond (length c.waiting + 1 == 1024) (EndsUnit TooDeep) (goes_if o))) (enters_over_homes h valid e code function low c.memory c.input values waiting)

    abbrev begins_behind : ℕ
    begins_behind = length (beginning_behind (codes_in h e code function).storage (codes_in h e code function).graph (codes_in h e code function).saved (codes_in h e code function).size (function == h.unit.main))

    abbrev Done : Stepped → Type 0
    Done z = DoesFunctionCall (program_in h e code) q.state q.shown (length passing + 5 + begins_behind) (code.arrangement.function function + 1 + 1 + 1 + 1 + begins_behind) (codes_in h e code) (over_homes h) (Resumes (program_in h e code) (codes_in h e code) (GoesOn h e code)) z

    -- The words before it lead there.
    done : Done (step (over_homes h) c)
    done =
        function_call_done (program_in h e code) (codes_in h e code) (over_homes h) (all_codes h valid homed code.arrangement (over_homes h)) r.addresses (GoesOn h e code) q.state r.index q.shown r.held c r.holding r.all r.stands target wants rest arguments legal fit
        (share_statics h valid homed code.arrangement) function (code.arrangement.function function) few (function == h.unit.main) (placed_block (home_at (codes_in h e code function).storage) (first_block h valid e code function low).block)
        (rest_is h valid homed e code c q r (Call target callee_is arguments) more is ∙ ap (λ k. placed_instruction home (Call target k arguments) ∷ rest) same) there.passes there.after there.few there.calls (begins_there h valid e code function low).0 many (are_bindable h valid homed code.arrangement function low) low_index resume
        (over_homes_there h code.arrangement function low) (block_over_homes h valid e code function low)

    -- Its first block stands behind its beginning.
    label_is : code.arrangement.label function 0 ≡ code.arrangement.function function + 1 + 1 + 1 + 1 + begins_behind
    label_is = let at = (begins_there h valid e code function low).1 in omega (arith, at)

    begun_step : Done (Goes d) → DoesStep h e code (position_of r.rest) (length passing + 5 + begins_behind) q (Goes d)
    begun_step begins =
        let first = subst (λ k. RestFrom h e code (at_block function 0 (first_block h valid e code function low).block []) (spot_of d.here) k [] false) label_is (activation_begins h valid e code function low c.memory c.input values waiting) in
        record {
          count = begins.count;
          few = begins.few;
          point = record { state = begins.reaches.state; shown = false };
          leads = begins.reaches.leads;
          related = record {
            addresses = begins.addresses;
            index = code.arrangement.function function + 1 + 1 + 1 + 1 + begins_behind;
            held = [];
            holding = begins.holding;
            stands = begins.reaches.stands;
            all = begins.all;
            rest = first.rest;
          };
          advances = subst (λ p. Advances (blocks_in h e code) (position_of r.rest) p) (sym first.is) (begins_function target function arguments more (first_block h valid e code function low).block (is ∙ ap (λ k. Call target k arguments ∷ more) same) refl);
        }

    by_tests : (odd full : Bool) → Done (cond odd Wild (cond full (EndsUnit TooDeep) (Goes d))) → DoesStep h e code (position_of r.rest) (length passing + 5 + begins_behind) q (cond odd Wild (cond full (EndsUnit TooDeep) (Goes d)))
    by_tests true full it = tt
    by_tests false true it = end_done h e code q _ TooDeep it tt
    by_tests false false it = begun_step it

    -- Passing the arguments takes fewer words than the instruction has pieces.
    passing_few : length passing + 1 ≤ pieces_of (codes_in h e code c.here.function).storage (codes_in h e code c.here.function).graph.entry (Call target callee_is arguments) (growing r.held r.rest.owner q.shown)
    passing_few =
        let s : CodeState = growing r.held r.rest.owner q.shown in
        let many = called_pieces f.storage target function arguments s in
        let all = ap (λ (t : CodeState). length t.pieces) appended in
        omega (arith, many, all)

    pub function_step : DoesStep h e code (position_of r.rest) (pieces_of (codes_in h e code c.here.function).storage (codes_in h e code c.here.function).graph.entry (Call target callee_is arguments) (growing r.held r.rest.owner q.shown) + 4 + length (beginning_behind (codes_in h e code function).storage (codes_in h e code function).graph (codes_in h e code function).saved (codes_in h e code function).size (function == h.unit.main))) q (step (over_homes h) c)
    function_step =
        let few = passing_few in
        does_within h e code (position_of r.rest) (length passing + 5 + begins_behind) _ q (step (over_homes h) c) (omega (arith, few))
        (subst (λ z. DoesStep h e code (position_of r.rest) (length passing + 5 + begins_behind) q z) (sym does) (by_tests (list_any is_odd values) (length c.waiting + 1 == 1024) (subst (λ z. Done z) does done)))
