-- The code of a call of a function passes its arguments, goes to where the function begins and makes its frame; or the run ends where as many activations live as may.
use Rattle.std.proofs.Common.{◌≡◌, ◌≢◌, ℕ, ◌+◌, ◌-◌, ◌<◌, ◌≤◌, ◌⊎◌, ⊎_elim, inl, inr, sym, ap, ◌∙◌, subst, arith, refl, Option, Some, Bool, true, false, cond, not, List, [], ◌∷◌, length, map, slice_get}
use Rattle.std.specs.Prelude.{◌==◌, option_map, option_and_then}
use Rattle.std.specs.List.{AllByRecursion}
use Rattle.std.proofs.lemmas.Bool.{eqb-true, eq-eqb, ne_eqb, cases_lt}
use Rattle.memory_map.specs.Maps.{most_words}
use Rattle.rv_emit_storage.specs.UnitMaps.{map_of_unit}
use Rattle.rv_code.specs.declared.instruction.Instruction.{Instruction as MachineInstruction}
use Rattle.rv_code.specs.declared.instruction.Instruction.TheVariants as instruction
use Rattle.rv_code.specs.declared.instruction.BranchOperation.TheVariants.{Bne}
use Rattle.rv_code.specs.declared.instruction.ImmediateOperation.TheVariants.{Addi}
use Rattle.rv_machine.specs.State.{MachineState, word}
use Rattle.rv_machine.specs.Run.{TooDeep}
use Rattle.rv_machine.specs.Table.{taken, operated_immediate}
use Rattle.graph_core.specs.declared.value.Value.{Value}
use Rattle.graph_core.specs.Graphs.{Operand, Block, Graph, UnitForm}
use Rattle.graph_core.specs.Runs.{Activation, Configuration, TooDeep as DepthExceeded, Stepped, Goes, Shows, Ends as EndsUnit, Wild, value, begun, enter, goes_if, call_function}
use Rattle.graph_core.specs.Validity.{IsOperand}
use Rattle.graph_homes.specs.Homed.{IsHomeRegister, placed_operand, placed_graph}
use Rattle.rv_emit_words.specs.declared.piece.Held.{Held}
use Rattle.rv_emit_storage.specs.Storages.{home_at, source_of}
use Rattle.rv_emit_instructions.specs.Calls.{argument_register}
use Rattle.rv_emit_steps.specs.Holding.{Holding}
use Rattle.rv_emit_steps.specs.Doing.{done_by_all, writing}
use Rattle.rv_emit_steps.specs.Programs.{Program, address_of, distance, IsAt, CodeAt, behind, Stands}
use Rattle.rv_emit_steps.specs.Points.{Reaches}
use Rattle.rv_emit_steps.proofs.Calling.{ends_too_deep}
use Rattle.rv_emit_runs.specs.Pieces.{IsJump}
use Rattle.rv_emit_steps.proofs.Jumping.{branch_taken, branch_not_taken}
use Rattle.rv_emit_steps.proofs.Placing.{reaches_then, reaches_end, regions_stay}
use Rattle.rv_emit_steps.proofs.Registers.{register_other}
use Rattle.rv_emit_steps.proofs.Standing.{index_low}
use Rattle.rv_emit_steps.proofs.Straight.{code_does}
use Rattle.rv_emit_steps.specs.EmitMovesDoing.{value_of}
use Rattle.rv_emit_steps.specs.Meaning.{Means}
use Rattle.rv_emit_steps.specs.Frames.{Setting, IsStorage, HoldsFrame}
use Rattle.rv_emit_steps.proofs.Operands.{operand_readable, operand_means}
use Rattle.rv_emit_code.specs.Beginning.{beginning_behind, beginning_code}
use Rattle.rv_emit_runs.specs.Passing.{passing_code, passing_held, ArePassed, AreWords}
use Rattle.rv_emit_runs.specs.Returns.{deep as deep_so}
use Rattle.rv_emit_runs.specs.Waiting.{FunctionCode, IsFunctionCode, setting_of, HoldsAll}
use Rattle.rv_emit_runs.proofs.Beginning.{ShareStatics, length_mapped, now, t5, begins, beginning_can}
use Rattle.rv_emit_runs.proofs.Bindings.{AreGiven, AreBindable, argument_is}
use Rattle.rv_emit_runs.proofs.Bringing.{HoldsWords, words_in_range, read_fits}
use Rattle.rv_emit_runs.proofs.Keeping.{all_found}
use Rattle.rv_emit_runs.proofs.Passing.{Passes, arguments_pass}
use Rattle.rv_emit_runs.proofs.Placed.{behind_none, call_goes}
use Rattle.rv_emit_runs.proofs.Restoring.{low_no_home}
use Rattle.rv_emit_runs.proofs.Returning.{EndsRun}

-- What was passed are the values of the arguments.
given_passed : (w : Setting) (c : Configuration) (h t : Holding) (n : ℕ) (all : List Operand) → IsStorage w → HoldsFrame w c h → HoldsWords h → n + length all ≤ 8 → AllByRecursion (IsOperand w.unit.statics w.graph) all → AreWords all → ArePassed w.storage h t n all
    → (v : ℕ) → AreGiven w.addresses c.memory (writing 1 v t) n (map (value w.unit.statics c.here.names) (map (placed_operand (home_at w.storage)) all))
given_passed w c h t n [] storage frame range few legal fit passed v = tt
given_passed w c h t n (a ∷ more) storage frame range few legal fit passed v =
    let is : argument_register n ≡ 10 + n = argument_is n (omega (arith, few)) in
    let same : (writing 1 v t).registers (argument_register n) ≡ value_of w.storage h (source_of w.storage a) = register_other 1 v (argument_register n) t.registers (λ e. omega (arith, e, is)) ∙ passed.0 in (
      subst (λ x. Means w.addresses c.memory (value w.unit.statics c.here.names (placed_operand (home_at w.storage) a)) x) (sym same) (operand_means w c h a storage frame legal.0),
      subst (λ x. x < 4294967296) (sym same) (read_fits w.storage h (source_of w.storage a) range (operand_readable w c h a storage frame legal.0 fit.0)),
      given_passed w c h t (n + 1) more storage frame range (omega (arith, few)) legal.1 fit.1 passed.1 v,
    )

home_no_argument : (r : ℕ) → IsHomeRegister r → (r < 10) ⊎ (17 < r)
home_no_argument r (inl is) = inl (omega (arith, is))
home_no_argument r (inr (low, high)) = inr (omega (arith, low))

home_no_t0 : (r : ℕ) → IsHomeRegister r → r ≢ 5
home_no_t0 r (inl is) = λ e. omega (arith, is, e)
home_no_t0 r (inr (low, high)) = λ e. omega (arith, low, e)

-- The machine comes to where the code of the function's first block stands, and holds all activations, with addresses for the objects of the one that begins.
pub record Begins (p : Program) (s : MachineState) (b : Bool) (most to : ℕ) (codes : ℕ → FunctionCode) (u : UnitForm) (resumes : Activation → ℕ → Type 0) (d : Configuration) : Type 0 where
  pub addresses : ℕ → ℕ
  pub count : ℕ
  pub few : count ≤ most
  pub holding : Holding
  pub reaches : Reaches p count (record { state = s; shown = b }) [] to false holding
  pub all : HoldsAll codes u addresses resumes [] d holding

-- Code does the step of a call of a function. Where the step is wild, nothing is said of the code.
abbrev pub DoesFunctionCall : Program → MachineState → (stops : Bool) → (most to : ℕ) → (codes : ℕ → FunctionCode) → UnitForm → (resumes : Activation → ℕ → Type 0) → Stepped → Type 0
DoesFunctionCall p s b most to codes u resumes (Goes d) = Begins p s b most to codes u resumes d
DoesFunctionCall p s b most to codes u resumes (Shows e d) = ⊥
DoesFunctionCall p s b most to codes u resumes (EndsUnit e) = EndsRun p s b most e
DoesFunctionCall p s b most to codes u resumes Wild = Unit {0}

module _ (codes : ℕ → FunctionCode) (u : UnitForm) (valid : (k : ℕ) → IsFunctionCode u (codes k)) (addresses : ℕ → ℕ) (resumes : Activation → ℕ → Type 0) (share : ShareStatics codes) (p : Program) (s : MachineState) (i : ℕ) (b : Bool) (held : List Held) (c : Configuration) (h : Holding)
    (all : HoldsAll codes u addresses resumes held c h) (stands : Stands p s i h) (function at : ℕ) (arguments : List Operand) (few : length arguments ≤ 8) (legal : AllByRecursion (IsOperand u.statics (codes c.here.function).graph) arguments) (fit : AreWords arguments)
    (code : CodeAt p i b (passing_code (codes c.here.function).storage 0 held arguments))
    (after : ℕ) (short : after ≤ i + length (passing_code (codes c.here.function).storage 0 held arguments) + 2) (jump : IsJump p (i + length (passing_code (codes c.here.function).storage 0 held arguments)) (behind b (passing_code (codes c.here.function).storage 0 held arguments)) 1 1 at after) (is_main : Bool)
    (begin : CodeAt p at false (beginning_code (codes function).storage (codes function).graph (codes function).saved (codes function).size is_main)) where
  abbrev w : Setting
  w = setting_of u addresses held (codes c.here.function)

  abbrev passing : List MachineInstruction
  passing = passing_code (codes c.here.function).storage 0 held arguments

  abbrev k : ℕ
  k = i + length (passing_code (codes c.here.function).storage 0 held arguments)

  pass : Passes (codes c.here.function).storage (passing_code (codes c.here.function).storage 0 held arguments) (passing_held 0 held arguments) h h 0 arguments
  pass = arguments_pass w c h arguments ((valid c.here.function).storage addresses held) all.here (words_in_range h stands.in_range) legal fit few

  abbrev t0 : Holding
  t0 = done_by_all (passing_code (codes c.here.function).storage 0 held arguments) h

  abbrev t1 : Holding
  t1 = writing 1 (address_of after) t0

  at_low : at < 1000000000
  at_low = index_low p at false (instruction.Branch Bne 4 0 12) begin.0

  -- The machine where the function begins.
  entered : Reaches p (length (passing_code (codes c.here.function).storage 0 held arguments) + (after - (i + length (passing_code (codes c.here.function).storage 0 held arguments)))) (record { state = s; shown = b }) [] at false t1
  entered =
      let first = code_does p s i h b passing stands code pass.can in
      reaches_then p (length passing) (after - k) (record { state = s; shown = b }) [] k (behind b passing) t0 [] at false t1 first
      (call_goes p first.state k t0 (behind b passing) at after first.stands jump (let lt = at_low in omega (arith, lt)))

  low_found : (q : ℕ) → q ≤ 4 → q ≢ 1 → t1.registers q ≡ h.registers q
  low_found q le n1 = register_other 1 (address_of after) q t0.registers n1 ∙ pass.kept q (λ e. omega (arith, le, e)) (inl (omega (arith, le)))

  home_found : (r : ℕ) → IsHomeRegister r → t1.registers r ≡ h.registers r
  home_found r is = register_other 1 (address_of after) r t0.registers (λ e. low_no_home 1 r (omega arith) is (sym e)) ∙ pass.kept r (home_no_t0 r is) (⊎_elim (λ (l : r < 10). inl (omega (arith, l))) (λ (u2 : 17 < r). inr u2) (home_no_argument r is))

  all1 : HoldsAll codes u addresses resumes [] c t1
  all1 = all_found codes u valid addresses resumes held c h t1 all low_found home_found (regions_stay (passing_code (codes c.here.function).storage 0 held arguments) h) pass.memory pass.input

  abbrev values : List Value
  values = map (value u.statics c.here.names) (map (placed_operand (home_at (codes c.here.function).storage)) arguments)

  given : AreGiven addresses c.memory t1 0 (map (value u.statics c.here.names) (map (placed_operand (home_at (codes c.here.function).storage)) arguments))
  given = given_passed w c h t0 0 arguments ((valid c.here.function).storage addresses held) all.here (words_in_range h stands.in_range) (omega (arith, few)) legal fit pass.passed (address_of after)

  -- No activation may begin.
  too_deep : length c.waiting + 1 ≡ 1024 → EndsRun p s b (length (passing_code (codes c.here.function).storage 0 held arguments) + 5) DepthExceeded
  unfolding taken operated_immediate
  too_deep full =
      let depth = all1.depth in
      let none : t1.registers 4 ≡ 0 = omega (arith, depth, full) in
      let zero : t1.registers 0 ≡ 0 = all1.here.fetch.none in
      let off : taken Bne (t1.registers 4) (t1.registers 0) ≡ false = ap (λ x. not (x == t1.registers 0)) none ∙ ap (λ x. not (0 == x)) zero in
      let one = branch_not_taken p entered.state at t1 false Bne 4 0 12 entered.stands begin.0 off in
      let two = code_does p one.state (at + 1) t1 false (instruction.Immediate Addi 17 0 3 ∷ []) one.stands (begin.1.0, tt) (tt, tt) in
      let t2 : Holding = done_by_all (instruction.Immediate Addi 17 0 3 ∷ []) t1 in
      let number : t2.registers 17 ≡ 3 = omega (arith, zero) in
      let last = ends_too_deep p two.state (at + 1 + 1) t2 false two.stands begin.1.1.0 number in
      record {
        count = length passing + (after - k) + (1 + (1 + 1));
        few = omega (arith, short);
        event = TooDeep;
        shown = deep_so;
        ends = reaches_end p (length passing + (after - k)) (1 + (1 + 1)) (record { state = s; shown = b }) [] at false t1 (TooDeep ∷ []) entered
            (reaches_end p 1 (1 + 1) (record { state = entered.state; shown = false }) [] (at + 1) false t1 (TooDeep ∷ []) one (reaches_end p 1 1 (record { state = one.state; shown = false }) [] (at + 1 + 1) false t2 (TooDeep ∷ []) two last));
      }

  -- One may, of a function that has a block.
  module _ (block : Block) (wanted : Option ℕ) (many : length arguments ≡ length (codes function).graph.parameters) (bindable : AreBindable (codes function).storage (codes function).graph (codes function).saved (codes function).graph.parameters)
      (low_index : after ≤ most_words (map_of_unit u)) (resume : resumes (record c.here { wants = wanted }) after) where
    abbrev graph : Graph
    graph = placed_graph (home_at (codes function).storage) (codes function).graph

    abbrev rest : List MachineInstruction
    rest = beginning_behind (codes function).storage (codes function).graph (codes function).saved (codes function).size is_main

    abbrev g : Holding
    g = done_by_all (instruction.Immediate Addi 4 4 4294967295 ∷ []) t1

    guarded : length c.waiting + 1 ≢ 1024 → Reaches p (length (passing_code (codes c.here.function).storage 0 held arguments) + (after - (i + length (passing_code (codes c.here.function).storage 0 held arguments))) + (1 + 1)) (record { state = s; shown = b }) [] (at + 1 + 1 + 1 + 1) false g
    unfolding taken
    guarded free =
        let depth = all1.depth in
        let zero : t1.registers 0 ≡ 0 = all1.here.fetch.none in
        let some : t1.registers 4 ≢ t1.registers 0 = λ e. free (omega (arith, depth, e, zero)) in
        let on : taken Bne (t1.registers 4) (t1.registers 0) ≡ true = ap not (ne_eqb (t1.registers 4) (t1.registers 0) some) in
        let one = branch_taken p entered.state at t1 (at + 1 + 1 + 1) false Bne 4 0 12 entered.stands begin.0 on (let lt = at_low in omega (arith, lt)) in
        let two = code_does p one.state (at + 1 + 1 + 1) t1 false (instruction.Immediate Addi 4 4 4294967295 ∷ []) one.stands (begin.1.1.1.0, tt) (tt, tt) in
        reaches_then p (length passing + (after - k)) (1 + 1) (record { state = s; shown = b }) [] at false t1 [] (at + 1 + 1 + 1 + 1) false g entered
        (reaches_then p 1 1 (record { state = entered.state; shown = false }) [] (at + 1 + 1 + 1) false t1 [] (at + 1 + 1 + 1 + 1) false g one two)

    one_less : length c.waiting + 1 ≢ 1024 → g.registers 4 + 1 ≡ t1.registers 4
    unfolding operated_immediate
    one_less free =
        let depth = all1.depth in
        let some : 0 < t1.registers 4 = ⊎_elim (λ (none : t1.registers 4 < 1). absurd (free (omega (arith, depth, none)))) (λ (more : 1 ≤ t1.registers 4). omega (arith, more)) (cases_lt (t1.registers 4) 1) in
        omega (arith, some, depth)

    others_same : (q : ℕ) → q ≢ 4 → g.registers q ≡ t1.registers q
    unfolding operated_immediate
    others_same q ne = register_other 4 (word (t1.registers 4 + 4294967295)) q t1.registers ne

    enough : length (map (value u.statics c.here.names) (map (placed_operand (home_at (codes c.here.function).storage)) arguments)) ≡ length (codes function).graph.parameters
    enough = length_mapped (value u.statics c.here.names) (map (placed_operand (home_at (codes c.here.function).storage)) arguments) ∙ length_mapped (placed_operand (home_at (codes c.here.function).storage)) arguments ∙ many

    begins_there : length c.waiting + 1 ≢ 1024 → Begins p s b (length (passing_code (codes c.here.function).storage 0 held arguments) + 4 + length (beginning_behind (codes function).storage (codes function).graph (codes function).saved (codes function).size is_main))
        (at + 1 + 1 + 1 + 1 + length (beginning_behind (codes function).storage (codes function).graph (codes function).saved (codes function).size is_main)) codes u resumes
        (begun c.memory c.input function (map (value u.statics c.here.names) (map (placed_operand (home_at (codes c.here.function).storage)) arguments)) (record c.here { wants = wanted } ∷ c.waiting) graph block)
    begins_there free =
        let there = guarded free in
        let deep : length c.waiting + 2 ≤ 1024 = let depth = all1.depth in let less = one_less free in omega (arith, depth, less) in
        let params : length (codes function).graph.parameters ≤ 8 = omega (arith, many, few) in
        let can = beginning_can codes u valid addresses resumes share c t1 g all1 function after low_index others_same refl refl refl (one_less free) refl there.stands.in_range.words deep graph block wanted values is_main given enough params bindable resume in
        let last = code_does p there.state (at + 1 + 1 + 1 + 1) g false rest there.stands begin.1.1.1.1 can.0 in
        record {
          addresses = now codes u valid addresses resumes share c t1 g all1 function after low_index others_same refl refl refl (one_less free) refl there.stands.in_range.words deep;
          count = length passing + (after - k) + (1 + 1) + length rest;
          few = omega (arith, short);
          holding = t5 codes u valid addresses resumes share c t1 g all1 function after low_index others_same refl refl refl (one_less free) refl there.stands.in_range.words deep graph block wanted values is_main given enough params bindable resume;
          reaches = subst
              (λ (q : Holding). Reaches p (length passing + (after - k) + (1 + 1) + length rest) (record { state = s; shown = b }) [] (at + 1 + 1 + 1 + 1 + length rest) false q)
              can.1
              (subst (λ q. Reaches p (length passing + (after - k) + (1 + 1) + length rest) (record { state = s; shown = b }) [] (at + 1 + 1 + 1 + 1 + length rest) q (done_by_all rest g)) (behind_none rest)
              (reaches_then p (length passing + (after - k) + (1 + 1)) (length rest) (record { state = s; shown = b }) [] (at + 1 + 1 + 1 + 1) false g [] (at + 1 + 1 + 1 + 1 + length rest) (behind false rest) (done_by_all rest g) there last));
          all = begins codes u valid addresses resumes share c t1 g all1 function after low_index others_same refl refl refl (one_less free) refl there.stands.in_range.words deep graph block wanted values is_main given enough params bindable resume;
        }

    -- The step of the call.
    pub call_done : slice_get u.graphs function ≡ Some (placed_graph (home_at (codes function).storage) (codes function).graph) → slice_get (placed_graph (home_at (codes function).storage) (codes function).graph).blocks 0 ≡ Some block
        → DoesFunctionCall p s b (length (passing_code (codes c.here.function).storage 0 held arguments) + 5 + length (beginning_behind (codes function).storage (codes function).graph (codes function).saved (codes function).size is_main))
        (at + 1 + 1 + 1 + 1 + length (beginning_behind (codes function).storage (codes function).graph (codes function).saved (codes function).size is_main)) codes u resumes
        (call_function u c wanted function (map (value u.statics c.here.names) (map (placed_operand (home_at (codes c.here.function).storage)) arguments)))
    call_done has_graph has_block = by_test (length c.waiting + 1 == 1024) refl
      where
        goes : goes_if (enter u c.memory c.input function values (record c.here { wants = wanted } ∷ c.waiting)) ≡ Goes (begun c.memory c.input function values (record c.here { wants = wanted } ∷ c.waiting) graph block)
        goes =
            ap (λ q. goes_if (option_and_then (λ (z : Graph). option_map (begun c.memory c.input function values (record c.here { wants = wanted } ∷ c.waiting) z) (slice_get z.blocks 0)) q)) has_graph
            ∙ ap (λ q. goes_if (option_map (begun c.memory c.input function values (record c.here { wants = wanted } ∷ c.waiting) graph) q)) has_block

        by_test : (full : Bool) → (length c.waiting + 1 == 1024) ≡ full
            → DoesFunctionCall p s b (length passing + 5 + length rest) (at + 1 + 1 + 1 + 1 + length rest) codes u resumes (cond full (EndsUnit DepthExceeded) (goes_if (enter u c.memory c.input function values (record c.here { wants = wanted } ∷ c.waiting))))
        by_test true e =
            let ends = too_deep (eqb-true (length c.waiting + 1) 1024 e) in
            record { count = ends.count; few = let most = ends.few in omega (arith, most); event = ends.event; shown = ends.shown; ends = ends.ends }
        by_test false e =
            let there = begins_there (λ same. cc (eq-eqb (length c.waiting + 1) 1024 same)) in
            subst (λ q. DoesFunctionCall p s b (length passing + 5 + length rest) (at + 1 + 1 + 1 + 1 + length rest) codes u resumes q) (sym goes)
            (record { addresses = there.addresses; count = there.count; few = let most = there.few in omega (arith, most); holding = there.holding; reaches = there.reaches; all = there.all })
