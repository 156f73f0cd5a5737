-- A run begins: the words before all functions and those with which main begins come, in as many instructions, unseen, to where the machine holds the first configuration of the unit's run.
use Rattle.std.proofs.Common.{◌≡◌, ◌≢◌, ℕ, ◌+◌, ◌-◌, ◌<◌, ◌≤◌, sym, ap, ◌∙◌, subst, arith, refl, Some, true, false, not, List, [], ◌∷◌, ◌++◌, length, slice_get, ◌*◌, ◌/◌}
use Rattle.std.specs.Prelude.{option_map, option_and_then}
use Rattle.std.proofs.lemmas.Bool.{ne_eqb}
use Rattle.memory_map.specs.declared.map.Map.{Map}
use Rattle.memory_map.specs.declared.map.Map.TheVariants.{One, Two}
use Rattle.memory_map.specs.Maps.{stack_start, stack_end, stub_words}
use Rattle.memory_map.proofs.Facts.{map_facts}
use Rattle.rv_emit_storage.specs.UnitMaps.{map_of_unit}
use Rattle.rv_code.specs.declared.instruction.Instruction.{Instruction as MachineInstruction}
use Rattle.rv_code.specs.declared.instruction.Instruction.TheVariants as instruction
use Rattle.rv_code.specs.declared.instruction.BranchOperation.TheVariants.{Bne}
use Rattle.rv_code.specs.declared.instruction.ImmediateOperation.TheVariants.{Addi}
use Rattle.rv_machine.specs.State.{MachineState}
use Rattle.rv_machine.specs.Table.{taken, operated_immediate}
use Rattle.graph_core.specs.declared.value.Value.{Value}
use Rattle.graph_core.specs.declared.value.Value.TheVariants.{Odd}
use Rattle.graph_core.specs.Graphs.{Binding, Block, Graph, UnitForm}
use Rattle.graph_core.specs.Memory.{Memory, first_memory}
use Rattle.graph_core.specs.Runs.{Activation, Configuration, begun, enter, bind_names, bind_objects, with_objects}
use Rattle.graph_homes.specs.Homed.{placed_graph}
use Rattle.rv_emit_storage.specs.Storages.{home_at}
use Rattle.rv_emit_steps.specs.Holding.{Holding}
use Rattle.rv_emit_steps.specs.Doing.{done_by_all, writing}
use Rattle.rv_emit_steps.specs.Programs.{Program, address_of, distance, IsAt, CodeAt, behind, Stands}
use Rattle.rv_emit_steps.specs.Points.{Reaches}
use Rattle.rv_emit_steps.proofs.Jumping.{branch_taken}
use Rattle.rv_emit_steps.proofs.Placing.{code_front, reaches_then}
use Rattle.rv_emit_steps.proofs.Standing.{index_low, regions_there}
use Rattle.rv_emit_steps.proofs.Straight.{code_does}
use Rattle.rv_emit_code.specs.Beginning.{base_code, entering_code, bindings_code, beginning_code}
use Rattle.rv_emit_runs.specs.Pieces.{IsJump}
use Rattle.rv_emit_runs.specs.Loaded.{IsLoaded}
use Rattle.rv_emit_runs.specs.Waiting.{FunctionCode, IsFunctionCode, HoldsAll}
use Rattle.rv_emit_runs.proofs.Placed.{behind_none, call_goes}
use Rattle.rv_emit_runs.proofs.Starting.{first, t4, now, starts, starting_can}
use Rattle.base_laws.proofs.Options.{same_some as some_same}

-- The call before all functions has one word or two.
call_few : (m : Map) → stub_words m - 4 ≤ 2
call_few One = omega arith
call_few Two = omega arith

-- Where nothing is given nothing is bound.
no_names : (params : List Binding) (names : ℕ → Value) → bind_names params [] names ≡ names
no_names [] names = refl
no_names (b ∷ more) names = refl

no_objects : (n : ℕ) (params : List Binding) (memory : Memory) → bind_objects n params [] memory ≡ memory
no_objects n [] memory = refl
no_objects n (b ∷ more) memory = refl

-- The words before all functions: sp is the end of the stack, 1,024 activations may begin, and main is called.
pub record StubAt (p : Program) (main : ℕ) : Type 0 where
  pub sp : IsAt p 0 false (instruction.Lui 2 (stack_end p.map / 4096))
  pub tp : IsAt p 1 false (instruction.Immediate Addi 4 0 1024)
  pub call : IsJump p 2 false 1 1 main (stub_words p.map - 2)

-- The machine holds the first configuration of a run.
pub record RunBegins (p : Program) (s : MachineState) (most to : ℕ) (codes : ℕ → FunctionCode) (u : UnitForm) (resumes : Activation → ℕ → Type 0) (d : Configuration) : Type 0 where
  pub addresses : ℕ → ℕ
  pub count : ℕ
  pub few : count ≤ most
  pub holding : Holding
  pub reaches : Reaches p count (record { state = s; shown = false }) [] to false holding
  pub all : HoldsAll codes u addresses resumes [] d holding

module _ (codes : ℕ → FunctionCode) (u : UnitForm) (valid : (k : ℕ) → IsFunctionCode u (codes k)) (addresses : ℕ → ℕ) (resumes : Activation → ℕ → Type 0) (p : Program) (s : MachineState) (h : Holding) (stands : Stands p s 0 h) (at : ℕ) (stub : StubAt p at)
    (begin : CodeAt p at false (beginning_code (codes u.main).storage (codes u.main).graph (codes u.main).saved (codes u.main).size true)) (loaded : IsLoaded u (codes u.main).storage addresses h.memory) (same_map : h.regions ≡ map_of_unit u) where
  abbrev t2 : Holding
  t2 = done_by_all (instruction.Lui 2 (stack_end p.map / 4096) ∷ instruction.Immediate Addi 4 0 1024 ∷ []) h

  abbrev t3 : Holding
  t3 = writing 1 (address_of (stub_words (map_of_unit u) - 2)) t2

  abbrev g : Holding
  g = done_by_all (instruction.Immediate Addi 4 4 4294967295 ∷ []) t3

  at_low : at < 1000000000
  at_low = index_low p at false (instruction.Branch Bne 4 0 12) begin.0

  tp_is : t3.registers 4 ≡ 1024
  unfolding operated_immediate
  tp_is = let zero = stands.in_range.none in omega (arith, zero)

  tp_less : g.registers 4 ≡ 1023
  unfolding operated_immediate
  tp_less = let is = tp_is in omega (arith, is)

  -- sp is the end of the stack.
  sp_is : g.registers 2 ≡ stack_end (map_of_unit u)
  sp_is =
      let same : stack_start p.map ≡ stack_start (map_of_unit u) = ap (λ m. stack_start m) (sym (regions_there p s 0 h stands) ∙ same_map) in
      let end : stack_end p.map / 4096 * 4096 ≡ stack_end (map_of_unit u) = omega (arith, same, (map_facts p.map).frames) in
      end

  zero_is : g.registers 0 ≡ 0
  zero_is = stands.in_range.none

  -- The call of main, in one instruction or in two.
  abbrev call_count : ℕ
  call_count = stub_words p.map - 4

  called : (s2 : MachineState) → Stands p s2 2 t2 → Reaches p call_count (record { state = s2; shown = false }) [] at false t3
  called s2 there =
      let same : stub_words p.map ≡ stub_words (map_of_unit u) = ap (λ m. stub_words m) (sym (regions_there p s 0 h stands) ∙ same_map) in
      let count : stub_words p.map - 2 - 2 ≡ call_count = omega arith in
      let behind : address_of (stub_words p.map - 2) ≡ address_of (stub_words (map_of_unit u) - 2) = ap (λ n. address_of (n - 2)) same in
      subst (λ v. Reaches p call_count (record { state = s2; shown = false }) [] at false (writing 1 v t2)) behind
      (subst (λ n. Reaches p n (record { state = s2; shown = false }) [] at false (writing 1 (address_of (stub_words p.map - 2)) t2)) count
      (call_goes p s2 2 t2 false at (stub_words p.map - 2) there stub.call (let lt = at_low in omega (arith, lt))))

  guarded : Reaches p (2 + (call_count + (1 + 1))) (record { state = s; shown = false }) [] (at + 1 + 1 + 1 + 1) false g
  unfolding taken
  guarded =
      let zero : t3.registers 0 ≡ 0 = stands.in_range.none in
      let is = tp_is in
      let some : t3.registers 4 ≢ t3.registers 0 = λ e. omega (arith, is, zero, e) in
      let on : taken Bne (t3.registers 4) (t3.registers 0) ≡ true = ap not (ne_eqb (t3.registers 4) (t3.registers 0) some) in
      let one = code_does p s 0 h false (instruction.Lui 2 (stack_end p.map / 4096) ∷ instruction.Immediate Addi 4 0 1024 ∷ []) stands (stub.sp, (stub.tp, tt)) (tt, (tt, tt)) in
      let two = called one.state one.stands in
      let three = branch_taken p two.state at t3 (at + 1 + 1 + 1) false Bne 4 0 12 two.stands begin.0 on (let lt = at_low in omega (arith, lt)) in
      let four = code_does p three.state (at + 1 + 1 + 1) t3 false (instruction.Immediate Addi 4 4 4294967295 ∷ []) three.stands (begin.1.1.1.0, tt) (tt, tt) in
      reaches_then p 2 (call_count + (1 + 1)) (record { state = s; shown = false }) [] 2 false t2 [] (at + 1 + 1 + 1 + 1) false g one
      (reaches_then p call_count (1 + 1) (record { state = one.state; shown = false }) [] at false t3 [] (at + 1 + 1 + 1 + 1) false g two
      (reaches_then p 1 1 (record { state = two.state; shown = false }) [] (at + 1 + 1 + 1) false t3 [] (at + 1 + 1 + 1 + 1) false g three four))

  -- The first configuration, and the machine that holds it.
  module _ (input : List ℕ) (same_input : h.input ≡ input) (block : Block) (has_graph : slice_get u.graphs u.main ≡ Some (placed_graph (home_at (codes u.main).storage) (codes u.main).graph))
      (has_block : slice_get (placed_graph (home_at (codes u.main).storage) (codes u.main).graph).blocks 0 ≡ Some block) where
    abbrev graph : Graph
    graph = placed_graph (home_at (codes u.main).storage) (codes u.main).graph

    abbrev front : List MachineInstruction
    front = entering_code (codes u.main).saved (codes u.main).size ++ base_code true (codes u.main).storage.base

    begins_run : RunBegins p s (6 + length (entering_code (codes u.main).saved (codes u.main).size ++ base_code true (codes u.main).storage.base)) (at + 1 + 1 + 1 + 1 + length (entering_code (codes u.main).saved (codes u.main).size ++ base_code true (codes u.main).storage.base)) codes u resumes
        (first codes u valid addresses resumes g input same_input loaded same_map zero_is sp_is refl tp_less guarded.stands.in_range.words graph block)
    begins_run =
        let there = guarded in
        let can = starting_can codes u valid addresses resumes g input same_input loaded same_map zero_is sp_is refl tp_less there.stands.in_range.words graph block in
        let code : CodeAt p (at + 1 + 1 + 1 + 1) false front = code_front p (at + 1 + 1 + 1 + 1) false front (bindings_code (codes u.main).storage (codes u.main).graph 0 (codes u.main).graph.parameters) begin.1.1.1.1 in
        let last = code_does p there.state (at + 1 + 1 + 1 + 1) g false front there.stands code can.0 in
        record {
          addresses = now codes u valid addresses resumes g input same_input loaded same_map zero_is sp_is refl tp_less there.stands.in_range.words;
          count = 2 + (call_count + (1 + 1)) + length front;
          few = let most = call_few p.map in omega (arith, most);
          holding = t4 codes u valid addresses resumes g input same_input loaded same_map zero_is sp_is refl tp_less there.stands.in_range.words;
          reaches = subst (λ (q : Holding). Reaches p (2 + (call_count + (1 + 1)) + length front) (record { state = s; shown = false }) [] (at + 1 + 1 + 1 + 1 + length front) false q) can.1
              (subst (λ q. Reaches p (2 + (call_count + (1 + 1)) + length front) (record { state = s; shown = false }) [] (at + 1 + 1 + 1 + 1 + length front) q (done_by_all front g)) (behind_none front)
              (reaches_then p (2 + (call_count + (1 + 1))) (length front) (record { state = s; shown = false }) [] (at + 1 + 1 + 1 + 1) false g [] (at + 1 + 1 + 1 + 1 + length front) (behind false front) (done_by_all front g) there last));
          all = starts codes u valid addresses resumes g input same_input loaded same_map zero_is sp_is refl tp_less there.stands.in_range.words graph block;
        }

    -- It is the one in which the unit's run begins, of which the machine holds all.
    is_first : enter u (first_memory u.statics) input u.main [] [] ≡ Some (first codes u valid addresses resumes g input same_input loaded same_map zero_is sp_is refl tp_less guarded.stands.in_range.words graph block)
    is_first =
        ap (λ q. option_and_then (λ (z : Graph). option_map (begun (first_memory u.statics) input u.main [] [] z) (slice_get z.blocks 0)) q) has_graph
        ∙ ap (λ q. option_map (begun (first_memory u.statics) input u.main [] [] graph) q) has_block
        ∙ ap (λ m. Some (record (begun (first_memory u.statics) input u.main [] [] graph block) { memory = m })) (no_objects (length (first_memory u.statics)) graph.parameters (with_objects 1 graph (first_memory u.statics)))
        ∙ ap (λ names. Some (record (first codes u valid addresses resumes g input same_input loaded same_map zero_is sp_is refl tp_less guarded.stands.in_range.words graph block) { here = record (first codes u valid addresses resumes g input same_input loaded same_map zero_is sp_is refl tp_less guarded.stands.in_range.words graph block).here { names = names } }))
        (no_names graph.parameters (λ x. Odd))

    pub run_begins : (d : Configuration) → enter u (first_memory u.statics) input u.main [] [] ≡ Some d
        → RunBegins p s (6 + length (entering_code (codes u.main).saved (codes u.main).size ++ base_code true (codes u.main).storage.base)) (at + 1 + 1 + 1 + 1 + length (entering_code (codes u.main).saved (codes u.main).size ++ base_code true (codes u.main).storage.base)) codes u resumes d
    run_begins d is =
        let same : first codes u valid addresses resumes g input same_input loaded same_map zero_is sp_is refl tp_less guarded.stands.in_range.words graph block ≡ d = some_same (sym is_first ∙ is) in
        subst (λ q. RunBegins p s (6 + length front) (at + 1 + 1 + 1 + 1 + length front) codes u resumes q) same begins_run
