-- Where the run of the code begins, the machine comes unseen to where it holds the first configuration of the unit's run.
use Rattle.std.proofs.Common.{◌≡◌, ℕ, zero, suc, ◌+◌, ◌-◌, ◌<◌, ◌≤◌, ⊎_elim, sym, ap, subst, arith, refl, Some, true, false, List, [], ◌∷◌, ◌++◌, length, length-append}
use Rattle.std.specs.Prelude.{replicate, slice_index}
use Rattle.std.specs.List.{AllByRecursion}
use Rattle.std.proofs.lemmas.Bool.{eq-eqb, cases_lt}
use Rattle.std.proofs.lemmas.List.{length-replicate}
use Rattle.memory_map.specs.Maps.{bytes_start, stack_start}
use Rattle.rv_emit_runs.proofs.Maps.{code_map}
use Rattle.rv_emit_storage.specs.UnitMaps.{map_of_unit}
use Rattle.rv_code.specs.declared.instruction.Instruction.{Instruction as MachineInstruction}
use Rattle.rv_machine.specs.State.{MachineState, bytes_size, stack_size}
use Rattle.rv_machine.specs.Table.{started, zeros}
use Rattle.rv_machine.specs.Run.{is_stop}
use Rattle.graph_core.specs.Graphs.{Binding, Graph}
use Rattle.graph_core.specs.Memory.{first_memory}
use Rattle.graph_core.specs.Runs.{Configuration, begun, enter}
use Rattle.graph_core.specs.Validity.{IsValid}
use Rattle.graph_homes.specs.Homed.{HomedForm, HaveHomes, placed_graph, placed_block, over_homes}
use Rattle.rv_emit_tables.specs.Emitted.{EmittedForm}
use Rattle.rv_emit_storage.specs.Storages.{StorageForm, home_at, static_object_at}
use Rattle.rv_emit_steps.specs.Holding.{held}
use Rattle.rv_emit_steps.specs.Programs.{CodeAt, Stands}
use Rattle.rv_emit_steps.specs.Points.{Point, Leads}
use Rattle.rv_emit_steps.proofs.Bytes.{in_bytes, in_stack, in_none}
use Rattle.rv_emit_code.specs.Beginning.{guard_code, entering_code, base_code, bindings_code, beginning_code}
use Rattle.rv_emit_runs.specs.Loaded.{IsLoaded}
use Rattle.rv_emit_runs.specs.Returns.{Resumes}
use Rattle.rv_emit_runs.specs.Waiting.{FunctionCode}
use Rattle.rv_emit_runs.proofs.Running.{RunBegins, run_begins}
use Rattle.rv_emit_runs.specs.Laid.{graph_at, first_bytes, IsCode}
use Rattle.rv_emit_runs.proofs.Beginnings.{begins_there, first_block, block_over_homes, activation_begins, enters_over_homes}
use Rattle.rv_emit_runs.proofs.Calls.{called_there}
use Rattle.rv_emit_runs.proofs.FirstMemory.{first_loaded}
use Rattle.rv_emit_runs.proofs.Frames.{over_homes_there, all_codes}
use Rattle.rv_emit_runs.proofs.Related.{GoesOn, Related}
use Rattle.rv_emit_runs.proofs.Rest.{program_in, codes_in, position_of, RestFrom}
use Rattle.rv_emit_runs.proofs.Steps.{stub_there}
use Rattle.rv_emit_runs.proofs.Tracks.{at_block}
use Rattle.rv_emit_runs.proofs.UnitSteps.{spot_of}

-- ---- Numbers in range

zeros_length : (n : ℕ) → length (zeros n) ≡ n
unfolding zeros
zeros_length n = length-replicate {A = ℕ} n 0

zero_at : (n k : ℕ) → slice_index (replicate n 0) k ≡ 0
zero_at zero k = refl
zero_at (suc n) zero = refl
zero_at (suc n) (suc k) = zero_at n k

zeros_at : (n k : ℕ) → slice_index (zeros n) k ≡ 0
unfolding zeros
zeros_at n k = zero_at n k

-- A byte of a list of bytes, with zeros behind them.
byte_at : (xs : List ℕ) (n k : ℕ) → AllByRecursion (λ b. b < 256) xs → slice_index (xs ++ zeros n) k < 256
byte_at [] n k all = let none = zeros_at n k in omega (arith, none)
byte_at (x ∷ xs) n zero all = all.0
byte_at (x ∷ xs) n (suc k) all = byte_at xs n k all.1

first_byte : (e : EmittedForm) → AllByRecursion (λ b. b < 256) e.initial → (a : ℕ) → first_bytes e a < 256
first_byte e all a = ⊎_elim
    (λ (low : a < bytes_start e.map). let is = in_none e.map (e.initial ++ zeros (bytes_size - length e.initial)) (zeros stack_size) a low in omega (arith, is))
    (λ (high : bytes_start e.map ≤ a). ⊎_elim
    (λ (within : a < stack_start e.map).
    let is = in_bytes e.map (e.initial ++ zeros (bytes_size - length e.initial)) (zeros stack_size) a high within in
    let byte = byte_at e.initial (bytes_size - length e.initial) (a - bytes_start e.map) all in
    omega (arith, is, byte))
    (λ (far : stack_start e.map ≤ a).
    let is = in_stack e.map (e.initial ++ zeros (bytes_size - length e.initial)) (zeros stack_size) a far in
    let none = zeros_at stack_size (a - stack_start e.map) in
    omega (arith, is, none))
    (cases_lt a (stack_start e.map)))
    (cases_lt a (bytes_start e.map))

none_bound : (params : List Binding) → 0 ≡ length params → params ≡ []
none_bound [] e = refl
none_bound (x ∷ params) e = absurd (omega (arith, e))

-- How many words a function begins with that is main and has no parameters.
three_parts : (a b c : List MachineInstruction) → length a ≡ 4 → length c ≡ 0 → length (a ++ (b ++ c)) ≡ 4 + length b
three_parts a b c four none =
    let whole = length-append a (b ++ c) in
    let rest = length-append b c in
    omega (arith, whole, rest, four, none)

beginning_length : (s : StorageForm) (g : Graph) (saved : List ℕ) (size : ℕ) → g.parameters ≡ [] → length (beginning_code s g saved size true) ≡ 4 + length (entering_code saved size ++ base_code true s.base)
beginning_length s g saved size none = three_parts guard_code (entering_code saved size ++ base_code true s.base) (bindings_code s g 0 g.parameters) refl (ap (λ l. length (bindings_code s g 0 l)) none)

behind_four : (label function many rest : ℕ) → label ≡ function + many → many ≡ 4 + rest → label ≡ function + 1 + 1 + 1 + 1 + rest
behind_four label function many rest at is = omega (arith, at, is)

module _ (h : HomedForm) (valid : IsValid h.unit) (homed : HaveHomes h) (e : EmittedForm) (code : IsCode h e) (input : List ℕ) (bytes : AllByRecursion (λ b. b < 256) input) where
  -- ---- The machine as it is loaded

  abbrev pub first_state : MachineState
  first_state = started e.map e.code e.initial input

  first_memory_is : (held (started e.map e.code e.initial input)).memory ≡ first_bytes e
  unfolding started
  first_memory_is = refl

  first_map : (held (started e.map e.code e.initial input)).regions ≡ map_of_unit (over_homes h)
  unfolding started
  first_map = sym (code_map h e code)

  first_input : (held (started e.map e.code e.initial input)).input ≡ input
  unfolding started
  first_input = refl

  first_stands : Stands (program_in h e code) (started e.map e.code e.initial input) 0 (held (started e.map e.code e.initial input))
  unfolding started
  first_stands = record {
    code = refl;
    pc = refl;
    registers = length-replicate {A = ℕ} 32 0;
    map = refl;
    bytes = let both = length-append e.initial (zeros (bytes_size - length e.initial)) in let rest = zeros_length (bytes_size - length e.initial) in let few = code.few_bytes in omega (arith, both, rest, few);
    stack = zeros_length stack_size;
    holds = refl;
    in_range = record {
      none = zero_at 32 0;
      words = λ r. subst (λ n. n < 4294967296) (sym (zero_at 32 r)) (omega arith);
      bytes = first_byte e code.bytes;
      input = bytes;
    };
  }

  -- No stop is there.
  pub no_stop : is_stop (program_in h e code).stops (started e.map e.code e.initial input).pc ≡ false
  unfolding started
  no_stop = (stub_there h e code).stub.sp.stop

  -- ---- main

  pub main_there : (h.unit.main < length h.unit.graphs) × (0 ≡ length (graph_at h.unit h.unit.main).parameters)
  main_there = called_there h.unit h.unit.main 0 valid.main

  abbrev c : FunctionCode
  c = codes_in h e code h.unit.main

  abbrev pub first : Configuration
  first = begun (first_memory h.unit.statics) input h.unit.main [] [] (placed_graph (home_at (codes_in h e code h.unit.main).storage) (codes_in h e code h.unit.main).graph) (placed_block (home_at (codes_in h e code h.unit.main).storage) (first_block h valid e code h.unit.main main_there.0).block)

  pub first_is : enter (over_homes h) (first_memory h.unit.statics) input h.unit.main [] [] ≡ Some first
  first_is = enters_over_homes h valid e code h.unit.main main_there.0 (first_memory h.unit.statics) input [] []

  beginning : CodeAt (program_in h e code) (code.arrangement.function h.unit.main) false (beginning_code c.storage c.graph c.saved c.size true)
  beginning = subst (λ b. CodeAt (program_in h e code) (code.arrangement.function h.unit.main) false (beginning_code c.storage c.graph c.saved c.size b)) (eq-eqb h.unit.main h.unit.main refl) (begins_there h valid e code h.unit.main main_there.0).0

  abbrev front : ℕ
  front = length (entering_code c.saved c.size ++ base_code true c.storage.base)

  -- Its first block stands behind its beginning; it has no parameters.
  label_is : code.arrangement.label h.unit.main 0 ≡ code.arrangement.function h.unit.main + 1 + 1 + 1 + 1 + front
  label_is =
      let at = subst (λ b. code.arrangement.label h.unit.main 0 ≡ code.arrangement.function h.unit.main + length (beginning_code c.storage c.graph c.saved c.size b)) (eq-eqb h.unit.main h.unit.main refl) (begins_there h valid e code h.unit.main main_there.0).1 in
      behind_four (code.arrangement.label h.unit.main 0) (code.arrangement.function h.unit.main) (length (beginning_code c.storage c.graph c.saved c.size true)) front at (beginning_length c.storage c.graph c.saved c.size (none_bound c.graph.parameters main_there.1))

  begins : RunBegins (program_in h e code) (started e.map e.code e.initial input) (6 + front) (code.arrangement.function h.unit.main + 1 + 1 + 1 + 1 + front) (codes_in h e code) (over_homes h) (Resumes (program_in h e code) (codes_in h e code) (GoesOn h e code)) first
  begins =
      run_begins (codes_in h e code) (over_homes h) (all_codes h valid homed code.arrangement (over_homes h)) (λ n. static_object_at c.storage n) (Resumes (program_in h e code) (codes_in h e code) (GoesOn h e code)) (program_in h e code) (started e.map e.code e.initial input) (held (started e.map e.code e.initial input)) first_stands
      (code.arrangement.function h.unit.main) (stub_there h e code).stub beginning (subst (λ (m : ℕ → ℕ). IsLoaded (over_homes h) c.storage (λ n. static_object_at c.storage n) m) (sym first_memory_is) (first_loaded h valid code.arrangement (let fits = code.base in omega (arith, fits)) e code.map code.initial (first_byte e code.bytes))) first_map input first_input
      (placed_block (home_at c.storage) (first_block h valid e code h.unit.main main_there.0).block) (over_homes_there h code.arrangement h.unit.main main_there.0) (block_over_homes h valid e code h.unit.main main_there.0) first first_is

  -- The machine comes there, in no more instructions than stand before main and at its beginning, and is related to the unit as main begins.
  pub record ComesToFirst : Type 0 where
    pub count : ℕ
    pub few : code.arrangement.function h.unit.main + count ≤ 5 + code.arrangement.label h.unit.main 0
    pub point : Point
    pub leads : Leads (program_in h e code).stops count (record { state = started e.map e.code e.initial input; shown = false }) [] point
    pub related : Related h e code first point
    pub begins : position_of related.rest ≡ at_block h.unit.main 0 (first_block h valid e code h.unit.main main_there.0).block []

  pub comes_to_first : ComesToFirst
  comes_to_first =
      let begun = subst (λ k. RestFrom h e code (at_block h.unit.main 0 (first_block h valid e code h.unit.main main_there.0).block []) (spot_of first.here) k [] false) label_is (activation_begins h valid e code h.unit.main main_there.0 (first_memory h.unit.statics) input [] []) in
      record {
        count = begins.count;
        few = let most = begins.few in let at = label_is in omega (arith, most, at);
        point = record { state = begins.reaches.state; shown = false };
        leads = begins.reaches.leads;
        related = record {
          addresses = begins.addresses;
          index = code.arrangement.function h.unit.main + 1 + 1 + 1 + 1 + front;
          held = [];
          holding = begins.holding;
          stands = begins.reaches.stands;
          all = begins.all;
          rest = begun.rest;
        };
        begins = begun.is;
      }
