-- The code of a return restores what the caller is to find, and goes on behind its call, or ends the run with the result of main.
use Rattle.std.proofs.Common.{◌≡◌, ◌≢◌, ℕ, ◌+◌, ◌-◌, ◌<◌, ◌≤◌, ◌⊎◌, inl, inr, sym, ap, ◌∙◌, subst, arith, refl, Option, Some, None, Bool, true, false, cond, not, List, [], ◌∷◌, length}
use Rattle.std.specs.Prelude.{◌==◌, ◌||◌, nat_le, nat_lt, option_map}
use Rattle.std.specs.Int.{cast_signed, w32}
use Rattle.memory_map.specs.Maps.{most_words, bytes_end, stack_start, stack_end, stub_words}
use Rattle.rv_emit_storage.specs.UnitMaps.{map_of_unit}
use Rattle.rv_code.specs.declared.instruction.Instruction.TheVariants.{Lui, Store, Immediate, Register as OnRegisters}
use Rattle.rv_code.specs.declared.instruction.ImmediateOperation.TheVariants.{Addi}
use Rattle.rv_code.specs.declared.instruction.StoreOperation.TheVariants.{Sw}
use Rattle.rv_code.specs.declared.instruction.RegisterOperation.TheVariants.{Add}
use Rattle.rv_machine.specs.State.{MachineState}
use Rattle.rv_machine.specs.Run.{MachineEvent, Exit}
use Rattle.rv_machine.specs.Table.{operated_immediate}
use Rattle.graph_core.specs.declared.value.Value.{Value}
use Rattle.graph_core.specs.declared.value.Value.TheVariants.{Number, Pointer, Odd}
use Rattle.graph_core.specs.Graphs.{UnitForm}
use Rattle.graph_core.specs.Memory.{Memory, bytes_of, ended_from}
use Rattle.graph_core.specs.Runs.{Activation, Configuration, Event, Exited, Stepped, Goes, Shows, Ends as EndsUnit, Wild, take_value, take_wanted, exited, returned, leave}
use Rattle.graph_homes.specs.declared.home.Home.{Home}
use Rattle.graph_homes.specs.declared.home.Home.TheVariants.{Register, Slot}
use Rattle.graph_homes.specs.Homed.{IsHomeRegister, home_number}
use Rattle.rv_emit_storage.specs.Storages.{StorageForm, slot_at}
use Rattle.rv_emit_words.specs.Constants.{low_part, high_part}
use Rattle.rv_emit_words.specs.declared.piece.Held.{Held}
use Rattle.rv_emit_words.specs.Operands.{home_written}
use Rattle.rv_emit_steps.specs.Holding.{Holding, word_at}
use Rattle.rv_emit_steps.specs.Doing.{done_by_all}
use Rattle.rv_emit_steps.specs.Programs.{Program, address_of, CodeAt, Stands}
use Rattle.rv_emit_steps.specs.Points.{Ends, Reaches}
use Rattle.rv_emit_steps.proofs.Calling.{ends_with_status}
use Rattle.rv_emit_steps.proofs.Placing.{reaches_then, reaches_end}
use Rattle.rv_emit_steps.proofs.Straight.{code_does}
use Rattle.rv_emit_steps.specs.Meaning.{Means, HoldsObjects}
use Rattle.rv_emit_steps.specs.Frames.{Setting, IsStorage, HoldsFrame, Performs}
use Rattle.rv_emit_steps.proofs.Homes.{can_write, home_performed}
use Rattle.rv_emit_steps.proofs.Objects.{means_later}
use Rattle.rv_emit_code.specs.Ends.{words, going}
use Rattle.rv_emit_runs.specs.Keeping.{IsTargetAmong, IsSaved}
use Rattle.rv_emit_code.specs.Leaving.{words_of_moving, leaving_front, leaving_code, leaving}
use Rattle.rv_emit_runs.specs.Pieces.{Targets, AreInCode, PiecesAt}
use Rattle.rv_emit_runs.specs.Returns.{IsShownAs, exited as exited_so, Resumes, EndsMain, answer_code}
use Rattle.rv_emit_runs.specs.Waiting.{FunctionCode, IsFunctionCode, setting_of, behind_frame, HoldsWaiting, HoldsAll}
use Rattle.rv_emit_runs.proofs.Bringing.{home_made}
use Rattle.rv_emit_runs.proofs.Ended.{IsEndedOr, ended_or, those_ended, objects_ended, length_ended, frame_those}
use Rattle.rv_emit_runs.proofs.Ends.{going_goes, going_few}
use Rattle.rv_emit_runs.proofs.Keeping.{grown_those, performed_leaves, all_kept, all_reheld}
use Rattle.rv_emit_runs.proofs.Leaving.{IsLeftBy, Leaves, CanLeave, leaving_leaves, leaving_returns}
use Rattle.rv_emit_runs.proofs.Loading.{frame_found}
use Rattle.rv_emit_runs.proofs.Maps.{index_inside}
use Rattle.rv_emit_runs.proofs.Outer.{LeavesAbove, waiting_kept}
use Rattle.rv_emit_runs.proofs.Placed.{behind_none, GoesTo, words_alone}
use Rattle.rv_emit_runs.proofs.Restoring.{low_no_home, restored_a0, behind_other}
use Rattle.rv_emit_runs.proofs.Same.{SameActivation}
use Rattle.rv_emit_steps.proofs.Arrays.{those_same}
use Rattle.rv_emit_runs.proofs.Stepping.{AllCome}

-- A result is written by three words or less.
answer_short : (g : StorageForm) (target : Option Home) → length (answer_code g target) ≤ 3
answer_short g None = omega arith
answer_short g (Some (Register r)) = omega arith
answer_short g (Some (Slot k)) = by_test (nat_lt (slot_at g k) 2048)
  where
    by_test : (b : Bool) → length (cond b (Store Sw 10 2 (slot_at g k) ∷ []) (Lui 5 (high_part (slot_at g k)) ∷ OnRegisters Add 5 5 2 ∷ Store Sw 10 5 (low_part (slot_at g k)) ∷ [])) ≤ 3
    by_test true = omega arith
    by_test false = omega arith

-- ---- The caller goes on

-- The machine comes to where the caller goes on, and holds all activations, the caller the innermost one.
pub record Returned (p : Program) (s : MachineState) (i : ℕ) (b : Bool) (most : ℕ) (codes : ℕ → FunctionCode) (u : UnitForm) (addresses : ℕ → ℕ) (goes_on : Activation → ℕ → Type 0) (c d : Configuration) : Type 0 where
  pub caller : Activation
  pub waits : c.waiting ≡ caller ∷ d.waiting
  pub to : ℕ
  pub resumed : goes_on caller to
  pub value : Value
  pub here : d.here ≡ take_wanted caller.wants value caller
  pub comes : AllCome p s i b most to false codes u addresses (Resumes p codes goes_on) [] d

-- The run ends as the unit's does.
pub record EndsRun (p : Program) (s : MachineState) (b : Bool) (most : ℕ) (e : Event) : Type 0 where
  pub count : ℕ
  pub few : count ≤ most
  pub event : MachineEvent
  pub shown : IsShownAs e event
  pub ends : Ends p.stops count (record { state = s; shown = b }) (event ∷ [])

-- Code does the step of a return. Where the step is wild, nothing is said of the code.
abbrev pub DoesReturn : Program → MachineState → ℕ → Bool → (most : ℕ) → (codes : ℕ → FunctionCode) → UnitForm → (addresses : ℕ → ℕ) → (goes_on : Activation → ℕ → Type 0) → Configuration → Stepped → Type 0
DoesReturn p s i b most codes u addresses goes_on c (Goes d) = Returned p s i b most codes u addresses goes_on c d
DoesReturn p s i b most codes u addresses goes_on c (Shows e d) = ⊥
DoesReturn p s i b most codes u addresses goes_on c (EndsUnit e) = EndsRun p s b most e
DoesReturn p s i b most codes u addresses goes_on c Wild = Unit {0}

-- More instructions may be said to be enough.
returned_within : (p : Program) (s : MachineState) (i : ℕ) (b : Bool) (most more : ℕ) (codes : ℕ → FunctionCode) (u : UnitForm) (addresses : ℕ → ℕ) (goes_on : Activation → ℕ → Type 0) (c : Configuration) (q : Stepped) → most ≤ more
    → DoesReturn p s i b most codes u addresses goes_on c q → DoesReturn p s i b more codes u addresses goes_on c q
returned_within p s i b most more codes u addresses goes_on c (Goes d) le done = record {
  caller = done.caller;
  waits = done.waits;
  to = done.to;
  resumed = done.resumed;
  value = done.value;
  here = done.here;
  comes = record { count = done.comes.count; few = let few = done.comes.few in omega (arith, le, few); holding = done.comes.holding; reaches = done.comes.reaches; all = done.comes.all };
}
returned_within p s i b most more codes u addresses goes_on c (Shows e d) le done = done
returned_within p s i b most more codes u addresses goes_on c (EndsUnit e) le done = record { count = done.count; few = let few = done.few in omega (arith, le, few); event = done.event; shown = done.shown; ends = done.ends }
returned_within p s i b most more codes u addresses goes_on c Wild le done = tt

-- The same of what is done behind other words.
pub returned_behind : (p : Program) (s : MachineState) (i : ℕ) (b : Bool) (n j : ℕ) (last : Bool) (g : Holding) (most : ℕ) (codes : ℕ → FunctionCode) (u : UnitForm) (addresses : ℕ → ℕ) (goes_on : Activation → ℕ → Type 0) (c : Configuration) (q : Stepped)
    → (first : Reaches p n (record { state = s; shown = b }) [] j last g) → DoesReturn p first.state j last most codes u addresses goes_on c q → DoesReturn p s i b (n + most) codes u addresses goes_on c q
returned_behind p s i b n j last g most codes u addresses goes_on c (Goes d) first done = record {
  caller = done.caller;
  waits = done.waits;
  to = done.to;
  resumed = done.resumed;
  value = done.value;
  here = done.here;
  comes = record {
    count = n + done.comes.count;
    few = let few = done.comes.few in omega (arith, few);
    holding = done.comes.holding;
    reaches = reaches_then p n done.comes.count (record { state = s; shown = b }) [] j last g [] done.to false done.comes.holding first done.comes.reaches;
    all = done.comes.all;
  };
}
returned_behind p s i b n j last g most codes u addresses goes_on c (Shows e d) first done = done
returned_behind p s i b n j last g most codes u addresses goes_on c (EndsUnit e) first done = record {
  count = n + done.count;
  few = let few = done.few in omega (arith, few);
  event = done.event;
  shown = done.shown;
  ends = reaches_end p n done.count (record { state = s; shown = b }) [] j last g (done.event ∷ []) first done.ends;
}
returned_behind p s i b n j last g most codes u addresses goes_on c Wild first done = tt

module _ (p : Program) (codes : ℕ → FunctionCode) (u : UnitForm) (valid : (k : ℕ) → IsFunctionCode u (codes k)) (addresses : ℕ → ℕ) (goes_on : Activation → ℕ → Type 0) where
  -- What a frame is left with that stands.
  can_leave : (c : Configuration) (h : Holding) → HoldsAll codes u addresses (Resumes p codes goes_on) [] c h → CanLeave (codes c.here.function).saved (codes c.here.function).size h
  can_leave c h all =
      let fits = valid c.here.function in
      let storage = fits.storage addresses [] in
      record {
        none = all.here.fetch.none;
        aligned = all.here.aligned;
        low = subst (λ m. stack_start m ≤ h.registers 2) (sym all.here.map) all.here.low;
        high = subst (λ m. h.registers 2 + (codes c.here.function).size ≤ stack_end m) (sym all.here.map) all.here.high;
        kept = let most = fits.kept in let room = storage.room in omega (arith, most, room);
        registers = fits.registers;
        depth = let deep = all.depth in omega (arith, deep);
      }

  -- The caller's frame, where the innermost activation was left, with the objects of that ended.
  module _ (c : Configuration) (h t : Holding) (a : Activation) (waiting : List Activation) (all : HoldsAll codes u addresses (Resumes p codes goes_on) [] c h) (waits : c.waiting ≡ a ∷ waiting)
      (left : IsLeftBy (codes c.here.function).saved (codes c.here.function).size h t) where
    abbrev f : FunctionCode
    f = codes c.here.function

    abbrev later : Memory
    later = ended_from c.here.first_object c.memory

    both : HoldsWaiting codes u addresses (Resumes p codes goes_on) c.memory c.input (codes c.here.function) c.here.first_object h (a ∷ waiting)
    both = subst (λ l. HoldsWaiting codes u addresses (Resumes p codes goes_on) c.memory c.input (codes c.here.function) c.here.first_object h l) waits all.waiting

    found_none : t.registers 0 ≡ (behind_frame f h).registers 0
    found_none = left.others 0 (λ e. cc) (λ e. cc) (λ e. cc) (λ e. cc)

    found_gp : t.registers 3 ≡ (behind_frame f h).registers 3
    found_gp = left.others 3 (λ e. cc) (λ e. cc) (λ e. cc) (λ e. cc)

    found_home : (r : ℕ) → IsHomeRegister r → t.registers r ≡ (behind_frame f h).registers r
    found_home r is =
        left.others r (λ e. low_no_home 1 r (omega arith) is (sym e)) (λ e. low_no_home 2 r (omega arith) is (sym e)) (λ e. low_no_home 4 r (omega arith) is (sym e)) (no_t0 r is)
        ∙ sym (behind_other f h r (λ e. low_no_home 2 r (omega arith) is (sym e)))
      where
        no_t0 : (q : ℕ) → IsHomeRegister q → q ≢ 5
        no_t0 q (inl same) = λ e. omega (arith, same, e)
        no_t0 q (inr (least, most)) = λ e. omega (arith, least, e)

    caller_frame : HoldsFrame (setting_of u addresses [] (codes a.function)) (record { memory = c.memory; input = c.input; here = a; waiting = waiting }) t
    caller_frame = frame_found (setting_of u addresses [] (codes a.function)) (record { memory = c.memory; input = c.input; here = a; waiting = waiting }) (behind_frame f h) t [] found_none left.sp found_gp found_home left.map left.memory tt tt both.0.frame

    ended_objects : HoldsObjects addresses later t.memory
    ended_objects = objects_ended addresses c.here.first_object c.memory t.memory caller_frame.objects

    ended_frame : HoldsFrame (setting_of u addresses [] (codes a.function)) (record { memory = later; input = c.input; here = a; waiting = waiting }) t
    ended_frame = frame_those (setting_of u addresses [] (codes a.function)) (record { memory = c.memory; input = c.input; here = a; waiting = waiting }) t later (those_ended c.here.first_object c.memory) ended_objects caller_frame

    leaves : LeavesAbove (map_of_unit u) (codes a.function) addresses c.memory (behind_frame f h) t
    leaves = record {
      map = left.map;
      sp = left.sp;
      none = found_none;
      gp = found_gp;
      homes = λ r is. inl (found_home r is);
      kept = λ b low high. ap (λ (m : ℕ → ℕ). m b) left.memory;
      above = λ b low none. ap (λ (m : ℕ → ℕ). m b) left.memory;
      statics = λ b low none. ap (λ (m : ℕ → ℕ). m b) left.memory;
    }

    caller_all : HoldsAll codes u addresses (Resumes p codes goes_on) [] (record { memory = later; input = c.input; here = a; waiting = waiting }) t
    caller_all =
        let grown = grown_those (map_of_unit u) addresses c.memory later (those_ended c.here.first_object c.memory) (let same = length_ended c.here.first_object c.memory in omega (arith, same)) in
        record {
          here = ended_frame;
          waiting = waiting_kept codes u valid addresses addresses (Resumes p codes goes_on) c.memory later 0 grown ended_frame.laid waiting (codes a.function) a.first_object (behind_frame f h) t c.input c.input (valid a.function) leaves (omega arith) (let many = both.0.objects in omega (arith, many)) ended_objects both.1;
          depth = let tp = left.depth in let deep = all.depth in let many = ap (λ (l : List Activation). length l) waits in omega (arith, tp, deep, many);
          room = let sp = left.sp in let room = both.0.room in omega (arith, sp, room);
          objects = let same = length_ended c.here.first_object c.memory in let most = both.0.objects in omega (arith, same, most);
          input = left.input ∙ all.input;
          below = λ n o is live.
              let was : IsEndedOr c.here.first_object c.memory n o = ended_or c.here.first_object c.memory n o is in
              subst (λ s. (addresses n + bytes_of o ≤ bytes_end (map_of_unit u)) ⊎ (s ≤ addresses n)) (sym left.sp)
              (both.0.below n o (was.low live) (was.is ∙ ap (λ q. Some q) (was.live live)) live);
        }

  -- ---- The result is written

  module _ (held : List Held) (c : Configuration) (h : Holding) (a : Activation) (v : Value) (all : HoldsAll codes u addresses (Resumes p codes goes_on) held c h) (here : c.here ≡ a) where
    -- The words that write the result do, and go on to what stands behind them.
    pub answered_comes : (s : MachineState) (i : ℕ) (wanted : Option ℕ) (target : Option Home) → wanted ≡ option_map home_number target → IsTargetAmong (codes a.function).slots target → IsSaved (codes a.function).saved target → Stands p s i h
        → CodeAt p i false (answer_code (codes a.function).storage target) → Means addresses c.memory v (h.registers 10)
        → AllCome p s i false (length (answer_code (codes a.function).storage target)) (i + length (answer_code (codes a.function).storage target)) false codes u addresses (Resumes p codes goes_on) held (record c { here = take_wanted wanted v a })
    answered_comes s i wanted None wants among saved stands code means =
        let same : take_wanted wanted v a ≡ c.here = ap (λ o. take_wanted o v a) wants ∙ sym here in
        let e : i ≡ i + 0 = omega arith in
        subst (λ (q : Activation). AllCome p s i false 0 (i + 0) false codes u addresses (Resumes p codes goes_on) held (record c { here = q })) (sym same)
        (record {
          count = 0;
          few = omega arith;
          holding = h;
          reaches = code_does p s i h false [] stands tt tt;
          all = all;
        })
    answered_comes s i wanted (Some home) wants among saved stands code means =
        let f : FunctionCode = codes c.here.function in
        let same : take_wanted wanted v a ≡ take_value (home_number home) v c.here = ap (λ o. take_wanted o v a) wants ∙ ap (take_value (home_number home) v) (sym here) in
        subst (λ (q : Activation). AllCome p s i false (length (home_written (codes a.function).storage home 10)) (i + length (home_written (codes a.function).storage home 10)) false codes u addresses (Resumes p codes goes_on) held (record c { here = q })) (sym same)
        (subst (λ (q : Activation). AllCome p s i false (length (home_written (codes q.function).storage home 10)) (i + length (home_written (codes q.function).storage home 10)) false codes u addresses (Resumes p codes goes_on) held (record c { here = take_value (home_number home) v c.here })) here
        (by_home (subst (λ (q : Activation). IsTargetAmong (codes q.function).slots (Some home)) (sym here) among) (subst (λ (q : Activation). IsSaved (codes q.function).saved (Some home)) (sym here) saved)
        (subst (λ (q : Activation). CodeAt p i false (home_written (codes q.function).storage home 10)) (sym here) code)))
      where
        by_home : IsTargetAmong (codes c.here.function).slots (Some home) → IsSaved (codes c.here.function).saved (Some home) → CodeAt p i false (home_written (codes c.here.function).storage home 10)
            → AllCome p s i false (length (home_written (codes c.here.function).storage home 10)) (i + length (home_written (codes c.here.function).storage home 10)) false codes u addresses (Resumes p codes goes_on) held (record c { here = take_value (home_number home) v c.here })
        by_home within kept there =
            let f : FunctionCode = codes c.here.function in
            let w : Setting = setting_of u addresses held f in
            let storage : IsStorage w = (valid c.here.function).storage addresses held in
            let words_of_it = home_written f.storage home 10 in
            let d : Configuration = record c { here = take_value (home_number home) v c.here } in
            let done : Performs w c h (Some home) words_of_it d =
            home_performed w c h home v (h.registers 10) words_of_it storage all.here within (home_made f.storage h home 10 (h.registers 10) (can_write w c h home storage all.here within) (λ e. cc) refl (stands.in_range.words 10)) means in
            let same : SameActivation c d = record { function = refl; first = refl; waiting = refl; those = those_same c.memory; longer = omega arith } in
            record {
              count = length words_of_it;
              few = omega arith;
              holding = done_by_all words_of_it h;
              reaches = subst (λ q. Reaches p (length words_of_it) (record { state = s; shown = false }) [] (i + length words_of_it) q (done_by_all words_of_it h)) (behind_none words_of_it) (code_does p s i h false words_of_it stands there done.can);
              all = all_kept codes u valid addresses (Resumes p codes goes_on) held held c d h (done_by_all words_of_it h) (Some home) all (performed_leaves w c d h (Some home) words_of_it done) within kept same done.frame (done.input ∙ all.input);
            }

  -- ---- The return

  -- The words of the function's end stand where the machine is.
  module _ (s : MachineState) (i : ℕ) (b : Bool) (c : Configuration) (h : Holding) (all : HoldsAll codes u addresses (Resumes p codes goes_on) [] c h) (stands : Stands p s i h) (there : CodeAt p i b (leaving_code (codes c.here.function).saved (codes c.here.function).size))
      (main : EndsMain p) (v : Value) (means : Means addresses c.memory v (h.registers 10)) where
    leaves_front : Leaves (codes c.here.function).saved (codes c.here.function).size h
    leaves_front = leaving_leaves (codes c.here.function).saved (codes c.here.function).size h (can_leave c h all)

    abbrev g : Holding
    g = done_by_all (leaving_front (codes c.here.function).saved (codes c.here.function).size) h

    result_kept : g.registers 10 ≡ h.registers 10
    result_kept = leaves_front.left.others 10 (λ e. cc) (λ e. cc) (λ e. cc) (λ e. cc) ∙ restored_a0 (codes c.here.function).saved _ h.memory h.registers (valid c.here.function).registers

    -- To an activation that waits.
    to_caller : (a : Activation) (waiting : List Activation) → c.waiting ≡ a ∷ waiting
        → Returned p s i b (3 + length (leaving_code (codes c.here.function).saved (codes c.here.function).size)) codes u addresses goes_on c (record { memory = ended_from c.here.first_object c.memory; input = c.input; here = take_wanted a.wants v a; waiting = waiting })
    to_caller a waiting waits =
        let two = both c h g a waiting all waits leaves_front.left in
        let wait = two.0 in
        let gone : Reaches p (length (leaving_code (codes c.here.function).saved (codes c.here.function).size)) (record { state = s; shown = b }) [] wait.index false g =
        leaving_returns (map_of_unit u) p s i b h (codes c.here.function).saved (codes c.here.function).size wait.index (can_leave c h all) stands there wait.returns wait.low in
        let later : Memory = ended_from c.here.first_object c.memory in
        let c1 : Configuration = record { memory = later; input = c.input; here = a; waiting = waiting } in
        let held = caller_all c h g a waiting all waits leaves_front.left in
        let resumed = wait.code in
        let value_means : Means addresses later v (g.registers 10) = subst (λ x. Means addresses later v x) (sym result_kept) (means_later addresses c.memory later (those_ended c.here.first_object c.memory) v (h.registers 10) means) in
        let rest = answered_comes [] c1 g a v held refl gone.state wait.index a.wants resumed.target resumed.wants resumed.among resumed.saved gone.stands resumed.code value_means in
        let short = answer_short (codes a.function).storage resumed.target in
        record {
          caller = a;
          waits = waits;
          to = wait.index + length (answer_code (codes a.function).storage resumed.target);
          resumed = resumed.rest;
          value = v;
          here = refl;
          comes = record {
            count = length (leaving_code (codes c.here.function).saved (codes c.here.function).size) + rest.count;
            few = let few = rest.few in omega (arith, few, short);
            holding = rest.holding;
            reaches = reaches_then p (length (leaving_code (codes c.here.function).saved (codes c.here.function).size)) rest.count (record { state = s; shown = b }) [] wait.index false g [] (wait.index + length (answer_code (codes a.function).storage resumed.target)) false rest.holding gone rest.reaches;
            all = rest.all;
          };
        }

    -- The code rests on the memory of the unit.
    same_map : map_of_unit u ≡ p.map
    same_map = sym all.here.map ∙ sym (ap (λ (x : Holding). x.regions) stands.holds) ∙ stands.map

    -- Where the code goes on behind the call of main.
    abbrev behind_main : ℕ
    behind_main = stub_words p.map - 2

    -- From main.
    from_main : (n : ℕ) → v ≡ Number n → c.waiting ≡ [] → EndsRun p s b (3 + length (leaving_code (codes c.here.function).saved (codes c.here.function).size)) (Exited n)
    unfolding operated_immediate
    from_main n is none =
        let top = subst (λ l. HoldsWaiting codes u addresses (Resumes p codes goes_on) c.memory c.input (codes c.here.function) c.here.first_object h l) none all.waiting in
        let returns : word_at h.memory (h.registers 2) ≡ address_of behind_main = subst (λ m. word_at h.memory (h.registers 2) ≡ address_of (stub_words m - 2)) same_map top.0 in
        let low : behind_main < most_words p.map = index_inside p behind_main false (Immediate Addi 17 0 10) main.0 in
        let gone : Reaches p (length (leaving_code (codes c.here.function).saved (codes c.here.function).size)) (record { state = s; shown = b }) [] behind_main false g =
        leaving_returns p.map p s i b h (codes c.here.function).saved (codes c.here.function).size behind_main (can_leave c h all) stands there returns (omega (arith, low)) in
        let one = code_does p gone.state behind_main g false (Immediate Addi 17 0 10 ∷ []) gone.stands (main.0, tt) (tt, tt) in
        let g1 : Holding = done_by_all (Immediate Addi 17 0 10 ∷ []) g in
        let zero : g.registers 0 ≡ 0 = gone.stands.in_range.none in
        let call : g1.registers 17 ≡ 10 = omega (arith, zero) in
        let last = ends_with_status p one.state (behind_main + 1) g1 false one.stands main.1.0 call in
        let word : h.registers 10 ≡ n = subst (λ x. Means addresses c.memory x (h.registers 10)) is means in
        let status : g1.registers 10 ≡ n = result_kept ∙ word in
        let two = reaches_end p 1 1 (record { state = gone.state; shown = false }) [] (behind_main + 1) false g1 (Exit (cast_signed w32 (g1.registers 10)) ∷ []) one last in
        let three =
        reaches_end p (length (leaving_code (codes c.here.function).saved (codes c.here.function).size)) (1 + 1) (record { state = s; shown = b }) [] behind_main false g (Exit (cast_signed w32 (g1.registers 10)) ∷ []) gone two in
        record {
          count = length (leaving_code (codes c.here.function).saved (codes c.here.function).size) + (1 + 1);
          few = omega arith;
          event = Exit (cast_signed w32 n);
          shown = exited_so;
          ends = subst (λ x. Ends p.stops (length (leaving_code (codes c.here.function).saved (codes c.here.function).size) + (1 + 1)) (record { state = s; shown = b }) (Exit (cast_signed w32 x) ∷ [])) status three;
        }

    -- Whichever it is.
    returned_here : DoesReturn p s i b (3 + length (leaving_code (codes c.here.function).saved (codes c.here.function).size)) codes u addresses goes_on c (leave c v)
    returned_here = by_waiting c.waiting refl
      where
        by_value : (x : Value) → v ≡ x → c.waiting ≡ [] → DoesReturn p s i b (3 + length (leaving_code (codes c.here.function).saved (codes c.here.function).size)) codes u addresses goes_on c (exited x)
        by_value (Number n) is none = from_main n is none
        by_value (Pointer object size offset) is none = tt
        by_value Odd is none = tt

        by_waiting : (waiting : List Activation) → c.waiting ≡ waiting → DoesReturn p s i b (3 + length (leaving_code (codes c.here.function).saved (codes c.here.function).size)) codes u addresses goes_on c (returned (ended_from c.here.first_object c.memory) c.input v waiting)
        by_waiting [] none = by_value v refl none
        by_waiting (a ∷ waiting) waits = to_caller a waiting waits

  -- A jump to them has two words at most, and changes nothing but t0.
  module _ (t : Targets) (inside : AreInCode p.map t) (s : MachineState) (i : ℕ) (b : Bool) (c : Configuration) (h : Holding) (all : HoldsAll codes u addresses (Resumes p codes goes_on) [] c h) (stands : Stands p s i h) (end next j room : ℕ)
      (there : PiecesAt p t i b (leaving (codes c.here.function).saved (codes c.here.function).size b end next room) j) (follows : j ≡ t.label next) (ending : CodeAt p (t.label end) false (leaving_code (codes c.here.function).saved (codes c.here.function).size))
      (main : EndsMain p) (v : Value) (means : Means addresses c.memory v (h.registers 10)) where
    abbrev words_of_end : ℕ
    words_of_end = length (leaving_code (codes c.here.function).saved (codes c.here.function).size)

    pub return_done : DoesReturn p s i b (5 + length (leaving_code (codes c.here.function).saved (codes c.here.function).size)) codes u addresses goes_on c (leave c v)
    return_done =
        let f : FunctionCode = codes c.here.function in
        by_test (next == end || (not (nat_le (length f.saved) 9) || not (nat_le (length f.saved + 3 + words_of_moving f.size) room))) there
      where
        by_test : (q : Bool) → PiecesAt p t i b (cond q (going b end next) (words (leaving_code (codes c.here.function).saved (codes c.here.function).size))) j
            → DoesReturn p s i b (5 + words_of_end) codes u addresses goes_on c (leave c v)
        by_test true at =
            let first : GoesTo p s b (j - i) (t.label end) h = going_goes p t s i h b end next j inside stands at follows in
            let few = first.few in
            let short : j ≤ i + 2 = going_few p t i b end next j at in
            let same = first.same in
            let later = all_reheld codes u valid addresses (Resumes p codes goes_on) [] [] c h first.holding all (λ q kept. same.registers q kept.left.t0) same.regions same.memory same.input tt tt in
            let word : h.registers 10 ≡ first.holding.registers 10 = sym (same.registers 10 (λ e. cc)) in
            returned_within p s i b (first.count + (3 + words_of_end)) (5 + words_of_end) codes u addresses goes_on c (leave c v) (omega (arith, few, short))
            (returned_behind p s i b first.count (t.label end) false first.holding (3 + words_of_end) codes u addresses goes_on c (leave c v) first.reaches
            (returned_here first.reaches.state (t.label end) false c first.holding later first.reaches.stands ending main v (subst (λ x. Means addresses c.memory v x) word means)))
        by_test false at =
            let code = words_alone p t i b (leaving_code (codes c.here.function).saved (codes c.here.function).size) j at in
            returned_within p s i b (3 + words_of_end) (5 + words_of_end) codes u addresses goes_on c (leave c v) (omega arith) (returned_here s i b c h all stands code.0 main v means)
