-- The run of the code comes to each event in time, from its beginning on and for each number of steps.
use Rattle.std.proofs.Common.{◌≡◌, ℕ, zero, suc, ◌+◌, ◌-◌, ◌*◌, ◌≤◌, sym, ap, ◌∙◌, subst, arith, refl, Option, Some, None, Bool, true, false, cond, List, [], ◌∷◌, ◌++◌, length, map}
use Rattle.std.specs.Prelude.{◌==◌}
use Rattle.std.proofs.lemmas.Bool.{eqb-true}
use Rattle.rv_machine.specs.State.{MachineState}
use Rattle.rv_machine.specs.Table.{started}
use Rattle.rv_machine.specs.Run.{Arrival, machine_run}
use Rattle.event_runs.specs.Following.{Follows}
use Rattle.event_runs.proofs.Following.{follows_later}
use Rattle.graph_core.specs.declared.instruction.Callee.TheVariants as callee
use Rattle.graph_core.specs.Graphs.{Operand, Instruction, Marker, Note, Move, Operate, Truncate, Same, Address, Load, Store, Zero, CopyWords, Call, End, Jump, Branch, Return}
use Rattle.graph_core.specs.Paths.{Among}
use Rattle.graph_core.specs.Runs.{Configuration, Stepped, Goes, Shows as ShowsStep, Ends as EndsStep, Wild, Stop, frame as shown_frame, at_place, step, step_from, execute, execute_end}
use Rattle.graph_core.specs.Uses.{targets_of}
use Rattle.graph_homes.specs.declared.home.Home.{Home}
use Rattle.graph_homes.specs.Homed.{HomedForm, HaveHomes, placed_operand, placed_instruction, placed_end, over_homes}
use Rattle.graph_homes.specs.Seen.{seen_after, seen, seen_some, seen_run}
use Rattle.rv_emit_tables.specs.Emitted.{EmittedForm}
use Rattle.rv_emit_storage.specs.Storages.{home_at}
use Rattle.rv_emit_steps.specs.Points.{Point, events}
use Rattle.rv_emit_steps.proofs.Steps.{going_on}
use Rattle.rv_emit_runs.specs.Laid.{stop_addresses, IsCode}
use Rattle.rv_emit_runs.specs.Running.{emitted_run}
use Rattle.rv_emit_runs.specs.Standing.{SameSeen}
use Rattle.rv_emit_runs.proofs.Related.{Related, DoesStep}
use Rattle.rv_emit_runs.proofs.Rest.{program_in, codes_in, position_of}
use Rattle.rv_emit_runs.proofs.EmitRunsStarting.{ComesToFirst, comes_to_first, first, first_is, main_there, no_stop}
use Rattle.rv_emit_runs.proofs.Steps.{step_done}
use Rattle.rv_emit_runs.proofs.Tracks.{calls_function}
use Rattle.rv_emit_runs.specs.Timed.{AreTimed}
use Rattle.rv_emit_runs.specs.InTime.{FollowsInTime}
use Rattle.rv_emit_runs.specs.Room.{HasRoom}
use Rattle.rv_emit_runs.proofs.Amounts.{all_plain, all_early}
use Rattle.rv_emit_runs.proofs.Credits.{Credit, once_few, early_few, full}
use Rattle.rv_emit_runs.proofs.Enough.{enough}
use Rattle.rv_emit_runs.proofs.Next.{longest, next_credit}
use Rattle.rv_emit_runs.proofs.Totals.{all_few}
use Rattle.rv_emit_runs.proofs.Waiting.{KeepsWaiting, instruction_keeps, end_keeps, LeavesOne, return_leaves}

-- What calls a function does so over homes, and nothing else does.
calls_same : (home : ℕ → Home) (i : Instruction) → calls_function (placed_instruction home i) ≡ calls_function i
calls_same home (Marker p) = refl
calls_same home (Note x v) = refl
calls_same home (Move x a) = refl
calls_same home (Operate x op a b) = refl
calls_same home (Truncate x t a) = refl
calls_same home (Same x a b) = refl
calls_same home (Address x o) = refl
calls_same home (Load x e l) = refl
calls_same home (Store e l a) = refl
calls_same home (Zero o w) = refl
calls_same home (CopyWords o b w) = refl
calls_same home (Call x callee.Getchar all) = refl
calls_same home (Call x callee.Putchar all) = refl
calls_same home (Call x callee.Exit all) = refl
calls_same home (Call x (callee.Function f) all) = refl

targets_same : (home : ℕ → Home) (z : End) → targets_of (placed_end home z) ≡ targets_of z
targets_same home (Jump to) = refl
targets_same home (Branch k a b l m) = refl
targets_same home (Return None) = refl
targets_same home (Return (Some a)) = refl

-- A step that goes on goes on so.
keeps_so : (c d : Configuration) → KeepsWaiting c (Goes d) → length d.waiting ≡ length c.waiting
keeps_so c d kept = ap length kept

module _ (h : HomedForm) (timed : AreTimed h.unit) (homed : HaveHomes h) (e : EmittedForm) (code : IsCode h e) (room : HasRoom h e code) where
  module _ (c : Configuration) (q : Point) (r : Related h e code c q) (d : Configuration) (goes : step (over_homes h) c ≡ Goes d) where
    abbrev home : ℕ → Home
    home = home_at (codes_in h e code c.here.function).storage

    -- What the step does where an instruction is next, and where nothing but an end is.
    next_is : (i : Instruction) (more : List Instruction) → r.rest.more ≡ i ∷ more
        → execute (over_homes h) (placed_instruction (home_at (codes_in h e code c.here.function).storage) i) (going_on c (map (placed_instruction (home_at (codes_in h e code c.here.function).storage)) more)) ≡ Goes d
    next_is i more is = sym (ap (λ l. step_from (over_homes h) l c) (r.rest.rest ∙ ap (λ l. map (placed_instruction home) l) is)) ∙ goes

    end_is : r.rest.more ≡ [] → execute_end (over_homes h) (placed_end (home_at (codes_in h e code c.here.function).storage) r.rest.block.end) c ≡ Goes d
    end_is is = sym (ap (λ l. step_from (over_homes h) l c) (r.rest.rest ∙ ap (λ l. map (placed_instruction home) l) is) ∙ ap (λ z. execute_end (over_homes h) z c) r.rest.end) ∙ goes

    -- A marker that shows nothing is the entry's.
    entry_marker : (p : ℕ) (more : List Instruction) → r.rest.more ≡ Marker p ∷ more → p ≡ (codes_in h e code c.here.function).graph.entry
    entry_marker p more is = by_test (p == c.here.graph.entry) refl (next_is (Marker p) more is)
      where
        at : Configuration
        at = at_place p (going_on c (map (placed_instruction (home_at (codes_in h e code c.here.function).storage)) more))

        of : c.here.graph.entry ≡ (codes_in h e code c.here.function).graph.entry
        of = ap (λ g. g.entry) r.rest.graph

        by_test : (b : Bool) → (p == c.here.graph.entry) ≡ b → cond b (Goes at) (ShowsStep (Stop (shown_frame at.here ∷ map shown_frame at.waiting) at.memory) at) ≡ Goes d → p ≡ (codes_in h e code c.here.function).graph.entry
        by_test true same does = eqb-true p c.here.graph.entry same ∙ of
        by_test false other does = cc

    passed_waits : (i : Instruction) (more : List Instruction) → r.rest.more ≡ i ∷ more → calls_function i ≡ false → length d.waiting ≡ length c.waiting
    passed_waits i more is none =
        let g : Configuration = going_on c (map (placed_instruction home) more) in
        keeps_so g d (subst (λ z. KeepsWaiting g z) (next_is i more is) (instruction_keeps (over_homes h) (placed_instruction home i) g (calls_same home i ∙ none)))

    block_waits : (l : ℕ) → r.rest.more ≡ [] → Among l (targets_of r.rest.block.end) → length d.waiting ≡ length c.waiting
    block_waits l is among =
        keeps_so c d (subst (λ z. KeepsWaiting c z) (end_is is) (end_keeps (over_homes h) (placed_end home r.rest.block.end) c l (subst (λ t. Among l t) (sym (targets_same home r.rest.block.end)) among)))

    return_waits : (v : Option Operand) → r.rest.more ≡ [] → r.rest.block.end ≡ Return v → length c.waiting ≡ suc (length d.waiting)
    return_waits v is end = by_value v (sym (ap (λ z. execute_end (over_homes h) (placed_end home z) c) end) ∙ end_is is)
      where
        by_value : (v : Option Operand) → execute_end (over_homes h) (placed_end (home_at (codes_in h e code c.here.function).storage) (Return v)) c ≡ Goes d → length c.waiting ≡ suc (length d.waiting)
        by_value None does = subst (λ z. LeavesOne c z) does (return_leaves (over_homes h) None c)
        by_value (Some a) does = subst (λ z. LeavesOne c z) does (return_leaves (over_homes h) (Some (placed_operand home a)) c)

  -- ---- The induction

  abbrev most : ℕ
  most = 1025 * length e.code

  all_follow : (n : ℕ) (c : Configuration) (q : Point) (r : Related h e code c q) (b : ℕ) → Credit h timed e code room (position_of r.rest) (length c.waiting) b
      → Follows (SameSeen h e code.arrangement) b (1025 * length e.code) (seen (over_homes h) n c) (events (program_in h e code).stops q)
  all_follow zero c q r b credit = tt
  all_follow (suc n) c q r b credit =
      by_step (step (over_homes h) c) refl (λ d p related b2 left. all_follow n d p related b2 left) (step_done h timed.valid homed e code c q r) (enough h timed e code room r.rest (length c.waiting) b credit)
    where
      few_wait : (d : Configuration) (p : Point) → Related h e code d p → length d.waiting ≤ 1023
      few_wait d p related = let depth = related.all.depth in omega (arith, depth)

      by_step : (z : Stepped) → step (over_homes h) c ≡ z
          → ((d : Configuration) (p : Point) (related : Related h e code d p) (b2 : ℕ) → Credit h timed e code room (position_of related.rest) (length d.waiting) b2
          → Follows (SameSeen h e code.arrangement) b2 (1025 * length e.code) (seen (over_homes h) n d) (events (program_in h e code).stops p))
          → DoesStep h e code (position_of r.rest) (longest h timed e code room r.rest (length c.waiting) b credit) q z → longest h timed e code room r.rest (length c.waiting) b credit ≤ b
          → Follows (SameSeen h e code.arrangement) b (1025 * length e.code) (seen_after z (seen (over_homes h) n)) (events (program_in h e code).stops q)
      by_step (Goes d) goes later done within =
          let left = next_credit h timed e code room r.rest (length c.waiting) b credit done.related.rest (length d.waiting) done.advances (entry_marker c q r d goes) (passed_waits c q r d goes) (block_waits c q r d goes) (return_waits c q r d goes) in
          let few = done.few in
          follows_later (SameSeen h e code.arrangement) done.count (b - longest h timed e code room r.rest (length c.waiting) b credit) b most (seen (over_homes h) n d) (events (program_in h e code).stops q) (events (program_in h e code).stops done.point) done.leads.by (omega (arith, few, within)) (later d done.point done.related (b - longest h timed e code room r.rest (length c.waiting) b credit) left)
      by_step (ShowsStep event d) goes later done within =
          let few = done.few in (
            record { steps = done.count; shown = done.event; rest = events (program_in h e code).stops done.point; same = done.same; is = done.leads.by },
            omega (arith, few, within),
            later d done.point done.related most (full h timed e code room done.related.rest (length d.waiting) (few_wait d done.point done.related)),
          )
      by_step (EndsStep event) goes later done within = let few = done.few in (record { steps = done.count; shown = done.event; rest = λ k. []; same = done.same; is = done.ends.by }, omega (arith, few, within), tt)
      by_step Wild goes later done within = tt

  -- From the beginning on.
  pub follows_in_time : FollowsInTime h e code.arrangement
  follows_in_time input bytes n =
      let start : ComesToFirst h timed.valid homed e code input bytes = comes_to_first h timed.valid homed e code input bytes in
      let c : Configuration = first h timed.valid homed e code input bytes in
      let s : MachineState = started e.map e.code e.initial input in
      let R = SameSeen h e code.arrangement in
      let low = (main_there h timed.valid homed e code input bytes).0 in
      let all = all_few h timed e code room in
      let one = once_few h timed e code room h.unit.main low in
      let two = early_few h timed e code room h.unit.main low in
      let few = start.few in
      let b : ℕ = all_plain h e code room h.unit.main + all_early h e code room h.unit.main in
      let begin : Credit h timed e code room (position_of start.related.rest) 0 b = subst (λ p. Credit h timed e code room p 0 b) (sym start.begins) (record { start = λ none. omega arith; early = λ place. let clash : None ≡ Some (codes_in h e code h.unit.main).graph.entry = place in cc; going = λ q place away. let clash : None ≡ Some q = place in cc }) in
      let events_from : Follows R most most (seen (over_homes h) n c) (events (program_in h e code).stops (record { state = s; shown = false })) =
      follows_later R start.count b most most (seen (over_homes h) n c) (events (program_in h e code).stops (record { state = s; shown = false })) (events (program_in h e code).stops start.point) start.leads.by (omega (arith, all, one, two, few)) (all_follow n c start.point start.related b begin) in
      let is : seen_run (over_homes h) input n ≡ seen (over_homes h) n c = ap (seen_some (over_homes h) n) (first_is h timed.valid homed e code input bytes) in
      subst (λ l. Follows R most most l (emitted_run e input)) (sym is)
      (follows_later R 0 most most most (seen (over_homes h) n c) (emitted_run e input) (events (program_in h e code).stops (record { state = s; shown = false }))
      (λ k j same.
      let here : j ≡ k = omega (arith, same) in
      ap (λ m. machine_run (stop_addresses e) m s) here ∙ ap (λ b. cond b (Arrival s ∷ []) [] ++ machine_run (stop_addresses e) k s) (sym (no_stop h timed.valid homed e code input bytes)))
      (omega arith) events_from)
