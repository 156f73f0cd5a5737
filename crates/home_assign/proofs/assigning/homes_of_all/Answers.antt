use Rattle.std.proofs.Common.{map, sym, ap, ◌∙◌, subst}
use Rattle.std.proofs.lemmas.List.{map-append}
use Rattle.debug_records.specs.Change.{changes}
use Rattle.graph_core.specs.Graphs.{graph_view, logged}
use Rattle.graph_homes.specs.declared.homed.FunctionHomes as declared-homes
use Rattle.home_assign.specs.Moves.{AreMoves}
use Rattle.home_assign.specs.Sharing.{AreLogged, home_in}
use Rattle.home_assign.specs.Changes.{homes_pass}
use Rattle.home_assign.specs.Homes.{AreHomesFor, homes_listed}
use Rattle.home_assign.specs.Units.{IsHomeable}
use Rattle.home_assign.proofs.Units.{Left, Logs, homes_done, homes_step, left_first, logs_done, logs_first, logs_step, may_step, registers_small}
use Rattle.home_assign.proofs.assigning.homes_of_all.Goals as goal

pub loop-left-init : goal.loop-left-init
loop-left-init c =
    let graphs = map graph_view c.args.graphs.now in
    let made = map logged (changes c.args.log.now) in
    let none = ap homes_listed (sym c.new-homes.ensures.items) in
    record {
      may = c.requires;
      homes = subst (λ homes. Left c.args.mode graphs homes graphs) none (left_first c.args.mode graphs);
      changes = subst (λ homes. Logs made homes_pass graphs homes graphs made made) none (logs_first made homes_pass graphs made);
    }

pub log_shared-requires-clause-registers : goal.log_shared-requires-clause-registers
log_shared-requires-clause-registers c =
    registers_small c.graph-item.result.name_count c.deref.result.now (subst (λ homes. AreHomesFor c.graph-item.result.name_count homes) (sym c.deref.ensures.value) c.in_ok-of.ensures.homes)

pub loop-left-preserved : goal.loop-left-preserved
loop-left-preserved c =
    let made = map logged (changes c.args.log.now) in
    let put = ap homes_listed c.in_ok-push.ensures.items ∙ map-append (λ (f : declared-homes.FunctionHomes). f.homes.items) _ _ in
    let moves : AreMoves made c.in_ok-moved.moved = subst (λ all. AreMoves (map logged all) c.in_ok-moved.moved) c.changes.ensures c.in_ok-moved.ensures in
    let g = graph_view c.graph-item.result in
    let old = map logged (changes c.loop-left.log) in
    let new = map logged (changes c.log_shared.new.log) in
    let by_name : AreLogged made (home_in c.deref.result.now) g homes_pass g.scalars old new = subst (λ pass. AreLogged made (home_in c.deref.result.now) g pass g.scalars old new) c.pass_name.ensures (c.in_ok-log_shared.ensures made moves) in
    let here : AreLogged made (home_in c.in_ok-of.of.items) g homes_pass g.scalars old new = subst (λ homes. AreLogged made (home_in homes) g homes_pass g.scalars old new) c.deref.ensures.value by_name in
    record {
      may = may_step IsHomeable graph_view _ c.in-len1-up.len_at_least c.loop-left.invariant.may;
      homes = homes_step c.args.mode graph_view _ _ c.graph-item.result _ _ _ c.in_ok-of.of.items c.in-len1-up.len_at_least c.graph-item.is put c.in_ok-of.ensures.homes c.in_ok-of.ensures.rule c.loop-left.invariant.homes;
      changes = logs_step made homes_pass graph_view _ _ c.graph-item.result _ _ _ c.in_ok-of.of.items made old new c.in-len1-up.len_at_least c.graph-item.is put here c.loop-left.invariant.changes;
    }

pub returns-clause-homes : goal.returns-clause-homes
returns-clause-homes c = homes_done c.args.mode graph_view _ _ _ c.in_default.len_below c.loop-left.invariant.homes

pub returns-clause-changes : goal.returns-clause-changes
returns-clause-changes c =
    let made = map logged (changes c.args.log.now) in
    logs_done made homes_pass graph_view _ _ _ made (map logged (changes c.loop-left.log)) c.in_default.len_below c.loop-left.invariant.changes
