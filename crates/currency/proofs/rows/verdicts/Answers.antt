use Rattle.std.proofs.Common.{◌≡◌, List, ap, arith, length, map, subst}
use Rattle.std.proofs.lemmas.List.{length-map}
use Rattle.debug_records.specs.declared.change.Change.{Change}
use Rattle.graph_core.specs.Graphs.{logged}
use Rattle.graph_homes.specs.Homed.{homed_view}
use Rattle.dead_pass_writes.specs.RemovedChangesTelling.{AreToldOf}
use Rattle.currency.proofs.Named.{are_named, are_written}
use Rattle.currency.proofs.OnRows.{are_apart, are_hidden, are_home, are_least, are_only, are_reached, are_recovered}
use Rattle.currency.proofs.OfUnits.{are_evident}
use Rattle.currency.proofs.Variables.{told_below}
use Rattle.currency.proofs.rows.verdicts.Goals as goal

pub new-requires : goal.new-requires
new-requires c = (let few = c.requires.few in let many = length-map c.args.homed.now.unit.log.changes.items logged in let same : length c.changes.result.now ≡ length c.args.homed.now.unit.log.changes.items = ap (λ (l : List Change). length l) c.changes.ensures in record { few = omega (arith, few, many, same) })

pub told_of_all-requires-clause-removed : goal.told_of_all-requires-clause-removed
told_of_all-requires-clause-removed c = subst (λ (all : List Change). AreToldOf (map logged all) c.in_ok-removed.removed) c.changes.ensures c.in_ok-removed.ensures

pub rows_of-requires-clause-below : goal.rows_of-requires-clause-below
rows_of-requires-clause-below c =
    let u = homed_view c.args.homed.now in
    told_below c.args.homed.now u.unit.log c.args.flow.now c.in_ok-told.told c.variable_count.result c.variable_count.ensures c.in_ok-told.ensures.evident

pub returns-clause-home : goal.returns-clause-home
returns-clause-home c = are_home (homed_view c.args.homed.now) c.args.places.now c.in_ok-told.told c.in_ok-rows.rows.items c.in_ok-told.ensures.so c.in_ok-rows.ensures.told

pub returns-clause-recovered : goal.returns-clause-recovered
returns-clause-recovered c = are_recovered (homed_view c.args.homed.now) c.args.places.now c.in_ok-told.told c.in_ok-rows.rows.items c.in_ok-told.ensures.so c.in_ok-rows.ensures.told

pub returns-clause-apart : goal.returns-clause-apart
returns-clause-apart c = are_apart (homed_view c.args.homed.now) c.args.places.now c.in_ok-told.told c.in_ok-rows.rows.items c.in_ok-told.ensures.so c.in_ok-rows.ensures.told

pub returns-clause-only : goal.returns-clause-only
returns-clause-only c = are_only (homed_view c.args.homed.now) c.args.places.now c.in_ok-told.told c.in_ok-rows.rows.items c.in_ok-told.ensures.so c.in_ok-rows.ensures.told

pub returns-clause-least : goal.returns-clause-least
returns-clause-least c = are_least (homed_view c.args.homed.now) c.args.places.now c.in_ok-told.told c.in_ok-rows.rows.items c.in_ok-told.ensures.so c.in_ok-rows.ensures.told

pub returns-clause-hidden : goal.returns-clause-hidden
returns-clause-hidden c = are_hidden (homed_view c.args.homed.now) c.args.places.now c.in_ok-told.told c.in_ok-rows.rows.items c.in_ok-told.ensures.so c.in_ok-rows.ensures.told

pub returns-clause-reached : goal.returns-clause-reached
returns-clause-reached c = are_reached (homed_view c.args.homed.now) c.args.places.now c.in_ok-told.told c.in_ok-rows.rows.items c.in_ok-told.ensures.so c.in_ok-rows.ensures.told

pub returns-clause-evident : goal.returns-clause-evident
returns-clause-evident c =
    let u = homed_view c.args.homed.now in
    are_evident u.unit.log c.args.flow.now u c.args.places.now c.in_ok-told.told c.in_ok-rows.rows.items c.in_ok-told.ensures.evident c.in_ok-rows.ensures.told

pub returns-clause-named : goal.returns-clause-named
returns-clause-named c =
    let u = homed_view c.args.homed.now in
    let table = c.args.places.now in
    let rows = c.in_ok-rows.rows.items in
    let told = c.in_ok-told.ensures in
    let each = c.in_ok-rows.ensures.told in
    are_named u c.args.flow.now table c.in_ok-told.told rows told.so told.evident each (are_evident u.unit.log c.args.flow.now u table c.in_ok-told.told rows told.evident each)

pub returns-clause-written : goal.returns-clause-written
returns-clause-written c =
    let u = homed_view c.args.homed.now in
    let rows = c.in_ok-rows.rows.items in
    are_written u.unit.log c.args.flow.now u rows (are_evident u.unit.log c.args.flow.now u c.args.places.now c.in_ok-told.told rows c.in_ok-told.ensures.evident c.in_ok-rows.ensures.told)
