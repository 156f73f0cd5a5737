use Rattle.std.proofs.Common.{◌≡◌, ◌∙◌, List, ap, arith, length, map, refl, subst, sym}
use Rattle.debug_records.specs.declared.change.Change.{Change}
use Rattle.debug_records.specs.Numbers.{AreNumbered}
use Rattle.dead_pass_writes.specs.RemovedChangesTelling.{AreToldOf}
use Rattle.graph_core.specs.Graphs.{Logged, graph_view, logged}
use Rattle.currency_notes.specs.Homes.{home_in}
use Rattle.graph_homes.specs.Homed.{homed_view}
use Rattle.currency.proofs.OfFunctions.{told_all, told_first, told_next_any}
use Rattle.currency.proofs.OfUnits.{evident_first, evident_next, new_by}
use Rattle.currency.proofs.Tellable.{flow_placed, homes_read, tellable_any}
use Rattle.currency.proofs.rows.told_of_all.Goals as goal

pub new-requires-clause-numbered : goal.new-requires-clause-numbered
new-requires-clause-numbered c = subst (λ (all : List Change). AreNumbered all) (sym c.changes-changes.ensures) c.args.homed.now.unit.log.numbered

pub new-requires-clause-flow : goal.new-requires-clause-flow
new-requires-clause-flow c = flow_placed (homed_view c.args.homed.now) c.args.flow.now c.args.places.now _ (omega arith) c.requires.flow c.requires.table

pub loop-f-init : goal.loop-f-init
loop-f-init c = record {
  so = told_first (homed_view c.args.homed.now) c.args.places.now c.in_ok-told.told c.in_ok-told.ensures.none;
  teller = c.in_ok-teller.ensures.teller;
  log = ap (λ (all : List Change). map logged all) (c.in_ok-teller.ensures.changes ∙ c.changes-changes.ensures);
  flow = c.in_ok-teller.ensures.flow;
  evident = evident_first (homed_view c.args.homed.now).unit.log c.args.flow.now (homed_view c.args.homed.now) c.in_ok-told.told c.in_ok-told.ensures.none;
  count = (let count = c.in_ok-told.ensures.count in omega (arith, count));
}

pub loop-f-preserved : goal.loop-f-preserved
loop-f-preserved c =
    (let known = c.loop-f.invariant in
    let said = c.in_ok-add_function.ensures in
    let h = c.args.homed.now in
    let small = homes_read h c.loop-f.f c.requires.homes (omega arith) in
    record {
      so = told_next_any h c.args.places.now c.loop-f.told c.add_function.new.self c.loop-f.f c.loop-f.f c.index-graph.result.now c.index-names.result.now c.deref.result.now refl (omega arith) c.index-graph.ensures small c.index-names.ensures c.deref.ensures.value
          known.so (said.told (homed_view h).unit.log c.requires.removed);
      teller = said.teller.teller;
      log = ap (λ (all : List Change). map logged all) said.teller.changes ∙ known.log;
      flow = said.teller.flow ∙ known.flow;
      evident = evident_next (homed_view h).unit.log c.args.flow.now h c.loop-f.told c.add_function.new.self c.loop-f.f c.loop-f.f c.index-graph.result.now c.index-names.result.now c.deref.result.now refl (omega arith) c.index-graph.ensures small c.index-names.ensures
          c.deref.ensures.value known.evident (new_by (homed_view h).unit.log c.args.flow.now _ _ (home_in c.deref.result.now) c.loop-f.f (graph_view c.index-graph.result.now) c.loop-f.told c.add_function.new.self known.log known.flow said.hiding);
      count = said.count ∙ known.count;
    })

pub index-names-requires : goal.index-names-requires
index-names-requires c = (let lt = homes_read c.args.homed.now c.loop-f.f c.requires.homes (omega arith) in omega (arith, lt))

pub add_function-requires-clause-teller : goal.add_function-requires-clause-teller
add_function-requires-clause-teller c = c.loop-f.invariant.teller

pub add_function-requires-clause-function : goal.add_function-requires-clause-function
add_function-requires-clause-function c =
    (let known = c.loop-f.invariant in
    let h = c.args.homed.now in
    let small = homes_read h c.loop-f.f c.requires.homes (omega arith) in
    tellable_any h _ _ c.args.flow.now c.args.places.now c.loop-f.f c.loop-f.f c.index-graph.result.now c.index-names.result.now c.deref.result.now c.requires.marked c.requires.homes c.requires.shared c.requires.flow c.requires.table known.log known.flow refl (omega arith) c.index-graph.ensures small c.index-names.ensures
    c.deref.ensures.value)

pub add_function-requires-clause-removed : goal.add_function-requires-clause-removed
add_function-requires-clause-removed c = subst (λ (l : List Logged). AreToldOf l c.args.removed.now) (sym c.loop-f.invariant.log) c.requires.removed

pub add_function-requires-clause-count : goal.add_function-requires-clause-count
add_function-requires-clause-count c = c.loop-f.invariant.count

pub returns-clause-so : goal.returns-clause-so
returns-clause-so c = (let whole : c.loop-f.f ≡ length c.args.homed.now.unit.graphs.items = omega arith in told_all c.args.homed.now c.args.places.now c.loop-f.told c.loop-f.f whole c.loop-f.invariant.so)
