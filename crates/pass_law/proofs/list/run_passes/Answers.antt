use Rattle.std.proofs.Common.{◌≤◌, ◌*◌, ap, arith, length, map, refl, subst}
use Rattle.std.proofs.lemmas.List.{take_all}
use Rattle.debug_records.specs.Change.{letters}
use Rattle.graph_core.specs.Graphs.{unit_view}
use Rattle.pass_law.specs.Leading.{IsLawfulStep, Lead}
use Rattle.pass_law.specs.Logs.{most_changes}
use Rattle.pass_law.proofs.Found.{handed_at}
use Rattle.pass_law.proofs.KeptTrails.{after_more, after_none, after_room}
use Rattle.pass_law.proofs.Leading.{first_at}
use Rattle.pass_law.proofs.list.run_passes.Goals as goal

pub loop-name-init : goal.loop-name-init
loop-name-init g c = record {
  after = after_none (λ p. (goal.Pass-dyn g (p.vtable, p.value)).named p.value) (λ p. (goal.Pass-dyn g (p.vtable, p.value)).steps p.value) c.args.passes.now (unit_view c.args.unit) c.requires.marked c.requires.unchanged;
  same = λ none. refl;
}

pub index_of-i-requires : goal.index_of-i-requires
index_of-i-requires g c = handed_at (λ p. (goal.Pass-dyn g (p.vtable, p.value)).named p.value) c.args.passes.now c.args.names.now c.loop-name.name-index _ c.loop-name-test.true c.requires.handed_in

pub apply_one-requires-clause-marked : goal.apply_one-requires-clause-marked
apply_one-requires-clause-marked g c = c.loop-name.invariant.after.keeps.still_marked

pub apply_one-requires-clause-room : goal.apply_one-requires-clause-room
apply_one-requires-clause-room g c =
    after_room (λ p. (goal.Pass-dyn g (p.vtable, p.value)).named p.value) (λ p. (goal.Pass-dyn g (p.vtable, p.value)).steps p.value) c.args.passes.now (unit_view c.args.unit) c.args.names.now c.loop-name.name-index (unit_view c.loop-name.last) c.loop-name-test.true c.requires.few c.loop-name.invariant.after

pub loop-name-preserved : goal.loop-name-preserved
loop-name-preserved g c =
    let first = first_at (λ p. (goal.Pass-dyn g (p.vtable, p.value)).named p.value) _ c.args.passes.now c.index_of-i.result c.index-passes-i.result c.index_of-i.ensures.within c.index-passes-i.is c.index_of-i.ensures.first in
    record {
      after = after_more (λ p. (goal.Pass-dyn g (p.vtable, p.value)).named p.value) (λ p. (goal.Pass-dyn g (p.vtable, p.value)).steps p.value) c.args.passes.now (unit_view c.args.unit) c.args.names.now c.loop-name.name-index _ c.index-passes-i.result (unit_view c.loop-name.last) (unit_view c.in_ok-next.next) c.loop-name-test.true first
          c.loop-name.invariant.after c.in_ok-next.ensures.kept c.in_ok-next.ensures.step c.in_ok-next.ensures.logs;
      same = λ none. let e = ap length none in absurd (omega (arith, c.loop-name-test.true, e));
    }

pub returns-clause-led : goal.returns-clause-led
returns-clause-led g c =
    subst (λ names. Lead (λ p. (goal.Pass-dyn g (p.vtable, p.value)).named p.value) (λ p. ((goal.Pass-dyn g (p.vtable, p.value)).steps p.value).leads) c.args.passes.now (map letters names) (unit_view c.args.unit) (unit_view c.loop-name.last)) (take_all c.loop-name.name-index c.args.names.now c.loop-name-test.false) c.loop-name.invariant.after.led

pub returns-clause-lawful : goal.returns-clause-lawful
returns-clause-lawful g c =
    subst (λ names. Lead (λ p. (goal.Pass-dyn g (p.vtable, p.value)).named p.value) (λ p. IsLawfulStep ((goal.Pass-dyn g (p.vtable, p.value)).named p.value) ((goal.Pass-dyn g (p.vtable, p.value)).steps p.value).leads) c.args.passes.now (map letters names) (unit_view c.args.unit) (unit_view c.loop-name.last)) (take_all c.loop-name.name-index c.args.names.now c.loop-name-test.false) c.loop-name.invariant.after.lawful

pub returns-clause-few_changes : goal.returns-clause-few_changes
returns-clause-few_changes g c = subst (λ names. length (unit_view c.loop-name.last).log ≤ most_changes (unit_view c.args.unit).room * length names) (take_all c.loop-name.name-index c.args.names.now c.loop-name-test.false) c.loop-name.invariant.after.few

pub returns-clause-kept : goal.returns-clause-kept
returns-clause-kept g c = c.loop-name.invariant.after.kept

pub returns-clause-keeps : goal.returns-clause-keeps
returns-clause-keeps g c = c.loop-name.invariant.after.keeps

pub returns-clause-made : goal.returns-clause-made
returns-clause-made g c = c.loop-name.invariant.after.keeps.still_marked.valid
