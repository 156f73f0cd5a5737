use Rattle.std.proofs.Common.{◌≡◌, ℕ, ◌++◌, ◌∷◌, [], ◌<◌, ◌≤◌, ◌+◌, ◌*◌, map, take, Some, slice_get, length, length-append, refl, arith, ap, sym, ◌∙◌, subst}
use Rattle.std.proofs.lemmas.List.{map_push, take_all, length-map}
use Rattle.std.proofs.lemmas.Option.{slice_get-get_or}
use Rattle.graph_core.specs.Graphs.{UnitForm, unit_view}
use Rattle.pass_law.specs.Trails.{IsTrail, ends}
use Rattle.pass_law.proofs.KeptTrails.{IsAfter, after_more, after_none, after_room, first_stays, keeps_all, known_more, of_last, push_last, trail_step, unit_at}
use Rattle.debug_records.specs.Change.{letters}
use Rattle.pass_law.specs.Kept.{KeepsShape}
use Rattle.pass_law.specs.Leading.{IsLawfulStep, Lead}
use Rattle.pass_law.specs.Logs.{most_changes}
use Rattle.pass_law.specs.Trails.{OfLast}
use Rattle.pass_law.proofs.Inversions.{some_same}
use Rattle.pass_law.proofs.Leading.{first_at}
use Rattle.pass_law.proofs.list.run_list.Goals as goal

pub loop-i-init : goal.loop-i-init
loop-i-init g c =
    let new = ap (map unit_view) c.in_ok-push_unit.ensures in
    let one : map unit_view c.push_unit.new.units.items ≡ unit_view c.args.unit ∷ [] = new ∙ ap (map unit_view) (ap (λ all. all ++ c.args.unit ∷ []) c.new-units.ensures.items) in
    record {
      trail = subst (λ us. IsTrail (λ p. (goal.Pass-dyn g (p.vtable, p.value)).named p.value) (λ p. (goal.Pass-dyn g (p.vtable, p.value)).steps p.value) c.args.passes.now [] us) (sym one) ends;
      first = subst (λ us. slice_get us 0 ≡ Some (unit_view c.args.unit)) (sym one) refl;
      count = sym (length-map c.push_unit.new.units.items unit_view) ∙ ap length one;
      within = omega arith;
      last = subst (λ us. (u : UnitForm) → slice_get us 0 ≡ Some u → IsAfter (λ p. (goal.Pass-dyn g (p.vtable, p.value)).named p.value) (λ p. (goal.Pass-dyn g (p.vtable, p.value)).steps p.value) c.args.passes.now (unit_view c.args.unit) [] u) (sym one)
          (λ u at. subst (IsAfter (λ p. (goal.Pass-dyn g (p.vtable, p.value)).named p.value) (λ p. (goal.Pass-dyn g (p.vtable, p.value)).steps p.value) c.args.passes.now (unit_view c.args.unit) []) (some_same at) (after_none (λ p. (goal.Pass-dyn g (p.vtable, p.value)).named p.value) (λ p. (goal.Pass-dyn g (p.vtable, p.value)).steps p.value) c.args.passes.now (unit_view c.args.unit) c.requires.marked c.requires.unchanged));
      known = λ k below. absurd (omega arith);
    }

pub returns-in_default-clause-reason : goal.returns-in_default-clause-reason
returns-in_default-clause-reason g c = record {
  name = _;
  stands = slice_get-get_or c.args.names.now c.loop-i.i _ c.loop-i-test.true;
  unknown = c.in_default.ensures.found;
  others = λ k other below at. c.loop-i.invariant.known k below other at;
}

pub apply_one-requires-clause-marked : goal.apply_one-requires-clause-marked
apply_one-requires-clause-marked g c =
    let within : c.loop-i.i < length c.loop-i.units.items = omega (arith, c.loop-i.invariant.count) in
    (c.loop-i.invariant.last (unit_view c.index.result.now) (unit_at c.loop-i.units.items c.loop-i.i c.index.result.now within c.index.ensures)).keeps.still_marked

pub apply_one-requires-clause-room : goal.apply_one-requires-clause-room
apply_one-requires-clause-room g c =
    let within : c.loop-i.i < length c.loop-i.units.items = omega (arith, c.loop-i.invariant.count) in
    after_room (λ p. (goal.Pass-dyn g (p.vtable, p.value)).named p.value) (λ p. (goal.Pass-dyn g (p.vtable, p.value)).steps p.value) c.args.passes.now (unit_view c.args.unit) c.args.names.now c.loop-i.i (unit_view c.index.result.now) c.loop-i-test.true c.requires.few
    (c.loop-i.invariant.last (unit_view c.index.result.now) (unit_at c.loop-i.units.items c.loop-i.i c.index.result.now within c.index.ensures))

pub loop-i-preserved : goal.loop-i-preserved
loop-i-preserved g c =
    let new : map unit_view c.push_unit-in-loop-i.new.units.items ≡ map unit_view c.loop-i.units.items ++ unit_view c.in_ok-next.next ∷ [] = ap (map unit_view) c.in_ok-push_unit-2.ensures ∙ map_push unit_view c.loop-i.units.items c.in_ok-next.next in
    let within : c.loop-i.i < length c.loop-i.units.items = omega (arith, c.loop-i.invariant.count) in
    let first = first_at (λ p. (goal.Pass-dyn g (p.vtable, p.value)).named p.value) _ c.args.passes.now c.in-Some.k c.index-passes-k.result c.in-Some.ensures.within c.index-passes-k.is c.in-Some.ensures.first in
    let now = unit_at c.loop-i.units.items c.loop-i.i c.index.result.now within c.index.ensures in
    let after = after_more (λ p. (goal.Pass-dyn g (p.vtable, p.value)).named p.value) (λ p. (goal.Pass-dyn g (p.vtable, p.value)).steps p.value) c.args.passes.now (unit_view c.args.unit) c.args.names.now c.loop-i.i _ c.index-passes-k.result (unit_view c.index.result.now) (unit_view c.in_ok-next.next) c.loop-i-test.true first
    (c.loop-i.invariant.last (unit_view c.index.result.now) now) c.in_ok-next.ensures.kept c.in_ok-next.ensures.step c.in_ok-next.ensures.logs in
    record {
      trail = subst (λ us. IsTrail (λ p. (goal.Pass-dyn g (p.vtable, p.value)).named p.value) (λ p. (goal.Pass-dyn g (p.vtable, p.value)).steps p.value) c.args.passes.now (take (c.loop-i.i + 1) c.args.names.now) us) (sym new)
          (trail_step (λ p. (goal.Pass-dyn g (p.vtable, p.value)).named p.value) (λ p. (goal.Pass-dyn g (p.vtable, p.value)).steps p.value) c.args.passes.now c.args.names.now _ c.loop-i.i _ c.index-passes-k.result _ _ c.loop-i-test.true c.loop-i.invariant.trail now first c.in_ok-next.ensures.step);
      first = subst (λ us. slice_get us 0 ≡ Some (unit_view c.args.unit)) (sym new) (first_stays _ _ _ c.loop-i.invariant.first);
      count = ap length c.in_ok-push_unit-2.ensures ∙ length-append c.loop-i.units.items (c.in_ok-next.next ∷ []) ∙ ap (λ n. n + 1) c.loop-i.invariant.count;
      within = let below : c.loop-i.i < length c.args.names.now = c.loop-i-test.true in omega (arith, below);
      last = subst (λ us. (u : UnitForm) → slice_get us (c.loop-i.i + 1) ≡ Some u → IsAfter (λ p. (goal.Pass-dyn g (p.vtable, p.value)).named p.value) (λ p. (goal.Pass-dyn g (p.vtable, p.value)).steps p.value) c.args.passes.now (unit_view c.args.unit) (take (c.loop-i.i + 1) c.args.names.now) u) (sym new)
          (push_last (IsAfter (λ p. (goal.Pass-dyn g (p.vtable, p.value)).named p.value) (λ p. (goal.Pass-dyn g (p.vtable, p.value)).steps p.value) c.args.passes.now (unit_view c.args.unit) (take (c.loop-i.i + 1) c.args.names.now)) c.loop-i.units.items c.in_ok-next.next (c.loop-i.i + 1) c.loop-i.invariant.count after);
      known = known_more (λ p. (goal.Pass-dyn g (p.vtable, p.value)).named p.value) (λ p. (goal.Pass-dyn g (p.vtable, p.value)).steps p.value) c.args.passes.now c.args.names.now c.loop-i.i _ c.index-passes-k.result c.loop-i-test.true first c.loop-i.invariant.known;
    }

pub returns-clause-trail : goal.returns-clause-trail
returns-clause-trail g c =
    subst (λ names. IsTrail (λ p. (goal.Pass-dyn g (p.vtable, p.value)).named p.value) (λ p. (goal.Pass-dyn g (p.vtable, p.value)).steps p.value) c.args.passes.now names (map unit_view c.loop-i.units.items)) (take_all c.loop-i.i c.args.names.now c.loop-i-test.false) c.loop-i.invariant.trail

pub returns-clause-keeps : goal.returns-clause-keeps
returns-clause-keeps g c = keeps_all (λ p. (goal.Pass-dyn g (p.vtable, p.value)).named p.value) (λ p. (goal.Pass-dyn g (p.vtable, p.value)).steps p.value) c.args.passes.now _ _ c.loop-i.invariant.trail

-- the index of the last unit is the number of names
all_names : (i n : ℕ) → i ≤ n → n ≤ i → i ≡ n
all_names i n within none = omega (arith, within, none)

pub returns-clause-count : goal.returns-clause-count
returns-clause-count g c = c.loop-i.invariant.count ∙ ap (λ n. n + 1) (all_names c.loop-i.i (length c.args.names.now) c.loop-i.invariant.within c.loop-i-test.false)

pub returns-clause-kept : goal.returns-clause-kept
returns-clause-kept g c =
    let all = all_names c.loop-i.i (length c.args.names.now) c.loop-i.invariant.within c.loop-i-test.false in
    subst (λ n. OfLast (map unit_view c.loop-i.units.items) n (λ v. KeepsShape (unit_view c.args.unit) v)) all
    (of_last (λ v. KeepsShape (unit_view c.args.unit) v) c.loop-i.units.items c.loop-i.i (omega (arith, c.loop-i.invariant.count))
    (λ u at. (subst (λ names. IsAfter (λ p. (goal.Pass-dyn g (p.vtable, p.value)).named p.value) (λ p. (goal.Pass-dyn g (p.vtable, p.value)).steps p.value) c.args.passes.now (unit_view c.args.unit) names u) (take_all c.loop-i.i c.args.names.now c.loop-i-test.false) (c.loop-i.invariant.last u at)).kept))

pub returns-clause-lawful : goal.returns-clause-lawful
returns-clause-lawful g c =
    let all = all_names c.loop-i.i (length c.args.names.now) c.loop-i.invariant.within c.loop-i-test.false in
    subst (λ n. OfLast (map unit_view c.loop-i.units.items) n (λ v. Lead (λ p. (goal.Pass-dyn g (p.vtable, p.value)).named p.value) (λ p. IsLawfulStep ((goal.Pass-dyn g (p.vtable, p.value)).named p.value) ((goal.Pass-dyn g (p.vtable, p.value)).steps p.value).leads) c.args.passes.now (map letters c.args.names.now) (unit_view c.args.unit) v)) all
    (of_last (λ v. Lead (λ p. (goal.Pass-dyn g (p.vtable, p.value)).named p.value) (λ p. IsLawfulStep ((goal.Pass-dyn g (p.vtable, p.value)).named p.value) ((goal.Pass-dyn g (p.vtable, p.value)).steps p.value).leads) c.args.passes.now (map letters c.args.names.now) (unit_view c.args.unit) v) c.loop-i.units.items c.loop-i.i (omega (arith, c.loop-i.invariant.count))
    (λ u at. (subst (λ names. IsAfter (λ p. (goal.Pass-dyn g (p.vtable, p.value)).named p.value) (λ p. (goal.Pass-dyn g (p.vtable, p.value)).steps p.value) c.args.passes.now (unit_view c.args.unit) names u) (take_all c.loop-i.i c.args.names.now c.loop-i-test.false) (c.loop-i.invariant.last u at)).lawful))

pub returns-clause-few_changes : goal.returns-clause-few_changes
returns-clause-few_changes g c =
    let all = all_names c.loop-i.i (length c.args.names.now) c.loop-i.invariant.within c.loop-i-test.false in
    subst (λ n. OfLast (map unit_view c.loop-i.units.items) n (λ v. length v.log ≤ most_changes (unit_view c.args.unit).room * length c.args.names.now)) all
    (of_last (λ v. length v.log ≤ most_changes (unit_view c.args.unit).room * length c.args.names.now) c.loop-i.units.items c.loop-i.i (omega (arith, c.loop-i.invariant.count))
    (λ u at. (subst (λ names. IsAfter (λ p. (goal.Pass-dyn g (p.vtable, p.value)).named p.value) (λ p. (goal.Pass-dyn g (p.vtable, p.value)).steps p.value) c.args.passes.now (unit_view c.args.unit) names u) (take_all c.loop-i.i c.args.names.now c.loop-i-test.false) (c.loop-i.invariant.last u at)).few))
