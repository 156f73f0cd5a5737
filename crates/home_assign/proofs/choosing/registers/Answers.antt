use Rattle.std.proofs.Common.{◌≡◌, ◌<◌, None, [], ◌∷◌, get_or, length, sym, ap, ◌∙◌, subst, arith, length-append}
use Rattle.std.specs.Prelude.{slice_get}
use Rattle.std.specs.List.{AllByRecursion}
use Rattle.std.proofs.lemmas.Option.{slice_get_within}
use Rattle.graph_core.specs.Graphs.{graph_view}
use Rattle.graph_homes.specs.Homed.{IsHomeAmong}
use Rattle.home_assign.specs.Joins.{IsFirst}
use Rattle.home_assign.specs.Choosing.{HaveHomeRegisters}
use Rattle.home_assign.specs.Rule.{IsHome, slots_in}
use Rattle.home_assign.proofs.Choices.{registers_none, rule_put, still_clashes}
use Rattle.home_assign.proofs.choosing.registers.Goals as goal

pub loop-name-init : goal.loop-name-init
loop-name-init c =
    let none : c.new.result.items ≡ [] = c.new.ensures.items in
    record {
      each = ap length none;
      right = c.in_ok-interference.ensures.clashes;
      registers = subst (λ homes. HaveHomeRegisters c.in_ok-interference.interference homes) (sym none) (registers_none c.in_ok-interference.interference (λ k y lt. c.in_ok-interference.ensures.free k y lt));
      slots = sym (ap slots_in none);
      among = subst (λ homes. AllByRecursion (IsHomeAmong (length homes)) homes) (sym none) tt;
      rule = λ x k is. absurd (omega (arith, slice_get_within [] x k (sym (ap (λ homes. slice_get homes x) none) ∙ is)));
    }

pub push-requires-clause-few : goal.push-requires-clause-few
push-requires-clause-few c = omega (arith, c.loop-name.invariant.each, c.loop-name-test.true, ap length c.deref-first-items.ensures.value, c.in_ok-joined.ensures.each, c.requires.names)

pub push-requires-clause-name : goal.push-requires-clause-name
push-requires-clause-name c = sym c.loop-name.invariant.each

pub push-requires-clause-within : goal.push-requires-clause-within
push-requires-clause-within c = omega (arith, c.loop-name-test.true, ap length c.deref-first-items.ensures.value, c.in_ok-joined.ensures.each, c.loop-name.invariant.right.count)

pub loop-name-preserved : goal.loop-name-preserved
loop-name-preserved c =
    let g = graph_view c.args.graph.now in
    let name = c.loop-name.name in
    let homes = c.loop-name.choice.homes.items in
    let next = c.in_ok-push.ensures.next in
    let within : name < g.name_count = omega (arith, c.loop-name-test.true, ap length c.deref-first-items.ensures.value, c.in_ok-joined.ensures.each) in
    let told : IsFirst g name (get_or c.deref-first-items.result.now name None) = subst (λ all. IsFirst g name (get_or all name None)) (sym c.deref-first-items.ensures.value) (c.in_ok-joined.ensures.first name within) in
    let chosen : IsHome g homes (length homes) next.home = subst (λ n. IsHome g homes n next.home) (sym c.loop-name.invariant.each) (next.rule g c.loop-name.invariant.right told) in
    record {
      each = omega (arith, ap length next.is, length-append homes (next.home ∷ []), c.loop-name.invariant.each);
      right = still_clashes g c.loop-name.interference c.push.new.interference c.in_ok-push.ensures.clashes c.loop-name.invariant.right;
      registers = c.in_ok-push.ensures.registers;
      slots = c.in_ok-push.ensures.slots;
      among = c.in_ok-push.ensures.among;
      rule = rule_put g homes c.push.new.self.homes.items next.home next.is chosen c.loop-name.invariant.rule;
    }

pub returns-clause-homes : goal.returns-clause-homes
returns-clause-homes c =
    let count : length c.loop-name.choice.homes.items ≡ c.args.graph.now.name_count =
    omega (arith, c.loop-name.invariant.each, c.loop-name-test.false, c.loop-name.auto.name-end, ap length c.deref-first-items.ensures.value, c.in_ok-joined.ensures.each) in
    record { each = count; among = subst (λ n. AllByRecursion (IsHomeAmong n) c.loop-name.choice.homes.items) count c.loop-name.invariant.among }
