use Rattle.std.proofs.Common.{◌≡◌, ℕ, ◌+◌, ◌-◌, ◌<◌, Some, Option, List, ap, subst, ◌∙◌, arith}
use Rattle.std.specs.Prelude.{IfSome, slice_get, slice_index_or}
use Rattle.std.proofs.lemmas.Option.{get_or_from_slice_get, slice_get_within}
use Rattle.image_form.specs.Views.{viewed}
use Rattle.image_form.specs.declared.variables.Variable.{Variable}
use Rattle.stop_engine_tables.proofs.VariableListLaws.{AreLinked, linked_more, linked_past}
use Rattle.stop_engine_tables.proofs.variable_lists.link.Goals as goal

-- the numbers of functions are below how many there are
function_low : (vs : List Variable) (k f count : ℕ) (v : Variable) → slice_get vs k ≡ Some v → v.function ≡ Some f → IfSome (slice_index_or vs k v).function (λ g. g < count) → f < count
function_low vs k f count v at own there = subst (λ (o : Option ℕ). IfSome o (λ g. g < count)) (ap (λ (w : Variable). w.function) (get_or_from_slice_get vs k v v at) ∙ own) there

pub loop-left-preserved-in-Some : goal.loop-left-preserved-in-Some
loop-left-preserved-in-Some c =
    let vs : List Variable = (viewed c.args.image.now).variables in
    let k = c.loop-left.left - 1 in
    let v = c.variable_at.result in
    let f = c.in-Some.function in
    let some : c.loop-left.left ≡ k + 1 = omega (arith, c.loop-left-test.true) in
    let linked = subst (λ n. AreLinked vs n c.loop-left.first c.loop-left.next) some c.loop-left.invariant.1 in
    let low = function_low vs k f _ v c.variable_at.ensures c.in-Some.is (c.requires.functions k v (slice_get_within vs k v c.variable_at.ensures)) in
    let within = c.loop-left.invariant.0 in
    (omega (arith, within), linked_more vs k f v c.loop-left.first c.loop-left.next c.variable_at.ensures c.in-Some.is (omega (arith, low, c.loop-left.auto.first)) linked)

pub loop-left-preserved : goal.loop-left-preserved
loop-left-preserved c =
    let vs : List Variable = (viewed c.args.image.now).variables in
    let k = c.loop-left.left - 1 in
    let some : c.loop-left.left ≡ k + 1 = omega (arith, c.loop-left-test.true) in
    let linked = subst (λ n. AreLinked vs n c.loop-left.first c.loop-left.next) some c.loop-left.invariant.1 in
    let within = c.loop-left.invariant.0 in
    (omega (arith, within), linked_past vs k c.variable_at.result c.loop-left.first c.loop-left.next c.variable_at.ensures c.in-None.is linked)
