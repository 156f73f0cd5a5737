use Rattle.std.proofs.Common.{get_or}
use Rattle.graph_core.specs.declared.graph.Binding.{Binding}
use Rattle.graph_core.specs.declared.graph.Binding.TheVariants.{Scalar}
use Rattle.graph_core.specs.Graphs.{binding_view}
use Rattle.dead_pass_writes.proofs.Steps.{binding_done, binding_step, front_same}
use Rattle.dead_pass_writes.proofs.writes.PlaceWrites.add_bindings.Goals as goal

pub loop-ahead-preserved : goal.loop-ahead-preserved
loop-ahead-preserved c = λ p x.
    (let ahead = c.loop-ahead.ahead.now in
    let some = c.in-len1-up.len_at_least in
    let item : Binding = get_or ahead 0 (Scalar (record { 0 = 0 })) in
    binding_step binding_view ahead item c.args.entry p x _ _ _ some (front_same ahead (Scalar (record { 0 = 0 })) item some) (c.in_ok-add_binding.ensures p x) (c.loop-ahead.invariant p x))

pub returns : goal.returns
returns c = λ p x. binding_done binding_view _ c.args.entry p x _ _ c.in_default.len_below (c.loop-ahead.invariant p x)
