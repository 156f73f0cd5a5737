use Rattle.std.proofs.Common.{◌≡◌, [], take}
use Rattle.graph_core.specs.Graphs.{unit_view}
use Rattle.pass_law.proofs.KeptTrails.{IsAfter}
use Rattle.pass_law.proofs.list.run_passes.Given as goal

abbrev pub invariant-loop-name : goal.invariant-loop-name
invariant-loop-name g l = record {
  after : IsAfter (λ p. (goal.Pass-dyn g (p.vtable, p.value)).named p.value) (λ p. (goal.Pass-dyn g (p.vtable, p.value)).steps p.value) l.passes (unit_view l.fn.unit) (take l.name-index l.names) (unit_view l.last);
  same : l.names ≡ [] → l.last ≡ l.fn.unit;
}
