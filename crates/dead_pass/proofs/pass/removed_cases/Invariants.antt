use Rattle.std.proofs.Common.{List, map}
use Rattle.std.specs.List.{AllByRecursion}
use Rattle.places.specs.declared.flow.Assignment.{Assignment}
use Rattle.dead_pass_notes.specs.Idle.{IsOf, graph_of}
use Rattle.pass_law.proofs.OfFunctions.{AreCasesBelow}
use Rattle.dead_pass_notes.specs.Writes.{IsRemovedWrite}
use Rattle.dead_pass.proofs.pass.removed_cases.Given as goal

abbrev pub invariant-loop-number : goal.invariant-loop-number
invariant-loop-number l = (assignments : List Assignment) → AllByRecursion (IsOf assignments) l.idle → AreCasesBelow (λ before after. IsRemovedWrite assignments before) (map graph_of l.idle) (map graph_of l.idle) l.number l.cases.items
