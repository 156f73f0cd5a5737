use Rattle.std.proofs.Common.{◌≡◌, ℕ, List, [], map, replicate}
use Rattle.std.specs.Global.{Vec}
use Rattle.graph_paths.proofs.lists.no_lists.Given as goal

abbrev pub invariant-loop : goal.invariant-loop
invariant-loop l = map (λ (list : Vec ℕ). list.items) l.lists.items ≡ replicate l.counter []
