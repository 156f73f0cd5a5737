use Rattle.std.proofs.Common.{◌≡◌, length, map}
use Rattle.rv_emit_tables.specs.Emitted.{function_view}
use Rattle.graph_core.specs.Graphs.{graph_view}
use Rattle.graph_homes.specs.declared.homed.FunctionHomes.{FunctionHomes}
use Rattle.image_build_tables.specs.Storages.{functions_kept, put_all}
use Rattle.image_build_tables.proofs.storages.put_functions.Given as goal

abbrev pub invariant-loop-left : goal.invariant-loop-left
invariant-loop-left l =
    put_all (functions_kept (map graph_view l.left) (map function_view l.codes_left) (map (λ (f : FunctionHomes). f.homes.items) l.homes_left)) l.table
    ≡ put_all (functions_kept (map graph_view l.graphs) (map function_view l.codes) (map (λ (f : FunctionHomes). f.homes.items) l.homes)) l.fn.table

abbrev pub decreases-loop-left : goal.decreases-loop-left
decreases-loop-left l = length l.left
