use Rattle.std.proofs.Common.{◌≡◌, map, take}
use Rattle.graph_core.specs.Graphs.{bytes_view}
use Rattle.graph_core.proofs.duplicate.duplicate_bytes.Given as goal

abbrev pub invariant-loop-bytes : goal.invariant-loop-bytes
invariant-loop-bytes l = map bytes_view l.copies.items ≡ map bytes_view (take l.bytes-index l.all)
