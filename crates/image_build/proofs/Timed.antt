-- The places of a well marked unit take bounded time, whatever its log is.
use Rattle.std.proofs.Common.{◌≡◌, Some, List, slice_get, subst}
use Rattle.rv_emit_runs.specs.Timed.{AreTimed}
use Rattle.graph_core.specs.Graphs.{Graph, UnitForm}
use Rattle.graph_core.specs.Validity.{IsValid}
use Rattle.graph_core.specs.WellMarked.{AreWellMarked}

-- A valid unit with the graphs of a well marked one.
pub timed : (u v : UnitForm) → AreWellMarked u → v.graphs ≡ u.graphs → IsValid v → AreTimed v
timed u v marked same valid = record {
  valid = valid;
  graphs = λ f g got.
      (let is = marked.graphs f g (subst (λ (l : List Graph). slice_get l f ≡ Some g) same got) in
      record {
        begins = is.begins;
        first = is.first;
        cycles = is.cycles;
        entry_calls = is.entry_calls;
        leaves = is.leaves;
        zeroes = is.zeroes;
        copies = is.copies;
        zeroes_first = is.zeroes_first;
        copies_first = is.copies_first;
      });
}
