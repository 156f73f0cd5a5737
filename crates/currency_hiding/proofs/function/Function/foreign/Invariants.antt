use Rattle.std.proofs.Common.{take}
use Rattle.std.specs.Prelude.{All}
use Rattle.currency_writers.specs.declared.writers.Write as declared-write
use Rattle.currency_hiding.specs.Found.{IsForeignWrite}
use Rattle.currency_hiding.proofs.Asked.{IsForeignFound}
use Rattle.currency_hiding.proofs.function.Function.foreign.Given as goal

abbrev pub invariant-loop-write : goal.invariant-loop-write
invariant-loop-write l = record {
  each : All (λ (w : declared-write.Write). IsForeignWrite l.self w) l.found.items;
  all : All (λ (w : declared-write.Write). IsForeignFound l.self l.found.items w) (take l.write-index l.write-items);
}
