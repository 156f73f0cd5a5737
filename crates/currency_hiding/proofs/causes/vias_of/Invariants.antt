use Rattle.std.proofs.Common.{take}
use Rattle.std.specs.Prelude.{All, IfSome}
use Rattle.currency_writers.specs.declared.writers.Write as declared-write
use Rattle.currency_hiding.specs.declared.causes.Via as declared-via
use Rattle.currency_hiding.specs.Found.{IsViaOf, IsWayBy}
use Rattle.currency_hiding.proofs.First.{AreOfWrites}
use Rattle.currency_hiding.proofs.causes.vias_of.Given as goal

abbrev pub invariant-loop-write : goal.invariant-loop-write
invariant-loop-write l = record {
  each : All (λ (v : declared-via.Via). IsWayBy l.search v) l.vias.items;
  of : AreOfWrites l.writes l.vias.items;
  last : IfSome l.last (λ (w : declared-write.Write). IsViaOf l.search l.vias.items w);
  all : All (λ (w : declared-write.Write). IsViaOf l.search l.vias.items w) (take l.write-index l.writes);
}
