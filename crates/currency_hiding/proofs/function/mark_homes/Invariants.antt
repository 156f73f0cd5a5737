use Rattle.std.proofs.Common.{◌≡◌, take}
use Rattle.std.specs.Prelude.{All}
use Rattle.currency_writers.specs.Marks.{room_of}
use Rattle.currency_writers.specs.declared.writers.Write as declared-write
use Rattle.currency_writers.specs.Writers.{HaveOneHome}
use Rattle.currency_hiding.proofs.Asked.{AreBare, IsPlaceMarked}
use Rattle.currency_hiding.proofs.function.mark_homes.Given as goal

abbrev pub invariant-loop-write : goal.invariant-loop-write
invariant-loop-write l = record {
  bare : AreBare l.writers l.scalar l.marks;
  marked : All (λ (w : declared-write.Write). IsPlaceMarked l.writers (λ y. HaveOneHome l.writers y l.scalar) (room_of l.fn.marks) l.marks w) (take l.write-index l.write-items);
  room : room_of l.marks ≡ room_of l.fn.marks;
}
