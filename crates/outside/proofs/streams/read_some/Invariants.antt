-- A read that a signal interrupts takes nothing, and the buffer keeps its length.
use Rattle.std.proofs.Common.{◌≡◌, length}
use Rattle.std.specs.Io.KnownBytes.{Keeps}
use Rattle.outside.proofs.streams.read_some.Given as goal

abbrev pub invariant-loop : goal.invariant-loop
invariant-loop g l = record {
  same_length : length l.buffer ≡ length l.initial.buffer;
  kept : Keeps (g.F.Read.remaining l.initial.reader) (g.F.Read.remaining l.reader);
}
