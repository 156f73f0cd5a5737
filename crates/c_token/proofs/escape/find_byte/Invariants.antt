use Rattle.std.proofs.Common.{◌≡◌, drop}
use Rattle.c_token.specs.Literals.{find_byte}
use Rattle.c_token.proofs.escape.find_byte.Given as goal

abbrev pub invariant-loop-entry : goal.invariant-loop-entry
invariant-loop-entry l = find_byte l.table l.byte ≡ find_byte (drop l.entry-index l.table) l.byte
