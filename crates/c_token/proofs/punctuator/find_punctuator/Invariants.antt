use Rattle.std.proofs.Common.{◌≡◌, drop}
use Rattle.c_token.specs.Punctuators.{find_punctuator}
use Rattle.c_token.specs.Tables.{spelled}
use Rattle.c_token.proofs.punctuator.find_punctuator.Given as goal

abbrev pub invariant-loop-entry : goal.invariant-loop-entry
invariant-loop-entry l = find_punctuator (spelled l.table) l.text l.at ≡ find_punctuator (spelled (drop l.entry-index l.table)) l.text l.at
