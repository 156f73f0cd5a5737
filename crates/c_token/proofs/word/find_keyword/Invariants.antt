use Rattle.std.proofs.Common.{◌≡◌, drop}
use Rattle.c_token.specs.Tables.{spelled}
use Rattle.c_token.specs.Words.{find_keyword}
use Rattle.c_token.proofs.word.find_keyword.Given as goal

abbrev pub invariant-loop-entry : goal.invariant-loop-entry
invariant-loop-entry l = find_keyword (spelled l.table) l.word ≡ find_keyword (spelled (drop l.entry-index l.table)) l.word
