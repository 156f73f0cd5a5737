use Rattle.std.proofs.Common.{sym, ap, ◌∙◌, not}
use Rattle.command_line.proofs.OptionLemmas.{readable_option}
use Rattle.command_line.proofs.matching.is_readable_word.Goals as goal

pub returns : goal.returns
returns c = ap not c.has_dashed_value.ensures ∙ readable_option c.args.word.now (sym c.is_dashed.ensures ∙ c.if-not-is_dashed.false) (sym c.is_long.ensures ∙ c.if-not-is_long.false)
