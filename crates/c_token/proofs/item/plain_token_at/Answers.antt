use Rattle.std.proofs.Common.{sym}
use Rattle.c_token.proofs.Firsts.{letter_begins, number_begins}
use Rattle.c_token.proofs.item.plain_token_at.Goals as goal

pub word_at-requires-clause-word : goal.word_at-requires-clause-word
word_at-requires-clause-word c = letter_begins _ (sym c.if-is_letter.ensures)

pub constant_at-requires-clause-number : goal.constant_at-requires-clause-number
constant_at-requires-clause-number c = number_begins c.args.text.now c.args.at (sym c.if-begins_constant.ensures)
