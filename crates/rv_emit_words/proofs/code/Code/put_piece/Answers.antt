use Rattle.std.proofs.Common.{arith}
use Rattle.rv_emit_words.proofs.Counting.{words_put, shown_put}
use Rattle.rv_emit_words.proofs.code.Code.put_piece.Goals as goal

pub returns-clause-few : goal.returns-clause-few
returns-clause-few c = omega (arith, words_put _ _ _ c.in_ok-push.ensures.items)

pub returns-clause-stops : goal.returns-clause-stops
returns-clause-stops c = shown_put _ _ _ c.in_ok-push.ensures.items
