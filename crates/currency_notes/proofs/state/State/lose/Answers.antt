use Rattle.std.proofs.Common.{arith, ◌∙◌}
use Rattle.currency_notes.proofs.Losing.{lose_all, lose_more}
use Rattle.currency_notes.proofs.state.State.lose.Goals as goal

pub loop-scalar-preserved : goal.loop-scalar-preserved
loop-scalar-preserved c =
    let inv = c.loop-scalar.invariant in
    let one = c.lose_one.ensures in record {
      written = one.written ∙ inv.written;
      size = one.size ∙ inv.size;
      kept = λ x r said unread. one.kept x r (inv.kept x r said unread) unread;
      less = λ x r said. inv.less x r (one.less x r said);
      told = λ x d said. inv.told x d (one.told x d said);
      unread = lose_more c.args.function.now.homes c.args.name c.args.readers.now c.loop-scalar.scalar-index _ c.loop-scalar.self.noted.items c.lose_one.new.self.noted.items c.loop-scalar-test.true one.less one.unread inv.unread;
    }

pub returns-clause-unread : goal.returns-clause-unread
returns-clause-unread c = lose_all c.args.function.now.homes c.args.name c.args.readers.now c.loop-scalar.scalar-index c.loop-scalar.self.noted.items (omega arith) c.loop-scalar.invariant.unread
