use Rattle.currency.proofs.Adding.{cause_moved, cause_removed, cause_reused}
use Rattle.currency.proofs.telling.verdict_of.Goals as goal

pub returns-in-Removed : goal.returns-in-Removed
returns-in-Removed c = cause_removed c.args.hiding c.in-Removed.change c.in-Removed.start c.in-Removed.is

pub returns-in-Moved : goal.returns-in-Moved
returns-in-Moved c = cause_moved c.args.hiding c.in-Moved.change c.in-Moved.start c.in-Moved.writer c.in-Moved.is

pub returns-in-Reused : goal.returns-in-Reused
returns-in-Reused c = cause_reused c.args.hiding c.in-Reused.change c.in-Reused.start c.in-Reused.writer c.in-Reused.is
