use Rattle.std.proofs.Common.{◌≡◌, Some, cond, ◌∙◌, subst}
use Rattle.std.specs.Prelude.{slice_get}
use Rattle.graph_solve.specs.Rows.{sets_at}
use Rattle.graph_solve.proofs.Asking.{asked_first, asked_further}
use Rattle.graph_solve.proofs.solved_rows.SolvedRows.is_at_end.Goals as goal

pub returns-then-self : goal.returns-then-self
returns-then-self c facts at =
    let s = c.args.self.now in
    c.get.ensures ∙ asked_further s.rows s.blocks c.args.block c.args.fact facts c.requires.block (subst (λ f. slice_get (cond f (sets_at s.rows s.blocks s.blocks) (sets_at s.rows 0 s.blocks)) c.args.block ≡ Some facts) c.if-self.true at)

pub returns-else-self : goal.returns-else-self
returns-else-self c facts at =
    let s = c.args.self.now in
    c.get-else-self.ensures ∙ asked_first s.rows s.blocks c.args.block c.args.fact facts c.requires.block (subst (λ f. slice_get (cond f (sets_at s.rows s.blocks s.blocks) (sets_at s.rows 0 s.blocks)) c.args.block ≡ Some facts) c.if-self.false at)
