use Rattle.std.proofs.Common.{◌≡◌, ◌+◌, Some, cond, sym, subst}
use Rattle.std.specs.Prelude.{slice_get}
use Rattle.graph_solve.specs.Rows.{set_at, sets_at}
use Rattle.graph_solve.proofs.Asking.{further_at}
use Rattle.graph_solve.proofs.Bitsets.{at_sets}
use Rattle.graph_solve.proofs.solved_rows.SolvedRows.start_row.Goals as goal

pub returns-then-self-clause-at : goal.returns-then-self-clause-at
returns-then-self-clause-at c =
    let s = c.args.self.now in
    subst (λ f. slice_get (cond f (sets_at s.rows 0 s.blocks) (sets_at s.rows s.blocks s.blocks)) c.args.block ≡ Some (set_at s.rows c.args.block)) (sym c.if-self.true) (at_sets s.rows s.blocks c.args.block c.requires)

pub returns-else-self-clause-at : goal.returns-else-self-clause-at
returns-else-self-clause-at c =
    let s = c.args.self.now in
    subst (λ f. slice_get (cond f (sets_at s.rows 0 s.blocks) (sets_at s.rows s.blocks s.blocks)) c.args.block ≡ Some (set_at s.rows (s.blocks + c.args.block))) (sym c.if-self.false) (further_at s.rows s.blocks c.args.block c.requires)
