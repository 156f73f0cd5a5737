use Rattle.std.proofs.Common.{sym, ap, ◌∙◌}
use Rattle.graph_core.specs.Graphs.{end_view}
use Rattle.motion_pass_problems.specs.Facts.{is_return}
use Rattle.motion_pass_problems.proofs.Pushed.{has_all, has_none}
use Rattle.motion_pass_problems.proofs.problems.unsafe_begin.Goals as goal

pub returns-in-Return : goal.returns-in-Return
returns-in-Return c = λ k. has_all k ∙ ap (λ e. is_return (end_view e)) (sym c.in-Return.is)

pub returns-in-Jump : goal.returns-in-Jump
returns-in-Jump c = λ k. has_none k ∙ ap (λ e. is_return (end_view e)) (sym c.in-Jump.is)

pub returns-in-Branch : goal.returns-in-Branch
returns-in-Branch c = λ k. has_none k ∙ ap (λ e. is_return (end_view e)) (sym c.in-Branch.is)
