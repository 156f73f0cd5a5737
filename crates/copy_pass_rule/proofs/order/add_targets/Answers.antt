use Rattle.std.proofs.Common.{sym, subst}
use Rattle.graph_core.specs.Graphs.{end_view}
use Rattle.graph_core.specs.Uses.{targets_of}
use Rattle.copy_pass_rule.specs.Order.{AreAdded, more, none}
use Rattle.copy_pass_rule.proofs.order.add_targets.Goals as goal

pub returns-in-Return : goal.returns-in-Return
returns-in-Return c = subst (λ e. AreAdded (targets_of (end_view e)) c.args.order.now.items c.args.has.now c.args.order.now.items c.args.has.now) (sym c.in-Return.is) none

pub returns-in_ok-add-in-Jump : goal.returns-in_ok-add-in-Jump
returns-in_ok-add-in-Jump c =
    subst (λ e. AreAdded (targets_of (end_view e)) c.args.order.now.items c.args.has.now c.add.new.order.items c.add.new.has) (sym c.in-Jump.is) (more c.in_ok-add-in-Jump.ensures none)

pub returns-in_ok-add-in-Branch-2 : goal.returns-in_ok-add-in-Branch-2
returns-in_ok-add-in-Branch-2 c =
    subst (λ e. AreAdded (targets_of (end_view e)) c.args.order.now.items c.args.has.now c.add-in-Branch-2.new.order.items c.add-in-Branch-2.new.has) (sym c.in-Branch.is)
    (more c.in_ok-add-in-Branch.ensures (more c.in_ok-add-in-Branch-2.ensures none))
