use Rattle.std.proofs.Common.{sym, subst}
use Rattle.graph_paths.specs.Flood.{IsStep}
use Rattle.graph_paths.proofs.Flooding.{step_carried}
use Rattle.graph_paths.proofs.flood.carry.Goals as goal

pub returns-in_ok-make-clause-step : goal.returns-in_ok-make-clause-step
returns-in_ok-make-clause-step g c =
    let course = g.T.Transfer.course c.args.transfer.now in
    subst (λ r. IsStep course c.args.comes.now c.args.leaves.now c.add_from-is_new.new.self c.make.new.leaves r) (sym c.if-is_new.true)
    (step_carried course c.args.comes.now c.args.leaves.now c.add_from-is_new.new.self c.make.new.leaves c.args.from c.args.to c.requires.from c.requires.to c.requires.flows
    c.add_from-is_new.ensures.count c.add_from-is_new.ensures.width c.in_ok-make.ensures.same_count c.in_ok-make.ensures.same_width
    c.add_from-is_new.ensures.there c.add_from-is_new.ensures.rows c.in_ok-make.ensures.made c.in_ok-make.ensures.others (c.add_from-is_new.ensures.more c.if-is_new.true))
