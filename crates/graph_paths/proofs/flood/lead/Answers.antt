use Rattle.std.proofs.Common.{◌≡◌, inl, inr, sym, subst}
use Rattle.graph_core.specs.declared.block.End.{End}
use Rattle.graph_core.specs.Graphs.{end_view}
use Rattle.graph_core.specs.Uses.{targets_of}
use Rattle.graph_core.specs.Paths.{Among, front, behind}
use Rattle.graph_paths.specs.Flood.{IsClosedAlong}
use Rattle.graph_paths.specs.PathMarksTable.{bits_of}
use Rattle.graph_paths.proofs.Leading.{among_one, among_two}
use Rattle.graph_paths.proofs.Flooding.{closed_on}
use Rattle.graph_paths.proofs.flood.lead.Goals as goal

pub flow_along-requires-clause-edge : goal.flow_along-requires-clause-edge
flow_along-requires-clause-edge g c = c.requires.edges c.in-Jump.to.0 (subst (λ (d : End). Among c.in-Jump.to.0 (targets_of (end_view d))) (sym c.in-Jump.is) front)

pub flow_along-requires-in-Branch-clause-edge : goal.flow_along-requires-in-Branch-clause-edge
flow_along-requires-in-Branch-clause-edge g c = c.requires.edges c.in-Branch.then.0 (subst (λ (d : End). Among c.in-Branch.then.0 (targets_of (end_view d))) (sym c.in-Branch.is) front)

pub flow_along-requires-in-Branch-2-clause-edge : goal.flow_along-requires-in-Branch-2-clause-edge
flow_along-requires-in-Branch-2-clause-edge g c = c.requires.edges c.in-Branch.otherwise.0 (subst (λ (d : End). Among c.in-Branch.otherwise.0 (targets_of (end_view d))) (sym c.in-Branch.is) (behind front))

pub returns-in_ok-is_new-in-Jump-clause-closed : goal.returns-in_ok-is_new-in-Jump-clause-closed
returns-in_ok-is_new-in-Jump-clause-closed g c = λ q l among.
    let course = g.T.Transfer.course c.args.transfer.now in
    let only : l ≡ c.in-Jump.to.0 = among_one (subst (λ (d : End). Among l (targets_of (end_view d))) c.in-Jump.is among) in
    subst (λ m. IsClosedAlong course c.args.number m (bits_of c.flow_along.new.comes) (bits_of c.flow_along.new.leaves)) (sym only) (c.in_ok-is_new-in-Jump.ensures.closed q)

pub returns-else-first-clause-closed : goal.returns-else-first-clause-closed
returns-else-first-clause-closed g c = λ q l among.
    let course = g.T.Transfer.course c.args.transfer.now in
    let a = c.flow_along-in-Branch.new.comes in
    let b = c.flow_along-in-Branch.new.leaves in
    let a1 = c.flow_along-in-Branch-2.new.comes in
    let b1 = c.flow_along-in-Branch-2.new.leaves in
    let two = among_two (subst (λ (d : End). Among l (targets_of (end_view d))) c.in-Branch.is among) in
    elim two [
      | inl first ↦ subst (λ m. IsClosedAlong course c.args.number m (bits_of a1) (bits_of b1)) (sym first)
          (closed_on course a b a1 b1 c.in_ok-second-in-Branch.second c.in_ok-second-in-Branch.ensures.step q c.args.number c.in-Branch.then.0 (c.in_ok-first-in-Branch.ensures.closed c.if-first.false))
      | inr second ↦ subst (λ m. IsClosedAlong course c.args.number m (bits_of a1) (bits_of b1)) (sym second) (c.in_ok-second-in-Branch.ensures.closed q)
    ]
