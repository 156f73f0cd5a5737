use Rattle.std.proofs.Common.{true≢false, ap, map, sym, ◌∙◌}
use Rattle.std.proofs.lemmas.List.{map-append}
use Rattle.graph_core.specs.Graphs.{instruction_view}
use Rattle.dead_pass.specs.LeftBy.{went, stayed}
use Rattle.dead_pass.proofs.notes.push_left.Goals as goal

pub returns-then-goes-clause-left : goal.returns-then-goes-clause-left
returns-then-goes-clause-left c = went c.if-goes.true c.in_ok-push_gone.ensures

pub returns-then-goes-clause-said : goal.returns-then-goes-clause-said
returns-then-goes-clause-said c = λ log b before rest staying. absurd (true≢false (sym c.if-goes.true ∙ staying))

pub returns-clause-left : goal.returns-clause-left
returns-clause-left c = stayed c.if-goes.false c.in_ok-kept.ensures.left (ap (λ xs. map instruction_view xs) c.in_ok-push.ensures.items ∙ map-append instruction_view _ _)

pub returns-clause-said : goal.returns-clause-said
returns-clause-said c = λ log b before rest staying ready here.
    record { left = instruction_view c.in_ok-kept.kept; is = ap (λ xs. map instruction_view xs) c.in_ok-push.ensures.items ∙ map-append instruction_view _ _; says = c.in_ok-kept.ensures.said log b before rest ready here }
