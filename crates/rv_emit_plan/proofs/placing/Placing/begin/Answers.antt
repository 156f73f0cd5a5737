use Rattle.std.proofs.Common.{◌≡◌, ◌∙◌, ap, false, replicate, sym, subst, []}
use Rattle.rv_emit_plan.specs.Orders.{ArePlaced, PlacingForm, with_placed}
use Rattle.rv_emit_plan.proofs.Growing.{begins}
use Rattle.rv_emit_plan.proofs.placing.Placing.begin.Goals as goal

pub returns-clause-placed : goal.returns-clause-placed
returns-clause-placed c =
    let none : PlacingForm = record { is_placed = replicate c.args.blocks false; order = [] } in
    let marks = c.in_ok-vec.ensures.items_if_clones_equal (λ y e. e) in
    let start : record { is_placed = c.in_ok-vec.field-0.items; order = c.new.result.items } ≡ none = λ i. record { is_placed = marks i; order = c.new.ensures.items i } in
    subst ArePlaced (sym (c.in_ok-place.ensures.exact ∙ ap (with_placed 0) start)) (begins c.args.blocks)
