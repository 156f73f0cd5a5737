use Rattle.std.proofs.Common.{ℕ, Option, [], ◌∷◌, ◌-◌, option_map, length, map, take, drop, sym, ap, ◌∙◌}
use Rattle.debug_records.specs.declared.change.Place as declared-place
use Rattle.graph_core.specs.Graphs.{instruction_view, scalar_view}
use Rattle.graph_core.specs.Validity.{place_behind}
use Rattle.graph_homes.specs.Reused.{first_among, one_or_other}
use Rattle.home_assign.specs.Moves.{is_moved_at}
use Rattle.home_assign.proofs.FirstCopies.{among_next, among_none, or_else_twice, so_far_same}
use Rattle.home_assign.proofs.copies.Copies.add_block.Goals as goal

pub loop-left-preserved : goal.loop-left-preserved
loop-left-preserved c = λ rest whole so.
    let moved = is_moved_at (map scalar_view c.args.scalars.now) c.args.moves.now in
    let scalars = length c.args.scalars.now in
    let before : Option ℕ = option_map (λ (q : declared-place.Place). q.0) c.loop-left.place in
    let left = c.loop-left.left.now in
    let next : ℕ → ℕ → Option ℕ =
    λ p x. one_or_other (first_among p x (place_behind (instruction_view c.instruction-item.result ∷ []) before) (map instruction_view (take (length left - 1) (drop 1 left)))) (rest p x) in
    so_far_same moved scalars next _ whole _ (λ p x. ap (λ q. one_or_other (first_among p x q (map instruction_view (take (length left - 1) (drop 1 left)))) (rest p x)) (sym c.place_behind-place.ensures))
    (c.in_ok-add_by.ensures next whole
    (so_far_same moved scalars _ _ whole _
    (λ p x.
    ap (λ o. one_or_other o (rest p x)) (among_next instruction_view left c.instruction-item.result _ c.in-len1-up.len_at_least c.instruction-item.is before p x)
    ∙ or_else_twice (first_among p x before (instruction_view c.instruction-item.result ∷ [])) (first_among p x (place_behind (instruction_view c.instruction-item.result ∷ []) before) (map instruction_view (take (length left - 1) (drop 1 left)))) (rest p x))
    (c.loop-left.invariant rest whole so)))

pub returns : goal.returns
returns c = λ rest whole so.
    so_far_same (is_moved_at (map scalar_view c.args.scalars.now) c.args.moves.now) (length c.args.scalars.now) _ rest whole _
    (λ p x. ap (λ o. one_or_other o (rest p x)) (among_none instruction_view c.loop-left.left.now c.in_default.len_below (option_map (λ (q : declared-place.Place). q.0) c.loop-left.place) p x))
    (c.loop-left.invariant rest whole so)
