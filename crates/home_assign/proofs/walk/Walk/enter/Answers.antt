use Rattle.std.proofs.Common.{◌≡◌, ◌&&◌, ◌||◌, ◌↔◌, true, length, vec_len, map, sym, ap, ◌∙◌, subst, arith}
use Rattle.std.proofs.lemmas.Bool.{eqb-false}
use Rattle.bit_rows.specs.Grid.{is_set}
use Rattle.graph_core.specs.Graphs.{binding_view, block_view, graph_view}
use Rattle.graph_core.specs.Paths.{is_bound}
use Rattle.graph_solve_live.specs.Live.{IsReadFirst}
use Rattle.graph_solve_live.specs.LiveRows.{ends_of, starts_of}
use Rattle.home_assign.proofs.Clashing.{entered, first_block}
use Rattle.home_assign.proofs.Living.{starts_told, stands_at_start}
use Rattle.home_assign.proofs.Spare.{bit_same}
use Rattle.home_assign.proofs.walk.Walk.enter.Goals as goal

pub returns-then-not-is_empty-clause-written : goal.returns-then-not-is_empty-clause-written
returns-then-not-is_empty-clause-written c =
    let g = graph_view c.args.graph.now in
    let names = c.args.self.now.names in
    let begun = c.begin_at_start.new.self.rows in
    let new = c.bind.new.self.rows in
    let same : c.begin_at_start.new.self.names ≡ names = c.begin_at_start.ensures.names in
    let count : vec_len c.args.graph.now.blocks ≡ length c.args.graph.now.blocks.items = omega arith in
    let some : length c.args.graph.now.blocks.items ≡ 0 → ⊥ = λ e. eqb-false (vec_len c.args.graph.now.blocks) 0 (sym c.is_empty.ensures ∙ c.if-not-is_empty.true) (count ∙ e) in
    let first = first_block block_view c.args.graph.now.blocks.items some in
    λ x y p q.
    let row : is_set begun x y ≡ is_set c.args.self.now.rows x y = bit_same c.args.self.now.rows begun x (c.begin_at_start.ensures.others x (λ e. omega (arith, p, e))) y in
    let is : is_set new x y ≡ (is_set c.args.self.now.rows x y || (is_bound x g.parameters && is_set begun names y)) =
    subst (λ m. is_set new x y ≡ (is_set begun x y || (is_bound x g.parameters && is_set begun m y))) same
    (c.bind.ensures.written x y (omega (arith, p, same)) ∙ ap (λ all. is_set begun x y || (is_bound x (map binding_view all) && is_set begun c.begin_at_start.new.self.names y)) c.deref.ensures.value)
    ∙ ap (λ bit. bit || (is_bound x g.parameters && is_set begun names y)) row in
    let lives : (is_set begun names y ≡ true) ↔ IsReadFirst g y first.0.instructions first.0.end =
    stands_at_start g y 0 first.0 first.1 (omega (arith, q, c.requires.few)) (is_set begun names y)
    (starts_told g (starts_of c.args.live.now) (ends_of c.args.live.now) c.requires.live 0 begun names c.begin_at_start.ensures.live y) in
    entered g x y first.0 (is_set c.args.self.now.rows x y) (is_set new x y) (is_set begun names y) first.1 is lives (c.requires.written x y p q)
