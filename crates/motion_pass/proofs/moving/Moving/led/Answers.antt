use Rattle.std.proofs.Common.{◌≡◌, ◌+◌, List, [], ◌∷◌, length, vec_len, map, sym, ap, ◌∙◌, arith}
use Rattle.std.proofs.lemmas.Bool.{eqb-true, eqb-false}
use Rattle.std.proofs.lemmas.List.{append-nil, length-map, map-append}
use Rattle.graph_core.specs.Graphs.{Block, Jump, block_view, instruction_view}
use Rattle.motion_pass_placement.specs.Moving.{AreDone}
use Rattle.motion_pass_points.specs.Ways.{along}
use Rattle.motion_pass.specs.Placing.{blocks_of, first_of, graph_of, placed, treated_in}
use Rattle.motion_pass.proofs.Acting.{edge_done}
use Rattle.motion_pass.proofs.Leading.{led_by, led_on, no_items}
use Rattle.motion_pass.proofs.moving.Moving.led.Goals as goal

pub returns-then-is_empty : goal.returns-then-is_empty
returns-then-is_empty c =
    let m = c.args.self.now in
    let g = graph_of m in
    let p = m.placement.now in
    let edge = c.requires.edge in
    let there = c.requires.moving.inside c.args.from edge.block edge.is c.args.to.0 edge.leads in
    let items = c.in_ok-instructions.instructions.items in
    let made = map instruction_view items in
    let done : AreDone (blocks_of m) (first_of m) (treated_in m) (along c.args.from c.args.to.0) made =
    edge_done g p c.requires.moving.are c.args.from edge.block edge.is c.args.to.0 edge.leads made (c.in_ok-instructions.ensures.by_rule g c.requires.moving.are there.0 there.1)
    (λ never. ap (λ xs. map instruction_view xs) (c.in_ok-instructions.ensures.nowhere g c.requires.moving.are edge.block edge.is never)) in
    let count : vec_len c.in_ok-instructions.instructions ≡ length items = omega arith in
    let none : vec_len c.in_ok-instructions.instructions ≡ 0 = eqb-true (vec_len c.in_ok-instructions.instructions) 0 (sym c.is_empty.ensures ∙ c.if-is_empty.true) in
    record {
      own = [];
      led = led_on (blocks_of m) (first_of m) (treated_in m) c.args.from (placed c.args.place) c.args.to.0 (length (blocks_of m) + length (map block_view c.args.added.now.items)) made done (ap (λ xs. map instruction_view xs) (no_items items (sym count ∙ none)));
      grown = sym (append-nil (map block_view c.args.added.now.items));
    }

pub returns : goal.returns
returns c =
    let m = c.args.self.now in
    let g = graph_of m in
    let p = m.placement.now in
    let edge = c.requires.edge in
    let there = c.requires.moving.inside c.args.from edge.block edge.is c.args.to.0 edge.leads in
    let items = c.in_ok-instructions.instructions.items in
    let made = map instruction_view items in
    let done : AreDone (blocks_of m) (first_of m) (treated_in m) (along c.args.from c.args.to.0) made =
    edge_done g p c.requires.moving.are c.args.from edge.block edge.is c.args.to.0 edge.leads made (c.in_ok-instructions.ensures.by_rule g c.requires.moving.are there.0 there.1)
    (λ never. ap (λ xs. map instruction_view xs) (c.in_ok-instructions.ensures.nowhere g c.requires.moving.are edge.block edge.is never)) in
    let count : vec_len c.in_ok-instructions.instructions ≡ length items = omega arith in
    let some : made ≡ [] → ⊥ = λ none. eqb-false (vec_len c.in_ok-instructions.instructions) 0 (sym c.is_empty.ensures ∙ c.if-is_empty.false) (count ∙ sym (length-map items instruction_view) ∙ ap length none) in
    let blocks = length-map m.graph.now.blocks.items block_view in
    let old = length-map c.args.added.now.items block_view in
    let own : List Block = record { place = placed c.args.place; instructions = made; end = Jump c.args.to.0 } ∷ [] in
    record {
      own = own;
      led = led_by (blocks_of m) (first_of m) (treated_in m) c.args.from (placed c.args.place) c.args.to.0 (length (blocks_of m) + length (map block_view c.args.added.now.items)) (c.len.result + c.len-2.result) made done some (omega (arith, blocks, old, c.len.ensures, c.len-2.ensures));
      grown = ap (λ xs. map block_view xs) c.in_ok-push.ensures.items ∙ map-append block_view c.args.added.now.items _;
    }
