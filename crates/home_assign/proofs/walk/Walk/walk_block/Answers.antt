use Rattle.std.proofs.Common.{◌≡◌, ◌+◌, ◌-◌, ◌==◌, ◌&&◌, ◌||◌, ◌⊎◌, ◌↔◌, true, Some, [], ◌∷◌, inl, inr, drop, length, map, refl, sym, ap, ◌∙◌, subst, arith}
use Rattle.std.specs.Prelude.{not, option_map, slice_get}
use Rattle.std.specs.List.{list_any}
use Rattle.std.proofs.lemmas.List.{drop_all, drop_more}
use Rattle.std.proofs.lemmas.Option.{slice_get-map, slice_get_read}
use Rattle.bit_rows.specs.Grid.{is_set}
use Rattle.graph_core.specs.Graphs.{block_view, end_view, graph_view, instruction_view}
use Rattle.graph_core.specs.Uses.{numbers, reads_of_end}
use Rattle.graph_core.specs.Paths.{reads, writes}
use Rattle.graph_solve_live.specs.Live.{IsReadFirst, end_reads}
use Rattle.graph_solve_live.specs.LiveRows.{ends_of, starts_of}
use Rattle.home_assign.specs.Clashes.{ClashesAmong, copies}
use Rattle.home_assign.proofs.Clashing.{block_found, clash_more}
use Rattle.home_assign.proofs.Living.{ends_told, stands_at_end, stands_back}
use Rattle.home_assign.proofs.Spare.{bit_same}
use Rattle.home_assign.proofs.walk.Walk.walk_block.Goals as goal

pub loop-left-init : goal.loop-left-init
loop-left-init c =
    let g = graph_view c.args.graph.now in
    let b = c.index-block.result.now in
    let names = c.args.self.now.names in
    let begun = c.begin_at_end.new.self.rows in
    let same : c.begin_at_end.new.self.names ≡ names = c.begin_at_end.ensures.names in
    let at : slice_get g.blocks c.args.number ≡ Some (block_view b) =
    slice_get-map block_view c.args.graph.now.blocks.items c.args.number ∙ ap (option_map block_view) (slice_get_read c.args.graph.now.blocks.items (length c.args.graph.now.blocks.items) c.args.number b refl c.requires.block c.index-block.ensures) in
    let read_names : numbers c.deref.result.now ≡ reads_of_end (end_view b.end) = ap numbers c.deref.ensures.value ∙ c.in_ok-reads.ensures in
    let none : drop c.len-left.result b.instructions.items ≡ [] = drop_all c.len-left.result b.instructions.items (omega arith) in
    record {
      within = omega arith;
      names = c.read.ensures.names ∙ same;
      live = λ y lt.
          let is : is_set c.read.new.self.rows names y ≡ (end_reads y (end_view b.end) || is_set begun names y) =
          subst (λ m. is_set c.read.new.self.rows m y ≡ (end_reads y (end_view b.end) || is_set begun m y)) same
          (c.read.ensures.live y (omega (arith, lt, same)) ∙ ap (λ all. list_any (λ z. z == y) all || is_set begun c.begin_at_end.new.self.names y) read_names) in
          let told = ends_told g (starts_of c.args.live.now) (ends_of c.args.live.now) c.requires.live c.args.number begun names c.begin_at_end.ensures.live y in
          subst (λ all. (is_set c.read.new.self.rows names y ≡ true) ↔ IsReadFirst g y (map instruction_view all) (end_view b.end)) (sym none)
          (stands_at_end g y c.args.number (block_view b) at (omega (arith, lt, c.requires.few)) (is_set begun names y) (is_set c.read.new.self.rows names y) is told);
      written = λ x y p q.
          let row : is_set c.read.new.self.rows x y ≡ is_set c.args.self.now.rows x y =
          bit_same begun c.read.new.self.rows x (c.read.ensures.others x (λ e. omega (arith, p, e, same))) y ∙ bit_same c.args.self.now.rows begun x (c.begin_at_end.ensures.others x (λ e. omega (arith, p, e))) y in
          subst (λ all. (is_set c.read.new.self.rows x y ≡ true) ↔ ((is_set c.args.self.now.rows x y ≡ true) ⊎ ClashesAmong g x y (map instruction_view all) (end_view b.end))) (sym none)
          ((λ t. inl (sym row ∙ t)), (λ h. elim h [ inl t ↦ row ∙ t | inr never ↦ absurd never ]));
      others = λ r le. c.read.ensures.others r (λ e. omega (arith, le, e, same)) ∙ c.begin_at_end.ensures.others r (λ e. omega (arith, le, e));
    }

pub loop-left-preserved : goal.loop-left-preserved
loop-left-preserved c =
    let g = graph_view c.args.graph.now in
    let b = c.index-block.result.now in
    let items = b.instructions.items in
    let names = c.args.self.now.names in
    let old = c.loop-left.self.rows in
    let new = c.step_back.new.self.rows in
    let left = c.loop-left.left - 1 in
    let i = instruction_view c.index.result.now in
    let before = c.loop-left.invariant in
    let step = c.in_ok-step_back.ensures in
    let same : c.loop-left.self.names ≡ names = before.names in
    let e : drop left items ≡ c.index.result.now ∷ drop c.loop-left.left items =
    let next : left + 1 ≡ c.loop-left.left = omega (arith, c.loop-left-test.true) in
    drop_more items left c.index.result.now (omega (arith, before.within, c.loop-left-test.true)) ∙ ap (λ j. j ∷ drop (left + 1) items) (sym c.index.ensures) ∙ ap (λ n. c.index.result.now ∷ drop n items) next in
    record {
      within = omega (arith, before.within);
      names = step.names ∙ same;
      live = λ y lt.
          let is : is_set new names y ≡ (reads y i || (not (writes y i) && is_set old names y)) =
          subst (λ m. is_set new m y ≡ (reads y i || (not (writes y i) && is_set old m y))) same (step.live y (omega (arith, lt, same))) in
          subst (λ all. (is_set new names y ≡ true) ↔ IsReadFirst g y (map instruction_view all) (end_view b.end)) (sym e)
          (stands_back g y i (map instruction_view (drop c.loop-left.left items)) (end_view b.end) (is_set old names y) (is_set new names y) is (before.live y lt));
      written = λ x y p q.
          let is : is_set new x y ≡ (is_set old x y || ((writes x i && not (copies y i)) && is_set old names y)) =
          subst (λ m. is_set new x y ≡ (is_set old x y || ((writes x i && not (copies y i)) && is_set old m y))) same (step.written x y (omega (arith, p, same)) (omega (arith, q, same))) in
          subst (λ all. (is_set new x y ≡ true) ↔ ((is_set c.args.self.now.rows x y ≡ true) ⊎ ClashesAmong g x y (map instruction_view all) (end_view b.end))) (sym e)
          (clash_more g x y (is_set c.args.self.now.rows x y ≡ true) i (map instruction_view (drop c.loop-left.left items)) (end_view b.end) (is_set old x y) (is_set new x y) (is_set old names y) is (before.live y q) (before.written x y p q));
      others = λ r le. step.others r (omega (arith, le, same)) ∙ before.others r le;
    }

pub returns-clause-written : goal.returns-clause-written
returns-clause-written c =
    let g = graph_view c.args.graph.now in
    let b = c.index-block.result.now in
    let items = b.instructions.items in
    let at : slice_get g.blocks c.args.number ≡ Some (block_view b) =
    slice_get-map block_view c.args.graph.now.blocks.items c.args.number ∙ ap (option_map block_view) (slice_get_read c.args.graph.now.blocks.items (length c.args.graph.now.blocks.items) c.args.number b refl c.requires.block c.index-block.ensures) in
    let none : c.loop-left.left ≡ 0 = omega (arith, c.loop-left-test.false) in
    λ x y p q. block_found g x y (is_set c.args.self.now.rows x y ≡ true) c.args.number (block_view b) (is_set c.loop-left.self.rows x y) at
    (subst (λ n. (is_set c.loop-left.self.rows x y ≡ true) ↔ ((is_set c.args.self.now.rows x y ≡ true) ⊎ ClashesAmong g x y (map instruction_view (drop n items)) (end_view b.end))) none (c.loop-left.invariant.written x y p q))
