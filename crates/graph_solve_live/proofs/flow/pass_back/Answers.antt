use Rattle.std.proofs.Common.{rules, ◌≡◌, ℕ, ◌+◌, ◌-◌, ◌<◌, ◌||◌, ◌&&◌, List, ◌∷◌, drop, length, map, sym, ap, ◌∙◌, arith}
use Rattle.std.specs.Prelude.{◌==◌, not}
use Rattle.std.specs.List.{list_any}
use Rattle.std.proofs.lemmas.List.{drop_all, drop_more}
use Rattle.graph_core.specs.Graphs.{end_view, instruction_view}
use Rattle.graph_core.specs.Uses.{numbers}
use Rattle.graph_core.specs.Paths.{reads, writes}
use Rattle.graph_paths.specs.PathMarksTable.{bits_of}
use Rattle.graph_solve_live.specs.Flowing.{is_live_along}
use Rattle.graph_solve_live.specs.Live.{end_reads}
use Rattle.graph_solve_live.proofs.flow.pass_back.Goals as goal

pub loop-left-init : goal.loop-left-init
loop-left-init c =
    let b = c.args.block.now in
    let items = b.instructions.items in
    let names = ap numbers c.deref.ensures.value ∙ c.in_ok-read.ensures in
    record {
      same_count = c.read_all.ensures.same_count;
      same_width = c.read_all.ensures.same_width;
      others = c.read_all.ensures.others;
      walk = λ x lt. c.read_all.ensures.walk x lt ∙ ap (λ (l : List ℕ). list_any (λ y. y == x) l || bits_of c.args.marks.now c.args.row x) names
          ∙ ap (λ all. is_live_along x (map instruction_view all) (end_reads x (end_view b.end) || bits_of c.args.marks.now c.args.row x)) (sym (drop_all (length items - 0) items (omega arith)));
    }

pub loop-left-preserved : goal.loop-left-preserved
loop-left-preserved c =
    let b = c.args.block.now in
    let items = b.instructions.items in
    let left = c.loop-left.left in
    let at = c.len-count.result - 1 - left in
    let here = c.index.result.now in
    let i = instruction_view here in
    let before = c.loop-left.invariant in
    let step = c.in_ok-step_back.ensures in
    let size : c.len-count.result ≡ length items = search rules in
    let which : length items - (left + 1) ≡ at = omega (arith, size, c.loop-left-test.true) in
    let next : at + 1 ≡ length items - left = omega (arith, size, c.loop-left-test.true) in
    let inside : at < length items = omega (arith, size, c.loop-left-test.true) in
    let more = ap (λ k. drop k items) which ∙ drop_more items at here inside ∙ ap (λ j. j ∷ drop (at + 1) items) (sym c.index.ensures) ∙ ap (λ k. here ∷ drop k items) next in
    record {
      same_count = step.same_count ∙ before.same_count;
      same_width = step.same_width ∙ before.same_width;
      others = λ other bit ne. step.others other bit ne ∙ before.others other bit ne;
      walk = λ x lt. step.walk x lt ∙ ap (λ v. reads x i || (not (writes x i) && v)) (before.walk x lt)
          ∙ ap (λ all. is_live_along x (map instruction_view all) (end_reads x (end_view b.end) || bits_of c.args.marks.now c.args.row x)) (sym more);
    }

pub returns-clause-walk : goal.returns-clause-walk
returns-clause-walk c =
    let b = c.args.block.now in
    let size : c.len-count.result ≡ length b.instructions.items = search rules in
    let none : length b.instructions.items - c.loop-left.left ≡ 0 = omega (arith, size, c.loop-left-test.false) in
    λ x lt. c.loop-left.invariant.walk x lt
    ∙ ap (λ k. is_live_along x (map instruction_view (drop k b.instructions.items)) (end_reads x (end_view b.end) || bits_of c.args.marks.now c.args.row x)) none
