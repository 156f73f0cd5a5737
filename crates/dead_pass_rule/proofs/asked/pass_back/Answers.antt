use Rattle.std.proofs.Common.{◌≡◌, ℕ, ◌-◌, ◌||◌, ◌&&◌, List, drop, length, map, sym, ap, ◌∙◌, arith}
use Rattle.std.specs.Prelude.{◌==◌, not}
use Rattle.std.specs.List.{list_any}
use Rattle.graph_core.specs.Graphs.{end_view, instruction_view}
use Rattle.graph_core.specs.Uses.{numbers, reads_of_end}
use Rattle.graph_core.specs.Paths.{reads, writes}
use Rattle.graph_paths.specs.PathMarksTable.{bits_of}
use Rattle.dead_pass_rule.specs.Asking.{asks, is_gone}
use Rattle.dead_pass_rule.specs.Walks.{asked_along, turn_of}
use Rattle.dead_pass_rule.proofs.Backward.{back_all, back_count, back_first, back_step}
use Rattle.dead_pass_rule.proofs.asked.pass_back.Goals as goal

pub loop-left-init : goal.loop-left-init
loop-left-init c =
    let T = turn_of c.args.turns.now in
    let names = ap numbers c.deref.ensures.value ∙ c.in_ok-read.ensures in
    record {
      same_count = c.ask_all.ensures.same_count;
      same_width = c.ask_all.ensures.same_width;
      others = c.ask_all.ensures.others;
      walk = λ x lt. c.ask_all.ensures.walk x lt ∙ ap (λ (l : List ℕ). list_any (λ y. y == x) l || bits_of c.args.marks.now c.args.row x) names
          ∙ ap (λ l. asked_along T x c.args.number l (list_any (λ y. y == x) (reads_of_end (end_view c.args.block.now.end)) || bits_of c.args.marks.now c.args.row x)) (sym (back_first instruction_view c.deref-instructions.result.now));
    }

pub loop-left-preserved : goal.loop-left-preserved
loop-left-preserved c =
    let T = turn_of c.args.turns.now in
    let i = instruction_view c.index-instructions-at.result in
    let left = c.loop-left.left in
    let xs = c.deref-instructions.result.now in
    let rest = map instruction_view (drop (length xs - left) xs) in
    let count : length rest ≡ left = back_count instruction_view xs left (omega arith) in
    record {
      same_count = c.in_ok-step_back.ensures.same_count ∙ c.loop-left.invariant.same_count;
      same_width = c.in_ok-step_back.ensures.same_width ∙ c.loop-left.invariant.same_width;
      others = λ other bit ne. c.in_ok-step_back.ensures.others other bit ne ∙ c.loop-left.invariant.others other bit ne;
      walk = λ x lt. c.in_ok-step_back.ensures.walk x lt
          ∙ ap (λ g. (not g && reads x i) || (not (writes x i) && bits_of c.loop-left.marks c.args.row x)) (c.is_gone-gone.ensures ∙ ap (λ k. is_gone T c.args.number k i) (sym count))
          ∙ ap (λ v. asks T c.args.number (length rest) i x || (not (writes x i) && v)) (c.loop-left.invariant.walk x lt)
          ∙ ap (λ l. asked_along T x c.args.number l (list_any (λ y. y == x) (reads_of_end (end_view c.args.block.now.end)) || bits_of c.args.marks.now c.args.row x))
          (sym (back_step instruction_view xs left c.index-instructions-at.result c.loop-left-test.true c.index-instructions-at.is));
    }

pub returns-clause-walk : goal.returns-clause-walk
returns-clause-walk c =
    let T = turn_of c.args.turns.now in
    λ x lt. c.loop-left.invariant.walk x lt
    ∙ ap (λ l. asked_along T x c.args.number l (list_any (λ y. y == x) (reads_of_end (end_view c.args.block.now.end)) || bits_of c.args.marks.now c.args.row x)) (back_all instruction_view _ c.loop-left.left (omega arith))
    ∙ ap (λ xs. asked_along T x c.args.number (map instruction_view xs) (list_any (λ y. y == x) (reads_of_end (end_view c.args.block.now.end)) || bits_of c.args.marks.now c.args.row x)) c.deref-instructions.ensures.value
