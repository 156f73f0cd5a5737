use Rattle.std.proofs.Common.{◌≡◌, length, map, inl, inr, true≢false, sym, ◌∙◌, arith}
use Rattle.std.proofs.lemmas.Bool.{cases_eq}
use Rattle.std.proofs.lemmas.List.{length-map}
use Rattle.graph_core.specs.Graphs.{block_view}
use Rattle.graph_paths.specs.PathMarksTable.{bits_of}
use Rattle.graph_paths.proofs.Leading.{are_led}
use Rattle.graph_paths.proofs.reached.reached_blocks.Goals as goal

pub returns : goal.returns
returns c =
    let bs = map block_view c.args.all.now in
    let count : length bs ≡ length c.args.all.now = length-map c.args.all.now block_view in
    are_led bs (bits_of c.put.new.self) (bits_of c.settle.new.comes) (bits_of c.settle.new.leaves) (bits_of c.in_ok-row.row 0) c.put.ensures.there
    (λ m e. elim (cases_eq m 0) [
      | inl q ↦ q
      | inr q ↦ absurd (true≢false (sym e ∙ c.put.ensures.rows m 0 q ∙ c.in_ok-comes.ensures.clear m 0))
    ])
    c.in_ok-settle.ensures.settled (λ n out. c.in_ok-settle.ensures.spare_comes n 0 (omega (arith, out, count))) c.in_ok-row.ensures
