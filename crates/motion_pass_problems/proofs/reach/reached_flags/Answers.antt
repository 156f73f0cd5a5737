use Rattle.std.proofs.Common.{◌≡◌, false, length, map, arith}
use Rattle.std.specs.Prelude.{slice_index_or}
use Rattle.std.proofs.lemmas.List.{length-map}
use Rattle.graph_core.specs.Graphs.{block_view}
use Rattle.graph_paths.specs.PathMarksTable.{bits_of}
use Rattle.motion_pass_problems.proofs.Reaching.{are_reached}
use Rattle.motion_pass_problems.proofs.reach.reached_flags.Goals as goal

pub returns : goal.returns
returns c =
    let bs = map block_view c.args.blocks.now in
    let count : length bs ≡ length c.args.blocks.now = length-map c.args.blocks.now block_view in
    are_reached bs (bits_of c.in_ok-led.led 0) (λ n. slice_index_or c.loop-number.flags.items n false) c.in_ok-led.ensures
    (λ n lt. c.loop-number.invariant.same n (omega (arith, lt, count, c.loop-number-test.false, c.loop-number.auto.number-end, c.requires.few)))
