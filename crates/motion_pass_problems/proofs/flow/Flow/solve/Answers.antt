use Rattle.std.proofs.Common.{◌≡◌, false, length, map, arith}
use Rattle.std.specs.Prelude.{slice_index_or}
use Rattle.std.proofs.lemmas.List.{length-map}
use Rattle.graph_core.specs.Graphs.{block_view}
use Rattle.graph_paths.specs.PathMarksTable.{bits_of}
use Rattle.motion_pass_problems.proofs.Flooded.{told_there}
use Rattle.motion_pass_problems.proofs.flow.Flow.solve.Goals as goal

pub returns-clause-exact : goal.returns-clause-exact
returns-clause-exact c =
    let flow = c.args.self.now in
    let bs = map block_view flow.blocks.now in
    let count : length bs ≡ length flow.blocks.now = length-map flow.blocks.now block_view in
    let size : length c.in_ok-words.words.items ≡ length bs = omega (arith, c.in_ok-words.ensures.size, c.requires.few, count) in
    told_there bs (λ n. slice_index_or flow.reached.now n false) flow.forward flow.passages.now (omega (arith, c.requires.passages, count)) c.args.begins.now c.in_ok-words.words.items
    (bits_of c.in_ok-comes.comes) (bits_of c.settle.new.comes) (bits_of c.settle.new.leaves) size c.in_ok-comes.ensures.same
    (λ n k lt low. c.in_ok-words.ensures.same n k (omega (arith, lt, count, c.requires.few)) low) c.in_ok-settle.ensures.settled
