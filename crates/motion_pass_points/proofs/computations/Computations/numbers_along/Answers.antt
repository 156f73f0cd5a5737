use Rattle.std.proofs.Common.{◌≡◌, ◌<◌, ◌+◌, Some, [], ◌∷◌, ◌++◌, length, map, refl, ap, ◌∙◌, arith}
use Rattle.std.specs.Prelude.{option_map, slice_get}
use Rattle.std.proofs.lemmas.List.{length-append, length-map}
use Rattle.std.proofs.lemmas.Option.{slice_get-map, slice_get_read, slice_get_within}
use Rattle.graph_core.specs.Graphs.{instruction_view}
use Rattle.motion_pass_points.specs.Numbers.{views_of}
use Rattle.motion_pass_points.proofs.Numbering.{numbers_on}
use Rattle.motion_pass_points.proofs.computations.Computations.numbers_along.Goals as goal

pub loop-index-preserved : goal.loop-index-preserved
loop-index-preserved c =
    let xs = c.args.block.now.instructions.items in
    let k = c.loop-index.index in
    let i = c.index-instruction.result.now in
    let inside : k < length xs = omega (arith, c.loop-index-test.true) in
    let there : slice_get (map instruction_view xs) k ≡ Some (instruction_view i) = slice_get-map instruction_view xs k ∙ ap (option_map instruction_view) (slice_get_read xs (length xs) k i refl inside c.index-instruction.ensures) in
    record {
      count = (let more : length (c.loop-index.numbers.items ++ c.number_of-number.result ∷ []) ≡ length c.loop-index.numbers.items + 1 = length-append c.loop-index.numbers.items (c.number_of-number.result ∷ []) in ap length c.in_ok-push.ensures.items ∙ more ∙ ap (λ n. n + 1) c.loop-index.invariant.count);
      along = λ are. numbers_on (views_of c.args.self.now) (map instruction_view xs) c.loop-index.numbers.items _ k (instruction_view i) c.number_of-number.result c.in_ok-push.ensures.items c.loop-index.invariant.count there (c.number_of-number.ensures are) (c.loop-index.invariant.along are);
    }

pub returns : goal.returns
returns c = λ are k i there. c.loop-index.invariant.along are k i (omega (arith, c.loop-index-test.false, slice_get_within (map instruction_view c.args.block.now.instructions.items) k i there, length-map c.args.block.now.instructions.items instruction_view)) there
