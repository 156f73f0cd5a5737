use Rattle.std.proofs.Common.{◌≡◌, ◌<◌, List, Some, length, map, sym, ap, ◌∙◌, arith}
use Rattle.std.specs.Prelude.{slice_get}
use Rattle.std.proofs.lemmas.List.{length-map}
use Rattle.graph_core.specs.declared.instruction.Instr.{Instr}
use Rattle.graph_core.specs.Graphs.{block_view, instruction_view}
use Rattle.graph_paths.specs.PathMarksTable.{bits_of}
use Rattle.graph_paths.proofs.Leading.{block_there}
use Rattle.dead_pass_rule.specs.Asking.{is_going}
use Rattle.dead_pass_rule.specs.Walks.{turn_of}
use Rattle.dead_pass_notes.specs.Rows.{stale_behind, stale_past}
use Rattle.dead_pass_notes.proofs.rows.StalenessTransfer.pass.Goals as goal

pub returns-clause-passed : goal.returns-clause-passed
returns-clause-passed c =
    let g = c.args.self.now.graph.now in
    let xs = g.blocks.items in
    let b = c.index-block_of.result.now in
    let goes = is_going (turn_of c.args.self.now.turns.now) in
    let long : length (map block_view xs) ≡ length xs = length-map xs block_view in
    let within : c.args.block < length xs = omega (arith, c.requires.block, long) in
    let at : slice_get (map block_view xs) c.args.block ≡ Some (block_view b) = block_there block_view xs c.args.block b within c.index-block_of.ensures in
    λ x named. c.walk.ensures.walk x named
    ∙ ap (λ (is : List Instr). stale_behind (goes c.args.block) x (bits_of c.args.rows.now c.args.row x) (map instruction_view is) 0) c.deref.ensures.value
    ∙ ap (stale_past (goes c.args.block) x (bits_of c.args.rows.now c.args.row x)) (sym at)
