use Rattle.std.proofs.Common.{◌≡◌, suc, ◌<◌, Some, length, map, sym, ap, ◌∙◌, arith}
use Rattle.std.specs.Prelude.{slice_get}
use Rattle.std.proofs.lemmas.List.{length-map}
use Rattle.graph_core.specs.declared.block.Block as declared-block
use Rattle.graph_core.specs.Graphs.{block_view}
use Rattle.graph_paths.specs.PathMarksTable.{bits_of}
use Rattle.graph_paths.proofs.Leading.{block_there}
use Rattle.copy_pass_rule.specs.Rows.{fact_past, missing_past}
use Rattle.copy_pass_rule.proofs.Bringing.{fact_zero, fact_suc, each_fact}
use Rattle.copy_pass_rule.proofs.flow.MissingTransfer.pass.Goals as goal

pub returns-clause-passed : goal.returns-clause-passed
returns-clause-passed c =
    let all = c.args.self.now.blocks.now in
    let copies = c.args.self.now.copies.now.all.now in
    let count : length (map block_view all) ≡ length all = length-map all block_view in
    let within : c.args.block < length all = omega (arith, c.requires.block, count) in
    let b = c.index-self-block.result in
    let at : slice_get (map block_view all) c.args.block ≡ Some (block_view b) = block_there block_view all c.args.block b within c.index-self-block.is in
    each_fact copies (λ fact. bits_of c.walk.new.marks c.args.row fact ≡ fact_past copies c.args.block (slice_get (map block_view all) c.args.block) fact (bits_of c.args.rows.now c.args.row fact))
    (c.walk.ensures.led ∙ sym (fact_zero copies c.args.block (slice_get (map block_view all) c.args.block) (bits_of c.args.rows.now c.args.row 0)))
    (λ k d there. c.walk.ensures.walk k d there
    ∙ ap (λ (e : declared-block.Block). missing_past d c.args.block (Some (block_view e)) (bits_of c.args.rows.now c.args.row (suc k))) (sym c.index-self-block.is)
    ∙ ap (λ o. missing_past d c.args.block o (bits_of c.args.rows.now c.args.row (suc k))) (sym at)
    ∙ sym (fact_suc copies c.args.block (slice_get (map block_view all) c.args.block) k d (bits_of c.args.rows.now c.args.row (suc k)) there))
