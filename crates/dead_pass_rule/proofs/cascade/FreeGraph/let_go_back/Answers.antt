use Rattle.std.proofs.Common.{◌≡◌, ◌<◌, ◌+◌, ℕ, Some, true, true≢false, length, map, sym, ap, ◌∙◌, subst, arith}
use Rattle.std.specs.Prelude.{◌&&◌, slice_get}
use Rattle.std.proofs.lemmas.List.{length-map}
use Rattle.graph_core.specs.Graphs.{block_view}
use Rattle.graph_paths.specs.PathMarksTable.{bits_of}
use Rattle.graph_paths.proofs.Leading.{block_there}
use Rattle.dead_pass_rule.specs.Cascading.{assignments_of, graph_of}
use Rattle.dead_pass_rule.specs.Free.{AreFree, flags_in}
use Rattle.dead_pass_rule.proofs.Passing.{cascades_back, cascades_none, needed_back}
use Rattle.dead_pass_rule.proofs.cascade.FreeGraph.let_go_back.Goals as goal

pub walk_back-requires-clause-block : goal.walk_back-requires-clause-block
walk_back-requires-clause-block c =
    let f = c.args.self.now in
    let size = length-map f.graph.now.blocks.items block_view in
    block_there block_view f.graph.now.blocks.items c.args.number c.index-block.result.now (omega (arith, size, c.requires.block, c.requires.told.blocks)) c.index-block.ensures

pub walk_back-requires-clause-led : goal.walk_back-requires-clause-led
walk_back-requires-clause-led c = sym c.get.ensures ∙ c.if-not-get.false

pub walk_back-requires-clause-may_go : goal.walk_back-requires-clause-may_go
walk_back-requires-clause-may_go c =
    let f = c.args.self.now in
    let b = block_view c.index-block.result.now in
    let flags : c.row_of-free.result.now ≡ flags_in (slice_get f.may_go.items c.args.number) = c.row_of-free.ensures ∙ ap (λ l. flags_in (slice_get l c.args.number)) c.deref.ensures.value in
    let size = length-map f.graph.now.blocks.items block_view in
    let at : slice_get (graph_of f).blocks c.args.number ≡ Some b =
    block_there block_view f.graph.now.blocks.items c.args.number c.index-block.result.now (omega (arith, size, c.requires.block, c.requires.told.blocks)) c.index-block.ensures in
    subst (λ l. AreFree (assignments_of f) (graph_of f) b l) (sym flags) (c.requires.told.may_go c.args.number b at)

pub returns-then-not-get-clause-cascades : goal.returns-then-not-get-clause-cascades
returns-then-not-get-clause-cascades c = cascades_none (assignments_of c.args.self.now) (graph_of c.args.self.now) c.args.turns.now c.args.marks.now c.requires.sound

pub returns-then-not-get-clause-needed : goal.returns-then-not-get-clause-needed
returns-then-not-get-clause-needed c = λ q asked reached. absurd (true≢false (sym reached ∙ sym c.get.ensures ∙ c.if-not-get.true))

pub returns-clause-cascades : goal.returns-clause-cascades
returns-clause-cascades c =
    let f = c.args.self.now in
    let b = block_view c.index-block.result.now in
    let n = c.args.number in
    let walked = c.walk_back.new.marks in
    let size = length-map f.graph.now.blocks.items block_view in
    let at : slice_get (graph_of f).blocks n ≡ Some b = block_there block_view f.graph.now.blocks.items n c.index-block.result.now (omega (arith, size, c.requires.block, c.requires.told.blocks)) c.index-block.ensures in
    cascades_back (assignments_of f) (graph_of f) (bits_of f.reached.now 0) c.requires.told.led n b at c.args.turns.now c.args.marks.now c.walk_back.new.turns walked c.keep.new.self c.in_ok-is_less.is_less c.in_ok-is_less.ensures
    (subst (λ k. (bit : ℕ) → bits_of c.keep.new.self n bit ≡ (bits_of walked k bit && bits_of walked n bit)) c.requires.told.blocks c.keep.ensures.there) c.keep.ensures.rows c.keep.ensures.count c.keep.ensures.width

pub returns-clause-needed : goal.returns-clause-needed
returns-clause-needed c = λ q asked reached.
    (let f = c.args.self.now in
    let b = block_view c.index-block.result.now in
    let n = c.args.number in
    let walked = c.walk_back.new.marks in
    let size = length-map f.graph.now.blocks.items block_view in
    let at : slice_get (graph_of f).blocks n ≡ Some b = block_there block_view f.graph.now.blocks.items n c.index-block.result.now (omega (arith, size, c.requires.block, c.requires.told.blocks)) c.index-block.ensures in
    needed_back (assignments_of f) (graph_of f) (bits_of f.reached.now 0) c.requires.told.led n b at c.args.turns.now c.args.marks.now c.walk_back.new.turns walked c.keep.new.self c.in_ok-is_less.is_less c.in_ok-is_less.ensures
    (subst (λ k. (bit : ℕ) → bits_of c.keep.new.self n bit ≡ (bits_of walked k bit && bits_of walked n bit)) c.requires.told.blocks c.keep.ensures.there) c.keep.ensures.rows c.keep.ensures.count c.keep.ensures.width q asked)
