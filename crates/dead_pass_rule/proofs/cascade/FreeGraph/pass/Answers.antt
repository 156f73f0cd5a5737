use Rattle.std.proofs.Common.{◌≡◌, ◌+◌, ◌<◌, ◌^◌, List, length, map, sym, ap, ◌∙◌, subst, arith}
use Rattle.std.proofs.lemmas.List.{length-map}
use Rattle.graph_core.specs.declared.block.Block as declared-block
use Rattle.graph_core.specs.Graphs.{block_view}
use Rattle.graph_paths.specs.PathMarksTable.{bits_of}
use Rattle.dead_pass_rule.specs.Cascade.{AllStay, AreAllAsked}
use Rattle.dead_pass_rule.specs.Cascading.{assignments_of, graph_of}
use Rattle.dead_pass_rule.specs.Walks.{AreAsked, AreTold, IsTable, turn_of}
use Rattle.dead_pass_rule.proofs.cascade.FreeGraph.pass.Goals as goal

pub asked_names-requires : goal.asked_names-requires
asked_names-requires c =
    let f = c.args.self.now in
    let told = c.requires.told in
    let size = length-map f.graph.now.blocks.items block_view in
    let read = ap (λ (l : List declared-block.Block). length l) c.deref.ensures.value in
    record { few = omega (arith, told.blocks, told.few, size, read) }

pub let_all_go-requires-clause-sound : goal.let_all_go-requires-clause-sound
let_all_go-requires-clause-sound c =
    let f = c.args.self.now in
    let g = graph_of f in
    let names = g.name_count in
    let turns = c.args.turns.now in
    let marks = c.in_ok-marks.marks in
    let size = length-map f.graph.now.blocks.items block_view in
    let read = ap (λ (l : List declared-block.Block). length l) c.deref.ensures.value in
    let count : length c.deref.result.now ≡ length g.blocks = omega (arith, size, read) in
    record {
      rows = c.requires.rows;
      goes = c.requires.goes;
      table = subst (λ k. IsTable k names marks) count c.in_ok-marks.ensures.table;
      told = subst (λ xs. AreTold (turn_of turns) (map block_view xs) names marks) c.deref.ensures.value c.in_ok-marks.ensures.told;
    }

pub returns : goal.returns
returns c =
    let f = c.args.self.now in
    let g = graph_of f in
    let names = g.name_count in
    let turns = c.args.turns.now in
    let marks = c.in_ok-marks.marks in
    let size = length-map f.graph.now.blocks.items block_view in
    let read = ap (λ (l : List declared-block.Block). length l) c.deref.ensures.value in
    let count : length c.deref.result.now ≡ length g.blocks = omega (arith, size, read) in
    let asked : AreAllAsked g turns marks =
    subst (λ xs. AreAsked (turn_of turns) (map block_view xs) (length g.blocks) names marks) c.deref.ensures.value
    (subst (λ k. AreAsked (turn_of turns) (map block_view c.deref.result.now) k names marks) count c.in_ok-marks.ensures.asked) in
    let done = c.in_ok-is_less.ensures in
    record {
      rows = done.cascades.sound.rows;
      goes = done.cascades.sound.goes;
      fewer = done.cascades.fewer;
      same = done.cascades.same;
      stays = λ q. subst (λ l. AllStay (assignments_of f) g (turn_of l) (bits_of f.reached.now 0)) (sym (done.cascades.same q)) (done.needed q asked);
    }
