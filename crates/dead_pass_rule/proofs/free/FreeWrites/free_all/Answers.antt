use Rattle.std.proofs.Common.{map, sym, ap, subst, arith}
use Rattle.std.proofs.lemmas.List.{drop_all}
use Rattle.graph_core.specs.Graphs.{graph_view, instruction_view}
use Rattle.dead_pass_rule.specs.Free.{placed}
use Rattle.dead_pass_rule.proofs.Freeing.{AreFreeAhead, free_done, free_first, free_next}
use Rattle.base_laws.proofs.Lists.{drop_item}
use Rattle.dead_pass_rule.proofs.free.FreeWrites.free_all.Goals as goal

pub loop-instruction-init : goal.loop-instruction-init
loop-instruction-init c =
    let assignments = c.args.self.now.flow.now.assignments.items in
    let g = graph_view c.args.self.now.graph.now in
    let all = map instruction_view c.args.instructions.now in
    subst (λ told. AreFreeAhead assignments g (placed c.args.place) all (placed c.args.place) all told) (sym c.new-told.ensures.items) (free_first assignments g (placed c.args.place) all)

pub loop-instruction-preserved : goal.loop-instruction-preserved
loop-instruction-preserved c =
    let xs = c.args.instructions.now in
    let k = c.loop-instruction.instruction-index in
    let assignments = c.args.self.now.flow.now.assignments.items in
    let g = graph_view c.args.self.now.graph.now in
    let split = ap (λ l. map instruction_view l) (drop_item xs k c.instruction-item.result c.loop-instruction-test.true c.instruction-item.is) in
    free_next assignments g (placed c.args.place) (map instruction_view xs) (placed c.loop-instruction.place) _ (instruction_view c.instruction-item.result) _ c.loop-instruction.told.items _ c.is_free.result c.in_ok-push.ensures.items c.is_free.ensures c.place_behind-place.ensures
    (subst (λ l. AreFreeAhead assignments g (placed c.args.place) (map instruction_view xs) (placed c.loop-instruction.place) l c.loop-instruction.told.items) split c.loop-instruction.invariant)

pub returns : goal.returns
returns c =
    let xs = c.args.instructions.now in
    let assignments = c.args.self.now.flow.now.assignments.items in
    let g = graph_view c.args.self.now.graph.now in
    let none = ap (λ l. map instruction_view l) (drop_all c.loop-instruction.instruction-index xs (omega (arith, c.loop-instruction-test.false))) in
    free_done assignments g (placed c.args.place) (map instruction_view xs) (placed c.loop-instruction.place) c.loop-instruction.told.items
    (subst (λ l. AreFreeAhead assignments g (placed c.args.place) (map instruction_view xs) (placed c.loop-instruction.place) l c.loop-instruction.told.items) none c.loop-instruction.invariant)
