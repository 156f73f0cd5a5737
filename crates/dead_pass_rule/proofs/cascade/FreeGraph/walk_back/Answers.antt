use Rattle.std.proofs.Common.{◌≡◌, ◌-◌, ◌+◌, ◌∷◌, ◌++◌, ◌⊎◌, ◌<◌, ℕ, List, Some, true, false, drop, take, length, map, sym, ap, ◌∙◌, subst, arith}
use Rattle.std.specs.Prelude.{◌&&◌, ◌||◌, not, slice_get, slice_index_or}
use Rattle.graph_core.specs.Graphs.{block_view, end_view, instruction_view}
use Rattle.graph_core.specs.Paths.{Among, reads, writes}
use Rattle.graph_core.specs.Uses.{reads_of_end, target_of, targets_of}
use Rattle.graph_paths.specs.PathMarksTable.{bits_of}
use Rattle.dead_pass_rule.specs.Asking.{is_going, is_gone}
use Rattle.dead_pass_rule.specs.Cascade.{GoesOneMore, HasTurn, WalksBack}
use Rattle.dead_pass_rule.specs.Cascading.{assignments_of, graph_of}
use Rattle.dead_pass_rule.specs.Walks.{AreSameBut, IsTable, IsToldOfOne, turn_of}
use Rattle.dead_pass_rule.proofs.Backward.{back_all, back_count, back_first, back_step}
use Rattle.dead_pass_rule.proofs.BlockRows.{back_before, back_parts}
use Rattle.dead_pass_rule.proofs.Passing.{walk_begins, walk_on}
use Rattle.dead_pass_rule.proofs.cascade.FreeGraph.walk_back.Goals as goal

pub begin-requires-clause-table : goal.begin-requires-clause-table
begin-requires-clause-table c = subst (λ k. IsTable k (graph_of c.args.self.now).name_count c.args.marks.now) (sym c.requires.told.blocks) c.requires.sound.table

pub loop-left-init : goal.loop-left-init
loop-left-init c =
    let f = c.args.self.now in
    let g = graph_of f in
    let b = block_view c.args.block.now in
    let now = c.begin.new.marks in
    let first = c.args.marks.now in
    let is = c.requires.told.blocks in
    let begun = c.in_ok-begin.ensures in
    subst (λ l. WalksBack (assignments_of f) g c.args.number b c.args.turns.now first l c.args.turns.now now false) (sym (back_first instruction_view c.deref-instructions.result.now))
    (walk_begins (assignments_of f) g (bits_of f.reached.now 0) c.requires.told.led c.args.number b c.requires.block c.args.turns.now first c.requires.sound now
    (subst (λ k. IsTable k g.name_count now) is begun.table)
    (subst (λ k. AreSameBut k first now) is begun.others)
    (subst (λ k. (l : ℕ) → l < k → Among l (targets_of b.end) → (x : ℕ) → x < g.name_count → bits_of first l x ≡ true → bits_of now k x ≡ true) is begun.come)
    (subst (λ k. (x : ℕ) → x < g.name_count → Among x (reads_of_end b.end) → bits_of now k x ≡ true) is begun.read)
    (subst (λ k. (x : ℕ) → x < g.name_count → bits_of now k x ≡ true → Among x (reads_of_end b.end) ⊎ IsToldOfOne k b.end first x) is begun.only))

pub loop-left-preserved : goal.loop-left-preserved
loop-left-preserved c =
    let f = c.args.self.now in
    let g = graph_of f in
    let b = block_view c.args.block.now in
    let xs = c.deref-instructions.result.now in
    let left = c.loop-left.left in
    let item = c.index-instructions-at.result in
    let i = instruction_view item in
    let rest = map instruction_view (drop (length xs - left) xs) in
    let before = map instruction_view (take (length xs - 1 - left) xs) in
    let is = c.requires.told.blocks in
    let count : left ≡ length rest = sym (back_count instruction_view xs left (omega arith)) in
    let parts : b.instructions ≡ before ++ i ∷ rest = ap (λ l. map instruction_view l) (sym c.deref-instructions.ensures.value) ∙ back_parts instruction_view xs left item c.loop-left-test.true c.index-instructions-at.is in
    let old = c.loop-left.turns in
    let new = c.let_go-went.new.turns in
    let now = c.loop-left.marks in
    let more = c.step_back.new.marks in
    let goes = c.let_go-went.ensures in
    let back = c.in_ok-step_back.ensures in
    let went = c.let_go-went.result in
    subst (λ l. WalksBack (assignments_of f) g c.args.number b c.args.turns.now c.args.marks.now l new more (c.loop-left.is_less || went)) (sym (back_step instruction_view xs left item c.loop-left-test.true c.index-instructions-at.is))
    (walk_on (assignments_of f) g (bits_of f.reached.now 0) c.requires.told.led c.args.number b c.requires.block c.args.turns.now c.args.marks.now c.requires.led c.requires.told.named c.args.free.now c.requires.may_go
    before rest i parts c.flag-may_go.result (c.flag-may_go.ensures ∙ ap (λ k. slice_index_or c.args.free.now k false) (sym (back_before instruction_view xs left c.loop-left-test.true))) old new now more c.loop-left.is_less c.is_gone-gone.result
    (c.is_gone-gone.ensures ∙ ap (λ k. is_gone (turn_of new) c.args.number k i) count)
    (subst (λ k. AreSameBut k now more) is back.others) back.same_count back.same_width
    (subst (λ k. (x : ℕ) → x < g.name_count → bits_of more k x ≡ ((not c.is_gone-gone.result && reads x i) || (not (writes x i) && bits_of now k x))) is back.walk)
    c.loop-left.invariant went
    (subst (λ k. went ≡ true → GoesOneMore old new c.args.number k) count goes.one)
    goes.free
    (subst (λ k. went ≡ true → (x : ℕ) → target_of i ≡ Some x → bits_of now k x ≡ false) is goes.unasked)
    goes.same
    (subst (λ k. went ≡ false → c.flag-may_go.result ≡ true → HasTurn (slice_get old c.args.number) (length rest) → is_going (turn_of old) c.args.number (length rest) ≡ false → (x : ℕ) → target_of i ≡ Some x → bits_of now k x ≡ true) is
    (subst (λ m. went ≡ false → c.flag-may_go.result ≡ true → HasTurn (slice_get old c.args.number) m → is_going (turn_of old) c.args.number m ≡ false → (x : ℕ) → target_of i ≡ Some x → bits_of now f.count x ≡ true) count goes.asked)))

pub returns : goal.returns
returns c =
    let f = c.args.self.now in
    subst (λ l. WalksBack (assignments_of f) (graph_of f) c.args.number (block_view c.args.block.now) c.args.turns.now c.args.marks.now l c.loop-left.turns c.loop-left.marks c.loop-left.is_less)
    (back_all instruction_view _ c.loop-left.left (omega (arith, c.loop-left-test.false)) ∙ ap (λ l. map instruction_view l) c.deref-instructions.ensures.value) c.loop-left.invariant
