use Rattle.std.proofs.Common.{◌≡◌, ◌↔◌, ℕ, ◌+◌, ◌-◌, ◌*◌, ◌/◌, ◌<◌, ◌≤◌, true, false, true≢false, inl, inr, List, Some, length, map, refl, sym, ap, ◌∙◌, subst, arith}
use Rattle.std.specs.Prelude.{slice_get, slice_index_or}
use Rattle.std.proofs.lemmas.Bool.{cases_eq}
use Rattle.std.proofs.lemmas.Option.{same_Some, slice_get_read, slice_get_within}
use Rattle.graph_core.specs.declared.instruction.Instr as declared-instr
use Rattle.graph_core.specs.Graphs.{Graph, instruction_view}
use Rattle.graph_core.specs.Computations.{Computation}
use Rattle.motion_pass_points.specs.Ways.{IsInserted, along}
use Rattle.motion_pass_points.specs.Words.{has}
use Rattle.motion_pass_problems.proofs.Inner.{at_inside}
use Rattle.motion_pass_problems.proofs.Standing.{come_at, come_to, stands_behind}
use Rattle.motion_pass_placement.specs.declared.columns.Solved.{Solved}
use Rattle.motion_pass_placement.specs.declared.placement.Placement.{Placement}
use Rattle.motion_pass_placement.specs.Placed.{AreDone, IsPlaced, all_of, is_on_edge, none_done, reached_by}
use Rattle.motion_pass_placement.proofs.Edges.{done_all, on_edge_rule}
use Rattle.motion_pass_placement.proofs.placement.Placement.on_edge.Goals as goal

-- each computation is of a column
enough : (g : Graph) (p : Placement) → IsPlaced g p → length (all_of p) ≤ length p.columns.items * 64
enough g p is = elim (cases_eq (length (all_of p)) 0) [
  | inl none ↦ omega (arith, none)
  | inr some ↦
      let last : ℕ = length (all_of p) - 1 in
      let one = at_inside (all_of p) last (omega (arith, some)) in
      let there = is.columns last one.0 one.1 in
      let inside : last / 64 < length p.columns.items = slice_get_within p.columns.items (last / 64) there.solved there.is in
      omega (arith, inside, some)
]

pub returns-then-not-is_flagged-clause-by_rule : goal.returns-then-not-is_flagged-clause-by_rule
returns-then-not-is_flagged-clause-by_rule c = λ g is b at come.
    (let edge = come_at g.blocks (reached_by c.args.self.now) is.reached come in
    absurd (true≢false (sym edge.comes ∙ ap (λ flags. slice_index_or flags c.args.from false) (sym c.deref.ensures.value) ∙ sym c.is_flagged.ensures ∙ c.if-not-is_flagged.true)))

pub loop-number-init : goal.loop-number-init
loop-number-init c = λ g is b at come. subst (λ (xs : List declared-instr.Instr). AreDone g.blocks c.args.self.now (along c.args.from c.args.to) 0 (map instruction_view xs)) (sym c.new-out.ensures.items) none_done

pub loop-number-preserved : goal.loop-number-preserved
loop-number-preserved c = λ g is b at come.
    (let p = c.args.self.now in
    let number = c.loop-number.number in
    let columns = p.columns.items in
    let inside : number < length columns = omega (arith, c.loop-number-test.true, c.len-number-end.ensures) in
    let there : slice_get columns number ≡ Some c.index-solved.result.now = slice_get_read columns (length columns) number c.index-solved.result.now refl inside c.index-solved.ensures in
    let next : number * 64 + 64 ≡ (number + 1) * 64 = omega arith in
    let told : (k : ℕ) (e : Computation) → k / 64 ≡ number → slice_get (all_of p) k ≡ Some e → (has c.bits_on_edge-bits.result k ≡ true) ↔ IsInserted g.blocks e (along c.args.from c.args.to)
    = λ k e of is_it.
    (let found = is.columns k e is_it in
    let same : found.solved ≡ c.index-solved.result.now = same_Some found.solved c.index-solved.result.now (sym found.is ∙ ap (slice_get columns) of ∙ there) in
    let bit : has c.bits_on_edge-bits.result k ≡ is_on_edge found.solved.facts c.args.from c.args.to k = c.bits_on_edge-bits.ensures k ∙ ap (λ (s : Solved). is_on_edge s.facts c.args.from c.args.to k) (sym same) in
    subst (λ flag. (flag ≡ true) ↔ IsInserted g.blocks e (along c.args.from c.args.to)) (sym bit) (on_edge_rule g.blocks (reached_by p) is.reached e k found.solved.facts found.facts c.args.from c.args.to b at come)) in
    subst (λ m. AreDone g.blocks p (along c.args.from c.args.to) m (map instruction_view c.push_bits.new.out.items)) next (c.in_ok-push_bits.ensures g is c.args.from c.args.to told come (c.loop-number.invariant g is b at come)))

pub returns-clause-by_rule : goal.returns-clause-by_rule
returns-clause-by_rule c = λ g is b at come.
    (let all = enough g c.args.self.now is in
    done_all g.blocks c.args.self.now (along c.args.from c.args.to) (c.loop-number.invariant g is b at come) (omega (arith, all, c.loop-number-test.false, c.len-number-end.ensures)))

pub returns-clause-nowhere : goal.returns-clause-nowhere
returns-clause-nowhere c = λ g is b at never.
    (let p = c.args.self.now in
    let comes : reached_by p c.args.from ≡ true = ap (λ flags. slice_index_or flags c.args.from false) (sym c.deref.ensures.value) ∙ sym c.is_flagged.ensures ∙ c.if-not-is_flagged.false in
    absurd (never (come_to g.blocks (reached_by p) is.reached (stands_behind g.blocks (reached_by p) c.args.from b at comes))))
