use Rattle.std.proofs.Common.{List, ◌<◌, [], ◌∷◌, arith, inl, inr, refl, subst, sym}
use Rattle.std.specs.Prelude.{AllPairs}
use Rattle.debug_records.specs.declared.change.Change.{Change}
use Rattle.currency_hiding.specs.Found.{IsRemovalFound}
use Rattle.currency_hiding.proofs.Coming.{are_same, before_none, before_on, changes_first, changes_next, zero_first}
use Rattle.currency_hiding.proofs.First.{done_all, removals_done, removals_next}
use Rattle.currency_hiding.proofs.Found.{found_of}
use Rattle.currency_hiding.proofs.causes.Causes.add_removed.Goals as goal

pub loop-change-init : goal.loop-change-init
loop-change-init c = record {
  causes = c.requires.causes;
  all = λ k d lt. absurd (omega (arith, lt));
  next = changes_first c.args.self.now.found.items (λ n. 0 ∷ n ∷ []) c.deref-change-items.result.now (0 ∷ 0 ∷ []) (λ n. zero_first n) (before_none _ _ c.requires.none);
  kind = before_none _ _ c.requires.none;
}

pub add_removed_one-requires : goal.add_removed_one-requires
add_removed_one-requires c =
    (let q = c.args.question in
    let same = c.deref-change-items.ensures.value in
    let k = c.loop-change.change-index in
    let list = c.deref-change-items.result.now in
    record {
      asked = c.requires.asked;
      removed = found_of q.changes.now q.search.now q.function.now _ c.var.result.0 list k _ c.var.ensures (are_same q.changes.now c.var.result.0 _ c.in_ok-removed.removed.items list (sym same) c.in_ok-removed.ensures) c.loop-change-test.true;
      next = c.loop-change.invariant.next k _ (omega arith) c.loop-change-test.true;
      causes = c.loop-change.invariant.causes;
    })

pub loop-change-preserved : goal.loop-change-preserved
loop-change-preserved c =
    (let q = c.args.question in
    let said = c.in_ok-add_removed_one.ensures in
    let list = c.deref-change-items.result.now in
    let k = c.loop-change.change-index in
    let ordered : AllPairs (λ (d e : Change). d.number < e.number) list = subst (λ (l : List Change). AllPairs (λ (d e : Change). d.number < e.number) l) (sym c.deref-change-items.ensures.value) c.in_ok-removed.ensures.ordered in
    let found = c.add_removed_one.new.self.found.items in
    record {
      causes = said.causes;
      all = removals_next q.changes.now q.search.now q.function.now c.loop-change.self c.add_removed_one.new.self list k _ c.loop-change-test.true said.kept said.all c.loop-change.invariant.all;
      next = changes_next found (λ n. 0 ∷ n ∷ []) list k _ (0 ∷ _ ∷ []) ordered c.loop-change-test.true (λ n lt. inr (refl, inl lt)) said.next;
      kind = before_on found (0 ∷ _ ∷ []) (1 ∷ []) (inl (omega arith)) said.next;
    })

pub returns-clause-all : goal.returns-clause-all
returns-clause-all c =
    (let q = c.args.question in
    let all = c.loop-change.self.found.items in
    let list = c.in_ok-removed.removed.items in
    removals_done q.changes.now q.search.now q.function.now all list c.var.result.0 c.requires.asked.changes c.var.ensures c.in_ok-removed.ensures
    (done_all (λ (d : Change). IsRemovalFound q.changes.now q.search.now q.function.now all d.number) c.deref-change-items.result.now list c.loop-change.change-index (omega arith) c.deref-change-items.ensures.value c.loop-change.invariant.all))
