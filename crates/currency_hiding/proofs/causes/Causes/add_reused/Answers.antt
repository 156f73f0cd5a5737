use Rattle.std.proofs.Common.{List, [], ◌∷◌, arith, inr, refl, subst, sym}
use Rattle.std.specs.Prelude.{All}
use Rattle.std.proofs.lemmas.List.Elements.{All-contains}
use Rattle.currency_writers.specs.declared.writers.Write as declared-write
use Rattle.currency_hiding.specs.declared.causes.Via as declared-via
use Rattle.currency_hiding.specs.declared.causes.Cause.TheVariants as cause
use Rattle.currency_hiding.specs.Changes.{IsLastSharing, IsSharing}
use Rattle.currency_hiding.specs.Found.{AreViasInOrder, IsForeignWrite, IsViaOf, IsViaTold}
use Rattle.currency_hiding.proofs.Coming.{vias_first, vias_on}
use Rattle.currency_hiding.proofs.First.{done_all, shares_all, shares_none, told_next, way_at, write_at}
use Rattle.currency_hiding.proofs.causes.Causes.add_reused.Goals as goal

pub loop-via-init : goal.loop-via-init
loop-via-init c = record {
  causes = c.requires.causes;
  kept = λ z there. there;
  told = λ k d lt. absurd (omega (arith, lt));
  next = vias_first c.args.question.function.now.writers (λ rs. 2 ∷ rs) c.args.self.now.found.items c.deref-via-items.result.now (2 ∷ []) (λ rs. inr (refl, tt)) c.requires.next;
}

pub add_reused_by-requires : goal.add_reused_by-requires
add_reused_by-requires c =
    (let q = c.args.question in
    let f = q.function.now in
    let list = c.deref-via-items.result.now in
    let k = c.loop-via.via-index in
    record {
      asked = c.requires.asked;
      sharing = subst (λ v. IsLastSharing q.changes.now v c.in-Some.change) c.var.ensures c.in-Some.ensures;
      way = way_at q.search.now c.deref.result.now c.in_ok-vias.vias.items list k _ c.deref-via-items.ensures.value c.in_ok-vias.ensures.each c.loop-via-test.true;
      write = All-contains (λ (w : declared-write.Write). IsForeignWrite f w) c.deref.result.now _ (subst (λ (l : List declared-write.Write). All (λ (w : declared-write.Write). IsForeignWrite f w) l) (sym c.deref.ensures.value) c.in_ok-writes.ensures.each) (write_at q.search.now c.deref.result.now c.in_ok-vias.vias.items list k _ c.deref-via-items.ensures.value c.in_ok-vias.ensures.each c.loop-via-test.true);
      next = λ z at. c.loop-via.invariant.next k _ z (omega arith) c.loop-via-test.true at;
      causes = c.loop-via.invariant.causes;
    })

pub loop-via-preserved : goal.loop-via-preserved
loop-via-preserved c =
    (let q = c.args.question in
    let f = q.function.now in
    let said = c.in_ok-add_reused_by.ensures in
    let list = c.deref-via-items.result.now in
    let k = c.loop-via.via-index in
    let old = c.loop-via.self.found.items in
    let new = c.add_reused_by.new.self.found.items in
    let ordered : AreViasInOrder list = subst (λ (l : List declared-via.Via). AreViasInOrder l) (sym c.deref-via-items.ensures.value) c.in_ok-vias.ensures.ordered in
    let there = said.there in
    record {
      causes = said.causes;
      kept = λ z there. said.kept z (c.loop-via.invariant.kept z there);
      told = told_next q.changes.now q.search.now q.function.now c.loop-via.self c.add_reused_by.new.self (λ start w. cause.Reused c.in-Some.change start w) list k _ c.loop-via-test.true said.kept said.there c.loop-via.invariant.told;
      next = vias_on f.writers (λ rs. 2 ∷ rs) old new list k _ there.written c.requires.asked.on.function.writers.indexed (λ rs ts le. inr (refl, le)) ordered c.loop-via-test.true there.is (said.next there.written there.is) c.loop-via.invariant.next;
    })

pub returns-in_default-clause-all : goal.returns-in_default-clause-all
returns-in_default-clause-all c =
    (let q = c.args.question in
    shares_none q.changes.now q.search.now q.function.now c.args.self.now.found.items (λ n is. c.in_default.ensures n (subst (λ v. IsSharing q.changes.now v n) (sym c.var.ensures) is)))

pub returns-clause-all : goal.returns-clause-all
returns-clause-all c =
    (let q = c.args.question in
    let all = c.loop-via.self.found.items in
    let vias = c.in_ok-vias.vias.items in
    let writes = c.in_ok-writes.writes.items in
    shares_all q.changes.now q.search.now q.function.now c.requires.asked all c.in-Some.change vias writes c.in_ok-writes.ensures.all
    (subst (λ (l : List declared-write.Write). All (λ (w : declared-write.Write). IsViaOf q.search.now vias w) l) c.deref.ensures.value c.in_ok-vias.ensures.all)
    (done_all (λ (v : declared-via.Via). IsViaTold q.function.now all (λ start w. cause.Reused c.in-Some.change start w) v) c.deref-via-items.result.now vias c.loop-via.via-index (omega arith) c.deref-via-items.ensures.value c.loop-via.invariant.told))
