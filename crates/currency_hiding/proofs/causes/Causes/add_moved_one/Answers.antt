use Rattle.std.proofs.Common.{List, [], ◌∷◌, ◌+◌, arith, inl, inr, refl, subst, sym}
use Rattle.std.proofs.lemmas.List.Elements.{All-contains}
use Rattle.currency_writers.specs.declared.writers.Write as declared-write
use Rattle.currency_hiding.specs.declared.causes.Via as declared-via
use Rattle.currency_hiding.specs.declared.causes.Cause.TheVariants as cause
use Rattle.currency_writers.specs.Writers.{IsWriteBy}
use Rattle.currency_hiding.specs.Found.{AreViasInOrder, IsViaTold}
use Rattle.currency_hiding.proofs.Coming.{before_on, vias_first, vias_on}
use Rattle.currency_hiding.proofs.Found.{moved_to}
use Rattle.currency_hiding.proofs.First.{done_all, moves_all, told_next, way_at, write_at}
use Rattle.currency_hiding.proofs.causes.Causes.add_moved_one.Goals as goal

pub loop-via-init : goal.loop-via-init
loop-via-init c = record {
  causes = c.requires.causes;
  kept = λ z there. there;
  told = λ k d lt. absurd (omega (arith, lt));
  next = vias_first c.args.question.function.now.writers (λ rs. 1 ∷ c.args.change.now.number ∷ rs) c.args.self.now.found.items c.deref-via-items.result.now (1 ∷ c.args.change.now.number ∷ []) (λ rs. inr (refl, inr (refl, tt))) c.requires.next;
  kind = before_on c.args.self.now.found.items (1 ∷ c.args.change.now.number ∷ []) (1 ∷ (c.args.change.now.number + 1) ∷ []) (inr (refl, inl (omega arith))) c.requires.next;
}

pub add_moved_by-requires : goal.add_moved_by-requires
add_moved_by-requires c =
    (let q = c.args.question in
    let f = q.function.now in
    let list = c.deref-via-items.result.now in
    let k = c.loop-via.via-index in
    record {
      asked = c.requires.asked;
      moved = moved_to q.changes.now q.search.now q.function.now c.requires.asked c.args.change.now c.in-Some.name c.requires.moved c.in-Some.ensures.copied c.in-Some.ensures.temporary (c.have_one_home.ensures.0 c.if-not-have_one_home.false);
      way = way_at q.search.now c.of_name.result.now c.in_ok-vias.vias.items list k _ c.deref-via-items.ensures.value c.in_ok-vias.ensures.each c.loop-via-test.true;
      write = All-contains (λ (w : declared-write.Write). IsWriteBy f.writers.all.items (λ y. y) c.in-Some.name w) c.of_name.result.now _ c.of_name.ensures.each (write_at q.search.now c.of_name.result.now c.in_ok-vias.vias.items list k _ c.deref-via-items.ensures.value c.in_ok-vias.ensures.each c.loop-via-test.true);
      next = λ z at. c.loop-via.invariant.next k _ z (omega arith) c.loop-via-test.true at;
      causes = c.loop-via.invariant.causes;
    })

pub loop-via-preserved : goal.loop-via-preserved
loop-via-preserved c =
    (let q = c.args.question in
    let f = q.function.now in
    let said = c.in_ok-add_moved_by.ensures in
    let list = c.deref-via-items.result.now in
    let k = c.loop-via.via-index in
    let old = c.loop-via.self.found.items in
    let new = c.add_moved_by.new.self.found.items in
    let ordered : AreViasInOrder list = subst (λ (l : List declared-via.Via). AreViasInOrder l) (sym c.deref-via-items.ensures.value) c.in_ok-vias.ensures.ordered in
    let there = said.there in
    record {
      causes = said.causes;
      kept = λ z there. said.kept z (c.loop-via.invariant.kept z there);
      told = told_next q.changes.now q.search.now q.function.now c.loop-via.self c.add_moved_by.new.self (λ start w. cause.Moved c.args.change.now.number start w) list k _ c.loop-via-test.true said.kept said.there c.loop-via.invariant.told;
      next = vias_on f.writers (λ rs. 1 ∷ c.args.change.now.number ∷ rs) old new list k _ there.written c.requires.asked.on.function.writers.indexed (λ rs ts le. inr (refl, inr (refl, le))) ordered c.loop-via-test.true there.is (said.next there.written there.is) c.loop-via.invariant.next;
      kind = said.next there.written there.is (1 ∷ (c.args.change.now.number + 1) ∷ []) (inr (refl, inl (omega arith))) c.loop-via.invariant.kind;
    })

pub returns-in_default-clause-next : goal.returns-in_default-clause-next
returns-in_default-clause-next c = before_on c.args.self.now.found.items (1 ∷ c.args.change.now.number ∷ []) (1 ∷ (c.args.change.now.number + 1) ∷ []) (inr (refl, inl (omega arith))) c.requires.next

pub returns-then-not-have_one_home-clause-next : goal.returns-then-not-have_one_home-clause-next
returns-then-not-have_one_home-clause-next c = before_on c.args.self.now.found.items (1 ∷ c.args.change.now.number ∷ []) (1 ∷ (c.args.change.now.number + 1) ∷ []) (inr (refl, inl (omega arith))) c.requires.next

pub returns-clause-all : goal.returns-clause-all
returns-clause-all c =
    (let q = c.args.question in
    let d = c.args.change.now in
    let all = c.loop-via.self.found.items in
    let name = c.in-Some.name in
    let vias = c.in_ok-vias.vias.items in
    moves_all q.changes.now q.search.now q.function.now c.requires.asked d all c.requires.moved name vias c.of_name.result.now
    (moved_to q.changes.now q.search.now q.function.now c.requires.asked d name c.requires.moved c.in-Some.ensures.copied c.in-Some.ensures.temporary (c.have_one_home.ensures.0 c.if-not-have_one_home.false)) c.of_name.ensures c.in_ok-vias.ensures.all
    (done_all (λ (v : declared-via.Via). IsViaTold q.function.now all (λ start w. cause.Moved d.number start w) v) c.deref-via-items.result.now vias c.loop-via.via-index (omega arith) c.deref-via-items.ensures.value c.loop-via.invariant.told))
