use Rattle.std.proofs.Common.{◌∙◌, ◌∷◌, ap, arith, subst, sym}
use Rattle.std.proofs.lemmas.Option.{same_Some, slice_get_within}
use Rattle.currency_writers.specs.Order.{IsNoLater, rank_of}
use Rattle.currency_writers.specs.declared.writers.Written as declared-written
use Rattle.currency_writers.specs.Writers.{Writes}
use Rattle.currency_hiding.proofs.Coming.{sound_at, written_at}
use Rattle.currency_hiding.proofs.Found.{moved_hides}
use Rattle.currency_hiding.proofs.causes.Causes.add_moved_by.Goals as goal

pub index-written-requires : goal.index-written-requires
index-written-requires c = (let w = c.requires.write in let lt = slice_get_within c.args.question.function.now.writers.all.items c.args.via.writer w.written w.is in omega (arith, lt))

pub add-requires : goal.add-requires
add-requires c =
    (let q = c.args.question in
    let f = q.function.now in
    let via = c.args.via in
    let w = c.requires.write in
    let written = c.index-written.result.now in
    let at = written_at f.writers.all.items via.writer w.written written _ w.is c.index-written.ensures in
    let is = sound_at f.writers via.writer written c.requires.asked.on.function.writers.sound at in
    let of = same_Some w.written written (sym w.is ∙ at) in
    record {
      asked = c.requires.asked;
      hides = moved_hides q.changes.now q.search.now q.function.now c.args.change.now c.args.name via.place via.start written.writer c.requires.moved
          (subst (λ p. Writes f.writers p c.args.name written.writer) (sym (ap (λ (z : declared-written.Written). z.place) of) ∙ w.place) (subst (λ n. Writes f.writers written.place n written.writer) (sym (ap (λ (z : declared-written.Written). z.name) of) ∙ w.of) is)) c.requires.way.is;
      next = c.requires.next written at;
      causes = c.requires.causes;
    })

pub returns-clause-there : goal.returns-clause-there
returns-clause-there c =
    (let f = c.args.question.function.now in
    let w = c.requires.write in
    record { written = c.index-written.result.now; is = written_at f.writers.all.items c.args.via.writer w.written c.index-written.result.now _ w.is c.index-written.ensures; told = c.in_ok-add.ensures.there })

pub returns-clause-next : goal.returns-clause-next
returns-clause-next c = λ z at rank le before.
    (let f = c.args.question.function.now in
    let w = c.requires.write in
    let here = written_at f.writers.all.items c.args.via.writer w.written c.index-written.result.now _ w.is c.index-written.ensures in
    let same = same_Some z c.index-written.result.now (sym at ∙ here) in
    c.in_ok-add.ensures.next rank (subst (λ (y : declared-written.Written). IsNoLater (1 ∷ c.args.change.now.number ∷ c.args.via.start ∷ c.args.via.place ∷ rank_of y.writer) rank) same le) before)
