use Rattle.std.proofs.Common.{inl, inr, refl, sym, subst, map, string_bytes}
use Rattle.command_line.specs.Job.{JobGiven, job_given}
use Rattle.session.specs.Served.{SavesTo}
use Rattle.session.specs.Limits.{AreWithin, IsTooLong}
use Rattle.session.specs.Causes.{ImageIsRefused, TextIsRefused, ScriptIsRefused, AreAccepted}
use Rattle.session.specs.Outcome.{HasLeft, HasSaved, IsDone, TookPart}
use Rattle.session.proofs.AskedLemmas.{one_asked, refused_is_complete}
use Rattle.session.proofs.Completeness.{complete, source_refused}
use Rattle.session.proofs.Named.{served_runs}
use Rattle.session.proofs.Sessions.{nothing_left}
use Rattle.session.proofs.top.session.Goals as goal

pub returns-in-Ok-clause-too_long : goal.returns-in-Ok-clause-too_long
returns-in-Ok-clause-too_long g c = λ asked name served e told.
    subst (λ a. IsTooLong (g.S.Shelf.state c.args.shelf.now).held a (string_bytes name)) (one_asked (λ p. (goal.Pass-dyn g (p.vtable, p.value)).named p.value) c.args.passes.now (map string_bytes c.args.words.now) (job_given c.in-Ok.job) asked c.in-Ok.ensures served) (c.serve.ensures.caused.too_long name e told)

pub returns-in-Ok-clause-within : goal.returns-in-Ok-clause-within
returns-in-Ok-clause-within g c = λ asked served loaded told.
    subst (λ a. AreWithin (g.S.Shelf.state c.args.shelf.now).held a) (one_asked (λ p. (goal.Pass-dyn g (p.vtable, p.value)).named p.value) c.args.passes.now (map string_bytes c.args.words.now) (job_given c.in-Ok.job) asked c.in-Ok.ensures served) (c.serve.ensures.caused.within loaded told)

pub returns-in-Ok-clause-source : goal.returns-in-Ok-clause-source
returns-in-Ok-clause-source g c = λ asked code line served e told.
    source_refused (map string_bytes c.args.words.now) asked (g.S.Shelf.state c.args.shelf.now).held code line served.words_are
    (subst (λ (a : JobGiven). TextIsRefused (g.S.Shelf.state c.args.shelf.now).held a code line) (one_asked (λ p. (goal.Pass-dyn g (p.vtable, p.value)).named p.value) c.args.passes.now (map string_bytes c.args.words.now) (job_given c.in-Ok.job) asked c.in-Ok.ensures served) (c.serve.ensures.caused.source code line e told))

pub returns-in-Ok-clause-image : goal.returns-in-Ok-clause-image
returns-in-Ok-clause-image g c = λ asked code offset served e told.
    subst (λ (a : JobGiven). ImageIsRefused (g.S.Shelf.state c.args.shelf.now).held a code offset) (one_asked (λ p. (goal.Pass-dyn g (p.vtable, p.value)).named p.value) c.args.passes.now (map string_bytes c.args.words.now) (job_given c.in-Ok.job) asked c.in-Ok.ensures served) (c.serve.ensures.caused.image code offset e told)

pub returns-in-Ok-clause-script : goal.returns-in-Ok-clause-script
returns-in-Ok-clause-script g c = λ asked code line served e told.
    subst (λ (a : JobGiven). ScriptIsRefused (g.S.Shelf.state c.args.shelf.now).held a code line) (one_asked (λ p. (goal.Pass-dyn g (p.vtable, p.value)).named p.value) c.args.passes.now (map string_bytes c.args.words.now) (job_given c.in-Ok.job) asked c.in-Ok.ensures served) (c.serve.ensures.caused.script code line e told)

pub returns-in-Ok-clause-accepted : goal.returns-in-Ok-clause-accepted
returns-in-Ok-clause-accepted g c = λ asked served e told.
    subst (λ (a : JobGiven). AreAccepted (g.S.Shelf.state c.args.shelf.now).held a) (one_asked (λ p. (goal.Pass-dyn g (p.vtable, p.value)).named p.value) c.args.passes.now (map string_bytes c.args.words.now) (job_given c.in-Ok.job) asked c.in-Ok.ensures served) (c.serve.ensures.caused.accepted e told)

pub returns-in-Ok-clause-others : goal.returns-in-Ok-clause-others
returns-in-Ok-clause-others g c = λ asked served told n other.
    let same = one_asked (λ p. (goal.Pass-dyn g (p.vtable, p.value)).named p.value) c.args.passes.now (map string_bytes c.args.words.now) (job_given c.in-Ok.job) asked c.in-Ok.ensures served in
    c.serve.ensures.stays.others told n (λ saves. other (subst (λ a. SavesTo a n) same saves))

pub returns-in-Ok-clause-kept : goal.returns-in-Ok-clause-kept
returns-in-Ok-clause-kept g c = λ ended told n.
    elim ended [
      | inl early ↦ c.serve.ensures.stays.kept early told n
      | inr none ↦ absurd (none (job_given c.in-Ok.job) c.in-Ok.ensures)
    ]

pub returns-in-Ok-clause-nothing : goal.returns-in-Ok-clause-nothing
returns-in-Ok-clause-nothing g c = λ ended told.
    elim ended [
      | inl early ↦ c.serve.ensures.stays.nothing early told
      | inr none ↦ absurd (none (job_given c.in-Ok.job) c.in-Ok.ensures)
    ]

pub returns-in-Ok-clause-saved : goal.returns-in-Ok-clause-saved
returns-in-Ok-clause-saved g c = λ asked served ended told.
    subst (λ (a : JobGiven). HasSaved (λ p. (goal.Pass-dyn g (p.vtable, p.value)).named p.value) (λ p. ((goal.Pass-dyn g (p.vtable, p.value)).steps p.value).leads) c.args.passes.now (g.S.Shelf.state c.args.shelf.now).held (g.S.Shelf.state c.serve.new.shelf).held a) (one_asked (λ p. (goal.Pass-dyn g (p.vtable, p.value)).named p.value) c.args.passes.now (map string_bytes c.args.words.now) (job_given c.in-Ok.job) asked c.in-Ok.ensures served) (elim ended [
      | inl done ↦ c.serve.ensures.image.saved done told
      | inr failed ↦ c.serve.ensures.image.whole failed.0 failed.1 told
    ])

pub returns-in-Ok-clause-left : goal.returns-in-Ok-clause-left
returns-in-Ok-clause-left g c = λ asked served cut told.
    subst (λ (a : JobGiven). HasLeft (λ p. (goal.Pass-dyn g (p.vtable, p.value)).named p.value) (λ p. ((goal.Pass-dyn g (p.vtable, p.value)).steps p.value).leads) c.args.passes.now (g.S.Shelf.state c.args.shelf.now).held (g.S.Shelf.state c.serve.new.shelf).held a) (one_asked (λ p. (goal.Pass-dyn g (p.vtable, p.value)).named p.value) c.args.passes.now (map string_bytes c.args.words.now) (job_given c.in-Ok.job) asked c.in-Ok.ensures served) (c.serve.ensures.image.left cut told)

pub returns-in-Err-clause-left : goal.returns-in-Err-clause-left
returns-in-Err-clause-left g c = λ asked served cut told. nothing_left (λ p. (goal.Pass-dyn g (p.vtable, p.value)).named p.value) (λ p. ((goal.Pass-dyn g (p.vtable, p.value)).steps p.value).leads) c.args.passes.now (g.S.Shelf.state c.args.shelf.now).held (g.S.Shelf.state c.args.shelf.now).held asked (λ n. refl)

pub returns-in-Ok-clause-part : goal.returns-in-Ok-clause-part
returns-in-Ok-clause-part g c = λ asked served cut told told_sink.
    subst (λ (a : JobGiven). TookPart (λ p. (goal.Pass-dyn g (p.vtable, p.value)).named p.value) (λ p. ((goal.Pass-dyn g (p.vtable, p.value)).steps p.value).leads) c.args.passes.now (g.S.Shelf.state c.args.shelf.now).held (g.S.Shelf.state c.serve.new.shelf).held a (g.K.Sink.state c.args.sink.now).taken (g.K.Sink.state c.serve.new.sink).taken) (one_asked (λ p. (goal.Pass-dyn g (p.vtable, p.value)).named p.value) c.args.passes.now (map string_bytes c.args.words.now) (job_given c.in-Ok.job) asked c.in-Ok.ensures served) (c.serve.ensures.transcript.part cut told told_sink)

pub returns-in-Ok-clause-done : goal.returns-in-Ok-clause-done
returns-in-Ok-clause-done g c = λ asked served e told told_sink.
    subst (λ (a : JobGiven). IsDone (λ p. (goal.Pass-dyn g (p.vtable, p.value)).named p.value) (λ p. ((goal.Pass-dyn g (p.vtable, p.value)).steps p.value).leads) c.args.passes.now (g.S.Shelf.state c.args.shelf.now).held (g.S.Shelf.state c.serve.new.shelf).held a (g.K.Sink.state c.args.sink.now).taken (g.K.Sink.state c.serve.new.sink).taken) (one_asked (λ p. (goal.Pass-dyn g (p.vtable, p.value)).named p.value) c.args.passes.now (map string_bytes c.args.words.now) (job_given c.in-Ok.job) asked c.in-Ok.ensures served) (c.serve.ensures.transcript.done e told told_sink)

pub returns-in-Ok-clause-complete : goal.returns-in-Ok-clause-complete
returns-in-Ok-clause-complete g c = λ asked served told within accepted no_load no_save no_line.
    let same = one_asked (λ p. (goal.Pass-dyn g (p.vtable, p.value)).named p.value) c.args.passes.now (map string_bytes c.args.words.now) (job_given c.in-Ok.job) asked c.in-Ok.ensures served in
    complete (map string_bytes c.args.words.now) (job_given c.in-Ok.job) _ c.serve.result _
    c.in-Ok.ensures.words_are c.serve.ensures.caused told
    (subst (λ (a : JobGiven). AreWithin (g.S.Shelf.state c.args.shelf.now).held a) (sym same) within)
    (subst (λ (a : JobGiven). AreAccepted (g.S.Shelf.state c.args.shelf.now).held a) (sym same) accepted)
    no_load no_save no_line

pub returns-in-Err-clause-complete : goal.returns-in-Err-clause-complete
returns-in-Err-clause-complete g c = λ asked served told within accepted no_load no_save no_line. refused_is_complete (λ p. (goal.Pass-dyn g (p.vtable, p.value)).named p.value) c.args.passes.now (map string_bytes c.args.words.now) c.in-Err.status asked c.in-Err.ensures served

pub returns-in-Ok-clause-usage_only : goal.returns-in-Ok-clause-usage_only
returns-in-Ok-clause-usage_only g c = λ none. absurd (none (job_given c.in-Ok.job) c.in-Ok.ensures)

pub serve-requires : goal.serve-requires
serve-requires g c = served_runs (λ p. (goal.Pass-dyn g (p.vtable, p.value)).named p.value) c.args.passes.now (map string_bytes c.args.words.now) (job_given c.in-Ok.job) c.in-Ok.ensures
