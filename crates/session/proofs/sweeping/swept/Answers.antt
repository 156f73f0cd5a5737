use Rattle.std.proofs.Common.{◌≡◌, map, ap, subst, sym, ◌∙◌, []}
use Rattle.debug_records.specs.Change.{letters}
use Rattle.debug_records.specs.declared.mode.Mode.TheVariants.{Registers}
use Rattle.image_form.specs.Form.{Form, form}
use Rattle.image_form.specs.Views.{viewed}
use Rattle.session_lines.specs.Summary.{IsSummed}
use Rattle.work_gen.specs.Generated.{text as generated}
use Rattle.session.specs.Prepared.{IsImageFor}
use Rattle.session.specs.Served.{CanRun}
use Rattle.session.proofs.Sessions.{viewed_made}
use Rattle.session.proofs.sweeping.swept.Goals as goal

pub make-requires : goal.make-requires
make-requires g c = subst (CanRun (λ p. (goal.Pass-dyn g (p.vtable, p.value)).named p.value) c.args.passes.now) (sym (ap (map letters) c.deref-2.ensures.value ∙ c.in-Ok-default_names.ensures)) c.requires

pub of_spelling-image-requires : goal.of_spelling-image-requires
of_spelling-image-requires g c = record { spelled = (form c.in_ok-made.made.image, c.in_ok-made.ensures.rules, c.deref-3.ensures.value ∙ c.in_ok-made.ensures.bytes) }

pub returns-in-Ok-summarize : goal.returns-in-Ok-summarize
returns-in-Ok-summarize g c =
    let m = form c.in_ok-made.made.image in
    let one : viewed c.of_spelling-image.result ≡ m = viewed_made c.deref.result.now (map letters c.deref-2.result.now) Registers c.in_ok-made.made c.of_spelling-image.result c.deref-3.result.now
    c.in_ok-made.ensures c.deref-3.ensures.value c.of_spelling-image.ensures.image c.of_spelling-image.ensures.bytes in (
      m,
      subst (λ names. IsImageFor (λ p. (goal.Pass-dyn g (p.vtable, p.value)).named p.value) (λ p. ((goal.Pass-dyn g (p.vtable, p.value)).steps p.value).leads) c.args.passes.now (generated c.args.job.now.seed c.args.job.now.size) names Registers m)
          (ap (map letters) c.deref-2.ensures.value ∙ c.in-Ok-default_names.ensures)
          (subst (λ text. IsImageFor (λ p. (goal.Pass-dyn g (p.vtable, p.value)).named p.value) (λ p. ((goal.Pass-dyn g (p.vtable, p.value)).steps p.value).leads) c.args.passes.now text (map letters c.deref-2.result.now) Registers m)
          (c.deref.ensures.value ∙ c.in-Ok.ensures) c.in_ok-made.ensures.image),
      subst (λ limit. IsSummed m [] limit c.in-Ok-summarize.summary) c.most_instructions.ensures (subst (λ (f : Form). IsSummed f [] c.most_instructions.result c.in-Ok-summarize.summary) one c.in-Ok-summarize.ensures),
    )
