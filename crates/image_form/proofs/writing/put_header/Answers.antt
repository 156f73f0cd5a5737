use Rattle.std.proofs.Common.{◌∙◌, sym}
use Rattle.std.proofs.lemmas.List.{append-nil}
use Rattle.image_form.specs.Form.{form}
use Rattle.image_form.proofs.Gathered.{long_written, short_written}
use Rattle.image_form.proofs.writing.put_header.Goals as goal

pub returns-in_ok-put_numbers-2 : goal.returns-in_ok-put_numbers-2
returns-in_ok-put_numbers-2 c =
    long_written (form c.args.image.now) _ _ _ (rw c.short_header.ensures at c.in_ok-put_numbers.ensures) (sym c.has_callers.ensures ∙ c.if-has_callers.true) (rw (c.counted-calls.ensures, c.counted-members.ensures) at c.in_ok-put_numbers-2.ensures)

pub returns-else-has_callers : goal.returns-else-has_callers
returns-else-has_callers c =
    short_written (form c.args.image.now) _ _ _ (rw c.short_header.ensures at c.in_ok-put_numbers.ensures) (sym c.has_callers.ensures ∙ c.if-has_callers.false) (sym (append-nil _))
