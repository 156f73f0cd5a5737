use Rattle.pass_law.proofs.Found.{not_both}
use Rattle.session.proofs.asking.checked.Goals as goal

pub returns-in-Ok-false : goal.returns-in-Ok-false
returns-in-Ok-false g c = λ has. not_both (c.in-Ok-false.ensures.1 has) c.in-Ok-false.field-0-test
