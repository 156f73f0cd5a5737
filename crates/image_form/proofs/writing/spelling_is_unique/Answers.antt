use Rattle.image_form.proofs.OneSpelling.{spells_one}
use Rattle.image_form.proofs.writing.spelling_is_unique.Goals as goal

pub returns : goal.returns
returns c = spells_one
