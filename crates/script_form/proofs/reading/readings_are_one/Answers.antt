use Rattle.script_form.proofs.ScriptLaws.{readings_one}
use Rattle.script_form.proofs.reading.readings_are_one.Goals as goal

pub returns : goal.returns
returns c = readings_one
