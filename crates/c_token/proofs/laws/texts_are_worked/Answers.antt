use Rattle.c_token.proofs.TextsWorked.{are_worked}
use Rattle.c_token.proofs.laws.texts_are_worked.Goals as goal

pub returns : goal.returns
returns c = are_worked
