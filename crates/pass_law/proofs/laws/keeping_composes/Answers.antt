use Rattle.pass_law.proofs.Keeping.{keeps_itself, keeps_through}
use Rattle.pass_law.proofs.laws.keeping_composes.Goals as goal

pub returns : goal.returns
returns c = record { itself = keeps_itself; through = keeps_through }
