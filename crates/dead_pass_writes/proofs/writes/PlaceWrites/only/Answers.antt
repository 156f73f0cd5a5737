use Rattle.std.proofs.Common.{◌∙◌}
use Rattle.dead_pass_writes.proofs.Keys.{only_exact}
use Rattle.dead_pass_writes.proofs.writes.PlaceWrites.only.Goals as goal

pub returns : goal.returns
returns c = only_exact c.args.self.now c.args.place c.args.name c.copied-written.result _ (c.copied-written.ensures ∙ c.get.ensures.value) c.once.ensures
