use Rattle.std.proofs.Common.{◌∙◌}
use Rattle.dead_pass_writes.specs.Telling.{told}
use Rattle.dead_pass_writes.proofs.Keys.{put_binding, same_pair}
use Rattle.dead_pass_writes.proofs.writes.PlaceWrites.add_bound.Goals as goal

pub returns : goal.returns
returns c = λ p x. c.in_ok-insert.ensures.updates.0 (p, x) ∙ put_binding _ _ (told c.args.self.now p x) (same_pair (c.args.place, c.args.name) (p, x))
