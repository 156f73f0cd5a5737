use Rattle.std.proofs.Common.{◌≡◌, length, arith}
use Rattle.c_meaning_values.proofs.Living.{pushed}
use Rattle.c_meaning_values.proofs.all_objects.Objects.push.Goals as goal

pub invariant_of-self-2 : goal.invariant_of-self-2
invariant_of-self-2 c = record {
  are_living = λ h.
      let count : c.len.result ≡ length c.args.self.now.all.items = omega arith in
      pushed c.args.self.now.all.items c.push.new.self.items c.args.object c.args.self.now.living.items c.note.new.living.items c.len.result c.in_ok-push.ensures.items count c.in_ok-note.ensures (c.args.self.now.are_living h);
}
