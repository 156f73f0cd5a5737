use Rattle.std.proofs.Common.{◌≡◌, ◌+◌, ◌*◌, ap, ◌∙◌}
use Rattle.dead_pass_notes.specs.Scans.{number_of}
use Rattle.dead_pass_notes.proofs.Coming.{bool_number, come_here, come_seen}
use Rattle.dead_pass_notes.proofs.ways.Ways.come_to.Goals as goal

pub returns-clause-seen : goal.returns-clause-seen
returns-clause-seen c = λ all.
    (let number : c.args.block * 2 + c.from.result ≡ number_of c.args.block c.args.is_written = ap (λ k. c.args.block * 2 + k) (c.from.ensures ∙ bool_number c.args.is_written) in
    come_seen c.args.self.now.seen.items c.args.self.now.search c.args.self.now.ahead.items c.push.new.self.items c.args.block c.args.is_written (c.args.block * 2 + c.from.result) number c.in_ok-push.ensures.items all)

pub returns-clause-come : goal.returns-clause-come
returns-clause-come c = λ all inside. come_here c.args.self.now.ahead.items c.push.new.self.items c.args.block c.args.is_written c.in_ok-push.ensures.items
