use Rattle.std.proofs.Common.{arith, refl}
use Rattle.currency_writers.proofs.Copied.{copied_put}
use Rattle.currency_writers.proofs.copies.Copies.add.Goals as goal

pub returns-in_ok-push : goal.returns-in_ok-push
returns-in_ok-push c = copied_put c.args.self.now _ c.args.place c.in-Some.place c.args.target c.args.from c.index_mut.result.now c.push.new.self c.in-Some.is (omega arith) c.index_mut.ensures.value refl c.in_ok-push.ensures.items refl
