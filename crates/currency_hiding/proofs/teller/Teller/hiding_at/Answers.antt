use Rattle.std.proofs.Common.{ℕ, Option, subst, sym}
use Rattle.currency_hiding.specs.QuietStarts.{IsLeastQuietAt}
use Rattle.currency_hiding.proofs.teller.Teller.hiding_at.Goals as goal

pub returns : goal.returns
returns c = (c.at.ensures.hides, c.at.ensures.first, subst (λ (o : Option ℕ). IsLeastQuietAt c.args.self.now.changes c.args.self.now.search c.args.function.now c.args.place.0 o) (sym c.quiet_at.ensures) (c.requires.ready.quiet c.args.place.0))
