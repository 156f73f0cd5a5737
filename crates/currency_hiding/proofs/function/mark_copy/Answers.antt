use Rattle.std.proofs.Common.{◌≢◌, None, sym, subst, ◌∙◌}
use Rattle.std.proofs.lemmas.Option.{same_Some}
use Rattle.currency_writers.specs.Marks.{mark_at}
use Rattle.currency_hiding.proofs.function.mark_copy.Goals as goal

pub returns-in-Some-clause-there : goal.returns-in-Some-clause-there
returns-in-Some-clause-there c = λ t lt copied le.
    subst (λ n. mark_at c.mark_one.new.marks n ≢ None) (same_Some c.in-Some.name t (sym c.in-Some.ensures.copied ∙ copied))
    (c.mark_one.ensures.there (c.requires.below c.args.place.0 c.args.scalar c.in-Some.name c.in-Some.ensures.copied))
