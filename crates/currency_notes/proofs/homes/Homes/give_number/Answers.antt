use Rattle.std.proofs.Common.{Some, ap, arith, ◌∙◌}
use Rattle.std.specs.Prelude.{slice_set}
use Rattle.currency_notes.proofs.Numbering.{more_new}
use Rattle.currency_notes.proofs.homes.Homes.give_number.Goals as goal

pub returns-clause-more : goal.returns-clause-more
returns-clause-more c = λ none. more_new c.args.self.now c.put_number.new.self c.args.home _ c.put_number.ensures.homes none (c.put_number.ensures.numbers ∙ ap (λ k. slice_set c.args.self.now.numbers.items c.args.home (Some k)) (c.len-number.ensures ∙ omega (arith, c.args.self.now.readers.ok.0))) (c.put_number.ensures.readers ∙ c.in_ok-push.ensures.items)
