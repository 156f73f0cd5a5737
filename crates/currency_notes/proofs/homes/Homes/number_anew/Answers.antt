use Rattle.std.proofs.Common.{◌≡◌, ℕ, Some, ap, sym, subst, ◌∙◌}
use Rattle.std.specs.Prelude.{slice_get, slice_set}
use Rattle.currency_notes.proofs.Numbering.{more_same, none_listed, number_put}
use Rattle.currency_notes.proofs.homes.Homes.number_anew.Goals as goal

pub returns-in-Some-clause-more : goal.returns-in-Some-clause-more
returns-in-Some-clause-more c = more_same c.args.self.now

pub returns-in-Some-clause-number : goal.returns-in-Some-clause-number
returns-in-Some-clause-number c = λ lt. sym c.number.ensures ∙ c.in-Some.is

-- the home has no number yet
none_at : (c : goal.In_ok-number-in-None) → (k : ℕ) → slice_get c.args.self.now.numbers.items c.home_number-home.result ≡ Some (Some k) → ⊥
none_at c k = subst (λ i. slice_get c.args.self.now.numbers.items i ≡ Some (Some k) → ⊥) (sym c.home_number-home.ensures) (none_listed c.args.self.now c.args.name (sym c.number.ensures ∙ c.in-None.is) k)

pub returns-in_ok-number-in-None-clause-more : goal.returns-in_ok-number-in-None-clause-more
returns-in_ok-number-in-None-clause-more c =
    c.in_ok-number-in-None.ensures.more (none_at c)

pub returns-in_ok-number-in-None-clause-number : goal.returns-in_ok-number-in-None-clause-number
returns-in_ok-number-in-None-clause-number c = λ lt.
    (let said = c.in_ok-number-in-None.ensures in
    let fresh = said.more (none_at c) in
    number_put c.args.self.now c.give_number.new.self c.args.name c.in_ok-number-in-None.number fresh.homes fresh.count (said.number ∙ ap (λ i. slice_set c.args.self.now.numbers.items i (Some c.in_ok-number-in-None.number)) c.home_number-home.ensures) lt)
