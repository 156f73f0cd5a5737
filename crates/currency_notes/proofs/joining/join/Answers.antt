use Rattle.std.proofs.Common.{ap, sym, true≢false, ◌∙◌}
use Rattle.currency_notes.specs.declared.noted.Noted as declared-noted
use Rattle.currency_notes.specs.Notes.{recipe_of, told_of}
use Rattle.currency_notes.proofs.Lowering.{lost_apart, noted_apart, told_apart}
use Rattle.currency_notes.proofs.joining.join.Goals as goal

pub returns-else-is_own-clause-apart : goal.returns-else-is_own-clause-apart
returns-else-is_own-clause-apart c =
    (let x = c.args.scalar in
    noted_apart x c.args.one c.args.other _ _ (ap (λ (n : declared-noted.Noted). recipe_of x n) c.in-Own-Recipe.is-0) (ap (λ (n : declared-noted.Noted). recipe_of x n) c.in-Own-Recipe.is-1)
    (λ q. true≢false (sym (c.is_own.ensures.1 q) ∙ c.if-is_own.false)))

pub returns-then-is_own-2-clause-apart : goal.returns-then-is_own-2-clause-apart
returns-then-is_own-2-clause-apart c =
    told_apart c.args.scalar c.args.one c.args.other _ (ap (λ (n : declared-noted.Noted). told_of n) c.in-Recipe-Own.is-0) (ap (λ (n : declared-noted.Noted). told_of n) c.in-Recipe-Own.is-1)

pub returns-else-is_own-2-clause-apart : goal.returns-else-is_own-2-clause-apart
returns-else-is_own-2-clause-apart c =
    told_apart c.args.scalar c.args.one c.args.other _ (ap (λ (n : declared-noted.Noted). told_of n) c.in-Recipe-Own.is-0) (ap (λ (n : declared-noted.Noted). told_of n) c.in-Recipe-Own.is-1)

pub returns-else-is_same-clause-apart : goal.returns-else-is_same-clause-apart
returns-else-is_same-clause-apart c =
    (let x = c.args.scalar in
    noted_apart x c.args.one c.args.other _ _ (ap (λ (n : declared-noted.Noted). recipe_of x n) c.in-Recipe-Recipe.is-0) (ap (λ (n : declared-noted.Noted). recipe_of x n) c.in-Recipe-Recipe.is-1)
    (λ q. true≢false (sym (c.is_same.ensures.1 (sym q)) ∙ c.if-is_same.false)))

pub returns-in-Own-Lost-clause-apart : goal.returns-in-Own-Lost-clause-apart
returns-in-Own-Lost-clause-apart c =
    (let x = c.args.scalar in lost_apart x c.args.one c.args.other _ (ap (λ (n : declared-noted.Noted). recipe_of x n) c.in-Own-Lost.is-0) (ap (λ (n : declared-noted.Noted). recipe_of x n) c.in-Own-Lost.is-1))

pub returns-in-Recipe-Lost-clause-apart : goal.returns-in-Recipe-Lost-clause-apart
returns-in-Recipe-Lost-clause-apart c =
    told_apart c.args.scalar c.args.one c.args.other _ (ap (λ (n : declared-noted.Noted). told_of n) c.in-Recipe-Lost.is-0) (ap (λ (n : declared-noted.Noted). told_of n) c.in-Recipe-Lost.is-1)
