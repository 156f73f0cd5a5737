-- Statements one by one.
use Rattle.std.proofs.Common.{◌≡◌, ◌∙◌, ◌++◌, ◌/◌, ℕ, List, suc, ap}
use Rattle.std.proofs.lemmas.List.{append_assoc}
use Rattle.work_gen.specs.Generated.{next_state, statement, statements}

-- what was said, the next statement and those behind it are what was said and the statements that were left
pub one_more : (texts said : List ℕ) (left before x y : ℕ) → suc left ≡ before → y ≡ next_state x → said ≡ texts ++ statement (y / 65536) → said ++ statements left y ≡ texts ++ statements before x
one_more texts said left before x y h is e =
    ap (λ t. t ++ statements left y) e ∙ append_assoc texts (statement (y / 65536)) (statements left y)
    ∙ ap (λ z. texts ++ (statement (z / 65536) ++ statements left z)) is
    ∙ ap (λ n. texts ++ statements n x) h
