-- A list is its first element and what stands behind it.
use Rattle.std.proofs.Common.{◌≡◌, ◌≤◌, ◌-◌, List, [], ◌∷◌, length, take, drop, get_or, arith}
use Rattle.std.proofs.lemmas.List.{take_all}

-- a list without its first element
abbrev pub behind_first : {A : Type 0} → List A → List A
behind_first all = take (length all - 1) (drop 1 all)

pub whole : {A : Type 0} (all : List A) (first : A) → 1 ≤ length all → first ≡ get_or all 0 first → first ∷ behind_first all ≡ all
whole [] first some is = absurd (omega (arith, some))
whole (a ∷ all) first some is = let rest = take_all (length (a ∷ all) - 1) all (omega arith) in (λ i. is i ∷ rest i)
