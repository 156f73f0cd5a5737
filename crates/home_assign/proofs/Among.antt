-- Homes that are added one by one.
use Rattle.std.proofs.Common.{◌≡◌, ℕ, ◌+◌, ◌≤◌, List, [], ◌∷◌, ◌++◌, length, sym, subst, arith, length-append}
use Rattle.std.specs.List.{AllByRecursion}
use Rattle.graph_homes.specs.declared.home.Home.{Home}
use Rattle.graph_homes.specs.declared.home.Home.TheVariants.{Register, Slot}
use Rattle.graph_homes.specs.Homed.{IsHomeAmong}
use Rattle.base_laws.proofs.Lists.{all_one_more, both_all as all_append}

pub among_more : (m n : ℕ) → m ≤ n → (home : Home) → IsHomeAmong m home → IsHomeAmong n home
among_more m n le (Register r) is = is
among_more m n le (Slot k) is = omega (arith, le, is)

pub all_among_more : (m n : ℕ) → m ≤ n → (homes : List Home) → AllByRecursion (IsHomeAmong m) homes → AllByRecursion (IsHomeAmong n) homes
all_among_more m n le [] all = tt
all_among_more m n le (home ∷ homes) all = (among_more m n le home all.0, all_among_more m n le homes all.1)

pub among_put : (xs ys : List Home) (home : Home) → ys ≡ xs ++ home ∷ [] → AllByRecursion (IsHomeAmong (length xs)) xs → IsHomeAmong (length xs + 1) home → AllByRecursion (IsHomeAmong (length ys)) ys
among_put xs ys home e all is =
    let P : List Home → Type 0 = λ zs. AllByRecursion (IsHomeAmong (length zs)) zs in
    let n : length (xs ++ home ∷ []) ≡ length xs + 1 = omega (arith, length-append xs (home ∷ [])) in
    let Q : ℕ → Type 0 = λ k. AllByRecursion (IsHomeAmong k) (xs ++ home ∷ []) in
    subst P (sym e) (subst Q (sym n) (all_one_more (IsHomeAmong (length xs + 1)) xs home (all_among_more (length xs) (length xs + 1) (omega arith) xs all) is))
