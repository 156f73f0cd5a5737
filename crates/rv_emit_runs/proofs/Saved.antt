-- The frame of a function keeps each register that may be a home and that the function writes, and no others.
use Rattle.std.proofs.Common.{◌≡◌, ◌≢◌, ℕ, ◌≤◌, ⊎_elim, inl, inr, sym, ap, ◌∙◌, subst, arith, refl, Option, Some, None, Bool, true, false, cond, ◌||◌, List, [], ◌∷◌}
use Rattle.std.specs.Prelude.{◌==◌, option_map}
use Rattle.std.specs.List.{AllByRecursion, list_any, filter}
use Rattle.std.specs.Option.{option_map_or}
use Rattle.std.proofs.lemmas.Bool.{eq-eqb, cases_eq}
use Rattle.graph_core.specs.Graphs.{Instruction, Block, ToScalar, Graph}
use Rattle.graph_core.specs.Paths.{Among, front, behind}
use Rattle.graph_core.specs.Uses.{target_of}
use Rattle.graph_homes.specs.declared.home.Home.{Home}
use Rattle.graph_homes.specs.declared.home.Home.TheVariants.{Register, Slot}
use Rattle.graph_homes.specs.Frames.{home_registers, is_register, writes_register, binds_register, is_written, saved}
use Rattle.graph_homes.specs.Homed.{IsHomeRegister, IsHomeAmong}
use Rattle.rv_emit_runs.specs.Keeping.{IsTargetAmong, IsSaved}

-- ---- Lists

any_among : {A : Type 0} (p : A → Bool) (x : A) (xs : List A) → Among x xs → p x ≡ true → list_any p xs ≡ true
any_among p x [] among is = elim among [ ]
any_among p x (y ∷ xs) front is = ap (λ b. b || list_any p xs) is
any_among p x (y ∷ xs) (behind later) is = by_test (p y) (any_among p x xs later is)
  where
    by_test : (b : Bool) → list_any p xs ≡ true → (b || list_any p xs) ≡ true
    by_test true e = refl
    by_test false e = e

filter_among : {A : Type 0} (p : A → Bool) (x : A) (xs : List A) → Among x xs → p x ≡ true → Among x (filter p xs)
filter_among p x [] among is = elim among [ ]
filter_among p x (y ∷ xs) front is = subst (λ b. Among y (cond b (y ∷ filter p xs) (filter p xs))) (sym is) front
filter_among p x (y ∷ xs) (behind later) is = by_test (p y) (filter_among p x xs later is)
  where
    by_test : (b : Bool) → Among x (filter p xs) → Among x (cond b (y ∷ filter p xs) (filter p xs))
    by_test true e = behind e
    by_test false e = e

filter_all : (P : ℕ → Type 0) (p : ℕ → Bool) (xs : List ℕ) → AllByRecursion P xs → AllByRecursion P (filter p xs)
filter_all P p [] all = tt
filter_all P p (x ∷ xs) all = by_test (p x) (filter_all P p xs all.1)
  where
    by_test : (b : Bool) → AllByRecursion P (filter p xs) → AllByRecursion P (cond b (x ∷ filter p xs) (filter p xs))
    by_test true e = (all.0, e)
    by_test false e = e

-- ---- Registers that may be homes

from_31 : (r : ℕ) → 31 ≤ r → r ≤ 31 → Among r (31 ∷ [])
from_31 r low high = let last : r ≡ 31 = omega (arith, low, high) in subst (λ q. Among q (31 ∷ [])) (sym last) front

from_30 : (r : ℕ) → 30 ≤ r → r ≤ 31 → Among r (30 ∷ 31 ∷ [])
from_30 r low high = ⊎_elim (λ (is : r ≡ 30). subst (λ q. Among q (30 ∷ 31 ∷ [])) (sym is) front) (λ (other : r ≢ 30). behind (from_31 r (omega (arith, low, other)) high)) (cases_eq r 30)

from_29 : (r : ℕ) → 29 ≤ r → r ≤ 31 → Among r (29 ∷ 30 ∷ 31 ∷ [])
from_29 r low high = ⊎_elim (λ (is : r ≡ 29). subst (λ q. Among q (29 ∷ 30 ∷ 31 ∷ [])) (sym is) front) (λ (other : r ≢ 29). behind (from_30 r (omega (arith, low, other)) high)) (cases_eq r 29)

from_28 : (r : ℕ) → 28 ≤ r → r ≤ 31 → Among r (28 ∷ 29 ∷ 30 ∷ 31 ∷ [])
from_28 r low high = ⊎_elim (λ (is : r ≡ 28). subst (λ q. Among q (28 ∷ 29 ∷ 30 ∷ 31 ∷ [])) (sym is) front) (λ (other : r ≢ 28). behind (from_29 r (omega (arith, low, other)) high)) (cases_eq r 28)

from_27 : (r : ℕ) → 27 ≤ r → r ≤ 31 → Among r (27 ∷ 28 ∷ 29 ∷ 30 ∷ 31 ∷ [])
from_27 r low high = ⊎_elim (λ (is : r ≡ 27). subst (λ q. Among q (27 ∷ 28 ∷ 29 ∷ 30 ∷ 31 ∷ [])) (sym is) front) (λ (other : r ≢ 27). behind (from_28 r (omega (arith, low, other)) high)) (cases_eq r 27)

from_26 : (r : ℕ) → 26 ≤ r → r ≤ 31 → Among r (26 ∷ 27 ∷ 28 ∷ 29 ∷ 30 ∷ 31 ∷ [])
from_26 r low high = ⊎_elim (λ (is : r ≡ 26). subst (λ q. Among q (26 ∷ 27 ∷ 28 ∷ 29 ∷ 30 ∷ 31 ∷ [])) (sym is) front) (λ (other : r ≢ 26). behind (from_27 r (omega (arith, low, other)) high)) (cases_eq r 26)

from_25 : (r : ℕ) → 25 ≤ r → r ≤ 31 → Among r (25 ∷ 26 ∷ 27 ∷ 28 ∷ 29 ∷ 30 ∷ 31 ∷ [])
from_25 r low high = ⊎_elim (λ (is : r ≡ 25). subst (λ q. Among q (25 ∷ 26 ∷ 27 ∷ 28 ∷ 29 ∷ 30 ∷ 31 ∷ [])) (sym is) front) (λ (other : r ≢ 25). behind (from_26 r (omega (arith, low, other)) high)) (cases_eq r 25)

from_24 : (r : ℕ) → 24 ≤ r → r ≤ 31 → Among r (24 ∷ 25 ∷ 26 ∷ 27 ∷ 28 ∷ 29 ∷ 30 ∷ 31 ∷ [])
from_24 r low high = ⊎_elim (λ (is : r ≡ 24). subst (λ q. Among q (24 ∷ 25 ∷ 26 ∷ 27 ∷ 28 ∷ 29 ∷ 30 ∷ 31 ∷ [])) (sym is) front) (λ (other : r ≢ 24). behind (from_25 r (omega (arith, low, other)) high)) (cases_eq r 24)

from_23 : (r : ℕ) → 23 ≤ r → r ≤ 31 → Among r (23 ∷ 24 ∷ 25 ∷ 26 ∷ 27 ∷ 28 ∷ 29 ∷ 30 ∷ 31 ∷ [])
from_23 r low high = ⊎_elim (λ (is : r ≡ 23). subst (λ q. Among q (23 ∷ 24 ∷ 25 ∷ 26 ∷ 27 ∷ 28 ∷ 29 ∷ 30 ∷ 31 ∷ [])) (sym is) front) (λ (other : r ≢ 23). behind (from_24 r (omega (arith, low, other)) high)) (cases_eq r 23)

from_22 : (r : ℕ) → 22 ≤ r → r ≤ 31 → Among r (22 ∷ 23 ∷ 24 ∷ 25 ∷ 26 ∷ 27 ∷ 28 ∷ 29 ∷ 30 ∷ 31 ∷ [])
from_22 r low high = ⊎_elim (λ (is : r ≡ 22). subst (λ q. Among q (22 ∷ 23 ∷ 24 ∷ 25 ∷ 26 ∷ 27 ∷ 28 ∷ 29 ∷ 30 ∷ 31 ∷ [])) (sym is) front) (λ (other : r ≢ 22). behind (from_23 r (omega (arith, low, other)) high)) (cases_eq r 22)

from_21 : (r : ℕ) → 21 ≤ r → r ≤ 31 → Among r (21 ∷ 22 ∷ 23 ∷ 24 ∷ 25 ∷ 26 ∷ 27 ∷ 28 ∷ 29 ∷ 30 ∷ 31 ∷ [])
from_21 r low high = ⊎_elim (λ (is : r ≡ 21). subst (λ q. Among q (21 ∷ 22 ∷ 23 ∷ 24 ∷ 25 ∷ 26 ∷ 27 ∷ 28 ∷ 29 ∷ 30 ∷ 31 ∷ [])) (sym is) front) (λ (other : r ≢ 21). behind (from_22 r (omega (arith, low, other)) high)) (cases_eq r 21)

from_20 : (r : ℕ) → 20 ≤ r → r ≤ 31 → Among r (20 ∷ 21 ∷ 22 ∷ 23 ∷ 24 ∷ 25 ∷ 26 ∷ 27 ∷ 28 ∷ 29 ∷ 30 ∷ 31 ∷ [])
from_20 r low high = ⊎_elim (λ (is : r ≡ 20). subst (λ q. Among q (20 ∷ 21 ∷ 22 ∷ 23 ∷ 24 ∷ 25 ∷ 26 ∷ 27 ∷ 28 ∷ 29 ∷ 30 ∷ 31 ∷ [])) (sym is) front) (λ (other : r ≢ 20). behind (from_21 r (omega (arith, low, other)) high)) (cases_eq r 20)

from_19 : (r : ℕ) → 19 ≤ r → r ≤ 31 → Among r (19 ∷ 20 ∷ 21 ∷ 22 ∷ 23 ∷ 24 ∷ 25 ∷ 26 ∷ 27 ∷ 28 ∷ 29 ∷ 30 ∷ 31 ∷ [])
from_19 r low high = ⊎_elim (λ (is : r ≡ 19). subst (λ q. Among q (19 ∷ 20 ∷ 21 ∷ 22 ∷ 23 ∷ 24 ∷ 25 ∷ 26 ∷ 27 ∷ 28 ∷ 29 ∷ 30 ∷ 31 ∷ [])) (sym is) front) (λ (other : r ≢ 19). behind (from_20 r (omega (arith, low, other)) high)) (cases_eq r 19)

from_18 : (r : ℕ) → 18 ≤ r → r ≤ 31 → Among r (18 ∷ 19 ∷ 20 ∷ 21 ∷ 22 ∷ 23 ∷ 24 ∷ 25 ∷ 26 ∷ 27 ∷ 28 ∷ 29 ∷ 30 ∷ 31 ∷ [])
from_18 r low high = ⊎_elim (λ (is : r ≡ 18). subst (λ q. Among q (18 ∷ 19 ∷ 20 ∷ 21 ∷ 22 ∷ 23 ∷ 24 ∷ 25 ∷ 26 ∷ 27 ∷ 28 ∷ 29 ∷ 30 ∷ 31 ∷ [])) (sym is) front) (λ (other : r ≢ 18). behind (from_19 r (omega (arith, low, other)) high)) (cases_eq r 18)

pub home_among : (r : ℕ) → IsHomeRegister r → Among r home_registers
home_among r (inl is) = subst (λ q. Among q home_registers) (sym is) front
home_among r (inr (low, high)) = behind (from_18 r low high)

nine : IsHomeRegister 9
nine = inl refl

between : (r : ℕ) → 18 ≤ r → r ≤ 31 → IsHomeRegister r
between r low high = inr (low, high)

all_homes : AllByRecursion IsHomeRegister home_registers
all_homes = (nine, (between 18 (omega arith) (omega arith), (between 19 (omega arith) (omega arith), (between 20 (omega arith) (omega arith), (between 21 (omega arith) (omega arith), (between 22 (omega arith) (omega arith), (between 23 (omega arith) (omega arith), (between 24 (omega arith) (omega arith), (between 25 (omega arith) (omega arith), (between 26 (omega arith) (omega arith), (between 27 (omega arith) (omega arith), (between 28 (omega arith) (omega arith), (between 29 (omega arith) (omega arith), (between 30 (omega arith) (omega arith), (between 31 (omega arith) (omega arith), tt)))))))))))))))

-- No others are kept.
pub saved_homes : (home : ℕ → Home) (g : Graph) → AllByRecursion IsHomeRegister (saved home g)
saved_homes home g = filter_all IsHomeRegister (is_written home g) home_registers all_homes

-- ---- What is written

same_register : (r : ℕ) → (r == r) ≡ true
same_register r = eq-eqb r r refl

-- A register that an instruction of a block writes.
pub instruction_saved : (home : ℕ → Home) (g : Graph) (slots : ℕ) (b : Block) (x : Instruction) → Among b g.blocks → Among x b.instructions → IsTargetAmong slots (option_map home (target_of x)) → IsSaved (saved home g) (option_map home (target_of x))
instruction_saved home g slots b x in_graph in_block among = by_target (target_of x) refl among
  where
    written : (y r : ℕ) → target_of x ≡ Some y → home y ≡ Register r → is_written home g r ≡ true
    written y r is at =
        let writes : writes_register home r x ≡ true = ap (λ o. option_map_or (λ z. is_register r (home z)) o false) is ∙ ap (is_register r) at ∙ same_register r in
        let some : list_any (λ (q : Block). list_any (writes_register home r) q.instructions) g.blocks ≡ true = any_among (λ (q : Block). list_any (writes_register home r) q.instructions) b g.blocks in_graph (any_among (writes_register home r) x b.instructions in_block writes) in
        by_test (list_any (binds_register home r) g.parameters) some
      where
        by_test : (d : Bool) → list_any (λ (q : Block). list_any (writes_register home r) q.instructions) g.blocks ≡ true → (d || list_any (λ (q : Block). list_any (writes_register home r) q.instructions) g.blocks) ≡ true
        by_test true e = refl
        by_test false e = e

    by_home : (y : ℕ) (q : Home) → target_of x ≡ Some y → home y ≡ q → IsHomeAmong slots q → IsSaved (saved home g) (Some q)
    by_home y (Register r) is at is_home = filter_among (is_written home g) r home_registers (home_among r is_home) (written y r is at)
    by_home y (Slot k) is at is_home = tt

    by_target : (o : Option ℕ) → target_of x ≡ o → IsTargetAmong slots (option_map home o) → IsSaved (saved home g) (option_map home o)
    by_target None is is_home = tt
    by_target (Some y) is is_home = by_home y (home y) is refl is_home

-- A register that a parameter is bound to.
pub binding_saved : (home : ℕ → Home) (g : Graph) (slots x : ℕ) → Among (ToScalar x) g.parameters → IsHomeAmong slots (home x) → IsSaved (saved home g) (Some (home x))
binding_saved home g slots x among is_home = by_home (home x) refl is_home
  where
    by_home : (q : Home) → home x ≡ q → IsHomeAmong slots q → IsSaved (saved home g) (Some q)
    by_home (Register r) at is = filter_among (is_written home g) r home_registers (home_among r is)
        (ap (λ d. d || list_any (λ (b : Block). list_any (writes_register home r) b.instructions) g.blocks) (any_among (binds_register home r) (ToScalar x) g.parameters among (ap (is_register r) at ∙ same_register r)))
    by_home (Slot k) at is = tt
