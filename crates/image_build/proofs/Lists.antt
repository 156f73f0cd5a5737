-- Lists of numbers that ascend, and what stands where in lists.
use Rattle.std.proofs.Common.{◌≡◌, ℕ, ◌+◌, ◌≤◌, ◌<◌, true, Some, Option, List, [], ◌∷◌, ◌++◌, length, refl, subst, arith, sym}
use Rattle.std.specs.Prelude.{◌==◌, ◌&&◌, Bool, false, IsSomeAnd}
use Rattle.std.proofs.lemmas.Bool.{and_parts, eqb-true}
use Rattle.c_type_laws.specs.Orders.{is_numbered}
use Rattle.graph_core.specs.Paths.{Among, front, behind}
pub use Rattle.base_laws.proofs.Lists.{all_there as all_at, behind_at, both_all, from_map, front_at}

-- ---- What stands where

pub some_and : {A : Type 0} (o : Option A) (a : A) (P : A → Type 0) → o ≡ Some a → P a → IsSomeAnd o P
some_and o a P is h = subst (λ z. IsSomeAnd z P) (sym is) h

-- ---- Numbers that ascend

-- numbers from one on, each greater than the one before it, and below another number
abbrev pub Up : (low high : ℕ) → List ℕ → Type 0
Up low high [] = low ≤ high
Up low high (x ∷ xs) = (low ≤ x) × Up (x + 1) high xs

pub up_le : (low high : ℕ) (xs : List ℕ) → Up low high xs → low ≤ high
up_le low high [] up = up
up_le low high (x ∷ xs) up =
    let first = up.0 in
    let rest = up_le (x + 1) high xs up.1 in
    omega (arith, first, rest)

pub up_lower : (low mid high : ℕ) (xs : List ℕ) → low ≤ mid → Up mid high xs → Up low high xs
up_lower low mid high [] le up = omega (arith, le, up)
up_lower low mid high (x ∷ xs) le up = let first = up.0 in (omega (arith, le, first), up.1)

pub up_higher : (low mid high : ℕ) (xs : List ℕ) → Up low mid xs → mid ≤ high → Up low high xs
up_higher low mid high [] up le = omega (arith, up, le)
up_higher low mid high (x ∷ xs) up le = (up.0, up_higher (x + 1) mid high xs up.1 le)

pub up_both : (low mid high : ℕ) (xs ys : List ℕ) → Up low mid xs → Up mid high ys → Up low high (xs ++ ys)
up_both low mid high [] ys one two = up_lower low mid high ys one two
up_both low mid high (x ∷ xs) ys one two = (one.0, up_both (x + 1) mid high xs ys one.1 two)

pub up_among : (low high : ℕ) (xs : List ℕ) (x : ℕ) → Up low high xs → Among x xs → (low ≤ x) × (x < high)
up_among low high [] x up among = elim among [ ]
up_among low high (y ∷ xs) x up front = (let rest = up_le (y + 1) high xs up.1 in (up.0, omega (arith, rest)))
up_among low high (y ∷ xs) x up (behind among) = (
    let first = up.0 in
    let rest = up_among (y + 1) high xs x up.1 among in
    let le = rest.0 in
    (omega (arith, first, le), rest.1))

-- the last one of numbers that go up by one
pub numbered_parts : (base : ℕ) (xs : List ℕ) (x : ℕ) → is_numbered base (xs ++ x ∷ []) ≡ true → (is_numbered base xs ≡ true) × (x ≡ base + length xs)
numbered_parts base [] x h =
    let same = eqb-true x base (and_parts (x == base) (is_numbered (base + 1) []) h).0 in
    (refl, omega (arith, same))
numbered_parts base (y ∷ xs) x h =
    let parts = and_parts (y == base) (is_numbered (base + 1) (xs ++ x ∷ [])) h in
    let rest = numbered_parts (base + 1) xs x parts.1 in
    let last = rest.1 in
    (both (y == base) (is_numbered (base + 1) xs) parts.0 rest.0, omega (arith, last))
  where
    both : (a b : Bool) → a ≡ true → b ≡ true → (a && b) ≡ true
    both true b e f = f
    both false b e f = cc
