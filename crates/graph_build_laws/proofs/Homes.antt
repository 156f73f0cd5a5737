-- Where the variables of a function are kept: scalars in names of their own, in the order of the variables, and the others in objects.
use Rattle.std.proofs.Common.{◌≡◌, ℕ, zero, suc, ◌+◌, ◌-◌, ◌≤◌, ◌<◌, Bool, true, false, Some, None, List, [], ◌∷◌, take, drop, slice_get, refl, sym, ap, ◌∙◌, arith, if◌then◌else◌}
use Rattle.std.specs.Prelude.{nat_le}
use Rattle.std.proofs.lemmas.Bool.Decides.{nat_tests}
use Rattle.c_tree.specs.Programs.{AutomaticTree, TypedFunctionTree, ProgramTree}
use Rattle.graph_build_names.specs.declared.names.Home.TheVariants as home
use Rattle.graph_build_names.specs.Names.{Names, homes_from, names_of, scalar_in, object_in, home_of, scalar_of, object_of}
use Rattle.base_laws.proofs.Numbers.{at_most}
use Rattle.base_laws.proofs.Options.{some_same}

-- a scalar's home is that of a variable that is not in memory, with a name from a first one on
homes_scalar : (s o : ℕ) (all : List AutomaticTree) (k x : ℕ) → scalar_in (slice_get (homes_from s o all) k) ≡ Some x → (a : AutomaticTree) × (slice_get all k ≡ Some a) × (a.in_memory ≡ false) × (s ≤ x)
homes_scalar s o [] k x e = cc
homes_scalar s o (a ∷ more) k x e = by a.in_memory refl k (λ s o k. homes_scalar s o more k x) e
  where
    by : (b : Bool) → a.in_memory ≡ b → (k : ℕ) → ((s o k : ℕ) → scalar_in (slice_get (homes_from s o more) k) ≡ Some x → (c : AutomaticTree) × (slice_get more k ≡ Some c) × (c.in_memory ≡ false) × (s ≤ x))
        → scalar_in (slice_get (if b then home.Object o ∷ homes_from s (o + 1) more else home.Scalar s ∷ homes_from (s + 1) o more) k) ≡ Some x
        → (c : AutomaticTree) × (slice_get (a ∷ more) k ≡ Some c) × (c.in_memory ≡ false) × (s ≤ x)
    by true is zero later e = cc
    by true is (suc k) later e = later s (o + 1) k e
    by false is zero later e = (a, refl, is, omega (arith, some_same e))
    by false is (suc k) later e = let c = later (s + 1) o k e in (c.0, c.1, c.2, omega (arith, c.3))

-- no two homes are of one name
homes_one : (s o : ℕ) (all : List AutomaticTree) (k j x : ℕ) → scalar_in (slice_get (homes_from s o all) k) ≡ Some x → scalar_in (slice_get (homes_from s o all) j) ≡ Some x → k ≡ j
homes_one s o [] k j x e h = cc
homes_one s o (a ∷ more) k j x e h = by a.in_memory k j (λ s o k j. homes_one s o more k j x) e h
  where
    above : (j : ℕ) → scalar_in (slice_get (homes_from (s + 1) o more) j) ≡ Some x → s ≡ x → ⊥
    above j h same = let c = homes_scalar (s + 1) o more j x h in omega (arith, c.3, same)

    by : (b : Bool) (k j : ℕ) → ((s o k j : ℕ) → scalar_in (slice_get (homes_from s o more) k) ≡ Some x → scalar_in (slice_get (homes_from s o more) j) ≡ Some x → k ≡ j)
        → scalar_in (slice_get (if b then home.Object o ∷ homes_from s (o + 1) more else home.Scalar s ∷ homes_from (s + 1) o more) k) ≡ Some x
        → scalar_in (slice_get (if b then home.Object o ∷ homes_from s (o + 1) more else home.Scalar s ∷ homes_from (s + 1) o more) j) ≡ Some x → k ≡ j
    by true zero j later e h = cc
    by true (suc k) zero later e h = cc
    by true (suc k) (suc j) later e h = ap suc (later s (o + 1) k j e h)
    by false zero zero later e h = refl
    by false zero (suc j) later e h = absurd (above j h (some_same e))
    by false (suc k) zero later e h = absurd (above k e (some_same h))
    by false (suc k) (suc j) later e h = ap suc (later (s + 1) o k j e h)

-- A variable in memory has an object, and another one a name.
homes_kept : (s o : ℕ) (all : List AutomaticTree) (k : ℕ) (a : AutomaticTree) → slice_get all k ≡ Some a → a.in_memory ≡ true → (j : ℕ) × (object_in (slice_get (homes_from s o all) k) ≡ Some j)
homes_kept s o [] k a e inside = cc
homes_kept s o (c ∷ more) zero a e inside = by c.in_memory (ap (λ z. z.in_memory) (some_same e) ∙ inside)
  where
    by : (b : Bool) → b ≡ true → (j : ℕ) × (object_in (slice_get (if b then home.Object o ∷ homes_from s (o + 1) more else home.Scalar s ∷ homes_from (s + 1) o more) 0) ≡ Some j)
    by true h = (o, refl)
    by false h = cc
homes_kept s o (c ∷ more) (suc k) a e inside = by c.in_memory (homes_kept s (o + 1) more k a e inside) (homes_kept (s + 1) o more k a e inside)
  where
    by : (b : Bool) → (j : ℕ) × (object_in (slice_get (homes_from s (o + 1) more) k) ≡ Some j) → (j : ℕ) × (object_in (slice_get (homes_from (s + 1) o more) k) ≡ Some j)
        → (j : ℕ) × (object_in (slice_get (if b then home.Object o ∷ homes_from s (o + 1) more else home.Scalar s ∷ homes_from (s + 1) o more) (suc k)) ≡ Some j)
    by true h g = h
    by false h g = g

homes_named : (s o : ℕ) (all : List AutomaticTree) (k : ℕ) (a : AutomaticTree) → slice_get all k ≡ Some a → a.in_memory ≡ false → (j : ℕ) × (scalar_in (slice_get (homes_from s o all) k) ≡ Some j)
homes_named s o [] k a e inside = cc
homes_named s o (c ∷ more) zero a e inside = by c.in_memory (ap (λ z. z.in_memory) (some_same e) ∙ inside)
  where
    by : (b : Bool) → b ≡ false → (j : ℕ) × (scalar_in (slice_get (if b then home.Object o ∷ homes_from s (o + 1) more else home.Scalar s ∷ homes_from (s + 1) o more) 0) ≡ Some j)
    by true h = cc
    by false h = (s, refl)
homes_named s o (c ∷ more) (suc k) a e inside = by c.in_memory (homes_named s (o + 1) more k a e inside) (homes_named (s + 1) o more k a e inside)
  where
    by : (b : Bool) → (j : ℕ) × (scalar_in (slice_get (homes_from s (o + 1) more) k) ≡ Some j) → (j : ℕ) × (scalar_in (slice_get (homes_from (s + 1) o more) k) ≡ Some j)
        → (j : ℕ) × (scalar_in (slice_get (if b then home.Object o ∷ homes_from s (o + 1) more else home.Scalar s ∷ homes_from (s + 1) o more) (suc k)) ≡ Some j)
    by true h g = h
    by false h g = g

-- what stands in a stretch of a list
pub dropped_at : {A : Type 0} (xs : List A) (n i : ℕ) → slice_get (drop n xs) i ≡ slice_get xs (n + i)
dropped_at xs zero i = let e : i ≡ 0 + i = omega arith in ap (slice_get xs) e
dropped_at [] (suc n) i = refl
dropped_at (x ∷ xs) (suc n) i = let e : suc (n + i) ≡ suc n + i = omega arith in dropped_at xs n i ∙ ap (slice_get (x ∷ xs)) e

pub taken_at : {A : Type 0} (xs : List A) (n i : ℕ) → i < n → slice_get (take n xs) i ≡ slice_get xs i
taken_at xs zero i lt = absurd (omega (arith, lt))
taken_at [] (suc n) i lt = refl
taken_at (x ∷ xs) (suc n) zero lt = refl
taken_at (x ∷ xs) (suc n) (suc i) lt = taken_at xs n i (omega (arith, lt))

taken_some : {A : Type 0} (xs : List A) (n i : ℕ) (a : A) → slice_get (take n xs) i ≡ Some a → slice_get xs i ≡ Some a
taken_some xs zero i a e = cc
taken_some [] (suc n) i a e = cc
taken_some (x ∷ xs) (suc n) zero a e = e
taken_some (x ∷ xs) (suc n) (suc i) a e = taken_some xs n i a e

module _ (p : ProgramTree) (f : TypedFunctionTree) (again : Bool) where
  abbrev n : Names
  n = names_of p f again

  abbrev stretch : List AutomaticTree
  stretch = take f.variables (drop f.first_variable p.automatics)

  stretch_some : (i : ℕ) (a : AutomaticTree) → slice_get stretch i ≡ Some a → slice_get p.automatics (f.first_variable + i) ≡ Some a
  stretch_some i a e = sym (dropped_at p.automatics f.first_variable i) ∙ taken_some (drop f.first_variable p.automatics) f.variables i a e

  stretch_at : (i : ℕ) → i < f.variables → slice_get stretch i ≡ slice_get p.automatics (f.first_variable + i)
  stretch_at i lt = taken_at (drop f.first_variable p.automatics) f.variables i lt ∙ dropped_at p.automatics f.first_variable i

  -- the home of a variable
  pub home_at : (i : ℕ) → home_of n (f.first_variable + i) ≡ slice_get n.homes i
  home_at i = by (nat_le f.first_variable (f.first_variable + i)) (grind (arith, nat_tests))
    where
      same : f.first_variable + i - f.first_variable ≡ i
      same = omega arith

      by : (b : Bool) → b ≡ true → (if b then slice_get n.homes (f.first_variable + i - f.first_variable) else None) ≡ slice_get n.homes i
      by true e = ap (slice_get n.homes) same
      by false e = cc

  -- which variable it is that has a name
  scalar_place : (v k : ℕ) → scalar_of n v ≡ Some k → (i : ℕ) × (v ≡ f.first_variable + i) × (scalar_in (slice_get n.homes i) ≡ Some k)
  scalar_place v k e = by (nat_le f.first_variable v) refl e
    where
      behind : nat_le f.first_variable v ≡ true → v ≡ f.first_variable + (v - f.first_variable)
      behind h = omega (arith, at_most f.first_variable v h)

      by : (b : Bool) → nat_le f.first_variable v ≡ b → scalar_in (if b then slice_get n.homes (v - f.first_variable) else None) ≡ Some k → (i : ℕ) × (v ≡ f.first_variable + i) × (scalar_in (slice_get n.homes i) ≡ Some k)
      by true le e = (v - f.first_variable, behind le, e)
      by false le e = cc

  -- Each name is of one variable,
  pub one_name : (v w k : ℕ) → scalar_of n v ≡ Some k → scalar_of n w ≡ Some k → v ≡ w
  one_name v w k e h =
      let a = scalar_place v k e in
      let b = scalar_place w k h in
      let same : a.0 ≡ b.0 = homes_one 0 0 stretch a.0 b.0 k a.2 b.2 in
      a.1 ∙ ap (λ i. f.first_variable + i) same ∙ sym b.1

  -- which is not in memory.
  pub named_outside : (v k : ℕ) (a : AutomaticTree) → scalar_of n v ≡ Some k → slice_get p.automatics v ≡ Some a → a.in_memory ≡ false
  named_outside v k a e is =
      let c = scalar_place v k e in
      let r = homes_scalar 0 0 stretch c.0 k c.2 in
      let found : slice_get p.automatics v ≡ Some r.0 = ap (slice_get p.automatics) c.1 ∙ stretch_some c.0 r.0 r.1 in
      ap (λ z. z.in_memory) (some_same (sym is ∙ found)) ∙ r.2

  -- A variable of the function in memory has an object, and another one has a name.
  pub object_there : (i : ℕ) (a : AutomaticTree) → i < f.variables → slice_get p.automatics (f.first_variable + i) ≡ Some a → a.in_memory ≡ true → (j : ℕ) × (object_of n (f.first_variable + i) ≡ Some j)
  object_there i a lt is inside = let r = homes_kept 0 0 stretch i a (stretch_at i lt ∙ is) inside in (r.0, ap object_in (home_at i) ∙ r.1)

  pub name_there : (i : ℕ) (a : AutomaticTree) → i < f.variables → slice_get p.automatics (f.first_variable + i) ≡ Some a → a.in_memory ≡ false → (j : ℕ) × (scalar_of n (f.first_variable + i) ≡ Some j)
  name_there i a lt is outside = let r = homes_named 0 0 stretch i a (stretch_at i lt ∙ is) outside in (r.0, ap scalar_in (home_at i) ∙ r.1)
