-- Where the variables of a function are kept: scalars are not in memory, and each has a name of its own.
use Rattle.std.proofs.Common.{◌≡◌, ◌≢◌, ℕ, zero, suc, ◌+◌, ◌-◌, ◌<◌, ◌≤◌, List, [], ◌∷◌, Option, Some, None, Bool, true, false, slice_get, take, drop, refl, sym, ap, ◌∙◌, subst, arith}
use Rattle.std.specs.Prelude.{if◌then◌else◌, nat_le}
use Rattle.std.proofs.lemmas.Bool.{leb-true}
use Rattle.c_tree.specs.Programs.{AutomaticTree, TypedFunctionTree, ProgramTree}
use Rattle.graph_build_names.specs.declared.names.Home.{Home}
use Rattle.graph_build_names.specs.declared.names.Home.TheVariants as home
use Rattle.graph_build_names.specs.Names.{Names, names_of, homes_from, homes_of, scalar_in, scalar_of, object_in, object_of}

-- a home that is a scalar's
pub record ScalarAt (list : List AutomaticTree) (i scalars k : ℕ) : Type 0 where
  pub variable : AutomaticTree
  pub is : slice_get list i ≡ Some variable
  pub outside : variable.in_memory ≡ false
  pub above : scalars ≤ k

scalar_at : (list : List AutomaticTree) (scalars objects i k : ℕ) → slice_get (homes_from scalars objects list) i ≡ Some (home.Scalar k) → ScalarAt list i scalars k
scalar_at [] scalars objects i k h = cc
scalar_at (a ∷ list) scalars objects i k h = by (λ s o j e. scalar_at list s o j k e) a.in_memory refl i h
  where
    by : ((s o j : ℕ) → slice_get (homes_from s o list) j ≡ Some (home.Scalar k) → ScalarAt list j s k) → (b : Bool) → a.in_memory ≡ b → (i : ℕ)
        → slice_get (if b then home.Object objects ∷ homes_from scalars (objects + 1) list else home.Scalar scalars ∷ homes_from (scalars + 1) objects list) i ≡ Some (home.Scalar k) → ScalarAt (a ∷ list) i scalars k
    by rest true e zero h = cc
    by rest true e (suc i) h = let c = rest scalars (objects + 1) i h in record { variable = c.variable; is = c.is; outside = c.outside; above = c.above }
    by rest false e zero h = let same : scalars ≡ k = cc in record { variable = a; is = refl; outside = e; above = omega (arith, same) }
    by rest false e (suc i) h = let c = rest (scalars + 1) objects i h in record { variable = c.variable; is = c.is; outside = c.outside; above = omega (arith, c.above) }

-- two homes of one scalar are one
scalar_once : (list : List AutomaticTree) (scalars objects i j k : ℕ) → slice_get (homes_from scalars objects list) i ≡ Some (home.Scalar k) → slice_get (homes_from scalars objects list) j ≡ Some (home.Scalar k) → i ≡ j
scalar_once [] scalars objects i j k h e = cc
scalar_once (a ∷ list) scalars objects i j k h e = by (λ s o m n f g. scalar_once list s o m n k f g) a.in_memory i j h e
  where
    by : ((s o m n : ℕ) → slice_get (homes_from s o list) m ≡ Some (home.Scalar k) → slice_get (homes_from s o list) n ≡ Some (home.Scalar k) → m ≡ n) → (b : Bool) → (i j : ℕ)
        → slice_get (if b then home.Object objects ∷ homes_from scalars (objects + 1) list else home.Scalar scalars ∷ homes_from (scalars + 1) objects list) i ≡ Some (home.Scalar k)
        → slice_get (if b then home.Object objects ∷ homes_from scalars (objects + 1) list else home.Scalar scalars ∷ homes_from (scalars + 1) objects list) j ≡ Some (home.Scalar k) → i ≡ j
    by rest true zero j h e = cc
    by rest true (suc i) zero h e = cc
    by rest true (suc i) (suc j) h e = ap (λ n. suc n) (rest scalars (objects + 1) i j h e)
    by rest false zero zero h e = refl
    by rest false zero (suc j) h e = let same : scalars ≡ k = cc in let c = scalar_at list (scalars + 1) objects j k e in absurd (omega (arith, same, c.above))
    by rest false (suc i) zero h e = let same : scalars ≡ k = cc in let c = scalar_at list (scalars + 1) objects i k h in absurd (omega (arith, same, c.above))
    by rest false (suc i) (suc j) h e = ap (λ n. suc n) (rest (scalars + 1) objects i j h e)

-- a member of a part of a list
taken_at : {A : Type 0} (list : List A) (count i : ℕ) (a : A) → slice_get (take count list) i ≡ Some a → slice_get list i ≡ Some a
taken_at [] zero i a h = cc
taken_at [] (suc count) i a h = cc
taken_at (b ∷ list) zero i a h = cc
taken_at (b ∷ list) (suc count) zero a h = h
taken_at (b ∷ list) (suc count) (suc i) a h = taken_at list count i a h

dropped_at : {A : Type 0} (list : List A) (count i : ℕ) (a : A) → slice_get (drop count list) i ≡ Some a → slice_get list (count + i) ≡ Some a
dropped_at list zero i a h = let e : i ≡ 0 + i = omega arith in ap (slice_get list) (sym e) ∙ h
dropped_at [] (suc count) i a h = cc
dropped_at (b ∷ list) (suc count) i a h = let e : suc count + i ≡ suc (count + i) = omega arith in ap (slice_get (b ∷ list)) e ∙ dropped_at list count i a h

module _ (p : ProgramTree) (f : TypedFunctionTree) (again : Bool) where
  -- the home of a variable that has a scalar
  in_homes : (v k : ℕ) → scalar_of (names_of p f again) v ≡ Some k → (f.first_variable ≤ v) × (slice_get (homes_of p.automatics f.first_variable f.variables) (v - f.first_variable) ≡ Some (home.Scalar k))
  in_homes v k h = by (nat_le f.first_variable v) refl h
    where
      home_is : (o : Option Home) → scalar_in o ≡ Some k → o ≡ Some (home.Scalar k)
      home_is (Some (home.Scalar j)) e = let same : j ≡ k = cc in ap (λ i. Some (home.Scalar i)) same
      home_is (Some (home.Object j)) e = cc
      home_is None e = cc

      by : (b : Bool) → nat_le f.first_variable v ≡ b → scalar_in (if b then slice_get (homes_of p.automatics f.first_variable f.variables) (v - f.first_variable) else None) ≡ Some k
          → (f.first_variable ≤ v) × (slice_get (homes_of p.automatics f.first_variable f.variables) (v - f.first_variable) ≡ Some (home.Scalar k))
      by true e h = (leb-true f.first_variable v e, home_is (slice_get (homes_of p.automatics f.first_variable f.variables) (v - f.first_variable)) h)
      by false e h = cc

  -- A scalar's variable is not in memory.
  pub scalar_outside : (v k : ℕ) (a : AutomaticTree) → scalar_of (names_of p f again) v ≡ Some k → slice_get p.automatics v ≡ Some a → a.in_memory ≡ false
  scalar_outside v k a h is =
      let c = in_homes v k h in
      let d = scalar_at (take f.variables (drop f.first_variable p.automatics)) 0 0 (v - f.first_variable) k c.1 in
      let found = dropped_at p.automatics f.first_variable (v - f.first_variable) d.variable (taken_at (drop f.first_variable p.automatics) f.variables (v - f.first_variable) d.variable d.is) in
      let place : f.first_variable + (v - f.first_variable) ≡ v = omega (arith, c.0) in
      let same : Some d.variable ≡ Some a = sym found ∙ ap (slice_get p.automatics) place ∙ is in
      let one : d.variable ≡ a = cc in
      ap (λ z. z.in_memory) (sym one) ∙ d.outside

  -- Each scalar is one variable's.
  pub scalar_one : (v w k : ℕ) → scalar_of (names_of p f again) v ≡ Some k → scalar_of (names_of p f again) w ≡ Some k → v ≡ w
  scalar_one v w k h e =
      let c = in_homes v k h in
      let d = in_homes w k e in
      let same = scalar_once (take f.variables (drop f.first_variable p.automatics)) 0 0 (v - f.first_variable) (w - f.first_variable) k c.1 d.1 in
      omega (arith, c.0, d.0, same)

-- a home that is an object's
pub record ObjectAt (list : List AutomaticTree) (i : ℕ) : Type 0 where
  pub variable : AutomaticTree
  pub is : slice_get list i ≡ Some variable
  pub inside : variable.in_memory ≡ true

object_at : (list : List AutomaticTree) (scalars objects i k : ℕ) → slice_get (homes_from scalars objects list) i ≡ Some (home.Object k) → ObjectAt list i
object_at [] scalars objects i k h = cc
object_at (a ∷ list) scalars objects i k h = by (λ s o j e. object_at list s o j k e) a.in_memory refl i h
  where
    by : ((s o j : ℕ) → slice_get (homes_from s o list) j ≡ Some (home.Object k) → ObjectAt list j) → (b : Bool) → a.in_memory ≡ b → (i : ℕ)
        → slice_get (if b then home.Object objects ∷ homes_from scalars (objects + 1) list else home.Scalar scalars ∷ homes_from (scalars + 1) objects list) i ≡ Some (home.Object k) → ObjectAt (a ∷ list) i
    by rest true e zero h = record { variable = a; is = refl; inside = e }
    by rest true e (suc i) h = let c = rest scalars (objects + 1) i h in record { variable = c.variable; is = c.is; inside = c.inside }
    by rest false e zero h = cc
    by rest false e (suc i) h = let c = rest (scalars + 1) objects i h in record { variable = c.variable; is = c.is; inside = c.inside }

-- A variable that has an object is in memory.
pub object_inside : (p : ProgramTree) (f : TypedFunctionTree) (again : Bool) (v k : ℕ) (a : AutomaticTree) → object_of (names_of p f again) v ≡ Some k → slice_get p.automatics v ≡ Some a → a.in_memory ≡ true
object_inside p f again v k a h is = by (nat_le f.first_variable v) refl h
  where
    home_is : (o : Option Home) → object_in o ≡ Some k → o ≡ Some (home.Object k)
    home_is (Some (home.Scalar j)) e = cc
    home_is (Some (home.Object j)) e = let same : j ≡ k = cc in ap (λ i. Some (home.Object i)) same
    home_is None e = cc

    by : (b : Bool) → nat_le f.first_variable v ≡ b → object_in (if b then slice_get (homes_of p.automatics f.first_variable f.variables) (v - f.first_variable) else None) ≡ Some k → a.in_memory ≡ true
    by true e h =
        let at = home_is (slice_get (homes_of p.automatics f.first_variable f.variables) (v - f.first_variable)) h in
        let d = object_at (take f.variables (drop f.first_variable p.automatics)) 0 0 (v - f.first_variable) k at in
        let found = dropped_at p.automatics f.first_variable (v - f.first_variable) d.variable (taken_at (drop f.first_variable p.automatics) f.variables (v - f.first_variable) d.variable d.is) in
        let le = leb-true f.first_variable v e in
        let place : f.first_variable + (v - f.first_variable) ≡ v = omega (arith, le) in
        let same : Some d.variable ≡ Some a = sym found ∙ ap (slice_get p.automatics) place ∙ is in
        let one : d.variable ≡ a = cc in
        ap (λ z. z.in_memory) (sym one) ∙ d.inside
    by false e h = cc
