-- Where the variables in memory of a function are kept: each has an object of its own.
use Rattle.std.proofs.Common.{◌≡◌, ℕ, zero, suc, ◌+◌, ◌-◌, ◌<◌, ◌≤◌, List, [], ◌∷◌, Option, Some, None, Bool, true, false, slice_get, take, drop, refl, sym, ap, ◌∙◌, arith}
use Rattle.std.specs.Prelude.{if◌then◌else◌, nat_le}
use Rattle.std.proofs.lemmas.Bool.{leb-true}
use Rattle.std.proofs.lemmas.Bool.Decides.{nat_tests}
use Rattle.c_tree.specs.Programs.{AutomaticTree, TypedFunctionTree, ProgramTree}
use Rattle.graph_build_names.specs.declared.names.Home.{Home}
use Rattle.graph_build_names.specs.declared.names.Home.TheVariants as home
use Rattle.graph_build_names.specs.Names.{Names, names_of, homes_from, homes_of, scalar_in, scalar_of, object_in, object_of, home_of}

-- objects are numbered upwards
object_above : (list : List AutomaticTree) (scalars objects i k : ℕ) → slice_get (homes_from scalars objects list) i ≡ Some (home.Object k) → objects ≤ k
object_above [] scalars objects i k h = cc
object_above (a ∷ list) scalars objects i k h = by (λ s o j e. object_above list s o j k e) a.in_memory i h
  where
    by : ((s o j : ℕ) → slice_get (homes_from s o list) j ≡ Some (home.Object k) → o ≤ k) → (b : Bool) → (i : ℕ)
        → slice_get (if b then home.Object objects ∷ homes_from scalars (objects + 1) list else home.Scalar scalars ∷ homes_from (scalars + 1) objects list) i ≡ Some (home.Object k) → objects ≤ k
    by rest true zero h = let same : objects ≡ k = cc in omega (arith, same)
    by rest true (suc i) h = let le = rest scalars (objects + 1) i h in omega (arith, le)
    by rest false zero h = cc
    by rest false (suc i) h = rest (scalars + 1) objects i h

-- two homes of one object are one
object_once : (list : List AutomaticTree) (scalars objects i j k : ℕ) → slice_get (homes_from scalars objects list) i ≡ Some (home.Object k) → slice_get (homes_from scalars objects list) j ≡ Some (home.Object k) → i ≡ j
object_once [] scalars objects i j k h e = cc
object_once (a ∷ list) scalars objects i j k h e = by (λ s o m n f g. object_once list s o m n k f g) a.in_memory i j h e
  where
    by : ((s o m n : ℕ) → slice_get (homes_from s o list) m ≡ Some (home.Object k) → slice_get (homes_from s o list) n ≡ Some (home.Object k) → m ≡ n) → (b : Bool) → (i j : ℕ)
        → slice_get (if b then home.Object objects ∷ homes_from scalars (objects + 1) list else home.Scalar scalars ∷ homes_from (scalars + 1) objects list) i ≡ Some (home.Object k)
        → slice_get (if b then home.Object objects ∷ homes_from scalars (objects + 1) list else home.Scalar scalars ∷ homes_from (scalars + 1) objects list) j ≡ Some (home.Object k) → i ≡ j
    by rest true zero zero h e = refl
    by rest true zero (suc j) h e = let same : objects ≡ k = cc in let le = object_above list scalars (objects + 1) j k e in absurd (omega (arith, same, le))
    by rest true (suc i) zero h e = let same : objects ≡ k = cc in let le = object_above list scalars (objects + 1) i k h in absurd (omega (arith, same, le))
    by rest true (suc i) (suc j) h e = ap (λ n. suc n) (rest scalars (objects + 1) i j h e)
    by rest false zero j h e = cc
    by rest false (suc i) zero h e = cc
    by rest false (suc i) (suc j) h e = ap (λ n. suc n) (rest (scalars + 1) objects i j h e)

-- each member has a home
home_there : (list : List AutomaticTree) (scalars objects i : ℕ) (a : AutomaticTree) → slice_get list i ≡ Some a → (h : Home) × (slice_get (homes_from scalars objects list) i ≡ Some h)
home_there [] scalars objects i a is = cc
home_there (b ∷ list) scalars objects i a is = by (λ s o j e. home_there list s o j a e) b.in_memory i is
  where
    by : ((s o j : ℕ) → slice_get list j ≡ Some a → (h : Home) × (slice_get (homes_from s o list) j ≡ Some h)) → (m : Bool) → (i : ℕ) → slice_get (b ∷ list) i ≡ Some a → (h : Home) × (slice_get (if m then home.Object objects ∷ homes_from scalars (objects + 1) list else home.Scalar scalars ∷ homes_from (scalars + 1) objects list) i ≡ Some h)
    by rest true zero is = (home.Object objects, refl)
    by rest true (suc i) is = rest scalars (objects + 1) i is
    by rest false zero is = (home.Scalar scalars, refl)
    by rest false (suc i) is = rest (scalars + 1) objects i is

-- members of parts of a list
pub taken_is : {A : Type 0} (xs : List A) (count i : ℕ) → i < count → slice_get (take count xs) i ≡ slice_get xs i
taken_is xs zero i lt = absurd (omega (arith, lt))
taken_is [] (suc count) i lt = refl
taken_is (x ∷ xs) (suc count) zero lt = refl
taken_is (x ∷ xs) (suc count) (suc i) lt = taken_is xs count i (omega (arith, lt))

pub dropped_is : {A : Type 0} (xs : List A) (n i : ℕ) → slice_get xs (n + i) ≡ slice_get (drop n xs) i
dropped_is xs zero i = let e : 0 + i ≡ i = omega arith in ap (slice_get xs) e
dropped_is [] (suc n) i = refl
dropped_is (x ∷ xs) (suc n) i = let e : suc n + i ≡ suc (n + i) = omega arith in ap (slice_get (x ∷ xs)) e ∙ dropped_is xs n i

module _ (p : ProgramTree) (f : TypedFunctionTree) (again : Bool) where
  pub object_home : (v j : ℕ) → object_of (names_of p f again) v ≡ Some j → (f.first_variable ≤ v) × (slice_get (homes_of p.automatics f.first_variable f.variables) (v - f.first_variable) ≡ Some (home.Object j))
  object_home v j h = by (nat_le f.first_variable v) refl h
    where
      home_is : (o : Option Home) → object_in o ≡ Some j → o ≡ Some (home.Object j)
      home_is (Some (home.Scalar k)) e = cc
      home_is (Some (home.Object k)) e = let same : k ≡ j = cc in ap (λ i. Some (home.Object i)) same
      home_is None e = cc

      by : (b : Bool) → nat_le f.first_variable v ≡ b → object_in (if b then slice_get (homes_of p.automatics f.first_variable f.variables) (v - f.first_variable) else None) ≡ Some j
          → (f.first_variable ≤ v) × (slice_get (homes_of p.automatics f.first_variable f.variables) (v - f.first_variable) ≡ Some (home.Object j))
      by true e h = (leb-true f.first_variable v e, home_is (slice_get (homes_of p.automatics f.first_variable f.variables) (v - f.first_variable)) h)
      by false e h = cc

  -- Each object is one variable's.
  pub object_one : (v w j : ℕ) → object_of (names_of p f again) v ≡ Some j → object_of (names_of p f again) w ≡ Some j → v ≡ w
  object_one v w j h e =
      let c = object_home v j h in
      let d = object_home w j e in
      let same = object_once (take f.variables (drop f.first_variable p.automatics)) 0 0 (v - f.first_variable) (w - f.first_variable) j c.1 d.1 in
      let one = c.0 in
      let other = d.0 in
      omega (arith, one, other, same)

  -- A variable of the function has a name or an object.
  pub object_if_no_scalar : (v : ℕ) (a : AutomaticTree) → f.first_variable ≤ v → v < f.first_variable + f.variables → slice_get p.automatics v ≡ Some a → scalar_of (names_of p f again) v ≡ None → (j : ℕ) × (object_of (names_of p f again) v ≡ Some j)
  object_if_no_scalar v a le lt is none =
      let i = v - f.first_variable in
      let place : f.first_variable + (v - f.first_variable) ≡ v = omega (arith, le) in
      let within : v - f.first_variable < f.variables = omega (arith, le, lt) in
      let found : slice_get (take f.variables (drop f.first_variable p.automatics)) i ≡ Some a = taken_is (drop f.first_variable p.automatics) f.variables i within ∙ sym (dropped_is p.automatics f.first_variable i) ∙ ap (slice_get p.automatics) place ∙ is in
      let h = home_there (take f.variables (drop f.first_variable p.automatics)) 0 0 i a found in
      let here : home_of (names_of p f again) v ≡ Some h.0 = ap (λ b. if b then slice_get (homes_of p.automatics f.first_variable f.variables) (v - f.first_variable) else None) (least f.first_variable v le) ∙ h.1 in
      by h.0 (ap scalar_in (sym here) ∙ none) (ap object_in here)
    where
      least : (m n : ℕ) → m ≤ n → nat_le m n ≡ true
      least m n le = grind (arith, nat_tests, le)

      by : (h : Home) → scalar_in (Some h) ≡ None → object_of (names_of p f again) v ≡ object_in (Some h) → (j : ℕ) × (object_of (names_of p f again) v ≡ Some j)
      by (home.Scalar k) nowhere e = cc
      by (home.Object k) nowhere e = (k, e)
