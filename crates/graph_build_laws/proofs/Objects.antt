-- The objects of a function's graph are those of its variables in memory, in their order.
use Rattle.std.proofs.Common.{◌≡◌, ℕ, zero, suc, ◌+◌, ◌-◌, ◌<◌, ◌≤◌, Bool, true, false, Option, Some, None, List, [], ◌∷◌, take, drop, slice_get, refl, sym, ap, ◌∙◌, subst, arith, if◌then◌else◌}
use Rattle.std.specs.Prelude.{nat_le}
use Rattle.c_tree.specs.Programs.{AutomaticTree, TypedFunctionTree, ProgramTree}
use Rattle.c_places.specs.Places.{numbers_from}
use Rattle.graph_build_names.specs.declared.names.Home.{Home}
use Rattle.graph_build_names.specs.declared.names.Home.TheVariants as home
use Rattle.graph_build_names.specs.Names.{Names, homes_from, names_of, object_in, object_of}
use Rattle.graph_build.specs.Units.{add_if_some, kept_among, variables_in}
use Rattle.graph_build_laws.proofs.Homes.{home_at}
use Rattle.base_laws.proofs.Numbers.{at_most}
use Rattle.base_laws.proofs.Options.{some_same}

-- an object's number is from a first one on, and its variable is one of so many
homes_object : (s o : ℕ) (all : List AutomaticTree) (k x : ℕ) → object_in (slice_get (homes_from s o all) k) ≡ Some x → o ≤ x
homes_object s o [] k x e = cc
homes_object s o (a ∷ more) k x e = by a.in_memory k (λ s o k. homes_object s o more k x) e
  where
    by : (b : Bool) (k : ℕ) → ((s o k : ℕ) → object_in (slice_get (homes_from s o more) k) ≡ Some x → o ≤ x)
        → object_in (slice_get (if b then home.Object o ∷ homes_from s (o + 1) more else home.Scalar s ∷ homes_from (s + 1) o more) k) ≡ Some x → o ≤ x
    by true zero later e = omega (arith, some_same e)
    by true (suc k) later e = omega (arith, later s (o + 1) k e)
    by false zero later e = cc
    by false (suc k) later e = later (s + 1) o k e

homes_within : (s o count : ℕ) (all : List AutomaticTree) (k x : ℕ) → object_in (slice_get (homes_from s o (take count all)) k) ≡ Some x → k < count
homes_within s o zero all k x e = cc
homes_within s o (suc count) [] k x e = cc
homes_within s o (suc count) (a ∷ more) k x e = by a.in_memory k (λ s o k. homes_within s o count more k x) e
  where
    by : (b : Bool) (k : ℕ) → ((s o k : ℕ) → object_in (slice_get (homes_from s o (take count more)) k) ≡ Some x → k < count)
        → object_in (slice_get (if b then home.Object o ∷ homes_from s (o + 1) (take count more) else home.Scalar s ∷ homes_from (s + 1) o (take count more)) k) ≡ Some x → k < suc count
    by true zero later e = omega arith
    by true (suc k) later e = omega (arith, later s (o + 1) k e)
    by false zero later e = omega arith
    by false (suc k) later e = omega (arith, later (s + 1) o k e)

module _ (p : ProgramTree) (f : TypedFunctionTree) (again : Bool) where
  abbrev n : Names
  n = names_of p f again

  -- homes from a variable on are these
  abbrev HomesAre : (i : ℕ) → List Home → Type 0
  HomesAre i hs = (m : ℕ) → slice_get n.homes (i + m) ≡ slice_get hs m

  -- the variables in memory from one on
  abbrev rest_from : (i count : ℕ) → List ℕ
  rest_from i count = kept_among n (numbers_from (f.first_variable + i + 1) count)

  moved : (i count : ℕ) → rest_from i count ≡ kept_among n (numbers_from (f.first_variable + (i + 1)) count)
  moved i count = let next : f.first_variable + i + 1 ≡ f.first_variable + (i + 1) = omega arith in ap (λ v. kept_among n (numbers_from v count)) next

  first_home : (i : ℕ) (hs : List Home) → HomesAre i hs → object_of n (f.first_variable + i) ≡ object_in (slice_get hs 0)
  first_home i hs same = let here : i ≡ i + 0 = omega arith in ap object_in (home_at p f again i ∙ ap (slice_get n.homes) here ∙ same 0)

  later_homes : (i : ℕ) (h : Home) (hs : List Home) → HomesAre i (h ∷ hs) → HomesAre (i + 1) hs
  later_homes i h hs same m = let e : i + 1 + m ≡ i + suc m = omega arith in ap (slice_get n.homes) e ∙ same (suc m)

  none_left : (i : ℕ) → HomesAre i [] → HomesAre (i + 1) []
  none_left i same m = let e : i + 1 + m ≡ i + suc m = omega arith in ap (slice_get n.homes) e ∙ same (suc m)

  -- the variables in memory from one on have the objects from one on
  among_kept : (s o : ℕ) (rest : List AutomaticTree) (i count j x : ℕ) → HomesAre i (homes_from s o rest) → slice_get (kept_among n (numbers_from (f.first_variable + i) count)) j ≡ Some x → object_of n x ≡ Some (o + j)
  among_kept s o rest i zero j x same e = cc
  among_kept s o [] i (suc count) j x same e = by (object_of n (f.first_variable + i)) (first_home i [] same) (λ e. among_kept s o [] (i + 1) count j x (none_left i same) e) e
    where
      by : (h : Option ℕ) → h ≡ None → (slice_get (kept_among n (numbers_from (f.first_variable + (i + 1)) count)) j ≡ Some x → object_of n x ≡ Some (o + j)) → slice_get (add_if_some h (f.first_variable + i) (rest_from i count)) j ≡ Some x → object_of n x ≡ Some (o + j)
      by None is later e = later (subst (λ l. slice_get l j ≡ Some x) (moved i count) e)
      by (Some y) is later e = cc
  among_kept s o (a ∷ more) i (suc count) j x same e = by a.in_memory j same (λ s o j same e. among_kept s o more (i + 1) count j x same e) e
    where
      here : (h : Option ℕ) (j : ℕ) → object_of n (f.first_variable + i) ≡ h → slice_get (add_if_some (object_of n (f.first_variable + i)) (f.first_variable + i) (rest_from i count)) j ≡ Some x
          → slice_get (add_if_some h (f.first_variable + i) (kept_among n (numbers_from (f.first_variable + (i + 1)) count))) j ≡ Some x
      here h j is e = subst (λ l. slice_get (add_if_some h (f.first_variable + i) l) j ≡ Some x) (moved i count) (subst (λ z. slice_get (add_if_some z (f.first_variable + i) (rest_from i count)) j ≡ Some x) is e)

      by : (b : Bool) (j : ℕ) → HomesAre i (if b then home.Object o ∷ homes_from s (o + 1) more else home.Scalar s ∷ homes_from (s + 1) o more)
          → ((s o j : ℕ) → HomesAre (i + 1) (homes_from s o more) → slice_get (kept_among n (numbers_from (f.first_variable + (i + 1)) count)) j ≡ Some x → object_of n x ≡ Some (o + j))
          → slice_get (add_if_some (object_of n (f.first_variable + i)) (f.first_variable + i) (rest_from i count)) j ≡ Some x → object_of n x ≡ Some (o + j)
      by false j same later e =
          let head = first_home i (home.Scalar s ∷ homes_from (s + 1) o more) same in later (s + 1) o j (later_homes i (home.Scalar s) (homes_from (s + 1) o more) same) (here None j head e)
      by true zero same later e =
          let head = first_home i (home.Object o ∷ homes_from s (o + 1) more) same in
          let it : f.first_variable + i ≡ x = some_same (here (Some o) 0 head e) in
          let none : o ≡ o + 0 = omega arith in
          ap (object_of n) (sym it) ∙ head ∙ ap (λ z. Some z) none
      by true (suc j) same later e =
          let head = first_home i (home.Object o ∷ homes_from s (o + 1) more) same in
          let one : o + 1 + j ≡ o + suc j = omega arith in
          later s (o + 1) j (later_homes i (home.Object o) (homes_from s (o + 1) more) same) (here (Some o) (suc j) head e) ∙ ap (λ z. Some z) one

  -- and the other way round
  kept_there : (s o : ℕ) (rest : List AutomaticTree) (i count j m : ℕ) → HomesAre i (homes_from s o rest) → m < count → object_in (slice_get (homes_from s o rest) m) ≡ Some (o + j) → slice_get (kept_among n (numbers_from (f.first_variable + i) count)) j ≡ Some (f.first_variable + i + m)
  kept_there s o rest i zero j m same lt e = absurd (omega (arith, lt))
  kept_there s o [] i (suc count) j m same lt e = cc
  kept_there s o (a ∷ more) i (suc count) j m same lt e = by a.in_memory m j lt same (λ s o j m same lt e. kept_there s o more (i + 1) count j m same lt e) e
    where
      here : (h : Option ℕ) (j v : ℕ) → object_of n (f.first_variable + i) ≡ h → slice_get (add_if_some h (f.first_variable + i) (kept_among n (numbers_from (f.first_variable + (i + 1)) count))) j ≡ Some v
          → slice_get (add_if_some (object_of n (f.first_variable + i)) (f.first_variable + i) (rest_from i count)) j ≡ Some v
      here h j v is e = subst (λ z. slice_get (add_if_some z (f.first_variable + i) (rest_from i count)) j ≡ Some v) (sym is) (subst (λ l. slice_get (add_if_some h (f.first_variable + i) l) j ≡ Some v) (sym (moved i count)) e)

      by : (b : Bool) (m j : ℕ) → m < suc count → HomesAre i (if b then home.Object o ∷ homes_from s (o + 1) more else home.Scalar s ∷ homes_from (s + 1) o more)
          → ((s o j m : ℕ) → HomesAre (i + 1) (homes_from s o more) → m < count → object_in (slice_get (homes_from s o more) m) ≡ Some (o + j) → slice_get (kept_among n (numbers_from (f.first_variable + (i + 1)) count)) j ≡ Some (f.first_variable + (i + 1) + m))
          → object_in (slice_get (if b then home.Object o ∷ homes_from s (o + 1) more else home.Scalar s ∷ homes_from (s + 1) o more) m) ≡ Some (o + j)
          → slice_get (add_if_some (object_of n (f.first_variable + i)) (f.first_variable + i) (rest_from i count)) j ≡ Some (f.first_variable + i + m)
      by false zero j lt same later e = cc
      by false (suc m) j lt same later e =
          let at : f.first_variable + (i + 1) + m ≡ f.first_variable + i + suc m = omega arith in
          here None j (f.first_variable + i + suc m) (first_home i (home.Scalar s ∷ homes_from (s + 1) o more) same) (later (s + 1) o j m (later_homes i (home.Scalar s) (homes_from (s + 1) o more) same) (omega (arith, lt)) e ∙ ap (λ z. Some z) at)
      by true zero zero lt same later e =
          let at : f.first_variable + i ≡ f.first_variable + i + 0 = omega arith in here (Some o) 0 (f.first_variable + i + 0) (first_home i (home.Object o ∷ homes_from s (o + 1) more) same) (ap (λ z. Some z) at)
      by true zero (suc j) lt same later e = let no : o ≡ o + suc j = some_same e in absurd (omega (arith, no))
      by true (suc m) zero lt same later e = let no = homes_object s (o + 1) more m (o + 0) e in absurd (omega (arith, no))
      by true (suc m) (suc j) lt same later e =
          let one : o + suc j ≡ o + 1 + j = omega arith in
          let at : f.first_variable + (i + 1) + m ≡ f.first_variable + i + suc m = omega arith in
          here (Some o) (suc j) (f.first_variable + i + suc m) (first_home i (home.Object o ∷ homes_from s (o + 1) more) same)
          (later s (o + 1) j m (later_homes i (home.Object o) (homes_from s (o + 1) more) same) (omega (arith, lt)) (e ∙ ap (λ z. Some z) one) ∙ ap (λ z. Some z) at)

  abbrev stretch : List AutomaticTree
  stretch = take f.variables (drop f.first_variable p.automatics)

  all_homes : HomesAre 0 (homes_from 0 0 stretch)
  all_homes m = let e : 0 + m ≡ m = omega arith in ap (slice_get n.homes) e

  -- The object of a number is a variable of that number in memory,
  pub object_at : (j x : ℕ) → slice_get (kept_among n (variables_in f)) j ≡ Some x → object_of n x ≡ Some j
  object_at j x e =
      let first : f.first_variable ≡ f.first_variable + 0 = omega arith in
      let none : 0 + j ≡ j = omega arith in
      among_kept 0 0 stretch 0 f.variables j x all_homes (subst (λ v. slice_get (kept_among n (numbers_from v f.variables)) j ≡ Some x) first e) ∙ ap (λ z. Some z) none

  -- and the other way round.
  pub kept_at : (v j : ℕ) → object_of n v ≡ Some j → slice_get (kept_among n (variables_in f)) j ≡ Some v
  kept_at v j e = by (nat_le f.first_variable v) refl e
    where
      by : (b : Bool) → nat_le f.first_variable v ≡ b → object_in (if b then slice_get n.homes (v - f.first_variable) else None) ≡ Some j → slice_get (kept_among n (variables_in f)) j ≡ Some v
      by true h e =
          let le = at_most f.first_variable v h in
          let m = v - f.first_variable in
          let none : j ≡ 0 + j = omega arith in
          let at : f.first_variable + 0 + m ≡ v = omega (arith, le) in
          let first : f.first_variable + 0 ≡ f.first_variable = omega arith in
          subst (λ w. slice_get (kept_among n (numbers_from w f.variables)) j ≡ Some v) first
          (kept_there 0 0 stretch 0 f.variables j m all_homes (homes_within 0 0 f.variables (drop f.first_variable p.automatics) m j e) (e ∙ ap (λ z. Some z) none) ∙ ap (λ z. Some z) at)
      by false h e = cc
