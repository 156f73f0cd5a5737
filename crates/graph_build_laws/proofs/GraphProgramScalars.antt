-- The scalars of a function's graph are named as its variables are.
use Rattle.std.proofs.Common.{◌≡◌, ℕ, zero, suc, ◌+◌, Bool, true, false, Option, Some, None, List, [], ◌∷◌, take, drop, map, slice_get, refl, sym, ap, ◌∙◌, subst, arith, if◌then◌else◌}
use Rattle.c_tree.specs.Programs.{AutomaticTree, TypedFunctionTree, ProgramTree}
use Rattle.c_places.specs.Places.{numbers_from}
use Rattle.graph_build_names.specs.declared.names.Home.{Home}
use Rattle.graph_build_names.specs.declared.names.Home.TheVariants as home
use Rattle.graph_build_names.specs.Names.{Names, homes_from, names_of, scalar_in, scalar_of}
use Rattle.graph_build.specs.Units.{add_if_some, scalars_among, variables_in}
use Rattle.graph_build_laws.proofs.Homes.{home_at}
use Rattle.base_laws.proofs.Options.{some_same}

module _ (p : ProgramTree) (f : TypedFunctionTree) (again : Bool) where
  abbrev n : Names
  n = names_of p f again

  -- homes from a variable on are these
  abbrev HomesAre : (i : ℕ) → List Home → Type 0
  HomesAre i hs = (m : ℕ) → slice_get n.homes (i + m) ≡ slice_get hs m

  -- the scalars among variables from one on
  abbrev rest_from : (i count : ℕ) → List ℕ
  rest_from i count = scalars_among n (numbers_from (f.first_variable + i + 1) count)

  moved : (i count : ℕ) → rest_from i count ≡ scalars_among n (numbers_from (f.first_variable + (i + 1)) count)
  moved i count = let next : f.first_variable + i + 1 ≡ f.first_variable + (i + 1) = omega arith in ap (λ v. scalars_among n (numbers_from v count)) next

  first_home : (i : ℕ) (hs : List Home) → HomesAre i hs → scalar_of n (f.first_variable + i) ≡ scalar_in (slice_get hs 0)
  first_home i hs same = let here : i ≡ i + 0 = omega arith in ap scalar_in (home_at p f again i ∙ ap (slice_get n.homes) here ∙ same 0)

  later_homes : (i : ℕ) (h : Home) (hs : List Home) → HomesAre i (h ∷ hs) → HomesAre (i + 1) hs
  later_homes i h hs same m = let e : i + 1 + m ≡ i + suc m = omega arith in ap (slice_get n.homes) e ∙ same (suc m)

  none_left : (i : ℕ) → HomesAre i [] → HomesAre (i + 1) []
  none_left i same m = let e : i + 1 + m ≡ i + suc m = omega arith in ap (slice_get n.homes) e ∙ same (suc m)

  -- the scalars among variables from one on have the names from one on
  among_named : (s o : ℕ) (rest : List AutomaticTree) (i count j x : ℕ) → HomesAre i (homes_from s o rest) → slice_get (scalars_among n (numbers_from (f.first_variable + i) count)) j ≡ Some x → scalar_of n x ≡ Some (s + j)
  among_named s o rest i zero j x same e = cc
  among_named s o [] i (suc count) j x same e = by (scalar_of n (f.first_variable + i)) (first_home i [] same) (λ e. among_named s o [] (i + 1) count j x (none_left i same) e) e
    where
      by : (h : Option ℕ) → h ≡ None → (slice_get (scalars_among n (numbers_from (f.first_variable + (i + 1)) count)) j ≡ Some x → scalar_of n x ≡ Some (s + j)) → slice_get (add_if_some h (f.first_variable + i) (rest_from i count)) j ≡ Some x → scalar_of n x ≡ Some (s + j)
      by None is later e = later (subst (λ l. slice_get l j ≡ Some x) (moved i count) e)
      by (Some y) is later e = cc
  among_named s o (a ∷ more) i (suc count) j x same e = by a.in_memory j same (λ s o j same e. among_named s o more (i + 1) count j x same e) e
    where
      here : (h : Option ℕ) (j : ℕ) → scalar_of n (f.first_variable + i) ≡ h → slice_get (add_if_some (scalar_of n (f.first_variable + i)) (f.first_variable + i) (rest_from i count)) j ≡ Some x
          → slice_get (add_if_some h (f.first_variable + i) (scalars_among n (numbers_from (f.first_variable + (i + 1)) count))) j ≡ Some x
      here h j is e = subst (λ l. slice_get (add_if_some h (f.first_variable + i) l) j ≡ Some x) (moved i count) (subst (λ z. slice_get (add_if_some z (f.first_variable + i) (rest_from i count)) j ≡ Some x) is e)

      by : (b : Bool) (j : ℕ) → HomesAre i (if b then home.Object o ∷ homes_from s (o + 1) more else home.Scalar s ∷ homes_from (s + 1) o more)
          → ((s o j : ℕ) → HomesAre (i + 1) (homes_from s o more) → slice_get (scalars_among n (numbers_from (f.first_variable + (i + 1)) count)) j ≡ Some x → scalar_of n x ≡ Some (s + j))
          → slice_get (add_if_some (scalar_of n (f.first_variable + i)) (f.first_variable + i) (rest_from i count)) j ≡ Some x → scalar_of n x ≡ Some (s + j)
      by true j same later e =
          let head = first_home i (home.Object o ∷ homes_from s (o + 1) more) same in later s (o + 1) j (later_homes i (home.Object o) (homes_from s (o + 1) more) same) (here None j head e)
      by false zero same later e =
          let head = first_home i (home.Scalar s ∷ homes_from (s + 1) o more) same in
          let it : f.first_variable + i ≡ x = some_same (here (Some s) 0 head e) in
          let none : s ≡ s + 0 = omega arith in
          ap (scalar_of n) (sym it) ∙ head ∙ ap (λ z. Some z) none
      by false (suc j) same later e =
          let head = first_home i (home.Scalar s ∷ homes_from (s + 1) o more) same in
          let one : s + 1 + j ≡ s + suc j = omega arith in
          later (s + 1) o j (later_homes i (home.Scalar s) (homes_from (s + 1) o more) same) (here (Some s) (suc j) head e) ∙ ap (λ z. Some z) one

  -- The scalar of a number is a variable of that name.
  pub scalar_at : (j x : ℕ) → slice_get (scalars_among n (variables_in f)) j ≡ Some x → scalar_of n x ≡ Some j
  scalar_at j x e =
      let all : List AutomaticTree = take f.variables (drop f.first_variable p.automatics) in
      let first : f.first_variable ≡ f.first_variable + 0 = omega arith in
      let none : 0 + j ≡ j = omega arith in
      among_named 0 0 all 0 f.variables j x (λ m. (let e : 0 + m ≡ m = omega arith in ap (slice_get n.homes) e)) (subst (λ v. slice_get (scalars_among n (numbers_from v f.variables)) j ≡ Some x) first e) ∙ ap (λ z. Some z) none

-- what stands in a list that was made of another
pub mapped_at : {A B : Type 0} (g : A → B) (xs : List A) (j : ℕ) (b : B) → slice_get (map g xs) j ≡ Some b → (a : A) × (slice_get xs j ≡ Some a) × (g a ≡ b)
mapped_at g [] j b e = cc
mapped_at g (x ∷ xs) zero b e = (x, refl, some_same e)
mapped_at g (x ∷ xs) (suc j) b e = mapped_at g xs j b e
