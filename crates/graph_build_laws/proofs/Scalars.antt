-- The scalars that lvalues name are those of the function's variables.
use Rattle.std.proofs.Common.{◌≡◌, ℕ, zero, suc, ◌+◌, ◌-◌, ◌≤◌, ◌<◌, Bool, true, false, Option, Some, None, List, [], ◌∷◌, length, take, drop, slice_get, refl, sym, ap, ◌∙◌, subst, arith, if◌then◌else◌}
use Rattle.std.specs.Prelude.{nat_le}
use Rattle.std.proofs.lemmas.Bool.Decides.{nat_tests}
use Rattle.c_tree.specs.declared.object_type.Object.TheVariants as object
use Rattle.c_tree.specs.TypedExpressions.{LvalueTree, Named, Target, Element, ElementFrom}
use Rattle.c_tree.specs.Programs.{AutomaticTree, TypedFunctionTree, ProgramTree}
use Rattle.c_places.specs.Places.{numbers_from}
use Rattle.graph_build_names.specs.declared.names.Home.{Home}
use Rattle.graph_build_names.specs.declared.names.Home.TheVariants as home
use Rattle.graph_build_names.specs.Names.{Names, homes_from, names_of, scalar_in, object_in, home_of, scalar_of, scalar_named}
use Rattle.graph_build.specs.Units.{scalars_among, add_if_some, variables_in}
use Rattle.graph_build_laws.proofs.Written.{NamesFew}
use Rattle.base_laws.proofs.Options.{none_is, some_same as some_is}

-- how many homes are scalars
abbrev one_scalar : Home → ℕ
one_scalar (home.Scalar x) = 1
one_scalar (home.Object o) = 0

abbrev scalar_homes : List Home → ℕ
scalar_homes [] = 0
scalar_homes (h ∷ more) = one_scalar h + scalar_homes more

-- homes are numbered in order
numbered : (s o : ℕ) (all : List AutomaticTree) (k x : ℕ) → scalar_in (slice_get (homes_from s o all) k) ≡ Some x → x < s + scalar_homes (homes_from s o all)
numbered s o [] k x e = absurd (none_is e)
numbered s o (a ∷ more) k x e = go a.in_memory k (λ s o k. numbered s o more k x) e
  where
    go : (b : Bool) (k : ℕ) → ((s o k : ℕ) → scalar_in (slice_get (homes_from s o more) k) ≡ Some x → x < s + scalar_homes (homes_from s o more)) →
        scalar_in (slice_get (if b then home.Object o ∷ homes_from s (o + 1) more else home.Scalar s ∷ homes_from (s + 1) o more) k) ≡ Some x →
        x < s + scalar_homes (if b then home.Object o ∷ homes_from s (o + 1) more else home.Scalar s ∷ homes_from (s + 1) o more)
    go true zero later e = absurd (none_is e)
    go true (suc k) later e = omega (arith, later s (o + 1) k e)
    go false zero later e = omega (arith, some_is e)
    go false (suc k) later e = omega (arith, later (s + 1) o k e)

homes_length : (s o : ℕ) (all : List AutomaticTree) → length (homes_from s o all) ≡ length all
homes_length s o [] = refl
homes_length s o (a ∷ more) = go a.in_memory (homes_length s (o + 1) more) (homes_length (s + 1) o more)
  where
    go : (b : Bool) → length (homes_from s (o + 1) more) ≡ length more → length (homes_from (s + 1) o more) ≡ length more → length (if b then home.Object o ∷ homes_from s (o + 1) more else home.Scalar s ∷ homes_from (s + 1) o more) ≡ suc (length more)
    go true h k = ap suc h
    go false h k = ap suc k

take_most : {A : Type 0} (n : ℕ) (xs : List A) → length (take n xs) ≤ n
take_most zero xs = omega arith
take_most (suc n) [] = omega arith
take_most (suc n) (x ∷ xs) = omega (arith, take_most n xs)

module _ (n : Names) where
  added : (o : Option ℕ) (x : ℕ) (more : List ℕ) (h : Home) → o ≡ scalar_in (Some h) → one_scalar h + length more ≤ length (add_if_some o x more)
  added (Some y) x more (home.Scalar z) e = omega arith
  added None x more (home.Scalar z) e = absurd (none_is e)
  added o x more (home.Object z) e = go o
    where
      go : (o : Option ℕ) → 0 + length more ≤ length (add_if_some o x more)
      go None = omega arith
      go (Some y) = omega arith

  -- the home of the variable behind so many
  home_behind : (j : ℕ) → home_of n (n.first + j) ≡ slice_get n.homes j
  home_behind j = go (nat_le n.first (n.first + j)) (grind (arith, nat_tests))
    where
      same : n.first + j - n.first ≡ j
      same = omega arith

      go : (b : Bool) → b ≡ true → (if b then slice_get n.homes (n.first + j - n.first) else None) ≡ slice_get n.homes j
      go true e = ap (slice_get n.homes) same
      go false e = cc

  -- each home of a scalar is a variable that is one
  counted_among : (hs : List Home) (j count : ℕ) → length hs ≤ count → ((i : ℕ) → slice_get n.homes (j + i) ≡ slice_get hs i) → scalar_homes hs ≤ length (scalars_among n (numbers_from (n.first + j) count))
  counted_among [] j count le same = omega arith
  counted_among (h ∷ hs) j zero le same = absurd (omega (arith, le))
  counted_among (h ∷ hs) j (suc count) le same =
      let next : n.first + j + 1 ≡ n.first + (j + 1) = omega arith in
      let here : scalar_of n (n.first + j) ≡ scalar_in (Some h) = ap scalar_in (home_behind j ∙ subst (λ k. slice_get n.homes k ≡ slice_get (h ∷ hs) 0) at (same 0)) in
      let later = counted_among hs (j + 1) count (omega (arith, le)) (λ i. subst (λ k. slice_get n.homes k ≡ slice_get hs i) (one i) (same (suc i))) in
      let rest = subst (λ k. scalar_homes hs ≤ length (scalars_among n (numbers_from k count))) (sym next) later in
      omega (arith, added (scalar_of n (n.first + j)) (n.first + j) (scalars_among n (numbers_from (n.first + j + 1) count)) h here, rest)
    where
      at : j + 0 ≡ j
      at = omega arith

      one : (i : ℕ) → j + suc i ≡ j + 1 + i
      one i = omega arith

-- The scalars that lvalues name in the code of a function are fewer than it has.
pub names_few : (p : ProgramTree) (f : TypedFunctionTree) (again : Bool) → NamesFew (names_of p f again) (length (scalars_among (names_of p f again) (variables_in f)))
names_few p f again l x e = of_place l e
  where
    n : Names
    n = names_of p f again

    stretch : List AutomaticTree
    stretch = take f.variables (drop f.first_variable p.automatics)

    whole : scalar_homes n.homes ≤ length (scalars_among n (numbers_from (n.first + 0) f.variables))
    whole = counted_among n n.homes 0 f.variables (omega (arith, homes_length 0 0 stretch, take_most f.variables (drop f.first_variable p.automatics))) (λ i. ap (slice_get n.homes) (none_more i))
      where
        none_more : (i : ℕ) → 0 + i ≡ i
        none_more i = omega arith

    first_is : n.first + 0 ≡ n.first
    first_is = omega arith

    all_of : scalar_homes n.homes ≤ length (scalars_among n (numbers_from f.first_variable f.variables))
    all_of = subst (λ k. scalar_homes n.homes ≤ length (scalars_among n (numbers_from k f.variables))) first_is whole

    of_home : (b : Bool) (k : ℕ) → scalar_in (if b then slice_get n.homes k else None) ≡ Some x → x < length (scalars_among n (numbers_from f.first_variable f.variables))
    of_home true k e = omega (arith, numbered 0 0 stretch k x e, all_of)
    of_home false k e = absurd (none_is e)

    of_place : (l : LvalueTree) → scalar_named n l ≡ Some x → x < length (scalars_among n (numbers_from f.first_variable f.variables))
    of_place (Named (object.Automatic v) of) e = of_home (nat_le n.first v) (v - n.first) e
    of_place (Named (object.Static v) of) e = absurd (none_is e)
    of_place (Named (object.Literal v) of) e = absurd (none_is e)
    of_place (Target of a) e = absurd (none_is e)
    of_place (Element of a b) e = absurd (none_is e)
    of_place (ElementFrom of a b) e = absurd (none_is e)
