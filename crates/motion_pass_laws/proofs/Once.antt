-- What the rule does at a point is one, and each computation is done there once at most.
use Rattle.std.proofs.Common.{◌≡◌, ◌⊎◌, inl, inr, ℕ, zero, suc, ◌+◌, Bool, true, false, Option, Some, List, [], ◌∷◌, ◌++◌, refl, sym, ap, ◌∙◌, subst, arith}
use Rattle.std.specs.Prelude.{slice_get, if◌then◌else◌}
use Rattle.std.proofs.lemmas.Bool.{cases_Bool}
use Rattle.std.proofs.lemmas.Option.{none-some, same_Some}
use Rattle.graph_core.specs.Graphs.{Name, Instruction, Move, End, Block}
use Rattle.graph_core.specs.Computations.{Computation, Operating, Truncating, Comparing, computed_by}
use Rattle.motion_pass_points.specs.Computing.{does}
use Rattle.motion_pass_points.specs.Ways.{Point, within}
use Rattle.motion_pass_points.specs.MotionPointsComputing.{doing}
use Rattle.motion_pass_points.specs.Numbers.{AreOnce, none, again, first}
use Rattle.motion_pass_points.proofs.Keys.{it_does}
use Rattle.motion_pass_points.proofs.Numbering.{snoc_cases}
use Rattle.motion_pass_placement.specs.Moving.{AreRead, none_is, read_somewhere, read_nowhere, AreTreated, IsDoneAt, IsReadAt, AreDoneAt, no_computation, one_done, one_passed, Becomes, stays, reads, AreMoved, no_more, one_more, IsEnd, returns, jumps, branches}

-- ---- Computations with temporaries

-- No element of a list stands there twice.
abbrev pub AreApart : {A : Type 0} → List A → Type 0
AreApart {A} all = (j k : ℕ) (a : A) → slice_get all j ≡ Some a → slice_get all k ≡ Some a → j ≡ k

-- So it is with a list that has each once.
once_apart : {A : Type 0} {list once : List A} → AreOnce list once → AreApart once
once_apart none j k a p q = absurd (none-some a p)
once_apart (again m was at) j k a p q = once_apart was j k a p q
once_apart (first {list} {once} {a = b} was new) j k a p q = elim (snoc_cases once b j a p) [
  | inl old ↦ elim (snoc_cases once b k a q) [
    | inl other ↦ once_apart was j k a old other
    | inr last ↦ absurd (new j (old ∙ ap Some (sym last.1)))
  ]
  | inr last ↦ elim (snoc_cases once b k a q) [
    | inl other ↦ absurd (new k (other ∙ ap Some (sym last.1)))
    | inr same ↦ last.0 ∙ sym same.0
  ]
]

-- Of the rest of such a list no element stands there twice.
rest_apart : {A : Type 0} (a : A) (all : List A) → AreApart (a ∷ all) → AreApart all
rest_apart a all apart j k b p q = (let same = apart (suc j) (suc k) b p q in omega (arith, same))

-- What has a temporary is one of the computations.
read_from : {blocks : List Block} {all read : List Computation} → AreRead blocks all read → (k : ℕ) (e : Computation) → slice_get read k ≡ Some e → (m : ℕ) × (slice_get all m ≡ Some e)
read_from none_is k e at = absurd (none-some e at)
read_from (read_somewhere is more) zero e at = (0, at)
read_from (read_somewhere is more) (suc k) e at = (let m = read_from more k e at in (suc m.0, m.1))
read_from (read_nowhere not more) k e at = (let m = read_from more k e at in (suc m.0, m.1))

-- So none of those stands there twice either.
read_apart : {blocks : List Block} {all read : List Computation} → AreRead blocks all read → AreApart all → AreApart read
read_apart none_is apart j k e p q = absurd (none-some e p)
read_apart (read_somewhere is more) apart zero zero e p q = refl
read_apart (read_somewhere is more) apart zero (suc k) e p q = (let m = read_from more k e q in let same = apart 0 (suc m.0) e p m.1 in absurd (omega (arith, same)))
read_apart (read_somewhere is more) apart (suc j) zero e p q = (let m = read_from more j e p in let same = apart 0 (suc m.0) e q m.1 in absurd (omega (arith, same)))
read_apart (read_somewhere {e = d} {computations = all} is more) apart (suc j) (suc k) e p q = ap suc (read_apart more (rest_apart d all apart) j k e p q)
read_apart (read_nowhere {e = d} {computations = all} not more) apart j k e p q = read_apart more (rest_apart d all apart) j k e p q

-- NO COMPUTATION HAS TWO TEMPORARIES.
pub treated_apart : (blocks : List Block) (treated : List Computation) → AreTreated blocks treated → AreApart treated
treated_apart blocks treated are = read_apart are.read (once_apart are.once)

-- ---- How often instructions do a computation

abbrev pub count : Computation → List Instruction → ℕ
count e [] = 0
count e (i ∷ more) = (if does e i then 1 else 0) + count e more

pub count_does : (e : Computation) (i : Instruction) (more : List Instruction) → does e i ≡ true → count e (i ∷ more) ≡ 1 + count e more
count_does e i more it = ap (λ (b : Bool). (if b then 1 else 0) + count e more) it

pub count_other : (e : Computation) (i : Instruction) (more : List Instruction) → does e i ≡ false → count e (i ∷ more) ≡ count e more
count_other e i more not = (let none_here : count e (i ∷ more) ≡ 0 + count e more = ap (λ (b : Bool). (if b then 1 else 0) + count e more) not in omega (arith, none_here))

pub count_both : (e : Computation) (xs ys : List Instruction) → count e (xs ++ ys) ≡ count e xs + count e ys
count_both e [] ys = here
  where
    here : count e ys ≡ 0 + count e ys
    here = omega (arith)
count_both e (i ∷ xs) ys = (let rest = count_both e xs ys in omega (arith, rest))

-- A new instruction does its computation, and no other.
doing_computes : (x : ℕ) (e : Computation) → computed_by (doing x e) ≡ Some e
doing_computes x (Operating o a b) = refl
doing_computes x (Truncating t a) = refl
doing_computes x (Comparing a b) = refl

doing_other : (x : ℕ) (d e : Computation) → does e (doing x d) ≡ true → d ≡ e
doing_other x d e it = same_Some d e (sym (doing_computes x d) ∙ it_does e (doing x d) it)

module _ (blocks : List Block) where
  -- AT A POINT A COMPUTATION IS DONE INTO ITS TEMPORARY ONCE AT MOST, and only where the rule inserts it.
  pub done_once : (e : Computation) (p : Point) (name : ℕ) (all : List Computation) (done : List Instruction) → AreApart all → AreDoneAt blocks p name all done
      → (count e done ≡ 0) ⊎ ((count e done ≡ 1) × (IsDoneAt blocks e p × ((k : ℕ) × (slice_get all k ≡ Some e))))
  done_once e p name _ _ apart no_computation = inl refl
  done_once e p name _ _ apart (one_passed {e = d} {more = more} {rest = rest} not are) = elim (done_once e p (suc name) more rest (rest_apart d more apart) are) [
    | inl nothing ↦ inl nothing
    | inr it ↦ inr (it.0, (it.1.0, (suc it.1.1.0, it.1.1.1)))
  ]
  done_once e p name _ _ apart (one_done {e = d} {more = more} {rest = rest} is are) = elim (cases_Bool (does e (doing name d))) [
    | inl it ↦
        let same = doing_other name d e it in
        elim (done_once e p (suc name) more rest (rest_apart d more apart) are) [
          | inl nothing ↦ (let one = count_does e (doing name d) rest it in inr (omega (arith, one, nothing), (subst (λ c. IsDoneAt blocks c p) same is, (0, ap Some same))))
          | inr twice ↦ (let numbers = apart 0 (suc twice.1.1.0) e (ap Some same) twice.1.1.1 in absurd (omega (arith, numbers)))
        ]
    | inr other ↦
        let fewer = count_other e (doing name d) rest other in
        elim (done_once e p (suc name) more rest (rest_apart d more apart) are) [
          | inl nothing ↦ inl (fewer ∙ nothing)
          | inr once ↦ inr (fewer ∙ once.0, (once.1.0, (suc once.1.1.0, once.1.1.1)))
        ]
  ]

  -- ---- What is made is determined

  pub same_done : {p : Point} {name : ℕ} {all : List Computation} {done other : List Instruction} → AreDoneAt blocks p name all done → AreDoneAt blocks p name all other → done ≡ other
  same_done no_computation no_computation = refl
  same_done (one_done {name} {e = e} is are) (one_done it more) = ap (λ rest. doing name e ∷ rest) (same_done are more)
  same_done (one_done is are) (one_passed not more) = absurd (not is)
  same_done (one_passed not are) (one_done is more) = absurd (not is)
  same_done (one_passed not are) (one_passed never more) = same_done are more

  module _ (name : ℕ) (treated : List Computation) (apart : AreApart treated) where
    pub same_becomes : (p : Point) (i j l : Instruction) → ((e : Computation) → IsReadAt blocks e p → computed_by i ≡ Some e) → Becomes blocks name treated p i j → Becomes blocks name treated p i l → j ≡ l
    same_becomes p i _ _ computes (stays not) (stays never) = refl
    same_becomes p i _ _ computes (stays not) (reads e k x read at target) = absurd (not e read)
    same_becomes p i _ _ computes (reads e k x read at target) (stays not) = absurd (not e read)
    same_becomes p i _ _ computes (reads e k x read at target) (reads d m y other there written) =
        let one : d ≡ e = same_Some d e (sym (computes d other) ∙ computes e read) in
        let number : k ≡ m = apart k m e at (there ∙ ap Some one) in
        let named : x ≡ y = same_Some x y (sym target ∙ written) in
        (λ i. Move (named i) (Name (name + number i)))

    pub same_moved : (n : ℕ) (end : End) (before : List Instruction) {after other : List Instruction} → AreMoved blocks name treated n end before after → AreMoved blocks name treated n end before other → after ≡ other
    same_moved n end [] no_more no_more = refl
    same_moved n end (i ∷ rest) (one_more {j = j} {moved = moved} are becomes more) (one_more {j = l} {done = others} {moved = left} same is later) =
        let first_one = same_done are same in
        let second = same_becomes (within n (i ∷ rest) end) i j l (λ e read. it_does e i read.1.0) becomes is in
        let third = same_moved n end rest more later in
        (λ k. first_one k ++ second k ∷ third k)

    pub same_end : {n next at : ℕ} {place here : Option ℕ} {end last final : End} {done other : List Instruction} {own more : List Block} → IsEnd blocks name treated n place next end done last own → IsEnd blocks name treated n here at end other final more → done ≡ other
    same_end returns returns = refl
    same_end (jumps are) (jumps same) = same_done are same
    same_end (branches one two) (branches first_one second) = refl
