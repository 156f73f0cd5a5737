-- The changes of all functions' scalars are those of the scalars that share their registers.
use Rattle.std.proofs.Common.{◌≡◌, ℕ, zero, suc, ◌+◌, ◌<◌, ◌⊎◌, inl, inr, Some, List, [], ◌∷◌, ◌++◌, length, map, get_or, refl, sym, ap, ◌∙◌, subst, arith, add-zero}
use Rattle.std.specs.Prelude.{slice_get, AllPairs}
use Rattle.std.proofs.lemmas.List.{map-append}
use Rattle.std.proofs.lemmas.List.Kept.{AllPairs-cons}
use Rattle.std.proofs.lemmas.Option.{same_Some, slice_get_within}
use Rattle.debug_records.specs.declared.change.PassName.{PassName}
use Rattle.graph_homes.specs.declared.home.Home.{Home}
use Rattle.graph_homes.specs.Reused.{IsReused}
use Rattle.graph_core.specs.Graphs.{Graph, Logged, Scalar}
use Rattle.graph_core.specs.Paths.{Among, front, behind}
use Rattle.home_assign.specs.Sharing.{AreShared, none, shared, own, change_of, home_in}
use Rattle.home_assign.specs.Changes.{IsBefore, Sharing}
use Rattle.home_assign.specs.Units.{AreChangesOfEach, no_more, of_first}
use Rattle.graph_core.proofs.Among.{among_cases, among_left, among_right}

-- ---- One list behind another

among_at : {A : Type 0} (xs : List A) (k : ℕ) (d : A) → k < length xs → Among (get_or xs k d) xs
among_at [] k d lt = absurd (omega (arith, lt))
among_at (x ∷ xs) zero d lt = front
among_at (x ∷ xs) (suc k) d lt = behind (among_at xs k d (omega (arith, lt)))

-- each comes before those behind it
abbrev pub Ordered : List Sharing → Type 0
Ordered [] = Unit {0}
Ordered (s ∷ more) = ((t : Sharing) → Among t more → IsBefore s t) × Ordered more

pub ordered_pairs : (all : List Sharing) → Ordered all → AllPairs IsBefore all
ordered_pairs [] o = λ i j d less lt. absurd (omega (arith, lt))
ordered_pairs (s ∷ more) o = AllPairs-cons IsBefore s more (λ k d lt. o.0 (get_or more k d) (among_at more k d lt)) (ordered_pairs more o.1)

ordered_append : (xs ys : List Sharing) → Ordered xs → Ordered ys → ((s t : Sharing) → Among s xs → Among t ys → IsBefore s t) → Ordered (xs ++ ys)
ordered_append [] ys a b h = b
ordered_append (x ∷ xs) ys a b h = (
  (λ t is. elim (among_cases t xs ys is) [ inl l ↦ a.0 t l | inr r ↦ h x t front r ]),
  ordered_append xs ys a.1 b (λ s t l r. h s t (behind l) r),
)

module _ (made : List Logged) (pass : PassName) where
  abbrev change : Sharing → Logged
  change s = change_of pass s.scalar

  -- ---- The scalars of a function

  module _ (f : ℕ) (g : Graph) (home : ℕ → Home) where
    -- a scalar of these, the first of which has a number, shares its register
    record Is (x : ℕ) (ss : List Scalar) (s : Sharing) : Type 0 where
      at : ℕ
      function : s.function ≡ f
      number : s.number ≡ x + at
      of : slice_get ss at ≡ Some s.scalar
      reused : IsReused made home g s.number s.scalar.variable

    record Told (x : ℕ) (ss : List Scalar) (all : List Logged) : Type 0 where
      sharings : List Sharing
      ordered : Ordered sharings
      only : (s : Sharing) → Among s sharings → Is x ss s
      each : (s : Sharing) → Is x ss s → Among s sharings
      changes : all ≡ map change sharings

    later : (x : ℕ) (s : Scalar) (ss : List Scalar) (t : Sharing) → Is (x + 1) ss t → Is x (s ∷ ss) t
    later x s ss t is = record { at = suc is.at; function = is.function; number = omega (arith, is.number); of = is.of; reused = is.reused }

    sooner : (x : ℕ) (s : Scalar) (ss : List Scalar) (t : Sharing) (k : ℕ) → Is x (s ∷ ss) t → t.number ≡ x + suc k → slice_get ss k ≡ Some t.scalar → Is (x + 1) ss t
    sooner x s ss t k is number of = record { at = k; function = is.function; number = omega (arith, number); of = of; reused = is.reused }

    -- one that is told is the first, or one of the others
    which : (x : ℕ) (s : Scalar) (ss : List Scalar) (t : Sharing) (k : ℕ) → t.number ≡ x + k → slice_get (s ∷ ss) k ≡ Some t.scalar → Is x (s ∷ ss) t → ((t.number ≡ x) × (s ≡ t.scalar)) ⊎ Is (x + 1) ss t
    which x s ss t zero number of is = inl (omega (arith, number), same_Some s t.scalar of)
    which x s ss t (suc k) number of is = inr (sooner x s ss t k is number of)

    first_is : (x : ℕ) (s : Scalar) (t : Sharing) (all : List Sharing) → t.function ≡ f → t.number ≡ x → s ≡ t.scalar → Among t (record { function = f; number = x; scalar = s } ∷ all)
    first_is x s t all e n same =
        let P : ℕ → ℕ → Scalar → Type 0 = λ a b c. Among (record { function = a; number = b; scalar = c }) (record { function = f; number = x; scalar = s } ∷ all) in
        subst (λ a. P a t.number t.scalar) (sym e) (subst (λ b. P f b t.scalar) (sym n) (subst (λ c. P f x c) same front))

    told : (x : ℕ) (ss : List Scalar) (all : List Logged) → AreShared made home g pass x ss all → Told x ss all
    told x [] all none = record { sharings = []; ordered = tt; only = λ s is. elim is [ ]; each = λ s is. absurd (omega (arith, slice_get_within [] is.at s.scalar is.of)); changes = refl }
    told x (s ∷ ss) all (shared {all = rest} is more) =
        let others = told (x + 1) ss rest more in
        let first : Sharing = record { function = f; number = x; scalar = s } in
        record {
          sharings = first ∷ others.sharings;
          ordered = ((λ t among. let one = others.only t among in inr (sym one.function, omega (arith, one.number))), others.ordered);
          only = λ t among. only_first t others.sharings (λ u there. later x s ss u (others.only u there)) among;
          each = λ t one. elim (which x s ss t one.at one.number one.of one) [
            | inl here ↦ first_is x s t others.sharings one.function here.0 here.1
            | inr there ↦ behind (others.each t there)
          ];
          changes = ap (λ cs. change_of pass s ∷ cs) others.changes;
        }
      where
        first_told : Is x (s ∷ ss) (record { function = f; number = x; scalar = s })
        first_told = record { at = 0; function = refl; number = sym (add-zero x); of = refl; reused = is }

        only_first : (t : Sharing) (all : List Sharing) → ((u : Sharing) → Among u all → Is x (s ∷ ss) u) → Among t (record { function = f; number = x; scalar = s } ∷ all) → Is x (s ∷ ss) t
        only_first t all h front = first_told
        only_first t all h (behind there) = h t there
    told x (s ∷ ss) all (own never more) =
        let others = told (x + 1) ss all more in
        record {
          sharings = others.sharings;
          ordered = others.ordered;
          only = λ t among. later x s ss t (others.only t among);
          each = λ t one. elim (which x s ss t one.at one.number one.of one) [
            | inl here ↦
                let P : ℕ → Scalar → Type 0 = λ n c. IsReused made home g n c.variable in
                absurd (never (subst (λ c. P x c) (sym here.1) (subst (λ n. P n t.scalar) here.0 one.reused)))
            | inr there ↦ others.each t there
          ];
          changes = others.changes;
        }

  -- ---- All functions

  -- a scalar of these functions, the first of which has a number, shares its register
  pub record IsOf (f : ℕ) (graphs : List Graph) (homes : List (List Home)) (s : Sharing) : Type 0 where
    pub at : ℕ
    pub graph : Graph
    pub own_homes : List Home
    pub function : s.function ≡ f + at
    pub there : slice_get graphs at ≡ Some graph
    pub kept : slice_get homes at ≡ Some own_homes
    pub of : slice_get graph.scalars s.number ≡ Some s.scalar
    pub reused : IsReused made (home_in own_homes) graph s.number s.scalar.variable

  pub record AreTold (f : ℕ) (graphs : List Graph) (homes : List (List Home)) (all : List Logged) : Type 0 where
    pub sharings : List Sharing
    pub ordered : Ordered sharings
    pub only : (s : Sharing) → Among s sharings → IsOf f graphs homes s
    pub each : (s : Sharing) → IsOf f graphs homes s → Among s sharings
    pub changes : all ≡ map change sharings

  module _ (f : ℕ) (g : Graph) (graphs : List Graph) (homes : List Home) (more : List (List Home)) where
    here_of : (s : Sharing) → Is f g (home_in homes) 0 g.scalars s → IsOf f (g ∷ graphs) (homes ∷ more) s
    here_of s is =
        let same : is.at ≡ s.number = omega (arith, is.number) in
        record { at = 0; graph = g; own_homes = homes; function = omega (arith, is.function); there = refl; kept = refl; of = ap (slice_get g.scalars) (sym same) ∙ is.of; reused = is.reused }

    there_of : (s : Sharing) → IsOf (f + 1) graphs more s → IsOf f (g ∷ graphs) (homes ∷ more) s
    there_of s is = record { at = suc is.at; graph = is.graph; own_homes = is.own_homes; function = omega (arith, is.function); there = is.there; kept = is.kept; of = is.of; reused = is.reused }

    first_or : (s : Sharing) (k : ℕ) (d : Graph) (own_ones : List Home) → s.function ≡ f + k → slice_get (g ∷ graphs) k ≡ Some d → slice_get (homes ∷ more) k ≡ Some own_ones → slice_get d.scalars s.number ≡ Some s.scalar
        → IsReused made (home_in own_ones) d s.number s.scalar.variable → Is f g (home_in homes) 0 g.scalars s ⊎ IsOf (f + 1) graphs more s
    first_or s zero d own_ones function there kept of reused =
        let P : Graph → Type 0 = λ e. slice_get e.scalars s.number ≡ Some s.scalar in
        let Q : Graph → List Home → Type 0 = λ e hs. IsReused made (home_in hs) e s.number s.scalar.variable in
        inl (record {
          at = s.number;
          function = omega (arith, function);
          number = omega arith;
          of = subst P (sym (same_Some g d there)) of;
          reused = subst (λ e. Q e homes) (sym (same_Some g d there)) (subst (λ hs. Q d hs) (sym (same_Some homes own_ones kept)) reused);
        })
    first_or s (suc k) d own_ones function there kept of reused = inr (record { at = k; graph = d; own_homes = own_ones; function = omega (arith, function); there = there; kept = kept; of = of; reused = reused })

  pub all_told : (f : ℕ) (graphs : List Graph) (homes : List (List Home)) (all : List Logged) → AreChangesOfEach made pass graphs homes all → AreTold f graphs homes all
  all_told f [] [] all no_more = record { sharings = []; ordered = tt; only = λ s is. elim is [ ]; each = λ s is. absurd (omega (arith, slice_get_within [] is.at is.graph is.there)); changes = refl }
  all_told f [] (homes ∷ more) all are = elim are [ ]
  all_told f (g ∷ graphs) [] all are = elim are [ ]
  all_told f (g ∷ graphs) (homes ∷ more) all (of_first {own = ones} {rest = rest} are others) =
      let first = told f g (home_in homes) 0 g.scalars ones are in
      let further = all_told (f + 1) graphs more rest others in
      record {
        sharings = first.sharings ++ further.sharings;
        ordered = ordered_append first.sharings further.sharings first.ordered further.ordered (λ s t l r. inl (omega (arith, (first.only s l).function, (further.only t r).function)));
        only = λ s is. elim (among_cases s first.sharings further.sharings is) [
          | inl l ↦ here_of f g graphs homes more s (first.only s l)
          | inr r ↦ there_of f g graphs homes more s (further.only s r)
        ];
        each = λ s is. elim (first_or f g graphs homes more s is.at is.graph is.own_homes is.function is.there is.kept is.of is.reused) [
          | inl here ↦ among_left s first.sharings further.sharings (first.each s here)
          | inr there ↦ among_right s first.sharings further.sharings (further.each s there)
        ];
        changes = ap (λ cs. cs ++ rest) first.changes ∙ ap (λ cs. map change first.sharings ++ cs) further.changes ∙ sym (map-append change first.sharings further.sharings);
      }
