-- What is told of entries, one after the other.
use Rattle.std.proofs.Common.{◌≡◌, ◌≢◌, inl, inr, ℕ, ◌+◌, ◌<◌, ◌≤◌, Option, Some, None, List, [], ◌∷◌, length, get_or, take, refl, sym, ap, subst, ◌∙◌, arith}
use Rattle.std.specs.Prelude.{slice_get, option_map, ◌⊎◌}
use Rattle.std.specs.Global.{Vec}
use Rattle.std.specs.Option.{option_map_or}
use Rattle.std.proofs.lemmas.Bool.Decides.{eqb_tells}
use Rattle.std.proofs.lemmas.List.{length-map}
use Rattle.std.proofs.lemmas.Option.{none-some, same_Some, slice_get-map, slice_get-get_or, slice_get_within}
use Rattle.debug_records.specs.declared.change.Var as declared-var
use Rattle.places.specs.declared.table.PlaceTable as declared-table
use Rattle.graph_homes.specs.declared.home.Home.{Home}
use Rattle.graph_homes.specs.Homes.{HoldsOnAllPaths}
use Rattle.graph_core.specs.declared.graph.Scalar as declared-scalar
use Rattle.graph_core.specs.declared.graph.Graph as declared-graph
use Rattle.graph_core.specs.Graphs.{Logged, Scalar, Recipe, graph_view, recipe_view, scalar_view}
use Rattle.graph_core.specs.Paths.{Among, front, behind}
use Rattle.graph_core.specs.WellMarked.{IsVariable}
use Rattle.currency_notes.specs.Homes.{home_in}
use Rattle.currency_notes.proofs.Lists.{get_among, each_all, each_more}
use Rattle.currency_shown.specs.declared.found.Unshown as declared-unshown
use Rattle.currency_shown.specs.Found.{entries_of, IsPlaceOf, IsPlaceReached}
use Rattle.currency_shown.specs.Shown.{AreDifferent, AreDistinct, AreHidden, AreLeast, AreOther, AreOwn, ArePlaced, AreReached, AreRecipes, AreTheirs, IsHiddenAt, IsLeastAt, IsOther}
use Rattle.currency.specs.declared.telling.Told as declared-told
use Rattle.currency.specs.declared.telling.Told.TheVariants as told
use Rattle.currency.specs.declared.telling.ToldVariable as declared-variable
use Rattle.currency.specs.declared.told.ToldPlaces as declared-places
use Rattle.currency.specs.Telling.{told_at, AreToldAll, AreToldOf, IsFunctionTold, IsOfEntry, IsOfScalar, IsRecipeOf, IsSomethingTold, IsToldOne, IsToldRight}

-- what is told of the first entries
pub record AreToldSoFar (old new : declared-places.ToldPlaces) (var : declared-var.Var) (entries : List declared-unshown.Unshown) (count : ℕ) : Type 0 where
  pub kept : (p : ℕ) (t : declared-variable.ToldVariable) → Among t (told_at old p) → Among t (told_at new p)
  pub only : (p : ℕ) (t : declared-variable.ToldVariable) → Among t (told_at new p) → Among t (told_at old p) ⊎ IsOfEntry var entries p t
  pub told : (u : declared-unshown.Unshown) → Among u (take count entries) → (t : declared-variable.ToldVariable) × Among t (told_at new u.place.0) × (t.var ≡ var)

pub entry_next : (old new more : declared-places.ToldPlaces) (var : declared-var.Var) (entries : List declared-unshown.Unshown) (k : ℕ) (u : declared-unshown.Unshown) (what : declared-told.Told) → k < length entries → u ≡ get_or entries k u
    → AreToldSoFar old new var entries k → IsToldOne new more u.place.0 var what → IsRecipeOf what u.last → AreToldSoFar old more var entries (k + 1)
entry_next old new more var entries k u what lt is before one recipe = record {
  kept = λ p t there. one.kept p t (before.kept p t there);
  only = λ p t there. elim (one.only p t there) [
    | inl a ↦ before.only p t a
    | inr b ↦ inr (record { entry = u; among = get_among entries k u lt is; place = sym b.0; of = b.1; recipe = subst (λ (w : declared-told.Told). IsRecipeOf w u.last) (sym b.2) recipe })
  ];
  told = each_more (λ w. (t : declared-variable.ToldVariable) × Among t (told_at more w.place.0) × (t.var ≡ var)) entries k u lt is
      (λ w among. (let f = before.told w among in (f.0, one.kept w.place.0 f.0 f.1, f.2))) one.told;
}

pub entries_first : (old : declared-places.ToldPlaces) (var : declared-var.Var) (entries : List declared-unshown.Unshown) → AreToldSoFar old old var entries 0
entries_first old var entries = record { kept = λ p t there. there; only = λ p t there. inl there; told = λ u among. absurd (none entries u among) }
  where
    none : (all : List declared-unshown.Unshown) (u : declared-unshown.Unshown) → Among u (take 0 all) → ⊥
    none [] u among = elim among [ ]
    none (v ∷ all) u among = elim among [ ]

pub entries_done : (old new : declared-places.ToldPlaces) (var : declared-var.Var) (entries : List declared-unshown.Unshown) (k : ℕ) → length entries ≤ k → AreToldSoFar old new var entries k → AreToldOf old new var entries
entries_done old new var entries k le all = record {
  kept = all.kept;
  only = all.only;
  told = each_all (λ (u : declared-unshown.Unshown). (t : declared-variable.ToldVariable) × Among t (told_at new u.place.0) × (t.var ≡ var)) entries k le all.told;
}

-- what is told of the first scalars
pub record AreScalarsTold (old new : declared-places.ToldPlaces) (scalars : List declared-scalar.Scalar) (found : List (Vec declared-unshown.Unshown)) (count : ℕ) : Type 0 where
  pub kept : (p : ℕ) (t : declared-variable.ToldVariable) → Among t (told_at old p) → Among t (told_at new p)
  pub only : (p : ℕ) (t : declared-variable.ToldVariable) → Among t (told_at new p) → Among t (told_at old p) ⊎ IsOfScalar scalars found p t
  pub told : (x : ℕ) (s : declared-scalar.Scalar) (u : declared-unshown.Unshown) → x < count → slice_get scalars x ≡ Some s → Among u (entries_of found x) → (t : declared-variable.ToldVariable) × Among t (told_at new u.place.0) × (t.var ≡ s.var)

pub scalar_next : (old new more : declared-places.ToldPlaces) (scalars : List declared-scalar.Scalar) (found : List (Vec declared-unshown.Unshown)) (x : ℕ) (s : declared-scalar.Scalar) (entries : List declared-unshown.Unshown) → slice_get scalars x ≡ Some s → entries_of found x ≡ entries
    → AreScalarsTold old new scalars found x → AreToldOf new more s.var entries → AreScalarsTold old more scalars found (x + 1)
scalar_next old new more scalars found x s entries is of before one = record {
  kept = λ p t there. one.kept p t (before.kept p t there);
  only = λ p t there. elim (one.only p t there) [
    | inl a ↦ before.only p t a
    | inr b ↦ inr (record { x = x; scalar = s; is = is; of = subst (λ es. IsOfEntry s.var es p t) (sym of) b })
  ];
  told = λ y r u lt at among. elim (eqb_tells y x) [
    | inl e ↦ here y r u e.1 at among
    | inr e ↦ (let f = before.told y r u (omega (arith, lt, e.1)) at among in (f.0, one.kept u.place.0 f.0 f.1, f.2))
  ];
}
  where
    here : (y : ℕ) (r : declared-scalar.Scalar) (u : declared-unshown.Unshown) → y ≡ x → slice_get scalars y ≡ Some r → Among u (entries_of found y) → (t : declared-variable.ToldVariable) × Among t (told_at more u.place.0) × (t.var ≡ r.var)
    here y r u e at among =
        let same : s ≡ r = same_Some s r (sym is ∙ sym (ap (λ k. slice_get scalars k) e) ∙ at) in
        let there : Among u entries = subst (λ es. Among u es) of (subst (λ k. Among u (entries_of found k)) e among) in
        let f = one.told u there in
        (f.0, f.1, f.2 ∙ ap (λ (z : declared-scalar.Scalar). z.var) same)

-- the same, of the scalar and the entries that were read
pub scalar_next_any : (old new more : declared-places.ToldPlaces) (scalars : List declared-scalar.Scalar) (found : List (Vec declared-unshown.Unshown)) (x : ℕ) (d : declared-scalar.Scalar) (v : Vec declared-unshown.Unshown) (entries : List declared-unshown.Unshown) → x < length scalars → x < length found
    → v ≡ get_or found x v → entries ≡ v.items → AreScalarsTold old new scalars found x → AreToldOf new more (get_or scalars x d).var entries → AreScalarsTold old more scalars found (x + 1)
scalar_next_any old new more scalars found x d v entries lt there is same before one =
    scalar_next old new more scalars found x (get_or scalars x d) entries (slice_get-get_or scalars x d lt)
    (ap (λ (o : Option (Vec declared-unshown.Unshown)). option_map_or (λ z. z.items) o []) (slice_get-get_or found x v there ∙ ap Some (sym is)) ∙ sym same) before one

pub scalars_first : (old : declared-places.ToldPlaces) (scalars : List declared-scalar.Scalar) (found : List (Vec declared-unshown.Unshown)) → AreScalarsTold old old scalars found 0
scalars_first old scalars found = record { kept = λ p t there. there; only = λ p t there. inl there; told = λ x s u lt. absurd (omega (arith, lt)) }

pub scalars_done : (old new : declared-places.ToldPlaces) (scalars : List declared-scalar.Scalar) (found : List (Vec declared-unshown.Unshown)) (k : ℕ) → length scalars ≤ k → AreScalarsTold old new scalars found k → AreToldAll old new scalars found
scalars_done old new scalars found k le all = record {
  kept = all.kept;
  only = all.only;
  told = λ x s u at among. (let lt = slice_get_within scalars x s at in all.told x s u (omega (arith, le, lt)) at among);
}

-- an entry of a place, or none
find_entry : (entries : List declared-unshown.Unshown) (p : ℕ) → ((u : declared-unshown.Unshown) × Among u entries × (u.place.0 ≡ p)) ⊎ ((u : declared-unshown.Unshown) → Among u entries → u.place.0 ≡ p → ⊥)
find_entry [] p = inr (λ u among. none u among)
  where
    none : (u : declared-unshown.Unshown) → Among u [] → u.place.0 ≡ p → ⊥
    none u among = λ at. elim among [ ]
find_entry (v ∷ entries) p = elim (eqb_tells v.place.0 p) [
  | inl e ↦ inl (v, front, e.1)
  | inr e ↦ elim (find_entry entries p) [ inl f ↦ inl (f.0, behind f.1, f.2) | inr f ↦ inr (λ u among at. none e.1 f u among at) ]
]
  where
    none : (v.place.0 ≢ p) → ((u : declared-unshown.Unshown) → Among u entries → u.place.0 ≡ p → ⊥) → (u : declared-unshown.Unshown) → Among u (v ∷ entries) → u.place.0 ≡ p → ⊥
    none e f _ front at = e at
    none e f u (behind among) at = f u among at

-- What is told of a function.
module _ (log : List Logged) (g : declared-graph.Graph) (homes : List Home) (number : ℕ) (table : declared-table.PlaceTable) (old new : declared-places.ToldPlaces) (found : List (Vec declared-unshown.Unshown)) (placed : ArePlaced (graph_view g) number table)
    (theirs : AreTheirs found number table) (different : AreDifferent (graph_view g)) (own : AreOwn (home_in homes) (graph_view g) table found) (recipes : AreRecipes (home_in homes) (graph_view g) found) (other : AreOther (graph_view g) found) (hidden : AreDistinct homes → AreHidden (home_in homes) (graph_view g) found) (least : AreLeast log (graph_view g) found) (reached : AreReached (graph_view g) found) (all : AreToldAll old new g.scalars.items found) where
  -- the scalar of a variable
  variable_at : (x : ℕ) (s : declared-scalar.Scalar) → slice_get g.scalars.items x ≡ Some s → option_map (λ (z : Scalar). z.variable) (slice_get (graph_view g).scalars x) ≡ Some s.var.0
  variable_at x s e = ap (λ q. option_map (λ (z : Scalar). z.variable) q) (slice_get-map scalar_view g.scalars.items x ∙ ap (λ o. option_map scalar_view o) e)

  scalar_at : (x variable : ℕ) → IsVariable (graph_view g) x variable → (s : declared-scalar.Scalar) × (slice_get g.scalars.items x ≡ Some s) × (s.var.0 ≡ variable)
  scalar_at x variable is = at_scalar (slice_get g.scalars.items x) refl
    where
      at_scalar : (o : Option declared-scalar.Scalar) → slice_get g.scalars.items x ≡ o → (s : declared-scalar.Scalar) × (slice_get g.scalars.items x ≡ Some s) × (s.var.0 ≡ variable)
      at_scalar None e = absurd (none-some variable (sym (ap (λ q. option_map (λ (z : Scalar). z.variable) q) (slice_get-map scalar_view g.scalars.items x ∙ ap (λ o. option_map scalar_view o) e)) ∙ is))
      at_scalar (Some s) e = (s, e, same_Some s.var.0 variable (sym (variable_at x s e) ∙ is))

  is_right : (p : ℕ) (t : declared-variable.ToldVariable) (of : IsOfScalar g.scalars.items found p t) (what : declared-told.Told) → IsRecipeOf what of.of.entry.last → IsToldRight log homes (graph_view g) p t what
  is_right p t of (told.Recovered r c) recipe = λ x is.
      (let same : of.x ≡ x = different of.x x t.var.0 (variable_at of.x of.scalar of.is ∙ ap (λ (v : declared-var.Var). Some v.0) (sym of.of.of)) is in
      let holds : HoldsOnAllPaths (home_in homes) (graph_view g) of.of.entry.place.0 of.x (recipe_view recipe.0.recipe.now) = recipes of.x of.of.entry recipe.0 of.of.among recipe.1 in
      let differs : IsOther (graph_view g) of.of.entry.place.0 of.x (recipe_view recipe.0.recipe.now) = other of.x of.of.entry recipe.0 of.of.among recipe.1 in (
        subst (λ (q : Recipe). HoldsOnAllPaths (home_in homes) (graph_view g) p x q) (sym recipe.2)
            (subst (λ k. HoldsOnAllPaths (home_in homes) (graph_view g) p k (recipe_view recipe.0.recipe.now)) same (subst (λ q. HoldsOnAllPaths (home_in homes) (graph_view g) q of.x (recipe_view recipe.0.recipe.now)) of.of.place holds)),
        subst (λ (q : Recipe). IsOther (graph_view g) p x q) (sym recipe.2)
            (subst (λ k. IsOther (graph_view g) p k (recipe_view recipe.0.recipe.now)) same (subst (λ q. IsOther (graph_view g) q of.x (recipe_view recipe.0.recipe.now)) of.of.place differs)),
        subst (λ k. IsLeastAt log (graph_view g) p k (Some c)) same
            (subst (λ q. IsLeastAt log (graph_view g) q of.x (Some c)) of.of.place (subst (λ (o : Option ℕ). IsLeastAt log (graph_view g) of.of.entry.place.0 of.x o) recipe.3 (least of.x of.of.entry recipe.0 of.of.among recipe.1))),
      ))
  is_right p t of (told.Hidden cause) recipe = λ distinct x is.
      (let same : of.x ≡ x = different of.x x t.var.0 (variable_at of.x of.scalar of.is ∙ ap (λ (v : declared-var.Var). Some v.0) (sym of.of.of)) is in
      let lt : of.x < length (graph_view g).scalars = subst (λ (n : ℕ). of.x < n) (sym (length-map g.scalars.items scalar_view)) (slice_get_within g.scalars.items of.x of.scalar of.is) in
      let here : IsHiddenAt (home_in homes) (graph_view g) of.of.entry.place.0 of.x = hidden distinct of.x of.of.entry of.of.among recipe lt in
      subst (λ k. IsHiddenAt (home_in homes) (graph_view g) p k) same (subst (λ q. IsHiddenAt (home_in homes) (graph_view g) q of.x) of.of.place here))

  pub function_told : IsFunctionTold log homes (graph_view g) number table old new
  function_told = record {
    placed = placed;
    kept = all.kept;
    only = λ p t there. elim (all.only p t there) [
      | inl a ↦ inl a
      | inr b ↦ inr (subst (λ q. IsPlaceOf table number q) b.of.place (theirs b.x b.of.entry b.of.among), is_right p t b t.told b.of.recipe)
    ];
    reached = λ p t there. elim (all.only p t there) [
      | inl a ↦ inl a
      | inr b ↦ inr (subst (IsPlaceReached (graph_view g)) b.of.place (reached b.x b.of.entry b.of.among))
    ];
    own = λ p x variable is visible. elim (find_entry (entries_of found x) p) [
      | inl f ↦ inr (something p x variable is f.0 f.1 f.2)
      | inr f ↦ inl (own p x variable is visible f)
    ];
  }
    where
      something : (p x variable : ℕ) → IsVariable (graph_view g) x variable → (u : declared-unshown.Unshown) → Among u (entries_of found x) → u.place.0 ≡ p → IsSomethingTold new p variable
      something p x variable is u among at =
          let s = scalar_at x variable is in
          let f = all.told x s.0 u s.1 among in
          record { t = f.0; among = subst (λ q. Among f.0 (told_at new q)) at f.1; of = ap (λ (v : declared-var.Var). v.0) f.2 ∙ s.2 }

-- what is told of a function that was not told before is told at places that its paths reach
pub all_reached : (g : declared-graph.Graph) (found : List (Vec declared-unshown.Unshown)) (old new : declared-places.ToldPlaces) → AreReached (graph_view g) found → AreToldAll old new g.scalars.items found
    → (p : ℕ) (t : declared-variable.ToldVariable) → Among t (told_at new p) → Among t (told_at old p) ⊎ IsPlaceReached (graph_view g) p
all_reached g found old new reached all p t there = elim (all.only p t there) [
  | inl a ↦ inl a
  | inr b ↦ inr (subst (IsPlaceReached (graph_view g)) b.of.place (reached b.x b.of.entry b.of.among))
]
