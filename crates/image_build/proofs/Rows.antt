-- Where each variable is said to be shown by its home, that is borne out by a well marked unit of which no assignment went, with a slot of its own for each name.
use Rattle.std.proofs.Common.{◌≡◌, ◌≢◌, ℕ, zero, suc, ◌+◌, ◌≤◌, ◌<◌, inl, inr, true, false, true≢false, Some, List, [], ◌∷◌, length, map, slice_get, refl, sym, ap, ◌∙◌, subst, arith}
use Rattle.std.specs.Prelude.{option_map}
use Rattle.std.proofs.Math.Nat.{min-eq_left}
use Rattle.std.proofs.lemmas.Option.{none-some, slice_get-map}
use Rattle.debug_records.specs.declared.change.Var as declared-var
use Rattle.debug_records.specs.Change.{is_taken}
use Rattle.places.specs.declared.flow.FlowTable.{FlowTable}
use Rattle.places.specs.declared.table.PlaceRow as declared-place
use Rattle.c_tree.specs.Programs.{TypedFunctionTree, ProgramTree}
use Rattle.c_type_laws.specs.Laws.{IsWellFormed}
use Rattle.c_places.specs.Places.{place_number_at, places_of_program}
use Rattle.c_flow.specs.Rows.{Row, row_view, rows_of_program}
use Rattle.graph_homes.specs.Homes.{HoldsOnAllPaths}
use Rattle.graph_core.specs.declared.recipe.Recipe as declared-recipe
use Rattle.graph_core.specs.Graphs.{Graph, Logged, Name, Of}
use Rattle.graph_core.specs.Paths.{Among, front, behind}
use Rattle.graph_core.specs.Validity.{IsGraph}
use Rattle.graph_core.specs.WellMarked.{AreWellMarked, IsVariable, WasTaken}
use Rattle.graph_homes.specs.Homed.{HomedForm, home_of}
use Rattle.home_assign.specs.Rule.{HaveSlots}
use Rattle.currency.specs.declared.verdict.Verdict as declared-verdict
use Rattle.currency.specs.declared.verdict.Verdict.TheVariants as verdict
use Rattle.currency.specs.declared.verdict.PlaceVerdict as declared-row
use Rattle.currency.specs.Evident.{AreEvident, IsEvident}
use Rattle.currency.specs.Named.{AreNamed, IsNamed}
use Rattle.currency.specs.Sound.{AreApart, AreHidden, AreHome, AreLeast, AreOnly, AreReached, AreRecovered, IsHidden}
use Rattle.currency.specs.Visible.{Sight, next, sight, sights_at, sights_from}
use Rattle.currency.specs.Written.{AreWritten, IsWritten}
use Rattle.image_build.specs.Shown.{AreShown}
use Rattle.graph_core_weights.proofs.Passing.{all_there, some_same}
use Rattle.image_build.proofs.Program.{HaveFlowOf, IsKnown, comes_known, none_known, visible_known}
use Rattle.image_build.proofs.Scopes.{among_cases}
use Rattle.image_build.proofs.Slots.{holds_in_scope}

-- ---- Where rows are seen

-- A variable is seen at the place of a row of a table of places.
pub record IsSeen (rows : List declared-place.PlaceRow) (first : ℕ) (s : Sight) : Type 0 where
  pub index : ℕ
  pub row : declared-place.PlaceRow
  pub is : slice_get rows index ≡ Some row
  pub place : s.place ≡ first + index
  pub among : Among s.variable (row_view row).visible

at_place : (p : ℕ) (visible : List declared-var.Var) (s : Sight) → Among s (sights_at p visible) → (s.place ≡ p) × Among s.variable (map (λ (v : declared-var.Var). v.0) visible)
at_place p [] s among = elim among [ ]
at_place p (v ∷ more) s front = (refl, front)
at_place p (v ∷ more) s (behind a) = (let r = at_place p more s a in (r.0, behind r.1))

seen_step : (first : ℕ) (r : declared-place.PlaceRow) (rows : List declared-place.PlaceRow) (s : Sight) → first + 1 ≤ 4294967295 → (Among s (sights_from (first + 1) rows) → IsSeen rows (first + 1) s) → Among s (sights_from first (r ∷ rows)) → IsSeen (r ∷ rows) first s
seen_step first r rows s few rest among = elim (among_cases s (sights_at first r.visible.items) (sights_from (next first) rows) among) [ inl a ↦ here (at_place first r.visible.items s a) | inr a ↦ there (rest (subst (λ n. Among s (sights_from n rows)) next_is a)) ]
  where
    here : (s.place ≡ first) × Among s.variable (map (λ (v : declared-var.Var). v.0) r.visible.items) → IsSeen (r ∷ rows) first s
    here a = (let at = a.0 in record { index = 0; row = r; is = refl; place = omega (arith, at); among = a.1 })

    next_is : next first ≡ first + 1
    next_is = min-eq_left few

    there : IsSeen rows (first + 1) s → IsSeen (r ∷ rows) first s
    there q = (let at = q.place in record { index = suc q.index; row = q.row; is = q.is; place = omega (arith, at); among = q.among })

pub seen_from : (first : ℕ) (rows : List declared-place.PlaceRow) (s : Sight) → first + length rows ≤ 4294967295 → Among s (sights_from first rows) → IsSeen rows first s
seen_from first [] s few among = elim among [ ]
seen_from first (r ∷ rows) s few among = seen_step first r rows s (omega (arith, few)) (λ a. seen_from (first + 1) rows s (omega (arith, few)) a) among

pub mapped : {A B : Type 0} (f : A → B) (xs : List A) (x : A) → Among x xs → Among (f x) (map f xs)
mapped f [] x a = elim a [ ]
mapped f (y ∷ xs) x front = front
mapped f (y ∷ xs) x (behind a) = behind (mapped f xs x a)

-- ---- What is said is so

-- By no change of a log an assignment went.
abbrev pub HasNoRemovals : List Logged → Type 0
HasNoRemovals log = (change : Logged) → Among change log → is_taken change.kind ≡ false

-- the place of a graph's entry
abbrev pub entry_of_graph : Graph → ℕ
entry_of_graph g = g.entry

-- the place of a function's entry
abbrev pub entry_of_function : ProgramTree → TypedFunctionTree → ℕ
entry_of_function p f = place_number_at (places_of_program p) f.spot.at

-- A unit with homes is well marked, by none of its changes an assignment went, each of its names has a slot of its own, and its flow and the entries of its graphs are a program's.
pub record IsPlainUnitOf (p : ProgramTree) (h : HomedForm) : Type 0 where
  pub marked : AreWellMarked h.unit
  pub unremoved : HasNoRemovals h.unit.log
  pub slots : HaveSlots h
  pub flow : HaveFlowOf p h.unit.steps h.unit.assignments
  pub entries : map entry_of_graph h.unit.graphs ≡ map (entry_of_function p) p.functions

-- the function of a graph begins where the graph does
pub function_of_graph : (p : ProgramTree) (graphs : List Graph) (functions : List TypedFunctionTree) → map entry_of_graph graphs ≡ map (entry_of_function p) functions → (f : ℕ) (g : Graph) → slice_get graphs f ≡ Some g → (tree : TypedFunctionTree) × (slice_get functions f ≡ Some tree) × (g.entry ≡ entry_of_function p tree)
function_of_graph p [] functions e f g at = absurd (none-some g at)
function_of_graph p (x ∷ graphs) [] e f g at = cc
function_of_graph p (x ∷ graphs) (t ∷ functions) e zero g at = (t, refl, subst (λ (y : Graph). y.entry ≡ entry_of_function p t) (some_same at) (first_same e))
  where
    first_same : {a b : ℕ} {xs ys : List ℕ} → a ∷ xs ≡ b ∷ ys → a ≡ b
    first_same e = cc
function_of_graph p (x ∷ graphs) (t ∷ functions) e (suc f) g at = function_of_graph p graphs functions (rest_same e) f g at
  where
    rest_same : {a b : ℕ} {xs ys : List ℕ} → a ∷ xs ≡ b ∷ ys → xs ≡ ys
    rest_same e = cc

module _ (p : ProgramTree) (formed : IsWellFormed p) (h : HomedForm) (plain : IsPlainUnitOf p h) where
  kept : (place variable : ℕ) → WasTaken h.unit.log place variable → ⊥
  kept place variable w = true≢false (sym w.taken ∙ plain.unremoved w.change w.logged)

  -- A scalar's own value holds on all paths to each place where its variable is known.
  pub known_holds : (f x variable q : ℕ) (g : Graph) → slice_get h.unit.graphs f ≡ Some g → IsVariable g x variable → IsKnown p q variable → HoldsOnAllPaths (home_of h f) g q x (Of (Name x))
  known_holds f x variable q g at is known = holds_in_scope h.unit g (plain.marked.graphs f g at) (all_there (IsGraph h.unit) h.unit.graphs f g plain.marked.valid.graphs at) kept (home_of h f) (plain.slots f g at) x variable is (λ r. IsKnown p r variable) entry
      (λ from to goes there. comes_known p formed h.unit.steps h.unit.assignments plain.flow from to variable goes there) q known
    where
      entry : IsKnown p g.entry variable → ⊥
      entry k = (let t = function_of_graph p h.unit.graphs p.functions plain.entries f g at in none_known p formed f t.0 variable t.1 (subst (λ n. IsKnown p n variable) t.2 k))

  module _ (table : List declared-place.PlaceRow) (are : map row_view table ≡ rows_of_program p) (few : length table + 1 < 4294967296) (rows : List declared-row.PlaceVerdict) (seen : map sight rows ≡ sights_from 1 table) where
    row_known : (w : declared-row.PlaceVerdict) → Among w rows → IsKnown p w.place.0 w.var.0
    row_known w among =
        let s = seen_from 1 table (sight w) (omega (arith, few)) (subst (λ l. Among (sight w) l) seen (mapped sight rows w among)) in
        let row : slice_get (rows_of_program p) s.index ≡ Some (row_view s.row) = ap (λ (l : List Row). slice_get l s.index) (sym are) ∙ slice_get-map row_view table s.index ∙ ap (λ o. option_map row_view o) s.is in
        let at = s.place in
        let number : s.index + 1 ≡ w.place.0 = omega (arith, at) in
        subst (λ n. IsKnown p n w.var.0) number (visible_known p s.index w.var.0 (row_view s.row) row s.among)

    -- Where verdicts on the variables that are visible at the program's places say that homes show them, on all paths to the place the last note of a scalar is its own value and its home was last written for it.
    pub shown_home : AreHome h rows
    shown_home w among home f x g at is = known_holds f x w.var.0 w.place.0 g at is (row_known w among)

-- Verdicts by which homes show variables name no recipe, hide nothing, and name no change and no write.
module _ (rows : List declared-row.PlaceVerdict) (shown : AreShown rows) where
  no_recipe : (w : declared-row.PlaceVerdict) (r : declared-recipe.Recipe) (change : ℕ) → Among w rows → w.verdict ≡ verdict.Recovered r change → ⊥
  no_recipe w r change among is = none (sym (shown w among) ∙ is)
    where
      none : verdict.Home ≡ verdict.Recovered r change → ⊥
      none e = cc

  pub shown_recovered : (h : HomedForm) → AreRecovered h rows
  shown_recovered h w r change among is f x g at variable = absurd (no_recipe w r change among is)

  pub shown_apart : (h : HomedForm) → AreApart h rows
  shown_apart h w r change among is f x g at variable history n rest e way own = no_recipe w r change among is

  pub shown_only : (h : HomedForm) → AreOnly h rows
  shown_only h w r change among is f x g at variable history n rest e way other holds = absurd (no_recipe w r change among is)

  pub shown_least : (h : HomedForm) → AreLeast h rows
  shown_least h w r change among is f x g at variable history n rest e way = absurd (no_recipe w r change among is)

  pub shown_hidden : (h : HomedForm) → AreHidden h rows
  shown_hidden h w among hidden homes f x g at some few variable history n rest e way r holds = subst IsHidden (shown w among) hidden

  pub shown_reached : (h : HomedForm) → AreReached h rows
  shown_reached h w among other = absurd (other (shown w among))

  pub shown_named : (log : List Logged) → AreNamed log rows
  shown_named log w among = subst (λ (v : declared-verdict.Verdict). IsNamed log w.var.0 v) (sym (shown w among)) tt

  pub shown_written : (h : HomedForm) → AreWritten h rows
  shown_written h w among = subst (λ (v : declared-verdict.Verdict). IsWritten h w.var.0 v) (sym (shown w among)) tt

  pub shown_evident : (log : List Logged) (flow : FlowTable) (h : HomedForm) → AreEvident log flow h rows
  shown_evident log flow h w among = subst (λ (v : declared-verdict.Verdict). IsEvident log flow h w.var.0 w.place.0 v) (sym (shown w among)) tt
