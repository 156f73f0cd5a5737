-- What verdicts are asked of holds of a unit that is kept of its program, whose names have their homes.
use Rattle.std.proofs.Common.{◌≡◌, inl, inr, ℕ, zero, suc, ◌+◌, ◌-◌, ◌<◌, Bool, true, false, Some, List, [], ◌∷◌, length, map, slice_get, refl, sym, ap, ◌∙◌, subst, arith}
use Rattle.std.specs.Prelude.{◌==◌, ◌&&◌, AllPairs, option_map}
use Rattle.std.specs.List.{Contains, list_any}
use Rattle.std.proofs.lemmas.Bool.Decides.{nat_tests}
use Rattle.std.proofs.lemmas.List.{length-map}
use Rattle.std.proofs.lemmas.Option.{none-some, same_Some, slice_get-map}
use Rattle.debug_records.specs.declared.change.Var as declared-var
use Rattle.places.specs.declared.flow.Assignment.{Assignment}
use Rattle.places.specs.declared.table.PlaceRow as declared-row
use Rattle.places.specs.declared.table.PlaceTable as declared-table
use Rattle.places.specs.Flow.{IsAssignmentBefore, assigns}
use Rattle.places.proofs.Searched.{step_of}
use Rattle.event_runs.specs.Agreement.{Pairs}
use Rattle.c_tree.specs.Programs.{ProgramTree}
use Rattle.c_type_laws.specs.Laws.{IsWellFormed}
use Rattle.c_places.specs.Places.{places_of_program}
use Rattle.c_flow.specs.Rows.{Row, flow_row, row_view, rows_of_program}
use Rattle.graph_core.specs.Graphs.{Graph, UnitForm}
use Rattle.graph_core.specs.Paths.{Among}
use Rattle.graph_core.specs.Validity.{markers_of_blocks}
use Rattle.pass_law.specs.Keeps.{SameFunction}
use Rattle.currency_writers.specs.Ways.{Comes, at_once, on}
use Rattle.currency.specs.Premises.{ComesUnassigned, IsPlaceOf, IsTableOf, IsVisible}
use Rattle.image_truth_units.specs.ImageRulesUnits.{IsPlaceIn}
use Rattle.image_truth_units.proofs.Assigned.{assignment_placed}
use Rattle.image_truth_units.proofs.Built.{own_places}
use Rattle.image_truth_units.proofs.Flow.{step_placed}
use Rattle.image_build.specs.Kept.{IsKeptOf}
use Rattle.image_build.specs.Tables.{HasShapeOf}
use Rattle.image_build.proofs.Program.{HaveFlowOf, IsKnown, comes_known, none_known, visible_known}
use Rattle.image_build.proofs.Rows.{function_of_graph, mapped}
use Rattle.base_laws.proofs.Lists.{from_map}

-- ---- The flow

-- the assignments of a unit that is kept are in order
pub kept_in_order : (p : ProgramTree) (u : UnitForm) → IsKeptOf p u → AllPairs IsAssignmentBefore u.assignments
kept_in_order p u kept = subst (λ l. AllPairs IsAssignmentBefore l) (sym (ap (λ (w : UnitForm). w.assignments) kept.same ∙ kept.keeps.program.assignments)) kept.built.assignments_order

contains_at : {A : Type 0} (xs : List A) (k : ℕ) (x : A) → slice_get xs k ≡ Some x → Contains xs x
contains_at [] k x e = absurd (none-some x e)
contains_at (y ∷ xs) zero x e = subst (λ z. Contains (y ∷ xs) z) (same_Some y x e) (0, omega arith, refl)
contains_at (y ∷ xs) (suc k) x e = (let r = contains_at xs k x e in let lt = r.1 in (suc r.0, omega (arith, lt), r.2))

-- an assignment that is told
record AssignmentOf (all : List Assignment) (p variable : ℕ) : Type 0 where
  one : Assignment
  is : Contains all one
  place : one.place.0 ≡ p

-- what passes a test is there
found_by : {A : Type 0} (test : A → Bool) (xs : List A) → list_any test xs ≡ true → (j : ℕ) × (x : A) × (slice_get xs j ≡ Some x) × (test x ≡ true)
found_by test [] e = absurd cc
found_by {A = A} test (x ∷ xs) e = go (test x) refl (found_by test xs)
  where
    go : (b : Bool) → test x ≡ b → (list_any test xs ≡ true → (j : ℕ) × (y : A) × (slice_get xs j ≡ Some y) × (test y ≡ true)) → (j : ℕ) × (y : A) × (slice_get (x ∷ xs) j ≡ Some y) × (test y ≡ true)
    go true t more = (0, x, refl, t)
    go false t more = let found = more (rw t at e) in (suc found.0, found.1, found.2, found.3)

assignment_of : (all : List Assignment) (p variable : ℕ) → assigns all p variable ≡ true → AssignmentOf all p variable
assignment_of all p variable e =
    let found = found_by (λ (a : Assignment). a.place.0 == p && a.var.0 == variable) all e in
    let a : Assignment = found.1 in
    let test : (a.place.0 == p && a.var.0 == variable) ≡ true = found.3 in
    record { one = a; is = contains_at all found.0 a found.2; place = grind (arith, nat_tests, test) }

-- ---- The places

-- two lists that are paired
pair_back : {A : Type 0} (R : A → A → Type 0) (xs ys : List A) (k : ℕ) (y : A) → Pairs R xs ys → slice_get ys k ≡ Some y → (x : A) × (slice_get xs k ≡ Some x) × R x y
pair_back R [] [] k y pairs e = absurd (none-some y e)
pair_back R [] (z ∷ ys) k y pairs e = absurd pairs
pair_back R (x ∷ xs) [] k y pairs e = absurd pairs
pair_back R (x ∷ xs) (z ∷ ys) zero y pairs e = (x, refl, subst (λ w. R x w) (same_Some z y e) pairs.0)
pair_back R (x ∷ xs) (z ∷ ys) (suc k) y pairs e = pair_back R xs ys k y pairs.1 e

module _ (p : ProgramTree) (formed : IsWellFormed p) (u : UnitForm) (kept : IsKeptOf p u) (shape : HasShapeOf p u) (table : declared-table.PlaceTable) (are : map row_view table.rows.items ≡ rows_of_program p) (few : length table.rows.items + 1 < 4294967296) where
  -- as many rows as the program has places
  many : length table.rows.items ≡ length (places_of_program p)
  many = sym (length-map table.rows.items row_view) ∙ ap (λ (l : List Row). length l) are ∙ length-map (places_of_program p) (flow_row p)

  -- a place of the program is one of the table
  place_in : (f n : ℕ) → IsPlaceIn p f n → IsPlaceOf table f n
  place_in f n is = by_row (from_map row_view table.rows.items is.index (flow_row p is.at) (ap (λ (l : List Row). slice_get l is.index) are ∙ slice_get-map (flow_row p) (places_of_program p) is.index ∙ ap (λ o. option_map (flow_row p) o) is.is))
    where
      by_row : (r : declared-row.PlaceRow) × (slice_get table.rows.items is.index ≡ Some r) × (row_view r ≡ flow_row p is.at) → IsPlaceOf table f n
      by_row r =
          let number = is.number_is in
          let at : n - 1 ≡ is.index = omega (arith, number) in
          record { row = r.0; some = omega (arith, number); is = ap (λ k. slice_get table.rows.items k) at ∙ r.1; of = ap (λ (w : Row). w.function) r.2 ∙ is.function_is }

  placed : (f n : ℕ) (g : Graph) → slice_get u.graphs f ≡ Some g → Among n (markers_of_blocks g.blocks) → IsPlaceOf table f n
  placed f n g at among =
      (let first = pair_back SameFunction kept.first.graphs kept.last.graphs f g kept.keeps.program.functions (sym (ap (λ (w : UnitForm). slice_get w.graphs f) kept.same) ∙ at) in
      place_in f n ((own_places p formed kept.first kept.built.forms).own f n first.0 first.1 ((first.2.markers n).1 among)))

  flow : HaveFlowOf p u.steps u.assignments
  flow = record { steps_are = shape.steps; assignments_are = shape.assignments }

  -- on no way from an entry a variable is known
  never_known : (f : ℕ) (g : Graph) → slice_get u.graphs f ≡ Some g → (variable : ℕ) → IsKnown p g.entry variable → ⊥
  never_known f g at variable known = (let t = function_of_graph p u.graphs p.functions shape.entries f g at in none_known p formed f t.0 variable t.1 (subst (λ n. IsKnown p n variable) t.2 known))

  true_false : {b : Bool} → b ≡ true → b ≡ false → ⊥
  true_false one other = cc

  never_comes : (f : ℕ) (g : Graph) → slice_get u.graphs f ≡ Some g → (variable q : ℕ) → assigns u.assignments g.entry variable ≡ false → Comes u.steps (λ n. assigns u.assignments n variable) g.entry q → IsKnown p q variable → ⊥
  never_comes f g at variable q free (at_once go) known = elim (comes_known p formed u.steps u.assignments flow g.entry q variable go known) [ inl before ↦ never_known f g at variable before | inr it ↦ true_false it free ]
  never_comes f g at variable q free (on {q = n} comes unblocked go) known = elim (comes_known p formed u.steps u.assignments flow n q variable go known) [ inl before ↦ never_comes f g at variable n free comes before | inr it ↦ true_false it unblocked ]

  visible_is : (n variable : ℕ) → IsVisible table n variable → IsKnown p n variable
  visible_is n variable is =
      (let some = is.some in
      let number : n - 1 + 1 ≡ n = omega (arith, some) in
      let row : slice_get (rows_of_program p) (n - 1) ≡ Some (row_view is.row) = ap (λ (l : List Row). slice_get l (n - 1)) (sym are) ∙ slice_get-map row_view table.rows.items (n - 1) ∙ ap (λ o. option_map row_view o) is.is in
      subst (λ k. IsKnown p k variable) number (visible_known p (n - 1) variable (row_view is.row) row (subst (λ v. Among v (row_view is.row).visible) is.of (mapped (λ (w : declared-var.Var). w.0) is.row.visible.items is.var is.among))))

  unassigned : (f n variable : ℕ) (g : Graph) → slice_get u.graphs f ≡ Some g → IsVisible table n variable → ComesUnassigned u g variable n → ⊥
  unassigned f n variable g at visible comes = elim comes [
    | inl same ↦ never_known f g at variable (subst (λ k. IsKnown p k variable) same (visible_is n variable visible))
    | inr way ↦ never_comes f g at variable n way.0 way.1 (visible_is n variable visible)
  ]

  -- THE TABLE of a program's places is that of a unit that is kept of the program.
  pub kept_table : IsTableOf u table
  kept_table = record {
    few = omega (arith, few);
    placed = λ f n g at among. placed f n g at among;
    from = λ n q go. (let s = step_of u.steps n q go in let low = (step_placed p formed s.step ((shape.steps s.step).0 (contains_at u.steps s.index s.step s.is))).0.1 in let same = s.from in let count = many in omega (arith, low, same, count));
    to = λ n q go. (let s = step_of u.steps n q go in let low = (step_placed p formed s.step ((shape.steps s.step).0 (contains_at u.steps s.index s.step s.is))).1.1 in let same = s.to in let count = many in omega (arith, low, same, count));
    assigning = λ n variable it. (let a = assignment_of u.assignments n variable it in let low = (assignment_placed p formed a.one ((shape.assignments a.one).0 a.is)).1 in let same = a.place in let count = many in omega (arith, low, same, count));
    assigned = unassigned;
  }
