-- The rows of visible variables keep the rules of an image's format, where their verdicts do.
use Rattle.std.proofs.Common.{◌≡◌, ℕ, zero, suc, ◌+◌, ◌-◌, ◌≤◌, ◌<◌, ◌⊎◌, true, true≢false, inl, inr, Some, List, [], ◌∷◌, ◌++◌, length, map, slice_get, refl, sym, ap, ◌∙◌, subst, arith}
use Rattle.std.specs.Prelude.{IsSomeAnd}
use Rattle.std.specs.List.{AllByRecursion}
use Rattle.std.proofs.Math.Nat.{min-eq_left}
use Rattle.std.proofs.lemmas.Option.{same_Some, slice_get_within}
use Rattle.debug_records.specs.declared.change.Var.{Var}
use Rattle.places.specs.declared.table.PlaceRow.{PlaceRow}
use Rattle.c_tree.specs.Programs.{ProgramTree}
use Rattle.c_type_laws.specs.Laws.{IsWellFormed}
use Rattle.c_places.specs.Places.{Place, places_of_program, visible}
use Rattle.c_flow.specs.Rows.{Row, flow_row, row_view, rows_of_program}
use Rattle.graph_core.specs.Paths.{Among, front, behind}
use Rattle.currency.specs.declared.verdict.PlaceVerdict.{PlaceVerdict}
use Rattle.currency.specs.Visible.{Sight, next, sight, sights_at, sights_from}
use Rattle.image_build_tables.specs.Variables.{owner, owners_of}
use Rattle.image_form.specs.Form.{Form, numbered}
use Rattle.image_form.specs.Lists.{BeforeFirst, EachToNext}
use Rattle.image_form.specs.RulesOfChanges.{IsPairBefore}
use Rattle.image_form.specs.RulesOfRows.{IsQuietStart, IsVerdict, IsVisible, RowRules}
use Rattle.image_form_sections.specs.Versions.{has_quiet}
use Rattle.image_form.specs.declared.recipes.Node.{Node}
use Rattle.image_form.specs.declared.tables.Place.{Place as ImagePlace}
use Rattle.image_form.specs.declared.variables.Variable.{Variable}
use Rattle.image_form.specs.declared.verdicts.Verdict.{Verdict}
use Rattle.image_form.specs.declared.verdicts.VisibleRow.{VisibleRow}
use Rattle.image_build_tables.specs.Rows.{AreRowsOf, IsRowOf, IsVerdictOf, Telling}
use Rattle.image_build_tables.specs.Tables.{spot, spot_of_row}
use Rattle.image_build.proofs.Rows.{IsSeen, seen_from}
use Rattle.image_build.proofs.Lists.{Up, all_at, from_map, some_and, up_among}
use Rattle.image_build.proofs.Ordered.{SeesOwn, functions_see, visible_up}
use Rattle.image_build.proofs.Owned.{LawsOf, ends_within, laws_of, numbers_up, offset, owner_there}

-- ---- Rows that say what is told, one by one

-- what is said of each row that is told is so of each row
rows_say : (t : Telling) (nodes : List Node) (P : ℕ → ℕ → Verdict → Type 0) (all : List PlaceVerdict) (rows : List VisibleRow) → AreRowsOf t nodes all rows → ((w : PlaceVerdict) → Among w all → (v : Verdict) → IsVerdictOf t nodes w.place.0 w.verdict v → P w.place.0 w.var.0 v)
    → AllByRecursion (λ (r : VisibleRow). P r.place r.variable r.verdict) rows
rows_say t nodes P [] [] say so = tt
rows_say t nodes P [] (r ∷ rows) say so = absurd say
rows_say t nodes P (w ∷ all) [] say so = tt
rows_say t nodes P (w ∷ all) (r ∷ rows) say so =
    let one : IsRowOf t nodes w r = say.0 in
    (subst (λ n. P n r.variable r.verdict) (sym one.place) (subst (λ n. P w.place.0 n r.verdict) (sym one.variable) (so w front r.verdict one.verdict)), rows_say t nodes P all rows say.1 (λ v among. so v (behind among)))

-- ---- Sights in order

-- sights stand in order, none before a place, nor at it before a variable
abbrev pub Behind : (place least : ℕ) → List Sight → Type 0
Behind place least [] = Unit {0}
Behind place least (s ∷ more) = ((place < s.place) ⊎ ((place ≡ s.place) × (least ≤ s.variable))) × Behind s.place (s.variable + 1) more

-- sights from the next place on stand behind all of a place
behind_place : (place least : ℕ) (all : List Sight) → Behind (place + 1) 0 all → Behind place least all
behind_place place least [] h = tt
behind_place place least (s ∷ more) h = (elim h.0 [ inl a ↦ inl (omega (arith, a)) | inr b ↦ (let at = b.0 in inl (omega (arith, at))) ], h.1)

behind_one : (p least high : ℕ) (variables : List Var) (rest : List Sight) → Up least high (map (λ (v : Var). v.0) variables) → Behind (p + 1) 0 rest → Behind p least (sights_at p variables ++ rest)
behind_one p least high [] rest up h = behind_place p least rest h
behind_one p least high (v ∷ variables) rest up h = (inr (refl, up.0), behind_one p (v.0 + 1) high variables rest up.1 h)

-- the variables that are visible at a place of a table ascend
abbrev IsUp : PlaceRow → Type 0
IsUp r = (low : ℕ) × (high : ℕ) × Up low high (row_view r).visible

each_up : (rows : List PlaceRow) → ((k : ℕ) (row : PlaceRow) → slice_get rows k ≡ Some row → IsUp row) → AllByRecursion IsUp rows
each_up [] up = tt
each_up (r ∷ rows) up = (up 0 r refl, each_up rows (λ k row e. up (suc k) row e))

lower : (low high : ℕ) (xs : List ℕ) → Up low high xs → Up 0 high xs
lower low high [] up = omega arith
lower low high (x ∷ xs) up = (omega arith, up.1)

behind_from : (p : ℕ) (rows : List PlaceRow) → p + length rows ≤ 4294967295 → AllByRecursion IsUp rows → Behind p 0 (sights_from p rows)
behind_from p [] few up = tt
behind_from p (r ∷ rows) few up =
    let one = up.0 in
    let next_is : next p ≡ p + 1 = min-eq_left (omega (arith, few)) in
    behind_one p 0 one.1 r.visible.items (sights_from (next p) rows) (lower one.0 one.1 (map (λ (v : Var). v.0) r.visible.items) one.2) (subst (λ n. Behind (p + 1) 0 (sights_from n rows)) (sym next_is) (behind_from (p + 1) rows (omega (arith, few)) up.1))

-- one row stands before another
abbrev IsBefore : VisibleRow → VisibleRow → Type 0
IsBefore r s = IsPairBefore r.place r.variable s.place s.variable

each_next : (t : Telling) (nodes : List Node) (all : List PlaceVerdict) (rows : List VisibleRow) (p least : ℕ) → AreRowsOf t nodes all rows → Behind p least (map sight all) → EachToNext IsBefore rows
each_next t nodes [] [] p least say h = tt
each_next t nodes [] (r ∷ rows) p least say h = absurd say
each_next t nodes (w ∷ all) [] p least say h = tt
each_next t nodes (w ∷ all) (r ∷ rows) p least say h = (first all rows say.1 h.1, each_next t nodes all rows w.place.0 (w.var.0 + 1) say.1 h.1)
  where
    here : IsRowOf t nodes w r
    here = say.0

    first : (more : List PlaceVerdict) (later : List VisibleRow) → AreRowsOf t nodes more later → Behind w.place.0 (w.var.0 + 1) (map sight more) → BeforeFirst IsBefore r later
    first [] [] say h = tt
    first [] (s ∷ later) say h = absurd say
    first (v ∷ more) [] say h = tt
    first (v ∷ more) (s ∷ later) say h =
        let one : IsRowOf t nodes v s = say.0 in
        let place = here.place in
        let variable = here.variable in
        let other = one.place in
        let name = one.variable in
        elim h.0 [ inl a ↦ inl (omega (arith, a, place, other)) | inr b ↦ (let at = b.0 in let le = b.1 in inr (omega (arith, at, place, other), omega (arith, le, variable, name))) ]

-- ---- Rules

module _ (p : ProgramTree) (formed : IsWellFormed p) (table : List PlaceRow) (are : map row_view table ≡ rows_of_program p) where
  laws : LawsOf p
  laws = laws_of p formed

  -- a row of the table is that of a place of the program, which sees its function's variables
  record PlaceOf (k : ℕ) (row : PlaceRow) : Type 0 where
    place : Place
    there : slice_get (places_of_program p) k ≡ Some place
    is : flow_row p place ≡ row_view row
    own : SeesOwn 0 p.functions place

  place_of : (k : ℕ) (row : PlaceRow) → slice_get table k ≡ Some row → PlaceOf k row
  place_of k row at =
      let there : slice_get (rows_of_program p) k ≡ Some (row_view row) = ap (λ (l : List Row). slice_get l k) (sym are) ∙ map_at table k row at in
      let q = from_map (flow_row p) (places_of_program p) k (row_view row) there in
      record { place = q.0; there = q.1; is = q.2; own = all_at (SeesOwn 0 p.functions) (places_of_program p) k q.0 (functions_see p 0 p.functions laws.functions) q.1 }
    where
      map_at : (xs : List PlaceRow) (i : ℕ) (x : PlaceRow) → slice_get xs i ≡ Some x → slice_get (map row_view xs) i ≡ Some (row_view x)
      map_at [] i x e = cc
      map_at (y ∷ xs) zero x e = ap (λ z. Some (row_view z)) (same_Some y x e)
      map_at (y ∷ xs) (suc i) x e = map_at xs i x e

  -- what is visible there ascends among the variables of its function
  row_up : (k : ℕ) (row : PlaceRow) (q : PlaceOf k row) → Up (offset p + q.own.tree.first_variable) (offset p + (q.own.tree.first_variable + q.own.tree.variables)) (row_view row).visible
  row_up k row q =
      let tree = q.own.tree in
      let low = tree.first_variable in
      let high = tree.first_variable + tree.variables in
      let within = ends_within 0 (length p.automatics) p.functions q.own.index tree laws.follows q.own.is in
      subst (λ (r : Row). Up (offset p + low) (offset p + high) r.visible) q.is (numbers_up p low high (visible p.automatics q.place.scope) within (visible_up p.automatics low high q.place.scope q.own.own))

  table_up : AllByRecursion IsUp table
  table_up = each_up table (λ k row e.
      (let q = place_of k row e in
      let tree = q.own.tree in
      (offset p + tree.first_variable, offset p + (tree.first_variable + tree.variables), row_up k row q)))

  -- What is seen at a place: the place, its row, and that the variable belongs to the function of the place.
  pub record IsOwnSight (number variable : ℕ) : Type 0 where
    pub index : ℕ
    pub place : Place
    pub is : slice_get (places_of_program p) index ≡ Some place
    pub number_is : number ≡ suc index
    pub row : PlaceRow
    pub row_is : slice_get table index ≡ Some row
    pub function_is : row.function ≡ place.function
    pub low : place.function < length p.functions
    pub owner : slice_get (owners_of p) variable ≡ Some (Some place.function)

  pub own_sight : (s : Sight) → IsSeen table 1 s → IsOwnSight s.place s.variable
  own_sight s seen =
      let q = place_of seen.index seen.row seen.is in
      let tree = q.own.tree in
      let bounds = up_among (offset p + tree.first_variable) (offset p + (tree.first_variable + tree.variables)) (row_view seen.row).visible s.variable (row_up seen.index seen.row q) seen.among in
      let low = bounds.0 in
      let high = bounds.1 in
      let x = s.variable - offset p in
      let number : offset p + x ≡ s.variable = omega (arith, low) in
      let own = owner_there p laws q.own.index tree x q.own.is (omega (arith, low, number)) (omega (arith, high, number)) in
      let at = seen.place in
      let first : 0 + q.own.index ≡ q.own.index = omega arith in
      let function : q.place.function ≡ q.own.index = q.own.function ∙ first in
      let within = slice_get_within p.functions q.own.index tree q.own.is in
      record {
        index = seen.index;
        place = q.place;
        is = q.there;
        number_is = omega (arith, at);
        row = seen.row;
        row_is = seen.is;
        function_is = sym (ap (λ (r : Row). r.function) q.is);
        low = omega (arith, function, within);
        owner = ap (slice_get (owners_of p)) (sym number) ∙ own ∙ ap (λ n. Some (Some n)) (sym function);
      }

  -- given: an image with the program's places and the owners of its variables, and rows that say what is told at the places
  module _ (m : Form) (places : map spot m.places ≡ map spot_of_row table) (owners : map owner m.variables ≡ owners_of p) (few : length table + 1 < 4294967296) (all : List PlaceVerdict) (seen : map sight all ≡ sights_from 1 table) (t : Telling) (say : AreRowsOf t m.nodes all m.rows) where
    -- Each row is of a variable of the function of its place.
    pub rows_visible : AllByRecursion (λ (r : VisibleRow). IsVisible m r.place r.variable) m.rows
    rows_visible = rows_say t m.nodes (λ place variable v. IsVisible m place variable) all m.rows say one
      where
        mapped : (xs : List PlaceVerdict) (w : PlaceVerdict) → Among w xs → Among (sight w) (map sight xs)
        mapped [] w a = elim a [ ]
        mapped (y ∷ xs) w front = front
        mapped (y ∷ xs) w (behind a) = behind (mapped xs w a)

        map_at : (xs : List PlaceRow) (i : ℕ) (x : PlaceRow) → slice_get xs i ≡ Some x → slice_get (map spot_of_row xs) i ≡ Some (spot_of_row x)
        map_at [] i x e = cc
        map_at (y ∷ xs) zero x e = ap (λ z. Some (spot_of_row z)) (same_Some y x e)
        map_at (y ∷ xs) (suc i) x e = map_at xs i x e

        at_seen : (w : PlaceVerdict) → IsSeen table 1 (sight w) → IsVisible m w.place.0 w.var.0
        at_seen w s =
            let own = own_sight (sight w) s in
            let placed = from_map spot m.places own.index (spot_of_row own.row) (ap (λ l. slice_get l own.index) places ∙ map_at table own.index own.row own.row_is) in
            let kept = from_map owner m.variables w.var.0 (Some own.place.function) (ap (λ l. slice_get l w.var.0) owners ∙ own.owner) in
            let function : placed.0.function ≡ own.place.function = ap (λ z. z.function) placed.2 ∙ own.function_is in
            some_and (numbered m.places w.place.0) placed.0 (λ (y : ImagePlace). IsSomeAnd (slice_get m.variables w.var.0) (λ (v : Variable). v.function ≡ Some y.function)) (ap (numbered m.places) own.number_is ∙ placed.1)
            (some_and (slice_get m.variables w.var.0) kept.0 (λ (v : Variable). v.function ≡ Some placed.0.function) kept.1 (kept.2 ∙ ap Some (sym function)))

        one : (w : PlaceVerdict) → Among w all → (v : Verdict) → IsVerdictOf t m.nodes w.place.0 w.verdict v → IsVisible m w.place.0 w.var.0
        one w among v is = at_seen w (seen_from 1 table (sight w) (omega (arith, few)) (subst (λ l. Among (sight w) l) seen (mapped all w among)))

    -- They stand in order.
    pub rows_ascend : EachToNext (λ (r s : VisibleRow). IsPairBefore r.place r.variable s.place s.variable) m.rows
    rows_ascend = each_next t m.nodes all m.rows 1 0 say (subst (λ l. Behind 1 0 l) (sym seen) (behind_from 1 table (omega (arith, few)) table_up))

    -- Where verdicts and quiet paths keep their rules, and are told of in this version, the rows keep theirs.
    pub row_rules : AllByRecursion (λ (r : VisibleRow). IsVerdict m r.variable r.verdict) m.rows → AllByRecursion (λ (r : VisibleRow). IsQuietStart m r.variable r.verdict r.quiet) m.rows → has_quiet m.version.level ≡ true → RowRules m
    row_rules verdicts quiet tells = record {
      visible = rows_visible;
      verdicts = verdicts;
      quiet = quiet;
      none_quiet = λ untold. absurd (true≢false (sym tells ∙ untold));
      ascend = rows_ascend;
    }
