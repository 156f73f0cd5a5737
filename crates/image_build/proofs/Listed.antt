-- The rows of a place among those of all places, which stand place by place.
use Rattle.std.proofs.Common.{◌≡◌, ◌≢◌, ℕ, zero, suc, ◌+◌, ◌<◌, refl, ap, ◌∙◌, arith, Bool, true, false, cond, Some, List, [], ◌∷◌, ◌++◌, length, map, slice_get}
use Rattle.std.specs.Prelude.{◌==◌}
use Rattle.std.specs.List.{filter}
use Rattle.std.proofs.lemmas.Bool.{eq-eqb, eqb-true}
use Rattle.std.proofs.lemmas.List.Elements.{filter-append}
use Rattle.std.proofs.lemmas.Option.{none-some, same_Some}
use Rattle.event_runs.specs.Agreement.{Pairs}
use Rattle.image_form.specs.declared.verdicts.VisibleRow.{VisibleRow}
use Rattle.image_build_tables.specs.Tables.{VisiblePair, pair_of_row}
use Rattle.stop_engine_view.specs.Rows.{rows_at}
use Rattle.base_laws.proofs.Lists.{append_nil as behind_none}

-- what is seen at a place
abbrev pub seen_at : (place : ℕ) → ℕ → VisiblePair
seen_at place x = record { place = place; variable = x }

-- what is seen at places, place by place, where the first of them has this number
abbrev pub seen_from : (place : ℕ) → List (List ℕ) → List VisiblePair
seen_from place [] = []
seen_from place (seen ∷ more) = map (seen_at place) seen ++ seen_from (place + 1) more

differs : (a b : ℕ) → a ≢ b → (a == b) ≡ false
differs a b other = by_test (a == b) refl
  where
    by_test : (t : Bool) → (a == b) ≡ t → (a == b) ≡ false
    by_test true e = absurd (other (eqb-true a b e))
    by_test false e = e

own : (place : ℕ) (all : List ℕ) → filter (λ (z : VisiblePair). z.place == place) (map (seen_at place) all) ≡ map (seen_at place) all
own place [] = refl
own place (x ∷ all) =
    ap (λ b. cond b (seen_at place x ∷ filter (λ (z : VisiblePair). z.place == place) (map (seen_at place) all)) (filter (λ (z : VisiblePair). z.place == place) (map (seen_at place) all))) (eq-eqb place place refl) ∙ ap (λ l. seen_at place x ∷ l) (own place all)

others : (other place : ℕ) (all : List ℕ) → other ≢ place → filter (λ (z : VisiblePair). z.place == place) (map (seen_at other) all) ≡ []
others other place [] differ = refl
others other place (x ∷ all) differ =
    ap (λ b. cond b (seen_at other x ∷ filter (λ (z : VisiblePair). z.place == place) (map (seen_at other) all)) (filter (λ (z : VisiblePair). z.place == place) (map (seen_at other) all))) (differs other place differ) ∙ others other place all differ

later : (first place : ℕ) (all : List (List ℕ)) → place < first → filter (λ (z : VisiblePair). z.place == place) (seen_from first all) ≡ []
later first place [] lt = refl
later first place (seen ∷ more) lt =
    filter-append (λ (z : VisiblePair). z.place == place) (map (seen_at first) seen) (seen_from (first + 1) more)
    ∙ ap (λ l. l ++ filter (λ (z : VisiblePair). z.place == place) (seen_from (first + 1) more)) (others first place seen (λ e. absurd (omega (arith, lt, e))))
    ∙ later (first + 1) place more (omega (arith, lt))

of_place : (first place k : ℕ) (all : List (List ℕ)) (seen : List ℕ) → slice_get all k ≡ Some seen → place ≡ first + k → filter (λ (z : VisiblePair). z.place == place) (seen_from first all) ≡ map (seen_at place) seen
of_place first place k [] seen is number = absurd (none-some seen is)
of_place first place zero (l ∷ more) seen is number =
    let here : first ≡ place = omega (arith, number) in
    filter-append (λ (z : VisiblePair). z.place == place) (map (seen_at first) l) (seen_from (first + 1) more)
    ∙ ap (λ r. filter (λ (z : VisiblePair). z.place == place) (map (seen_at first) l) ++ r) (later (first + 1) place more (omega (arith, number)))
    ∙ behind_none (filter (λ (z : VisiblePair). z.place == place) (map (seen_at first) l))
    ∙ ap (λ q. filter (λ (z : VisiblePair). z.place == place) (map (seen_at q) l)) here
    ∙ own place l ∙ ap (map (seen_at place)) (same_Some l seen is)
of_place first place (suc k) (l ∷ more) seen is number =
    filter-append (λ (z : VisiblePair). z.place == place) (map (seen_at first) l) (seen_from (first + 1) more)
    ∙ ap (λ r. r ++ filter (λ (z : VisiblePair). z.place == place) (seen_from (first + 1) more)) (others first place l (λ e. absurd (omega (arith, number, e))))
    ∙ of_place (first + 1) place k more seen is (omega (arith, number))

-- ---- Rows

rows_seen : (place : ℕ) (rows : List VisibleRow) → map pair_of_row (rows_at place rows) ≡ filter (λ (z : VisiblePair). z.place == place) (map pair_of_row rows)
rows_seen place [] = refl
rows_seen place (r ∷ rows) = by_test (r.place == place) (rows_seen place rows)
  where
    by_test : (b : Bool) → map pair_of_row (rows_at place rows) ≡ filter (λ (z : VisiblePair). z.place == place) (map pair_of_row rows)
        → map pair_of_row (cond b (r ∷ rows_at place rows) (rows_at place rows)) ≡ cond b (pair_of_row r ∷ filter (λ (z : VisiblePair). z.place == place) (map pair_of_row rows)) (filter (λ (z : VisiblePair). z.place == place) (map pair_of_row rows))
    by_test true rest = ap (λ l. pair_of_row r ∷ l) rest
    by_test false rest = rest

-- The rows of a place are of what is seen there.
pub rows_of_place : (place k : ℕ) (rows : List VisibleRow) (all : List (List ℕ)) (seen : List ℕ) → map pair_of_row rows ≡ seen_from 1 all → slice_get all k ≡ Some seen → place ≡ 1 + k → map pair_of_row (rows_at place rows) ≡ map (seen_at place) seen
rows_of_place place k rows all seen same is number = rows_seen place rows ∙ ap (filter (λ (z : VisiblePair). z.place == place)) same ∙ of_place 1 place k all seen is number

-- a row of a place is one of all rows
pub row_there : (place : ℕ) (rows : List VisibleRow) (k : ℕ) (r : VisibleRow) → slice_get (rows_at place rows) k ≡ Some r → (i : ℕ) × (slice_get rows i ≡ Some r)
row_there place [] k r is = absurd (none-some r is)
row_there place (q ∷ rows) k r is = by_test (q.place == place) k is (row_there place rows)
  where
    by_test : (b : Bool) (k : ℕ) → slice_get (cond b (q ∷ rows_at place rows) (rows_at place rows)) k ≡ Some r → ((k : ℕ) (r : VisibleRow) → slice_get (rows_at place rows) k ≡ Some r → (i : ℕ) × (slice_get rows i ≡ Some r)) → (i : ℕ) × (slice_get (q ∷ rows) i ≡ Some r)
    by_test true zero is later = (0, is)
    by_test true (suc k) is later = let i = later k r is in (suc i.0, i.1)
    by_test false k is later = let i = later k r is in (suc i.0, i.1)

-- What holds of each two that stand at one index holds one by one.
pub pairs_at : {A B : Type 0} (R : A → B → Type 0) (P : ℕ → A) (all : List ℕ) (ys : List B) → length ys ≡ length all → ((k x : ℕ) (y : B) → slice_get all k ≡ Some x → slice_get ys k ≡ Some y → R (P x) y) → Pairs R (map P all) ys
pairs_at R P [] [] many each = tt
pairs_at R P [] (y ∷ ys) many each = absurd (omega (arith, many))
pairs_at R P (x ∷ all) [] many each = absurd (omega (arith, many))
pairs_at R P (x ∷ all) (y ∷ ys) many each = (each 0 x y refl refl, pairs_at R P all ys (omega (arith, many)) (λ k z w one two. each (suc k) z w one two))
