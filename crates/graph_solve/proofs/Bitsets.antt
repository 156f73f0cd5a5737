-- Rows of bits as sets of numbers.
use Rattle.std.proofs.Common.{nat_cmp, ◌≡◌, ℕ, zero, suc, ◌+◌, ◌<◌, ◌≤◌, ◌||◌, ◌&&◌, inl, inr, Bool, true, false, List, [], ◌∷◌, Some, length, map, get_or, refl, sym, ap, ◌∙◌, arith, zero-add}
use Rattle.std.specs.Prelude.{slice_get}
use Rattle.std.specs.Cmp.{nat_cmp_total, unsigned_tied}
use Rattle.std.specs.Ordering.{eq_by_cmp}
use Rattle.std.specs.FinSet.{contains, contains-empty, contains-insert}
use Rattle.std.specs.List.{range_with_len}
use Rattle.std.proofs.Math.ListN.{set}
use Rattle.std.proofs.lemmas.Bool.{cases_lt, eq-eqb, ne_eqb}
use Rattle.std.proofs.lemmas.List.{same_lists, get_or_default, get_or_past, get_or-set_same, get_or-set_other}
use Rattle.std.proofs.lemmas.List.FromFn.{length-map-range_with_len}
use Rattle.std.proofs.lemmas.Option.{slice_get-get_or}
use Rattle.bit_rows.specs.Grid.{joined, met_bit, met, passed}
use Rattle.bit_rows.proofs.Bits.{at_index, same_made, made_set}
use Rattle.graph_solve_problem.specs.Numbers.{Numbers, IsBelow}
use Rattle.graph_solve_problem.specs.Problem.{DataFlow}
use Rattle.graph_solve_problem.specs.SetLaws.{equal}
use Rattle.graph_solve.specs.Rows.{numbers_from, set_of, set_at, sets_at, table}

apart : (n q : ℕ) → (q ≡ n → ⊥) → eq_by_cmp nat_cmp q n ≡ false
apart n q ne = unsigned_tied q n ∙ ne_eqb q n ne

below_from : (n q : ℕ) (row : List Bool) → q < n → contains (numbers_from n row) q ≡ false
below_from n q [] lt = contains-empty nat_cmp q
below_from n q (true ∷ more) lt =
    contains-insert nat_cmp_total (numbers_from (suc n) more) n q ∙ ap (λ b. b || contains (numbers_from (suc n) more) q) (apart n q (λ e. omega (arith, e))) ∙ below_from (suc n) q more (omega arith)
below_from n q (false ∷ more) lt = below_from (suc n) q more (omega arith)

has_from : (n j : ℕ) (row : List Bool) → contains (numbers_from n row) (n + j) ≡ get_or row j false
has_from n j [] = contains-empty nat_cmp (n + j)
has_from n zero (true ∷ more) =
    contains-insert nat_cmp_total (numbers_from (suc n) more) n (n + 0) ∙ ap (λ b. b || contains (numbers_from (suc n) more) (n + 0)) (unsigned_tied (n + 0) n ∙ eq-eqb (n + 0) n (omega arith))
has_from n (suc j) (true ∷ more) =
    let e : n + suc j ≡ suc n + j = omega arith in
    contains-insert nat_cmp_total (numbers_from (suc n) more) n (n + suc j) ∙ ap (λ b. b || contains (numbers_from (suc n) more) (n + suc j)) (apart n (n + suc j) (λ q. omega (arith, q)))
    ∙ ap (contains (numbers_from (suc n) more)) e ∙ has_from (suc n) j more
has_from n zero (false ∷ more) = below_from (suc n) (n + 0) more (omega arith)
has_from n (suc j) (false ∷ more) =
    let e : n + suc j ≡ suc n + j = omega arith in
    ap (contains (numbers_from (suc n) more)) e ∙ has_from (suc n) j more

-- a number is in a row's set where its bit is set
pub in_row : (row : List Bool) (q : ℕ) → contains (set_of row) q ≡ get_or row q false
in_row row q = ap (contains (set_of row)) (sym (zero-add q)) ∙ has_from 0 q row

pub row_below : (width : ℕ) (row : List Bool) → length row ≡ width → IsBelow width (set_of row)
row_below width row len q ge = in_row row q ∙ get_or_past row q false (omega (arith, len, ge))

-- rows of one length with one set are one
pub same_row : (a b : List Bool) → length a ≡ length b → set_of a ≡ set_of b → a ≡ b
same_row a b len e = same_lists a b len (λ k d lt. get_or_default a k d false lt ∙ sym (in_row a k) ∙ ap (λ s. contains s k) e ∙ in_row b k ∙ get_or_default b k false d (omega (arith, len, lt)))

pub get_joined : (f : Bool → Bool → Bool) → f false false ≡ false → (a b : List Bool) → length a ≡ length b → (q : ℕ) → get_or (joined f a b) q false ≡ f (get_or a q false) (get_or b q false)
get_joined f none [] [] len q = sym none
get_joined f none [] (y ∷ b) len q = absurd (omega (arith, len))
get_joined f none (x ∷ a) [] len q = absurd (omega (arith, len))
get_joined f none (x ∷ a) (y ∷ b) len zero = refl
get_joined f none (x ∷ a) (y ∷ b) len (suc q) = get_joined f none a b (omega (arith, len)) q

pub length_joined : (f : Bool → Bool → Bool) (a b : List Bool) → length a ≡ length b → length (joined f a b) ≡ length a
length_joined f [] [] len = refl
length_joined f [] (y ∷ b) len = absurd (omega (arith, len))
length_joined f (x ∷ a) [] len = absurd (omega (arith, len))
length_joined f (x ∷ a) (y ∷ b) len = ap suc (length_joined f a b (omega (arith, len)))

met_none : (unites : Bool) → met_bit unites false false ≡ false
met_none true = refl
met_none false = refl

met_turned : (unites a b : Bool) → met_bit unites a b ≡ met_bit unites b a
met_turned true true true = refl
met_turned true true false = refl
met_turned true false true = refl
met_turned true false false = refl
met_turned false true true = refl
met_turned false true false = refl
met_turned false false true = refl
met_turned false false false = refl

again : (c k w : Bool) → ((((c && k) || w) && k) || w) ≡ ((c && k) || w)
again true true true = refl
again true true false = refl
again true false true = refl
again true false false = refl
again false true true = refl
again false true false = refl
again false false true = refl
again false false false = refl

module _ (flow : DataFlow) where
  pub row_value : (row : List Bool) → length row ≡ flow.width → flow.IsValue (set_of row)
  row_value row len = (flow.values (set_of row)).1 (row_below flow.width row len)

  -- rows meet as their sets do
  pub set_met : (a b : List Bool) → length a ≡ flow.width → length b ≡ flow.width → set_of (met flow.unites a b) ≡ flow.meet (set_of b) (set_of a)
  set_met a b la lb = equal _ _ (λ q.
      in_row (met flow.unites a b) q ∙ get_joined (met_bit flow.unites) (met_none flow.unites) a b (la ∙ sym lb) q ∙ met_turned flow.unites (get_or a q false) (get_or b q false)
      ∙ sym (flow.meets (set_of b) (set_of a) (row_value b lb) (row_value a la) q ∙ ap (λ c. met_bit flow.unites c (contains (set_of a) q)) (in_row b q) ∙ ap (met_bit flow.unites (get_or b q false)) (in_row a q)))

  -- a block makes of a row what it makes of its set
  pub set_passed : (block : ℕ) (row kept written : List Bool) → length row ≡ flow.width → kept ≡ map (flow.kept block) (range_with_len 0 flow.width) → written ≡ map (flow.written block) (range_with_len 0 flow.width) →
      set_of (passed row kept written) ≡ flow.transfer block (set_of row)
  set_passed block row kept written len is_kept is_written =
      let lk : length kept ≡ flow.width = ap length is_kept ∙ length-map-range_with_len (flow.kept block) 0 flow.width in
      let lw : length written ≡ flow.width = ap length is_written ∙ length-map-range_with_len (flow.written block) 0 flow.width in
      let both = joined (λ a b. a && b) row kept in
      let lb : length both ≡ flow.width = length_joined (λ a b. a && b) row kept (len ∙ sym lk) ∙ len in
      let value = row_value row len in
      equal _ _ (λ q. elim (cases_lt q flow.width) [
        | inl lt ↦
            in_row (passed row kept written) q ∙ get_joined (λ a b. a || b) refl both written (lb ∙ sym lw) q
            ∙ ap (λ c. c || get_or written q false) (get_joined (λ a b. a && b) refl row kept (len ∙ sym lk) q)
            ∙ ap (λ c. (get_or row q false && c) || get_or written q false) (ap (λ ks. get_or ks q false) is_kept ∙ at_index (flow.kept block) flow.width q false lt)
            ∙ ap (λ c. (get_or row q false && flow.kept block q) || c) (ap (λ ws. get_or ws q false) is_written ∙ at_index (flow.written block) flow.width q false lt)
            ∙ sym (flow.moves block (set_of row) value q lt ∙ ap (λ c. (c && flow.kept block q) || flow.written block q) (in_row row q))
        | inr ge ↦
            in_row (passed row kept written) q
            ∙ get_or_past (passed row kept written) q false (omega (arith, length_joined (λ a b. a || b) both written (lb ∙ sym lw), lb, ge))
            ∙ sym ((flow.values (flow.transfer block (set_of row))).0 (flow.transfer_value block (set_of row) value) q ge)
      ])

  twice : (block : ℕ) (v : Numbers) → flow.IsValue v → flow.transfer block (flow.transfer block v) ≡ flow.transfer block v
  twice block v value = equal _ _ (λ q. elim (cases_lt q flow.width) [
    | inl lt ↦
        flow.moves block (flow.transfer block v) (flow.transfer_value block v value) q lt ∙ ap (λ c. (c && flow.kept block q) || flow.written block q) (flow.moves block v value q lt)
        ∙ again (contains v q) (flow.kept block q) (flow.written block q) ∙ sym (flow.moves block v value q lt)
    | inr ge ↦
        (flow.values _).0 (flow.transfer_value block _ (flow.transfer_value block v value)) q ge ∙ sym ((flow.values _).0 (flow.transfer_value block v value) q ge)
  ])

  -- what a block has made of its value stays where the value meets it
  pub made_stays : (block : ℕ) (v : Numbers) → flow.IsValue v → flow.transfer block (flow.meet v (flow.transfer block v)) ≡ flow.transfer block v
  made_stays block v value =
      let t = flow.transfer block v in
      let tv = flow.transfer_value block v value in
      flow.distributes block v t value tv ∙ ap (flow.meet t) (twice block v value) ∙ flow.repeats t tv

-- the sets of rows by their number
pub at_sets : (rows : List (List Bool)) (count b : ℕ) → b < count → slice_get (sets_at rows 0 count) b ≡ Some (set_at rows b)
at_sets rows count b lt =
    slice_get-get_or (sets_at rows 0 count) b (set_at rows b) (omega (arith, lt, length-map-range_with_len (λ row. set_at rows (0 + row)) 0 count))
    ∙ ap Some (at_index (λ row. set_at rows (0 + row)) count b (set_at rows b) lt ∙ ap (set_at rows) (zero-add b))

pub there_same : (rows : List (List Bool)) (to : ℕ) (r : List Bool) → to < length rows → set_at (set rows to r) to ≡ set_of r
there_same rows to r lt = ap set_of (get_or-set_same rows to r [] lt)

pub elsewhere : (rows : List (List Bool)) (to b : ℕ) (r : List Bool) → (b ≡ to → ⊥) → set_at (set rows to r) b ≡ set_at rows b
elsewhere rows to b r ne = ap set_of (get_or-set_other rows to b r [] ne)

pub sets_set : (rows : List (List Bool)) (count to : ℕ) (r : List Bool) → to < length rows → sets_at (set rows to r) 0 count ≡ set (sets_at rows 0 count) to (set_of r)
sets_set rows count to r lt = made_set (λ row. set_at rows (0 + row)) (λ row. set_at (set rows to r) (0 + row)) count to (set_of r)
    (ap (set_at (set rows to r)) (zero-add to) ∙ there_same rows to r lt)
    (λ j less ne. elsewhere rows to (0 + j) r (λ q. ne (sym (zero-add j) ∙ q)))

-- the sets of the first rows are not changed by a write behind them
pub sets_before : (rows : List (List Bool)) (count to : ℕ) (r : List Bool) → count ≤ to → sets_at (set rows to r) 0 count ≡ sets_at rows 0 count
sets_before rows count to r le = same_made (λ row. set_at (set rows to r) (0 + row)) (λ row. set_at rows (0 + row)) count (λ j less. elsewhere rows to (0 + j) r (λ q. omega (arith, q)))

pub table_rows : (rows width : ℕ) (bits : ℕ → ℕ → Bool) → length (table rows width bits) ≡ rows
table_rows rows width bits = length-map-range_with_len (λ row. map (bits row) (range_with_len 0 width)) 0 rows
