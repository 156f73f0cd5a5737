-- Rows as sets, where one of them changes.
use Rattle.std.proofs.Common.{nat_cmp, ◌≡◌, ℕ, ◌<◌, ◌≤◌, ◌||◌, ◌&&◌, inl, inr, Bool, true, false, List, [], ◌∷◌, ◌+◌, length, map, replicate, get_or, refl, sym, ap, ◌∙◌, arith}
use Rattle.std.specs.Prelude.{not}
use Rattle.std.specs.Cmp.{nat_cmp_total, unsigned_tied}
use Rattle.std.specs.FinSet.{contains, empty, insert, remove, contains-empty, contains-insert, contains-remove}
use Rattle.std.specs.List.{range_with_len}
use Rattle.std.proofs.Math.ListN.{set}
use Rattle.std.proofs.lemmas.Bool.{cases_eq, cases_lt, eq-eqb, ne_eqb}
use Rattle.std.proofs.lemmas.List.{same_lists, get_or_past, get_or_default, get_or-set_same, get_or-set_other, get_or-replicate, length-replicate, length-set}
use Rattle.std.proofs.lemmas.List.FromFn.{length-map-range_with_len}
use Rattle.bit_rows.specs.Grid.{is_set, passed, row_at, with_bit}
use Rattle.bit_rows.proofs.Bits.{at_index}
use Rattle.graph_solve_problem.specs.SetLaws.{equal}
use Rattle.graph_solve.specs.Rows.{AreSameElsewhere, set_of, set_at, table}
use Rattle.graph_solve.proofs.Bitsets.{in_row, there_same}

-- a row that is written
pub row_elsewhere : (rows : List (List Bool)) (row : ℕ) (r : List Bool) → row < length rows → length r ≡ length (row_at rows row) → AreSameElsewhere row rows (set rows row r)
row_elsewhere rows row r here len = record {
  count = length-set rows row r;
  width = ap length (get_or-set_same rows row r [] here) ∙ len;
  others = λ other ne. get_or-set_other rows row other r [] ne;
}

-- a bit that is written
module _ (rows : List (List Bool)) (row bit : ℕ) (here : row < length rows) where
  abbrev bits : List Bool
  bits = row_at rows row

  pub bit_elsewhere : (b : Bool) → AreSameElsewhere row rows (with_bit rows row bit b)
  bit_elsewhere b = row_elsewhere rows row (set bits bit b) here (length-set bits bit b)

  pub bit_in : bit < length bits → set_at (with_bit rows row bit true) row ≡ insert (set_at rows row) bit
  bit_in within = there_same rows row (set bits bit true) here ∙ equal _ _ (λ q. in_row (set bits bit true) q ∙ elim (cases_eq q bit) [
    | inl e ↦
        ap (λ n. get_or (set bits bit true) n false) e ∙ get_or-set_same bits bit true false within
        ∙ sym (contains-insert nat_cmp_total (set_of bits) bit q ∙ ap (λ b. b || contains (set_of bits) q) (unsigned_tied q bit ∙ eq-eqb q bit e))
    | inr ne ↦
        get_or-set_other bits bit q true false ne
        ∙ sym (contains-insert nat_cmp_total (set_of bits) bit q ∙ ap (λ b. b || contains (set_of bits) q) (unsigned_tied q bit ∙ ne_eqb q bit ne) ∙ in_row bits q)
  ])

  pub bit_out : bit < length bits → set_at (with_bit rows row bit false) row ≡ remove (set_at rows row) bit
  bit_out within = there_same rows row (set bits bit false) here ∙ equal _ _ (λ q. in_row (set bits bit false) q ∙ elim (cases_eq q bit) [
    | inl e ↦
        ap (λ n. get_or (set bits bit false) n false) e ∙ get_or-set_same bits bit false false within
        ∙ sym (contains-remove nat_cmp_total (set_of bits) bit q ∙ ap (λ b. not b && contains (set_of bits) q) (unsigned_tied q bit ∙ eq-eqb q bit e))
    | inr ne ↦
        get_or-set_other bits bit q false false ne
        ∙ sym (contains-remove nat_cmp_total (set_of bits) bit q ∙ ap (λ b. not b && contains (set_of bits) q) (unsigned_tied q bit ∙ ne_eqb q bit ne) ∙ in_row bits q)
  ])

  pub none_out : length bits ≤ bit → set_at rows row ≡ remove (set_at rows row) bit
  none_out past = equal _ _ (λ q. elim (cases_eq q bit) [
    | inl e ↦
        in_row bits q ∙ get_or_past bits q false (omega (arith, past, e))
        ∙ sym (contains-remove nat_cmp_total (set_of bits) bit q ∙ ap (λ b. not b && contains (set_of bits) q) (unsigned_tied q bit ∙ eq-eqb q bit e))
    | inr ne ↦ sym (contains-remove nat_cmp_total (set_of bits) bit q ∙ ap (λ b. not b && contains (set_of bits) q) (unsigned_tied q bit ∙ ne_eqb q bit ne))
  ])

-- rows of a table
pub table_row : (count width : ℕ) (bits : ℕ → ℕ → Bool) (row : ℕ) → row < count → row_at (table count width bits) row ≡ map (bits row) (range_with_len 0 width)
table_row count width bits row lt = at_index (λ row. map (bits row) (range_with_len 0 width)) count row [] lt

pub table_bit : (count width : ℕ) (bits : ℕ → ℕ → Bool) (row bit : ℕ) → row < count → bit < width → is_set (table count width bits) row bit ≡ bits row bit
table_bit count width bits row bit lt less = ap (λ r. get_or r bit false) (table_row count width bits row lt) ∙ at_index (bits row) width bit false less

-- rows of which the first, so many, are told by bits, and the others are all one row
pub record AreFilled (count width : ℕ) (bits : ℕ → ℕ → Bool) (rest : List Bool) (done : ℕ) (rows : List (List Bool)) : Type 0 where
  pub count_is : length rows ≡ count
  pub width_is : (row : ℕ) → row < count → length (row_at rows row) ≡ width
  pub made : (row bit : ℕ) → row < done → bit < width → contains (set_at rows row) bit ≡ bits row bit
  pub left : (row : ℕ) → done ≤ row → row < count → row_at rows row ≡ rest

module _ (count width : ℕ) (bits : ℕ → ℕ → Bool) (rest : List Bool) where
  pub none_filled : (rows : List (List Bool)) → length rows ≡ count → length rest ≡ width → ((row : ℕ) → row < count → row_at rows row ≡ rest) → AreFilled count width bits rest 0 rows
  none_filled rows each wide is = record {
    count_is = each;
    width_is = λ row lt. ap length (is row lt) ∙ wide;
    made = λ row bit lt less. absurd (omega (arith, lt));
    left = λ row le lt. is row lt;
  }

  pub one_filled : (old new : List (List Bool)) (done : ℕ) → done < count → AreSameElsewhere done old new → ((bit : ℕ) → bit < width → contains (set_at new done) bit ≡ bits done bit) → AreFilled count width bits rest done old → AreFilled count width bits rest (done + 1) new
  one_filled old new done lt same told are = record {
    count_is = same.count ∙ are.count_is;
    width_is = λ row less. elim (cases_eq row done) [
      | inl e ↦ ap (λ r. length (row_at new r)) e ∙ same.width ∙ are.width_is done lt
      | inr ne ↦ ap length (same.others row ne) ∙ are.width_is row less
    ];
    made = λ row bit less within. elim (cases_eq row done) [
      | inl e ↦ ap (λ r. contains (set_at new r) bit) e ∙ told bit within ∙ sym (ap (λ r. bits r bit) e)
      | inr ne ↦ ap (λ r. contains (set_of r) bit) (same.others row ne) ∙ are.made row bit (omega (arith, less, ne)) within
    ];
    left = λ row le less. same.others row (λ e. absurd (omega (arith, le, e))) ∙ are.left row (omega (arith, le)) less;
  }

  pub all_filled : (rows : List (List Bool)) (done : ℕ) → count ≤ done → AreFilled count width bits rest done rows → rows ≡ table count width bits
  all_filled rows done le are =
      same_lists rows (table count width bits) (are.count_is ∙ sym (length-map-range_with_len (λ row. map (bits row) (range_with_len 0 width)) 0 count)) rows_same
    where
      bits_same : (row : ℕ) → row < count → (bit : ℕ) (d : Bool) → bit < length (row_at rows row) → get_or (row_at rows row) bit d ≡ get_or (map (bits row) (range_with_len 0 width)) bit d
      bits_same row lt bit d less =
          let within : bit < width = omega (arith, less, are.width_is row lt) in
          get_or_default (row_at rows row) bit d false less ∙ sym (in_row (row_at rows row) bit) ∙ are.made row bit (omega (arith, lt, le)) within ∙ sym (at_index (bits row) width bit d within)

      row_same : (row : ℕ) → row < count → row_at rows row ≡ map (bits row) (range_with_len 0 width)
      row_same row lt = same_lists (row_at rows row) (map (bits row) (range_with_len 0 width)) (are.width_is row lt ∙ sym (length-map-range_with_len (bits row) 0 width)) (bits_same row lt)

      rows_same : (row : ℕ) (d : List Bool) → row < length rows → get_or rows row d ≡ get_or (table count width bits) row d
      rows_same row d less =
          let lt : row < count = omega (arith, less, are.count_is) in
          get_or_default rows row d [] less ∙ row_same row lt ∙ sym (at_index (λ row. map (bits row) (range_with_len 0 width)) count row d lt)

-- a clear row is the empty set, and in a full one is each number below the width
pub clear_set : (width : ℕ) → set_of (replicate width false) ≡ empty
clear_set width = equal _ _ (λ q. in_row (replicate width false) q ∙ elim (cases_lt q width) [
  | inl lt ↦ get_or-replicate width q false false lt ∙ sym (contains-empty nat_cmp q)
  | inr ge ↦ get_or_past (replicate width false) q false (omega (arith, ge, length-replicate width false)) ∙ sym (contains-empty nat_cmp q)
])

pub full_set : (width bit : ℕ) → bit < width → contains (set_of (map (λ q. true) (range_with_len 0 width))) bit ≡ true
full_set width bit lt = in_row (map (λ q. true) (range_with_len 0 width)) bit ∙ at_index (λ q. true) width bit false lt

-- what a row keeps of any row by itself, with itself, is the row
absorbed_bit : (a b : Bool) → ((a && b) || b) ≡ b
absorbed_bit true true = refl
absorbed_bit true false = refl
absorbed_bit false true = refl
absorbed_bit false false = refl

pub absorbed : (a b : List Bool) → length a ≡ length b → passed a b b ≡ b
absorbed [] [] len = refl
absorbed [] (y ∷ b) len = absurd (omega (arith, len))
absorbed (x ∷ a) [] len = absurd (omega (arith, len))
absorbed (x ∷ a) (y ∷ b) len = cons_same (absorbed_bit x y) (absorbed a b (omega (arith, len)))
  where
    cons_same : {p q : Bool} {xs ys : List Bool} → p ≡ q → xs ≡ ys → (p ∷ xs) ≡ (q ∷ ys)
    cons_same {p} {q} {xs} {ys} e f = ap (λ z. z ∷ xs) e ∙ ap (λ zs. q ∷ zs) f
