-- Rows that are read bit by bit.
use Rattle.std.proofs.Common.{◌≡◌, ℕ, ◌+◌, ◌<◌, ◌||◌, inl, inr, Bool, true, false, List, [], ◌∷◌, ◌++◌, length, take, get_or, sym, ap, ◌∙◌, arith, zero-add}
use Rattle.std.specs.Cmp.{nat_cmp_total, unsigned_tied}
use Rattle.std.specs.FinSet.{contains, insert, contains-insert}
use Rattle.std.proofs.lemmas.Bool.{cases_eq, cases_lt, eq-eqb, ne_eqb}
use Rattle.std.proofs.lemmas.List.{get_or_past, length-take-le, get_or-take}
use Rattle.std.proofs.lemmas.List.FromFn.{map-range_with_len_more}
use Rattle.graph_solve_problem.specs.SetLaws.{equal}
use Rattle.graph_solve.specs.Rows.{set_of, set_at, sets_at}
use Rattle.graph_solve.proofs.Bitsets.{in_row}

-- whether a bit is in the first part of a row and one more
first_part : (row : List Bool) (k q : ℕ) → k < length row → (q ≡ k → ⊥) → get_or (take (k + 1) row) q false ≡ get_or (take k row) q false
first_part row k q lt ne = elim (cases_lt q k) [
  | inl less ↦ get_or-take (k + 1) row q false (omega arith) ∙ sym (get_or-take k row q false less)
  | inr ge ↦
      get_or_past (take (k + 1) row) q false (omega (arith, length-take-le (k + 1) row (omega (arith, lt)), ne, ge))
      ∙ sym (get_or_past (take k row) q false (omega (arith, length-take-le k row (omega (arith, lt)), ge)))
]

pub set_more : (row : List Bool) (k : ℕ) → k < length row → get_or row k false ≡ true → insert (set_of (take k row)) k ≡ set_of (take (k + 1) row)
set_more row k lt is = equal _ _ (λ q. contains-insert nat_cmp_total (set_of (take k row)) k q ∙ elim (cases_eq q k) [
  | inl e ↦
      ap (λ b. b || contains (set_of (take k row)) q) (unsigned_tied q k ∙ eq-eqb q k e)
      ∙ sym (in_row (take (k + 1) row) q ∙ ap (λ n. get_or (take (k + 1) row) n false) e ∙ get_or-take (k + 1) row k false (omega arith) ∙ is)
  | inr ne ↦
      ap (λ b. b || contains (set_of (take k row)) q) (unsigned_tied q k ∙ ne_eqb q k ne) ∙ in_row (take k row) q ∙ sym (first_part row k q lt ne) ∙ sym (in_row (take (k + 1) row) q)
])

pub set_left : (row : List Bool) (k : ℕ) → k < length row → get_or row k false ≡ false → set_of (take k row) ≡ set_of (take (k + 1) row)
set_left row k lt is = equal _ _ (λ q. in_row (take k row) q ∙ elim (cases_eq q k) [
  | inl e ↦
      ap (λ n. get_or (take k row) n false) e ∙ get_or_past (take k row) k false (omega (arith, length-take-le k row (omega (arith, lt))))
      ∙ sym (in_row (take (k + 1) row) q ∙ ap (λ n. get_or (take (k + 1) row) n false) e ∙ get_or-take (k + 1) row k false (omega arith) ∙ is)
  | inr ne ↦ sym (first_part row k q lt ne) ∙ sym (in_row (take (k + 1) row) q)
])

pub sets_more : (rows : List (List Bool)) (from k : ℕ) → sets_at rows from (k + 1) ≡ sets_at rows from k ++ set_at rows (from + k) ∷ []
sets_more rows from k = map-range_with_len_more (λ row. set_at rows (from + row)) 0 k k (zero-add k)
