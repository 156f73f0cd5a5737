-- How many bits of rows are set.
use Rattle.std.proofs.Common.{◌≡◌, ℕ, zero, suc, ◌+◌, ◌*◌, ◌<◌, ◌≤◌, Bool, true, false, List, [], ◌∷◌, length, refl, ap, ◌∙◌, subst, arith}
use Rattle.std.specs.Prelude.{slice_set}
use Rattle.std.proofs.lemmas.List.{set-get_or}
use Rattle.bit_rows.specs.Grid.{row_at, met}
use Rattle.graph_paths.specs.Table.{AreWide}
use Rattle.graph_paths.specs.declared.marks.Marks.{Marks}
use Rattle.graph_paths.specs.PathMarksTable.{set_in, set_in_all, told}

pub few_set : (bits : List Bool) → set_in bits ≤ length bits
few_set [] = omega arith
few_set (true ∷ more) = (let h = few_set more in omega (arith, h))
few_set (false ∷ more) = (let h = few_set more in omega (arith, h))

-- what a row is that another one replaces
pub set_with : (rows : List (List Bool)) (to : ℕ) (new : List Bool) → to < length rows → set_in_all (slice_set rows to new) + set_in (row_at rows to) ≡ set_in_all rows + set_in new
set_with [] to new lt = absurd (omega (arith, lt))
set_with (row ∷ more) zero new lt = omega arith
set_with (row ∷ more) (suc to) new lt = (let h = set_with more to new (omega (arith, lt)) in omega (arith, h))

-- a union has no fewer bits, and is the same where it has no more
pub more_met : (from to : List Bool) → length from ≡ length to → set_in to ≤ set_in (met true from to)
more_met [] [] e = omega arith
more_met [] (b ∷ to) e = absurd (omega (arith, e))
more_met (a ∷ from) [] e = absurd (omega (arith, e))
more_met (true ∷ from) (true ∷ to) e = (let h = more_met from to (omega (arith, e)) in omega (arith, h))
more_met (true ∷ from) (false ∷ to) e = (let h = more_met from to (omega (arith, e)) in omega (arith, h))
more_met (false ∷ from) (true ∷ to) e = (let h = more_met from to (omega (arith, e)) in omega (arith, h))
more_met (false ∷ from) (false ∷ to) e = (let h = more_met from to (omega (arith, e)) in omega (arith, h))

pub same_met : (from to : List Bool) → length from ≡ length to → set_in (met true from to) ≤ set_in to → met true from to ≡ to
same_met [] [] e le = refl
same_met [] (b ∷ to) e le = absurd (omega (arith, e))
same_met (a ∷ from) [] e le = absurd (omega (arith, e))
same_met (true ∷ from) (true ∷ to) e le = ap (λ more. true ∷ more) (same_met from to (omega (arith, e)) (omega (arith, le)))
same_met (true ∷ from) (false ∷ to) e le = (let h = more_met from to (omega (arith, e)) in absurd (omega (arith, h, le)))
same_met (false ∷ from) (true ∷ to) e le = ap (λ more. true ∷ more) (same_met from to (omega (arith, e)) (omega (arith, le)))
same_met (false ∷ from) (false ∷ to) e le = ap (λ more. false ∷ more) (same_met from to (omega (arith, e)) (omega (arith, le)))

module _ (rows : List (List Bool)) (to : ℕ) (from : List Bool) (lt : to < length rows) (e : length from ≡ length (row_at rows to)) where
  pub least_told : set_in_all rows ≤ set_in_all (slice_set rows to (met true from (row_at rows to)))
  least_told = omega (arith, set_with rows to (met true from (row_at rows to)) lt, more_met from (row_at rows to) e)

  pub same_told : set_in_all (slice_set rows to (met true from (row_at rows to))) ≤ set_in_all rows → slice_set rows to (met true from (row_at rows to)) ≡ rows
  same_told le =
      let same : met true from (row_at rows to) ≡ row_at rows to = same_met from (row_at rows to) e (omega (arith, set_with rows to (met true from (row_at rows to)) lt, le)) in
      ap (slice_set rows to) same ∙ set-get_or rows to []

-- there are but so many bits
few_in_all : (width : ℕ) (rows : List (List Bool)) → AreWide width rows → set_in_all rows ≤ length rows * width
few_in_all width [] wide = omega arith
few_in_all width (row ∷ more) wide =
    let here : set_in row ≤ width = (let h = few_set row in let e = wide zero (omega arith) in omega (arith, h, e)) in
    let later = few_in_all width more (λ k lt. wide (suc k) (omega (arith, lt))) in
    omega (arith, here, later)

pub few_told : (marks : Marks) → told marks ≤ marks.count * marks.width
few_told marks = subst (λ n. told marks ≤ n * marks.width) marks.each (few_in_all marks.width marks.rows marks.wide)
