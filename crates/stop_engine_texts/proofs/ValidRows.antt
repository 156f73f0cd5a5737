-- The rows of an image keep its rules.
use Rattle.std.proofs.Common.{◌≡◌, ℕ, zero, suc, ◌<◌, ◌≤◌, Option, Some, None, List, length, get_or, IsSomeAnd, refl, arith, All}
use Rattle.std.proofs.lemmas.Option.{slice_get-get_or, slice_get_within}
use Rattle.std.specs.Prelude.{slice_get}
use Rattle.image_form.specs.Form.{Form, numbered}
use Rattle.image_form.specs.Rules.{IsImage}
use Rattle.image_form.specs.RulesOfRows.{IsVerdict, IsVisible}
use Rattle.image_form.specs.declared.tables.Place.{Place}
use Rattle.image_form.specs.declared.variables.Variable.{Variable}
use Rattle.image_form.specs.declared.verdicts.Verdict.{Verdict}
use Rattle.image_form.specs.declared.verdicts.Verdict.TheVariants.{Home, Recovered, Noncurrent, Nonresident}
use Rattle.image_form.specs.declared.verdicts.VisibleRow.{VisibleRow}
use Rattle.image_form.proofs.TableLaws.{each_at}
use Rattle.stop_engine_texts.specs.Rows.{IsRow, NamesChange}

-- a number of which something is known is one of the records
numbered_within : {A : Type 0} (xs : List A) (n : ℕ) (P : A → Type 0) (o : Option A) → numbered xs n ≡ o → IsSomeAnd o P → (1 ≤ n) × (n ≤ length xs)
numbered_within xs n P None e h = absurd h
numbered_within xs zero P (Some x) e h = absurd cc
numbered_within xs (suc i) P (Some x) e h = let within = slice_get_within xs i x e in (omega arith, omega arith)

index_within : {A : Type 0} (xs : List A) (i : ℕ) (P : A → Type 0) (o : Option A) → slice_get xs i ≡ o → IsSomeAnd o P → i < length xs
index_within xs i P None e h = absurd h
index_within xs i P (Some x) e h = slice_get_within xs i x e

visible_variable : (m : Form) (variable : ℕ) (o : Option Place) → IsSomeAnd o (λ (p : Place). IsSomeAnd (slice_get m.variables variable) (λ (v : Variable). v.function ≡ Some p.function)) → variable < length m.variables
visible_variable m variable None h = absurd h
visible_variable m variable (Some p) h = index_within m.variables variable (λ (v : Variable). v.function ≡ Some p.function) (slice_get m.variables variable) refl h

names_change : (m : Form) (variable : ℕ) (v : Verdict) → IsVerdict m variable v → NamesChange m v
names_change m variable Home is = tt
names_change m variable (Recovered change node) is = numbered_within m.changes change _ (numbered m.changes change) refl is.0
names_change m variable (Noncurrent change start writer) is = numbered_within m.changes change _ (numbered m.changes change) refl is.0
names_change m variable (Nonresident change start writer) is = numbered_within m.changes change _ (numbered m.changes change) refl is.0

pub rows_valid : (m : Form) → IsImage m → All (IsRow m) m.rows
rows_valid m image k d lt =
    let r : VisibleRow = get_or m.rows k d in
    let at : slice_get m.rows k ≡ Some r = slice_get-get_or m.rows k d lt in
    let visible : IsVisible m r.place r.variable = each_at (λ (r : VisibleRow). IsVisible m r.place r.variable) m.rows k r image.rows.visible at in
    record {
      place = numbered_within m.places r.place _ (numbered m.places r.place) refl visible;
      variable = visible_variable m r.variable (numbered m.places r.place) visible;
      change = names_change m r.variable r.verdict (each_at (λ (r : VisibleRow). IsVerdict m r.variable r.verdict) m.rows k r image.rows.verdicts at);
    }
