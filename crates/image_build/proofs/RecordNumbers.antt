-- What the numbers of a record say of it in each version.
use Rattle.std.proofs.Common.{◌≡◌, ℕ, true, List, [], ◌∷◌, map, refl, sym, ap, ◌∙◌}
use Rattle.std.specs.Prelude.{get_or, take, unwrap_or}
use Rattle.image_form.specs.Numbers.{function_numbers, last_if, row_numbers, verdict_numbers, verdict_then}
use Rattle.image_form.specs.Versions.{has_quiet}
use Rattle.image_form_sections.specs.declared.version.Level.{Level}
use Rattle.image_form.specs.declared.tables.Function.{Function}
use Rattle.image_form.specs.declared.verdicts.Verdict.{Verdict}
use Rattle.image_form.specs.declared.verdicts.Verdict.TheVariants as verdict
use Rattle.image_form.specs.declared.verdicts.VisibleRow.{VisibleRow}
use Rattle.image_build_tables.specs.Spans.{Span, span}
use Rattle.image_build_tables.specs.Variables.{entry, name_length}

-- What is read off the numbers of records is the same where the numbers are.
module _ {A B : Type 0} (numbers : A → List ℕ) (of_numbers : List ℕ → B) (view : A → B) (back : (x : A) → of_numbers (numbers x) ≡ view x) where
  views_by : (xs : List A) → map of_numbers (map numbers xs) ≡ map view xs
  views_by [] = refl
  views_by (x ∷ xs) = let first = back x in let rest = views_by xs in (λ i. first i ∷ rest i)

  pub views_same : (xs ys : List A) → map numbers xs ≡ map numbers ys → map view xs ≡ map view ys
  views_same xs ys e = sym (views_by xs) ∙ ap (map of_numbers) e ∙ views_by ys

-- ---- Functions

span_by : List ℕ → Span
span_by numbers = record { first = get_or numbers 1 0; end = get_or numbers 2 0; frame = get_or numbers 3 0 }

span_back : (level : Level) (f : Function) → span_by (function_numbers level f) ≡ span f
unfolding span_by
span_back level f = refl

-- functions of the same numbers lie where they do,
pub spans_same : (level : Level) (xs ys : List Function) → map (function_numbers level) xs ≡ map (function_numbers level) ys → map span xs ≡ map span ys
spans_same level xs ys e = views_same (function_numbers level) span_by span (span_back level) xs ys e

-- begin at the same places,
pub entries_same : (level : Level) (xs ys : List Function) → map (function_numbers level) xs ≡ map (function_numbers level) ys → map entry xs ≡ map entry ys
entries_same level xs ys e = views_same (function_numbers level) (λ (ns : List ℕ). get_or ns 4 0) entry (λ f. refl) xs ys e

-- and have names of the same lengths
pub name_lengths_same : (level : Level) (xs ys : List Function) → map (function_numbers level) xs ≡ map (function_numbers level) ys → map name_length xs ≡ map name_length ys
name_lengths_same level xs ys e = views_same (function_numbers level) (λ (ns : List ℕ). get_or ns 0 0) name_length (λ f. refl) xs ys e

-- ---- Rows

verdict_front : (v : Verdict) (more : List ℕ) → take 4 (verdict_then v more) ≡ verdict_numbers v
verdict_front verdict.Home more = refl
verdict_front (verdict.Recovered change node) more = refl
verdict_front (verdict.Noncurrent change start writer) more = refl
verdict_front (verdict.Nonresident change start writer) more = refl

row_front : (level : Level) (r : VisibleRow) → take 6 (row_numbers level r) ≡ r.place ∷ r.variable ∷ verdict_numbers r.verdict
row_front level r = ap (λ (l : List ℕ). r.place ∷ r.variable ∷ l) (verdict_front r.verdict (last_if (has_quiet level) (unwrap_or r.quiet 0)))

-- Rows of the same numbers are of the same place and variable, and their verdicts have the same numbers.
pub plain_same : (level : Level) (q r : VisibleRow) → row_numbers level q ≡ row_numbers level r → q.place ∷ q.variable ∷ verdict_numbers q.verdict ≡ r.place ∷ r.variable ∷ verdict_numbers r.verdict
plain_same level q r e = sym (row_front level q) ∙ ap (take 6) e ∙ row_front level r

verdict_last : (v : Verdict) (n : ℕ) → get_or (verdict_then v (n ∷ [])) 4 0 ≡ n
verdict_last verdict.Home n = refl
verdict_last (verdict.Recovered change node) n = refl
verdict_last (verdict.Noncurrent change start writer) n = refl
verdict_last (verdict.Nonresident change start writer) n = refl

row_last : (level : Level) (r : VisibleRow) → has_quiet level ≡ true → get_or (row_numbers level r) 6 0 ≡ unwrap_or r.quiet 0
row_last level r tells = ap (λ b. get_or (verdict_then r.verdict (last_if b (unwrap_or r.quiet 0))) 4 0) tells ∙ verdict_last r.verdict (unwrap_or r.quiet 0)

-- Where a version tells of quiet paths, those of rows of the same numbers begin at the same place; 0 stands for none.
pub quiet_same : (level : Level) (q r : VisibleRow) → has_quiet level ≡ true → row_numbers level q ≡ row_numbers level r → unwrap_or q.quiet 0 ≡ unwrap_or r.quiet 0
quiet_same level q r tells e = sym (row_last level q tells) ∙ ap (λ (ns : List ℕ). get_or ns 6 0) e ∙ row_last level r tells
