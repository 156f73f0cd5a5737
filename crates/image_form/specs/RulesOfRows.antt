-- The rules of visible rows.
use Rattle.std.specs.Prelude.{◌≡◌, ℕ, ◌<◌, true, false, Option, Some, None, slice_get, IsSomeAnd, Contains, length, ⊤}
use Rattle.std.specs.List.{AllByRecursion}
use Rattle.debug_records.specs.declared.change.Kind.{Kind}
use Rattle.debug_records.specs.Change.{is_taken}
use Rattle.image_form.specs.declared.verdicts.Verdict.{Verdict}
use Rattle.image_form.specs.declared.verdicts.Verdict.TheVariants.{Home, Recovered, Noncurrent, Nonresident}
use Rattle.image_form.specs.Form.{Form, numbered}
use Rattle.image_form.specs.Lists.{EachToNext}
use Rattle.image_form.specs.RulesOfChanges.{IsPairBefore}
use Rattle.image_form.specs.RulesOfFunctions.{IsCodeAddress, IsPlaceNumber}
use Rattle.image_form_sections.specs.Versions.{has_quiet}

-- The variable belongs to the function of the place.
abbrev pub IsVisible : Form → ℕ → ℕ → Type 0
IsVisible f place variable =
    IsSomeAnd (numbered f.places place)
    (λ p. IsSomeAnd (slice_get f.variables variable) (λ v. v.function ≡ Some p.function))

-- The writer of a change of this kind: none where an assignment went, else the address of a code word.
abbrev pub IsWriter : Form → Kind → Option ℕ → Type 0
IsWriter f kind None = is_taken kind ≡ true
IsWriter f kind (Some address) = (is_taken kind ≡ false) × IsCodeAddress f address

-- A change of the variable, a start place, and a writer that fits the change.
abbrev pub IsEvidence : Form → ℕ → ℕ → ℕ → Option ℕ → Type 0
IsEvidence f variable change start writer =
    IsSomeAnd (numbered f.changes change) (λ c. (c.variable ≡ variable) × IsWriter f c.kind writer)
    × IsPlaceNumber f start

-- What a verdict on the variable may name.
abbrev pub IsVerdict : Form → ℕ → Verdict → Type 0
IsVerdict f variable Home = ⊤
IsVerdict f variable (Recovered change node) =
    IsSomeAnd (numbered f.changes change) (λ c. c.variable ≡ variable) × (node < length f.nodes)
IsVerdict f variable (Noncurrent change start writer) = IsEvidence f variable change start writer
IsVerdict f variable (Nonresident change start writer) = IsEvidence f variable change start writer

-- No change took an assignment of a variable from a place.
abbrev pub IsNotTaken : Form → (place variable : ℕ) → Type 0
IsNotTaken f place variable =
    AllByRecursion (λ c. c.place ≡ place → c.variable ≡ variable → is_taken c.kind ≡ false) f.changes

-- A quiet path of a variable may begin at a place: it assigns the variable, and no change took that assignment.
abbrev pub MayBeQuiet : Form → (place variable : ℕ) → Type 0
MayBeQuiet f place variable =
    Contains f.assigned (record { place = place; variable = variable }) × IsNotTaken f place variable

-- A quiet path begins at a place. None is told of a variable that is shown.
abbrev pub IsQuietStart : Form → (variable : ℕ) → Verdict → Option ℕ → Type 0
IsQuietStart f variable v None = ⊤
IsQuietStart f variable Home (Some start) = ⊥
IsQuietStart f variable (Recovered change node) (Some start) = ⊥
IsQuietStart f variable (Noncurrent change start writer) (Some quiet) = MayBeQuiet f quiet variable
IsQuietStart f variable (Nonresident change start writer) (Some quiet) = MayBeQuiet f quiet variable

-- what is asked of the rows: each is of a variable that is visible at its place, and its verdict is one
pub record RowRules (f : Form) : Type 0 where
  pub visible : AllByRecursion (λ r. IsVisible f r.place r.variable) f.rows
  pub verdicts : AllByRecursion (λ r. IsVerdict f r.variable r.verdict) f.rows
  pub quiet : AllByRecursion (λ r. IsQuietStart f r.variable r.verdict r.quiet) f.rows
  -- Only some versions tell where quiet paths begin.
  pub none_quiet : has_quiet f.version.level ≡ false → AllByRecursion (λ r. r.quiet ≡ None) f.rows
  pub ascend : EachToNext (λ r s. IsPairBefore r.place r.variable s.place s.variable) f.rows
