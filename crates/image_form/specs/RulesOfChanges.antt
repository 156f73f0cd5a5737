-- The rules of changes and of the tables of flow and assignments.
use Rattle.std.specs.Prelude.{◌≡◌, ◌≢◌, ℕ, ◌<◌, ◌≤◌, ◌⊎◌, false, length}
use Rattle.std.specs.List.{AllByRecursion}
use Rattle.debug_records.specs.declared.change.Kind.TheVariants.{Sunk}
use Rattle.image_form.specs.declared.tables.Change.{Change}
use Rattle.image_form.specs.Form.{Form}
use Rattle.image_form.specs.Lists.{EachToNext}
use Rattle.image_form.specs.RulesOfFunctions.{IsPlaceNumber}
use Rattle.image_form_sections.specs.Versions.{has_quiet}

-- what is asked of a change of the log
pub record IsChange (f : Form) (c : Change) : Type 0 where
  pub named : 1 ≤ c.pass_length
  pub short_name : c.pass_length ≤ 16
  pub at_place : IsPlaceNumber f c.place
  pub of_variable : c.variable < length f.variables
  -- that an assignment sank is said in versions with quiet paths alone
  pub none_sunk : has_quiet f.version.level ≡ false → c.kind ≢ Sunk

-- The pair (a, b) comes before the pair (c, d): by the first number, then by the second.
abbrev pub IsPairBefore : ℕ → ℕ → ℕ → ℕ → Type 0
IsPairBefore a b c d = (a < c) ⊎ ((a ≡ c) × (b < d))

-- what is asked of the steps of the flow: they are of places, and in order
pub record FlowRules (f : Form) : Type 0 where
  pub each : AllByRecursion (λ p. IsPlaceNumber f p.from × IsPlaceNumber f p.to) f.flow
  pub ascend : EachToNext (λ p q. IsPairBefore p.from p.to q.from q.to) f.flow

-- what is asked of the assignments: they are of places and variables, and in order
pub record AssignedRules (f : Form) : Type 0 where
  pub each : AllByRecursion (λ p. IsPlaceNumber f p.place × (p.variable < length f.variables)) f.assigned
  pub ascend : EachToNext (λ p q. IsPairBefore p.place p.variable q.place q.variable) f.assigned
