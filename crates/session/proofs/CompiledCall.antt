-- Why a source is not compiled, and what is said of the last unit of a trail.
use Rattle.std.proofs.Common.{◌≡◌, ℕ, ◌<◌, List, length, get_or, map, subst, sym}
use Rattle.std.specs.Prelude.{IsSomeAnd}
use Rattle.c_source.specs.Sources.{HasProgram}
use Rattle.debug_records.specs.declared.change.PassName.{PassName}
use Rattle.graph_core.specs.declared.unit.Unit as unit
use Rattle.graph_core.specs.Graphs.{UnitForm, unit_view}
use Rattle.pass_law.specs.Trails.{OfLast}
use Rattle.pass_law.proofs.KeptTrails.{unit_at}
use Rattle.session.specs.Building.{IsBuildReason, IsListReason, IsSourceReason}
use Rattle.session.specs.declared.building.BuildErr.{BuildErr}
use Rattle.session.specs.declared.building.BuildErr.TheVariants.{NoMemory, Source, UnknownPass}

module _ {P : Type 0} (named : P → PassName) (passes : List P) (text : List ℕ) (names : List PassName) where
  -- a source that has no program is not compiled for that reason
  pub source_reason : (e : BuildErr) → IsSourceReason text e → IsBuildReason named passes text names e
  source_reason (Source code line) why = why
  source_reason (UnknownPass index) why = absurd why
  source_reason NoMemory why = tt

  -- a source of a program is not compiled where its list of passes is not run
  pub list_reason : HasProgram text → (e : BuildErr) → IsListReason named passes names e → IsBuildReason named passes text names e
  list_reason has (Source code line) why = absurd why
  list_reason has (UnknownPass index) why = (has, why)
  list_reason has NoMemory why = tt

-- what is said of the last unit is said of the unit at its index
pub last_holds : (P : UnitForm → Type 0) (units : List unit.Unit) (i : ℕ) (u : unit.Unit) → i < length units → u ≡ get_or units i u → OfLast (map unit_view units) i P → P (unit_view u)
last_holds P units i u within is holds = subst (λ o. IsSomeAnd o P) (unit_at units i u within is) holds

-- and what is said of the unit at its index is said of the last
pub holds_last : (P : UnitForm → Type 0) (units : List unit.Unit) (i : ℕ) (u : unit.Unit) → i < length units → u ≡ get_or units i u → P (unit_view u) → OfLast (map unit_view units) i P
holds_last P units i u within is holds = subst (λ o. IsSomeAnd o P) (sym (unit_at units i u within is)) holds
