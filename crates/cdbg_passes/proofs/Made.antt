-- What a pass made is what its clauses say.
use Rattle.std.specs.Prelude.{IfOk, Result, Ok, Err}
use Rattle.graph_core.specs.declared.unit.Unit as declared-unit
use Rattle.graph_core.specs.Graphs.{UnitForm, unit_view}
use Rattle.graph_core.specs.Validity.{IsValid}
use Rattle.graph_core.specs.WellMarked.{AreWellMarked}
use Rattle.pass_law.specs.Keeps.{Keeps}
use Rattle.pass_law.specs.Kept.{ShareTheSame}
use Rattle.pass_law.specs.Relations.{IsKeptStep}
use Rattle.cdbg_passes.specs.Steps.{MakesValid}

-- where it has two properties it has each that follows from them
of_both : {E : Type 0} (made : Result declared-unit.Unit E) (One Other Both : declared-unit.Unit → Type 0) → ((v : declared-unit.Unit) → One v → Other v → Both v)
    → IfOk made One → IfOk made Other → IfOk made Both
of_both (Ok v) One Other Both follows one other = follows v one other
of_both (Err e) One Other Both follows one other = tt

-- and where it has three
pub of_three : {E : Type 0} (made : Result declared-unit.Unit E) (One Other Third All : declared-unit.Unit → Type 0) → ((v : declared-unit.Unit) → One v → Other v → Third v → All v)
    → IfOk made One → IfOk made Other → IfOk made Third → IfOk made All
of_three (Ok v) One Other Third All follows one other third = follows v one other third
of_three (Err e) One Other Third All follows one other third = tt

-- and where it has four
pub of_four : {E : Type 0} (made : Result declared-unit.Unit E) (One Other Third Fourth All : declared-unit.Unit → Type 0) → ((v : declared-unit.Unit) → One v → Other v → Third v → Fourth v → All v)
    → IfOk made One → IfOk made Other → IfOk made Third → IfOk made Fourth → IfOk made All
of_four (Ok v) One Other Third Fourth All follows one other third fourth = follows v one other third fourth
of_four (Err e) One Other Third Fourth All follows one other third fourth = tt

-- What is made is valid and shares what functions share.
pub made_valid : {E : Type 0} (u : UnitForm) (made : Result declared-unit.Unit E) → IfOk made (λ v. IsValid (unit_view v)) → IfOk made (λ v. ShareTheSame u (unit_view v))
    → IfOk made (λ v. MakesValid u (unit_view v))
made_valid u made valid shared = of_both made (λ v. IsValid (unit_view v)) (λ v. ShareTheSame u (unit_view v)) (λ v. MakesValid u (unit_view v)) (λ v one other. record { valid = one; shared = other }) valid shared

-- What is made by a step of a well marked unit is made by one that keeps what the unit does, where each such step keeps that.
pub made_kept : {E : Type 0} (Step : UnitForm → UnitForm → Type 0) → ((u v : UnitForm) → AreWellMarked u → Step u v → Keeps u v)
    → (u : UnitForm) (made : Result declared-unit.Unit E) → AreWellMarked u → IfOk made (λ v. Step u (unit_view v)) → IfOk made (λ v. IsKeptStep Step u (unit_view v))
made_kept Step kept u (Ok v) marked step = record { step = step; keeps = kept u (unit_view v) marked step }
made_kept Step kept u (Err e) marked step = tt

-- What is made by a step that keeps what the unit does is so, where each step of a well marked unit is so.
pub made_so : {E : Type 0} (Step Is : UnitForm → UnitForm → Type 0) → ((u v : UnitForm) → AreWellMarked u → Step u v → Is u v)
    → (u : UnitForm) (made : Result declared-unit.Unit E) → IfOk made (λ v. IsKeptStep Step u (unit_view v)) → IfOk made (λ v. Is u (unit_view v))
made_so Step Is lawful u (Ok v) step = lawful u (unit_view v) step.keeps.marked step.step
made_so Step Is lawful u (Err e) step = tt
