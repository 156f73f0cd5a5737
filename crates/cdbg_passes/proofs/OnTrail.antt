-- Lawful steps, by which passes lead from one unit to another, are steps on a trail.
use Rattle.std.proofs.Common.{inl, inr, ℕ, List, [], ◌∷◌}
use Rattle.debug_records.specs.declared.change.PassName.{PassName}
use Rattle.graph_core.specs.Graphs.{UnitForm}
use Rattle.pass_law.specs.Keeps.{Keeps}
use Rattle.pass_law.specs.Leading.{IsLawfulStep, Lead}
use Rattle.cdbg_passes.specs.Earned.{AreEarned}
use Rattle.cdbg_passes.specs.Trail.{IsOnTrail, IsStepOfProgram}
use Rattle.cdbg_passes.proofs.ComputedOnce.{are_optimal}
use Rattle.cdbg_passes.proofs.CopiesEarned.{copies_earned}
use Rattle.cdbg_passes.proofs.DeadEarned.{dead_earned}
use Rattle.cdbg_passes.proofs.MotionEarned.{motion_earned}

earned : (u v : UnitForm) → Keeps u v → IsStepOfProgram u v → AreEarned u v
earned u v keeps (inl copies) = copies_earned u v copies
earned u v keeps (inr (inl moves)) = motion_earned u v keeps.marked moves
earned u v keeps (inr (inr dead)) = dead_earned u v keeps.marked dead

on_trail : (pass : PassName) (steps : UnitForm → UnitForm → Type 0) (u v : UnitForm) → IsLawfulStep pass steps u v → IsOnTrail pass steps u v
on_trail pass steps u v is = record { step = is.step; keeps = is.keeps; logs = is.logs; earned = earned u v is.keeps; optimal = are_optimal u v is.keeps.marked }

-- So it is with each step by which names lead.
pub trails : {P : Type 0} (named : P → PassName) (steps : P → UnitForm → UnitForm → Type 0) (passes : List P) (names : List (List ℕ)) (u v : UnitForm)
    → Lead named (λ p. IsLawfulStep (named p) (steps p)) passes names u v → Lead named (λ p. IsOnTrail (named p) (steps p)) passes names u v
trails named steps passes [] u v same = same
trails named steps passes (name ∷ more) u v (w, first, rest) = (w, record { pass = first.pass; first = first.first; step = on_trail (named first.pass) (steps first.pass) u w first.step }, trails named steps passes more w v rest)
