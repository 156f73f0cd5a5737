-- WHAT THE REMOVAL OF DEAD ASSIGNMENTS LOGS: few changes, each in a place of the unit, of a variable of it.
use Rattle.std.proofs.Common.{ℕ, ◌≤◌, List, ◌∷◌, length, arith}
use Rattle.std.specs.List.{AllByRecursion}
use Rattle.memory_map.specs.declared.map.Room.{Room}
use Rattle.memory_map.specs.declared.map.Room.TheVariants.{Small, Large}
use Rattle.debug_records.specs.declared.change.PassName.{PassName}
use Rattle.debug_records.specs.declared.change.Kind.TheVariants.{Removed}
use Rattle.graph_core.specs.Bounds.{most_instructions}
use Rattle.graph_core.specs.Graphs.{UnitForm}
use Rattle.graph_core.specs.WellMarked.{AreWellMarked}
use Rattle.pass_law.specs.declared.cases.Case.{Case}
use Rattle.pass_law.specs.Changes.{AddsChangesOf, IsCaseOf}
use Rattle.pass_law.specs.Logs.{LogsWell, most_changes}
use Rattle.pass_law.proofs.FewCases.{AreApart}
use Rattle.pass_law.proofs.LoggedWell.{logged_well, place_marked}
use Rattle.dead_pass_notes.specs.Writes.{IsRemovedWrite}
use Rattle.dead_pass_notes.proofs.FewWrites.{few_writes}

-- A unit has fewer instructions than changes may be logged.
few_changes : (room : Room) → most_instructions room ≤ most_changes room
few_changes Small = omega (arith)
few_changes Large = omega (arith)

module _ (u v : UnitForm) (pass : PassName) (marked : AreWellMarked u) (changes : AddsChangesOf pass Removed (λ before after. IsRemovedWrite u.assignments before) u v) where
  -- a case of a function of the unit
  abbrev IsOfUnit : ℕ × Case → Type 0
  IsOfUnit c = IsCaseOf (λ before after. IsRemovedWrite u.assignments before) u.graphs v.graphs c

  -- In all functions there are few.
  few : (cases : List (ℕ × Case)) → AllByRecursion IsOfUnit cases → AreApart cases → length cases ≤ most_changes u.room
  few cases are apart =
      let all = few_writes u.assignments u.graphs v.graphs cases are apart in
      let valid = marked.valid.instructions in
      let most = few_changes u.room in
      omega (arith, all, valid, most)

  -- WHAT THE REMOVAL OF DEAD ASSIGNMENTS LOGS IS LOGGED WELL.
  pub dead_logs_well : LogsWell pass u v
  dead_logs_well = logged_well pass Removed (λ before after. IsRemovedWrite u.assignments before) u v changes (λ e. absurd cc) few
      (λ c is. place_marked u marked c.0 is.before is.stood c.1.place.0 c.1.block (is.case.instruction ∷ is.case.rest) is.case.end is.case.stood)
      (λ c is. record { function = c.0; graph = is.before; x = is.case.x; is = is.stood; of = is.case.variable })
