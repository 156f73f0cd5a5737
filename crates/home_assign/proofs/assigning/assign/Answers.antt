use Rattle.std.proofs.Common.{◌≡◌, ◌≤◌, refl, map, length, sym, subst, ap, ◌∙◌, arith}
use Rattle.std.proofs.lemmas.List.{length-append}
use Rattle.std.specs.List.{AllByRecursion}
use Rattle.debug_records.specs.Change.{changes}
use Rattle.graph_core.specs.Graphs.{graph_view, logged, unit_view}
use Rattle.graph_core.specs.Validity.{IsValid}
use Rattle.graph_homes.specs.Homed.{HomedForm, homed_view}
use Rattle.home_assign.specs.Changes.{HaveChanges, homes_pass}
use Rattle.home_assign.specs.Homes.{homes_listed}
use Rattle.home_assign.specs.Units.{AreHomesOfEach, AreLoggedOfEach, IsHomeable}
use Rattle.home_assign.proofs.Longer.{longer_valid}
use Rattle.home_assign.proofs.Units.{each_has, unit_apart, unit_changes, unit_registers, unit_slots, valid_may}
use Rattle.home_assign.proofs.assigning.assign.Goals as goal

pub homes_of_all-requires : goal.homes_of_all-requires
homes_of_all-requires c =
    let v : IsValid (unit_view c.in_ok-unit.unit) = subst IsValid (sym c.in_ok-unit.ensures) c.requires in
    subst (λ gs. AllByRecursion IsHomeable (map graph_view gs)) (sym c.deref.ensures.value) (valid_may (unit_view c.in_ok-unit.unit) v)

-- the homes are those of the unit's graphs
homes_by : (c : goal.In_ok-homes) → AreHomesOfEach c.args.mode (map graph_view c.in_ok-unit.unit.graphs.items) (homes_listed c.in_ok-homes.homes.items)
homes_by c = subst (λ gs. AreHomesOfEach c.args.mode (map graph_view gs) (homes_listed c.in_ok-homes.homes.items)) c.deref.ensures.value c.in_ok-homes.ensures.homes

-- the unit with its homes
abbrev homed : goal.In_ok-homes → HomedForm
homed c = homed_view (record { unit = record c.in_ok-unit.unit { log = c.homes_of_all.new.log }; mode = c.args.mode; homes = c.in_ok-homes.homes })

pub returns-clause-homes : goal.returns-clause-homes
returns-clause-homes c = each_has c.args.mode _ _ (homes_by c)

pub returns-clause-slots : goal.returns-clause-slots
returns-clause-slots c = unit_slots (homed c) c.args.mode (homes_by c)

pub returns-clause-rule : goal.returns-clause-rule
returns-clause-rule c = unit_registers (homed c) c.args.mode (homes_by c)

pub returns-clause-apart : goal.returns-clause-apart
returns-clause-apart c = unit_apart (homed c) c.args.mode (homes_by c)

-- the changes of the unit that was copied
changes_by : (c : goal.In_ok-homes) → HaveChanges (unit_view c.in_ok-unit.unit) (homed c)
changes_by c =
    let old = map logged (changes c.in_ok-unit.unit.log) in
    let new = map logged (changes c.homes_of_all.new.log) in
    let graphs = map graph_view c.in_ok-unit.unit.graphs.items in
    let listed : AreLoggedOfEach old homes_pass graphs (homes_listed c.in_ok-homes.homes.items) old new =
    subst (λ gs. AreLoggedOfEach old homes_pass (map graph_view gs) (homes_listed c.in_ok-homes.homes.items) old new) c.deref.ensures.value c.in_ok-homes.ensures.changes in
    unit_changes (homed c) (unit_view c.in_ok-unit.unit) refl (each_has c.args.mode _ _ (homes_by c)) listed

pub returns-clause-changes : goal.returns-clause-changes
returns-clause-changes c = subst (λ u. HaveChanges u (homed c)) c.in_ok-unit.ensures (changes_by c)

pub returns-clause-valid : goal.returns-clause-valid
returns-clause-valid c =
    let valid : IsValid (unit_view c.in_ok-unit.unit) = subst IsValid (sym c.in_ok-unit.ensures) c.requires in
    let grown = ap length (changes_by c).log ∙ length-append (unit_view c.in_ok-unit.unit).log _ in
    longer_valid (unit_view c.in_ok-unit.unit) (homed c).unit.log (omega (arith, grown)) valid
