-- The removal of dead assignments keeps units valid.
use Rattle.std.proofs.Common.{◌≡◌, ◌≤◌, List, length, map, refl, sym, ap, subst, arith, length-append}
use Rattle.event_runs.specs.Agreement.{Pairs}
use Rattle.debug_records.specs.declared.change.PassName.{PassName}
use Rattle.debug_records.specs.declared.change.Kind.TheVariants.{Removed}
use Rattle.graph_core.specs.Graphs.{Logged, UnitForm}
use Rattle.graph_core.specs.Validity.{IsValid}
use Rattle.pass_law.specs.Changes.{AddsChangesOf, logged_as}
use Rattle.pass_law.specs.Kept.{EachFunction, ShareTheSame}
use Rattle.dead_pass_rule.specs.Removing.{IsReduced}
use Rattle.dead_pass_notes.specs.Said.{SaysWhatItShall}
use Rattle.dead_pass_notes.specs.Writes.{IsRemovedWrite}
use Rattle.dead_pass_notes.specs.Thinned.{IsThinned}
use Rattle.dead_pass_notes.proofs.Keeping.{graphs_replaced}
use Rattle.dead_pass_notes.proofs.Naming.{MayBeSaid, with_graphs}
use Rattle.dead_pass_notes.proofs.Removing.{graphs_thinned}

-- A unit that shares what functions share with another one is that one with graphs and a log of its own.
shared : (u v : UnitForm) → ShareTheSame u v → v ≡ with_graphs u v.graphs v.log
shared u v s = rw (sym s.main, sym s.statics, sym s.array_bytes, sym s.steps, sym s.assignments, sym s.room) refl

-- A unit whose graphs are those of a valid unit without some of their writes is valid, if what functions share is the same, the log only grew, and what notes say now names what there is.
pub thinned_valid : (u v : UnitForm) → IsValid u → ShareTheSame u v → Pairs (IsThinned (MayBeSaid u v.log)) u.graphs v.graphs → length u.log ≤ length v.log → IsValid v
thinned_valid u v valid share thinned grown = subst IsValid (sym (shared u v share)) (graphs_replaced u v.graphs v.log thinned grown valid)

-- THE UNIT THAT THE REMOVAL OF DEAD ASSIGNMENTS MAKES OF A VALID UNIT IS VALID.
pub removed_valid : (u v : UnitForm) → IsValid u → ShareTheSame u v → (pass : PassName) → AddsChangesOf pass Removed (λ before after. IsRemovedWrite u.assignments before) u v → EachFunction (IsReduced u.assignments) u.graphs v.graphs → EachFunction (SaysWhatItShall u.assignments v.log) u.graphs v.graphs → IsValid v
removed_valid u v valid share pass adds reduced said = thinned_valid u v valid share (graphs_thinned u.assignments u v.log grown u.graphs v.graphs valid.graphs reduced said) grown
  where
    grown : length u.log ≤ length v.log
    grown = omega (arith, ap (λ (l : List Logged). length l) adds.log, length-append u.log (map (logged_as pass Removed) adds.cases))
