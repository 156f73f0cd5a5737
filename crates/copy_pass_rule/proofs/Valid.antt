-- Copy propagation keeps units valid.
use Rattle.std.proofs.Common.{◌≡◌, ◌≤◌, List, ◌++◌, length, refl, sym, ap, subst, arith, length-append}
use Rattle.event_runs.specs.Agreement.{Pairs}
use Rattle.graph_core.specs.Graphs.{Logged, UnitForm}
use Rattle.graph_core.specs.Validity.{IsValid}
use Rattle.pass_law.specs.Kept.{EachFunction, ShareTheSame}
use Rattle.copy_pass_rule.specs.Copying.{IsPropagated}
use Rattle.copy_pass_rule.specs.Alike.{AreAlike}
use Rattle.copy_pass_rule.proofs.Lists.{each_related}
use Rattle.copy_pass_rule.proofs.Alike.{propagated_alike}
use Rattle.copy_pass_rule.proofs.Keeping.{graphs_replaced}
use Rattle.copy_pass_rule.proofs.Naming.{with_graphs}

-- A unit that shares what functions share with another one is that one with graphs and a log of its own.
shared : (u v : UnitForm) → ShareTheSame u v → v ≡ with_graphs u v.graphs v.log
shared u v s = rw (sym s.main, sym s.statics, sym s.array_bytes, sym s.steps, sym s.assignments, sym s.room) refl

-- A unit whose graphs are like those of a valid unit but for what they read is valid, if what functions share is the same and the log only grew.
pub alike_valid : (u v : UnitForm) → IsValid u → ShareTheSame u v → Pairs AreAlike u.graphs v.graphs → length u.log ≤ length v.log → IsValid v
alike_valid u v valid share alike grown = subst IsValid (sym (shared u v share)) (graphs_replaced u v.graphs v.log alike grown valid)

-- THE UNIT THAT COPY PROPAGATION MAKES OF A VALID UNIT IS VALID.
pub propagated_valid : (u v : UnitForm) (added : List Logged) → IsValid u → ShareTheSame u v → EachFunction IsPropagated u.graphs v.graphs → v.log ≡ u.log ++ added → IsValid v
propagated_valid u v added valid share made log = alike_valid u v valid share (each_related IsPropagated AreAlike propagated_alike u.graphs v.graphs made) longer
  where
    longer : length u.log ≤ length v.log
    longer = omega (arith, ap (λ (l : List Logged). length l) log, length-append u.log added)
