use Rattle.std.proofs.Common.{◌≡◌, ℕ, Some, sym, subst, arith}
use Rattle.std.specs.Prelude.{◌↔◌}
use Rattle.graph_core.specs.Graphs.{Graph, Name, Recipe, operand_view}
use Rattle.dead_pass_writes.specs.declared.writes.Spot.{Spot}
use Rattle.dead_pass_notes.specs.Idle.{assignments_of, graph_of}
use Rattle.dead_pass_notes.specs.Sources.{IsRead}
use Rattle.dead_pass_notes.proofs.Circles.{IsMarked, marked_again, marked_here, marked_on}
use Rattle.dead_pass_notes.proofs.Sources.{copied_read, here, made_read, none_read}
use Rattle.dead_pass_notes.proofs.recipes.source_of.Goals as goal
use Rattle.dead_pass_notes.proofs.recipes.source_of.Goals.{then-steps-limit, else-steps-limit}

pub loop-steps-init : goal.loop-steps-init
loop-steps-init c = record {
  same = λ borne r. ((λ q. q), (λ q. q));
  point = λ borne at. at;
  marked = λ borne. tt;
}

-- an operand that is no temporary of the graph
pub returns-in_default-clause-source : goal.returns-in_default-clause-source
returns-in_default-clause-source c = λ borne at. (c.loop-steps.invariant.point borne at, c.local.ensures.none c.in_default.is)

pub returns-in_default-clause-same : goal.returns-in_default-clause-same
returns-in_default-clause-same c = λ borne r. c.loop-steps.invariant.same borne r

-- a temporary with no definition, or with more than one
pub returns-in_default-only-clause-source : goal.returns-in_default-only-clause-source
returns-in_default-only-clause-source c = λ borne at. tt

pub returns-in_default-only-clause-same : goal.returns-in_default-only-clause-same
returns-in_default-only-clause-same c = λ borne r.
    (let g = graph_of c.args.idle.now in
    let t = c.in-Some.name.0 in
    let named = c.in-Some.ensures.some in
    let none = none_read g c.args.note t named.1 c.only.result (λ s. c.only.ensures g borne.writes s) c.in_default-only.is c.loop-steps.at r in
    ((λ q. none (subst (λ o. IsRead (assignments_of c.args.idle.now) g c.args.note c.loop-steps.at o r) named.0 ((c.loop-steps.invariant.same borne r).0 q))), (λ no. absurd no)))

-- copies that lead back
pub returns-then-is_same-clause-source : goal.returns-then-is_same-clause-source
returns-then-is_same-clause-source c = λ borne at. tt

pub returns-then-is_same-clause-same : goal.returns-then-is_same-clause-same
returns-then-is_same-clause-same c = λ borne r.
    (let g = graph_of c.args.idle.now in
    let note = c.args.note in
    let t = c.in-Some.name.0 in
    let d = c.in-Some-only.definition in
    let named = c.in-Some.ensures.some in
    let marked = subst (λ o. IsMarked (assignments_of c.args.idle.now) g note (Some d) c.loop-steps.at o) named.0 (subst (λ m. IsMarked (assignments_of c.args.idle.now) g note m c.loop-steps.at (operand_view c.loop-steps.operand)) (c.is_same.ensures c.if-is_same.true) (c.loop-steps.invariant.marked borne)) in
    let none = marked_again (assignments_of c.args.idle.now) g note t named.1 c.only.result (λ s. c.only.ensures g borne.writes s) d c.in-Some-only.is c.loop-steps.at marked r in
    ((λ q. none (subst (λ o. IsRead (assignments_of c.args.idle.now) g note c.loop-steps.at o r) named.0 ((c.loop-steps.invariant.same borne r).0 q))), (λ no. absurd no)))

-- a definition that is no copy
pub returns-in_default-copied-clause-source : goal.returns-in_default-copied-clause-source
returns-in_default-copied-clause-source c = λ borne at.
    (let g = graph_of c.args.idle.now in
    let place = here g c.args.note c.in-Some.name.0 c.in-Some.ensures.some.1 c.only.result (λ s. c.only.ensures g borne.writes s) c.in-Some-only.definition c.in-Some-only.is in
    (place.point, c.copied.ensures.none place.point c.in_default-copied.is))

pub returns-in_default-copied-clause-same : goal.returns-in_default-copied-clause-same
returns-in_default-copied-clause-same c = λ borne r.
    (let g = graph_of c.args.idle.now in
    let note = c.args.note in
    let t = c.in-Some.name.0 in
    let d = c.in-Some-only.definition in
    let named = c.in-Some.ensures.some in
    let tells = λ (s : Spot). c.only.ensures g borne.writes s in
    let place = here g note t named.1 c.only.result tells d c.in-Some-only.is in
    let made = made_read g note t named.1 c.only.result tells d c.in-Some-only.is (c.copied.ensures.none place.point c.in_default-copied.is) c.loop-steps.at r in
    let same = c.loop-steps.invariant.same borne r in
    ((λ q. made.0 (subst (λ o. IsRead (assignments_of c.args.idle.now) g note c.loop-steps.at o r) named.0 (same.0 q))), (λ m. same.1 (subst (λ o. IsRead (assignments_of c.args.idle.now) g note c.loop-steps.at o r) (sym named.0) (made.1 m)))))

-- one copy more
pub loop-steps-preserved : goal.loop-steps-preserved
loop-steps-preserved c =
    let g = graph_of c.args.idle.now in
    let note = c.args.note in
    let at = c.loop-steps.at in
    let t = c.in-Some.name.0 in
    let d = c.in-Some-only.definition in
    let a = operand_view c.in-Some-copied.from in
    let named = c.in-Some.ensures.some in
    let inv = c.loop-steps.invariant in
    record {
      same = λ borne r.
          (let tells = λ (s : Spot). c.only.ensures g borne.writes s in
          let copy = c.in-Some-copied.ensures.some (here g note t named.1 c.only.result tells d c.in-Some-only.is).point in
          let step = copied_read g note t named.1 c.only.result tells d c.in-Some-only.is copy.0 a copy.1 at r in
          let same = inv.same borne r in
          ((λ q. step.0 (subst (λ o. IsRead (assignments_of c.args.idle.now) g note at o r) named.0 (same.0 q))), (λ q. same.1 (subst (λ o. IsRead (assignments_of c.args.idle.now) g note at o r) (sym named.0) (step.1 q)))));
      point = λ borne start.
          (let point = (here g note t named.1 c.only.result (λ s. c.only.ensures g borne.writes s) d c.in-Some-only.is).point in
          let within = point.within in
          record { block = point.block; is = point.is; within = omega (arith, within) });
      marked = λ borne.
          (let tells = λ (s : Spot). c.only.ensures g borne.writes s in
          let copy = c.in-Some-copied.ensures.some (here g note t named.1 c.only.result tells d c.in-Some-only.is).point in
          elim c.if-steps-limit.branch [
            | then-steps-limit w ↦ subst (λ m. IsMarked (assignments_of c.args.idle.now) g note m d a) (sym w.mark-is) (marked_here (assignments_of c.args.idle.now) g note d copy.0 a copy.1)
            | else-steps-limit w ↦ subst (λ m. IsMarked (assignments_of c.args.idle.now) g note m d a) (sym w.mark-is)
                (marked_on (assignments_of c.args.idle.now) g note t named.1 c.only.result tells d c.in-Some-only.is c.loop-steps.mark at copy.0 a copy.1 (subst (λ o. IsMarked (assignments_of c.args.idle.now) g note c.loop-steps.mark at o) named.0 (inv.marked borne)))
          ]);
    }
