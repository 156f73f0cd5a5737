use Rattle.std.proofs.Common.{suc, sym, subst, arith}
use Rattle.std.specs.Prelude.{◌↔◌, option_map}
use Rattle.std.proofs.lemmas.Result.{IfOk-weaker}
use Rattle.graph_core.specs.Graphs.{Recipe, operand_view, recipe_view}
use Rattle.dead_pass_notes.specs.Spots.{IsPoint}
use Rattle.dead_pass_notes.specs.declared.recipes.Source.{Source}
use Rattle.dead_pass_notes.specs.Idle.{assignments_of, graph_of}
use Rattle.dead_pass_notes.specs.Sources.{Gives, IsMade, IsSource}
use Rattle.dead_pass_notes.proofs.Found.{found_same, made_copied}
use Rattle.dead_pass_notes.proofs.recipes.recipe_of.Goals as goal
use Rattle.dead_pass_notes.proofs.recipes.recipe_of.Goals.{in-Some+in_ok-source-in-Some, in-None}

pub returns-clause-found : goal.returns-clause-found
returns-clause-found c =
    let g = graph_of c.args.idle.now in
    let note = c.args.note in
    let d = c.args.assignment in
    let P : Source → Type 0 = λ s. IsSource g note s × ((r : Recipe) → IsMade (assignments_of c.args.idle.now) g note d r ↔ Gives (assignments_of c.args.idle.now) g note s r) in
    IfOk-weaker c.recipe_at.result _ _
    (λ o found known room point.
    (let within = point.within in
    let behind : IsPoint g d.block d.left = record { block = point.block; is = point.is; within = omega (arith, within) } in
    let parts : P c.match-copied.source = elim c.match-copied.branch [
      | in-Some+in_ok-source-in-Some w ↦
          (let copy = w.in-Some.ensures.some point in
          let all = w.in_ok-source-in-Some.ensures in
          subst P (sym w.source-is) (
            all.source known.borne_out behind,
            λ r.
                (let made = made_copied g note d copy.0 (operand_view w.in-Some.from) copy.1 r in
                let same = all.same known.borne_out r in
                ((λ q. same.0 (made.0 q)), (λ q. made.1 (same.1 q)))),
          ))
      | in-None w ↦ subst P (sym w.source-is) ((point, c.copied.ensures.none point w.in-None.is), λ r. ((λ q. q), (λ q. q)))
    ] in
    found_same (IsMade (assignments_of c.args.idle.now) g note d) (Gives (assignments_of c.args.idle.now) g note c.match-copied.source) c.args.depth parts.1 (option_map recipe_view o) (found known room parts.0)))
    c.recipe_at.ensures.found
