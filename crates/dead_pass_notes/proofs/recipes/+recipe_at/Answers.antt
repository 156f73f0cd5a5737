use Rattle.std.proofs.Common.{◌≡◌, ◌-◌, suc, None, sym, subst, arith}
use Rattle.std.specs.Prelude.{option_map}
use Rattle.std.proofs.lemmas.Result.{IfOk-weaker}
use Rattle.graph_core.specs.Graphs.{recipe_view}
use Rattle.dead_pass_notes.specs.Idle.{assignments_of, graph_of}
use Rattle.dead_pass_notes.specs.Sources.{Gives, IsFound, IsSource}
use Rattle.dead_pass_notes.proofs.Found.{none_shallow}
use Rattle.dead_pass_notes.proofs.recipes.+recipe_at.Goals as goal

pub returns-then-depth-eq0-clause-found : goal.returns-then-depth-eq0-clause-found
returns-then-depth-eq0-clause-found t c = λ known room source.
    (let given = Gives (assignments_of c.args.idle.now) (graph_of c.args.idle.now) c.args.note c.args.source in
    subst (λ n. IsFound n given None) (sym c.if-depth-eq0.true) (none_shallow given))

pub returns-in-Read-clause-found : goal.returns-in-Read-clause-found
returns-in-Read-clause-found t c =
    let g = graph_of c.args.idle.now in
    let note = c.args.note in
    let some = c.if-depth-eq0.false in
    let deep : suc (c.args.depth - 1) ≡ c.args.depth = omega (arith, some) in
    IfOk-weaker c.read_recipe.result _ _
    (λ o found known room source.
    (let all = found known room (subst (λ s. IsSource g note s) c.in-Read.is source) (c.args.depth - 1) in
    subst (λ n. IsFound n (Gives (assignments_of c.args.idle.now) g note c.args.source) (option_map recipe_view o)) deep (subst (λ s. IsFound (suc (c.args.depth - 1)) (Gives (assignments_of c.args.idle.now) g note s) (option_map recipe_view o)) (sym c.in-Read.is) all)))
    c.read_recipe.ensures.found
