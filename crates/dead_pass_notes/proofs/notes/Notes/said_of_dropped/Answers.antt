use Rattle.std.proofs.Common.{◌≡◌, None, Some, sym, subst}
use Rattle.std.specs.Prelude.{option_map}
use Rattle.std.proofs.lemmas.Result.{IfOk-weaker}
use Rattle.graph_core.specs.Bounds.{most_depth}
use Rattle.graph_core.specs.Graphs.{note_view, recipe_view}
use Rattle.dead_pass_notes.specs.Idle.{assignments_of, graph_of}
use Rattle.dead_pass_notes.specs.Lost.{said_by}
use Rattle.dead_pass_notes.specs.Sources.{IsFound, IsMade, IsSaidAt}
use Rattle.dead_pass_notes.proofs.Sources.{at_spot}
use Rattle.dead_pass_notes.proofs.Saying.{dropped_at, once_there, recipe_found, recipe_none, said_gone, said_recipe}
use Rattle.dead_pass_notes.proofs.notes.Notes.said_of_dropped.Goals as goal

pub returns-in-Some-clause-said : goal.returns-in-Some-clause-said
returns-in-Some-clause-said c = λ log told known room once going.
    (let idle = c.args.idle.now in
    let g = graph_of idle in
    let note = c.args.note in
    let x = c.args.of.0 in
    let d = c.args.assignment in
    let r = recipe_view c.in-Some.recipe in
    let found = subst (λ o. IsFound most_depth (IsMade (assignments_of idle) g note d) (option_map recipe_view o)) c.in-Some.is (c.in_ok-recipe.ensures.found known room (at_spot g note x d once).point) in
    said_recipe log g note x (note_view c.args.before.now) r (recipe_found idle known.borne_out note x d once going r found))

pub returns-in-None-clause-said : goal.returns-in-None-clause-said
returns-in-None-clause-said c =
    let before = note_view c.args.before.now in
    let change = c.last_removed-change.result in
    IfOk-weaker c.gone_by.result (λ v. note_view v ≡ said_by change before) _
    (λ v is log told known room once going.
    (let idle = c.args.idle.now in
    let g = graph_of idle in
    let note = c.args.note in
    let x = c.args.of.0 in
    let d = c.args.assignment in
    let found = subst (λ o. IsFound most_depth (IsMade (assignments_of idle) g note d) (option_map recipe_view o)) c.in-None.is (c.in_ok-recipe.ensures.found known room (at_spot g note x d once).point) in
    let none = recipe_none idle known.borne_out note x d once going (λ s other. once_there g idle.writes known.borne_out.writes note.place.0 x s d other once) found in
    subst (λ w. IsSaidAt (assignments_of idle) log g note x before w) (sym is)
    (said_gone log g note x before change (dropped_at idle known.borne_out note x d once going) none (c.last_removed-change.ensures.some log told) (c.last_removed-change.ensures.none log told))))
    c.gone_by.ensures
