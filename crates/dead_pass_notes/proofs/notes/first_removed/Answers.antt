use Rattle.std.proofs.Common.{sym, ap, ◌∙◌}
use Rattle.std.specs.Prelude.{option_map}
use Rattle.std.proofs.lemmas.Option.{IfSome_then}
use Rattle.debug_records.specs.declared.change.Var as declared-var
use Rattle.graph_core.specs.Graphs.{graph_view}
use Rattle.dead_pass_notes.proofs.Saying.{never_of}
use Rattle.dead_pass_notes.proofs.notes.first_removed.Goals as goal

pub returns-in-Some-clause-some : goal.returns-in-Some-clause-some
returns-in-Some-clause-some c = λ log told.
    IfSome_then c.first.result (c.first.ensures.first log told) (λ number is. (c.in-Some.var.0, sym c.var_of.ensures ∙ ap (option_map (λ (v : declared-var.Var). v.0)) c.in-Some.is, is))

pub returns-in-Some-clause-none : goal.returns-in-Some-clause-none
returns-in-Some-clause-none c = λ log told none.
    never_of log (graph_view c.args.graph.now) c.args.place.0 c.args.name.0 c.in-Some.var.0 (sym c.var_of.ensures ∙ ap (option_map (λ (v : declared-var.Var). v.0)) c.in-Some.is) (c.first.ensures.none log told none)
