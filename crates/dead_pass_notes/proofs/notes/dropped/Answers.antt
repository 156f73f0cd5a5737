use Rattle.std.proofs.Common.{sym, ◌∙◌}
use Rattle.dead_pass_notes.specs.declared.recipes.NotePoint.{NotePoint}
use Rattle.dead_pass_notes.specs.Idle.{graph_of}
use Rattle.dead_pass_notes.proofs.Saying.{none_dropped, stays_dropped}
use Rattle.dead_pass_notes.proofs.notes.dropped.Goals as goal

pub returns-in_err-write-clause-none : goal.returns-in_err-write-clause-none
returns-in_err-write-clause-none c = λ borne none.
    (let idle = c.args.idle.now in
    let note : NotePoint = record { spot = record { block = 0; left = 0 }; place = c.args.place } in
    none_dropped idle borne note c.args.name.0 c.only.result (λ s. c.only.ensures (graph_of idle) borne.writes s) c.in_err-write.was)

pub returns-else-goes_at-clause-none : goal.returns-else-goes_at-clause-none
returns-else-goes_at-clause-none c = λ borne none.
    (let idle = c.args.idle.now in
    let note : NotePoint = record { spot = record { block = 0; left = 0 }; place = c.args.place } in
    stays_dropped idle borne note c.args.name.0 c.only.result (λ s. c.only.ensures (graph_of idle) borne.writes s) c.in_ok-write.write c.in_ok-write.was (sym c.goes_at.ensures ∙ c.if-goes_at.false))
