use Rattle.std.proofs.Common.{subst, sym}
use Rattle.graph_core.specs.declared.instruction.Instr.{Instr}
use Rattle.graph_core.specs.Graphs.{Instruction, instruction_view, note_view}
use Rattle.dead_pass_notes.specs.Idle.{assignments_of, graph_of}
use Rattle.dead_pass_notes.specs.Said.{SaysAs}
use Rattle.dead_pass.specs.LeftBy.{IsKeptAs, same}
use Rattle.dead_pass.specs.Noted.{IsHere}
use Rattle.dead_pass.proofs.Leaving.{kept_note}
use Rattle.dead_pass.proofs.Saying.{no_note, no_note_view}
use Rattle.dead_pass.proofs.notes.kept.Goals as goal

pub returns-in-Note-clause-left : goal.returns-in-Note-clause-left
returns-in-Note-clause-left c =
    let note = instruction_view c.in_ok-note.note in
    subst (λ (i : Instr). IsKeptAs (instruction_view i) note) (sym c.in-Note.is) (kept_note c.in-Note.of.0 (note_view c.in-Note.value) note c.in_ok-note.ensures.note)

pub returns-in-Note-clause-said : goal.returns-in-Note-clause-said
returns-in-Note-clause-said c = λ log b before rest ready.
    (let idle = c.args.idle.now in
    let at = c.args.at in
    subst (λ (i : Instr). IsHere idle c.args.notes.now at b before (instruction_view i) rest → SaysAs (assignments_of idle) log (graph_of idle) at.spot.block rest b.end (instruction_view i) (instruction_view c.in_ok-note.note)) (sym c.in-Note.is)
    (c.in_ok-note.ensures.said log b before rest ready))

pub returns-clause-left : goal.returns-clause-left
returns-clause-left c = subst (λ (j : Instruction). IsKeptAs (instruction_view c.args.instruction.now) j) (sym c.in_ok-same.ensures) same

pub returns-clause-said : goal.returns-clause-said
returns-clause-said c = λ log b before rest ready here.
    (let g = graph_of c.args.idle.now in
    let n = c.args.at.spot.block in
    let i = c.args.instruction.now in
    subst (λ (j : Instruction). SaysAs (assignments_of c.args.idle.now) log g n rest b.end (instruction_view i) j) (sym c.in_ok-same.ensures) (no_note log g n rest b.end (instruction_view i) (no_note_view i c.in_default.not-Note)))
