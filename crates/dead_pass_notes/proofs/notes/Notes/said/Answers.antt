use Rattle.std.proofs.Common.{◌≡◌, ℕ, true, true≢false, length, sym, subst, ◌∙◌}
use Rattle.std.specs.Prelude.{◌↔◌}
use Rattle.std.proofs.lemmas.Result.{IfOk-weaker}
use Rattle.graph_core.specs.Graphs.{note_view}
use Rattle.graph_paths.specs.PathMarksTable.{bits_of}
use Rattle.dead_pass_notes.specs.Idle.{assignments_of, graph_of}
use Rattle.dead_pass_notes.specs.Lost.{IsToldLost, said_by}
use Rattle.dead_pass_notes.specs.Sources.{IsSaidAt}
use Rattle.dead_pass_notes.proofs.Saying.{lost_told, said_lost, said_same, told_lost}
use Rattle.dead_pass_notes.proofs.notes.Notes.said.Goals as goal

pub returns-then-not-is_lost-clause-said : goal.returns-then-not-is_lost-clause-said
returns-then-not-is_lost-clause-said c =
    let before = note_view c.args.before.now in
    IfOk-weaker c.duplicate.result (λ v. note_view v ≡ before) _
    (λ v is log told all known room.
    (let idle = c.args.idle.now in
    let g = graph_of idle in
    let note = c.args.note in
    let x = c.args.of.0 in
    let stale = c.args.self.now.stale in
    let lost = subst (λ (n : ℕ). (c.is_lost.result ≡ true) ↔ IsToldLost (bits_of stale n) x before) all.blocks c.is_lost.ensures in
    subst (λ w. IsSaidAt (assignments_of idle) log g note x before w) (sym is)
    (said_same log g note x before (c.dropped.ensures.none known.borne_out c.in_default.is)
    (λ l. true≢false (sym (lost.1 (told_lost idle (bits_of stale (length g.blocks)) note known.tells log x before l)) ∙ c.if-not-is_lost.true)))))
    c.duplicate.ensures

pub returns-clause-said : goal.returns-clause-said
returns-clause-said c =
    let before = note_view c.args.before.now in
    let change = c.first_removed-change.result in
    IfOk-weaker c.gone_by.result (λ v. note_view v ≡ said_by change before) _
    (λ v is log told all known room.
    (let idle = c.args.idle.now in
    let g = graph_of idle in
    let note = c.args.note in
    let x = c.args.of.0 in
    let stale = c.args.self.now.stale in
    let lost = subst (λ (n : ℕ). (c.is_lost.result ≡ true) ↔ IsToldLost (bits_of stale n) x before) all.blocks c.is_lost.ensures in
    subst (λ w. IsSaidAt (assignments_of idle) log g note x before w) (sym is)
    (said_lost log g note x before change (c.dropped.ensures.none known.borne_out c.in_default.is) (lost_told idle (bits_of stale (length g.blocks)) note known.tells log x before (lost.0 c.if-not-is_lost.false))
    (c.first_removed-change.ensures.some log told) (c.first_removed-change.ensures.none log told))))
    c.gone_by.ensures
