use Rattle.std.proofs.Common.{◌≡◌, ap, ◌∙◌}
use Rattle.stop_engine.specs.Halting.{halt_line}
use Rattle.stop_engine.specs.Marking.{aim_of}
use Rattle.stop_engine.proofs.Answering.{halt_at-says, lines-of_run}
use Rattle.stop_engine.proofs.engine.run_lines.Goals as goal

pub halt_line-requires-clause-place : goal.halt_line-requires-clause-place
halt_line-requires-clause-place c =
    let r = c.run_to.new.self in
    rw (c.image.ensures, c.table.ensures.table) (halt_at-says r.form r.limit r.position c.in_ok-halt.halt c.in_ok-halt.ensures.halt).place

pub returns-clause-lines : goal.returns-clause-lines
returns-clause-lines c =
    let r = c.run_to.new.self in
    let form_is = c.image.ensures ∙ c.table.ensures.table in
    let last : c.in_ok-line.line.items ≡ halt_line r.form r.limit c.in_ok-halt.halt =
    c.in_ok-line.ensures ∙ (ap (λ m. halt_line m c.limit.result c.in_ok-halt.halt) form_is ∙ ap (λ n. halt_line r.form n c.in_ok-halt.halt) c.limit.ensures) in
    lines-of_run c.args.run.now r (aim_of c.args.stops.now) c.in_ok-halt.halt c.taken.result.now c.in_ok-lines.lines.items c.push.new.self.items c.in_ok-line.line c.in_ok-halt.ensures.ran c.in_ok-halt.ensures.halt
    c.taken.ensures c.in_ok-lines.ensures last c.in_ok-push.ensures.items
