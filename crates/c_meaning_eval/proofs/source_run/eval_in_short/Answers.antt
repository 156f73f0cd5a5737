use Rattle.c_tree.specs.Programs.{program_view}
use Rattle.c_meaning_steps.specs.Views.{end_view}
use Rattle.c_meaning.specs.Runs.{source_run}
use Rattle.c_meaning_eval.proofs.InShort.{bytes_are, ending_is, last_is, stops_are}
use Rattle.c_meaning_eval.proofs.source_run.eval_in_short.Goals as goal

pub returns-clause-ending : goal.returns-clause-ending
returns-clause-ending c =
    ending_is (end_view c.in_ok-ended.ended.end) c.in_ok-ended.ended.seen.log.events (source_run (program_view c.args.program.now) c.args.input.now c.args.turns) c.in_ok-ended.ensures

pub returns-clause-stops : goal.returns-clause-stops
returns-clause-stops c =
    let seen = c.in_ok-ended.ended.seen in
    stops_are (end_view c.in_ok-ended.ended.end) seen.log.events (source_run (program_view c.args.program.now) c.args.input.now c.args.turns) seen.stops c.in_ok-ended.ensures seen.stops_are

pub returns-clause-bytes : goal.returns-clause-bytes
returns-clause-bytes c =
    let seen = c.in_ok-ended.ended.seen in
    bytes_are (end_view c.in_ok-ended.ended.end) seen.log.events (source_run (program_view c.args.program.now) c.args.input.now c.args.turns) seen.bytes c.in_ok-ended.ensures seen.bytes_are

pub returns-clause-last : goal.returns-clause-last
returns-clause-last c =
    let seen = c.in_ok-ended.ended.seen in
    last_is (end_view c.in_ok-ended.ended.end) seen.log.events (source_run (program_view c.args.program.now) c.args.input.now c.args.turns) seen.last c.in_ok-ended.ensures seen.last_is
