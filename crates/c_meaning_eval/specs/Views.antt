-- A run, as contracts see it.
use Rattle.std.specs.Prelude.{map}
use Rattle.c_meaning_eval.specs.declared.source_run.SourceRun as declared-run
use Rattle.c_meaning.specs.Runs.{SourceRun}
use Rattle.c_meaning_steps.specs.Views.{event_view}

abbrev pub run_view : declared-run.SourceRun → SourceRun
run_view r = record { events = map event_view r.events.items; ending = r.ending }
