use Rattle.std.proofs.Common.{map, ap, ◌∙◌}
use Rattle.c_tree.specs.Programs.{program_view}
use Rattle.c_places.specs.Places.{place_view}
use Rattle.c_meaning_steps.specs.Views.{end_view, state_view}
use Rattle.c_meaning_values.specs.Views.{object_view}
use Rattle.c_meaning_eval.proofs.SourceRuns.{run_is}
use Rattle.c_meaning_eval.proofs.source_run.run_to_end.Goals as goal

pub returns : goal.returns
returns c =
    run_is (program_view c.args.program.now) c.args.input.now c.args.turns (map place_view c.deref.result.now) (map object_view c.in_ok-memory.memory.all.items) c.args.seen.log.events c.in_ok-value.value (state_view c.call_function.new.state) (end_view c.end_of.result) (ap (map place_view) c.deref.ensures.value ∙ c.in_ok-places.ensures) c.in_ok-memory.ensures c.requires c.in_ok-value.ensures c.end_of.ensures
