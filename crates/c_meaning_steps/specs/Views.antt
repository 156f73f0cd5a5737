-- States and events of the code, and what parts of a run come to, as contracts see them.
use Rattle.std.specs.Prelude.{map}
use Rattle.c_meaning_steps.specs.declared.state.Operands as declared-operands
use Rattle.c_meaning_steps.specs.declared.state.Operands.TheVariants as operands
use Rattle.c_meaning_steps.specs.declared.state.Tested as declared-tested
use Rattle.c_meaning_steps.specs.declared.state.Tested.TheVariants as tested-is
use Rattle.c_meaning_steps.specs.declared.event.Ending.{Ending}
use Rattle.c_meaning_steps.specs.declared.event.Ending.TheVariants as ending
use Rattle.c_meaning_steps.specs.declared.state.End as declared-end
use Rattle.c_meaning_steps.specs.declared.state.End.TheVariants as end
use Rattle.c_meaning_steps.specs.declared.state.State as declared-state
use Rattle.c_meaning_steps.specs.declared.state.Evaluated as declared-evaluated
use Rattle.c_meaning_steps.specs.declared.state.Evaluated.TheVariants as evaluated
use Rattle.c_meaning_steps.specs.declared.state.Outcome as declared-outcome
use Rattle.c_meaning_steps.specs.declared.state.Outcome.TheVariants as outcome
use Rattle.c_meaning_steps.specs.States.{State, Evaluated, Gives, Leaves, Ends, Outcome, Next, Broken, Continued, Returned, Ended, Both, Pair, NoPair, Tested, Holds, Fails, NoTest}
use Rattle.c_meaning_values.specs.Views.{object_view}
pub use Rattle.c_meaning_steps.specs.EventViews.{shown_view, event_view}

abbrev pub state_view : declared-state.State → State
state_view s =
    record {
      memory = map object_view s.memory.all.items;
      input = s.input.now;
      events = s.seen.log.events;
      turns = s.turns;
    }

-- how a run ends; the definitions do not say why C leaves it undefined
abbrev pub end_view : declared-end.End → Ending
end_view (end.Undefined fault) = ending.Undefined
end_view (end.Exit status) = ending.Exit status
end_view end.Depth = ending.Depth
end_view end.Turns = ending.Turns

-- what an expression comes to, with the state behind it
abbrev pub evaluated_view : declared-evaluated.Evaluated → State → Evaluated
evaluated_view (evaluated.Gives v) s = Gives v s
evaluated_view evaluated.Leaves s = Leaves s
evaluated_view (evaluated.Ends e) s = Ends (end_view e) s

-- what a statement comes to, with the state behind it
abbrev pub outcome_view : declared-outcome.Outcome → State → Outcome
outcome_view outcome.Next s = Next s
outcome_view outcome.Broken s = Broken s
outcome_view outcome.Continued s = Continued s
outcome_view (outcome.Returned v) s = Returned v s
outcome_view (outcome.Ended e) s = Ended (end_view e) s

abbrev pub both_view : declared-operands.Operands → State → Both
both_view (operands.Pair v w) s = Pair v w s
both_view (operands.NoPair e) s = NoPair (end_view e) s

abbrev pub tested_view : declared-tested.Tested → State → Tested
tested_view tested-is.Holds s = Holds s
tested_view tested-is.Fails s = Fails s
tested_view (tested-is.NoTest e) s = NoTest (end_view e) s
