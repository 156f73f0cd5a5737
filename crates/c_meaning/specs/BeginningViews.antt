-- Places that the code begins, as contracts see them.
use Rattle.std.specs.Prelude.{map}
use Rattle.c_meaning.specs.declared.beginning.Beginning.{Beginning}
use Rattle.c_meaning_steps.specs.States.{Event}
use Rattle.c_meaning.specs.CActivationsViews.{activation_view, stop_at}
use Rattle.c_meaning_values.specs.Views.{object_view}

-- the stop with which a place is begun
abbrev pub stop_of : Beginning → Event
stop_of b = stop_at (activation_view b.here.now) b.at (map object_view b.memory.now)
