-- What the notes of a unit say behind the removal of dead assignments.
use Rattle.graph_core.specs.Graphs.{UnitForm}
use Rattle.pass_law.specs.Kept.{EachFunction}
use Rattle.dead_pass_notes.specs.Said.{SaysWhatItShall}

-- THE NOTES SAY WHAT THEY SHALL, function by function. Where a path comes to it, a note of an assignment that goes says
-- its recipe, or, where it has none, that the value is gone by the last change that removed one of the variable in its
-- place; a note of an assignment that went before, of whose recipe a name is stale now, that the value is gone by the
-- first such change; and each other what it said. The changes are those of the unit after.
abbrev pub SayWhatTheyShall : (u v : UnitForm) → Type 0
SayWhatTheyShall u v = EachFunction (SaysWhatItShall u.assignments v.log) u.graphs v.graphs
