-- An assignment that is looked for: that of an object by the place with a number.
use Rattle.std.specs.Prelude.{ℕ, ◌+◌, ◌==◌, ◌&&◌, Bool, false, List}
use Rattle.std.specs.List.{list_any}
use Rattle.c_tree.specs.declared.object_type.Object.{Object}
use Rattle.c_tree.specs.declared.object_type.Object.TheVariants.{Static, Automatic, Literal}
use Rattle.c_tree.specs.Programs.{ProgramTree, program_view}
use Rattle.c_flow.specs.declared.assigned.Assigned.{Assigned}
use Rattle.c_flow_assigns.specs.declared.assignment_search.Wanted.{Wanted}
use Rattle.c_flow_assigns.specs.PlacesBefore.{places_before}

-- two objects are one
abbrev pub is_same_object : Object → Object → Bool
is_same_object (Static x) (Static y) = x == y
is_same_object (Automatic x) (Automatic y) = x == y
is_same_object (Literal x) (Literal y) = x == y
is_same_object _ _ = false

-- this is an assignment of the object by the place with the number
abbrev pub is_wanted : ProgramTree → (number : ℕ) → Object → Assigned → Bool
is_wanted p number object a = is_same_object object a.object && places_before a.at p + 1 == number

-- the one that is looked for is among these
abbrev pub has_wanted : Wanted → List Assigned → Bool
has_wanted wanted all = list_any (is_wanted (program_view wanted.program.now) wanted.number wanted.object) all
