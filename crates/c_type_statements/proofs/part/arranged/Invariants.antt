use Rattle.std.proofs.Common.{◌≡◌, vec_len}
use Rattle.std.specs.Prelude.{map}
use Rattle.c_tree.specs.TypedStatements.{none, statements_view}
use Rattle.c_type_statements.specs.Switches.{part_view, put_all}
use Rattle.c_type_statements.proofs.part.arranged.Given as goal

abbrev pub invariant-loop-part : goal.invariant-loop-part
invariant-loop-part l = put_all (map part_view l.parts.items) (statements_view l.all) ≡ put_all (map part_view l.fn.parts.items) none

abbrev pub decreases-loop-part : goal.decreases-loop-part
decreases-loop-part l = vec_len l.parts
