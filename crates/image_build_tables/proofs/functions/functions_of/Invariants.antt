use Rattle.std.proofs.Common.{◌≡◌, map, take}
use Rattle.c_tree.specs.Programs.{function_view}
use Rattle.rv_emit_tables.specs.Emitted as emitted
use Rattle.image_build_tables.specs.Spans.{code_span, saved, span}
use Rattle.image_build_tables.specs.Variables.{entry, length_of_name, name_length}
use Rattle.image_build_tables.proofs.functions.functions_of.Given as goal

abbrev pub invariant-loop-number : goal.invariant-loop-number
invariant-loop-number l = record {
  names : map name_length l.made.items ≡ map length_of_name (map function_view (take l.number l.functions));
  spans : map span l.made.items ≡ map code_span (map emitted.function_view (take l.number l.code));
  entries : map entry l.made.items ≡ map (λ g. g.entry.0) (take l.number l.graphs);
  saved : map saved l.made.items ≡ map (λ f. 0) (map function_view (take l.number l.functions));
}
