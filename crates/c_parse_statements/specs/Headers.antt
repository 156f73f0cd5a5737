-- The three parts of a `for` as contracts see them.
use Rattle.std.specs.Option.{option_map}
use Rattle.c_tree.specs.Expressions.{expression_view}
use Rattle.c_tree.specs.Statements.{start_view}
use Rattle.c_parse_statements.specs.declared.clause.ForHeader.{ForHeader}
use Rattle.c_parse_statements.specs.Clauses.{HeaderTree}

abbrev pub header_view : ForHeader → HeaderTree
header_view h =
    record {
      start = start_view h.start.value;
      condition = option_map (λ e. expression_view e.value) h.condition;
      step = option_map (λ e. expression_view e.value) h.step;
    }
