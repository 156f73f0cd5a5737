-- Where statements end.
use Rattle.std.specs.Prelude.{ℕ}
use Rattle.c_tree.specs.Statements.{StatementTree, Compound, Declare, Empty, Run, If, IfElse, While, DoWhile, For, Switch, Case, Default, Break, Continue, Return}

-- the offset of the last token of a statement
abbrev pub last_of_statement : StatementTree → ℕ
last_of_statement (Compound opening all closing) = closing.at
last_of_statement (Declare d) = d.extent.last
last_of_statement (Empty spot) = spot.at
last_of_statement (Run e last) = last
last_of_statement (If spot c s) = last_of_statement s
last_of_statement (IfElse spot c s t) = last_of_statement t
last_of_statement (While spot c s) = last_of_statement s
last_of_statement (DoWhile extent s c) = extent.last
last_of_statement (For spot start c step s) = last_of_statement s
last_of_statement (Switch spot e opening all closing) = closing.at
last_of_statement (Case extent e s) = last_of_statement s
last_of_statement (Default extent s) = last_of_statement s
last_of_statement (Break extent) = extent.last
last_of_statement (Continue extent) = extent.last
last_of_statement (Return extent e) = extent.last
