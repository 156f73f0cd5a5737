use Rattle.c_parse.proofs.Trees.{one_tree, refused_is_too_deep}
use Rattle.c_parse.proofs.laws.trees_are_one.Goals as goal

pub returns-clause-one : goal.returns-clause-one
returns-clause-one c = one_tree

pub returns-clause-refused : goal.returns-clause-refused
returns-clause-refused c = refused_is_too_deep
