use Rattle.c_parse.proofs.Refused.{associate_to_the_left, else_is_the_nearest}
use Rattle.c_parse.proofs.laws.trees_are_bound.Goals as goal

pub returns-clause-nearest : goal.returns-clause-nearest
returns-clause-nearest c = else_is_the_nearest

pub returns-clause-left : goal.returns-clause-left
returns-clause-left c = associate_to_the_left
