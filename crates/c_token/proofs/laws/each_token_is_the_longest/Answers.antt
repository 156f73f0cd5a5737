use Rattle.c_token.proofs.Longest.{words_are_longest, constants_are_longest, punctuators_are_longest}
use Rattle.c_token.proofs.laws.each_token_is_the_longest.Goals as goal

pub returns-clause-words : goal.returns-clause-words
returns-clause-words c = words_are_longest

pub returns-clause-constants : goal.returns-clause-constants
returns-clause-constants c = constants_are_longest

pub returns-clause-punctuators : goal.returns-clause-punctuators
returns-clause-punctuators c = punctuators_are_longest
