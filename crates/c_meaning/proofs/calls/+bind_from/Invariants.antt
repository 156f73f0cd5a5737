use Rattle.c_meaning.proofs.calls.+bind_from.Given as goal

abbrev pub decreases-bind_from : goal.decreases-bind_from
decreases-bind_from l = l.count
