use Rattle.graph_build_names.proofs.scaling.+shift_from.Given as goal

abbrev pub decreases-shift_from : goal.decreases-shift_from
decreases-shift_from l = l.left
