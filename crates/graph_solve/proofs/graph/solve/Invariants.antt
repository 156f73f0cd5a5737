use Rattle.graph_solve.proofs.graph.solve.Given as goal

abbrev pub ghosts-solve_on : goal.ghosts-solve_on
ghosts-solve_on g a = record { name = a.blank.name; parts = a.blank.parts }
