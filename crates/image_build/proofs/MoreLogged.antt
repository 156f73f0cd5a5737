-- A unit whose log goes on with the changes of shared registers is well marked still.
use Rattle.std.proofs.Common.{◌≡◌, List, ◌++◌, sym, ap, ◌∙◌, subst}
use Rattle.graph_core.specs.Graphs.{Logged, UnitForm}
use Rattle.graph_core.specs.WellMarked.{AreWellMarked}
use Rattle.pass_law.proofs.LogLonger.{still_marked}

-- A unit whose log goes on is well marked where it was.
pub marked_logged : (u v : UnitForm) (added : List Logged) → v ≡ record u { log = v.log } → v.log ≡ u.log ++ added → AreWellMarked u → AreWellMarked v
marked_logged u v added same more marked = subst AreWellMarked (sym (same ∙ ap (λ (l : List Logged). record u { log = l }) more)) (still_marked u added marked)
