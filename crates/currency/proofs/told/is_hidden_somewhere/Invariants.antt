use Rattle.std.proofs.Common.{◌≡◌, None, take}
use Rattle.graph_core.specs.Paths.{Among}
use Rattle.currency_shown.specs.declared.found.Unshown as declared-unshown
use Rattle.currency.proofs.told.is_hidden_somewhere.Given as goal

abbrev pub invariant-loop-one : goal.invariant-loop-one
invariant-loop-one l = (u : declared-unshown.Unshown) → Among u (take l.one-index l.unshown) → u.last ≡ None → ⊥
