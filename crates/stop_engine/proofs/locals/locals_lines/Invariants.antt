use Rattle.std.proofs.Common.{◌≡◌, ℕ, ◌++◌, drop, map}
use Rattle.std.specs.Prelude.{Vec}
use Rattle.std.specs.Global.{Global}
use Rattle.stop_engine.specs.Visible.{visible_line, visible_of}
use Rattle.stop_engine.proofs.locals.locals_lines.Given as goal

abbrev pub invariant-loop-local : goal.invariant-loop-local
invariant-loop-local l =
    map (λ (v : Vec ℕ Global). v.items) l.lines.items ++ map visible_line (map visible_of (drop l.local-index l.locals)) ≡ map visible_line (map visible_of l.locals)
