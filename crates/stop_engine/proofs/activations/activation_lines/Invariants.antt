use Rattle.std.proofs.Common.{◌≡◌, ℕ, ◌++◌, drop, map}
use Rattle.std.specs.Prelude.{Vec}
use Rattle.std.specs.Global.{Global}
use Rattle.stop_engine.specs.Activations.{activation_lines, activation_of}
use Rattle.stop_engine.proofs.activations.activation_lines.Given as goal

abbrev pub invariant-loop-number : goal.invariant-loop-number
invariant-loop-number l =
    map (λ (v : Vec ℕ Global). v.items) l.lines.items ++ activation_lines l.number (map activation_of (drop l.number l.frames)) ≡ activation_lines 0 (map activation_of l.frames)
