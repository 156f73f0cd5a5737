use Rattle.std.proofs.Common.{◌≡◌, ℕ, ◌++◌, drop, map}
use Rattle.std.specs.Prelude.{Vec}
use Rattle.std.specs.Global.{Global}
use Rattle.std.specs.List.{flat_map}
use Rattle.line_form.specs.Values.{next_value}
use Rattle.line_form.proofs.values.push_rest.Given as goal

abbrev pub invariant-loop-value : goal.invariant-loop-value
invariant-loop-value l = l.text.items ++ flat_map next_value (map (λ (v : Vec ℕ Global). v.items) (drop l.value-index l.values)) ≡ l.fn.text.items ++ flat_map next_value (map (λ (v : Vec ℕ Global). v.items) l.values)
