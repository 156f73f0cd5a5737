use Rattle.std.proofs.Common.{◌≡◌, drop}
use Rattle.std.specs.List.{list_any}
use Rattle.std.specs.Str.{bytes_eq}
use Rattle.c_type_bounds.specs.Visible.{names_view}
use Rattle.c_type_bounds.proofs.visible.is_among.Given as goal

abbrev pub invariant-loop-one : goal.invariant-loop-one
invariant-loop-one l = list_any (λ n. bytes_eq n l.name) (names_view (drop l.one-index l.names)) ≡ list_any (λ n. bytes_eq n l.name) (names_view l.names)
