use Rattle.std.proofs.Common.{◌≡◌, ◌++◌, drop, map}
use Rattle.debug_records.specs.declared.change.Place.{Place}
use Rattle.line_form.specs.Lines.{spaced}
use Rattle.line_form.proofs.commands.push_places.Given as goal

abbrev pub invariant-loop-place : goal.invariant-loop-place
invariant-loop-place l = l.text.items ++ spaced (map (λ (p : Place). p.0) (drop l.place-index l.places)) ≡ l.fn.text.items ++ spaced (map (λ (p : Place). p.0) l.places)
