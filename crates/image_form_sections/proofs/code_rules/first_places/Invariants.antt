use Rattle.std.proofs.Common.{◌≡◌, ℕ, ◌==◌, nat_cmp, take}
use Rattle.std.specs.Prelude.{slice_index}
use Rattle.std.specs.List.{position_from}
use Rattle.std.specs.BTreeMap as tree
use Rattle.image_form_sections.specs.Layouts.{rows_in}
use Rattle.image_form_sections.proofs.code_rules.first_places.Given as goal

abbrev pub invariant-loop-place : goal.invariant-loop-place
invariant-loop-place l = (address : ℕ) → tree.get nat_cmp l.places address ≡ position_from (λ p. slice_index p 3 == address) 0 (take l.place (rows_in l.layout.places))
