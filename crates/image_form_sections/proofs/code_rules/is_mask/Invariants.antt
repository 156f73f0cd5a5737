use Rattle.std.proofs.Common.{◌≡◌, ◌*◌, ◌≤◌, ◌^◌, take}
use Rattle.std.specs.Prelude.{filter}
use Rattle.image_form_sections.specs.Masks.{home_registers, is_in_mask, mask_of}
use Rattle.image_form_sections.proofs.code_rules.is_mask.Given as goal

abbrev pub invariant-loop-register : goal.invariant-loop-register
invariant-loop-register l = (l.homes ≡ mask_of (filter (is_in_mask l.mask) (take l.register-index home_registers))) × (l.homes ≤ l.register-index * 2 ^ 32)
