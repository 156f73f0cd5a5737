use Rattle.std.proofs.Common.{◌≡◌, ◌+◌, ◌≤◌, drop, length}
use Rattle.std.specs.Option.{option_map}
use Rattle.image_form_sections.specs.TestsOfNames.{byte_tests, first_unfit}
use Rattle.image_form_sections.proofs.name_rules.first_unfit.Given as goal

abbrev pub invariant-loop-index : goal.invariant-loop-index
invariant-loop-index l = record {
  same : first_unfit (byte_tests l.kind l.count) l.bytes ≡ option_map (λ k. l.index + k) (first_unfit (drop l.index (byte_tests l.kind l.count)) (drop l.index l.bytes));
  inside : l.index ≤ length l.bytes;
}
