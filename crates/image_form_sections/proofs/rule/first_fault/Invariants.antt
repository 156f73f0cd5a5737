use Rattle.std.proofs.Common.{◌≡◌, ◌-◌}
use Rattle.image_form_sections.specs.Breaches.{first_broken}
use Rattle.image_form_sections.proofs.rule.first_fault.Given as goal

abbrev pub invariant-loop-row : goal.invariant-loop-row
invariant-loop-row g l = first_broken (g.R.Rule.tests l.rule) (l.count - l.row) l.row ≡ first_broken (g.R.Rule.tests l.rule) l.count 0
