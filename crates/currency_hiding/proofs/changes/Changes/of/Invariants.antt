use Rattle.std.proofs.Common.{◌≡◌, ℕ, take}
use Rattle.std.specs.Prelude.{All, Contains}
use Rattle.debug_records.specs.declared.change.Change.{Change}
use Rattle.currency_hiding.specs.Changes.{IsListed, hides_as}
use Rattle.currency_hiding.proofs.Numbering.{IsAscending}
use Rattle.currency_hiding.proofs.changes.Changes.of.Given as goal

abbrev pub invariant-loop-number : goal.invariant-loop-number
invariant-loop-number l = record {
  each : All (λ (d : Change). IsListed l.self d.number d × (d.var.0 ≡ l.var.0) × (hides_as d.kind ≡ l.kind)) l.found.items;
  all : All (λ (n : ℕ). (d : Change) → IsListed l.self n d → d.var.0 ≡ l.var.0 → hides_as d.kind ≡ l.kind → Contains l.found.items d) (take l.number-index l.number-items);
  ascending : IsAscending l.found.items l.number-items l.number-index;
}
