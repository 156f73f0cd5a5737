use Rattle.std.proofs.Common.{◌≡◌}
use Rattle.currency_writers.specs.Lists.{count_of}
use Rattle.currency_hiding.proofs.Numbering.{IsListing}
use Rattle.currency_hiding.proofs.changes.Changes.new.Given as goal

abbrev pub invariant-loop-change : goal.invariant-loop-change
invariant-loop-change l = record {
  listing : IsListing l.all l.by_variable l.change-index;
  count : count_of l.by_variable ≡ count_of l.initial.by_variable;
}
