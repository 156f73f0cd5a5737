use Rattle.std.proofs.Common.{◌≡◌, ℕ, take, true}
use Rattle.std.specs.Prelude.{All, Contains}
use Rattle.std.specs.List.Sorted.{IsNonDecreasing}
use Rattle.places.specs.declared.flow.Assignment.{Assignment}
use Rattle.places.specs.Flow.{assigns}
use Rattle.currency_writers.specs.Lists.{count_of, entries_of}
use Rattle.currency_writers.proofs.Going.{AreNotBehind}
use Rattle.currency_writers.proofs.flow.assigning_of.Given as goal

abbrev pub invariant-loop-assignment : goal.invariant-loop-assignment
invariant-loop-assignment l = record {
  sound : (x p : ℕ) → Contains (entries_of l.assigning x) p → assigns l.assignments p x ≡ true;
  all : All (λ (a : Assignment). Contains (entries_of l.assigning a.var.0) a.place.0) (take l.assignment-index l.assignments);
  ordered : (x : ℕ) → IsNonDecreasing (entries_of l.assigning x);
  behind : AreNotBehind l.assignments l.assigning l.assignment-index;
  count : count_of l.assigning ≡ count_of l.initial.assigning;
}
