use Rattle.std.proofs.Common.{[], ◌∷◌, take}
use Rattle.std.specs.Prelude.{All}
use Rattle.debug_records.specs.declared.change.Change.{Change}
use Rattle.currency_hiding.specs.Found.{AreCauses, AreMoreFound, AreMovesFound, AreToldBefore}
use Rattle.currency_hiding.proofs.Coming.{AreChangesNext}
use Rattle.currency_hiding.proofs.causes.Causes.add_moved.Given as goal

abbrev pub invariant-loop-change : goal.invariant-loop-change
invariant-loop-change l = record {
  causes : AreCauses l.question.changes.now l.question.search.now l.question.function.now l.self;
  kept : AreMoreFound l.fn.self l.self;
  all : All (λ (e : Change). AreMovesFound l.question.changes.now l.question.search.now l.question.function.now l.self.found.items e.number) (take l.change-index l.change-items);
  next : AreChangesNext l.self.found.items (λ n. 1 ∷ n ∷ []) l.change-items l.change-index;
  kind : AreToldBefore l.self.found.items (2 ∷ []);
}
