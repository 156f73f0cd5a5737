use Rattle.std.proofs.Common.{◌∷◌, take}
use Rattle.std.specs.Prelude.{All}
use Rattle.currency_hiding.specs.declared.causes.Via as declared-via
use Rattle.currency_hiding.specs.declared.causes.Cause.TheVariants as cause
use Rattle.currency_hiding.specs.Found.{AreCauses, AreMoreFound, IsViaTold}
use Rattle.currency_hiding.proofs.Coming.{AreViasNext}
use Rattle.currency_hiding.proofs.causes.Causes.add_reused.Given as goal

abbrev pub invariant-loop-via : goal.invariant-loop-via
invariant-loop-via l = record {
  causes : AreCauses l.question.changes.now l.question.search.now l.question.function.now l.self;
  kept : AreMoreFound l.fn.self l.self;
  told : All (λ (v : declared-via.Via). IsViaTold l.question.function.now l.self.found.items (λ start w. cause.Reused l.change start w) v) (take l.via-index l.via-items);
  next : AreViasNext l.question.function.now.writers (λ rs. 2 ∷ rs) l.self.found.items l.via-items l.via-index;
}
