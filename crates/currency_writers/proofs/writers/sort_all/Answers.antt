use Rattle.std.proofs.Common.{◌∙◌}
use Rattle.std.proofs.lemmas.List.Sorted.{IsPermutation-trans}
use Rattle.currency_writers.specs.Writers.{writes_in}
use Rattle.currency_writers.proofs.writers.sort_all.Goals as goal

pub loop-number-preserved : goal.loop-number-preserved
loop-number-preserved c = record {
  count = c.sort_one.ensures.count ∙ c.loop-number.invariant.count;
  moved = λ n. IsPermutation-trans (writes_in c.args.lists.now.items n) (writes_in c.loop-number.lists.items n) (writes_in c.sort_one.new.lists.items n) (c.loop-number.invariant.moved n) (c.sort_one.ensures.moved n);
}
