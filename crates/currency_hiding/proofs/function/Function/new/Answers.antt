use Rattle.std.proofs.Common.{◌∙◌, sym}
use Rattle.currency_hiding.proofs.Asked.{below_for, placed_for}
use Rattle.currency_hiding.proofs.function.Function.new.Goals as goal

pub returns-clause-function : goal.returns-clause-function
returns-clause-function c =
    (let writers = c.in_ok-new.ensures in
    let copies = c.in_ok-new-2.ensures in
    record {
      writers = writers.writers;
      copies = copies.copies;
      graph = copies.graph ∙ sym writers.graph;
      placed = placed_for _ c.args.number c.args.places _ _ c.args.graph.now writers.function writers.graph c.in_ok-new-3.ensures.room c.requires.placed;
      below = below_for _ _ _ c.args.graph.now writers.graph c.in_ok-new-4.ensures.room c.requires.copied;
    })
