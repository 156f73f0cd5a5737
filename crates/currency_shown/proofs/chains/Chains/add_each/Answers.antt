use Rattle.currency_shown.proofs.chains.Chains.add_each.Goals as goal

pub loop-number-preserved : goal.loop-number-preserved
loop-number-preserved c = record {
  begun = c.in_ok-add.ensures.begun;
  kept = λ l s. c.in_ok-add.ensures.kept l (c.loop-number.invariant.kept l s);
}
