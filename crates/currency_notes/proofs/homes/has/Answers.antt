use Rattle.std.proofs.Common.{◌≢◌, arith, refl, sym, true≢false}
use Rattle.currency_notes.proofs.Lists.{each_all, each_more_any, get_among_at}
use Rattle.currency_notes.proofs.homes.has.Goals as goal

pub loop-entry-preserved : goal.loop-entry-preserved
loop-entry-preserved c = record {
  within = omega arith;
  none = each_more_any (λ a. a ≢ c.args.wanted) c.args.entries.now c.loop-entry.entry-index _ c.loop-entry-test.true c.loop-entry.invariant.none c.if-entry-wanted.false;
}

pub returns-then-entry-wanted : goal.returns-then-entry-wanted
returns-then-entry-wanted c = ((λ e. get_among_at c.args.entries.now c.loop-entry.entry-index c.args.wanted _ c.loop-entry-test.true c.if-entry-wanted.true), (λ there. refl))

pub returns : goal.returns
returns c = ((λ e. absurd (true≢false (sym e))), (λ there. absurd (each_all (λ a. a ≢ c.args.wanted) c.args.entries.now c.loop-entry.entry-index (omega arith) c.loop-entry.invariant.none c.args.wanted there refl)))
