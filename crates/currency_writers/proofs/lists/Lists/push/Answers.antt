use Rattle.std.proofs.Common.{Some, ap, arith, sym, ◌∙◌}
use Rattle.std.proofs.lemmas.Option.{slice_get-get_or}
use Rattle.currency_writers.proofs.Pushing.{pushed_here, pushed_others}
use Rattle.currency_writers.proofs.lists.Lists.push.Goals as goal

pub returns-clause-pushed : goal.returns-clause-pushed
returns-clause-pushed c =
    let old = c.args.self.now.lists.items in
    let v = c.index_mut.result.now in
    pushed_here old c.args.number c.args.entry v c.push.new.self (omega arith) (slice_get-get_or old c.args.number v (omega arith) ∙ ap Some (sym c.index_mut.ensures.value)) c.in_ok-push.ensures.items

pub returns-clause-others : goal.returns-clause-others
returns-clause-others c =
    let old = c.args.self.now.lists.items in
    let v = c.index_mut.result.now in
    pushed_others old c.args.number c.args.entry v c.push.new.self (omega arith) (slice_get-get_or old c.args.number v (omega arith) ∙ ap Some (sym c.index_mut.ensures.value)) c.in_ok-push.ensures.items
