use Rattle.std.proofs.Common.{◌-◌, Some, ap, arith, get_or, length, sym, ◌∙◌}
use Rattle.std.proofs.lemmas.Option.{slice_get-get_or}
use Rattle.currency_shown.proofs.Chaining.{last_at, list_begins, start_each}
use Rattle.currency_shown.proofs.states.States.leave_with.Goals as goal

pub returns : goal.returns
returns c = λ linked start before.
    (let f = c.args.function.now in
    let chain = c.args.chain.now in
    let b = c.index-block.result.now in
    let begins = list_begins chain c.requires in
    let size = c.requires in
    let last = last_at chain (length chain - 1) 0 (omega (arith, size)) in
    let end = c.walk.ensures (get_or chain 0 0) (get_or chain (length chain - 1) 0) begins.0 linked begins.1 last start in
    c.in_ok-go_on.ensures.full before (start_each f c.walk.new.state (get_or chain (length chain - 1) 0) b (slice_get-get_or f.graph.now.blocks.items (get_or chain (length chain - 1) 0) b (omega arith) ∙ ap Some (sym c.index-block.ensures)) end))
