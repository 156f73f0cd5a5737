use Rattle.std.proofs.Common.{Some, ap, arith, sym, ◌∙◌}
use Rattle.std.proofs.lemmas.Option.{slice_get-get_or}
use Rattle.graph_core.specs.Graphs.{block_view, end_view, graph_view}
use Rattle.currency_shown.proofs.Reaching.{reached_at_end}
use Rattle.currency_shown.proofs.Chaining.{end_walked, no_end, none_beyond, view_at}
use Rattle.currency_shown.proofs.states.walk_block.Goals as goal

pub returns-then-number-len : goal.returns-then-number-len
returns-then-number-len c = λ start. no_end c.args.function.now c.args.state.now c.args.number (none_beyond c.args.function.now.graph.now.blocks.items c.args.number (omega arith))

pub returns : goal.returns
returns c =
    (let b = c.index-block.result.now in
    let at = slice_get-get_or c.args.function.now.graph.now.blocks.items c.args.number b (omega arith) ∙ ap Some (sym c.index-block.ensures) in
    end_walked c.args.function.now c.args.state.now c.walk.new.self c.args.number b at (λ whole. record { reached = reached_at_end (graph_view c.args.function.now.graph.now) c.args.number (block_view b).instructions (end_view b.end) whole.reached; sized = c.walk.ensures.sized whole.sized; full = λ exact. c.walk.ensures.full c.args.number (end_view b.end) exact (whole.full exact); attained = λ log told. c.walk.ensures.attained log c.args.number (end_view b.end) told (view_at c.args.function.now c.args.number b at) (whole.attained log told) }))
