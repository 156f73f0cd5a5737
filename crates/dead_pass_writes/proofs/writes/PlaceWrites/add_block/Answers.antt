use Rattle.std.proofs.Common.{refl}
use Rattle.std.specs.Prelude.{option_map}
use Rattle.debug_records.specs.declared.change.Place.{Place}
use Rattle.graph_core.specs.Graphs.{instruction_view}
use Rattle.dead_pass_writes.specs.Telling.{told}
use Rattle.dead_pass_writes.proofs.Steps.{block_done, block_step, placed_next}
use Rattle.dead_pass_writes.proofs.writes.PlaceWrites.add_block.Goals as goal

pub loop-ahead-preserved : goal.loop-ahead-preserved
loop-ahead-preserved c = λ p x.
    block_step instruction_view _ c.instruction-item.result p x c.args.number (told c.loop-ahead.self p x) _ (option_map (λ (q : Place). q.0) c.loop-ahead.place) _ _ _ _ c.in-len1-up.len_at_least c.instruction-item.is c.target.ensures refl (c.in_ok-add_target.ensures p x)
    (placed_next (instruction_view c.instruction-item.result) c.marker.result c.loop-ahead.place c.or-place.result c.or-place.ensures c.marker.ensures) (c.loop-ahead.invariant p x)

pub returns : goal.returns
returns c = λ p x. block_done instruction_view _ p x c.args.number _ _ _ c.in_default.len_below (c.loop-ahead.invariant p x)
