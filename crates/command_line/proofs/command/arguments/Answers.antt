use Rattle.std.proofs.Common.{map, []}
use Rattle.command_line.specs.Commands.{option_rule, place_rule}
use Rattle.command_line.proofs.CommandsLemmas.{one_more}
use Rattle.command_line.proofs.command.arguments.Goals as goal

pub loop-option-preserved : goal.loop-option-preserved
loop-option-preserved c = one_more (λ s. option_rule s.now) [] c.args.options.now c.loop-option.option-index _ _ _ c.loop-option-test.true c.in_ok-add_option.ensures c.loop-option.invariant

pub loop-place-preserved : goal.loop-place-preserved
loop-place-preserved c = one_more (λ s. place_rule s.now) (map (λ s. option_rule s.now) c.args.options.now) c.args.places.now c.loop-place.place-index _ _ _ c.loop-place-test.true c.in_ok-add_place.ensures c.loop-place.invariant
