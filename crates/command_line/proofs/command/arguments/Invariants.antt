use Rattle.std.proofs.Common.{◌++◌, map, take}
use Rattle.command_line.specs.Commands.{AreRules, option_rule, place_rule}
use Rattle.command_line.proofs.command.arguments.Given as goal

abbrev pub invariant-loop-option : goal.invariant-loop-option
invariant-loop-option l = AreRules l.arguments.items (map (λ s. option_rule s.now) (take l.option-index l.options))

abbrev pub invariant-loop-place : goal.invariant-loop-place
invariant-loop-place l = AreRules l.arguments.items
    (map (λ s. option_rule s.now) l.fn.options ++ map (λ s. place_rule s.now) (take l.place-index l.places))
