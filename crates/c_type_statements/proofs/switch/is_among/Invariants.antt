use Rattle.std.proofs.Common.{◌≡◌, drop}
use Rattle.c_type_statements.specs.Switches.{is_among_numbers}
use Rattle.c_type_statements.proofs.switch.is_among.Given as goal

abbrev pub invariant-loop-one : goal.invariant-loop-one
invariant-loop-one l = is_among_numbers l.value (drop l.one-index l.values) ≡ is_among_numbers l.value l.values
