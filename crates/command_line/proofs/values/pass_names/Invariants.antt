use Rattle.std.proofs.Common.{◌≡◌, map, take, true}
use Rattle.std.specs.List.{list_all}
use Rattle.debug_records.specs.Change.{letters}
use Rattle.command_line.specs.Values.{is_pass_name}
use Rattle.command_line.proofs.values.pass_names.Given as goal

abbrev pub invariant-loop-text : goal.invariant-loop-text
invariant-loop-text l = record {
  names : map letters l.names.items ≡ map (λ s. s.now) (take l.text-index l.texts);
  named : list_all (λ s. is_pass_name s.now) (take l.text-index l.texts) ≡ true;
}
