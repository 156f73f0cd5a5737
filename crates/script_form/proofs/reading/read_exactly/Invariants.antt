use Rattle.std.proofs.Common.{◌≡◌, ◌+◌, ◌≤◌, length}
use Rattle.std.specs.Str.Lines.{lines}
use Rattle.script_form.specs.Reading.{orders_from, script_of}
use Rattle.script_form.specs.Script.{orders}
use Rattle.script_form.proofs.Progress.{behind}
use Rattle.script_form.proofs.reading.read_exactly.Given as goal

abbrev pub invariant-loop-rest : goal.invariant-loop-rest
invariant-loop-rest l = record {
  so_far : script_of l.text ≡ behind (orders l.commands.items) (orders_from (l.number + 1) (lines l.rest));
  counted : l.number + length l.rest ≤ length l.text;
}

abbrev pub decreases-loop-rest : goal.decreases-loop-rest
decreases-loop-rest l = length l.rest
