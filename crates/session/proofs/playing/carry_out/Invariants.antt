use Rattle.std.proofs.Common.{◌≡◌, true, drop}
use Rattle.std.specs.List.{flat_map}
use Rattle.line_form.specs.Lines.{line}
use Rattle.script_form.specs.Script.{orders}
use Rattle.stop_engine.specs.EngineState.{lines_of}
use Rattle.session.proofs.Parts.{IsUnderWay}
use Rattle.session.proofs.playing.carry_out.Given as goal

abbrev pub invariant-loop-command : goal.invariant-loop-command
invariant-loop-command g l = record {
  count : (g.K.Sink.state l.sink).fault_count ≡ (g.K.Sink.state l.fn.sink).fault_count;
  telling : (g.K.Sink.state l.sink).tells ≡ (g.K.Sink.state l.fn.sink).tells;
  taken : (g.K.Sink.state l.fn.sink).tells ≡ true → IsUnderWay (flat_map line (lines_of l.fn.engine (orders l.commands))) (flat_map line (lines_of l.engine (orders (drop l.command-index l.commands)))) (g.K.Sink.state l.fn.sink).taken (g.K.Sink.state l.sink).taken;
}
