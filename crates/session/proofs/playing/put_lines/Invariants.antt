use Rattle.std.proofs.Common.{◌≡◌, true, drop, map}
use Rattle.std.specs.List.{flat_map}
use Rattle.line_form.specs.Lines.{line}
use Rattle.session.proofs.Parts.{IsUnderWay}
use Rattle.session.proofs.playing.put_lines.Given as goal

abbrev pub invariant-loop-text : goal.invariant-loop-text
invariant-loop-text g l = record {
  count : (g.K.Sink.state l.sink).fault_count ≡ (g.K.Sink.state l.fn.sink).fault_count;
  telling : (g.K.Sink.state l.sink).tells ≡ (g.K.Sink.state l.fn.sink).tells;
  taken : (g.K.Sink.state l.fn.sink).tells ≡ true → IsUnderWay (flat_map line (map (λ x. x.items) l.lines)) (flat_map line (map (λ x. x.items) (drop l.text-index l.lines))) (g.K.Sink.state l.fn.sink).taken (g.K.Sink.state l.sink).taken;
}
