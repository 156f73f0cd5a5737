use Rattle.std.proofs.Common.{refl, sym, true≢false, ◌∙◌}
use Rattle.std.proofs.lemmas.Option.{none-some}
use Rattle.graph_core.specs.Graphs.{graph_view}
use Rattle.dead_pass_writes.specs.declared.writes.Spot.{Spot}
use Rattle.dead_pass_rule.proofs.free.FreeWrites.is_once.Goals as goal

pub returns-in-Some : goal.returns-in-Some
returns-in-Some c = (
  (λ e. record {
    block = c.in-Some.field-0.block;
    left = c.in-Some.field-0.left;
    is = (c.only.ensures (graph_view c.args.self.now.graph.now) c.requires c.in-Some.field-0).0 c.in-Some.is;
  }),
  (λ once. refl),
)

pub returns-in-None : goal.returns-in-None
returns-in-None c = (
  (λ e. absurd (true≢false (sym e))),
  (λ once.
      (let spot : Spot = record { block = once.block; left = once.left } in
      absurd (none-some spot (sym c.in-None.is ∙ (c.only.ensures (graph_view c.args.self.now.graph.now) c.requires spot).1 once.is)))),
)
