use Rattle.std.proofs.Common.{◌∙◌, subst, sym}
use Rattle.currency_writers.specs.Flow.{IsFlow, IsFlowOfPlaces}
use Rattle.currency_writers.specs.declared.flow.Flow as declared-flow
use Rattle.currency_writers.proofs.Telling.{assigning_within, blocked_by}
use Rattle.currency_writers.proofs.flow.Flow.turn_to.Goals as goal

pub mark-requires : goal.mark-requires
mark-requires c = assigning_within c.args.self.now c.args.var.0 c.get-places.result.now _ c.requires c.get-places.ensures c.forget.ensures.room

pub returns-clause-flow : goal.returns-clause-flow
returns-clause-flow c = record {
  after = c.requires.after;
  assigning = c.requires.assigning;
  ordered = c.requires.ordered;
  places = subst (λ n. IsFlowOfPlaces c.args.self.now.table.now n) (sym (c.mark.ensures.room ∙ c.forget.ensures.room)) c.requires.places;
}

pub returns-clause-blocked : goal.returns-clause-blocked
returns-clause-blocked c =
    (let new : declared-flow.Flow = record { table = c.args.self.now.table; after = c.args.self.now.after; assigning = c.args.self.now.assigning; var = c.args.var; assigns = c.mark.new.self } in
    blocked_by new c.forget.new.self c.get-places.result.now c.requires.assigning c.get-places.ensures c.forget.ensures.none c.mark.ensures.only c.mark.ensures.all)

pub returns-clause-room : goal.returns-clause-room
returns-clause-room c = c.mark.ensures.room ∙ c.forget.ensures.room
