use Rattle.std.proofs.Common.{◌∙◌}
use Rattle.currency_hiding.proofs.Asked.{same_room}
use Rattle.currency_hiding.proofs.function.Function.mark_written.Goals as goal

pub mark_homes-requires : goal.mark_homes-requires
mark_homes-requires c = record { writers = c.requires.writers; none = c.forget.ensures.none }

pub returns-clause-marked : goal.returns-clause-marked
returns-clause-marked c = λ p y w writes shared. c.mark_homes.ensures.marked p y w writes shared (same_room p _ _ c.forget.ensures.room (c.requires.placed p y w writes))

pub returns-clause-room : goal.returns-clause-room
returns-clause-room c = c.mark_homes.ensures.room ∙ c.forget.ensures.room
