use Rattle.std.proofs.Common.{List, map, ap, ◌∙◌}
use Rattle.c_meaning_values.specs.declared.memory.Object.{Object}
use Rattle.c_meaning_values.specs.Views.{object_view, owner_view}
use Rattle.c_meaning_values.specs.Living.{owned_among}
use Rattle.c_meaning_values.proofs.Living.{owned_is}
use Rattle.c_meaning_values.proofs.all_objects.Objects.number_of.Goals as goal

pub returns-then-self : goal.returns-then-self
returns-then-self c =
    let w = owner_view c.args.owner in
    let m = map object_view c.args.self.now.all.items in
    c.owned_among.ensures
    ∙ ap (λ (objects : List Object). owned_among w (map object_view objects) c.deref-then-self.result.now) c.deref.ensures.value
    ∙ ap (owned_among w m) (c.deref-then-self.ensures.value ∙ c.args.self.now.are_living c.if-self.true)
    ∙ owned_is w m
