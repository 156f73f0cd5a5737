use Rattle.std.proofs.Common.{map, refl, sym, ap, ◌∙◌}
use Rattle.c_meaning_values.specs.Views.{object_view}
use Rattle.c_meaning_values.specs.Memory.{with_value}
use Rattle.c_meaning_values.specs.Living.{living_from}
use Rattle.c_meaning_values.proofs.Living.{living_changed}
use Rattle.c_meaning_values.proofs.all_objects.Objects.set_value.Goals as goal

pub invariant_of-self : goal.invariant_of-self
invariant_of-self c = record {
  are_living = λ h.
      c.args.self.now.are_living h
      ∙ sym (living_changed 0 (map object_view c.args.self.now.all.items) c.args.object (λ o. with_value o c.args.index c.args.value) (λ o is. refl))
      ∙ ap (living_from 0) (sym c.set_value.ensures);
}
