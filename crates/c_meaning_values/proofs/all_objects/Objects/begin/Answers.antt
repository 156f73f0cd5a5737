use Rattle.std.proofs.Common.{map, sym, ap, ◌∙◌}
use Rattle.c_meaning_values.specs.declared.value.Phase.TheVariants.{Live}
use Rattle.c_meaning_values.specs.Views.{object_view}
use Rattle.c_meaning_values.specs.Memory.{in_phase}
use Rattle.c_meaning_values.specs.Living.{living_from}
use Rattle.c_meaning_values.proofs.Living.{living_changed}
use Rattle.c_meaning_values.proofs.all_objects.Objects.begin.Goals as goal

pub invariant_of-self : goal.invariant_of-self
invariant_of-self c = record {
  are_living = λ h.
      c.args.self.now.are_living (c.stay_known-self.ensures.known h)
      ∙ sym (living_changed 0 (map object_view c.args.self.now.all.items) c.args.object (in_phase Live) (λ o is. sym (c.stay_known-self.ensures.living h o is)))
      ∙ ap (living_from 0) (sym c.begin.ensures);
}
