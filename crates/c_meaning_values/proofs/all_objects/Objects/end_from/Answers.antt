use Rattle.c_meaning_values.proofs.all_objects.Objects.end_from.Goals as goal

pub invariant_of-self : goal.invariant_of-self
invariant_of-self c = record { are_living = λ h. c.end_from.ensures.living (c.args.self.now.are_living h) }
