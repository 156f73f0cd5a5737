-- Memory of the code, as contracts see it.
use Rattle.word_base.specs.Owners.{Owner, Static, Literal, Variable}
use Rattle.c_meaning_values.specs.declared.memory.Owner as declared-owner
use Rattle.c_meaning_values.specs.declared.memory.Owner.TheVariants as owner
use Rattle.c_meaning_values.specs.declared.memory.Object as declared-object
use Rattle.c_meaning_values.specs.Memory.{Object}

abbrev pub owner_view : declared-owner.Owner → Owner
owner_view (owner.Static n) = Static n
owner_view (owner.Literal n) = Literal n
owner_view (owner.Variable x depth) = Variable x depth

abbrev pub object_view : declared-object.Object → Object
object_view o = record { owner = owner_view o.owner; element = o.element; values = o.values.items; phase = o.phase }
