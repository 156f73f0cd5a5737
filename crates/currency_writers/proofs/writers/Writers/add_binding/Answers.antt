use Rattle.std.proofs.Common.{◌∷◌, [], ap, refl}
use Rattle.std.proofs.lemmas.Option.{same_Some}
use Rattle.graph_core.specs.Graphs.{binding_view}
use Rattle.currency_writers.proofs.Order.{no_later_same}
use Rattle.currency_writers.proofs.Written.{binding_there, binding_writes}
use Rattle.currency_writers.proofs.writers.Writers.add_binding.Goals as goal

pub add-requires-clause-writes : goal.add-requires-clause-writes
add-requires-clause-writes c = λ p e. binding_writes c.args.self.now c.args.parameter c.in-Scalar.name.0 p c.args.binding.now c.requires.binding (ap binding_view c.in-Scalar.is) (same_Some c.args.self.now.graph.now.entry.0 p e)

pub returns-in_ok-add-in-Scalar-clause-next : goal.returns-in_ok-add-in-Scalar-clause-next
returns-in_ok-add-in-Scalar-clause-next c = c.in_ok-add-in-Scalar.ensures.next (0 ∷ c.args.parameter ∷ []) (no_later_same (0 ∷ c.args.parameter ∷ [])) c.requires.next

pub returns-in_ok-add-in-Scalar-clause-there : goal.returns-in_ok-add-in-Scalar-clause-there
returns-in_ok-add-in-Scalar-clause-there c = λ x e.
    binding_there c.args.self.now c.add.new.self (binding_view c.args.binding.now) c.args.parameter c.in-Scalar.name.0 c.in_ok-add-in-Scalar.ensures.more (ap binding_view c.in-Scalar.is) (c.in_ok-add-in-Scalar.ensures.there c.args.self.now.graph.now.entry.0 refl) x e
