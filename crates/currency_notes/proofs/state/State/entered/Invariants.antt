use Rattle.std.proofs.Common.{◌≡◌, ℕ, Some, None, length, map, take}
use Rattle.graph_homes.specs.Homes.{bound_last}
use Rattle.graph_core.specs.Graphs.{Recipe, binding_view}
use Rattle.currency_notes.specs.Homes.{home_by}
use Rattle.currency_notes.specs.Notes.{IsHeld, recipe_in}
use Rattle.currency_notes.specs.Full.{AreExact}
use Rattle.currency_notes.proofs.Filling.{AreBound}
use Rattle.currency_notes.proofs.state.State.entered.Given as goal

abbrev pub invariant-loop-binding : goal.invariant-loop-binding
invariant-loop-binding l = record {
  none : (x : ℕ) (r : Recipe) → recipe_in l.state.noted.items x ≡ Some r → ⊥;
  bound : (y : ℕ) → IsHeld l.function.homes l.state y → bound_last (home_by l.function.homes) (home_by l.function.homes y) (map binding_view (take l.binding-index l.function.graph.now.parameters.items)) None ≡ Some y;
  scalars : length l.state.noted.items ≡ length l.function.graph.now.scalars.items;
  homes : length l.state.written.items ≡ length l.function.homes.readers.items;
  full : AreExact l.function → AreBound l.function.homes l.state (map binding_view (take l.binding-index l.function.graph.now.parameters.items));
}
