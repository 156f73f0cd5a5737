use Rattle.std.proofs.Common.{◌≡◌, ℕ, Option, Some, length, take}
use Rattle.graph_core.specs.Graphs.{Recipe}
use Rattle.graph_core.specs.Paths.{Among}
use Rattle.currency_notes.specs.Homes.{IsUnread}
use Rattle.currency_notes.specs.Notes.{recipe_in, told_in}
use Rattle.currency_notes.proofs.state.State.lose.Given as goal

abbrev pub invariant-loop-scalar : goal.invariant-loop-scalar
invariant-loop-scalar l = record {
  written : l.self.written.items ≡ l.fn.self.written.items;
  size : length l.self.noted.items ≡ length l.fn.self.noted.items;
  kept : (x : ℕ) (r : Recipe) → recipe_in l.fn.self.noted.items x ≡ Some r → IsUnread l.function.homes r l.name → recipe_in l.self.noted.items x ≡ Some r;
  less : (x : ℕ) (r : Recipe) → recipe_in l.self.noted.items x ≡ Some r → recipe_in l.fn.self.noted.items x ≡ Some r;
  unread : (x : ℕ) (r : Recipe) → recipe_in l.self.noted.items x ≡ Some r → Among x (take l.scalar-index l.readers) → IsUnread l.function.homes r l.name;
  told : (x : ℕ) (c : Option ℕ) → told_in l.self.noted.items x ≡ Some c → told_in l.fn.self.noted.items x ≡ Some c;
}
