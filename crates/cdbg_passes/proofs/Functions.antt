-- What the functions of a unit are made of, one by one.
use Rattle.std.proofs.Common.{◌≡◌, ℕ, zero, suc, Some, List, [], ◌∷◌, subst}
use Rattle.std.specs.Prelude.{slice_get}
use Rattle.std.specs.List.{AllByRecursion}
use Rattle.std.proofs.lemmas.Option.{none-some, same_Some}
use Rattle.graph_core.specs.Graphs.{Graph}
use Rattle.pass_law.specs.Kept.{EachFunction}

-- A function is made of the one of its number.
pub made_of : (IsMade : Graph → Graph → Type 0) (gs hs : List Graph) → EachFunction IsMade gs hs → (f : ℕ) (g h : Graph) → slice_get gs f ≡ Some g → slice_get hs f ≡ Some h → IsMade g h
made_of IsMade [] [] each f g h is at = absurd (none-some g is)
made_of IsMade [] (y ∷ hs) each f g h is at = absurd each
made_of IsMade (x ∷ gs) [] each f g h is at = absurd each
made_of IsMade (x ∷ gs) (y ∷ hs) each zero g h is at = subst (λ a. IsMade a h) (same_Some x g is) (subst (λ a. IsMade x a) (same_Some y h at) each.0)
made_of IsMade (x ∷ gs) (y ∷ hs) each (suc f) g h is at = made_of IsMade gs hs each.1 f g h is at

-- What is so of a function that is made so is so of all of them.
pub each_so : (IsMade : Graph → Graph → Type 0) (IsSo : Graph → Type 0) → ((g h : Graph) → IsMade g h → IsSo h) → (gs hs : List Graph) → EachFunction IsMade gs hs → AllByRecursion IsSo hs
each_so IsMade IsSo follows [] [] each = tt
each_so IsMade IsSo follows [] (h ∷ hs) each = absurd each
each_so IsMade IsSo follows (g ∷ gs) [] each = tt
each_so IsMade IsSo follows (g ∷ gs) (h ∷ hs) each = (follows g h each.0, each_so IsMade IsSo follows gs hs each.1)

-- Functions become so, where each does that is made so.
pub each_becomes : (IsMade Becomes : Graph → Graph → Type 0) → ((g h : Graph) → IsMade g h → Becomes g h) → (gs hs : List Graph) → EachFunction IsMade gs hs → EachFunction Becomes gs hs
each_becomes IsMade Becomes follows [] [] each = tt
each_becomes IsMade Becomes follows [] (h ∷ hs) each = absurd each
each_becomes IsMade Becomes follows (g ∷ gs) [] each = absurd each
each_becomes IsMade Becomes follows (g ∷ gs) (h ∷ hs) each = (follows g h each.0, each_becomes IsMade Becomes follows gs hs each.1)
