-- Names in recipes of parts.
use mathlib.Core.Bool.{true≢false}
use Rattle.std.proofs.Common.{◌≡◌, inl, inr, ℕ, Bool, true, false, Some, List, ◌++◌, subst, sym, ◌∙◌}
use Rattle.std.specs.Prelude.{◌↔◌}
use Rattle.std.proofs.lemmas.Option.{same_Some}
use Rattle.graph_core.specs.Graphs.{Operand, Recipe, Of, Name}
use Rattle.graph_core.specs.Paths.{Among, front}
use Rattle.graph_core.specs.Uses.{names_of}
use Rattle.currency_notes.specs.declared.homes.Homes as declared-homes
use Rattle.currency_notes.specs.Homes.{IsRead, IsUnread}
use Rattle.currency_notes.proofs.Lists.{among_parts, among_one}
use Rattle.base_laws.proofs.Booleans.{by_bool}
pub use Rattle.graph_core.proofs.Among.{each_of_one}

-- what is so of the names of both parts is so of the names of the whole
pub each_of_both : (P : ℕ → Type 0) (xs ys : List ℕ) → ((y : ℕ) → Among y xs → P y) → ((y : ℕ) → Among y ys → P y) → (y : ℕ) → Among y (xs ++ ys) → P y
each_of_both P xs ys left right y among = elim (among_parts xs ys among) [ inl f ↦ left y f | inr f ↦ right y f ]

-- what tells something of a name tells it of each name that its operand reads
pub each_of_name : (P : ℕ → Type 0) (x : ℕ) (b : Bool) → (b ≡ true) ↔ P x → (o : Operand) → Name x ≡ o → (b ≡ true) ↔ ((y : ℕ) → Among y (names_of o) → P y)
each_of_name P x b tells o is = subst (λ (q : Operand). (b ≡ true) ↔ ((y : ℕ) → Among y (names_of q) → P y)) is ((λ e. each_of_one P x (tells.0 e)), (λ all. tells.1 (all x front)))

-- whether a scalar's own value reads the home of a name
pub unread_own : (m : declared-homes.Homes) (x name : ℕ) (b : Bool) → (b ≡ true → IsRead m x name) → (IsRead m x name → b ≡ true) → (r : Recipe) → Some (Of (Name x)) ≡ Some r → (b ≡ false) ↔ IsUnread m r name
unread_own m x name b to from r e = subst (λ q. (b ≡ false) ↔ IsUnread m q name) (same_Some (Of (Name x)) r e) (none, all)
  where
    none : b ≡ false → IsUnread m (Of (Name x)) name
    none f y among read = true≢false (sym (from (subst (λ z. IsRead m z name) (among_one among) read)) ∙ f)

    all : IsUnread m (Of (Name x)) name → b ≡ false
    all unread = by_bool b (λ t. absurd (unread x front (to t))) (λ f. f)
