-- What is left of notes that read a home, as far as scalars were looked at; and as far as a state was compared.
use Rattle.std.proofs.Common.{◌≡◌, ◌≢◌, inl, inr, ℕ, ◌+◌, ◌<◌, ◌≤◌, Option, Some, None, List, [], ◌∷◌, ◌++◌, length, get_or, map, take, refl, sym, ap, subst, ◌∙◌, arith}
use Rattle.std.specs.Prelude.{slice_get, slice_set}
use Rattle.std.proofs.lemmas.Option.{none-some, same_Some, slice_get-get_or, slice_get_within}
use Rattle.std.proofs.lemmas.Bool.Decides.{eqb_tells}
use Rattle.graph_core.specs.Graphs.{Recipe, Binding, ToScalar, ToObject, binding_view}
use Rattle.graph_core.specs.declared.graph.Binding as declared-binding
use Rattle.std.proofs.lemmas.List.{map-append}
use Rattle.graph_core.specs.Paths.{Among}
use Rattle.currency_notes.specs.declared.homes.Homes as declared-homes
use Rattle.currency_notes.specs.declared.noted.Noted as declared-noted
use Rattle.currency_notes.specs.declared.noted.Noted.TheVariants as noted
use Rattle.graph_homes.specs.Homes.{bound_last}
use Rattle.currency_notes.specs.declared.state.State as declared-state
use Rattle.currency_notes.specs.Homes.{home_by, number_in, readers_of, IsUnread}
use Rattle.currency_notes.specs.Notes.{recipe_in, recipe_of, told_in, IsBound, IsHeld, IsSo, IsWritten}
use Rattle.currency_notes.proofs.Lists.{each_all, each_more, get_any, take_one_more}
use Rattle.currency_notes.proofs.Steps.{put_cases, said_at, at_said, bound_more, held_behind}

-- one scalar more was looked at
pub lose_more : (m : declared-homes.Homes) (name : ℕ) (readers : List ℕ) (i d : ℕ) (old new : List declared-noted.Noted) → i < length readers → ((y : ℕ) (r : Recipe) → recipe_in new y ≡ Some r → recipe_in old y ≡ Some r)
    → ((r : Recipe) → recipe_in new (get_or readers i d) ≡ Some r → IsUnread m r name) → ((y : ℕ) (r : Recipe) → recipe_in old y ≡ Some r → Among y (take i readers) → IsUnread m r name)
    → (y : ℕ) (r : Recipe) → recipe_in new y ≡ Some r → Among y (take (i + 1) readers) → IsUnread m r name
lose_more m name readers i d old new lt less here before y r said among =
    each_more (λ z. (s : Recipe) → recipe_in new z ≡ Some s → IsUnread m s name) readers i (get_or readers i d) lt (get_any readers i d (get_or readers i d) lt) (λ z there s e. before z s (less z s e) there) here y among r said

-- all were looked at
pub lose_all : (m : declared-homes.Homes) (name : ℕ) (readers : List ℕ) (i : ℕ) (all : List declared-noted.Noted) → length readers ≤ i → ((y : ℕ) (r : Recipe) → recipe_in all y ≡ Some r → Among y (take i readers) → IsUnread m r name)
    → (y : ℕ) (r : Recipe) → recipe_in all y ≡ Some r → Among y readers → IsUnread m r name
lose_all m name readers i all le each y r said among = each_all (λ z. (s : Recipe) → recipe_in all z ≡ Some s → IsUnread m s name) readers i le (λ z there s e. each z s e there) y among r said

-- a write
pub written_by : (m : declared-homes.Homes) (z k : ℕ) (s t u : declared-state.State) → number_in m z ≡ Some k → t.noted.items ≡ s.noted.items → t.written.items ≡ slice_set s.written.items k (Some z) → u.written.items ≡ t.written.items
    → ((x : ℕ) (r : Recipe) → recipe_in u.noted.items x ≡ Some r → recipe_in t.noted.items x ≡ Some r) → ((x : ℕ) (r : Recipe) → recipe_in u.noted.items x ≡ Some r → Among x (readers_of m k) → IsUnread m r z)
    → ((x : ℕ) (r : Recipe) → recipe_in t.noted.items x ≡ Some r → IsUnread m r z → recipe_in u.noted.items x ≡ Some r) → ((x : ℕ) (c : Option ℕ) → told_in u.noted.items x ≡ Some c → told_in t.noted.items x ≡ Some c) → length u.noted.items ≡ length t.noted.items → IsWritten m z s u
written_by m z k s t u number noted put written less unread kept told size = record {
  less = λ x r said. subst (λ (xs : List declared-noted.Noted). recipe_in xs x ≡ Some r) noted (less x r said);
  unread = λ x r said j other among. unread x r said (subst (λ n. Among x (readers_of m n)) (same_Some j k (sym other ∙ number)) among);
  none = λ none. absurd (none-some k (sym none ∙ number));
  put = λ j other. written ∙ put ∙ ap (λ n. slice_set s.written.items n (Some z)) (same_Some k j (sym number ∙ other));
  kept = λ x r said. kept x r (subst (λ (xs : List declared-noted.Noted). recipe_in xs x ≡ Some r) (sym noted) said);
  told = λ x c said. subst (λ (xs : List declared-noted.Noted). told_in xs x ≡ Some c) noted (told x c said);
  size = size ∙ ap (λ (xs : List declared-noted.Noted). length xs) noted;
}

-- one parameter more is bound
pub bound_on : (m : declared-homes.Homes) (b : Binding) (s t : declared-state.State) (before : List Binding) → IsBound m b s t → ((x : ℕ) (r : Recipe) → recipe_in s.noted.items x ≡ Some r → ⊥) → ((y : ℕ) → IsHeld m s y → bound_last (home_by m) (home_by m y) before None ≡ Some y)
    → ((x : ℕ) (r : Recipe) → recipe_in t.noted.items x ≡ Some r → ⊥) × ((y : ℕ) → IsHeld m t y → bound_last (home_by m) (home_by m y) (before ++ (b ∷ [])) None ≡ Some y)
bound_on m (ToScalar z) s t before write none each = (
  (λ x r said. none x r (write.less x r said)),
  (λ y held. bound_more (home_by m) (home_by m y) before (ToScalar z) None ∙ held_behind m z s t write (λ k. bound_last (home_by m) k before None) each y held),
)
bound_on m (ToObject object) s t before same none each = (
  (λ x r said. none x r (subst (λ (u : declared-state.State). recipe_in u.noted.items x ≡ Some r) same said)),
  (λ y held. bound_more (home_by m) (home_by m y) before (ToObject object) None ∙ each y (subst (λ (u : declared-state.State). IsHeld m u y) same held)),
)

-- the next parameter of a list is bound
pub next_bound : (m : declared-homes.Homes) (ps : List declared-binding.Binding) (i : ℕ) (d : declared-binding.Binding) (s t : declared-state.State) → i < length ps → IsBound m (binding_view (get_or ps i d)) s t → ((x : ℕ) (r : Recipe) → recipe_in s.noted.items x ≡ Some r → ⊥)
    → ((y : ℕ) → IsHeld m s y → bound_last (home_by m) (home_by m y) (map binding_view (take i ps)) None ≡ Some y)
    → ((x : ℕ) (r : Recipe) → recipe_in t.noted.items x ≡ Some r → ⊥) × ((y : ℕ) → IsHeld m t y → bound_last (home_by m) (home_by m y) (map binding_view (take (i + 1) ps)) None ≡ Some y)
next_bound m ps i d s t lt bound none each =
    let b : declared-binding.Binding = get_or ps i d in
    let grown : map binding_view (take (i + 1) ps) ≡ map binding_view (take i ps) ++ (binding_view b ∷ []) = ap (map binding_view) (take_one_more ps i b lt (get_any ps i d b lt)) ∙ map-append binding_view (take i ps) (b ∷ []) in
    let next = bound_on m (binding_view b) s t (map binding_view (take i ps)) bound none each in
    (next.0, λ y held. ap (λ (l : List Binding). bound_last (home_by m) (home_by m y) l None) grown ∙ next.1 y held)

-- where all parameters are bound the function begins
pub so_first : (m : declared-homes.Homes) (ps : List Binding) (s : declared-state.State) → ((x : ℕ) (r : Recipe) → recipe_in s.noted.items x ≡ Some r → ⊥) → ((y : ℕ) → IsHeld m s y → bound_last (home_by m) (home_by m y) ps None ≡ Some y) → IsSo m ps s []
so_first m ps s none each = record {
  note = λ x r said. absurd (none x r said);
  read = λ x r said. absurd (none x r said);
  untouched = λ x r said. absurd (none x r said);
  written = each;
}
