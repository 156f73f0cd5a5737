-- What a state says of the notes and the homes behind a history.
use Rattle.std.specs.Prelude.{◌≡◌, ◌⊎◌, ℕ, ◌<◌, ◌≤◌, Option, Some, None, List, false, length, slice_get, slice_set}
use Rattle.std.specs.Option.{option_map_or}
use Rattle.graph_core.specs.Graphs.{Recipe, Of, Name, Is, Instruction, Note, Binding, ToScalar, ToObject, recipe_view}
use Rattle.graph_core.specs.Uses.{names_in, target_of}
use Rattle.graph_core.specs.Paths.{History, Among, last_note, notes}
use Rattle.graph_homes.specs.Homes.{last_writer, written_since}
use Rattle.currency_notes.specs.declared.homes.Homes as declared-homes
use Rattle.currency_notes.specs.declared.noted.Noted as declared-noted
use Rattle.currency_notes.specs.declared.noted.Noted.TheVariants as noted
use Rattle.currency_notes.specs.declared.state.State as declared-state
use Rattle.currency_notes.specs.Homes.{home_by, number_in, readers_of, AreReadBy, IsUnread}

-- the recipe that is noted of a scalar
abbrev pub recipe_of : (x : ℕ) → declared-noted.Noted → Option Recipe
recipe_of x noted.Lost = None
recipe_of x noted.Own = Some (Of (Name x))
recipe_of x (noted.Recipe r change) = Some (recipe_view r.now)

-- what is noted of a scalar
abbrev pub noted_in : List declared-noted.Noted → (x : ℕ) → declared-noted.Noted
noted_in all x = option_map_or (λ (n : declared-noted.Noted). n) (slice_get all x) noted.Lost

-- the recipe that is noted of a scalar, if one is
abbrev pub recipe_in : List declared-noted.Noted → (x : ℕ) → Option Recipe
recipe_in all x = recipe_of x (noted_in all x)

-- what is told beside a recipe: a change, or that there is none
abbrev pub told_of : declared-noted.Noted → Option (Option ℕ)
told_of noted.Lost = None
told_of noted.Own = None
told_of (noted.Recipe r change) = Some change

-- what is told beside the recipe that is noted of a scalar, if one is
abbrev pub told_in : List declared-noted.Noted → (x : ℕ) → Option (Option ℕ)
told_in all x = told_of (noted_in all x)

-- it is a change, and no greater than a number
abbrev pub IsAtMost : Option ℕ → (d : ℕ) → Type 0
IsAtMost None d = ⊥
IsAtMost (Some c) d = c ≤ d

-- Where something is told, something else is, and is no less.
abbrev pub IsToldWithin : (less more : Option (Option ℕ)) → Type 0
IsToldWithin less more =
    (c : Option ℕ) → less ≡ Some c → (e : Option ℕ) × (more ≡ Some e) × ((d : ℕ) → IsAtMost e d → IsAtMost c d)

-- No more is so in a state than in another one, and the changes that are told are no greater.
pub record IsWithin (less more : declared-state.State) : Type 0 where
  pub noted : (x : ℕ) (r : Recipe) → recipe_in less.noted.items x ≡ Some r → recipe_in more.noted.items x ≡ Some r
  pub written : (k y : ℕ) → slice_get less.written.items k ≡ Some (Some y)
      → slice_get more.written.items k ≡ Some (Some y)
  pub told : (x : ℕ) → IsToldWithin (told_in less.noted.items x) (told_in more.noted.items x)

-- Of what is so in two states as much is so in a third one, and what is told is of one of them.
pub record IsJoined (one other both : declared-state.State) : Type 0 where
  pub noted : (x : ℕ) (r : Recipe) → recipe_in one.noted.items x ≡ Some r → recipe_in other.noted.items x ≡ Some r
      → recipe_in both.noted.items x ≡ Some r
  pub written : (k y : ℕ) → slice_get one.written.items k ≡ Some (Some y)
      → slice_get other.written.items k ≡ Some (Some y) → slice_get both.written.items k ≡ Some (Some y)
  pub told : (x : ℕ) (c : Option ℕ) → told_in both.noted.items x ≡ Some c
      → (told_in one.noted.items x ≡ Some c) ⊎ (told_in other.noted.items x ≡ Some c)
  pub sizes : (length both.noted.items ≡ length one.noted.items)
      × (length both.written.items ≡ length one.written.items)

module _ (m : declared-homes.Homes) where
  -- The home of a name was last written for it.
  abbrev pub IsHeld : declared-state.State → (y : ℕ) → Type 0
  IsHeld s y = (k : ℕ) × (number_in m y ≡ Some k) × (slice_get s.written.items k ≡ Some (Some y))

  -- The home of each name of a recipe was last written for it.
  abbrev pub AreHeld : declared-state.State → Recipe → Type 0
  AreHeld s r = (y : ℕ) → Among y (names_in r) → IsHeld s y

  -- A state is so behind a history: what is noted of a scalar is its last note, and no home with a new number that it
  -- reads was written behind it; and a home was last written for the name that is written down for it.
  pub record IsSo (parameters : List Binding) (s : declared-state.State) (h : History) : Type 0 where
    pub note : (x : ℕ) (r : Recipe) → recipe_in s.noted.items x ≡ Some r → last_note x h ≡ Some (Is r)
    pub read : (x : ℕ) (r : Recipe) → recipe_in s.noted.items x ≡ Some r → AreReadBy m r x
    pub untouched : (x : ℕ) (r : Recipe) → recipe_in s.noted.items x ≡ Some r → (y : ℕ) → Among y (names_in r) → (k : ℕ)
        → number_in m y ≡ Some k → written_since (home_by m) x (home_by m y) h ≡ false
    pub written : (y : ℕ) → IsHeld s y → last_writer (home_by m) parameters (home_by m y) h ≡ Some y

  -- The home of a name is written for it: what was noted is lost where it reads it.
  pub record IsWritten (z : ℕ) (old new : declared-state.State) : Type 0 where
    pub less : (x : ℕ) (r : Recipe) → recipe_in new.noted.items x ≡ Some r → recipe_in old.noted.items x ≡ Some r
    pub unread : (x : ℕ) (r : Recipe) → recipe_in new.noted.items x ≡ Some r → (k : ℕ) → number_in m z ≡ Some k
        → Among x (readers_of m k) → IsUnread m r z
    pub none : number_in m z ≡ None → new.written.items ≡ old.written.items
    pub put : (k : ℕ) → number_in m z ≡ Some k → new.written.items ≡ slice_set old.written.items k (Some z)
    pub kept : (x : ℕ) (r : Recipe) → recipe_in old.noted.items x ≡ Some r → IsUnread m r z
        → recipe_in new.noted.items x ≡ Some r
    pub told : (x : ℕ) (c : Option ℕ) → told_in new.noted.items x ≡ Some c → told_in old.noted.items x ≡ Some c
    pub size : length new.noted.items ≡ length old.noted.items

  -- A state comes of another one by an instruction, and no more is lost than must be: a note is noted, if the scalar is
  -- among those whose notes may read its homes; what was noted of a scalar of which it is no note stays, if its
  -- target's home is not read; and the name that it writes is the one for which the home was last written, and each
  -- other home's stays.
  pub record IsKept (i : Instruction) (old new : declared-state.State) : Type 0 where
    pub noted : (x : ℕ) (r : Recipe) → i ≡ Note x (Is r) → x < length old.noted.items → AreReadBy m r x
        → recipe_in new.noted.items x ≡ Some r
    pub kept : (x : ℕ) (r : Recipe) → recipe_in old.noted.items x ≡ Some r → notes x i ≡ false
        → ((z : ℕ) → target_of i ≡ Some z → IsUnread m r z) → recipe_in new.noted.items x ≡ Some r
    pub put : (z k : ℕ) → target_of i ≡ Some z → number_in m z ≡ Some k
        → new.written.items ≡ slice_set old.written.items k (Some z)
    pub none : ((z k : ℕ) → target_of i ≡ Some z → number_in m z ≡ Some k → ⊥) → new.written.items ≡ old.written.items
    pub size : length new.noted.items ≡ length old.noted.items

  -- A parameter is bound: a scalar's home is written for it.
  abbrev pub IsBound : Binding → (old new : declared-state.State) → Type 0
  IsBound (ToScalar z) old new = IsWritten z old new
  IsBound (ToObject object) old new = new ≡ old
