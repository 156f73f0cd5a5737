-- How much of a state can still be lost: the more is so in it, and the greater the changes are that are told, the
-- higher it ranks.
use Rattle.std.specs.Prelude.{◌≡◌, ℕ, ◌+◌, ◌*◌, min, Option, Some, None, List, [], ◌∷◌, length, slice_get}
use Rattle.std.specs.Option.{option_map_or}
use Rattle.graph_core.specs.Graphs.{Recipe, graph_view}
use Rattle.currency_notes.specs.declared.function.Function as declared-function
use Rattle.currency_notes.specs.declared.noted.Noted as declared-noted
use Rattle.currency_notes.specs.declared.noted.Noted.TheVariants as noted
use Rattle.currency_notes.specs.declared.state.State as declared-state
use Rattle.currency_notes.specs.Notes.{recipe_of, told_of, IsToldWithin}

-- A change ranks as its number does, as far as numbers of 32 bits go; no change ranks above each.
abbrev pub rank_of_change : Option ℕ → ℕ
rank_of_change None = 4294967296
rank_of_change (Some c) = min c 4294967295

-- What is noted of a scalar ranks lowest where it is lost, and highest with a recipe.
abbrev pub rank_of : declared-noted.Noted → ℕ
rank_of noted.Lost = 0
rank_of noted.Own = 1
rank_of (noted.Recipe r change) = 2 + rank_of_change change

-- what is noted of all scalars
abbrev pub rank_in : List declared-noted.Noted → ℕ
rank_in [] = 0
rank_in (n ∷ more) = rank_of n + rank_in more

-- the name that a home was last written for, if one is known
abbrev pub name_in : List (Option ℕ) → (home : ℕ) → Option ℕ
name_in written k = option_map_or (λ (o : Option ℕ). o) (slice_get written k) None

-- the homes for which it is known by which name they were last written
abbrev pub known_in : List (Option ℕ) → ℕ
known_in [] = 0
known_in (None ∷ more) = known_in more
known_in (Some y ∷ more) = 1 + known_in more

-- a state
abbrev pub rank : declared-state.State → ℕ
rank s = rank_in s.noted.items + known_in s.written.items

-- What is noted of a scalar in one state is noted in another one too, with a change that is no less.
pub record IsNotedWithin (x : ℕ) (less more : declared-noted.Noted) : Type 0 where
  pub noted : (r : Recipe) → recipe_of x less ≡ Some r → recipe_of x more ≡ Some r
  pub told : IsToldWithin (told_of less) (told_of more)

-- Each home was last written for the name as in another state, or nothing is known of it.
abbrev pub AreWrittenWithin : (less more : List (Option ℕ)) → Type 0
AreWrittenWithin less more = (k y : ℕ) → slice_get less k ≡ Some (Some y) → slice_get more k ≡ Some (Some y)

-- A state is one of a function: it says something of each scalar, and of each home with a new number.
abbrev pub IsSized : declared-function.Function → declared-state.State → Type 0
IsSized f s =
    (length s.noted.items ≡ length (graph_view f.graph.now).scalars)
    × (length s.written.items ≡ length f.homes.readers.items)

-- so high a state of a function ranks at most
abbrev pub most_rank : declared-function.Function → ℕ
most_rank f = length (graph_view f.graph.now).scalars * 4294967298 + length f.homes.readers.items
