-- From which places execution may come to others.
use Rattle.std.specs.Prelude.{◌≡◌, ◌⊎◌, ℕ, ◌≤◌, true, false}
use Rattle.currency_writers.specs.declared.search.Search as declared-search
use Rattle.currency_writers.specs.Flow.{AreLeast, AreStarts, assigned, ComesOn, HasRoom, IsBlocked, IsFlow}

module _ (s : declared-search.Search) where
  -- A search is in a flow, and each place of it may get a start.
  pub record IsSearch : Type 0 where
    pub flow : IsFlow s.flow
    pub room : HasRoom s.flow s.starts

  -- The questions are on one variable: the places that assign it are marked, and the start of a place is the least of
  -- them from which execution may come there.
  pub record IsTurned : Type 0 where
    pub search : IsSearch
    pub blocked : IsBlocked s.flow
    pub starts : AreStarts s.flow s.starts
    pub least : AreLeast s.flow s.starts

  -- A place assigns the variable, and a way leads from it by another one: it is that itself, or execution may come
  -- there, and that does not assign the variable.
  pub record IsStartBy (start via : ℕ) : Type 0 where
    pub assigns : assigned s.flow start ≡ true
    pub by : (start ≡ via) ⊎ (ComesOn s.flow start via × (assigned s.flow via ≡ false))

  -- It is the least place that assigns the variable, and from which a way leads by another one.
  pub record IsLeastStartBy (start via : ℕ) : Type 0 where
    pub is : IsStartBy start via
    pub least : (other : ℕ) → IsStartBy other via → start ≤ other

  -- No way that begins where the variable is assigned leads by a place.
  abbrev pub HasNoStart : (via : ℕ) → Type 0
  HasNoStart via = (start : ℕ) → IsStartBy start via → ⊥
