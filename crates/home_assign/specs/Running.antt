-- That the run of a unit over homes shows what the unit shows.
use Rattle.std.specs.Prelude.{◌≡◌, ℕ, suc, Some, List, [], ◌∷◌}
use Rattle.event_runs.specs.Agreement.{Pairs}
use Rattle.graph_core.specs.Graphs.{UnitForm}
use Rattle.graph_core.specs.Memory.{first_memory}
use Rattle.graph_core.specs.Runs.{Configuration, Event, Goes, Shows, step, enter}
use Rattle.graph_homes.specs.Homed.{HomedForm, over_homes}
use Rattle.graph_homes.specs.Seen.{seen_run}
use Rattle.home_assign.specs.Alike.{IsOddNote, SameSeen}

-- The one list is related, one by one, to the front of the other.
abbrev pub Leads : {A B : Type 0} → (A → B → Type 0) → List A → List B → Type 0
Leads R [] ys = Unit {0}
Leads R (x ∷ xs) [] = ⊥
Leads R (x ∷ xs) (y ∷ ys) = R x y × Leads R xs ys

module _ (u : UnitForm) where
  -- Within so many steps comes a note of what is not known.
  pub data ComesToOddNote : (steps : ℕ) → Configuration → Type 0 where
    here : {n : ℕ} {c : Configuration} → IsOddNote u c → ComesToOddNote (suc n) c
    goes : {n : ℕ} {c d : Configuration} → step u c ≡ Goes d → ComesToOddNote n d → ComesToOddNote (suc n) c
    shows : {n : ℕ} {e : Event} {c d : Configuration} → step u c ≡ Shows e d → ComesToOddNote n d
        → ComesToOddNote (suc n) c

  -- The same of a whole run on an input.
  pub record MeetsOddNote (input : List ℕ) (steps : ℕ) : Type 0 where
    pub first : Configuration
    pub begins : enter u (first_memory u.statics) input u.main [] [] ≡ Some first
    pub comes : ComesToOddNote steps first

module _ (h : HomedForm) where
  -- On each input and for each number of steps all that is seen of the unit is seen over homes, one by one, in as many
  -- steps.
  abbrev pub LeadsOverHomes : Type 0
  LeadsOverHomes =
      (input : List ℕ) (steps : ℕ)
      → Leads (SameSeen h) (seen_run h.unit input steps) (seen_run (over_homes h) input steps)

  -- And nothing more is, unless the unit has come to a note of what is not known.
  abbrev pub ShowsAsMuch : Type 0
  ShowsAsMuch =
      (input : List ℕ) (steps : ℕ) → (MeetsOddNote h.unit input steps → ⊥)
      → Pairs (SameSeen h) (seen_run h.unit input steps) (seen_run (over_homes h) input steps)
