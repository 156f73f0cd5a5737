-- The least route, place by place.
use Rattle.std.specs.Prelude.{ℕ, zero, suc, ◌+◌, ◌^◌, ◌==◌, ◌&&◌, ◌||◌, not, Bool, false, if◌then◌else◌, Option, Some, None, option_map, List, [], ◌∷◌}
use Rattle.std.specs.List.{list_any}
use Rattle.std.specs.Option.{option_map_or}
use Rattle.places.specs.declared.flow.FlowStep.{FlowStep}
use Rattle.places.specs.Flow.{can_go}
use Rattle.places.specs.Path.{Quest}

-- the places to which these steps lead from a place
abbrev pub places_after : List FlowStep → ℕ → List ℕ
places_after [] p = []
places_after (s ∷ steps) p = if s.from.0 == p then s.to.0 ∷ places_after steps p else places_after steps p

-- whether so many steps lead on from a place to the stop
abbrev pub goes_in : Quest → (steps : ℕ) → (passed : Bool) → (p : ℕ) → Bool
goes_in quest zero passed p = false
goes_in quest (suc zero) passed p = passed && can_go quest.steps p quest.stop
goes_in quest (suc (suc n)) passed p =
    list_any (λ q. not (quest.blocked q) && goes_in quest (suc n) (passed || q == quest.via) q)
    (places_after quest.steps p)

-- the first of some places that passes a test
abbrev pub first_that : (ℕ → Bool) → List ℕ → Option ℕ
first_that test [] = None
first_that test (q ∷ places) = if test q then Some q else first_that test places

-- The least places along which so many steps lead on: each is the first from which one step less leads on.
abbrev pub least_on : Quest → (steps : ℕ) → (passed : Bool) → (p : ℕ) → List ℕ
least_on quest zero passed p = []
least_on quest (suc zero) passed p = quest.stop ∷ []
least_on quest (suc (suc n)) passed p =
    option_map_or (λ q. q ∷ least_on quest (suc n) (passed || q == quest.via) q)
    (first_that (λ q. not (quest.blocked q) && goes_in quest (suc n) (passed || q == quest.via) q)
    (places_after quest.steps p))
    []

-- the fewest steps of a number or more, of so many numbers, that lead from the start to the stop
abbrev pub fewest : Quest → (least numbers : ℕ) → Option ℕ
fewest quest k zero = None
fewest quest k (suc more) =
    if goes_in quest k (quest.start == quest.via) quest.start then Some k else fewest quest (k + 1) more

-- More steps than any least route has, which passes no place twice before the place to go by, and none twice behind it:
-- not to be computed with.
unfoldable pub most_steps : ℕ
most_steps = 2 ^ 64

-- the least route, if there is one
abbrev pub route_of : Quest → Option (List ℕ)
route_of quest =
    option_map (λ n. quest.start ∷ least_on quest n (quest.start == quest.via) quest.start) (fewest quest 1 most_steps)
