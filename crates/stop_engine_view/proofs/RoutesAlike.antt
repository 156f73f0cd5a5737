-- Routes past places that two tests block alike are the same.
use Rattle.std.proofs.Common.{◌≡◌, ℕ, zero, suc, ◌+◌, Bool, not, if◌then◌else◌, Option, Some, None, List, [], ◌∷◌, refl, ap, ◌∙◌}
use Rattle.std.specs.Prelude.{◌||◌, ◌&&◌, ◌==◌, option_map}
use Rattle.std.specs.List.{list_any}
use Rattle.std.specs.Option.{option_map_or}
use Rattle.places.specs.Path.{Quest}
use Rattle.places.specs.Route.{places_after, goes_in, first_that, least_on, fewest, most_steps, route_of}

-- Tests that agree on each number find the same.
any_alike : (s t : ℕ → Bool) → ((q : ℕ) → s q ≡ t q) → (places : List ℕ) → list_any s places ≡ list_any t places
any_alike s t alike [] = refl
any_alike s t alike (q ∷ places) = ap (λ b. b || list_any s places) (alike q) ∙ ap (λ b. t q || b) (any_alike s t alike places)

first_alike : (s t : ℕ → Bool) → ((q : ℕ) → s q ≡ t q) → (places : List ℕ) → first_that s places ≡ first_that t places
first_alike s t alike [] = refl
first_alike s t alike (q ∷ places) =
    ap (λ b. if b then Some q else first_that s places) (alike q) ∙ ap (λ o. if t q then Some q else o) (first_alike s t alike places)

-- given: what is asked for, and places that are blocked as its own are
module _ (quest : Quest) (blocked : ℕ → Bool) (alike : (p : ℕ) → quest.blocked p ≡ blocked p) where
  abbrev other : Quest
  other = record quest { blocked = blocked }

  goes_alike : (steps : ℕ) (passed : Bool) (p : ℕ) → goes_in quest steps passed p ≡ goes_in other steps passed p
  goes_alike zero passed p = refl
  goes_alike (suc zero) passed p = refl
  goes_alike (suc (suc n)) passed p = any_alike _ _ (λ q. ap (λ b. not b && goes_in quest (suc n) (passed || q == quest.via) q) (alike q) ∙ ap (λ b. not (blocked q) && b) (goes_alike (suc n) (passed || q == quest.via) q)) (places_after quest.steps p)

  least_alike : (steps : ℕ) (passed : Bool) (p : ℕ) → least_on quest steps passed p ≡ least_on other steps passed p
  least_alike zero passed p = refl
  least_alike (suc zero) passed p = refl
  least_alike (suc (suc n)) passed p =
      ap (λ o. option_map_or (λ q. q ∷ least_on quest (suc n) (passed || q == quest.via) q) o [])
      (first_alike _ _ (λ q. ap (λ b. not b && goes_in quest (suc n) (passed || q == quest.via) q) (alike q) ∙ ap (λ b. not (blocked q) && b) (goes_alike (suc n) (passed || q == quest.via) q)) (places_after quest.steps p))
      ∙ by_first (first_that (λ q. not (blocked q) && goes_in other (suc n) (passed || q == quest.via) q) (places_after quest.steps p)) (λ q. least_alike (suc n) (passed || q == quest.via) q)
    where
      by_first : (o : Option ℕ) → ((q : ℕ) → least_on quest (suc n) (passed || q == quest.via) q ≡ least_on other (suc n) (passed || q == quest.via) q)
          → option_map_or (λ q. q ∷ least_on quest (suc n) (passed || q == quest.via) q) o [] ≡ option_map_or (λ q. q ∷ least_on other (suc n) (passed || q == quest.via) q) o []
      by_first None rest = refl
      by_first (Some q) rest = ap (λ l. q ∷ l) (rest q)

  fewest_alike : (least numbers : ℕ) → fewest quest least numbers ≡ fewest other least numbers
  fewest_alike k zero = refl
  fewest_alike k (suc more) =
      ap (λ b. if b then Some k else fewest quest (k + 1) more) (goes_alike k (quest.start == quest.via) quest.start)
      ∙ ap (λ o. if goes_in other k (quest.start == quest.via) quest.start then Some k else o) (fewest_alike (k + 1) more)

  -- THE ROUTE IS THE SAME past places that another test blocks alike.
  pub route_by_blocked : route_of quest ≡ route_of (record quest { blocked = blocked })
  route_by_blocked =
      ap (λ o. option_map (λ n. quest.start ∷ least_on quest n (quest.start == quest.via) quest.start) o) (fewest_alike 1 most_steps)
      ∙ by_steps (fewest other 1 most_steps)
    where
      by_steps : (o : Option ℕ) → option_map (λ n. quest.start ∷ least_on quest n (quest.start == quest.via) quest.start) o ≡ option_map (λ n. quest.start ∷ least_on other n (quest.start == quest.via) quest.start) o
      by_steps None = refl
      by_steps (Some n) = ap (λ l. Some (quest.start ∷ l)) (least_alike n (quest.start == quest.via) quest.start)
