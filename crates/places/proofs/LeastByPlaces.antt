-- The least route is that of the definition by places.
use Rattle.std.proofs.Common.{◌≡◌, ◌≢◌, ℕ, zero, suc, ◌+◌, ◌*◌, ◌<◌, ◌≤◌, ◌⊎◌, Bool, true, false, not, Option, Some, None, List, [], ◌∷◌, length, refl, sym, ap, ◌∙◌, subst, inl, inr, arith}
use Rattle.std.specs.Prelude.{◌||◌, ◌&&◌, ◌==◌, slice_get, option_map}
use Rattle.std.specs.List.{list_any}
use Rattle.std.specs.Option.{option_map_or}
use Rattle.std.proofs.lemmas.Bool.{cases_eq}
use Rattle.std.proofs.lemmas.Bool.Decides.{nat_tests}
use Rattle.std.proofs.lemmas.Option.{none-some, same_Some, slice_get_within}
use Rattle.places.specs.declared.flow.FlowStep.{FlowStep}
use Rattle.places.specs.Flow.{can_go, AreInOrder}
use Rattle.places.specs.Path.{Quest, LeadOn, IsRoute, IsLess, IsBefore, IsNotBehind, IsLeastRoute}
use Rattle.places.specs.Route.{places_after, goes_in, first_that, least_on, fewest, most_steps, route_of}
use Rattle.places.proofs.Searched.{step_order}
use Rattle.base_laws.proofs.Booleans.{and_left as both_left, and_right as both_right}

-- the test of a place that may come next
abbrev next_test : Quest → ℕ → Bool → ℕ → Bool
next_test quest n passed q = not (quest.blocked q) && goes_in quest (suc n) (passed || q == quest.via) q

-- the place is one of a list
pub data Among (q : ℕ) : List ℕ → Type 0 where
  here : (qs : List ℕ) → Among q (q ∷ qs)
  later : (r : ℕ) (qs : List ℕ) → Among q qs → Among q (r ∷ qs)

at_front : (q r : ℕ) (qs : List ℕ) → Among q (r ∷ qs) → (q ≡ r) ⊎ Among q qs
at_front q r qs (here _) = inl refl
at_front q r qs (later _ _ h) = inr h

any_among : (test : ℕ → Bool) (q : ℕ) (qs : List ℕ) → Among q qs → test q ≡ true → list_any test qs ≡ true
any_among test q _ (here qs) t = rw t refl
any_among test q _ (later r qs h) t = let rest = any_among test q qs h t in rw rest (or_true (test r))
  where
    or_true : (b : Bool) → (b || true) ≡ true
    or_true true = refl
    or_true false = refl

-- a place that can be gone to comes after
goes_among : (steps : List FlowStep) (p q : ℕ) → list_any (λ (s : FlowStep). s.from.0 == p && s.to.0 == q) steps ≡ true → Among q (places_after steps p)
goes_among [] p q e = absurd cc
goes_among (s ∷ steps) p q e = by_test (s.from.0 == p) refl (goes_among steps p q)
  where
    by_test : (b : Bool) → (s.from.0 == p) ≡ b → (list_any (λ (u : FlowStep). u.from.0 == p && u.to.0 == q) steps ≡ true → Among q (places_after steps p)) → Among q (places_after (s ∷ steps) p)
    by_test true t rest = rw t (elim (cases_eq s.to.0 q) [
      | inl same ↦ subst (λ r. Among q (r ∷ places_after steps p)) (sym same) (here (places_after steps p))
      | inr other ↦ later s.to.0 (places_after steps p) (rest (let none : (s.to.0 == q) ≡ false = grind (arith, nat_tests, other) in rw (t, none) at e))
    ])
    by_test false t rest = rw t (rest (rw t at e))

among_goes : (steps : List FlowStep) (p q : ℕ) → Among q (places_after steps p) → list_any (λ (s : FlowStep). s.from.0 == p && s.to.0 == q) steps ≡ true
among_goes [] p q h = none q h
  where
    none : (q : ℕ) → Among q [] → list_any (λ (s : FlowStep). s.from.0 == p && s.to.0 == q) [] ≡ true
    none q h = elim h [ ]
among_goes (s ∷ steps) p q h = by_test (s.from.0 == p) refl (among_goes steps p q)
  where
    or_true : (b : Bool) → (b || true) ≡ true
    or_true true = refl
    or_true false = refl

    by_test : (b : Bool) → (s.from.0 == p) ≡ b → (Among q (places_after steps p) → list_any (λ (u : FlowStep). u.from.0 == p && u.to.0 == q) steps ≡ true) → list_any (λ (u : FlowStep). u.from.0 == p && u.to.0 == q) (s ∷ steps) ≡ true
    by_test true t rest = elim (at_front q s.to.0 (places_after steps p) (rw t at h)) [
      | inl same ↦ let one : (s.from.0 == p && s.to.0 == q) ≡ true = grind (arith, nat_tests, t, same) in rw one refl
      | inr behind ↦ let there = rest behind in rw there (or_true _)
    ]
    by_test false t rest = let there = rest (rw t at h) in rw there (or_true _)

-- The first place that passes: it passes, it is there, and none less that is there does, where the places ascend.
data Ascends : List ℕ → Type 0 where
  none : Ascends []
  more : (q : ℕ) (qs : List ℕ) → ((r : ℕ) → Among r qs → q < r) → Ascends qs → Ascends (q ∷ qs)

record First (test : ℕ → Bool) (qs : List ℕ) (q : ℕ) : Type 0 where
  pub first : ℕ
  pub is : first_that test qs ≡ Some first
  pub passes : test first ≡ true
  pub there : Among first qs
  pub least : first ≤ q

first_before : (test : ℕ → Bool) (qs : List ℕ) (q : ℕ) → Ascends qs → Among q qs → test q ≡ true → First test qs q
first_before test _ q none h t = elim h [ ]
first_before test _ q (more r qs above up) h t = by_test (test r) refl (first_before test qs q up)
  where
    by_test : (b : Bool) → test r ≡ b → (Among q qs → test q ≡ true → First test qs q) → First test (r ∷ qs) q
    by_test true at_r rest = record {
      first = r;
      is = rw at_r refl;
      passes = at_r;
      there = here qs;
      least = elim (at_front q r qs h) [ inl same ↦ omega (arith, same) | inr later_on ↦ let up = above q later_on in omega (arith, up) ];
    }
    by_test false at_r rest = elim (at_front q r qs h) [
      | inl same ↦ absurd (let on : test r ≡ true = ap test (sym same) ∙ t in cc)
      | inr later_on ↦ let f = rest later_on t in record { first = f.first; is = rw at_r f.is; passes = f.passes; there = later r qs f.there; least = f.least }
    ]

-- a place that comes after is one of a step
record ComesBy (steps : List FlowStep) (p q : ℕ) : Type 0 where
  pub index : ℕ
  pub step : FlowStep
  pub is : slice_get steps index ≡ Some step
  pub from : step.from.0 ≡ p
  pub to : step.to.0 ≡ q

comes_by : (steps : List FlowStep) (p q : ℕ) → Among q (places_after steps p) → ComesBy steps p q
comes_by [] p q h = elim h [ ]
comes_by (s ∷ steps) p q h = by_test (s.from.0 == p) refl (comes_by steps p q)
  where
    further : ComesBy steps p q → ComesBy (s ∷ steps) p q
    further c = record { index = suc c.index; step = c.step; is = c.is; from = c.from; to = c.to }

    by_test : (b : Bool) → (s.from.0 == p) ≡ b → (Among q (places_after steps p) → ComesBy steps p q) → ComesBy (s ∷ steps) p q
    by_test true t rest = elim (at_front q s.to.0 (places_after steps p) (rw t at h)) [
      | inl same ↦ record { index = 0; step = s; is = refl; from = grind (arith, nat_tests, t); to = sym same }
      | inr behind ↦ further (rest behind)
    ]
    by_test false t rest = further (rest (rw t at h))

tail_in_order : (s : FlowStep) (steps : List FlowStep) → AreInOrder (s ∷ steps) → AreInOrder steps
tail_in_order s steps order i j d lt within = order (suc i) (suc j) d (omega arith) (omega arith)

-- the places after one ascend
after_ascends : (steps : List FlowStep) (p : ℕ) → AreInOrder steps → Ascends (places_after steps p)
after_ascends [] p order = none
after_ascends (s ∷ steps) p order = by_test (s.from.0 == p) refl (after_ascends steps p (tail_in_order s steps order))
  where
    by_test : (b : Bool) → (s.from.0 == p) ≡ b → Ascends (places_after steps p) → Ascends (places_after (s ∷ steps) p)
    by_test true t up = rw t (more s.to.0 (places_after steps p) (λ r h.
        let c = comes_by steps p r h in
        let from : s.from.0 ≡ p = grind (arith, nat_tests, t) in
        let lt = step_order (s ∷ steps) 0 (suc c.index) s c.step order refl c.is (omega arith) (from ∙ sym c.from) in
        omega (arith, lt, c.to)) up)
    by_test false t up = rw t up

-- a test that holds of some place holds of a first one
record FirstOf (test : ℕ → Bool) (qs : List ℕ) : Type 0 where
  pub first : ℕ
  pub is : first_that test qs ≡ Some first
  pub passes : test first ≡ true
  pub there : Among first qs

first_any : (test : ℕ → Bool) (qs : List ℕ) → list_any test qs ≡ true → FirstOf test qs
first_any test [] e = absurd cc
first_any test (q ∷ qs) e = by_test (test q) refl (first_any test qs)
  where
    by_test : (b : Bool) → test q ≡ b → (list_any test qs ≡ true → FirstOf test qs) → FirstOf test (q ∷ qs)
    by_test true t rest = record { first = q; is = rw t refl; passes = t; there = here qs }
    by_test false t rest = let f = rest (rw t at e) in record { first = f.first; is = rw t f.is; passes = f.passes; there = later q qs f.there }

-- the parts of a test of a place
test_free : (a b : Bool) → (not a && b) ≡ true → a ≡ false
test_free true b e = absurd cc
test_free false b e = refl

test_goes : (a b : Bool) → (not a && b) ≡ true → b ≡ true
test_goes true b e = absurd cc
test_goes false b e = e

test_holds : (a b : Bool) → a ≡ false → b ≡ true → (not a && b) ≡ true
test_holds a b e f = rw (e, f) refl

-- one place more in front
lead_more : (quest : Quest) (passed : Bool) (p q : ℕ) (rest : List ℕ) → can_go quest.steps p q ≡ true → quest.blocked q ≡ false
    → LeadOn quest (passed || q == quest.via) q rest → LeadOn quest passed p (q ∷ rest)
lead_more quest passed p q [] go free lead = absurd lead
lead_more quest passed p q (r ∷ rest) go free lead = (go, free, lead)

-- The places of the definition lead on.
least_leads : (quest : Quest) (n : ℕ) (passed : Bool) (p : ℕ) → goes_in quest n passed p ≡ true → LeadOn quest passed p (least_on quest n passed p) × (length (least_on quest n passed p) ≡ n)
least_leads quest zero passed p e = absurd cc
least_leads quest (suc zero) passed p e = ((both_right passed (can_go quest.steps p quest.stop) e, refl, both_left passed (can_go quest.steps p quest.stop) e), refl)
least_leads quest (suc (suc n)) passed p e =
    let f = first_any (next_test quest n passed) (places_after quest.steps p) e in
    step f (least_leads quest (suc n) (passed || f.first == quest.via) f.first (test_goes (quest.blocked f.first) _ f.passes))
  where
    step : (f : FirstOf (next_test quest n passed) (places_after quest.steps p))
        → LeadOn quest (passed || f.first == quest.via) f.first (least_on quest (suc n) (passed || f.first == quest.via) f.first) × (length (least_on quest (suc n) (passed || f.first == quest.via) f.first) ≡ suc n)
        → LeadOn quest passed p (least_on quest (suc (suc n)) passed p) × (length (least_on quest (suc (suc n)) passed p) ≡ suc (suc n))
    step f rest =
        let go = among_goes quest.steps p f.first f.there in
        let free = test_free (quest.blocked f.first) _ f.passes in
        let is : least_on quest (suc (suc n)) passed p ≡ f.first ∷ least_on quest (suc n) (passed || f.first == quest.via) f.first
        = ap (λ o. option_map_or (λ q. q ∷ least_on quest (suc n) (passed || q == quest.via) q) o []) f.is in
        (subst (LeadOn quest passed p) (sym is) (lead_more quest passed p f.first _ go free rest.0), ap length is ∙ ap suc rest.1)

-- What leads on goes in as many steps.
goes_leads : (quest : Quest) (passed : Bool) (p : ℕ) (rest : List ℕ) → LeadOn quest passed p rest → goes_in quest (length rest) passed p ≡ true
goes_leads quest passed p [] lead = absurd lead
goes_leads quest passed p (q ∷ []) lead =
    let go : can_go quest.steps p quest.stop ≡ true = subst (λ r. can_go quest.steps p r ≡ true) lead.1 lead.0 in
    rw (lead.2, go) refl
goes_leads quest passed p (q ∷ r ∷ rest) lead =
    any_among (next_test quest (length rest) passed) q (places_after quest.steps p) (goes_among quest.steps p q lead.0)
    (test_holds (quest.blocked q) _ lead.1 (goes_leads quest (passed || q == quest.via) q (r ∷ rest) lead.2))

-- They are the least of those that lead on in as many steps.
least_least : (quest : Quest) → AreInOrder quest.steps → (n : ℕ) (passed : Bool) (p : ℕ) (rest : List ℕ) → LeadOn quest passed p rest → length rest ≡ n
    → (least_on quest n passed p ≡ rest) ⊎ IsLess (least_on quest n passed p) rest
least_least quest order n passed p [] lead size = absurd lead
least_least quest order zero passed p (q ∷ rest) lead size = absurd (omega arith)
least_least quest order (suc zero) passed p (q ∷ []) lead size = inl (ap (λ x. x ∷ []) (sym lead.1))
least_least quest order (suc zero) passed p (q ∷ r ∷ rest) lead size = absurd (omega arith)
least_least quest order (suc (suc n)) passed p (q ∷ []) lead size = absurd (omega arith)
least_least quest order (suc (suc n)) passed p (q ∷ r ∷ rest) lead size =
    let shorter : length rest ≡ n = omega arith in
    let goes : goes_in quest (suc n) (passed || q == quest.via) q ≡ true = subst (λ k. goes_in quest (suc k) (passed || q == quest.via) q ≡ true) shorter (goes_leads quest (passed || q == quest.via) q (r ∷ rest) lead.2) in
    step (first_before (next_test quest n passed) (places_after quest.steps p) q (after_ascends quest.steps p order) (goes_among quest.steps p q lead.0)
    (test_holds (quest.blocked q) _ lead.1 goes))
    (least_least quest order (suc n) (passed || q == quest.via) q (r ∷ rest) lead.2 (omega arith))
  where
    step : First (next_test quest n passed) (places_after quest.steps p) q
        → (least_on quest (suc n) (passed || q == quest.via) q ≡ r ∷ rest) ⊎ IsLess (least_on quest (suc n) (passed || q == quest.via) q) (r ∷ rest)
        → (least_on quest (suc (suc n)) passed p ≡ q ∷ r ∷ rest) ⊎ IsLess (least_on quest (suc (suc n)) passed p) (q ∷ r ∷ rest)
    step f again =
        let is : least_on quest (suc (suc n)) passed p ≡ f.first ∷ least_on quest (suc n) (passed || f.first == quest.via) f.first
        = ap (λ o. option_map_or (λ x. x ∷ least_on quest (suc n) (passed || x == quest.via) x) o []) f.is in
        elim (cases_eq f.first q) [
          | inl same ↦
              let at_q : least_on quest (suc (suc n)) passed p ≡ q ∷ least_on quest (suc n) (passed || q == quest.via) q = is ∙ ap (λ x. x ∷ least_on quest (suc n) (passed || x == quest.via) x) same in
              elim again [
                | inl equal ↦ inl (at_q ∙ ap (λ l. q ∷ l) equal)
                | inr less ↦ inr (subst (λ l. IsLess l (q ∷ r ∷ rest)) (sym at_q) (inr (refl, less)))
              ]
          | inr other ↦ let below = f.least in inr (subst (λ l. IsLess l (q ∷ r ∷ rest)) (sym is) (inl (omega arith)))
        ]

-- The fewest steps.
fewest_goes : (quest : Quest) (k m n : ℕ) → fewest quest k m ≡ Some n → (goes_in quest n (quest.start == quest.via) quest.start ≡ true) × ((j : ℕ) → k ≤ j → goes_in quest j (quest.start == quest.via) quest.start ≡ true → n ≤ j)
fewest_goes quest k zero n e = absurd (none-some n e)
fewest_goes quest k (suc m) n e = by_test (goes_in quest k (quest.start == quest.via) quest.start) refl (fewest_goes quest (k + 1) m n)
  where
    by_test : (b : Bool) → goes_in quest k (quest.start == quest.via) quest.start ≡ b
        → (fewest quest (k + 1) m ≡ Some n → (goes_in quest n (quest.start == quest.via) quest.start ≡ true) × ((j : ℕ) → k + 1 ≤ j → goes_in quest j (quest.start == quest.via) quest.start ≡ true → n ≤ j))
        → (goes_in quest n (quest.start == quest.via) quest.start ≡ true) × ((j : ℕ) → k ≤ j → goes_in quest j (quest.start == quest.via) quest.start ≡ true → n ≤ j)
    by_test true t rest =
        let same : k ≡ n = same_Some k n (rw t at e) in
        (subst (λ x. goes_in quest x (quest.start == quest.via) quest.start ≡ true) same t, λ j le goes. omega (arith, same, le))
    by_test false t rest =
        let found = rest (rw t at e) in (
          found.0,
          λ j le goes. elim (cases_eq j k) [
            | inl same ↦ absurd (let here : goes_in quest k (quest.start == quest.via) quest.start ≡ true = subst (λ x. goes_in quest x (quest.start == quest.via) quest.start ≡ true) same goes in cc)
            | inr other ↦ found.1 j (omega arith) goes
          ],
        )

fewest_none : (quest : Quest) (k m : ℕ) → fewest quest k m ≡ None → (j : ℕ) → k ≤ j → j < k + m → goes_in quest j (quest.start == quest.via) quest.start ≡ true → ⊥
fewest_none quest k zero e j le lt goes = absurd (omega arith)
fewest_none quest k (suc m) e j le lt goes = by_test (goes_in quest k (quest.start == quest.via) quest.start) refl (fewest_none quest (k + 1) m)
  where
    by_test : (b : Bool) → goes_in quest k (quest.start == quest.via) quest.start ≡ b
        → (fewest quest (k + 1) m ≡ None → (i : ℕ) → k + 1 ≤ i → i < k + 1 + m → goes_in quest i (quest.start == quest.via) quest.start ≡ true → ⊥) → ⊥
    by_test true t rest = none-some k (sym (rw t at e))
    by_test false t rest = elim (cases_eq j k) [
      | inl same ↦ absurd (let here : goes_in quest k (quest.start == quest.via) quest.start ≡ true = subst (λ x. goes_in quest x (quest.start == quest.via) quest.start ≡ true) same goes in cc)
      | inr other ↦ rest (rw t at e) j (omega arith) (omega arith) goes
    ]

-- what leads on is some place
some_leads : (quest : Quest) (passed : Bool) (p : ℕ) (rest : List ℕ) → LeadOn quest passed p rest → 1 ≤ length rest
some_leads quest passed p [] lead = absurd lead
some_leads quest passed p (q ∷ rest) lead = omega arith

-- The route of the definition is the least.
route_least : (quest : Quest) → AreInOrder quest.steps → (m n : ℕ) → fewest quest 1 m ≡ Some n → IsLeastRoute quest (quest.start ∷ least_on quest n (quest.start == quest.via) quest.start)
route_least quest order m n e =
    let found = fewest_goes quest 1 m n e in
    let leads = least_leads quest n (quest.start == quest.via) quest.start found.0 in
    record {
      route = record { rest = least_on quest n (quest.start == quest.via) quest.start; begins = refl; leads = leads.0 };
      least = λ other route. subst (IsNotBehind (quest.start ∷ least_on quest n (quest.start == quest.via) quest.start)) (sym route.begins) (against leads.1 route.rest route.leads (found.1 (length route.rest)));
    }
  where
    against : length (least_on quest n (quest.start == quest.via) quest.start) ≡ n → (rest : List ℕ) → LeadOn quest (quest.start == quest.via) quest.start rest
        → (1 ≤ length rest → goes_in quest (length rest) (quest.start == quest.via) quest.start ≡ true → n ≤ length rest)
        → IsNotBehind (quest.start ∷ least_on quest n (quest.start == quest.via) quest.start) (quest.start ∷ rest)
    against size rest lead fewer =
        let le = fewer (some_leads quest (quest.start == quest.via) quest.start rest lead) (goes_leads quest (quest.start == quest.via) quest.start rest lead) in
        elim (cases_eq (length rest) n) [
          | inl same ↦ elim (least_least quest order n (quest.start == quest.via) quest.start rest lead same) [
            | inl equal ↦ inl (ap (λ l. quest.start ∷ l) equal)
            | inr less ↦ inr (inr (omega (arith, size, same), inr (refl, less)))
          ]
          | inr other ↦ inr (inl (omega (arith, size, le)))
        ]

-- No path comes before itself, and no two come each before the other.
less_not : (xs ys : List ℕ) → IsLess xs ys → IsLess ys xs → ⊥
less_not [] ys g h = g
less_not (x ∷ xs) [] g h = g
less_not (x ∷ xs) (y ∷ ys) (inl g) (inl h) = absurd (omega arith)
less_not (x ∷ xs) (y ∷ ys) (inl g) (inr h) = absurd (omega arith)
less_not (x ∷ xs) (y ∷ ys) (inr g) (inl h) = absurd (omega arith)
less_not (x ∷ xs) (y ∷ ys) (inr g) (inr h) = less_not xs ys g.1 h.1

before_not : (xs ys : List ℕ) → IsBefore xs ys → IsBefore ys xs → ⊥
before_not xs ys (inl g) (inl h) = absurd (omega arith)
before_not xs ys (inl g) (inr h) = absurd (omega (arith, h.0))
before_not xs ys (inr g) (inl h) = absurd (omega (arith, g.0))
before_not xs ys (inr g) (inr h) = less_not xs ys g.1 h.1

-- so the least route is one
pub least_one : (quest : Quest) (a b : List ℕ) → IsLeastRoute quest a → IsLeastRoute quest b → a ≡ b
least_one quest a b ra rb = elim (ra.least b rb.route) [
  | inl same ↦ same
  | inr before ↦ elim (rb.least a ra.route) [ inl same ↦ sym same | inr other ↦ absurd (before_not a b before other) ]
]

-- The least route that was found is that of the definition.
pub found_route : (quest : Quest) (path : List ℕ) → AreInOrder quest.steps → IsLeastRoute quest path → length path ≤ 18446744073709551616 → Some path ≡ route_of quest
unfolding most_steps
found_route quest path order least short = by_steps (fewest quest 1 most_steps) refl
  where
    by_steps : (o : Option ℕ) → fewest quest 1 most_steps ≡ o → Some path ≡ route_of quest
    by_steps None e =
        let size : length path ≡ suc (length least.route.rest) = ap length least.route.begins in
        absurd (fewest_none quest 1 most_steps e (length least.route.rest) (some_leads quest (quest.start == quest.via) quest.start least.route.rest least.route.leads) (omega (arith, size, short)) (goes_leads quest (quest.start == quest.via) quest.start least.route.rest least.route.leads))
    by_steps (Some n) e =
        let one = least_one quest path (quest.start ∷ least_on quest n (quest.start == quest.via) quest.start) least (route_least quest order most_steps n e) in
        ap Some one ∙ sym (ap (λ o. option_map (λ k. quest.start ∷ least_on quest k (quest.start == quest.via) quest.start) o) e)

-- Where there is no route, the definition has none.
pub no_route_of : (quest : Quest) → AreInOrder quest.steps → ((path : List ℕ) → IsRoute quest path → ⊥) → None ≡ route_of quest
no_route_of quest order none_is = by_steps (fewest quest 1 most_steps) refl
  where
    by_steps : (o : Option ℕ) → fewest quest 1 most_steps ≡ o → None ≡ route_of quest
    by_steps None e = sym (ap (λ o. option_map (λ k. quest.start ∷ least_on quest k (quest.start == quest.via) quest.start) o) e)
    by_steps (Some n) e = absurd (none_is (quest.start ∷ least_on quest n (quest.start == quest.via) quest.start) (route_least quest order most_steps n e).route)

-- ---- Where a path leads to the stop, the definition has a route

-- As many steps lead from here to the stop, and no fewer.
record IsFewest (quest : Quest) (n : ℕ) (passed : Bool) (p : ℕ) : Type 0 where
  pub goes : goes_in quest n passed p ≡ true
  pub fewest : (j : ℕ) → 1 ≤ j → goes_in quest j passed p ≡ true → n ≤ j

-- A step of the flow leads to a place from which that is so.
record Comes (quest : Quest) (n : ℕ) : Type 0 where
  pub passed : Bool
  pub place : ℕ
  pub index : ℕ
  pub step : FlowStep
  pub is : slice_get quest.steps index ≡ Some step
  pub to : step.to.0 ≡ place
  pub few : IsFewest quest n passed place

comes_next : (quest : Quest) (k : ℕ) (passed : Bool) (p : ℕ) → IsFewest quest (suc (suc k)) passed p → Comes quest (suc k)
comes_next quest k passed p few =
    let f = first_any (next_test quest k passed) (places_after quest.steps p) few.goes in
    let c = comes_by quest.steps p f.first f.there in
    let free = test_free (quest.blocked f.first) _ f.passes in
    record {
      passed = passed || f.first == quest.via;
      place = f.first;
      index = c.index;
      step = c.step;
      is = c.is;
      to = c.to;
      few = record { goes = test_goes (quest.blocked f.first) _ f.passes; fewest = no_fewer f free };
    }
  where
    no_fewer : (f : FirstOf (next_test quest k passed) (places_after quest.steps p)) → quest.blocked f.first ≡ false → (j : ℕ) → 1 ≤ j → goes_in quest j (passed || f.first == quest.via) f.first ≡ true → suc k ≤ j
    no_fewer f free zero some goes = absurd (omega arith)
    no_fewer f free (suc j) some goes =
        let all = few.fewest (suc (suc j)) (omega arith) (any_among (next_test quest j passed) f.first (places_after quest.steps p) f.there (test_holds (quest.blocked f.first) _ free goes)) in
        omega (arith, all)

comes_at : (quest : Quest) (m : ℕ) (passed : Bool) (p : ℕ) → IsFewest quest (suc m) passed p → (k : ℕ) → k < m → Comes quest (suc k)
comes_at quest zero passed p few k lt = absurd (omega arith)
comes_at quest (suc m) passed p few k lt = by (comes_next quest m passed p few) (comes_at quest m)
  where
    by : Comes quest (suc m) → ((c : Bool) (q : ℕ) → IsFewest quest (suc m) c q → (i : ℕ) → i < m → Comes quest (suc i)) → Comes quest (suc k)
    by c below = elim (cases_eq k m) [
      | inl same ↦ subst (λ n. Comes quest (suc n)) (sym same) c
      | inr other ↦ below c.passed c.place c.few k (omega arith)
    ]

-- what stands for a number, where the greatest stands in the place of one that is gone
abbrev InPlace : (ℕ → ℕ → Type 0) → (greatest gone k v : ℕ) → Type 0
InPlace At greatest gone k v = (v ≡ gone → At k greatest) × (v ≢ gone → At k v)

in_place : (At : ℕ → ℕ → Type 0) (n m gone k v : ℕ) → ((i j w : ℕ) → At i w → At j w → i ≡ j) → At n gone → gone < suc m → k < n → v < suc m → At k v → (w : ℕ) × (w < m) × InPlace At m gone k w
in_place At n m gone k v one last low lt within at = elim (cases_eq v m) [
  | inl same ↦
      let apart : gone ≢ m = λ e. not_both (one n k v (subst (At n) (e ∙ sym same) last) at) in
      (gone, omega (arith, apart), (λ e. subst (At k) same at, λ ne. absurd (ne refl)))
  | inr other ↦ (v, omega arith, (λ e. absurd (not_both (one n k v (subst (At n) (sym e) last) at)), λ ne. at))
]
  where
    not_both : n ≡ k → ⊥
    not_both e = omega arith

-- Numbers that are told apart by so many are no more than these.
pigeonhole : (n m : ℕ) (At : ℕ → ℕ → Type 0) → ((k : ℕ) → k < n → (v : ℕ) × (v < m) × At k v) → ((j k v : ℕ) → At j v → At k v → j ≡ k) → n ≤ m
pigeonhole zero m At each one = omega arith
pigeonhole (suc n) zero At each one = let none = (each n (omega arith)).1 in absurd (omega (arith, none))
pigeonhole (suc n) (suc m) At each one = by (each n (omega arith)) (pigeonhole n m)
  where
    by : (last : (v : ℕ) × (v < suc m) × At n v) → ((Other : ℕ → ℕ → Type 0) → ((k : ℕ) → k < n → (v : ℕ) × (v < m) × Other k v) → ((j k v : ℕ) → Other j v → Other k v → j ≡ k) → n ≤ m) → suc n ≤ suc m
    by last rest =
        let fewer = rest (λ k v. InPlace At m last.0 k v)
        (λ k lt. (let at = each k (omega arith) in in_place At n m last.0 k at.0 one last.2 last.1 lt at.1 at.2))
        (λ j k v a b. elim (cases_eq v last.0) [ inl same ↦ one j k m (a.0 same) (b.0 same) | inr other ↦ one j k v (a.1 other) (b.1 other) ]) in
        omega (arith, fewer)

abbrev mark : Bool → ℕ
mark true = 1
mark false = 0

mark_low : (b : Bool) → mark b ≤ 1
mark_low true = omega arith
mark_low false = omega arith

same_mark : (a b : Bool) (i j : ℕ) → 2 * i + mark a ≡ 2 * j + mark b → (i ≡ j) × (a ≡ b)
same_mark true true i j e = (omega arith, refl)
same_mark false false i j e = (omega arith, refl)
same_mark true false i j e = absurd (omega arith)
same_mark false true i j e = absurd (omega arith)

-- a step with a mark, from whose place so many steps lead to the stop
abbrev ComesAs : Quest → (k v : ℕ) → Type 0
ComesAs quest k v = (c : Comes quest (suc k)) × (v ≡ 2 * c.index + mark c.passed)

one_level : (quest : Quest) (j k v : ℕ) → ComesAs quest j v → ComesAs quest k v → j ≡ k
one_level quest j k v (a, at) (b, too) =
    let both = same_mark a.passed b.passed a.index b.index (sym at ∙ too) in
    let step : a.step ≡ b.step = same_Some a.step b.step (sym a.is ∙ ap (slice_get quest.steps) both.0 ∙ b.is) in
    let place : a.place ≡ b.place = sym a.to ∙ ap (λ (s : FlowStep). s.to.0) step ∙ b.to in
    let low : suc j ≤ suc k = a.few.fewest (suc k) (omega arith) (subst (λ c. goes_in quest (suc k) c a.place ≡ true) (sym both.1) (subst (λ q. goes_in quest (suc k) b.passed q ≡ true) (sym place) b.few.goes)) in
    let high : suc k ≤ suc j = b.few.fewest (suc j) (omega arith) (subst (λ c. goes_in quest (suc j) c b.place ≡ true) both.1 (subst (λ q. goes_in quest (suc j) a.passed q ≡ true) place a.few.goes)) in
    omega (arith, low, high)

-- No more steps are needed than there are steps of the flow, each with one of two marks.
few_steps : (quest : Quest) (m : ℕ) (passed : Bool) (p : ℕ) → IsFewest quest (suc m) passed p → m ≤ 2 * length quest.steps
few_steps quest m passed p few =
    pigeonhole m (2 * length quest.steps) (λ k v. ComesAs quest k v) (λ k lt. by (comes_at quest m passed p few k lt)) (one_level quest)
  where
    by : {k : ℕ} (c : Comes quest (suc k)) → (v : ℕ) × (v < 2 * length quest.steps) × ComesAs quest k v
    by c =
        let low = slice_get_within quest.steps c.index c.step c.is in
        let one = mark_low c.passed in
        (2 * c.index + mark c.passed, omega (arith, low, one), (c, refl))

none_goes : (quest : Quest) (passed : Bool) (p : ℕ) → goes_in quest zero passed p ≡ true → ⊥
none_goes quest passed p e = cc

-- Where a path leads to the stop, the definition has a route, which is the least.
pub route_there : (quest : Quest) (path : List ℕ) → AreInOrder quest.steps → length quest.steps < 4294967296 → IsRoute quest path → (least : List ℕ) × (route_of quest ≡ Some least) × IsLeastRoute quest least
unfolding most_steps
route_there quest path order few route = by_steps (fewest quest 1 (length route.rest)) refl
  where
    by_most : (n : ℕ) → (goes_in quest n (quest.start == quest.via) quest.start ≡ true) × ((j : ℕ) → 1 ≤ j → goes_in quest j (quest.start == quest.via) quest.start ≡ true → n ≤ j) → (o : Option ℕ) → fewest quest 1 most_steps ≡ o
        → (least : List ℕ) × (route_of quest ≡ Some least) × IsLeastRoute quest least
    by_most n found (Some m) e = (
      quest.start ∷ least_on quest m (quest.start == quest.via) quest.start,
      ap (λ o. option_map (λ k. quest.start ∷ least_on quest k (quest.start == quest.via) quest.start) o) e,
      route_least quest order most_steps m e,
    )
    by_most zero found None e = absurd (none_goes quest (quest.start == quest.via) quest.start found.0)
    by_most (suc m) found None e =
        let low = few_steps quest m (quest.start == quest.via) quest.start (record { goes = found.0; fewest = found.1 }) in
        absurd (fewest_none quest 1 most_steps e (suc m) (omega arith) (omega (arith, low)) found.0)

    by_steps : (o : Option ℕ) → fewest quest 1 (length route.rest) ≡ o → (least : List ℕ) × (route_of quest ≡ Some least) × IsLeastRoute quest least
    by_steps None e =
        absurd (fewest_none quest 1 (length route.rest) e (length route.rest) (some_leads quest (quest.start == quest.via) quest.start route.rest route.leads) (omega arith) (goes_leads quest (quest.start == quest.via) quest.start route.rest route.leads))
    by_steps (Some n) e = by_most n (fewest_goes quest 1 (length route.rest) n e) (fewest quest 1 most_steps) refl
