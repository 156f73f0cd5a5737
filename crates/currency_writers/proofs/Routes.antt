-- From a start by way of a place to a stop there is a route.
use Rattle.std.proofs.Common.{◌≡◌, inl, inr, ℕ, Bool, true, false, List, [], ◌∷◌, refl, sym, ap, subst, ◌∙◌, eq-eqb, eqb-true}
use Rattle.std.specs.Prelude.{◌⊎◌, ◌==◌, ◌||◌}
use Rattle.places.specs.Flow.{can_go}
use Rattle.places.specs.Path.{Quest, LeadOn, IsRoute}
use Rattle.currency_writers.specs.Ways.{Comes, at_once, on}
use Rattle.base_laws.proofs.Booleans.{or_true}

module _ (q : Quest) where
  abbrev Comes_from : (from p : ℕ) → Type 0
  Comes_from from p = Comes q.steps q.blocked from p

  abbrev is_free : ℕ → Bool
  is_free p = q.blocked p

  -- behind a place that was come to
  lead_one : (b : Bool) (from p : ℕ) (rest : List ℕ) → can_go q.steps from p ≡ true → is_free p ≡ false → LeadOn q (b || p == q.via) p rest → LeadOn q b from (p ∷ rest)
  lead_one b from p [] goes free leads = absurd leads
  lead_one b from p (r ∷ rest) goes free leads = (goes, free, leads)

  lead_by : (from : ℕ) {p : ℕ} → Comes_from from p → is_free p ≡ false → (rest : List ℕ) → ((b : Bool) → LeadOn q (b || p == q.via) p rest) → (more : List ℕ) × ((b : Bool) → LeadOn q b from more)
  lead_by from {p} (at_once goes) free rest leads = (p ∷ rest, λ b. lead_one b from p rest goes free (leads b))
  lead_by from {p} (on {q = r} come clear goes) free rest leads = lead_by from {p = r} come clear (p ∷ rest) (λ b. lead_one (b || r == q.via) r p rest goes free (leads (b || r == q.via)))

  -- on to the stop, where the place to go by was passed
  lead_true : (from : ℕ) {p : ℕ} → Comes_from from p → is_free p ≡ false → (rest : List ℕ) → LeadOn q true p rest → (more : List ℕ) × LeadOn q true from more
  lead_true from {p} (at_once goes) free rest leads = (p ∷ rest, lead_one true from p rest goes free leads)
  lead_true from {p} (on {q = r} come clear goes) free rest leads = lead_true from {p = r} come clear (p ∷ rest) (lead_one true r p rest goes free leads)

  to_stop : (from : ℕ) {p : ℕ} → Comes_from from p → p ≡ q.stop → (more : List ℕ) × LeadOn q true from more
  to_stop from {p} (at_once goes) e = (p ∷ [], (goes, e, refl))
  to_stop from {p} (on {q = r} come clear goes) e = lead_true from {p = r} come clear (p ∷ []) (goes, e, refl)

  -- THE ROUTE
  pub route_by : (q.start ≡ q.via) ⊎ (Comes_from q.start q.via × (is_free q.via ≡ false)) → Comes_from q.via q.stop → (path : List ℕ) × IsRoute q path
  route_by first last = (let end = to_stop q.via last refl in at_first first end.0 end.1)
    where
      at_first : (q.start ≡ q.via) ⊎ (Comes_from q.start q.via × (is_free q.via ≡ false)) → (rest : List ℕ) → LeadOn q true q.via rest → (path : List ℕ) × IsRoute q path
      at_first (inl e) rest leads =
          (q.start ∷ rest, record { rest = rest; begins = refl; leads = subst (λ b. LeadOn q b q.start rest) (sym (eq-eqb q.start q.via e)) (subst (λ p. LeadOn q true p rest) (sym e) leads) })
      at_first (inr c) rest leads =
          let one : (b : Bool) → LeadOn q (b || q.via == q.via) q.via rest = λ b. subst (λ t. LeadOn q t q.via rest) (sym (ap (λ t. b || t) (eq-eqb q.via q.via refl) ∙ or_true b)) leads in
          let way = lead_by q.start c.0 c.1 rest one in
          (q.start ∷ way.0, record { rest = way.0; begins = refl; leads = way.1 (q.start == q.via) })

  -- a place is another one, or was come to from there and is not blocked
  abbrev pub Is_ahead : (from p : ℕ) → Type 0
  Is_ahead from p = (p ≡ from) ⊎ (Comes_from from p × (is_free p ≡ false))

  next_from : (from p r : ℕ) → Is_ahead from p → can_go q.steps p r ≡ true → Comes_from from r
  next_from from p r ahead goes = elim ahead [ inl e ↦ at_once (subst (λ n. can_go q.steps n r ≡ true) e goes) | inr c ↦ on c.0 c.1 goes ]

  -- what is known where the place to go by was passed
  abbrev Is_passed : (p : ℕ) → Type 0
  Is_passed p = Is_ahead q.start q.via × Is_ahead q.via p

  passed_on : (passed : Bool) (p r : ℕ) → Is_ahead q.start p → (passed ≡ true → Is_passed p) → can_go q.steps p r ≡ true → is_free r ≡ false → (passed || r == q.via) ≡ true → Is_passed r
  passed_on true p r ahead known goes free e = (let was = known refl in (was.0, inr (next_from q.via p r was.1 goes, free)))
  passed_on false p r ahead known goes free e =
      (let same : r ≡ q.via = eqb-true r q.via e in
      let there : Is_ahead q.start r = inr (next_from q.start p r ahead goes, free) in
      (subst (λ n. Is_ahead q.start n) same there, inl same))

  ways_on : (rest : List ℕ) (p : ℕ) (passed : Bool) → Is_ahead q.start p → (passed ≡ true → Is_passed p) → LeadOn q passed p rest → Is_ahead q.start q.via × Comes_from q.via q.stop
  ways_on [] p passed ahead known leads = absurd leads
  ways_on (r ∷ []) p passed ahead known leads = (let was = known leads.2 in (was.0, subst (λ n. Comes_from q.via n) leads.1 (next_from q.via p r was.1 leads.0)))
  ways_on (r ∷ s ∷ path) p passed ahead known leads =
      ways_on (s ∷ path) r (passed || r == q.via) (inr (next_from q.start p r ahead leads.0, leads.1)) (passed_on passed p r ahead known leads.0 leads.1) leads.2

  -- THE WAYS of a route: from the start to the place to go by, and on to the stop
  pub ways_by : (path : List ℕ) → IsRoute q path → ((q.start ≡ q.via) ⊎ (Comes_from q.start q.via × (is_free q.via ≡ false))) × Comes_from q.via q.stop
  ways_by path route =
      (let found = ways_on route.rest q.start (q.start == q.via) (inl refl) (λ e. (let same : q.start ≡ q.via = eqb-true q.start q.via e in (inl (sym same), inl same))) route.leads in
      (elim found.0 [ inl e ↦ inl (sym e) | inr c ↦ inr c ], found.1))
