-- Quiet paths are the ways past disturbed places, from places at which one may begin.
use Rattle.std.proofs.Common.{◌≡◌, ◌≢◌, inl, inr, ℕ, ◌<◌, ◌≤◌, true, false, true≢false, Option, None, Some, List, refl, sym, ap, subst, ◌∙◌, arith}
use Rattle.std.specs.Prelude.{Contains, IsSomeAnd, is_some, ◌↔◌}
use Rattle.std.proofs.lemmas.Bool.Decides.{eqb_tells}
use Rattle.places.specs.declared.flow.FlowStep.{FlowStep}
use Rattle.places.specs.declared.flow.FlowTable.{FlowTable}
use Rattle.places.specs.Flow.{can_go}
use Rattle.graph_core.specs.Graphs.{graph_view}
use Rattle.currency_notes.specs.Homes.{home_in}
use Rattle.currency_writers.specs.declared.marks.Marks as declared-marks
use Rattle.currency_writers.specs.declared.search.Search as declared-search
use Rattle.currency_writers.specs.declared.ways.Ways as declared-ways
use Rattle.currency_writers.specs.Flooding.{AreLeastOf, AreStartsOf, LeadsTo, is_blocked}
use Rattle.currency_writers.specs.Flow.{assigned}
use Rattle.currency_writers.specs.Marks.{mark_at, room_of}
use Rattle.currency_writers.specs.Starts.{IsTurned}
use Rattle.currency_writers.specs.Ways.{Comes, at_once, on}
use Rattle.currency_writers.proofs.Entering.{none_tells}
use Rattle.currency_hiding.specs.declared.changes.Changes as declared-changes
use Rattle.currency_hiding.specs.declared.function.Function as declared-function
use Rattle.currency_hiding.specs.Changes.{log_of}
use Rattle.currency_hiding.specs.Quiet.{GoesBy, IsDisturbed, MayBegin, at_once as goes_at_once, on as goes_on}
use Rattle.currency_hiding.specs.QuietStarts.{AreQuietStarts, IsBarred, IsDisturbedAt, IsLeastQuietAt}

is_there : {A : Type 0} (o : Option A) → o ≢ None → is_some o ≡ true
is_there None some = absurd (some refl)
is_there (Some a) some = refl

not_there : {A : Type 0} (o : Option A) → (o ≢ None → ⊥) → is_some o ≡ false
not_there None none = refl
not_there (Some a) none = absurd (none (λ e. cc))

-- ways past blocked places are those on which nothing is disturbed, if the places from which steps lead are blocked where they are disturbed, and no others are
module _ (w : declared-ways.Ways) (flow : FlowTable) (IsBad : ℕ → Type 0) (steps : w.steps.now ≡ flow.steps.items) (only : (q : ℕ) → mark_at w.blocked.now q ≢ None → IsBad q) (all : (q p : ℕ) → can_go flow.steps.items q p ≡ true → IsBad q → mark_at w.blocked.now q ≢ None) where
  leads_goes_in : (list : List FlowStep) → list ≡ flow.steps.items → (start : ℕ) {stop : ℕ} → Comes list (λ q. is_blocked w q) start stop → GoesBy flow IsBad start stop
  leads_goes_in list same start {stop} (at_once goes) = goes_at_once (subst (λ (l : List FlowStep). can_go l start stop ≡ true) same goes)
  leads_goes_in list same start {stop} (on {q = q} comes free goes) =
      (let step : can_go flow.steps.items q stop ≡ true = subst (λ (l : List FlowStep). can_go l q stop ≡ true) same goes in
      goes_on (leads_goes_in list same start comes) (λ bad. true≢false (sym (is_there (mark_at w.blocked.now q) (all q stop step bad)) ∙ free)) step)

  pub leads_goes : (start stop : ℕ) → LeadsTo w start stop → GoesBy flow IsBad start stop
  leads_goes start stop leads = leads_goes_in w.steps.now steps start leads

  pub goes_leads : (start : ℕ) {stop : ℕ} → GoesBy flow IsBad start stop → LeadsTo w start stop
  goes_leads start {stop} (goes_at_once goes) = at_once (subst (λ (l : List FlowStep). can_go l start stop ≡ true) (sym steps) goes)
  goes_leads start {stop} (goes_on {p = q} before free goes) =
      on (goes_leads start before) (not_there (mark_at w.blocked.now q) (λ some. free (only q some))) (subst (λ (l : List FlowStep). can_go l q stop ≡ true) (sym steps) goes)

-- given: the changes of a unit, a search on one variable, and a function with one scalar in question
module _ (l : declared-changes.Changes) (s : declared-search.Search) (f : declared-function.Function) where
  abbrev IsDisturbedOf : (p : ℕ) → Type 0
  IsDisturbedOf p = IsDisturbed (log_of l) s.flow.table.now (home_in f.writers.homes.now) f.writers.function (graph_view f.writers.graph.now) f.scalar s.flow.var.0 p

  abbrev MayBeginOf : (p : ℕ) → Type 0
  MayBeginOf p = MayBegin (log_of l) s.flow.table.now (home_in f.writers.homes.now) f.writers.function (graph_view f.writers.graph.now) f.scalar s.flow.var.0 p

  disturbed_of : (p : ℕ) → IsDisturbedAt s f p → IsDisturbedOf p
  disturbed_of p bad = elim bad [ inl e ↦ inl e | inr z ↦ inr (record { y = z.0; w = z.1; writes = z.2; shared = z.3 }) ]

  disturbed_at : (p : ℕ) → IsDisturbedOf p → IsDisturbedAt s f p
  disturbed_at p bad = elim bad [ inl e ↦ inl e | inr z ↦ inr (z.y, z.w, z.writes, z.shared) ]

  -- What is kept of the places where quiet paths begin: the places that assign the variable, those of them that are barred, and the others, from which paths begin.
  pub record AreFrom (barred : declared-marks.Marks (Unit {0})) (places from : List ℕ) : Type 0 where
    pub marked : (p : ℕ) → assigned s.flow p ≡ true → IsBarred l s f p → mark_at barred p ≢ None
    pub bare : (p : ℕ) → mark_at barred p ≢ None → IsBarred l s f p
    pub assigning : (p : ℕ) → Contains places p ↔ (assigned s.flow p ≡ true)
    pub only : (p : ℕ) → Contains from p → Contains places p × (mark_at barred p ≡ None)
    pub all : (p : ℕ) → Contains places p → mark_at barred p ≡ None → Contains from p

  from_begins : (barred : declared-marks.Marks (Unit {0})) (assigning from : List ℕ) → AreFrom barred assigning from → (p : ℕ) → Contains from p → MayBeginOf p
  from_begins barred assigning from are p there =
      (let both = are.only p there in
      let assigns = (are.assigning p).0 both.0 in
      record {
        assigned = assigns;
        stays = λ taken. are.marked p assigns (inl taken) both.1;
        own = λ y w writes shared. elim (eqb_tells y f.scalar) [
          | inl e ↦ e.1
          | inr e ↦ absurd (are.marked p assigns (inr (record { y = y; writer = w; writes = writes; other = e.1; shared = shared })) both.1)
        ];
      })

  begins_from : (barred : declared-marks.Marks (Unit {0})) (assigning from : List ℕ) → AreFrom barred assigning from → (p : ℕ) → MayBeginOf p → Contains from p
  begins_from barred assigning from are p may = elim (none_tells (mark_at barred p)) [
    | inl free ↦ are.all p ((are.assigning p).1 may.assigned) free
    | inr some ↦ absurd (elim (are.bare p some) [ inl taken ↦ may.stays taken | inr other ↦ other.other (may.own other.y other.writer other.writes other.shared) ])
  ]

  -- What is kept of disturbed places: those from which steps lead are blocked, and no others.
  pub record AreDisturbed (w : declared-ways.Ways) : Type 0 where
    pub steps : w.steps.now ≡ s.flow.table.now.steps.items
    pub only : (q : ℕ) → mark_at w.blocked.now q ≢ None → IsDisturbedAt s f q
    pub all : (q p : ℕ) → can_go s.flow.table.now.steps.items q p ≡ true → IsDisturbedAt s f q → mark_at w.blocked.now q ≢ None

  -- it is so if all that may be marked is
  pub disturbed_by : (w : declared-ways.Ways) (marks : declared-marks.Marks (Unit {0})) (room : ℕ) → IsTurned s → room_of s.flow.assigns ≤ room → w.steps.now ≡ s.flow.table.now.steps.items → w.blocked.now ≡ marks
      → ((p : ℕ) → p < room → IsDisturbedAt s f p → mark_at marks p ≢ None) → ((p : ℕ) → mark_at marks p ≢ None → IsDisturbedAt s f p) → AreDisturbed w
  disturbed_by w marks room turned le steps same marked bare = record {
    steps = steps;
    only = λ q some. bare q (λ e. some (ap (λ (m : declared-marks.Marks (Unit {0})). mark_at m q) same ∙ e));
    all = λ q p goes bad none. (let lt = turned.search.flow.places.from q p goes in marked q (omega (arith, lt, le)) bad (sym (ap (λ (m : declared-marks.Marks (Unit {0})). mark_at m q) same) ∙ none));
  }

  -- the least places from which ways lead are where quiet paths begin
  pub quiet_starts : (w : declared-ways.Ways) (barred : declared-marks.Marks (Unit {0})) (assigning from : List ℕ) (starts : declared-marks.Marks ℕ) → AreDisturbed w → AreFrom barred assigning from → AreStartsOf w from starts → AreLeastOf w from starts → AreQuietStarts l s f starts
  quiet_starts w barred assigning from starts ways are sound least stop = by_mark (mark_at starts stop) refl
    where
      leads_of : (start : ℕ) → GoesBy s.flow.table.now IsDisturbedOf start stop → LeadsTo w start stop
      leads_of start goes = goes_leads w s.flow.table.now IsDisturbedOf ways.steps (λ q some. disturbed_of q (ways.only q some)) (λ q p step bad. ways.all q p step (disturbed_at q bad)) start goes

      goes_of : (start : ℕ) → LeadsTo w start stop → GoesBy s.flow.table.now IsDisturbedOf start stop
      goes_of start leads = leads_goes w s.flow.table.now IsDisturbedOf ways.steps (λ q some. disturbed_of q (ways.only q some)) (λ q p step bad. ways.all q p step (disturbed_at q bad)) start stop leads

      above : (o : Option ℕ) → mark_at starts stop ≡ o → (start : ℕ) → MayBeginOf start → GoesBy s.flow.table.now IsDisturbedOf start stop → IsSomeAnd o (λ least. least ≤ start)
      above o is start begins path = subst (λ (p : Option ℕ). IsSomeAnd p (λ least. least ≤ start)) is (least start stop (begins_from barred assigning from are start begins) (leads_of start path))

      by_mark : (o : Option ℕ) → mark_at starts stop ≡ o → IsLeastQuietAt l s f stop o
      by_mark None is = λ start quiet. above None is start quiet.begins quiet.path
      by_mark (Some first) is = (record { begins = from_begins barred assigning from are first (sound stop first is).0; path = goes_of first (sound stop first is).1 }, λ start quiet. above (Some first) is start quiet.begins quiet.path)
