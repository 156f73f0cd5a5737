-- The places that no quiet path passes, and those at which none begins.
use Rattle.std.proofs.Common.{◌≡◌, ◌≢◌, inl, inr, ℕ, ◌+◌, ◌-◌, ◌<◌, ◌≤◌, true, None, List, length, get_or, take, sym, ap, subst, ◌∙◌, arith}
use Rattle.std.specs.Prelude.{All, Contains, ◌⊎◌, ◌↔◌}
use Rattle.std.proofs.lemmas.List.Elements.{All-contains, All-more, All-weaker, Contains-get_or}
use Rattle.debug_records.specs.Change.{is_taken}
use Rattle.debug_records.specs.declared.change.Change.{Change}
use Rattle.debug_records.specs.declared.change.Kind.TheVariants.{Removed}
use Rattle.graph_core.specs.Graphs.{Logged, logged}
use Rattle.currency_notes.proofs.Lists.{at_among, take_whole}
use Rattle.currency_writers.specs.Flow.{assigned}
use Rattle.currency_writers.specs.Marks.{mark_at, room_of}
use Rattle.currency_writers.specs.Starts.{IsTurned}
use Rattle.currency_writers.specs.Writers.{HaveOneHome, Writes}
use Rattle.currency_writers.specs.declared.marks.Marks as declared-marks
use Rattle.currency_writers.specs.declared.search.Search as declared-search
use Rattle.currency_writers.specs.declared.writers.Writer as declared-writer
use Rattle.currency_writers.specs.declared.writers.Writers as declared-writers
use Rattle.currency_hiding.specs.Changes.{AreFound, IsListed, hides_as, log_of}
use Rattle.currency_hiding.specs.Found.{IsHomeWritten}
use Rattle.currency_hiding.specs.QuietStarts.{IsBarred, IsDisturbedAt, IsTakenFrom, IsWrittenForOther}
use Rattle.currency_hiding.specs.declared.changes.Changes as declared-changes
use Rattle.currency_hiding.specs.declared.function.Function as declared-function
use Rattle.currency_hiding.proofs.ByKind.{by_taken, taken_by}
use Rattle.currency_hiding.proofs.Listed.{listed_by, numbered}

-- a name is another one that has the home of a scalar
abbrev pub IsOther : declared-writers.Writers → (x y : ℕ) → Type 0
IsOther v x y = (y ≢ x) × HaveOneHome v y x

-- the place of a change is marked, if it is below a number
abbrev pub IsTakenMarked : (room : ℕ) → declared-marks.Marks (Unit {0}) → Change → Type 0
IsTakenMarked room marks d = d.place.0 < room → mark_at marks d.place.0 ≢ None

module _ (old new : declared-marks.Marks (Unit {0})) (list : List Change) (k : ℕ) (d : Change) (lt : k < length list) where
  -- one change more
  pub taken_next : (first : declared-marks.Marks (Unit {0})) → ((p : ℕ) → mark_at new p ≢ None → (mark_at old p ≢ None) ⊎ (p ≡ (get_or list k d).place.0)) → ((p : ℕ) → mark_at old p ≢ None → (mark_at first p ≢ None) ⊎ IsTakenFrom list p)
      → (p : ℕ) → mark_at new p ≢ None → (mark_at first p ≢ None) ⊎ IsTakenFrom list p
  taken_next first only was p some = elim (only p some) [
    | inl e ↦ was p e
    | inr same ↦ inr (record { change = get_or list k d; is = Contains-get_or list k d lt; at = sym same })
  ]

  pub taken_more : (room : ℕ) → ((p : ℕ) → mark_at old p ≢ None → mark_at new p ≢ None) → IsTakenMarked room new (get_or list k d) → All (IsTakenMarked room old) (take k list) → All (IsTakenMarked room new) (take (k + 1) list)
  taken_more room kept here all =
      All-more (IsTakenMarked room new) list k d lt (All-weaker (IsTakenMarked room old) (IsTakenMarked room new) (λ e was small. kept e.place.0 (was small)) (take k list) all) here

pub taken_all : (room : ℕ) (marks : declared-marks.Marks (Unit {0})) (list : List Change) (k : ℕ) → length list ≤ k → All (IsTakenMarked room marks) (take k list) → All (IsTakenMarked room marks) list
taken_all room marks list k le all = subst (λ (l : List Change). All (IsTakenMarked room marks) l) (take_whole list k le) all

-- given: a search on one variable, and a number that no place of its flow is above
module _ (s : declared-search.Search) (turned : IsTurned s) (room : ℕ) (le : room_of s.flow.assigns ≤ room) where
  -- what assigns the variable is below it
  pub assigned_within : (p : ℕ) → assigned s.flow p ≡ true → p < room
  assigned_within p e = (let small = turned.search.flow.places.assigning p s.flow.var.0 e in omega (arith, small, le))

  pub list_within : (list : List ℕ) → ((p : ℕ) → Contains list p ↔ (assigned s.flow p ≡ true)) → All (λ p. p < room) list
  list_within list so k d lt = assigned_within (get_or list k d) ((so (get_or list k d)).0 (Contains-get_or list k d lt))

-- given: what is marked after the writes of a home, and then after the assignments of a variable
module _ (s : declared-search.Search) (f : declared-function.Function) (mid new : declared-marks.Marks (Unit {0})) (list : List ℕ) (so : (p : ℕ) → Contains list p ↔ (assigned s.flow p ≡ true)) where
  pub disturbed_all : (room : ℕ) → ((p y : ℕ) (w : declared-writer.Writer) → Writes f.writers p y w → HaveOneHome f.writers y f.scalar → p < room → mark_at mid p ≢ None) → ((p : ℕ) → mark_at mid p ≢ None → mark_at new p ≢ None) → All (λ p. mark_at new p ≢ None) list
      → (p : ℕ) → p < room → IsDisturbedAt s f p → mark_at new p ≢ None
  disturbed_all room home kept all p lt disturbed = elim disturbed [
    | inl e ↦ All-contains (λ q. mark_at new q ≢ None) list p all ((so p).1 e)
    | inr w ↦ kept p (home p w.0 w.1 w.2 w.3 lt)
  ]

  pub disturbed_only : ((p : ℕ) → mark_at mid p ≢ None → IsHomeWritten f.writers f.scalar p) → ((p : ℕ) → mark_at new p ≢ None → (mark_at mid p ≢ None) ⊎ Contains list p) → (p : ℕ) → mark_at new p ≢ None → IsDisturbedAt s f p
  disturbed_only home only p some = elim (only p some) [
    | inl e ↦ (let is = home p e in inr (is.y, is.writer, is.writes, is.shared))
    | inr there ↦ inl ((so p).0 there)
  ]

-- given: what is marked after the writes of a home for other names, and then after the places of changes
module _ (l : declared-changes.Changes) (s : declared-search.Search) (f : declared-function.Function) (mid new : declared-marks.Marks (Unit {0})) (found : List Change) (of : AreFound l s.flow.var.0 Removed found) where
  pub barred_all : (room : ℕ) → ((p y : ℕ) (w : declared-writer.Writer) → Writes f.writers p y w → y ≢ f.scalar → HaveOneHome f.writers y f.scalar → p < room → mark_at mid p ≢ None) → ((p : ℕ) → mark_at mid p ≢ None → mark_at new p ≢ None) → All (IsTakenMarked room new) found
      → (p : ℕ) → p < room → IsBarred l s f p → mark_at new p ≢ None
  barred_all room other kept marked p lt barred = elim barred [
    | inl taken ↦ (let one = listed_by l taken.change taken.logged in
        let d : Change = one.1 in
        let same : logged d ≡ taken.change = one.3 in
        let place : d.place.0 ≡ p = ap (λ (z : Logged). z.place) same ∙ taken.at in
        let among : Contains found d = of.all one.0 d one.2 (ap (λ (z : Logged). z.variable) same ∙ taken.of) (by_taken d.kind (ap (λ (z : Logged). is_taken z.kind) same ∙ taken.taken)) in
        subst (λ n. mark_at new n ≢ None) place (All-contains (IsTakenMarked room new) found d marked among (subst (λ n. n < room) (sym place) lt)))
    | inr w ↦ kept p (other p w.y w.writer w.writes w.other w.shared lt)
  ]

  pub barred_only : (first : declared-marks.Marks (Unit {0})) → ((p : ℕ) → mark_at first p ≡ None) → ((p : ℕ) → mark_at mid p ≢ None → (mark_at first p ≢ None) ⊎ IsWrittenForOther f.writers f.scalar p) → ((p : ℕ) → mark_at new p ≢ None → (mark_at mid p ≢ None) ⊎ IsTakenFrom found p)
      → (p : ℕ) → mark_at new p ≢ None → IsBarred l s f p
  barred_only first none other taken p some = elim (taken p some) [
    | inl e ↦ elim (other p e) [ inl q ↦ absurd (q (none p)) | inr w ↦ inr w ]
    | inr t ↦ (let d : Change = t.change in
        let is = All-contains (λ (d : Change). IsListed l d.number d × (d.var.0 ≡ s.flow.var.0) × (hides_as d.kind ≡ Removed)) found d of.each t.is in
        inl (record { change = logged d; logged = at_among (log_of l) (d.number - 1) (logged d) (numbered l d.number d is.0).is; taken = taken_by d.kind is.2; at = t.at; of = is.1 }))
  ]

-- the same marks have the same room
pub room_same : {T : Type 0} (a b : declared-marks.Marks T) → a ≡ b → room_of a ≡ room_of b
room_same a b same = ap room_of same
