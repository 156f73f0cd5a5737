-- What assigns a variable is marked, and the ways of a flow are those on which nothing assigns it.
use Rattle.std.proofs.Common.{◌≡◌, ◌≢◌, inl, inr, ℕ, ◌<◌, ◌≤◌, Bool, true, false, None, Option, Some, List, get_or, refl, sym, subst, ◌∙◌, true≢false, arith}
use Rattle.std.specs.Prelude.{All, Contains, is_some, ◌⊎◌, ◌↔◌}
use Rattle.std.specs.List.Sorted.{IsNonDecreasing}
use Rattle.std.proofs.lemmas.List.Elements.{All-contains, Contains-get_or}
use Rattle.places.specs.declared.flow.FlowStep.{FlowStep}
use Rattle.places.specs.Flow.{can_go}
use Rattle.currency_writers.specs.declared.flow.Flow as declared-flow
use Rattle.currency_writers.specs.declared.lists.Lists as declared-lists
use Rattle.currency_writers.specs.declared.marks.Marks as declared-marks
use Rattle.currency_writers.specs.declared.ways.Ways as declared-ways
use Rattle.currency_writers.specs.Lists.{entries_of}
use Rattle.currency_writers.specs.Marks.{mark_at, room_of}
use Rattle.currency_writers.specs.Ways.{Comes, at_once, on}
use Rattle.currency_writers.specs.Flow.{AreAssigning, AreFollowing, AreLeast, AreStarts, AreTold, assigned, ComesOn, HasRoom, IsBlocked, IsClosed, IsFlow, IsToldFrom}
use Rattle.currency_writers.specs.Flooding.{AreLeastOf, AreReached, AreStartsOf, AreWays, IsReachedFrom, IsShut, LeadsTo, is_blocked}

-- what is so of each place by one test is so by another one
pub comes_by : (steps : List FlowStep) (one other : ℕ → Bool) → ((q : ℕ) → one q ≡ other q) → (from : ℕ) {p : ℕ} → Comes steps one from p → Comes steps other from p
comes_by steps one other same from (at_once goes) = at_once goes
comes_by steps one other same from (on {q = q} comes free goes) = on (comes_by steps one other same from comes) (sym (same q) ∙ free) goes

-- a place is marked as one that assigns the variable exactly where it does
marked_so : (b : Bool) (o : Option (Unit {0})) → (o ≢ None → b ≡ true) → (b ≡ true → o ≢ None) → is_some o ≡ b
marked_so true None one other = absurd (other refl refl)
marked_so true (Some u) one other = refl
marked_so false None one other = refl
marked_so false (Some u) one other = absurd (true≢false (sym (one (λ e. cc))))

-- given: a flow with the places that assign its variable marked, and its ways past these
module _ (f : declared-flow.Flow) (w : declared-ways.Ways) (blocked : IsBlocked f) (steps : w.steps.now ≡ f.table.now.steps.items) (marks : w.blocked.now ≡ f.assigns) where
  blocked_is : (q : ℕ) → is_blocked w q ≡ assigned f q
  blocked_is q = subst (λ (m : declared-marks.Marks (Unit {0})). is_some (mark_at m q) ≡ assigned f q) (sym marks) (marked_so (assigned f q) (mark_at f.assigns q) (blocked.marked q) (blocked.all q))

  leads_comes : (from p : ℕ) → LeadsTo w from p → ComesOn f from p
  leads_comes from p leads = comes_by f.table.now.steps.items (λ q. is_blocked w q) (λ q. assigned f q) blocked_is from (subst (λ (s : List FlowStep). Comes s (λ q. is_blocked w q) from p) steps leads)

  comes_leads : (from p : ℕ) → ComesOn f from p → LeadsTo w from p
  comes_leads from p comes = subst (λ (s : List FlowStep). Comes s (λ q. is_blocked w q) from p) (sym steps) (comes_by f.table.now.steps.items (λ q. assigned f q) (λ q. is_blocked w q) (λ q. sym (blocked_is q)) from comes)

  pub told_from : {T : Type 0} (from : ℕ) (value : T) (old new : declared-marks.Marks T) → IsReachedFrom w from value old new → IsToldFrom f from value old new
  told_from from value old new reached p = elim (reached p) [ inl e ↦ inl e | inr r ↦ inr (r.0, r.1, leads_comes from p r.2) ]

  pub shut_of : {T : Type 0} (told : declared-marks.Marks T) → IsClosed f told → IsShut w told
  shut_of told closed q some free p goes = closed q some (sym (blocked_is q) ∙ free) p (subst (λ (s : List FlowStep). can_go s q p ≡ true) steps goes)

  pub closed_of : {T : Type 0} (told : declared-marks.Marks T) → IsShut w told → IsClosed f told
  closed_of told shut q some free p goes = shut q some (blocked_is q ∙ free) p (subst (λ (s : List FlowStep). can_go s q p ≡ true) (sym steps) goes)

  pub told_of : {T : Type 0} (from : ℕ) (told : declared-marks.Marks T) → AreReached w from told → AreTold f from told
  told_of from told all p comes = all p (comes_leads from p comes)

  pub starts_of : (list : List ℕ) (starts : declared-marks.Marks ℕ) → IsFlow f → list ≡ entries_of f.assigning f.var.0 → AreStartsOf w list starts → AreStarts f starts
  starts_of list starts flow is all p start at = (let one = all p start at in (flow.assigning.sound f.var.0 start (subst (λ xs. Contains xs start) is one.0), leads_comes start p one.1))

  pub least_of : (list : List ℕ) (starts : declared-marks.Marks ℕ) → IsFlow f → list ≡ entries_of f.assigning f.var.0 → AreLeastOf w list starts → AreLeast f starts
  least_of list starts flow is all start p assigns comes = all start p (subst (λ xs. Contains xs start) (sym is) (flow.assigning.all f.var.0 start assigns)) (comes_leads start p comes)

-- THE WAYS of a flow past places that are marked, where each place of the flow may be
pub ways_past : (f : declared-flow.Flow) (w : declared-ways.Ways) → IsFlow f → HasRoom f w.blocked.now → w.steps.now ≡ f.table.now.steps.items → w.after.now ≡ f.after → AreWays w
ways_past f w flow room steps after = record {
  after = subst (λ (l : declared-lists.Lists). AreFollowing w.steps.now l) (sym after) (subst (λ (s : List FlowStep). AreFollowing s f.after) (sym steps) flow.after);
  from = λ p q goes. (let small = flow.places.from p q (subst (λ (s : List FlowStep). can_go s p q ≡ true) steps goes) in omega (arith, small, room));
  to = λ p q goes. (let small = flow.places.to p q (subst (λ (s : List FlowStep). can_go s p q ≡ true) steps goes) in omega (arith, small, room));
}

-- the list of the variable has the places that assign it, in order
pub assigning_so : (f : declared-flow.Flow) (list : List ℕ) → IsFlow f → list ≡ entries_of f.assigning f.var.0 → (p : ℕ) → Contains list p ↔ (assigned f p ≡ true)
assigning_so f list flow is p = (λ there. flow.assigning.sound f.var.0 p (subst (λ xs. Contains xs p) is there), λ e. subst (λ xs. Contains xs p) (sym is) (flow.assigning.all f.var.0 p e))

pub assigning_ascends : (f : declared-flow.Flow) (list : List ℕ) → IsFlow f → list ≡ entries_of f.assigning f.var.0 → IsNonDecreasing list
assigning_ascends f list flow is = subst (λ (xs : List ℕ). IsNonDecreasing xs) (sym is) (flow.ordered f.var.0)

-- the places that assign a variable may be marked
pub assigning_within : (f : declared-flow.Flow) (x : ℕ) (list : List ℕ) (room : ℕ) → IsFlow f → list ≡ entries_of f.assigning x → room ≡ room_of f.assigns → All (λ p. p < room) list
assigning_within f x list room flow is same k d lt =
    (let p = get_or list k d in
    subst (λ n. p < n) (sym same) (flow.places.assigning p x (flow.assigning.sound x p (subst (λ xs. Contains xs p) is (Contains-get_or list k d lt)))))

-- the places that assign the variable are marked
pub blocked_by : (f : declared-flow.Flow) (old : declared-marks.Marks (Unit {0})) (list : List ℕ) → AreAssigning f.table.now.assignments.items f.assigning → list ≡ entries_of f.assigning f.var.0 → ((p : ℕ) → mark_at old p ≡ None)
    → ((p : ℕ) → mark_at f.assigns p ≢ None → (mark_at old p ≢ None) ⊎ Contains list p) → All (λ p. mark_at f.assigns p ≢ None) list → IsBlocked f
blocked_by f old list assigning is none only all = record {
  marked = λ p some. elim (only p some) [ inl e ↦ absurd (e (none p)) | inr there ↦ assigning.sound f.var.0 p (subst (λ xs. Contains xs p) is there) ];
  all = λ p e. All-contains (λ q. mark_at f.assigns q ≢ None) list p all (subst (λ xs. Contains xs p) (sym is) (assigning.all f.var.0 p e));
}
