-- From place to place, and what assigns variables.
use Rattle.std.proofs.Common.{◌≡◌, inl, inr, ℕ, zero, suc, ◌+◌, ◌<◌, ◌≤◌, Bool, true, false, List, [], ◌∷◌, length, get_or, take, refl, sym, ap, subst, ◌∙◌, arith, true≢false, eqb-true, eq-eqb}
use Rattle.std.specs.Prelude.{All, AllPairs, Contains, ◌==◌, ◌&&◌, ◌||◌, ◌⊎◌}
use Rattle.std.specs.List.{list_any}
use Rattle.places.specs.declared.flow.FlowStep.{FlowStep}
use Rattle.places.specs.declared.flow.Assignment.{Assignment}
use Rattle.places.specs.Flow.{IsAssignmentBefore, can_go, assigns}
use Rattle.std.proofs.lemmas.List.{get_or_default}
use Rattle.std.proofs.lemmas.List.Elements.{All-more, All-weaker}
use Rattle.currency_writers.specs.declared.lists.Lists as declared-lists
use Rattle.currency_writers.specs.Lists.{entries_of}
use Rattle.base_laws.proofs.Booleans.{and_all as both, and_left, and_right, or_right_again as or_right}

pub take_whole : {X : Type 0} (xs : List X) (k : ℕ) → length xs ≤ k → take k xs ≡ xs
take_whole [] zero le = refl
take_whole [] (suc k) le = refl
take_whole (y ∷ ys) zero le = absurd (omega (arith, le))
take_whole (y ∷ ys) (suc k) le = ap (λ zs. y ∷ zs) (take_whole ys k (omega (arith, le)))

-- one of a list is so
any_at : {X : Type 0} (is : X → Bool) (xs : List X) (k : ℕ) (d : X) → k < length xs → is (get_or xs k d) ≡ true → list_any is xs ≡ true
any_at is [] k d lt e = absurd (omega (arith, lt))
any_at is (x ∷ xs) zero d lt e = ap (λ b. b || list_any is xs) e
any_at is (x ∷ xs) (suc k) d lt e = or_right (is x) (list_any is xs) (any_at is xs k d (omega (arith, lt)) e)

any_found : {X : Type 0} (is : X → Bool) (xs : List X) → list_any is xs ≡ true → (x : X) × (k : ℕ) × (k < length xs) × (get_or xs k x ≡ x) × (is x ≡ true)
any_found is [] e = absurd (true≢false (sym e))
any_found {X} is (x ∷ xs) e = at_test (is x) refl (λ q. any_found is xs q)
  where
    at_test : (b : Bool) → is x ≡ b → (list_any is xs ≡ true → (y : X) × (k : ℕ) × (k < length xs) × (get_or xs k y ≡ y) × (is y ≡ true)) → (y : X) × (k : ℕ) × (k < length (x ∷ xs)) × (get_or (x ∷ xs) k y ≡ y) × (is y ≡ true)
    at_test true q rest = (x, 0, omega arith, refl, q)
    at_test false q rest = (let f = rest (sym (ap (λ b. b || list_any is xs) q) ∙ e) in (let lt = f.2 in (f.0, suc f.1, omega (arith, lt), f.3, f.4)))

-- a step is one
pub step_at : (steps : List FlowStep) (k : ℕ) (d : FlowStep) (p q : ℕ) → k < length steps → p ≡ (get_or steps k d).from.0 → q ≡ (get_or steps k d).to.0 → can_go steps p q ≡ true
step_at steps k d p q lt e f =
    any_at (λ (s : FlowStep). s.from.0 == p && s.to.0 == q) steps k d lt (both ((get_or steps k d).from.0 == p) ((get_or steps k d).to.0 == q) (eq-eqb _ p (sym e)) (eq-eqb _ q (sym f)))

-- an assignment is one
pub assigns_at : (all : List Assignment) (k : ℕ) (d : Assignment) (p x : ℕ) → k < length all → p ≡ (get_or all k d).place.0 → x ≡ (get_or all k d).var.0 → assigns all p x ≡ true
assigns_at all k d p x lt e f =
    any_at (λ (a : Assignment). a.place.0 == p && a.var.0 == x) all k d lt (both ((get_or all k d).place.0 == p) ((get_or all k d).var.0 == x) (eq-eqb _ p (sym e)) (eq-eqb _ x (sym f)))

-- what assigns is an assignment
pub assigns_found : (all : List Assignment) (p x : ℕ) → assigns all p x ≡ true → (a : Assignment) × (k : ℕ) × (k < length all) × (get_or all k a ≡ a) × (a.place.0 ≡ p) × (a.var.0 ≡ x)
assigns_found all p x e =
    let f = any_found (λ (a : Assignment). a.place.0 == p && a.var.0 == x) all e in
    (f.0, f.1, f.2, f.3, eqb-true f.0.place.0 p (and_left (f.0.place.0 == p) (f.0.var.0 == x) f.4), eqb-true f.0.var.0 x (and_right (f.0.place.0 == p) (f.0.var.0 == x) f.4))

-- each place that assigns a variable is in its list
pub assigning_all : (all : List Assignment) (assigning : declared-lists.Lists) (k : ℕ) → length all ≤ k → All (λ (a : Assignment). Contains (entries_of assigning a.var.0) a.place.0) (take k all) → (x p : ℕ) → assigns all p x ≡ true → Contains (entries_of assigning x) p
assigning_all all assigning k le each x p e =
    let f = assigns_found all p x e in
    let whole : take k all ≡ all = take_whole all k le in
    let there : Contains (entries_of assigning (get_or all f.1 f.0).var.0) (get_or all f.1 f.0).place.0 = subst (λ (l : List Assignment). All (λ (a : Assignment). Contains (entries_of assigning a.var.0) a.place.0) l) whole each f.1 f.0 f.2 in
    let one : Contains (entries_of assigning f.0.var.0) f.0.place.0 = subst (λ (a : Assignment). Contains (entries_of assigning a.var.0) a.place.0) f.3 there in
    subst (λ n. Contains (entries_of assigning n) p) f.5 (subst (λ n. Contains (entries_of assigning f.0.var.0) n) f.4 one)

-- what can be gone is a step
pub step_found : (all : List FlowStep) (p q : ℕ) → can_go all p q ≡ true → (s : FlowStep) × (k : ℕ) × (k < length all) × (get_or all k s ≡ s) × (s.from.0 ≡ p) × (s.to.0 ≡ q)
step_found all p q e =
    let f = any_found (λ (s : FlowStep). s.from.0 == p && s.to.0 == q) all e in
    (f.0, f.1, f.2, f.3, eqb-true f.0.from.0 p (and_left (f.0.from.0 == p) (f.0.to.0 == q) f.4), eqb-true f.0.to.0 q (and_right (f.0.from.0 == p) (f.0.to.0 == q) f.4))

-- each place to which a step leads is in the list of where it comes from
pub following_all : (all : List FlowStep) (after : declared-lists.Lists) (k : ℕ) → length all ≤ k → All (λ (s : FlowStep). Contains (entries_of after s.from.0) s.to.0) (take k all) → (p q : ℕ) → can_go all p q ≡ true → Contains (entries_of after p) q
following_all all after k le each p q e =
    let f = step_found all p q e in
    let whole : take k all ≡ all = take_whole all k le in
    let there : Contains (entries_of after (get_or all f.1 f.0).from.0) (get_or all f.1 f.0).to.0 = subst (λ (l : List FlowStep). All (λ (s : FlowStep). Contains (entries_of after s.from.0) s.to.0) l) whole each f.1 f.0 f.2 in
    let one : Contains (entries_of after f.0.from.0) f.0.to.0 = subst (λ (s : FlowStep). Contains (entries_of after s.from.0) s.to.0) f.3 there in
    subst (λ n. Contains (entries_of after n) q) f.4 (subst (λ n. Contains (entries_of after f.0.from.0) n) f.5 one)

-- what is assigned by the first assignments of a list is not behind the others
abbrev pub AreNotBehind : List Assignment → declared-lists.Lists → (k : ℕ) → Type 0
AreNotBehind all assigning k = (x p : ℕ) → Contains (entries_of assigning x) p → (j : ℕ) (d : Assignment) → k ≤ j → j < length all → p ≤ (get_or all j d).place.0

no_later_place : (a b : Assignment) → IsAssignmentBefore a b → a.place.0 ≤ b.place.0
no_later_place a b before = elim before [ inl lt ↦ omega (arith, lt) | inr e ↦ (let same = e.0 in omega (arith, same)) ]

pub behind_next : (all : List Assignment) (old new : declared-lists.Lists) (k : ℕ) (d : Assignment) → AllPairs IsAssignmentBefore all → k < length all → ((x p : ℕ) → Contains (entries_of new x) p → Contains (entries_of old x) p ⊎ ((x ≡ (get_or all k d).var.0) × (p ≡ (get_or all k d).place.0)))
    → AreNotBehind all old k → AreNotBehind all new (k + 1)
behind_next all old new k d ordered lt only before x p there j e le within = elim (only x p there) [
  | inl was ↦ before x p was j e (omega (arith, le)) within
  | inr here ↦ (let same = here.1 in
      let own : (get_or all k d).place.0 ≡ (get_or all k e).place.0 = ap (λ (a : Assignment). a.place.0) (get_or_default all k d e lt) in
      let later = no_later_place (get_or all k e) (get_or all j e) (ordered k j e (omega (arith, le)) within) in
      omega (arith, same, own, later))
]

-- each variable that is assigned is below a number
pub assigned_above : (all : List Assignment) (count k : ℕ) → length all ≤ k → All (λ (a : Assignment). a.var.0 < count) (take k all) → (p x : ℕ) → assigns all p x ≡ true → x < count
assigned_above all count k le each p x e =
    let f = assigns_found all p x e in
    let whole : All (λ (a : Assignment). a.var.0 < count) all = subst (λ (l : List Assignment). All (λ (a : Assignment). a.var.0 < count) l) (take_whole all k le) each in
    let one : (get_or all f.1 f.0).var.0 < count = whole f.1 f.0 f.2 in
    subst (λ n. n < count) (ap (λ (a : Assignment). a.var.0) f.3 ∙ f.5) one

-- more variables than so far
pub above_next : (all : List Assignment) (old new k : ℕ) (d : Assignment) → k < length all → old ≤ new → (get_or all k d).var.0 < new → All (λ (a : Assignment). a.var.0 < old) (take k all) → All (λ (a : Assignment). a.var.0 < new) (take (k + 1) all)
above_next all old new k d lt le here before =
    All-more (λ (a : Assignment). a.var.0 < new) all k d lt (All-weaker (λ (a : Assignment). a.var.0 < old) (λ (a : Assignment). a.var.0 < new) (λ a small. omega (arith, small, le)) (take k all) before) here

-- a variable that an assignment assigns has a list
pub listed_at : (all : List Assignment) (k : ℕ) (d : Assignment) (above count : ℕ) → k < length all → ((p x : ℕ) → assigns all p x ≡ true → x < above) → count ≡ above → (get_or all k d).var.0 < count
listed_at all k d above count lt each same =
    (let inside = each (get_or all k d).place.0 (get_or all k d).var.0 (assigns_at all k d (get_or all k d).place.0 (get_or all k d).var.0 lt refl refl) in omega (arith, inside, same))

-- a place from which a step leads has a list
pub leads_at : (all : List FlowStep) (k : ℕ) (d : FlowStep) (places count : ℕ) → k < length all → ((p q : ℕ) → can_go all p q ≡ true → p < places) → count ≡ places → (get_or all k d).from.0 < count
leads_at all k d places count lt from same =
    (let inside = from (get_or all k d).from.0 (get_or all k d).to.0 (step_at all k d (get_or all k d).from.0 (get_or all k d).to.0 lt refl refl) in omega (arith, inside, same))
