-- What a search knows, step by step.
use Rattle.std.proofs.Common.{◌≡◌, ◌≢◌, ℕ, zero, suc, ◌+◌, ◌*◌, ◌<◌, ◌≤◌, ◌⊎◌, Bool, true, false, Some, List, [], ◌∷◌, ◌++◌, length, map, get_or, refl, sym, ap, ◌∙◌, subst, inl, inr, append_assoc, arith}
use Rattle.std.specs.Prelude.{◌&&◌, ◌==◌, slice_get}
use Rattle.std.proofs.Math.ListN.{set}
use Rattle.std.proofs.lemmas.Bool.{cases_eq}
use Rattle.std.specs.List.{list_any}
use Rattle.std.proofs.lemmas.Bool.{cases_lt}
use Rattle.std.proofs.lemmas.Bool.Decides.{nat_tests}
use Rattle.std.proofs.lemmas.List.{get_or-set_same, get_or-set_other, length-set, length-append, map-append}
use Rattle.std.proofs.lemmas.Option.{slice_get_within, get_or_from_slice_get, none-some, same_Some}
use Rattle.places.specs.declared.flow.FlowStep.{FlowStep}
use Rattle.places.specs.declared.search.Visit.{Visit}
use Rattle.places.specs.Flow.{can_go, IsStepBefore, AreInOrder}
use Rattle.places.specs.Path.{Quest, LeadOn, IsRoute, IsBefore, IsNotBehind, IsLeastRoute}
use Rattle.places.specs.Search.{state_number, Row, visit_of, ComesFrom, Start, Later, passes, Came, Settled, IsClosed, Barred, Visited, IsTaken, Searched, IsWayTo, WayStart, WayLater, Answered, AreBlocked}
use Rattle.places.proofs.Numbers.{state_place, state_passed}
use Rattle.places.proofs.Orders.{before_more, before_last, not_behind_length, not_behind_trans, not_behind_more, shorter_before}
use Rattle.base_laws.proofs.Lists.{any_at, snoc_new}
pub use Rattle.base_laws.proofs.Lists.{length_mapped as length_map}

-- one more at the end of a list
pub snoc_old : {A : Type 0} (xs : List A) (y : A) (i : ℕ) (x : A) → slice_get xs i ≡ Some x → slice_get (xs ++ y ∷ []) i ≡ Some x
snoc_old [] y i x e = absurd (none-some x e)
snoc_old (z ∷ xs) y zero x e = e
snoc_old (z ∷ xs) y (suc i) x e = snoc_old xs y i x e

pub snoc_cases : {A : Type 0} (xs : List A) (y : A) (i : ℕ) (x : A) → slice_get (xs ++ y ∷ []) i ≡ Some x → (slice_get xs i ≡ Some x) ⊎ ((i ≡ length xs) × (x ≡ y))
snoc_cases [] y zero x e = inr (refl, sym (same_Some y x e))
snoc_cases [] y (suc i) x e = absurd (none-some x e)
snoc_cases (z ∷ xs) y zero x e = inl e
snoc_cases (z ∷ xs) y (suc i) x e = elim (snoc_cases xs y i x e) [ inl h ↦ inl h | inr h ↦ inr (ap suc h.0, h.1) ]

pub one_get : {A : Type 0} (xs : List A) (i : ℕ) (x y : A) → slice_get xs i ≡ Some x → slice_get xs i ≡ Some y → x ≡ y
one_get xs i x y g h = same_Some x y (sym g ∙ h)

pub map_get : {A B : Type 0} (f : A → B) (xs : List A) (i : ℕ) (y : B) → slice_get (map f xs) i ≡ Some y → (x : A) × (slice_get xs i ≡ Some x) × (y ≡ f x)
map_get f [] i y e = absurd (none-some y e)
map_get f (x ∷ xs) zero y e = (x, refl, sym (same_Some (f x) y e))
map_get f (x ∷ xs) (suc i) y e = map_get f xs i y e

pub get_map : {A B : Type 0} (f : A → B) (xs : List A) (i : ℕ) (x : A) → slice_get xs i ≡ Some x → slice_get (map f xs) i ≡ Some (f x)
get_map f [] i x e = absurd (none-some x e)
get_map f (z ∷ xs) zero x e = ap Some (ap f (same_Some z x e))
get_map f (z ∷ xs) (suc i) x e = get_map f xs i x e

-- steps of one place come in the order of the places that they lead to
pub step_order : (steps : List FlowStep) (i j : ℕ) (s u : FlowStep) → AreInOrder steps → slice_get steps i ≡ Some s → slice_get steps j ≡ Some u → i < j → s.from.0 ≡ u.from.0 → s.to.0 < u.to.0
step_order steps i j s u order g h lt same =
    let within = slice_get_within steps j u h in
    let before = order i j s lt within in
    let left : get_or steps i s ≡ s = get_or_from_slice_get steps i s s g in
    let right : get_or steps j s ≡ u = get_or_from_slice_get steps j u s h in
    let here : IsStepBefore s u = subst (λ x. IsStepBefore x u) left (subst (IsStepBefore (get_or steps i s)) right before) in
    elim here [ inl lt ↦ absurd (omega arith) | inr e ↦ e.1 ]

pub steps_order : (steps : List FlowStep) (i j : ℕ) (s u : FlowStep) → AreInOrder steps → slice_get steps i ≡ Some s → slice_get steps j ≡ Some u → i < j → s.from.0 ≤ u.from.0
steps_order steps i j s u order g h lt =
    let within = slice_get_within steps j u h in
    let before = order i j s lt within in
    let left : get_or steps i s ≡ s = get_or_from_slice_get steps i s s g in
    let right : get_or steps j s ≡ u = get_or_from_slice_get steps j u s h in
    let here : IsStepBefore s u = subst (λ x. IsStepBefore x u) left (subst (IsStepBefore (get_or steps i s)) right before) in
    elim here [ inl lt ↦ omega arith | inr e ↦ omega (arith, e.0) ]

-- what is known of visits stays known with one more
comes_more : (quest : Quest) (rows : List Row) (new : Row) (i : ℕ) (r : Row) → ComesFrom quest rows i r → ComesFrom quest (rows ++ new ∷ []) i r
comes_more quest rows new i r (Start e p w) = Start e p w
comes_more quest rows new i r (Later parent is lt w) = Later parent (snoc_old rows new r.parent parent is) lt w

came_more : (quest : Quest) (rows : List Row) (new : Row) (r : Row) (place : ℕ) → Came quest rows r place → Came quest (rows ++ new ∷ []) r place
came_more quest rows new r place c = record { index = c.index; row = c.row; is = snoc_old rows new c.index c.row c.is; place_is = c.place_is; passed_is = c.passed_is; early = c.early }

settled_more : (quest : Quest) (rows : List Row) (new : Row) (r : Row) (place : ℕ) → Settled quest rows r place → Settled quest (rows ++ new ∷ []) r place
settled_more quest rows new r place s = record {
  no_answer = s.no_answer;
  came = elim s.came [ inl a ↦ inl a | inr c ↦ inr (came_more quest rows new r place c) ];
}

closed_more : (quest : Quest) (rows : List Row) (new : Row) (place : ℕ) (passed : Bool) → IsClosed quest rows place passed → IsClosed quest (rows ++ new ∷ []) place passed
closed_more quest rows new place passed (Barred a) = Barred a
closed_more quest rows new place passed (Visited index row is p b) = Visited index row (snoc_old rows new index row is) p b

-- the visit that a step leads to
abbrev pub next_row : Quest → (head : ℕ) → Row → (place : ℕ) → Row
next_row quest head h place = record { place = place; passed = passes quest h place; parent = head; way = h.way ++ place ∷ [] }

-- whatever leads on from the next visit makes a route
lead_next : (quest : Quest) (h : Row) (place : ℕ) (rest : List ℕ) → can_go quest.steps h.place place ≡ true → quest.blocked place ≡ false
    → ((rest : List ℕ) → LeadOn quest h.passed h.place rest → IsRoute quest (h.way ++ rest)) → LeadOn quest (passes quest h place) place rest
    → IsRoute quest ((h.way ++ place ∷ []) ++ rest)
lead_next quest h place [] go free lead l = absurd l
lead_next quest h place (q ∷ rest) go free lead l = subst (IsRoute quest) (sym (append_assoc h.way (place ∷ []) (q ∷ rest))) (lead (place ∷ q ∷ rest) (go, free, l))

-- one step of a visit is taken: the step, the visit, and what it leads to
pub record TakesStep (quest : Quest) (head k : ℕ) (rows : List Row) (h : Row) (s : FlowStep) : Type 0 where
  pub visit : slice_get rows head ≡ Some h
  pub step : slice_get quest.steps k ≡ Some s
  pub from : s.from.0 ≡ h.place
  pub go : can_go quest.steps h.place s.to.0 ≡ true
  pub no_answer : h.passed ≡ true → s.to.0 ≢ quest.stop
  pub order : AreInOrder quest.steps

-- what became of the steps taken, where the one at k was settled
settled_next : (quest : Quest) (head k : ℕ) (rows : List Row) (h : Row) (s : FlowStep) → TakesStep quest head k rows h s → Settled quest rows h s.to.0
    → ((i j : ℕ) (r : Row) (u : FlowStep) → slice_get rows i ≡ Some r → slice_get quest.steps j ≡ Some u → u.from.0 ≡ r.place → IsTaken i j head k → Settled quest rows r u.to.0)
    → (i j : ℕ) (r : Row) (u : FlowStep) → slice_get rows i ≡ Some r → slice_get quest.steps j ≡ Some u → u.from.0 ≡ r.place → IsTaken i j head (k + 1) → Settled quest rows r u.to.0
settled_next quest head k rows h s t done old i j r u g e same (inl lt) = old i j r u g e same (inl lt)
settled_next quest head k rows h s t done old i j r u g e same (inr here) = elim (cases_eq j k) [ inl at_k ↦ now at_k | inr other ↦ old i j r u g e same (inr (here.0, omega (arith, here.1))) ]
  where
    now : j ≡ k → Settled quest rows r u.to.0
    now at_k =
        let row : h ≡ r = one_get rows head h r t.visit (subst (λ n. slice_get rows n ≡ Some r) here.0 g) in
        let step : s ≡ u = one_get quest.steps k s u t.step (subst (λ n. slice_get quest.steps n ≡ Some u) at_k e) in
        subst (λ x. Settled quest rows x u.to.0) row (subst (λ (y : FlowStep). Settled quest rows h y.to.0) step done)

-- The search came there before, or will never.
pub skip : (quest : Quest) (head k : ℕ) (visits : List Visit) (closed : List Bool) (s : FlowStep) (found : Searched quest head k visits closed) (h : Row) → TakesStep quest head k found.rows h s
    → IsClosed quest found.rows s.to.0 (passes quest h s.to.0) → (next : Searched quest head (k + 1) visits closed) × (next.rows ≡ found.rows)
skip quest head k visits closed s found h t is_closed = (
  record {
    rows = found.rows;
    visits_are = found.visits_are;
    lead = found.lead;
    begin = found.begin;
    from = found.from;
    near = found.near;
    ascend = found.ascend;
    beyond = λ i j r g u a b c d e. found.beyond i j r g u a b c d (omega arith);
    settled = settled_next quest head k found.rows h s t (record { no_answer = t.no_answer; came = came is_closed }) found.settled;
    room = found.room;
    flags = found.flags;
    blocked = found.blocked;
  },
  refl,
)
  where
    came : IsClosed quest found.rows s.to.0 (passes quest h s.to.0) → (quest.blocked s.to.0 ≡ true) ⊎ Came quest found.rows h s.to.0
    came (Barred a) = inl a
    came (Visited index row is p b) = inr (record { index = index; row = row; is = is; place_is = p; passed_is = b; early = inr (found.beyond index k row h s is t.visit t.step t.from (omega arith)) })

-- The search comes there for the first time.
pub come : (quest : Quest) (head k : ℕ) (visits : List Visit) (closed : List Bool) (s : FlowStep) (found : Searched quest head k visits closed) (h : Row) → TakesStep quest head k found.rows h s
    → quest.blocked s.to.0 ≡ false
    → (next : Searched quest head (k + 1) (visits ++ visit_of (next_row quest head h s.to.0) ∷ []) closed) × IsClosed quest next.rows s.to.0 (passes quest h s.to.0)
come quest head k visits closed s found h t free = (
  record {
    rows = rows';
    visits_are = ap (λ vs. vs ++ visit_of new ∷ []) found.visits_are ∙ sym (map-append visit_of rows (new ∷ []));
    lead = λ i r g rest l. elim (snoc_cases rows new i r g) [
      | inl old ↦ found.lead i r old rest l
      | inr now ↦ subst (λ (x : Row). LeadOn quest x.passed x.place rest → IsRoute quest (x.way ++ rest)) (sym now.1) (lead_next quest h s.to.0 rest t.go free (found.lead head h t.visit)) l
    ];
    begin = (found.begin.0, snoc_old rows new 0 found.begin.0 found.begin.1, found.begin.2, found.begin.3, found.begin.4);
    from = λ i r g. elim (snoc_cases rows new i r g) [
      | inl old ↦ comes_more quest rows new i r (found.from i r old)
      | inr now ↦ subst (ComesFrom quest rows' i) (sym now.1) (Later h (snoc_old rows new head h t.visit) (omega (arith, now.0, within)) refl)
    ];
    near = λ i r g. elim (snoc_cases rows new i r g) [
      | inl old ↦ found.near i r old
      | inr now ↦ let same : r.parent ≡ head = ap (λ (x : Row). x.parent) now.1 in omega (arith, same)
    ];
    ascend = λ i j r u a b lt. elim (snoc_cases rows new i r a) [
      | inl first ↦ elim (snoc_cases rows new j u b) [
        | inl old ↦ found.ascend i j r u first old lt
        | inr now ↦ subst (λ (x : Row). IsBefore r.way x.way) (sym now.1) (found.beyond i k r h s first t.visit t.step t.from (omega arith))
      ]
      | inr last ↦ elim (snoc_cases rows new j u b) [
        | inl old ↦ absurd (omega (arith, last.0, slice_get_within rows j u old))
        | inr now ↦ absurd (omega (arith, last.0, now.0))
      ]
    ];
    beyond = λ i j r g u a b c d e.
        let same : h ≡ g = one_get rows' head h g (snoc_old rows new head h t.visit) b in
        let from_h : u.from.0 ≡ h.place = d ∙ ap (λ (x : Row). x.place) (sym same) in
        subst (λ (x : Row). IsBefore r.way (x.way ++ u.to.0 ∷ [])) same (elim (snoc_cases rows new i r a) [
          | inl old ↦ found.beyond i j r h u old t.visit c from_h (omega arith)
          | inr now ↦ subst (λ (x : Row). IsBefore x.way (h.way ++ u.to.0 ∷ [])) (sym now.1) (before_last h.way s.to.0 u.to.0 (step_order quest.steps k j s u t.order t.step c (omega arith) (t.from ∙ sym from_h)))
        ]);
    settled = λ i j r u a b c taken. elim (snoc_cases rows new i r a) [
      | inl old ↦ elim taken [
        | inl lt ↦ settled_more quest rows new r u.to.0 (found.settled i j r u old b c (inl lt))
        | inr here ↦ elim (cases_eq j k) [
          | inl at_k ↦ now i j r u old b here.0 at_k
          | inr other ↦ settled_more quest rows new r u.to.0 (found.settled i j r u old b c (inr (here.0, omega (arith, here.1))))
        ]
      ]
      | inr last ↦ absurd (elim taken [ inl lt ↦ omega (arith, last.0, within) | inr here ↦ omega (arith, last.0, here.0, within) ])
    ];
    room = found.room;
    flags = λ place passed is_set. closed_more quest rows new place passed (found.flags place passed is_set);
    blocked = found.blocked;
  },
  Visited (length rows) new (snoc_new rows new) refl refl,
)
  where
    rows : List Row
    rows = found.rows

    new : Row
    new = next_row quest head h s.to.0

    rows' : List Row
    rows' = rows ++ new ∷ []

    within : head < length rows
    within = slice_get_within rows head h t.visit

    now : (i j : ℕ) (r : Row) (u : FlowStep) → slice_get rows i ≡ Some r → slice_get quest.steps j ≡ Some u → i ≡ head → j ≡ k → Settled quest rows' r u.to.0
    now i j r u g e at_head at_k =
        let row : h ≡ r = one_get rows head h r t.visit (subst (λ n. slice_get rows n ≡ Some r) at_head g) in
        let step : s ≡ u = one_get quest.steps k s u t.step (subst (λ n. slice_get quest.steps n ≡ Some u) at_k e) in
        let done : Settled quest rows' h s.to.0 = record { no_answer = t.no_answer; came = inr (record { index = length rows; row = new; is = snoc_new rows new; place_is = refl; passed_is = refl; early = inl refl }) } in
        subst (λ x. Settled quest rows' x u.to.0) row (subst (λ (y : FlowStep). Settled quest rows' h y.to.0) step done)

-- A flag is set for a place that the search came to.
pub close : (quest : Quest) (head k : ℕ) (visits : List Visit) (closed : List Bool) (place : ℕ) (passed : Bool) (found : Searched quest head k visits closed) → IsClosed quest found.rows place passed
    → Searched quest head k visits (set closed (state_number place passed) true)
close quest head k visits closed place passed found is_closed = record {
  rows = found.rows;
  visits_are = found.visits_are;
  lead = found.lead;
  begin = found.begin;
  from = found.from;
  near = found.near;
  ascend = found.ascend;
  beyond = found.beyond;
  settled = found.settled;
  room = λ j s e. let old = found.room j s e in omega (arith, old, length-set closed (state_number place passed) true);
  flags = λ p b is_set. elim (cases_eq (state_number p b) (state_number place passed)) [
    | inl same ↦ subst (λ x. IsClosed quest found.rows x b) (sym (state_place p place b passed same)) (subst (IsClosed quest found.rows place) (sym (state_passed p place b passed same)) is_closed)
    | inr other ↦ found.flags p b (sym (get_or-set_other closed (state_number place passed) (state_number p b) true false other) ∙ is_set)
  ];
  blocked = λ p b room a.
      let old : state_number p b < length closed = omega (arith, room, length-set closed (state_number place passed) true) in
      elim (cases_eq (state_number p b) (state_number place passed)) [
        | inl same ↦ ap (λ n. get_or (set closed (state_number place passed) true) n false) same ∙ get_or-set_same closed (state_number place passed) true false (omega (arith, same, old))
        | inr other ↦ get_or-set_other closed (state_number place passed) (state_number p b) true false other ∙ found.blocked p b old a
      ];
}

-- Steps that are not from the visit are passed over.
pub pass_over : (quest : Quest) (head k m : ℕ) (visits : List Visit) (closed : List Bool) (found : Searched quest head k visits closed) (h : Row) → slice_get found.rows head ≡ Some h → k ≤ m
    → ((j : ℕ) (s : FlowStep) → slice_get quest.steps j ≡ Some s → k ≤ j → j < m → s.from.0 ≢ h.place) → Searched quest head m visits closed
pass_over quest head k m visits closed found h is le others = record {
  rows = found.rows;
  visits_are = found.visits_are;
  lead = found.lead;
  begin = found.begin;
  from = found.from;
  near = found.near;
  ascend = found.ascend;
  beyond = λ i j r g u a b c d e. found.beyond i j r g u a b c d (omega arith);
  settled = λ i j r u a b c taken. elim taken [
    | inl lt ↦ found.settled i j r u a b c (inl lt)
    | inr here ↦ elim (cases_lt j k) [
      | inl before ↦ found.settled i j r u a b c (inr (here.0, before))
      | inr behind ↦ absurd (others j u b behind here.1 (c ∙ ap (λ (x : Row). x.place) (one_get found.rows head r h (subst (λ n. slice_get found.rows n ≡ Some r) here.0 a) is)))
    ]
  ];
  room = found.room;
  flags = found.flags;
  blocked = found.blocked;
}

-- the way to a visit is not empty
way_some : (quest : Quest) (rows : List Row) (i : ℕ) (r : Row) → ComesFrom quest rows i r → 1 ≤ length r.way
way_some quest rows i r (Start e p w) = omega (arith, ap length w)
way_some quest rows i r (Later parent is lt w) = omega (arith, ap length w, length-append parent.way (r.place ∷ []))

-- All steps of a visit are taken, and the search goes on to the next one.
pub go_on : (quest : Quest) (head k : ℕ) (visits : List Visit) (closed : List Bool) (found : Searched quest head k visits closed) (h : Row) → slice_get found.rows head ≡ Some h
    → ((j : ℕ) (s : FlowStep) → slice_get quest.steps j ≡ Some s → k ≤ j → s.from.0 ≢ h.place) → Searched quest (head + 1) 0 visits closed
go_on quest head k visits closed found h is others = record {
  rows = found.rows;
  visits_are = found.visits_are;
  lead = found.lead;
  begin = found.begin;
  from = found.from;
  near = λ i r g. let old = found.near i r g in omega (arith, old);
  ascend = found.ascend;
  beyond = λ i j r g u a b c d e. behind i r g u a b (found.from i r a);
  settled = λ i j r u a b c taken. elim taken [
    | inl lt ↦ elim (cases_eq i head) [
      | inl here ↦ elim (cases_lt j k) [
        | inl before ↦ found.settled i j r u a b c (inr (here, before))
        | inr past ↦ absurd (others j u b past (c ∙ ap (λ (x : Row). x.place) (one_get found.rows head r h (subst (λ n. slice_get found.rows n ≡ Some r) here a) is)))
      ]
      | inr other ↦ found.settled i j r u a b c (inl (omega arith))
    ]
    | inr here ↦ absurd (omega (arith, here.1))
  ];
  room = found.room;
  flags = found.flags;
  blocked = found.blocked;
}
  where
    behind : (i : ℕ) (r g : Row) (u : FlowStep) → slice_get found.rows i ≡ Some r → slice_get found.rows (head + 1) ≡ Some g → ComesFrom quest found.rows i r → IsBefore r.way (g.way ++ u.to.0 ∷ [])
    behind i r g u a b (Start e p w) = inl (omega (arith, ap length w, length-append g.way (u.to.0 ∷ []), way_some quest found.rows (head + 1) g (found.from (head + 1) g b)))
    behind i r g u a b (Later parent at_parent lt w) =
        let near : r.parent ≤ head = found.near i r a in
        subst (λ x. IsBefore x (g.way ++ u.to.0 ∷ [])) (sym w) (before_more parent.way g.way r.place u.to.0 (found.ascend r.parent (head + 1) parent g at_parent b (omega arith)))

-- the search begins with a visit of the start
pub begins : (quest : Quest) (visit : Visit) (closed : List Bool) → visit ≡ record { place = record { 0 = quest.start }; passed = quest.start == quest.via; parent = 0 }
    → ((j : ℕ) (s : FlowStep) → slice_get quest.steps j ≡ Some s → 2 * s.to.0 + 1 < length closed) → ((n : ℕ) → length closed ≤ n → get_or closed n false ≡ false)
    → AreBlocked quest.blocked closed → Searched quest 0 0 (visit ∷ []) closed
begins quest visit closed is room beyond blocked = record {
  rows = first ∷ [];
  visits_are = ap (λ v. v ∷ []) is;
  lead = λ i r g rest l. at_first i r g (λ x. LeadOn quest x.passed x.place rest → IsRoute quest (x.way ++ rest)) (λ leads. record { rest = rest; begins = refl; leads = leads }) l;
  begin = (first, refl, refl, refl, refl);
  from = λ i r g. at_first i r g (ComesFrom quest (first ∷ []) i) (Start (index i r g) refl refl);
  near = λ i r g. at_first i r g (λ x. x.parent ≤ 0) (omega arith);
  ascend = λ i j r u a b lt. absurd (omega (arith, index i r a, index j u b));
  beyond = λ i j r g u a b c d e. at_first i r a (λ x. IsBefore x.way (g.way ++ u.to.0 ∷ [])) (at_first 0 g b (λ x. IsBefore (quest.start ∷ []) (x.way ++ u.to.0 ∷ [])) (inl (omega arith)));
  settled = λ i j r u a b c taken. absurd (elim taken [ inl lt ↦ omega (arith, lt) | inr here ↦ omega (arith, here.1) ]);
  room = room;
  flags = λ place passed is_set. elim (cases_lt (state_number place passed) (length closed)) [
    | inl within ↦ Barred (sym (blocked place passed within) ∙ is_set)
    | inr past ↦ absurd (let none = beyond (state_number place passed) past in cc)
  ];
  blocked = λ place passed within a. blocked place passed within ∙ a;
}
  where
    first : Row
    first = record { place = quest.start; passed = quest.start == quest.via; parent = 0; way = quest.start ∷ [] }

    index : (i : ℕ) (r : Row) → slice_get (first ∷ []) i ≡ Some r → i ≡ 0
    index zero r g = refl
    index (suc i) r g = absurd (none-some r g)

    at_first : (i : ℕ) (r : Row) → slice_get (first ∷ []) i ≡ Some r → (P : Row → Type 0) → P first → P r
    at_first zero r g P p = subst P (same_Some first r g) p
    at_first (suc i) r g P p = absurd (none-some r g)

-- what passes a test is there
any_found : {A : Type 0} (test : A → Bool) (xs : List A) → list_any test xs ≡ true → (j : ℕ) × (x : A) × (slice_get xs j ≡ Some x) × (test x ≡ true)
any_found test [] e = absurd cc
any_found {A = A} test (x ∷ xs) e = go (test x) refl (any_found test xs)
  where
    go : (b : Bool) → test x ≡ b → (list_any test xs ≡ true → (j : ℕ) × (y : A) × (slice_get xs j ≡ Some y) × (test y ≡ true))
        → (j : ℕ) × (y : A) × (slice_get (x ∷ xs) j ≡ Some y) × (test y ≡ true)
    go true t more = (0, x, refl, t)
    go false t more = let found = more (rw t at e) in (suc found.0, found.1, found.2, found.3)

-- a step of the table
pub record StepOf (steps : List FlowStep) (p q : ℕ) : Type 0 where
  pub index : ℕ
  pub step : FlowStep
  pub is : slice_get steps index ≡ Some step
  pub from : step.from.0 ≡ p
  pub to : step.to.0 ≡ q

pub step_of : (steps : List FlowStep) (p q : ℕ) → can_go steps p q ≡ true → StepOf steps p q
step_of steps p q go =
    let found = any_found (λ (s : FlowStep). s.from.0 == p && s.to.0 == q) steps go in
    let s : FlowStep = found.1 in
    let test : (s.from.0 == p && s.to.0 == q) ≡ true = found.3 in
    record { index = found.0; step = s; is = found.2; from = grind (arith, nat_tests, test); to = grind (arith, nat_tests, test) }

pub step_goes : (steps : List FlowStep) (j : ℕ) (s : FlowStep) (p : ℕ) → slice_get steps j ≡ Some s → s.from.0 ≡ p → can_go steps p s.to.0 ≡ true
step_goes steps j s p is from = any_at (λ (u : FlowStep). u.from.0 == p && u.to.0 == s.to.0) steps j s is (grind (arith, nat_tests, from))

-- where the search has come to the next place, it leads on from there
pub record ComesOn (quest : Quest) (rows : List Row) (r : Row) (q : ℕ) (rest : List ℕ) : Type 0 where
  pub index : ℕ
  pub row : Row
  pub is : slice_get rows index ≡ Some row
  pub early : IsNotBehind row.way (r.way ++ q ∷ [])
  pub leads : LeadOn quest row.passed row.place rest

comes_on : (quest : Quest) (head k : ℕ) (visits : List Visit) (closed : List Bool) (found : Searched quest head k visits closed) (i : ℕ) (r : Row) (q n : ℕ) (rest : List ℕ)
    → slice_get found.rows i ≡ Some r → i < head → LeadOn quest r.passed r.place (q ∷ n ∷ rest) → ComesOn quest found.rows r q (n ∷ rest)
comes_on quest head k visits closed found i r q n rest is lt leads =
    let s = step_of quest.steps r.place q leads.0 in
    let settled : Settled quest found.rows r q = subst (Settled quest found.rows r) s.to (found.settled i s.index r s.step is s.is s.from (inl lt)) in
    elim settled.came [
      | inl a ↦ absurd (let free : quest.blocked q ≡ false = leads.1 in cc)
      | inr c ↦ came c
    ]
  where
    came : Came quest found.rows r q → ComesOn quest found.rows r q (n ∷ rest)
    came c = record {
      index = c.index;
      row = c.row;
      is = c.is;
      early = c.early;
      leads = subst (λ b. LeadOn quest b c.row.place (n ∷ rest)) (sym c.passed_is) (subst (λ p. LeadOn quest (passes quest r q) p (n ∷ rest)) (sym c.place_is) leads.2);
    }

-- a step to the stop was no answer
no_step : (quest : Quest) (head k : ℕ) (visits : List Visit) (closed : List Bool) (found : Searched quest head k visits closed) (i : ℕ) (r : Row) (q : ℕ)
    → slice_get found.rows i ≡ Some r → i < head → LeadOn quest r.passed r.place (q ∷ []) → ⊥
no_step quest head k visits closed found i r q is lt leads =
    let s = step_of quest.steps r.place q leads.0 in
    (found.settled i s.index r s.step is s.is s.from (inl lt)).no_answer leads.2 (s.to ∙ leads.1)

-- no way to a visit that is not taken yet comes before the way to the one at hand
not_before : (quest : Quest) (head k : ℕ) (visits : List Visit) (closed : List Bool) (found : Searched quest head k visits closed) (h : Row) → slice_get found.rows head ≡ Some h
    → (i : ℕ) (r : Row) → slice_get found.rows i ≡ Some r → head ≤ i → IsNotBehind h.way r.way
not_before quest head k visits closed found h at_head i r is le = elim (cases_eq i head) [
  | inl here ↦ inl (ap (λ (x : Row). x.way) (one_get found.rows head h r at_head (subst (λ n. slice_get found.rows n ≡ Some r) here is)))
  | inr other ↦ inr (found.ascend head i h r at_head is (omega arith))
]

-- The first answer is the least.
least_step : (quest : Quest) (head k : ℕ) (visits : List Visit) (closed : List Bool) (found : Searched quest head k visits closed) (h : Row) → slice_get found.rows head ≡ Some h
    → (q n : ℕ) (rest : List ℕ)
    → ((i : ℕ) (r : Row) (v : List ℕ) → slice_get found.rows i ≡ Some r → IsNotBehind r.way v → LeadOn quest r.passed r.place (n ∷ rest) → IsNotBehind (h.way ++ quest.stop ∷ []) (v ++ (n ∷ rest)))
    → (i : ℕ) (r : Row) (v : List ℕ) → slice_get found.rows i ≡ Some r → IsNotBehind r.way v → LeadOn quest r.passed r.place (q ∷ n ∷ rest) → IsNotBehind (h.way ++ quest.stop ∷ []) (v ++ (q ∷ n ∷ rest))
least_step quest head k visits closed found h at_head q n rest again i r v is early leads = elim (cases_lt i head) [
  | inl lt ↦ on (comes_on quest head k visits closed found i r q n rest is lt leads)
  | inr le ↦ inr (shorter_before h.way v rest quest.stop q n (omega (arith, not_behind_length h.way r.way (not_before quest head k visits closed found h at_head i r is le), not_behind_length r.way v early)))
]
  where
    on : ComesOn quest found.rows r q (n ∷ rest) → IsNotBehind (h.way ++ quest.stop ∷ []) (v ++ (q ∷ n ∷ rest))
    on c =
        let here : IsNotBehind c.row.way (v ++ q ∷ []) = not_behind_trans c.row.way (r.way ++ q ∷ []) (v ++ q ∷ []) c.early (not_behind_more r.way v q early) in
        subst (IsNotBehind (h.way ++ quest.stop ∷ [])) (append_assoc v (q ∷ []) (n ∷ rest)) (again c.index c.row (v ++ q ∷ []) c.is here c.leads)

least_from : (quest : Quest) (head k : ℕ) (visits : List Visit) (closed : List Bool) (found : Searched quest head k visits closed) (h : Row) → slice_get found.rows head ≡ Some h
    → (rest : List ℕ) (i : ℕ) (r : Row) (v : List ℕ) → slice_get found.rows i ≡ Some r → IsNotBehind r.way v → LeadOn quest r.passed r.place rest → IsNotBehind (h.way ++ quest.stop ∷ []) (v ++ rest)
least_from quest head k visits closed found h at_head [] i r v is early leads = absurd leads
least_from quest head k visits closed found h at_head (q ∷ []) i r v is early leads = elim (cases_lt i head) [
  | inl lt ↦ absurd (no_step quest head k visits closed found i r q is lt leads)
  | inr le ↦ subst (λ x. IsNotBehind (h.way ++ quest.stop ∷ []) (v ++ x ∷ [])) (sym leads.1)
      (not_behind_more h.way v quest.stop (not_behind_trans h.way r.way v (not_before quest head k visits closed found h at_head i r is le) early))
]
least_from quest head k visits closed found h at_head (q ∷ n ∷ rest) i r v is early leads =
    least_step quest head k visits closed found h at_head q n rest (least_from quest head k visits closed found h at_head (n ∷ rest)) i r v is early leads

-- Where all visits are taken, none leads on to the stop.
none_step : (quest : Quest) (head k : ℕ) (visits : List Visit) (closed : List Bool) (found : Searched quest head k visits closed) → length found.rows ≤ head
    → (q n : ℕ) (rest : List ℕ) → ((i : ℕ) (r : Row) → slice_get found.rows i ≡ Some r → LeadOn quest r.passed r.place (n ∷ rest) → ⊥)
    → (i : ℕ) (r : Row) → slice_get found.rows i ≡ Some r → LeadOn quest r.passed r.place (q ∷ n ∷ rest) → ⊥
none_step quest head k visits closed found le q n rest again i r is leads =
    let within = slice_get_within found.rows i r is in
    let c = comes_on quest head k visits closed found i r q n rest is (omega arith) leads in
    again c.index c.row c.is c.leads

none_from : (quest : Quest) (head k : ℕ) (visits : List Visit) (closed : List Bool) (found : Searched quest head k visits closed) → length found.rows ≤ head
    → (rest : List ℕ) (i : ℕ) (r : Row) → slice_get found.rows i ≡ Some r → LeadOn quest r.passed r.place rest → ⊥
none_from quest head k visits closed found le [] i r is leads = leads
none_from quest head k visits closed found le (q ∷ []) i r is leads = no_step quest head k visits closed found i r q is (let within = slice_get_within found.rows i r is in omega arith) leads
none_from quest head k visits closed found le (q ∷ n ∷ rest) i r is leads =
    none_step quest head k visits closed found le q n rest (none_from quest head k visits closed found le (n ∷ rest)) i r is leads

-- what leads on from the start leads on from its visit
start_leads : (quest : Quest) (head k : ℕ) (visits : List Visit) (closed : List Bool) (found : Searched quest head k visits closed) (rest : List ℕ)
    → LeadOn quest (quest.start == quest.via) quest.start rest → LeadOn quest found.begin.0.passed found.begin.0.place rest
start_leads quest head k visits closed found rest leads =
    subst (λ b. LeadOn quest b found.begin.0.place rest) (sym found.begin.3) (subst (λ p. LeadOn quest (quest.start == quest.via) p rest) (sym found.begin.2) leads)

pub no_route : (quest : Quest) (head k : ℕ) (visits : List Visit) (closed : List Bool) → Searched quest head k visits closed → length visits ≤ head → (path : List ℕ) → IsRoute quest path → ⊥
no_route quest head k visits closed found le path route =
    let many : length visits ≡ length found.rows = ap length found.visits_are ∙ length_map visit_of found.rows in
    none_from quest head k visits closed found (omega arith) route.rest 0 found.begin.0 found.begin.1 (start_leads quest head k visits closed found route.rest route.leads)

-- the way to a visit, by the parents
way_more : (quest : Quest) (visits : List Visit) (rows : List Row) (i : ℕ) (r : Row) → visits ≡ map visit_of rows → slice_get rows i ≡ Some r → ComesFrom quest rows i r
    → ((parent : Row) → slice_get rows r.parent ≡ Some parent → r.parent < i → IsWayTo visits r.parent parent.way) → IsWayTo visits i r.way
way_more quest visits rows i r are is (Start e p w) again =
    WayStart i r.way (visit_of r) e (ap (λ vs. slice_get vs 0) are ∙ get_map visit_of rows 0 r (subst (λ n. slice_get rows n ≡ Some r) e is)) w
way_more quest visits rows i r are is (Later parent at_parent lt w) again =
    WayLater i r.way (visit_of r) parent.way (ap (λ vs. slice_get vs i) are ∙ get_map visit_of rows i r is) lt (again parent at_parent lt) w

way_below : (quest : Quest) (head k : ℕ) (visits : List Visit) (closed : List Bool) (found : Searched quest head k visits closed) (n i : ℕ) (r : Row) → i < n → slice_get found.rows i ≡ Some r → IsWayTo visits i r.way
way_below quest head k visits closed found zero i r lt is = absurd (omega arith)
way_below quest head k visits closed found (suc n) i r lt is =
    way_more quest visits found.rows i r found.visits_are is (found.from i r is) (λ parent at_parent less. way_below quest head k visits closed found n r.parent parent (omega arith) at_parent)

-- the way to an answer, and the least route that it makes
pub record BestWay (quest : Quest) (head : ℕ) (visits : List Visit) : Type 0 where
  pub way : List ℕ
  pub leads : IsWayTo visits head way
  pub least : IsLeastRoute quest (way ++ quest.stop ∷ [])

pub best_way : (quest : Quest) (head : ℕ) (visits : List Visit) → Answered quest head visits → BestWay quest head visits
best_way quest head visits answered =
    let found = answered.searched in
    let row = map_get visit_of found.rows head answered.visit (ap (λ vs. slice_get vs head) (sym found.visits_are) ∙ answered.is) in
    let h : Row = row.0 in
    let passed : h.passed ≡ true = ap (λ (v : Visit). v.passed) (sym row.2) ∙ answered.answer.passed in
    let go : can_go quest.steps h.place quest.stop ≡ true = subst (λ (v : Visit). can_go quest.steps v.place.0 quest.stop ≡ true) row.2 answered.answer.step in
    record {
      way = h.way;
      leads = way_below quest head answered.step visits answered.closed found (suc head) head h (omega arith) row.1;
      least = record {
        route = found.lead head h row.1 (quest.stop ∷ []) (go, refl, passed);
        least = λ other route. subst (IsNotBehind (h.way ++ quest.stop ∷ [])) (sym route.begins)
            (least_from quest head answered.step visits answered.closed found h row.1 route.rest 0 found.begin.0 (quest.start ∷ []) found.begin.1 (inl found.begin.4)
            (start_leads quest head answered.step visits answered.closed found route.rest route.leads));
      };
    }

-- one visit back
pub record WayBack (visits : List Visit) (at : ℕ) (way : List ℕ) : Type 0 where
  pub visit : Visit
  pub front : List ℕ
  pub is : slice_get visits at ≡ Some visit
  pub less : visit.parent < at
  pub leads : IsWayTo visits visit.parent front
  pub way_is : way ≡ front ++ visit.place.0 ∷ []

pub way_back : (visits : List Visit) (at : ℕ) (way : List ℕ) → IsWayTo visits at way → at ≢ 0 → WayBack visits at way
way_back visits at way (WayStart _ _ v zero_is is w) some = absurd (some zero_is)
way_back visits at way (WayLater _ _ v front is less leads w) some = record { visit = v; front = front; is = is; less = less; leads = leads; way_is = w }

pub way_first : (visits : List Visit) (at : ℕ) (way : List ℕ) → IsWayTo visits at way → at ≡ 0 → (v : Visit) × (slice_get visits 0 ≡ Some v) × (way ≡ v.place.0 ∷ [])
way_first visits at way (WayStart _ _ v zero_is is w) none = (v, is, w)
way_first visits at way (WayLater _ _ v front is less leads w) none = absurd (omega arith)

pub way_within : (visits : List Visit) (at : ℕ) (way : List ℕ) → IsWayTo visits at way → at < length visits
way_within visits at way (WayStart _ _ v zero_is is w) = let within = slice_get_within visits 0 v is in omega arith
way_within visits at way (WayLater _ _ v front is less leads w) = slice_get_within visits at v is
