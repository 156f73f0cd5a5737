-- The steps of a visit, one after the other.
use Rattle.std.proofs.Common.{◌≡◌, ◌≢◌, ℕ, ◌+◌, ◌*◌, ◌<◌, ◌≤◌, Bool, true, false, ltb, ltb-true, Some, List, [], ◌∷◌, ◌++◌, length, get_or, refl, sym, ap, ◌∙◌, subst, inl, inr, arith, All, if◌then◌else◌}
use Rattle.std.specs.Prelude.{◌||◌, ◌&&◌, ◌==◌, slice_get}
use Rattle.std.specs.List.Sorted.{IsPartitionedBy, IsPartitionPoint}
use Rattle.std.proofs.Math.ListN.{set}
use Rattle.std.proofs.lemmas.Bool.{cases_eq}
use Rattle.std.proofs.lemmas.Bool.Decides.{nat_tests}
use Rattle.std.proofs.lemmas.List.{get_or_past}
use Rattle.std.proofs.lemmas.Option.{slice_get_within, slice_get-get_or, get_or_from_slice_get}
use Rattle.places.specs.declared.flow.FlowStep.{FlowStep}
use Rattle.places.specs.declared.search.Visit.{Visit}
use Rattle.places.specs.Flow.{can_go, AreInOrder}
use Rattle.places.specs.Path.{Quest}
use Rattle.places.specs.Search.{state_number, Row, visit_of, passes, IsClosed, Searched, Answered, IsFirstFrom, AreBlocked}
use Rattle.places.proofs.Numbers.{state_below}
use Rattle.places.proofs.Searched.{snoc_old, one_get, map_get, step_goes, steps_order, TakesStep, skip, come, close, pass_over, go_on, begins}

-- an item of a list, by its index
pub item_at : {A : Type 0} (xs : List A) (i : ℕ) (x : A) → i < length xs → x ≡ get_or xs i x → slice_get xs i ≡ Some x
item_at xs i x lt e = slice_get-get_or xs i x lt ∙ ap Some (sym e)

-- the tests of a search among the steps
pub parted_from : (steps : List FlowStep) (place : ℕ) → AreInOrder steps → IsPartitionedBy (λ (s : FlowStep). ltb s.from.0 place) steps
parted_from steps place order i j d le lt t = elim (cases_eq i j) [
  | inl same ↦ ap (λ k. ltb (get_or steps k d).from.0 place) same ∙ t
  | inr other ↦
      let left = slice_get-get_or steps i d (omega arith) in
      let right = slice_get-get_or steps j d lt in
      let below = steps_order steps i j (get_or steps i d) (get_or steps j d) order left right (omega arith) in
      let less : (get_or steps j d).from.0 < place = ltb-true _ _ t in
      grind (arith, nat_tests, below, less)
]

pub first_point : (steps : List FlowStep) (place i : ℕ) → IsPartitionPoint (λ (s : FlowStep). ltb s.from.0 place ≡ true) (λ (s : FlowStep). ltb s.from.0 place ≡ false) steps i → IsFirstFrom steps place i
first_point steps place i point = record {
  before = λ j s is lt.
      let same : get_or steps j s ≡ s = get_or_from_slice_get steps j s s is in
      let less : ltb s.from.0 place ≡ true = ap (λ (u : FlowStep). ltb u.from.0 place) (sym same) ∙ point.0 j s (omega arith) lt in
      ltb-true _ _ less;
  after = λ j s is le.
      let same : get_or steps j s ≡ s = get_or_from_slice_get steps j s s is in
      let not_less : ltb s.from.0 place ≡ false = ap (λ (u : FlowStep). ltb u.from.0 place) (sym same) ∙ point.1 j s le (slice_get_within steps j s is) in
      grind (arith, nat_tests, not_less);
}

-- the row of a visit
abbrev pub RowOf : (quest : Quest) → (head k : ℕ) → (visits : List Visit) → (closed : List Bool) → Searched quest head k visits closed → Visit → Type 0
RowOf quest head k visits closed found visit = (h : Row) × (slice_get found.rows head ≡ Some h) × (visit ≡ visit_of h)

row_of : (quest : Quest) (head k : ℕ) (visits : List Visit) (closed : List Bool) (found : Searched quest head k visits closed) (visit : Visit) → slice_get visits head ≡ Some visit → RowOf quest head k visits closed found visit
row_of quest head k visits closed found visit is = map_get visit_of found.rows head visit (ap (λ vs. slice_get vs head) (sym found.visits_are) ∙ is)

-- The first step from the visit comes next.
pub start_steps : (quest : Quest) (head : ℕ) (visits : List Visit) (closed : List Bool) (visit : Visit) (first : ℕ) → Searched quest head 0 visits closed → slice_get visits head ≡ Some visit
    → IsFirstFrom quest.steps visit.place.0 first → Searched quest head first visits closed
start_steps quest head visits closed visit first found is firsts =
    let row = row_of quest head 0 visits closed found visit is in
    let place : visit.place.0 ≡ row.0.place = ap (λ (v : Visit). v.place.0) row.2 in
    pass_over quest head 0 first visits closed found row.0 row.1 (omega arith) (λ j s at le lt same. let less = firsts.before j s at lt in omega (arith, less, same, place))

-- A step from a greater place follows the last one from the visit.
pub stop_steps : (quest : Quest) (head k : ℕ) (visits : List Visit) (closed : List Bool) (visit : Visit) (step : FlowStep) (first : ℕ) → Searched quest head k visits closed → slice_get visits head ≡ Some visit
    → AreInOrder quest.steps → IsFirstFrom quest.steps visit.place.0 first → first ≤ k → slice_get quest.steps k ≡ Some step → step.from.0 ≢ visit.place.0
    → Searched quest (head + 1) 0 visits closed
stop_steps quest head k visits closed visit step first found is order firsts le at_k other =
    let row = row_of quest head k visits closed found visit is in
    let place : visit.place.0 ≡ row.0.place = ap (λ (v : Visit). v.place.0) row.2 in
    let here = firsts.after k step at_k le in
    let beyond : visit.place.0 < step.from.0 = omega (arith, here, other) in
    go_on quest head k visits closed found row.0 row.1 (λ j s at past same. elim (cases_eq j k) [
      | inl at_j ↦
          let one : step ≡ s = one_get quest.steps k step s at_k (subst (λ n. slice_get quest.steps n ≡ Some s) at_j at) in
          let from : step.from.0 ≡ s.from.0 = ap (λ (u : FlowStep). u.from.0) one in
          omega (arith, from, beyond, place, same)
      | inr later ↦ let up = steps_order quest.steps k j step s order at_k at (omega arith) in omega (arith, up, beyond, place, same)
    ])

-- No step is left.
pub end_steps : (quest : Quest) (head k : ℕ) (visits : List Visit) (closed : List Bool) (visit : Visit) → Searched quest head k visits closed → slice_get visits head ≡ Some visit
    → length quest.steps ≤ k → Searched quest (head + 1) 0 visits closed
end_steps quest head k visits closed visit found is le =
    let row = row_of quest head k visits closed found visit is in
    go_on quest head k visits closed found row.0 row.1 (λ j s at past same. let within = slice_get_within quest.steps j s at in absurd (omega arith))

-- A step to the stop is an answer.
pub answer_step : (quest : Quest) (head k : ℕ) (visits : List Visit) (closed : List Bool) (visit : Visit) (step : FlowStep) → Searched quest head k visits closed → slice_get visits head ≡ Some visit
    → slice_get quest.steps k ≡ Some step → step.from.0 ≡ visit.place.0 → (visit.passed && step.to.0 == quest.stop) ≡ true → Answered quest head visits
answer_step quest head k visits closed visit step found is at_k from test =
    let stop : step.to.0 ≡ quest.stop = grind (arith, nat_tests, test) in
    record {
      step = k;
      closed = closed;
      searched = found;
      visit = visit;
      is = is;
      answer = record { passed = grind (arith, nat_tests, test); step = subst (λ q. can_go quest.steps visit.place.0 q ≡ true) stop (step_goes quest.steps k step visit.place.0 at_k from) };
    }

-- the place that a step leads to has flags
pub step_room : (quest : Quest) (head k : ℕ) (visits : List Visit) (closed : List Bool) (step : FlowStep) (passed : Bool) → Searched quest head k visits closed → slice_get quest.steps k ≡ Some step
    → state_number step.to.0 passed < length closed
step_room quest head k visits closed step passed found at_k = state_below step.to.0 (length closed) passed (found.room k step at_k)

-- Another step is taken.
pub take_step : (quest : Quest) (head k : ℕ) (visits visits' : List Visit) (closed closed' : List Bool) (visit : Visit) (step : FlowStep) → Searched quest head k visits closed → slice_get visits head ≡ Some visit
    → AreInOrder quest.steps → slice_get quest.steps k ≡ Some step → step.from.0 ≡ visit.place.0 → (visit.passed && step.to.0 == quest.stop) ≡ false
    → visits' ≡ (if get_or closed (state_number step.to.0 (visit.passed || step.to.0 == quest.via)) false then visits else visits ++ record { place = step.to; passed = visit.passed || step.to.0 == quest.via; parent = head } ∷ [])
    → closed' ≡ set closed (state_number step.to.0 (visit.passed || step.to.0 == quest.via)) true
    → Searched quest head (k + 1) visits' closed' × (slice_get visits' head ≡ Some visit)
take_step quest head k visits visits' closed closed' visit step found is order at_k from test grown set_is =
    by_flag (get_or closed state false) refl
  where
    state : ℕ
    state = state_number step.to.0 (visit.passed || step.to.0 == quest.via)

    row : RowOf quest head k visits closed found visit
    row = row_of quest head k visits closed found visit is

    h : Row
    h = row.0

    passed_is : (visit.passed || step.to.0 == quest.via) ≡ passes quest h step.to.0
    passed_is = ap (λ (v : Visit). v.passed || step.to.0 == quest.via) row.2

    takes : TakesStep quest head k found.rows h step
    takes = record {
      visit = row.1;
      step = at_k;
      from = from ∙ ap (λ (v : Visit). v.place.0) row.2;
      go = step_goes quest.steps k step h.place at_k (from ∙ ap (λ (v : Visit). v.place.0) row.2);
      no_answer = λ p stop. let p' : visit.passed ≡ true = ap (λ (v : Visit). v.passed) row.2 ∙ p in absurd (let t : (visit.passed && step.to.0 == quest.stop) ≡ true = grind (arith, nat_tests, p', stop) in cc);
      order = order;
    }

    free_place : (a : Bool) → quest.blocked step.to.0 ≡ a → get_or closed state false ≡ false → quest.blocked step.to.0 ≡ false
    free_place true a flag = absurd (let on = found.blocked step.to.0 (visit.passed || step.to.0 == quest.via) (step_room quest head k visits closed step (visit.passed || step.to.0 == quest.via) found at_k) a in cc)
    free_place false a flag = a

    by_flag : (b : Bool) → get_or closed state false ≡ b → Searched quest head (k + 1) visits' closed' × (slice_get visits' head ≡ Some visit)
    by_flag true flag =
        let same : visits' ≡ visits = grown ∙ ap (λ b. if b then visits else visits ++ record { place = step.to; passed = visit.passed || step.to.0 == quest.via; parent = head } ∷ []) flag in
        let there : IsClosed quest found.rows step.to.0 (visit.passed || step.to.0 == quest.via) = found.flags step.to.0 (visit.passed || step.to.0 == quest.via) flag in
        let next = skip quest head k visits closed step found h takes (subst (IsClosed quest found.rows step.to.0) passed_is there) in
        let shut = close quest head (k + 1) visits closed step.to.0 (visit.passed || step.to.0 == quest.via) next.0 (subst (λ rows. IsClosed quest rows step.to.0 (visit.passed || step.to.0 == quest.via)) (sym next.1) there) in
        (subst (λ vs. Searched quest head (k + 1) vs closed') (sym same) (subst (Searched quest head (k + 1) visits) (sym set_is) shut), ap (λ vs. slice_get vs head) same ∙ is)
    by_flag false flag =
        let new : Visit = record { place = step.to; passed = visit.passed || step.to.0 == quest.via; parent = head } in
        let same : visits' ≡ visits ++ new ∷ [] = grown ∙ ap (λ b. if b then visits else visits ++ new ∷ []) flag in
        let next = come quest head k visits closed step found h takes (free_place (quest.blocked step.to.0) refl flag) in
        let shut = close quest head (k + 1) _ closed step.to.0 (passes quest h step.to.0) next.0 next.1 in
        let turned : Searched quest head (k + 1) (visits ++ new ∷ []) (set closed state true)
        = subst (λ b. Searched quest head (k + 1) (visits ++ record { place = step.to; passed = b; parent = head } ∷ []) (set closed (state_number step.to.0 b) true)) (sym passed_is) shut in
        (subst (λ vs. Searched quest head (k + 1) vs closed') (sym same) (subst (Searched quest head (k + 1) (visits ++ new ∷ [])) (sym set_is) turned), ap (λ vs. slice_get vs head) same ∙ snoc_old visits new head visit is)

-- The search begins.
pub first_visit : (quest : Quest) (closed : List Bool) (bound : ℕ) → All (λ (s : FlowStep). s.to.0 < bound) quest.steps → length closed ≡ 2 * bound
    → AreBlocked quest.blocked closed
    → Searched quest 0 0 (record { place = record { 0 = quest.start }; passed = quest.start == quest.via; parent = 0 } ∷ []) closed
first_visit quest closed bound above size blocked = begins quest _ closed refl
    (λ j s is.
    let same : get_or quest.steps j s ≡ s = get_or_from_slice_get quest.steps j s s is in
    let below : (get_or quest.steps j s).to.0 < bound = above j s (slice_get_within quest.steps j s is) in
    let to : s.to.0 < bound = subst (λ (u : FlowStep). u.to.0 < bound) same below in
    omega (arith, size, to))
    (λ n le. get_or_past closed n false le) blocked

-- the same, where the bit of the next visit has a name
pub take_one : (quest : Quest) (head k : ℕ) (visits visits' : List Visit) (closed closed' : List Bool) (visit : Visit) (step : FlowStep) (passed : Bool) → passed ≡ (visit.passed || step.to.0 == quest.via)
    → Searched quest head k visits closed → slice_get visits head ≡ Some visit
    → AreInOrder quest.steps → slice_get quest.steps k ≡ Some step → step.from.0 ≡ visit.place.0 → (visit.passed && step.to.0 == quest.stop) ≡ false
    → visits' ≡ (if get_or closed (state_number step.to.0 passed) false then visits else visits ++ record { place = step.to; passed = passed; parent = head } ∷ [])
    → closed' ≡ set closed (state_number step.to.0 passed) true
    → Searched quest head (k + 1) visits' closed' × (slice_get visits' head ≡ Some visit)
take_one quest head k visits visits' closed closed' visit step passed is_passed found is order at_k from test grown set_is =
    take_step quest head k visits visits' closed closed' visit step found is order at_k from test
    (subst (λ b. visits' ≡ (if get_or closed (state_number step.to.0 b) false then visits else visits ++ record { place = step.to; passed = b; parent = head } ∷ [])) is_passed grown)
    (subst (λ b. closed' ≡ set closed (state_number step.to.0 b) true) is_passed set_is)

-- a step of a slice that is the table's
pub step_at : (xs ys : List FlowStep) (i : ℕ) (d : FlowStep) → xs ≡ ys → i < length xs → slice_get ys i ≡ Some (get_or xs i d)
step_at xs ys i d same lt = ap (λ zs. slice_get zs i) (sym same) ∙ slice_get-get_or xs i d lt
