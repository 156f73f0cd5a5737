-- Trails grow by a step, and of every two of their units the earlier is kept by the later.
use Rattle.std.proofs.Common.{◌≡◌, ℕ, zero, suc, ◌<◌, ◌≤◌, ◌+◌, ◌*◌, ◌^◌, List, [], ◌∷◌, ◌++◌, Some, refl, sym, ap, ◌∙◌, subst, map, take, length, length-append, get_or, length-take, below_more, arith}
use Rattle.std.specs.Prelude.{slice_get, option_map, AllPairs}
use Rattle.std.specs.List.{All}
use Rattle.std.proofs.lemmas.List.{take_more, length-map}
use Rattle.std.proofs.lemmas.List.Elements.{All-nil, All-cons, All-weaker}
use Rattle.std.proofs.lemmas.List.Kept.{AllPairs-cons}
use Rattle.std.proofs.lemmas.Option.{slice_get-map, slice_get-get_or}
use Rattle.memory_map.specs.declared.map.Room.{Room}
use Rattle.memory_map.specs.declared.map.Room.TheVariants.{Small, Large}
use Rattle.debug_records.specs.Change.{letters}
use Rattle.debug_records.specs.declared.change.PassName.{PassName}
use Rattle.graph_core.specs.declared.unit.Unit as unit
use Rattle.graph_core.specs.Graphs.{UnitForm, unit_view}
use Rattle.pass_law.specs.Keeps.{Keeps}
use Rattle.graph_core.specs.WellMarked.{AreWellMarked}
use Rattle.pass_law.proofs.Inversions.{some_same}
use Rattle.pass_law.proofs.Keeping.{keeps_itself, keeps_through}
use Rattle.pass_law.proofs.Shape.{shape_itself, shape_twice}
use Rattle.pass_law.specs.Kept.{KeepsShape}
use Rattle.pass_law.specs.Logs.{most_changes, LogsWell}
use Rattle.pass_law.specs.Relations.{PassRelation}
use Rattle.pass_law.specs.HandedIn.{IsNoPass}
use Rattle.pass_law.specs.Leading.{IsFirst, IsLawfulStep, Lead}
use Rattle.pass_law.specs.Trails.{IsTrail, OfLast, ends, goes_on}
use Rattle.pass_law.proofs.Leading.{first_is_some, lead_on}

-- by one more pass the log has no more changes than one more pass may log
pub few_more : (r : Room) (changes added passes : ℕ) → changes ≤ most_changes r * passes → added ≤ most_changes r → changes + added ≤ most_changes r * (passes + 1)
few_more Small changes added passes few more = let most : changes ≤ 100000 * passes = few in let last : added ≤ 100000 = more in omega arith
few_more Large changes added passes few more = let most : changes ≤ 1000000 * passes = few in let last : added ≤ 1000000 = more in omega arith

-- behind fewer than 32 passes there is room for more changes
pub room_left : (r : Room) (changes passes : ℕ) → changes ≤ most_changes r * passes → passes < 32 → changes < 2 ^ 31
room_left Small changes passes few below = let most : changes ≤ 100000 * passes = few in omega arith
room_left Large changes passes few below = let most : changes ≤ 1000000 * passes = few in omega arith

-- so it is with what a step of a pass logs, in a unit of the room of the first
pub few_all : (u v w : UnitForm) (pass : PassName) (passes : ℕ) → v.room ≡ u.room → length v.log ≤ most_changes u.room * passes → LogsWell pass v w → length w.log ≤ most_changes u.room * (passes + 1)
few_all u v w pass passes room few logs =
    let more : length w.log ≡ length v.log + length logs.added = ap length logs.log ∙ length-append v.log logs.added in
    subst (λ n. n ≤ most_changes u.room * (passes + 1)) (sym more) (few_more u.room (length v.log) (length logs.added) passes few (subst (λ r. length logs.added ≤ most_changes r) room logs.few))

-- one more of the names is one longer
pub one_longer : {A : Type 0} (names : List A) (i : ℕ) → i < length names → length (take i names) + 1 ≡ length (take (i + 1) names)
one_longer names i within =
    let now : length (take i names) ≡ i = simp length-take (omega arith) in
    let then : length (take (i + 1) names) ≡ i + 1 = simp length-take (omega arith) in
    omega (arith, now, then)

module _ {P : Type 0} (named : P → PassName) (steps : P → PassRelation) (passes : List P) (first : UnitForm) where
  -- What a unit is known to be after the passes of these names.
  pub record IsAfter (names : List PassName) (u : UnitForm) : Type 0 where
    pub kept : KeepsShape first u
    pub led : Lead named (λ p. (steps p).leads) passes (map letters names) first u
    pub lawful : Lead named (λ p. IsLawfulStep (named p) (steps p).leads) passes (map letters names) first u
    pub keeps : Keeps first u
    pub few : length u.log ≤ most_changes first.room * length names

  -- a unit without changes is so after no pass
  pub after_none : AreWellMarked first → first.log ≡ [] → IsAfter [] first
  after_none marked unchanged = record {
    kept = shape_itself first;
    led = refl;
    lawful = refl;
    keeps = keeps_itself first marked;
    few = let none : length first.log ≡ 0 = ap length unchanged in omega (arith, none);
  }

  -- after fewer than 32 passes there is room for what one more logs
  pub after_room : (names : List PassName) (i : ℕ) (u : UnitForm) → i < length names → length names ≤ 32 → IsAfter (take i names) u → length u.log < 2 ^ 31
  after_room names i u within few after =
      let count : length (take i names) ≡ i = simp length-take (omega arith) in
      room_left first.room (length u.log) (length (take i names)) after.few (omega (arith, few, within, count))

  -- so it is with what a lawful step of the pass of one more name makes
  pub after_more : (names : List PassName) (i : ℕ) (d : PassName) (p : P) (u v : UnitForm) → i < length names → IsFirst named (letters (get_or names i d)) p passes
      → IsAfter (take i names) u → KeepsShape u v → (steps p).leads u v → LogsWell (named p) u v → IsAfter (take (i + 1) names) v
  after_more names i d p u v within found after kept step logs =
      let keeps = (steps p).keeps u v step in
      record {
        kept = shape_twice first u v after.kept kept;
        led = lead_on named (λ q. (steps q).leads) passes names i d p first u v within after.led found step;
        lawful = lead_on named (λ q. IsLawfulStep (named q) (steps q).leads) passes names i d p first u v within after.lawful found (record { step = step; keeps = keeps; logs = logs });
        keeps = keeps_through first u v after.keeps keeps;
        few = subst (λ n. length v.log ≤ most_changes first.room * n) (one_longer names i within)
            (few_all first u v (named p) (length (take i names)) after.keeps.program.room after.few logs);
      }

module _ {P : Type 0} (named : P → PassName) (steps : P → PassRelation) (passes : List P) where
  -- the first unit is kept by all behind it
  kept_by_all : (u : UnitForm) (names : List PassName) (units : List UnitForm) → IsTrail named steps passes names (u ∷ units) → All (Keeps u) units
  kept_by_all u [] [] ends = All-nil (Keeps u)
  kept_by_all u [] (v ∷ units) trail = elim trail [ ]
  kept_by_all u (name ∷ names) [] trail = elim trail [ ]
  kept_by_all u (name ∷ names) (v ∷ units) (goes_on p first step trail) =
      let kept = (steps p).keeps u v step in
      All-cons (Keeps u) v units kept (All-weaker (Keeps v) (Keeps u) (λ w keeps. keeps_through u v w kept keeps) units (kept_by_all v names units trail))

  pub keeps_all : (names : List PassName) (units : List UnitForm) → IsTrail named steps passes names units → AllPairs Keeps units
  keeps_all names [] trail = λ i j d below within. absurd (omega arith)
  keeps_all [] (u ∷ []) ends = AllPairs-cons Keeps u [] (All-nil (Keeps u)) (λ i j d below within. absurd (omega arith))
  keeps_all [] (u ∷ v ∷ units) trail = elim trail [ ]
  keeps_all (name ∷ names) (u ∷ []) trail = elim trail [ ]
  keeps_all (name ∷ names) (u ∷ v ∷ units) (goes_on p first step trail) =
      AllPairs-cons Keeps u (v ∷ units) (kept_by_all u (name ∷ names) (v ∷ units) (goes_on p first step trail)) (keeps_all names (v ∷ units) trail)

  -- a trail goes on by one more step
  trail_more : (names : List PassName) (units : List UnitForm) (name : PassName) (p : P) (u v : UnitForm) → IsTrail named steps passes names units → slice_get units (length names) ≡ Some u → IsFirst named (letters name) p passes → (steps p).leads u v → IsTrail named steps passes (names ++ name ∷ []) (units ++ v ∷ [])
  trail_more [] [] name p u v trail at first step = elim trail [ ]
  trail_more [] (w ∷ x ∷ units) name p u v trail at first step = elim trail [ ]
  trail_more (other ∷ names) [] name p u v trail at first step = elim trail [ ]
  trail_more (other ∷ names) (w ∷ []) name p u v trail at first step = elim trail [ ]
  trail_more [] (w ∷ []) name p u v ends at first step =
      let same : u ≡ w = cc in goes_on p first (subst (λ x. (steps p).leads x v) same step) ends
  trail_more (other ∷ names) (w ∷ x ∷ units) name p u v (goes_on q found taken trail) at first step = goes_on q found taken (trail_more names (x ∷ units) name p u v trail at first step)

  pub trail_step : (names : List PassName) (units : List UnitForm) (i : ℕ) (d : PassName) (p : P) (u v : UnitForm) → i < length names → IsTrail named steps passes (take i names) units → slice_get units i ≡ Some u → IsFirst named (letters (get_or names i d)) p passes → (steps p).leads u v → IsTrail named steps passes (take (i + 1) names) (units ++ v ∷ [])
  trail_step names units i d p u v within trail at first step =
      let count : length (take i names) ≡ i = simp length-take (omega arith) in
      let here : slice_get units (length (take i names)) ≡ Some u = ap (slice_get units) count ∙ at in
      subst (λ all. IsTrail named steps passes all (units ++ v ∷ [])) (sym (take_more names i d within)) (trail_more (take i names) units (get_or names i d) p u v trail here first step)

  -- a name that has a pass is some pass's
  pub known_more : (names : List PassName) (i : ℕ) (d : PassName) (p : P) → i < length names → IsFirst named (letters (get_or names i d)) p passes → ((k : ℕ) → k < i → (name : PassName) → slice_get names k ≡ Some name → IsNoPass named passes (letters name) → ⊥) → (k : ℕ) → k < i + 1 → (name : PassName) → slice_get names k ≡ Some name → IsNoPass named passes (letters name) → ⊥
  known_more names i d p within first known =
      let IsKnown : ℕ → Type 0 = λ k. (name : PassName) → slice_get names k ≡ Some name → IsNoPass named passes (letters name) → ⊥ in
      below_more IsKnown i known
      (λ name at none.
      let same : get_or names i d ≡ name = some_same (sym (slice_get-get_or names i d within) ∙ at) in
      first_is_some named (letters name) passes p (subst (λ n. IsFirst named (letters n) p passes) same first) none)

-- the first unit stays the first
pub first_stays : (units : List UnitForm) (u v : UnitForm) → slice_get units 0 ≡ Some u → slice_get (units ++ v ∷ []) 0 ≡ Some u
first_stays [] u v is = cc
first_stays (w ∷ units) u v is = is

-- what the unit at an index looks like
pub unit_at : (units : List unit.Unit) (i : ℕ) (u : unit.Unit) → i < length units → u ≡ get_or units i u → slice_get (map unit_view units) i ≡ Some (unit_view u)
unit_at units i u within is = slice_get-map unit_view units i ∙ ap (option_map unit_view) (slice_get-get_or units i u within ∙ ap Some (sym is))

-- the last unit, behind one more
last_is : (units : List UnitForm) (v : UnitForm) (i : ℕ) → length units ≡ i → slice_get (units ++ v ∷ []) i ≡ Some v
last_is [] v i count = let none : i ≡ 0 = omega arith in subst (λ k. slice_get (v ∷ []) k ≡ Some v) (sym none) refl
last_is (u ∷ units) v zero count = absurd (omega arith)
last_is (u ∷ units) v (suc i) count = last_is units v i (omega arith)

-- an index within a list has an element
there : (P : UnitForm → Type 0) (units : List UnitForm) (i : ℕ) → i < length units → ((u : UnitForm) → slice_get units i ≡ Some u → P u) → OfLast units i P
there P [] i within said = absurd (omega arith)
there P (u ∷ units) zero within said = said u refl
there P (u ∷ units) (suc i) within said = there P units i (omega arith) said

-- behind one more unit all that is said of the last one is said of it
pub push_last : (P : UnitForm → Type 0) (units : List unit.Unit) (v : unit.Unit) (i : ℕ) → length units ≡ i → P (unit_view v) → (w : UnitForm) → slice_get (map unit_view units ++ unit_view v ∷ []) i ≡ Some w → P w
push_last P units v i count holds w at =
    let last = last_is (map unit_view units) (unit_view v) i (length-map units unit_view ∙ count) in
    let same : unit_view v ≡ w = some_same (sym last ∙ at) in
    subst P same holds

-- what is said of the unit at an index is said of one that is there
pub of_last : (P : UnitForm → Type 0) (units : List unit.Unit) (i : ℕ) → i < length units → ((u : UnitForm) → slice_get (map unit_view units) i ≡ Some u → P u) → OfLast (map unit_view units) i P
of_last P units i within said = there P (map unit_view units) i (simp length-map within) said
