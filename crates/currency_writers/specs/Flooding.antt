-- How far ways lead through a flow that pass no blocked place.
use Rattle.std.specs.Prelude.{◌≡◌, ◌≢◌, ◌⊎◌, ℕ, ◌<◌, ◌≤◌, Bool, true, false, is_some, List, ◌++◌, Contains, IsSomeAnd, None, Some}
use Rattle.places.specs.Flow.{can_go}
use Rattle.currency_writers.specs.declared.marks.Marks as declared-marks
use Rattle.currency_writers.specs.declared.ways.Ways as declared-ways
use Rattle.currency_writers.specs.Flow.{AreFollowing}
use Rattle.currency_writers.specs.Marks.{mark_at, room_of}
use Rattle.currency_writers.specs.Ways.{Comes}

module _ (w : declared-ways.Ways) where
  -- no way passes this place between its ends
  abbrev pub is_blocked : (p : ℕ) → Bool
  is_blocked p = is_some (mark_at w.blocked.now p)

  -- A way leads from a place to another one.
  abbrev pub LeadsTo : (from p : ℕ) → Type 0
  LeadsTo from p = Comes w.steps.now (λ q. is_blocked q) from p

  -- The lists are those of the steps, and these lead from places that may be marked to such.
  pub record AreWays : Type 0 where
    pub after : AreFollowing w.steps.now w.after.now
    pub from : (p q : ℕ) → can_go w.steps.now p q ≡ true → p < room_of w.blocked.now
    pub to : (p q : ℕ) → can_go w.steps.now p q ≡ true → q < room_of w.blocked.now

  -- Each place that may be blocked may be marked here too.
  abbrev pub HasRoomFor : {T : Type 0} → declared-marks.Marks T → Type 0
  HasRoomFor told = room_of w.blocked.now ≤ room_of told

  -- A way may be gone on from a place: it is the one from which the ways begin, or they lead to it and it is not
  -- blocked.
  abbrev pub IsBefore : (from q : ℕ) → Type 0
  IsBefore from q = (q ≡ from) ⊎ (LeadsTo from q × (is_blocked q ≡ false))

  -- Places keep what they were marked with; or they were not marked, are so with this, and a way leads to them.
  abbrev pub IsReachedFrom : {T : Type 0} → (from : ℕ) (value : T) (old new : declared-marks.Marks T) → Type 0
  IsReachedFrom from value old new =
      (p : ℕ)
      → (mark_at new p ≡ mark_at old p) ⊎ ((mark_at old p ≡ None) × (mark_at new p ≡ Some value) × LeadsTo from p)

  -- Each place to which a way leads from a place is marked.
  abbrev pub AreReached : {T : Type 0} → (from : ℕ) → declared-marks.Marks T → Type 0
  AreReached from told = (p : ℕ) → LeadsTo from p → mark_at told p ≢ None

  -- Each place to which a step leads from a place is marked.
  abbrev pub AreNextReached : {T : Type 0} → (from : ℕ) → declared-marks.Marks T → Type 0
  AreNextReached from told = (p : ℕ) → can_go w.steps.now from p ≡ true → mark_at told p ≢ None

  -- From a place that is marked and not blocked steps lead to such alone as are marked.
  abbrev pub IsShut : {T : Type 0} → declared-marks.Marks T → Type 0
  IsShut told = (q : ℕ) → mark_at told q ≢ None → is_blocked q ≡ false → AreNextReached q told

  -- Places to go on from were added behind the others: all that were marked and are not blocked are among them.
  pub record AreMoreBefore {T : Type 0} (old new : declared-marks.Marks T) (before after : List ℕ) : Type 0 where
    pub rest : List ℕ
    pub is : after ≡ before ++ rest
    pub all : (p : ℕ) → mark_at old p ≡ None → mark_at new p ≢ None → is_blocked p ≡ false → Contains after p

  -- A place that is marked is so with one of these, from which a way leads there.
  abbrev pub AreStartsOf : (from : List ℕ) → declared-marks.Marks ℕ → Type 0
  AreStartsOf from starts = (p start : ℕ) → mark_at starts p ≡ Some start → Contains from start × LeadsTo start p

  -- Each place to which a way leads from one of these is marked, and not with one above that.
  abbrev pub AreLeastOf : (from : List ℕ) → declared-marks.Marks ℕ → Type 0
  AreLeastOf from starts =
      (start p : ℕ) → Contains from start → LeadsTo start p → IsSomeAnd (mark_at starts p) (λ least. least ≤ start)
