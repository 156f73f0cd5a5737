-- The first copies to names in places, and which of them are of temporaries that stand for moved computations.
use Rattle.std.specs.Prelude.{◌≡◌, ◌↔◌, ◌≤◌, ◌==◌, ◌&&◌, ℕ, Bool, true, if◌then◌else◌, Option, Some, None, is_some}
use Rattle.graph_homes.specs.Reused.{one_or_other}
use Rattle.home_assign.specs.declared.copies.Copies.{Copies}
use Rattle.home_assign.specs.Pairs.{has}

-- one copy, in a place
abbrev pub copy_at : (place to from : ℕ) → (p x : ℕ) → Option ℕ
copy_at place to from p x = if place == p && to == x then Some from else None

-- moved: which scalars' computations were moved away from which places. first: of which name the first copy in a place
-- to a name is.
module _ (moved : (scalar place : ℕ) → Bool) (scalars : ℕ) where
  -- A name is a temporary of a scalar's moved computation: the first copy to the scalar in a place from which one was
  -- moved away is of it.
  pub record IsOwn (first : (place x : ℕ) → Option ℕ) (x y : ℕ) : Type 0 where
    pub place : ℕ
    pub copied : first place x ≡ Some y
    pub moved_away : moved x place ≡ true
    pub temporary : scalars ≤ y

  -- it is known of the copies that were met which name each place has a first one to, and which temporaries scalars
  -- have by them
  pub record AreCopies (first : (place x : ℕ) → Option ℕ) (copies : Copies) : Type 0 where
    pub seen : (p x : ℕ) → has copies.seen p x ≡ is_some (first p x)
    pub own : (x y : ℕ) → (has copies.own x y ≡ true) ↔ IsOwn first x y

  -- It is known of those that were met, which together with the rest are the whole.
  pub record AreSoFar (rest whole : (place x : ℕ) → Option ℕ) (copies : Copies) : Type 0 where
    pub first : (place x : ℕ) → Option ℕ
    pub are : AreCopies first copies
    pub all : (p x : ℕ) → one_or_other (first p x) (rest p x) ≡ whole p x
