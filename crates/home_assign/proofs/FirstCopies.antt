-- The first copies, as one more is met.
use Rattle.std.proofs.Common.{◌≡◌, ℕ, ◌≤◌, ◌==◌, ◌&&◌, ◌||◌, ◌⊎◌, inl, inr, Bool, true, false, true≢false, Option, Some, None, List, [], ◌∷◌, length, map, take, drop, get_or, ◌-◌, ◌<◌, sym, ap, ◌∙◌, refl, subst, arith}
use Rattle.std.specs.Prelude.{if◌then◌else◌, is_some}
use Rattle.std.proofs.lemmas.Bool.{and_from, and_parts, cond-true, eq-eqb, eqb-true, or_cases, or_left, or_right}
use Rattle.std.proofs.lemmas.Option.{same_Some, none-some}
use Rattle.graph_core.specs.Graphs.{Name, Constant, StaticAddress, Instruction, Marker, Note, Move, Operate, Truncate, Same, Address, Load, Store, Zero, CopyWords, Call, Block}
use Rattle.graph_core.specs.Points.{is_place}
use Rattle.graph_core.specs.Validity.{place_behind}
use Rattle.graph_homes.specs.Reused.{first_among, first_copy, one_or_other}
use Rattle.home_assign.specs.declared.copies.Copies.{Copies}
use Rattle.home_assign.specs.Copies.{AreCopies, AreSoFar, IsOwn, copy_at}
use Rattle.home_assign.specs.Pairs.{has}
use Rattle.base_laws.proofs.Lists.{rest_is}

pub or_else_twice : {A : Type 0} (a b c : Option A) → one_or_other (one_or_other a b) c ≡ one_or_other a (one_or_other b c)
or_else_twice None b c = refl
or_else_twice (Some x) b c = refl

some_or_else : {A : Type 0} (a b : Option A) → is_some (one_or_other a b) ≡ (is_some a || is_some b)
some_or_else None b = refl
some_or_else (Some x) b = refl

choose_or_else : (b : Bool) (m : ℕ) (o : Option ℕ) → (if b then Some m else o) ≡ one_or_other (if b then Some m else None) o
choose_or_else true m o = refl
choose_or_else false m o = refl

-- the first copy among instructions, by the first of them and the others
pub first_split : (p x : ℕ) (place : Option ℕ) (i : Instruction) (more : List Instruction) → first_among p x place (i ∷ more) ≡ one_or_other (first_among p x place (i ∷ [])) (first_among p x (place_behind (i ∷ []) place) more)
first_split p x place (Marker q) more = refl
first_split p x place (Note y v) more = refl
first_split p x place (Move y (Name m)) more = choose_or_else (is_place p place && y == x) m (first_among p x place more)
first_split p x place (Move y (Constant w)) more = refl
first_split p x place (Move y (StaticAddress object offset)) more = refl
first_split p x place (Operate y o a b) more = refl
first_split p x place (Truncate y t a) more = refl
first_split p x place (Same y a b) more = refl
first_split p x place (Address y object) more = refl
first_split p x place (Load y e l) more = refl
first_split p x place (Store e l a) more = refl
first_split p x place (Zero object words) more = refl
first_split p x place (CopyWords object bytes words) more = refl
first_split p x place (Call y f all) more = refl

module _ (moved : ℕ → ℕ → Bool) (scalars : ℕ) where
  -- the rest in other words
  pub so_far_same : (rest other whole : ℕ → ℕ → Option ℕ) (c : Copies) → ((p x : ℕ) → rest p x ≡ other p x) → AreSoFar moved scalars rest whole c → AreSoFar moved scalars other whole c
  so_far_same rest other whole c same so = record { first = so.first; are = so.are; all = λ p x. ap (one_or_other (so.first p x)) (sym (same p x)) ∙ so.all p x }

  module _ (place to from : ℕ) (old new : Copies) (rest whole : ℕ → ℕ → Option ℕ)
      (so : AreSoFar moved scalars (λ p x. one_or_other (copy_at place to from p x) (rest p x)) whole old) (met : (p x : ℕ) → has new.seen p x ≡ (has old.seen p x || ((place == p) && (to == x)))) where
    abbrev joint : ℕ → ℕ → Option ℕ
    joint p x = one_or_other (so.first p x) (copy_at place to from p x)

    copy_seen : (b : Bool) → is_some (if b then Some from else None) ≡ b
    copy_seen true = refl
    copy_seen false = refl

    seen_joint : (p x : ℕ) → has new.seen p x ≡ is_some (joint p x)
    seen_joint p x = met p x ∙ ap (λ b. b || ((place == p) && (to == x))) (so.are.seen p x) ∙ ap (λ b. is_some (so.first p x) || b) (sym (copy_seen ((place == p) && (to == x)))) ∙ sym (some_or_else (so.first p x) (copy_at place to from p x))

    copied : (b : Bool) (y : ℕ) → (if b then Some from else None) ≡ Some y → (b ≡ true) × (from ≡ y)
    copied true y e = (refl, same_Some from y e)
    copied false y e = absurd (none-some y e)

    abbrev Here : (p x y : ℕ) → Type 0
    Here p x y = (so.first p x ≡ None) × (place ≡ p) × (to ≡ x) × (from ≡ y)

    here_or : (o : Option ℕ) (p x y : ℕ) → o ≡ so.first p x → one_or_other o (copy_at place to from p x) ≡ Some y → (so.first p x ≡ Some y) ⊎ Here p x y
    here_or (Some z) p x y is e = inl (sym is ∙ e)
    here_or None p x y is e =
        let both = copied ((place == p) && (to == x)) y e in
        let two = and_parts (place == p) (to == x) both.0 in
        inr (sym is, eqb-true place p two.0, eqb-true to x two.1, both.1)

    joint_cases : (p x y : ℕ) → joint p x ≡ Some y → (so.first p x ≡ Some y) ⊎ Here p x y
    joint_cases p x y e = here_or (so.first p x) p x y refl e

    joint_still : (p x y : ℕ) → so.first p x ≡ Some y → joint p x ≡ Some y
    joint_still p x y e = ap (λ o. one_or_other o (copy_at place to from p x)) e

    joint_all : (p x : ℕ) → one_or_other (joint p x) (rest p x) ≡ whole p x
    joint_all p x = or_else_twice (so.first p x) (copy_at place to from p x) (rest p x) ∙ so.all p x

    own_still : (x y : ℕ) → IsOwn moved scalars so.first x y → IsOwn moved scalars joint x y
    own_still x y own = record { place = own.place; copied = joint_still own.place x y own.copied; moved_away = own.moved_away; temporary = own.temporary }

    -- the copy is the first in its place to its name, and of a temporary of a moved computation
    pub so_far_own : has old.seen place to ≡ false → scalars ≤ from → moved to place ≡ true → ((x y : ℕ) → has new.own x y ≡ (has old.own x y || ((to == x) && (from == y)))) → AreSoFar moved scalars rest whole new
    so_far_own unseen temporary away more = record {
      first = joint;
      are = record {
        seen = seen_joint;
        own = λ x y. (
          (λ t. elim (or_cases (has old.own x y) ((to == x) && (from == y)) (sym (more x y) ∙ t)) [
            | inl before ↦ own_still x y ((so.are.own x y).0 before)
            | inr now ↦
                let both = and_parts (to == x) (from == y) now in
                let P : ℕ → ℕ → Type 0 = λ z w. IsOwn moved scalars joint z w in
                let here : P to from = record { place = place; copied = first_here; moved_away = away; temporary = temporary } in
                subst (λ w. P x w) (eqb-true from y both.1) (subst (λ z. P z from) (eqb-true to x both.0) here)
          ]),
          (λ own. more x y ∙ elim (joint_cases own.place x y own.copied) [
            | inl before ↦ or_left (has old.own x y) ((to == x) && (from == y)) ((so.are.own x y).1 (record { place = own.place; copied = before; moved_away = own.moved_away; temporary = own.temporary }))
            | inr here ↦ or_right (has old.own x y) ((to == x) && (from == y)) (and_from (to == x) (from == y) (eq-eqb to x here.2) (eq-eqb from y here.3))
          ]),
        );
      };
      all = joint_all;
    }
      where
        is_none : (o : Option ℕ) → is_some o ≡ false → o ≡ None
        is_none None e = refl
        is_none (Some z) e = absurd (true≢false e)

        first_here : joint place to ≡ Some from
        first_here =
            ap (λ o. one_or_other o (copy_at place to from place to)) (is_none (so.first place to) (sym (so.are.seen place to) ∙ unseen))
            ∙ cond-true ((place == place) && (to == to)) (Some from) None (and_from (place == place) (to == to) (eq-eqb place place refl) (eq-eqb to to refl))

    -- it is not
    pub so_far_other : ((has old.seen place to ≡ false) → scalars ≤ from → moved to place ≡ true → ⊥) → ((x y : ℕ) → has new.own x y ≡ has old.own x y) → AreSoFar moved scalars rest whole new
    so_far_other never same = record {
      first = joint;
      are = record {
        seen = seen_joint;
        own = λ x y. (
          (λ t. own_still x y ((so.are.own x y).0 (sym (same x y) ∙ t))),
          (λ own. same x y ∙ elim (joint_cases own.place x y own.copied) [
            | inl before ↦ (so.are.own x y).1 (record { place = own.place; copied = before; moved_away = own.moved_away; temporary = own.temporary })
            | inr here ↦ absurd (never (so.are.seen place to ∙ ap is_some (ap (λ q. so.first q to) here.1 ∙ ap (so.first own.place) here.2 ∙ here.0)) (omega (arith, own.temporary, here.3)) (ap (moved to) here.1 ∙ ap (λ z. moved z own.place) here.2 ∙ own.moved_away))
          ]),
        );
      };
      all = joint_all;
    }

-- before the first copy
pub so_far_none : (moved : ℕ → ℕ → Bool) (scalars : ℕ) (whole : ℕ → ℕ → Option ℕ) (c : Copies) → ((p x : ℕ) → has c.seen p x ≡ false) → ((x y : ℕ) → has c.own x y ≡ false) → AreSoFar moved scalars whole whole c
so_far_none moved scalars whole c unseen none = record {
  first = λ p x. None;
  are = record { seen = unseen; own = λ x y. ((λ t. absurd (true≢false (sym t ∙ none x y))), (λ own. absurd (none-some y own.copied))) };
  all = λ p x. refl;
}

-- ---- Instruction by instruction, and block by block

pub among_next : {A : Type 0} (view : A → Instruction) (left : List A) (i d : A) → 1 ≤ length left → i ≡ get_or left 0 d → (place : Option ℕ) (p x : ℕ)
    → first_among p x place (map view left) ≡ one_or_other (first_among p x place (view i ∷ [])) (first_among p x (place_behind (view i ∷ []) place) (map view (take (length left - 1) (drop 1 left))))
among_next view [] i d le e place p x = absurd (omega arith)
among_next {A = A} view (j ∷ left) i d le e place p x =
    let P : A → List A → Type 0 = λ k more. first_among p x place (view j ∷ map view left) ≡ one_or_other (first_among p x place (view k ∷ [])) (first_among p x (place_behind (view k ∷ []) place) (map view more)) in
    subst (λ more. P i more) (sym (rest_is j left)) (subst (λ k. P k left) (sym e) (first_split p x place (view j) (map view left)))

pub among_none : {A : Type 0} (view : A → Instruction) (left : List A) → length left < 1 → (place : Option ℕ) (p x : ℕ) → first_among p x place (map view left) ≡ None
among_none view [] lt place p x = refl
among_none view (j ∷ left) lt place p x = absurd (omega arith)
