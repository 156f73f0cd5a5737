-- The home that is chosen is the one by the rule.
use Rattle.std.proofs.Common.{◌≡◌, ℕ, zero, suc, ◌+◌, ◌<◌, ◌≤◌, ◌==◌, ◌&&◌, ◌||◌, take, length-append, ◌⊎◌, inl, inr, true, false, true≢false, Option, Some, None, List, [], ◌∷◌, ◌++◌, length, sym, ap, ◌∙◌, refl, subst, arith}
use Rattle.std.specs.Prelude.{◌≢◌, IfSome, slice_get}
use Rattle.std.specs.List.{AllByRecursion}
use Rattle.std.proofs.Math.Seq.{take-length}
use Rattle.std.proofs.lemmas.Bool.{false_from_ne_true, cases_lt, or_cases, or_left, or_right, and_parts, and_from, eq-eqb, eqb-true}
use Rattle.std.proofs.lemmas.List.{take-append-le}
use Rattle.std.proofs.lemmas.Option.{same_Some, slice_get_within}
use Rattle.graph_core.specs.Graphs.{Graph}
use Rattle.graph_homes.specs.declared.home.Home.{Home}
use Rattle.graph_homes.specs.declared.home.Home.TheVariants.{Register, Slot}
use Rattle.graph_homes.specs.Frames.{home_registers}
use Rattle.graph_homes.specs.Homed.{IsHomeAmong}
use Rattle.home_assign.specs.declared.registers.Interference.{Interference}
use Rattle.home_assign.specs.Joins.{IsFirst, IsFirstJoined}
use Rattle.home_assign.specs.Registers.{AreClashesOf, HaveSameClashes, HaveSameRegisters, IsFreeFor, clashes, has}
use Rattle.home_assign.proofs.Tables.{past_clear}
use Rattle.home_assign.specs.Choosing.{HasRegister, HaveHomeRegisters, IsChosen, wished, first, none, IsWished}
use Rattle.home_assign.specs.Rule.{IsFree, IsHome, IsSharable, joined, slot, slot_in, slots_in}
use Rattle.home_assign.specs.Rule as rule
use Rattle.home_assign.proofs.Numbers.{all_at, number_of_home, number_same}

-- the earliest name to which a name is joined is the one that is told
which : (g : Graph) (x : ℕ) (o : Option ℕ) → IsFirst g x o → (y : ℕ) → IsFirstJoined g x y → o ≡ Some y
which g x None is y first_one = absurd (is y first_one.earlier_one first_one.joined)
which g x (Some z) is y first_one = ap (λ k. Some k) (omega (arith, is.first y first_one.earlier_one first_one.joined, first_one.first z is.earlier_one is.joined))

module _ (g : Graph) (all : Interference) (homes : List Home) (x : ℕ) (right : AreClashesOf g all) (have : HaveHomeRegisters all homes) (size : x ≡ length homes) (within : x < all.names) where
  named : x < g.name_count
  named = omega (arith, within, right.count)

  small : (y : ℕ) (h : Home) → slice_get homes y ≡ Some h → y < x
  small y h is = omega (arith, size, slice_get_within homes y h is)

  free_there : (k r : ℕ) → slice_get home_registers k ≡ Some r → IsFreeFor all k x → IsFree g homes x r
  free_there k r at free y is pair =
      let both = free y ((have k r y at).1 is) in
      let lt : y < g.name_count = omega (arith, small y (Register r) is, named) in
      elim pair.1 [
        | inl c ↦ true≢false (sym ((right.right x y named lt).1 c) ∙ both.0)
        | inr c ↦ true≢false (sym ((right.right y x lt named).1 c) ∙ both.1)
      ]

  free_back : (k r : ℕ) → slice_get home_registers k ≡ Some r → IsFree g homes x r → IsFreeFor all k x
  free_back k r at free y has_it =
      let is : slice_get homes y ≡ Some (Register r) = (have k r y at).0 has_it in
      let less : y < x = small y (Register r) is in
      let lt : y < g.name_count = omega (arith, less, named) in
      let ne : x ≢ y = λ e. omega (arith, less, e) in (
        false_from_ne_true (clashes all x y) (λ t. free y is (ne, inl ((right.right x y named lt).0 t))),
        false_from_ne_true (clashes all y x) (λ t. free y is (ne, inr ((right.right y x lt named).0 t))),
      )

  module _ (o : Option ℕ) (told : IsFirst g x o) (among : AllByRecursion (IsHomeAmong (length homes)) homes) where
    abbrev Wished : ℕ → Type 0
    Wished k = IsWished homes o k

    abbrev Free : ℕ → Type 0
    Free k = IsFreeFor all k x

    not_sharable : ((k : ℕ) → Wished k → Free k → ⊥) → IsSharable g homes x → ⊥
    not_sharable never (y, r, first_one, is, free) =
        let number = number_of_home r (all_at (IsHomeAmong (length homes)) homes y (Register r) among is) in
        never number.0 (y, which g x o told y first_one, (r, number.1, is)) (free_back number.0 r number.1 free)

    abbrev Concludes : Option ℕ → Type 0
    Concludes (Some k) = (r : ℕ) → slice_get home_registers k ≡ Some r → IsHome g homes x (Register r)
    Concludes None = IsHome g homes x (Slot (slots_in homes))

    first_of : (y : ℕ) → o ≡ Some y → IsFirstJoined g x y
    first_of y e = (let P : Option ℕ → Type 0 = λ p. IsFirst g x p in subst P e told)

    -- what is chosen gives the home by the rule
    pub concluded : {c : Option ℕ} → IsChosen (IsWished homes o) (λ k. IsFreeFor all k x) c → Concludes c
    concluded (wished {k} w f) = λ r at.
        let same : w.2.0 ≡ r = same_Some w.2.0 r (sym w.2.1 ∙ at) in
        joined (first_of w.0 w.1) (subst (λ q. slice_get homes w.0 ≡ Some (Register q)) same w.2.2) (free_there k r at f)
    concluded (first {k} never f before) = λ r at. rule.first (not_sharable never) at (free_there k r at f) (λ j q lt is free. before j lt (free_back j q is free))
    concluded (none never nowhere) = slot (not_sharable never) (λ j q is free. nowhere j (slice_get_within home_registers j q is) (free_back j q is free))

-- the same names clash
pub still_clashes : (g : Graph) (a b : Interference) → HaveSameClashes a b → AreClashesOf g a → AreClashesOf g b
still_clashes g a b same right = record {
  count = same.count ∙ right.count;
  right = λ x y p q. (
    (λ t. (right.right x y p q).0 (sym (same.same x y (omega (arith, p, right.count))) ∙ t)),
    (λ c. same.same x y (omega (arith, p, right.count)) ∙ (right.right x y p q).1 c),
  );
}

-- ---- One home more

put_before : (homes : List Home) (home : Home) (y : ℕ) → y < length homes → slice_get (homes ++ home ∷ []) y ≡ slice_get homes y
put_before [] home y lt = absurd (omega (arith, lt))
put_before (k ∷ homes) home zero lt = refl
put_before (k ∷ homes) home (suc y) lt = put_before homes home y (omega (arith, lt))

put_there : (homes : List Home) (home : Home) → slice_get (homes ++ home ∷ []) (length homes) ≡ Some home
put_there [] home = refl
put_there (k ∷ homes) home = put_there homes home

-- what stands at a place among homes with one more
put_cases : (homes : List Home) (home : Home) (y : ℕ) (k : Home) → slice_get (homes ++ home ∷ []) y ≡ Some k → ((y < length homes) × (slice_get homes y ≡ Some k)) ⊎ ((y ≡ length homes) × (home ≡ k))
put_cases homes home y k is = elim (cases_lt y (length homes)) [
  | inl lt ↦ inl (lt, sym (put_before homes home y lt) ∙ is)
  | inr ge ↦
      let e : y ≡ length homes = omega (arith, ge, slice_get_within (homes ++ home ∷ []) y k is, length-append homes (home ∷ [])) in
      inr (e, same_Some home k (sym (put_there homes home) ∙ ap (slice_get (homes ++ home ∷ [])) (sym e) ∙ is))
]

pub slots_put : (homes : List Home) (home : Home) → slots_in (homes ++ home ∷ []) ≡ slots_in homes + slot_in home
slots_put [] home = omega arith
slots_put (k ∷ homes) home = (let h = slots_put homes home in omega (arith, h))

pub slots_few : (homes : List Home) → slots_in homes ≤ length homes
slots_few [] = omega arith
slots_few (Register r ∷ homes) = (let h = slots_few homes in omega (arith, h))
slots_few (Slot m ∷ homes) = (let h = slots_few homes in omega (arith, h))

pub same_then : (a b c : Interference) → HaveSameClashes a b → HaveSameClashes b c → HaveSameClashes a c
same_then a b c one two = record { count = two.count ∙ one.count; same = λ x y lt. two.same x y (omega (arith, lt, one.count)) ∙ one.same x y lt }

pub registers_same : (a b : Interference) (homes : List Home) → HaveSameRegisters a b → HaveHomeRegisters a homes → HaveHomeRegisters b homes
registers_same a b homes same have k r y at =
    let e = same k y (slice_get_within home_registers k r at) in
    ((λ t. (have k r y at).0 (sym e ∙ t)), (λ is. e ∙ (have k r y at).1 is))

-- a name that has a slot
pub registers_slot : (all : Interference) (homes : List Home) (m : ℕ) → HaveHomeRegisters all homes → HaveHomeRegisters all (homes ++ Slot m ∷ [])
registers_slot all homes m have k r y at = (
  (λ t. let is = (have k r y at).0 t in put_before homes (Slot m) y (slice_get_within homes y (Register r) is) ∙ is),
  (λ is. elim (put_cases homes (Slot m) y (Register r) is) [
    | inl h ↦ (have k r y at).1 h.1
    | inr h ↦ absurd (let e : Slot m ≡ Register r = h.1 in cc)
  ]),
)

register_in : Home → ℕ
register_in (Register r) = r
register_in (Slot m) = 0

-- a name that has a register
pub registers_put : (all new : Interference) (homes : List Home) (number register name : ℕ) → slice_get home_registers number ≡ Some register → name ≡ length homes
    → ((k y : ℕ) → k < 15 → has new k y ≡ (has all k y || ((number == k) && (name == y)))) → HaveHomeRegisters all homes → HaveHomeRegisters new (homes ++ Register register ∷ [])
unfolding register_in
registers_put all new homes number register name told size taken have k r y at =
    let e = taken k y (slice_get_within home_registers k r at) in (
      (λ t. elim (or_cases (has all k y) ((number == k) && (name == y)) (sym e ∙ t)) [
        | inl before ↦ (let is = (have k r y at).0 before in put_before homes (Register register) y (slice_get_within homes y (Register r) is) ∙ is)
        | inr now ↦
            let both = and_parts (number == k) (name == y) now in
            let same : register ≡ r = same_Some register r (sym told ∙ ap (slice_get home_registers) (eqb-true number k both.0) ∙ at) in
            ap (slice_get (homes ++ Register register ∷ [])) (sym (eqb-true name y both.1) ∙ size) ∙ put_there homes (Register register) ∙ ap (λ q. Some (Register q)) same
      ]),
      (λ is. e ∙ elim (put_cases homes (Register register) y (Register r) is) [
        | inl h ↦ or_left (has all k y) ((number == k) && (name == y)) ((have k r y at).1 h.1)
        | inr h ↦
            let same : register ≡ r = ap register_in h.1 in
            or_right (has all k y) ((number == k) && (name == y))
            (and_from (number == k) (name == y) (eq-eqb number k (number_same number k r (told ∙ ap (λ q. Some q) same) at)) (eq-eqb name y (size ∙ sym h.0)))
      ]),
    )

-- before the first name
pub registers_none : (all : Interference) → ((k y : ℕ) → k < 15 → has all k y ≡ false) → HaveHomeRegisters all []
registers_none all nobody k r y at = (
  (λ t. absurd (true≢false (sym t ∙ nobody k y (slice_get_within home_registers k r at)))),
  (λ is. absurd (omega (arith, slice_get_within [] y (Register r) is))),
)

-- Each name has the home by the rule, if the last one has.
pub rule_put : (g : Graph) (homes new : List Home) (home : Home) → new ≡ homes ++ home ∷ [] → IsHome g homes (length homes) home → ((x : ℕ) (k : Home) → slice_get homes x ≡ Some k → IsHome g (take x homes) x k)
    → (x : ℕ) (k : Home) → slice_get new x ≡ Some k → IsHome g (take x new) x k
rule_put g homes new home e last before x k is = elim (put_cases homes home x k (ap (λ all. slice_get all x) (sym e) ∙ is)) [
  | inl h ↦
      let P : List Home → Type 0 = λ all. IsHome g all x k in
      subst P (sym (ap (take x) e ∙ take-append-le x homes (home ∷ []) (omega (arith, h.0)))) (before x k h.1)
  | inr h ↦
      let P : List Home → Type 0 = λ all. IsHome g all x k in
      let Q : ℕ → Type 0 = λ n. IsHome g homes n k in
      let here : IsHome g homes (length homes) k = (let R : Home → Type 0 = λ j. IsHome g homes (length homes) j in subst R h.1 last) in
      subst P (sym (ap (take x) e ∙ ap (λ n. take n (homes ++ home ∷ [])) h.0 ∙ take-append-le (length homes) homes (home ∷ []) (omega arith) ∙ take-length homes)) (subst Q (sym h.0) here)
]

-- ---- What is free stays free, where the same is known

holder_small : (all : Interference) (k y : ℕ) → has all k y ≡ true → y < all.names
holder_small all k y t = elim (cases_lt y all.names) [
  | inl lt ↦ lt
  | inr past ↦ absurd (true≢false (sym t ∙ past_clear all.names all.rows all.wide (all.names + (1 + k)) y past))
]

pub free_back_same : (a b : Interference) (k x : ℕ) → HaveSameClashes a b → HaveSameRegisters a b → k < 15 → x < a.names → IsFreeFor b k x → IsFreeFor a k x
free_back_same a b k x clash same lt named free y t =
    let both = free y (same k y lt ∙ t) in
    (sym (clash.same x y named) ∙ both.0, sym (clash.same y x (holder_small a k y t)) ∙ both.1)

pub free_same : (a b : Interference) (k x : ℕ) → HaveSameClashes a b → HaveSameRegisters a b → k < 15 → x < a.names → IsFreeFor a k x → IsFreeFor b k x
free_same a b k x clash same lt named free y t =
    let before : has a k y ≡ true = sym (same k y lt) ∙ t in
    let both = free y before in
    (clash.same x y named ∙ both.0, clash.same y x (holder_small a k y before) ∙ both.1)

pub registers_then : (a b c : Interference) → HaveSameRegisters a b → HaveSameRegisters b c → HaveSameRegisters a c
registers_then a b c one two k y lt = two k y lt ∙ one k y lt

-- what is chosen where nothing that is wished is free: the first that is, as it is known after the question for that
pub chosen_after : (Wished Free After : ℕ → Type 0) → ((k : ℕ) → Wished k → Free k → ⊥) → ((k : ℕ) → k < 15 → Free k → After k) → ((k : ℕ) → k < 15 → After k → Free k) → (o : Option ℕ)
    → IfSome o (λ k. (k < 15) × After k × ((j : ℕ) → j < k → After j → ⊥)) → (o ≡ None → (j : ℕ) → j < 15 → After j → ⊥) → IsChosen Wished Free o
chosen_after Wished Free After never there back None some nowhere = none never (λ j lt free. nowhere refl j lt (there j lt free))
chosen_after Wished Free After never there back (Some k) some nowhere = first never (back k some.0 some.1) (λ j lt free. some.2 j lt (there j (omega (arith, lt, some.0)) free))

-- one name has one register by its number
pub register_once : (homes : List Home) (y j k : ℕ) → HasRegister homes y j → HasRegister homes y k → j ≡ k
unfolding register_in
register_once homes y j k (r, at, is) (q, there, also) =
    let same : r ≡ q = ap register_in (same_Some (Register r) (Register q) (sym is ∙ also)) in
    number_same j k q (at ∙ ap (λ n. Some n) same) there
