-- The names that have a register, home by home, and what is so of some of them.
use Rattle.std.proofs.Common.{◌≡◌, ℕ, zero, suc, ◌+◌, ◌<◌, ◌==◌, ◌↔◌, cond, not, inl, inr, Bool, true, false, true≢false, Some, Vec, Global, List, [], ◌∷◌, ◌++◌, length, get_or, refl, sym, ap, ◌∙◌, arith}
use Rattle.std.specs.Prelude.{◌≢◌, slice_get}
use Rattle.std.specs.List.{list_any}
use Rattle.std.proofs.Math.ListN.{set}
use Rattle.std.proofs.lemmas.Bool.{cases_eq, eq-eqb, ne_eqb, cond-true, cond-false, or_cases, or_left, or_right, and_from, and_parts}
use Rattle.std.proofs.lemmas.Bool.Decides.{eqb_tells}
use Rattle.std.proofs.lemmas.List.{length-set, get_or-set_same, get_or-set_other}
use Rattle.std.proofs.lemmas.Option.{same_Some, slice_get_within}
use Rattle.graph_homes.specs.declared.home.Home.{Home}
use Rattle.graph_homes.specs.declared.home.Home.TheVariants.{Register, Slot}
use Rattle.home_assign.specs.declared.pairs.Pairs.{Pairs}
use Rattle.home_assign.specs.Holders.{AreHolders, names_from}
use Rattle.home_assign.specs.Pairs.{has}
use Rattle.home_assign.specs.Sharing.{IsForeign, is_other}
use Rattle.base_laws.proofs.Booleans.{not_true}

-- with a further name
abbrev names_put : (n r : ℕ) → Home → List ℕ → List ℕ
names_put n r (Register q) ns = cond (q == r) (ns ++ n ∷ []) ns
names_put n r (Slot k) ns = ns

put_behind : (b : Bool) (x n r : ℕ) (home : Home) (ns : List ℕ) → cond b (x ∷ names_put n r home ns) (names_put n r home ns) ≡ names_put n r home (cond b (x ∷ ns) ns)
put_behind b x n r (Slot k) ns = refl
put_behind b x n r (Register q) ns = spread b (q == r)
  where
    spread : (b c : Bool) → cond b (x ∷ cond c (ns ++ n ∷ []) ns) (cond c (ns ++ n ∷ []) ns) ≡ cond c (cond b (x ∷ ns) ns ++ n ∷ []) (cond b (x ∷ ns) ns)
    spread true true = refl
    spread true false = refl
    spread false true = refl
    spread false false = refl

names_push : (x r : ℕ) (homes : List Home) (home : Home) (n : ℕ) → n ≡ x + length homes → names_from x r (homes ++ home ∷ []) ≡ names_put n r home (names_from x r homes)
names_push x r [] (Slot k) n e = refl
names_push x r [] (Register q) n e = (let same : x ≡ n = omega (arith, e) in ap (λ m. cond (q == r) (m ∷ []) []) same)
names_push x r (Slot k ∷ homes) home n e = names_push (x + 1) r homes home n (omega (arith, e))
names_push x r (Register q ∷ homes) home n e =
    ap (λ ns. cond (q == r) (x ∷ ns) ns) (names_push (x + 1) r homes home n (omega (arith, e))) ∙ put_behind (q == r) x n r home (names_from (x + 1) r homes)

-- a further name has a slot
pub holders_slot : (homes : List Home) (k n : ℕ) (holders : List (Vec ℕ Global)) → AreHolders homes n holders → AreHolders (homes ++ Slot k ∷ []) n holders
holders_slot homes k n holders are = record { each = are.each; at = λ r d lt. are.at r d lt ∙ sym (names_push 0 r homes (Slot k) (length homes) (omega arith)) }

-- a further name has a register
pub holders_register : (homes : List Home) (q n name : ℕ) (holders : List (Vec ℕ Global)) (v new d : Vec ℕ Global) → AreHolders homes n holders → q < n → name ≡ length homes → v ≡ get_or holders q d → new.items ≡ v.items ++ name ∷ []
    → AreHolders (homes ++ Register q ∷ []) n (set holders q new)
holders_register homes q n name holders v new w are lt size is pushed = record {
  each = length-set holders q new ∙ are.each;
  at = λ r d less. elim (cases_eq r q) [
    | inl e ↦
        ap (λ k. (get_or (set holders q new) k d).items) e ∙ ap (λ (u : Vec ℕ Global). u.items) (get_or-set_same holders q new d (omega (arith, lt, are.each)))
        ∙ pushed ∙ ap (λ ns. ns ++ name ∷ []) (ap (λ (u : Vec ℕ Global). u.items) is ∙ are.at q w lt ∙ ap (λ k. names_from 0 k homes) (sym e))
        ∙ sym (names_push 0 r homes (Register q) name (omega (arith, size)) ∙ cond-true (q == r) (names_from 0 r homes ++ name ∷ []) (names_from 0 r homes) (eq-eqb q r (sym e)))
    | inr ne ↦
        ap (λ (u : Vec ℕ Global). u.items) (get_or-set_other holders q r new d ne) ∙ are.at r d less
        ∙ sym (names_push 0 r homes (Register q) name (omega (arith, size)) ∙ cond-false (q == r) (names_from 0 r homes ++ name ∷ []) (names_from 0 r homes) (ne_eqb q r (λ k. ne (sym k))))
  ];
}

-- ---- Some name that has a register

module _ (f : ℕ → Bool) (r : ℕ) where
  -- something is so of a name, from a number on, that has the register
  abbrev Some_from : ℕ → List Home → Type 0
  Some_from x homes = (k : ℕ) × (slice_get homes k ≡ Some (Register r)) × (f (x + k) ≡ true)

  further : (x : ℕ) (home : Home) (homes : List Home) → Some_from (x + 1) homes → Some_from x (home ∷ homes)
  further x home homes some =
      let e : x + 1 + some.0 ≡ x + suc some.0 = omega arith in
      (suc some.0, some.1, ap f (sym e) ∙ some.2)

  some_named : (x : ℕ) (homes : List Home) → list_any f (names_from x r homes) ≡ true → Some_from x homes
  some_named x [] t = absurd (true≢false (sym t))
  some_named x (Slot k ∷ homes) t = further x (Slot k) homes (some_named (x + 1) homes t)
  some_named x (Register q ∷ homes) t = elim (eqb_tells q r) [
    | inl same ↦
        elim (or_cases (f x) (list_any f (names_from (x + 1) r homes)) (sym (ap (list_any f) (cond-true (q == r) (x ∷ names_from (x + 1) r homes) (names_from (x + 1) r homes) same.0)) ∙ t)) [
          | inl now ↦ (let e : x ≡ x + 0 = omega arith in (0, ap (λ k. Some (Register k)) same.1, ap f (sym e) ∙ now))
          | inr later ↦ further x (Register q) homes (some_named (x + 1) homes later)
        ]
    | inr other ↦
        further x (Register q) homes (some_named (x + 1) homes (sym (ap (list_any f) (cond-false (q == r) (x ∷ names_from (x + 1) r homes) (names_from (x + 1) r homes) other.0)) ∙ t))
  ]

  register_of : Home → ℕ
  register_of (Register q) = q
  register_of (Slot k) = 0

  named : (x : ℕ) (homes : List Home) (k : ℕ) → slice_get homes k ≡ Some (Register r) → f (x + k) ≡ true → list_any f (names_from x r homes) ≡ true
  unfolding register_of
  named x [] k is t = absurd (omega (arith, slice_get_within [] k (Register r) is))
  named x (Slot s ∷ homes) zero is t = absurd (let e : Slot s ≡ Register r = same_Some (Slot s) (Register r) is in cc)
  named x (Slot s ∷ homes) (suc k) is t = (let e : x + suc k ≡ x + 1 + k = omega arith in named (x + 1) homes k is (ap f (sym e) ∙ t))
  named x (Register q ∷ homes) zero is t =
      let same : q ≡ r = ap register_of (same_Some (Register q) (Register r) is) in
      let e : x + 0 ≡ x = omega arith in
      ap (list_any f) (cond-true (q == r) (x ∷ names_from (x + 1) r homes) (names_from (x + 1) r homes) (eq-eqb q r same)) ∙ or_left (f x) (list_any f (names_from (x + 1) r homes)) (ap f (sym e) ∙ t)
  named x (Register q ∷ homes) (suc k) is t =
      let e : x + suc k ≡ x + 1 + k = omega arith in
      let later : list_any f (names_from (x + 1) r homes) ≡ true = named (x + 1) homes k is (ap f (sym e) ∙ t) in
      elim (eqb_tells q r) [
        | inl same ↦ ap (list_any f) (cond-true (q == r) (x ∷ names_from (x + 1) r homes) (names_from (x + 1) r homes) same.0) ∙ or_right (f x) (list_any f (names_from (x + 1) r homes)) later
        | inr other ↦ ap (list_any f) (cond-false (q == r) (x ∷ names_from (x + 1) r homes) (names_from (x + 1) r homes) other.0) ∙ later
      ]

not_false : (b : Bool) → b ≡ false → not b ≡ true
not_false true e = absurd (true≢false e)
not_false false e = refl

-- Another name than the scalar and its own has the scalar's register where one of the names that have it is such a name.
pub foreign_tells : (homes : List Home) (own : Pairs) (x r : ℕ) → slice_get homes x ≡ Some (Register r) → (list_any (is_other own x) (names_from 0 r homes) ≡ true) ↔ IsForeign homes own x
foreign_tells homes own x r is = (
  (λ t.
      let some = some_named (is_other own x) r 0 homes t in
      let same : 0 + some.0 ≡ some.0 = omega arith in
      let both = and_parts (not (some.0 == x)) (not (has own x some.0)) (ap (is_other own x) (sym same) ∙ some.2) in
      record {
        register = r;
        y = some.0;
        kept = is;
        shared = some.1;
        other = λ e. true≢false (sym (eq-eqb some.0 x e) ∙ not_true (some.0 == x) both.0);
        foreign = not_true (has own x some.0) both.1;
      }),
  (λ foreign.
      let e : Register foreign.register ≡ Register r = same_Some (Register foreign.register) (Register r) (sym foreign.kept ∙ is) in
      let same : foreign.y ≡ 0 + foreign.y = omega arith in
      named (is_other own x) r 0 homes foreign.y (foreign.shared ∙ ap (λ k. Some k) e)
      (ap (is_other own x) (sym same) ∙ and_from (not (foreign.y == x)) (not (has own x foreign.y)) (not_false (foreign.y == x) (ne_eqb foreign.y x foreign.other)) (not_false (has own x foreign.y) foreign.foreign))),
)
