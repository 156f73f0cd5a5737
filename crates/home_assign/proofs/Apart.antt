-- Names that interfere have different homes.
use Rattle.std.proofs.Common.{◌≡◌, ℕ, zero, suc, ◌<◌, ◌==◌, inl, inr, false, Option, Some, List, [], ◌∷◌, length, take, sym, ap, ◌∙◌, refl, arith}
use Rattle.std.specs.Prelude.{slice_get}
use Rattle.std.specs.Option.{option_map_or}
use Rattle.std.proofs.lemmas.Bool.{cases_order, eqb-true, ne_eqb, false_from_ne_true}
use Rattle.std.proofs.lemmas.Option.{same_Some, slice_get-get_or, slice_get_within}
use Rattle.debug_records.specs.declared.mode.Mode.{Mode}
use Rattle.debug_records.specs.declared.mode.Mode.TheVariants.{Slots, Registers}
use Rattle.graph_core.specs.Graphs.{Graph}
use Rattle.graph_homes.specs.declared.home.Home.{Home}
use Rattle.graph_homes.specs.declared.home.Home.TheVariants.{Register, Slot}
use Rattle.graph_homes.specs.Homes.{is_same_home}
use Rattle.home_assign.specs.Clashes.{Interfere}
use Rattle.home_assign.specs.Rule.{AreApart, AreHomes, IsFree, IsHome, joined, first, slot, slots_in}
use Rattle.base_laws.proofs.Numbers.{same_turned}

turned : (a b : Home) → is_same_home a b ≡ is_same_home b a
turned (Register r) (Register q) = same_turned r q
turned (Register r) (Slot n) = refl
turned (Slot m) (Register q) = refl
turned (Slot m) (Slot n) = same_turned m n

-- the home of an option
abbrev pub home_or : Option Home → Home
home_or o = option_map_or (λ home. home) o (Slot 0)

-- the slots of the earlier homes
pub slots_fewer : (homes : List Home) (y m : ℕ) → slice_get homes y ≡ Some (Slot m) → slots_in (take y homes) < slots_in homes
slots_fewer [] y m is = absurd (omega (arith, slice_get_within [] y (Slot m) is))
slots_fewer (k ∷ homes) zero m is = (let e : k ≡ Slot m = same_Some k (Slot m) is in rw e (omega arith))
slots_fewer (k ∷ homes) (suc y) m is = (let h = slots_fewer homes y m is in omega (arith, h))

pub taken_at : (homes : List Home) (x y : ℕ) → y < x → slice_get (take x homes) y ≡ slice_get homes y
taken_at [] zero y lt = absurd (omega (arith, lt))
taken_at [] (suc x) y lt = refl
taken_at (k ∷ homes) zero y lt = absurd (omega (arith, lt))
taken_at (k ∷ homes) (suc x) zero lt = refl
taken_at (k ∷ homes) (suc x) (suc y) lt = taken_at homes x y (omega (arith, lt))

pub taken_taken : (homes : List Home) (x y : ℕ) → y < x → take y (take x homes) ≡ take y homes
taken_taken homes zero y lt = absurd (omega (arith, lt))
taken_taken [] (suc x) zero lt = refl
taken_taken [] (suc x) (suc y) lt = refl
taken_taken (k ∷ homes) (suc x) zero lt = refl
taken_taken (k ∷ homes) (suc x) (suc y) lt = ap (λ ks. k ∷ ks) (taken_taken homes x y (omega (arith, lt)))

module _ (g : Graph) where
  -- what a home says of the earlier ones
  abbrev Says : (earlier : List Home) (x : ℕ) → Home → Type 0
  Says earlier x (Register r) = IsFree g earlier x r
  Says earlier x (Slot m) = m ≡ slots_in earlier

  says : {earlier : List Home} {x : ℕ} {k : Home} → IsHome g earlier x k → Says earlier x k
  says (joined {y} {r} one is free) = free
  says (first {k} {r} never is free before) = free
  says (slot never all) = refl

  differs : (earlier : List Home) (x y : ℕ) (k j : Home) → Says earlier x k → slice_get earlier y ≡ Some j → ((m : ℕ) → j ≡ Slot m → m < slots_in earlier) → Interfere g x y → is_same_home k j ≡ false
  differs earlier x y (Register r) (Register q) free is fewer pair =
      false_from_ne_true (r == q) (λ t. free y (is ∙ ap (λ n. Some (Register n)) (sym (eqb-true r q t))) pair)
  differs earlier x y (Register r) (Slot n) free is fewer pair = refl
  differs earlier x y (Slot m) (Register q) e is fewer pair = refl
  differs earlier x y (Slot m) (Slot n) e is fewer pair = ne_eqb m n (λ q. omega (arith, q, e, fewer n refl))

  module _ (homes : List Home) (each : length homes ≡ g.name_count) (by_rule : (x : ℕ) (k : Home) → slice_get homes x ≡ Some k → IsHome g (take x homes) x k) where
    abbrev home : ℕ → Home
    home x = home_or (slice_get homes x)

    at : (x : ℕ) → x < g.name_count → slice_get homes x ≡ Some (home x)
    at x lt = (let is = slice_get-get_or homes x (Slot 0) (omega (arith, lt, each)) in is ∙ ap (λ k. Some k) (sym (ap home_or is)))

    earlier_apart : (x y : ℕ) → y < x → x < g.name_count → Interfere g x y → is_same_home (home x) (home y) ≡ false
    earlier_apart x y less lt pair =
        let there : slice_get homes y ≡ Some (home y) = at y (omega (arith, less, lt)) in
        differs (take x homes) x y (home x) (home y) (says (by_rule x (home x) (at x lt))) (taken_at homes x y less ∙ there)
        (λ m e.
        let is : slice_get homes y ≡ Some (Slot m) = there ∙ ap (λ k. Some k) e in
        let number : m ≡ slots_in (take y homes) = says (by_rule y (Slot m) is) in
        let fewer : slots_in (take y (take x homes)) < slots_in (take x homes) = slots_fewer (take x homes) y m (taken_at homes x y less ∙ is) in
        let same : slots_in (take y (take x homes)) ≡ slots_in (take y homes) = ap slots_in (taken_taken homes x y less) in
        omega (arith, number, fewer, same))
        pair

    registers_apart : AreApart g home
    registers_apart x y p q pair = elim (cases_order x y) [
      | inl e ↦ absurd (pair.0 e)
      | inr (inl lt) ↦ turned (home x) (home y) ∙ earlier_apart y x lt q ((λ e. pair.0 (sym e)), (elim pair.1 [ inl c ↦ inr c | inr c ↦ inl c ]))
      | inr (inr lt) ↦ earlier_apart x y lt p pair
    ]

  slots_apart : (homes : List Home) → ((x : ℕ) → x < g.name_count → slice_get homes x ≡ Some (Slot x)) → AreApart g (λ x. home_or (slice_get homes x))
  slots_apart homes own x y p q pair =
      ap (λ k. is_same_home (home_or k) (home_or (slice_get homes y))) (own x p) ∙ ap (λ k. is_same_home (Slot x) (home_or k)) (own y q) ∙ ne_eqb x y pair.0

  -- homes of either mode
  pub homes_apart : (mode : Mode) (homes : List Home) → length homes ≡ g.name_count → AreHomes mode g homes → AreApart g (λ x. home_or (slice_get homes x))
  homes_apart Slots homes each own = slots_apart homes own
  homes_apart Registers homes each by_rule = registers_apart homes each by_rule
