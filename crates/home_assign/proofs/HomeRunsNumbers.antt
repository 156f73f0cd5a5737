-- Homes and their numbers, and the homes of a unit's names.
use Rattle.std.proofs.Common.{◌≡◌, ℕ, zero, suc, ◌+◌, ◌<◌, inl, inr, true, true≢false, Some, List, [], ◌∷◌, length, refl, sym, ap, ◌∙◌, subst, arith}
use Rattle.std.specs.Prelude.{◌==◌, slice_get, option_map}
use Rattle.std.specs.Option.{option_map_or}
use Rattle.std.specs.List.{AllByRecursion}
use Rattle.std.proofs.lemmas.Bool.{eq-eqb, ne_eqb}
use Rattle.std.proofs.lemmas.Bool.Decides.{eqb_tells}
use Rattle.std.proofs.lemmas.Option.{slice_get-get_or}
use Rattle.graph_homes.specs.declared.home.Home.{Home}
use Rattle.graph_homes.specs.declared.home.Home.TheVariants.{Register, Slot}
use Rattle.graph_homes.specs.Homes.{is_same_home}
use Rattle.graph_core.specs.Graphs.{Graph}
use Rattle.graph_homes.specs.Homed.{HomedForm, homes_in, home_of, IsHomeRegister, IsHomeAmong, AreHomesOf, HaveHomes, home_number, placed_graph, placed_graphs}
use Rattle.home_assign.proofs.Lists.{all_at}

low_register : (r : ℕ) → IsHomeRegister r → r < 32
low_register r (inl e) = omega (arith, e)
low_register r (inr b) = omega (arith, b)

shifted : (m n : ℕ) → (32 + m == 32 + n) ≡ (m == n)
shifted m n = elim (eqb_tells m n) [ inl h ↦ eq-eqb (32 + m) (32 + n) (ap (λ k. 32 + k) h.1) ∙ sym h.0 | inr h ↦ ne_eqb (32 + m) (32 + n) (λ e. h.1 (omega (arith, e))) ∙ sym h.0 ]

-- Two homes are one just if their numbers are.
pub same_number : (count : ℕ) (a b : Home) → IsHomeAmong count a → IsHomeAmong count b → (home_number a == home_number b) ≡ is_same_home a b
same_number count (Register r) (Register q) p s = refl
same_number count (Register r) (Slot n) p s = ne_eqb r (32 + n) (λ e. (let low = low_register r p in omega (arith, low, e)))
same_number count (Slot m) (Register q) p s = ne_eqb (32 + m) q (λ e. (let low = low_register q s in omega (arith, low, e)))
same_number count (Slot m) (Slot n) p s = shifted m n

pub same_self : (a : Home) → is_same_home a a ≡ true
same_self (Register r) = eq-eqb r r refl
same_self (Slot k) = eq-eqb k k refl

swapped : (m n : ℕ) → (m == n) ≡ (n == m)
swapped m n = elim (eqb_tells m n) [ inl h ↦ h.0 ∙ sym (eq-eqb n m (sym h.1)) | inr h ↦ h.0 ∙ sym (ne_eqb n m (λ e. h.1 (sym e))) ]

pub same_turned : (a b : Home) → is_same_home a b ≡ is_same_home b a
same_turned (Register r) (Register q) = swapped r q
same_turned (Register r) (Slot n) = refl
same_turned (Slot m) (Register q) = refl
same_turned (Slot m) (Slot n) = swapped m n

-- ---- The homes of a unit's names

homes_there : (graphs : List Graph) (all : List (List Home)) (f : ℕ) (g : Graph) → AreHomesOf graphs all → slice_get graphs f ≡ Some g
    → (homes : List Home) × (slice_get all f ≡ Some homes) × (length homes ≡ g.name_count) × AllByRecursion (IsHomeAmong g.name_count) homes
homes_there [] all f g are is = cc
homes_there (k ∷ graphs) [] f g are is = absurd are
homes_there (k ∷ graphs) (homes ∷ more) zero g are is = let same : k ≡ g = cc in (homes, refl, subst (λ x. length homes ≡ x.name_count) same are.0, subst (λ x. AllByRecursion (IsHomeAmong x.name_count) homes) same are.1)
homes_there (k ∷ graphs) (homes ∷ more) (suc f) g are is = homes_there graphs more f g are.2 is

pub home_among : (h : HomedForm) → HaveHomes h → (f : ℕ) (g : Graph) → slice_get h.unit.graphs f ≡ Some g → (x : ℕ) → x < g.name_count → IsHomeAmong g.name_count (home_of h f x)
home_among h have f g is x lt =
    let found = homes_there h.unit.graphs h.homes f g have is in
    let at : slice_get found.0 x ≡ Some _ = slice_get-get_or found.0 x (Slot 0) (omega (arith, lt, found.2)) in
    let own : homes_in h f ≡ found.0 = ap (λ o. option_map_or (λ (homes : List Home). homes) o []) found.1 in
    subst (IsHomeAmong g.name_count) (sym (ap (λ homes. option_map_or (λ (home : Home). home) (slice_get homes x) (Slot 0)) own ∙ ap (λ o. option_map_or (λ (home : Home). home) o (Slot 0)) at))
    (all_at (IsHomeAmong g.name_count) found.0 x _ found.3 at)

-- the graphs over homes, by their numbers
placed_from : (h : HomedForm) (graphs : List Graph) (k n : ℕ) → slice_get (placed_graphs h k graphs) n ≡ option_map (placed_graph (home_of h (k + n))) (slice_get graphs n)
placed_from h [] k n = refl
placed_from h (g ∷ graphs) k zero = let e : k ≡ k + 0 = omega arith in ap (λ m. Some (placed_graph (home_of h m) g)) e
placed_from h (g ∷ graphs) k (suc n) = let e : k + 1 + n ≡ k + suc n = omega arith in placed_from h graphs (k + 1) n ∙ ap (λ m. option_map (placed_graph (home_of h m)) (slice_get graphs n)) e

pub placed_at : (h : HomedForm) (n : ℕ) → slice_get (placed_graphs h 0 h.unit.graphs) n ≡ option_map (placed_graph (home_of h n)) (slice_get h.unit.graphs n)
placed_at h n = let e : 0 + n ≡ n = omega arith in placed_from h h.unit.graphs 0 n ∙ ap (λ m. option_map (placed_graph (home_of h m)) (slice_get h.unit.graphs n)) e
