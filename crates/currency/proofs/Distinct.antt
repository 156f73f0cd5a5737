-- Numbers tell the homes of a function apart that has its homes, and not too many names.
use Rattle.std.proofs.Common.{◌≡◌, inl, inr, ℕ, zero, suc, ◌+◌, ◌<◌, ◌≤◌, min, Option, Some, None, List, [], ◌∷◌, get_or, length, refl, sym, ap, subst, ◌∙◌, arith}
use Rattle.std.specs.Prelude.{option_map, slice_get}
use Rattle.std.specs.Option.{option_map_or}
use Rattle.std.specs.List.{AllByRecursion}
use Rattle.std.proofs.Math.Nat.{min-eq_left}
use Rattle.std.proofs.lemmas.Option.{none-some, same_Some, slice_get-get_or, slice_get-map}
use Rattle.graph_homes.specs.declared.home.Home.{Home}
use Rattle.graph_homes.specs.declared.home.Home.TheVariants.{Register, Slot}
use Rattle.graph_core.specs.declared.graph.Graph as declared-graph
use Rattle.graph_core.specs.Graphs.{Graph, graph_view}
use Rattle.graph_core.specs.Validity.{IsGraph, IsValid}
use Rattle.graph_homes.specs.declared.homed.FunctionHomes as declared-homes
use Rattle.graph_homes.specs.declared.homed.HomedUnit as declared-homed
use Rattle.graph_homes.specs.Homed.{HomedForm, HaveHomes, AreHomesOf, IsHomeAmong, IsHomeRegister, homed_view, homes_in}
use Rattle.currency_notes.specs.Homes.{home_in, number_at}
use Rattle.currency_shown.specs.Shown.{AreDistinct}
use Rattle.currency_writers.specs.Writers.{AreHomed}
use Rattle.currency_hiding.proofs.ShownOrHidden.{writer_low}
use Rattle.currency.proofs.OfFunctions.{names_at}

all_at : {A : Type 0} (P : A → Type 0) (xs : List A) (k : ℕ) (a : A) → AllByRecursion P xs → slice_get xs k ≡ Some a → P a
all_at P [] k a all e = absurd (none-some a e)
all_at P (x ∷ xs) zero a all e = subst P (same_Some x a e) all.0
all_at P (x ∷ xs) (suc k) a all e = all_at P xs k a all.1 e

-- each name's home is one of so many, the first slot where it has none
home_among : (n : ℕ) (homes : List Home) → 1 ≤ n → AllByRecursion (IsHomeAmong n) homes → (y : ℕ) → IsHomeAmong n (home_in homes y)
home_among n homes some all y = at_home (slice_get homes y) refl
  where
    at_home : (o : Option Home) → slice_get homes y ≡ o → IsHomeAmong n (home_in homes y)
    at_home None e = subst (λ (o : Option Home). IsHomeAmong n (option_map_or (λ (h : Home). h) o (Slot 0))) (sym e) (omega (arith, some))
    at_home (Some a) e = subst (λ (o : Option Home). IsHomeAmong n (option_map_or (λ (h : Home). h) o (Slot 0))) (sym e) (all_at (IsHomeAmong n) homes y a all e)

register_small : (r : ℕ) → IsHomeRegister r → r ≤ 31
register_small r is = elim is [ inl e ↦ omega (arith, e) | inr f ↦ f.1 ]

slot_number : (n k : ℕ) → n ≤ 4294967264 → k < n → min (k + 32) 4294967295 ≡ k + 32
slot_number n k few lt = min-eq_left (omega (arith, few, lt))

-- homes of one number are one
one_home : (n : ℕ) (a b : Home) → n ≤ 4294967264 → IsHomeAmong n a → IsHomeAmong n b → number_at a ≡ number_at b → a ≡ b
one_home n (Register r) (Register q) few one other e = ap Register e
one_home n (Register r) (Slot k) few one other e = (let small = register_small r one in let number = slot_number n k few other in absurd (omega (arith, small, number, e)))
one_home n (Slot k) (Register r) few one other e = (let small = register_small r other in let number = slot_number n k few one in absurd (omega (arith, small, number, e)))
one_home n (Slot k) (Slot j) few one other e = (let number = slot_number n k few one in let next = slot_number n j few other in let same : k ≡ j = omega (arith, number, next, e) in ap Slot same)

number_small : (n : ℕ) (a : Home) → n ≤ 4294967264 → IsHomeAmong n a → number_at a < n + 32
number_small n (Register r) few one = (let small = register_small r one in omega (arith, small))
number_small n (Slot k) few one = (let number = slot_number n k few one in omega (arith, number, one))

-- the homes of one function
pub homes_at : (graphs : List Graph) (homes : List (List Home)) (f : ℕ) (g : Graph) → AreHomesOf graphs homes → slice_get graphs f ≡ Some g
    → (length (option_map_or (λ (h : List Home). h) (slice_get homes f) []) ≡ g.name_count) × AllByRecursion (IsHomeAmong g.name_count) (option_map_or (λ (h : List Home). h) (slice_get homes f) [])
homes_at [] [] f g all e = absurd (none-some g e)
homes_at [] (h ∷ more) f g all e = elim all [ ]
homes_at (d ∷ graphs) [] f g all e = elim all [ ]
homes_at (d ∷ graphs) (h ∷ more) zero g all e = subst (λ (c : Graph). (length h ≡ c.name_count) × AllByRecursion (IsHomeAmong c.name_count) h) (same_Some d g e) (all.0, all.1)
homes_at (d ∷ graphs) (h ∷ more) (suc f) g all e = homes_at graphs more f g all.2 e

pub distinct_homes : (u : HomedForm) (f : ℕ) (g : Graph) → HaveHomes u → slice_get u.unit.graphs f ≡ Some g → 1 ≤ g.name_count → g.name_count ≤ 4294967264 → AreDistinct (homes_in u f)
distinct_homes u f g homed at some few =
    let n : ℕ = g.name_count in
    let homes : List Home = homes_in u f in
    let mine = homes_at u.unit.graphs u.homes f g homed at in
    let size : length homes ≡ n = mine.0 in
    let le : length homes + 32 ≤ 18446744073709551615 = omega (arith, size, few) in
    let room : min (length homes + 32) 18446744073709551615 ≡ n + 32 = min-eq_left le ∙ ap (λ (k : ℕ). k + 32) size in
    record {
      told = λ y z e. one_home n (home_in homes y) (home_in homes z) few (home_among n homes some mine.1 y) (home_among n homes some mine.1 z) e;
      within = λ y. subst (λ (k : ℕ). number_at (home_in homes y) < k) (sym room) (number_small n (home_in homes y) few (home_among n homes some mine.1 y));
    }

-- each name that a function of a valid unit writes has its home
pub names_homed : (u : HomedForm) (f : ℕ) (g : Graph) → HaveHomes u → slice_get u.unit.graphs f ≡ Some g → IsGraph u.unit g → AreHomed f g (homes_in u f)
names_homed u f g homed at valid p x w writes =
    let low = writer_low u.unit g f valid p x w writes in
    let size = (homes_at u.unit.graphs u.homes f g homed at).0 in
    let some : 1 ≤ g.name_count = omega (arith, low) in
    let names = valid.names in
    let few : g.name_count ≤ 4294967264 = omega (arith, names) in
    record { named = omega (arith, low, size); numbered = (distinct_homes u f g homed at some few).within x }

-- the same of the homes of a function as it was read
pub homed_any : (h : declared-homed.HomedUnit) (f number : ℕ) (g : declared-graph.Graph) (one : declared-homes.FunctionHomes) (names : List Home) → IsValid (homed_view h).unit → HaveHomes (homed_view h) → number ≡ f → f < length h.unit.graphs.items → g ≡ get_or h.unit.graphs.items f g
    → f < length h.homes.items → one ≡ get_or h.homes.items f one → names ≡ one.homes.items → AreHomed number (graph_view g) names
homed_any h f number g one names valid homed same lt is small kept of =
    let at : slice_get (homed_view h).unit.graphs f ≡ Some (graph_view g) = slice_get-map graph_view h.unit.graphs.items f ∙ ap (λ o. option_map graph_view o) (slice_get-get_or h.unit.graphs.items f g lt ∙ ap Some (sym is)) in
    let homes : homes_in (homed_view h) f ≡ names = names_at h f one (slice_get-get_or h.homes.items f one small ∙ ap Some (sym kept)) ∙ sym of in
    let graph : IsGraph (homed_view h).unit (graph_view g) = all_at (IsGraph (homed_view h).unit) (homed_view h).unit.graphs f (graph_view g) valid.graphs at in
    subst (λ n. AreHomed n (graph_view g) names) (sym same) (subst (λ (l : List Home). AreHomed f (graph_view g) l) homes (names_homed (homed_view h) f (graph_view g) homed at graph))
