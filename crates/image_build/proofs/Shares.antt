-- Each name that has the register of a scalar is told by a change of the homes, if it is no temporary of the scalar's moved computations.
use Rattle.std.proofs.Common.{◌≡◌, ◌≢◌, inl, inr, ℕ, zero, suc, ◌-◌, ◌<◌, true, Option, Some, None, List, [], ◌∷◌, length, map, slice_get, take, refl, sym, ap, subst, ◌∙◌, arith}
use Rattle.std.specs.Prelude.{option_map}
use Rattle.std.specs.Option.{option_map_or}
use Rattle.std.proofs.lemmas.Bool.{eqb-true}
use Rattle.std.proofs.lemmas.Bool.Decides.{leb_tells}
use Rattle.std.proofs.lemmas.Option.{none-some, same_Some, slice_get_within}
use Rattle.debug_records.specs.declared.mode.Mode.{Mode}
use Rattle.debug_records.specs.declared.mode.Mode.TheVariants.{Registers, Slots}
use Rattle.graph_homes.specs.declared.home.Home.{Home}
use Rattle.graph_homes.specs.declared.home.Home.TheVariants.{Register, Slot}
use Rattle.graph_homes.specs.Homes.{is_same_home}
use Rattle.graph_homes.specs.Homed.{HaveHomes, HomedForm, home_of, homes_in}
use Rattle.graph_homes.specs.Reused.{IsReused, IsTemporaryOf}
use Rattle.graph_core.specs.Graphs.{Graph, Logged, Scalar, UnitForm}
use Rattle.graph_core.specs.Paths.{Among}
use Rattle.graph_core.specs.WellMarked.{IsVariable}
use Rattle.home_assign.specs.Changes.{HaveChanges, IsSharing, Sharing, homes_pass}
use Rattle.home_assign.specs.Rule.{HaveRegisters, HaveSlots, IsHome, first, joined, slot, slots_in}
use Rattle.home_assign.specs.Sharing.{change_of}
use Rattle.home_assign.proofs.Apart.{slots_fewer, taken_at, taken_taken}
use Rattle.currency.proofs.Distinct.{homes_at}
use Rattle.currency_notes.proofs.Lists.{among_left, among_right}
use Rattle.currency.specs.Premises.{AreSharesLogged, IsSharingLogged}
use Rattle.graph_core.specs.Validity.{IsGraph, IsValid}
use Rattle.image_build.proofs.Rows.{mapped}
use Rattle.base_laws.proofs.Lists.{all_there}

-- two names of a function share registers alone
abbrev pub OnlyRegistersAreShared : HomedForm → Type 0
OnlyRegistersAreShared h =
    (f : ℕ) (g : Graph) (y x m n : ℕ) → slice_get h.unit.graphs f ≡ Some g → y < g.name_count → x < g.name_count → y ≢ x → home_of h f y ≡ Slot m → home_of h f x ≡ Slot n → m ≢ n

slot_of : {a b : ℕ} → Slot a ≡ Slot b → a ≡ b
slot_of e = cc

-- each name in a slot of its own
pub only_in_slots : (h : HomedForm) → HaveSlots h → OnlyRegistersAreShared h
only_in_slots h slots f g y x m n there low small other a b same =
    (let mine : y ≡ m = slot_of (sym (slots f g there y low) ∙ a) in
    let its : x ≡ n = slot_of (sym (slots f g there x small) ∙ b) in
    other (mine ∙ same ∙ sym its))

-- the slot that the rule gives is behind all earlier ones
slot_number : {g : Graph} {earlier : List Home} {x : ℕ} {k : Home} {n : ℕ} → IsHome g earlier x k → k ≡ Slot n → n ≡ slots_in earlier
slot_number (joined one other free) e = absurd cc
slot_number (first none at free before) e = absurd cc
slot_number (slot none before) e = slot_of (sym e)

-- the home that is there
home_there : (homes : List Home) (y : ℕ) (k : Home) → y < length homes → option_map_or (λ (home : Home). home) (slice_get homes y) (Slot 0) ≡ k → slice_get homes y ≡ Some k
home_there [] y k lt e = absurd (omega (arith, lt))
home_there (j ∷ homes) zero k lt e = ap Some e
home_there (j ∷ homes) (suc y) k lt e = home_there homes y k (omega (arith, lt)) e

-- each home by the rule
pub only_by_rule : (h : HomedForm) → HaveRegisters h → HaveHomes h → OnlyRegistersAreShared h
only_by_rule h rule homed f g y x m n there low small other a b same = elim (leb_tells x y) [
  | inl le ↦ (let below = le.1 in let less : x < y = omega (arith, below, other) in apart x y n m less small low b a (sym same))
  | inr more ↦ apart y x m n more.1 low small a b same
]
  where
    homes : List Home
    homes = homes_in h f

    size : length homes ≡ g.name_count
    size = (homes_at h.unit.graphs h.homes f g homed there).0

    apart : (i j p q : ℕ) → i < j → i < g.name_count → j < g.name_count → home_of h f i ≡ Slot p → home_of h f j ≡ Slot q → p ≡ q → ⊥
    apart i j p q less low small mine its same =
        (let at : slice_get homes i ≡ Some (Slot p) = home_there homes i (Slot p) (omega (arith, low, size)) mine in
        let one : p ≡ slots_in (take i homes) = slot_number (rule f g there i low) mine in
        let two : q ≡ slots_in (take j homes) = slot_number (rule f g there j small) its in
        let fewer : slots_in (take i (take j homes)) < slots_in (take j homes) = slots_fewer (take j homes) i p (taken_at homes j i less ∙ at) in
        let again : slots_in (take i (take j homes)) ≡ slots_in (take i homes) = ap slots_in (taken_taken homes j i less) in
        omega (arith, one, two, fewer, again, same))

module _ (u : UnitForm) (h : HomedForm) (changes : HaveChanges u h) (graphs : h.unit.graphs ≡ u.graphs) (f : ℕ) (g : Graph) (there : slice_get h.unit.graphs f ≡ Some g) (x variable : ℕ) (is : IsVariable g x variable) where
  -- a temporary of the log before is one of the log after
  wider : (y : ℕ) → IsTemporaryOf u.log g x variable y → IsTemporaryOf h.unit.log g x variable y
  wider y t = record { change = t.change; logged = subst (λ (l : List Logged). Among t.change l) (sym changes.log) (among_left u.log _ t.logged); moved = t.moved; of = t.of; copied = t.copied; temporary = t.temporary }

  -- the change of a scalar whose register is given to another name too
  shared_by : (r y : ℕ) → y < g.name_count → y ≢ x → home_of h f x ≡ Register r → home_of h f y ≡ Register r → (IsTemporaryOf h.unit.log g x variable y → ⊥) → IsSharingLogged h.unit.log variable
  shared_by r y low other kept shared foreign = at_scalar (slice_get g.scalars x) refl is
    where
      at_scalar : (o : Option Scalar) → slice_get g.scalars x ≡ o → option_map (λ (s : Scalar). s.variable) o ≡ Some variable → IsSharingLogged h.unit.log variable
      at_scalar None e none = absurd (none-some variable none)
      at_scalar (Some s) e named =
          let same : s.variable ≡ variable = same_Some s.variable variable named in
          let reused : IsReused u.log (home_of h f) g x variable = record { register = r; y = y; named = low; other = other; kept = kept; shared = shared; foreign = λ t. foreign (wider y t) } in
          let one : Sharing = record { function = f; number = x; scalar = s } in
          let sharing : IsSharing u.log u.graphs (home_of h) one = record { graph = g; is = subst (λ (l : List Graph). slice_get l f ≡ Some g) graphs there; of = e; reused = subst (λ v. IsReused u.log (home_of h f) g x v) (sym same) reused } in
          let listed : Among (change_of homes_pass s) h.unit.log = subst (λ (l : List Logged). Among (change_of homes_pass s) l) (sym changes.log) (among_right u.log _ (mapped (λ (z : Sharing). change_of homes_pass z.scalar) changes.sharings one (changes.all one sharing))) in
          record { change = change_of homes_pass s; logged = listed; reused = refl; of = same; named = refl }

  -- EACH NAME with the home of the scalar that is no temporary of it is told by a change
  pub shares_told : OnlyRegistersAreShared h → x < g.name_count → (y : ℕ) → y < g.name_count → y ≢ x → is_same_home (home_of h f y) (home_of h f x) ≡ true → (IsTemporaryOf h.unit.log g x variable y → ⊥) → IsSharingLogged h.unit.log variable
  shares_told only small y low other same foreign = by_homes (home_of h f y) (home_of h f x) refl refl same
    where
      by_homes : (a b : Home) → home_of h f y ≡ a → home_of h f x ≡ b → is_same_home a b ≡ true → IsSharingLogged h.unit.log variable
      by_homes (Register q) (Register r) e k s = shared_by r y low other k (e ∙ ap Register (eqb-true q r s)) foreign
      by_homes (Register q) (Slot n) e k s = absurd cc
      by_homes (Slot m) (Register r) e k s = absurd cc
      by_homes (Slot m) (Slot n) e k s = absurd (only f g y x m n there low small other e k (eqb-true m n s))

-- a scalar is a name of its graph
scalar_low : (u : UnitForm) (g : Graph) (x variable : ℕ) → IsGraph u g → IsVariable g x variable → x < g.name_count
scalar_low u g x variable valid is = at_scalar (slice_get g.scalars x) refl
  where
    at_scalar : (o : Option Scalar) → slice_get g.scalars x ≡ o → x < g.name_count
    at_scalar None e = absurd (none-some variable (sym (ap (λ o. option_map (λ (s : Scalar). s.variable) o) e) ∙ is))
    at_scalar (Some s) e =
        let inside = slice_get_within g.scalars x s e in
        let scalars = valid.scalars in
        let temporaries = valid.temporaries in
        omega (arith, inside, scalars, temporaries)

-- only registers are shared in each mode
only_by_mode : (mode : Mode) (h : HomedForm) → HaveHomes h → (mode ≡ Slots → HaveSlots h) → (mode ≡ Registers → HaveRegisters h) → OnlyRegistersAreShared h
only_by_mode Slots h homed slots rule = only_in_slots h (slots refl)
only_by_mode Registers h homed slots rule = only_by_rule h (rule refl) homed

-- EACH SHARED REGISTER IS LOGGED where homes were assigned by the rule of a mode.
pub shares_logged : (mode : Mode) (u : UnitForm) (h : HomedForm) → IsValid h.unit → HaveHomes h → (mode ≡ Slots → HaveSlots h) → (mode ≡ Registers → HaveRegisters h) → HaveChanges u h → h.unit ≡ record u { log = h.unit.log } → AreSharesLogged h
shares_logged mode u h valid homed slots rule changes same f x variable y g there is low other shared foreign =
    shares_told u h changes (ap (λ (w : UnitForm). w.graphs) same) f g there x variable is (only_by_mode mode h homed slots rule)
    (scalar_low h.unit g x variable (all_there (IsGraph h.unit) h.unit.graphs f g valid.graphs there) is) y low other shared foreign
