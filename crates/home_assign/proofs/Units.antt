-- Homes of all functions of a unit.
use Rattle.std.proofs.Common.{◌≡◌, inl, inr, ℕ, zero, suc, Some, ◌-◌, ◌<◌, ◌≤◌, List, [], ◌∷◌, ◌++◌, length, refl, sym, ap, ◌∙◌, subst, arith, append_assoc, get_or, map, take, drop}
use Rattle.std.specs.List.{AllByRecursion}
use Rattle.graph_homes.specs.declared.home.Home.{Home}
use Rattle.graph_homes.specs.declared.home.Home.TheVariants.{Register, Slot}
use Rattle.graph_homes.specs.Reused.{IsReused}
use Rattle.std.specs.Prelude.{slice_get}
use Rattle.std.specs.Option.{option_map_or}
use Rattle.std.proofs.lemmas.Option.{same_Some, slice_get-get_or, slice_get_within}
use Rattle.graph_core.proofs.Rooms.{blocks_in}
use Rattle.graph_core.specs.Graphs.{Graph, Logged, UnitForm}
use Rattle.graph_core.specs.Bounds.{most_blocks}
use Rattle.graph_core.specs.Validity.{IsGraph, IsValid, total}
use Rattle.debug_records.specs.declared.change.PassName.{PassName}
use Rattle.debug_records.specs.declared.mode.Mode.{Mode}
use Rattle.debug_records.specs.declared.mode.Mode.TheVariants.{Slots, Registers}
use Rattle.graph_homes.specs.Homed.{AreHomesOf, HomedForm, IsHomeAmong, IsHomeRegister, home_of, homes_in}
use Rattle.home_assign.specs.Sharing.{AreLogged, home_in}
use Rattle.home_assign.specs.Homes.{AreHomesFor}
use Rattle.home_assign.specs.Rule.{AreApart, AreHomes, HaveHomesApart, HaveRegisters, HaveSlots, IsHome}
use Rattle.home_assign.specs.Changes.{HaveChanges, IsSharing, Sharing, homes_pass}
use Rattle.home_assign.specs.Units.{AreChangesOfEach, AreHomesOfEach, AreLoggedOfEach, IsHomeable, no_more, of_first}
use Rattle.home_assign.proofs.Apart.{home_or, homes_apart}
use Rattle.home_assign.proofs.Numbers.{all_at}
use Rattle.home_assign.proofs.Sharings.{IsOf, all_told, ordered_pairs}
use Rattle.base_laws.proofs.Lists.{append_nil, rest_is}

all_may : (u : UnitForm) (gs : List Graph) → total (λ (g : Graph). length g.blocks) gs ≤ most_blocks u.room → AllByRecursion (IsGraph u) gs → AllByRecursion IsHomeable gs
all_may u [] few all = tt
all_may u (g ∷ gs) few all = (
  record { may = record { names = all.0.names; blocks = omega (arith, blocks_in u.room) }; scalars = omega (arith, all.0.scalars, all.0.temporaries) },
  all_may u gs (omega arith) all.1,
)

-- The names of a valid unit's graphs can have homes, and their scalars are among them.
pub valid_may : (u : UnitForm) → IsValid u → AllByRecursion IsHomeable u.graphs
valid_may u v = all_may u u.graphs v.blocks v.graphs

-- What is left of the graphs to have homes, behind those that have some.
pub data Left (mode : Mode) (graphs : List Graph) (homes : List (List Home)) (left : List Graph) : Type 0 where
  leaves : ((more : List (List Home)) → AreHomesOfEach mode left more → AreHomesOfEach mode graphs (homes ++ more)) → Left mode graphs homes left

pub left_first : (mode : Mode) (graphs : List Graph) → Left mode graphs [] graphs
left_first mode graphs = leaves (λ more of. of)

pub left_next : (mode : Mode) (graphs : List Graph) (homes all : List (List Home)) (g : Graph) (left : List Graph) (new : List Home) → all ≡ homes ++ new ∷ [] → AreHomesFor g.name_count new → AreHomes mode g new → Left mode graphs homes (g ∷ left) → Left mode graphs all left
left_next mode graphs homes all g left new e are by (leaves go) =
    let P : List (List Home) → Type 0 = λ hs. Left mode graphs hs left in
    subst P (sym e) (leaves (λ more of. (let Q : List (List Home) → Type 0 = λ hs. AreHomesOfEach mode graphs hs in
    subst Q (sym (append_assoc homes (new ∷ []) more)) (go (new ∷ more) (are, by, of)))))

pub left_none : (mode : Mode) (graphs : List Graph) (homes : List (List Home)) → Left mode graphs homes [] → AreHomesOfEach mode graphs homes
left_none mode graphs homes (leaves go) = (let Q : List (List Home) → Type 0 = λ hs. AreHomesOfEach mode graphs hs in subst Q (append_nil homes) (go [] tt))

pub may_step : {A : Type 0} (P : Graph → Type 0) (view : A → Graph) (left : List A) → 1 ≤ length left → AllByRecursion P (map view left) → AllByRecursion P (map view (take (length left - 1) (drop 1 left)))
may_step P view [] le all = absurd (omega arith)
may_step P view (y ∷ left) le all = subst (λ zs. AllByRecursion P (map view zs)) (sym (rest_is y left)) all.1

pub homes_step : {A : Type 0} (mode : Mode) (view : A → Graph) (graphs : List Graph) (left : List A) (x d : A) (homes all : List (List Home)) (new : List Home) → 1 ≤ length left → x ≡ get_or left 0 d → all ≡ homes ++ new ∷ []
    → AreHomesFor (view x).name_count new → AreHomes mode (view x) new → Left mode graphs homes (map view left) → Left mode graphs all (map view (take (length left - 1) (drop 1 left)))
homes_step mode view graphs [] x d homes all new le e made are by h = absurd (omega arith)
homes_step mode view graphs (y ∷ left) x d homes all new le e made are by h =
    subst (λ zs. Left mode graphs all (map view zs)) (sym (rest_is y left)) (left_next mode graphs homes all (view y) (map view left) new made (subst (λ z. AreHomesFor (view z).name_count new) e are) (subst (λ z. AreHomes mode (view z) new) e by) h)

pub homes_done : {A : Type 0} (mode : Mode) (view : A → Graph) (graphs : List Graph) (left : List A) (homes : List (List Home)) → length left < 1 → Left mode graphs homes (map view left) → AreHomesOfEach mode graphs homes
homes_done mode view graphs [] homes lt h = left_none mode graphs homes h
homes_done mode view graphs (y ∷ left) homes lt h = absurd (omega arith)

-- ---- The changes of all functions

-- How the log has gone on, and with the changes of what is left of the graphs will have.
pub data Logs (made : List Logged) (pass : PassName) (graphs : List Graph) (homes : List (List Home)) (left : List Graph) (old now : List Logged) : Type 0 where
  logs : (done : List Logged) → now ≡ old ++ done → ((more : List (List Home)) (rest : List Logged) → AreChangesOfEach made pass left more rest → AreChangesOfEach made pass graphs (homes ++ more) (done ++ rest)) → Logs made pass graphs homes left old now

module _ (made : List Logged) (pass : PassName) where
  pub logs_first : (graphs : List Graph) (old : List Logged) → Logs made pass graphs [] graphs old old
  logs_first graphs old = logs [] (sym (append_nil old)) (λ more rest are. are)

  logs_next : (graphs : List Graph) (homes all : List (List Home)) (g : Graph) (left : List Graph) (new : List Home) (old now then_log : List Logged) → all ≡ homes ++ new ∷ []
      → AreLogged made (home_in new) g pass g.scalars now then_log → Logs made pass graphs homes (g ∷ left) old now → Logs made pass graphs all left old then_log
  logs_next graphs homes all g left new old now then_log e logged_here (logs done is go) =
      logs (done ++ logged_here.all) (logged_here.log ∙ ap (λ cs. cs ++ logged_here.all) is ∙ append_assoc old done logged_here.all)
      (λ more rest are.
      let P : List (List Home) → List Logged → Type 0 = λ hs cs. AreChangesOfEach made pass graphs hs cs in
      subst (λ hs. P hs ((done ++ logged_here.all) ++ rest)) (sym (ap (λ hs. hs ++ more) e ∙ append_assoc homes (new ∷ []) more))
      (subst (λ cs. P (homes ++ new ∷ more) cs) (sym (append_assoc done logged_here.all rest)) (go (new ∷ more) (logged_here.all ++ rest) (of_first logged_here.are are))))

  logs_none : (graphs : List Graph) (homes : List (List Home)) (old now : List Logged) → Logs made pass graphs homes [] old now → AreLoggedOfEach made pass graphs homes old now
  logs_none graphs homes old now (logs done is go) = record {
    all = done;
    are = (let P : List (List Home) → List Logged → Type 0 = λ hs cs. AreChangesOfEach made pass graphs hs cs in subst (λ hs. P hs done) (append_nil homes) (subst (λ cs. P (homes ++ []) cs) (append_nil done) (go [] [] no_more)));
    log = is;
  }

  pub logs_step : {A : Type 0} (view : A → Graph) (graphs : List Graph) (left : List A) (x d : A) (homes all : List (List Home)) (new : List Home) (old now then_log : List Logged) → 1 ≤ length left → x ≡ get_or left 0 d → all ≡ homes ++ new ∷ []
      → AreLogged made (home_in new) (view x) pass (view x).scalars now then_log → Logs made pass graphs homes (map view left) old now → Logs made pass graphs all (map view (take (length left - 1) (drop 1 left))) old then_log
  logs_step view graphs [] x d homes all new old now then_log le e put here h = absurd (omega arith)
  logs_step view graphs (y ∷ left) x d homes all new old now then_log le e put here h =
      subst (λ zs. Logs made pass graphs all (map view zs) old then_log) (sym (rest_is y left))
      (logs_next graphs homes all (view y) (map view left) new old now then_log put (subst (λ z. AreLogged made (home_in new) (view z) pass (view z).scalars now then_log) e here) h)

  pub logs_done : {A : Type 0} (view : A → Graph) (graphs : List Graph) (left : List A) (homes : List (List Home)) (old now : List Logged) → length left < 1 → Logs made pass graphs homes (map view left) old now → AreLoggedOfEach made pass graphs homes old now
  logs_done view graphs [] homes old now lt h = logs_none graphs homes old now h
  logs_done view graphs (y ∷ left) homes old now lt h = absurd (omega arith)

-- the registers of homes are numbers below 32
pub registers_small : (names : ℕ) (homes : List Home) → AreHomesFor names homes → (x r : ℕ) → slice_get homes x ≡ Some (Register r) → r < 32
registers_small names homes are x r is = small r (all_at (IsHomeAmong names) homes x (Register r) are.among is)
  where
    small : (q : ℕ) → IsHomeRegister q → q < 32
    small q (inl e) = omega (arith, e)
    small q (inr h) = omega (arith, h.1)

-- ---- What it says of the unit

pub each_has : (mode : Mode) (graphs : List Graph) (homes : List (List Home)) → AreHomesOfEach mode graphs homes → AreHomesOf graphs homes
each_has mode [] [] of = tt
each_has mode [] (new ∷ more) of = of
each_has mode (g ∷ graphs) [] of = of
each_has mode (g ∷ graphs) (new ∷ more) of = (of.0.each, of.0.among, each_has mode graphs more of.2)

each_at : (mode : Mode) (graphs : List Graph) (homes : List (List Home)) → AreHomesOfEach mode graphs homes → (f : ℕ) (g : Graph) → slice_get graphs f ≡ Some g → (own : List Home) × (slice_get homes f ≡ Some own) × AreHomesFor g.name_count own × AreHomes mode g own
each_at mode [] homes of f g is = absurd (omega (arith, slice_get_within [] f g is))
each_at mode (d ∷ graphs) [] of f g is = absurd of
each_at mode (d ∷ graphs) (new ∷ more) of zero g is =
    let same : d ≡ g = same_Some d g is in
    (new, refl, subst (λ e. AreHomesFor e.name_count new) same of.0, subst (λ e. AreHomes mode e new) same of.1)
each_at mode (d ∷ graphs) (new ∷ more) of (suc f) g is = each_at mode graphs more of.2 f g is

own_at : (graphs : List Graph) (homes : List (List Home)) → AreHomesOf graphs homes → (f : ℕ) (g : Graph) → slice_get graphs f ≡ Some g → (own : List Home) × (slice_get homes f ≡ Some own)
own_at [] homes of f g is = absurd (omega (arith, slice_get_within [] f g is))
own_at (d ∷ graphs) [] of f g is = absurd of
own_at (d ∷ graphs) (new ∷ more) of zero g is = (new, refl)
own_at (d ∷ graphs) (new ∷ more) of (suc f) g is = own_at graphs more of.2 f g is

module _ (h : HomedForm) (f : ℕ) (own : List Home) (is : slice_get h.homes f ≡ Some own) where
  own_homes : homes_in h f ≡ own
  own_homes = ap (λ o. option_map_or (λ homes. homes) o []) is

  own_home : (x : ℕ) → home_of h f x ≡ home_or (slice_get own x)
  own_home x = ap (λ homes. home_or (slice_get homes x)) own_homes

module _ (h : HomedForm) where
  pub unit_slots : (mode : Mode) → AreHomesOfEach mode h.unit.graphs h.homes → mode ≡ Slots → HaveSlots h
  unit_slots Slots of e f g is x lt = (let own = each_at Slots h.unit.graphs h.homes of f g is in own_home h f own.0 own.1 x ∙ ap home_or (own.3 x lt))
  unit_slots Registers of e f g is x lt = absurd (let other : Registers ≡ Slots = e in cc)

  pub unit_registers : (mode : Mode) → AreHomesOfEach mode h.unit.graphs h.homes → mode ≡ Registers → HaveRegisters h
  unit_registers Slots of e f g is x lt = absurd (let other : Slots ≡ Registers = e in cc)
  unit_registers Registers of e f g is x lt =
      let own = each_at Registers h.unit.graphs h.homes of f g is in
      let at : slice_get own.0 x ≡ Some (home_or (slice_get own.0 x)) = (let there = slice_get-get_or own.0 x (Slot 0) (omega (arith, lt, own.2.each)) in there ∙ ap (λ k. Some k) (sym (ap home_or there))) in
      let P : List Home → Type 0 = λ homes. IsHome g (take x homes) x (home_or (slice_get homes x)) in
      subst P (sym (own_homes h f own.0 own.1)) (own.3 x (home_or (slice_get own.0 x)) at)

  pub unit_apart : (mode : Mode) → AreHomesOfEach mode h.unit.graphs h.homes → HaveHomesApart h
  unit_apart mode of f g is =
      let own = each_at mode h.unit.graphs h.homes of f g is in
      let P : List Home → Type 0 = λ homes. AreApart g (λ x. home_or (slice_get homes x)) in
      subst P (sym (own_homes h f own.0 own.1)) (homes_apart g mode own.0 own.2.each own.3)

  -- The changes are those of the scalars that share their registers.
  pub unit_changes : (u : UnitForm) → h.unit.graphs ≡ u.graphs → AreHomesOf h.unit.graphs h.homes → AreLoggedOfEach u.log homes_pass h.unit.graphs h.homes u.log h.unit.log → HaveChanges u h
  unit_changes u graphs have logged_all =
      let told = all_told u.log homes_pass 0 h.unit.graphs h.homes logged_all.all logged_all.are in
      record {
        sharings = told.sharings;
        in_order = ordered_pairs told.sharings told.ordered;
        only = λ s among. of_sharing s (told.only s among);
        all = λ s is. told.each s (sharing_of s is);
        log = logged_all.log ∙ ap (λ cs. u.log ++ cs) told.changes;
      }
    where
      of_sharing : (s : Sharing) → IsOf u.log homes_pass 0 h.unit.graphs h.homes s → IsSharing u.log u.graphs (home_of h) s
      of_sharing s is =
          let at : is.at ≡ s.function = omega (arith, is.function) in
          let P : List Home → Type 0 = λ homes. IsReused u.log (home_in homes) is.graph s.number s.scalar.variable in
          record {
            graph = is.graph;
            is = ap (λ gs. slice_get gs s.function) (sym graphs) ∙ ap (slice_get h.unit.graphs) (sym at) ∙ is.there;
            of = is.of;
            reused = subst P (sym (own_homes h s.function is.own_homes (ap (slice_get h.homes) (sym at) ∙ is.kept))) is.reused;
          }

      sharing_of : (s : Sharing) → IsSharing u.log u.graphs (home_of h) s → IsOf u.log homes_pass 0 h.unit.graphs h.homes s
      sharing_of s is =
          let there : slice_get h.unit.graphs s.function ≡ Some is.graph = ap (λ gs. slice_get gs s.function) graphs ∙ is.is in
          let own = own_at h.unit.graphs h.homes have s.function is.graph there in
          let P : List Home → Type 0 = λ homes. IsReused u.log (home_in homes) is.graph s.number s.scalar.variable in
          record { at = s.function; graph = is.graph; own_homes = own.0; function = omega arith; there = there; kept = own.1; of = is.of; reused = subst P (own_homes h s.function own.0 own.1) is.reused }
