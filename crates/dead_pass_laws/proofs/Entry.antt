-- Writes that went along a path, and the entry: a parameter's scalar is not stale in the entry's place.
use Rattle.std.proofs.Common.{◌≡◌, ℕ, zero, suc, ◌<◌, inl, inr, true, false, true≢false, Option, Some, None, List, [], ◌∷◌, ◌++◌, length, refl, sym, ap, ◌∙◌, subst, arith}
use Rattle.std.specs.Prelude.{◌==◌, ◌&&◌, option_map, slice_get}
use Rattle.std.specs.Option.{option_map_or}
use Rattle.std.proofs.lemmas.Bool.{cases_Bool}
use Rattle.std.proofs.lemmas.Option.{none-some, same_Some}
use Rattle.places.specs.Flow.{assigns}
use Rattle.places.specs.declared.flow.Assignment.{Assignment}
use Rattle.graph_core.specs.declared.value.Value.{Value}
use Rattle.graph_core.specs.Graphs.{Instruction, Marker, Note, Move, Operate, Truncate, Same, Address, Load, Store, Zero, CopyWords, Call, Scalar, End, Block, Graph, Logged, UnitForm}
use Rattle.graph_core.specs.Paths.{History, Way, stays, passes, goes, Path, path, place_by, place_of, is_marker, is_bound}
use Rattle.graph_core.specs.Points.{StandsWith, assignments_in}
use Rattle.graph_core.specs.Uses.{target_of}
use Rattle.graph_core.specs.WellMarked.{IsVariable}
use Rattle.graph_core_weights.proofs.Standing.{StandsSo, path_stands, marker_once}
use Rattle.dead_pass_rule.specs.Idle.{MayGo, assigns_scalar, IsIdle, idle, Goes}
use Rattle.dead_pass_notes.specs.Stale.{Went, IsStale, went, before as stale_before}
use Rattle.dead_pass_laws.proofs.Came.{IsTaken}
use Rattle.dead_pass_laws.proofs.Once.{not_bound}
use Rattle.dead_pass_laws.proofs.Points.{path_at, stands_path, same_behind, rest_same}
use Rattle.dead_pass_laws.proofs.Values.{target_written}

-- The place in force behind what is no marker is that before it.
pub place_plain : (i : Instruction) (place : Option ℕ) → is_marker i ≡ false → place_by i place ≡ place
place_plain (Marker p) place plain = absurd (true≢false plain)
place_plain (Note x v) place plain = refl
place_plain (Move x a) place plain = refl
place_plain (Operate x o a b) place plain = refl
place_plain (Truncate x t a) place plain = refl
place_plain (Same x a b) place plain = refl
place_plain (Address x o) place plain = refl
place_plain (Load x f l) place plain = refl
place_plain (Store f l a) place plain = refl
place_plain (Zero o w) place plain = refl
place_plain (CopyWords o w v) place plain = refl
place_plain (Call x f all) place plain = refl

-- Behind a marker its place is in force.
pub marker_is : (i : Instruction) (place : Option ℕ) (p : ℕ) → is_marker i ≡ true → place_by i place ≡ Some p → i ≡ Marker p
marker_is (Marker q) place p it at = ap Marker (same_Some q p at)
marker_is (Note x v) place p it at = absurd (true≢false (sym it))
marker_is (Move x a) place p it at = absurd (true≢false (sym it))
marker_is (Operate x o a b) place p it at = absurd (true≢false (sym it))
marker_is (Truncate x t a) place p it at = absurd (true≢false (sym it))
marker_is (Same x a b) place p it at = absurd (true≢false (sym it))
marker_is (Address x o) place p it at = absurd (true≢false (sym it))
marker_is (Load x f l) place p it at = absurd (true≢false (sym it))
marker_is (Store f l a) place p it at = absurd (true≢false (sym it))
marker_is (Zero o w) place p it at = absurd (true≢false (sym it))
marker_is (CopyWords o w v) place p it at = absurd (true≢false (sym it))
marker_is (Call x f all) place p it at = absurd (true≢false (sym it))

-- What writes a name is no marker.
pub plain_target : (x : ℕ) (i : Instruction) → target_of i ≡ Some x → is_marker i ≡ false
plain_target x (Marker p) target = cc
plain_target x (Note y v) target = refl
plain_target x (Move y a) target = refl
plain_target x (Operate y o a b) target = refl
plain_target x (Truncate y t a) target = refl
plain_target x (Same y a b) target = refl
plain_target x (Address y o) target = refl
plain_target x (Load y f l) target = refl
plain_target x (Store f l a) target = refl
plain_target x (Zero o w) target = refl
plain_target x (CopyWords o w v) target = refl
plain_target x (Call y f all) target = refl

-- A number whose scalar has a variable is that of a scalar.
pub variable_scalar : (all : List Scalar) (x variable : ℕ) → option_map (λ (s : Scalar). s.variable) (slice_get all x) ≡ Some variable → x < length all
variable_scalar [] x variable is = absurd (none-some variable is)
variable_scalar (s ∷ all) zero variable is = omega arith
variable_scalar (s ∷ all) (suc x) variable is = (let later = variable_scalar all x variable is in omega (arith, later))

-- A place assigns the variable of a scalar just where it assigns the variable.
pub scalar_assigns : (assignments : List Assignment) (g : Graph) (p x variable : ℕ) → IsVariable g x variable → assigns_scalar assignments g p x ≡ assigns assignments p variable
scalar_assigns assignments g p x variable is = by_scalar (slice_get g.scalars x) is
  where
    by_scalar : (o : Option Scalar) → option_map (λ (s : Scalar). s.variable) o ≡ Some variable → option_map_or (λ (s : Scalar). assigns assignments p s.variable) o false ≡ assigns assignments p variable
    by_scalar None none = absurd (none-some variable none)
    by_scalar (Some s) some = ap (assigns assignments p) (same_Some s.variable variable some)

-- A write of a scalar that goes stands in a place that assigns its variable, and writes it once.
pub record IsOnceIn (assignments : List Assignment) (g : Graph) (x m : ℕ) (rest : List Instruction) (e : End) : Type 0 where
  pub place : ℕ
  pub stands : StandsWith g place m rest e
  pub once : assignments_in g place x ≡ 1
  pub assigned : assigns_scalar assignments g place x ≡ true

-- a write of a scalar that is idle stands in one
idle_once : {assignments : List Assignment} → (g : Graph) (x m : ℕ) (j : Instruction) (more : List Instruction) (f : End) → target_of j ≡ Some x → x < length g.scalars → IsIdle assignments g m (j ∷ more) f → IsOnceIn assignments g x m (j ∷ more) f
idle_once {assignments} g x m j more f target less (idle {p} {x = y} stands written may computes further) = (let both = by_may may in record { place = p; stands = stands; once = both.0; assigned = both.1 })
  where
    one : y ≡ x
    one = same_Some y x (sym written ∙ target)

    by_may : MayGo assignments g p y → (assignments_in g p x ≡ 1) × (assigns_scalar assignments g p x ≡ true)
    by_may (inl over) = absurd (omega (arith, over, less, one))
    by_may (inr both) = (sym (ap (assignments_in g p) one) ∙ both.0, sym (ap (assigns_scalar assignments g p) one) ∙ both.1)

-- So does one that goes.
pub goes_once : {assignments : List Assignment} → (g : Graph) (x m : ℕ) (j : Instruction) (more : List Instruction) (f : End) → target_of j ≡ Some x → x < length g.scalars → Goes assignments g m (j ∷ more) f → IsOnceIn assignments g x m (j ∷ more) f
goes_once g x m j more f target less it_goes = idle_once g x m j more f target less it_goes.idle

module _ (u : UnitForm) (log : List Logged) (g : Graph) (blocks : List Block) (taken : IsTaken u log g blocks) where
  -- A write of a scalar that goes on a path stands in a place that assigns its variable.
  pub goes_assigned : (h : History) (n : ℕ) (i : Instruction) (rest : List Instruction) (e : End) (x variable p : ℕ) → Path g h n (i ∷ rest) e → place_of h ≡ Some p → target_of i ≡ Some x → IsVariable g x variable
      → Goes u.assignments g n (i ∷ rest) e → assigns u.assignments p variable ≡ true
  goes_assigned h n i rest e x variable p along at target is it_goes =
      let o = goes_once g x n i rest e target (variable_scalar g.scalars x variable is) it_goes in
      let one : o.place ≡ p = same_Some o.place p (sym (stands_path u g taken.valid taken.marked h n i rest e o.place along (plain_target x i target) o.stands) ∙ at) in
      sym (scalar_assigns u.assignments g p x variable is) ∙ ap (λ q. assigns_scalar u.assignments g q x) (sym one) ∙ o.assigned

  -- What went of a path goes at its point.
  pub went_goes : (h : History) (n : ℕ) (i : Instruction) (rest : List Instruction) (e : End) (v : Value) → Path g h n (i ∷ rest) e → Went u.assignments g (record { block = n; left = length rest; instruction = i; wrote = v }) → Goes u.assignments g n (i ∷ rest) e
  went_goes h n i rest e v along w =
      let s = path_at u g taken.valid taken.marked along in
      let one : w.behind.block ≡ s.block = same_Some w.behind.block s.block (sym w.behind.is ∙ s.is) in
      let parts : w.behind.before ++ i ∷ w.rest ≡ s.before ++ i ∷ rest = sym w.behind.instructions ∙ ap (λ (b : Block). b.instructions) one ∙ s.instructions in
      let left : w.rest ≡ rest = rest_same (same_behind w.behind.before s.before (i ∷ w.rest) (i ∷ rest) (ap suc w.left) parts) in
      let ends : w.end ≡ e = w.behind.ends ∙ ap (λ (b : Block). b.end) one ∙ sym s.ends in
      subst (λ f. Goes u.assignments g n (i ∷ rest) f) ends (subst (λ l. Goes u.assignments g n (i ∷ l) w.end) left w.goes)

  -- Only at its beginning a path comes to the entry's marker.
  entry_first : (h : History) (n : ℕ) (rest : List Instruction) (e : End) → Path g h n (Marker g.entry ∷ rest) e → h ≡ []
  entry_first h n rest e (path b at way) =
      let begins = taken.marked.begins b at in
      let s : StandsSo g b h n (Marker g.entry ∷ rest) e = path_stands g b at begins.0 begins.1 taken.marked.first (path b at way) in
      let only = marker_once g.blocks b g.entry begins.0 at begins.1 taken.different n s.block s.passed rest s.there s.whole in
      s.only only.0 only.1

  module _ (x : ℕ) (scalar : x < length g.scalars) (bound : (g.entry == g.entry && is_bound x g.parameters) ≡ true) where
    -- nothing is stale where nothing was passed
    none_stale : (h : History) → h ≡ [] → IsStale u.assignments g x h → ⊥
    none_stale h none stale = absurd_first (subst (λ l. IsStale u.assignments g x l) none stale)
      where
        absurd_first : IsStale u.assignments g x [] → ⊥
        absurd_first s = elim s [ ]

    -- a write of it in the entry's place does not go
    goes_not : (h : History) (n : ℕ) (i : Instruction) (rest : List Instruction) (e : End) → Path g h n (i ∷ rest) e → target_of i ≡ Some x → place_of h ≡ Some g.entry → Goes u.assignments g n (i ∷ rest) e → ⊥
    goes_not h n i rest e along target place it_goes =
        let o = goes_once g x n i rest e target scalar it_goes in
        let one : o.place ≡ g.entry = same_Some o.place g.entry (sym (stands_path u g taken.valid taken.marked h n i rest e o.place along (plain_target x i target) o.stands) ∙ place) in
        let stands : StandsWith g g.entry n (i ∷ rest) e = subst (λ p. StandsWith g p n (i ∷ rest) e) one o.stands in
        true≢false (sym bound ∙ not_bound g g.entry x (sym (ap (λ p. assignments_in g p x) one) ∙ o.once) n i rest e stands target)

    module _ (b : Block) (at : slice_get g.blocks 0 ≡ Some b) where
      -- so it is along a way from the first block
      way_fresh : {h : History} {n : ℕ} {rest : List Instruction} {e : End} → Way g 0 b.instructions b.end h n rest e → place_of h ≡ Some g.entry → IsStale u.assignments g x h → ⊥
      way_fresh stays place stale = none_stale [] refl stale
      way_fresh (passes {h} {n} {i} {left} {e} way v) place (went it w) =
          let target = target_written x i it in
          goes_not h n i left e (path b at way) target (sym (place_plain i (place_of h) (plain_target x i target)) ∙ place) (went_goes h n i left e v (path b at way) w)
      way_fresh (passes {h} {n} {i} {left} {e} way v) place (stale_before other s) = elim (cases_Bool (is_marker i)) [
        | inl marks ↦ none_stale h (entry_first h n left e (subst (λ j. Path g h n (j ∷ left) e) (marker_is i (place_of h) g.entry marks place) (path b at way))) s
        | inr plain ↦ way_fresh way (sym (place_plain i (place_of h) plain) ∙ place) s
      ]
      way_fresh (goes way to c there) place stale = way_fresh way place stale

    -- A scalar that a parameter is bound to is not stale in the entry's place.
    pub bound_fresh : (h : History) (n : ℕ) (rest : List Instruction) (e : End) → Path g h n rest e → place_of h ≡ Some g.entry → IsStale u.assignments g x h → ⊥
    bound_fresh h n rest e (path b at way) place stale = way_fresh b at way place stale
