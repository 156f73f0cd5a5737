-- Between a write of a scalar and its note there is no call and no marker.
use Rattle.std.proofs.Common.{◌≡◌, ℕ, ◌≤◌, ◌<◌, Bool, true, false, Option, Some, None, List, [], ◌∷◌, slice_get, refl, sym, ap, ◌∙◌, subst, arith, if◌then◌else◌, ◌==◌}
use Rattle.std.specs.Prelude.{◌||◌}
use Rattle.std.proofs.lemmas.Bool.Decides.{nat_tests}
use Rattle.graph_core.specs.Graphs.{Instruction, Marker, Note, Is, Of, Name, End, Block}
use Rattle.graph_core.specs.Uses.{target_of, targets_of, is_computation}
use Rattle.graph_core.specs.Paths.{Among, is_marker, is_call, notes, writes}
use Rattle.graph_build_names.specs.Writes.{is_that}
use Rattle.graph_build_steps.specs.Drafts.{Made}
use Rattle.graph_build_laws.specs.Points.{AtLabel, StandIn}
use Rattle.graph_build_laws.proofs.Instances.{to_one, to_two, to_none}
use Rattle.image_truth_units.proofs.Rules.{no_name, IsNoting}
use Rattle.image_truth_units.proofs.Standing.{closed_before, closed_at, grown, no_marker, no_note, no_call, writes_target}
use Rattle.base_laws.proofs.Numbers.{false_true}

-- whether a scalar waits for its note behind an instruction
abbrev pub waiting : ℕ → Instruction → Bool → Bool
waiting x i b = if notes x i then false else writes x i || b

-- Where a scalar waits for its note or does not, no way from here comes to a call or a marker while it does.
pub data Due (blocks : List Block) (x : ℕ) : Bool → List Instruction → End → Type 0 where
  marks : {p : ℕ} {rest : List Instruction} {e : End} → Due blocks x false (Marker p ∷ rest) e
  step : {b : Bool} {i : Instruction} {rest : List Instruction} {e : End} → is_marker i ≡ false → (b ≡ true → is_call i ≡ false) → Due blocks x (waiting x i b) rest e → Due blocks x b (i ∷ rest) e
  over : {b : Bool} {e : End} → ((l : ℕ) → Among l (targets_of e) → (d : Block) → slice_get blocks l ≡ Some d → Due blocks x b d.instructions d.end) → Due blocks x b [] e

module _ (blocks : List Block) (x scalars : ℕ) (few : x < scalars) (place top : ℕ) (may : ℕ → Type 0) where
  abbrev D : Bool → List Instruction → End → Type 0
  D b rest e = Due blocks x b rest e

  abbrev pub HasDue : Option ℕ → Made → Type 0
  HasDue w m = StandIn blocks top m.inner → D false m.ops m.end × (is_that x w ≡ true → D true m.ops m.end)

  abbrev pub LeadsDue : (label : ℕ) → List Block → Type 0
  LeadsDue l inner = StandIn blocks top inner → AtLabel blocks (Due blocks x false) l

  abbrev pub AnyStand : List Block → Type 0
  AnyStand inner = Unit {0}

  -- what waits behind a computation
  state : (i : Instruction) (z : ℕ) (b : Bool) → is_computation i ≡ true → target_of i ≡ Some z → waiting x i b ≡ ((z == x) || b)
  state i z b comp tgt = ap (λ c. if c then false else writes x i || b) (no_note x i comp) ∙ ap (λ c. c || b) (writes_target x z i tgt)

  computed : (i : Instruction) (z : ℕ) (b : Bool) (rest : List Instruction) (e : End) → is_computation i ≡ true → target_of i ≡ Some z → D ((z == x) || b) rest e → D b (i ∷ rest) e
  computed i z b rest e comp tgt h = step (no_marker i comp) (λ k. no_call i comp) (subst (λ c. D c rest e) (sym (state i z b comp tgt)) h)

  by_test : (c : Bool) (rest : List Instruction) (e : End) → D false rest e → (c ≡ true → D true rest e) → D (c || false) rest e
  by_test true rest e h k = k refl
  by_test false rest e h k = h

  far : (z : ℕ) → scalars ≤ z → (z == x) ≡ false
  far z le = grind (arith, nat_tests, few)

  -- a note
  pub noting : (z : ℕ) (b : Bool) (rest : List Instruction) (e : End) → D false rest e → ((z == x) ≡ false → D b rest e) → D b (Note z (Is (Of (Name z))) ∷ rest) e
  noting z b rest e h k = step refl (λ c. refl) (by (z == x) refl)
    where
      by : (c : Bool) → (z == x) ≡ c → D (if c then false else (false || b)) rest e
      by true e = h
      by false e = k e

  -- two names are apart, if one is this and the other is none that waits
  apart : (z : ℕ) (w : Option ℕ) → is_that z w ≡ false → is_that x w ≡ true → (z == x) ≡ false
  apart z None off is = absurd (false_true is)
  apart z (Some v) off is = grind (arith, nat_tests)

  behind_change : (i : Instruction) (z : ℕ) (rest : List Instruction) (e : End) → is_computation i ≡ true → target_of i ≡ Some z → (z == x) ≡ false → D true rest e → D true (i ∷ rest) e
  behind_change i z rest e comp tgt off h = computed i z true rest e comp tgt (subst (λ c. D (c || true) rest e) (sym off) h)

  changed : (i : Instruction) (z : ℕ) (m : Made) → is_computation i ≡ true → target_of i ≡ Some z → D false m.ops m.end → D false (i ∷ Note z (Is (Of (Name z))) ∷ m.ops) m.end
  changed i z m comp tgt h = computed i z false _ m.end comp tgt (by (z == x) refl)
    where
      by : (c : Bool) → (z == x) ≡ c → D (c || false) (Note z (Is (Of (Name z))) ∷ m.ops) m.end
      by true e = noting z true m.ops m.end h (λ d. absurd (false_true (sym d ∙ e)))
      by false e = noting z false m.ops m.end h (λ d. h)

  pub due_noting : IsNoting scalars place top no_name may HasDue LeadsDue AnyStand
  due_noting = record {
    write = λ i z m comp tgt c k st. (computed i z false m.ops m.end comp tgt (by_test (z == x) m.ops m.end (k refl st).0 (k refl st).1), λ e. absurd (false_true e));
    fresh = λ z m le k st. ((k st).0, λ e. absurd (false_true (sym (far z le) ∙ e)));
    pass = λ w i z m comp tgt le c k st. (
      computed i z false m.ops m.end comp tgt (subst (λ d. D (d || false) m.ops m.end) (sym (far z le)) (k refl st).0),
      λ e. behind_change i z m.ops m.end comp tgt (far z le) ((k refl st).1 e),
    );
    store = λ w el l a m c k st. (step refl (λ d. refl) (k st).0, λ e. step refl (λ d. refl) ((k st).1 e));
    change = λ w i z m comp tgt off may' c k st. (
      changed i z m comp tgt (k st).0,
      λ e. behind_change i z _ m.end comp tgt (apart z w off e) (noting z true m.ops m.end (k st).0 (λ d. (k st).1 e)),
    );
    noted = λ z m may' k st. (noting z false m.ops m.end (k st).0 (λ e. (k st).0), λ e. noting z true m.ops m.end (k st).0 (λ d. absurd (false_true (sym d ∙ e))));
    zero = λ o k m h st. (step refl (λ d. refl) (h st).0, λ e. absurd (false_true e));
    copy = λ o d k m h st. (step refl (λ d. refl) (h st).0, λ e. absurd (false_true e));
    call = λ z f all m c k st. (step refl (λ d. absurd (false_true d)) (by_test (z == x) m.ops m.end (k refl st).0 (k refl st).1), λ e. absurd (false_true e));
    call_none = λ f all m c k st. (step refl (λ d. absurd (false_true d)) (k st).0, λ e. absurd (false_true e));
    jump = λ l inner h st. (over (to_one (AtLabel blocks (Due blocks x false)) l (h st)), λ e. absurd (false_true e));
    branch = λ o a d one other inner s r h k st. (over (to_two (AtLabel blocks (Due blocks x false)) one other (h st) (k st)), λ e. absurd (false_true e));
    end = λ a inner c h st. (over (to_none (AtLabel blocks (Due blocks x false))), λ e. absurd (false_true e));
    close = λ m has st. closed_at blocks top (Due blocks x false) place m st (has (closed_before blocks top place m st)).0;
    keep = λ m l inner g has h st. h (grown blocks top inner m.inner g (closed_before blocks top place m st));
    made = λ m has. tt;
    shut = λ m has. tt;
  }
