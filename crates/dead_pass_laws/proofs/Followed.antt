-- A path of the graph after and the path of the graph before that it follows: what is so of the one is so of the other, but for what went.
use Rattle.std.proofs.Common.{◌≡◌, ℕ, ◌⊎◌, inl, inr, Bool, true, false, true≢false, Some, List, [], ◌∷◌, length, refl, sym, ap, ◌∙◌}
use Rattle.std.specs.Prelude.{◌==◌, ◌||◌, if◌then◌else◌, slice_get}
use Rattle.std.proofs.lemmas.Bool.{cases_Bool, and_parts, eqb-true, or_parts, or_from, or_left, or_right}
use Rattle.graph_core.specs.declared.value.Value.{Value}
use Rattle.graph_core.specs.Graphs.{Instruction, End, Block, Graph, Logged, UnitForm}
use Rattle.graph_core.specs.Paths.{History, Among, Path, place_by, place_of, writes, is_marker, is_call, notes, called, is_bound, bound_at, written, unnoted, owed, owed_by}
use Rattle.graph_core.specs.Points.{Behind, StandsWith}
use Rattle.graph_core.specs.Uses.{targets_of, is_computation}
use Rattle.dead_pass_rule.specs.Idle.{Goes}
use Rattle.dead_pass_laws.proofs.Came.{reduced_graph, IsTaken}
use Rattle.dead_pass_laws.proofs.Entry.{place_plain, marker_is}
use Rattle.dead_pass_laws.proofs.Lags.{Lags, lags_behind, lags_on, lags_first}
use Rattle.dead_pass_laws.proofs.Points.{path_at, path_stands}
use Rattle.dead_pass_laws.proofs.Values.{target_written}
use Rattle.dead_pass_laws.specs.Staying.{IsLeft, StaysWritten, instruction, bound, GoesIn}
use Rattle.dead_pass_laws.proofs.Instructions.{IsPlain, computed_plain, IsLike, kept_writes, said_kept, left_like, StaysOrCalls, left_cases, owed_plain, owed_marker}

-- ---- Tests

-- What is chosen where a test holds,
if_true : (b y z : Bool) → b ≡ true → (if b then y else z) ≡ y
if_true b y z e = ap (λ c. if c then y else z) e

-- and where it does not.
if_false : (b y z : Bool) → b ≡ false → (if b then y else z) ≡ z
if_false b y z e = ap (λ c. if c then y else z) e

-- Where neither a write nor what was before tells, what was before does not.
none_before : (m w b : Bool) → m ≡ false → (if m then false else w || b) ≡ false → b ≡ false
none_before m w b plain none = (or_parts w b (sym (if_false m false (w || b) plain) ∙ none)).1

-- Of less less is told.
less_told : (m w v b c : Bool) → (w ≡ false → v ≡ false) → (b ≡ false → c ≡ false) → (if m then false else w || b) ≡ false → (if m then false else v || c) ≡ false
less_told true w v b c write before none = refl
less_told false w v b c write before none = (let both = or_parts w b none in or_from v c (write both.0) (before both.1))

module _ (u : UnitForm) (log : List Logged) (g : Graph) (blocks : List Block) (taken : IsTaken u log g blocks) where
  -- A name lags where a path has come, and a write of it that goes stands in the place in force.
  pub record LagsHere (x : ℕ) (hist : History) (n : ℕ) (rest : List Instruction) (e : End) : Type 0 where
    pub lags : Lags u.assignments g x hist n rest e
    pub goes_here : (p : ℕ) → place_of hist ≡ Some p → GoesIn u.assignments g p x

  -- A name was written in the place in force on the path of the graph after, by what stays.
  pub record IsStill (x : ℕ) (hist after : History) : Type 0 where
    pub was_written : written (reduced_graph g blocks) x after ≡ true
    pub stays_written : (p : ℕ) → place_of hist ≡ Some p → StaysWritten u.assignments g p x

  -- A history of the graph before and one of the graph after that follows it: the places are the same, calls too, no more is owed, and a name that was written in the place was written, or lags.
  pub record IsFollowed (hist after : History) (n : ℕ) (rest : List Instruction) (e : End) : Type 0 where
    pub same_place : place_of after ≡ place_of hist
    pub same_called : called after ≡ called hist
    pub none_unnoted : (x : ℕ) → unnoted x hist ≡ false → unnoted x after ≡ false
    pub none_owed : (assigns : ℕ → Bool) (x : ℕ) → owed assigns x hist ≡ false → owed assigns x after ≡ false
    pub still_written : (x : ℕ) → written g x hist ≡ true → LagsHere x hist n rest e ⊎ IsStill x hist after

  -- So it is where both begin,
  pub followed_first : (n : ℕ) (rest : List Instruction) (e : End) → IsFollowed [] [] n rest e
  followed_first n rest e = record { same_place = refl; same_called = refl; none_unnoted = λ x none. none; none_owed = λ assigns x none. none; still_written = λ x it. absurd (true≢false (sym it)) }

  -- where they go on to a block,
  pub followed_on : (hist after : History) (n l : ℕ) (e : End) (b : Block) → Among l (targets_of e) → slice_get g.blocks l ≡ Some b → IsFollowed hist after n [] e → IsFollowed hist after l b.instructions b.end
  followed_on hist after n l e b to at old = record {
    same_place = old.same_place;
    same_called = old.same_called;
    none_unnoted = old.none_unnoted;
    none_owed = old.none_owed;
    still_written = λ x it. elim (old.still_written x it) [
      | inl here ↦ inl (record { lags = lags_on g x hist n l e b to at here.lags; goes_here = here.goes_here })
      | inr still ↦ inr still
    ];
  }

  module _ (hist after : History) (n : ℕ) (i : Instruction) (rest : List Instruction) (e : End) (w : Value) (along : Path g hist n (i ∷ rest) e) (old : IsFollowed hist after n (i ∷ rest) e) where
    -- the history behind the instruction
    abbrev longer : History
    longer = record { block = n; left = length rest; instruction = i; wrote = w } ∷ hist

    -- where the instruction stands
    behind : Behind g i n rest e
    behind = (let at = path_at u g taken.valid taken.marked along in record { block = at.block; before = at.before; is = at.is; instructions = at.instructions; ends = at.ends })

    module _ (plain : is_marker i ≡ false) where
      -- the place in force is in force behind it
      place_same : (p : ℕ) → place_of longer ≡ Some p → place_of hist ≡ Some p
      place_same p place = sym (place_plain i (place_of hist) plain) ∙ place

      -- so it stands in that place
      stands_here : (p : ℕ) → place_of longer ≡ Some p → StandsWith g p n (i ∷ rest) e
      stands_here p place = path_stands u g taken.valid taken.marked hist n i rest e p along plain (place_same p place)

      -- Where it goes, a name that it writes lags behind it.
      lags_new : (x : ℕ) → writes x i ≡ true → Goes u.assignments g n (i ∷ rest) e → LagsHere x longer n rest e
      lags_new x it goes = record {
        lags = lags_first g x hist n i rest e w behind (target_written x i it) goes;
        goes_here = λ p place. record { n = n; instruction = i; rest = rest; end = e; stands = stands_here p place; target = target_written x i it; goes = goes };
      }

      -- One that it does not write was written before it,
      written_before : (x : ℕ) → writes x i ≡ false → written g x longer ≡ true → written g x hist ≡ true
      written_before x other it = sym (ap (λ b. b || written g x hist) other) ∙ sym (if_false (is_marker i) (bound_at g x i) (writes x i || written g x hist) plain) ∙ it

      -- and lags on where it lagged.
      lags_still : (x : ℕ) → writes x i ≡ false → LagsHere x hist n (i ∷ rest) e → LagsHere x longer n rest e
      lags_still x other here = record { lags = lags_behind g x hist n i rest e w other here.lags; goes_here = λ p place. here.goes_here p (place_same p place) }

    -- ---- Nothing is left of it

    module _ (computes : is_computation i ≡ true) (goes : Goes u.assignments g n (i ∷ rest) e) where
      -- it is plain
      is_plain : IsPlain i
      is_plain = computed_plain i computes

      -- what was written before still is
      still_over : (x : ℕ) → writes x i ≡ false → LagsHere x hist n (i ∷ rest) e ⊎ IsStill x hist after → LagsHere x longer n rest e ⊎ IsStill x longer after
      still_over x other (inl here) = inl (lags_still is_plain.marker x other here)
      still_over x other (inr still) = inr (record { was_written = still.was_written; stays_written = λ p place. still.stays_written p (place_same is_plain.marker p place) })

      -- Behind a computation that goes the path after follows still.
      pub followed_over : IsFollowed longer after n rest e
      followed_over = record {
        same_place = old.same_place ∙ sym (place_plain i (place_of hist) is_plain.marker);
        same_called = old.same_called ∙ sym (if_false (is_marker i) false (is_call i || called hist) is_plain.marker ∙ ap (λ b. b || called hist) is_plain.call);
        none_unnoted = λ x none. old.none_unnoted x (none_before (notes x i) (writes x i) (unnoted x hist) (is_plain.note x) none);
        none_owed = λ assigns x none. old.none_owed assigns x
            (none_before (notes x i) (writes x i) (owed assigns x hist) (is_plain.note x) (sym (owed_plain assigns x i (owed assigns x hist) is_plain.marker) ∙ none));
        still_written = λ x it. elim (cases_Bool (writes x i)) [
          | inl now ↦ inl (lags_new is_plain.marker x now goes)
          | inr other ↦ still_over x other (old.still_written x (written_before is_plain.marker x other it))
        ];
      }

    -- ---- Something is left of it

    module _ (j : Instruction) (more : List Instruction) (v : Value) (left : IsLeft u.assignments log g n rest e i j) where
      -- what is left is like it
      like : IsLike i j
      like = left_like log g n rest e left

      -- the history after behind it
      abbrev longer_after : History
      longer_after = record { block = n; left = length more; instruction = j; wrote = v } ∷ after

      -- no more is owed behind it
      owed_less : (assigns : ℕ → Bool) (x : ℕ) (b c : Bool) → (b ≡ false → c ≡ false) → owed_by assigns x i b ≡ false → owed_by assigns x j c ≡ false
      owed_less assigns x b c before none = elim (cases_Bool (is_marker i)) [
        | inl marks ↦ by_marker marks (left_cases log g n rest e left)
        | inr plain ↦ owed_plain assigns x j c (like.marker ∙ plain) ∙ ap (λ t. if t then false else writes x j || c) (like.note x)
            ∙ less_told (notes x i) (writes x i) (writes x j) b c (like.write x) before (sym (owed_plain assigns x i b plain) ∙ none)
      ]
        where
          by_marker : is_marker i ≡ true → StaysOrCalls u.assignments log g n rest e i j → owed_by assigns x j c ≡ false
          by_marker marks (inl kept) = owed_marker assigns x b c (said_kept log g n rest e kept.1) marks ∙ none
          by_marker marks (inr calls) = absurd (true≢false (sym marks ∙ calls.1))

      -- A marker that binds a name is that of the entry.
      bound_still : (x : ℕ) → is_marker i ≡ true → written g x longer ≡ true → IsStill x longer longer_after
      bound_still x marks it = record {
        was_written = if_true (is_marker j) (bound_at (reduced_graph g blocks) x j) (writes x j || written (reduced_graph g blocks) x after) (like.marker ∙ marks) ∙ like.bound (reduced_graph g blocks) x ∙ binds;
        stays_written = λ p place.
            (let both = and_parts (p == g.entry) (is_bound x g.parameters) (sym (ap (λ k. bound_at g x k) (marker_is i (place_of hist) p marks place)) ∙ binds) in
            bound (eqb-true p g.entry both.0) both.1);
      }
        where
          binds : bound_at g x i ≡ true
          binds = sym (if_true (is_marker i) (bound_at g x i) (writes x i || written g x hist) marks) ∙ it

      module _ (plain : is_marker i ≡ false) where
        -- what is written on the path after, where it is no marker
        written_after : (x : ℕ) → (writes x j || written (reduced_graph g blocks) x after) ≡ true → written (reduced_graph g blocks) x longer_after ≡ true
        written_after x it = if_false (is_marker j) (bound_at (reduced_graph g blocks) x j) (writes x j || written (reduced_graph g blocks) x after) (like.marker ∙ plain) ∙ it

        -- a name that it writes is written, or lags
        still_now : (x : ℕ) → writes x i ≡ true → StaysOrCalls u.assignments log g n rest e i j → LagsHere x longer n rest e ⊎ IsStill x longer longer_after
        still_now x now (inr calls) = inl (lags_new plain x now calls.0)
        still_now x now (inl kept) = inr (record {
          was_written = written_after x (or_left (writes x j) (written (reduced_graph g blocks) x after) (kept_writes x (said_kept log g n rest e kept.1) ∙ now));
          stays_written = λ p place. instruction (stands_here plain p place) (target_written x i now) kept.0;
        })

        -- so is one that was written before
        still_then : (x : ℕ) → writes x i ≡ false → LagsHere x hist n (i ∷ rest) e ⊎ IsStill x hist after → LagsHere x longer n rest e ⊎ IsStill x longer longer_after
        still_then x other (inl here) = inl (lags_still plain x other here)
        still_then x other (inr still) = inr (record {
          was_written = written_after x (or_right (writes x j) (written (reduced_graph g blocks) x after) still.was_written);
          stays_written = λ p place. still.stays_written p (place_same plain p place);
        })

      -- Behind an instruction of which something is left the path after follows still.
      pub followed_behind : IsFollowed longer longer_after n rest e
      followed_behind = record {
        same_place = like.place (place_of after) ∙ ap (place_by i) old.same_place;
        same_called = ap (λ t. if t then false else is_call j || called after) like.marker ∙ ap (λ t. if is_marker i then false else t || called after) like.call
            ∙ ap (λ t. if is_marker i then false else is_call i || t) old.same_called;
        none_unnoted = λ x none. ap (λ t. if t then false else writes x j || unnoted x after) (like.note x)
            ∙ less_told (notes x i) (writes x i) (writes x j) (unnoted x hist) (unnoted x after) (like.write x) (old.none_unnoted x) none;
        none_owed = λ assigns x none. owed_less assigns x (owed assigns x hist) (owed assigns x after) (old.none_owed assigns x) none;
        still_written = λ x it. elim (cases_Bool (is_marker i)) [
          | inl marks ↦ inr (bound_still x marks it)
          | inr plain ↦ elim (cases_Bool (writes x i)) [
            | inl now ↦ still_now plain x now (left_cases log g n rest e left)
            | inr other ↦ still_then plain x other (old.still_written x (written_before plain x other it))
          ]
        ];
      }
