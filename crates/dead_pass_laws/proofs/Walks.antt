-- The last write of a name in the place of a note, on the path that came to it.
use Rattle.std.proofs.Common.{◌≡◌, ℕ, inl, inr, Bool, true, false, true≢false, Option, Some, List, ◌∷◌, length, refl, sym, ap, ◌∙◌}
use Rattle.std.specs.Prelude.{◌==◌, ◌&&◌, ◌||◌, if◌then◌else◌, slice_get}
use Rattle.std.proofs.lemmas.Bool.{cases_Bool}
use Rattle.std.proofs.lemmas.Option.{same_Some}
use Rattle.graph_core.specs.declared.value.Value.{Value}
use Rattle.graph_core.specs.Graphs.{Instruction, Marker, Note, Move, Operate, Truncate, Same, Address, Load, Store, Zero, CopyWords, Call, End, Block, Graph, Logged, UnitForm}
use Rattle.graph_core.specs.Histories.{values_behind}
use Rattle.graph_core.specs.Paths.{Passed, History, Way, stays, passes, goes, Path, path, place_by, place_of, writes, is_marker, is_bound, bound_at, written}
use Rattle.graph_core.specs.Uses.{target_of}
use Rattle.dead_pass_rule.specs.Idle.{Goes}
use Rattle.dead_pass_notes.specs.Stale.{IsStale, went, before as stale_before}
use Rattle.dead_pass_laws.proofs.Back.{From, from_before, from_end}
use Rattle.dead_pass_laws.proofs.Came.{IsValueOf, IsTaken}
use Rattle.dead_pass_laws.proofs.Entry.{place_plain, went_goes}
use Rattle.dead_pass_laws.proofs.Values.{name_kept, name_taken, target_written, unwritten_other}

-- A marker binds a name only where its place does.
bound_there : (g : Graph) (x p : ℕ) (i : Instruction) (place : Option ℕ) → is_marker i ≡ true → place_by i place ≡ Some p → (p == g.entry && is_bound x g.parameters) ≡ false → bound_at g x i ≡ false
bound_there g x p (Marker q) place it at none = ap (λ r. r == g.entry && is_bound x g.parameters) (same_Some q p at) ∙ none
bound_there g x p (Note y v) place it at none = refl
bound_there g x p (Move y a) place it at none = refl
bound_there g x p (Operate y o a b) place it at none = refl
bound_there g x p (Truncate y t a) place it at none = refl
bound_there g x p (Same y a b) place it at none = refl
bound_there g x p (Address y o) place it at none = refl
bound_there g x p (Load y f l) place it at none = refl
bound_there g x p (Store f l a) place it at none = refl
bound_there g x p (Zero o w) place it at none = refl
bound_there g x p (CopyWords o w v) place it at none = refl
bound_there g x p (Call y f all) place it at none = refl

module _ (u : UnitForm) (log : List Logged) (g : Graph) (blocks : List Block) (taken : IsTaken u log g blocks) (k : ℕ) (note : List Instruction) (last : End) (first others : ℕ → Value) (whole : History) (arrives : Path g whole k note last) where
  -- what is so at a point from which the way goes on to the note
  abbrev FromHere : (h : History) (n : ℕ) (rest : List Instruction) (e : End) → Type 0
  FromHere = From u log g blocks taken k note last first others whole arrives

  -- An instruction is the last before a point of the path that wrote a name: what is so before it and behind it, what it wrote, and that it went, if the name is stale.
  pub record IsLast (h : History) (p x m : ℕ) (j : Instruction) (more : List Instruction) (f : End) : Type 0 where
    pub history : History
    pub wrote : Value
    pub plain : is_marker j ≡ false
    pub target : target_of j ≡ Some x
    pub behind : FromHere (record { block = m; left = length more; instruction = j; wrote = wrote } ∷ history) m more f
    pub from : FromHere history m (j ∷ more) f
    pub place : place_of history ≡ Some p
    pub value : values_behind first h x ≡ wrote
    pub is : IsValueOf u.statics (values_behind first history) j wrote
    pub stale : IsStale u.assignments g x h → Goes u.assignments g m (j ∷ more) f

  -- there is such an instruction
  pub record HasLast (h : History) (p x : ℕ) : Type 0 where
    pub block : ℕ
    pub write : Instruction
    pub more : List Instruction
    pub end : End
    pub found : IsLast h p x block write more end

  module _ (p x : ℕ) (none : (p == g.entry && is_bound x g.parameters) ≡ false) where
    -- the write of what was passed last, if it is one
    module _ (h : History) (n : ℕ) (i : Instruction) (rest : List Instruction) (e : End) (w : Value) (along : Path g h n (i ∷ rest) e) (plain : is_marker i ≡ false) where
      abbrev passed : Passed
      passed = record { block = n; left = length rest; instruction = i; wrote = w }

      -- what went there goes
      goes_here : writes x i ≡ true → IsStale u.assignments g x (passed ∷ h) → Goes u.assignments g n (i ∷ rest) e
      goes_here it (went same gone) = went_goes u log g blocks taken h n i rest e w along gone
      goes_here it (stale_before other s) = absurd (true≢false (sym it ∙ other))

      -- where it writes the name, it is the last that did
      last_here : writes x i ≡ true → place_of h ≡ Some p → FromHere (passed ∷ h) n rest e → HasLast (passed ∷ h) p x
      last_here it place from = record {
        block = n;
        write = i;
        more = rest;
        end = e;
        found = record {
          history = h;
          wrote = w;
          plain = plain;
          target = target_written x i it;
          behind = from;
          from = from_before u log g blocks taken k note last first others whole arrives h n i rest e w along plain from;
          place = place;
          value = name_taken (target_of i) w (values_behind first h) x (target_written x i it);
          is = from.are_true.0;
          stale = goes_here it;
        };
      }

      -- where it does not, the name was stale before it if it is now
      stale_earlier : writes x i ≡ false → IsStale u.assignments g x (passed ∷ h) → IsStale u.assignments g x h
      stale_earlier other (went it w) = absurd (true≢false (sym it ∙ other))
      stale_earlier other (stale_before same s) = s

      -- and the last that wrote it is the last that did before
      last_earlier : writes x i ≡ false → HasLast h p x → HasLast (passed ∷ h) p x
      last_earlier other has = record {
        block = has.block;
        write = has.write;
        more = has.more;
        end = has.end;
        found = record {
          history = has.found.history;
          wrote = has.found.wrote;
          plain = has.found.plain;
          target = has.found.target;
          behind = has.found.behind;
          from = has.found.from;
          place = has.found.place;
          value = name_kept (target_of i) w (values_behind first h) x (unwritten_other x i other) ∙ has.found.value;
          is = has.found.is;
          stale = λ s. has.found.stale (stale_earlier other s);
        };
      }

    -- what is chosen by a test that holds
    if_true : {A : Type 0} (b : Bool) (y z : A) → b ≡ true → (if b then y else z) ≡ y
    if_true b y z e = ap (λ c. if c then y else z) e

    -- and by one that does not
    if_false : {A : Type 0} (b : Bool) (y z : A) → b ≡ false → (if b then y else z) ≡ z
    if_false b y z e = ap (λ c. if c then y else z) e

    module _ (b : Block) (at : slice_get g.blocks 0 ≡ Some b) where
      -- back along a way
      way_last : {h : History} {n : ℕ} {rest : List Instruction} {e : End} → Way g 0 b.instructions b.end h n rest e → FromHere h n rest e → written g x h ≡ true → place_of h ≡ Some p → HasLast h p x
      way_last stays from it place = absurd (true≢false (sym it))
      way_last (passes {h} {n} {i} {left} {e} way w) from it place = elim (cases_Bool (is_marker i)) [
        | inl marks ↦ absurd (true≢false (sym it ∙ if_true (is_marker i) (bound_at g x i) (writes x i || written g x h) marks ∙ bound_there g x p i (place_of h) marks place none))
        | inr plain ↦ elim (cases_Bool (writes x i)) [
          | inl here ↦ last_here h n i left e w (path b at way) plain here (sym (place_plain i (place_of h) plain) ∙ place) from
          | inr other ↦ last_earlier h n i left e w (path b at way) plain other
              (way_last way (from_before u log g blocks taken k note last first others whole arrives h n i left e w (path b at way) plain from)
              (sym (ap (λ z. z || written g x h) other) ∙ sym (if_false (is_marker i) (bound_at g x i) (writes x i || written g x h) plain) ∙ it) (sym (place_plain i (place_of h) plain) ∙ place))
        ]
      ]
      way_last (goes {h} {n} {l} {e} way to c there) from it place =
          way_last way (from_end u log g blocks taken k note last first others whole arrives h n l e c (path b at way) to there from) it place

    -- Where a name was written in the place of the note, not by a binding, there is the last write of it.
    pub has_last : (h : History) (n : ℕ) (rest : List Instruction) (e : End) → Path g h n rest e → FromHere h n rest e → written g x h ≡ true → place_of h ≡ Some p → HasLast h p x
    has_last h n rest e (path b at way) from it place = way_last b at way from it place
