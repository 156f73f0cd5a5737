-- The removal of dead assignments leaves no write that nothing reads.
use Rattle.std.proofs.Common.{◌≡◌, ℕ, zero, suc, ◌⊎◌, inl, inr, true, false, true≢false, Option, Some, None, List, [], ◌∷◌, ◌++◌, length, refl, sym, ap, ◌∙◌, subst, arith, append_assoc, length-append}
use Rattle.std.specs.Prelude.{◌||◌, slice_get}
use Rattle.std.proofs.lemmas.Bool.{or_parts}
use Rattle.std.proofs.lemmas.Option.{same_Some, none-some}
use Rattle.graph_core.specs.declared.value.Value.{Value}
use Rattle.graph_core.specs.declared.value.Value.TheVariants.{Odd}
use Rattle.graph_core.specs.Graphs.{Instruction, Marker, Note, Move, Operate, Truncate, Same, Address, Load, Store, Zero, CopyWords, Call, End, Block, Graph, UnitForm}
use Rattle.graph_core.specs.Uses.{is_computation, reads_of, target_of, targets_of}
use Rattle.graph_core.specs.Paths.{History, Among, Way, stays, passes, goes, Path, path, writes}
use Rattle.graph_core.specs.Points.{IsUnread, ReadsNext, StandsWith, some_passed}
use Rattle.graph_core.specs.Validity.{place_behind}
use Rattle.graph_paths.specs.Reached.{IsReached}
use Rattle.dead_pass_rule.specs.Idle.{Goes, IsIdle, idle, MayGo, is_computed_next}
use Rattle.dead_pass_rule.specs.Removing.{AreReduced, ends, gone, stays as kept, IsReduced, StaysAs, same, noted, without}

-- ---- Instructions that go

-- What is left of an instruction that has a target: of a computation nothing, of a call the call, which has none and reads the same.
pub data LeftOf (i : Instruction) : Type 0 where
  nothing : without i ≡ [] → is_computation i ≡ true → LeftOf i
  call : (k : Instruction) → without i ≡ k ∷ [] → target_of k ≡ None → reads_of k ≡ reads_of i → LeftOf i

pub left_of : (i : Instruction) (x : ℕ) → target_of i ≡ Some x → LeftOf i
left_of (Marker p) x e = absurd (none-some x e)
left_of (Note y v) x e = absurd (none-some x e)
left_of (Move y a) x e = nothing refl refl
left_of (Operate y o a b) x e = nothing refl refl
left_of (Truncate y t a) x e = nothing refl refl
left_of (Same y a b) x e = nothing refl refl
left_of (Address y object) x e = nothing refl refl
left_of (Load y s l) x e = nothing refl refl
left_of (Store s l a) x e = absurd (none-some x e)
left_of (Zero object words) x e = absurd (none-some x e)
left_of (CopyWords object bytes words) x e = absurd (none-some x e)
left_of (Call y f all) x e = call (Call None f all) refl refl refl

pub goes_target : (u : UnitForm) {g : Graph} {n : ℕ} {i : Instruction} {rest : List Instruction} {e : End} → Goes u.assignments g n (i ∷ rest) e → (x : ℕ) × (target_of i ≡ Some x)
goes_target u w = of_idle w.idle
  where
    of_idle : {g : Graph} {n : ℕ} {i : Instruction} {rest : List Instruction} {e : End} → IsIdle u.assignments g n (i ∷ rest) e → (x : ℕ) × (target_of i ≡ Some x)
    of_idle (idle {x = x} at target may computed deeper) = (x, target)

-- the place in force stays behind what has a target, and behind what is left of it
pub place_kept : (i : Instruction) (x : ℕ) (o : Option ℕ) → target_of i ≡ Some x → place_behind (i ∷ []) o ≡ o
place_kept (Marker p) x o e = absurd (none-some x e)
place_kept (Note y v) x o e = refl
place_kept (Move y a) x o e = refl
place_kept (Operate y q a b) x o e = refl
place_kept (Truncate y t a) x o e = refl
place_kept (Same y a b) x o e = refl
place_kept (Address y object) x o e = refl
place_kept (Load y s l) x o e = refl
place_kept (Store s l a) x o e = refl
place_kept (Zero object words) x o e = refl
place_kept (CopyWords object bytes words) x o e = refl
place_kept (Call y f all) x o e = refl

pub place_left : (i k : Instruction) (o : Option ℕ) → without i ≡ k ∷ [] → place_behind (k ∷ []) o ≡ o
place_left (Call y f all) k o e =
    let is : Call None f all ≡ k = cc in
    subst (λ j. place_behind (j ∷ []) o ≡ o) is refl
place_left (Marker p) k o e = absurd (no_one e)
  where
    no_one : [] ≡ k ∷ [] → ⊥
    no_one q = cc
place_left (Note y v) k o e = refl_of e
  where
    refl_of : [] ≡ k ∷ [] → place_behind (k ∷ []) o ≡ o
    refl_of q = cc
place_left (Move y a) k o e = cc
place_left (Operate y q a b) k o e = cc
place_left (Truncate y t a) k o e = cc
place_left (Same y a b) k o e = cc
place_left (Address y object) k o e = cc
place_left (Load y s l) k o e = cc
place_left (Store s l a) k o e = cc
place_left (Zero object words) k o e = cc
place_left (CopyWords object bytes words) k o e = cc

-- the place behind more instructions
pub place_on : (front more : List Instruction) (o : Option ℕ) → place_behind (front ++ more) o ≡ place_behind more (place_behind front o)
place_on [] more o = refl
place_on (Marker p ∷ front) more o = place_on front more (Some p)
place_on (Note y v ∷ front) more o = place_on front more o
place_on (Move y a ∷ front) more o = place_on front more o
place_on (Operate y q a b ∷ front) more o = place_on front more o
place_on (Truncate y t a ∷ front) more o = place_on front more o
place_on (Same y a b ∷ front) more o = place_on front more o
place_on (Address y object ∷ front) more o = place_on front more o
place_on (Load y s l ∷ front) more o = place_on front more o
place_on (Store s l a ∷ front) more o = place_on front more o
place_on (Zero object words ∷ front) more o = place_on front more o
place_on (CopyWords object bytes words ∷ front) more o = place_on front more o
place_on (Call y f all ∷ front) more o = place_on front more o

-- lists with the same end have the same front
no_longer : {A : Type 0} (x : A) (xs zs : List A) → zs ≡ x ∷ (xs ++ zs) → ⊥
no_longer x xs zs e =
    let p : length zs ≡ suc (length (xs ++ zs)) = ap length e in
    let q = length-append xs zs in
    omega (arith, p, q)

pub same_front : {A : Type 0} (xs ys zs : List A) → xs ++ zs ≡ ys ++ zs → xs ≡ ys
same_front [] [] zs e = refl
same_front [] (y ∷ ys) zs e = absurd (no_longer y ys zs e)
same_front (x ∷ xs) [] zs e = absurd (no_longer x xs zs (sym e))
same_front (x ∷ xs) (y ∷ ys) zs e =
    let head : x ≡ y = cc in
    let tail : xs ++ zs ≡ ys ++ zs = cc in
    let rest = same_front xs ys zs tail in
    (λ i. head i ∷ rest i)

-- what stays writes what it wrote, and reads what it read; and with a target it is the same
stays_quiet : {g : Graph} {n : ℕ} {rest : List Instruction} {e : End} (x : ℕ) (i j : Instruction) → StaysAs g n rest e i j → writes x i ≡ false → writes x j ≡ false
stays_quiet x i j same q = q
stays_quiet x i j (noted reached) q = refl

stays_read : {g : Graph} {n : ℕ} {rest : List Instruction} {e : End} (x : ℕ) (i j : Instruction) → StaysAs g n rest e i j → Among x (reads_of i) → Among x (reads_of j)
stays_read x i j same k = k
stays_read x i j (noted reached) k = k

stays_same : {g : Graph} {n : ℕ} {rest : List Instruction} {e : End} (x : ℕ) (i j : Instruction) → StaysAs g n rest e i j → target_of j ≡ Some x → i ≡ j
stays_same x i j same t = refl
stays_same x i j (noted reached) t = absurd (none-some x t)

-- ---- The graphs before and after

module _ (u : UnitForm) (g h : Graph) (made : IsReduced u.assignments g h) where
  other_block : (xs ys : List Block) (n : ℕ) (c : Block) → length ys ≡ length xs → slice_get ys n ≡ Some c → (b : Block) × (slice_get xs n ≡ Some b)
  other_block [] [] n c l e = absurd (none-some c e)
  other_block [] (y ∷ ys) n c l e = absurd (omega (arith, l))
  other_block (x ∷ xs) [] n c l e = absurd (none-some c e)
  other_block (x ∷ xs) (y ∷ ys) zero c l e = (x, refl)
  other_block (x ∷ xs) (y ∷ ys) (suc n) c l e = other_block xs ys n c (omega (arith, l)) e

  -- A point of the graph after lies at a point of the graph before to which a path comes, with the same place in force.
  record Before (n : ℕ) (after : List Instruction) (e : End) : Type 0 where
    b : Block
    c : Block
    is : slice_get g.blocks n ≡ Some b
    at : slice_get h.blocks n ≡ Some c
    end_is : e ≡ b.end
    front : List Instruction
    rest : List Instruction
    left_front : List Instruction
    instructions : b.instructions ≡ front ++ rest
    left_over : c.instructions ≡ left_front ++ after
    place : place_behind front b.place ≡ place_behind left_front c.place
    hist : History
    along : Path g hist n rest b.end
    reduced : AreReduced u.assignments g n b.end rest after

  -- how an instruction of the graph after came of one before
  abbrev How : (n : ℕ) (i : Instruction) (rest : List Instruction) (e : End) (j : Instruction) → Type 0
  How n i rest e j = ((Goes u.assignments g n (i ∷ rest) e → ⊥) × StaysAs g n rest e i j) ⊎ (Goes u.assignments g n (i ∷ rest) e × (without i ≡ j ∷ []))

  -- The instruction from which the first of what is left came.
  record Came (n : ℕ) (b : Block) (o : Option ℕ) (j : Instruction) (left : List Instruction) : Type 0 where
    front : List Instruction
    i : Instruction
    rest : List Instruction
    instructions : b.instructions ≡ front ++ i ∷ rest
    place : place_behind front b.place ≡ o
    hist : History
    along : Path g hist n (i ∷ rest) b.end
    how : How n i rest b.end j
    more : AreReduced u.assignments g n b.end rest left

  pass : {k : History} {n : ℕ} {i : Instruction} {rest : List Instruction} {e : End} → Value → Path g k n (i ∷ rest) e → (l : History) × Path g l n rest e
  pass {k} {n} {i} {rest} v (path d is way) = (record { block = n; left = length rest; instruction = i; wrote = v } ∷ k, path d is (passes way v))

  pub step_front : (front : List Instruction) (i : Instruction) (rest whole : List Instruction) → whole ≡ front ++ i ∷ rest → whole ≡ (front ++ i ∷ []) ++ rest
  step_front front i rest whole e = e ∙ sym (append_assoc front (i ∷ []) rest)

  module _ (n : ℕ) (b : Block) where
    -- What goes before the first of what is left is passed.
    came : (rest after : List Instruction) → AreReduced u.assignments g n b.end rest after → (front : List Instruction) → b.instructions ≡ front ++ rest → (hist : History) → Path g hist n rest b.end → (j : Instruction) (left : List Instruction) → after ≡ j ∷ left
        → Came n b (place_behind front b.place) j left
    came [] [] ends front at hist along j left e = absurd (none_left e)
      where
        none_left : [] ≡ j ∷ left → ⊥
        none_left q = cc
    came [] (k ∷ after) r front at hist along j left e = elim r [ ]
    came (i ∷ rest) after (gone {after = behind} goes_here more) front at hist along j left e =
        let target = goes_target u goes_here in
        by_left (λ e2. came rest behind more (front ++ i ∷ []) (step_front front i rest b.instructions at) (pass Odd along).0 (pass Odd along).1 j left e2) (left_of i target.0 target.1)
      where
        by_left : (behind ≡ j ∷ left → Came n b (place_behind (front ++ i ∷ []) b.place) j left) → LeftOf i → Came n b (place_behind front b.place) j left
        by_left deeper (nothing none computed) =
            let target = goes_target u goes_here in
            subst (λ o. Came n b o j left) (place_on front (i ∷ []) b.place ∙ place_kept i target.0 (place_behind front b.place) target.1) (deeper (sym (ap (λ l. l ++ behind) none) ∙ e))
        by_left deeper (call k one no_target reads) =
            let both : k ∷ behind ≡ j ∷ left = sym (ap (λ l. l ++ behind) one) ∙ e in
            let head : k ≡ j = cc in
            let tail : behind ≡ left = cc in
            record {
              front = front;
              i = i;
              rest = rest;
              instructions = at;
              place = refl;
              hist = hist;
              along = along;
              how = inr (goes_here, subst (λ a. without i ≡ a ∷ []) head one);
              more = subst (λ a. AreReduced u.assignments g n b.end rest a) tail more;
            }
    came (i ∷ rest) after (kept {j = k} {after = behind} stays_here as_is more) front at hist along j left e =
        let head : k ≡ j = cc in
        let tail : behind ≡ left = cc in
        record {
          front = front;
          i = i;
          rest = rest;
          instructions = at;
          place = refl;
          hist = hist;
          along = along;
          how = inl (stays_here, subst (λ a. StaysAs g n rest b.end i a) head as_is);
          more = subst (λ a. AreReduced u.assignments g n b.end rest a) tail more;
        }

    -- What goes before the end of a block is passed.
    finish : (rest after : List Instruction) → AreReduced u.assignments g n b.end rest after → after ≡ [] → (hist : History) → Path g hist n rest b.end → (k : History) × Path g k n [] b.end
    finish [] after r e hist along = (hist, along)
    finish (i ∷ rest) after (gone {after = behind} goes_here more) e hist along =
        let target = goes_target u goes_here in
        by_left (λ e2. finish rest behind more e2 (pass Odd along).0 (pass Odd along).1) (left_of i target.0 target.1)
      where
        by_left : (behind ≡ [] → (k : History) × Path g k n [] b.end) → LeftOf i → (k : History) × Path g k n [] b.end
        by_left deeper (nothing none computed) = deeper (sym (ap (λ l. l ++ behind) none) ∙ e)
        by_left deeper (call k one no_target reads) =
            let both : k ∷ behind ≡ [] = sym (ap (λ l. l ++ behind) one) ∙ e in
            absurd (some_left both)
          where
            some_left : k ∷ behind ≡ [] → ⊥
            some_left q = cc
    finish (i ∷ rest) after (kept {j = k} {after = behind} stays_here as_is more) e hist along = absurd (some_left e)
      where
        some_left : k ∷ behind ≡ [] → ⊥
        some_left q = cc

    -- the place behind what is left of an instruction
    place_same : (i j : Instruction) (rest : List Instruction) (o : Option ℕ) → How n i rest b.end j → place_behind (i ∷ []) o ≡ place_behind (j ∷ []) o
    place_same i j rest o (inl (stays_here, same)) = refl
    place_same i j rest o (inl (stays_here, noted reached)) = refl
    place_same i j rest o (inr (goes_here, one)) = (let target = goes_target u goes_here in place_kept i target.0 o target.1 ∙ sym (place_left i j o one))

  -- a point of a path of the graph after
  before : (first : Block) → slice_get h.blocks 0 ≡ Some first → {hist : History} {n : ℕ} {after : List Instruction} {e : End} → Way h 0 first.instructions first.end hist n after e → Before n after e
  before first at stays =
      let b = other_block g.blocks h.blocks 0 first made.count at in
      let r = made.blocks 0 b.0 first b.1 at in
      record { b = b.0; c = first; is = b.1; at = at; end_is = r.end; front = []; rest = b.0.instructions; left_front = []; instructions = refl; left_over = refl; place = sym r.place; hist = []; along = path b.0 b.1 stays; reduced = r.instructions }
  before first at (passes {n = n} {i = j} {left = left} {e = e} way v) =
      let s = before first at way in
      let found = came n s.b s.rest (j ∷ left) s.reduced s.front s.instructions s.hist s.along j left refl in
      let on = pass v found.along in
      record {
        b = s.b;
        c = s.c;
        is = s.is;
        at = s.at;
        end_is = s.end_is;
        front = found.front ++ found.i ∷ [];
        rest = found.rest;
        left_front = s.left_front ++ j ∷ [];
        instructions = step_front found.front found.i found.rest s.b.instructions found.instructions;
        left_over = step_front s.left_front j left s.c.instructions s.left_over;
        place = place_on found.front (found.i ∷ []) s.b.place ∙ ap (place_behind (found.i ∷ [])) (found.place ∙ s.place) ∙ place_same n s.b found.i j found.rest (place_behind s.left_front s.c.place) found.how ∙ sym (place_on s.left_front (j ∷ []) s.c.place);
        hist = on.0;
        along = on.1;
        reduced = found.more;
      }
  before first at (goes {n = n} {l = l} {e = e} way among c there) =
      let s = before first at way in
      let on = finish n s.b s.rest [] s.reduced refl s.hist s.along in
      let b = other_block g.blocks h.blocks l c made.count there in
      let r = made.blocks l b.0 c b.1 there in
      record { b = b.0; c = c; is = b.1; at = there; end_is = r.end; front = []; rest = b.0.instructions; left_front = []; instructions = refl; left_over = refl; place = sym r.place; hist = on.0; along = go_on (subst (λ f. Among l (targets_of f)) s.end_is among) b.0 b.1 on.1; reduced = r.instructions }
    where
      go_on : {f : End} {k : History} {m : ℕ} → Among l (targets_of f) → (b : Block) → slice_get g.blocks l ≡ Some b → Path g k m [] f → Path g k l b.instructions b.end
      go_on to b is (path d first_is w) = path d first_is (goes w to b is)

  -- ---- Ways on

  -- A way of the graph before leads on in the graph after too, and nothing writes a name on it that nothing writes on the way before.
  record Forth (n : ℕ) (after : List Instruction) (e : End) (x m : ℕ) (left : List Instruction) (f : End) : Type 0 where
    more : List Instruction
    passed : History
    way : Way h n after e passed m more f
    reduced : AreReduced u.assignments g m f left more
    unwritten : some_passed (writes x) passed ≡ false

  pub no_write : (x : ℕ) (k : Instruction) → target_of k ≡ None → writes x k ≡ false
  no_write x (Marker p) t = refl
  no_write x (Note y v) t = refl
  no_write x (Move y a) t = absurd (none-some y (sym t))
  no_write x (Operate y q a b) t = absurd (none-some y (sym t))
  no_write x (Truncate y q a) t = absurd (none-some y (sym t))
  no_write x (Same y a b) t = absurd (none-some y (sym t))
  no_write x (Address y object) t = absurd (none-some y (sym t))
  no_write x (Load y s l) t = absurd (none-some y (sym t))
  no_write x (Store s l a) t = refl
  no_write x (Zero object words) t = refl
  no_write x (CopyWords object bytes words) t = refl
  no_write x (Call None f all) t = refl
  no_write x (Call (Some y) f all) t = absurd (none-some y (sym t))

  -- how one instruction is passed
  pass_one : (n : ℕ) (after : List Instruction) (e : End) (x m : ℕ) (i : Instruction) (left : List Instruction) (f : End) → Value → writes x i ≡ false → (more : List Instruction) (passed : History) → Way h n after e passed m more f → AreReduced u.assignments g m f (i ∷ left) more → some_passed (writes x) passed ≡ false
      → Forth n after e x m left f
  pass_one n after e x m i left f v quiet more passed way (gone {after = behind} goes_here reduced) no_writes =
      let target = goes_target u goes_here in
      by_left (left_of i target.0 target.1)
    where
      by_left : LeftOf i → Forth n after e x m left f
      by_left (nothing none computed) = record { more = behind; passed = passed; way = subst (λ a. Way h n after e passed m (a ++ behind) f) none way; reduced = reduced; unwritten = no_writes }
      by_left (call k one no_target reads) = record {
        more = behind;
        passed = record { block = m; left = length behind; instruction = k; wrote = v } ∷ passed;
        way = passes (subst (λ a. Way h n after e passed m (a ++ behind) f) one way) v;
        reduced = reduced;
        unwritten = ap (λ t. t || some_passed (writes x) passed) (no_write x k no_target) ∙ no_writes;
      }
  pass_one n after e x m i left f v quiet more passed way (kept {j = j} {after = behind} stays_here as_is reduced) no_writes =
      record {
        more = behind;
        passed = record { block = m; left = length behind; instruction = j; wrote = v } ∷ passed;
        way = passes way v;
        reduced = reduced;
        unwritten = ap (λ t. t || some_passed (writes x) passed) (stays_quiet x i j as_is quiet) ∙ no_writes;
      }

  forth : (n x : ℕ) (rest after : List Instruction) (e : End) → AreReduced u.assignments g n e rest after → {passed : History} {m : ℕ} {left : List Instruction} {f : End} → Way g n rest e passed m left f → some_passed (writes x) passed ≡ false → Forth n after e x m left f
  forth n x rest after e reduced stays quiet = record { more = after; passed = []; way = stays; reduced = reduced; unwritten = refl }
  forth n x rest after e reduced (passes {h = k} {n = m} {i = i} {left = left} {e = f} way v) quiet =
      let parts = or_parts (writes x i) (some_passed (writes x) k) quiet in
      let r = forth n x rest after e reduced way parts.1 in
      pass_one n after e x m i left f v parts.0 r.more r.passed r.way r.reduced r.unwritten
  forth n x rest after e reduced (goes {n = m} {l = l} {e = f} way among b at) quiet =
      let r = forth n x rest after e reduced way quiet in
      let c = other_block h.blocks g.blocks l b (sym made.count) at in
      let there = made.blocks l b c.0 at c.1 in
      record {
        more = c.0.instructions;
        passed = r.passed;
        way = subst (λ d. Way h n after e r.passed l c.0.instructions d) there.end (goes (subst (λ a. Way h n after e r.passed m a f) (none_more r.more r.reduced) r.way) among c.0 c.1);
        reduced = there.instructions;
        unwritten = r.unwritten;
      }
    where
      none_more : (more : List Instruction) → AreReduced u.assignments g m f [] more → more ≡ []
      none_more [] ends = refl
      none_more (k ∷ more) r = elim r [ ]

  -- What reads a name that a write reaches is a computation that goes too, where nothing in the graph after reads it.
  reader : (n x : ℕ) (after : List Instruction) (e : End) → IsUnread h x n after e → (m : ℕ) (left : List Instruction) (f : End) → Forth n after e x m left f → ReadsNext x left f → (is_computed_next left ≡ true) × IsIdle u.assignments g m left f
  reader n x after e unread m left f r reads = by_left left r.more r.way r.reduced reads
    where
      never : {A : Type 0} (more : List Instruction) → Way h n after e r.passed m more f → ReadsNext x more f → A
      never more way read = absurd (true≢false (sym (unread r.passed m more f way read) ∙ r.unwritten))

      by_left : (left more : List Instruction) → Way h n after e r.passed m more f → AreReduced u.assignments g m f left more → ReadsNext x left f → (is_computed_next left ≡ true) × IsIdle u.assignments g m left f
      by_left [] more way ends read = never [] way read
      by_left (i ∷ left) more way (gone {after = behind} goes_here reduced) read =
          let target = goes_target u goes_here in
          by_kind (left_of i target.0 target.1)
        where
          by_kind : LeftOf i → (is_computation i ≡ true) × IsIdle u.assignments g m (i ∷ left) f
          by_kind (nothing none computed) = (computed, goes_here.idle)
          by_kind (call k one no_target same_reads) = never (k ∷ behind) (subst (λ a. Way h n after e r.passed m (a ++ behind) f) one way) (subst (λ a. Among x a) (sym same_reads) read)
      by_left (i ∷ left) more way (kept {j = j} {after = behind} stays_here as_is reduced) read = never (j ∷ behind) way (stays_read x i j as_is read)

  -- ---- None is left

  -- No write is left that nothing reads, of a name that may go in the graph before.
  pub no_dead_before : (n p x : ℕ) (i : Instruction) (rest : List Instruction) (e : End) → IsReached h n (i ∷ rest) e → StandsWith h p n (i ∷ rest) e → target_of i ≡ Some x → MayGo u.assignments g p x → IsUnread h x n rest e → ⊥
  no_dead_before n p x j after e reached stands target may unread = by_path reached.path
    where
      by_path : Path h reached.history n (j ∷ after) e → ⊥
      by_path (path first at way) =
          let s = before first at way in
          let found = came n s.b s.rest (j ∷ after) s.reduced s.front s.instructions s.hist s.along j after refl in
          by_how s found found.how
        where
          by_how : (s : Before n (j ∷ after) e) → (found : Came n s.b (place_behind s.front s.b.place) j after) → How n found.i found.rest s.b.end j → ⊥
          by_how s found (inr (goes_here, one)) = (let t = goes_target u goes_here in no_target (left_of found.i t.0 t.1))
            where
              no_target : LeftOf found.i → ⊥
              no_target (nothing none computed) = absurd (differ (sym none ∙ one))
                where
                  differ : [] ≡ j ∷ [] → ⊥
                  differ q = cc
              no_target (call k is none reads) =
                  let same : k ∷ [] ≡ j ∷ [] = sym is ∙ one in
                  let head : k ≡ j = cc in
                  none-some x (sym none ∙ ap target_of head ∙ target)
          by_how s found (inl (stays_here, as_is)) =
              let i_same : found.i ≡ j = stays_same x found.i j as_is target in
              let c_same : s.c ≡ stands.block = same_Some s.c stands.block (sym s.at ∙ stands.is) in
              let fronts : s.left_front ≡ stands.before = same_front s.left_front stands.before (j ∷ after) (sym s.left_over ∙ ap (λ (c : Block). c.instructions) c_same ∙ stands.instructions) in
              let place : place_behind found.front s.b.place ≡ Some p = found.place ∙ s.place ∙ ap (λ (c : Block). place_behind s.left_front c.place) c_same ∙ ap (λ l. place_behind l stands.block.place) fronts ∙ stands.place in
              let unread_here : IsUnread h x n after s.b.end = subst (λ d. IsUnread h x n after d) s.end_is unread in
              stays_here (record {
                reached = record { history = found.hist; path = found.along };
                idle = idle (record { block = s.b; before = found.front; is = s.is; instructions = found.instructions; ends = refl; place = place }) (ap target_of i_same ∙ target) may
                    (λ k m left f way quiet reads. (reader n x after s.b.end unread_here m left f (forth n x found.rest after s.b.end found.more way quiet) reads).0)
                    (λ k m left f way quiet reads. (reader n x after s.b.end unread_here m left f (forth n x found.rest after s.b.end found.more way quiet) reads).1);
              })
