-- What the bits of copies say of the paths of a graph.
use Rattle.std.proofs.Common.{◌≡◌, ◌≢◌, ℕ, zero, suc, ◌+◌, ◌<◌, Bool, true, false, true≢false, Option, Some, List, [], ◌∷◌, ◌++◌, length, map, refl, sym, ap, ◌∙◌, subst, arith, append_assoc, length-append}
use Rattle.std.specs.Prelude.{◌==◌, ◌||◌, if◌then◌else◌, slice_get, option_map}
use Rattle.std.proofs.lemmas.Bool.{and_parts, or_parts, eq-eqb, eqb-true}
use Rattle.std.proofs.lemmas.List.{length-map, map-append}
use Rattle.std.proofs.lemmas.Option.{slice_get-map, slice_get_within, same_Some, none-some}
use Rattle.graph_core.specs.declared.value.Value.TheVariants.{Odd}
use Rattle.graph_core.specs.Graphs.{Name, Move, Instruction, End, Block, Graph}
use Rattle.graph_core.specs.Uses.{target_of, targets_of}
use Rattle.graph_core.specs.Paths.{Passed, History, Among, Way, stays, passes, goes, Path, path, writes}
use Rattle.pass_law.specs.Earned.{IsCopiedAt, last_write_of}
use Rattle.copy_pass_rule.specs.declared.copies.CopyAt.{CopyAt}
use Rattle.graph_paths.specs.Reached.{IsReached}
use Rattle.copy_pass_rule.specs.Copying.{AreOfOneType}
use Rattle.copy_pass_rule.specs.Flow.{Line, line_of, lines_of, stands_at, missing_behind, missing_along, missing_where, IsLed, entry, leads, IsMissed, at_entry, behind, Bits, AreFound, IsKnown}
use Rattle.copy_pass_rule.proofs.Missing.{missing, behind_grows, where_start, where_on, where_end, where_step, where_grows}

-- the block of a line
pub block_of_line : (blocks : List Block) (n : ℕ) (line : Line) → slice_get (lines_of blocks) n ≡ Some line → (b : Block) × (slice_get blocks n ≡ Some b) × (line ≡ line_of b)
block_of_line [] n line e = absurd (none-some line e)
block_of_line (b ∷ blocks) zero line e = (b, refl, sym (same_Some (line_of b) line e))
block_of_line (b ∷ blocks) (suc n) line e = block_of_line blocks n line e

pub line_at : (blocks : List Block) (n : ℕ) (b : Block) → slice_get blocks n ≡ Some b → slice_get (lines_of blocks) n ≡ Some (line_of b)
line_at blocks n b at = slice_get-map line_of blocks n ∙ ap (option_map line_of) at

by_cases : {A : Type 0} (b : Bool) → (b ≡ true → A) → (b ≡ false → A) → A
by_cases true f g = f refl
by_cases false f g = g refl

-- what the copies of a block are known by
abbrev pub AreKnown : Graph → List CopyAt → Bits → Type 0
AreKnown u copies bits = (n : ℕ) (b : Block) (before rest : List Instruction) (i : Instruction) → slice_get u.blocks n ≡ Some b → bits n 0 ≡ true → b.instructions ≡ before ++ i ∷ rest → IsKnown u.scalars copies n (length rest) i

module _ (u : Graph) (copies : List CopyAt) (bits : Bits) (found : AreFound (lines_of u.blocks) copies bits) (known : AreKnown u copies bits) where
  abbrev pub Bit : ℕ → ℕ → Bool
  Bit n k = bits n (suc k)

  abbrev pub targets : Block → List (Option ℕ)
  targets b = map target_of b.instructions

  -- A point that a path with this history comes to: where it stands, and what the history has to do with the bits.
  pub record IsAt (h : History) (n : ℕ) (rest : List Instruction) (e : End) : Type 0 where
    pub block : Block
    pub before : List Instruction
    pub is : slice_get u.blocks n ≡ Some block
    pub instructions : block.instructions ≡ before ++ rest
    pub ends : e ≡ block.end
    pub led : bits n 0 ≡ true
    -- a copy that is missing behind the history is missing by the bits
    pub up : (k : ℕ) (c : CopyAt) → slice_get copies k ≡ Some c → missing c h ≡ true → missing_where c n (length rest) (targets block) (Bit n k) ≡ true
    -- a copy that is not missing reaches
    pub held : (k : ℕ) (c : CopyAt) → slice_get copies k ≡ Some c → missing c h ≡ false → IsCopiedAt c.block c.left c.target c.source h × AreOfOneType u.scalars c.target c.source
    -- what was passed last of two names is known
    pub last : (x y : ℕ) (p : Passed) → last_write_of x y h ≡ Some p → IsKnown u.scalars copies p.block p.left p.instruction

  module _ (first : Block) (at_first : slice_get u.blocks 0 ≡ Some first) where
    abbrev Trail : History → ℕ → List Instruction → End → Type 0
    Trail h n rest e = Way u 0 first.instructions first.end h n rest e

    begin : IsAt [] 0 first.instructions first.end
    begin = record {
      block = first;
      before = [];
      is = at_first;
      instructions = refl;
      ends = refl;
      led = found.led;
      up = λ k c at e. ap (λ m. missing_where c 0 m (targets first) (Bit 0 k)) (sym (length-map first.instructions target_of)) ∙ where_start c 0 (targets first) (Bit 0 k) ∙ found.entry k c at;
      held = λ k c at e. absurd (true≢false e);
      last = λ x y p e. absurd (none-some p e);
    }

    module _ {h : History} {n : ℕ} {i : Instruction} {left : List Instruction} {e : End} (s : IsAt h n (i ∷ left) e) (passed : Passed) (in_block : passed.block ≡ n) (there : passed.left ≡ length left) (of : passed.instruction ≡ i) where
      whole : s.block.instructions ≡ (s.before ++ i ∷ []) ++ left
      whole = s.instructions ∙ sym (append_assoc s.before (i ∷ []) left)

      here : IsKnown u.scalars copies passed.block passed.left passed.instruction
      here =
          let k : IsKnown u.scalars copies n (length left) i = known n s.block s.before left i s.is s.led s.instructions in
          let one : IsKnown u.scalars copies passed.block (length left) i = subst (λ m. IsKnown u.scalars copies m (length left) i) (sym in_block) k in
          let two : IsKnown u.scalars copies passed.block passed.left i = subst (λ m. IsKnown u.scalars copies passed.block m i) (sym there) one in
          subst (λ j. IsKnown u.scalars copies passed.block passed.left j) (sym of) two

      step_up : (k : ℕ) (c : CopyAt) → slice_get copies k ≡ Some c → missing_behind c n (length left) (target_of i) (missing c h) ≡ true → missing_where c n (length left) (targets s.block) (Bit n k) ≡ true
      step_up k c at m =
          let ts : List (Option ℕ) = map target_of left in
          let front : List (Option ℕ) = map target_of s.before in
          let same : targets s.block ≡ front ++ target_of i ∷ ts = ap (map target_of) s.instructions ∙ map-append target_of s.before (i ∷ left) in
          let count : length ts ≡ length left = length-map left target_of in
          let before : missing c h ≡ true → missing_where c n (length (target_of i ∷ ts)) (front ++ target_of i ∷ ts) (Bit n k) ≡ true =
          (λ q. ap (λ l. missing_where c n l (front ++ target_of i ∷ ts) (Bit n k)) (length-map (i ∷ left) target_of) ∙ ap (λ l. missing_where c n (length (i ∷ left)) l (Bit n k)) (sym same) ∙ s.up k c at q) in
          let at_last : missing_behind c n (length ts) (target_of i) (missing c h) ≡ true = ap (λ l. missing_behind c n l (target_of i) (missing c h)) count ∙ m in
          ap (λ l. missing_where c n l (targets s.block) (Bit n k)) (sym count) ∙ ap (λ l. missing_where c n (length ts) l (Bit n k)) same
          ∙ where_step c n front (target_of i) ts (Bit n k) ∙ behind_grows c n (length ts) (target_of i) (missing c h) _ at_last before

      step_held : (k : ℕ) (c : CopyAt) → slice_get copies k ≡ Some c → missing c (passed ∷ h) ≡ false → IsCopiedAt c.block c.left c.target c.source (passed ∷ h) × AreOfOneType u.scalars c.target c.source
      step_held k c at none = at_test (stands_at c passed.block passed.left) refl
        where
          at_test : (z : Bool) → stands_at c passed.block passed.left ≡ z → IsCopiedAt c.block c.left c.target c.source (passed ∷ h) × AreOfOneType u.scalars c.target c.source
          at_test true e =
              let made = here.listed k c at e in
              let both = and_parts (passed.block == c.block) (passed.left == c.left) e in
              let wrote : (writes c.target passed.instruction || writes c.source passed.instruction) ≡ true =
              ap (λ j. writes c.target j || writes c.source j) made.0 ∙ ap (λ z. z || writes c.source (Move c.target (Name c.source))) (eq-eqb c.target c.target refl) in (
                record {
                  copy = passed;
                  last = ap (λ z. if z then Some passed else last_write_of c.target c.source h) wrote;
                  in_block = eqb-true passed.block c.block both.0;
                  before = eqb-true passed.left c.left both.1;
                  copies = made.0;
                },
                made.1,
              )
          at_test false e =
              let later : (writes c.target passed.instruction || (writes c.source passed.instruction || missing c h)) ≡ false =
              sym (ap (λ z. if z then false else (writes c.target passed.instruction || (writes c.source passed.instruction || missing c h))) e) ∙ none in
              let one = or_parts (writes c.target passed.instruction) (writes c.source passed.instruction || missing c h) later in
              let two = or_parts (writes c.source passed.instruction) (missing c h) one.1 in
              let old = s.held k c at two.1 in
              let wrote : (writes c.target passed.instruction || writes c.source passed.instruction) ≡ false = ap (λ z. z || writes c.source passed.instruction) one.0 ∙ two.0 in (
                record {
                  copy = old.0.copy;
                  last = ap (λ z. if z then Some passed else last_write_of c.target c.source h) wrote ∙ old.0.last;
                  in_block = old.0.in_block;
                  before = old.0.before;
                  copies = old.0.copies;
                },
                old.1,
              )

      step_last : (x y : ℕ) (p : Passed) → last_write_of x y (passed ∷ h) ≡ Some p → IsKnown u.scalars copies p.block p.left p.instruction
      step_last x y p e = at_test (writes x passed.instruction || writes y passed.instruction) refl
        where
          at_test : (z : Bool) → (writes x passed.instruction || writes y passed.instruction) ≡ z → IsKnown u.scalars copies p.block p.left p.instruction
          at_test true q =
              let same : passed ≡ p = same_Some passed p (sym (ap (λ z. if z then Some passed else last_write_of x y h) q) ∙ e) in
              subst (λ (r : Passed). IsKnown u.scalars copies r.block r.left r.instruction) same here
          at_test false q = s.last x y p (sym (ap (λ z. if z then Some passed else last_write_of x y h) q) ∙ e)

    pub is_at : {h : History} {n : ℕ} {rest : List Instruction} {e : End} → Trail h n rest e → IsAt h n rest e
    is_at stays = begin
    is_at (passes {h} {n} {i} {left} {e} way v) =
        let s : IsAt h n (i ∷ left) e = is_at way in
        let p : Passed = record { block = n; left = length left; instruction = i; wrote = v } in
        record {
          block = s.block;
          before = s.before ++ i ∷ [];
          is = s.is;
          instructions = whole s p refl refl refl;
          ends = s.ends;
          led = s.led;
          up = λ k c at m. step_up s p refl refl refl k c at m;
          held = λ k c at m. step_held s p refl refl refl k c at m;
          last = λ x y q m. step_last s p refl refl refl x y q m;
        }
    is_at (goes {h} {n} {l} {e} way to b at) =
        let s : IsAt h n [] e = is_at way in
        let among : Among l (targets_of s.block.end) = subst (λ f. Among l (targets_of f)) s.ends to in
        let line = line_at u.blocks n s.block s.is in
        let within : l < length (lines_of u.blocks) = slice_get_within (lines_of u.blocks) l (line_of b) (line_at u.blocks l b at) in
        let closed = found.closed n (line_of s.block) line s.led in
        record {
          block = b;
          before = [];
          is = at;
          instructions = refl;
          ends = refl;
          led = closed.on l within among;
          up = λ k c there m. ap (λ z. missing_where c l z (targets b) (Bit l k)) (sym (length-map b.instructions target_of)) ∙ where_start c l (targets b) (Bit l k)
              ∙ closed.brings l k c within among there (sym (where_end c n (targets s.block) (Bit n k)) ∙ s.up k c there m);
          held = s.held;
          last = s.last;
        }

  pub path_at : {h : History} {n : ℕ} {rest : List Instruction} {e : End} → Path u h n rest e → IsAt h n rest e
  path_at (path b at way) = is_at b at way

  -- a path on which a copy is so
  pub record Comes (c : CopyAt) (n : ℕ) (rest : List Instruction) (e : End) (is : Bool) : Type 0 where
    pub history : History
    pub trail : Path u history n rest e
    pub so : missing c history ≡ is

  goes_on : {h : History} {n l : ℕ} {e : End} → Path u h n [] e → Among l (targets_of e) → (b : Block) → slice_get u.blocks l ≡ Some b → Path u h l b.instructions b.end
  goes_on (path b at way) to c there = path b at (goes way to c there)

  passes_on : {h : History} {n : ℕ} {i : Instruction} {rest : List Instruction} {e : End} → Path u h n (i ∷ rest) e → Path u (record { block = n; left = length rest; instruction = i; wrote = Odd } ∷ h) n rest e
  passes_on (path b at way) = path b at (passes way Odd)

  -- a path goes on over instructions
  pub along : (c : CopyAt) (n : ℕ) (before rest : List Instruction) (e : End) (is : Bool) → Comes c n (before ++ rest) e is → Comes c n rest e (missing_where c n (length rest) (map target_of (before ++ rest)) is)
  along c n [] rest e is came = record {
    history = came.history;
    trail = came.trail;
    so = came.so ∙ sym (where_start c n (map target_of rest) is) ∙ ap (λ z. missing_where c n z (map target_of rest) is) (length-map rest target_of);
  }
  along c n (i ∷ before) rest e is came =
      let all : List Instruction = before ++ rest in
      let next : Bool = missing_behind c n (length all) (target_of i) is in
      let later = along c n before rest e next (record {
        history = record { block = n; left = length all; instruction = i; wrote = Odd } ∷ came.history;
        trail = passes_on came.trail;
        so = ap (missing_behind c n (length all) (target_of i)) came.so;
      }) in
      let count : length (map target_of all) ≡ length all = length-map all target_of in
      let longer : length all ≡ length before + length rest = length-append before rest in
      record {
        history = later.history;
        trail = later.trail;
        so = later.so ∙ ap (λ z. missing_where c n (length rest) (map target_of all) (missing_behind c n z (target_of i) is)) (sym count) ∙ sym (where_on c n (length rest) (target_of i) (map target_of all) is (omega (arith, count, longer)));
      }

  module _ (c : CopyAt) where
    whole_along : (n : ℕ) (b : Block) (is : Bool) → Comes c n b.instructions b.end is → Comes c n [] b.end (missing_along c n (targets b) is)
    whole_along n b is came =
        let nil : b.instructions ++ [] ≡ b.instructions = append_nil b.instructions in
        let later = along c n b.instructions [] b.end is (subst (λ l. Comes c n l b.end is) (sym nil) came) in
        subst (λ z. Comes c n [] b.end z) (ap (λ l. missing_where c n 0 (map target_of l) is) nil ∙ where_end c n (targets b) is) later
      where
        append_nil : (xs : List Instruction) → xs ++ [] ≡ xs
        append_nil [] = refl
        append_nil (x ∷ xs) = ap (λ ys. x ∷ ys) (append_nil xs)

    -- where some way leads, a path comes
    pub led_comes : {n : ℕ} → IsLed (lines_of u.blocks) n → (b : Block) → slice_get u.blocks n ≡ Some b → (is : Bool) × Comes c n b.instructions b.end is
    led_comes entry b at = (true, record { history = []; trail = path b at stays; so = refl })
    led_comes (leads {n} {l} line led there to) b at =
        let d = block_of_line u.blocks n line there in
        let came = led_comes led d.0 d.1 in
        let end = whole_along n d.0 came.0 came.1 in
        let among : Among l (targets_of d.0.end) = subst (λ (z : Line). Among l z.leads) d.2 to in
        (missing_along c n (targets d.0) came.0, record { history = end.history; trail = goes_on end.trail among b at; so = end.so })

    along_grows : (n : ℕ) (ts : List (Option ℕ)) (a b : Bool) → (a ≡ true → b ≡ true) → missing_along c n ts a ≡ true → missing_along c n ts b ≡ true
    along_grows n ts a b f e = sym (where_end c n ts b) ∙ where_grows c n 0 ts a b f (where_end c n ts a ∙ e)

    -- and where a copy is missed, one on which it is missing
    pub missed_comes : {n : ℕ} → IsMissed (lines_of u.blocks) c n → (b : Block) → slice_get u.blocks n ≡ Some b → Comes c n b.instructions b.end true
    missed_comes at_entry b at = record { history = []; trail = path b at stays; so = refl }
    missed_comes (behind {n} {l} line before led prior there to lost) b at =
        let d = block_of_line u.blocks n line there in
        let among : Among l (targets_of d.0.end) = subst (λ (z : Line). Among l z.leads) d.2 to in
        let gone : missing_along c n (targets d.0) before ≡ true = subst (λ (z : Line). missing_along c n z.writes before ≡ true) d.2 lost in
        let came : (is : Bool) × Comes c n d.0.instructions d.0.end is × (before ≡ true → is ≡ true) =
        by_cases before (λ e. (true, missed_comes (prior e) d.0 d.1, λ q. refl)) (λ e. (let old = led_comes led d.0 d.1 in (old.0, old.1, λ q. absurd (true≢false (sym q ∙ e))))) in
        let end = whole_along n d.0 came.0 came.1 in
        record { history = end.history; trail = goes_on end.trail among b at; so = end.so ∙ along_grows n (targets d.0) before came.0 came.2 gone }

  -- What is missing by the bits at a point is missing behind some path there.
  pub missing_comes : (k : ℕ) (c : CopyAt) (n : ℕ) (b : Block) (before rest : List Instruction) → slice_get copies k ≡ Some c → slice_get u.blocks n ≡ Some b → b.instructions ≡ before ++ rest → bits n 0 ≡ true
      → missing_where c n (length rest) (targets b) (Bit n k) ≡ true → Comes c n rest b.end true
  missing_comes k c n b before rest known at parts led lost = at_test (Bit n k) refl
    where
      within : n < length (lines_of u.blocks)
      within = slice_get_within (lines_of u.blocks) n (line_of b) (line_at u.blocks n b at)

      from : (is : Bool) → Comes c n b.instructions b.end is → (Bit n k ≡ true → is ≡ true) → Comes c n rest b.end true
      from is came f =
          let later = along c n before rest b.end is (subst (λ l. Comes c n l b.end is) parts came) in
          record { history = later.history; trail = later.trail; so = later.so ∙ where_grows c n (length rest) (map target_of (before ++ rest)) (Bit n k) is f (ap (λ l. missing_where c n (length rest) (map target_of l) (Bit n k)) (sym parts) ∙ lost) }

      at_test : (z : Bool) → Bit n k ≡ z → Comes c n rest b.end true
      at_test true e = from true (missed_comes c (found.is_missed n k c within known e) b at) (λ q. refl)
      at_test false e = (let came = led_comes c (found.is_led n within led) b at in from came.0 came.1 (λ q. absurd (true≢false (sym q ∙ e))))

  -- where some way leads to the block, a path comes to each of its points
  pub point_reached : (n : ℕ) (b : Block) (before rest : List Instruction) → slice_get u.blocks n ≡ Some b → b.instructions ≡ before ++ rest → bits n 0 ≡ true → IsReached u n rest b.end
  point_reached n b before rest at parts led =
      let within : n < length (lines_of u.blocks) = slice_get_within (lines_of u.blocks) n (line_of b) (line_at u.blocks n b at) in
      let any : CopyAt = record { block = 0; left = 0; target = 0; source = 0 } in
      let came = led_comes any (found.is_led n within led) b at in
      let later = along any n before rest b.end came.0 (subst (λ l. Comes any n l b.end came.0) parts came.1) in
      record { history = later.history; path = later.trail }
