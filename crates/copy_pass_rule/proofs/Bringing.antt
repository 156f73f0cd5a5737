-- Where a flood tells that copies are missing, some way brings it, and all is told.
use Rattle.std.proofs.Common.{◌≡◌, ◌≢◌, ℕ, zero, suc, ◌+◌, ◌<◌, ◌≤◌, inl, inr, Bool, true, false, true≢false, Option, Some, None, List, [], ◌∷◌, length, map, refl, sym, ap, ◌∙◌, subst, arith}
use Rattle.std.specs.Prelude.{◌==◌, ◌||◌, option_map, slice_get}
use Rattle.std.proofs.lemmas.Bool.{ne_eqb, cases_eq}
use Rattle.std.proofs.lemmas.List.{length-map}
use Rattle.std.proofs.lemmas.Option.{slice_get-map, slice_get_within, same_Some, none-some}
use Rattle.graph_core.specs.Graphs.{Block}
use Rattle.graph_core.specs.Uses.{target_of}
use Rattle.graph_paths.specs.declared.marks.Marks.{Marks}
use Rattle.graph_paths.specs.Flood as flood
use Rattle.graph_paths.specs.Flood.{Bits, Flows, HasEdge, begun, handed, AreSettled}
use Rattle.graph_paths.specs.Reached as reached
use Rattle.graph_paths.specs.Reached.{AreLed}
use Rattle.graph_paths.specs.PathMarksTable.{bits_of}
use Rattle.copy_pass_rule.specs.declared.copies.CopyAt.{CopyAt}
use Rattle.copy_pass_rule.specs.Flow.{Line, line_of, lines_of, IsLed, entry as first_led, leads, IsMissed, at_entry, behind, IsClosed, AreFound, is_written, missing_along}
use Rattle.copy_pass_rule.specs.Numbered.{AreOfScalars}
use Rattle.copy_pass_rule.specs.Rows.{AreParts, missing_past, fact_past, going_missing}

or_apart : (a b c : Bool) → ((a || b) || c) ≡ (a || (b || c))
or_apart true b c = refl
or_apart false b c = refl

module _ (copies : List CopyAt) (scalars : ℕ) where
  -- what a write makes missing, of a scalar
  pub written_part : (parts : Marks) (n k : ℕ) (c : CopyAt) (before : Bool) → n < scalars → slice_get copies k ≡ Some c → AreParts copies scalars parts
      → (bits_of parts n (suc k) || before) ≡ (is_written c.target (Some n) || (is_written c.source (Some n) || before))
  written_part parts n k c before lt at are = ap (λ z. z || before) (are.parts_of n k c lt at) ∙ or_apart (n == c.target) (n == c.source) before

  -- and of another name
  pub written_other : (n k : ℕ) (c : CopyAt) (before : Bool) → scalars ≤ n → slice_get copies k ≡ Some c → AreOfScalars copies scalars → before ≡ (is_written c.target (Some n) || (is_written c.source (Some n) || before))
  written_other n k c before le at small =
      let both = small k c at in
      let one : (n == c.target) ≡ false = ne_eqb n c.target (λ q. omega (arith, q, both.0, le)) in
      let two : (n == c.source) ≡ false = ne_eqb n c.source (λ q. omega (arith, q, both.1, le)) in
      sym (ap (λ z. z || ((n == c.source) || before)) one ∙ ap (λ z. z || before) two)

-- the facts, one by one
pub fact_zero : (copies : List CopyAt) (n : ℕ) (b : Option Block) (before : Bool) → fact_past copies n b 0 before ≡ before
fact_zero [] n b before = refl
fact_zero (c ∷ copies) n b before = refl

pub fact_suc : (copies : List CopyAt) (n : ℕ) (b : Option Block) (k : ℕ) (c : CopyAt) (before : Bool) → slice_get copies k ≡ Some c → fact_past copies n b (suc k) before ≡ missing_past c n b before
fact_suc [] n b k c before at = absurd (none-some c at)
fact_suc (d ∷ copies) n b zero c before at = ap (λ (e : CopyAt). missing_past e n b before) (same_Some d c at)
fact_suc (d ∷ copies) n b (suc k) c before at = fact_suc copies n b k c before at

-- what holds of the first fact, and of that of each copy, holds of all
pub each_fact : (copies : List CopyAt) (P : ℕ → Type 0) → P 0 → ((k : ℕ) (c : CopyAt) → slice_get copies k ≡ Some c → P (suc k)) → (fact : ℕ) → fact < length copies + 1 → P fact
each_fact copies P first each zero lt = first
each_fact copies P first each (suc k) lt = (let there = copy_of copies k (omega (arith, lt)) in each k there.0 there.1)
  where
    copy_of : (all : List CopyAt) (j : ℕ) → j < length all → (c : CopyAt) × (slice_get all j ≡ Some c)
    copy_of [] j less = absurd (omega (arith, less))
    copy_of (c ∷ all) zero less = (c, refl)
    copy_of (c ∷ all) (suc j) less = copy_of all j (omega (arith, less))

-- the block of a line
line_block : (blocks : List Block) (n : ℕ) (line : Line) → slice_get (lines_of blocks) n ≡ Some line → (b : Block) × (slice_get blocks n ≡ Some b) × (line ≡ line_of b)
line_block [] n line at = absurd (none-some line at)
line_block (b ∷ blocks) zero line at = (b, refl, sym (same_Some (line_of b) line at))
line_block (b ∷ blocks) (suc n) line at = line_block blocks n line at

line_at : (blocks : List Block) (n : ℕ) (b : Block) → slice_get blocks n ≡ Some b → slice_get (lines_of blocks) n ≡ Some (line_of b)
line_at blocks n b at = slice_get-map line_of blocks n ∙ ap (option_map line_of) at

led_line : (blocks : List Block) {n : ℕ} → reached.IsLed blocks n → IsLed (lines_of blocks) n
led_line blocks reached.entry = first_led
led_line blocks (reached.leads {n = m} b way at among) = leads (line_of b) (led_line blocks way) (line_at blocks m b at) among

module _ (blocks : List Block) (copies : List CopyAt) (led : ℕ → Bool) (are : AreLed blocks led) (begins starts ends : Bits) (first : (fact : ℕ) → fact < length copies + 1 → begins 0 fact ≡ true)
    (only : (n fact : ℕ) → begins n fact ≡ true → n ≡ 0) (settled : AreSettled (going_missing blocks copies led) begins starts ends) where
  count : length (lines_of blocks) ≡ length blocks
  count = length-map blocks line_of

  fact_within : (k : ℕ) (c : CopyAt) → slice_get copies k ≡ Some c → suc k < length copies + 1
  fact_within k c at = (let lt : k < length copies = slice_get_within copies k c at in omega (arith, lt))

  edge_led : (m n : ℕ) → HasEdge blocks led m n → IsLed (lines_of blocks) n
  edge_led m n edge = leads (line_of edge.block) (led_line blocks (are.is_led m edge.comes)) (line_at blocks m edge.block edge.is) edge.leads

  -- what comes to a block comes along a way
  told_led : {n : ℕ} → flood.IsBrought (Flows (going_missing blocks copies led)) (λ m before. fact_past copies m (slice_get blocks m) 0 before) (λ m. begins m 0) n → n < length blocks → IsLed (lines_of blocks) n × (led n ≡ true)
  told_led {n} (begun e) lt = (subst (λ k. IsLed (lines_of blocks) k) (sym (only n 0 e)) first_led, ap led (only n 0 e) ∙ are.first)
  told_led {n} (handed {m} before edge come e) lt = (edge_led m n edge, are.leads_on m edge.block n edge.is edge.comes edge.leads lt)

  missed : (k : ℕ) (c : CopyAt) → slice_get copies k ≡ Some c → {n : ℕ} → flood.IsBrought (Flows (going_missing blocks copies led)) (λ m before. fact_past copies m (slice_get blocks m) (suc k) before) (λ m. begins m (suc k)) n → IsMissed (lines_of blocks) c n
  missed k c at {n} (begun e) = subst (λ j. IsMissed (lines_of blocks) c j) (sym (only n (suc k) e)) at_entry
  missed k c at {n} (handed {m} before edge come e) =
      behind (line_of edge.block) before (led_line blocks (are.is_led m edge.comes)) (λ q. missed k c at (come q)) (line_at blocks m edge.block edge.is) edge.leads
      (ap (λ o. missing_past c m o before) (sym edge.is) ∙ sym (fact_suc copies m (slice_get blocks m) k c before at) ∙ e)

  -- what is found when a flood settles
  pub found_by : AreFound (lines_of blocks) copies starts
  found_by = record {
    entry = λ k c at. settled.brought.begun 0 (suc k) (first (suc k) (fact_within k c at));
    led = settled.brought.begun 0 0 (first 0 (omega arith));
    closed = λ n line at way.
        (let there = line_block blocks n line at in
        let b = there.0 in
        let inside : n < length blocks = slice_get_within blocks n b there.1 in
        let is_open : led n ≡ true = (told_led (settled.brought.brought n 0 inside (omega arith) way) inside).1 in
        subst (λ (l : Line). IsClosed copies starts (length (lines_of blocks)) n l) (sym there.2) (record {
          on = λ l lt among. settled.closed n l 0 (record { block = b; is = there.1; comes = is_open; leads = among }) inside (omega (arith, lt, count))
              (settled.brought.made n 0 inside (omega arith) ∙ fact_zero copies n (slice_get blocks n) (starts n 0) ∙ way);
          brings = λ l k c lt among copy e. settled.closed n l (suc k) (record { block = b; is = there.1; comes = is_open; leads = among }) inside (omega (arith, lt, count))
              (settled.brought.made n (suc k) inside (fact_within k c copy) ∙ fact_suc copies n (slice_get blocks n) k c (starts n (suc k)) copy ∙ ap (λ o. missing_past c n o (starts n (suc k))) there.1 ∙ e);
        }));
    is_led = λ n lt e. (let inside : n < length blocks = omega (arith, lt, count) in (told_led (settled.brought.brought n 0 inside (omega arith) e) inside).0);
    is_missed = λ n k c lt at e. missed k c at (settled.brought.brought n (suc k) (omega (arith, lt, count)) (fact_within k c at) e);
  }
