-- Copies that are found one after the other, in the order of blocks.
use Rattle.std.proofs.Common.{◌≡◌, ◌≢◌, ℕ, zero, suc, ◌+◌, ◌<◌, ◌≤◌, ◌⊎◌, inl, inr, Bool, true, false, true≢false, Option, Some, None, List, [], ◌∷◌, ◌++◌, length, map, refl, sym, ap, ◌∙◌, subst, arith}
use Rattle.std.specs.Prelude.{◌==◌, ◌&&◌, ◌||◌, not, if◌then◌else◌, slice_get}
use Rattle.std.proofs.lemmas.Bool.{eq-eqb, ne_eqb, cases_eq}
use Rattle.std.proofs.lemmas.List.{length-map}
use Rattle.std.proofs.lemmas.Option.{slice_get_within, same_Some, none-some}
use Rattle.base_laws.proofs.Lists.{snoc_old, snoc_new}
use Rattle.graph_core.specs.Graphs.{Block}
use Rattle.graph_core.specs.Uses.{targets_of}
use Rattle.graph_core.specs.Paths.{Among}
use Rattle.copy_pass_rule.specs.declared.copies.CopyAt.{CopyAt}
use Rattle.copy_pass_rule.specs.Flow.{Line, line_of, lines_of, IsLed, entry, leads, IsMissed, at_entry, behind, Bits, IsClosed, AreFound, is_written, stands_at, missing_behind, missing_along, missing_where, source_among}
use Rattle.copy_pass_rule.specs.Order.{IsInOrder, IsLedEarlier}
use Rattle.copy_pass_rule.proofs.Missing.{where_end, where_grows, where_on}
use Rattle.copy_pass_rule.proofs.Points.{block_of_line, line_at}

-- what is found of more copies is found of the first of them
pub found_of_first : (lines : List Line) (copies more : List CopyAt) (bits : Bits) → AreFound lines (copies ++ more) bits → AreFound lines copies bits
found_of_first lines copies more bits found = record {
  entry = λ k c at. found.entry k c (snoc_old copies more k c at);
  led = found.led;
  closed = λ n line at way. record {
    on = λ l lt among. (found.closed n line at way).on l lt among;
    brings = λ l k c lt among copy e. (found.closed n line at way).brings l k c lt among (snoc_old copies more k c copy) e;
  };
  is_led = found.is_led;
  is_missed = λ n k c lt at e. found.is_missed n k c lt (snoc_old copies more k c at) e;
}

along_grows : (c : CopyAt) (n : ℕ) (ts : List (Option ℕ)) (a b : Bool) → (a ≡ true → b ≡ true) → missing_along c n ts a ≡ true → missing_along c n ts b ≡ true
along_grows c n ts a b f e = sym (where_end c n ts b) ∙ where_grows c n 0 ts a b f (where_end c n ts a ∙ e)

-- all that ways lead to, and that they bring, is told
module _ (lines : List Line) (copies : List CopyAt) (bits : Bits) (found : AreFound lines copies bits) where
  pub led_told : {n : ℕ} → IsLed lines n → n < length lines → bits n 0 ≡ true
  led_told entry lt = found.led
  led_told (leads {n = m} {l} line way at among) lt = (found.closed m line at (led_told way (slice_get_within lines m line at))).on l lt among

  pub missed_told : (k : ℕ) (c : CopyAt) → slice_get copies k ≡ Some c → {n : ℕ} → IsMissed lines c n → n < length lines → bits n (suc k) ≡ true
  missed_told k c copy at_entry lt = found.entry k c copy
  missed_told k c copy (behind {n = m} {l} line before way come at among e) lt =
      let inside : m < length lines = slice_get_within lines m line at in
      (found.closed m line at (led_told way inside)).brings l k c lt among copy (along_grows c m line.writes before (bits m (suc k)) (λ q. missed_told k c copy (come q) inside) e)

or_last : (a b : Bool) → (a || (b || true)) ≡ true
or_last true b = refl
or_last false true = refl
or_last false false = refl

-- what is missing stays so behind all but its own instruction
stays_behind : (c : CopyAt) (n left : ℕ) (t : Option ℕ) → stands_at c n left ≡ false → missing_behind c n left t true ≡ true
stays_behind c n left t apart = ap (λ z. if z then false else (is_written c.target t || (is_written c.source t || true))) apart ∙ or_last (is_written c.target t) (is_written c.source t)

no_block : (c : CopyAt) (n left : ℕ) → n ≢ c.block → stands_at c n left ≡ false
no_block c n left other = ap (λ z. z && (left == c.left)) (ne_eqb n c.block other)

and_false : (a b : Bool) → b ≡ false → (a && b) ≡ false
and_false true b e = e
and_false false b e = refl

no_point : (c : CopyAt) (n left : ℕ) → left ≢ c.left → stands_at c n left ≡ false
no_point c n left other = and_false (n == c.block) (left == c.left) (ne_eqb left c.left other)

pub stays_along : (c : CopyAt) (n : ℕ) → n ≢ c.block → (ts : List (Option ℕ)) → missing_along c n ts true ≡ true
stays_along c n other [] = refl
stays_along c n other (t ∷ more) = ap (missing_along c n more) (stays_behind c n (length more) t (no_block c n (length more) other)) ∙ stays_along c n other more

-- at a point of another block, or before its own instruction
pub stays_where : (c : CopyAt) (n left : ℕ) → (n ≢ c.block) ⊎ (c.left < left) → (ts : List (Option ℕ)) → left ≤ length ts → missing_where c n left ts true ≡ true
stays_where c n left apart [] le = refl
stays_where c n left apart (t ∷ more) le = elim (cases_eq (length (t ∷ more)) left) [
  | inl q ↦ here q
  | inr q ↦ (let lt : left < length (t ∷ more) = omega (arith, le, q) in
      where_on c n left t more true lt ∙ ap (missing_where c n left more) (stays_behind c n (length more) t (elsewhere apart lt)) ∙ stays_where c n left apart more (omega (arith, lt)))
]
  where
    elsewhere : (n ≢ c.block) ⊎ (c.left < left) → left < length (t ∷ more) → stands_at c n (length more) ≡ false
    elsewhere (inl other) lt = no_block c n (length more) other
    elsewhere (inr before) lt = no_point c n (length more) (λ e. omega (arith, e, before, lt))

    here : length (t ∷ more) ≡ left → missing_where c n left (t ∷ more) true ≡ true
    here q = ap (λ z. if z then true else missing_where c n left more (missing_behind c n (length more) t true)) (eq-eqb (length (t ∷ more)) left q)

-- A copy is missing at the start of each block that stands no later than its own in the order.
module _ (blocks : List Block) (order : List ℕ) (is : IsInOrder blocks order) (c : CopyAt) (own : ℕ) (stands : slice_get order own ≡ Some c.block) where
  up_to : (bound k n : ℕ) → k < bound → k ≤ own → slice_get order k ≡ Some n → IsLed (lines_of blocks) n × IsMissed (lines_of blocks) c n
  up_to zero k n lt le at = absurd (omega (arith, lt))
  up_to (suc bound) zero n lt le at =
      (let first : 0 ≡ n = same_Some 0 n (sym is.first ∙ at) in (subst (λ m. IsLed (lines_of blocks) m) first entry, subst (λ m. IsMissed (lines_of blocks) c m) first at_entry))
  up_to (suc bound) (suc k) n lt le at =
      let e : IsLedEarlier blocks order (suc k) n = is.behind (suc k) n at (omega arith) in
      let before = up_to bound e.turn e.number (omega (arith, e.earlier, lt)) (omega (arith, e.earlier, le)) e.stands in
      let line = line_at blocks e.number e.block e.is in
      let other : e.number ≢ c.block = λ q. (let same : e.turn ≡ own = is.once e.turn own c.block (e.stands ∙ ap Some q) stands in omega (arith, same, e.earlier, le)) in
      (leads (line_of e.block) before.0 line e.leads, behind (line_of e.block) true before.0 (λ q. before.1) line e.leads (stays_along c e.number other (line_of e.block).writes))

  pub missing_up_to : (k n : ℕ) → k ≤ own → slice_get order k ≡ Some n → IsMissed (lines_of blocks) c n
  missing_up_to k n le at = (up_to (suc k) k n (omega arith) le at).1

pub led_in_order : (blocks : List Block) (order : List ℕ) → IsInOrder blocks order → {n : ℕ} → IsLed (lines_of blocks) n → n < length blocks → (k : ℕ) × (slice_get order k ≡ Some n)
led_in_order blocks order is entry lt = (0, is.first)
led_in_order blocks order is (leads {n = m} {l} line way at among) lt =
    let there = block_of_line blocks m line at in
    let stood = led_in_order blocks order is way (slice_get_within blocks m there.0 there.1) in
    is.closed stood.0 m l there.0 stood.1 there.1 (subst (λ (e : Line). Among l e.leads) there.2 among) lt

-- what a name is read as, by one copy more that is missing
pub source_snoc : (copies : List CopyAt) (c : CopyAt) (m : ℕ → Bool) (from x : ℕ) → m (from + length copies) ≡ true → source_among (copies ++ c ∷ []) m from x ≡ source_among copies m from x
source_snoc [] c m from x gone =
    (let z : from + 0 ≡ from = omega arith in ap (λ z. if z then c.source else x) (and_false (c.target == x) (not (m from)) (ap not (sym (ap m z) ∙ gone))))
source_snoc (d ∷ copies) c m from x gone =
    (let z : from + suc (length copies) ≡ (from + 1) + length copies = omega arith in
    ap (λ y. if (d.target == x) && not (m from) then d.source else y) (source_snoc copies c m (from + 1) x (sym (ap m z) ∙ gone)))

-- or where the same are missing
pub source_same : (copies : List CopyAt) (m others : ℕ → Bool) (from x : ℕ) → ((k : ℕ) (c : CopyAt) → slice_get copies k ≡ Some c → m (from + k) ≡ others (from + k)) → source_among copies m from x ≡ source_among copies others from x
source_same [] m others from x same = refl
source_same (d ∷ copies) m others from x same =
    let z : from + 0 ≡ from = omega arith in
    let here : m from ≡ others from = sym (ap m z) ∙ same 0 d refl ∙ ap others z in
    ap (λ y. if (d.target == x) && not y then d.source else source_among copies m (from + 1) x) here
    ∙ ap (λ y. if (d.target == x) && not (others from) then d.source else y) (source_same copies m others (from + 1) x (λ k c at. (let w : from + suc k ≡ (from + 1) + k = omega arith in sym (ap m w) ∙ same (suc k) c at ∙ ap others w)))
