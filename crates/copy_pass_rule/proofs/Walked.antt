-- Instructions and blocks that are read one by one.
use Rattle.std.proofs.Common.{◌≡◌, ℕ, suc, ◌+◌, ◌-◌, ◌<◌, ◌≤◌, Bool, true, Option, Some, List, [], ◌∷◌, ◌++◌, length, map, sym, ap, ◌∙◌, subst, arith, append_assoc, get_or, take, drop}
use Rattle.std.specs.Prelude.{slice_get}
use Rattle.std.proofs.lemmas.List.{length-map}
use Rattle.std.proofs.Math.Path.{fun_ext}
use Rattle.graph_core.specs.Graphs.{Operand, Instruction, End, Block, Scalar}
use Rattle.graph_core.specs.Uses.{target_of}
use Rattle.copy_pass_rule.specs.declared.copies.CopyAt.{CopyAt}
use Rattle.copy_pass_rule.specs.Copying.{reading, reading_all, reading_end, reading_operand}
use Rattle.copy_pass_rule.specs.Flow.{Bits, IsKnown, source_among, missing_along, missing_behind, AreRead, none, more, missing_in, IsReadBlock, unled, led, AreReadBlocks}
use Rattle.base_laws.proofs.Lists.{append_nil, rest_is}

module _ (scalars : List Scalar) (copies : List CopyAt) (n : ℕ) where
  -- What is still to be read of the instructions, behind what is read.
  pub data IsAhead (all left : List Instruction) (start now : ℕ → Bool) (out : List Instruction) : Type 0 where
    ahead : ((later : List Instruction) (after : ℕ → Bool) → AreRead scalars copies n left now later after → AreRead scalars copies n all start (out ++ later) after) → IsAhead all left start now out

  pub ahead_first : (all : List Instruction) (start : ℕ → Bool) → IsAhead all all start start []
  ahead_first all start = ahead (λ later after read. read)

  pub ahead_next : (all left : List Instruction) (start now next : ℕ → Bool) (out longer : List Instruction) (i made : Instruction) → longer ≡ out ++ made ∷ [] → made ≡ reading (source_among copies now 0) i
      → IsKnown scalars copies n (length left) made → ((k : ℕ) (c : CopyAt) → slice_get copies k ≡ Some c → next k ≡ missing_behind c n (length left) (target_of i) (now k))
      → IsAhead all (i ∷ left) start now out → IsAhead all left start next longer
  ahead_next all left start now next out longer i made grown is known steps (ahead go) =
      let f : ℕ → ℕ = source_among copies now 0 in
      let known_now : IsKnown scalars copies n (length left) (reading f i) = subst (λ j. IsKnown scalars copies n (length left) j) is known in
      let grown_now : longer ≡ out ++ reading f i ∷ [] = grown ∙ ap (λ j. out ++ j ∷ []) is in
      ahead (λ later after read. (let P : List Instruction → Type 0 = λ l. AreRead scalars copies n all start l after in
      subst P (sym (append_assoc out (reading f i ∷ []) later) ∙ ap (λ l. l ++ later) (sym grown_now)) (go (reading f i ∷ later) after (more next known_now steps read))))

  pub ahead_done : (all : List Instruction) (start now : ℕ → Bool) (out : List Instruction) → IsAhead all [] start now out → AreRead scalars copies n all start out now
  ahead_done all start now out (ahead go) = (let P : List Instruction → Type 0 = λ l. AreRead scalars copies n all start l now in subst P (append_nil out) (go [] now none))

module _ (scalars : List Scalar) (copies : List CopyAt) (bits : Bits) where
  -- What is still to be read of the blocks, the first of which has this number, behind what is read.
  pub data AreAhead (all left : List Block) (number : ℕ) (out : List Block) : Type 0 where
    blocks_ahead : ((later : List Block) → AreReadBlocks scalars copies bits number left later → AreReadBlocks scalars copies bits 0 all (out ++ later)) → AreAhead all left number out

  pub blocks_first : (all : List Block) → AreAhead all all 0 []
  blocks_first all = blocks_ahead (λ later read. read)

  pub blocks_next : (all left : List Block) (number : ℕ) (out longer : List Block) (b made : Block) → longer ≡ out ++ made ∷ [] → IsReadBlock scalars copies bits number b made → AreAhead all (b ∷ left) number out → AreAhead all left (number + 1) longer
  blocks_next all left number out longer b made grown is (blocks_ahead go) =
      blocks_ahead (λ later read. (let P : List Block → Type 0 = λ l. AreReadBlocks scalars copies bits 0 all l in
      subst P (sym (append_assoc out (made ∷ []) later) ∙ ap (λ l. l ++ later) (sym grown)) (go (made ∷ later) (is, read))))

  pub blocks_done : (all : List Block) (number : ℕ) (out : List Block) → AreAhead all [] number out → AreReadBlocks scalars copies bits 0 all out
  blocks_done all number out (blocks_ahead go) = (let P : List Block → Type 0 = λ l. AreReadBlocks scalars copies bits 0 all l in subst P (append_nil out) (go [] tt))

-- a walk goes on over one more
pub walk_on : {A : Type 0} (view : A → Instruction) (left : List A) (x d : A) (c : CopyAt) (n l : ℕ) (t : Option ℕ) (before after whole : Bool) → 1 ≤ length left → x ≡ get_or left 0 d → l ≡ length (take (length left - 1) (drop 1 left)) → t ≡ target_of (view x)
    → after ≡ missing_behind c n l t before → missing_along c n (map target_of (map view left)) before ≡ whole → missing_along c n (map target_of (map view (take (length left - 1) (drop 1 left)))) after ≡ whole
walk_on view [] x d c n l t before after whole le e count is made so_far = absurd (omega arith)
walk_on view (y ∷ left) x d c n l t before after whole le e count is made so_far =
    let rest : take (length (y ∷ left) - 1) (drop 1 (y ∷ left)) ≡ left = rest_is y left in
    let later : List (Option ℕ) = map target_of (map view left) in
    let counts : l ≡ length later = count ∙ ap length rest ∙ sym (length-map (map view left) target_of ∙ length-map left view) in
    ap (λ z. missing_along c n (map target_of (map view z)) after) rest
    ∙ ap (missing_along c n later) (made ∙ ap (λ z. missing_behind c n z t before) counts ∙ ap (λ z. missing_behind c n (length later) z before) is ∙ ap (λ z. missing_behind c n (length later) (target_of (view z)) before) e) ∙ so_far

-- one more instruction is read
pub ahead_step : {A : Type 0} (view : A → Instruction) (scalars : List Scalar) (copies : List CopyAt) (n : ℕ) (all : List Instruction) (start now next : ℕ → Bool) (left : List A) (x d : A) (out longer : List Instruction) (made : Instruction) (l : ℕ) (t : Option ℕ)
    → 1 ≤ length left → x ≡ get_or left 0 d → longer ≡ out ++ made ∷ [] → made ≡ reading (source_among copies now 0) (view x) → l ≡ length (take (length left - 1) (drop 1 left)) → IsKnown scalars copies n l made
    → t ≡ target_of (view x) → ((k : ℕ) (c : CopyAt) → slice_get copies k ≡ Some c → next k ≡ missing_behind c n l t (now k)) → IsAhead scalars copies n all (map view left) start now out
    → IsAhead scalars copies n all (map view (take (length left - 1) (drop 1 left))) start next longer
ahead_step view scalars copies n all start now next [] x d out longer made l t le e grown is count known writes steps old = absurd (omega arith)
ahead_step view scalars copies n all start now next (y ∷ left) x d out longer made l t le e grown is count known writes steps old =
    let rest : take (length (y ∷ left) - 1) (drop 1 (y ∷ left)) ≡ left = rest_is y left in
    let counts : l ≡ length (map view left) = count ∙ ap length rest ∙ sym (length-map left view) in
    let known_here : IsKnown scalars copies n (length (map view left)) made = subst (λ z. IsKnown scalars copies n z made) counts known in
    subst (λ z. IsAhead scalars copies n all (map view z) start next longer) (sym rest)
    (ahead_next scalars copies n all (map view left) start now next out longer (view y) made grown (is ∙ ap (λ z. reading (source_among copies now 0) (view z)) e) known_here
    (λ k c at. steps k c at ∙ ap (λ z. missing_behind c n z t (now k)) counts ∙ ap (λ z. missing_behind c n (length (map view left)) z (now k)) writes ∙ ap (λ z. missing_behind c n (length (map view left)) (target_of (view z)) (now k)) e) old)

pub ahead_all : {A : Type 0} (view : A → Instruction) (scalars : List Scalar) (copies : List CopyAt) (n : ℕ) (all : List Instruction) (start now : ℕ → Bool) (left : List A) (out : List Instruction) → length left < 1 → IsAhead scalars copies n all (map view left) start now out
    → AreRead scalars copies n all start out now
ahead_all view scalars copies n all start now [] out lt old = ahead_done scalars copies n all start now out old
ahead_all view scalars copies n all start now (y ∷ left) out lt old = absurd (omega arith)

-- one more block is read
pub blocks_step : {A : Type 0} (view : A → Block) (scalars : List Scalar) (copies : List CopyAt) (bits : Bits) (all : List Block) (number : ℕ) (left : List A) (x d : A) (out longer : List Block) (made : Block) → 1 ≤ length left → x ≡ get_or left 0 d
    → longer ≡ out ++ made ∷ [] → IsReadBlock scalars copies bits number (view x) made → AreAhead scalars copies bits all (map view left) number out → AreAhead scalars copies bits all (map view (take (length left - 1) (drop 1 left))) (number + 1) longer
blocks_step view scalars copies bits all number [] x d out longer made le e grown is old = absurd (omega arith)
blocks_step view scalars copies bits all number (y ∷ left) x d out longer made le e grown is old =
    subst (λ z. AreAhead scalars copies bits all (map view z) (number + 1) longer) (sym (rest_is y left))
    (blocks_next scalars copies bits all (map view left) number out longer (view y) made grown (subst (λ z. IsReadBlock scalars copies bits number (view z) made) e is) old)

pub blocks_all : {A : Type 0} (view : A → Block) (scalars : List Scalar) (copies : List CopyAt) (bits : Bits) (all : List Block) (number : ℕ) (left : List A) (out : List Block) → length left < 1 → AreAhead scalars copies bits all (map view left) number out
    → AreReadBlocks scalars copies bits 0 all out
blocks_all view scalars copies bits all number [] out lt old = blocks_done scalars copies bits all number out old
blocks_all view scalars copies bits all number (y ∷ left) out lt old = absurd (omega arith)

pub rest_count : {A : Type 0} (left : List A) → 1 ≤ length left → length (take (length left - 1) (drop 1 left)) + 1 ≡ length left
rest_count [] le = absurd (omega arith)
rest_count (y ∷ left) le = (let e = ap length (rest_is y left) in omega (arith, e))

-- a block that some way leads to, as it is read
pub block_led : (scalars : List Scalar) (copies : List CopyAt) (bits : Bits) (n : ℕ) (b : Block) (later : List Instruction) (start after : ℕ → Bool) (e : End) → bits n 0 ≡ true → ((k : ℕ) → start k ≡ bits n (suc k)) → AreRead scalars copies n b.instructions start later after
    → e ≡ reading_end (source_among copies after 0) b.end → IsReadBlock scalars copies bits n b (record { place = b.place; instructions = later; end = e })
block_led scalars copies bits n b later start after e way starts read ends =
    let from : start ≡ missing_in bits n = fun_ext starts in
    let read_from : AreRead scalars copies n b.instructions (missing_in bits n) later after = subst (λ s. AreRead scalars copies n b.instructions s later after) from read in
    subst (λ z. IsReadBlock scalars copies bits n b (record { place = b.place; instructions = later; end = z })) (sym ends) (led after way read_from)

-- by bits that are the same in its row, a block is read the same
pub block_same : (scalars : List Scalar) (copies : List CopyAt) (bits others : Bits) (n : ℕ) (b c : Block) → ((bit : ℕ) → bits n bit ≡ others n bit) → IsReadBlock scalars copies bits n b c → IsReadBlock scalars copies others n b c
block_same scalars copies bits others n b _ same (unled gone) = unled (sym (same 0) ∙ gone)
block_same scalars copies bits others n b _ same (led {later} after way read) =
    let from : missing_in bits n ≡ missing_in others n = fun_ext (λ k. same (suc k)) in
    led after (sym (same 0) ∙ way) (subst (λ s. AreRead scalars copies n b.instructions s later after) from read)
