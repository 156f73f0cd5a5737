-- Blocks that are read by bits are read by the rule.
use Rattle.std.proofs.Common.{◌≡◌, ◌≢◌, ℕ, zero, suc, ◌+◌, ◌⊎◌, inl, inr, Bool, true, false, true≢false, Option, Some, None, List, [], ◌∷◌, ◌++◌, length, map, refl, sym, ap, ◌∙◌, subst, arith, append_assoc}
use Rattle.std.specs.Prelude.{◌==◌, ◌&&◌, not, if◌then◌else◌, slice_get}
use Rattle.std.proofs.lemmas.Bool.{and_parts, eq-eqb, eqb-true}
use Rattle.std.proofs.lemmas.List.{length-map, map-append}
use Rattle.std.proofs.lemmas.Option.{same_Some, none-some}
use Rattle.graph_core.specs.Graphs.{Operand, Name, Constant, StaticAddress, Location, Automatic, Static, At, Instruction, Marker, Note, Move, Operate, Truncate, Same, Address, Load, Store, Zero, CopyWords, Call, End, Jump, Branch, Return, Block, Scalar, Graph}
use Rattle.graph_core.specs.Uses.{target_of, targets_of}
use Rattle.graph_core.specs.Paths.{History}
use Rattle.pass_law.specs.Earned.{IsCopiedAt, last_write_of}
use Rattle.copy_pass_rule.specs.declared.copies.CopyAt.{CopyAt}
use Rattle.graph_paths.specs.Reached.{IsReached}
use Rattle.copy_pass_rule.specs.Copying.{reading_operand, reading_all, reading_at, reading, reading_end, IsCopied, IsReadAs, of_copy, of_none, AreCopied, ends, next, IsCopiedBlock, IsPropagated}
use Rattle.copy_pass_rule.specs.Flow.{Line, line_of, lines_of, missing_behind, missing_where, Bits, AreFound, IsKnown, source_among, AreRead, none, more, missing_in, IsReadBlock, unled, led, AreReadBlocks}
use Rattle.copy_pass_rule.proofs.Missing.{missing, unheld, where_start, where_step}
use Rattle.copy_pass_rule.proofs.Points.{AreKnown, IsAt, path_at, Comes, missing_comes, point_reached}

-- what a name is read as: the source of a copy to it that is not missing, or itself where all are
pub source_cases : (copies : List CopyAt) (m : ℕ → Bool) (from x : ℕ)
    → ((k : ℕ) × (c : CopyAt) × (slice_get copies k ≡ Some c) × (c.target ≡ x) × (m (from + k) ≡ false) × (source_among copies m from x ≡ c.source))
    ⊎ (((k : ℕ) (c : CopyAt) → slice_get copies k ≡ Some c → c.target ≡ x → m (from + k) ≡ true) × (source_among copies m from x ≡ x))
source_cases [] m from x = inr ((λ k c e. absurd (none-some c e)), refl)
source_cases (c ∷ later) m from x = at_test (source_cases later m (from + 1) x) ((c.target == x) && not (m from)) refl
  where
    not_false : (b : Bool) → not b ≡ true → b ≡ false
    not_false true e = sym e
    not_false false e = refl

    not_true : (a b : Bool) → a ≡ true → (a && not b) ≡ false → b ≡ true
    not_true true true e q = refl
    not_true true false e q = absurd (true≢false q)
    not_true false b e q = absurd (true≢false (sym e))

    at_zero : (b : Bool) → m from ≡ b → m (from + 0) ≡ b
    at_zero b e = (let z : from + 0 ≡ from = omega arith in ap m z ∙ e)

    at_test : (((k : ℕ) × (d : CopyAt) × (slice_get later k ≡ Some d) × (d.target ≡ x) × (m ((from + 1) + k) ≡ false) × (source_among later m (from + 1) x ≡ d.source))
        ⊎ (((k : ℕ) (d : CopyAt) → slice_get later k ≡ Some d → d.target ≡ x → m ((from + 1) + k) ≡ true) × (source_among later m (from + 1) x ≡ x))) → (z : Bool) → ((c.target == x) && not (m from)) ≡ z → ((k : ℕ) × (d : CopyAt) × (slice_get (c ∷ later) k ≡ Some d) × (d.target ≡ x) × (m (from + k) ≡ false) × (source_among (c ∷ later) m from x ≡ d.source))
        ⊎ (((k : ℕ) (d : CopyAt) → slice_get (c ∷ later) k ≡ Some d → d.target ≡ x → m (from + k) ≡ true) × (source_among (c ∷ later) m from x ≡ x))
    at_test again true e =
        let both = and_parts (c.target == x) (not (m from)) e in
        inl (0, c, refl, eqb-true c.target x both.0, at_zero false (not_false (m from) both.1), ap (λ z. if z then c.source else source_among later m (from + 1) x) e)
    at_test again false e = elim again [
      | inl f ↦ (let z : (from + 1) + f.0 ≡ from + suc f.0 = omega arith in
          inl (suc f.0, f.1, f.2, f.3, subst (λ j. m j ≡ false) z f.4, ap (λ z. if z then c.source else source_among later m (from + 1) x) e ∙ f.5))
      | inr f ↦ inr (each f.0, ap (λ z. if z then c.source else source_among later m (from + 1) x) e ∙ f.1)
    ]
      where
        each : ((k : ℕ) (d : CopyAt) → slice_get later k ≡ Some d → d.target ≡ x → m ((from + 1) + k) ≡ true) → (k : ℕ) (d : CopyAt) → slice_get (c ∷ later) k ≡ Some d → d.target ≡ x → m (from + k) ≡ true
        each f zero d at t =
            let same : c ≡ d = same_Some c d at in
            at_zero true (not_true (c.target == x) (m from) (eq-eqb c.target x (ap (λ (a : CopyAt). a.target) same ∙ t)) e)
        each f (suc k) d at t = (let z : (from + 1) + k ≡ from + suc k = omega arith in subst (λ j. m j ≡ true) z (f k d at t))

-- an instruction that reads writes what it wrote
pub reading_target : (f : ℕ → ℕ) (i : Instruction) → target_of (reading f i) ≡ target_of i
reading_target f (Marker p) = refl
reading_target f (Note x v) = refl
reading_target f (Move x a) = refl
reading_target f (Operate x o a b) = refl
reading_target f (Truncate x t a) = refl
reading_target f (Same x a b) = refl
reading_target f (Address x object) = refl
reading_target f (Load x e l) = refl
reading_target f (Store e l a) = refl
reading_target f (Zero object words) = refl
reading_target f (CopyWords object bytes words) = refl
reading_target f (Call x g all) = refl

pub reading_targets : (f : ℕ → ℕ) (e : End) → targets_of (reading_end f e) ≡ targets_of e
reading_targets f (Jump l) = refl
reading_targets f (Branch c a b l m) = refl
reading_targets f (Return None) = refl
reading_targets f (Return (Some a)) = refl

-- what reads each name as itself stays
abbrev same_name : ℕ → ℕ
same_name x = x

same_operand : (a : Operand) → reading_operand same_name a ≡ a
same_operand (Name x) = refl
same_operand (Constant w) = refl
same_operand (StaticAddress object offset) = refl

same_all : (all : List Operand) → reading_all same_name all ≡ all
same_all [] = refl
same_all (a ∷ all) = ap (λ b. b ∷ reading_all same_name all) (same_operand a) ∙ ap (λ l. a ∷ l) (same_all all)

same_at : (l : Location) → reading_at same_name l ≡ l
same_at (Automatic object offset) = refl
same_at (Static object) = refl
same_at (At a) = ap At (same_operand a)

pub same_reading : (i : Instruction) → reading same_name i ≡ i
same_reading (Marker p) = refl
same_reading (Note x v) = refl
same_reading (Move x a) = ap (Move x) (same_operand a)
same_reading (Operate x o a b) = ap (λ z. Operate x o z (reading_operand same_name b)) (same_operand a) ∙ ap (Operate x o a) (same_operand b)
same_reading (Truncate x t a) = ap (Truncate x t) (same_operand a)
same_reading (Same x a b) = ap (λ z. Same x z (reading_operand same_name b)) (same_operand a) ∙ ap (Same x a) (same_operand b)
same_reading (Address x object) = refl
same_reading (Load x e l) = ap (Load x e) (same_at l)
same_reading (Store e l a) = ap (λ z. Store e z (reading_operand same_name a)) (same_at l) ∙ ap (Store e l) (same_operand a)
same_reading (Zero object words) = refl
same_reading (CopyWords object bytes words) = refl
same_reading (Call x f all) = ap (Call x f) (same_all all)

pub same_reading_end : (e : End) → reading_end same_name e ≡ e
same_reading_end (Jump l) = refl
same_reading_end (Branch c a b l m) = ap (λ z. Branch c z (reading_operand same_name b) l m) (same_operand a) ∙ ap (λ z. Branch c a z l m) (same_operand b)
same_reading_end (Return None) = refl
same_reading_end (Return (Some a)) = ap (λ z. Return (Some z)) (same_operand a)

nothing_behind : (xs : List Instruction) → xs ++ [] ≡ xs
nothing_behind [] = refl
nothing_behind (x ∷ xs) = ap (λ ys. x ∷ ys) (nothing_behind xs)

read_length : {scalars : List Scalar} {copies : List CopyAt} {n : ℕ} {rest later : List Instruction} {m after : ℕ → Bool} → AreRead scalars copies n rest m later after → length rest ≡ length later
read_length none = refl
read_length (more {i} {rest} {later} {missing} {after} behind_all here step read) = (let h = read_length read in omega (arith, h))

module _ (u : Graph) (copies : List CopyAt) (bits : Bits) (found : AreFound (lines_of u.blocks) copies bits) (known : AreKnown u copies bits) where
  abbrev where_is : CopyAt → ℕ → ℕ → List Instruction → Block → Bool
  where_is c k n rest b = missing_where c n (length rest) (map target_of b.instructions) (bits n (suc k))

  -- what is missing at a point of a block, by the bits
  abbrev IsMissingAt : (n : ℕ) (b : Block) (rest : List Instruction) (m : ℕ → Bool) → Type 0
  IsMissingAt n b rest m = (k : ℕ) (c : CopyAt) → slice_get copies k ≡ Some c → m k ≡ where_is c k n rest b

  -- a read at a point that some way leads to
  reads_as : (n : ℕ) (b : Block) (before rest : List Instruction) → slice_get u.blocks n ≡ Some b → b.instructions ≡ before ++ rest → bits n 0 ≡ true → (m : ℕ → Bool) → IsMissingAt n b rest m → (x : ℕ)
      → IsReadAs u n rest b.end x (source_among copies m 0 x)
  reads_as n b before rest at parts way m is x = elim (source_cases copies m 0 x) [ inl f ↦ copied f.0 f.1 f.2 f.3 f.4 f.5 | inr f ↦ spared f.0 f.1 ]
    where
      reached : IsReached u n rest b.end
      reached = point_reached u copies bits found known n b before rest at parts way

      plain : (k : ℕ) (z : Bool) → m (0 + k) ≡ z → m k ≡ z
      plain k z e = (let q : 0 + k ≡ k = omega arith in sym (ap m q) ∙ e)

      one_block : {h : History} → (s : IsAt u copies bits found known h n rest b.end) → s.block ≡ b
      one_block s = same_Some s.block b (sym s.is ∙ at)

      copied : (k : ℕ) (c : CopyAt) → slice_get copies k ≡ Some c → c.target ≡ x → m (0 + k) ≡ false → source_among copies m 0 x ≡ c.source → IsReadAs u n rest b.end x (source_among copies m 0 x)
      copied k c there target gone source =
          let here : (h : History) → IsAt u copies bits found known h n rest b.end → missing c h ≡ false = (λ h s. at_test (missing c h) refl s) in
          let s = path_at u copies bits found known reached.path in
          let both = s.held k c there (here reached.history s) in
          let is_copied : IsCopied u c.target c.source n rest b.end = record {
            scalars = both.1;
            block = c.block;
            left = c.left;
            on_each = λ h p. (let t = path_at u copies bits found known p in (t.held k c there (here h t)).0);
          } in
          subst (λ y. IsReadAs u n rest b.end x y) (sym source) (subst (λ z. IsReadAs u n rest b.end z c.source) target (of_copy reached is_copied))
        where
          at_test : {h : History} → (z : Bool) → missing c h ≡ z → IsAt u copies bits found known h n rest b.end → missing c h ≡ false
          at_test false e s = e
          at_test true e s =
              let up : where_is c k n rest s.block ≡ true = s.up k c there e in
              let up_here : where_is c k n rest b ≡ true = subst (λ (d : Block). where_is c k n rest d ≡ true) (one_block s) up in
              absurd (true≢false (sym up_here ∙ sym (is k c there) ∙ plain k false gone))

      spared : ((k : ℕ) (c : CopyAt) → slice_get copies k ≡ Some c → c.target ≡ x → m (0 + k) ≡ true) → source_among copies m 0 x ≡ x → IsReadAs u n rest b.end x (source_among copies m 0 x)
      spared all source = subst (λ y. IsReadAs u n rest b.end x y) (sym source) (of_none (λ r y copy. never y copy))
        where
          never : (y : ℕ) → IsCopied u x y n rest b.end → ⊥
          never y copy =
              let s = path_at u copies bits found known reached.path in
              let here : IsCopiedAt copy.block copy.left x y reached.history = copy.on_each reached.history reached.path in
              let stood = s.last x y here.copy here.last in
              let one = stood.all x y here.copies copy.scalars in
              let c : CopyAt = one.1 in
              let both = and_parts (here.copy.block == c.block) (here.copy.left == c.left) one.3 in
              let block : c.block ≡ copy.block = sym (eqb-true here.copy.block c.block both.0) ∙ here.in_block in
              let left : c.left ≡ copy.left = sym (eqb-true here.copy.left c.left both.1) ∙ here.before in
              let lost : where_is c one.0 n rest b ≡ true = sym (is one.0 c one.2) ∙ plain one.0 true (all one.0 c one.2 one.4) in
              let comes : Comes u copies bits found known c n rest b.end true = missing_comes u copies bits found known one.0 c n b before rest one.2 at parts way lost in
              let there : IsCopiedAt copy.block copy.left x y comes.history = copy.on_each comes.history comes.trail in
              let as_c : IsCopiedAt c.block c.left c.target c.source comes.history = record {
                copy = there.copy;
                last = ap (λ z. last_write_of z c.source comes.history) one.4 ∙ ap (λ z. last_write_of x z comes.history) one.5 ∙ there.last;
                in_block = there.in_block ∙ sym block;
                before = there.before ∙ sym left;
                copies = there.copies ∙ ap (λ z. Move z (Name y)) (sym one.4) ∙ ap (λ z. Move c.target (Name z)) (sym one.5);
              } in
              true≢false (sym comes.so ∙ unheld c comes.history as_c)

  -- what is read by bits is read by the rule
  are_copied : (n : ℕ) (b : Block) → slice_get u.blocks n ≡ Some b → bits n 0 ≡ true → {rest later : List Instruction} {m after : ℕ → Bool} → AreRead u.scalars copies n rest m later after → (before : List Instruction) → b.instructions ≡ before ++ later
      → IsMissingAt n b later m → AreCopied u n b.end rest later × IsMissingAt n b [] after
  are_copied n b at way none before parts is = (ends, is)
  are_copied n b at way (more {i} {rest} {later} {missing} {after} behind_all here stepped read) before parts is =
      let f : ℕ → ℕ = source_among copies missing 0 in
      let j : Instruction = reading f i in
      let whole : b.instructions ≡ (before ++ j ∷ []) ++ later = parts ∙ sym (append_assoc before (j ∷ []) later) in
      let rest_of = are_copied n b at way read (before ++ j ∷ []) whole (λ k c there. step k c there) in
      (next f (λ x among. reads_as n b before (j ∷ later) at parts way missing is x) rest_of.0, rest_of.1)
    where
      step : (k : ℕ) (c : CopyAt) → slice_get copies k ≡ Some c → behind_all k ≡ where_is c k n later b
      step k c there =
          let j : Instruction = reading (source_among copies missing 0) i in
          let ts : List (Option ℕ) = map target_of later in
          let front : List (Option ℕ) = map target_of before in
          let B : Bool = bits n (suc k) in
          let same : map target_of b.instructions ≡ front ++ target_of j ∷ ts = ap (map target_of) parts ∙ map-append target_of before (j ∷ later) in
          let count : length ts ≡ length later = length-map later target_of in
          let counts : length rest ≡ length ts = read_length read ∙ sym count in
          let before_is : missing k ≡ missing_where c n (length (target_of j ∷ ts)) (front ++ target_of j ∷ ts) B =
          is k c there ∙ ap (λ l. missing_where c n (length (j ∷ later)) l B) same ∙ ap (λ l. missing_where c n l (front ++ target_of j ∷ ts) B) (sym (length-map (j ∷ later) target_of)) in
          stepped k c there ∙ ap (λ l. missing_behind c n l (target_of i) (missing k)) counts
          ∙ ap (λ t. missing_behind c n (length ts) t (missing k)) (sym (reading_target (source_among copies missing 0) i))
          ∙ ap (missing_behind c n (length ts) (target_of j)) before_is ∙ sym (where_step c n front (target_of j) ts B)
          ∙ ap (λ l. missing_where c n (length ts) l B) (sym same) ∙ ap (λ l. missing_where c n l (map target_of b.instructions) B) count

  -- no path leads to a block to which no way leads
  unreached : (n : ℕ) → bits n 0 ≡ false → (rest : List Instruction) (e : End) → IsReached u n rest e → ⊥
  unreached n gone rest e r = (let s = path_at u copies bits found known r.path in true≢false (sym s.led ∙ gone))

  copied_same : (n : ℕ) → bits n 0 ≡ false → (e : End) (all : List Instruction) → AreCopied u n e all all
  copied_same n gone e [] = ends
  copied_same n gone e (i ∷ all) =
      subst (λ j. AreCopied u n e (i ∷ all) (j ∷ all)) (same_reading i) (next same_name (λ x among. of_none (λ r. absurd (unreached n gone (reading same_name i ∷ all) e r))) (copied_same n gone e all))

  pub copied_block : (n : ℕ) (b c : Block) → IsReadBlock u.scalars copies bits n b c → slice_get u.blocks n ≡ Some c → IsCopiedBlock u n b c
  copied_block n b _ (unled way) at = record {
    place = refl;
    read_as = same_name;
    end = sym (same_reading_end b.end);
    reads = λ x among. of_none (λ r. absurd (unreached n way [] b.end r));
    instructions = copied_same n way b.end b.instructions;
  }
  copied_block n b _ (led {later} after way read) at =
      let f : ℕ → ℕ = source_among copies after 0 in
      let c : Block = record { place = b.place; instructions = later; end = reading_end f b.end } in
      let first : IsMissingAt n c later (missing_in bits n) =
      (λ k d there. sym (ap (λ l. missing_where d n l (map target_of later) (bits n (suc k))) (sym (length-map later target_of)) ∙ where_start d n (map target_of later) (bits n (suc k)))) in
      let both = are_copied n c at way read [] refl first in
      record {
        place = refl;
        read_as = f;
        end = refl;
        reads = λ x among. reads_as n c later [] at (sym (nothing_behind later)) way after both.1 x;
        instructions = both.0;
      }

module _ (scalars : List Scalar) (copies : List CopyAt) (bits : Bits) where
  known_in : {n : ℕ} {rest later : List Instruction} {m after : ℕ → Bool} → AreRead scalars copies n rest m later after → (before behind : List Instruction) (j : Instruction) → later ≡ before ++ j ∷ behind → IsKnown scalars copies n (length behind) j
  known_in {n} none [] behind j e = cc
  known_in {n} none (y ∷ before) behind j e = cc
  known_in {n} (more {i} {rest} {later} {missing} {after} behind_all here step read) [] behind j e =
      let head : reading (source_among copies missing 0) i ≡ j = cc in
      let tail : later ≡ behind = cc in
      subst (λ z. IsKnown scalars copies n z j) (read_length read ∙ ap length tail) (subst (λ z. IsKnown scalars copies n (length rest) z) head here)
  known_in {n} (more {i} {rest} {later} {missing} {after} behind_all here step read) (y ∷ before) behind j e = known_in read before behind j (let tail : later ≡ before ++ j ∷ behind = cc in tail)

  block_at : (from : ℕ) (before after : List Block) → AreReadBlocks scalars copies bits from before after → (n : ℕ) (c : Block) → slice_get after n ≡ Some c → (b : Block) × (slice_get before n ≡ Some b) × IsReadBlock scalars copies bits (from + n) b c
  block_at from [] [] all n c at = absurd (none-some c at)
  block_at from [] (d ∷ after) all n c at = absurd all
  block_at from (b ∷ before) [] all n c at = absurd all
  block_at from (b ∷ before) (d ∷ after) all zero c at =
      let same : d ≡ c = same_Some d c at in
      let there : from + 0 ≡ from = omega arith in
      (b, refl, subst (λ k. IsReadBlock scalars copies bits k b c) (sym there) (subst (λ e. IsReadBlock scalars copies bits from b e) same all.0))
  block_at from (b ∷ before) (d ∷ after) all (suc n) c at =
      let later = block_at (from + 1) before after all.1 n c at in
      let there : (from + 1) + n ≡ from + suc n = omega arith in
      (later.0, later.1, subst (λ k. IsReadBlock scalars copies bits k later.0 c) there later.2)

  read_targets : {n : ℕ} {rest later : List Instruction} {m after : ℕ → Bool} → AreRead scalars copies n rest m later after → map target_of later ≡ map target_of rest
  read_targets none = refl
  read_targets (more {i} {rest} {later} {missing} {after} behind_all here step read) = ap (λ t. t ∷ map target_of later) (reading_target (source_among copies missing 0) i) ∙ ap (λ l. target_of i ∷ l) (read_targets read)

  same_line : {n : ℕ} {b c : Block} → IsReadBlock scalars copies bits n b c → line_of c ≡ line_of b
  same_line (unled way) = refl
  same_line {n} {b} (led {later} after way read) =
      let made : (writes : List (Option ℕ)) (leads : List ℕ) → Line = λ (writes : List (Option ℕ)) (leads : List ℕ). record { writes = writes; leads = leads } in
      ap (λ l. made l (targets_of (reading_end (source_among copies after 0) b.end))) (read_targets read) ∙ ap (λ l. made (map target_of b.instructions) l) (reading_targets (source_among copies after 0) b.end)

  same_lines : (from : ℕ) (before after : List Block) → AreReadBlocks scalars copies bits from before after → lines_of after ≡ lines_of before
  same_lines from [] [] all = refl
  same_lines from [] (c ∷ after) all = absurd all
  same_lines from (b ∷ before) [] all = absurd all
  same_lines from (b ∷ before) (c ∷ after) all = ap (λ l. l ∷ lines_of after) (same_line all.0) ∙ ap (λ l. line_of b ∷ l) (same_lines (from + 1) before after all.1)

  same_count : (from : ℕ) (before after : List Block) → AreReadBlocks scalars copies bits from before after → length after ≡ length before
  same_count from [] [] all = refl
  same_count from [] (c ∷ after) all = absurd all
  same_count from (b ∷ before) [] all = absurd all
  same_count from (b ∷ before) (c ∷ after) all = (let h = same_count (from + 1) before after all.1 in omega (arith, h))

-- a graph with other blocks
abbrev with_blocks : Graph → List Block → Graph
with_blocks g after = record g { blocks = after }

module _ (g : Graph) (copies : List CopyAt) (bits : Bits) (after : List Block) (found : AreFound (lines_of g.blocks) copies bits) (all : AreReadBlocks g.scalars copies bits 0 g.blocks after) where
  found_after : AreFound (lines_of after) copies bits
  found_after = subst (λ l. AreFound l copies bits) (sym (same_lines g.scalars copies bits 0 g.blocks after all)) found

  plain_block : (n : ℕ) (b c : Block) → IsReadBlock g.scalars copies bits (0 + n) b c → IsReadBlock g.scalars copies bits n b c
  plain_block n b c read = (let z : 0 + n ≡ n = omega arith in subst (λ k. IsReadBlock g.scalars copies bits k b c) z read)

  known_of : (n : ℕ) (b c : Block) → IsReadBlock g.scalars copies bits n b c → bits n 0 ≡ true → (before rest : List Instruction) (i : Instruction) → c.instructions ≡ before ++ i ∷ rest → IsKnown g.scalars copies n (length rest) i
  known_of n b _ (unled gone) way before rest i parts = absurd (true≢false (sym way ∙ gone))
  known_of n b _ (led {later} after_it way read) also before rest i parts = known_in g.scalars copies bits read before rest i parts

  known_after : AreKnown (with_blocks g after) copies bits
  known_after n c before rest i at way parts =
      let found_at = block_at g.scalars copies bits 0 g.blocks after all n c at in
      known_of n found_at.0 c (plain_block n found_at.0 c found_at.2) way before rest i parts

  each_block : (n : ℕ) (b c : Block) → slice_get g.blocks n ≡ Some b → slice_get after n ≡ Some c → IsCopiedBlock (with_blocks g after) n b c
  each_block n b c at there =
      let found_at = block_at g.scalars copies bits 0 g.blocks after all n c there in
      let same : found_at.0 ≡ b = same_Some found_at.0 b (sym found_at.1 ∙ at) in
      copied_block (with_blocks g after) copies bits found_after known_after n b c (subst (λ d. IsReadBlock g.scalars copies bits n d c) same (plain_block n found_at.0 c found_at.2)) there

  -- Blocks that are read by what is found are those of copy propagation.
  pub propagated : IsPropagated g (with_blocks g after)
  propagated = record { rest = refl; count = same_count g.scalars copies bits 0 g.blocks after all; blocks = each_block }
