-- The points of blocks that are gone through in order.
use Rattle.std.proofs.Common.{◌≡◌, ◌≢◌, ℕ, zero, suc, ◌+◌, ◌<◌, ◌≤◌, ◌⊎◌, inl, inr, Bool, true, false, Option, Some, None, List, [], ◌∷◌, ◌++◌, length, map, refl, sym, ap, ◌∙◌, subst, arith, length-append}
use Rattle.std.specs.Prelude.{slice_get}
use Rattle.std.proofs.lemmas.Bool.{cases_eq}
use Rattle.std.proofs.lemmas.List.{length-map}
use Rattle.std.proofs.lemmas.Option.{slice_get_within, same_Some, none-some}
use Rattle.base_laws.proofs.Lists.{snoc_new}
use Rattle.graph_core.specs.Graphs.{Instruction, Move, Name, Block, Graph}
use Rattle.graph_core.specs.Uses.{target_of}
use Rattle.copy_pass_rule.specs.declared.copies.CopyAt.{CopyAt}
use Rattle.copy_pass_rule.specs.Copying.{AreOfOneType, reading}
use Rattle.copy_pass_rule.specs.Flow.{Line, lines_of, Bits, AreFound, missing_where, source_among}
use Rattle.copy_pass_rule.specs.Found.{AreMissingAt, AreCopiesOf}
use Rattle.copy_pass_rule.specs.Known.{IsNoCopy}
use Rattle.copy_pass_rule.specs.Order.{IsInOrder}
use Rattle.copy_pass_rule.proofs.LaterCopies.{missed_told, stays_where, missing_up_to, led_in_order}
use Rattle.copy_pass_rule.proofs.Found.{AreFoundTo, And, found_none, found_one}

cases_below : (j k : ℕ) → j ≤ k → (j < k) ⊎ (j ≡ k)
cases_below j k le = elim (cases_eq j k) [ inl q ↦ inr q | inr q ↦ inl (omega (arith, le, q)) ]

-- A point is past: in one of the first so many blocks of the order.
abbrev pub IsPast : (order : List ℕ) (turn : ℕ) → (n left : ℕ) → Type 0
IsPast order turn n left = (j : ℕ) × (j < turn) × (slice_get order j ≡ Some n)

-- A point is done: it is past, or in the next block with at least so many instructions behind it.
abbrev pub IsDone : (order : List ℕ) (turn from : ℕ) → (n left : ℕ) → Type 0
IsDone order turn from n left = IsPast order turn n left ⊎ ((slice_get order turn ≡ Some n) × (from ≤ left))

module _ (g : Graph) (order : List ℕ) (is : IsInOrder g.blocks order) where
  -- the same points in other words
  pub done_as : (Done Other : (n left : ℕ) → Type 0) (found : List CopyAt) → ((n left : ℕ) → Done n left → Other n left)
      → ((n : ℕ) (b : Block) (before rest : List Instruction) (i : Instruction) → slice_get g.blocks n ≡ Some b → b.instructions ≡ before ++ i ∷ rest → Other n (length rest) → Done n (length rest)) → AreFoundTo g Done found → AreFoundTo g Other found
  done_as Done Other found on back are = record {
    numerable = are.numerable;
    own = λ k c at. on c.block c.left (are.own k c at);
    known = λ bits so n b before rest i at parts done. are.known bits so n b before rest i at parts (back n b before rest i at parts done);
  }

  -- nothing is past before the first block
  pub none_past : AreFoundTo g (IsPast order 0) []
  none_past = record {
    numerable = record { apart = λ j k c d one two e l. absurd (none-some c one); within = λ k c there. absurd (none-some c there); of_scalars = λ k c there. absurd (none-some c there) };
    own = λ k c there. absurd (none-some c there);
    known = λ bits so n d before rest i there parts past. absurd (let lt = past.1 in omega (arith, lt));
  }

  -- the next block is entered
  pub entered : (turn : ℕ) (found : List CopyAt) (n : ℕ) (b : Block) → slice_get order turn ≡ Some n → slice_get g.blocks n ≡ Some b → AreFoundTo g (IsPast order turn) found → AreFoundTo g (IsDone order turn (length b.instructions)) found
  entered turn found n b stands at are = done_as (IsPast order turn) (IsDone order turn (length b.instructions)) found (λ m left past. inl past) back are
    where
      back : (m : ℕ) (d : Block) (before rest : List Instruction) (i : Instruction) → slice_get g.blocks m ≡ Some d → d.instructions ≡ before ++ i ∷ rest → IsDone order turn (length b.instructions) m (length rest) → IsPast order turn m (length rest)
      back m d before rest i there parts (inl f) = f
      back m d before rest i there parts (inr f) =
          let same : n ≡ m = same_Some n m (sym stands ∙ f.0) in
          let one : b ≡ d = same_Some b d (sym at ∙ ap (slice_get g.blocks) same ∙ there) in
          let long : length b.instructions ≡ length (before ++ i ∷ rest) = ap (λ (e : Block). length e.instructions) one ∙ ap length parts in
          let sum : length (before ++ i ∷ rest) ≡ length before + length (i ∷ rest) = length-append before (i ∷ rest) in
          let le = f.1 in
          absurd (omega (arith, long, sum, le))

  -- all of a block is done: it is past
  pub passed_by : (turn : ℕ) (found : List CopyAt) → AreFoundTo g (IsDone order turn 0) found → AreFoundTo g (IsPast order (turn + 1)) found
  passed_by turn found are = done_as (IsDone order turn 0) (IsPast order (turn + 1)) found
      (λ m left done. elim done [ inl f ↦ (f.0, (let lt = f.1 in omega (arith, lt)), f.2) | inr f ↦ (turn, omega arith, f.0) ]) back are
    where
      back : (m : ℕ) (d : Block) (before rest : List Instruction) (i : Instruction) → slice_get g.blocks m ≡ Some d → d.instructions ≡ before ++ i ∷ rest → IsPast order (turn + 1) m (length rest) → IsDone order turn 0 m (length rest)
      back m d before rest i there parts f = elim (cases_below f.0 turn (let lt = f.1 in omega (arith, lt))) [ inl less ↦ inl (f.0, less, f.2) | inr q ↦ inr (subst (λ k. slice_get order k ≡ Some m) q f.2, omega arith) ]

  module _ (turn : ℕ) (found : List CopyAt) (n : ℕ) (b : Block) (before rest : List Instruction) (i : Instruction) (stands : slice_get order turn ≡ Some n) (at : slice_get g.blocks n ≡ Some b) (parts : b.instructions ≡ before ++ i ∷ rest)
      (so_far : AreFoundTo g (IsDone order turn (length (i ∷ rest))) found) (bits : Bits) (told : AreFound (lines_of g.blocks) found bits) (missing : ℕ → Bool) (are : AreMissingAt found bits n b (i ∷ rest) missing) where
    abbrev Before : (n left : ℕ) → Type 0
    Before = IsDone order turn (length (i ∷ rest))

    abbrev After : (n left : ℕ) → Type 0
    After = IsDone order turn (length rest)

    fresh : Before n (length rest) → ⊥
    fresh (inl f) = (let q : f.0 ≡ turn = is.once f.0 turn n f.2 stands in let lt = f.1 in omega (arith, lt, q))
    fresh (inr f) = (let le = f.1 in omega (arith, le))

    on : (m left : ℕ) → And g Before n (length rest) m left → After m left
    on m left (inl (inl f)) = inl f
    on m left (inl (inr f)) = inr (f.0, (let le = f.1 in omega (arith, le)))
    on m left (inr f) = inr (stands ∙ ap Some (sym f.0), (let q = f.1 in omega (arith, q)))

    back : (m : ℕ) (d : Block) (front later : List Instruction) (j : Instruction) → slice_get g.blocks m ≡ Some d → d.instructions ≡ front ++ j ∷ later → After m (length later) → And g Before n (length rest) m (length later)
    back m d front later j there split (inl f) = inl (inl f)
    back m d front later j there split (inr f) = elim (cases_below (length rest) (length later) f.1) [
      | inl less ↦ inl (inr (f.0, omega (arith, less)))
      | inr q ↦ inr (same_Some m n (sym f.0 ∙ stands), sym q)
    ]

    -- at one point more no copy is made
    pub none_made : IsNoCopy g.scalars (reading (source_among found missing 0) i) → AreFoundTo g After found
    none_made never = done_as (And g Before n (length rest)) After found on back (found_none g Before found so_far n b before rest i at parts fresh bits told missing are never)

    -- or one is
    pub one_made : (c : CopyAt) → c.block ≡ n → c.left ≡ length rest → reading (source_among found missing 0) i ≡ Move c.target (Name c.source) → AreOfOneType g.scalars c.target c.source → AreFoundTo g After (found ++ c ∷ [])
    one_made c block left makes typed = done_as (And g Before n (length rest)) After (found ++ c ∷ []) on back (found_one g Before found so_far n b before rest i at parts fresh bits told missing are c block left makes typed later_missing)
      where
        own : slice_get order turn ≡ Some c.block
        own = stands ∙ ap Some (sym block)

        apart : (m left : ℕ) → And g Before n (length rest) m left → (j : ℕ) × (j ≤ turn) × (slice_get order j ≡ Some m) × ((m ≢ c.block) ⊎ (c.left < suc left))
        apart m l (inl (inl f)) = (f.0, (let lt = f.1 in omega (arith, lt)), f.2, inl (λ q. (let same : f.0 ≡ turn = is.once f.0 turn c.block (f.2 ∙ ap Some q) own in let lt = f.1 in omega (arith, lt, same))))
        apart m l (inl (inr f)) = (turn, omega arith, f.0, inr (let le = f.1 in omega (arith, le, left)))
        apart m l (inr f) = (turn, omega arith, stands ∙ ap Some (sym f.0), inr (let q = f.1 in omega (arith, q, left)))

        later_missing : (others : Bits) → AreFound (lines_of g.blocks) (found ++ c ∷ []) others → (k : ℕ) (d : Block) (front later : List Instruction) (j : Instruction) → slice_get g.blocks k ≡ Some d → d.instructions ≡ front ++ j ∷ later
            → And g Before n (length rest) k (length later) → missing_where c k (length (j ∷ later)) (map target_of d.instructions) (others k (suc (length found))) ≡ true
        later_missing others whole k d front later j there split done =
            let f = apart k (length later) done in
            let lt : k < length g.blocks = slice_get_within g.blocks k d there in
            let lines : length (lines_of g.blocks) ≡ length g.blocks = length-map g.blocks _ in
            let bit : others k (suc (length found)) ≡ true = missed_told (lines_of g.blocks) (found ++ c ∷ []) others whole (length found) c (snoc_new found c) (missing_up_to g.blocks order is c turn own f.0 k f.1 f.2) (omega (arith, lt, lines)) in
            let targets : length (map target_of d.instructions) ≡ length d.instructions = length-map d.instructions target_of in
            let long : length d.instructions ≡ length (front ++ j ∷ later) = ap length split in
            let sum : length (front ++ j ∷ later) ≡ length front + length (j ∷ later) = length-append front (j ∷ later) in
            ap (missing_where c k (length (j ∷ later)) (map target_of d.instructions)) bit ∙ stays_where c k (length (j ∷ later)) f.3 (map target_of d.instructions) (omega (arith, targets, long, sum))

  -- all blocks are past
  pub all_past : (found : List CopyAt) (turn : ℕ) → length order ≤ turn → AreFoundTo g (IsPast order turn) found → AreCopiesOf g found
  all_past found turn done are = record {
    numerable = are.numerable;
    known = λ bits so n b before rest i at way parts. are.known bits so n b before rest i at parts (reached bits so n b at way (length rest));
  }
    where
      reached : (bits : Bits) → AreFound (lines_of g.blocks) found bits → (n : ℕ) (b : Block) → slice_get g.blocks n ≡ Some b → bits n 0 ≡ true → (left : ℕ) → IsPast order turn n left
      reached bits so n b at way left =
          let lt : n < length g.blocks = slice_get_within g.blocks n b at in
          let lines : length (lines_of g.blocks) ≡ length g.blocks = length-map g.blocks _ in
          let k = led_in_order g.blocks order is (so.is_led n (omega (arith, lt, lines)) way) lt in
          let inside = slice_get_within order k.0 n k.1 in
          (k.0, omega (arith, inside, done), k.1)

  -- no copy that is found stands in a block that is not past
  pub not_past : (turn : ℕ) (found : List CopyAt) (n : ℕ) → slice_get order turn ≡ Some n → AreFoundTo g (IsPast order turn) found → (k : ℕ) (c : CopyAt) → slice_get found k ≡ Some c → c.block ≢ n
  not_past turn found n stands are k c at q =
      let past = are.own k c at in
      let same : past.0 ≡ turn = is.once past.0 turn n (past.2 ∙ ap Some q) stands in
      let lt = past.1 in
      omega (arith, lt, same)
