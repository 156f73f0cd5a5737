-- Copy propagation leaves no read that a copy reaches.
use Rattle.std.proofs.Common.{◌≡◌, ◌≢◌, ℕ, zero, suc, ◌<◌, inl, inr, Bool, true, false, true≢false, Option, Some, None, List, [], ◌∷◌, ◌++◌, length, refl, sym, ap, ◌∙◌, subst, arith, append_assoc}
use Rattle.std.specs.Prelude.{◌==◌, ◌||◌, if◌then◌else◌, slice_get}
use Rattle.std.specs.List.{AllByRecursion}
use Rattle.std.proofs.lemmas.Bool.{or_parts, eq-eqb, eqb-true}
use Rattle.std.proofs.lemmas.Option.{same_Some, none-some}
use Rattle.graph_core.specs.Graphs.{Operand, Name, Constant, StaticAddress, Location, Automatic, Static, At, Instruction, Marker, Note, Move, Operate, Truncate, Same, Address, Load, Store, Zero, CopyWords, Call, End, Jump, Branch, Return, Block, Graph, UnitForm}
use Rattle.graph_core.specs.Uses.{names_of, names_of_all, names_of_location, reads_of, reads_of_end}
use Rattle.graph_core.specs.Paths.{Passed, History, Among, front, behind, Way, stays, passes, goes, Path, path, writes}
use Rattle.graph_core.specs.Points.{reads_at}
use Rattle.graph_core.proofs.Among.{among_cases, among_left, among_right}
use Rattle.pass_law.specs.Earned.{last_write_of}
use Rattle.copy_pass_rule.specs.Copying.{AreCopied, ends, next, IsCopied, IsPropagated, IsReadAs, of_copy, of_none, reading, reading_all, reading_at, reading_end, reading_operand}
use Rattle.cdbg_passes.specs.NothingLeft.{HasNoCopies}
use Rattle.cdbg_passes.specs.Steps.{PropagatesCopies}
use Rattle.cdbg_passes.proofs.Functions.{each_so}

-- ---- Reads of what reads something else

-- a read behind is that of a read before
abbrev IsFrom : (read_as : ℕ → ℕ) → (before : List ℕ) → (z : ℕ) → Type 0
IsFrom read_as before z = (x : ℕ) × Among x before × (z ≡ read_as x)

module _ (read_as : ℕ → ℕ) where
  from_operand : (a : Operand) (z : ℕ) → Among z (names_of (reading_operand read_as a)) → IsFrom read_as (names_of a) z
  from_operand (Name x) z front = (x, front, refl)
  from_operand (Name x) z (behind k) = elim k [ ]
  from_operand (Constant word) z k = elim k [ ]
  from_operand (StaticAddress object offset) z k = elim k [ ]

  from_two : (a b : List ℕ) (c d : List ℕ) (z : ℕ) → (Among z c → IsFrom read_as a z) → (Among z d → IsFrom read_as b z) → Among z (c ++ d) → IsFrom read_as (a ++ b) z
  from_two a b c d z one two k = elim (among_cases z c d k) [
    | inl l ↦ (let f = one l in (f.0, among_left f.0 a b f.1, f.2))
    | inr r ↦ (let f = two r in (f.0, among_right f.0 a b f.1, f.2))
  ]

  from_all : (all : List Operand) (z : ℕ) → Among z (names_of_all (reading_all read_as all)) → IsFrom read_as (names_of_all all) z
  from_all [] z k = elim k [ ]
  from_all (a ∷ more) z k = from_two (names_of a) (names_of_all more) (names_of (reading_operand read_as a)) (names_of_all (reading_all read_as more)) z (from_operand a z) (from_all more z) k

  from_location : (l : Location) (z : ℕ) → Among z (names_of_location (reading_at read_as l)) → IsFrom read_as (names_of_location l) z
  from_location (Automatic object offset) z k = elim k [ ]
  from_location (Static object) z k = elim k [ ]
  from_location (At a) z k = from_operand a z k

  from_read : (i : Instruction) (z : ℕ) → Among z (reads_of (reading read_as i)) → IsFrom read_as (reads_of i) z
  from_read (Marker place) z k = elim k [ ]
  from_read (Note x v) z k = elim k [ ]
  from_read (Address target object) z k = elim k [ ]
  from_read (Zero object words) z k = elim k [ ]
  from_read (CopyWords object bytes words) z k = elim k [ ]
  from_read (Move x a) z k = from_operand a z k
  from_read (Operate x o a b) z k = from_two (names_of a) (names_of b) (names_of (reading_operand read_as a)) (names_of (reading_operand read_as b)) z (from_operand a z) (from_operand b z) k
  from_read (Truncate x t a) z k = from_operand a z k
  from_read (Same x a b) z k = from_two (names_of a) (names_of b) (names_of (reading_operand read_as a)) (names_of (reading_operand read_as b)) z (from_operand a z) (from_operand b z) k
  from_read (Load x e l) z k = from_location l z k
  from_read (Store e l a) z k = from_two (names_of_location l) (names_of a) (names_of_location (reading_at read_as l)) (names_of (reading_operand read_as a)) z (from_location l z) (from_operand a z) k
  from_read (Call x f all) z k = from_all all z k

  from_end : (e : End) (z : ℕ) → Among z (reads_of_end (reading_end read_as e)) → IsFrom read_as (reads_of_end e) z
  from_end (Branch c a b l m) z k = from_two (names_of a) (names_of b) (names_of (reading_operand read_as a)) (names_of (reading_operand read_as b)) z (from_operand a z) (from_operand b z) k
  from_end (Jump block) z k = elim k [ ]
  from_end (Return None) z k = elim k [ ]
  from_end (Return (Some a)) z k = from_operand a z k

-- ---- Points

module _ (g h : Graph) (made : IsPropagated g h) where
  -- A point that a path comes to stands in a block of the graph.
  record Stands (n : ℕ) (rest : List Instruction) (e : End) : Type 0 where
    block : Block
    before : List Instruction
    is : slice_get h.blocks n ≡ Some block
    instructions : block.instructions ≡ before ++ rest
    end_is : e ≡ block.end

  stands_way : (b : Block) → slice_get h.blocks 0 ≡ Some b → {hist : History} {n : ℕ} {rest : List Instruction} {e : End} → Way h 0 b.instructions b.end hist n rest e → Stands n rest e
  stands_way b is stays = record { block = b; before = []; is = is; instructions = refl; end_is = refl }
  stands_way b is (passes {i = i} {left = left} way v) =
      let s = stands_way b is way in
      record { block = s.block; before = s.before ++ i ∷ []; is = s.is; instructions = s.instructions ∙ sym (append_assoc s.before (i ∷ []) left); end_is = s.end_is }
  stands_way b is (goes way among c at) = record { block = c; before = []; is = at; instructions = refl; end_is = refl }

  -- the instructions of a block from one on
  from_there : (n : ℕ) (end : End) (before after : List Instruction) → AreCopied h n end before after → (passed : List Instruction) (j : Instruction) (rest : List Instruction) → after ≡ passed ++ j ∷ rest
      → (i : Instruction) × (read_as : ℕ → ℕ) × (j ≡ reading read_as i) × ((x : ℕ) → Among x (reads_of i) → IsReadAs h n (j ∷ rest) end x (read_as x))
  from_there n end [] [] ends [] j rest e = absurd (no_list e)
    where
      no_list : [] ≡ j ∷ rest → ⊥
      no_list q = cc
  from_there n end [] [] ends (a ∷ passed) j rest e = absurd (no_list e)
    where
      no_list : [] ≡ a ∷ (passed ++ j ∷ rest) → ⊥
      no_list q = cc
  from_there n end [] (k ∷ after) x4 passed j rest e = elim x4 [ ]
  from_there n end (i ∷ more) [] x4 passed j rest e = elim x4 [ ]
  from_there n end (i ∷ more) (k ∷ after) (next read_as reads others) [] j rest e =
      let head : reading read_as i ≡ j = cc in
      let tail : after ≡ rest = cc in
      (i, read_as, sym head, λ x among. subst (λ a. IsReadAs h n (j ∷ a) end x (read_as x)) tail (subst (λ a. IsReadAs h n (a ∷ after) end x (read_as x)) head (reads x among)))
  from_there n end (i ∷ more) (k ∷ after) (next read_as reads others) (a ∷ passed) j rest e =
      let tail : after ≡ passed ++ j ∷ rest = cc in
      from_there n end more after others passed j rest tail

  -- What is read at a point of the graph is what some name is read as there.
  record WasRead (n : ℕ) (rest : List Instruction) (e : End) (z : ℕ) : Type 0 where
    x : ℕ
    read : IsReadAs h n rest e x z

  read_there : (n : ℕ) (rest : List Instruction) (e : End) (z : ℕ) → Stands n rest e → Among z (reads_at rest e) → WasRead n rest e z
  read_there n rest e z s among = in_block (slice_get g.blocks n) refl
    where
      in_block : (o : Option Block) → slice_get g.blocks n ≡ o → WasRead n rest e z
      in_block None none = absurd (none-some s.block (sym (absent none) ∙ s.is))
        where
          absent : slice_get g.blocks n ≡ None → slice_get h.blocks n ≡ None
          absent q = same_size n q
            where
              same_size : (n : ℕ) → slice_get g.blocks n ≡ None → slice_get h.blocks n ≡ None
              same_size n q = by_length g.blocks h.blocks n made.count q
                where
                  by_length : (xs ys : List Block) (n : ℕ) → length ys ≡ length xs → slice_get xs n ≡ None → slice_get ys n ≡ None
                  by_length [] [] n l q = refl
                  by_length [] (y ∷ ys) n l q = absurd (omega (arith, l))
                  by_length (x ∷ xs) [] n l q = absurd (omega (arith, l))
                  by_length (x ∷ xs) (y ∷ ys) zero l q = absurd (none-some x (sym q))
                  by_length (x ∷ xs) (y ∷ ys) (suc n) l q = by_length xs ys n (omega (arith, l)) q
      in_block (Some b) at = by_rest rest s among
        where
          by_rest : (r : List Instruction) → Stands n r e → Among z (reads_at r e) → WasRead n r e z
          by_rest [] t k =
              let one = made.blocks n b t.block at t.is in
              let found = from_end one.read_as b.end z (subst (λ f. Among z (reads_of_end f)) (t.end_is ∙ one.end) k) in
              record { x = found.0; read = subst (λ f. IsReadAs h n [] f found.0 z) (sym t.end_is) (subst (λ m. IsReadAs h n [] t.block.end found.0 m) (sym found.2) (one.reads found.0 found.1)) }
          by_rest (j ∷ r) t k =
              let one = made.blocks n b t.block at t.is in
              let there = from_there n t.block.end b.instructions t.block.instructions one.instructions t.before j r t.instructions in
              let found = from_read there.1 there.0 z (subst (λ i. Among z (reads_of i)) there.2 k) in
              record { x = found.0; read = subst (λ f. IsReadAs h n (j ∷ r) f found.0 z) (sym t.end_is) (subst (λ m. IsReadAs h n (j ∷ r) t.block.end found.0 m) (sym found.2) (there.3 found.0 found.1)) }

  -- ---- Back to the copy

  -- The point of a copy that was passed, on a path to a point; and each path to it goes on to that point in the same way, so that what was last written of two other names stays.
  record Earlier (hist : History) (n : ℕ) (rest : List Instruction) (e : End) (z w : ℕ) (copy last : Passed) : Type 0 where
    earlier : History
    more : List Instruction
    end : End
    along : Path h earlier copy.block (copy.instruction ∷ more) end
    shorter : length earlier < length hist
    same : last_write_of z w earlier ≡ Some last
    again : (k : History) → Path h k copy.block (copy.instruction ∷ more) end → (l : History) × Path h l n rest e × (last_write_of z w l ≡ last_write_of z w k)

  writes_target : (x y : ℕ) (i : Instruction) → i ≡ Move x (Name y) → writes x i ≡ true
  writes_target x y i is = ap (writes x) is ∙ eq-eqb x x refl

  other_target : (x z : ℕ) (i : Instruction) → i ≡ Move x (Name z) → z ≢ x → writes z i ≡ false
  other_target x z i is other = ap (writes z) is ∙ differ (x == z) refl
    where
      differ : (b : Bool) → (x == z) ≡ b → b ≡ false
      differ true e = absurd (other (sym (eqb-true x z e)))
      differ false e = refl

  -- A copy of w to z that was last of the two writes z.
  module _ (b : Block) (first : slice_get h.blocks 0 ≡ Some b) (x z w : ℕ) (copy last : Passed) (copies : copy.instruction ≡ Move x (Name z)) (before : last.instruction ≡ Move z (Name w)) (other : z ≢ x) where
    abbrev Trail : History → ℕ → List Instruction → End → Type 0
    Trail hist n rest e = Way h 0 b.instructions b.end hist n rest e

    -- what was passed last writes neither z nor w, where z was not written by it
    unwritten : (q : Passed) (hist : History) → writes z q.instruction ≡ false → last_write_of z w (q ∷ hist) ≡ Some last → (writes z q.instruction || writes w q.instruction) ≡ false
    unwritten q hist unmade is = by_test (writes z q.instruction || writes w q.instruction) refl
      where
        by_test : (t : Bool) → (writes z q.instruction || writes w q.instruction) ≡ t → t ≡ false
        by_test true e =
            let here : q ≡ last = same_Some q last (sym (ap (λ s. if s then Some q else last_write_of z w hist) e) ∙ is) in
            absurd (true≢false (sym (writes_target z w q.instruction (ap (λ (p : Passed). p.instruction) here ∙ before)) ∙ unmade))
        by_test false e = refl

    back : {hist : History} {n : ℕ} {rest : List Instruction} {e : End} → Trail hist n rest e → last_write_of x z hist ≡ Some copy → last_write_of z w hist ≡ Some last → Earlier hist n rest e z w copy last
    back stays l m = absurd (none-some copy l)
    back (goes {n = n1} {l = l1} {e = f} way among c at) l m =
        let r = back way l m in
        record {
          earlier = r.earlier;
          more = r.more;
          end = r.end;
          along = r.along;
          shorter = r.shorter;
          same = r.same;
          again = λ k to. (let found = r.again k to in (found.0, on found.0 found.1, found.2));
        }
      where
        on : (k : History) → Path h k n1 [] f → Path h k l1 c.instructions c.end
        on k (path d is w2) = path d is (goes w2 among c at)
    back (passes {h = hist} {n = n} {i = i} {left = left} {e = e} way v) l m = by_test (λ l2 m2. back way l2 m2) (writes x i || writes z i) refl
      where
        q : Passed
        q = record { block = n; left = length left; instruction = i; wrote = v }

        pass : {k : History} → Path h k n (i ∷ left) e → Path h (record { block = n; left = length left; instruction = i; wrote = v } ∷ k) n left e
        pass (path d is w2) = path d is (passes w2 v)

        by_test : (last_write_of x z hist ≡ Some copy → last_write_of z w hist ≡ Some last → Earlier hist n (i ∷ left) e z w copy last) → (t : Bool) → (writes x i || writes z i) ≡ t → Earlier (q ∷ hist) n left e z w copy last
        by_test deeper true t =
            let here : q ≡ copy = same_Some q copy (sym (ap (λ s. if s then Some q else last_write_of x z hist) t) ∙ l) in
            let is : i ≡ Move x (Name z) = ap (λ (p : Passed). p.instruction) here ∙ copies in
            let neither = unwritten q hist (other_target x z i is other) m in
            let block_is : n ≡ copy.block = ap (λ (p : Passed). p.block) here in
            let code_is : i ≡ copy.instruction = ap (λ (p : Passed). p.instruction) here in
            record {
              earlier = hist;
              more = left;
              end = e;
              along = subst (λ a. Path h hist copy.block (a ∷ left) e) code_is (subst (λ a. Path h hist a (i ∷ left) e) block_is (path b first way));
              shorter = omega arith;
              same = sym (ap (λ s. if s then Some q else last_write_of z w hist) neither) ∙ m;
              again = λ k to. (
                record { block = n; left = length left; instruction = i; wrote = v } ∷ k,
                pass (subst (λ a. Path h k a (i ∷ left) e) (sym block_is) (subst (λ a. Path h k copy.block (a ∷ left) e) (sym code_is) to)),
                ap (λ s. if s then Some q else last_write_of z w k) neither,
              );
            }
        by_test deeper false t =
            let parts = or_parts (writes x i) (writes z i) t in
            let neither = unwritten q hist parts.1 m in
            let r = deeper (sym (ap (λ s. if s then Some q else last_write_of x z hist) t) ∙ l) (sym (ap (λ s. if s then Some q else last_write_of z w hist) neither) ∙ m) in
            let less = r.shorter in
            record {
              earlier = r.earlier;
              more = r.more;
              end = r.end;
              along = r.along;
              shorter = omega (arith, less);
              same = r.same;
              again = λ k to.
                  (let found = r.again k to in
                  (record { block = n; left = length left; instruction = i; wrote = v } ∷ found.0, pass found.1, ap (λ s. if s then Some q else last_write_of z w found.0) neither ∙ found.2));
            }

  -- ---- None is left

  none_within : (fuel : ℕ) (hist : History) (n : ℕ) (rest : List Instruction) (e : End) (z w : ℕ) → length hist < fuel → Path h hist n rest e → Among z (reads_at rest e) → IsCopied h z w n rest e → ⊥
  none_within zero hist n rest e z w low along among copied = omega (arith, low)
  none_within (suc fuel) hist n rest e z w low (path b first way) among copied = by_read (λ k m more end less. none_within fuel k m more end z w less) (read_there n rest e z (stands_way b first way) among)
    where
      Deeper : Type 0
      Deeper = (k : History) (m : ℕ) (more : List Instruction) (end : End) → length k < fuel → Path h k m more end → Among z (reads_at more end) → IsCopied h z w m more end → ⊥

      by_as : Deeper → (x : ℕ) → IsReadAs h n rest e x z → ⊥
      by_as deeper x (of_none none) = none (record { history = hist; path = path b first way }) w copied
      by_as deeper x (of_copy reached one) =
          let at = one.on_each hist (path b first way) in
          let to = copied.on_each hist (path b first way) in
          let r = back b first x z w at.copy to.copy at.copies to.copies one.scalars.other way at.last to.last in
          let less = r.shorter in
          let read : Among z (reads_of at.copy.instruction) = subst (λ i. Among z (reads_of i)) (sym at.copies) front in
          deeper r.earlier at.copy.block (at.copy.instruction ∷ r.more) r.end (omega (arith, low, less)) r.along read (record {
            scalars = copied.scalars;
            block = copied.block;
            left = copied.left;
            on_each = λ k there.
                (let found = r.again k there in
                let it = copied.on_each found.0 found.1 in
                record { copy = it.copy; last = sym found.2 ∙ it.last; in_block = it.in_block; before = it.before; copies = it.copies });
          })

      by_read : Deeper → WasRead n rest e z → ⊥
      by_read deeper r = by_as deeper r.x r.read

  -- No read that a path comes to is reached by a copy.
  no_copies : HasNoCopies h
  no_copies n rest e z w reached among copied = none_within (suc (length reached.history)) reached.history n rest e z w (omega arith) reached.path among copied

-- NO COPY THAT REACHES A READ IS LEFT by a step of copy propagation.
pub no_copies_left : (u v : UnitForm) → PropagatesCopies u v → AllByRecursion HasNoCopies v.graphs
no_copies_left u v step = each_so IsPropagated HasNoCopies no_copies u.graphs v.graphs step.functions
