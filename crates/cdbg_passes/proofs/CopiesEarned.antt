-- Each change of copy propagation is earned.
use Rattle.std.proofs.Common.{◌≡◌, ℕ, Some, None, List, [], ◌∷◌, ◌++◌, length, map, refl, sym, ap, ◌∙◌, subst, arith}
use Rattle.std.specs.Prelude.{slice_get, option_map, codes}
use Rattle.std.proofs.lemmas.List.{map-append}
use Rattle.std.proofs.lemmas.Option.{same_Some, slice_get-map}
use Rattle.debug_records.specs.Change.{pass_name}
use Rattle.debug_records.specs.declared.change.Kind.TheVariants.{Replaced}
use Rattle.graph_core.specs.Graphs.{Operand, Name, Constant, StaticAddress, Location, Automatic, Static, At, Instruction, Marker, Note, Move, Operate, Truncate, Same, Address, Load, Store, Zero, CopyWords, Call, End, Jump, Branch, Return, Block, Graph, UnitForm}
use Rattle.graph_core.specs.Uses.{names_of, names_of_all, names_of_location, reads_of, reads_of_end}
use Rattle.graph_core.specs.Paths.{Path}
use Rattle.graph_core.specs.Points.{reads_at}
use Rattle.graph_core.specs.WellMarked.{IsVariable}
use Rattle.pass_law.specs.declared.cases.Case.{Case}
use Rattle.pass_law.specs.Earned.{IsBorneOut, IsCopiedAt, IsReplaced}
use Rattle.copy_pass_rule.specs.Copying.{AreCopied, ends, next, IsCopiedBlock, IsPropagated, IsReadAs, of_copy, of_none, reading, reading_all, reading_at, reading_end, reading_operand}
use Rattle.copy_pass.specs.Reads.{IsReplacedRead}
use Rattle.graph_core.proofs.Among.{at_among}
use Rattle.cdbg_passes.specs.Earned.{AreEarned}
use Rattle.cdbg_passes.specs.Steps.{PropagatesCopies}
use Rattle.cdbg_passes.proofs.Functions.{made_of}
use Rattle.cdbg_passes.proofs.LoggedCases.{logged_for}

-- ---- Reads one by one

module _ (read_as : ℕ → ℕ) where
  of_operand : (a : Operand) → names_of (reading_operand read_as a) ≡ map read_as (names_of a)
  of_operand (Name x) = refl
  of_operand (Constant word) = refl
  of_operand (StaticAddress object offset) = refl

  of_two : (xs ys cs ds : List ℕ) → cs ≡ map read_as xs → ds ≡ map read_as ys → cs ++ ds ≡ map read_as (xs ++ ys)
  of_two xs ys cs ds one two = ap (λ l. l ++ ds) one ∙ ap (λ l. map read_as xs ++ l) two ∙ sym (map-append read_as xs ys)

  of_all : (all : List Operand) → names_of_all (reading_all read_as all) ≡ map read_as (names_of_all all)
  of_all [] = refl
  of_all (a ∷ more) = of_two (names_of a) (names_of_all more) (names_of (reading_operand read_as a)) (names_of_all (reading_all read_as more)) (of_operand a) (of_all more)

  of_location : (l : Location) → names_of_location (reading_at read_as l) ≡ map read_as (names_of_location l)
  of_location (Automatic object offset) = refl
  of_location (Static object) = refl
  of_location (At a) = of_operand a

  of_read : (i : Instruction) → reads_of (reading read_as i) ≡ map read_as (reads_of i)
  of_read (Marker place) = refl
  of_read (Note x v) = refl
  of_read (Move x a) = of_operand a
  of_read (Operate x o a b) = of_two (names_of a) (names_of b) (names_of (reading_operand read_as a)) (names_of (reading_operand read_as b)) (of_operand a) (of_operand b)
  of_read (Truncate x t a) = of_operand a
  of_read (Same x a b) = of_two (names_of a) (names_of b) (names_of (reading_operand read_as a)) (names_of (reading_operand read_as b)) (of_operand a) (of_operand b)
  of_read (Address x object) = refl
  of_read (Load x e l) = of_location l
  of_read (Store e l a) = of_two (names_of_location l) (names_of a) (names_of_location (reading_at read_as l)) (names_of (reading_operand read_as a)) (of_location l) (of_operand a)
  of_read (Zero object words) = refl
  of_read (CopyWords object bytes words) = refl
  of_read (Call x f all) = of_all all

  of_end : (e : End) → reads_of_end (reading_end read_as e) ≡ map read_as (reads_of_end e)
  of_end (Jump l) = refl
  of_end (Branch c a b l m) = of_two (names_of a) (names_of b) (names_of (reading_operand read_as a)) (names_of (reading_operand read_as b)) (of_operand a) (of_operand b)
  of_end (Return None) = refl
  of_end (Return (Some a)) = of_operand a

  -- the read of a number
  one_read : (reads others : List ℕ) (k x y : ℕ) → others ≡ map read_as reads → slice_get reads k ≡ Some x → slice_get others k ≡ Some y → y ≡ read_as x
  one_read reads others k x y same was is = same_Some y (read_as x) (sym is ∙ ap (λ l. slice_get l k) same ∙ slice_get-map read_as reads k ∙ ap (option_map read_as) was)

-- ---- The point of a replaced read

module _ (g h : Graph) (made : IsPropagated g h) where
  -- behind as many instructions of a block, before and after
  along : (n : ℕ) (end : End) (before after : List Instruction) → AreCopied h n end before after → (was is : List Instruction) → length was ≡ length is → (rest later : List Instruction) → before ≡ was ++ rest → after ≡ is ++ later → AreCopied h n end rest later
  along n end before after r [] [] size rest later b a = subst (λ l. AreCopied h n end rest l) a (subst (λ l. AreCopied h n end l after) b r)
  along n end before after r [] (k ∷ is) size rest later b a = absurd (omega (arith, size))
  along n end before after r (i ∷ was) [] size rest later b a = absurd (omega (arith, size))
  along n end [] [] ends (i ∷ was) (k ∷ is) size rest later b a = absurd (no_list b)
    where
      no_list : [] ≡ i ∷ (was ++ rest) → ⊥
      no_list q = cc
  along n end [] (k2 ∷ after) r (i ∷ was) (k ∷ is) size rest later b a = elim r [ ]
  along n end (j ∷ before) [] r (i ∷ was) (k ∷ is) size rest later b a = elim r [ ]
  along n end (j ∷ before) (l ∷ after) (next read_as reads others) (i ∷ was) (k ∷ is) size rest later b a =
      let first : before ≡ was ++ rest = cc in
      let second : after ≡ is ++ later = cc in
      along n end before after others was is (omega (arith, size)) rest later first second

  read_so : (n : ℕ) (end : End) (rest later : List Instruction) → AreCopied h n end rest later → (b c : Block) → IsCopiedBlock h n b c → end ≡ c.end → (k x y : ℕ) → slice_get (reads_at rest b.end) k ≡ Some x → slice_get (reads_at later c.end) k ≡ Some y → (z : ℕ) × (y ≡ z) × IsReadAs h n later end x z
  read_so n end [] [] ends b c block e k x y was is =
      let z = one_read block.read_as (reads_of_end b.end) (reads_of_end c.end) k x y (ap reads_of_end block.end ∙ of_end block.read_as b.end) was is in
      (block.read_as x, z, subst (λ f. IsReadAs h n [] f x (block.read_as x)) (sym e) (block.reads x (at_among (reads_of_end b.end) k x was)))
  read_so n end [] (j ∷ later) r b c block e k x y was is = elim r [ ]
  read_so n end (i ∷ rest) [] r b c block e k x y was is = elim r [ ]
  read_so n end (i ∷ rest) (j ∷ later) (next read_as reads others) b c block e k x y was is =
      let z = one_read read_as (reads_of i) (reads_of (reading read_as i)) k x y (of_read read_as i) was is in
      (read_as x, z, reads x (at_among (reads_of i) k x was))

  earned_read : (c : Case) → IsReplacedRead g h c → (x : ℕ) × IsVariable h x c.var.0 × IsReplaced g h c.place.0 x
  earned_read c r =
      let block = made.blocks c.block r.stood.block r.stands.block r.stood.is r.stands.is in
      let copied = along c.block r.stands.block.end r.stood.block.instructions r.stands.block.instructions block.instructions r.stood.before r.stands.before (r.index ∙ sym r.still) r.rest r.later r.stood.instructions r.stands.instructions in
      let found = read_so c.block r.stands.block.end r.rest r.later copied r.stood.block r.stands.block block refl c.operand r.x r.other.y
      (ap (λ f. slice_get (reads_at r.rest f) c.operand) (sym r.stood.ends) ∙ r.other.before) (ap (λ f. slice_get (reads_at r.later f) c.operand) (sym r.stands.ends) ∙ r.other.after) in
      let scalars : g.scalars ≡ h.scalars = sym (ap (λ (q : Graph). q.scalars) made.rest) in
      (r.x, ap (λ l. option_map (λ s. s.variable) (slice_get l r.x)) (sym scalars) ∙ r.variable, by_read found.0 found.1 found.2)
    where
      by_read : (z : ℕ) → r.other.y ≡ z → IsReadAs h c.block r.later r.stands.block.end r.x z → IsReplaced g h c.place.0 r.x
      by_read z same (of_none none) = absurd (r.other.differs same)
      by_read z same (of_copy reached copied) = record {
        y = r.other.y;
        other = r.other.differs;
        variable = copied.scalars.source.variable;
        scalar = ap (λ m. option_map (λ s. s.variable) (slice_get h.scalars m)) same ∙ ap (option_map (λ s. s.variable)) copied.scalars.source_is;
        n = c.block;
        before = r.rest;
        after = r.later;
        end = r.end;
        later = r.later_end;
        stood = r.stood;
        stands = r.stands;
        at_one_point = sym r.at_one_point;
        k = c.operand;
        was = r.other.before;
        is = r.other.after;
        copy_block = copied.block;
        copy_left = copied.left;
        reaches = λ hist way. subst (λ m. IsCopiedAt copied.block copied.left r.x m hist) (sym same) (copied.on_each hist (subst (λ f. Path h hist c.block r.later f) r.stands.ends way));
      }

-- ---- All changes

-- EACH CHANGE OF COPY PROPAGATION IS EARNED.
pub copies_earned : (u v : UnitForm) → PropagatesCopies u v → AreEarned u v
copies_earned u v step k c low at homes =
    let l = logged_for (pass_name (codes "copy")) Replaced IsReplacedRead u v step.changes k c low at in
    let made = made_of IsPropagated u.graphs v.graphs step.functions l.function l.before l.after l.stood l.stands in
    let earned = earned_read l.before l.after made l.of l.is in
    record {
      logged = l.logged;
      function = l.function;
      before = l.before;
      after = l.after;
      stood = l.stood;
      stands = l.stands;
      x = earned.0;
      scalar = earned.1 ∙ ap (λ (m : ℕ). Some m) l.variable_is;
      borne_out = subst (λ a. IsBorneOut a v.log (homes l.function) l.before l.after c.place earned.0 c.variable) (sym l.kind_is) (subst (λ p. IsReplaced l.before l.after p earned.0) l.place_is earned.2);
    }
