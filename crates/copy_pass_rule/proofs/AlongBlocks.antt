-- Copies that are found along a block, in the order of blocks.
use Rattle.std.proofs.Common.{◌≡◌, ◌≢◌, ℕ, suc, ◌+◌, ◌-◌, ◌<◌, ◌≤◌, ◌^◌, ◌⊎◌, inl, inr, Option, Some, List, [], ◌∷◌, ◌++◌, length, map, get_or, take, drop, refl, sym, ap, ◌∙◌, subst, arith, append_assoc, length-append}
use Rattle.std.specs.Prelude.{slice_get}
use Rattle.std.proofs.lemmas.List.{length-map}
use Rattle.std.proofs.lemmas.Option.{slice_get_within, same_Some}
use Rattle.base_laws.proofs.Lists.{there_is, whole_is}
use Rattle.graph_core.specs.Graphs.{Operand, Name, Instruction, Marker, Note, Move, Block, Graph}
use Rattle.graph_core.specs.Validity.{counts, total}
use Rattle.copy_pass_rule.specs.declared.copies.CopyAt.{CopyAt}
use Rattle.copy_pass_rule.specs.Along.{AreFoundAlong, done, no_copy, copy, IsReadBy, IsPoint, MakesNone, Makes, FindsIn, counted_in}
use Rattle.copy_pass_rule.specs.Copying.{AreOfOneType, reading}
use Rattle.copy_pass_rule.specs.Flow.{source_among}
use Rattle.copy_pass_rule.specs.Countable.{IsCountable}
use Rattle.copy_pass_rule.specs.Found.{AreCopiesOf, AreNumerable}
use Rattle.copy_pass_rule.specs.Known.{IsNoCopy}
use Rattle.copy_pass_rule.specs.Order.{IsInOrder}
use Rattle.copy_pass_rule.proofs.Found.{AreFoundTo, same_rest, snoc_cases, tail}
use Rattle.copy_pass_rule.proofs.Counting.{AreCounted, counted_on, none_counted, room_for}
use Rattle.copy_pass_rule.proofs.Turns.{IsDone, IsPast, all_past, entered, none_made, none_past, not_past, one_made, passed_by}

module _ (g : Graph) (order : List ℕ) (is : IsInOrder g.blocks order) (turn n : ℕ) (b : Block) (stands : slice_get order turn ≡ Some n) (at : slice_get g.blocks n ≡ Some b) where
  -- behind a block all its points are done
  pub along : {rest : List Instruction} {found new : List CopyAt} → AreFoundAlong g n b rest found new → (before : List Instruction) → b.instructions ≡ before ++ rest → AreFoundTo g (IsDone order turn (length rest)) found → AreFoundTo g (IsDone order turn 0) new
  along done before parts so_far = so_far
  along (no_copy {i} {made} {rest} {found} {new} read never later) before parts so_far =
      along later (before ++ i ∷ []) (parts ∙ sym (append_assoc before (i ∷ []) rest))
      (none_made g order is turn found n b before rest i stands at parts so_far read.bits read.found read.missing read.are (subst (λ (j : Instruction). IsNoCopy g.scalars j) read.is never))
  along (copy {i} {rest} {found} {new} x y read typed later) before parts so_far =
      along later (before ++ i ∷ []) (parts ∙ sym (append_assoc before (i ∷ []) rest))
      (one_made g order is turn found n b before rest i stands at parts so_far read.bits read.found read.missing read.are (record { block = n; left = length rest; target = x; source = y }) refl refl (sym read.is) typed)

-- What is found along a block so far, with this left of it.
pub record AreFoundSoFar (g : Graph) (n : ℕ) (left : List Instruction) (old now : List CopyAt) : Type 0 where
  pub block : Block
  pub is : slice_get g.blocks n ≡ Some block
  pub before : List Instruction
  pub parts : block.instructions ≡ before ++ left
  pub numerable : AreNumerable now (length g.blocks) (length g.scalars)
  pub behind : (k : ℕ) (c : CopyAt) → slice_get now k ≡ Some c → c.block ≡ n → length left ≤ c.left
  pub count : length now + total counts left ≤ length old + total counts block.instructions
  pub on : (new : List CopyAt) → AreFoundAlong g n block left now new → AreFoundAlong g n block block.instructions old new

-- nothing of the block is gone over
pub none_so_far : (g : Graph) (n : ℕ) (b : Block) (old : List CopyAt) → slice_get g.blocks n ≡ Some b → AreNumerable old (length g.blocks) (length g.scalars) → ((k : ℕ) (c : CopyAt) → slice_get old k ≡ Some c → c.block ≢ n) → AreFoundSoFar g n b.instructions old old
none_so_far g n b old at numerable apart = record {
  block = b;
  is = at;
  before = [];
  parts = refl;
  numerable = numerable;
  behind = λ k c there e. absurd (apart k c there e);
  count = omega arith;
  on = λ new along. along;
}

-- an instruction that is read as a copy is counted
counted_copy : (f : ℕ → ℕ) (i : Instruction) (x : ℕ) (a : Operand) → Move x a ≡ reading f i → counts i ≡ 1
counted_copy f (Marker p) x a e = absurd (cc)
counted_copy f (Note y v) x a e = absurd (cc)
counted_copy f _ x a e = refl

-- one copy more can be numbered, if none stands at its point
numerable_on : (copies : List CopyAt) (blocks scalars : ℕ) (c : CopyAt) → AreNumerable copies blocks scalars → ((k : ℕ) (d : CopyAt) → slice_get copies k ≡ Some d → d.block ≡ c.block → d.left ≡ c.left → ⊥) → c.block < blocks → (c.target < scalars) × (c.source < scalars)
    → AreNumerable (copies ++ c ∷ []) blocks scalars
numerable_on copies blocks scalars c are apart within of_scalars = record {
  apart = λ j k d e one two block left. elim (snoc_cases copies c d j one) [
    | inl old ↦ elim (snoc_cases copies c e k two) [
      | inl older ↦ are.apart j k d e old older block left
      | inr new ↦ absurd (apart j d old (block ∙ sym (ap (λ (z : CopyAt). z.block) new.1)) (left ∙ sym (ap (λ (z : CopyAt). z.left) new.1)))
    ]
    | inr new ↦ elim (snoc_cases copies c e k two) [
      | inl older ↦ absurd (apart k e older (sym block ∙ sym (ap (λ (z : CopyAt). z.block) new.1)) (sym left ∙ sym (ap (λ (z : CopyAt). z.left) new.1)))
      | inr newer ↦ new.0 ∙ sym newer.0
    ]
  ];
  within = λ k d there. elim (snoc_cases copies c d k there) [
    | inl old ↦ are.within k d old
    | inr new ↦ subst (λ (z : CopyAt). z.block < blocks) new.1 within
  ];
  of_scalars = λ k d there. elim (snoc_cases copies c d k there) [
    | inl old ↦ are.of_scalars k d old
    | inr new ↦ subst (λ (z : CopyAt). (z.target < scalars) × (z.source < scalars)) new.1 of_scalars
  ];
}

module _ (g : Graph) (n : ℕ) (i : Instruction) (rest : List Instruction) (old now : List CopyAt) (are : AreFoundSoFar g n (i ∷ rest) old now) where
  -- the instruction stands there
  pub point_there : IsPoint g n (length rest) i
  point_there = record { block = are.block; before = are.before; rest = rest; is = are.is; parts = are.parts; behind = refl }

  further : (are.before ++ i ∷ []) ++ rest ≡ are.before ++ i ∷ rest
  further = append_assoc are.before (i ∷ []) rest

  -- it is read there
  read_there : (p : IsPoint g n (length rest) i) (made : Instruction) → IsReadBy g n p.block i p.rest now made → IsReadBy g n are.block i rest now made
  read_there p made read =
      let same : p.block ≡ are.block = same_Some p.block are.block (sym p.is ∙ are.is) in
      let both : (i ∷ p.rest) ≡ (i ∷ rest) = same_rest p.before are.before p.rest rest i i (sym p.parts ∙ ap (λ (b : Block). b.instructions) same ∙ are.parts) p.behind in
      subst (λ (xs : List Instruction). IsReadBy g n are.block i xs now made) (ap tail both) (subst (λ (b : Block). IsReadBy g n b i p.rest now made) same read)

  -- it makes no copy
  pub none_more : MakesNone g n (length rest) i now → AreFoundSoFar g n rest old now
  none_more makes = record {
    block = are.block;
    is = are.is;
    before = are.before ++ i ∷ [];
    parts = are.parts ∙ sym further;
    numerable = are.numerable;
    behind = λ k c there e. (let le = are.behind k c there e in omega (arith, le));
    count = (let most = are.count in omega (arith, most));
    on = λ new later. are.on new (no_copy (read_there makes.point makes.made makes.read) makes.never later);
  }

  -- it makes one
  pub one_more : (c : CopyAt) → Makes g n (length rest) i now c → AreFoundSoFar g n rest old (now ++ c ∷ [])
  one_more c makes = record {
    block = are.block;
    is = are.is;
    before = are.before ++ i ∷ [];
    parts = are.parts ∙ sym further;
    numerable = numerable_on now (length g.blocks) (length g.scalars) c are.numerable
        (λ k d there block left. (let le = are.behind k d there (block ∙ makes.in_block) in let at = makes.there in omega (arith, le, left, at)))
        (subst (λ z. z < length g.blocks) (sym makes.in_block) (slice_get_within g.blocks n are.block are.is))
        (slice_get_within g.scalars c.target makes.typed.target makes.typed.target_is, slice_get_within g.scalars c.source makes.typed.source makes.typed.source_is);
    behind = λ k d there e. elim (snoc_cases now c d k there) [
      | inl before ↦ (let le = are.behind k d before e in omega (arith, le))
      | inr last ↦ (let at = makes.there in let same : c.left ≡ d.left = ap (λ (z : CopyAt). z.left) last.1 in omega (arith, at, same))
    ];
    count = (let most = are.count in let one : counts i ≡ 1 = counted_copy (source_among now makes.read.missing 0) i c.target (Name c.source) makes.read.is in let long : length (now ++ c ∷ []) ≡ length now + 1 = length-append now (c ∷ []) in omega (arith, most, one, long));
    on = λ new later. are.on new (copy c.target c.source (read_there makes.point (Move c.target (Name c.source)) makes.read) makes.typed (subst (λ (d : CopyAt). AreFoundAlong g n are.block rest (now ++ d ∷ []) new) stands later));
  }
    where
      stands : c ≡ record { block = n; left = length rest; target = c.target; source = c.source }
      stands =
          let from : ℕ → CopyAt = λ z. record { block = z; left = c.left; target = c.target; source = c.source } in
          let to : ℕ → CopyAt = λ z. record { block = n; left = z; target = c.target; source = c.source } in
          ap from makes.in_block ∙ ap to makes.there

-- all of the block is gone over
pub all_so_far : (g : Graph) (n : ℕ) (old now : List CopyAt) → AreFoundSoFar g n [] old now → FindsIn g n old now
all_so_far g n old now are = record { block = are.block; is = are.is; along = are.on now done }

pub count_so_far : (g : Graph) (n : ℕ) (left : List Instruction) (old now : List CopyAt) → AreFoundSoFar g n left old now → length now + total counts left ≤ length old + counted_in (slice_get g.blocks n)
count_so_far g n left old now are = (let most = are.count in let e : counted_in (slice_get g.blocks n) ≡ total counts are.block.instructions = ap counted_in are.is in omega (arith, most, e))

-- the same by what the instructions are views of
module _ {A : Type 0} (view : A → Instruction) (g : Graph) (n : ℕ) (old now : List CopyAt) where
  abbrev Far : List A → List CopyAt → Type 0
  Far left found = AreFoundSoFar g n (map view left) old found

  pub so_far_item : (left : List A) (x d : A) (l : ℕ) → 1 ≤ length left → x ≡ get_or left 0 d → l ≡ length (take (length left - 1) (drop 1 left)) → Far left now → IsPoint g n l (view x)
  so_far_item left x d l le e count are =
      let whole : left ≡ x ∷ take (length left - 1) (drop 1 left) = whole_is left x d le e in
      let rest = take (length left - 1) (drop 1 left) in
      subst (λ z. IsPoint g n z (view x)) (sym (count ∙ sym (length-map rest view))) (point_there g n (view x) (map view rest) old now (subst (λ (xs : List A). Far xs now) whole are))

  pub so_far_none : (left : List A) (x d : A) (l : ℕ) → 1 ≤ length left → x ≡ get_or left 0 d → l ≡ length (take (length left - 1) (drop 1 left)) → MakesNone g n l (view x) now → Far left now → Far (take (length left - 1) (drop 1 left)) now
  so_far_none left x d l le e count makes are =
      let whole : left ≡ x ∷ take (length left - 1) (drop 1 left) = whole_is left x d le e in
      let rest = take (length left - 1) (drop 1 left) in
      none_more g n (view x) (map view rest) old now (subst (λ (xs : List A). Far xs now) whole are) (subst (λ z. MakesNone g n z (view x) now) (count ∙ sym (length-map rest view)) makes)

  pub so_far_one : (left : List A) (x d : A) (l : ℕ) (c : CopyAt) (longer : List CopyAt) → 1 ≤ length left → x ≡ get_or left 0 d → l ≡ length (take (length left - 1) (drop 1 left)) → Makes g n l (view x) now c → longer ≡ now ++ c ∷ [] → Far left now
      → Far (take (length left - 1) (drop 1 left)) longer
  so_far_one left x d l c longer le e count makes grown are =
      let whole : left ≡ x ∷ take (length left - 1) (drop 1 left) = whole_is left x d le e in
      let rest = take (length left - 1) (drop 1 left) in
      subst (λ (xs : List CopyAt). Far rest xs) (sym grown)
      (one_more g n (view x) (map view rest) old now (subst (λ (xs : List A). Far xs now) whole are) c (subst (λ z. Makes g n z (view x) now c) (count ∙ sym (length-map rest view)) makes))

  pub so_far_all : (left : List A) → length left < 1 → Far left now → AreFoundSoFar g n [] old now
  so_far_all [] lt are = are
  so_far_all (x ∷ left) lt are = absurd (omega arith)

-- The copies are found that the first so many blocks of an order make, and they are at most as many as the instructions there.
pub record AreFoundPast (g : Graph) (order : List ℕ) (turn : ℕ) (found : List CopyAt) : Type 0 where
  pub are : AreFoundTo g (IsPast order turn) found
  pub counted : AreCounted g order turn found

module _ (g : Graph) (order : List ℕ) (is : IsInOrder g.blocks order) where
  pub past_none : (found : List CopyAt) → found ≡ [] → AreFoundPast g order 0 found
  past_none found none = subst (λ (cs : List CopyAt). AreFoundPast g order 0 cs) (sym none) (record { are = none_past g order is; counted = none_counted g order })

  -- those of the next block
  module _ (turn n : ℕ) (stands : slice_get order turn ≡ Some n) (found : List CopyAt) (so_far : AreFoundPast g order turn found) where
    pub next_within : n < length g.blocks
    next_within = is.within turn n stands

    pub next_few : IsCountable g → length found + counted_in (slice_get g.blocks n) < 2 ^ 31
    next_few countable =
        let b = there_is g.blocks n next_within in
        let room = room_for g order is turn n b.0 stands b.1 found so_far.counted in
        let few = countable.instructions in
        omega (arith, room, few)

    pub next_apart : (k : ℕ) (c : CopyAt) → slice_get found k ≡ Some c → c.block ≢ n
    next_apart = not_past g order is turn found n stands so_far.are

    pub past_next : (new : List CopyAt) → FindsIn g n found new → length new ≤ length found + counted_in (slice_get g.blocks n) → AreFoundPast g order (turn + 1) new
    past_next new finds count = record {
      are = passed_by g order is turn new
          (along g order is turn n finds.block stands finds.is finds.along [] refl (entered g order is turn found n finds.block stands finds.is so_far.are));
      counted = counted_on g order is turn n finds.block stands finds.is found so_far.counted new count;
    }

  -- those of all
  pub past_all : (turn : ℕ) (found : List CopyAt) → length order ≤ turn → AreFoundPast g order turn found → AreCopiesOf g found
  past_all turn found finished so_far = all_past g order is found turn finished so_far.are

  pub past_few : IsCountable g → (turn : ℕ) (found : List CopyAt) → AreFoundPast g order turn found → length found < 2 ^ 31
  past_few countable turn found so_far = (let most = so_far.counted.bound in let few = countable.instructions in omega (arith, most, few))
