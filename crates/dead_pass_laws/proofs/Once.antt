-- Where a place assigns a name once, it has one write of it.
use Rattle.std.proofs.Common.{◌≡◌, ℕ, zero, suc, ◌+◌, ◌≤◌, Bool, true, false, Option, Some, List, [], ◌∷◌, ◌++◌, refl, sym, ap, ◌∙◌, arith}
use Rattle.std.specs.Prelude.{◌==◌, ◌&&◌, if◌then◌else◌, slice_get}
use Rattle.std.proofs.lemmas.Bool.{and_from, eq-eqb}
use Rattle.std.proofs.lemmas.Option.{none-some, same_Some}
use Rattle.graph_core.specs.Graphs.{Instruction, End, Block, Graph}
use Rattle.graph_core.specs.Paths.{writes, is_bound}
use Rattle.graph_core.specs.Points.{is_place, writes_among, writes_in, assignments_in, StandsWith}
use Rattle.graph_core.specs.Uses.{target_of}
use Rattle.graph_core.specs.Validity.{place_behind, total}
use Rattle.dead_pass_laws.proofs.Points.{behind_one, first_same, rest_same}
use Rattle.dead_pass_laws.proofs.Values.{writes_target}
use Rattle.base_laws.proofs.Numbers.{counted_yes}

module _ (p x : ℕ) where
  -- an instruction writes the name in the place
  abbrev IsOne : Option ℕ → Instruction → Bool
  IsOne place i = is_place p place && writes x i

  -- One is counted.
  one_counted : (place : Option ℕ) (before : List Instruction) (i : Instruction) (rest : List Instruction) → IsOne (place_behind before place) i ≡ true → 1 ≤ writes_among p x place (before ++ i ∷ rest)
  one_counted place [] i rest is = (let one = counted_yes (IsOne place i) (writes_among p x (place_behind (i ∷ []) place) rest) is in omega (arith, one))
  one_counted place (j ∷ before) i rest is =
      let later = one_counted (place_behind (j ∷ []) place) before i rest (ap (λ q. IsOne q i) (behind_one j before place) ∙ is) in
      omega (arith, later)

  -- One that is not the first of these, behind one that is, makes two.
  two_counted : (place : Option ℕ) (i : Instruction) (before : List Instruction) (j : Instruction) (rest : List Instruction) → IsOne place i ≡ true → IsOne (place_behind (i ∷ before) place) j ≡ true → 2 ≤ writes_among p x place (i ∷ (before ++ j ∷ rest))
  two_counted place i before j rest is more =
      let later = one_counted (place_behind (i ∷ []) place) before j rest (ap (λ q. IsOne q j) (behind_one i before place) ∙ more) in
      let one = counted_yes (IsOne place i) (writes_among p x (place_behind (i ∷ []) place) (before ++ j ∷ rest)) is in
      omega (arith, later, one)

  -- Two of these instructions that are counted as one are one.
  same_in : (place : Option ℕ) (before after : List Instruction) (i j : Instruction) (rest more all : List Instruction) → all ≡ before ++ i ∷ rest → all ≡ after ++ j ∷ more
      → IsOne (place_behind before place) i ≡ true → IsOne (place_behind after place) j ≡ true → writes_among p x place all ≤ 1 → i ∷ rest ≡ j ∷ more
  same_in place [] [] i j rest more all parts others is one few = sym parts ∙ others
  same_in place [] (k ∷ after) i j rest more all parts others is one few =
      let first : i ≡ k = first_same (sym parts ∙ others) in
      let two = two_counted place k after j more (ap (IsOne place) (sym first) ∙ is) one in
      let count : writes_among p x place all ≡ writes_among p x place (k ∷ (after ++ j ∷ more)) = ap (writes_among p x place) others in
      absurd (omega (arith, two, count, few))
  same_in place (k ∷ before) [] i j rest more all parts others is one few =
      let first : k ≡ j = first_same (sym parts ∙ others) in
      let two = two_counted place k before i rest (ap (IsOne place) first ∙ one) is in
      let count : writes_among p x place all ≡ writes_among p x place (k ∷ (before ++ i ∷ rest)) = ap (writes_among p x place) parts in
      absurd (omega (arith, two, count, few))
  same_in place (k ∷ before) (l ∷ after) i j rest more all parts others is one few =
      let first : k ≡ l = first_same (sym parts ∙ others) in
      let later : before ++ i ∷ rest ≡ after ++ j ∷ more = rest_same (sym parts ∙ others) in
      let count : writes_among p x place all ≡ writes_among p x place (k ∷ (before ++ i ∷ rest)) = ap (writes_among p x place) parts in
      let one_there : IsOne (place_behind after (place_behind (k ∷ []) place)) j ≡ true =
      ap (λ m. IsOne (place_behind after (place_behind (m ∷ []) place)) j) first ∙ ap (λ q. IsOne q j) (behind_one l after place) ∙ one in
      same_in (place_behind (k ∷ []) place) before after i j rest more (before ++ i ∷ rest) refl later (ap (λ q. IsOne q i) (behind_one k before place) ∙ is) one_there (omega (arith, count, few))

  -- ---- Blocks

  -- how many a block has
  abbrev count_of : Block → ℕ
  count_of b = writes_among p x b.place b.instructions

  -- all blocks have no fewer than one of them
  counted_at : (all : List Block) (k : ℕ) (b : Block) → slice_get all k ≡ Some b → count_of b ≤ total count_of all
  counted_at [] k b e = absurd (none-some b e)
  counted_at (c ∷ more) zero b e = (let same = ap count_of (same_Some c b e) in omega (arith, same))
  counted_at (c ∷ more) (suc k) b e = (let later = counted_at more k b e in omega (arith, later))

  -- Two blocks that have one each are one where there is one.
  same_block : (all : List Block) (n m : ℕ) (b c : Block) → slice_get all n ≡ Some b → slice_get all m ≡ Some c → 1 ≤ count_of b → 1 ≤ count_of c → total count_of all ≤ 1 → n ≡ m
  same_block [] n m b c at there some one few = absurd (none-some b at)
  same_block (d ∷ more) zero zero b c at there some one few = refl
  same_block (d ∷ more) zero (suc m) b c at there some one few =
      let same = ap count_of (same_Some d b at) in
      let later = counted_at more m c there in
      absurd (omega (arith, same, later, some, one, few))
  same_block (d ∷ more) (suc n) zero b c at there some one few =
      let same = ap count_of (same_Some d c there) in
      let later = counted_at more n b at in
      absurd (omega (arith, same, later, some, one, few))
  same_block (d ∷ more) (suc n) (suc m) b c at there some one few = ap suc (same_block more n m b c at there some one (omega (arith, few)))

-- Two writes of a name stand in a place.
pub record AreOne (g : Graph) (n m : ℕ) (here there : List Instruction) (e f : End) : Type 0 where
  pub block : n ≡ m
  pub rest : here ≡ there
  pub ends : e ≡ f

module _ (g : Graph) (p x : ℕ) (once : assignments_in g p x ≡ 1) where
  -- an instruction that writes the name in the place is one
  is_one : (place : Option ℕ) (i : Instruction) → place ≡ Some p → target_of i ≡ Some x → IsOne p x place i ≡ true
  is_one place i at target = and_from (is_place p place) (writes x i) (ap (is_place p) at ∙ eq-eqb p p refl) (writes_target x i target)

  -- so its block has one
  counted_there : (n : ℕ) (i : Instruction) (rest : List Instruction) (e : End) (s : StandsWith g p n (i ∷ rest) e) → target_of i ≡ Some x → 1 ≤ count_of p x s.block
  counted_there n i rest e s target =
      let some = one_counted p x s.block.place s.before i rest (is_one (place_behind s.before s.block.place) i s.place target) in
      let counts : count_of p x s.block ≡ writes_among p x s.block.place (s.before ++ i ∷ rest) = ap (writes_among p x s.block.place) s.instructions in
      omega (arith, some, counts)

  -- They are one where the place assigns the name once.
  pub one_write : (n m : ℕ) (i j : Instruction) (rest more : List Instruction) (e f : End) → StandsWith g p n (i ∷ rest) e → StandsWith g p m (j ∷ more) f → target_of i ≡ Some x → target_of j ≡ Some x → AreOne g n m (i ∷ rest) (j ∷ more) e f
  one_write n m i j rest more e f s t target other =
      let some = counted_there n i rest e s target in
      let one = counted_there m j more f t other in
      let few : total (count_of p x) g.blocks ≤ 1 = at_most (p == g.entry && is_bound x g.parameters) (writes_in g p x) once in
      let number : n ≡ m = same_block p x g.blocks n m s.block t.block s.is t.is some one few in
      let block : s.block ≡ t.block = same_Some s.block t.block (sym s.is ∙ ap (slice_get g.blocks) number ∙ t.is) in
      let within = counted_at p x g.blocks n s.block s.is in
      let parts : s.block.instructions ≡ t.before ++ j ∷ more = ap (λ (b : Block). b.instructions) block ∙ t.instructions in
      let place : place_behind t.before s.block.place ≡ Some p = ap (λ (b : Block). place_behind t.before b.place) block ∙ t.place in
      record {
        block = number;
        rest = same_in p x s.block.place s.before t.before i j rest more s.block.instructions s.instructions parts
            (is_one (place_behind s.before s.block.place) i s.place target) (is_one (place_behind t.before s.block.place) j place other) (omega (arith, within, few));
        ends = s.ends ∙ ap (λ (b : Block). b.end) block ∙ sym t.ends;
      }
    where
      at_most : (b : Bool) (k : ℕ) → (if b then 1 else 0) + k ≡ 1 → k ≤ 1
      at_most true k e = omega (arith, e)
      at_most false k e = omega (arith, e)

  -- Where an instruction writes it there, no binding does.
  pub not_bound : (n : ℕ) (i : Instruction) (rest : List Instruction) (e : End) → StandsWith g p n (i ∷ rest) e → target_of i ≡ Some x → (p == g.entry && is_bound x g.parameters) ≡ false
  not_bound n i rest e s target =
      let some = counted_there n i rest e s target in
      let within = counted_at p x g.blocks n s.block s.is in
      none_bound (p == g.entry && is_bound x g.parameters) (writes_in g p x) once (omega (arith, some, within))
    where
      none_bound : (b : Bool) (k : ℕ) → (if b then 1 else 0) + k ≡ 1 → 1 ≤ k → b ≡ false
      none_bound true k e le = absurd (omega (arith, e, le))
      none_bound false k e le = refl
