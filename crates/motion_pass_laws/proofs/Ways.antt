-- A path through the graph after is one through the graph before, with new instructions between.
use Rattle.std.proofs.Common.{◌≡◌, ℕ, Bool, true, false, true≢false, Option, Some, None, List, [], ◌∷◌, length, refl, sym, ap, ◌∙◌, subst}
use Rattle.std.specs.Prelude.{slice_get}
use Rattle.std.specs.List.{AllByRecursion}
use Rattle.std.proofs.lemmas.Option.{same_Some}
use Rattle.graph_core.specs.declared.value.Value.{Value}
use Rattle.graph_core.specs.Graphs.{Operand, Instruction, End, Jump, Return, Block, Graph, UnitForm}
use Rattle.graph_core.specs.Uses.{targets_of}
use Rattle.graph_core.specs.Paths.{History, Among, front, behind, Way, stays, passes, goes, Path, path}
use Rattle.graph_core.specs.Validity.{IsKept, IsBlock, IsGraph, place_at_end}
use Rattle.graph_core.specs.Computations.{Computation}
use Rattle.motion_pass_points.specs.Ways as rule
use Rattle.motion_pass_points.specs.Ways.{within, leaves, enters, IsCome}
use Rattle.motion_pass_laws.proofs.Carried.{all_at}
use Rattle.motion_pass_laws.proofs.Lists.{each_among}
use Rattle.motion_pass_laws.specs.Made.{StaysOrReads, IsDoing, IsNew, PassedSo, nothing, one_passed, new_passed, IsLedTo, directly, by_own, EndsSo, AreLeft, none_left, one_left, new_left, IsMadeOf, IsMade}

-- There is a block where one is kept.
pub kept_there : (place : Option ℕ) (o : Option Block) → IsKept place o → (b : Block) × (o ≡ Some b)
kept_there place None kept = absurd kept
kept_there place (Some b) kept = (b, refl)

module _ (u : UnitForm) (g : Graph) (valid : IsGraph u g) where
  -- AN EDGE OF A VALID GRAPH LEADS TO A BLOCK.
  pub leads_inside : (n : ℕ) (b : Block) → slice_get g.blocks n ≡ Some b → (l : ℕ) → Among l (targets_of b.end) → (c : Block) × (slice_get g.blocks l ≡ Some c)
  leads_inside n b at l among =
      let block : IsBlock u g b = all_at (IsBlock u g) g.blocks n b valid.blocks at in
      kept_there (place_at_end b) (slice_get g.blocks l) (each_among (λ k. IsKept (place_at_end b) (slice_get g.blocks k)) (targets_of b.end) l among block.edges)

-- A path comes to where it leads.
pub path_come : (g : Graph) {history : History} {n : ℕ} {rest : List Instruction} {end : End} → Path g history n rest end → IsCome g.blocks (within n rest end)
path_come g (path b at way) = on way
  where
    on : {history : History} {n : ℕ} {rest : List Instruction} {end : End} → Way g 0 b.instructions b.end history n rest end → IsCome g.blocks (within n rest end)
    on stays = rule.begins b at
    on (passes way v) = rule.goes (on way) rule.passes
    on (goes way among c stands) = rule.goes (rule.goes (on way) (leaves among)) (enters c stands)

module _ (g h : Graph) where
  -- An own block on an edge stands for what goes on by that edge.
  jumps_so : (n : ℕ) (end : End) (to : ℕ) → Among to (targets_of end) → EndsSo g h n end (Jump to)
  jumps_so n end to among = record { targets = only; returns = λ a is. absurd (no_return a is); reads = λ t none. elim none [ ] }
    where
      only : (label : ℕ) → Among label (to ∷ []) → IsLedTo g h n end label
      only _ front = directly among
      only label (behind more) = elim more [ ]

      is_jump : End → Bool
      is_jump (Jump l) = true
      is_jump _ = false

      no_return : (a : Option Operand) → Jump to ≡ Return a → ⊥
      no_return a is = true≢false (ap is_jump is)

  -- New instructions alone are left of a block of which nothing is left before.
  pub news_left : (n : ℕ) (end last : End) → EndsSo g h n end last → (news : List Instruction) → AllByRecursion (IsNew g n [] end) news → AreLeft g h n end last [] news
  news_left n end last ends [] all = none_left ends
  news_left n end last ends (i ∷ news) all = new_left all.0 (news_left n end last ends news all.1)

  -- So it is with a block on an edge.
  pub own_left : (n : ℕ) (end : End) (c : Block) (to : ℕ) → AllByRecursion (IsNew g n [] end) c.instructions → Among to (targets_of end) → c.end ≡ Jump to → AreLeft g h n end c.end [] c.instructions
  own_left n end c to all among is = news_left n end c.end (subst (λ e. EndsSo g h n end e) (sym is) (jumps_so n end to among)) c.instructions all

module _ (u : UnitForm) (g h : Graph) (valid : IsGraph u g) (made : IsMade g h) where
  -- A PATH BEFORE: to a point of the graph before, of which this is left after, and it passed the same but for new instructions.
  pub record Comes (history : History) (left : List Instruction) (last : End) : Type 0 where
    pub before : History
    pub number : ℕ
    pub rest : List Instruction
    pub end : End
    pub block : Block
    pub is : slice_get g.blocks number ≡ Some block
    pub ends : block.end ≡ end
    pub way : Path g before number rest end
    pub passed : PassedSo g before history
    pub remains : AreLeft g h number end last rest left

  -- The start of a block after.
  comes_to_block : (history before : History) (l : ℕ) (b c d : Block) → slice_get g.blocks l ≡ Some b → Path g before l b.instructions b.end → PassedSo g before history → slice_get h.blocks l ≡ Some c → IsMadeOf g h l b c → slice_get h.blocks l ≡ Some d → Comes history d.instructions d.end
  comes_to_block history before l b c d at way passed stands of there =
      let same : c ≡ d = same_Some c d (sym stands ∙ there) in
      record {
        before = before;
        number = l;
        rest = b.instructions;
        end = b.end;
        block = b;
        is = at;
        ends = refl;
        way = way;
        passed = passed;
        remains = subst (λ (k : Block). AreLeft g h l b.end k.end b.instructions k.instructions) same of.left;
      }

  -- One instruction is passed.
  one_more : (history before : History) (n number : ℕ) (i : Instruction) (rest left : List Instruction) (end last : End) (b : Block) → slice_get g.blocks number ≡ Some b → b.end ≡ end → Path g before number rest end → PassedSo g before history → AreLeft g h number end last rest (i ∷ left) → (v : Value)
      → Comes (record { block = n; left = length left; instruction = i; wrote = v } ∷ history) left last
  one_more history before n number i rest left end last b at ends (path first is way) passed (one_left {i = k} {before = more} same are) v = record {
    before = record { block = number; left = length more; instruction = k; wrote = v } ∷ before;
    number = number;
    rest = more;
    end = end;
    block = b;
    is = at;
    ends = ends;
    way = path first is (passes way v);
    passed = one_passed same passed;
    remains = are;
  }
  one_more history before n number i rest left end last b at ends way passed (new_left new are) v = record {
    before = before;
    number = number;
    rest = rest;
    end = end;
    block = b;
    is = at;
    ends = ends;
    way = way;
    passed = new_passed new.computation new.does passed;
    remains = are;
  }

  -- One edge is followed.
  one_edge : (history before : History) (number l : ℕ) (rest : List Instruction) (end last : End) (b : Block) → slice_get g.blocks number ≡ Some b → b.end ≡ end → Path g before number rest end → PassedSo g before history → AreLeft g h number end last rest []
      → Among l (targets_of last) → (d : Block) → slice_get h.blocks l ≡ Some d → Comes history d.instructions d.end
  one_edge history before number l _ end last b at ends way passed (none_left leads) among d there = by_edge way (leads.targets l among)
    where
      by_edge : Path g before number [] end → IsLedTo g h number end l → Comes history d.instructions d.end
      by_edge (path first is walk) (directly to) =
          let to_block = leads_inside u g valid number b at l (subst (λ e. Among l (targets_of e)) (sym ends) to) in
          let made_block = made.block l to_block.0 to_block.1 in
          comes_to_block history before l to_block.0 made_block.0 d to_block.1 (path first is (goes walk to to_block.0 to_block.1)) passed made_block.1 made_block.2 there
      by_edge walk (by_own c to stands all leads_to jumps) = record {
        before = before;
        number = number;
        rest = [];
        end = end;
        block = b;
        is = at;
        ends = ends;
        way = walk;
        passed = passed;
        remains = subst (λ (k : Block). AreLeft g h number end k.end [] k.instructions) (same_Some c d (sym stands ∙ there)) (own_left g h number end c to all leads_to jumps);
      }

  -- EACH PATH AFTER is one before.
  way_comes : (a b : Block) → slice_get g.blocks 0 ≡ Some a → slice_get h.blocks 0 ≡ Some b → {history : History} {n : ℕ} {left : List Instruction} {last : End} → Way h 0 b.instructions b.end history n left last → Comes history left last
  way_comes a b at there stays =
      let first = made.block 0 a at in comes_to_block [] [] 0 a first.0 b at (path a at stays) nothing first.1 first.2 there
  way_comes a b at there (passes {h = history} {n = n} {i = i} {left = left} {e = e} way v) =
      let c = way_comes a b at there way in one_more history c.before n c.number i c.rest left c.end e c.block c.is c.ends c.way c.passed c.remains v
  way_comes a b at there (goes {h = history} {n = n} {l = l} {e = e} way among d stands) =
      let c = way_comes a b at there way in one_edge history c.before c.number l c.rest c.end e c.block c.is c.ends c.way c.passed c.remains among d stands

  -- the first block before
  first_block : (b : Block) → slice_get h.blocks 0 ≡ Some b → (a : Block) × (slice_get g.blocks 0 ≡ Some a)
  first_block b there = kept_there (Some g.entry) (slice_get g.blocks 0) valid.begins

  -- So it is from the entry.
  pub path_comes : {history : History} {n : ℕ} {left : List Instruction} {last : End} → Path h history n left last → Comes history left last
  path_comes (path b there way) = (let a = first_block b there in way_comes a.0 b a.1 there way)

  -- A PATH BEFORE to an instruction that stays, or reads a temporary after; or to the point where a new one stands.
  pub data ComesTo (history : History) (i : Instruction) : Type 0 where
    to_old : (before : History) (number : ℕ) (k : Instruction) (rest : List Instruction) (end : End) → Path g before number (k ∷ rest) end → PassedSo g before history → StaysOrReads g k i → ComesTo history i
    to_new : (before : History) (number : ℕ) (rest : List Instruction) (end : End) → Path g before number rest end → PassedSo g before history → IsNew g number rest end i → ComesTo history i

  -- by what is left
  by_left : (history before : History) (number : ℕ) (i : Instruction) (rest left : List Instruction) (end last : End) → Path g before number rest end → PassedSo g before history → AreLeft g h number end last rest (i ∷ left) → ComesTo history i
  by_left history before number i _ left end last way passed (one_left {i = k} {before = more} same are) = to_old before number k more end way passed same
  by_left history before number i rest left end last way passed (new_left new are) = to_new before number rest end way passed new

  -- Each path after to an instruction.
  pub path_to : {history : History} {n : ℕ} {i : Instruction} {left : List Instruction} {last : End} → Path h history n (i ∷ left) last → ComesTo history i
  path_to {history} {n} {i} {left} {last} way = (let c = path_comes way in by_left history c.before c.number i c.rest left c.end last c.way c.passed c.remains)

  -- A path before to the same instruction.
  pub record ComesToSame (history : History) (i : Instruction) : Type 0 where
    pub before : History
    pub number : ℕ
    pub rest : List Instruction
    pub end : End
    pub way : Path g before number (i ∷ rest) end
    pub passed : PassedSo g before history

  -- Each path after to an instruction that is not new, and that only itself becomes.
  pub path_to_same : {history : History} {n : ℕ} {i : Instruction} {left : List Instruction} {last : End} → ((k : Instruction) → StaysOrReads g k i → k ≡ i) → ((e : Computation) → IsDoing g e i → ⊥) → Path h history n (i ∷ left) last → ComesToSame history i
  path_to_same {history} {n} {i} {left} {last} only old way = by_kind (path_to way)
    where
      by_kind : ComesTo history i → ComesToSame history i
      by_kind (to_old before number k rest end walk passed same) = record { before = before; number = number; rest = rest; end = end; way = subst (λ j. Path g before number (j ∷ rest) end) (only k same) walk; passed = passed }
      by_kind (to_new before number rest end walk passed new) = absurd (old new.computation new.does)

  -- A path before to the end of a block that ends so after.
  pub record ComesToEnd (history : History) (last : End) : Type 0 where
    pub before : History
    pub number : ℕ
    pub end : End
    pub way : Path g before number [] end
    pub passed : PassedSo g before history
    pub ends : EndsSo g h number end last

  -- by what is left
  by_none_left : (history before : History) (number : ℕ) (rest : List Instruction) (end last : End) → Path g before number rest end → PassedSo g before history → AreLeft g h number end last rest [] → ComesToEnd history last
  by_none_left history before number _ end last way passed (none_left ends) = record { before = before; number = number; end = end; way = way; passed = passed; ends = ends }

  -- Each path after to the end of a block.
  pub path_to_end : {history : History} {n : ℕ} {last : End} → Path h history n [] last → ComesToEnd history last
  path_to_end {history} {n} {last} way = (let c = path_comes way in by_none_left history c.before c.number c.rest c.end last c.way c.passed c.remains)
