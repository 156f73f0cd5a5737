-- Steps of a flood: they bring no more than ways do, and where nothing is new all is closed.
use Rattle.std.proofs.Common.{◌≡◌, ℕ, ◌+◌, ◌-◌, ◌*◌, ◌<◌, ◌≤◌, ◌||◌, ◌⊎◌, inl, inr, if◌then◌else◌, Bool, true, false, true≢false, Some, List, length, refl, sym, ap, ◌∙◌, subst, arith}
use Rattle.std.specs.Prelude.{slice_get}
use Rattle.std.proofs.lemmas.Bool.{cases_eq}
use Rattle.std.proofs.lemmas.Option.{slice_get_within, same_Some}
use Rattle.graph_core.specs.Graphs.{Block}
use Rattle.graph_core.specs.Uses.{targets_of}
use Rattle.graph_core.specs.Paths.{Among}
use Rattle.graph_paths.specs.declared.marks.Marks.{Marks}
use Rattle.graph_paths.specs.PathMarksTable.{bits_of, told}
use Rattle.graph_paths.specs.Flood.{HasEdge, FlowsBy, Course, Flows, IsBrought, begun, handed, Bits, AreBrought, AreTables, AreSameBut, AreSame, IsStep, AreFurther, source, sink, IsClosedAlong, IsClosedAt, block_at}
use Rattle.graph_paths.proofs.Told.{few_told}

or_second : (a b : Bool) → b ≡ true → (a || b) ≡ true
or_second true b e = refl
or_second false b e = e

one_of : (a b : Bool) → (a || b) ≡ true → (a ≡ true) ⊎ (b ≡ true)
one_of true b e = inl refl
one_of false b e = inr e

pub neither : (a b : Bool) → (a || b) ≡ false → (a ≡ false) × (b ≡ false)
neither true b e = absurd (true≢false e)
neither false b e = (refl, e)

-- a course whose blocks are these
pub edge_there : (c : Course) (bs : List Block) (b : Block) (n l : ℕ) → c.blocks ≡ bs → slice_get bs n ≡ Some b → c.is_open n ≡ true → Among l (targets_of b.end) → HasEdge c.blocks c.is_open n l
edge_there c bs b n l same at is_open among = record { block = b; is = ap (λ (all : List Block). slice_get all n) same ∙ at; comes = is_open; leads = among }

pub edge_leads : (c : Course) (bs : List Block) (b : Block) (n l : ℕ) → c.blocks ≡ bs → slice_get bs n ≡ Some b → HasEdge c.blocks c.is_open n l → Among l (targets_of b.end)
edge_leads c bs b n l same at edge =
    subst (λ (d : Block). Among l (targets_of d.end)) (same_Some edge.block b (sym edge.is ∙ ap (λ (all : List Block). slice_get all n) same ∙ at)) edge.leads

pub edge_within : (c : Course) (n l : ℕ) → HasEdge c.blocks c.is_open n l → n < length c.blocks
edge_within c n l edge = slice_get_within c.blocks n edge.block edge.is

pub flows_forward : (blocks : List Block) (is_open : ℕ → Bool) (forward : Bool) (m n : ℕ) → forward ≡ true → HasEdge blocks is_open m n → FlowsBy blocks is_open forward m n
flows_forward blocks is_open true m n e edge = edge
flows_forward blocks is_open false m n e edge = absurd (true≢false (sym e))

pub flows_back : (blocks : List Block) (is_open : ℕ → Bool) (forward : Bool) (m n : ℕ) → forward ≡ false → HasEdge blocks is_open m n → FlowsBy blocks is_open forward n m
flows_back blocks is_open false m n e edge = edge
flows_back blocks is_open true m n e edge = absurd (true≢false e)

module _ (comes leaves : Bits) (m n : ℕ) where
  pub along_forward : (forward : Bool) → forward ≡ true → ((fact : ℕ) → leaves m fact ≡ true → comes n fact ≡ true) → (fact : ℕ) → leaves (source forward m n) fact ≡ true → comes (sink forward m n) fact ≡ true
  along_forward true e come = come
  along_forward false e come = absurd (true≢false (sym e))

  pub along_back : (forward : Bool) → forward ≡ false → ((fact : ℕ) → leaves n fact ≡ true → comes m fact ≡ true) → (fact : ℕ) → leaves (source forward m n) fact ≡ true → comes (sink forward m n) fact ≡ true
  along_back false e come = come
  along_back true e come = absurd (true≢false e)

-- what is closed along all edges
pub all_closed : (forward : Bool) (blocks : List Block) (is_open : ℕ → Bool) (comes leaves : Bits)
    → ((k : ℕ) → k < length blocks → (to : ℕ) → HasEdge blocks is_open k to → (fact : ℕ) → to < length blocks → leaves (source forward k to) fact ≡ true → comes (sink forward k to) fact ≡ true)
    → (m n fact : ℕ) → FlowsBy blocks is_open forward m n → m < length blocks → n < length blocks → leaves m fact ≡ true → comes n fact ≡ true
all_closed true blocks is_open comes leaves all m n fact edge p q = all m p n edge fact q
all_closed false blocks is_open comes leaves all m n fact edge p q = all n q m edge fact p

module _ (c : Course) where
  -- at first what begins has come
  pub at_first : (comes leaves : Bits) → ((n fact : ℕ) → n < length c.blocks → fact < c.width → leaves n fact ≡ c.does n fact (comes n fact)) → AreBrought c comes comes leaves
  at_first comes leaves made = record { brought = λ n fact _ _ e. begun e; begun = λ n fact e. e; made = made }

  -- where all is as it was
  keep_same : (begins comes leaves new_comes new_leaves : Bits) → AreSame comes new_comes → AreSame leaves new_leaves → AreBrought c begins comes leaves → AreBrought c begins new_comes new_leaves
  keep_same begins comes leaves new_comes new_leaves same others are = record {
    brought = λ n fact p q e. are.brought n fact p q (sym (same n fact) ∙ e);
    begun = λ n fact e. same n fact ∙ are.begun n fact e;
    made = λ n fact p q. others n fact ∙ are.made n fact p q ∙ ap (c.does n fact) (sym (same n fact));
  }

  -- what leaves one block comes to another, to which it flows
  module _ (comes leaves new_comes new_leaves : Bits) (from to : ℕ) (from_in : from < length c.blocks) (to_in : to < length c.blocks) (flows : Flows c from to)
      (there : (bit : ℕ) → new_comes to bit ≡ (leaves from bit || comes to bit)) (rows : AreSameBut to comes new_comes)
      (made : (fact : ℕ) → fact < c.width → new_leaves to fact ≡ c.does to fact (new_comes to fact)) (others : AreSameBut to leaves new_leaves) where
    keep_carried : (begins : Bits) → AreBrought c begins comes leaves → AreBrought c begins new_comes new_leaves
    keep_carried begins are = record {
      brought = λ n fact p q e. elim (cases_eq n to) [
        | inl same ↦ subst (λ k. IsBrought (Flows c) (λ m. c.does m fact) (λ m. begins m fact) k) (sym same) (came fact q (sym (there fact) ∙ ap (λ k. new_comes k fact) (sym same) ∙ e))
        | inr other ↦ are.brought n fact p q (sym (rows n fact other) ∙ e)
      ];
      begun = λ n fact e. elim (cases_eq n to) [
        | inl same ↦ ap (λ k. new_comes k fact) same ∙ there fact ∙ or_second (leaves from fact) (comes to fact) (ap (λ k. comes k fact) (sym same) ∙ are.begun n fact e)
        | inr other ↦ rows n fact other ∙ are.begun n fact e
      ];
      made = λ n fact p q. elim (cases_eq n to) [
        | inl same ↦ ap (λ k. new_leaves k fact) same ∙ made fact q ∙ ap (λ k. c.does k fact (new_comes k fact)) (sym same)
        | inr other ↦ others n fact other ∙ are.made n fact p q ∙ ap (c.does n fact) (sym (rows n fact other))
      ];
    }
      where
        came : (fact : ℕ) → fact < c.width → (leaves from fact || comes to fact) ≡ true → IsBrought (Flows c) (λ m. c.does m fact) (λ m. begins m fact) to
        came fact q e = elim (one_of (leaves from fact) (comes to fact) e) [
          | inl left ↦ handed (comes from fact) flows (λ before. are.brought from fact from_in q before) (sym (are.made from fact from_in q) ∙ left)
          | inr was ↦ are.brought to fact to_in q was
        ]

  pub step_none : (comes leaves : Marks) → IsStep c comes leaves comes leaves false
  step_none comes leaves = record {
    comes_count = refl;
    comes_width = refl;
    leaves_count = refl;
    leaves_width = refl;
    keeps = λ begins are. are;
    least = omega arith;
    more = λ e. absurd (true≢false (sym e));
    quiet_comes = λ _ row bit. refl;
    quiet_leaves = λ _ row bit. refl;
    spare_comes = λ row bit _. refl;
    spare_leaves = λ row bit _. refl;
  }

  pub step_on : (a b a1 b1 a2 b2 : Marks) (r s : Bool) → IsStep c a b a1 b1 r → IsStep c a1 b1 a2 b2 s → IsStep c a b a2 b2 (r || s)
  step_on a b a1 b1 a2 b2 r s one other = record {
    comes_count = other.comes_count ∙ one.comes_count;
    comes_width = other.comes_width ∙ one.comes_width;
    leaves_count = other.leaves_count ∙ one.leaves_count;
    leaves_width = other.leaves_width ∙ one.leaves_width;
    keeps = λ begins are. other.keeps begins (one.keeps begins are);
    least = omega (arith, one.least, other.least);
    more = λ e. elim (one_of r s e) [
      | inl first ↦ (let h = one.more first in omega (arith, h, other.least))
      | inr second ↦ (let h = other.more second in omega (arith, h, one.least))
    ];
    quiet_comes = λ e row bit. other.quiet_comes (neither r s e).1 row bit ∙ one.quiet_comes (neither r s e).0 row bit;
    quiet_leaves = λ e row bit. other.quiet_leaves (neither r s e).1 row bit ∙ one.quiet_leaves (neither r s e).0 row bit;
    spare_comes = λ row bit out. other.spare_comes row bit out ∙ one.spare_comes row bit out;
    spare_leaves = λ row bit out. other.spare_leaves row bit out ∙ one.spare_leaves row bit out;
  }

  pub further_none : (a b : Marks) → AreFurther c a b a b
  further_none a b = record { is_new = false; step = step_none a b }

  pub further_on : (a b a1 b1 a2 b2 : Marks) (s : Bool) → AreFurther c a b a1 b1 → IsStep c a1 b1 a2 b2 s → AreFurther c a b a2 b2
  further_on a b a1 b1 a2 b2 s far step = record { is_new = far.is_new || s; step = step_on a b a1 b1 a2 b2 far.is_new s far.step step }

  pub tables_on : (a b a1 b1 : Marks) (r : Bool) → AreTables c a b → IsStep c a b a1 b1 r → AreTables c a1 b1
  tables_on a b a1 b1 r are step = record {
    comes_count = omega (arith, are.comes_count, step.comes_count);
    leaves_count = omega (arith, are.leaves_count, step.leaves_count);
    comes_width = step.comes_width ∙ are.comes_width;
    leaves_width = step.leaves_width ∙ are.leaves_width;
  }

  -- where nothing is new, all is closed that was
  pub closed_on : (a b a1 b1 : Marks) (r : Bool) → IsStep c a b a1 b1 r → r ≡ false → (from to : ℕ) → IsClosedAlong c from to (bits_of a) (bits_of b) → IsClosedAlong c from to (bits_of a1) (bits_of b1)
  closed_on a b a1 b1 r step quiet from to closed fact lt e =
      step.quiet_comes quiet (sink c.forward from to) fact ∙ closed fact lt (sym (step.quiet_leaves quiet (source c.forward from to) fact) ∙ e)

  -- the same of the blocks of so many turns
  pub closed_more : (a b a1 b1 : Marks) (r s : Bool) (at : ℕ → ℕ) (turn : ℕ) → IsStep c a b a1 b1 s → (r || s) ≡ false → (r ≡ false → (k : ℕ) → k < turn → IsClosedAt c (at k) (bits_of a) (bits_of b))
      → (s ≡ false → IsClosedAt c (at turn) (bits_of a1) (bits_of b1)) → (k : ℕ) → k < turn + 1 → IsClosedAt c (at k) (bits_of a1) (bits_of b1)
  closed_more a b a1 b1 r s at turn step e before here k lt = elim (cases_eq k turn) [
    | inl same ↦ subst (λ j. IsClosedAt c (at j) (bits_of a1) (bits_of b1)) (sym same) (here (neither r s e).1)
    | inr other ↦ λ to edge. closed_on a b a1 b1 s step (neither r s e).1 (at k) to (before (neither r s e).0 k (omega (arith, lt, other)) to edge)
  ]

  -- a step along an edge, where something is new
  pub step_carried : (comes leaves new_comes new_leaves : Marks) (from to : ℕ) → from < length c.blocks → to < length c.blocks → Flows c from to
      → new_comes.count ≡ comes.count → new_comes.width ≡ comes.width → new_leaves.count ≡ leaves.count → new_leaves.width ≡ leaves.width
      → ((bit : ℕ) → bits_of new_comes to bit ≡ (bits_of leaves from bit || bits_of comes to bit)) → AreSameBut to (bits_of comes) (bits_of new_comes)
      → ((fact : ℕ) → fact < c.width → bits_of new_leaves to fact ≡ c.does to fact (bits_of new_comes to fact)) → AreSameBut to (bits_of leaves) (bits_of new_leaves)
      → told comes < told new_comes → IsStep c comes leaves new_comes new_leaves true
  step_carried comes leaves new_comes new_leaves from to from_in to_in flows cc cw lc lw there rows made others more = record {
    comes_count = cc;
    comes_width = cw;
    leaves_count = lc;
    leaves_width = lw;
    keeps = keep_carried (bits_of comes) (bits_of leaves) (bits_of new_comes) (bits_of new_leaves) from to from_in to_in flows there rows made others;
    least = omega (arith, more);
    more = λ _. more;
    quiet_comes = λ e. absurd (true≢false e);
    quiet_leaves = λ e. absurd (true≢false e);
    spare_comes = λ row bit out. rows row bit (λ q. omega (arith, q, out, to_in));
    spare_leaves = λ row bit out. others row bit (λ q. omega (arith, q, out, to_in));
  }

  -- and where nothing is
  pub step_quiet : (comes leaves new_comes : Marks) → new_comes.count ≡ comes.count → new_comes.width ≡ comes.width → told comes ≤ told new_comes → AreSame (bits_of comes) (bits_of new_comes) → IsStep c comes leaves new_comes leaves false
  step_quiet comes leaves new_comes cc cw least same = record {
    comes_count = cc;
    comes_width = cw;
    leaves_count = refl;
    leaves_width = refl;
    keeps = λ begins are. keep_same begins (bits_of comes) (bits_of leaves) (bits_of new_comes) (bits_of leaves) same (λ row bit. refl) are;
    least = least;
    more = λ e. absurd (true≢false (sym e));
    quiet_comes = λ _. same;
    quiet_leaves = λ _ row bit. refl;
    spare_comes = λ row bit _. same row bit;
    spare_leaves = λ row bit _. refl;
  }

-- each block gets its turn
pub all_turns : (P : ℕ → Type 0) (forward : Bool) (count : ℕ) → ((k : ℕ) → k < count → P (block_at forward count k)) → (n : ℕ) → n < count → P n
all_turns P true count all n lt = all n lt
all_turns P false count all n lt = subst P (let e : count - 1 - (count - 1 - n) ≡ n = omega (arith, lt) in e) (all (count - 1 - n) (omega (arith, lt)))

-- rounds end: each turn of them tells more, or is the last one
module _ (c : Course) (a b a1 b1 a2 b2 : Marks) (r s : Bool) (one : IsStep c a b a1 b1 r) (other : IsStep c a1 b1 a2 b2 s) where
  room : a2.count * a2.width ≡ a.count * a.width
  room = ap (λ n. n * a2.width) (other.comes_count ∙ one.comes_count) ∙ ap (λ n. a.count * n) (other.comes_width ∙ one.comes_width)

  least_room : a2.count * a2.width - told a2 + (if s then 1 else 0) < a.count * a.width - told a + 1
  least_room = elim (cases s refl) [
    | inl new ↦ subst (λ t. a2.count * a2.width - told a2 + (if t then 1 else 0) < a.count * a.width - told a + 1) (sym new) (let h = other.more new in omega (arith, room, one.least, h, few_told a2))
    | inr quiet ↦ subst (λ t. a2.count * a2.width - told a2 + (if t then 1 else 0) < a.count * a.width - told a + 1) (sym quiet) (omega (arith, room, one.least, other.least, few_told a2))
  ]
    where
      cases : (t : Bool) → s ≡ t → (s ≡ true) ⊎ (s ≡ false)
      cases true e = inl e
      cases false e = inr e

  pub falls : (t : Bool) → t ≡ true → a2.count * a2.width - told a2 + (if s then 1 else 0) < a.count * a.width - told a + (if t then 1 else 0)
  falls t e = subst (λ b. a2.count * a2.width - told a2 + (if s then 1 else 0) < a.count * a.width - told a + (if b then 1 else 0)) (sym e) least_room

-- the same of one step alone
pub falls_once : (c : Course) (a b a1 b1 : Marks) (s : Bool) → IsStep c a b a1 b1 s → (t : Bool) → t ≡ true
    → a1.count * a1.width - told a1 + (if s then 1 else 0) < a.count * a.width - told a + (if t then 1 else 0)
falls_once c a b a1 b1 s step = falls c a b a b a1 b1 false s (step_none c a b) step
