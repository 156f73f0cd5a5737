-- Blocks of a function, one after the other.
use Rattle.std.proofs.Common.{◌≡◌, ℕ, ◌+◌, ◌-◌, ◌≤◌, ◌++◌, Some, None, List, length, map, take, drop, refl, sym, ap, ◌∙◌, subst, arith}
use Rattle.std.specs.Prelude.{slice_get}
use Rattle.std.proofs.lemmas.List.{drop_at, length-append, length-drop, length-map, length-take-le, take-append-drop, take_at}
use Rattle.std.proofs.lemmas.Option.{same_Some, slice_get_past, slice_get_within}
use Rattle.graph_core.specs.Graphs.{Instruction, Block, End, Graph}
use Rattle.graph_core.specs.Points.{StandsWith, reads_at}
use Rattle.graph_core.specs.Validity.{place_behind}
use Rattle.pass_law.specs.declared.cases.Case.{Case}
use Rattle.pass_law.specs.Changes.{Adds, Below, Numbered}
use Rattle.pass_law.proofs.Adding.{adds_first, adds_last, adds_next, adds_none, adds_same}
use Rattle.copy_pass.specs.Points.{IsReplacedIn}
use Rattle.copy_pass.specs.Reads.{IsOther, IsReplacedRead}
use Rattle.base_laws.proofs.Options.{none_there}
pub use Rattle.base_laws.proofs.Lists.{there}

abbrev pub block_of : Case → ℕ
block_of c = c.block

pub gone : {A B : Type 0} (view : A → B) (xs : List A) (i : ℕ) → length xs ≤ i → slice_get (map view xs) i ≡ None
gone view xs i past = slice_get_past (map view xs) i (let long = length-map xs view in omega (arith, long, past))

module _ (g : Graph) (p k i : ℕ) (rest : List Instruction) (end : End) (b : Block) (at : StandsWith g p k rest end) (here : slice_get g.blocks k ≡ Some b) where
  block_there : at.block ≡ b
  block_there = same_Some at.block b (sym at.is ∙ here)

  instructions_there : b.instructions ≡ at.before ++ rest
  instructions_there = sym (ap (λ (z : Block). z.instructions) block_there) ∙ at.instructions

  long : length b.instructions ≡ length at.before + length rest
  long = ap length instructions_there ∙ length-append at.before rest

  module _ (index : length at.before ≡ i) where
    taken : take i b.instructions ≡ at.before
    taken = ap (take i) instructions_there ∙ take_at at.before rest i index

    left : drop i b.instructions ≡ rest
    left = ap (drop i) instructions_there ∙ drop_at at.before rest i index

    placed_there : place_behind (take i b.instructions) b.place ≡ Some p
    placed_there = ap (λ l. place_behind l b.place) taken ∙ ap (λ (z : Block). place_behind at.before z.place) (sym block_there) ∙ at.place

    read_there : reads_at rest end ≡ reads_at (drop i b.instructions) b.end
    read_there = ap (λ l. reads_at l end) (sym left) ∙ ap (reads_at (drop i b.instructions)) (at.ends ∙ ap (λ (z : Block). z.end) block_there)

-- where so many instructions are left of a block
abbrev stands_there : (g : Graph) (p k i : ℕ) (b : Block) → slice_get g.blocks k ≡ Some b → place_behind (take i b.instructions) b.place ≡ Some p → StandsWith g p k (drop i b.instructions) b.end
stands_there g p k i b here place = record { block = b; before = take i b.instructions; is = here; instructions = sym (take-append-drop i b.instructions); ends = refl; place = place }

module _ (g h : Graph) (k : ℕ) where
  abbrev IsOfBlock : Case → Type 0
  IsOfBlock c = Numbered (IsReplacedRead g h) block_of k c

  pub no_block : (old : List Case) → slice_get g.blocks k ≡ None → Adds IsOfBlock old old
  no_block old gone = adds_none IsOfBlock old (λ c q. none_there (slice_get g.blocks c.block) q.0.stood.block (ap (slice_get g.blocks) q.1 ∙ gone) q.0.stood.is)

  pub no_block_after : (old : List Case) → slice_get h.blocks k ≡ None → Adds IsOfBlock old old
  no_block_after old gone = adds_none IsOfBlock old (λ c q. none_there (slice_get h.blocks c.block) q.0.stands.block (ap (slice_get h.blocks) q.1 ∙ gone) q.0.stands.is)

  module _ (b d : Block) (before : slice_get g.blocks k ≡ Some b) (after : slice_get h.blocks k ≡ Some d) where
    was_there : (c : Case) → IsOfBlock c → slice_get g.blocks c.block ≡ Some b
    was_there c q = ap (slice_get g.blocks) q.1 ∙ before

    is_there : (c : Case) → IsOfBlock c → slice_get h.blocks c.block ≡ Some d
    is_there c q = ap (slice_get h.blocks) q.1 ∙ after

    alike_there : (c : Case) → IsOfBlock c → length d.instructions ≡ length b.instructions
    alike_there c q =
        let one = long g c.place.0 c.block c.index q.0.rest q.0.end b q.0.stood (was_there c q) in
        let other = long h c.place.0 c.block c.index q.0.later q.0.later_end d q.0.stands (is_there c q) in
        let index = q.0.index in
        let still = q.0.still in
        let left = q.0.at_one_point in
        omega (arith, one, other, index, still, left)

    pub unlike : (old : List Case) → (length d.instructions ≡ length b.instructions → ⊥) → Adds IsOfBlock old old
    unlike old differ = adds_none IsOfBlock old (λ c q. differ (alike_there c q))

    in_block : (c : Case) → IsOfBlock c → IsReplacedIn g.scalars k b d c
    in_block c q =
        let one = was_there c q in
        let two = is_there c q in
        let count = long g c.place.0 c.block c.index q.0.rest q.0.end b q.0.stood one in
        let index = q.0.index in
        record {
          within = omega (arith, count, index);
          stood = placed_there g c.place.0 c.block c.index q.0.rest q.0.end b q.0.stood one q.0.index;
          stands = placed_there h c.place.0 c.block c.index q.0.later q.0.later_end d q.0.stands two q.0.still;
          in_block = q.1;
          x = q.0.x;
          other = subst (λ l. IsOther l (reads_at (drop c.index d.instructions) d.end) c.operand q.0.x) (read_there g c.place.0 c.block c.index q.0.rest q.0.end b q.0.stood one q.0.index)
              (subst (λ l. IsOther (reads_at q.0.rest q.0.end) l c.operand q.0.x) (read_there h c.place.0 c.block c.index q.0.later q.0.later_end d q.0.stands two q.0.still) q.0.other);
          variable = q.0.variable;
        }

    of_block : length d.instructions ≡ length b.instructions → (c : Case) → IsReplacedIn g.scalars k b d c → IsOfBlock c
    of_block alike c r =
        let within = r.within in (
          record {
            rest = drop c.index b.instructions;
            later = drop c.index d.instructions;
            end = b.end;
            later_end = d.end;
            stood = stands_there g c.place.0 c.block c.index b (ap (slice_get g.blocks) r.in_block ∙ before) r.stood;
            stands = stands_there h c.place.0 c.block c.index d (ap (slice_get h.blocks) r.in_block ∙ after) r.stands;
            index = length-take-le c.index b.instructions r.within;
            still = length-take-le c.index d.instructions (omega (arith, alike, within));
            at_one_point = length-drop c.index d.instructions ∙ ap (λ n. n - c.index) alike ∙ sym (length-drop c.index b.instructions);
            x = r.x;
            other = r.other;
            variable = r.variable;
          },
          r.in_block,
        )

    pub block_step : (old new : List Case) → length d.instructions ≡ length b.instructions → Adds (IsReplacedIn g.scalars k b d) old new → Adds IsOfBlock old new
    block_step old new alike = adds_same (IsReplacedIn g.scalars k b d) IsOfBlock old new (of_block alike) in_block

module _ (g h : Graph) where
  pub blocks_first : (old : List Case) → Adds (Below (IsReplacedRead g h) block_of 0) old old
  blocks_first old = adds_first (IsReplacedRead g h) block_of old

  pub block_next : (k : ℕ) (old mid new : List Case) → Adds (Below (IsReplacedRead g h) block_of k) old mid → Adds (Numbered (IsReplacedRead g h) block_of k) mid new → Adds (Below (IsReplacedRead g h) block_of (k + 1)) old new
  block_next k old mid new so_far adds = adds_next (IsReplacedRead g h) block_of k old mid new so_far adds

  pub blocks_done : (k : ℕ) (old new : List Case) → length g.blocks ≤ k → Adds (Below (IsReplacedRead g h) block_of k) old new → Adds (IsReplacedRead g h) old new
  blocks_done k old new whole adds = adds_last (IsReplacedRead g h) block_of k old new (λ c q. (let within = slice_get_within g.blocks c.block q.stood.block q.stood.is in omega (arith, whole, within))) adds
