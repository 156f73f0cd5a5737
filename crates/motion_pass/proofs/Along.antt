-- The cases of the instructions of a block, and of the blocks of a graph.
use Rattle.std.proofs.Common.{◌≡◌, ◌↔◌, ℕ, ◌+◌, ◌≤◌, ◌++◌, Bool, true, Option, Some, List, [], ◌∷◌, length, take, drop, refl, sym, ap, ◌∙◌, subst, arith}
use Rattle.std.specs.Prelude.{slice_get}
use Rattle.std.proofs.lemmas.List.{length-take-le, take-append-drop, take_at}
use Rattle.std.proofs.lemmas.Option.{same_Some, slice_get_within}
use Rattle.graph_core.specs.Graphs.{Instruction, Block, Graph, Scalar}
use Rattle.graph_core.specs.Uses.{target_of}
use Rattle.graph_core.specs.Validity.{place_behind}
use Rattle.graph_core.specs.Computations.{Computation}
use Rattle.pass_law.specs.declared.cases.Case.{Case}
use Rattle.pass_law.specs.Changes.{Adds, Below, Numbered}
use Rattle.pass_law.proofs.Adding.{adds_first, adds_last, adds_next, adds_same}
use Rattle.motion_pass_points.specs.Ways.{within}
use Rattle.motion_pass_problems.specs.Inner.{point_at}
use Rattle.motion_pass_problems.proofs.Inner.{drop_at}
use Rattle.motion_pass_placement.specs.Moves.{IsReadingAssignment}
use Rattle.motion_pass_placement.specs.Moving.{IsReadAt}
use Rattle.motion_pass.specs.Cases.{IsReadingAt, IsReadingIn}

abbrev pub index_of : Case → ℕ
index_of c = c.index

abbrev pub block_of : Case → ℕ
block_of c = c.block

module _ (scalars : List Scalar) (blocks : List Block) (n : ℕ) (b : Block) where
  abbrev IsIn : Case → Type 0
  IsIn c = IsReadingIn scalars blocks n b c

  pub points_first : (old : List Case) → Adds (Below IsIn index_of 0) old old
  points_first old = adds_first IsIn index_of old

  module _ (k : ℕ) (i : Instruction) (reading : Bool) (place target : Option ℕ) (there : slice_get b.instructions k ≡ Some i) (told : (reading ≡ true) ↔ ((e : Computation) × IsReadAt blocks e (point_at n b k)))
      (in_place : place ≡ place_behind (take k b.instructions) b.place) (is_target : target ≡ target_of i) where
    in_block : (c : Case) → IsReadingAt scalars reading place n k target c → Numbered IsIn index_of k c
    in_block c h = (
      record {
        instruction = i;
        is = ap (slice_get b.instructions) h.at_index ∙ there;
        computation = (told.0 h.read).0;
        reads = subst (λ j. IsReadAt blocks (told.0 h.read).0 (point_at n b j)) (sym h.at_index) (told.0 h.read).1;
        in_place = ap (λ j. place_behind (take j b.instructions) b.place) h.at_index ∙ sym in_place ∙ h.in_place;
        in_block = h.in_block;
        x = h.x;
        written = sym is_target ∙ h.written;
        variable = h.variable;
        no_read = h.no_read;
      },
      h.at_index,
    )

    at_point : (c : Case) → Numbered IsIn index_of k c → IsReadingAt scalars reading place n k target c
    at_point c h =
        let same : h.0.instruction ≡ i = same_Some h.0.instruction i (sym h.0.is ∙ ap (slice_get b.instructions) h.1 ∙ there) in
        record {
          read = told.1 (h.0.computation, subst (λ j. IsReadAt blocks h.0.computation (point_at n b j)) h.1 h.0.reads);
          in_place = in_place ∙ sym (ap (λ j. place_behind (take j b.instructions) b.place) h.1) ∙ h.0.in_place;
          in_block = h.0.in_block;
          at_index = h.1;
          x = h.0.x;
          written = is_target ∙ sym (ap target_of same) ∙ h.0.written;
          variable = h.0.variable;
          no_read = h.0.no_read;
        }

    pub point_step : (old mid new : List Case) → Adds (Below IsIn index_of k) old mid → Adds (IsReadingAt scalars reading place n k target) mid new → Adds (Below IsIn index_of (k + 1)) old new
    point_step old mid new so_far adds = adds_next IsIn index_of k old mid new so_far (adds_same (IsReadingAt scalars reading place n k target) (Numbered IsIn index_of k) mid new in_block at_point adds)

  -- all instructions were gone over
  pub points_done : (k : ℕ) (old new : List Case) → length b.instructions ≤ k → Adds (Below IsIn index_of k) old new → Adds IsIn old new
  points_done k old new whole adds = adds_last IsIn index_of k old new (λ c h. (let within = slice_get_within b.instructions c.index h.instruction h.is in omega (arith, whole, within))) adds

-- what stands behind so many others
pub behind_others : (before rest : List Instruction) (i : Instruction) → slice_get (before ++ i ∷ rest) (length before) ≡ Some i
behind_others [] rest i = refl
behind_others (j ∷ before) rest i = behind_others before rest i

left_behind : (before rest : List Instruction) → drop (length before) (before ++ rest) ≡ rest
left_behind [] rest = refl
left_behind (j ∷ before) rest = left_behind before rest

module _ (g : Graph) where
  module _ (k : ℕ) (b : Block) (here : slice_get g.blocks k ≡ Some b) where
    in_its_block : (c : Case) → Numbered (IsReadingAssignment g) block_of k c → IsReadingIn g.scalars g.blocks k b c
    in_its_block c q =
        let w = q.0 in
        let at = w.stood in
        let there : slice_get g.blocks c.block ≡ Some b = ap (slice_get g.blocks) q.1 ∙ here in
        let same : at.block ≡ b = same_Some at.block b (sym at.is ∙ there) in
        let parts : b.instructions ≡ at.before ++ w.instruction ∷ w.rest = sym (ap (λ (z : Block). z.instructions) same) ∙ at.instructions in
        let index = w.index in
        let ends : w.end ≡ b.end = at.ends ∙ ap (λ (z : Block). z.end) same in
        let left : drop c.index b.instructions ≡ w.instruction ∷ w.rest = ap (drop c.index) parts ∙ ap (λ m. drop m (at.before ++ w.instruction ∷ w.rest)) (sym index) ∙ left_behind at.before (w.instruction ∷ w.rest) in
        record {
          instruction = w.instruction;
          is = ap (λ l. slice_get l c.index) parts ∙ ap (slice_get (at.before ++ w.instruction ∷ w.rest)) (sym index) ∙ behind_others at.before w.rest w.instruction;
          computation = w.computation;
          reads = subst (λ e. IsReadAt g.blocks w.computation (within k (drop c.index b.instructions) e)) ends
              (subst (λ l. IsReadAt g.blocks w.computation (within k l w.end)) (sym left) (subst (λ m. IsReadAt g.blocks w.computation (within m (w.instruction ∷ w.rest) w.end)) q.1 w.reads));
          in_place = ap (λ l. place_behind l b.place) (ap (take c.index) parts ∙ take_at at.before (w.instruction ∷ w.rest) c.index index) ∙ ap (λ (z : Block). place_behind at.before z.place) (sym same) ∙ at.place;
          in_block = q.1;
          x = w.x;
          written = w.written;
          variable = w.variable;
          no_read = w.no_read;
        }

    of_block : (c : Case) → IsReadingIn g.scalars g.blocks k b c → Numbered (IsReadingAssignment g) block_of k c
    of_block c r =
        let there : slice_get g.blocks c.block ≡ Some b = ap (slice_get g.blocks) r.in_block ∙ here in
        let ahead = drop_at b.instructions c.index r.instruction r.is in
        let parts : b.instructions ≡ take c.index b.instructions ++ r.instruction ∷ drop (c.index + 1) b.instructions = sym (take-append-drop c.index b.instructions) ∙ ap (λ l. take c.index b.instructions ++ l) ahead in
        let within_it = slice_get_within b.instructions c.index r.instruction r.is in (
          record {
            instruction = r.instruction;
            rest = drop (c.index + 1) b.instructions;
            end = b.end;
            stood = record { block = b; before = take c.index b.instructions; is = there; instructions = parts; ends = refl; place = r.in_place };
            index = length-take-le c.index b.instructions (omega (arith, within_it));
            computation = r.computation;
            reads = subst (λ m. IsReadAt g.blocks r.computation (within m (r.instruction ∷ drop (c.index + 1) b.instructions) b.end)) (sym r.in_block)
                (subst (λ l. IsReadAt g.blocks r.computation (within k l b.end)) ahead r.reads);
            x = r.x;
            written = r.written;
            variable = r.variable;
            no_read = r.no_read;
          },
          r.in_block,
        )

    pub block_step : (old mid new : List Case) → Adds (Below (IsReadingAssignment g) block_of k) old mid → Adds (IsReadingIn g.scalars g.blocks k b) mid new → Adds (Below (IsReadingAssignment g) block_of (k + 1)) old new
    block_step old mid new so_far adds =
        adds_next (IsReadingAssignment g) block_of k old mid new so_far (adds_same (IsReadingIn g.scalars g.blocks k b) (Numbered (IsReadingAssignment g) block_of k) mid new of_block in_its_block adds)

  pub blocks_done : (k : ℕ) (old new : List Case) → length g.blocks ≤ k → Adds (Below (IsReadingAssignment g) block_of k) old new → Adds (IsReadingAssignment g) old new
  blocks_done k old new whole adds =
      adds_last (IsReadingAssignment g) block_of k old new (λ c q. (let within = slice_get_within g.blocks c.block q.stood.block q.stood.is in omega (arith, whole, within))) adds
