-- Blocks of a function, one after the other.
use Rattle.std.proofs.Common.{◌≡◌, ℕ, suc, ◌+◌, ◌-◌, ◌≤◌, ◌++◌, Bool, true, Some, List, [], ◌∷◌, length, take, drop, refl, sym, ap, ◌∙◌, subst, arith}
use Rattle.std.specs.Prelude.{slice_get}
use Rattle.std.proofs.lemmas.List.{drop_more, length-append, length-drop, length-take-le, take-append-drop, take_at}
use Rattle.std.proofs.lemmas.Option.{get_or_from_slice_get, same_Some, slice_get_within}
use Rattle.places.specs.declared.flow.Assignment.{Assignment}
use Rattle.graph_core.specs.Graphs.{Instruction, Block, Graph}
use Rattle.graph_core.specs.Validity.{place_behind}
use Rattle.pass_law.specs.declared.cases.Case.{Case}
use Rattle.pass_law.specs.Changes.{Adds, Below, Numbered}
use Rattle.pass_law.proofs.Adding.{adds_first, adds_last, adds_next, adds_same}
use Rattle.dead_pass_rule.specs.Certified.{AreIdle}
use Rattle.dead_pass_rule.specs.Idle.{Goes}
use Rattle.dead_pass_notes.specs.Points.{IsRemovedIn}
use Rattle.dead_pass_notes.specs.Writes.{IsRemovedWrite}

abbrev pub block_of : Case → ℕ
block_of c = c.block

-- what stands behind so many others
behind_others : (before rest : List Instruction) (i : Instruction) → slice_get (before ++ i ∷ rest) (length before) ≡ Some i
behind_others [] rest i = refl
behind_others (j ∷ before) rest i = behind_others before rest i

-- an instruction, with those before and behind it
parted : (all : List Instruction) (k : ℕ) (i : Instruction) → slice_get all k ≡ Some i → all ≡ take k all ++ i ∷ drop (k + 1) all
parted all k i is =
    sym (take-append-drop k all) ∙ ap (λ l. take k all ++ l) (drop_more all k i (slice_get_within all k i is)) ∙ ap (λ j. take k all ++ j ∷ drop (k + 1) all) (get_or_from_slice_get all k i i is)

module _ {assignments : List Assignment} (g : Graph) (goes : (block left : ℕ) → Bool) (are : AreIdle assignments g goes) where
  module _ (k : ℕ) (b : Block) (here : slice_get g.blocks k ≡ Some b) where
    in_block : (c : Case) → Numbered (IsRemovedWrite assignments g) block_of k c → IsRemovedIn g.scalars (goes k) k b c
    in_block c q =
        let w = q.0 in
        let at = w.stood in
        let there : slice_get g.blocks c.block ≡ Some b = ap (slice_get g.blocks) q.1 ∙ here in
        let same : at.block ≡ b = same_Some at.block b (sym at.is ∙ there) in
        let parts : b.instructions ≡ at.before ++ w.instruction ∷ w.rest = sym (ap (λ (z : Block). z.instructions) same) ∙ at.instructions in
        let count : length b.instructions ≡ length at.before + suc (length w.rest) = ap length parts ∙ length-append at.before (w.instruction ∷ w.rest) in
        let index = w.index in
        let left : length w.rest ≡ length b.instructions - 1 - c.index = omega (arith, count, index) in
        let ends = at.ends ∙ ap (λ (z : Block). z.end) same in
        let gone : goes c.block (length w.rest) ≡ true = (are.goes c.block b at.before w.rest w.instruction there parts).1 (subst (λ e. Goes assignments g c.block (w.instruction ∷ w.rest) e) ends w.goes) in
        record {
          instruction = w.instruction;
          is = ap (λ l. slice_get l c.index) parts ∙ ap (slice_get (at.before ++ w.instruction ∷ w.rest)) (sym index) ∙ behind_others at.before w.rest w.instruction;
          gone = ap (λ m. goes m (length b.instructions - 1 - c.index)) (sym q.1) ∙ ap (goes c.block) (sym left) ∙ gone;
          in_place = ap (λ l. place_behind l b.place) (ap (take c.index) parts ∙ take_at at.before (w.instruction ∷ w.rest) c.index index) ∙ ap (λ (z : Block). place_behind at.before z.place) (sym same) ∙ at.place;
          in_block = q.1;
          x = w.x;
          written = w.written;
          variable = w.variable;
          no_read = w.no_read;
        }

    of_block : (c : Case) → IsRemovedIn g.scalars (goes k) k b c → Numbered (IsRemovedWrite assignments g) block_of k c
    of_block c r =
        let there : slice_get g.blocks c.block ≡ Some b = ap (slice_get g.blocks) r.in_block ∙ here in
        let parts = parted b.instructions c.index r.instruction r.is in
        let within = slice_get_within b.instructions c.index r.instruction r.is in
        let count = length-drop (c.index + 1) b.instructions in
        let left : length (drop (c.index + 1) b.instructions) ≡ length b.instructions - 1 - c.index = omega (arith, count, within) in
        let gone : goes c.block (length (drop (c.index + 1) b.instructions)) ≡ true = ap (goes c.block) left ∙ ap (λ m. goes m (length b.instructions - 1 - c.index)) r.in_block ∙ r.gone in (
          record {
            instruction = r.instruction;
            rest = drop (c.index + 1) b.instructions;
            end = b.end;
            stood = record { block = b; before = take c.index b.instructions; is = there; instructions = parts; ends = refl; place = r.in_place };
            index = length-take-le c.index b.instructions (omega (arith, within));
            goes = (are.goes c.block b (take c.index b.instructions) (drop (c.index + 1) b.instructions) r.instruction there parts).0 gone;
            x = r.x;
            written = r.written;
            variable = r.variable;
            no_read = r.no_read;
          },
          r.in_block,
        )

    pub block_step : (old mid new : List Case) → Adds (Below (IsRemovedWrite assignments g) block_of k) old mid → Adds (IsRemovedIn g.scalars (goes k) k b) mid new → Adds (Below (IsRemovedWrite assignments g) block_of (k + 1)) old new
    block_step old mid new so_far adds =
        adds_next (IsRemovedWrite assignments g) block_of k old mid new so_far (adds_same (IsRemovedIn g.scalars (goes k) k b) (Numbered (IsRemovedWrite assignments g) block_of k) mid new of_block in_block adds)

  pub blocks_done : (k : ℕ) (old new : List Case) → length g.blocks ≤ k → Adds (Below (IsRemovedWrite assignments g) block_of k) old new → Adds (IsRemovedWrite assignments g) old new
  blocks_done k old new whole adds =
      adds_last (IsRemovedWrite assignments g) block_of k old new (λ c q. (let within = slice_get_within g.blocks c.block q.stood.block q.stood.is in omega (arith, whole, within))) adds
