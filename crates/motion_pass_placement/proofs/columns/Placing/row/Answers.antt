use Rattle.std.proofs.Common.{◌≡◌, ◌/◌, ℕ, inl, inr, List, Option, Some, length, map, take, drop, ◌++◌, refl, sym, ap, ◌∙◌, subst, arith}
use Rattle.std.specs.Prelude.{option_map, slice_get}
use Rattle.std.proofs.lemmas.Bool.{cases_eq}
use Rattle.std.proofs.lemmas.List.{length-map}
use Rattle.std.proofs.lemmas.Option.{same_Some, slice_get-map, slice_get_read}
use Rattle.graph_core.specs.Graphs.{Block, block_view, instruction_view}
use Rattle.motion_pass_points.specs.Columns.{AreNumbersAlong, number_at}
use Rattle.motion_pass_problems.specs.Inner.{IsBlock, IsTreated}
use Rattle.motion_pass_placement.specs.declared.fates.Fate.{Fate}
use Rattle.motion_pass_placement.specs.Fates.{fate_of}
use Rattle.motion_pass_placement.specs.Columns.{AreFated, all_in, blocks_in, reached_in, row_of}
use Rattle.motion_pass_placement.proofs.Rows.{whole_written}
use Rattle.motion_pass_placement.proofs.Fated.{column_other, fated_same}
use Rattle.motion_pass_placement.proofs.columns.Placing.row.Goals as goal

pub loop-index-preserved : goal.loop-index-preserved
loop-index-preserved c =
    let s = c.args.self.now in
    let n = c.args.number in
    let xs = s.graph.now.blocks.items in
    let block = c.index-block.result.now in
    let index = c.loop-index.index in
    let column = c.index-columns-index.result.column in
    let numbers = c.row_at-numbers.result.now in
    let old = c.loop-index.fates.items in
    let new = c.put_fates.new.fates in
    let len_is : c.loop-index.fates.len ≡ length old = omega arith in
    let size : length new ≡ length old = c.put_fates.ensures.size ∙ ap length c.deref_mut.ensures.value in
    let written : take c.loop-index.fates.len (new ++ drop (length new) old) ≡ new = whole_written old new c.loop-index.fates.len len_is size in
    let there : slice_get (map block_view xs) n ≡ Some (block_view block) = slice_get-map block_view xs n ∙ ap (option_map block_view) (slice_get_read xs (length xs) n block refl c.requires.within c.index-block.ensures) in
    let solved = c.requires.solved.each index c.index-columns-index.result (slice_get_read c.args.columns.now (length c.args.columns.now) index c.index-columns-index.result refl c.loop-index-test.true c.index-columns-index.is) in
    record {
      size = ap length written ∙ size ∙ c.loop-index.invariant.size;
      told = λ b got comes k e at lt.
          (let one : block_view block ≡ b = same_Some (block_view block) b (sym there ∙ got) in
          subst (λ (fates : List Fate). AreFated (blocks_in s) n b (row_of s.numbers.now n) k e fates) (sym written) (elim (cases_eq (k / 64) index) [
            | inl same ↦
                let along : AreNumbersAlong (all_in s) (block_view block).instructions numbers
                = subst (λ (ns : List (Option ℕ)). AreNumbersAlong (all_in s) (block_view block).instructions ns) (sym c.row_at-numbers.ensures) (subst (λ (d : Block). AreNumbersAlong (all_in s) d.instructions (row_of s.numbers.now n)) (sym one) (c.requires.placing.rows.along n b got comes)) in
                let is : IsBlock (blocks_in s) (reached_in s) n (block_view block) = record { whole = c.requires.placing.reached; is = there; comes = comes } in
                let treated : IsTreated column (block_view block) numbers k e = record { all = s.computations.now; marked = solved.marked; known = c.requires.placing.known; along = along; of = same ∙ sym solved.of; at = at } in
                subst (λ (ns : List (Option ℕ)). AreFated (blocks_in s) n b ns k e new) c.row_at-numbers.ensures
                (subst (λ (d : Block). AreFated (blocks_in s) n d numbers k e new) one (c.put_fates.ensures.told (blocks_in s) (reached_in s) k e is treated (solved.facts k e same at)))
            | inr apart ↦
                fated_same (blocks_in s) n b (row_of s.numbers.now n) k e old new
                (λ j number. c.put_fates.ensures.others j (column_other column.index k (λ same. apart (same ∙ solved.of)) (number_at numbers j) (ap (λ ns. number_at ns j) c.row_at-numbers.ensures ∙ number)) ∙ ap (λ fates. fate_of fates j) c.deref_mut.ensures.value)
                (c.loop-index.invariant.told b got comes k e at (omega (arith, lt, apart)))
          ]));
    }

pub returns : goal.returns
returns c = record {
  told = λ b got comes k e at. c.loop-index.invariant.told b got comes k e at (omega (arith, c.requires.solved.enough k e at, c.loop-index-test.false));
  size = λ b got.
      (let xs = c.args.self.now.graph.now.blocks.items in
      let block = c.index-block.result.now in
      let there : slice_get (map block_view xs) c.args.number ≡ Some (block_view block) = slice_get-map block_view xs c.args.number ∙ ap (option_map block_view) (slice_get_read xs (length xs) c.args.number block refl c.requires.within c.index-block.ensures) in
      let one : block_view block ≡ b = same_Some (block_view block) b (sym there ∙ got) in
      c.loop-index.invariant.size ∙ sym (length-map block.instructions.items instruction_view) ∙ ap (λ (d : Block). length d.instructions) one);
}
