use Rattle.std.proofs.Common.{◌≡◌, ◌↔◌, ◌⊎◌, ◌+◌, ◌<◌, ◌++◌, Bool, true, false, List, length, take, drop, sym, ap, ◌∙◌, subst, arith}
use Rattle.std.specs.Prelude.{slice_index_or}
use Rattle.motion_pass_placement.specs.Placed.{IsMovedAnywhere, IsMovedBefore}
use Rattle.motion_pass_placement.proofs.Marks.{blocks_on}
use Rattle.motion_pass_placement.proofs.Rows.{whole_written}
use Rattle.motion_pass_placement.proofs.placement.treated_of.Goals as goal

pub loop-block-preserved : goal.loop-block-preserved
loop-block-preserved c =
    let items = c.loop-block.treated.items in
    let new = c.mark_row.new.treated in
    let block = c.loop-block.block in
    let row = c.row_at-row.result.now in
    let told = c.told_at-told.result.now in
    let len_is : c.loop-block.treated.len ≡ length items = omega arith in
    let size : length new ≡ length items = c.mark_row.ensures.size ∙ ap length c.deref_mut.ensures.value in
    let written : take c.loop-block.treated.len (new ++ drop (length new) items) ≡ new = whole_written items new c.loop-block.treated.len len_is size in
    record {
      size = ap length written ∙ size ∙ c.loop-block.invariant.size;
      marked = λ k lt.
          (let inside : k < length items = omega (arith, lt, c.loop-block.invariant.size) in
          let here : (slice_index_or new k false ≡ true) ↔ ((slice_index_or items k false ≡ true) ⊎ IsMovedBefore (length told) row told k)
          = subst (λ (xs : List Bool). (slice_index_or new k false ≡ true) ↔ ((slice_index_or xs k false ≡ true) ⊎ IsMovedBefore (length told) row told k)) c.deref_mut.ensures.value
          (c.mark_row.ensures.marked k (subst (λ (xs : List Bool). k < length xs) (sym c.deref_mut.ensures.value) inside)) in
          subst (λ (xs : List Bool). (slice_index_or xs k false ≡ true) ↔ IsMovedAnywhere (block + 1) c.args.numbers.now c.args.fates.now k) (sym written)
          (blocks_on c.args.numbers.now c.args.fates.now k block (slice_index_or items k false) (slice_index_or new k false) row told c.row_at-row.ensures c.told_at-told.ensures here (c.loop-block.invariant.marked k lt)));
    }
