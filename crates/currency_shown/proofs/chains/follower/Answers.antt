use Rattle.std.proofs.Common.{◌≡◌, Some, arith, get_or, sym, true≢false, ◌∙◌}
use Rattle.std.specs.Prelude.{slice_get}
use Rattle.std.proofs.lemmas.Option.{none-some, slice_get-get_or}
use Rattle.graph_core.specs.declared.block.Block as declared-block
use Rattle.currency_shown.proofs.Chaining.{none_beyond}
use Rattle.currency_shown.proofs.Linking.{followed, none_jump, none_other}
use Rattle.currency_shown.proofs.chains.follower.Goals as goal

pub returns-then-number-blocks-clause-none : goal.returns-then-number-blocks-clause-none
returns-then-number-blocks-clause-none c = λ e b is. absurd (none-some b (sym (none_beyond c.args.blocks.now c.args.number (omega arith)) ∙ is))

pub returns-then-is_before-clause-some : goal.returns-then-is_before-clause-some
returns-then-is_before-clause-some c =
    (let b : declared-block.Block = get_or c.args.blocks.now c.args.number c.index-blocks-number.result in
    let at : slice_get c.args.blocks.now c.args.number ≡ Some b = slice_get-get_or c.args.blocks.now c.args.number c.index-blocks-number.result (omega arith) in
    followed c.args.blocks.now c.args.links.now c.requires c.args.number c.in-Some.next b at c.in-Some.ensures.some (c.is_before.ensures.0 c.if-is_before.true))

pub returns-else-is_before-clause-none : goal.returns-else-is_before-clause-none
returns-else-is_before-clause-none c = λ e.
    (let b : declared-block.Block = get_or c.args.blocks.now c.args.number c.index-blocks-number.result in
    let at : slice_get c.args.blocks.now c.args.number ≡ Some b = slice_get-get_or c.args.blocks.now c.args.number c.index-blocks-number.result (omega arith) in
    none_other c.args.blocks.now c.args.links.now c.requires c.args.number b at c.in-Some.next c.in-Some.ensures.some
    (λ before. true≢false (sym (c.is_before.ensures.1 before) ∙ c.if-is_before.false)))

pub returns-in-None-clause-none : goal.returns-in-None-clause-none
returns-in-None-clause-none c = λ e.
    (let b : declared-block.Block = get_or c.args.blocks.now c.args.number c.index-blocks-number.result in
    let at : slice_get c.args.blocks.now c.args.number ≡ Some b = slice_get-get_or c.args.blocks.now c.args.number c.index-blocks-number.result (omega arith) in
    none_jump c.args.blocks.now c.args.links.now c.requires c.args.number b at (c.jump_of.ensures.none c.in-None.is))
