use Rattle.std.proofs.Common.{◌++◌, ◌∷◌, arith}
use Rattle.graph_core.specs.Graphs.{graph_view}
use Rattle.motion_pass.proofs.Within.{blocks_beyond, instructions_beyond, is_amount, is_within, own_beyond}
use Rattle.motion_pass.proofs.bounds.Amount.replaced.Goals as goal

pub returns-then-moved-gt-MAX_NAMES-clause-beyond : goal.returns-then-moved-gt-MAX_NAMES-clause-beyond
returns-then-moved-gt-MAX_NAMES-clause-beyond c = λ before behind is none within.
    (let few = within.names in
    omega (arith, few, c.if-moved-gt-MAX_NAMES.true))

pub returns-then-own-gt-MAX_FUNCTION_INSTRUCTIONS-clause-beyond : goal.returns-then-own-gt-MAX_FUNCTION_INSTRUCTIONS-clause-beyond
returns-then-own-gt-MAX_FUNCTION_INSTRUCTIONS-clause-beyond c = λ before behind is none within.
    own_beyond c.args.room (graph_view c.args.moved.now) (before ++ graph_view c.args.moved.now ∷ behind) c.counted_of-own.result c.with-all.result.instructions c.with-all.result.blocks c.counted_of-own.ensures (c.with-all.ensures.instructions before behind is) (c.with-all.ensures.blocks before behind is)
    (omega (arith, c.if-own-gt-MAX_FUNCTION_INSTRUCTIONS.true)) within

pub returns-then-all-max_instructions-clause-beyond : goal.returns-then-all-max_instructions-clause-beyond
returns-then-all-max_instructions-clause-beyond c = λ before behind is none within.
    instructions_beyond c.args.room (graph_view c.args.moved.now) (before ++ graph_view c.args.moved.now ∷ behind) c.counted_of-own.result c.with-all.result.instructions c.with-all.result.blocks c.counted_of-own.ensures (c.with-all.ensures.instructions before behind is) (c.with-all.ensures.blocks before behind is)
    (omega (arith, c.if-all-max_instructions.true, c.max_instructions.ensures)) within

pub returns-then-all-max_blocks-clause-beyond : goal.returns-then-all-max_blocks-clause-beyond
returns-then-all-max_blocks-clause-beyond c = λ before behind is none within.
    blocks_beyond c.args.room (graph_view c.args.moved.now) (before ++ graph_view c.args.moved.now ∷ behind) c.counted_of-own.result c.with-all.result.instructions c.with-all.result.blocks c.counted_of-own.ensures (c.with-all.ensures.instructions before behind is) (c.with-all.ensures.blocks before behind is)
    (omega (arith, c.if-all-max_blocks.true, c.max_blocks.ensures)) within

pub returns-clause-within : goal.returns-clause-within
returns-clause-within c = λ before behind is.
    is_within c.args.room (graph_view c.args.moved.now) (before ++ graph_view c.args.moved.now ∷ behind) c.counted_of-own.result c.with-all.result.instructions c.with-all.result.blocks c.counted_of-own.ensures (c.with-all.ensures.instructions before behind is) (c.with-all.ensures.blocks before behind is)
    (omega (arith, c.if-moved-gt-MAX_NAMES.false)) (omega (arith, c.if-own-gt-MAX_FUNCTION_INSTRUCTIONS.false)) (omega (arith, c.if-all-max_instructions.false, c.max_instructions.ensures)) (omega (arith, c.if-all-max_blocks.false, c.max_blocks.ensures))

pub returns-clause-amount : goal.returns-clause-amount
returns-clause-amount c = λ before behind is.
    is_amount c.args.room (graph_view c.args.moved.now) (before ++ graph_view c.args.moved.now ∷ behind) c.counted_of-own.result c.with-all.result.instructions c.with-all.result.blocks c.counted_of-own.ensures (c.with-all.ensures.instructions before behind is) (c.with-all.ensures.blocks before behind is)
    (omega (arith, c.if-all-max_instructions.false, c.max_instructions.ensures)) (omega (arith, c.if-all-max_blocks.false, c.max_blocks.ensures))
