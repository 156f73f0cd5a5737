use Rattle.std.proofs.Common.{arith}
use Rattle.bit_rows.proofs.Bits.{clear_view}
use Rattle.bit_rows.proofs.rows.Rows.new.Goals as goal

pub returns : goal.returns
returns c = clear_view _ _ _ _ (c.in_ok-words.ensures.items_if_clones_equal (λ y e. e)) (omega arith)
