use Rattle.std.proofs.Common.{arith}
use Rattle.bit_rows.proofs.Bits.{word_within, bit_read}
use Rattle.bit_rows.proofs.rows.Rows.get.Goals as goal

pub index-word-requires : goal.index-word-requires
index-word-requires c = let i = c.self.inside in omega (arith, word_within i.words.items i.stride i.width i.rows c.self.invariant c.args.self.now c.self.view_is c.args.row c.requires.row c.args.bit c.requires.bit)

pub returns : goal.returns
returns c = let i = c.self.inside in
    bit_read i.words.items i.stride i.width i.rows c.self.invariant c.args.self.now c.self.view_is c.args.row c.args.bit c.index-word.result.now c.requires.row c.requires.bit c.index-word.ensures
