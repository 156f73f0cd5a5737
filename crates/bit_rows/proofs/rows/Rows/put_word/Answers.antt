use Rattle.std.proofs.Common.{arith}
use Rattle.bit_rows.proofs.Taking.{word_there, put_rows, put_view}
use Rattle.bit_rows.proofs.rows.Rows.put_word.Goals as goal

pub index_mut-requires : goal.index_mut-requires
index_mut-requires c = let i = c.self.inside in
    omega (arith, word_there i.words.items i.stride i.width i.rows c.self.invariant c.args.self.now c.self.view_is c.args.row c.args.index c.requires.row (omega (arith, c.requires.index)))

pub invariant_of-self : goal.invariant_of-self
invariant_of-self c = let i = c.self.inside in
    put_rows i.words.items i.stride i.width i.rows c.self.invariant c.args.self.now c.self.view_is c.args.row c.args.index c.requires.row (omega (arith, c.requires.index)) c.requires.index c.args.word

pub returns : goal.returns
returns c = let i = c.self.inside in
    put_view i.words.items i.stride i.width i.rows c.self.invariant c.args.self.now c.self.view_is c.args.row c.args.index c.requires.row (omega (arith, c.requires.index)) c.requires.index c.args.word
