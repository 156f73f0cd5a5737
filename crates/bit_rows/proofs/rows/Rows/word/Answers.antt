use Rattle.std.proofs.Common.{◌+◌, ◌*◌, arith}
use Rattle.std.proofs.lemmas.List.{get_or_read}
use Rattle.bit_rows.proofs.Taking.{word_there, word_read}
use Rattle.bit_rows.proofs.rows.Rows.word.Goals as goal

pub index-requires : goal.index-requires
index-requires c = let i = c.self.inside in
    omega (arith, word_there i.words.items i.stride i.width i.rows c.self.invariant c.args.self.now c.self.view_is c.args.row c.args.index c.requires.row c.requires.index)

pub returns : goal.returns
returns c = let i = c.self.inside in
    let there = word_there i.words.items i.stride i.width i.rows c.self.invariant c.args.self.now c.self.view_is c.args.row c.args.index c.requires.row c.requires.index in
    word_read i.words.items i.stride i.width i.rows c.self.invariant c.args.self.now c.self.view_is c.args.row c.args.index c.requires.row c.requires.index c.index.result.now
    (get_or_read i.words.items (c.args.row * i.stride + c.args.index) c.index.result.now there c.index.ensures 0)
