use Rattle.std.proofs.Common.{◌+◌, ◌*◌, ◌/◌, true, ap, ◌∙◌, arith}
use Rattle.std.proofs.lemmas.List.{get_or_read}
use Rattle.bit_rows.specs.Grid.{with_bit}
use Rattle.bit_rows.proofs.Bits.{bit_within, word_within, row_within, is_set_there, still_rows, rows_put}
use Rattle.bit_rows.proofs.rows.Rows.set.Goals as goal

pub index_mut-requires : goal.index_mut-requires
index_mut-requires c = let i = c.self.inside in omega (arith, word_within i.words.items i.stride i.width i.rows c.self.invariant c.args.self.now c.self.view_is c.args.row c.requires.row c.args.bit c.requires.bit)

pub invariant_of-self : goal.invariant_of-self
invariant_of-self c =
    let i = c.self.inside in
    let within = bit_within i.words.items i.stride i.width i.rows c.self.invariant c.args.self.now c.self.view_is c.args.row c.requires.row c.args.bit c.requires.bit in
    let room = c.self.invariant.room in
    let word = word_within i.words.items i.stride i.width i.rows c.self.invariant c.args.self.now c.self.view_is c.args.row c.requires.row c.args.bit c.requires.bit in
    still_rows i.words.items i.stride i.width i.rows c.self.invariant _ c.args.row c.args.bit true (row_within i.words.items i.stride i.width i.rows c.self.invariant c.args.self.now c.self.view_is c.args.row c.requires.row) within
    (is_set_there i.words.items i.stride c.args.row c.args.bit c.index_mut.result.now (omega arith) word (get_or_read i.words.items (c.args.row * i.stride + c.args.bit / 64) c.index_mut.result.now word c.index_mut.ensures.value 0))

pub returns : goal.returns
returns c =
    let i = c.self.inside in
    let within = bit_within i.words.items i.stride i.width i.rows c.self.invariant c.args.self.now c.self.view_is c.args.row c.requires.row c.args.bit c.requires.bit in
    let room = c.self.invariant.room in
    let word = word_within i.words.items i.stride i.width i.rows c.self.invariant c.args.self.now c.self.view_is c.args.row c.requires.row c.args.bit c.requires.bit in
    rows_put i.words.items i.stride i.width i.rows c.self.invariant _ c.args.row c.args.bit true (row_within i.words.items i.stride i.width i.rows c.self.invariant c.args.self.now c.self.view_is c.args.row c.requires.row) within
    (is_set_there i.words.items i.stride c.args.row c.args.bit c.index_mut.result.now (omega arith) word (get_or_read i.words.items (c.args.row * i.stride + c.args.bit / 64) c.index_mut.result.now word c.index_mut.ensures.value 0))
    ∙ ap (λ all. with_bit all c.args.row c.args.bit true) c.self.view_is
