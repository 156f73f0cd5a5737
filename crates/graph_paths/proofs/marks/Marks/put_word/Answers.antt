use Rattle.std.proofs.Common.{◌≡◌, ◌+◌, ◌*◌, Bool, List, length, sym, ap, ◌∙◌, subst, arith}
use Rattle.std.proofs.lemmas.List.{length-set}
use Rattle.bit_rows.specs.Grid.{is_set, row_at, with_word}
use Rattle.graph_paths.specs.Table.{AreWide}
use Rattle.graph_paths.proofs.Tables.{wide_set}
use Rattle.graph_paths.proofs.PathMarksTables.{word_length, word_there, word_others}
use Rattle.graph_paths.proofs.marks.Marks.put_word.Goals as goal

pub put_word-requires-clause-index : goal.put_word-requires-clause-index
put_word-requires-clause-index c = let m = c.args.self.now in omega (arith, m.wide c.args.row (omega (arith, m.each, c.requires.row)), c.requires.index)

pub invariant_of-self : goal.invariant_of-self
invariant_of-self c =
    let old = c.args.self.now in
    let rows : List (List Bool) = old.rows in
    let e = c.put_word.ensures in
    let P : List (List Bool) → Type 0 = λ r. AreWide old.width r in
    let here : length (row_at rows c.args.row) ≡ old.width = old.wide c.args.row (omega (arith, old.each, c.requires.row)) in
    let new = with_word (row_at rows c.args.row) c.args.index c.args.word in
    record {
      each = ap (λ (r : List (List Bool)). length r) e ∙ length-set rows c.args.row new ∙ old.each;
      wide = subst P (sym e) (wide_set old.width rows c.args.row new (word_length (row_at rows c.args.row) c.args.index c.args.word ∙ here) old.wide);
    }

pub returns-clause-there : goal.returns-clause-there
returns-clause-there c =
    let old = c.args.self.now in
    let here : length (row_at old.rows c.args.row) ≡ old.width = old.wide c.args.row (omega (arith, old.each, c.requires.row)) in
    λ k lt. ap (λ (r : List (List Bool)). is_set r c.args.row (64 * c.args.index + k)) c.put_word.ensures ∙ word_there old.rows c.args.row c.args.index c.args.word k (omega (arith, old.each, c.requires.row)) (omega (arith, here, c.requires.index)) lt

pub returns-clause-bits : goal.returns-clause-bits
returns-clause-bits c =
    let old = c.args.self.now in
    λ bit ne. ap (λ (r : List (List Bool)). is_set r c.args.row bit) c.put_word.ensures ∙ word_others old.rows c.args.row c.args.index c.args.word bit (omega (arith, old.each, c.requires.row)) ne
