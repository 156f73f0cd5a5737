use Rattle.std.proofs.Common.{◌≡◌, ◌≤◌, inl, inr, true, true≢false, Bool, List, length, sym, ap, ◌∙◌, subst, arith}
use Rattle.std.proofs.lemmas.Bool.{cases_lt}
use Rattle.std.proofs.lemmas.List.{length-set}
use Rattle.bit_rows.specs.Grid.{is_set, met, row_at}
use Rattle.graph_paths.specs.Table.{AreWide}
use Rattle.graph_paths.specs.PathMarksTable.{set_in_all}
use Rattle.graph_paths.proofs.Tables.{wide_set, joined_length}
use Rattle.graph_paths.proofs.PathMarksTables.{taken_there}
use Rattle.graph_paths.proofs.Told.{least_told, same_told}
use Rattle.graph_paths.proofs.marks.Marks.add_from.Goals as goal

pub add_from-is_new-requires-clause-width : goal.add_from-is_new-requires-clause-width
add_from-is_new-requires-clause-width c =
    let old = c.args.self.now in
    let other = c.args.other.now in
    other.wide c.args.row (omega (arith, other.each, c.requires.row)) ∙ c.requires.widths ∙ sym (old.wide c.args.to (omega (arith, old.each, c.requires.to)))

pub invariant_of-self : goal.invariant_of-self
invariant_of-self c =
    let old = c.args.self.now in
    let other = c.args.other.now in
    let rows : List (List Bool) = old.rows in
    let e = c.add_from-is_new.ensures.met in
    let new = met true (row_at other.rows c.args.row) (row_at rows c.args.to) in
    let P : List (List Bool) → Type 0 = λ r. AreWide old.width r in
    let there : length (row_at rows c.args.to) ≡ old.width = old.wide c.args.to (omega (arith, old.each, c.requires.to)) in
    let here : length (row_at other.rows c.args.row) ≡ old.width = other.wide c.args.row (omega (arith, other.each, c.requires.row)) ∙ c.requires.widths in
    record {
      each = ap (λ (r : List (List Bool)). length r) e ∙ length-set rows c.args.to new ∙ old.each;
      wide = subst P (sym e) (wide_set old.width rows c.args.to new (joined_length _ (row_at other.rows c.args.row) (row_at rows c.args.to) (here ∙ sym there) ∙ there) old.wide);
    }

pub returns-clause-there : goal.returns-clause-there
returns-clause-there c =
    let old = c.args.self.now in
    let other = c.args.other.now in
    let there : length (row_at old.rows c.args.to) ≡ old.width = old.wide c.args.to (omega (arith, old.each, c.requires.to)) in
    let here : length (row_at other.rows c.args.row) ≡ old.width = other.wide c.args.row (omega (arith, other.each, c.requires.row)) ∙ c.requires.widths in
    λ bit. ap (λ (r : List (List Bool)). is_set r c.args.to bit) c.add_from-is_new.ensures.met ∙ taken_there old.rows c.args.to (row_at other.rows c.args.row) bit (omega (arith, old.each, c.requires.to)) (here ∙ sym there)

pub returns-clause-least : goal.returns-clause-least
returns-clause-least c =
    let old = c.args.self.now in
    let other = c.args.other.now in
    let there : length (row_at old.rows c.args.to) ≡ old.width = old.wide c.args.to (omega (arith, old.each, c.requires.to)) in
    let here : length (row_at other.rows c.args.row) ≡ old.width = other.wide c.args.row (omega (arith, other.each, c.requires.row)) ∙ c.requires.widths in
    subst (λ r. set_in_all old.rows ≤ set_in_all r) (sym c.add_from-is_new.ensures.met) (least_told old.rows c.args.to (row_at other.rows c.args.row) (omega (arith, old.each, c.requires.to)) (here ∙ sym there))

pub returns-clause-more : goal.returns-clause-more
returns-clause-more c = λ q.
    let old = c.args.self.now in
    let other = c.args.other.now in
    let there : length (row_at old.rows c.args.to) ≡ old.width = old.wide c.args.to (omega (arith, old.each, c.requires.to)) in
    let here : length (row_at other.rows c.args.row) ≡ old.width = other.wide c.args.row (omega (arith, other.each, c.requires.row)) ∙ c.requires.widths in
    let e = c.add_from-is_new.ensures.met in
    elim (cases_lt (set_in_all old.rows) (set_in_all c.add_from-is_new.new.self)) [
      | inl less ↦ less
      | inr most ↦ absurd (true≢false (sym q ∙ c.add_from-is_new.ensures.changed.1 (e ∙ same_told old.rows c.args.to (row_at other.rows c.args.row) (omega (arith, old.each, c.requires.to)) (here ∙ sym there)
          (subst (λ r. set_in_all r ≤ set_in_all old.rows) e most))))
    ]
