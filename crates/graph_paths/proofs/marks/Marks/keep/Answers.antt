use Rattle.std.proofs.Common.{false, Bool, List, length, sym, ap, ◌∙◌, subst, arith}
use Rattle.bit_rows.specs.Grid.{is_set, met, row_at}
use Rattle.graph_paths.specs.Table.{AreWide}
use Rattle.graph_paths.proofs.Tables.{wide_met, met_rows}
use Rattle.graph_paths.proofs.PathMarksTables.{met_there}
use Rattle.graph_paths.proofs.marks.Marks.keep.Goals as goal

pub invariant_of-self : goal.invariant_of-self
invariant_of-self c =
    let old = c.args.self.now in
    let rows : List (List Bool) = old.rows in
    let e = c.meet_into-is_new.ensures.met in
    let P : List (List Bool) → Type 0 = λ r. AreWide old.width r in
    record {
      each = ap (λ (r : List (List Bool)). length r) e ∙ met_rows rows c.args.to (met false (row_at rows c.args.from) (row_at rows c.args.to)) ∙ old.each;
      wide = subst P (sym e) (wide_met old.width rows c.args.from c.args.to false (omega (arith, old.each)) (omega (arith, old.each)) old.wide);
    }

pub returns-clause-there : goal.returns-clause-there
returns-clause-there c =
    let old = c.args.self.now in
    λ bit. ap (λ (r : List (List Bool)). is_set r c.args.to bit) c.meet_into-is_new.ensures.met ∙ met_there old.width old.rows c.args.from c.args.to false bit (omega (arith, old.each)) (omega (arith, old.each)) old.wide
