use Rattle.std.proofs.Common.{◌≡◌, ℕ, ◌+◌, ◌==◌, cond, rules, true, ap, ◌∙◌, arith, sym, subst}
use Rattle.bit_rows.specs.Grid.{is_set}
use Rattle.graph_solve.specs.Rows.{AreSameElsewhere}
use Rattle.graph_solve.proofs.RowSets.{bit_elsewhere}
use Rattle.home_assign.proofs.Bits.{bit_written}
use Rattle.home_assign.proofs.Spare.{bit_same}
use Rattle.home_assign.proofs.Taking.{name_row, two_same, two_each, two_wide, two_taken, two_gathered, two_only}
use Rattle.home_assign.proofs.registers.Interference.take.Goals as goal

pub invariant_of-self : goal.invariant_of-self
invariant_of-self c =
    let old = c.args.self.now in
    let register = c.args.register in
    let name = c.args.name in
    let here = old.names + (1 + register) in
    let first = c.set.new.self in
    let new = c.meet-changed.new.rows in
    let e1 : AreSameElsewhere here old.rows first = subst (AreSameElsewhere here old.rows) (sym c.set.ensures) (bit_elsewhere old.rows here name (omega (arith, old.each, c.requires.register)) true) in
    let h1 : (y : ℕ) → is_set first here y ≡ cond (name == y) true (is_set old.rows here y) = λ y. ap (λ rows. is_set rows here y) c.set.ensures ∙ bit_written old.rows here name true (omega (arith, old.each, c.requires.register)) (omega (arith, old.wide here (omega (arith, old.each, c.requires.register)), c.requires.name)) y in
    let e2 = c.meet-changed.ensures.elsewhere in
    let h2 = c.meet-changed.ensures.here in
    let same = two_same old.names register name old.rows first new c.requires.register c.requires.name old.each old.wide e1 h1 e2 h2 in
    record {
      few = old.few;
      each = two_each old.names register name old.rows first new c.requires.register c.requires.name old.each old.wide e1 h1 e2 h2;
      wide = two_wide old.names register name old.rows first new c.requires.register c.requires.name old.each old.wide e1 h1 e2 h2;
      spare = λ y. bit_same old.rows new (old.names + 32) (same (old.names + 32) (λ q. omega (arith, q, c.requires.register)) (λ q. omega (arith, q, c.requires.register))) y ∙ old.spare y;
      none = λ y. bit_same old.rows new (old.names + 33) (same (old.names + 33) (λ q. omega (arith, q, c.requires.register)) (λ q. omega (arith, q, c.requires.register))) y ∙ old.none y;
      gathered = two_gathered old.names register name old.rows first new c.requires.register c.requires.name old.each old.wide e1 h1 e2 h2 old.gathered;
      only = two_only old.names register name old.rows first new c.requires.register c.requires.name old.each old.wide e1 h1 e2 h2 old.only;
    }

pub returns-clause-clashes : goal.returns-clause-clashes
returns-clause-clashes c =
    let old = c.args.self.now in
    let register = c.args.register in
    let name = c.args.name in
    let here = old.names + (1 + register) in
    let first = c.set.new.self in
    let e1 : AreSameElsewhere here old.rows first = subst (AreSameElsewhere here old.rows) (sym c.set.ensures) (bit_elsewhere old.rows here name (omega (arith, old.each, c.requires.register)) true) in
    let h1 : (y : ℕ) → is_set first here y ≡ cond (name == y) true (is_set old.rows here y) = λ y. ap (λ rows. is_set rows here y) c.set.ensures ∙ bit_written old.rows here name true (omega (arith, old.each, c.requires.register)) (omega (arith, old.wide here (omega (arith, old.each, c.requires.register)), c.requires.name)) y in
    record {
      count = search rules;
      same = λ x y lt. name_row old.names register name old.rows first c.meet-changed.new.rows c.requires.register c.requires.name old.each old.wide e1 h1 c.meet-changed.ensures.elsewhere c.meet-changed.ensures.here x lt y;
    }

pub returns-clause-taken : goal.returns-clause-taken
returns-clause-taken c =
    let old = c.args.self.now in
    let register = c.args.register in
    let name = c.args.name in
    let here = old.names + (1 + register) in
    let first = c.set.new.self in
    let e1 : AreSameElsewhere here old.rows first = subst (AreSameElsewhere here old.rows) (sym c.set.ensures) (bit_elsewhere old.rows here name (omega (arith, old.each, c.requires.register)) true) in
    let h1 : (y : ℕ) → is_set first here y ≡ cond (name == y) true (is_set old.rows here y) = λ y. ap (λ rows. is_set rows here y) c.set.ensures ∙ bit_written old.rows here name true (omega (arith, old.each, c.requires.register)) (omega (arith, old.wide here (omega (arith, old.each, c.requires.register)), c.requires.name)) y in
    two_taken old.names register name old.rows first c.meet-changed.new.rows c.requires.register c.requires.name old.each old.wide e1 h1 c.meet-changed.ensures.elsewhere c.meet-changed.ensures.here
