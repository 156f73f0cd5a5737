use Rattle.std.proofs.Common.{◌≡◌, Some, None, sym, ap, ◌∙◌, subst}
use Rattle.std.specs.Prelude.{slice_get}
use Rattle.std.proofs.lemmas.Option.{none-some}
use Rattle.motion_pass_points.specs.Columns.{number_at}
use Rattle.motion_pass_problems.specs.Inner.{point_at}
use Rattle.motion_pass_placement.specs.Columns.{row_of}
use Rattle.motion_pass_placement.specs.Placed.{IsActed, all_of, moved_by, reached_by, stays_by, temporary_of}
use Rattle.motion_pass_placement.proofs.Acted.{keep_staying, keep_unnumbered, moved_rule, no_number_there, reached_there, told_so}
use Rattle.motion_pass_placement.proofs.placement.Placement.action.Goals as goal

pub returns-in_default-clause-by_rule : goal.returns-in_default-clause-by_rule
returns-in_default-clause-by_rule c = λ g is b at inside come.
    (let p = c.args.self.now in
    let told = told_so g p is in
    let comes = reached_there g.blocks (reached_by p) (all_of p) p.numbers.items p.fates.items told c.args.block b at c.args.index come in
    let row_is = c.row_at-row.ensures ∙ ap (λ rows. row_of rows c.args.block) c.deref.ensures.value in
    let none : number_at (row_of p.numbers.items c.args.block) c.args.index ≡ None = sym (c.number_in_row.ensures ∙ ap (λ row. number_at row c.args.index) row_is) ∙ c.in_default.is in
    keep_unnumbered g.blocks (reached_by p) (all_of p) p.numbers.items p.fates.items told c.args.block b at c.args.index comes inside none)

pub returns-then-stays-clause-by_rule : goal.returns-then-stays-clause-by_rule
returns-then-stays-clause-by_rule c = λ g is b at inside come.
    (let p = c.args.self.now in
    let told = told_so g p is in
    let comes = reached_there g.blocks (reached_by p) (all_of p) p.numbers.items p.fates.items told c.args.block b at c.args.index come in
    let row_is = c.row_at-row.ensures ∙ ap (λ rows. row_of rows c.args.block) c.deref.ensures.value in
    let numbered : number_at (row_of p.numbers.items c.args.block) c.args.index ≡ Some c.in-Some.number = sym (c.number_in_row.ensures ∙ ap (λ row. number_at row c.args.index) row_is) ∙ c.in-Some.is in
    keep_staying g.blocks (reached_by p) (all_of p) p.numbers.items p.fates.items told c.args.block b at c.args.index comes inside c.in-Some.number numbered (ap stays_by (sym c.fate_of-fate.ensures) ∙ sym c.stays.ensures ∙ c.if-stays.true))

pub returns-clause-by_rule : goal.returns-clause-by_rule
returns-clause-by_rule c = λ g is b at inside come.
    (let p = c.args.self.now in
    let comes = reached_there g.blocks (reached_by p) (all_of p) p.numbers.items p.fates.items (told_so g p is) c.args.block b at c.args.index come in
    let row_is = c.row_at-row.ensures ∙ ap (λ rows. row_of rows c.args.block) c.deref.ensures.value in
    let numbered : number_at (row_of p.numbers.items c.args.block) c.args.index ≡ Some c.in-Some.number = sym (c.number_in_row.ensures ∙ ap (λ row. number_at row c.args.index) row_is) ∙ c.in-Some.is in
    subst (λ a. IsActed g.blocks p (point_at c.args.block b c.args.index) a)
    (sym (c.moved.ensures ∙ ap (λ f. moved_by (slice_get p.computations.all.items c.in-Some.number) (temporary_of p.temporaries.items c.in-Some.number) f.is_late) c.fate_of-fate.ensures))
    (moved_rule g p is c.args.block b at c.args.index comes inside c.in-Some.number numbered (ap stays_by (sym c.fate_of-fate.ensures) ∙ sym c.stays.ensures ∙ c.if-stays.false)))

pub returns-clause-nowhere : goal.returns-clause-nowhere
returns-clause-nowhere c = λ g is b at never.
    (let p = c.args.self.now in
    let row_is = c.row_at-row.ensures ∙ ap (λ rows. row_of rows c.args.block) c.deref.ensures.value in
    let numbered : number_at (row_of p.numbers.items c.args.block) c.args.index ≡ Some c.in-Some.number = sym (c.number_in_row.ensures ∙ ap (λ row. number_at row c.args.index) row_is) ∙ c.in-Some.is in
    absurd (none-some c.in-Some.number (sym (no_number_there g.blocks (reached_by p) (all_of p) p.numbers.items p.fates.items (told_so g p is) c.args.block b at c.args.index never) ∙ numbered)))
