use Rattle.std.proofs.Common.{◌≡◌, ℕ, Some, false, true≢false, refl, sym, map}
use Rattle.std.specs.Prelude.{slice_get}
use Rattle.std.proofs.lemmas.Bool.{eq-eqb, eqb-true}
use Rattle.std.proofs.lemmas.Option.{MatchOption-at_none}
use Rattle.graph_core.specs.Graphs.{Move, Name, instruction_view, scalar_view}
use Rattle.copy_pass_rule.specs.declared.copies.CopyAt.{CopyAt}
use Rattle.copy_pass_rule.specs.Copying.{AreOfOneType}
use Rattle.copy_pass_rule.specs.Flow.{stands_at}
use Rattle.copy_pass_rule.specs.Known.{IsNoCopy}
use Rattle.copy_pass_rule.specs.Numbered.{IsOnlyOne}
use Rattle.copy_pass_rule.proofs.Known.{known_by, known_none, none_stands, of_known, stands_alone}
use Rattle.copy_pass_rule.proofs.blocks.is_known.Goals as goal

pub returns-in-None-None : goal.returns-in-None-None
returns-in-None-None c = (
  (λ e.
      known_none (map scalar_view c.args.scalars.now) c.args.copies.now.all.now c.args.block c.args.left (instruction_view c.args.instruction.now)
      (MatchOption-at_none ((k : ℕ) (d : CopyAt) → slice_get c.args.copies.now.all.now k ≡ Some d → stands_at d c.args.block c.args.left ≡ false) (λ k. IsOnlyOne c.args.copies.now.all.now c.args.block c.args.left k) c.in-None-None.is-0 c.at.ensures)
      c.in-None-None.ensures),
  (λ known. refl),
)

pub returns-then-copy-target : goal.returns-then-copy-target
returns-then-copy-target c = (
  (λ e.
      known_by (map scalar_view c.args.scalars.now) c.args.copies.now.all.now c.args.block c.args.left (instruction_view c.args.instruction.now) c.in-Some-Some.k c.in-Some-Some.ensures c.in-Some-Some.target c.in-Some-Some.source (c.in-Some-Some.ensures').0 (c.in-Some-Some.ensures').1 _
      c.if-copy-target.true (eqb-true _ _ e)),
  (λ known. eq-eqb _ _
      (of_known (map scalar_view c.args.scalars.now) c.args.copies.now.all.now c.args.block c.args.left (instruction_view c.args.instruction.now) c.in-Some-Some.k c.in-Some-Some.ensures c.in-Some-Some.target c.in-Some-Some.source (c.in-Some-Some.ensures').0 (c.in-Some-Some.ensures').1 _ known).1),
)

pub returns-in_default-2 : goal.returns-in_default-2
returns-in_default-2 c =
    let scalars = map scalar_view c.args.scalars.now in
    let i = instruction_view c.args.instruction.now in
    let none = MatchOption-at_none (IsNoCopy scalars i) (λ pair. (i ≡ Move pair.0 (Name pair.1)) × AreOfOneType scalars pair.0 pair.1)
    c.in_default.is-1 c.copy_of.ensures in (
      (λ e. absurd (true≢false (sym e))),
      (λ known. absurd (stands_alone scalars c.args.copies.now.all.now c.args.block c.args.left i c.in_default.field-0-0
          c.in_default.ensures none known)),
    )
