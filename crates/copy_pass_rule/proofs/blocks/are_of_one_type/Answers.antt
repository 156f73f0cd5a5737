use Rattle.std.proofs.Common.{◌≡◌, ap, map, sym, ◌∙◌, true≢false}
use Rattle.std.specs.Prelude.{not}
use Rattle.std.proofs.lemmas.Bool.{eq-eqb, eqb-true}
use Rattle.std.proofs.lemmas.Option.{none-some, same_Some}
use Rattle.graph_core.specs.Graphs.{scalar_view}
use Rattle.copy_pass_rule.proofs.Known.{one_type, source_typed, target_typed}
use Rattle.copy_pass_rule.proofs.blocks.are_of_one_type.Goals as goal

pub returns-then-source-target : goal.returns-then-source-target
returns-then-source-target c =
    let scalars = map scalar_view c.args.scalars.now in (
      (λ e. one_type scalars c.args.target c.args.source c.in-Some-Some.one c.in-Some-Some.other (sym c.type_of.ensures ∙ c.in-Some-Some.is-0) (sym c.type_of-2.ensures ∙ c.in-Some-Some.is-1) c.if-source-target.true (eqb-true _ _ e)),
      (λ s. (let a : c.in-Some-Some.one ≡ s.target.of = same_Some c.in-Some-Some.one s.target.of (sym c.in-Some-Some.is-0 ∙ c.type_of.ensures ∙ target_typed scalars c.args.target c.args.source s) in
          let b : c.in-Some-Some.other ≡ s.source.of = same_Some c.in-Some-Some.other s.source.of (sym c.in-Some-Some.is-1 ∙ c.type_of-2.ensures ∙ source_typed scalars c.args.target c.args.source s) in
          eq-eqb c.in-Some-Some.other c.in-Some-Some.one (b ∙ s.type ∙ sym a))),
    )

pub returns-else-source-target : goal.returns-else-source-target
returns-else-source-target c = ((λ e. absurd (true≢false (sym e ∙ ap not (eq-eqb c.args.source c.args.target c.if-source-target.false)))), (λ s. absurd (s.other c.if-source-target.false)))

pub returns-in_default : goal.returns-in_default
returns-in_default c =
    let scalars = map scalar_view c.args.scalars.now in
    ((λ e. absurd (true≢false (sym e))), (λ s. absurd (none-some s.source.of (sym c.in_default.is-1 ∙ c.type_of-2.ensures ∙ source_typed scalars c.args.target c.args.source s))))

pub returns-in_default-2 : goal.returns-in_default-2
returns-in_default-2 c =
    let scalars = map scalar_view c.args.scalars.now in
    ((λ e. absurd (true≢false (sym e))), (λ s. absurd (none-some s.target.of (sym c.in_default.is-0 ∙ c.type_of.ensures ∙ target_typed scalars c.args.target c.args.source s))))
