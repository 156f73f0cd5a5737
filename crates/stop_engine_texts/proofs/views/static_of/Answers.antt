use Rattle.std.proofs.Common.{List, ℕ, sym, ap, ◌∙◌}
use Rattle.std.specs.Prelude.{bytes_eq}
use Rattle.image_form.specs.Views.{viewed}
use Rattle.stop_engine_texts.proofs.VariablesInTurn.{static_here, static_later, static_unlike}
use Rattle.stop_engine_texts.proofs.views.static_of.Goals as goal
use Rattle.stop_engine_texts.proofs.views.static_of.Goals.{else-is_static_before-via-then-is_static_before+else-eq, else-is_static_before-via-else-is_static_before}

pub returns-then-eq-clause-found : goal.returns-then-eq-clause-found
returns-then-eq-clause-found c =
    let m = viewed c.args.image.now in
    let before = sym c.is_static_before.ensures ∙ c.if-is_static_before.true in
    let is = sym (c.eq.ensures ∙ ap (λ (s : List ℕ). bytes_eq s c.args.name.now) c.variable.ensures) ∙ c.if-eq.true in
    sym (static_here m c.args.position c.loop-number.number c.args.name.now c.variable_at-variable.result c.variable_at-variable.ensures before is) ∙ c.loop-number.invariant

pub loop-number-preserved : goal.loop-number-preserved
loop-number-preserved c =
    let m = viewed c.args.image.now in
    let v = c.variable_at-variable.result in
    elim c.else-is_static_before.branch [
      | else-is_static_before-via-then-is_static_before+else-eq w ↦
          let other = sym (w.eq.ensures ∙ ap (λ (s : List ℕ). bytes_eq s c.args.name.now) w.variable.ensures) ∙ w.if-eq.false in
          sym (static_unlike m c.args.position c.loop-number.number c.args.name.now v c.variable_at-variable.ensures other) ∙ c.loop-number.invariant
      | else-is_static_before-via-else-is_static_before w ↦
          let later = sym c.is_static_before.ensures ∙ w.if-is_static_before.false in
          sym (static_later m c.args.position c.loop-number.number c.args.name.now v c.variable_at-variable.ensures later) ∙ c.loop-number.invariant
    ]
