use Rattle.std.proofs.Common.{List, inl, inr, ap, subst, sym}
use Rattle.std.specs.Prelude.{All, Contains}
use Rattle.std.proofs.lemmas.List.Elements.{All-push, Contains-push, Contains-push_cases}
use Rattle.currency_hiding.specs.declared.causes.Via as declared-via
use Rattle.currency_hiding.specs.Found.{IsWayBy}
use Rattle.currency_hiding.proofs.First.{via_some}
use Rattle.currency_hiding.proofs.causes.add_via.Goals as goal

pub returns-clause-each : goal.returns-clause-each
returns-clause-each c =
    (let one : declared-via.Via = record { start = c.in-Some.start; place = c.args.write.place; writer = c.args.write.number } in
    subst (λ (l : List declared-via.Via). All (λ (v : declared-via.Via). IsWayBy c.args.search.now v) l) (sym c.in_ok-push.ensures.items) (All-push (λ (v : declared-via.Via). IsWayBy c.args.search.now v) c.args.vias.now.items one c.requires.each c.in-Some.ensures))

pub returns-in_default-clause-only : goal.returns-in_default-clause-only
returns-in_default-clause-only c = λ v there. inl there

pub returns-clause-only : goal.returns-clause-only
returns-clause-only c = λ v there.
    (let one : declared-via.Via = record { start = c.in-Some.start; place = c.args.write.place; writer = c.args.write.number } in
    elim (Contains-push_cases c.args.vias.now.items one v (subst (λ (l : List declared-via.Via). Contains l v) c.in_ok-push.ensures.items there)) [
      | inl e ↦ inl e
      | inr e ↦ inr (sym (ap (λ (z : declared-via.Via). z.place) e), sym (ap (λ (z : declared-via.Via). z.writer) e))
    ])

pub returns-clause-there : goal.returns-clause-there
returns-clause-there c =
    (let one : declared-via.Via = record { start = c.in-Some.start; place = c.args.write.place; writer = c.args.write.number } in
    via_some c.args.search.now c.push.new.self.items c.args.write c.in-Some.start c.in-Some.ensures (subst (λ (l : List declared-via.Via). Contains l one) (sym c.in_ok-push.ensures.items) (Contains-push c.args.vias.now.items one)))
