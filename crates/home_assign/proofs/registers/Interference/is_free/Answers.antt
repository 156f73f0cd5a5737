use Rattle.std.proofs.Common.{◌+◌, true≢false, sym, ◌∙◌}
use Rattle.std.proofs.lemmas.Bool.{not-true, not_from_false, false_from_ne_true, cases_lt}
use Rattle.std.proofs.Common.{inl, inr}
use Rattle.home_assign.proofs.Tables.{past_clear}
use Rattle.home_assign.proofs.registers.Interference.is_free.Goals as goal

pub returns-clause-free : goal.returns-clause-free
returns-clause-free c =
    let old = c.args.self.now in
    let r = c.args.register in
    let x = c.args.name in (
      (λ t y has. (
        c.meets.ensures.common.0 (not-true c.meets.result t) y has,
        false_from_ne_true _ (λ bit. elim (cases_lt y old.names) [
          | inl lt ↦ true≢false (sym (old.gathered r y x c.requires.register lt has bit) ∙ sym c.get.ensures ∙ c.if-get.false)
          | inr past ↦ true≢false (sym has ∙ past_clear old.names old.rows old.wide (old.names + (1 + r)) y past)
        ]),
      )),
      (λ free. not_from_false c.meets.result (c.meets.ensures.common.1 (λ y has. (free y has).0))),
    )
