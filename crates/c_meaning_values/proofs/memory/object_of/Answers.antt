use Rattle.std.proofs.Common.{◌≡◌, Some, ◌+◌, ◌∙◌, sym, ap, arith}
use Rattle.std.specs.Prelude.{option_map}
use Rattle.c_meaning_values.specs.Views.{owner_view}
use Rattle.c_meaning_values.proofs.ByNumber.{owned_here, owned_later, one_further}
use Rattle.c_meaning_values.proofs.memory.object_of.Goals as goal

pub returns-then-is_owned : goal.returns-then-is_owned
returns-then-is_owned c =
    let here = owned_here (owner_view c.args.owner) c.args.memory.now c.loop-n.n c.index-memory-n.result (omega (arith, c.loop-n-test.true)) c.index-memory-n.is (sym c.if-is_owned.ensures) in
    let same : c.loop-n.n ≡ c.loop-n.n + 0 = omega arith in
    ap Some same ∙ sym (ap (option_map (λ k. c.loop-n.n + k)) here) ∙ c.loop-n.invariant

pub loop-n-preserved : goal.loop-n-preserved
loop-n-preserved c =
    let later = owned_later (owner_view c.args.owner) c.args.memory.now c.loop-n.n c.index-memory-n.result (omega (arith, c.loop-n-test.true)) c.index-memory-n.is (sym c.if-is_owned.ensures) in
    sym (ap (option_map (λ k. c.loop-n.n + k)) later ∙ one_further c.loop-n.n _) ∙ c.loop-n.invariant
