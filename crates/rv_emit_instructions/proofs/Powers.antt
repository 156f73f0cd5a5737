-- The search for the number of which a word is the power of two.
use Rattle.std.proofs.Common.{◌≡◌, ◌≢◌, ℕ, suc, ◌+◌, ◌-◌, ◌*◌, ◌%◌, ◌^◌, ◌<◌, ap, ◌∙◌, sym, arith, Option, Some, cond, true, false}
use Rattle.std.specs.Prelude.{◌==◌}
use Rattle.std.proofs.lemmas.Bool.{eq-eqb, ne_eqb}
use Rattle.std.proofs.lemmas.Nat.{one_shl}
use Rattle.rv_emit_instructions.specs.Operations.{power_from}

pub power_next : (e w : ℕ) → e < 32 → w ≢ 2 ^ e → power_from e (32 - e) w ≡ power_from (e + 1) (32 - (e + 1)) w
power_next e w low is_not =
    let more : 32 - e ≡ suc (32 - (e + 1)) = omega arith in
    ap (λ n. power_from e n w) more ∙ ap (λ b. cond b (Some e) (power_from (e + 1) (32 - (e + 1)) w)) (ne_eqb w (2 ^ e) is_not)
