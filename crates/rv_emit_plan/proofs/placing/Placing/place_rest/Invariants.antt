use Rattle.std.proofs.Common.{◌≡◌, ◌<◌, ℕ, get_or, true}
use Rattle.rv_emit_plan.specs.Orders.{placing_view, Grows}
use Rattle.rv_emit_plan.proofs.placing.Placing.place_rest.Given as goal

abbrev pub invariant-loop-block : goal.invariant-loop-block
invariant-loop-block l = record { grown : Grows (placing_view l.fn.self) (placing_view l.self); all : (n : ℕ) → n < l.block → get_or l.self.is_placed.items n true ≡ true }
