-- Plans of code: an order of blocks, and what scratch registers hold where blocks begin.
use Rattle.std.specs.Prelude.{◌≡◌, ℕ, ◌<◌, ◌≤◌, ◌⊎◌, List, [], slice_get}
use Rattle.std.specs.Option.{option_map_or}
use Rattle.std.specs.List.{AllByRecursion}
use Rattle.rv_emit_words.specs.declared.piece.Held.{Held}
use Rattle.rv_emit_plan.specs.declared.choice.Holding.{Holding}
use Rattle.rv_emit_plan.specs.declared.planning.Plan.{Plan}
pub use Rattle.rv_emit_plan.specs.Orders.{AreOnce, IsOrder}

-- A register that may hold a constant: s0, or one of a1 to a7.
abbrev pub MayHold : (register : ℕ) → Type 0
MayHold r = (r ≡ 8) ⊎ ((11 ≤ r) × (r ≤ 17))

-- A constant is a word in such a register.
pub record IsConstant (x : Held) : Type 0 where
  pub register : MayHold x.register
  pub word : x.word < 4294967296

abbrev pub AreConstants : List Held → Type 0
AreConstants held = AllByRecursion IsConstant held

-- What regions hold is constants.
abbrev pub AreChosen : List Holding → Type 0
AreChosen all = AllByRecursion (λ h. IsConstant h.held) all

-- What a block holds by a plan: nothing where the plan does not have the block.
abbrev pub held_at : Plan → (block : ℕ) → List Held
held_at p n = option_map_or (λ held. held.items) (slice_get p.held.items n) []

-- Each block holds constants, and block 0 holds none.
pub record HoldsWell (p : Plan) : Type 0 where
  pub constants : (n : ℕ) → AreConstants (held_at p n)
  pub start : held_at p 0 ≡ []
