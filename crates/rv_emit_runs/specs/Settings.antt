-- Code where scratch registers hold other constants, and registers that are left as they are.
use Rattle.std.specs.Prelude.{◌≢◌, ℕ, ◌<◌, ◌⊎◌, List, [], ◌∷◌}
use Rattle.rv_emit_words.specs.declared.piece.Held.{Held}
use Rattle.rv_emit_steps.specs.EmitMovesDoing.{IsLeft}
use Rattle.rv_emit_steps.specs.Frames.{Setting, IsScratch}

-- The same code where scratch registers hold these constants.
abbrev pub with_held : List Held → Setting → Setting
with_held held w = record w { held = held }

-- A register is none of t0 to t2, s0 and a0 to a7.
pub record IsKept (q : ℕ) : Type 0 where
  pub left : IsLeft q
  pub s0 : q ≢ 8
  pub arguments : (q < 10) ⊎ (17 < q)

-- Constants that are to be held: each a word, in a scratch register.
abbrev pub AreLoads : List Held → Type 0
AreLoads [] = Unit {0}
AreLoads (x ∷ more) = IsScratch x.register × (x.word < 4294967296) × AreLoads more
