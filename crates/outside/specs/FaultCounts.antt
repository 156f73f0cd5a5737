-- The counts of a shelf over files.
use Rattle.std.specs.Prelude.{ℕ}

pub record FaultCounts : Type 0 where
  -- how many loads failed
  pub loads : ℕ
  -- how many saves failed
  pub saves : ℕ

-- no call failed yet
abbrev pub no_faults : FaultCounts
no_faults = record { loads = 0; saves = 0 }
