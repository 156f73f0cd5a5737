-- What a step of the innermost activation leaves as it was.
use Rattle.std.specs.Prelude.{◌≡◌, ℕ, Option, Some, None, List}
use Rattle.graph_core.specs.Graphs.{Instruction, Marker, Note, Move, Operate, Truncate, Same, Address, Load, Store, Zero, CopyWords, Call}
use Rattle.graph_core.specs.Paths.{Among}
use Rattle.graph_core.specs.Runs.{Configuration}
use Rattle.graph_homes.specs.declared.home.Home.{Home}
use Rattle.graph_homes.specs.declared.home.Home.TheVariants.{Register, Slot}
use Rattle.graph_homes.specs.Homed.{IsHomeAmong}
use Rattle.rv_emit_steps.specs.Holding.{Holding}
use Rattle.rv_emit_steps.specs.Frames.{Setting, IsOutside, IsNoTarget}
use Rattle.rv_emit_runs.specs.Settings.{IsKept}

-- The home that is written, if one is, is one of the function's.
abbrev pub IsTargetAmong : (slots : ℕ) → Option Home → Type 0
IsTargetAmong slots None = Unit {0}
IsTargetAmong slots (Some home) = IsHomeAmong slots home

-- A register that is written is one that the frame keeps for the caller.
abbrev pub IsSaved : (saved : List ℕ) → Option Home → Type 0
IsSaved saved None = Unit {0}
IsSaved saved (Some (Register r)) = Among r saved
IsSaved saved (Some (Slot k)) = Unit {0}

-- Behind words that do a step registers are as they were, but the home that is written, t0 to t2, s0 and a0 to a7, and
-- memory outside of the slots and of the words of live objects.
pub record LeavesRest (w : Setting) (c : Configuration) (h t : Holding) (target : Option Home) : Type 0 where
  pub registers : (q : ℕ) → IsNoTarget target q → IsKept q → t.registers q ≡ h.registers q
  pub memory : (b : ℕ) → IsOutside w c h b → t.memory b ≡ h.memory b

-- An instruction is no call.
abbrev pub IsNoCall : Instruction → Type 0
IsNoCall (Marker p) = Unit {0}
IsNoCall (Note x v) = Unit {0}
IsNoCall (Move x a) = Unit {0}
IsNoCall (Operate x op a b) = Unit {0}
IsNoCall (Truncate x t a) = Unit {0}
IsNoCall (Same x a b) = Unit {0}
IsNoCall (Address x object) = Unit {0}
IsNoCall (Load x e l) = Unit {0}
IsNoCall (Store e l a) = Unit {0}
IsNoCall (Zero object words) = Unit {0}
IsNoCall (CopyWords object bytes words) = Unit {0}
IsNoCall (Call target f all) = ⊥
