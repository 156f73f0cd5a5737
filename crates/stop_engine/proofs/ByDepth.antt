-- Where the commands halt that go by the depth of a stop.
use Rattle.std.proofs.Common.{◌≡◌, ℕ, true, false, Option, Some, None, List, refl, ap, ◌∙◌}
use Rattle.rv_machine.specs.State.{MachineState}
use Rattle.stop_engine.specs.declared.halt.Halt.{Halt}
use Rattle.stop_engine.specs.declared.halt.Halt.TheVariants.{At, Exited, Depth, Fault}
use Rattle.stop_engine.specs.declared.halt.Halt.TheVariants.{Limit as Limited}
use Rattle.stop_engine.specs.declared.run.Stop.{Stop}
use Rattle.stop_engine.specs.EngineState.{RunState}
use Rattle.stop_engine.specs.Halting.{halted_at}
use Rattle.stop_engine.specs.Stopping.{IsAtNoStop, IsStopOf, depth_at, is_fresh}
use Rattle.stop_engine.specs.Transcript.{Aim, AnyStop, OneOf, Within, Position, Fresh, Standing, Over, below, finish_aim, next_aim}
use Rattle.stop_engine_view.specs.Reading.{depth}

-- the depth of a stop
pub stop_depth : (r : RunState) (stop : Stop) (d : ℕ) → IsStopOf r stop → d ≡ depth stop.machine.now → Some d ≡ depth_at r.position
stop_depth r stop d is e = rw (is.position, e) refl

pub no_depth : (p : Position) → IsAtNoStop p → None ≡ depth_at p
no_depth Fresh is = refl
no_depth (Standing s) is = absurd is
no_depth (Over e) is = refl

-- a run that halted has come to a halt
pub halted_once : (h : Halt) (s : MachineState) → false ≡ is_fresh (halted_at h s)
halted_once (At place d) s = refl
halted_once (Exited status) s = refl
halted_once Depth s = refl
halted_once (Fault address) s = refl
halted_once Limited s = refl

-- ---- `next`

pub next_within : (p : Position) (marks : List ℕ) (d : ℕ) → Some d ≡ depth_at p → Within d marks ≡ next_aim marks p
next_within Fresh marks d is = absurd cc
next_within (Standing s) marks d is =
    let same : d ≡ depth s = cc in
    ap (λ most. Within most marks) same
next_within (Over e) marks d is = absurd cc

pub next_any : (p : Position) (marks : List ℕ) → None ≡ depth_at p → AnyStop ≡ next_aim marks p
next_any Fresh marks is = refl
next_any (Standing s) marks is = absurd cc
next_any (Over e) marks is = refl

-- ---- `finish`

pub finish_fresh : (p : Position) (marks : List ℕ) → true ≡ is_fresh p → None ≡ finish_aim marks p
finish_fresh Fresh marks is = refl
finish_fresh (Standing s) marks is = absurd cc
finish_fresh (Over e) marks is = absurd cc

pub finish_below : (p : Position) (marks : List ℕ) (d : ℕ) (aim : Aim) → Some d ≡ depth_at p → aim ≡ below d marks → Some aim ≡ finish_aim marks p
finish_below Fresh marks d aim is e = absurd cc
finish_below (Standing s) marks d aim is e =
    let same : d ≡ depth s = cc in
    ap Some (e ∙ ap (λ d. below d marks) same)
finish_below (Over x) marks d aim is e = absurd cc

pub finish_over : (p : Position) (marks : List ℕ) → false ≡ is_fresh p → None ≡ depth_at p → Some (OneOf marks) ≡ finish_aim marks p
finish_over Fresh marks begun is = absurd cc
finish_over (Standing s) marks begun is = absurd cc
finish_over (Over e) marks begun is = refl
