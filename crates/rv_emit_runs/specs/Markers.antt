-- The code of markers, and what it is to do.
use Rattle.std.specs.Prelude.{◌≡◌, ℕ, ◌+◌, Bool, true, false, if◌then◌else◌, List, [], ◌∷◌, length, map}
use Rattle.rv_code.specs.declared.instruction.Instruction.{Instruction}
use Rattle.rv_code.specs.declared.instruction.Instruction.TheVariants.{Immediate}
use Rattle.rv_code.specs.declared.instruction.ImmediateOperation.TheVariants.{Addi}
use Rattle.rv_machine.specs.State.{MachineState}
use Rattle.rv_machine.specs.Run.{Arrival}
use Rattle.graph_core.specs.Runs.{Configuration, Event, Stop, Stepped, Goes, Shows, Ends, Wild, frame as shown_frame}
use Rattle.rv_emit_steps.specs.Holding.{Holding}
use Rattle.rv_emit_steps.specs.Programs.{Program}
use Rattle.rv_emit_steps.specs.Points.{Reaches}
use Rattle.rv_emit_steps.specs.Frames.{Setting, HoldsFrame}

-- A place that is a stop and has no word yet, where another begins, gets one that does nothing.
abbrev pub marking_code : (begins : Bool) → List Instruction
marking_code begins = if begins then Immediate Addi 0 0 0 ∷ [] else []

-- The machine comes to the word behind and shows an arrival at it, in the state in which it is there; the unit shows
-- the stop at which its configuration is, of which the machine holds the frame.
pub record StopShown (p : Program) (s : MachineState) (index : ℕ) (b : Bool) (w : Setting) (h : Holding) (e : Event)
    (d : Configuration) : Type 0 where
  pub state : MachineState
  pub reaches : Reaches p (length (marking_code b)) (record {
    state = s;
    shown = b;
  }) (Arrival state ∷ []) (index + length (marking_code b)) true h
  pub is : reaches.state ≡ state
  pub frame : HoldsFrame w d h
  pub event : e ≡ Stop (shown_frame d.here ∷ map shown_frame d.waiting) d.memory

-- The code of a marker does the unit's step: nothing is shown, or a stop by both.
abbrev pub DoesMarker : Program → MachineState → (index : ℕ) → (stops : Bool) → Setting → Holding → Stepped → Type 0
DoesMarker p s i b w h (Goes d) =
    Reaches p (length (marking_code b)) (record {
      state = s;
      shown = b;
    }) [] (i + length (marking_code b)) false h × HoldsFrame w d h
DoesMarker p s i b w h (Shows e d) = StopShown p s i b w h e d
DoesMarker p s i b w h (Ends e) = ⊥
DoesMarker p s i b w h Wild = ⊥
