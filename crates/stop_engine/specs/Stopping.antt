-- The stop at which a run stands.
use Rattle.std.specs.Prelude.{◌≡◌, ℕ, Bool, true, false, Option, Some, None}
use Rattle.image_form.specs.Views.{viewed}
use Rattle.image_form.specs.Rules.{IsImage}
use Rattle.image_form.specs.RulesOfFunctions.{IsPlaceNumber}
use Rattle.stop_engine.specs.declared.run.Stop.{Stop}
use Rattle.stop_engine.specs.EngineState.{RunState}
use Rattle.stop_engine_view.specs.Reading.{depth, place_at}
use Rattle.stop_engine.specs.Transcript.{Position, Fresh, Standing, Over}

-- The run stands at this stop, of its image, with the machine in its state.
pub record IsStopOf (r : RunState) (stop : Stop) : Type 0 where
  pub image : viewed stop.image ≡ r.form
  pub valid : IsImage (viewed stop.image)
  pub position : r.position ≡ Standing stop.machine.now
  pub place : place_at r.form stop.machine.now.pc ≡ Some stop.place
  pub number : IsPlaceNumber (viewed stop.image) stop.place

-- at no stop
abbrev pub IsAtNoStop : Position → Type 0
IsAtNoStop Fresh = Unit {0}
IsAtNoStop (Standing s) = ⊥
IsAtNoStop (Over e) = Unit {0}

-- the depth of the stop, if it is one
abbrev pub depth_at : Position → Option ℕ
depth_at Fresh = None
depth_at (Standing s) = Some (depth s)
depth_at (Over e) = None

-- before the first instruction, or where a run that wanted memory has not come to a halt yet
abbrev pub is_fresh : Position → Bool
is_fresh Fresh = true
is_fresh (Standing s) = false
is_fresh (Over e) = false
