use Rattle.std.proofs.Common.{◌≡◌, ◌++◌, All}
use Rattle.image_form.specs.RulesOfFunctions.{IsPlaceNumber}
use Rattle.image_form.specs.Views.{viewed}
use Rattle.stop_engine_view.specs.Reading.{frames, frames_from}
use Rattle.stop_engine_tables.proofs.frames.frame_places.Given as goal

abbrev pub invariant-loop-left : goal.invariant-loop-left
invariant-loop-left l = record {
  place : IsPlaceNumber (viewed l.image) l.at;
  places : l.places.items ++ frames_from l.left (viewed l.image) l.machine l.at l.frame ≡ frames (viewed l.image) l.machine l.fn.place;
  numbers : All (IsPlaceNumber (viewed l.image)) l.places.items;
}

abbrev pub decreases-loop-left : goal.decreases-loop-left
decreases-loop-left l = l.left
