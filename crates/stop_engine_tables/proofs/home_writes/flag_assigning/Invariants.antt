use Rattle.std.proofs.Common.{◌≡◌, ℕ, false, length, map, take}
use Rattle.std.specs.Prelude.{◌||◌, slice_index_or}
use Rattle.image_form.specs.Views.{viewed}
use Rattle.places.specs.Flow.{assigns}
use Rattle.stop_engine_view.specs.Evidence.{assignment_of}
use Rattle.stop_engine_tables.proofs.home_writes.flag_assigning.Given as goal

abbrev pub invariant-loop-number : goal.invariant-loop-number
invariant-loop-number l = record {
  flags : (p : ℕ) → slice_index_or l.flags p false ≡ (slice_index_or l.fn.flags p false || assigns (map assignment_of (take l.number (viewed l.image).assigned)) p l.variable);
  room : length l.flags ≡ length l.fn.flags;
}
