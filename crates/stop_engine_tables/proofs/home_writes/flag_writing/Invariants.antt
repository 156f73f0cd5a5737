use Rattle.std.proofs.Common.{◌≡◌, ◌-◌, ◌==◌, ℕ, false, length}
use Rattle.std.specs.Prelude.{◌&&◌, ◌||◌, slice_index, slice_index_or}
use Rattle.image_form.specs.Views.{viewed}
use Rattle.stop_engine_view.specs.HomeWrites.{any_from, writes_home}
use Rattle.stop_engine_tables.proofs.home_writes.flag_writing.Given as goal

abbrev pub invariant-loop-index : goal.invariant-loop-index
invariant-loop-index l = record {
  flags : (p : ℕ) → slice_index_or l.flags p false
      ≡ (slice_index_or l.fn.flags p false || any_from (λ index. slice_index (viewed l.image).owners index == p && writes_home (viewed l.image).code l.storage index) l.first (l.index - l.first));
  room : length l.flags ≡ length l.fn.flags;
}
