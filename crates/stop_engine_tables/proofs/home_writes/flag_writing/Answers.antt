use Rattle.std.proofs.Common.{◌≡◌, ◌-◌, ◌/◌, ◌==◌, ◌∙◌, ◌<◌, ℕ, Bool, List, true, false, length, ap, sym, arith}
use Rattle.std.specs.Prelude.{◌&&◌, ◌||◌, slice_index, slice_index_or}
use Rattle.std.proofs.Math.Bool.{or-false}
use Rattle.std.proofs.lemmas.List.{length-set}
use Rattle.image_form.specs.Views.{viewed}
use Rattle.stop_engine_view.specs.HomeWrites.{any_from, writes_home}
use Rattle.stop_engine_tables.proofs.Flags.{flag_set, tested_more}
use Rattle.stop_engine_tables.proofs.HomeWords.{function_kept, owner_low, words_of, written_here, written_not}
use Rattle.stop_engine_tables.proofs.home_writes.flag_writing.Goals as goal
use Rattle.stop_engine_tables.proofs.home_writes.flag_writing.Goals.{then-writes_home, else-writes_home}

pub bounds-flags-owner_at : goal.bounds-flags-owner_at
bounds-flags-owner_at c =
    let low = owner_low (viewed c.args.image.now) c.loop-index.index c.owner_at.result c.requires.image c.owner_at.ensures in
    omega (arith, low, c.requires.room, c.loop-index.invariant.room)

pub loop-index-preserved : goal.loop-index-preserved
loop-index-preserved c =
    let m = viewed c.args.image.now in
    let index = c.loop-index.index in
    let first = c.saturating_sub.result / 4 in
    let test : (p n : ℕ) → Bool = λ p n. slice_index m.owners n == p && writes_home m.code c.args.storage n in
    let old : ℕ → Bool = λ p. slice_index_or c.args.flags.now p false in
    let now : ℕ → Bool = λ p. slice_index_or c.loop-index.flags p false in
    let new : ℕ → Bool = λ p. slice_index_or c.if-writes_home.flags p false in
    elim c.if-writes_home.branch [
      | then-writes_home w ↦
          let owner = w.owner_at.result in
          let below = owner_low m index owner c.requires.image w.owner_at.ensures in
          let low : owner < length c.loop-index.flags = omega (arith, below, c.requires.room, c.loop-index.invariant.room) in
          let writes : writes_home m.code c.args.storage index ≡ true = sym c.writes_home.ensures ∙ w.if-writes_home.true in
          record {
            flags = λ p. tested_more (test p) first index (old p) (now p) (new p) (owner == p) c.loop-index.auto.index (written_here m.owners m.code c.args.storage index owner p w.owner_at.ensures writes)
                (c.loop-index.invariant.flags p) (ap (λ (fs : List Bool). slice_index_or fs p false) w.flags-is ∙ flag_set c.loop-index.flags owner p low);
            room = ap length w.flags-is ∙ (length-set c.loop-index.flags owner true ∙ c.loop-index.invariant.room);
          }
      | else-writes_home w ↦
          let writes : writes_home m.code c.args.storage index ≡ false = sym c.writes_home.ensures ∙ w.if-writes_home.false in
          record {
            flags = λ p. tested_more (test p) first index (old p) (now p) (new p) false c.loop-index.auto.index (written_not m.owners m.code c.args.storage index p writes)
                (c.loop-index.invariant.flags p) (ap (λ (fs : List Bool). slice_index_or fs p false) w.flags-is ∙ sym (or-false (now p)));
            room = ap length w.flags-is ∙ c.loop-index.invariant.room;
          }
    ]

pub returns-clause-flags : goal.returns-clause-flags
returns-clause-flags c = λ p.
    let m = viewed c.args.image.now in
    let f = c.args.function in
    let first = c.saturating_sub.result / 4 in
    let test : ℕ → Bool = λ n. slice_index m.owners n == p && writes_home m.code c.args.storage n in
    let its = function_kept m f c.requires.image c.requires.function in
    let words = words_of m f its in
    let some = its.not_empty in
    let first_is : first ≡ (f.first - 65536) / 4 = omega (arith, c.saturating_sub.ensures) in
    let count : c.loop-index.index - first ≡ (f.end - f.first) / 4 = omega (arith, words, first_is, c.saturating_sub-2.ensures, c.loop-index-test.false, c.loop-index.auto.index-end) in
    c.loop-index.invariant.flags p ∙ ap (λ b. slice_index_or c.args.flags.now p false || b)
    (ap (λ k. any_from test first k) count ∙ ap (λ k. any_from test k ((f.end - f.first) / 4)) first_is)
