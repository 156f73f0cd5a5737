use Rattle.std.proofs.Common.{◌≡◌, ◌+◌, ◌*◌, ◌<◌, cond, Some, length, map, slice_get, slice_index, sym, ap, ◌∙◌, subst, arith}
use Rattle.std.proofs.lemmas.Option.{slice_get-get_or}
use Rattle.std.specs.List.{range_with_len}
use Rattle.rv_emit_sequence.specs.Sequences.{counted, sequence_view}
use Rattle.rv_emit_layout.specs.Reaches.{farthest, jump_width, width}
use Rattle.rv_emit_layout.specs.Longest.{has_word_at, long_before}
use Rattle.rv_emit_layout.proofs.LongestLayout.{goes_on, offsets_grow, stands_at, starts_at}
use Rattle.rv_emit_layout.proofs.measuring.longest_offsets.Goals as goal

pub loop-index-init : goal.loop-index-init
loop-index-init c = record {
  words = starts_at c.args.room (sequence_view c.args.sequence.now);
  offsets = c.new-offsets.ensures.items;
}

pub loop-index-preserved : goal.loop-index-preserved
loop-index-preserved c =
    let s = sequence_view c.args.sequence.now in
    let k = c.loop-index.index in
    let x = c.index.result.now in
    let low : k < length s.pieces = omega arith in
    let get : slice_get s.pieces k ≡ Some x = slice_get-get_or s.pieces k x low ∙ ap Some (sym c.index.ensures) in
    let here : c.saturating_add-words.result ≡ counted (long_before c.args.room s k) =
    c.saturating_add-words.ensures
    ∙ stands_at c.args.room s c.loop-index.words c.more_at.result k c.deref.result.now c.deref-in-loop-index.result.now c.in_ok-dropped.dropped.items c.deref.ensures.value c.deref-in-loop-index.ensures.value
    (c.in_ok-dropped.ensures k (omega (arith, low))) c.more_at.ensures c.loop-index.invariant.words in
    record {
      words = goes_on c.args.room s c.saturating_add-words.result c.saturating_add-words-in-loop-index.result k x get here
          (c.saturating_add-words-in-loop-index.ensures ∙ ap (λ n. counted (c.saturating_add-words.result + n)) (c.words_of.ensures ∙ ap (λ r. width r x.piece) c.farthest-most.ensures));
      offsets = offsets_grow c.args.room s k c.saturating_add-words.result c.loop-index.offsets.items c.push.new.self.items c.in_ok-push.ensures.items c.loop-index.invariant.offsets here;
    }

pub returns : goal.returns
returns c =
    let s = sequence_view c.args.sequence.now in
    let k = c.loop-index.index in
    let all : k ≡ length s.pieces = omega arith in
    let last : c.len.result ≡ k = omega arith in
    let more : c.more_at-more.result ≡ counted (jump_width (farthest c.args.room) * slice_index c.deref-3.result.now k + cond (has_word_at c.deref-2.result.now k) 1 0) =
    subst (λ n. c.more_at-more.result ≡ counted (jump_width (farthest c.args.room) * slice_index c.deref-3.result.now n + cond (has_word_at c.deref-2.result.now n) 1 0)) last c.more_at-more.ensures in
    let here : c.saturating_add.result ≡ counted (long_before c.args.room s k) =
    c.saturating_add.ensures
    ∙ stands_at c.args.room s c.loop-index.words c.more_at-more.result k c.deref-2.result.now c.deref-3.result.now c.in_ok-dropped.dropped.items c.deref-2.ensures.value c.deref-3.ensures.value
    (c.in_ok-dropped.ensures k (omega (arith, all))) more c.loop-index.invariant.words in
    offsets_grow c.args.room s k c.saturating_add.result c.loop-index.offsets.items c.push-2.new.self.items c.in_ok-push-2.ensures.items c.loop-index.invariant.offsets here
    ∙ ap (λ n. map (λ m. counted (long_before c.args.room s m)) (range_with_len 0 (n + 1))) all
