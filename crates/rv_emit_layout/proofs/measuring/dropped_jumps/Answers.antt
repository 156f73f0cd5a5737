use Rattle.std.proofs.Common.{◌≡◌, ◌+◌, List, ℕ, [], ◌∷◌, ◌++◌, length, replicate, slice_index, ap, ◌∙◌, arith}
use Rattle.rv_emit_sequence.specs.Sequences.{counted, sequence_view}
use Rattle.rv_emit_layout.specs.Longest.{is_dropped}
use Rattle.rv_emit_layout.proofs.LongestLayout.{added_jump, added_length, none_at, none_length}
use Rattle.rv_emit_layout.proofs.measuring.dropped_jumps.Goals as goal

pub loop-block-init : goal.loop-block-init
loop-block-init c =
    let n = length c.args.sequence.now.pieces.items in
    let many : c.len.result ≡ n = omega arith in
    let none : c.in_ok-dropped.dropped.items ≡ replicate n 0 = c.in_ok-dropped.ensures.items_if_clones_equal (λ y e. e) ∙ ap (λ m. replicate m 0) many in
    let all : c.push.new.self.items ≡ replicate n 0 ++ 0 ∷ [] = c.in_ok-push.ensures.items ∙ ap (λ (l : List ℕ). l ++ 0 ∷ []) none in
    record {
      size = ap (λ (l : List ℕ). length l) all ∙ none_length n;
      counts = λ k le. ap (λ (l : List ℕ). slice_index l k) all ∙ none_at n k;
    }

pub loop-block-preserved : goal.loop-block-preserved
loop-block-preserved c =
    let s = sequence_view c.args.sequence.now in
    let old = c.loop-block.dropped.items in
    let block = c.loop-block.block in
    record {
      size = added_length (is_dropped s block) old c.add_jump.new.dropped.items (slice_index s.ends block) (counted (slice_index old (slice_index s.ends block) + 1)) c.add_jump.ensures ∙ c.loop-block.invariant.size;
      counts = λ k le. added_jump (is_dropped s) (λ b. slice_index s.ends b) old c.add_jump.new.dropped.items block k c.add_jump.ensures (omega (arith, le, c.loop-block.invariant.size)) (c.loop-block.invariant.counts k le);
    }
