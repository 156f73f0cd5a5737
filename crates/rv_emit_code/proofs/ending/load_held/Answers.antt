use Rattle.std.proofs.Common.{◌+◌, ◌∙◌, sym, arith, drop, get_or}
use Rattle.std.proofs.lemmas.List.{at_drop_more}
use Rattle.rv_emit_words.specs.declared.piece.Held.{Held}
use Rattle.rv_emit_words.specs.Growing.{code_state}
use Rattle.rv_emit_code.specs.Ends.{with_loads}
use Rattle.rv_emit_code.proofs.Growing.{one_loaded, none_loaded}
use Rattle.rv_emit_code.proofs.ending.load_held.Goals as goal
use Rattle.rv_emit_code.proofs.ending.load_held.Goals.{then-words-left+in_ok-hold, else-words-left}

pub loop-held-preserved : goal.loop-held-preserved
loop-held-preserved c =
    let before = code_state c.loop-held.code in
    let at = c.loop-held.held-index in
    let none : Held = record { register = 0; word = 0 } in
    elim c.if-words-left.branch [
      | then-words-left+in_ok-hold w ↦ rw (w.code-is, w.left-is) (record {
        few = omega (arith, w.in_ok-hold.ensures.few, c.loop-held.invariant.few, w.if-words-left.true);
        stops = w.in_ok-hold.ensures.stops ∙ c.loop-held.invariant.stops;
        grown = one_loaded _ c.args.base c.loop-held.left c.words_of_constant-words.result (drop (at + 1) c.args.loads.now) before (code_state w.hold.new.self) c.words_of_constant-words.ensures.words w.if-words-left.true w.in_ok-hold.ensures.grown
            ∙ sym (at_drop_more (λ l. with_loads c.args.base c.loop-held.left l before) c.args.loads.now at _ c.loop-held-test.true) ∙ c.loop-held.invariant.grown;
      })
      | else-words-left w ↦ rw (w.code-is, w.left-is) (record {
        few = c.loop-held.invariant.few;
        stops = c.loop-held.invariant.stops;
        grown = none_loaded (get_or c.args.loads.now at none) c.args.base c.loop-held.left c.words_of_constant-words.result (drop (at + 1) c.args.loads.now) before c.words_of_constant-words.ensures.words w.if-words-left.false
            ∙ sym (at_drop_more (λ l. with_loads c.args.base c.loop-held.left l before) c.args.loads.now at none c.loop-held-test.true) ∙ c.loop-held.invariant.grown;
      })
    ]
