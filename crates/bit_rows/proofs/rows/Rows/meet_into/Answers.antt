use Rattle.std.proofs.Common.{◌≡◌, ℕ, ◌^◌, ◌<◌, ◌*◌, ◌+◌, ◌≤◌, ◌⊎◌, length, get_or, sym, ap, ◌∙◌, subst, arith}
use Rattle.std.proofs.lemmas.List.{with_items_is}
use Rattle.bit_rows.specs.Words.{AreRows, rows_in, met_word}
use Rattle.bit_rows.proofs.Bits.{words_within}
use Rattle.bit_rows.proofs.Meeting.{rows_apart, met_rows, met_view, same_view, view_tells}
use Rattle.bit_rows.proofs.rows.Rows.meet_into.Goals as goal

pub meet_words-requires-clause-from : goal.meet_words-requires-clause-from
meet_words-requires-clause-from c = let i = c.self.inside in
    omega (arith, words_within i.words.items i.stride i.width i.rows c.self.invariant c.args.self.now c.self.view_is c.args.from c.requires.from, ap length c.deref_mut.ensures.value)

pub meet_words-requires-clause-to : goal.meet_words-requires-clause-to
meet_words-requires-clause-to c = let i = c.self.inside in
    omega (arith, words_within i.words.items i.stride i.width i.rows c.self.invariant c.args.self.now c.self.view_is c.args.to c.requires.to, ap length c.deref_mut.ensures.value)

pub meet_words-requires-clause-apart : goal.meet_words-requires-clause-apart
meet_words-requires-clause-apart c = rows_apart c.self.inside.stride c.args.from c.args.to

pub invariant_of-self : goal.invariant_of-self
invariant_of-self c =
    let i = c.self.inside in
    let size : length c.meet_words.new.words ≡ length i.words.items = c.meet_words.auto.words ∙ ap length c.deref_mut.ensures.value in
    let same = with_items_is i.words c.meet_words.new.words (omega (arith, size)) in
    subst (λ ws. AreRows ws i.stride i.width i.rows) (sym same)
    (met_rows i.words.items i.stride i.width i.rows c.self.invariant c.args.self.now c.self.view_is c.meet_words.new.words size c.args.from c.args.to c.requires.from c.requires.to
    (λ j out. c.meet_words.ensures.others j out ∙ ap (λ ws. get_or ws j 0) c.deref_mut.ensures.value) c.args.unite
    (λ k lt. c.meet_words.ensures.met k lt ∙ ap (λ ws. met_word c.args.unite (get_or ws (c.args.from * i.stride + k) 0) (get_or ws (c.args.to * i.stride + k) 0)) c.deref_mut.ensures.value))

pub returns-clause-met : goal.returns-clause-met
returns-clause-met c =
    let i = c.self.inside in
    let size : length c.meet_words.new.words ≡ length i.words.items = c.meet_words.auto.words ∙ ap length c.deref_mut.ensures.value in
    let same = with_items_is i.words c.meet_words.new.words (omega (arith, size)) in
    ap (λ ws. rows_in ws i.stride i.width i.rows) same
    ∙ met_view i.words.items i.stride i.width i.rows c.self.invariant c.args.self.now c.self.view_is c.meet_words.new.words size c.args.from c.args.to c.requires.from c.requires.to
    (λ j out. c.meet_words.ensures.others j out ∙ ap (λ ws. get_or ws j 0) c.deref_mut.ensures.value) c.args.unite
    (λ k lt. c.meet_words.ensures.met k lt ∙ ap (λ ws. met_word c.args.unite (get_or ws (c.args.from * i.stride + k) 0) (get_or ws (c.args.to * i.stride + k) 0)) c.deref_mut.ensures.value)

pub returns-clause-changed : goal.returns-clause-changed
returns-clause-changed c =
    let i = c.self.inside in
    let was = c.deref_mut.ensures.value in
    let size : length c.meet_words.new.words ≡ length i.words.items = c.meet_words.auto.words ∙ ap length was in
    let same = ap (λ ws. rows_in ws i.stride i.width i.rows) (with_items_is i.words c.meet_words.new.words (omega (arith, size))) in
    let others = λ (j : ℕ) (out : (j < c.args.to * i.stride) ⊎ (c.args.to * i.stride + i.stride ≤ j)). c.meet_words.ensures.others j out ∙ ap (λ ws. get_or ws j 0) was in
    let all_met = λ (k : ℕ) (lt : k < i.stride). c.meet_words.ensures.met k lt ∙ ap (λ ws. met_word c.args.unite (get_or ws (c.args.from * i.stride + k) 0) (get_or ws (c.args.to * i.stride + k) 0)) was in (
      (λ e. same ∙ same_view i.words.items i.stride i.width i.rows c.self.invariant c.args.self.now c.self.view_is c.meet_words.new.words size c.args.from c.args.to c.requires.from c.requires.to others c.args.unite all_met
          (λ k lt. c.meet_words.ensures.changed.0 e k lt ∙ ap (λ ws. get_or ws (c.args.to * i.stride + k) 0) was)),
      (λ e. c.meet_words.ensures.changed.1 (λ k lt. view_tells i.words.items i.stride i.width i.rows c.self.invariant c.args.self.now c.self.view_is c.meet_words.new.words size c.args.from c.args.to c.requires.from c.requires.to others c.args.unite all_met
          (λ j. subst (λ ws. get_or ws j 0 < 2 ^ 64) was (c.meet_words.ensures.fit j)) (sym same ∙ e) k lt
          ∙ ap (λ ws. get_or ws (c.args.to * i.stride + k) 0) (sym was))),
    )
