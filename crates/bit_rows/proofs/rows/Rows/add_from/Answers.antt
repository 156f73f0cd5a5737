use Rattle.std.proofs.Common.{◌≡◌, ℕ, ◌^◌, ◌<◌, ◌*◌, ◌+◌, ◌≤◌, ◌⊎◌, true, length, get_or, refl, sym, ap, ◌∙◌, subst, arith}
use Rattle.std.proofs.lemmas.List.{with_items_is, get_or_read}
use Rattle.bit_rows.specs.Grid.{met_bit}
use Rattle.bit_rows.specs.Words.{AreRows, rows_in, met_word}
use Rattle.bit_rows.proofs.Bits.{words_within, width_is, met_word_bit}
use Rattle.bit_rows.proofs.Meeting.{same_stride, same_shape, same_seen}
use Rattle.bit_rows.proofs.Taking.{taken_rows, taken_view, same_words, same_bits, met_fits, one_within, one_rows, one_view, one_same}
use Rattle.bit_rows.proofs.rows.Rows.add_from.Goals as goal

pub index-before-requires : goal.index-before-requires
index-before-requires c = let i = c.self.inside in
    omega (arith, one_within i.words.items i.stride i.width i.rows c.self.invariant c.args.self.now c.self.view_is c.if-self-eq1.true c.args.to c.requires.to)

pub index-requires : goal.index-requires
index-requires c =
    let i = c.self.inside in
    let o = c.other.inside in
    let width = width_is i.words.items i.stride i.width i.rows c.self.invariant c.args.self.now c.self.view_is c.args.to c.requires.to in
    let other_width : o.width ≡ i.width = sym (width_is o.words.items o.stride o.width o.rows c.other.invariant c.args.other.now c.other.view_is c.args.row c.requires.row) ∙ c.requires.width ∙ width in
    let other_stride = same_stride i.words.items o.words.items i.stride i.width i.rows o.stride o.width o.rows c.self.invariant c.other.invariant other_width in
    omega (arith, one_within o.words.items o.stride o.width o.rows c.other.invariant c.args.other.now c.other.view_is (other_stride ∙ c.if-self-eq1.true) c.args.row c.requires.row)

pub index_mut-requires : goal.index_mut-requires
index_mut-requires c = let i = c.self.inside in
    omega (arith, one_within i.words.items i.stride i.width i.rows c.self.invariant c.args.self.now c.self.view_is c.if-self-eq1.true c.args.to c.requires.to)

pub invariant_of-self : goal.invariant_of-self
invariant_of-self c =
    let i = c.self.inside in
    let o = c.other.inside in
    let width = width_is i.words.items i.stride i.width i.rows c.self.invariant c.args.self.now c.self.view_is c.args.to c.requires.to in
    let other_width : o.width ≡ i.width = sym (width_is o.words.items o.stride o.width o.rows c.other.invariant c.args.other.now c.other.view_is c.args.row c.requires.row) ∙ c.requires.width ∙ width in
    let other_stride = same_stride i.words.items o.words.items i.stride i.width i.rows o.stride o.width o.rows c.self.invariant c.other.invariant other_width in
    let seen = same_seen o.words.items i.stride i.width o.stride o.width o.rows other_stride other_width ∙ c.other.view_is in
    let are = same_shape o.words.items i.stride i.width o.stride o.width o.rows other_stride other_width c.other.invariant in
    let before = get_or_read i.words.items c.args.to c.index-before.result.now (one_within i.words.items i.stride i.width i.rows c.self.invariant c.args.self.now c.self.view_is c.if-self-eq1.true c.args.to c.requires.to) c.index-before.ensures 0 in
    let other_word = get_or_read o.words.items c.args.row c.index.result.now (one_within o.words.items o.stride o.width o.rows c.other.invariant c.args.other.now c.other.view_is (other_stride ∙ c.if-self-eq1.true) c.args.row c.requires.row) c.index.ensures 0 in
    let is = ap (λ w. met_word true w c.index-before.result.now) other_word ∙ ap (met_word true (get_or o.words.items c.args.row 0)) before in
    one_rows i.words.items i.stride i.width i.rows c.self.invariant c.args.self.now c.self.view_is c.if-self-eq1.true c.args.to c.requires.to o.words.items c.args.row
    (met_word true) (met_word true c.index.result.now c.index-before.result.now) is o.rows c.args.other.now are seen c.requires.row (met_bit true) (met_word_bit true) refl

pub returns-then-self-eq1-clause-met : goal.returns-then-self-eq1-clause-met
returns-then-self-eq1-clause-met c =
    let i = c.self.inside in
    let o = c.other.inside in
    let width = width_is i.words.items i.stride i.width i.rows c.self.invariant c.args.self.now c.self.view_is c.args.to c.requires.to in
    let other_width : o.width ≡ i.width = sym (width_is o.words.items o.stride o.width o.rows c.other.invariant c.args.other.now c.other.view_is c.args.row c.requires.row) ∙ c.requires.width ∙ width in
    let other_stride = same_stride i.words.items o.words.items i.stride i.width i.rows o.stride o.width o.rows c.self.invariant c.other.invariant other_width in
    let seen = same_seen o.words.items i.stride i.width o.stride o.width o.rows other_stride other_width ∙ c.other.view_is in
    let are = same_shape o.words.items i.stride i.width o.stride o.width o.rows other_stride other_width c.other.invariant in
    let before = get_or_read i.words.items c.args.to c.index-before.result.now (one_within i.words.items i.stride i.width i.rows c.self.invariant c.args.self.now c.self.view_is c.if-self-eq1.true c.args.to c.requires.to) c.index-before.ensures 0 in
    let other_word = get_or_read o.words.items c.args.row c.index.result.now (one_within o.words.items o.stride o.width o.rows c.other.invariant c.args.other.now c.other.view_is (other_stride ∙ c.if-self-eq1.true) c.args.row c.requires.row) c.index.ensures 0 in
    let is = ap (λ w. met_word true w c.index-before.result.now) other_word ∙ ap (met_word true (get_or o.words.items c.args.row 0)) before in
    one_view i.words.items i.stride i.width i.rows c.self.invariant c.args.self.now c.self.view_is c.if-self-eq1.true c.args.to c.requires.to o.words.items c.args.row
    (met_word true) (met_word true c.index.result.now c.index-before.result.now) is o.rows c.args.other.now are seen c.requires.row (met_bit true) (met_word_bit true) refl

pub returns-then-self-eq1-clause-changed : goal.returns-then-self-eq1-clause-changed
returns-then-self-eq1-clause-changed c =
    let i = c.self.inside in
    let o = c.other.inside in
    let width = width_is i.words.items i.stride i.width i.rows c.self.invariant c.args.self.now c.self.view_is c.args.to c.requires.to in
    let other_width : o.width ≡ i.width = sym (width_is o.words.items o.stride o.width o.rows c.other.invariant c.args.other.now c.other.view_is c.args.row c.requires.row) ∙ c.requires.width ∙ width in
    let other_stride = same_stride i.words.items o.words.items i.stride i.width i.rows o.stride o.width o.rows c.self.invariant c.other.invariant other_width in
    let seen = same_seen o.words.items i.stride i.width o.stride o.width o.rows other_stride other_width ∙ c.other.view_is in
    let are = same_shape o.words.items i.stride i.width o.stride o.width o.rows other_stride other_width c.other.invariant in
    let before = get_or_read i.words.items c.args.to c.index-before.result.now (one_within i.words.items i.stride i.width i.rows c.self.invariant c.args.self.now c.self.view_is c.if-self-eq1.true c.args.to c.requires.to) c.index-before.ensures 0 in
    let other_word = get_or_read o.words.items c.args.row c.index.result.now (one_within o.words.items o.stride o.width o.rows c.other.invariant c.args.other.now c.other.view_is (other_stride ∙ c.if-self-eq1.true) c.args.row c.requires.row) c.index.ensures 0 in
    let is = ap (λ w. met_word true w c.index-before.result.now) other_word ∙ ap (met_word true (get_or o.words.items c.args.row 0)) before in
    let fits = met_fits c.index.result.now c.index-before.result.now (omega arith) (omega arith) in
    one_same i.words.items i.stride i.width i.rows c.self.invariant c.args.self.now c.self.view_is c.if-self-eq1.true c.args.to c.requires.to o.words.items c.args.row
    (met_word true) (met_word true c.index.result.now c.index-before.result.now) is o.rows c.args.other.now are seen c.requires.row (met_bit true) (met_word_bit true) refl c.index-before.result.now before (omega arith) fits

pub add_words-requires-clause-to : goal.add_words-requires-clause-to
add_words-requires-clause-to c = let i = c.self.inside in
    omega (arith, words_within i.words.items i.stride i.width i.rows c.self.invariant c.args.self.now c.self.view_is c.args.to c.requires.to, ap length c.deref_mut.ensures.value)

pub add_words-requires-clause-at : goal.add_words-requires-clause-at
add_words-requires-clause-at c =
    let i = c.self.inside in
    let o = c.other.inside in
    let width = width_is i.words.items i.stride i.width i.rows c.self.invariant c.args.self.now c.self.view_is c.args.to c.requires.to in
    let other_width : o.width ≡ i.width = sym (width_is o.words.items o.stride o.width o.rows c.other.invariant c.args.other.now c.other.view_is c.args.row c.requires.row) ∙ c.requires.width ∙ width in
    let other_stride = same_stride i.words.items o.words.items i.stride i.width i.rows o.stride o.width o.rows c.self.invariant c.other.invariant other_width in
    subst (λ n. c.args.row * n + n ≤ length c.deref.result.now) other_stride
    (omega (arith, words_within o.words.items o.stride o.width o.rows c.other.invariant c.args.other.now c.other.view_is c.args.row c.requires.row, ap length c.deref.ensures.value))

pub invariant_of-self-2 : goal.invariant_of-self-2
invariant_of-self-2 c =
    let i = c.self.inside in
    let o = c.other.inside in
    let width = width_is i.words.items i.stride i.width i.rows c.self.invariant c.args.self.now c.self.view_is c.args.to c.requires.to in
    let other_width : o.width ≡ i.width = sym (width_is o.words.items o.stride o.width o.rows c.other.invariant c.args.other.now c.other.view_is c.args.row c.requires.row) ∙ c.requires.width ∙ width in
    let other_stride = same_stride i.words.items o.words.items i.stride i.width i.rows o.stride o.width o.rows c.self.invariant c.other.invariant other_width in
    let was = c.deref_mut.ensures.value in
    let size : length c.add_words.new.words ≡ length i.words.items = c.add_words.auto.words ∙ ap length was in
    let same = with_items_is i.words c.add_words.new.words (omega (arith, size)) in
    let seen = same_seen o.words.items i.stride i.width o.stride o.width o.rows other_stride other_width ∙ c.other.view_is in
    let are = same_shape o.words.items i.stride i.width o.stride o.width o.rows other_stride other_width c.other.invariant in
    let others = λ (j : ℕ) (out : (j < c.args.to * i.stride) ⊎ (c.args.to * i.stride + i.stride ≤ j)). c.add_words.ensures.others j out ∙ ap (λ ws. get_or ws j 0) was in
    let all_met = λ (k : ℕ) (lt : k < i.stride). c.add_words.ensures.met k lt
    ∙ ap (λ ws. met_word true (get_or c.deref.result.now (c.args.row * i.stride + k) 0) (get_or ws (c.args.to * i.stride + k) 0)) was
    ∙ ap (λ ws. met_word true (get_or ws (c.args.row * i.stride + k) 0) (get_or i.words.items (c.args.to * i.stride + k) 0)) c.deref.ensures.value in
    subst (λ ws. AreRows ws i.stride i.width i.rows) (sym same)
    (taken_rows i.words.items i.stride i.width i.rows c.self.invariant c.args.self.now c.self.view_is c.add_words.new.words size c.args.to c.requires.to others o.words.items c.args.row o.rows c.args.other.now are seen c.requires.row (met_word true) (met_bit true) (met_word_bit true) refl all_met)

pub returns-clause-met : goal.returns-clause-met
returns-clause-met c =
    let i = c.self.inside in
    let o = c.other.inside in
    let width = width_is i.words.items i.stride i.width i.rows c.self.invariant c.args.self.now c.self.view_is c.args.to c.requires.to in
    let other_width : o.width ≡ i.width = sym (width_is o.words.items o.stride o.width o.rows c.other.invariant c.args.other.now c.other.view_is c.args.row c.requires.row) ∙ c.requires.width ∙ width in
    let other_stride = same_stride i.words.items o.words.items i.stride i.width i.rows o.stride o.width o.rows c.self.invariant c.other.invariant other_width in
    let was = c.deref_mut.ensures.value in
    let size : length c.add_words.new.words ≡ length i.words.items = c.add_words.auto.words ∙ ap length was in
    let same = with_items_is i.words c.add_words.new.words (omega (arith, size)) in
    let seen = same_seen o.words.items i.stride i.width o.stride o.width o.rows other_stride other_width ∙ c.other.view_is in
    let are = same_shape o.words.items i.stride i.width o.stride o.width o.rows other_stride other_width c.other.invariant in
    let others = λ (j : ℕ) (out : (j < c.args.to * i.stride) ⊎ (c.args.to * i.stride + i.stride ≤ j)). c.add_words.ensures.others j out ∙ ap (λ ws. get_or ws j 0) was in
    let all_met = λ (k : ℕ) (lt : k < i.stride). c.add_words.ensures.met k lt
    ∙ ap (λ ws. met_word true (get_or c.deref.result.now (c.args.row * i.stride + k) 0) (get_or ws (c.args.to * i.stride + k) 0)) was
    ∙ ap (λ ws. met_word true (get_or ws (c.args.row * i.stride + k) 0) (get_or i.words.items (c.args.to * i.stride + k) 0)) c.deref.ensures.value in
    ap (λ ws. rows_in ws i.stride i.width i.rows) same ∙ (taken_view i.words.items i.stride i.width i.rows c.self.invariant c.args.self.now c.self.view_is c.add_words.new.words size c.args.to c.requires.to others o.words.items c.args.row o.rows c.args.other.now are seen c.requires.row (met_word true) (met_bit true) (met_word_bit true) refl all_met)

pub returns-clause-changed : goal.returns-clause-changed
returns-clause-changed c =
    let i = c.self.inside in
    let o = c.other.inside in
    let width = width_is i.words.items i.stride i.width i.rows c.self.invariant c.args.self.now c.self.view_is c.args.to c.requires.to in
    let other_width : o.width ≡ i.width = sym (width_is o.words.items o.stride o.width o.rows c.other.invariant c.args.other.now c.other.view_is c.args.row c.requires.row) ∙ c.requires.width ∙ width in
    let other_stride = same_stride i.words.items o.words.items i.stride i.width i.rows o.stride o.width o.rows c.self.invariant c.other.invariant other_width in
    let was = c.deref_mut.ensures.value in
    let size : length c.add_words.new.words ≡ length i.words.items = c.add_words.auto.words ∙ ap length was in
    let same = with_items_is i.words c.add_words.new.words (omega (arith, size)) in
    let seen = same_seen o.words.items i.stride i.width o.stride o.width o.rows other_stride other_width ∙ c.other.view_is in
    let are = same_shape o.words.items i.stride i.width o.stride o.width o.rows other_stride other_width c.other.invariant in
    let others = λ (j : ℕ) (out : (j < c.args.to * i.stride) ⊎ (c.args.to * i.stride + i.stride ≤ j)). c.add_words.ensures.others j out ∙ ap (λ ws. get_or ws j 0) was in
    let all_met = λ (k : ℕ) (lt : k < i.stride). c.add_words.ensures.met k lt
    ∙ ap (λ ws. met_word true (get_or c.deref.result.now (c.args.row * i.stride + k) 0) (get_or ws (c.args.to * i.stride + k) 0)) was
    ∙ ap (λ ws. met_word true (get_or ws (c.args.row * i.stride + k) 0) (get_or i.words.items (c.args.to * i.stride + k) 0)) c.deref.ensures.value in
    let view_same = ap (λ ws. rows_in ws i.stride i.width i.rows) same in (
      (λ e. view_same ∙ same_words i.words.items i.stride i.width i.rows c.self.invariant c.args.self.now c.self.view_is c.add_words.new.words size c.args.to c.requires.to others (λ k lt. c.add_words.ensures.changed.0 e k lt ∙ ap (λ ws. get_or ws (c.args.to * i.stride + k) 0) was)),
      (λ e. c.add_words.ensures.changed.1 (λ k lt. same_bits i.words.items i.stride i.width i.rows c.self.invariant c.args.self.now c.self.view_is c.add_words.new.words size c.args.to c.requires.to others (taken_rows i.words.items i.stride i.width i.rows c.self.invariant c.args.self.now c.self.view_is c.add_words.new.words size c.args.to c.requires.to others o.words.items c.args.row o.rows c.args.other.now are seen c.requires.row (met_word true) (met_bit true) (met_word_bit true) refl all_met)
          (λ j less. subst (λ ws. get_or ws (c.args.to * i.stride + j) 0 < 2 ^ 64) was (c.add_words.ensures.fit (c.args.to * i.stride + j)))
          (λ j less. subst (λ n. n < 2 ^ 64) (sym (c.add_words.ensures.met j less)) (met_fits (get_or c.deref.result.now (c.args.row * i.stride + j) 0) (get_or c.deref_mut.result.now (c.args.to * i.stride + j) 0) (c.add_words.ensures.fit_other (c.args.row * i.stride + j)) (c.add_words.ensures.fit (c.args.to * i.stride + j))))
          (sym view_same ∙ e) k lt
          ∙ ap (λ ws. get_or ws (c.args.to * i.stride + k) 0) (sym was))),
    )
