use Rattle.std.proofs.Common.{◌≡◌, ℕ, ◌<◌, ◌*◌, ◌+◌, ◌≤◌, ◌⊎◌, length, get_or, sym, ap, ◌∙◌, subst, arith}
use Rattle.std.proofs.lemmas.List.{with_items_is}
use Rattle.bit_rows.specs.Words.{AreRows, rows_in, passed_word}
use Rattle.bit_rows.proofs.Bits.{words_within, width_is}
use Rattle.bit_rows.proofs.Meeting.{rows_apart, passed_rows, passed_view, same_stride, same_shape, same_seen}
use Rattle.bit_rows.proofs.rows.Rows.pass_into.Goals as goal

pub pass_words-requires-clause-from : goal.pass_words-requires-clause-from
pass_words-requires-clause-from c = let i = c.self.inside in
    omega (arith, words_within i.words.items i.stride i.width i.rows c.self.invariant c.args.self.now c.self.view_is c.args.from c.requires.from, ap length c.deref_mut.ensures.value)

pub pass_words-requires-clause-to : goal.pass_words-requires-clause-to
pass_words-requires-clause-to c = let i = c.self.inside in
    omega (arith, words_within i.words.items i.stride i.width i.rows c.self.invariant c.args.self.now c.self.view_is c.args.to c.requires.to, ap length c.deref_mut.ensures.value)

pub pass_words-requires-clause-apart : goal.pass_words-requires-clause-apart
pass_words-requires-clause-apart c = rows_apart c.self.inside.stride c.args.from c.args.to

pub pass_words-requires-clause-kept : goal.pass_words-requires-clause-kept
pass_words-requires-clause-kept c =
    let i = c.self.inside in
    let k = c.kept.inside in
    let w = c.written.inside in
    let width = width_is i.words.items i.stride i.width i.rows c.self.invariant c.args.self.now c.self.view_is c.args.from c.requires.from in
    let kept_width : k.width ≡ i.width = sym (width_is k.words.items k.stride k.width k.rows c.kept.invariant c.args.kept.now c.kept.view_is c.args.row c.requires.kept) ∙ c.requires.kept_width ∙ width in
    let written_width : w.width ≡ i.width = sym (width_is w.words.items w.stride w.width w.rows c.written.invariant c.args.written.now c.written.view_is c.args.row c.requires.written) ∙ c.requires.written_width ∙ width in
    let kept_stride = same_stride i.words.items k.words.items i.stride i.width i.rows k.stride k.width k.rows c.self.invariant c.kept.invariant kept_width in
    let written_stride = same_stride i.words.items w.words.items i.stride i.width i.rows w.stride w.width w.rows c.self.invariant c.written.invariant written_width in
    subst (λ n. c.args.row * n + n ≤ length c.deref.result.now) kept_stride
    (omega (arith, words_within k.words.items k.stride k.width k.rows c.kept.invariant c.args.kept.now c.kept.view_is c.args.row c.requires.kept, ap length c.deref.ensures.value))

pub pass_words-requires-clause-written : goal.pass_words-requires-clause-written
pass_words-requires-clause-written c =
    let i = c.self.inside in
    let k = c.kept.inside in
    let w = c.written.inside in
    let width = width_is i.words.items i.stride i.width i.rows c.self.invariant c.args.self.now c.self.view_is c.args.from c.requires.from in
    let kept_width : k.width ≡ i.width = sym (width_is k.words.items k.stride k.width k.rows c.kept.invariant c.args.kept.now c.kept.view_is c.args.row c.requires.kept) ∙ c.requires.kept_width ∙ width in
    let written_width : w.width ≡ i.width = sym (width_is w.words.items w.stride w.width w.rows c.written.invariant c.args.written.now c.written.view_is c.args.row c.requires.written) ∙ c.requires.written_width ∙ width in
    let kept_stride = same_stride i.words.items k.words.items i.stride i.width i.rows k.stride k.width k.rows c.self.invariant c.kept.invariant kept_width in
    let written_stride = same_stride i.words.items w.words.items i.stride i.width i.rows w.stride w.width w.rows c.self.invariant c.written.invariant written_width in
    subst (λ n. c.args.row * n + n ≤ length c.deref-2.result.now) written_stride
    (omega (arith, words_within w.words.items w.stride w.width w.rows c.written.invariant c.args.written.now c.written.view_is c.args.row c.requires.written, ap length c.deref-2.ensures.value))

pub invariant_of-self : goal.invariant_of-self
invariant_of-self c =
    let i = c.self.inside in
    let k = c.kept.inside in
    let w = c.written.inside in
    let width = width_is i.words.items i.stride i.width i.rows c.self.invariant c.args.self.now c.self.view_is c.args.from c.requires.from in
    let kept_width : k.width ≡ i.width = sym (width_is k.words.items k.stride k.width k.rows c.kept.invariant c.args.kept.now c.kept.view_is c.args.row c.requires.kept) ∙ c.requires.kept_width ∙ width in
    let written_width : w.width ≡ i.width = sym (width_is w.words.items w.stride w.width w.rows c.written.invariant c.args.written.now c.written.view_is c.args.row c.requires.written) ∙ c.requires.written_width ∙ width in
    let kept_stride = same_stride i.words.items k.words.items i.stride i.width i.rows k.stride k.width k.rows c.self.invariant c.kept.invariant kept_width in
    let written_stride = same_stride i.words.items w.words.items i.stride i.width i.rows w.stride w.width w.rows c.self.invariant c.written.invariant written_width in
    let was = c.deref_mut.ensures.value in
    let size : length c.pass_words.new.words ≡ length i.words.items = c.pass_words.auto.words ∙ ap length was in
    let same = with_items_is i.words c.pass_words.new.words (omega (arith, size)) in
    let kept_seen = same_seen k.words.items i.stride i.width k.stride k.width k.rows kept_stride kept_width ∙ c.kept.view_is in
    let written_seen = same_seen w.words.items i.stride i.width w.stride w.width w.rows written_stride written_width ∙ c.written.view_is in
    let others = λ (j : ℕ) (out : (j < c.args.to * i.stride) ⊎ (c.args.to * i.stride + i.stride ≤ j)). c.pass_words.ensures.others j out ∙ ap (λ ws. get_or ws j 0) was in
    let all_passed = λ (j : ℕ) (lt : j < i.stride). c.pass_words.ensures.passed j lt
    ∙ ap (λ ws. passed_word (get_or ws (c.args.from * i.stride + j) 0) (get_or c.deref.result.now (c.args.row * i.stride + j) 0) (get_or c.deref-2.result.now (c.args.row * i.stride + j) 0)) was
    ∙ ap (λ ws. passed_word (get_or i.words.items (c.args.from * i.stride + j) 0) (get_or ws (c.args.row * i.stride + j) 0) (get_or c.deref-2.result.now (c.args.row * i.stride + j) 0)) c.deref.ensures.value
    ∙ ap (λ ws. passed_word (get_or i.words.items (c.args.from * i.stride + j) 0) (get_or k.words.items (c.args.row * i.stride + j) 0) (get_or ws (c.args.row * i.stride + j) 0)) c.deref-2.ensures.value in
    subst (λ ws. AreRows ws i.stride i.width i.rows) (sym same)
    (passed_rows i.words.items i.stride i.width i.rows c.self.invariant c.args.self.now c.self.view_is c.pass_words.new.words size c.args.from c.args.to c.requires.from c.requires.to others
    k.words.items w.words.items c.args.row k.rows w.rows c.args.kept.now c.args.written.now (same_shape k.words.items i.stride i.width k.stride k.width k.rows kept_stride kept_width c.kept.invariant) (same_shape w.words.items i.stride i.width w.stride w.width w.rows written_stride written_width c.written.invariant)
    kept_seen written_seen c.requires.kept c.requires.written all_passed)

pub returns : goal.returns
returns c =
    let i = c.self.inside in
    let k = c.kept.inside in
    let w = c.written.inside in
    let width = width_is i.words.items i.stride i.width i.rows c.self.invariant c.args.self.now c.self.view_is c.args.from c.requires.from in
    let kept_width : k.width ≡ i.width = sym (width_is k.words.items k.stride k.width k.rows c.kept.invariant c.args.kept.now c.kept.view_is c.args.row c.requires.kept) ∙ c.requires.kept_width ∙ width in
    let written_width : w.width ≡ i.width = sym (width_is w.words.items w.stride w.width w.rows c.written.invariant c.args.written.now c.written.view_is c.args.row c.requires.written) ∙ c.requires.written_width ∙ width in
    let kept_stride = same_stride i.words.items k.words.items i.stride i.width i.rows k.stride k.width k.rows c.self.invariant c.kept.invariant kept_width in
    let written_stride = same_stride i.words.items w.words.items i.stride i.width i.rows w.stride w.width w.rows c.self.invariant c.written.invariant written_width in
    let was = c.deref_mut.ensures.value in
    let size : length c.pass_words.new.words ≡ length i.words.items = c.pass_words.auto.words ∙ ap length was in
    let same = with_items_is i.words c.pass_words.new.words (omega (arith, size)) in
    let kept_seen = same_seen k.words.items i.stride i.width k.stride k.width k.rows kept_stride kept_width ∙ c.kept.view_is in
    let written_seen = same_seen w.words.items i.stride i.width w.stride w.width w.rows written_stride written_width ∙ c.written.view_is in
    let others = λ (j : ℕ) (out : (j < c.args.to * i.stride) ⊎ (c.args.to * i.stride + i.stride ≤ j)). c.pass_words.ensures.others j out ∙ ap (λ ws. get_or ws j 0) was in
    let all_passed = λ (j : ℕ) (lt : j < i.stride). c.pass_words.ensures.passed j lt
    ∙ ap (λ ws. passed_word (get_or ws (c.args.from * i.stride + j) 0) (get_or c.deref.result.now (c.args.row * i.stride + j) 0) (get_or c.deref-2.result.now (c.args.row * i.stride + j) 0)) was
    ∙ ap (λ ws. passed_word (get_or i.words.items (c.args.from * i.stride + j) 0) (get_or ws (c.args.row * i.stride + j) 0) (get_or c.deref-2.result.now (c.args.row * i.stride + j) 0)) c.deref.ensures.value
    ∙ ap (λ ws. passed_word (get_or i.words.items (c.args.from * i.stride + j) 0) (get_or k.words.items (c.args.row * i.stride + j) 0) (get_or ws (c.args.row * i.stride + j) 0)) c.deref-2.ensures.value in
    ap (λ ws. rows_in ws i.stride i.width i.rows) same
    ∙ passed_view i.words.items i.stride i.width i.rows c.self.invariant c.args.self.now c.self.view_is c.pass_words.new.words size c.args.from c.args.to c.requires.from c.requires.to others
    k.words.items w.words.items c.args.row k.rows w.rows c.args.kept.now c.args.written.now (same_shape k.words.items i.stride i.width k.stride k.width k.rows kept_stride kept_width c.kept.invariant) (same_shape w.words.items i.stride i.width w.stride w.width w.rows written_stride written_width c.written.invariant)
    kept_seen written_seen c.requires.kept c.requires.written all_passed
