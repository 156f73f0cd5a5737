use Rattle.std.proofs.Common.{◌≡◌, ℕ, ◌<◌, ◌*◌, ◌+◌, ◌≤◌, ◌⊎◌, length, get_or, refl, sym, ap, ◌∙◌, subst, arith}
use Rattle.std.specs.Prelude.{slice_set}
use Rattle.std.proofs.lemmas.List.{with_items_is, get_or_read}
use Rattle.bit_rows.specs.Grid.{row_at}
use Rattle.bit_rows.specs.Words.{AreRows, rows_in}
use Rattle.bit_rows.proofs.Bits.{words_within, width_is}
use Rattle.bit_rows.proofs.Meeting.{same_stride, same_shape, same_seen}
use Rattle.bit_rows.proofs.Taking.{joined_first, taken_rows, taken_view, one_within, one_rows, one_view}
use Rattle.bit_rows.proofs.rows.Rows.copy_from.Goals as goal

pub index-requires : goal.index-requires
index-requires c =
    let i = c.self.inside in
    let o = c.other.inside in
    let width = width_is i.words.items i.stride i.width i.rows c.self.invariant c.args.self.now c.self.view_is c.args.to c.requires.to in
    let other_width : o.width ≡ i.width = sym (width_is o.words.items o.stride o.width o.rows c.other.invariant c.args.other.now c.other.view_is c.args.row c.requires.row) ∙ c.requires.width ∙ width in
    let other_stride = same_stride i.words.items o.words.items i.stride i.width i.rows o.stride o.width o.rows c.self.invariant c.other.invariant other_width in
    omega (arith, one_within o.words.items o.stride o.width o.rows c.other.invariant c.args.other.now c.other.view_is (other_stride ∙ c.if-self-eq1.true) c.args.row c.requires.row)

pub index_mut-requires : goal.index_mut-requires
index_mut-requires c = let i = c.self.inside in
    omega (arith, one_within i.words.items i.stride i.width i.rows c.self.invariant c.args.self.now c.self.view_is c.if-self-eq1.true c.args.to c.requires.to)

pub invariant_of-self : goal.invariant_of-self
invariant_of-self c =
    let i = c.self.inside in
    let o = c.other.inside in
    let width = width_is i.words.items i.stride i.width i.rows c.self.invariant c.args.self.now c.self.view_is c.args.to c.requires.to in
    let other_width : o.width ≡ i.width = sym (width_is o.words.items o.stride o.width o.rows c.other.invariant c.args.other.now c.other.view_is c.args.row c.requires.row) ∙ c.requires.width ∙ width in
    let other_stride = same_stride i.words.items o.words.items i.stride i.width i.rows o.stride o.width o.rows c.self.invariant c.other.invariant other_width in
    let seen = same_seen o.words.items i.stride i.width o.stride o.width o.rows other_stride other_width ∙ c.other.view_is in
    let are = same_shape o.words.items i.stride i.width o.stride o.width o.rows other_stride other_width c.other.invariant in
    one_rows i.words.items i.stride i.width i.rows c.self.invariant c.args.self.now c.self.view_is c.if-self-eq1.true c.args.to c.requires.to o.words.items c.args.row (λ a b. a) c.index.result.now
    (get_or_read o.words.items c.args.row c.index.result.now (one_within o.words.items o.stride o.width o.rows c.other.invariant c.args.other.now c.other.view_is (other_stride ∙ c.if-self-eq1.true) c.args.row c.requires.row) c.index.ensures 0)
    o.rows c.args.other.now are seen c.requires.row (λ a b. a) (λ a b j. refl) refl

pub returns-then-self-eq1 : goal.returns-then-self-eq1
returns-then-self-eq1 c =
    let i = c.self.inside in
    let o = c.other.inside in
    let width = width_is i.words.items i.stride i.width i.rows c.self.invariant c.args.self.now c.self.view_is c.args.to c.requires.to in
    let other_width : o.width ≡ i.width = sym (width_is o.words.items o.stride o.width o.rows c.other.invariant c.args.other.now c.other.view_is c.args.row c.requires.row) ∙ c.requires.width ∙ width in
    let other_stride = same_stride i.words.items o.words.items i.stride i.width i.rows o.stride o.width o.rows c.self.invariant c.other.invariant other_width in
    let seen = same_seen o.words.items i.stride i.width o.stride o.width o.rows other_stride other_width ∙ c.other.view_is in
    let are = same_shape o.words.items i.stride i.width o.stride o.width o.rows other_stride other_width c.other.invariant in
    one_view i.words.items i.stride i.width i.rows c.self.invariant c.args.self.now c.self.view_is c.if-self-eq1.true c.args.to c.requires.to o.words.items c.args.row (λ a b. a) c.index.result.now
    (get_or_read o.words.items c.args.row c.index.result.now (one_within o.words.items o.stride o.width o.rows c.other.invariant c.args.other.now c.other.view_is (other_stride ∙ c.if-self-eq1.true) c.args.row c.requires.row) c.index.ensures 0)
    o.rows c.args.other.now are seen c.requires.row (λ a b. a) (λ a b j. refl) refl
    ∙ ap (λ r. slice_set c.args.self.now c.args.to r) (joined_first (row_at c.args.other.now c.args.row) (row_at c.args.self.now c.args.to) c.requires.width)

pub copy_words-requires-clause-to : goal.copy_words-requires-clause-to
copy_words-requires-clause-to c = let i = c.self.inside in
    omega (arith, words_within i.words.items i.stride i.width i.rows c.self.invariant c.args.self.now c.self.view_is c.args.to c.requires.to, ap length c.deref_mut.ensures.value)

pub copy_words-requires-clause-at : goal.copy_words-requires-clause-at
copy_words-requires-clause-at c =
    let i = c.self.inside in
    let o = c.other.inside in
    let width = width_is i.words.items i.stride i.width i.rows c.self.invariant c.args.self.now c.self.view_is c.args.to c.requires.to in
    let other_width : o.width ≡ i.width = sym (width_is o.words.items o.stride o.width o.rows c.other.invariant c.args.other.now c.other.view_is c.args.row c.requires.row) ∙ c.requires.width ∙ width in
    let other_stride = same_stride i.words.items o.words.items i.stride i.width i.rows o.stride o.width o.rows c.self.invariant c.other.invariant other_width in
    subst (λ n. c.args.row * n + n ≤ length c.deref.result.now) other_stride
    (omega (arith, words_within o.words.items o.stride o.width o.rows c.other.invariant c.args.other.now c.other.view_is c.args.row c.requires.row, ap length c.deref.ensures.value))

pub invariant_of-self-2 : goal.invariant_of-self-2
invariant_of-self-2 c =
    let i = c.self.inside in
    let o = c.other.inside in
    let width = width_is i.words.items i.stride i.width i.rows c.self.invariant c.args.self.now c.self.view_is c.args.to c.requires.to in
    let other_width : o.width ≡ i.width = sym (width_is o.words.items o.stride o.width o.rows c.other.invariant c.args.other.now c.other.view_is c.args.row c.requires.row) ∙ c.requires.width ∙ width in
    let other_stride = same_stride i.words.items o.words.items i.stride i.width i.rows o.stride o.width o.rows c.self.invariant c.other.invariant other_width in
    let was = c.deref_mut.ensures.value in
    let size : length c.copy_words.new.words ≡ length i.words.items = c.copy_words.auto.words ∙ ap length was in
    let same = with_items_is i.words c.copy_words.new.words (omega (arith, size)) in
    let seen = same_seen o.words.items i.stride i.width o.stride o.width o.rows other_stride other_width ∙ c.other.view_is in
    let are = same_shape o.words.items i.stride i.width o.stride o.width o.rows other_stride other_width c.other.invariant in
    let others = λ (j : ℕ) (out : (j < c.args.to * i.stride) ⊎ (c.args.to * i.stride + i.stride ≤ j)). c.copy_words.ensures.others j out ∙ ap (λ ws. get_or ws j 0) was in
    let all_met = λ (k : ℕ) (lt : k < i.stride). c.copy_words.ensures.copied k lt ∙ ap (λ ws. get_or ws (c.args.row * i.stride + k) 0) c.deref.ensures.value in
    subst (λ ws. AreRows ws i.stride i.width i.rows) (sym same)
    (taken_rows i.words.items i.stride i.width i.rows c.self.invariant c.args.self.now c.self.view_is c.copy_words.new.words size c.args.to c.requires.to others o.words.items c.args.row o.rows c.args.other.now are seen c.requires.row (λ a b. a) (λ a b. a) (λ a b j. refl) refl all_met)

pub returns : goal.returns
returns c =
    let i = c.self.inside in
    let o = c.other.inside in
    let width = width_is i.words.items i.stride i.width i.rows c.self.invariant c.args.self.now c.self.view_is c.args.to c.requires.to in
    let other_width : o.width ≡ i.width = sym (width_is o.words.items o.stride o.width o.rows c.other.invariant c.args.other.now c.other.view_is c.args.row c.requires.row) ∙ c.requires.width ∙ width in
    let other_stride = same_stride i.words.items o.words.items i.stride i.width i.rows o.stride o.width o.rows c.self.invariant c.other.invariant other_width in
    let was = c.deref_mut.ensures.value in
    let size : length c.copy_words.new.words ≡ length i.words.items = c.copy_words.auto.words ∙ ap length was in
    let same = with_items_is i.words c.copy_words.new.words (omega (arith, size)) in
    let seen = same_seen o.words.items i.stride i.width o.stride o.width o.rows other_stride other_width ∙ c.other.view_is in
    let are = same_shape o.words.items i.stride i.width o.stride o.width o.rows other_stride other_width c.other.invariant in
    let others = λ (j : ℕ) (out : (j < c.args.to * i.stride) ⊎ (c.args.to * i.stride + i.stride ≤ j)). c.copy_words.ensures.others j out ∙ ap (λ ws. get_or ws j 0) was in
    let all_met = λ (k : ℕ) (lt : k < i.stride). c.copy_words.ensures.copied k lt ∙ ap (λ ws. get_or ws (c.args.row * i.stride + k) 0) c.deref.ensures.value in
    ap (λ ws. rows_in ws i.stride i.width i.rows) same ∙ (taken_view i.words.items i.stride i.width i.rows c.self.invariant c.args.self.now c.self.view_is c.copy_words.new.words size c.args.to c.requires.to others o.words.items c.args.row o.rows c.args.other.now are seen c.requires.row (λ a b. a) (λ a b. a) (λ a b j. refl) refl all_met)
    ∙ ap (λ r. slice_set c.args.self.now c.args.to r) (joined_first (row_at c.args.other.now c.args.row) (row_at c.args.self.now c.args.to) c.requires.width)
