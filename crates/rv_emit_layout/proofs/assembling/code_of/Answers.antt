use Rattle.std.proofs.Common.{◌≡◌, ◌≤◌, ◌++◌, [], ℕ, List, length, map, refl, sym, ap, ◌∙◌, arith}
use Rattle.std.specs.Vec.{with_items}
use Rattle.std.proofs.lemmas.List.{with_items_is}
use Rattle.graph_core.specs.Graphs.{unit_view}
use Rattle.graph_homes.specs.Homed.{homed_view}
use Rattle.rv_emit_sequence.specs.Sequences.{sequence_view}
use Rattle.rv_emit_layout.specs.declared.layout.OwnedWord.{OwnedWord}
use Rattle.rv_emit_layout.specs.declared.laying.Laid.{Laid}
use Rattle.rv_emit_layout.specs.Laid.{all_shortened, firsts_from, laid_view, layout_of_stub, static_view, stub_form, stub_of, words_of_all, CodedForm}
use Rattle.rv_emit_layout.specs.Layouts.{function_words, layout_view, longest_layout, LayoutForm}
use Rattle.rv_emit_layout.proofs.Assembled.{code_few, is_code, same_most}
use Rattle.rv_emit_layout.proofs.FewWords.{view_most}
use Rattle.rv_emit_layout.proofs.assembling.code_of.Goals as goal

pub returns-clause-code : goal.returns-clause-code
returns-clause-code c =
    let u = unit_view c.args.homed.now.unit in
    let old = c.in_ok-all.all.items in
    let new = c.shorten_all.new.all in
    let was : c.deref_mut.result.now ≡ old = c.deref_mut.ensures.value in
    let size : length new ≡ length old = c.shorten_all.auto.all ∙ ap (λ (l : List Laid). length l) was in
    let same = with_items_is c.in_ok-all.all new (omega (arith, size, c.in_ok-all.all.ok.0)) in
    let before : sequence_view c.in_ok-before.before ≡ stub_of u = c.in_ok-before.ensures.form ∙ ap (λ m. stub_form m u.main) c.map_of_unit.ensures in
    let stub : layout_view c.in_ok-stub.stub ≡ layout_of_stub u = c.in_ok-stub.ensures ∙ ap (λ s. longest_layout u.room s) before in
    let words : c.in_ok-stub.stub.words ≡ (layout_of_stub u).words = ap (λ (l : LayoutForm). l.words) stub in
    let first : c.push_words.new.code.items ≡ function_words (stub_of u) (layout_of_stub u) 0 c.in_ok-firsts.firsts.items =
    c.in_ok-push_words.ensures
    ∙ ap (λ (l : List OwnedWord). l ++ function_words (sequence_view c.in_ok-before.before) (layout_view c.in_ok-stub.stub) 0 c.deref-4.result.now) c.new-words.ensures.items
    ∙ ap (λ s. function_words s (layout_view c.in_ok-stub.stub) 0 c.deref-4.result.now) before
    ∙ ap (λ y. function_words (stub_of u) y 0 c.deref-4.result.now) stub
    ∙ ap (λ firsts. function_words (stub_of u) (layout_of_stub u) 0 firsts) c.deref-4.ensures.value in
    is_code (homed_view c.args.homed.now) (static_view c.args.statics.now) (map laid_view old) c.in_ok-longest.longest.items _ c.requires.valid (record {
      drawn = c.in_ok-all.ensures.drawn;
      each = c.in_ok-all.ensures.longest;
      longest = c.in_ok-longest.ensures ∙ ap (λ (l : List Laid). firsts_from c.in_ok-stub.stub.words (map laid_view l)) c.deref.ensures.value ∙ ap (λ n. firsts_from n (map laid_view old)) words;
      shortened = ap (λ (l : List Laid). map laid_view l) same ∙ c.in_ok-shorten_all.ensures ∙ ap (λ (l : List Laid). all_shortened u.room c.deref-2.result.now 0 (map laid_view l)) was
          ∙ ap (λ firsts. all_shortened u.room firsts 0 (map laid_view old)) c.deref-2.ensures.value;
      firsts = c.in_ok-firsts.ensures ∙ ap (λ (l : List Laid). firsts_from c.in_ok-stub.stub.words (map laid_view l)) c.deref-3.ensures.value ∙ ap (λ n. firsts_from n (map laid_view (with_items c.in_ok-all.all new).items)) words;
      words = c.in_ok-push_functions.ensures ∙ ap (λ (l : List OwnedWord). l ++ words_of_all c.deref-6.result.now 0 (map laid_view c.deref-5.result.now)) first
          ∙ ap (λ firsts. function_words (stub_of u) (layout_of_stub u) 0 c.in_ok-firsts.firsts.items ++ words_of_all firsts 0 (map laid_view c.deref-5.result.now)) c.deref-6.ensures.value
          ∙ ap (λ (l : List Laid). function_words (stub_of u) (layout_of_stub u) 0 c.in_ok-firsts.firsts.items ++ words_of_all c.in_ok-firsts.firsts.items 0 (map laid_view l)) c.deref-5.ensures.value;
    })

pub returns-clause-few : goal.returns-clause-few
returns-clause-few c = λ plain.
    let u = unit_view c.args.homed.now.unit in
    let old = c.in_ok-all.all.items in
    let new = c.shorten_all.new.all in
    let was : c.deref_mut.result.now ≡ old = c.deref_mut.ensures.value in
    let size : length new ≡ length old = c.shorten_all.auto.all ∙ ap (λ (l : List Laid). length l) was in
    let same = with_items_is c.in_ok-all.all new (omega (arith, size, c.in_ok-all.all.ok.0)) in
    let shortened = ap (λ (l : List Laid). map laid_view l) same ∙ c.in_ok-shorten_all.ensures ∙ ap (λ (l : List Laid). all_shortened u.room c.deref-2.result.now 0 (map laid_view l)) was in
    code_few (homed_view c.args.homed.now) (static_view c.args.statics.now) _ c.requires.valid (returns-clause-code c)
    (omega (arith, same_most u.room c.deref-2.result.now (map laid_view old) _ shortened, view_most old, c.in_ok-all.ensures.few plain))
