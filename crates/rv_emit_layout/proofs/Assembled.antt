-- The code of a unit, put together of functions in the longest layout that got their own one.
use Rattle.std.proofs.Common.{◌≡◌, ◌≤◌, ◌<◌, ℕ, ◌+◌, List, [], ◌∷◌, ◌++◌, length, refl, sym, ap, ◌∙◌, subst, arith}
use Rattle.std.proofs.lemmas.List.{length-append}
use Rattle.std.specs.List.{AllByRecursion}
use Rattle.memory_map.specs.Maps.{most_words}
use Rattle.memory_map.specs.declared.map.Room.{Room}
use Rattle.graph_core.specs.Graphs.{Graph}
use Rattle.graph_core.specs.Validity.{IsValid}
use Rattle.graph_homes.specs.Homed.{HomedForm}
use Rattle.rv_emit_storage.specs.UnitMaps.{map_of_unit}
use Rattle.rv_emit_sequence.specs.Sequences.{counted}
use Rattle.rv_emit_layout.specs.declared.layout.OwnedWord.{OwnedWord}
use Rattle.rv_emit_layout.specs.Laid.{all_shortened, firsts_from, layout_of_stub, pieces_in, stub_of, words_of_all, AreAllCallsNear, AreDrawn, AreLaid, CodedForm, IsCodeOf, IsLongest, LaidForm, StaticForm}
use Rattle.rv_emit_layout.specs.Layouts.{function_words, most_pieces}
use Rattle.rv_emit_layout.specs.Words.{most_words_of_graphs}
use Rattle.rv_emit_layout.proofs.CallsNear.{calls_near}
use Rattle.rv_emit_layout.proofs.FewWords.{all_count, few_words, form_most, graphs_few, shortened_most, stub_count, stub_few}
use Rattle.rv_emit_layout.proofs.Shortened.{shortened_laid}

-- As many functions are drawn as there are.
drawn_count : (h : HomedForm) (s : StaticForm) (f : ℕ) (graphs : List Graph) (all : List LaidForm) → AreDrawn h s f graphs all → length all ≡ length graphs
drawn_count h s f [] [] drawn = refl
drawn_count h s f [] (l ∷ more) drawn = absurd drawn
drawn_count h s f (g ∷ graphs) [] drawn = absurd drawn
drawn_count h s f (g ∷ graphs) (l ∷ more) drawn = omega (arith, drawn_count h s (counted (f + 1)) graphs more drawn.1)

-- The code of a unit: its functions are drawn in the longest layout, so many words stand before each there, each gets its own layout, and so many stand before each then.
pub record Parts (h : HomedForm) (s : StaticForm) (all : List LaidForm) (before : List ℕ) (c : CodedForm) : Type 0 where
  pub drawn : AreDrawn h s 0 h.unit.graphs all
  pub each : AllByRecursion (IsLongest h.unit.room) all
  pub longest : before ≡ firsts_from (layout_of_stub h.unit).words all
  pub shortened : c.all ≡ all_shortened h.unit.room before 0 all
  pub firsts : c.firsts ≡ firsts_from (layout_of_stub h.unit).words c.all
  pub words : c.words ≡ function_words (stub_of h.unit) (layout_of_stub h.unit) 0 c.firsts ++ words_of_all c.firsts 0 c.all

pub is_code : (h : HomedForm) (s : StaticForm) (all : List LaidForm) (before : List ℕ) (c : CodedForm) → IsValid h.unit → Parts h s all before c → IsCodeOf h s c
is_code h s all before c valid parts =
    let room = h.unit.room in
    let count : length all ≡ length h.unit.graphs = drawn_count h s 0 h.unit.graphs all parts.drawn in
    let functions : length h.unit.graphs ≤ 256 = valid.functions in
    let stub = stub_few h.unit in
    record {
      laid = subst (λ l. AreLaid h s 0 h.unit.graphs l) (sym parts.shortened) (shortened_laid h s before 0 h.unit.graphs all parts.drawn parts.each);
      firsts = parts.firsts;
      calls = λ few. subst (λ l. AreAllCallsNear room c.firsts l) (sym parts.shortened)
          (calls_near room (layout_of_stub h.unit).words all before c.firsts (omega (arith, stub)) (omega (arith, count, functions)) parts.each parts.longest
          (parts.firsts ∙ ap (λ l. firsts_from (layout_of_stub h.unit).words l) parts.shortened) (subst (λ l. pieces_in l < most_pieces) parts.shortened few));
      words = parts.words;
    }

-- As many pieces have the functions in their own layout.
pub same_most : (room : Room) (before : List ℕ) (all new : List LaidForm) → new ≡ all_shortened room before 0 all → form_most new ≡ form_most all
same_most room before all new is = ap form_most is ∙ shortened_most room before 0 all

-- Code that is made without plans has room.
pub code_few : (h : HomedForm) (s : StaticForm) (c : CodedForm) → IsValid h.unit → IsCodeOf h s c → form_most c.all ≤ most_words_of_graphs h.unit.graphs → length c.words ≤ most_words (map_of_unit h.unit)
code_few h s c valid code few =
    let low : form_most c.all ≤ most_pieces = omega (arith, few, graphs_few h.unit valid) in
    let count = ap (λ (l : List OwnedWord). length l) code.words in
    let both = length-append (function_words (stub_of h.unit) (layout_of_stub h.unit) 0 c.firsts) (words_of_all c.firsts 0 c.all) in
    let stub = stub_count h.unit c.firsts in
    let words = all_count c.firsts 0 c.all low in
    let most = few_words h s c.all valid code.laid few in
    omega (arith, count, both, stub, words, most)
