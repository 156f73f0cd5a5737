-- The code of a unit has no more words than its memory has room for, where it is made without plans.
use Rattle.std.proofs.Common.{◌≡◌, ◌≤◌, ◌<◌, ℕ, ◌+◌, ◌*◌, List, [], ◌∷◌, length, map, replicate, slice_index, refl, sym, ap, ◌∙◌, subst, drop, get_or, arith}
use Rattle.std.proofs.lemmas.List.{length-append}
use Rattle.memory_map.specs.Maps.{map_of, most_words}
use Rattle.memory_map.specs.declared.map.Map.{Map}
use Rattle.memory_map.specs.declared.map.Room.{Room}
use Rattle.memory_map.specs.declared.map.Room.TheVariants.{Small, Large}
use Rattle.graph_core.specs.Bounds.{most_blocks, most_instructions}
use Rattle.graph_core.specs.Graphs.{Graph, UnitForm}
use Rattle.graph_core.specs.Validity.{instructions_of, total, IsValid}
use Rattle.graph_homes.specs.Homed.{HomedForm}
use Rattle.rv_emit_storage.specs.UnitMaps.{map_of_unit}
use Rattle.rv_emit_words.specs.declared.piece.Piece.{Piece}
use Rattle.rv_emit_words.specs.declared.piece.Piece.TheVariants.{Word, Jump, Branch, Call}
use Rattle.rv_emit_words.specs.declared.piece.PlacedPiece.{PlacedPiece}
use Rattle.rv_emit_words.specs.Words.{words_in, words_of_piece}
use Rattle.rv_emit_sequence.specs.Sequences.{counted}
use Rattle.rv_emit_layout.specs.declared.laying.Laid.{Laid}
use Rattle.rv_emit_layout.specs.declared.reaching.Reach.{Reach}
use Rattle.rv_emit_layout.specs.Laid.{all_shortened, laid_view, layout_of_stub, stub_form, stub_of, words_of_all, AreLaid, LaidForm, StaticForm}
use Rattle.rv_emit_layout.specs.Layouts.{function_words, longest_layout, most_pieces, words_before}
use Rattle.rv_emit_layout.specs.Longest.{longest_words}
use Rattle.rv_emit_layout.specs.Reaches.{farthest}
use Rattle.rv_emit_layout.specs.Words.{most_laid_words, most_words_of_graphs}
use Rattle.rv_emit_layout.proofs.Bound.{few_large, few_small, longest_large, longest_small}
use Rattle.rv_emit_layout.proofs.Layouts.{function_count}
use Rattle.rv_emit_layout.proofs.Leading.{leads, leads_all}
use Rattle.rv_emit_layout.proofs.LongestLayout.{within_rest, AreWithin}

-- How many words functions have, and how many pieces they have at most as far as jumps and calls have one word.
abbrev pub form_words : List LaidForm → ℕ
form_words all = total (λ (l : LaidForm). words_before l.layout.reaches l.sequence.pieces (length l.sequence.pieces)) all

abbrev pub form_most : List LaidForm → ℕ
form_most all = total (λ (l : LaidForm). words_in l.sequence.pieces) all

-- So the code tells it.
pub view_most : (all : List Laid) → most_laid_words all ≡ form_most (map laid_view all)
view_most [] = refl
view_most (l ∷ more) = ap (λ n. words_in l.sequence.pieces.items + n) (view_most more)

-- A shorter layout is of the same pieces.
pub shortened_most : (room : Room) (firsts : List ℕ) (f : ℕ) (all : List LaidForm) → form_most (all_shortened room firsts f all) ≡ form_most all
shortened_most room firsts f [] = refl
shortened_most room firsts f (l ∷ more) = ap (λ n. words_in l.sequence.pieces + n) (shortened_most room firsts (counted (f + 1)) more)

-- ---- By pieces

piece_some : (x : Piece) → 1 ≤ words_of_piece x
piece_some (Word i) = omega arith
piece_some (Jump to) = omega arith
piece_some (Branch op l r to) = omega arith
piece_some (Call f) = omega arith

pieces_few : (pieces : List PlacedPiece) → length pieces ≤ words_in pieces
pieces_few [] = omega arith
pieces_few (p ∷ more) = omega (arith, piece_some p.piece, pieces_few more)

-- So many words stand behind each other.
pub all_count : (firsts : List ℕ) (f : ℕ) (all : List LaidForm) → form_most all ≤ most_pieces → length (words_of_all firsts f all) ≡ form_words all
all_count firsts f [] few = refl
all_count firsts f (l ∷ more) few = omega (
  arith,
  length-append (function_words l.sequence l.layout (slice_index firsts f) firsts) (words_of_all firsts (counted (f + 1)) more),
  function_count l.sequence l.layout (slice_index firsts f) firsts (omega (arith, few, pieces_few l.sequence.pieces)),
  all_count firsts (counted (f + 1)) more (omega (arith, few)),
)

-- No layout has more words than the longest one.
whole_most : (room : Room) (reaches : List Reach) (pieces : List PlacedPiece) → AreWithin room reaches pieces → words_before reaches pieces (length pieces) ≤ longest_words room pieces
whole_most room reaches [] all = omega arith
whole_most room reaches (p ∷ more) all = omega (arith, all 0 p refl, whole_most room (drop 1 reaches) more (within_rest room reaches p more all))

all_most : (h : HomedForm) (s : StaticForm) (f : ℕ) (graphs : List Graph) (all : List LaidForm) → AreLaid h s f graphs all → form_most all ≤ most_pieces
    → form_words all ≤ total (λ (l : LaidForm). longest_words h.unit.room l.sequence.pieces) all
all_most h s f [] [] laid few = omega arith
all_most h s f [] (l ∷ more) laid few = absurd laid
all_most h s f (g ∷ graphs) [] laid few = absurd laid
all_most h s f (g ∷ graphs) (l ∷ more) laid few =
    let layout = laid.0.layout (omega (arith, few, pieces_few l.sequence.pieces)) in
    omega (
      arith,
      whole_most h.unit.room l.layout.reaches l.sequence.pieces layout.widths,
      all_most h s (counted (f + 1)) graphs more laid.1 (omega (arith, few)),
    )

all_small : (all : List LaidForm) → total (λ (l : LaidForm). longest_words Small l.sequence.pieces) all ≡ form_most all
all_small [] = refl
all_small (l ∷ more) = omega (arith, longest_small l.sequence.pieces, all_small more)

all_large : (all : List LaidForm) → total (λ (l : LaidForm). longest_words Large l.sequence.pieces) all ≡ form_most all + total (λ (l : LaidForm). leads l.sequence.pieces) all
all_large [] = refl
all_large (l ∷ more) = omega (arith, longest_large l.sequence.pieces, all_large more)

-- ---- All of them

-- What stands before all functions has so many words.
abbrev pub before_words : Room → ℕ
before_words Small = 5
before_words Large = 6

stub_before : (room : Room) (m : Map) (main : ℕ)
    → words_before (replicate (length (stub_form m main).pieces) (farthest room)) (stub_form m main).pieces (length (stub_form m main).pieces) ≡ before_words room
stub_before Small m main = refl
stub_before Large m main = refl

pub stub_count : (u : UnitForm) (firsts : List ℕ) → length (function_words (stub_of u) (layout_of_stub u) 0 firsts) ≡ before_words u.room
stub_count u firsts = function_count (stub_of u) (layout_of_stub u) 0 firsts (omega arith) ∙ stub_before u.room (map_of_unit u) u.main

stub_longest : (room : Room) (m : Map) (main : ℕ) → (longest_layout room (stub_form m main)).words ≤ 6
stub_longest Small m main = omega arith
stub_longest Large m main = omega arith

pub stub_few : (u : UnitForm) → (layout_of_stub u).words ≤ 6
stub_few u = stub_longest u.room (map_of_unit u) u.main

-- In either room the pieces are few.
pub graphs_few : (u : UnitForm) → IsValid u → most_words_of_graphs u.graphs ≤ 2297920
graphs_few u valid = go u.room refl
  where
    go : (room : Room) → u.room ≡ room → most_words_of_graphs u.graphs ≤ 2297920
    go Small small = omega (arith, few_small u small valid)
    go Large large = few_large u large valid

pub few_words : (h : HomedForm) (s : StaticForm) (all : List LaidForm) → IsValid h.unit → AreLaid h s 0 h.unit.graphs all → form_most all ≤ most_words_of_graphs h.unit.graphs
    → before_words h.unit.room + form_words all ≤ most_words (map_of_unit h.unit)
unfolding map_of_unit
few_words h s all valid laid few = go h.unit.room refl
  where
    go : (room : Room) → h.unit.room ≡ room → before_words h.unit.room + form_words all ≤ most_words (map_of h.unit.room)
    go Small small =
        let most : form_most all ≤ 262139 = omega (arith, few, few_small h.unit small valid) in
        let words : form_words all ≤ total (λ (l : LaidForm). longest_words Small l.sequence.pieces) all =
        subst (λ r. form_words all ≤ total (λ (l : LaidForm). longest_words r l.sequence.pieces) all) small (all_most h s 0 h.unit.graphs all laid (omega (arith, most))) in
        let same = all_small all in
        let fits : 5 + form_words all ≤ 262144 = omega (arith, most, words, same) in
        subst (λ r. before_words r + form_words all ≤ most_words (map_of r)) (sym small) fits
    go Large large =
        let most : form_most all ≤ 2297920 = omega (arith, few, few_large h.unit large valid) in
        let words : form_words all ≤ total (λ (l : LaidForm). longest_words Large l.sequence.pieces) all =
        subst (λ r. form_words all ≤ total (λ (l : LaidForm). longest_words r l.sequence.pieces) all) large (all_most h s 0 h.unit.graphs all laid (omega (arith, most))) in
        let blocks : total (λ (g : Graph). length g.blocks) h.unit.graphs ≤ 120000 = subst (λ r. total (λ (g : Graph). length g.blocks) h.unit.graphs ≤ most_blocks r) large valid.blocks in
        let instructions : total instructions_of h.unit.graphs ≤ 80000 = subst (λ r. total instructions_of h.unit.graphs ≤ most_instructions r) large valid.instructions in
        let leading = leads_all h s 0 h.unit.graphs all (omega (arith, blocks)) laid in
        let same = all_large all in
        let fits : 6 + form_words all ≤ 4194304 = omega (arith, most, words, same, leading, blocks, instructions) in
        subst (λ r. before_words r + form_words all ≤ most_words (map_of r)) (sym large) fits
