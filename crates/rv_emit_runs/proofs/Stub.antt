-- What stands before all functions: it stands in the longest layout of its room.
use Rattle.std.proofs.Common.{◌≡◌, ℕ, zero, suc, ◌+◌, ◌≤◌, Some, List, length, slice_get, slice_index, get_or, refl, arith}
use Rattle.std.specs.List.{AllByRecursion}
use Rattle.memory_map.specs.declared.map.Map.{Map}
use Rattle.memory_map.specs.declared.map.Map.TheVariants.{One, Two}
use Rattle.memory_map.specs.declared.map.Room.{Room}
use Rattle.memory_map.specs.declared.map.Room.TheVariants.{Small, Large}
use Rattle.memory_map.specs.Maps.{map_of, stub_words}
use Rattle.graph_core.specs.Graphs.{UnitForm}
use Rattle.rv_emit_storage.specs.UnitMaps.{map_of_unit}
use Rattle.rv_emit_words.specs.declared.piece.Piece.{Piece}
use Rattle.rv_emit_words.specs.declared.piece.Piece.TheVariants.{Word, Jump, Branch, Call}
use Rattle.rv_emit_words.specs.declared.piece.PlacedPiece.{PlacedPiece}
use Rattle.rv_emit_layout.specs.declared.reaching.Reach.{Reach}
use Rattle.rv_emit_layout.specs.declared.reaching.Reach.TheVariants.{Near, Far}
use Rattle.rv_emit_layout.specs.Reaches.{farthest, width}
use Rattle.rv_emit_layout.specs.Layouts.{function_words, longest_layout, words_before, IsLayoutOf, IsNearEnough}
use Rattle.rv_emit_layout.specs.Laid.{layout_of_stub, stub_form, stub_of, IsCallNear}
use Rattle.rv_emit_runs.proofs.Lists.{all_at}

-- ---- How many words it has

words_long : (room : Room) (main : ℕ) → (longest_layout room (stub_form (map_of room) main)).words ≡ stub_words (map_of room)
words_long Small main = refl
words_long Large main = refl

-- As many as its memory says.
pub stub_begin : (u : UnitForm) → (layout_of_stub u).words ≡ stub_words (map_of_unit u)
unfolding map_of_unit
stub_begin u = words_long u.room u.main

words_counted : (room : Room) (main : ℕ) (firsts : List ℕ) → length (function_words (stub_form (map_of room) main) (longest_layout room (stub_form (map_of room) main)) 0 firsts) ≡ stub_words (map_of room)
words_counted Small main firsts = refl
words_counted Large main firsts = refl

pub stub_count : (u : UnitForm) (firsts : List ℕ) → length (function_words (stub_of u) (layout_of_stub u) 0 firsts) ≡ stub_words (map_of_unit u)
unfolding map_of_unit
stub_count u firsts = words_counted u.room u.main firsts

words_all : (room : Room) (main : ℕ) → words_before (longest_layout room (stub_form (map_of room) main)).reaches (stub_form (map_of room) main).pieces 5 ≡ stub_words (map_of room)
words_all Small main = refl
words_all Large main = refl

pub stub_ends : (u : UnitForm) → words_before (layout_of_stub u).reaches (stub_of u).pieces 5 ≡ stub_words (map_of_unit u)
unfolding map_of_unit
stub_ends u = words_all u.room u.main

-- These are few.
pub stub_few : (m : Map) → stub_words m ≤ 6
stub_few One = omega arith
stub_few Two = omega arith

-- ---- Its layout

-- A piece is a word or a call.
abbrev IsStraight : Piece → Type 0
IsStraight (Word i) = Unit {0}
IsStraight (Jump to) = ⊥
IsStraight (Branch op l r to) = ⊥
IsStraight (Call f) = Unit {0}

straight_near : (room : Room) (labels offsets : List ℕ) (x : Reach) (from : ℕ) (q : Piece) → IsStraight q → IsNearEnough room labels offsets x from q
straight_near room labels offsets x from (Word i) is = tt
straight_near room labels offsets x from (Jump to) is = absurd is
straight_near room labels offsets x from (Branch op l r to) is = absurd is
straight_near room labels offsets x from (Call f) is = tt

all_straight : (m : Map) (main : ℕ) → AllByRecursion (λ (x : PlacedPiece). IsStraight x.piece) (stub_form m main).pieces
all_straight m main = (tt, (tt, (tt, (tt, (tt, tt)))))

layout_stands : (room : Room) (main : ℕ) → IsLayoutOf room (stub_form (map_of room) main) (longest_layout room (stub_form (map_of room) main))
layout_stands Small main = record {
  count = refl;
  flags = refl;
  offsets = offsets;
  words = refl;
  widths = widths;
  near = λ k x at. straight_near Small (stub_form One main).labels (longest_layout Small (stub_form One main)).offsets (get_or (longest_layout Small (stub_form One main)).reaches k Near) (slice_index (longest_layout Small (stub_form One main)).offsets k) x.piece (all_at (λ (x : PlacedPiece). IsStraight x.piece) (stub_form One main).pieces k x (all_straight One main) at);
}
  where
    offsets : (k : ℕ) → k ≤ length (stub_form One main).pieces → slice_index (longest_layout Small (stub_form One main)).offsets k ≡ words_before (longest_layout Small (stub_form One main)).reaches (stub_form One main).pieces k
    offsets zero low = refl
    offsets (suc zero) low = refl
    offsets (suc (suc zero)) low = refl
    offsets (suc (suc (suc zero))) low = refl
    offsets (suc (suc (suc (suc zero)))) low = refl
    offsets (suc (suc (suc (suc (suc zero))))) low = refl
    offsets (suc (suc (suc (suc (suc (suc k)))))) low = absurd (omega (arith, low))

    widths : (k : ℕ) (x : PlacedPiece) → slice_get (stub_form One main).pieces k ≡ Some x → width (get_or (longest_layout Small (stub_form One main)).reaches k Near) x.piece ≤ width (farthest Small) x.piece
    widths zero x at = omega arith
    widths (suc zero) x at = omega arith
    widths (suc (suc zero)) x at = omega arith
    widths (suc (suc (suc zero))) x at = omega arith
    widths (suc (suc (suc (suc zero)))) x at = omega arith
    widths (suc (suc (suc (suc (suc k))))) x at = cc
layout_stands Large main = record {
  count = refl;
  flags = refl;
  offsets = offsets;
  words = refl;
  widths = widths;
  near = λ k x at. straight_near Large (stub_form Two main).labels (longest_layout Large (stub_form Two main)).offsets (get_or (longest_layout Large (stub_form Two main)).reaches k Near) (slice_index (longest_layout Large (stub_form Two main)).offsets k) x.piece (all_at (λ (x : PlacedPiece). IsStraight x.piece) (stub_form Two main).pieces k x (all_straight Two main) at);
}
  where
    offsets : (k : ℕ) → k ≤ length (stub_form Two main).pieces → slice_index (longest_layout Large (stub_form Two main)).offsets k ≡ words_before (longest_layout Large (stub_form Two main)).reaches (stub_form Two main).pieces k
    offsets zero low = refl
    offsets (suc zero) low = refl
    offsets (suc (suc zero)) low = refl
    offsets (suc (suc (suc zero))) low = refl
    offsets (suc (suc (suc (suc zero)))) low = refl
    offsets (suc (suc (suc (suc (suc zero))))) low = refl
    offsets (suc (suc (suc (suc (suc (suc k)))))) low = absurd (omega (arith, low))

    widths : (k : ℕ) (x : PlacedPiece) → slice_get (stub_form Two main).pieces k ≡ Some x → width (get_or (longest_layout Large (stub_form Two main)).reaches k Near) x.piece ≤ width (farthest Large) x.piece
    widths zero x at = omega arith
    widths (suc zero) x at = omega arith
    widths (suc (suc zero)) x at = omega arith
    widths (suc (suc (suc zero))) x at = omega arith
    widths (suc (suc (suc (suc zero)))) x at = omega arith
    widths (suc (suc (suc (suc (suc k))))) x at = cc

-- Its pieces stand there as a layout has them.
pub stub_laid : (u : UnitForm) → IsLayoutOf u.room (stub_of u) (layout_of_stub u)
unfolding map_of_unit
stub_laid u = layout_stands u.room u.main

-- ---- Its call

call_small : (firsts : List ℕ) (x : Reach) (here : ℕ) (q : Piece) → IsCallNear Small firsts x here q
call_small firsts x here (Word i) = tt
call_small firsts x here (Jump to) = tt
call_small firsts x here (Branch op l r to) = tt
call_small firsts x here (Call f) = λ other. tt

call_far : (room : Room) (firsts : List ℕ) (here : ℕ) (q : Piece) → IsCallNear room firsts Far here q
call_far room firsts here (Word i) = tt
call_far room firsts here (Jump to) = tt
call_far room firsts here (Branch op l r to) = tt
call_far room firsts here (Call f) = λ other. absurd (other refl)

calls_reach : (room : Room) (main : ℕ) (firsts : List ℕ) (here : ℕ → ℕ) (k : ℕ) (x : PlacedPiece) → slice_get (stub_form (map_of room) main).pieces k ≡ Some x
    → IsCallNear room firsts (get_or (longest_layout room (stub_form (map_of room) main)).reaches k Near) (here k) x.piece
calls_reach Small main firsts here k x at = call_small firsts (get_or (longest_layout Small (stub_form One main)).reaches k Near) (here k) x.piece
calls_reach Large main firsts here zero x at = call_far Large firsts (here 0) x.piece
calls_reach Large main firsts here (suc zero) x at = call_far Large firsts (here 1) x.piece
calls_reach Large main firsts here (suc (suc zero)) x at = call_far Large firsts (here 2) x.piece
calls_reach Large main firsts here (suc (suc (suc zero))) x at = call_far Large firsts (here 3) x.piece
calls_reach Large main firsts here (suc (suc (suc (suc zero)))) x at = call_far Large firsts (here 4) x.piece
calls_reach Large main firsts here (suc (suc (suc (suc (suc k))))) x at = cc

-- It reaches: in the larger room it has two words.
pub stub_calls : (u : UnitForm) (firsts : List ℕ) (here : ℕ → ℕ) (k : ℕ) (x : PlacedPiece) → slice_get (stub_of u).pieces k ≡ Some x → IsCallNear u.room firsts (get_or (layout_of_stub u).reaches k Near) (here k) x.piece
unfolding map_of_unit
stub_calls u firsts here k x at = calls_reach u.room u.main firsts here k x at
