-- Functions that are drawn in the longest layout, once each has its own layout.
use Rattle.std.proofs.Common.{◌≡◌, ℕ, ◌+◌, ◌==◌, List, [], ◌∷◌, ◌++◌, length, map, slice_index, refl, sym, ap, subst, arith}
use Rattle.std.specs.List.{AllByRecursion}
use Rattle.memory_map.specs.declared.map.Room.{Room}
use Rattle.graph_core.specs.Graphs.{Graph}
use Rattle.graph_homes.specs.Homed.{HomedForm, homes_in}
use Rattle.rv_emit_sequence.specs.Sequences.{counted}
use Rattle.rv_emit_layout.specs.Laid.{all_shortened, shortened, AreDrawn, AreLaid, IsDrawnOf, IsLaidOf, IsLongest, LaidForm, StaticForm}
use Rattle.rv_emit_layout.specs.Layouts.{layout_of, LayoutForm, LongestForm}
use Rattle.rv_emit_layout.specs.Longest.{longest}
use Rattle.rv_emit_layout.proofs.Layouts.{layout_is}

-- As many functions are shortened as there are.
pub shortened_count : (room : Room) (firsts : List ℕ) (f : ℕ) (all : List LaidForm) → length (all_shortened room firsts f all) ≡ length all
shortened_count room firsts f [] = refl
shortened_count room firsts f (x ∷ more) = omega (arith, shortened_count room firsts (counted (f + 1)) more)

-- Such functions are laid out.
pub shortened_laid : (h : HomedForm) (s : StaticForm) (firsts : List ℕ) (f : ℕ) (graphs : List Graph) (all : List LaidForm) → AreDrawn h s f graphs all → AllByRecursion (IsLongest h.unit.room) all
    → AreLaid h s f graphs (all_shortened h.unit.room firsts f all)
shortened_laid h s firsts f [] [] drawn long = tt
shortened_laid h s firsts f [] (x ∷ more) drawn long = absurd drawn
shortened_laid h s firsts f (g ∷ graphs) [] drawn long = absurd drawn
shortened_laid h s firsts f (g ∷ graphs) (x ∷ more) drawn long = (one, shortened_laid h s firsts (counted (f + 1)) graphs more drawn.1 long.1)
  where
    measured : LongestForm
    measured = record { room = h.unit.room; first = slice_index firsts f; firsts = firsts; offsets = x.layout.offsets }

    offsets : x.layout.offsets ≡ longest h.unit.room x.sequence
    offsets = ap (λ (l : LayoutForm). l.offsets) long.0

    one : IsLaidOf h.unit.room s g (homes_in h f) (f == h.unit.main) (shortened h.unit.room firsts f x)
    one = record {
      drawn = record {
        saved = drawn.0.saved;
        slots = drawn.0.slots;
        objects = drawn.0.objects;
        size = drawn.0.size;
        sequence = drawn.0.sequence;
      };
      layout = λ few. layout_is measured x.sequence (layout_of measured x.sequence) refl offsets few;
    }

-- One more that stands in the longest layout.
pub longest_more : {A : Type 0} (view : A → LaidForm) (room : Room) (xs ys : List A) (one : A) → ys ≡ xs ++ one ∷ [] → AllByRecursion (IsLongest room) (map view xs) → IsLongest room (view one) → AllByRecursion (IsLongest room) (map view ys)
longest_more {A = A} view room xs ys one put all last = subst (λ l. AllByRecursion (IsLongest room) (map view l)) (sym put) (go xs all)
  where
    go : (xs : List A) → AllByRecursion (IsLongest room) (map view xs) → AllByRecursion (IsLongest room) (map view (xs ++ one ∷ []))
    go [] all = (last, tt)
    go (x ∷ xs) all = (all.0, go xs all.1)
