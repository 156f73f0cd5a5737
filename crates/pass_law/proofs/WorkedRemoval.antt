-- An assignment was removed where nothing reads x behind its own note, though x is read behind an equal note of another place.
use Rattle.std.proofs.Common.{◌≡◌, ℕ, List, [], ◌∷◌, Option, Some, None, refl, sym, subst, slice_get, lit<}
use Rattle.graph_core.specs.declared.instruction.Callee.TheVariants.{Putchar}
use Rattle.graph_core.specs.Graphs.{Name, Constant, Of, NoteValue, Is, Instruction, Marker, Note, Call, End, Jump, Return, Block}
use Rattle.graph_core.specs.Uses.{targets_of}
use Rattle.graph_core.specs.Paths.{Among, History, Way, stays, passes, goes, Path, path, place_by, place_of}
use Rattle.graph_core.specs.Points.{ReadsNext}
use Rattle.pass_law.specs.Earned.{IsRemoved}
use Rattle.pass_law.specs.WorkedChanges.{notes_y_in, prints_x, assigning_again, noting_again}
use Rattle.pass_law.proofs.Inversions.{some_same, among_one, among_none, apart, to_block}

abbrev note : Instruction
note = Note 0 (Is (Of (Name 1)))

-- The points that paths come to, each with the place in force.
data IsPoint : Option ℕ → ℕ → List Instruction → End → Type 0 where
  entry : IsPoint None 0 (Marker 1 ∷ []) (Jump 1)
  entered : IsPoint (Some 1) 0 [] (Jump 1)
  second : IsPoint (Some 1) 1 (notes_y_in 2) (Jump 2)
  notes_second : IsPoint (Some 2) 1 (note ∷ []) (Jump 2)
  second_noted : IsPoint (Some 2) 1 [] (Jump 2)
  third : IsPoint (Some 2) 2 prints_x (Jump 3)
  prints : IsPoint (Some 3) 2 (Call None Putchar (Name 0 ∷ []) ∷ []) (Jump 3)
  printed : IsPoint (Some 3) 2 [] (Jump 3)
  fourth : IsPoint (Some 3) 3 (notes_y_in 4) (Jump 4)
  notes_fourth : IsPoint (Some 4) 3 (note ∷ []) (Jump 4)
  fourth_noted : IsPoint (Some 4) 3 [] (Jump 4)
  return : IsPoint (Some 4) 4 (Marker 5 ∷ []) (Return (Some (Constant 0)))
  returns : IsPoint (Some 5) 4 [] (Return (Some (Constant 0)))

goes_past : {p : Option ℕ} {n : ℕ} {i : Instruction} {left : List Instruction} {e : End} → IsPoint p n (i ∷ left) e → IsPoint (place_by i p) n left e
goes_past entry = entered
goes_past second = notes_second
goes_past notes_second = second_noted
goes_past third = prints
goes_past prints = printed
goes_past fourth = notes_fourth
goes_past notes_fourth = fourth_noted
goes_past return = returns

goes_along : {p : Option ℕ} {n l : ℕ} {e : End} → IsPoint p n [] e → Among l (targets_of e) → (b : Block) → slice_get noting_again.blocks l ≡ Some b → IsPoint p l b.instructions b.end
goes_along {l = l} entered a b is = to_block noting_again.blocks 1 _ refl (IsPoint (Some 1)) l b (among_one a) is second
goes_along {l = l} second_noted a b is = to_block noting_again.blocks 2 _ refl (IsPoint (Some 2)) l b (among_one a) is third
goes_along {l = l} printed a b is = to_block noting_again.blocks 3 _ refl (IsPoint (Some 3)) l b (among_one a) is fourth
goes_along {l = l} fourth_noted a b is = to_block noting_again.blocks 4 _ refl (IsPoint (Some 4)) l b (among_one a) is return
goes_along returns a b is = absurd (among_none a)

point_of_way : {h : History} {n : ℕ} {rest : List Instruction} {e : End} → Way noting_again 0 (Marker 1 ∷ []) (Jump 1) h n rest e → IsPoint (place_of h) n rest e
point_of_way stays = entry
point_of_way (passes way v) = goes_past (point_of_way way)
point_of_way (goes way a b is) = goes_along (point_of_way way) a b is

point : {h : History} {n : ℕ} {rest : List Instruction} {e : End} → Path noting_again h n rest e → IsPoint (place_of h) n rest e
point {h} {n} {rest} {e} (path b is way) = point_of_way (subst (λ (c : Block). Way noting_again 0 c.instructions c.end h n rest e) (sym (some_same is)) way)

-- The points from the note of the removed assignment on.
data IsLate : ℕ → List Instruction → End → Type 0 where
  removed : IsLate 3 [] (Jump 4)
  leaving : IsLate 4 (Marker 5 ∷ []) (Return (Some (Constant 0)))
  gone : IsLate 4 [] (Return (Some (Constant 0)))

late_past : {n : ℕ} {i : Instruction} {rest : List Instruction} {e : End} → IsLate n (i ∷ rest) e → IsLate n rest e
late_past leaving = gone

late_along : {n l : ℕ} {e : End} → IsLate n [] e → Among l (targets_of e) → (b : Block) → slice_get noting_again.blocks l ≡ Some b → IsLate l b.instructions b.end
late_along {l = l} removed a b is = to_block noting_again.blocks 4 _ refl IsLate l b (among_one a) is leaving
late_along gone a b is = absurd (among_none a)

late : {from : ℕ} {start : List Instruction} {first : End} {h : History} {m : ℕ} {rest : List Instruction} {f : End} → IsLate from start first → Way noting_again from start first h m rest f → IsLate m rest f
late at stays = at
late at (passes way v) = late_past (late at way)
late at (goes way a b is) = late_along (late at way) a b is

reads_nothing : {m : ℕ} {rest : List Instruction} {f : End} → IsLate m rest f → ReadsNext 0 rest f → ⊥
reads_nothing removed reads = among_none reads
reads_nothing leaving reads = among_none reads
reads_nothing gone reads = among_none reads

-- behind a note in place 4
late_behind : {p : Option ℕ} {n : ℕ} {v : NoteValue} {rest : List Instruction} {e : End} → IsPoint p n (Note 0 v ∷ rest) e → p ≡ Some 4 → IsLate n rest e
late_behind notes_second is = absurd (apart 2 4 (lit< tt) (some_same is))
late_behind notes_fourth is = removed

pub is_removed : IsRemoved assigning_again noting_again 4 0
is_removed = record {
  once = refl;
  none = refl;
  unread = λ hist v n rest e at place. λ h m more f way reads. absurd (reads_nothing (late (late_behind (point at) place) way) reads);
}
