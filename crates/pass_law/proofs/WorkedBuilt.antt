-- The unit of a small program is well marked.
use Rattle.std.proofs.Common.{◌≡◌, ◌≢◌, ℕ, zero, suc, inl, true, false, List, [], ◌∷◌, length, Option, Some, None, refl, sym, subst, slice_get, lit≤, lit<}
use Rattle.places.specs.Flow.{can_go, assigns}
use Rattle.graph_core.specs.declared.instruction.Callee.TheVariants.{Putchar}
use Rattle.graph_core.specs.declared.value.Value.{Value}
use Rattle.graph_core.specs.Graphs.{Operand, Name, Constant, Of, NoteValue, Is, Instruction, Marker, Note, Move, Zero, CopyWords, Call, End, Jump, Return, Block, Graph}
use Rattle.graph_core.specs.Uses.{targets_of}
use Rattle.graph_core.specs.Paths.{Passed, History, Among, Way, stays, passes, goes, Path, path, place_of, writes, is_call, written, owed}
use Rattle.graph_core.specs.Validity.{IsValid}
use Rattle.graph_core.specs.WellMarked as marked
use Rattle.graph_core.specs.WellMarked.{StandsIn, here, InPlace, ComesToMarker, at_marker, WrittenIn, instruction, bound, IsRightNote, IsWellMarked, AreWellMarked}
use Rattle.pass_law.specs.Worked.{block, entry_block, return_block, assigns_two, unreached, unreached_block, assigning, built}
use Rattle.pass_law.proofs.Inversions.{some_same, none_is_some, false_is_true, among_one, among_none, only_scalar, no_local, apart, only_block, each_block, to_block}
use Rattle.pass_law.proofs.WorkedValid.{valid_with}

abbrev passed : ℕ → ℕ → Instruction → Value → Passed
passed n left i v = record { block = n; left = left; instruction = i; wrote = v }

abbrev move : Instruction
move = Move 0 (Constant 2)

abbrev note : Instruction
note = Note 0 (Is (Of (Name 0)))

-- What was passed before each instruction of the way through the graph.
abbrev at_entry : Value → History
at_entry u = passed 0 0 (Marker 1) u ∷ []

abbrev at_assignment : Value → Value → History
at_assignment u v = passed 1 2 (Marker 2) v ∷ at_entry u

abbrev moved : Value → Value → Value → History
moved u v w = passed 1 1 move w ∷ at_assignment u v

abbrev noted : Value → Value → Value → Value → History
noted u v w x = passed 1 0 note x ∷ moved u v w

abbrev at_return : Value → Value → Value → Value → Value → History
at_return u v w x y = passed 2 0 (Marker 3) y ∷ noted u v w x

-- The points that paths come to, each with what was passed before it.
data IsPoint : History → ℕ → List Instruction → End → Type 0 where
  entry : IsPoint [] 0 (Marker 1 ∷ []) (Jump 1)
  entered : (u : Value) → IsPoint (at_entry u) 0 [] (Jump 1)
  assignment : (u : Value) → IsPoint (at_entry u) 1 (Marker 2 ∷ move ∷ note ∷ []) (Jump 2)
  moves : (u v : Value) → IsPoint (at_assignment u v) 1 (move ∷ note ∷ []) (Jump 2)
  notes : (u v w : Value) → IsPoint (moved u v w) 1 (note ∷ []) (Jump 2)
  assigned : (u v w x : Value) → IsPoint (noted u v w x) 1 [] (Jump 2)
  return : (u v w x : Value) → IsPoint (noted u v w x) 2 (Marker 3 ∷ []) (Return (Some (Name 0)))
  returns : (u v w x y : Value) → IsPoint (at_return u v w x y) 2 [] (Return (Some (Name 0)))

goes_past : {h : History} {n : ℕ} {i : Instruction} {left : List Instruction} {e : End} → IsPoint h n (i ∷ left) e → (v : Value) → IsPoint (passed n (length left) i v ∷ h) n left e
goes_past entry u = entered u
goes_past (assignment u) v = moves u v
goes_past (moves u v) w = notes u v w
goes_past (notes u v w) x = assigned u v w x
goes_past (return u v w x) y = returns u v w x y

goes_along : {h : History} {n l : ℕ} {e : End} → IsPoint h n [] e → Among l (targets_of e) → (b : Block) → slice_get assigning.blocks l ≡ Some b → IsPoint h l b.instructions b.end
goes_along {l = l} (entered u) a b is = to_block assigning.blocks 1 _ refl (IsPoint (at_entry u)) l b (among_one a) is (assignment u)
goes_along {l = l} (assigned u v w x) a b is = to_block assigning.blocks 2 _ refl (IsPoint (noted u v w x)) l b (among_one a) is (return u v w x)
goes_along (returns u v w x y) a b is = absurd (among_none a)

point_of_way : {h : History} {n : ℕ} {rest : List Instruction} {e : End} → Way assigning 0 (Marker 1 ∷ []) (Jump 1) h n rest e → IsPoint h n rest e
point_of_way stays = entry
point_of_way (passes way v) = goes_past (point_of_way way) v
point_of_way (goes way a b is) = goes_along (point_of_way way) a b is

point : {h : History} {n : ℕ} {rest : List Instruction} {e : End} → Path assigning h n rest e → IsPoint h n rest e
point {h} {n} {rest} {e} (path b is way) = point_of_way (subst (λ (c : Block). Way assigning 0 c.instructions c.end h n rest e) (sym (some_same is)) way)

-- The instructions in their places. The marker of the entry stands in none.
data IsIn : ℕ → Instruction → Type 0 where
  second : IsIn 1 (Marker 2)
  move_in : IsIn 2 move
  note_in : IsIn 2 note
  third : IsIn 2 (Marker 3)
  unreached_call : IsIn 2 (Call None Putchar (Name 0 ∷ []))

in_first : {p : ℕ} {i : Instruction} → StandsIn p i None (Marker 1 ∷ []) → IsIn p i
in_first (marked.behind s) = elim s [ ]

in_second : {p : ℕ} {i : Instruction} → StandsIn p i (Some 1) (Marker 2 ∷ move ∷ note ∷ []) → IsIn p i
in_second here = second
in_second (marked.behind here) = move_in
in_second (marked.behind (marked.behind here)) = note_in
in_second (marked.behind (marked.behind (marked.behind s))) = elim s [ ]

in_third : {p : ℕ} {i : Instruction} → StandsIn p i (Some 2) (Marker 3 ∷ []) → IsIn p i
in_third here = third
in_third (marked.behind s) = elim s [ ]

in_unreached : {p : ℕ} {i : Instruction} → StandsIn p i (Some 2) unreached → IsIn p i
in_unreached here = note_in
in_unreached (marked.behind here) = unreached_call
in_unreached (marked.behind (marked.behind s)) = elim s [ ]

-- what is so of each block is so of that of a number
each : (P : Block → Type 0) → P entry_block → P (block (Some 1) assigns_two (Jump 2)) → P (return_block (Name 0)) → P unreached_block → (n : ℕ) (b : Block) → slice_get assigning.blocks n ≡ Some b → P b
each P p q r s = each_block assigns_two (Name 0) (unreached_block ∷ []) P p q r (only_block P unreached_block s)

in_place : {p : ℕ} {i : Instruction} → InPlace assigning p i → IsIn p i
in_place {p} {i} at = each (λ (b : Block). StandsIn p i b.place b.instructions → IsIn p i) in_first in_second in_third in_unreached at.number at.block at.is at.stands

flow : {h : History} {n q : ℕ} {rest : List Instruction} {e : End} → IsPoint h n (Marker q ∷ rest) e → (p : ℕ) → place_of h ≡ Some p → can_go built.steps p q ≡ true
flow entry p is = absurd (none_is_some is)
flow (assignment u) p is = subst (λ k. can_go built.steps k 2 ≡ true) (some_same is) refl
flow (return u v w x) p is = subst (λ k. can_go built.steps k 3 ≡ true) (some_same is) refl

leave : {h : History} {n : ℕ} {a : Option Operand} → IsPoint h n [] (Return a) → place_of h ≢ Some 1
leave (returns u v w x y) is = apart 1 3 (lit< tt) (sym (some_same is))

no_call : {p : ℕ} {i : Instruction} → IsIn p i → p ≡ 1 → is_call i ≡ false
no_call second e = refl
no_call move_in e = refl
no_call note_in e = refl
no_call third e = refl
no_call unreached_call e = absurd (apart 1 2 (lit< tt) (sym e))

never_calls : {h : History} {n : ℕ} {i : Instruction} {rest : List Instruction} {e : End} → IsPoint h n (i ∷ rest) e → is_call i ≡ true → ⊥
never_calls entry c = false_is_true c
never_calls (assignment u) c = false_is_true c
never_calls (moves u v) c = false_is_true c
never_calls (notes u v w) c = false_is_true c
never_calls (return u v w x) c = false_is_true c

zero_in : {p object words : ℕ} → IsIn p (Zero object words) → ⊥
zero_in at = elim at [ ]

copy_in : {p object bytes words : ℕ} → IsIn p (CopyWords object bytes words) → ⊥
copy_in at = elim at [ ]

zero_at : {h : History} {n object words : ℕ} {rest : List Instruction} {e : End} → IsPoint h n (Zero object words ∷ rest) e → ⊥
zero_at at = elim at [ ]

copy_at : {h : History} {n object bytes words : ℕ} {rest : List Instruction} {e : End} → IsPoint h n (CopyWords object bytes words ∷ rest) e → ⊥
copy_at at = elim at [ ]

writes_where : {p : ℕ} {i : Instruction} → IsIn p i → (x variable : ℕ) → variable ≡ 0 → writes x i ≡ true → assigns built.assignments p variable ≡ true
writes_where second x variable z w = absurd (false_is_true w)
writes_where move_in x variable z w = subst (λ k. assigns built.assignments 2 k ≡ true) (sym z) refl
writes_where note_in x variable z w = absurd (false_is_true w)
writes_where third x variable z w = absurd (false_is_true w)
writes_where unreached_call x variable z w = absurd (false_is_true w)

assigned_where : {p x : ℕ} → WrittenIn assigning p x → (variable : ℕ) → variable ≡ 0 → assigns built.assignments p variable ≡ true
assigned_where {p} {x} (instruction i at w) variable z = writes_where (in_place at) x variable z w
assigned_where (bound begins is) variable z = absurd (false_is_true is)

notes_where : {p x : ℕ} {v : NoteValue} → IsIn p (Note x v) → (variable : ℕ) → variable ≡ 0 → assigns built.assignments p variable ≡ true
notes_where note_in variable z = subst (λ k. assigns built.assignments 2 k ≡ true) (sym z) refl

notes_all : {h : History} {n p : ℕ} {rest : List Instruction} {e : End} → IsPoint h n (Marker p ∷ rest) e → (x variable : ℕ) → x ≡ 0 → owed (λ q. assigns built.assignments q variable) x h ≡ false
notes_all entry x variable z = refl
notes_all (assignment u) x variable z = refl
notes_all (return u v w y) x variable z = subst (λ k. owed (λ q. assigns built.assignments q variable) k (noted u v w y) ≡ false) (sym z) refl

right_note : {h : History} {n x : ℕ} {v : NoteValue} {rest : List Instruction} {e : End} → IsPoint h n (Note x v ∷ rest) e → (p : ℕ) → place_of h ≡ Some p → (variable : ℕ) → IsRightNote built assigning p x variable v
right_note (notes u v w) p is variable =
    subst (λ q. IsRightNote built assigning q 0 variable (Is (Of (Name 0)))) (some_same is)
    (inl (refl, instruction move (record { number = 1; block = _; is = refl; stands = marked.behind here }) refl))

behind_write : {h : History} {n x : ℕ} {v : NoteValue} {rest : List Instruction} {e : End} → IsPoint h n (Note x v ∷ rest) e → written assigning x h ≡ true
behind_write (notes u v w) = refl

-- from the block that no path reaches each way comes to the marker of the return
unreached_comes : ComesToMarker assigning unreached (Jump 2)
unreached_comes = marked.on (marked.on (marked.goes (λ l b a is. to_block assigning.blocks 2 _ refl (λ n rest e. ComesToMarker assigning rest e) l b (among_one a) is at_marker)))

well_marked : IsWellMarked built assigning
well_marked = record {
  begins = λ b is. ([], subst (λ (c : Block). c.instructions ≡ Marker 1 ∷ []) (some_same is) refl);
  first = each (λ (b : Block). Among 0 (targets_of b.end) → ⊥) (λ a. apart 0 1 (lit< tt) (among_one a)) (λ a. apart 0 2 (lit< tt) (among_one a)) (λ a. among_none a) (λ a. apart 0 2 (lit< tt) (among_one a));
  flows = λ h n p q rest e at is. flow (point at) p is;
  cycles = each (λ (b : Block). ComesToMarker assigning b.instructions b.end) at_marker at_marker at_marker unreached_comes;
  entry_calls = λ i at. no_call (in_place at) refl;
  leaves = λ h n a at. leave (point at);
  zeroes = λ p object words at. absurd (zero_in (in_place at));
  copies = λ p object bytes words at. absurd (copy_in (in_place at));
  zeroes_first = λ h n object words rest e at. absurd (zero_at (point at));
  copies_first = λ h n object bytes words rest e at. absurd (copy_at (point at));
  variables = (tt, tt);
  written_where = λ p x variable is w. inl (assigned_where w variable (only_scalar x variable is).1);
  noted_where = λ p x variable v is at. inl (notes_where (in_place at) variable (only_scalar x variable is).1);
  noted = λ h n p x variable rest e is at. notes_all (point at) x variable (only_scalar x variable is).0;
  right = λ h n p x variable v rest e is at place. right_note (point at) p place variable;
  behind_write = λ h n x rest e at. behind_write (point at);
  calls = λ h n i x variable rest e is at c. absurd (never_calls (point at) c);
  local = λ h n i t rest e of at reads. absurd (no_local t of.temporary of.not_moved);
  local_at_end = λ h n t e of at reads. absurd (no_local t of.temporary of.not_moved);
}

valid : IsValid built
valid = valid_with (move ∷ note ∷ []) (Name 0) [] (lit≤ tt) refl refl ((lit< tt, tt), ((lit< tt, (lit< tt, lit≤ tt)), tt)) (lit< tt)

pub built_is_marked : AreWellMarked built
built_is_marked = record { valid = valid; graphs = λ f g is. marked_at f g is }
  where
    marked_at : (f : ℕ) (g : Graph) → slice_get built.graphs f ≡ Some g → IsWellMarked built g
    marked_at zero g is = subst (λ (k : Graph). IsWellMarked built k) (some_same is) well_marked
    marked_at (suc f) g is = absurd (none_is_some is)
