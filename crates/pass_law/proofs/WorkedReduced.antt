-- The unit of a small program without its assignment is well marked, too.
use Rattle.std.proofs.Common.{◌≡◌, ◌≢◌, ℕ, zero, suc, inl, inr, true, false, List, [], ◌∷◌, length, Option, Some, None, refl, sym, subst, slice_get, lit≤, lit<}
use Rattle.places.specs.Flow.{can_go, assigns}
use Rattle.graph_core.specs.declared.instruction.Callee.TheVariants.{Putchar}
use Rattle.graph_core.specs.declared.value.Value.{Value}
use Rattle.graph_core.specs.Graphs.{Operand, Name, Constant, Of, NoteValue, Is, Instruction, Marker, Note, Zero, CopyWords, Call, End, Jump, Return, Block, Graph}
use Rattle.graph_core.specs.Uses.{targets_of}
use Rattle.graph_core.specs.Paths.{Passed, History, Among, front, Way, stays, passes, goes, Path, path, place_of, writes, is_call, owed}
use Rattle.graph_core.specs.Validity.{IsValid}
use Rattle.graph_core.specs.WellMarked as marked
use Rattle.graph_core.specs.WellMarked.{StandsIn, here, InPlace, ComesToMarker, at_marker, WrittenIn, instruction, bound, IsRightNote, IsWellMarked, AreWellMarked}
use Rattle.debug_records.specs.declared.change.PassName.{PassName}
use Rattle.pass_law.specs.Worked.{block, entry_block, return_block, notes_two, unreached, unreached_block, built, noting, removal, reduced}
use Rattle.pass_law.proofs.Inversions.{some_same, none_is_some, false_is_true, among_one, among_none, only_scalar, no_local, apart, only_block, each_block, to_block}
use Rattle.pass_law.proofs.WorkedValid.{valid_with}

abbrev passed : ℕ → ℕ → Instruction → Value → Passed
passed n left i v = record { block = n; left = left; instruction = i; wrote = v }

abbrev note : Instruction
note = Note 0 (Is (Of (Constant 2)))

-- What was passed before each instruction of the way through the graph.
abbrev at_entry : Value → History
at_entry u = passed 0 0 (Marker 1) u ∷ []

abbrev at_assignment : Value → Value → History
at_assignment u v = passed 1 1 (Marker 2) v ∷ at_entry u

abbrev noted : Value → Value → Value → History
noted u v w = passed 1 0 note w ∷ at_assignment u v

abbrev at_return : Value → Value → Value → Value → History
at_return u v w x = passed 2 0 (Marker 3) x ∷ noted u v w

-- The points that paths come to, each with what was passed before it.
pub data IsPoint : History → ℕ → List Instruction → End → Type 0 where
  entry : IsPoint [] 0 (Marker 1 ∷ []) (Jump 1)
  entered : (u : Value) → IsPoint (at_entry u) 0 [] (Jump 1)
  assignment : (u : Value) → IsPoint (at_entry u) 1 (Marker 2 ∷ note ∷ []) (Jump 2)
  notes : (u v : Value) → IsPoint (at_assignment u v) 1 (note ∷ []) (Jump 2)
  assigned : (u v w : Value) → IsPoint (noted u v w) 1 [] (Jump 2)
  return : (u v w : Value) → IsPoint (noted u v w) 2 (Marker 3 ∷ []) (Return (Some (Constant 2)))
  returns : (u v w x : Value) → IsPoint (at_return u v w x) 2 [] (Return (Some (Constant 2)))

goes_past : {h : History} {n : ℕ} {i : Instruction} {left : List Instruction} {e : End} → IsPoint h n (i ∷ left) e → (v : Value) → IsPoint (passed n (length left) i v ∷ h) n left e
goes_past entry u = entered u
goes_past (assignment u) v = notes u v
goes_past (notes u v) w = assigned u v w
goes_past (return u v w) x = returns u v w x

goes_along : {h : History} {n l : ℕ} {e : End} → IsPoint h n [] e → Among l (targets_of e) → (b : Block) → slice_get noting.blocks l ≡ Some b → IsPoint h l b.instructions b.end
goes_along {l = l} (entered u) a b is = to_block noting.blocks 1 _ refl (IsPoint (at_entry u)) l b (among_one a) is (assignment u)
goes_along {l = l} (assigned u v w) a b is = to_block noting.blocks 2 _ refl (IsPoint (noted u v w)) l b (among_one a) is (return u v w)
goes_along (returns u v w x) a b is = absurd (among_none a)

point_of_way : {h : History} {n : ℕ} {rest : List Instruction} {e : End} → Way noting 0 (Marker 1 ∷ []) (Jump 1) h n rest e → IsPoint h n rest e
point_of_way stays = entry
point_of_way (passes way v) = goes_past (point_of_way way) v
point_of_way (goes way a b is) = goes_along (point_of_way way) a b is

pub point : {h : History} {n : ℕ} {rest : List Instruction} {e : End} → Path noting h n rest e → IsPoint h n rest e
point {h} {n} {rest} {e} (path b is way) = point_of_way (subst (λ (c : Block). Way noting 0 c.instructions c.end h n rest e) (sym (some_same is)) way)

-- The instructions in their places. The marker of the entry stands in none.
data IsIn : ℕ → Instruction → Type 0 where
  second : IsIn 1 (Marker 2)
  note_in : IsIn 2 note
  third : IsIn 2 (Marker 3)
  unreached_note : IsIn 2 (Note 0 (Is (Of (Name 0))))
  unreached_call : IsIn 2 (Call None Putchar (Name 0 ∷ []))

in_first : {p : ℕ} {i : Instruction} → StandsIn p i None (Marker 1 ∷ []) → IsIn p i
in_first (marked.behind s) = elim s [ ]

in_second : {p : ℕ} {i : Instruction} → StandsIn p i (Some 1) (Marker 2 ∷ note ∷ []) → IsIn p i
in_second here = second
in_second (marked.behind here) = note_in
in_second (marked.behind (marked.behind s)) = elim s [ ]

in_third : {p : ℕ} {i : Instruction} → StandsIn p i (Some 2) (Marker 3 ∷ []) → IsIn p i
in_third here = third
in_third (marked.behind s) = elim s [ ]

in_unreached : {p : ℕ} {i : Instruction} → StandsIn p i (Some 2) unreached → IsIn p i
in_unreached here = unreached_note
in_unreached (marked.behind here) = unreached_call
in_unreached (marked.behind (marked.behind s)) = elim s [ ]

-- what is so of each block is so of that of a number
each : (P : Block → Type 0) → P entry_block → P (block (Some 1) notes_two (Jump 2)) → P (return_block (Constant 2)) → P unreached_block → (n : ℕ) (b : Block) → slice_get noting.blocks n ≡ Some b → P b
each P p q r s = each_block notes_two (Constant 2) (unreached_block ∷ []) P p q r (only_block P unreached_block s)

in_place : {p : ℕ} {i : Instruction} → InPlace noting p i → IsIn p i
in_place {p} {i} at = each (λ (b : Block). StandsIn p i b.place b.instructions → IsIn p i) in_first in_second in_third in_unreached at.number at.block at.is at.stands

flow : {h : History} {n q : ℕ} {rest : List Instruction} {e : End} → IsPoint h n (Marker q ∷ rest) e → (p : ℕ) → place_of h ≡ Some p → can_go built.steps p q ≡ true
flow entry p is = absurd (none_is_some is)
flow (assignment u) p is = subst (λ k. can_go built.steps k 2 ≡ true) (some_same is) refl
flow (return u v w) p is = subst (λ k. can_go built.steps k 3 ≡ true) (some_same is) refl

leave : {h : History} {n : ℕ} {a : Option Operand} → IsPoint h n [] (Return a) → place_of h ≢ Some 1
leave (returns u v w x) is = apart 1 3 (lit< tt) (sym (some_same is))

no_call : {p : ℕ} {i : Instruction} → IsIn p i → p ≡ 1 → is_call i ≡ false
no_call second e = refl
no_call note_in e = refl
no_call third e = refl
no_call unreached_note e = refl
no_call unreached_call e = absurd (apart 1 2 (lit< tt) (sym e))

never_calls : {h : History} {n : ℕ} {i : Instruction} {rest : List Instruction} {e : End} → IsPoint h n (i ∷ rest) e → is_call i ≡ true → ⊥
never_calls entry c = false_is_true c
never_calls (assignment u) c = false_is_true c
never_calls (notes u v) c = false_is_true c
never_calls (return u v w) c = false_is_true c

zero_in : {p object words : ℕ} → IsIn p (Zero object words) → ⊥
zero_in at = elim at [ ]

copy_in : {p object bytes words : ℕ} → IsIn p (CopyWords object bytes words) → ⊥
copy_in at = elim at [ ]

zero_at : {h : History} {n object words : ℕ} {rest : List Instruction} {e : End} → IsPoint h n (Zero object words ∷ rest) e → ⊥
zero_at at = elim at [ ]

copy_at : {h : History} {n object bytes words : ℕ} {rest : List Instruction} {e : End} → IsPoint h n (CopyWords object bytes words ∷ rest) e → ⊥
copy_at at = elim at [ ]

never_writes : {p : ℕ} {i : Instruction} → IsIn p i → (x : ℕ) → writes x i ≡ true → ⊥
never_writes second x w = false_is_true w
never_writes note_in x w = false_is_true w
never_writes third x w = false_is_true w
never_writes unreached_note x w = false_is_true w
never_writes unreached_call x w = false_is_true w

notes_where : {p x : ℕ} {v : NoteValue} → IsIn p (Note x v) → (variable : ℕ) → variable ≡ 0 → assigns built.assignments p variable ≡ true
notes_where note_in variable z = subst (λ k. assigns built.assignments 2 k ≡ true) (sym z) refl
notes_where unreached_note variable z = subst (λ k. assigns built.assignments 2 k ≡ true) (sym z) refl

notes_all : {h : History} {n p : ℕ} {rest : List Instruction} {e : End} → IsPoint h n (Marker p ∷ rest) e → (x variable : ℕ) → x ≡ 0 → owed (λ q. assigns built.assignments q variable) x h ≡ false
notes_all entry x variable z = refl
notes_all (assignment u) x variable z = refl
notes_all (return u v w) x variable z = subst (λ k. owed (λ q. assigns built.assignments q variable) k (noted u v w) ≡ false) (sym z) refl

other_note : Is (Of (Constant 2)) ≢ Is (Of (Name 0))
other_note e = cc

module _ (pass : PassName) where
  not_written : (p x : ℕ) → WrittenIn noting p x → ⊥
  not_written p x (instruction i at w) = never_writes (in_place at) x w
  not_written p x (bound begins is) = false_is_true is

  right_note : {h : History} {n x : ℕ} {v : NoteValue} {rest : List Instruction} {e : End} → IsPoint h n (Note x v ∷ rest) e → (p : ℕ) → place_of h ≡ Some p → (variable : ℕ) → variable ≡ 0 → IsRightNote (reduced pass) noting p x variable v
  right_note (notes u v) p is variable z =
      subst (λ q. IsRightNote (reduced pass) noting q 0 variable (Is (Of (Constant 2)))) (some_same is)
      (inr (other_note, not_written 2 0, record { change = removal pass; logged = front; taken = refl; at = refl; of = sym z }))

own_note : {h : History} {n x : ℕ} {v : NoteValue} {rest : List Instruction} {e : End} → IsPoint h n (Note x v ∷ rest) e → v ≡ Is (Of (Name x)) → ⊥
own_note (notes u v) is = other_note is

-- from the block that no path reaches each way comes to the marker of the return
unreached_comes : ComesToMarker noting unreached (Jump 2)
unreached_comes = marked.on (marked.on (marked.goes (λ l b a is. to_block noting.blocks 2 _ refl (λ n rest e. ComesToMarker noting rest e) l b (among_one a) is at_marker)))

module _ (pass : PassName) where
  well_marked : IsWellMarked (reduced pass) noting
  well_marked = record {
    begins = λ b is. ([], subst (λ (c : Block). c.instructions ≡ Marker 1 ∷ []) (some_same is) refl);
    first = each (λ (b : Block). Among 0 (targets_of b.end) → ⊥) (λ a. apart 0 1 (lit< tt) (among_one a)) (λ a. apart 0 2 (lit< tt) (among_one a)) (λ a. among_none a) (λ a. apart 0 2 (lit< tt) (among_one a));
    flows = λ h n p q rest e at is. flow (point at) p is;
    cycles = each (λ (b : Block). ComesToMarker noting b.instructions b.end) at_marker at_marker at_marker unreached_comes;
    entry_calls = λ i at. no_call (in_place at) refl;
    leaves = λ h n a at. leave (point at);
    zeroes = λ p object words at. absurd (zero_in (in_place at));
    copies = λ p object bytes words at. absurd (copy_in (in_place at));
    zeroes_first = λ h n object words rest e at. absurd (zero_at (point at));
    copies_first = λ h n object bytes words rest e at. absurd (copy_at (point at));
    variables = (tt, tt);
    written_where = λ p x variable is w. absurd (not_written pass p x w);
    noted_where = λ p x variable v is at. inl (notes_where (in_place at) variable (only_scalar x variable is).1);
    noted = λ h n p x variable rest e is at. notes_all (point at) x variable (only_scalar x variable is).0;
    right = λ h n p x variable v rest e is at place. right_note pass (point at) p place variable (only_scalar x variable is).1;
    behind_write = λ h n x rest e at. absurd (own_note (point at) refl);
    calls = λ h n i x variable rest e is at c. absurd (never_calls (point at) c);
    local = λ h n i t rest e of at reads. absurd (no_local t of.temporary of.not_moved);
    local_at_end = λ h n t e of at reads. absurd (no_local t of.temporary of.not_moved);
  }

  valid : IsValid (reduced pass)
  valid = valid_with (note ∷ []) (Constant 2) (removal pass ∷ []) (lit≤ tt) refl refl ((lit< tt, (tt, lit≤ tt)), tt) tt

  pub reduced_is_marked : AreWellMarked (reduced pass)
  reduced_is_marked = record { valid = valid; graphs = λ f g is. marked_at f g is }
    where
      marked_at : (f : ℕ) (g : Graph) → slice_get (reduced pass).graphs f ≡ Some g → IsWellMarked (reduced pass) g
      marked_at zero g is = subst (λ (k : Graph). IsWellMarked (reduced pass) k) (some_same is) well_marked
      marked_at (suc f) g is = absurd (none_is_some is)
