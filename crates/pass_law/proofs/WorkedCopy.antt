-- The graph that reads y in place of x bears that out; and where all names share a register, it was given to another name too.
use Rattle.std.proofs.Common.{◌≡◌, ◌≢◌, ℕ, List, [], ◌∷◌, length, Option, Some, refl, sym, subst, slice_get, lit<}
use Rattle.graph_core.specs.declared.value.Value.{Value}
use Rattle.graph_core.specs.Graphs.{Operand, Name, Of, Is, Instruction, Marker, Note, Move, End, Jump, Return, Block}
use Rattle.graph_core.specs.Uses.{targets_of}
use Rattle.graph_core.specs.Paths.{Passed, History, Among, Way, stays, passes, goes, Path, path}
use Rattle.graph_homes.specs.Reused.{IsReused}
use Rattle.pass_law.specs.Earned.{IsCopiedAt, IsReplaced}
use Rattle.pass_law.specs.WorkedChanges.{copying, passing_by, one_register, AreBorneOut}
use Rattle.pass_law.proofs.Inversions.{some_same, among_one, among_none, apart, to_block}
use Rattle.pass_law.proofs.WorkedMotion.{is_moved}
use Rattle.pass_law.proofs.WorkedRemoval.{is_removed}

abbrev passed : ℕ → ℕ → Instruction → Value → Passed
passed n left i v = record { block = n; left = left; instruction = i; wrote = v }

abbrev copy : Instruction
copy = Move 0 (Name 1)

abbrev note : Instruction
note = Note 0 (Is (Of (Name 0)))

abbrev noted : Value → Value → Value → Value → History
noted u v w x = passed 1 0 note x ∷ passed 1 1 copy w ∷ passed 1 2 (Marker 2) v ∷ passed 0 0 (Marker 1) u ∷ []

-- The points that paths come to, each with what was passed before it.
data IsPoint : History → ℕ → List Instruction → End → Type 0 where
  entry : IsPoint [] 0 (Marker 1 ∷ []) (Jump 1)
  entered : (u : Value) → IsPoint (passed 0 0 (Marker 1) u ∷ []) 0 [] (Jump 1)
  assignment : (u : Value) → IsPoint (passed 0 0 (Marker 1) u ∷ []) 1 (Marker 2 ∷ copy ∷ note ∷ []) (Jump 2)
  moves : (u v : Value) → IsPoint (passed 1 2 (Marker 2) v ∷ passed 0 0 (Marker 1) u ∷ []) 1 (copy ∷ note ∷ []) (Jump 2)
  notes : (u v w : Value) → IsPoint (passed 1 1 copy w ∷ passed 1 2 (Marker 2) v ∷ passed 0 0 (Marker 1) u ∷ []) 1 (note ∷ []) (Jump 2)
  assigned : (u v w x : Value) → IsPoint (noted u v w x) 1 [] (Jump 2)
  return : (u v w x : Value) → IsPoint (noted u v w x) 2 (Marker 3 ∷ []) (Return (Some (Name 1)))
  returns : (u v w x y : Value) → IsPoint (passed 2 0 (Marker 3) y ∷ noted u v w x) 2 [] (Return (Some (Name 1)))

goes_past : {h : History} {n : ℕ} {i : Instruction} {left : List Instruction} {e : End} → IsPoint h n (i ∷ left) e → (v : Value) → IsPoint (passed n (length left) i v ∷ h) n left e
goes_past entry u = entered u
goes_past (assignment u) v = moves u v
goes_past (moves u v) w = notes u v w
goes_past (notes u v w) x = assigned u v w x
goes_past (return u v w x) y = returns u v w x y

goes_along : {h : History} {n l : ℕ} {e : End} → IsPoint h n [] e → Among l (targets_of e) → (b : Block) → slice_get passing_by.blocks l ≡ Some b → IsPoint h l b.instructions b.end
goes_along {l = l} (entered u) a b is = to_block passing_by.blocks 1 _ refl (IsPoint (passed 0 0 (Marker 1) u ∷ [])) l b (among_one a) is (assignment u)
goes_along {l = l} (assigned u v w x) a b is = to_block passing_by.blocks 2 _ refl (IsPoint (noted u v w x)) l b (among_one a) is (return u v w x)
goes_along (returns u v w x y) a b is = absurd (among_none a)

point_of_way : {h : History} {n : ℕ} {rest : List Instruction} {e : End} → Way passing_by 0 (Marker 1 ∷ []) (Jump 1) h n rest e → IsPoint h n rest e
point_of_way stays = entry
point_of_way (passes way v) = goes_past (point_of_way way) v
point_of_way (goes way a b is) = goes_along (point_of_way way) a b is

point : {h : History} {n : ℕ} {rest : List Instruction} {e : End} → Path passing_by h n rest e → IsPoint h n rest e
point {h} {n} {rest} {e} (path b is way) = point_of_way (subst (λ (c : Block). Way passing_by 0 c.instructions c.end h n rest e) (sym (some_same is)) way)

copied : {h : History} {n : ℕ} {a : Option Operand} → IsPoint h n [] (Return a) → IsCopiedAt 1 1 0 1 h
copied (returns u v w x y) = record { copy = passed 1 1 copy w; last = refl; in_block = refl; before = refl; copies = refl }

other_name : ◌≢◌ {A = ℕ} 1 0
other_name e = apart 0 1 (lit< tt) (sym e)

is_replaced : IsReplaced copying passing_by 3 0
is_replaced = record {
  y = 1;
  other = other_name;
  variable = 1;
  scalar = refl;
  n = 2;
  before = [];
  after = [];
  end = Return (Some (Name 0));
  later = Return (Some (Name 1));
  stood = record { block = _; before = Marker 3 ∷ []; is = refl; instructions = refl; ends = refl; place = refl };
  stands = record { block = _; before = Marker 3 ∷ []; is = refl; instructions = refl; ends = refl; place = refl };
  at_one_point = refl;
  k = 0;
  was = refl;
  is = refl;
  copy_block = 1;
  copy_left = 1;
  reaches = λ h at. copied (point at);
}

is_reused : IsReused [] one_register copying 0 0
is_reused = record { register = 9; y = 1; named = lit< tt; other = other_name; kept = refl; shared = refl; foreign = λ of. among_none of.logged }

pub are_borne_out : AreBorneOut
are_borne_out = record { removed = is_removed; moved = is_moved; replaced = is_replaced; reused = is_reused }
