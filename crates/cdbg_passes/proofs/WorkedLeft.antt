-- A copy that reaches a read is left in `x = y; return x`; and a dead write where y is returned in place of x.
use Rattle.std.proofs.Common.{◌≡◌, ◌≢◌, ℕ, inr, Option, Some, List, [], ◌∷◌, length, refl, sym, subst, slice_get, lit<}
use Rattle.graph_core.specs.declared.value.Value.{Value}
use Rattle.graph_core.specs.declared.value.Value.TheVariants.{Odd}
use Rattle.graph_core.specs.Graphs.{Operand, Name, Of, Is, Instruction, Marker, Note, Move, End, Jump, Return, Block}
use Rattle.graph_core.specs.Uses.{targets_of}
use Rattle.graph_core.specs.Paths.{Passed, History, Among, front, Way, stays, passes, goes, Path, path}
use Rattle.graph_core.specs.Points.{ReadsNext}
use Rattle.pass_law.specs.Earned.{IsCopiedAt}
use Rattle.pass_law.specs.Worked.{scalar}
use Rattle.pass_law.specs.Worked.{unit_of}
use Rattle.pass_law.specs.WorkedChanges.{copying, passing_by}
use Rattle.pass_law.proofs.Inversions.{some_same, among_one, among_none, apart, to_block}
use Rattle.copy_pass_rule.specs.Copying.{IsCopied}
use Rattle.cdbg_passes.specs.NothingLeft.{HasNoCopies, HasNoDead}
use Rattle.cdbg_passes.specs.Worked.{AreRefused}
use Rattle.cdbg_passes.proofs.WorkedLeast.{not_least}
use Rattle.cdbg_passes.proofs.WorkedOften.{computed_again, computed_more}

abbrev passed : ℕ → ℕ → Instruction → Value → Passed
passed n left i v = record { block = n; left = left; instruction = i; wrote = v }

abbrev copy : Instruction
copy = Move 0 (Name 1)

abbrev note : Instruction
note = Note 0 (Is (Of (Name 0)))

-- ---- The copy

abbrev noted : Value → Value → Value → Value → History
noted u v w x = passed 1 0 note x ∷ passed 1 1 copy w ∷ passed 1 2 (Marker 2) v ∷ passed 0 0 (Marker 1) u ∷ []

-- The points that paths come to, each with what was passed before it.
data IsPoint : History → ℕ → List Instruction → End → Type 0 where
  entry : IsPoint [] 0 (Marker 1 ∷ []) (Jump 1)
  entered : (u : Value) → IsPoint (passed 0 0 (Marker 1) u ∷ []) 0 [] (Jump 1)
  assignment : (u : Value) → IsPoint (passed 0 0 (Marker 1) u ∷ []) 1 (Marker 2 ∷ copy ∷ note ∷ []) (Jump 2)
  moves : (u v : Value) → IsPoint (passed 1 2 (Marker 2) v ∷ passed 0 0 (Marker 1) u ∷ []) 1 (copy ∷ note ∷ []) (Jump 2)
  notes : (u v w : Value) → IsPoint (passed 1 1 copy w ∷ passed 1 2 (Marker 2) v ∷ passed 0 0 (Marker 1) u ∷ []) 1 (note ∷ []) (Jump 2)
  assigned : (u v w x : Value) → IsPoint (noted u v w x) 1 [] (Jump 2)
  return : (u v w x : Value) → IsPoint (noted u v w x) 2 (Marker 3 ∷ []) (Return (Some (Name 0)))
  returns : (u v w x y : Value) → IsPoint (passed 2 0 (Marker 3) y ∷ noted u v w x) 2 [] (Return (Some (Name 0)))

goes_past : {h : History} {n : ℕ} {i : Instruction} {left : List Instruction} {e : End} → IsPoint h n (i ∷ left) e → (v : Value) → IsPoint (passed n (length left) i v ∷ h) n left e
goes_past entry u = entered u
goes_past (assignment u) v = moves u v
goes_past (moves u v) w = notes u v w
goes_past (notes u v w) x = assigned u v w x
goes_past (return u v w x) y = returns u v w x y

goes_along : {h : History} {n l : ℕ} {e : End} → IsPoint h n [] e → Among l (targets_of e) → (b : Block) → slice_get copying.blocks l ≡ Some b → IsPoint h l b.instructions b.end
goes_along {l = l} (entered u) a b is = to_block copying.blocks 1 _ refl (IsPoint (passed 0 0 (Marker 1) u ∷ [])) l b (among_one a) is (assignment u)
goes_along {l = l} (assigned u v w x) a b is = to_block copying.blocks 2 _ refl (IsPoint (noted u v w x)) l b (among_one a) is (return u v w x)
goes_along (returns u v w x y) a b is = absurd (among_none a)

point_of_way : {h : History} {n : ℕ} {rest : List Instruction} {e : End} → Way copying 0 (Marker 1 ∷ []) (Jump 1) h n rest e → IsPoint h n rest e
point_of_way stays = entry
point_of_way (passes way v) = goes_past (point_of_way way) v
point_of_way (goes way a b is) = goes_along (point_of_way way) a b is

point : {h : History} {n : ℕ} {rest : List Instruction} {e : End} → Path copying h n rest e → IsPoint h n rest e
point {h} {n} {rest} {e} (path b is way) = point_of_way (subst (λ (c : Block). Way copying 0 c.instructions c.end h n rest e) (sym (some_same is)) way)

copied : {h : History} {n : ℕ} {a : Option Operand} → IsPoint h n [] (Return a) → IsCopiedAt 1 1 0 1 h
copied (returns u v w x y) = record { copy = passed 1 1 copy w; last = refl; in_block = refl; before = refl; copies = refl }

other_name : ◌≢◌ {A = ℕ} 1 0
other_name e = apart 0 1 (lit< tt) (sym e)

-- The copy reaches the return.
is_copied : IsCopied copying 0 1 2 [] (Return (Some (Name 0)))
is_copied = record {
  scalars = record { target = scalar 0; source = scalar 1; target_is = refl; source_is = refl; type = refl; other = other_name };
  block = 1;
  left = 1;
  on_each = λ hist at. copied (point at);
}

-- A way leads to the return.
way_there : Way copying 0 (Marker 1 ∷ []) (Jump 1) (passed 2 0 (Marker 3) Odd ∷ noted Odd Odd Odd Odd) 2 [] (Return (Some (Name 0)))
way_there = passes (goes (passes (passes (passes (goes (passes stays Odd) front _ refl) Odd) Odd) Odd) front _ refl) Odd

has_copies : HasNoCopies copying → ⊥
has_copies none = none 2 [] (Return (Some (Name 0))) 0 1 (record { history = passed 2 0 (Marker 3) Odd ∷ noted Odd Odd Odd Odd; path = path _ refl way_there }) front is_copied

-- ---- The dead write

-- The points that ways from the note come to.
data IsOn : ℕ → List Instruction → End → Type 0 where
  at_note : IsOn 1 (note ∷ []) (Jump 2)
  behind_note : IsOn 1 [] (Jump 2)
  at_return : IsOn 2 (Marker 3 ∷ []) (Return (Some (Name 1)))
  behind_marker : IsOn 2 [] (Return (Some (Name 1)))

on_past : {n : ℕ} {i : Instruction} {left : List Instruction} {e : End} → IsOn n (i ∷ left) e → IsOn n left e
on_past at_note = behind_note
on_past at_return = behind_marker

on_along : {n l : ℕ} {e : End} → IsOn n [] e → Among l (targets_of e) → (b : Block) → slice_get passing_by.blocks l ≡ Some b → IsOn l b.instructions b.end
on_along {l = l} behind_note a b is = to_block passing_by.blocks 2 _ refl IsOn l b (among_one a) is at_return
on_along behind_marker a b is = absurd (among_none a)

on : {h : History} {n : ℕ} {rest : List Instruction} {e : End} → Way passing_by 1 (note ∷ []) (Jump 2) h n rest e → IsOn n rest e
on stays = at_note
on (passes way v) = on_past (on way)
on (goes way a b is) = on_along (on way) a b is

-- None of them reads x.
reads_nothing : {n : ℕ} {rest : List Instruction} {e : End} → IsOn n rest e → ReadsNext 0 rest e → ⊥
reads_nothing at_note r = among_none r
reads_nothing behind_note r = among_none r
reads_nothing at_return r = among_none r
reads_nothing behind_marker r = apart 0 1 (lit< tt) (among_one r)

way_to_copy : Way passing_by 0 (Marker 1 ∷ []) (Jump 1) (passed 1 2 (Marker 2) Odd ∷ passed 0 0 (Marker 1) Odd ∷ []) 1 (copy ∷ note ∷ []) (Jump 2)
way_to_copy = passes (goes (passes stays Odd) front _ refl) Odd

has_dead : HasNoDead (unit_of passing_by []) passing_by → ⊥
has_dead none =
    none 1 2 0 copy (note ∷ []) (Jump 2) (record { history = passed 1 2 (Marker 2) Odd ∷ passed 0 0 (Marker 1) Odd ∷ []; path = path _ refl way_to_copy })
    (record { block = _; before = Marker 2 ∷ []; is = refl; instructions = refl; ends = refl; place = refl }) refl (inr (refl, refl)) (λ h m left f way reads. absurd (reads_nothing (on way) reads))

pub are_refused : AreRefused
are_refused = record { copy = has_copies; dead = has_dead; again = computed_again; more = computed_more; least = not_least }
