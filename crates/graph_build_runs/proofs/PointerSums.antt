-- Sums and differences of pointers and indices, and the elements where they point.
use Rattle.std.proofs.Common.{◌≡◌, ℕ, ◌≤◌, ◌⊎◌, inl, inr, List, Option, Some, None, Bool, true, false, ◌||◌, refl, sym, ap, ◌∙◌, subst, arith, ℤ, pos, ◌*ℤ◌}
use Rattle.std.specs.Prelude.{◌==◌}
use Rattle.word_base.specs.declared.operation.Operation.TheVariants as operation
use Rattle.c_tree.specs.declared.object_type.ObjectType.{ObjectType}
use Rattle.c_tree.specs.declared.typed_expression.Direction.{Direction}
use Rattle.c_tree.specs.declared.typed_expression.Direction.TheVariants.{Up}
use Rattle.c_tree.specs.TypedExpressions.{RvalueTree, LvalueTree, AddressOf, Decay, Move, MoveFrom, Element, ElementFrom}
use Rattle.c_type_rules.specs.Integers.{object_size}
use Rattle.c_meaning_values.specs.declared.value.Value as source-value
use Rattle.c_meaning_values.specs.declared.value.Value.TheVariants as source
use Rattle.c_meaning_values.specs.Memory.{read}
use Rattle.c_meaning_steps.specs.Steps.{decayed, if_read}
use Rattle.graph_build_names.specs.Writes.{writes}
use Rattle.graph_build_steps.specs.Steps.{in_turn}
use Rattle.c_meaning_values.specs.Operations.{moved_by_elements}
use Rattle.c_meaning_steps.specs.declared.event.Ending.TheVariants as ending
use Rattle.c_meaning_steps.specs.States.{State, Evaluated, Gives, Leaves, Ends, value_or_undefined, with, Both, Pair, NoPair, both_operands, on_both}
use Rattle.c_meaning.specs.Expressions.{Calls, evaluate}
use Rattle.graph_core.specs.declared.value.Value.TheVariants.{Number}
use Rattle.graph_core.specs.Graphs.{Operand, Name, Constant, StaticAddress, At, Instruction, Operate, End}
use Rattle.graph_core.specs.Runs.{Goes, value}
use Rattle.graph_core.specs.Values.{operate}
use Rattle.graph_build_names.specs.Conversions.{unsigned_bits}
use Rattle.graph_build_names.specs.Operands.{held}
use Rattle.graph_build_names.specs.Scales.{is_scaled, scaled}
use Rattle.graph_build_names.specs.Names.{pick}
use Rattle.graph_build_layout.specs.Laid.{behind_move}
use Rattle.graph_build_steps.specs.Rules.{move_by}
use Rattle.graph_build_steps.specs.Drafts.{Made, Goal, To, Unused, Either, instruction_before, target, follow, code_scaled_pair}
use Rattle.graph_build_runs.specs.Correspondence.{SameValue}
use Rattle.graph_build_runs.proofs.Leads.{Setting, names_in, size_in, depth_in, Local, World, set_name, at, less_other}
use Rattle.graph_build_runs.proofs.Later.{others_refl}
use Rattle.graph_build_runs.proofs.Kept.{Sound, Fits, ScalarsFirst, fits_temporary}
use Rattle.graph_build_runs.proofs.Results.{ToR, Result, stuck_now, ended_result, result_after}
use Rattle.graph_build_runs.proofs.Leaves.{operated_done, left_stuck}
use Rattle.graph_build_runs.proofs.Typing.{Typed}
use Rattle.graph_build_runs.proofs.Standing.{Grows}
use Rattle.graph_build_runs.proofs.Operands.{Apart, Aims, Does, code_in, value_in, IsBelow, Low, Spares, behind_le, pair_in, pair_does}
use Rattle.graph_build_runs.proofs.Arithmetic.{pick_between}
use Rattle.graph_build_runs.proofs.Places.{place_in, within_written, pointed_in, PlaceR, DoesPlace}
use Rattle.graph_build_runs.proofs.Scaling.{scale_done}
use Rattle.graph_build_runs.proofs.Moving.{AreSmall, pointer_moves, pointer_word}

-- What passes a value on, or leaves it undefined.
abbrev pub Filters : (source-value.Value → State → Evaluated) → Type 0
Filters next = (v : source-value.Value) (s : State) → (next v s ≡ Gives v s) ⊎ (next v s ≡ Ends ending.Undefined s)

pub gives_filters : Filters Gives
gives_filters v s = inl refl

-- an array that is used is a pointer to its first element, which is there
pub decayed_filters : Filters decayed
decayed_filters v s = by (read s.memory v)
  where
    by : (r : Option source-value.Value) → (value_or_undefined (if_read r v) s ≡ Gives v s) ⊎ (value_or_undefined (if_read r v) s ≡ Ends ending.Undefined s)
    by None = inr refl
    by (Some u) = inl refl

pub given_gives : (r : Option source-value.Value) (s : State) → with (value_or_undefined r s) Gives ≡ value_or_undefined r s
given_gives None s = refl
given_gives (Some v) s = refl

with_both : (r : Both) (k : source-value.Value → source-value.Value → State → Evaluated) (next : source-value.Value → State → Evaluated) → on_both r (λ v u s. with (k v u s) next) ≡ with (on_both r k) next
with_both (Pair v u s) k next = refl
with_both (NoPair e s) k next = refl

-- A pointer and an index in turn: the index is scaled, and the pointer moves.
module _ (x : Setting) (low : ScalarsFirst x) (small : AreSmall x.program) (next : source-value.Value → State → Evaluated) (filters : Filters next) (d : Direction) (of : ObjectType) (p : source-value.Value) (u : source-value.Value) (pointer index : Operand) (t free : ℕ) (le : t ≤ free) (size : size_in x ≤ t) (below : IsBelow free pointer) where
  abbrev own_by : ℕ
  own_by = pick (names_in x) t (behind_move (is_scaled (object_size of) index) free)

  abbrev moves_by : ℕ → Instruction
  moves_by k = Operate k (move_by d) pointer (scaled (object_size of) index free)

  abbrev last_by : Goal → Made
  last_by g = code_scaled_pair (names_in x) g t (move_by d) (object_size of) pointer index free

  own_above : t ≤ own_by
  own_above = pick_between (names_in x) t (behind_move (is_scaled (object_size of) index) free) t (omega arith) (let k = behind_le (is_scaled (object_size of) index) free in omega (arith, le, k))

  -- the pointer's operand is not the name of the scaled index
  pointer_kept : (l m : Local) → ((y : ℕ) → y == free ≡ false → m.names y ≡ l.names y) → (a : Operand) → IsBelow free a → value x.unit.statics m.names a ≡ value x.unit.statics l.names a
  pointer_kept l m kept (Name y) lt = kept y (less_other y free lt)
  pointer_kept l m kept (Constant word) lt = refl
  pointer_kept l m kept (StaticAddress o k) lt = refl

  module _ (g : Goal) (s : State) (l : Local) (w : World) (sound : Sound x.program x.begun s) (fits : Fits x None s l w) (same_p : SameValue x.program s.memory w.memory p (value x.unit.statics l.names pointer)) where
    moves_number : (z : ℤ) → value x.unit.statics l.names index ≡ Number (unsigned_bits z) → (r : Option source-value.Value) → moved_by_elements s.memory d of p (source.Number z) ≡ r
        → Result x g (Name own_by) t (λ y. false) (last_by g).ops (last_by g).end l w (with (value_or_undefined r s) next)
    moves_number z same_z None e = ended_result x g (Name own_by) t (λ y. false) (last_by g).ops (last_by g).end l w ending.Undefined s (stuck_now x None (last_by g).ops (last_by g).end s l w fits)
    moves_number z same_z (Some v) e =
        let m = instruction_before (moves_by (target g own_by)) (follow g own_by) in
        let c = scale_done x (λ k. Fits x None s k w) (λ k j a h f. fits_temporary x s k w j a low f h) (object_size of) index free m l w z (omega (arith, le, size)) fits same_z in
        let kept_p = pointer_kept l c.local c.kept pointer below in
        let gives = operate (move_by d) (value x.unit.statics l.names pointer) (Number (unsigned_bits (z *ℤ pos (object_size of)))) in
        let moved = pointer_moves x None s l w d of p z v (value x.unit.statics l.names pointer) sound fits small same_p e in
        let above = own_above in
        let undefined = ended_result x g (Name own_by) t (λ y. false) (last_by g).ops (last_by g).end l w ending.Undefined s (stuck_now x None (last_by g).ops (last_by g).end s l w fits) in
        by_filter v (filters v s) undefined (result_after x t t (λ y. false) (λ y. false) (last_by g).ops m.ops (last_by g).end m.end l c.local w w c.leads (λ y lt nf. (lt, refl, c.kept y (less_other y free (omega (arith, lt, le))))) (others_refl w.memory) g (Name own_by) (Gives v s)
        (operated_done x g own_by t (λ y. false) moves_by v gives s c.local w low above (omega (arith, above, size)) c.holds
        (λ k ops end. ap (λ a. Goes (at x ops end (set_name c.local k (operate (move_by d) a (value x.unit.statics c.local.names (scaled (object_size of) index free)))) w)) kept_p
        ∙ ap (λ a. Goes (at x ops end (set_name c.local k (operate (move_by d) (value x.unit.statics l.names pointer) a)) w)) c.index) moved (pointer_word s.memory d of p z v e)))
      where
        by_filter : (v : source-value.Value) → (next v s ≡ Gives v s) ⊎ (next v s ≡ Ends ending.Undefined s) → Result x g (Name own_by) t (λ y. false) (last_by g).ops (last_by g).end l w (Ends ending.Undefined s)
            → Result x g (Name own_by) t (λ y. false) (last_by g).ops (last_by g).end l w (Gives v s) → Result x g (Name own_by) t (λ y. false) (last_by g).ops (last_by g).end l w (next v s)
        by_filter v (inl e) undefined done = subst (Result x g (Name own_by) t (λ y. false) (last_by g).ops (last_by g).end l w) (sym e) done
        by_filter v (inr e) undefined done = subst (Result x g (Name own_by) t (λ y. false) (last_by g).ops (last_by g).end l w) (sym e) undefined

    -- Behind both operands the pointer moves, or nothing is defined.
    pub moves : SameValue x.program s.memory w.memory u (value x.unit.statics l.names index) → Result x g (Name own_by) t (λ y. false) (last_by g).ops (last_by g).end l w (with (value_or_undefined (moved_by_elements s.memory d of p u) s) next)
    moves = by u
      where
        by : (k : source-value.Value) → SameValue x.program s.memory w.memory k (value x.unit.statics l.names index) → Result x g (Name own_by) t (λ y. false) (last_by g).ops (last_by g).end l w (with (value_or_undefined (moved_by_elements s.memory d of p k) s) next)
        by (source.Number z) same_z = moves_number z same_z (moved_by_elements s.memory d of p (source.Number z)) refl
        by source.Null same_z = ended_result x g (Name own_by) t (λ y. false) (last_by g).ops (last_by g).end l w ending.Undefined s (stuck_now x None (last_by g).ops (last_by g).end s l w fits)
        by (source.Pointer n k) same_z = ended_result x g (Name own_by) t (λ y. false) (last_by g).ops (last_by g).end l w ending.Undefined s (stuck_now x None (last_by g).ops (last_by g).end s l w fits)

-- a held operand stands below the name behind it
pub held_below : (moved : Bool) (a : Operand) (t : ℕ) → IsBelow t a → IsBelow (behind_move moved t) (held moved a t)
held_below true a t is = omega arith
held_below false a t is = is

pub below_later : (t k : ℕ) (a : Operand) → t ≤ k → IsBelow t a → IsBelow k a
below_later t k (Name y) le lt = omega (arith, le, lt)
below_later t k (Constant word) le lt = tt
below_later t k (StaticAddress o j) le lt = tt

module _ (x : Setting) (calls : Calls) (low : ScalarsFirst x) (small : AreSmall x.program) (a b : RvalueTree) (typed_a : Typed x calls a) (typed_b : Typed x calls b) (low_a : Low x a) (low_b : Low x b) (spares_b : Spares x b) (grows_a : Grows (names_in x) x.place x.top x.graph a)
    (does_a : Does x calls a) (does_b : Does x calls b) where
  from_above : (t : ℕ) → size_in x ≤ t → t ≤ (pair_in x a b t).from
  from_above t size = let h = (low_a t size).next in let k = behind_le (pair_in x a b t).moved (pair_in x a b t).moved_to in omega (arith, h, k)

  next_above : (t : ℕ) → size_in x ≤ t → (pair_in x a b t).from ≤ (pair_in x a b t).next
  next_above t size = let up = from_above t size in (low_b (pair_in x a b t).from (omega (arith, size, up))).next

  left_below : (t : ℕ) → size_in x ≤ t → IsBelow (pair_in x a b t).next (pair_in x a b t).left
  left_below t size =
      let q = pair_in x a b t in
      below_later q.from q.next q.left (next_above t size) (held_below q.moved q.first q.moved_to (low_a t size).below)

  right_below : (t : ℕ) → size_in x ≤ t → IsBelow (pair_in x a b t).next (pair_in x a b t).right
  right_below t size = let q = pair_in x a b t in let up = from_above t size in (low_b q.from (omega (arith, size, up))).below

  -- a pointer, then the index
  pub move_does : (d : Direction) (of : ObjectType) → Does x calls (Move d of a b)
  move_does d of t g s l w size st sound fits aims =
      let q = pair_in x a b t in
      let up = from_above t size in
      let next = next_above t size in
      pair_does x calls low a b typed_a typed_b low_a spares_b grows_a does_a does_b t g (Name (pick (names_in x) t (behind_move (is_scaled (object_size of) q.right) q.next)))
      (code_scaled_pair (names_in x) g t (move_by d) (object_size of) q.left q.right q.next) (λ v u s1. value_or_undefined (moved_by_elements s1.memory d of v u) s1) s l w size st sound fits
      (λ v u s1 l1 w1 sound1 fits1 same_v same_u kind_v kind_u. subst (Result x g (Name (pick (names_in x) t (behind_move (is_scaled (object_size of) q.right) q.next))) t (λ y. false) (code_scaled_pair (names_in x) g t (move_by d) (object_size of) q.left q.right q.next).ops (code_scaled_pair (names_in x) g t (move_by d) (object_size of) q.left q.right q.next).end l1 w1) (given_gives (moved_by_elements s1.memory d of v u) s1)
      (moves x low small Gives gives_filters d of v u q.left q.right t q.next (omega (arith, up, next)) size (left_below t size) g s1 l1 w1 sound1 fits1 same_v same_u))

  -- the index, then a pointer
  pub move_from_does : (of : ObjectType) → Does x calls (MoveFrom a of b)
  move_from_does of t g s l w size st sound fits aims =
      let q = pair_in x a b t in
      let up = from_above t size in
      let next = next_above t size in
      pair_does x calls low a b typed_a typed_b low_a spares_b grows_a does_a does_b t g (Name (pick (names_in x) t (behind_move (is_scaled (object_size of) q.left) q.next)))
      (code_scaled_pair (names_in x) g t operation.Add (object_size of) q.right q.left q.next) (λ u v s1. value_or_undefined (moved_by_elements s1.memory Up of v u) s1) s l w size st sound fits
      (λ u v s1 l1 w1 sound1 fits1 same_u same_v kind_u kind_v. subst (Result x g (Name (pick (names_in x) t (behind_move (is_scaled (object_size of) q.left) q.next))) t (λ y. false) (code_scaled_pair (names_in x) g t operation.Add (object_size of) q.right q.left q.next).ops (code_scaled_pair (names_in x) g t operation.Add (object_size of) q.right q.left q.next).end l1 w1) (given_gives (moved_by_elements s1.memory Up of v u) s1)
      (moves x low small Gives gives_filters Up of v u q.right q.left t q.next (omega (arith, up, next)) size (right_below t size) g s1 l1 w1 sound1 fits1 same_v same_u))

  -- an array that is an element decays
  pub decayed_element : (of : ObjectType) → Does x calls (Decay (Element of a b))
  decayed_element of t g s l w size st sound fits aims =
      let q = pair_in x a b t in
      let up = from_above t size in
      let next = next_above t size in
      let own = Name (pick (names_in x) t (behind_move (is_scaled (object_size of) q.right) q.next)) in
      let m = code_scaled_pair (names_in x) g t operation.Add (object_size of) q.left q.right q.next in
      let c = in_turn (code_in x a) (code_in x b) t q m in
      subst (Result x g own t (λ y. writes (names_in x) y a || writes (names_in x) y b) c.ops c.end l w)
      (with_both (both_operands (evaluate calls (depth_in x) a s) (evaluate calls (depth_in x) b)) (λ v u s1. value_or_undefined (moved_by_elements s1.memory Up of v u) s1) decayed)
      (pair_does x calls low a b typed_a typed_b low_a spares_b grows_a does_a does_b t g own m (λ v u s1. with (value_or_undefined (moved_by_elements s1.memory Up of v u) s1) decayed) s l w size st sound fits
      (λ v u s1 l1 w1 sound1 fits1 same_v same_u kind_v kind_u. moves x low small decayed decayed_filters Up of v u q.left q.right t q.next (omega (arith, up, next)) size (left_below t size) g s1 l1 w1 sound1 fits1 same_v same_u))

  pub decayed_element_from : (of : ObjectType) → Does x calls (Decay (ElementFrom of a b))
  decayed_element_from of t g s l w size st sound fits aims =
      let q = pair_in x a b t in
      let up = from_above t size in
      let next = next_above t size in
      let own = Name (pick (names_in x) t (behind_move (is_scaled (object_size of) q.left) q.next)) in
      let m = code_scaled_pair (names_in x) g t operation.Add (object_size of) q.right q.left q.next in
      let c = in_turn (code_in x a) (code_in x b) t q m in
      subst (Result x g own t (λ y. writes (names_in x) y a || writes (names_in x) y b) c.ops c.end l w)
      (with_both (both_operands (evaluate calls (depth_in x) a s) (evaluate calls (depth_in x) b)) (λ u v s1. value_or_undefined (moved_by_elements s1.memory Up of v u) s1) decayed)
      (pair_does x calls low a b typed_a typed_b low_a spares_b grows_a does_a does_b t g own m (λ u v s1. with (value_or_undefined (moved_by_elements s1.memory Up of v u) s1) decayed) s l w size st sound fits
      (λ u v s1 l1 w1 sound1 fits1 same_u same_v kind_u kind_v. moves x low small decayed decayed_filters Up of v u q.right q.left t q.next (omega (arith, up, next)) size (right_below t size) g s1 l1 w1 sound1 fits1 same_v same_u))

-- The place of an element is where its pointer points.
module _ (x : Setting) (calls : Calls) where
  place_by : (lv : LvalueTree) (a : Operand) (t : ℕ) (m : Made) (ops : List Instruction) (end : End) (l : Local) (w : World) → place_in x lv t ≡ At a → (r : Evaluated) → ToR x None m a t (within_written x lv) ops end l w r → PlaceR x m lv t ops end l w r
  place_by lv a t m ops end l w is (Gives v s) h =
      record { reached = h.reached; same = subst (λ loc. SameValue x.program s.memory h.reached.world.memory v (pointed_in x h.reached.local h.reached.world loc)) (sym is) h.same }
  place_by lv a t m ops end l w is (Leaves s) h = left_stuck x None m t (within_written x lv) ops end l w s h
  place_by lv a t m ops end l w is (Ends e s) h = h

  pub element_place : (of : ObjectType) (p i : RvalueTree) → Does x calls (Move Up of p i) → DoesPlace x calls (Element of p i)
  element_place of p i does t m s l w size st sound fits =
      let c = code_in x (Move Up of p i) t (To None m) in
      place_by (Element of p i) (value_in x (Move Up of p i) t) t m c.ops c.end l w refl (evaluate calls (depth_in x) (Move Up of p i) s) (does t (To None m) s l w size st sound fits tt)

  pub element_from_place : (of : ObjectType) (i p : RvalueTree) → Does x calls (MoveFrom i of p) → DoesPlace x calls (ElementFrom of i p)
  element_from_place of i p does t m s l w size st sound fits =
      let c = code_in x (MoveFrom i of p) t (To None m) in
      place_by (ElementFrom of i p) (value_in x (MoveFrom i of p) t) t m c.ops c.end l w refl (evaluate calls (depth_in x) (MoveFrom i of p) s) (does t (To None m) s l w size st sound fits tt)

  -- Their addresses are the moved pointers.
  aims_as : (g : Goal) (a b : RvalueTree) (t : ℕ) → ((k : ℕ) → Apart x k a → Apart x k b) → Aims x g a t → Aims x g b t
  aims_as (To None m) a b t turn aims = tt
  aims_as (To (Some k) m) a b t turn aims = (aims.0, λ lt. turn k (aims.1 lt))
  aims_as (Unused m) a b t turn aims = tt
  aims_as (Either one other inner) a b t turn aims = tt

  pub element_address : (of : ObjectType) (p i : RvalueTree) → Does x calls (Move Up of p i) → Does x calls (AddressOf (Element of p i))
  element_address of p i does t g s l w size st sound fits aims = does t g s l w size st sound fits (aims_as g (AddressOf (Element of p i)) (Move Up of p i) t (λ k h. tt) aims)

  pub element_from_address : (of : ObjectType) (i p : RvalueTree) → Does x calls (MoveFrom i of p) → Does x calls (AddressOf (ElementFrom of i p))
  element_from_address of i p does t g s l w size st sound fits aims = does t g s l w size st sound fits (aims_as g (AddressOf (ElementFrom of i p)) (MoveFrom i of p) t (λ k h. tt) aims)
