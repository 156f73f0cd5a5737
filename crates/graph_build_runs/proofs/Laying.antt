-- Values stand below the next name that is free.
use Rattle.std.proofs.Common.{◌≡◌, ℕ, ◌+◌, ◌<◌, ◌≤◌, max, Option, Some, None, Bool, true, false, not, ◌||◌, refl, sym, subst, arith}
use Rattle.std.specs.Prelude.{◌==◌, if◌then◌else◌}
use Rattle.c_tree.specs.declared.typed_expression.Given.{Given}
use Rattle.c_tree.specs.declared.typed_expression.Given.TheVariants.{New, Old}
use Rattle.c_tree.specs.declared.typed_expression.Sign.TheVariants.{Plus, Minus, Complement}
use Rattle.c_tree.specs.declared.object_type.Object as designator
use Rattle.c_tree.specs.declared.object_type.Object.TheVariants as object
use Rattle.c_tree.specs.TypedExpressions.{RvalueTree, LvalueTree, ArgumentTrees, Constant, Null, Load, Decay, AddressOf, Convert, Discard, Signed, Not, Arithmetic, Compare, ComparePointers, Move, MoveFrom, Difference, And, Or, Conditional, Comma, Assign, Update, UpdatePointer, Step, StepPointer, Call, Named, Target, Element, ElementFrom, none, first}
use Rattle.c_tree.specs.declared.types.IntegerType.{IntegerType}
use Rattle.c_type_rules.specs.Integers.{object_size}
use Rattle.c_type_rules.specs.ValueTypes.{type_of, given_by, is_void, integer_in}
use Rattle.graph_core.specs.Graphs as unit
use Rattle.graph_core.specs.Graphs.{Operand, Name, Location}
use Rattle.graph_build_names.specs.Conversions.{keeps_bits, is_narrow, is_kept_constant, unsigned_bits}
use Rattle.graph_build_names.specs.Operands.{is_two, is_two_pointers}
use Rattle.graph_build_names.specs.Scales.{is_scaled}
use Rattle.graph_build_layout.specs.declared.laid.Use.{Use}
use Rattle.graph_build_layout.specs.declared.laid.Use.TheVariants.{Anywhere, In, Nothing, Tested}
use Rattle.graph_build_names.specs.Names.{Names, pick, scalar_of, scalar_named, object_of}
use Rattle.graph_build_names.specs.Writes.{writes, writes_any, is_moved, is_location_moved}
use Rattle.graph_build_layout.specs.Laid.{Laid, Pair, PlaceLaid, PassedLaid, pair, behind_move, as_value, worked, use_for, operation_laid, standing, leaf_laid, after_pair, moved_laid, steps_laid, compared_laid, converted_laid, joined_laid, truth_laid, both_laid, behind_own, void_arms_laid, arms_laid, arms_top, choice_top, begun_at, begun_behind, assigned_laid, renewed_scalar_laid, renewed_memory_laid, updated_laid, stepped_laid, old_laid, left_scalar_laid, left_memory_laid, left_laid, step_laid, called_laid, loaded_laid, object_laid, unused_laid, passed_behind, behind_top}
use Rattle.graph_build_layout.specs.Layout.{laid, place_laid, address_laid, passed_laid, scales}
use Rattle.graph_build_runs.proofs.Operands.{IsBelow, behind_le}
use Rattle.graph_build_runs.proofs.Arithmetic.{pick_between}

-- where a value may be asked to stand in a scalar, nothing is said of its name
abbrev pub IsBelowBy : Use → ℕ → Operand → Type 0
IsBelowBy (In x) t a = Unit {0}
IsBelowBy Anywhere t a = IsBelow t a
IsBelowBy Nothing t a = IsBelow t a
IsBelowBy Tested t a = IsBelow t a

-- what is laid begins at a name, and stands below the next one that is free
pub record LaidLow (u : Use) (t : ℕ) (r : Laid) : Type 0 where
  pub next : t ≤ r.next
  pub top : t ≤ r.top
  pub below : IsBelowBy u r.next r.value

pub record PlaceLow (t : ℕ) (r : PlaceLaid) : Type 0 where
  pub next : t ≤ r.next
  pub top : t ≤ r.top

pub record PassedLow (t : ℕ) (r : PassedLaid) : Type 0 where
  pub next : t ≤ r.next
  pub top : t ≤ r.top

module _ (n : Names) (size : ℕ) (low : (v k : ℕ) → scalar_of n v ≡ Some k → k < size) where
  pub operation_low : (u : Use) (t begun free top : ℕ) → t ≤ begun → t ≤ free → LaidLow u t (operation_laid n u begun free top)
  operation_low (In x) t begun free top le1 le2 = record { next = pick_between n begun free t le1 le2; top = omega (arith, le2); below = tt }
  operation_low Anywhere t begun free top le1 le2 = let le = pick_between n begun free t le1 le2 in record { next = omega (arith, le); top = omega (arith, le2); below = omega arith }
  operation_low Nothing t begun free top le1 le2 = let le = pick_between n begun free t le1 le2 in record { next = omega (arith, le); top = omega (arith, le2); below = omega arith }
  operation_low Tested t begun free top le1 le2 = let le = pick_between n begun free t le1 le2 in record { next = omega (arith, le); top = omega (arith, le2); below = omega arith }

  pub standing_low : (u : Use) (t begun : ℕ) (r : Laid) → t ≤ begun → t ≤ r.next → t ≤ r.top → IsBelowBy u r.next r.value → LaidLow u t (standing n u begun r)
  standing_low (In x) t begun r le1 le2 top is = record { next = pick_between n begun r.next t le1 le2; top = top; below = tt }
  standing_low Anywhere t begun r le1 le2 top is = record { next = le2; top = top; below = is }
  standing_low Nothing t begun r le1 le2 top is = record { next = le2; top = top; below = is }
  standing_low Tested t begun r le1 le2 top is = record { next = le2; top = top; below = is }

  -- what stands below a number does so whatever it is asked for
  pub below_by : (u : Use) (k : ℕ) (a : Operand) → IsBelow k a → IsBelowBy u k a
  below_by (In x) k a is = tt
  below_by Anywhere k a is = is
  below_by Nothing k a is = is
  below_by Tested k a is = is

  pub unused_low : (u : Use) (t next top : ℕ) → t ≤ next → t ≤ top → LaidLow u t (unused_laid next top)
  unused_low (In x) t next top le1 le2 = record { next = le1; top = le2; below = tt }
  unused_low Anywhere t next top le1 le2 = record { next = le1; top = le2; below = tt }
  unused_low Nothing t next top le1 le2 = record { next = le1; top = le2; below = tt }
  unused_low Tested t next top le1 le2 = record { next = le1; top = le2; below = tt }

  -- two values
  pub pair_next : (written : ℕ → Bool) (t : ℕ) (a : Laid) (b : ℕ → Laid) → t ≤ a.next → ((k : ℕ) → t ≤ k → k ≤ (b k).next) → t ≤ (pair written a b).next
  pair_next written t a b le next =
      let from = behind_le (is_moved written a.value) a.next in
      let behind = next (behind_move (is_moved written a.value) a.next) (omega (arith, le, from)) in
      omega (arith, le, from, behind)

  pub pair_top : (written : ℕ → Bool) (t : ℕ) (a : Laid) (b : ℕ → Laid) → t ≤ a.top → t ≤ (pair written a b).top
  pair_top written t a b le = omega (arith, le)

  pub behind_from : (taken : Bool) (t k : ℕ) → t ≤ k → t ≤ behind_move taken k
  behind_from true t k le = omega (arith, le)
  behind_from false t k le = le

  pub scalar_below : (l : LvalueTree) (x : ℕ) → scalar_named n l ≡ Some x → x < size
  scalar_below (Named (object.Static i) of) x e = cc
  scalar_below (Named (object.Literal i) of) x e = cc
  scalar_below (Named (object.Automatic v) of) x e = low v x e
  scalar_below (Target of p) x e = cc
  scalar_below (Element of p i) x e = cc
  scalar_below (ElementFrom of i p) x e = cc

  pub leaf_low : (u : Use) (a : Operand) (t : ℕ) → IsBelow t a → LaidLow u t (leaf_laid n u a t)
  leaf_low u a t is = standing_low u t t (record { value = a; next = t; top = t }) (omega arith) (omega arith) (omega arith) (below_by u t a is)

  pub loaded_low : (u : Use) (t : ℕ) (l : LvalueTree) (place : PlaceLaid) (o : Option ℕ) → scalar_named n l ≡ o → size ≤ t → PlaceLow t place → LaidLow u t (loaded_laid n u o t place)
  loaded_low u t l place (Some x) e le is = let lt = scalar_below l x e in leaf_low u (Name x) t (omega (arith, lt, le))
  loaded_low u t l place None e le is = operation_low u t t place.next place.top (omega arith) is.next

  pub as_value_low : (u : Use) (t : ℕ) (r : Laid) → LaidLow (as_value u) t r → LaidLow u t r
  as_value_low (In x) t r h = record { next = h.next; top = h.top; below = h.below }
  as_value_low Anywhere t r h = record { next = h.next; top = h.top; below = h.below }
  as_value_low Nothing t r h = record { next = h.next; top = h.top; below = h.below }
  as_value_low Tested t r h = record { next = h.next; top = h.top; below = h.below }

  pub nothing_low : (u : Use) (t : ℕ) (r : Laid) → LaidLow Nothing t r → LaidLow u t r
  nothing_low u t r h = record { next = h.next; top = h.top; below = below_by u r.next r.value h.below }

  pub worked_low : (u : Use) (t : ℕ) (r : Laid) → LaidLow (worked u) t r → LaidLow u t r
  worked_low (In x) t r h = record { next = h.next; top = h.top; below = h.below }
  worked_low Anywhere t r h = record { next = h.next; top = h.top; below = h.below }
  worked_low Nothing t r h = record { next = h.next; top = h.top; below = h.below }
  worked_low Tested t r h = record { next = h.next; top = h.top; below = h.below }

  pub wanted_low : (u : Use) (t : ℕ) (r : Laid) → LaidLow (use_for None u) t r → LaidLow u t r
  wanted_low (In x) t r h = record { next = h.next; top = h.top; below = h.below }
  wanted_low Anywhere t r h = record { next = h.next; top = h.top; below = h.below }
  wanted_low Nothing t r h = record { next = h.next; top = h.top; below = h.below }
  wanted_low Tested t r h = record { next = h.next; top = h.top; below = h.below }

  -- it begins at a later name
  pub later_low : (u : Use) (t k : ℕ) (r : Laid) → t ≤ k → LaidLow u k r → LaidLow u t r
  later_low u t k r le h = record { next = omega (arith, le, h.next); top = omega (arith, le, h.top); below = h.below }

  pub chosen_low : (u : Use) (t : ℕ) (b : Bool) (r q : Laid) → LaidLow u t r → LaidLow u t q → LaidLow u t (if b then r else q)
  chosen_low u t true r q h k = h
  chosen_low u t false r q h k = k

  pub converted_low : (u : Use) (ty : IntegerType) (t : ℕ) (r : Laid) → LaidLow Anywhere t r → LaidLow u t (converted_laid n u ty t r)
  converted_low u ty t r h =
      chosen_low u t (is_kept_constant ty r.value) (standing n u t r) (operation_laid n u t r.next r.top) (standing_low u t t r (omega arith) h.next h.top (below_by u r.next r.value h.below))
      (operation_low u t t r.next r.top (omega arith) h.next)

  pub steps_low : (u : Use) (two : Bool) (t : ℕ) (q : Pair) → t ≤ q.next → LaidLow u t (steps_laid n u two t q)
  steps_low u two t q le = operation_low u t t (behind_move two q.next) (max q.top (behind_move two q.next)) (omega arith) (behind_from two t q.next le)

  pub compared_low : (u : Use) (two : Bool) (t : ℕ) (q : Pair) → t ≤ q.next → t ≤ q.top → LaidLow u t (compared_laid n u two t q)
  compared_low Tested two t q le top = unused_low Tested t q.next q.top le top
  compared_low (In x) two t q le top = steps_low (In x) two t q le
  compared_low Anywhere two t q le top = steps_low Anywhere two t q le
  compared_low Nothing two t q le top = steps_low Nothing two t q le

  pub moved_low : (u : Use) (bytes : ℕ) (index : Operand) (t : ℕ) (q : Pair) → t ≤ q.next → LaidLow u t (moved_laid n u t bytes index q)
  moved_low u bytes index t q le = operation_low u t t (behind_move (is_scaled bytes index) q.next) q.top (omega arith) (behind_from (is_scaled bytes index) t q.next le)

  pub joined_low : (u : Use) (t top : ℕ) → t + 1 ≤ top → LaidLow u t (joined_laid n u t top)
  joined_low u t top le =
      let above = pick_between n (t + 1) top (t + 1) (omega arith) le in
      standing_low u t t (record { value = Name t; next = pick n (t + 1) top; top = top }) (omega arith) (omega (arith, above)) (omega (arith, le)) (below_by u (pick n (t + 1) top) (Name t) (omega (arith, above)))

  pub own_le : (u : Use) (t : ℕ) → t ≤ behind_own u t
  own_le (In x) t = omega arith
  own_le Anywhere t = omega arith
  own_le Nothing t = omega arith
  own_le Tested t = omega arith

  pub truth_low : (u : Use) (t top : ℕ) → behind_own u t ≤ top → LaidLow u t (truth_laid n u t top)
  truth_low Tested t top le = unused_low Tested t t top (omega arith) le
  truth_low (In x) t top le = joined_low (In x) t top le
  truth_low Anywhere t top le = joined_low Anywhere t top le
  truth_low Nothing t top le = joined_low Nothing t top le

  pub assigned_low : (u : Use) (l : LvalueTree) (o : Option ℕ) (t : ℕ) (place : PlaceLaid) (r : Laid) → scalar_named n l ≡ o → size ≤ t → LaidLow (use_for o u) t r → LaidLow u t (assigned_laid n u o t place r)
  assigned_low u l (Some x) t place r e le h =
      let lt = scalar_below l x e in
      standing_low u t t (record { value = Name x; next = r.next; top = r.top }) (omega arith) h.next h.top (below_by u r.next (Name x) (omega (arith, lt, le, h.next)))
  assigned_low u l None t place r e le h = let w = wanted_low u t r h in record { next = w.next; top = omega (arith, w.top); below = w.below }

  pub renewed_low : (u : Use) (x t free top : ℕ) → x < size → size ≤ t → t ≤ free → LaidLow u t (renewed_scalar_laid n u x t free top)
  renewed_low u x t free top lt size_le le =
      let above = pick_between n t free t (omega arith) le in
      standing_low u t t (record { value = Name x; next = pick n t free; top = max top free }) (omega arith) above (omega (arith, le)) (below_by u (pick n t free) (Name x) (omega (arith, above, lt, size_le)))

  pub updated_low : (u : Use) (narrow scaled : Bool) (l : LvalueTree) (o : Option ℕ) (t : ℕ) (place : PlaceLaid) (r : Laid) → scalar_named n l ≡ o → size ≤ t → t ≤ place.next → t ≤ r.next → LaidLow u t (updated_laid n u narrow scaled o t place r)
  updated_low u narrow scaled l (Some x) t place r e le at behind =
      renewed_low u x t (behind_move narrow (behind_move scaled r.next)) r.top (scalar_below l x e) le (behind_from narrow t (behind_move scaled r.next) (behind_from scaled t r.next behind))
  updated_low u narrow scaled l None t place r e le at behind =
      operation_low u t place.next (behind_move narrow (behind_move scaled r.next)) (max (max place.top r.top) (behind_move narrow (behind_move scaled r.next))) at (behind_from narrow t (behind_move scaled r.next) (behind_from scaled t r.next behind))

  pub old_low : (u : Use) (narrow : Bool) (x t : ℕ) → x < size → size ≤ t → LaidLow u t (left_scalar_laid n u narrow x t)
  old_low Nothing narrow x t lt le =
      let free = behind_from narrow t t (omega arith) in let above = pick_between n t (behind_move narrow t) t (omega arith) free in
      record { next = above; top = omega (arith, free); below = omega (arith, above, lt, le) }
  old_low (In y) narrow x t lt le = by (y == x)
    where
      by : (b : Bool) → LaidLow (In y) t (let r : Laid = if b then record { value = Name t; next = t + 1; top = t + 1 } else record { value = Name y; next = t; top = t } in let free = behind_move narrow r.next in standing n (In y) t (record { value = r.value; next = pick n r.next free; top = max r.top free }))
      by true =
          let free = behind_from narrow (t + 1) (t + 1) (omega arith) in let above = pick_between n (t + 1) (behind_move narrow (t + 1)) t (omega arith) (omega (arith, free)) in
          record { next = pick_between n t (pick n (t + 1) (behind_move narrow (t + 1))) t (omega arith) above; top = omega (arith, free); below = tt }
      by false =
          let free = behind_from narrow t t (omega arith) in let above = pick_between n t (behind_move narrow t) t (omega arith) free in
          record { next = pick_between n t (pick n t (behind_move narrow t)) t (omega arith) above; top = omega (arith, free); below = tt }
  old_low Anywhere narrow x t lt le =
      let free = behind_from narrow (t + 1) (t + 1) (omega arith) in let above = pick_between n (t + 1) (behind_move narrow (t + 1)) (t + 1) (omega arith) free in
      record { next = omega (arith, above); top = omega (arith, free); below = omega (arith, above) }
  old_low Tested narrow x t lt le =
      let free = behind_from narrow (t + 1) (t + 1) (omega arith) in let above = pick_between n (t + 1) (behind_move narrow (t + 1)) (t + 1) (omega arith) free in
      record { next = omega (arith, above); top = omega (arith, free); below = omega (arith, above) }

  pub left_memory_other : (u : Use) (narrow : Bool) (t k top : ℕ) → t ≤ k → t ≤ top → LaidLow Anywhere t (record { value = Name k; next = pick n (k + 1) (behind_move narrow (k + 2)); top = max top (behind_move narrow (k + 2)) })
  left_memory_other u narrow t k top le le_top =
      let free = behind_from narrow (k + 2) (k + 2) (omega arith) in let above = pick_between n (k + 1) (behind_move narrow (k + 2)) (k + 1) (omega arith) (omega (arith, free)) in
      record { next = omega (arith, above, le); top = omega (arith, le_top); below = omega (arith, above) }

  pub left_memory_low : (u : Use) (narrow : Bool) (t : ℕ) (place : PlaceLaid) → PlaceLow t place → LaidLow u t (left_memory_laid n u narrow t place)
  left_memory_low (In y) narrow t place is =
      let free = behind_from narrow t (place.next + 1) (omega (arith, is.next)) in
      record { next = pick_between n t (behind_move narrow (place.next + 1)) t (omega arith) free; top = omega (arith, is.top); below = tt }
  left_memory_low Anywhere narrow t place is = let h = left_memory_other Anywhere narrow t place.next place.top is.next is.top in record { next = h.next; top = h.top; below = h.below }
  left_memory_low Nothing narrow t place is = let h = left_memory_other Anywhere narrow t place.next place.top is.next is.top in record { next = h.next; top = h.top; below = h.below }
  left_memory_low Tested narrow t place is = let h = left_memory_other Anywhere narrow t place.next place.top is.next is.top in record { next = h.next; top = h.top; below = h.below }

  pub step_low : (g : Given) (u : Use) (narrow : Bool) (l : LvalueTree) (o : Option ℕ) (t : ℕ) (place : PlaceLaid) → scalar_named n l ≡ o → size ≤ t → PlaceLow t place → LaidLow u t (step_laid n g u narrow o t place)
  step_low New u narrow l (Some x) t place e le is = renewed_low u x t (behind_move narrow t) t (scalar_below l x e) le (behind_from narrow t t (omega arith))
  step_low New u narrow l None t place e le is =
      operation_low u t place.next (behind_move narrow (place.next + 1)) (max (max place.top place.top) (behind_move narrow (place.next + 1))) is.next (behind_from narrow t (place.next + 1) (omega (arith, is.next)))
  step_low Old u narrow l (Some x) t place e le is = old_low u narrow x t (scalar_below l x e) le
  step_low Old u narrow l None t place e le is = left_memory_low u narrow t place is

  pub called_low : (u : Use) (void : Bool) (t next top : ℕ) → t ≤ next → t ≤ top → LaidLow u t (called_laid n u void t next top)
  called_low u true t next top le le_top = unused_low u t (pick n t next) top (pick_between n t next t (omega arith) le) le_top
  called_low Nothing false t next top le le_top = unused_low Nothing t (pick n t next) top (pick_between n t next t (omega arith) le) le_top
  called_low (In x) false t next top le le_top = operation_low (In x) t t next top (omega arith) le
  called_low Anywhere false t next top le le_top = operation_low Anywhere t t next top (omega arith) le
  called_low Tested false t next top le le_top = operation_low Tested t t next top (omega arith) le

  pub object_low : (u : Use) (o : Option ℕ) (t : ℕ) → LaidLow u t (object_laid n u o t)
  object_low u None t = leaf_low u (unit.Constant 0) t tt
  object_low u (Some k) t = operation_low u t t t t (omega arith) (omega arith)
