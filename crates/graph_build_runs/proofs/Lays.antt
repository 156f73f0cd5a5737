-- Values of expressions stand below the next name that is free.
use Rattle.std.proofs.Common.{◌≡◌, ℕ, ◌+◌, ◌<◌, ◌≤◌, max, Option, Some, None, Bool, true, false, not, refl, arith}
use Rattle.std.specs.Prelude.{◌==◌}
use Rattle.c_tree.specs.declared.typed_expression.Sign.TheVariants.{Plus, Minus, Complement}
use Rattle.c_tree.specs.declared.object_type.Object as designator
use Rattle.c_tree.specs.declared.object_type.Object.TheVariants as object
use Rattle.c_tree.specs.TypedExpressions.{RvalueTree, LvalueTree, ArgumentTrees, Constant, Null, Load, Decay, AddressOf, Convert, Discard, Signed, Not, Arithmetic, Compare, ComparePointers, Move, MoveFrom, Difference, And, Or, Conditional, Comma, Assign, Update, UpdatePointer, Step, StepPointer, Call, Named, Target, Element, ElementFrom, none, first}
use Rattle.c_type_rules.specs.Integers.{object_size}
use Rattle.c_type_rules.specs.ValueTypes.{type_of, given_by, is_void, integer_in}
use Rattle.graph_core.specs.Graphs as unit
use Rattle.graph_build_names.specs.Conversions.{keeps_bits, is_narrow, unsigned_bits}
use Rattle.graph_build_names.specs.Operands.{is_two, is_two_pointers}
use Rattle.graph_build_layout.specs.declared.laid.Use.{Use}
use Rattle.graph_build_layout.specs.declared.laid.Use.TheVariants.{Anywhere, In, Nothing, Tested}
use Rattle.graph_build_names.specs.Names.{Names, pick, scalar_of, scalar_named, object_of}
use Rattle.graph_build_names.specs.Writes.{writes, writes_any, is_moved, is_location_moved}
use Rattle.graph_build_layout.specs.Laid.{Laid, Pair, PlaceLaid, pair, behind_move, as_value, worked, use_for, operation_laid, converted_laid, behind_own, arms_top, choice_top, begun_at, begun_behind}
use Rattle.graph_build_layout.specs.Layout.{laid, place_laid, address_laid, passed_laid, named_address, scales}
use Rattle.graph_build_runs.proofs.Operands.{behind_le}
use Rattle.graph_build_runs.proofs.Arithmetic.{pick_between}
use Rattle.graph_build_runs.proofs.Laying.{LaidLow, PlaceLow, PassedLow, operation_low, unused_low, pair_next, pair_top, behind_from, leaf_low, loaded_low, as_value_low, nothing_low, worked_low, later_low, chosen_low, converted_low, steps_low, compared_low, moved_low, joined_low, own_le, truth_low, assigned_low, updated_low, step_low, called_low, object_low}

module _ (n : Names) (size : ℕ) (low : (v k : ℕ) → scalar_of n v ≡ Some k → k < size) where
  -- a right side begins at a later name
  begun_le : (o : Option ℕ) (t : ℕ) (written : ℕ → Bool) (place : PlaceLaid) → t ≤ place.next → t ≤ begun_at o t written place
  begun_le (Some x) t written place le = omega arith
  begun_le None t written place le = behind_from n size low (is_location_moved written place.location) t place.next le

  begun_behind_le : (o : Option ℕ) (t : ℕ) (written : ℕ → Bool) (place : PlaceLaid) → t ≤ place.next → t ≤ begun_behind o t written place
  begun_behind_le (Some x) t written place le = behind_from n size low (written x) t t (omega arith)
  begun_behind_le None t written place le = behind_from n size low (is_location_moved written place.location) t (place.next + 1) (omega (arith, le))

  named_low : (o : designator.Object) (u : Use) (t : ℕ) → LaidLow u t (named_address n o u t)
  named_low (object.Static i) u t = leaf_low n size low u (unit.StaticAddress i 0) t tt
  named_low (object.Literal i) u t = leaf_low n size low u (unit.StaticAddress (n.statics + i) 0) t tt
  named_low (object.Automatic v) u t = object_low n size low u (object_of n v) t

  -- behind arms
  arms_le : (t : ℕ) (c : Laid) (a b : ℕ → Laid) → t ≤ c.top → ((k : ℕ) → t ≤ k → k ≤ (a k).top) → t ≤ arms_top n t c a b
  arms_le t c a b le tops = let first = pick_between n t c.top t (omega arith) le in let h = tops (pick n t c.top) first in omega (arith, first, h)

  abbrev Lays : RvalueTree → Type 0
  Lays e = (u : Use) (t : ℕ) → size ≤ t → LaidLow u t (laid n e u t)

  two_next : (a b : RvalueTree) → Lays a → Lays b → (t : ℕ) → size ≤ t → t ≤ (pair (λ y. writes n y b) (laid n a Anywhere t) (laid n b Anywhere)).next
  two_next a b ha hb t le = pair_next n size low (λ y. writes n y b) t (laid n a Anywhere t) (laid n b Anywhere) (ha Anywhere t le).next (λ k h. (hb Anywhere k (omega (arith, le, h))).next)

  two_top : (a b : RvalueTree) → Lays a → (t : ℕ) → size ≤ t → t ≤ (pair (λ y. writes n y b) (laid n a Anywhere t) (laid n b Anywhere)).top
  two_top a b ha t le = pair_top n size low (λ y. writes n y b) t (laid n a Anywhere t) (laid n b Anywhere) (ha Anywhere t le).top

  both_lays : (a b : RvalueTree) → Lays a → Lays (And a b)
  both_lays a b ha u t le = truth_low n size low u t _ (let own = own_le n size low u t in let h = (ha Tested (behind_own u t) (omega (arith, le, own))).top in omega (arith, h))

  mutual
    pub lays : (e : RvalueTree) (u : Use) (t : ℕ) → size ≤ t → LaidLow u t (laid n e u t)
    lays (Constant z ty) u t le = leaf_low n size low u (unit.Constant (unsigned_bits z)) t tt
    lays Null u t le = leaf_low n size low u (unit.Constant 0) t tt
    lays (Load s l) u t le = loaded_low n size low u t l (place_laid n l t) (scalar_named n l) refl le (place_lays l t le)
    lays (Decay l) u t le = address_lays l u t le
    lays (AddressOf l) u t le = address_lays l u t le
    lays (Convert ty e) u t le =
        chosen_low n size low u t (keeps_bits (integer_in (type_of n.results e)) ty) (laid n e (as_value u) t) (converted_laid n u ty t (laid n e Anywhere t))
        (as_value_low n size low u t (laid n e (as_value u) t) (lays e (as_value u) t le)) (converted_low n size low u ty t (laid n e Anywhere t) (lays e Anywhere t le))
    lays (Discard e) u t le = nothing_low n size low u t (laid n e Nothing t) (lays e Nothing t le)
    lays (Signed Plus ty e) u t le = as_value_low n size low u t (laid n e (as_value u) t) (lays e (as_value u) t le)
    lays (Signed Minus ty e) u t le = operation_low n size low u t t (laid n e Anywhere t).next (laid n e Anywhere t).top (omega arith) (lays e Anywhere t le).next
    lays (Signed Complement ty e) u t le = operation_low n size low u t t (laid n e Anywhere t).next (laid n e Anywhere t).top (omega arith) (lays e Anywhere t le).next
    lays (Not e) Tested t le = lays e Tested t le
    lays (Not e) (In x) t le = operation_low n size low (In x) t t (laid n e Anywhere t).next (laid n e Anywhere t).top (omega arith) (lays e Anywhere t le).next
    lays (Not e) Anywhere t le = operation_low n size low Anywhere t t (laid n e Anywhere t).next (laid n e Anywhere t).top (omega arith) (lays e Anywhere t le).next
    lays (Not e) Nothing t le = operation_low n size low Nothing t t (laid n e Anywhere t).next (laid n e Anywhere t).top (omega arith) (lays e Anywhere t le).next
    lays (Arithmetic o ty a b) u t le =
        let q = pair (λ y. writes n y b) (laid n a Anywhere t) (laid n b Anywhere) in operation_low n size low u t t q.next q.top (omega arith) (two_next a b (lays a) (lays b) t le)
    lays (Compare o ty a b) u t le = compared_low n size low u (is_two o) t (pair (λ y. writes n y b) (laid n a Anywhere t) (laid n b Anywhere)) (two_next a b (lays a) (lays b) t le) (two_top a b (lays a) t le)
    lays (ComparePointers o a b) u t le = compared_low n size low u (is_two_pointers o) t (pair (λ y. writes n y b) (laid n a Anywhere t) (laid n b Anywhere)) (two_next a b (lays a) (lays b) t le) (two_top a b (lays a) t le)
    lays (Move d of p i) u t le = let q = pair (λ y. writes n y i) (laid n p Anywhere t) (laid n i Anywhere) in moved_low n size low u (object_size of) q.right t q (two_next p i (lays p) (lays i) t le)
    lays (MoveFrom i of p) u t le = let q = pair (λ y. writes n y p) (laid n i Anywhere t) (laid n p Anywhere) in moved_low n size low u (object_size of) q.left t q (two_next i p (lays i) (lays p) t le)
    lays (Difference of a b) u t le = steps_low n size low u (not (object_size of == 1)) t (pair (λ y. writes n y b) (laid n a Anywhere t) (laid n b Anywhere)) (two_next a b (lays a) (lays b) t le)
    lays (And a b) u t le = both_lays a b (lays a) u t le
    lays (Or a b) u t le = both_lays a b (lays a) u t le
    lays (Conditional c a b) u t le = chosen_low n size low u t (is_void (type_of n.results a)) _ _
        (unused_low n size low u t (pick n t (arms_top n t (laid n c Tested t) (laid n a Nothing) (laid n b Nothing))) (choice_top n t (laid n c Tested t) (laid n a Nothing) (laid n b Nothing))
        (pick_between n t (arms_top n t (laid n c Tested t) (laid n a Nothing) (laid n b Nothing)) t (omega arith) (arms_le t (laid n c Tested t) (laid n a Nothing) (laid n b Nothing) (lays c Tested t le).top (λ k h. (lays a Nothing k (omega (arith, le, h))).top)))
        (let h = (lays c Tested t le).top in omega (arith, h)))
        (joined_low n size low u t (choice_top n (t + 1) (laid n c Tested (t + 1)) (laid n a (In t)) (laid n b (In t))) (let h = (lays c Tested (t + 1) (omega (arith, le))).top in omega (arith, h)))
    lays (Comma a b) u t le =
        let first = (lays a Nothing t le).top in
        let k = pick n t (laid n a Nothing t).top in
        let at : t ≤ pick n t (laid n a Nothing t).top = pick_between n t (laid n a Nothing t).top t (omega arith) first in
        let h = lays b u k (omega (arith, le, at)) in
        record { next = omega (arith, at, h.next); top = omega (arith, first); below = h.below }
    lays (Assign s l e) u t le =
        let place = place_laid n l t in
        let at = place_lays l t le in
        let from = begun_le (scalar_named n l) t (λ y. writes n y e) place at.next in
        assigned_low n size low u l (scalar_named n l) t place (laid n e (use_for (scalar_named n l) u) (begun_at (scalar_named n l) t (λ y. writes n y e) place)) refl le
        (later_low n size low (use_for (scalar_named n l) u) t (begun_at (scalar_named n l) t (λ y. writes n y e) place) (laid n e (use_for (scalar_named n l) u) (begun_at (scalar_named n l) t (λ y. writes n y e) place)) from
        (lays e (use_for (scalar_named n l) u) (begun_at (scalar_named n l) t (λ y. writes n y e) place) (omega (arith, le, from))))
    lays (Update o ty v l e) u t le =
        let place = place_laid n l t in
        let at = place_lays l t le in
        let from = begun_behind_le (scalar_named n l) t (λ y. writes n y e) place at.next in
        let r = laid n e Anywhere (begun_behind (scalar_named n l) t (λ y. writes n y e) place) in
        updated_low n size low u (is_narrow ty) (scales None r.value) l (scalar_named n l) t place r refl le at.next
        (let h = (lays e Anywhere (begun_behind (scalar_named n l) t (λ y. writes n y e) place) (omega (arith, le, from))).next in omega (arith, from, h))
    lays (UpdatePointer d of l e) u t le =
        let place = place_laid n l t in
        let at = place_lays l t le in
        let from = begun_behind_le (scalar_named n l) t (λ y. writes n y e) place at.next in
        let r = laid n e Anywhere (begun_behind (scalar_named n l) t (λ y. writes n y e) place) in
        updated_low n size low u false (scales (Some of) r.value) l (scalar_named n l) t place r refl le at.next
        (let h = (lays e Anywhere (begun_behind (scalar_named n l) t (λ y. writes n y e) place) (omega (arith, le, from))).next in omega (arith, from, h))
    lays (Step d g ty v l) u t le = step_low n size low g u (is_narrow ty) l (scalar_named n l) t (place_laid n l t) refl le (place_lays l t le)
    lays (StepPointer d g of l) u t le = step_low n size low g u false l (scalar_named n l) t (place_laid n l t) refl le (place_lays l t le)
    lays (Call c all) u t le = let h = passed_lays all t le in called_low n size low u (is_void (given_by n.results c)) t (passed_laid n all t).next (passed_laid n all t).top h.next h.top

    pub place_lays : (l : LvalueTree) (t : ℕ) → size ≤ t → PlaceLow t (place_laid n l t)
    place_lays (Named o of) t le = record { next = omega arith; top = omega arith }
    place_lays (Target of p) t le = let h = lays p Anywhere t le in record { next = h.next; top = h.top }
    place_lays (Element of p i) t le =
        let q = pair (λ y. writes n y i) (laid n p Anywhere t) (laid n i Anywhere) in
        let h = moved_low n size low Anywhere (object_size of) q.right t q (two_next p i (lays p) (lays i) t le) in record { next = h.next; top = h.top }
    place_lays (ElementFrom of i p) t le =
        let q = pair (λ y. writes n y p) (laid n i Anywhere t) (laid n p Anywhere) in
        let h = moved_low n size low Anywhere (object_size of) q.left t q (two_next i p (lays i) (lays p) t le) in record { next = h.next; top = h.top }

    pub address_lays : (l : LvalueTree) (u : Use) (t : ℕ) → size ≤ t → LaidLow u t (address_laid n l u t)
    address_lays (Named o of) u t le = named_low o u t
    address_lays (Target of p) u t le = worked_low n size low u t (laid n p (worked u) t) (lays p (worked u) t le)
    address_lays (Element of p i) u t le = let q = pair (λ y. writes n y i) (laid n p Anywhere t) (laid n i Anywhere) in moved_low n size low u (object_size of) q.right t q (two_next p i (lays p) (lays i) t le)
    address_lays (ElementFrom of i p) u t le = let q = pair (λ y. writes n y p) (laid n i Anywhere t) (laid n p Anywhere) in moved_low n size low u (object_size of) q.left t q (two_next i p (lays i) (lays p) t le)

    pub passed_lays : (all : ArgumentTrees) (t : ℕ) → size ≤ t → PassedLow t (passed_laid n all t)
    passed_lays none t le = record { next = omega arith; top = omega arith }
    passed_lays (first e rest) t le =
        let r = laid n e Anywhere t in
        let h = lays e Anywhere t le in
        let from = behind_from n size low (is_moved (λ y. writes_any n y rest) r.value) t r.next h.next in
        let k = passed_lays rest (behind_move (is_moved (λ y. writes_any n y rest) r.value) r.next) (omega (arith, le, from)) in
        record { next = omega (arith, from, k.next); top = omega (arith, h.top) }
