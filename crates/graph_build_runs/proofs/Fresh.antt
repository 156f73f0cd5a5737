-- Values stand in no temporary that is older than their expression.
use Rattle.std.proofs.Common.{◌≡◌, ◌≢◌, ℕ, ◌+◌, ◌<◌, ◌≤◌, Option, Some, None, Bool, true, false, not, refl, arith}
use Rattle.std.specs.Prelude.{◌==◌, if◌then◌else◌}
use Rattle.c_tree.specs.declared.object_type.Object.TheVariants as object
use Rattle.c_tree.specs.declared.typed_expression.Given.{Given}
use Rattle.c_tree.specs.declared.typed_expression.Given.TheVariants.{New, Old}
use Rattle.c_tree.specs.declared.typed_expression.Sign.TheVariants.{Plus, Minus, Complement}
use Rattle.c_tree.specs.TypedExpressions.{RvalueTree, LvalueTree, Constant, Null, Load, Decay, AddressOf, Convert, Discard, Signed, Not, Arithmetic, Compare, ComparePointers, Move, MoveFrom, Difference, And, Or, Conditional, Comma, Assign, Update, UpdatePointer, Step, StepPointer, Call, Named, Target, Element, ElementFrom}
use Rattle.c_type_rules.specs.Integers.{object_size}
use Rattle.c_type_rules.specs.ValueTypes.{type_of, given_by, integer_in, is_void}
use Rattle.graph_core.specs.Graphs as unit
use Rattle.graph_core.specs.Graphs.{Operand, Name, StaticAddress, At}
use Rattle.graph_build_names.specs.Conversions.{unsigned_bits, keeps_bits, is_narrow, is_kept_constant}
use Rattle.graph_build_names.specs.Operands.{is_two, is_two_pointers}
use Rattle.graph_build_names.specs.Scales.{is_scaled}
use Rattle.graph_build_layout.specs.declared.laid.Use.{Use}
use Rattle.graph_build_layout.specs.declared.laid.Use.TheVariants.{Anywhere, In, Nothing, Tested}
use Rattle.graph_build_names.specs.Names.{Names, scalar_of, scalar_named, object_of, object_location, pick}
use Rattle.graph_build_names.specs.Writes.{writes, is_moved, is_location_moved}
use Rattle.graph_build_layout.specs.Laid.{Laid, Pair, PlaceLaid, pair, behind_move, as_value, worked, use_for, operation_laid, standing, compared_laid, converted_laid, void_arms_laid, arms_laid, truth_laid, begun_at, assigned_laid, begun_behind, updated_laid, old_laid, left_memory_laid, step_laid, called_laid, loaded_laid, object_laid, moved_laid}
use Rattle.graph_build_layout.specs.Layout.{laid, place_laid, address_laid, passed_laid, scales}
use Rattle.graph_build_runs.proofs.Leads.{Setting, names_in, size_in}
use Rattle.graph_build_runs.proofs.Kept.{ScalarsFirst}
use Rattle.graph_build_runs.proofs.Operands.{behind_le}
use Rattle.graph_build_runs.proofs.Arithmetic.{pick_between}
use Rattle.graph_build_runs.proofs.Laying.{scalar_below}
use Rattle.graph_build_runs.proofs.Lays.{lays, place_lays, passed_lays}
use Rattle.graph_build_runs.proofs.Assigning.{PlaceFresh}

-- an operand is no older temporary
abbrev pub IsFresh : (size t : ℕ) → Operand → Type 0
IsFresh size t a = (k : ℕ) → size ≤ k → k < t → a ≢ Name k

-- what a value is laid for is not a name that wants it
abbrev pub NotIn : Use → Type 0
NotIn (In x) = ⊥
NotIn Anywhere = Unit {0}
NotIn Nothing = Unit {0}
NotIn Tested = Unit {0}

module _ (n : Names) (size : ℕ) (low : (v k : ℕ) → scalar_of n v ≡ Some k → k < size) where
  name_fresh : (t j : ℕ) → t ≤ j → IsFresh size t (Name j)
  name_fresh t j le k above lt e = let same : j ≡ k = cc in absurd (omega (arith, same, le, lt))

  scalar_fresh : (t j : ℕ) → j < size → IsFresh size t (Name j)
  scalar_fresh t j less k above lt e = let same : j ≡ k = cc in absurd (omega (arith, same, less, above))

  word_fresh : (t word : ℕ) → IsFresh size t (unit.Constant word)
  word_fresh t word k above lt e = cc

  address_fresh : (t o offset : ℕ) → IsFresh size t (StaticAddress o offset)
  address_fresh t o offset k above lt e = cc

  later_fresh : (t j : ℕ) (a : Operand) → t ≤ j → IsFresh size j a → IsFresh size t a
  later_fresh t j a le h k above lt = h k above (omega (arith, lt, le))

  operation_fresh : (u : Use) → NotIn u → (t begun free top : ℕ) → t ≤ begun → t ≤ free → IsFresh size t (operation_laid n u begun free top).value
  operation_fresh (In x) no_in t begun free top le1 le2 = absurd no_in
  operation_fresh Anywhere no_in t begun free top le1 le2 = name_fresh t (pick n begun free) (pick_between n begun free t le1 le2)
  operation_fresh Nothing no_in t begun free top le1 le2 = name_fresh t (pick n begun free) (pick_between n begun free t le1 le2)
  operation_fresh Tested no_in t begun free top le1 le2 = name_fresh t (pick n begun free) (pick_between n begun free t le1 le2)

  standing_fresh : (u : Use) → NotIn u → (t begun : ℕ) (r : Laid) → IsFresh size t r.value → IsFresh size t (standing n u begun r).value
  standing_fresh (In x) no_in t begun r h = absurd no_in
  standing_fresh Anywhere no_in t begun r h = h
  standing_fresh Nothing no_in t begun r h = h
  standing_fresh Tested no_in t begun r h = h

  chosen_fresh : (b : Bool) (t : ℕ) (r q : Laid) → IsFresh size t r.value → IsFresh size t q.value → IsFresh size t (if b then r else q).value
  chosen_fresh true t r q h j = h
  chosen_fresh false t r q h j = j

  as_value_not : (u : Use) → NotIn u → NotIn (as_value u)
  as_value_not (In x) h = h
  as_value_not Anywhere h = tt
  as_value_not Nothing h = tt
  as_value_not Tested h = tt

  worked_not : (u : Use) → NotIn u → NotIn (worked u)
  worked_not (In x) h = h
  worked_not Anywhere h = tt
  worked_not Nothing h = tt
  worked_not Tested h = tt

  wanted_not : (u : Use) → NotIn u → NotIn (use_for None u)
  wanted_not (In x) h = h
  wanted_not Anywhere h = tt
  wanted_not Nothing h = tt
  wanted_not Tested h = tt

  compared_fresh : (u : Use) → NotIn u → (two : Bool) (t : ℕ) (q : Pair) → t ≤ q.next → IsFresh size t (compared_laid n u two t q).value
  compared_fresh (In x) no_in two t q le = absurd no_in
  compared_fresh Tested no_in two t q le = word_fresh t 0
  compared_fresh Anywhere no_in two t q le = operation_fresh Anywhere tt t t (behind_move two q.next) 0 (omega arith) (let k = behind_le two q.next in omega (arith, le, k))
  compared_fresh Nothing no_in two t q le = operation_fresh Nothing tt t t (behind_move two q.next) 0 (omega arith) (let k = behind_le two q.next in omega (arith, le, k))

  truth_fresh : (u : Use) → NotIn u → (t top : ℕ) → IsFresh size t (truth_laid n u t top).value
  truth_fresh (In x) no_in t top = absurd no_in
  truth_fresh Tested no_in t top = word_fresh t 0
  truth_fresh Anywhere no_in t top = name_fresh t t (omega arith)
  truth_fresh Nothing no_in t top = name_fresh t t (omega arith)

  loaded_fresh : (u : Use) → NotIn u → (l : LvalueTree) (o : Option ℕ) (t : ℕ) (place : PlaceLaid) → scalar_named n l ≡ o → t ≤ place.next → IsFresh size t (loaded_laid n u o t place).value
  loaded_fresh u no_in l (Some y) t place e le = standing_fresh u no_in t t _ (scalar_fresh t y (scalar_below n size low l y e))
  loaded_fresh u no_in l None t place e le = operation_fresh u no_in t t place.next place.top (omega arith) le

  object_fresh : (u : Use) → NotIn u → (o : Option ℕ) (t : ℕ) → IsFresh size t (object_laid n u o t).value
  object_fresh u no_in None t = standing_fresh u no_in t t _ (word_fresh t 0)
  object_fresh u no_in (Some k) t = operation_fresh u no_in t t t t (omega arith) (omega arith)

  assigned_fresh : (u : Use) → NotIn u → (l : LvalueTree) (o : Option ℕ) (t : ℕ) (place : PlaceLaid) (r : Laid) → scalar_named n l ≡ o → (o ≡ None → IsFresh size t r.value) → IsFresh size t (assigned_laid n u o t place r).value
  assigned_fresh u no_in l (Some y) t place r e h = standing_fresh u no_in t t _ (scalar_fresh t y (scalar_below n size low l y e))
  assigned_fresh u no_in l None t place r e h = h refl

  updated_fresh : (u : Use) → NotIn u → (l : LvalueTree) (o : Option ℕ) (narrow scaled : Bool) (t : ℕ) (place : PlaceLaid) (r : Laid) → scalar_named n l ≡ o → t ≤ place.next → t ≤ r.next → IsFresh size t (updated_laid n u narrow scaled o t place r).value
  updated_fresh u no_in l (Some y) narrow scaled t place r e le at = standing_fresh u no_in t t _ (scalar_fresh t y (scalar_below n size low l y e))
  updated_fresh u no_in l None narrow scaled t place r e le at =
      operation_fresh u no_in t place.next (behind_move narrow (behind_move scaled r.next)) _ le (let a = behind_le scaled r.next in let b = behind_le narrow (behind_move scaled r.next) in omega (arith, at, a, b))

  old_fresh : (u : Use) → NotIn u → (y t : ℕ) → y < size → IsFresh size t (old_laid u y t).value
  old_fresh (In x) no_in y t less = absurd no_in
  old_fresh Nothing no_in y t less = scalar_fresh t y less
  old_fresh Anywhere no_in y t less = name_fresh t t (omega arith)
  old_fresh Tested no_in y t less = name_fresh t t (omega arith)

  left_fresh : (u : Use) → NotIn u → (narrow : Bool) (t : ℕ) (place : PlaceLaid) → t ≤ place.next → IsFresh size t (left_memory_laid n u narrow t place).value
  left_fresh (In x) no_in narrow t place le = absurd no_in
  left_fresh Nothing no_in narrow t place le = name_fresh t place.next le
  left_fresh Anywhere no_in narrow t place le = name_fresh t place.next le
  left_fresh Tested no_in narrow t place le = name_fresh t place.next le

  step_fresh : (u : Use) → NotIn u → (g : Given) (l : LvalueTree) (o : Option ℕ) (narrow : Bool) (t : ℕ) (place : PlaceLaid) → scalar_named n l ≡ o → t ≤ place.next → IsFresh size t (step_laid n g u narrow o t place).value
  step_fresh u no_in New l (Some y) narrow t place e le = standing_fresh u no_in t t _ (scalar_fresh t y (scalar_below n size low l y e))
  step_fresh u no_in New l None narrow t place e le = operation_fresh u no_in t place.next (behind_move narrow (place.next + 1)) _ le (let a = behind_le narrow (place.next + 1) in omega (arith, le, a))
  step_fresh u no_in Old l (Some y) narrow t place e le = standing_fresh u no_in t t _ (old_fresh u no_in y t (scalar_below n size low l y e))
  step_fresh u no_in Old l None narrow t place e le = left_fresh u no_in narrow t place le

  called_fresh : (u : Use) → NotIn u → (void : Bool) (t next top : ℕ) → t ≤ next → IsFresh size t (called_laid n u void t next top).value
  called_fresh u no_in true t next top le = word_fresh t 0
  called_fresh Nothing no_in false t next top le = word_fresh t 0
  called_fresh (In x) no_in false t next top le = absurd no_in
  called_fresh Anywhere no_in false t next top le = operation_fresh Anywhere tt t t next top (omega arith) le
  called_fresh Tested no_in false t next top le = operation_fresh Tested tt t t next top (omega arith) le

  moved_fresh : (u : Use) → NotIn u → (bytes : ℕ) (index : Operand) (t : ℕ) (q : Pair) → t ≤ q.next → IsFresh size t (moved_laid n u t bytes index q).value
  moved_fresh u no_in bytes index t q le = operation_fresh u no_in t t (behind_move (is_scaled bytes index) q.next) q.top (omega arith) (let k = behind_le (is_scaled bytes index) q.next in omega (arith, le, k))

  pub begun_above : (o : Option ℕ) (t : ℕ) (written : ℕ → Bool) (place : PlaceLaid) → t ≤ place.next → t ≤ begun_at o t written place
  begun_above (Some y) t written place le = omega arith
  begun_above None t written place le = let k = behind_le (is_location_moved written place.location) place.next in omega (arith, le, k)

  pub behind_above : (o : Option ℕ) (t : ℕ) (written : ℕ → Bool) (place : PlaceLaid) → t ≤ place.next → t ≤ begun_behind o t written place
  behind_above (Some y) t written place le = behind_le (written y) t
  behind_above None t written place le = let k = behind_le (is_location_moved written place.location) (place.next + 1) in omega (arith, le, k)

  pub two_above : (a b : RvalueTree) (t : ℕ) → size ≤ t → t ≤ (pair (λ y. writes n y b) (laid n a Anywhere t) (laid n b Anywhere)).next
  two_above a b t le =
      let first = (lays n size low a Anywhere t le).next in
      let held = behind_le (is_moved (λ y. writes n y b) (laid n a Anywhere t).value) (laid n a Anywhere t).next in
      let second = (lays n size low b Anywhere (behind_move (is_moved (λ y. writes n y b) (laid n a Anywhere t).value) (laid n a Anywhere t).next) (omega (arith, le, first, held))).next in
      omega (arith, first, held, second)

  for_assigned : (o : Option ℕ) (u : Use) → NotIn u → (e : RvalueTree) (t k : ℕ) → t ≤ k → size ≤ k → ((w : Use) → NotIn w → (j : ℕ) → size ≤ j → IsFresh size j (laid n e w j).value) → o ≡ None → IsFresh size t (laid n e (use_for o u) k).value
  for_assigned None u no_in e t k le above h is = later_fresh t k (laid n e (use_for None u) k).value le (h (use_for None u) (wanted_not u no_in) k above)
  for_assigned (Some y) u no_in e t k le above h is = cc

  mutual
    -- Values stand in no older temporary.
    pub fresh : (e : RvalueTree) (u : Use) → NotIn u → (t : ℕ) → size ≤ t → IsFresh size t (laid n e u t).value
    fresh (Constant z ty) u no_in t le = standing_fresh u no_in t t _ (word_fresh t (unsigned_bits z))
    fresh Null u no_in t le = standing_fresh u no_in t t _ (word_fresh t 0)
    fresh (Load s l) u no_in t le = loaded_fresh u no_in l (scalar_named n l) t (place_laid n l t) refl (place_lays n size low l t le).next
    fresh (Decay l) u no_in t le = address_is_fresh l u no_in t le
    fresh (AddressOf l) u no_in t le = address_is_fresh l u no_in t le
    fresh (Convert ty e) u no_in t le =
        chosen_fresh (keeps_bits (integer_in (type_of n.results e)) ty) t (laid n e (as_value u) t) (converted_laid n u ty t (laid n e Anywhere t)) (fresh e (as_value u) (as_value_not u no_in) t le)
        (chosen_fresh (is_kept_constant ty (laid n e Anywhere t).value) t (standing n u t (laid n e Anywhere t)) (operation_laid n u t (laid n e Anywhere t).next (laid n e Anywhere t).top) (standing_fresh u no_in t t (laid n e Anywhere t) (fresh e Anywhere tt t le))
        (operation_fresh u no_in t t (laid n e Anywhere t).next (laid n e Anywhere t).top (omega arith) (lays n size low e Anywhere t le).next))
    fresh (Discard e) u no_in t le = fresh e Nothing tt t le
    fresh (Signed Plus ty e) u no_in t le = fresh e (as_value u) (as_value_not u no_in) t le
    fresh (Signed Minus ty e) u no_in t le = operation_fresh u no_in t t (laid n e Anywhere t).next (laid n e Anywhere t).top (omega arith) (lays n size low e Anywhere t le).next
    fresh (Signed Complement ty e) u no_in t le = operation_fresh u no_in t t (laid n e Anywhere t).next (laid n e Anywhere t).top (omega arith) (lays n size low e Anywhere t le).next
    fresh (Not e) Tested no_in t le = fresh e Tested tt t le
    fresh (Not e) (In x) no_in t le = absurd no_in
    fresh (Not e) Anywhere no_in t le = operation_fresh Anywhere tt t t (laid n e Anywhere t).next (laid n e Anywhere t).top (omega arith) (lays n size low e Anywhere t le).next
    fresh (Not e) Nothing no_in t le = operation_fresh Nothing tt t t (laid n e Anywhere t).next (laid n e Anywhere t).top (omega arith) (lays n size low e Anywhere t le).next
    fresh (Arithmetic o ty a b) u no_in t le = operation_fresh u no_in t t _ _ (omega arith) (two_above a b t le)
    fresh (Compare o ty a b) u no_in t le = compared_fresh u no_in (is_two o) t _ (two_above a b t le)
    fresh (ComparePointers o a b) u no_in t le = compared_fresh u no_in (is_two_pointers o) t _ (two_above a b t le)
    fresh (Move d of p i) u no_in t le = let q = (pair (λ y. writes n y i) (laid n p Anywhere t) (laid n i Anywhere)) in moved_fresh u no_in (object_size of) q.right t q (two_above p i t le)
    fresh (MoveFrom i of p) u no_in t le = let q = (pair (λ y. writes n y p) (laid n i Anywhere t) (laid n p Anywhere)) in moved_fresh u no_in (object_size of) q.left t q (two_above i p t le)
    fresh (Difference of a b) u no_in t le =
        let q = pair (λ y. writes n y b) (laid n a Anywhere t) (laid n b Anywhere) in
        operation_fresh u no_in t t (behind_move (not (object_size of == 1)) q.next) _ (omega arith) (let k = behind_le (not (object_size of == 1)) q.next in let h = two_above a b t le in omega (arith, h, k))
    fresh (And a b) u no_in t le = truth_fresh u no_in t _
    fresh (Or a b) u no_in t le = truth_fresh u no_in t _
    fresh (Conditional c a b) u no_in t le =
        chosen_fresh (is_void (type_of n.results a)) t (void_arms_laid n t (laid n c Tested t) (laid n a Nothing) (laid n b Nothing)) (arms_laid n u t (laid n c Tested (t + 1)) (laid n a (In t)) (laid n b (In t))) (word_fresh t 0)
        (standing_fresh u no_in t t _ (name_fresh t t (omega arith)))
    fresh (Comma a b) u no_in t le =
        let k = pick n t (laid n a Nothing t).top in
        let at : t ≤ pick n t (laid n a Nothing t).top = pick_between n t (laid n a Nothing t).top t (omega arith) (lays n size low a Nothing t le).top in
        later_fresh t k (laid n b u k).value at (fresh b u no_in k (omega (arith, le, at)))
    fresh (Assign s l e) u no_in t le =
        let place = place_laid n l t in
        let at = begun_above (scalar_named n l) t (λ y. writes n y e) place (place_lays n size low l t le).next in
        assigned_fresh u no_in l (scalar_named n l) t place (laid n e (use_for (scalar_named n l) u) (begun_at (scalar_named n l) t (λ y. writes n y e) place)) refl
        (for_assigned (scalar_named n l) u no_in e t (begun_at (scalar_named n l) t (λ y. writes n y e) place) at (omega (arith, le, at)) (λ w not_w j above. fresh e w not_w j above))
    fresh (Update o ty v l e) u no_in t le =
        let place = place_laid n l t in
        let in_place = (place_lays n size low l t le).next in
        let at = behind_above (scalar_named n l) t (λ y. writes n y e) place in_place in
        let r = laid n e Anywhere (begun_behind (scalar_named n l) t (λ y. writes n y e) place) in
        updated_fresh u no_in l (scalar_named n l) (is_narrow ty) false t place r refl in_place (let h = (lays n size low e Anywhere (begun_behind (scalar_named n l) t (λ y. writes n y e) place) (omega (arith, le, at))).next in omega (arith, at, h))
    fresh (UpdatePointer d of l e) u no_in t le =
        let place = place_laid n l t in
        let in_place = (place_lays n size low l t le).next in
        let at = behind_above (scalar_named n l) t (λ y. writes n y e) place in_place in
        let r = laid n e Anywhere (begun_behind (scalar_named n l) t (λ y. writes n y e) place) in
        updated_fresh u no_in l (scalar_named n l) false (scales (Some of) r.value) t place r refl in_place (let h = (lays n size low e Anywhere (begun_behind (scalar_named n l) t (λ y. writes n y e) place) (omega (arith, le, at))).next in omega (arith, at, h))
    fresh (Step d g ty v l) u no_in t le = step_fresh u no_in g l (scalar_named n l) (is_narrow ty) t (place_laid n l t) refl (place_lays n size low l t le).next
    fresh (StepPointer d g of l) u no_in t le = step_fresh u no_in g l (scalar_named n l) false t (place_laid n l t) refl (place_lays n size low l t le).next
    fresh (Call c all) u no_in t le = called_fresh u no_in (is_void (given_by n.results c)) t (passed_laid n all t).next (passed_laid n all t).top (passed_lays n size low all t le).next

    address_is_fresh : (l : LvalueTree) (u : Use) → NotIn u → (t : ℕ) → size ≤ t → IsFresh size t (address_laid n l u t).value
    address_is_fresh (Named (object.Static i) of) u no_in t le = standing_fresh u no_in t t _ (address_fresh t i 0)
    address_is_fresh (Named (object.Literal i) of) u no_in t le = standing_fresh u no_in t t _ (address_fresh t (n.statics + i) 0)
    address_is_fresh (Named (object.Automatic v) of) u no_in t le = object_fresh u no_in (object_of n v) t
    address_is_fresh (Target of p) u no_in t le = fresh p (worked u) (worked_not u no_in) t le
    address_is_fresh (Element of p i) u no_in t le = let q = (pair (λ y. writes n y i) (laid n p Anywhere t) (laid n i Anywhere)) in moved_fresh u no_in (object_size of) q.right t q (two_above p i t le)
    address_is_fresh (ElementFrom of i p) u no_in t le = let q = (pair (λ y. writes n y p) (laid n i Anywhere t) (laid n p Anywhere)) in moved_fresh u no_in (object_size of) q.left t q (two_above i p t le)

-- A place is found by no older temporary.
pub place_fresh : (x : Setting) → ScalarsFirst x → (lv : LvalueTree) → PlaceFresh x lv
place_fresh x low (Named (object.Static i) of) t k size above lt e = cc
place_fresh x low (Named (object.Literal i) of) t k size above lt e = cc
place_fresh x low (Named (object.Automatic v) of) t k size above lt e = by (object_of (names_in x) v) e
  where
    by : (o : Option ℕ) → object_location o ≡ At (Name k) → ⊥
    by None h = cc
    by (Some j) h = cc
place_fresh x low (Target of p) t k size above lt e = fresh (names_in x) (size_in x) low p Anywhere tt t size k above lt (same_at e)
  where
    same_at : {a b : Operand} → At a ≡ At b → a ≡ b
    same_at h = cc
place_fresh x low (Element of p i) t k size above lt e =
    let q = (pair (λ y. writes (names_in x) y i) (laid (names_in x) p Anywhere t) (laid (names_in x) i Anywhere)) in moved_fresh (names_in x) (size_in x) low Anywhere tt (object_size of) q.right t q (two_above (names_in x) (size_in x) low p i t size) k above lt (same_at e)
  where
    same_at : {a b : Operand} → At a ≡ At b → a ≡ b
    same_at h = cc
place_fresh x low (ElementFrom of i p) t k size above lt e =
    let q = (pair (λ y. writes (names_in x) y p) (laid (names_in x) i Anywhere t) (laid (names_in x) p Anywhere)) in moved_fresh (names_in x) (size_in x) low Anywhere tt (object_size of) q.left t q (two_above (names_in x) (size_in x) low i p t size) k above lt (same_at e)
  where
    same_at : {a b : Operand} → At a ≡ At b → a ≡ b
    same_at h = cc
