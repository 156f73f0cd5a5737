-- A place in memory that is found by a scalar's name is of the type that the scalar points to.
use Rattle.std.proofs.Common.{◌≡◌, ℕ, zero, suc, ◌+◌, ◌<◌, ◌≤◌, Option, Some, None, Bool, true, false, refl, sym, ap, ◌∙◌, subst, slice_get, arith}
use Rattle.std.proofs.lemmas.Bool.Decides.{nat_tests}
use Rattle.std.specs.Prelude.{◌==◌, ◌-◌, ◌&&◌, if◌then◌else◌}
use Rattle.c_tree.specs.declared.types.IntegerType.{IntegerType}
use Rattle.c_tree.specs.declared.types.IntegerType.TheVariants.{Int}
use Rattle.c_tree.specs.declared.object_type.Scalar.{Scalar}
use Rattle.c_tree.specs.declared.object_type.ObjectType.{ObjectType}
use Rattle.c_tree.specs.declared.object_type.ObjectType.TheVariants as of-object
use Rattle.c_tree.specs.declared.object_type.ValueType.{ValueType}
use Rattle.c_tree.specs.declared.object_type.ValueType.TheVariants.{Void, Integer, Pointer}
use Rattle.c_tree.specs.declared.object_type.Object.TheVariants as object
use Rattle.c_tree.specs.declared.typed_expression.Given.TheVariants.{New, Old}
use Rattle.c_tree.specs.TypedExpressions.{RvalueTree, LvalueTree, Constant, Null, Load, Decay, AddressOf, Convert, Discard, Signed, Not, Arithmetic, Compare, ComparePointers, Move, MoveFrom, Difference, And, Or, Conditional, Comma, Assign, Update, UpdatePointer, Step, StepPointer, Call, Named, Target, Element, ElementFrom}
use Rattle.c_tree.specs.Programs.{AutomaticTree}
use Rattle.c_type_rules.specs.Integers.{object_size, promoted}
use Rattle.c_type_rules.specs.Types.{loaded_type, same_integer}
use Rattle.c_type_rules.specs.ValueTypes.{object_type, decayed, type_of, given_by, is_void}
use Rattle.c_type_laws.specs.Kind.{Kind, Wrong}
use Rattle.c_type_laws.specs.Kinds.{of_if, is_promoted, is_of, is_typed, is_scalar, is_integer, is_counted, is_operand, holds_scalar, holds_integer, holds_pointer, is_array, automatic_is, is_variable}
use Rattle.c_type_laws.specs.Expressions.{kind_of, is_place}
use Rattle.graph_core.specs.Graphs.{Operand, Name, At}
use Rattle.graph_build_layout.specs.declared.laid.Use.TheVariants.{Anywhere, In, Nothing, Tested}
use Rattle.graph_build_names.specs.Names.{Names, scalar_of, scalar_named, object_of, object_location, pick}
use Rattle.graph_build_names.specs.Writes.{writes}
use Rattle.graph_build_layout.specs.Laid.{Laid, PlaceLaid, pair, behind_move, use_for, begun_at, begun_behind, void_arms_laid, arms_laid, assigned_laid, updated_laid, step_laid, called_laid, loaded_laid, object_laid}
use Rattle.graph_build_layout.specs.Layout.{laid, place_laid, address_laid, passed_laid, scales}
use Rattle.graph_build_names.specs.Scales.{is_scaled}
use Rattle.graph_build_runs.proofs.Leads.{Setting, names_in, size_in}
use Rattle.graph_build_runs.proofs.Kept.{ScalarsFirst}
use Rattle.graph_build_runs.proofs.Types.{object_is, value_is}
use Rattle.graph_build_runs.proofs.Operands.{behind_le}
use Rattle.graph_build_runs.proofs.Arithmetic.{pick_between}
use Rattle.graph_build_runs.proofs.Lays.{lays, place_lays, passed_lays}
use Rattle.graph_build_runs.proofs.Shapes.{two_true, three_true, array_of, pointer_object}
use Rattle.graph_build_runs.proofs.Fresh.{two_above, begun_above, behind_above}

-- a pointer to an array is in no variable
pub no_array : (s el : Scalar) (count : ℕ) → loaded_type s ≡ Pointer (of-object.Array el count) → ⊥
no_array s el count h = by s.stars h
  where
    by : (stars : ℕ) → (if stars == 0 then Integer s.base else Pointer (of-object.Scalar (record { base = s.base; stars = stars - 1 }))) ≡ Pointer (of-object.Array el count) → ⊥
    by zero h = cc
    by (suc stars) h = let some : (suc stars == 0) ≡ false = grind (arith, nat_tests) in scalar_array (ap (λ b. if b then Integer s.base else Pointer (of-object.Scalar (record { base = s.base; stars = suc stars - 1 }))) (sym some) ∙ h)
      where
        scalar_array : {a : Scalar} → Pointer (of-object.Scalar a) ≡ Pointer (of-object.Array el count) → ⊥
        scalar_array h = cc

-- no variable is of the type of what it points to
pub no_itself : (s : Scalar) → loaded_type s ≡ Pointer (of-object.Scalar s) → ⊥
no_itself s h = by s.stars refl h
  where
    by : (stars : ℕ) → s.stars ≡ stars → (if stars == 0 then Integer s.base else Pointer (of-object.Scalar (record { base = s.base; stars = stars - 1 }))) ≡ Pointer (of-object.Scalar s) → ⊥
    by zero e h = cc
    by (suc stars) e h =
        let some : (suc stars == 0) ≡ false = grind (arith, nat_tests) in
        let same : record { base = s.base; stars = suc stars - 1 } ≡ s = pointed (ap (λ b. if b then Integer s.base else Pointer (of-object.Scalar (record { base = s.base; stars = suc stars - 1 }))) (sym some) ∙ h) in
        let fewer : suc stars - 1 ≡ s.stars = ap (λ z. z.stars) same in
        omega (arith, fewer, e)
      where
        pointed : {a b : Scalar} → Pointer (of-object.Scalar a) ≡ Pointer (of-object.Scalar b) → a ≡ b
        pointed h = cc

no_integer : (b : Bool) (t : IntegerType) (of : ObjectType) → is_of (of_if b (Integer t)) (Pointer of) ≡ true → ⊥
no_integer true t of h = cc
no_integer false t of h = cc

no_void : (b : Bool) (of : ObjectType) → is_of (of_if b Void) (Pointer of) ≡ true → ⊥
no_void true of h = cc
no_void false of h = cc

-- what well-typed values are made of fits, and they are pointers to this
pointer_if : (b : Bool) (t : ValueType) (of : ObjectType) → is_of (of_if b t) (Pointer of) ≡ true → (b ≡ true) × (t ≡ Pointer of)
pointer_if true t of h = (refl, value_is t (Pointer of) h)
pointer_if false t of h = cc

of_either : (b : Bool) (k : Kind) (of : ObjectType) → is_of (if b then k else Wrong) (Pointer of) ≡ true → is_of k (Pointer of) ≡ true
of_either true k of h = h
of_either false k of h = cc

-- The name of a scalar is that of a variable that is a pointer to objects of this type.
pub record PointsBy (x : Setting) (k : ℕ) (of : ObjectType) : Type 0 where
  pub variable : ℕ
  pub declared : AutomaticTree
  pub own : Scalar
  pub named : scalar_of (names_in x) variable ≡ Some k
  pub is : slice_get x.program.automatics variable ≡ Some declared
  pub one : declared.of ≡ of-object.Scalar own
  pub points : loaded_type own ≡ Pointer of

module _ (x : Setting) (low : ScalarsFirst x) where
  abbrev n : Names
  n = names_in x

  abbrev size : ℕ
  size = size_in x

  abbrev K : RvalueTree → Kind
  K e = kind_of x.program x.tree e

  abbrev P : LvalueTree → Bool
  P l = is_place x.program x.tree l

  -- temporaries are no scalars
  over : (j k : ℕ) → size ≤ j → k < size → Name j ≡ Name k → ⊥
  over j k le less e = let same : j ≡ k = cc in absurd (omega (arith, same, le, less))

  own_over : (begun free k : ℕ) → size ≤ begun → size ≤ free → k < size → Name (pick n begun free) ≡ Name k → ⊥
  own_over begun free k le1 le2 less e = over (pick n begun free) k (pick_between n begun free size le1 le2) less e

  same_name : (j k : ℕ) → Name j ≡ Name k → j ≡ k
  same_name j k e = cc

  scalar_points : (l : LvalueTree) (s : Scalar) (k : ℕ) (of : ObjectType) → scalar_named n l ≡ Some k → object_type l ≡ of-object.Scalar s → P l ≡ true → loaded_type s ≡ Pointer of → PointsBy x k of
  scalar_points (Named (object.Automatic v) o) s k of e one h points = by (slice_get x.program.automatics v) refl (two_true (is_variable x.tree v) (automatic_is (slice_get x.program.automatics v) o) h).1
    where
      by : (r : Option AutomaticTree) → slice_get x.program.automatics v ≡ r → automatic_is r o ≡ true → PointsBy x k of
      by None at q = cc
      by (Some a) at q = record { variable = v; declared = a; own = s; named = e; is = at; one = object_is a.of o q ∙ one; points = points }
  scalar_points (Named (object.Static i) o) s k of e one h points = cc
  scalar_points (Named (object.Literal i) o) s k of e one h points = cc
  scalar_points (Target o p) s k of e one h points = cc
  scalar_points (Element o p i) s k of e one h points = cc
  scalar_points (ElementFrom o i p) s k of e one h points = cc

  -- the scalar itself, or a temporary
  loaded_points : (l : LvalueTree) (o : Option ℕ) (t k : ℕ) (of : ObjectType) (place : PlaceLaid) → scalar_named n l ≡ o → size ≤ t → size ≤ place.next → k < size → (loaded_laid n Anywhere o t place).value ≡ Name k → (scalar_named n l ≡ Some k → PointsBy x k of) → PointsBy x k of
  loaded_points l (Some y) t k of place e le at less h go = go (e ∙ ap Some (same_name y k h))
  loaded_points l None t k of place e le at less h go = absurd (own_over t place.next k le at less h)

  updated_points : (l : LvalueTree) (o : Option ℕ) (scaled : Bool) (t k : ℕ) (of : ObjectType) (place : PlaceLaid) (r : Laid) → scalar_named n l ≡ o → size ≤ place.next → size ≤ r.next → k < size → (updated_laid n Anywhere false scaled o t place r).value ≡ Name k → (scalar_named n l ≡ Some k → PointsBy x k of) → PointsBy x k of
  updated_points l (Some y) scaled t k of place r e le at less h go = go (e ∙ ap Some (same_name y k h))
  updated_points l None scaled t k of place r e le at less h go = absurd (own_over place.next (behind_move scaled r.next) k le (let j = behind_le scaled r.next in omega (arith, at, j)) less h)

  stepped_points : (l : LvalueTree) (o : Option ℕ) (t k : ℕ) (of : ObjectType) (place : PlaceLaid) → scalar_named n l ≡ o → size ≤ place.next → k < size → (step_laid n New Anywhere false o t place).value ≡ Name k → (scalar_named n l ≡ Some k → PointsBy x k of) → PointsBy x k of
  stepped_points l (Some y) t k of place e le less h go = go (e ∙ ap Some (same_name y k h))
  stepped_points l None t k of place e le less h go = absurd (own_over place.next (place.next + 1) k le (omega (arith, le)) less h)

  left_points : (l : LvalueTree) (o : Option ℕ) (t k : ℕ) (of : ObjectType) (place : PlaceLaid) → size ≤ t → size ≤ place.next → k < size → (step_laid n Old Anywhere false o t place).value ≡ Name k → PointsBy x k of
  left_points l (Some y) t k of place le at less h = absurd (over t k le less h)
  left_points l None t k of place le at less h = absurd (over place.next k at less h)

  assigned_points : (l : LvalueTree) (o : Option ℕ) (t k : ℕ) (of : ObjectType) (place : PlaceLaid) (r : Laid) → scalar_named n l ≡ o → (assigned_laid n Anywhere o t place r).value ≡ Name k → (scalar_named n l ≡ Some k → PointsBy x k of) → (o ≡ None → r.value ≡ Name k → PointsBy x k of) → PointsBy x k of
  assigned_points l (Some y) t k of place r e h go on = go (e ∙ ap Some (same_name y k h))
  assigned_points l None t k of place r e h go on = on refl h

  called_over : (void : Bool) (t next top k : ℕ) → size ≤ t → size ≤ next → k < size → (called_laid n Anywhere void t next top).value ≡ Name k → ⊥
  called_over true t next top k le at less h = cc
  called_over false t next top k le at less h = own_over t next k le at less h

  chosen_over : (void : Bool) (t k : ℕ) (c c1 : Laid) (a b a1 b1 : ℕ → Laid) → size ≤ t → k < size → (if void then void_arms_laid n t c a b else arms_laid n Anywhere t c1 a1 b1).value ≡ Name k → ⊥
  chosen_over true t k c c1 a b a1 b1 le less h = cc
  chosen_over false t k c c1 a b a1 b1 le less h = over t k le less h

  object_over : (o : Option ℕ) (t k : ℕ) → size ≤ t → k < size → (object_laid n Anywhere o t).value ≡ Name k → ⊥
  object_over None t k le less h = cc
  object_over (Some j) t k le less h = own_over t t k le le less h

  moved_over : (b : Bool) (a c : RvalueTree) (t k : ℕ) → size ≤ t → k < size → Name (pick n t (behind_move b (pair (λ y. writes n y c) (laid n a Anywhere t) (laid n c Anywhere)).next)) ≡ Name k → ⊥
  moved_over b a c t k le less h =
      let q = pair (λ y. writes n y c) (laid n a Anywhere t) (laid n c Anywhere) in
      let two = two_above n size low a c t le in
      own_over t (behind_move b q.next) k le (let j = behind_le b q.next in omega (arith, le, two, j)) less h

  for_assigned : (o : Option ℕ) (e : RvalueTree) (j k : ℕ) (of : ObjectType) → ((laid n e Anywhere j).value ≡ Name k → PointsBy x k of) → o ≡ None → (laid n e (use_for o Anywhere) j).value ≡ Name k → PointsBy x k of
  for_assigned None e j k of go is h = go h
  for_assigned (Some y) e j k of go is h = cc

  mutual
    -- A pointer that stands in a scalar's name is of that scalar's type.
    named : (e : RvalueTree) (of : ObjectType) (t k : ℕ) → size ≤ t → k < size → is_of (K e) (Pointer of) ≡ true → (laid n e Anywhere t).value ≡ Name k → PointsBy x k of
    named (Constant z ty) of t k le less is h = cc
    named Null of t k le less is h = cc
    named (Load s l) of t k le less is h =
        let b = pointer_if (holds_scalar (object_type l) s && P l) (loaded_type s) of is in
        let c = two_true (holds_scalar (object_type l) s) (P l) b.0 in
        let place = place_laid n l t in
        let at = (place_lays n size low l t le).next in
        loaded_points l (scalar_named n l) t k of place refl le (omega (arith, le, at)) less h (λ e. scalar_points l s k of e (object_is (object_type l) (of-object.Scalar s) c.0) c.1 b.1)
    named (Decay l) of t k le less is h =
        let b = pointer_if (is_array (object_type l) && P l) (decayed (object_type l)) of is in
        let c = two_true (is_array (object_type l)) (P l) b.0 in
        let a = array_of (object_type l) c.0 in
        let p = address_named l t k le less c.1 h in
        absurd (no_array p.own a.0 a.1 (p.points ∙ ap Pointer a.2))
    named (AddressOf l) of t k le less is h = let b = pointer_if (P l) (Pointer (object_type l)) of is in subst (PointsBy x k) (pointed b.1) (address_named l t k le less b.0 h)
      where
        pointed : {a b : ObjectType} → Pointer a ≡ Pointer b → a ≡ b
        pointed h = cc
    named (Convert ty e) of t k le less is h = absurd (no_integer (is_integer (K e)) ty of is)
    named (Discard e) of t k le less is h = absurd (no_void (is_typed (K e)) of is)
    named (Signed o ty e) of t k le less is h = absurd (no_integer (is_promoted ty && is_of (K e) (Integer ty)) ty of is)
    named (Not e) of t k le less is h = absurd (no_integer (is_scalar (K e)) Int of is)
    named (Arithmetic o ty a b) of t k le less is h = absurd (no_integer (is_promoted ty && is_of (K a) (Integer ty) && is_operand o ty (K b)) ty of is)
    named (Compare o ty a b) of t k le less is h = absurd (no_integer (is_promoted ty && is_of (K a) (Integer ty) && is_of (K b) (Integer ty)) Int of is)
    named (ComparePointers o a b) of t k le less is h = absurd (no_integer _ Int of is)
    named (Move d u p i) of t k le less is h =
        let q = pair (λ y. writes n y i) (laid n p Anywhere t) (laid n i Anywhere) in
        absurd (moved_over (is_scaled (object_size u) q.right) p i t k le less h)
    named (MoveFrom i u p) of t k le less is h =
        let q = pair (λ y. writes n y p) (laid n i Anywhere t) (laid n p Anywhere) in
        absurd (moved_over (is_scaled (object_size u) q.left) i p t k le less h)
    named (Difference u a b) of t k le less is h = absurd (no_integer (is_of (K a) (Pointer u) && is_of (K b) (Pointer u)) Int of is)
    named (And a b) of t k le less is h = absurd (no_integer (is_scalar (K a) && is_scalar (K b)) Int of is)
    named (Or a b) of t k le less is h = absurd (no_integer (is_scalar (K a) && is_scalar (K b)) Int of is)
    named (Conditional c a b) of t k le less is h =
        absurd (chosen_over (is_void (type_of n.results a)) t k (laid n c Tested t) (laid n c Tested (t + 1)) (laid n a Nothing) (laid n b Nothing) (laid n a (In t)) (laid n b (In t)) le less h)
    named (Comma a b) of t k le less is h =
        let at : t ≤ pick n t (laid n a Nothing t).top = pick_between n t (laid n a Nothing t).top t (omega arith) (lays n size low a Nothing t le).top in
        named b of (pick n t (laid n a Nothing t).top) k (omega (arith, le, at)) less (of_either (is_typed (K a)) (K b) of is) h
    named (Assign s l e) of t k le less is h =
        let b = pointer_if (holds_scalar (object_type l) s && P l && is_of (K e) (loaded_type s)) (loaded_type s) of is in
        let c = three_true (holds_scalar (object_type l) s) (P l) (is_of (K e) (loaded_type s)) b.0 in
        let place = place_laid n l t in
        let from = begun_at (scalar_named n l) t (λ y. writes n y e) place in
        let at = begun_above n size low (scalar_named n l) t (λ y. writes n y e) place (place_lays n size low l t le).next in
        assigned_points l (scalar_named n l) t k of place (laid n e (use_for (scalar_named n l) Anywhere) from) refl h (λ q. scalar_points l s k of q (object_is (object_type l) (of-object.Scalar s) c.0) c.1 b.1)
        (for_assigned (scalar_named n l) e from k of (named e of from k (omega (arith, le, at)) less (subst (λ z. is_of (K e) z ≡ true) b.1 c.2)))
    named (Update o ty v l e) of t k le less is h = absurd (no_integer (holds_integer (object_type l) ty && is_promoted v && P l && is_operand o v (K e)) ty of is)
    named (UpdatePointer d u l e) of t k le less is h =
        let b = pointer_if (holds_pointer (object_type l) u && P l && is_counted (K e)) (Pointer u) of is in
        let c = three_true (holds_pointer (object_type l) u) (P l) (is_counted (K e)) b.0 in
        let o = pointer_object (object_type l) u c.0 in
        let place = place_laid n l t in
        let in_place = (place_lays n size low l t le).next in
        let at = behind_above n size low (scalar_named n l) t (λ y. writes n y e) place in_place in
        let from = begun_behind (scalar_named n l) t (λ y. writes n y e) place in
        let r = laid n e Anywhere from in
        let last = (lays n size low e Anywhere from (omega (arith, le, at))).next in
        updated_points l (scalar_named n l) (scales (Some u) r.value) t k of place r refl (omega (arith, le, in_place)) (omega (arith, le, at, last)) less h (λ q. scalar_points l o.0 k of q o.1 c.1 (o.2 ∙ b.1))
    named (Step d g ty v l) of t k le less is h = absurd (no_integer (holds_integer (object_type l) ty && same_integer v (promoted ty) && P l) ty of is)
    named (StepPointer d New u l) of t k le less is h =
        let b = pointer_if (holds_pointer (object_type l) u && P l) (Pointer u) of is in
        let c = two_true (holds_pointer (object_type l) u) (P l) b.0 in
        let o = pointer_object (object_type l) u c.0 in
        let in_place = (place_lays n size low l t le).next in
        stepped_points l (scalar_named n l) t k of (place_laid n l t) refl (omega (arith, le, in_place)) less h (λ q. scalar_points l o.0 k of q o.1 c.1 (o.2 ∙ b.1))
    named (StepPointer d Old u l) of t k le less is h = let in_place = (place_lays n size low l t le).next in left_points l (scalar_named n l) t k of (place_laid n l t) le (omega (arith, le, in_place)) less h
    named (Call c all) of t k le less is h =
        let at = (passed_lays n size low all t le).next in
        absurd (called_over (is_void (given_by n.results c)) t (passed_laid n all t).next (passed_laid n all t).top k le (omega (arith, le, at)) less h)

    address_named : (l : LvalueTree) (t k : ℕ) → size ≤ t → k < size → P l ≡ true → (address_laid n l Anywhere t).value ≡ Name k → PointsBy x k (object_type l)
    address_named (Named (object.Static i) o) t k le less is h = cc
    address_named (Named (object.Literal i) o) t k le less is h = cc
    address_named (Named (object.Automatic v) o) t k le less is h = absurd (object_over (object_of n v) t k le less h)
    address_named (Target o p) t k le less is h = named p o t k le less is h
    address_named (Element o p i) t k le less is h =
        let q = pair (λ y. writes n y i) (laid n p Anywhere t) (laid n i Anywhere) in
        absurd (moved_over (is_scaled (object_size o) q.right) p i t k le less h)
    address_named (ElementFrom o i p) t k le less is h =
        let q = pair (λ y. writes n y p) (laid n i Anywhere t) (laid n p Anywhere) in
        absurd (moved_over (is_scaled (object_size o) q.left) i p t k le less h)

  -- A place in memory that is found by a scalar's name is of what that scalar points to.
  same_at : {a b : Operand} → At a ≡ At b → a ≡ b
  same_at h = cc

  pub place_named : (l : LvalueTree) (t k : ℕ) → size ≤ t → k < size → P l ≡ true → (place_laid n l t).location ≡ At (Name k) → PointsBy x k (object_type l)
  place_named (Named (object.Static i) o) t k le less is h = cc
  place_named (Named (object.Literal i) o) t k le less is h = cc
  place_named (Named (object.Automatic v) o) t k le less is h = absurd (by (object_of n v) h)
    where
      by : (o : Option ℕ) → object_location o ≡ At (Name k) → ⊥
      by None h = cc
      by (Some j) h = cc
  place_named (Target o p) t k le less is h = named p o t k le less is (same_at h)
  place_named (Element o p i) t k le less is h =
      let q = pair (λ y. writes n y i) (laid n p Anywhere t) (laid n i Anywhere) in
      absurd (moved_over (is_scaled (object_size o) q.right) p i t k le less (same_at h))
  place_named (ElementFrom o i p) t k le less is h =
      let q = pair (λ y. writes n y p) (laid n i Anywhere t) (laid n p Anywhere) in
      absurd (moved_over (is_scaled (object_size o) q.left) i p t k le less (same_at h))
