-- Where the values of expressions stand: in names of their graph, in constants, and at addresses of static objects that are there.
use Rattle.std.proofs.Common.{◌≡◌, ℕ, suc, ◌+◌, ◌≤◌, ◌<◌, inl, inr, Bool, true, false, Option, Some, None, length, slice_get, refl, sym, ap, subst, arith, if◌then◌else◌, ◌==◌}
use Rattle.std.specs.Prelude.{max}
use Rattle.std.specs.List.{AllByRecursion}
use Rattle.c_tree.specs.declared.object_type.Object as designator
use Rattle.c_tree.specs.declared.object_type.Object.TheVariants as object
use Rattle.c_tree.specs.declared.types.IntegerType.{IntegerType}
use Rattle.c_tree.specs.declared.typed_expression.Sign.TheVariants.{Plus, Minus, Complement}
use Rattle.c_tree.specs.declared.typed_expression.Given.{Given}
use Rattle.c_tree.specs.declared.typed_expression.Given.TheVariants.{New, Old}
use Rattle.c_tree.specs.TypedExpressions.{RvalueTree, LvalueTree, ArgumentTrees, Constant, Null, Load, Decay, AddressOf, Convert, Discard, Signed, Not, Arithmetic, Compare, ComparePointers, Move, MoveFrom, Difference, And, Or, Conditional, Comma, Assign, Update, UpdatePointer, Step, StepPointer, Call, Named, Target, Element, ElementFrom, none, first}
use Rattle.c_tree.specs.Programs.{ProgramTree}
use Rattle.c_type_rules.specs.ValueTypes.{type_of, given_by, is_void, integer_in}
use Rattle.graph_core.specs.declared.graph.MemoryObject.{MemoryObject}
use Rattle.graph_core.specs.Graphs as unit
use Rattle.graph_core.specs.Graphs.{Operand, Location, Graph, UnitForm}
use Rattle.graph_core.specs.Validity.{IsInObject, IsOperand, IsLocation}
use Rattle.graph_build_names.specs.Conversions.{keeps_bits, is_narrow, is_kept_constant}
use Rattle.graph_build_names.specs.Operands.{held, is_two, is_two_pointers}
use Rattle.graph_build_layout.specs.declared.laid.Use.{Use}
use Rattle.graph_build_layout.specs.declared.laid.Use.TheVariants.{Anywhere, In, Nothing, Tested}
use Rattle.graph_build_names.specs.Names.{Names, pick, scalar_named, scalar_of, object_of, object_location}
use Rattle.graph_build_names.specs.Writes.{writes, writes_any, is_moved}
use Rattle.graph_build_layout.specs.Laid.{Laid, Pair, PlaceLaid, behind_move, as_value, worked, use_for, operation_laid, standing, converted_laid, compared_laid, both_laid, void_arms_laid, arms_laid, choice_top, joined_laid, begun_at, assigned_laid, begun_behind, updated_laid, old_laid, step_laid, left_memory_laid, left_scalar_laid, called_laid, loaded_laid, object_laid}
use Rattle.graph_build_layout.specs.Layout.{laid, place_laid, address_laid, passed_laid, named_address, scales}
use Rattle.graph_build_laws.proofs.Temporaries.{behind, moved_behind}
use Rattle.graph_build_laws.proofs.Naming.{HasAddress, IsThere, InMemory, ExpressionNames, PlaceNames, ArgumentsName, arguments}

-- A graph of a unit, and what stands there of what its code names.
pub record Setting : Type 0 where
  pub program : ProgramTree
  pub names : Names
  pub unit : UnitForm
  pub graph : Graph
  pub scalars : (v k : ℕ) → scalar_of names v ≡ Some k → k < length graph.scalars
  pub few : length graph.scalars ≤ graph.name_count
  pub objects : (v j : ℕ) → object_of names v ≡ Some j → (o : MemoryObject) × (slice_get graph.objects j ≡ Some o)
  pub statics : (i : ℕ) → i < length program.statics → i < length unit.statics
  pub literals : (i : ℕ) → i < length program.literals → names.statics + i < length unit.statics

pub any_name : (p free top most : ℕ) → max (p + 1) (max free top) ≤ most → p < most
any_name p free top most h = omega (arith, h)

-- where an old value stands that a scalar wants, by whether this is its own
abbrev pub left_or : Bool → (y t : ℕ) → Laid
left_or b y t = if b then record { value = unit.Name t; next = t + 1; top = t + 1 } else record { value = unit.Name y; next = t; top = t }

module _ (x : Setting) where
  abbrev pub n : Names
  n = x.names

  -- how many names there are
  abbrev pub most : ℕ
  most = x.graph.name_count

  abbrev pub Stands : Operand → Type 0
  Stands a = IsOperand x.unit.statics x.graph a

  -- the scalar that wants a value is there
  abbrev pub Fits : Use → Type 0
  Fits (In y) = y < most
  Fits Anywhere = Unit {0}
  Fits Nothing = Unit {0}
  Fits Tested = Unit {0}

  -- the expressions and places that name what is there
  abbrev pub E : RvalueTree → Type 0
  E e = ExpressionNames x.program x.unit.graphs x.names e

  abbrev pub L : LvalueTree → Type 0
  L l = PlaceNames x.program x.unit.graphs x.names l

  -- For each use the value stands in an operand that is there, if the names up to its top are.
  abbrev pub HasValue : RvalueTree → Type 0
  HasValue e = (u : Use) (t : ℕ) → Fits u → (laid n e u t).top ≤ most → Stands (laid n e u t).value

  -- the scalar that an lvalue names is one of the graph's
  pub named_there : (l : LvalueTree) (k : ℕ) → scalar_named n l ≡ Some k → k < length x.graph.scalars
  named_there (Named (object.Automatic v) of) k e = x.scalars v k e
  named_there (Named (object.Static v) of) k e = cc
  named_there (Named (object.Literal v) of) k e = cc
  named_there (Target of a) k e = cc
  named_there (Element of a b) k e = cc
  named_there (ElementFrom of a b) k e = cc

  pub named_within : (l : LvalueTree) (k : ℕ) → scalar_named n l ≡ Some k → k < most
  named_within l k e = omega (arith, named_there l k e, x.few)

  pub standing_top : (u : Use) (t : ℕ) (r : Laid) → (standing n u t r).top ≡ r.top
  standing_top (In y) t r = refl
  standing_top Anywhere t r = refl
  standing_top Nothing t r = refl
  standing_top Tested t r = refl

  pub standing_value : (u : Use) (t : ℕ) (r : Laid) → Fits u → Stands r.value → Stands (standing n u t r).value
  standing_value (In y) t r f h = f
  standing_value Anywhere t r f h = h
  standing_value Nothing t r f h = h
  standing_value Tested t r f h = h

  pub operation_value : (u : Use) (begun free top : ℕ) → Fits u → (operation_laid n u begun free top).top ≤ most → Stands (operation_laid n u begun free top).value
  operation_value (In y) begun free top f h = f
  operation_value Anywhere begun free top f h = any_name (pick n begun free) free top most h
  operation_value Nothing begun free top f h = any_name (pick n begun free) free top most h
  operation_value Tested begun free top f h = any_name (pick n begun free) free top most h

  -- an operation's names are behind those that are free and used
  pub operation_most : (u : Use) (begun free top : ℕ) → (operation_laid n u begun free top).top ≤ most → (free ≤ most) × (top ≤ most)
  operation_most (In y) begun free top h = (omega (arith, h), omega (arith, h))
  operation_most Anywhere begun free top h = any (pick n begun free) h
    where
      any : (p : ℕ) → max (p + 1) (max free top) ≤ most → (free ≤ most) × (top ≤ most)
      any p h = (omega (arith, h), omega (arith, h))
  operation_most Nothing begun free top h = any (pick n begun free) h
    where
      any : (p : ℕ) → max (p + 1) (max free top) ≤ most → (free ≤ most) × (top ≤ most)
      any p h = (omega (arith, h), omega (arith, h))
  operation_most Tested begun free top h = any (pick n begun free) h
    where
      any : (p : ℕ) → max (p + 1) (max free top) ≤ most → (free ≤ most) × (top ≤ most)
      any p h = (omega (arith, h), omega (arith, h))

  pub held_value : (b : Bool) (a : Operand) (t : ℕ) → Stands a → (b ≡ true → t < most) → Stands (held b a t)
  held_value true a t h k = k refl
  held_value false a t h k = h

  compared_value : (u : Use) (two : Bool) (t : ℕ) (q : Pair) → Fits u → (compared_laid n u two t q).top ≤ most → Stands (compared_laid n u two t q).value
  compared_value Tested two t q f h = tt
  compared_value Anywhere two t q f h = operation_value Anywhere t (behind_move two q.next) _ f h
  compared_value Nothing two t q f h = operation_value Nothing t (behind_move two q.next) _ f h
  compared_value (In y) two t q f h = operation_value (In y) t (behind_move two q.next) _ f h

  converted_value : (u : Use) (ty : IntegerType) (t : ℕ) (r : Laid) → Fits u → (r.top ≤ most → Stands r.value) → (converted_laid n u ty t r).top ≤ most → Stands (converted_laid n u ty t r).value
  converted_value u ty t r f h g = go (is_kept_constant ty r.value) g
    where
      go : (b : Bool) → (if b then standing n u t r else operation_laid n u t r.next r.top).top ≤ most → Stands (if b then standing n u t r else operation_laid n u t r.next r.top).value
      go true g = standing_value u t r f (h (subst (λ m. m ≤ most) (standing_top u t r) g))
      go false g = operation_value u t r.next r.top f g

  convert_value : (u : Use) (ty : IntegerType) (t : ℕ) (b : Bool) (r q : Laid) → Fits u → (r.top ≤ most → Stands r.value) → (q.top ≤ most → Stands q.value) → (if b then r else converted_laid n u ty t q).top ≤ most → Stands (if b then r else converted_laid n u ty t q).value
  convert_value u ty t true r q f h k g = h g
  convert_value u ty t false r q f h k g = converted_value u ty t q f k g

  -- a value in a name that arms write
  joined_value : (u : Use) (t top : ℕ) → Fits u → t < top → (joined_laid n u t top).top ≤ most → Stands (joined_laid n u t top).value
  joined_value u t top f lt h =
      let r : Laid = record { value = unit.Name t; next = pick n (t + 1) top; top = top } in
      let le : top ≤ most = subst (λ m. m ≤ most) (standing_top u t r) h in
      standing_value u t r f (omega (arith, lt, le))

  both_value : (u : Use) (t : ℕ) (a b : ℕ → Laid) → Fits u → ((k : ℕ) → k ≤ (a k).top) → (both_laid n u t a b).top ≤ most → Stands (both_laid n u t a b).value
  both_value Tested t a b f h g = tt
  both_value Anywhere t a b f h g = joined_value Anywhere t _ f (omega (arith, h (t + 1))) g
  both_value Nothing t a b f h g = joined_value Nothing t _ f (omega (arith, h (t + 1))) g
  both_value (In y) t a b f h g = joined_value (In y) t _ f (omega (arith, h (t + 1))) g

  choice_value : (u : Use) (t : ℕ) (void : Bool) (c va vb a b : ℕ → Laid) → Fits u → ((k : ℕ) → k ≤ (c k).top) →
      (if void then void_arms_laid n t (c t) va vb else arms_laid n u t (c (t + 1)) a b).top ≤ most → Stands (if void then void_arms_laid n t (c t) va vb else arms_laid n u t (c (t + 1)) a b).value
  choice_value u t true c va vb a b f h g = tt
  choice_value u t false c va vb a b f h g = joined_value u t (choice_top n (t + 1) (c (t + 1)) a b) f (omega (arith, h (t + 1))) g

  loaded_value : (u : Use) (o : Option ℕ) (t : ℕ) (q : PlaceLaid) → Fits u → ((k : ℕ) → o ≡ Some k → k < most) → (loaded_laid n u o t q).top ≤ most → Stands (loaded_laid n u o t q).value
  loaded_value u (Some k) t q f h g = standing_value u t _ f (h k refl)
  loaded_value u None t q f h g = operation_value u t q.next q.top f g

  use_fits : (u : Use) → Fits u → Fits (use_for None u)
  use_fits (In y) f = f
  use_fits Anywhere f = tt
  use_fits Nothing f = tt
  use_fits Tested f = tt

  assigned_value : (u : Use) (o : Option ℕ) (t : ℕ) (w : ℕ → Bool) (q : PlaceLaid) (e : RvalueTree) → HasValue e → Fits u → ((k : ℕ) → o ≡ Some k → k < most) →
      (assigned_laid n u o t q (laid n e (use_for o u) (begun_at o t w q))).top ≤ most → Stands (assigned_laid n u o t q (laid n e (use_for o u) (begun_at o t w q))).value
  assigned_value u (Some k) t w q e v f h g = standing_value u t _ f (h k refl)
  assigned_value u None t w q e v f h g = v (use_for None u) (begun_at None t w q) (use_fits u f) (omega (arith, g))

  updated_value : (u : Use) (narrow scaling : Bool) (o : Option ℕ) (t : ℕ) (q : PlaceLaid) (r : Laid) → Fits u → ((k : ℕ) → o ≡ Some k → k < most) → (updated_laid n u narrow scaling o t q r).top ≤ most → Stands (updated_laid n u narrow scaling o t q r).value
  updated_value u narrow scaling (Some k) t q r f h g = standing_value u t _ f (h k refl)
  updated_value u narrow scaling None t q r f h g = operation_value u q.next _ _ f g

  old_value : (u : Use) (k t : ℕ) → Fits u → k < most → (old_laid u k t).top ≤ most → Stands (old_laid u k t).value
  old_value Nothing k t f h g = h
  old_value Anywhere k t f h g = omega (arith, g)
  old_value Tested k t f h g = omega (arith, g)
  old_value (In y) k t f h g = go (y == k) g
    where
      go : (b : Bool) → (left_or b y t).top ≤ most → Stands (left_or b y t).value
      go true g = omega (arith, g)
      go false g = f

  left_scalar_value : (u : Use) (narrow : Bool) (k t : ℕ) → Fits u → k < most → (left_scalar_laid n u narrow k t).top ≤ most → Stands (left_scalar_laid n u narrow k t).value
  left_scalar_value u narrow k t f h g =
      let r = old_laid u k t in
      let free = behind_move narrow r.next in
      let q : Laid = record { value = r.value; next = pick n r.next free; top = max r.top free } in
      let le : max r.top free ≤ most = subst (λ m. m ≤ most) (standing_top u t q) g in
      standing_value u t q f (old_value u k t f h (omega (arith, le)))

  left_memory_value : (u : Use) (narrow : Bool) (t : ℕ) (q : PlaceLaid) → Fits u → (left_memory_laid n u narrow t q).top ≤ most → Stands (left_memory_laid n u narrow t q).value
  left_memory_value (In y) narrow t q f g = f
  left_memory_value Anywhere narrow t q f g = let m = moved_behind narrow (q.next + 2) in omega (arith, m.0, g)
  left_memory_value Nothing narrow t q f g = let m = moved_behind narrow (q.next + 2) in omega (arith, m.0, g)
  left_memory_value Tested narrow t q f g = let m = moved_behind narrow (q.next + 2) in omega (arith, m.0, g)

  step_value : (g : Given) (u : Use) (narrow : Bool) (o : Option ℕ) (t : ℕ) (q : PlaceLaid) → Fits u → ((k : ℕ) → o ≡ Some k → k < most) → (step_laid n g u narrow o t q).top ≤ most → Stands (step_laid n g u narrow o t q).value
  step_value New u narrow (Some k) t q f h g = standing_value u t _ f (h k refl)
  step_value New u narrow None t q f h g = operation_value u q.next _ _ f g
  step_value Old u narrow (Some k) t q f h g = left_scalar_value u narrow k t f (h k refl) g
  step_value Old u narrow None t q f h g = left_memory_value u narrow t q f g

  called_value : (u : Use) (void : Bool) (t next top : ℕ) → Fits u → (called_laid n u void t next top).top ≤ most → Stands (called_laid n u void t next top).value
  called_value u true t next top f g = tt
  called_value Nothing false t next top f g = tt
  called_value Anywhere false t next top f g = operation_value Anywhere t next top f g
  called_value Tested false t next top f g = operation_value Tested t next top f g
  called_value (In y) false t next top f g = operation_value (In y) t next top f g

  address_value : (o : designator.Object) (u : Use) (t : ℕ) → InMemory x.program x.unit.graphs n o → Fits u → (named_address n o u t).top ≤ most → Stands (named_address n o u t).value
  address_value (object.Static i) u t h f g = standing_value u t _ f (x.statics i h)
  address_value (object.Literal i) u t h f g = standing_value u t _ f (x.literals i h)
  address_value (object.Automatic v) u t h f g = go (object_of n v) g
    where
      go : (o : Option ℕ) → (object_laid n u o t).top ≤ most → Stands (object_laid n u o t).value
      go None g = standing_value u t _ f tt
      go (Some j) g = operation_value u t t t f g

  fits_value : (u : Use) → Fits u → Fits (as_value u)
  fits_value Tested f = tt
  fits_value Anywhere f = tt
  fits_value Nothing f = tt
  fits_value (In y) f = f

  fits_worked : (u : Use) → Fits u → Fits (worked u)
  fits_worked Tested f = tt
  fits_worked Anywhere f = tt
  fits_worked Nothing f = tt
  fits_worked (In y) f = f

  least_top : (e : RvalueTree) (u : Use) (t : ℕ) → t ≤ (laid n e u t).top
  least_top e u t = let b = behind n e u t in omega (arith, b.0, b.1)

  mutual
    -- The value of an expression that names what is there stands where something is.
    pub value_stands : (e : RvalueTree) → E e → HasValue e
    value_stands (Constant z ty) s u t f h = standing_value u t _ f tt
    value_stands Null s u t f h = standing_value u t _ f tt
    value_stands (Load sc l) s u t f h = loaded_value u (scalar_named n l) t (place_laid n l t) f (named_within l) h
    value_stands (Decay l) s u t f h = address_stands l s.0 s.1 u t f h
    value_stands (AddressOf l) s u t f h = address_stands l s.0 s.1 u t f h
    value_stands (Convert ty e) s u t f h = convert_value u ty t (keeps_bits (integer_in (type_of n.results e)) ty) (laid n e (as_value u) t) (laid n e Anywhere t) f (value_stands e s (as_value u) t (fits_value u f)) (value_stands e s Anywhere t tt) h
    value_stands (Discard e) s u t f h = value_stands e s Nothing t tt h
    value_stands (Signed Plus ty e) s u t f h = value_stands e s (as_value u) t (fits_value u f) h
    value_stands (Signed Minus ty e) s u t f h = let r = laid n e Anywhere t in operation_value u t r.next r.top f h
    value_stands (Signed Complement ty e) s u t f h = let r = laid n e Anywhere t in operation_value u t r.next r.top f h
    value_stands (Not e) s Tested t f h = value_stands e s Tested t f h
    value_stands (Not e) s Anywhere t f h = let r = laid n e Anywhere t in operation_value Anywhere t r.next r.top f h
    value_stands (Not e) s Nothing t f h = let r = laid n e Anywhere t in operation_value Nothing t r.next r.top f h
    value_stands (Not e) s (In y) t f h = let r = laid n e Anywhere t in operation_value (In y) t r.next r.top f h
    value_stands (Arithmetic o ty a b) s u t f h = operation_value u t _ _ f h
    value_stands (Compare o ty a b) s u t f h = compared_value u (is_two o) t _ f h
    value_stands (ComparePointers o a b) s u t f h = compared_value u (is_two_pointers o) t _ f h
    value_stands (Move d of a b) s u t f h = operation_value u t _ _ f h
    value_stands (MoveFrom b of a) s u t f h = operation_value u t _ _ f h
    value_stands (Difference of a b) s u t f h = operation_value u t _ _ f h
    value_stands (And a b) s u t f h = both_value u t (laid n a Tested) (laid n b Tested) f (least_top a Tested) h
    value_stands (Or a b) s u t f h = both_value u t (laid n a Tested) (laid n b Tested) f (least_top a Tested) h
    value_stands (Conditional c a b) s u t f h = choice_value u t (is_void (type_of n.results a)) (laid n c Tested) (laid n a Nothing) (laid n b Nothing) (laid n a (In t)) (laid n b (In t)) f (least_top c Tested) h
    value_stands (Comma a b) s u t f h = value_stands b s.1 u (pick n t (laid n a Nothing t).top) f (omega (arith, h))
    value_stands (Assign sc l e) s u t f h = assigned_value u (scalar_named n l) t (λ y. writes n y e) (place_laid n l t) e (value_stands e s.1) f (named_within l) h
    value_stands (Update o ty v l e) s u t f h = updated_value u (is_narrow ty) false (scalar_named n l) t (place_laid n l t) (laid n e Anywhere (begun_behind (scalar_named n l) t (λ y. writes n y e) (place_laid n l t))) f (named_within l) h
    value_stands (UpdatePointer d of l e) s u t f h =
        let r = laid n e Anywhere (begun_behind (scalar_named n l) t (λ y. writes n y e) (place_laid n l t)) in
        updated_value u false (scales (Some of) r.value) (scalar_named n l) t (place_laid n l t) r f (named_within l) h
    value_stands (Step d g ty v l) s u t f h = step_value g u (is_narrow ty) (scalar_named n l) t (place_laid n l t) f (named_within l) h
    value_stands (StepPointer d g of l) s u t f h = step_value g u false (scalar_named n l) t (place_laid n l t) f (named_within l) h
    value_stands (Call c all) s u t f h = called_value u (is_void (given_by n.results c)) t (passed_laid n all t).next (passed_laid n all t).top f h

    address_stands : (l : LvalueTree) → L l → HasAddress x.program x.unit.graphs n l → (u : Use) (t : ℕ) → Fits u → (address_laid n l u t).top ≤ most → Stands (address_laid n l u t).value
    address_stands (Named o of) s a u t f h = address_value o u t a f h
    address_stands (Target of e) s a u t f h = value_stands e s (worked u) t (fits_worked u f) h
    address_stands (Element of e i) s a u t f h = operation_value u t _ _ f h
    address_stands (ElementFrom of i e) s a u t f h = operation_value u t _ _ f h

  -- the location of an object that an lvalue in memory designates is there
  object_found : (o : Option ℕ) → ((j : ℕ) → o ≡ Some j → (m : MemoryObject) × (slice_get x.graph.objects j ≡ Some m)) → (j : ℕ) → o ≡ Some j → IsLocation x.unit.statics x.graph (object_location o)
  object_found None h j e = cc
  object_found (Some i) h j e = let m = h i refl in subst (λ r. IsInObject r 0) (sym m.1) (omega arith)

  variable_found : (v : ℕ) → IsThere x.program x.unit.graphs n (object.Automatic v) → scalar_of n v ≡ None → IsLocation x.unit.statics x.graph (object_location (object_of n v))
  variable_found v (inl k) e = let no = k.1 in cc
  variable_found v (inr k) e = object_found (object_of n v) (x.objects v) k.0 k.1

  pub location_stands : (l : LvalueTree) → L l → scalar_named n l ≡ None → (t : ℕ) → (place_laid n l t).top ≤ most → IsLocation x.unit.statics x.graph (place_laid n l t).location
  location_stands (Named (object.Static i) of) s e t h = x.statics i s
  location_stands (Named (object.Literal i) of) s e t h = x.literals i s
  location_stands (Named (object.Automatic v) of) s e t h = variable_found v s e
  location_stands (Target of a) s e t h = value_stands a s Anywhere t tt h
  location_stands (Element of a i) s e t h = operation_value Anywhere t _ _ tt h
  location_stands (ElementFrom of i a) s e t h = operation_value Anywhere t _ _ tt h

  -- the values of arguments are there
  pub passed_stand : (all : ArgumentTrees) → ArgumentsName x.program x.unit.graphs n all → (t : ℕ) → (passed_laid n all t).top ≤ most → AllByRecursion Stands (passed_laid n all t).values
  passed_stand none s t h = tt
  passed_stand (first e rest) s t h =
      let r = laid n e Anywhere t in
      let moved = is_moved (λ y. writes_any n y rest) r.value in
      let m = moved_is moved r.next in
      (held_value moved r.value r.next (value_stands e s.0 Anywhere t tt (omega (arith, h))) (λ yes. omega (arith, h, m yes)), passed_stand rest s.1 (behind_move moved r.next) (omega (arith, h)))
    where
      moved_is : (b : Bool) (k : ℕ) → b ≡ true → k + 1 ≡ behind_move b k
      moved_is true k e = refl
      moved_is false k e = cc

  pub as_many_passed : (all : ArgumentTrees) (t : ℕ) → length (passed_laid n all t).values ≡ arguments all
  as_many_passed none t = refl
  as_many_passed (first e rest) t =
      let r = laid n e Anywhere t in ap suc (as_many_passed rest (behind_move (is_moved (λ y. writes_any n y rest) r.value) r.next))
