-- Where the values of expressions stand: names are numbered as they are made, from left to right.
use Rattle.std.specs.Prelude.{ℕ, ◌+◌, ◌==◌, not, Bool, false, Option, Some, None, [], if◌then◌else◌}
use Rattle.c_tree.specs.declared.object_type.Object as object
use Rattle.c_tree.specs.declared.object_type.ObjectType.{ObjectType}
use Rattle.c_tree.specs.declared.typed_expression.Sign.TheVariants.{Plus, Minus, Complement}
use Rattle.c_tree.specs.TypedExpressions.{RvalueTree, LvalueTree, ArgumentTrees, Constant, Null, Load, Decay, AddressOf, Convert, Discard, Signed, Not, Arithmetic, Compare, ComparePointers, Move, MoveFrom, Difference, And, Or, Conditional, Comma, Assign, Update, UpdatePointer, Step, StepPointer, Call, Named, Target, Element, ElementFrom, none, first}
use Rattle.c_type_rules.specs.Integers.{object_size}
use Rattle.c_type_rules.specs.ValueTypes.{type_of, given_by, is_void, integer_in}
use Rattle.graph_core.specs.Graphs as unit
use Rattle.graph_core.specs.Graphs.{Operand, Location, Static}
use Rattle.graph_build_names.specs.Scales.{is_scaled}
use Rattle.graph_build_names.specs.Conversions.{unsigned_bits, keeps_bits, is_narrow}
use Rattle.graph_build_names.specs.Operands.{is_two, is_two_pointers}
use Rattle.graph_build_layout.specs.declared.laid.Use.{Use}
use Rattle.graph_build_layout.specs.declared.laid.Use.TheVariants.{Anywhere, In, Nothing, Tested}
use Rattle.graph_build_names.specs.Names.{Names, scalar_named, object_of, object_location, pick}
use Rattle.graph_build_names.specs.Writes.{writes, writes_any}
use Rattle.graph_build_layout.specs.Laid.{Laid, PlaceLaid, PassedLaid, pair, as_value, worked, use_for, at_laid, behind_top, operation_laid, leaf_laid, after_pair, moved_laid, steps_laid, compared_laid, converted_laid, both_laid, void_arms_laid, arms_laid, begun_at, assigned_laid, begun_behind, updated_laid, step_laid, called_laid, loaded_laid, passed_behind, object_laid}

-- an operand is an index of elements that is scaled by an instruction, if there are elements
abbrev pub scales : Option ObjectType → Operand → Bool
scales None a = false
scales (Some of) a = is_scaled (object_size of) a

module _ (n : Names) where
  -- where an object stands in memory
  abbrev pub named_location : object.Object → Location
  named_location (object.TheVariants.Static i) = Static i
  named_location (object.TheVariants.Literal i) = Static (n.statics + i)
  named_location (object.TheVariants.Automatic v) = object_location (object_of n v)

  -- the address of an object
  abbrev pub named_address : object.Object → Use → ℕ → Laid
  named_address (object.TheVariants.Static i) u k = leaf_laid n u (unit.StaticAddress i 0) k
  named_address (object.TheVariants.Literal i) u k = leaf_laid n u (unit.StaticAddress (n.statics + i) 0) k
  named_address (object.TheVariants.Automatic v) u k = object_laid n u (object_of n v) k

  abbrev mutual
    -- Where the value of an expression stands that begins to be computed when this name is free.
    pub laid : RvalueTree → Use → ℕ → Laid
    laid (Constant z t) u k = leaf_laid n u (unit.Constant (unsigned_bits z)) k
    laid Null u k = leaf_laid n u (unit.Constant 0) k
    laid (Load s l) u k = loaded_laid n u (scalar_named n l) k (place_laid l k)
    laid (Decay l) u k = address_laid l u k
    laid (AddressOf l) u k = address_laid l u k
    laid (Convert t e) u k =
        if keeps_bits (integer_in (type_of n.results e)) t then laid e (as_value u) k
        else converted_laid n u t k (laid e Anywhere k)
    laid (Discard e) u k = laid e Nothing k
    laid (Signed Plus t e) u k = laid e (as_value u) k
    laid (Signed Minus t e) u k = let r = laid e Anywhere k in operation_laid n u k r.next r.top
    laid (Signed Complement t e) u k = let r = laid e Anywhere k in operation_laid n u k r.next r.top
    laid (Not e) Tested k = laid e Tested k
    laid (Not e) u k = let r = laid e Anywhere k in operation_laid n u k r.next r.top
    laid (Arithmetic o t a b) u k = after_pair n u k (pair (λ y. writes n y b) (laid a Anywhere k) (laid b Anywhere))
    laid (Compare o t a b) u k =
        compared_laid n u (is_two o) k (pair (λ y. writes n y b) (laid a Anywhere k) (laid b Anywhere))
    laid (ComparePointers o a b) u k =
        compared_laid n u (is_two_pointers o) k (pair (λ y. writes n y b) (laid a Anywhere k) (laid b Anywhere))
    laid (Move d of p i) u k =
        let q = pair (λ y. writes n y i) (laid p Anywhere k) (laid i Anywhere) in
        moved_laid n u k (object_size of) q.right q
    laid (MoveFrom i of p) u k =
        let q = pair (λ y. writes n y p) (laid i Anywhere k) (laid p Anywhere) in
        moved_laid n u k (object_size of) q.left q
    laid (Difference of a b) u k =
        steps_laid n u (not (object_size of == 1)) k (pair (λ y. writes n y b) (laid a Anywhere k) (laid b Anywhere))
    laid (And a b) u k = both_laid n u k (laid a Tested) (laid b Tested)
    laid (Or a b) u k = both_laid n u k (laid a Tested) (laid b Tested)
    laid (Conditional c a b) u k =
        if is_void (type_of n.results a) then void_arms_laid n k (laid c Tested k) (laid a Nothing) (laid b Nothing)
        else arms_laid n u k (laid c Tested (k + 1)) (laid a (In k)) (laid b (In k))
    laid (Comma a b) u k = let r = laid a Nothing k in behind_top r.top (laid b u (pick n k r.top))
    laid (Assign s l e) u k =
        let place = place_laid l k in
        assigned_laid n u (scalar_named n l) k place
        (laid e (use_for (scalar_named n l) u) (begun_at (scalar_named n l) k (λ y. writes n y e) place))
    laid (Update o t v l e) u k =
        let place = place_laid l k in
        let r = laid e Anywhere (begun_behind (scalar_named n l) k (λ y. writes n y e) place) in
        updated_laid n u (is_narrow t) (scales None r.value) (scalar_named n l) k place r
    laid (UpdatePointer d of l e) u k =
        let place = place_laid l k in
        let r = laid e Anywhere (begun_behind (scalar_named n l) k (λ y. writes n y e) place) in
        updated_laid n u false (scales (Some of) r.value) (scalar_named n l) k place r
    laid (Step d g t v l) u k = step_laid n g u (is_narrow t) (scalar_named n l) k (place_laid l k)
    laid (StepPointer d g of l) u k = step_laid n g u false (scalar_named n l) k (place_laid l k)
    laid (Call c all) u k = let q = passed_laid all k in called_laid n u (is_void (given_by n.results c)) k q.next q.top

    -- the location of an object in memory that an lvalue designates
    pub place_laid : LvalueTree → ℕ → PlaceLaid
    place_laid (Named o of) k = record { location = named_location o; next = k; top = k }
    place_laid (Target of p) k = at_laid (laid p Anywhere k)
    place_laid (Element of p i) k =
        let q = pair (λ y. writes n y i) (laid p Anywhere k) (laid i Anywhere) in
        at_laid (moved_laid n Anywhere k (object_size of) q.right q)
    place_laid (ElementFrom of i p) k =
        let q = pair (λ y. writes n y p) (laid i Anywhere k) (laid p Anywhere) in
        at_laid (moved_laid n Anywhere k (object_size of) q.left q)

    -- the address of an object that an lvalue designates
    pub address_laid : LvalueTree → Use → ℕ → Laid
    address_laid (Named o of) u k = named_address o u k
    address_laid (Target of p) u k = laid p (worked u) k
    address_laid (Element of p i) u k =
        let q = pair (λ y. writes n y i) (laid p Anywhere k) (laid i Anywhere) in
        moved_laid n u k (object_size of) q.right q
    address_laid (ElementFrom of i p) u k =
        let q = pair (λ y. writes n y p) (laid i Anywhere k) (laid p Anywhere) in
        moved_laid n u k (object_size of) q.left q

    -- arguments
    pub passed_laid : ArgumentTrees → ℕ → PassedLaid
    passed_laid none k = record { values = []; next = k; top = k }
    passed_laid (first e rest) k = passed_behind (λ y. writes_any n y rest) (laid e Anywhere k) (passed_laid rest)
