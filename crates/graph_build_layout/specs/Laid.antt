-- What is told of where values stand, and how it is put together.
use Rattle.std.specs.Prelude.{ℕ, ◌+◌, ◌==◌, max, Bool, true, false, Option, Some, None, List, ◌∷◌, map, if◌then◌else◌}
use Rattle.c_tree.specs.declared.types.IntegerType.{IntegerType}
use Rattle.c_tree.specs.declared.typed_expression.Given.{Given}
use Rattle.c_tree.specs.declared.typed_expression.Given.TheVariants.{New, Old}
use Rattle.graph_core.specs.Graphs as unit
use Rattle.graph_core.specs.Graphs.{Operand, Location, At, Automatic, Static, operand_view, location_view}
use Rattle.graph_build_names.specs.Scales.{is_scaled}
use Rattle.graph_build_names.specs.Conversions.{is_kept_constant}
use Rattle.graph_build_names.specs.Operands.{held}
use Rattle.graph_build_layout.specs.declared.laid.Use.{Use}
use Rattle.graph_build_layout.specs.declared.laid.Use.TheVariants.{Anywhere, In, Nothing, Tested}
use Rattle.graph_build_layout.specs.declared.laid.Laid as declared-laid
use Rattle.graph_build_layout.specs.declared.laid.Pair as declared-pair
use Rattle.graph_build_layout.specs.declared.laid.PlaceLaid as declared-place
use Rattle.graph_build_layout.specs.declared.laid.PassedLaid as declared-passed
use Rattle.graph_build_names.specs.Names.{Names, pick}
use Rattle.graph_build_names.specs.Writes.{is_moved, is_location_moved}

-- Where a value stands; the first name that is free while it is wanted; the first name behind all that were used.
pub record Laid : Type 0 where
  pub value : Operand
  pub next : ℕ
  pub top : ℕ

-- Two values: the first one is moved to a name of its own where the code of the second writes it.
pub record Pair : Type 0 where
  pub first : Operand
  pub left : Operand
  pub right : Operand
  pub moved : Bool
  pub moved_to : ℕ
  pub from : ℕ
  pub next : ℕ
  pub top : ℕ

-- where an object in memory is found
pub record PlaceLaid : Type 0 where
  pub location : Location
  pub next : ℕ
  pub top : ℕ

-- the values of arguments
pub record PassedLaid : Type 0 where
  pub values : List Operand
  pub next : ℕ
  pub top : ℕ

abbrev pub laid_view : declared-laid.Laid → Laid
laid_view r = record { value = operand_view r.value; next = r.next; top = r.top }

abbrev pub pair_view : declared-pair.Pair → Pair
pair_view q =
    record {
      first = operand_view q.first;
      left = operand_view q.left;
      right = operand_view q.right;
      moved = q.moved;
      moved_to = q.moved_to;
      from = q.from;
      next = q.next;
      top = q.top;
    }

abbrev pub place_view : declared-place.PlaceLaid → PlaceLaid
place_view q = record { location = location_view q.location; next = q.next; top = q.top }

abbrev pub passed_view : declared-passed.PassedLaid → PassedLaid
passed_view q = record { values = map operand_view q.values.items; next = q.next; top = q.top }

-- a name, or the next one where a name is taken
abbrev pub behind_move : (taken : Bool) → ℕ → ℕ
behind_move taken t = if taken then t + 1 else t

-- two operands, one behind the other: the first is moved to a temporary where the second may write what it names
abbrev pub pair : (written : ℕ → Bool) → Laid → (ℕ → Laid) → Pair
pair written a b =
    let moved = is_moved written a.value in
    let from = behind_move moved a.next in
    let r = b from in
    record {
      first = a.value;
      left = held moved a.value a.next;
      right = r.value;
      moved = moved;
      moved_to = a.next;
      from = from;
      next = r.next;
      top = max a.top (max from r.top);
    }

-- the value itself, where it is to be tested
abbrev pub as_value : Use → Use
as_value Tested = Anywhere
as_value Anywhere = Anywhere
as_value Nothing = Nothing
as_value (In x) = In x

-- the value to work with, although nothing may use what is made of it
abbrev pub worked : Use → Use
worked (In x) = In x
worked Anywhere = Anywhere
worked Nothing = Anywhere
worked Tested = Anywhere

-- what is assigned is computed in the scalar, or where the value of the assignment is wanted
abbrev pub use_for : Option ℕ → Use → Use
use_for (Some x) u = In x
use_for None (In x) = In x
use_for None Anywhere = Anywhere
use_for None Nothing = Anywhere
use_for None Tested = Anywhere

-- a value as an address: the place that it leads to
abbrev pub at_laid : Laid → PlaceLaid
at_laid r = record { location = At r.value; next = r.next; top = r.top }

-- a layout in which at least so many names are in use at once
abbrev pub behind_top : ℕ → Laid → Laid
behind_top t r = record { value = r.value; next = r.next; top = max t r.top }

-- a value that nothing uses
abbrev pub unused_laid : (next top : ℕ) → Laid
unused_laid next top = record { value = unit.Constant 0; next = next; top = top }

-- where the operands of `&&` and `||` begin: behind the name that the value stands in
abbrev pub behind_own : Use → ℕ → ℕ
behind_own Tested k = k
behind_own _ k = k + 1

-- where the right side of an assignment begins
abbrev pub begun_at : Option ℕ → ℕ → (written : ℕ → Bool) → PlaceLaid → ℕ
begun_at (Some x) k written place = k
begun_at None k written place = behind_move (is_location_moved written place.location) place.next

-- where the right side of `a op= b` begins: behind the old value, and what of it is moved
abbrev pub begun_behind : Option ℕ → ℕ → (written : ℕ → Bool) → PlaceLaid → ℕ
begun_behind (Some x) k written place = behind_move (written x) k
begun_behind None k written place = behind_move (is_location_moved written place.location) (place.next + 1)

-- the old value of a scalar, which is moved where it is wanted
abbrev pub old_laid : Use → (x : ℕ) → (t : ℕ) → Laid
old_laid Nothing x t = record { value = unit.Name x; next = t; top = t }
old_laid (In y) x t =
    if y == x then record {
      value = unit.Name t;
      next = t + 1;
      top = t + 1;
    } else record { value = unit.Name y; next = t; top = t }
old_laid u x t = record { value = unit.Name t; next = t + 1; top = t + 1 }

-- the arguments of a call, one behind the other: one is moved to a temporary where a later one may write what it names
abbrev pub passed_behind : (written : ℕ → Bool) → Laid → (ℕ → PassedLaid) → PassedLaid
passed_behind written a rest =
    let moved = is_moved written a.value in
    let q = rest (behind_move moved a.next) in
    record {
      values = held moved a.value a.next ∷ q.values;
      next = q.next;
      top = max a.top (max (behind_move moved a.next) q.top);
    }

module _ (n : Names) where
  -- An operation's result: in the scalar that wants it, or in a name of its own, which is the one that was free when it
  -- began where names are used again.
  abbrev pub operation_laid : Use → (begun free top : ℕ) → Laid
  operation_laid (In x) begun free top = record { value = unit.Name x; next = pick n begun free; top = max free top }
  operation_laid _ begun free top =
      record {
        value = unit.Name (pick n begun free);
        next = pick n begun free + 1;
        top = max (pick n begun free + 1) (max free top);
      }

  -- a value that stands already
  abbrev pub standing : Use → (begun : ℕ) → Laid → Laid
  standing (In x) begun r = record { value = unit.Name x; next = pick n begun r.next; top = r.top }
  standing _ begun r = r

  -- an operand that takes no instruction, as it is used
  abbrev pub leaf_laid : Use → Operand → ℕ → Laid
  leaf_laid u a t = standing u t (record { value = a; next = t; top = t })

  -- the result of an operation on two operands
  abbrev pub after_pair : Use → (begun : ℕ) → Pair → Laid
  after_pair u begun q = operation_laid u begun q.next q.top

  -- a result by way of an index that is scaled
  abbrev pub moved_laid : Use → (begun : ℕ) → (size : ℕ) → (index : Operand) → Pair → Laid
  moved_laid u begun size index q = operation_laid u begun (behind_move (is_scaled size index) q.next) q.top

  -- a result of one or two instructions
  abbrev pub steps_laid : Use → (two : Bool) → (begun : ℕ) → Pair → Laid
  steps_laid u two begun q = operation_laid u begun (behind_move two q.next) (max q.top (behind_move two q.next))

  -- a comparison; where it is tested nothing writes it
  abbrev pub compared_laid : Use → (two : Bool) → (begun : ℕ) → Pair → Laid
  compared_laid Tested two begun q = unused_laid q.next q.top
  compared_laid u two begun q = steps_laid u two begun q

  -- a conversion of a value that stands
  abbrev pub converted_laid : Use → IntegerType → (begun : ℕ) → Laid → Laid
  converted_laid u t begun r =
      if is_kept_constant t r.value then standing u begun r else operation_laid u begun r.next r.top

  -- a value in a name that arms wrote
  abbrev pub joined_laid : Use → ℕ → (top : ℕ) → Laid
  joined_laid u k top = standing u k (record { value = unit.Name k; next = pick n (k + 1) top; top = top })

  -- the value 0 or 1 of a condition, or nothing where it is only tested
  abbrev pub truth_laid : Use → ℕ → (top : ℕ) → Laid
  truth_laid Tested k top = unused_laid k top
  truth_laid u k top = joined_laid u k top

  -- two conditions of which the first decides whether the second is asked
  abbrev pub both_laid : Use → ℕ → (ℕ → Laid) → (ℕ → Laid) → Laid
  both_laid u k a b =
      let r = a (behind_own u k) in let s = b (pick n (behind_own u k) r.top) in truth_laid u k (max r.top s.top)

  -- the names behind two arms, and behind a condition and two arms
  abbrev pub arms_top : ℕ → (condition : Laid) → (ℕ → Laid) → (ℕ → Laid) → ℕ
  arms_top k c a b = let x = a (pick n k c.top) in let y = b (pick n k x.top) in max x.top y.top

  -- the names in use behind a condition and its two arms, at most
  abbrev pub choice_top : ℕ → (condition : Laid) → (ℕ → Laid) → (ℕ → Laid) → ℕ
  choice_top k c a b = max c.top (arms_top k c a b)

  -- a choice between two arms without a value
  abbrev pub void_arms_laid : ℕ → (condition : Laid) → (ℕ → Laid) → (ℕ → Laid) → Laid
  void_arms_laid k c a b = unused_laid (pick n k (arms_top k c a b)) (choice_top k c a b)

  -- a choice between two arms, of which each writes its value to one name
  abbrev pub arms_laid : Use → ℕ → (condition : Laid) → (ℕ → Laid) → (ℕ → Laid) → Laid
  arms_laid u k c a b = joined_laid u k (choice_top (k + 1) c a b)

  -- the value of an assignment: that of the scalar, or what was stored in memory
  abbrev pub assigned_laid : Use → Option ℕ → ℕ → PlaceLaid → Laid → Laid
  assigned_laid u (Some x) k place r = standing u k (record { value = unit.Name x; next = r.next; top = r.top })
  assigned_laid u None k place r = behind_top place.top r

  -- the new value of a scalar: computed in so many instructions, the last of which writes the scalar
  abbrev pub renewed_scalar_laid : Use → (x : ℕ) → ℕ → (free top : ℕ) → Laid
  renewed_scalar_laid u x k free top =
      standing u k (record { value = unit.Name x; next = pick n k free; top = max top free })

  -- the new value of what is in memory
  abbrev pub renewed_memory_laid : Use → (free top : ℕ) → PlaceLaid → Laid
  renewed_memory_laid u free top place = operation_laid u place.next free (max (max place.top top) free)

  -- `a op= b`: the index that is added to a pointer may be scaled, and a narrow value is truncated
  abbrev pub updated_laid : Use → (narrow : Bool) → (scales : Bool) → Option ℕ → ℕ → PlaceLaid → Laid → Laid
  updated_laid u narrow scales (Some x) k place r =
      renewed_scalar_laid u x k (behind_move narrow (behind_move scales r.next)) r.top
  updated_laid u narrow scales None k place r =
      renewed_memory_laid u (behind_move narrow (behind_move scales r.next)) r.top place

  -- the new value of `++` and `--`
  abbrev pub stepped_laid : Use → (narrow : Bool) → Option ℕ → ℕ → PlaceLaid → Laid
  stepped_laid u narrow (Some x) k place = renewed_scalar_laid u x k (behind_move narrow k) k
  stepped_laid u narrow None k place = renewed_memory_laid u (behind_move narrow (place.next + 1)) place.top place

  -- a scalar's old value that is left where it is wanted, behind its new one
  abbrev pub left_scalar_laid : Use → (narrow : Bool) → (x : ℕ) → ℕ → Laid
  left_scalar_laid u narrow x k =
      let r = old_laid u x k in
      let free = behind_move narrow r.next in
      standing u k (record { value = r.value; next = pick n r.next free; top = max r.top free })

  -- the same of what is in memory
  abbrev pub left_memory_laid : Use → (narrow : Bool) → ℕ → PlaceLaid → Laid
  left_memory_laid (In y) narrow k place =
      let free = behind_move narrow (place.next + 1) in
      record { value = unit.Name y; next = pick n k free; top = max place.top free }
  left_memory_laid u narrow k place =
      let free = behind_move narrow (place.next + 2) in
      record { value = unit.Name place.next; next = pick n (place.next + 1) free; top = max place.top free }

  -- the old value of `++` and `--`
  abbrev pub left_laid : Use → (narrow : Bool) → Option ℕ → ℕ → PlaceLaid → Laid
  left_laid u narrow (Some x) k place = left_scalar_laid u narrow x k
  left_laid u narrow None k place = left_memory_laid u narrow k place

  -- the value of an increment or decrement: the new one, or the one before
  abbrev pub step_laid : Given → Use → (narrow : Bool) → Option ℕ → ℕ → PlaceLaid → Laid
  step_laid New u narrow x k place = stepped_laid u narrow x k place
  step_laid Old u narrow x k place = left_laid u narrow x k place

  -- a call: without a name where it gives nothing or nothing uses what it gives
  abbrev pub called_laid : Use → (void : Bool) → (begun next top : ℕ) → Laid
  called_laid u true k next top = unused_laid (pick n k next) top
  called_laid Nothing false k next top = unused_laid (pick n k next) top
  called_laid u false k next top = operation_laid u k next top

  -- the value of a variable: the scalar itself, or what is loaded from memory
  abbrev pub loaded_laid : Use → Option ℕ → ℕ → PlaceLaid → Laid
  loaded_laid u (Some x) k place = leaf_laid u (unit.Name x) k
  loaded_laid u None k place = operation_laid u k place.next place.top

  -- an address of an automatic object is an instruction
  abbrev pub object_laid : Use → Option ℕ → ℕ → Laid
  object_laid u None t = leaf_laid u (unit.Constant 0) t
  object_laid u (Some k) t = operation_laid u t t t
