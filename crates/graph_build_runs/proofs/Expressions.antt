-- The induction over all expressions: each construct is a lemma of its own, and the induction only names them.
use Rattle.std.proofs.Common.{◌≡◌, ℕ, ◌+◌, ◌-◌, ◌%◌, ◌<◌, List, [], ◌∷◌, length, Option, Some, None, true, false, slice_get, refl, sym, subst, arith, ℤ, pos, negsuc}
use Rattle.std.specs.Prelude.{option_map}
use Rattle.std.proofs.lemmas.Bool.Decides.{nat_tests}
use Rattle.word_base.specs.Types.{holds, char_type, converted}
use Rattle.c_tree.specs.declared.types.IntegerType.{IntegerType}
use Rattle.c_tree.specs.declared.types.IntegerType.TheVariants.{Char, Int}
use Rattle.c_tree.specs.declared.object_type.Scalar.{Scalar}
use Rattle.c_tree.specs.declared.object_type.ObjectType.{ObjectType}
use Rattle.c_tree.specs.declared.object_type.ObjectType.TheVariants as of-object
use Rattle.c_tree.specs.declared.object_type.ValueType.{ValueType}
use Rattle.c_tree.specs.declared.object_type.ValueType.TheVariants.{Integer, Pointer}
use Rattle.c_tree.specs.declared.object_type.Object.TheVariants as object
use Rattle.c_tree.specs.declared.typed_expression.Arithmetic as declared-arithmetic
use Rattle.c_tree.specs.declared.typed_expression.Comparison as declared-comparison
use Rattle.c_tree.specs.declared.typed_expression.Direction.{Direction}
use Rattle.c_tree.specs.declared.typed_expression.Direction.TheVariants.{Up}
use Rattle.c_tree.specs.declared.typed_expression.Given.{Given}
use Rattle.c_tree.specs.declared.typed_expression.Sign as declared-sign
use Rattle.c_tree.specs.declared.typed_expression.Sign.TheVariants as sign
use Rattle.c_tree.specs.declared.typed_expression.Callee.{Callee}
use Rattle.c_tree.specs.declared.typed_expression.Callee.TheVariants as callee
use Rattle.c_tree.specs.TypedExpressions.{RvalueTree, LvalueTree, ArgumentTrees, Constant, Null, Load, Decay, AddressOf, Convert, Discard, Signed, Not, Arithmetic, Compare, ComparePointers, Move, MoveFrom, Difference, And, Or, Conditional, Comma, Assign, Update, UpdatePointer, Step, StepPointer, Call, Named, Target, Element, ElementFrom, none, first}
use Rattle.c_tree.specs.Programs.{AutomaticTree, StaticTree, LiteralTree}
use Rattle.c_type_rules.specs.Constants.{calculated}
use Rattle.c_type_rules.specs.Integers.{integer, object_size}
use Rattle.c_type_rules.specs.Types.{loaded_type}
use Rattle.c_type_rules.specs.ValueTypes.{object_type, results_of, type_of, given_by, integer_in, is_void, is_pointer}
use Rattle.c_type_laws.specs.Kind.{Of}
use Rattle.c_type_laws.specs.Kinds.{is_promoted, is_of}
use Rattle.c_type_laws.specs.Expressions.{kind_of}
use Rattle.c_meaning_values.specs.declared.value.Value as source-value
use Rattle.c_meaning_values.specs.declared.value.Value.TheVariants as source
use Rattle.c_meaning_values.specs.Memory.{Memory as SourceMemory}
use Rattle.c_meaning_values.specs.Operations.{arithmetic, moved_by_elements, operator_of}
use Rattle.c_meaning_steps.specs.States.{State, Evaluated, Gives, Leaves, Ends, value_or_undefined, Listed, Lists, NoList, argument_listed, fronted, on_list}
use Rattle.c_meaning.specs.Expressions.{Calls, evaluate, evaluate_all, call}
use Rattle.c_meaning_steps.specs.Steps.{next_byte, updated_value}
use Rattle.graph_core.specs.declared.instruction.Element.TheVariants.{Word}
use Rattle.graph_build_layout.specs.declared.laid.Use.{Use}
use Rattle.graph_build_layout.specs.declared.laid.Use.TheVariants.{Anywhere, In, Nothing, Tested}
use Rattle.graph_build_names.specs.declared.names.Home.{Home}
use Rattle.graph_build_names.specs.declared.names.Home.TheVariants as home
use Rattle.graph_build_names.specs.Names.{scalar_in, scalar_of, scalar_named, object_in, object_of, home_of}
use Rattle.graph_build_steps.specs.Rules as rule
use Rattle.graph_build_steps.specs.Rules.{steps_by}
use Rattle.graph_build_steps.specs.declared.change.Change.TheVariants as change
use Rattle.graph_build_runs.specs.Typed.{IsOf}
use Rattle.graph_build_runs.specs.Correspondence.{AreBytes}
use Rattle.graph_build_runs.proofs.Leads.{Setting, names_in, size_in, depth_in}
use Rattle.graph_build_runs.proofs.Later.{Later, later_refl, later_trans}
use Rattle.graph_build_runs.proofs.Kept.{Sound, ScalarsFirst}
use Rattle.graph_build_runs.proofs.Noting.{ScalarsApart}
use Rattle.graph_build_runs.proofs.Typing.{HasKind, Gave, Keeps, Typed, of_later}
use Rattle.graph_build_runs.proofs.Types.{kind_is_of}
use Rattle.graph_build_runs.proofs.Standing.{Grows}
use Rattle.graph_build_runs.proofs.Operands.{Apart, Does, Low, Spares}
use Rattle.graph_build_runs.proofs.Scalars.{constant_does, null_does, scalar_does, assigned_does}
use Rattle.graph_build_runs.proofs.Arithmetic.{IsRight, arithmetic_does}
use Rattle.graph_build_runs.proofs.ComparedValues.{compare_does}
use Rattle.graph_build_runs.proofs.Choices.{Tops, and_does, or_does}
use Rattle.graph_build_runs.proofs.Sequences.{comma_does, discard_does}
use Rattle.graph_build_runs.proofs.Conditionals.{conditional_does}
use Rattle.graph_build_runs.proofs.Converts.{convert_does}
use Rattle.graph_build_runs.proofs.Negations.{IsPointerBy, not_does}
use Rattle.graph_build_runs.proofs.Signs.{plus_does, minus_does}
use Rattle.graph_build_runs.proofs.Wrapping.{wrapped_holds, convert_of}
use Rattle.graph_build_runs.proofs.Sparing.{spares, spares_any}
use Rattle.graph_build_runs.proofs.Lays.{lays, place_lays, passed_lays}
use Rattle.graph_build_runs.proofs.Growing.{grows, grows_place}
use Rattle.graph_build_runs.proofs.Arguments.{AreOf, KeepsList, TypedAll, DoesAll, SparesAny, none_does, first_does}
use Rattle.graph_build_runs.proofs.Calling.{CallsOk}
use Rattle.graph_build_runs.proofs.CallsDo.{Passes as PassesOn, function_does, procedure_does, getchar_does, putchar_does, exit_does}
use Rattle.graph_build_runs.proofs.Meanings.{keeps_before, constant_typed, null_typed}
use Rattle.graph_build_runs.proofs.Meant.{TypedPlace, variable_typed, static_typed, load_of, assign_of, both_typed, compare_of, comma_of, discard_of, and_of, or_of, not_of, conditional_of}
use Rattle.graph_build_runs.proofs.Places.{DoesPlace, StaticsThere, variable_place, static_place, literal_place, target_place}
use Rattle.graph_build_runs.proofs.Loading.{PlaceLays, load_does}
use Rattle.graph_build_runs.proofs.Moving.{AreSmall}
use Rattle.graph_build_runs.proofs.Remaining.{remains, computes}
use Rattle.graph_build_runs.proofs.TwoPointers.{IsPointer}
use Rattle.graph_build_runs.proofs.PointerTests.{pointers_compare}
use Rattle.graph_build_runs.proofs.PointerSums.{move_does, move_from_does, decayed_element, decayed_element_from, element_place, element_from_place, element_address, element_from_address}
use Rattle.graph_build_runs.proofs.Addresses.{static_address_does, literal_address_does, variable_address_does, target_address_does, static_decays, literal_decays, variable_decays, target_decays}
use Rattle.graph_build_runs.proofs.Complements.{complement_does}
use Rattle.graph_build_runs.proofs.VoidChoices.{void_choice_does}
use Rattle.graph_build_runs.proofs.Assigning.{GrowsPlace, stored_does}
use Rattle.graph_build_runs.proofs.ValuesStand.{IsWhole, stands_in, place_below}
use Rattle.graph_build_runs.proofs.Fresh.{place_fresh}
use Rattle.graph_build_runs.proofs.Renewing.{IsRightValue, IsNumber, integer_changes, pointer_changes}
use Rattle.graph_build_runs.proofs.PointerTypes.{target_typed, element_typed, element_from_typed, move_of, move_from_of, address_of, decay_of, compare_pointers_of, signed_of, updated_keeps, stepped_keeps, literal_typed}
use Rattle.graph_build_runs.proofs.PointerDifferences.{difference_of, difference_does}
use Rattle.graph_build_runs.proofs.UpdatesDo.{one_right, step_changes, update_does, update_pointer_does, step_does, step_pointer_does, update_there_does, update_pointer_there_does, step_there_does, step_pointer_there_does}

-- what is asked of the right operand's values
abbrev pub IsRightBy : Setting → declared-arithmetic.Arithmetic → IntegerType → RvalueTree → Type 0
IsRightBy x o t b = (memory : SourceMemory) (u : source-value.Value) → HasKind memory (kind_of x.program x.tree b) u → IsRightValue o t u

-- a number's kind
abbrev pub IsNumberBy : Setting → RvalueTree → Type 0
IsNumberBy x e = (memory : SourceMemory) (u : source-value.Value) → HasKind memory (kind_of x.program x.tree e) u → IsNumber u

abbrev pub IsPointerIn : Setting → RvalueTree → Type 0
IsPointerIn x e = (memory : SourceMemory) (u : source-value.Value) → HasKind memory (kind_of x.program x.tree e) u → IsPointer u

-- it has no values
abbrev pub IsNothing : Setting → RvalueTree → Type 0
IsNothing x e = (memory : SourceMemory) (u : source-value.Value) → HasKind memory (kind_of x.program x.tree e) u → ⊥

-- the variable of a scalar, of a type
pub record ScalarVariable (x : Setting) (v : ℕ) (of : ObjectType) (sc : Scalar) : Type 0 where
  pub name : ℕ
  pub is : scalar_of (names_in x) v ≡ Some name
  pub one : of ≡ of-object.Scalar sc
  pub fits : (a : AutomaticTree) → slice_get x.program.automatics v ≡ Some a → a.of ≡ of

-- What is called keeps what runs keep, and gives values of its type.
abbrev pub CallKeeps : Setting → Calls → Callee → List ValueType → Type 0
CallKeeps x calls c types = (vs : List source-value.Value) (s : State) → Sound x.program x.begun s → AreOf s.memory types vs → Keeps x.program x.begun s.memory (Of (given_by (results_of x.program.functions) c)) (call calls c vs s)

mutual
  -- Expressions that are well typed, whose scalars and objects are where the layout says.
  pub data Coded (x : Setting) (calls : Calls) : RvalueTree → Type 0 where
    constant : {z : ℤ} {t : IntegerType} → holds (integer t) z ≡ true → Coded x calls (Constant z t)
    null : Coded x calls Null
    scalar : {sc : Scalar} {v : ℕ} {of : ObjectType} → ScalarVariable x v of sc → kind_of x.program x.tree (Load sc (Named (object.Automatic v) of)) ≡ Of (loaded_type sc) → Coded x calls (Load sc (Named (object.Automatic v) of))
    load : {sc : Scalar} {lv : LvalueTree} → object_type lv ≡ of-object.Scalar sc → kind_of x.program x.tree (Load sc lv) ≡ Of (loaded_type sc) → CodedPlace x calls lv → Coded x calls (Load sc lv)
    decay : {lv : LvalueTree} {element : Scalar} {count : ℕ} → object_type lv ≡ of-object.Array element count → kind_of x.program x.tree (Decay lv) ≡ Of (Pointer (of-object.Scalar element)) → CodedPlace x calls lv → Coded x calls (Decay lv)
    address : {lv : LvalueTree} → kind_of x.program x.tree (AddressOf lv) ≡ Of (Pointer (object_type lv)) → CodedPlace x calls lv → Coded x calls (AddressOf lv)
    convert : {ty from : IntegerType} {e : RvalueTree} → kind_of x.program x.tree (Convert ty e) ≡ Of (Integer ty) → kind_of x.program x.tree e ≡ Of (Integer from) → integer_in (type_of (names_in x).results e) ≡ from → Coded x calls e → Coded x calls (Convert ty e)
    discarded : {e : RvalueTree} → Coded x calls e → Coded x calls (Discard e)
    signed : {o : declared-sign.Sign} {ty : IntegerType} {e : RvalueTree} → is_promoted ty ≡ true → kind_of x.program x.tree (Signed o ty e) ≡ Of (Integer ty) → kind_of x.program x.tree e ≡ Of (Integer ty) → Coded x calls e → Coded x calls (Signed o ty e)
    negated : {e : RvalueTree} → kind_of x.program x.tree (Not e) ≡ Of (Integer Int)
        → ((memory : SourceMemory) (v : source-value.Value) → HasKind memory (kind_of x.program x.tree e) v → IsPointerBy (is_pointer (type_of (names_in x).results e)) v) → Coded x calls e → Coded x calls (Not e)
    operated : {o : declared-arithmetic.Arithmetic} {t : IntegerType} {a b : RvalueTree} → is_promoted t ≡ true → kind_of x.program x.tree (Arithmetic o t a b) ≡ Of (Integer t) → kind_of x.program x.tree a ≡ Of (Integer t) → IsRightBy x o t b → Coded x calls a → Coded x calls b
        → Coded x calls (Arithmetic o t a b)
    compared : {o : declared-comparison.Comparison} {t : IntegerType} {a b : RvalueTree} → is_promoted t ≡ true → kind_of x.program x.tree (Compare o t a b) ≡ Of (Integer Int) → kind_of x.program x.tree a ≡ Of (Integer t) → kind_of x.program x.tree b ≡ Of (Integer t)
        → Coded x calls a → Coded x calls b → Coded x calls (Compare o t a b)
    pointers : {o : declared-comparison.Comparison} {a b : RvalueTree} → kind_of x.program x.tree (ComparePointers o a b) ≡ Of (Integer Int) → IsPointerIn x a → IsPointerIn x b → Coded x calls a → Coded x calls b → Coded x calls (ComparePointers o a b)
    moved : {d : Direction} {of : ObjectType} {p i : RvalueTree} → kind_of x.program x.tree (Move d of p i) ≡ Of (Pointer of) → is_of (kind_of x.program x.tree p) (Pointer of) ≡ true → Coded x calls p → Coded x calls i → Coded x calls (Move d of p i)
    moved_from : {of : ObjectType} {i p : RvalueTree} → kind_of x.program x.tree (MoveFrom i of p) ≡ Of (Pointer of) → is_of (kind_of x.program x.tree p) (Pointer of) ≡ true → Coded x calls i → Coded x calls p → Coded x calls (MoveFrom i of p)
    subtracted : {of : ObjectType} {a b : RvalueTree} → kind_of x.program x.tree (Difference of a b) ≡ Of (Integer Int) → is_of (kind_of x.program x.tree a) (Pointer of) ≡ true → is_of (kind_of x.program x.tree b) (Pointer of) ≡ true → Coded x calls a → Coded x calls b
        → Coded x calls (Difference of a b)
    conjunction : {a b : RvalueTree} → kind_of x.program x.tree (And a b) ≡ Of (Integer Int) → Coded x calls a → Coded x calls b → Coded x calls (And a b)
    disjunction : {a b : RvalueTree} → kind_of x.program x.tree (Or a b) ≡ Of (Integer Int) → Coded x calls a → Coded x calls b → Coded x calls (Or a b)
    chosen : {c a b : RvalueTree} → is_void (type_of (names_in x).results a) ≡ false
        → ((memory : SourceMemory) (v : source-value.Value) → HasKind memory (kind_of x.program x.tree a) v → HasKind memory (kind_of x.program x.tree (Conditional c a b)) v)
        → ((memory : SourceMemory) (v : source-value.Value) → HasKind memory (kind_of x.program x.tree b) v → HasKind memory (kind_of x.program x.tree (Conditional c a b)) v) → Coded x calls c → Coded x calls a → Coded x calls b → Coded x calls (Conditional c a b)
    nothing_chosen : {c a b : RvalueTree} → is_void (type_of (names_in x).results a) ≡ true → IsNothing x a → IsNothing x b → Coded x calls c → Coded x calls a → Coded x calls b → Coded x calls (Conditional c a b)
    sequence : {a b : RvalueTree} → kind_of x.program x.tree (Comma a b) ≡ kind_of x.program x.tree b → Coded x calls a → Coded x calls b → Coded x calls (Comma a b)
    assigned : {sc : Scalar} {v : ℕ} {of : ObjectType} {e : RvalueTree} → (y : ScalarVariable x v of sc) → kind_of x.program x.tree (Assign sc (Named (object.Automatic v) of) e) ≡ Of (loaded_type sc) → is_of (kind_of x.program x.tree e) (loaded_type sc) ≡ true → Apart x y.name e → Coded x calls e
        → Coded x calls (Assign sc (Named (object.Automatic v) of) e)
    stored : {sc : Scalar} {lv : LvalueTree} {e : RvalueTree} → object_type lv ≡ of-object.Scalar sc → kind_of x.program x.tree (Assign sc lv e) ≡ Of (loaded_type sc) → is_of (kind_of x.program x.tree e) (loaded_type sc) ≡ true → IsWhole x e → CodedPlace x calls lv → Coded x calls e → Coded x calls (Assign sc lv e)
    updated : {o : declared-arithmetic.Arithmetic} {ty t : IntegerType} {v : ℕ} {of : ObjectType} {e : RvalueTree} → is_promoted t ≡ true → ScalarVariable x v of (record { base = ty; stars = 0 }) → kind_of x.program x.tree (Update o ty t (Named (object.Automatic v) of) e) ≡ Of (Integer ty) → IsRightBy x o t e → Coded x calls e
        → Coded x calls (Update o ty t (Named (object.Automatic v) of) e)
    updated_there : {o : declared-arithmetic.Arithmetic} {ty t : IntegerType} {lv : LvalueTree} {e : RvalueTree} → is_promoted t ≡ true → object_type lv ≡ of-object.Scalar (record { base = ty; stars = 0 }) → kind_of x.program x.tree (Update o ty t lv e) ≡ Of (Integer ty) → IsRightBy x o t e → CodedPlace x calls lv → Coded x calls e
        → Coded x calls (Update o ty t lv e)
    advanced : {d : Direction} {of : ObjectType} {sc : Scalar} {v : ℕ} {in_it : ObjectType} {e : RvalueTree} → ScalarVariable x v in_it sc → loaded_type sc ≡ Pointer of → kind_of x.program x.tree (UpdatePointer d of (Named (object.Automatic v) in_it) e) ≡ Of (Pointer of) → IsNumberBy x e → Coded x calls e
        → Coded x calls (UpdatePointer d of (Named (object.Automatic v) in_it) e)
    advanced_there : {d : Direction} {of : ObjectType} {sc : Scalar} {lv : LvalueTree} {e : RvalueTree} → object_type lv ≡ of-object.Scalar sc → loaded_type sc ≡ Pointer of → rule.element_of sc ≡ Word → kind_of x.program x.tree (UpdatePointer d of lv e) ≡ Of (Pointer of) → IsNumberBy x e → CodedPlace x calls lv → Coded x calls e
        → Coded x calls (UpdatePointer d of lv e)
    stepped : {d : Direction} {g : Given} {ty t : IntegerType} {v : ℕ} {of : ObjectType} → is_promoted t ≡ true → ScalarVariable x v of (record { base = ty; stars = 0 }) → kind_of x.program x.tree (Step d g ty t (Named (object.Automatic v) of)) ≡ Of (Integer ty) → Coded x calls (Step d g ty t (Named (object.Automatic v) of))
    stepped_there : {d : Direction} {g : Given} {ty t : IntegerType} {lv : LvalueTree} → is_promoted t ≡ true → object_type lv ≡ of-object.Scalar (record { base = ty; stars = 0 }) → kind_of x.program x.tree (Step d g ty t lv) ≡ Of (Integer ty) → CodedPlace x calls lv → Coded x calls (Step d g ty t lv)
    walked : {d : Direction} {g : Given} {of : ObjectType} {sc : Scalar} {v : ℕ} {in_it : ObjectType} → ScalarVariable x v in_it sc → loaded_type sc ≡ Pointer of → kind_of x.program x.tree (StepPointer d g of (Named (object.Automatic v) in_it)) ≡ Of (Pointer of) → Coded x calls (StepPointer d g of (Named (object.Automatic v) in_it))
    walked_there : {d : Direction} {g : Given} {of : ObjectType} {sc : Scalar} {lv : LvalueTree} → object_type lv ≡ of-object.Scalar sc → loaded_type sc ≡ Pointer of → rule.element_of sc ≡ Word → kind_of x.program x.tree (StepPointer d g of lv) ≡ Of (Pointer of) → CodedPlace x calls lv → Coded x calls (StepPointer d g of lv)
    called : {f : ℕ} {types : List ValueType} {all : ArgumentTrees} → kind_of x.program x.tree (Call (callee.Function f) all) ≡ Of (given_by (results_of x.program.functions) (callee.Function f)) → is_void (given_by (names_in x).results (callee.Function f)) ≡ false → CallKeeps x calls (callee.Function f) types → CallsOk x calls f types
        → CodedAll x calls types all → Coded x calls (Call (callee.Function f) all)
    run : {f : ℕ} {types : List ValueType} {all : ArgumentTrees} → kind_of x.program x.tree (Call (callee.Function f) all) ≡ Of (given_by (results_of x.program.functions) (callee.Function f)) → is_void (given_by (names_in x).results (callee.Function f)) ≡ true
        → ((vs : List source-value.Value) (s : State) (v : source-value.Value) (s2 : State) → calls f vs s ≡ Gives v s2 → ⊥) → CallKeeps x calls (callee.Function f) types → CallsOk x calls f types → CodedAll x calls types all → Coded x calls (Call (callee.Function f) all)
    got : kind_of x.program x.tree (Call callee.Getchar none) ≡ Of (Integer Int) → Coded x calls (Call callee.Getchar none)
    put_out : {all : ArgumentTrees} → kind_of x.program x.tree (Call callee.Putchar all) ≡ Of (Integer Int) → CodedAll x calls (Integer Int ∷ []) all → Coded x calls (Call callee.Putchar all)
    left : {all : ArgumentTrees} → CodedAll x calls (Integer Int ∷ []) all → Coded x calls (Call callee.Exit all)

  -- Lvalues of objects in memory.
  pub data CodedPlace (x : Setting) (calls : Calls) : LvalueTree → Type 0 where
    variable : {v j : ℕ} {of : ObjectType} → object_of (names_in x) v ≡ Some j → ((a : AutomaticTree) → slice_get x.program.automatics v ≡ Some a → a.of ≡ of) → CodedPlace x calls (Named (object.Automatic v) of)
    static : {i : ℕ} {of : ObjectType} → StaticsThere x i → ((a : StaticTree) → slice_get x.program.statics i ≡ Some a → a.of ≡ of) → CodedPlace x calls (Named (object.Static i) of)
    literal : {i : ℕ} {of : ObjectType} → StaticsThere x ((names_in x).statics + i) → ((l : LiteralTree) → slice_get x.program.literals i ≡ Some l → of-object.Array (record { base = Char; stars = 0 }) (length l.bytes) ≡ of) → CodedPlace x calls (Named (object.Literal i) of)
    target : {of : ObjectType} {e : RvalueTree} → is_of (kind_of x.program x.tree e) (Pointer of) ≡ true → Coded x calls e → CodedPlace x calls (Target of e)
    element : {of : ObjectType} {p i : RvalueTree} → is_of (kind_of x.program x.tree p) (Pointer of) ≡ true → Coded x calls p → Coded x calls i → CodedPlace x calls (Element of p i)
    element_from : {of : ObjectType} {i p : RvalueTree} → is_of (kind_of x.program x.tree p) (Pointer of) ≡ true → Coded x calls i → Coded x calls p → CodedPlace x calls (ElementFrom of i p)

  -- Arguments of these types.
  pub data CodedAll (x : Setting) (calls : Calls) : List ValueType → ArgumentTrees → Type 0 where
    no_more : CodedAll x calls [] none
    one_more : {t : ValueType} {types : List ValueType} {e : RvalueTree} {rest : ArgumentTrees} → is_of (kind_of x.program x.tree e) t ≡ true → Coded x calls e → CodedAll x calls types rest → CodedAll x calls (t ∷ types) (first e rest)

-- what is kept in an object's home has no scalar
home_apart : (o : Option Home) (j : ℕ) → object_in o ≡ Some j → scalar_in o ≡ None
home_apart (Some (home.Scalar k)) j h = cc
home_apart (Some (home.Object k)) j h = refl
home_apart None j h = cc

pub in_memory : {x : Setting} {calls : Calls} {lv : LvalueTree} → CodedPlace x calls lv → scalar_named (names_in x) lv ≡ None
in_memory {x = x} (variable {v = v} {j = j} is fits) = home_apart (home_of (names_in x) v) j is
in_memory (static there fits) = refl
in_memory (literal there fits) = refl
in_memory (target fits c) = refl
in_memory (element fits c d) = refl
in_memory (element_from fits c d) = refl

-- an operator on integers comes to one of its type
operated_of : (x : Setting) (calls : Calls) (o : declared-arithmetic.Arithmetic) (t : IntegerType) (a b : RvalueTree) → is_promoted t ≡ true → kind_of x.program x.tree (Arithmetic o t a b) ≡ Of (Integer t) → kind_of x.program x.tree a ≡ Of (Integer t) → IsRightBy x o t b
    → Typed x calls a → Typed x calls b → Typed x calls (Arithmetic o t a b)
operated_of x calls o t a b promoted kind kind_a right typed_a typed_b s sound =
    subst (λ k. Keeps x.program x.begun s.memory k (evaluate calls (depth_in x) (Arithmetic o t a b) s)) (sym kind)
    (both_typed x calls a b (Of (Integer t)) (λ v w s1. value_or_undefined (arithmetic o t v w) s1) typed_a typed_b (λ v w s1 sound1 ka kb. gives v w s1 sound1 (subst (λ k. HasKind s1.memory k v) kind_a ka) (right s1.memory w kb)) s sound)
  where
    by_number : (p q : ℤ) (s1 : State) → Sound x.program x.begun s1 → holds (integer t) p ≡ true → IsRight o t q → (r : Option ℤ) → calculated o t p q ≡ r → Keeps x.program x.begun s1.memory (Of (Integer t)) (value_or_undefined (option_map source.Number r) s1)
    by_number p q s1 sound1 hp hq None e = tt
    by_number p q s1 sound1 hp hq (Some z) e = record { sound = sound1; later = later_refl s1.memory; is = remains o t promoted p q z hp hq e }

    gives : (v w : source-value.Value) (s1 : State) → Sound x.program x.begun s1 → IsOf s1.memory (Integer t) v → IsRightValue o t w → Keeps x.program x.begun s1.memory (Of (Integer t)) (value_or_undefined (arithmetic o t v w) s1)
    gives (source.Number p) (source.Number q) s1 sound1 hp hq = by_number p q s1 sound1 hp hq (calculated o t p q) refl
    gives (source.Number p) source.Null s1 sound1 hp hq = absurd hq
    gives (source.Number p) (source.Pointer n k) s1 sound1 hp hq = absurd hq
    gives source.Null w s1 sound1 hp hq = absurd hp
    gives (source.Pointer n k) w s1 sound1 hp hq = absurd hp

-- arguments
none_typed : (x : Setting) (calls : Calls) → TypedAll x calls [] none
none_typed x calls s sound = record { sound = sound; later = later_refl s.memory; are = tt }

first_typed : (x : Setting) (calls : Calls) (t : ValueType) (types : List ValueType) (e : RvalueTree) (rest : ArgumentTrees) → is_of (kind_of x.program x.tree e) t ≡ true → Typed x calls e → TypedAll x calls types rest → TypedAll x calls (t ∷ types) (first e rest)
first_typed x calls t types e rest fits typed_e typed_rest s sound = by (evaluate calls (depth_in x) e s) (typed_e s sound)
  where
    behind : (v : source-value.Value) (s1 : State) → Gave x.program x.begun s.memory (kind_of x.program x.tree e) v s1 → (r : Listed) → KeepsList x.program x.begun s1.memory types r → KeepsList x.program x.begun s.memory (t ∷ types) (fronted v r)
    behind v s1 gave (Lists vs s2) h = record {
      sound = h.sound;
      later = later_trans s.memory s1.memory s2.memory gave.later h.later;
      are = (of_later s1.memory s2.memory h.later t v (kind_is_of s1.memory (kind_of x.program x.tree e) t v fits gave.is), h.are);
    }
    behind v s1 gave (NoList c s2) h = tt

    by : (r : Evaluated) → Keeps x.program x.begun s.memory (kind_of x.program x.tree e) r → KeepsList x.program x.begun s.memory (t ∷ types) (argument_listed r (λ v s1. fronted v (evaluate_all calls (depth_in x) rest s1)))
    by (Gives v s1) gave = behind v s1 gave (evaluate_all calls (depth_in x) rest s1) (typed_rest s1 gave.sound)
    by (Leaves s1) gave = tt
    by (Ends c s1) gave = tt

-- what is called keeps what arguments kept
call_typed : (x : Setting) (calls : Calls) (c : Callee) (types : List ValueType) (all : ArgumentTrees) → kind_of x.program x.tree (Call c all) ≡ Of (given_by (results_of x.program.functions) c) → CallKeeps x calls c types → TypedAll x calls types all → Typed x calls (Call c all)
call_typed x calls c types all kind keeps typed_all s sound =
    subst (λ k. Keeps x.program x.begun s.memory k (evaluate calls (depth_in x) (Call c all) s)) (sym kind) (by (evaluate_all calls (depth_in x) all s) (typed_all s sound))
  where
    by : (r : Listed) → KeepsList x.program x.begun s.memory types r → Keeps x.program x.begun s.memory (Of (given_by (results_of x.program.functions) c)) (on_list r (call calls c))
    by (Lists vs s1) h = keeps_before x.program x.begun s.memory s1.memory (Of (given_by (results_of x.program.functions) c)) (call calls c vs s1) h.later (keeps vs s1 h.sound h.are)
    by (NoList e s1) h = tt

-- bytes are numbers, and so is the end of the input
byte_keeps : (x : Setting) (calls : Calls) → CallKeeps x calls callee.Getchar []
byte_keeps x calls vs s sound are = by s.input refl
  where
    by : (input : List ℕ) → s.input ≡ input → Keeps x.program x.begun s.memory (Of (Integer Int)) (next_byte input s)
    by [] e = record { sound = sound; later = later_refl s.memory; is = refl }
    by (byte ∷ input) e =
        let bytes : AreBytes (byte ∷ input) = subst AreBytes e sound.bytes in
        let lt = bytes.0 in
        record { sound = record { typed = sound.typed; differ = sound.differ; declared = sound.declared; single = sound.single; bytes = bytes.1; since = sound.since }; later = later_refl s.memory; is = small byte lt }
      where
        small : (n : ℕ) → n < 256 → holds (integer Int) (pos n) ≡ true
        small n lt = grind (arith, nat_tests, lt)

put_keeps : (x : Setting) (calls : Calls) → CallKeeps x calls callee.Putchar (Integer Int ∷ [])
put_keeps x calls [] s sound are = absurd are
put_keeps x calls (source.Number z ∷ []) s sound are =
    record { sound = record { typed = sound.typed; differ = sound.differ; declared = sound.declared; single = sound.single; bytes = sound.bytes; since = sound.since }; later = later_refl s.memory; is = char_in z }
  where
    char_in : (z : ℤ) → holds (integer Int) (converted char_type z) ≡ true
    char_in (pos n) = let lt : n % 256 < 256 = omega arith in grind (arith, nat_tests, lt)
    char_in (negsuc n) = let lt : 256 - 1 - n % 256 < 256 = omega arith in grind (arith, nat_tests, lt)
put_keeps x calls (source.Null ∷ []) s sound are = tt
put_keeps x calls (source.Pointer n k ∷ []) s sound are = tt
put_keeps x calls (v ∷ w ∷ vs) s sound are = absurd are.1

leave_typed : (x : Setting) (calls : Calls) (all : ArgumentTrees) → Typed x calls (Call callee.Exit all)
leave_typed x calls all s sound = by (evaluate_all calls (depth_in x) all s)
  where
    by : (r : Listed) → Keeps x.program x.begun s.memory (kind_of x.program x.tree (Call callee.Exit all)) (on_list r (call calls callee.Exit))
    by (Lists [] s1) = tt
    by (Lists (source.Number z ∷ []) s1) = tt
    by (Lists (source.Null ∷ []) s1) = tt
    by (Lists (source.Pointer n k ∷ []) s1) = tt
    by (Lists (v ∷ w ∷ vs) s1) = tt
    by (NoList e s1) = tt

module _ (x : Setting) (calls : Calls) (low : ScalarsFirst x) (apart : ScalarsApart x) (small : AreSmall x.program) where
  low_of : (e : RvalueTree) → Low x e
  low_of e t le = let h = lays (names_in x) (size_in x) low e Anywhere t le in record { next = h.next; below = h.below }

  tops_of : (u : Use) (e : RvalueTree) → Tops x u e
  tops_of u e t le = (lays (names_in x) (size_in x) low e u t le).top

  spares_of : (e : RvalueTree) → Spares x e
  spares_of e y le = spares (names_in x) (size_in x) low y le e

  grows_of : (e : RvalueTree) → Grows (names_in x) x.place x.top x.graph e
  grows_of e t goal h = grows (names_in x) x.place x.top x.graph e t goal h

  place_grows : (lv : LvalueTree) → GrowsPlace x lv
  place_grows lv t m h = grows_place (names_in x) x.place x.top x.graph lv t m h

  place_next_of : (lv : LvalueTree) → PlaceLays x lv
  place_next_of lv t le = (place_lays (names_in x) (size_in x) low lv t le).next

  passes_of : (all : ArgumentTrees) → PassesOn x all
  passes_of all t le = (passed_lays (names_in x) (size_in x) low all t le).next

  spares_any_of : (all : ArgumentTrees) → SparesAny x all
  spares_any_of all y le = spares_any (names_in x) (size_in x) low y le all

  -- a sign
  signed_does : (o : declared-sign.Sign) (ty : IntegerType) (e : RvalueTree) → is_promoted ty ≡ true → kind_of x.program x.tree e ≡ Of (Integer ty) → Typed x calls e → Does x calls e → Does x calls (Signed o ty e)
  signed_does sign.Plus ty e promoted kind_e typed_e does_e = plus_does x calls low ty e kind_e typed_e (low_of e) does_e
  signed_does sign.Minus ty e promoted kind_e typed_e does_e = minus_does x calls low ty e kind_e typed_e (low_of e) does_e promoted
  signed_does sign.Complement ty e promoted kind_e typed_e does_e = complement_does x calls low ty promoted e kind_e typed_e (low_of e) does_e

  mutual
    -- They come to values of their types.
    pub coded_typed : {e : RvalueTree} → Coded x calls e → Typed x calls e
    coded_typed (constant {z = z} {t = t} fits) = constant_typed x calls z t fits
    coded_typed null = null_typed x calls
    coded_typed (scalar {sc = sc} {v = v} {of = of} y kind) = load_of x calls sc (Named (object.Automatic v) of) kind y.one (variable_typed x calls v of y.fits)
    coded_typed (load {sc = sc} {lv = lv} of kind p) = load_of x calls sc lv kind of (place_typed p)
    coded_typed (decay {lv = lv} {element = el} {count = count} of kind p) = decay_of x calls lv el count of kind (place_typed p)
    coded_typed (address {lv = lv} kind p) = address_of x calls lv kind (place_typed p)
    coded_typed (convert {ty = ty} {from = from} {e = e} kind kind_e type_e c) = convert_of x calls ty e kind (coded_typed c)
    coded_typed (discarded {e = e} c) = discard_of x calls e (coded_typed c)
    coded_typed (signed {o = o} {ty = ty} {e = e} promoted kind kind_e c) = signed_of x calls o ty e kind kind_e (coded_typed c)
    coded_typed (negated {e = e} kind by_type c) = not_of x calls e kind (coded_typed c)
    coded_typed (operated {o = o} {t = t} {a = a} {b = b} promoted kind kind_a right c d) = operated_of x calls o t a b promoted kind kind_a right (coded_typed c) (coded_typed d)
    coded_typed (compared {o = o} {t = t} {a = a} {b = b} promoted kind ka kb c d) = compare_of x calls o t a b kind (coded_typed c) (coded_typed d)
    coded_typed (pointers {o = o} {a = a} {b = b} kind pa pb c d) = compare_pointers_of x calls o a b kind (coded_typed c) (coded_typed d)
    coded_typed (moved {d = d} {of = of} {p = p} {i = i} kind fits a b) = move_of x calls d of p i kind fits (coded_typed a) (coded_typed b)
    coded_typed (moved_from {of = of} {i = i} {p = p} kind fits a b) = move_from_of x calls of i p kind fits (coded_typed a) (coded_typed b)
    coded_typed (subtracted {of = of} {a = a} {b = b} kind fits_a fits_b c d) = difference_of x calls of a b kind (coded_typed c) (coded_typed d)
    coded_typed (conjunction {a = a} {b = b} kind c d) = and_of x calls a b kind (coded_typed c) (coded_typed d)
    coded_typed (disjunction {a = a} {b = b} kind c d) = or_of x calls a b kind (coded_typed c) (coded_typed d)
    coded_typed (chosen {c = c} {a = a} {b = b} whole fits_a fits_b test ca cb) = conditional_of x calls c a b fits_a fits_b (coded_typed test) (coded_typed ca) (coded_typed cb)
    coded_typed (nothing_chosen {c = c} {a = a} {b = b} void none_a none_b test ca cb) =
        conditional_of x calls c a b (λ memory v h. absurd (none_a memory v h)) (λ memory v h. absurd (none_b memory v h)) (coded_typed test) (coded_typed ca) (coded_typed cb)
    coded_typed (sequence {a = a} {b = b} kind c d) = comma_of x calls a b kind (coded_typed c) (coded_typed d)
    coded_typed (assigned {sc = sc} {v = v} {of = of} {e = e} y kind fits free c) = assign_of x calls sc (Named (object.Automatic v) of) e kind y.one fits (variable_typed x calls v of y.fits) (coded_typed c)
    coded_typed (stored {sc = sc} {lv = lv} {e = e} of kind fits whole p c) = assign_of x calls sc lv e kind of fits (place_typed p) (coded_typed c)
    coded_typed (updated {o = o} {ty = ty} {t = t} {v = v} {of = of} {e = e} promoted y kind right c) = λ s sound.
        (subst (λ k. Keeps x.program x.begun s.memory k (evaluate calls (depth_in x) (Update o ty t (Named (object.Automatic v) of) e) s)) (sym kind)
        (updated_keeps x calls (record { base = ty; stars = 0 }) (Named (object.Automatic v) of) y.one (variable_typed x calls v of y.fits) (change.Integer o ty t) (Integer ty) (IsRightValue o t) (λ memory a b. updated_value o ty t a b)
        (integer_changes x o ty t promoted (computes o t promoted) (remains o t promoted)) refl e (coded_typed c) right s sound))
    coded_typed (updated_there {o = o} {ty = ty} {t = t} {lv = lv} {e = e} promoted of kind right p c) = λ s sound.
        (subst (λ k. Keeps x.program x.begun s.memory k (evaluate calls (depth_in x) (Update o ty t lv e) s)) (sym kind)
        (updated_keeps x calls (record { base = ty; stars = 0 }) lv of (place_typed p) (change.Integer o ty t) (Integer ty) (IsRightValue o t) (λ memory a b. updated_value o ty t a b)
        (integer_changes x o ty t promoted (computes o t promoted) (remains o t promoted)) refl e (coded_typed c) right s sound))
    coded_typed (advanced {d = d} {of = of} {sc = sc} {v = v} {in_it = in_it} {e = e} y type_is kind number c) = λ s sound.
        (subst (λ k. Keeps x.program x.begun s.memory k (evaluate calls (depth_in x) (UpdatePointer d of (Named (object.Automatic v) in_it) e) s)) (sym kind)
        (updated_keeps x calls sc (Named (object.Automatic v) in_it) y.one (variable_typed x calls v in_it y.fits) (change.Pointer d (object_size of)) (Pointer of) IsNumber (λ memory a b. moved_by_elements memory d of a b) (pointer_changes x d of small) type_is e (coded_typed c) number s sound))
    coded_typed (advanced_there {d = d} {of = of} {sc = sc} {lv = lv} {e = e} one_of type_is word kind number p c) = λ s sound.
        (subst (λ k. Keeps x.program x.begun s.memory k (evaluate calls (depth_in x) (UpdatePointer d of lv e) s)) (sym kind)
        (updated_keeps x calls sc lv one_of (place_typed p) (change.Pointer d (object_size of)) (Pointer of) IsNumber (λ memory a b. moved_by_elements memory d of a b) (pointer_changes x d of small) type_is e (coded_typed c) number s sound))
    coded_typed (stepped {d = d} {g = g} {ty = ty} {t = t} {v = v} {of = of} promoted y kind) = λ s sound.
        (subst (λ k. Keeps x.program x.begun s.memory k (evaluate calls (depth_in x) (Step d g ty t (Named (object.Automatic v) of)) s)) (sym kind)
        (stepped_keeps x calls (record { base = ty; stars = 0 }) (Named (object.Automatic v) of) y.one (variable_typed x calls v of y.fits) (change.Integer (steps_by d) ty t) (Integer ty) (IsRightValue (steps_by d) t) (λ memory a b. updated_value (operator_of d) ty t a b)
        (step_changes x d ty t promoted) refl g (one_right d t promoted) s sound))
    coded_typed (stepped_there {d = d} {g = g} {ty = ty} {t = t} {lv = lv} promoted of kind p) = λ s sound.
        (subst (λ k. Keeps x.program x.begun s.memory k (evaluate calls (depth_in x) (Step d g ty t lv) s)) (sym kind)
        (stepped_keeps x calls (record { base = ty; stars = 0 }) lv of (place_typed p) (change.Integer (steps_by d) ty t) (Integer ty) (IsRightValue (steps_by d) t) (λ memory a b. updated_value (operator_of d) ty t a b) (step_changes x d ty t promoted) refl g (one_right d t promoted) s sound))
    coded_typed (walked {d = d} {g = g} {of = of} {sc = sc} {v = v} {in_it = in_it} y type_is kind) = λ s sound.
        (subst (λ k. Keeps x.program x.begun s.memory k (evaluate calls (depth_in x) (StepPointer d g of (Named (object.Automatic v) in_it)) s)) (sym kind)
        (stepped_keeps x calls sc (Named (object.Automatic v) in_it) y.one (variable_typed x calls v in_it y.fits) (change.Pointer d (object_size of)) (Pointer of) IsNumber (λ memory a b. moved_by_elements memory d of a b) (pointer_changes x d of small) type_is g tt s sound))
    coded_typed (walked_there {d = d} {g = g} {of = of} {sc = sc} {lv = lv} one_of type_is word kind p) = λ s sound.
        (subst (λ k. Keeps x.program x.begun s.memory k (evaluate calls (depth_in x) (StepPointer d g of lv) s)) (sym kind)
        (stepped_keeps x calls sc lv one_of (place_typed p) (change.Pointer d (object_size of)) (Pointer of) IsNumber (λ memory a b. moved_by_elements memory d of a b) (pointer_changes x d of small) type_is g tt s sound))
    coded_typed (called {f = f} {types = types} {all = all} kind whole keeps ok c) = call_typed x calls (callee.Function f) types all kind keeps (all_typed c)
    coded_typed (run {f = f} {types = types} {all = all} kind void nothing keeps ok c) = call_typed x calls (callee.Function f) types all kind keeps (all_typed c)
    coded_typed (got kind) = call_typed x calls callee.Getchar [] none kind (byte_keeps x calls) (none_typed x calls)
    coded_typed (put_out {all = all} kind c) = call_typed x calls callee.Putchar (Integer Int ∷ []) all kind (put_keeps x calls) (all_typed c)
    coded_typed (left {all = all} c) = leave_typed x calls all

    pub place_typed : {lv : LvalueTree} → CodedPlace x calls lv → TypedPlace x calls lv
    place_typed (variable {v = v} {of = of} is fits) = variable_typed x calls v of fits
    place_typed (static {i = i} {of = of} there fits) = static_typed x calls i of fits
    place_typed (literal {i = i} {of = of} there fits) = literal_typed x calls i of fits
    place_typed (target {of = of} {e = e} fits c) = target_typed x calls of e fits (coded_typed c)
    place_typed (element {of = of} {p = p} {i = i} fits c d) = element_typed x calls Up of p i fits (coded_typed c) (coded_typed d)
    place_typed (element_from {of = of} {i = i} {p = p} fits c d) = element_from_typed x calls of i p fits (coded_typed c) (coded_typed d)

    all_typed : {types : List ValueType} {all : ArgumentTrees} → CodedAll x calls types all → TypedAll x calls types all
    all_typed no_more = none_typed x calls
    all_typed (one_more {t = t} {types = types} {e = e} {rest = rest} fits c d) = first_typed x calls t types e rest fits (coded_typed c) (all_typed d)

    -- Their code does what they mean.
    pub coded_does : {e : RvalueTree} → Coded x calls e → Does x calls e
    coded_does (constant {z = z} {t = t} fits) = constant_does x calls z t fits
    coded_does null = null_does x calls
    coded_does (scalar {sc = sc} {v = v} {of = of} y kind) = scalar_does x calls sc v of y.name y.is
    coded_does (load {sc = sc} {lv = lv} of kind p) = load_does x calls low sc lv (in_memory p) of (place_typed p) (place_next_of lv) (place_does p)
    coded_does (decay of kind p) = decay_does p
    coded_does (address kind p) = address_does p
    coded_does (convert {ty = ty} {from = from} {e = e} kind kind_e type_e c) = convert_does x calls low from ty e kind_e type_e (λ z. wrapped_holds ty z) (coded_typed c) (low_of e) (coded_does c)
    coded_does (discarded {e = e} c) = discard_does x calls e (coded_typed c) (coded_does c)
    coded_does (signed {o = o} {ty = ty} {e = e} promoted kind kind_e c) = signed_does o ty e promoted kind_e (coded_typed c) (coded_does c)
    coded_does (negated {e = e} kind by_type c) = not_does x calls low e (coded_typed c) by_type (low_of e) (coded_does c)
    coded_does (operated {o = o} {t = t} {a = a} {b = b} promoted kind kind_a right c d) =
        arithmetic_does x calls low o t a b (computes o t promoted) kind_a (λ memory z h. right memory (source.Number z) h) (coded_typed c) (coded_typed d) (low_of a) (low_of b) (spares_of b) (grows_of a) (coded_does c) (coded_does d)
    coded_does (compared {o = o} {t = t} {a = a} {b = b} promoted kind ka kb c d) = compare_does x calls low o t promoted a b ka kb (coded_typed c) (coded_typed d) (low_of a) (low_of b) (spares_of b) (grows_of a) (coded_does c) (coded_does d)
    coded_does (pointers {o = o} {a = a} {b = b} kind pa pb c d) = pointers_compare x calls low o a b pa pb (coded_typed c) (coded_typed d) (low_of a) (low_of b) (spares_of b) (grows_of a) (coded_does c) (coded_does d)
    coded_does (moved {d = d} {of = of} {p = p} {i = i} kind fits a b) = move_does x calls low small p i (coded_typed a) (coded_typed b) (low_of p) (low_of i) (spares_of i) (grows_of p) (coded_does a) (coded_does b) d of
    coded_does (moved_from {of = of} {i = i} {p = p} kind fits a b) = move_from_does x calls low small i p (coded_typed a) (coded_typed b) (low_of i) (low_of p) (spares_of p) (grows_of i) (coded_does a) (coded_does b) of
    coded_does (subtracted {of = of} {a = a} {b = b} kind fits_a fits_b c d) =
        difference_does x calls low small of a b fits_a fits_b (coded_typed c) (coded_typed d) (low_of a) (low_of b) (spares_of b) (grows_of a) (coded_does c) (coded_does d)
    coded_does (conjunction {a = a} {b = b} kind c d) = and_does x calls low a b (coded_typed c) (tops_of Tested a) (grows_of a) (grows_of b) (coded_does c) (coded_does d)
    coded_does (disjunction {a = a} {b = b} kind c d) = or_does x calls low a b (coded_typed c) (tops_of Tested a) (grows_of a) (grows_of b) (coded_does c) (coded_does d)
    coded_does (chosen {c = c} {a = a} {b = b} whole fits_a fits_b test ca cb) =
        conditional_does x calls low c a b whole (coded_typed test) (coded_typed ca) (coded_typed cb) (tops_of Tested c) (λ k. tops_of (In k) a) (grows_of c) (grows_of a) (grows_of b) (coded_does test) (coded_does ca) (coded_does cb)
    coded_does (nothing_chosen {c = c} {a = a} {b = b} void none_a none_b test ca cb) =
        void_choice_does x calls low c a b void (coded_typed test) (coded_typed ca) (coded_typed cb) none_a none_b (tops_of Tested c) (tops_of Nothing a) (grows_of c) (grows_of a) (grows_of b) (coded_does test) (coded_does ca) (coded_does cb)
    coded_does (sequence {a = a} {b = b} kind c d) = comma_does x calls a b (coded_typed c) (tops_of Nothing a) (grows_of a) (coded_does c) (coded_does d)
    coded_does (assigned {sc = sc} {v = v} {of = of} {e = e} y kind fits free c) = assigned_does x calls apart sc v of y.name y.is e low (coded_typed c) free (coded_does c)
    coded_does (stored {sc = sc} {lv = lv} {e = e} of kind fits whole p c) =
        stored_does x calls low sc lv (in_memory p) of (place_typed p) (place_next_of lv) (place_below x low lv) (place_fresh x low lv) (place_grows lv) (place_does p) e fits (coded_typed c) (spares_of e) (stands_in x e whole) (coded_does c)
    coded_does (updated {o = o} {ty = ty} {t = t} {v = v} {of = of} {e = e} promoted y kind right c) =
        update_does x calls low apart v y.name y.is of (record { base = ty; stars = 0 }) y.one y.fits o ty t promoted refl e (coded_typed c) (low_of e) (spares_of e) (coded_does c) right
    coded_does (updated_there {o = o} {ty = ty} {t = t} {lv = lv} {e = e} promoted of kind right p c) =
        update_there_does x calls low (record { base = ty; stars = 0 }) lv (in_memory p) of (place_typed p) (place_next_of lv) (place_below x low lv) (place_fresh x low lv) (place_grows lv) (place_does p) o ty t promoted refl refl e (coded_typed c) (low_of e) (spares_of e) (coded_does c) right
    coded_does (advanced {d = d} {of = of} {sc = sc} {v = v} {in_it = in_it} {e = e} y type_is kind number c) =
        update_pointer_does x calls low apart v y.name y.is in_it sc y.one y.fits d of small type_is e (coded_typed c) (low_of e) (spares_of e) (coded_does c) number
    coded_does (advanced_there {d = d} {of = of} {sc = sc} {lv = lv} {e = e} one_of type_is word kind number p c) =
        update_pointer_there_does x calls low sc lv (in_memory p) one_of (place_typed p) (place_next_of lv) (place_below x low lv) (place_fresh x low lv) (place_grows lv) (place_does p) d of small type_is (sym word) e (coded_typed c) (low_of e) (spares_of e) (coded_does c) number
    coded_does (stepped {d = d} {g = g} {ty = ty} {t = t} {v = v} {of = of} promoted y kind) = step_does x calls low apart v y.name y.is of (record { base = ty; stars = 0 }) y.one y.fits d g ty t promoted refl
    coded_does (stepped_there {d = d} {g = g} {ty = ty} {t = t} {lv = lv} promoted of kind p) =
        step_there_does x calls low (record { base = ty; stars = 0 }) lv (in_memory p) of (place_typed p) (place_next_of lv) (place_below x low lv) (place_fresh x low lv) (place_grows lv) (place_does p) d g ty t promoted refl refl
    coded_does (walked {d = d} {g = g} {of = of} {sc = sc} {v = v} {in_it = in_it} y type_is kind) = step_pointer_does x calls low apart v y.name y.is in_it sc y.one y.fits d g of small type_is
    coded_does (walked_there {d = d} {g = g} {of = of} {sc = sc} {lv = lv} one_of type_is word kind p) =
        step_pointer_there_does x calls low sc lv (in_memory p) one_of (place_typed p) (place_next_of lv) (place_below x low lv) (place_fresh x low lv) (place_grows lv) (place_does p) d g of small type_is (sym word)
    coded_does (called {f = f} {types = types} {all = all} kind whole keeps ok c) = function_does x calls low all types (all_typed c) (all_does c) (passes_of all) f whole ok
    coded_does (run {f = f} {types = types} {all = all} kind void nothing keeps ok c) = procedure_does x calls low all types (all_typed c) (all_does c) (passes_of all) f void nothing ok
    coded_does (got kind) = getchar_does x calls low none [] (none_typed x calls) (none_does x calls) (passes_of none)
    coded_does (put_out {all = all} kind c) = putchar_does x calls low all (Integer Int ∷ []) (all_typed c) (all_does c) (passes_of all)
    coded_does (left {all = all} c) = exit_does x calls low all (Integer Int ∷ []) (all_typed c) (all_does c) (passes_of all) refl

    -- The code before places finds them.
    pub place_does : {lv : LvalueTree} → CodedPlace x calls lv → DoesPlace x calls lv
    place_does (variable {v = v} {j = j} {of = of} is fits) = variable_place x calls v j of is
    place_does (static {i = i} {of = of} there fits) = static_place x calls i of there
    place_does (literal {i = i} {of = of} there fits) = literal_place x calls i of there
    place_does (target {of = of} {e = e} fits c) = target_place x calls of e (coded_does c)
    place_does (element {of = of} {p = p} {i = i} fits c d) =
        element_place x calls of p i (move_does x calls low small p i (coded_typed c) (coded_typed d) (low_of p) (low_of i) (spares_of i) (grows_of p) (coded_does c) (coded_does d) Up of)
    place_does (element_from {of = of} {i = i} {p = p} fits c d) =
        element_from_place x calls of i p (move_from_does x calls low small i p (coded_typed c) (coded_typed d) (low_of i) (low_of p) (spares_of p) (grows_of i) (coded_does c) (coded_does d) of)

    -- So does that of their addresses,
    address_does : {lv : LvalueTree} → CodedPlace x calls lv → Does x calls (AddressOf lv)
    address_does (variable {v = v} {j = j} {of = of} is fits) = variable_address_does x calls low v j of is
    address_does (static {i = i} {of = of} there fits) = static_address_does x calls low i of there
    address_does (literal {i = i} {of = of} there fits) = literal_address_does x calls low i of there
    address_does (target {of = of} {e = e} fits c) = target_address_does x calls low of e (coded_typed c) (coded_does c)
    address_does (element {of = of} {p = p} {i = i} fits c d) =
        element_address x calls of p i (move_does x calls low small p i (coded_typed c) (coded_typed d) (low_of p) (low_of i) (spares_of i) (grows_of p) (coded_does c) (coded_does d) Up of)
    address_does (element_from {of = of} {i = i} {p = p} fits c d) =
        element_from_address x calls of i p (move_from_does x calls low small i p (coded_typed c) (coded_typed d) (low_of i) (low_of p) (spares_of p) (grows_of i) (coded_does c) (coded_does d) of)

    -- and that of arrays.
    decay_does : {lv : LvalueTree} → CodedPlace x calls lv → Does x calls (Decay lv)
    decay_does (variable {v = v} {j = j} {of = of} is fits) = variable_decays x calls low v j of is
    decay_does (static {i = i} {of = of} there fits) = static_decays x calls low i of there
    decay_does (literal {i = i} {of = of} there fits) = literal_decays x calls low i of there
    decay_does (target {of = of} {e = e} fits c) = target_decays x calls low of e (coded_typed c) (coded_does c)
    decay_does (element {of = of} {p = p} {i = i} fits c d) =
        decayed_element x calls low small p i (coded_typed c) (coded_typed d) (low_of p) (low_of i) (spares_of i) (grows_of p) (coded_does c) (coded_does d) of
    decay_does (element_from {of = of} {i = i} {p = p} fits c d) =
        decayed_element_from x calls low small i p (coded_typed c) (coded_typed d) (low_of i) (low_of p) (spares_of p) (grows_of i) (coded_does c) (coded_does d) of

    -- The code of arguments does what they mean.
    pub all_does : {types : List ValueType} {all : ArgumentTrees} → CodedAll x calls types all → DoesAll x calls all
    all_does no_more = none_does x calls
    all_does (one_more {t = t} {types = types} {e = e} {rest = rest} fits c d) = first_does x calls low e rest (coded_typed c) types (all_typed d) (low_of e) (spares_any_of rest) (grows_of e) (coded_does c) (all_does d)
