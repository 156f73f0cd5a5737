-- The code of updates and steps does what they mean.
use Rattle.std.proofs.Common.{◌≡◌, ℕ, Some, None, true, false, ◌||◌, slice_get, refl, sym, subst, pos}
use Rattle.word_base.specs.Types.{holds}
use Rattle.c_tree.specs.declared.types.IntegerType.{IntegerType}
use Rattle.c_tree.specs.declared.types.IntegerType.TheVariants.{Char, SignedChar, UnsignedChar, Short, UnsignedShort, Int, UnsignedInt, Long, UnsignedLong}
use Rattle.c_tree.specs.declared.object_type.Scalar.{Scalar}
use Rattle.c_tree.specs.declared.object_type.ObjectType.{ObjectType}
use Rattle.c_tree.specs.declared.object_type.ObjectType.TheVariants as of-object
use Rattle.c_tree.specs.declared.object_type.ValueType.TheVariants.{Integer, Pointer}
use Rattle.c_tree.specs.declared.object_type.Object.TheVariants as object
use Rattle.c_tree.specs.declared.typed_expression.Arithmetic as declared-arithmetic
use Rattle.c_tree.specs.declared.typed_expression.Direction.{Direction}
use Rattle.c_tree.specs.declared.typed_expression.Direction.TheVariants.{Up, Down}
use Rattle.c_tree.specs.declared.typed_expression.Given.{Given}
use Rattle.c_tree.specs.TypedExpressions.{RvalueTree, LvalueTree, Update, UpdatePointer, Step, StepPointer, Named}
use Rattle.c_tree.specs.Programs.{AutomaticTree}
use Rattle.c_type_rules.specs.Integers.{integer, object_size}
use Rattle.c_type_rules.specs.Types.{loaded_type}
use Rattle.c_type_rules.specs.ValueTypes.{object_type}
use Rattle.c_type_laws.specs.Kinds.{is_promoted}
use Rattle.c_type_laws.specs.Expressions.{kind_of}
use Rattle.c_meaning_values.specs.declared.value.Value as source-value
use Rattle.c_meaning_values.specs.Memory.{Memory as SourceMemory}
use Rattle.c_meaning_values.specs.Operations.{moved_by_elements, operator_of}
use Rattle.c_meaning.specs.Expressions.{Calls, evaluate}
use Rattle.c_meaning_steps.specs.Steps.{updated_value, one}
use Rattle.graph_core.specs.declared.instruction.Element.TheVariants.{Word}
use Rattle.graph_build_names.specs.Conversions.{is_narrow}
use Rattle.graph_build_names.specs.Scales.{is_scaled}
use Rattle.graph_build_layout.specs.declared.laid.Use.TheVariants.{Anywhere}
use Rattle.graph_build_names.specs.Names.{scalar_of, scalar_named}
use Rattle.graph_build_layout.specs.Laid.{begun_behind, updated_laid, step_laid}
use Rattle.graph_build_layout.specs.Layout.{laid, place_laid}
use Rattle.graph_build_names.specs.Writes.{writes, is_that}
use Rattle.graph_build_steps.specs.Rules as rule
use Rattle.graph_build_steps.specs.Rules.{steps_by, integer_element}
use Rattle.graph_build_steps.specs.declared.change.Change.TheVariants as change
use Rattle.graph_build_code.specs.Code.{code_place}
use Rattle.graph_build_steps.specs.Steps.{updated, stepped}
use Rattle.graph_build_runs.proofs.Leads.{Setting, names_in, depth_in}
use Rattle.graph_build_runs.proofs.Kept.{ScalarsFirst}
use Rattle.graph_build_runs.proofs.Results.{Result}
use Rattle.graph_build_runs.proofs.Noting.{ScalarsApart}
use Rattle.graph_build_runs.proofs.Typing.{HasKind, Typed}
use Rattle.graph_build_runs.proofs.Standing.{Stands}
use Rattle.graph_build_runs.proofs.Operands.{Does, code_in, Low, Spares}
use Rattle.graph_build_runs.proofs.Meant.{TypedPlace}
use Rattle.graph_build_runs.proofs.Places.{within_written, DoesPlace}
use Rattle.graph_build_runs.proofs.Loading.{PlaceLays}
use Rattle.graph_build_runs.proofs.Moving.{AreSmall}
use Rattle.graph_build_runs.proofs.Remaining.{remains, computes}
use Rattle.graph_build_runs.proofs.Assigning.{PlaceBelow, PlaceFresh, GrowsPlace}
use Rattle.graph_build_runs.proofs.Renewing.{IsRightValue, IsNumber, Changes, integer_changes, pointer_changes}
use Rattle.graph_build_runs.proofs.MemorySteps.{memory_updated}
use Rattle.graph_build_runs.proofs.Updates.{scalar_target, older_by, aims_place, scalar_updates, scalar_steps, memory_steps}

one_holds : (t : IntegerType) → is_promoted t ≡ true → holds (integer t) (pos 1) ≡ true
one_holds Char p = cc
one_holds SignedChar p = cc
one_holds UnsignedChar p = cc
one_holds Short p = cc
one_holds UnsignedShort p = cc
one_holds Int p = refl
one_holds UnsignedInt p = refl
one_holds Long p = refl
one_holds UnsignedLong p = refl

-- 1 is a right operand of a step
pub one_right : (d : Direction) (t : IntegerType) → is_promoted t ≡ true → IsRightValue (steps_by d) t one
one_right Up t p = one_holds t p
one_right Down t p = one_holds t p

-- the operators of steps
pub step_changes : (x : Setting) (d : Direction) (ty t : IntegerType) → is_promoted t ≡ true → Changes x (change.Integer (steps_by d) ty t) (Integer ty) (IsRightValue (steps_by d) t) (λ memory a b. updated_value (operator_of d) ty t a b)
step_changes x Up ty t p = integer_changes x (steps_by Up) ty t p (computes (steps_by Up) t p) (remains (steps_by Up) t p)
step_changes x Down ty t p = integer_changes x (steps_by Down) ty t p (computes (steps_by Down) t p) (remains (steps_by Down) t p)

module _ (x : Setting) (calls : Calls) (low : ScalarsFirst x) (apart : ScalarsApart x) (v k : ℕ) (named_by : scalar_of (names_in x) v ≡ Some k) (of : ObjectType) (sc : Scalar) (one_of : of ≡ of-object.Scalar sc) (fits : (a : AutomaticTree) → slice_get x.program.automatics v ≡ Some a → a.of ≡ of) where
  -- `x op= e`, `++x`, `x++` and their like, of a scalar that is an integer
  pub update_does : (o : declared-arithmetic.Arithmetic) (ty t : IntegerType) → is_promoted t ≡ true → loaded_type sc ≡ Integer ty → (e : RvalueTree) → Typed x calls e → Low x e → Spares x e → Does x calls e
      → ((memory : SourceMemory) (u : source-value.Value) → HasKind memory (kind_of x.program x.tree e) u → IsRightValue o t u) → Does x calls (Update o ty t (Named (object.Automatic v) of) e)
  update_does o ty t promoted type_is e typed_e low_e spares_e does_e right i g s l w size st sound f aims =
      scalar_updates x calls low apart v k named_by of (change.Integer o ty t) (Integer ty) (IsRightValue o t) (λ memory a b. updated_value o ty t a b) (integer_changes x o ty t promoted (computes o t promoted) (remains o t promoted))
      (scalar_target x v of sc (Integer ty) fits one_of type_is) (is_narrow ty) (λ r. false) e typed_e low_e spares_e does_e right i g s l w size (scalar_of (names_in x) v) named_by st sound f

  pub update_pointer_does : (d : Direction) (element : ObjectType) → AreSmall x.program → loaded_type sc ≡ Pointer element → (e : RvalueTree) → Typed x calls e → Low x e → Spares x e → Does x calls e
      → ((memory : SourceMemory) (u : source-value.Value) → HasKind memory (kind_of x.program x.tree e) u → IsNumber u) → Does x calls (UpdatePointer d element (Named (object.Automatic v) of) e)
  update_pointer_does d element small type_is e typed_e low_e spares_e does_e number i g s l w size st sound f aims =
      scalar_updates x calls low apart v k named_by of (change.Pointer d (object_size element)) (Pointer element) IsNumber (λ memory a b. moved_by_elements memory d element a b) (pointer_changes x d element small)
      (scalar_target x v of sc (Pointer element) fits one_of type_is) false (λ r. is_scaled (object_size element) r.value) e typed_e low_e spares_e does_e number i g s l w size (scalar_of (names_in x) v) named_by st sound f

  pub step_does : (d : Direction) (which : Given) (ty t : IntegerType) → is_promoted t ≡ true → loaded_type sc ≡ Integer ty → Does x calls (Step d which ty t (Named (object.Automatic v) of))
  step_does d which ty t promoted type_is i g s l w size st sound f aims =
      scalar_steps x calls low apart v k named_by of (change.Integer (steps_by d) ty t) (Integer ty) (IsRightValue (steps_by d) t) (λ memory a b. updated_value (operator_of d) ty t a b) (step_changes x d ty t promoted)
      (scalar_target x v of sc (Integer ty) fits one_of type_is) (is_narrow ty) which (one_right d t promoted) i g s l w size (older_by x g (Step d which ty t (Named (object.Automatic v) of)) i aims) (scalar_of (names_in x) v) named_by sound f

  pub step_pointer_does : (d : Direction) (which : Given) (element : ObjectType) → AreSmall x.program → loaded_type sc ≡ Pointer element → Does x calls (StepPointer d which element (Named (object.Automatic v) of))
  step_pointer_does d which element small type_is i g s l w size st sound f aims =
      scalar_steps x calls low apart v k named_by of (change.Pointer d (object_size element)) (Pointer element) IsNumber (λ memory a b. moved_by_elements memory d element a b) (pointer_changes x d element small)
      (scalar_target x v of sc (Pointer element) fits one_of type_is) false which tt i g s l w size (older_by x g (StepPointer d which element (Named (object.Automatic v) of)) i aims) (scalar_of (names_in x) v) named_by sound f

module _ (x : Setting) (calls : Calls) (low : ScalarsFirst x) (sc : Scalar) (lv : LvalueTree) (in_memory : scalar_named (names_in x) lv ≡ None) (of : object_type lv ≡ of-object.Scalar sc) (typed_lv : TypedPlace x calls lv) (lays_lv : PlaceLays x lv) (below_lv : PlaceBelow x lv) (fresh_lv : PlaceFresh x lv)
    (grows_lv : GrowsPlace x lv) (does_lv : DoesPlace x calls lv) where
  -- the same of what is in memory
  pub update_there_does : (o : declared-arithmetic.Arithmetic) (ty t : IntegerType) → is_promoted t ≡ true → loaded_type sc ≡ Integer ty → integer_element ty ≡ rule.element_of sc → (e : RvalueTree) → Typed x calls e → Low x e → Spares x e → Does x calls e
      → ((memory : SourceMemory) (u : source-value.Value) → HasKind memory (kind_of x.program x.tree e) u → IsRightValue o t u) → Does x calls (Update o ty t lv e)
  update_there_does o ty t promoted type_is element_is e typed_e low_e spares_e does_e right i g s l w size st sound f aims =
      subst (λ h. Stands x.graph x.top (updated (names_in x) h (change.Integer o ty t) (λ y. writes (names_in x) y e) (place_laid (names_in x) lv i) i (code_in x e) (laid (names_in x) e Anywhere) (code_place (names_in x) x.place x.top lv i) g).inner
      → Result x g (updated_laid (names_in x) Anywhere (is_narrow ty) false h i (place_laid (names_in x) lv i) (laid (names_in x) e Anywhere (begun_behind h i (λ y. writes (names_in x) y e) (place_laid (names_in x) lv i)))).value i
      (λ y. is_that y h || within_written x lv y || writes (names_in x) y e)
      (updated (names_in x) h (change.Integer o ty t) (λ y. writes (names_in x) y e) (place_laid (names_in x) lv i) i (code_in x e) (laid (names_in x) e Anywhere) (code_place (names_in x) x.place x.top lv i) g).ops
      (updated (names_in x) h (change.Integer o ty t) (λ y. writes (names_in x) y e) (place_laid (names_in x) lv i) i (code_in x e) (laid (names_in x) e Anywhere) (code_place (names_in x) x.place x.top lv i) g).end l w
      (evaluate calls (depth_in x) (Update o ty t lv e) s)) (sym in_memory)
      (λ st'. memory_updated x calls low sc lv of typed_lv lays_lv below_lv fresh_lv grows_lv does_lv (change.Integer o ty t) (Integer ty) (IsRightValue o t) (λ memory a b. updated_value o ty t a b) (integer_changes x o ty t promoted (computes o t promoted) (remains o t promoted))
      element_is type_is e typed_e low_e spares_e does_e right i g s l w size (aims_place x g (Update o ty t lv e) lv i (λ j h. h) aims) st' sound f) st

  pub update_pointer_there_does : (d : Direction) (element : ObjectType) → AreSmall x.program → loaded_type sc ≡ Pointer element → Word ≡ rule.element_of sc → (e : RvalueTree) → Typed x calls e → Low x e → Spares x e → Does x calls e
      → ((memory : SourceMemory) (u : source-value.Value) → HasKind memory (kind_of x.program x.tree e) u → IsNumber u) → Does x calls (UpdatePointer d element lv e)
  update_pointer_there_does d element small type_is element_is e typed_e low_e spares_e does_e number i g s l w size st sound f aims =
      subst (λ h. Stands x.graph x.top (updated (names_in x) h (change.Pointer d (object_size element)) (λ y. writes (names_in x) y e) (place_laid (names_in x) lv i) i (code_in x e) (laid (names_in x) e Anywhere) (code_place (names_in x) x.place x.top lv i) g).inner
      → Result x g (updated_laid (names_in x) Anywhere false (is_scaled (object_size element) (laid (names_in x) e Anywhere (begun_behind h i (λ y. writes (names_in x) y e) (place_laid (names_in x) lv i))).value) h i (place_laid (names_in x) lv i)
      (laid (names_in x) e Anywhere (begun_behind h i (λ y. writes (names_in x) y e) (place_laid (names_in x) lv i)))).value i
      (λ y. is_that y h || within_written x lv y || writes (names_in x) y e)
      (updated (names_in x) h (change.Pointer d (object_size element)) (λ y. writes (names_in x) y e) (place_laid (names_in x) lv i) i (code_in x e) (laid (names_in x) e Anywhere) (code_place (names_in x) x.place x.top lv i) g).ops
      (updated (names_in x) h (change.Pointer d (object_size element)) (λ y. writes (names_in x) y e) (place_laid (names_in x) lv i) i (code_in x e) (laid (names_in x) e Anywhere) (code_place (names_in x) x.place x.top lv i) g).end l w
      (evaluate calls (depth_in x) (UpdatePointer d element lv e) s)) (sym in_memory)
      (λ st'. memory_updated x calls low sc lv of typed_lv lays_lv below_lv fresh_lv grows_lv does_lv (change.Pointer d (object_size element)) (Pointer element) IsNumber (λ memory a b. moved_by_elements memory d element a b) (pointer_changes x d element small)
      element_is type_is e typed_e low_e spares_e does_e number i g s l w size (aims_place x g (UpdatePointer d element lv e) lv i (λ j h. h) aims) st' sound f) st

  pub step_there_does : (d : Direction) (which : Given) (ty t : IntegerType) → is_promoted t ≡ true → loaded_type sc ≡ Integer ty → integer_element ty ≡ rule.element_of sc → Does x calls (Step d which ty t lv)
  step_there_does d which ty t promoted type_is element_is i g s l w size st sound f aims =
      subst (λ h. Stands x.graph x.top (stepped (names_in x) h (change.Integer (steps_by d) ty t) which (place_laid (names_in x) lv i) i (code_place (names_in x) x.place x.top lv i) g).inner
      → Result x g (step_laid (names_in x) which Anywhere (is_narrow ty) h i (place_laid (names_in x) lv i)).value i (λ y. is_that y h || within_written x lv y)
      (stepped (names_in x) h (change.Integer (steps_by d) ty t) which (place_laid (names_in x) lv i) i (code_place (names_in x) x.place x.top lv i) g).ops
      (stepped (names_in x) h (change.Integer (steps_by d) ty t) which (place_laid (names_in x) lv i) i (code_place (names_in x) x.place x.top lv i) g).end l w (evaluate calls (depth_in x) (Step d which ty t lv) s)) (sym in_memory)
      (λ st'. memory_steps x calls low sc lv in_memory of typed_lv lays_lv below_lv fresh_lv grows_lv does_lv (change.Integer (steps_by d) ty t) (Integer ty) (IsRightValue (steps_by d) t) (λ memory a b. updated_value (operator_of d) ty t a b) (step_changes x d ty t promoted)
      element_is type_is which (one_right d t promoted) (is_narrow ty) refl i g s l w size (aims_place x g (Step d which ty t lv) lv i (λ j h. h) aims) st' sound f) st

  pub step_pointer_there_does : (d : Direction) (which : Given) (element : ObjectType) → AreSmall x.program → loaded_type sc ≡ Pointer element → Word ≡ rule.element_of sc → Does x calls (StepPointer d which element lv)
  step_pointer_there_does d which element small type_is element_is i g s l w size st sound f aims =
      subst (λ h. Stands x.graph x.top (stepped (names_in x) h (change.Pointer d (object_size element)) which (place_laid (names_in x) lv i) i (code_place (names_in x) x.place x.top lv i) g).inner
      → Result x g (step_laid (names_in x) which Anywhere false h i (place_laid (names_in x) lv i)).value i (λ y. is_that y h || within_written x lv y)
      (stepped (names_in x) h (change.Pointer d (object_size element)) which (place_laid (names_in x) lv i) i (code_place (names_in x) x.place x.top lv i) g).ops
      (stepped (names_in x) h (change.Pointer d (object_size element)) which (place_laid (names_in x) lv i) i (code_place (names_in x) x.place x.top lv i) g).end l w (evaluate calls (depth_in x) (StepPointer d which element lv) s)) (sym in_memory)
      (λ st'. memory_steps x calls low sc lv in_memory of typed_lv lays_lv below_lv fresh_lv grows_lv does_lv (change.Pointer d (object_size element)) (Pointer element) IsNumber (λ memory a b. moved_by_elements memory d element a b) (pointer_changes x d element small)
      element_is type_is which tt false refl i g s l w size (aims_place x g (StepPointer d which element lv) lv i (λ j h. h) aims) st' sound f) st
