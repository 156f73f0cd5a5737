-- Updates and steps, of scalars and of what is in memory, as nodes of expressions.
use Rattle.std.proofs.Common.{◌≡◌, ℕ, List, ◌+◌, ◌≤◌, Option, Some, None, Bool, false, ◌||◌, slice_get, refl, sym, ap, ◌∙◌, subst}
use Rattle.std.specs.Prelude.{◌==◌}
use Rattle.c_tree.specs.declared.object_type.Scalar.{Scalar}
use Rattle.c_tree.specs.declared.object_type.ObjectType.{ObjectType}
use Rattle.c_tree.specs.declared.object_type.ObjectType.TheVariants as of-object
use Rattle.c_tree.specs.declared.object_type.ValueType.{ValueType}
use Rattle.c_tree.specs.declared.object_type.Object.TheVariants as object
use Rattle.c_tree.specs.declared.typed_expression.Given.{Given}
use Rattle.c_tree.specs.declared.typed_expression.Given.TheVariants.{New, Old}
use Rattle.c_tree.specs.TypedExpressions.{RvalueTree, LvalueTree, Named}
use Rattle.c_tree.specs.Programs.{AutomaticTree}
use Rattle.c_type_rules.specs.Types.{loaded_type}
use Rattle.c_type_rules.specs.ValueTypes.{object_type}
use Rattle.c_type_laws.specs.Expressions.{kind_of}
use Rattle.c_meaning_values.specs.declared.value.Value as source-value
use Rattle.c_meaning_values.specs.Types.{element_scalar}
use Rattle.c_meaning_values.specs.Memory.{Memory as SourceMemory}
use Rattle.c_meaning_steps.specs.States.{State, Evaluated, with, on_both}
use Rattle.c_meaning.specs.Expressions.{Calls, evaluate, designate}
use Rattle.c_meaning_steps.specs.Steps.{left_side_read, store_if, replace_if, one}
use Rattle.graph_core.specs.Graphs.{Operand, Name, Constant, Instruction, End}
use Rattle.graph_build_layout.specs.declared.laid.Use.TheVariants.{Anywhere}
use Rattle.graph_build_names.specs.Names.{scalar_of, scalar_named, pick}
use Rattle.graph_build_layout.specs.Laid.{Laid, behind_move, begun_behind, updated_laid, step_laid}
use Rattle.graph_build_layout.specs.Layout.{laid, place_laid}
use Rattle.graph_build_names.specs.Writes.{writes, is_that}
use Rattle.graph_build_steps.specs.Rules as rule
use Rattle.graph_build_steps.specs.Drafts.{Made, Goal, To, Unused, Either}
use Rattle.graph_build_steps.specs.declared.change.Change as declared-change
use Rattle.graph_build_code.specs.Code.{code_place}
use Rattle.graph_build_steps.specs.Steps.{changed_element, takes_more, updated, stepped}
use Rattle.graph_build_runs.specs.Typed.{IsOf}
use Rattle.graph_build_runs.specs.Stops.{IsDeclared}
use Rattle.graph_build_runs.proofs.Leads.{Setting, names_in, size_in, depth_in, Local, World, stays}
use Rattle.graph_build_runs.proofs.Later.{others_refl}
use Rattle.graph_build_runs.proofs.Kept.{Sound, Fits, ScalarsFirst}
use Rattle.graph_build_runs.proofs.Results.{Result, result_after}
use Rattle.graph_build_runs.proofs.Noting.{ScalarsApart}
use Rattle.graph_build_runs.proofs.Typing.{HasKind, Typed}
use Rattle.graph_build_runs.proofs.Standing.{Stands}
use Rattle.graph_build_runs.proofs.Operands.{IsFreeOf, Apart, Aims, Does, code_in, Low, Spares, or_false}
use Rattle.graph_build_runs.proofs.Meant.{TypedPlace}
use Rattle.graph_build_runs.proofs.Places.{within_written, DoesPlace}
use Rattle.graph_build_runs.proofs.Loading.{PlaceLays}
use Rattle.graph_build_runs.proofs.Assigning.{PlaceBelow, PlaceFresh, GrowsPlace, AimsPlace}
use Rattle.graph_build_runs.proofs.Renewing.{Changes}
use Rattle.graph_build_runs.proofs.Anew.{ScalarObject}
use Rattle.graph_build_runs.proofs.ScalarSteps.{Older, stepped_new, stepped_old, updated_scalar}
use Rattle.graph_build_runs.proofs.MemorySteps.{memory_stepped_new, memory_stepped_old}

-- the value of a scalar's object is of the type that its variable says
pub scalar_target : (x : Setting) (v : ℕ) (of : ObjectType) (sc : Scalar) (target : ValueType) → ((a : AutomaticTree) → slice_get x.program.automatics v ≡ Some a → a.of ≡ of) → of ≡ of-object.Scalar sc → loaded_type sc ≡ target
    → (s : State) (n : ℕ) (o : ScalarObject x v s.memory n) (u : source-value.Value) → Sound x.program x.begun s → IsOf s.memory (loaded_type o.object.element) u → IsOf s.memory target u
scalar_target x v of sc target fits one type_is s n o u sound is =
    let a = subst (λ q. IsDeclared x.program q o.object) o.owner (sound.declared n o.object o.is) in
    let element : o.object.element ≡ sc = a.2 ∙ ap element_scalar (fits a.0 a.1) ∙ ap element_scalar one in
    subst (λ q. IsOf s.memory q u) (ap loaded_type element ∙ type_is) is

pub older_by : (x : Setting) (g : Goal) (e : RvalueTree) (t : ℕ) → Aims x g e t → Older g t
older_by x (To None m) e t aims = tt
older_by x (To (Some k) m) e t aims = aims.0
older_by x (Unused m) e t aims = tt
older_by x (Either first_way other inner) e t aims = tt

pub aims_place : (x : Setting) (g : Goal) (e : RvalueTree) (lv : LvalueTree) (t : ℕ) → ((k : ℕ) → Apart x k e → IsFreeOf x k lv) → Aims x g e t → AimsPlace x g lv t
aims_place x (To None m) e lv t free aims = tt
aims_place x (To (Some k) m) e lv t free aims = (aims.0, λ lt. free k (aims.1 lt))
aims_place x (Unused m) e lv t free aims = tt
aims_place x (Either first_way other inner) e lv t free aims = tt

-- Updates and steps of the scalar of a variable.
module _ (x : Setting) (calls : Calls) (low : ScalarsFirst x) (apart : ScalarsApart x) (v k : ℕ) (named_by : scalar_of (names_in x) v ≡ Some k) (of : ObjectType) (c : declared-change.Change) (target : ValueType) (HasBy : source-value.Value → Type 0)
    (next : SourceMemory → source-value.Value → source-value.Value → Option source-value.Value) (changes : Changes x c target HasBy next)
    (holds_target : (s : State) (n : ℕ) (o : ScalarObject x v s.memory n) (u : source-value.Value) → Sound x.program x.begun s → IsOf s.memory (loaded_type o.object.element) u → IsOf s.memory target u) where
  abbrev variable_of_it : LvalueTree
  variable_of_it = Named (object.Automatic v) of

  abbrev updated_by : RvalueTree → ℕ → Goal → Option ℕ → Made
  updated_by e t g o = updated (names_in x) o c (λ y. writes (names_in x) y e) (place_laid (names_in x) variable_of_it t) t (code_in x e) (laid (names_in x) e Anywhere) (code_place (names_in x) x.place x.top variable_of_it t) g

  pub scalar_updates : (narrow : Bool) (scaled : Laid → Bool) (e : RvalueTree) → Typed x calls e → Low x e → Spares x e → Does x calls e → ((memory : SourceMemory) (u : source-value.Value) → HasKind memory (kind_of x.program x.tree e) u → HasBy u)
      → (t : ℕ) (g : Goal) (s : State) (l : Local) (w : World) → size_in x ≤ t → (o : Option ℕ) → o ≡ Some k → Stands x.graph x.top (updated_by e t g o).inner → Sound x.program x.begun s → Fits x None s l w
      → Result x g (updated_laid (names_in x) Anywhere narrow (scaled (laid (names_in x) e Anywhere (begun_behind o t (λ y. writes (names_in x) y e) (place_laid (names_in x) variable_of_it t)))) o t (place_laid (names_in x) variable_of_it t)
      (laid (names_in x) e Anywhere (begun_behind o t (λ y. writes (names_in x) y e) (place_laid (names_in x) variable_of_it t)))).value t (λ y. is_that y o || false || writes (names_in x) y e) (updated_by e t g o).ops (updated_by e t g o).end l w
      (on_both (left_side_read (designate calls (depth_in x) variable_of_it s)) (λ p old u. with (evaluate calls (depth_in x) e u) (λ b z. store_if (next z.memory old b) p z)))
  scalar_updates narrow scaled e typed_e low_e spares_e does_e by_is t g s l w size o is st sound f =
      subst (λ o. Stands x.graph x.top (updated_by e t g o).inner
      → Result x g (updated_laid (names_in x) Anywhere narrow (scaled (laid (names_in x) e Anywhere (begun_behind o t (λ y. writes (names_in x) y e) (place_laid (names_in x) variable_of_it t)))) o t (place_laid (names_in x) variable_of_it t)
      (laid (names_in x) e Anywhere (begun_behind o t (λ y. writes (names_in x) y e) (place_laid (names_in x) variable_of_it t)))).value t (λ y. is_that y o || false || writes (names_in x) y e) (updated_by e t g o).ops (updated_by e t g o).end l w
      (on_both (left_side_read (designate calls (depth_in x) variable_of_it s)) (λ p old u. with (evaluate calls (depth_in x) e u) (λ b z. store_if (next z.memory old b) p z)))) (sym is)
      (λ st'. updated_scalar x calls low apart v k named_by of c target HasBy next changes holds_target e typed_e low_e spares_e does_e by_is t g s l w size st' sound f) st

  abbrev stepped_by : Given → ℕ → Goal → Option ℕ → Made
  stepped_by which t g o = stepped (names_in x) o c which (place_laid (names_in x) variable_of_it t) t (code_place (names_in x) x.place x.top variable_of_it t) g

  by_given : (narrow : Bool) (which : Given) → HasBy one → (t : ℕ) (g : Goal) (s : State) (l : Local) (w : World) → size_in x ≤ t → Older g t → Sound x.program x.begun s → Fits x None s l w
      → Result x g (step_laid (names_in x) which Anywhere narrow (Some k) t (place_laid (names_in x) variable_of_it t)).value t (λ y. k == y) (stepped_by which t g (Some k)).ops (stepped_by which t g (Some k)).end l w
      (on_both (left_side_read (designate calls (depth_in x) variable_of_it s)) (λ p old u. replace_if (next u.memory old one) which p old u))
  by_given narrow New has t g s l w size older sound f = stepped_new x calls low apart v k named_by of c target HasBy next changes holds_target t g s l w size sound f has
  by_given narrow Old has t g s l w size older sound f = stepped_old x calls low apart v k named_by of c target HasBy next changes holds_target t g s l w size older sound f has

  -- less is said of names that are kept
  spares_more : (g : Goal) (a : Operand) (t : ℕ) (f f2 : ℕ → Bool) (ops : List Instruction) (end : End) (l : Local) (w : World) (r : Evaluated) → ((y : ℕ) → f y ≡ false → f2 y ≡ false) → Result x g a t f2 ops end l w r → Result x g a t f ops end l w r
  spares_more g a t f f2 ops end l w r spares h = result_after x t t f f2 ops ops end end l l w w stays (λ y lt nf. (lt, spares y nf, refl)) (others_refl w.memory) g a r h

  pub scalar_steps : (narrow : Bool) (which : Given) → HasBy one → (t : ℕ) (g : Goal) (s : State) (l : Local) (w : World) → size_in x ≤ t → Older g t → (o : Option ℕ) → o ≡ Some k → Sound x.program x.begun s → Fits x None s l w
      → Result x g (step_laid (names_in x) which Anywhere narrow o t (place_laid (names_in x) variable_of_it t)).value t (λ y. is_that y o || false) (stepped_by which t g o).ops (stepped_by which t g o).end l w
      (on_both (left_side_read (designate calls (depth_in x) variable_of_it s)) (λ p old u. replace_if (next u.memory old one) which p old u))
  scalar_steps narrow which has t g s l w size older o is sound f =
      subst (λ o. Result x g (step_laid (names_in x) which Anywhere narrow o t (place_laid (names_in x) variable_of_it t)).value t (λ y. is_that y o || false) (stepped_by which t g o).ops (stepped_by which t g o).end l w
      (on_both (left_side_read (designate calls (depth_in x) variable_of_it s)) (λ p old u. replace_if (next u.memory old one) which p old u))) (sym is)
      (spares_more g (step_laid (names_in x) which Anywhere narrow (Some k) t (place_laid (names_in x) variable_of_it t)).value t (λ y. k == y || false) (λ y. k == y) (stepped_by which t g (Some k)).ops (stepped_by which t g (Some k)).end l w
      (on_both (left_side_read (designate calls (depth_in x) variable_of_it s)) (λ p old u. replace_if (next u.memory old one) which p old u)) (λ y nf. (or_false (k == y) false nf).0)
      (by_given narrow which has t g s l w size older sound f))

-- Updates and steps of what is in memory.
module _ (x : Setting) (calls : Calls) (low : ScalarsFirst x) (sc : Scalar) (lv : LvalueTree) (in_memory : scalar_named (names_in x) lv ≡ None) (of : object_type lv ≡ of-object.Scalar sc) (typed_lv : TypedPlace x calls lv) (lays_lv : PlaceLays x lv) (below_lv : PlaceBelow x lv) (fresh_lv : PlaceFresh x lv)
    (grows_lv : GrowsPlace x lv) (does_lv : DoesPlace x calls lv) (c : declared-change.Change) (target : ValueType) (HasBy : source-value.Value → Type 0) (next : SourceMemory → source-value.Value → source-value.Value → Option source-value.Value) (changes : Changes x c target HasBy next)
    (element_is : changed_element c ≡ rule.element_of sc) (type_is : loaded_type sc ≡ target) where
  abbrev stepped_at : Given → ℕ → Goal → Option ℕ → Made
  stepped_at which t g o = stepped (names_in x) o c which (place_laid (names_in x) lv t) t (code_place (names_in x) x.place x.top lv t) g

  pub memory_steps : (which : Given) → HasBy one → (narrow : Bool) → takes_more c (Constant 1) ≡ narrow → (t : ℕ) (g : Goal) (s : State) (l : Local) (w : World) → size_in x ≤ t → AimsPlace x g lv t → Stands x.graph x.top (stepped_at which t g None).inner → Sound x.program x.begun s → Fits x None s l w
      → Result x g (step_laid (names_in x) which Anywhere narrow None t (place_laid (names_in x) lv t)).value t (within_written x lv) (stepped_at which t g None).ops (stepped_at which t g None).end l w
      (on_both (left_side_read (designate calls (depth_in x) lv s)) (λ p old u. replace_if (next u.memory old one) which p old u))
  memory_steps New has narrow more t g s l w size aims st sound f =
      subst (λ b. Result x g (Name (pick (names_in x) (place_laid (names_in x) lv t).next (behind_move b ((place_laid (names_in x) lv t).next + 1)))) t (within_written x lv) (stepped_at New t g None).ops (stepped_at New t g None).end l w
      (on_both (left_side_read (designate calls (depth_in x) lv s)) (λ p old u. replace_if (next u.memory old one) New p old u))) more
      (memory_stepped_new x calls low sc lv of typed_lv lays_lv below_lv fresh_lv grows_lv does_lv c target HasBy next changes element_is type_is t g s l w size aims has st sound f)
  memory_steps Old has narrow more t g s l w size aims st sound f =
      memory_stepped_old x calls low sc lv of typed_lv lays_lv below_lv fresh_lv grows_lv does_lv c target HasBy next changes element_is type_is t g s l w size aims has st sound f
