-- Reads of memory, and addresses of objects.
use Rattle.std.proofs.Common.{◌≡◌, ◌≢◌, ℕ, zero, suc, ◌+◌, ◌*◌, ◌/◌, ◌<◌, ◌≤◌, List, [], ◌∷◌, length, Option, Some, None, Bool, true, false, ◌||◌, slice_get, refl, sym, ap, ◌∙◌, subst, arith}
use Rattle.std.specs.Prelude.{◌==◌, if◌then◌else◌, option_map, option_and_then}
use Rattle.std.specs.Option.{option_map_or}
use Rattle.c_tree.specs.declared.object_type.Scalar.{Scalar}
use Rattle.c_tree.specs.declared.object_type.ObjectType.{ObjectType}
use Rattle.c_tree.specs.declared.object_type.ObjectType.TheVariants as of-object
use Rattle.c_tree.specs.declared.object_type.ValueType.TheVariants.{Pointer as PointerType}
use Rattle.c_tree.specs.TypedExpressions.{RvalueTree, LvalueTree, Load}
use Rattle.c_type_rules.specs.Types.{loaded_type}
use Rattle.c_type_rules.specs.ValueTypes.{object_type}
use Rattle.c_type_laws.specs.Kind.{Of}
use Rattle.c_meaning_values.specs.declared.value.Value as source-value
use Rattle.c_meaning_values.specs.declared.value.Value.TheVariants as source
use Rattle.c_meaning_steps.specs.declared.event.Ending.TheVariants as ending
use Rattle.c_meaning_values.specs.Memory.{Object as SourceObject, is_usable, is_begun, index_at, value_in as value_at}
use Rattle.c_meaning_steps.specs.States.{State, Evaluated, Gives, Leaves, Ends, value_or_undefined, with, usable}
use Rattle.c_meaning.specs.Expressions.{Calls, evaluate, designate}
use Rattle.c_meaning_steps.specs.Steps.{load}
use Rattle.graph_core.specs.declared.value.Value.{Value}
use Rattle.graph_core.specs.Graphs as unit
use Rattle.graph_core.specs.Graphs.{Operand, Name, Location, At, Automatic, Static, Instruction, End}
use Rattle.graph_core.specs.Memory.{read}
use Rattle.graph_core.specs.Runs.{Goes, step, value, pointed, wrote_some}
use Rattle.graph_build_layout.specs.declared.laid.Use.TheVariants.{Anywhere}
use Rattle.graph_build_names.specs.Names.{scalar_named, pick}
use Rattle.graph_build_layout.specs.Laid.{loaded_laid}
use Rattle.graph_build_layout.specs.Layout.{laid, place_laid}
use Rattle.graph_build_steps.specs.Rules as rule
use Rattle.graph_build_steps.specs.Drafts.{Made, Goal, leaf, operated}
use Rattle.graph_build_code.specs.Code.{code_place}
use Rattle.graph_build_runs.specs.Typed.{PointsInto, IsPointerTo, IsOf}
use Rattle.graph_build_runs.specs.Correspondence.{SameValue}
use Rattle.graph_build_runs.proofs.Leads.{Setting, names_in, size_in, depth_in, Local, World, here_at, set_name, at}
use Rattle.graph_build_runs.proofs.Kept.{Sound, Fits, ScalarsFirst}
use Rattle.graph_build_runs.proofs.Results.{Result, stuck_now, ended_result, result_after}
use Rattle.graph_build_runs.proofs.Tests.{HasWord}
use Rattle.graph_build_runs.proofs.Leaves.{Writes, operated_done}
use Rattle.graph_build_runs.proofs.Typing.{Gave, Keeps, of_word}
use Rattle.graph_build_runs.proofs.Standing.{Stands}
use Rattle.graph_build_runs.proofs.Objects.{begun_live}
use Rattle.graph_build_runs.proofs.Operands.{Does}
use Rattle.graph_build_runs.proofs.Arithmetic.{pick_between}
use Rattle.graph_build_runs.proofs.Meanings.{all_at}
use Rattle.graph_build_runs.proofs.Meant.{TypedPlace}
use Rattle.graph_build_runs.proofs.Access.{read_same}
use Rattle.graph_build_runs.proofs.Places.{place_in, placing, within_written, pointed_in, Located, PlaceR, DoesPlace}

-- a location points by the names and the objects of its activation alone
pub pointed_same : (x : Setting) (ops : List Instruction) (end : End) (l : Local) (w : World) (loc : Location) → pointed x.unit.statics w.memory (here_at x ops end l) loc ≡ pointed_in x l w loc
pointed_same x ops end l w (Automatic o k) = refl
pointed_same x ops end l w (Static o) = refl
pointed_same x ops end l w (At a) = refl

-- A place was found, and what follows works with it.
pub place_then : (x : Setting) (g : Goal) (m : Made) (lv : LvalueTree) (a : Operand) (t : ℕ) (ops : List Instruction) (end : End) (l : Local) (w : World) (r : Evaluated) (next : source-value.Value → State → Evaluated) → PlaceR x m lv t ops end l w r
    → ((v : source-value.Value) (s : State) → r ≡ Gives v s → (h : Located x m lv t ops end l w v s) → Result x g a t (λ y. false) m.ops m.end h.reached.local h.reached.world (next v s))
    → Result x g a t (within_written x lv) ops end l w (with r next)
place_then x g m lv a t ops end l w (Gives v s) next h go_on =
    result_after x t t (within_written x lv) (λ y. false) ops m.ops end m.end l h.reached.local w h.reached.world h.reached.leads (λ y lt nf. (lt, refl, h.reached.kept y lt refl nf)) h.reached.later g a (next v s) (go_on v s refl h)
place_then x g m lv a t ops end l w (Leaves s) next h go_on = ended_result x g a t (within_written x lv) ops end l w ending.Undefined s h
place_then x g m lv a t ops end l w (Ends e s) next h go_on = ended_result x g a t (within_written x lv) ops end l w e s h

-- the names of a place begin where it does
abbrev pub PlaceLays : Setting → LvalueTree → Type 0
PlaceLays x lv = (t : ℕ) → size_in x ≤ t → t ≤ (place_laid (names_in x) lv t).next

-- What stands in memory is loaded.
module _ (x : Setting) (calls : Calls) (low : ScalarsFirst x) (sc : Scalar) (lv : LvalueTree) (in_memory : scalar_named (names_in x) lv ≡ None) (of : object_type lv ≡ of-object.Scalar sc) (typed : TypedPlace x calls lv) (lays : PlaceLays x lv) (does : DoesPlace x calls lv) where
  abbrev next_of : ℕ → ℕ
  next_of t = (place_laid (names_in x) lv t).next

  abbrev own_of : ℕ → ℕ
  own_of t = pick (names_in x) t (next_of t)

  abbrev i_of : ℕ → ℕ → Instruction
  i_of t y = unit.Load y (rule.element_of sc) (place_in x lv t)

  abbrev last_of : ℕ → Goal → Made
  last_of t g = operated (names_in x) g t (next_of t) (i_of t)

  module _ (t : ℕ) (g : Goal) (s : State) (l : Local) (w : World) (size : size_in x ≤ t) (sound : Sound x.program x.begun s) (fits : Fits x None s l w) where
    stuck : Result x g (Name (own_of t)) t (λ y. false) (last_of t g).ops (last_of t g).end l w (Ends ending.Undefined s)
    stuck = ended_result x g (Name (own_of t)) t (λ y. false) (last_of t g).ops (last_of t g).end l w ending.Undefined s (stuck_now x None (last_of t g).ops (last_of t g).end s l w fits)

    loads : (n offset : ℕ) (c : PointsInto s.memory (of-object.Scalar sc) n offset) → SameValue x.program s.memory w.memory (source.Pointer n offset) (pointed_in x l w (place_in x lv t)) → is_begun c.object.phase ≡ true → (v : source-value.Value)
        → slice_get c.object.values (index_at c.object offset) ≡ Some v → (b : Bool) → Result x g (Name (own_of t)) t (λ y. false) (last_of t g).ops (last_of t g).end l w (if b then Gives v s else Ends ending.Undefined s)
    loads n offset c same begun v found false = stuck
    loads n offset c same begun v found true =
        let got = read_same x None s l w sc n offset (pointed_in x l w (place_in x lv t)) v sound fits c (begun_live c.object.phase begun) found same in
        let le = pick_between (names_in x) t (next_of t) t (omega arith) (lays t size) in
        let typed_v : IsOf s.memory (loaded_type sc) v = subst (λ e. IsOf s.memory (loaded_type e) v) c.element_is (all_at s.memory (loaded_type c.object.element) c.object.values (index_at c.object offset) v (sound.typed n c.object c.is) found) in
        operated_done x g (own_of t) t (λ y. false) (i_of t) v got.0 s l w low le (omega (arith, le, size)) fits
        (λ k ops end. ap (λ q. wrote_some (at x ops end l w) k (read w.memory (rule.element_of sc) q)) (pointed_same x ops end l w (place_in x lv t)) ∙ ap (wrote_some (at x ops end l w) k) got.1)
        got.2 (of_word s.memory (loaded_type sc) v typed_v)

    found_in : (n offset : ℕ) (c : PointsInto s.memory (of-object.Scalar sc) n offset) → SameValue x.program s.memory w.memory (source.Pointer n offset) (pointed_in x l w (place_in x lv t)) → (b : Bool) → is_begun c.object.phase ≡ b
        → Result x g (Name (own_of t)) t (λ y. false) (last_of t g).ops (last_of t g).end l w (with (value_or_undefined (if b then slice_get c.object.values (index_at c.object offset) else None) s) usable)
    found_in n offset c same false e = stuck
    found_in n offset c same true e = by_value (slice_get c.object.values (index_at c.object offset)) refl
      where
        by_value : (r : Option source-value.Value) → slice_get c.object.values (index_at c.object offset) ≡ r → Result x g (Name (own_of t)) t (λ y. false) (last_of t g).ops (last_of t g).end l w (with (value_or_undefined r s) usable)
        by_value None h = stuck
        by_value (Some v) h = loads n offset c same e v h (is_usable s.memory v)

    load_done : (v : source-value.Value) → IsPointerTo s.memory (of-object.Scalar sc) v → SameValue x.program s.memory w.memory v (pointed_in x l w (place_in x lv t))
        → Result x g (Name (own_of t)) t (λ y. false) (last_of t g).ops (last_of t g).end l w (load v s)
    load_done (source.Number z) is same = absurd is
    load_done source.Null is same = stuck
    load_done (source.Pointer n offset) c same =
        subst (λ q. Result x g (Name (own_of t)) t (λ y. false) (last_of t g).ops (last_of t g).end l w (with (value_or_undefined (option_and_then (λ o. value_at o offset) q) s) usable)) (sym c.is)
        (found_in n offset c same (is_begun c.object.phase) refl)

  abbrev by_home : ℕ → Goal → Option ℕ → Made
  by_home t g o = elim (o) [
    | Some j ↦ leaf g (Name j)
    | None ↦ let q = place_laid (names_in x) lv t in code_place (names_in x) x.place x.top lv t (operated (names_in x) g t q.next (λ y. unit.Load y (rule.element_of sc) q.location))
  ]

  pub load_does : Does x calls (Load sc lv)
  load_does t g s l w size st sound fits aims =
      subst (λ o. Stands x.graph x.top (by_home t g o).inner
      → Result x g (loaded_laid (names_in x) Anywhere o t (place_laid (names_in x) lv t)).value t (within_written x lv) (by_home t g o).ops (by_home t g o).end l w (evaluate calls (depth_in x) (Load sc lv) s)) (sym in_memory)
      (λ st'. place_then x g (last_of t g) lv (Name (own_of t)) t (placing x lv t (last_of t g)).ops (placing x lv t (last_of t g)).end l w (designate calls (depth_in x) lv s) load (does t (last_of t g) s l w size st' sound fits)
      (λ v s1 e h. (let gave = subst (Keeps x.program x.begun s.memory (Of (PointerType (object_type lv)))) e (typed s sound) in
      load_done t g s1 h.reached.local h.reached.world size gave.sound h.reached.fits v (subst (λ q. IsPointerTo s1.memory q v) of gave.is) h.same))) st
