-- Where lvalues stand in memory.
use Rattle.std.proofs.Common.{◌≡◌, ◌≢◌, ℕ, zero, suc, ◌+◌, ◌*◌, ◌/◌, ◌<◌, ◌≤◌, List, [], ◌∷◌, length, Option, Some, None, Bool, true, false, ◌||◌, slice_get, refl, sym, ap, ◌∙◌, subst, arith}
use Rattle.std.specs.Prelude.{◌==◌, if◌then◌else◌, nat_le, option_map, option_and_then}
use Rattle.std.specs.Option.{option_map_or}
use Rattle.std.proofs.lemmas.Bool.Decides.{nat_tests}
use Rattle.word_base.specs.Owners.{Owner, Static, Literal, Variable}
use Rattle.c_tree.specs.declared.object_type.ObjectType.{ObjectType}
use Rattle.c_tree.specs.declared.object_type.Object.TheVariants as object
use Rattle.c_tree.specs.TypedExpressions.{RvalueTree, LvalueTree, Named, Target}
use Rattle.c_tree.specs.Programs.{AutomaticTree, ProgramTree}
use Rattle.c_type_laws.specs.Expressions.{kind_of}
use Rattle.c_meaning_values.specs.declared.value.Value as source-value
use Rattle.c_meaning_values.specs.declared.value.Value.TheVariants as source
use Rattle.c_meaning_values.specs.declared.value.Phase.TheVariants.{Ended}
use Rattle.c_meaning_steps.specs.declared.event.Ending.TheVariants as ending
use Rattle.c_meaning_values.specs.Memory.{Object as SourceObject, object_of as owned_number, is_usable}
use Rattle.c_meaning_steps.specs.States.{State, Evaluated, Gives, Leaves, Ends, value_or_undefined, with, usable}
use Rattle.c_meaning.specs.Expressions.{Calls, evaluate, designate}
use Rattle.graph_core.specs.declared.value.Value.{Value}
use Rattle.graph_core.specs.declared.value.Value.TheVariants.{Pointer, Odd}
use Rattle.graph_core.specs.declared.value.Owner.TheVariants.{Static as UnitStatic, Automatic}
use Rattle.graph_core.specs.Graphs as unit
use Rattle.graph_core.specs.Graphs.{Operand, Location, At, Instruction, End, StaticObject}
use Rattle.graph_core.specs.Memory.{Object, Memory, bytes_of, static_bytes}
use Rattle.graph_core.specs.Values.{pointer_at, size_of}
use Rattle.graph_core.specs.Runs.{value, pointed, static_address}
use Rattle.graph_build_layout.specs.declared.laid.Use.TheVariants.{Anywhere}
use Rattle.graph_build_names.specs.Names.{object_of, object_location}
use Rattle.graph_build_layout.specs.Layout.{laid, place_laid}
use Rattle.graph_build_names.specs.Writes.{writes, writes_within}
use Rattle.graph_build_steps.specs.Drafts.{Made, Goal, To}
use Rattle.graph_build_code.specs.Code.{code_place}
use Rattle.graph_build_runs.specs.Correspondence.{variable_of, owner_of, IsInMemory, SameObject, SamePointer, points, SameValue}
use Rattle.graph_build_runs.specs.Stops.{IsDeclared}
use Rattle.graph_build_runs.proofs.Leads.{Setting, names_in, size_in, depth_in, Local, World, here_at, at, stays}
use Rattle.graph_build_runs.proofs.Later.{some_same, others_refl}
use Rattle.graph_build_runs.proofs.Kept.{Sound, ObjectIs, StaticIs, Placed, Fits}
use Rattle.graph_build_runs.proofs.Results.{Reached, to_made, Stuck, Valued, ToR, stuck_now}
use Rattle.graph_build_runs.proofs.Leaves.{left_stuck}
use Rattle.graph_build_runs.proofs.Typing.{Typed}
use Rattle.graph_build_runs.proofs.Standing.{Stands}
use Rattle.graph_build_runs.proofs.Objects.{Owned, owned_at}
use Rattle.graph_build_runs.proofs.Operands.{Does, code_in, value_in, written_by}
use Rattle.graph_build_runs.proofs.Homes.{object_inside}

abbrev pub place_in : Setting → LvalueTree → ℕ → Location
place_in x l t = (place_laid (names_in x) l t).location

abbrev pub placing : Setting → LvalueTree → ℕ → Made → Made
placing x l t m = code_place (names_in x) x.place x.top l t m

abbrev pub within_written : Setting → LvalueTree → ℕ → Bool
within_written x l y = writes_within (names_in x) y l

-- where a location points, in an activation
abbrev pub pointed_in : Setting → Local → World → Location → Value
pointed_in x l w at = pointed x.unit.statics w.memory (here_at x [] (unit.Return None) l) at

-- The run has come to what follows, and the location is where the source's pointer points.
pub record Located (x : Setting) (m : Made) (lv : LvalueTree) (t : ℕ) (ops : List Instruction) (end : End) (l : Local) (w : World) (v : source-value.Value) (s : State) : Type 0 where
  pub reached : Reached x None t (within_written x lv) l w (to_made x ops end l w m) s
  pub same : SameValue x.program s.memory reached.world.memory v (pointed_in x reached.local reached.world (place_in x lv t))

abbrev pub PlaceR : Setting → Made → LvalueTree → ℕ → List Instruction → End → Local → World → Evaluated → Type 0
PlaceR x m lv t ops end l w (Gives v s) = Located x m lv t ops end l w v s
PlaceR x m lv t ops end l w (Leaves s) = Stuck x ops end l w ending.Undefined s
PlaceR x m lv t ops end l w (Ends e s) = Stuck x ops end l w e s

-- The code before the place of an lvalue does what designating it means.
abbrev pub DoesPlace : Setting → Calls → LvalueTree → Type 0
DoesPlace x calls lv = (t : ℕ) (m : Made) (s : State) (l : Local) (w : World) → size_in x ≤ t → Stands x.graph x.top (placing x lv t m).inner → Sound x.program x.begun s → Fits x None s l w
    → PlaceR x m lv t (placing x lv t m).ops (placing x lv t m).end l w (designate calls (depth_in x) lv s)

-- a pointer to the beginning of an object
begins : (number bytes : ℕ) → pointer_at number bytes 0 ≡ Pointer number bytes 0
begins number bytes = let le : nat_le 0 bytes ≡ true = grind (arith, nat_tests) in ap (λ b. if b then Pointer number bytes 0 else Odd) le

-- A variable in memory.
pub variable_place : (x : Setting) (calls : Calls) (v k : ℕ) (of : ObjectType) → object_of (names_in x) v ≡ Some k → DoesPlace x calls (Named (object.Automatic v) of)
variable_place x calls v k of has t m s l w size st sound f = go (owned_number (Variable v (depth_in x)) s.memory) refl
  where
    go : (r : Option ℕ) → owned_number (Variable v (depth_in x)) s.memory ≡ r → PlaceR x m (Named (object.Automatic v) of) t m.ops m.end l w (value_or_undefined (option_map (λ n. source.Pointer n 0) r) s)
    go None e = stuck_now x None m.ops m.end s l w f
    go (Some n) e =
        let o = owned_at (Variable v (depth_in x)) s.memory n e in
        let a = subst (λ q. IsDeclared x.program q o.object) o.owner_is (sound.declared n o.object o.is) in
        let inside : IsInMemory x.program o.object.owner = subst (IsInMemory x.program) (sym o.owner_is) (a.0, a.1, object_inside x.program x.tree x.again v k a.0 has a.1) in
        let q = f.own.objects v k a.0 has a.1 in
        let c = f.placed n o.object o.is o.alive inside in
        let numbers : c.number ≡ x.first + k = f.differ c.number (x.first + k) c.object q.object c.is q.is c.same.lives q.lives (c.same.owner ∙ ap (owner_of x.program) o.owner_is ∙ sym q.owner) in
        let objects : c.object ≡ q.object = some_same (sym c.is ∙ ap (slice_get w.memory) numbers ∙ q.is) in
        let location : pointed_in x l w (object_location (object_of (names_in x) v)) ≡ Pointer (x.first + k) (bytes_of q.object) 0 =
        ap (λ i. pointed_in x l w (object_location i)) has ∙ ap (λ b. option_map_or (λ z. pointer_at (x.first + k) (bytes_of z) 0) b Odd) q.is ∙ begins (x.first + k) (bytes_of q.object) in
        record {
          reached = record { local = l; world = w; leads = stays; fits = f; kept = λ y lt nw nf. refl; later = others_refl w.memory };
          same = points o.object o.is o.alive inside (x.first + k) q.object q.is (subst (SameObject x.program o.object) objects c.same) (omega arith) location;
        }

-- the unit's statics are those of the program
pub record StaticsThere (x : Setting) (n : ℕ) : Type 0 where
  pub object : StaticObject
  pub is : slice_get x.unit.statics n ≡ Some object

-- An object of static storage.
static_pointer : (x : Setting) (s : State) (l : Local) (w : World) (n number : ℕ) (o : SourceObject) → Sound x.program x.begun s → Fits x None s l w → StaticsThere x number → slice_get s.memory n ≡ Some o → o.phase ≢ Ended → IsInMemory x.program o.owner → owner_of x.program o.owner ≡ UnitStatic number
    → SamePointer x.program s.memory w.memory n 0 (static_address x.unit.statics number 0)
static_pointer x s l w n number o sound f there is alive inside owner =
    let q = f.statics number there.object there.is in
    let c = f.placed n o is alive inside in
    let numbers : c.number ≡ number = f.differ c.number number c.object q.object c.is q.is c.same.lives q.lives (c.same.owner ∙ owner ∙ sym q.owner) in
    let objects : c.object ≡ q.object = some_same (sym c.is ∙ ap (slice_get w.memory) numbers ∙ q.is) in
    let bytes : static_bytes there.object ≡ bytes_of q.object = ap (λ k. k * size_of there.object.element) (sym q.count) ∙ ap (λ e. length q.object.values * size_of e) (sym q.element) in
    let location : static_address x.unit.statics number 0 ≡ Pointer number (bytes_of q.object) 0 =
    ap (λ b. option_map_or (λ z. pointer_at number (static_bytes z) 0) b Odd) there.is ∙ begins number (static_bytes there.object) ∙ ap (λ b. Pointer number b 0) bytes in
    points o is alive inside number q.object q.is (subst (SameObject x.program o) objects c.same) (omega arith) location

pub static_place : (x : Setting) (calls : Calls) (i : ℕ) (of : ObjectType) → StaticsThere x i → DoesPlace x calls (Named (object.Static i) of)
static_place x calls i of there t m s l w size st sound f = go (owned_number (Static i) s.memory) refl
  where
    go : (r : Option ℕ) → owned_number (Static i) s.memory ≡ r → PlaceR x m (Named (object.Static i) of) t m.ops m.end l w (value_or_undefined (option_map (λ n. source.Pointer n 0) r) s)
    go None e = stuck_now x None m.ops m.end s l w f
    go (Some n) e =
        let o = owned_at (Static i) s.memory n e in
        record {
          reached = record { local = l; world = w; leads = stays; fits = f; kept = λ y lt nw nf. refl; later = others_refl w.memory };
          same = static_pointer x s l w n i o.object sound f there o.is o.alive (subst (IsInMemory x.program) (sym o.owner_is) tt) (ap (owner_of x.program) o.owner_is);
        }

pub literal_place : (x : Setting) (calls : Calls) (i : ℕ) (of : ObjectType) → StaticsThere x ((names_in x).statics + i) → DoesPlace x calls (Named (object.Literal i) of)
literal_place x calls i of there t m s l w size st sound f = go (owned_number (Literal i) s.memory) refl
  where
    go : (r : Option ℕ) → owned_number (Literal i) s.memory ≡ r → PlaceR x m (Named (object.Literal i) of) t m.ops m.end l w (value_or_undefined (option_map (λ n. source.Pointer n 0) r) s)
    go None e = stuck_now x None m.ops m.end s l w f
    go (Some n) e =
        let o = owned_at (Literal i) s.memory n e in
        record {
          reached = record { local = l; world = w; leads = stays; fits = f; kept = λ y lt nw nf. refl; later = others_refl w.memory };
          same = static_pointer x s l w n ((names_in x).statics + i) o.object sound f there o.is o.alive (subst (IsInMemory x.program) (sym o.owner_is) tt) (ap (owner_of x.program) o.owner_is);
        }

-- What a pointer points to.
pub target_place : (x : Setting) (calls : Calls) (of : ObjectType) (e : RvalueTree) → Does x calls e → DoesPlace x calls (Target of e)
target_place x calls of e does_e t m s l w size st sound f = go (evaluate calls (depth_in x) e s) (does_e t (To None m) s l w size st sound f tt)
  where
    by_use : (v : source-value.Value) (s1 : State) (b : Bool) → Valued x None m (value_in x e t) t (written_by x e) (code_in x e t (To None m)).ops (code_in x e t (To None m)).end l w v s1
        → PlaceR x m (Target of e) t (code_in x e t (To None m)).ops (code_in x e t (To None m)).end l w (if b then Gives v s1 else Ends ending.Undefined s1)
    by_use v s1 true h = record { reached = h.reached; same = h.same }
    by_use v s1 false h = left_stuck x None m t (written_by x e) (code_in x e t (To None m)).ops (code_in x e t (To None m)).end l w s1 h.reached

    go : (r : Evaluated) → ToR x None m (value_in x e t) t (written_by x e) (code_in x e t (To None m)).ops (code_in x e t (To None m)).end l w r
        → PlaceR x m (Target of e) t (code_in x e t (To None m)).ops (code_in x e t (To None m)).end l w (with r usable)
    go (Gives v s1) h = by_use v s1 (is_usable s1.memory v) h
    go (Leaves s1) h = left_stuck x None m t (written_by x e) (code_in x e t (To None m)).ops (code_in x e t (To None m)).end l w s1 h
    go (Ends e1 s1) h = h
