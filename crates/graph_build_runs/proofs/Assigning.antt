-- Assignments to memory do what they mean.
use Rattle.std.proofs.Common.{◌≡◌, ◌≢◌, ℕ, ◌<◌, ◌≤◌, Option, Some, None, Bool, true, false, ◌||◌, refl, sym, ap, subst, arith}
use Rattle.std.specs.Prelude.{nat_lt}
use Rattle.std.proofs.lemmas.Bool.Decides.{nat_tests}
use Rattle.c_tree.specs.declared.object_type.Scalar.{Scalar}
use Rattle.c_tree.specs.declared.object_type.ObjectType.TheVariants as of-object
use Rattle.c_tree.specs.declared.object_type.ValueType.TheVariants.{Pointer as PointerType}
use Rattle.c_tree.specs.TypedExpressions.{RvalueTree, LvalueTree, Assign}
use Rattle.c_type_rules.specs.Types.{loaded_type}
use Rattle.c_type_rules.specs.ValueTypes.{object_type}
use Rattle.c_type_laws.specs.Kind.{Of}
use Rattle.c_type_laws.specs.Kinds.{is_of}
use Rattle.c_type_laws.specs.Expressions.{kind_of}
use Rattle.c_meaning_values.specs.declared.value.Value as source-value
use Rattle.c_meaning_steps.specs.declared.event.Ending.TheVariants as ending
use Rattle.c_meaning_steps.specs.States.{State, with}
use Rattle.c_meaning.specs.Expressions.{Calls, evaluate, designate}
use Rattle.c_meaning_steps.specs.Steps.{store}
use Rattle.graph_core.specs.declared.value.Value.{Value}
use Rattle.graph_core.specs.Graphs.{Operand, Name, Constant, StaticAddress, Location, Automatic, Static as StaticPlace, At}
use Rattle.graph_core.specs.Runs.{value}
use Rattle.graph_build_names.specs.Operands.{operand_at}
use Rattle.graph_build_layout.specs.declared.laid.Use.TheVariants.{Anywhere, In}
use Rattle.graph_build_names.specs.Names.{scalar_named}
use Rattle.graph_build_layout.specs.Laid.{behind_move, use_for, assigned_laid, begun_at}
use Rattle.graph_build_layout.specs.Layout.{laid, place_laid}
use Rattle.graph_build_names.specs.Writes.{writes, writes_within, is_that, is_location_moved}
use Rattle.graph_build_steps.specs.Rules as rule
use Rattle.graph_build_steps.specs.Drafts.{Made, Goal, To, Unused, Either, use_of, noted, hold_location, held_location, stored}
use Rattle.graph_build_code.specs.Code.{code_place}
use Rattle.graph_build_steps.specs.Steps.{assigned_memory}
use Rattle.graph_build_runs.specs.Typed.{IsOf, IsPointerTo}
use Rattle.graph_build_runs.specs.Correspondence.{SameValue}
use Rattle.graph_build_runs.proofs.Leads.{Setting, names_in, size_in, depth_in, Local, World}
use Rattle.graph_build_runs.proofs.Later.{others_refl, value_later}
use Rattle.graph_build_runs.proofs.Kept.{is_want, Sound, Fits, ScalarsFirst}
use Rattle.graph_build_runs.proofs.Results.{operand_in, Result, stuck_now, ended_result, result_after}
use Rattle.graph_build_runs.proofs.Leaves.{both_with}
use Rattle.graph_build_runs.proofs.Noting.{known_value, other_number}
use Rattle.graph_build_runs.proofs.Typing.{Keeps, Typed, gave_by, of_later, of_word}
use Rattle.graph_build_runs.proofs.Types.{kind_is_of}
use Rattle.graph_build_runs.proofs.Standing.{Stands, hold_inner}
use Rattle.graph_build_runs.proofs.Operands.{IsFreeOf, Aims, Does, code_in, value_in, written_by, Spares, or_false, behind_le}
use Rattle.graph_build_runs.proofs.Meant.{TypedPlace}
use Rattle.graph_build_runs.proofs.Places.{place_in, placing, within_written, pointed_in, DoesPlace}
use Rattle.graph_build_runs.proofs.Loading.{PlaceLays}
use Rattle.graph_build_runs.proofs.Writing.{store_cases, want_by, stored_done}
use Rattle.graph_build_runs.proofs.Holding.{IsPlaceAside, IsPlaceBelow, hold_place, place_stays, with_wanted, place_next}

-- A value that is computed for a name stands there.
abbrev pub StandsIn : Setting → RvalueTree → Type 0
StandsIn x e = (k t : ℕ) → (laid (names_in x) e (In k) t).value ≡ Name k

-- The name by which a place is found is below the next one that is free.
abbrev pub PlaceBelow : Setting → LvalueTree → Type 0
PlaceBelow x lv = (t : ℕ) → size_in x ≤ t → IsPlaceBelow (place_laid (names_in x) lv t).next (place_in x lv t)

-- It is no older temporary.
abbrev pub PlaceFresh : Setting → LvalueTree → Type 0
PlaceFresh x lv = (t k : ℕ) → size_in x ≤ t → size_in x ≤ k → k < t → place_in x lv t ≢ At (Name k)

abbrev pub GrowsPlace : Setting → LvalueTree → Type 0
GrowsPlace x lv = (t : ℕ) (m : Made) → Stands x.graph x.top (placing x lv t m).inner → Stands x.graph x.top m.inner

pub none_aside : (loc : Location) → IsPlaceAside None loc
none_aside (At (Name y)) = refl
none_aside (At (Constant word)) = tt
none_aside (At (StaticAddress o k)) = tt
none_aside (Automatic o k) = tt
none_aside (StaticPlace o) = tt

some_aside : (k : ℕ) (loc : Location) → loc ≢ At (Name k) → IsPlaceAside (Some k) loc
some_aside k (At (Name y)) ne = other_number y k (λ e. ne (ap (λ z. At (Name z)) e))
some_aside k (At (Constant word)) ne = tt
some_aside k (At (StaticAddress o j)) ne = tt
some_aside k (Automatic o j) ne = tt
some_aside k (StaticPlace o) ne = tt

-- what a goal wants is older than a name, and a place that it is free of is not found by it
abbrev pub AimsPlace : Setting → Goal → LvalueTree → ℕ → Type 0
AimsPlace x (To None m) lv t = Unit {0}
AimsPlace x (To (Some k) m) lv t = (k < t) × (k < size_in x → IsFreeOf x k lv)
AimsPlace x (Unused m) lv t = Unit {0}
AimsPlace x (Either one other inner) lv t = Unit {0}

pub place_aside : (x : Setting) (g : Goal) (lv : LvalueTree) (t : ℕ) → PlaceFresh x lv → size_in x ≤ t → AimsPlace x g lv t → IsPlaceAside (want_by g) (place_in x lv t)
place_aside x (To None m) lv t fresh size aims = none_aside (place_in x lv t)
place_aside x (To (Some k) m) lv t fresh size aims = some_aside k (place_in x lv t) (by_size (nat_lt k (size_in x)) refl)
  where
    by_size : (b : Bool) → nat_lt k (size_in x) ≡ b → place_in x lv t ≢ At (Name k)
    by_size true e = let less : k < size_in x = grind (arith, nat_tests, e) in aims.1 less t size
    by_size false e = let le : size_in x ≤ k = grind (arith, nat_tests, e) in fresh t k size le aims.0
place_aside x (Unused m) lv t fresh size aims = none_aside (place_in x lv t)
place_aside x (Either one other inner) lv t fresh size aims = none_aside (place_in x lv t)

-- no later name is wanted
pub spare_want : (x : Setting) (g : Goal) (lv : LvalueTree) (t y : ℕ) → AimsPlace x g lv t → t ≤ y → is_want (want_by g) y ≡ false
spare_want x (To None m) lv t y aims le = refl
spare_want x (To (Some k) m) lv t y aims le = let lt = aims.0 in other_number y k (λ e. absurd (omega (arith, lt, le, e)))
spare_want x (Unused m) lv t y aims le = refl
spare_want x (Either one other inner) lv t y aims le = refl

-- Assignment to memory: the value of the right side is computed where it is wanted, and stored.
module _ (x : Setting) (calls : Calls) (low : ScalarsFirst x) (sc : Scalar) (lv : LvalueTree) (in_memory : scalar_named (names_in x) lv ≡ None) (of : object_type lv ≡ of-object.Scalar sc) (typed_lv : TypedPlace x calls lv) (lays_lv : PlaceLays x lv) (below_lv : PlaceBelow x lv) (fresh_lv : PlaceFresh x lv)
    (grows_lv : GrowsPlace x lv) (does_lv : DoesPlace x calls lv) (e : RvalueTree) (fits_e : is_of (kind_of x.program x.tree e) (loaded_type sc) ≡ true) (typed_e : Typed x calls e) (spares_e : Spares x e) (stands_e : StandsIn x e) (does_e : Does x calls e) where
  abbrev moved_of : ℕ → Bool
  moved_of t = is_location_moved (λ y. writes (names_in x) y e) (place_in x lv t)

  abbrev next_of : ℕ → ℕ
  next_of t = (place_laid (names_in x) lv t).next

  abbrev from_of : ℕ → ℕ
  from_of t = behind_move (moved_of t) (next_of t)

  -- what is stored
  abbrev store_of : ℕ → Goal → Operand
  store_of t g = (laid (names_in x) e (use_for None (use_of g)) (from_of t)).value

  abbrev place_of : ℕ → Location
  place_of t = held_location (moved_of t) (next_of t) (place_in x lv t)

  abbrev last_of : ℕ → Goal → Made
  last_of t g = stored (rule.element_of sc) (place_of t) (store_of t g) g

  abbrev right_of : ℕ → Goal → Made
  right_of t g = code_in x e (from_of t) (To (want_by g) (last_of t g))

  abbrev behind_of : ℕ → Goal → Made
  behind_of t g = hold_location (moved_of t) (next_of t) (place_in x lv t) (right_of t g)

  abbrev written_of : ℕ → Bool
  written_of y = within_written x lv y || writes (names_in x) y e

  stands_for : (t : ℕ) (g : Goal) (names : ℕ → Value) → value x.unit.statics names (store_of t g) ≡ value x.unit.statics names (operand_in (want_by g) (value_in x e (from_of t)))
  stands_for t (To None m) names = refl
  stands_for t (To (Some k) m) names = ap (value x.unit.statics names) (stands_e k (from_of t))
  stands_for t (Unused m) names = refl
  stands_for t (Either one other inner) names = refl

  aims_right : (t k : ℕ) (g : Goal) → t ≤ k → Aims x g (Assign sc lv e) t → Aims x (To (want_by g) (last_of t g)) e k
  aims_right t k (To None m) le aims = tt
  aims_right t k (To (Some j) m) le aims = (omega (arith, le, aims.0), λ lt. (aims.1 lt).1)
  aims_right t k (Unused m) le aims = tt
  aims_right t k (Either one other inner) le aims = tt

  aims_place : (t : ℕ) (g : Goal) → Aims x g (Assign sc lv e) t → AimsPlace x g lv t
  aims_place t (To None m) aims = tt
  aims_place t (To (Some j) m) aims = (aims.0, λ lt. (aims.1 lt).0)
  aims_place t (Unused m) aims = tt
  aims_place t (Either one other inner) aims = tt

  module _ (t : ℕ) (g : Goal) (s : State) (l : Local) (w : World) (size : size_in x ≤ t) (st : Stands x.graph x.top (placing x lv t (behind_of t g)).inner) (sound : Sound x.program x.begun s) (fits : Fits x None s l w) (aims : Aims x g (Assign sc lv e) t) where
    above : t ≤ from_of t
    above = let le = lays_lv t size in let held_le = behind_le (moved_of t) (next_of t) in omega (arith, le, held_le)

    -- the value is there
    stores : (p v : source-value.Value) (s2 : State) (l2 : Local) (w2 : World) → Sound x.program x.begun s2 → Fits x (want_by g) s2 l2 w2 → IsPointerTo s2.memory (of-object.Scalar sc) p → SameValue x.program s2.memory w2.memory p (pointed_in x l2 w2 (place_of t)) → IsOf s2.memory (loaded_type sc) v
        → SameValue x.program s2.memory w2.memory v (value x.unit.statics l2.names (operand_in (want_by g) (value_in x e (from_of t)))) → Result x g (value_in x e (from_of t)) t (λ y. false) (last_of t g).ops (last_of t g).end l2 w2 (store p v s2)
    stores p v s2 l2 w2 sound2 fits2 is pointer typed same =
        let u = value x.unit.statics l2.names (store_of t g) in
        let is_u = stands_for t g l2.names in
        let same_u : SameValue x.program s2.memory w2.memory v u = subst (SameValue x.program s2.memory w2.memory v) (sym is_u) same in
        store_cases x (want_by g) s2 l2 w2 sc p (pointed_in x l2 w2 (place_of t)) v u sound2 fits2 is pointer typed same_u (λ r. Result x g (value_in x e (from_of t)) t (λ y. false) (last_of t g).ops (last_of t g).end l2 w2 r)
        (ended_result x g (value_in x e (from_of t)) t (λ y. false) (last_of t g).ops (last_of t g).end l2 w2 ending.Undefined s2 (stuck_now x (want_by g) (last_of t g).ops (last_of t g).end s2 l2 w2 fits2))
        (λ after h. stored_done x g (rule.element_of sc) (place_of t) (store_of t g) (value_in x e (from_of t)) t (λ y. false) v (record s2 { memory = after }) l2 w2 h.memory h.writes h.others_later h.fits h.same (of_word s2.memory (loaded_type sc) v typed) is_u)

    -- behind the place
    evaluates : (p : source-value.Value) (s1 : State) (l1 : Local) (w1 : World) → Sound x.program x.begun s1 → Fits x None s1 l1 w1 → IsOf s1.memory (PointerType (object_type lv)) p → SameValue x.program s1.memory w1.memory p (pointed_in x l1 w1 (place_in x lv t))
        → Result x g (value_in x e (from_of t)) t (written_by x e) (behind_of t g).ops (behind_of t g).end l1 w1 (with (evaluate calls (depth_in x) e s1) (store p))
    evaluates p s1 l1 w1 sound1 fits1 is pointer =
        let a = value_in x e (from_of t) in
        let le = lays_lv t size in
        let up = above in
        let m = right_of t g in
        let k = hold_place x (moved_of t) (place_in x lv t) (next_of t) m s1 l1 w1 low (omega (arith, size, le)) fits1 in
        let inner = subst (Stands x.graph x.top) (hold_inner (moved_of t) (next_of t) (operand_at (place_in x lv t)) m) (grows_lv t (behind_of t g) st) in
        let pointer_held : SameValue x.program s1.memory w1.memory p (pointed_in x k.local w1 (place_of t)) = subst (SameValue x.program s1.memory w1.memory p) (sym k.same) pointer in
        let known = known_value x.program s1.memory w1.memory p (pointed_in x k.local w1 (place_of t)) pointer_held in
        result_after x t t (written_by x e) (written_by x e) (behind_of t g).ops m.ops (behind_of t g).end m.end l1 k.local w1 w1 k.leads (λ y lt nf. (lt, nf, k.kept y (omega (arith, lt, le)))) (others_refl w1.memory) g a
        (with (evaluate calls (depth_in x) e s1) (store p))
        (with_wanted x g (last_of t g) a a t (from_of t) t (written_by x e) (written_by x e) (λ y. false) m.ops m.end k.local w1 (evaluate calls (depth_in x) e s1) (store p) up (omega arith) (λ y lt nf. (nf, refl))
        (does_e (from_of t) (To (want_by g) (last_of t g)) s1 k.local w1 (omega (arith, size, up)) inner sound1 k.fits (aims_right t (from_of t) g up aims))
        (λ v s2 e2 h.
        (let gave = gave_by x.program x.begun s1.memory (kind_of x.program x.tree e) (evaluate calls (depth_in x) e s1) v s2 e2 (typed_e s1 sound1) in
        let there = of_later s1.memory s2.memory gave.later (PointerType (object_type lv)) p is in
        let place = place_stays x (want_by g) (λ y. writes (names_in x) y e) (place_in x lv t) (next_of t) k.local h.reached.local w1 h.reached.world (below_lv t size) (spares_e (next_of t) (omega (arith, size, le)))
        (spare_want x g lv t (next_of t) (aims_place t g aims) le) (place_aside x g lv t fresh_lv size (aims_place t g aims)) (λ y lt nw nf. h.reached.kept y lt nw nf) h.reached.later known in
        stores p v s2 h.reached.local h.reached.world gave.sound h.reached.fits (subst (λ q. IsPointerTo s2.memory q p) of there)
        (subst (SameValue x.program s2.memory h.reached.world.memory p) (sym place) (value_later x.program s1.memory s2.memory w1.memory h.reached.world.memory gave.later h.reached.later p (pointed_in x k.local w1 (place_of t)) pointer_held))
        (kind_is_of s2.memory (kind_of x.program x.tree e) (loaded_type sc) v fits_e gave.is) h.same)))

    memory_assigned : Result x g (value_in x e (from_of t)) t written_of (placing x lv t (behind_of t g)).ops (placing x lv t (behind_of t g)).end l w (evaluate calls (depth_in x) (Assign sc lv e) s)
    memory_assigned =
        let c = placing x lv t (behind_of t g) in
        subst (Result x g (value_in x e (from_of t)) t written_of c.ops c.end l w) (both_with (designate calls (depth_in x) lv s) (evaluate calls (depth_in x) e) store)
        (place_next x g (behind_of t g) lv (value_in x e (from_of t)) t t written_of (written_by x e) c.ops c.end l w (designate calls (depth_in x) lv s) (λ p s1. with (evaluate calls (depth_in x) e s1) (store p)) (omega arith)
        (λ y lt nf. or_false (within_written x lv y) (writes (names_in x) y e) nf) (does_lv t (behind_of t g) s l w size st sound fits)
        (λ p s1 e1 h. (let gave = subst (Keeps x.program x.begun s.memory (Of (PointerType (object_type lv)))) e1 (typed_lv s sound) in evaluates p s1 h.reached.local h.reached.world gave.sound h.reached.fits gave.is h.same)))

  goal_is : (t : ℕ) (g : Goal) → To (want_by g) (last_of t g) ≡ assigned_memory g (place_laid (names_in x) lv t) (moved_of t) (rule.element_of sc) (store_of t g)
  goal_is t (To None m) = refl
  goal_is t (To (Some k) m) = refl
  goal_is t (Unused m) = refl
  goal_is t (Either one other inner) = refl

  abbrev by_goal : ℕ → Goal → Made
  by_goal t aim = placing x lv t (hold_location (moved_of t) (next_of t) (place_in x lv t) (code_in x e (from_of t) aim))

  abbrev assigned_by : ℕ → Goal → Option ℕ → Made
  assigned_by t g o = elim (o) [
    | Some j ↦ code_in x e t (To (Some j) (noted j g))
    | None ↦ let q = place_laid (names_in x) lv t in let moved = is_location_moved (λ y. writes (names_in x) y e) q.location in let from = behind_move moved q.next in
        code_place (names_in x) x.place x.top lv t (hold_location moved q.next q.location (code_in x e from
        (assigned_memory g q moved (rule.element_of sc) (laid (names_in x) e (use_for None (use_of g)) from).value)))
  ]

  pub stored_does : Does x calls (Assign sc lv e)
  stored_does t g s l w size st sound fits aims =
      subst (λ o. Stands x.graph x.top (assigned_by t g o).inner
      → Result x g (assigned_laid (names_in x) Anywhere o t (place_laid (names_in x) lv t) (laid (names_in x) e (use_for o Anywhere) (begun_at o t (λ y. writes (names_in x) y e) (place_laid (names_in x) lv t)))).value
      t (λ y. is_that y o || writes_within (names_in x) y lv || writes (names_in x) y e) (assigned_by t g o).ops (assigned_by t g o).end l w (evaluate calls (depth_in x) (Assign sc lv e) s)) (sym in_memory)
      (subst (λ aim. Stands x.graph x.top (by_goal t aim).inner → Result x g (value_in x e (from_of t)) t written_of (by_goal t aim).ops (by_goal t aim).end l w (evaluate calls (depth_in x) (Assign sc lv e) s)) (goal_is t g)
      (λ st'. memory_assigned t g s l w size st' sound fits aims)) st
