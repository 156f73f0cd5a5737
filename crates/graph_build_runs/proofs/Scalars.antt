-- Constants, scalars, and assignments to scalars.
use Rattle.std.proofs.Common.{◌≡◌, ◌≢◌, ℕ, zero, suc, ◌+◌, ◌/◌, ◌<◌, ◌≤◌, List, [], ◌∷◌, length, Option, Some, None, Bool, true, false, not, ◌&&◌, ◌||◌, slice_get, slice_set, refl, sym, ap, ◌∙◌, subst, arith, ℤ}
use Rattle.std.specs.Prelude.{◌==◌, if◌then◌else◌, option_map, option_and_then, nat_le}
use Rattle.std.specs.List.{AllByRecursion}
use Rattle.std.proofs.lemmas.Bool.Decides.{nat_tests}
use Rattle.word_base.specs.Owners.{Owner, Static, Literal, Variable}
use Rattle.word_base.specs.Types.{holds}
use Rattle.c_tree.specs.declared.types.IntegerType.{IntegerType}
use Rattle.c_tree.specs.declared.object_type.Scalar.{Scalar}
use Rattle.c_tree.specs.declared.object_type.ObjectType.{ObjectType}
use Rattle.c_tree.specs.declared.object_type.Object.TheVariants as named
use Rattle.c_tree.specs.TypedExpressions.{RvalueTree, Constant, Null, Load, Assign, Named}
use Rattle.c_type_rules.specs.Integers.{integer}
use Rattle.c_type_rules.specs.Types.{loaded_type}
use Rattle.c_type_laws.specs.Expressions.{kind_of}
use Rattle.c_meaning_values.specs.declared.value.Value as source-value
use Rattle.c_meaning_values.specs.declared.value.Value.TheVariants as source
use Rattle.c_meaning_values.specs.declared.value.Phase.TheVariants.{Live, Ended}
use Rattle.c_meaning_steps.specs.declared.event.Ending.TheVariants as ending
use Rattle.c_meaning_values.specs.Memory.{Object as SourceObject, Memory as SourceMemory, is_usable, is_begun, is_writable, object_of, read, value_in as value_at, write, written_in, index_at, set_value, begun}
use Rattle.c_meaning_steps.specs.States.{State, Evaluated, Gives, Leaves, Ends, value_or_undefined, with, usable, both_operands as both, second, on_both}
use Rattle.c_meaning.specs.Expressions.{Calls, evaluate}
use Rattle.c_meaning_steps.specs.Steps.{load, store, value_stored}
use Rattle.graph_core.specs.Graphs as unit
use Rattle.graph_core.specs.Graphs.{Operand, Name, Instruction, Note, Is, Of, End}
use Rattle.graph_core.specs.Runs.{Stepped, Goes, Wild, with_value_at, step, at_place}
use Rattle.graph_core.specs.Values.{is_odd}
use Rattle.graph_core.specs.declared.value.Shadow.TheVariants.{Known}
use Rattle.graph_build_names.specs.Conversions.{unsigned_bits}
use Rattle.graph_build_layout.specs.declared.laid.Use.TheVariants.{Anywhere}
use Rattle.graph_build_names.specs.Names.{Names, scalar_of, pick}
use Rattle.graph_build_layout.specs.Laid.{loaded_laid, assigned_laid, begun_at, use_for}
use Rattle.graph_build_layout.specs.Layout.{laid, place_laid}
use Rattle.graph_build_names.specs.Writes.{writes, is_that, is_location_moved}
use Rattle.graph_build_steps.specs.Drafts.{Made, Goal, To, Unused, Either, instruction_before, zero as zero_operand, leaf, note, noted, operated, hold_location, use_of}
use Rattle.graph_build_steps.specs.Rules.{element_of}
use Rattle.graph_build_code.specs.Code.{code, code_place}
use Rattle.graph_build_steps.specs.Steps.{assigned_memory}
use Rattle.graph_build_layout.specs.Laid.{behind_move}
use Rattle.graph_build_runs.specs.Typed.{IsOf}
use Rattle.graph_build_runs.specs.Correspondence.{SameValue}
use Rattle.graph_build_runs.specs.Stops.{IsDeclared}
use Rattle.graph_build_runs.proofs.Words.{in_word, both_true}
use Rattle.graph_build_runs.proofs.Tests.{HasWord}
use Rattle.graph_build_runs.proofs.Leads.{Setting, names_in, size_in, depth_in, Local, World, at, stays, goes, put_elsewhere}
use Rattle.graph_build_runs.proofs.Later.{Later, StillThere, later_written, written_is, others_refl, value_later}
use Rattle.graph_build_runs.proofs.Kept.{is_want, Sound, Fits, ScalarsFirst}
use Rattle.graph_build_runs.proofs.Results.{Valued, Result, stuck_now, ended_result, result_after}
use Rattle.graph_build_runs.proofs.Leaves.{leaf_done, with_then, second_with}
use Rattle.graph_build_runs.proofs.Noting.{ScalarsApart, known_value, other_number, fits_noted}
use Rattle.graph_build_runs.proofs.Typing.{Typed, Gave, gave_by, of_word, kind_word}
use Rattle.graph_build_runs.proofs.Standing.{Stands}
use Rattle.graph_build_runs.proofs.Objects.{first_index, Owned, owned_at, begun_live}
use Rattle.graph_build_runs.proofs.Operands.{Apart, Does, code_in, value_in, written_by, or_false}

pub constant_does : (x : Setting) (calls : Calls) (z : ℤ) (type : IntegerType) → holds (integer type) z ≡ true → Does x calls (Constant z type)
constant_does x calls z type fits t g s l w size st sound f aims = leaf_done x g (unit.Constant (unsigned_bits z)) t (λ y. false) (source.Number z) s l w f refl (in_word type z fits)

pub null_does : (x : Setting) (calls : Calls) → Does x calls Null
null_does x calls t g s l w size st sound f aims = leaf_done x g (unit.Constant 0) t (λ y. false) source.Null s l w f refl tt

-- the one value of an object is of its type
pub one_typed : (memory : SourceMemory) (o : SourceObject) (v : source-value.Value) → o.values ≡ v ∷ [] → AllByRecursion (IsOf memory (loaded_type o.element)) o.values → IsOf memory (loaded_type o.element) v
one_typed memory o v e all = let h : AllByRecursion (IsOf memory (loaded_type o.element)) (v ∷ []) = subst (AllByRecursion (IsOf memory (loaded_type o.element))) e all in h.0

-- The value of a scalar stands in its name.
module _ (x : Setting) (calls : Calls) (sc : Scalar) (v : ℕ) (of : ObjectType) (k : ℕ) (named_by : scalar_of (names_in x) v ≡ Some k) where
  abbrev owner_in : Owner
  owner_in = Variable v (depth_in x)

  module _ (t : ℕ) (g : Goal) (s : State) (l : Local) (w : World) (sound : Sound x.program x.begun s) (f : Fits x None s l w) where
    stuck : Result x g (Name k) t (λ y. false) (leaf g (Name k)).ops (leaf g (Name k)).end l w (Ends ending.Undefined s)
    stuck = ended_result x g (Name k) t (λ y. false) (leaf g (Name k)).ops (leaf g (Name k)).end l w ending.Undefined s (stuck_now x None (leaf g (Name k)).ops (leaf g (Name k)).end s l w f)

    used : (u : source-value.Value) (b : Bool) → is_usable s.memory u ≡ b → SameValue x.program s.memory w.memory u (l.names k) → HasWord u
        → Result x g (Name k) t (λ y. false) (leaf g (Name k)).ops (leaf g (Name k)).end l w (if b then Gives u s else Ends ending.Undefined s)
    used u false e same word = stuck
    used u true e same word = leaf_done x g (Name k) t (λ y. false) u s l w f same word

    reads : (n : ℕ) (o : SourceObject) → slice_get s.memory n ≡ Some o → o.owner ≡ Variable v (depth_in x) → (b : Bool) → is_begun o.phase ≡ b
        → Result x g (Name k) t (λ y. false) (leaf g (Name k)).ops (leaf g (Name k)).end l w (with (value_or_undefined (if b then slice_get o.values (index_at o 0) else None) s) usable)
    reads n o is owner false e = stuck
    reads n o is owner true e =
        let c = f.own.scalars v k n o named_by is owner (begun_live o.phase e) in
        let found : slice_get o.values (index_at o 0) ≡ Some c.value = ap (slice_get o.values) (first_index o.element) ∙ ap (λ vs. slice_get vs 0) c.holds in
        subst (λ r. Result x g (Name k) t (λ y. false) (leaf g (Name k)).ops (leaf g (Name k)).end l w (with (value_or_undefined r s) usable)) (sym found)
        (used c.value (is_usable s.memory c.value) refl (c.named refl) (of_word s.memory (loaded_type o.element) c.value (one_typed s.memory o c.value c.holds (sound.typed n o is))))

    found_by : (r : Option ℕ) → object_of (Variable v (depth_in x)) s.memory ≡ r
        → Result x g (Name k) t (λ y. false) (leaf g (Name k)).ops (leaf g (Name k)).end l w (with (value_or_undefined (option_map (λ n. source.Pointer n 0) r) s) load)
    found_by None e = stuck
    found_by (Some n) e =
        let o = owned_at (Variable v (depth_in x)) s.memory n e in
        subst (λ q. Result x g (Name k) t (λ y. false) (leaf g (Name k)).ops (leaf g (Name k)).end l w (with (value_or_undefined (option_and_then (λ p. value_at p 0) q) s) usable)) (sym o.is)
        (reads n o.object o.is o.owner_is (is_begun o.object.phase) refl)

  abbrev by_name : ℕ → Goal → Option ℕ → Made
  by_name t g o = elim (o) [
    | Some j ↦ leaf g (Name j)
    | None ↦ let q = place_laid (names_in x) (Named (named.Automatic v) of) t in code_place (names_in x) x.place x.top (Named (named.Automatic v) of) t (operated (names_in x) g t q.next (λ y. unit.Load y (element_of sc) q.location))
  ]

  pub scalar_does : Does x calls (Load sc (Named (named.Automatic v) of))
  scalar_does t g s l w size st sound f aims =
      subst (λ o. Result x g (loaded_laid (names_in x) Anywhere o t (place_laid (names_in x) (Named (named.Automatic v) of) t)).value t (λ y. false) (by_name t g o).ops (by_name t g o).end l w
      (evaluate calls (depth_in x) (Load sc (Named (named.Automatic v) of)) s)) (sym named_by) (found_by t g s l w sound f (object_of (Variable v (depth_in x)) s.memory) refl)

-- Assignment to a scalar: the value of the right side is computed in the scalar's name, and noted.
module _ (x : Setting) (calls : Calls) (apart : ScalarsApart x) (sc : Scalar) (v : ℕ) (of : ObjectType) (k : ℕ) (named_by : scalar_of (names_in x) v ≡ Some k) (e : RvalueTree) (low : ScalarsFirst x) (typed_e : Typed x calls e) (apart_e : Apart x k e) (does_e : Does x calls e) where
  abbrev assigned_by : ℕ → Goal → Option ℕ → Made
  assigned_by t g o = elim (o) [
    | Some j ↦ code_in x e t (To (Some j) (noted j g))
    | None ↦ let q = place_laid (names_in x) (Named (named.Automatic v) of) t in let moved = is_location_moved (λ y. writes (names_in x) y e) q.location in let from = behind_move moved q.next in
        code_place (names_in x) x.place x.top (Named (named.Automatic v) of) t (hold_location moved q.next q.location (code_in x e from
        (assigned_memory g q moved (element_of sc) (laid (names_in x) e (use_for None (use_of g)) from).value)))
  ]

  module _ (t : ℕ) (g : Goal) (s : State) (l : Local) (w : World) (size : size_in x ≤ t) (sound : Sound x.program x.begun s) (f : Fits x None s l w) (st : Stands x.graph x.top (code_in x e t (To (Some k) (noted k g))).inner) where
    abbrev Then : ℕ → (ℕ → Bool) → List Instruction → End → Local → World → Evaluated → Type 0
    Then t' written ops end l' w' r = Result x g (Name k) t' written ops end l' w' r

    -- the object takes the value
    takes : (n : ℕ) (o : SourceObject) (u : source-value.Value) (s1 : State) (l1 : Local) (w1 : World) → Sound x.program x.begun s1 → Fits x (Some k) s1 l1 w1 → slice_get s1.memory n ≡ Some o → o.owner ≡ Variable v (depth_in x) → o.phase ≢ Ended
        → SameValue x.program s1.memory w1.memory u (l1.names k) → HasWord u → (b : Bool) → is_writable o 0 ≡ b
        → Then t (λ y. false) (noted k g).ops (noted k g).end l1 w1 (value_stored (if b then Some (begun (set_value s1.memory n (index_at o 0) u) n) else None) u s1)
    takes n o u s1 l1 w1 sound1 f1 is owner alive same word false eb = ended_result x g (Name k) t (λ y. false) (noted k g).ops (noted k g).end l1 w1 ending.Undefined s1 (stuck_now x (Some k) (noted k g).ops (noted k g).end s1 l1 w1 f1)
    takes n o u s1 l1 w1 sound1 f1 is owner alive same word true eb =
        let a = subst (λ q. IsDeclared x.program q o) owner (sound1.declared n o is) in
        let one : length o.values ≡ 1 = a.3 ∙ apart.single v k a.0 named_by a.1 in
        let l2 : Local = record l1 { shadows = with_value_at l1.shadows k (Known (l1.names k)) } in
        let after : State = record s1 { memory = slice_set s1.memory n (record o { values = slice_set o.values 0 u; phase = Live }) } in
        let written : begun (set_value s1.memory n (index_at o 0) u) n ≡ slice_set s1.memory n (record o { values = slice_set o.values 0 u; phase = Live }) =
        ap (λ i. begun (set_value s1.memory n i u) n) (first_index o.element) ∙ written_is s1.memory n 0 o u is in
        let f2 : Fits x None after l2 w1 = fits_noted x v k n o u s1 l1 w1 apart named_by is owner alive one sound1.differ f1 same in
        let noting : step x.unit (at x (noted k g).ops (noted k g).end l1 w1) ≡ Goes (at x (leaf g (Name k)).ops (leaf g (Name k)).end l2 w1) =
        ap (λ b. if b then Wild else Goes (at x (leaf g (Name k)).ops (leaf g (Name k)).end l2 w1)) (known_value x.program s1.memory w1.memory u (l1.names k) same) in
        subst (λ m. Then t (λ y. false) (noted k g).ops (noted k g).end l1 w1 (Gives u (record s1 { memory = m }))) (sym written)
        (result_after x t t (λ y. false) (λ y. false) (noted k g).ops (leaf g (Name k)).ops (noted k g).end (leaf g (Name k)).end l1 l2 w1 w1 (goes noting stays) (λ y lt nf. (lt, nf, refl)) (others_refl w1.memory) g (Name k) (Gives u after)
        (leaf_done x g (Name k) t (λ y. false) u after l2 w1 f2
        (value_later x.program s1.memory after.memory w1.memory w1.memory (later_written s1.memory n 0 o u is alive) (others_refl w1.memory) u (l1.names k) same) word))

    written_in_name : (y : ℕ) → is_that y (Some k) || false || writes (names_in x) y e ≡ false → (is_want (Some k) y ≡ false) × (writes (names_in x) y e ≡ false) × (false ≡ false)
    written_in_name y h = let both = or_false (k == y || false) (writes (names_in x) y e) h in (turned y (or_false (k == y) false both.0).0, both.1, refl)
      where
        turned : (y : ℕ) → k == y ≡ false → y == k ≡ false
        turned y h = grind (arith, nat_tests)

    assigns : (r : Option ℕ) → object_of (Variable v (depth_in x)) s.memory ≡ r
        → Then t (λ y. is_that y (Some k) || false || writes (names_in x) y e) (code_in x e t (To (Some k) (noted k g))).ops (code_in x e t (To (Some k) (noted k g))).end l w
        (on_both (both (value_or_undefined (option_map (λ n. source.Pointer n 0) r) s) (evaluate calls (depth_in x) e)) store)
    assigns None h =
        ended_result x g (Name k) t (λ y. is_that y (Some k) || false || writes (names_in x) y e) (code_in x e t (To (Some k) (noted k g))).ops (code_in x e t (To (Some k) (noted k g))).end l w ending.Undefined s
        (stuck_now x None (code_in x e t (To (Some k) (noted k g))).ops (code_in x e t (To (Some k) (noted k g))).end s l w f)
    assigns (Some n) h =
        subst (Then t (λ y. is_that y (Some k) || false || writes (names_in x) y e) (code_in x e t (To (Some k) (noted k g))).ops (code_in x e t (To (Some k) (noted k g))).end l w)
        (second_with (source.Pointer n 0) (evaluate calls (depth_in x) e s) store)
        (with_then x (Some k) g (noted k g) (Name k) (value_in x e t) t t t (λ y. is_that y (Some k) || false || writes (names_in x) y e) (written_by x e) (λ y. false)
        (code_in x e t (To (Some k) (noted k g))).ops (code_in x e t (To (Some k) (noted k g))).end l w (evaluate calls (depth_in x) e s) (store (source.Pointer n 0)) (omega arith) (omega arith) (λ y lt nf. written_in_name y nf)
        (does_e t (To (Some k) (noted k g)) s l w size st sound f (let less = low v k named_by in (omega (arith, less, size), λ lt. apart_e)))
        (λ u s1 e1 h1.
        (let gave = gave_by x.program x.begun s.memory (kind_of x.program x.tree e) (evaluate calls (depth_in x) e s) u s1 e1 (typed_e s sound) in
        let o = owned_at (Variable v (depth_in x)) s.memory n h in
        let o1 = gave.later n o.object o.is in
        subst (λ q. Then t (λ y. false) (noted k g).ops (noted k g).end h1.reached.local h1.reached.world (value_stored (option_and_then (written_in s1.memory n 0 u) q) u s1)) (sym o1.is)
        (takes n o1.object u s1 h1.reached.local h1.reached.world gave.sound h1.reached.fits o1.is (o1.owner ∙ o.owner_is) (λ over. o.alive (o1.phase.open_before over)) h1.same (kind_word s1.memory (kind_of x.program x.tree e) u gave.is)
        (is_writable o1.object 0) refl))))

  pub assigned_does : Does x calls (Assign sc (Named (named.Automatic v) of) e)
  assigned_does t g s l w size st sound f aims =
      subst (λ o. Stands x.graph x.top (assigned_by t g o).inner
      → Result x g (assigned_laid (names_in x) Anywhere o t (place_laid (names_in x) (Named (named.Automatic v) of) t) (laid (names_in x) e (use_for o Anywhere) (begun_at o t (λ y. writes (names_in x) y e) (place_laid (names_in x) (Named (named.Automatic v) of) t)))).value
      t (λ y. is_that y o || false || writes (names_in x) y e) (assigned_by t g o).ops (assigned_by t g o).end l w (evaluate calls (depth_in x) (Assign sc (Named (named.Automatic v) of) e) s)) (sym named_by)
      (λ st'. assigns t g s l w size sound f st' (object_of (Variable v (depth_in x)) s.memory) refl) st
