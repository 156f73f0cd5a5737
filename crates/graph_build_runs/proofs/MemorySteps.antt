-- Updates and steps of what is in memory.
use Rattle.std.proofs.Common.{◌≡◌, ℕ, ◌+◌, ◌<◌, ◌≤◌, List, ◌∷◌, Option, Some, None, Bool, true, false, ◌||◌, slice_get, refl, sym, ap, ◌∙◌, subst, arith}
use Rattle.std.specs.Prelude.{◌==◌, if◌then◌else◌, option_and_then}
use Rattle.std.proofs.lemmas.Bool.Decides.{nat_tests}
use Rattle.c_tree.specs.declared.object_type.Scalar.{Scalar}
use Rattle.c_tree.specs.declared.object_type.ObjectType.TheVariants as of-object
use Rattle.c_tree.specs.declared.object_type.ValueType.{ValueType}
use Rattle.c_tree.specs.declared.object_type.ValueType.TheVariants.{Pointer as PointerType}
use Rattle.c_tree.specs.declared.typed_expression.Given.TheVariants.{New, Old}
use Rattle.c_tree.specs.TypedExpressions.{RvalueTree, LvalueTree}
use Rattle.c_type_rules.specs.Types.{loaded_type}
use Rattle.c_type_rules.specs.ValueTypes.{object_type}
use Rattle.c_type_laws.specs.Kind.{Of}
use Rattle.c_type_laws.specs.Expressions.{kind_of}
use Rattle.c_meaning_values.specs.declared.value.Value as source-value
use Rattle.c_meaning_values.specs.declared.value.Value.TheVariants as source
use Rattle.c_meaning_steps.specs.declared.event.Ending.TheVariants as ending
use Rattle.c_meaning_values.specs.Memory.{Memory as SourceMemory, is_begun, is_usable, index_at, value_in as value_at}
use Rattle.c_meaning_steps.specs.States.{State, Evaluated, Gives, Leaves, Ends, value_or_undefined, with, usable, on_both}
use Rattle.c_meaning.specs.Expressions.{Calls, evaluate, designate}
use Rattle.c_meaning_steps.specs.Steps.{load, store, left_side_read, read_by, store_if, replace_if, one}
use Rattle.graph_core.specs.declared.value.Value.{Value}
use Rattle.graph_core.specs.declared.instruction.Element as declared-element
use Rattle.graph_core.specs.Graphs as unit
use Rattle.graph_core.specs.Graphs.{Operand, Name, Constant, StaticAddress, Location, Automatic, Static as StaticPlace, At, Instruction, Store, End, StaticObject}
use Rattle.graph_core.specs.Memory.{read, write}
use Rattle.graph_core.specs.Runs.{Goes, step, value, wrote_some}
use Rattle.graph_build_names.specs.Operands.{operand_at}
use Rattle.graph_build_layout.specs.declared.laid.Use.TheVariants.{Anywhere}
use Rattle.graph_build_names.specs.Names.{Names, pick}
use Rattle.graph_build_layout.specs.Laid.{Laid, behind_move}
use Rattle.graph_build_layout.specs.Layout.{laid, place_laid}
use Rattle.graph_build_names.specs.Writes.{writes, is_location_moved}
use Rattle.graph_build_steps.specs.Rules as rule
use Rattle.graph_build_steps.specs.Drafts.{Made, Goal, To, Unused, Either, instruction_before, target, follow, use_of, hold_location, held_location, stored, left_free}
use Rattle.graph_build_steps.specs.declared.change.Change as declared-change
use Rattle.graph_build_steps.specs.Steps.{changed, changed_element, takes_more, renewed_memory, loaded_first, left_memory, one_at}
use Rattle.graph_build_runs.specs.Typed.{IsOf, IsPointerTo}
use Rattle.graph_build_runs.specs.Correspondence.{SameValue}
use Rattle.graph_build_runs.proofs.Tests.{HasWord}
use Rattle.graph_build_runs.proofs.Leads.{Setting, names_in, size_in, depth_in, Local, World, set_name, at, stays, goes, put_here, put_elsewhere, less_other}
use Rattle.graph_build_runs.proofs.Later.{Later, others_refl, value_later}
use Rattle.graph_build_runs.proofs.Kept.{is_want, Sound, Fits, ScalarsFirst, fits_temporary, fits_wanted}
use Rattle.graph_build_runs.proofs.Results.{operand_in, Result, stuck_now, ended_result, result_after}
use Rattle.graph_build_runs.proofs.Leaves.{leaf_done, with_then}
use Rattle.graph_build_runs.proofs.Noting.{known_value}
use Rattle.graph_build_runs.proofs.Typing.{HasKind, Keeps, Typed, gave_by, of_later, of_word}
use Rattle.graph_build_runs.proofs.Standing.{Stands, hold_inner}
use Rattle.graph_build_runs.proofs.Objects.{begun_live}
use Rattle.graph_build_runs.proofs.Operands.{Does, code_in, value_in, written_by, Low, Spares, or_false, behind_le}
use Rattle.graph_build_runs.proofs.Arithmetic.{pick_between}
use Rattle.graph_build_runs.proofs.Meanings.{all_at}
use Rattle.graph_build_runs.proofs.Access.{read_same}
use Rattle.graph_build_runs.proofs.Meant.{TypedPlace}
use Rattle.graph_build_runs.proofs.Places.{place_in, placing, within_written, pointed_in, DoesPlace}
use Rattle.graph_build_runs.proofs.Loading.{pointed_same, PlaceLays}
use Rattle.graph_build_runs.proofs.Writing.{store_cases, want_by, store_step, stored_done}
use Rattle.graph_build_runs.proofs.Holding.{IsPlaceAside, IsPlaceBelow, hold_place, place_stays, result_behind, place_next}
use Rattle.graph_build_runs.proofs.Assigning.{PlaceBelow, PlaceFresh, GrowsPlace, AimsPlace, none_aside, place_aside, spare_want}
use Rattle.graph_build_runs.proofs.PointerSums.{below_later}
use Rattle.graph_build_runs.proofs.Renewing.{Changes}
use Rattle.graph_build_runs.proofs.Anew.{fits_agree, restored, restored_temporary, restored_fits, put_back}

-- What is designated is read, and what follows works with both.
pub located_with : (r : Evaluated) (k : source-value.Value → source-value.Value → State → Evaluated) → with r (λ p s. with (load p s) (λ old u. k p old u)) ≡ on_both (left_side_read r) k
located_with (Gives p s) k = by (load p s)
  where
    by : (q : Evaluated) → with q (λ old u. k p old u) ≡ on_both (read_by p q) k
    by (Gives old u) = refl
    by (Leaves u) = refl
    by (Ends e u) = refl
located_with (Leaves s) k = refl
located_with (Ends e s) k = refl

-- What is read where a pointer points: nothing is defined, or both read the same.
pub load_cases : (x : Setting) (want : Option ℕ) (s : State) (l : Local) (w : World) (sc : Scalar) (p : source-value.Value) (given_word : Value) → Sound x.program x.begun s → Fits x want s l w → IsPointerTo s.memory (of-object.Scalar sc) p → SameValue x.program s.memory w.memory p given_word → (R : Evaluated → Type 0)
    → R (Ends ending.Undefined s) → ((v : source-value.Value) (u : Value) → read w.memory (rule.element_of sc) given_word ≡ Some u → SameValue x.program s.memory w.memory v u → IsOf s.memory (loaded_type sc) v → R (Gives v s)) → R (load p s)
load_cases x want s l w sc (source.Number z) given_word sound f is same R undefined next = absurd is
load_cases x want s l w sc source.Null given_word sound f is same R undefined next = undefined
load_cases x want s l w sc (source.Pointer n offset) given_word sound f c same R undefined next =
    subst (λ q. R (with (value_or_undefined (option_and_then (λ o. value_at o offset) q) s) usable)) (sym c.is) (by_phase (is_begun c.object.phase) refl)
  where
    used : (v : source-value.Value) → R (Gives v s) → (b : Bool) → R (if b then Gives v s else Ends ending.Undefined s)
    used v h true = h
    used v h false = undefined

    found : is_begun c.object.phase ≡ true → (r : Option source-value.Value) → slice_get c.object.values (index_at c.object offset) ≡ r → R (with (value_or_undefined r s) usable)
    found begun None e = undefined
    found begun (Some v) e =
        let got = read_same x want s l w sc n offset given_word v sound f c (begun_live c.object.phase begun) e same in
        let typed : IsOf s.memory (loaded_type sc) v = subst (λ q. IsOf s.memory (loaded_type q) v) c.element_is (all_at s.memory (loaded_type c.object.element) c.object.values (index_at c.object offset) v (sound.typed n c.object c.is) e) in
        used v (next v got.0 got.1 got.2 typed) (is_usable s.memory v)

    by_phase : (b : Bool) → is_begun c.object.phase ≡ b → R (with (value_or_undefined (if b then slice_get c.object.values (index_at c.object offset) else None) s) usable)
    by_phase false e = undefined
    by_phase true e = found e (slice_get c.object.values (index_at c.object offset)) refl

-- the unit's instruction that loads
load_step : (x : Setting) (k : ℕ) (e : declared-element.Element) (loc : Location) (ops : List Instruction) (end : End) (l : Local) (w : World) (u : Value) → read w.memory e (pointed_in x l w loc) ≡ Some u → step x.unit (at x (unit.Load k e loc ∷ ops) end l w) ≡ Goes (at x ops end (set_name l k u) w)
load_step x k e loc ops end l w u is = ap (λ q. wrote_some (at x ops end l w) k (read w.memory e q)) (pointed_same x ops end l w loc) ∙ ap (wrote_some (at x ops end l w) k) is

-- what is said of the name by which a location is found, if by a name
abbrev pub PlaceIs : (ℕ → Type 0) → Location → Type 0
PlaceIs Q (At (Name y)) = Q y
PlaceIs Q (At (Constant word)) = Unit {0}
PlaceIs Q (At (StaticAddress o k)) = Unit {0}
PlaceIs Q (Automatic o k) = Unit {0}
PlaceIs Q (StaticPlace o) = Unit {0}

-- a place is as it was where that name is
place_agrees : (x : Setting) (l m : Local) (w : World) (loc : Location) → PlaceIs (λ y. m.names y ≡ l.names y) loc → pointed_in x m w loc ≡ pointed_in x l w loc
place_agrees x l m w (At (Name y)) e = e
place_agrees x l m w (At (Constant word)) e = refl
place_agrees x l m w (At (StaticAddress o k)) e = refl
place_agrees x l m w (Automatic o k) e = refl
place_agrees x l m w (StaticPlace o) e = refl

-- what is so below a number and aside of a wanted name
place_names : (Q : ℕ → Type 0) (t : ℕ) (want : Option ℕ) (loc : Location) → IsPlaceBelow t loc → IsPlaceAside want loc → ((y : ℕ) → y < t → is_want want y ≡ false → Q y) → PlaceIs Q loc
place_names Q t want (At (Name y)) below aside h = h y below aside
place_names Q t want (At (Constant word)) below aside h = tt
place_names Q t want (At (StaticAddress o k)) below aside h = tt
place_names Q t want (Automatic o k) below aside h = tt
place_names Q t want (StaticPlace o) below aside h = tt

held_names : (Q : ℕ → Type 0) (moved : Bool) (t : ℕ) (loc : Location) → (moved ≡ true → Q t) → PlaceIs Q loc → PlaceIs Q (held_location moved t loc)
held_names Q true t (At a) q h = q refl
held_names Q true t (Automatic o k) q h = tt
held_names Q true t (StaticPlace o) q h = tt
held_names Q false t loc q h = h

-- a name is not one that is picked, if it is neither
other_pick : (n : Names) (a b y : ℕ) → y == a ≡ false → y == b ≡ false → y == pick n a b ≡ false
other_pick n a b y na nb = go n.again
  where
    go : (again : Bool) → y == (if again then a else b) ≡ false
    go true = na
    go false = nb

-- a name that a goal wants is written, or a temporary
fits_target : (x : Setting) (g : Goal) (own : ℕ) (s : State) (l : Local) (w : World) (v : Value) → ScalarsFirst x → size_in x ≤ own → Fits x None s l w → Fits x (want_by g) s (set_name l (target g own) v) w
fits_target x (To None m) own s l w v low size f = fits_temporary x s l w own v low f size
fits_target x (To (Some k) m) own s l w v low size f = fits_wanted x s l w k v f
fits_target x (Unused m) own s l w v low size f = fits_temporary x s l w own v low f size
fits_target x (Either first_way other inner) own s l w v low size f = fits_temporary x s l w own v low f size

-- no other name is the target
target_apart : (x : Setting) (g : Goal) (own y : ℕ) → y == own ≡ false → is_want (want_by g) y ≡ false → y == target g own ≡ false
target_apart x (To None m) own y ne nw = ne
target_apart x (To (Some k) m) own y ne nw = nw
target_apart x (Unused m) own y ne nw = ne
target_apart x (Either first_way other inner) own y ne nw = ne

target_in : (g : Goal) (own : ℕ) → operand_in (want_by g) (Name own) ≡ Name (target g own)
target_in (To None m) own = refl
target_in (To (Some k) m) own = refl
target_in (Unused m) own = refl
target_in (Either first_way other inner) own = refl

place_below_later : (t k : ℕ) (loc : Location) → t ≤ k → IsPlaceBelow t loc → IsPlaceBelow k loc
place_below_later t k (At a) le is = below_later t k a le is
place_below_later t k (Automatic o j) le is = tt
place_below_later t k (StaticPlace o) le is = tt

of_later_pointer : (sc : Scalar) (memory after : SourceMemory) → Later memory after → (p : source-value.Value) → IsPointerTo memory (of-object.Scalar sc) p → IsPointerTo after (of-object.Scalar sc) p
of_later_pointer sc memory after later p is = of_later memory after later (PointerType (of-object.Scalar sc)) p is

-- What is in memory changes: it is loaded, a new value is made of it, and stored.
module _ (x : Setting) (calls : Calls) (low : ScalarsFirst x) (sc : Scalar) (lv : LvalueTree) (of : object_type lv ≡ of-object.Scalar sc) (typed_lv : TypedPlace x calls lv) (lays_lv : PlaceLays x lv) (below_lv : PlaceBelow x lv) (fresh_lv : PlaceFresh x lv) (grows_lv : GrowsPlace x lv) (does_lv : DoesPlace x calls lv)
    (c : declared-change.Change) (target_type : ValueType) (HasBy : source-value.Value → Type 0) (next : SourceMemory → source-value.Value → source-value.Value → Option source-value.Value) (changes : Changes x c target_type HasBy next)
    (element_is : changed_element c ≡ rule.element_of sc) (type_is : loaded_type sc ≡ target_type) where
  abbrev next_of : ℕ → ℕ
  next_of t = (place_laid (names_in x) lv t).next

  abbrev el : declared-element.Element
  el = changed_element c

  -- the new value is made and stored
  module _ (moved_of : Bool) (t : ℕ) (by : Laid) (g : Goal) where
    abbrev held_of : Location
    held_of = held_location moved_of (next_of t + 1) (place_in x lv t)

    abbrev own_of : ℕ
    own_of = pick (names_in x) (next_of t) (behind_move (takes_more c by.value) by.next)

    abbrev last_of : Made
    last_of = renewed_memory (names_in x) c (place_laid (names_in x) lv t) moved_of by g

    renews : (p vo vb : source-value.Value) (s : State) (l : Local) (w : World) → size_in x ≤ t → (moved_of ≡ true → next_of t + 1 < by.next) → next_of t < by.next → AimsPlace x g lv t → Sound x.program x.begun s → Fits x None s l w → IsPointerTo s.memory (of-object.Scalar sc) p
        → SameValue x.program s.memory w.memory p (pointed_in x l w held_of) → IsOf s.memory target_type vo → HasBy vb → SameValue x.program s.memory w.memory vo (l.names (next_of t)) → SameValue x.program s.memory w.memory vb (value x.unit.statics l.names by.value)
        → (r : Option source-value.Value) → next s.memory vo vb ≡ r → Result x g (Name own_of) t (λ y. false) last_of.ops last_of.end l w (store_if r p s)
    renews p vo vb s l w size later_held later aims sound f is pointer ho hb same_o same_b None e =
        ended_result x g (Name own_of) t (λ y. false) last_of.ops last_of.end l w ending.Undefined s (stuck_now x None last_of.ops last_of.end s l w f)
    renews p vo vb s l w size later_held later aims sound f is pointer ho hb same_o same_b (Some new) e =
        let le = lays_lv t size in
        let temp = pick (names_in x) (next_of t) by.next in
        let temp_le = pick_between (names_in x) (next_of t) by.next (next_of t) (omega arith) (omega (arith, later)) in
        let more_le = behind_le (takes_more c by.value) by.next in
        let own_le = pick_between (names_in x) (next_of t) (behind_move (takes_more c by.value) by.next) (next_of t) (omega arith) (omega (arith, later, more_le)) in
        let m = stored el held_of (Name (target g own_of)) g in
        let h = changes.renews (λ q. Fits x None s q w) (λ q j u above q_fits. fits_temporary x s q w j u low q_fits above) (target g own_of) temp by.next (Name (next_of t)) by.value m s None l l w vo vb new (omega (arith, size, le, temp_le)) (omega (arith, size, le, later)) later sound f f ho hb same_o same_b e in
        let made = h.1 in
        let l2 = set_name made.local (target g own_of) h.0 in
        let fits2 = fits_target x g own_of s made.local w h.0 low (omega (arith, size, le, own_le)) made.holds in
        let agrees : PlaceIs (λ y. l2.names y ≡ l.names y) held_of =
        held_names (λ y. l2.names y ≡ l.names y) moved_of (next_of t + 1) (place_in x lv t) (λ now. held_kept made.local made.kept h.0 now)
        (place_names (λ y. l2.names y ≡ l.names y) (next_of t) (want_by g) (place_in x lv t) (below_lv t size) (place_aside x g lv t fresh_lv size aims)
        (λ y lt nw. put_elsewhere made.local.names (target g own_of) y h.0 (target_apart x g own_of y (less_other y own_of (omega (arith, lt, own_le))) nw) ∙ made.kept y (omega (arith, lt, later)) (less_other y temp (omega (arith, lt, temp_le))))) in
        let place = place_agrees x l l2 w held_of agrees in
        let typed_new = changes.typed s.memory vo vb new ho hb e in
        let is_new : l2.names (target g own_of) ≡ h.0 = put_here made.local.names (target g own_of) h.0 in
        let same_new : SameValue x.program s.memory w.memory new (l2.names (target g own_of)) = subst (SameValue x.program s.memory w.memory new) (sym is_new) h.2 in
        result_behind x t t (λ y. false) (λ y. false) last_of.ops m.ops last_of.end m.end l l2 w w made.leads (others_refl w.memory) g
        (λ y lt nw nf. (lt, refl, put_elsewhere made.local.names (target g own_of) y h.0 (target_apart x g own_of y (less_other y own_of (omega (arith, lt, le, own_le))) nw) ∙ made.kept y (omega (arith, lt, le, later)) (less_other y temp (omega (arith, lt, le, temp_le)))))
        (Name own_of) (store p new s)
        (store_cases x (want_by g) s l2 w sc p (pointed_in x l2 w held_of) new (l2.names (target g own_of)) sound fits2 is (subst (SameValue x.program s.memory w.memory p) (sym place) pointer) (subst (λ q. IsOf s.memory q new) (sym type_is) typed_new) same_new
        (λ r. Result x g (Name own_of) t (λ y. false) m.ops m.end l2 w r) (ended_result x g (Name own_of) t (λ y. false) m.ops m.end l2 w ending.Undefined s (stuck_now x (want_by g) m.ops m.end s l2 w fits2))
        (λ after q. stored_done x g el held_of (Name (target g own_of)) (Name own_of) t (λ y. false) new (record s { memory = after }) l2 w q.memory (ap (λ z. write w.memory z (pointed_in x l2 w held_of) (l2.names (target g own_of))) element_is ∙ q.writes) q.others_later q.fits q.same
        (of_word s.memory target_type new typed_new) (ap (value x.unit.statics l2.names) (sym (target_in g own_of)))))
      where
        held_kept : (q : Local) → ((y : ℕ) → y < by.next → y == pick (names_in x) (next_of t) by.next ≡ false → q.names y ≡ l.names y) → (u : Value) → moved_of ≡ true → (set_name q (target g own_of) u).names (next_of t + 1) ≡ l.names (next_of t + 1)
        held_kept q kept u now =
            let lt = later_held now in
            let le = lays_lv t size in
            let more_le = behind_le (takes_more c by.value) by.next in
            let beside : next_of t + 1 == next_of t ≡ false = grind (arith, nat_tests) in
            let own_ne = other_pick (names_in x) (next_of t) (behind_move (takes_more c by.value) by.next) (next_of t + 1) beside (less_other (next_of t + 1) (behind_move (takes_more c by.value) by.next) (omega (arith, lt, more_le))) in
            let temp_ne = other_pick (names_in x) (next_of t) by.next (next_of t + 1) beside (less_other (next_of t + 1) by.next lt) in
            put_elsewhere q.names (target g own_of) (next_of t + 1) u (target_apart x g own_of (next_of t + 1) own_ne (spare_want x g lv t (next_of t + 1) aims (omega (arith, le)))) ∙ kept (next_of t + 1) lt temp_ne

  -- the value that is there is loaded
  loaded_then : (t : ℕ) (g : Goal) (a : Operand) (f : ℕ → Bool) (m : Made) (p : source-value.Value) (s : State) (l : Local) (w : World) → size_in x ≤ t → Sound x.program x.begun s → Fits x None s l w → IsPointerTo s.memory (of-object.Scalar sc) p → SameValue x.program s.memory w.memory p (pointed_in x l w (place_in x lv t))
      → (onward : source-value.Value → State → Evaluated)
      → ((vo : source-value.Value) (l2 : Local) → Fits x None s l2 w → SameValue x.program s.memory w.memory vo (l2.names (next_of t)) → IsOf s.memory target_type vo → SameValue x.program s.memory w.memory p (pointed_in x l2 w (place_in x lv t)) → Result x g a t f m.ops m.end l2 w (onward vo s))
      → Result x g a t f (unit.Load (next_of t) el (place_in x lv t) ∷ m.ops) m.end l w (with (load p s) onward)
  loaded_then t g a f m p s l w size sound fits is pointer onward go_on =
      let le = lays_lv t size in
      let k = next_of t in
      let i = unit.Load k el (place_in x lv t) in
      load_cases x None s l w sc p (pointed_in x l w (place_in x lv t)) sound fits is pointer (λ r. Result x g a t f (i ∷ m.ops) m.end l w (with r onward))
      (ended_result x g a t f (i ∷ m.ops) m.end l w ending.Undefined s (stuck_now x None (i ∷ m.ops) m.end s l w fits))
      (λ v u reads same typed.
      (let l2 = set_name l k u in
      let place = place_agrees x l l2 w (place_in x lv t)
      (place_names (λ y. l2.names y ≡ l.names y) k None (place_in x lv t) (below_lv t size) (none_aside (place_in x lv t)) (λ y lt nw. put_elsewhere l.names k y u (less_other y k lt))) in
      result_after x t t f f (i ∷ m.ops) m.ops m.end m.end l l2 w w
      (goes (load_step x k el (place_in x lv t) m.ops m.end l w u (ap (λ z. read w.memory z (pointed_in x l w (place_in x lv t))) element_is ∙ reads)) stays) (λ y lt nf. (lt, nf, put_elsewhere l.names k y u (less_other y k (omega (arith, lt, le))))) (others_refl w.memory) g a (onward v s)
      (go_on v l2 (fits_temporary x s l w k u low fits (omega (arith, size, le))) (subst (SameValue x.program s.memory w.memory v) (sym (put_here l.names k u)) same) (subst (λ q. IsOf s.memory q v) type_is typed)
      (subst (SameValue x.program s.memory w.memory p) (sym place) pointer))))

  -- a place is found, and what follows works with what is there
  placed_then : (t : ℕ) (g : Goal) (a : Operand) (f f2 : ℕ → Bool) (m : Made) (s : State) (l : Local) (w : World) (k : source-value.Value → source-value.Value → State → Evaluated) → size_in x ≤ t → Stands x.graph x.top (placing x lv t m).inner → Sound x.program x.begun s → Fits x None s l w
      → ((y : ℕ) → y < t → f y ≡ false → (within_written x lv y ≡ false) × (f2 y ≡ false))
      → ((p : source-value.Value) (s1 : State) (l1 : Local) (w1 : World) → Sound x.program x.begun s1 → Fits x None s1 l1 w1 → IsPointerTo s1.memory (of-object.Scalar sc) p → SameValue x.program s1.memory w1.memory p (pointed_in x l1 w1 (place_in x lv t)) → Result x g a t f2 m.ops m.end l1 w1 (with (load p s1) (λ old u. k p old u)))
      → Result x g a t f (placing x lv t m).ops (placing x lv t m).end l w (on_both (left_side_read (designate calls (depth_in x) lv s)) k)
  placed_then t g a f f2 m s l w k size st sound fits spares go_on =
      let code = placing x lv t m in
      subst (Result x g a t f code.ops code.end l w) (located_with (designate calls (depth_in x) lv s) k)
      (place_next x g m lv a t t f f2 code.ops code.end l w (designate calls (depth_in x) lv s) (λ p s1. with (load p s1) (λ old u. k p old u)) (omega arith) spares (does_lv t m s l w size st sound fits)
      (λ p s1 e h. (let gave = subst (Keeps x.program x.begun s.memory (Of (PointerType (object_type lv)))) e (typed_lv s sound) in
      go_on p s1 h.reached.local h.reached.world gave.sound h.reached.fits (subst (λ q. IsPointerTo s1.memory q p) of gave.is) h.same)))

  stored_replaced : (r : Option source-value.Value) (p old : source-value.Value) (s : State) → store_if r p s ≡ replace_if r New p old s
  stored_replaced None p old s = refl
  stored_replaced (Some new) p old s = refl

  -- `++` and `--` before what is in memory
  pub memory_stepped_new : (t : ℕ) (g : Goal) (s : State) (l : Local) (w : World) → size_in x ≤ t → AimsPlace x g lv t → HasBy one → Stands x.graph x.top (placing x lv t (loaded_first c (place_laid (names_in x) lv t) false (renewed_memory (names_in x) c (place_laid (names_in x) lv t) false (one_at (next_of t + 1)) g))).inner
      → Sound x.program x.begun s → Fits x None s l w
      → Result x g (Name (own_of false t (one_at (next_of t + 1)) g)) t (within_written x lv) (placing x lv t (loaded_first c (place_laid (names_in x) lv t) false (renewed_memory (names_in x) c (place_laid (names_in x) lv t) false (one_at (next_of t + 1)) g))).ops
      (placing x lv t (loaded_first c (place_laid (names_in x) lv t) false (renewed_memory (names_in x) c (place_laid (names_in x) lv t) false (one_at (next_of t + 1)) g))).end l w
      (on_both (left_side_read (designate calls (depth_in x) lv s)) (λ p old u. replace_if (next u.memory old one) New p old u))
  memory_stepped_new t g s l w size aims one_is st sound fits =
      let by = one_at (next_of t + 1) in
      let m = renewed_memory (names_in x) c (place_laid (names_in x) lv t) false by g in
      let a = Name (own_of false t by g) in
      placed_then t g a (within_written x lv) (λ y. false) (loaded_first c (place_laid (names_in x) lv t) false m) s l w (λ p old u. replace_if (next u.memory old one) New p old u) size st sound fits (λ y lt nf. (nf, refl))
      (λ p s1 l1 w1 sound1 fits1 is pointer. loaded_then t g a (λ y. false) m p s1 l1 w1 size sound1 fits1 is pointer (λ old u. replace_if (next u.memory old one) New p old u)
      (λ vo l2 fits2 same_o ho pointer2. subst (Result x g a t (λ y. false) m.ops m.end l2 w1) (stored_replaced (next s1.memory vo one) p vo s1)
      (renews false t by g p vo one s1 l2 w1 size (λ now. absurd (never now)) (omega arith) aims sound1 fits2 is pointer2 ho one_is same_o refl (next s1.memory vo one) refl)))
    where
      never : false ≡ true → ⊥
      never h = cc

  -- `op=` on what is in memory
  module _ (e : RvalueTree) (typed_e : Typed x calls e) (low_e : Low x e) (spares_e : Spares x e) (does_e : Does x calls e) (by_is : (memory : SourceMemory) (u : source-value.Value) → HasKind memory (kind_of x.program x.tree e) u → HasBy u) where
    abbrev moved_by_e : ℕ → Bool
    moved_by_e t = is_location_moved (λ y. writes (names_in x) y e) (place_in x lv t)

    abbrev from_of : ℕ → ℕ
    from_of t = behind_move (moved_by_e t) (next_of t + 1)

    abbrev by_of : ℕ → Laid
    by_of t = laid (names_in x) e Anywhere (from_of t)

    abbrev renewed_of : ℕ → Goal → Made
    renewed_of t g = renewed_memory (names_in x) c (place_laid (names_in x) lv t) (moved_by_e t) (by_of t) g

    abbrev right_of : ℕ → Goal → Made
    right_of t g = code_in x e (from_of t) (To None (renewed_of t g))

    abbrev whole_of : ℕ → Goal → Made
    whole_of t g = placing x lv t (loaded_first c (place_laid (names_in x) lv t) (moved_by_e t) (right_of t g))

    pub memory_updated : (t : ℕ) (g : Goal) (s : State) (l : Local) (w : World) → size_in x ≤ t → AimsPlace x g lv t → Stands x.graph x.top (whole_of t g).inner → Sound x.program x.begun s → Fits x None s l w
        → Result x g (Name (own_of (moved_by_e t) t (by_of t) g)) t (λ y. within_written x lv y || writes (names_in x) y e) (whole_of t g).ops (whole_of t g).end l w
        (on_both (left_side_read (designate calls (depth_in x) lv s)) (λ p old u. with (evaluate calls (depth_in x) e u) (λ b z. store_if (next z.memory old b) p z)))
    memory_updated t g s l w size aims st sound fits =
        let a = Name (own_of (moved_by_e t) t (by_of t) g) in
        let m = hold_location (moved_by_e t) (next_of t + 1) (place_in x lv t) (right_of t g) in
        placed_then t g a (λ y. within_written x lv y || writes (names_in x) y e) (written_by x e) (loaded_first c (place_laid (names_in x) lv t) (moved_by_e t) (right_of t g)) s l w
        (λ p old u. with (evaluate calls (depth_in x) e u) (λ b z. store_if (next z.memory old b) p z)) size st sound fits (λ y lt nf. or_false (within_written x lv y) (writes (names_in x) y e) nf)
        (λ p s1 l1 w1 sound1 fits1 is pointer. loaded_then t g a (written_by x e) m p s1 l1 w1 size sound1 fits1 is pointer (λ old u. with (evaluate calls (depth_in x) e u) (λ b z. store_if (next z.memory old b) p z))
        (λ vo l2 fits2 same_o ho pointer2. evaluates p vo s1 l2 w1 sound1 fits2 is pointer2 ho same_o))
      where
        inner : Stands x.graph x.top (right_of t g).inner
        inner = subst (Stands x.graph x.top) (hold_inner (moved_by_e t) (next_of t + 1) (operand_at (place_in x lv t)) (right_of t g)) (grows_lv t (loaded_first c (place_laid (names_in x) lv t) (moved_by_e t) (right_of t g)) st)

        evaluates : (p vo : source-value.Value) (s1 : State) (l2 : Local) (w1 : World) → Sound x.program x.begun s1 → Fits x None s1 l2 w1 → IsPointerTo s1.memory (of-object.Scalar sc) p → SameValue x.program s1.memory w1.memory p (pointed_in x l2 w1 (place_in x lv t)) → IsOf s1.memory target_type vo
            → SameValue x.program s1.memory w1.memory vo (l2.names (next_of t))
            → Result x g (Name (own_of (moved_by_e t) t (by_of t) g)) t (written_by x e) (hold_location (moved_by_e t) (next_of t + 1) (place_in x lv t) (right_of t g)).ops (hold_location (moved_by_e t) (next_of t + 1) (place_in x lv t) (right_of t g)).end l2 w1
            (with (evaluate calls (depth_in x) e s1) (λ b z. store_if (next z.memory vo b) p z))
        evaluates p vo s1 l2 w1 sound1 fits2 is pointer ho same_o =
            let a = Name (own_of (moved_by_e t) t (by_of t) g) in
            let le = lays_lv t size in
            let up = behind_le (moved_by_e t) (next_of t + 1) in
            let m = right_of t g in
            let code = hold_location (moved_by_e t) (next_of t + 1) (place_in x lv t) m in
            let h = hold_place x (moved_by_e t) (place_in x lv t) (next_of t + 1) m s1 l2 w1 low (omega (arith, size, le)) fits2 in
            let pointer_held : SameValue x.program s1.memory w1.memory p (pointed_in x h.local w1 (held_of (moved_by_e t) t (by_of t) g)) = subst (SameValue x.program s1.memory w1.memory p) (sym h.same) pointer in
            let known = known_value x.program s1.memory w1.memory p (pointed_in x h.local w1 (held_of (moved_by_e t) t (by_of t) g)) pointer_held in
            let below = place_below_later (next_of t) (next_of t + 1) (place_in x lv t) (omega arith) (below_lv t size) in
            result_after x t t (written_by x e) (written_by x e) code.ops m.ops code.end m.end l2 h.local w1 w1 h.leads (λ y lt nf. (lt, nf, h.kept y (omega (arith, lt, le)))) (others_refl w1.memory) g a (with (evaluate calls (depth_in x) e s1) (λ b z. store_if (next z.memory vo b) p z))
            (with_then x None g (renewed_of t g) a (value_in x e (from_of t)) t (from_of t) t (written_by x e) (written_by x e) (λ y. false) m.ops m.end h.local w1 (evaluate calls (depth_in x) e s1) (λ b z. store_if (next z.memory vo b) p z) (omega (arith, le, up)) (omega arith) (λ y lt nf. (refl, nf, refl))
            (does_e (from_of t) (To None (renewed_of t g)) s1 h.local w1 (omega (arith, size, le, up)) inner sound1 h.fits tt)
            (λ b s2 e2 h2.
            (let gave = gave_by x.program x.begun s1.memory (kind_of x.program x.tree e) (evaluate calls (depth_in x) e s1) b s2 e2 (typed_e s1 sound1) in
            let next_le = (low_e (from_of t) (omega (arith, size, le, up))).next in
            let place = place_stays x None (λ y. writes (names_in x) y e) (place_in x lv t) (next_of t + 1) h.local h2.reached.local w1 h2.reached.world below (spares_e (next_of t + 1) (omega (arith, size, le))) refl (none_aside (place_in x lv t)) (λ y lt nw nf. h2.reached.kept y lt nw nf) h2.reached.later known in
            let old_is : h2.reached.local.names (next_of t) ≡ l2.names (next_of t) = h2.reached.kept (next_of t) (omega (arith, up)) refl (spares_e (next_of t) (omega (arith, size, le))) ∙ h.kept (next_of t) (omega arith) in
            renews (moved_by_e t) t (by_of t) g p vo b s2 h2.reached.local h2.reached.world size (λ now. (let is_from = ap (λ q. behind_move q (next_of t + 1)) now in omega (arith, next_le, is_from))) (omega (arith, up, next_le)) aims gave.sound h2.reached.fits
            (of_later_pointer sc s1.memory s2.memory gave.later p is)
            (subst (SameValue x.program s2.memory h2.reached.world.memory p) (sym place) (value_later x.program s1.memory s2.memory w1.memory h2.reached.world.memory gave.later h2.reached.later p (pointed_in x h.local w1 (held_of (moved_by_e t) t (by_of t) g)) pointer_held))
            (of_later s1.memory s2.memory gave.later target_type vo ho) (by_is s2.memory b gave.is)
            (subst (SameValue x.program s2.memory h2.reached.world.memory vo) (sym old_is) (value_later x.program s1.memory s2.memory w1.memory h2.reached.world.memory gave.later h2.reached.later vo (l2.names (next_of t)) same_o)) h2.same (next s2.memory vo b) refl)))

  -- a place that an operand finds, used behind what is stored
  followed_done : (g : Goal) (k t : ℕ) (v : source-value.Value) (s : State) (l : Local) (w : World) → Fits x (want_by g) s l w → SameValue x.program s.memory w.memory v (l.names (target g k)) → HasWord v → Result x g (Name k) t (λ y. false) (follow g (target g k)).ops (follow g (target g k)).end l w (Gives v s)
  followed_done (To want m) k t v s l w f same word = record {
    reached = record { local = l; world = w; leads = stays; fits = f; kept = λ y lt nw nf. refl; later = others_refl w.memory };
    same = subst (λ a. SameValue x.program s.memory w.memory v (value x.unit.statics l.names a)) (sym (target_in (To want m) k)) same;
  }
  followed_done (Unused m) k t v s l w f same word = record { local = l; world = w; leads = stays; fits = f; kept = λ y lt nw nf. refl; later = others_refl w.memory }
  followed_done (Either first_way other inner) k t v s l w f same word = leaf_done x (Either first_way other inner) (Name k) t (λ y. false) v s l w f same word

  -- the names as they were, but for temporaries
  start_fits : (g : Goal) (k t : ℕ) (s : State) (l : Local) (w : World) (u : Value) → size_in x ≤ k → Fits x None s l w → Fits x None s (restored (want_by g) (l.names (target g k)) (set_name l (target g k) u)) w
  start_fits (To None m) k t s l w u size f = fits_temporary x s l w k u low f size
  start_fits (To (Some y) m) k t s l w u size f = fits_agree x None None s l (restored (Some y) (l.names y) (set_name l y u)) w f refl (λ z i is nw. (refl, put_back l.names y i u))
  start_fits (Unused m) k t s l w u size f = fits_temporary x s l w k u low f size
  start_fits (Either first_way other inner) k t s l w u size f = fits_temporary x s l w k u low f size

  -- the name of the old value is older than the free ones
  target_less : (g : Goal) (t k : ℕ) → AimsPlace x g lv t → t ≤ k → target g k < left_free (use_of g) k
  target_less (To None m) t k aims le = omega arith
  target_less (To (Some y) m) t k aims le = let lt = aims.0 in omega (arith, lt, le)
  target_less (Unused m) t k aims le = omega arith
  target_less (Either first_way other inner) t k aims le = omega arith

  free_above : (g : Goal) (k : ℕ) → k ≤ left_free (use_of g) k
  free_above (To None m) k = omega arith
  free_above (To (Some y) m) k = omega arith
  free_above (Unused m) k = omega arith
  free_above (Either first_way other inner) k = omega arith

  -- `++` and `--` behind what is in memory
  module _ (t : ℕ) (g : Goal) where
    abbrev old_of : ℕ
    old_of = target g (next_of t)

    abbrev free_of : ℕ
    free_of = left_free (use_of g) (next_of t)

    abbrev new_of : ℕ
    new_of = behind_move (takes_more c (Constant 1)) free_of

    abbrev stores_of : Made
    stores_of = instruction_before (Store el (place_in x lv t) (Name new_of)) (follow g old_of)

    abbrev changes_of : Made
    changes_of = changed c new_of free_of free_of (Name old_of) (Constant 1) stores_of

    -- the new value is stored, and the old one is used
    leaves : (p vo : source-value.Value) (s : State) (l l2 : Local) (w : World) (u : Value) → size_in x ≤ t → AimsPlace x g lv t → HasBy one → Sound x.program x.begun s → Fits x None s l w → l2 ≡ set_name l old_of u → IsPointerTo s.memory (of-object.Scalar sc) p → SameValue x.program s.memory w.memory p (pointed_in x l w (place_in x lv t)) → IsOf s.memory target_type vo
        → SameValue x.program s.memory w.memory vo u → (r : Option source-value.Value) → next s.memory vo one ≡ r
        → Result x g (Name (next_of t)) t (λ y. false) changes_of.ops changes_of.end (set_name l old_of u) w (replace_if r Old p vo s)
    leaves p vo s l l2 w u size aims one_is sound f is_l2 is pointer ho same_o None e =
        undefined_now p vo s l w u f
      where
        undefined_now : (p vo : source-value.Value) (s : State) (l : Local) (w : World) (u : Value) → Fits x None s l w → Result x g (Name (next_of t)) t (λ y. false) changes_of.ops changes_of.end (set_name l old_of u) w (Ends ending.Undefined s)
        undefined_now p vo s l w u f =
            ended_result x g (Name (next_of t)) t (λ y. false) changes_of.ops changes_of.end (set_name l old_of u) w ending.Undefined s
            (record { configuration = at x changes_of.ops changes_of.end (set_name l old_of u) w; seen = w.seen; leads = stays; ends = f.events })
    leaves p vo s l l2 w u size aims one_is sound f is_l2 is pointer ho same_o (Some new) e =
        let le = lays_lv t size in
        let free_le = free_above g (next_of t) in
        let less = target_less g t (next_of t) aims le in
        let more_le = behind_le (takes_more c (Constant 1)) free_of in
        let start = set_name l old_of u in
        let before_it = l.names old_of in
        let start_is = start_fits g (next_of t) t s l w u (omega (arith, size, le)) f in
        let old_is : start.names old_of ≡ u = put_here l.names old_of u in
        let h = changes.renews (λ q. Fits x None s (restored (want_by g) before_it q) w) (λ q j a above q_fits. restored_temporary x low s w (want_by g) before_it q j a above q_fits) new_of free_of free_of (Name old_of) (Constant 1) stores_of s None (restored (want_by g) before_it start) start w vo one new
        (omega (arith, size, le, free_le)) (omega (arith, size, le, free_le)) less sound start_is start_is ho one_is (subst (SameValue x.program s.memory w.memory vo) (sym old_is) same_o) refl e in
        let made = h.1 in
        let l3 = set_name made.local new_of h.0 in
        let fits3 = restored_fits x s w (want_by g) before_it l3 (restored_temporary x low s w (want_by g) before_it made.local new_of h.0 (omega (arith, size, le, free_le, more_le)) made.holds) in
        let names_kept : (y : ℕ) → y < free_of → l3.names y ≡ start.names y = λ y lt. put_elsewhere made.local.names new_of y h.0 (less_other y new_of (omega (arith, lt, more_le))) ∙ made.kept y lt (less_other y free_of lt) in
        let place = place_agrees x l l3 w (place_in x lv t)
        (place_names (λ y. l3.names y ≡ l.names y) (next_of t) (want_by g) (place_in x lv t) (below_lv t size) (place_aside x g lv t fresh_lv size aims)
        (λ y lt nw. names_kept y (omega (arith, lt, free_le)) ∙ put_elsewhere l.names old_of y u (target_apart x g (next_of t) y (less_other y (next_of t) lt) nw))) in
        let typed_new = changes.typed s.memory vo one new ho one_is e in
        let is_new : l3.names new_of ≡ h.0 = put_here made.local.names new_of h.0 in
        let same_new : SameValue x.program s.memory w.memory new (l3.names new_of) = subst (SameValue x.program s.memory w.memory new) (sym is_new) h.2 in
        let undefined = ended_result x g (Name (next_of t)) t (λ y. false) stores_of.ops stores_of.end l3 w ending.Undefined s (stuck_now x (want_by g) stores_of.ops stores_of.end s l3 w fits3) in
        result_behind x t t (λ y. false) (λ y. false) changes_of.ops stores_of.ops changes_of.end stores_of.end start l3 w w made.leads (others_refl w.memory) g (λ y lt nw nf. (lt, refl, names_kept y (omega (arith, lt, le, free_le))))
        (Name (next_of t)) (with (store p new s) (λ z q. Gives vo q))
        (store_cases x (want_by g) s l3 w sc p (pointed_in x l3 w (place_in x lv t)) new (l3.names new_of) sound fits3 is (subst (SameValue x.program s.memory w.memory p) (sym place) pointer) (subst (λ q. IsOf s.memory q new) (sym type_is) typed_new) same_new
        (λ r. Result x g (Name (next_of t)) t (λ y. false) stores_of.ops stores_of.end l3 w (with r (λ z q. Gives vo q))) undefined
        (λ after q.
        (let w1 : World = record w { memory = q.memory } in
        let m = follow g old_of in
        let s1 : State = record s { memory = after } in
        let still : l3.names old_of ≡ u = names_kept old_of less ∙ old_is in
        let same_after : SameValue x.program after q.memory vo (l3.names old_of) = subst (SameValue x.program after q.memory vo) (sym still) (value_later x.program s.memory after w.memory q.memory q.later q.others_later vo u same_o) in
        result_behind x t t (λ y. false) (λ y. false) stores_of.ops m.ops stores_of.end m.end l3 l3 w w1
        (goes (store_step x el (place_in x lv t) (Name new_of) m.ops m.end l3 w q.memory (known_value x.program s.memory w.memory new (l3.names new_of) same_new) (ap (λ z. write w.memory z (pointed_in x l3 w (place_in x lv t)) (l3.names new_of)) element_is ∙ q.writes)) stays)
        q.others_later g (λ y lt nw nf. (lt, refl, refl)) (Name (next_of t)) (Gives vo s1) (followed_done g (next_of t) t vo s1 l3 w1 q.fits same_after (of_word s.memory target_type vo ho)))))

    pub memory_stepped_old : (s : State) (l : Local) (w : World) → size_in x ≤ t → AimsPlace x g lv t → HasBy one → Stands x.graph x.top (placing x lv t (left_memory c (place_laid (names_in x) lv t) g)).inner → Sound x.program x.begun s → Fits x None s l w
        → Result x g (Name (next_of t)) t (within_written x lv) (placing x lv t (left_memory c (place_laid (names_in x) lv t) g)).ops (placing x lv t (left_memory c (place_laid (names_in x) lv t) g)).end l w
        (on_both (left_side_read (designate calls (depth_in x) lv s)) (λ p old u. replace_if (next u.memory old one) Old p old u))
    memory_stepped_old s l w size aims one_is st sound fits =
        let a = Name (next_of t) in
        let m = left_memory c (place_laid (names_in x) lv t) g in
        let k : source-value.Value → source-value.Value → State → Evaluated = λ p old u. replace_if (next u.memory old one) Old p old u in
        placed_then t g a (within_written x lv) (λ y. false) m s l w k size st sound fits (λ y lt nf. (nf, refl))
        (λ p s1 l1 w1 sound1 fits1 is pointer.
        (load_cases x None s1 l1 w1 sc p (pointed_in x l1 w1 (place_in x lv t)) sound1 fits1 is pointer (λ r. Result x g a t (λ y. false) m.ops m.end l1 w1 (with r (λ old u. k p old u)))
        (ended_result x g a t (λ y. false) m.ops m.end l1 w1 ending.Undefined s1 (stuck_now x None m.ops m.end s1 l1 w1 fits1))
        (λ v u reads same typed.
        (let start = set_name l1 old_of u in
        let le = lays_lv t size in
        result_behind x t t (λ y. false) (λ y. false) m.ops changes_of.ops m.end changes_of.end l1 start w1 w1
        (goes (load_step x old_of el (place_in x lv t) changes_of.ops changes_of.end l1 w1 u (ap (λ z. read w1.memory z (pointed_in x l1 w1 (place_in x lv t))) element_is ∙ reads)) stays) (others_refl w1.memory) g
        (λ y lt nw nf. (lt, refl, put_elsewhere l1.names old_of y u (target_apart x g (next_of t) y (less_other y (next_of t) (omega (arith, lt, le))) nw))) a (k p v s1)
        (leaves p v s1 l1 start w1 u size aims one_is sound1 fits1 refl is pointer (subst (λ q. IsOf s1.memory q v) type_is typed) same (next s1.memory v one) refl)))))
