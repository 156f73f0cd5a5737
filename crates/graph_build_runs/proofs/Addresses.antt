-- Addresses of objects, and arrays that decay.
use Rattle.std.proofs.Common.{◌≡◌, ℕ, ◌+◌, ◌≤◌, ◌⊎◌, inl, inr, List, Option, Some, None, Bool, true, false, slice_get, refl, sym, ap, ◌∙◌, subst, arith}
use Rattle.std.specs.Prelude.{if◌then◌else◌, nat_le, option_map}
use Rattle.std.specs.Option.{option_map_or}
use Rattle.std.proofs.lemmas.Bool.Decides.{nat_tests}
use Rattle.word_base.specs.Owners.{Static, Literal, Variable}
use Rattle.c_tree.specs.declared.object_type.ObjectType.{ObjectType}
use Rattle.c_tree.specs.declared.object_type.Object as designator
use Rattle.c_tree.specs.declared.object_type.Object.TheVariants as object
use Rattle.c_tree.specs.TypedExpressions.{RvalueTree, Decay, AddressOf, Named, Target}
use Rattle.c_type_laws.specs.Expressions.{kind_of}
use Rattle.c_meaning_values.specs.declared.value.Value as source-value
use Rattle.c_meaning_values.specs.declared.value.Value.TheVariants as source
use Rattle.c_meaning_values.specs.Memory.{object_of as owned_number, is_usable}
use Rattle.c_meaning_steps.specs.declared.event.Ending.TheVariants as ending
use Rattle.c_meaning_steps.specs.States.{State, Evaluated, Gives, Leaves, Ends, value_or_undefined, with, usable}
use Rattle.c_meaning.specs.Expressions.{Calls, evaluate, designate}
use Rattle.c_meaning_steps.specs.Steps.{pointer_to_named, decayed}
use Rattle.graph_core.specs.declared.value.Value.TheVariants.{Pointer, Odd}
use Rattle.graph_core.specs.Graphs.{Operand, Name, StaticAddress, Static as StaticPlace, Instruction, Address, End}
use Rattle.graph_core.specs.Memory.{Object, Memory, bytes_of, pointer_to_object, address_in}
use Rattle.graph_core.specs.Values.{pointer_at}
use Rattle.graph_build_layout.specs.declared.laid.Use.TheVariants.{Anywhere}
use Rattle.graph_build_names.specs.Names.{object_of, object_location, pick}
use Rattle.graph_build_layout.specs.Laid.{object_laid}
use Rattle.graph_build_steps.specs.Drafts.{Made, Goal, To, Unused, Either, leaf, operated}
use Rattle.graph_build_code.specs.Code.{code_address}
use Rattle.graph_build_steps.specs.Steps.{or_zero}
use Rattle.graph_build_runs.specs.Correspondence.{SameValue}
use Rattle.graph_build_runs.proofs.Tests.{HasWord}
use Rattle.graph_build_runs.proofs.Leads.{Setting, names_in, size_in, depth_in, Local, World}
use Rattle.graph_build_runs.proofs.Kept.{Sound, Fits, ScalarsFirst}
use Rattle.graph_build_runs.proofs.Results.{ToR, UnusedR, Result, stuck_now, ended_result}
use Rattle.graph_build_runs.proofs.Leaves.{leaf_done, operated_done, with_then, left_stuck}
use Rattle.graph_build_runs.proofs.Typing.{Typed, gave_by, kind_word}
use Rattle.graph_build_runs.proofs.Standing.{Stands}
use Rattle.graph_build_runs.proofs.Operands.{Aims, Does, code_in, value_in, written_by}
use Rattle.graph_build_runs.proofs.Arithmetic.{pick_between}
use Rattle.graph_build_runs.proofs.Places.{place_in, pointed_in, DoesPlace, StaticsThere, variable_place, static_place, literal_place}
use Rattle.graph_build_runs.proofs.Holding.{place_next}
use Rattle.graph_build_runs.proofs.PointerSums.{Filters, gives_filters, decayed_filters, given_gives}

-- a pointer to the beginning of an object
begins : (memory : Memory) (n : ℕ) → address_in memory n 0 ≡ pointer_to_object memory n
begins memory n = by (slice_get memory n)
  where
    by : (r : Option Object) → option_map_or (λ o. pointer_at n (bytes_of o) 0) r Odd ≡ option_map_or (λ o. Pointer n (bytes_of o) 0) r Odd
    by None = refl
    by (Some o) = let le : nat_le 0 (bytes_of o) ≡ true = grind (arith, nat_tests) in ap (λ b. if b then Pointer n (bytes_of o) 0 else Odd) le

module _ (x : Setting) (calls : Calls) (low : ScalarsFirst x) (next : source-value.Value → State → Evaluated) (filters : Filters next) where
  -- a value that stands is passed on
  passed : (g : Goal) (a : Operand) (t : ℕ) (v : source-value.Value) (s : State) (l : Local) (w : World) (ops : List Instruction) (end : End) → Fits x None s l w → Result x g a t (λ y. false) ops end l w (Gives v s) → Result x g a t (λ y. false) ops end l w (next v s)
  passed g a t v s l w ops end fits done = by (filters v s)
    where
      by : (next v s ≡ Gives v s) ⊎ (next v s ≡ Ends ending.Undefined s) → Result x g a t (λ y. false) ops end l w (next v s)
      by (inl e) = subst (Result x g a t (λ y. false) ops end l w) (sym e) done
      by (inr e) = subst (Result x g a t (λ y. false) ops end l w) (sym e) (ended_result x g a t (λ y. false) ops end l w ending.Undefined s (stuck_now x None ops end s l w fits))

  -- the pointer to an object that a name designates
  pointer_of : (o : designator.Object) (of : ObjectType) (s : State) (v : source-value.Value) (s1 : State) → designate calls (depth_in x) (Named o of) s ≡ Gives v s1 → HasWord v
  pointer_of o of s v s1 e = by (pointer_to_named (depth_in x) o s.memory) e
    where
      by_owner : (r : Option ℕ) → value_or_undefined (option_map (λ n. source.Pointer n 0) r) s ≡ Gives v s1 → HasWord v
      by_owner None h = cc
      by_owner (Some n) h = let same : source.Pointer n 0 ≡ v = given_same h in subst HasWord same tt
        where
          given_same : {a b : source-value.Value} {p q : State} → Gives a p ≡ Gives b q → a ≡ b
          given_same h = cc

      by_object : (o : designator.Object) → value_or_undefined (pointer_to_named (depth_in x) o s.memory) s ≡ Gives v s1 → HasWord v
      by_object (object.Static n) h = by_owner (owned_number (Static n) s.memory) h
      by_object (object.Literal n) h = by_owner (owned_number (Literal n) s.memory) h
      by_object (object.Automatic y) h = by_owner (owned_number (Variable y (depth_in x)) s.memory) h

      by : (r : Option source-value.Value) → designate calls (depth_in x) (Named o of) s ≡ Gives v s1 → HasWord v
      by r h = by_object o h

  -- the address of a static object or a literal
  fixed_address : (o : designator.Object) (of : ObjectType) (i : ℕ) → ((t : ℕ) → place_in x (Named o of) t ≡ StaticPlace i) → DoesPlace x calls (Named o of) → (t : ℕ) (g : Goal) (s : State) (l : Local) (w : World) → size_in x ≤ t → Stands x.graph x.top (leaf g (StaticAddress i 0)).inner → Sound x.program x.begun s → Fits x None s l w
      → Result x g (StaticAddress i 0) t (λ y. false) (leaf g (StaticAddress i 0)).ops (leaf g (StaticAddress i 0)).end l w (with (designate calls (depth_in x) (Named o of) s) next)
  fixed_address o of i is does t g s l w size st sound fits =
      let m = leaf g (StaticAddress i 0) in
      place_next x g m (Named o of) (StaticAddress i 0) t t (λ y. false) (λ y. false) m.ops m.end l w (designate calls (depth_in x) (Named o of) s) next (omega arith) (λ y lt nf. (refl, refl)) (does t m s l w size st sound fits)
      (λ v s1 e h. passed g (StaticAddress i 0) t v s1 h.reached.local h.reached.world m.ops m.end h.reached.fits
      (leaf_done x g (StaticAddress i 0) t (λ y. false) v s1 h.reached.local h.reached.world h.reached.fits
      (subst (λ loc. SameValue x.program s1.memory h.reached.world.memory v (pointed_in x h.reached.local h.reached.world loc)) (is t) h.same) (pointer_of o of s v s1 e)))

  -- the address of an automatic object
  automatic_address : (y j : ℕ) (of : ObjectType) → object_of (names_in x) y ≡ Some j → DoesPlace x calls (Named (object.Automatic y) of) → (t : ℕ) (g : Goal) (s : State) (l : Local) (w : World) → size_in x ≤ t → Stands x.graph x.top (operated (names_in x) g t t (λ k. Address k j)).inner → Sound x.program x.begun s → Fits x None s l w
      → Result x g (Name (pick (names_in x) t t)) t (λ y. false) (operated (names_in x) g t t (λ k. Address k j)).ops (operated (names_in x) g t t (λ k. Address k j)).end l w (with (designate calls (depth_in x) (Named (object.Automatic y) of) s) next)
  automatic_address y j of is does t g s l w size st sound fits =
      let own = pick (names_in x) t t in
      let m = operated (names_in x) g t t (λ k. Address k j) in
      let le = pick_between (names_in x) t t t (omega arith) (omega arith) in
      place_next x g m (Named (object.Automatic y) of) (Name own) t t (λ y. false) (λ y. false) m.ops m.end l w (designate calls (depth_in x) (Named (object.Automatic y) of) s) next (omega arith) (λ y lt nf. (refl, refl)) (does t m s l w size st sound fits)
      (λ v s1 e h. passed g (Name own) t v s1 h.reached.local h.reached.world m.ops m.end h.reached.fits
      (operated_done x g own t (λ y. false) (λ k. Address k j) v (pointer_to_object h.reached.world.memory (x.first + j)) s1 h.reached.local h.reached.world low le (omega (arith, le, size)) h.reached.fits (λ k ops end. refl)
      (subst (SameValue x.program s1.memory h.reached.world.memory v) (ap (λ o. pointed_in x h.reached.local h.reached.world (object_location o)) is ∙ begins h.reached.world.memory (x.first + j)) h.same) (pointer_of (object.Automatic y) of s v s1 e)))

  -- where a pointer points, which may be used
  module _ (of : ObjectType) (e : RvalueTree) (typed_e : Typed x calls e) (does_e : Does x calls e) where
    abbrev found : Evaluated → Evaluated
    found r = with (with r usable) next

    -- a value that is worked with, or is undefined
    used_or : (v : source-value.Value) (s : State) → (found (Gives v s) ≡ Gives v s) ⊎ (found (Gives v s) ≡ Ends ending.Undefined s)
    used_or v s = by (is_usable s.memory v)
      where
        by : (b : Bool) → (with (if b then Gives v s else Ends ending.Undefined s) next ≡ Gives v s) ⊎ (with (if b then Gives v s else Ends ending.Undefined s) next ≡ Ends ending.Undefined s)
        by true = filters v s
        by false = inr refl

    to_found : (want : Option ℕ) (m : Made) (a : Operand) (t : ℕ) (f : ℕ → Bool) (ops : List Instruction) (end : End) (l : Local) (w : World) (r : Evaluated) → ToR x want m a t f ops end l w r → ToR x want m a t f ops end l w (found r)
    to_found want m a t f ops end l w (Gives v s) h = by (used_or v s)
      where
        by : (found (Gives v s) ≡ Gives v s) ⊎ (found (Gives v s) ≡ Ends ending.Undefined s) → ToR x want m a t f ops end l w (found (Gives v s))
        by (inl e) = subst (ToR x want m a t f ops end l w) (sym e) h
        by (inr e) = subst (ToR x want m a t f ops end l w) (sym e) (left_stuck x want m t f ops end l w s h.reached)
    to_found want m a t f ops end l w (Leaves s) h = left_stuck x want m t f ops end l w s h
    to_found want m a t f ops end l w (Ends c s) h = h

    unused_found : (m : Made) (a : Operand) (t : ℕ) (f : ℕ → Bool) (ops : List Instruction) (end : End) (l : Local) (w : World) (r : Evaluated) → ToR x None m a t f ops end l w r → UnusedR x m t f ops end l w (found r)
    unused_found m a t f ops end l w (Gives v s) h = by (used_or v s)
      where
        by : (found (Gives v s) ≡ Gives v s) ⊎ (found (Gives v s) ≡ Ends ending.Undefined s) → UnusedR x m t f ops end l w (found (Gives v s))
        by (inl e) = subst (UnusedR x m t f ops end l w) (sym e) h.reached
        by (inr e) = subst (UnusedR x m t f ops end l w) (sym e) (left_stuck x None m t f ops end l w s h.reached)
    unused_found m a t f ops end l w (Leaves s) h = left_stuck x None m t f ops end l w s h
    unused_found m a t f ops end l w (Ends c s) h = h

    with_usable : (r : Evaluated) → with r (λ v s. found (Gives v s)) ≡ found r
    with_usable (Gives v s) = refl
    with_usable (Leaves s) = refl
    with_usable (Ends c s) = refl

    target_address : (t : ℕ) (g : Goal) (s : State) (l : Local) (w : World) → size_in x ≤ t → Stands x.graph x.top (code_address (names_in x) x.place x.top (Target of e) t g).inner → Sound x.program x.begun s → Fits x None s l w → Aims x g e t
        → Result x g (value_in x e t) t (written_by x e) (code_address (names_in x) x.place x.top (Target of e) t g).ops (code_address (names_in x) x.place x.top (Target of e) t g).end l w (found (evaluate calls (depth_in x) e s))
    target_address t (To want m) s l w size st sound fits aims =
        let c = code_in x e t (To want m) in
        to_found want m (value_in x e t) t (written_by x e) c.ops c.end l w (evaluate calls (depth_in x) e s) (does_e t (To want m) s l w size st sound fits aims)
    target_address t (Unused m) s l w size st sound fits aims =
        let c = code_in x e t (To None m) in
        unused_found m (value_in x e t) t (written_by x e) c.ops c.end l w (evaluate calls (depth_in x) e s) (does_e t (To None m) s l w size st sound fits tt)
    target_address t (Either one other inner) s l w size st sound fits aims =
        let g = Either one other inner in
        let m = leaf g (value_in x e t) in
        let c = code_in x e t (To None m) in
        subst (Result x g (value_in x e t) t (written_by x e) c.ops c.end l w) (with_usable (evaluate calls (depth_in x) e s))
        (with_then x None g m (value_in x e t) (value_in x e t) t t t (written_by x e) (written_by x e) (λ y. false) c.ops c.end l w (evaluate calls (depth_in x) e s) (λ v s1. found (Gives v s1)) (omega arith) (omega arith) (λ y lt nf. (refl, nf, refl))
        (does_e t (To None m) s l w size st sound fits tt)
        (λ v s1 is h. (let gave = gave_by x.program x.begun s.memory (kind_of x.program x.tree e) (evaluate calls (depth_in x) e s) v s1 is (typed_e s sound) in
        by_use g m t v s1 h.reached.local h.reached.world (used_or v s1) h.reached.fits
        (leaf_done x g (value_in x e t) t (λ y. false) v s1 h.reached.local h.reached.world h.reached.fits h.same (kind_word s1.memory (kind_of x.program x.tree e) v gave.is)))))
      where
        by_use : (g : Goal) (m : Made) (t : ℕ) (v : source-value.Value) (s : State) (l : Local) (w : World) → (found (Gives v s) ≡ Gives v s) ⊎ (found (Gives v s) ≡ Ends ending.Undefined s) → Fits x None s l w → Result x g (value_in x e t) t (λ y. false) m.ops m.end l w (Gives v s)
            → Result x g (value_in x e t) t (λ y. false) m.ops m.end l w (found (Gives v s))
        by_use g m t v s l w (inl is) f done = subst (Result x g (value_in x e t) t (λ y. false) m.ops m.end l w) (sym is) done
        by_use g m t v s l w (inr is) f done = subst (Result x g (value_in x e t) t (λ y. false) m.ops m.end l w) (sym is) (ended_result x g (value_in x e t) t (λ y. false) m.ops m.end l w ending.Undefined s (stuck_now x None m.ops m.end s l w f))

module _ (x : Setting) (calls : Calls) (low : ScalarsFirst x) where
  -- `&` of a static object, of a literal, of an automatic one
  pub static_address_does : (i : ℕ) (of : ObjectType) → StaticsThere x i → Does x calls (AddressOf (Named (object.Static i) of))
  static_address_does i of there t g s l w size st sound fits aims =
      let m = leaf g (StaticAddress i 0) in
      subst (Result x g (StaticAddress i 0) t (λ y. false) m.ops m.end l w) (given_gives (pointer_to_named (depth_in x) (object.Static i) s.memory) s)
      (fixed_address x calls low Gives gives_filters (object.Static i) of i (λ k. refl) (static_place x calls i of there) t g s l w size st sound fits)

  pub literal_address_does : (i : ℕ) (of : ObjectType) → StaticsThere x ((names_in x).statics + i) → Does x calls (AddressOf (Named (object.Literal i) of))
  literal_address_does i of there t g s l w size st sound fits aims =
      let a = StaticAddress ((names_in x).statics + i) 0 in
      let m = leaf g a in
      subst (Result x g a t (λ y. false) m.ops m.end l w) (given_gives (pointer_to_named (depth_in x) (object.Literal i) s.memory) s)
      (fixed_address x calls low Gives gives_filters (object.Literal i) of ((names_in x).statics + i) (λ k. refl) (literal_place x calls i of there) t g s l w size st sound fits)

  abbrev address_by : ℕ → Goal → Option ℕ → Made
  address_by t g o = operated (names_in x) g t t (λ k. Address k (or_zero o))

  pub variable_address_does : (y j : ℕ) (of : ObjectType) → object_of (names_in x) y ≡ Some j → Does x calls (AddressOf (Named (object.Automatic y) of))
  variable_address_does y j of is t g s l w size st sound fits aims =
      subst (λ o. Stands x.graph x.top (address_by t g o).inner → Result x g (object_laid (names_in x) Anywhere o t).value t (λ y. false) (address_by t g o).ops (address_by t g o).end l w (evaluate calls (depth_in x) (AddressOf (Named (object.Automatic y) of)) s)) (sym is)
      (λ st'. subst (Result x g (Name (pick (names_in x) t t)) t (λ y. false) (address_by t g (Some j)).ops (address_by t g (Some j)).end l w) (given_gives (pointer_to_named (depth_in x) (object.Automatic y) s.memory) s)
      (automatic_address x calls low Gives gives_filters y j of is (variable_place x calls y j of is) t g s l w size st' sound fits)) st

  -- arrays decay
  pub static_decays : (i : ℕ) (of : ObjectType) → StaticsThere x i → Does x calls (Decay (Named (object.Static i) of))
  static_decays i of there t g s l w size st sound fits aims = fixed_address x calls low decayed decayed_filters (object.Static i) of i (λ k. refl) (static_place x calls i of there) t g s l w size st sound fits

  pub literal_decays : (i : ℕ) (of : ObjectType) → StaticsThere x ((names_in x).statics + i) → Does x calls (Decay (Named (object.Literal i) of))
  literal_decays i of there t g s l w size st sound fits aims =
      fixed_address x calls low decayed decayed_filters (object.Literal i) of ((names_in x).statics + i) (λ k. refl) (literal_place x calls i of there) t g s l w size st sound fits

  pub variable_decays : (y j : ℕ) (of : ObjectType) → object_of (names_in x) y ≡ Some j → Does x calls (Decay (Named (object.Automatic y) of))
  variable_decays y j of is t g s l w size st sound fits aims =
      subst (λ o. Stands x.graph x.top (address_by t g o).inner → Result x g (object_laid (names_in x) Anywhere o t).value t (λ y. false) (address_by t g o).ops (address_by t g o).end l w (evaluate calls (depth_in x) (Decay (Named (object.Automatic y) of)) s)) (sym is)
      (λ st'. automatic_address x calls low decayed decayed_filters y j of is (variable_place x calls y j of is) t g s l w size st' sound fits) st

  -- what a pointer points to: its address is the pointer
  usable_gives : (r : Evaluated) → with (with r usable) Gives ≡ with r usable
  usable_gives (Gives v s) = by (is_usable s.memory v)
    where
      by : (b : Bool) → with (if b then Gives v s else Ends ending.Undefined s) Gives ≡ (if b then Gives v s else Ends ending.Undefined s)
      by true = refl
      by false = refl
  usable_gives (Leaves s) = refl
  usable_gives (Ends c s) = refl

  pub target_address_does : (of : ObjectType) (e : RvalueTree) → Typed x calls e → Does x calls e → Does x calls (AddressOf (Target of e))
  target_address_does of e typed_e does_e t g s l w size st sound fits aims =
      let c = code_address (names_in x) x.place x.top (Target of e) t g in
      subst (Result x g (value_in x e t) t (written_by x e) c.ops c.end l w) (usable_gives (evaluate calls (depth_in x) e s))
      (target_address x calls low Gives gives_filters of e typed_e does_e t g s l w size st sound fits (aims_behind_address g t aims))
    where
      aims_behind_address : (g : Goal) (t : ℕ) → Aims x g (AddressOf (Target of e)) t → Aims x g e t
      aims_behind_address (To None m) t a = tt
      aims_behind_address (To (Some k) m) t a = (a.0, a.1)
      aims_behind_address (Unused m) t a = tt
      aims_behind_address (Either one other inner) t a = tt

  pub target_decays : (of : ObjectType) (e : RvalueTree) → Typed x calls e → Does x calls e → Does x calls (Decay (Target of e))
  target_decays of e typed_e does_e t g s l w size st sound fits aims =
      target_address x calls low decayed decayed_filters of e typed_e does_e t g s l w size st sound fits (aims_behind_decay g t aims)
    where
      aims_behind_decay : (g : Goal) (t : ℕ) → Aims x g (Decay (Target of e)) t → Aims x g e t
      aims_behind_decay (To None m) t a = tt
      aims_behind_decay (To (Some k) m) t a = (a.0, a.1)
      aims_behind_decay (Unused m) t a = tt
      aims_behind_decay (Either one other inner) t a = tt
