-- Objects that end with their block: what is kept without them.
use Rattle.std.proofs.Common.{◌≡◌, ◌≢◌, ℕ, zero, suc, ◌+◌, ◌<◌, ◌⊎◌, inl, inr, List, [], ◌∷◌, length, map, Option, Some, None, false, slice_get, refl, sym, ap, ◌∙◌, subst, arith}
use Rattle.std.specs.List.{AllByRecursion}
use Rattle.std.proofs.lemmas.Option.{slice_get_within}
use Rattle.word_base.specs.Owners.{Owner, Static, Literal, Variable}
use Rattle.c_tree.specs.declared.object_type.ObjectType.{ObjectType}
use Rattle.c_tree.specs.declared.object_type.ValueType.{ValueType}
use Rattle.c_tree.specs.declared.object_type.ValueType.TheVariants.{Void, Integer, Pointer}
use Rattle.c_tree.specs.Programs.{ProgramTree}
use Rattle.c_type_rules.specs.Types.{loaded_type}
use Rattle.c_meaning_values.specs.declared.value.Value as source-value
use Rattle.c_meaning_values.specs.declared.value.Value.TheVariants as source
use Rattle.c_meaning_values.specs.declared.value.Phase.TheVariants.{Initialising, Live, Ended}
use Rattle.c_meaning_values.specs.Memory.{Object as SourceObject, Memory as SourceMemory, in_phase, ended_from}
use Rattle.c_meaning_steps.specs.States.{State}
use Rattle.c_meaning.specs.Lifetimes.{ending_from}
use Rattle.graph_core.specs.declared.value.Value.{Value}
use Rattle.graph_core.specs.declared.value.Value.TheVariants.{Pointer as UnitPointer, Odd}
use Rattle.graph_core.specs.declared.value.Shadow.{Shadow}
use Rattle.graph_core.specs.Memory.{Memory}
use Rattle.graph_core.specs.Runs.{Activation}
use Rattle.graph_build_names.specs.Names.{Names, names_of}
use Rattle.graph_build_runs.specs.Typed.{PointsInto, IsOf}
use Rattle.graph_build_runs.specs.Correspondence.{points, ended, SameValue, SameValues}
use Rattle.graph_build_runs.specs.Stops.{IsDeclared}
use Rattle.graph_build_runs.proofs.Leads.{Setting, names_in, depth_in, Local, World}
use Rattle.graph_build_runs.proofs.Later.{some_same, later_refl}
use Rattle.graph_build_runs.proofs.Kept.{Since, Sound, ScalarIs, Own, Outer, Fits}
use Rattle.graph_build_runs.proofs.Living.{Grown}

-- a list whose objects have all ended
ended_all : (memory : SourceMemory) (i : ℕ) (z : SourceObject) → slice_get (map (in_phase Ended) memory) i ≡ Some z → (o : SourceObject) × (slice_get memory i ≡ Some o) × (z ≡ in_phase Ended o)
ended_all [] i z h = cc
ended_all (o ∷ memory) zero z h = (o, refl, sym (some_same h))
ended_all (o ∷ memory) (suc i) z h = ended_all memory i z h

all_ended : (memory : SourceMemory) (i : ℕ) (o : SourceObject) → slice_get memory i ≡ Some o → slice_get (map (in_phase Ended) memory) i ≡ Some (in_phase Ended o)
all_ended [] i o h = cc
all_ended (q ∷ memory) zero o h = ap (λ z. Some (in_phase Ended z)) (some_same h)
all_ended (q ∷ memory) (suc i) o h = all_ended memory i o h

-- an object is as it was, or it has ended
pub was_or_ended : (memory : SourceMemory) (n i : ℕ) (z : SourceObject) → slice_get (ended_from n memory) i ≡ Some z → ((i < n) × (slice_get memory i ≡ Some z)) ⊎ ((o : SourceObject) × (slice_get memory i ≡ Some o) × (z ≡ in_phase Ended o))
was_or_ended [] zero i z h = cc
was_or_ended [] (suc n) i z h = cc
was_or_ended (o ∷ memory) zero i z h = inr (ended_all (o ∷ memory) i z h)
was_or_ended (o ∷ memory) (suc n) zero z h = inl (omega arith, h)
was_or_ended (o ∷ memory) (suc n) (suc i) z h = elim (was_or_ended memory n i z h) [
  | inl both ↦ let lt = both.0 in inl (omega (arith, lt), both.1)
  | inr both ↦ inr both
]

-- what began before stays
pub stays_before : (memory : SourceMemory) (n i : ℕ) (o : SourceObject) → slice_get memory i ≡ Some o → i < n → slice_get (ended_from n memory) i ≡ Some o
stays_before [] n i o h lt = cc
stays_before (q ∷ memory) zero i o h lt = absurd (omega (arith, lt))
stays_before (q ∷ memory) (suc n) zero o h lt = h
stays_before (q ∷ memory) (suc n) (suc i) o h lt = stays_before memory n i o h (omega (arith, lt))

-- and each object is there, as it was or ended
pub there_still : (memory : SourceMemory) (n i : ℕ) (o : SourceObject) → slice_get memory i ≡ Some o → (slice_get (ended_from n memory) i ≡ Some o) ⊎ (slice_get (ended_from n memory) i ≡ Some (in_phase Ended o))
there_still [] n i o h = cc
there_still (q ∷ memory) zero i o h = inr (all_ended (q ∷ memory) i o h)
there_still (q ∷ memory) (suc n) zero o h = inl h
there_still (q ∷ memory) (suc n) (suc i) o h = there_still memory n i o h

pub pointer_not_odd : (m size k : ℕ) (w : Value) → w ≡ UnitPointer m size k → w ≢ Odd
pointer_not_odd m size k w e odd = no (sym e ∙ odd)
  where
    no : UnitPointer m size k ≡ Odd → ⊥
    no h = cc

pub live_not_ended : {A : Type 0} (z o : SourceObject) → z ≡ in_phase Ended o → z.phase ≡ Live → A
live_not_ended z o e live = no (sym (ap (λ q. q.phase) e) ∙ live)
  where
    no : {A : Type 0} → Ended ≡ Live → A
    no h = cc

pub ended_now : (z o : SourceObject) → z ≡ in_phase Ended o → z.phase ≡ Ended
ended_now z o e = ap (λ q. q.phase) e

module _ (p : ProgramTree) (memory : SourceMemory) (n : ℕ) (others : Memory) where
  -- values are the same
  pub value_faded : (v : source-value.Value) (w : Value) → SameValue p memory others v w → SameValue p (ended_from n memory) others v w
  value_faded (source.Number z) w same = same
  value_faded source.Null w same = same
  value_faded (source.Pointer i offset) w (points o is begun inside m q at same within e) = elim (there_still memory n i o is) [
    | inl here ↦ points o here begun inside m q at same within e
    | inr here ↦ ended (in_phase Ended o) here refl (pointer_not_odd m _ offset w e)
  ]
  value_faded (source.Pointer i offset) w (ended o is over known) = elim (there_still memory n i o is) [
    | inl here ↦ ended o here over known
    | inr here ↦ ended (in_phase Ended o) here refl known
  ]

  pub values_faded : (vs : List source-value.Value) (ws : List Value) → SameValues p memory others vs ws → SameValues p (ended_from n memory) others vs ws
  values_faded [] [] same = tt
  values_faded [] (w ∷ ws) same = absurd same
  values_faded (v ∷ vs) [] same = absurd same
  values_faded (v ∷ vs) (w ∷ ws) same = (value_faded v w same.0, values_faded vs ws same.1)

  scalar_faded : (want : Option ℕ) (o : SourceObject) (k : ℕ) (names : ℕ → Value) (shadows : ℕ → Shadow) → ScalarIs p memory others want o k names shadows → ScalarIs p (ended_from n memory) others want o k names shadows
  scalar_faded want o k names shadows c =
      record { value = c.value; holds = c.holds; named = λ h. value_faded c.value (names k) (c.named h); word = c.word; known = c.known; same = value_faded c.value c.word c.same }

  own_faded : (names_are : Names) (want : Option ℕ) (depth first : ℕ) (names : ℕ → Value) (shadows : ℕ → Shadow) → Own p names_are want memory others depth first names shadows → Own p names_are want (ended_from n memory) others depth first names shadows
  own_faded names_are want depth first names shadows own = record {
    scalars = λ v k m o is at owner live. elim (was_or_ended memory n m o at) [
      | inl both ↦ scalar_faded want o k names shadows (own.scalars v k m o is both.1 owner live)
      | inr both ↦ live_not_ended o both.0 both.2 live
    ];
    objects = own.objects;
  }

  outer_faded : (waiting : List Activation) → Outer p memory others waiting → Outer p (ended_from n memory) others waiting
  outer_faded [] outer = tt
  outer_faded (a ∷ more) outer =
      let c = outer.0 in
      (record { tree = c.tree; is = c.is; own = own_faded (names_of p c.tree false) None (length more + 1) a.first_object a.names a.shadows c.own }, outer_faded more outer.1)

  into_faded : (of : ObjectType) (i offset : ℕ) → PointsInto memory of i offset → PointsInto (ended_from n memory) of i offset
  into_faded of i offset c = elim (there_still memory n i c.object c.is) [
    | inl here ↦ record { object = c.object; is = here; element_is = c.element_is; index = c.index; at = c.at; within = c.within; stands = c.stands }
    | inr here ↦ record { object = in_phase Ended c.object; is = here; element_is = c.element_is; index = c.index; at = c.at; within = c.within; stands = c.stands }
  ]

  pub of_faded : (t : ValueType) (v : source-value.Value) → IsOf memory t v → IsOf (ended_from n memory) t v
  of_faded Void v is = is
  of_faded (Integer t) (source.Number z) is = is
  of_faded (Integer t) source.Null is = is
  of_faded (Integer t) (source.Pointer m offset) is = is
  of_faded (Pointer of) (source.Number z) is = is
  of_faded (Pointer of) source.Null is = is
  of_faded (Pointer of) (source.Pointer m offset) is = into_faded of m offset is

  all_faded : (t : ValueType) (vs : List source-value.Value) → AllByRecursion (IsOf memory t) vs → AllByRecursion (IsOf (ended_from n memory) t) vs
  all_faded t [] all = tt
  all_faded t (v ∷ vs) all = (of_faded t v all.0, all_faded t vs all.1)

-- an object that has ended is still of its variable's type
declared_ended : (p : ProgramTree) (owner : Owner) (o : SourceObject) → IsDeclared p owner o → IsDeclared p owner (in_phase Ended o)
declared_ended p (Static k) o c = (c.0, c.1, c.2, c.3)
declared_ended p (Literal k) o c = (c.0, c.1, c.2, c.3)
declared_ended p (Variable k d) o c = (c.0, c.1, c.2, c.3)

-- What a program's run keeps is kept where objects end.
pub sound_closed : (p : ProgramTree) (began : SourceMemory) (s : State) (n : ℕ) → Sound p began s → Sound p (ended_from n s.memory) (ending_from n s)
sound_closed p began s n h = record {
  typed = λ i z at. elim (was_or_ended s.memory n i z at) [
    | inl both ↦ all_faded p s.memory n [] (loaded_type z.element) z.values (h.typed i z both.1)
    | inr both ↦ subst (λ q. AllByRecursion (IsOf (ended_from n s.memory) (loaded_type q.element)) q.values) (sym both.2) (all_faded p s.memory n [] (loaded_type both.0.element) both.0.values (h.typed i both.0 both.1))
  ];
  differ = λ i j z q at_i at_j alive_i alive_j same. h.differ i j z q (was i z at_i alive_i) (was j q at_j alive_j) alive_i alive_j same;
  declared = λ i z at. elim (was_or_ended s.memory n i z at) [
    | inl both ↦ h.declared i z both.1
    | inr both ↦ subst (λ q. IsDeclared p q.owner q) (sym both.2) (declared_ended p both.0.owner both.0 (h.declared i both.0 both.1))
  ];
  single = λ i z at young. h.single i z (was i z at (λ over. young_open (sym young ∙ over))) young;
  bytes = h.bytes;
  since = record { later = later_refl (ended_from n s.memory); ends = λ i o at alive. slice_get_within (ended_from n s.memory) i o at };
}
  where
    was : (i : ℕ) (z : SourceObject) → slice_get (ended_from n s.memory) i ≡ Some z → z.phase ≢ Ended → slice_get s.memory i ≡ Some z
    was i z at alive = elim (was_or_ended s.memory n i z at) [
      | inl both ↦ both.1
      | inr both ↦ absurd (alive (ended_now z both.0 both.2))
    ]

    young_open : Initialising ≡ Ended → ⊥
    young_open h = cc

-- What the unit's run keeps of it is kept, too.
pub fits_closed : (x : Setting) (s : State) (l : Local) (w : World) (n : ℕ) → Fits x None s l w → Fits x None (ending_from n s) l w
fits_closed x s l w n f = record {
  own = own_faded x.program s.memory n w.memory (names_in x) None (depth_in x) x.first l.names l.shadows f.own;
  outer = outer_faded x.program s.memory n w.memory x.waiting f.outer;
  placed = λ i o at alive inside. elim (was_or_ended s.memory n i o at) [
    | inl both ↦
        let c = f.placed i o both.1 alive inside in
        record { number = c.number; object = c.object; is = c.is; same = c.same; values = λ live. values_faded x.program s.memory n w.memory o.values c.object.values (c.values live) }
    | inr both ↦ absurd (alive (ended_now o both.0 both.2))
  ];
  differ = f.differ;
  above = f.above;
  later = f.later;
  statics = f.statics;
  input = f.input;
  events = f.events;
}

-- The memory is one that went on, in which whatever began in the block has ended.
pub since_closed : (depth low high : ℕ) (before after : SourceMemory) → Grown depth low high before after → Since before (ended_from (length before) after)
since_closed depth low high before after g = record {
  later = λ i o at. (let c = g.later i o at in
      record { object = c.object; is = stays_before after (length before) i c.object c.is (slice_get_within before i o at); owner = c.owner; element = c.element; phase = c.phase; count = c.count });
  ends = λ i z at alive. elim (was_or_ended after (length before) i z at) [
    | inl both ↦ both.0
    | inr both ↦ absurd (alive (ended_now z both.0 both.2))
  ];
}
