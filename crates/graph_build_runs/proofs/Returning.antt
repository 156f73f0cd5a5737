-- Where an activation is left, its objects end in both runs: what is kept of the activation that waited.
use Rattle.std.proofs.Common.{◌≡◌, ◌≢◌, ℕ, zero, suc, ◌+◌, ◌<◌, ◌⊎◌, inl, inr, List, [], ◌∷◌, length, map, Some, None, true, false, slice_get, refl, sym, ap, ◌∙◌, subst, arith}
use Rattle.std.proofs.lemmas.Option.{slice_get_within}
use Rattle.c_tree.specs.Programs.{ProgramTree}
use Rattle.c_meaning_values.specs.declared.value.Value as source-value
use Rattle.c_meaning_values.specs.declared.value.Value.TheVariants as source
use Rattle.c_meaning_values.specs.declared.value.Phase.TheVariants.{Ended}
use Rattle.c_meaning_values.specs.Memory.{Object as SourceObject, Memory as SourceMemory, in_phase, ended_from as source_ended}
use Rattle.c_meaning_steps.specs.States.{State}
use Rattle.c_meaning.specs.Lifetimes.{ending_from}
use Rattle.graph_core.specs.declared.value.Value.{Value}
use Rattle.graph_core.specs.declared.value.Shadow.{Shadow}
use Rattle.graph_core.specs.Memory.{Object, Memory, ended as unit_ended, ended_from}
use Rattle.graph_core.specs.Runs.{Activation}
use Rattle.graph_build_names.specs.Names.{Names, names_of}
use Rattle.event_runs.specs.Agreement.{Pairs}
use Rattle.graph_build_runs.specs.Correspondence.{owner_of, SameObject, SamePointer, points, ended, SameValue, SameValues, IsInMemory, SameEvent}
use Rattle.graph_build_runs.proofs.Leads.{Setting, names_in, depth_in, Local, World}
use Rattle.graph_build_runs.proofs.Later.{some_same, Later, OthersLater, others_trans}
use Rattle.graph_build_runs.proofs.Kept.{ScalarIs, Own, Outer, ArePlaced, LiveDiffer, NoneDeeper, Fits}
use Rattle.graph_build_runs.proofs.Living.{there_is, was_there}
use Rattle.graph_build_runs.proofs.Fading.{was_or_ended, there_still, ended_now, pointer_not_odd, live_not_ended}

-- objects of the unit
unit_all : (memory : Memory) (i : ℕ) (z : Object) → slice_get (map unit_ended memory) i ≡ Some z → z.live ≡ false
unit_all [] i z h = cc
unit_all (o ∷ memory) zero z h = ap (λ q. q.live) (sym (some_same h))
unit_all (o ∷ memory) (suc i) z h = unit_all memory i z h

pub unit_was_or_ended : (memory : Memory) (n i : ℕ) (z : Object) → slice_get (ended_from n memory) i ≡ Some z → ((i < n) × (slice_get memory i ≡ Some z)) ⊎ (z.live ≡ false)
unit_was_or_ended [] zero i z h = cc
unit_was_or_ended [] (suc n) i z h = cc
unit_was_or_ended (o ∷ memory) zero i z h = inr (unit_all (o ∷ memory) i z h)
unit_was_or_ended (o ∷ memory) (suc n) zero z h = inl (omega arith, h)
unit_was_or_ended (o ∷ memory) (suc n) (suc i) z h = elim (unit_was_or_ended memory n i z h) [
  | inl both ↦ let lt = both.0 in inl (omega (arith, lt), both.1)
  | inr over ↦ inr over
]

pub unit_stays : (memory : Memory) (n i : ℕ) (o : Object) → slice_get memory i ≡ Some o → i < n → slice_get (ended_from n memory) i ≡ Some o
unit_stays [] n i o h lt = cc
unit_stays (q ∷ memory) zero i o h lt = absurd (omega (arith, lt))
unit_stays (q ∷ memory) (suc n) zero o h lt = h
unit_stays (q ∷ memory) (suc n) (suc i) o h lt = unit_stays memory n i o h (omega (arith, lt))

no_life : {A : Type 0} → true ≡ false → A
no_life h = cc

-- Objects that are older than an activation stand before its first one in the unit's memory.
abbrev pub AreOlder : ProgramTree → SourceMemory → Memory → (n first : ℕ) → Type 0
AreOlder p memory others n first = (i : ℕ) (o : SourceObject) → slice_get memory i ≡ Some o → i < n → o.phase ≢ Ended → IsInMemory p o.owner → (m : ℕ) (q : Object) → slice_get others m ≡ Some q → SameObject p o q → m < first

module _ (p : ProgramTree) (memory : SourceMemory) (others : Memory) (n first : ℕ) (older : AreOlder p memory others n first) where
  pub value_left : (v : source-value.Value) (w : Value) → SameValue p memory others v w → SameValue p (source_ended n memory) (ended_from first others) v w
  value_left (source.Number z) w same = same
  value_left source.Null w same = same
  value_left (source.Pointer i offset) w (points o is begun inside m q at same within e) = by (was_so i o is)
    where
      was_so : (i : ℕ) (o : SourceObject) → slice_get memory i ≡ Some o → ((i < n) × (slice_get (source_ended n memory) i ≡ Some o)) ⊎ (slice_get (source_ended n memory) i ≡ Some (in_phase Ended o))
      was_so i o is = elim (there_still memory n i o is) [
        | inl here ↦ elim (was_or_ended memory n i o here) [
          | inl both ↦ inl (both.0, here)
          | inr both ↦ inr (here ∙ ap Some (both.2 ∙ ap (in_phase Ended) (some_same (sym both.1 ∙ is))))
        ]
        | inr here ↦ inr here
      ]

      by : ((i < n) × (slice_get (source_ended n memory) i ≡ Some o)) ⊎ (slice_get (source_ended n memory) i ≡ Some (in_phase Ended o)) → SamePointer p (source_ended n memory) (ended_from first others) i offset w
      by (inl both) = points o both.1 begun inside m q (unit_stays others first m q at (older i o is both.0 begun inside m q at same)) same within e
      by (inr here) = ended (in_phase Ended o) here refl (pointer_not_odd m _ offset w e)
  value_left (source.Pointer i offset) w (ended o is over known) = elim (there_still memory n i o is) [
    | inl here ↦ ended o here over known
    | inr here ↦ ended (in_phase Ended o) here refl known
  ]

  values_left : (vs : List source-value.Value) (ws : List Value) → SameValues p memory others vs ws → SameValues p (source_ended n memory) (ended_from first others) vs ws
  values_left [] [] same = tt
  values_left [] (w ∷ ws) same = absurd same
  values_left (v ∷ vs) [] same = absurd same
  values_left (v ∷ vs) (w ∷ ws) same = (value_left v w same.0, values_left vs ws same.1)

  scalar_left : (o : SourceObject) (j : ℕ) (names : ℕ → Value) (shadows : ℕ → Shadow) → ScalarIs p memory others None o j names shadows → ScalarIs p (source_ended n memory) (ended_from first others) None o j names shadows
  scalar_left o j names shadows c =
      record { value = c.value; holds = c.holds; named = λ h. value_left c.value (names j) (c.named h); word = c.word; known = c.known; same = value_left c.value c.word c.same }

  -- an activation that waited, whose objects are those that it had
  own_left : (before : SourceMemory) (others_before : Memory) → OthersLater others_before (ended_from first others) → (names_are : Names) (depth first_object : ℕ) (names : ℕ → Value) (shadows : ℕ → Shadow) → Own p names_are None memory others depth first_object names shadows
      → Own p names_are None before others_before depth first_object names shadows → Own p names_are None (source_ended n memory) (ended_from first others) depth first_object names shadows
  own_left before others_before went names_are depth first_object names shadows now own = record {
    scalars = λ v j m o is at owner live. elim (was_or_ended memory n m o at) [
      | inl both ↦ scalar_left o j names shadows (now.scalars v j m o is both.1 owner live)
      | inr both ↦ live_not_ended o both.0 both.2 live
    ];
    objects = λ v j a is at. (let c = own.objects v j a is at in let b = went (first_object + j) c.object c.is in
        record { object = b.object; is = b.is; owner = b.owner ∙ c.owner; lives = b.live ∙ c.lives; element = b.element ∙ c.element; count = b.count ∙ c.count });
  }

-- What was kept where an activation began to wait is kept where it goes on.
module _ (x : Setting) (s s2 : State) (l : Local) (w w2 : World) (call : Fits x None s l w) (went : OthersLater w.memory w2.memory) (later : Later s.memory s2.memory) (differ : LiveDiffer w2.memory) (placed : ArePlaced x.program s2.memory w2.memory) where
  -- what is older than the call stands before what began with it
  older : AreOlder x.program s2.memory w2.memory (length s.memory) (length w.memory)
  older i o is lt alive inside m q at same =
      let z = was_there s.memory s2.memory later i o is alive lt in
      let c = call.placed i z.0 z.1 z.2 (subst (IsInMemory x.program) z.3 inside) in
      let b = went c.number c.object c.is in
      let one : m ≡ c.number = differ m c.number q b.object at b.is same.lives (b.live ∙ c.same.lives) (same.owner ∙ ap (owner_of x.program) z.3 ∙ sym (b.owner ∙ c.same.owner)) in
      let less = slice_get_within w.memory c.number c.object c.is in omega (arith, one, less)

  pub gone : OthersLater w.memory (ended_from (length w.memory) w2.memory)
  gone m q is =
      let c = went m q is in record { object = c.object; is = unit_stays w2.memory (length w.memory) m c.object c.is (slice_get_within w.memory m q is); owner = c.owner; element = c.element; live = c.live; count = c.count }

  outer_left : (waiting : List Activation) → Outer x.program s.memory w.memory waiting → Outer x.program s2.memory w2.memory waiting → Outer x.program (source_ended (length s.memory) s2.memory) (ended_from (length w.memory) w2.memory) waiting
  outer_left [] before now = tt
  outer_left (a ∷ more) before now =
      let c = now.0 in let b = before.0 in
      let same : b.tree ≡ c.tree = some_same (sym b.is ∙ c.is) in (
        record {
          tree = c.tree;
          is = c.is;
          own =
              own_left x.program s2.memory w2.memory (length s.memory) (length w.memory) older s.memory w.memory gone (names_of x.program c.tree false) (length more + 1) a.first_object a.names a.shadows c.own
              (subst (λ tree. Own x.program (names_of x.program tree false) None s.memory w.memory (length more + 1) a.first_object a.names a.shadows) same b.own);
        },
        outer_left more before.1 now.1,
      )

  -- a live object of the unit was there
  unit_there : (m : ℕ) (q : Object) → slice_get (ended_from (length w.memory) w2.memory) m ≡ Some q → q.live ≡ true → (slice_get w2.memory m ≡ Some q) × (m < length w.memory)
  unit_there m q is live = elim (unit_was_or_ended w2.memory (length w.memory) m q is) [
    | inl both ↦ (both.1, both.0)
    | inr over ↦ no_life (sym live ∙ over)
  ]

  deeper_left : NoneDeeper (ended_from (length w.memory) w2.memory) (depth_in x)
  deeper_left m q v d is live owner =
      let there = unit_there m q is live in
      let z = there_is w.memory m there.1 in
      let c = went m z.0 z.1 in
      let same : c.object ≡ q = some_same (sym c.is ∙ there.0) in
      call.above m z.0 v d z.1 (sym c.live ∙ ap (λ o. o.live) same ∙ live) (sym c.owner ∙ ap (λ o. o.owner) same ∙ owner)

  pub fits_returned : (a : Activation) → slice_get x.program.functions a.function ≡ Some x.tree → a.first_object ≡ x.first → a.names ≡ l.names → a.shadows ≡ l.shadows → Outer x.program s2.memory w2.memory (a ∷ x.waiting) → w2.input ≡ s2.input → Pairs (SameEvent x.program x.unit) s2.events w2.seen
      → Fits x None (ending_from (length s.memory) s2) l (record w2 { memory = ended_from (length w.memory) w2.memory })
  fits_returned a is first names shadows outer input events =
      let c = outer.0 in
      let same : c.tree ≡ x.tree = some_same (sym c.is ∙ is) in
      let own_there = subst (λ tree. Own x.program (names_of x.program tree false) None s2.memory w2.memory (depth_in x) a.first_object a.names a.shadows) same c.own in
      let own_first = subst (λ n. Own x.program (names_of x.program x.tree false) None s2.memory w2.memory (depth_in x) n a.names a.shadows) first own_there in
      let own_names = subst (λ f. Own x.program (names_of x.program x.tree false) None s2.memory w2.memory (depth_in x) x.first f a.shadows) names own_first in
      let own_now = subst (λ f. Own x.program (names_of x.program x.tree false) None s2.memory w2.memory (depth_in x) x.first l.names f) shadows own_names in
      record {
        own =
            own_left x.program s2.memory w2.memory (length s.memory) (length w.memory) older s.memory w.memory gone (names_in x) (depth_in x) x.first l.names l.shadows (record { scalars = own_now.scalars; objects = own_now.objects }) call.own;
        outer = outer_left x.waiting call.outer outer.1;
        placed = λ i o at alive inside. elim (was_or_ended s2.memory (length s.memory) i o at) [
          | inl both ↦
              let p = placed i o both.1 alive inside in
              record {
                number = p.number;
                object = p.object;
                is = unit_stays w2.memory (length w.memory) p.number p.object p.is (older i o both.1 both.0 alive inside p.number p.object p.is p.same);
                same = p.same;
                values = λ live. values_left x.program s2.memory w2.memory (length s.memory) (length w.memory) older o.values p.object.values (p.values live);
              }
          | inr both ↦ absurd (alive (ended_now o both.0 both.2))
        ];
        differ = λ i j q r at_i at_j live_i live_j owners. differ i j q r (unit_there i q at_i live_i).0 (unit_there j r at_j live_j).0 live_i live_j owners;
        above = deeper_left;
        later = others_trans x.objects w.memory (ended_from (length w.memory) w2.memory) call.later gone;
        statics = λ i t at. (let c2 = call.statics i t at in let b = gone i c2.object c2.is in record { object = b.object; is = b.is; owner = b.owner ∙ c2.owner; lives = b.live ∙ c2.lives; element = b.element ∙ c2.element; count = b.count ∙ c2.count });
        input = input;
        events = events;
      }

  pub value_returned : (v : source-value.Value) (u : Value) → SameValue x.program s2.memory w2.memory v u → SameValue x.program (source_ended (length s.memory) s2.memory) (ended_from (length w.memory) w2.memory) v u
  value_returned v u same = value_left x.program s2.memory w2.memory (length s.memory) (length w.memory) older v u same
