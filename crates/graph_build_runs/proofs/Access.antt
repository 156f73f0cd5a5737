-- Reads where a pointer points: the unit reads what the source does.
use Rattle.std.proofs.Common.{◌≡◌, ◌≢◌, ℕ, zero, suc, ◌+◌, ◌*◌, ◌/◌, ◌<◌, ◌≤◌, List, [], ◌∷◌, length, Option, Some, None, Bool, true, false, slice_get, slice_set, refl, sym, ap, ◌∙◌, subst, arith}
use Rattle.std.specs.Prelude.{if◌then◌else◌, option_map, option_and_then}
use Rattle.std.proofs.lemmas.Option.{slice_get_within}
use Rattle.c_tree.specs.declared.object_type.Scalar.{Scalar}
use Rattle.c_tree.specs.declared.object_type.ObjectType.TheVariants as of-object
use Rattle.c_tree.specs.Programs.{ProgramTree}
use Rattle.c_type_rules.specs.Types.{loaded_type}
use Rattle.c_meaning_values.specs.declared.value.Value as source-value
use Rattle.c_meaning_values.specs.declared.value.Phase.TheVariants.{Live, Ended}
use Rattle.c_meaning_values.specs.Types.{scalar_size}
use Rattle.c_meaning_values.specs.Memory.{Object as SourceObject, Memory as SourceMemory, index_at}
use Rattle.c_meaning_steps.specs.States.{State}
use Rattle.graph_core.specs.declared.value.Value.{Value}
use Rattle.graph_core.specs.declared.value.Value.TheVariants.{Pointer}
use Rattle.graph_core.specs.Memory.{Object, Memory, bytes_of, read, value_in, index_in}
use Rattle.graph_core.specs.Values.{as_element}
use Rattle.graph_build_steps.specs.Rules.{element_of}
use Rattle.graph_build_runs.specs.Typed.{PointsInto, IsOf}
use Rattle.graph_build_runs.specs.Correspondence.{owner_of, IsInMemory, SameObject, SamePointer, points, ended, SameValue, SameValues}
use Rattle.graph_build_runs.proofs.Leads.{Setting, Local, World}
use Rattle.graph_build_runs.proofs.Later.{some_same}
use Rattle.graph_build_runs.proofs.Kept.{Sound, Placed, Fits}
use Rattle.graph_build_runs.proofs.Elements.{multiple, reaches, element_keeps}
use Rattle.graph_build_runs.proofs.Meanings.{all_at}

-- values at one index
pub values_at : (p : ProgramTree) (memory : SourceMemory) (others : Memory) (vs : List source-value.Value) (ws : List Value) (k : ℕ) (v : source-value.Value) → SameValues p memory others vs ws → slice_get vs k ≡ Some v
    → (w : Value) × (slice_get ws k ≡ Some w) × SameValue p memory others v w
values_at p memory others [] ws k v same h = cc
values_at p memory others (u ∷ vs) [] k v same h = absurd same
values_at p memory others (u ∷ vs) (w ∷ ws) zero v same h = let e : u ≡ v = cc in (w, refl, subst (λ z. SameValue p memory others z w) e same.0)
values_at p memory others (u ∷ vs) (w ∷ ws) (suc k) v same h = values_at p memory others vs ws k v same.1 h

-- The unit's object of the object that a pointer points into, and the unit's pointer.
pub record Leading (x : Setting) (s : State) (w : World) (o : SourceObject) (offset : ℕ) (given : Value) : Type 0 where
  pub number : ℕ
  pub object : Object
  pub is : slice_get w.memory number ≡ Some object
  pub same : SameObject x.program o object
  pub given_is : given ≡ Pointer number (bytes_of object) offset
  pub inside : IsInMemory x.program o.owner
  pub values : o.phase ≡ Live → SameValues x.program s.memory w.memory o.values object.values

pub leads_to : (x : Setting) (want : Option ℕ) (s : State) (l : Local) (w : World) (n offset : ℕ) (o : SourceObject) (given : Value) → Fits x want s l w → slice_get s.memory n ≡ Some o → o.phase ≢ Ended
    → SamePointer x.program s.memory w.memory n offset given → Leading x s w o offset given
leads_to x want s l w n offset o given f is alive (ended o2 is2 over known) = absurd (alive (ap (λ z. z.phase) (some_same (sym is ∙ is2)) ∙ over))
leads_to x want s l w n offset o given f is alive (points o2 is2 begun inside m q at same within e) =
    let one : o2 ≡ o = some_same (sym is2 ∙ is) in
    let inside_o = subst (λ z. IsInMemory x.program z.owner) one inside in
    let c = f.placed n o is alive inside_o in
    let numbers : c.number ≡ m = f.differ c.number m c.object q c.is at c.same.lives same.lives (c.same.owner ∙ ap (λ z. owner_of x.program z.owner) (sym one) ∙ sym same.owner) in
    let objects : c.object ≡ q = some_same (sym c.is ∙ ap (slice_get w.memory) numbers ∙ at) in
    record {
      number = c.number;
      object = c.object;
      is = c.is;
      same = c.same;
      given_is = e ∙ ap (λ k. Pointer k (bytes_of q) offset) (sym numbers) ∙ ap (λ z. Pointer c.number (bytes_of z) offset) (sym objects);
      inside = inside_o;
      values = c.values;
    }

-- the index of the value that a pointer points to
pub index_is : (memory : SourceMemory) (sc : Scalar) (n offset : ℕ) (c : PointsInto memory (of-object.Scalar sc) n offset) → index_at c.object offset ≡ c.index
index_is memory sc n offset c = ap (λ e. offset / scalar_size e) c.element_is ∙ ap (λ k. k / scalar_size sc) c.at ∙ (multiple sc c.index).0

-- The unit reads a value that corresponds to the one that the source reads.
pub read_same : (x : Setting) (want : Option ℕ) (s : State) (l : Local) (w : World) (sc : Scalar) (n offset : ℕ) (given : Value) (v : source-value.Value) → Sound x.program x.begun s → Fits x want s l w → (c : PointsInto s.memory (of-object.Scalar sc) n offset) → c.object.phase ≡ Live
    → slice_get c.object.values (index_at c.object offset) ≡ Some v → SamePointer x.program s.memory w.memory n offset given
    → (u : Value) × (read w.memory (element_of sc) given ≡ Some u) × SameValue x.program s.memory w.memory v u
read_same x want s l w sc n offset given v sound f c live found pointer =
    let alive : c.object.phase ≢ Ended = λ over. live_not_ended (sym live ∙ over) in
    let q = leads_to x want s l w n offset c.object given f c.is alive pointer in
    let at_index : slice_get c.object.values c.index ≡ Some v = ap (slice_get c.object.values) (sym (index_is s.memory sc n offset c)) ∙ found in
    let got = values_at x.program s.memory w.memory c.object.values q.object.values c.index v (q.values live) at_index in
    let less = slice_get_within q.object.values c.index got.0 got.1 in
    let reach = reaches sc q.object c.index offset q.same.lives (q.same.element ∙ ap element_of c.element_is) c.at less in
    let typed : IsOf s.memory (loaded_type sc) v = subst (λ e. IsOf s.memory (loaded_type e) v) c.element_is (all_at s.memory (loaded_type c.object.element) c.object.values c.index v (sound.typed n c.object c.is) at_index) in
    let kept = element_keeps x.program s.memory w.memory sc v got.0 typed got.2 in (
      got.0,
      ap (read w.memory (element_of sc)) q.given_is ∙ ap (option_and_then (value_in (element_of sc) offset)) q.is ∙ ap (λ i. option_map (as_element (element_of sc)) (option_and_then (λ j. slice_get q.object.values j) i)) reach
          ∙ ap (option_map (as_element (element_of sc))) got.1 ∙ ap Some kept,
      got.2,
    )
  where
    live_not_ended : Live ≡ Ended → ⊥
    live_not_ended h = cc
