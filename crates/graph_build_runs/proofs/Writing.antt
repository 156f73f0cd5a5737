-- Writes where a pointer points: the unit's store does what the source's does.
use Rattle.std.proofs.Common.{◌≡◌, ◌≢◌, ℕ, ◌<◌, List, ◌∷◌, length, Option, Some, None, Bool, true, false, not, slice_set, refl, sym, ap, ◌∙◌, subst, arith}
use Rattle.std.specs.Prelude.{if◌then◌else◌, nat_le, option_map, option_and_then}
use Rattle.std.proofs.lemmas.Bool.Decides.{nat_tests}
use Rattle.c_tree.specs.declared.object_type.Scalar.{Scalar}
use Rattle.c_tree.specs.declared.object_type.ObjectType.TheVariants as of-object
use Rattle.c_type_rules.specs.Types.{loaded_type}
use Rattle.c_meaning_values.specs.declared.value.Value as source-value
use Rattle.c_meaning_values.specs.declared.value.Value.TheVariants as source
use Rattle.c_meaning_values.specs.declared.value.Phase.{Phase}
use Rattle.c_meaning_values.specs.declared.value.Phase.TheVariants.{Initialising, Live, Ended}
use Rattle.c_meaning_steps.specs.declared.event.Ending.TheVariants as ending
use Rattle.c_meaning_values.specs.Memory.{Object as SourceObject, Memory as SourceMemory, is_over, is_literal, is_writable, index_at, set_value, begun, written_in as written_there}
use Rattle.c_meaning_steps.specs.States.{State, Evaluated, Gives, Ends, value_or_undefined as given}
use Rattle.c_meaning_steps.specs.Steps.{store, value_stored as kept_in}
use Rattle.graph_core.specs.declared.value.Value.{Value}
use Rattle.graph_core.specs.declared.instruction.Element as declared-element
use Rattle.graph_core.specs.Graphs.{Operand, Location, Instruction, Store, End}
use Rattle.graph_core.specs.Memory.{Memory, write, write_in, written_in}
use Rattle.graph_core.specs.Runs.{Goes, Wild, step, value, pointed, with_memory}
use Rattle.graph_core.specs.Values.{is_odd, as_element}
use Rattle.graph_build_names.specs.Writes.{writes}
use Rattle.graph_build_steps.specs.Rules as rule
use Rattle.graph_build_steps.specs.Drafts.{Goal, To, Unused, Either, leaf, stored}
use Rattle.graph_build_runs.specs.Typed.{PointsInto, IsOf, IsPointerTo}
use Rattle.graph_build_runs.specs.Correspondence.{SamePointer, SameValue}
use Rattle.graph_build_runs.proofs.Tests.{HasWord}
use Rattle.graph_build_runs.proofs.Leads.{Setting, Local, World, here_at, at, stays, goes}
use Rattle.graph_build_runs.proofs.Later.{Later, later_written, written_is, OthersLater, others_set, value_later}
use Rattle.graph_build_runs.proofs.Kept.{Sound, Fits}
use Rattle.graph_build_runs.proofs.Results.{operand_in, Result, result_after}
use Rattle.graph_build_runs.proofs.Leaves.{leaf_done}
use Rattle.graph_build_runs.proofs.Noting.{known_value}
use Rattle.graph_build_runs.proofs.Elements.{reaches, element_keeps}
use Rattle.graph_build_runs.proofs.Access.{leads_to, index_is}
use Rattle.graph_build_runs.proofs.Storing.{fits_assigned}
use Rattle.graph_build_runs.proofs.Places.{pointed_in}
use Rattle.graph_build_runs.proofs.Loading.{pointed_same}
use Rattle.base_laws.proofs.Booleans.{three_true}

-- an object that is not over has not ended
pub not_over : (phase : Phase) → not (is_over phase) ≡ true → phase ≢ Ended
not_over Initialising h = λ e. cc
not_over Live h = λ e. cc
not_over Ended h = cc

-- an object that may be written at an offset is open, and has a value there
pub writable_there : (o : SourceObject) (offset : ℕ) → is_writable o offset ≡ true → (o.phase ≢ Ended) × (index_at o offset < length o.values)
writable_there o offset h =
    let c = three_true (not (is_over o.phase)) (not (is_literal o.owner)) (not (nat_le (length o.values) (index_at o offset))) h in
    let beyond = c.2 in
    (not_over o.phase c.0, grind (arith, nat_tests, beyond))

-- What a write comes to in both: the unit writes too, and what is kept is kept.
pub record StoredAs (x : Setting) (want : Option ℕ) (s : State) (l : Local) (w : World) (sc : Scalar) (given : Value) (v : source-value.Value) (u : Value) (after : SourceMemory) : Type 0 where
  pub memory : Memory
  pub writes : write w.memory (rule.element_of sc) given u ≡ Some memory
  pub fits : Fits x want (record s { memory = after }) l (record w { memory = memory })
  pub later : Later s.memory after
  pub others_later : OthersLater w.memory memory
  pub same : SameValue x.program after memory v u

module _ (x : Setting) (want : Option ℕ) (s : State) (l : Local) (w : World) (sc : Scalar) (n offset : ℕ) (given : Value) (v : source-value.Value) (u : Value) (sound : Sound x.program x.begun s) (f : Fits x want s l w) (c : PointsInto s.memory (of-object.Scalar sc) n offset)
    (pointer : SamePointer x.program s.memory w.memory n offset given) (typed : IsOf s.memory (loaded_type sc) v) (same : SameValue x.program s.memory w.memory v u) where
  abbrev after_in : SourceMemory
  after_in = slice_set s.memory n (record c.object { values = slice_set c.object.values (index_at c.object offset) v; phase = Live })

  -- The unit writes where the source does.
  pub write_same : is_writable c.object offset ≡ true → StoredAs x want s l w sc given v u after_in
  write_same can =
      let there = writable_there c.object offset can in
      let q = leads_to x want s l w n offset c.object given f c.is there.0 pointer in
      let index = index_is s.memory sc n offset c in
      let own : c.index < length c.object.values = subst (λ k. k < length c.object.values) index there.1 in
      let less : c.index < length q.object.values = subst (λ k. c.index < k) (sym q.same.count) own in
      let element : q.object.element ≡ rule.element_of sc = q.same.element ∙ ap rule.element_of c.element_is in
      let reach = reaches sc q.object c.index offset q.same.lives element c.at less in
      let keeps : as_element q.object.element u ≡ u = ap (λ e. as_element e u) element ∙ element_keeps x.program s.memory w.memory sc v u typed same in
      let others = slice_set w.memory q.number (record q.object { values = slice_set q.object.values c.index u }) in
      let source_later = later_written s.memory n c.index c.object v c.is there.0 in
      let unit_later = others_set w.memory q.number c.index q.object u q.is in
      let writes : write w.memory (rule.element_of sc) given u ≡ Some others =
      ap (λ p. write w.memory (rule.element_of sc) p u) q.given_is ∙ ap (option_and_then (write_in w.memory q.number (rule.element_of sc) offset u)) q.is
      ∙ ap (option_map (written_in w.memory q.number u q.object)) reach ∙ ap (λ z. Some (slice_set w.memory q.number (record q.object { values = slice_set q.object.values c.index z }))) keeps in
      subst (λ i. StoredAs x want s l w sc given v u (slice_set s.memory n (record c.object { values = slice_set c.object.values i v; phase = Live }))) (sym index)
      (record {
        memory = others;
        writes = writes;
        fits = fits_assigned x want s l w n c.index c.object q.number q.object v u sound f c.is there.0 own q.inside q.is q.same q.values same;
        later = source_later;
        others_later = unit_later;
        same = value_later x.program s.memory (slice_set s.memory n (record c.object { values = slice_set c.object.values c.index v; phase = Live })) w.memory others source_later unit_later v u same;
      })

-- A value is stored where a pointer points: nothing is defined, or both memories take it.
pub store_cases : (x : Setting) (want : Option ℕ) (s : State) (l : Local) (w : World) (sc : Scalar) (p : source-value.Value) (given : Value) (v : source-value.Value) (u : Value) → Sound x.program x.begun s → Fits x want s l w → IsPointerTo s.memory (of-object.Scalar sc) p
    → SameValue x.program s.memory w.memory p given → IsOf s.memory (loaded_type sc) v → SameValue x.program s.memory w.memory v u → (R : Evaluated → Type 0) → R (Ends ending.Undefined s)
    → ((after : SourceMemory) → StoredAs x want s l w sc given v u after → R (Gives v (record s { memory = after }))) → R (store p v s)
store_cases x want s l w sc (source.Number z) given v u sound f is pointer typed same R undefined next = absurd is
store_cases x want s l w sc source.Null given v u sound f is pointer typed same R undefined next = undefined
store_cases x want s l w sc (source.Pointer n offset) given v u sound f c pointer typed same R undefined next =
    subst (λ q. R (kept_in (option_and_then (written_there s.memory n offset v) q) v s)) (sym c.is) (by_way (is_writable c.object offset) refl)
  where
    is_set : begun (set_value s.memory n (index_at c.object offset) v) n ≡ slice_set s.memory n (record c.object { values = slice_set c.object.values (index_at c.object offset) v; phase = Live })
    is_set = written_is s.memory n (index_at c.object offset) c.object v c.is

    by_way : (b : Bool) → is_writable c.object offset ≡ b → R (kept_in (if b then Some (begun (set_value s.memory n (index_at c.object offset) v) n) else None) v s)
    by_way true e =
        subst (λ m. R (Gives v (record s { memory = m }))) (sym is_set)
        (next (slice_set s.memory n (record c.object { values = slice_set c.object.values (index_at c.object offset) v; phase = Live })) (write_same x want s l w sc n offset given v u sound f c pointer typed same e))
    by_way false e = undefined

-- the name that a goal wants written
abbrev pub want_by : Goal → Option ℕ
want_by (To want m) = want
want_by (Unused m) = None
want_by (Either one other inner) = None

-- The unit's instruction that stores.
pub store_step : (x : Setting) (e : declared-element.Element) (loc : Location) (a : Operand) (ops : List Instruction) (end : End) (l : Local) (w : World) (others : Memory) → is_odd (value x.unit.statics l.names a) ≡ false
    → write w.memory e (pointed_in x l w loc) (value x.unit.statics l.names a) ≡ Some others → step x.unit (at x (Store e loc a ∷ ops) end l w) ≡ Goes (at x ops end l (record w { memory = others }))
store_step x e loc a ops end l w others known writes =
    let given = value x.unit.statics l.names a in
    ap (λ b. if b then Wild else with_memory (at x ops end l w) (write w.memory e (pointed x.unit.statics w.memory (here_at x ops end l) loc) given)) known
    ∙ ap (λ q. with_memory (at x ops end l w) (write w.memory e q given)) (pointed_same x ops end l w loc) ∙ ap (with_memory (at x ops end l w)) writes

-- What follows a store of a value that stands in an operand.
pub stored_done : (x : Setting) (g : Goal) (e : declared-element.Element) (loc : Location) (a b : Operand) (t : ℕ) (f : ℕ → Bool) (v : source-value.Value) (s : State) (l : Local) (w : World) (others : Memory)
    → write w.memory e (pointed_in x l w loc) (value x.unit.statics l.names a) ≡ Some others → OthersLater w.memory others → Fits x (want_by g) s l (record w { memory = others }) → SameValue x.program s.memory others v (value x.unit.statics l.names a) → HasWord v
    → value x.unit.statics l.names a ≡ value x.unit.statics l.names (operand_in (want_by g) b) → Result x g b t f (stored e loc a g).ops (stored e loc a g).end l w (Gives v s)
stored_done x (To want m) e loc a b t f v s l w others writes later fits same word stands =
    let w1 : World = record w { memory = others } in
    let known = known_value x.program s.memory others v (value x.unit.statics l.names a) same in
    record {
      reached = record { local = l; world = w1; leads = goes (store_step x e loc a m.ops m.end l w others known writes) stays; fits = fits; kept = λ y lt nw nf. refl; later = later };
      same = subst (SameValue x.program s.memory others v) stands same;
    }
stored_done x (Unused m) e loc a b t f v s l w others writes later fits same word stands =
    let w1 : World = record w { memory = others } in
    let known = known_value x.program s.memory others v (value x.unit.statics l.names a) same in
    record { local = l; world = w1; leads = goes (store_step x e loc a m.ops m.end l w others known writes) stays; fits = fits; kept = λ y lt nw nf. refl; later = later }
stored_done x (Either one other inner) e loc a b t f v s l w others writes later fits same word stands =
    let w1 : World = record w { memory = others } in
    let g = Either one other inner in
    let m = leaf g a in
    let known = known_value x.program s.memory others v (value x.unit.statics l.names a) same in
    result_after x t t f f (Store e loc a ∷ m.ops) m.ops m.end m.end l l w w1 (goes (store_step x e loc a m.ops m.end l w others known writes) stays) (λ y lt nf. (lt, nf, refl)) later g a (Gives v s)
    (leaf_done x g a t f v s l w1 fits same word)
