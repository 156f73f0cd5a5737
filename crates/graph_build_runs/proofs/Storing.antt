-- Writes where a pointer points: the unit writes what the source does, and all else is kept.
use Rattle.std.proofs.Common.{◌≡◌, ◌≢◌, ℕ, zero, suc, ◌+◌, ◌*◌, ◌/◌, ◌<◌, ◌≤◌, ◌⊎◌, inl, inr, List, [], ◌∷◌, length, Option, Some, None, Bool, true, false, not, slice_get, slice_set, refl, sym, ap, ◌∙◌, subst, arith}
use Rattle.std.specs.Prelude.{if◌then◌else◌, option_map, option_and_then}
use Rattle.std.proofs.lemmas.Option.{slice_get_within}
use Rattle.std.proofs.lemmas.List.{length-set}
use Rattle.word_base.specs.Owners.{Owner, Static, Literal, Variable}
use Rattle.c_tree.specs.declared.object_type.Scalar.{Scalar}
use Rattle.c_tree.specs.Programs.{TypedFunctionTree, ProgramTree}
use Rattle.graph_core.specs.Runs.{Activation}
use Rattle.c_type_rules.specs.Types.{loaded_type}
use Rattle.c_meaning_values.specs.declared.value.Value as source-value
use Rattle.c_meaning_values.specs.declared.value.Phase.{Phase}
use Rattle.c_meaning_values.specs.declared.value.Phase.TheVariants.{Initialising, Live, Ended}
use Rattle.c_meaning_values.specs.Memory.{Object as SourceObject, Memory as SourceMemory}
use Rattle.c_meaning_steps.specs.States.{State}
use Rattle.graph_core.specs.declared.value.Value.{Value}
use Rattle.graph_core.specs.declared.value.Value.TheVariants.{Pointer}
use Rattle.graph_core.specs.declared.value.Owner as unit-owner
use Rattle.graph_core.specs.declared.value.Owner.TheVariants.{Static as UnitStatic, Automatic}
use Rattle.graph_core.specs.Memory.{Object, Memory, bytes_of, write, write_in, written_in, with_value, index_in}
use Rattle.graph_core.specs.Values.{as_element}
use Rattle.graph_build_names.specs.Names.{Names, names_of, scalar_of}
use Rattle.graph_build_steps.specs.Rules.{element_of}
use Rattle.graph_build_runs.specs.Typed.{IsOf, OwnersDiffer}
use Rattle.graph_build_runs.specs.Correspondence.{variable_of, owner_of, IsInMemory, SameObject, SameValue, SameValues}
use Rattle.graph_build_runs.specs.Stops.{IsDeclared, AreDeclared}
use Rattle.graph_build_runs.proofs.Leads.{Setting, names_in, depth_in, Local, World}
use Rattle.graph_build_runs.proofs.Later.{some_same, get_set, set_here, set_elsewhere, Onward, onward, live_open, Later, later_changed, OthersLater, others_trans, others_changed, value_later, values_later}
use Rattle.graph_build_runs.proofs.Kept.{Sound, Own, Waits, Outer, Placed, StaticIs, Fits}
use Rattle.graph_build_runs.proofs.Noting.{own_later}
use Rattle.graph_build_runs.proofs.Homes.{scalar_outside}
use Rattle.graph_build_runs.proofs.Access.{Leading}

pub values_set : (p : ProgramTree) (memory : SourceMemory) (others : Memory) (vs : List source-value.Value) (ws : List Value) (k : ℕ) (v : source-value.Value) (w : Value) → SameValues p memory others vs ws → SameValue p memory others v w
    → SameValues p memory others (slice_set vs k v) (slice_set ws k w)
values_set p memory others [] [] k v w same h = tt
values_set p memory others [] (z ∷ ws) k v w same h = absurd same
values_set p memory others (u ∷ vs) [] k v w same h = absurd same
values_set p memory others (u ∷ vs) (z ∷ ws) zero v w same h = (h, same.1)
values_set p memory others (u ∷ vs) (z ∷ ws) (suc k) v w same h = (same.0, values_set p memory others vs ws k v w same.1 h)

-- one value in one place
pub one_same : (p : ProgramTree) (memory : SourceMemory) (others : Memory) (vs : List source-value.Value) (ws : List Value) (v : source-value.Value) (w : Value) → length vs ≡ 1 → length ws ≡ 1 → SameValue p memory others v w → SameValues p memory others (slice_set vs 0 v) (slice_set ws 0 w)
one_same p memory others [] ws v w e f same = absurd (omega (arith, e))
one_same p memory others (x ∷ vs) [] v w e f same = absurd (omega (arith, f))
one_same p memory others (x ∷ []) (y ∷ []) v w e f same = (same, tt)
one_same p memory others (x ∷ []) (y ∷ z ∷ ws) v w e f same = absurd (omega (arith, f))
one_same p memory others (x ∷ z ∷ vs) (y ∷ ws) v w e f same = absurd (omega (arith, e))

-- Owners of declared objects that are one in the unit are one.
pub owners_one : (p : ProgramTree) (a b : Owner) (o q : SourceObject) → IsDeclared p a o → IsDeclared p b q → owner_of p a ≡ owner_of p b → a ≡ b
owners_one p (Static n) (Static m) o q da db e = ap Static (static_one e)
  where
    static_one : {i j : ℕ} → UnitStatic i ≡ UnitStatic j → i ≡ j
    static_one h = cc
owners_one p (Static n) (Literal m) o q da db e = let same : n ≡ length p.statics + m = cc in let less = slice_get_within p.statics n da.0 da.1 in absurd (omega (arith, same, less))
owners_one p (Static n) (Variable m d) o q da db e = cc
owners_one p (Literal n) (Static m) o q da db e = let same : length p.statics + n ≡ m = cc in let less = slice_get_within p.statics m db.0 db.1 in absurd (omega (arith, same, less))
owners_one p (Literal n) (Literal m) o q da db e = let same : length p.statics + n ≡ length p.statics + m = cc in ap Literal (omega (arith, same))
owners_one p (Literal n) (Variable m d) o q da db e = cc
owners_one p (Variable n c) (Static m) o q da db e = cc
owners_one p (Variable n c) (Literal m) o q da db e = cc
owners_one p (Variable n c) (Variable m d) o q da db e =
    let same : length p.statics + length p.literals + n ≡ length p.statics + length p.literals + m = cc in
    let depths : c ≡ d = cc in
    let numbers : n ≡ m = omega (arith, same) in
    ap (λ k. Variable k c) numbers ∙ ap (Variable m) depths

-- An object in memory, and the unit's, take values that are the same. The object may come to live.
module _ (x : Setting) (want : Option ℕ) (s : State) (l : Local) (w : World) (n : ℕ) (o : SourceObject) (m : ℕ) (q : Object) (vs : List source-value.Value) (ws : List Value) (count : length vs ≡ length o.values) (unit_count : length ws ≡ length q.values) (phase : Phase) (goes_on : Onward o.phase phase) (differ : OwnersDiffer s.memory) (declared : AreDeclared x.program s.memory) (f : Fits x want s l w) (at : slice_get s.memory n ≡ Some o) (alive : o.phase ≢ Ended)
    (inside : IsInMemory x.program o.owner) (at_unit : slice_get w.memory m ≡ Some q) (same : SameObject x.program o q) (values : phase ≡ Live → SameValues x.program s.memory w.memory vs ws) where
  abbrev pub source_after : SourceMemory
  source_after = slice_set s.memory n (record o { values = vs; phase = phase })

  abbrev pub unit_after : Memory
  unit_after = slice_set w.memory m (record q { values = ws })

  later : Later s.memory source_after
  later = later_changed s.memory n o (record o { values = vs; phase = phase }) at refl refl goes_on count

  others_later : OthersLater w.memory unit_after
  others_later = others_changed w.memory m q (record q { values = ws }) at_unit refl refl refl unit_count

  -- an object that is no other's in memory is as it was
  elsewhere : (i : ℕ) (z : SourceObject) → slice_get source_after i ≡ Some z → (IsInMemory x.program z.owner → ⊥) → slice_get s.memory i ≡ Some z
  elsewhere i z is apart = elim (get_set s.memory n i (record o { values = vs; phase = phase }) z is) [
    | inl both ↦ absurd (apart (subst (IsInMemory x.program) (ap (λ c. c.owner) (sym both.1)) inside))
    | inr both ↦ both.1
  ]

  not_inside : (tree : TypedFunctionTree) (again : Bool) (y j depth : ℕ) → scalar_of (names_of x.program tree again) y ≡ Some j → IsInMemory x.program (Variable y depth) → ⊥
  not_inside tree again y j depth named c = let out = scalar_outside x.program tree again y j c.0 named c.1 in let in_it = c.2 in cc

  outer_stored : (waiting : List Activation) → Outer x.program s.memory w.memory waiting → Outer x.program source_after unit_after waiting
  outer_stored [] outer = tt
  outer_stored (a ∷ more) outer =
      let c = outer.0 in (
        record {
          tree = c.tree;
          is = c.is;
          own =
              own_later x.program (names_of x.program c.tree false) None s.memory source_after w.memory unit_after (length more + 1) a.first_object a.names a.shadows later others_later
              (λ y j i z named is owner. elsewhere i z is (λ h. not_inside c.tree false y j (length more + 1) named (subst (IsInMemory x.program) owner h))) c.own;
        },
        outer_stored more outer.1,
      )

  -- the unit's object of an object
  placed_stored : (i : ℕ) (z : SourceObject) → slice_get source_after i ≡ Some z → z.phase ≢ Ended → IsInMemory x.program z.owner → Placed x.program source_after unit_after z
  placed_stored i z is open_z inside_z = elim (get_set s.memory n i (record o { values = vs; phase = phase }) z is) [
    | inl both ↦
        subst (Placed x.program source_after unit_after) (sym both.1)
        (record {
          number = m;
          object = record q { values = ws };
          is = set_here w.memory m q (record q { values = ws }) at_unit;
          same = record { owner = same.owner; lives = same.lives; element = same.element; count = unit_count ∙ same.count ∙ sym count };
          values = λ live. values_later x.program s.memory source_after w.memory unit_after later others_later vs ws (values live);
        })
    | inr both ↦
        let c = f.placed i z both.1 open_z inside_z in
        let ne : c.number ≢ m = λ e. both.0 (differ i n z o both.1 at open_z alive (owners_one x.program z.owner o.owner z o (declared i z both.1) (declared n o at)
        (sym c.same.owner ∙ ap (λ b. b.owner) (some_same (sym c.is ∙ ap (slice_get w.memory) e ∙ at_unit)) ∙ same.owner))) in
        record {
          number = c.number;
          object = c.object;
          is = set_elsewhere w.memory m c.number (record q { values = ws }) ne ∙ c.is;
          same = c.same;
          values = λ live. values_later x.program s.memory source_after w.memory unit_after later others_later z.values c.object.values (c.values live);
        }
  ]

  -- an object of the unit as it was
  old : (i : ℕ) (b : Object) → slice_get unit_after i ≡ Some b → (c : Object) × (slice_get w.memory i ≡ Some c) × (b.owner ≡ c.owner) × (b.live ≡ c.live)
  old i b is = elim (get_set w.memory m i (record q { values = ws }) b is) [
    | inl both ↦ (q, ap (slice_get w.memory) both.0 ∙ at_unit, ap (λ c. c.owner) both.1, ap (λ c. c.live) both.1)
    | inr both ↦ (b, both.1, refl, refl)
  ]

  -- What is kept is kept behind the writes.
  pub fits_both_set : Fits x want (record s { memory = source_after }) l (record w { memory = unit_after })
  fits_both_set = record {
    own =
        own_later x.program (names_in x) want s.memory source_after w.memory unit_after (depth_in x) x.first l.names l.shadows later others_later
        (λ y j i z named is owner. elsewhere i z is (λ h. not_inside x.tree x.again y j (depth_in x) named (subst (IsInMemory x.program) owner h))) f.own;
    outer = outer_stored x.waiting f.outer;
    placed = placed_stored;
    differ = λ i j b c ib ic lb lc e. (let y = old i b ib in let z = old j c ic in f.differ i j y.0 z.0 y.1 z.1 (sym y.3 ∙ lb) (sym z.3 ∙ lc) (sym y.2 ∙ e ∙ z.2));
    above = λ i b v d is live owner. (let y = old i b is in f.above i y.0 v d y.1 (sym y.3 ∙ live) (sym y.2 ∙ owner));
    later = others_trans x.objects w.memory unit_after f.later others_later;
    statics = λ i t is. (let c = f.statics i t is in let b = others_later i c.object c.is in record { object = b.object; is = b.is; owner = b.owner ∙ c.owner; lives = b.live ∙ c.lives; element = b.element ∙ c.element; count = b.count ∙ c.count });
    input = f.input;
    events = f.events;
  }

-- An element of an array takes a value.
pub fits_stored : (x : Setting) (want : Option ℕ) (s : State) (l : Local) (w : World) (n k : ℕ) (o : SourceObject) (m : ℕ) (q : Object) (v : source-value.Value) (u : Value) → Sound x.program x.begun s → Fits x want s l w → slice_get s.memory n ≡ Some o → o.phase ≢ Ended → IsInMemory x.program o.owner
    → slice_get w.memory m ≡ Some q → SameObject x.program o q → (o.phase ≡ Live → SameValues x.program s.memory w.memory o.values q.values) → SameValue x.program s.memory w.memory v u
    → Fits x want (record s { memory = slice_set s.memory n (record o { values = slice_set o.values k v }) }) l (record w { memory = slice_set w.memory m (record q { values = slice_set q.values k u }) })
fits_stored x want s l w n k o m q v u sound f at alive inside at_unit same values value =
    fits_both_set x want s l w n o m q (slice_set o.values k v) (slice_set q.values k u) (length-set o.values k v) (length-set q.values k u) o.phase (onward o.phase o.phase refl) sound.differ sound.declared f at alive inside at_unit same (λ live. values_set x.program s.memory w.memory o.values q.values k v u (values live) value)

-- An object is written, and lives: one that is being initialised has one value.
pub fits_assigned : (x : Setting) (want : Option ℕ) (s : State) (l : Local) (w : World) (n k : ℕ) (o : SourceObject) (m : ℕ) (q : Object) (v : source-value.Value) (u : Value) → Sound x.program x.begun s → Fits x want s l w → slice_get s.memory n ≡ Some o → o.phase ≢ Ended → k < length o.values → IsInMemory x.program o.owner
    → slice_get w.memory m ≡ Some q → SameObject x.program o q → (o.phase ≡ Live → SameValues x.program s.memory w.memory o.values q.values) → SameValue x.program s.memory w.memory v u
    → Fits x want (record s { memory = slice_set s.memory n (record o { values = slice_set o.values k v; phase = Live }) }) l (record w { memory = slice_set w.memory m (record q { values = slice_set q.values k u }) })
fits_assigned x want s l w n k o m q v u sound f at alive less inside at_unit same values value =
    fits_both_set x want s l w n o m q (slice_set o.values k v) (slice_set q.values k u) (length-set o.values k v) (length-set q.values k u) Live (live_open o.phase alive) sound.differ sound.declared f at alive inside at_unit same (λ live. by_phase o.phase refl)
  where
    by_phase : (phase : Phase) → o.phase ≡ phase → SameValues x.program s.memory w.memory (slice_set o.values k v) (slice_set q.values k u)
    by_phase Initialising e =
        let one : length o.values ≡ 1 = sound.single n o at e in
        let first : 0 ≡ k = omega (arith, less, one) in
        subst (λ i. SameValues x.program s.memory w.memory (slice_set o.values i v) (slice_set q.values i u)) first (one_same x.program s.memory w.memory o.values q.values v u one (same.count ∙ one) value)
    by_phase Live e = values_set x.program s.memory w.memory o.values q.values k v u (values e) value
    by_phase Ended e = absurd (alive e)
