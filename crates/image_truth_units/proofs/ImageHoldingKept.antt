-- The image of a program keeps the objects of its unit where the code has them.
use Rattle.std.proofs.Common.{◌≡◌, ◌≢◌, ℕ, zero, suc, ◌+◌, ◌-◌, ◌*◌, ◌≤◌, inl, inr, false, Option, Some, None, List, ◌++◌, length, map, slice_get, refl, sym, ap, ◌∙◌, arith}
use Rattle.std.specs.Prelude.{◌==◌, if◌then◌else◌}
use Rattle.std.specs.Option.{option_map_or}
use Rattle.std.proofs.lemmas.Bool.{cases_lt}
use Rattle.std.proofs.lemmas.Bool.Decides.{nat_tests}
use Rattle.std.proofs.lemmas.Option.{none-some, same_Some, slice_get_within, get_or_from_slice_get}
use Rattle.c_tree.specs.Programs.{ProgramTree, LiteralTree}
use Rattle.image_form.specs.Form.{Form, numbered}
use Rattle.image_form.specs.Rules.{IsImage}
use Rattle.image_form.specs.declared.tables.Function.{Function}
use Rattle.image_form.specs.declared.tables.Place.{Place}
use Rattle.image_form.specs.declared.variables.Storage.TheVariants as kept
use Rattle.image_form.specs.declared.variables.Variable.{Variable}
use Rattle.image_build_tables.specs.Spans.{Span, span, code_span}
use Rattle.image_build_tables.specs.Storages.{storages_of}
use Rattle.image_build_tables.specs.Variables.{shape, shapes_of, owner, owners_of, declared_names, name_length, length_of_name, storage}
use Rattle.stop_engine_view.specs.Pointers.{variable_size}
use Rattle.stop_engine_view.specs.Words.{element_size}
use Rattle.graph_core.specs.declared.graph.MemoryObject.{MemoryObject}
use Rattle.graph_core.specs.Graphs.{Graph, StaticObject}
use Rattle.graph_core.specs.Memory.{static_bytes}
use Rattle.graph_homes.specs.Homed.{HomedForm}
use Rattle.rv_emit_storage.specs.StaticAddresses.{static_at}
use Rattle.rv_emit_tables.specs.Emitted.{EmittedForm}
use Rattle.rv_emit_tables.specs.Emitted as emitted
use Rattle.rv_emit_storage.specs.Storages.{object_at}
use Rattle.rv_emit_runs.specs.Waiting.{bytes_in}
use Rattle.rv_emit_runs.specs.Laid.{Arrangement, no_graph, code_of}
use Rattle.rv_emit_runs.proofs.Frames.{graph_is}
use Rattle.rv_emit_runs.specs.Told.{Tells}
use Rattle.image_truth_units.specs.Units.{HasVariablesIn}
use Rattle.image_truth_units.specs.Variables.{HasVariablesOf}
use Rattle.image_truth_units.proofs.Areas.{there}
use Rattle.image_truth_units.proofs.Kept.{static_kept, object_kept, frame_only, static_only}
use Rattle.image_truth_units.proofs.Shown.{size_of}
use Rattle.image_truth_units.proofs.Tables.{from_map, map_at, literal_sized}
use Rattle.image_truth_units.specs.Keeping.{IsKept, KeepsObjectsOf, KeepsPlacesOf, HasPlacesOf}

-- ---- Places

module _ (h : HomedForm) (a : Arrangement) (e : EmittedForm) (tells : Tells h a e) (m : Form) (spans : map span m.functions ≡ map code_span e.functions) (has : HasPlacesOf h.unit m) where
  no_place : (place : ℕ) (q : Place) → numbered m.places place ≡ Some q → place ≢ 0
  no_place zero q is = λ none. none-some q is
  no_place (suc k) q is = λ wrong. absurd (omega (arith, wrong))

  frame_is : (f : ℕ) (g : Graph) → slice_get h.unit.graphs f ≡ Some g → option_map_or (λ (x : Function). x.frame) (slice_get m.functions f) 0 ≡ (code_of h a f).size
  frame_is f g is =
      let told = tells.functions f g is in
      let x = from_map span m.functions f (code_span told.code) (ap (λ l. slice_get l f) spans ∙ map_at code_span e.functions f told.code told.is) in
      ap (λ r. option_map_or (λ (x : Function). x.frame) r 0) x.1 ∙ ap (λ (q : Span). q.frame) x.2 ∙ told.frame

  -- The image knows the places of the unit's functions.
  pub keeps_places : KeepsPlacesOf h a m
  keeps_places = record {
    some = λ f p g is at. let q = has.place f p g is at in no_place p q.0 q.1;
    function = λ f p g is at. let q = has.place f p g is at in ap (λ r. option_map_or (λ (x : Place). x.function) r 0) q.1 ∙ q.2;
    frame = λ f p g is at.
        let q = has.place f p g is at in
        ap (λ r. option_map_or (λ (x : Place). option_map_or (λ (y : Function). y.frame) (slice_get m.functions x.function) 0) r 0) q.1
        ∙ ap (λ k. option_map_or (λ (y : Function). y.frame) (slice_get m.functions k) 0) q.2 ∙ frame_is f g is;
  }

-- ---- Objects

module _ (p : ProgramTree) (m : Form) (functions : map name_length m.functions ≡ map length_of_name p.functions) (variables : map shape m.variables ≡ shapes_of p) (owners : map owner m.variables ≡ owners_of p) (more : List ℕ) (names : m.names ≡ declared_names p ++ more) (rules : IsImage m)
    (h : HomedForm) (a : Arrangement) (e : EmittedForm) (storages : map storage m.variables ≡ storages_of h e (length m.variables)) (unit : HasVariablesIn p h.unit) (tells : Tells h a e) (tables : HasVariablesOf p m)
    (literals : (n : ℕ) (l : LiteralTree) → slice_get p.literals n ≡ Some l → (1 ≤ length l.bytes) × (length l.bytes ≤ 4294967295)) where
  -- how many bytes a variable of static storage has
  static_sized : (k : ℕ) (o : StaticObject) (v : Variable) → slice_get h.unit.statics k ≡ Some o → slice_get m.variables k ≡ Some v → variable_size v ≡ static_bytes o
  static_sized k o v is at = elim (cases_lt k (length p.statics)) [
    | inl low ↦
        let t = there p.statics k low in
        let named = tables.statics k t.0 t.1 in
        let same : named.variable ≡ v = same_Some named.variable v (sym named.is ∙ at) in
        ap variable_size (sym same) ∙ size_of t.0.of named.variable named.element named.count named.some ∙ sym (unit.static_size k t.0 o t.1 is)
    | inr behind ↦
        let low = slice_get_within h.unit.statics k o is in
        let many = unit.statics in
        let at_is : length p.statics + (k - length p.statics) ≡ k = omega (arith, behind) in
        let l = there p.literals (k - length p.statics) (omega (arith, low, many, behind)) in
        let law = literals (k - length p.statics) l.0 l.1 in
        let sized = literal_sized p m functions variables owners more names rules (k - length p.statics) l.0 v l.1 (ap (slice_get m.variables) at_is ∙ at) in
        let count = sized.1 in let some = law.0 in let few = law.1 in
        let count_is : v.count ≡ length l.0.bytes = omega (arith, count, few) in
        let test : (v.count == 0) ≡ false = not_zero v.count (omega (arith, count_is, some)) in
        let one : v.count * 1 ≡ v.count = omega arith in
        ap (λ b. (if b then 1 else v.count) * element_size v.element) test ∙ ap (λ x. v.count * element_size x) sized.0 ∙ one ∙ count_is
        ∙ sym (unit.literal_size (k - length p.statics) l.0 o l.1 (ap (slice_get h.unit.statics) at_is ∙ is))
  ]
    where
      not_zero : (n : ℕ) → 1 ≤ n → (n == 0) ≡ false
      not_zero n some = grind (arith, nat_tests, some)

  -- an object of static storage
  static_there : (k : ℕ) (o : StaticObject) → slice_get h.unit.statics k ≡ Some o → IsKept m k None (kept.Static (static_at h.unit k)) (static_bytes o)
  static_there k o is =
      let low = slice_get_within h.unit.statics k o is in
      let many = unit.statics in
      let fixed = static_kept p m functions variables owners more names rules h e storages unit tells.many k (omega (arith, low, many)) in
      let address : fixed.address ≡ static_at h.unit k = same_Some fixed.address (static_at h.unit k) (sym fixed.there_is ∙ tells.statics k low) in
      record { variable = fixed.variable; is = fixed.is; owner = fixed.owner_is; there = fixed.storage_is ∙ ap (λ i. kept.Static i) address; size = static_sized k o fixed.variable is fixed.is }

  -- an object of a frame
  object_there : (f k : ℕ) (g : Graph) (o : MemoryObject) → slice_get h.unit.graphs f ≡ Some g → slice_get g.objects k ≡ Some o → IsKept m o.var.0 (Some f) (kept.Frame (object_at (code_of h a f).storage k)) (bytes_in o)
  object_there f k g o is at =
      let mine = object_kept p m functions variables owners more names rules h e storages unit tells.many f k g o is at in
      let told = tells.functions f g is in
      let code : mine.code ≡ told.code = same_Some mine.code told.code (sym mine.code_is ∙ told.is) in
      let listed : slice_get (code_of h a f).storage.objects k ≡ Some mine.offset = ap (λ l. slice_get l k) (sym told.objects) ∙ ap (λ (c : emitted.FunctionCode). slice_get c.objects k) (sym code) ∙ mine.there_is in
      let offset : object_at (code_of h a f).storage k ≡ mine.offset = get_or_from_slice_get (code_of h a f).storage.objects k mine.offset 0 listed in
      let of = unit.objects f k g o is at in
      let named = tables.automatics of.variable of.tree of.is in
      let same : named.variable ≡ mine.variable = same_Some named.variable mine.variable (sym named.is ∙ ap (slice_get m.variables) (sym of.number_is) ∙ mine.is) in
      record {
        variable = mine.variable;
        is = mine.is;
        owner = mine.owner_is;
        there = mine.storage_is ∙ ap (λ i. kept.Frame i) (sym offset);
        size = ap variable_size (sym same) ∙ size_of of.tree.of named.variable named.element named.count named.some ∙ sym (unit.object_size f k of.variable g o of.tree is at of.number_is of.is);
      }

  no_object : (f k : ℕ) (o : MemoryObject) → slice_get h.unit.graphs f ≡ None → slice_get (code_of h a f).graph.objects k ≡ Some o → ⊥
  no_object f k o none at = none-some o (sym (ap (λ r. slice_get (option_map_or (λ (g : Graph). g) r no_graph).objects k) none) ∙ at)

  object_of : (f k : ℕ) (o : MemoryObject) → slice_get (code_of h a f).graph.objects k ≡ Some o → IsKept m o.var.0 (Some f) (kept.Frame (object_at (code_of h a f).storage k)) (bytes_in o)
  object_of f k o at = by_graph (slice_get h.unit.graphs f) refl
    where
      by_graph : (r : Option Graph) → slice_get h.unit.graphs f ≡ r → IsKept m o.var.0 (Some f) (kept.Frame (object_at (code_of h a f).storage k)) (bytes_in o)
      by_graph None none = absurd (no_object f k o none at)
      by_graph (Some g) is = object_there f k g o is (ap (λ (x : Graph). slice_get x.objects k) (sym (graph_is h.unit f g is)) ∙ at)

  -- The image keeps the unit's objects where the code has them.
  pub keeps_objects : KeepsObjectsOf h a m
  keeps_objects = record {
    statics = static_there;
    objects = object_of;
    static_only = λ number address v is stored. static_only p m functions variables owners more names rules h e storages unit tells.many number address v is stored;
    objects_only = λ f number offset v is own stored.
        let of = frame_only p m functions variables owners more names rules h e storages unit tells.many f number offset v is own stored in
        record { index = of.index; object = of.object_is; is = ap (λ (x : Graph). slice_get x.objects of.index) (graph_is h.unit f of.graph of.is) ∙ of.there_is; var = of.variable_is };
  }
