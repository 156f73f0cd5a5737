-- The variables of tables keep their rules.
use Rattle.std.proofs.Common.{◌≡◌, ℕ, zero, suc, ◌+◌, ◌-◌, ◌*◌, ◌%◌, ◌≤◌, ◌<◌, inl, inr, ⊎_elim, Option, Some, None, List, [], ◌∷◌, ◌++◌, length, map, replicate, slice_get, slice_index, refl, sym, ap, ◌∙◌, subst, arith}
use Rattle.std.specs.Prelude.{IsSomeAnd}
use Rattle.std.specs.List.{AllByRecursion}
use Rattle.std.specs.Option.{option_map_or}
use Rattle.std.proofs.lemmas.Bool.{cases_lt}
use Rattle.std.proofs.lemmas.Bool.Decides.{nat_tests}
use Rattle.std.proofs.lemmas.List.{length-map}
use Rattle.std.proofs.lemmas.Option.{none-some, same_Some, slice_get_within}
use Rattle.places.specs.declared.table.PlaceRow.{PlaceRow}
use Rattle.c_tree.specs.declared.object_type.ObjectType.{ObjectType}
use Rattle.c_tree.specs.declared.object_type.ObjectType.TheVariants as type
use Rattle.c_tree.specs.Programs.{AutomaticTree, LiteralTree, ProgramTree, StaticTree, TypedFunctionTree}
use Rattle.c_type_laws.specs.Names.{has_few_elements, is_name}
use Rattle.c_type_laws.proofs.Named.{automatic_named, name_short, name_some, static_named}
use Rattle.graph_homes.specs.declared.home.Home.{Home}
use Rattle.graph_homes.specs.declared.home.Home.TheVariants.{Register, Slot}
use Rattle.graph_core.specs.declared.graph.MemoryObject.{MemoryObject}
use Rattle.graph_core.specs.Graphs.{Graph, Scalar}
use Rattle.graph_core.specs.Validity.{IsGraph, taken_by_object, total}
use Rattle.graph_homes.specs.Frames.{object_offsets, objects_start}
use Rattle.graph_homes.specs.Homed.{AreHomesOf, HomedForm, IsHomeAmong, home_of}
use Rattle.rv_emit_storage.specs.StaticAddresses.{static_at, statics_start}
use Rattle.memory_map.specs.declared.map.Map.{Map}
use Rattle.memory_map.specs.Maps.{bytes_size, bytes_start}
use Rattle.memory_map.proofs.Facts.{map_facts}
use Rattle.rv_emit_storage.specs.UnitMaps.{map_of_unit}
use Rattle.rv_emit_storage.proofs.UnitMaps.{statics_begin}
use Rattle.rv_emit_tables.specs.Emitted.{EmittedForm, FunctionCode}
use Rattle.rv_emit_runs.specs.Laid.{code_of}
use Rattle.rv_emit_runs.proofs.Frames.{AreHomed, graph_is, laid_out}
use Rattle.image_form.specs.Form.{Form}
use Rattle.image_form.specs.RulesOfVariables.{IsCount, IsDeclaredBefore, IsFrameOffset, IsKept, IsKeptInFunction, IsKeptStatically, IsNamed, IsVariable, VariableRules, group, group_of, static_size, first_static_address}
use Rattle.image_form.specs.declared.tables.Function.{Function}
use Rattle.image_form.specs.declared.variables.Storage.TheVariants as storage
use Rattle.image_form.specs.declared.variables.Variable.{Variable}
use Rattle.image_build_tables.specs.Storages.{keepings_of, storage_of, storages_of}
use Rattle.image_build_tables.specs.Variables.{Shape, automatic_shape, element_count, bounded_count as counted, entry, literal_shape, owned_from, owner, owners_of, shape, shapes_of, static_shape}
use Rattle.image_build_tables.specs.Variables as declarations
use Rattle.image_truth_units.specs.Units.{HasVariablesIn, IsVariableOf}
use Rattle.image_truth_units.specs.Variables.{automatic_number}
use Rattle.image_truth_units.proofs.Storages.{IsKeptBy, IsObjectAt, IsScalarAt, kept_by, nowhere, object, scalar, static}
use Rattle.image_truth_units.specs.Tables.{entry_number, entry_place, variables_in}
use Rattle.image_truth_units.specs.ImageRulesUnits.{HasAllVariables, HasObjectOf, HasScalarOf, IsSingle}
use Rattle.image_truth_units.proofs.Accepted.{ascend_at, both, facts_of}
use Rattle.image_truth_units.proofs.Functions.{made_of, some_length}
use Rattle.image_truth_units.proofs.Given.{Given, memory_is}
use Rattle.image_truth_units.proofs.Keepings.{IsPutAt, kept_some, put_object, put_scalar, put_static, static_within}
use Rattle.image_truth_units.proofs.Lists.{across, all_at, all_from, from_map, map_at, next_from, there}
use Rattle.image_truth_units.proofs.ProgramPlaces.{behind_is, front_is}

-- ---- Lists

in_front : {A B : Type 0} (f : A → B) (xs : List A) (rest : List B) (k : ℕ) → k < length xs → slice_get (map f xs ++ rest) k ≡ slice_get (map f xs) k
in_front f xs rest k low = let many = length-map xs f in front_is (map f xs) rest k (omega (arith, low, many))

further : {A B : Type 0} (f : A → B) (xs : List A) (rest : List B) (k : ℕ) → slice_get (map f xs ++ rest) (length xs + k) ≡ slice_get rest k
further f xs rest k = ap (λ n. slice_get (map f xs ++ rest) (n + k)) (sym (length-map xs f)) ∙ behind_is (map f xs) rest k

homes_there : (gs : List Graph) (hs : List (List Home)) (n : ℕ) (g : Graph) → AreHomesOf gs hs → slice_get gs n ≡ Some g → (homes : List Home) × (slice_get hs n ≡ Some homes) × AreHomed g homes
homes_there [] hs n g are is = absurd (none-some g is)
homes_there (x ∷ gs) [] n g are is = absurd are
homes_there (x ∷ gs) (y ∷ hs) zero g are is = (y, refl, subst (λ z. AreHomed z y) (same_Some x g is) (record { many = are.0; all = are.1 }))
homes_there (x ∷ gs) (y ∷ hs) (suc n) g are is = homes_there gs hs n g are.2 is

-- objects lie one behind the other
lies_at : (objects : List MemoryObject) (o k : ℕ) (m : MemoryObject) → o % 4 ≡ 0 → slice_get objects k ≡ Some m → (slice_index (object_offsets o objects) k % 4 ≡ 0) × (slice_index (object_offsets o objects) k + 4 ≤ o + total taken_by_object objects)
lies_at [] o k m aligned is = absurd (none-some m is)
lies_at (z ∷ objects) o zero m aligned is = (aligned, omega arith)
lies_at (z ∷ objects) o (suc k) m aligned is =
    let later = lies_at objects (o + taken_by_object z) k m (omega (arith, aligned)) is in
    let high = later.1 in
    (later.0, omega (arith, high))

offsets_many : (o : ℕ) (objects : List MemoryObject) → length (object_offsets o objects) ≡ length objects
offsets_many o [] = refl
offsets_many o (m ∷ more) = let rest = offsets_many (o + taken_by_object m) more in omega (arith, rest)

-- what belongs to functions belongs to one of them
abbrev IsOwned : (low high : ℕ) → Option ℕ → Type 0
IsOwned low high None = ⊥
IsOwned low high (Some f) = (low ≤ f) × (f < high)

wider : (low high n m : ℕ) (o : Option ℕ) → n ≤ low → high ≤ m → IsOwned low high o → IsOwned n m o
wider low high n m None a b is = is
wider low high n m (Some f) a b is = let one = is.0 in let two = is.1 in (omega (arith, a, one), omega (arith, b, two))

owned_these : (number high : ℕ) (rest : List (Option ℕ)) (o : Option ℕ) → number < high → ((j : ℕ) → slice_get rest j ≡ Some o → IsOwned number high o) → (n k : ℕ) → slice_get (replicate n (Some number) ++ rest) k ≡ Some o → IsOwned number high o
owned_these number high rest o less later zero k is = later k is
owned_these number high rest o less later (suc n) zero is = subst (IsOwned number high) (same_Some (Some number) o is) (omega arith, less)
owned_these number high rest o less later (suc n) (suc k) is = owned_these number high rest o less later n k is

owned_all : (number : ℕ) (fs : List TypedFunctionTree) (k : ℕ) (o : Option ℕ) → slice_get (owned_from number fs) k ≡ Some o → IsOwned number (number + length fs) o
owned_all number [] k o is = absurd (none-some o is)
owned_all number (f ∷ fs) k o is =
    owned_these number (number + length (f ∷ fs)) (owned_from (number + 1) fs) o (omega arith)
    (λ j at. wider (number + 1) (number + 1 + length fs) number (number + length (f ∷ fs)) o (omega arith) (omega arith) (owned_all (number + 1) fs j o at)) f.variables k is

-- ---- What a variable is

-- A variable of the tables is one that the program declares.
data IsDeclaredAs (p : ProgramTree) (k : ℕ) (v : Variable) : Type 0 where
  of_static : (t : StaticTree) → slice_get p.statics k ≡ Some t → shape v ≡ static_shape t → v.function ≡ None → IsDeclaredAs p k v
  of_literal : (n : ℕ) (l : LiteralTree) → k ≡ length p.statics + n → slice_get p.literals n ≡ Some l → shape v ≡ literal_shape l → v.function ≡ None → IsDeclaredAs p k v
  of_automatic : (x f : ℕ) (a : AutomaticTree) → k ≡ automatic_number p x → slice_get p.automatics x ≡ Some a → shape v ≡ automatic_shape a → slice_get (owned_from 0 p.functions) x ≡ Some (Some f) → v.function ≡ Some f → IsDeclaredAs p k v

-- a scalar has no count
no_count : (of : ObjectType) → IsSingle of → element_count of ≡ 0
no_count (type.Scalar s) single = refl
no_count (type.Array s count) single = absurd single

module _ (p : ProgramTree) (h : HomedForm) (e : EmittedForm) (rows : List PlaceRow) (m : Form) (given : Given p h e rows m) (unit : HasVariablesIn p h.unit) (every : HasAllVariables p h.unit) where
  declared : (k : ℕ) (v : Variable) → slice_get m.variables k ≡ Some v → IsDeclaredAs p k v
  declared k v is = elim (cases_lt k (length p.statics)) [
    | inl low ↦
        let t = from_map static_shape p.statics k (shape v) (sym (in_front static_shape p.statics (map literal_shape p.literals ++ map automatic_shape p.automatics) k low) ∙ shaped k v is) in
        let o = from_map (λ (t : StaticTree). None) p.statics k v.function (sym (in_front (λ (t : StaticTree). None) p.statics (map (λ (l : LiteralTree). None) p.literals ++ owned_from 0 p.functions) k low) ∙ owned k v is) in
        of_static t.0 t.1 (sym t.2) (sym o.2)
    | inr high ↦ behind_statics (k - length p.statics) (omega (arith, high))
  ]
    where
      shaped : (k : ℕ) (v : Variable) → slice_get m.variables k ≡ Some v → slice_get (shapes_of p) k ≡ Some (shape v)
      shaped k v is = ap (λ l. slice_get l k) (sym given.tables.variables) ∙ map_at shape m.variables k v is

      owned : (k : ℕ) (v : Variable) → slice_get m.variables k ≡ Some v → slice_get (owners_of p) k ≡ Some v.function
      owned k v is = ap (λ l. slice_get l k) (sym given.tables.belonging) ∙ map_at owner m.variables k v is

      behind_statics : (n : ℕ) → k ≡ length p.statics + n → IsDeclaredAs p k v
      behind_statics n at =
          let shapes : slice_get (map literal_shape p.literals ++ map automatic_shape p.automatics) n ≡ Some (shape v) = sym (further static_shape p.statics (map literal_shape p.literals ++ map automatic_shape p.automatics) n) ∙ ap (slice_get (shapes_of p)) (sym at) ∙ shaped k v is in
          let owners : slice_get (map (λ (l : LiteralTree). None) p.literals ++ owned_from 0 p.functions) n ≡ Some v.function = sym (further (λ (t : StaticTree). None) p.statics (map (λ (l : LiteralTree). None) p.literals ++ owned_from 0 p.functions) n) ∙ ap (slice_get (owners_of p)) (sym at) ∙ owned k v is in
          elim (cases_lt n (length p.literals)) [
            | inl low ↦
                let l = from_map literal_shape p.literals n (shape v) (sym (in_front literal_shape p.literals (map automatic_shape p.automatics) n low) ∙ shapes) in
                let o = from_map (λ (l : LiteralTree). None) p.literals n v.function (sym (in_front (λ (l : LiteralTree). None) p.literals (owned_from 0 p.functions) n low) ∙ owners) in
                of_literal n l.0 at l.1 (sym l.2) (sym o.2)
            | inr high ↦
                let x = n - length p.literals in
                let there_is : length p.literals + (n - length p.literals) ≡ n = omega (arith, high) in
                let a = from_map automatic_shape p.automatics x (shape v) (sym (further literal_shape p.literals (map automatic_shape p.automatics) x) ∙ ap (slice_get (map literal_shape p.literals ++ map automatic_shape p.automatics)) there_is ∙ shapes) in
                let o : slice_get (owned_from 0 p.functions) x ≡ Some v.function = sym (further (λ (l : LiteralTree). None) p.literals (owned_from 0 p.functions) x) ∙ ap (slice_get (map (λ (l : LiteralTree). None) p.literals ++ owned_from 0 p.functions)) there_is ∙ owners in
                by_owner x a.0 (omega (arith, at, high)) a.1 (sym a.2) v.function refl o (owned_all 0 p.functions x v.function o)
          ]
        where
          by_owner : (x : ℕ) (a : AutomaticTree) → k ≡ automatic_number p x → slice_get p.automatics x ≡ Some a → shape v ≡ automatic_shape a → (o : Option ℕ) → v.function ≡ o → slice_get (owned_from 0 p.functions) x ≡ Some v.function → IsOwned 0 (0 + length p.functions) v.function → IsDeclaredAs p k v
          by_owner x a number is same None own of some = absurd (subst (IsOwned 0 (0 + length p.functions)) own some)
          by_owner x a number is same (Some f) own of some = of_automatic x f a number is same (of ∙ ap (λ y. Some y) own) own

  -- ---- Storages

  low_statics : AllByRecursion (λ a. 1 ≤ a) e.statics
  low_statics = all_from (λ a. 1 ≤ a) e.statics (λ n a is.
      let many = given.emits.told.many in
      let low = slice_get_within e.statics n a is in
      let here : n < length h.unit.statics = omega (arith, low, many) in
      let same : static_at h.unit n ≡ a = same_Some (static_at h.unit n) a (sym (given.emits.statics n here) ∙ is) in
      let least = (static_within h.unit n here given.valid.statics).0 in
      let begins = statics_begin h.unit in
      let some = (map_facts (map_of_unit h.unit)).low in
      subst (λ a. 1 ≤ a) same (omega (arith, least, begins, some)))

  kept_static : (n a : ℕ) → slice_get e.statics n ≡ Some a → IsKeptStatically m (storage.Static a)
  unfolding first_static_address static_size
  kept_static n a is =
      let many = given.emits.told.many in
      let low = slice_get_within e.statics n a is in
      let here : n < length h.unit.statics = omega (arith, low, many) in
      let same : static_at h.unit n ≡ a = same_Some (static_at h.unit n) a (sym (given.emits.statics n here) ∙ is) in
      let within = static_within h.unit n here given.valid.statics in
      let least = within.0 in
      let high = within.1 in
      let begins : bytes_start m.version.map ≡ (statics_start h.unit) = ap (λ (r : Map). bytes_start r) (memory_is p h e rows m given ∙ given.emits.code.map) ∙ sym (statics_begin h.unit) in
      subst (λ a. (bytes_start m.version.map ≤ a) × (a < bytes_start m.version.map + bytes_size)) same (omega (arith, least, begins), omega (arith, high, begins))

  -- What a function of the unit is made of.
  record HasParts (f : ℕ) (g : Graph) : Type 0 where
    pub function : Function
    pub function_is : slice_get m.functions f ≡ Some function
    pub code : FunctionCode
    pub code_is : slice_get e.functions f ≡ Some code
    pub frame_is : function.frame ≡ code.frame
    pub homes : List Home
    pub homes_is : slice_get h.homes f ≡ Some homes
    pub are : AreHomed g homes

  parts_of : (f : ℕ) (g : Graph) → slice_get h.unit.graphs f ≡ Some g → HasParts f g
  parts_of f g is =
      let x = across entry_place entry h.unit.graphs m.functions f g (sym given.tables.entries) is in
      let made = made_of p h e rows m given f x.0 x.1 in
      let homes = homes_there h.unit.graphs h.homes f g given.homed is in
      record { function = x.0; function_is = x.1; code = made.code; code_is = made.code_is; frame_is = made.frame_is; homes = homes.0; homes_is = homes.1; are = homes.2 }

  in_frame : (f offset : ℕ) (x : Function) → slice_get m.functions f ≡ Some x → offset % 4 ≡ 0 → offset < x.frame → IsFrameOffset m f offset
  in_frame f offset x is aligned low = subst (λ o. IsSomeAnd o (λ (g : Function). (offset % 4 ≡ 0) × (offset < g.frame))) (sym is) (aligned, low)

  -- an object of a frame lies in it
  object_within : (f k offset : ℕ) (g : Graph) (o : MemoryObject) (c : FunctionCode) → slice_get h.unit.graphs f ≡ Some g → slice_get g.objects k ≡ Some o → slice_get e.functions f ≡ Some c → slice_get c.objects k ≡ Some offset → IsFrameOffset m f offset
  object_within f k offset g o c is there_is at offset_is =
      let parts = parts_of f g is in
      let told = given.emits.told.functions f g is in
      let same : told.code ≡ c = same_Some told.code c (sym told.is ∙ at) in
      let mine : parts.code ≡ c = same_Some parts.code c (sym parts.code_is ∙ at) in
      let laid = laid_out h given.valid given.homed given.emits.code.arrangement f in
      let code = code_of h given.emits.code.arrangement f in
      let graph : code.graph ≡ g = graph_is h.unit f g is in
      let start = objects_start (length code.saved) code.slots in
      let listed : c.objects ≡ object_offsets start code.graph.objects = sym (ap (λ (x : FunctionCode). x.objects) same) ∙ told.objects ∙ laid.objects in
      let lies = lies_at code.graph.objects start k o (omega arith) (ap (λ (x : Graph). slice_get x.objects k) graph ∙ there_is) in
      let index : slice_index (object_offsets start code.graph.objects) k ≡ offset = there_index (object_offsets start code.graph.objects) k offset (ap (λ l. slice_get l k) (sym listed) ∙ offset_is) in
      let aligned = lies.0 in
      let high = lies.1 in
      let size = laid.size in
      let frame : parts.function.frame ≡ code.size = parts.frame_is ∙ ap (λ (x : FunctionCode). x.frame) (mine ∙ sym same) ∙ told.frame in
      in_frame f offset parts.function parts.function_is (omega (arith, index, aligned)) (omega (arith, index, high, size, frame))
    where
      there_index : (xs : List ℕ) (i n : ℕ) → slice_get xs i ≡ Some n → slice_index xs i ≡ n
      there_index [] i n is = absurd (none-some n is)
      there_index (x ∷ xs) zero n is = same_Some x n is
      there_index (x ∷ xs) (suc i) n is = there_index xs i n is

  -- a scalar is kept in its home
  scalar_within : (f k : ℕ) (g : Graph) (s : Scalar) (c : FunctionCode) (homes : List Home) (home : Home) → slice_get h.unit.graphs f ≡ Some g → slice_get g.scalars k ≡ Some s → slice_get e.functions f ≡ Some c → slice_get h.homes f ≡ Some homes → slice_get homes k ≡ Some home
      → IsKeptInFunction m f (storage_of c.slots home)
  scalar_within f k g s c homes home is there_is at homes_is home_is = by_home home refl among
    where
      parts : HasParts f g
      parts = parts_of f g is

      valid : IsGraph h.unit g
      valid = all_at (IsGraph h.unit) h.unit.graphs f g given.valid.graphs is

      low : k < g.name_count
      low = let one = slice_get_within g.scalars k s there_is in let two = valid.scalars in let three = valid.temporaries in omega (arith, one, two, three)

      mine : parts.homes ≡ homes
      mine = same_Some parts.homes homes (sym parts.homes_is ∙ homes_is)

      -- the home as the frame has it
      among : IsHomeAmong (code_of h given.emits.code.arrangement f).slots home
      among =
          let laid = laid_out h given.valid given.homed given.emits.code.arrangement f in
          let graph : (code_of h given.emits.code.arrangement f).graph ≡ g = graph_is h.unit f g is in
          let named : k < (code_of h given.emits.code.arrangement f).graph.name_count = subst (λ (x : Graph). k < x.name_count) (sym graph) low in
          subst (IsHomeAmong (code_of h given.emits.code.arrangement f).slots) (found (slice_get h.homes f) homes_is (slice_get homes k) home_is) (laid.homes k named)
        where
          found : (o : Option (List Home)) → slice_get h.homes f ≡ Some homes → (r : Option Home) → slice_get homes k ≡ Some home → home_of h f k ≡ home
          found o one r two = ap (λ l. option_map_or (λ (z : Home). z) (slice_get l k) (Slot 0)) (ap (λ q. option_map_or (λ (z : List Home). z) q []) one) ∙ ap (λ q. option_map_or (λ (z : Home). z) q (Slot 0)) two

      by_home : (x : Home) → home ≡ x → IsHomeAmong (code_of h given.emits.code.arrangement f).slots home → IsKeptInFunction m f (storage_of c.slots home)
      by_home (Register r) same of =
          let here = slice_get_within m.functions f parts.function parts.function_is in
          subst (λ y. IsKeptInFunction m f (storage_of c.slots y)) (sym same) (here, subst (IsHomeAmong (code_of h given.emits.code.arrangement f).slots) same of)
      by_home (Slot n) same of =
          let told = given.emits.told.functions f g is in
          let code_same : told.code ≡ c = same_Some told.code c (sym told.is ∙ at) in
          let mine_too : parts.code ≡ c = same_Some parts.code c (sym parts.code_is ∙ at) in
          let laid = laid_out h given.valid given.homed given.emits.code.arrangement f in
          let slots : c.slots ≡ (code_of h given.emits.code.arrangement f).storage.slots = sym (ap (λ (x : FunctionCode). x.slots) code_same) ∙ told.slots in
          let start = laid.slots in
          let size = laid.size in
          let small = laid.small in
          let less : n < (code_of h given.emits.code.arrangement f).slots = subst (IsHomeAmong (code_of h given.emits.code.arrangement f).slots) same of in
          let frame : parts.function.frame ≡ (code_of h given.emits.code.arrangement f).size = parts.frame_is ∙ ap (λ (x : FunctionCode). x.frame) (mine_too ∙ sym code_same) ∙ told.frame in
          let offset : counted (c.slots + 4 * n) ≡ c.slots + 4 * n = omega (arith, slots, start, size, small, less) in
          subst (λ y. IsKeptInFunction m f (storage_of c.slots y)) (sym same) (in_frame f (counted (c.slots + 4 * n)) parts.function parts.function_is (omega (arith, offset, slots, start)) (omega (arith, offset, slots, start, size, less, frame)))

  -- ---- Each variable

  graph_at_index : (f : ℕ) → f < length p.functions → (g : Graph) × (slice_get h.unit.graphs f ≡ Some g)
  graph_at_index f low =
      let one = length-map h.unit.graphs entry_place in
      let two = length-map p.functions (entry_number p) in
      let same = ap length given.entries in
      there h.unit.graphs f (omega (arith, low, one, two, same))

  statics_many : length e.statics ≡ length p.statics + length p.literals
  statics_many = given.emits.told.many ∙ unit.statics

  put_variable : (x f : ℕ) (a : AutomaticTree) → slice_get p.automatics x ≡ Some a → slice_get (owned_from 0 p.functions) x ≡ Some (Some f) → (g : Graph) → slice_get h.unit.graphs f ≡ Some g → IsPutAt (keepings_of h e) (automatic_number p x)
  put_variable x f a is own g at = ⊎_elim by_scalar by_object (every.there x f a g is own at)
    where
      parts : HasParts f g
      parts = parts_of f g at

      by_scalar : HasScalarOf g (automatic_number p x) → IsPutAt (keepings_of h e) (automatic_number p x)
      by_scalar s =
          let valid : IsGraph h.unit g = all_at (IsGraph h.unit) h.unit.graphs f g given.valid.graphs at in
          let many = parts.are.many in
          let one = valid.scalars in
          let two = valid.temporaries in
          subst (IsPutAt (keepings_of h e)) s.variable_is (put_scalar h e f s.index g parts.code parts.homes s.scalar at parts.code_is parts.homes_is (omega (arith, many, one, two)) s.is)

      by_object : HasObjectOf g (automatic_number p x) → IsPutAt (keepings_of h e) (automatic_number p x)
      by_object o =
          let told = given.emits.told.functions f g at in
          let same : told.code ≡ parts.code = same_Some told.code parts.code (sym told.is ∙ parts.code_is) in
          let laid = laid_out h given.valid given.homed given.emits.code.arrangement f in
          let code = code_of h given.emits.code.arrangement f in
          let graph : code.graph ≡ g = graph_is h.unit f g at in
          let listed : parts.code.objects ≡ object_offsets (objects_start (length code.saved) code.slots) code.graph.objects = sym (ap (λ (x : FunctionCode). x.objects) same) ∙ told.objects ∙ laid.objects in
          let many : length parts.code.objects ≡ length g.objects = ap (λ (l : List ℕ). length l) listed ∙ offsets_many (objects_start (length code.saved) code.slots) code.graph.objects ∙ ap (λ (x : Graph). length x.objects) graph in
          subst (IsPutAt (keepings_of h e)) o.variable_is (put_object h e f o.index g parts.code parts.homes o.object at parts.code_is parts.homes_is (omega (arith, many)) o.is)

  put_of : (k : ℕ) (v : Variable) → IsDeclaredAs p k v → IsPutAt (keepings_of h e) k
  put_of k v (of_static t is same none) = let low = slice_get_within p.statics k t is in put_static h e k (omega (arith, low, statics_many))
  put_of k v (of_literal n l at is same none) = let low = slice_get_within p.literals n l is in put_static h e k (omega (arith, low, at, statics_many))
  put_of k v (of_automatic x f a at is same own of) =
      let within = owned_all 0 p.functions x (Some f) own in
      let high = within.1 in
      let g = graph_at_index f (omega (arith, high)) in
      subst (IsPutAt (keepings_of h e)) (sym at) (put_variable x f a is own g.0 g.1)

  -- Where a variable is kept is as it should be.
  record IsStored (v : Variable) : Type 0 where
    pub kept : IsKept m v.function v.storage
    pub counts : IsCount v.storage v.count

  stored_static : (k address : ℕ) (v : Variable) → slice_get e.statics k ≡ Some address → storage.Static address ≡ v.storage → IsDeclaredAs p k v → IsStored v
  stored_static k address v at stored (of_static t is same none) = record { kept = subst (λ o. IsKept m o v.storage) (sym none) (subst (IsKeptStatically m) stored (kept_static k address at)); counts = subst (λ s. IsCount s v.count) stored tt }
  stored_static k address v at stored (of_literal n l number is same none) = record { kept = subst (λ o. IsKept m o v.storage) (sym none) (subst (IsKeptStatically m) stored (kept_static k address at)); counts = subst (λ s. IsCount s v.count) stored tt }
  stored_static k address v at stored (of_automatic x f a number is same own of) = absurd (let low = slice_get_within e.statics k address at in omega (arith, low, number, statics_many))

  same_owner : (x f y g : ℕ) → x ≡ y → slice_get (owned_from 0 p.functions) x ≡ Some (Some f) → slice_get (owned_from 0 p.functions) y ≡ Some (Some g) → f ≡ g
  same_owner x f y g same one two = some_same f g (same_Some (Some f) (Some g) (sym one ∙ ap (slice_get (owned_from 0 p.functions)) same ∙ two))
    where
      some_same : (f g : ℕ) → Some f ≡ Some g → f ≡ g
      some_same f g e = cc

  home_count : (slots count : ℕ) (home : Home) → count ≡ 0 → IsCount (storage_of slots home) count
  home_count slots count (Register r) none = none
  home_count slots count (Slot k) none = none

  stored_scalar : (k : ℕ) (v : Variable) → IsScalarAt h e k v.storage → IsDeclaredAs p k v → IsStored v
  stored_scalar k v of d = by_declared d (unit.scalars of.function of.index of.graph of.scalar of.is of.there)
    where
      by_declared : IsDeclaredAs p k v → IsVariableOf p of.function of.scalar.variable → IsStored v
      by_declared (of_static t is same none) var = absurd (let low = slice_get_within p.statics k t is in let number = var.number_is in let here = of.variable in omega (arith, low, number, here))
      by_declared (of_literal n l at is same none) var = absurd (let low = slice_get_within p.literals n l is in let number = var.number_is in let here = of.variable in omega (arith, low, at, number, here))
      by_declared (of_automatic x f a at is same own of_is) var =
          let number = var.number_is in
          let here = of.variable in
          let x_is : x ≡ var.variable = omega (arith, at, number, here) in
          let function : f ≡ of.function = same_owner x f var.variable of.function x_is own var.owner in
          let within = scalar_within of.function of.index of.graph of.scalar of.code of.homes of.home of.is of.there of.code_is of.homes_are of.home_is in
          let single = every.single of.function of.index x of.graph of.scalar a of.is of.there (here ∙ at) is in
          let none : v.count ≡ 0 = ap (λ (q : Shape). q.count) same ∙ no_count a.of single in
          record {
            kept = subst (λ o. IsKept m o v.storage) (sym of_is) (subst (λ g. IsKeptInFunction m g v.storage) (sym function) (subst (IsKeptInFunction m of.function) of.storage_is within));
            counts = subst (λ s. IsCount s v.count) of.storage_is (home_count of.code.slots v.count of.home none);
          }

  stored_object : (k : ℕ) (v : Variable) → IsObjectAt h e k v.storage → IsDeclaredAs p k v → IsStored v
  stored_object k v of d = by_declared d (unit.objects of.function of.index of.graph of.object of.is of.there)
    where
      by_declared : IsDeclaredAs p k v → IsVariableOf p of.function of.object.var.0 → IsStored v
      by_declared (of_static t is same none) var = absurd (let low = slice_get_within p.statics k t is in let number = var.number_is in let here = of.variable in omega (arith, low, number, here))
      by_declared (of_literal n l at is same none) var = absurd (let low = slice_get_within p.literals n l is in let number = var.number_is in let here = of.variable in omega (arith, low, at, number, here))
      by_declared (of_automatic x f a at is same own of_is) var =
          let number = var.number_is in
          let here = of.variable in
          let x_is : x ≡ var.variable = omega (arith, at, number, here) in
          let function : f ≡ of.function = same_owner x f var.variable of.function x_is own var.owner in
          let within = object_within of.function of.index of.offset of.graph of.object of.code of.is of.there of.code_is of.offset_is in
          record {
            kept = subst (λ o. IsKept m o v.storage) (sym of_is) (subst (λ g. IsKeptInFunction m g v.storage) (sym function) (subst (IsKeptInFunction m of.function) of.storage_is within));
            counts = subst (λ s. IsCount s v.count) of.storage_is tt;
          }

  stored_at : (k : ℕ) (v : Variable) → slice_get m.variables k ≡ Some v → IsStored v
  stored_at k v is =
      let at : slice_get (storages_of h e (variables_in p)) k ≡ Some v.storage = ap (λ l. slice_get l k) (sym given.tables.storages) ∙ map_at declarations.storage m.variables k v is in
      by_kept at (kept_by h e (variables_in p) k v.storage at)
    where
      by_kept : slice_get (storages_of h e (variables_in p)) k ≡ Some v.storage → IsKeptBy h e k v.storage → IsStored v
      by_kept at (static address there_is same) = stored_static k address v there_is same (declared k v is)
      by_kept at (scalar of) = stored_scalar k v of (declared k v is)
      by_kept at (object of) = stored_object k v of (declared k v is)
      by_kept at (nowhere same) = absurd (kept_some h e (variables_in p) k v.storage low_statics (put_of k v (declared k v is)) at same)

  -- ---- Names

  -- How the name of a variable goes with its function.
  record IsCalled (v : Variable) : Type 0 where
    pub short : v.name_length ≤ 63
    pub named : IsNamed v.function v.name_length

  called : (k : ℕ) (v : Variable) → IsDeclaredAs p k v → IsCalled v
  called k v (of_static t is same none) =
      let long = ap (λ (q : Shape). q.name_length) same in
      let name = name_short t.name (both (is_name t.name) (has_few_elements t.of) (static_named p given.names k t is).0).0 in
      record { short = omega (arith, long, name); named = subst (λ o. IsNamed o v.name_length) (sym none) tt }
  called k v (of_literal n l at is same none) =
      let long = ap (λ (q : Shape). q.name_length) same in
      record { short = omega (arith, long); named = subst (λ o. IsNamed o v.name_length) (sym none) tt }
  called k v (of_automatic x f a at is same own of) =
      let long = ap (λ (q : Shape). q.name_length) same in
      let named = (both (is_name a.name) (has_few_elements a.of) (automatic_named p given.names x a is)).0 in
      let name = name_short a.name named in
      let some = some_length a.name (name_some a.name named) in
      record { short = omega (arith, long, name); named = subst (λ o. IsNamed o v.name_length) (sym of) (omega (arith, long, name, some)) }

  is_variable : (k : ℕ) (v : Variable) → slice_get m.variables k ≡ Some v → IsVariable m v
  is_variable k v is =
      let name = called k v (declared k v is) in
      let at = stored_at k v is in
      record { short_name = name.short; named = name.named; kept = at.kept; counted = at.counts }

  -- ---- Their order

  static_group : (k : ℕ) (v : Variable) (t : StaticTree) → slice_get p.statics k ≡ Some t → shape v ≡ static_shape t → v.function ≡ None → group v ≡ 0
  static_group k v t is same none =
      let long = ap (λ (q : Shape). q.name_length) same in
      let named = (both (is_name t.name) (has_few_elements t.of) (static_named p given.names k t is).0).0 in
      let name = name_short t.name named in
      let some = some_length t.name (name_some t.name named) in
      ap (λ o. group_of o v.name_length) none ∙ not_zero v.name_length (omega (arith, long, name, some))
    where
      not_zero : (n : ℕ) → 1 ≤ n → group_of None n ≡ 0
      not_zero n some = grind (arith, nat_tests, some)

  literal_group : (v : Variable) (l : LiteralTree) → shape v ≡ literal_shape l → v.function ≡ None → group v ≡ 1
  literal_group v l same none = ap (λ o. group_of o v.name_length) none ∙ ap (group_of None) (ap (λ (q : Shape). q.name_length) same)

  automatic_group : (f : ℕ) (v : Variable) → v.function ≡ Some f → group v ≡ 2
  automatic_group f v of = ap (λ o. group_of o v.name_length) of

  earlier : (a b : ℕ) (u v : Variable) → group u ≡ a → group v ≡ b → a < b → IsDeclaredBefore u v
  earlier a b u v one two less = inl (omega (arith, one, two, less))

  beside : (a : ℕ) (u v : Variable) → group u ≡ a → group v ≡ a → u.position < v.position → IsDeclaredBefore u v
  beside a u v one two less = inr (one ∙ sym two, less)

  before : (i : ℕ) (u v : Variable) → IsDeclaredAs p i u → IsDeclaredAs p (suc i) v → IsDeclaredBefore u v
  before i u v (of_static t is same none) (of_static s at also nothing) =
      let less = ascend_at (map (λ (x : StaticTree). x.spot.at) p.statics) (facts_of p given.formed).statics i t.spot.at s.spot.at (map_at (λ (x : StaticTree). x.spot.at) p.statics i t is) (map_at (λ (x : StaticTree). x.spot.at) p.statics (suc i) s at) in
      let one = ap (λ (q : Shape). q.position) same in
      let two = ap (λ (q : Shape). q.position) also in
      beside 0 u v (static_group i u t is same none) (static_group (suc i) v s at also nothing) (omega (arith, less, one, two))
  before i u v (of_static t is same none) (of_literal n l number at also nothing) = earlier 0 1 u v (static_group i u t is same none) (literal_group v l also nothing) (omega arith)
  before i u v (of_static t is same none) (of_automatic x f a number at also own of) = earlier 0 2 u v (static_group i u t is same none) (automatic_group f v of) (omega arith)
  before i u v (of_literal n l number is same none) (of_static s at also nothing) = absurd (let low = slice_get_within p.statics (suc i) s at in omega (arith, number, low))
  before i u v (of_literal n l number is same none) (of_literal k r there_is at also nothing) =
      let next : k ≡ suc n = omega (arith, number, there_is) in
      let less = ascend_at (map (λ (x : LiteralTree). x.spot.at) p.literals) (facts_of p given.formed).literals n l.spot.at r.spot.at (map_at (λ (x : LiteralTree). x.spot.at) p.literals n l is) (map_at (λ (x : LiteralTree). x.spot.at) p.literals (suc n) r (ap (slice_get p.literals) (sym next) ∙ at)) in
      let one = ap (λ (q : Shape). q.position) same in
      let two = ap (λ (q : Shape). q.position) also in
      beside 1 u v (literal_group u l same none) (literal_group v r also nothing) (omega (arith, less, one, two))
  before i u v (of_literal n l number is same none) (of_automatic x f a there_is at also own of) = earlier 1 2 u v (literal_group u l same none) (automatic_group f v of) (omega arith)
  before i u v (of_automatic x f a number is same own of) (of_static s at also nothing) = absurd (let low = slice_get_within p.statics (suc i) s at in omega (arith, number, low))
  before i u v (of_automatic x f a number is same own of) (of_literal k r there_is at also nothing) = absurd (let low = slice_get_within p.literals k r at in omega (arith, number, there_is, low))
  before i u v (of_automatic x f a number is same own of) (of_automatic y g b there_is at also mine by) =
      let next : y ≡ suc x = omega (arith, number, there_is) in
      let less = ascend_at (map (λ (z : AutomaticTree). z.spot.at) p.automatics) (facts_of p given.formed).automatics x a.spot.at b.spot.at (map_at (λ (z : AutomaticTree). z.spot.at) p.automatics x a is) (map_at (λ (z : AutomaticTree). z.spot.at) p.automatics (suc x) b (ap (slice_get p.automatics) (sym next) ∙ at)) in
      let one = ap (λ (q : Shape). q.position) same in
      let two = ap (λ (q : Shape). q.position) also in
      beside 2 u v (automatic_group f u of) (automatic_group g v by) (omega (arith, less, one, two))

  -- THE VARIABLES KEEP THEIR RULES.
  pub variable_rules : VariableRules m
  variable_rules = record {
    each = all_from (IsVariable m) m.variables is_variable;
    in_order = next_from IsDeclaredBefore m.variables (λ i u v is at. before i u v (declared i u is) (declared (suc i) v at));
  }
