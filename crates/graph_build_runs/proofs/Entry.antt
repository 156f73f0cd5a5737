-- Where an activation begins, what runs keep is kept: its parameters hold their arguments, and its objects stand behind those before them.
use Rattle.std.proofs.Common.{◌≡◌, ℕ, zero, suc, ◌+◌, ◌-◌, ◌<◌, ◌≤◌, ◌⊎◌, inl, inr, List, [], ◌∷◌, ◌++◌, length, map, take, drop, replicate, Option, Some, None, Bool, true, false, slice_get, slice_set, refl, sym, ap, ◌∙◌, subst, arith}
use Rattle.std.specs.Prelude.{option_map}
use Rattle.std.proofs.lemmas.Bool.{cases_eq}
use Rattle.std.proofs.lemmas.Option.{slice_get-map, slice_get_within}
use Rattle.std.proofs.lemmas.List.{length-replicate}
use Rattle.word_base.specs.Owners.{Variable}
use Rattle.c_tree.specs.Programs.{AutomaticTree, TypedFunctionTree, ProgramTree}
use Rattle.c_type_rules.specs.Types.{loaded_type}
use Rattle.c_flow.specs.Flow.{start_of_all, ways_of_body}
use Rattle.c_type_laws.specs.Kinds.{types_of}
use Rattle.c_places.specs.Places.{places_of_program, numbers_from, parameters_of}
use Rattle.c_meaning_values.specs.declared.value.Value as source-value
use Rattle.c_meaning_values.specs.declared.value.Phase.TheVariants.{Live, Ended}
use Rattle.c_meaning_values.specs.Types.{element_scalar, value_count, zero_of}
use Rattle.c_meaning_values.specs.Memory.{Object as SourceObject, Memory as SourceMemory}
use Rattle.c_meaning_steps.specs.States.{State}
use Rattle.c_meaning.specs.Calls.{bind}
use Rattle.graph_core.specs.declared.value.Value.{Value}
use Rattle.graph_core.specs.declared.value.Value.TheVariants.{Odd}
use Rattle.graph_core.specs.declared.value.Owner.TheVariants.{Automatic}
use Rattle.graph_core.specs.declared.value.Shadow.{Shadow}
use Rattle.graph_core.specs.declared.value.Shadow.TheVariants.{Known, Gone}
use Rattle.graph_core.specs.declared.graph.MemoryObject.{MemoryObject}
use Rattle.graph_core.specs.Graphs as unit
use Rattle.graph_core.specs.Graphs.{Graph, UnitForm, Marker, Binding}
use Rattle.graph_core.specs.Memory.{Object, Memory, new_object}
use Rattle.graph_core.specs.Values.{is_odd}
use Rattle.graph_core.specs.Runs.{Activation, Event, with_value_at, bind_names, bind_objects, with_objects}
use Rattle.graph_build_names.specs.Names.{Names, names_of, scalar_of, object_of}
use Rattle.graph_build_steps.specs.Rules as rule
use Rattle.graph_build_steps.specs.Drafts.{Made, note}
use Rattle.graph_build_statements.specs.Coding.{Coding, going}
use Rattle.event_runs.specs.Agreement.{Pairs}
use Rattle.graph_build_runs.specs.Typed.{IsOf}
use Rattle.graph_build_runs.specs.Correspondence.{variable_of, SameValue, SameValues, IsInMemory, SameEvent}
use Rattle.graph_build_runs.proofs.Leads.{names_in, depth_in, put_here, put_elsewhere}
use Rattle.graph_build_runs.proofs.Later.{some_same, Later, value_later, OthersLater, others_trans}
use Rattle.graph_build_runs.proofs.Kept.{ScalarIs, ObjectIs, Outer, Placed, ArePlaced, LiveDiffer, NoneDeeper, StaticsStand, Fits}
use Rattle.graph_build_runs.proofs.Noting.{other_number, known_value, outer_later, placed_later}
use Rattle.graph_build_runs.proofs.Elements.{element_keeps}
use Rattle.graph_build_runs.proofs.Arguments.{AreOf}
use Rattle.graph_build_runs.proofs.Activities.{Activity, here_in}
use Rattle.graph_build_runs.proofs.Outcomes.{Holding}
use Rattle.graph_build_runs.proofs.Stops.{Lawful}
use Rattle.graph_build_runs.proofs.Making.{front_stays}
use Rattle.graph_build_runs.proofs.OwnObjects.{object_one, object_if_no_scalar}
use Rattle.graph_build_runs.proofs.Parameters.{bindings, names_at, objects_later, objects_before, objects_back, objects_at}
use Rattle.graph_build_runs.proofs.Bound.{IsParameter, bound_found, Argument, argument}

-- The notes of the parameters that are scalars, before what follows.
abbrev pub note_if : Option ℕ → Made → Made
note_if None m = m
note_if (Some x) m = note x m

abbrev pub noting : Names → List ℕ → Made → Made
noting n [] m = m
noting n (v ∷ more) m = note_if (scalar_of n v) (noting n more m)

-- what a function's code stands on
abbrev pub coding_for : ProgramTree → TypedFunctionTree → Graph → (again : Bool) → (top : ℕ) → Coding
coding_for p tree g again top = record { names = names_of p tree again; program = p; places = places_of_program p; entry = g.entry; scalars = length g.scalars; top = top }

-- what stands in the block of a function's entry behind its marker
abbrev pub entry_made : ProgramTree → TypedFunctionTree → Graph → (again : Bool) → (top : ℕ) → List unit.Block → Made
entry_made p tree g again top inner = noting (names_of p tree again) (parameters_of tree) (going (coding_for p tree g again top) (start_of_all tree.body (ways_of_body tree).next) inner)

-- an object of a graph that is a variable's
pub record IsObjectOf (p : ProgramTree) (g : Graph) (v j : ℕ) (a : AutomaticTree) : Type 0 where
  pub object : MemoryObject
  pub is : slice_get g.objects j ≡ Some object
  pub variable : object.var.0 ≡ variable_of p v
  pub element : object.element ≡ rule.element_of (element_scalar a.of)
  pub count : object.count ≡ value_count a.of

-- What is asked of a graph where its function begins: its first block is the entry's, with its marker, the notes of its parameters and the jump to the body; what its parameters are bound to,
-- and its objects, are those of the function's variables; and parameters are variables of the function of one value each.
pub record EntryStands (p : ProgramTree) (tree : TypedFunctionTree) (g : Graph) (again : Bool) (top : ℕ) : Type 0 where
  pub inner : List unit.Block
  pub block : slice_get g.blocks 0 ≡ Some (record { place = None; instructions = Marker g.entry ∷ (entry_made p tree g again top inner).ops; end = (entry_made p tree g again top inner).end })
  pub parameters : g.parameters ≡ bindings (names_of p tree again) tree.first_variable tree.parameters
  pub objects : (v j : ℕ) (a : AutomaticTree) → object_of (names_of p tree again) v ≡ Some j → slice_get p.automatics v ≡ Some a → IsObjectOf p g v j a
  pub owners : (i j : ℕ) (m n : MemoryObject) → slice_get g.objects i ≡ Some m → slice_get g.objects j ≡ Some n → m.var.0 ≡ n.var.0 → i ≡ j
  pub among : tree.parameters ≤ tree.variables
  pub enough : tree.parameters ≤ length (drop tree.first_variable p.automatics)
  pub single : (v : ℕ) (a : AutomaticTree) → tree.first_variable ≤ v → v < tree.first_variable + tree.parameters → slice_get p.automatics v ≡ Some a → value_count a.of ≡ 1

-- the shadows behind the notes
abbrev pub noted_as : Option ℕ → (names : ℕ → Value) → (shadows : ℕ → Shadow) → ℕ → Shadow
noted_as None names shadows = shadows
noted_as (Some x) names shadows = with_value_at shadows x (Known (names x))

abbrev pub noted_by : Names → (names : ℕ → Value) → List ℕ → (shadows : ℕ → Shadow) → ℕ → Shadow
noted_by n names [] shadows = shadows
noted_by n names (v ∷ more) shadows = noted_by n names more (noted_as (scalar_of n v) names shadows)

noted_stays : (n : Names) (names : ℕ → Value) (x : ℕ) (all : List ℕ) (shadows : ℕ → Shadow) → shadows x ≡ Known (names x) → noted_by n names all shadows x ≡ Known (names x)
noted_stays n names x [] shadows h = h
noted_stays n names x (v ∷ more) shadows h = noted_stays n names x more (noted_as (scalar_of n v) names shadows) (by (scalar_of n v))
  where
    by : (o : Option ℕ) → noted_as o names shadows x ≡ Known (names x)
    by None = h
    by (Some k) = elim (cases_eq x k) [
      | inl e ↦ ap (λ y. with_value_at shadows y (Known (names y)) x) (sym e) ∙ put_here shadows x (Known (names x))
      | inr ne ↦ put_elsewhere shadows k x (Known (names k)) (other_number x k ne) ∙ h
    ]

-- the shadow of a parameter is its name's value
noted_at : (n : Names) (names : ℕ → Value) (x v : ℕ) → scalar_of n v ≡ Some x → (count first i : ℕ) → v ≡ first + i → i < count → (shadows : ℕ → Shadow) → noted_by n names (numbers_from first count) shadows x ≡ Known (names x)
noted_at n names x v is zero first i at lt shadows = absurd (omega (arith, lt))
noted_at n names x v is (suc count) first zero at lt shadows =
    let here : first ≡ v = omega (arith, at) in
    let named : scalar_of n first ≡ Some x = ap (scalar_of n) here ∙ is in
    noted_stays n names x (numbers_from (first + 1) count) (noted_as (scalar_of n first) names shadows) (ap (λ o. noted_as o names shadows x) named ∙ put_here shadows x (Known (names x)))
noted_at n names x v is (suc count) first (suc i) at lt shadows = noted_at n names x v is count (first + 1) i (omega (arith, at)) (omega (arith, lt)) (noted_as (scalar_of n first) names shadows)

-- lists, one behind another
pub back_is : {A : Type 0} (xs ys : List A) (i : ℕ) → slice_get (xs ++ ys) (length xs + i) ≡ slice_get ys i
back_is [] ys i = let e : 0 + i ≡ i = omega arith in ap (slice_get ys) e
back_is (x ∷ xs) ys i = let e : suc (length xs) + i ≡ suc (length xs + i) = omega arith in ap (slice_get (x ∷ xs ++ ys)) e ∙ back_is xs ys i

pub got_either : {A : Type 0} (xs ys : List A) (z : A) (n : ℕ) → slice_get (xs ++ ys) n ≡ Some z → ((n < length xs) × (slice_get xs n ≡ Some z)) ⊎ ((i : ℕ) × (n ≡ length xs + i) × (slice_get ys i ≡ Some z))
got_either [] ys z n h = inr (n, omega arith, h)
got_either (x ∷ xs) ys z zero h = inl (omega arith, h)
got_either (x ∷ xs) ys z (suc n) h = elim (got_either xs ys z n h) [
  | inl both ↦ let lt = both.0 in inl (omega (arith, lt), both.1)
  | inr found ↦ let e = found.1 in inr (found.0, omega (arith, e), found.2)
]

pub map_found : {A B : Type 0} (f : A → B) (xs : List A) (i : ℕ) (z : B) → slice_get (map f xs) i ≡ Some z → (x : A) × (slice_get xs i ≡ Some x) × (z ≡ f x)
map_found f [] i z h = cc
map_found f (x ∷ xs) zero z h = (x, refl, sym (some_same h))
map_found f (x ∷ xs) (suc i) z h = map_found f xs i z h

set_single : (count : ℕ) (zero_value u : source-value.Value) → count ≡ 1 → slice_set (replicate count zero_value) 0 u ≡ u ∷ []
set_single zero z u e = absurd (omega (arith, e))
set_single (suc zero) z u e = refl
set_single (suc (suc count)) z u e = absurd (omega (arith, e))

variable_is : {a b d e : ℕ} → Variable a d ≡ Variable b e → a ≡ b
variable_is h = cc

depth_is : {a b d e : ℕ} → Variable a d ≡ Variable b e → d ≡ e
depth_is h = cc

number_is : {a b d e : ℕ} → Automatic a d ≡ Automatic b e → a ≡ b
number_is h = cc

level_is : {a b d e : ℕ} → Automatic a d ≡ Automatic b e → d ≡ e
level_is h = cc

not_over : {A : Type 0} → Live ≡ Ended → A
not_over h = cc

-- What is kept of both memories where activations wait for one that begins.
pub record Awaits (p : ProgramTree) (u : UnitForm) (memory : SourceMemory) (others : Memory) (waiting : List Activation) : Type 0 where
  pub outer : Outer p memory others waiting
  pub placed : ArePlaced p memory others
  pub differ : LiveDiffer others
  pub above : NoneDeeper others (length waiting)
  pub statics : StaticsStand u others

-- An activation begins, with its arguments in both runs.
module _ (k : Activity) (law : Lawful k) (same_depth : length k.frames ≡ length k.setting.waiting) (entry : EntryStands k.setting.program k.setting.tree k.setting.graph k.setting.again k.setting.top) (s : State) (others : Memory) (begins : k.setting.first ≡ length others)
    (waits : Awaits k.setting.program k.setting.unit s.memory others k.setting.waiting) (held : Holding k [] 0 s.memory) (vs : List source-value.Value) (ws : List Value) (are : AreOf s.memory (types_of (take k.setting.tree.parameters (drop k.setting.tree.first_variable k.setting.program.automatics))) vs)
    (same : SameValues k.setting.program s.memory others vs ws) where
  abbrev P : ProgramTree
  P = k.setting.program

  abbrev N : Names
  N = names_in k.setting

  abbrev low : ℕ
  low = k.setting.tree.first_variable

  abbrev count : ℕ
  count = k.setting.tree.parameters

  abbrev depth : ℕ
  depth = depth_in k.setting

  abbrev bound : List Binding
  bound = bindings N low count

  abbrev new_objects : List Object
  new_objects = map (new_object depth) k.setting.graph.objects

  abbrev made : Memory
  made = with_objects depth k.setting.graph others

  abbrev pub entered_memory : Memory
  entered_memory = bind_objects (length others) bound ws made

  abbrev pub entered_names : ℕ → Value
  entered_names = bind_names bound ws (λ x. Odd)

  abbrev pub entered_shadows : ℕ → Shadow
  entered_shadows = noted_by N entered_names (parameters_of k.setting.tree) (λ x. Gone)

  abbrev pub entered_source : SourceMemory
  entered_source = bind (here_in k) (parameters_of k.setting.tree) vs s.memory

  -- the argument of a parameter
  argument_of : (i : ℕ) → i < count → Argument P s.memory others vs ws low i
  argument_of i lt = argument P s.memory others vs ws low count entry.enough are same i lt

  found_in : (n : ℕ) (o : SourceObject) → slice_get entered_source n ≡ Some o → (slice_get s.memory n ≡ Some o) ⊎ IsParameter k same_depth low count vs o
  found_in n o h = bound_found k same_depth count low there vs s.memory n o h
    where
      there : (v : ℕ) → low ≤ v → v < low + count → (a : AutomaticTree) × (slice_get P.automatics v ≡ Some a)
      there v le lt =
          let within : v - low < count = omega (arith, le, lt) in
          let place : low + (v - low) ≡ v = omega (arith, le) in
          let a = argument_of (v - low) within in
          (a.tree, ap (slice_get P.automatics) (sym place) ∙ a.is)

  -- both memories go on
  others_went : OthersLater others entered_memory
  others_went =
      others_trans others made entered_memory (λ m q is. record { object = q; is = front_stays others new_objects q m is; owner = refl; element = refl; live = refl; count = refl }) (objects_later (length others) bound ws made)

  stays : (m : ℕ) (q : Object) → slice_get others m ≡ Some q → slice_get entered_memory m ≡ Some q
  stays m q is = objects_before (length others) bound ws made m (slice_get_within others m q is) ∙ front_stays others new_objects q m is

  -- an object of the activation
  new_there : (j : ℕ) (m : MemoryObject) → slice_get k.setting.graph.objects j ≡ Some m → slice_get made (length others + j) ≡ Some (new_object depth m)
  new_there j m is = back_is others new_objects j ∙ slice_get-map (new_object depth) k.setting.graph.objects j ∙ ap (option_map (new_object depth)) is

  -- What stands in the unit's memory stood there before, or is an object of the activation.
  unit_found : (m : ℕ) (q : Object) → slice_get entered_memory m ≡ Some q
      → (slice_get others m ≡ Some q) ⊎ ((j : ℕ) × (n : MemoryObject) × (m ≡ length others + j) × (slice_get k.setting.graph.objects j ≡ Some n) × (q.owner ≡ Automatic n.var.0 depth))
  unit_found m q is =
      let z = objects_back (length others) bound ws made m q is in
      elim (got_either others new_objects z.0 m z.1) [
        | inl both ↦ inl (both.1 ∙ sym (front_stays others new_objects z.0 m both.1) ∙ sym (objects_before (length others) bound ws made m both.0) ∙ is)
        | inr new ↦ let n = map_found (new_object depth) k.setting.graph.objects new.0 z.0 new.2 in inr (new.0, n.0, new.1, n.1, z.2 ∙ ap (λ o. o.owner) n.2)
      ]

  -- the value of a parameter in the unit's run
  same_now : (v : source-value.Value) (w : Value) → Later s.memory entered_source → SameValue P s.memory others v w → SameValue P entered_source entered_memory v w
  same_now v w later same = value_later P s.memory entered_source others entered_memory later others_went v w same

  -- The name of a parameter holds its argument, which is known.
  pub named_value : (v x i : ℕ) → scalar_of N v ≡ Some x → v ≡ low + i → i < count → (w : Value) → slice_get ws i ≡ Some w → entered_names x ≡ w
  named_value v x i named at lt w there = names_at N x v named (λ z e. law.apart.one z v x e named) low count i at lt ws w there (λ y. Odd)

  pub known_name : (v x : ℕ) → low ≤ v → v < low + count → scalar_of N v ≡ Some x → is_odd (entered_names x) ≡ false
  known_name v x le lt named =
      let within : v - low < count = omega (arith, le, lt) in
      let at : v ≡ low + (v - low) = omega (arith, le) in
      let a = argument_of (v - low) within in
      ap is_odd (named_value v x (v - low) named at within a.other a.there) ∙ known_value P s.memory others a.value a.other a.same

  -- a scalar of the activation is a parameter's
  scalar_now : Later s.memory entered_source → (v x m : ℕ) (o : SourceObject) → scalar_of N v ≡ Some x → slice_get entered_source m ≡ Some o → o.owner ≡ Variable v depth → o.phase ≡ Live → ScalarIs P entered_source entered_memory None o x entered_names entered_shadows
  scalar_now later v x m o named at owner live = elim (found_in m o at) [
    | inl old ↦ let c = held.under m o v depth old (λ over. not_over (sym live ∙ over)) owner in let none = c.1 refl in absurd (omega (arith, none))
    | inr new ↦
        let same_variable : new.variable ≡ v = variable_is (ap (λ q. q.owner) (sym new.object) ∙ owner) in
        let place : v ≡ low + new.index = sym same_variable ∙ new.at in
        let a = argument_of new.index new.within in
        let value_is : a.value ≡ new.value = some_same (sym a.found ∙ new.found) in
        let is : slice_get P.automatics v ≡ Some new.tree = ap (slice_get P.automatics) (sym same_variable) ∙ new.is in
        let single : value_count new.tree.of ≡ 1 = law.apart.single v x new.tree named is in
        let names_is = named_value v x new.index named place new.within a.other a.there in
        let value = same_now new.value a.other later (subst (λ z. SameValue P s.memory others z a.other) value_is a.same) in
        let now = subst (SameValue P entered_source entered_memory new.value) (sym names_is) value in
        record {
          value = new.value;
          holds = ap (λ q. q.values) new.object ∙ set_single (value_count new.tree.of) (zero_of (element_scalar new.tree.of)) new.value single;
          named = λ h. now;
          word = entered_names x;
          known = noted_at N entered_names x v named count low new.index place new.within (λ y. Gone);
          same = now;
        }
  ]

  -- an object of the activation stands
  object_now : (v j : ℕ) (a : AutomaticTree) → object_of N v ≡ Some j → slice_get P.automatics v ≡ Some a → ObjectIs P entered_memory v depth (length others + j) a
  object_now v j a homed is =
      let m = entry.objects v j a homed is in
      let c = objects_later (length others) bound ws made (length others + j) (new_object depth m.object) (new_there j m.object m.is) in
      record { object = c.object; is = c.is; owner = c.owner ∙ ap (λ n. Automatic n depth) m.variable; lives = c.live; element = c.element ∙ m.element; count = c.count ∙ length-replicate m.object.count Odd ∙ m.count }

  -- an object of a parameter holds its argument in both runs
  parameter_placed : Later s.memory entered_source → (o : SourceObject) → IsParameter k same_depth low count vs o → IsInMemory P o.owner → Placed P entered_source entered_memory o
  parameter_placed later o new inside =
      let v = new.variable in
      let a = new.tree in
      let at = new.at in
      let le : low ≤ v = omega (arith, at) in
      let within = new.within in
      let lt : v < low + count = omega (arith, at, within) in
      let among = entry.among in
      let mine : v < low + k.setting.tree.variables = omega (arith, lt, among) in
      let kept = subst (λ q. IsInMemory P q.owner) new.object inside in
      let same_tree : kept.0 ≡ a = some_same (sym kept.1 ∙ new.is) in
      let in_it : a.in_memory ≡ true = ap (λ q. q.in_memory) (sym same_tree) ∙ kept.2 in
      let none = no_scalar v a new.is in_it in
      let home = object_if_no_scalar P k.setting.tree k.setting.again v a le mine new.is none in
      let m = entry.objects v home.0 a home.1 new.is in
      let r = argument_of new.index new.within in
      let value_is : r.value ≡ new.value = some_same (sym r.found ∙ new.found) in
      let tree_is : r.tree ≡ a = some_same (sym r.is ∙ ap (slice_get P.automatics) (sym new.at) ∙ new.is) in
      let typed_value = subst (λ z. IsOf s.memory (loaded_type (element_scalar r.tree.of)) z) value_is r.typed in
      let typed = subst (λ z. IsOf s.memory (loaded_type (element_scalar z.of)) new.value) tree_is typed_value in
      let same_value = subst (λ z. SameValue P s.memory others z r.other) value_is r.same in
      let single = entry.single v a le lt new.is in
      let keeps = element_keeps P s.memory others (element_scalar a.of) new.value r.other typed same_value in
      let q = new_object depth m.object in
      let size : length q.values ≡ 1 = length-replicate m.object.count Odd ∙ m.count ∙ single in
      let homes : (v2 : ℕ) → low ≤ v2 → v2 < low + count → scalar_of N v2 ≡ None → (j : ℕ) × (object_of N v2 ≡ Some j) = λ v2 le2 lt2 none2. (let b = argument_of (v2 - low) (omega (arith, le2, lt2)) in
      let place2 : low + (v2 - low) ≡ v2 = omega (arith, le2) in
      object_if_no_scalar P k.setting.tree k.setting.again v2 b.tree le2 (omega (arith, lt2, among)) (ap (slice_get P.automatics) (sym place2) ∙ b.is) none2) in
      let filled = objects_at N low (low + count) homes (object_one P k.setting.tree k.setting.again) (length others) v home.0 home.1 none q (element_scalar a.of) refl m.element size r.other keeps low count new.index new.at new.within (omega arith) (omega arith) ws r.there made (new_there home.0 m.object m.is) in
      let holds = set_single (value_count a.of) (zero_of (element_scalar a.of)) new.value single in
      subst (Placed P entered_source entered_memory) (sym new.object)
      (record {
        number = length others + home.0;
        object = filled.object;
        is = filled.is;
        same = record {
          owner = filled.owner ∙ ap (λ n. Automatic n depth) m.variable;
          lives = filled.live;
          element = filled.element ∙ m.element;
          count = ap length filled.values ∙ sym (ap length holds);
        };
        values = λ live. subst (λ ys. SameValues P entered_source entered_memory (slice_set (replicate (value_count a.of) (zero_of (element_scalar a.of))) 0 new.value) ys) (sym filled.values)
            (subst (λ xs. SameValues P entered_source entered_memory xs (r.other ∷ [])) (sym holds) (same_now new.value r.other later same_value, tt));
      })
    where
      no_scalar : (v : ℕ) (a : AutomaticTree) → slice_get P.automatics v ≡ Some a → a.in_memory ≡ true → scalar_of N v ≡ None
      no_scalar v a is inside = by (scalar_of N v) refl
        where
          both_ways : {A : Type 0} → false ≡ true → A
          both_ways h = cc

          by : (o : Option ℕ) → scalar_of N v ≡ o → o ≡ None
          by None e = refl
          by (Some x) e = let out = law.apart.outside v x a e is in both_ways (sym out ∙ inside)

  -- the objects of the unit differ in their owners
  differ_now : LiveDiffer entered_memory
  differ_now m n q r at_m at_n live_m live_n owners = elim (unit_found m q at_m) [
    | inl one ↦ elim (unit_found n r at_n) [
      | inl other ↦ waits.differ m n q r one other live_m live_n owners
      | inr new ↦ older m q one live_m new.1.var.0 (owners ∙ new.4)
    ]
    | inr front ↦ elim (unit_found n r at_n) [
      | inl other ↦ older n r other live_n front.1.var.0 (sym owners ∙ front.4)
      | inr new ↦
          let numbers = number_is (sym front.4 ∙ owners ∙ new.4) in
          let same_number = entry.owners front.0 new.0 front.1 new.1 front.3 new.3 numbers in front.2 ∙ ap (λ j. length others + j) same_number ∙ sym new.2
    ]
  ]
    where
      older : {A : Type 0} (i : ℕ) (o : Object) → slice_get others i ≡ Some o → o.live ≡ true → (n : ℕ) → o.owner ≡ Automatic n depth → A
      older i o is live n owner = let le = waits.above i o n depth is live owner in absurd (omega (arith, le))

  -- What runs keep is kept where the body begins.
  pub fits_entered : Later s.memory entered_source → OthersLater k.setting.objects others → (input : List ℕ) → input ≡ s.input → (seen : List Event) → Pairs (SameEvent P k.setting.unit) s.events seen
      → Fits k.setting None (record s { memory = entered_source }) (record { block = 0; names = entered_names; shadows = entered_shadows; wants = None }) (record { memory = entered_memory; input = input; seen = seen })
  fits_entered later before input same_input seen events = record {
    own = record {
      scalars = λ v x m o named at owner live. scalar_now later v x m o named at owner live;
      objects = λ v j a homed is. subst (λ n. ObjectIs P entered_memory v depth (n + j) a) (sym begins) (object_now v j a homed is);
    };
    outer = outer_later P s.memory entered_source others entered_memory later others_went k.setting.waiting
        (λ level n v j m o le found owner. elim (found_in m o found) [
          | inl old ↦ old
          | inr new ↦ let e : depth ≡ level = depth_is (ap (λ q. q.owner) (sym new.object) ∙ owner) in absurd (omega (arith, e, le))
        ]) waits.outer;
    placed = λ n o at alive inside. elim (found_in n o at) [
      | inl old ↦ placed_later P s.memory entered_source others entered_memory later others_went o (λ c. stays c.number c.object c.is) (waits.placed n o old alive inside)
      | inr new ↦ parameter_placed later o new inside
    ];
    differ = differ_now;
    above = λ m q v d at live owner. elim (unit_found m q at) [
      | inl old ↦ let le = waits.above m q v d old live owner in omega (arith, le)
      | inr new ↦ let e : d ≡ depth = level_is (sym owner ∙ new.4) in omega (arith, e)
    ];
    later = others_trans k.setting.objects others entered_memory before others_went;
    statics = λ i t at. (let c = waits.statics i t at in let b = others_went i c.object c.is in record { object = b.object; is = b.is; owner = b.owner ∙ c.owner; lives = b.live ∙ c.lives; element = b.element ∙ c.element; count = b.count ∙ c.count });
    input = same_input;
    events = events;
  }
