-- An image keeps each variable where the code of its function has it.
use Rattle.std.proofs.Common.{◌≡◌, ℕ, ◌+◌, ◌<◌, Option, Some, None, List, ◌++◌, length, map, slice_get, refl, sym, ap, ◌∙◌, subst, arith}
use Rattle.std.proofs.lemmas.List.{length-map, length-append}
use Rattle.std.proofs.lemmas.Option.{same_Some, slice_get_within}
use Rattle.c_tree.specs.Programs.{ProgramTree, StaticTree, LiteralTree}
use Rattle.graph_homes.specs.declared.home.Home.{Home}
use Rattle.graph_homes.specs.declared.home.Home.TheVariants.{Register, Slot}
use Rattle.graph_core.specs.declared.graph.MemoryObject.{MemoryObject}
use Rattle.graph_core.specs.Graphs.{Graph, Scalar}
use Rattle.graph_homes.specs.Homed.{HomedForm}
use Rattle.rv_emit_tables.specs.Emitted.{EmittedForm, FunctionCode}
use Rattle.image_form.specs.Form.{Form}
use Rattle.image_form.specs.Rules.{IsImage}
use Rattle.image_form.specs.RulesOfVariables.{IsVariable, IsKept, IsKeptStatically, IsKeptInFunction, first_static_address}
use Rattle.memory_map.proofs.Facts.{map_facts}
use Rattle.image_form.specs.declared.variables.Storage.{Storage}
use Rattle.image_form.specs.declared.variables.Storage.TheVariants as kept
use Rattle.image_form.specs.declared.variables.Variable.{Variable}
use Rattle.image_build_tables.specs.Storages.{storage_of, storages_of}
use Rattle.image_build_tables.specs.Variables.{shape, static_shape, literal_shape, automatic_shape, shapes_of, owner, owned_from, owners_of, declared_names, name_length, length_of_name, storage}
use Rattle.image_truth_units.specs.Units.{IsVariableOf, HasVariablesIn}
use Rattle.image_truth_units.specs.Variables.{static_count}
use Rattle.image_truth_units.proofs.Areas.{there}
use Rattle.image_truth_units.proofs.Storages.{IsKeptBy, static, scalar, object, nowhere, kept_by}
use Rattle.image_truth_units.proofs.Tables.{map_at, all_at, past_literals, owner_at, owned_behind, fixed_before}

no_static_address : (m : Form) → IsKeptStatically m (kept.Static 0) → ⊥
unfolding first_static_address
no_static_address m rule =
    let low = rule.0 in
    let some = (map_facts m.version.map).low in
    omega (arith, low, some)

-- a home is no address and no object of a frame
no_home_static : (m : Form) (slots : ℕ) (home : Home) (at : Storage) → storage_of slots home ≡ at → IsKeptStatically m at → ⊥
no_home_static m slots (Register r) at same rule = subst (IsKeptStatically m) (sym same) rule
no_home_static m slots (Slot k) at same rule = subst (IsKeptStatically m) (sym same) rule

no_home_frame : (slots offset : ℕ) (home : Home) → storage_of slots home ≡ kept.Frame offset → ⊥
no_home_frame slots offset (Register r) same = cc
no_home_frame slots offset (Slot k) same = cc

module _ (p : ProgramTree) (m : Form) (functions : map name_length m.functions ≡ map length_of_name p.functions) (variables : map shape m.variables ≡ shapes_of p) (owners : map owner m.variables ≡ owners_of p) (more : List ℕ) (names : m.names ≡ declared_names p ++ more) (rules : IsImage m)
    (h : HomedForm) (e : EmittedForm) (storages : map storage m.variables ≡ storages_of h e (length m.variables)) (unit : HasVariablesIn p h.unit) (addresses : length e.statics ≡ length h.unit.statics) where
  kept_at : (number : ℕ) (v : Variable) → slice_get m.variables number ≡ Some v → IsKeptBy h e number v.storage
  kept_at number v is = kept_by h e (length m.variables) number v.storage (ap (λ l. slice_get l number) (sym storages) ∙ map_at storage m.variables number v is)

  rule_of : (number : ℕ) (v : Variable) → slice_get m.variables number ≡ Some v → IsKept m v.function v.storage
  rule_of number v is = (all_at (IsVariable m) m.variables number v rules.variables.each is).kept

  -- the image has all variables
  all_there : length m.variables ≡ static_count p + length p.automatics
  all_there =
      let many = length-map m.variables shape in
      let same = ap length variables in
      let a = length-append (map static_shape p.statics) (map literal_shape p.literals ++ map automatic_shape p.automatics) in
      let b = length-append (map literal_shape p.literals) (map automatic_shape p.automatics) in
      let c = length-map p.statics static_shape in let d = length-map p.literals literal_shape in let f = length-map p.automatics automatic_shape in
      omega (arith, many, same, a, b, c, d, f)

  -- ---- Static storage

  -- a variable of static storage
  pub record IsFixed (number : ℕ) : Type 0 where
    pub variable : Variable
    pub is : slice_get m.variables number ≡ Some variable
    pub owner_is : variable.function ≡ None
    pub address : ℕ
    pub there_is : slice_get e.statics number ≡ Some address
    pub storage_is : variable.storage ≡ kept.Static address

  pub static_kept : (number : ℕ) → number < static_count p → IsFixed number
  static_kept number low =
      let all = all_there in
      let v = there m.variables number (omega (arith, low, all)) in
      let none = no_owner v.0 v.1 v.0.function refl in
      let rule : IsKeptStatically m v.0.storage = subst (λ o. IsKept m o v.0.storage) none (rule_of number v.0 v.1) in
      by_kept v.0 v.1 none rule (kept_at number v.0 v.1)
    where
      no_owner : (v : Variable) → slice_get m.variables number ≡ Some v → (o : Option ℕ) → v.function ≡ o → v.function ≡ None
      no_owner v is None e = e
      no_owner v is (Some f) e = absurd (let behind = owned_behind p m functions variables owners more names rules number f v is e in omega (arith, behind, low))

      by_kept : (v : Variable) → slice_get m.variables number ≡ Some v → v.function ≡ None → IsKeptStatically m v.storage → IsKeptBy h e number v.storage → IsFixed number
      by_kept v is none rule (static address at same) = record { variable = v; is = is; owner_is = none; address = address; there_is = at; storage_is = sym same }
      by_kept v is none rule (scalar of) = absurd (no_home_static m of.code.slots of.home v.storage of.storage_is rule)
      by_kept v is none rule (object of) = absurd (subst (IsKeptStatically m) (sym of.storage_is) rule)
      by_kept v is none rule (nowhere same) = absurd (no_static_address m (subst (IsKeptStatically m) (sym same) rule))

  -- ---- Automatic variables

  -- the variable of a function, with its number
  record IsOwn (function number : ℕ) : Type 0 where
    pub variable : Variable
    pub is : slice_get m.variables number ≡ Some variable
    pub owner_is : variable.function ≡ Some function

  own : (function number : ℕ) → IsVariableOf p function number → IsOwn function number
  own function number of =
      let all = all_there in
      let low = slice_get_within p.automatics of.variable of.tree of.is in
      let at = of.number_is in
      let v = there m.variables number (omega (arith, all, low, at)) in
      let owner_there = owner_at p m functions variables owners more names rules number v.0 v.1 in
      let owned = past_literals p m functions variables owners more names rules (λ (t : StaticTree). None) (λ (l : LiteralTree). None) (owned_from 0 p.functions) of.variable in
      record { variable = v.0; is = v.1; owner_is = same_Some v.0.function (Some function) (sym owner_there ∙ ap (slice_get (owners_of p)) at ∙ owned ∙ of.owner) }

  -- a variable is of one function
  one_function : (f g number : ℕ) → IsVariableOf p f number → IsVariableOf p g number → f ≡ g
  one_function f g number first second =
      let one = own f number first in
      let two = own g number second in
      let same : one.variable ≡ two.variable = same_Some one.variable two.variable (sym one.is ∙ two.is) in
      same_Some f g (sym one.owner_is ∙ ap (λ (v : Variable). v.function) same ∙ two.owner_is)

  -- it is no static one
  no_address : (function number address : ℕ) → IsVariableOf p function number → slice_get e.statics number ≡ Some address → ⊥
  no_address function number address of is =
      let low = slice_get_within e.statics number address is in
      let at = of.number_is in let many = unit.statics in
      omega (arith, low, at, many, addresses)

  -- an object of a function
  pub record IsInFrame (function index number : ℕ) : Type 0 where
    pub variable : Variable
    pub is : slice_get m.variables number ≡ Some variable
    pub owner_is : variable.function ≡ Some function
    pub code : FunctionCode
    pub code_is : slice_get e.functions function ≡ Some code
    pub offset : ℕ
    pub there_is : slice_get code.objects index ≡ Some offset
    pub storage_is : variable.storage ≡ kept.Frame offset

  pub object_kept : (f k : ℕ) (g : Graph) (o : MemoryObject) → slice_get h.unit.graphs f ≡ Some g → slice_get g.objects k ≡ Some o → IsInFrame f k o.var.0
  object_kept f k g o is at = by_kept (kept_at o.var.0 mine.variable mine.is)
    where
      mine : IsOwn f o.var.0
      mine = own f o.var.0 (unit.objects f k g o is at)

      by_kept : IsKeptBy h e o.var.0 mine.variable.storage → IsInFrame f k o.var.0
      by_kept (static address there_is same) = absurd (no_address f o.var.0 address (unit.objects f k g o is at) there_is)
      by_kept (scalar of) =
          let function : of.function ≡ f = one_function of.function f o.var.0 (subst (IsVariableOf p of.function) of.variable (unit.scalars of.function of.index of.graph of.scalar of.is of.there)) (unit.objects f k g o is at) in
          let graph : of.graph ≡ g = same_Some of.graph g (sym of.is ∙ ap (slice_get h.unit.graphs) function ∙ is) in
          absurd (unit.apart f of.index k g of.scalar o is (ap (λ (x : Graph). slice_get x.scalars of.index) (sym graph) ∙ of.there) at of.variable)
      by_kept (object of) =
          let function : of.function ≡ f = one_function of.function f o.var.0 (subst (IsVariableOf p of.function) of.variable (unit.objects of.function of.index of.graph of.object of.is of.there)) (unit.objects f k g o is at) in
          let graph : of.graph ≡ g = same_Some of.graph g (sym of.is ∙ ap (slice_get h.unit.graphs) function ∙ is) in
          let index : of.index ≡ k = unit.one_object f of.index k g of.object o is (ap (λ (x : Graph). slice_get x.objects of.index) (sym graph) ∙ of.there) at of.variable in
          record { variable = mine.variable; is = mine.is; owner_is = mine.owner_is; code = of.code; code_is = ap (slice_get e.functions) (sym function) ∙ of.code_is; offset = of.offset; there_is = ap (slice_get of.code.objects) (sym index) ∙ of.offset_is; storage_is = sym of.storage_is }
      by_kept (nowhere same) = absurd (subst (λ at. IsKeptInFunction m f at) (sym same) (subst (λ o. IsKept m o mine.variable.storage) mine.owner_is (rule_of o.var.0 mine.variable mine.is)))

  -- a scalar of a function
  pub record IsAtHome (function index number : ℕ) : Type 0 where
    pub variable : Variable
    pub is : slice_get m.variables number ≡ Some variable
    pub owner_is : variable.function ≡ Some function
    pub code : FunctionCode
    pub code_is : slice_get e.functions function ≡ Some code
    pub homes : List Home
    pub homes_are : slice_get h.homes function ≡ Some homes
    pub home : Home
    pub home_is : slice_get homes index ≡ Some home
    pub storage_is : variable.storage ≡ storage_of code.slots home

  pub scalar_kept : (f k : ℕ) (g : Graph) (s : Scalar) → slice_get h.unit.graphs f ≡ Some g → slice_get g.scalars k ≡ Some s → IsAtHome f k s.variable
  scalar_kept f k g s is at = by_kept (kept_at s.variable mine.variable mine.is)
    where
      mine : IsOwn f s.variable
      mine = own f s.variable (unit.scalars f k g s is at)

      by_kept : IsKeptBy h e s.variable mine.variable.storage → IsAtHome f k s.variable
      by_kept (static address there_is same) = absurd (no_address f s.variable address (unit.scalars f k g s is at) there_is)
      by_kept (object of) =
          let function : of.function ≡ f = one_function of.function f s.variable (subst (IsVariableOf p of.function) of.variable (unit.objects of.function of.index of.graph of.object of.is of.there)) (unit.scalars f k g s is at) in
          let graph : of.graph ≡ g = same_Some of.graph g (sym of.is ∙ ap (slice_get h.unit.graphs) function ∙ is) in
          absurd (unit.apart f k of.index g s of.object is at (ap (λ (x : Graph). slice_get x.objects of.index) (sym graph) ∙ of.there) (sym of.variable))
      by_kept (scalar of) =
          let function : of.function ≡ f = one_function of.function f s.variable (subst (IsVariableOf p of.function) of.variable (unit.scalars of.function of.index of.graph of.scalar of.is of.there)) (unit.scalars f k g s is at) in
          let graph : of.graph ≡ g = same_Some of.graph g (sym of.is ∙ ap (slice_get h.unit.graphs) function ∙ is) in
          let index : of.index ≡ k = unit.one_name f of.index k g of.scalar s is (ap (λ (x : Graph). slice_get x.scalars of.index) (sym graph) ∙ of.there) at of.variable in
          record { variable = mine.variable; is = mine.is; owner_is = mine.owner_is; code = of.code; code_is = ap (slice_get e.functions) (sym function) ∙ of.code_is; homes = of.homes; homes_are = ap (slice_get h.homes) (sym function) ∙ of.homes_are; home = of.home; home_is = ap (slice_get of.homes) (sym index) ∙ of.home_is; storage_is = sym of.storage_is }
      by_kept (nowhere same) = absurd (subst (λ at. IsKeptInFunction m f at) (sym same) (subst (λ o. IsKept m o mine.variable.storage) mine.owner_is (rule_of s.variable mine.variable mine.is)))

  -- what is in a function's frame is one of its objects
  pub record IsFrameObject (function number : ℕ) : Type 0 where
    pub graph : Graph
    pub is : slice_get h.unit.graphs function ≡ Some graph
    pub index : ℕ
    pub object_is : MemoryObject
    pub there_is : slice_get graph.objects index ≡ Some object_is
    pub variable_is : object_is.var.0 ≡ number

  pub frame_only : (f number offset : ℕ) (v : Variable) → slice_get m.variables number ≡ Some v → v.function ≡ Some f → v.storage ≡ kept.Frame offset → IsFrameObject f number
  frame_only f number offset v is own_is stored = by_kept (subst (IsKeptBy h e number) stored (kept_at number v is))
    where
      by_kept : IsKeptBy h e number (kept.Frame offset) → IsFrameObject f number
      by_kept (static address there_is same) = absurd (let wrong : kept.Static address ≡ kept.Frame offset = same in cc)
      by_kept (scalar of) = absurd (no_home_frame of.code.slots offset of.home of.storage_is)
      by_kept (nowhere same) = absurd (let wrong : kept.Static 0 ≡ kept.Frame offset = same in cc)
      by_kept (object of) =
          let one = own of.function number (subst (IsVariableOf p of.function) of.variable (unit.objects of.function of.index of.graph of.object of.is of.there)) in
          let same : one.variable ≡ v = same_Some one.variable v (sym one.is ∙ is) in
          let function : of.function ≡ f = same_Some of.function f (sym one.owner_is ∙ ap (λ (w : Variable). w.function) same ∙ own_is) in
          record { graph = of.graph; is = ap (slice_get h.unit.graphs) (sym function) ∙ of.is; index = of.index; object_is = of.object; there_is = of.there; variable_is = of.variable }

  -- only variables of static storage are kept at addresses
  pub static_only : (number address : ℕ) (v : Variable) → slice_get m.variables number ≡ Some v → v.storage ≡ kept.Static address → number < length h.unit.statics
  static_only number address v is stored =
      let low = fixed_before p m functions variables owners more names rules number address v is stored in
      let many = unit.statics in omega (arith, low, many)
