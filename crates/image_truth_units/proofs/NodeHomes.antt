-- What the nodes of recipes name are variables of tables that have homes, and homes within a frame.
use Rattle.std.proofs.Common.{◌≡◌, ℕ, zero, suc, ◌+◌, ◌*◌, ◌<◌, inl, inr, Option, Some, None, List, [], ◌∷◌, ◌++◌, length, map, slice_get, sym, ap, ◌∙◌, subst, arith}
use Rattle.std.specs.Prelude.{IsSomeAnd}
use Rattle.std.specs.Option.{option_map_or}
use Rattle.std.proofs.lemmas.List.{length-map}
use Rattle.std.proofs.lemmas.Option.{none-some, same_Some, slice_get_within}
use Rattle.places.specs.declared.table.PlaceRow.{PlaceRow}
use Rattle.c_tree.specs.Programs.{LiteralTree, ProgramTree, StaticTree}
use Rattle.graph_homes.specs.declared.home.Home.{Home}
use Rattle.graph_homes.specs.declared.home.Home.TheVariants.{Register, Slot}
use Rattle.graph_core.specs.Graphs.{Graph, Scalar}
use Rattle.graph_homes.specs.Homed.{AreHomesOf, HomedForm, IsHomeAmong, IsHomeRegister, home_of}
use Rattle.rv_emit_tables.specs.Emitted.{EmittedForm, FunctionCode}
use Rattle.rv_emit_runs.specs.Laid.{code_of}
use Rattle.rv_emit_runs.proofs.Frames.{graph_is, laid_out}
use Rattle.image_form.specs.Form.{Form}
use Rattle.image_form.specs.RulesOfNodes.{IsHome, IsHomeNumber, NamesHome}
use Rattle.image_form.specs.RulesOfVariables.{IsKept, IsKeptInFunction, IsVariable}
use Rattle.image_form.specs.declared.recipes.Node.TheVariants as node
use Rattle.image_form.specs.declared.variables.Variable.{Variable}
use Rattle.image_build_tables.specs.Nodes.{Naming, home_node}
use Rattle.image_build_tables.specs.Rows.{naming_at, telling_of}
use Rattle.image_build_tables.specs.Storages.{storage_of, storages_of}
use Rattle.image_build_tables.specs.Variables.{bounded_count, owned_from, owner, owners_of}
use Rattle.image_build_tables.specs.Variables as declarations
use Rattle.image_build_tables.proofs.NodeRules.{HasHomesIn, IsNamingIn, naming_at_is}
use Rattle.image_truth_units.specs.ImageRulesUnits.{HasAllVariables}
use Rattle.image_truth_units.specs.Tables.{variables_in}
use Rattle.image_truth_units.specs.Units.{HasVariablesIn, IsVariableOf}
use Rattle.image_truth_units.specs.Variables.{automatic_number}
use Rattle.image_truth_units.proofs.Fits.{variables_many}
use Rattle.image_truth_units.proofs.Given.{Given}
use Rattle.image_truth_units.proofs.Lists.{all_at, all_from, map_at, there}
use Rattle.image_truth_units.proofs.ProgramPlaces.{behind_is}
use Rattle.image_truth_units.proofs.Storages.{IsKeptBy, kept_by, nowhere, object, scalar, static}
use Rattle.image_truth_units.proofs.Variables.{variable_rules}

-- a function has as many homes as names
homes_many : (gs : List Graph) (hs : List (List Home)) (n : ℕ) (g : Graph) (homes : List Home) → AreHomesOf gs hs → slice_get gs n ≡ Some g → slice_get hs n ≡ Some homes → length homes ≡ g.name_count
homes_many [] hs n g homes are is at = absurd (none-some g is)
homes_many (x ∷ gs) [] n g homes are is at = absurd are
homes_many (x ∷ gs) (y ∷ hs) zero g homes are is at = ap (λ (l : List Home). length l) (sym (same_Some y homes at)) ∙ are.0 ∙ ap (λ (z : Graph). z.name_count) (same_Some x g is)
homes_many (x ∷ gs) (y ∷ hs) (suc n) g homes are is at = homes_many gs hs n g homes are.2 is at

-- a home is one
is_home : (slots : ℕ) (home : Home) → IsHome (storage_of slots home)
is_home slots (Register r) = tt
is_home slots (Slot k) = tt

-- ---- Variables

module _ (p : ProgramTree) (h : HomedForm) (e : EmittedForm) (rows : List PlaceRow) (m : Form) (given : Given p h e rows m) where
  -- to what belongs what stands behind the static variables and the literals
  owner_behind : (x : ℕ) → slice_get (owners_of p) (automatic_number p x) ≡ slice_get (owned_from 0 p.functions) x
  owner_behind x =
      let statics : List (Option ℕ) = map (λ (t : StaticTree). None) p.statics in
      let literals : List (Option ℕ) = map (λ (l : LiteralTree). None) p.literals in
      let rest = owned_from 0 p.functions in
      let many = length-map {B = Option ℕ} p.statics (λ (t : StaticTree). None) in
      let more = length-map {B = Option ℕ} p.literals (λ (l : LiteralTree). None) in
      let at : automatic_number p x ≡ length statics + (length literals + x) = omega (arith, many, more) in
      ap (slice_get (owners_of p)) at ∙ behind_is statics (literals ++ rest) (length literals + x) ∙ behind_is literals rest x

  -- A variable of a function belongs to it in the tables.
  pub owned_by : (f number : ℕ) → IsVariableOf p f number → (v : Variable) → slice_get m.variables number ≡ Some v → v.function ≡ Some f
  owned_by f number of v is =
      same_Some v.function (Some f) (sym (map_at owner m.variables number v is) ∙ ap (λ l. slice_get l number) given.tables.belonging ∙ ap (slice_get (owners_of p)) of.number_is ∙ owner_behind of.variable ∙ of.owner)

module _ (p : ProgramTree) (h : HomedForm) (e : EmittedForm) (rows : List PlaceRow) (m : Form) (given : Given p h e rows m) (unit : HasVariablesIn p h.unit) (every : HasAllVariables p h.unit) where
  -- the variable of a function, as the tables have it
  record IsIn (function number : ℕ) : Type 0 where
    variable : Variable
    is : slice_get m.variables number ≡ Some variable
    kept : IsKeptInFunction m function variable.storage
    by : IsKeptBy h e number variable.storage

  variable_in : (f number : ℕ) → IsVariableOf p f number → IsIn f number
  variable_in f number of =
      let low = slice_get_within p.automatics of.variable of.tree of.is in
      let number_is = of.number_is in
      let many = variables_many p h e rows m given in
      let v = there m.variables number (omega (arith, low, number_is, many)) in
      let own = owned_by p h e rows m given f number of v.0 v.1 in
      let rule : IsVariable m v.0 = all_at (IsVariable m) m.variables number v.0 (variable_rules p h e rows m given unit every).each v.1 in
      let at : slice_get (storages_of h e (variables_in p)) number ≡ Some v.0.storage = ap (λ l. slice_get l number) (sym given.tables.storages) ∙ map_at declarations.storage m.variables number v.0 v.1 in
      record { variable = v.0; is = v.1; kept = subst (λ o. IsKept m o v.0.storage) own rule.kept; by = kept_by h e (variables_in p) number v.0.storage at }

  -- a variable is of one function
  one_function : (f g number : ℕ) → IsVariableOf p f number → IsVariableOf p g number → f ≡ g
  one_function f g number one other =
      let first = one.number_is in
      let second = other.number_is in
      let same : one.variable ≡ other.variable = omega (arith, first, second) in
      some_same f g (same_Some (Some f) (Some g) (sym one.owner ∙ ap (slice_get (owned_from 0 p.functions)) same ∙ other.owner))
    where
      some_same : (f g : ℕ) → Some f ≡ Some g → f ≡ g
      some_same f g is = cc

  -- A scalar has a home.
  scalar_named : (f k : ℕ) (g : Graph) (s : Scalar) → slice_get h.unit.graphs f ≡ Some g → slice_get g.scalars k ≡ Some s → NamesHome m (node.Variable s.variable)
  scalar_named f k g s is at = subst (λ o. IsSomeAnd o (λ (v : Variable). IsHome v.storage)) (sym mine.is) (by_kept mine.by)
    where
      mine : IsIn f s.variable
      mine = variable_in f s.variable (unit.scalars f k g s is at)

      by_kept : IsKeptBy h e s.variable mine.variable.storage → IsHome mine.variable.storage
      by_kept (static address there_is same) = absurd (subst (IsKeptInFunction m f) (sym same) mine.kept)
      by_kept (scalar of) = subst IsHome of.storage_is (is_home of.code.slots of.home)
      by_kept (object of) =
          let function : of.function ≡ f = one_function of.function f s.variable (subst (IsVariableOf p of.function) of.variable (unit.objects of.function of.index of.graph of.object of.is of.there)) (unit.scalars f k g s is at) in
          let graph : of.graph ≡ g = same_Some of.graph g (sym of.is ∙ ap (slice_get h.unit.graphs) function ∙ is) in
          absurd (unit.apart f k of.index g s of.object is at (ap (λ (x : Graph). slice_get x.objects of.index) (sym graph) ∙ of.there) (sym of.variable))
      by_kept (nowhere same) = absurd (subst (IsKeptInFunction m f) (sym same) mine.kept)

  -- ---- Homes

  home_named : (f k : ℕ) (g : Graph) (c : FunctionCode) (homes : List Home) (home : Home) → slice_get h.unit.graphs f ≡ Some g → slice_get e.functions f ≡ Some c → slice_get h.homes f ≡ Some homes → slice_get homes k ≡ Some home → NamesHome m (home_node c.slots home)
  home_named f k g c homes home is at homes_is home_is = by_home home among
    where
      named : k < g.name_count
      named =
          let many = homes_many h.unit.graphs h.homes f g homes given.homed is homes_is in
          let low = slice_get_within homes k home home_is in
          omega (arith, many, low)

      -- the home as the frame has it
      among : IsHomeAmong (code_of h given.emits.code.arrangement f).slots home
      among =
          let laid = laid_out h given.valid given.homed given.emits.code.arrangement f in
          let graph : (code_of h given.emits.code.arrangement f).graph ≡ g = graph_is h.unit f g is in
          let low : k < (code_of h given.emits.code.arrangement f).graph.name_count = subst (λ (x : Graph). k < x.name_count) (sym graph) named in
          subst (IsHomeAmong (code_of h given.emits.code.arrangement f).slots) found (laid.homes k low)
        where
          found : home_of h f k ≡ home
          found = ap (λ l. option_map_or (λ (z : Home). z) (slice_get l k) (Slot 0)) (ap (λ q. option_map_or (λ (z : List Home). z) q []) homes_is) ∙ ap (λ q. option_map_or (λ (z : Home). z) q (Slot 0)) home_is

      by_home : (x : Home) → IsHomeAmong (code_of h given.emits.code.arrangement f).slots x → NamesHome m (home_node c.slots x)
      by_home (Register r) of = inl (below r of)
        where
          below : (r : ℕ) → IsHomeRegister r → r < 32
          below r (inl one) = omega (arith, one)
          below r (inr both) = let high = both.1 in omega (arith, high)
      by_home (Slot n) less =
          let told = given.emits.told.functions f g is in
          let same : told.code ≡ c = same_Some told.code c (sym told.is ∙ at) in
          let laid = laid_out h given.valid given.homed given.emits.code.arrangement f in
          let slots : c.slots ≡ (code_of h given.emits.code.arrangement f).storage.slots = sym (ap (λ (x : FunctionCode). x.slots) same) ∙ told.slots in
          let start = laid.slots in
          let size = laid.size in
          let small = laid.small in
          let low : n < (code_of h given.emits.code.arrangement f).slots = less in
          let number : bounded_count (c.slots + 4 * n + 32) ≡ c.slots + 4 * n + 32 = omega (arith, slots, start, size, small, low) in
          subst IsHomeNumber (sym number) (inr (omega arith, omega (arith, slots, start), omega (arith, slots, start, size, small, low)))

  -- THE NODES OF RECIPES THAT ARE TOLD AT A PLACE NAME HOMES.
  pub homes_in_tables : (places : List PlaceRow) (place : ℕ) (n : Naming) → naming_at (telling_of h places e) place ≡ Some n → HasHomesIn m n
  homes_in_tables places place n is =
      let one : IsNamingIn (telling_of h places e) n = naming_at_is (telling_of h places e) place n is in
      record {
        scalars = all_from (λ (s : Scalar). NamesHome m (node.Variable s.variable)) n.graph.scalars (λ k s at. scalar_named one.function k n.graph s one.graph_is at);
        homes = all_from (λ (home : Home). NamesHome m (home_node n.slots home)) n.homes
            (λ k home at. subst (λ slots. NamesHome m (home_node slots home)) (sym one.slots_are) (home_named one.function k n.graph one.code n.homes home one.graph_is one.code_is one.homes_are at));
      }
