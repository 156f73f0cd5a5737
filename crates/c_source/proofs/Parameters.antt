-- The parameters of a function are its first variables, of the types that its declarator says.
use Rattle.std.proofs.Common.{◌≡◌, ℕ, suc, List, [], ◌∷◌, ◌++◌, length, take, drop, slice_get, true, Option, Some, None, refl, sym, ap, ◌∙◌, subst, add-one, append-nil, append_assoc}
use Rattle.std.specs.Prelude.{map}
use Rattle.std.specs.Option.{option_map_or}
use Rattle.c_tree.specs.declared.object_type.Scalar.{Scalar}
use Rattle.c_tree.specs.declared.object_type.ObjectType.TheVariants as object_type
use Rattle.c_tree.specs.declared.object_type.ValueType.{ValueType}
use Rattle.c_tree.specs.Expressions.{NameTree}
use Rattle.c_tree.specs.Declarations.{ParameterTree}
use Rattle.c_tree.specs.Statements.{BlockTree, chain_of_statements}
use Rattle.c_tree.specs.TypedStatements.{TypedStatementTrees}
use Rattle.c_tree.specs.Trees.{FunctionTree, ItemTree, Include, Declares, Defines}
use Rattle.c_tree.specs.Programs.{AutomaticTree, TypedFunctionTree, ProgramTree}
use Rattle.c_type_rules.specs.Types.{loaded_type}
use Rattle.c_type_declarations.specs.Scopes.{declared_here}
use Rattle.c_type_declarations.specs.Progress.{ProgressTree, Met, means, next_met, opened}
use Rattle.debug_records.specs.declared.code.TheConstants.Code.{REDECLARED}
use Rattle.c_type_statements.specs.Statements.{statements_met}
use Rattle.c_type.specs.Functions.{parameter_type, parameter_types, parameter_named, parameter_met, parameters_met, result_type, defined, function_made, setting_of, rest_met, signature_of, name_met, parameter_sizes}
use Rattle.c_type.specs.Items.{item_met, items_met, beginning}
use Rattle.c_type_laws.specs.Kinds.{element_type, types_of}
use Rattle.c_type_laws.specs.Parameters.{are_single, is_single, parameters_single}
use Rattle.c_source.specs.Findings.{Begins}
use Rattle.c_source.specs.Files.{has_name, HaveNames, AreNamesFormed, IsBodyFormed, IsItemFormed, AreItemsFormed, Defined}
use Rattle.c_source.specs.Progress.{Ensures}
use Rattle.c_source.specs.Stating.{StatesAll}
use Rattle.c_source.proofs.Same.{both}
use Rattle.c_source.proofs.Judging.{at_end}
use Rattle.c_source.proofs.Coming.{slice_more}
use Rattle.c_source.proofs.Calling.{rest_from}
use Rattle.c_source.proofs.Declaring.{new_variable, breaks_if_same}
use Rattle.c_source.proofs.Statements.{all_states}
use Rattle.c_source.proofs.Bodies.{parameter_counts, parameters_come}
use Rattle.c_source.proofs.Marking.{Marks}
use Rattle.c_source.proofs.Items.{item_defined}
use Rattle.c_source.proofs.Programs.{Accepted, marks}

-- variables from one on are scalars of such types
abbrev pub AreScalars : List AutomaticTree → ℕ → List Scalar → Type 0
AreScalars vs k [] = Unit {0}
AreScalars vs k (s ∷ ss) = ((a : AutomaticTree) × (slice_get vs k ≡ Some a) × (a.of ≡ object_type.Scalar s)) × AreScalars vs (suc k) ss

scalars_more : (vs ws : List AutomaticTree) (k : ℕ) (ss : List Scalar) → Begins vs ws → AreScalars vs k ss → AreScalars ws k ss
scalars_more vs ws k [] b h = tt
scalars_more vs ws k (s ∷ ss) b h = ((h.0.0, ap (λ l. slice_get l k) b.1 ∙ slice_more vs b.0 k h.0.0 h.0.1, h.0.2), scalars_more vs ws (suc k) ss b h.1)

-- such parameters
scalars_single : (vs : List AutomaticTree) (k : ℕ) (ss : List Scalar) → AreScalars vs k ss → are_single (take (length ss) (drop k vs)) ≡ true
scalars_single vs k [] h = refl
scalars_single vs k (s ∷ ss) h =
    ap (λ l. are_single (take (suc (length ss)) l)) (rest_from vs k h.0.0 h.0.1) ∙ both (is_single h.0.0.of) (are_single (take (length ss) (drop (suc k) vs))) (ap is_single h.0.2) (scalars_single vs (suc k) ss h.1)

scalar_types : (vs : List AutomaticTree) (k : ℕ) (ss : List Scalar) → AreScalars vs k ss → types_of (take (length ss) (drop k vs)) ≡ map loaded_type ss
scalar_types vs k [] h = refl
scalar_types vs k (s ∷ ss) h =
    ap (λ l. types_of (take (suc (length ss)) l)) (rest_from vs k h.0.0 h.0.1) ∙ ap (λ t. element_type t ∷ types_of (take (length ss) (drop (suc k) vs))) h.0.2 ∙ ap (λ ts. loaded_type s ∷ ts) (scalar_types vs (suc k) ss h.1)

-- a parameter's variable
named_there : (d : ParameterTree) (n : NameTree) (q : ProgressTree) → (a : AutomaticTree) × (slice_get (parameter_named d.extent (parameter_type d) n q).automatics (length q.automatics) ≡ Some a) × (a.of ≡ object_type.Scalar (parameter_type d))
named_there d n q =
    let v = new_variable n (object_type.Scalar (parameter_type d)) in
    let same = breaks_if_same (declared_here q.names n.name) REDECLARED d.extent q in
    (v, ap (λ l. slice_get (l ++ v ∷ []) (length q.automatics)) same ∙ ap (λ l. slice_get l (length q.automatics)) (sym (append-nil (q.automatics ++ v ∷ []))) ∙ at_end q.automatics [] v, refl)

parameter_there : (d : ParameterTree) (q : ProgressTree) → has_name d → (a : AutomaticTree) × (slice_get (parameter_met d q).automatics (length q.automatics) ≡ Some a) × (a.of ≡ object_type.Scalar (parameter_type d))
parameter_there d q h =
    subst (λ o. (a : AutomaticTree) × (slice_get (option_map_or (λ n. parameter_named d.extent (parameter_type d) n q) o q).automatics (length q.automatics) ≡ Some a) × (a.of ≡ object_type.Scalar (parameter_type d))) (sym h.1)
    (named_there d h.0 q)

module _ (p : ProgramTree) where
  parameters_there : (f : TypedFunctionTree) (ds : List ParameterTree) (q : ProgressTree) → HaveNames ds → AreNamesFormed ds → AreScalars (parameters_met ds q).automatics (length q.automatics) (parameter_types ds)
  parameters_there f [] q h g = tt
  parameters_there f (d ∷ ds) q h g =
      let one = parameter_there d q h.0 in
      let rest = (parameters_come p f ds (parameter_met d q) g.1).advances.automatics in
      let r = (parameter_met d q).automatics in (
        (one.0, ap (λ l. slice_get l (length q.automatics)) rest.1 ∙ slice_more r rest.0 (length q.automatics) one.0 one.1, one.2),
        subst (λ k. AreScalars (parameters_met ds (parameter_met d q)).automatics k (parameter_types ds)) (parameter_counts p f d q h.0 ∙ add-one (length q.automatics)) (parameters_there f ds (parameter_met d q) h.1 g.1),
      )

-- What a definition says of its function.
pub record Definition : Type 0 where
  pub name : List ℕ
  pub result : ValueType
  pub parameters : List Scalar

-- A function is as its definition says, among variables.
pub record IsAs (vs : List AutomaticTree) (f : TypedFunctionTree) (d : Definition) : Type 0 where
  pub result : f.result ≡ d.result
  pub count : f.parameters ≡ length d.parameters
  pub scalars : AreScalars vs f.first_variable d.parameters

abbrev pub AreAs : List AutomaticTree → List TypedFunctionTree → List Definition → Type 0
AreAs vs [] [] = Unit {0}
AreAs vs (f ∷ fs) [] = ⊥
AreAs vs [] (d ∷ ds) = ⊥
AreAs vs (f ∷ fs) (d ∷ ds) = IsAs vs f d × AreAs vs fs ds

as_more : (vs ws : List AutomaticTree) (fs : List TypedFunctionTree) (ds : List Definition) → Begins vs ws → AreAs vs fs ds → AreAs ws fs ds
as_more vs ws [] [] b h = tt
as_more vs ws (f ∷ fs) [] b h = absurd h
as_more vs ws [] (d ∷ ds) b h = absurd h
as_more vs ws (f ∷ fs) (d ∷ ds) b h =
    let one : IsAs vs f d = h.0 in
    (record { result = one.result; count = one.count; scalars = scalars_more vs ws f.first_variable d.parameters b one.scalars }, as_more vs ws fs ds b h.1)

as_on : (vs : List AutomaticTree) (fs gs : List TypedFunctionTree) (ds es : List Definition) → AreAs vs fs ds → AreAs vs gs es → AreAs vs (fs ++ gs) (ds ++ es)
as_on vs [] gs [] es h g = g
as_on vs (f ∷ fs) gs [] es h g = absurd h
as_on vs [] gs (d ∷ ds) es h g = absurd h
as_on vs (f ∷ fs) gs (d ∷ ds) es h g = (h.0, as_on vs fs gs ds es h.1 g)

-- the definitions of items
abbrev pub definition_of : FunctionTree → Definition
definition_of f = record { name = f.name.name; result = result_type f.base f.stars; parameters = parameter_types f.parameters }

abbrev pub definitions_if : FunctionTree → Option BlockTree → List Definition
definitions_if f b = option_map_or (λ b. definition_of f ∷ []) b []

abbrev pub definitions_by : ItemTree → List Definition
definitions_by (Include spot h) = []
definitions_by (Declares d) = []
definitions_by (Defines f) = definitions_if f f.body

abbrev pub definitions : List ItemTree → List Definition
definitions [] = []
definitions (i ∷ rest) = definitions_by i ++ definitions rest

types_length : (ds : List ParameterTree) → length ds ≡ length (parameter_types ds)
types_length [] = refl
types_length (d ∷ ds) = ap suc (types_length ds)

abbrev pub Fit : List Definition → List TypedFunctionTree → ProgressTree → Type 0
Fit ds fs t = AreAs t.automatics fs ds

module _ (p : ProgramTree) where
  body_fits : (names : List (List ℕ)) (f : FunctionTree) (b : BlockTree) (q : ProgressTree) → IsBodyFormed f.parameters (Some b) → Ensures (Fit (definition_of f ∷ [])) (rest_met f (signature_of names f) (Some b) q)
  unfolding next_met
  body_fits names f b q formed = by (statements_met (setting_of (signature_of names f)) (chain_of_statements b.statements) begun) (λ fun e. all_states p fun (setting_of (signature_of names f)) (chain_of_statements b.statements) begun formed.1 e)
    where
      begun : ProgressTree
      begun = parameters_met f.parameters (opened q)

      any : TypedStatementTrees → ProgressTree → TypedFunctionTree
      any ts t = record { name = f.name.name; spot = f.name.spot; result = result_type f.base f.stars; first_variable = length q.automatics; parameters = length f.parameters; variables = 0; body = ts; close = b.closing; weight = 0 }

      by : (m : Met TypedStatementTrees) → ((fun : TypedFunctionTree) → result_type f.base f.stars ≡ fun.result → Ensures (StatesAll p fun (setting_of (signature_of names f)) begun) m)
          → Ensures (Fit (definition_of f ∷ [])) (next_met m (function_made f (signature_of names f) b (length q.automatics)))
      by (means ts t) h =
          let states = h (any ts t) refl in (
            record { result = refl; count = types_length f.parameters; scalars = scalars_more begun.automatics t.automatics (length q.automatics) (parameter_types f.parameters) states.comes.advances.automatics (parameters_there p (any ts t) f.parameters (opened q) formed.0 formed.2) },
            tt,
          )

  rest_fits : (names : List (List ℕ)) (f : FunctionTree) (b : Option BlockTree) (q : ProgressTree) → IsBodyFormed f.parameters b → Ensures (Fit (definitions_if f b)) (rest_met f (signature_of names f) b q)
  rest_fits names f (Some b) q formed = body_fits names f b q formed
  rest_fits names f None q formed = tt

  item_fits : (names : List (List ℕ)) (k : ℕ) (i : ItemTree) (q : ProgressTree) → IsItemFormed i → Ensures (Fit (definitions_by i)) (item_met names k i q)
  item_fits names k (Include spot h) q formed = tt
  item_fits names k (Declares d) q formed = tt
  item_fits names k (Defines f) q formed = rest_fits names f f.body (name_met k f (signature_of names f) (parameter_sizes f.parameters q)) formed.1

  items_fit : (names : List (List ℕ)) (fs : List TypedFunctionTree) (ds : List Definition) (items : List ItemTree) (q : ProgressTree) → AreItemsFormed items → AreAs q.automatics fs ds → Ensures (Fit (ds ++ definitions items)) (items_met names fs items q)
  unfolding next_met
  items_fit names fs ds [] q formed h = subst (AreAs q.automatics fs) (sym (append-nil ds)) h
  items_fit names fs ds (i ∷ rest) q formed h =
      by (item_met names (length fs) i q) (item_defined p names (length fs) i q formed.0) (item_fits names (length fs) i q formed.0) (λ gs t k. items_fit names gs (ds ++ definitions_by i) rest t formed.1 k)
    where
      later : (m : Met (List TypedFunctionTree)) → Ensures (Fit ((ds ++ definitions_by i) ++ definitions rest)) m → Ensures (Fit (ds ++ (definitions_by i ++ definitions rest))) m
      later (means gs u) k = subst (AreAs u.automatics gs) (append_assoc ds (definitions_by i) (definitions rest)) k

      by : (m : Met (List TypedFunctionTree)) → Ensures (Defined p q) m → Ensures (Fit (definitions_by i)) m
          → ((gs : List TypedFunctionTree) (t : ProgressTree) → AreAs t.automatics gs (ds ++ definitions_by i) → Ensures (Fit ((ds ++ definitions_by i) ++ definitions rest)) (items_met names gs rest t))
          → Ensures (Fit (ds ++ (definitions_by i ++ definitions rest))) (next_met (next_met m (λ more. means (fs ++ more))) (λ gs. items_met names gs rest))
      by (means more t) d k all = later (items_met names (fs ++ more) rest t) (all (fs ++ more) t (as_on t.automatics fs more ds (definitions_by i) (as_more q.automatics t.automatics fs ds d.extends.automatics h) k))

-- variables that are marked
scalars_marked : (vs ws : List AutomaticTree) (k : ℕ) (ss : List Scalar) → Marks vs ws → AreScalars vs k ss → AreScalars ws k ss
scalars_marked vs ws k [] m h = tt
scalars_marked vs ws k (s ∷ ss) m h = let b = m.each k h.0.0 h.0.1 in ((b.0, b.1, b.2.of ∙ h.0.2), scalars_marked vs ws (suc k) ss m h.1)

as_marked : (vs ws : List AutomaticTree) (fs : List TypedFunctionTree) (ds : List Definition) → Marks vs ws → AreAs vs fs ds → AreAs ws fs ds
as_marked vs ws [] [] m h = tt
as_marked vs ws (f ∷ fs) [] m h = absurd h
as_marked vs ws [] (d ∷ ds) m h = absurd h
as_marked vs ws (f ∷ fs) (d ∷ ds) m h =
    let one : IsAs vs f d = h.0 in
    (record { result = one.result; count = one.count; scalars = scalars_marked vs ws f.first_variable d.parameters m one.scalars }, as_marked vs ws fs ds m h.1)

as_single : (vs : List AutomaticTree) (fs : List TypedFunctionTree) (ds : List Definition) → AreAs vs fs ds → parameters_single vs fs ≡ true
as_single vs [] [] h = refl
as_single vs (f ∷ fs) [] h = absurd h
as_single vs [] (d ∷ ds) h = absurd h
as_single vs (f ∷ fs) (d ∷ ds) h =
    let one : IsAs vs f d = h.0 in
    both (are_single (take f.parameters (drop f.first_variable vs))) (parameters_single vs fs) (ap (λ n. are_single (take n (drop f.first_variable vs))) one.count ∙ scalars_single vs f.first_variable d.parameters one.scalars) (as_single vs fs ds h.1)

-- the types of the parameters of a function that is as a definition says
pub as_types : {vs : List AutomaticTree} {f : TypedFunctionTree} {d : Definition} → IsAs vs f d → types_of (take f.parameters (drop f.first_variable vs)) ≡ map loaded_type d.parameters
as_types {vs = vs} {f = f} {d = d} one = ap (λ n. types_of (take n (drop f.first_variable vs))) one.count ∙ scalar_types vs f.first_variable d.parameters one.scalars

module _ (items : List ItemTree) (p : ProgramTree) (a : Accepted items p) (formed : AreItemsFormed items) where
  -- The functions of the program are as their definitions say.
  pub functions_as : AreAs p.automatics p.functions (definitions items)
  functions_as =
      let here : AreAs a.progress.automatics a.functions (definitions items) = subst (Ensures (Fit (definitions items))) a.is (items_fit p (defined items) [] [] items beginning formed tt) in
      let marked = as_marked a.progress.automatics a.variables a.functions (definitions items) (marks items p a) here in
      subst (λ (z : ProgramTree). AreAs z.automatics z.functions (definitions items)) (sym a.program) marked

  -- No parameter is an array.
  pub single_parameters : parameters_single p.automatics p.functions ≡ true
  single_parameters = as_single p.automatics p.functions (definitions items) functions_as
