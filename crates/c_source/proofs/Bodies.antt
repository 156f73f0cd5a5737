-- The function that a block makes is well typed, and its variables are those that the block declares.
use Rattle.std.proofs.Common.{◌≡◌, ℕ, ◌+◌, ◌-◌, List, [], ◌∷◌, length, slice_get, true, false, ◌&&◌, Option, Some, None, refl, sym, ap, ◌∙◌, subst, arith, append-nil, length-append}
use Rattle.std.specs.Prelude.{◌==◌}
use Rattle.std.specs.Option.{option_map_or}
use Rattle.std.proofs.lemmas.Bool.{eq-eqb}
use Rattle.c_tree.specs.declared.object_type.ObjectType.TheVariants as object_type
use Rattle.c_tree.specs.declared.object_type.Object.TheVariants as object
use Rattle.c_tree.specs.declared.typed_expression.Callee.{Callee}
use Rattle.c_tree.specs.Expressions.{NameTree}
use Rattle.c_tree.specs.Declarations.{ParameterTree}
use Rattle.c_tree.specs.Statements.{BlockTree, chain_of_statements}
use Rattle.c_tree.specs.Trees.{FunctionTree}
use Rattle.c_tree.specs.TypedStatements.{TypedStatementTrees}
use Rattle.c_tree.specs.Programs.{TypedFunctionTree, ProgramTree}
use Rattle.c_type_expressions.specs.declared.names.Meaning.TheVariants.{Variable}
use Rattle.c_type_expressions.specs.Names.{SignatureTree}
use Rattle.c_type_declarations.specs.Scopes.{empty_scope}
use Rattle.c_type_declarations.specs.Progress.{ProgressTree, Met, means, next_met, opened, scope_left}
use Rattle.c_type_bounds.specs.Counts.{capped}
use Rattle.c_type_bounds.specs.Weights.{definition_weight}
use Rattle.c_type_statements.specs.Statements.{statements_met}
use Rattle.c_type.specs.Functions.{parameter_type, parameter_named, parameter_met, parameters_met, function_made, setting_of, body_met}
use Rattle.c_type_laws.specs.Statements.{are_statements}
use Rattle.c_type_laws.specs.Declarations.{declared_in_all}
use Rattle.c_type_laws.specs.Names.{is_name}
use Rattle.c_type_laws.specs.Orders.{is_numbered}
use Rattle.c_type_laws.specs.Laws.{declares_its_own}
use Rattle.c_source.specs.Findings.{Begins}
use Rattle.c_source.specs.Formed.{AreFormed}
use Rattle.c_source.specs.Files.{has_name, HaveNames, IsNameFormed, AreNamesFormed, Defined}
use Rattle.c_source.specs.Storage.{AreStored}
use Rattle.c_source.specs.Progress.{AreScopesKnown, Stands, Inside, Comes, Ensures}
use Rattle.c_source.specs.Stating.{StatesAll}
use Rattle.c_source.proofs.Same.{both, itself}
use Rattle.c_source.proofs.Coming.{advances_on, stands_before, known_push, empty_known, closed_scopes, comes_itself, comes_on}
use Rattle.c_source.proofs.Declaring.{declares_comes, declares_count}
use Rattle.c_source.proofs.Statements.{all_states}

-- parameters, one behind the other, as a function's first variables
pub parameter_comes : (p : ProgramTree) (f : TypedFunctionTree) (d : ParameterTree) (q : ProgressTree) → IsNameFormed d.name → Comes p f f.first_variable q (parameter_met d q)
parameter_comes p f d q h = by d.name h
  where
    by : (n : Option NameTree) → IsNameFormed n → Comes p f f.first_variable q (option_map_or (λ n. parameter_named d.extent (parameter_type d) n q) n q)
    by (Some n) name = declares_comes p f f.first_variable (omega arith) d.extent n (object_type.Scalar (parameter_type d)) q refl (both (is_name n.name) true name refl)
    by None name = comes_itself p f f.first_variable q

pub parameters_come : (p : ProgramTree) (f : TypedFunctionTree) (ds : List ParameterTree) (q : ProgressTree) → AreNamesFormed ds → Comes p f f.first_variable q (parameters_met ds q)
parameters_come p f [] q h = comes_itself p f f.first_variable q
parameters_come p f (d ∷ ds) q h = comes_on p f (parameter_comes p f d q h.0) (parameters_come p f ds (parameter_met d q) h.1)

-- each parameter with a name is a variable
pub parameter_counts : (p : ProgramTree) (f : TypedFunctionTree) (d : ParameterTree) (q : ProgressTree) → has_name d → length (parameter_met d q).automatics ≡ length q.automatics + 1
parameter_counts p f d q h =
    ap (λ n. length (option_map_or (λ n. parameter_named d.extent (parameter_type d) n q) n q).automatics) h.1
    ∙ declares_count p f f.first_variable (omega arith) d.extent h.0 (object_type.Scalar (parameter_type d)) (Variable (object.Automatic (length q.automatics)) (object_type.Scalar (parameter_type d))) q

parameters_count : (p : ProgramTree) (f : TypedFunctionTree) (ds : List ParameterTree) (q : ProgressTree) → HaveNames ds → length (parameters_met ds q).automatics ≡ length q.automatics + length ds
parameters_count p f [] q h = omega arith
parameters_count p f (d ∷ ds) q h = let one = parameter_counts p f d q h.0 in let rest = parameters_count p f ds (parameter_met d q) h.1 in omega arith

-- the same
pub begins_same : {A : Type 0} {xs ys : List A} → ys ≡ xs → Begins xs ys
begins_same {xs = xs} e = ([], e ∙ sym (append-nil xs))

module _ (p : ProgramTree) (f : FunctionTree) (g : SignatureTree) (b : BlockTree) (q : ProgressTree) where
  -- where a function's block begins
  abbrev pub begun : ProgressTree
  begun = parameters_met f.parameters (opened q)

  -- the function of a block that is checked
  abbrev made : TypedStatementTrees → ProgressTree → TypedFunctionTree
  made ts t =
      record { name = f.name.name; spot = f.name.spot; result = g.result; first_variable = length q.automatics; parameters = length f.parameters; variables = length t.automatics - length q.automatics; body = ts; close = b.closing; weight = capped (definition_weight f.parameters b) }

  block_defines : (ts : TypedStatementTrees) (t : ProgressTree) → HaveNames f.parameters → AreNamesFormed f.parameters → StatesAll p (made ts t) (setting_of g) begun ts t → Defined p q (made ts t ∷ []) (scope_left t)
  block_defines ts t named names states =
      let fun = made ts t in
      let come = parameters_come p fun f.parameters (opened q) names in
      let a = advances_on come.advances states.comes.advances in
      let n = states.numbers in
      let first = parameters_count p fun f.parameters (opened q) named in
      let own : declared_in_all ts [] ≡ n.more = n.adds [] in
      let longer : length t.automatics ≡ length q.automatics + length a.automatics.0 = ap length a.automatics.1 ∙ length-append q.automatics a.automatics.0 in
      let scopes = closed_scopes q t a in
      record {
        extends = record {
          found = a.found;
          automatics = a.automatics;
          array_literals = a.array_literals;
          statics = begins_same a.statics;
          signatures = begins_same a.signatures;
          kept = a.kept;
          ended = a.ended;
        };
        known = λ k e one. subst (AreScopesKnown p one) (sym scopes) (k one);
        stored = λ k e s. subst (AreStored p) (sym a.statics) s;
        follows = both (length q.automatics == length q.automatics) (length q.automatics + (length t.automatics - length q.automatics) == length t.automatics) (itself (length q.automatics)) (eq-eqb _ _ (omega (arith, longer)));
        typed = λ k e.
            let stands : Stands p fun t = record { accepts = e.accepts; automatics = e.automatics; array_literals = e.array_literals; within = omega (arith, longer) } in
            let calls = λ (k : ℕ) (s : SignatureTree) (c : Callee) (h : slice_get q.names.signatures k ≡ Some s) (is : s.callee ≡ Some c). e.functions k s c (ap (λ l. slice_get l k) a.signatures ∙ h) is in
            let here : Inside p fun fun.first_variable (opened q) = record { scopes = known_push p fun q.names.scopes empty_scope (k fun) (empty_known p fun); functions = calls; begun = omega arith } in
            let within = come.inside here (stands_before states.comes.advances stands) in
            let body = states.holds (record { scopes = within.scopes; functions = within.functions; begun = omega (arith, first) }) stands in
            both (are_statements p fun false false None ts && declares_its_own fun) true
            (both (are_statements p fun false false None ts) (declares_its_own fun) body
            (both (is_numbered (length q.automatics + length f.parameters) (declared_in_all ts [])) (length (declared_in_all ts []) + length f.parameters == length t.automatics - length q.automatics)
            (ap (is_numbered (length q.automatics + length f.parameters)) own ∙ subst (λ m. is_numbered m n.more ≡ true) first n.numbered)
            (eq-eqb _ _ (let l = ap length own in let c = n.count in omega (arith, first))))) refl;
      }

  -- a function's block defines it
  pub body_defines : HaveNames f.parameters → AreNamesFormed f.parameters → AreFormed (chain_of_statements b.statements) → Ensures (Defined p q) (body_met f g b q)
  unfolding next_met
  body_defines named names formed = by (statements_met (setting_of g) (chain_of_statements b.statements) begun) (λ fun e. all_states p fun (setting_of g) (chain_of_statements b.statements) begun formed e)
    where
      by : (m : Met TypedStatementTrees) → ((fun : TypedFunctionTree) → g.result ≡ fun.result → Ensures (StatesAll p fun (setting_of g) begun) m) → Ensures (Defined p q) (next_met m (function_made f g b (length q.automatics)))
      by (means ts t) h = block_defines ts t named names (h (made ts t) refl)
