-- The unit of a well-formed program does what the program does.
use Rattle.std.proofs.Common.{◌≡◌, ℕ, suc, ◌+◌, ◌≤◌, Bool, true, false, Some, None, List, [], ◌∷◌, ◌++◌, slice_get, refl, sym, ap, ◌∙◌, subst, arith}
use Rattle.std.specs.Prelude.{◌==◌, nat_le}
use Rattle.std.proofs.lemmas.Bool.Decides.{nat_tests}
use Rattle.c_tree.specs.declared.object_type.Scalar.{Scalar}
use Rattle.c_tree.specs.declared.object_type.ObjectType.TheVariants as of-object
use Rattle.c_tree.specs.TypedExpressions.{RvalueTree}
use Rattle.c_tree.specs.Programs.{LiteralTree, TypedFunctionTree, ProgramTree}
use Rattle.c_places.specs.Memory.{keeps}
use Rattle.c_places.specs.Places.{Place, parameters_of, close_of, places_of_all}
use Rattle.c_type_laws.specs.Kinds.{is_typed, is_variable}
use Rattle.c_type_laws.specs.Expressions.{kind_of}
use Rattle.c_type_laws.specs.Objects.{is_kept_array}
use Rattle.c_type_laws.specs.Laws.{IsWellFormed, is_in_memory}
use Rattle.c_meaning_steps.specs.declared.event.Frame.{Frame}
use Rattle.graph_core.specs.Graphs.{UnitForm}
use Rattle.graph_core.specs.Memory.{Memory}
use Rattle.graph_core.specs.Runs.{Activation}
use Rattle.graph_build_names.specs.Names.{object_of}
use Rattle.graph_build.specs.Units.{IsUnitOf, is_again, block_count, graph_of}
use Rattle.graph_build_laws.proofs.Targets.{AllFit, fit_front}
use Rattle.graph_build_runs.specs.Correspondence.{DoesProgram}
use Rattle.graph_build_runs.proofs.Leads.{names_in}
use Rattle.graph_build_runs.proofs.Shapes.{two_true}
use Rattle.graph_build_runs.proofs.Activities.{Activity, placed}
use Rattle.graph_build_runs.proofs.Outcomes.{There}
use Rattle.graph_build_runs.proofs.Calls.{FunctionsAre}
use Rattle.graph_build_runs.proofs.Forming.{LaidAt}
use Rattle.graph_build_runs.proofs.Fitting.{StatementsStand}
use Rattle.graph_build_runs.proofs.Program.{program_does}
use Rattle.graph_build_runs.proofs.Functions.{FunctionStands, function_is}
use Rattle.graph_build_runs.proofs.Main.{main_is_there}
use Rattle.graph_build_laws.proofs.Accepted.{ProgramFacts, facts_of}
use Rattle.graph_build_laws.proofs.Homes.{object_there}
use Rattle.graph_build_laws.proofs.Settings.{graph_is, running}
use Rattle.graph_build_laws.proofs.Places.{body_are}
use Rattle.graph_build_laws.proofs.GraphProgramBlocks.{closing_of, block_there, body_stands, close_begins}
use Rattle.graph_build_laws.proofs.GraphProgramKeeping.{got_mapped, is_lawful, variable_is, laid_out}
use Rattle.graph_build_laws.proofs.Sizes.{are_small, main_gives}
use Rattle.graph_build_laws.proofs.Kept.{InIt, laid}
use Rattle.graph_build_laws.proofs.Fitting.{DeclaratorsAre, all_fit}
use Rattle.graph_build_laws.proofs.Entry.{entry_stands}
use Rattle.graph_build_laws.proofs.Start.{main_stands}

-- an array is in memory, and has elements
arrays_kept : (inside : Bool) (sc : Scalar) (n : ℕ) → is_kept_array inside (of-object.Array sc n) ≡ true → (inside ≡ true) × (1 ≤ n)
arrays_kept inside sc n h = let c = two_true (nat_le 1 n) inside h in (c.1, at_least 1 n c.0)
  where
    at_least : (a b : ℕ) → nat_le a b ≡ true → a ≤ b
    at_least a b h = grind (arith, nat_tests)

-- places that have blocks, by their numbers
all_there : (k : Activity) (number : ℕ) (xs : List Place) → ((i : ℕ) (q : Place) → slice_get xs i ≡ Some q → There k (Some q.spot.at)) → AllFit number (λ at. There k (Some at)) xs
all_there k number [] h = tt
all_there k number (x ∷ xs) h = (h 0 x refl, all_there k number xs (λ i q e. h (suc i) q e))

module _ (p : ProgramTree) (u : UnitForm) (facts : ProgramFacts p) (unit : IsUnitOf p u) where
  module _ (f : ℕ) (tree : TypedFunctionTree) (is : slice_get p.functions f ≡ Some tree) where
    module _ (first : ℕ) (ws : List Activation) (objects : Memory) (frames : List Frame) (left : ℕ) where
      abbrev k : Activity
      k = running p u f tree first ws objects frames left

      inside_there : (v : ℕ) → is_variable tree v ≡ true → is_in_memory (slice_get p.automatics v) ≡ true → (j : ℕ) × (object_of (names_in k.setting) v ≡ Some j)
      inside_there v h e =
          let r = variable_is p u facts unit f tree is first ws objects frames left v h in
          let found = ap (slice_get p.automatics) r.2 ∙ r.4 in
          let q = object_there p tree (is_again p tree) r.0 r.1 r.3 r.4 (sym (ap is_in_memory found) ∙ e) in
          (q.0, ap (object_of (names_in k.setting)) r.2 ∙ q.1)

      laid_at : (e : RvalueTree) (ks : List ℕ) → is_typed (kind_of p tree e) ≡ true → InIt p.automatics (keeps false e ks) → LaidAt k e
      laid_at e ks h m place began = laid (placed k place began) inside_there facts.arrays (λ of a b h g. (h, g)) false e ks h m

      body_there : AllFit f (λ at. There k (Some at)) (places_of_all f (parameters_of tree) tree.body)
      body_there =
          let body = places_of_all f (parameters_of tree) tree.body in
          fit_front f (λ at. There k (Some at)) body (close_of f tree) (all_there k f (body ++ close_of f tree) (λ i q e. block_there p u f tree is facts.ascend first ws objects frames left (suc i) q e))

      declarators_are : DeclaratorsAre k
      declarators_are d typed laid = record {
        laid = laid;
        arrays = λ a sc n is one. arrays_kept a.in_memory sc n (subst (λ of. is_kept_array a.in_memory of ≡ true) one (facts.arrays d.variable a is));
        copied = λ m l init e. ap (λ xs. slice_get xs m) unit.array_bytes ∙ got_mapped (λ (q : LiteralTree). q.bytes) p.array_literals m l e;
      }

      statements_stand : StatementsStand k (tree.first_variable + tree.parameters) tree.body
      statements_stand =
          let own = facts.functions f tree is in
          all_fit k laid_at declarators_are (tree.first_variable + tree.parameters) false false None tree.body (parameters_of tree) [] [] (tree.first_variable + tree.parameters) own.typed own.plain (omega arith) own.numbered own.kept
          body_there

    -- A function of the program stands in its unit.
    pub function_stands : FunctionStands p u f tree
    function_stands = record {
      graph = graph_of p tree (f == p.main);
      again = is_again p tree;
      top = block_count p tree (f == p.main);
      is = graph_is p u unit f tree is;
      there = is;
      small = are_small p facts;
      typed = (facts.functions f tree is).typed;
      part = closing_of p f tree;
      lawful = is_lawful p u facts unit f tree is;
      out = laid_out p u facts unit f tree is;
      places = body_are p u f tree is facts.ascend;
      fit = statements_stand;
      stands = body_stands p u f tree is facts.ascend;
      closes = close_begins p u f tree is facts.ascend;
      main_is = main_gives p facts f tree is;
      entry = entry_stands p facts f tree is;
    }

  -- So does each.
  pub functions_are : FunctionsAre p u
  functions_are f tree is = function_is p u f tree (function_stands f tree is)

-- The unit of a well-formed program does what the program does.
pub does_program : (p : ProgramTree) (u : UnitForm) → IsWellFormed p → IsUnitOf p u → DoesProgram p u
does_program p u well unit =
    let facts = facts_of p well in
    program_does p u (functions_are p u facts unit) (main_is_there p u (main_stands p u facts unit (function_stands p u facts unit)))
