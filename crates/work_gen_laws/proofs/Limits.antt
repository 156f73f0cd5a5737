-- A program with at most 400 statements keeps the limits.
use Rattle.std.proofs.Common.{◌≡◌, ℕ, ◌+◌, ◌*◌, ◌≤◌, List, [], ◌∷◌, length, false, Option, None, Result, Ok, Err, refl, sym, ap, ◌∙◌, arith}
use Rattle.std.specs.Prelude.{nat_lt}
use Rattle.c_token.specs.Lexemes.{Lexeme}
use Rattle.c_tree.specs.Programs.{AutomaticTree, ProgramTree}
use Rattle.debug_records.specs.declared.code.Code.{Code}
use Rattle.c_tree.specs.Statements.{StatementTrees}
use Rattle.c_tree.specs.Statements as tree
use Rattle.c_tree.specs.TypedStatements.{TypedStatementTrees}
use Rattle.c_tree.specs.TypedStatements as typed
use Rattle.c_places.specs.Memory.{kept_by_all}
use Rattle.c_type_bounds.specs.Counts.{capped}
use Rattle.c_type_bounds.specs.Weights.{statement_weight, statements_weight, definition_weight, items_weight}
use Rattle.c_type_bounds.specs.Visible.{visible_pairs, at_statements, at_functions}
use Rattle.c_type_bounds.specs.Bounds.{with_all_in_memory, with_kept, function_breach, or_breach, behind_function, behind_functions}
use Rattle.c_type_bounds.proofs.PlacesCounted.{pairs_counted}
use Rattle.base_laws.proofs.Numbers.{not_before}
use Rattle.work_gen_laws.specs.Drawn.{Letter, Side, Only, Operation, Drawn}
use Rattle.work_gen_laws.specs.Pieces.{end_of, tokens_along, line_pieces}
use Rattle.work_gen_laws.specs.Trees.{assigned_tree, lines_before, step_tree}
use Rattle.work_gen_laws.proofs.Typing.{typed_line, typed_before}
use Rattle.work_gen_laws.proofs.Blocks.{typed_step}
use Rattle.work_gen_laws.proofs.Functions.{Tokens, five, typed_main, main_block, items_tree}

-- ---- weights

assigned_weight : (ts : List Lexeme) (t : Letter) (s : Side) → statement_weight (assigned_tree ts t s) ≤ 6
assigned_weight ts t (Only l) = omega arith
assigned_weight ts t (Operation o l m) = omega arith

lines_weight : (text : List ℕ) (ds : List Drawn) (at : ℕ) (more : StatementTrees) → statements_weight (lines_before text at ds more) ≤ 6 * length ds + statements_weight more
lines_weight text [] at more = omega arith
lines_weight text (d ∷ ds) at more =
    let here = assigned_weight (tokens_along text at (line_pieces d)) d.target d.side in
    let others = lines_weight text ds (end_of at (line_pieces d)) more in
    omega (arith, here, others)

-- ---- variables in memory

side_keeps : (t : Letter) (s : Side) (ts : List Lexeme) (ks : List ℕ) (more : TypedStatementTrees) → kept_by_all (typed.first (typed_line ts t s) more) ks ≡ kept_by_all more ks
side_keeps t (Only l) ts ks more = refl
side_keeps t (Operation o l m) ts ks more = refl

lines_keep : (text : List ℕ) (ds : List Drawn) (at : ℕ) (more : TypedStatementTrees) (ks : List ℕ) → kept_by_all (typed_before text at ds more) ks ≡ kept_by_all more ks
lines_keep text [] at more ks = refl
lines_keep text (d ∷ ds) at more ks =
    side_keeps d.target d.side (tokens_along text at (line_pieces d)) ks (typed_before text (end_of at (line_pieces d)) ds more) ∙ lines_keep text ds (end_of at (line_pieces d)) more ks

-- ---- places

lines_see : (all : List AutomaticTree) (text : List ℕ) (ds : List Drawn) (at : ℕ) (more : TypedStatementTrees) (names : List (List ℕ)) → length names ≡ 5
    → at_statements all (typed_before text at ds more) names ≡ 5 * length ds + at_statements all more names
lines_see all text [] at more names e = omega arith
lines_see all text (d ∷ ds) at more names e = omega (arith, e, lines_see all text ds (end_of at (line_pieces d)) more names e)

module _ (text : List ℕ) (t : Tokens) (ds : List Drawn) where
  abbrev variables : List AutomaticTree
  variables = five t.variables t.counter

  weighs : length ds ≤ 400 → definition_weight [] (main_block text t ds) ≤ 3000
  weighs few =
      let inner = lines_weight text ds 86 (tree.first (step_tree t.step) tree.none) in
      omega (arith, inner, few)

  function_light : length ds ≤ 400 → nat_lt 3000 (typed_main text t ds).weight ≡ false
  function_light few =
      let h = weighs few in
      not_before 3000 (typed_main text t ds).weight (omega (arith, h))

  pub program_light : length ds ≤ 400 → nat_lt 40000 (capped (items_weight (items_tree text t ds))) ≡ false
  program_light few =
      let h = weighs few in
      not_before 40000 (capped (items_weight (items_tree text t ds))) (omega (arith, h))

  keeps_none : with_kept (typed_main text t ds) variables ≡ variables
  keeps_none = ap (λ (ks : List ℕ). with_all_in_memory ks variables) (lines_keep text ds 86 (typed.first (typed_step t.step) typed.none) [])

  no_breach : length ds ≤ 400 → function_breach 0 (typed_main text t ds) variables ≡ None
  no_breach few = let light = function_light few in rw light refl

  one_behind : length ds ≤ 400 → behind_function 0 (typed_main text t ds) variables ≡ Ok variables
  one_behind few =
      let none = no_breach few in
      ap (λ (vs : List AutomaticTree). or_breach (function_breach 0 (typed_main text t ds) vs) (typed_main text t ds).spot.line vs) keeps_none
      ∙ ap (λ (o : Option Code). or_breach o (typed_main text t ds).spot.line variables) none

  pub all_behind : length ds ≤ 400 → behind_functions 0 (typed_main text t ds ∷ []) variables ≡ Ok variables
  all_behind few =
      ap (λ (r : Result (List AutomaticTree) (Code × ℕ)). elim r [ Ok ws ↦ behind_functions 1 [] ws | Err e ↦ Err e ]) (one_behind few)

  sees : length ds ≤ 400 → at_functions variables (typed_main text t ds ∷ []) ≤ 1000000
  sees few =
      let names = (97 ∷ []) ∷ (98 ∷ []) ∷ (99 ∷ []) ∷ (100 ∷ []) ∷ (105 ∷ []) ∷ [] in
      let inner = lines_see variables text ds 86 (typed.first (typed_step t.step) typed.none) names refl in
      omega (arith, inner, few)

  pub pairs_few : (p : ProgramTree) → p.automatics ≡ variables → p.functions ≡ typed_main text t ds ∷ [] → length ds ≤ 400 → nat_lt 1000000 (visible_pairs p) ≡ false
  pairs_few p vs fs few =
      let seen = sees few in
      let same : visible_pairs p ≡ at_functions variables (typed_main text t ds ∷ []) =
      sym (pairs_counted p) ∙ ap (λ (all : List AutomaticTree). at_functions all p.functions) vs ∙ ap (at_functions variables) fs in
      not_before 1000000 (visible_pairs p) (omega (arith, seen, same))
