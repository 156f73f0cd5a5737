-- The check of the tree of a generated program gives a program.
use Rattle.std.proofs.Common.{◌≡◌, ℕ, ◌≤◌, List, [], ◌∷◌, length, Option, None, Result, Ok, Err, refl, ap, ◌∙◌}
use Rattle.std.specs.Option.{option_map_or}
use Rattle.debug_records.specs.declared.code.Code.{Code}
use Rattle.c_tree.specs.Programs.{AutomaticTree, TypedFunctionTree, ProgramTree}
use Rattle.c_type_bounds.specs.Bounds.{behind_functions, program_breach}
use Rattle.c_type_declarations.specs.Progress.{ProgressTree, Met, means, scope_left}
use Rattle.c_type.specs.Programs.{Refusal, names_refusal, unless_refused, within_function_limits, within_program_limits, program_of, accepted, checked}
use Rattle.work_gen_laws.specs.Drawn.{Drawn}
use Rattle.work_gen_laws.specs.Pieces.{end_of, tokens_along, lines_pieces, include_line, main_line, variables_line, counter_line, loop_line}
use Rattle.work_gen_laws.specs.Trees.{spot, step_tokens, loop_end_tokens, output_tokens, return_tokens, main_end_tokens, program_tree}
use Rattle.work_gen_laws.proofs.Functions.{Tokens, five, typed_main, items_tree, after_counter, source_is, found_nothing, five_declared, no_statics, no_array_literals}
use Rattle.work_gen_laws.proofs.Limits.{program_light, all_behind, pairs_few}

module _ (text : List ℕ) (t : Tokens) (ds : List Drawn) where
  -- how far its check comes
  abbrev last : ProgressTree
  last = scope_left (after_counter t.include t.variables t.counter)

  no_fault : names_refusal (items_tree text t ds) last ≡ None
  no_fault = let found = found_nothing t.include t.variables t.counter in rw found refl

  -- its program
  abbrev program : ProgramTree
  program = program_of (items_tree text t ds) (typed_main text t ds ∷ []) last (five t.variables t.counter)

  no_breach : length ds ≤ 400 → program_breach program ≡ None
  no_breach few =
      let light = program_light text t ds few in
      let found = found_nothing t.include t.variables t.counter in
      let statics = no_statics t.include t.variables t.counter in
      let literals = no_array_literals t.include t.variables t.counter in
      let pairs = pairs_few text t ds program refl refl few in
      rw (light, pairs, found, statics, literals) refl

  within : length ds ≤ 400 → within_function_limits (items_tree text t ds) (typed_main text t ds ∷ []) last ≡ Ok program
  within few =
      let five = five_declared t.include t.variables t.counter in
      let all = all_behind text t ds few in
      let breach = no_breach few in
      ap (λ (vs : List AutomaticTree). elim (behind_functions 0 (typed_main text t ds ∷ []) vs) [ Ok ws ↦ within_program_limits (program_of (items_tree text t ds) (typed_main text t ds ∷ []) last ws) | Err r ↦ Err r ]) five
      ∙ ap (λ (r : Result (List AutomaticTree) Refusal). elim r [ Ok ws ↦ within_program_limits (program_of (items_tree text t ds) (typed_main text t ds ∷ []) last ws) | Err r ↦ Err r ]) all
      ∙ ap (λ (o : Option Code). option_map_or (λ code. Err (code, 1)) o (Ok program)) breach

  accepted_is : length ds ≤ 400 → accepted (items_tree text t ds) (typed_main text t ds ∷ []) last ≡ Ok program
  accepted_is few =
      ap (λ (o : Option Refusal). unless_refused o (within_function_limits (items_tree text t ds) (typed_main text t ds ∷ []) last)) no_fault ∙ within few

  checked_of : length ds ≤ 400 → checked (items_tree text t ds) ≡ Ok program
  checked_of few =
      ap (λ (m : Met (List TypedFunctionTree)). elim m [ means fs p ↦ accepted (items_tree text t ds) fs p ]) (source_is text t ds) ∙ accepted_is few

-- the tokens of its lines, in a text
abbrev tokens_in : List ℕ → List Drawn → Tokens
tokens_in text ds =
    let e = end_of 86 (lines_pieces ds) in
    record { include = spot (tokens_along text 0 include_line) 0; main = tokens_along text 19 main_line; variables = tokens_along text 35 variables_line; counter = tokens_along text 65 counter_line; loop = tokens_along text 74 loop_line; step = step_tokens text e; loop_end = loop_end_tokens text e; output = output_tokens text e; return = return_tokens text e; main_end = main_end_tokens text e }

-- The tree of a program with at most 400 such statements keeps the rules of names, of types and of limits.
pub tree_checks : (text : List ℕ) (ds : List Drawn) → length ds ≤ 400 → (p : ProgramTree) × (checked (program_tree text ds) ≡ Ok p)
tree_checks text ds few = (program text (tokens_in text ds) ds, checked_of text (tokens_in text ds) ds few)
