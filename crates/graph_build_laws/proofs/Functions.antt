-- The graph of a function has at most two counted instructions for each unit of its weight.
use Rattle.std.proofs.Common.{◌≡◌, ℕ, ◌+◌, ◌*◌, ◌≤◌, Bool, true, false, Option, Some, None, List, [], ◌∷◌, ◌++◌, length, reverse, refl, sym, ap, ◌∙◌, subst, arith}
use Rattle.std.proofs.lemmas.List.{reverse-append}
use Rattle.c_tree.specs.Programs.{TypedFunctionTree, ProgramTree}
use Rattle.c_places.specs.Places.{parameters_of}
use Rattle.c_flow.specs.Flow.{start_of_all, ways_of_body}
use Rattle.graph_core.specs.Graphs as unit
use Rattle.graph_core.specs.Graphs.{Block}
use Rattle.graph_core.specs.Validity.{total, counts, instructions_of}
use Rattle.graph_build_names.specs.Names.{Names, scalar_of}
use Rattle.graph_build_steps.specs.Drafts.{Made, ending}
use Rattle.graph_build_laws.specs.Sizes.{counted, made_counts}
use Rattle.c_type_laws.specs.Weighing.{weighed_statements, IsWeighed}
use Rattle.graph_build_statements.specs.Coding.{Coding, Part, going, placed_at}
use Rattle.graph_build.specs.Units.{note_if, note_parameters, add_close, body_part, function_part, blocks_in, coding_of, is_again, block_count, function_coding, graph_of}
use Rattle.graph_build_laws.proofs.Written.{NamesFew}
use Rattle.graph_build_laws.proofs.Pieces.{total_append}
use Rattle.graph_build_laws.proofs.Statements.{part_counts, statements_most}
use Rattle.graph_build_laws.proofs.Scalars.{names_few}

-- sums over lists that are put together, or turned round
pub total_both : {A : Type 0} (f : A → ℕ) (xs ys : List A) → total f (xs ++ ys) ≡ total f xs + total f ys
total_both f [] ys = omega arith
total_both f (x ∷ xs) ys = omega (arith, total_both f xs ys)

pub total_reversed : {A : Type 0} (f : A → ℕ) (xs : List A) → total f (reverse xs) ≡ total f xs
total_reversed f [] = refl
total_reversed f (x ∷ xs) =
    let turned : total f (reverse (x ∷ xs)) ≡ total f (reverse xs ++ x ∷ []) = ap (total f) (reverse-append (x ∷ []) xs) in
    omega (arith, turned, total_append f (reverse xs) x, total_reversed f xs)

pub blocks_counts : (c : Coding) (part : Part) → counted (blocks_in c part) ≡ part_counts part
blocks_counts c part =
    let f : Block → ℕ = λ (b : Block). total counts b.instructions in
    omega (arith, total_both f part.placed (reverse part.inner), total_reversed f part.inner)

note_counts : (n : Names) (o : Option ℕ) (m : Made) → made_counts (note_if n o m) ≡ made_counts m
note_counts n None m = refl
note_counts n (Some x) m = omega arith

notes_counts : (n : Names) (all : List ℕ) (m : Made) → made_counts (note_parameters n all m) ≡ made_counts m
notes_counts n [] m = refl
notes_counts n (x ∷ more) m = note_counts n (scalar_of n x) (note_parameters n more m) ∙ notes_counts n more m

module _ (c : Coding) where
  close_counts : (is_main : Bool) (closing : Option ℕ) (part : Part) → part_counts (add_close c is_main closing part) ≡ part_counts part
  close_counts is_main None part = refl
  close_counts is_main (Some at) part = omega arith

  led_counts : (next : Option ℕ) (inner : List Block) → made_counts (going c next inner) ≡ counted inner
  led_counts None inner = omega arith
  led_counts (Some at) inner = omega arith

  pub function_most : NamesFew c.names c.scalars → (f : TypedFunctionTree) (is_main : Bool) → part_counts (function_part c f is_main) ≤ 2 * weighed_statements f.body
  function_most few f is_main =
      let next = (ways_of_body f).next in
      let closing = add_close c is_main next (record { placed = []; inner = [] }) in
      let body = body_part c f is_main in
      let start = start_of_all f.body next in
      omega (arith, notes_counts c.names (parameters_of f) (going c start body.inner), led_counts start body.inner, statements_most c few f.body c.scalars (ways_of_body f) closing (omega arith), close_counts is_main next (record { placed = []; inner = [] }))

-- The graph of a function has at most two counted instructions for each unit of its weight.
pub instructions_within : (p : ProgramTree) (f : TypedFunctionTree) (is_main : Bool) → IsWeighed f → instructions_of (graph_of p f is_main) ≤ 2 * f.weight
instructions_within p f is_main h =
    let c = function_coding p f is_main in
    omega (arith, blocks_counts c (function_part c f is_main), function_most c (names_few p f (is_again p f)) f is_main, h)
