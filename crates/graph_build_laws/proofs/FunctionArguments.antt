-- The calls of a function's graph pass no more arguments than the function weighs.
use Rattle.std.proofs.Common.{◌≡◌, ℕ, ◌+◌, ◌≤◌, Bool, Option, Some, None, List, [], ◌∷◌, reverse, refl, arith}
use Rattle.c_tree.specs.Programs.{TypedFunctionTree, ProgramTree}
use Rattle.c_type_laws.specs.Nodes.{statements_nodes}
use Rattle.c_places.specs.Places.{parameters_of}
use Rattle.c_flow.specs.Flow.{start_of_all, ways_of_body}
use Rattle.graph_core.specs.Graphs.{Block}
use Rattle.graph_core.specs.Validity.{total, arguments_in, arguments_of}
use Rattle.graph_build_names.specs.Names.{Names, scalar_of}
use Rattle.graph_build_steps.specs.Drafts.{Made}
use Rattle.graph_build_statements.specs.Coding.{Coding, Part, going}
use Rattle.graph_build.specs.Units.{note_if, note_parameters, add_close, body_part, function_part, blocks_in, function_coding, graph_of}
use Rattle.graph_build_laws.proofs.Functions.{total_both, total_reversed}
use Rattle.graph_build_laws.proofs.ArgumentPieces.{passed_in, made_arguments}
use Rattle.graph_build_laws.proofs.ArgumentCounts.{part_arguments, statements_arguments}

blocks_pass : (c : Coding) (part : Part) → passed_in (blocks_in c part) ≡ part_arguments part
blocks_pass c part =
    let f : Block → ℕ = λ (b : Block). total arguments_in b.instructions in
    omega (arith, total_both f part.placed (reverse part.inner), total_reversed f part.inner)

note_passes : (n : Names) (o : Option ℕ) (m : Made) → made_arguments (note_if n o m) ≡ made_arguments m
note_passes n None m = refl
note_passes n (Some x) m = omega arith

notes_pass : (n : Names) (all : List ℕ) (m : Made) → made_arguments (note_parameters n all m) ≡ made_arguments m
notes_pass n [] m = refl
notes_pass n (x ∷ more) m = omega (arith, note_passes n (scalar_of n x) (note_parameters n more m), notes_pass n more m)

led_passes : (c : Coding) (next : Option ℕ) (inner : List Block) → made_arguments (going c next inner) ≡ passed_in inner
led_passes c None inner = omega arith
led_passes c (Some at) inner = omega arith

close_passes : (c : Coding) (is_main : Bool) (closing : Option ℕ) → part_arguments (add_close c is_main closing (record { placed = []; inner = [] })) ≡ 0
close_passes c is_main None = omega arith
close_passes c is_main (Some at) = omega arith

pub arguments_within : (p : ProgramTree) (f : TypedFunctionTree) (is_main : Bool) → 2 + f.parameters + statements_nodes f.body ≤ f.weight → arguments_of (graph_of p f is_main) ≤ f.weight
arguments_within p f is_main h =
    let c = function_coding p f is_main in
    let ways = ways_of_body f in
    let closing = add_close c is_main ways.next (record { placed = []; inner = [] }) in
    let body = body_part c f is_main in
    let to = start_of_all f.body ways.next in
    omega (arith, blocks_pass c (function_part c f is_main), notes_pass c.names (parameters_of f) (going c to body.inner), led_passes c to body.inner, statements_arguments c f.body c.scalars ways closing, close_passes c is_main ways.next, h)
