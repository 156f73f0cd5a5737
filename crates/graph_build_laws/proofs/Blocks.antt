-- A function's graph has as many blocks as its labels are reckoned with, and three at most for each unit of its weight.
use Rattle.std.proofs.Common.{◌≡◌, ℕ, ◌+◌, ◌*◌, ◌≤◌, Bool, true, false, Option, Some, None, List, [], ◌∷◌, ◌++◌, length, reverse, refl, arith}
use Rattle.std.proofs.lemmas.List.{length-append, length-reverse}
use Rattle.c_tree.specs.Programs.{TypedFunctionTree, ProgramTree}
use Rattle.c_type_laws.specs.Nodes.{statements_nodes}
use Rattle.c_places.specs.Places.{parameters_of}
use Rattle.c_flow.specs.Flow.{start_of_all, ways_of_body}
use Rattle.graph_core.specs.Graphs as unit
use Rattle.graph_core.specs.Graphs.{Block}
use Rattle.graph_build_names.specs.Names.{Names, scalar_of}
use Rattle.graph_build_steps.specs.Drafts.{Made}
use Rattle.graph_build_statements.specs.Coding.{Coding, Part, going, placed_at}
use Rattle.graph_build.specs.Units.{note_if, note_parameters, add_close, body_part, function_part, blocks_in, coding_of, is_again, block_count, function_coding, graph_of}
use Rattle.graph_build_laws.proofs.BlockCounts.{part_blocks, statements_blocks}
use Rattle.graph_build_laws.proofs.SameSizes.{in_graph_of, SameSize, statements_size}

-- as many blocks as a part has
pub blocks_length : (c : Coding) (part : Part) → length (blocks_in c part) ≡ part_blocks part
blocks_length c part = omega (arith, length-append part.placed (reverse part.inner), length-reverse part.inner)

note_size : (n : Names) (o : Option ℕ) (m : Made) → length (note_if n o m).inner ≡ length m.inner
note_size n None m = refl
note_size n (Some x) m = refl

notes_size : (n : Names) (all : List ℕ) (m : Made) → length (note_parameters n all m).inner ≡ length m.inner
notes_size n [] m = refl
notes_size n (x ∷ more) m = omega (arith, note_size n (scalar_of n x) (note_parameters n more m), notes_size n more m)

led_size : (c : Coding) (next : Option ℕ) (inner : List Block) → length (going c next inner).inner ≡ length inner
led_size c None inner = refl
led_size c (Some at) inner = refl

close_size : (c : Coding) (k : ℕ) (is_main : Bool) (closing : Option ℕ) → SameSize (add_close c is_main closing (record { placed = []; inner = [] })) (add_close (in_graph_of k c) is_main closing (record { placed = []; inner = [] }))
close_size c k is_main None = (refl, refl)
close_size c k is_main (Some at) = (refl, refl)

function_size : (c : Coding) (k : ℕ) (f : TypedFunctionTree) (is_main : Bool) → SameSize (function_part c f is_main) (function_part (in_graph_of k c) f is_main)
function_size c k f is_main =
    let d = in_graph_of k c in
    let ways = ways_of_body f in
    let empty : Part = record { placed = []; inner = [] } in
    let a = body_part c f is_main in let b = body_part d f is_main in
    let body = statements_size c k f.body c.scalars ways (add_close c is_main ways.next empty) (add_close d is_main ways.next empty) (close_size c k is_main ways.next) in
    let to = start_of_all f.body ways.next in
    (omega (arith, body.0), omega (arith, body.1, notes_size c.names (parameters_of f) (going c to a.inner), notes_size c.names (parameters_of f) (going d to b.inner), led_size c to a.inner, led_size d to b.inner))

-- The graph of a function has the number of blocks with which its labels are reckoned.
pub blocks_counted : (p : ProgramTree) (f : TypedFunctionTree) (is_main : Bool) → length (graph_of p f is_main).blocks ≡ block_count p f is_main
blocks_counted p f is_main =
    let c = function_coding p f is_main in let d = coding_of p f (is_again p f) 0 in
    let s = function_size c 0 f is_main in
    omega (arith, blocks_length c (function_part c f is_main), blocks_length d (function_part d f is_main), s.0, s.1)

close_blocks : (c : Coding) (is_main : Bool) (closing : Option ℕ) → part_blocks (add_close c is_main closing (record { placed = []; inner = [] })) ≤ 1
close_blocks c is_main None = omega arith
close_blocks c is_main (Some at) = omega arith

-- It has at most three blocks for each unit of the function's weight.
pub blocks_within : (p : ProgramTree) (f : TypedFunctionTree) (is_main : Bool) → 2 + f.parameters + statements_nodes f.body ≤ f.weight → length (graph_of p f is_main).blocks ≤ 3 * f.weight
blocks_within p f is_main h =
    let c = function_coding p f is_main in
    let ways = ways_of_body f in
    let closing = add_close c is_main ways.next (record { placed = []; inner = [] }) in
    let body = body_part c f is_main in
    let to = start_of_all f.body ways.next in
    omega (arith, blocks_length c (function_part c f is_main), notes_size c.names (parameters_of f) (going c to body.inner), led_size c to body.inner, statements_blocks c f.body c.scalars ways closing, close_blocks c is_main ways.next, h)
