-- The graph of a function, put together from its parts.
use Rattle.std.proofs.Common.{◌≡◌, ℕ, ◌+◌, ◌<◌, ◌==◌, Bool, List, [], ◌∷◌, ◌++◌, length, map, drop, get_or, ap, sym, ◌∙◌, subst, append_assoc}
use Rattle.std.proofs.lemmas.List.{map-append}
use Rattle.c_tree.specs.declared.program.TypedFunction.{TypedFunction}
use Rattle.c_tree.specs.Programs.{TypedFunctionTree, ProgramTree, function_view}
use Rattle.graph_core.specs.declared.graph.Graph as declared-graph
use Rattle.graph_core.specs.Graphs.{Block, Graph, graph_view}
use Rattle.graph_build_names.specs.Names.{Names, names_of}
use Rattle.graph_build_statements.specs.Coding.{Coding}
use Rattle.graph_build.specs.Units.{names_used, blocks_in, function_part, coding_with, coding_of, is_again, block_count, function_coding, graph_in, graph_of, graphs_from}
use Rattle.base_laws.proofs.Lists.{drop_item as item_and_rest}

-- the blocks that are counted before they have their labels are as many as the function has
pub blocks_counted_by : (p : ProgramTree) (f : TypedFunctionTree) (is_main : Bool) (n : Names) (c : Coding) (blocks : List Block) (count : ℕ) → n ≡ names_of p f (is_again p f)
    → c ≡ coding_with p f n 0 → blocks ≡ blocks_in c (function_part c f is_main) → count ≡ length blocks → count ≡ block_count p f is_main
blocks_counted_by p f is_main n c blocks count named same stand number =
    let one : c ≡ coding_of p f (is_again p f) 0 = same ∙ ap (λ (k : Names). coding_with p f k 0) named in
    number ∙ ap length (stand ∙ ap (λ (k : Coding). blocks_in k (function_part k f is_main)) one)

-- the graph of code with so many blocks is the function's
pub graph_made_by : (p : ProgramTree) (f : TypedFunctionTree) (is_main : Bool) (n : Names) (c : Coding) (count : ℕ) (g : Graph) → n ≡ names_of p f (is_again p f)
    → count ≡ block_count p f is_main → c ≡ coding_with p f n count → g ≡ graph_in c.program c f is_main → g ≡ graph_of p f is_main
graph_made_by p f is_main n c count g named many same made =
    let one : c ≡ function_coding p f is_main = same ∙ ap (λ (k : Names). coding_with p f k count) named ∙ ap (λ (t : ℕ). coding_of p f (is_again p f) t) many in
    made ∙ ap (λ (k : Coding). graph_in k.program k f is_main) one

-- graphs that those of functions from a number on complete are completed, with the graph of the function of that number at their end, by those of the functions behind it
pub graphs_on : (p : ProgramTree) (items all : List TypedFunction) (n : ℕ) (f : TypedFunction) (made more : List declared-graph.Graph) (g : declared-graph.Graph) (whole : List Graph)
    → items ≡ all → n < length items → f ≡ get_or items n f → more ≡ made ++ g ∷ [] → graph_view g ≡ graph_of p (function_view f) (n == p.main)
    → map graph_view made ++ graphs_from p n (map function_view (drop n all)) ≡ whole → map graph_view more ++ graphs_from p (n + 1) (map function_view (drop (n + 1) all)) ≡ whole
graphs_on p items all n f made more g whole same lt is longer of so_far =
    let rest : List Graph = graphs_from p (n + 1) (map function_view (drop (n + 1) all)) in
    let cut : drop n all ≡ f ∷ drop (n + 1) all = item_and_rest all n f (subst (λ (l : List TypedFunction). n < length l) same lt) (is ∙ ap (λ (l : List TypedFunction). get_or l n f) same) in
    ap (λ (gs : List declared-graph.Graph). map graph_view gs ++ rest) longer ∙ ap (λ (gs : List Graph). gs ++ rest) (map-append graph_view made (g ∷ []))
    ∙ append_assoc (map graph_view made) (graph_view g ∷ []) rest ∙ ap (λ (h : Graph). map graph_view made ++ h ∷ rest) of
    ∙ sym (ap (λ (fs : List TypedFunction). map graph_view made ++ graphs_from p n (map function_view fs)) cut) ∙ so_far
