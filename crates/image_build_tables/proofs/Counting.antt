-- How many instructions stand before a block, where places begin, and the addresses of the words that write homes.
use Rattle.std.proofs.Common.{◌≡◌, ◌+◌, ℕ, zero, suc, List, [], ◌∷◌, ◌++◌, Option, Some, None, get_or, length, map, option_map, slice_get, refl, sym, ap, ◌∙◌, append_assoc, arith}
use Rattle.std.specs.Prelude.{min, option_and_then}
use Rattle.std.proofs.lemmas.Option.{same_Some}
use Rattle.std.proofs.lemmas.List.{length-map}
use Rattle.graph_core.specs.declared.block.Block as declared-block
use Rattle.graph_core.specs.declared.graph.Graph as declared-graph
use Rattle.graph_core.specs.Graphs.{Graph, block_view, graph_view, instruction_view}
use Rattle.rv_emit_tables.specs.declared.emitted.EmittedFunction.{EmittedFunction}
use Rattle.rv_emit_tables.specs.declared.emitted.PlacedStop.{PlacedStop}
use Rattle.rv_emit_tables.specs.Emitted.{function_view}
use Rattle.image_build_tables.specs.Variables.{bounded_count}
use Rattle.image_build_tables.proofs.Ahead.{behind_first}
use Rattle.places.specs.declared.table.PlaceRow.{PlaceRow}
use Rattle.image_build_tables.specs.Places.{addresses_from, addresses_of, stop_addresses}
use Rattle.image_build_tables.specs.Rows.{firsts_from, instruction_number}
use Rattle.image_build_tables.proofs.Growing.{firsts_seen}

-- what is added as far as numbers go is the sum as far as they go
pub counted_sum : (added sum number n m : ℕ) → added ≡ min (n + number) 4294967295 → n ≡ bounded_count sum → number ≡ bounded_count m → added ≡ bounded_count (sum + m)
counted_sum added sum number n m is one other = omega (arith, is, one, other)

pub block_length : (b : declared-block.Block) → length b.instructions.items ≡ length (block_view b).instructions
block_length b = sym (length-map b.instructions.items instruction_view)

-- how many stand before a block is behind those of the blocks before it
pub before_step : (blocks : List declared-block.Block) (b : declared-block.Block) (counts pushed firsts : List ℕ) (count sum : ℕ) → b ∷ behind_first blocks ≡ blocks → pushed ≡ counts ++ (count ∷ []) → count ≡ bounded_count sum
    → counts ++ firsts_from sum (map block_view blocks) ≡ firsts → pushed ++ firsts_from (sum + length (block_view b).instructions) (map block_view (behind_first blocks)) ≡ firsts
before_step blocks b counts pushed firsts count sum whole push is told =
    let rest = firsts_from (sum + length (block_view b).instructions) (map block_view (behind_first blocks)) in
    ap (λ l. l ++ rest) push ∙ append_assoc counts (count ∷ []) rest ∙ ap (λ n. counts ++ (n ∷ rest)) is ∙ ap (λ bs. counts ++ firsts_from sum (map block_view bs)) whole ∙ told

-- where places stand, with the tables that are made first
pub places_begin : (codes : List EmittedFunction) (stops : List PlacedStop) (rows : List PlaceRow) (table : List ℕ) → table ≡ stop_addresses stops (length rows + 1)
    → addresses_from 1 (map (λ (c : EmittedFunction). c.first) codes) table rows ≡ addresses_of (map function_view codes) stops rows
places_begin codes stops rows table is = (λ i. addresses_from 1 (firsts_seen codes i) (is i) rows)

-- what stands before each block of a graph is told of the graph that is seen
there : (graphs : List declared-graph.Graph) (f block : ℕ)
    → option_map (λ (firsts : List ℕ). get_or firsts block 0) (slice_get (map (λ (g : declared-graph.Graph). firsts_from 0 (map block_view g.blocks.items)) graphs) f)
    ≡ option_map (λ (g : Graph). get_or (firsts_from 0 g.blocks) block 0) (slice_get (map graph_view graphs) f)
there [] f block = refl
there (g ∷ graphs) zero block = refl
there (g ∷ graphs) (suc f) block = there graphs f block

pub firsts_there : (graphs : List declared-graph.Graph) (known : List (List ℕ)) (f block : ℕ) → known ≡ map (λ (g : declared-graph.Graph). firsts_from 0 (map block_view g.blocks.items)) graphs
    → option_map (λ (firsts : List ℕ). get_or firsts block 0) (slice_get known f) ≡ option_map (λ (g : Graph). get_or (firsts_from 0 g.blocks) block 0) (slice_get (map graph_view graphs) f)
firsts_there graphs known f block is = ap (λ l. option_map (λ (firsts : List ℕ). get_or firsts block 0) (slice_get l f)) is ∙ there graphs f block

-- the number of an instruction
pub number_sum : (number sum n index : ℕ) → number ≡ bounded_count sum → sum ≡ min (n + index) 18446744073709551615 → number ≡ min (n + index) 4294967295
number_sum number sum n index is added = omega (arith, is, added)

-- where a graph is none, no word writes a home of its function
pub none_writes : (o : Option Graph) (block : ℕ) (of : Graph → Option ℕ) (first : Option ℕ) → first ≡ option_map (λ (g : Graph). get_or (firsts_from 0 g.blocks) block 0) o → first ≡ None → None ≡ option_and_then of o
none_writes None block of first is none = refl
none_writes (Some g) block of first is none = let both : Some (get_or (firsts_from 0 g.blocks) block 0) ≡ None = sym is ∙ none in absurd (cc)

-- where it is there, the word is found by the number of the instruction
pub some_writes : (o : Option Graph) (block index : ℕ) (of : ℕ → Option ℕ) (first : Option ℕ) (n k : ℕ) → first ≡ option_map (λ (g : Graph). get_or (firsts_from 0 g.blocks) block 0) o → first ≡ Some n
    → k ≡ min (n + index) 4294967295 → of k ≡ option_and_then (λ (g : Graph). of (instruction_number g block index)) o
some_writes None block index of first n k is some sum = let both : None ≡ Some n = sym is ∙ some in absurd (cc)
some_writes (Some g) block index of first n k is some sum = ap of (sum ∙ ap (λ m. min (m + index) 4294967295) (same_Some n (get_or (firsts_from 0 g.blocks) block 0) (sym some ∙ is)))
