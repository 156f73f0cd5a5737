-- Where a function begins, its beginning stands in front of its first block; and where it ends, its end stands.
use Rattle.std.proofs.Common.{◌≡◌, ℕ, ◌+◌, ◌<◌, zero, suc, sym, ap, ◌∙◌, subst, refl, Option, Some, None, false, List, [], ◌∷◌, length, map, slice_get}
use Rattle.std.specs.Prelude.{◌==◌, option_map, option_and_then}
use Rattle.graph_core.specs.declared.value.Value.{Value}
use Rattle.graph_core.specs.Graphs.{Block, Graph}
use Rattle.graph_core.specs.Memory.{Memory}
use Rattle.graph_core.specs.Runs.{Activation, begun, enter}
use Rattle.graph_core.specs.Validity.{IsValid, IsKept, KeepsPlace}
use Rattle.graph_homes.specs.Homed.{HomedForm, placed_graph, placed_block, over_homes}
use Rattle.rv_emit_tables.specs.Emitted.{EmittedForm}
use Rattle.rv_emit_storage.specs.Storages.{home_at}
use Rattle.rv_emit_steps.specs.Programs.{CodeAt}
use Rattle.rv_emit_code.specs.Beginning.{beginning_code}
use Rattle.rv_emit_code.specs.Blocks.{no_code}
use Rattle.rv_emit_code.specs.Leaving.{leaving_code}
use Rattle.rv_emit_runs.specs.Placed.{PlacedAt}
use Rattle.rv_emit_runs.specs.Waiting.{FunctionCode}
use Rattle.rv_emit_runs.proofs.Grown.{beginning_there, leaving_appends}
use Rattle.rv_emit_runs.proofs.Placed.{words_alone}
use Rattle.rv_emit_runs.specs.Laid.{IsFunctionAt, IsCode}
use Rattle.rv_emit_runs.proofs.Frames.{graph_valid, over_homes_there}
use Rattle.rv_emit_runs.proofs.Rest.{program_in, codes_in, places_in, RestFrom, start_at}
use Rattle.rv_emit_runs.proofs.Tracks.{at_block, path_begins}
use Rattle.rv_emit_runs.proofs.UnitSteps.{spot_of}
pub use Rattle.base_laws.proofs.Lists.{mapped_there}

-- What stands at a number of a list that was mapped.
pub record IsOf {A B : Type 0} (f : A → B) (xs : List A) (n : ℕ) (y : B) : Type 0 where
  pub from : A
  pub there : slice_get xs n ≡ Some from
  pub is : y ≡ f from

pub of_mapped : {A B : Type 0} (f : A → B) (xs : List A) (n : ℕ) (y : B) → slice_get (map f xs) n ≡ Some y → IsOf f xs n y
of_mapped f [] n y e = cc
of_mapped f (x ∷ xs) zero y e = let same : f x ≡ y = cc in record { from = x; there = refl; is = sym same }
of_mapped f (x ∷ xs) (suc n) y e = let later = of_mapped f xs n y e in record { from = later.from; there = later.there; is = later.is }

module _ (h : HomedForm) (valid : IsValid h.unit) (e : EmittedForm) (code : IsCode h e) where
  -- The words with which a function begins, in front of its first block.
  pub begins_there : (f : ℕ) → f < length h.unit.graphs
      → CodeAt (program_in h e code) (code.arrangement.function f) false (beginning_code (codes_in h e code f).storage (codes_in h e code f).graph (codes_in h e code f).saved (codes_in h e code f).size (f == h.unit.main))
      × (code.arrangement.label f 0 ≡ code.arrangement.function f + length (beginning_code (codes_in h e code f).storage (codes_in h e code f).graph (codes_in h e code f).saved (codes_in h e code f).size (f == h.unit.main)))
  begins_there f low =
      let c : FunctionCode = codes_in h e code f in
      let at : IsFunctionAt h code.arrangement (program_in h e code) (places_in h e code f) f = code.functions f low in
      words_alone (program_in h e code) (places_in h e code f) (code.arrangement.function f) false (beginning_code c.storage c.graph c.saved c.size (f == h.unit.main)) (code.arrangement.label f 0)
      (beginning_there c.storage c.graph c.saved c.size (f == h.unit.main) (no_code c.graph.entry []) refl (program_in h e code) (places_in h e code f) (code.arrangement.function f) (code.arrangement.label f 0) at.begins)

  -- Those with which it ends.
  pub ends_there : (f : ℕ) → f < length h.unit.graphs → CodeAt (program_in h e code) (code.arrangement.label f (length (codes_in h e code f).graph.blocks)) false (leaving_code (codes_in h e code f).saved (codes_in h e code f).size)
  ends_there f low =
      let c : FunctionCode = codes_in h e code f in
      let at : IsFunctionAt h code.arrangement (program_in h e code) (places_in h e code f) f = code.functions f low in
      let end : ℕ = code.arrangement.label f (length c.graph.blocks) in
      let more = leaving_appends c.saved c.size (no_code 0 []) in
      (words_alone (program_in h e code) (places_in h e code f) end false (leaving_code c.saved c.size) at.behind
      (more.there (program_in h e code) (places_in h e code f) end at.behind (subst (λ l. PlacedAt (program_in h e code) (places_in h e code f) end l at.behind) more.is at.ends))).0

  -- The first block, which an activation that begins has before it.
  pub record FirstBlock (f : ℕ) : Type 0 where
    pub block : Block
    pub there : slice_get (codes_in h e code f).graph.blocks 0 ≡ Some block
    pub keeps : KeepsPlace block.instructions (Some (codes_in h e code f).graph.entry) block.place

  pub first_block : (f : ℕ) → f < length h.unit.graphs → FirstBlock f
  first_block f low = by_found (slice_get (codes_in h e code f).graph.blocks 0) refl (graph_valid h.unit valid f low).begins
    where
      by_found : (found : Option Block) → slice_get (codes_in h e code f).graph.blocks 0 ≡ found → IsKept (Some (codes_in h e code f).graph.entry) found → FirstBlock f
      by_found None is kept = absurd kept
      by_found (Some b) is kept = record { block = b; there = is; keeps = kept }

  pub block_over_homes : (f : ℕ) (low : f < length h.unit.graphs)
      → slice_get (placed_graph (home_at (codes_in h e code f).storage) (codes_in h e code f).graph).blocks 0 ≡ Some (placed_block (home_at (codes_in h e code f).storage) (first_block f low).block)
  block_over_homes f low = mapped_there (placed_block (home_at (codes_in h e code f).storage)) (codes_in h e code f).graph.blocks 0 (first_block f low).block (first_block f low).there

  -- An activation that begins has all of it left.
  pub activation_begins : (f : ℕ) (low : f < length h.unit.graphs) (memory : Memory) (input : List ℕ) (vs : List Value) (waiting : List Activation)
      → RestFrom h e code (at_block f 0 (first_block f low).block []) (spot_of (begun memory input f vs waiting (placed_graph (home_at (codes_in h e code f).storage) (codes_in h e code f).graph) (placed_block (home_at (codes_in h e code f).storage) (first_block f low).block)).here) (code.arrangement.label f 0) [] false
  activation_begins f low memory input vs waiting =
      let first = first_block f low in
      subst (λ l. RestFrom h e code (at_block f 0 first.block []) (spot_of (begun memory input f vs waiting (placed_graph (home_at (codes_in h e code f).storage) (codes_in h e code f).graph) (placed_block (home_at (codes_in h e code f).storage) first.block)).here) (code.arrangement.label f 0) l false)
      (code.functions f low).first (start_at h e code f 0 (codes_in h e code f).graph.entry first.block low first.there first.keeps [] (path_begins (codes_in h e code f).graph first.block first.there) refl)

  -- The unit over homes begins it.
  pub enters_over_homes : (f : ℕ) (low : f < length h.unit.graphs) (memory : Memory) (input : List ℕ) (vs : List Value) (waiting : List Activation)
      → enter (over_homes h) memory input f vs waiting
      ≡ Some (begun memory input f vs waiting (placed_graph (home_at (codes_in h e code f).storage) (codes_in h e code f).graph) (placed_block (home_at (codes_in h e code f).storage) (first_block f low).block))
  enters_over_homes f low memory input vs waiting =
      ap (λ o. option_and_then (λ (g : Graph). option_map (begun memory input f vs waiting g) (slice_get g.blocks 0)) o) (over_homes_there h code.arrangement f low)
      ∙ ap (λ o. option_map (begun memory input f vs waiting (placed_graph (home_at (codes_in h e code f).storage) (codes_in h e code f).graph)) o) (block_over_homes f low)
