-- What is to be paid from where an activation is to the next marker: it goes down by what the activation passes.
use Rattle.std.proofs.Common.{◌≡◌, ℕ, zero, suc, ◌+◌, ◌<◌, ◌≤◌, sym, ap, ◌∙◌, arith, refl, Option, Some, None, Bool, false, List, [], ◌∷◌, ◌++◌, length, slice_get}
use Rattle.std.specs.Option.{option_map_or}
use Rattle.graph_core.specs.Graphs.{Instruction, Block, Graph}
use Rattle.graph_core.specs.Paths.{Among, is_marker}
use Rattle.graph_core.specs.Uses.{targets_of}
use Rattle.graph_core.specs.Validity.{IsBlock, IsKept, place_at_end}
use Rattle.graph_core.specs.WellMarked.{ComesToMarker}
use Rattle.graph_core_weights.specs.Costs.{Costs, state_behind, cost_of_graph}
use Rattle.graph_core_weights.proofs.Heads.{AreInside, to_pay, pays_marker, pays_on, pays_last, pays_enters, pays_within}
use Rattle.graph_homes.specs.Homed.{HomedForm}
use Rattle.rv_emit_tables.specs.Emitted.{EmittedForm}
use Rattle.rv_emit_words.specs.declared.piece.Held.{Held}
use Rattle.rv_emit_words.specs.Growing.{CodeState}
use Rattle.rv_emit_runs.specs.Laid.{IsCode}
use Rattle.rv_emit_runs.proofs.Frames.{graph_there, graph_valid}
use Rattle.rv_emit_runs.proofs.Lists.{all_at, all_among}
use Rattle.rv_emit_runs.proofs.Rest.{codes_in, known_in, first_state, RestAt, position_of}
use Rattle.rv_emit_runs.proofs.States.{growing}
use Rattle.rv_emit_runs.proofs.Tracks.{Position, passed_by, at_block, behind_all}
use Rattle.rv_emit_runs.proofs.UnitSteps.{Spot}
use Rattle.rv_emit_runs.specs.Timed.{AreTimed}
use Rattle.rv_emit_runs.proofs.Amounts.{known_of, known_is, first_of, costs_by, state_is}

state_one : {S : Type 0} (c : Costs S) (passed : List Instruction) (i : Instruction) (s : S) → state_behind c (passed ++ i ∷ []) s ≡ c.next i (state_behind c passed s)
state_one c [] i s = refl
state_one c (j ∷ passed) i s = state_one c passed i (c.next j s)

module _ (h : HomedForm) (timed : AreTimed h.unit) (e : EmittedForm) (code : IsCode h e) where
  cycles_in : (f : ℕ) → f < length h.unit.graphs → (n : ℕ) (b : Block) → slice_get (codes_in h e code f).graph.blocks n ≡ Some b → ComesToMarker (codes_in h e code f).graph b.instructions b.end
  cycles_in f low = (timed.graphs f (codes_in h e code f).graph (graph_there h.unit f low)).cycles

  kept_there : (blocks : List Block) (place : Option ℕ) (t : ℕ) → IsKept place (slice_get blocks t) → t < length blocks
  kept_there blocks place t kept = by_found (slice_get blocks t) refl kept
    where
      within : (all : List Block) (n : ℕ) (b : Block) → slice_get all n ≡ Some b → n < length all
      within [] n b is = cc
      within (c ∷ all) zero b is = omega arith
      within (c ∷ all) (suc n) b is = let later = within all n b is in omega (arith, later)

      by_found : (found : Option Block) → slice_get blocks t ≡ found → IsKept place found → t < length blocks
      by_found None is kept_so = absurd kept_so
      by_found (Some b) is kept_so = within blocks t b is

  inside_in : (f : ℕ) → f < length h.unit.graphs → AreInside (codes_in h e code f).graph
  inside_in f low l b t there among =
      let valid = all_at (IsBlock h.unit (codes_in h e code f).graph) (codes_in h e code f).graph.blocks l b (graph_valid h.unit timed.valid f low).blocks there in
      kept_there (codes_in h e code f).graph.blocks (place_at_end b) t (all_among (λ n. IsKept (place_at_end b) (slice_get (codes_in h e code f).graph.blocks n)) (targets_of b.end) t valid.edges among)

  module _ (cost : (f : ℕ) → Instruction → CodeState → ℕ) (last : (f l : ℕ) → ℕ) where
    abbrev pub counted : (f : ℕ) → Costs CodeState
    counted f = costs_by h e code f (cost f) (last f)

    -- what is to be paid from a point
    abbrev pub pay : Position → ℕ
    pay p = to_pay (counted p.function) (codes_in h e code p.function).graph p.number p.more p.end (state_behind (counted p.function) p.passed ((counted p.function).first p.number))

    module _ {x : Spot} {index : ℕ} {held : List Held} {begins : Bool} (r : RestAt h e code x index held begins) where
      first_is : first_of h e code x.function r.number ≡ first_state (known_in h e code x.function r.low) r.number r.block
      first_is = ap (λ o. option_map_or (first_state (known_of h e code x.function) r.number) o (growing [] 0 false)) r.there ∙ ap (λ k. first_state k r.number r.block) (known_is h e code x.function r.low)

      -- The state there is that of the code.
      pub now_is : state_behind (counted x.function) r.passed (first_of h e code x.function r.number) ≡ growing held r.owner begins
      now_is =
          state_is h e code x.function (cost x.function) (last x.function) r.passed (first_of h e code x.function r.number)
          ∙ ap (behind_all (codes_in h e code x.function).storage (codes_in h e code x.function).graph.entry r.passed) first_is
          ∙ sym r.track.state

      -- An instruction is passed.
      pub pay_first : (i : Instruction) (more : List Instruction) → r.more ≡ i ∷ more → cost x.function i (growing held r.owner begins) ≤ pay (position_of r)
      pay_first i more is =
          let c = counted x.function in
          let s : CodeState = state_behind c r.passed (c.first r.number) in
          let one = pays_marker c (codes_in h e code x.function).graph r.number i more r.block.end s in
          let same = ap (λ l. to_pay c (codes_in h e code x.function).graph r.number l r.block.end s) is in
          let here = ap (cost x.function i) now_is in
          omega (arith, one, same, here)

      pub pay_passed : (i : Instruction) (more : List Instruction) → r.more ≡ i ∷ more → is_marker i ≡ false
          → pay (position_of r) ≡ cost x.function i (growing held r.owner begins) + pay (passed_by (position_of r) i more)
      pay_passed i more is none =
          let c = counted x.function in
          let g : Graph = (codes_in h e code x.function).graph in
          let s : CodeState = state_behind c r.passed (c.first r.number) in
          let same = ap (λ l. to_pay c g r.number l r.block.end s) is in
          let on = pays_on c g r.number i more r.block.end s none in
          let later = ap (to_pay c g r.number more r.block.end) (state_one c r.passed i (c.first r.number)) in
          let here = ap (cost x.function i) now_is in
          omega (arith, same, on, later, here)

      -- Where nothing is left of the block, its end is.
      pub pay_end : r.more ≡ [] → last x.function r.number ≤ pay (position_of r)
      pay_end is =
          let c = counted x.function in
          let s : CodeState = state_behind c r.passed (c.first r.number) in
          let same = ap (λ l. to_pay c (codes_in h e code x.function).graph r.number l r.block.end s) is in
          let one = pays_last c (codes_in h e code x.function).graph r.number r.block.end s in
          omega (arith, one, same)

      pub pay_block : r.more ≡ [] → (t : ℕ) (b : Block) → Among t (targets_of r.block.end) → slice_get (codes_in h e code x.function).graph.blocks t ≡ Some b
          → last x.function r.number + pay (at_block x.function t b r.history) ≤ pay (position_of r)
      pay_block is t b among there =
          let c = counted x.function in
          let g : Graph = (codes_in h e code x.function).graph in
          let s : CodeState = state_behind c r.passed (c.first r.number) in
          let same = ap (λ l. to_pay c g r.number l r.block.end s) is in
          let one = pays_enters c g (cycles_in x.function r.low) (inside_in x.function r.low) r.number t b r.block.end s among there in
          omega (arith, one, same)

      -- It is never more than what all of the function costs.
      pub pay_few : pay (position_of r) ≤ cost_of_graph (counted x.function) (codes_in h e code x.function).graph
      pay_few = pays_within (counted x.function) (codes_in h e code x.function).graph (cycles_in x.function r.low) (inside_in x.function r.low) r.number r.block r.passed r.more r.there r.track.whole
