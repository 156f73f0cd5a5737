-- What instructions of a unit cost in instructions of the machine: those that set or copy words, in the entry's place and in other ones, and all others; and what functions cost.
use Rattle.std.proofs.Common.{◌≡◌, ℕ, ◌+◌, ◌-◌, ◌*◌, ◌<◌, ◌≤◌, ◌⊎◌, inl, inr, ⊎_elim, ap, arith, refl, Bool, true, false, List, [], ◌∷◌, length, slice_get}
use Rattle.std.specs.Prelude.{◌==◌, if◌then◌else◌}
use Rattle.std.specs.Option.{option_map_or}
use Rattle.std.proofs.lemmas.Bool.{cases_lt}
use native.Mathlib.Bridge.{le_prop}
use Rattle.graph_core.specs.Graphs.{Instruction, Zero, CopyWords, Block}
use Rattle.graph_core_weights.specs.Costs.{Costs, sum_below, state_behind, cost_of_graph}
use Rattle.graph_homes.specs.Homed.{HomedForm}
use Rattle.rv_emit_tables.specs.Emitted.{EmittedForm}
use Rattle.rv_emit_words.specs.declared.piece.Held.{Held}
use Rattle.rv_emit_storage.specs.Storages.{StorageForm}
use Rattle.rv_emit_words.specs.Growing.{CodeState}
use Rattle.rv_emit_instructions.specs.Code.{with_instruction}
use Rattle.rv_emit_code.specs.Leaving.{leaving_code}
use Rattle.rv_emit_runs.specs.Laid.{IsCode}
use Rattle.rv_emit_runs.proofs.Rest.{codes_in, known_in, first_state}
use Rattle.rv_emit_runs.proofs.States.{growing, going_on_from}
use Rattle.rv_emit_runs.proofs.Tracks.{behind_all, pieces_of, pieces_of_all}
use Rattle.rv_emit_runs.specs.Room.{HasRoom}

-- ---- Instructions

-- an instruction sets or copies words
abbrev pub fills : Instruction → Bool
fills (Zero object words) = true
fills (CopyWords object bytes words) = true
fills _ = false

-- how many instructions of the machine that takes
abbrev pub turns : StorageForm → (entry : ℕ) → Instruction → CodeState → ℕ
turns g entry (Zero object words) s = pieces_of g entry (Zero object words) s + 3 * words
turns g entry (CopyWords object bytes words) s = pieces_of g entry (CopyWords object bytes words) s + 5 * words
turns g entry _ s = 0

-- what another one costs; and what one that sets or copies words costs in the entry's place, and in another one
abbrev pub plain_cost : StorageForm → (entry : ℕ) → Instruction → CodeState → ℕ
plain_cost g entry i s = if fills i then 0 else pieces_of g entry i s

abbrev pub early_cost : StorageForm → (entry : ℕ) → Instruction → CodeState → ℕ
early_cost g entry i s = if s.owner == entry then turns g entry i s else 0

abbrev pub later_cost : StorageForm → (entry : ℕ) → Instruction → CodeState → ℕ
later_cost g entry i s = if s.owner == entry then 0 else turns g entry i s

-- ---- Functions

module _ (h : HomedForm) (e : EmittedForm) (code : IsCode h e) where
  -- What is held where each block begins, also for functions that are none.
  abbrev pub known_by : (f : ℕ) → (f < length h.unit.graphs) ⊎ (length h.unit.graphs ≤ f) → ℕ → List Held
  known_by f is = ⊎_elim (λ (lt : f < length h.unit.graphs). known_in h e code f lt) (λ (ge : length h.unit.graphs ≤ f). λ (l : ℕ). []) is

  abbrev pub known_of : (f : ℕ) → ℕ → List Held
  known_of f = known_by f (cases_lt f (length h.unit.graphs))

  pub known_is : (f : ℕ) (low : f < length h.unit.graphs) → known_of f ≡ known_in h e code f low
  known_is f low = by_case (cases_lt f (length h.unit.graphs))
    where
      by_case : (is : (f < length h.unit.graphs) ⊎ (length h.unit.graphs ≤ f)) → known_by f is ≡ known_in h e code f low
      by_case (inl lt) = ap (λ (p : f < length h.unit.graphs). known_in h e code f p) (le_prop lt low)
      by_case (inr ge) = absurd (omega (arith, low, ge))

  -- The state in which the code of a block begins.
  abbrev pub first_of : (f l : ℕ) → CodeState
  first_of f l = option_map_or (first_state (known_of f) l) (slice_get (codes_in h e code f).graph.blocks l) (growing [] 0 false)

  -- What is counted of a function: so much of each instruction, and so much of the end of each block.
  abbrev pub costs_by : (f : ℕ) → (cost : Instruction → CodeState → ℕ) → (last : ℕ → ℕ) → Costs CodeState
  costs_by f cost last = record { first = first_of f; next = λ i s. going_on_from (with_instruction (codes_in h e code f).storage (codes_in h e code f).graph.entry i s); cost = cost; last = last }

  -- Its state behind instructions is that of the code.
  pub state_is : (f : ℕ) (cost : Instruction → CodeState → ℕ) (last : ℕ → ℕ) (is : List Instruction) (s : CodeState) → state_behind (costs_by f cost last) is s ≡ behind_all (codes_in h e code f).storage (codes_in h e code f).graph.entry is s
  state_is f cost last [] s = refl
  state_is f cost last (i ∷ is) s = state_is f cost last is (going_on_from (with_instruction (codes_in h e code f).storage (codes_in h e code f).graph.entry i s))

  module _ (room : HasRoom h e code) where
    -- how many words of a block are those of its end
    abbrev pub left_words : (f l : ℕ) → ℕ
    left_words f l = option_map_or (λ (b : Block). room.words f l - pieces_of_all (codes_in h e code f).storage (codes_in h e code f).graph.entry b.instructions (first_of f l)) (slice_get (codes_in h e code f).graph.blocks l) 0

    abbrev pub plain : (f : ℕ) → Costs CodeState
    plain f = costs_by f (plain_cost (codes_in h e code f).storage (codes_in h e code f).graph.entry) (left_words f)

    abbrev pub early : (f : ℕ) → Costs CodeState
    early f = costs_by f (early_cost (codes_in h e code f).storage (codes_in h e code f).graph.entry) (λ l. 0)

    abbrev pub later : (f : ℕ) → Costs CodeState
    later f = costs_by f (later_cost (codes_in h e code f).storage (codes_in h e code f).graph.entry) (λ l. 0)

    -- what all of a function costs of each
    abbrev pub all_plain : (f : ℕ) → ℕ
    all_plain f = cost_of_graph (plain f) (codes_in h e code f).graph

    abbrev pub all_early : (f : ℕ) → ℕ
    all_early f = cost_of_graph (early f) (codes_in h e code f).graph

    abbrev pub all_later : (f : ℕ) → ℕ
    all_later f = cost_of_graph (later f) (codes_in h e code f).graph

    -- its beginning, its plain instructions and its end
    abbrev pub ends_of : (f : ℕ) → ℕ
    ends_of f = length (leaving_code (codes_in h e code f).saved (codes_in h e code f).size)

    abbrev pub begins_of : (f : ℕ) → ℕ
    begins_of f = code.arrangement.label f 0 - code.arrangement.function f

    abbrev pub once : (f : ℕ) → ℕ
    once f = begins_of f + all_plain f + ends_of f

    -- and of all functions
    abbrev pub most_once : ℕ
    most_once = sum_below once (length h.unit.graphs)

    abbrev pub most_early : ℕ
    most_early = sum_below all_early (length h.unit.graphs)

    abbrev pub most_later : ℕ
    most_later = sum_below all_later (length h.unit.graphs)
