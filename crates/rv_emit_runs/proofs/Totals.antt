-- All that functions cost is no more than 1,025 for each word of the code.
use Rattle.std.proofs.Common.{◌≡◌, ℕ, ◌+◌, ◌-◌, ◌*◌, ◌<◌, ◌≤◌, ap, ◌∙◌, subst, arith, refl, Option, Some, None, Bool, false, List, [], ◌∷◌, ◌++◌, length, slice_get}
use Rattle.std.specs.Option.{option_map_or}
use Rattle.graph_core.specs.Graphs.{Instruction, Marker, Note, Move, Operate, Truncate, Same, Address, Load, Store, Zero, CopyWords, Call, End, Block, Graph}
use Rattle.graph_core.specs.Paths.{Among, front, behind, is_marker}
use Rattle.graph_core.specs.Validity.{IsBlock, HasPlace}
use Rattle.graph_core.specs.WellMarked.{InPlace}
use Rattle.graph_core_weights.specs.Costs.{Costs, cost_of_all, cost_of_block}
use Rattle.graph_core_weights.proofs.Standing.{in_place, place_there}
use Rattle.graph_core_weights.proofs.Sums.{sum_most, sum_both, sum_times}
use Rattle.graph_homes.specs.Homed.{HomedForm}
use Rattle.memory_map.proofs.Facts.{map_facts}
use Rattle.rv_emit_tables.specs.Emitted.{EmittedForm}
use Rattle.rv_emit_words.specs.declared.piece.Held.{Held}
use Rattle.rv_emit_words.specs.Growing.{CodeState}
use Rattle.rv_emit_instructions.specs.Code.{with_instruction}
use Rattle.rv_emit_runs.specs.Placed.{PlacedAt}
use Rattle.rv_emit_runs.specs.Waiting.{FunctionCode}
use Rattle.rv_emit_runs.proofs.Appended.{BothPlaced}
use Rattle.rv_emit_runs.proofs.Unmarked.{behind_there, block_there}
use Rattle.rv_emit_runs.specs.Laid.{Arrangement, IsBlockAt, IsCode}
use Rattle.rv_emit_runs.proofs.Frames.{graph_there, graph_valid}
use Rattle.rv_emit_runs.proofs.Lists.{all_at}
use Rattle.rv_emit_runs.proofs.Rest.{program_in, codes_in, places_in, left_code, left_onto, known_in, first_state}
use Rattle.rv_emit_runs.proofs.States.{growing, going_on_from, placed_long}
use Rattle.rv_emit_runs.proofs.Tracks.{pieces_of_all}
use Rattle.rv_emit_runs.specs.Timed.{IsTimed, AreTimed}
use Rattle.rv_emit_runs.specs.Room.{words_of_function, HasRoom}
use Rattle.rv_emit_runs.proofs.Amounts.{known_of, known_is, first_of, left_words, plain, early, later, all_early, all_later, once, most_once, most_early, most_later}
use Rattle.rv_emit_runs.proofs.Turns.{IsSmall, weighed}

-- ---- Where an instruction stands in its block

pub record StandsAmong (i : Instruction) (is : List Instruction) : Type 0 where
  pub passed : List Instruction
  pub more : List Instruction
  pub so : is ≡ passed ++ i ∷ more

among_stands : (i : Instruction) (is : List Instruction) → Among i is → StandsAmong i is
among_stands i [] a = elim a [ ]
among_stands i (j ∷ is) front = record { passed = []; more = is; so = refl }
among_stands i (j ∷ is) (behind a) = let later = among_stands i is a in record { passed = j ∷ later.passed; more = later.more; so = ap (λ l. j ∷ l) later.so }

module _ (h : HomedForm) (timed : AreTimed h.unit) (e : EmittedForm) (code : IsCode h e) where
  -- Each instruction of a block sets or copies few words.
  small_in : (f : ℕ) → f < length h.unit.graphs → (l : ℕ) (b : Block) → slice_get (codes_in h e code f).graph.blocks l ≡ Some b → (i : Instruction) → Among i b.instructions → IsSmall i
  small_in f low l b there i among = by_kind i among
    where
      marks : IsTimed (codes_in h e code f).graph
      marks = timed.graphs f (codes_in h e code f).graph (graph_there h.unit f low)

      there_in : (x : Instruction) → Among x b.instructions → is_marker x ≡ false → (p : ℕ) × InPlace (codes_in h e code f).graph p x
      there_in x at none =
          let stands = among_stands x b.instructions at in
          let valid = all_at (IsBlock h.unit (codes_in h e code f).graph) (codes_in h e code f).graph.blocks l b (graph_valid h.unit timed.valid f low).blocks there in
          let place = place_there stands.passed x stands.more b.place (subst (λ is. HasPlace is b.place) stands.so valid.place) none in
          (place.0, in_place (codes_in h e code f).graph l b stands.passed x stands.more place.0 there stands.so place.1)

      by_kind : (x : Instruction) → Among x b.instructions → IsSmall x
      by_kind (Zero object n) at = let it = there_in (Zero object n) at refl in marks.zeroes it.0 object n it.1
      by_kind (CopyWords object bytes n) at = let it = there_in (CopyWords object bytes n) at refl in marks.copies it.0 object bytes n it.1
      by_kind (Marker p) at = tt
      by_kind (Note x v) at = tt
      by_kind (Move x a) at = tt
      by_kind (Operate x op y z) at = tt
      by_kind (Truncate x t a) at = tt
      by_kind (Same x y z) at = tt
      by_kind (Address x o) at = tt
      by_kind (Load x m o) at = tt
      by_kind (Store m o a) at = tt
      by_kind (Call x c all) at = tt

  -- ---- Pieces of a block

  -- They are no more than the words up to where its end ends.
  left_long : (f next : ℕ) (loads : List Held) (last : End) (more : List Instruction) (held : List Held) (owner : ℕ) (b : Bool) (index to : ℕ)
      → PlacedAt (program_in h e code) (places_in h e code f) index (left_code h code.arrangement f next loads last more (growing held owner b)).pieces to
      → index + pieces_of_all (codes_in h e code f).storage (codes_in h e code f).graph.entry more (growing held owner b) ≤ to
  left_long f next loads last [] held owner b index to there = let long = placed_long (program_in h e code) (places_in h e code f) index _ to there in omega (arith, long)
  left_long f next loads last (i ∷ more) held owner b index to there =
      let t : CodeState = with_instruction (codes_in h e code f).storage (codes_in h e code f).graph.entry i (growing held owner b) in
      let both : BothPlaced (program_in h e code) (places_in h e code f) index t.pieces (left_code h code.arrangement f next loads last more (going_on_from t)).pieces to =
      behind_there (left_code h code.arrangement f next loads last more) (left_onto h code.arrangement f next loads last more) (program_in h e code) (places_in h e code f) index to t there in
      let one = placed_long (program_in h e code) (places_in h e code f) index t.pieces both.index both.front_there in
      let rest = left_long f next loads last more t.held t.owner t.begins both.index to both.back_there in
      omega (arith, one, rest)

  module _ (room : HasRoom h e code) where
    pub first_there : (f l : ℕ) (low : f < length h.unit.graphs) (b : Block) → slice_get (codes_in h e code f).graph.blocks l ≡ Some b → first_of h e code f l ≡ first_state (known_in h e code f low) l b
    first_there f l low b there = ap (λ o. option_map_or (first_state (known_of h e code f) l) o (growing [] 0 false)) there ∙ ap (λ k. first_state k l b) (known_is h e code f low)

    pub pieces_fit : (f l : ℕ) (low : f < length h.unit.graphs) (b : Block) → slice_get (codes_in h e code f).graph.blocks l ≡ Some b
        → pieces_of_all (codes_in h e code f).storage (codes_in h e code f).graph.entry b.instructions (first_of h e code f l) ≤ room.words f l
    pieces_fit f l low b there =
        let c : FunctionCode = codes_in h e code f in
        let a : Arrangement = code.arrangement in
        let at : IsBlockAt h a (program_in h e code) (places_in h e code f) f (known_in h e code f low) l b = (code.functions f low).blocks l b there in
        let placed = block_there c.storage c.graph.entry c.saved c.size (length c.graph.blocks) at.next (known_in h e code f low l) at.loads b (program_in h e code) (places_in h e code f) (a.label f l) (a.label f at.next) at.there in
        let long = left_long f at.next at.loads b.end b.instructions (known_in h e code f low l) (option_map_or (λ p. p) b.place 0) false (a.label f l) (a.label f at.next) placed in
        let fits = room.blocks f low l b there in
        let same = ap (pieces_of_all c.storage c.graph.entry b.instructions) (first_there f l low b there) in
        omega (arith, long, fits, same)

    -- ---- Costs

    all_weighed : (f : ℕ) (is : List Instruction) (s : CodeState) → ((i : Instruction) → Among i is → IsSmall i)
        → 1025 * cost_of_all (plain h e code room f) is s + cost_of_all (early h e code room f) is s + cost_of_all (later h e code room f) is s ≤ 1025 * pieces_of_all (codes_in h e code f).storage (codes_in h e code f).graph.entry is s
    all_weighed f [] s small = omega arith
    all_weighed f (i ∷ is) s small =
        let c : FunctionCode = codes_in h e code f in
        let one = weighed c.storage c.graph.entry i s (small i front) in
        let rest = all_weighed f is (going_on_from (with_instruction c.storage c.graph.entry i s)) (λ j a. small j (behind a)) in
        omega (arith, one, rest)

    abbrev cost_in : (f l : ℕ) → Costs CodeState → Option Block → ℕ
    cost_in f l c found = option_map_or (λ (b : Block). cost_of_all c b.instructions (c.first l) + c.last l) found 0

    block_weighed : (f l : ℕ) → f < length h.unit.graphs
        → 1025 * cost_of_block (plain h e code room f) (codes_in h e code f).graph l + cost_of_block (early h e code room f) (codes_in h e code f).graph l + cost_of_block (later h e code room f) (codes_in h e code f).graph l ≤ 1025 * room.words f l
    block_weighed f l low = by_found (slice_get (codes_in h e code f).graph.blocks l) refl
      where
        by_found : (found : Option Block) → slice_get (codes_in h e code f).graph.blocks l ≡ found
            → 1025 * cost_in f l (plain h e code room f) found + cost_in f l (early h e code room f) found + cost_in f l (later h e code room f) found ≤ 1025 * room.words f l
        by_found None there = omega arith
        by_found (Some b) there =
            let c : FunctionCode = codes_in h e code f in
            let some = all_weighed f b.instructions (first_of h e code f l) (λ i a. small_in f low l b there i a) in
            let fits = pieces_fit f l low b there in
            let left : left_words h e code room f l ≡ room.words f l - pieces_of_all c.storage c.graph.entry b.instructions (first_of h e code f l) =
            ap (λ o. option_map_or (λ (z : Block). room.words f l - pieces_of_all c.storage c.graph.entry z.instructions (first_of h e code f l)) o 0) there in
            omega (arith, some, fits, left)

    -- Of a function.
    function_weighed : (f : ℕ) → f < length h.unit.graphs → 1025 * once h e code room f + all_early h e code room f + all_later h e code room f ≤ 1025 * words_of_function h code.arrangement room.words f
    function_weighed f low =
        let g : Graph = (codes_in h e code f).graph in
        let n : ℕ = length g.blocks in
        let p = cost_of_block (plain h e code room f) g in
        let y = cost_of_block (early h e code room f) g in
        let z = cost_of_block (later h e code room f) g in
        let le = sum_most (λ l. 1025 * p l + y l + z l) (λ l. 1025 * room.words f l) n (λ l lt. block_weighed f l low) in
        let one = sum_both (λ l. 1025 * p l + y l) z n in
        let two = sum_both (λ l. 1025 * p l) y n in
        let three = sum_times 1025 p n in
        let four = sum_times 1025 (room.words f) n in
        omega (arith, le, one, two, three, four)

    -- Of all of them.
    pub all_few : 1025 * (5 + most_once h e code room) + most_early h e code room + most_later h e code room ≤ 1025 * length e.code
    all_few =
        let n : ℕ = length h.unit.graphs in
        let w = words_of_function h code.arrangement room.words in
        let le = sum_most (λ f. 1025 * once h e code room f + all_early h e code room f + all_later h e code room f) (λ f. 1025 * w f) n (λ f low. function_weighed f low) in
        let one = sum_both (λ f. 1025 * once h e code room f + all_early h e code room f) (all_later h e code room) n in
        let two = sum_both (λ f. 1025 * once h e code room f) (all_early h e code room) n in
        let three = sum_times 1025 (once h e code room) n in
        let four = sum_times 1025 w n in
        let most = room.all in
        let stub = (map_facts e.map).stub in
        omega (arith, le, one, two, three, four, most, stub)
