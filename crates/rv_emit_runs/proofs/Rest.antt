-- What is left of a block stands where its code goes on: from the block's beginning on, behind each of its instructions.
use Rattle.std.proofs.Common.{◌≡◌, ℕ, ◌<◌, sym, ap, ◌∙◌, subst, refl, Some, Bool, false, List, [], ◌∷◌, ◌++◌, length, map, slice_get}
use Rattle.std.specs.Option.{option_map_or}
use Rattle.graph_core.specs.Graphs.{Instruction, End, Block, Graph}
use Rattle.graph_core.specs.Paths.{Among, front, behind, History, Path}
use Rattle.graph_core.specs.Validity.{IsValid, IsBlock, IsInstruction, KeepsPlace, place_behind, place_at_end}
use Rattle.graph_homes.specs.Homed.{HomedForm, placed_graph, placed_block, placed_instruction, placed_end}
use Rattle.rv_emit_tables.specs.Emitted.{EmittedForm}
use Rattle.rv_emit_words.specs.declared.piece.Held.{Held}
use Rattle.rv_emit_storage.specs.Storages.{StorageForm, home_at}
use Rattle.rv_emit_words.specs.Growing.{CodeState}
use Rattle.rv_emit_instructions.specs.Code.{with_instruction}
use Rattle.rv_emit_steps.specs.Programs.{Program}
use Rattle.rv_emit_code.specs.Blocks.{no_code, block_code}
use Rattle.rv_emit_code.specs.Leaving.{with_end}
use Rattle.rv_emit_runs.specs.Pieces.{Targets}
use Rattle.rv_emit_runs.specs.Placed.{PlacedAt}
use Rattle.rv_emit_runs.specs.Waiting.{FunctionCode}
use Rattle.rv_emit_runs.proofs.Appended.{BothPlaced}
use Rattle.rv_emit_runs.proofs.Unmarked.{IsAppending, with_all, all_onto, end_onto, behind_there, block_there}
use Rattle.rv_emit_runs.specs.Laid.{Arrangement, code_of, program_of, targets_in, HasWords, HasWordsInBlock, IsInWords, IsBlockAt, IsCode}
use Rattle.rv_emit_runs.proofs.Frames.{graph_there, graph_valid}
use Rattle.rv_emit_runs.proofs.Lists.{all_at, all_among}
use Rattle.rv_emit_runs.proofs.Places.{block_owned, block_forced, bare_held, instructions_held}
use Rattle.rv_emit_runs.proofs.States.{growing, going_on_from, placed_long}
use Rattle.rv_emit_runs.proofs.Tracks.{place_in, passing, Position, passed_by, at_block, Track, track_begins, track_on}
use Rattle.rv_emit_runs.proofs.UnitSteps.{Spot}

-- ---- The code of a unit

abbrev pub program_in : (h : HomedForm) (e : EmittedForm) → IsCode h e → Program
program_in h e code = program_of e code.short

abbrev pub codes_in : (h : HomedForm) (e : EmittedForm) → IsCode h e → (function : ℕ) → FunctionCode
codes_in h e code = code_of h code.arrangement

abbrev pub blocks_in : (h : HomedForm) (e : EmittedForm) → IsCode h e → (function : ℕ) → List Block
blocks_in h e code f = (codes_in h e code f).graph.blocks

abbrev pub places_in : (h : HomedForm) (e : EmittedForm) → IsCode h e → (function : ℕ) → Targets
places_in h e code f = targets_in e code.arrangement f

-- The code of instructions and of the end of a block behind them.
abbrev pub left_code : HomedForm → Arrangement → (function next : ℕ) → (loads : List Held) → End → List Instruction → CodeState → CodeState
left_code h a f next loads last more s =
    with_end (code_of h a f).storage (code_of h a f).saved (code_of h a f).size (length (code_of h a f).graph.blocks) next loads last (with_all (code_of h a f).storage (code_of h a f).graph.entry more s)

pub left_onto : (h : HomedForm) (a : Arrangement) (f next : ℕ) (loads : List Held) (last : End) (more : List Instruction) → IsAppending (left_code h a f next loads last more)
left_onto h a f next loads last more q s =
    let g = (code_of h a f).storage in
    let saved = (code_of h a f).saved in
    let size = (code_of h a f).size in
    let end = length (code_of h a f).graph.blocks in
    let entry = (code_of h a f).graph.entry in
    ap (with_end g saved size end next loads last) (all_onto g entry more q s) ∙ end_onto g saved size end next loads last q (with_all g entry more s)

-- The code of a whole block.
abbrev pub whole_code : HomedForm → Arrangement → (function next : ℕ) → (known loads : List Held) → Block → CodeState
whole_code h a f next known loads b = block_code (code_of h a f).storage (code_of h a f).graph.entry (code_of h a f).saved (code_of h a f).size (length (code_of h a f).graph.blocks) next known loads b

-- What is held where each block of a function begins.
abbrev pub known_in : (h : HomedForm) (e : EmittedForm) (code : IsCode h e) (f : ℕ) → f < length h.unit.graphs → ℕ → List Held
known_in h e code f low = (code.functions f low).known

-- The state of a block's code as it begins to grow.
abbrev pub first_state : (known : ℕ → List Held) → (block : ℕ) → Block → CodeState
first_state known l b = growing (known l) (option_map_or (λ p. p) b.place 0) false

-- ---- What is left of a block

-- The code of what is left of an activation's block stands from an index on: of these instructions and the block's end, in the place in force, with constants held and with a stop that has no
-- word yet or without one.
pub record RestAt (h : HomedForm) (e : EmittedForm) (code : IsCode h e) (x : Spot) (index : ℕ) (held : List Held) (begins : Bool) : Type 0 where
  pub low : x.function < length h.unit.graphs
  pub graph : x.graph ≡ placed_graph (home_at (codes_in h e code x.function).storage) (codes_in h e code x.function).graph
  -- the number of its block
  pub number : ℕ
  pub numbered : x.block ≡ number
  pub block : Block
  pub there : slice_get (codes_in h e code x.function).graph.blocks number ≡ Some block
  pub at : IsBlockAt h code.arrangement (program_in h e code) (places_in h e code x.function) x.function (known_in h e code x.function low) number block
  pub more : List Instruction
  pub rest : x.rest ≡ map (placed_instruction (home_at (codes_in h e code x.function).storage)) more
  pub end : x.end ≡ placed_end (home_at (codes_in h e code x.function).storage) block.end
  pub among : (y : Instruction) → Among y more → Among y block.instructions
  pub owner : ℕ
  pub owned : KeepsPlace more (Some owner) (Some x.place)
  pub force : place_behind more (Some x.place) ≡ place_at_end block
  pub placed : PlacedAt (program_in h e code) (places_in h e code x.function) index (left_code h code.arrangement x.function at.next at.loads block.end more (growing held owner begins)).pieces (code.arrangement.label x.function at.next)
  pub known : (left_code h code.arrangement x.function at.next at.loads block.end more (growing held owner begins)).held ≡ (whole_code h code.arrangement x.function at.next (known_in h e code x.function low number) at.loads block).held
  pub same : at ≡ (code.functions x.function low).blocks number block there
  -- what was passed of the block, and on what path
  pub passed : List Instruction
  pub history : History
  pub track : Track (codes_in h e code x.function).graph (codes_in h e code x.function).storage (first_state (known_in h e code x.function low) number block) (code.arrangement.label x.function number) number block passed more history (growing held owner begins) index x.place

-- Where the activation is.
abbrev pub position_of : {h : HomedForm} {e : EmittedForm} {code : IsCode h e} {x : Spot} {index : ℕ} {held : List Held} {begins : Bool} → RestAt h e code x index held begins → Position
position_of {x = x} r = record { function = x.function; number = r.number; passed = r.passed; more = r.more; end = r.block.end; history = r.history }

-- What is left of a block stands so, where the activation is at this point.
pub record RestFrom (h : HomedForm) (e : EmittedForm) (code : IsCode h e) (to : Position) (x : Spot) (index : ℕ) (held : List Held) (begins : Bool) : Type 0 where
  pub rest : RestAt h e code x index held begins
  pub is : position_of rest ≡ to

module _ (h : HomedForm) (e : EmittedForm) (code : IsCode h e) where
  -- Where a block begins in a place that it keeps, all of it is left.
  pub start_at : (f l place : ℕ) (b : Block) (low : f < length h.unit.graphs) → slice_get (codes_in h e code f).graph.blocks l ≡ Some b → KeepsPlace b.instructions (Some place) b.place
      → (history : History) → Path (codes_in h e code f).graph history l b.instructions b.end → place_in (codes_in h e code f).graph history ≡ place
      → RestFrom h e code (at_block f l b history)
      (record {
        function = f;
        graph = placed_graph (home_at (codes_in h e code f).storage) (codes_in h e code f).graph;
        place = place;
        block = l;
        rest = (placed_block (home_at (codes_in h e code f).storage) b).instructions;
        end = (placed_block (home_at (codes_in h e code f).storage) b).end;
      })
      (code.arrangement.label f l) (known_in h e code f low l) false
  start_at f l place b low there keeps history way in_place =
      let a : Arrangement = code.arrangement in
      let c : FunctionCode = codes_in h e code f in
      let at : IsBlockAt h a (program_in h e code) (places_in h e code f) f (known_in h e code f low) l b = (code.functions f low).blocks l b there in
      let end : ℕ = length c.graph.blocks in
      record {
        rest = record {
          low = low;
          graph = refl;
          number = l;
          numbered = refl;
          block = b;
          there = there;
          at = (code.functions f low).blocks l b there;
          more = b.instructions;
          rest = refl;
          end = refl;
          among = λ y is. is;
          owner = option_map_or (λ p. p) b.place 0;
          owned = block_owned b place keeps;
          force = block_forced b place keeps;
          placed = block_there c.storage c.graph.entry c.saved c.size end at.next (known_in h e code f low l) at.loads b (program_in h e code) (places_in h e code f) (a.label f l) (a.label f at.next) at.there;
          known = sym (instructions_held c.storage c.graph.entry (with_end c.storage c.saved c.size end at.next at.loads b.end) (end_onto c.storage c.saved c.size end at.next at.loads b.end) 0 b.instructions (no_code (option_map_or (λ p. p) b.place 0) (known_in h e code f low l)));
          same = refl;
          passed = [];
          history = history;
          track = track_begins c.graph c.storage (first_state (known_in h e code f low) l b) (a.label f l) l b history place keeps way in_place;
        };
        is = refl;
      }

  -- The code of the next instruction, and of what is left behind it.
  pub record NextAt (x : Spot) (index : ℕ) (held : List Held) (begins : Bool) (r : RestAt h e code x index held begins) (i : Instruction) (more : List Instruction) : Type 0 where
    pub behind_it : ℕ
    pub there : PlacedAt (program_in h e code) (places_in h e code x.function) index (with_instruction (codes_in h e code x.function).storage (codes_in h e code x.function).graph.entry i (growing held r.owner begins)).pieces behind_it
    pub later : PlacedAt (program_in h e code) (places_in h e code x.function) behind_it
        (left_code h code.arrangement x.function r.at.next r.at.loads r.block.end more (going_on_from (with_instruction (codes_in h e code x.function).storage (codes_in h e code x.function).graph.entry i (growing held r.owner begins)))).pieces
        (code.arrangement.label x.function r.at.next)
    pub known : (left_code h code.arrangement x.function r.at.next r.at.loads r.block.end more (going_on_from (with_instruction (codes_in h e code x.function).storage (codes_in h e code x.function).graph.entry i (growing held r.owner begins)))).held
        ≡ (whole_code h code.arrangement x.function r.at.next (known_in h e code x.function r.low r.number) r.at.loads r.block).held

  pub next_at : (x : Spot) (index : ℕ) (held : List Held) (begins : Bool) (r : RestAt h e code x index held begins) (i : Instruction) (more : List Instruction) → r.more ≡ i ∷ more → NextAt x index held begins r i more
  next_at x index held begins r i more is =
      let f : ℕ = x.function in
      let c : FunctionCode = codes_in h e code f in
      let s : CodeState = growing held r.owner begins in
      let t : CodeState = with_instruction c.storage c.graph.entry i s in
      let last : ℕ = code.arrangement.label f r.at.next in
      let rest : CodeState → CodeState = left_code h code.arrangement f r.at.next r.at.loads r.block.end more in
      let appends : IsAppending rest = left_onto h code.arrangement f r.at.next r.at.loads r.block.end more in
      let both : BothPlaced (program_in h e code) (places_in h e code f) index t.pieces (rest (going_on_from t)).pieces last =
      behind_there rest appends (program_in h e code) (places_in h e code f) index last t
      (subst (λ l. PlacedAt (program_in h e code) (places_in h e code f) index (left_code h code.arrangement f r.at.next r.at.loads r.block.end l s).pieces last) is r.placed) in
      record {
        behind_it = both.index;
        there = both.front_there;
        later = both.back_there;
        known = bare_held rest appends t ∙ subst (λ l. (left_code h code.arrangement f r.at.next r.at.loads r.block.end l s).held ≡ (whole_code h code.arrangement f r.at.next (known_in h e code f r.low r.number) r.at.loads r.block).held) is r.known;
      }

  -- What is left behind it, in the place that is in force there.
  pub rest_behind : (x : Spot) (index : ℕ) (held : List Held) (begins : Bool) (r : RestAt h e code x index held begins) (i : Instruction) (more : List Instruction) → r.more ≡ i ∷ more → (n : NextAt x index held begins r i more)
      → (place owner : ℕ) (later : List Held) (b : Bool) → going_on_from (with_instruction (codes_in h e code x.function).storage (codes_in h e code x.function).graph.entry i (growing held r.owner begins)) ≡ growing later owner b
      → KeepsPlace more (Some owner) (Some place) → place_behind more (Some place) ≡ place_behind (i ∷ more) (Some x.place) → Some place ≡ place_behind (i ∷ []) (Some x.place)
      → RestFrom h e code (passed_by (position_of r) i more) (record x { place = place; rest = map (placed_instruction (home_at (codes_in h e code x.function).storage)) more }) n.behind_it later b
  rest_behind x index held begins r i more is n place owner later b state owned force moves =
      let g : Graph = (codes_in h e code x.function).graph in
      let storage : StorageForm = (codes_in h e code x.function).storage in
      let first : CodeState = first_state (known_in h e code x.function r.low) r.number r.block in
      let start : ℕ = code.arrangement.label x.function r.number in
      let before : Track g storage first start r.number r.block r.passed (i ∷ more) r.history (growing held r.owner begins) index x.place =
      subst (λ l. Track g storage first start r.number r.block r.passed l r.history (growing held r.owner begins) index x.place) is r.track in
      let long = placed_long (program_in h e code) (places_in h e code x.function) index (with_instruction storage g.entry i (growing held r.owner begins)).pieces n.behind_it n.there in
      let after = track_on g storage first start r.number r.block r.passed i more r.history (growing held r.owner begins) index x.place before n.behind_it place long moves in
      record {
        rest = record {
          low = r.low;
          graph = r.graph;
          number = r.number;
          numbered = r.numbered;
          block = r.block;
          there = r.there;
          at = r.at;
          more = more;
          rest = refl;
          end = r.end;
          among = λ y in_more. r.among y (subst (λ l. Among y l) (sym is) (behind in_more));
          owner = owner;
          owned = owned;
          force = force ∙ ap (λ l. place_behind l (Some x.place)) (sym is) ∙ r.force;
          placed = subst
              (λ (s : CodeState). PlacedAt (program_in h e code) (places_in h e code x.function) n.behind_it (left_code h code.arrangement x.function r.at.next r.at.loads r.block.end more s).pieces (code.arrangement.label x.function r.at.next))
              state n.later;
          known = subst (λ (s : CodeState). (left_code h code.arrangement x.function r.at.next r.at.loads r.block.end more s).held ≡ (whole_code h code.arrangement x.function r.at.next (known_in h e code x.function r.low r.number) r.at.loads r.block).held) state n.known;
          same = r.same;
          passed = r.passed ++ i ∷ [];
          history = passing r.number i more ∷ r.history;
          track = subst (λ (s : CodeState). Track g storage first start r.number r.block (r.passed ++ i ∷ []) more (passing r.number i more ∷ r.history) s n.behind_it place) state after;
        };
        is = refl;
      }

  -- ---- What is known of the instructions

  pub next_among : (x : Spot) (index : ℕ) (held : List Held) (begins : Bool) (r : RestAt h e code x index held begins) (i : Instruction) (more : List Instruction) → r.more ≡ i ∷ more → Among i r.block.instructions
  next_among x index held begins r i more is = r.among i (subst (λ l. Among i l) (sym is) front)

  -- They are valid, and so is the block.
  pub block_valid : IsValid h.unit → (x : Spot) (index : ℕ) (held : List Held) (begins : Bool) (r : RestAt h e code x index held begins) → IsBlock h.unit (codes_in h e code x.function).graph r.block
  block_valid valid x index held begins r =
      all_at (IsBlock h.unit (codes_in h e code x.function).graph) (codes_in h e code x.function).graph.blocks r.number r.block (graph_valid h.unit valid x.function r.low).blocks r.there

  pub next_valid : IsValid h.unit → (x : Spot) (index : ℕ) (held : List Held) (begins : Bool) (r : RestAt h e code x index held begins) (i : Instruction) → Among i r.block.instructions → IsInstruction h.unit (codes_in h e code x.function).graph i
  next_valid valid x index held begins r i among = all_among (IsInstruction h.unit (codes_in h e code x.function).graph) r.block.instructions i (block_valid valid x index held begins r).instructions among

  -- Their constants are words.
  pub block_words : (x : Spot) (index : ℕ) (held : List Held) (begins : Bool) (r : RestAt h e code x index held begins) → HasWordsInBlock r.block
  block_words x index held begins r =
      all_at HasWordsInBlock (codes_in h e code x.function).graph.blocks r.number r.block (all_at IsInWords h.unit.graphs x.function (codes_in h e code x.function).graph code.words (graph_there h.unit x.function r.low)).blocks r.there

  pub next_words : (x : Spot) (index : ℕ) (held : List Held) (begins : Bool) (r : RestAt h e code x index held begins) (i : Instruction) → Among i r.block.instructions → HasWords i
  next_words x index held begins r i among = all_among HasWords r.block.instructions i (block_words x index held begins r).instructions among
