-- The machine does the step of the end of a block: it comes to the next block, or goes on in the caller, or its run ends.
use Rattle.std.proofs.Common.{◌≡◌, ℕ, ◌+◌, ◌-◌, ◌≤◌, sym, ap, ◌∙◌, subst, arith, refl, Option, Some, None, false, List, [], ◌∷◌, length, length-append, map, slice_get}
use Rattle.std.specs.Prelude.{option_map}
use Rattle.rv_code.specs.declared.instruction.Instruction.{Instruction as MachineInstruction}
use Rattle.graph_core.specs.Graphs.{Operand, End, Jump, Branch, Return, Block, Graph}
use Rattle.graph_core.specs.Paths.{Among, front, behind, Path}
use Rattle.graph_core.specs.Runs.{Configuration, Stepped, Goes, Shows, Ends as EndsUnit, Wild, step}
use Rattle.graph_core.specs.Uses.{targets_of}
use Rattle.graph_core.specs.Validity.{IsValid, IsKept, KeepsPlace, AreOperandsOfEnd, place_at_end, place_behind}
use Rattle.graph_homes.specs.Homed.{HomedForm, HaveHomes, placed_end, placed_block, placed_graph, placed_instruction, over_homes}
use Rattle.rv_emit_tables.specs.Emitted.{EmittedForm}
use Rattle.rv_emit_words.specs.declared.piece.Held.{Held}
use Rattle.rv_emit_storage.specs.declared.storage.Source.{Source}
use Rattle.rv_emit_storage.specs.Storages.{home_at, source_of}
use Rattle.rv_emit_words.specs.Growing.{CodeState}
use Rattle.rv_emit_words.specs.Operands.{bringing}
use Rattle.rv_emit_steps.specs.Holding.{Holding}
use Rattle.rv_emit_steps.specs.Points.{Point}
use Rattle.rv_emit_steps.specs.EmitMovesDoing.{HoldsAll as HoldsAllOf}
use Rattle.rv_emit_steps.specs.Frames.{Setting, AreScratch}
use Rattle.rv_emit_code.specs.Ends.{words, begins_behind, end_pieces, end_held}
use Rattle.rv_emit_code.specs.Leaving.{leaving_code, leaving, room_behind, return_pieces, with_end}
use Rattle.rv_emit_runs.specs.Going.{IsGoing}
use Rattle.rv_emit_runs.specs.Pieces.{PiecesAt}
use Rattle.rv_emit_runs.specs.Placed.{PlacedAt}
use Rattle.rv_emit_runs.specs.Returns.{Resumes, EndsMain}
use Rattle.rv_emit_runs.specs.Settings.{AreLoads}
use Rattle.rv_emit_runs.specs.Waiting.{FunctionCode, setting_of}
use Rattle.rv_emit_runs.proofs.Blocks.{block_all}
use Rattle.rv_emit_runs.proofs.Ends.{EntersBlock, DoesEnd, end_done as end_leads}
use Rattle.rv_emit_runs.proofs.Grown.{end_appends, end_holds, return_appends}
use Rattle.rv_emit_runs.proofs.Keeping.{all_reheld}
use Rattle.rv_emit_runs.proofs.Placed.{pieces_long}
use Rattle.rv_emit_runs.proofs.ReturnEnds.{IsWordIfAny, result_words, return_end_done}
use Rattle.rv_emit_runs.proofs.Returning.{DoesReturn}
use Rattle.rv_emit_runs.specs.Laid.{HasWordsAtEnd, AreHeldAmong, IsCode}
use Rattle.rv_emit_runs.proofs.Beginnings.{IsOf, of_mapped, ends_there}
use Rattle.rv_emit_runs.proofs.Frames.{all_codes}
use Rattle.rv_emit_runs.proofs.Lists.{all_among}
use Rattle.rv_emit_runs.proofs.Related.{GoesOn, Related, DoesStep, does_within, come_unseen, end_done}
use Rattle.rv_emit_runs.proofs.Rest.{program_in, codes_in, places_in, known_in, left_code, whole_code, position_of, RestFrom, start_at, block_valid, block_words}
use Rattle.rv_emit_runs.proofs.States.{growing}
use Rattle.rv_emit_runs.proofs.Tracks.{at_block, path_goes, enters_block, goes_back}
use Rattle.rv_emit_runs.proofs.UnitSteps.{spot_of, wanted_spot, ShowsRightly, step_right}

-- ---- Constants that are held

-- Constants that are to be held are in scratch registers.
loads_scratch : (all : List Held) → AreLoads all → AreScratch all
loads_scratch [] loads = tt
loads_scratch (x ∷ more) (is, fits, others) = (is, loads_scratch more others)

-- What is held of all is held of some of them.
held_of : (all : List Held) (x : Held) (g : Holding) → Among x all → HoldsAllOf all g → g.registers x.register ≡ x.word
held_of [] x g among holds = elim among [ ]
held_of (y ∷ more) x g front holds = holds.0
held_of (y ∷ more) x g (behind later) holds = held_of more x g later holds.1

held_some : (wanted all : List Held) (g : Holding) → AreHeldAmong wanted all → HoldsAllOf all g → HoldsAllOf wanted g
held_some [] all g among holds = tt
held_some (x ∷ more) all g among holds = (held_of all x g (among x front) holds, held_some more all g (λ y is. among y (behind is)) holds)

length_words : (code : List MachineInstruction) → length (words code) ≡ length code
length_words [] = refl
length_words (x ∷ code) = let same = length_words code in omega (arith, same)

-- How many instructions the end of a block takes at most, where so many words stand there: as many as they are, but a return takes also those of the function's end, and those with which the caller takes the result.
abbrev pub longest_end : (saved : List ℕ) → (size words : ℕ) → End → ℕ
longest_end saved size n (Jump to) = n
longest_end saved size n (Branch k x y if_true if_false) = n
longest_end saved size n (Return v) = n + (5 + length (leaving_code saved size))

module _ (h : HomedForm) (valid : IsValid h.unit) (homed : HaveHomes h) (e : EmittedForm) (code : IsCode h e) (main : EndsMain (program_in h e code)) (c : Configuration) (q : Point) (r : Related h e code c q) (is : r.rest.more ≡ []) where
  abbrev f : FunctionCode
  f = codes_in h e code c.here.function

  abbrev next : ℕ
  next = r.rest.at.next

  abbrev loads : List Held
  loads = r.rest.at.loads

  abbrev last : ℕ
  last = code.arrangement.label c.here.function r.rest.at.next

  abbrev state : CodeState
  state = growing r.held r.rest.owner q.shown

  none_left : c.here.rest ≡ []
  none_left = r.rest.rest ∙ ap (λ l. map (placed_instruction (home_at f.storage)) l) is

  placed : PlacedAt (program_in h e code) (places_in h e code c.here.function) r.index (left_code h code.arrangement c.here.function next loads r.rest.block.end [] state).pieces last
  placed = subst (λ l. PlacedAt (program_in h e code) (places_in h e code c.here.function) r.index (left_code h code.arrangement c.here.function next loads r.rest.block.end l state).pieces last) is r.rest.placed

  known : (left_code h code.arrangement c.here.function next loads r.rest.block.end [] state).held ≡ (whole_code h code.arrangement c.here.function next (known_in h e code c.here.function r.rest.low r.rest.number) loads r.rest.block).held
  known = subst (λ l. (left_code h code.arrangement c.here.function next loads r.rest.block.end l state).held ≡ (whole_code h code.arrangement c.here.function next (known_in h e code c.here.function r.rest.low r.rest.number) loads r.rest.block).held) is r.rest.known

  -- The place in force is that of the block's end.
  force : Some c.here.place ≡ place_at_end r.rest.block
  force = subst (λ l. place_behind l (Some c.here.place) ≡ place_at_end r.rest.block) is r.rest.force

  -- ---- An end that goes on to a block

  module _ (z : End) (same : r.rest.block.end ≡ z) where
    end_is : c.here.end ≡ placed_end (home_at (codes_in h e code c.here.function).storage) z
    end_is = r.rest.end ∙ ap (placed_end (home_at f.storage)) same

    operands : AreOperandsOfEnd h.unit.statics (codes_in h e code c.here.function).graph z
    operands = subst (λ y. AreOperandsOfEnd h.unit.statics f.graph y) same (block_valid h e code valid (spot_of c.here) r.index r.held q.shown r.rest).operands

    end_there : PlacedAt (program_in h e code) (places_in h e code c.here.function) r.index (with_end (codes_in h e code c.here.function).storage (codes_in h e code c.here.function).saved (codes_in h e code c.here.function).size (length (codes_in h e code c.here.function).graph.blocks) next loads z state).pieces last
    end_there = subst (λ y. PlacedAt (program_in h e code) (places_in h e code c.here.function) r.index (left_code h code.arrangement c.here.function next loads y [] state).pieces last) same placed

    held_there : (whole_code h code.arrangement c.here.function next (known_in h e code c.here.function r.rest.low r.rest.number) loads r.rest.block).held
        ≡ (with_end (codes_in h e code c.here.function).storage (codes_in h e code c.here.function).saved (codes_in h e code c.here.function).size (length (codes_in h e code c.here.function).graph.blocks) next loads z state).held
    held_there = sym known ∙ ap (λ y. (left_code h code.arrangement c.here.function next loads y [] state).held) same

    module _ (going : IsGoing z) where
      abbrev later : List Held
      later = end_held (codes_in h e code c.here.function).storage r.held loads z

      pieces_there : PiecesAt (program_in h e code) (places_in h e code c.here.function) r.index q.shown (end_pieces (codes_in h e code c.here.function).storage r.held q.shown loads next z) last
      pieces_there =
          let more = end_appends f.storage f.saved f.size (length f.graph.blocks) next loads z state going in
          more.there (program_in h e code) (places_in h e code c.here.function) r.index last (subst (λ l. PlacedAt (program_in h e code) (places_in h e code c.here.function) r.index l last) more.is end_there)

      abbrev most : ℕ
      most = last - r.index

      done : DoesEnd (program_in h e code) (places_in h e code c.here.function) q.state q.shown most (setting_of (over_homes h) r.addresses later (codes_in h e code c.here.function)) c r.holding (targets_of z) (step (over_homes h) c)
      done =
          let w : Setting = setting_of (over_homes h) r.addresses r.held f in
          end_leads (program_in h e code) (places_in h e code c.here.function) q.state r.index q.shown w c r.holding (code.inside c.here.function) ((all_codes h valid homed code.arrangement (over_homes h) c.here.function).storage r.addresses r.held) r.all.here r.stands loads r.rest.at.constants next last refl
          z none_left end_is operands going pieces_there

      -- The block that it comes to.
      module _ (d : Configuration) (enters : EntersBlock (program_in h e code) (places_in h e code c.here.function) q.state q.shown most (setting_of (over_homes h) r.addresses later (codes_in h e code c.here.function)) c r.holding (targets_of z) d) where
        from : IsOf (placed_block (home_at (codes_in h e code c.here.function).storage)) (codes_in h e code c.here.function).graph.blocks enters.number enters.block
        from = of_mapped (placed_block (home_at f.storage)) f.graph.blocks enters.number enters.block (subst (λ (g : Graph). slice_get g.blocks enters.number ≡ Some enters.block) r.rest.graph enters.there)

        target : Among enters.number (targets_of r.rest.block.end)
        target = subst (λ y. Among enters.number (targets_of y)) (sym same) enters.target

        keeps : KeepsPlace from.from.instructions (Some c.here.place) from.from.place
        keeps =
            let kept : IsKept (place_at_end r.rest.block) (slice_get f.graph.blocks enters.number) =
            all_among (λ l. IsKept (place_at_end r.rest.block) (slice_get f.graph.blocks l)) (targets_of r.rest.block.end) enters.number (block_valid h e code valid (spot_of c.here) r.index r.held q.shown r.rest).edges target in
            subst (λ o. KeepsPlace from.from.instructions o from.from.place) (sym force) (subst (λ o. IsKept (place_at_end r.rest.block) o) from.there kept)

        leads_there : Path (codes_in h e code c.here.function).graph r.rest.history enters.number from.from.instructions from.from.end
        leads_there = path_goes (subst (λ l. Path f.graph r.rest.history r.rest.number l r.rest.block.end) is r.rest.track.way) target from.from from.there

        begins : RestFrom h e code (at_block c.here.function enters.number from.from r.rest.history)
            (record {
              function = c.here.function;
              graph = placed_graph (home_at (codes_in h e code c.here.function).storage) (codes_in h e code c.here.function).graph;
              place = c.here.place;
              block = enters.number;
              rest = (placed_block (home_at (codes_in h e code c.here.function).storage) from.from).instructions;
              end = (placed_block (home_at (codes_in h e code c.here.function).storage) from.from).end;
            })
            (code.arrangement.label c.here.function enters.number) (known_in h e code c.here.function r.rest.low enters.number) false
        begins = start_at h e code c.here.function enters.number c.here.place from.from r.rest.low from.there keeps r.rest.history leads_there r.rest.track.in_place

        spot : spot_of d.here
            ≡ record {
              function = c.here.function;
              graph = placed_graph (home_at (codes_in h e code c.here.function).storage) (codes_in h e code c.here.function).graph;
              place = c.here.place;
              block = enters.number;
              rest = (placed_block (home_at (codes_in h e code c.here.function).storage) from.from).instructions;
              end = (placed_block (home_at (codes_in h e code c.here.function).storage) from.from).end;
            }
        spot =
            ap (λ (x : Configuration). spot_of x.here) (sym enters.is)
            ∙ ap (λ (b : Block). record { function = c.here.function; graph = c.here.graph; place = c.here.place; block = enters.number; rest = b.instructions; end = b.end }) from.is
            ∙ ap (λ (g : Graph). record { function = c.here.function; graph = g; place = c.here.place; block = enters.number; rest = (placed_block (home_at f.storage) from.from).instructions; end = (placed_block (home_at f.storage) from.from).end }) r.rest.graph

        abbrev wanted : List Held
        wanted = known_in h e code c.here.function r.rest.low enters.number

        held_among : AreHeldAmong wanted later
        held_among = subst (λ l. AreHeldAmong wanted l) (held_there ∙ end_holds f.storage f.saved f.size (length f.graph.blocks) next loads z state going) (r.rest.at.leads enters.number target)

        block_unseen : DoesStep h e code (position_of r.rest) most q (Goes d)
        block_unseen =
            let codes_valid = all_codes h valid homed code.arrangement (over_homes h) in
            let comes = block_all (codes_in h e code) (over_homes h) codes_valid r.addresses (Resumes (program_in h e code) (codes_in h e code) (GoesOn h e code)) (program_in h e code) (places_in h e code c.here.function) q.state r.index q.shown most r.held later c d r.holding (targets_of z) r.all enters in
            let known_there = (code.functions c.here.function r.rest.low).constants enters.number in
            come_unseen h e code (position_of r.rest) (at_block c.here.function enters.number from.from r.rest.history) q r.index most (code.arrangement.label c.here.function enters.number) false r.addresses wanted d
            (record {
              count = comes.count;
              few = comes.few;
              holding = comes.holding;
              reaches = comes.reaches;
              all = all_reheld (codes_in h e code) (over_homes h) codes_valid r.addresses (Resumes (program_in h e code) (codes_in h e code) (GoesOn h e code)) later wanted d comes.holding comes.holding comes.all (λ n kept. refl) refl refl refl
                  (held_some wanted later comes.holding held_among comes.all.here.fetch.all) (loads_scratch wanted known_there);
            })
            (subst (λ x. RestFrom h e code (at_block c.here.function enters.number from.from r.rest.history) x (code.arrangement.label c.here.function enters.number) wanted false) (sym spot) begins)
            (enters_block enters.number from.from is target from.there refl)

      pub going_step : DoesStep h e code (position_of r.rest) most q (step (over_homes h) c)
      going_step = by_step (step (over_homes h) c) done
        where
          by_step : (y : Stepped) → DoesEnd (program_in h e code) (places_in h e code c.here.function) q.state q.shown most (setting_of (over_homes h) r.addresses later (codes_in h e code c.here.function)) c r.holding (targets_of z) y → DoesStep h e code (position_of r.rest) most q y
          by_step (Goes d) enters = block_unseen d enters
          by_step (Shows seen d) never = absurd never
          by_step (EndsUnit seen) never = absurd never
          by_step Wild it = tt

  -- ---- A return

  module _ (v : Option Operand) (same : r.rest.block.end ≡ Return v) (fits : IsWordIfAny v) where
    abbrev source : Option Source
    source = option_map (source_of (codes_in h e code c.here.function).storage) v

    return_there : PiecesAt (program_in h e code) (places_in h e code c.here.function) r.index q.shown
        (return_pieces (codes_in h e code c.here.function).storage r.held (codes_in h e code c.here.function).saved (codes_in h e code c.here.function).size q.shown (length (codes_in h e code c.here.function).graph.blocks) next source) last
    return_there =
        let more = return_appends f.storage f.saved f.size (length f.graph.blocks) next source state in
        more.there (program_in h e code) (places_in h e code c.here.function) r.index last (subst (λ l. PlacedAt (program_in h e code) (places_in h e code c.here.function) r.index l last) more.is (end_there (Return v) same))

    abbrev longest : ℕ
    longest = result_words (codes_in h e code c.here.function).storage r.held source + (5 + length (leaving_code (codes_in h e code c.here.function).saved (codes_in h e code c.here.function).size))

    returned : DoesReturn (program_in h e code) q.state r.index q.shown longest (codes_in h e code) (over_homes h) r.addresses (GoesOn h e code) c (step (over_homes h) c)
    returned =
        return_end_done (program_in h e code) (codes_in h e code) (over_homes h) (all_codes h valid homed code.arrangement (over_homes h)) r.addresses (GoesOn h e code) (places_in h e code c.here.function) (code.inside c.here.function) main q.state r.index q.shown r.held c r.holding r.all r.stands
        (length f.graph.blocks) next last refl (ends_there h valid e code c.here.function r.rest.low) v none_left (end_is (Return v) same) (operands (Return v) same) fits return_there

    result_few : result_words (codes_in h e code c.here.function).storage r.held source ≤ last - r.index
    result_few = let long = pieces_long (program_in h e code) (places_in h e code c.here.function) r.index q.shown (return_pieces f.storage r.held f.saved f.size q.shown (length f.graph.blocks) next source) last return_there in by_source source long
      where
        by_source : (o : Option Source) → r.index + length (return_pieces f.storage r.held f.saved f.size q.shown (length f.graph.blocks) next o) ≤ last → result_words f.storage r.held o ≤ last - r.index
        by_source None long = omega arith
        by_source (Some value) long =
            let code_of_it = bringing f.storage r.held 10 value in
            let both = length-append (words code_of_it) (leaving f.saved f.size (begins_behind q.shown code_of_it) (length f.graph.blocks) next (room_behind f.storage.base value)) in
            let each = length_words code_of_it in
            omega (arith, long, both, each)

    pub return_step : DoesStep h e code (position_of r.rest) ((last - r.index) + (5 + length (leaving_code (codes_in h e code c.here.function).saved (codes_in h e code c.here.function).size))) q (step (over_homes h) c)
    return_step =
        let few = result_few in
        does_within h e code (position_of r.rest) longest _ q (step (over_homes h) c) (omega (arith, few)) (by_step (step (over_homes h) c) returned (step_right (over_homes h) c))
      where
        by_step : (y : Stepped) → DoesReturn (program_in h e code) q.state r.index q.shown longest (codes_in h e code) (over_homes h) r.addresses (GoesOn h e code) c y → ShowsRightly y → DoesStep h e code (position_of r.rest) longest q y
        by_step (Goes d) it right =
            let back : spot_of d.here ≡ spot_of it.caller = ap spot_of it.here ∙ wanted_spot it.caller.wants it.value it.caller in
            come_unseen h e code (position_of r.rest) (position_of it.resumed.rest) q r.index longest it.to false r.addresses [] d it.comes
            (subst (λ x. RestFrom h e code (position_of it.resumed.rest) x it.to [] false) (sym back) (record { rest = it.resumed.rest; is = refl })) (goes_back v is same it.resumed.calls)
        by_step (Shows seen d) never right = absurd never
        by_step (EndsUnit seen) it right = end_done h e code q longest seen it right
        by_step Wild it right = tt

  -- ---- Whichever it is

  pub end_step : DoesStep h e code (position_of r.rest) (longest_end (codes_in h e code c.here.function).saved (codes_in h e code c.here.function).size (code.arrangement.label c.here.function r.rest.at.next - r.index) r.rest.block.end) q (step (over_homes h) c)
  end_step = by_end r.rest.block.end refl (block_words h e code (spot_of c.here) r.index r.held q.shown r.rest).end
    where
      by_end : (z : End) → r.rest.block.end ≡ z → HasWordsAtEnd z → DoesStep h e code (position_of r.rest) (longest_end (codes_in h e code c.here.function).saved (codes_in h e code c.here.function).size (code.arrangement.label c.here.function r.rest.at.next - r.index) z) q (step (over_homes h) c)
      by_end (Jump to) same words = going_step (Jump to) same tt
      by_end (Branch k x y if_true if_false) same words = going_step (Branch k x y if_true if_false) same words
      by_end (Return None) same words = return_step None same tt
      by_end (Return (Some a)) same words = return_step (Some a) same words
