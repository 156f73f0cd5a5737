-- The machine does the step of a marker: it stands at the stop where the unit shows one.
use Rattle.std.proofs.Common.{◌≡◌, ℕ, ◌+◌, sym, ap, ◌∙◌, subst, arith, refl, Some, Bool, true, false, cond, not, List, [], ◌∷◌, length, map}
use Rattle.std.specs.Prelude.{◌==◌, slice_index}
use Rattle.rv_machine.specs.Run.{Arrival, is_stop}
use Rattle.graph_core.specs.Graphs.{Instruction, Marker, Graph}
use Rattle.graph_core.specs.Runs.{Configuration, Stepped, Goes, Shows, Stop, frame as shown_frame, at_place, step}
use Rattle.graph_core.specs.Validity.{IsValid}
use Rattle.graph_homes.specs.Homed.{HomedForm, HaveHomes, placed_instruction, over_homes}
use Rattle.rv_emit_tables.specs.Emitted.{EmittedForm}
use Rattle.rv_emit_words.specs.declared.piece.PlacedPiece.{PlacedPiece}
use Rattle.rv_emit_storage.specs.Storages.{home_at}
use Rattle.rv_emit_words.specs.Growing.{CodeState}
use Rattle.rv_emit_instructions.specs.Code.{with_instruction}
use Rattle.rv_emit_steps.specs.Programs.{address_of, CodeAt, Stands}
use Rattle.rv_emit_steps.specs.Points.{Point}
use Rattle.rv_emit_steps.specs.Frames.{Setting}
use Rattle.rv_emit_steps.proofs.Steps.{going_on}
use Rattle.rv_emit_runs.specs.Markers.{marking_code, DoesMarker}
use Rattle.rv_emit_runs.specs.Placed.{PlacedAt}
use Rattle.rv_emit_runs.specs.Returns.{Resumes}
use Rattle.rv_emit_runs.specs.Waiting.{FunctionCode, setting_of}
use Rattle.rv_emit_runs.proofs.Blocks.{place_all}
use Rattle.rv_emit_runs.proofs.CallSteps.{all_going_on}
use Rattle.rv_emit_runs.proofs.Markers.{marker_appended, marker_done, stop_stands}
use Rattle.rv_emit_runs.specs.Laid.{stop_addresses, IsCode}
use Rattle.rv_emit_runs.specs.Standing.{stop}
use Rattle.rv_emit_runs.proofs.Begun.{IsBegun, rest_begun}
use Rattle.rv_emit_runs.proofs.Places.{keeps_same}
use Rattle.rv_emit_runs.proofs.Related.{GoesOn, Related, DoesStep, does_within}
use Rattle.rv_emit_runs.proofs.Rest.{program_in, codes_in, blocks_in, places_in, left_code, position_of, RestFrom, NextAt, next_at, rest_behind}
use Rattle.rv_emit_runs.proofs.States.{growing, going_on_from, code_goes_on, code_there, pieces_of_code, first_owned}
use Rattle.rv_emit_runs.proofs.Stopping.{stands_at}
use Rattle.rv_emit_runs.proofs.Straights.{step_is, rest_is}
use Rattle.rv_emit_runs.proofs.Tracks.{pieces_of, passed_by, Advances, passes_one}
use Rattle.rv_emit_runs.proofs.UnitSteps.{spot_of}

-- Where what stands from an index on has a first piece, its words say whether there is a stop, and whose it is.
first_stop : (h : HomedForm) (e : EmittedForm) (code : IsCode h e) (f i : ℕ) (all : List PlacedPiece) (j place : ℕ) → PlacedAt (program_in h e code) (places_in h e code f) i all j → IsBegun place all
    → (is_stop (stop_addresses e) (address_of i) ≡ true) × (slice_index e.owners i ≡ place)
first_stop h e code f i all j place there begun =
    let at : PlacedAt (program_in h e code) (places_in h e code f) i (begun.first ∷ begun.more) j = subst (λ l. PlacedAt (program_in h e code) (places_in h e code f) i l j) begun.is there in
    (stop_is at, first_owned (program_in h e code) (places_in h e code f) i begun.first begun.more j at ∙ begun.owner)
  where
    stop_is : PlacedAt (program_in h e code) (places_in h e code f) i (begun.first ∷ begun.more) j → is_stop (stop_addresses e) (address_of i) ≡ true
    stop_is (k, at, of, rest) = stop_stands (program_in h e code) (places_in h e code f) i begun.first.is_stop begun.first.piece [] k (k, at, refl) ∙ begun.stop

module _ (h : HomedForm) (valid : IsValid h.unit) (homed : HaveHomes h) (e : EmittedForm) (code : IsCode h e) (c : Configuration) (q : Point) (r : Related h e code c q) (place : ℕ) (more : List Instruction) (is : r.rest.more ≡ Marker place ∷ more) where
  abbrev f : FunctionCode
  f = codes_in h e code c.here.function

  abbrev rest : List Instruction
  rest = map (placed_instruction (home_at (codes_in h e code c.here.function).storage)) more

  abbrev entry : ℕ
  entry = (codes_in h e code c.here.function).graph.entry

  abbrev d : Configuration
  d = at_place place (going_on c (map (placed_instruction (home_at (codes_in h e code c.here.function).storage)) more))

  next : NextAt h e code (spot_of c.here) r.index r.held q.shown r.rest (Marker place) more
  next = next_at h e code (spot_of c.here) r.index r.held q.shown r.rest (Marker place) more is

  state : going_on_from (with_instruction (codes_in h e code c.here.function).storage (codes_in h e code c.here.function).graph.entry (Marker place) (growing r.held r.rest.owner q.shown)) ≡ growing r.held place (not (place == (codes_in h e code c.here.function).graph.entry))
  state =
      let s : CodeState = growing r.held r.rest.owner q.shown in
      ap going_on_from (marker_appended f.storage entry place s) ∙ ap (λ (t : CodeState). growing t.held place (not (place == entry))) (code_goes_on (marking_code q.shown) s)

  -- Its word, if there is one, and where what is left stands behind it.
  there : CodeAt (program_in h e code) r.index q.shown (marking_code q.shown) × (next.behind_it ≡ r.index + length (marking_code q.shown))
  there =
      let s : CodeState = growing r.held r.rest.owner q.shown in
      code_there (program_in h e code) (places_in h e code c.here.function) r.index next.behind_it (marking_code q.shown) s refl
      (subst (λ (t : CodeState). PlacedAt (program_in h e code) (places_in h e code c.here.function) r.index t.pieces next.behind_it) (marker_appended f.storage entry place s) next.there)

  later : RestFrom h e code (passed_by (position_of r.rest) (Marker place) more) (spot_of (at_place place (going_on c (map (placed_instruction (home_at (codes_in h e code c.here.function).storage)) more))).here) (r.index + length (marking_code q.shown)) r.held (not (place == (codes_in h e code c.here.function).graph.entry))
  later =
      subst (λ k. RestFrom h e code (passed_by (position_of r.rest) (Marker place) more) (spot_of d.here) k r.held (not (place == entry))) there.1
      (rest_behind h e code (spot_of c.here) r.index r.held q.shown r.rest (Marker place) more is next place place r.held (not (place == entry)) state (keeps_same more (Some place) (Some place) refl) refl refl)

  -- Where the place is a stop, there is a stop at the next word, which belongs to the place.
  stopped : (place == (codes_in h e code c.here.function).graph.entry) ≡ false → (is_stop (stop_addresses e) (address_of (r.index + length (marking_code q.shown))) ≡ true) × (slice_index e.owners (r.index + length (marking_code q.shown)) ≡ place)
  stopped other =
      let s : CodeState = growing r.held place true in
      let begins : not (place == entry) ≡ true = ap not other in
      let stands = subst (λ k. PlacedAt (program_in h e code) (places_in h e code c.here.function) k (left_code h code.arrangement c.here.function r.rest.at.next r.rest.at.loads r.rest.block.end more s).pieces (code.arrangement.label c.here.function r.rest.at.next)) there.1
      (subst
      (λ (t : CodeState). PlacedAt (program_in h e code) (places_in h e code c.here.function) next.behind_it (left_code h code.arrangement c.here.function r.rest.at.next r.rest.at.loads r.rest.block.end more t).pieces (code.arrangement.label c.here.function r.rest.at.next))
      (state ∙ ap (λ b. growing r.held place b) begins) next.later) in
      first_stop h e code c.here.function (r.index + length (marking_code q.shown)) (left_code h code.arrangement c.here.function r.rest.at.next r.rest.at.loads r.rest.block.end more s).pieces (code.arrangement.label c.here.function r.rest.at.next) place stands
      (rest_begun place f.storage entry f.saved f.size (length f.graph.blocks) r.rest.at.next r.rest.at.loads r.rest.block.end more s refl refl refl)

  marker_does : DoesStep h e code (position_of r.rest) (length (marking_code q.shown)) q (step (over_homes h) c)
  marker_does = subst (λ z. DoesStep h e code (position_of r.rest) (length (marking_code q.shown)) q z) (sym does) (by_test (place == entry) refl)
    where
      of : c.here.graph.entry ≡ (codes_in h e code c.here.function).graph.entry
      of = ap (λ (g : Graph). g.entry) r.rest.graph

      does : step (over_homes h) c ≡ cond (place == (codes_in h e code c.here.function).graph.entry) (Goes (at_place place (going_on c (map (placed_instruction (home_at (codes_in h e code c.here.function).storage)) more))))
          (Shows (Stop (shown_frame (at_place place (going_on c (map (placed_instruction (home_at (codes_in h e code c.here.function).storage)) more))).here ∷ map shown_frame c.waiting) c.memory) (at_place place (going_on c (map (placed_instruction (home_at (codes_in h e code c.here.function).storage)) more))))
      does = step_is h valid homed e code c q r (Marker place) more is ∙ ap (λ n. cond (place == n) (Goes d) (Shows (Stop (shown_frame d.here ∷ map shown_frame c.waiting) c.memory) d)) of

      marks : DoesMarker (program_in h e code) q.state r.index q.shown (setting_of (over_homes h) r.addresses r.held (codes_in h e code c.here.function)) r.holding (step (over_homes h) c)
      marks =
          let w : Setting = setting_of (over_homes h) r.addresses r.held f in
          marker_done (program_in h e code) q.state r.index q.shown w c r.holding place entry rest r.all.here r.stands of (rest_is h valid homed e code c q r (Marker place) more is) there.0 (λ other. (stopped other).0)

      by_test : (b : Bool) → (place == (codes_in h e code c.here.function).graph.entry) ≡ b
          → DoesStep h e code (position_of r.rest) (length (marking_code q.shown)) q (cond b (Goes (at_place place (going_on c (map (placed_instruction (home_at (codes_in h e code c.here.function).storage)) more))))
          (Shows (Stop (shown_frame (at_place place (going_on c (map (placed_instruction (home_at (codes_in h e code c.here.function).storage)) more))).here ∷ map shown_frame c.waiting) c.memory) (at_place place (going_on c (map (placed_instruction (home_at (codes_in h e code c.here.function).storage)) more)))))
      by_test true same =
          let w : Setting = setting_of (over_homes h) r.addresses r.held f in
          let shows : Stepped = Shows (Stop (shown_frame d.here ∷ map shown_frame c.waiting) c.memory) d in
          let done = subst (λ z. DoesMarker (program_in h e code) q.state r.index q.shown w r.holding z) (does ∙ ap (λ b. cond b (Goes d) shows) same) marks in
          let all = place_all (codes_in h e code) (over_homes h) r.addresses (Resumes (program_in h e code) (codes_in h e code) (GoesOn h e code)) r.held (going_on c rest) r.holding place
          (all_going_on (codes_in h e code) (over_homes h) r.addresses (Resumes (program_in h e code) (codes_in h e code) (GoesOn h e code)) r.held c r.holding rest r.all) in
          let begun = subst (λ b. RestFrom h e code (passed_by (position_of r.rest) (Marker place) more) (spot_of d.here) (r.index + length (marking_code q.shown)) r.held (not b)) same later in
          record {
            count = length (marking_code q.shown);
            few = omega arith;
            point = record { state = done.0.state; shown = false };
            leads = done.0.leads;
            related = record {
              addresses = r.addresses;
              index = r.index + length (marking_code q.shown);
              held = r.held;
              holding = r.holding;
              stands = done.0.stands;
              all = all;
              rest = begun.rest;
            };
            advances = subst (λ p. Advances (blocks_in h e code) (position_of r.rest) p) (sym begun.is) (passes_one (Marker place) more is refl refl);
          }
      by_test false same =
          let w : Setting = setting_of (over_homes h) r.addresses r.held f in
          let shows : Stepped = Shows (Stop (shown_frame d.here ∷ map shown_frame c.waiting) c.memory) d in
          let done = subst (λ z. DoesMarker (program_in h e code) q.state r.index q.shown w r.holding z) (does ∙ ap (λ b. cond b (Goes d) shows) same) marks in
          let all = place_all (codes_in h e code) (over_homes h) r.addresses (Resumes (program_in h e code) (codes_in h e code) (GoesOn h e code)) r.held (going_on c rest) r.holding place
          (all_going_on (codes_in h e code) (over_homes h) r.addresses (Resumes (program_in h e code) (codes_in h e code) (GoesOn h e code)) r.held c r.holding rest r.all) in
          let stopping = stopped same in
          let begun = subst (λ b. RestFrom h e code (passed_by (position_of r.rest) (Marker place) more) (spot_of d.here) (r.index + length (marking_code q.shown)) r.held (not b)) same later in
          record {
            count = length (marking_code q.shown);
            few = omega arith;
            event = Arrival done.state;
            point = record { state = done.reaches.state; shown = true };
            leads = done.reaches.leads;
            same = stop (stands_at h valid homed e code r.addresses r.held d r.holding done.state (r.index + length (marking_code q.shown)) all
                (subst (λ s. Stands (program_in h e code) s (r.index + length (marking_code q.shown)) r.holding) done.is done.reaches.stands) stopping.0 stopping.1);
            related = record {
              addresses = r.addresses;
              index = r.index + length (marking_code q.shown);
              held = r.held;
              holding = r.holding;
              stands = done.reaches.stands;
              all = all;
              rest = begun.rest;
            };
          }

  -- Its word, if there is one, is its piece.
  pub marker_step : DoesStep h e code (position_of r.rest) (pieces_of (codes_in h e code c.here.function).storage (codes_in h e code c.here.function).graph.entry (Marker place) (growing r.held r.rest.owner q.shown)) q (step (over_homes h) c)
  marker_step =
      let s : CodeState = growing r.held r.rest.owner q.shown in
      let same = ap (λ (t : CodeState). length t.pieces) (marker_appended f.storage entry place s) in
      let many = pieces_of_code (marking_code q.shown) s in
      does_within h e code (position_of r.rest) (length (marking_code q.shown)) _ q (step (over_homes h) c) (omega (arith, same, many)) marker_does
