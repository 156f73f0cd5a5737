-- A marker has no word, but for one that does nothing where the place before it has none; the stop at the word behind it is shown where the unit shows one, and the frame stands.
use Rattle.std.proofs.Common.{◌≡◌, ℕ, ◌+◌, sym, ap, ◌∙◌, subst, arith, refl, Bool, true, false, cond, not, inl, inr, List, [], ◌∷◌, length}
use Rattle.std.specs.Prelude.{◌==◌, map}
use Rattle.rv_machine.specs.State.{MachineState}
use Rattle.rv_machine.specs.Run.{Arrival, is_stop}
use Rattle.graph_core.specs.Graphs.{Instruction, Marker}
use Rattle.graph_core.specs.Runs.{Configuration, Stop, Goes, Shows, frame as shown_frame, marked, at_place, step, step_from}
use Rattle.graph_homes.specs.Homed.{placed_instruction}
use Rattle.rv_emit_words.specs.declared.piece.Piece.{Piece}
use Rattle.rv_emit_words.specs.declared.piece.Piece.TheVariants as piece
use Rattle.rv_emit_storage.specs.Storages.{StorageForm, home_at}
use Rattle.rv_emit_words.specs.Growing.{CodeState, with_code}
use Rattle.rv_emit_instructions.specs.Code.{with_instruction}
use Rattle.rv_emit_steps.specs.Holding.{Holding}
use Rattle.rv_emit_steps.specs.Programs.{Program, address_of, CodeAt, Stands}
use Rattle.rv_emit_steps.specs.Points.{Leads, Reaches}
use Rattle.rv_emit_steps.proofs.Leading.{leads_then, stop_shown}
use Rattle.rv_emit_steps.proofs.Straight.{code_does}
use Rattle.rv_emit_steps.specs.Frames.{Setting, HoldsFrame}
use Rattle.rv_emit_steps.proofs.Steps.{going_on, rest_framed}
use Rattle.rv_emit_runs.specs.Pieces.{Targets, PiecesAt}
use Rattle.rv_emit_runs.specs.Markers.{marking_code, DoesMarker}

-- The word of a marker is the one that it becomes.
pub marker_appended : (g : StorageForm) (entry place : ℕ) (s : CodeState) → with_instruction g entry (Marker place) s ≡ record (with_code (marking_code s.begins) s) { owner = place; begins = not (place == entry) }
marker_appended g entry place s = by_test s.begins
  where
    by_test : (b : Bool) → record (cond b (with_code (marking_code true) s) s) { owner = place; begins = not (place == entry) } ≡ record (with_code (marking_code b) s) { owner = place; begins = not (place == entry) }
    by_test true = refl
    by_test false = refl

-- Where a place is in force that is a stop and has no word yet, there is a stop at the next word.
pub stop_stands : (p : Program) (t : Targets) (i : ℕ) (b : Bool) (x : Piece) (more : List Piece) (j : ℕ) → PiecesAt p t i b (x ∷ more) j → is_stop p.stops (address_of i) ≡ b
stop_stands p t i b (piece.Word x) more j (k, (at, next), rest) = at.stop
stop_stands p t i b (piece.Jump to) more j (k, inl (at, next), rest) = at.stop
stop_stands p t i b (piece.Jump to) more j (k, inr (at, low, next), rest) = at.stop
stop_stands p t i b (piece.Call f) more j (k, inl (at, next), rest) = at.stop
stop_stands p t i b (piece.Call f) more j (k, inr (at, low, next), rest) = at.stop
stop_stands p t i b (piece.Branch op l r to) more j (k, inl (at, next), rest) = at.stop
stop_stands p t i b (piece.Branch op l r to) more j (k, inr (at, jump), rest) = at.stop

-- Which place is in force is no part of the frame.
pub place_framed : (w : Setting) (c : Configuration) (h : Holding) (place : ℕ) → HoldsFrame w c h → HoldsFrame w (at_place place c) h
place_framed w c h place frame = record {
  fetch = frame.fetch;
  scratch = frame.scratch;
  aligned = frame.aligned;
  map = frame.map;
  low = frame.low;
  high = frame.high;
  homes = frame.homes;
  objects = frame.objects;
  laid = frame.laid;
  free = frame.free;
  own = frame.own;
  static = frame.static;
  arrays = frame.arrays;
}

module _ (p : Program) (s : MachineState) (i : ℕ) (b : Bool) (w : Setting) (c : Configuration) (h : Holding) (framed : HoldsFrame w c h) (stands : Stands p s i h) (place entry : ℕ) (of : c.here.graph.entry ≡ entry)
    (code : CodeAt p i b (marking_code b)) (stops : (place == entry) ≡ false → is_stop p.stops (address_of (i + length (marking_code b))) ≡ true) where
  -- The machine behind the word, if there is one.
  behind_marker : Reaches p (length (marking_code b)) (record { state = s; shown = b }) [] (i + length (marking_code b)) false h
  behind_marker = by_test b refl code
    where
      by_test : (d : Bool) → b ≡ d → CodeAt p i d (marking_code d) → Reaches p (length (marking_code d)) (record { state = s; shown = d }) [] (i + length (marking_code d)) false h
      by_test true e at = code_does p s i h true (marking_code true) stands at (tt, tt)
      by_test false e at = code_does p s i h false [] stands tt tt

  marks : DoesMarker p s i b w h (marked (at_place place c))
  marks = by_test (place == entry) refl
    where
      shown : is_stop p.stops (address_of (i + length (marking_code b))) ≡ true
          → Reaches p (length (marking_code b)) (record { state = s; shown = b }) (Arrival behind_marker.state ∷ []) (i + length (marking_code b)) true h
      shown on =
          let n : length (marking_code b) + 0 ≡ length (marking_code b) = omega arith in
          let here : is_stop p.stops behind_marker.state.pc ≡ true = ap (is_stop p.stops) behind_marker.stands.pc ∙ on in
          record {
            state = behind_marker.state;
            leads = subst (λ m. Leads p.stops m (record { state = s; shown = b }) (Arrival behind_marker.state ∷ []) (record { state = behind_marker.state; shown = true })) n
                (leads_then p.stops (length (marking_code b)) 0 (record { state = s; shown = b }) [] (record { state = behind_marker.state; shown = false }) (Arrival behind_marker.state ∷ []) (record { state = behind_marker.state; shown = true })
                behind_marker.leads (stop_shown p.stops behind_marker.state here));
            stands = behind_marker.stands;
          }

      by_test : (e : Bool) → (place == entry) ≡ e → DoesMarker p s i b w h (marked (at_place place c))
      by_test true e =
          subst (λ q. DoesMarker p s i b w h (cond q (Goes (at_place place c)) (Shows (Stop (shown_frame (at_place place c).here ∷ map shown_frame c.waiting) c.memory) (at_place place c)))) (sym (ap (λ n. place == n) of ∙ e))
          (behind_marker, place_framed w c h place framed)
      by_test false e =
          subst (λ q. DoesMarker p s i b w h (cond q (Goes (at_place place c)) (Shows (Stop (shown_frame (at_place place c).here ∷ map shown_frame c.waiting) c.memory) (at_place place c)))) (sym (ap (λ n. place == n) of ∙ e))
          (record { state = behind_marker.state; reaches = shown (stops e); is = refl; frame = place_framed w c h place framed; event = refl })

-- The step of a marker. A stop is asked for behind the word only where the place is no entry.
pub marker_done : (p : Program) (s : MachineState) (i : ℕ) (b : Bool) (w : Setting) (c : Configuration) (h : Holding) (place entry : ℕ) (rest : List Instruction) → HoldsFrame w c h → Stands p s i h → c.here.graph.entry ≡ entry
    → c.here.rest ≡ placed_instruction (home_at w.storage) (Marker place) ∷ rest → CodeAt p i b (marking_code b) → ((place == entry) ≡ false → is_stop p.stops (address_of (i + length (marking_code b))) ≡ true) → DoesMarker p s i b w h (step w.unit c)
marker_done p s i b w c h place entry rest framed stands of is code stops =
    subst (λ all. DoesMarker p s i b w h (step_from w.unit all c)) (sym is) (marks p s i b w (going_on c rest) h (rest_framed w c h rest framed) stands place entry of code stops)
