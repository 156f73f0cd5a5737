-- The lines of activations.
use Rattle.std.proofs.Common.{◌≡◌, ◌≢◌, ◌↔◌, ℕ, zero, suc, ◌+◌, ◌<◌, ◌≤◌, ◌==◌, Bool, true, false, Some, None, List, [], ◌∷◌, length, map, refl, sym, ap, ◌∙◌, subst, if◌then◌else◌, arith, All, inl, inr}
use Rattle.std.proofs.lemmas.Bool.Decides.{nat_tests}
use Rattle.std.proofs.lemmas.Option.{slice_get_cases}
use Rattle.std.proofs.lemmas.List.{length-map}
use Rattle.image_form.specs.Form.{Form, numbered}
use Rattle.image_form.specs.Views.{viewed}
use Rattle.image_form.specs.Rules.{IsImage}
use Rattle.image_form.specs.declared.tables.Place.{Place}
use Rattle.image_form.specs.RulesOfFunctions.{IsPlaceNumber}
use Rattle.line_form.specs.Lines.{frame_line}
use Rattle.rv_machine.specs.State.{MachineState, reg, word}
use Rattle.stop_engine.specs.declared.activations.Frame.{Frame}
use Rattle.stop_engine.specs.declared.run.Stop.{Stop}
use Rattle.stop_engine.specs.Activations.{activation_at, activation_lines, activation_of, activations}
use Rattle.stop_engine.specs.EngineState.{RunState}
use Rattle.stop_engine_view.specs.Callers.{calling_place}
use Rattle.stop_engine.specs.Frames.{frame_line_at, frame_lines}
use Rattle.stop_engine_view.specs.Reading.{frame_of, frames, frames_from, greatest_depth}
use Rattle.stop_engine.specs.Shown.{where_lines}
use Rattle.stop_engine.specs.Stopping.{IsAtNoStop, IsStopOf}
use Rattle.stop_engine.specs.Transcript.{Position, Standing, at_stop}
use Rattle.stop_engine.proofs.Answering.{at_stop-said}
use Rattle.stop_engine_view.proofs.Callers.{calling_number, frames_few, frames_next}

-- the record of a number among them
record_of : {A : Type 0} (xs : List A) (n : ℕ) → 1 ≤ n → n ≤ length xs → (x : A) × (numbered xs n ≡ Some x)
record_of xs zero some within = absurd (omega arith)
record_of xs (suc i) some within = elim (slice_get_cases xs i).1 [
  | inl there ↦ (there.0, there.2)
  | inr past ↦ absurd (omega (arith, past.0, within))
]

line_at : (m : Form) (number place : ℕ) → IsPlaceNumber m place → frame_line number (activation_at m place).function (activation_at m place).line (activation_at m place).place ≡ frame_line_at m number place
line_at m number place is = let at = record_of m.places place is.0 is.1 in rw at.1 refl

-- the lines of the activations that stand at places of the image
pub lines_at : (m : Form) (number : ℕ) (places : List ℕ) → All (IsPlaceNumber m) places → activation_lines number (map (activation_at m) places) ≡ frame_lines m number places
lines_at m number [] all = refl
lines_at m number (place ∷ places) all =
    ap (λ l. l ∷ activation_lines (number + 1) (map (activation_at m) places)) (line_at m number place (all 0 place (omega arith)))
    ∙ ap (λ l. frame_line_at m number place ∷ l) (lines_at m (number + 1) places (λ k d lt. all (suc k) d (omega arith)))

-- what holds of the first and of each that follows holds of each
all_front : (P : ℕ → Type 0) (x : ℕ) (xs : List ℕ) → P x → All P xs → All P (x ∷ xs)
all_front P x xs first all zero d lt = first
all_front P x xs first all (suc k) d lt = all k d (omega arith)

-- activations stand at places of the image
frames_number : (n : ℕ) (m : Form) (s : MachineState) (place sp : ℕ) → IsImage m → IsPlaceNumber m place → All (IsPlaceNumber m) (frames_from n m s place sp)
frames_number zero m s place sp image is = λ k d lt. absurd (omega arith)
frames_number (suc n) m s place sp image is =
    by_test (calling_place m s sp == 0) refl (λ some. frames_number n m s (calling_place m s sp) (word (sp + frame_of m place)) image (calling_number m s sp image some))
  where
    by_test : (b : Bool) → (calling_place m s sp == 0) ≡ b → (calling_place m s sp ≢ 0 → All (IsPlaceNumber m) (frames_from n m s (calling_place m s sp) (word (sp + frame_of m place)))) → All (IsPlaceNumber m) (frames_from (suc n) m s place sp)
    by_test true t rest =
        let next : frames_from (suc n) m s place sp ≡ place ∷ [] = frames_next n m s place sp ∙ ap (λ b. place ∷ (if b then [] else frames_from n m s (calling_place m s sp) (word (sp + frame_of m place)))) t in
        subst (All (IsPlaceNumber m)) (sym next) (all_front (IsPlaceNumber m) place [] is (λ k d lt. absurd (omega arith)))
    by_test false t rest =
        let next : frames_from (suc n) m s place sp ≡ place ∷ frames_from n m s (calling_place m s sp) (word (sp + frame_of m place)) = frames_next n m s place sp ∙ ap (λ b. place ∷ (if b then [] else frames_from n m s (calling_place m s sp) (word (sp + frame_of m place)))) t in
        let some : calling_place m s sp ≢ 0 = λ none. grind (arith, nat_tests, t, none) in
        subst (All (IsPlaceNumber m)) (sym next) (all_front (IsPlaceNumber m) place _ is (rest some))

-- there are few activations
pub activations_few : (m : Form) (s : MachineState) (place : ℕ) (all : List Frame) → map activation_of all ≡ activations m s place → length all < 4294967296
activations_few m s place all are =
    let same : length all ≡ length (frames m s place) = sym (length-map all activation_of) ∙ (ap length are ∙ length-map (frames m s place) (activation_at m)) in
    omega (arith, same, frames_few m s place)

-- the lines of `where`, by what is seen of the activations
pub where_said : (r : RunState) (stop : Stop) (all : List Frame) (lines : List (List ℕ)) → IsStopOf r stop → map activation_of all ≡ activations (viewed stop.image) stop.machine.now stop.place
    → lines ≡ activation_lines 0 (map activation_of all) → lines ≡ at_stop r.form r.position (where_lines r.form)
where_said r stop all lines is seen said =
    let m = viewed stop.image in
    let s = stop.machine.now in
    let numbers : All (IsPlaceNumber m) (frames m s stop.place) = frames_number greatest_depth m s stop.place (reg s 2) is.valid is.number in
    at_stop-said r stop (where_lines r.form) lines is (said ∙ (ap (activation_lines 0) seen ∙ (lines_at m 0 (frames m s stop.place) numbers ∙ ap (λ (n : Form). where_lines n s stop.place) is.image)))

-- there is an activation at each stop
some_activation : (m : Form) (s : MachineState) (place : ℕ) → activations m s place ≢ []
unfolding greatest_depth
some_activation m s place none =
    let next = ap (map (activation_at m)) (frames_next 1023 m s place (reg s 2)) in
    absurd (let same = sym next ∙ none in cc)

at_stop-not_none : (p : Position) (s : MachineState) → p ≡ Standing s → IsAtNoStop p → ⊥
at_stop-not_none p s is none = subst IsAtNoStop is none

-- at a stop there are activations
pub none_nowhere : (r : RunState) (stop : Stop) (all : List Frame) → IsStopOf r stop → map activation_of all ≡ activations (viewed stop.image) stop.machine.now stop.place → (all ≡ []) ↔ IsAtNoStop r.position
none_nowhere r stop all is seen = (
  λ none. absurd (some_activation (viewed stop.image) stop.machine.now stop.place (sym seen ∙ ap (map activation_of) none)),
  λ nowhere. absurd (at_stop-not_none r.position stop.machine.now is.position nowhere),
)
