-- The activations that called the innermost one.
use Rattle.std.proofs.Common.{◌≡◌, ◌≢◌, ℕ, zero, suc, ◌+◌, ◌-◌, ◌/◌, ◌%◌, ◌<◌, ◌≤◌, ◌==◌, Bool, true, false, if◌then◌else◌, Option, Some, None, List, [], ◌∷◌, ◌++◌, length, get_or, IsSomeAnd, refl, sym, ap, ◌∙◌, subst, inl, inr, append_assoc, arith, All}
use Rattle.std.specs.Prelude.{◌&&◌, nat_le, slice_index}
use Rattle.std.proofs.lemmas.Bool.{cases_lt}
use Rattle.std.proofs.lemmas.Bool.Decides.{nat_tests}
use Rattle.std.proofs.lemmas.List.{get_or_past, get_or_append_left, length-append}
use Rattle.std.proofs.Math.Seq.{get_or-append_seam}
use Rattle.std.proofs.lemmas.Option.{slice_get-get_or, slice_get_within}
use Rattle.image_form.specs.Form.{Form, numbered}
use Rattle.image_form.specs.declared.tables.Place.{Place}
use Rattle.image_form.specs.Rules.{IsImage}
use Rattle.image_form.specs.RulesOfFunctions.{IsPlaceNumber}
use Rattle.image_form.specs.RulesOfPlaces.{IsInFunction, word_address}
use Rattle.rv_machine.specs.State.{MachineState, reg, word, code_start}
use Rattle.stop_engine_view.specs.Reading.{frames, frames_from, frame_of, greatest_depth, is_stack_address, place_of_word}
use Rattle.stop_engine_view.specs.Callers.{calling_place, return_address}

-- a number of which something is known is a number of the places
numbered_place : (m : Form) (n : ℕ) (P : Place → Type 0) (o : Option Place) → numbered m.places n ≡ o → IsSomeAnd o P → IsPlaceNumber m n
numbered_place m n P None e h = absurd h
numbered_place m zero P (Some p) e h = absurd cc
numbered_place m (suc i) P (Some p) e h = let within = slice_get_within m.places i p e in (omega arith, omega arith)

owner_at : (m : Form) (w : ℕ) → IsImage m → slice_index m.owners w ≢ 0 → IsPlaceNumber m (slice_index m.owners w)
owner_at m w image some = elim (cases_lt w (length m.owners)) [
  | inl lt ↦ numbered_place m (slice_index m.owners w) (λ p. IsInFunction m p.function (word_address w)) _ refl (image.owners.owned w (slice_index m.owners w) (slice_get-get_or m.owners w 0 lt) some)
  | inr past ↦ absurd (some (get_or_past m.owners w 0 past))
]

-- the owner of a word of code, if it has one, is a place of the image
pub owner_number : (m : Form) (a : ℕ) → IsImage m → place_of_word m a ≢ 0 → IsPlaceNumber m (place_of_word m a)
owner_number m a image some = by_test (a % 4 == 0 && nat_le code_start a) refl
  where
    by_test : (b : Bool) → (a % 4 == 0 && nat_le code_start a) ≡ b → IsPlaceNumber m (place_of_word m a)
    by_test true t =
        let is : place_of_word m a ≡ slice_index m.owners ((a - code_start) / 4) = rw t refl in
        subst (IsPlaceNumber m) (sym is) (owner_at m ((a - code_start) / 4) image (λ none. some (is ∙ none)))
    by_test false t = absurd (some (rw t refl))

pub calling_number : (m : Form) (s : MachineState) (sp : ℕ) → IsImage m → calling_place m s sp ≢ 0 → IsPlaceNumber m (calling_place m s sp)
calling_number m s sp image some = by_test (is_stack_address s sp && sp % 4 == 0) refl
  where
    by_test : (b : Bool) → (is_stack_address s sp && sp % 4 == 0) ≡ b → IsPlaceNumber m (calling_place m s sp)
    by_test true t =
        let is : calling_place m s sp ≡ place_of_word m (word (return_address s sp + 4294967292)) = rw t refl in
        subst (IsPlaceNumber m) (sym is) (owner_number m (word (return_address s sp + 4294967292)) image (λ none. some (is ∙ none)))
    by_test false t = absurd (some (rw t refl))

-- an activation, and those that called it
pub frames_next : (n : ℕ) (m : Form) (s : MachineState) (place sp : ℕ) → frames_from (suc n) m s place sp
    ≡ place ∷ (if calling_place m s sp == 0 then [] else frames_from n m s (calling_place m s sp) (word (sp + frame_of m place)))
frames_next n m s place sp = by_test (is_stack_address s sp && sp % 4 == 0) refl
  where
    by_test : (b : Bool) → (is_stack_address s sp && sp % 4 == 0) ≡ b → frames_from (suc n) m s place sp
        ≡ place ∷ (if calling_place m s sp == 0 then [] else frames_from n m s (calling_place m s sp) (word (sp + frame_of m place)))
    by_test true t = rw t refl
    by_test false t = rw t refl

-- one activation more
pub frames_more : (n : ℕ) (m : Form) (s : MachineState) (place sp caller : ℕ) (before after whole : List ℕ) → caller ≡ calling_place m s sp → caller ≢ 0 → after ≡ before ++ place ∷ []
    → before ++ frames_from (suc n) m s place sp ≡ whole → after ++ frames_from n m s caller (word (sp + frame_of m place)) ≡ whole
frames_more n m s place sp caller before after whole is some pushed so_far =
    let test : (calling_place m s sp == 0) ≡ false = grind (arith, nat_tests, is, some) in
    let next : frames_from (suc n) m s place sp ≡ place ∷ frames_from n m s caller (word (sp + frame_of m place)) =
    frames_next n m s place sp ∙ ap (λ b. place ∷ (if b then [] else frames_from n m s (calling_place m s sp) (word (sp + frame_of m place)))) test ∙ ap (λ k. place ∷ frames_from n m s k (word (sp + frame_of m place))) (sym is) in
    ap (λ b. b ++ frames_from n m s caller (word (sp + frame_of m place))) pushed ∙ append_assoc before (place ∷ []) (frames_from n m s caller (word (sp + frame_of m place))) ∙ ap (λ l. before ++ l) (sym next) ∙ so_far

-- the outermost activation
pub frames_last : (n : ℕ) (m : Form) (s : MachineState) (place sp caller : ℕ) (before after whole : List ℕ) → caller ≡ calling_place m s sp → caller ≡ 0 → after ≡ before ++ place ∷ []
    → before ++ frames_from (suc n) m s place sp ≡ whole → after ≡ whole
frames_last n m s place sp caller before after whole is none pushed so_far =
    let test : (calling_place m s sp == 0) ≡ true = grind (arith, nat_tests, is, none) in
    let next : frames_from (suc n) m s place sp ≡ place ∷ [] =
    frames_next n m s place sp ∙ ap (λ b. place ∷ (if b then [] else frames_from n m s (calling_place m s sp) (word (sp + frame_of m place)))) test in
    pushed ∙ ap (λ l. before ++ l) (sym next) ∙ so_far

-- what holds of each of some numbers and of one more holds of each
pub all_more : (P : ℕ → Type 0) (xs ys : List ℕ) (y : ℕ) → ys ≡ xs ++ y ∷ [] → P y → All P xs → All P ys
all_more P xs ys y same last all = subst (All P) (sym same) (λ k d lt. elim (cases_lt k (length xs)) [
  | inl before ↦ subst P (sym (get_or_append_left xs (y ∷ []) d k before)) (all k d before)
  | inr behind ↦
      let at : k ≡ length xs = omega (arith, lt, length-append xs (y ∷ [])) in
      subst P (sym (ap (λ n. get_or (xs ++ y ∷ []) n d) at ∙ get_or-append_seam xs y [] d)) last
])

-- there are no more activations than are counted
frames_short : (n : ℕ) (m : Form) (s : MachineState) (place sp : ℕ) → length (frames_from n m s place sp) ≤ n
frames_short zero m s place sp = omega arith
frames_short (suc n) m s place sp = by_test (calling_place m s sp == 0) refl (frames_short n m s (calling_place m s sp) (word (sp + frame_of m place)))
  where
    by_test : (b : Bool) → (calling_place m s sp == 0) ≡ b → length (frames_from n m s (calling_place m s sp) (word (sp + frame_of m place))) ≤ n → length (frames_from (suc n) m s place sp) ≤ suc n
    by_test true t rest =
        let next : frames_from (suc n) m s place sp ≡ place ∷ [] = frames_next n m s place sp ∙ ap (λ b. place ∷ (if b then [] else frames_from n m s (calling_place m s sp) (word (sp + frame_of m place)))) t in
        omega (arith, ap length next)
    by_test false t rest =
        let next : frames_from (suc n) m s place sp ≡ place ∷ frames_from n m s (calling_place m s sp) (word (sp + frame_of m place)) = frames_next n m s place sp ∙ ap (λ b. place ∷ (if b then [] else frames_from n m s (calling_place m s sp) (word (sp + frame_of m place)))) t in
        omega (arith, ap length next, rest)

pub frames_few : (m : Form) (s : MachineState) (place : ℕ) → length (frames m s place) < 4294967296
unfolding greatest_depth
frames_few m s place = let most = frames_short greatest_depth m s place (reg s 2) in omega (arith, most)
