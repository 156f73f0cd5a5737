-- The elements of an array, one after the other.
use Rattle.std.proofs.Common.{◌≡◌, ℕ, suc, ◌+◌, List, [], ◌∷◌, ◌++◌, map, ap, ◌∙◌, append_assoc}
use Rattle.std.specs.Prelude.{Vec}
use Rattle.std.specs.Global.{Global}
use Rattle.std.proofs.lemmas.List.{map-append}
use Rattle.image_form.specs.Form.{Form}
use Rattle.image_form.specs.declared.variables.ElementType.{ElementType}
use Rattle.rv_machine.specs.State.{MachineState, word}
use Rattle.stop_engine_view.specs.Words.{element_size, element_word}
use Rattle.stop_engine_view.specs.Values.{element_texts, word_text}

-- one element more
pub elements_more : (m : Form) (s : MachineState) (place : ℕ) (element : ElementType) (n at w size : ℕ) (text : Vec ℕ Global) (texts more : List (Vec ℕ Global)) (whole : List (List ℕ))
    → w ≡ element_word s element at → text.items ≡ word_text m s place element w → size ≡ element_size element → more ≡ texts ++ text ∷ []
    → map (λ (t : Vec ℕ Global). t.items) texts ++ element_texts m s place element (suc n) at ≡ whole
    → map (λ (t : Vec ℕ Global). t.items) more ++ element_texts m s place element n (word (at + size)) ≡ whole
elements_more m s place element n at w size text texts more whole is shown size_is pushed so_far =
    let items : List (List ℕ) = map (λ (t : Vec ℕ Global). t.items) texts in
    let rest : List (List ℕ) = element_texts m s place element n (word (at + element_size element)) in
    let first : text.items ≡ word_text m s place element (element_word s element at) = shown ∙ ap (word_text m s place element) is in
    ap (λ k. map (λ (t : Vec ℕ Global). t.items) more ++ element_texts m s place element n (word (at + k))) size_is
    ∙ ap (λ (l : List (Vec ℕ Global)). map (λ (t : Vec ℕ Global). t.items) l ++ rest) pushed
    ∙ ap (λ l. l ++ rest) (map-append (λ (t : Vec ℕ Global). t.items) texts (text ∷ []))
    ∙ append_assoc items (text.items ∷ []) rest
    ∙ ap (λ t. items ++ t ∷ rest) first ∙ so_far
