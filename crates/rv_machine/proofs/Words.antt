-- The words of bytes, one after the other, and their instructions.
use Rattle.std.proofs.Common.{◌≡◌, ℕ, ◌+◌, ◌*◌, ◌++◌, List, [], ◌∷◌, map, sym, ap, ◌∙◌, arith, Option, IfSome}
use Rattle.std.specs.List.{All, range_with_len}
use Rattle.std.proofs.lemmas.List.{map_push}
use Rattle.std.proofs.lemmas.List.Elements.{All-push}
use Rattle.std.proofs.lemmas.List.FromFn.{map-range_with_len_more}
use Rattle.rv_code.specs.declared.instruction.Instruction.{Instruction}
use Rattle.rv_code.specs.InForm.{IsInForm}
use Rattle.rv_code.specs.Decoding.{decoded}
use Rattle.rv_machine.specs.Memory.{word_in}

-- Behind the first k words comes the word from the offset 4 * k on.
pub word_more : (bytes words : List ℕ) (k w : ℕ) → words ≡ map (λ k. word_in bytes (4 * k)) (range_with_len 0 k)
    → w ≡ word_in bytes (4 * k) → words ++ w ∷ [] ≡ map (λ k. word_in bytes (4 * k)) (range_with_len 0 (k + 1))
word_more bytes words k w before here =
    let word : ℕ → ℕ = λ k. word_in bytes (4 * k) in
    let at : 0 + k ≡ k = omega arith in
    ap (λ l. l ++ w ∷ []) before
    ∙ (ap (λ v. map word (range_with_len 0 k) ++ v ∷ []) here ∙ sym (map-range_with_len_more word 0 k k at))

-- Behind the instructions of words comes that of the word behind them.
pub row_more : (rows : List (Option Instruction)) (words more : List ℕ) (w : ℕ) (row : Option Instruction)
    → rows ≡ map decoded words → more ≡ words ++ w ∷ [] → row ≡ decoded w → rows ++ row ∷ [] ≡ map decoded more
row_more rows words more w row before behind is =
    ap (λ l. l ++ row ∷ []) before
    ∙ (ap (λ r. map decoded words ++ r ∷ []) is ∙ (sym (map_push decoded words w) ∙ sym (ap (map decoded) behind)))

-- Each is in form, where that one is.
pub row_more_in_form : (rows more : List (Option Instruction)) (row : Option Instruction)
    → All (λ row. IfSome row IsInForm) rows → more ≡ rows ++ row ∷ [] → IfSome row IsInForm → All (λ row. IfSome row IsInForm) more
row_more_in_form rows more row before behind is = rw behind (All-push (λ row. IfSome row IsInForm) rows row before is)
