-- Code that is appended in parts, of which some fetch what the others use.
use Rattle.std.proofs.Common.{◌≡◌, ℕ, sym, ap, ◌∙◌, subst, List, [], ◌∷◌, ◌++◌}
use Rattle.rv_code.specs.declared.instruction.Instruction.{Instruction}
use Rattle.rv_emit_words.specs.declared.piece.Held.{Held}
use Rattle.rv_emit_storage.specs.declared.storage.Source.{Source}
use Rattle.rv_emit_storage.specs.Storages.{StorageForm}
use Rattle.rv_emit_words.specs.Growing.{CodeState, with_code}
use Rattle.rv_emit_words.specs.Operands.{source_register, fetched_source}
use Rattle.rv_emit_words.proofs.Appending.{with_code_then}

-- Two parts.
pub in_two : (a b : List Instruction) (s t u : CodeState) → t ≡ with_code a s → u ≡ with_code b t → u ≡ with_code (a ++ b) s
in_two a b s t u first second = second ∙ ap (with_code b) first ∙ sym (with_code_then a b s)

-- One word and what is behind it.
pub word_then : (i : Instruction) (rest : List Instruction) (s t u : CodeState) → t ≡ with_code (i ∷ []) s → u ≡ with_code rest t → u ≡ with_code (i ∷ rest) s
word_then i rest s t u first second = second ∙ ap (with_code rest) first

-- Code that fetches two operands, and code behind it that uses the registers in which they are found.
pub both_fetched : (g : StorageForm) (left right : Source) (code : ℕ → ℕ → List Instruction) (held now : List Held) (s t u v : CodeState) (l r : ℕ) → now ≡ held
    → t ≡ with_code (fetched_source g held left 6) s → l ≡ source_register g held left 6 → u ≡ with_code (fetched_source g now right 7) t → r ≡ source_register g now right 7 → v ≡ with_code (code l r) u
    → v ≡ with_code (fetched_source g held left 6 ++ fetched_source g held right 7 ++ code (source_register g held left 6) (source_register g held right 7)) s
both_fetched g left right code held now s t u v l r same first el second er last =
    let second_here : u ≡ with_code (fetched_source g held right 7) t = subst (λ h. u ≡ with_code (fetched_source g h right 7) t) same second in
    let er_here : r ≡ source_register g held right 7 = subst (λ h. r ≡ source_register g h right 7) same er in
    let last_here : v ≡ with_code (code (source_register g held left 6) (source_register g held right 7)) u = subst (λ q. v ≡ with_code (code (source_register g held left 6) q) u) er_here (subst (λ q. v ≡ with_code (code q r) u) el last) in
    in_two (fetched_source g held left 6 ++ fetched_source g held right 7) (code (source_register g held left 6) (source_register g held right 7)) s u v
    (in_two (fetched_source g held left 6) (fetched_source g held right 7) s t u first second_here) last_here
