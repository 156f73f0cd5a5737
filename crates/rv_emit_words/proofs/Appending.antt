-- Words that are appended in parts.
use Rattle.std.proofs.Common.{◌≡◌, ap, ◌∙◌, refl, List, [], ◌∷◌, ◌++◌}
use Rattle.rv_code.specs.declared.instruction.Instruction.{Instruction}
use Rattle.rv_emit_words.specs.declared.piece.Piece.TheVariants.{Word}
use Rattle.rv_emit_words.specs.declared.code.Code.{Code}
use Rattle.rv_emit_words.specs.Growing.{CodeState, code_state, with_piece, with_code}

-- Two parts one behind the other.
pub with_code_then : (a b : List Instruction) (s : CodeState) → with_code (a ++ b) s ≡ with_code b (with_code a s)
with_code_then [] b s = refl
with_code_then (i ∷ a) b s = with_code_then a b (with_piece (Word i) s)

-- Words that are appended change nothing of what is held.
pub with_code_held : (a : List Instruction) (s : CodeState) → (with_code a s).held ≡ s.held
with_code_held [] s = refl
with_code_held (i ∷ a) s = with_code_held a (with_piece (Word i) s)

pub held_kept : (a : List Instruction) (c d : Code) → code_state d ≡ with_code a (code_state c) → d.held.items ≡ c.held.items
held_kept a c d e = ap (λ (s : CodeState). s.held) e ∙ with_code_held a (code_state c)
