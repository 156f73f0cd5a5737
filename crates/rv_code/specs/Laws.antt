-- What encoding and decoding have to do with each other.
use Rattle.std.specs.Prelude.{◌≡◌, ℕ, ◌<◌, Some}
use Rattle.rv_code.specs.declared.instruction.Instruction.{Instruction}
use Rattle.rv_code.specs.InForm.{IsInForm}
use Rattle.rv_code.specs.Encoding.{encoded}
use Rattle.rv_code.specs.Decoding.{decoded}

-- The word of an instruction spells that instruction.
abbrev pub DecodingUndoesEncoding : Type 0
DecodingUndoesEncoding = (i : Instruction) → IsInForm i → decoded (encoded i) ≡ Some i

-- A word of 32 bits that spells an instruction is that instruction's word.
abbrev pub EncodingUndoesDecoding : Type 0
EncodingUndoesDecoding = (w : ℕ) (i : Instruction) → w < 4294967296 → decoded w ≡ Some i → encoded i ≡ w

-- A word of 32 bits spells only instructions that a word can spell.
abbrev pub DecodedIsInForm : Type 0
DecodedIsInForm = (w : ℕ) (i : Instruction) → w < 4294967296 → decoded w ≡ Some i → IsInForm i
