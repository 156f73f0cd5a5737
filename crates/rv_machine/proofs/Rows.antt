-- The decoded words of the code.
use Rattle.std.proofs.Common.{◌≡◌, ℕ, ◌<◌, sym, subst, List, length, get_or, Option, IfSome}
use Rattle.std.specs.List.{All}
use Rattle.rv_code.specs.declared.instruction.Instruction.{Instruction}
use Rattle.rv_code.specs.InForm.{IsInForm}

-- So is each one of them.
pub row_in_form : (rows : List (Option Instruction)) (k : ℕ) (row : Option Instruction) → All (λ row. IfSome row IsInForm) rows → k < length rows → row ≡ get_or rows k row → IfSome row IsInForm
row_in_form rows k row h lt e = subst (λ o. IfSome o IsInForm) (sym e) (h k row lt)
