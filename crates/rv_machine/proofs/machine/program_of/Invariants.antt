use Rattle.std.proofs.Common.{◌≡◌, ◌*◌, map, IfSome, length}
use Rattle.std.specs.List.{All, range_with_len}
use Rattle.rv_code.specs.InForm.{IsInForm}
use Rattle.rv_code.specs.Decoding.{decoded}
use Rattle.rv_machine.specs.Memory.{word_in}
use Rattle.rv_machine.proofs.machine.program_of.Given as goal

abbrev pub invariant-loop-k : goal.invariant-loop-k
invariant-loop-k l = (l.code.items ≡ map (λ k. word_in l.bytes (4 * k)) (range_with_len 0 l.k)) × (l.instructions.items ≡ map decoded l.code.items) × All (λ row. IfSome row IsInForm) l.instructions.items × (length l.code.items ≡ l.k)
