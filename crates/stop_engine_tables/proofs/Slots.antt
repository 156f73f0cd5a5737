-- Words of the stack.
use Rattle.std.proofs.Common.{◌≡◌, ℕ, ◌+◌, List, drop, add_assoc}
use Rattle.std.proofs.lemmas.List.{get_or-drop}
use Rattle.rv_machine.specs.Memory.{word_in}

-- a word of a rest of the stack is one of the stack
pub word_in_rest : (xs : List ℕ) (k i : ℕ) → word_in (drop k xs) i ≡ word_in xs (k + i)
unfolding word_in
word_in_rest xs k i = simp (get_or-drop, add_assoc)
