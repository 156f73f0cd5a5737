-- Declarators declare the variables behind those that are declared already, each once, in text order.
use Rattle.std.specs.Prelude.{◌≡◌, ℕ, ◌+◌, List, ◌++◌, length, true}
use Rattle.c_type_declarations.specs.Progress.{ProgressTree}
use Rattle.c_type_laws.specs.Orders.{is_numbered}

-- What a part declares stands behind what is declared before, and has the numbers of the variables that come to those
-- of before.
pub record Numbers (q t : ProgressTree) (declared : List ℕ → List ℕ) : Type 0 where
  pub more : List ℕ
  pub adds : (vs : List ℕ) → declared vs ≡ vs ++ more
  pub numbered : is_numbered (length q.automatics) more ≡ true
  pub count : length t.automatics ≡ length q.automatics + length more
