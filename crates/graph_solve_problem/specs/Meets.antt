-- The meet of sets, also of endlessly many.
use Rattle.std.specs.Prelude.{◌≡◌}
use Rattle.graph_solve_problem.specs.Numbers.{Numbers}

-- The value is the meet of some of those that are meant: of one, or of two such meets.
pub data SomeMeet (meet : Numbers → Numbers → Numbers) (IsMeant : Numbers → Type 0) : Numbers → Type 0 where
  one : {x : Numbers} → IsMeant x → SomeMeet meet IsMeant x
  both : {x y : Numbers} → SomeMeet meet IsMeant x → SomeMeet meet IsMeant y → SomeMeet meet IsMeant (meet x y)

-- The value is the meet of all that are meant: it is below each of them, and it is the meet of some of them.
pub record IsMeetOf (meet : Numbers → Numbers → Numbers) (IsMeant : Numbers → Type 0) (value : Numbers) : Type 0 where
  pub below : (x : Numbers) → IsMeant x → meet value x ≡ value
  pub made : SomeMeet meet IsMeant value
