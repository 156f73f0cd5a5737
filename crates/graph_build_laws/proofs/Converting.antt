-- The worked program weighs its nodes, has more instructions than it may, and is not well formed.
use Rattle.std.proofs.Common.{◌≡◌, false, true, arith}
use Rattle.graph_build_laws.specs.Worked.{IsConverting}

pub is_converting : IsConverting
is_converting = record { nodes = omega arith; more = omega arith; refused = λ h. (let e : false ≡ true = h in absurd cc) }
