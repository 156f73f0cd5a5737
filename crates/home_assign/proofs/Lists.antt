-- Members of lists, of which something holds throughout.
use Rattle.std.proofs.Common.{zero, suc, List, [], ◌∷◌, ◌++◌, refl, arith}
use Rattle.std.specs.Prelude.{Contains}
use Rattle.std.specs.List.{AllByRecursion}
use Rattle.graph_core.specs.Paths.{Among, front, behind}
pub use Rattle.base_laws.proofs.Lists.{all_at}
pub use Rattle.graph_core.proofs.Among.{among_any as among_found, among_cases as among_either, among_left, among_right}

pub all_behind : {A : Type 0} (P : A → Type 0) (before : List A) (x : A) (rest : List A) → AllByRecursion P (before ++ x ∷ rest) → P x
all_behind P [] x rest all = all.0
all_behind P (y ∷ before) x rest all = all_behind P before x rest all.1

pub among_contained : {A : Type 0} (x : A) (xs : List A) → Among x xs → Contains xs x
among_contained x [] among = elim among [ ]
among_contained x (y ∷ xs) front = (zero, omega arith, refl)
among_contained x (y ∷ xs) (behind later) = (let c = among_contained x xs later in (suc c.0, omega (arith, c.1), c.2))
