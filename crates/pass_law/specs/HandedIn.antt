-- Which names are names of passes.
use Rattle.std.specs.Prelude.{◌≡◌, ◌≢◌, ℕ, List}
use Rattle.std.specs.List.{All, Any}
use Rattle.debug_records.specs.declared.change.PassName.{PassName}
use Rattle.debug_records.specs.Change.{letters}

-- one of the passes has a name of these letters
abbrev pub IsHandedIn : {P : Type 0} → (P → PassName) → List P → List ℕ → Type 0
IsHandedIn named passes name = Any (λ p. letters (named p) ≡ name) passes

-- none of them has
abbrev pub IsNoPass : {P : Type 0} → (P → PassName) → List P → List ℕ → Type 0
IsNoPass named passes name = All (λ p. letters (named p) ≢ name) passes

-- each of the names is a pass's
abbrev pub AreHandedIn : {P : Type 0} → (P → PassName) → List P → List (List ℕ) → Type 0
AreHandedIn named passes names = All (IsHandedIn named passes) names
