-- What is found while a source is checked grows, and what it has to come to where the source is accepted.
use Rattle.std.specs.Prelude.{◌≡◌, true, List, [], ◌++◌, Option, Some, None}
use Rattle.c_tree.specs.Programs.{ProgramTree}
use Rattle.c_type_laws.specs.Objects.{are_ended}
use Rattle.c_type_laws.specs.Statics.{literals_sound}
use Rattle.c_type_expressions.specs.Findings.{FoundTree, Checked, gives}

-- a list is the beginning of another
abbrev pub Begins : {A : Type 0} → List A → List A → Type 0
Begins {A} xs ys = (more : List A) × (ys ≡ xs ++ more)

-- More is found: faults, undefined calls and literals stand behind those that stood before, and literals have their
-- final zeros and are of bytes.
pub record Grows (s t : FoundTree) : Type 0 where
  pub faults : Begins s.faults t.faults
  pub undefined : Begins s.undefined t.undefined
  pub literals : Begins s.literals t.literals
  pub ended : are_ended s.literals ≡ true → are_ended t.literals ≡ true
  pub sound : literals_sound s.literals ≡ true → literals_sound t.literals ≡ true

-- In a case that is given, no rule is broken and no undefined function is called up to here, and the literals so far
-- are a program's first ones.
pub record Accepts (K : Type 0) (p : ProgramTree) (t : FoundTree) : Type 0 where
  pub given : K
  pub faults : t.faults ≡ []
  pub undefined : t.undefined ≡ []
  pub literals : Begins t.literals p.literals

-- something is there
abbrev pub IsThere : {A : Type 0} → Option A → Type 0
IsThere None = ⊥
IsThere (Some a) = Unit {0}

-- what is there has a property
abbrev pub HoldsOf : {A : Type 0} → (A → Type 0) → Option A → Type 0
HoldsOf P None = Unit {0}
HoldsOf P (Some a) = P a

-- A check begins with some findings and gives a result and its own: they only grow, without a fault there is a result,
-- and in an accepted source it has a property in a case.
pub record Good {A : Type 0} (K : Type 0) (p : ProgramTree) (P : A → Type 0) (s : FoundTree) (m : Option A)
    (t : FoundTree) : Type 0 where
  pub grows : Grows s t
  pub there : t.faults ≡ [] → IsThere m
  pub holds : Accepts K p t → HoldsOf P m

-- a check is a good one
abbrev pub IsGood : {A : Type 0} → (K : Type 0) → ProgramTree → (A → Type 0) → FoundTree → Checked (Option A) → Type 0
IsGood K p P s (gives m t) = Good K p P s m t
