-- What parts of a function's block mean in an accepted program: values, initializers and declarators.
use Rattle.std.specs.Prelude.{◌≡◌, ℕ, List, [], true, Option}
use Rattle.c_tree.specs.Programs.{TypedFunctionTree, ProgramTree}
use Rattle.c_tree.specs.declared.object_type.Scalar.{Scalar}
use Rattle.c_type_rules.specs.Types.{loaded_type}
use Rattle.c_type_values.specs.Values.{ValueTree}
use Rattle.c_type_declarations.specs.Progress.{ProgressTree}
use Rattle.c_type_laws.specs.Kinds.{is_of}
use Rattle.c_type_laws.specs.Expressions.{kind_of}
use Rattle.c_source.specs.Addresses.{is_constant_of}
use Rattle.c_source.specs.Findings.{IsThere, HoldsOf}
use Rattle.c_source.specs.Progress.{Stands, Inside, Comes}
use Rattle.c_source.specs.Numbers.{Numbers}

-- A check comes on and declares nothing.
pub record Looks (p : ProgramTree) (f : TypedFunctionTree) (low : ℕ) (q t : ProgressTree) : Type 0 where
  pub comes : Comes p f low q t
  pub same : t.automatics ≡ q.automatics
  pub names : t.names ≡ q.names

-- A part declares no variable, and in an accepted program what it means has a property.
pub record Makes {A : Type 0} (p : ProgramTree) (f : TypedFunctionTree) (low : ℕ) (P : A → Type 0) (q : ProgressTree)
    (a : A) (t : ProgressTree) : Type 0 where
  pub looks : Looks p f low q t
  pub holds : Inside p f low q → Stands p f t → P a

-- So does a part that may be at fault, and without a fault there is what it means.
pub record MakesIfAny {A : Type 0} (p : ProgramTree) (f : TypedFunctionTree) (low : ℕ) (P : A → Type 0)
    (q : ProgressTree) (m : Option A) (t : ProgressTree) : Type 0 where
  pub looks : Looks p f low q t
  pub there : t.found.faults ≡ [] → IsThere m
  pub holds : Inside p f low q → Stands p f t → HoldsOf P m

-- a value is one that an object of a scalar type holds, as a constant too
abbrev pub IsHeldIn : ProgramTree → TypedFunctionTree → Scalar → ValueTree → Type 0
IsHeldIn p f s v =
    (is_of (kind_of p f v.tree) (loaded_type s) ≡ true) × (is_constant_of p (loaded_type s) v.constant ≡ true)

-- Declarators declare variables, and in an accepted program they are well typed.
pub record DeclaresAll {A : Type 0} (p : ProgramTree) (f : TypedFunctionTree) (low : ℕ)
    (variables : A → List ℕ → List ℕ) (P : A → Type 0) (q : ProgressTree) (a : A) (t : ProgressTree) : Type 0 where
  pub comes : Comes p f low q t
  pub numbers : Numbers q t (variables a)
  pub holds : Inside p f low q → Stands p f t → P a
