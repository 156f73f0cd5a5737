-- How the check of a function's block goes on: what is found and what is declared grows, and comes to a program's
-- objects.
use Rattle.std.specs.Prelude.{◌≡◌, true, ℕ, ◌+◌, ◌≤◌, List, [], ◌∷◌, ◌++◌, length, Some, slice_get}
use Rattle.c_tree.specs.declared.object_type.Object.{Object}
use Rattle.c_tree.specs.declared.object_type.ObjectType.{ObjectType}
use Rattle.c_tree.specs.declared.typed_expression.Callee.{Callee}
use Rattle.c_tree.specs.Programs.{AutomaticTree, TypedFunctionTree, ProgramTree}
use Rattle.c_type_laws.specs.Names.{automatics_named}
use Rattle.c_type_laws.specs.Objects.{are_ended, arrays_are_kept}
use Rattle.c_type_expressions.specs.declared.names.Meaning.TheVariants.{Variable}
use Rattle.c_type_expressions.specs.Names.{Scope, SignatureTree}
use Rattle.c_type_declarations.specs.Progress.{ProgressTree, Met, means}
use Rattle.c_source.specs.Findings.{Begins, Grows, Accepts}
use Rattle.c_source.specs.Known.{IsKnown, IsCalled}

-- Only the innermost of scopes changes.
abbrev pub KeepsOuter : List Scope → List Scope → Type 0
KeepsOuter before behind =
    (outer : List Scope) (inner : Scope) → before ≡ outer ++ inner ∷ []
    → (changed : Scope) × (behind ≡ outer ++ changed ∷ [])

-- arrays are in memory, and variables have names
abbrev pub AreKept : List AutomaticTree → Type 0
AreKept all = (arrays_are_kept all ≡ true) × (automatics_named all ≡ true)

-- A check comes from one point of a function's block to another. Arrays are in memory, variables have names, and
-- literals have their final zeros.
pub record Advances (q t : ProgressTree) : Type 0 where
  pub found : Grows q.found t.found
  pub automatics : Begins q.automatics t.automatics
  pub array_literals : Begins q.array_literals t.array_literals
  pub statics : t.statics ≡ q.statics
  pub signatures : t.names.signatures ≡ q.names.signatures
  pub scopes : KeepsOuter q.names.scopes t.names.scopes
  pub kept : AreKept q.automatics → AreKept t.automatics
  pub ended : are_ended q.array_literals ≡ true → are_ended t.array_literals ≡ true

-- each variable stands among others with its type and its spot; whether it is in memory may be told later
abbrev pub StandAmong : List AutomaticTree → List AutomaticTree → Type 0
StandAmong some all =
    (x : ℕ) (a : AutomaticTree) → slice_get some x ≡ Some a
    → (b : AutomaticTree) × (slice_get all x ≡ Some b) × (b.of ≡ a.of) × (b.spot ≡ a.spot)

-- What is declared and found so far is a program's, and of a function its variables.
pub record Stands (p : ProgramTree) (f : TypedFunctionTree) (t : ProgressTree) : Type 0 where
  pub accepts : Accepts (Unit {0}) p t.found
  pub automatics : StandAmong t.automatics p.automatics
  pub array_literals : Begins t.array_literals p.array_literals
  pub within : length t.automatics ≤ f.first_variable + f.variables

-- each variable that a scope names is known
abbrev pub IsScopeKnown : ProgramTree → TypedFunctionTree → Scope → Type 0
IsScopeKnown p f scope =
    (name : List ℕ) (o : Object) (of : ObjectType) → scope name ≡ Some (Variable o of) → IsKnown p f o of

-- each one that scopes name
abbrev pub AreScopesKnown : ProgramTree → TypedFunctionTree → List Scope → Type 0
AreScopesKnown p f [] = Unit {0}
AreScopesKnown p f (scope ∷ inner) = IsScopeKnown p f scope × AreScopesKnown p f inner

-- Within a function whose variables so far are so many or more, names mean a program's objects and functions.
pub record Inside (p : ProgramTree) (f : TypedFunctionTree) (low : ℕ) (q : ProgressTree) : Type 0 where
  pub scopes : AreScopesKnown p f q.names.scopes
  pub functions : (k : ℕ) (g : SignatureTree) (c : Callee) → slice_get q.names.signatures k ≡ Some g → g.callee ≡ Some c
      → IsCalled p g c
  pub begun : low ≤ length q.automatics

-- A check comes on, and in an accepted program what it stands in stays known.
pub record Comes (p : ProgramTree) (f : TypedFunctionTree) (low : ℕ) (q t : ProgressTree) : Type 0 where
  pub advances : Advances q t
  pub inside : Inside p f low q → Stands p f t → Inside p f low t

-- what a part of the source means, and where its check comes to, are in a relation
abbrev pub Ensures : {A : Type 0} → (A → ProgressTree → Type 0) → Met A → Type 0
Ensures R (means a t) = R a t
