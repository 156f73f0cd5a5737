-- How the check of a source's items goes on, and what it comes to in an accepted program.
use Rattle.std.specs.Prelude.{◌≡◌, ◌&&◌, ℕ, List, [], ◌∷◌, length, Bool, true, false, Option, Some, None, slice_get}
use Rattle.c_tree.specs.declared.typed_expression.Callee.{Callee}
use Rattle.c_tree.specs.Expressions.{NameTree}
use Rattle.c_tree.specs.Declarations.{ParameterTree}
use Rattle.c_tree.specs.Statements.{BlockTree, chain_of_statements}
use Rattle.c_tree.specs.Trees.{ItemTree, Include, Declares, Defines}
use Rattle.c_tree.specs.Programs.{TypedFunctionTree, ProgramTree}
use Rattle.c_type_expressions.specs.Names.{SignatureTree}
use Rattle.c_type_declarations.specs.Progress.{ProgressTree}
use Rattle.c_type_laws.specs.Statements.{are_statements}
use Rattle.c_type_laws.specs.Laws.{declares_its_own, follow}
use Rattle.c_type_laws.specs.Names.{is_name}
use Rattle.c_type_laws.specs.Objects.{are_ended}
use Rattle.c_source.specs.Findings.{Begins, Grows, Accepts}
use Rattle.c_source.specs.Known.{IsCalled}
use Rattle.c_source.specs.Formed.{IsSizeFormed, AreDeclaratorsFormed, AreFormed}
use Rattle.c_source.specs.Storage.{AreStored}
use Rattle.c_source.specs.Progress.{AreKept, StandAmong, AreScopesKnown}

-- a parameter of a definition has a name
abbrev pub has_name : ParameterTree → Type 0
has_name d = (n : NameTree) × (d.name ≡ Some n)

-- parameters as the grammar forms them
abbrev pub AreSizesFormed : List ParameterTree → Type 0
AreSizesFormed [] = Unit {0}
AreSizesFormed (d ∷ more) = IsSizeFormed d.brackets × AreSizesFormed more

-- those of a definition
abbrev pub HaveNames : List ParameterTree → Type 0
HaveNames [] = Unit {0}
HaveNames (d ∷ more) = has_name d × HaveNames more

-- a name that may be absent
abbrev pub IsNameFormed : Option NameTree → Type 0
IsNameFormed None = Unit {0}
IsNameFormed (Some n) = is_name n.name ≡ true

-- those of parameters
abbrev pub AreNamesFormed : List ParameterTree → Type 0
AreNamesFormed [] = Unit {0}
AreNamesFormed (d ∷ more) = IsNameFormed d.name × AreNamesFormed more

-- a function's parameters by their names, and its block, if it has one
abbrev pub IsBodyFormed : List ParameterTree → Option BlockTree → Type 0
IsBodyFormed ps None = AreNamesFormed ps
IsBodyFormed ps (Some b) = HaveNames ps × AreFormed (chain_of_statements b.statements) × AreNamesFormed ps

-- what stands at file scope
abbrev pub IsItemFormed : ItemTree → Type 0
IsItemFormed (Include spot header) = Unit {0}
IsItemFormed (Declares d) = AreDeclaratorsFormed d.declarators
IsItemFormed (Defines f) = AreSizesFormed f.parameters × IsBodyFormed f.parameters f.body × (is_name f.name.name ≡ true)

abbrev pub AreItemsFormed : List ItemTree → Type 0
AreItemsFormed [] = Unit {0}
AreItemsFormed (i ∷ more) = IsItemFormed i × AreItemsFormed more

-- A check comes from one point of a source to another, at file scope.
pub record Extends (q t : ProgressTree) : Type 0 where
  pub found : Grows q.found t.found
  pub automatics : Begins q.automatics t.automatics
  pub array_literals : Begins q.array_literals t.array_literals
  pub statics : Begins q.statics t.statics
  pub signatures : Begins q.names.signatures t.names.signatures
  pub kept : AreKept q.automatics → AreKept t.automatics
  pub ended : are_ended q.array_literals ≡ true → are_ended t.array_literals ≡ true

-- What is declared and found so far is a program's, and what is called is there.
pub record Reaches (p : ProgramTree) (t : ProgressTree) : Type 0 where
  pub accepts : Accepts (Unit {0}) p t.found
  pub automatics : StandAmong t.automatics p.automatics
  pub array_literals : Begins t.array_literals p.array_literals
  pub statics : Begins t.statics p.statics
  pub functions : (k : ℕ) (g : SignatureTree) (c : Callee) → slice_get t.names.signatures k ≡ Some g → g.callee ≡ Some c
      → IsCalled p g c

-- at file scope each variable that a name means is known, whichever function is looked at
abbrev pub IsFileKnown : ProgramTree → ProgressTree → Type 0
IsFileKnown p q = (f : TypedFunctionTree) → AreScopesKnown p f q.names.scopes

-- A check comes from one point of a source to another, at file scope, and declares no automatic variable. In an
-- accepted program what it stores keeps the laws of static storage.
pub record Passes (p : ProgramTree) (q t : ProgressTree) : Type 0 where
  pub extends : Extends q t
  pub known : IsFileKnown p q → Begins t.statics p.statics → IsFileKnown p t
  pub same : t.automatics ≡ q.automatics
  pub stored : IsFileKnown p q → Reaches p t → AreStored p q.statics → AreStored p t.statics

-- functions are well typed, and declare their own variables
abbrev pub are_typed : ProgramTree → List TypedFunctionTree → Bool
are_typed p [] = true
are_typed p (f ∷ more) = (are_statements p f false false None f.body && declares_its_own f) && are_typed p more

-- An item defines functions, of which each has the variables that come next, and which are well typed in an accepted
-- program; static storage keeps its laws.
pub record Defined (p : ProgramTree) (q : ProgressTree) (more : List TypedFunctionTree) (t : ProgressTree)
    : Type 0 where
  pub extends : Extends q t
  pub known : IsFileKnown p q → Begins t.statics p.statics → IsFileKnown p t
  pub follows : follow (length q.automatics) (length t.automatics) more ≡ true
  pub typed : IsFileKnown p q → Reaches p t → are_typed p more ≡ true
  pub stored : IsFileKnown p q → Reaches p t → AreStored p q.statics → AreStored p t.statics
