-- What the names of a scope mean in a program: its objects and its functions.
use Rattle.std.specs.Prelude.{◌≡◌, ℕ, List, true, Some, map, slice_get}
use Rattle.c_tree.specs.declared.object_type.Object.{Object}
use Rattle.c_tree.specs.declared.object_type.ObjectType.{ObjectType}
use Rattle.c_tree.specs.declared.typed_expression.Callee.{Callee}
use Rattle.c_tree.specs.Programs.{TypedFunctionTree, ProgramTree}
use Rattle.c_type_rules.specs.Types.{loaded_type}
use Rattle.c_type_rules.specs.ValueTypes.{given_by, results_of}
use Rattle.c_type_laws.specs.Kinds.{is_callee, is_object, taken_by}
use Rattle.c_type_expressions.specs.declared.names.Meaning.TheVariants.{Variable}
use Rattle.c_type_expressions.specs.Names.{Names, SignatureTree, meaning_of}
use Rattle.c_source.specs.Values.{has_elements, leads_to_elements}

-- A variable is an object of the program of its type, and of a function where it is automatic.
pub record IsKnown (p : ProgramTree) (f : TypedFunctionTree) (o : Object) (of : ObjectType) : Type 0 where
  pub is : is_object p f o of ≡ true
  pub elements : has_elements of ≡ true

-- What is called by a function's type is there, takes what the type says, and gives it.
pub record IsCalled (p : ProgramTree) (g : SignatureTree) (c : Callee) : Type 0 where
  pub there : is_callee p c ≡ true
  pub takes : taken_by p c ≡ map loaded_type g.parameters
  pub gives : given_by (results_of p.functions) c ≡ g.result
  pub elements : leads_to_elements g.result ≡ true

-- Each name means an object or a function of the program.
pub record Knows (p : ProgramTree) (f : TypedFunctionTree) (names : Names) : Type 0 where
  pub variables : (name : List ℕ) (o : Object) (of : ObjectType) → meaning_of names name ≡ Some (Variable o of)
      → IsKnown p f o of
  pub functions : (k : ℕ) (g : SignatureTree) (c : Callee) → slice_get names.signatures k ≡ Some g → g.callee ≡ Some c
      → IsCalled p g c
