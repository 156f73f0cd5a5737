-- Names and their scopes (6.2.1).
use Rattle.std.specs.Prelude.{ℕ, List, [], ◌∷◌, map, Option, Some, None}
use Rattle.std.specs.HashMap.{get_by_text}
use Rattle.c_tree.specs.declared.object_type.Scalar.{Scalar}
use Rattle.c_tree.specs.declared.object_type.ValueType.{ValueType}
use Rattle.c_tree.specs.declared.typed_expression.Callee.{Callee}
use Rattle.c_type_expressions.specs.declared.names.Meaning.{Meaning}
use Rattle.c_type_expressions.specs.declared.names.Signature.{Signature}
use Rattle.c_type_expressions.specs.declared.names.Scope as declared-scope
use Rattle.c_type_expressions.specs.declared.names.Names as declared-names

-- a function's type, and what a call of it calls, where it is ever defined
pub record SignatureTree : Type 0 where
  pub result : ValueType
  pub parameters : List Scalar
  pub callee : Option Callee

abbrev pub signature_view : Signature → SignatureTree
signature_view s = record { result = s.result; parameters = s.parameters.items; callee = s.callee }

-- what each name means in a scope
abbrev pub Scope : Type 0
Scope = List ℕ → Option Meaning

abbrev pub scope_view : declared-scope.Scope → Scope
scope_view s name = get_by_text s.meanings name

-- what is declared: functions, and scopes with the innermost last
pub record Names : Type 0 where
  pub signatures : List SignatureTree
  pub scopes : List Scope

abbrev pub names_view : declared-names.Names → Names
names_view n = record { signatures = map signature_view n.signatures.items; scopes = map scope_view n.scopes.items }

-- the first of two meanings that there is
abbrev pub meaning_or_else : Option Meaning → Option Meaning → Option Meaning
meaning_or_else (Some m) o = Some m
meaning_or_else None o = o

-- the meaning of a name in scopes: that of the innermost one that has it
abbrev pub found_in : List Scope → Scope
found_in [] name = None
found_in (scope ∷ inner) name = meaning_or_else (found_in inner name) (scope name)

-- what a name means in the scopes that are open, if it is declared
abbrev pub meaning_of : Names → List ℕ → Option Meaning
meaning_of names name = found_in names.scopes name
