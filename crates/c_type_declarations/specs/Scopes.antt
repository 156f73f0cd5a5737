-- How declarations and blocks change what names mean (6.2.1).
use Rattle.std.specs.Prelude.{ℕ, ◌-◌, List, [], ◌∷◌, ◌++◌, length, take, slice_get, unwrap_or, Option, Some, None}
use Rattle.std.specs.Map.{update}
use Rattle.std.specs.Str.{bytes_eq}
use Rattle.c_type_expressions.specs.declared.names.Meaning.{Meaning}
use Rattle.c_type_expressions.specs.Names.{Scope, Names}

-- a scope in which nothing is declared
abbrev pub empty_scope : Scope
empty_scope name = None

-- a scope with a meaning of a name in place of any earlier one
abbrev pub with_meaning : List ℕ → Meaning → Scope → Scope
with_meaning name m scope = update bytes_eq scope name (Some m)

-- the innermost of scopes, and of none the empty one
abbrev pub innermost : List Scope → Scope
innermost scopes = unwrap_or (slice_get scopes (length scopes - 1)) empty_scope

-- scopes with another one in place of the innermost
abbrev pub with_innermost : Scope → List Scope → List Scope
with_innermost s scopes = take (length scopes - 1) scopes ++ s ∷ []

-- names within one more scope
abbrev pub entered : Names → Names
entered names = record names { scopes = names.scopes ++ empty_scope ∷ [] }

-- names behind the end of the innermost scope
abbrev pub left : Names → Names
left names = record names { scopes = take (length names.scopes - 1) names.scopes }

-- names with a meaning of a name in the innermost scope
abbrev pub declared : List ℕ → Meaning → Names → Names
declared name m names =
    record names { scopes = with_innermost (with_meaning name m (innermost names.scopes)) names.scopes }

-- the meaning that a name has in the innermost scope itself
abbrev pub declared_here : Names → List ℕ → Option Meaning
declared_here names name = innermost names.scopes name
