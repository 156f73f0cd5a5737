-- Declarations of objects (6.7). An object's name stands in its own initializer, and not in the size of its own array.
use Rattle.std.specs.Prelude.{List, [], ◌∷◌, ◌++◌, length, Bool, true, false}
use Rattle.c_tree.specs.declared.types.IntegerType.{IntegerType}
use Rattle.c_tree.specs.declared.object_type.Object.TheVariants.{Static, Automatic}
use Rattle.c_tree.specs.declared.object_type.ObjectType.{ObjectType}
use Rattle.c_tree.specs.declared.object_type.ObjectType.TheVariants as object
use Rattle.c_tree.specs.Expressions.{NameTree}
use Rattle.c_tree.specs.Declarations.{DeclaratorTree, DeclarationTree}
use Rattle.c_tree.specs.TypedStatements.{DeclaredTree}
use Rattle.c_type_expressions.specs.declared.names.Meaning.TheVariants.{Variable}
use Rattle.c_type_declarations.specs.Progress.{ProgressTree, Met, means, next_met, reached_by, declares}
use Rattle.c_type_declarations.specs.Objects.{type_met}
use Rattle.c_type_declarations.specs.Initials.{initial_met}
use Rattle.c_type_declarations.specs.Statics.{Contents, contents_met}

-- an object is an array
abbrev pub is_array : ObjectType → Bool
is_array (object.Scalar s) = false
is_array (object.Array element size) = true

-- one more automatic object; an array is in memory, of a scalar its function tells later
abbrev pub with_automatic : NameTree → ObjectType → ProgressTree → ProgressTree
with_automatic n of p =
    record
    p {
      automatics = p.automatics ++ record {
        name = n.name;
        spot = n.spot;
        of = of;
        in_memory = is_array of;
      } ∷ [];
    }

-- one more static object
abbrev pub with_static_object : NameTree → ObjectType → Contents → ProgressTree → ProgressTree
with_static_object n of c p =
    record
    p {
      statics = p.statics ++ record {
        name = n.name;
        spot = n.spot;
        of = of;
        bytes = c.bytes;
        relocations = c.relocations;
      } ∷ [];
    }

-- a declarator in a function
abbrev pub automatic_of_type : DeclaratorTree → ObjectType → ProgressTree → Met DeclaredTree
automatic_of_type d of p =
    next_met
    (initial_met of d.extent d.initializer
    (with_automatic d.name of
    (declares d.extent d.name.name (Variable (Automatic (length p.automatics)) of) p)))
    (λ i. means (record {
      variable = length p.automatics;
      spot = d.name.spot;
      initial = i;
    }))

-- an automatic variable is declared
abbrev pub automatic_met : IntegerType → DeclaratorTree → ProgressTree → Met DeclaredTree
automatic_met t d p = next_met (type_met (record { base = t; stars = d.stars }) d p) (automatic_of_type d)

-- automatic variables are declared, one after the other
abbrev pub automatics_met : IntegerType → List DeclaratorTree → ProgressTree → Met (List DeclaredTree)
automatics_met t [] p = means [] p
automatics_met t (d ∷ ds) p =
    next_met (automatic_met t d p) (λ one q. next_met (automatics_met t ds q) (λ rest. means (one ∷ rest)))

-- a declaration in a function
abbrev pub declaration_met : DeclarationTree → ProgressTree → Met (List DeclaredTree)
declaration_met d p = automatics_met d.type d.declarators p

-- a declarator at file scope
abbrev pub static_of_type : DeclaratorTree → ObjectType → ProgressTree → ProgressTree
static_of_type d of p =
    reached_by
    (contents_met of d.extent d.initializer
    (declares d.extent d.name.name (Variable (Static (length p.statics)) of) p))
    (with_static_object d.name of)

-- a static variable is declared
abbrev pub static_met : IntegerType → DeclaratorTree → ProgressTree → ProgressTree
static_met t d p = reached_by (type_met (record { base = t; stars = d.stars }) d p) (static_of_type d)

-- a declaration at file scope
abbrev pub statics_met : IntegerType → List DeclaratorTree → ProgressTree → ProgressTree
statics_met t [] p = p
statics_met t (d ∷ ds) p = statics_met t ds (static_met t d p)
