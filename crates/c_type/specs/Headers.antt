-- What the two headers declare, and how that goes with what is declared already (6.7, 7.1.2).
use Rattle.std.specs.Prelude.{ℕ, List, [], ◌∷◌, ◌++◌, length, Bool, true, false, ◌&&◌, ◌||◌, Option, Some, None, slice_get, codes, if◌then◌else◌}
use Rattle.std.specs.Str.{bytes_eq}
use Rattle.debug_records.specs.declared.source.Spot.{Spot}
use Rattle.debug_records.specs.declared.code.TheConstants.Code.{REDECLARED}
use Rattle.c_tree.specs.declared.extent.Extent.{Extent}
use Rattle.c_tree.specs.declared.declaration.Header.{Header}
use Rattle.c_tree.specs.declared.declaration.Header.TheVariants as header
use Rattle.c_tree.specs.declared.types.IntegerType.TheVariants.{Int}
use Rattle.c_tree.specs.declared.object_type.Scalar.{Scalar}
use Rattle.c_tree.specs.declared.object_type.ValueType.TheVariants.{Void, Integer}
use Rattle.c_tree.specs.declared.typed_expression.Callee.{Callee}
use Rattle.c_tree.specs.declared.typed_expression.Callee.TheVariants as callee
use Rattle.c_type_rules.specs.Types.{same_scalar, same_value}
use Rattle.c_type_expressions.specs.declared.names.Meaning.{Meaning}
use Rattle.c_type_expressions.specs.declared.names.Meaning.TheVariants.{Function, EndOfFile}
use Rattle.c_type_expressions.specs.Names.{SignatureTree, meaning_of}
use Rattle.c_type_declarations.specs.Progress.{ProgressTree, breaks, with_name}
use Rattle.c_type.specs.declared.header.Standing.{Standing}
use Rattle.c_type.specs.declared.header.Standing.TheVariants.{Known, New, Taken}

-- two lists of types are one
abbrev pub same_scalars : List Scalar → List Scalar → Bool
same_scalars [] [] = true
same_scalars (a ∷ more) (b ∷ others) = same_scalar a b && same_scalars more others
same_scalars _ _ = false

-- two functions are of one type
abbrev pub same_type : SignatureTree → SignatureTree → Bool
same_type f g = same_value f.result g.result && same_scalars f.parameters g.parameters

-- a library function
abbrev pub int_scalar : Scalar
int_scalar = record { base = Int; stars = 0 }

-- what a function of the library takes and gives (C11 7.21.7, 7.22.4.4)
abbrev pub library : Callee → SignatureTree
library callee.Getchar = record { result = Integer Int; parameters = []; callee = Some callee.Getchar }
library callee.Putchar = record { result = Integer Int; parameters = int_scalar ∷ []; callee = Some callee.Putchar }
library callee.Exit = record { result = Void; parameters = int_scalar ∷ []; callee = Some callee.Exit }
library (callee.Function k) = record { result = Void; parameters = []; callee = Some (callee.Function k) }

-- what a call of it calls is a function of the library
abbrev pub is_library : Option Callee → Bool
is_library (Some (callee.Function k)) = false
is_library (Some c) = true
is_library None = false

-- the names that only the library may define
abbrev pub is_library_name : List ℕ → Bool
is_library_name name =
    bytes_eq name (codes "getchar") || bytes_eq name (codes "putchar") || bytes_eq name (codes "exit")

-- a function with a number of its own that a name means from here on
abbrev pub with_function : List ℕ → SignatureTree → ProgressTree → ProgressTree
with_function name g p =
    with_name name (Function (length p.names.signatures))
    (record p { names = record (p.names) { signatures = p.names.signatures ++ g ∷ [] } })

-- how a library function stands with a function of its name: that one may be the library's already, or be declared with
-- the same type
abbrev pub stands_with : SignatureTree → Option SignatureTree → Standing
stands_with g None = Taken
stands_with g (Some other) = if is_library other.callee then Known else (if same_type other g then New else Taken)

-- how it stands with what its name means, among functions
abbrev pub standing_of : SignatureTree → List SignatureTree → Option Meaning → Standing
standing_of g functions None = New
standing_of g functions (Some (Function k)) = stands_with g (slice_get functions k)
standing_of g functions (Some m) = Taken

-- the name is the library's from here on, unless something else has it (E21)
abbrev pub placed : Standing → Extent → List ℕ → SignatureTree → ProgressTree → ProgressTree
placed Known extent name g p = p
placed New extent name g p = with_function name g p
placed Taken extent name g p = breaks REDECLARED extent p

-- a function of the library is declared by its header, and a fault where its name is taken by something else
abbrev pub library_met : Extent → List ℕ → Callee → ProgressTree → ProgressTree
library_met extent name c p =
    placed (standing_of (library c) p.names.signatures (meaning_of p.names name)) extent name (library c) p

-- `EOF`, which nothing else may be called (E21)
abbrev pub end_beside : Extent → Option Meaning → ProgressTree → ProgressTree
end_beside extent None p = with_name (codes "EOF") EndOfFile p
end_beside extent (Some EndOfFile) p = p
end_beside extent (Some m) p = breaks REDECLARED extent p

-- EOF is declared by its header, and a fault where its name is taken by something else
abbrev pub end_met : Extent → ProgressTree → ProgressTree
end_met extent p = end_beside extent (meaning_of p.names (codes "EOF")) p

-- an include, whose faults are the line's
abbrev pub at_spot : Spot → Extent
at_spot spot = record { first = spot; last = spot.at }

-- what an include declares: getchar, putchar and EOF, or exit
abbrev pub included : Spot → Header → ProgressTree → ProgressTree
included spot header.Stdio p =
    end_met (at_spot spot)
    (library_met (at_spot spot) (codes "putchar") callee.Putchar
    (library_met (at_spot spot) (codes "getchar") callee.Getchar p))
included spot header.Stdlib p = library_met (at_spot spot) (codes "exit") callee.Exit p
