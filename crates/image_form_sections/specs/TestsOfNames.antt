-- The tests of names.
use Rattle.std.specs.Prelude.{ℕ, zero, suc, Bool, if◌then◌else◌, List, [], ◌∷◌, ◌++◌, Option, Some, None, slice_index, replicate}
use Rattle.std.specs.Option.{option_map}
use Rattle.std.specs.List.{flat_map}
use Rattle.image_form_sections.specs.declared.name_rules.NameKind.{NameKind}
use Rattle.image_form_sections.specs.declared.name_rules.NameKind.TheVariants.{Identifier, Letters}
use Rattle.image_form_sections.specs.Letters.{is_lower_letter, begins_identifier, is_identifier_byte}
use Rattle.image_form_sections.specs.Sections.{Sections}

-- The tests of the bytes of an identifier of so many bytes.
abbrev pub identifier_tests : ℕ → List (ℕ → Bool)
identifier_tests zero = []
identifier_tests (suc n) = begins_identifier ∷ replicate n is_identifier_byte

-- The tests of the bytes of a name of so many bytes.
abbrev pub byte_tests : NameKind → ℕ → List (ℕ → Bool)
byte_tests Identifier n = identifier_tests n
byte_tests Letters n = replicate n is_lower_letter

-- Those of the names of a table, whose rows begin with the lengths.
abbrev pub table_tests : NameKind → List (List ℕ) → List (ℕ → Bool)
table_tests kind rows = flat_map (λ r. byte_tests kind (slice_index r 0)) rows

-- The tests of the bytes of the section of names: identifiers of functions and variables, then the lower-case letters
-- of passes.
abbrev pub name_tests : Sections → List (ℕ → Bool)
name_tests s =
    table_tests Identifier s.functions ++ (table_tests Identifier s.variables ++ table_tests Letters s.changes)

-- The first byte that fails its test or is missing; bytes may be left over.
abbrev pub first_unfit : List (ℕ → Bool) → List ℕ → Option ℕ
first_unfit [] bytes = None
first_unfit (test ∷ tests) [] = Some 0
first_unfit (test ∷ tests) (b ∷ bytes) = if test b then option_map suc (first_unfit tests bytes) else Some 0

-- The same, or the first byte that is left over.
abbrev pub first_misfit : List (ℕ → Bool) → List ℕ → Option ℕ
first_misfit [] [] = None
first_misfit [] (b ∷ bytes) = Some 0
first_misfit (test ∷ tests) [] = Some 0
first_misfit (test ∷ tests) (b ∷ bytes) = if test b then option_map suc (first_misfit tests bytes) else Some 0

-- The test of a name's byte with that number.
abbrev pub byte_test : NameKind → ℕ → ℕ → Bool
byte_test Identifier zero = begins_identifier
byte_test Identifier (suc i) = is_identifier_byte
byte_test Letters i = is_lower_letter
