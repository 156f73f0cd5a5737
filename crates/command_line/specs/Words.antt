-- How the words of a job are read, one after the other.
use Rattle.std.specs.Prelude.{ℕ, ◌+◌, ◌==◌, ◌||◌, ◌&&◌, Bool, true, false, not, List, [], ◌∷◌, ◌++◌, Option, Some, None, if◌then◌else◌, find, option_and_then, slice_get, drop}
use Rattle.std.specs.List.{list_all, list_any, before_first, after_first}
use Rattle.std.specs.Str.{bytes_eq}

-- a word, as bytes
abbrev pub Text : Type 0
Text = List ℕ

-- A job's options, by the names that follow their dashes, and its positionals in their order.
pub record JobForm : Type 0 where
  pub options : List Text
  pub places : List Text

-- the name of an option or a positional, with the word that it was given
abbrev pub Use : Type 0
Use = Text × Text

-- the word begins with `-` (45)
abbrev pub is_dashed : Text → Bool
is_dashed [] = false
is_dashed (c ∷ cs) = c == 45

-- the byte is `=` (61)
abbrev pub is_equals : ℕ → Bool
is_equals x = x == 61

-- what stands behind a first `-`
abbrev pub without_dash : Text → Option Text
without_dash [] = None
without_dash (c ∷ cs) = if c == 45 then Some cs else None

-- what stands before the first `=`, and behind it if there is one
abbrev pub name_and_value : Text → Option (Text × Option Text)
name_and_value [] = None
name_and_value (c ∷ cs) = Some (
  before_first (λ x. x == 61) (c ∷ cs),
  if list_any (λ x. x == 61) (c ∷ cs) then Some (after_first (λ x. x == 61) (c ∷ cs)) else None,
)

-- the name, and the value if there is one, of `--name` or `--name=value`; `--` alone has none
abbrev pub long_word : Text → Option (Text × Option Text)
long_word w = option_and_then name_and_value (option_and_then without_dash (without_dash w))

-- the name was given a word before
abbrev pub is_used : Text → List Use → Bool
is_used name uses = list_any (λ u. bytes_eq u.0 name) uses

-- what the words give to the names, or none where they are refused
abbrev pub Uses : Type 0
Uses = Option (List Use)

-- one more name is given a word, and none is given two
abbrev pub with_use : Text → Text → List Use → (List Use → Uses) → Uses
with_use name word uses next =
    if is_used name uses then None else next (uses ++ (name, word) ∷ [])

-- a positional is given a word, where the form has one at that place
abbrev pub in_place : Option Text → Text → List Use → (List Use → Uses) → Uses
in_place None word uses next = None
in_place (Some place) word uses next = with_use place word uses next

-- an option of the form is given its value, or waits for it where there is none; no value begins with `-`
abbrev pub by_name : Option Text → Option Text → List Use → (List Use → Option Text → Uses) → Uses
by_name None value uses next = None
by_name (Some name) (Some value) uses next =
    if is_dashed value then None else with_use name value uses (λ us. next us None)
by_name (Some name) None uses next = next uses (Some name)

-- a word that begins with `-` is an option of the form
abbrev pub as_option : JobForm → Option (Text × Option Text) → List Use
    → (List Use → Option Text → Uses) → Uses
as_option f None uses next = None
as_option f (Some p) uses next = by_name (find (λ o. bytes_eq o p.0) f.options) p.1 uses next

-- What the words give to the names of the form, behind what was given before, where `k` positionals stand before them
-- and an option may wait for its value. At the end each positional must have its word.
abbrev pub uses_from : JobForm → List Use → ℕ → Option Text → List Text → Uses
uses_from f uses k None [] = if list_all (λ p. is_used p uses) f.places then Some uses else None
uses_from f uses k (Some name) [] = None
uses_from f uses k (Some name) (word ∷ rest) =
    if is_dashed word then None else with_use name word uses (λ us. uses_from f us k None rest)
uses_from f uses k None (word ∷ rest) =
    if is_dashed word
    then as_option f (long_word word) uses (λ us waiting. uses_from f us k waiting rest)
    else in_place (slice_get f.places k) word uses (λ us. uses_from f us (k + 1) None rest)

-- what the words give to the names of the form
abbrev pub uses_of : JobForm → List Text → Uses
uses_of f words = uses_from f [] 0 None words

-- jobs by their names
abbrev pub Jobs : Type 0
Jobs = List (Text × JobForm)

-- the job of this name
abbrev pub job_named : Jobs → Text → Option (Text × JobForm)
job_named jobs word = find (λ j. bytes_eq j.0 word) jobs

-- ---- words that no job has

-- something behind the first `=` of the word begins with `-`
abbrev pub has_dashed_value : Text → Bool
has_dashed_value w = list_any is_equals w && is_dashed (after_first is_equals w)

-- there is a name, and a value that begins with `-` is not there
abbrev pub is_fit : Option (Text × Option Text) → Bool
is_fit None = false
is_fit (Some (name, None)) = true
is_fit (Some (name, Some value)) = not (is_dashed value)

-- the word does not begin with `-`, or is spelled as an option
abbrev pub is_readable : Text → Bool
is_readable w = not (is_dashed w) || is_fit (long_word w)

-- so are all words behind the program's own name
abbrev pub is_checked : List Text → Bool
is_checked words = list_all is_readable (drop 1 words)
