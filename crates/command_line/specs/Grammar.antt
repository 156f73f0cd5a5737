-- The words of a job, as items in any order.
use Rattle.std.specs.Prelude.{◌≡◌, ℕ, ◌+◌, ◌<◌, true, false, List, [], ◌∷◌, ◌++◌, Some, length, slice_get, unwrap_or, Contains}
use Rattle.std.specs.List.{flat_map, list_all}
use Rattle.command_line.specs.Words.{JobForm, Text, Use, is_dashed, is_used}
use Rattle.command_line.specs.Forms.{jobs}
use Rattle.command_line.specs.Job.{JobGiven, job_by, word_of_option}

-- an option with its value in one word, or in two, or a positional
pub data Item : Type 0 where
  joined : Text → Text → Item
  apart : Text → Text → Item
  positional : Text → Item

-- `--name=value`, `--name value`, or the word itself
abbrev pub spelling : Item → List Text
spelling (joined name value) = (45 ∷ 45 ∷ name ++ 61 ∷ value) ∷ []
spelling (apart name value) = (45 ∷ 45 ∷ name) ∷ value ∷ []
spelling (positional word) = word ∷ []

-- what the items spell, one after the other
abbrev pub spellings : List Item → List Text
spellings items = flat_map spelling items

-- What the items give to the names of the form, where `k` positionals stand before them.
abbrev pub uses_in : JobForm → ℕ → List Item → List Use
uses_in f k [] = []
uses_in f k (joined name value ∷ rest) = (name, value) ∷ uses_in f k rest
uses_in f k (apart name value ∷ rest) = (name, value) ∷ uses_in f k rest
uses_in f k (positional word ∷ rest) = (unwrap_or (slice_get f.places k) [], word) ∷ uses_in f (k + 1) rest

-- Each option is one of the form's, no value and no positional begins with `-`, and no positional is one too many.
abbrev pub AreItems : JobForm → ℕ → List Item → Type 0
AreItems f k [] = Unit {0}
AreItems f k (joined name value ∷ rest) = Contains f.options name × (is_dashed value ≡ false) × AreItems f k rest
AreItems f k (apart name value ∷ rest) = Contains f.options name × (is_dashed value ≡ false) × AreItems f k rest
AreItems f k (positional word ∷ rest) = (is_dashed word ≡ false) × (k < length f.places) × AreItems f (k + 1) rest

-- no name is given two words
abbrev pub AreNew : List Use → List Use → Type 0
AreNew before [] = Unit {0}
AreNew before (u ∷ rest) = (is_used u.0 before ≡ false) × AreNew (before ++ u ∷ []) rest

-- The words spell items of the form in any order: each option at most once, each positional once.
pub record Spells (f : JobForm) (words : List Text) (uses : List Use) : Type 0 where
  pub items : List Item
  pub are_items : AreItems f 0 items
  pub words_are : words ≡ spellings items
  pub uses_are : uses ≡ uses_in f 0 items
  pub once : AreNew [] uses
  pub whole : list_all (λ p. is_used p uses) f.places ≡ true

-- The words are the program's own name, the name of a job, and items of the job's form whose values are those of this
-- job.
pub record IsJob (words : List Text) (job : JobGiven) : Type 0 where
  pub program : Text
  pub name : Text
  pub form : JobForm
  pub rest : List Text
  pub uses : List Use
  pub words_are : words ≡ program ∷ name ∷ rest
  pub form_is : Contains jobs (name, form)
  pub spelled : Spells form rest uses
  pub job_is : job_by name (word_of_option uses) ≡ Some job

-- the words are no job
abbrev pub IsNoJob : List Text → Type 0
IsNoJob words = (job : JobGiven) → ¬ IsJob words job

-- no words are two jobs
abbrev pub AreOneJobAtMost : Type 0
AreOneJobAtMost = (words : List Text) (a b : JobGiven) → IsJob words a → IsJob words b → a ≡ b
