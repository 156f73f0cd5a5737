-- The rules of an image, section after section.
use Rattle.std.specs.Prelude.{◌≡◌, ℕ, ◌%◌, ◌<◌, ◌≤◌, ◌^◌, true, List, length}
use Rattle.std.specs.List.{AllByRecursion}
use Rattle.image_form.specs.Form.{Form}
use Rattle.image_form.specs.Numbers.{function_numbers, place_numbers, variable_numbers, change_numbers, flow_numbers, assigned_numbers, row_numbers, call_numbers, member_numbers, node_numbers}
use Rattle.image_form.specs.RulesOfCalls.{CallRules, MemberRules}
use Rattle.image_form.specs.RulesOfChanges.{IsChange, FlowRules, AssignedRules}
use Rattle.image_form.specs.RulesOfFunctions.{FunctionRules}
use Rattle.image_form.specs.RulesOfNames.{NameRules}
use Rattle.image_form.specs.RulesOfNodes.{NodeRules}
use Rattle.image_form.specs.RulesOfPlaces.{PlaceRules, OwnerRules}
use Rattle.image_form.specs.RulesOfRows.{RowRules}
use Rattle.image_form.specs.RulesOfVariables.{VariableRules}
use Rattle.image_form.specs.Spelling.{size}
use Rattle.image_form_sections.specs.Versions.{is_read, version_number}
use Rattle.memory_map.specs.Maps.{most_words, bytes_size}

-- Each number fits its 32 bits.
abbrev pub AllFit : List ℕ → Type 0
AllFit numbers = AllByRecursion (λ n. n < 2 ^ 32) numbers

-- Each number of each record does.
abbrev pub RecordsFit : {A : Type 0} → (A → List ℕ) → List A → Type 0
RecordsFit numbers records = AllByRecursion (λ r. AllFit (numbers r)) records

-- Which version the image may have, and how many records each section.
pub record SizeRules (f : Form) : Type 0 where
  pub version : is_read (version_number f.version) ≡ true
  pub code : length f.code ≤ most_words f.version.map
  pub initial : length f.initial ≤ bytes_size
  pub initial_words : length f.initial % 4 ≡ 0
  pub some_function : 1 ≤ length f.functions
  pub some_place : 1 ≤ length f.places
  pub rows : length f.rows ≤ 1000000
  pub whole : size f < 2 ^ 32

-- Each number of the image fits its 32 bits, and each initial byte its 8.
pub record FitRules (f : Form) : Type 0 where
  pub code : AllFit f.code
  pub initial : AllByRecursion (λ b. b < 256) f.initial
  pub functions : RecordsFit (function_numbers f.version.level) f.functions
  pub places : RecordsFit place_numbers f.places
  pub owners : AllFit f.owners
  pub variables : RecordsFit variable_numbers f.variables
  pub changes : RecordsFit change_numbers f.changes
  pub flow : RecordsFit flow_numbers f.flow
  pub assigned : RecordsFit assigned_numbers f.assigned
  pub rows : RecordsFit (row_numbers f.version.level) f.rows
  pub calls : RecordsFit call_numbers f.calls
  pub members : RecordsFit member_numbers f.members
  pub nodes : RecordsFit node_numbers f.nodes

-- The image keeps every rule of its format.
pub record IsImage (f : Form) : Type 0 where
  pub sizes : SizeRules f
  pub fits : FitRules f
  pub functions : FunctionRules f
  pub places : PlaceRules f
  pub owners : OwnerRules f
  pub variables : VariableRules f
  pub changes : AllByRecursion (IsChange f) f.changes
  pub flow : FlowRules f
  pub assigned : AssignedRules f
  pub rows : RowRules f
  pub calls : CallRules f
  pub members : MemberRules f
  pub nodes : NodeRules f
  pub names : NameRules f
