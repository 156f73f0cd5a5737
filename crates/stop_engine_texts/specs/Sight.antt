-- What a session sees of a name where it stands.
use Rattle.std.specs.Prelude.{ℕ, List, [], option_map, unwrap_or}
use Rattle.line_form.specs.Lines.{value_line, nothing_here_line, no_stop_line}
use Rattle.line_form.specs.Changes.{recovered_line, noncurrent_line, nonresident_line, suspect_line}
use Rattle.places.specs.Path.{places}
use Rattle.stop_engine_texts.specs.declared.shown.Shown.{Shown}
use Rattle.stop_engine_texts.specs.declared.shown.Shown.TheVariants as shown

-- There is no stop; no variable of the name is visible; its value; its value computed anew, and the change; the change
-- for which the home has not its value, or has another's, and the places of the path that shows it, none where there is
-- no path; where the home may have its value too, the same with the places of the path on which nothing disturbs it.
-- Values and changes are texts.
pub data Sight : Type 0 where
  NoStop : Sight
  NoName : Sight
  Value : (text : List ℕ) → Sight
  Recovered : (text change : List ℕ) → Sight
  Noncurrent : (change : List ℕ) → (path : List ℕ) → Sight
  Nonresident : (change : List ℕ) → (path : List ℕ) → Sight
  Suspect : (change : List ℕ) → (path current : List ℕ) → Sight

-- what is said of it
abbrev pub sight_line : (name : List ℕ) → Sight → List ℕ
sight_line name NoStop = no_stop_line
sight_line name NoName = nothing_here_line name
sight_line name (Value text) = value_line name text
sight_line name (Recovered text change) = recovered_line name text change
sight_line name (Noncurrent change path) = noncurrent_line name change path
sight_line name (Nonresident change path) = nonresident_line name change path
sight_line name (Suspect change path current) = suspect_line name change path current

-- what an answer says
abbrev pub sight_of : Shown → Sight
sight_of shown.NoStop = NoStop
sight_of shown.NoName = NoName
sight_of (shown.Value text) = Value text.items
sight_of (shown.Recovered text change) = Recovered text.items change.items
sight_of (shown.Noncurrent change path) = Noncurrent change.items (unwrap_or (option_map places path) [])
sight_of (shown.Nonresident change path) = Nonresident change.items (unwrap_or (option_map places path) [])
sight_of (shown.Suspect change path current) =
    Suspect change.items (unwrap_or (option_map places path) []) (unwrap_or (option_map places current) [])
