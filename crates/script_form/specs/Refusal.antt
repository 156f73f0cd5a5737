-- How a script is refused.
use Rattle.std.specs.Prelude.{◌≡◌, ◌≢◌, ℕ, ◌+◌, ◌<◌, ◌≤◌, ◌^◌, ◌||◌, not, if◌then◌else◌, IsTrue, List, [], ◌∷◌, ◌++◌, length, Option, Some, None, codes, ⊤}
use Rattle.std.specs.Fmt.{decimal}
use Rattle.std.specs.Str.{bytes_eq}
use Rattle.std.specs.Str.Lines.{lines}
use Rattle.debug_records.specs.declared.code.Code.{Code}
use Rattle.debug_records.specs.declared.code.TheConstants.Code.{UNKNOWN_COMMAND, LINE_NUMBER, COMMAND_NAME, LINE_SIZE}
use Rattle.script_form.specs.declared.refusal.ScriptErr.{ScriptErr}
use Rattle.script_form.specs.declared.refusal.ScriptErr.TheVariants.{Refused, NoMemory}
use Rattle.script_form.specs.Reading.{begins_with_digit}
use Rattle.script_form.specs.Script.{Order, AskFor, IsScript, IsShort, is_name}
use Rattle.script_form.specs.Words.{words}

-- how many words may stand behind the first word of a command, if it is one
unfoldable pub most_arguments : List ℕ → Option ℕ
most_arguments head =
    if bytes_eq head (codes "break") || bytes_eq head (codes "print") then Some 1
    else (if bytes_eq head (codes "step") || bytes_eq head (codes "continue") || bytes_eq head (codes "next")
    || bytes_eq head (codes "finish") || bytes_eq head (codes "locals") || bytes_eq head (codes "where")
    || bytes_eq head (codes "quit") then Some 0 else None)

-- The words of a line break the rule of the code.
pub data WordsBreak : List (List ℕ) → Code → Type 0 where
  -- the first word is none of a command
  unknown : {head : List ℕ} {rest : List (List ℕ)} → most_arguments head ≡ None
      → WordsBreak (head ∷ rest) UNKNOWN_COMMAND
  -- there are words too many
  too_many : {head : List ℕ} {rest : List (List ℕ)} {n : ℕ} → most_arguments head ≡ Some n → n < length rest
      → WordsBreak (head ∷ rest) UNKNOWN_COMMAND
  -- what begins with a digit is no number of a line
  no_line : {word : List ℕ} → IsTrue (begins_with_digit word) → ((n : ℕ) → 1 ≤ n → n < 10 ^ 9 → word ≢ decimal n)
      → WordsBreak (codes "break" ∷ word ∷ []) LINE_NUMBER
  -- what does not is no name
  no_function : {word : List ℕ} → IsTrue (not (begins_with_digit word)) → IsTrue (not (is_name word))
      → WordsBreak (codes "break" ∷ word ∷ []) COMMAND_NAME
  no_name : {word : List ℕ} → IsTrue (not (is_name word)) → WordsBreak (codes "print" ∷ word ∷ []) COMMAND_NAME
  -- the name or the line is missing
  missing : {head : List ℕ} → most_arguments head ≡ Some 1 → WordsBreak (head ∷ []) COMMAND_NAME

-- The line breaks the rule of the code: it is too long, or else its words do.
pub data LineBreaks : List ℕ → Code → Type 0 where
  too_long : {line : List ℕ} → 200 < length line → LineBreaks line LINE_SIZE
  by_words : {line : List ℕ} {code : Code} → IsShort line → WordsBreak (words line) code → LineBreaks line code

-- The n-th line of the text breaks the rule of the code, and the lines before it ask for orders.
pub record IsRefused (text : List ℕ) (code : Code) (n : ℕ) : Type 0 where
  pub before : List (List ℕ)
  pub line : List ℕ
  pub behind : List (List ℕ)
  pub cut : lines text ≡ before ++ line ∷ behind
  pub number : n ≡ length before + 1
  pub earlier : List Order
  pub ask : AskFor before earlier
  pub breaks : LineBreaks line code

-- An error other than want of memory says the first line that breaks a rule, and the rule.
abbrev pub IsRefusal : List ℕ → ScriptErr → Type 0
IsRefusal text NoMemory = ⊤
IsRefusal text (Refused code line) = IsRefused text code line

-- No line has a number above how many bytes the text has.
abbrev pub HasLineIn : List ℕ → ScriptErr → Type 0
HasLineIn text NoMemory = ⊤
HasLineIn text (Refused code line) = line ≤ length text

-- A text is a script that asks for one list of orders, or is refused for one rule on one line.
pub record ReadingsAreOne : Type 0 where
  pub orders : (text : List ℕ) (os ps : List Order) → IsScript text os → IsScript text ps → os ≡ ps
  pub refusals : (text : List ℕ) (c d : Code) (m n : ℕ) → IsRefused text c m → IsRefused text d n → (c ≡ d) × (m ≡ n)
  pub apart : (text : List ℕ) (os : List Order) (c : Code) (n : ℕ) → IsScript text os → ¬ IsRefused text c n
