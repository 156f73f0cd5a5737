-- How a script is read: its orders, or the first rule that it breaks.
use Rattle.std.specs.Prelude.{◌≡◌, ℕ, ◌+◌, Bool, false, ◌&&◌, not, ◌==◌, nat_lt, nat_le, if◌then◌else◌, List, [], ◌∷◌, length, Option, Some, None, Result, Ok, Err, codes}
use Rattle.std.specs.Char.{is_ascii_digit}
use Rattle.std.specs.Option.{option_map_or}
use Rattle.std.specs.List.{list_all}
use Rattle.std.specs.Str.{bytes_eq}
use Rattle.std.specs.Str.Lines.{lines}
use Rattle.std.specs.Str.Parse.{digits_value}
use Rattle.debug_records.specs.declared.code.Code.{Code}
use Rattle.debug_records.specs.declared.code.TheConstants.Code.{UNKNOWN_COMMAND, LINE_NUMBER, COMMAND_NAME, LINE_SIZE}
use Rattle.script_form.specs.declared.refusal.ScriptErr.{ScriptErr}
use Rattle.script_form.specs.declared.refusal.ScriptErr.TheVariants as errors
use Rattle.script_form.specs.Script.{Mark, OnLine, InFunction, Order, Break, Step, Continue, Next, Finish, Print, Locals, Where, Quit, is_name}
use Rattle.script_form.specs.Words.{words}

-- The code of a rule, and the line on which it is broken.
abbrev pub Fault : Type 0
Fault = Code × ℕ

infixl 10 ◌>>=◌
abbrev pub ◌>>=◌ : {A B E : Type 0} → Result A E → (A → Result B E) → Result B E
(Ok x) >>= f = f x
(Err e) >>= f = Err e

-- the fault of a line with that number
abbrev pub at_line : {A : Type 0} → ℕ → Result A Code → Result A Fault
at_line n (Ok x) = Ok x
at_line n (Err code) = Err (code, n)

-- the name that a word is
unfoldable pub name_of : List ℕ → Result (List ℕ) Code
name_of word = if is_name word then Ok word else Err COMMAND_NAME

-- the first letter of a word is a digit
unfoldable pub begins_with_digit : List ℕ → Bool
begins_with_digit [] = false
begins_with_digit (b ∷ bs) = is_ascii_digit b

-- 1 to 9 digits, of which the first is not 0
unfoldable pub is_line_number : List ℕ → Bool
is_line_number [] = false
is_line_number (b ∷ bs) = not (b == 48) && nat_le (length (b ∷ bs)) 9 && list_all is_ascii_digit (b ∷ bs)

-- what the argument of a `break` marks: a line where it begins with a digit
unfoldable pub mark_of : List ℕ → Result Mark Code
mark_of word =
    if begins_with_digit word then (if is_line_number word then Ok (OnLine (digits_value 10 word)) else Err LINE_NUMBER)
    else (name_of word >>= λ name. Ok (InFunction name))

-- the order that is one word
unfoldable pub order_of_word : List ℕ → Option Order
order_of_word word =
    if bytes_eq word (codes "step") then Some Step
    else (if bytes_eq word (codes "continue") then Some Continue
    else (if bytes_eq word (codes "next") then Some Next
    else (if bytes_eq word (codes "finish") then Some Finish
    else (if bytes_eq word (codes "locals") then Some Locals
    else (if bytes_eq word (codes "where") then Some Where
    else (if bytes_eq word (codes "quit") then Some Quit
    else None))))))

-- the order of its first word and its argument, which is empty where it is missing
unfoldable pub order_of_words : List ℕ → List ℕ → Result Order Code
order_of_words head word =
    if bytes_eq head (codes "break") then (mark_of word >>= λ m. Ok (Break m))
    else (if bytes_eq head (codes "print") then (name_of word >>= λ name. Ok (Print name))
    else option_map_or (λ o. if length word == 0 then Ok o else Err UNKNOWN_COMMAND) (order_of_word head)
    (Err UNKNOWN_COMMAND))

-- the one word, or the empty one where there is none
abbrev pub only_word : List (List ℕ) → Option (List ℕ)
only_word [] = Some []
only_word (word ∷ []) = Some word
only_word (word ∷ other ∷ more) = None

-- the order of words, if there are any
abbrev pub order_in : List (List ℕ) → Result (Option Order) Code
order_in [] = Ok None
order_in (head ∷ arguments) =
    option_map_or (λ word. order_of_words head word >>= λ o. Ok (Some o)) (only_word arguments) (Err UNKNOWN_COMMAND)

-- the order of a line, if it has words
unfoldable pub order_of_line : List ℕ → Result (Option Order) Code
order_of_line line = if nat_lt 200 (length line) then Err LINE_SIZE else order_in (words line)

-- an order, if there is one, before others
abbrev pub with_front : Option Order → List Order → List Order
with_front None os = os
with_front (Some o) os = o ∷ os

-- the orders of lines, of which the first has that number
abbrev pub orders_from : ℕ → List (List ℕ) → Result (List Order) Fault
orders_from n [] = Ok []
orders_from n (line ∷ more) =
    at_line n (order_of_line line) >>= λ o. orders_from (n + 1) more >>= λ os. Ok (with_front o os)

-- the orders of a script, or its first fault
abbrev pub script_of : List ℕ → Result (List Order) Fault
script_of text = orders_from 1 (lines text)

-- What a function returned, seen by view, is what reading gives, unless memory ran out.
abbrev pub Fails : {Y : Type 0} → ScriptErr → Result Y Fault → Type 0
Fails errors.NoMemory read = Unit {0}
Fails (errors.Refused code line) read = read ≡ Err (code, line)

abbrev pub Gives : {X Y : Type 0} → (X → Y) → Result X ScriptErr → Result Y Fault → Type 0
Gives view (Ok x) read = read ≡ Ok (view x)
Gives view (Err e) read = Fails e read
