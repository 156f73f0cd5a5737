-- The text of a script.
use Rattle.std.specs.Prelude.{◌≡◌, ℕ, ◌<◌, ◌≤◌, ◌^◌, Bool, true, false, ◌&&◌, ◌||◌, ◌==◌, IsTrue, List, [], ◌∷◌, length, map, codes, string_bytes, All, ⊤}
use Rattle.std.specs.Char.{is_ascii_alphabetic, is_ascii_alphanumeric}
use Rattle.std.specs.Fmt.{decimal}
use Rattle.std.specs.List.{filter, list_all}
use Rattle.std.specs.Str.Lines.{lines}
use Rattle.script_form.specs.declared.command.Command.{Command}
use Rattle.script_form.specs.declared.command.Command.TheVariants as command
use Rattle.script_form.specs.declared.command.Target.{Target}
use Rattle.script_form.specs.declared.command.Target.TheVariants as target
use Rattle.script_form.specs.Words.{words}

-- What is to be marked: the stops on a line, or the first one in the function of a name.
pub data Mark : Type 0 where
  OnLine : ℕ → Mark
  InFunction : List ℕ → Mark

-- What a line of a script asks for.
pub data Order : Type 0 where
  Break : Mark → Order
  Step : Order
  Continue : Order
  Next : Order
  Finish : Order
  Print : List ℕ → Order
  Locals : Order
  Where : Order
  Quit : Order

-- what a target stands for
abbrev pub mark : Target → Mark
mark (target.Line n) = OnLine n
mark (target.Function name) = InFunction (string_bytes name)

-- the order that a command stands for
abbrev pub order_of : Command → Order
order_of (command.Break t) = Break (mark t)
order_of command.Step = Step
order_of command.Continue = Continue
order_of command.Next = Next
order_of command.Finish = Finish
order_of (command.Print name) = Print (string_bytes name)
order_of command.Locals = Locals
order_of command.Where = Where
order_of command.Quit = Quit

-- the orders that commands stand for
abbrev pub orders : List Command → List Order
orders commands = map order_of commands

-- a letter or _
abbrev pub begins_name : ℕ → Bool
begins_name b = is_ascii_alphabetic b || b == 95

-- a letter, a digit or _
abbrev pub is_name_byte : ℕ → Bool
is_name_byte b = is_ascii_alphanumeric b || b == 95

-- A name is a letter or _, and then letters, digits and _.
abbrev pub is_name : List ℕ → Bool
is_name [] = false
is_name (b ∷ bs) = begins_name b && list_all is_name_byte bs

-- the word for a mark: the number of its line in decimal, or the function's name
abbrev pub mark_word : Mark → List ℕ
mark_word (OnLine n) = decimal n
mark_word (InFunction name) = name

-- the words of an order
abbrev pub order_words : Order → List (List ℕ)
order_words (Break m) = codes "break" ∷ mark_word m ∷ []
order_words Step = codes "step" ∷ []
order_words Continue = codes "continue" ∷ []
order_words Next = codes "next" ∷ []
order_words Finish = codes "finish" ∷ []
order_words (Print name) = codes "print" ∷ name ∷ []
order_words Locals = codes "locals" ∷ []
order_words Where = codes "where" ∷ []
order_words Quit = codes "quit" ∷ []

-- Lines are counted from 1, and their numbers have at most nine digits; a function has a name.
abbrev pub IsMark : Mark → Type 0
IsMark (OnLine n) = (1 ≤ n) × (n < 10 ^ 9)
IsMark (InFunction name) = IsTrue (is_name name)

-- what an order names is named so
abbrev pub IsOrder : Order → Type 0
IsOrder (Break m) = IsMark m
IsOrder (Print name) = IsTrue (is_name name)
IsOrder Step = ⊤
IsOrder Continue = ⊤
IsOrder Next = ⊤
IsOrder Finish = ⊤
IsOrder Locals = ⊤
IsOrder Where = ⊤
IsOrder Quit = ⊤

-- the line has at most 200 bytes, without its end
abbrev pub IsShort : List ℕ → Type 0
IsShort line = length line ≤ 200

-- a line has words
abbrev pub has_words : List (List ℕ) → Bool
has_words [] = false
has_words (word ∷ ws) = true

-- Lines ask for these orders: each line is short, and the words of those that have words are the words of the orders.
pub record AskFor (ls : List (List ℕ)) (os : List Order) : Type 0 where
  pub short : All IsShort ls
  pub spelled : filter has_words (map words ls) ≡ map order_words os
  pub named : All IsOrder os

-- The text is a script that asks for these orders. A line ends with a line feed, before which a carriage return is
-- dropped; the last line may lack its end.
abbrev pub IsScript : List ℕ → List Order → Type 0
IsScript text os = AskFor (lines text) os
