-- The lines of a transcript, each as the text before its end.
use Rattle.std.specs.Prelude.{ℕ, ℤ, zero, suc, ◌+◌, ◌/◌, ◌==◌, ◌&&◌, ◌||◌, nat_le, if◌then◌else◌, List, [], ◌∷◌, ◌++◌, length, take, drop, map, flat_map, codes}
use Rattle.line_form.specs.Decimal.{decimal, signed_decimal}
use Rattle.line_form.specs.Hexadecimal.{hexadecimal}

-- A text as a line: its end is a line feed.
abbrev pub line : List ℕ → List ℕ
line text = text ++ 10 ∷ []

-- A byte of the program's output between quotes: a backslash stands before a quote and a backslash, any other byte from
-- 32 to 126 stands for itself, and the rest are \x and two hexadecimal digits.
unfoldable pub quoted_byte : ℕ → List ℕ
quoted_byte b =
    if b == 34 || b == 92 then 92 ∷ b ∷ []
    else (if nat_le 32 b && nat_le b 126 then b ∷ []
    else 92 ∷ 120 ∷ hexadecimal 2 b)

-- out "TEXT", for a piece of the output
unfoldable pub out_line : List ℕ → List ℕ
out_line piece = codes "out " ++ 34 ∷ (flat_map quoted_byte piece ++ 34 ∷ [])

-- The next so many pieces of some bytes. Each has 64 bytes, and the last may have fewer.
abbrev pub pieces : ℕ → List ℕ → List (List ℕ)
pieces zero bytes = []
pieces (suc count) bytes = take 64 bytes ∷ pieces count (drop 64 bytes)

-- The output in lines of at most 64 bytes, in order; no line for no byte.
unfoldable pub out_lines : List ℕ → List (List ℕ)
out_lines output = map out_line (pieces ((length output + 63) / 64) output)

-- at PLACE line LINE FUNCTION depth DEPTH, for a stop
unfoldable pub stop_line : ℕ → ℕ → List ℕ → ℕ → List ℕ
stop_line place source_line function depth =
    codes "at "
    ++
    (decimal place
    ++
    (codes " line "
    ++ (decimal source_line ++ (codes " " ++ (function ++ (codes " depth " ++ decimal depth))))))

-- exit VALUE, where the program has ended with that value
unfoldable pub exit_line : ℤ → List ℕ
exit_line value = codes "exit " ++ signed_decimal value

-- depth, where a call found too many activations
unfoldable pub depth_line : List ℕ
depth_line = codes "depth"

-- fault 0xADDRESS in eight digits, where the machine could not go on
unfoldable pub fault_line : ℕ → List ℕ
fault_line address = codes "fault 0x" ++ hexadecimal 8 address

-- limit COUNT, where so many instructions have run
unfoldable pub limit_line : ℕ → List ℕ
limit_line count = codes "limit " ++ decimal count

-- NAME = VALUE, for a variable
unfoldable pub value_line : List ℕ → List ℕ → List ℕ
value_line name value = name ++ (codes " = " ++ value)

-- no NAME here, where no variable of that name is visible
unfoldable pub nothing_here_line : List ℕ → List ℕ
nothing_here_line name = codes "no " ++ (name ++ codes " here")

-- no stop, where the program stands at no stop
unfoldable pub no_stop_line : List ℕ
no_stop_line = codes "no stop"

-- no locals, where no variable is visible
unfoldable pub no_locals_line : List ℕ
no_locals_line = codes "no locals"

-- no frame NUMBER, where there is no activation of the number
unfoldable pub no_frame_line : ℕ → List ℕ
no_frame_line number = codes "no frame " ++ decimal number

-- a number with a space in front
abbrev pub spaced_number : ℕ → List ℕ
spaced_number n = codes " " ++ decimal n

-- numbers, each with a space in front
abbrev pub spaced : List ℕ → List ℕ
spaced numbers = flat_map spaced_number numbers

-- break at PLACE PLACE .., for the places that are marked
unfoldable pub break_line : List ℕ → List ℕ
break_line places = codes "break at" ++ spaced places

-- no place on line LINE
unfoldable pub no_place_line : ℕ → List ℕ
no_place_line source_line = codes "no place on line " ++ decimal source_line

-- no function NAME
unfoldable pub no_function_line : List ℕ → List ℕ
no_function_line name = codes "no function " ++ name

-- #NUMBER FUNCTION line LINE place PLACE, for an activation, the innermost one with number 0
unfoldable pub frame_line : ℕ → List ℕ → ℕ → ℕ → List ℕ
frame_line number function source_line place =
    codes "#"
    ++
    (decimal number
    ++
    (codes " "
    ++
    (function
    ++ (codes " line " ++ (decimal source_line ++ (codes " place " ++ decimal place))))))
