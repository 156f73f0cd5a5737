-- How changes are shown, and the values that they hide or that are recovered.
use Rattle.std.specs.Prelude.{ℕ, List, [], ◌∷◌, ◌++◌, codes}
use Rattle.debug_records.specs.declared.change.Kind.{Kind}
use Rattle.debug_records.specs.declared.change.Kind.TheVariants.{Removed, Moved, Reused, Replaced, Sunk}
use Rattle.line_form.specs.Decimal.{decimal}
use Rattle.line_form.specs.Lines.{spaced, value_line}

-- what a pass did, in one word
abbrev pub kind_word : Kind → List ℕ
kind_word Removed = codes "removed"
kind_word Moved = codes "moved"
kind_word Reused = codes "reused"
kind_word Replaced = codes "replaced"
kind_word Sunk = codes "sunk"

-- NUMBER PASS KIND PLACE, of a change
unfoldable pub change_text : (number : ℕ) → (pass : List ℕ) → Kind → (place : ℕ) → List ℕ
change_text number pass kind place =
    decimal number ++ (codes " " ++ (pass ++ (codes " " ++ (kind_word kind ++ (codes " " ++ decimal place)))))

-- NUMBER PASS KIND NAME PLACE, of a change of the variable of this name
unfoldable pub change_line : (number : ℕ) → (pass : List ℕ) → Kind → (name : List ℕ) → (place : ℕ) → List ℕ
change_line number pass kind name place =
    decimal number
    ++
    (codes " "
    ++ (pass ++ (codes " " ++ (kind_word kind ++ (codes " " ++ (name ++ (codes " " ++ decimal place)))))))

-- NAME = VALUE (recovered: CHANGE), for a value that is computed anew
unfoldable pub recovered_line : (name value change : List ℕ) → List ℕ
recovered_line name value change = value_line name value ++ (codes " (recovered: " ++ (change ++ codes ")"))

-- path PLACE PLACE .., or path none where there is no place
abbrev pub path_text : List ℕ → List ℕ
path_text [] = codes "path none"
path_text (place ∷ places) = codes "path" ++ spaced (place ∷ places)

-- NAME WHY: CHANGE, and the path behind it
unfoldable pub hidden_value : (name why change : List ℕ) → List ℕ
hidden_value name why change = name ++ (why ++ (change ++ codes ", "))

-- NAME noncurrent: CHANGE, PATH, for a value that its home does not hold
unfoldable pub noncurrent_line : (name change : List ℕ) → (places : List ℕ) → List ℕ
noncurrent_line name change places = hidden_value name (codes " noncurrent: ") change ++ path_text places

-- NAME nonresident: CHANGE, PATH, for a value whose home is another one's
unfoldable pub nonresident_line : (name change : List ℕ) → (places : List ℕ) → List ℕ
nonresident_line name change places = hidden_value name (codes " nonresident: ") change ++ path_text places

-- NAME suspect: CHANGE, PATH, current PATH, for a value that its home holds on the second path and does not hold on the
-- first
unfoldable pub suspect_line : (name change : List ℕ) → (places current : List ℕ) → List ℕ
suspect_line name change places current =
    hidden_value name (codes " suspect: ") change ++ (path_text places ++ (codes ", current " ++ path_text current))
