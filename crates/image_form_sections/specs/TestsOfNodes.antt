-- The tests of the nodes of recipes.
use Rattle.std.specs.Prelude.{ℕ, zero, suc, ◌-◌, ◌%◌, Bool, true, false, ◌&&◌, ◌||◌, ◌==◌, nat_lt, nat_le, if◌then◌else◌, List, [], ◌∷◌, slice_index, slice_index_or, length}
use Rattle.std.specs.List.{position_from}
use Rattle.std.specs.Option.{option_map_or}
use Rattle.image_form_sections.specs.Sections.{Sections, cell}
use Rattle.image_form_sections.specs.TestsOfTables.{within}

-- The i-th node is the root of a recipe of at most so many levels. A leaf's operation is below 3, a truncation's from
-- 18 on.
abbrev pub is_shallow : List (List ℕ) → ℕ → ℕ → Bool
is_shallow nodes zero i = false
is_shallow nodes (suc depth) i =
    if nat_lt (cell nodes i 0) 3 then true
    else
    (is_shallow nodes depth (cell nodes i 1)
    && (if nat_lt (cell nodes i 0) 18 then is_shallow nodes depth (cell nodes i 2) else true))

-- An operand of the i-th node: an earlier node of at most three levels.
unfoldable pub is_operand : Sections → ℕ → ℕ → Bool
is_operand s i n = nat_lt n i && is_shallow s.nodes 3 n

-- A variable that has a home.
unfoldable pub has_home : Sections → ℕ → Bool
has_home s variable = nat_lt variable (length s.variables) && within 2 3 (cell s.variables variable 4)

-- A register, or 32 plus the offset of a slot.
unfoldable pub is_home_number : ℕ → Bool
is_home_number home = nat_lt home 32 || ((home - 32) % 4 == 0 && nat_lt (home - 32) 16384)

-- The first operand: of a leaf what it names.
unfoldable pub is_left : Sections → ℕ → Bool
is_left s i =
    if cell s.nodes i 0 == 0 then true
    else (if cell s.nodes i 0 == 1 then has_home s (cell s.nodes i 1)
    else (if cell s.nodes i 0 == 2 then is_home_number (cell s.nodes i 1) else is_operand s i (cell s.nodes i 1)))

-- The second operand: 0 where there is none.
unfoldable pub is_right : Sections → ℕ → Bool
is_right s i = if within 3 17 (cell s.nodes i 0) then is_operand s i (cell s.nodes i 2) else cell s.nodes i 2 == 0

-- The rows have the same three numbers.
abbrev pub is_same : List ℕ → List ℕ → Bool
is_same p q =
    slice_index p 0 == slice_index q 0 && slice_index p 1 == slice_index q 1 && slice_index p 2 == slice_index q 2

-- No earlier node equals the i-th.
unfoldable pub is_new_node : Sections → ℕ → Bool
is_new_node s i =
    option_map_or (λ j. j == i) (position_from (λ q. is_same q (slice_index_or s.nodes i [])) 0 s.nodes) false

-- The operation and the two operands of the i-th node.
abbrev pub node_tests : Sections → ℕ → List Bool
node_tests s i = nat_le (cell s.nodes i 0) 21 ∷ is_left s i ∷ (is_right s i && is_new_node s i) ∷ []
