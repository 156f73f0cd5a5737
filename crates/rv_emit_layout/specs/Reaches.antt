-- How pieces come to where they lead.
use Rattle.std.specs.Prelude.{ℕ, ◌-◌, ◌&&◌, nat_le, nat_lt, max, Bool, if◌then◌else◌}
use Rattle.memory_map.specs.declared.map.Room.{Room}
use Rattle.memory_map.specs.declared.map.Room.TheVariants.{Small, Large}
use Rattle.rv_emit_words.specs.declared.piece.Piece.{Piece}
use Rattle.rv_emit_words.specs.declared.piece.Piece.TheVariants.{Word, Jump, Branch, Call}
use Rattle.rv_emit_layout.specs.declared.reaching.Reach.{Reach}
use Rattle.rv_emit_layout.specs.declared.reaching.Reach.TheVariants.{Near, Over, Far}

-- ---- How many words a piece has

-- A jump or a call: one, or two by way of a register.
abbrev pub jump_width : Reach → ℕ
jump_width Near = 1
jump_width Over = 1
jump_width Far = 2

-- A branch: itself alone, or the opposite one over a jump.
abbrev pub branch_width : Reach → ℕ
branch_width Near = 1
branch_width Over = 2
branch_width Far = 3

-- Each piece, by how it comes to where it leads.
abbrev pub width : Reach → Piece → ℕ
width x (Word i) = 1
width x (Jump to) = jump_width x
width x (Branch op l r to) = branch_width x
width x (Call f) = jump_width x

-- How pieces reach in the longest layout: in the smaller room a jump of one word leads everywhere.
abbrev pub farthest : Room → Reach
farthest Small = Over
farthest Large = Far

-- ---- What reaches

-- Whether a branch alone leads from one word to another: over -4,096 to 4,094 bytes, which is 1,024 words back to 1,023
-- words on. What 32 bits could not count is too far.
abbrev pub is_near : (from to : ℕ) → Bool
is_near i j = nat_le (i - j) 1024 && nat_le (j - i) 1023 && nat_lt (max i j) 4294967295

-- Whether a jump of one word does: over -1,048,576 to 1,048,574 bytes, which is 262,144 words back to 262,143 words on.
abbrev pub is_within_jump : (from to : ℕ) → Bool
is_within_jump i j = nat_le (i - j) 262144 && nat_le (j - i) 262143 && nat_lt (max i j) 4294967295

-- How a jump comes from one word to another.
abbrev pub jump_reach : Room → (from to : ℕ) → Reach
jump_reach Small i j = Over
jump_reach Large i j = if is_within_jump i j then Over else Far
