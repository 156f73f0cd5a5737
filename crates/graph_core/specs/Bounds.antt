-- How much a valid unit, and a run of it, may have. What is said "of a function" is asked of each; what all functions
-- together may have goes by the unit's room.
use Rattle.std.specs.Prelude.{ℕ}
use Rattle.memory_map.specs.declared.map.Room.{Room}
use Rattle.memory_map.specs.declared.map.Room.TheVariants.{Small, Large}

-- functions
abbrev pub most_functions : ℕ
most_functions = 256

-- parameters of a function
abbrev pub most_parameters : ℕ
most_parameters = 8

-- names of a function
abbrev pub most_names : ℕ
most_names = 3000

-- instructions of a function that are neither markers nor notes
abbrev pub most_instructions_of_function : ℕ
most_instructions_of_function = 6000

-- instructions of all functions that are neither markers nor notes
abbrev pub most_instructions : Room → ℕ
most_instructions Small = 8000
most_instructions Large = 80000

-- blocks of all functions
abbrev pub most_blocks : Room → ℕ
most_blocks Small = 12000
most_blocks Large = 120000

-- markers of all functions
abbrev pub most_markers : Room → ℕ
most_markers Small = 4000
most_markers Large = 40000

-- arguments of all calls
abbrev pub most_arguments : Room → ℕ
most_arguments Small = 4000
most_arguments Large = 40000

-- bytes that the automatic objects of a function take
abbrev pub most_bytes_of_function : ℕ
most_bytes_of_function = 4096

-- bytes that the static objects and the bytes that initialise arrays take
abbrev pub most_static_bytes : ℕ
most_static_bytes = 1048576

-- how deep the recipe of a note is
abbrev pub most_depth : ℕ
most_depth = 4

-- words that one instruction of a well marked unit sets or copies
abbrev pub most_words : ℕ
most_words = 1023

-- activations that live at once
abbrev pub most_activations : ℕ
most_activations = 1024
