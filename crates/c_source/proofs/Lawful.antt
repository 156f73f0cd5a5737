-- The program of a source keeps the laws of accepted programs.
use Rattle.std.proofs.Common.{◌≡◌, ℕ, List, true}
use Rattle.std.specs.Prelude.{Ok}
use Rattle.c_tree.specs.Programs.{ProgramTree}
use Rattle.c_flow.specs.Tables.{Fits32}
use Rattle.c_type_laws.specs.Laws.{IsWellFormed}
use Rattle.c_type_laws.specs.Names.{HasNames}
use Rattle.c_type_laws.specs.Spots.{HasSpots}
use Rattle.c_type_laws.specs.Statics.{are_bytes}
use Rattle.c_source.proofs.AcceptedTexts.{accepted_tree}
use Rattle.c_source.proofs.Texts.{text_well_formed, text_has_names, text_has_spots}
use Rattle.c_source.specs.Sources.{program_of_source}

-- A text of bytes is of a program that keeps the laws and fits in numbers of 32 bits.
pub program_lawful : (text : List ℕ) (p : ProgramTree) → are_bytes text ≡ true → program_of_source text ≡ Ok p → IsWellFormed p × Fits32 p
unfolding program_of_source
program_lawful text p bytes is = let tree = accepted_tree text p bytes is in text_well_formed tree.items p tree.formed tree.in_order tree.checks

-- It has names, arrays of elements, and literals of bytes.
pub program_named : (text : List ℕ) (p : ProgramTree) → are_bytes text ≡ true → program_of_source text ≡ Ok p → HasNames p
unfolding program_of_source
program_named text p bytes is = let tree = accepted_tree text p bytes is in text_has_names tree.items p tree.formed tree.checks

-- Its places and objects stand within the text.
pub program_within : (text : List ℕ) (p : ProgramTree) → are_bytes text ≡ true → program_of_source text ≡ Ok p → HasSpots p
unfolding program_of_source
program_within text p bytes is = let tree = accepted_tree text p bytes is in text_has_spots tree.items p tree.formed tree.within tree.checks
