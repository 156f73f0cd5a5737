-- What is true of each program that is made of a text: it keeps the laws of accepted programs, its places and variables fit in numbers of 32 bits, and it has names.
use Rattle.std.proofs.Common.{◌≡◌, List, Ok}
use Rattle.c_tree.specs.Trees.{ItemTree}
use Rattle.c_tree.specs.Programs.{ProgramTree}
use Rattle.c_type.specs.Programs.{checked}
use Rattle.c_type_laws.specs.Laws.{IsWellFormed}
use Rattle.c_type_laws.specs.Names.{HasNames}
use Rattle.c_type_laws.specs.Spots.{HasSpots}
use Rattle.c_flow.specs.Tables.{Fits32}
use Rattle.c_source.specs.Files.{AreItemsFormed}
use Rattle.c_source.specs.TextOrder.{spots_of_items, IsInTextOrder, AreWithinText}
use Rattle.c_source.proofs.Programs.{accepted_parts}
use Rattle.c_source.proofs.WholePrograms.{program_well_formed}
use Rattle.c_source.proofs.Naming.{has_names}
use Rattle.c_source.proofs.Within.{has_spots}
use Rattle.c_source.proofs.Fitting32.{well_formed_fits}

-- A tree that is formed as the grammar forms it and stands in the order of a text is refused, or a well formed program is made of it that fits in numbers of 32 bits.
pub text_well_formed : (items : List ItemTree) (p : ProgramTree) → AreItemsFormed items → IsInTextOrder items → checked items ≡ Ok p → IsWellFormed p × Fits32 p
text_well_formed items p formed order is = let keeps = program_well_formed items p is formed order in (keeps, well_formed_fits p keeps)

-- The program of such a tree has names, static arrays of elements, and literals of bytes.
pub text_has_names : (items : List ItemTree) (p : ProgramTree) → AreItemsFormed items → checked items ≡ Ok p → HasNames p
text_has_names items p formed is = has_names items p (accepted_parts items p is) formed

-- Where the spots of such a tree stand within a text, the places and objects of the program do.
pub text_has_spots : (items : List ItemTree) (p : ProgramTree) → AreItemsFormed items → AreWithinText (spots_of_items items) → checked items ≡ Ok p → HasSpots p
text_has_spots items p formed within is = has_spots items p (accepted_parts items p is) formed within
