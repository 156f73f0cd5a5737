-- The tree of an accepted text.
use Rattle.std.specs.Prelude.{◌≡◌, ℕ, List, Ok}
use Rattle.c_token.specs.Reading.{◌>>=◌}
use Rattle.c_token.specs.Texts.{tokens_of}
use Rattle.c_tree.specs.Trees.{ItemTree}
use Rattle.c_tree.specs.Programs.{ProgramTree}
use Rattle.c_parse.specs.Reading.{tree_of}
use Rattle.c_type.specs.Programs.{checked}
use Rattle.c_source.specs.Files.{AreItemsFormed}
use Rattle.c_source.specs.TextOrder.{spots_of_items, IsInTextOrder, AreWithinText}

-- the check of the tree of a text's tokens gives a program
abbrev pub IsAccepted : List ℕ → ProgramTree → Type 0
IsAccepted text p = (tokens_of text >>= tree_of >>= checked) ≡ Ok p

-- A program is made of a tree that stands within the text and in its order, and that is as the grammar forms trees.
pub record HasTree (text : List ℕ) (p : ProgramTree) : Type 0 where
  pub items : List ItemTree
  pub read : (tokens_of text >>= tree_of) ≡ Ok items
  pub checks : checked items ≡ Ok p
  pub in_order : IsInTextOrder items
  pub within : AreWithinText (spots_of_items items)
  pub formed : AreItemsFormed items
