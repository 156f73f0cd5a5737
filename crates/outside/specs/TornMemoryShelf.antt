-- A shelf in memory whose failing saves leave the first bytes of what was to be saved, and what its saves make of it.
use Rattle.std.specs.Prelude.{ℕ, List, take, Result, Ok, Err, refl}
use Rattle.std.specs.Coded.{Coded, code_by, coded×, coded_ℕ}
use Rattle.std.specs.FinMap.{insert}
use Rattle.outside.specs.Counts.{count_after}
use Rattle.outside.specs.Files.{Files}
use Rattle.outside.specs.MemoryShelf.{MemoryShelf, called, memory_shelf_code}
use Rattle.outside.specs.declared.shelf.ShelfErr.{ShelfErr}
use Rattle.outside.specs.declared.shelf.ShelfErr.TheVariants.{Failed, NoMemory}

pub record TornMemoryShelf : Type 0 where
  -- what the names hold, the calls that were made, and the counts of those that failed
  pub shelf : MemoryShelf
  -- how many bytes a failing save leaves
  pub keep : ℕ

-- a shelf as a tuple of its fields, by which a proof tells shelves apart
abbrev pub torn_shelf_code : Coded TornMemoryShelf
torn_shelf_code =
    code_by (MemoryShelf × ℕ)
    (coded× memory_shelf_code coded_ℕ)
    (λ torn. (torn.shelf, torn.keep))
    (λ t. record { shelf = t.0; keep = t.1 })
    (λ _. refl)

-- the files after a save: one that fails leaves the first bytes under its name, one that wants memory leaves them all
-- as they are
abbrev pub files_after_torn : {A : Type 0} → ℕ → Files → List ℕ → List ℕ → Result A ShelfErr → Files
files_after_torn keep files name bytes (Ok x) = insert files name bytes
files_after_torn keep files name bytes (Err Failed) = insert files name (take keep bytes)
files_after_torn keep files name bytes (Err NoMemory) = files

-- the shelf after a save: it has set the name, whole or torn, counts the fault of a save that failed, and counts the
-- call
abbrev pub after_torn_save : {A : Type 0} → TornMemoryShelf → List ℕ → List ℕ → Result A ShelfErr → TornMemoryShelf
after_torn_save torn name bytes outcome =
    record torn {
      shelf = record (called torn.shelf) {
        files = files_after_torn torn.keep torn.shelf.files name bytes outcome;
        save_count = count_after torn.shelf.save_count outcome;
      };
    }
