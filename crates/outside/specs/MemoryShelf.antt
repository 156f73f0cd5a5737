-- A shelf in memory, and what its calls make of it.
use Rattle.std.specs.Prelude.{◌≡◌, ◌⊎◌, ℕ, List, None, Result, Ok, Err, refl}
use Rattle.std.specs.Coded.{Coded, code_by, coded×, coded_list, coded_ℕ}
use Rattle.std.specs.FinMap.{code, empty, get, insert}
use Rattle.outside.specs.Calls.{Calls, NextFails, no_calls, with_call}
use Rattle.outside.specs.Counts.{count_after}
use Rattle.outside.specs.Files.{Files}
use Rattle.outside.specs.declared.shelf.ShelfErr.{ShelfErr}

pub record MemoryShelf : Type 0 where
  -- what each name holds
  pub files : Files
  -- the loads and saves that were made, and the numbers of those that fail
  pub calls : Calls
  -- how many loads failed
  pub load_count : ℕ
  -- how many saves failed
  pub save_count : ℕ

-- a shelf as a tuple of its fields, by which a proof tells shelves apart
abbrev pub memory_shelf_code : Coded MemoryShelf
memory_shelf_code =
    code_by (Files × ((List ℕ × ℕ) × (ℕ × ℕ)))
    (coded× (code (coded_list coded_ℕ) (coded_list coded_ℕ))
    (coded× (coded× (coded_list coded_ℕ) coded_ℕ) (coded× coded_ℕ coded_ℕ)))
    (λ shelf. (shelf.files, ((shelf.calls.failing, shelf.calls.made), (shelf.load_count, shelf.save_count))))
    (λ t. record {
      files = t.0;
      calls = record { failing = t.1.0.0; made = t.1.0.1 };
      load_count = t.1.1.0;
      save_count = t.1.1.1;
    })
    (λ _. refl)

-- a shelf that holds nothing and was not called
abbrev pub empty_shelf : List ℕ → MemoryShelf
empty_shelf failing = record { files = empty; calls = no_calls failing; load_count = 0; save_count = 0 }

-- a name holds these bytes, and all else stays
abbrev pub placed : MemoryShelf → List ℕ → List ℕ → MemoryShelf
placed shelf name bytes = record shelf { files = insert shelf.files name bytes }

-- the next load of a name fails: its number is listed, or the name is absent
abbrev pub NextLoadFails : MemoryShelf → List ℕ → Type 0
NextLoadFails shelf name = NextFails shelf.calls ⊎ (get shelf.files name ≡ None)

-- one more call was made, and all else stays
abbrev pub called : MemoryShelf → MemoryShelf
called shelf = record shelf { calls = with_call shelf.calls }

-- the shelf after a load: it counts the call, and the fault of a call that failed
abbrev pub after_load : {A : Type 0} → MemoryShelf → Result A ShelfErr → MemoryShelf
after_load shelf outcome = record (called shelf) { load_count = count_after shelf.load_count outcome }

-- the files after a save: an error leaves them
abbrev pub files_after : {A : Type 0} → Files → List ℕ → List ℕ → Result A ShelfErr → Files
files_after files name bytes (Ok x) = insert files name bytes
files_after files name bytes (Err error) = files

-- the shelf after a save: it has set the name or counts the fault, and counts the call
abbrev pub after_save : {A : Type 0} → MemoryShelf → List ℕ → List ℕ → Result A ShelfErr → MemoryShelf
after_save shelf name bytes outcome =
    record (called shelf) {
      files = files_after shelf.files name bytes outcome;
      save_count = count_after shelf.save_count outcome;
    }
