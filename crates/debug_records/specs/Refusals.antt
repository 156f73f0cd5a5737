-- What the answer of a reader of sources says of what is read.
use Rattle.std.specs.Prelude.{◌≡◌, ℕ, Result, Ok, Err}
use Rattle.debug_records.specs.declared.code.Code.{Code}
use Rattle.debug_records.specs.declared.source.SourceErr.{SourceErr}
use Rattle.debug_records.specs.declared.source.SourceErr.TheVariants.{Refused, NoMemory}

-- A refusal is the first fault with its line; the want of memory says nothing of the source.
abbrev pub Refuses : {Y : Type 0} → SourceErr → Result Y (Code × ℕ) → Type 0
Refuses NoMemory read = Unit {0}
Refuses (Refused code line) read = read ≡ Err (code, line)

-- what a function returned, seen by view, is what is read
abbrev pub Answers : {X Y : Type 0} → (X → Y) → Result X SourceErr → Result Y (Code × ℕ) → Type 0
Answers view (Ok x) read = read ≡ Ok (view x)
Answers view (Err e) read = Refuses e read
