-- Reading what stands at an offset of a text: an answer, or the first fault.
use Rattle.std.specs.Prelude.{◌≡◌, ℕ, Result, Ok, Err}
use Rattle.debug_records.specs.declared.code.Code.{Code}
use Rattle.c_token.specs.declared.fault.Fault.{Fault}
use Rattle.c_token.specs.declared.fault.TokenErr.{TokenErr}
use Rattle.c_token.specs.declared.fault.TokenErr.TheVariants.{Broken, NoMemory}

infixl 10 ◌>>=◌
-- the next part, behind one that is read
abbrev pub ◌>>=◌ : {E A B : Type 0} → Result A E → (A → Result B E) → Result B E
(Ok x) >>= f = f x
(Err e) >>= f = Err e

-- a broken rule, and the offset of the byte whose line is told with it
abbrev pub fault : Code → ℕ → Fault
fault code at = record { code = code; at = at }

-- a broken rule whose line is that of this offset
abbrev pub fault_at : {A : Type 0} → ℕ → Result A Code → Result A Fault
fault_at at (Ok x) = Ok x
fault_at at (Err code) = Err (fault code at)

-- an error tells the first fault, but for the want of memory, which says nothing of the text
abbrev pub FailsItem : {Y : Type 0} → TokenErr → Result Y Fault → Type 0
FailsItem NoMemory read = Unit {0}
FailsItem (Broken f) read = read ≡ Err f

-- what a function returned, seen by view, is what is read
abbrev pub GivesItem : {X Y : Type 0} → (X → Y) → Result X TokenErr → Result Y Fault → Type 0
GivesItem view (Ok x) read = read ≡ Ok (view x)
GivesItem view (Err e) read = FailsItem e read
