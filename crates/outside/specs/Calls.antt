-- Calls that are numbered from 1, some of which are to fail.
use Rattle.std.specs.Prelude.{◌+◌, ℕ, List, Contains}
use Rattle.outside.specs.Counts.{raised}

pub record Calls : Type 0 where
  -- the numbers of the calls that are to fail
  pub failing : List ℕ
  -- how many calls were made, up to the greatest number that can be listed
  pub made : ℕ

-- no call was made yet
abbrev pub no_calls : List ℕ → Calls
no_calls failing = record { failing = failing; made = 0 }

-- the next call fails: its number, one more than that of the calls made, is listed
abbrev pub NextFails : Calls → Type 0
NextFails calls = Contains calls.failing (calls.made + 1)

-- one more call was made
abbrev pub with_call : Calls → Calls
with_call calls = record calls { made = raised calls.made }
