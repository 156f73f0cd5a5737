-- A sink in memory, and what its calls make of it.
use Rattle.std.specs.Prelude.{◌++◌, ℕ, List, [], Result, Ok, Err}
use Rattle.outside.specs.Calls.{Calls, no_calls, with_call}
use Rattle.outside.specs.Counts.{count_after_put}
use Rattle.outside.specs.declared.sink.PutErr.{PutErr}

pub record MemorySink : Type 0 where
  -- the bytes that it took
  pub bytes : List ℕ
  -- the pieces that were put, and the numbers of those that fail
  pub calls : Calls
  -- how many pieces failed
  pub fault_count : ℕ

-- a sink that took nothing and was not called
abbrev pub empty_sink : List ℕ → MemorySink
empty_sink failing = record { bytes = []; calls = no_calls failing; fault_count = 0 }

-- one more call was made, and all else stays
abbrev pub called : MemorySink → MemorySink
called sink = record sink { calls = with_call sink.calls }

-- what it took after a piece: the piece too, unless there was an error
abbrev pub bytes_after : {A : Type 0} → List ℕ → List ℕ → Result A PutErr → List ℕ
bytes_after bytes piece (Ok x) = bytes ++ piece
bytes_after bytes piece (Err error) = bytes

-- the sink after a piece: it took the piece or counts the fault, and counts the call
abbrev pub after_put : {A : Type 0} → MemorySink → List ℕ → Result A PutErr → MemorySink
after_put sink piece outcome =
    record (called sink) {
      bytes = bytes_after sink.bytes piece outcome;
      fault_count = count_after_put sink.fault_count outcome;
    }
