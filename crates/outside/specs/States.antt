-- What is known of a shelf, and of a sink.
use Rattle.std.specs.Prelude.{ℕ, Bool, List, Option}

-- what is known of a shelf: how often it failed, and what it tells
pub record ShelfState : Type 0 where
  -- how many loads failed, up to the greatest number of 64 bits
  pub load_count : ℕ
  -- how many saves failed, up to the greatest number of 64 bits
  pub save_count : ℕ
  -- whether it tells what its names hold: a shelf in memory does, a folder of files does not
  pub tells : Bool
  -- what a name holds, by the name's bytes: none where it is absent
  pub held : List ℕ → Option (List ℕ)

-- what is known of a sink: how often it failed, and what it tells
pub record SinkState : Type 0 where
  -- how many pieces failed, up to the greatest number of 64 bits
  pub fault_count : ℕ
  -- whether it tells what it took: a sink in memory does, standard output does not
  pub tells : Bool
  -- the bytes that it has taken
  pub taken : List ℕ
