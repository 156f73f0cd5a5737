-- Named texts as a finite map from bytes to bytes.
use Rattle.std.specs.Prelude.{ℕ, List, String, Vec, map, string_bytes}
use Rattle.std.specs.FinMap.{FinMap, from_entries}
use Rattle.std.specs.Ordering.{nat_cmp}
use Rattle.std.specs.Cmp.Lexicographic.{slice_cmp}
use Rattle.std.specs.BTreeMap.{BTreeMap}
use Rattle.std.specs.Global.{Global}

-- what each name holds, a name and what it holds being bytes
abbrev pub Files : Type 0
Files = FinMap (slice_cmp nat_cmp) (List ℕ)

-- the bytes of a name and of the text under it
abbrev pub bytes_of_entry : String Global × Vec ℕ Global → List ℕ × List ℕ
bytes_of_entry entry = (string_bytes entry.0, entry.1.items)

-- the files that a tree of texts stands for
abbrev pub files_of : BTreeMap (String Global) (Vec ℕ Global) → Files
files_of tree = from_entries (map bytes_of_entry tree.entries)
