-- What a reader reads names as.
use Rattle.std.specs.Prelude.{ℕ}
use Rattle.copy_pass_rule.specs.declared.reading.Reader.{Reader}
use Rattle.copy_pass_rule.specs.Flow.{missing_in, source_among}
use Rattle.graph_paths.specs.PathMarksTable.{bits_of}

-- by the copies that are not missing in its row
abbrev pub read_as : Reader → ℕ → ℕ
read_as reader name = source_among reader.copies.now.all.now (missing_in (bits_of reader.marks.now) reader.row) 0 name
