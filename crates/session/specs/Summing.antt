-- The lines of a summary.
use Rattle.std.specs.Prelude.{ℕ, List, [], ◌∷◌}
use Rattle.line_form.specs.Lines.{depth_line, exit_line, fault_line, limit_line}
use Rattle.session_lines.specs.Lines.{out_count_line, pairs_line, seed_line, stops_line}
use Rattle.session_lines.specs.declared.summary.Summary.{Summary}
use Rattle.stop_engine.specs.declared.halt.Halt.{Halt}
use Rattle.stop_engine.specs.declared.halt.Halt.TheVariants as halt

-- how many instructions a run of a `sweep` executes at most: 10,000,000
unfoldable pub sweep_limit : ℕ
sweep_limit = 10000000

-- how a run ended; a stop is no ending
abbrev pub ending_line : Halt → List ℕ
ending_line (halt.At place depth) = []
ending_line (halt.Exited status) = exit_line status
ending_line halt.Depth = depth_line
ending_line (halt.Fault address) = fault_line address
ending_line halt.Limit = limit_line sweep_limit

-- the five lines
abbrev pub summary_lines : (seed size : ℕ) → Summary → List (List ℕ)
summary_lines seed size s =
    seed_line seed size ∷ stops_line s.counts.stops
    ∷ pairs_line s.counts.pairs.pairs s.counts.pairs.home s.counts.pairs.recovered s.counts.pairs.noncurrent
    s.counts.pairs.nonresident
    ∷ out_count_line s.counts.out ∷ ending_line s.ending ∷ []
