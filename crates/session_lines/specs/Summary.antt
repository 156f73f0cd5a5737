-- The run of an image that is stepped to its end, in counts.
use Rattle.std.specs.Prelude.{◌≡◌, ℕ, ◌+◌, min, Some, List, [], ◌∷◌, length}
use Rattle.std.specs.Option.{option_map_or}
use Rattle.image_form.specs.Form.{Form}
use Rattle.image_form.specs.declared.verdicts.Verdict.{Verdict}
use Rattle.image_form.specs.declared.verdicts.Verdict.TheVariants.{Home, Recovered, Noncurrent, Nonresident}
use Rattle.image_form.specs.declared.verdicts.VisibleRow.{VisibleRow}
use Rattle.session_lines.specs.declared.lines.PairCounts.{PairCounts}
use Rattle.rv_machine.specs.Run.{MachineEvent}
use Rattle.stop_engine.specs.EngineState.{HasRun, RunState, fresh_run}
use Rattle.stop_engine.specs.Halting.{halt_at, halt_of}
use Rattle.stop_engine.specs.Transcript.{AnyStop, Ending, Position, Fresh, Standing, Over, Reach, ran}
use Rattle.stop_engine.specs.declared.halt.Halt.{Halt}
use Rattle.stop_engine.specs.declared.halt.Halt.TheVariants as halt
use Rattle.stop_engine_view.specs.Reading.{place_at}
use Rattle.stop_engine_view.specs.Rows.{rows_at}
use Rattle.session_lines.specs.declared.summary.Counts.{Counts}
use Rattle.session_lines.specs.declared.summary.Summary.{Summary}

-- no pair of a stop and a variable was counted
abbrev pub no_pairs : PairCounts
no_pairs = record { pairs = 0; home = 0; recovered = 0; noncurrent = 0; nonresident = 0 }

-- nothing was counted: no stop, no pair, no byte of output
abbrev pub nothing : Counts
nothing = record { stops = 0; pairs = no_pairs; out = 0 }

-- so many more; what would pass the greatest number of 64 bits stays there
abbrev pub and_more : ℕ → ℕ → ℕ
and_more n k = min (n + k) 18446744073709551615

-- a visible variable more, by the verdict on it
abbrev pub with_verdict : Verdict → PairCounts → PairCounts
with_verdict Home c = record c { home = and_more c.home 1; pairs = and_more c.pairs 1 }
with_verdict (Recovered change node) c = record c { recovered = and_more c.recovered 1; pairs = and_more c.pairs 1 }
with_verdict (Noncurrent change start writer) c =
    record c { noncurrent = and_more c.noncurrent 1; pairs = and_more c.pairs 1 }
with_verdict (Nonresident change start writer) c =
    record c { nonresident = and_more c.nonresident 1; pairs = and_more c.pairs 1 }

-- some visible variables more, by their rows
abbrev pub counted_all : List VisibleRow → PairCounts → PairCounts
counted_all [] c = c
counted_all (r ∷ rows) c = counted_all rows (with_verdict r.verdict c)

-- a stop more at a place, with the rows of its visible variables
abbrev pub counted_here : Form → (place : ℕ) → Counts → Counts
counted_here m place c = record c { stops = and_more c.stops 1; pairs = counted_all (rows_at place m.rows) c.pairs }

-- a stop more, if the run halted at one
abbrev pub counted_halt : Form → Halt → Counts → Counts
counted_halt m (halt.At place depth) c = counted_here m place c
counted_halt m (halt.Exited status) c = c
counted_halt m halt.Depth c = c
counted_halt m (halt.Fault address) c = c
counted_halt m halt.Limit c = c

-- a stop more, if the run stands at one
abbrev pub counted_stop : Form → Position → Counts → Counts
counted_stop m Fresh c = c
counted_stop m (Standing s) c = option_map_or (λ place. counted_here m place c) (place_at m s.pc) c
counted_stop m (Over e) c = c

-- a step more: its output, and the stop to which it came
abbrev pub counted_reach : Form → Reach → Counts → Counts
counted_reach m r c = counted_stop m r.position (record c { out = and_more c.out (length r.output) })

-- a halt at a stop, and no ending
abbrev pub IsStop : Halt → Type 0
IsStop (halt.At place depth) = Unit {0}
IsStop (halt.Exited status) = ⊥
IsStop halt.Depth = ⊥
IsStop (halt.Fault address) = ⊥
IsStop halt.Limit = ⊥

-- A run went on to the next stop or to its end, and is then the other; that was counted.
pub record IsOneStep (old new : RunState) (before behind : Counts) (at : Halt) : Type 0 where
  pub went : HasRun AnyStop old new
  pub counts : behind ≡ counted_reach new.form (record {
    output = new.output;
    position = new.position;
    rest = new.events;
  }) before
  pub halts : halt_at new.form new.position ≡ Some at

-- A run is stepped to its end: from where it stands to the next stop, and so on, until it is over. The counts go from
-- the first to the second.
pub data IsStepped (m : Form) : Position → List MachineEvent → (before behind : Counts) → Ending → Type 0 where
  over : {e : Ending} {events : List MachineEvent} {c : Counts} → IsStepped m (Over e) events c c e
  step : {p : Position} {events : List MachineEvent} {r : Reach} {c d : Counts} {e : Ending}
      → ran m AnyStop p events ≡ r → IsStepped m r.position r.rest (counted_reach m r c) d e
      → IsStepped m p events c d e

-- The summary of a run is what stepping it to its end, from where it stands, comes to.
pub record IsSummaryOf (run : RunState) (summary : Summary) : Type 0 where
  pub ending : Ending
  pub stepped : IsStepped run.form run.position run.events nothing summary.counts ending
  pub ending_is : summary.ending ≡ halt_of ending

-- The summary is that of the run of an image on an input, of at most so many instructions, from its start.
pub record IsSummed (m : Form) (input : List ℕ) (limit : ℕ) (summary : Summary) : Type 0 where
  pub whole : IsSummaryOf (fresh_run m input limit) summary
