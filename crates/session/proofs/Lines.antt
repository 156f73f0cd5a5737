-- Lines of changes, and what jobs print that save nothing.
use Rattle.std.proofs.Common.{◌≡◌, ℕ, ap, refl, subst, List, [], map}
use Rattle.std.specs.Prelude.{Vec, Ok}
use Rattle.std.specs.Global.{Global}
use Rattle.std.specs.List.{flat_map}
use Rattle.line_form.specs.Lines.{line}
use Rattle.line_form.specs.declared.status.Status.{Status}
use Rattle.line_form.specs.declared.status.Status.TheVariants.{SourceRefused}
use Rattle.debug_records.specs.declared.code.Code.{Code}
use Rattle.outside.specs.Held.{Loads}
use Rattle.c_source.specs.Sources.{HasProgram, program_of_source}
use Rattle.c_source.proofs.Sources.{program_is_short}
use Rattle.command_line.specs.Job.{PassesGiven, SweepGiven, passes, sweep}
use Rattle.session_lines.specs.declared.summary.Summary.{Summary}
use Rattle.session.specs.Causes.{AreAccepted, TextIsRefused}
use Rattle.session.specs.Limits.{AreWithin, Held, IsThere}
use Rattle.session.specs.Listed.{AreLinesFor, AreLinesOf}
use Rattle.session.specs.Outcome.{IsSwept, ListsChanges}
use Rattle.session.proofs.Compiled.{none_named}
use Rattle.debug_records.specs.Change.{letters}
use Rattle.debug_records.specs.declared.change.PassName.{PassName}
use Rattle.c_tree.specs.Programs.{ProgramTree}
use Rattle.graph_core.specs.Graphs.{UnitForm}
use Rattle.graph_core.specs.Validity.{IsValid}
use Rattle.image_build.specs.Behind.{ComesOfForms}
use Rattle.image_build.proofs.FromForms.{of_forms}
use Rattle.c_type_laws.specs.Laws.{IsWellFormed}
use Rattle.image_build.specs.Tables.{HasShapeOf}
use Rattle.graph_build_laws.specs.Built.{IsBuilt}
use Rattle.session_lines.specs.ChangeLinesLines.{lines_of}
use Rattle.command_line.specs.Words.{Text}
use Rattle.session.specs.Stages.{SourceFails, SweepEnds}
use Rattle.session.specs.Summing.{summary_lines}
use Rattle.session.proofs.Refusals.{source_held}
use Rattle.session.proofs.Sessions.{held_is, source_accepted}

-- all texts of the jobs are within their limits
pub list_within : (held : Held) (given : PassesGiven) → IsThere (held given.source) → AreWithin held (passes given)
list_within held given first = record { first = first; script = tt; input = tt }

pub sweep_within : (held : Held) (given : SweepGiven) → AreWithin held (sweep given)
sweep_within held given = record { first = tt; script = tt; input = tt }

-- why the source of a list of changes was refused
pub list_refused : (status : Status) (code : Code) (at : ℕ) (source : List ℕ) (held : Held) (given : PassesGiven) → status ≡ SourceRefused code at → SourceFails status source → Loads (held given.source) 1048576 source → TextIsRefused held (passes given) code at
list_refused status code at source held given e ends loads = source_held code at (held given.source) source loads (subst (λ s. SourceFails s source) e ends)

-- the sources of these jobs are accepted
pub list_accepted : (source : List ℕ) (held : Held) (given : PassesGiven) → HasProgram source → Loads (held given.source) 1048576 source → AreAccepted held (passes given)
list_accepted source held given has loads = record { before = source_accepted (held given.source) source loads has; script = tt }

module _ {P : Type 0} {named : P → PassName} {steps : P → UnitForm → UnitForm → Type 0} {handed_in : List P} where
  -- and where it is generated
  pub sweep_accepted : (held : Held) (given : SweepGiven) (summary : Summary) → SweepEnds named steps handed_in (Ok summary) given → AreAccepted held (sweep given)
  sweep_accepted held given summary (m, is, summed) = record { before = tt; script = tt }

  -- the lines of the changes of a unit of the program
  pub lines_are : (p : ProgramTree) → IsWellFormed p → (names : List PassName) (unit : UnitForm) (lines : List (List ℕ)) → ComesOfForms named steps handed_in (map letters names) p unit → IsValid unit → HasShapeOf p unit → (names ≡ [] → IsBuilt p unit) → lines ≡ lines_of p 1 unit.log → AreLinesOf named steps handed_in p (map letters names) lines
  lines_are p formed names unit lines comes valid shape built e = record { unit = unit; comes = of_forms named steps handed_in (map letters names) p formed unit comes; valid = valid; shape = shape; unchanged = λ none. (built (none_named names none)).forms.log; lines_are = e }

  -- and of a source
  pub lines_for_source : (source : List ℕ) (p : ProgramTree) (names : List Text) (lines : List (List ℕ)) → HasProgram source → program_of_source source ≡ Ok p → AreLinesOf named steps handed_in p names lines → AreLinesFor named steps handed_in source names lines
  lines_for_source source p names lines has is of = record { understood = has; program = p; program_is = is; lines_are = of }

  -- what the jobs print
  pub changes_listed : (source : List ℕ) (held : Held) (given : PassesGiven) (lines : List (List ℕ)) → AreLinesFor named steps handed_in source given.passes lines → Loads (held given.source) 1048576 source → ListsChanges named steps handed_in held given (flat_map line lines)
  changes_listed source held given lines is loads = record {
    source = source;
    source_held = held_is 1048576 (held given.source) source loads (program_is_short source is.understood);
    lines = lines;
    lines_are = is;
    printed_is = refl;
  }

  pub swept_so : (given : SweepGiven) (summary : Summary) (lines : List (Vec ℕ Global)) → SweepEnds named steps handed_in (Ok summary) given → map (λ (l : Vec ℕ Global). l.items) lines ≡ summary_lines given.seed given.size summary
      → IsSwept named steps handed_in given (flat_map line (map (λ (l : Vec ℕ Global). l.items) lines))
  swept_so given summary lines (m, is, summed) e = record { form = m; image = is; summary = summary; summed = summed; printed_is = ap (flat_map line) e }
