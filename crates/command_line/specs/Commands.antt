-- The commands, as `clap` sees them.
use Rattle.std.specs.Prelude.{◌≡◌, not, Bool, true, false, List, [], ◌∷◌, ◌++◌, map, Option, Some, None, codes}
use Rattle.clap.specs.Walk.{Row, Rule, reading_by, rule_of}
use Rattle.clap.specs.declared.builder.arg.Arg.{Arg}
use Rattle.clap.specs.declared.parser.matches.ArgMatches.{ArgMatches}
use Rattle.clap.specs.declared.parser.matches.ValueSource.TheVariants.{CommandLine}
use Rattle.clap.specs.Simple.{filled, subcommand_rows_of, App, Shape, new_rule, new_shape}
use Rattle.clap.specs.declared.builder.action.ArgAction.TheVariants.{Set}
use Rattle.clap.specs.Simple.{shape_of}
use Rattle.clap.specs.declared.builder.command.Command.{Command}
use Rattle.clap.specs.declared.builder.command.Command.TheViews.{out-Command}
use Rattle.command_line.specs.Words.{Text, JobForm, Jobs, Use}
use Rattle.command_line.specs.Forms.{jobs, reading}

abbrev pub option_rule : Text → Rule
option_rule name = record (new_rule name) { long = Some name; action = Some Set }

abbrev pub place_rule : Text → Rule
place_rule name = record (new_rule name) { action = Some Set; required = true }

abbrev pub leaf_shape : Text → JobForm → Shape
leaf_shape name f =
    record (new_shape name) { rules = map option_rule f.options ++ map place_rule f.places }

abbrev pub is_local : Command → Bool
is_local c = not (out-Command c).has_globals

abbrev pub app_with : Text → List Rule → App
app_with name rules = record { top = record (new_shape name) { rules = rules }; subs = [] }

-- the command of a job, before it is built
abbrev pub IsJobCommand : Text → JobForm → Command → Type 0
IsJobCommand name f c = (shape_of c ≡ leaf_shape name f) × (is_local c ≡ true)

abbrev pub raw_top : Shape
raw_top = record (new_shape (codes "cdbg")) {
  is_leaf = false;
  disable_help_flag = true;
  disable_help_subcommand = true;
  disable_version_flag = true;
  subcommand_required = true;
}

-- the command before its jobs are added
abbrev pub bare_app : App
bare_app = record { top = record raw_top { is_leaf = true }; subs = [] }

-- the rules of arguments, each with whether subcommands take the argument too
abbrev pub rules_with_reach : List Arg → List (Rule × Bool)
rules_with_reach args = map (λ a. (rule_of a, a.global)) args

-- the arguments have these rules, and no subcommand takes them too
abbrev pub AreRules : List Arg → List Rule → Type 0
AreRules args rules = rules_with_reach args ≡ map (λ r. (r, false)) rules

-- one more command stands at the end, that of a job with these options and positionals
abbrev pub AddsJobCommand : Text → (options places : List Text) → List Command → List Command → Type 0
AddsJobCommand name options places before after =
    (c : Command) × (after ≡ before ++ c ∷ []) × IsJobCommand name (record { options = options; places = places }) c

-- the commands of jobs, one after the other
abbrev pub AreJobCommands : Jobs → List Command → Type 0
AreJobCommands [] [] = Unit {0}
AreJobCommands (j ∷ js) (c ∷ cs) = IsJobCommand j.0 j.1 c × AreJobCommands js cs
AreJobCommands _ _ = ⊥

-- the whole command, before it is built
abbrev pub raw_app : App
raw_app = record { top = raw_top; subs = map (λ j. leaf_shape j.0 j.1) jobs }

-- ---- what `clap` finds

abbrev pub option_built : Text → Rule
option_built name = filled (option_rule name)

abbrev pub row : Use → Row
row u = record {
  id = u.0;
  values = u.1 ∷ [];
  count = None;
  source = Some CommandLine;
  reading = reading_by (option_built u.0);
}

-- the matches are those of the words
abbrev pub HasReading : List Text → Option ArgMatches → Type 0
HasReading words None = reading words ≡ None
HasReading words (Some m) =
    (p : Text × List Use) × (reading words ≡ Some p) × (subcommand_rows_of m ≡ Some (p.0, map row p.1))
