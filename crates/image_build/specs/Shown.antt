-- Verdicts by which homes show variables.
use Rattle.std.specs.Prelude.{◌≡◌, List}
use Rattle.graph_core.specs.Paths.{Among}
use Rattle.currency.specs.declared.verdict.PlaceVerdict as declared-row
use Rattle.currency.specs.declared.verdict.Verdict.TheVariants as verdict

-- Each verdict says that the home of its variable shows it.
abbrev pub AreShown : List declared-row.PlaceVerdict → Type 0
AreShown rows = (w : declared-row.PlaceVerdict) → Among w rows → w.verdict ≡ verdict.Home
