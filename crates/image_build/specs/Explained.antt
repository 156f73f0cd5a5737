-- Why a row of an image shows nothing, in words of the image alone.
use Rattle.std.specs.Prelude.{◌≡◌, ℕ, true, false, Option, Some, None, map}
use Rattle.debug_records.specs.declared.change.Kind.{Kind}
use Rattle.debug_records.specs.declared.change.Kind.TheVariants.{Moved, Reused}
use Rattle.debug_records.specs.Change.{is_taken}
use Rattle.places.specs.Flow.{assigns}
use Rattle.places.specs.Path.{IsLeastRoute}
use Rattle.graph_core.specs.Paths.{Among}
use Rattle.image_form.specs.Form.{Form, numbered}
use Rattle.image_form.specs.declared.tables.Change.{Change}
use Rattle.image_form.specs.declared.verdicts.Verdict.{Verdict}
use Rattle.image_form.specs.declared.verdicts.Verdict.TheVariants as verdict
use Rattle.image_form.specs.declared.verdicts.VisibleRow.{VisibleRow}
use Rattle.stop_engine_view.specs.Evidence.{assignment_of, row_path, row_quest}
use Rattle.stop_engine_view.specs.QuietPaths.{quiet_path, quiet_quest}

-- WHAT HIDES A VARIABLE IS EXPLAINED by the image: the change that is named stands in its table, is of such a kind and
-- concerns the variable; the place at which the path begins assigns the variable; and the path that is printed leads
-- from there by the flow, by way of the place of the change or of the word that wrote, to the stop, with no assignment
-- of the variable between its ends, and is the least that does. So a path is printed, and it is one.
pub record IsExplained (m : Form) (stop variable : ℕ) (IsOfKind : Kind → Type 0) (change start : ℕ) (writer : Option ℕ)
    : Type 0 where
  pub logged : Change
  pub change_is : numbered m.changes change ≡ Some logged
  pub kind_is : IsOfKind logged.kind
  pub concerns : logged.variable ≡ variable
  pub assigned : assigns (map assignment_of m.assigned) start variable ≡ true
  pub path : IsLeastRoute (row_quest m variable change start writer stop) (row_path m variable change start writer stop)

-- What a verdict says to hide a variable is explained: an assignment of it went, a computation of its value was moved
-- and something wrote its home, or its register was another name's.
abbrev pub IsExplainedBy : Form → (stop variable : ℕ) → Verdict → Type 0
IsExplainedBy m p v verdict.Home = Unit {0}
IsExplainedBy m p v (verdict.Recovered change node) = Unit {0}
IsExplainedBy m p v (verdict.Noncurrent change start None) =
    IsExplained m p v (λ k. is_taken k ≡ true) change start None
IsExplainedBy m p v (verdict.Noncurrent change start (Some address)) =
    IsExplained m p v (λ k. k ≡ Moved) change start (Some address)
IsExplainedBy m p v (verdict.Nonresident change start None) = ⊥
IsExplainedBy m p v (verdict.Nonresident change start (Some address)) =
    IsExplained m p v (λ k. k ≡ Reused) change start (Some address)

-- WHERE A VARIABLE IS SUSPECT, the image says why it may be right: the place at which the current path begins assigns
-- the variable, and no change took that assignment; and the path that is printed leads from there by the flow to the
-- stop, with nothing between its ends that assigns the variable or writes its home, and is the least that does. So a
-- path is printed, and it is one.
pub record MayBeRight (m : Form) (stop variable start : ℕ) : Type 0 where
  pub assigned : assigns (map assignment_of m.assigned) start variable ≡ true
  pub stays : (c : Change) → Among c m.changes → c.place ≡ start → c.variable ≡ variable → is_taken c.kind ≡ false
  pub path : IsLeastRoute (quiet_quest m variable start stop) (quiet_path m variable start stop)

-- What a row says is explained: what hides the variable, and why it may be right where a quiet path is told of.
pub record IsRowExplained (m : Form) (r : VisibleRow) : Type 0 where
  pub hidden : IsExplainedBy m r.place r.variable r.verdict
  pub quiet : (start : ℕ) → r.quiet ≡ Some start → MayBeRight m r.place r.variable start

-- WHERE A ROW OF AN IMAGE HIDES A VARIABLE, the image explains why: the change that the row names stands in its table
-- and concerns the variable, and the path that is printed leads from a place that assigns the variable to the stop, by
-- way of the place of that change or of the word that wrote to the home, with no assignment of the variable between.
-- Where the row makes it suspect, the current path that is printed leads from an assignment of the variable to the
-- stop, with nothing between that disturbs its home.
abbrev pub ExplainsAll : Form → Type 0
ExplainsAll m = (r : VisibleRow) → Among r m.rows → IsRowExplained m r
