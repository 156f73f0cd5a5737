-- The changes of cases.
use Rattle.std.specs.Prelude.{ℕ, ◌+◌, List, [], ◌∷◌}
use Rattle.debug_records.specs.declared.change.Change.{Change}
use Rattle.debug_records.specs.declared.change.Kind.{Kind}
use Rattle.debug_records.specs.declared.change.PassName.{PassName}
use Rattle.pass_law.specs.declared.cases.Case.{Case}

-- one change for each case in order, numbered from the number behind the last one
abbrev pub logged : PassName → Kind → (last : ℕ) → List Case → List Change
logged pass kind last [] = []
logged pass kind last (c ∷ cases) =
    record {
      number = last + 1;
      pass = pass;
      kind = kind;
      place = c.place;
      var = c.var;
    } ∷ logged pass kind (last + 1) cases
