-- How far the check of a source has come.
use Rattle.std.specs.Prelude.{ℕ, List, map, Option, Some, None}
use Rattle.debug_records.specs.declared.code.Code.{Code}
use Rattle.debug_records.specs.declared.code.TheConstants.Code.{REDECLARED}
use Rattle.c_tree.specs.declared.extent.Extent.{Extent}
use Rattle.c_tree.specs.Expressions.{ExpressionTree}
use Rattle.c_tree.specs.Programs.{StaticTree, static_view, AutomaticTree, automatic_view, LiteralTree, literal_view}
use Rattle.c_type_values.specs.Values.{ValueTree}
use Rattle.c_type_expressions.specs.declared.names.Meaning.{Meaning}
use Rattle.c_type_expressions.specs.Names.{Names, names_view}
use Rattle.c_type_expressions.specs.Findings.{FoundTree, findings_view, Checked, gives, faulted}
use Rattle.c_type_expressions.specs.Judgements.{valued}
use Rattle.c_type_expressions.specs.Expressions.{typed}
use Rattle.c_type_declarations.specs.declared.progress.Progress as declared-progress
use Rattle.c_type_declarations.specs.Scopes.{declared, declared_here, entered, left}

-- what is declared, what was found, the objects so far by position, and the literals that initialise automatic arrays
pub record ProgressTree : Type 0 where
  pub names : Names
  pub found : FoundTree
  pub statics : List StaticTree
  pub automatics : List AutomaticTree
  pub array_literals : List LiteralTree

abbrev pub progress_view : declared-progress.Progress → ProgressTree
progress_view p =
    record {
      names = names_view p.names;
      found = findings_view p.found;
      statics = map static_view p.statics.items;
      automatics = map automatic_view p.automatics.items;
      array_literals = map literal_view p.array_literals.items;
    }

-- what a part of the source means, and how far its check comes
pub data Met (A : Type 0) : Type 0 where
  means : A → ProgressTree → Met A

-- a part, and another one behind it
unfoldable pub next_met : {A B : Type 0} → Met A → (A → ProgressTree → Met B) → Met B
next_met (means a p) f = f a p

-- how far the check comes behind a part
unfoldable pub reached_by : {A : Type 0} → Met A → (A → ProgressTree → ProgressTree) → ProgressTree
reached_by (means a p) f = f a p

-- what an expression's check gives and finds, in the whole
abbrev pub check_within : {A : Type 0} → ProgressTree → Checked A → Met A
check_within p (gives a s) = means a (record p { found = s })

-- the value of an expression
unfoldable pub value_met : ExpressionTree → ProgressTree → Met (Option ValueTree)
value_met e p = check_within p (valued (typed p.names e p.found))

-- a construct breaks a rule
abbrev pub breaks : Code → Extent → ProgressTree → ProgressTree
breaks code extent p = record p { found = faulted code extent.first extent.last p.found }

-- the same, where a condition says so
abbrev pub breaks_if : {A : Type 0} → Option A → Code → Extent → ProgressTree → ProgressTree
breaks_if (Some a) code extent p = breaks code extent p
breaks_if None code extent p = p

-- a declaration of a name in the innermost scope, where it may not be declared already (E21); the new meaning stands
-- all the same
abbrev pub with_name : List ℕ → Meaning → ProgressTree → ProgressTree
with_name name m p = record p { names = declared name m p.names }

-- a name is declared in the innermost scope, and a fault where it is declared there already
abbrev pub declares : Extent → List ℕ → Meaning → ProgressTree → ProgressTree
declares extent name m p = with_name name m (breaks_if (declared_here p.names name) REDECLARED extent p)

-- the beginning and the end of a scope
abbrev pub opened : ProgressTree → ProgressTree
opened p = record p { names = entered p.names }

-- the innermost scope is left
abbrev pub scope_left : ProgressTree → ProgressTree
scope_left p = record p { names = left p.names }
