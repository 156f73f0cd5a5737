-- Labels in the block of a `switch`, one by one.
use Rattle.std.proofs.Common.{◌≡◌, ℤ, List, [], ◌∷◌, ◌++◌, Option, Some, None, refl, sym}
use Rattle.std.specs.Prelude.{not}
use Rattle.std.proofs.lemmas.List.{append-nil}
use Rattle.debug_records.specs.declared.code.TheConstants.Code.{MISPLACED_JUMP, REPEATED_LABEL}
use Rattle.c_tree.specs.declared.extent.Extent.{Extent}
use Rattle.c_tree.specs.declared.types.IntegerType.{IntegerType}
use Rattle.c_tree.specs.Expressions.{ExpressionTree}
use Rattle.c_type_declarations.specs.Progress.{ProgressTree, means, next_met, value_met, breaks}
use Rattle.c_type_statements.specs.Settings.{rule_unless}
use Rattle.c_type_statements.specs.Switches.{PartTree, Case, Labels, behind, case_met, case_numbered, is_among_numbers}

-- a `case` that is no integer constant
pub case_unnumbered : (extent : Extent) (ls : Labels) (done : List PartTree) (p q : ProgressTree)
    → q ≡ breaks MISPLACED_JUMP extent p → means (record { parts = done; labels = ls }) q ≡ next_met (case_numbered None extent ls p) (behind done)
unfolding next_met
case_unnumbered extent ls done p q h = rw (h, append-nil done) refl

-- a `case` of a number
pub case_added : (z : ℤ) (extent : Extent) (ls : Labels) (done : List PartTree) (p q : ProgressTree)
    → q ≡ rule_unless (not (is_among_numbers z ls.values)) REPEATED_LABEL extent p
    → means (record { parts = done ++ Case z ∷ []; labels = record { values = ls.values ++ z ∷ []; has_default = ls.has_default } }) q ≡ next_met (case_numbered (Some z) extent ls p) (behind done)
unfolding next_met
case_added z extent ls done p q h = rw h refl

-- a `case` whose expression has no value
pub case_valueless : (kind : Option IntegerType) (extent : Extent) (e : ExpressionTree) (ls : Labels) (done : List PartTree) (p q : ProgressTree)
    → means None q ≡ value_met e p → means (record { parts = done; labels = ls }) q ≡ next_met (case_met kind extent e ls p) (behind done)
unfolding next_met
case_valueless kind extent e ls done p q h = rw (sym h, append-nil done) refl
