-- Operators and commas behind an operand.
use Rattle.std.proofs.Common.{◌≡◌, ℕ, List, [], ◌∷◌, length, Bool, false, Option, refl, sym}
use Rattle.std.specs.Prelude.{fold}
use Rattle.debug_records.specs.declared.source.Spot.{Spot}
use Rattle.c_tree.specs.declared.operator.BinaryOperator.{BinaryOperator}
use Rattle.c_tree.specs.Expressions.{ExpressionTree, SizeofExpression, Comma, operation}
use Rattle.c_tree.specs.Ends.{first_spot, last_of}
use Rattle.c_type_values.specs.Values.{MeantTree}
use Rattle.c_type_expressions.specs.Names.{Names}
use Rattle.c_type_expressions.specs.Findings.{FoundTree, gives, check_next, restored, with_one}
use Rattle.c_type_expressions.specs.Judgements.{Meant, measured}
use Rattle.c_type_expressions.specs.Expressions.{typed, is_zero}
use Rattle.c_type_expressions.specs.Chains.{operation_met, operations_met, comma_met, commas_met}

operation_step : (names : Names) (e : ExpressionTree) (o : BinaryOperator × ExpressionTree) (first : Spot) (zero : Bool) (s t : FoundTree) (m : Option MeantTree)
    → first ≡ first_spot e → zero ≡ is_zero e → gives m t ≡ typed names e s → operation_met names first zero o m t ≡ typed names (operation e o) s
operation_step names e o first zero s t m f z is = rw (f, z, ← is) refl

one_more : (names : Names) (e : ExpressionTree) (o : BinaryOperator × ExpressionTree) (os : List (BinaryOperator × ExpressionTree)) (first : Spot) (s : FoundTree) (q : Meant)
    → ((t : FoundTree) (m : Option MeantTree) → gives m t ≡ typed names (operation e o) s → typed names (fold operation (operation e o) os) s ≡ operations_met names first false os m t)
    → q ≡ typed names (operation e o) s → typed names (fold operation (operation e o) os) s ≡ check_next q (operations_met names first false os)
one_more names e o os first s (gives m t) rest is = rest t m is

-- operators behind an operand
pub operations_steps : (names : Names) (e : ExpressionTree) (os : List (BinaryOperator × ExpressionTree)) (first : Spot) (az : Bool) (s t : FoundTree) (m : Option MeantTree)
    → first ≡ first_spot e → az ≡ is_zero e → gives m t ≡ typed names e s → typed names (fold operation e os) s ≡ operations_met names first az os m t
operations_steps names e [] first az s t m f z is = sym is
operations_steps names e (o ∷ os) first az s t m f z is =
    one_more names e o os first s (operation_met names first az o m t) (λ u n h. operations_steps names (operation e o) os first false s u n f refl h) (operation_step names e o first az s t m f z is)

another : (names : Names) (e x : ExpressionTree) (es : List ExpressionTree) (s : FoundTree) (q : Meant)
    → ((t : FoundTree) (m : Option MeantTree) → gives m t ≡ typed names (Comma e x) s → typed names (fold Comma (Comma e x) es) s ≡ commas_met names es m t)
    → q ≡ typed names (Comma e x) s → typed names (fold Comma (Comma e x) es) s ≡ check_next q (commas_met names es)
another names e x es s (gives m t) rest is = rest t m is

-- expressions behind commas, behind an operand
pub commas_steps : (names : Names) (e : ExpressionTree) (es : List ExpressionTree) (s t : FoundTree) (m : Option MeantTree)
    → gives m t ≡ typed names e s → typed names (fold Comma e es) s ≡ commas_met names es m t
commas_steps names e [] s t m is = sym is
commas_steps names e (x ∷ es) s t m is = another names e x es s (comma_met names x m t) (λ u n h. commas_steps names (Comma e x) es s u n h) (rw (← is) refl)

-- `sizeof`, by how many calls and literals stood before
pub sizeof_steps : (names : Names) (spot : Spot) (e : ExpressionTree) (s t : FoundTree) (m : Option MeantTree) (undefined literals : ℕ)
    → undefined ≡ length s.undefined → literals ≡ length s.literals → gives m t ≡ typed names e s
    → typed names (SizeofExpression spot e) s ≡ with_one m (measured spot (last_of e)) (restored undefined literals t)
sizeof_steps names spot e s t m undefined literals u l is = rw (u, l, ← is) refl
