-- Suffixes behind an operand.
use Rattle.std.proofs.Common.{◌≡◌, List, [], ◌∷◌, Option, None, Some, refl, ap, sym, ◌∙◌}
use Rattle.std.specs.Prelude.{fold}
use Rattle.debug_records.specs.declared.source.Spot.{Spot}
use Rattle.c_tree.specs.Expressions.{ExpressionTree, SuffixTree, Indexes, Calls, Increments, Decrements, chain_of_arguments, suffixed}
use Rattle.c_tree.specs.Ends.{first_spot}
use Rattle.c_type_values.specs.Values.{MeantTree}
use Rattle.c_type_expressions.specs.Names.{Names, SignatureTree}
use Rattle.c_type_expressions.specs.Findings.{FoundTree, gives, check_next}
use Rattle.c_type_expressions.specs.Judgements.{Meant}
use Rattle.c_type_expressions.specs.Expressions.{typed, function_named}
use Rattle.c_type_expressions.specs.Chains.{suffix_met, suffixes_met, direct_callee, function_called}

-- a suffix behind what names no function, or is not called
suffix_step : (names : Names) (e : ExpressionTree) (x : SuffixTree) (s t : FoundTree) (m : Option MeantTree) → direct_callee names e (x ∷ []) ≡ None → gives m t ≡ typed names e s
    → suffix_met names None (first_spot e) x m t ≡ typed names (suffixed e x) s
suffix_step names e (Indexes i last) s t m none is = rw (← is) refl
suffix_step names e (Calls arguments last) s t m none is = rw (none, ← is) refl
suffix_step names e (Increments last) s t m none is = rw (← is) refl
suffix_step names e (Decrements last) s t m none is = rw (← is) refl

no_function : (names : Names) (e : ExpressionTree) (x : SuffixTree) → function_named names (suffixed e x) ≡ None
no_function names e (Indexes i last) = refl
no_function names e (Calls arguments last) = refl
no_function names e (Increments last) = refl
no_function names e (Decrements last) = refl

-- behind a suffix no function is called
no_callee : (names : Names) (e : ExpressionTree) (x : SuffixTree) (xs : List SuffixTree) → direct_callee names (suffixed e x) xs ≡ None
no_callee names e x [] = refl
no_callee names e x (Indexes i last ∷ xs) = refl
no_callee names e x (Calls arguments last ∷ xs) = no_function names e x
no_callee names e x (Increments last ∷ xs) = refl
no_callee names e x (Decrements last ∷ xs) = refl

-- only the first suffix calls it
front_alone : (names : Names) (e : ExpressionTree) (x : SuffixTree) (xs : List SuffixTree) → direct_callee names e (x ∷ []) ≡ direct_callee names e (x ∷ xs)
front_alone names e (Indexes i last) xs = refl
front_alone names e (Calls arguments last) xs = refl
front_alone names e (Increments last) xs = refl
front_alone names e (Decrements last) xs = refl

first_stays : (e : ExpressionTree) (x : SuffixTree) → first_spot (suffixed e x) ≡ first_spot e
first_stays e (Indexes i last) = refl
first_stays e (Calls arguments last) = refl
first_stays e (Increments last) = refl
first_stays e (Decrements last) = refl

one_more : (names : Names) (e : ExpressionTree) (x : SuffixTree) (xs : List SuffixTree) (first : Spot) (s : FoundTree) (q : Meant)
    → ((t : FoundTree) (m : Option MeantTree) → gives m t ≡ typed names (suffixed e x) s → typed names (fold suffixed (suffixed e x) xs) s ≡ suffixes_met names None first xs m t)
    → q ≡ typed names (suffixed e x) s → typed names (fold suffixed (suffixed e x) xs) s ≡ check_next q (suffixes_met names None first xs)
one_more names e x xs first s (gives m t) rest is = rest t m is

-- suffixes behind what names no function, or is not called
pub suffixes_steps : (names : Names) (e : ExpressionTree) (xs : List SuffixTree) (first : Spot) (s t : FoundTree) (m : Option MeantTree) → first ≡ first_spot e → direct_callee names e xs ≡ None
    → gives m t ≡ typed names e s → typed names (fold suffixed e xs) s ≡ suffixes_met names None first xs m t
suffixes_steps names e [] first s t m f none is = sym is
suffixes_steps names e (x ∷ xs) first s t m f none is =
    one_more names e x xs first s (suffix_met names None first x m t) (λ u n h. suffixes_steps names (suffixed e x) xs first s u n (f ∙ sym (first_stays e x)) (no_callee names e x xs) h)
    (ap (λ p. suffix_met names None p x m t) f ∙ suffix_step names e x s t m (front_alone names e x xs ∙ none) is)

-- a call of a function, and suffixes behind it
pub call_steps : (names : Names) (e : ExpressionTree) (g : SignatureTree) (xs : List SuffixTree) (first : Spot) (s : FoundTree) (m : Option MeantTree)
    → first ≡ first_spot e → direct_callee names e xs ≡ Some g → typed names (fold suffixed e xs) s ≡ suffixes_met names (Some g) first xs m s
call_steps names e g [] first s m f some = absurd cc
call_steps names e g (Indexes i last ∷ xs) first s m f some = absurd cc
call_steps names e g (Increments last ∷ xs) first s m f some = absurd cc
call_steps names e g (Decrements last ∷ xs) first s m f some = absurd cc
call_steps names e g (Calls arguments last ∷ xs) first s m f some =
    one_more names e (Calls arguments last) xs first s (function_called names g (chain_of_arguments arguments) first last s)
    (λ u n h. suffixes_steps names (suffixed e (Calls arguments last)) xs first s u n f (no_callee names e (Calls arguments last) xs) h) (rw (some, ← f) refl)
