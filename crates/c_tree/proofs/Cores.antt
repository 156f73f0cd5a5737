-- What has suffixes, operators or commas behind it is no expression of one token.
use Rattle.std.proofs.Common.{◌≡◌, ◌≢◌, ℕ, List, [], ◌∷◌, length, refl, false, true≢false}
use Rattle.std.specs.Prelude.{fold, map, ◌==◌}
use Rattle.c_tree.specs.declared.operator.BinaryOperator.{BinaryOperator}
use Rattle.c_tree.specs.Expressions.{ExpressionTree, SuffixTree, Indexes, Calls, Increments, Decrements, Comma, operation, suffixed}
use Rattle.c_tree.specs.Cores.{core_of, Compound}

pub suffixed_core : (e : ExpressionTree) (x : SuffixTree) → core_of (suffixed e x) ≡ Compound
suffixed_core e (Indexes i last) = refl
suffixed_core e (Calls arguments last) = refl
suffixed_core e (Increments last) = refl
suffixed_core e (Decrements last) = refl

suffixes_core : (e : ExpressionTree) (xs : List SuffixTree) → core_of e ≡ Compound → core_of (fold suffixed e xs) ≡ Compound
suffixes_core e [] h = h
suffixes_core e (x ∷ xs) h = suffixes_core (suffixed e x) xs (suffixed_core e x)

pub suffixes_are_compound : (e : ExpressionTree) (xs : List SuffixTree) → xs ≢ [] → core_of (fold suffixed e xs) ≡ Compound
suffixes_are_compound e [] h = absurd (h refl)
suffixes_are_compound e (x ∷ xs) h = suffixes_core (suffixed e x) xs (suffixed_core e x)

operations_core : (e : ExpressionTree) (os : List (BinaryOperator × ExpressionTree)) → core_of e ≡ Compound → core_of (fold operation e os) ≡ Compound
operations_core e [] h = h
operations_core e (o ∷ os) h = operations_core (operation e o) os refl

pub operations_are_compound : (e : ExpressionTree) (os : List (BinaryOperator × ExpressionTree)) → os ≢ [] → core_of (fold operation e os) ≡ Compound
operations_are_compound e [] h = absurd (h refl)
operations_are_compound e (o ∷ os) h = operations_core (operation e o) os refl

commas_core : (e : ExpressionTree) (es : List ExpressionTree) → core_of e ≡ Compound → core_of (fold Comma e es) ≡ Compound
commas_core e [] h = h
commas_core e (x ∷ es) h = commas_core (Comma e x) es refl

pub commas_are_compound : (e : ExpressionTree) (es : List ExpressionTree) → es ≢ [] → core_of (fold Comma e es) ≡ Compound
commas_are_compound e [] h = absurd (h refl)
commas_are_compound e (x ∷ es) h = commas_core (Comma e x) es refl

-- what is made of a list that is not empty is none
pub not_empty : {A B : Type 0} (f : A → B) (xs : List A) (n : ℕ) → n ≡ length xs → (n == 0) ≡ false → map f xs ≢ []
not_empty f [] n e h z = true≢false (rw e at h)
not_empty f (x ∷ xs) n e h z = cc
