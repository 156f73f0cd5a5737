-- What the loops over initializers and declarators do at each item.
use Rattle.std.proofs.Common.{◌≡◌, ℕ, ◌+◌, ◌<◌, ◌≤◌, List, [], ◌∷◌, ◌++◌, length, map, drop, get_or, Option, refl, ap, sym}
use Rattle.std.proofs.lemmas.List.{drop_all, append-nil}
use Rattle.c_tree.specs.declared.extent.Extent.{Extent}
use Rattle.c_tree.specs.declared.types.IntegerType.{IntegerType}
use Rattle.c_tree.specs.declared.object_type.Scalar.{Scalar}
use Rattle.c_tree.specs.declared.declaration.Initializer.{Initializer}
use Rattle.c_tree.specs.Declarations.{InitializerTree, InitializerTrees, Braces, first, chain_of_initializers, initializer_view, DeclaratorTree}
use Rattle.c_tree.specs.TypedExpressions.{RvalueTree}
use Rattle.c_tree.specs.TypedStatements.{DeclaredTree, Elements}
use Rattle.c_type_values.specs.Values.{ValueTree}
use Rattle.c_type_declarations.specs.Progress.{ProgressTree, means, next_met}
use Rattle.c_type_declarations.specs.Initials.{scalar_met, elements_met, computed_tree, within_count, list_met}
use Rattle.c_type_declarations.specs.Statics.{Contents, filled, fills_met, list_contents, nothing}
use Rattle.c_type_declarations.specs.Declarations.{automatic_met, automatics_met}
use Rattle.c_type_declarations.proofs.Lists.{count_chain}
use Rattle.c_type_declarations.proofs.Steps.{next_more}
pub use Rattle.base_laws.proofs.Lists.{drop_item}

pub chain_item : (xs : List Initializer) (i : ℕ) (x : Initializer) → i < length xs → x ≡ get_or xs i x → chain_of_initializers (map initializer_view (drop i xs)) ≡ first (initializer_view x) (chain_of_initializers (map initializer_view (drop (i + 1) xs)))
chain_item xs i x h e = ap (λ ys. chain_of_initializers (map initializer_view ys)) (drop_item xs i x h e)

pub fills_step : (s : Scalar) (extent : Extent) (i : InitializerTree) (more : InitializerTrees) (c d : Contents) (v : Option ValueTree) (p q r : ProgressTree)
    → means v q ≡ scalar_met s extent i p → means d r ≡ filled s extent v c q → fills_met s extent (first i more) c p ≡ fills_met s extent more d r
unfolding next_met
fills_step s extent i more c d v p q r a b = rw (sym a, sym b) refl

pub elements_step : (s : Scalar) (extent : Extent) (i : InitializerTree) (more : InitializerTrees) (done : List RvalueTree) (v : Option ValueTree) (p q : ProgressTree)
    → means v q ≡ scalar_met s extent i p
    → next_met (elements_met s extent (first i more) p) (λ vs. means (done ++ vs)) ≡ next_met (elements_met s extent more q) (λ vs. means ((done ++ computed_tree v ∷ []) ++ vs))
unfolding next_met
elements_step s extent i more done v p q a = rw (sym a) (next_more (elements_met s extent more q) (computed_tree v) done)

pub automatics_step : (t : IntegerType) (d : DeclaratorTree) (more : List DeclaratorTree) (done : List DeclaredTree) (v : DeclaredTree) (p q : ProgressTree)
    → means v q ≡ automatic_met t d p
    → next_met (automatics_met t (d ∷ more) p) (λ vs. means (done ++ vs)) ≡ next_met (automatics_met t more q) (λ vs. means ((done ++ v ∷ []) ++ vs))
unfolding next_met
automatics_step t d more done v p q a = rw (sym a) (next_more (automatics_met t more q) v done)

-- a list in braces
pub list_is : (s : Scalar) (size : ℕ) (extent : Extent) (xs : List Initializer) (vs : List RvalueTree) (p q r : ProgressTree)
    → q ≡ within_count (length xs) size extent p → means vs r ≡ elements_met s extent (chain_of_initializers (map initializer_view xs)) q
    → means (Elements vs) r ≡ list_met s size extent (Braces (chain_of_initializers (map initializer_view xs))) p
unfolding next_met
list_is s size extent xs vs p q r a b = rw (count_chain xs, sym a, sym b) refl

pub contents_is : (s : Scalar) (size : ℕ) (extent : Extent) (xs : List Initializer) (c : Contents) (p q r : ProgressTree)
    → q ≡ within_count (length xs) size extent p → means c r ≡ fills_met s extent (chain_of_initializers (map initializer_view xs)) nothing q
    → means c r ≡ list_contents s size extent (Braces (chain_of_initializers (map initializer_view xs))) p
contents_is s size extent xs c p q r a b = rw (count_chain xs, sym a) b

-- behind the last item
pub elements_end : (s : Scalar) (extent : Extent) (xs : List Initializer) (i : ℕ) (done : List RvalueTree) (p : ProgressTree)
    → length xs ≤ i → next_met (elements_met s extent (chain_of_initializers (map initializer_view (drop i xs))) p) (λ vs. means (done ++ vs)) ≡ means done p
unfolding next_met
elements_end s extent xs i done p h = rw (drop_all i xs h, append-nil done) refl

pub automatics_end : {A : Type 0} (t : IntegerType) (f : A → DeclaratorTree) (xs : List A) (i : ℕ) (done : List DeclaredTree) (p : ProgressTree)
    → length xs ≤ i → next_met (automatics_met t (map f (drop i xs)) p) (λ vs. means (done ++ vs)) ≡ means done p
unfolding next_met
automatics_end t f xs i done p h = rw (drop_all i xs h, append-nil done) refl
