-- Parts of a source, one behind the other.
use Rattle.std.proofs.Common.{◌≡◌, List, [], ◌++◌, refl, ap, sym, append_assoc}
use Rattle.c_tree.specs.TypedStatements.{TypedStatementTree}
use Rattle.c_type_declarations.specs.Progress.{ProgressTree, Met, means, next_met, reached_by}
use Rattle.c_type_statements.specs.Switches.{PartTree, Parts, Labels, Labeled, behind, bare, without_label, preceded}

-- what stands behind a part, in another spelling
pub next_same : {A B : Type 0} (m : Met A) (f g : A → ProgressTree → Met B) → ((a : A) (p : ProgressTree) → f a p ≡ g a p) → next_met m f ≡ next_met m g
unfolding next_met
next_same (means a p) f g h = h a p

-- three parts, put together from the left or from the right
pub next_next : {A B C : Type 0} (m : Met A) (f : A → ProgressTree → Met B) (g : B → ProgressTree → Met C) → next_met (next_met m f) g ≡ next_met m (λ a p. next_met (f a p) g)
unfolding next_met
next_next (means a p) f g = refl

-- parts of a block behind parts behind parts
pub behind_both : (m : Met Parts) (first second : List PartTree) → next_met (next_met m (behind second)) (behind first) ≡ next_met m (behind (first ++ second))
unfolding next_met
behind_both (means q p) first second = ap (λ ps. means (record { parts = ps; labels = q.labels }) p) (sym (append_assoc first second q.parts))

-- a statement without a label, bare
pub bare_unlabeled : (ls : Labels) (m : Met TypedStatementTree) → bare (without_label ls m) ≡ m
unfolding next_met bare without_label
bare_unlabeled ls (means t p) = refl

-- nothing before a statement
pub preceded_none : (m : Met Labeled) → next_met m (preceded []) ≡ m
unfolding next_met
preceded_none (means x p) = refl

pub preceded_both : (m : Met Labeled) (first second : List PartTree) → next_met (next_met m (preceded second)) (preceded first) ≡ next_met m (preceded (first ++ second))
unfolding next_met
preceded_both (means x p) first second = ap (λ ps. means (record { before = ps; statement = x.statement; labels = x.labels }) p) (sym (append_assoc first second x.before))
