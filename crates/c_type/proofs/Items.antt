-- Items at file scope one at a time.
use Rattle.std.proofs.Common.{◌≡◌, ℕ, List, [], ◌∷◌, ◌++◌, length, refl, sym, ap, append_assoc, ◌∙◌}
use Rattle.std.proofs.lemmas.List.{append-nil}
use Rattle.c_tree.specs.Programs.{TypedFunctionTree}
use Rattle.c_tree.specs.Trees.{ItemTree}
use Rattle.c_type_declarations.specs.Progress.{ProgressTree, means, next_met}
use Rattle.c_type.specs.Functions.{defined, defined_by}
use Rattle.c_type.specs.Items.{item_met, behind_item, items_met}

-- an item, and those behind it
pub items_step : (names : List (List ℕ)) (fs gs : List TypedFunctionTree) (i : ItemTree) (rest : List ItemTree) (p q : ProgressTree)
    → means gs q ≡ behind_item names fs i p → items_met names fs (i ∷ rest) p ≡ items_met names gs rest q
unfolding next_met
items_step names fs gs i rest p q e = rw (sym e) refl

-- what items define, and those behind them
pub defined_append : (is js : List ItemTree) → defined (is ++ js) ≡ defined is ++ defined js
defined_append [] js = refl
defined_append (i ∷ is) js = rw (defined_append is js, append_assoc (defined_by i) (defined is) (defined js)) refl

-- functions with those of an item
pub item_adds : (names : List (List ℕ)) (fs more : List TypedFunctionTree) (i : ItemTree) (p q : ProgressTree)
    → means more q ≡ item_met names (length fs) i p → means (fs ++ more) q ≡ behind_item names fs i p
unfolding next_met
item_adds names fs more i p q e = rw (sym e) refl

pub item_adds_none : (names : List (List ℕ)) (fs : List TypedFunctionTree) (i : ItemTree) (p q : ProgressTree)
    → means [] q ≡ item_met names (length fs) i p → means fs q ≡ behind_item names fs i p
item_adds_none names fs i p q e = ap (λ gs. means gs q) (sym (append-nil fs)) ∙ item_adds names fs [] i p q e
