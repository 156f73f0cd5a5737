-- Inner blocks that stand in a graph: code only adds to them.
use Rattle.std.proofs.Common.{◌≡◌, ℕ, zero, suc, ◌+◌, ◌-◌, List, [], ◌∷◌, ◌++◌, length, Option, Some, None, Bool, true, false, slice_get, refl, sym, ap, ◌∙◌, subst, arith}
use Rattle.std.specs.Prelude.{if◌then◌else◌}
use Rattle.c_tree.specs.TypedExpressions.{RvalueTree}
use Rattle.graph_core.specs.Graphs.{Operand, Instruction, Block, Graph}
use Rattle.graph_build_names.specs.Names.{Names, pick}
use Rattle.graph_build_steps.specs.Drafts.{Made, Goal, To, Unused, Either, leaf, follow, with_inner_block, label_of, move_if, operated}
use Rattle.graph_build_code.specs.Code.{code}

-- inner blocks, the first one with so many closed before it, stand at the end of a graph of so many blocks, the last one that is closed first
abbrev pub StandsFrom : Graph → (top from : ℕ) → List Block → Type 0
StandsFrom g top from [] = Unit {0}
StandsFrom g top from (b ∷ more) = (slice_get g.blocks (top - (from + 1)) ≡ Some b) × StandsFrom g top (from + 1) more

abbrev pub Stands : Graph → ℕ → List Block → Type 0
Stands g top inner = StandsFrom g top 0 inner

pub stands_front : (g : Graph) (top from : ℕ) (a b : List Block) → StandsFrom g top from (a ++ b) → StandsFrom g top from a
stands_front g top from [] b h = tt
stands_front g top from (x ∷ a) b h = (h.0, stands_front g top (from + 1) a b h.1)

pub stands_back : (g : Graph) (top from : ℕ) (a b : List Block) → StandsFrom g top from (a ++ b) → StandsFrom g top (from + length a) b
stands_back g top from [] b h = let e : from ≡ from + 0 = omega arith in subst (λ k. StandsFrom g top k b) e h
stands_back g top from (x ∷ a) b h =
    let e : from + 1 + length a ≡ from + length (x ∷ a) = omega arith in
    subst (λ k. StandsFrom g top k b) e (stands_back g top (from + 1) a b h.1)

-- what is made becomes a block
abbrev pub block_of : ℕ → Made → Block
block_of place m = record { place = Some place; instructions = m.ops; end = m.end }

pub closed_inner : (g : Graph) (top place : ℕ) (m : Made) → Stands g top (with_inner_block place m) → Stands g top m.inner
closed_inner g top place m h = stands_front g top 0 m.inner (block_of place m ∷ []) h

pub closed_block : (g : Graph) (top place : ℕ) (m : Made) → Stands g top (with_inner_block place m) → slice_get g.blocks (label_of top m) ≡ Some (block_of place m)
closed_block g top place m h =
    let e : 0 + length m.inner ≡ length m.inner = omega arith in
    subst (λ k. slice_get g.blocks (top - (k + 1)) ≡ Some (block_of place m)) e (stands_back g top 0 m.inner (block_of place m ∷ []) h).0

-- the inner blocks that a goal has
abbrev pub inner_of : Goal → List Block
inner_of (To want m) = m.inner
inner_of (Unused m) = m.inner
inner_of (Either one other inner) = inner

pub leaf_inner : (g : Goal) (a : Operand) → (leaf g a).inner ≡ inner_of g
leaf_inner (To None m) a = refl
leaf_inner (To (Some x) m) a = refl
leaf_inner (Unused m) a = refl
leaf_inner (Either one other inner) a = refl

pub follow_inner : (g : Goal) (own : ℕ) → (follow g own).inner ≡ inner_of g
follow_inner (To want m) own = refl
follow_inner (Unused m) own = refl
follow_inner (Either one other inner) own = refl

pub hold_inner : (moved : Bool) (t : ℕ) (a : Operand) (m : Made) → (move_if moved t a m).inner ≡ m.inner
hold_inner true t a m = refl
hold_inner false t a m = refl

-- The code of an expression stands where what follows stood.
abbrev pub Grows : Names → (place top : ℕ) → Graph → RvalueTree → Type 0
Grows n place top g e = (t : ℕ) (goal : Goal) → Stands g top (code n place top e t goal).inner → Stands g top (inner_of goal)
