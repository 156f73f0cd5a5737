-- How many copies are found: at most one for each instruction of the blocks that are past.
use Rattle.std.proofs.Common.{◌≡◌, ◌≢◌, ℕ, zero, suc, ◌+◌, ◌<◌, ◌≤◌, Option, Some, List, [], ◌∷◌, length, map, refl, sym, ap, ◌∙◌, subst, arith}
use Rattle.std.specs.Prelude.{slice_get, slice_set}
use Rattle.std.proofs.lemmas.Option.{same_Some, none-some}
use Rattle.base_laws.proofs.Lists.{map_at, set_elsewhere}
use Rattle.graph_core.specs.Graphs.{Block, Graph}
use Rattle.graph_core.specs.Validity.{counts, instructions_of, total}
use Rattle.copy_pass_rule.specs.declared.copies.CopyAt.{CopyAt}
use Rattle.copy_pass_rule.specs.Along.{counted_in}
use Rattle.copy_pass_rule.specs.Order.{IsInOrder}

abbrev sum : List ℕ → ℕ
sum ns = total (λ (n : ℕ). n) ns

abbrev weight : Block → ℕ
weight b = total counts b.instructions

-- one weight is taken away
taken : (ns : List ℕ) (k n : ℕ) → slice_get ns k ≡ Some n → sum (slice_set ns k 0) + n ≡ sum ns
taken [] k n at = absurd (none-some n at)
taken (m ∷ ns) zero n at = (let e = same_Some m n at in omega (arith, e))
taken (m ∷ ns) (suc k) n at = (let e = taken ns k n at in omega (arith, e))

weights_of : (blocks : List Block) → sum (map weight blocks) ≡ total (λ (b : Block). total counts b.instructions) blocks
weights_of [] = refl
weights_of (b ∷ blocks) = ap (λ z. total counts b.instructions + z) (weights_of blocks)

-- What is found, and what the instructions can make of the blocks that are not past, are at most as many as the instructions.
pub record AreCounted (g : Graph) (order : List ℕ) (turn : ℕ) (found : List CopyAt) : Type 0 where
  pub weights : List ℕ
  pub bound : length found + sum weights ≤ instructions_of g
  pub still : (n : ℕ) (b : Block) → slice_get g.blocks n ≡ Some b → ((j : ℕ) → j < turn → slice_get order j ≡ Some n → ⊥) → slice_get weights n ≡ Some (weight b)

pub none_counted : (g : Graph) (order : List ℕ) → AreCounted g order 0 []
none_counted g order = record {
  weights = map weight g.blocks;
  bound = (let e = weights_of g.blocks in omega (arith, e));
  still = λ n b at apart. map_at weight g.blocks n b at;
}

module _ (g : Graph) (order : List ℕ) (is : IsInOrder g.blocks order) (turn n : ℕ) (b : Block) (stands : slice_get order turn ≡ Some n) (at : slice_get g.blocks n ≡ Some b) (found : List CopyAt) (are : AreCounted g order turn found) where
  own : slice_get are.weights n ≡ Some (weight b)
  own = are.still n b at (λ j lt there. (let same : j ≡ turn = is.once j turn n there stands in omega (arith, lt, same)))

  in_block : counted_in (slice_get g.blocks n) ≡ weight b
  in_block = ap counted_in at

  -- there is room for what the next block can make
  pub room_for : length found + counted_in (slice_get g.blocks n) ≤ instructions_of g
  room_for = (let e = taken are.weights n (weight b) own in let w = in_block in let most = are.bound in omega (arith, e, w, most))

  -- the next block is past
  pub counted_on : (new : List CopyAt) → length new ≤ length found + counted_in (slice_get g.blocks n) → AreCounted g order (turn + 1) new
  counted_on new le = record {
    weights = slice_set are.weights n 0;
    bound = (let e = taken are.weights n (weight b) own in let w = in_block in let most = are.bound in omega (arith, e, w, most, le));
    still = λ m d there apart. set_elsewhere are.weights n m 0 (λ q. apart turn (omega arith) (stands ∙ ap Some (sym q))) ∙ are.still m d there (λ j lt stood. apart j (omega (arith, lt)) stood);
  }
