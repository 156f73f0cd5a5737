-- What became of the block of a number, and where the blocks on its edges stand.
use Rattle.std.proofs.Common.{◌≡◌, ℕ, zero, suc, ◌+◌, Some, List, [], ◌∷◌, ◌++◌, length, refl, ap, ◌∙◌, subst, arith}
use Rattle.std.specs.Prelude.{slice_get}
use Rattle.std.proofs.lemmas.Option.{none-some, same_Some}
use Rattle.graph_core.specs.Graphs.{Block}
use Rattle.graph_core.specs.Computations.{Computation}
use Rattle.motion_pass_placement.specs.Moving.{IsMovedBlock, AreMovedBlocks, no_block, one_block}
pub use Rattle.base_laws.proofs.Lists.{front_at as at_left}

-- and others have it behind a list
pub at_right : {A : Type 0} (xs ys : List A) (j k : ℕ) → k ≡ length xs + j → slice_get (xs ++ ys) k ≡ slice_get ys j
at_right [] ys j k is = ap (slice_get ys) (here is)
  where
    here : k ≡ 0 + j → k ≡ j
    here q = omega (arith, q)
at_right (z ∷ xs) ys j zero is = absurd (omega (arith, is))
at_right (z ∷ xs) ys j (suc k) is = at_right xs ys j k (omega (arith, is))

module _ (blocks : List Block) (first : ℕ) (treated : List Computation) where
  -- A block became another one, with blocks on its edges behind others.
  pub record IsFound (number next : ℕ) (b : Block) (after own : List Block) (k : ℕ) : Type 0 where
    pub block : Block
    pub stands : slice_get after k ≡ Some block
    pub offset : ℕ
    pub others : List Block
    pub moved : IsMovedBlock blocks first treated number (next + offset) b block others
    pub own_stand : (j : ℕ) (x : Block) → slice_get others j ≡ Some x → slice_get own (offset + j) ≡ Some x

  -- the first block of several
  found_here : (n next : ℕ) (b c : Block) (own moved others : List Block) → IsMovedBlock blocks first treated n next b c own → IsFound (n + 0) next b (c ∷ moved) (own ++ others) 0
  found_here n next b c own moved others is = record {
    block = c;
    stands = refl;
    offset = 0;
    others = own;
    moved = subst (λ m. IsMovedBlock blocks first treated m (next + 0) b c own) number (subst (λ m. IsMovedBlock blocks first treated n m b c own) behind is);
    own_stand = λ j x at. ap (slice_get (own ++ others)) (from j) ∙ at_left own others j x at;
  }
    where
      number : n ≡ n + 0
      number = omega (arith)

      behind : next ≡ next + 0
      behind = omega (arith)

      from : (j : ℕ) → 0 + j ≡ j
      from j = omega (arith)

  -- one of those behind it
  found_later : (n next k : ℕ) (b c : Block) (own moved others : List Block) → IsFound (suc n + k) (next + length own) b moved others k → IsFound (n + suc k) next b (c ∷ moved) (own ++ others) (suc k)
  found_later n next k b c own moved others f = record {
    block = f.block;
    stands = f.stands;
    offset = length own + f.offset;
    others = f.others;
    moved = subst (λ m. IsMovedBlock blocks first treated m (next + (length own + f.offset)) b f.block f.others) number (subst (λ m. IsMovedBlock blocks first treated (suc n + k) m b f.block f.others) behind f.moved);
    own_stand = λ j x at. at_right own others (f.offset + j) ((length own + f.offset) + j) (further j) ∙ f.own_stand j x at;
  }
    where
      number : suc n + k ≡ n + suc k
      number = omega (arith)

      behind : (next + length own) + f.offset ≡ next + (length own + f.offset)
      behind = omega (arith)

      further : (j : ℕ) → (length own + f.offset) + j ≡ length own + (f.offset + j)
      further j = omega (arith)

  -- By blocks, one after the other.
  pub found : (n next : ℕ) (before after own : List Block) → AreMovedBlocks blocks first treated n next before after own → (k : ℕ) (b : Block) → slice_get before k ≡ Some b → IsFound (n + k) next b after own k
  found n next _ _ _ no_block k b at = absurd (none-some b at)
  found n next _ _ _ (one_block {b = a} {c = c} {own = own} {rest = rest} {moved = moved} {others = others} is more) zero b at = subst (λ z. IsFound (n + 0) next z (c ∷ moved) (own ++ others) 0) (same_Some a b at) (found_here n next a c own moved others is)
  found n next _ _ _ (one_block {b = a} {c = c} {own = own} {rest = rest} {moved = moved} {others = others} is more) (suc k) b at = found_later n next k b c own moved others (found (suc n) (next + length own) rest moved others more k b at)

  -- as many blocks become others
  pub as_many : (n next : ℕ) (before after own : List Block) → AreMovedBlocks blocks first treated n next before after own → length after ≡ length before
  as_many n next _ _ _ no_block = refl
  as_many n next _ _ _ (one_block {own = own} {rest = rest} {moved = moved} {others = others} is more) = ap suc (as_many (suc n) (next + length own) rest moved others more)
