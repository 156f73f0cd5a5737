-- Points of a graph, by their numbers and by what is left there.
use Rattle.std.proofs.Common.{◌≡◌, ℕ, suc, ◌+◌, ◌-◌, Some, List, [], ◌∷◌, ◌++◌, length, take, drop, refl, sym, ap, ◌∙◌, append_assoc, arith}
use Rattle.std.specs.Prelude.{slice_get}
use Rattle.std.proofs.lemmas.List.{drop_at, length-append, length-drop, take-append-drop}
use Rattle.graph_core.specs.Graphs.{Instruction, Block, Graph}
use Rattle.dead_pass_notes.specs.Spots.{left_in, left_at, end_in, end_at, IsPoint}

-- what is left of a block is what stands there
pub left_there : (g : Graph) (n left : ℕ) (b : Block) (before rest : List Instruction) → slice_get g.blocks n ≡ Some b → b.instructions ≡ before ++ rest → length rest ≡ left → left_at g n left ≡ rest
left_there g n left b before rest at parts behind =
    let long = length-append before rest in
    let whole : length b.instructions ≡ length (before ++ rest) = ap (λ l. length l) parts in
    let count : length before ≡ length b.instructions - left = omega (arith, long, whole, behind) in
    ap (λ o. left_in o left) at ∙ ap (drop (length b.instructions - left)) parts ∙ drop_at before rest (length b.instructions - left) count

-- the end of the block of a number
pub end_there : (g : Graph) (n : ℕ) (b : Block) → slice_get g.blocks n ≡ Some b → end_at g n ≡ b.end
end_there g n b at = ap (λ o. end_in o) at

-- What stands at a point, and before it.
pub record Stands (g : Graph) (n left : ℕ) : Type 0 where
  pub block : Block
  pub before : List Instruction
  pub is : slice_get g.blocks n ≡ Some block
  pub parts : block.instructions ≡ before ++ left_at g n left
  pub behind : length (left_at g n left) ≡ left
  pub ends : end_at g n ≡ block.end

pub stands : (g : Graph) (n left : ℕ) → IsPoint g n left → Stands g n left
stands g n left point =
    let b = point.block in
    let there : left_at g n left ≡ drop (length b.instructions - left) b.instructions = ap (λ o. left_in o left) point.is in
    let long = length-drop (length b.instructions - left) b.instructions in
    let within = point.within in
    let count : length (drop (length b.instructions - left) b.instructions) ≡ left = omega (arith, long, within) in
    record {
      block = b;
      before = take (length b.instructions - left) b.instructions;
      is = point.is;
      parts = sym (take-append-drop (length b.instructions - left) b.instructions) ∙ ap (λ l. take (length b.instructions - left) b.instructions ++ l) (sym there);
      behind = ap (λ l. length l) there ∙ count;
      ends = end_there g n b point.is;
    }

-- An instruction stands first at a point, and what is left behind it.
pub record IsFirst (g : Graph) (n left : ℕ) : Type 0 where
  pub instruction : Instruction
  pub is : left_at g n (suc left) ≡ instruction ∷ left_at g n left

pub first_there : (g : Graph) (n left : ℕ) → IsPoint g n (suc left) → IsFirst g n left
first_there g n left point = by (left_at g n (suc left)) refl
  where
    st : Stands g n (suc left)
    st = stands g n (suc left) point

    by : (all : List Instruction) → left_at g n (suc left) ≡ all → IsFirst g n left
    by [] is = (let long = st.behind in let none = ap (λ l. length l) is in absurd (omega (arith, long, none)))
    by (i ∷ more) is =
        let long = st.behind in
        let some = ap (λ l. length l) is in
        let count : length more ≡ left = omega (arith, long, some) in
        let rest : left_at g n left ≡ more = left_there g n left st.block (st.before ++ i ∷ []) more st.is (st.parts ∙ ap (λ l. st.before ++ l) is ∙ sym (append_assoc st.before (i ∷ []) more)) count in
        record { instruction = i; is = is ∙ ap (λ l. i ∷ l) (sym rest) }
