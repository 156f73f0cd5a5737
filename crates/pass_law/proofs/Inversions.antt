-- What stands where in the graph of a small program, and what values that are known say.
use Rattle.std.proofs.Common.{◌≡◌, ℕ, zero, suc, ◌<◌, ◌≤◌, List, [], ◌∷◌, ◌++◌, Some, refl, sym, ◌∙◌, subst, arith, slice_get}
use Rattle.std.specs.Prelude.{option_map}
use Rattle.graph_core.specs.Graphs.{Operand, Instruction, End, Jump, Block, Scalar, Graph}
use Rattle.graph_core.specs.declared.value.Value.TheVariants.{Odd}
use Rattle.graph_core.specs.Paths as paths
use Rattle.graph_core.specs.Paths.{History, Way, Path, path}
use Rattle.pass_law.specs.Worked.{scalar, block, entry_block, return_block, main_with}
pub use Rattle.base_laws.proofs.Numbers.{false_true as false_is_true}
pub use Rattle.base_laws.proofs.Options.{none_is as none_is_some, some_same}
pub use Rattle.graph_core.proofs.Among.{among_none, among_one}

-- the one scalar is x
pub only_scalar : (x variable : ℕ) → option_map (λ (s : Scalar). s.variable) (slice_get (scalar 0 ∷ []) x) ≡ Some variable → (x ≡ 0) × (variable ≡ 0)
only_scalar zero variable e = (refl, sym (some_same e))
only_scalar (suc x) variable e = absurd (none_is_some e)

pub no_local : (t : ℕ) → 1 ≤ t → t < 1 → ⊥
no_local t least most = omega arith

pub apart : (m n : ℕ) → m < n → m ≡ n → ⊥
apart m n lower e = omega arith

-- what is so of the one block is so of each
pub only_block : (P : Block → Type 0) (c : Block) → P c → (n : ℕ) (b : Block) → slice_get (c ∷ []) n ≡ Some b → P b
only_block P c p zero b is = subst P (some_same is) p
only_block P c p (suc n) b is = absurd (none_is_some is)

pub no_block : (P : Block → Type 0) (n : ℕ) (b : Block) → slice_get [] n ≡ Some b → P b
no_block P n b is = absurd (none_is_some is)

module _ (assigns : List Instruction) (a : Operand) (others : List Block) where
  -- what is so of the three blocks, and of those behind them, is so of each
  pub each_block : (P : Block → Type 0) → P entry_block → P (block (Some 1) assigns (Jump 2)) → P (return_block a) → ((n : ℕ) (b : Block) → slice_get others n ≡ Some b → P b)
      → (n : ℕ) (b : Block) → slice_get (main_with assigns a others).blocks n ≡ Some b → P b
  each_block P p q r more zero b is = subst P (some_same is) p
  each_block P p q r more (suc zero) b is = subst P (some_same is) q
  each_block P p q r more (suc (suc zero)) b is = subst P (some_same is) r
  each_block P p q r more (suc (suc (suc n))) b is = more n b is

-- what is so of a block with its number is so by each number that is equal to that one
pub to_block : (blocks : List Block) (k : ℕ) (c : Block) → slice_get blocks k ≡ Some c → (P : ℕ → List Instruction → End → Type 0) (l : ℕ) (b : Block) → l ≡ k → slice_get blocks l ≡ Some b → P k c.instructions c.end → P l b.instructions b.end
to_block blocks k c at P l b e is p =
    let same : c ≡ b = some_same (sym at ∙ subst (λ j. slice_get blocks j ≡ Some b) e is) in
    subst (λ j. P j b.instructions b.end) (sym e) (subst (λ (d : Block). P k d.instructions d.end) same p)

-- ways that follow one another are one
way_on : {g : Graph} {from : ℕ} {start : List Instruction} {first : End} {h : History} {n : ℕ} {rest : List Instruction} {e : End} {k : History} {m : ℕ} {left : List Instruction} {f : End} → Way g from start first h n rest e → Way g n rest e k m left f → Way g from start first (k ++ h) m left f
way_on before paths.stays = before
way_on before (paths.passes way v) = paths.passes (way_on before way) v
way_on before (paths.goes way a b is) = paths.goes (way_on before way) a b is

-- behind an instruction that a path comes to, a way goes on as a path does
pub path_behind : {g : Graph} {h : History} {n : ℕ} {i : Instruction} {rest : List Instruction} {e : End} {k : History} {m : ℕ} {left : List Instruction} {f : End} → Path g h n (i ∷ rest) e → Way g n rest e k m left f → (hist : History) × Path g hist m left f
path_behind (path b is before) way = (_, path b is (way_on (paths.passes before Odd) way))
