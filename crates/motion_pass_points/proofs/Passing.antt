-- Computations of blocks, one instruction after the other.
use Rattle.std.proofs.Common.{◌≡◌, ℕ, ◌+◌, ◌<◌, Bool, Some, List, [], ◌∷◌, ◌++◌, length, refl, sym, ◌∙◌, subst, arith, append_assoc}
use Rattle.std.specs.Prelude.{if◌then◌else◌}
use Rattle.graph_core.specs.Graphs.{Instruction, Block}
use Rattle.graph_core.specs.Computations.{Computation, computed_by}
use Rattle.motion_pass_points.specs.MotionPointsComputing.{computed_along, with_some}
use Rattle.motion_pass_points.specs.Numbers.{AreOnce, none, computed_in}
use Rattle.base_laws.proofs.Lists.{append_nil}
pub use Rattle.base_laws.proofs.Lists.{whole_is}

pub none_left : {A : Type 0} (left : List A) → length left < 1 → left ≡ []
none_left [] lt = refl
none_left (y ∷ left) lt = absurd (omega arith)

-- Of a list of all, what is ahead is still to come; what was passed of it was added once.
pub record ArePassed (old new all ahead : List Computation) : Type 0 where
  pub passed : List Computation
  pub parts : all ≡ passed ++ ahead
  pub once : (list : List Computation) → AreOnce list old → AreOnce (list ++ passed) new

pub passed_first : (old all : List Computation) → ArePassed old old all all
passed_first old all = record { passed = []; parts = refl; once = λ list o. subst (λ l. AreOnce l old) (sym (append_nil list)) o }

pub passed_last : (old new all : List Computation) → ArePassed old new all [] → (list : List Computation) → AreOnce list old → AreOnce (list ++ all) new
passed_last old new all are list o = subst (λ l. AreOnce (list ++ l) new) (sym (are.parts ∙ append_nil are.passed)) (are.once list o)

-- more of it was added
pub passed_on : (old mid new all now ahead : List Computation) → ArePassed old mid all (now ++ ahead) → ((list : List Computation) → AreOnce list mid → AreOnce (list ++ now) new) → ArePassed old new all ahead
passed_on old mid new all now ahead are more = record {
  passed = are.passed ++ now;
  parts = are.parts ∙ sym (append_assoc are.passed now ahead);
  once = λ list o. subst (λ l. AreOnce l new) (append_assoc list are.passed now) (more (list ++ are.passed) (are.once list o));
}

-- an instruction that computes comes first, or one that does not
pub passed_one : (old mid new all : List Computation) (i : Instruction) (e : Computation) (rest : List Instruction) → computed_by i ≡ Some e → ArePassed old mid all (computed_along (i ∷ rest))
    → ((list : List Computation) → AreOnce list mid → AreOnce (list ++ e ∷ []) new) → ArePassed old new all (computed_along rest)
passed_one old mid new all i e rest is are more = passed_on old mid new all (e ∷ []) (computed_along rest) (subst (λ o. ArePassed old mid all (with_some o (computed_along rest))) is are) more

-- a block comes first, of which what is told is added
pub passed_block : (told : ℕ → Bool) (old mid new all : List Computation) (n : ℕ) (b : Block) (rest : List Block) → ArePassed old mid all (computed_in told n (b ∷ rest))
    → ((list : List Computation) → AreOnce list mid → AreOnce (list ++ (if told n then computed_along b.instructions else [])) new) → ArePassed old new all (computed_in told (n + 1) rest)
passed_block told old mid new all n b rest are more = passed_on old mid new all (if told n then computed_along b.instructions else []) (computed_in told (n + 1) rest) are more
