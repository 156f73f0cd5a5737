-- CODE MOTION IS COMPUTATIONALLY OPTIMAL: the account of each safe placement along a path of the graph after.
use Rattle.std.proofs.Common.{◌≡◌, ℕ, ◌+◌, ◌≤◌, true≢false, Option, List, [], ◌∷◌, ◌++◌, length, inl, refl, sym, ap, subst, arith}
use Rattle.std.specs.Prelude.{Some, if◌then◌else◌, slice_get}
use Rattle.graph_core.specs.declared.value.Value.{Value}
use Rattle.graph_core.specs.Graphs.{Operand, Instruction, End, Return, Block, Graph, UnitForm}
use Rattle.graph_core.specs.Uses.{targets_of}
use Rattle.graph_core.specs.Computations.{Computation}
use Rattle.graph_core.specs.Paths.{Among, History, Path, path}
use Rattle.graph_core.specs.Paths as paths
use Rattle.graph_core.specs.Validity.{IsGraph, place_at_end}
use Rattle.base_laws.proofs.Lists.{all_within}
use Rattle.motion_pass_points.specs.Computing.{does}
use Rattle.motion_pass_points.specs.Ways.{Point, within, along, passes, leaves, enters, IsCome}
use Rattle.motion_pass_placement.specs.Placed.{IsEnteredAgain}
use Rattle.motion_pass_placement.specs.Moving.{AreDone, Becomes, IsMoved}
use Rattle.motion_pass_laws.specs.Made.{IsDoing}
use Rattle.motion_pass_laws.specs.Often.{times, AreOnePath, nothing_passed, both_passed, new_passed}
use Rattle.motion_pass_laws.specs.Optimal.{Placement, IsSafe, spent_at, spent_on, entered, AreSameBlocks, none_entered, both_entered, own_entered, DoesLeast, IsOptimal}
use Rattle.motion_pass_laws.proofs.Once.{count, count_both}
use Rattle.motion_pass_laws.proofs.Positions.{passes_one, goes_one}
use Rattle.motion_pass_laws.proofs.Following.{IsFollowed, Where, inside, on_edge, ending, followed, is_jump, something}
use Rattle.motion_pass_laws.proofs.Making.{becomes_so}
use Rattle.motion_pass_laws.proofs.Accounts.{none_passed, all_doing, end_returns, spent_done, spent_both}
use Rattle.motion_pass_laws.proofs.Least.{PathTo, entered_to, entered_passes, entered_goes, spent_to, spent_passes, spent_goes, Stands, least_on, least_first, least_last}

module _ (u : UnitForm) (g h : Graph) (valid : IsGraph u g) (is : IsMoved g h) (once : IsEnteredAgain g.blocks → ⊥) where
  -- How often a computation was done on a path after to a point, behind some of what is done there, and by a safe placement on the path before.
  record Spent (e : Computation) (l : Placement) (safe : IsSafe g e l) (history : History) (p : Point) (passed : List Instruction) (other : ℕ) : Type 0 where
    till_there : ℕ
    all : times e history ≡ count e passed + till_there
    stands : Stands g h is once e l safe p till_there other

  -- THE PATH BEFORE that is one with a path after, with the accounts of all computations and all their safe placements.
  record Account (trail : List ℕ) (history : History) (p : Point) (passed : List Instruction) : Type 0 where
    before : History
    way : PathTo g before p
    one : AreOnePath g before history
    same : AreSameBlocks g (entered_to g p before way) trail
    spent : (e : Computation) (l : Placement) (safe : IsSafe g e l) → Spent e l safe history p passed (spent_to g e l p before way)

  account_first : (b : Block) → slice_get g.blocks 0 ≡ Some b → Account [] [] (within 0 b.instructions b.end) []
  account_first b at = record {
    before = [];
    way = path b at paths.stays;
    one = nothing_passed;
    same = none_entered;
    spent = λ e l safe. record { till_there = 0; all = omega (arith); stands = least_first g h is once e l safe b at };
  }

  account_new : (trail : List ℕ) (history : History) (p : Point) (passed : List Instruction) (k : Instruction) (more : List Instruction) (n : ℕ) (left : List Instruction) (v : Value) → IsCome g.blocks p → AreDone g.blocks g.name_count is.treated p (passed ++ k ∷ more)
      → Account trail history p passed → Account trail (record { block = n; left = length left; instruction = k; wrote = v } ∷ history) p (passed ++ k ∷ [])
  account_new trail history p passed k more n left v come done a =
      let it = all_within (λ i. (e : Computation) × IsDoing g e i) passed k more (all_doing u g h valid is once p g.name_count is.treated (passed ++ k ∷ more) (omega (arith)) done) in
      record { before = a.before; way = a.way; one = new_passed it.0 it.1 a.one; same = a.same; spent = spent }
    where
      spent : (e : Computation) (l : Placement) (safe : IsSafe g e l) → Spent e l safe (record { block = n; left = length left; instruction = k; wrote = v } ∷ history) p (passed ++ k ∷ []) (spent_to g e l p a.before a.way)
      spent e l safe =
          let s = a.spent e l safe in
          let was = s.all in
          let both = count_both e passed (k ∷ []) in
          let one : count e (k ∷ []) ≡ (if does e k then 1 else 0) + 0 = refl in
          record { till_there = s.till_there; all = omega (arith, was, both, one); stands = s.stands }

  account_old : (trail : List ℕ) (history : History) (n : ℕ) (i : Instruction) (rest : List Instruction) (f : End) (done : List Instruction) (j : Instruction) (left : List Instruction) (v : Value) → IsCome g.blocks (within n (i ∷ rest) f)
      → AreDone g.blocks g.name_count is.treated (within n (i ∷ rest) f) done → Becomes g.blocks g.name_count is.treated (within n (i ∷ rest) f) i j
      → Account trail history (within n (i ∷ rest) f) done → Account trail (record { block = n; left = length left; instruction = j; wrote = v } ∷ history) (within n rest f) []
  account_old trail history n i rest f done j left v come are becomes a = record {
    before = record { block = n; left = length rest; instruction = i; wrote = v } ∷ a.before;
    way = passes_one g a.before n i rest f v a.way;
    one = both_passed refl refl (becomes_so g is.treated n i j rest f becomes) a.one;
    same = subst (λ blocks. AreSameBlocks g blocks trail) (sym (entered_passes g a.before n i rest f v a.way)) a.same;
    spent = spent;
  }
    where
      spent : (e : Computation) (l : Placement) (safe : IsSafe g e l) → Spent e l safe (record { block = n; left = length left; instruction = j; wrote = v } ∷ history) (within n rest f) [] (spent_on g e l (passes_one g a.before n i rest f v a.way))
      spent e l safe = (let s = a.spent e l safe in record {
        till_there = (if does e j then 1 else 0) + times e history;
        all = none_passed ((if does e j then 1 else 0) + times e history);
        stands = subst (Stands g h is once e l safe (within n rest f) ((if does e j then 1 else 0) + times e history)) (sym (spent_passes g e l a.before n i rest f v a.way))
            (least_on g h is once e l safe (within n (i ∷ rest) f) (within n rest f) s.till_there (spent_on g e l a.way) ((if does e j then 1 else 0) + times e history) come passes
            (spent_both g h is once e n i j rest f done s.till_there ((if does e j then 1 else 0) + times e history) come are becomes (ap (λ m. (if does e j then 1 else 0) + m) s.all)) s.stands);
      })

  account_leave : (trail : List ℕ) (history : History) (n to : ℕ) (f : End) → IsCome g.blocks (within n [] f) → Among to (targets_of f) → Account trail history (within n [] f) [] → Account trail history (along n to) []
  account_leave trail history n to f come among a = record { before = a.before; way = (f, (a.way, among)); one = a.one; same = a.same; spent = spent }
    where
      spent : (e : Computation) (l : Placement) (safe : IsSafe g e l) → Spent e l safe history (along n to) [] (spent_on g e l a.way + spent_at g e l (within n [] f))
      spent e l safe = (let s = a.spent e l safe in record {
        till_there = s.till_there;
        all = s.all;
        stands = least_on g h is once e l safe (within n [] f) (along n to) s.till_there (spent_on g e l a.way) s.till_there come (leaves among) (inl refl) s.stands;
      })

  account_enter : (trail : List ℕ) (history : History) (n to : ℕ) (b : Block) (done : List Instruction) → IsCome g.blocks (along n to) → slice_get g.blocks to ≡ Some b → AreDone g.blocks g.name_count is.treated (along n to) done
      → Account trail history (along n to) done → Account (to ∷ trail) history (within to b.instructions b.end) []
  account_enter trail history n to b done come at are a = record {
    before = a.before;
    way = goes_one g a.before n to a.way.0 a.way.1.0 a.way.1.1 b at;
    one = a.one;
    same = subst (λ blocks. AreSameBlocks g blocks (to ∷ trail)) (sym (entered_goes g a.before n to a.way.0 a.way.1.0 a.way.1.1 b at)) (both_entered a.same);
    spent = spent;
  }
    where
      spent : (e : Computation) (l : Placement) (safe : IsSafe g e l) → Spent e l safe history (within to b.instructions b.end) [] (spent_on g e l (goes_one g a.before n to a.way.0 a.way.1.0 a.way.1.1 b at))
      spent e l safe = (let s = a.spent e l safe in record {
        till_there = times e history;
        all = none_passed (times e history);
        stands = subst (Stands g h is once e l safe (within to b.instructions b.end) (times e history)) (sym (spent_goes g e l a.before n to a.way.0 a.way.1.0 a.way.1.1 b at))
            (least_on g h is once e l safe (along n to) (within to b.instructions b.end) s.till_there (spent_to g e l (along n to) a.before a.way) (times e history) come (enters b at) (spent_done g h is once e (along n to) done s.till_there (times e history) are s.all) s.stands);
      })

  account_own : (trail : List ℕ) (history : History) (n to label : ℕ) → IsCome g.blocks (along n to) → length g.blocks ≤ label → Account trail history (along n to) [] → Account (label ∷ trail) history (along n to) []
  account_own trail history n to label come beyond a = record { before = a.before; way = a.way; one = a.one; same = own_entered beyond a.same; spent = a.spent }

  accounted : IsFollowed u g h valid is Account
  accounted = record { first = account_first; new = account_new; old = account_old; leave = account_leave; enter = account_enter; own = account_own }

  at_return : (trail : List ℕ) (history : History) (n : ℕ) (a : Option Operand) → IsCome g.blocks (within n [] (Return a)) → Account trail history (within n [] (Return a)) [] → DoesLeast g history trail n a
  at_return trail history n a come account = record { before = account.before; way = account.way; one = account.one; same = account.same; least = least }
    where
      least : (e : Computation) (l : Placement) → IsSafe g e l → times e history ≤ spent_on g e l account.way
      least e l safe =
          let s = account.spent e l safe in
          let all : times e history ≡ 0 + s.till_there = s.all in
          let le = least_last g h is once e l safe n a s.till_there (spent_on g e l account.way) come s.stands in
          omega (arith, all, le)

  by_where : (trail : List ℕ) (history : History) (n : ℕ) (a : Option Operand) → Where u g h valid is Account trail history n [] (Return a) → DoesLeast g history trail n a
  by_where trail history n a (inside b k others come passed remaining j later done becomes at left_is account) = absurd (something remaining j later (sym left_is))
  by_where trail history n a (on_edge m l come passed done at last_is account) = absurd (true≢false (sym (ap is_jump last_is)))
  by_where trail history n a (ending b come at no_jump left_is account) =
      let end = end_returns u g h valid is once n a (place_at_end b) at.became.next b.end at.became.moved.done at.became.block.end at.became.own at.became.moved.end at.last_is in
      at_return trail history n a (subst (λ f. IsCome g.blocks (within n [] f)) end come) (subst (λ f. Account trail history (within n [] f) []) end account)

  -- CODE MOTION IS COMPUTATIONALLY OPTIMAL.
  pub is_optimal : IsOptimal g h
  is_optimal history n a way = by_where (entered way) history n a (followed u g h valid is Account accounted way)
