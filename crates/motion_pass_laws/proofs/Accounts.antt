-- No computation is done more often where code was moved: an account along each path, of how often it is done after and before.
use Rattle.std.proofs.Common.{◌≡◌, ◌⊎◌, inl, inr, ℕ, suc, ◌+◌, ◌≤◌, Bool, true, false, true≢false, Option, Some, List, [], ◌∷◌, ◌++◌, length, refl, sym, ap, ◌∙◌, subst, arith}
use Rattle.std.specs.Prelude.{if◌then◌else◌, slice_get}
use Rattle.std.specs.List.{AllByRecursion}
use Rattle.std.proofs.lemmas.Bool.{cases_Bool, cases_lt}
use Rattle.graph_core.specs.declared.value.Value.{Value}
use Rattle.graph_core.specs.Graphs.{Operand, Instruction, End, Return, Block, Graph, UnitForm}
use Rattle.graph_core.specs.Uses.{targets_of}
use Rattle.graph_core.specs.Computations.{Computation}
use Rattle.graph_core.specs.Paths.{Among, History, Path, path}
use Rattle.graph_core.specs.Paths as paths
use Rattle.graph_core.specs.Validity.{IsGraph, place_at_end}
use Rattle.base_laws.proofs.Lists.{all_within}
use Rattle.motion_pass_points.specs.Computing.{does}
use Rattle.motion_pass_points.specs.Ways.{Point, within, along, does_at, Leads, passes, leaves, enters, IsCome, IsUnsafe, ends, spoiled, ahead, IsUnhad, IsPast, past_still}
use Rattle.motion_pass_points.proofs.Wanted.{past_unsafe}
use Rattle.motion_pass_problems.proofs.Standing.{come_at, unhad_before, unhad_edge, unhad_start, unsafe_edge}
use Rattle.motion_pass_placement.specs.Placed.{IsEnteredAgain}
use Rattle.motion_pass_placement.specs.Moving.{IsDoneAt, AreDoneAt, no_computation, one_done, one_passed, AreDone, Becomes, stays, reads, IsEnd, returns, jumps, branches, IsMoved}
use Rattle.motion_pass_laws.specs.Made.{IsDoing}
use Rattle.motion_pass_laws.specs.Often.{times, AreOnePath, nothing_passed, both_passed, new_passed, DoesAsOften, DoesNoMore, DoesOnceMore, IsOnceAhead}
use Rattle.motion_pass_laws.proofs.Once.{count, count_both, done_once, treated_apart}
use Rattle.motion_pass_laws.proofs.Positions.{passes_one, goes_one}
use Rattle.motion_pass_laws.proofs.Following.{IsFollowed, Where, inside, on_edge, ending, followed, is_jump, something}
use Rattle.motion_pass_laws.proofs.Again.{done_next}
use Rattle.motion_pass_laws.proofs.Making.{becomes_so}

-- nothing and a number are that
pub none_passed : (n : ℕ) → n ≡ 0 + n
none_passed n = omega (arith)

-- What is not so unless it is, is so of numbers.
pub at_most : (a b : ℕ) → ((a ≤ b → ⊥) → ⊥) → a ≤ b
at_most a b so = elim (cases_lt b a) [
  | inl less ↦ absurd (so (λ le. omega (arith, less, le)))
  | inr le ↦ le
]

module _ (g h : Graph) (is : IsMoved g h) (once : IsEnteredAgain g.blocks → ⊥) (e : Computation) where
  -- BEHIND A POINT THAT IS DOWN-SAFE AND DOES NOTHING the computation is up-safe.
  pub up_safe : {p q : Point} → IsCome g.blocks p → (IsUnsafe g.blocks e p → ⊥) → does_at e p ≡ false → Leads g.blocks p q → IsUnhad g.blocks e q → ⊥
  up_safe come safe idle passes unhad =
      elim (unhad_before g.blocks is.are_treated.reached is.are_treated.just e (come_at g.blocks is.are_treated.reached is.are_treated.just come).1 unhad) [ inl so ↦ safe (spoiled idle so) | inr both ↦ safe both.1 ]
  up_safe come safe idle (leaves {n} {l} {f} among) unhad =
      let s = (come_at g.blocks is.are_treated.reached is.are_treated.just come).1 in
      let both = unhad_edge g.blocks is.are_treated.reached is.are_treated.just e s.block s.is unhad in
      safe (subst (λ x. IsUnsafe g.blocks e (within n [] x)) (sym s.end) both.1)
  up_safe come safe idle (enters {n} {l} b at) unhad = elim (unhad_start g.blocks is.are_treated.reached is.are_treated.just e b at refl unhad) [
    | inl zero ↦ once (n, subst (λ x. IsCome g.blocks (along n x)) zero come)
    | inr other ↦ safe (ahead idle (enters b at) (unsafe_edge g.blocks is.are_treated.reached is.are_treated.just e b at other.1.1))
  ]

  -- THE ACCOUNT at a point, of how often it was done after, and before.
  pub data State (p : Point) (after before : ℕ) : Type 0 where
    -- it can't be delayed to the point
    free : IsPast g.blocks e p → after ≤ before → State p after before
    -- it can be delayed
    open' : (IsPast g.blocks e p → ⊥) → after ≤ before → State p after before
    -- it was done once more after, and will be done before
    owes : IsPast g.blocks e p → (IsUnsafe g.blocks e p → ⊥) → after ≤ before + 1 → State p after before

  -- such an account stands
  abbrev pub Stands : (p : Point) (after before : ℕ) → Type 0
  Stands p after before = (State p after before → ⊥) → ⊥

  -- what is done at a point after: nothing, or it is done once, where it can be delayed to
  abbrev pub SpentAt : (p : Point) (old new : ℕ) → Type 0
  SpentAt p old new = (new ≡ old) ⊎ ((new ≡ suc old) × ((IsPast g.blocks e p → ⊥) × ((does_at e p ≡ true) ⊎ IsDoneAt g.blocks e p)))

  -- and before
  abbrev pub DoneBefore : (p : Point) (old new : ℕ) → Type 0
  DoneBefore p old new = ((does_at e p ≡ true) × (new ≡ suc old)) ⊎ ((does_at e p ≡ false) × (new ≡ old))

  -- nothing is owed
  settled : (q : Point) (after before : ℕ) → after ≤ before → Stands q after before
  settled q after before le contrary = contrary (open' (λ past. contrary (free past le)) le)

  owed : (p q : Point) (a b c d : ℕ) → IsCome g.blocks p → Leads g.blocks p q → SpentAt p a c → (does_at e p ≡ false) × (d ≡ b) → IsPast g.blocks e p → (IsUnsafe g.blocks e p → ⊥) → a ≤ b + 1 → Stands q c d
  owed p q a b c d come step (inr spent) idle past safe le contrary = spent.1.0 past
  owed p q a b c d come step (inl same) idle past safe le contrary =
      let other = idle.1 in
      contrary (owes (past_still past step (inr (up_safe come safe idle.0 step))) (λ unsafe. safe (ahead idle.0 step unsafe)) (omega (arith, same, other, le)))

  spent_early : (p q : Point) (a b c d : ℕ) → IsCome g.blocks p → Leads g.blocks p q → c ≡ suc a → (does_at e p ≡ true) ⊎ IsDoneAt g.blocks e p → (does_at e p ≡ false) × (d ≡ b) → (IsPast g.blocks e p → ⊥) → a ≤ b → Stands q c d
  spent_early p q a b c d come step more (inl does) idle delayed le contrary = true≢false (sym does ∙ idle.0)
  spent_early p q a b c d come step more (inr done) idle delayed le contrary =
      let other = idle.1 in
      contrary (owes (done_next g h is e done idle.0 step) (λ unsafe. delayed (past_unsafe g.blocks e come (ahead idle.0 step unsafe))) (omega (arith, more, other, le)))

  -- From a point to the next.
  goes_on : (p q : Point) (a b c d : ℕ) → IsCome g.blocks p → Leads g.blocks p q → SpentAt p a c → DoneBefore p b d → State p a b → Stands q c d
  goes_on p q a b c d come step (inl same) (inl does) (free past le) = (let other = does.1 in settled q c d (omega (arith, same, other, le)))
  goes_on p q a b c d come step (inl same) (inr idle) (free past le) = (let other = idle.1 in settled q c d (omega (arith, same, other, le)))
  goes_on p q a b c d come step (inr spent) before (free past le) = λ contrary. spent.1.0 past
  goes_on p q a b c d come step (inl same) (inl does) (open' delayed le) = (let other = does.1 in settled q c d (omega (arith, same, other, le)))
  goes_on p q a b c d come step (inl same) (inr idle) (open' delayed le) = (let other = idle.1 in settled q c d (omega (arith, same, other, le)))
  goes_on p q a b c d come step (inr spent) (inl does) (open' delayed le) = (let more = spent.0 in let other = does.1 in settled q c d (omega (arith, more, other, le)))
  goes_on p q a b c d come step (inr spent) (inr idle) (open' delayed le) = spent_early p q a b c d come step spent.0 spent.1.1 idle delayed le
  goes_on p q a b c d come step (inl same) (inl does) (owes past safe le) = (let other = does.1 in settled q c d (omega (arith, same, other, le)))
  goes_on p q a b c d come step (inr spent) (inl does) (owes past safe le) = λ contrary. spent.1.0 past
  goes_on p q a b c d come step spent (inr idle) (owes past safe le) = owed p q a b c d come step spent idle past safe le

  pub stands_on : (p q : Point) (a b c d : ℕ) → IsCome g.blocks p → Leads g.blocks p q → SpentAt p a c → DoneBefore p b d → Stands p a b → Stands q c d
  stands_on p q a b c d come step spent before stands contrary = stands (λ s. goes_on p q a b c d come step spent before s contrary)

  -- Where a function begins.
  pub stands_first : (p : Point) → Stands p 0 0
  stands_first p = settled p 0 0 (omega (arith))

  -- Where it ends nothing is owed.
  pub stands_last : (n : ℕ) (a : Option Operand) (after before : ℕ) → IsCome g.blocks (within n [] (Return a)) → Stands (within n [] (Return a)) after before → after ≤ before
  stands_last n a after before come stands = at_most after before (λ contrary. stands (λ s. contrary (by_state s)))
    where
      by_state : State (within n [] (Return a)) after before → after ≤ before
      by_state (free past le) = le
      by_state (open' delayed le) = absurd (delayed (past_unsafe g.blocks e come ends))
      by_state (owes past safe le) = absurd (safe ends)

  -- ---- What is spent

  -- what is done into temporaries at a point
  pub spent_done : (p : Point) (done : List Instruction) (a c : ℕ) → AreDone g.blocks g.name_count is.treated p done → c ≡ count e done + a → SpentAt p a c
  spent_done p done a c are sum = elim (done_once g.blocks e p g.name_count is.treated done (treated_apart g.blocks is.treated is.are_treated) are) [
    | inl none ↦ inl (omega (arith, none, sum))
    | inr one ↦ (let it = one.0 in inr (omega (arith, it, sum), (one.1.0.1.0.delayed, inr one.1.0)))
  ]

  -- and what becomes of the instruction there
  pub spent_both : (n : ℕ) (i j : Instruction) (rest : List Instruction) (f : End) (done : List Instruction) (a c : ℕ) → IsCome g.blocks (within n (i ∷ rest) f) → AreDone g.blocks g.name_count is.treated (within n (i ∷ rest) f) done
      → Becomes g.blocks g.name_count is.treated (within n (i ∷ rest) f) i j → c ≡ (if does e j then 1 else 0) + (count e done + a) → SpentAt (within n (i ∷ rest) f) a c
  spent_both n i _ rest f done a c come are (reads d k x read at target) sum = (let none_there : c ≡ 0 + (count e done + a) = sum in spent_done (within n (i ∷ rest) f) done a c are (omega (arith, none_there)))
  spent_both n i _ rest f done a c come are (stays not) sum = elim (cases_Bool (does e i)) [
    | inr idle ↦ (let none_there : c ≡ 0 + (count e done + a) = sum ∙ ap (λ (b : Bool). (if b then 1 else 0) + (count e done + a)) idle in spent_done (within n (i ∷ rest) f) done a c are (omega (arith, none_there)))
    | inl it ↦
        let one : c ≡ 1 + (count e done + a) = sum ∙ ap (λ (b : Bool). (if b then 1 else 0) + (count e done + a)) it in
        elim (done_once g.blocks e (within n (i ∷ rest) f) g.name_count is.treated done (treated_apart g.blocks is.treated is.are_treated) are) [
          | inl none ↦ inr (omega (arith, one, none), ((λ past. not e (come, (it, inl past))), inl it))
          | inr twice ↦ absurd (not e (come, (it, inr twice.1.0.1.1)))
        ]
  ]

  -- what the instruction there did before
  pub done_before : (n : ℕ) (i : Instruction) (rest : List Instruction) (f : End) (b : ℕ) → DoneBefore (within n (i ∷ rest) f) b ((if does e i then 1 else 0) + b)
  done_before n i rest f b = elim (cases_Bool (does e i)) [
    | inl it ↦ (let one : (if does e i then 1 else 0) + b ≡ 1 + b = ap (λ (t : Bool). (if t then 1 else 0) + b) it in inl (it, omega (arith, one)))
    | inr idle ↦ (let none_there : (if does e i then 1 else 0) + b ≡ 0 + b = ap (λ (t : Bool). (if t then 1 else 0) + b) idle in inr (idle, omega (arith, none_there)))
  ]

module _ (u : UnitForm) (g h : Graph) (valid : IsGraph u g) (is : IsMoved g h) (once : IsEnteredAgain g.blocks → ⊥) where
  -- a path of the graph before comes to a point
  abbrev PathTo : History → Point → Type 0
  PathTo before (within n rest f) = Path g before n rest f
  PathTo before (along n l) = (f : End) × (Path g before n [] f × Among l (targets_of f))

  -- How often a computation was done on a path after to a point, behind some of what is done there, and on the path before.
  record Spent (e : Computation) (history : History) (p : Point) (passed : List Instruction) (before : History) : Type 0 where
    till_there : ℕ
    all : times e history ≡ count e passed + till_there
    stands : Stands g h is once e p till_there (times e before)

  -- THE PATH BEFORE that is one with a path after, with the accounts of all computations.
  record Account (history : History) (p : Point) (passed : List Instruction) : Type 0 where
    before : History
    way : PathTo before p
    one : AreOnePath g before history
    spent : (e : Computation) → Spent e history p passed before

  account_first : (b : Block) → slice_get g.blocks 0 ≡ Some b → Account [] (within 0 b.instructions b.end) []
  account_first b at = record {
    before = [];
    way = path b at paths.stays;
    one = nothing_passed;
    spent = λ e. record { till_there = 0; all = omega (arith); stands = stands_first g h is once e (within 0 b.instructions b.end) };
  }

  -- What is done at a point does computations into temporaries.
  pub all_doing : (p : Point) (name : ℕ) (all : List Computation) (done : List Instruction) → g.name_count ≤ name → AreDoneAt g.blocks p name all done → AllByRecursion (λ i. (e : Computation) × IsDoing g e i) done
  all_doing p name _ _ fresh no_computation = tt
  all_doing p name _ _ fresh (one_done {e = e} {more = more} {rest = rest} is are) = ((e, record { name = name; fresh = fresh; is = refl }), all_doing p (suc name) more rest (omega (arith, fresh)) are)
  all_doing p name _ _ fresh (one_passed {more = more} {rest = rest} not are) = all_doing p (suc name) more rest (omega (arith, fresh)) are

  account_new : (history : History) (p : Point) (passed : List Instruction) (k : Instruction) (more : List Instruction) (n : ℕ) (left : List Instruction) (v : Value) → IsCome g.blocks p → AreDone g.blocks g.name_count is.treated p (passed ++ k ∷ more)
      → Account history p passed → Account (record { block = n; left = length left; instruction = k; wrote = v } ∷ history) p (passed ++ k ∷ [])
  account_new history p passed k more n left v come done a =
      let it = all_within (λ i. (e : Computation) × IsDoing g e i) passed k more (all_doing p g.name_count is.treated (passed ++ k ∷ more) (omega (arith)) done) in
      record { before = a.before; way = a.way; one = new_passed it.0 it.1 a.one; spent = spent }
    where
      spent : (e : Computation) → Spent e (record { block = n; left = length left; instruction = k; wrote = v } ∷ history) p (passed ++ k ∷ []) a.before
      spent e =
          let s = a.spent e in
          let was = s.all in
          let both = count_both e passed (k ∷ []) in
          let one : count e (k ∷ []) ≡ (if does e k then 1 else 0) + 0 = refl in
          record { till_there = s.till_there; all = omega (arith, was, both, one); stands = s.stands }

  account_old : (history : History) (n : ℕ) (i : Instruction) (rest : List Instruction) (f : End) (done : List Instruction) (j : Instruction) (left : List Instruction) (v : Value) → IsCome g.blocks (within n (i ∷ rest) f)
      → AreDone g.blocks g.name_count is.treated (within n (i ∷ rest) f) done → Becomes g.blocks g.name_count is.treated (within n (i ∷ rest) f) i j
      → Account history (within n (i ∷ rest) f) done → Account (record { block = n; left = length left; instruction = j; wrote = v } ∷ history) (within n rest f) []
  account_old history n i rest f done j left v come are becomes a = record {
    before = record { block = n; left = length rest; instruction = i; wrote = v } ∷ a.before;
    way = passes_one g a.before n i rest f v a.way;
    one = both_passed refl refl (becomes_so g is.treated n i j rest f becomes) a.one;
    spent = spent;
  }
    where
      spent : (e : Computation) → Spent e (record { block = n; left = length left; instruction = j; wrote = v } ∷ history) (within n rest f) [] (record { block = n; left = length rest; instruction = i; wrote = v } ∷ a.before)
      spent e = (let s = a.spent e in record {
        till_there = (if does e j then 1 else 0) + times e history;
        all = none_passed ((if does e j then 1 else 0) + times e history);
        stands = stands_on g h is once e (within n (i ∷ rest) f) (within n rest f) s.till_there (times e a.before) ((if does e j then 1 else 0) + times e history) ((if does e i then 1 else 0) + times e a.before) come passes
            (spent_both g h is once e n i j rest f done s.till_there ((if does e j then 1 else 0) + times e history) come are becomes (ap (λ m. (if does e j then 1 else 0) + m) s.all)) (done_before g h is once e n i rest f (times e a.before)) s.stands;
      })

  account_leave : (history : History) (n l : ℕ) (f : End) → IsCome g.blocks (within n [] f) → Among l (targets_of f) → Account history (within n [] f) [] → Account history (along n l) []
  account_leave history n l f come among a = record { before = a.before; way = (f, (a.way, among)); one = a.one; spent = spent }
    where
      spent : (e : Computation) → Spent e history (along n l) [] a.before
      spent e = (let s = a.spent e in record {
        till_there = s.till_there;
        all = s.all;
        stands = stands_on g h is once e (within n [] f) (along n l) s.till_there (times e a.before) s.till_there (times e a.before) come (leaves among) (inl refl) (inr (refl, refl)) s.stands;
      })

  account_enter : (history : History) (n l : ℕ) (b : Block) (done : List Instruction) → IsCome g.blocks (along n l) → slice_get g.blocks l ≡ Some b → AreDone g.blocks g.name_count is.treated (along n l) done
      → Account history (along n l) done → Account history (within l b.instructions b.end) []
  account_enter history n l b done come at are a = record { before = a.before; way = goes_one g a.before n l a.way.0 a.way.1.0 a.way.1.1 b at; one = a.one; spent = spent }
    where
      spent : (e : Computation) → Spent e history (within l b.instructions b.end) [] a.before
      spent e = (let s = a.spent e in record {
        till_there = times e history;
        all = none_passed (times e history);
        stands = stands_on g h is once e (along n l) (within l b.instructions b.end) s.till_there (times e a.before) (times e history) (times e a.before) come (enters b at)
            (spent_done g h is once e (along n l) done s.till_there (times e history) are s.all) (inr (refl, refl)) s.stands;
      })

  -- whatever blocks were entered
  abbrev Kept : List ℕ → History → Point → List Instruction → Type 0
  Kept trail history p passed = Account history p passed

  accounted : IsFollowed u g h valid is Kept
  accounted = record {
    first = account_first;
    new = λ trail. account_new;
    old = λ trail. account_old;
    leave = λ trail. account_leave;
    enter = λ trail. account_enter;
    own = λ trail history n l label come beyond a. a;
  }

  abbrev is_return : End → Bool
  is_return (Return a) = true
  is_return _ = false

  -- What becomes a return was one.
  pub end_returns : (n : ℕ) (a : Option Operand) (place : Option ℕ) (next : ℕ) (end : End) (done : List Instruction) (last : End) (own : List Block) → IsEnd g.blocks g.name_count is.treated n place next end done last own → Return a ≡ last → end ≡ Return a
  end_returns n a place next _ _ _ _ returns same = sym same
  end_returns n a place next _ _ _ _ (jumps are) same = absurd (true≢false (ap is_return same))
  end_returns n a place next _ _ _ _ (branches one two) same = absurd (true≢false (ap is_return same))

  by_where : {trail : List ℕ} (history : History) (n : ℕ) (a : Option Operand) → Where u g h valid is Kept trail history n [] (Return a) → DoesAsOften g history n a
  by_where history n a (inside b k others come passed remaining j later done becomes at left_is account) = absurd (something remaining j later (sym left_is))
  by_where history n a (on_edge m l come passed done at last_is account) = absurd (true≢false (sym (ap is_jump last_is)))
  by_where history n a (ending b come at no_jump left_is account) = record { before = account.before; way = subst (λ f. Path g account.before n [] f) end account.way; one = account.one; often = often }
    where
      end : b.end ≡ Return a
      end = end_returns n a (place_at_end b) at.became.next b.end at.became.moved.done at.became.block.end at.became.own at.became.moved.end at.last_is

      often : (e : Computation) → times e history ≤ times e account.before
      often e =
          let s = account.spent e in
          let all = s.all in
          let le = stands_last g h is once e n a s.till_there (times e account.before) (subst (λ f. IsCome g.blocks (within n [] f)) end come) (subst (λ f. Stands g h is once e (within n [] f) s.till_there (times e account.before)) end s.stands) in
          omega (arith, all, le)

  -- NOTHING IS COMPUTED MORE OFTEN where code was moved.
  pub no_more_often : DoesNoMore g h
  no_more_often history n a way = by_where history n a (followed u g h valid is Kept accounted way)

  -- ---- Paths that are cut short

  -- Behind some of what is done at a point it was done at most once more.
  once_more : (e : Computation) (p : Point) (passed remaining : List Instruction) (a b : ℕ) → AreDone g.blocks g.name_count is.treated p (passed ++ remaining) → Stands g h is once e p a b → count e passed + a ≤ b + 1
  once_more e p passed remaining a b are stands = at_most (count e passed + a) (b + 1) (λ contrary. stands (λ s. contrary (by_state (done_once g.blocks e p g.name_count is.treated (passed ++ remaining) (treated_apart g.blocks is.treated is.are_treated) are) s)))
    where
      parts : count e (passed ++ remaining) ≡ count e passed + count e remaining
      parts = count_both e passed remaining

      by_state : (count e (passed ++ remaining) ≡ 0) ⊎ ((count e (passed ++ remaining) ≡ 1) × (IsDoneAt g.blocks e p × ((k : ℕ) × (slice_get is.treated k ≡ Some e)))) → State g h is once e p a b → count e passed + a ≤ b + 1
      by_state (inl none) (free past le) = omega (arith, none, parts, le)
      by_state (inl none) (open' delayed le) = omega (arith, none, parts, le)
      by_state (inl none) (owes past safe le) = omega (arith, none, parts, le)
      by_state (inr done) (free past le) = absurd (done.1.0.1.0.delayed past)
      by_state (inr done) (open' delayed le) = (let one = done.0 in omega (arith, one, parts, le))
      by_state (inr done) (owes past safe le) = absurd (done.1.0.1.0.delayed past)

  cut_short : {trail : List ℕ} (history : History) (n : ℕ) (left : List Instruction) (last : End) → Where u g h valid is Kept trail history n left last → DoesOnceMore g history
  cut_short history n left last (inside b i rest come passed remaining j later done becomes at left_is account) = record {
    before = account.before;
    number = n;
    rest = i ∷ rest;
    end = b.end;
    way = account.way;
    one = account.one;
    often = λ e. (let s = account.spent e in let all = s.all in let le = once_more e (within n (i ∷ rest) b.end) passed remaining s.till_there (times e account.before) done s.stands in omega (arith, all, le));
  }
  cut_short history n left last (on_edge m l come passed done at last_is account) = record {
    before = account.before;
    number = m;
    rest = [];
    end = account.way.0;
    way = account.way.1.0;
    one = account.one;
    often = λ e. (let s = account.spent e in let all = s.all in let le = once_more e (along m l) passed left s.till_there (times e account.before) done s.stands in omega (arith, all, le));
  }
  cut_short history n left last (ending b come at no_jump left_is account) = record { before = account.before; number = n; rest = []; end = b.end; way = account.way; one = account.one; often = often }
    where
      by_state : (e : Computation) (a c : ℕ) → State g h is once e (within n [] b.end) a c → a ≤ c + 1
      by_state e a c (free past le) = omega (arith, le)
      by_state e a c (open' delayed le) = omega (arith, le)
      by_state e a c (owes past safe le) = le

      often : (e : Computation) → times e history ≤ times e account.before + 1
      often e =
          let s = account.spent e in
          let all : times e history ≡ 0 + s.till_there = s.all in
          let le = at_most s.till_there (times e account.before + 1) (λ contrary. s.stands (λ t. contrary (by_state e s.till_there (times e account.before) t))) in
          omega (arith, all, le)

  -- NOTHING IS COMPUTED FURTHER AHEAD THAN ONCE where code was moved.
  pub once_more_at_most : IsOnceAhead g h
  once_more_at_most history n rest f way = cut_short history n rest f (followed u g h valid is Kept accounted way)
