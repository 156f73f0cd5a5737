-- No safe placement does a computation less often than the rule: an account from point to point of a path, of how often each does it.
use Rattle.std.proofs.Common.{◌≡◌, ◌⊎◌, inl, inr, ℕ, ◌+◌, ◌≤◌, ◌<◌, Bool, true, false, true≢false, not, ◌&&◌, ◌||◌, Option, Some, List, [], ◌∷◌, length, refl, sym, ap, ◌∙◌, arith}
use Rattle.std.specs.Prelude.{if◌then◌else◌, slice_get}
use Rattle.std.proofs.lemmas.Bool.{cases_Bool, false_from_ne_true}
use Rattle.graph_core.specs.declared.value.Value.{Value}
use Rattle.graph_core.specs.declared.value.Value.TheVariants.{Odd}
use Rattle.graph_core.specs.Graphs.{Operand, Instruction, End, Return, Block, Graph}
use Rattle.graph_core.specs.Uses.{targets_of}
use Rattle.graph_core.specs.Computations.{Computation}
use Rattle.graph_core.specs.Paths.{Among, History, Path, path}
use Rattle.graph_core.specs.Paths as paths
use Rattle.motion_pass_points.specs.Computing.{spoils}
use Rattle.motion_pass_points.specs.Ways.{Point, within, along, does_at, spoils_at, Leads, passes, leaves, enters, IsCome, begins, goes, IsUnsafe, ends, ahead, IsUnhad, unhad_at_entry, unhad_behind, unhad_still, IsPast, past_done, past_still, IsLatest}
use Rattle.motion_pass_points.proofs.Wanted.{past_unsafe}
use Rattle.motion_pass_placement.specs.Placed.{IsEnteredAgain}
use Rattle.motion_pass_placement.specs.Moving.{IsDoneAt, IsMoved}
use Rattle.motion_pass_laws.specs.Optimal.{Placement, has_on, IsSafe, spent_at, spent_on, entered}
use Rattle.motion_pass_laws.proofs.Positions.{passes_one, goes_one}
use Rattle.motion_pass_laws.proofs.Ready.{latest_next}
use Rattle.motion_pass_laws.proofs.Accounts.{SpentAt, at_most, up_safe}

-- what is so of neither is not so of one of both
neither : (a b : Bool) → a ≡ false → b ≡ false → (a || b) ≡ false
neither a b first second = ap (λ (t : Bool). t || b) first ∙ second

not_both : (a b : Bool) → b ≡ false → (a && b) ≡ false
not_both true b none = none
not_both false b none = refl

counts : (b : Bool) → b ≡ true → 1 ≤ (if b then 1 else 0)
counts true so = omega (arith)
counts false so = absurd (true≢false (sym so))

-- ---- Paths to points

-- a path of a graph comes to a point
abbrev pub PathTo : Graph → History → Point → Type 0
PathTo g history (within n rest f) = Path g history n rest f
PathTo g history (along n l) = (f : End) × (Path g history n [] f × Among l (targets_of f))

module _ (g : Graph) where
  path_on : {p q : Point} → (history : History) × PathTo g history p → Leads g.blocks p q → (history : History) × PathTo g history q
  path_on way (passes {n} {i} {rest} {f}) = (record { block = n; left = length rest; instruction = i; wrote = Odd } ∷ way.0, passes_one g way.0 n i rest f Odd way.1)
  path_on way (leaves {n} {l} {f} among) = (way.0, (f, (way.1, among)))
  path_on way (enters {n} {l} b at) = (way.0, goes_one g way.0 n l way.1.0 way.1.1.0 way.1.1.1 b at)

  -- One comes to each point to which ways come.
  path_to : {p : Point} → IsCome g.blocks p → (history : History) × PathTo g history p
  path_to (begins b at) = ([], path b at paths.stays)
  path_to (goes come step) = path_on (path_to come) step

  -- the blocks that it entered
  abbrev pub entered_to : (p : Point) (history : History) → PathTo g history p → List ℕ
  entered_to (within n rest f) history way = entered way
  entered_to (along n l) history way = entered way.1.0

  -- They are the same behind an instruction,
  pub entered_passes : (history : History) (n : ℕ) (i : Instruction) (rest : List Instruction) (f : End) (v : Value) (way : Path g history n (i ∷ rest) f) → entered (passes_one g history n i rest f v way) ≡ entered way
  entered_passes history n i rest f v (path b at way) = refl

  -- and one more behind an edge.
  pub entered_goes : (history : History) (n to : ℕ) (f : End) (way : Path g history n [] f) (among : Among to (targets_of f)) (b : Block) (at : slice_get g.blocks to ≡ Some b) → entered (goes_one g history n to f way among b at) ≡ to ∷ entered way
  entered_goes history n to f (path c there way) among b at = refl

module _ (g : Graph) (e : Computation) (l : Placement) where
  -- the temporary has the value behind a path to a point
  abbrev pub has_to : (p : Point) (history : History) → PathTo g history p → Bool
  has_to (within n rest f) history way = has_on g e l way
  has_to (along n to) history way = l.inserts (within n [] way.0) || has_on g e l way.1.0

  -- how often the placement did the computation there
  abbrev pub spent_to : (p : Point) (history : History) → PathTo g history p → ℕ
  spent_to (within n rest f) history way = spent_on g e l way
  spent_to (along n to) history way = spent_on g e l way.1.0 + spent_at g e l (within n [] way.0)

  -- It does so behind an instruction as often as before and at the point,
  pub spent_passes : (history : History) (n : ℕ) (i : Instruction) (rest : List Instruction) (f : End) (v : Value) (way : Path g history n (i ∷ rest) f) → spent_on g e l (passes_one g history n i rest f v way) ≡ spent_on g e l way + spent_at g e l (within n (i ∷ rest) f)
  spent_passes history n i rest f v (path b at way) = refl

  -- and so behind an edge.
  pub spent_goes : (history : History) (n to : ℕ) (f : End) (way : Path g history n [] f) (among : Among to (targets_of f)) (b : Block) (at : slice_get g.blocks to ≡ Some b)
      → spent_on g e l (goes_one g history n to f way among b at) ≡ (spent_on g e l way + spent_at g e l (within n [] f)) + spent_at g e l (along n to)
  spent_goes history n to f (path c there way) among b at = refl

  -- ---- Where the temporary has it not

  -- A path comes to a point behind which the temporary has not the value.
  pub record IsFresh (p : Point) : Type 0 where
    pub history : History
    pub way : PathTo g history p
    pub has_not : has_to p history way ≡ false

  fresh_passes : (history : History) (n : ℕ) (i : Instruction) (rest : List Instruction) (f : End) (way : Path g history n (i ∷ rest) f) → (l.inserts (within n (i ∷ rest) f) || has_on g e l way) ≡ false → IsFresh (within n rest f)
  fresh_passes history n i rest f (path b at way) none = record {
    history = record { block = n; left = length rest; instruction = i; wrote = Odd } ∷ history;
    way = path b at (paths.passes way Odd);
    has_not = not_both (not (spoils e i)) (l.inserts (within n (i ∷ rest) f) || has_on g e l (path b at way)) none;
  }

  fresh_enters : (history : History) (n to : ℕ) (f : End) (way : Path g history n [] f) → Among to (targets_of f) → (b : Block) → slice_get g.blocks to ≡ Some b
      → (l.inserts (along n to) || (l.inserts (within n [] f) || has_on g e l way)) ≡ false → IsFresh (within to b.instructions b.end)
  fresh_enters history n to f (path c there way) among b at none = record { history = history; way = path c there (paths.goes way among b at); has_not = none }

  -- So it is behind a point where it was so and where nothing is inserted,
  fresh_next : {p q : Point} → IsFresh p → l.inserts p ≡ false → Leads g.blocks p q → IsFresh q
  fresh_next fresh none (passes {n} {i} {rest} {f}) = fresh_passes fresh.history n i rest f fresh.way (neither (l.inserts (within n (i ∷ rest) f)) (has_on g e l fresh.way) none fresh.has_not)
  fresh_next fresh none (leaves {n} {l = to} {f} among) = record { history = fresh.history; way = (f, (fresh.way, among)); has_not = neither (l.inserts (within n [] f)) (has_on g e l fresh.way) none fresh.has_not }
  fresh_next fresh none (enters {n} {l = to} b at) =
      fresh_enters fresh.history n to fresh.way.0 fresh.way.1.0 fresh.way.1.1 b at (neither (l.inserts (along n to)) (l.inserts (within n [] fresh.way.0) || has_on g e l fresh.way.1.0) none fresh.has_not)

  fresh_spoiled : (history : History) (n : ℕ) (i : Instruction) (rest : List Instruction) (f : End) → Path g history n (i ∷ rest) f → spoils e i ≡ true → IsFresh (within n rest f)
  fresh_spoiled history n i rest f (path b at way) so = record {
    history = record { block = n; left = length rest; instruction = i; wrote = Odd } ∷ history;
    way = path b at (paths.passes way Odd);
    has_not = ap (λ (t : Bool). not t && (l.inserts (within n (i ∷ rest) f) || has_on g e l (path b at way))) so;
  }

  -- and behind a write of an operand.
  fresh_behind : {p q : Point} → IsCome g.blocks p → spoils_at e p ≡ true → Leads g.blocks p q → IsFresh q
  fresh_behind come so (passes {n} {i} {rest} {f}) = (let way = path_to g come in fresh_spoiled way.0 n i rest f way.1 so)
  fresh_behind come so (leaves among) = absurd (true≢false (sym so))
  fresh_behind come so (enters b at) = absurd (true≢false (sym so))

  module _ (safe : IsSafe g e l) where
    not_inserted : {p : Point} → IsUnsafe g.blocks e p → IsUnhad g.blocks e p → l.inserts p ≡ false
    not_inserted {p} unsafe unhad = false_from_ne_true (l.inserts p) (λ inserts. safe.safe p inserts unsafe unhad)

    -- So it is where the computation is not up-safe.
    pub fresh_unhad : {p : Point} → IsUnhad g.blocks e p → IsFresh p
    fresh_unhad (unhad_at_entry b at) = record { history = []; way = path b at paths.stays; has_not = refl }
    fresh_unhad (unhad_behind come so step) = fresh_behind come so step
    fresh_unhad (unhad_still unhad unsafe step) = fresh_next (fresh_unhad unhad) (not_inserted unsafe unhad) step

    -- what is not inserted there is not read there
    not_read : (p : Point) → IsFresh p → l.inserts p ≡ false → does_at e p ≡ true → l.reads p ≡ false
    not_read (within n rest f) fresh none does =
        false_from_ne_true (l.reads (within n rest f)) (λ reads. true≢false (sym (safe.ready n rest f does reads fresh.history fresh.way) ∙ neither (l.inserts (within n rest f)) (has_on g e l fresh.way) none fresh.has_not))
    not_read (along n to) fresh none does = absurd (true≢false (sym does))

    -- There either the placement does it, or nothing is inserted and nothing done.
    pub spends : (p : Point) → IsFresh p → (1 ≤ spent_at g e l p) ⊎ ((l.inserts p ≡ false) × (does_at e p ≡ false))
    spends p fresh = elim (cases_Bool (l.inserts p)) [
      | inl inserts ↦ (let one = counts (l.inserts p) inserts in inl (omega (arith, one)))
      | inr none ↦ elim (cases_Bool (does_at e p)) [
        | inl does ↦
            let one = counts (does_at e p && not (l.reads p)) (ap (λ (t : Bool). t && not (l.reads p)) does ∙ ap not (not_read p fresh none does)) in
            inl (omega (arith, one))
        | inr idle ↦ inr (none, idle)
      ]
    ]

-- ---- The account

module _ (g h : Graph) (is : IsMoved g h) (once : IsEnteredAgain g.blocks → ⊥) (e : Computation) (l : Placement) (safe : IsSafe g e l) where
  -- behind a latest point it can't be delayed to one where it is up-safe
  behind_latest : {p q : Point} → IsCome g.blocks p → IsLatest g.blocks e p → Leads g.blocks p q → (IsUnhad g.blocks e q → ⊥) → IsPast g.blocks e q
  behind_latest {p} come latest step up = elim (cases_Bool (does_at e p)) [ inl does ↦ past_done come does step (inr up) | inr idle ↦ latest_next g.blocks e come latest idle step ]

  -- THE ACCOUNT at a point, of how often the rule did it, and the placement.
  pub data State (p : Point) (rule other : ℕ) : Type 0 where
    -- it can't be delayed to the point
    free : IsPast g.blocks e p → rule ≤ other → State p rule other
    -- it can be delayed, and the placement has it not
    open' : (IsPast g.blocks e p → ⊥) → IsFresh g e l p → rule ≤ other → State p rule other
    -- it can be delayed, and the placement did it once more
    paid : (IsPast g.blocks e p → ⊥) → rule < other → State p rule other
    -- the rule did it once more, and the placement has it not and will do it
    owes : IsPast g.blocks e p → (IsUnsafe g.blocks e p → ⊥) → IsFresh g e l p → rule ≤ other + 1 → State p rule other

  -- such an account stands
  abbrev pub Stands : (p : Point) (rule other : ℕ) → Type 0
  Stands p rule other = (State p rule other → ⊥) → ⊥

  -- nothing is owed, behind a point to which it can't be delayed, or a latest one
  settled : (p q : Point) (a b : ℕ) → IsCome g.blocks p → Leads g.blocks p q → IsPast g.blocks e p ⊎ IsLatest g.blocks e p → a ≤ b → Stands q a b
  settled p q a b come step so le contrary = by so
    where
      delayed : IsPast g.blocks e q → ⊥
      delayed past = contrary (free past le)

      up : IsUnhad g.blocks e q → ⊥
      up unhad = contrary (open' delayed (fresh_unhad g e l safe unhad) le)

      by : IsPast g.blocks e p ⊎ IsLatest g.blocks e p → ⊥
      by (inl past) = delayed (past_still past step (inr up))
      by (inr latest) = delayed (behind_latest come latest step up)

  -- from a point to which it can be delayed, and which is no latest one, it can be delayed on
  onward : (p q : Point) → Leads g.blocks p q → (IsPast g.blocks e p → ⊥) → (IsLatest g.blocks e p → ⊥) → IsPast g.blocks e q → ⊥
  onward p q step delayed not_latest past = not_latest (record { delayed = delayed; last = inr (q, step, past) })

  -- where the rule does it is a latest point
  latest_of : (p : Point) → (IsPast g.blocks e p → ⊥) × ((does_at e p ≡ true) ⊎ IsDoneAt g.blocks e p) → IsLatest g.blocks e p
  latest_of p (delayed, inl does) = record { delayed = delayed; last = inl does }
  latest_of p (delayed, inr done) = done.1.0

  one_more : (p : Point) (a c : ℕ) → SpentAt g h is once e p a c → c ≤ a + 1
  one_more p a c (inl same) = omega (arith, same)
  one_more p a c (inr spent) = (let more = spent.0 in omega (arith, more))

  -- at a latest point where nothing was done by the placement
  at_latest : (p q : Point) (a b c : ℕ) → IsCome g.blocks p → Leads g.blocks p q → SpentAt g h is once e p a c → (IsPast g.blocks e p → ⊥) → IsFresh g e l p → a ≤ b → IsLatest g.blocks e p → Stands q c (b + spent_at g e l p)
  at_latest p q a b c come step spent delayed fresh le latest = elim (spends g e l safe p fresh) [
    | inl more ↦ (let one = one_more p a c spent in settled p q c (b + spent_at g e l p) come step (inr latest) (omega (arith, one, more, le)))
    | inr none ↦ λ contrary.
        let one = one_more p a c spent in
        let down : IsUnsafe g.blocks e p → ⊥ = λ unsafe. delayed (past_unsafe g.blocks e come unsafe) in
        contrary (owes (behind_latest come latest step (up_safe g h is once e come down none.1 step)) (λ unsafe. down (ahead none.1 step unsafe)) (fresh_next g e l fresh none.0 step) (omega (arith, one, le)))
  ]

  -- and at one that is no latest point
  at_other : (p q : Point) (a b c : ℕ) → IsCome g.blocks p → Leads g.blocks p q → c ≡ a → (IsPast g.blocks e p → ⊥) → IsFresh g e l p → a ≤ b → (IsLatest g.blocks e p → ⊥) → State q c (b + spent_at g e l p)
  at_other p q a b c come step same delayed fresh le not_latest = elim (spends g e l safe p fresh) [
    | inl more ↦ paid (onward p q step delayed not_latest) (omega (arith, same, more, le))
    | inr none ↦ open' (onward p q step delayed not_latest) (fresh_next g e l fresh none.0 step) (omega (arith, same, le))
  ]

  at_owed : (p q : Point) (a b c : ℕ) → IsCome g.blocks p → Leads g.blocks p q → c ≡ a → IsPast g.blocks e p → (IsUnsafe g.blocks e p → ⊥) → IsFresh g e l p → a ≤ b + 1 → Stands q c (b + spent_at g e l p)
  at_owed p q a b c come step same past down fresh le = elim (spends g e l safe p fresh) [
    | inl more ↦ settled p q c (b + spent_at g e l p) come step (inl past) (omega (arith, same, more, le))
    | inr none ↦ λ contrary. contrary (owes (past_still past step (inr (up_safe g h is once e come down none.1 step))) (λ unsafe. down (ahead none.1 step unsafe)) (fresh_next g e l fresh none.0 step) (omega (arith, same, le)))
  ]

  -- From a point to the next.
  goes_on : (p q : Point) (a b c : ℕ) → IsCome g.blocks p → Leads g.blocks p q → SpentAt g h is once e p a c → State p a b → Stands q c (b + spent_at g e l p)
  goes_on p q a b c come step (inl same) (free past le) = settled p q c (b + spent_at g e l p) come step (inl past) (omega (arith, same, le))
  goes_on p q a b c come step (inr spent) (free past le) = λ contrary. spent.1.0 past
  goes_on p q a b c come step (inl same) (paid delayed less) = λ contrary.
      contrary (paid (onward p q step delayed (λ latest. settled p q c (b + spent_at g e l p) come step (inr latest) (omega (arith, same, less)) contrary)) (omega (arith, same, less)))
  goes_on p q a b c come step (inr spent) (paid delayed less) = (let more = spent.0 in settled p q c (b + spent_at g e l p) come step (inr (latest_of p spent.1)) (omega (arith, more, less)))
  goes_on p q a b c come step (inl same) (open' delayed fresh le) = λ contrary.
      contrary (at_other p q a b c come step same delayed fresh le (λ latest. at_latest p q a b c come step (inl same) delayed fresh le latest contrary))
  goes_on p q a b c come step (inr spent) (open' delayed fresh le) = at_latest p q a b c come step (inr spent) delayed fresh le (latest_of p spent.1)
  goes_on p q a b c come step (inl same) (owes past down fresh le) = at_owed p q a b c come step same past down fresh le
  goes_on p q a b c come step (inr spent) (owes past down fresh le) = λ contrary. spent.1.0 past

  pub least_on : (p q : Point) (a b c : ℕ) → IsCome g.blocks p → Leads g.blocks p q → SpentAt g h is once e p a c → Stands p a b → Stands q c (b + spent_at g e l p)
  least_on p q a b c come step spent stands contrary = stands (λ s. goes_on p q a b c come step spent s contrary)

  -- Where a function begins.
  pub least_first : (b : Block) → slice_get g.blocks 0 ≡ Some b → Stands (within 0 b.instructions b.end) 0 0
  least_first b at contrary = contrary (open' (λ past. contrary (free past (omega (arith)))) (record { history = []; way = path b at paths.stays; has_not = refl }) (omega (arith)))

  -- Where it ends nothing is owed.
  pub least_last : (n : ℕ) (a : Option Operand) (rule other : ℕ) → IsCome g.blocks (within n [] (Return a)) → Stands (within n [] (Return a)) rule other → rule ≤ other
  least_last n a rule other come stands = at_most rule other (λ contrary. stands (λ s. contrary (by_state s)))
    where
      by_state : State (within n [] (Return a)) rule other → rule ≤ other
      by_state (free past le) = le
      by_state (open' delayed fresh le) = absurd (delayed (past_unsafe g.blocks e come ends))
      by_state (paid delayed less) = absurd (delayed (past_unsafe g.blocks e come ends))
      by_state (owes past down fresh le) = absurd (down ends)
