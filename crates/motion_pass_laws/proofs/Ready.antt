-- Where a temporary has the value of its computation, by the rule of lazy code motion.
use Rattle.std.proofs.Common.{◌≡◌, inl, inr, ℕ, false, true≢false, Some, List, [], ◌∷◌, ◌++◌, refl, sym, ap, ◌∙◌, subst}
use Rattle.std.specs.Prelude.{slice_get}
use Rattle.std.proofs.lemmas.Bool.{cases_Bool}
use Rattle.std.proofs.lemmas.List.{append_assoc}
use Rattle.std.proofs.lemmas.Option.{same_Some}
use Rattle.graph_core.specs.Graphs.{Instruction, End, Block}
use Rattle.graph_core.specs.Computations.{Computation}
use Rattle.motion_pass_points.specs.Ways.{Point, within, along, does_at, spoils_at, Leads, passes, leaves, enters, IsCome, begins, goes, IsUnhad, unhad_at_entry, unhad_behind, unhad_still, IsPast, past_at_entry, past_done, past_still, IsLatest, IsWanted, wanted_here, wanted_later, IsInserted, IsRead}
use Rattle.motion_pass_points.proofs.Wanted.{earliest_delayed, unhad_unwanted}

-- A point in a block, behind what stands before it there.
pub record StandsAt (blocks : List Block) (n : ℕ) (rest : List Instruction) (f : End) : Type 0 where
  pub block : Block
  pub is : slice_get blocks n ≡ Some block
  pub before : List Instruction
  pub parts : block.instructions ≡ before ++ rest
  pub ends : block.end ≡ f

module _ (blocks : List Block) where
  -- where a point is that paths come to
  abbrev AtPoint : Point → Type 0
  AtPoint (within n rest f) = StandsAt blocks n rest f
  AtPoint (along n l) = Unit {0}

  -- one instruction further
  stands_on : {n : ℕ} {i : Instruction} {rest : List Instruction} {f : End} → StandsAt blocks n (i ∷ rest) f → StandsAt blocks n rest f
  stands_on {n} {i} {rest} {f} s = record { block = s.block; is = s.is; before = s.before ++ i ∷ []; parts = s.parts ∙ sym (append_assoc s.before (i ∷ []) rest); ends = s.ends }

  -- each point to which paths come is there
  at_point : {p : Point} → IsCome blocks p → AtPoint p
  at_point (begins b at) = record { block = b; is = at; before = []; parts = refl; ends = refl }
  at_point (goes come (passes {n} {i} {rest} {f})) = stands_on (at_point come)
  at_point (goes come (leaves among)) = tt
  at_point (goes come (enters b at)) = record { block = b; is = at; before = []; parts = refl; ends = refl }

  -- A point in a block to which paths come stands in the block of its number.
  pub come_stands : {n : ℕ} {rest : List Instruction} {f : End} → IsCome blocks (within n rest f) → StandsAt blocks n rest f
  come_stands come = at_point come

  module _ (e : Computation) where
    -- THE VALUE IS READY at a point, before what is done there: it can't be delayed to the point, and is wanted from there on.
    pub record IsReady (p : Point) : Type 0 where
      pub past : IsPast blocks e p
      pub wanted : IsWanted blocks e p

    -- Then it was had on each path to the point.
    ready_had : {p : Point} → IsReady p → IsUnhad blocks e p → ⊥
    ready_had is unhad = earliest_delayed blocks e (unhad_unwanted blocks e is.wanted unhad) unhad is.past

    -- It is not ready where a function begins.
    pub ready_first : (b : Block) → slice_get blocks 0 ≡ Some b → IsReady (within 0 b.instructions b.end) → ⊥
    ready_first b at is = ready_had is (unhad_at_entry b at)

    -- Where it is ready behind a point, no operand is written there.
    pub ready_unspoiled : {p q : Point} → IsCome blocks p → Leads blocks p q → IsReady q → spoils_at e p ≡ false
    ready_unspoiled {p} come step is = elim (cases_Bool (spoils_at e p)) [
      | inl spoils ↦ absurd (ready_had is (unhad_behind come spoils step))
      | inr not ↦ not
    ]

    -- Where it is ready behind a point it was ready there, or is done there.
    pub ready_before : {p q : Point} → Leads blocks p q → IsReady q → (IsInserted blocks e p → ⊥) → (IsReady p → ⊥) → ⊥
    ready_before {p} {q} step is not_done unready = latest (record { delayed = λ past. unready (record { past = past; wanted = wanted_later latest step is.wanted }); last = inr (q, step, is.past) })
      where
        latest : IsLatest blocks e p → ⊥
        latest last = not_done (last, (q, step, is.wanted))

    -- Where the temporary is read the value is ready, or is done.
    pub read_ready : {p : Point} → IsRead blocks e p → (IsInserted blocks e p → ⊥) → (IsReady p → ⊥) → ⊥
    read_ready {p} read not_done unready = elim read.1 [
      | inl past ↦ unready_past past
      | inr used ↦ not_done (record { delayed = unready_past; last = inl read.0 }, used)
    ]
      where
        unready_past : IsPast blocks e p → ⊥
        unready_past past = unready (record { past = past; wanted = wanted_here read.0 past })

    -- what can't be delayed to a point is come to it
    past_come : {p : Point} → IsPast blocks e p → IsCome blocks p
    past_come (past_at_entry b at not) = begins b at
    past_come (past_done come does step not) = goes come step
    past_come (past_still past step not) = goes (past_come past) step

    -- what can't be delayed to an edge can't be delayed to the end of the block from which it leads
    past_left : {n l : ℕ} → IsPast blocks e (along n l) → (f : End) × IsPast blocks e (within n [] f)
    past_left (past_done come does (leaves among) not) = absurd (true≢false (sym does))
    past_left (past_still past (leaves {f = f} among) not) = (f, past)

    -- what is not up-safe is come to
    pub unhad_come : {p : Point} → IsUnhad blocks e p → IsCome blocks p
    unhad_come (unhad_at_entry b at) = begins b at
    unhad_come (unhad_behind come so step) = goes come step
    unhad_come (unhad_still unhad unsafe step) = goes (unhad_come unhad) step

    -- The end of a block is no latest point: it can still be done on the edges.
    pub end_latest : {n : ℕ} {f : End} → IsCome blocks (within n [] f) → IsLatest blocks e (within n [] f) → ⊥
    end_latest {n} {f} come latest = elim latest.last [
      | inl does ↦ true≢false (sym does)
      | inr next ↦ by_step next.0 next.1 next.2
    ]
      where
        here : (g : End) → IsPast blocks e (within n [] g) → ⊥
        here g past =
            let one = come_stands come in
            let other = come_stands (past_come past) in
            let same : g ≡ f = sym other.ends ∙ ap (λ (b : Block). b.end) (same_Some other.block one.block (sym other.is ∙ one.is)) ∙ one.ends in
            latest.delayed (subst (λ z. IsPast blocks e (within n [] z)) same past)

        by_step : (q : Point) → Leads blocks (within n [] f) q → IsPast blocks e q → ⊥
        by_step q (leaves {l = l} among) past = (let left = past_left past in here left.0 left.1)

    -- Nothing is done there.
    pub end_inserted : {n : ℕ} {f : End} → IsCome blocks (within n [] f) → IsInserted blocks e (within n [] f) → ⊥
    end_inserted come inserted = end_latest come inserted.0

    -- From a latest point that does nothing it can't be delayed to any point that comes next.
    pub latest_next : {p q : Point} → IsCome blocks p → IsLatest blocks e p → does_at e p ≡ false → Leads blocks p q → IsPast blocks e q
    latest_next come latest idle (passes {n} {i} {rest} {f}) = elim latest.last [
      | inl does ↦ absurd (true≢false (sym does ∙ idle))
      | inr next ↦ by_step next.1 next.2
    ]
      where
        by_step : {q : Point} → Leads blocks (within n (i ∷ rest) f) q → IsPast blocks e q → IsPast blocks e (within n rest f)
        by_step passes past = past
    latest_next come latest idle (leaves among) = absurd (end_latest come latest)
    latest_next come latest idle (enters {n} {l} b at) = elim latest.last [
      | inl does ↦ absurd (true≢false (sym does ∙ idle))
      | inr next ↦ by_step next.1 next.2
    ]
      where
        by_step : {q : Point} → Leads blocks (along n l) q → IsPast blocks e q → IsPast blocks e (within l b.instructions b.end)
        by_step (enters c there) past = subst (λ (d : Block). IsPast blocks e (within l d.instructions d.end)) (same_Some c b (sym there ∙ at)) past
