-- What delay and use have to do with one another.
use Rattle.std.proofs.Common.{◌≡◌, ◌⊎◌, inl, inr, ℕ, Bool, true, false, true≢false, List, [], ◌∷◌, refl, sym, ◌∙◌}
use Rattle.std.proofs.lemmas.Bool.{cases_Bool}
use Rattle.graph_core.specs.Graphs.{Block}
use Rattle.graph_core.specs.Computations.{Computation}
use Rattle.motion_pass_points.specs.Ways.{Point, does_at, spoils_at, Leads, IsCome, begins, goes, IsUnsafe, ends, spoiled, ahead, IsUnhad, unhad_still, IsNotEarliest, IsPast, past_at_entry, past_done, past_still, IsLatest, IsWanted, wanted_here, wanted_later, IsInserted}

module _ (blocks : List Block) (e : Computation) where
  -- a computation can be delayed only to where it is down-safe
  pub past_unsafe : {p : Point} → IsCome blocks p → IsUnsafe blocks e p → IsPast blocks e p
  past_unsafe (begins b at) unsafe = past_at_entry b at (inl unsafe)
  past_unsafe (goes {p} come step) unsafe = elim (cases_Bool (does_at e p)) [
    | inl does ↦ past_done come does step (inl unsafe)
    | inr not ↦ past_still (past_unsafe come (ahead not step unsafe)) step (inl unsafe)
  ]

  not_earliest : {p : Point} → IsPast blocks e p → IsNotEarliest blocks e p
  not_earliest (past_at_entry b at not) = not
  not_earliest (past_done come does step not) = not
  not_earliest (past_still past step not) = not

  -- to an earliest point it can be delayed
  pub earliest_delayed : {p : Point} → (IsUnsafe blocks e p → ⊥) → IsUnhad blocks e p → IsPast blocks e p → ⊥
  earliest_delayed safe unhad past = elim (not_earliest past) [ inl unsafe ↦ safe unsafe | inr had ↦ had unhad ]

  -- where it can be delayed further, its value is not wanted
  pub delayed_unwanted : {p : Point} → IsWanted blocks e p → (IsPast blocks e p → ⊥) → (IsLatest blocks e p → ⊥) → ⊥
  delayed_unwanted (wanted_here does past) delayed not_latest = delayed past
  delayed_unwanted (wanted_later {p} {q} not step wanted) delayed not_latest = on wanted (delayed_unwanted wanted)
    where
      next : IsPast blocks e q → ⊥
      next past = not_latest (record { delayed = delayed; last = inr (q, step, past) })

      on : IsWanted blocks e q → ((IsPast blocks e q → ⊥) → (IsLatest blocks e q → ⊥) → ⊥) → ⊥
      on (wanted_here does past) so = next past
      on (wanted_later not_last step' wanted') so = so next not_last

  unsafe_not_done : {p : Point} → IsUnsafe blocks e p → does_at e p ≡ true → ⊥
  unsafe_not_done ends does = true≢false (sym does)
  unsafe_not_done (spoiled not so) does = true≢false (sym does ∙ not)
  unsafe_not_done (ahead not step unsafe) does = true≢false (sym does ∙ not)

  -- nor is it where it is neither had nor down-safe: what comes to be wanted can be delayed from there on
  pub unhad_unwanted : {p : Point} → IsWanted blocks e p → IsUnhad blocks e p → IsUnsafe blocks e p → ⊥
  unhad_unwanted (wanted_here does past) unhad unsafe = unsafe_not_done unsafe does
  unhad_unwanted (wanted_later {p} {q} not step wanted) unhad unsafe = on wanted (unhad_unwanted wanted)
    where
      unhad_next : IsUnhad blocks e q
      unhad_next = unhad_still unhad unsafe step

      on : IsWanted blocks e q → (IsUnhad blocks e q → IsUnsafe blocks e q → ⊥) → ⊥
      on (wanted_here does past) so = earliest_delayed (so unhad_next) unhad_next past
      on (wanted_later not_last step' wanted') so = delayed_unwanted (wanted_later not_last step' wanted') (earliest_delayed (so unhad_next) unhad_next) not_last

  -- A COMPUTATION IS INSERTED ONLY WHERE IT IS DOWN-SAFE.
  pub inserted_safe : {p : Point} → IsCome blocks p → IsInserted blocks e p → IsUnsafe blocks e p → ⊥
  inserted_safe come inserted unsafe = inserted.0.delayed (past_unsafe come unsafe)
