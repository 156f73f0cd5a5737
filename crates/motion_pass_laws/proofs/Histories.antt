-- What is true behind what was passed before, and behind what was passed after.
use Rattle.std.proofs.Common.{◌≡◌, ℕ, ◌<◌, Bool, false, refl, ap, ◌∙◌}
use Rattle.std.specs.Prelude.{◌==◌, ◌&&◌, ◌||◌, if◌then◌else◌}
use Rattle.graph_core.specs.Graphs.{Instruction, Marker, Graph}
use Rattle.graph_core.specs.Paths.{History, place_of, place_by, writes, is_marker, is_call, notes, called, bound_at, written, unnoted, owed, owed_by, is_bound}
use Rattle.motion_pass_laws.specs.Made.{StaysOrReads, stays, of_operate, of_truncate, of_same, PassedSo, nothing, one_passed, new_passed}
use Rattle.motion_pass_laws.proofs.Doings.{new_marker, new_call, new_notes, new_writes, new_place, new_owed, same_writes, same_marker, same_place_by, same_call, same_notes, same_owed_by}

module _ (g : Graph) where
  -- The place in force is the same.
  pub same_place : {before after : History} → PassedSo g before after → place_of after ≡ place_of before
  same_place nothing = refl
  same_place (one_passed {p = p} {q} {before} {after} one more) = same_place_by g one (place_of after) ∙ ap (place_by p.instruction) (same_place more)
  same_place (new_passed {q = q} {before} {after} e new more) = new_place g e q.instruction new (place_of after) ∙ same_place more

  -- A call was passed in it, or was not.
  pub same_called : {before after : History} → PassedSo g before after → called after ≡ called before
  same_called nothing = refl
  same_called (one_passed {p = p} {q} {before} {after} one more) =
      ap (λ b. if b then false else is_call q.instruction || called after) (same_marker g one)
      ∙ ap (λ b. if is_marker p.instruction then false else b || called after) (same_call g one)
      ∙ ap (λ b. if is_marker p.instruction then false else is_call p.instruction || b) (same_called more)
  same_called (new_passed {q = q} {before} {after} e new more) =
      ap (λ b. if b then false else is_call q.instruction || called after) (new_marker g e q.instruction new)
      ∙ ap (λ b. b || called after) (new_call g e q.instruction new)
      ∙ same_called more

  module _ (x : ℕ) (less : x < g.name_count) where
    -- A name of the graph was written behind its last note, or was not.
    pub same_unnoted : {before after : History} → PassedSo g before after → unnoted x after ≡ unnoted x before
    same_unnoted nothing = refl
    same_unnoted (one_passed {p = p} {q} {before} {after} one more) =
        ap (λ b. if b then false else writes x q.instruction || unnoted x after) (same_notes g x one)
        ∙ ap (λ b. if notes x p.instruction then false else b || unnoted x after) (same_writes g x one)
        ∙ ap (λ b. if notes x p.instruction then false else writes x p.instruction || b) (same_unnoted more)
    same_unnoted (new_passed {q = q} {before} {after} e new more) =
        ap (λ b. if b then false else writes x q.instruction || unnoted x after) (new_notes g e q.instruction new x)
        ∙ ap (λ b. b || unnoted x after) (new_writes g e q.instruction new x less)
        ∙ same_unnoted more

    -- A note of it is owed, or is not.
    pub same_owed : (assigns : ℕ → Bool) {before after : History} → PassedSo g before after → owed assigns x after ≡ owed assigns x before
    same_owed assigns nothing = refl
    same_owed assigns (one_passed {p = p} {q} {before} {after} one more) = same_owed_by g assigns x one (owed assigns x after) ∙ ap (owed_by assigns x p.instruction) (same_owed assigns more)
    same_owed assigns (new_passed {q = q} {before} {after} e new more) = new_owed g e q.instruction new assigns x less (owed assigns x after) ∙ same_owed assigns more

    module _ (h : Graph) (entry : h.entry ≡ g.entry) (parameters : h.parameters ≡ g.parameters) where
      -- A marker binds the same, where the entry and the parameters are the same.
      same_bound : {i j : Instruction} → StaysOrReads g i j → bound_at h x j ≡ bound_at g x i
      same_bound {i} stays = of i
        where
          of : (k : Instruction) → bound_at h x k ≡ bound_at g x k
          of (Marker p) = ap (λ n. (p == n) && is_bound x h.parameters) entry ∙ ap (λ ps. (p == g.entry) && is_bound x ps) parameters
          of _ = refl
      same_bound (of_operate fresh) = refl
      same_bound (of_truncate fresh) = refl
      same_bound (of_same fresh) = refl

      -- It was written in the place in force, or was not.
      pub same_written : {before after : History} → PassedSo g before after → written h x after ≡ written g x before
      same_written nothing = refl
      same_written (one_passed {p = p} {q} {before} {after} one more) =
          ap (λ b. if b then bound_at h x q.instruction else writes x q.instruction || written h x after) (same_marker g one)
          ∙ ap (λ b. if is_marker p.instruction then b else writes x q.instruction || written h x after) (same_bound one)
          ∙ ap (λ b. if is_marker p.instruction then bound_at g x p.instruction else b || written h x after) (same_writes g x one)
          ∙ ap (λ b. if is_marker p.instruction then bound_at g x p.instruction else writes x p.instruction || b) (same_written more)
      same_written (new_passed {q = q} {before} {after} e new more) =
          ap (λ b. if b then bound_at h x q.instruction else writes x q.instruction || written h x after) (new_marker g e q.instruction new)
          ∙ ap (λ b. b || written h x after) (new_writes g e q.instruction new x less)
          ∙ same_written more
