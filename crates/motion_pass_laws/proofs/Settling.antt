-- What is done at a point is done in so many steps, in which nothing is seen.
use Rattle.std.proofs.Common.{◌≡◌, ℕ, suc, ◌≤◌, List, ◌∷◌, ◌++◌, refl, ap, ◌∙◌, arith}
use Rattle.std.proofs.lemmas.Option.{none-some}
use Rattle.graph_core.specs.declared.value.Value.{Value}
use Rattle.graph_core.specs.Graphs.{Instruction, End, Block, Graph, UnitForm}
use Rattle.graph_core.specs.Computations.{Computation}
use Rattle.graph_core.specs.Memory.{is_live}
use Rattle.graph_core.specs.Runs.{Activation, Configuration, Goes, with_value_at, step}
use Rattle.graph_core.specs.Validity.{IsGraph}
use Rattle.motion_pass_points.specs.Ways.{Point}
use Rattle.motion_pass_points.specs.MotionPointsComputing.{doing}
use Rattle.motion_pass_placement.specs.Moving.{IsDoneAt, AreDoneAt, no_computation, one_done, one_passed}
use Rattle.motion_pass_laws.proofs.Values.{computed, computed_same, put_other}
use Rattle.motion_pass_laws.proofs.Quiet.{after_of, moved_configuration, IsQuiet, quiet_none, quiet_step, quiet_and, done_step}
use Rattle.motion_pass_laws.proofs.Carried.{worth, Agree, IsSettled, settled_first, settled_passed, done_own}

module _ (u v : UnitForm) (g : Graph) (valid : IsGraph u g) (c : Configuration) (names : ℕ → Value) (count : ℕ) (blocks : List Block) (p : Point) where
  -- What is done at a point comes to names, and nothing is seen.
  pub record IsSettling (name : ℕ) (treated : List Computation) (done : List Instruction) (before : ℕ → Value) : Type 0 where
    pub after : ℕ → Value
    pub settled : IsSettled u g valid (is_live c.memory) names p name treated before after
    pub quiet : (rest : List Instruction) (end : End) (waiting : List Activation)
        → IsQuiet (after_of u v) (moved_configuration c count blocks before (done ++ rest) end waiting) (moved_configuration c count blocks after rest end waiting)

  -- the value of a computation
  abbrev value : Computation → Value
  value e = worth u g valid (is_live c.memory) names e

  -- A computation that is done leaves the names of the graph as they were.
  still : (name : ℕ) (before : ℕ → Value) (w : Value) → g.name_count ≤ name → Agree u g valid (is_live c.memory) names before → Agree u g valid (is_live c.memory) names (with_value_at before name w)
  still name before w most agree x less = put_other before name w x (λ q. omega (arith, less, most, q)) ∙ agree x less

  -- One is done, and then the others.
  settles_first : (name : ℕ) (e : Computation) (more : List Computation) (later : List Instruction) → IsDoneAt g.blocks e p → (before : ℕ → Value) → Agree u g valid (is_live c.memory) names before
      → IsSettling (suc name) more later (with_value_at before name (value e)) → IsSettling name (e ∷ more) (doing name e ∷ later) before
  settles_first name e more later is before agree next = record {
    after = next.after;
    settled = settled_first u g valid (is_live c.memory) names p name e more before next.after is next.settled;
    quiet = λ rest end waiting. quiet_and (after_of u v) (start rest end waiting) (middle rest end waiting) (moved_configuration c count blocks next.after rest end waiting)
        (quiet_step (after_of u v) (start rest end waiting) (middle rest end waiting) (one_step rest end waiting)) (next.quiet rest end waiting);
  }
    where
      same : computed u.statics (is_live c.memory) before e ≡ value e
      same = computed_same u.statics names before (is_live c.memory) e (λ x among. agree x (done_own u g valid e p is x among))

      start : List Instruction → End → List Activation → Configuration
      start rest end waiting = moved_configuration c count blocks before (doing name e ∷ (later ++ rest)) end waiting

      middle : List Instruction → End → List Activation → Configuration
      middle rest end waiting = moved_configuration c count blocks (with_value_at before name (value e)) (later ++ rest) end waiting

      one_step : (rest : List Instruction) (end : End) (waiting : List Activation) → step (after_of u v) (start rest end waiting) ≡ Goes (middle rest end waiting)
      one_step rest end waiting =
          done_step (after_of u v) c count blocks before name e (later ++ rest) end waiting
          ∙ ap (λ w. Goes (moved_configuration c count blocks (with_value_at before name w) (later ++ rest) end waiting)) same

  -- By computations, one after the other.
  pub settles : (name : ℕ) (treated : List Computation) (done : List Instruction) → AreDoneAt g.blocks p name treated done → g.name_count ≤ name → (before : ℕ → Value) → Agree u g valid (is_live c.memory) names before
      → IsSettling name treated done before
  settles name _ _ no_computation most before agree = record {
    after = before;
    settled = record { kept = λ x less. refl; each = λ k e at. absurd (none-some e at) };
    quiet = λ rest end waiting. quiet_none (after_of u v) (moved_configuration c count blocks before rest end waiting);
  }
  settles name _ _ (one_done {e = e} {more = more} {rest = later} is are) most before agree =
      settles_first name e more later is before agree (settles (suc name) more later are (omega (arith, most)) (with_value_at before name (value e)) (still name before (value e) most agree))
  settles name _ _ (one_passed {e = e} {more = more} {rest = later} not are) most before agree = (let next = settles (suc name) more later are (omega (arith, most)) before agree in record {
    after = next.after;
    settled = settled_passed u g valid (is_live c.memory) names p name e more before next.after not next.settled;
    quiet = next.quiet;
  })
