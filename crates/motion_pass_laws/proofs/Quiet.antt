-- Steps in which nothing is seen, and the configurations of a unit whose code was moved.
use Rattle.std.proofs.Common.{◌≡◌, ℕ, suc, ◌+◌, List, ◌∷◌, refl, ap, ◌∙◌, arith}
use Rattle.graph_core.specs.declared.value.Value.{Value}
use Rattle.graph_core.specs.Graphs.{Instruction, End, Block, Graph, UnitForm}
use Rattle.graph_core.specs.Computations.{Computation, Operating, Truncating, Comparing}
use Rattle.graph_core.specs.Memory.{is_live}
use Rattle.graph_core.specs.Runs.{Activation, Configuration, Goes, events_after, with_value_at, step, run}
use Rattle.motion_pass_points.specs.MotionPointsComputing.{doing}
use Rattle.motion_pass_laws.proofs.Values.{computed}

-- a graph with other names and blocks
abbrev pub moved_graph : Graph → (count : ℕ) → List Block → Graph
moved_graph g count blocks = record g { name_count = count; blocks = blocks }

-- The activation after of an activation before: its function has as many names and these blocks, the names have these values, and this is left of the block where it is.
abbrev pub moved_activation : Activation → (count : ℕ) → (blocks : List Block) → (others : ℕ → Value) → (rest : List Instruction) → (end : End) → Activation
moved_activation a count blocks others rest end = record a { graph = moved_graph a.graph count blocks; names = others; rest = rest; end = end }

-- the configuration after of a configuration before
abbrev pub moved_configuration : Configuration → (count : ℕ) → (blocks : List Block) → (others : ℕ → Value) → (rest : List Instruction) → (end : End) → (waiting : List Activation) → Configuration
moved_configuration c count blocks others rest end waiting = record { memory = c.memory; input = c.input; here = moved_activation c.here count blocks others rest end; waiting = waiting }

-- a configuration whose activation stands in this block
abbrev pub standing_in : (number : ℕ) → Configuration → Configuration
standing_in number c = record c { here = record c.here { block = number } }

-- the unit after, with what it shares with the unit before
abbrev pub after_of : UnitForm → UnitForm → UnitForm
after_of u v = record v { main = u.main; statics = u.statics; array_bytes = u.array_bytes }

module _ (v : UnitForm) where
  -- From one configuration the run comes to another in so many steps, in which nothing is seen.
  pub record IsQuiet (c d : Configuration) : Type 0 where
    pub steps : ℕ
    pub is : (n : ℕ) → run v (steps + n) c ≡ run v n d

  -- in no step
  pub quiet_none : (c : Configuration) → IsQuiet c c
  quiet_none c = record { steps = 0; is = λ n. ap (λ k. run v k c) (none n) }
    where
      none : (n : ℕ) → 0 + n ≡ n
      none n = omega (arith)

  -- in one
  pub quiet_step : (c d : Configuration) → step v c ≡ Goes d → IsQuiet c d
  quiet_step c d goes = record { steps = 1; is = λ n. ap (λ k. run v k c) (one n) ∙ ap (λ s. events_after s (run v n)) goes }
    where
      one : (n : ℕ) → 1 + n ≡ suc n
      one n = omega (arith)

  -- one after the other
  pub quiet_and : (a b c : Configuration) → IsQuiet a b → IsQuiet b c → IsQuiet a c
  quiet_and a b c one other = record {
    steps = one.steps + other.steps;
    is = λ n. ap (λ k. run v k a) (add_assoc one.steps other.steps n) ∙ one.is (other.steps + n) ∙ other.is n;
  }
    where
      add_assoc : (k m n : ℕ) → (k + m) + n ≡ k + (m + n)
      add_assoc k m n = omega (arith)

  -- A computation that is done gives its target its value, and nothing is seen.
  pub done_step : (c : Configuration) (count : ℕ) (blocks : List Block) (others : ℕ → Value) (x : ℕ) (e : Computation) (rest : List Instruction) (end : End) (waiting : List Activation)
      → step v (moved_configuration c count blocks others (doing x e ∷ rest) end waiting) ≡ Goes (moved_configuration c count blocks (with_value_at others x (computed v.statics (is_live c.memory) others e)) rest end waiting)
  done_step c count blocks others x (Operating o a b) rest end waiting = refl
  done_step c count blocks others x (Truncating t a) rest end waiting = refl
  done_step c count blocks others x (Comparing a b) rest end waiting = refl
