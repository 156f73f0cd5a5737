-- Configurations of the unit before and of the unit after that runs come to alike, and what their next steps have to do.
use Rattle.std.proofs.Common.{◌≡◌, suc, List, [], ◌∷◌, length, map, refl, ap, ◌∙◌}
use Rattle.event_runs.specs.Agreement.{Pairs}
use Rattle.graph_core.specs.declared.instruction.Callee.{Callee}
use Rattle.graph_core.specs.Graphs.{Operand, Instruction, Call, End, Block}
use Rattle.graph_core.specs.Runs.{Activation, Configuration, Stepped, Goes, Shows, Ends, Wild, frame}
use Rattle.copy_pass_laws.proofs.Fits.{copied_graph, Fits}

-- The activation after of an activation before, where its function has these blocks, and this is left of the block where it is.
abbrev pub copied_activation : Activation → (blocks : List Block) → (rest : List Instruction) → (end : End) → Activation
copied_activation a blocks rest end = record a { graph = copied_graph a.graph blocks; rest = rest; end = end }

-- An activation before that waits for a call, and the same after: the call is passed when it goes on.
pub record Waits (a b : Activation) : Type 0 where
  pub blocks : List Block
  pub rest : List Instruction
  pub end : End
  pub is : b ≡ copied_activation a blocks rest end
  pub callee : Callee
  pub operands : List Operand
  pub fits : Fits a.graph blocks a.names (Call a.wants callee operands ∷ rest) a.rest rest a.end end

-- the configuration after of a configuration before
abbrev pub copied_configuration : Configuration → (blocks : List Block) → (rest : List Instruction) → (end : End) → (waiting : List Activation) → Configuration
copied_configuration c blocks rest end waiting = record { memory = c.memory; input = c.input; here = copied_activation c.here blocks rest end; waiting = waiting }

-- Both runs come to these: the same memory, input, names and shadows, at points that fit.
pub record Related (c d : Configuration) : Type 0 where
  pub blocks : List Block
  pub rest : List Instruction
  pub end : End
  pub waiting : List Activation
  pub is : d ≡ copied_configuration c blocks rest end waiting
  pub here : Fits c.here.graph blocks c.here.names rest c.here.rest rest c.here.end end
  pub waits : Pairs Waits c.waiting waiting

-- A step after does what a step before does.
abbrev pub DoesSame : Stepped → Stepped → Type 0
DoesSame (Goes c) (Goes d) = Related c d
DoesSame (Shows e c) (Shows o d) = Related c d × (o ≡ e)
DoesSame (Ends e) (Ends o) = o ≡ e
DoesSame Wild Wild = Unit {0}
DoesSame _ _ = ⊥

-- As many activations wait.
pub many_waiting : (xs ys : List Activation) → Pairs Waits xs ys → length ys ≡ length xs
many_waiting [] [] all = refl
many_waiting [] (y ∷ ys) all = absurd all
many_waiting (x ∷ xs) [] all = absurd all
many_waiting (x ∷ xs) (y ∷ ys) all = ap suc (many_waiting xs ys all.1)

-- A stop shows them alike.
pub frames_same : (xs ys : List Activation) → Pairs Waits xs ys → map frame ys ≡ map frame xs
frames_same [] [] all = refl
frames_same [] (y ∷ ys) all = absurd all
frames_same (x ∷ xs) [] all = absurd all
frames_same (x ∷ xs) (y ∷ ys) all = ap (λ a. frame a ∷ map frame ys) all.0.is ∙ ap (λ l. frame x ∷ l) (frames_same xs ys all.1)
