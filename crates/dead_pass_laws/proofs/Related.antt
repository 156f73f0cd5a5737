-- Configurations of the unit before and of the unit after that runs come to alike, and what their next steps have to do.
use Rattle.std.proofs.Common.{◌≡◌, ℕ, zero, suc, ◌+◌, Option, Some, None, List, [], ◌∷◌, length, map, refl, sym, ap, subst}
use Rattle.event_runs.specs.Agreement.{Pairs}
use Rattle.graph_core.specs.declared.value.Value.{Value}
use Rattle.graph_core.specs.declared.value.Shadow.{Shadow}
use Rattle.graph_core.specs.Graphs.{Instruction, End, Block, Graph, Logged, UnitForm}
use Rattle.graph_core.specs.Histories.{name_by}
use Rattle.graph_core.specs.Memory.{Memory}
use Rattle.graph_core.specs.Runs.{Activation, Configuration, Stepped, Goes, Shows, Ends, Wild, frame, numbers_from, take_wanted}
use Rattle.pass_law.specs.Keeps.{StaysOrGoes, SameFrame, SameEvent}
use Rattle.dead_pass_notes.specs.Said.{AreSaid}
use Rattle.dead_pass_laws.proofs.Came.{reduced_graph, Came}

-- The activation after of an activation before, with these blocks, names and shadows, where this is left of its block, and the value that it waits for goes there.
abbrev pub reduced_activation : Activation → (blocks : List Block) → (others : ℕ → Value) → (shadows : ℕ → Shadow) → (rest : List Instruction) → (wants : Option ℕ) → Activation
reduced_activation a blocks others shadows rest wants = record a { graph = reduced_graph a.graph blocks; names = others; shadows = shadows; rest = rest; wants = wants }

-- the configuration after of a configuration before
abbrev pub reduced_configuration : Configuration → (blocks : List Block) → (others : ℕ → Value) → (shadows : ℕ → Shadow) → (rest : List Instruction) → (wants : Option ℕ) → (waiting : List Activation) → Configuration
reduced_configuration c blocks others shadows rest wants waiting = record { memory = c.memory; input = c.input; here = reduced_activation c.here blocks others shadows rest wants; waiting = waiting }

-- Each shadow stays what it was, or is gone.
abbrev pub AreStill : (shadows others : ℕ → Shadow) → Type 0
AreStill shadows others = (x : ℕ) → StaysOrGoes (shadows x) (others x)

-- A stop shows them so.
pub shadows_shown : (shadows others : ℕ → Shadow) → AreStill shadows others → (least count : ℕ) → Pairs StaysOrGoes (map shadows (numbers_from least count)) (map others (numbers_from least count))
shadows_shown shadows others still least zero = tt
shadows_shown shadows others still least (suc count) = (still least, shadows_shown shadows others still (least + 1) count)

module _ (u : UnitForm) (log : List Logged) where
  -- An activation came to a point of a block: these instructions are left before, and of them those after.
  pub record Fits (g : Graph) (blocks : List Block) (names others : ℕ → Value) (before after : List Instruction) (end : End) : Type 0 where
    pub block : ℕ
    pub came : Came u log g blocks names others block before end
    pub said : AreSaid u.assignments log g block end before after

  -- An activation before that waits for a call, and the same after: whatever value it goes on with, it goes on alike.
  pub record Waits (a b : Activation) : Type 0 where
    pub blocks : List Block
    pub others : ℕ → Value
    pub shadows : ℕ → Shadow
    pub rest : List Instruction
    pub wants : Option ℕ
    pub is : b ≡ reduced_activation a blocks others shadows rest wants
    pub resumes : (v : Value) → Fits a.graph blocks (name_by a.wants v a.names) (name_by wants v others) a.rest rest a.end
    pub still : AreStill a.shadows shadows

  -- Both runs come to these: the same memory and input, at points that fit.
  pub record Related (c d : Configuration) : Type 0 where
    pub blocks : List Block
    pub others : ℕ → Value
    pub shadows : ℕ → Shadow
    pub rest : List Instruction
    pub wants : Option ℕ
    pub waiting : List Activation
    pub is : d ≡ reduced_configuration c blocks others shadows rest wants waiting
    pub here : Fits c.here.graph blocks c.here.names others c.here.rest rest c.here.end
    pub still : AreStill c.here.shadows shadows
    pub waits : Pairs Waits c.waiting waiting

  -- A step after does what a step before does, if that is not wild.
  abbrev pub DoesSame : Stepped → Stepped → Type 0
  DoesSame (Goes c) (Goes d) = Related c d
  DoesSame (Shows e c) (Shows o d) = SameEvent e o × Related c d
  DoesSame (Ends e) (Ends o) = SameEvent e o
  DoesSame Wild _ = Unit {0}
  DoesSame _ _ = ⊥

  -- A step before does nothing that the unit after has to do.
  abbrev pub DoesNothing : Stepped → Configuration → Type 0
  DoesNothing (Goes c) d = Related c d
  DoesNothing Wild d = Unit {0}
  DoesNothing _ d = ⊥

  -- As many activations wait.
  pub many_waiting : (xs ys : List Activation) → Pairs Waits xs ys → length ys ≡ length xs
  many_waiting [] [] all = refl
  many_waiting [] (y ∷ ys) all = absurd all
  many_waiting (x ∷ xs) [] all = absurd all
  many_waiting (x ∷ xs) (y ∷ ys) all = ap suc (many_waiting xs ys all.1)

  -- A stop shows an activation alike, and all that wait.
  pub frame_same : (a : Activation) (blocks : List Block) (others : ℕ → Value) (shadows : ℕ → Shadow) (rest : List Instruction) (wants : Option ℕ) → AreStill a.shadows shadows → SameFrame (frame a) (frame (reduced_activation a blocks others shadows rest wants))
  frame_same a blocks others shadows rest wants still = record { function = refl; place = refl; shadows = shadows_shown a.shadows shadows still 0 (length a.graph.scalars) }

  -- So it shows all that wait.
  pub frames_same : (xs ys : List Activation) → Pairs Waits xs ys → Pairs SameFrame (map frame xs) (map frame ys)
  frames_same [] [] all = tt
  frames_same [] (y ∷ ys) all = absurd all
  frames_same (x ∷ xs) [] all = absurd all
  frames_same (x ∷ xs) (y ∷ ys) all =
      let w = all.0 in
      (subst (λ a. SameFrame (frame x) (frame a)) (sym w.is) (frame_same x w.blocks w.others w.shadows w.rest w.wants w.still), frames_same xs ys all.1)

  -- What a call's value goes to takes it in both.
  pub goes_on : (memory : Memory) (input : List ℕ) (a : Activation) (blocks : List Block) (others : ℕ → Value) (shadows : ℕ → Shadow) (rest : List Instruction) (wants : Option ℕ) (w z : Option ℕ) (v : Value)
      → Fits a.graph blocks (name_by w v a.names) (name_by z v others) a.rest rest a.end → AreStill a.shadows shadows → (xs ys : List Activation) → Pairs Waits xs ys
      → Related (record { memory = memory; input = input; here = take_wanted w v a; waiting = xs }) (record { memory = memory; input = input; here = take_wanted z v (reduced_activation a blocks others shadows rest wants); waiting = ys })
  goes_on memory input a blocks others shadows rest wants None None v fits still xs ys waits =
      record { blocks = blocks; others = others; shadows = shadows; rest = rest; wants = wants; waiting = ys; is = refl; here = fits; still = still; waits = waits }
  goes_on memory input a blocks others shadows rest wants None (Some z) v fits still xs ys waits =
      record { blocks = blocks; others = name_by (Some z) v others; shadows = shadows; rest = rest; wants = wants; waiting = ys; is = refl; here = fits; still = still; waits = waits }
  goes_on memory input a blocks others shadows rest wants (Some w) None v fits still xs ys waits =
      record { blocks = blocks; others = others; shadows = shadows; rest = rest; wants = wants; waiting = ys; is = refl; here = fits; still = still; waits = waits }
  goes_on memory input a blocks others shadows rest wants (Some w) (Some z) v fits still xs ys waits =
      record { blocks = blocks; others = name_by (Some z) v others; shadows = shadows; rest = rest; wants = wants; waiting = ys; is = refl; here = fits; still = still; waits = waits }
