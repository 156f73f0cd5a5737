-- Configurations of the unit before and of the unit after that runs come to alike, and what their next steps have to do.
use Rattle.std.proofs.Common.{◌≡◌, ℕ, suc, Bool, List, [], ◌∷◌, length, map, refl, ap, ◌∙◌}
use Rattle.graph_core.specs.declared.value.Value.{Value}
use Rattle.graph_core.specs.Graphs.{Instruction, End, Block, UnitForm}
use Rattle.graph_core.specs.Memory.{is_live}
use Rattle.graph_core.specs.Runs.{Activation, Configuration, Stepped, Goes, Shows, Ends, Wild, frame}
use Rattle.motion_pass_laws.proofs.Fits.{Fits, GoesOn}
use Rattle.motion_pass_laws.proofs.Lives.{Covers}
use Rattle.motion_pass_laws.proofs.Quiet.{after_of, moved_activation, moved_configuration, IsQuiet, quiet_none}

module _ (u : UnitForm) where
  -- An activation before that waits for a call, where these objects live, and the one after: the points fit behind the call.
  pub record Waits (a b : Activation) : Type 0 where
    pub count : ℕ
    pub blocks : List Block
    pub others : ℕ → Value
    pub rest : List Instruction
    pub end : End
    pub is : b ≡ moved_activation a count blocks others rest end
    pub live : ℕ → Bool
    pub on : GoesOn u a.graph count blocks live a.names others a.wants a.rest rest a.end end

  -- The activations that wait, from the innermost on: for each live the objects that the next inner one covers.
  abbrev pub AreWaiting : (first : ℕ) (live : ℕ → Bool) → List Activation → List Activation → Type 0
  AreWaiting first live [] [] = Unit {0}
  AreWaiting first live [] (b ∷ ys) = ⊥
  AreWaiting first live (a ∷ xs) [] = ⊥
  AreWaiting first live (a ∷ xs) (b ∷ ys) = (w : Waits a b) × Covers first live w.live × AreWaiting a.first_object w.live xs ys

  -- Both runs come to these: the same memory, input and shadows, at points that fit.
  pub record Related (c d : Configuration) : Type 0 where
    pub count : ℕ
    pub blocks : List Block
    pub others : ℕ → Value
    pub rest : List Instruction
    pub end : End
    pub waiting : List Activation
    pub is : d ≡ moved_configuration c count blocks others rest end waiting
    pub here : Fits u c.here.graph count blocks (is_live c.memory) c.here.names others c.here.rest rest c.here.end end
    pub waits : AreWaiting c.here.first_object (is_live c.memory) c.waiting waiting

  -- As many activations wait.
  pub many_waiting : (first : ℕ) (live : ℕ → Bool) (xs ys : List Activation) → AreWaiting first live xs ys → length ys ≡ length xs
  many_waiting first live [] [] all = refl
  many_waiting first live [] (b ∷ ys) all = absurd all
  many_waiting first live (a ∷ xs) [] all = absurd all
  many_waiting first live (a ∷ xs) (b ∷ ys) all = ap suc (many_waiting a.first_object all.0.live xs ys all.2)

  -- A stop shows them alike.
  pub frames_same : (first : ℕ) (live : ℕ → Bool) (xs ys : List Activation) → AreWaiting first live xs ys → map frame ys ≡ map frame xs
  frames_same first live [] [] all = refl
  frames_same first live [] (b ∷ ys) all = absurd all
  frames_same first live (a ∷ xs) [] all = absurd all
  frames_same first live (a ∷ xs) (b ∷ ys) all = ap (λ z. frame z ∷ map frame ys) all.0.is ∙ ap (λ l. frame a ∷ l) (frames_same a.first_object all.0.live xs ys all.2)

  module _ (v : UnitForm) where
    -- The run after comes, with nothing seen, to what is related.
    pub record Comes (c d : Configuration) : Type 0 where
      pub to : Configuration
      pub quiet : IsQuiet (after_of u v) d to
      pub related : Related c to

    -- in no step
    pub comes_now : (c d : Configuration) → Related c d → Comes c d
    comes_now c d r = record { to = d; quiet = quiet_none (after_of u v) d; related = r }

    -- A step after does what a step before does, unless that is wild.
    abbrev pub DoesSame : Stepped → Stepped → Type 0
    DoesSame Wild q = Unit {0}
    DoesSame (Goes c) (Goes d) = Comes c d
    DoesSame (Goes c) q = ⊥
    DoesSame (Shows e c) (Shows o d) = Comes c d × (o ≡ e)
    DoesSame (Shows e c) q = ⊥
    DoesSame (Ends e) (Ends o) = o ≡ e
    DoesSame (Ends e) q = ⊥
