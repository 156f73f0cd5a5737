-- Computations of a valid graph can be done with its names, into names that it gets.
use Rattle.std.proofs.Common.{◌≡◌, ℕ, ◌<◌, ◌≤◌, true, Some, List, refl, subst, arith}
use Rattle.std.proofs.lemmas.Option.{none-some, same_Some}
use Rattle.graph_core.specs.Graphs.{Operand, Name, Constant, StaticAddress, Instruction, Operate, Truncate, Same, Graph, UnitForm, Logged}
use Rattle.graph_core.specs.Computations.{Computation, Operating, Truncating, Comparing, computed_by}
use Rattle.graph_core.specs.Uses.{is_computation, target_of}
use Rattle.graph_core.specs.Validity.{IsOperand, IsInstruction}
use Rattle.motion_pass_points.specs.MotionPointsComputing.{doing}
use Rattle.motion_pass.proofs.Naming.{with_graphs}

-- What does a computation is one,
pub computes : (i : Instruction) (e : Computation) → computed_by i ≡ Some e → is_computation i ≡ true
computes (Operate x o a b) e is = refl
computes (Truncate x t a) e is = refl
computes (Same x a b) e is = refl
computes _ e is = absurd (none-some e is)

-- and so does what does it into a temporary.
pub doing_computes : (x : ℕ) (e : Computation) → is_computation (doing x e) ≡ true
doing_computes x (Operating o a b) = refl
doing_computes x (Truncating t a) = refl
doing_computes x (Comparing a b) = refl

module _ (u : UnitForm) where
  -- the operands of a computation name what a graph and its unit have
  abbrev pub CanBeComputed : Graph → Computation → Type 0
  CanBeComputed g (Operating o a b) = IsOperand u.statics g a × IsOperand u.statics g b
  CanBeComputed g (Truncating t a) = IsOperand u.statics g a
  CanBeComputed g (Comparing a b) = IsOperand u.statics g a × IsOperand u.statics g b

  -- So it is with the computation of a valid instruction,
  pub can_compute : (g : Graph) (i : Instruction) (e : Computation) → computed_by i ≡ Some e → IsInstruction u g i → CanBeComputed g e
  can_compute g (Operate x o a b) e is h = subst (CanBeComputed g) (same_Some (Operating o a b) e is) (h.1, h.2)
  can_compute g (Truncate x t a) e is h = subst (CanBeComputed g) (same_Some (Truncating t a) e is) h.1
  can_compute g (Same x a b) e is h = subst (CanBeComputed g) (same_Some (Comparing a b) e is) (h.1, h.2)
  can_compute g _ e is h = absurd (none-some e is)

  -- and this writes a name of the graph.
  pub writes_own : (g : Graph) (i : Instruction) (e : Computation) (x : ℕ) → computed_by i ≡ Some e → target_of i ≡ Some x → IsInstruction u g i → x < g.name_count
  writes_own g (Operate z o a b) e x is target h = subst (λ y. y < g.name_count) (same_Some z x target) h.0
  writes_own g (Truncate z t a) e x is target h = subst (λ y. y < g.name_count) (same_Some z x target) h.0
  writes_own g (Same z a b) e x is target h = subst (λ y. y < g.name_count) (same_Some z x target) h.0
  writes_own g _ e x is target h = absurd (none-some e is)

  module _ (hs : List Graph) (log : List Logged) (g h : Graph) (more : g.name_count ≤ h.name_count) where
    -- What an operand names is there in a graph with more names.
    operand_there : (a : Operand) → IsOperand u.statics g a → IsOperand u.statics h a
    operand_there (Name x) is = omega (arith, is, more)
    operand_there (Constant word) is = tt
    operand_there (StaticAddress object offset) is = is

    -- The computation can be done there into a name of that graph.
    pub can_do : (x : ℕ) (e : Computation) → x < h.name_count → CanBeComputed g e → IsInstruction (with_graphs u hs log) h (doing x e)
    can_do x (Operating o a b) less can = (less, operand_there a can.0, operand_there b can.1)
    can_do x (Truncating t a) less can = (less, operand_there a can)
    can_do x (Comparing a b) less can = (less, operand_there a can.0, operand_there b can.1)
