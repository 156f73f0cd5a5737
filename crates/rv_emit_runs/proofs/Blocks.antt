-- Ends of blocks and markers keep all activations.
use Rattle.std.proofs.Common.{◌≡◌, ℕ, ap, ◌∙◌, subst, arith, refl, sym, None, Bool, false, List}
use Rattle.rv_machine.specs.State.{MachineState}
use Rattle.graph_core.specs.Graphs.{UnitForm}
use Rattle.graph_core.specs.Runs.{Activation, Configuration, at_place}
use Rattle.rv_emit_words.specs.declared.piece.Held.{Held}
use Rattle.rv_emit_steps.specs.Holding.{Holding}
use Rattle.rv_emit_steps.specs.Programs.{Program}
use Rattle.rv_emit_steps.specs.Frames.{HoldsFrame}
use Rattle.rv_emit_steps.proofs.Arrays.{those_same}
use Rattle.rv_emit_runs.specs.Pieces.{Targets}
use Rattle.rv_emit_runs.specs.Waiting.{FunctionCode, IsFunctionCode, setting_of, HoldsAll}
use Rattle.rv_emit_runs.proofs.Ends.{EntersBlock}
use Rattle.rv_emit_runs.proofs.Keeping.{all_kept}
use Rattle.rv_emit_runs.proofs.Markers.{place_framed}
use Rattle.rv_emit_runs.proofs.Same.{SameActivation}
use Rattle.rv_emit_runs.proofs.Stepping.{AllCome}

-- Which place is in force is no part of what the machine holds.
pub place_all : (codes : ℕ → FunctionCode) (u : UnitForm) (addresses : ℕ → ℕ) (resumes : Activation → ℕ → Type 0) (held : List Held) (c : Configuration) (h : Holding) (place : ℕ) → HoldsAll codes u addresses resumes held c h → HoldsAll codes u addresses resumes held (at_place place c) h
place_all codes u addresses resumes held c h place all = record {
  here = place_framed (setting_of u addresses held (codes c.here.function)) c h place all.here;
  waiting = all.waiting;
  depth = all.depth;
  room = all.room;
  objects = all.objects;
  input = all.input;
  below = all.below;
}

-- Where the machine comes to a block and holds the frame there, it holds all activations.
pub block_all : (codes : ℕ → FunctionCode) (u : UnitForm) (valid : (k : ℕ) → IsFunctionCode u (codes k)) (addresses : ℕ → ℕ) (resumes : Activation → ℕ → Type 0) (p : Program) (t : Targets) (s : MachineState) (i : ℕ) (b : Bool) (most : ℕ) (held later : List Held) (c d : Configuration) (h : Holding) (labels : List ℕ)
    → HoldsAll codes u addresses resumes held c h → (enters : EntersBlock p t s b most (setting_of u addresses later (codes c.here.function)) c h labels d) → AllCome p s i b most (t.label enters.number) false codes u addresses resumes later d
block_all codes u valid addresses resumes p t s i b most held later c d h labels all enters =
    let comes = enters.comes in
    let same : SameActivation c d = subst (λ (q : Configuration). SameActivation c q) enters.is (record { function = refl; first = refl; waiting = refl; those = those_same c.memory; longer = omega arith }) in
    let input : c.input ≡ d.input = ap (λ (q : Configuration). q.input) enters.is in
    record {
      count = comes.count;
      few = comes.few;
      holding = comes.holding;
      reaches = comes.reaches;
      all = all_kept codes u valid addresses resumes held later c d h comes.holding None all (record { registers = λ q none kept. comes.kept q kept; memory = λ y out. ap (λ (m : ℕ → ℕ). m y) comes.memory }) tt tt same
          (subst (λ k. HoldsFrame (setting_of u addresses later (codes k)) d comes.holding) (sym same.function) comes.frame) (comes.input ∙ all.input ∙ input);
    }
