-- The next marker on a path is one that may follow, and there is one, or an end: such a property goes back and on.
use Rattle.std.proofs.Common.{◌≡◌, ℕ, false, Some, List, [], ◌∷◌, slice_get, refl, subst}
use Rattle.graph_core.specs.Graphs.{Instruction, Marker, End, Block, Graph}
use Rattle.graph_core.specs.Uses.{targets_of}
use Rattle.graph_core.specs.Paths.{Among, is_marker}
use Rattle.graph_core.specs.WellMarked as marked
use Rattle.graph_core.specs.WellMarked.{ComesToMarker}
use Rattle.graph_build_laws.specs.Points.{AtLabel, GoesBack, GoesOn, Meets, here, past, over, IsLed}

module _ (g : Graph) where
  not_here : {i : Instruction} {rest : List Instruction} {e : End} {p : ℕ} → is_marker i ≡ false → Meets g (i ∷ rest) e p → Meets g rest e p
  not_here h here = cc
  not_here h (past k m) = m

  only_here : {q p : ℕ} {rest : List Instruction} {e : End} → Meets g (Marker q ∷ rest) e p → q ≡ p
  only_here here = refl
  only_here (past k m) = cc

  comes_on : {i : Instruction} {rest : List Instruction} {e : End} → is_marker i ≡ false → ComesToMarker g (i ∷ rest) e → ComesToMarker g rest e
  comes_on h marked.at_marker = cc
  comes_on h (marked.on c) = c

  comes_over : {e : End} → ComesToMarker g [] e → (l : ℕ) → Among l (targets_of e) → (b : Block) → slice_get g.blocks l ≡ Some b → ComesToMarker g b.instructions b.end
  comes_over marked.leaves l a b is = elim a [ ]
  comes_over (marked.goes k) l a b is = k l b a is

  module _ (follows : ℕ → Type 0) where
    -- to the first marker behind an end that leads to blocks
    met : (e : End) → ((l : ℕ) → Among l (targets_of e) → AtLabel g.blocks (IsLed g follows) l) → (p : ℕ) → Meets g [] e p → follows p
    met e k p (over l b a is m) = (k l a b is).meets p m

    pub led_back : GoesBack g.blocks (IsLed g follows)
    led_back = record {
      step = λ i rest e h led. record { meets = λ p m. led.meets p (not_here h m); comes = marked.on led.comes };
      end = λ e k. record { meets = met e k; comes = marked.goes (λ l b a is. (k l a b is).comes) };
    }

    pub led_on : GoesOn g.blocks (IsLed g follows)
    led_on = record {
      step = λ i rest e h led. record { meets = λ p m. led.meets p (past h m); comes = comes_on h led.comes };
      over = λ e led l a b is. record { meets = λ p m. led.meets p (over l b a is m); comes = comes_over led.comes l a b is };
    }

    -- a marker that may follow
    pub led_here : (p : ℕ) (rest : List Instruction) (e : End) → follows p → IsLed g follows (Marker p ∷ rest) e
    led_here p rest e f = record { meets = λ q m. subst follows (only_here m) f; comes = marked.at_marker }
