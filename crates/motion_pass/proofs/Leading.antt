-- Edges and ends.
use Rattle.std.proofs.Common.{◌≡◌, ℕ, ◌+◌, List, [], ◌∷◌, ◌++◌, length, Option, refl, sym, ap, ◌∙◌, subst, arith}
use Rattle.std.proofs.lemmas.List.{length-append}
use Rattle.graph_core.specs.declared.block.Comparison.{Comparison}
use Rattle.graph_core.specs.Graphs.{Operand, Instruction, End, Jump, Branch, Return, Block}
use Rattle.graph_core.specs.Paths.{Among, front, behind}
use Rattle.graph_core.specs.Uses.{targets_of}
use Rattle.graph_core.specs.Computations.{Computation}
use Rattle.motion_pass_points.specs.Ways.{along}
use Rattle.motion_pass_placement.specs.Moving.{AreDone, IsLed, directly, by_own, IsEnd, returns, jumps, branches}
pub use Rattle.graph_core.proofs.Among.{leads_jump as jump_among}

pub no_items : {A : Type 0} (xs : List A) → length xs ≡ 0 → xs ≡ []
no_items [] none = refl
no_items (x ∷ xs) none = absurd (omega (arith, none))

-- the edges of a branch
pub then_among : (e : End) (c : Comparison) (a b : Operand) (l m : ℕ) → e ≡ Branch c a b l m → Among l (targets_of e)
then_among e c a b l m is = subst (λ f. Among l (targets_of f)) (sym is) front

pub else_among : (e : End) (c : Comparison) (a b : Operand) (l m : ℕ) → e ≡ Branch c a b l m → Among m (targets_of e)
else_among e c a b l m is = subst (λ f. Among m (targets_of f)) (sym is) (behind front)

module _ (blocks : List Block) (first : ℕ) (treated : List Computation) (from : ℕ) (place : Option ℕ) where
  pub led_on : (to next : ℕ) (done : List Instruction) → AreDone blocks first treated (along from to) done → done ≡ [] → IsLed blocks first treated from place to next to []
  led_on to next done are none = directly (subst (λ xs. AreDone blocks first treated (along from to) xs) none are)

  pub led_by : (to next label : ℕ) (done : List Instruction) → AreDone blocks first treated (along from to) done → (done ≡ [] → ⊥) → label ≡ next → IsLed blocks first treated from place to next label (record { place = place; instructions = done; end = Jump to } ∷ [])
  led_by to next label [] are some is = absurd (some refl)
  led_by to next label (i ∷ more) are some is = subst (λ l. IsLed blocks first treated from place to next l (record { place = place; instructions = i ∷ more; end = Jump to } ∷ [])) (sym is) (by_own are)

  pub end_returns : (next : ℕ) (e : End) (a : Option Operand) → e ≡ Return a → IsEnd blocks first treated from place next e [] e []
  end_returns next e a is = subst (λ f. IsEnd blocks first treated from place next f [] f []) (sym is) returns

  pub end_jumps : (next : ℕ) (e : End) (to : ℕ) (done : List Instruction) → e ≡ Jump to → AreDone blocks first treated (along from to) done → IsEnd blocks first treated from place next e done (Jump to) []
  end_jumps next e to done is are = subst (λ f. IsEnd blocks first treated from place next f done (Jump to) []) (sym is) (jumps are)

  pub end_branches : (start : ℕ) (old mid : List Block) (e : End) (c : Comparison) (a b : Operand) (to else label other : ℕ) (own others : List Block) → e ≡ Branch c a b to else → IsLed blocks first treated from place to (start + length old) label own → mid ≡ old ++ own
      → IsLed blocks first treated from place else (start + length mid) other others → IsEnd blocks first treated from place (start + length old) e [] (Branch c a b label other) (own ++ others)
  end_branches start old mid e c a b to else label other own others is one grown two =
      let count : length mid ≡ length old + length own = ap length grown ∙ length-append old own in
      let next : start + length mid ≡ start + length old + length own = omega (arith, count) in
      subst (λ f. IsEnd blocks first treated from place (start + length old) f [] (Branch c a b label other) (own ++ others)) (sym is)
      (branches one (subst (λ n. IsLed blocks first treated from place else n other others) next two))
