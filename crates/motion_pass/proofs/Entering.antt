-- Which instructions do a computation, and which lists of blocks are paths from the entry.
use Rattle.std.proofs.Common.{◌≡◌, ◌↔◌, ℕ, zero, suc, ◌+◌, ◌<◌, ◌≤◌, inl, inr, Bool, true, false, Some, None, List, [], ◌∷◌, length, map, refl, sym, ap, ◌∙◌, subst, arith, true≢false}
use Rattle.std.specs.Prelude.{◌==◌, ◌||◌, not, option_map, slice_get}
use Rattle.std.specs.List.{list_any}
use Rattle.std.proofs.lemmas.Bool.{cases_lt, eq-eqb, eqb-true}
use Rattle.std.proofs.lemmas.Option.{none-some, same_Some, slice_get-map, slice_get_within}
use Rattle.graph_core.specs.declared.block.Block as declared-block
use Rattle.graph_core.specs.declared.name.Label as declared-label
use Rattle.graph_core.specs.declared.name.Operand as declared-operand
use Rattle.graph_core.specs.declared.name.Operand.TheVariants as operand
use Rattle.graph_core.specs.Graphs.{Operand, Name, Constant, StaticAddress, Instruction, Block, block_view, instruction_view, operand_view}
use Rattle.graph_core.specs.Computations.{Computation, Operating, Truncating, Comparing, computed_by}
use Rattle.graph_core.specs.Paths.{Among, front, behind}
use Rattle.graph_core.specs.Uses.{targets_of}
use Rattle.graph_core.specs.Validity.{total}
use Rattle.motion_pass_points.specs.declared.computation.Computation as declared-computation
use Rattle.motion_pass_points.specs.declared.computation.Computation.TheVariants as computation
use Rattle.motion_pass_points.specs.Computing.{does}
use Rattle.motion_pass_points.specs.MotionPointsComputing.{computation_view}
use Rattle.motion_pass_points.proofs.Keys.{does_it, it_does}
use Rattle.motion_pass.specs.Counts.{IsEntered, IsPath, LeadsTo, is_label, once, times_in}

operand_of : Operand → declared-operand.Operand
operand_of (Name x) = operand.Name (record { 0 = x })
operand_of (Constant word) = operand.Constant word
operand_of (StaticAddress object offset) = operand.StaticAddress object offset

operand_back : (a : declared-operand.Operand) → operand_of (operand_view a) ≡ a
unfolding operand_of
operand_back (operand.Name n) = refl
operand_back (operand.Constant word) = refl
operand_back (operand.StaticAddress object offset) = refl

computation_of : Computation → declared-computation.Computation
computation_of (Operating o a b) = computation.Operated o (operand_of a) (operand_of b)
computation_of (Truncating t a) = computation.Truncated t (operand_of a)
computation_of (Comparing a b) = computation.Compared (operand_of a) (operand_of b)

computation_back : (e : declared-computation.Computation) → computation_of (computation_view e) ≡ e
unfolding computation_of
computation_back (computation.Operated o a b) = λ i. computation.Operated o (operand_back a i) (operand_back b i)
computation_back (computation.Truncated t a) = λ i. computation.Truncated t (operand_back a i)
computation_back (computation.Compared a b) = λ i. computation.Compared (operand_back a i) (operand_back b i)

one_view : (d e : declared-computation.Computation) → computation_view d ≡ computation_view e → d ≡ e
one_view d e q = sym (computation_back d) ∙ ap computation_of q ∙ computation_back e

false_else : (b : Bool) → (b ≡ true → ⊥) → false ≡ b
false_else true never = absurd (never refl)
false_else false never = refl

-- an instruction that computes this does a computation exactly where both are one
pub does_by : (e d : declared-computation.Computation) (i : Instruction) (b : Bool) → Some (computation_view d) ≡ computed_by i → (b ≡ true) ↔ (d ≡ e) → b ≡ does (computation_view e) i
does_by e d i true at is = sym (does_it (computation_view e) i (sym at ∙ ap Some (ap computation_view (is.0 refl))))
does_by e d i false at is = false_else (does (computation_view e) i) (λ so. true≢false (sym (is.1 (one_view d e (same_Some (computation_view d) (computation_view e) (at ∙ it_does (computation_view e) i so))))))

-- how often the block at a number does it
pub times_at : (e : Computation) (blocks : List declared-block.Block) (n : ℕ) (b : declared-block.Block) → slice_get blocks n ≡ Some b → times_in e (slice_get (map block_view blocks) n) ≡ total (once e) (map instruction_view b.instructions.items)
times_at e blocks n b at = ap (times_in e) (slice_get-map block_view blocks n ∙ ap (option_map block_view) at)

pub no_times_at : (e : Computation) (blocks : List declared-block.Block) (n : ℕ) → slice_get blocks n ≡ None → times_in e (slice_get (map block_view blocks) n) ≡ 0
no_times_at e blocks n at = ap (times_in e) (slice_get-map block_view blocks n ∙ ap (option_map block_view) at)

-- the number of the block at a label
abbrev pub number_of : declared-label.Label → ℕ
number_of l = l.0

any_among : (to : ℕ) (labels : List declared-label.Label) → list_any (is_label to) labels ≡ true → Among to (map number_of labels)
any_among to [] so = absurd (true≢false (sym so))
any_among to (l ∷ more) so = by (any_among to more) (l.0 == to) refl
  where
    by : (list_any (is_label to) more ≡ true → Among to (map number_of more)) → (w : Bool) → (l.0 == to) ≡ w → Among to (map number_of (l ∷ more))
    by rest true is = subst (λ n. Among n (map number_of (l ∷ more))) (eqb-true l.0 to is) front
    by rest false is = behind (rest (sym (ap (λ b. b || list_any (is_label to) more) is) ∙ so))

among_any : (to : ℕ) (labels : List declared-label.Label) (all : List ℕ) → all ≡ map number_of labels → Among to all → list_any (is_label to) labels ≡ true
among_any to [] _ q front = absurd (none-some to (sym (ap (λ l. slice_get l 0) q)))
among_any to [] _ q (behind {b = b} at) = absurd (none-some b (sym (ap (λ l. slice_get l 0) q)))
among_any to (l ∷ more) _ q (front {all = all}) = ap (λ b. b || list_any (is_label to) more) (eq-eqb l.0 to (sym (same_Some to l.0 (ap (λ l. slice_get l 0) q))))
among_any to (l ∷ more) _ q (behind {b = b} {all = all} at) = or_true (l.0 == to) (list_any (is_label to) more) (among_any to more all (ap tail q) at)
  where
    tail : List ℕ → List ℕ
    tail [] = []
    tail (n ∷ rest) = rest

    or_true : (a b : Bool) → b ≡ true → (a || b) ≡ true
    or_true true b so = refl
    or_true false b so = so

-- a block leads to those among the labels of its end
pub leads_by : (blocks : List Block) (from to : ℕ) (b : Block) (labels : List declared-label.Label) → slice_get blocks from ≡ Some b → map number_of labels ≡ targets_of b.end → (list_any (is_label to) labels ≡ true) ↔ LeadsTo blocks from to
leads_by blocks from to b labels at are = (
  λ so. (b, at, subst (Among to) are (any_among to labels so)),
  λ leads. among_any to labels (targets_of b.end) (sym are) (subst (λ (c : Block). Among to (targets_of c.end)) (sym (same_Some b leads.0 (sym at ∙ leads.1))) leads.2),
)

-- one that is none leads nowhere
pub leads_nowhere : (blocks : List Block) (from to : ℕ) → slice_get blocks from ≡ None → LeadsTo blocks from to → ⊥
leads_nowhere blocks from to none leads = none-some leads.0 (sym none ∙ leads.1)

-- a path is one so far as each of its numbers tells
pub path_tells : (blocks : List Block) (path : List ℕ) → IsPath blocks path → (index : ℕ) → IsEntered blocks path index
path_tells blocks path is index = record {
  is_block = is.blocks_all index;
  begins = λ first. is.begins;
  leads = λ k from to next at there. is.leads k from to at (subst (λ n. slice_get path n ≡ Some to) (sym next) there);
}

-- and one is a path if it has a number and all of them tell so
pub tells_path : (blocks : List Block) (path : List ℕ) (size : ℕ) → length path ≤ size → 0 < length path → ((index : ℕ) → index < size → IsEntered blocks path index) → IsPath blocks path
tells_path blocks path size all some each = record {
  begins = (each 0 (omega (arith, all, some))).begins refl;
  blocks_all = λ k n at. (let inside = slice_get_within path k n at in (each k (omega (arith, all, inside))).is_block n at);
  leads = λ k from to at there. (let inside = slice_get_within path (k + 1) to there in (each (k + 1) (omega (arith, all, inside))).leads k from to refl at there);
}

-- none is empty
pub path_some : (blocks : List Block) (path : List ℕ) → IsPath blocks path → 0 < length path
path_some blocks path is = slice_get_within path 0 0 is.begins

-- of one number, the first: it is that of a block, and of the first one
pub first_entered : (blocks : List Block) (path : List ℕ) (index n : ℕ) → index ≡ 0 → slice_get path index ≡ Some n → n < length blocks → (b : Bool) → (b ≡ true) ↔ (n ≡ 0) → (b ≡ true) ↔ IsEntered blocks path index
first_entered blocks path index n zero_is at inside b is = (
  λ so. record {
    is_block = λ m there. subst (λ k. k < length blocks) (same_Some n m (sym at ∙ there)) inside;
    begins = λ first. subst (λ k. slice_get path k ≡ Some 0) first (at ∙ ap Some (is.0 so));
    leads = λ k from to next before there. absurd (omega (arith, zero_is, next));
  },
  λ entered. is.1 (same_Some n 0 (sym at ∙ subst (λ k. slice_get path k ≡ Some 0) (sym zero_is) (entered.begins zero_is))),
)

-- of another: the block before leads to it
pub next_entered : (blocks : List Block) (path : List ℕ) (index before from n : ℕ) → before + 1 ≡ index → slice_get path before ≡ Some from → slice_get path index ≡ Some n → n < length blocks → (b : Bool) → (b ≡ true) ↔ LeadsTo blocks from n → (b ≡ true) ↔ IsEntered blocks path index
next_entered blocks path index before from n next at there inside b is = (
  λ so. record {
    is_block = λ m here. subst (λ k. k < length blocks) (same_Some n m (sym there ∙ here)) inside;
    begins = λ first. absurd (omega (arith, first, next));
    leads = λ k o to follows was here. (
        let one : k ≡ before = omega (arith, follows, next) in
        let source : from ≡ o = same_Some from o (sym at ∙ ap (slice_get path) (sym one) ∙ was) in
        let target : n ≡ to = same_Some n to (sym there ∙ here) in
        subst (λ x. LeadsTo blocks x to) source (subst (LeadsTo blocks from) target (is.0 so)));
  },
  λ entered. is.1 (entered.leads before from n next at there),
)

-- no block is entered that is none
pub none_entered : (blocks : List Block) (path : List ℕ) (index n : ℕ) → slice_get path index ≡ Some n → length blocks ≤ n → IsEntered blocks path index → ⊥
none_entered blocks path index n at beyond entered = (let inside = entered.is_block n at in omega (arith, beyond, inside))

-- so far as one number more
pub one_more : (blocks : List Block) (path : List ℕ) (size : ℕ) → ((k : ℕ) → k < size → IsEntered blocks path k) → IsEntered blocks path size → (k : ℕ) → k < size + 1 → IsEntered blocks path k
one_more blocks path size before here k lt = elim (cases_lt k size) [
  | inl less ↦ before k less
  | inr past ↦ (let same : k ≡ size = omega (arith, lt, past) in subst (IsEntered blocks path) (sym same) here)
]

positive : (n : ℕ) → (n ≡ 0 → ⊥) → 0 < n
positive zero never = absurd (never refl)
positive (suc n) never = omega arith

-- a list that is not empty has a number
pub has_some : (w : Bool) (n : ℕ) → w ≡ (n == 0) → (not w ≡ true) ↔ (0 < n)
has_some true n q = (λ so. absurd (true≢false (sym so)), λ some. (let none = eqb-true n 0 (sym q) in absurd (omega (arith, some, none))))
has_some false n q = (λ so. positive n (λ none. true≢false (sym (q ∙ eq-eqb n 0 none))), λ some. refl)
