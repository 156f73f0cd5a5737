-- Functions, one after the other.
use Rattle.std.proofs.Common.{◌≡◌, ℕ, zero, suc, ◌+◌, ◌<◌, ◌≤◌, List, [], ◌∷◌, ◌++◌, length, drop, Option, Some, None, refl, sym, ap, ◌∙◌, subst, arith, append_assoc}
use Rattle.std.specs.Prelude.{slice_get}
use Rattle.std.specs.List.{AllByRecursion}
use Rattle.std.proofs.lemmas.List.{append-nil, drop_all}
use Rattle.std.proofs.lemmas.Option.{none-some, same_Some}
use Rattle.memory_map.specs.declared.map.Room.{Room}
use Rattle.graph_core.proofs.Rooms.{instructions_in, blocks_in}
use Rattle.graph_core.specs.Computations.{Computation, computed_by}
use Rattle.graph_core.specs.Graphs.{Block, Graph, Instruction, Operate, Truncate, Same, Operand, Name, Constant, StaticAddress, UnitForm}
use Rattle.graph_core.specs.Uses.{names_of}
use Rattle.graph_core.specs.Paths.{Among, front, behind}
use Rattle.graph_core.specs.Validity.{IsBlock, IsGraph, IsInstruction, IsKept, IsOperand, IsValid, place_at_end, total}
use Rattle.pass_law.specs.declared.cases.Case.{Case}
use Rattle.pass_law.specs.Changes.{Below, IsCaseOf}
use Rattle.pass_law.specs.Kept.{EachFunction, KeepsFunction}
use Rattle.pass_law.proofs.Adding.{all_same}
use Rattle.pass_law.proofs.OfFunctions.{AreCasesBelow}
use Rattle.motion_pass_problems.proofs.Inner.{drop_at}
use Rattle.base_laws.proofs.Lists.{all_weaker, both_all}
use Rattle.motion_pass_points.specs.MotionPointsComputing.{computed_along, with_some}
use Rattle.motion_pass_points.specs.Named.{AreNamed}
use Rattle.motion_pass_points.proofs.Numbering.{snoc_old}
use Rattle.motion_pass_placement.proofs.Rows.{got_below}
use Rattle.motion_pass_placement.specs.Bounded.{IsBounded}
use Rattle.motion_pass_placement.specs.Moves.{BecomesIn, moves, passes_a_bound, is_entered_again, BecomeIn, no_function, one_function}
use Rattle.motion_pass.specs.declared.bounds.Amount.{Amount}
use Rattle.motion_pass.specs.Amounts.{AreBounded, IsAmount}

-- what several have together
pub total_parts : {A : Type 0} (count : A → ℕ) (xs ys : List A) → total count (xs ++ ys) ≡ total count xs + total count ys
total_parts count [] ys = omega arith
total_parts count (x ∷ xs) ys = (let rest = total_parts count xs ys in omega (arith, rest))

pub one_of_total : {A : Type 0} (count : A → ℕ) (xs : List A) (n : ℕ) (x : A) → slice_get xs n ≡ Some x → count x ≤ total count xs
one_of_total count [] n x at = absurd (none-some x at)
one_of_total count (y ∷ xs) zero x at = (let same = ap count (same_Some y x at) in omega (arith, same))
one_of_total count (y ∷ xs) (suc n) x at = (let rest = one_of_total count xs n x at in omega (arith, rest))

module _ (room : Room) (gs : List Graph) where
  -- What became of the first functions; with what becomes of the others behind it, it is what becomes of all.
  pub data IsAhead (k : ℕ) (hs : List Graph) : Type 0 where
    goes_on : ((later : List Graph) → BecomeIn room hs (drop k gs) later → BecomeIn room [] gs (hs ++ later)) → IsAhead k hs

  pub ahead_none : IsAhead 0 []
  ahead_none = goes_on (λ later are. are)

  pub ahead_one : (k : ℕ) (g h : Graph) (hs longer : List Graph) → slice_get gs k ≡ Some g → BecomesIn room hs g (drop (k + 1) gs) h → longer ≡ hs ++ h ∷ [] → IsAhead k hs → IsAhead (k + 1) longer
  ahead_one k g h hs longer at becomes grown (goes_on go) =
      goes_on (λ later rest.
      (let P : List Graph → Type 0 = λ l. BecomeIn room [] gs l in
      let parts : longer ++ later ≡ hs ++ h ∷ later = ap (λ l. l ++ later) grown ∙ append_assoc hs (h ∷ []) later in
      let far : BecomeIn room (hs ++ h ∷ []) (drop (k + 1) gs) later = subst (λ b. BecomeIn room b (drop (k + 1) gs) later) grown rest in
      subst P (sym parts) (go (h ∷ later) (subst (λ xs. BecomeIn room hs xs (h ∷ later)) (sym (drop_at gs k g at)) (one_function becomes far)))))

  pub ahead_all : (k : ℕ) (hs : List Graph) → length gs ≤ k → IsAhead k hs → BecomeIn room [] gs hs
  ahead_all k hs le (goes_on go) =
      let P : List Graph → Type 0 = λ l. BecomeIn room [] gs l in
      subst P (append-nil hs) (go [] (subst (λ xs. BecomeIn room hs xs []) (sym (drop_all k gs le)) no_function))

module _ (gs : List Graph) where
  module _ (k : ℕ) (g : Graph) (at : slice_get gs k ≡ Some g) where
    -- how much there is, at a function
    pub amount_at : (a : Amount) (hs : List Graph) → IsAmount a (hs ++ drop k gs) → IsAmount a (hs ++ g ∷ drop (k + 1) gs)
    amount_at a hs is = subst (λ xs. IsAmount a (hs ++ xs)) (drop_at gs k g at) is

    pub amount_behind : (a : Amount) (h : Graph) (hs longer : List Graph) → longer ≡ hs ++ h ∷ [] → IsAmount a (hs ++ h ∷ drop (k + 1) gs) → IsAmount a (longer ++ drop (k + 1) gs)
    amount_behind a h hs longer grown is =
        let parts : longer ++ drop (k + 1) gs ≡ hs ++ h ∷ drop (k + 1) gs = ap (λ l. l ++ drop (k + 1) gs) grown ∙ append_assoc hs (h ∷ []) (drop (k + 1) gs) in
        subst (λ xs. IsAmount a xs) (sym parts) is

-- the cases so far are the same with one function more
module _ (IsCase : (before after : Graph) → Case → Type 0) (gs hs longer : List Graph) (h : Graph) (k : ℕ) (grown : longer ≡ hs ++ h ∷ []) (count : length hs ≡ k) where
  abbrev number_of : ℕ × Case → ℕ
  number_of c = c.0

  to_longer : (c : ℕ × Case) → Below (IsCaseOf IsCase gs hs) number_of k c → Below (IsCaseOf IsCase gs longer) number_of k c
  to_longer c is = (
    record { before = is.0.before; after = is.0.after; stood = is.0.stood; stands = ap (λ l. slice_get l c.0) grown ∙ snoc_old hs (h ∷ []) c.0 is.0.after is.0.stands; case = is.0.case },
    is.1,
  )

  from_longer : (c : ℕ × Case) → Below (IsCaseOf IsCase gs longer) number_of k c → Below (IsCaseOf IsCase gs hs) number_of k c
  from_longer c is = (
    record { before = is.0.before; after = is.0.after; stood = is.0.stood; stands = sym (got_below hs h c.0 (omega (arith, is.1, count))) ∙ sym (ap (λ l. slice_get l c.0) grown) ∙ is.0.stands; case = is.0.case },
    is.1,
  )

  pub cases_longer : (cases : List Case) → AreCasesBelow IsCase gs hs k cases → AreCasesBelow IsCase gs longer k cases
  cases_longer cases are = record { of = are.of; all = all_same (Below (IsCaseOf IsCase gs hs) number_of k) (Below (IsCaseOf IsCase gs longer) number_of k) are.of to_longer from_longer are.all; are = are.are }

keeps_itself : (g : Graph) → KeepsFunction g g
keeps_itself g = record { entry = refl; parameters = refl; scalars = refl; objects = refl; first_moved = refl }

becomes_keeps : {room : Room} {before behind : List Graph} {g h : Graph} → BecomesIn room before g behind h → KeepsFunction g h
becomes_keeps (moves once moved within) = moved.keeps
becomes_keeps {g} (passes_a_bound once moved beyond) = keeps_itself g
becomes_keeps {g} (is_entered_again again) = keeps_itself g

-- each function keeps what it has
pub each_keeps : {room : Room} {before gs hs : List Graph} → BecomeIn room before gs hs → EachFunction KeepsFunction gs hs
each_keeps no_function = tt
each_keeps (one_function becomes more) = (becomes_keeps becomes, each_keeps more)

all_at : {A : Type 0} (P : A → Type 0) (xs : List A) (n : ℕ) (x : A) → slice_get xs n ≡ Some x → AllByRecursion P xs → P x
all_at P [] n x at all = absurd (none-some x at)
all_at P (y ∷ xs) zero x at all = subst P (same_Some y x at) all.0
all_at P (y ∷ xs) (suc n) x at all = all_at P xs n x at all.1

all_among : {A : Type 0} (P : A → Type 0) {x : A} {xs : List A} → Among x xs → AllByRecursion P xs → P x
all_among P front all = all.0
all_among P (behind among) all = all_among P among all.1

kept_there : (place : Option ℕ) (o : Option Block) → IsKept place o → (c : Block) × (o ≡ Some c)
kept_there place None kept = absurd kept
kept_there place (Some c) kept = (c, refl)

-- an operand of a graph is a name of it
operand_named : (u : UnitForm) (g : Graph) (a : Operand) → IsOperand u.statics g a → AllByRecursion (λ y. y < g.name_count) (names_of a)
operand_named u g (Name x) is = (is, tt)
operand_named u g (Constant w) is = tt
operand_named u g (StaticAddress object offset) is = tt

-- an instruction computes of names of its graph
made_named : (u : UnitForm) (g : Graph) (i : Instruction) (more : List Computation) → IsInstruction u g i → AreNamed g.name_count more → AreNamed g.name_count (with_some (computed_by i) more)
made_named u g (Operate x o a b) more is rest = (both_all (λ y. y < g.name_count) (names_of a) (names_of b) (operand_named u g a is.1) (operand_named u g b is.2), rest)
made_named u g (Truncate x t a) more is rest = (operand_named u g a is.1, rest)
made_named u g (Same x a b) more is rest = (both_all (λ y. y < g.name_count) (names_of a) (names_of b) (operand_named u g a is.1) (operand_named u g b is.2), rest)
made_named u g _ more is rest = rest

all_named : (u : UnitForm) (g : Graph) (all : List Instruction) → AllByRecursion (IsInstruction u g) all → AreNamed g.name_count (computed_along all)
all_named u g [] are = tt
all_named u g (i ∷ rest) are = made_named u g i (computed_along rest) are.0 (all_named u g rest are.1)

-- a graph of a valid unit is within the bounds of a function
graph_bounded : (u : UnitForm) → IsValid u → (n : ℕ) (g : Graph) → slice_get u.graphs n ≡ Some g → IsBounded g
graph_bounded u valid n g at =
    let graph = all_at (IsGraph u) u.graphs n g at valid.graphs in
    record {
      blocks = (let one = one_of_total (λ (f : Graph). length f.blocks) u.graphs n g at in let all = valid.blocks in omega (arith, one, all, blocks_in u.room));
      instructions = graph.instructions;
      names = graph.names;
      named = all_weaker (IsBlock u g) (λ (b : Block). AreNamed g.name_count (computed_along b.instructions)) g.blocks (λ b is. all_named u g b.instructions is.instructions) graph.blocks;
    }

-- the graphs of a valid unit
pub bounded : (u : UnitForm) → IsValid u → AreBounded u.graphs
bounded u valid = record {
  instructions = (let few = valid.instructions in omega (arith, few, instructions_in u.room));
  blocks = (let few = valid.blocks in omega (arith, few, blocks_in u.room));
  each = graph_bounded u valid;
  inside = λ n g at m b here l among.
      (let graph = all_at (IsGraph u) u.graphs n g at valid.graphs in
      let block = all_at (IsBlock u g) g.blocks m b here graph.blocks in
      kept_there (place_at_end b) (slice_get g.blocks l) (all_among (λ k. IsKept (place_at_end b) (slice_get g.blocks k)) among block.edges));
}
