-- Activations that begin and activations that go on behind their calls, in the unit before and in the unit after.
use Rattle.std.proofs.Common.{◌≡◌, ℕ, ◌+◌, inl, inr, Bool, true, false, cond, Option, Some, None, List, [], ◌∷◌, length, refl, sym, ap, subst}
use Rattle.std.specs.Prelude.{slice_get, option_map, option_and_then}
use Rattle.event_runs.specs.Agreement.{Pairs}
use Rattle.graph_core.specs.declared.value.Value.{Value}
use Rattle.graph_core.specs.declared.value.Value.TheVariants.{Number, Pointer, Odd}
use Rattle.graph_core.specs.declared.instruction.Callee.{Callee}
use Rattle.graph_core.specs.Graphs.{Operand, Instruction, Call, End, Block, Graph, UnitForm}
use Rattle.graph_core.specs.Memory.{Memory}
use Rattle.graph_core.specs.Runs.{Activation, Configuration, Stepped, Wild, take_wanted, exited, returned, goes_if, bind_names, bind_objects, with_objects, new_activation, begun, enter}
use Rattle.pass_law.specs.Kept.{EachFunction}
use Rattle.copy_pass_rule.specs.Copying.{IsPropagated}
use Rattle.copy_pass_laws.proofs.Fits.{copied_graph, Fits, fits_passed, fits_written, fits_begun}
use Rattle.copy_pass_laws.proofs.Lists.{AtBoth, at_both, each_at}
use Rattle.copy_pass_laws.proofs.Related.{copied_activation, Waits, Related, DoesSame, many_waiting}

-- What a call's value goes to takes it in both.
pub goes_on : (memory : Memory) (input : List ℕ) (a : Activation) (blocks : List Block) (rest : List Instruction) (end : End) (w : Option ℕ) (f : Callee) (all : List Operand) (v : Value)
    → Fits a.graph blocks a.names (Call w f all ∷ rest) a.rest rest a.end end → (xs ys : List Activation) → Pairs Waits xs ys
    → Related (record { memory = memory; input = input; here = take_wanted w v a; waiting = xs }) (record { memory = memory; input = input; here = take_wanted w v (copied_activation a blocks rest end); waiting = ys })
goes_on memory input a blocks rest end None f all v fits xs ys waits = record {
  blocks = blocks;
  rest = rest;
  end = end;
  waiting = ys;
  is = refl;
  here = fits_passed a.graph blocks a.names (Call None f all) a.rest rest a.end end v refl fits;
  waits = waits;
}
goes_on memory input a blocks rest end (Some x) f all v fits xs ys waits = record {
  blocks = blocks;
  rest = rest;
  end = end;
  waiting = ys;
  is = refl;
  here = fits_written a.graph blocks a.names (Call (Some x) f all) a.rest rest a.end end x v refl (λ y q. cc) fits;
  waits = waits;
}

-- The program ends in both.
pub exited_same : (v : Value) → DoesSame (exited v) (exited v)
exited_same (Number w) = refl
exited_same (Pointer object size offset) = tt
exited_same Odd = tt

-- An activation is left in both.
pub returned_same : (memory : Memory) (input : List ℕ) (v : Value) (xs ys : List Activation) → Pairs Waits xs ys → DoesSame (returned memory input v xs) (returned memory input v ys)
returned_same memory input v [] [] waits = exited_same v
returned_same memory input v [] (b ∷ ys) waits = absurd waits
returned_same memory input v (a ∷ xs) [] waits = absurd waits
returned_same memory input v (a ∷ xs) (b ∷ ys) waits =
    let w = waits.0 in
    subst (λ z. Related (record { memory = memory; input = input; here = take_wanted a.wants v a; waiting = xs }) (record { memory = memory; input = input; here = take_wanted z.wants v z; waiting = ys })) (sym w.is)
    (goes_on memory input a w.blocks w.rest w.end a.wants w.callee w.operands v w.fits xs ys waits.1)

-- A function begins in both, or in neither.
abbrev pub BeginSame : Option Configuration → Option Configuration → Type 0
BeginSame None None = Unit {0}
BeginSame (Some c) (Some d) = Related c d
BeginSame _ _ = ⊥

pub goes_if_same : (o p : Option Configuration) → BeginSame o p → DoesSame (goes_if o) (goes_if p)
goes_if_same None None same = tt
goes_if_same None (Some d) same = absurd same
goes_if_same (Some c) None same = absurd same
goes_if_same (Some c) (Some d) same = same

-- A step that is wild in both, or does the same in both.
pub unless_same : (b : Bool) (p q : Stepped) → DoesSame p q → DoesSame (cond b Wild p) (cond b Wild q)
unless_same true p q same = tt
unless_same false p q same = same

module _ (memory : Memory) (input : List ℕ) (f : ℕ) (vs : List Value) (xs ys : List Activation) (waits : Pairs Waits xs ys) where
  -- a graph that has a first block
  begun_same : (g : Graph) (blocks : List Block) (b c : Block) → IsPropagated g (copied_graph g blocks) → slice_get g.blocks 0 ≡ Some b → slice_get blocks 0 ≡ Some c → Related (begun memory input f vs xs g b) (begun memory input f vs ys (copied_graph g blocks) c)
  begun_same g blocks b c made stood stands = record {
    blocks = blocks;
    rest = c.instructions;
    end = c.end;
    waiting = ys;
    is = ap (λ n. record { memory = bind_objects (length memory) g.parameters vs (with_objects (n + 1) g memory); input = input; here = new_activation f (copied_graph g blocks) c (length memory) vs; waiting = ys }) (many_waiting xs ys waits);
    here = fits_begun g blocks made (bind_names g.parameters vs (λ x. Odd)) b c stood stands;
    waits = waits;
  }

  -- what a graph begins with
  abbrev beginning : List Activation → Graph → Option Configuration
  beginning waiting g = option_map (begun memory input f vs waiting g) (slice_get g.blocks 0)

  graph_same : (g h : Graph) → IsPropagated g h → BeginSame (beginning xs g) (beginning ys h)
  graph_same g h made = subst (λ k. BeginSame (beginning xs g) (beginning ys k)) (sym made.rest) (by_first (at_both g.blocks h.blocks 0 made.count))
    where
      here : IsPropagated g (copied_graph g h.blocks)
      here = subst (λ k. IsPropagated g k) made.rest made

      by_first : AtBoth (λ x y. Unit {0}) g.blocks h.blocks 0 → BeginSame (beginning xs g) (beginning ys (copied_graph g h.blocks))
      by_first (inl none) =
          subst (λ o. BeginSame (option_map (begun memory input f vs xs g) o) (beginning ys (copied_graph g h.blocks))) (sym none.0)
          (subst (λ o. BeginSame None (option_map (begun memory input f vs ys (copied_graph g h.blocks)) o)) (sym none.1) tt)
      by_first (inr some) =
          subst (λ o. BeginSame (option_map (begun memory input f vs xs g) o) (beginning ys (copied_graph g h.blocks))) (sym some.2)
          (subst (λ o. BeginSame (Some (begun memory input f vs xs g some.0)) (option_map (begun memory input f vs ys (copied_graph g h.blocks)) o)) (sym some.3) (begun_same g h.blocks some.0 some.1 here some.2 some.3))

  -- A function of the units begins in both, or in neither.
  pub enter_same : (u v : UnitForm) → EachFunction IsPropagated u.graphs v.graphs → BeginSame (enter u memory input f vs xs) (enter v memory input f vs ys)
  enter_same u v all = by_function (each_at IsPropagated u.graphs v.graphs f all)
    where
      by_function : AtBoth IsPropagated u.graphs v.graphs f → BeginSame (enter u memory input f vs xs) (enter v memory input f vs ys)
      by_function (inl none) =
          subst (λ o. BeginSame (option_and_then (beginning xs) o) (enter v memory input f vs ys)) (sym none.0)
          (subst (λ o. BeginSame None (option_and_then (beginning ys) o)) (sym none.1) tt)
      by_function (inr some) =
          subst (λ o. BeginSame (option_and_then (beginning xs) o) (enter v memory input f vs ys)) (sym some.2)
          (subst (λ o. BeginSame (beginning xs some.0) (option_and_then (beginning ys) o)) (sym some.3) (graph_same some.0 some.1 some.4))
