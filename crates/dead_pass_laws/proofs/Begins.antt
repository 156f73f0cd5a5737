-- Activations that begin and activations that go on behind their calls, in the unit before and in the unit after.
use Rattle.std.proofs.Common.{◌≡◌, ℕ, ◌+◌, inl, inr, Bool, true, false, cond, Option, Some, None, List, [], ◌∷◌, length, sym, ap, ◌∙◌, subst}
use Rattle.std.specs.Prelude.{slice_get, option_map, option_and_then}
use Rattle.event_runs.specs.Agreement.{Pairs}
use Rattle.graph_core.specs.declared.value.Value.{Value}
use Rattle.graph_core.specs.declared.value.Value.TheVariants.{Number, Pointer, Odd}
use Rattle.graph_core.specs.declared.value.Shadow.TheVariants as shadow
use Rattle.graph_core.specs.Graphs.{Block, Graph, Logged, UnitForm}
use Rattle.graph_core.specs.Memory.{Memory}
use Rattle.graph_core.specs.Runs.{Activation, Configuration, Stepped, Wild, take_wanted, exited, returned, goes_if, bind_names, bind_objects, with_objects, new_activation, begun, enter}
use Rattle.pass_law.specs.Kept.{EachFunction}
use Rattle.dead_pass_rule.specs.Removing.{IsReducedBlock}
use Rattle.pass_law.specs.Keeps.{stays, exited as same_exited}
use Rattle.dead_pass_notes.specs.Said.{AreSaid}
use Rattle.dead_pass_laws.proofs.Came.{reduced_graph, IsTaken, came_first}
use Rattle.dead_pass_laws.proofs.Lists.{AtBoth, at_both, each_at}
use Rattle.dead_pass_laws.proofs.Related.{Waits, Related, DoesSame, many_waiting, goes_on}

-- A function before, and what was made of it: it has these blocks now, and all is known of it.
pub record IsMade (u : UnitForm) (log : List Logged) (g h : Graph) : Type 0 where
  pub is : h ≡ reduced_graph g h.blocks
  pub taken : IsTaken u log g h.blocks

module _ (u : UnitForm) (log : List Logged) where
  -- The program ends in both.
  pub exited_same : (v : Value) → DoesSame u log (exited v) (exited v)
  exited_same (Number w) = same_exited
  exited_same (Pointer object size offset) = tt
  exited_same Odd = tt

  -- An activation is left in both.
  pub returned_same : (memory : Memory) (input : List ℕ) (v : Value) (xs ys : List Activation) → Pairs (Waits u log) xs ys → DoesSame u log (returned memory input v xs) (returned memory input v ys)
  returned_same memory input v [] [] waits = exited_same v
  returned_same memory input v [] (b ∷ ys) waits = absurd waits
  returned_same memory input v (a ∷ xs) [] waits = absurd waits
  returned_same memory input v (a ∷ xs) (b ∷ ys) waits =
      let w = waits.0 in
      subst (λ z. Related u log (record { memory = memory; input = input; here = take_wanted a.wants v a; waiting = xs }) (record { memory = memory; input = input; here = take_wanted z.wants v z; waiting = ys })) (sym w.is)
      (goes_on u log memory input a w.blocks w.others w.shadows w.rest w.wants a.wants w.wants v (w.resumes v) w.still xs ys waits.1)

  -- A function begins in both, or in neither.
  abbrev pub BeginSame : Option Configuration → Option Configuration → Type 0
  BeginSame None None = Unit {0}
  BeginSame (Some c) (Some d) = Related u log c d
  BeginSame _ _ = ⊥

  -- So the step to it goes on in both, or is wild.
  pub goes_if_same : (o p : Option Configuration) → BeginSame o p → DoesSame u log (goes_if o) (goes_if p)
  goes_if_same None None same = tt
  goes_if_same None (Some d) same = absurd same
  goes_if_same (Some c) None same = absurd same
  goes_if_same (Some c) (Some d) same = same

  -- A step that is wild in both, or does the same in both.
  pub unless_same : (b : Bool) (p q : Stepped) → DoesSame u log p q → DoesSame u log (cond b Wild p) (cond b Wild q)
  unless_same true p q same = tt
  unless_same false p q same = same

  -- What is left of a block to which control goes, and its end.
  pub block_said : (g : Graph) (blocks : List Block) (n : ℕ) (b c : Block) → IsTaken u log g blocks → slice_get g.blocks n ≡ Some b → slice_get blocks n ≡ Some c → AreSaid u.assignments log g n b.end b.instructions c.instructions
  block_said g blocks n b c taken stood stands = taken.said.notes n b c stood stands

  -- and its end
  pub block_ends : (g : Graph) (blocks : List Block) (n : ℕ) (b c : Block) → IsTaken u log g blocks → slice_get g.blocks n ≡ Some b → slice_get blocks n ≡ Some c → c.end ≡ b.end
  block_ends g blocks n b c taken stood stands = (let one : IsReducedBlock u.assignments g n b c = taken.reduced.blocks n b c stood stands in one.end)

  module _ (memory : Memory) (input : List ℕ) (f : ℕ) (vs : List Value) (xs ys : List Activation) (waits : Pairs (Waits u log) xs ys) where
    -- a graph that has a first block
    begun_same : (g : Graph) (blocks : List Block) (b c : Block) → IsTaken u log g blocks → slice_get g.blocks 0 ≡ Some b → slice_get blocks 0 ≡ Some c → Related u log (begun memory input f vs xs g b) (begun memory input f vs ys (reduced_graph g blocks) c)
    begun_same g blocks b c taken stood stands = record {
      blocks = blocks;
      others = bind_names g.parameters vs (λ x. Odd);
      shadows = λ x. shadow.Gone;
      rest = c.instructions;
      wants = None;
      waiting = ys;
      is = ap (λ n. record { memory = bind_objects (length memory) g.parameters vs (with_objects (n + 1) g memory); input = input; here = new_activation f (reduced_graph g blocks) c (length memory) vs; waiting = ys }) (many_waiting u log xs ys waits)
          ∙ ap (λ e. record { memory = bind_objects (length memory) g.parameters vs (with_objects (length xs + 1) g memory); input = input; here = new_activation f (reduced_graph g blocks) (record c { end = e }) (length memory) vs; waiting = ys }) (block_ends g blocks 0 b c taken stood stands);
      here = record { block = 0; came = came_first u log g blocks (bind_names g.parameters vs (λ x. Odd)) b taken stood; said = block_said g blocks 0 b c taken stood stands };
      still = λ x. stays;
      waits = waits;
    }

    -- what a graph begins with
    abbrev beginning : List Activation → Graph → Option Configuration
    beginning waiting g = option_map (begun memory input f vs waiting g) (slice_get g.blocks 0)

    -- a graph begins in both, or in neither
    graph_same : (g h : Graph) → IsMade u log g h → BeginSame (beginning xs g) (beginning ys h)
    graph_same g h made = subst (λ k. BeginSame (beginning xs g) (beginning ys k)) (sym made.is) (by_first (at_both g.blocks h.blocks 0 made.taken.reduced.count))
      where
        by_first : AtBoth (λ x y. Unit {0}) g.blocks h.blocks 0 → BeginSame (beginning xs g) (beginning ys (reduced_graph g h.blocks))
        by_first (inl none) =
            subst (λ o. BeginSame (option_map (begun memory input f vs xs g) o) (beginning ys (reduced_graph g h.blocks))) (sym none.0)
            (subst (λ o. BeginSame None (option_map (begun memory input f vs ys (reduced_graph g h.blocks)) o)) (sym none.1) tt)
        by_first (inr some) =
            subst (λ o. BeginSame (option_map (begun memory input f vs xs g) o) (beginning ys (reduced_graph g h.blocks))) (sym some.2)
            (subst (λ o. BeginSame (Some (begun memory input f vs xs g some.0)) (option_map (begun memory input f vs ys (reduced_graph g h.blocks)) o)) (sym some.3) (begun_same g h.blocks some.0 some.1 made.taken some.2 some.3))

    -- A function of the units begins in both, or in neither.
    pub enter_same : (v : UnitForm) → EachFunction (IsMade u log) u.graphs v.graphs → BeginSame (enter u memory input f vs xs) (enter v memory input f vs ys)
    enter_same v all = by_function (each_at (IsMade u log) u.graphs v.graphs f all)
      where
        by_function : AtBoth (IsMade u log) u.graphs v.graphs f → BeginSame (enter u memory input f vs xs) (enter v memory input f vs ys)
        by_function (inl none) =
            subst (λ o. BeginSame (option_and_then (beginning xs) o) (enter v memory input f vs ys)) (sym none.0)
            (subst (λ o. BeginSame None (option_and_then (beginning ys) o)) (sym none.1) tt)
        by_function (inr some) =
            subst (λ o. BeginSame (option_and_then (beginning xs) o) (enter v memory input f vs ys)) (sym some.2)
            (subst (λ o. BeginSame (beginning xs some.0) (option_and_then (beginning ys) o)) (sym some.3) (graph_same some.0 some.1 some.4))
