-- Activations that begin and activations that go on behind their calls, in the unit before and in the unit after.
use Rattle.std.proofs.Common.{◌≡◌, ℕ, zero, suc, ◌+◌, ◌⊎◌, inl, inr, Bool, true, false, cond, Option, Some, None, List, [], ◌∷◌, ◌++◌, length, refl, sym, ap, subst}
use Rattle.std.specs.Prelude.{slice_get, option_map, option_and_then}
use Rattle.memory_map.specs.declared.map.Room.{Room}
use Rattle.graph_core.specs.declared.value.Value.{Value}
use Rattle.graph_core.specs.declared.value.Value.TheVariants.{Number, Pointer, Odd}
use Rattle.graph_core.specs.Graphs.{Instruction, End, Block, Graph, UnitForm}
use Rattle.graph_core.specs.Memory.{Memory, is_live, ended_from}
use Rattle.graph_core.specs.Validity.{IsBlock, IsGraph, IsValid}
use Rattle.graph_core.specs.Runs.{Activation, Configuration, Stepped, Wild, take_wanted, exited, returned, goes_if, bind_names, bind_objects, with_objects, new_activation, begun, enter}
use Rattle.motion_pass_points.specs.Ways.{begins}
use Rattle.motion_pass_placement.specs.Moves.{AreAllMoved, BecomesIn, moves, passes_a_bound, is_entered_again, BecomeIn, no_function, one_function}
use Rattle.motion_pass_placement.specs.Moving.{IsMoved}
use Rattle.std.proofs.lemmas.Option.{none-some, same_Some}
use Rattle.motion_pass_laws.proofs.Carried.{all_at}
use Rattle.motion_pass_laws.proofs.Fits.{Fits, left, moved, moved_to, at_block, GoesOn}
use Rattle.motion_pass_laws.proofs.Lives.{left_lives}
use Rattle.motion_pass_laws.proofs.Quiet.{moved_graph, moved_activation}
use Rattle.motion_pass_laws.proofs.Ready.{ready_first}
use Rattle.motion_pass_laws.proofs.Related.{Waits, AreWaiting, Related, comes_now, DoesSame}

-- What became of a function: it was left as it was, or its code was moved.
pub record IsMade (hs : List Graph) (f : ℕ) (g : Graph) : Type 0 where
  pub graph : Graph
  pub stands : slice_get hs f ≡ Some graph
  pub made : (graph ≡ g) ⊎ IsMoved g graph

-- one function
made_in : {room : Room} (before : List Graph) (g : Graph) (behind : List Graph) (h : Graph) → BecomesIn room before g behind h → (h ≡ g) ⊎ IsMoved g h
made_in before g behind _ (moves once is within_bounds) = inr is
made_in before g behind _ (passes_a_bound once is beyond) = inl refl
made_in before g behind _ (is_entered_again again) = inl refl

-- So it is with each.
pub all_made : {room : Room} (before gs hs : List Graph) → BecomeIn room before gs hs → (f : ℕ) (g : Graph) → slice_get gs f ≡ Some g → IsMade hs f g
all_made before _ _ no_function f g at = absurd (none-some g at)
all_made before _ _ (one_function {gs = gs} {hs} {g} {h} is more) zero k at = record { graph = h; stands = refl; made = subst (λ z. (h ≡ z) ⊎ IsMoved z h) (same_Some g k at) (made_in before g gs h is) }
all_made before _ _ (one_function {gs = gs} {hs} {g} {h} is more) (suc f) k at = (let one = all_made (before ++ h ∷ []) gs hs more f k at in record { graph = one.graph; stands = one.stands; made = one.made })

module _ (u v : UnitForm) where
  -- What a call's value goes to takes it in both.
  pub goes_on : (memory : Memory) (input : List ℕ) (a : Activation) (count : ℕ) (blocks : List Block) (others : ℕ → Value) (rest : List Instruction) (end : End) (w : Option ℕ) (value : Value)
      → GoesOn u a.graph count blocks (is_live memory) a.names others w a.rest rest a.end end → (xs ys : List Activation) → AreWaiting u a.first_object (is_live memory) xs ys
      → Related u (record { memory = memory; input = input; here = take_wanted w value a; waiting = xs }) (record { memory = memory; input = input; here = take_wanted w value (moved_activation a count blocks others rest end); waiting = ys })
  goes_on memory input a count blocks others rest end None value on xs ys waits =
      record { count = count; blocks = blocks; others = others; rest = rest; end = end; waiting = ys; is = refl; here = on.passed refl; waits = waits }
  goes_on memory input a count blocks others rest end (Some x) value on xs ys waits =
      record { count = count; blocks = blocks; others = _; rest = rest; end = end; waiting = ys; is = refl; here = on.written x value refl; waits = waits }

  -- The program ends in both.
  pub exited_same : (value : Value) → DoesSame u v (exited value) (exited value)
  exited_same (Number w) = refl
  exited_same (Pointer object size offset) = tt
  exited_same Odd = tt

  -- An activation is left in both.
  pub returned_same : (first : ℕ) (memory : Memory) (input : List ℕ) (value : Value) (xs ys : List Activation) → AreWaiting u first (is_live memory) xs ys
      → DoesSame u v (returned (ended_from first memory) input value xs) (returned (ended_from first memory) input value ys)
  returned_same first memory input value [] [] waits = exited_same value
  returned_same first memory input value [] (b ∷ ys) waits = absurd waits
  returned_same first memory input value (a ∷ xs) [] waits = absurd waits
  returned_same first memory input value (a ∷ xs) (b ∷ ys) waits = comes_now u v before (after b) (subst (λ z. Related u before (after z)) (sym w.is) related)
    where
      w : Waits u a b
      w = waits.0

      now : Memory
      now = ended_from first memory

      before : Configuration
      before = record { memory = now; input = input; here = take_wanted a.wants value a; waiting = xs }

      after : Activation → Configuration
      after z = record { memory = now; input = input; here = take_wanted z.wants value z; waiting = ys }

      live : w.live ≡ is_live now
      live = left_lives first memory w.live waits.1

      related : Related u before (after (moved_activation a w.count w.blocks w.others w.rest w.end))
      related = goes_on now input a w.count w.blocks w.others w.rest w.end a.wants value
          (subst (λ l. GoesOn u a.graph w.count w.blocks l a.names w.others a.wants a.rest w.rest a.end w.end) live w.on) xs ys
          (subst (λ l. AreWaiting u a.first_object l xs ys) live waits.2)

  -- A function begins in both, unless it begins not in the first.
  abbrev pub BeginSame : Option Configuration → Option Configuration → Type 0
  BeginSame None q = Unit {0}
  BeginSame (Some c) (Some d) = Related u c d
  BeginSame (Some c) None = ⊥

  -- Then the run goes there in both.
  pub goes_if_same : (o p : Option Configuration) → BeginSame o p → DoesSame u v (goes_if o) (goes_if p)
  goes_if_same None p same = tt
  goes_if_same (Some c) None same = absurd same
  goes_if_same (Some c) (Some d) same = comes_now u v c d same

  -- A step that is wild in both, or does the same in both.
  pub unless_same : (b : Bool) (p q : Stepped) → DoesSame u v p q → DoesSame u v (cond b Wild p) (cond b Wild q)
  unless_same true p q same = tt
  unless_same false p q same = same

  module _ (memory : Memory) (input : List ℕ) (f : ℕ) (vs : List Value) (xs ys : List Activation) where
    -- the memory in which a function begins
    abbrev pub memory_of : Graph → Memory
    memory_of g = bind_objects (length memory) g.parameters vs (with_objects (length xs + 1) g memory)

    module _ (g : Graph) (valid : IsGraph u g) (many : length ys ≡ length xs) (waits : AreWaiting u (length memory) (is_live (memory_of g)) xs ys) where
      -- the names that an activation has as it begins
      abbrev first_names : ℕ → Value
      first_names = bind_names g.parameters vs (λ x. Odd)

      -- a graph that has a first block
      begun_same : (count : ℕ) (blocks : List Block) (b c : Block) → Fits u g count blocks (is_live (memory_of g)) first_names first_names b.instructions c.instructions b.end c.end
          → Related u (begun memory input f vs xs g b) (begun memory input f vs ys (moved_graph g count blocks) c)
      begun_same count blocks b c fits = record {
        count = count;
        blocks = blocks;
        others = first_names;
        rest = c.instructions;
        end = c.end;
        waiting = ys;
        is = ap (λ n. record { memory = bind_objects (length memory) g.parameters vs (with_objects (n + 1) g memory); input = input; here = new_activation f (moved_graph g count blocks) c (length memory) vs; waiting = ys }) many;
        here = fits;
        waits = waits;
      }

      -- what a graph begins with
      abbrev beginning : List Activation → Graph → Option Configuration
      beginning waiting h = option_map (begun memory input f vs waiting h) (slice_get h.blocks 0)

      -- A function that was left.
      left_begins : BeginSame (beginning xs g) (beginning ys g)
      left_begins = by_first (slice_get g.blocks 0) refl
        where
          by_first : (o : Option Block) → slice_get g.blocks 0 ≡ o → BeginSame (option_map (begun memory input f vs xs g) o) (option_map (begun memory input f vs ys g) o)
          by_first None at = tt
          by_first (Some b) at = (let block : IsBlock u g b = all_at (IsBlock u g) g.blocks 0 b valid.blocks at in begun_same g.name_count g.blocks b b (left valid block.instructions block.operands))

      -- One whose code was moved.
      moved_begins : (h : Graph) → IsMoved g h → BeginSame (beginning xs g) (beginning ys h)
      moved_begins h is = subst (λ k. BeginSame (beginning xs g) (beginning ys k)) (sym graph_is) (by_first (slice_get g.blocks 0) refl)
        where
          graph_is : h ≡ moved_graph g h.name_count h.blocks
          graph_is = λ i. record {
            entry = is.keeps.entry i;
            parameters = is.keeps.parameters i;
            scalars = is.keeps.scalars i;
            objects = is.keeps.objects i;
            name_count = h.name_count;
            first_moved = is.keeps.first_moved i;
            blocks = h.blocks;
          }

          made : IsMoved g (moved_graph g h.name_count h.blocks)
          made = subst (λ k. IsMoved g k) graph_is is

          by_first : (o : Option Block) → slice_get g.blocks 0 ≡ o → BeginSame (option_map (begun memory input f vs xs g) o) (beginning ys (moved_graph g h.name_count h.blocks))
          by_first None at = tt
          by_first (Some b) at =
              let to = moved_to u g h.name_count h.blocks made 0 b at in
              subst (λ o. BeginSame (Some (begun memory input f vs xs g b)) (option_map (begun memory input f vs ys (moved_graph g h.name_count h.blocks)) o)) (sym to.stands)
              (begun_same h.name_count h.blocks b to.block (moved (at_block u g h.name_count h.blocks made valid (is_live (memory_of g)) first_names first_names 0 b (begins b at)
              (record { agree = λ x less. refl; ready = λ k e treated ready. absurd (ready_first g.blocks e b at ready) }) to)))

      -- A function begins in both.
      graph_begins : (h : Graph) → (h ≡ g) ⊎ IsMoved g h → BeginSame (beginning xs g) (beginning ys h)
      graph_begins h (inl same) = subst (λ k. BeginSame (beginning xs g) (beginning ys k)) (sym same) left_begins
      graph_begins h (inr is) = moved_begins h is

    -- A function of the units begins in both, or not in the first.
    pub enter_same : IsValid u → AreAllMoved u.room u.graphs v.graphs → length ys ≡ length xs → ((g : Graph) → AreWaiting u (length memory) (is_live (memory_of g)) xs ys)
        → BeginSame (enter u memory input f vs xs) (enter v memory input f vs ys)
    enter_same valid all many waits = by_function (slice_get u.graphs f) refl
      where
        starts : List Activation → Graph → Option Configuration
        starts waiting h = option_map (begun memory input f vs waiting h) (slice_get h.blocks 0)

        by_function : (o : Option Graph) → slice_get u.graphs f ≡ o → BeginSame (option_and_then (starts xs) o) (enter v memory input f vs ys)
        by_function None at = tt
        by_function (Some g) at =
            let one = all_made [] u.graphs v.graphs all f g at in
            subst (λ o. BeginSame (starts xs g) (option_and_then (starts ys) o)) (sym one.stands)
            (graph_begins g (all_at (IsGraph u) u.graphs f g valid.graphs at) many (waits g) one.graph one.made)
