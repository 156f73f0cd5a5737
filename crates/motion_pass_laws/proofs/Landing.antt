-- Where control comes from the end of a block, over what is done on the edges.
use Rattle.std.proofs.Common.{◌≡◌, ℕ, ◌+◌, ◌<◌, Option, Some, List, [], ◌∷◌, ◌++◌, length, refl, sym, ap, ◌∙◌, subst, arith}
use Rattle.std.specs.Prelude.{slice_get}
use Rattle.std.proofs.lemmas.List.{append-nil}
use Rattle.graph_core.specs.declared.value.Value.{Value}
use Rattle.graph_core.specs.declared.block.Comparison.{Comparison}
use Rattle.graph_core.specs.Graphs.{Operand, Instruction, End, Jump, Branch, Return, Block, UnitForm}
use Rattle.graph_core.specs.Uses.{targets_of}
use Rattle.graph_core.specs.Paths.{Among, front, behind}
use Rattle.graph_core.specs.Memory.{is_live}
use Rattle.graph_core.specs.Validity.{AreOperandsOfEnd, IsBlock, IsGraph}
use Rattle.graph_core.specs.Runs.{Activation, Configuration, entered}
use Rattle.motion_pass_points.specs.Ways.{within, along, leaves, enters, IsCome, goes}
use Rattle.motion_pass_placement.specs.Moving.{AreDoneAt, AreMoved, no_more, IsLed, directly, by_own, IsEnd, returns, jumps, branches, IsMoved}
use Rattle.motion_pass_laws.proofs.Ready.{end_inserted}
use Rattle.motion_pass_laws.proofs.Quiet.{moved_graph, after_of, moved_configuration, standing_in, IsQuiet, quiet_none, quiet_step, quiet_and}
use Rattle.motion_pass_laws.proofs.Carried.{all_at, AreCarried, AreHeld, held_there, held_behind, carried_on, valid_at}
use Rattle.motion_pass_laws.proofs.Settling.{IsSettling, settles}
use Rattle.motion_pass_laws.proofs.Blocks.{at_left, at_right}
use Rattle.motion_pass_laws.proofs.Fits.{IsMovedAt, IsMovedTo, moved_to, at_block, Fits, left, moved}

module _ (u v : UnitForm) (c : Configuration) (count : ℕ) (blocks : List Block) where
  -- A BLOCK AFTER LEADS TO ONE BEFORE: from its beginning the run after comes, with nothing seen, to a point that fits the beginning of that before, in the block of the same number.
  pub record IsLanding (others : ℕ → Value) (b : Block) (to label : ℕ) : Type 0 where
    pub block : Block
    pub stands : slice_get blocks label ≡ Some block
    pub names : ℕ → Value
    pub rest : List Instruction
    pub end : End
    pub quiet : (waiting : List Activation)
        → IsQuiet (after_of u v) (moved_configuration (standing_in label c) count blocks others block.instructions block.end waiting) (moved_configuration (standing_in to c) count blocks names rest end waiting)
    pub fits : Fits u c.here.graph count blocks (is_live c.memory) c.here.names names b.instructions rest b.end end

  -- So it is with the blocks of these numbers, if there is one before.
  abbrev pub Lands : (others : ℕ → Value) (to label : ℕ) → Type 0
  Lands others to label = (b : Block) → slice_get c.here.graph.blocks to ≡ Some b → IsLanding others b to label

  -- An end after does what one before does, and leads to where that one leads.
  pub data LeadsTo (others : ℕ → Value) : (before after : End) → Type 0 where
    returning : {a : Option Operand} → LeadsTo others (Return a) (Return a)
    jumping : {to label : ℕ} → Lands others to label → LeadsTo others (Jump to) (Jump label)
    branching : {k : Comparison} {a b : Operand} {to to_other label other : ℕ} → Lands others to label → Lands others to_other other → LeadsTo others (Branch k a b to to_other) (Branch k a b label other)

  -- BEFORE THE END OF A BLOCK the run after comes, with nothing seen, to an end that does what it does, where the names agree.
  pub record IsBeforeEnd (others : ℕ → Value) (after : List Instruction) (end later : End) : Type 0 where
    pub valid : AreOperandsOfEnd u.statics c.here.graph end
    pub names : ℕ → Value
    pub quiet : (waiting : List Activation) → IsQuiet (after_of u v) (moved_configuration c count blocks others after later waiting) (moved_configuration c count blocks names [] later waiting)
    pub agree : (x : ℕ) → x < c.here.graph.name_count → names x ≡ c.here.names x
    pub leads : LeadsTo names end later

  module _ (made : IsMoved c.here.graph (moved_graph c.here.graph count blocks)) (valid : IsGraph u c.here.graph) (others : ℕ → Value) (n : ℕ) (end : End) (come : IsCome c.here.graph.blocks (within n [] end))
      (carried : AreCarried u c.here.graph valid (is_live c.memory) c.here.names made.treated (within n [] end) others) where
    module _ (l : ℕ) (among : Among l (targets_of end)) where
      -- paths come to the edge
      edge_come : IsCome c.here.graph.blocks (along n l)
      edge_come = goes come (leaves among)

      -- what is ready at the edge
      edge_carried : AreCarried u c.here.graph valid (is_live c.memory) c.here.names made.treated (along n l) others
      edge_carried =
          let held = held_there u c.here.graph valid (is_live c.memory) c.here.names made.treated (within n [] end) others (λ e inserted. end_inserted c.here.graph.blocks e come inserted) carried in
          carried_on u c.here.graph valid (is_live c.memory) c.here.names c.here.names made.treated (within n [] end) (along n l) others others come (leaves among) held carried.agree (λ k. refl) (λ e same. refl)

      -- what is done on it, in a block of this number
      module _ (done : List Instruction) (are : AreDoneAt c.here.graph.blocks (along n l) c.here.graph.name_count made.treated done) (number : ℕ) where
        -- what is done on it is done
        pub edge_settled : IsSettling u v c.here.graph valid (standing_in number c) c.here.names count blocks (along n l) c.here.graph.name_count made.treated done others
        edge_settled = settles u v c.here.graph valid (standing_in number c) c.here.names count blocks (along n l) c.here.graph.name_count made.treated done are (omega (arith)) others carried.agree

        -- and then the names agree and have what is held
        edge_held : AreHeld u c.here.graph valid (is_live c.memory) c.here.names made.treated (along n l) edge_settled.after
        edge_held = held_behind u c.here.graph valid (is_live c.memory) c.here.names made.treated (along n l) others edge_settled.after edge_come edge_carried edge_settled.settled

        -- Behind it begins the block to which it leads.
        edge_fits : (b : Block) (at : slice_get c.here.graph.blocks l ≡ Some b) (to : IsMovedTo u c.here.graph count blocks made l b)
            → Fits u c.here.graph count blocks (is_live c.memory) c.here.names edge_settled.after b.instructions to.block.instructions b.end to.block.end
        edge_fits b at to = moved (at_block u c.here.graph count blocks made valid (is_live c.memory) c.here.names edge_settled.after l b (goes edge_come (enters b at))
            (carried_on u c.here.graph valid (is_live c.memory) c.here.names c.here.names made.treated (along n l) (within l b.instructions b.end) edge_settled.after edge_settled.after edge_come (enters b at) edge_held edge_held.agree (λ k. refl) (λ e same. refl)) to)

        -- A jump leads there, behind what is done.
        edge_jumps : Lands edge_settled.after l l
        edge_jumps b at = (let to = moved_to u c.here.graph count blocks made l b at in record {
          block = to.block;
          stands = to.stands;
          names = edge_settled.after;
          rest = to.block.instructions;
          end = to.block.end;
          quiet = λ waiting. quiet_none (after_of u v) (moved_configuration (standing_in l c) count blocks edge_settled.after to.block.instructions to.block.end waiting);
          fits = edge_fits b at to;
        })

      -- An edge on which nothing is done leads there directly.
      leads_directly : AreDoneAt c.here.graph.blocks (along n l) c.here.graph.name_count made.treated [] → Lands others l l
      leads_directly are b at = (let to = moved_to u c.here.graph count blocks made l b at in record {
        block = to.block;
        stands = to.stands;
        names = (edge_settled [] are l).after;
        rest = to.block.instructions;
        end = to.block.end;
        quiet = λ waiting. (edge_settled [] are l).quiet to.block.instructions to.block.end waiting;
        fits = edge_fits [] are l b at to;
      })

      -- An edge with a block of its own leads there by it.
      leads_by_own : (place : Option ℕ) (label : ℕ) (all : List Instruction) → AreDoneAt c.here.graph.blocks (along n l) c.here.graph.name_count made.treated all
          → slice_get blocks label ≡ Some (record { place = place; instructions = all; end = Jump l }) → Lands others l label
      leads_by_own place label all are stands b at = record {
        block = record { place = place; instructions = all; end = Jump l };
        stands = stands;
        names = s.after;
        rest = to.block.instructions;
        end = to.block.end;
        quiet = λ waiting. quiet_and (after_of u v) (own_begun waiting) (own_done waiting) (there waiting)
            (subst (λ xs. IsQuiet (after_of u v) (moved_configuration (standing_in label c) count blocks others xs (Jump l) waiting) (own_done waiting)) (append-nil all) (s.quiet [] (Jump l) waiting))
            (quiet_step (after_of u v) (own_done waiting) (there waiting) (ap (entered (own_done waiting) l) to.stands));
        fits = edge_fits all are label b at to;
      }
        where
          s : IsSettling u v c.here.graph valid (standing_in label c) c.here.names count blocks (along n l) c.here.graph.name_count made.treated all others
          s = edge_settled all are label

          to : IsMovedTo u c.here.graph count blocks made l b
          to = moved_to u c.here.graph count blocks made l b at

          own_begun : List Activation → Configuration
          own_begun waiting = moved_configuration (standing_in label c) count blocks others all (Jump l) waiting

          own_done : List Activation → Configuration
          own_done waiting = moved_configuration (standing_in label c) count blocks s.after [] (Jump l) waiting

          there : List Activation → Configuration
          there waiting = moved_configuration (standing_in l c) count blocks s.after to.block.instructions to.block.end waiting

    -- Where an edge leads, one way or the other.
    edge_led : (l : ℕ) → Among l (targets_of end) → (place : Option ℕ) (next label : ℕ) (own : List Block) → IsLed c.here.graph.blocks c.here.graph.name_count made.treated n place l next label own
        → ((j : ℕ) (x : Block) → slice_get own j ≡ Some x → slice_get blocks (next + j) ≡ Some x) → Lands others l label
    edge_led l among place next _ _ (directly are) stand = leads_directly l among are
    edge_led l among place next _ _ (by_own {i} {more} are) stand = leads_by_own l among place next (i ∷ more) are (sym (ap (slice_get blocks) here) ∙ stand 0 (record { place = place; instructions = i ∷ more; end = Jump l }) refl)
      where
        here : next + 0 ≡ next
        here = omega (arith)

  -- The end of a block whose code was moved.
  by_end : (made : IsMoved c.here.graph (moved_graph c.here.graph count blocks)) (valid : IsGraph u c.here.graph) (others : ℕ → Value) (n : ℕ) (end later : End) → IsCome c.here.graph.blocks (within n [] end)
      → AreCarried u c.here.graph valid (is_live c.memory) c.here.names made.treated (within n [] end) others → (place : Option ℕ) (next : ℕ) (done : List Instruction) (own : List Block)
      → IsEnd c.here.graph.blocks c.here.graph.name_count made.treated n place next end done later own → ((j : ℕ) (x : Block) → slice_get own j ≡ Some x → slice_get blocks (next + j) ≡ Some x) → IsBeforeEnd others done end later
  by_end made valid others n _ _ come carried place next _ _ (returns {a}) stand = record {
    valid = (valid_at u c.here.graph valid come).1;
    names = others;
    quiet = λ waiting. quiet_none (after_of u v) (moved_configuration c count blocks others [] (Return a) waiting);
    agree = carried.agree;
    leads = returning;
  }
  by_end made valid others n _ _ come carried place next _ _ (jumps {to} {done} are) stand = (let s = edge_settled made valid others n (Jump to) come carried to front done are c.here.block in record {
    valid = (valid_at u c.here.graph valid come).1;
    names = s.after;
    quiet = λ waiting. subst (λ xs. IsQuiet (after_of u v) (moved_configuration c count blocks others xs (Jump to) waiting) (moved_configuration c count blocks s.after [] (Jump to) waiting)) (append-nil done) (s.quiet [] (Jump to) waiting);
    agree = (edge_held made valid others n (Jump to) come carried to front done are c.here.block).agree;
    leads = jumping (edge_jumps made valid others n (Jump to) come carried to front done are c.here.block);
  })
  by_end made valid others n _ _ come carried place next _ _ (branches {c = k} {a} {b} {to} {else} {label} {other} {own} {others = more} one two) stand = record {
    valid = (valid_at u c.here.graph valid come).1;
    names = others;
    quiet = λ waiting. quiet_none (after_of u v) (moved_configuration c count blocks others [] (Branch k a b label other) waiting);
    agree = carried.agree;
    leads = branching
        (edge_led made valid others n (Branch k a b to else) come carried to front place next label own one (λ j x at. stand j x (at_left own more j x at)))
        (edge_led made valid others n (Branch k a b to else) come carried else (behind front) place (next + length own) other more two
        (λ j x at. ap (slice_get blocks) (further j) ∙ stand (length own + j) x (at_right own more j (length own + j) refl ∙ at)));
  }
    where
      further : (j : ℕ) → (next + length own) + j ≡ next + (length own + j)
      further j = omega (arith)

  -- what is left there of a block whose code was moved
  by_moved_end : (others : ℕ → Value) (after : List Instruction) (end later : End) (m : IsMovedAt u c.here.graph count blocks (is_live c.memory) c.here.names others [] after end later) → (all : List Instruction)
      → AreMoved c.here.graph.blocks c.here.graph.name_count m.made.treated m.number end [] all → after ≡ all ++ m.done → IsBeforeEnd others after end later
  by_moved_end others after end later m _ no_more is = subst (λ xs. IsBeforeEnd others xs end later) (sym is) (by_end m.made m.valid others m.number end later m.come m.carried m.place m.next m.done m.own m.ends m.own_stand)

-- The end of a block of a graph that was left leads to the same blocks.
module _ (u v : UnitForm) (c : Configuration) (valid : IsGraph u c.here.graph) where
  -- each block leads to itself
  lands_left : (to : ℕ) → Lands u v c c.here.graph.name_count c.here.graph.blocks c.here.names to to
  lands_left to b at = (let block : IsBlock u c.here.graph b = all_at (IsBlock u c.here.graph) c.here.graph.blocks to b valid.blocks at in record {
    block = b;
    stands = at;
    names = c.here.names;
    rest = b.instructions;
    end = b.end;
    quiet = λ waiting. quiet_none (after_of u v) (moved_configuration (standing_in to c) c.here.graph.name_count c.here.graph.blocks c.here.names b.instructions b.end waiting);
    fits = left valid block.instructions block.operands;
  })

  -- and each end
  leads_left : (end : End) → LeadsTo u v c c.here.graph.name_count c.here.graph.blocks c.here.names end end
  leads_left (Jump to) = jumping (lands_left to)
  leads_left (Branch k a b to other) = branching (lands_left to) (lands_left other)
  leads_left (Return a) = returning

-- Where points fit the run after comes to the end of the block.
pub before_end : (u v : UnitForm) (c : Configuration) (count : ℕ) (blocks : List Block) (others : ℕ → Value) (after : List Instruction) (end later : End)
    → Fits u c.here.graph count blocks (is_live c.memory) c.here.names others [] after end later → IsBeforeEnd u v c count blocks others after end later
before_end u v c count blocks others after end later (moved m) = by_moved_end u v c count blocks others after end later m m.moved m.instructions m.are
before_end u v c count blocks others after end later (left valid all operands) = record {
  valid = operands;
  names = c.here.names;
  quiet = λ waiting. quiet_none (after_of u v) (moved_configuration c c.here.graph.name_count c.here.graph.blocks c.here.names [] end waiting);
  agree = λ x less. refl;
  leads = leads_left u v c valid end;
}
