-- What a run after does before the instruction that stands for one before.
use Rattle.std.proofs.Common.{◌≡◌, ℕ, ◌+◌, ◌<◌, Bool, Some, None, List, ◌∷◌, ◌++◌, refl, sym, ap, ◌∙◌, subst, arith}
use Rattle.std.specs.Prelude.{◌==◌, if◌then◌else◌}
use Rattle.std.proofs.lemmas.List.{append_assoc}
use Rattle.std.proofs.lemmas.Option.{none-some, same_Some}
use Rattle.graph_core.specs.declared.value.Value.{Value}
use Rattle.graph_core.specs.Graphs.{Instruction, Marker, Note, Move, Operate, Truncate, Same, Address, Load, Store, Zero, CopyWords, Call, End, Block, Graph, UnitForm}
use Rattle.graph_core.specs.Uses.{target_of}
use Rattle.graph_core.specs.Memory.{is_live}
use Rattle.graph_core.specs.Validity.{IsInstruction}
use Rattle.graph_core.specs.Runs.{Activation, Configuration, with_value_at}
use Rattle.motion_pass_points.specs.Ways.{Point, within, passes, goes}
use Rattle.motion_pass_points.proofs.Keys.{it_does}
use Rattle.motion_pass_placement.specs.Moving.{Becomes, stays, reads, AreMoved, one_more}
use Rattle.motion_pass_laws.proofs.Values.{computed, put_other, computed_kept}
use Rattle.motion_pass_laws.proofs.Ready.{read_ready}
use Rattle.motion_pass_laws.proofs.Quiet.{after_of, moved_configuration, IsQuiet, quiet_none}
use Rattle.motion_pass_laws.proofs.Carried.{AreCarried, AreHeld, held_behind, carried_on, valid_at}
use Rattle.motion_pass_laws.proofs.Settling.{IsSettling, settles}
use Rattle.motion_pass_laws.proofs.Fits.{IsMovedAt, Fits, left, moved, GoesOn, Acts, itself, reads_temporary}

-- A valid instruction writes a name of the graph.
own_target : (u : UnitForm) (g : Graph) (i : Instruction) → IsInstruction u g i → (x : ℕ) → target_of i ≡ Some x → x < g.name_count
own_target u g (Marker p) is x at = absurd (none-some x at)
own_target u g (Note z n) is x at = absurd (none-some x at)
own_target u g (Move z a) is x at = subst (λ y. y < g.name_count) (same_Some z x at) is.0
own_target u g (Operate z o a b) is x at = subst (λ y. y < g.name_count) (same_Some z x at) is.0
own_target u g (Truncate z t a) is x at = subst (λ y. y < g.name_count) (same_Some z x at) is.0
own_target u g (Same z a b) is x at = subst (λ y. y < g.name_count) (same_Some z x at) is.0
own_target u g (Address z object) is x at = subst (λ y. y < g.name_count) (same_Some z x at) is.0
own_target u g (Load z e l) is x at = subst (λ y. y < g.name_count) (same_Some z x at) is.0
own_target u g (Store e l a) is x at = absurd (none-some x at)
own_target u g (Zero object words) is x at = absurd (none-some x at)
own_target u g (CopyWords object bytes words) is x at = absurd (none-some x at)
own_target u g (Call None f all) is x at = absurd (none-some x at)
own_target u g (Call (Some z) f all) is x at = subst (λ y. y < g.name_count) (same_Some z x at) is.0

module _ (u v : UnitForm) (c : Configuration) (count : ℕ) (blocks : List Block) where
  -- the graph before, and the objects that live
  abbrev pub graph : Graph
  graph = c.here.graph

  -- the objects that live
  abbrev pub lives : ℕ → Bool
  lives = is_live c.memory

  -- BEFORE AN INSTRUCTION the run after comes, with nothing seen, to one that acts as it does, where the names agree; and behind both the points fit again.
  pub record IsBefore (others : ℕ → Value) (i : Instruction) (rest after : List Instruction) (end later : End) : Type 0 where
    pub valid : IsInstruction u graph i
    pub names : ℕ → Value
    pub instruction : Instruction
    pub more : List Instruction
    pub quiet : (waiting : List Activation) → IsQuiet (after_of u v) (moved_configuration c count blocks others after later waiting) (moved_configuration c count blocks names (instruction ∷ more) later waiting)
    pub agree : (x : ℕ) → x < graph.name_count → names x ≡ c.here.names x
    pub acts : Acts (computed u.statics lives c.here.names) names i instruction
    pub on : GoesOn u graph count blocks lives c.here.names names (target_of i) rest more end later

  module _ (others : ℕ → Value) (i : Instruction) (rest after : List Instruction) (end later : End) (m : IsMovedAt u graph count blocks lives c.here.names others (i ∷ rest) after end later) where
    -- the point of the instruction
    abbrev point : Point
    point = within m.number (i ∷ rest) end

    -- the instruction is valid
    instruction_valid : IsInstruction u graph i
    instruction_valid = (valid_at u graph m.valid m.come).0.0

    module _ (j : Instruction) (done more : List Instruction) (becomes : Becomes graph.blocks graph.name_count m.made.treated point i j) (later_moved : AreMoved graph.blocks graph.name_count m.made.treated m.number end rest more)
        (s : IsSettling u v graph m.valid c c.here.names count blocks point graph.name_count m.made.treated done others) where
      -- what is held there
      held : AreHeld u graph m.valid lives c.here.names m.made.treated point s.after
      held = held_behind u graph m.valid lives c.here.names m.made.treated point others s.after m.come m.carried s.settled

      -- the instruction acts as the one before
      acts_so : Acts (computed u.statics lives c.here.names) s.after i j
      acts_so = by_kind becomes
        where
          by_kind : {k : Instruction} → Becomes graph.blocks graph.name_count m.made.treated point i k → Acts (computed u.statics lives c.here.names) s.after i k
          by_kind (stays none) = itself
          by_kind (reads e k x read at target) = reads_temporary e x (graph.name_count + k) (it_does e i read.1.0) target (held.held k e at (λ not_done unready. read_ready graph.blocks e read.1 not_done unready))

      -- behind it the point fits, with names that carry what is ready there
      fits_with : (now new : ℕ → Value) → AreCarried u graph m.valid lives now m.made.treated (within m.number rest end) new → Fits u graph count blocks lives now new rest (more ++ m.done) end later
      fits_with now new carried = moved (record {
        made = m.made;
        valid = m.valid;
        number = m.number;
        come = goes m.come passes;
        moved = more;
        instructions = later_moved;
        done = m.done;
        place = m.place;
        next = m.next;
        own = m.own;
        ends = m.ends;
        are = refl;
        own_stand = m.own_stand;
        carried = carried;
      })

      -- so it does with what the instruction writes, or with nothing written
      goes_on : GoesOn u graph count blocks lives c.here.names s.after (target_of i) rest (more ++ m.done) end later
      goes_on = record {
        passed = λ none. fits_with c.here.names s.after (carried_on u graph m.valid lives c.here.names c.here.names m.made.treated point (within m.number rest end) s.after s.after m.come passes held held.agree (λ k. refl) (λ e same. refl));
        written = λ x w target. fits_with (with_value_at c.here.names x w) (with_value_at s.after x w)
            (carried_on u graph m.valid lives c.here.names (with_value_at c.here.names x w) m.made.treated point (within m.number rest end) s.after (with_value_at s.after x w) m.come passes held
            (λ y less. ap (λ z. if y == x then w else z) (held.agree y less)) (still x w target) (λ e same. computed_kept u.statics lives c.here.names e i x w target same));
      }
        where
          still : (x : ℕ) (w : Value) → target_of i ≡ Some x → (k : ℕ) → with_value_at s.after x w (graph.name_count + k) ≡ s.after (graph.name_count + k)
          still x w target k = (let less = own_target u graph i instruction_valid x target in put_other s.after x w (graph.name_count + k) (λ same. omega (arith, less, same)))

      -- All that together: the run after has come before the instruction.
      before_moved : after ≡ (done ++ j ∷ more) ++ m.done → IsBefore others i rest after end later
      before_moved are = record {
        valid = instruction_valid;
        names = s.after;
        instruction = j;
        more = more ++ m.done;
        quiet = λ waiting. subst (λ xs. IsQuiet (after_of u v) (moved_configuration c count blocks others xs later waiting) (moved_configuration c count blocks s.after (j ∷ (more ++ m.done)) later waiting))
            (sym (are ∙ append_assoc done (j ∷ more) m.done)) (s.quiet (j ∷ (more ++ m.done)) later waiting);
        agree = held.agree;
        acts = acts_so;
        on = goes_on;
      }

    -- An instruction whose code was moved.
    by_moved : (all : List Instruction) → AreMoved graph.blocks graph.name_count m.made.treated m.number end (i ∷ rest) all → after ≡ all ++ m.done → IsBefore others i rest after end later
    by_moved _ (one_more {j = j} {done = done} {moved = more} are becomes later_moved) is =
        before_moved j done more becomes later_moved (settles u v graph m.valid c c.here.names count blocks point graph.name_count m.made.treated done are (omega (arith)) others m.carried.agree) is

-- Where points fit the run after comes to the instruction.
pub before_instruction : (u v : UnitForm) (c : Configuration) (count : ℕ) (blocks : List Block) (others : ℕ → Value) (i : Instruction) (rest after : List Instruction) (end later : End)
    → Fits u c.here.graph count blocks (is_live c.memory) c.here.names others (i ∷ rest) after end later → IsBefore u v c count blocks others i rest after end later
before_instruction u v c count blocks others i rest after end later (moved m) = by_moved u v c count blocks others i rest after end later m m.moved m.instructions m.are
before_instruction u v c count blocks others i rest after end later (left valid all operands) = record {
  valid = all.0;
  names = c.here.names;
  instruction = i;
  more = rest;
  quiet = λ waiting. quiet_none (after_of u v) (moved_configuration c c.here.graph.name_count c.here.graph.blocks c.here.names (i ∷ rest) end waiting);
  agree = λ x less. refl;
  acts = itself;
  on = record { passed = λ none. left valid all.1 operands; written = λ x w target. left valid all.1 operands };
}
