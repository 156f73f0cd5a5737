-- A step of the unit before, and what the unit after does meanwhile.
use Rattle.std.proofs.Common.{◌≡◌, ℕ, ◌⊎◌, inl, inr, true≢false, Option, Some, None, List, [], ◌∷◌, ◌++◌, ◌+◌, refl, sym, ◌∙◌, subst}
use Rattle.std.proofs.lemmas.Option.{none-some}
use Rattle.event_runs.specs.Agreement.{Pairs}
use Rattle.places.specs.declared.flow.Assignment.{Assignment}
use Rattle.graph_core.specs.declared.value.Value.{Value}
use Rattle.graph_core.specs.declared.value.Shadow.{Shadow}
use Rattle.graph_core.specs.Graphs.{NoteValue, Instruction, Marker, Note, Move, Operate, Truncate, Same, Address, Load, Store, Zero, CopyWords, Call, End, Block, Graph, Logged, UnitForm}
use Rattle.graph_core.specs.Memory.{is_live, pointer_to_object, read}
use Rattle.graph_core.specs.Points.{StandsWith}
use Rattle.graph_core.specs.Runs.{Activation, Configuration, Stepped, value, pointed, step_from, step}
use Rattle.graph_core.specs.Uses.{target_of}
use Rattle.graph_core.specs.Values.{operate, truncate, same}
use Rattle.pass_law.specs.Kept.{EachFunction}
use Rattle.dead_pass_rule.specs.Idle.{IsIdle, idle, Goes}
use Rattle.dead_pass_rule.specs.Removing.{without}
use Rattle.dead_pass_notes.specs.Said.{IsSaid, SaysAs, noted, unreached, other, AreSaid, ends, gone, stays}
use Rattle.dead_pass_laws.proofs.Begins.{IsMade}
use Rattle.dead_pass_laws.proofs.Came.{Came, reads_agree}
use Rattle.dead_pass_laws.proofs.Related.{reduced_configuration, AreStill, Waits, Related, DoesSame, DoesNothing}
use Rattle.dead_pass_laws.proofs.Steps.{after_of, writes_nothing, some_nothing, call_nothing, call_same, note_same, execute_same, end_same}
use Rattle.dead_pass_laws.proofs.Still.{SaysStill}

-- Each note that an activation comes to says after what it said before, or that the value is gone.
abbrev pub NotesHold : UnitForm → List Logged → Type 0
NotesHold u log =
    (g : Graph) (blocks : List Block) (names others : ℕ → Value) (n p x : ℕ) (k m : NoteValue) (rest : List Instruction) (e : End) → Came u log g blocks names others n (Note x k ∷ rest) e → StandsWith g p n (Note x k ∷ rest) e
    → IsSaid u.assignments log g p n x k (Note x k ∷ rest) e m → SaysStill u.statics names others k m

-- What goes writes a name.
writes_some : {assignments : List Assignment} → (g : Graph) (n : ℕ) (i : Instruction) (rest : List Instruction) (e : End) → IsIdle assignments g n (i ∷ rest) e → (x : ℕ) × (target_of i ≡ Some x)
writes_some g n i rest e (idle {x} stands target may computes further) = (x, target)

-- so what writes none does not go
goes_written : {assignments : List Assignment} → (g : Graph) (n : ℕ) (i : Instruction) (rest : List Instruction) (e : End) → target_of i ≡ None → Goes assignments g n (i ∷ rest) e → ⊥
goes_written g n i rest e none went = (let some = writes_some g n i rest e went.idle in none-some some.0 (sym none ∙ some.1))

module _ (u v : UnitForm) (log : List Logged) (made : EachFunction (IsMade u log) u.graphs v.graphs) (hold : NotesHold u log) where
  -- A step before is followed: the unit after has nothing to do, or does the same.
  abbrev pub IsFollowed : Stepped → Configuration → Stepped → Type 0
  IsFollowed p d q = DoesNothing u log p d ⊎ DoesSame u log p q

  module _ (c : Configuration) (blocks : List Block) (others : ℕ → Value) (shadows : ℕ → Shadow) (still : AreStill c.here.shadows shadows) (wants : Option ℕ) (waiting : List Activation) (waits : Pairs (Waits u log) c.waiting waiting) (n : ℕ) where
    -- the configuration behind an instruction, but for what it does
    abbrev behind : List Instruction → Configuration
    behind more = record c { here = record c.here { rest = more } }

    -- the configuration after, where this is left of the block
    abbrev d : List Instruction → Configuration
    d ys = reduced_configuration c blocks others shadows ys wants waiting

    -- the activation came to this
    abbrev CameTo : List Instruction → Type 0
    CameTo xs = Came u log c.here.graph blocks c.here.names others n xs c.here.end

    -- this is left, before and after
    abbrev AreLeft : (xs ys : List Instruction) → Type 0
    AreLeft xs ys = AreSaid u.assignments log c.here.graph n c.here.end xs ys

    -- An instruction goes.
    gone_followed : (i : Instruction) (more after : List Instruction) → Goes u.assignments c.here.graph n (i ∷ more) c.here.end → CameTo (i ∷ more) → AreLeft more after
        → IsFollowed (step_from u (i ∷ more) c) (d (without i ++ after)) (step_from (after_of u v log made) (without i ++ after) (d (without i ++ after)))
    gone_followed (Marker p) more after went came left = absurd (goes_written c.here.graph n (Marker p) more c.here.end refl went)
    gone_followed (Note x k) more after went came left = absurd (goes_written c.here.graph n (Note x k) more c.here.end refl went)
    gone_followed (Store f l a) more after went came left = absurd (goes_written c.here.graph n (Store f l a) more c.here.end refl went)
    gone_followed (Zero o w) more after went came left = absurd (goes_written c.here.graph n (Zero o w) more c.here.end refl went)
    gone_followed (CopyWords o w z) more after went came left = absurd (goes_written c.here.graph n (CopyWords o w z) more c.here.end refl went)
    gone_followed (Move x a) more after went came left =
        inl (writes_nothing u v log made (behind more) blocks others shadows still after wants waiting waits n (Move x a) x (value u.statics c.here.names a) refl refl went came left)
    gone_followed (Operate x o a b) more after went came left =
        inl (writes_nothing u v log made (behind more) blocks others shadows still after wants waiting waits n (Operate x o a b) x (operate o (value u.statics c.here.names a) (value u.statics c.here.names b)) refl refl went came left)
    gone_followed (Truncate x t a) more after went came left =
        inl (writes_nothing u v log made (behind more) blocks others shadows still after wants waiting waits n (Truncate x t a) x (truncate t (value u.statics c.here.names a)) refl refl went came left)
    gone_followed (Same x a b) more after went came left =
        inl (writes_nothing u v log made (behind more) blocks others shadows still after wants waiting waits n (Same x a b) x (same (is_live c.memory) (value u.statics c.here.names a) (value u.statics c.here.names b)) refl tt went came left)
    gone_followed (Address x object) more after went came left =
        inl (writes_nothing u v log made (behind more) blocks others shadows still after wants waiting waits n (Address x object) x (pointer_to_object c.memory (c.here.first_object + object)) refl tt went came left)
    gone_followed (Load x f l) more after went came left =
        inl (some_nothing u v log made (behind more) blocks others shadows still after wants waiting waits n x f l (read c.memory f (pointed u.statics c.memory c.here l)) went came left)
    gone_followed (Call x f all) more after went came left =
        inr (call_same u v log made (behind more) blocks others shadows still after wants waiting waits n x None (call_nothing u v log made (behind more) blocks others shadows still after wants waiting waits n x f all went came left) f all
        (reads_agree u log c.here.graph blocks c.here.names others n (Call x f all ∷ more) c.here.end (λ q g. true≢false (sym q)) came))

    -- An instruction stays.
    stays_followed : (i j : Instruction) (more after : List Instruction) → (Goes u.assignments c.here.graph n (i ∷ more) c.here.end → ⊥) → SaysAs u.assignments log c.here.graph n more c.here.end i j → CameTo (i ∷ more) → AreLeft more after
        → IsFollowed (step_from u (i ∷ more) c) (d (j ∷ after)) (step_from (after_of u v log made) (j ∷ after) (d (j ∷ after)))
    stays_followed i j more after stay (noted {p} {x} {v = k} {w = m} reached stands said) came left =
        inr (note_same u v log made (behind more) blocks others shadows still after wants waiting waits n x k m (hold c.here.graph blocks c.here.names others n p x k m more c.here.end came stands said) came left)
    stays_followed i j more after stay (unreached none) came left = absurd (none (record { history = came.history; path = came.along }))
    stays_followed i j more after stay (other plain) came left =
        inr (execute_same u v log made (behind more) blocks others shadows still after wants waiting waits n i plain
        (reads_agree u log c.here.graph blocks c.here.names others n (i ∷ more) c.here.end (λ q g. stay g) came) came left)

    -- Whatever is left.
    pub said_followed : (xs ys : List Instruction) → AreLeft xs ys → CameTo xs → IsFollowed (step_from u xs c) (d ys) (step_from (after_of u v log made) ys (d ys))
    said_followed xs ys ends came =
        inr (end_same u v log made c blocks others shadows still ys wants waiting waits n c.here.end refl (reads_agree u log c.here.graph blocks c.here.names others n [] c.here.end (λ q g. true≢false (sym q)) came) came)
    said_followed xs ys (gone {i} {rest = more} {after} went left) came = gone_followed i more after went came left
    said_followed xs ys (stays {i} {j} {rest = more} {after} stay says left) came = stays_followed i j more after stay says came left

  -- A step is followed.
  pub step_followed : (c d : Configuration) → Related u log c d → IsFollowed (step u c) d (step (after_of u v log made) d)
  step_followed c d r = subst (λ z. IsFollowed (step u c) z (step (after_of u v log made) z)) (sym r.is)
      (said_followed c r.blocks r.others r.shadows r.still r.wants r.waiting r.waits r.here.block c.here.rest r.rest r.here.said r.here.came)
