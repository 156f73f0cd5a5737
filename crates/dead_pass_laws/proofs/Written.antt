-- What is written in a place of the graph after: what stays of the writes before.
use Rattle.std.proofs.Common.{◌≡◌, ℕ, ◌<◌, inl, inr, true, true≢false, List, [], ◌∷◌, ◌++◌, length, sym, ap, ◌∙◌, subst, arith}
use Rattle.std.specs.Prelude.{◌==◌}
use Rattle.std.proofs.lemmas.Bool.{and_from, eq-eqb}
use Rattle.std.proofs.lemmas.Option.{same_Some}
use Rattle.places.specs.declared.flow.Assignment.{Assignment}
use Rattle.graph_core.specs.Graphs.{Instruction, End, Block, Graph, Logged, UnitForm}
use Rattle.graph_core.specs.Paths.{writes, is_bound}
use Rattle.graph_core.specs.Points.{StandsWith, assignments_in}
use Rattle.graph_core.specs.Validity.{place_behind}
use Rattle.graph_core.specs.WellMarked.{WrittenIn, instruction, bound}
use Rattle.graph_core_weights.proofs.Standing.{in_place}
use Rattle.dead_pass_rule.specs.Idle.{Goes}
use Rattle.dead_pass_notes.specs.Said.{IsDropped}
use Rattle.dead_pass_laws.proofs.Came.{reduced_graph, IsTaken}
use Rattle.dead_pass_laws.proofs.Decided.{decided}
use Rattle.dead_pass_laws.proofs.Entry.{goes_once}
use Rattle.dead_pass_laws.proofs.Once.{AreOne, one_write, not_bound}
use Rattle.dead_pass_laws.proofs.Points.{same_front}
use Rattle.dead_pass_laws.proofs.Values.{writes_target, target_written}
use Rattle.dead_pass_laws.specs.Staying.{StaysWritten, instruction as by_instruction, bound as by_binding, GoesIn}
use Rattle.dead_pass_laws.proofs.Instructions.{kept_writes, said_kept, StaysOrCalls, left_cases}
use Rattle.dead_pass_laws.proofs.Standing.{IsPointOf, point_of, StoodBefore, stood_before, StandsAfter, stands_after}

-- A point stands in one place.
pub same_place : (g : Graph) (p q n : ℕ) (rest : List Instruction) (e : End) → StandsWith g p n rest e → StandsWith g q n rest e → p ≡ q
same_place g p q n rest e s t =
    let one : s.block ≡ t.block = same_Some s.block t.block (sym s.is ∙ t.is) in
    let parts : s.before ++ rest ≡ t.before ++ rest = sym s.instructions ∙ ap (λ (b : Block). b.instructions) one ∙ t.instructions in
    let front : s.before ≡ t.before = same_front rest s.before t.before (ap length parts) parts in
    same_Some p q (sym s.place ∙ ap (λ l. place_behind l s.block.place) front ∙ ap (λ (b : Block). place_behind t.before b.place) one ∙ t.place)

module _ {assignments : List Assignment} (g : Graph) (p x : ℕ) where
  -- What is written by what stays was written before.
  pub stays_before : StaysWritten assignments g p x → WrittenIn g p x
  stays_before (by_instruction {n} {i} {rest} {e} st target stay) = instruction i (in_place g n st.block st.before i rest p st.is st.instructions st.place) (writes_target x i target)
  stays_before (by_binding is binds) = bound is binds

  -- Where the one assignment of a name in a place goes, nothing that stays writes the name there.
  pub dropped_none : IsDropped assignments g p x → StaysWritten assignments g p x → ⊥
  dropped_none d (by_instruction {n} {i} {rest} {e} st target stay) =
      let one : AreOne g d.n n (d.instruction ∷ d.rest) (i ∷ rest) d.end e = one_write g p x d.once d.n n d.instruction i d.rest rest d.end e d.stands st d.target target in
      stay (subst (λ f. Goes assignments g n (i ∷ rest) f) one.ends (subst (λ l. Goes assignments g n l d.end) one.rest (subst (λ m. Goes assignments g m (d.instruction ∷ d.rest) d.end) one.block d.goes)))
  dropped_none d (by_binding is binds) =
      true≢false (sym (and_from (p == g.entry) (is_bound x g.parameters) (eq-eqb p g.entry is) binds) ∙ not_bound g p x d.once d.n d.instruction d.rest d.end d.stands d.target)

  -- A write of a scalar that goes is its one assignment in its place.
  pub goes_dropped : x < length g.scalars → GoesIn assignments g p x → IsDropped assignments g p x
  goes_dropped scalar w =
      let o = goes_once g x w.n w.instruction w.rest w.end w.target scalar w.goes in
      let one : o.place ≡ p = same_place g o.place p w.n (w.instruction ∷ w.rest) w.end o.stands w.stands in
      record { n = w.n; instruction = w.instruction; rest = w.rest; end = w.end; stands = w.stands; target = w.target; once = ap (λ q. assignments_in g q x) (sym one) ∙ o.once; goes = w.goes }

module _ (u : UnitForm) (log : List Logged) (g : Graph) (blocks : List Block) (taken : IsTaken u log g blocks) (p x : ℕ) where
  -- by what is left of an instruction
  written_left : (j : Instruction) → writes x j ≡ true → StoodBefore u log g blocks taken p j → StaysWritten u.assignments g p x
  written_left j it s = by_cases (left_cases log g s.n s.rest s.end s.left)
    where
      by_cases : StaysOrCalls u.assignments log g s.n s.rest s.end s.instruction j → StaysWritten u.assignments g p x
      by_cases (inl kept) = by_instruction s.stands (target_written x s.instruction (sym (kept_writes x (said_kept log g s.n s.rest s.end kept.1)) ∙ it)) kept.0
      by_cases (inr calls) = absurd (true≢false (sym it ∙ calls.3 x))

  -- What is written after is written by what stays.
  pub written_stays : WrittenIn (reduced_graph g blocks) p x → StaysWritten u.assignments g p x
  written_stays (instruction j at it) = written_left j it (stood_before u log g blocks taken p j at)
  written_stays (bound is binds) = by_binding is binds

  -- And what stays writes after.
  pub stays_written : StaysWritten u.assignments g p x → WrittenIn (reduced_graph g blocks) p x
  stays_written (by_instruction {n} {i} {rest} {e} st target stay) =
      let s : StandsAfter u log g blocks taken p i = stands_after u log g blocks taken p n i rest e st stay in
      instruction s.other s.stands (kept_writes x s.kept ∙ writes_target x i target)
  stays_written (by_binding is binds) = bound is binds

  -- What is written after was written before.
  pub written_before : WrittenIn (reduced_graph g blocks) p x → WrittenIn g p x
  written_before w = stays_before g p x (written_stays w)

  module _ (scalar : x < length g.scalars) (stayed : IsDropped u.assignments g p x → ⊥) where
    -- by an instruction at a point
    written_at : (i : Instruction) → writes x i ≡ true → IsPointOf g p i → StaysWritten u.assignments g p x
    written_at i it s = elim (decided u log g blocks taken s.n i s.rest s.end (record { block = s.stands.block; before = s.stands.before; is = s.stands.is; instructions = s.stands.instructions; ends = s.stands.ends })) [
      | inl it_goes ↦ absurd (stayed (goes_dropped g p x scalar (record { n = s.n; instruction = i; rest = s.rest; end = s.end; stands = s.stands; target = target_written x i it; goes = it_goes })))
      | inr stay ↦ by_instruction s.stands (target_written x i it) stay
    ]

    -- Where the one assignment of a scalar does not go, what writes it in the place stays.
    pub written_kept : WrittenIn g p x → StaysWritten u.assignments g p x
    written_kept (instruction i at it) = written_at i it (point_of g p i at)
    written_kept (bound is binds) = by_binding is binds
