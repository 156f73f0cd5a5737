-- Each change of lazy code motion is earned.
use Rattle.std.proofs.Common.{◌≡◌, ℕ, zero, suc, ◌+◌, ◌<◌, Option, Some, List, [], ◌∷◌, ◌++◌, true, refl, sym, ap, ◌∙◌, subst, arith, append_assoc}
use Rattle.std.specs.Prelude.{slice_get, option_map, codes}
use Rattle.std.proofs.lemmas.Option.{none-some, same_Some}
use Rattle.std.specs.List.{AllByRecursion}
use Rattle.debug_records.specs.Change.{pass_name}
use Rattle.debug_records.specs.declared.change.Kind.TheVariants.{Moved}
use Rattle.base_laws.proofs.Lists.{all_at}
use Rattle.memory_map.specs.declared.map.Room.{Room}
use Rattle.graph_core.specs.Graphs.{Name, Instruction, Move, End, Scalar, Graph, UnitForm}
use Rattle.graph_core.specs.Uses.{target_of}
use Rattle.graph_core.specs.Computations.{Computation, computed_by}
use Rattle.graph_core.specs.Paths.{writes}
use Rattle.graph_core.specs.Points.{Behind}
use Rattle.graph_core.specs.Validity.{IsGraph, place_behind}
use Rattle.graph_core.specs.WellMarked.{AreWellMarked}
use Rattle.graph_core_weights.proofs.Standing.{in_place}
use Rattle.pass_law.specs.declared.cases.Case.{Case}
use Rattle.pass_law.specs.Earned.{IsBorneOut, IsMoved as WasMoved, WasDownSafe}
use Rattle.motion_pass_points.specs.Ways.{within}
use Rattle.motion_pass_points.proofs.Keys.{it_does}
use Rattle.motion_pass_placement.specs.Moves.{BecomesIn, moves, passes_a_bound, is_entered_again, BecomeIn, one_function, IsMovedAssignment, IsReadingAssignment}
use Rattle.motion_pass_placement.specs.Moving.{AreMoved, no_more, one_more, Becomes, stays, reads, IsMoved, IsReadAt}
use Rattle.dead_pass_laws.proofs.Points.{first_same, rest_same}
use Rattle.dead_pass_laws.proofs.Values.{target_written}
use Rattle.dead_pass_laws.proofs.Ways.{not_empty}
use Rattle.cdbg_passes.specs.Earned.{AreEarned}
use Rattle.cdbg_passes.specs.Steps.{MovesCode}
use Rattle.cdbg_passes.proofs.Insertions.{BlockMoved, IsInsertion, block_moved, insertion_at}
use Rattle.cdbg_passes.proofs.LoggedCases.{logged_for}
use Rattle.cdbg_passes.proofs.NoDead.{place_on}
use Rattle.cdbg_passes.proofs.Widening.{PutsFrom, becomes_place, done_puts, doing_computes, doing_target, puts_place}

-- ---- What became of an instruction

module _ (g : Graph) (treated : List Computation) (n : ℕ) (end : End) where
  -- What became of it stands in the same place.
  record BecameAt (was : List Instruction) (i : Instruction) (left moved : List Instruction) : Type 0 where
    j : Instruction
    so : List Instruction
    back : List Instruction
    becomes : Becomes g.blocks g.name_count treated (within n (i ∷ left) end) i j
    parts : moved ≡ so ++ j ∷ back
    place : (o : Option ℕ) → place_behind so o ≡ place_behind was o

  became_at : (bs moved : List Instruction) → AreMoved g.blocks g.name_count treated n end bs moved → (was : List Instruction) (i : Instruction) (left : List Instruction) → bs ≡ was ++ i ∷ left → BecameAt was i left moved
  became_at _ _ no_more [] i left e = absurd (not_empty (sym e))
  became_at _ _ no_more (w ∷ was) i left e = absurd (not_empty (sym e))
  became_at _ _ (one_more {i = k} {j = l} {rest = r} {done = news} {moved = m} are becomes more) [] i left e = record {
    j = l;
    so = news;
    back = m;
    becomes = subst (λ z. Becomes g.blocks g.name_count treated (within n (z ∷ left) end) z l) (first_same e) (subst (λ z. Becomes g.blocks g.name_count treated (within n (k ∷ z) end) k l) (rest_same e) becomes);
    parts = refl;
    place = λ o. puts_place g.blocks g.name_count treated news o (done_puts g.blocks g.name_count treated (within n (k ∷ r) end) g.name_count treated news (omega arith) are);
  }
  became_at _ _ (one_more {i = k} {j = l} {rest = r} {done = news} {moved = m} are becomes more) (w ∷ was) i left e = one_behind (became_at r m more was i left (rest_same e))
    where
      puts : AllByRecursion (PutsFrom g.name_count) news
      puts = done_puts g.blocks g.name_count treated (within n (k ∷ r) end) g.name_count treated news (omega arith) are

      one_behind : BecameAt was i left m → BecameAt (w ∷ was) i left (news ++ l ∷ m)
      one_behind d = record {
        j = d.j;
        so = news ++ l ∷ d.so;
        back = d.back;
        becomes = d.becomes;
        parts = ap (λ q. news ++ l ∷ q) d.parts ∙ sym (append_assoc news (l ∷ d.so) (d.j ∷ d.back));
        place = λ o. place_on news (l ∷ d.so) o ∙ ap (place_behind (l ∷ d.so)) (puts_place g.blocks g.name_count treated news o puts) ∙ place_on (l ∷ []) d.so o
            ∙ ap (place_behind d.so) (becomes_place g.blocks g.name_count treated (within n (k ∷ r) end) k l o becomes) ∙ d.place (place_behind (k ∷ []) o) ∙ sym (place_on (k ∷ []) was o)
            ∙ ap (λ z. place_behind (z ∷ was) o) (first_same e);
      }

  -- What reads the temporary of a computation is a move of it.
  record ReadsIt (e : Computation) (x : ℕ) (j : Instruction) : Type 0 where
    k : ℕ
    numbered : slice_get treated k ≡ Some e
    is : j ≡ Move x (Name (g.name_count + k))

  reads_it : (e : Computation) (x : ℕ) (i j : Instruction) (left : List Instruction) → IsReadAt g.blocks e (within n (i ∷ left) end) → target_of i ≡ Some x → Becomes g.blocks g.name_count treated (within n (i ∷ left) end) i j → ReadsIt e x j
  reads_it e x i _ left read target (stays not) = absurd (not e read)
  reads_it e x i _ left read target (reads d k y other numbered written) =
      let one : d ≡ e = same_Some d e (sym (it_does d i other.1.0) ∙ it_does e i read.1.0) in
      let name : y ≡ x = same_Some y x (sym written ∙ target) in
      record { k = k; numbered = numbered ∙ ap (λ (q : Computation). Some q) one; is = ap (λ z. Move z (Name (g.name_count + k))) name }

-- ---- A case

module _ (u : UnitForm) (g h : Graph) (is : IsMoved g h) (valid : IsGraph u g) (c : Case) (r : IsReadingAssignment g c) (m : BlockMoved u g h is valid c.block r.stood.block) where
  module _ (found : BecameAt g is.treated c.block r.stood.block.end r.stood.before r.instruction r.rest m.moved.moved) (reading : ReadsIt g is.treated c.block r.stood.block.end r.computation r.x found.j) where
    -- What writes its temporary is of the same computation,
    one_computation : (i : Instruction) (n : ℕ) (rest : List Instruction) → writes (g.name_count + reading.k) i ≡ true → (d : IsInsertion g h is.treated n i rest) → d.e ≡ r.computation
    one_computation i n rest it d =
        let names : g.name_count + d.k ≡ g.name_count + reading.k = same_Some (g.name_count + d.k) (g.name_count + reading.k) (sym (doing_target (g.name_count + d.k) d.e) ∙ ap target_of (sym d.does) ∙ target_written (g.name_count + reading.k) i it) in
        let same : d.k ≡ reading.k = omega (arith, names) in
        same_Some d.e r.computation (sym d.numbered ∙ ap (slice_get is.treated) same ∙ reading.numbered)

    -- does it,
    does_it : (i : Instruction) (n : ℕ) (rest : List Instruction) → writes (g.name_count + reading.k) i ≡ true → IsInsertion g h is.treated n i rest → computed_by i ≡ Some r.computation
    does_it i n rest it d = ap computed_by d.does ∙ doing_computes (g.name_count + d.k) d.e ∙ ap (λ (q : Computation). Some q) (one_computation i n rest it d)

    -- and stands where it was down-safe.
    safe_there : (i : Instruction) (n : ℕ) (rest : List Instruction) → writes (g.name_count + reading.k) i ≡ true → IsInsertion g h is.treated n i rest → WasDownSafe g h r.computation n (i ∷ rest)
    safe_there i n rest it d = subst (λ q. WasDownSafe g h q n (i ∷ rest)) (one_computation i n rest it d) d.safe

    inserted : (i : Instruction) (n : ℕ) (rest : List Instruction) (f : End) → Behind h i n rest f → writes (g.name_count + reading.k) i ≡ true → IsInsertion g h is.treated n i rest
    inserted i n rest f at it = insertion_at u g h is valid (g.name_count + reading.k) (omega arith) i n rest f at (target_written (g.name_count + reading.k) i it)

    -- An assignment that reads a temporary was moved.
    moved_by : WasMoved g h c.place.0 r.x
    moved_by = record {
      e = r.computation;
      t = g.name_count + reading.k;
      before = r.instruction;
      stood = in_place g c.block r.stood.block r.stood.before r.instruction r.rest c.place.0 r.stood.is r.stood.instructions r.stood.place;
      wrote = r.written;
      computed = it_does r.computation r.instruction r.reads.1.0;
      stands = in_place h c.block m.block found.so (Move r.x (Name (g.name_count + reading.k))) (found.back ++ m.moved.done) c.place.0 m.stands
          (m.moved.are ∙ ap (λ l. l ++ m.moved.done) (found.parts ∙ ap (λ j. found.so ++ j ∷ found.back) reading.is) ∙ append_assoc found.so (Move r.x (Name (g.name_count + reading.k)) ∷ found.back) m.moved.done)
          (ap (place_behind found.so) m.moved.place ∙ found.place r.stood.block.place ∙ r.stood.place);
      computes = λ i n rest f at it. does_it i n rest it (inserted i n rest f at it);
      safe = λ i n rest f at it. safe_there i n rest it (inserted i n rest f at it);
    }

  -- So it was, by what became of it.
  by_found : BecameAt g is.treated c.block r.stood.block.end r.stood.before r.instruction r.rest m.moved.moved → WasMoved g h c.place.0 r.x
  by_found found =
      moved_by found (reads_it g is.treated c.block r.stood.block.end r.computation r.x r.instruction found.j r.rest (subst (λ f. IsReadAt g.blocks r.computation (within c.block (r.instruction ∷ r.rest) f)) r.stood.ends r.reads) r.written found.becomes)

was_moved : (u : UnitForm) (g h : Graph) (is : IsMoved g h) (valid : IsGraph u g) (c : Case) (r : IsReadingAssignment g c) → WasMoved g h c.place.0 r.x
was_moved u g h is valid c r = of_block (block_moved u g h is valid c.block r.stood.block r.stood.is)
  where
    of_block : BlockMoved u g h is valid c.block r.stood.block → WasMoved g h c.place.0 r.x
    of_block m = by_found u g h is valid c r m (became_at g is.treated c.block r.stood.block.end r.stood.block.instructions m.moved.moved m.moved.instructions r.stood.before r.instruction r.rest r.stood.instructions)

-- ---- All changes

one_moved : {room : Room} (before : List Graph) (g : Graph) (behind : List Graph) (h : Graph) → BecomesIn room before g behind h → g.name_count < h.name_count → IsMoved g h
one_moved before g behind h (moves entered moved within_bounds) more = moved
one_moved before g behind _ (passes_a_bound entered moved beyond) more = absurd (omega (arith, more))
one_moved before g behind _ (is_entered_again again) more = absurd (omega (arith, more))

-- A function that has more names was moved.
function_moved : {room : Room} (before gs hs : List Graph) → BecomeIn room before gs hs → (f : ℕ) (g h : Graph) → slice_get gs f ≡ Some g → slice_get hs f ≡ Some h → g.name_count < h.name_count → IsMoved g h
function_moved before [] hs become f g h stood stands more = absurd (none-some g stood)
function_moved before (x ∷ gs) [] become f g h stood stands more = absurd (none-some h stands)
function_moved before (x ∷ gs) (y ∷ hs) (one_function becomes others) zero g h stood stands more =
    let first = same_Some x g stood in
    let second = same_Some y h stands in
    subst (λ a. IsMoved a h) first (subst (λ a. IsMoved x a) second (one_moved before x gs y becomes (subst (λ (a : Graph). x.name_count < a.name_count) (sym second) (subst (λ (a : Graph). a.name_count < h.name_count) (sym first) more))))
function_moved before (x ∷ gs) (y ∷ hs) (one_function becomes others) (suc f) g h stood stands more = function_moved (before ++ y ∷ []) gs hs others f g h stood stands more

-- EACH CHANGE OF LAZY CODE MOTION IS EARNED.
pub motion_earned : (u v : UnitForm) → AreWellMarked u → MovesCode u v → AreEarned u v
motion_earned u v marked step k c low at homes =
    let l = logged_for (pass_name (codes "motion")) Moved IsMovedAssignment u v step.changes k c low at in
    let a : IsMovedAssignment l.before l.after l.of = l.is in
    let made = function_moved [] u.graphs v.graphs step.functions l.function l.before l.after l.stood l.stands a.more in
    let moved = was_moved u l.before l.after made (all_at (IsGraph u) u.graphs l.function l.before marked.valid.graphs l.stood) l.of a.assignment in
    record {
      logged = l.logged;
      function = l.function;
      before = l.before;
      after = l.after;
      stood = l.stood;
      stands = l.stands;
      x = a.assignment.x;
      scalar = ap (λ (all : List Scalar). option_map (λ (s : Scalar). s.variable) (slice_get all a.assignment.x)) made.keeps.scalars ∙ a.assignment.variable ∙ ap (λ (m : ℕ). Some m) l.variable_is;
      borne_out = subst (λ q. IsBorneOut q v.log (homes l.function) l.before l.after c.place a.assignment.x c.variable) (sym l.kind_is) (subst (λ q. WasMoved l.before l.after q a.assignment.x) l.place_is moved);
    }
