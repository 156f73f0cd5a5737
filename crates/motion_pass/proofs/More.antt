-- A graph in which a temporary is read has more names.
use Rattle.std.proofs.Common.{◌≡◌, ℕ, zero, suc, ◌+◌, ◌<◌, List, ◌∷◌, length, Some, sym, ap, ◌∙◌, subst, arith}
use Rattle.std.specs.Prelude.{slice_get}
use Rattle.std.proofs.lemmas.Option.{none-some, same_Some}
use Rattle.graph_core.specs.Graphs.{Instruction, End, Block, Graph}
use Rattle.graph_core.specs.Computations.{Computation, computed_by}
use Rattle.pass_law.specs.declared.cases.Case.{Case}
use Rattle.pass_law.specs.Changes.{Adds}
use Rattle.pass_law.proofs.Adding.{adds_none, adds_same}
use Rattle.motion_pass_points.specs.Ways.{within}
use Rattle.motion_pass_points.proofs.Keys.{it_does}
use Rattle.motion_pass_problems.proofs.Standing.{come_at}
use Rattle.motion_pass_placement.specs.Placed.{IsReadSomewhere}
use Rattle.motion_pass_placement.proofs.Members.{IsIn, in_along, in_blocks, in_once}
use Rattle.motion_pass_placement.specs.Moves.{IsMovedAssignment, IsReadingAssignment}
use Rattle.motion_pass_placement.specs.Moving.{AreRead, none_is, read_somewhere, read_nowhere, AreTreated, IsMoved, IsReadAt}
use Rattle.motion_pass.proofs.Along.{behind_others}

read_count : {blocks : List Block} {computations read : List Computation} → AreRead blocks computations read → (k : ℕ) (e : Computation) → slice_get computations k ≡ Some e → IsReadSomewhere blocks e → 0 < length read
read_count none_is k e at is = absurd (none-some e at)
read_count (read_somewhere so more) k e at is = omega arith
read_count {blocks} (read_nowhere {e = d} so more) zero e at is = absurd (so (subst (IsReadSomewhere blocks) (sym (same_Some d e at)) is))
read_count (read_nowhere so more) (suc k) e at is = read_count more k e at is

treated_there : (blocks : List Block) (treated : List Computation) → AreTreated blocks treated → (n : ℕ) (i : Instruction) (rest : List Instruction) (f : End) (e : Computation) → IsReadAt blocks e (within n (i ∷ rest) f) → 0 < length treated
treated_there blocks treated are n i rest f e read =
    let at = come_at blocks are.reached are.just read.0 in
    let stands = at.1 in
    let there : slice_get stands.block.instructions (length at.0) ≡ Some i = ap (λ l. slice_get l (length at.0)) (sym stands.parts) ∙ behind_others at.0 rest i in
    let does : computed_by i ≡ Some e = it_does e i read.1.0 in
    let number : n ≡ 0 + n = omega arith in
    let place : IsIn e are.computations = in_once are.once e (in_blocks are.reached 0 blocks n n stands.block stands.is number stands.comes e (in_along stands.block.instructions (length at.0) i there e does)) in
    read_count are.read place.0 e place.1 (within n (i ∷ rest) f, read)

pub more_names : (g h : Graph) → IsMoved g h → (c : Case) → IsReadingAssignment g c → g.name_count < h.name_count
more_names g h moved c reads =
    let some = treated_there g.blocks moved.treated moved.are_treated c.block reads.instruction reads.rest reads.end reads.computation reads.reads in
    let names = moved.names in
    omega (arith, some, names)

-- the assignments that read temporaries in a graph that is moved
pub moved_cases : (g h : Graph) → IsMoved g h → (old new : List Case) → Adds (IsReadingAssignment g) old new → Adds (IsMovedAssignment g h) old new
moved_cases g h moved old new adds = adds_same (IsReadingAssignment g) (IsMovedAssignment g h) old new (λ c reads. record { more = more_names g h moved c reads; assignment = reads }) (λ c is. is.assignment) adds

-- one that is left has none
pub left_cases : (g h : Graph) → h ≡ g → (old : List Case) → Adds (IsMovedAssignment g h) old old
left_cases g h same old = adds_none (IsMovedAssignment g h) old (λ c is. (let more = is.more in let count = ap (λ (f : Graph). f.name_count) same in omega (arith, more, count)))
