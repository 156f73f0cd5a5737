-- What is done on an edge, and the rule.
use Rattle.std.proofs.Common.{◌≡◌, ◌↔◌, ◌⊎◌, inl, inr, ℕ, zero, suc, ◌+◌, ◌<◌, ◌≤◌, Bool, true, false, true≢false, List, [], ◌∷◌, ◌++◌, length, map, Some, sym, ap, ◌∙◌, subst, arith}
use Rattle.std.specs.Prelude.{slice_get}
use Rattle.std.proofs.lemmas.Bool.{and_from, and_parts, cases_Bool, cases_eq, not_from_false}
use Rattle.std.proofs.lemmas.List.{map-append}
use Rattle.std.proofs.lemmas.Option.{slice_get_within}
use Rattle.graph_core.specs.declared.name.Name as declared-name
use Rattle.graph_core.specs.declared.instruction.Instr.{Instr}
use Rattle.graph_core.specs.Graphs.{Instruction, Block, instruction_view}
use Rattle.graph_core.specs.Computations.{Computation}
use Rattle.motion_pass_points.specs.Ways.{Point, within, along, Leads, enters, IsCome, goes, IsPast, IsWanted, wanted_here, wanted_later, IsInserted}
use Rattle.motion_pass_points.specs.MotionPointsComputing.{doing}
use Rattle.motion_pass_problems.specs.Facts.{AreReached}
use Rattle.motion_pass_problems.proofs.Bools.{not_true}
use Rattle.motion_pass_problems.proofs.Standing.{come_at, one_block}
use Rattle.motion_pass_problems.specs.declared.problems.Facts.{Facts}
use Rattle.motion_pass_placement.specs.declared.placement.Placement.{Placement}
use Rattle.motion_pass_placement.specs.Columns.{HasFacts}
use Rattle.motion_pass_placement.specs.Placed.{AreDone, none_done, one_done, one_passed, IsReadSomewhere, all_of, is_on_edge, temporary_of}

-- what is used from a point on is read somewhere
wanted_read : (blocks : List Block) (e : Computation) {q : Point} → IsWanted blocks e q → IsCome blocks q → IsReadSomewhere blocks e
wanted_read blocks e (wanted_here {p} done past) come = (p, (come, (done, inl past)))
wanted_read blocks e (wanted_later not_latest step wanted) come = wanted_read blocks e wanted (goes come step)

module _ (blocks : List Block) (reached : ℕ → Bool) (are : AreReached blocks reached) (e : Computation) (k : ℕ) (f : Facts) (facts : HasFacts blocks reached e k f) (m n : ℕ) (b : Block) (at : slice_get blocks n ≡ Some b) (come : IsCome blocks (along m n)) where
  -- the point to which the edge leads
  past_next : {q : Point} → Leads blocks (along m n) q → IsPast blocks e q → IsPast blocks e (within n b.instructions b.end)
  past_next (enters c is) past = subst (λ (d : Block). IsPast blocks e (within n d.instructions d.end)) (one_block blocks reached n c b is at) past

  wanted_next : {q : Point} → Leads blocks (along m n) q → IsWanted blocks e q → IsWanted blocks e (within n b.instructions b.end)
  wanted_next (enters c is) wanted = subst (λ (d : Block). IsWanted blocks e (within n d.instructions d.end)) (one_block blocks reached n c b is at) wanted

  comes : reached n ≡ true
  comes = are.closed m n (come_at blocks reached are come) b at

  -- it is done on the edge just where the rule inserts it there
  pub on_edge_rule : (is_on_edge f m n k ≡ true) ↔ IsInserted blocks e (along m n)
  on_edge_rule = (
    λ flag.
        (let both = and_parts _ _ flag in
        let starts = and_parts _ _ both.0 in
        let past = (facts.past_start n b at comes).0 starts.0 in
        let wanted = (facts.used_start n b at comes).0 starts.1 in (
          record {
            delayed = λ late. true≢false (sym ((facts.past_edge m n (come_at blocks reached are come) b at).1 late) ∙ not_true _ both.1);
            last = inr (within n b.instructions b.end, enters b at, past);
          },
          (within n b.instructions b.end, enters b at, wanted),
        )),
    λ inserted. and_from _ _ (and_from _ _ ((facts.past_start n b at comes).1 (next_past inserted.0.last)) ((facts.used_start n b at comes).1 (wanted_next inserted.1.1 inserted.1.2)))
        (elim (cases_Bool _) [
          | inl late ↦ absurd (inserted.0.delayed ((facts.past_edge m n (come_at blocks reached are come) b at).0 late))
          | inr early ↦ not_from_false _ early
        ]),
  )
    where
      next_past : (false ≡ true) ⊎ ((q : Point) × Leads blocks (along m n) q × IsPast blocks e q) → IsPast blocks e (within n b.instructions b.end)
      next_past (inl so) = absurd (true≢false (sym so))
      next_past (inr next) = past_next next.1 next.2

-- what is inserted at a point to which a path comes is read somewhere
pub inserted_read : (blocks : List Block) (e : Computation) (p : Point) → IsCome blocks p → IsInserted blocks e p → IsReadSomewhere blocks e
inserted_read blocks e p come inserted = wanted_read blocks e inserted.1.2 (goes come inserted.1.1)

module _ (blocks : List Block) (p : Placement) (at : Point) where
  -- one more number
  pub passed_on : (k : ℕ) (done : List Instruction) → AreDone blocks p at k done → ((e : Computation) → slice_get (all_of p) k ≡ Some e → IsInserted blocks e at → ⊥) → AreDone blocks p at (k + 1) done
  passed_on k done was never = subst (λ m. AreDone blocks p at m done) next (one_passed was never)
    where
      next : suc k ≡ k + 1
      next = omega arith

  pub done_on : (k : ℕ) (old new : List Instr) (i : Instr) → new ≡ old ++ i ∷ [] → (e : Computation) (t : declared-name.Name) → instruction_view i ≡ doing t.0 e → AreDone blocks p at k (map instruction_view old) → slice_get (all_of p) k ≡ Some e
      → temporary_of p.temporaries.items k ≡ Some t → IsInserted blocks e at → AreDone blocks p at (k + 1) (map instruction_view new)
  done_on k old new i grown e t view was is named inserted =
      let all : map instruction_view new ≡ map instruction_view old ++ doing t.0 e ∷ [] = ap (map instruction_view) grown ∙ map-append instruction_view old (i ∷ []) ∙ ap (λ j. map instruction_view old ++ j ∷ []) view in
      let next : suc k ≡ k + 1 = omega arith in
      subst (λ m. AreDone blocks p at m (map instruction_view new)) next (subst (λ xs. AreDone blocks p at (suc k) xs) (sym all) (one_done was is named inserted))

  -- several that are not inserted
  pub passed_all : (more k : ℕ) (done : List Instruction) → AreDone blocks p at k done → ((m : ℕ) → k ≤ m → m < k + more → (e : Computation) → slice_get (all_of p) m ≡ Some e → IsInserted blocks e at → ⊥) → AreDone blocks p at (k + more) done
  passed_all zero k done was never = subst (λ m. AreDone blocks p at m done) none_more was
    where
      none_more : k ≡ k + 0
      none_more = omega arith
  passed_all (suc more) k done was never =
      subst (λ m. AreDone blocks p at m done) one_more
      (passed_all more (k + 1) done (passed_on k done was (never k (omega arith) (omega arith))) (λ m le lt. never m (omega (arith, le)) (omega (arith, lt))))
    where
      one_more : k + 1 + more ≡ k + suc more
      one_more = omega arith

  -- behind all there is none
  pub done_all : {count : ℕ} {done : List Instruction} → AreDone blocks p at count done → length (all_of p) ≤ count → AreDone blocks p at (length (all_of p)) done
  done_all none_done le = subst (λ m. AreDone blocks p at m []) none none_done
    where
      none : 0 ≡ length (all_of p)
      none = omega (arith, le)
  done_all (one_done {k} {done} {e} {t} was is named inserted) le =
      let inside = slice_get_within (all_of p) k e is in
      let last : suc k ≡ length (all_of p) = omega (arith, le, inside) in
      subst (λ m. AreDone blocks p at m (done ++ doing t.0 e ∷ [])) last (one_done was is named inserted)
  done_all (one_passed {k} {done} was never) le = elim (cases_eq (suc k) (length (all_of p))) [
    | inl same ↦ subst (λ m. AreDone blocks p at m done) same (one_passed was never)
    | inr apart ↦ done_all was (omega (arith, le, apart))
  ]
