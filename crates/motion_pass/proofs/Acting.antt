-- What becomes of an instruction, by what is placed.
use Rattle.std.proofs.Common.{◌≡◌, inl, inr, ℕ, ◌+◌, Bool, true, true≢false, List, [], ◌∷◌, ◌++◌, length, take, drop, Some, refl, sym, ap, ◌∙◌, subst}
use Rattle.std.specs.Prelude.{slice_get}
use Rattle.std.specs.BTreeMap.{get}
use Rattle.std.proofs.lemmas.Bool.{cases_Bool}
use Rattle.std.proofs.lemmas.List.{take-append-drop}
use Rattle.std.proofs.lemmas.Option.{same_Some}
use Rattle.graph_core.specs.declared.name.Name as declared-name
use Rattle.graph_core.specs.Graphs.{Instruction, Operate, Truncate, Same, Move, Name, Block, Graph, End}
use Rattle.graph_core.specs.Uses.{target_of, targets_of}
use Rattle.graph_core.specs.Paths.{Among}
use Rattle.graph_core.specs.Computations.{Computation, computed_by}
use Rattle.motion_pass_points.specs.Computing.{does, key_of}
use Rattle.motion_pass_points.specs.Ways.{Point, within, along, does_at, Leads, passes, IsCome, IsPast, IsInserted, IsRead}
use Rattle.motion_pass_points.proofs.Keys.{it_does}
use Rattle.motion_pass_points.specs.MotionPointsComputing.{computation_view, doing}
use Rattle.motion_pass_points.specs.Numbers.{key_cmp}
use Rattle.motion_pass_points.specs.declared.computation.Computation as declared-computation
use Rattle.motion_pass_problems.specs.Facts.{AreReached}
use Rattle.motion_pass_problems.specs.Inner.{point_at}
use Rattle.motion_pass_problems.proofs.Inner.{drop_at}
use Rattle.motion_pass_problems.proofs.Standing.{Stands, come_at, past_before}
use Rattle.motion_pass_placement.specs.declared.placement.Action.{Action}
use Rattle.motion_pass_placement.specs.declared.placement.Action.TheVariants.{Keep, Read, Compute}
use Rattle.motion_pass_placement.specs.declared.placement.Placement.{Placement}
use Rattle.motion_pass_placement.specs.Placed.{AreDone, HasTemporary, IsActed, IsPlaced, all_of, reached_by}
use Rattle.motion_pass_placement.proofs.Acted.{come_there, reached_there, told_so}
use Rattle.motion_pass_placement.proofs.Entered.{come_edge, edge_come}
use Rattle.motion_pass_placement.specs.Moving.{IsDoneAt, IsReadAt, AreDoneAt, Becomes, stays, reads}
use Rattle.motion_pass.specs.Placing.{treated_by}
use Rattle.motion_pass.proofs.Doing.{NamedOn, all_pairs, done_at, named_on, none_done_at, pairs_one, temporary_at}

-- what computes writes a name
pub target_there : (i : Instruction) (e : Computation) → computed_by i ≡ Some e → (x : ℕ) × (target_of i ≡ Some x)
target_there (Operate x o a b) e is = (x, refl)
target_there (Truncate x t a) e is = (x, refl)
target_there (Same x a b) e is = (x, refl)
target_there _ e is = absurd (cc)

module _ (blocks : List Block) (reached : ℕ → Bool) (are : AreReached blocks reached) (e : Computation) where
  -- what is inserted before an instruction is done by it
  pub inserted_does : {n : ℕ} {before : List Instruction} {i : Instruction} {rest : List Instruction} {f : End} → Stands blocks reached n before (i ∷ rest) f → IsInserted blocks e (within n (i ∷ rest) f) → does e i ≡ true
  inserted_does {n} {before} {i} {rest} {f} s inserted = elim inserted.0.last [ inl so ↦ so | inr next ↦ after next.1 next.2 ]
    where
      after : {q : Point} → Leads blocks (within n (i ∷ rest) f) q → IsPast blocks e q → does e i ≡ true
      after passes past = elim (past_before blocks reached are e s past) [ inl so ↦ so | inr was ↦ absurd (inserted.0.delayed was) ]

module _ (g : Graph) (p : Placement) (is : IsPlaced g p) where
  abbrev pub names_on : NamedOn g.name_count p.temporaries.items p.end_name
  names_on = named_on is.numbered

  module _ (n : ℕ) (b : Block) (at : slice_get g.blocks n ≡ Some b) where
    module _ (index : ℕ) (i : Instruction) (here : slice_get b.instructions index ≡ Some i) where
      here_is : point_at n b index ≡ within n (i ∷ drop (index + 1) b.instructions) b.end
      here_is = ap (λ rest. within n rest b.end) (drop_at b.instructions index i here)

      stands : reached_by p n ≡ true → Stands g.blocks (reached_by p) n (take index b.instructions) (i ∷ drop (index + 1) b.instructions) b.end
      stands comes = record {
        block = b;
        is = at;
        comes = comes;
        parts = ap (λ rest. take index b.instructions ++ rest) (sym (drop_at b.instructions index i here)) ∙ take-append-drop index b.instructions;
        end = refl;
      }

      does_there : (e : Computation) → does_at e (point_at n b index) ≡ true → computed_by i ≡ Some e
      does_there e so = it_does e i (sym (ap (does_at e) here_is) ∙ so)

      comes_there : IsCome g.blocks (point_at n b index) → reached_by p n ≡ true
      comes_there come = reached_there g.blocks (reached_by p) (all_of p) p.numbers.items p.fates.items (told_so g p is) n b at index come

      come_here : reached_by p n ≡ true → IsCome g.blocks (point_at n b index)
      come_here comes = come_there g.blocks (reached_by p) (all_of p) p.numbers.items p.fates.items (told_so g p is) n b at index comes

      inserted_there : (e : Computation) → IsDoneAt g.blocks e (point_at n b index) → does_at e (point_at n b index) ≡ true
      inserted_there e so = ap (does_at e) here_is ∙ inserted_does g.blocks (reached_by p) is.reached e (stands (comes_there so.0)) (subst (IsInserted g.blocks e) here_is so.1)

      -- it is read there
      inserted_read : (e : Computation) → IsDoneAt g.blocks e (point_at n b index) → IsRead g.blocks e (point_at n b index)
      inserted_read e so = (inserted_there e so, inr so.1.1)

      -- only one computation is done there
      one_there : (d e : Computation) → does_at d (point_at n b index) ≡ true → does_at e (point_at n b index) ≡ true → d ≡ e
      one_there d e so also = same_Some d e (sym (does_there d so) ∙ does_there e also)

      module _ (a : Action) (by_rule : IsCome g.blocks (point_at n b index) → IsActed g.blocks p (point_at n b index) a) (nowhere : (IsCome g.blocks (point_at n b index) → ⊥) → a ≡ Keep) where
        -- it stays
        pub never_read : a ≡ Keep → (e : Computation) → IsReadAt g.blocks e (point_at n b index) → ⊥
        never_read same e read = subst (IsActed g.blocks p (point_at n b index)) same (by_rule read.0) e read.1

        pub keep_done : a ≡ Keep → AreDoneAt g.blocks (point_at n b index) g.name_count (treated_by p) []
        keep_done same = none_done_at g.blocks (point_at n b index) (λ e so. never_read same e (so.0, inserted_read e so)) g.name_count (treated_by p)

        pub keep_becomes : a ≡ Keep → Becomes g.blocks g.name_count (treated_by p) (point_at n b index) i i
        keep_becomes same = stays (never_read same)

        -- a path comes to one that does not stay
        comes : (a ≡ Keep → ⊥) → IsCome g.blocks (point_at n b index)
        comes other = elim (cases_Bool (reached_by p n)) [
          | inl so ↦ come_here so
          | inr none ↦ absurd (other (nowhere (λ come. true≢false (sym (comes_there come) ∙ none))))
        ]

        -- one that reads a temporary
        becomes_read : IsCome g.blocks (point_at n b index) → (e : Computation) (t : declared-name.Name) → HasTemporary p e t → IsRead g.blocks e (point_at n b index) → (x : ℕ) → target_of i ≡ Some x
            → Becomes g.blocks g.name_count (treated_by p) (point_at n b index) i (Move x (Name t.0))
        becomes_read come e t has read x target =
            let there = temporary_at names_on (all_of p) has.number e t has.is has.named in
            subst (λ y. Becomes g.blocks g.name_count (treated_by p) (point_at n b index) i (Move x (Name y))) (sym there.1.1) (reads e there.0 x (come, read) there.1.0 target)

        module _ (t : declared-name.Name) (same : a ≡ Read t) where
          read_come : IsCome g.blocks (point_at n b index)
          read_come = comes (λ keep. absurd (let both : Read t ≡ Keep = sym same ∙ keep in cc))

          read_acted : IsActed g.blocks p (point_at n b index) (Read t)
          read_acted = subst (IsActed g.blocks p (point_at n b index)) same (by_rule read_come)

          pub read_done : AreDoneAt g.blocks (point_at n b index) g.name_count (treated_by p) []
          read_done =
              none_done_at g.blocks (point_at n b index)
              (λ e so. (let one = one_there e read_acted.0 (inserted_there e so) read_acted.1.1.0.0 in read_acted.1.1.1 (subst (λ d. IsInserted g.blocks d (point_at n b index)) one so.1))) g.name_count (treated_by p)

          pub read_is : (e : Computation) × IsReadAt g.blocks e (point_at n b index)
          read_is = (read_acted.0, (read_come, read_acted.1.1.0))

          pub read_target : (x : ℕ) × (target_of i ≡ Some x)
          read_target = target_there i read_acted.0 (does_there read_acted.0 read_acted.1.1.0.0)

          pub read_becomes : (x : ℕ) → target_of i ≡ Some x → Becomes g.blocks g.name_count (treated_by p) (point_at n b index) i (Move x (Name t.0))
          read_becomes x target = becomes_read read_come read_acted.0 t read_acted.1.0 read_acted.1.1.0 x target

        module _ (c : declared-computation.Computation) (t : declared-name.Name) (same : a ≡ Compute c t) where
          compute_come : IsCome g.blocks (point_at n b index)
          compute_come = comes (λ keep. absurd (let both : Compute c t ≡ Keep = sym same ∙ keep in cc))

          compute_acted : IsActed g.blocks p (point_at n b index) (Compute c t)
          compute_acted = subst (IsActed g.blocks p (point_at n b index)) same (by_rule compute_come)

          -- no other is done there
          only_this : (j : ℕ) (d : Computation) → slice_get (all_of p) j ≡ Some d → IsInserted g.blocks d (point_at n b index) → j ≡ compute_acted.0.number
          only_this j d there so =
              let one = one_there d (computation_view c) (inserted_there d (compute_come, so)) compute_acted.1.0.0 in
              same_Some j compute_acted.0.number (sym (is.known.each j d there) ∙ ap (λ e. get key_cmp p.computations.numbers (key_of e)) one ∙ is.known.each compute_acted.0.number (computation_view c) compute_acted.0.is)

          pub compute_done : AreDoneAt g.blocks (point_at n b index) g.name_count (treated_by p) (doing t.0 (computation_view c) ∷ [])
          compute_done =
              done_at g.blocks (point_at n b index) compute_come names_on
              (pairs_one g.blocks (point_at n b index) (all_of p) p.temporaries.items compute_acted.0.number (computation_view c) t is.as_many compute_acted.0.is compute_acted.0.named compute_acted.1.1 only_this)

          pub compute_is : (e : Computation) × IsReadAt g.blocks e (point_at n b index)
          compute_is = (computation_view c, (compute_come, compute_acted.1.0))

          pub compute_target : (x : ℕ) × (target_of i ≡ Some x)
          compute_target = target_there i (computation_view c) (does_there (computation_view c) compute_acted.1.0.0)

          pub compute_becomes : (x : ℕ) → target_of i ≡ Some x → Becomes g.blocks g.name_count (treated_by p) (point_at n b index) i (Move x (Name t.0))
          compute_becomes x target = becomes_read compute_come (computation_view c) t compute_acted.0 compute_acted.1.0 x target

    -- what is done on an edge
    module _ (to : ℕ) (among : Among to (targets_of b.end)) (made : List Instruction) (by_rule : IsCome g.blocks (along n to) → AreDone g.blocks p (along n to) (length (all_of p)) made) (nowhere : (IsCome g.blocks (within n [] b.end) → ⊥) → made ≡ []) where
      pub edge_done : AreDoneAt g.blocks (along n to) g.name_count (treated_by p) made
      edge_done = elim (cases_Bool (reached_by p n)) [
        | inl so ↦ (let come = edge_come g.blocks (reached_by p) is.reached n to (record { block = b; is = at; comes = so; leads = among }) in
            done_at g.blocks (along n to) come names_on (all_pairs g.blocks p (along n to) is.as_many (by_rule come)))
        | inr none ↦ subst (λ xs. AreDoneAt g.blocks (along n to) g.name_count (treated_by p) xs) (sym (nowhere (λ come. true≢false (sym (come_at g.blocks (reached_by p) is.reached come).1.comes ∙ none))))
            (none_done_at g.blocks (along n to) (λ e done. true≢false (sym (come_edge g.blocks (reached_by p) is.reached n to done.0).comes ∙ none)) g.name_count (treated_by p))
      ]
