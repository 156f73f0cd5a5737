-- Nothing is computed again where code was moved: to each point where the rule does a computation leads a path along which it is not had.
use Rattle.std.proofs.Common.{◌≡◌, inl, inr, ℕ, true, false, true≢false, not, ◌||◌, Some, List, [], ◌∷◌, ◌++◌, length, refl, sym, ap, ◌∙◌, subst, arith}
use Rattle.std.specs.Prelude.{◌==◌}
use Rattle.std.specs.List.{list_any}
use Rattle.std.specs.Option.{option_map_or}
use Rattle.std.proofs.lemmas.Bool.{and_parts, cases_Bool, false_from_ne_true, or_cases}
use Rattle.std.proofs.lemmas.List.{append_assoc}
use Rattle.std.proofs.lemmas.Option.{none-some}
use Rattle.graph_core.specs.declared.value.Value.TheVariants.{Odd}
use Rattle.graph_core.specs.Graphs.{Instruction, End, Block, Graph, UnitForm}
use Rattle.graph_core.specs.Computations.{Computation, computed_by, operands_of}
use Rattle.graph_core.specs.Paths.{Passed, History, Path}
use Rattle.graph_core.specs.Validity.{IsGraph}
use Rattle.base_laws.proofs.Lists.{append_nil}
use Rattle.motion_pass_points.specs.Computing.{does, spoils}
use Rattle.motion_pass_points.specs.Ways.{Point, within, along, does_at, spoils_at, Leads, passes, leaves, enters, IsCome, begins, goes, IsUnsafe, ends, spoiled, ahead, IsUnhad, unhad_at_entry, unhad_behind, unhad_still, IsNotEarliest, IsPast, past_done, past_still}
use Rattle.motion_pass_points.proofs.Keys.{does_it}
use Rattle.motion_pass_points.proofs.Wanted.{inserted_safe}
use Rattle.motion_pass_placement.specs.Moving.{IsDoneAt, AreDone, Becomes, stays, reads, IsMoved}
use Rattle.motion_pass_laws.specs.Often.{is_had, IsHad, HasNothingAgain}
use Rattle.motion_pass_laws.proofs.Once.{count, count_does, count_other, count_both, done_once, treated_apart}
use Rattle.motion_pass_laws.proofs.Positions.{AtBlock, NotAll, passed_by, passes_all, before_it, not_first, not_passes, not_leaves, not_enters}
use Rattle.motion_pass_laws.proofs.Following.{IsFollowed, Where, inside, on_edge, ending, followed, first_same, rest_same, not_empty}
use Rattle.motion_pass_laws.proofs.Ready.{latest_next, unhad_come}

-- ---- What is had

module _ (e : Computation) where
  -- instructions that do it not at all begin with one that does not
  none_first : (i : Instruction) (more : List Instruction) → count e (i ∷ more) ≡ 0 → (does e i ≡ false) × (count e more ≡ 0)
  none_first i more none = elim (cases_Bool (does e i)) [
    | inl it ↦ (let one = count_does e i more it in absurd (omega (arith, none, one)))
    | inr not ↦ (not, sym (count_other e i more not) ∙ none)
  ]

  -- What is had behind an instruction that does not do it was had before.
  one_had : (p : Passed) (history : History) → does e p.instruction ≡ false → is_had e (p ∷ history) ≡ true → is_had e history ≡ true
  one_had p history idle had = elim (or_cases (does e p.instruction) (is_had e history) (and_parts (not (spoils e p.instruction)) (does e p.instruction || is_had e history) had).1) [
    | inl it ↦ absurd (true≢false (sym it ∙ idle))
    | inr before ↦ before
  ]

  passed_had : (n : ℕ) (news left : List Instruction) (history : History) → count e news ≡ 0 → is_had e (passed_by n news left history) ≡ true → is_had e history ≡ true
  passed_had n [] left history none had = had
  passed_had n (i ∷ news) left history none had =
      let parts = none_first i news none in
      let p : Passed = record { block = n; left = length (news ++ left); instruction = i; wrote = Odd } in
      one_had p history parts.0 (passed_had n news left (p ∷ history) parts.1 had)

  -- It is not had behind a write of an operand.
  spoiled_had : (p : Passed) (history : History) → spoils e p.instruction ≡ true → is_had e (p ∷ history) ≡ true → ⊥
  spoiled_had p history so had = true≢false (sym (and_parts (not (spoils e p.instruction)) (does e p.instruction || is_had e history) had).0 ∙ ap not so)

-- ---- Points

module _ (g h : Graph) (is : IsMoved g h) (e : Computation) where
  -- it is had
  abbrev Had : History → Type 0
  Had history = is_had e history ≡ true

  -- there is no path
  abbrev Never : History → Type 0
  Never history = ⊥

  -- Where the rule does not insert it, it is not done into its temporary.
  done_none : (p : Point) (done : List Instruction) → (IsDoneAt g.blocks e p → ⊥) → AreDone g.blocks g.name_count is.treated p done → count e done ≡ 0
  done_none p done never are = elim (done_once g.blocks e p g.name_count is.treated done (treated_apart g.blocks is.treated is.are_treated) are) [
    | inl none ↦ none
    | inr once ↦ absurd (never once.1.0)
  ]

  -- What becomes of an instruction that does not do it does not do it,
  becomes_idle : (p : Point) (i j : Instruction) → does e i ≡ false → Becomes g.blocks g.name_count is.treated p i j → does e j ≡ false
  becomes_idle p i _ idle (stays not) = idle
  becomes_idle p i _ idle (reads d k x read at target) = refl

  -- and writes the same.
  becomes_spoils : (p : Point) (i j : Instruction) → Becomes g.blocks g.name_count is.treated p i j → spoils e j ≡ spoils e i
  becomes_spoils p i _ (stays not) = refl
  becomes_spoils p i _ (reads d k x read at target) = ap (λ t. list_any (λ y. option_map_or (λ z. z == y) t false) (operands_of e)) (sym target)

  -- It is not had behind a point where it is not had and not done.
  quiet : {p q : Point} → IsCome g.blocks p → does_at e p ≡ false → (IsDoneAt g.blocks e p → ⊥) → Leads g.blocks p q → NotAll g h is Had p → NotAll g h is Had q
  quiet come idle never (passes {n} {i} {rest} {f}) before =
      not_passes g h is Had Had n i rest f come (λ news j left history are becomes had. passed_had e n news (j ∷ left) history (done_none (within n (i ∷ rest) f) news never are)
      (one_had e (record { block = n; left = length left; instruction = j; wrote = Odd }) (passed_by n news (j ∷ left) history) (becomes_idle (within n (i ∷ rest) f) i j idle becomes) had)) before
  quiet come idle never (leaves {n} {l} {f} among) before = not_leaves g h is Had n l f come before
  quiet come idle never (enters {n} {l} b at) before = not_enters g h is Had Had n l b at come (λ number news history are had. passed_had e number news [] history (done_none (along n l) news never are) had) before

  -- Some path leads to where a point stands to which paths come before.
  reached : {p : Point} → IsCome g.blocks p → NotAll g h is Never p
  reached (begins b at) = not_first g h is Never b at (λ none. none)
  reached (goes come (passes {n} {i} {rest} {f})) = not_passes g h is Never Never n i rest f come (λ news j left history are becomes none. none) (reached come)
  reached (goes come (leaves {n} {l} {f} among)) = not_leaves g h is Never n l f come (reached come)
  reached (goes come (enters {n} {l} b at)) = not_enters g h is Never Never n l b at come (λ number news history are none. none) (reached come)

  -- It is not had behind a write of an operand.
  behind_write : {p q : Point} → IsCome g.blocks p → spoils_at e p ≡ true → Leads g.blocks p q → NotAll g h is Had q
  behind_write come so (passes {n} {i} {rest} {f}) =
      not_passes g h is Had Never n i rest f come (λ news j left history are becomes had. spoiled_had e (record { block = n; left = length left; instruction = j; wrote = Odd }) (passed_by n news (j ∷ left) history)
      (becomes_spoils (within n (i ∷ rest) f) i j becomes ∙ so) had) (reached come)
  behind_write come so (leaves among) = absurd (true≢false (sym so))
  behind_write come so (enters b at) = absurd (true≢false (sym so))

  -- where it is not down-safe it is not done
  unsafe_idle : {p : Point} → IsUnsafe g.blocks e p → does_at e p ≡ false
  unsafe_idle ends = refl
  unsafe_idle (spoiled idle so) = idle
  unsafe_idle (ahead idle step unsafe) = idle

  -- WHERE IT IS NOT UP-SAFE IT IS NOT HAD in the graph after.
  unhad_not_had : {p : Point} → IsUnhad g.blocks e p → NotAll g h is Had p
  unhad_not_had (unhad_at_entry b at) = not_first g h is Had b at (λ had. true≢false (sym had))
  unhad_not_had (unhad_behind come so step) = behind_write come so step
  unhad_not_had (unhad_still unhad unsafe step) = quiet (unhad_come g.blocks e unhad) (unsafe_idle unsafe) (λ done. inserted_safe g.blocks e done.0 done.1 unsafe) step (unhad_not_had unhad)

  -- Where it is inserted and not done, it can't be delayed to any point that comes next.
  pub done_next : {p q : Point} → IsDoneAt g.blocks e p → does_at e p ≡ false → Leads g.blocks p q → IsPast g.blocks e q
  done_next done idle step = latest_next g.blocks e done.0 done.1.0 idle step

  -- that not all paths are so can be shown by what follows from the contrary
  by_contrary : (p : Point) → ((NotAll g h is Had p → ⊥) → ⊥) → NotAll g h is Had p
  by_contrary (within n rest f) so = λ b left last ends a all. so (λ never. never b left last ends a all)
  by_contrary (along n l) so = λ number left last at all. so (λ never. never number left last at all)

  -- WHERE IT CAN BE DELAYED TO, IT IS NOT HAD in the graph after.
  pub delayed_not_had : {p : Point} → IsCome g.blocks p → (IsPast g.blocks e p → ⊥) → NotAll g h is Had p
  delayed_not_had (begins b at) delayed = not_first g h is Had b at (λ had. true≢false (sym had))
  delayed_not_had (goes {p} {q} come step) delayed = by_contrary q (λ contrary. by_earliest contrary (λ late. contrary (later late (delayed_not_had come))))
    where
      -- if it is an earliest point, some path came there along which it was not had
      by_earliest : (NotAll g h is Had q → ⊥) → (IsNotEarliest g.blocks e q → ⊥) → ⊥
      by_earliest contrary earliest = earliest (inr (λ unhad. contrary (unhad_not_had unhad)))

      -- else it could be delayed to the point before, which does not do it
      later : IsNotEarliest g.blocks e q → ((IsPast g.blocks e p → ⊥) → NotAll g h is Had p) → NotAll g h is Had q
      later late before =
          let idle : does_at e p ≡ false = false_from_ne_true (does_at e p) (λ does. delayed (past_done come does step late)) in
          quiet come idle (λ done. delayed (done_next done idle step)) step (before (λ past. delayed (past_still past step late)))

-- ---- Graphs

module _ (u : UnitForm) (g h : Graph) (valid : IsGraph u g) (is : IsMoved g h) where
  -- nothing is asked of the points to which a path comes
  abbrev Anything : List ℕ → History → Point → List Instruction → Type 0
  Anything trail history p passed = Unit {0}

  any_followed : IsFollowed u g h valid is Anything
  any_followed = record {
    first = λ b at. tt;
    new = λ trail history p passed k more n left v come done holds. tt;
    old = λ trail history n i rest f done j left v come are becomes holds. tt;
    leave = λ trail history n l f come among holds. tt;
    enter = λ trail history n l b done come at are holds. tt;
    own = λ trail history n l label come beyond holds. tt;
  }

  module _ (e : Computation) (n : ℕ) (i : Instruction) (rest : List Instruction) (last : End) (computes : computed_by i ≡ Some e) (had : IsHad h e n (i ∷ rest) last) where
    -- It was had before what does not do it.
    had_before : (left passed : List Instruction) → left ≡ passed ++ i ∷ rest → count e passed ≡ 0 → (history : History) → Path h history n left last → is_had e history ≡ true
    had_before left passed parts none history way =
        passed_had e n passed (i ∷ rest) history none (had (passed_by n passed (i ∷ rest) history) (passes_all h history n passed (i ∷ rest) last (subst (λ xs. Path h history n xs last) parts way)))

    -- Among what is done at a point it is the first that does the computation, and the rule inserts that there.
    record IsDoneFirst (p : Point) (passed : List Instruction) : Type 0 where
      none : count e passed ≡ 0
      done : IsDoneAt g.blocks e p

    done_first : (p : Point) (passed more : List Instruction) (k : Instruction) → k ≡ i → AreDone g.blocks g.name_count is.treated p (passed ++ k ∷ more) → IsDoneFirst p passed
    done_first p passed more k same are =
        let parts = count_both e passed (k ∷ more) in
        let one = count_does e k more (does_it e k (ap computed_by same ∙ computes)) in
        elim (done_once g.blocks e p g.name_count is.treated (passed ++ k ∷ more) (treated_apart g.blocks is.treated is.are_treated) are) [
          | inl nothing ↦ absurd (omega (arith, nothing, parts, one))
          | inr once ↦ (let total = once.0 in record { none = omega (arith, total, parts, one); done = once.1.0 })
        ]

    -- before what becomes of an instruction
    at_old : (b : Block) (k : Instruction) (others : List Instruction) → IsCome g.blocks (within n (k ∷ others) b.end) → (passed : List Instruction) (j : Instruction) → AreDone g.blocks g.name_count is.treated (within n (k ∷ others) b.end) passed
        → (becomes : Becomes g.blocks g.name_count is.treated (within n (k ∷ others) b.end) k j) → AtBlock g h is n b (k ∷ others) (passed ++ j ∷ rest) last → i ≡ j → ⊥
    at_old b k others come passed _ done (stays not) at same =
        let it : does e k ≡ true = does_it e k (ap computed_by (sym same) ∙ computes) in
        delayed_not_had g h is e come (λ past. not e (come, (it, inl past))) b (passed ++ k ∷ rest) last refl at
        (had_before (passed ++ k ∷ rest) passed (ap (λ x. passed ++ x ∷ rest) (sym same)) (done_none g h is e (within n (k ∷ others) b.end) passed (λ inserted. not e (come, (it, inr inserted.1.1))) done))
    at_old b k others come passed _ done (reads d m x read there target) at same = none-some e (ap computed_by (sym same) ∙ computes)

    by_where : {trail : List ℕ} {history : History} → Where u g h valid is Anything trail history n (i ∷ rest) last → ⊥
    by_where (inside b k others come passed [] j later done becomes a left_is holds) =
        let are = subst (λ xs. AreDone g.blocks g.name_count is.treated (within n (k ∷ others) b.end) xs) (append_nil passed) done in
        at_old b k others come passed j are becomes (subst (λ xs. AtBlock g h is n b (k ∷ others) (passed ++ j ∷ xs) last) (sym (rest_same left_is)) (before_it g h is n b k j others passed later last are becomes a)) (first_same left_is)
    by_where (inside b k others come passed (r ∷ remaining) j later done becomes a left_is holds) =
        let it = done_first (within n (k ∷ others) b.end) passed remaining r (sym (first_same left_is)) done in
        delayed_not_had g h is e come it.done.1.0.delayed b ((passed ++ r ∷ remaining) ++ j ∷ later) last refl (before_it g h is n b k j others (passed ++ r ∷ remaining) later last done becomes a)
        (had_before ((passed ++ r ∷ remaining) ++ j ∷ later) passed (append_assoc passed (r ∷ remaining) (j ∷ later) ∙ ap (λ xs. passed ++ xs) (sym left_is)) it.none)
    by_where (on_edge m l come passed done at last_is holds) =
        let it = done_first (along m l) passed rest i refl done in
        delayed_not_had g h is e come it.done.1.0.delayed n (passed ++ i ∷ rest) last at (had_before (passed ++ i ∷ rest) passed refl it.none)
    by_where (ending b come a no_jump left_is holds) = not_empty left_is

  -- NOTHING IS COMPUTED AGAIN where code was moved.
  pub nothing_again : HasNothingAgain h
  nothing_again history n i rest f e way computes had = by_where e n i rest f computes had (followed u g h valid is Anything any_followed way)
