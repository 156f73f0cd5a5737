-- What flows with execution tells where a computation can't be delayed to.
use Rattle.std.proofs.Common.{◌≡◌, ◌↔◌, inl, inr, ℕ, ◌<◌, Bool, true, false, true≢false, not, ◌&&◌, ◌||◌, List, [], ◌∷◌, ◌++◌, length, Some, refl, sym, ap, ◌∙◌, subst}
use Rattle.std.specs.Prelude.{slice_get}
use Rattle.std.proofs.lemmas.Bool.{cases_Bool, or_cases, and_parts, and_from, or_left, or_right, or_parts, not_from_false}
use Rattle.std.proofs.lemmas.List.{append-nil, append_cancel_right}
use Rattle.std.proofs.lemmas.Option.{slice_get_within}
use Rattle.graph_core.specs.Graphs.{Instruction, End, Block}
use Rattle.graph_core.specs.Uses.{targets_of}
use Rattle.graph_core.specs.Paths.{Among}
use Rattle.graph_core.specs.Computations.{Computation}
use Rattle.motion_pass_points.specs.Computing.{does, spoils}
use Rattle.motion_pass_points.specs.Ways.{Point, within, along, passes, leaves, enters, goes, IsUnsafe, ahead, unhad_at_entry, unhad_behind, unhad_still, IsNotEarliest, IsPast, past_at_entry, past_done, past_still}
use Rattle.motion_pass_points.proofs.Wanted.{past_unsafe}
use Rattle.motion_pass_points.proofs.Unsafe.{unsafe_along}
use Rattle.motion_pass_points.specs.MotionPointsComputing.{nothing}
use Rattle.motion_pass_problems.specs.Flowing.{HasEdge, FlowsBy, IsBrought, begin, made_by, passed_by}
use Rattle.motion_pass_problems.specs.Facts.{ArePast, AreReached, AreUnhadEnds}
use Rattle.motion_pass_problems.proofs.Bools.{or_false, and_false, not_true}
use Rattle.motion_pass_problems.proofs.Walks.{past_walk, past_out, past_told, past_snoc, done_in, quiet_along}
use Rattle.motion_pass_problems.proofs.Standing.{Stands, stands_at, stands_behind, stands_on, edge_from, one_block, come_at, come_to, unsafe_edge, unhad_edge, unhad_start}
use Rattle.motion_pass_problems.proofs.Stepping.{past_walked, safe_here}
use Rattle.motion_pass_problems.proofs.UnsafeFlow.{told_of, AreUnsafe}
use Rattle.motion_pass_problems.proofs.UnhadFlow.{leaving_of}

-- THE THIRD PROBLEM: done, or not down-safe, and no earliest point since.
pub record IsPastProblem (blocks : List Block) (reached : ℕ → Bool) (e : Computation) (unsafe unhad made passed begins : ℕ → Bool) : Type 0 where
  pub makes : (n : ℕ) (b : Block) → slice_get blocks n ≡ Some b → reached n ≡ true → made n ≡ (((told_of e b).last || ((told_of e b).written && unsafe n)) && not (unhad n))
  pub lets : (n : ℕ) (b : Block) → slice_get blocks n ≡ Some b → reached n ≡ true → passed n ≡ (not (told_of e b).written && not (unhad n))
  pub starts : (n : ℕ) (b : Block) → slice_get blocks n ≡ Some b → reached n ≡ true → begins n ≡ unsafe_along e b.instructions (unsafe n)

module _ (blocks : List Block) (reached : ℕ → Bool) (are : AreReached blocks reached) (e : Computation) (unsafe_ends unhad_ends : ℕ → Bool) (unsafe_is : AreUnsafe blocks reached e unsafe_ends) (unhad_is : AreUnhadEnds blocks reached e unhad_ends) where
  pub along_past : (m n : ℕ) (edge : HasEdge blocks reached m n) → unhad_ends m ≡ false → IsPast blocks e (within m [] edge.block.end) → IsPast blocks e (along m n)
  along_past m n edge had past = past_still past (leaves edge.leads) (inr (λ unhad.
      (let both = unhad_edge blocks reached are e edge.block edge.is unhad in
      true≢false (sym ((unhad_is m edge.block edge.is edge.comes).1 (both.1, both.0)) ∙ had))))

  unsafe_block : (n : ℕ) (b : Block) → slice_get blocks n ≡ Some b → reached n ≡ true → (unsafe_along e b.instructions (unsafe_ends n) ≡ true) ↔ IsUnsafe blocks e (within n b.instructions b.end)
  unsafe_block n b at comes = unsafe_is.each n [] b.instructions b.end (stands_at blocks reached n b at comes)

  unsafe_end : (n : ℕ) (b : Block) → slice_get blocks n ≡ Some b → reached n ≡ true → (unsafe_ends n ≡ true) ↔ IsUnsafe blocks e (within n [] b.end)
  unsafe_end n b at comes = unsafe_is.each n b.instructions [] b.end (stands_behind blocks reached n b at comes)

  module _ (back : (m : ℕ) → HasEdge blocks reached m 0 → ⊥) (flags made passed begins_at : ℕ → Bool) (flow : (n : ℕ) → n < length blocks → (flags n ≡ true) ↔ IsBrought (FlowsBy blocks reached true) made passed begins_at n) (is : IsPastProblem blocks reached e unsafe_ends unhad_ends made passed begins_at) where
    -- what can't be delayed to the end of a block
    end_past : (n : ℕ) (b : Block) → slice_get blocks n ≡ Some b → reached n ≡ true → (x : Bool) → (x ≡ true → IsPast blocks e (within n b.instructions b.end)) → (made n || (x && passed n)) ≡ true → (unhad_ends n ≡ false) × IsPast blocks e (within n [] b.end)
    end_past n b at comes x so leaves_it = (
      had,
      elim (cases_Bool (unsafe_ends n)) [
        | inl unsafe ↦ past_unsafe blocks e (come_to blocks reached are (stands_behind blocks reached n b at comes)) ((unsafe_end n b at comes).0 unsafe)
        | inr safe ↦ past_walked blocks reached are e b.instructions (stands_at blocks reached n b at comes) x (λ _ flag. so flag) (λ unsafe. true≢false (sym ((unsafe_end n b at comes).1 unsafe) ∙ safe)) (past_told e b.instructions x ∙ flagged safe)
      ],
    )
      where
        had : unhad_ends n ≡ false
        had = elim (or_cases (made n) (x && passed n) leaves_it) [
          | inl m ↦ not_true (unhad_ends n) (and_parts ((told_of e b).last || ((told_of e b).written && unsafe_ends n)) (not (unhad_ends n)) (sym (is.makes n b at comes) ∙ m)).1
          | inr p ↦ not_true (unhad_ends n) (and_parts (not (told_of e b).written) (not (unhad_ends n)) (sym (is.lets n b at comes) ∙ (and_parts x (passed n) p).1)).1
        ]

        flagged : unsafe_ends n ≡ false → past_out (told_of e b) x ≡ true
        flagged safe = elim (or_cases (made n) (x && passed n) leaves_it) [
          | inl m ↦ or_left (told_of e b).last (not (told_of e b).written && x) (sym (ap (λ u. (told_of e b).last || ((told_of e b).written && u)) safe ∙ ap (λ c. (told_of e b).last || c) (and_false (told_of e b).written) ∙ or_false (told_of e b).last) ∙ (and_parts ((told_of e b).last || ((told_of e b).written && unsafe_ends n)) (not (unhad_ends n)) (sym (is.makes n b at comes) ∙ m)).0)
          | inr p ↦ (let both = and_parts x (passed n) p in or_right (told_of e b).last (not (told_of e b).written && x) (and_from (not (told_of e b).written) x (and_parts (not (told_of e b).written) (not (unhad_ends n)) (sym (is.lets n b at comes) ∙ both.1)).0 both.0))
        ]

    -- what can't be delayed to an edge can't be to the block to which it leads
    enter : (m n : ℕ) → HasEdge blocks reached m n → (b : Block) → slice_get blocks n ≡ Some b → IsPast blocks e (along m n) → IsPast blocks e (within n b.instructions b.end)
    enter m n edge b at past = past_still past (enters b at) (elim (cases_Bool (unsafe_along e b.instructions (unsafe_ends n))) [
      | inl unsafe ↦ inl ((unsafe_block n b at comes).0 unsafe)
      | inr safe ↦ inr (λ unhad. elim (unhad_start blocks reached are e b at refl unhad) [
        | inl first ↦ back m (subst (HasEdge blocks reached m) first edge)
        | inr some ↦ true≢false (sym ((unsafe_block n b at comes).1 (unsafe_edge blocks reached are e b at some.1.1)) ∙ safe)
      ])
    ])
      where
        comes : reached n ≡ true
        comes = are.closed m n edge b at

    brought_past : {n : ℕ} → IsBrought (FlowsBy blocks reached true) made passed begins_at n → (b : Block) → slice_get blocks n ≡ Some b → reached n ≡ true → IsPast blocks e (within n b.instructions b.end)
    brought_past {n} (begin so) b at comes = past_unsafe blocks e (come_to blocks reached are (stands_at blocks reached n b at comes)) ((unsafe_block n b at comes).0 (sym (is.starts n b at comes) ∙ so))
    brought_past {n} (made_by {m} edge so) b at comes =
        (let end = end_past m edge.block edge.is edge.comes false (λ never. absurd (true≢false (sym never))) (or_left (made m) (false && passed m) so) in
        enter m n edge b at (along_past m n edge end.0 end.1))
    brought_past {n} (passed_by {m} edge so way) b at comes =
        (let end = end_past m edge.block edge.is edge.comes true (λ yes. brought_past way edge.block edge.is edge.comes) (or_right (made m) (true && passed m) so) in
        enter m n edge b at (along_past m n edge end.0 end.1))

    -- what can't be delayed to a point, flags tell where it is down-safe
    abbrev Tells : Point → Type 0
    Tells (within n rest f) = (before : List Instruction) × (Stands blocks reached n before rest f × ((IsUnsafe blocks e (within n rest f) → ⊥) → past_walk e before (flags n) ≡ true))
    Tells (along n l) = HasEdge blocks reached n l × ((IsUnsafe blocks e (along n l) → ⊥) → leaving_of made passed flags n ≡ true)

    clean_behind : {n : ℕ} {before : List Instruction} {i : Instruction} {rest : List Instruction} {f : End} → Stands blocks reached n before (i ∷ rest) f → IsNotEarliest blocks e (within n rest f) → (IsUnsafe blocks e (within n rest f) → ⊥) → spoils e i ≡ false
    clean_behind {n} {before} {i} s late safe = elim (cases_Bool (spoils e i)) [
      | inl wrote ↦ absurd (elim late [ inl unsafe ↦ safe unsafe | inr had ↦ had (unhad_behind (come_to blocks reached are s) wrote passes) ])
      | inr clean ↦ clean
    ]

    -- a flag for what leaves a block
    leave : (n : ℕ) (b : Block) → slice_get blocks n ≡ Some b → reached n ≡ true → unhad_ends n ≡ false → ((IsUnsafe blocks e (within n [] b.end) → ⊥) → past_walk e b.instructions (flags n) ≡ true) → leaving_of made passed flags n ≡ true
    leave n b at comes had so = elim (cases_Bool (unsafe_ends n)) [
      | inl unsafe ↦ unsafe_leaves unsafe
      | inr safe ↦ safe_leaves (λ unsafe. true≢false (sym ((unsafe_end n b at comes).1 unsafe) ∙ safe))
    ]
      where
        makes_it : ((told_of e b).last || ((told_of e b).written && unsafe_ends n)) ≡ true → leaving_of made passed flags n ≡ true
        makes_it so = or_left (made n) (flags n && passed n) (is.makes n b at comes ∙ and_from ((told_of e b).last || ((told_of e b).written && unsafe_ends n)) (not (unhad_ends n)) so (not_from_false (unhad_ends n) had))

        lets_it : (told_of e b).written ≡ false → flags n ≡ true → leaving_of made passed flags n ≡ true
        lets_it clean flag = or_right (made n) (flags n && passed n) (and_from (flags n) (passed n) flag (is.lets n b at comes ∙ and_from (not (told_of e b).written) (not (unhad_ends n)) (not_from_false (told_of e b).written clean) (not_from_false (unhad_ends n) had)))

        safe_leaves : (IsUnsafe blocks e (within n [] b.end) → ⊥) → leaving_of made passed flags n ≡ true
        safe_leaves safe = elim (or_cases (told_of e b).last (not (told_of e b).written && flags n) (sym (past_told e b.instructions (flags n)) ∙ so safe)) [
          | inl last ↦ makes_it (or_left (told_of e b).last ((told_of e b).written && unsafe_ends n) last)
          | inr through ↦ (let both = and_parts (not (told_of e b).written) (flags n) through in lets_it (not_true (told_of e b).written both.0) both.1)
        ]

        unsafe_leaves : unsafe_ends n ≡ true → leaving_of made passed flags n ≡ true
        unsafe_leaves unsafe = elim (cases_Bool (told_of e b).last) [
          | inl last ↦ makes_it (or_left (told_of e b).last ((told_of e b).written && unsafe_ends n) last)
          | inr not_last ↦ elim (cases_Bool (told_of e b).written) [
            | inl wrote ↦ makes_it (or_right (told_of e b).last ((told_of e b).written && unsafe_ends n) (and_from (told_of e b).written (unsafe_ends n) wrote unsafe))
            | inr clean ↦ lets_it clean ((flow n (slice_get_within blocks n b at)).1 (begin (is.starts n b at comes ∙ open' (quiet_along e b.instructions nothing not_last clean).0)))
          ]
        ]
          where
            still : (all : List Instruction) → done_in e all ≡ false → unsafe_along e all true ≡ true
            still [] none = refl
            still (i ∷ rest) none = (let both = or_parts (does e i) (done_in e rest) none in and_from (not (does e i)) (spoils e i || unsafe_along e rest true) (not_from_false (does e i) both.0) (or_right (spoils e i) (unsafe_along e rest true) (still rest both.1)))

            open' : done_in e b.instructions ≡ false → unsafe_along e b.instructions (unsafe_ends n) ≡ true
            open' none = ap (unsafe_along e b.instructions) unsafe ∙ still b.instructions none

    past_tells : {p : Point} → IsPast blocks e p → Tells p
    past_tells (past_at_entry b at late) = ([], (stands_at blocks reached 0 b at (are.first b at), λ safe. absurd (elim late [ inl unsafe ↦ safe unsafe | inr had ↦ had (unhad_at_entry b at) ])))
    past_tells (past_done come done (passes {n} {i} {rest} {f}) late) =
        (let here = come_at blocks reached are come in (
          here.0 ++ i ∷ [],
          (
            stands_on blocks reached here.1,
            λ safe.
                past_snoc e here.0 i (flags n) ∙ and_from (past_walk e here.0 (flags n) || does e i) (not (spoils e i)) (or_right (past_walk e here.0 (flags n)) (does e i) done) (not_from_false (spoils e i) (clean_behind here.1 late safe)),
          ),
        ))
    past_tells (past_done come done (leaves among) late) = absurd (true≢false (sym done))
    past_tells (past_done come done (enters b at) late) = absurd (true≢false (sym done))
    past_tells (past_still past (passes {n} {i} {rest} {f}) late) = on (past_tells past)
      where
        on : Tells (within n (i ∷ rest) f) → Tells (within n rest f)
        on here = (
          here.0 ++ i ∷ [],
          (
            stands_on blocks reached here.1.0,
            λ safe.
                (let clean = clean_behind here.1.0 late safe in
                past_snoc e here.0 i (flags n) ∙ and_from (past_walk e here.0 (flags n) || does e i) (not (spoils e i)) (or_left (past_walk e here.0 (flags n)) (does e i) (here.1.1 (safe_here blocks reached are e clean safe))) (not_from_false (spoils e i) clean)),
          ),
        )
    past_tells (past_still past (leaves {n} {l} {f} among) late) = on (past_tells past)
      where
        on : Tells (within n [] f) → Tells (along n l)
        on here =
            let s = here.1.0 in
            let all : here.0 ≡ s.block.instructions = sym (append-nil here.0) ∙ s.parts in (
              edge_from blocks reached s among,
              λ safe.
                  leave n s.block s.is s.comes (had s safe) (λ safe_end.
                  ap (λ xs. past_walk e xs (flags n)) (sym all) ∙ here.1.1 (λ unsafe. safe_end (subst (λ g. IsUnsafe blocks e (within n [] g)) s.end unsafe))),
            )
          where
            had : {before : List Instruction} → (s : Stands blocks reached n before [] f) → (IsUnsafe blocks e (along n l) → ⊥) → unhad_ends n ≡ false
            had s safe = elim (cases_Bool (unhad_ends n)) [
              | inl unhad ↦ (let both = (unhad_is n s.block s.is s.comes).0 unhad in absurd (elim late [
                | inl unsafe ↦ safe unsafe
                | inr has_it ↦ has_it (unhad_still both.1 both.0 (leaves (subst (λ g. Among l (targets_of g)) s.end among)))
              ]))
              | inr is_had ↦ is_had
            ]
    past_tells (past_still past (enters {n} {l} b at) late) = on (past_tells past)
      where
        on : Tells (along n l) → Tells (within l b.instructions b.end)
        on here =
            let edge = here.0 in (
              [],
              (
                stands_at blocks reached l b at (are.closed n l edge b at),
                λ safe.
                    elim (or_cases (made n) (flags n && passed n) (here.1 (λ unsafe. safe (unsafe_edge blocks reached are e b at unsafe)))) [
                      | inl makes_it ↦ (flow l (slice_get_within blocks l b at)).1 (made_by edge makes_it)
                      | inr passes_it ↦ (let both = and_parts (flags n) (passed n) passes_it in (flow l (slice_get_within blocks l b at)).1 (passed_by edge both.1 ((flow n (slice_get_within blocks n edge.block edge.is)).0 both.0)))
                    ],
              ),
            )

    start_is : (n : ℕ) (b : Block) → slice_get blocks n ≡ Some b → reached n ≡ true → (flags n ≡ true) ↔ IsPast blocks e (within n b.instructions b.end)
    start_is n b at comes = (
      λ flag. brought_past ((flow n (slice_get_within blocks n b at)).0 flag) b at comes,
      λ past. elim (cases_Bool (unsafe_along e b.instructions (unsafe_ends n))) [
        | inl unsafe ↦ (flow n (slice_get_within blocks n b at)).1 (begin (is.starts n b at comes ∙ unsafe))
        | inr safe ↦ at_start (past_tells past) (λ unsafe. true≢false (sym ((unsafe_block n b at comes).1 unsafe) ∙ safe))
      ],
    )
      where
        at_start : Tells (within n b.instructions b.end) → (IsUnsafe blocks e (within n b.instructions b.end) → ⊥) → flags n ≡ true
        at_start here safe =
            let none : here.0 ≡ [] = append_cancel_right here.0 [] b.instructions (here.1.0.parts ∙ ap (λ (c : Block). c.instructions) (one_block blocks reached n here.1.0.block b here.1.0.is at)) in
            ap (λ xs. past_walk e xs (flags n)) (sym none) ∙ here.1.1 safe

    end_is : (n : ℕ) (b : Block) → slice_get blocks n ≡ Some b → reached n ≡ true → (leaving_of made passed flags n ≡ true) ↔ ((unhad_ends n ≡ false) × IsPast blocks e (within n [] b.end))
    end_is n b at comes = (λ leaves_it. end_past n b at comes (flags n) (λ flag. (start_is n b at comes).0 flag) leaves_it, λ both. leave n b at comes both.0 (λ safe. at_end (past_tells both.1) safe))
      where
        at_end : Tells (within n [] b.end) → (IsUnsafe blocks e (within n [] b.end) → ⊥) → past_walk e b.instructions (flags n) ≡ true
        at_end here safe =
            let all : here.0 ≡ b.instructions = sym (append-nil here.0) ∙ here.1.0.parts ∙ ap (λ (c : Block). c.instructions) (one_block blocks reached n here.1.0.block b here.1.0.is at) in
            ap (λ xs. past_walk e xs (flags n)) (sym all) ∙ here.1.1 safe

    -- THE FLAGS TELL WHERE THE COMPUTATION CAN'T BE DELAYED TO.
    pub are_past : ArePast blocks reached e begins_at unhad_ends flags (leaving_of made passed flags)
    are_past = record {
      start = start_is;
      end = end_is;
      edge = λ m n edge b at.
          (let comes = are.closed m n edge b at in (
            λ so. elim (or_cases (leaving_of made passed flags m) (begins_at n) so) [
              | inl leaves_it ↦ (let end = (end_is m edge.block edge.is edge.comes).0 leaves_it in along_past m n edge end.0 end.1)
              | inr unsafe ↦ past_unsafe blocks e (goes (come_to blocks reached are (stands_behind blocks reached m edge.block edge.is edge.comes)) (leaves edge.leads)) (ahead refl (enters b at) ((unsafe_block n b at comes).0 (sym (is.starts n b at comes) ∙ unsafe)))
            ],
            λ past. elim (cases_Bool (unsafe_along e b.instructions (unsafe_ends n))) [
              | inl unsafe ↦ or_right (leaving_of made passed flags m) (begins_at n) (is.starts n b at comes ∙ unsafe)
              | inr safe ↦ or_left (leaving_of made passed flags m) (begins_at n) ((past_tells past).1 (λ unsafe. true≢false (sym ((unsafe_block n b at comes).1 (unsafe_edge blocks reached are e b at unsafe)) ∙ safe)))
            ],
          ));
    }
