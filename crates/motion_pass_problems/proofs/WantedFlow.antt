-- What flows against execution tells where the value of a computation is used.
use Rattle.std.proofs.Common.{◌≡◌, ◌⊎◌, ◌↔◌, inl, inr, ℕ, ◌<◌, Bool, true, false, true≢false, not, ◌&&◌, ◌||◌, List, [], ◌∷◌, ◌++◌, length, Some, None, refl, sym, ap, ◌∙◌, subst}
use Rattle.std.specs.Prelude.{slice_get}
use Rattle.std.proofs.lemmas.Bool.{cases_Bool, or_cases, or_parts, or_from, and_parts, and_from, or_left, or_right, not_from_false}
use Rattle.std.proofs.lemmas.Option.{slice_get_within}
use Rattle.graph_core.specs.Graphs.{Instruction, End, Block}
use Rattle.graph_core.specs.Computations.{Computation}
use Rattle.motion_pass_points.specs.Computing.{does, spoils}
use Rattle.motion_pass_points.specs.Ways.{Point, within, along, passes, leaves, enters, IsUnsafe, IsUnhad, unhad_behind, IsPast, past_still, IsWanted, wanted_here, wanted_later}
use Rattle.motion_pass_points.proofs.Wanted.{earliest_delayed, unhad_unwanted}
use Rattle.motion_pass_points.proofs.Unsafe.{unsafe_along}
use Rattle.motion_pass_points.specs.MotionPointsComputing.{nothing}
use Rattle.motion_pass_problems.specs.Flowing.{HasEdge, FlowsBy, IsBrought, begin, made_by, passed_by}
use Rattle.motion_pass_problems.specs.Facts.{ArePast, AreReached, AreUnhadEnds, AreWanted}
use Rattle.motion_pass_problems.proofs.Bools.{not_true}
use Rattle.motion_pass_problems.proofs.Walks.{first_in, done_in, told_first, told_is_done}
use Rattle.motion_pass_problems.proofs.Standing.{Stands, stands_at, stands_behind, stands_on, edge_from, one_block, come_to, unsafe_here, unhad_before}
use Rattle.motion_pass_problems.proofs.Stepping.{wanted_past, wanted_on, end_used, used_end}
use Rattle.motion_pass_problems.proofs.Reaching.{some_or_none}
use Rattle.motion_pass_problems.proofs.UnsafeFlow.{told_of, AreUnsafe}
use Rattle.motion_pass_problems.proofs.PastFlow.{along_past}

-- THE FOURTH PROBLEM: a computation that is not the latest point itself comes first, in a block or behind it.
pub record IsUsedProblem (blocks : List Block) (reached : ℕ → Bool) (e : Computation) (past_starts past_ends made passed begins : ℕ → Bool) : Type 0 where
  pub makes : (n : ℕ) (b : Block) → slice_get blocks n ≡ Some b → reached n ≡ true → made n ≡ ((told_of e b).first && past_starts n)
  pub lets : (n : ℕ) (b : Block) → slice_get blocks n ≡ Some b → reached n ≡ true → passed n ≡ (past_ends n && not (told_of e b).done)
  pub none_made : (n : ℕ) → slice_get blocks n ≡ None → made n ≡ false
  pub none_passed : (n : ℕ) → slice_get blocks n ≡ None → passed n ≡ false
  pub nowhere : (n : ℕ) → begins n ≡ true → ⊥

module _ (blocks : List Block) (reached : ℕ → Bool) (are : AreReached blocks reached) (e : Computation) (unsafe_ends unsafe_starts unhad_ends past_starts past_ends : ℕ → Bool)
    (unsafe_is : AreUnsafe blocks reached e unsafe_ends) (unhad_is : AreUnhadEnds blocks reached e unhad_ends) (past_is : ArePast blocks reached e unsafe_starts unhad_ends past_starts past_ends) where
  first_told : (b : Block) → (told_of e b).first ≡ first_in e b.instructions
  first_told b = told_first e b.instructions nothing

  done_told : (b : Block) → (told_of e b).done ≡ done_in e b.instructions
  done_told b = told_is_done e b.instructions nothing

  -- a point that stands is down-safe or not
  safe_or_not : {n : ℕ} {before rest : List Instruction} {f : End} → Stands blocks reached n before rest f → IsUnsafe blocks e (within n rest f) ⊎ (IsUnsafe blocks e (within n rest f) → ⊥)
  safe_or_not {n} {before} {rest} {f} s = elim (cases_Bool (unsafe_along e rest (unsafe_ends n))) [
    | inl so ↦ inl ((unsafe_is.each n before rest f s).0 so)
    | inr safe ↦ inr (λ unsafe. true≢false (sym ((unsafe_is.each n before rest f s).1 unsafe) ∙ safe))
  ]

  -- behind a write of an operand nothing is used
  written_unwanted : {n : ℕ} {before : List Instruction} {i : Instruction} {rest : List Instruction} {f : End} → Stands blocks reached n before (i ∷ rest) f → spoils e i ≡ true → IsWanted blocks e (within n rest f) → ⊥
  written_unwanted {n} {before} {i} {rest} {f} s wrote wanted =
      let unhad : IsUnhad blocks e (within n rest f) = unhad_behind (come_to blocks reached are s) wrote passes in
      elim (safe_or_not (stands_on blocks reached s)) [
        | inl unsafe ↦ unhad_unwanted blocks e wanted unhad unsafe
        | inr safe ↦ wanted_past blocks e wanted (earliest_delayed blocks e safe unhad)
      ]

  wanted_through : {n : ℕ} {before : List Instruction} (rest : List Instruction) {f : End} → Stands blocks reached n before rest f → done_in e rest ≡ false → IsWanted blocks e (within n [] f) → IsWanted blocks e (within n rest f)
  wanted_through [] s none end = end
  wanted_through (i ∷ rest) s none end = (let both = or_parts (does e i) (done_in e rest) none in wanted_on blocks reached are e s both.0 (wanted_through rest (stands_on blocks reached s) both.1 end))

  -- a computation that comes first is down-safe before it
  first_safe : {n : ℕ} (rest : List Instruction) {f : End} → first_in e rest ≡ true → IsUnsafe blocks e (within n rest f) → ⊥
  first_safe [] so unsafe = true≢false (sym so)
  first_safe (i ∷ rest) so unsafe =
      let here = unsafe_here blocks reached are e unsafe in
      let next = and_parts (not (spoils e i)) (first_in e rest) (sym (ap (λ b. b || (not (spoils e i) && first_in e rest)) here.0) ∙ so) in
      elim here.1 [
        | inl wrote ↦ true≢false (sym wrote ∙ not_true (spoils e i) next.0)
        | inr more ↦ first_safe rest next.1 more
      ]

  wanted_first : {n : ℕ} {before : List Instruction} (rest : List Instruction) {f : End} → Stands blocks reached n before rest f → IsPast blocks e (within n rest f) → first_in e rest ≡ true → IsWanted blocks e (within n rest f)
  wanted_first [] s past so = absurd (true≢false (sym so))
  wanted_first {n} {before} (i ∷ rest) {f} s past so = elim (cases_Bool (does e i)) [
    | inl done ↦ wanted_here done past
    | inr not_done ↦
        let next = and_parts (not (spoils e i)) (first_in e rest) (sym (ap (λ b. b || (not (spoils e i) && first_in e rest)) not_done) ∙ so) in
        let clean : spoils e i ≡ false = not_true (spoils e i) next.0 in
        let had : IsUnhad blocks e (within n rest f) → ⊥ = λ unhad. elim (unhad_before blocks reached are e s unhad) [
          | inl wrote ↦ true≢false (sym wrote ∙ clean)
          | inr both ↦ first_safe (i ∷ rest) so both.1
        ] in
        wanted_later (λ latest. latest.delayed past) passes (wanted_first rest (stands_on blocks reached s) (past_still past passes (inr had)) next.1)
  ]

  module _ (flags made passed begins_at : ℕ → Bool) (flow : (n : ℕ) → n < length blocks → (flags n ≡ true) ↔ IsBrought (FlowsBy blocks reached false) made passed begins_at n) (is : IsUsedProblem blocks reached e past_starts past_ends made passed begins_at) where
    -- what is used at the start of a block is used before it, where it can't be delayed to its edges
    enter : (n m : ℕ) (edge : HasEdge blocks reached n m) → past_ends n ≡ true → (c : Block) → slice_get blocks m ≡ Some c → IsWanted blocks e (within m c.instructions c.end) → IsWanted blocks e (within n [] edge.block.end)
    enter n m edge behind c at wanted =
        let end = (past_is.end n edge.block edge.is edge.comes).0 behind in
        let past = along_past blocks reached are e unsafe_ends unhad_ends unsafe_is unhad_is n m edge end.0 end.1 in
        wanted_later (λ latest. latest.delayed end.1) (leaves edge.leads) (wanted_later (λ latest. latest.delayed past) (enters c at) wanted)

    start_wanted : (m : ℕ) (c : Block) → slice_get blocks m ≡ Some c → reached m ≡ true → (x : Bool) → (x ≡ true → past_ends m ≡ true → IsWanted blocks e (within m [] c.end)) → (made m || (x && passed m)) ≡ true → IsWanted blocks e (within m c.instructions c.end)
    start_wanted m c at comes x end so = elim (or_cases (made m) (x && passed m) so) [
      | inl makes_it ↦ (let both = and_parts (told_of e c).first (past_starts m) (sym (is.makes m c at comes) ∙ makes_it) in
          wanted_first c.instructions (stands_at blocks reached m c at comes) ((past_is.start m c at comes).0 both.1) (sym (first_told c) ∙ both.0))
      | inr through ↦ (let both = and_parts x (passed m) through in
          let lets_it = and_parts (past_ends m) (not (told_of e c).done) (sym (is.lets m c at comes) ∙ both.1) in
          wanted_through c.instructions (stands_at blocks reached m c at comes) (sym (done_told c) ∙ not_true (told_of e c).done lets_it.1) (end both.0 lets_it.0))
    ]

    brought_wanted : {n : ℕ} → IsBrought (FlowsBy blocks reached false) made passed begins_at n → (b : Block) → slice_get blocks n ≡ Some b → past_ends n ≡ true → IsWanted blocks e (within n [] b.end)
    brought_wanted {n} (begin so) b at behind = absurd (is.nowhere n so)
    brought_wanted {n} (made_by {m} edge so) b at behind = elim (some_or_none (slice_get blocks m)) [
      | inl there ↦ subst (λ (d : Block). IsWanted blocks e (within n [] d.end)) (one_block blocks reached n edge.block b edge.is at)
          (enter n m edge behind there.0 there.1 (start_wanted m there.0 there.1 (are.closed n m edge there.0 there.1) false (λ never. absurd (true≢false (sym never))) (or_left (made m) (false && passed m) so)))
      | inr none ↦ absurd (true≢false (sym so ∙ is.none_made m none))
    ]
    brought_wanted {n} (passed_by {m} edge so way) b at behind = elim (some_or_none (slice_get blocks m)) [
      | inl there ↦ go there.0 there.1 (brought_wanted way there.0 there.1)
      | inr none ↦ absurd (true≢false (sym so ∙ is.none_passed m none))
    ]
      where
        go : (c : Block) → slice_get blocks m ≡ Some c → (past_ends m ≡ true → IsWanted blocks e (within m [] c.end)) → IsWanted blocks e (within n [] b.end)
        go c there end = subst (λ (d : Block). IsWanted blocks e (within n [] d.end)) (one_block blocks reached n edge.block b edge.is at)
            (enter n m edge behind c there (start_wanted m c there (are.closed n m edge c there) true (λ yes. end) (or_right (made m) (true && passed m) so)))

    -- what is used, flags tell
    abbrev Tells : Point → Type 0
    Tells (within n rest f) = (before : List Instruction) → Stands blocks reached n before rest f → (first_in e rest ≡ true) ⊎ ((done_in e rest ≡ false) × ((flags n && past_ends n) ≡ true))
    Tells (along n l) = HasEdge blocks reached n l → flags n ≡ true

    behind_end : {n : ℕ} (b : Block) → slice_get blocks n ≡ Some b → reached n ≡ true → IsWanted blocks e (within n [] b.end) → past_ends n ≡ true
    behind_end {n} b at comes wanted = elim (cases_Bool (past_ends n)) [
      | inl so ↦ so
      | inr early ↦ absurd (wanted_past blocks e wanted (λ past. true≢false (sym ((past_is.end n b at comes).1 (had, past)) ∙ early)))
    ]
      where
        had : unhad_ends n ≡ false
        had = elim (cases_Bool (unhad_ends n)) [
          | inl unhad ↦ (let both = (unhad_is n b at comes).0 unhad in absurd (unhad_unwanted blocks e wanted both.1 both.0))
          | inr is_had ↦ is_had
        ]

    wanted_tells : {p : Point} → IsWanted blocks e p → Tells p
    wanted_tells {p = within n [] f} (wanted_here done past) = absurd (true≢false (sym done))
    wanted_tells {p = within n (i ∷ rest) f} (wanted_here done past) = λ before s. inl (or_left (does e i) (not (spoils e i) && first_in e rest) done)
    wanted_tells {p = along n l} (wanted_here done past) = absurd (true≢false (sym done))
    wanted_tells (wanted_later not_latest (passes {n} {i} {rest} {f}) wanted) = on (wanted_tells wanted)
      where
        on : Tells (within n rest f) → Tells (within n (i ∷ rest) f)
        on tells before s = elim (cases_Bool (does e i)) [
          | inl done ↦ inl (or_left (does e i) (not (spoils e i) && first_in e rest) done)
          | inr not_done ↦ elim (cases_Bool (spoils e i)) [
            | inl wrote ↦ absurd (written_unwanted s wrote wanted)
            | inr clean ↦ elim (tells (before ++ i ∷ []) (stands_on blocks reached s)) [
              | inl first ↦ inl (or_right (does e i) (not (spoils e i) && first_in e rest) (and_from (not (spoils e i)) (first_in e rest) (not_from_false (spoils e i) clean) first))
              | inr both ↦ inr (or_from (does e i) (done_in e rest) not_done both.0, both.1)
            ]
          ]
        ]
    wanted_tells (wanted_later not_latest (leaves {n} {l} {f} among) wanted) = on (wanted_tells wanted)
      where
        on : Tells (along n l) → Tells (within n [] f)
        on tells before s = inr (refl, and_from (flags n) (past_ends n) (tells (edge_from blocks reached s among)) (behind_end s.block s.is s.comes (subst (λ g. IsWanted blocks e (within n [] g)) s.end (wanted_later not_latest (leaves among) wanted))))
    wanted_tells (wanted_later not_latest (enters {n} {l} b at) wanted) = on (wanted_tells wanted)
      where
        on : Tells (within l b.instructions b.end) → Tells (along n l)
        on tells edge =
            let comes = are.closed n l edge b at in
            let size = slice_get_within blocks n edge.block edge.is in
            elim (tells [] (stands_at blocks reached l b at comes)) [
              | inl first ↦ (flow n size).1 (made_by edge (is.makes l b at comes ∙ and_from (told_of e b).first (past_starts l) (first_told b ∙ first) (starts_past l b at comes wanted)))
              | inr both ↦ (let used = and_parts (flags l) (past_ends l) both.1 in
                  (flow n size).1 (passed_by edge (is.lets l b at comes ∙ and_from (past_ends l) (not (told_of e b).done) used.1 (not_from_false (told_of e b).done (done_told b ∙ both.0))) ((flow l (slice_get_within blocks l b at)).0 used.0)))
            ]
          where
            starts_past : (l : ℕ) (b : Block) → slice_get blocks l ≡ Some b → reached l ≡ true → IsWanted blocks e (within l b.instructions b.end) → past_starts l ≡ true
            starts_past l b at comes wanted = elim (cases_Bool (past_starts l)) [
              | inl so ↦ so
              | inr early ↦ absurd (wanted_past blocks e wanted (λ past. true≢false (sym ((past_is.start l b at comes).1 past) ∙ early)))
            ]

    end_is : (n : ℕ) (b : Block) → slice_get blocks n ≡ Some b → reached n ≡ true → ((flags n && past_ends n) ≡ true) ↔ IsWanted blocks e (within n [] b.end)
    end_is n b at comes = (λ so. (let both = and_parts (flags n) (past_ends n) so in brought_wanted ((flow n (slice_get_within blocks n b at)).0 both.0) b at both.1), λ wanted. at_end (wanted_tells wanted))
      where
        at_end : Tells (within n [] b.end) → (flags n && past_ends n) ≡ true
        at_end tells = elim (tells b.instructions (stands_behind blocks reached n b at comes)) [ inl first ↦ absurd (true≢false (sym first)) | inr both ↦ both.1 ]

    start_is : (n : ℕ) (b : Block) → slice_get blocks n ≡ Some b → reached n ≡ true → ((made n || (flags n && passed n)) ≡ true) ↔ IsWanted blocks e (within n b.instructions b.end)
    start_is n b at comes = (λ so. start_wanted n b at comes (flags n) (λ flag behind. (end_is n b at comes).0 (and_from (flags n) (past_ends n) flag behind)) so, λ wanted. at_start wanted (wanted_tells wanted))
      where
        at_start : IsWanted blocks e (within n b.instructions b.end) → Tells (within n b.instructions b.end) → (made n || (flags n && passed n)) ≡ true
        at_start wanted tells = elim (tells [] (stands_at blocks reached n b at comes)) [
          | inl first ↦ or_left (made n) (flags n && passed n) (is.makes n b at comes ∙ and_from (told_of e b).first (past_starts n) (first_told b ∙ first) (elim (cases_Bool (past_starts n)) [
            | inl so ↦ so
            | inr early ↦ absurd (wanted_past blocks e wanted (λ past. true≢false (sym ((past_is.start n b at comes).1 past) ∙ early)))
          ]))
          | inr both ↦ (let used = and_parts (flags n) (past_ends n) both.1 in
              or_right (made n) (flags n && passed n) (and_from (flags n) (passed n) used.0 (is.lets n b at comes ∙ and_from (past_ends n) (not (told_of e b).done) used.1 (not_from_false (told_of e b).done (done_told b ∙ both.0)))))
        ]

    -- THE FLAGS TELL WHERE THE VALUE IS USED.
    pub are_wanted : AreWanted blocks reached e (λ n. made n || (flags n && passed n)) (λ n. flags n && past_ends n)
    are_wanted = record {
      start = start_is;
      end = λ n b at comes. (λ so. end_used blocks reached are e ((end_is n b at comes).0 so), λ used. (end_is n b at comes).1 (used_end blocks reached are e n b at used));
    }
