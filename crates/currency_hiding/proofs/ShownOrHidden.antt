-- A scalar that its home does not show at a place in scope is hidden by evidence: along each path its home holds its value, or a change and a way tell why it may not.
use Rattle.std.proofs.Common.{◌≡◌, ◌≢◌, inl, inr, ℕ, zero, suc, ◌+◌, ◌-◌, ◌<◌, Bool, true, false, Option, Some, None, List, [], ◌∷◌, ◌++◌, length, slice_get, refl, sym, ap, subst, ◌∙◌, arith}
use Rattle.std.specs.Prelude.{◌⊎◌, ◌==◌, ◌||◌, if◌then◌else◌}
use Rattle.std.specs.Option.{option_map_or}
use Rattle.std.specs.List.{AllByRecursion}
use Rattle.std.proofs.lemmas.Bool.Decides.{eqb_tells, leb_tells}
use Rattle.std.proofs.lemmas.Option.{none-some, slice_get_within}
use Rattle.places.specs.declared.flow.FlowTable.{FlowTable}
use Rattle.places.specs.Flow.{can_go, assigns}
use Rattle.places.specs.Path.{quest_by}
use Rattle.graph_homes.specs.declared.home.Home.{Home}
use Rattle.graph_homes.specs.declared.home.Home.TheVariants.{Register, Slot}
use Rattle.graph_homes.specs.Homes.{is_same_home, is_home_of, bound_last, last_writer, written_since, Holds, HoldsOnAllPaths}
use Rattle.graph_homes.specs.Reused.{IsTemporaryOf}
use Rattle.graph_core.specs.Graphs.{Name, Of, NoteValue, Is, Instruction, Marker, Note, End, Binding, ToScalar, ToObject, Graph, Logged, UnitForm}
use Rattle.graph_core.specs.Uses.{target_of}
use Rattle.graph_core.specs.Paths.{Among, front, behind, Passed, History, Path, place_by, place_of, writes, is_marker, notes, is_bound, bound_at, written, owed, owed_by, note_by, last_note}
use Rattle.graph_core.specs.Points.{StandsWith}
use Rattle.graph_core.specs.Validity.{AreAllDifferent, IsBinding, IsBlock, IsGraph, IsInstruction, markers_of_blocks}
use Rattle.graph_core.specs.WellMarked.{IsVariable, IsWellMarked, WasTaken, WrittenIn, instruction as by_instruction, bound as by_binding}
use Rattle.graph_core_weights.proofs.Standing.{in_place, marker_once}
use Rattle.graph_core_weights.proofs.Passing.{Before, Kind, IsPlain, marks, noting, plain, Stands, kind_of, path_before, stands, target_low}
use Rattle.graph_core_weights.proofs.Placing.{StandsAt, path_in_place, place_before, stands_at}
use Rattle.base_laws.proofs.Booleans.{if_false, if_true, or_none, or_right, two_true}
use Rattle.base_laws.proofs.Lists.{all_there, all_within}
use Rattle.base_laws.proofs.Numbers.{no as no_truth}
use Rattle.base_laws.proofs.Options.{some_same}
use Rattle.currency_notes.proofs.Lists.{among_at}
use Rattle.currency_writers.specs.declared.writers.Writer as declared-writer
use Rattle.currency_writers.specs.declared.writers.Writer.TheVariants as writer
use Rattle.currency_writers.specs.Ways.{Comes, at_once, on}
use Rattle.currency_writers.specs.Writers.{IsWriter, instruction, parameter}
use Rattle.currency_writers.proofs.Routes.{route_by}
use Rattle.currency_hiding.specs.declared.causes.Cause as declared-cause
use Rattle.currency_hiding.specs.declared.causes.Cause.TheVariants as cause
use Rattle.currency_hiding.specs.Changes.{IsNumbered}
use Rattle.currency_hiding.specs.Evidence.{IsBareRemoval, IsMovedWrite, IsReusedWrite}
use Rattle.currency_hiding.specs.First.{HasNone, IsLastShared, IsShared, MayBeTold}

-- one home
same_home : (k : Home) → is_same_home k k ≡ true
same_home (Register r) = elim (eqb_tells r r) [ inl e ↦ e.0 | inr e ↦ absurd (e.1 refl) ]
same_home (Slot r) = elim (eqb_tells r r) [ inl e ↦ e.0 | inr e ↦ absurd (e.1 refl) ]

either : (a : Bool) → (a ≡ true) ⊎ (a ≡ false)
either true = inl refl
either false = inr refl

-- a change of a log has a number
pub numbered : (log : List Logged) (c : Logged) → Among c log → (n : ℕ) × IsNumbered log n c
numbered log c among =
    (let at = among_at log among in
    let same : at.0 + 1 - 1 ≡ at.0 = omega arith in
    (at.0 + 1, record { some = omega arith; is = ap (λ n. slice_get log n) same ∙ at.1 }))

-- what is written in a place of a valid graph is one of its names
pub writer_low : (u : UnitForm) (g : Graph) (f : ℕ) → IsGraph u g → (p y : ℕ) (w : declared-writer.Writer) → IsWriter f g p y w → y < g.name_count
writer_low u g f valid p y _ (instruction {n} {i} {rest} at target) =
    (let block : IsBlock u g at.block = all_there (IsBlock u g) g.blocks n at.block valid.blocks at.is in
    target_low u g i y (all_within (IsInstruction u g) at.before i rest (subst (AllByRecursion (IsInstruction u g)) at.instructions block.instructions)) target)
writer_low u g f valid p y _ (parameter {k} entry at) =
    (let inside : y < length g.scalars = all_there (IsBinding g) g.parameters k (ToScalar y) valid.bindings at in
    let scalars = valid.scalars in
    let temporaries = valid.temporaries in
    omega (arith, inside, scalars, temporaries))

module _ (log : List Logged) (flow : FlowTable) (home : ℕ → Home) (f : ℕ) (g : Graph) (x variable : ℕ) where
  abbrev IsSharing : ℕ → Type 0
  IsSharing n = IsShared log flow home f g x variable n

  -- where some change shares, some last one does
  none_above : ((m : ℕ) → IsLastShared log flow home f g x variable m → ⊥) → (k n : ℕ) → length log < n + k → IsSharing n → ⊥
  none_above never zero n lt is = (let inside = slice_get_within log (n - 1) is.change is.is.is in omega (arith, inside, lt))
  none_above never (suc k) n lt is = never n (record { is = is; last = λ other shared. elim (leb_tells other n) [ inl le ↦ le.1 | inr more ↦ absurd (let above = more.1 in none_above never k other (omega (arith, above, lt)) shared) ] })

  pub last_shared : (n : ℕ) → IsSharing n → ((m : ℕ) → IsLastShared log flow home f g x variable m → ⊥) → ⊥
  last_shared n is never = none_above never (length log + 1) n (omega arith) is

-- given: a well marked graph of a unit, the flow of its program, and homes of its names; where a name has the home of the scalar, and is no temporary of it, a change of the homes says so
module _ (u : UnitForm) (g : Graph) (f : ℕ) (flow : FlowTable) (home : ℕ → Home) (x variable : ℕ) (marked : IsWellMarked u g) (valid : IsGraph u g) (once : AreAllDifferent (markers_of_blocks g.blocks))
    (steps : flow.steps.items ≡ u.steps) (assignments : flow.assignments.items ≡ u.assignments) (is : IsVariable g x variable)
    (shares : (y : ℕ) → y < g.name_count → y ≢ x → is_same_home (home y) (home x) ≡ true → (IsTemporaryOf u.log g x variable y → ⊥) → (n : ℕ) × IsShared u.log flow home f g x variable n) where
  abbrev pub assigned : (p : ℕ) → Bool
  assigned p = assigns flow.assignments.items p variable

  abbrev pub goes_on : (p q : ℕ) → Type 0
  goes_on p q = can_go flow.steps.items p q ≡ true

  abbrev pub ComesTo : (from p : ℕ) → Type 0
  ComesTo from p = Comes flow.steps.items (λ q. assigns flow.assignments.items q variable) from p

  abbrev May : (stop via : ℕ) → declared-cause.Cause → Type 0
  May stop via c = MayBeTold u.log flow home f g x variable stop via c

  -- ---- Evidence as far as a place

  -- a way leads on from a place as far as another one
  abbrev pub Leads : (from p : ℕ) → Type 0
  Leads from p = (from ≡ p) ⊎ (ComesTo from p × (assigned p ≡ false))

  -- a place that assigns the variable, and from which a way leads
  pub record From (p : ℕ) : Type 0 where
    pub start : ℕ
    pub assigns_it : assigned start ≡ true
    pub by : Leads start p

  -- what hides by a place, without the way behind it
  abbrev pub Bears : declared-cause.Cause → (via : ℕ) → Type 0
  Bears (cause.Removed c start) via = (start ≡ via) × IsBareRemoval u.log flow home f g x variable c start
  Bears (cause.Moved c start w) via = IsMovedWrite u.log flow home f g x variable c via w × (assigned start ≡ true) × Leads start via
  Bears (cause.Reused c start w) via = IsLastShared u.log flow home f g x variable c × IsReusedWrite u.log flow home f g x variable c via w × (assigned start ≡ true) × Leads start via

  pub record Half (p : ℕ) : Type 0 where
    pub what : declared-cause.Cause
    pub via : ℕ
    pub bears : Bears what via
    pub reaches : Leads via p

  -- it is not so that there is none
  abbrev pub IsBad : (p : ℕ) → Type 0
  IsBad p = (Half p → ⊥) → ⊥

  leads_on : (from p q : ℕ) → Leads from p → goes_on p q → ComesTo from q
  leads_on from p q (inl e) go = at_once (subst (λ n. goes_on n q) (sym e) go)
  leads_on from p q (inr c) go = on c.0 c.1 go

  from_on : (p q : ℕ) → From p → goes_on p q → assigned q ≡ false → From q
  from_on p q from go free = record { start = from.start; assigns_it = from.assigns_it; by = inr (leads_on from.start p q from.by go, free) }

  half_on : (p q : ℕ) → Half p → goes_on p q → assigned q ≡ false → Half q
  half_on p q half go free = record { what = half.what; via = half.via; bears = half.bears; reaches = inr (leads_on half.via p q half.reaches go, free) }

  bad_on : (p q : ℕ) → IsBad p → goes_on p q → assigned q ≡ false → IsBad q
  bad_on p q some go free none = some (λ half. none (half_on p q half go free))

  -- THE STOP: evidence as far as a place is evidence where execution goes on from it
  told_by : (stop via : ℕ) (c : declared-cause.Cause) → Bears c via → ComesTo via stop → May stop via c
  told_by stop via (cause.Removed c start) bears comes =
      (let there : ComesTo start stop = subst (λ v. ComesTo v stop) (sym bears.0) comes in
      let way = route_by (quest_by flow variable start start stop) (inl refl) there in
      (bears.0, bears.1, record { path = way.0; route = way.1 }))
  told_by stop via (cause.Moved c start w) bears comes = (let way = route_by (quest_by flow variable start via stop) bears.2 comes in (bears.0, bears.1, record { path = way.0; route = way.1 }))
  told_by stop via (cause.Reused c start w) bears comes = (let way = route_by (quest_by flow variable start via stop) bears.3 comes in (bears.0, bears.1, bears.2, record { path = way.0; route = way.1 }))

  none_bad : (p q : ℕ) → HasNone u.log flow home f g x variable q → goes_on p q → IsBad p → ⊥
  none_bad p q none go some = some (λ half. none half.what half.via (told_by q half.via half.what half.bears (leads_on half.via p q half.reaches go)))

  -- ---- The three sources

  low : (p y : ℕ) (w : declared-writer.Writer) → IsWriter f g p y w → y < g.name_count
  low = writer_low u g f valid

  -- another name has the home, and is written in a place
  foreign : (p y : ℕ) (w : declared-writer.Writer) → From p → IsWriter f g p y w → y ≢ x → is_same_home (home y) (home x) ≡ true → IsBad p
  foreign p y w from writes other shared none = last_shared u.log flow home f g x variable share.0 share.1 (λ m last. none (record { what = cause.Reused m from.start w; via = p; bears = (last, reused m last, from.assigns_it, from.by); reaches = inl refl }))
    where
      no_temporary : IsTemporaryOf u.log g x variable y → ⊥
      no_temporary t =
          (let at = numbered u.log t.change t.logged in
          none (record {
            what = cause.Moved at.0 from.start w;
            via = p;
            bears = (record { change = t.change; is = at.1; moved = t.moved; of = t.of; t = y; copied = t.copied; temporary = t.temporary; writes = writes; shared = shared }, from.assigns_it, from.by);
            reaches = inl refl;
          }))

      share : (n : ℕ) × IsShared u.log flow home f g x variable n
      share = shares y (low p y w writes) other shared no_temporary

      reused : (m : ℕ) → IsLastShared u.log flow home f g x variable m → IsReusedWrite u.log flow home f g x variable m p w
      reused m last = record { change = last.is.change; is = last.is.is; reused = last.is.reused; of = last.is.of; y = y; other = other; foreign = no_temporary; writes = writes; shared = shared }

  -- the scalar is written in a place by its own writers alone
  writes_own : (i : Instruction) → target_of i ≡ Some x → writes x i ≡ true
  writes_own i e = elim (eqb_tells x x) [ inl s ↦ ap (λ t. option_map_or (λ y. y == x) t false) e ∙ s.0 | inr s ↦ absurd (s.1 refl) ]

  bound_one : (ps : List Binding) (k : ℕ) → slice_get ps k ≡ Some (ToScalar x) → is_bound x ps ≡ true
  bound_one [] k e = cc
  bound_one (ToScalar y ∷ more) zero e = (let same : y ≡ x = cc in elim (eqb_tells y x) [ inl s ↦ ap (λ b. b || is_bound x more) s.0 | inr s ↦ absurd (s.1 same) ])
  bound_one (ToObject object ∷ more) zero e = cc
  bound_one (ToScalar y ∷ more) (suc k) e = or_right (y == x) (is_bound x more) (bound_one more k e)
  bound_one (ToObject object ∷ more) (suc k) e = bound_one more k e

  own_writer : (p : ℕ) (w : declared-writer.Writer) → IsWriter f g p x w → WrittenIn g p x
  own_writer p _ (instruction {n} {i} {rest} at target) = by_instruction i (in_place g n at.block at.before i rest p at.is at.instructions at.place) (writes_own i target)
  own_writer p _ (parameter {k} entry at) = by_binding entry (bound_one g.parameters k at)

  -- an assignment went from a place that assigns the variable
  removed : (p : ℕ) → assigned p ≡ true → (WrittenIn g p x → ⊥) → WasTaken u.log p variable → IsBad p
  removed p it unwritten taken none =
      (let at = numbered u.log taken.change taken.logged in
      none (record { what = cause.Removed at.0 p; via = p; bears = (refl, record { change = taken.change; is = at.1; taken = taken.taken; of = taken.of; at = taken.at; assigned = it; bare = bare }); reaches = inl refl }))
    where
      bare : (y : ℕ) (w : declared-writer.Writer) → IsWriter f g p y w → is_same_home (home y) (home x) ≡ true → ⊥
      bare y w writes shared = elim (eqb_tells y x) [
        | inl same ↦ unwritten (own_writer p w (subst (λ z. IsWriter f g p z w) same.1 writes))
        | inr other ↦ foreign p y w (record { start = p; assigns_it = it; by = inl refl }) writes other.1 shared none
      ]

  -- ---- Where a path stands

  abbrev pub writer_of : History → Option ℕ
  writer_of h = last_writer home g.parameters (home x) h

  -- given: where the variable is in scope
  module _ (InScope : ℕ → Type 0) (entry : InScope g.entry → ⊥) (comes : (p q : ℕ) → goes_on p q → InScope q → InScope p ⊎ (assigned p ≡ true)) where
    abbrev pub touched : History → Bool
    touched h = written_since home x (home x) h

    -- THE STATE along one path: nothing assigned the variable yet; or a note of it is owed; or its home holds its value, from a place that assigns it; or there is evidence.
    pub data Standing (h : History) (p : ℕ) : Type 0 where
      unborn : (InScope p → ⊥) → assigned p ≡ false → Standing h p
      owing : From p → owed assigned x h ≡ true → (written g x h ≡ true → writer_of h ≡ Some x) → Standing h p
      good : From p → last_note x h ≡ Some (Is (Of (Name x))) → writer_of h ≡ Some x → touched h ≡ false → Standing h p
      bad : IsBad p → Standing h p

    true_false : {A : Type 0} (b : Bool) → b ≡ true → b ≡ false → A
    true_false b e n = no_truth (sym n ∙ e)

    -- at the next marker it is settled
    owed_at : (h : History) {n q : ℕ} {rest : List Instruction} {e : End} → Path g h n (Marker q ∷ rest) e → owed assigned x h ≡ false
    owed_at h {n} {q} {rest} {e} way = subst (λ l. owed (λ p. assigns l p variable) x h ≡ false) (sym assignments) (marked.noted h n q x variable rest e is way)

    goes_at : (h : History) (p : ℕ) {n q : ℕ} {rest : List Instruction} {e : End} → Path g h n (Marker q ∷ rest) e → place_of h ≡ Some p → goes_on p q
    goes_at h p {n} {q} {rest} {e} way at = subst (λ l. can_go l p q ≡ true) (sym steps) (marked.flows h n p q rest e way at)

    holds_by : (h : History) → last_note x h ≡ Some (Is (Of (Name x))) → writer_of h ≡ Some x → touched h ≡ false → Holds home g x (Of (Name x)) h
    holds_by h note w free = record { note = note; own = λ y among. subst (λ k. last_writer home g.parameters (home k) h ≡ Some k) (sym (only y among)) w; before = λ y among. subst (λ k. written_since home x (home k) h ≡ false) (sym (only y among)) free }
      where
        only : (y : ℕ) → Among y (x ∷ []) → y ≡ x
        only y front = refl
        only y (behind more) = elim more [ ]

    -- THE END: at a marker where the variable is in scope and nothing may be told, its home holds its value
    at_stop : (h : History) (p q : ℕ) {n : ℕ} {rest : List Instruction} {e : End} → Path g h n (Marker q ∷ rest) e → place_of h ≡ Some p → InScope q → HasNone u.log flow home f g x variable q → Standing h p → Holds home g x (Of (Name x)) h
    at_stop h p q way at there none (unborn out free) = elim (comes p q (goes_at h p way at) there) [ inl before ↦ absurd (out before) | inr it ↦ true_false (assigned p) it free ]
    at_stop h p q way at there none (owing from o w) = true_false (owed assigned x h) o (owed_at h way)
    at_stop h p q way at there none (good from note w free) = holds_by h note w free
    at_stop h p q way at there none (bad b) = absurd (none_bad p q none (goes_at h p way at) b)

    -- ---- Over instructions

    abbrev home_test : Instruction → Bool
    home_test i = is_home_of home (home x) (target_of i)

    target_is : (i : Instruction) → writes x i ≡ true → target_of i ≡ Some x
    target_is i h = by_target (target_of i) h
      where
        by_target : (t : Option ℕ) → option_map_or (λ y. y == x) t false ≡ true → t ≡ Some x
        by_target None e = no_truth e
        by_target (Some y) e = elim (eqb_tells y x) [ inl s ↦ ap Some s.1 | inr s ↦ true_false (y == x) e s.0 ]

    writer_own : (q : Passed) (h : History) → writes x q.instruction ≡ true → writer_of (q ∷ h) ≡ Some x
    writer_own q h w =
        let target = target_is q.instruction w in
        if_true (home_test q.instruction) (target_of q.instruction) (writer_of h) (ap (is_home_of home (home x)) target ∙ same_home (home x)) ∙ target

    -- the home is written for another name
    foreign_at : (q : Passed) (h : History) (p : ℕ) → Before g q h → place_of h ≡ Some p → is_marker q.instruction ≡ false → From p → writes x q.instruction ≡ false → home_test q.instruction ≡ true → IsBad p
    foreign_at q h p before at off from silent test = by_target (target_of q.instruction) refl silent test
      where
        s : StandsAt g h before.number (q.instruction ∷ before.left) before.end
        s = stands_at u g valid.blocks marked.begins h before.number (q.instruction ∷ before.left) before.end before.way

        standing : StandsWith g p before.number (q.instruction ∷ before.left) before.end
        standing = record { block = s.block; before = s.before; is = s.is; instructions = s.whole; ends = s.ends; place = place_before u g valid.blocks marked.begins h before.number p q.instruction before.left before.end s off at }

        by_target : (t : Option ℕ) → target_of q.instruction ≡ t → option_map_or (λ y. y == x) t false ≡ false → is_home_of home (home x) t ≡ true → IsBad p
        by_target None e o same = no_truth same
        by_target (Some y) e o same = foreign p y (writer.Instruction f before.number (length s.before)) from (instruction standing e) (λ z. elim (eqb_tells y x) [ inl t ↦ true_false (y == x) t.0 o | inr t ↦ t.1 z ]) same

    plain_step : (q : Passed) (h : History) (p : ℕ) → Before g q h → place_of h ≡ Some p → IsPlain q.instruction → Standing h p → Standing (q ∷ h) p
    plain_step q h p before at r state = by_write (either (writes x q.instruction)) (either (home_test q.instruction)) state
      where
        owes : owed assigned x (q ∷ h) ≡ (writes x q.instruction || owed assigned x h)
        owes = r.owes assigned x (owed assigned x h)

        written_so : written g x (q ∷ h) ≡ (writes x q.instruction || written g x h)
        written_so = if_false (is_marker q.instruction) (bound_at g x q.instruction) (writes x q.instruction || written g x h) r.marker

        by_write : (writes x q.instruction ≡ true) ⊎ (writes x q.instruction ≡ false) → (home_test q.instruction ≡ true) ⊎ (home_test q.instruction ≡ false) → Standing h p → Standing (q ∷ h) p
        by_write w t (unborn out free) = unborn out free
        by_write w t (bad b) = bad b
        by_write (inl w) t (owing from o m) = owing from (owes ∙ ap (λ b. b || owed assigned x h) w) (λ z. writer_own q h w)
        by_write (inl w) t (good from n m free) = owing from (owes ∙ ap (λ b. b || owed assigned x h) w) (λ z. writer_own q h w)
        by_write (inr w) (inl t) (owing from o m) = bad (foreign_at q h p before at r.marker from w t)
        by_write (inr w) (inl t) (good from n m free) = bad (foreign_at q h p before at r.marker from w t)
        by_write (inr w) (inr t) (owing from o m) =
            owing from (owes ∙ ap (λ b. b || owed assigned x h) w ∙ o)
            (λ z. if_false (home_test q.instruction) (target_of q.instruction) (writer_of h) t ∙ m (sym (written_so ∙ ap (λ b. b || written g x h) w) ∙ z))
        by_write (inr w) (inr t) (good from n m free) =
            good from (r.note x (last_note x h) ∙ n) (if_false (home_test q.instruction) (target_of q.instruction) (writer_of h) t ∙ m)
            (if_false (notes x q.instruction) false (home_test q.instruction || touched h) (r.silent x) ∙ or_none (home_test q.instruction) (touched h) t free)

    -- ---- Over notes

    module _ (q : Passed) (h : History) (y : ℕ) (v : NoteValue) (e : q.instruction ≡ Note y v) where
      note_writer : writer_of (q ∷ h) ≡ writer_of h
      note_writer = ap (λ i. if is_home_of home (home x) (target_of i) then target_of i else writer_of h) e

      note_written : written g x (q ∷ h) ≡ written g x h
      note_written = ap (λ i. if is_marker i then bound_at g x i else writes x i || written g x h) e

      note_last : last_note x (q ∷ h) ≡ (if y == x then Some v else last_note x h)
      note_last = ap (λ i. note_by x i (last_note x h)) e

      note_owed : owed assigned x (q ∷ h) ≡ (if y == x then false else owed assigned x h)
      note_owed = ap (λ i. owed_by assigned x i (owed assigned x h)) e

      note_touched : touched (q ∷ h) ≡ (if y == x then false else touched h)
      note_touched = ap (λ i. if notes x i then false else is_home_of home (home x) (target_of i) || touched h) e

      note_other : (p : ℕ) → (y == x) ≡ false → Standing h p → Standing (q ∷ h) p
      note_other p other (unborn out free) = unborn out free
      note_other p other (owing from o w) = owing from (note_owed ∙ if_false (y == x) false (owed assigned x h) other ∙ o) (λ t. note_writer ∙ w (sym note_written ∙ t))
      note_other p other (good from n w t) = good from (note_last ∙ if_false (y == x) (Some v) (last_note x h) other ∙ n) (note_writer ∙ w) (note_touched ∙ if_false (y == x) false (touched h) other ∙ t)
      note_other p other (bad b) = bad b

      note_own : (p : ℕ) (before : Before g q h) → place_of h ≡ Some p → (y == x) ≡ true → From p → (v ≡ Is (Of (Name x)) → writer_of h ≡ Some x) → Standing (q ∷ h) p
      note_own p before at same from mine = elim (marked.right h before.number p x variable v before.left before.end is way at) [
        | inl own ↦ good from (note_last ∙ if_true (y == x) (Some v) (last_note x h) same ∙ ap (λ w. Some w) own.0) (note_writer ∙ mine own.0) (note_touched ∙ if_true (y == x) false (touched h) same)
        | inr gone ↦ bad (removed p (assigns_here gone.0) gone.1 gone.2)
      ]
        where
          mine_is : q.instruction ≡ Note x v
          mine_is = elim (eqb_tells y x) [ inl s ↦ e ∙ ap (λ k. Note k v) s.1 | inr s ↦ true_false (y == x) same s.0 ]

          way : Path g h before.number (Note x v ∷ before.left) before.end
          way = subst (λ i. Path g h before.number (i ∷ before.left) before.end) mine_is before.way

          s : StandsAt g h before.number (Note x v ∷ before.left) before.end
          s = stands_at u g valid.blocks marked.begins h before.number (Note x v ∷ before.left) before.end way

          assigns_here : v ≢ Is (Of (Name x)) → assigned p ≡ true
          assigns_here other = elim (marked.noted_where p x variable v is (path_in_place u g valid.blocks marked.begins h before.number p (Note x v) before.left before.end way refl at)) [
            | inl it ↦ subst (λ l. assigns l p variable ≡ true) (sym assignments) it
            | inr sunk ↦ absurd (other (sunk.1.written before.number s.block s.before before.left v s.is s.whole (place_before u g valid.blocks marked.begins h before.number p (Note x v) before.left before.end s refl at)).0)
          ]

      note_step : (p : ℕ) (before : Before g q h) → place_of h ≡ Some p → (y == x) ≡ true → Standing h p → Standing (q ∷ h) p
      note_step p before at same (unborn out free) = unborn out free
      note_step p before at same (bad b) = bad b
      note_step p before at same (owing from o w) = note_own p before at same from (λ own. w (marked.behind_write h before.number x before.left before.end (subst (λ i. Path g h before.number (i ∷ before.left) before.end) (own_is own) before.way)))
        where
          own_is : v ≡ Is (Of (Name x)) → q.instruction ≡ Note x (Is (Of (Name x)))
          own_is own = elim (eqb_tells y x) [ inl s ↦ e ∙ ap (λ k. Note k v) s.1 ∙ ap (Note x) own | inr s ↦ true_false (y == x) same s.0 ]
      note_step p before at same (good from n w t) = note_own p before at same from (λ own. w)

    -- ---- Over markers

    -- a parameter is bound to another name with the home of the scalar
    record HasForeign (ps : List Binding) : Type 0 where
      k : ℕ
      y : ℕ
      at : slice_get ps k ≡ Some (ToScalar y)
      other : y ≢ x
      shared : is_same_home (home y) (home x) ≡ true

    foreign_later : (b : Binding) (ps : List Binding) → HasForeign ps → HasForeign (b ∷ ps)
    foreign_later b ps one = record { k = suc one.k; y = one.y; at = one.at; other = one.other; shared = one.shared }

    later_or : (b : Binding) (ps : List Binding) (before after : Option ℕ) → before ≡ after → (after ≡ Some x) ⊎ HasForeign ps → (before ≡ Some x) ⊎ HasForeign (b ∷ ps)
    later_or b ps before after same (inl e) = inl (same ∙ e)
    later_or b ps before after same (inr one) = inr (foreign_later b ps one)

    bound_stays : (ps : List Binding) → (bound_last home (home x) ps (Some x) ≡ Some x) ⊎ HasForeign ps
    bound_stays [] = inl refl
    bound_stays (ToObject object ∷ more) = later_or (ToObject object) more _ _ refl (bound_stays more)
    bound_stays (ToScalar y ∷ more) = by_name (eqb_tells y x) (either (is_same_home (home y) (home x))) (bound_stays more)
      where
        by_name : (((y == x) ≡ true) × (y ≡ x)) ⊎ (((y == x) ≡ false) × (y ≢ x)) → (is_same_home (home y) (home x) ≡ true) ⊎ (is_same_home (home y) (home x) ≡ false) → (bound_last home (home x) more (Some x) ≡ Some x) ⊎ HasForeign more
            → (bound_last home (home x) more (if is_same_home (home y) (home x) then Some y else Some x) ≡ Some x) ⊎ HasForeign (ToScalar y ∷ more)
        by_name n (inr t) rest = later_or (ToScalar y) more _ _ (ap (λ o. bound_last home (home x) more o) (if_false (is_same_home (home y) (home x)) (Some y) (Some x) t)) rest
        by_name (inl n) (inl t) rest = later_or (ToScalar y) more _ _ (ap (λ o. bound_last home (home x) more o) (if_true (is_same_home (home y) (home x)) (Some y) (Some x) t ∙ ap Some n.1)) rest
        by_name (inr n) (inl t) rest = inr (record { k = 0; y = y; at = refl; other = n.1; shared = t })

    bound_or : (ps : List Binding) (before : Option ℕ) → is_bound x ps ≡ true → (bound_last home (home x) ps before ≡ Some x) ⊎ HasForeign ps
    bound_or [] before it = no_truth it
    bound_or (ToObject object ∷ more) before it = later_or (ToObject object) more _ _ refl (bound_or more before it)
    bound_or (ToScalar y ∷ more) before it = by_name (eqb_tells y x) (λ i. bound_or more (if is_same_home (home y) (home x) then Some y else before) i)
      where
        by_name : (((y == x) ≡ true) × (y ≡ x)) ⊎ (((y == x) ≡ false) × (y ≢ x)) → (is_bound x more ≡ true → (bound_last home (home x) more (if is_same_home (home y) (home x) then Some y else before) ≡ Some x) ⊎ HasForeign more)
            → (bound_last home (home x) more (if is_same_home (home y) (home x) then Some y else before) ≡ Some x) ⊎ HasForeign (ToScalar y ∷ more)
        by_name (inl n) rest =
            later_or (ToScalar y) more _ _ (ap (λ o. bound_last home (home x) more o) (if_true (is_same_home (home y) (home x)) (Some y) before (ap (λ k. is_same_home (home k) (home x)) n.1 ∙ same_home (home x)) ∙ ap Some n.1)) (bound_stays more)
        by_name (inr n) rest = later_or (ToScalar y) more _ _ refl (rest (sym (ap (λ b. b || is_bound x more) n.0) ∙ it))

    -- the marker of a place that assigns the variable
    module _ (q : Passed) (h : History) (r : ℕ) (e : q.instruction ≡ Marker r) (before : Before g q h) where
      way_of : Path g h before.number (Marker r ∷ before.left) before.end
      way_of = subst (λ i. Path g h before.number (i ∷ before.left) before.end) e before.way

      marker_owed : owed assigned x (q ∷ h) ≡ assigned r
      marker_owed = ap (λ i. owed_by assigned x i (owed assigned x h)) e

      marker_written : written g x (q ∷ h) ≡ bound_at g x (Marker r)
      marker_written = ap (λ i. if is_marker i then bound_at g x i else writes x i || written g x h) e

      marker_writer : writer_of (q ∷ h) ≡ writer_of h
      marker_writer = ap (λ i. if is_home_of home (home x) (target_of i) then target_of i else writer_of h) e

      own_from : assigned r ≡ true → From r
      own_from it = record { start = r; assigns_it = it; by = inl refl }

      -- that of the entry is passed first of all
      first_of_all : r ≡ g.entry → h ≡ []
      first_of_all same =
          let s = stands u g marked way_of in
          let begin = marked.begins s.first s.there in
          let one = marker_once g.blocks s.first g.entry begin.0 s.there begin.1 once before.number s.so.block s.so.passed before.left s.so.there (s.so.whole ∙ ap (λ k. s.so.passed ++ Marker k ∷ before.left) same) in
          s.so.only one.0 one.1

      marker_assigned : assigned r ≡ true → Standing (q ∷ h) r
      marker_assigned it = by_bound (either (bound_at g x (Marker r)))
        where
          by_bound : (bound_at g x (Marker r) ≡ true) ⊎ (bound_at g x (Marker r) ≡ false) → Standing (q ∷ h) r
          by_bound (inr no_one) = owing (own_from it) (marker_owed ∙ it) (λ t. true_false (bound_at g x (Marker r)) (sym marker_written ∙ t) no_one)
          by_bound (inl one) = at_entry (two_true (r == g.entry) (is_bound x g.parameters) one) (eqb_tells r g.entry)
            where
              at_entry : ((r == g.entry) ≡ true) × (is_bound x g.parameters ≡ true) → (((r == g.entry) ≡ true) × (r ≡ g.entry)) ⊎ (((r == g.entry) ≡ false) × (r ≢ g.entry)) → Standing (q ∷ h) r
              at_entry both (inr other) = true_false (r == g.entry) both.0 other.0
              at_entry both (inl same) = elim (bound_or g.parameters None both.1) [
                | inl last ↦ owing (own_from it) (marker_owed ∙ it) (λ t. marker_writer ∙ ap (λ k. writer_of k) (first_of_all same.1) ∙ last)
                | inr other ↦ bad (foreign r other.y (writer.Binding f other.k) (own_from it) (parameter same.1 other.at) other.other other.shared)
              ]

      marker_step : (p : ℕ) → place_of h ≡ Some p → Standing h p → Standing (q ∷ h) r
      marker_step p at state = by_test (either (assigned r)) state
        where
          go : goes_on p r
          go = goes_at h p way_of at

          by_test : (assigned r ≡ true) ⊎ (assigned r ≡ false) → Standing h p → Standing (q ∷ h) r
          by_test (inl it) state = marker_assigned it
          by_test (inr free) (unborn out clear) = unborn (λ there. elim (comes p r go there) [ inl was ↦ out was | inr it ↦ true_false (assigned p) it clear ]) free
          by_test (inr free) (owing from o w) = true_false (owed assigned x h) o (owed_at h way_of)
          by_test (inr free) (good from n w t) =
              good (from_on p r from go free) (ap (λ i. note_by x i (last_note x h)) e ∙ n) (marker_writer ∙ w) (ap (λ i. if notes x i then false else is_home_of home (home x) (target_of i) || touched h) e ∙ t)
          by_test (inr free) (bad b) = bad (bad_on p r b go free)

      first_step : place_of h ≡ None → Standing (q ∷ h) r
      first_step none = by_test (either (assigned r))
        where
          first_is : {i j : Instruction} {xs ys : List Instruction} → i ∷ xs ≡ j ∷ ys → i ≡ j
          first_is a = cc

          marker_same : {a b : ℕ} → Marker a ≡ Marker b → a ≡ b
          marker_same a = cc

          at_entry : r ≡ g.entry
          at_entry = by_mode (stands u g marked way_of)
            where
              by_mode : Stands u g marked h before.number (Marker r ∷ before.left) before.end → r ≡ g.entry
              by_mode s = elim s.so.mode [ inl start ↦ marker_same (first_is (start.whole ∙ (marked.begins s.first s.there).1)) | inr m ↦ absurd (none-some m.place (sym none ∙ m.is)) ]

          by_test : (assigned r ≡ true) ⊎ (assigned r ≡ false) → Standing (q ∷ h) r
          by_test (inl it) = marker_assigned it
          by_test (inr free) = unborn (λ there. entry (subst InScope at_entry there)) free

    -- ---- Along a path

    stand_step : (q : Passed) (h : History) (p : ℕ) → Before g q h → ((r : ℕ) → place_of h ≡ Some r → Standing h r) → place_of (q ∷ h) ≡ Some p → Standing (q ∷ h) p
    stand_step q h p before earlier at = by_kind (kind_of q.instruction)
      where
        by_note : (y : ℕ) (v : NoteValue) → q.instruction ≡ Note y v → ((y == x) ≡ true) ⊎ ((y == x) ≡ false) → Standing (q ∷ h) p
        by_note y v e (inl same) = (let was : place_of h ≡ Some p = sym (ap (λ i. place_by i (place_of h)) e) ∙ at in note_step q h y v e p before was same (earlier p was))
        by_note y v e (inr other) = (let was : place_of h ≡ Some p = sym (ap (λ i. place_by i (place_of h)) e) ∙ at in note_other q h y v e p other (earlier p was))

        by_place : (r : ℕ) (e : q.instruction ≡ Marker r) (o : Option ℕ) → place_of h ≡ o → Standing (q ∷ h) r
        by_place r e None none = first_step q h r e before none
        by_place r e (Some s) was = marker_step q h r e before s was (earlier s was)

        by_kind : Kind q.instruction → Standing (q ∷ h) p
        by_kind (marks r e) = subst (λ k. Standing (q ∷ h) k) (some_same (sym (ap (λ i. place_by i (place_of h)) e) ∙ at)) (by_place r e (place_of h) refl)
        by_kind (noting y v e) = by_note y v e (either (y == x))
        by_kind (plain r) = (let was : place_of h ≡ Some p = sym (r.place (place_of h)) ∙ at in plain_step q h p before was r (earlier p was))

    -- ALONG EACH PATH a scalar stands so
    pub standing_along : (h : History) (p : ℕ) {n : ℕ} {rest : List Instruction} {e : End} → Path g h n rest e → place_of h ≡ Some p → Standing h p
    standing_along [] p way at = absurd (none-some p at)
    standing_along (q ∷ h) p way at = stand_step q h p (path_before way) (λ r was. standing_along h r (path_before way).way was) at

    -- SHOWN, OR HIDDEN BY EVIDENCE: where no cause may be told at a place where the variable is in scope, its home holds its value on all paths to there
    pub hidden_by : (p : ℕ) → InScope p → HasNone u.log flow home f g x variable p → HoldsOnAllPaths home g p x (Of (Name x))
    hidden_by p there none h n rest e way = by_place (place_of h) refl
      where
        marker_same : {a b : ℕ} {xs ys : List Instruction} → Marker a ∷ xs ≡ Marker b ∷ ys → a ≡ b
        marker_same a = cc

        at_entry : place_of h ≡ None → p ≡ g.entry
        at_entry no_place = by_mode (stands u g marked way)
          where
            by_mode : Stands u g marked h n (Marker p ∷ rest) e → p ≡ g.entry
            by_mode s = elim s.so.mode [ inl start ↦ marker_same (start.whole ∙ (marked.begins s.first s.there).1) | inr m ↦ absurd (none-some m.place (sym no_place ∙ m.is)) ]

        by_place : (o : Option ℕ) → place_of h ≡ o → Holds home g x (Of (Name x)) h
        by_place None at = absurd (entry (subst InScope (at_entry at) there))
        by_place (Some q) at = at_stop h q p way at there none (standing_along h q way at)
