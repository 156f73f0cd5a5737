-- The first of all that may hide a scalar.
use Rattle.std.proofs.Common.{◌≡◌, ◌≢◌, inl, inr, ℕ, ◌+◌, ◌<◌, ◌≤◌, true, false, Option, Some, None, List, [], ◌∷◌, length, get_or, take, refl, sym, ap, subst, ◌∙◌, arith, true≢false}
use Rattle.std.specs.Prelude.{slice_get, All, Contains, IfSome, IsSomeAnd, is_some, ◌⊎◌}
use Rattle.std.proofs.lemmas.Bool.Decides.{eqb_tells}
use Rattle.std.proofs.lemmas.List.Elements.{All-contains, All-more, All-weaker, Contains-get_or}
use Rattle.std.specs.List.Sorted.{IsPermutation}
use Rattle.std.proofs.lemmas.List.Sorted.{All-permutation, Contains-permutation}
use Rattle.std.proofs.lemmas.Option.{none-some, same_Some, slice_get-get_or, slice_get_within}
use Rattle.places.specs.Path.{quest_by}
use Rattle.debug_records.specs.declared.change.Change.{Change}
use Rattle.debug_records.specs.Change.{is_taken}
use Rattle.debug_records.specs.declared.change.Kind.TheVariants.{Moved, Removed}
use Rattle.graph_core.specs.Graphs.{Logged, graph_view, logged}
use Rattle.graph_core.specs.declared.graph.Graph as declared-graph
use Rattle.graph_homes.specs.Reused.{IsTemporaryOf, first_copy}
use Rattle.currency_notes.specs.Homes.{home_in}
use Rattle.currency_notes.proofs.Lists.{take_whole}
use Rattle.currency_writers.specs.declared.search.Search as declared-search
use Rattle.currency_writers.specs.Marks.{mark_at}
use Rattle.currency_writers.specs.Flow.{ComesOn, assigned}
use Rattle.currency_writers.specs.Starts.{HasNoStart, IsLeastStartBy, IsStartBy}
use Rattle.currency_writers.proofs.Routes.{route_by, ways_by}
use Rattle.currency_writers.specs.declared.writers.Writer as declared-writer
use Rattle.currency_writers.specs.declared.writers.Written as declared-written
use Rattle.currency_writers.specs.declared.writers.Write as declared-write
use Rattle.currency_writers.specs.Order.{IsNoLater, rank_of}
use Rattle.currency_writers.specs.Writers.{AreWritesBy, HaveOneHome}
use Rattle.currency_writers.proofs.Entering.{and_some, none_tells}
use Rattle.currency_writers.proofs.Order.{no_later_on, no_later_same}
use Rattle.currency_hiding.specs.declared.changes.Changes as declared-changes
use Rattle.currency_hiding.specs.declared.function.Function as declared-function
use Rattle.currency_hiding.specs.declared.causes.Cause as declared-cause
use Rattle.currency_hiding.specs.declared.causes.Cause.TheVariants as cause
use Rattle.currency_hiding.specs.declared.causes.Found as declared-found
use Rattle.currency_hiding.specs.declared.causes.Via as declared-via
use Rattle.currency_hiding.specs.declared.causes.Causes as declared-causes
use Rattle.currency_hiding.specs.declared.teller.Teller as declared-teller
use Rattle.currency_hiding.specs.Changes.{AreFound, AreListed, IsListed, IsNumbered, IsSharing, hides_as, log_of}
use Rattle.currency_hiding.specs.QuietStarts.{AreQuietStarts}
use Rattle.currency_hiding.specs.First.{MayBeTold, order_of}
use Rattle.currency_hiding.specs.Found.{AreAllFound, AreCauses, AreForeign, AreMoreFound, AreMovesFound, AreSharesFound, HasNoneAt, HidesFrom, IsAsked, IsCovered, IsFirstAt, IsForeign, IsMovedTo, IsOfKind, IsReady, IsRemovalFound, IsToldBy, IsViaOf, IsViaTold, IsWayBy, IsWayOf, variable_of}
use Rattle.currency_hiding.proofs.Asked.{member_at}
use Rattle.currency_hiding.proofs.Found.{shared_back}
use Rattle.currency_hiding.proofs.ByKind.{by_taken}
use Rattle.currency_hiding.proofs.Listed.{listed_of, numbered, own_number}

-- all of a list were looked at
pub done_all : {A : Type 0} (P : A → Type 0) (list items : List A) (k : ℕ) → length list ≤ k → list ≡ items → All P (take k list) → All P items
done_all {A} P list items k le same all = subst (λ (l : List A). All P l) (take_whole list k le ∙ same) all

-- each of these places is that of one of these writes
abbrev pub AreOfWrites : List declared-write.Write → List declared-via.Via → Type 0
AreOfWrites list vias = (v : declared-via.Via) → Contains vias v → Contains list (record { place = v.place; number = v.writer })

pub of_none : (list : List declared-write.Write) (vias : List declared-via.Via) → vias ≡ [] → AreOfWrites list vias
of_none list vias none v there = (let lt = there.1 in let long = ap (λ (l : List declared-via.Via). length l) none in absurd (omega (arith, lt, long)))

-- a way that is no later
way_before : (a b p q : ℕ) (rs ts : List ℕ) → a ≤ b → p ≡ q → IsNoLater rs ts → IsNoLater (a ∷ p ∷ rs) (b ∷ q ∷ ts)
way_before a b p q rs ts le same rest = elim (eqb_tells a b) [
  | inl e ↦ inr (e.1, inr (same, rest))
  | inr e ↦ (let differ = e.1 in inl (omega (arith, le, differ)))
]

module _ (s : declared-search.Search) where
  pub via_none : (vias : List declared-via.Via) (w : declared-write.Write) → HasNoStart s w.place → IsViaOf s vias w
  via_none vias w none start by = absurd (none start by)

  pub via_some : (vias : List declared-via.Via) (w : declared-write.Write) (start : ℕ) → IsLeastStartBy s start w.place → Contains vias (record { start = start; place = w.place; writer = w.number }) → IsViaOf s vias w
  via_some vias w start least there other by = record { via = record { start = start; place = w.place; writer = w.number }; is = there; in_place = refl; start_below = least.least other by; writer_below = omega arith }

  pub via_kept : (old new : List declared-via.Via) (w : declared-write.Write) → ((v : declared-via.Via) → Contains old v → Contains new v) → IsViaOf s old w → IsViaOf s new w
  via_kept old new w kept is start by = (let one = is start by in record { via = one.via; is = kept one.via one.is; in_place = one.in_place; start_below = one.start_below; writer_below = one.writer_below })

  -- the places in another order
  pub vias_moved : (old new : List declared-via.Via) (list : List declared-write.Write) (k : ℕ) → length list ≤ k → IsPermutation old new → All (λ (w : declared-write.Write). IsViaOf s old w) (take k list) → All (λ (w : declared-write.Write). IsViaOf s new w) list
  vias_moved old new list k le moved all =
      All-weaker (λ (w : declared-write.Write). IsViaOf s old w) (λ (w : declared-write.Write). IsViaOf s new w) (λ w was. via_kept old new w (λ v there. Contains-permutation old new v moved there) was) list
      (done_all (λ (w : declared-write.Write). IsViaOf s old w) list list k le refl all)

  pub via_again : (vias : List declared-via.Via) (before w : declared-write.Write) → before.place ≡ w.place → before.number ≤ w.number → IsViaOf s vias before → IsViaOf s vias w
  via_again vias before w same le is start by =
      (let one = is start (subst (λ p. IsStartBy s start p) (sym same) by) in
      let below = one.writer_below in
      record { via = one.via; is = one.is; in_place = one.in_place ∙ same; start_below = one.start_below; writer_below = omega (arith, below, le) })

  -- ways by places of writes
  pub ways_next : (list : List declared-write.Write) (k : ℕ) (d : declared-write.Write) (old new : List declared-via.Via) → k < length list
      → ((v : declared-via.Via) → Contains new v → Contains old v ⊎ ((v.place ≡ (get_or list k d).place) × (v.writer ≡ (get_or list k d).number))) → AreOfWrites list old → AreOfWrites list new
  ways_next list k d old new lt only was v there = elim (only v there) [
    | inl e ↦ was v e
    | inr e ↦ subst (λ p. Contains list (record { place = p; number = v.writer })) (sym e.0) (subst (λ n. Contains list (record { place = (get_or list k d).place; number = n })) (sym e.1) (Contains-get_or list k d lt))
  ]

  pub ways_moved : (list : List declared-write.Write) (old new : List declared-via.Via) → IsPermutation old new → All (λ (v : declared-via.Via). IsWayBy s v) old → AreOfWrites list old → All (λ (v : declared-via.Via). IsWayOf s list v) new
  ways_moved list old new moved each of =
      All-permutation (λ (v : declared-via.Via). IsWayOf s list v) old new moved
      (λ k d lt. record { way = each k d lt; write = of (get_or old k d) (Contains-get_or old k d lt) })

  -- one of these ways
  pub way_at : (list : List declared-write.Write) (vias items : List declared-via.Via) (k : ℕ) (d : declared-via.Via) → items ≡ vias → All (λ (v : declared-via.Via). IsWayOf s list v) vias → k < length items → IsWayBy s (get_or items k d)
  way_at list vias items k d same each lt = (let all = subst (λ (l : List declared-via.Via). All (λ (v : declared-via.Via). IsWayOf s list v) l) (sym same) each in (all k d lt).way)

  pub write_at : (list : List declared-write.Write) (vias items : List declared-via.Via) (k : ℕ) (d : declared-via.Via) → items ≡ vias → All (λ (v : declared-via.Via). IsWayOf s list v) vias → k < length items
      → Contains list (record { place = (get_or items k d).place; number = (get_or items k d).writer })
  write_at list vias items k d same each lt = (let all = subst (λ (l : List declared-via.Via). All (λ (v : declared-via.Via). IsWayOf s list v) l) (sym same) each in (all k d lt).write)

  -- the last write that was looked at is one of the same place
  pub via_last : (vias : List declared-via.Via) (last : Option declared-write.Write) (w : declared-write.Write) → IfSome last (λ before. (before.place ≡ w.place) × (before.number ≤ w.number)) → is_some last ≡ true → IfSome last (λ v. IsViaOf s vias v) → IsViaOf s vias w
  via_last vias None w is some known = absurd (true≢false (sym some))
  via_last vias (Some o) w is some known = via_again vias o w is.0 is.1 known

  -- one write more was looked at
  pub vias_next : (old new : List declared-via.Via) (list : List declared-write.Write) (k : ℕ) (d : declared-write.Write) → k < length list → ((v : declared-via.Via) → Contains old v → Contains new v) → IsViaOf s new (get_or list k d) → All (λ (w : declared-write.Write). IsViaOf s old w) (take k list)
      → All (λ (w : declared-write.Write). IsViaOf s new w) (take (k + 1) list)
  vias_next old new list k d lt kept here all = All-more (λ (w : declared-write.Write). IsViaOf s new w) list k d lt (All-weaker (λ (w : declared-write.Write). IsViaOf s old w) (λ (w : declared-write.Write). IsViaOf s new w) (λ w was. via_kept old new w kept was) (take k list) all) here

module _ (l : declared-changes.Changes) (s : declared-search.Search) (f : declared-function.Function) where
  abbrev May : (stop via : ℕ) → declared-cause.Cause → Type 0
  May stop via c = MayBeTold (log_of l) s.flow.table.now (home_in f.writers.homes.now) f.writers.function (graph_view f.writers.graph.now) f.scalar s.flow.var.0 stop via c

  -- what hides the scalar on ways by a place may be told where execution comes from there
  may_be : (c : declared-cause.Cause) (via stop : ℕ) → HidesFrom l s f c via → ComesOn s.flow via stop → May stop via c
  may_be (cause.Removed c start) via stop hides comes =
      (let there : ComesOn s.flow start stop = subst (λ v. ComesOn s.flow v stop) (sym hides.0) comes in
      let way = route_by (quest_by s.flow.table.now s.flow.var.0 start start stop) (inl refl) there in
      (hides.0, hides.1, record { path = way.0; route = way.1 }))
  may_be (cause.Moved c start w) via stop hides comes =
      (let way = route_by (quest_by s.flow.table.now s.flow.var.0 start via stop) hides.1.by comes in
      (hides.0, hides.1.assigns, record { path = way.0; route = way.1 }))
  may_be (cause.Reused c start w) via stop hides comes =
      (let way = route_by (quest_by s.flow.table.now s.flow.var.0 start via stop) hides.1.by comes in
      (hides.2, hides.0, hides.1.assigns, record { path = way.0; route = way.1 }))

  -- and the other way round
  may_from : (c : declared-cause.Cause) (via stop : ℕ) → May stop via c → HidesFrom l s f c via × ComesOn s.flow via stop
  may_from (cause.Removed c start) via stop may =
      (let ways = ways_by (quest_by s.flow.table.now s.flow.var.0 start start stop) may.2.path may.2.route in
      ((may.0, may.1), subst (λ v. ComesOn s.flow v stop) may.0 ways.1))
  may_from (cause.Moved c start w) via stop may =
      (let ways = ways_by (quest_by s.flow.table.now s.flow.var.0 start via stop) may.2.path may.2.route in
      ((may.0, record { assigns = may.1; by = ways.0 }), ways.1))
  may_from (cause.Reused c start w) via stop may =
      (let ways = ways_by (quest_by s.flow.table.now s.flow.var.0 start via stop) may.3.path may.3.route in
      ((may.1, record { assigns = may.2; by = ways.0 }, may.0), ways.1))

  covered : (all : List declared-found.Found) → AreAllFound l s f all → (c : declared-cause.Cause) (via : ℕ) → HidesFrom l s f c via → IsCovered l s f all c via
  covered all found (cause.Removed c start) via hides = found.removed c start via hides
  covered all found (cause.Moved c start w) via hides = found.moved c start via w hides
  covered all found (cause.Reused c start w) via hides = found.reused c start via w hides

  module _ (c : declared-causes.Causes) (causes : AreCauses l s f c) (found : AreAllFound l s f c.found.items) (stop : ℕ) where
    -- where something may be told, something was found at some index, that is told no later
    before : (d : declared-cause.Cause) (by : ℕ) → May stop by d → (k : ℕ) × (y : declared-found.Found) × (slice_get c.found.items k ≡ Some y) × IsSomeAnd (mark_at c.told stop) (λ number. number ≤ k) × IsNoLater (order_of y.cause y.via) (order_of d by)
    before d by may =
        let from = may_from d by stop may in
        let one = covered c.found.items found d by from.0 in
        let at = member_at c.found.items one.one one.is in
        let first = causes.first at.0 stop one.one at.1 (subst (λ v. ComesOn s.flow v stop) (sym one.by) from.1) in
        (at.0, one.one, at.1, first, one.before)

    pub none_told : mark_at c.told stop ≡ None → HasNoneAt l s f stop
    none_told none d by may = (let other = before d by may in and_some (mark_at c.told stop) (λ number. number ≤ other.0) other.3 none)

    pub first_told : (number : ℕ) (z d : declared-found.Found) → mark_at c.told stop ≡ Some number → number < length c.found.items → z ≡ get_or c.found.items number d → IsFirstAt l s f stop z.cause
    first_told number z d told_at lt is =
        let at : slice_get c.found.items number ≡ Some z = slice_get-get_or c.found.items number d lt ∙ ap Some (sym is) in
        let told : IsToldBy l s f c.found.items number stop = causes.told stop number told_at in
        let one : told.one ≡ z = same_Some told.one z (sym told.is ∙ at) in
        let comes : ComesOn s.flow z.via stop = subst (λ (y : declared-found.Found). ComesOn s.flow y.via stop) one told.comes in
        let hides : HidesFrom l s f z.cause z.via = subst (λ (y : declared-found.Found). HidesFrom l s f y.cause y.via) (sym is) (causes.each number d lt) in
        record {
          via = z.via;
          is = may_be z.cause z.via stop hides comes;
          first = λ e by may. (let other = before e by may in
              let below : number ≤ other.0 = subst (λ (o : Option ℕ). IsSomeAnd o (λ n. n ≤ other.0)) told_at other.3 in
              no_later_on (order_of z.cause z.via) (order_of other.1.cause other.1.via) (order_of e by) (causes.ordered number other.0 z other.1 below at other.2) other.4);
        }

    -- what a place is told by was found
    pub none_outside : (number : ℕ) → mark_at c.told stop ≡ Some number → length c.found.items ≤ number → ⊥
    none_outside number at le = (let told = causes.told stop number at in let lt : number < length c.found.items = slice_get_within c.found.items number told.one told.is in omega (arith, lt, le))

  -- what was found stays so
  covered_kept : (old new : declared-causes.Causes) → AreMoreFound old new → (c : declared-cause.Cause) (via : ℕ) → IsCovered l s f old.found.items c via → IsCovered l s f new.found.items c via
  covered_kept old new more c via was = record { one = was.one; is = more was.one was.is; by = was.by; before = was.before }

  pub removal_kept : (old new : declared-causes.Causes) → AreMoreFound old new → (number : ℕ) → IsRemovalFound l s f old.found.items number → IsRemovalFound l s f new.found.items number
  removal_kept old new more number was start via hides = covered_kept old new more (cause.Removed number start) via (was start via hides)

  pub moves_kept : (old new : declared-causes.Causes) → AreMoreFound old new → (number : ℕ) → AreMovesFound l s f old.found.items number → AreMovesFound l s f new.found.items number
  moves_kept old new more number was start via w hides = covered_kept old new more (cause.Moved number start w) via (was start via w hides)

  pub via_told_kept : (old new : declared-causes.Causes) → AreMoreFound old new → (make : (start : ℕ) → declared-writer.Writer → declared-cause.Cause) (v : declared-via.Via) → IsViaTold f old.found.items make v → IsViaTold f new.found.items make v
  via_told_kept old new more make v was = record { written = was.written; is = was.is; told = more (record { cause = make v.start was.written.writer; via = v.place }) was.told }

  -- one more of a list was looked at
  pub removals_next : (old new : declared-causes.Causes) (list : List Change) (k : ℕ) (d : Change) → k < length list → AreMoreFound old new → IsRemovalFound l s f new.found.items (get_or list k d).number → All (λ (e : Change). IsRemovalFound l s f old.found.items e.number) (take k list)
      → All (λ (e : Change). IsRemovalFound l s f new.found.items e.number) (take (k + 1) list)
  removals_next old new list k d lt more here all =
      All-more (λ (e : Change). IsRemovalFound l s f new.found.items e.number) list k d lt
      (All-weaker (λ (e : Change). IsRemovalFound l s f old.found.items e.number) (λ (e : Change). IsRemovalFound l s f new.found.items e.number) (λ e was. removal_kept old new more e.number was) (take k list) all) here

  pub moves_next : (old new : declared-causes.Causes) (list : List Change) (k : ℕ) (d : Change) → k < length list → AreMoreFound old new → AreMovesFound l s f new.found.items (get_or list k d).number → All (λ (e : Change). AreMovesFound l s f old.found.items e.number) (take k list)
      → All (λ (e : Change). AreMovesFound l s f new.found.items e.number) (take (k + 1) list)
  moves_next old new list k d lt more here all =
      All-more (λ (e : Change). AreMovesFound l s f new.found.items e.number) list k d lt
      (All-weaker (λ (e : Change). AreMovesFound l s f old.found.items e.number) (λ (e : Change). AreMovesFound l s f new.found.items e.number) (λ e was. moves_kept old new more e.number was) (take k list) all) here

  pub told_next : (old new : declared-causes.Causes) (make : (start : ℕ) → declared-writer.Writer → declared-cause.Cause) (list : List declared-via.Via) (k : ℕ) (d : declared-via.Via) → k < length list → AreMoreFound old new → IsViaTold f new.found.items make (get_or list k d)
      → All (λ (v : declared-via.Via). IsViaTold f old.found.items make v) (take k list) → All (λ (v : declared-via.Via). IsViaTold f new.found.items make v) (take (k + 1) list)
  told_next old new make list k d lt more here all =
      All-more (λ (v : declared-via.Via). IsViaTold f new.found.items make v) list k d lt
      (All-weaker (λ (v : declared-via.Via). IsViaTold f old.found.items make v) (λ (v : declared-via.Via). IsViaTold f new.found.items make v) (λ v was. via_told_kept old new more make v was) (take k list) all) here

  -- a change of the log by the number of one
  same_logged : (d : Change) (number : ℕ) (one : Logged) → IsListed l number d → IsNumbered (log_of l) number one → logged d ≡ one
  same_logged d number one is other = same_Some (logged d) one (sym (numbered l number d is).is ∙ other.is)

  module _ (d : Change) (all : List declared-found.Found) (removed : IsOfKind l s f Removed d) where
    removed_place : (start via : ℕ) → HidesFrom l s f (cause.Removed d.number start) via → d.place.0 ≡ start
    removed_place start via hides = ap (λ (z : Logged). z.place) (same_logged d d.number hides.1.change removed.is hides.1.is) ∙ hides.1.at

    pub removal_unassigned : assigned s.flow d.place.0 ≡ false → IsRemovalFound l s f all d.number
    removal_unassigned none start via hides = absurd (true≢false (sym hides.1.assigned ∙ ap (λ p. assigned s.flow p) (sym (removed_place start via hides)) ∙ none))

    pub removal_written : IsAsked l s f → mark_at f.written d.place.0 ≢ None → IsRemovalFound l s f all d.number
    removal_written asked some start via hides =
        (let is = asked.on.bare start (subst (λ p. mark_at f.written p ≢ None) (removed_place start via hides) some) in
        absurd (hides.1.bare is.y is.writer is.writes is.shared))

    pub removal_there : Contains all (record { cause = cause.Removed d.number d.place.0; via = d.place.0 }) → IsRemovalFound l s f all d.number
    removal_there there start via hides = record {
      one = record { cause = cause.Removed d.number d.place.0; via = d.place.0 };
      is = there;
      by = removed_place start via hides ∙ hides.0;
      before = no_later_same (0 ∷ d.number ∷ []);
    }

  pub removals_done : (all : List declared-found.Found) (removed : List Change) (variable : ℕ) → AreListed l → variable ≡ variable_of l s f → AreFound l variable Removed removed → All (λ (e : Change). IsRemovalFound l s f all e.number) removed → (number : ℕ) → IsRemovalFound l s f all number
  removals_done all removed variable listed same found each number start via hides =
      let one = listed_of l number hides.1.change hides.1.is in
      let own : one.0.number ≡ number = own_number l number one.0 listed one.1 in
      let there : Contains removed one.0 = found.all number one.0 one.1 (ap (λ (z : Logged). z.variable) one.2 ∙ hides.1.of ∙ sym same) (by_taken one.0.kind (ap (λ (z : Logged). is_taken z.kind) one.2 ∙ hides.1.taken)) in
      subst (λ n. IsRemovalFound l s f all n) own (All-contains (λ (e : Change). IsRemovalFound l s f all e.number) removed one.0 each there) start via hides

  pub moves_done : (all : List declared-found.Found) (moved : List Change) (variable : ℕ) → AreListed l → variable ≡ variable_of l s f → AreFound l variable Moved moved → All (λ (e : Change). AreMovesFound l s f all e.number) moved → (number : ℕ) → AreMovesFound l s f all number
  moves_done all moved variable listed same found each number start via w hides =
      let one = listed_of l number hides.0.change hides.0.is in
      let own : one.0.number ≡ number = own_number l number one.0 listed one.1 in
      let there : Contains moved one.0 = found.all number one.0 one.1 (ap (λ (z : Logged). z.variable) one.2 ∙ hides.0.of ∙ sym same) (ap (λ (z : Logged). hides_as z.kind) one.2 ∙ ap hides_as hides.0.moved) in
      subst (λ n. AreMovesFound l s f all n) own (All-contains (λ (e : Change). AreMovesFound l s f all e.number) moved one.0 each there) start via w hides

  -- a write for a name was told, or an earlier one of its place
  covered_by : (asked : IsAsked l s f) (all : List declared-found.Found) (make : (start : ℕ) → declared-writer.Writer → declared-cause.Cause) (vias : List declared-via.Via) (writes : List declared-write.Write) → All (λ (w : declared-write.Write). IsViaOf s vias w) writes
      → All (λ (v : declared-via.Via). IsViaTold f all make v) vias → (start via k : ℕ) (z : declared-written.Written) → slice_get f.writers.all.items k ≡ Some z → Contains writes (record { place = via; number = k }) → IsStartBy s start via
      → (v : declared-via.Via) × (y : declared-written.Written) × Contains all (record { cause = make v.start y.writer; via = v.place }) × (v.place ≡ via) × IsNoLater (v.start ∷ v.place ∷ rank_of y.writer) (start ∷ via ∷ rank_of z.writer)
  covered_by asked all make vias writes found told start via k z at there by =
      let one = All-contains (λ (w : declared-write.Write). IsViaOf s vias w) writes (record { place = via; number = k }) found there start by in
      let is = All-contains (λ (v : declared-via.Via). IsViaTold f all make v) vias one.via told one.is in (
        one.via,
        is.written,
        is.told,
        one.in_place,
        way_before one.via.start start one.via.place via (rank_of is.written.writer) (rank_of z.writer) one.start_below one.in_place (asked.on.function.writers.indexed.ordered one.via.writer k is.written z one.writer_below is.is at),
      )

  module _ (asked : IsAsked l s f) (d : Change) (all : List declared-found.Found) (moved : IsOfKind l s f Moved d) where
    -- the temporary of the change
    copied_by : (start via : ℕ) (w : declared-writer.Writer) → (hides : HidesFrom l s f (cause.Moved d.number start w) via) → first_copy d.place.0 f.scalar (graph_view f.writers.graph.now).blocks ≡ Some hides.0.t
    copied_by start via w hides = ap (λ (z : Logged). first_copy z.place f.scalar (graph_view f.writers.graph.now).blocks) (same_logged d d.number hides.0.change moved.is hides.0.is) ∙ hides.0.copied

    pub moves_uncopied : (o : Option ℕ) → o ≡ None → ((t : ℕ) → f.scalar < length (graph_view f.copies.graph.now).scalars → first_copy d.place.0 f.scalar (graph_view f.copies.graph.now).blocks ≡ Some t → length (graph_view f.copies.graph.now).scalars ≤ t → o ≡ Some t) → AreMovesFound l s f all d.number
    moves_uncopied o none every start via w hides =
        let graph : f.copies.graph.now ≡ f.writers.graph.now = asked.on.function.graph in
        let t = hides.0.t in
        absurd
        (none-some t
        (sym none
        ∙ every t (subst (λ (g : declared-graph.Graph). f.scalar < length (graph_view g).scalars) (sym graph) asked.on.scalar) (subst (λ (g : declared-graph.Graph). first_copy d.place.0 f.scalar (graph_view g).blocks ≡ Some t) (sym graph) (copied_by start via w hides))
        (subst (λ (g : declared-graph.Graph). length (graph_view g).scalars ≤ t) (sym graph) hides.0.temporary)))

    same_temporary : (name : ℕ) → first_copy d.place.0 f.scalar (graph_view f.writers.graph.now).blocks ≡ Some name → (start via : ℕ) (w : declared-writer.Writer) → (hides : HidesFrom l s f (cause.Moved d.number start w) via) → hides.0.t ≡ name
    same_temporary name copied start via w hides = same_Some hides.0.t name (sym (copied_by start via w hides) ∙ copied)

    pub moves_elsewhere : (name : ℕ) → first_copy d.place.0 f.scalar (graph_view f.copies.graph.now).blocks ≡ Some name → (HaveOneHome f.writers name f.scalar → ⊥) → AreMovesFound l s f all d.number
    moves_elsewhere name copied other start via w hides =
        let here : first_copy d.place.0 f.scalar (graph_view f.writers.graph.now).blocks ≡ Some name = subst (λ (g : declared-graph.Graph). first_copy d.place.0 f.scalar (graph_view g).blocks ≡ Some name) asked.on.function.graph copied in
        absurd (other (subst (λ n. HaveOneHome f.writers n f.scalar) (same_temporary name here start via w hides) hides.0.shared))

    pub moves_all : (name : ℕ) (vias : List declared-via.Via) (writes : List declared-write.Write) → IsMovedTo l s f d name → AreWritesBy f.writers.all.items (λ y. y) name writes → All (λ (w : declared-write.Write). IsViaOf s vias w) writes
        → All (λ (v : declared-via.Via). IsViaTold f all (λ start w. cause.Moved d.number start w) v) vias → AreMovesFound l s f all d.number
    moves_all name vias writes is by found told start via w hides =
        let t = hides.0.t in
        let z : declared-written.Written = record { place = via; name = t; writer = w } in
        let at = member_at f.writers.all.items z (asked.on.function.writers.all via t w hides.0.writes) in
        let one = covered_by asked all (λ start w. cause.Moved d.number start w) vias writes found told start via at.0 z at.1 (by.complete at.0 z at.1 (same_temporary name is.copied start via w hides)) hides.1 in
        record { one = record { cause = cause.Moved d.number one.0.start one.1.writer; via = one.0.place }; is = one.2; by = one.3; before = inr (refl, inr (refl, one.4)) }

  pub shares_none : (all : List declared-found.Found) → ((n : ℕ) → IsSharing l s.flow.var.0 n → ⊥) → (number : ℕ) → AreSharesFound l s f all number
  shares_none all none number start via w hides = absurd (none number (shared_back l s f number hides.2.is))

  pub shares_all : IsAsked l s f → (all : List declared-found.Found) (change : ℕ) (vias : List declared-via.Via) (writes : List declared-write.Write) → AreForeign f writes → All (λ (w : declared-write.Write). IsViaOf s vias w) writes
      → All (λ (v : declared-via.Via). IsViaTold f all (λ start w. cause.Reused change start w) v) vias → (number : ℕ) → AreSharesFound l s f all number
  shares_all asked all change vias writes foreign found told number start via w hides =
      let y = hides.0.y in
      let z : declared-written.Written = record { place = via; name = y; writer = w } in
      let at = member_at f.writers.all.items z (asked.on.function.writers.all via y w hides.0.writes) in
      let own : mark_at f.own y ≡ None = unowned y hides.0.foreign in
      let is : IsForeign f y = record { other = hides.0.other; foreign = own; shared = hides.0.shared } in
      let one = covered_by asked all (λ start w. cause.Reused change start w) vias writes found told start via at.0 z at.1 (foreign at.0 z at.1 is) hides.1 in
      record { one = record { cause = cause.Reused change one.0.start one.1.writer; via = one.0.place }; is = one.2; by = one.3; before = inr (refl, one.4) }
    where
      unowned : (y : ℕ) → (IsTemporaryOf (log_of l) (graph_view f.writers.graph.now) f.scalar s.flow.var.0 y → ⊥) → mark_at f.own y ≡ None
      unowned y none = elim (none_tells (mark_at f.own y)) [ inl e ↦ e | inr e ↦ absurd (none (asked.on.only y e)) ]

  -- all was found, step by step
  pub all_by : (first mid last : declared-causes.Causes) → ((n : ℕ) → IsRemovalFound l s f first.found.items n) → AreMoreFound first mid → ((n : ℕ) → AreMovesFound l s f mid.found.items n) → AreMoreFound mid last → ((n : ℕ) → AreSharesFound l s f last.found.items n) → AreAllFound l s f last.found.items
  all_by first mid last removed one moved two reused = record {
    removed = λ n. removal_kept mid last two n (removal_kept first mid one n (removed n));
    moved = λ n. moves_kept mid last two n (moved n);
    reused = reused;
  }

-- the questions are on a scalar
pub ready_by : (t : declared-teller.Teller) (f : declared-function.Function) (first mid : declared-causes.Causes) → IsAsked t.changes t.search f → AreCauses t.changes t.search f t.causes → ((n : ℕ) → IsRemovalFound t.changes t.search f first.found.items n) → AreMoreFound first mid
    → ((n : ℕ) → AreMovesFound t.changes t.search f mid.found.items n) → AreMoreFound mid t.causes → ((n : ℕ) → AreSharesFound t.changes t.search f t.causes.found.items n) → AreQuietStarts t.changes t.search f t.quiet.starts → IsReady t f
ready_by t f first mid asked causes removed one moved two reused quiet = record { asked = asked; causes = causes; all = all_by t.changes t.search f first mid t.causes removed one moved two reused; quiet = quiet }
