-- What hides a scalar.
use Rattle.std.proofs.Common.{◌≡◌, inl, inr, ℕ, ◌<◌, ◌≤◌, true, None, Option, Some, List, [], ◌∷◌, ◌++◌, length, get_or, refl, sym, ap, subst, ◌∙◌, arith}
use Rattle.std.specs.Prelude.{slice_get, All, IsSomeAnd}
use Rattle.std.proofs.lemmas.List.Elements.{All-nil, All-push}
use Rattle.std.proofs.lemmas.Option.{none-some, same_Some, slice_get-get_or, slice_get_within}
use Rattle.places.specs.Path.{quest_by}
use Rattle.debug_records.specs.declared.change.Change.{Change}
use Rattle.debug_records.specs.declared.change.Kind.{Kind}
use Rattle.debug_records.specs.declared.change.Kind.TheVariants.{Moved, Removed}
use Rattle.graph_core.specs.Graphs.{Logged, graph_view, logged}
use Rattle.graph_core.specs.declared.graph.Graph as declared-graph
use Rattle.graph_homes.specs.Reused.{first_copy}
use Rattle.currency_writers.specs.declared.search.Search as declared-search
use Rattle.currency_writers.specs.Marks.{mark_at, room_of}
use Rattle.currency_writers.specs.Flow.{AreTold, ComesOn, HasRoom, IsClosed, IsToldFrom, assigned}
use Rattle.currency_writers.specs.Starts.{IsStartBy}
use Rattle.currency_writers.proofs.Routes.{route_by}
use Rattle.currency_writers.specs.declared.writers.Writer as declared-writer
use Rattle.currency_hiding.specs.declared.changes.Changes as declared-changes
use Rattle.currency_hiding.specs.declared.function.Function as declared-function
use Rattle.currency_hiding.specs.declared.causes.Cause as declared-cause
use Rattle.currency_hiding.specs.declared.causes.Cause.TheVariants as cause
use Rattle.currency_hiding.specs.declared.causes.Found as declared-found
use Rattle.currency_hiding.specs.declared.causes.Causes as declared-causes
use Rattle.debug_records.specs.Change.{letters}
use Rattle.currency_notes.specs.Homes.{home_in}
use Rattle.currency_writers.specs.Order.{IsNoLater}
use Rattle.currency_writers.specs.Writers.{HaveOneHome, Writes}
use Rattle.currency_writers.proofs.Entering.{and_some, some_and}
use Rattle.currency_writers.proofs.Order.{no_later_same}
use Rattle.currency_writers.proofs.Indexed.{get_cases, get_kept, get_last}
use Rattle.currency_hiding.specs.Changes.{AreFound, IsLastSharing, IsSharing, log_of}
use Rattle.currency_hiding.specs.First.{IsLastShared, IsShared, order_of}
use Rattle.currency_hiding.specs.Found.{AreCauses, AreInOrder, HidesAt, HidesFrom, IsAsked, IsForeign, IsMovedTo, IsOfKind, variable_of}
use Rattle.currency_hiding.proofs.ByKind.{moved_by, taken_by}
use Rattle.currency_hiding.proofs.Listed.{listed_of, numbered}

module _ (l : declared-changes.Changes) (s : declared-search.Search) (f : declared-function.Function) where
  abbrev IsSharedBy : (number : ℕ) → Type 0
  IsSharedBy number = IsShared (log_of l) s.flow.table.now (home_in f.writers.homes.now) f.writers.function (graph_view f.writers.graph.now) f.scalar s.flow.var.0 number

  abbrev IsLastSharedBy : (number : ℕ) → Type 0
  IsLastSharedBy number = IsLastShared (log_of l) s.flow.table.now (home_in f.writers.homes.now) f.writers.function (graph_view f.writers.graph.now) f.scalar s.flow.var.0 number

  pub removed_hides : IsAsked l s f → (d : Change) → IsOfKind l s f Removed d → assigned s.flow d.place.0 ≡ true → mark_at f.written d.place.0 ≡ None → HidesFrom l s f (cause.Removed d.number d.place.0) d.place.0
  removed_hides asked d is assigned none = (
    refl,
    record {
      change = logged d;
      is = numbered l d.number d is.is;
      taken = taken_by d.kind is.of_kind;
      of = is.of;
      at = refl;
      assigned = assigned;
      bare = λ y w writes shared. asked.on.written d.place.0 y w writes shared none;
    },
  )

  pub moved_hides : (d : Change) (t via start : ℕ) (w : declared-writer.Writer) → IsMovedTo l s f d t → Writes f.writers via t w → IsStartBy s start via → HidesFrom l s f (cause.Moved d.number start w) via
  moved_hides d t via start w is writes from = (
    record { change = logged d; is = numbered l d.number d is.change.is; moved = moved_by d.kind is.change.of_kind; of = is.change.of; t = t; copied = is.copied; temporary = is.temporary; writes = writes; shared = is.shared },
    from,
  )

  shared_log : (number : ℕ) → IsSharing l s.flow.var.0 number → IsSharedBy number
  shared_log number is = record { change = logged is.change; is = numbered l number is.change is.is; reused = is.reused; of = is.of; named = is.named }

  -- what the log says of a change is so of it
  pub shared_back : (number : ℕ) → IsSharedBy number → IsSharing l s.flow.var.0 number
  shared_back number is = (let one = listed_of l number is.change is.is in
      record {
        change = one.0;
        is = one.1;
        of = ap (λ (z : Logged). z.variable) one.2 ∙ is.of;
        reused = ap (λ (z : Logged). z.kind) one.2 ∙ is.reused;
        named = ap (λ (z : Logged). letters z.pass) one.2 ∙ is.named;
      })

  pub last_shared : (number : ℕ) → IsLastSharing l s.flow.var.0 number → IsLastSharedBy number
  last_shared number is = record { is = shared_log number is.is; last = λ other shared. is.last other (shared_back other shared) }

  pub reused_hides : IsAsked l s f → (number y via start : ℕ) (w : declared-writer.Writer) → IsLastSharing l s.flow.var.0 number → IsForeign f y → Writes f.writers via y w → IsStartBy s start via → HidesFrom l s f (cause.Reused number start w) via
  reused_hides asked number y via start w last foreign writes from = (
    record {
      change = logged last.is.change;
      is = numbered l number last.is.change last.is.is;
      reused = last.is.reused;
      of = last.is.of;
      y = y;
      other = foreign.other;
      foreign = λ temporary. asked.on.own y temporary foreign.foreign;
      writes = writes;
      shared = foreign.shared;
    },
    from,
    last_shared number last,
  )

  -- what was found is in order with one more
  ordered_more : (all : List declared-found.Found) (one : declared-found.Found) → AreInOrder all → ((k : ℕ) (z : declared-found.Found) → slice_get all k ≡ Some z → IsNoLater (order_of z.cause z.via) (order_of one.cause one.via)) → AreInOrder (all ++ (one ∷ []))
  ordered_more all one was next j k z y le first last = elim (get_cases all one y k last) [
    | inl e ↦ elim (get_cases all one z j first) [
      | inl g ↦ was j k z y le g e
      | inr g ↦ (let lt : k < length all = slice_get_within all k y e in let same = g.0 in absurd (omega (arith, lt, same, le)))
    ]
    | inr e ↦ elim (get_cases all one z j first) [
      | inl g ↦ subst (λ (x : declared-found.Found). IsNoLater (order_of z.cause z.via) (order_of x.cause x.via)) e.1 (next j z g)
      | inr g ↦ subst (λ (x : declared-found.Found). IsNoLater (order_of z.cause z.via) (order_of x.cause x.via)) (sym g.1 ∙ e.1) (no_later_same (order_of z.cause z.via))
    ]
  ]

  pub causes_more : (old new : declared-causes.Causes) (one : declared-found.Found) → AreCauses l s f old → HidesFrom l s f one.cause one.via → new.found.items ≡ old.found.items ++ (one ∷ [])
      → ((k : ℕ) (z : declared-found.Found) → slice_get old.found.items k ≡ Some z → IsNoLater (order_of z.cause z.via) (order_of one.cause one.via)) → IsToldFrom s.flow one.via (length old.found.items) old.told new.told → IsClosed s.flow new.told → AreTold s.flow one.via new.told → room_of new.told ≡ room_of old.told → AreCauses l s f new
  causes_more old new one before hides found next told closed all room = record {
    each = subst (λ (all : List declared-found.Found). All (λ (z : declared-found.Found). HidesFrom l s f z.cause z.via) all) (sym found) (All-push (λ (z : declared-found.Found). HidesFrom l s f z.cause z.via) old.found.items one before.each hides);
    told = λ p number at. elim (told p) [
      | inl e ↦ (let was = before.told p number (sym e ∙ at) in
          record {
            one = was.one;
            is = ap (λ (all : List declared-found.Found). slice_get all number) found ∙ get_kept old.found.items one was.one number was.is;
            comes = was.comes;
          })
      | inr e ↦ (let same : length old.found.items ≡ number = same_Some (length old.found.items) number (sym e.1 ∙ at) in
          record {
            one = one;
            is = ap (λ (all : List declared-found.Found). slice_get all number) found ∙ ap (λ n. slice_get (old.found.items ++ (one ∷ [])) n) (sym same) ∙ get_last old.found.items one;
            comes = e.2;
          })
    ];
    closed = closed;
    first = λ k p z at comes. elim (get_cases old.found.items one z k (sym (ap (λ (all : List declared-found.Found). slice_get all k) found) ∙ at)) [
      | inl e ↦ kept k p (before.first k p z e comes)
      | inr e ↦ last k p e.0 (subst (λ (y : declared-found.Found). ComesOn s.flow y.via p) (sym e.1) comes)
    ];
    ordered = subst (λ (all : List declared-found.Found). AreInOrder all) (sym found) (ordered_more old.found.items one before.ordered next);
    room = subst (λ n. room_of s.flow.assigns ≤ n) (sym room) before.room;
  }
    where
      kept : (k p : ℕ) → IsSomeAnd (mark_at old.told p) (λ number. number ≤ k) → IsSomeAnd (mark_at new.told p) (λ number. number ≤ k)
      kept k p was = elim (told p) [
        | inl e ↦ subst (λ (o : Option ℕ). IsSomeAnd o (λ number. number ≤ k)) (sym e) was
        | inr r ↦ absurd (and_some (mark_at old.told p) (λ number. number ≤ k) was r.0)
      ]

      last : (k p : ℕ) → k ≡ length old.found.items → ComesOn s.flow one.via p → IsSomeAnd (mark_at new.told p) (λ number. number ≤ k)
      last k p same comes =
          some_and (mark_at new.told p) (λ number. number ≤ k) (all p comes)
          (λ number at. elim (told p) [
            | inl e ↦ (let was = before.told p number (sym e ∙ at) in let lt : number < length old.found.items = slice_get_within old.found.items number was.one was.is in omega (arith, lt, same))
            | inr r ↦ (let is : length old.found.items ≡ number = same_Some (length old.found.items) number (sym r.1 ∙ at) in omega (arith, is, same))
          ])

  -- what hides the scalar on ways by a place hides it where execution comes from there
  pub hides_at : (c : declared-cause.Cause) (via stop : ℕ) → HidesFrom l s f c via → ComesOn s.flow via stop → HidesAt l s f stop c
  hides_at (cause.Removed c start) via stop hides comes =
      (let there : ComesOn s.flow start stop = subst (λ v. ComesOn s.flow v stop) (sym hides.0) comes in
      let way = route_by (quest_by s.flow.table.now s.flow.var.0 start start stop) (inl refl) there in
      (hides.1, record { path = way.0; route = way.1 }))
  hides_at (cause.Moved c start w) via stop hides comes =
      (let way = route_by (quest_by s.flow.table.now s.flow.var.0 start via stop) hides.1.by comes in
      record { via = via; is = hides.0; assigned = hides.1.assigns; route = record { path = way.0; route = way.1 } })
  hides_at (cause.Reused c start w) via stop hides comes =
      (let way = route_by (quest_by s.flow.table.now s.flow.var.0 start via stop) hides.1.by comes in
      record { via = via; is = hides.0; assigned = hides.1.assigns; route = record { path = way.0; route = way.1 } })

  -- what is told at a place hides the scalar there
  pub told_hides : (c : declared-causes.Causes) (p number : ℕ) (z d : declared-found.Found) → AreCauses l s f c → mark_at c.told p ≡ Some number → number < length c.found.items → z ≡ get_or c.found.items number d → HidesAt l s f p z.cause
  told_hides c p number z d causes at lt is =
      let told = causes.told p number at in
      let one : told.one ≡ z = same_Some told.one z (sym told.is ∙ slice_get-get_or c.found.items number d lt ∙ ap Some (sym is)) in
      let hides : HidesFrom l s f z.cause z.via = subst (λ (y : declared-found.Found). HidesFrom l s f y.cause y.via) (sym is) (causes.each number d lt) in
      hides_at z.cause z.via p hides (subst (λ (y : declared-found.Found). ComesOn s.flow y.via p) one told.comes)

  -- nothing is found at first
  pub causes_none : (c : declared-causes.Causes) → c.found.items ≡ [] → ((p : ℕ) → mark_at c.told p ≡ None) → HasRoom s.flow c.told → AreCauses l s f c
  causes_none c found told room = record {
    each = subst (λ (all : List declared-found.Found). All (λ (z : declared-found.Found). HidesFrom l s f z.cause z.via) all) (sym found) (All-nil (λ (z : declared-found.Found). HidesFrom l s f z.cause z.via));
    told = λ p number at. absurd (none-some number (sym (told p) ∙ at));
    closed = λ q some. absurd (some (told q));
    first = λ k p z at. absurd (none-some z (sym (ap (λ (all : List declared-found.Found). slice_get all k) found) ∙ at));
    ordered = λ j k z y le at. absurd (none-some z (sym (ap (λ (all : List declared-found.Found). slice_get all j) found) ∙ at));
    room = room;
  }

  -- each of what was found of a kind is of it
  pub found_of : (kind : Kind) (variable : ℕ) (found : List Change) (k : ℕ) (d : Change) → variable ≡ variable_of l s f → AreFound l variable kind found → k < length found → IsOfKind l s f kind (get_or found k d)
  found_of kind variable found k d same are lt = (let one = are.each k d lt in record { is = one.0; of = one.1 ∙ same; of_kind = one.2 })

  -- what a moved computation is kept in
  pub moved_to : IsAsked l s f → (d : Change) (t : ℕ) → IsOfKind l s f Moved d → first_copy d.place.0 f.scalar (graph_view f.copies.graph.now).blocks ≡ Some t → length (graph_view f.copies.graph.now).scalars ≤ t → HaveOneHome f.writers t f.scalar → IsMovedTo l s f d t
  moved_to asked d t is copied temporary shared =
      (let graph : f.copies.graph.now ≡ f.writers.graph.now = asked.on.function.graph in
      record {
        change = is;
        copied = subst (λ (g : declared-graph.Graph). first_copy d.place.0 f.scalar (graph_view g).blocks ≡ Some t) graph copied;
        temporary = subst (λ (g : declared-graph.Graph). length (graph_view g).scalars ≤ t) graph temporary;
        shared = shared;
      })
