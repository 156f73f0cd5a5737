-- The questions are on one scalar.
use Rattle.std.proofs.Common.{◌≡◌, ◌≢◌, inl, inr, ℕ, ◌+◌, ◌-◌, ◌<◌, ◌≤◌, Bool, true, false, None, Option, Some, List, [], length, get_or, take, refl, sym, ap, subst, ◌∙◌, true≢false, eqb-true, min, arith}
use Rattle.std.specs.Prelude.{All, Contains, slice_get, ◌⊎◌, ◌↔◌}
use Rattle.std.proofs.lemmas.List.Elements.{All-contains, All-more, All-weaker, Contains-get_or}
use Rattle.debug_records.specs.declared.change.Change.{Change}
use Rattle.debug_records.specs.declared.change.Kind.TheVariants.{Moved}
use Rattle.graph_homes.specs.declared.home.Home.{Home}
use Rattle.graph_homes.specs.declared.home.Home.TheVariants.{Register, Slot}
use Rattle.graph_homes.specs.Homes.{is_same_home}
use Rattle.graph_homes.specs.Reused.{IsTemporaryOf, first_copy}
use Rattle.graph_core.specs.Graphs.{Graph, Logged, graph_view, logged}
use Rattle.currency_notes.specs.Homes.{home_in, number_at}
use Rattle.currency_writers.specs.Marks.{mark_at as mark_of, room_of}
use Rattle.currency_writers.specs.declared.marks.Marks as declared-marks
use Rattle.currency_notes.proofs.Lists.{at_among, take_whole}
use Rattle.currency_writers.specs.declared.writers.Writer as declared-writer
use Rattle.currency_writers.specs.declared.writers.Writers as declared-writers
use Rattle.currency_writers.specs.declared.writers.Write as declared-write
use Rattle.currency_writers.specs.declared.writers.Written as declared-written
use Rattle.currency_writers.specs.declared.copies.Copies as declared-copies
use Rattle.graph_core.specs.declared.graph.Graph as declared-graph
use Rattle.currency_hiding.specs.declared.changes.Changes as declared-changes
use Rattle.currency_hiding.specs.declared.function.Function as declared-function
use Rattle.currency_writers.specs.Writers.{AreWriters, AreWritesBy, HaveOneHome, IsWriter, Writes, home_key}
use Rattle.currency_writers.specs.Copies.{AreCopies}
use Rattle.currency_writers.specs.declared.search.Search as declared-search
use Rattle.currency_writers.specs.Starts.{IsTurned}
use Rattle.currency_hiding.specs.Changes.{AreFound, AreListed, IsListed, hides_as, log_of}
use Rattle.currency_hiding.specs.Found.{AreCopiesBelow, AreForeign, ArePlaced, IsAsked, IsCopied, IsForeign, IsFunction, IsHomeWritten, IsOn, IsOwn}
use Rattle.currency_writers.proofs.Entering.{none_tells}
use Rattle.currency_hiding.proofs.ByKind.{moved_by}
use Rattle.currency_hiding.proofs.Listed.{listed_by, numbered}
pub use Rattle.base_laws.proofs.Lists.{member_at}

same_number : (a b : Home) → is_same_home a b ≡ true → number_at a ≡ number_at b
same_number (Register r) (Register q) e = eqb-true r q e
same_number (Slot k) (Slot j) e = ap (λ n. min (n + 32) 4294967295) (eqb-true k j e)
same_number (Register r) (Slot j) e = absurd (true≢false (sym e))
same_number (Slot k) (Register r) e = absurd (true≢false (sym e))

-- the places are marked where the home of a name is written
abbrev pub AreMarked : declared-writers.Writers → (x : ℕ) → declared-marks.Marks (Unit {0}) → Type 0
AreMarked v x marks = (p y : ℕ) (w : declared-writer.Writer) → Writes v p y w → HaveOneHome v y x → mark_of marks p ≢ None

-- and no others
abbrev pub AreBare : declared-writers.Writers → (x : ℕ) → declared-marks.Marks (Unit {0}) → Type 0
AreBare v x marks = (p : ℕ) → mark_of marks p ≢ None → IsHomeWritten v x p

-- a name that is marked is that of the first copy in the place of a change
abbrev pub AreOwnOnly : declared-function.Function → List Change → Type 0
AreOwnOnly f moved = (t : ℕ) → mark_of f.own t ≢ None → (d : Change) × Contains moved d × IsCopied f d.place.0 t

-- the place of a write is marked, if that is for a name that is so and the place is below a number
abbrev pub IsPlaceMarked : declared-writers.Writers → (Is : ℕ → Type 0) → (room : ℕ) → declared-marks.Marks (Unit {0}) → declared-write.Write → Type 0
IsPlaceMarked v Is room marks w = (z : declared-written.Written) → slice_get v.all.items w.number ≡ Some z → z.place ≡ w.place → Is z.name → w.place < room → mark_of marks w.place ≢ None

-- all writes of the home were looked at
pub marked_all : (v : declared-writers.Writers) (x : ℕ) (Is : ℕ → Type 0) (room : ℕ) (marks : declared-marks.Marks (Unit {0})) (list : List declared-write.Write) (k : ℕ) → AreWriters v → AreWritesBy v.all.items (home_key v) (home_key v x) list → length list ≤ k → ((y : ℕ) → Is y → HaveOneHome v y x) → All (IsPlaceMarked v Is room marks) (take k list)
    → (p y : ℕ) (w : declared-writer.Writer) → Writes v p y w → Is y → p < room → mark_of marks p ≢ None
marked_all v x Is room marks list k writers by le home all p y w writes is lt =
    let at = member_at v.all.items (record { place = p; name = y; writer = w }) (writers.all p y w writes) in
    let number = same_number (home_in v.homes.now y) (home_in v.homes.now x) (home y is) in
    All-contains (IsPlaceMarked v Is room marks) list (record { place = p; number = at.0 }) (subst (λ (l : List declared-write.Write). All (IsPlaceMarked v Is room marks) l) (take_whole list k le) all) (by.complete at.0 (record { place = p; name = y; writer = w }) at.1 number)
    (record { place = p; name = y; writer = w }) at.1 refl is lt

-- a place is below a number that is the same
pub same_room : (p old new : ℕ) → new ≡ old → p < old → p < new
same_room p old new same lt = omega (arith, same, lt)

-- nothing is in a list that is empty
pub all_none : {A : Type 0} (P : A → Type 0) (xs : List A) → xs ≡ [] → All P xs
all_none {A} P xs none k d lt = (let long = ap (λ (ys : List A). length ys) none in absurd (omega (arith, lt, long)))

-- one write more
pub marked_next : (v : declared-writers.Writers) (Is : ℕ → Type 0) (room : ℕ) (old new : declared-marks.Marks (Unit {0})) (list : List declared-write.Write) (k : ℕ) (d : declared-write.Write) → k < length list → ((p : ℕ) → mark_of old p ≢ None → mark_of new p ≢ None) → IsPlaceMarked v Is room new (get_or list k d)
    → All (IsPlaceMarked v Is room old) (take k list) → All (IsPlaceMarked v Is room new) (take (k + 1) list)
marked_next v Is room old new list k d lt kept here all =
    All-more (IsPlaceMarked v Is room new) list k d lt (All-weaker (IsPlaceMarked v Is room old) (IsPlaceMarked v Is room new) (λ w was z at place is small. kept w.place (was z at place is small)) (take k list) all) here

pub bare_next : (v : declared-writers.Writers) (x : ℕ) (old new : declared-marks.Marks (Unit {0})) → ((p : ℕ) → mark_of new p ≢ None → (mark_of old p ≢ None) ⊎ IsHomeWritten v x p) → AreBare v x old → AreBare v x new
bare_next v x old new only was p some = elim (only p some) [ inl e ↦ was p e | inr is ↦ is ]

module _ (c : declared-changes.Changes) (f : declared-function.Function) (variable : ℕ) (moved : List Change) where
  own : f.scalar < length (graph_view f.writers.graph.now).scalars → AreFound c variable Moved moved → All (λ (d : Change). IsOwn f d.place.0) moved → (t : ℕ) → IsTemporaryOf (log_of c) (graph_view f.writers.graph.now) f.scalar variable t → mark_of f.own t ≢ None
  own scalar found marked t temporary =
      let one = listed_by c temporary.change temporary.logged in
      let d : Change = one.1 in
      let same : logged d ≡ temporary.change = one.3 in
      let among : Contains moved d = found.all one.0 d one.2 (ap (λ (z : Logged). z.variable) same ∙ temporary.of) (ap (λ (z : Logged). hides_as z.kind) same ∙ ap hides_as temporary.moved) in
      All-contains (λ (d : Change). IsOwn f d.place.0) moved d marked among t scalar (ap (λ (z : Logged). first_copy z.place f.scalar (graph_view f.writers.graph.now).blocks) same ∙ temporary.copied) temporary.temporary

  only : AreFound c variable Moved moved → AreOwnOnly f moved → (t : ℕ) → mark_of f.own t ≢ None → IsTemporaryOf (log_of c) (graph_view f.writers.graph.now) f.scalar variable t
  only found marked t some =
      let one = marked t some in
      let is = All-contains (λ (d : Change). IsListed c d.number d × (d.var.0 ≡ variable) × (hides_as d.kind ≡ Moved)) moved one.0 found.each one.1 in
      record { change = logged one.0; logged = at_among (log_of c) (one.0.number - 1) (logged one.0) (numbered c one.0.number one.0 is.0).is; moved = moved_by one.0.kind is.2; of = is.1; copied = one.2.copied; temporary = one.2.temporary }

  pub is_on : IsFunction f → f.scalar < length (graph_view f.writers.graph.now).scalars → AreFound c variable Moved moved → AreMarked f.writers f.scalar f.written → AreBare f.writers f.scalar f.written → All (λ (d : Change). IsOwn f d.place.0) moved → AreOwnOnly f moved → IsOn (log_of c) f variable
  is_on is scalar found places bare temporaries others = record { function = is; scalar = scalar; written = places; bare = bare; own = own scalar found temporaries; only = only found others }

-- where the names of a function may be written
pub placed_on : (v : declared-writers.Writers) (old new : ℕ) → new ≡ old → ArePlaced v.function (graph_view v.graph.now) old → ArePlaced v.function (graph_view v.graph.now) new
placed_on v old new same placed p x w writes = (let inside = placed p x w writes in omega (arith, inside, same))

pub below_on : (g : Graph) (old new : ℕ) → new ≡ old → AreCopiesBelow g old → AreCopiesBelow g new
below_on g old new same below p x t copied = (let inside = below p x t copied in omega (arith, inside, same))

-- the same by what a function was made of
pub placed_for : (f number places room : ℕ) (h g : declared-graph.Graph) → f ≡ number → h ≡ g → room ≡ places → ArePlaced number (graph_view g) places → ArePlaced f (graph_view h) room
placed_for f number places room h g function graph same placed p x w writes =
    (let inside = placed p x w (subst (λ (k : declared-graph.Graph). IsWriter number (graph_view k) p x w) graph (subst (λ n. IsWriter n (graph_view h) p x w) function writes)) in omega (arith, inside, same))

pub below_for : (names room : ℕ) (h g : declared-graph.Graph) → h ≡ g → room ≡ names → AreCopiesBelow (graph_view g) names → AreCopiesBelow (graph_view h) room
below_for names room h g graph same below p x t copied = (let inside = below p x t (subst (λ (k : declared-graph.Graph). first_copy p x (graph_view k).blocks ≡ Some t) graph copied) in omega (arith, inside, same))

-- what is known of a function is of its writers and copies, and of how much may be marked
pub function_on : (f h : declared-function.Function) → h.writers ≡ f.writers → h.copies ≡ f.copies → room_of h.written ≡ room_of f.written → room_of h.own ≡ room_of f.own → IsFunction f → IsFunction h
function_on f h writers copies written own is = record {
  writers = subst (λ (w : declared-writers.Writers). AreWriters w) (sym writers) is.writers;
  copies = subst (λ (z : declared-copies.Copies). AreCopies z) (sym copies) is.copies;
  graph = ap (λ (z : declared-copies.Copies). z.graph.now) copies ∙ is.graph ∙ sym (ap (λ (w : declared-writers.Writers). w.graph.now) writers);
  placed = placed_on h.writers (room_of f.written) (room_of h.written) written (subst (λ (w : declared-writers.Writers). ArePlaced w.function (graph_view w.graph.now) (room_of f.written)) (sym writers) is.placed);
  below = below_on (graph_view h.writers.graph.now) (room_of f.own) (room_of h.own) own (subst (λ (w : declared-writers.Writers). AreCopiesBelow (graph_view w.graph.now) (room_of f.own)) (sym writers) is.below);
}

-- what is asked
pub asked_by : (l : declared-changes.Changes) (s : declared-search.Search) (f : declared-function.Function) (variable : ℕ) → AreListed l → IsTurned s → s.flow.var.0 ≡ variable → IsOn (log_of l) f variable → IsAsked l s f
asked_by l s f variable listed turned same on = record { changes = listed; search = turned; on = subst (λ v. IsOn (log_of l) f v) (sym same) on }

-- what is not marked
pub unmarked : {T : Type 0} (r : Bool) (o : Option T) → (r ≡ true) ↔ (o ≢ None) → r ≡ false → o ≡ None
unmarked r o is none = elim (none_tells o) [ inl e ↦ e | inr e ↦ absurd (true≢false (sym (is.1 e) ∙ none)) ]

-- a temporary stays marked as one more is
pub own_kept : (old new : declared-function.Function) (p : ℕ) → new.writers ≡ old.writers → new.scalar ≡ old.scalar → ((q : ℕ) → mark_of old.own q ≢ None → mark_of new.own q ≢ None) → IsOwn old p → IsOwn new p
own_kept old new p writers scalar kept own t lt copied le =
    kept t (own t (subst (λ (x : ℕ). x < length (graph_view old.writers.graph.now).scalars) scalar (subst (λ (w : declared-writers.Writers). new.scalar < length (graph_view w.graph.now).scalars) writers lt))
    (subst (λ (x : ℕ). first_copy p x (graph_view old.writers.graph.now).blocks ≡ Some t) scalar (subst (λ (w : declared-writers.Writers). first_copy p new.scalar (graph_view w.graph.now).blocks ≡ Some t) writers copied))
    (subst (λ (w : declared-writers.Writers). length (graph_view w.graph.now).scalars ≤ t) writers le))

copied_on : (old new : declared-function.Function) (p t : ℕ) → new.writers ≡ old.writers → new.scalar ≡ old.scalar → IsCopied old p t → IsCopied new p t
copied_on old new p t writers scalar is = record {
  copied = subst (λ (x : ℕ). first_copy p x (graph_view new.writers.graph.now).blocks ≡ Some t) (sym scalar) (subst (λ (w : declared-writers.Writers). first_copy p old.scalar (graph_view w.graph.now).blocks ≡ Some t) (sym writers) is.copied);
  temporary = subst (λ (w : declared-writers.Writers). length (graph_view w.graph.now).scalars ≤ t) (sym writers) is.temporary;
}

-- the temporaries of one change more are marked
pub owns_next : (old new : declared-function.Function) (list : List Change) (k : ℕ) (d : Change) → k < length list → new.writers ≡ old.writers → new.scalar ≡ old.scalar → ((q : ℕ) → mark_of old.own q ≢ None → mark_of new.own q ≢ None) → IsOwn new (get_or list k d).place.0 → All (λ (e : Change). IsOwn old e.place.0) (take k list)
    → All (λ (e : Change). IsOwn new e.place.0) (take (k + 1) list)
owns_next old new list k d lt writers scalar kept here all =
    All-more (λ (e : Change). IsOwn new e.place.0) list k d lt (All-weaker (λ (e : Change). IsOwn old e.place.0) (λ (e : Change). IsOwn new e.place.0) (λ e was. own_kept old new e.place.0 writers scalar kept was) (take k list) all) here

pub only_next : (old new : declared-function.Function) (list : List Change) (k : ℕ) (d : Change) → k < length list → new.writers ≡ old.writers → new.scalar ≡ old.scalar → ((t : ℕ) → mark_of new.own t ≢ None → (mark_of old.own t ≢ None) ⊎ IsCopied new (get_or list k d).place.0 t) → AreOwnOnly old list → AreOwnOnly new list
only_next old new list k d lt writers scalar only was t some = elim (only t some) [
  | inl e ↦ (let one = was t e in (one.0, one.1, copied_on old new one.0.place.0 t writers scalar one.2))
  | inr is ↦ (get_or list k d, Contains-get_or list k d lt, is)
]

-- the temporaries of all changes are marked
pub owns_done : (f : declared-function.Function) (list : List Change) (k : ℕ) → length list ≤ k → All (λ (e : Change). IsOwn f e.place.0) (take k list) → All (λ (e : Change). IsOwn f e.place.0) list
owns_done f list k le all = subst (λ (l : List Change). All (λ (e : Change). IsOwn f e.place.0) l) (take_whole list k le) all

-- the temporary of a place is marked, by the copies
pub own_by : (f : declared-function.Function) (p : ℕ) → f.copies.graph.now ≡ f.writers.graph.now
    → ((t : ℕ) → f.scalar < length (graph_view f.copies.graph.now).scalars → first_copy p f.scalar (graph_view f.copies.graph.now).blocks ≡ Some t → length (graph_view f.copies.graph.now).scalars ≤ t → mark_of f.own t ≢ None) → IsOwn f p
own_by f p graph marked t lt copied le =
    marked t (subst (λ (g : declared-graph.Graph). f.scalar < length (graph_view g).scalars) (sym graph) lt) (subst (λ (g : declared-graph.Graph). first_copy p f.scalar (graph_view g).blocks ≡ Some t) (sym graph) copied) (subst (λ (g : declared-graph.Graph). length (graph_view g).scalars ≤ t) (sym graph) le)

pub only_by : (f : declared-function.Function) (old : declared-marks.Marks (Unit {0})) (p : ℕ) → f.copies.graph.now ≡ f.writers.graph.now
    → ((t : ℕ) → mark_of f.own t ≢ None → (mark_of old t ≢ None) ⊎ ((first_copy p f.scalar (graph_view f.copies.graph.now).blocks ≡ Some t) × (length (graph_view f.copies.graph.now).scalars ≤ t))) → (t : ℕ) → mark_of f.own t ≢ None → (mark_of old t ≢ None) ⊎ IsCopied f p t
only_by f old p graph only t some = elim (only t some) [
  | inl e ↦ inl e
  | inr is ↦ inr (record {
    copied = subst (λ (g : declared-graph.Graph). first_copy p f.scalar (graph_view g).blocks ≡ Some t) graph is.0;
    temporary = subst (λ (g : declared-graph.Graph). length (graph_view g).scalars ≤ t) graph is.1;
  })
]

-- the questions were turned to a scalar
pub turned : (c : declared-changes.Changes) (first mid f : declared-function.Function) (scalar variable : ℕ) (moved : List Change) → IsFunction f → scalar < length (graph_view first.writers.graph.now).scalars → mid.writers ≡ first.writers → mid.scalar ≡ scalar
    → AreMarked mid.writers mid.scalar mid.written → AreBare mid.writers mid.scalar mid.written → f.writers ≡ mid.writers → f.scalar ≡ mid.scalar → f.written ≡ mid.written → AreFound c variable Moved moved → All (λ (d : Change). IsOwn f d.place.0) moved → AreOwnOnly f moved → IsOn (log_of c) f variable
turned c first mid f scalar variable moved is lt writers same marked bare writers2 same2 written2 found own others =
    is_on c f variable moved is
    (subst (λ (x : ℕ). x < length (graph_view f.writers.graph.now).scalars) (sym (same2 ∙ same)) (subst (λ (w : declared-writers.Writers). scalar < length (graph_view w.graph.now).scalars) (sym (writers2 ∙ writers)) lt))
    found (on_all AreMarked marked) (on_all AreBare bare) own others
  where
    on_all : (P : declared-writers.Writers → ℕ → declared-marks.Marks (Unit {0}) → Type 0) → P mid.writers mid.scalar mid.written → P f.writers f.scalar f.written
    on_all P was = subst (λ (w : declared-writers.Writers). P w f.scalar f.written) (sym writers2) (subst (λ (x : ℕ). P mid.writers x f.written) (sym same2) (subst (λ (marks : declared-marks.Marks (Unit {0})). P mid.writers mid.scalar marks) (sym written2) was))

-- a write was found, if it is for a foreign name
abbrev pub IsForeignFound : declared-function.Function → List declared-write.Write → declared-write.Write → Type 0
IsForeignFound f found w = (z : declared-written.Written) → slice_get f.writers.all.items w.number ≡ Some z → z.place ≡ w.place → IsForeign f z.name → Contains found w

pub foreign_next : (f : declared-function.Function) (old new : List declared-write.Write) (list : List declared-write.Write) (k : ℕ) (d : declared-write.Write) → k < length list → ((w : declared-write.Write) → Contains old w → Contains new w) → IsForeignFound f new (get_or list k d) → All (λ (w : declared-write.Write). IsForeignFound f old w) (take k list)
    → All (λ (w : declared-write.Write). IsForeignFound f new w) (take (k + 1) list)
foreign_next f old new list k d lt kept here all =
    All-more (λ (w : declared-write.Write). IsForeignFound f new w) list k d lt (All-weaker (λ (w : declared-write.Write). IsForeignFound f old w) (λ (w : declared-write.Write). IsForeignFound f new w) (λ w was z at place is. kept w (was z at place is)) (take k list) all) here

pub foreign_done : (f : declared-function.Function) (found list : List declared-write.Write) (k : ℕ) → AreWritesBy f.writers.all.items (home_key f.writers) (home_key f.writers f.scalar) list → length list ≤ k → All (λ (w : declared-write.Write). IsForeignFound f found w) (take k list) → AreForeign f found
foreign_done f found list k by le all j z at is =
    let number = same_number (home_in f.writers.homes.now z.name) (home_in f.writers.homes.now f.scalar) is.shared in
    All-contains (λ (w : declared-write.Write). IsForeignFound f found w) list (record { place = z.place; number = j }) (subst (λ (l : List declared-write.Write). All (λ (w : declared-write.Write). IsForeignFound f found w) l) (take_whole list k le) all) (by.complete j z at number) z at refl is
