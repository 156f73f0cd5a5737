-- What is asked of a function for one of its scalars, and what is found to hide it.
use Rattle.std.specs.Prelude.{◌≡◌, ◌≢◌, ℕ, ◌<◌, ◌≤◌, IsSomeAnd, None, Some, List, [], ◌∷◌, All, AllPairs, Contains, length, slice_get}
use Rattle.debug_records.specs.declared.change.Change.{Change}
use Rattle.debug_records.specs.declared.change.Kind.{Kind}
use Rattle.debug_records.specs.declared.change.Kind.TheVariants.{Moved}
use Rattle.graph_homes.specs.Reused.{IsTemporaryOf, first_copy}
use Rattle.graph_core.specs.Graphs.{Graph, Logged, graph_view}
use Rattle.currency_notes.specs.Homes.{home_in}
use Rattle.currency_writers.specs.Marks.{mark_at, room_of}
use Rattle.currency_writers.specs.Flow.{ComesOn, HasRoom, IsClosed}
use Rattle.currency_writers.specs.Starts.{IsLeastStartBy, IsSearch, IsStartBy, IsTurned}
use Rattle.currency_writers.specs.declared.writers.Writer as declared-writer
use Rattle.currency_writers.specs.declared.writers.Writers as declared-writers
use Rattle.currency_writers.specs.declared.writers.Write as declared-write
use Rattle.currency_writers.specs.declared.writers.Written as declared-written
use Rattle.currency_hiding.specs.declared.function.Function as declared-function
use Rattle.currency_writers.specs.declared.search.Search as declared-search
use Rattle.currency_hiding.specs.declared.changes.Changes as declared-changes
use Rattle.currency_hiding.specs.declared.teller.Teller as declared-teller
use Rattle.currency_hiding.specs.declared.causes.Cause as declared-cause
use Rattle.currency_hiding.specs.declared.causes.Cause.TheVariants as cause
use Rattle.currency_hiding.specs.declared.causes.Found as declared-found
use Rattle.currency_hiding.specs.declared.causes.Via as declared-via
use Rattle.currency_hiding.specs.declared.causes.Causes as declared-causes
use Rattle.currency_hiding.specs.declared.hiding.Hiding as declared-hiding
use Rattle.currency_writers.specs.Order.{IsNoLater}
use Rattle.currency_writers.specs.Writers.{AreWriters, HaveOneHome, IsWriter, Writes}
use Rattle.currency_writers.specs.Copies.{AreCopies}
use Rattle.currency_hiding.specs.Changes.{AreListed, IsListed, hides_as, log_of}
use Rattle.currency_hiding.specs.Evidence.{Hides, IsBareRemoval, IsMovedWrite, IsReusedWrite}
use Rattle.currency_hiding.specs.QuietStarts.{AreQuietStarts, HasQuietRoom}
use Rattle.currency_hiding.specs.First.{HasNone, IsFirst, IsLastShared, Tells, order_of}

-- The names of a function are written in places below a number.
abbrev pub ArePlaced : (f : ℕ) → Graph → (places : ℕ) → Type 0
ArePlaced f g places = (p x : ℕ) (w : declared-writer.Writer) → IsWriter f g p x w → p < places

-- The first copies to names in places are of names below a number.
abbrev pub AreCopiesBelow : Graph → (names : ℕ) → Type 0
AreCopiesBelow g names = (p x t : ℕ) → first_copy p x g.blocks ≡ Some t → t < names

-- What is known of a function: what writes its names, and its copies; and the places and names that may be marked are
-- all that it writes and copies.
pub record IsFunction (f : declared-function.Function) : Type 0 where
  pub writers : AreWriters f.writers
  pub copies : AreCopies f.copies
  pub graph : f.copies.graph.now ≡ f.writers.graph.now
  pub placed : ArePlaced f.writers.function (graph_view f.writers.graph.now) (room_of f.written)
  pub below : AreCopiesBelow (graph_view f.writers.graph.now) (room_of f.own)

-- The home of a name is written in a place.
pub record IsHomeWritten (v : declared-writers.Writers) (x p : ℕ) : Type 0 where
  pub y : ℕ
  pub writer : declared-writer.Writer
  pub writes : Writes v p y writer
  pub shared : HaveOneHome v y x

-- The questions are on one scalar: the places where its home is written are marked, and the temporaries that keep moved
-- computations of the variable's value, and no others.
pub record IsOn (log : List Logged) (f : declared-function.Function) (variable : ℕ) : Type 0 where
  pub function : IsFunction f
  pub scalar : f.scalar < length (graph_view f.writers.graph.now).scalars
  pub written : (p y : ℕ) (w : declared-writer.Writer) → Writes f.writers p y w → HaveOneHome f.writers y f.scalar
      → mark_at f.written p ≢ None
  pub bare : (p : ℕ) → mark_at f.written p ≢ None → IsHomeWritten f.writers f.scalar p
  pub own : (t : ℕ) → IsTemporaryOf log (graph_view f.writers.graph.now) f.scalar variable t → mark_at f.own t ≢ None
  pub only : (t : ℕ) → mark_at f.own t ≢ None → IsTemporaryOf log (graph_view f.writers.graph.now) f.scalar variable t

-- The temporary of which the first copy to the scalar in a place is, is marked.
abbrev pub IsOwn : declared-function.Function → (p : ℕ) → Type 0
IsOwn f p =
    (t : ℕ) → f.scalar < length (graph_view f.writers.graph.now).scalars
    → first_copy p f.scalar (graph_view f.writers.graph.now).blocks ≡ Some t
    → length (graph_view f.writers.graph.now).scalars ≤ t → mark_at f.own t ≢ None

-- A name is that of the first copy to the scalar in a place, and no scalar.
pub record IsCopied (f : declared-function.Function) (p t : ℕ) : Type 0 where
  pub copied : first_copy p f.scalar (graph_view f.writers.graph.now).blocks ≡ Some t
  pub temporary : length (graph_view f.writers.graph.now).scalars ≤ t

-- A name has the home of the scalar, and is neither it nor a marked temporary.
pub record IsForeign (f : declared-function.Function) (y : ℕ) : Type 0 where
  pub other : y ≢ f.scalar
  pub foreign : mark_at f.own y ≡ None
  pub shared : HaveOneHome f.writers y f.scalar

-- A write is for a name that is so.
pub record IsForeignWrite (f : declared-function.Function) (write : declared-write.Write) : Type 0 where
  pub written : declared-written.Written
  pub is : slice_get f.writers.all.items write.number ≡ Some written
  pub place : written.place ≡ write.place
  pub foreign : IsForeign f written.name

-- All writes of names that are so are among these.
abbrev pub AreForeign : declared-function.Function → List declared-write.Write → Type 0
AreForeign f found =
    (k : ℕ) (z : declared-written.Written) → slice_get f.writers.all.items k ≡ Some z → IsForeign f z.name
    → Contains found (record {
      place = z.place;
      number = k;
    })

-- What was found is in the order in which it is told.
abbrev pub AreInOrder : List declared-found.Found → Type 0
AreInOrder all =
    (j k : ℕ) (z y : declared-found.Found) → j ≤ k → slice_get all j ≡ Some z → slice_get all k ≡ Some y
    → IsNoLater (order_of z.cause z.via) (order_of y.cause y.via)

-- What was found is told no later than what has these numbers in order.
abbrev pub AreToldBefore : List declared-found.Found → (rank : List ℕ) → Type 0
AreToldBefore all rank =
    (k : ℕ) (z : declared-found.Found) → slice_get all k ≡ Some z → IsNoLater (order_of z.cause z.via) rank

-- Places by which ways lead are in order: by their starts, then by themselves, then by the numbers of what writes
-- there.
abbrev pub AreViasInOrder : List declared-via.Via → Type 0
AreViasInOrder vias =
    AllPairs
    (λ (v w : declared-via.Via). IsNoLater (v.start ∷ v.place ∷ v.writer ∷ []) (w.start ∷ w.place ∷ w.writer ∷ []))
    vias

-- given: a search on one variable
module _ (s : declared-search.Search) where
  -- A place by which a way leads was found for a write, with a start that is not above a given one, and a write that is
  -- not behind it.
  pub record IsViaFor (vias : List declared-via.Via) (place number start : ℕ) : Type 0 where
    pub via : declared-via.Via
    pub is : Contains vias via
    pub in_place : via.place ≡ place
    pub start_below : via.start ≤ start
    pub writer_below : via.writer ≤ number

  -- Such places were found for a write, whatever the start.
  abbrev pub IsViaOf : List declared-via.Via → declared-write.Write → Type 0
  IsViaOf vias w = (start : ℕ) → IsStartBy s start w.place → IsViaFor vias w.place w.number start

  -- a way leads by the place from its start, and from no lesser one
  abbrev pub IsWayBy : declared-via.Via → Type 0
  IsWayBy v = IsLeastStartBy s v.start v.place

  -- A way leads so by the place of one of these writes.
  pub record IsWayOf (writes : List declared-write.Write) (v : declared-via.Via) : Type 0 where
    pub way : IsWayBy v
    pub write : Contains writes (record { place = v.place; number = v.writer })

-- A write of a place was found to hide the scalar, by what it writes.
pub record IsViaTold (f : declared-function.Function) (all : List declared-found.Found)
    (make : (start : ℕ) → declared-writer.Writer → declared-cause.Cause) (v : declared-via.Via) : Type 0 where
  pub written : declared-written.Written
  pub is : slice_get f.writers.all.items v.writer ≡ Some written
  pub told : Contains all (record { cause = make v.start written.writer; via = v.place })

-- given: the changes of a unit, a search on one variable, and a function with one scalar in question
module _ (l : declared-changes.Changes) (s : declared-search.Search) (f : declared-function.Function) where
  -- the variable in question
  abbrev pub variable_of : ℕ
  variable_of = s.flow.var.0

  -- What is asked is of changes that are listed, on a variable and its scalar.
  pub record IsAsked : Type 0 where
    pub changes : AreListed l
    pub search : IsTurned s
    pub on : IsOn (log_of l) f variable_of

  -- A change is one of those that hide as this kind does, on the variable in question.
  pub record IsOfKind (kind : Kind) (d : Change) : Type 0 where
    pub is : IsListed l d.number d
    pub of : d.var.0 ≡ variable_of
    pub of_kind : hides_as d.kind ≡ kind

  -- A change moved a computation of the variable's value, and this temporary keeps it, in the scalar's home.
  pub record IsMovedTo (d : Change) (t : ℕ) : Type 0 where
    pub change : IsOfKind Moved d
    pub copied : first_copy d.place.0 f.scalar (graph_view f.writers.graph.now).blocks ≡ Some t
    pub temporary : length (graph_view f.writers.graph.now).scalars ≤ t
    pub shared : HaveOneHome f.writers t f.scalar

  -- EVIDENCE that a cause hides the scalar at a place
  abbrev pub HidesAt : (stop : ℕ) → declared-cause.Cause → Type 0
  HidesAt stop c =
      Hides (log_of l) s.flow.table.now (home_in f.writers.homes.now) f.writers.function
      (graph_view f.writers.graph.now) f.scalar variable_of stop c

  -- A cause hides the scalar on each way that leads by a place.
  abbrev pub HidesFrom : declared-cause.Cause → (via : ℕ) → Type 0
  HidesFrom (cause.Removed c start) via =
      (start ≡ via)
      × IsBareRemoval (log_of l) s.flow.table.now (home_in f.writers.homes.now) f.writers.function
      (graph_view f.writers.graph.now) f.scalar variable_of c start
  HidesFrom (cause.Moved c start w) via =
      IsMovedWrite (log_of l) s.flow.table.now (home_in f.writers.homes.now) f.writers.function
      (graph_view f.writers.graph.now) f.scalar variable_of c via w
      × IsStartBy s start via
  HidesFrom (cause.Reused c start w) via =
      IsReusedWrite (log_of l) s.flow.table.now (home_in f.writers.homes.now) f.writers.function
      (graph_view f.writers.graph.now) f.scalar variable_of c via w
      × IsStartBy s start via
      × IsLastShared (log_of l) s.flow.table.now (home_in f.writers.homes.now) f.writers.function
      (graph_view f.writers.graph.now) f.scalar variable_of c

  -- A cause of this number was found, and execution may come to the place from where it hides the scalar.
  pub record IsToldBy (all : List declared-found.Found) (number p : ℕ) : Type 0 where
    pub one : declared-found.Found
    pub is : slice_get all number ≡ Some one
    pub comes : ComesOn s.flow one.via p

  -- What is found hides the scalar, and is in the order in which it is told; and each place to which execution may come
  -- from where something hides the scalar is told of by the first such cause.
  pub record AreCauses (c : declared-causes.Causes) : Type 0 where
    pub each : All (λ (z : declared-found.Found). HidesFrom z.cause z.via) c.found.items
    pub told : (p number : ℕ) → mark_at c.told p ≡ Some number → IsToldBy c.found.items number p
    pub closed : IsClosed s.flow c.told
    pub first : (k p : ℕ) (z : declared-found.Found) → slice_get c.found.items k ≡ Some z → ComesOn s.flow z.via p
        → IsSomeAnd (mark_at c.told p) (λ number. number ≤ k)
    pub ordered : AreInOrder c.found.items
    pub room : HasRoom s.flow c.told

  -- A cause was found for ways by a place, or one that is told no later for ways by the same place.
  pub record IsCovered (all : List declared-found.Found) (c : declared-cause.Cause) (via : ℕ) : Type 0 where
    pub one : declared-found.Found
    pub is : Contains all one
    pub by : one.via ≡ via
    pub before : IsNoLater (order_of one.cause one.via) (order_of c via)

  -- The removals of a change were found.
  abbrev pub IsRemovalFound : List declared-found.Found → (number : ℕ) → Type 0
  IsRemovalFound all number =
      (start via : ℕ) → HidesFrom (cause.Removed number start) via → IsCovered all (cause.Removed number start) via

  -- The writes for the temporary of a change were found.
  abbrev pub AreMovesFound : List declared-found.Found → (number : ℕ) → Type 0
  AreMovesFound all number =
      (start via : ℕ) (w : declared-writer.Writer) → HidesFrom (cause.Moved number start w) via
      → IsCovered all (cause.Moved number start w) via

  -- The writes for other names, by the change of a number, were found.
  abbrev pub AreSharesFound : List declared-found.Found → (number : ℕ) → Type 0
  AreSharesFound all number =
      (start via : ℕ) (w : declared-writer.Writer) → HidesFrom (cause.Reused number start w) via
      → IsCovered all (cause.Reused number start w) via

  -- All that hides the scalar was found.
  pub record AreAllFound (all : List declared-found.Found) : Type 0 where
    pub removed : (number : ℕ) → IsRemovalFound all number
    pub moved : (number : ℕ) → AreMovesFound all number
    pub reused : (number : ℕ) → AreSharesFound all number

  -- THE FIRST of all that may hide the scalar at a place
  abbrev pub IsFirstAt : (stop : ℕ) → declared-cause.Cause → Type 0
  IsFirstAt stop c =
      IsFirst (log_of l) s.flow.table.now (home_in f.writers.homes.now) f.writers.function
      (graph_view f.writers.graph.now) f.scalar variable_of stop c

  -- nothing may hide it there
  abbrev pub HasNoneAt : (stop : ℕ) → Type 0
  HasNoneAt stop =
      HasNone (log_of l) s.flow.table.now (home_in f.writers.homes.now) f.writers.function
      (graph_view f.writers.graph.now) f.scalar variable_of stop

-- Nothing of what was found is lost.
abbrev pub AreMoreFound : (old new : declared-causes.Causes) → Type 0
AreMoreFound old new = (z : declared-found.Found) → Contains old.found.items z → Contains new.found.items z

-- The questions of a unit are on a scalar of a function; what is found is all that hides it, and where its quiet paths
-- begin.
pub record IsReady (t : declared-teller.Teller) (f : declared-function.Function) : Type 0 where
  pub asked : IsAsked t.changes t.search f
  pub causes : AreCauses t.changes t.search f t.causes
  pub all : AreAllFound t.changes t.search f t.causes.found.items
  pub quiet : AreQuietStarts t.changes t.search f t.quiet.starts

-- Questions on a unit: its changes are listed, and the places of its program are searched and may be told of.
pub record IsTeller (t : declared-teller.Teller) : Type 0 where
  pub changes : AreListed t.changes
  pub search : IsSearch t.search
  pub room : HasRoom t.search.flow t.causes.told
  pub quiet : HasQuietRoom t.search t.quiet

-- EVIDENCE by what is known of a unit and of what writes a function's names.
abbrev pub HidesBy : declared-teller.Teller → declared-writers.Writers → (x variable p : ℕ) → declared-cause.Cause
    → Type 0
HidesBy t w x variable p c =
    Hides (log_of t.changes) t.search.flow.table.now (home_in w.homes.now) w.function (graph_view w.graph.now)
    x variable p c

-- Questions are still on the same unit.
pub record IsSameTeller (old new : declared-teller.Teller) : Type 0 where
  pub teller : IsTeller new
  pub changes : new.changes.all.now ≡ old.changes.all.now
  pub flow : new.search.flow.table.now ≡ old.search.flow.table.now

-- Questions are still on the same function.
pub record IsSameFunction (old new : declared-function.Function) : Type 0 where
  pub function : IsFunction new
  pub writers : new.writers ≡ old.writers

-- EVIDENCE by the questions of a unit on a scalar of a function
abbrev pub HidesFor : declared-teller.Teller → declared-function.Function → (p : ℕ) → declared-cause.Cause → Type 0
HidesFor t f p c = HidesAt t.changes t.search f p c

-- what is told by what is known of a unit and of what writes a function's names
abbrev pub TellsBy : declared-teller.Teller → declared-writers.Writers → (x variable p : ℕ) → declared-hiding.Hiding
    → Type 0
TellsBy t w x variable p c =
    Tells (log_of t.changes) t.search.flow.table.now (home_in w.homes.now) w.function (graph_view w.graph.now)
    x variable p c

-- what is told by the questions of a unit on a scalar of a function
abbrev pub TellsFor : declared-teller.Teller → declared-function.Function → (p : ℕ) → declared-hiding.Hiding → Type 0
TellsFor t f p c = TellsBy t f.writers f.scalar t.search.flow.var.0 p c
