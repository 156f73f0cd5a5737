-- What writes the homes of names.
use Rattle.std.specs.Prelude.{◌≡◌, ◌+◌, ◌<◌, ◌≤◌, ℕ, min, true, Option, Some, option_map, List, [], ◌∷◌, ◌++◌, All, Contains, length, slice_get}
use Rattle.std.specs.Option.{option_map_or}
use Rattle.std.specs.Global.{Vec}
use Rattle.debug_records.specs.declared.change.Place.{Place}
use Rattle.graph_homes.specs.declared.home.Home.{Home}
use Rattle.graph_homes.specs.Homes.{is_same_home}
use Rattle.graph_core.specs.Graphs.{Instruction, Block, End, Graph, ToScalar, graph_view}
use Rattle.graph_core.specs.Uses.{target_of}
use Rattle.graph_core.specs.Points.{StandsWith}
use Rattle.graph_core.specs.Validity.{place_behind}
use Rattle.currency_notes.specs.Homes.{home_in, number_at}
use Rattle.currency_writers.specs.declared.writers.Writer as declared-writer
use Rattle.currency_writers.specs.declared.writers.Writer.TheVariants as writer
use Rattle.currency_writers.specs.declared.writers.Written as declared-written
use Rattle.currency_writers.specs.declared.writers.Write as declared-write
use Rattle.currency_writers.specs.declared.writers.Writers as declared-writers
use Rattle.currency_writers.specs.Order.{IsNoLater, rank_of}

-- A name is written in a place of a function: by an instruction that stands there, whether a path reaches it or not;
-- or, at the entry, by the binding of a parameter.
pub data IsWriter (f : ℕ) (g : Graph) (p x : ℕ) : declared-writer.Writer → Type 0 where
  instruction : {n : ℕ} {i : Instruction} {rest : List Instruction} {e : End} → (at : StandsWith g p n (i ∷ rest) e)
      → target_of i ≡ Some x → IsWriter f g p x (writer.Instruction f n (length at.before))
  parameter : {k : ℕ} → p ≡ g.entry → slice_get g.parameters k ≡ Some (ToScalar x)
      → IsWriter f g p x (writer.Binding f k)

-- the number of a place, if there is one
abbrev pub placed : Option Place → Option ℕ
placed place = option_map (λ (p : Place). p.0) place

-- the writes of a number; none where there is no such number
abbrev pub writes_in : List (Vec declared-write.Write) → (n : ℕ) → List declared-write.Write
writes_in lists n = option_map_or (λ v. v.items) (slice_get lists n) []

-- A name has a home, and that has a number below how many homes there are at most.
pub record HasHome (homes : List Home) (x : ℕ) : Type 0 where
  pub named : x < length homes
  pub numbered : number_at (home_in homes x) < min (length homes + 32) 18446744073709551615

-- Each name that a function writes has one.
abbrev pub AreHomed : (f : ℕ) → Graph → List Home → Type 0
AreHomed f g homes = (p x : ℕ) (w : declared-writer.Writer) → IsWriter f g p x w → HasHome homes x

-- given: what writes names, and a number for each name
module _ (all : List declared-written.Written) (key : ℕ → ℕ) (n : ℕ) where
  -- A write is that of its number, in its place, and of a name of this number.
  pub record IsWriteBy (write : declared-write.Write) : Type 0 where
    pub written : declared-written.Written
    pub is : slice_get all write.number ≡ Some written
    pub place : written.place ≡ write.place
    pub of : key written.name ≡ n

  -- These are all the writes of names of this number, and no others.
  pub record AreWritesBy (found : List declared-write.Write) : Type 0 where
    pub each : All IsWriteBy found
    pub complete : (k : ℕ) (z : declared-written.Written) → slice_get all k ≡ Some z → key z.name ≡ n
        → Contains found (record {
          place = z.place;
          number = k;
        })

module _ (v : declared-writers.Writers) where
  -- this writes a name in a place of the function
  abbrev pub Writes : (p x : ℕ) → declared-writer.Writer → Type 0
  Writes p x w = IsWriter v.function (graph_view v.graph.now) p x w

  -- the number of the home of a name
  abbrev pub home_key : (y : ℕ) → ℕ
  home_key y = number_at (home_in v.homes.now y)

  -- two names have one home
  abbrev pub HaveOneHome : (y x : ℕ) → Type 0
  HaveOneHome y x = is_same_home (home_in v.homes.now y) (home_in v.homes.now x) ≡ true

  -- By homes and by names there is a list for a name.
  pub record HasLists (x : ℕ) : Type 0 where
    pub by_home : home_key x < length v.by_home.items
    pub by_name : x < length v.by_name.items

  -- There are such lists for each name that is written.
  abbrev pub HaveLists : Type 0
  HaveLists = (p x : ℕ) (w : declared-writer.Writer) → Writes p x w → HasLists x

  -- What is known to write names comes no later than what has these numbers in order.
  abbrev pub AreNoLater : (rank : List ℕ) → Type 0
  AreNoLater rank =
      (k : ℕ) (z : declared-written.Written) → slice_get v.all.items k ≡ Some z → IsNoLater (rank_of z.writer) rank

  -- What is told to write names does.
  abbrev pub AreSound : Type 0
  AreSound = All (λ (z : declared-written.Written). Writes z.place z.name z.writer) v.all.items

  -- It is known that this writes a name in a place.
  abbrev pub IsKnown : (p x : ℕ) → declared-writer.Writer → Type 0
  IsKnown p x w = Contains v.all.items (record { place = p; name = x; writer = w })

  -- So many bindings of parameters are known to write their names.
  abbrev pub AreBindings : (count : ℕ) → Type 0
  AreBindings count =
      (k x : ℕ) → k < count → slice_get (graph_view v.graph.now).parameters k ≡ Some (ToScalar x)
      → IsKnown (graph_view v.graph.now).entry x (writer.Binding v.function k)

  -- So many instructions of the block of a number are known to write their names.
  abbrev pub AreInstructions : (n : ℕ) → List Instruction → (place : Option ℕ) → (count : ℕ) → Type 0
  AreInstructions n all place count =
      (p x : ℕ) (before : List Instruction) (i : Instruction) (rest : List Instruction) → all ≡ before ++ i ∷ rest
      → length before < count → place_behind before place ≡ Some p → target_of i ≡ Some x
      → IsKnown p x (writer.Instruction v.function n (length before))

  -- The instructions of so many blocks are known so.
  abbrev pub AreBlocks : (count : ℕ) → Type 0
  AreBlocks count =
      (n : ℕ) (b : Block) → n < count → slice_get (graph_view v.graph.now).blocks n ≡ Some b
      → AreInstructions n b.instructions b.place (length b.instructions)

  -- What writes names stands in order, and by homes and names there are all writes of theirs.
  pub record IsIndexed : Type 0 where
    pub ordered : (j k : ℕ) (z y : declared-written.Written) → j ≤ k → slice_get v.all.items j ≡ Some z
        → slice_get v.all.items k ≡ Some y → IsNoLater (rank_of z.writer) (rank_of y.writer)
    pub by_home : (n : ℕ) → AreWritesBy v.all.items home_key n (writes_in v.by_home.items n)
    pub by_name : (n : ℕ) → AreWritesBy v.all.items (λ y. y) n (writes_in v.by_name.items n)

  -- What writes a function's names: all that does, in order, and by homes and names.
  pub record AreWriters : Type 0 where
    pub sound : AreSound
    pub all : (p x : ℕ) (w : declared-writer.Writer) → Writes p x w → IsKnown p x w
    pub indexed : IsIndexed

-- Nothing of what is known is lost, and it is of the same function, with as many lists.
pub record AreMore (old new : declared-writers.Writers) : Type 0 where
  pub function : new.function ≡ old.function
  pub graph : new.graph.now ≡ old.graph.now
  pub homes : new.homes.now ≡ old.homes.now
  pub by_home : length new.by_home.items ≡ length old.by_home.items
  pub by_name : length new.by_name.items ≡ length old.by_name.items
  pub kept : (z : declared-written.Written) → Contains old.all.items z → Contains new.all.items z
