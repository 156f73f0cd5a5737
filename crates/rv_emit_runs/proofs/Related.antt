-- The relation of a unit over homes and the machine between two steps, and what it means that the machine does a step.
use Rattle.std.proofs.Common.{◌≡◌, ℕ, ◌+◌, ◌≤◌, sym, subst, arith, Option, Bool, true, false, List, [], ◌∷◌, length}
use Rattle.std.specs.Prelude.{option_map, slice_index}
use Rattle.rv_machine.specs.Run.{MachineEvent}
use Rattle.graph_core.specs.Paths.{called}
use Rattle.graph_core.specs.Runs.{Activation, Configuration, Event, Stepped, Goes, Shows, Ends as EndsUnit, Wild}
use Rattle.graph_homes.specs.declared.home.Home.{Home}
use Rattle.graph_homes.specs.Homed.{HomedForm, home_number, over_homes}
use Rattle.graph_homes.specs.Seen.{Going, Over}
use Rattle.rv_emit_tables.specs.Emitted.{EmittedForm}
use Rattle.rv_emit_words.specs.declared.piece.Held.{Held}
use Rattle.rv_emit_steps.specs.Holding.{Holding}
use Rattle.rv_emit_steps.specs.Programs.{Stands}
use Rattle.rv_emit_steps.specs.Points.{Point, Leads, Ends}
use Rattle.rv_emit_runs.specs.Keeping.{IsTargetAmong}
use Rattle.rv_emit_runs.specs.Returns.{IsShownAs, byte as byte_so, exited as exited_so, deep as deep_so, Resumes, answer_code}
use Rattle.rv_emit_runs.specs.Waiting.{HoldsAll}
use Rattle.rv_emit_runs.proofs.Returning.{EndsRun}
use Rattle.rv_emit_runs.proofs.Stepping.{AllCome}
use Rattle.rv_emit_runs.specs.Laid.{IsCode}
use Rattle.rv_emit_runs.specs.Standing.{SameSeen, byte, exited, deep}
use Rattle.rv_emit_runs.proofs.Rest.{program_in, codes_in, blocks_in, RestAt, position_of, RestFrom}
use Rattle.rv_emit_runs.proofs.Tracks.{Position, Advances}
use Rattle.rv_emit_runs.proofs.UnitSteps.{spot_of, IsOn, IsLast}

module _ (h : HomedForm) (e : EmittedForm) (code : IsCode h e) where
  -- An activation that waits goes on from an index: what is left of its block stands there, behind the result of the call, whose word belongs to its place.
  pub record GoesOn (x : Activation) (index : ℕ) : Type 0 where
    pub rest : RestAt h e code (spot_of x) index [] false
    pub call : ℕ
    pub target : Option Home
    pub wants : x.wants ≡ option_map home_number target
    pub among : IsTargetAmong (codes_in h e code x.function).slots target
    pub is : index ≡ call + 1 + length (answer_code (codes_in h e code x.function).storage target)
    pub owned : slice_index e.owners call ≡ x.place
    pub calls : called rest.history ≡ true

  -- The machine holds all of a configuration, and stands where what is left of the innermost activation's block stands.
  pub record Related (c : Configuration) (q : Point) : Type 0 where
    pub addresses : ℕ → ℕ
    pub index : ℕ
    pub held : List Held
    pub holding : Holding
    pub stands : Stands (program_in h e code) q.state index holding
    pub all : HoldsAll (codes_in h e code) (over_homes h) addresses (Resumes (program_in h e code) (codes_in h e code) GoesOn) held c holding
    pub rest : RestAt h e code (spot_of c.here) index held q.shown

  -- ---- Steps

  -- The machine comes unseen, in at most so many instructions, to where it is related to a configuration. The activation goes on from where it was.
  pub record ComesUnseen (from : Position) (most : ℕ) (q : Point) (d : Configuration) : Type 0 where
    pub count : ℕ
    pub few : count ≤ most
    pub point : Point
    pub leads : Leads (program_in h e code).stops count q [] point
    pub related : Related d point
    pub advances : Advances (blocks_in h e code) from (position_of related.rest)

  -- It shows an event, and comes there.
  pub record ComesSeen (most : ℕ) (q : Point) (seen : Event) (d : Configuration) : Type 0 where
    pub count : ℕ
    pub few : count ≤ most
    pub event : MachineEvent
    pub point : Point
    pub leads : Leads (program_in h e code).stops count q (event ∷ []) point
    pub same : SameSeen h e code.arrangement (Going seen d) event
    pub related : Related d point

  -- It shows an event with which its run ends.
  pub record ComesToEnd (most : ℕ) (q : Point) (seen : Event) : Type 0 where
    pub count : ℕ
    pub few : count ≤ most
    pub event : MachineEvent
    pub ends : Ends (program_in h e code).stops count q (event ∷ [])
    pub same : SameSeen h e code.arrangement (Over seen) event

  -- The machine does a step of the unit, in at most so many instructions. Where that is wild, nothing is asked.
  abbrev pub DoesStep : (from : Position) → (most : ℕ) → Point → Stepped → Type 0
  DoesStep from most q (Goes d) = ComesUnseen from most q d
  DoesStep from most q (Shows seen d) = ComesSeen most q seen d
  DoesStep from most q (EndsUnit seen) = ComesToEnd most q seen
  DoesStep from most q Wild = Unit {0}

  -- More instructions may be said to be enough.
  pub does_within : (from : Position) (most more : ℕ) (q : Point) (z : Stepped) → most ≤ more → DoesStep from most q z → DoesStep from more q z
  does_within from most more q (Goes d) le does = record { count = does.count; few = let few = does.few in omega (arith, le, few); point = does.point; leads = does.leads; related = does.related; advances = does.advances }
  does_within from most more q (Shows seen d) le does = record { count = does.count; few = let few = does.few in omega (arith, le, few); event = does.event; point = does.point; leads = does.leads; same = does.same; related = does.related }
  does_within from most more q (EndsUnit seen) le does = record { count = does.count; few = let few = does.few in omega (arith, le, few); event = does.event; ends = does.ends; same = does.same }
  does_within from most more q Wild le does = tt

  -- ---- How a step is done

  -- Where it comes to words behind which what is left stands.
  pub come_unseen : (from at : Position) (q : Point) (index most to : ℕ) (last : Bool) (addresses : ℕ → ℕ) (held : List Held) (d : Configuration)
      → AllCome (program_in h e code) q.state index q.shown most to last (codes_in h e code) (over_homes h) addresses (Resumes (program_in h e code) (codes_in h e code) GoesOn) held d → RestFrom h e code at (spot_of d.here) to held last
      → Advances (blocks_in h e code) from at → ComesUnseen from most q d
  come_unseen from at q index most to last addresses held d comes rest advances = record {
    count = comes.count;
    few = comes.few;
    point = record { state = comes.reaches.state; shown = last };
    leads = comes.reaches.leads;
    related = record { addresses = addresses; index = to; held = held; holding = comes.holding; stands = comes.reaches.stands; all = comes.all; rest = rest.rest };
    advances = subst (λ p. Advances (blocks_in h e code) from p) (sym rest.is) advances;
  }

  -- An event behind which the run goes on.
  pub on_same : (seen : Event) (event : MachineEvent) (d : Configuration) → IsShownAs seen event → IsOn seen → SameSeen h e code.arrangement (Going seen d) event
  on_same _ _ d byte_so on = byte
  on_same _ _ d exited_so on = absurd on
  on_same _ _ d deep_so on = absurd on

  -- The last one.
  pub end_done : (q : Point) (most : ℕ) (seen : Event) → EndsRun (program_in h e code) q.state q.shown most seen → IsLast seen → ComesToEnd most q seen
  end_done q most seen ended last = record { count = ended.count; few = ended.few; event = ended.event; ends = ended.ends; same = last_same seen ended.event ended.shown last }
    where
      last_same : (seen : Event) (event : MachineEvent) → IsShownAs seen event → IsLast seen → SameSeen h e code.arrangement (Over seen) event
      last_same _ _ byte_so last = absurd last
      last_same _ _ exited_so last = exited
      last_same _ _ deep_so last = deep
