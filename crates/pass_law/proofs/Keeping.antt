-- A unit keeps what it does itself, and of three units, each kept by the next, the last keeps what the first does.
use Rattle.std.proofs.Common.{◌≡◌, ℕ, List, [], ◌∷◌, ◌++◌, refl, sym, ap, ◌∙◌, subst, append-nil, append_assoc}
use Rattle.event_runs.specs.Agreement.{Pairs}
use Rattle.event_runs.specs.Following.{Reached}
use Rattle.graph_core.specs.declared.value.Shadow.{Shadow}
use Rattle.graph_core.specs.Graphs.{Graph, UnitForm}
use Rattle.graph_core.specs.Runs.{Frame, Event, Put, Exited, TooDeep, Stop, unit_run}
use Rattle.graph_core.specs.WellMarked.{AreWellMarked}
use Rattle.pass_law.specs.Keeps.{StaysOrGoes, stays, goes, SameFrame, SameEvent, byte, exited, deep, stop, SameFunction, SameProgram, Keeps}

pub pairs_itself : {A : Type 0} (Same : A → A → Type 0) → ((a : A) → Same a a) → (all : List A) → Pairs Same all all
pairs_itself Same same [] = tt
pairs_itself Same same (a ∷ all) = (same a, pairs_itself Same same all)

pairs_through : {A : Type 0} (Same : A → A → Type 0) → ((a b c : A) → Same a b → Same b c → Same a c) → (all others last : List A) → Pairs Same all others → Pairs Same others last → Pairs Same all last
pairs_through Same through [] [] last p q = q
pairs_through Same through [] (b ∷ others) last p q = absurd p
pairs_through Same through (a ∷ all) [] last p q = absurd p
pairs_through Same through (a ∷ all) (b ∷ others) [] p q = absurd q
pairs_through Same through (a ∷ all) (b ∷ others) (c ∷ last) p q = (through a b c p.0 q.0, pairs_through Same through all others last p.1 q.1)

shadow_through : (r s t : Shadow) → StaysOrGoes r s → StaysOrGoes s t → StaysOrGoes r t
shadow_through r s t stays q = q
shadow_through r s t goes stays = goes
shadow_through r s t goes goes = goes

frame_itself : (a : Frame) → SameFrame a a
frame_itself a = record { function = refl; place = refl; shadows = pairs_itself StaysOrGoes (λ s. stays) a.shadows }

frame_through : (a b c : Frame) → SameFrame a b → SameFrame b c → SameFrame a c
frame_through a b c p q = record {
  function = q.function ∙ p.function;
  place = q.place ∙ p.place;
  shadows = pairs_through StaysOrGoes shadow_through a.shadows b.shadows c.shadows p.shadows q.shadows;
}

event_itself : (e : Event) → SameEvent e e
event_itself (Put n) = byte
event_itself (Exited status) = exited
event_itself TooDeep = deep
event_itself (Stop frames memory) = stop (pairs_itself SameFrame frame_itself frames)

event_through : (d e f : Event) → SameEvent d e → SameEvent e f → SameEvent d f
event_through d e f byte byte = byte
event_through d e f exited exited = exited
event_through d e f deep deep = deep
event_through d e f (stop {frames = before} {others = between} p) (stop {others = last} q) = stop (pairs_through SameFrame frame_through before between last p q)

-- What is paired with a list that goes on behind a front: a front of it is paired with that front.
record Front {A B : Type 0} (R : A → B → Type 0) (all : List A) (whole : List B) : Type 0 where
  shown : List B
  more : List B
  is : whole ≡ shown ++ more
  same : Pairs R all shown

pairs_front : {A B : Type 0} (R : A → B → Type 0) (all rest : List A) (whole : List B) → Pairs R (all ++ rest) whole → Front R all whole
pairs_front R [] rest whole p = record { shown = []; more = whole; is = refl; same = tt }
pairs_front R (a ∷ all) rest [] p = absurd p
pairs_front R (a ∷ all) rest (b ∷ whole) p =
    let front = pairs_front R all rest whole p.1 in
    record { shown = b ∷ front.shown; more = front.more; is = ap (λ l. b ∷ l) front.is; same = (p.0, front.same) }

-- a run comes to what it shows itself
pub reached_itself : (events : List Event) (run : ℕ → List Event) (n : ℕ) → run n ≡ events → Reached SameEvent events run
reached_itself events run n is = record { steps = n; shown = events; more = []; is = is ∙ sym (append-nil events); same = pairs_itself SameEvent event_itself events }

-- where a run comes to events, and another to whatever the first shows, the other comes to the events
reached_through : (events : List Event) (between last : ℕ → List Event) → Reached SameEvent events between → ((n : ℕ) → Reached SameEvent (between n) last) → Reached SameEvent events last
reached_through events between last first down =
    let second = down first.steps in
    let front = pairs_front SameEvent first.shown first.more second.shown (subst (λ l. Pairs SameEvent l second.shown) first.is second.same) in
    record {
      steps = second.steps;
      shown = front.shown;
      more = front.more ++ second.more;
      is = second.is ∙ ap (λ l. l ++ second.more) front.is ∙ append_assoc front.shown front.more second.more;
      same = pairs_through SameEvent event_through events first.shown front.shown first.same front.same;
    }

pub function_itself : (g : Graph) → SameFunction g g
function_itself g = record { entry = refl; parameters = refl; scalars = refl; objects = refl; markers = λ p. (λ m. m, λ m. m) }

function_through : (g h k : Graph) → SameFunction g h → SameFunction h k → SameFunction g k
function_through g h k p q = record {
  entry = q.entry ∙ p.entry;
  parameters = q.parameters ∙ p.parameters;
  scalars = q.scalars ∙ p.scalars;
  objects = q.objects ∙ p.objects;
  markers = λ place. (λ m. (q.markers place).0 ((p.markers place).0 m), λ m. (p.markers place).1 ((q.markers place).1 m));
}

program_itself : (u : UnitForm) → SameProgram u u
program_itself u = record {
  main = refl;
  statics = refl;
  array_bytes = refl;
  steps = refl;
  assignments = refl;
  room = refl;
  added = [];
  log = sym (append-nil u.log);
  functions = pairs_itself SameFunction function_itself u.graphs;
}

program_through : (u v w : UnitForm) → SameProgram u v → SameProgram v w → SameProgram u w
program_through u v w p q = record {
  main = q.main ∙ p.main;
  statics = q.statics ∙ p.statics;
  array_bytes = q.array_bytes ∙ p.array_bytes;
  steps = q.steps ∙ p.steps;
  assignments = q.assignments ∙ p.assignments;
  room = q.room ∙ p.room;
  added = p.added ++ q.added;
  log = q.log ∙ ap (λ log. log ++ q.added) p.log ∙ append_assoc u.log p.added q.added;
  functions = pairs_through SameFunction function_through u.graphs v.graphs w.graphs p.functions q.functions;
}

-- A well marked unit keeps what it does itself.
pub keeps_itself : (u : UnitForm) → AreWellMarked u → Keeps u u
keeps_itself u marked = record {
  marked = marked;
  still_marked = marked;
  program = program_itself u;
  follows = λ input n. reached_itself (unit_run u input n) (unit_run u input) n refl;
}

-- What is kept by a unit that is kept is kept.
pub keeps_through : (u v w : UnitForm) → Keeps u v → Keeps v w → Keeps u w
keeps_through u v w p q = record {
  marked = p.marked;
  still_marked = q.still_marked;
  program = program_through u v w p.program q.program;
  follows = λ input n. reached_through (unit_run u input n) (unit_run v input) (unit_run w input) (p.follows input n) (q.follows input);
}
