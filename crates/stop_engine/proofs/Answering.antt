-- The lines of a session, by what its engine answers.
use Rattle.std.proofs.Common.{map, ◌⊎◌, inl, inr, Result, Ok, Err, IfOk, OnOk, OnErr, ◌≡◌, ℕ, zero, suc, ◌+◌, ◌||◌, true, false, Option, Some, None, List, [], ◌∷◌, ◌++◌, if◌then◌else◌, subst, refl, sym, ap, ◌∙◌, arith}
use Rattle.std.specs.Prelude.{Vec, nat_le}
use Rattle.std.specs.Global.{Global}
use Rattle.std.proofs.lemmas.List.{map-append}
use Rattle.std.specs.Option.{option_map_or}
use Rattle.std.proofs.lemmas.Option.{slice_get_within}
use Rattle.image_form.specs.Form.{Form}
use Rattle.image_form.specs.RulesOfFunctions.{IsPlaceNumber}
use Rattle.line_form.specs.Lines.{no_stop_line, out_lines}
use Rattle.rv_machine.specs.Run.{MachineEvent, Byte, Arrival, Exit, TooDeep, Faulted}
use Rattle.rv_machine.specs.State.{MachineState}
use Rattle.script_form.specs.Script.{Order, Break, Step, Continue, Next, Finish, Print, Locals, Where, Quit, Mark}
use Rattle.stop_engine.specs.declared.halt.Halt.{Halt}
use Rattle.stop_engine.specs.declared.halt.Halt.TheVariants.{At, Exited, Depth, Fault}
use Rattle.stop_engine.specs.declared.halt.Halt.TheVariants.{Limit as Limited}
use Rattle.stop_engine.specs.declared.halt.Standing as standing_type
use Rattle.stop_engine.specs.declared.halt.Standing.TheVariants as standing
use Rattle.stop_engine.specs.Standing.{IsStanding, place_of, position_of}
use Rattle.stop_engine.specs.declared.run.Stop.{Stop}
use Rattle.stop_engine.specs.Breaks.{break_places}
use Rattle.stop_engine.specs.EngineState.{Answers, EngineState, HasMarked, HasRun, LeavesOff, Wanting, Unsaid, RunState, Wants, lines_of, session_of, with_run}
use Rattle.stop_engine.specs.Halting.{IsHaltOf, halt_at, halt_line, halt_of}
use Rattle.stop_engine_view.specs.Reading.{depth, place_at}
use Rattle.stop_engine.specs.Stopping.{IsAtNoStop, IsStopOf}
use Rattle.stop_engine.specs.Transcript.{Aim, AnyStop, OneOf, Within, Ending, Exits, NestsTooDeep, Faults, Limit, Position, Fresh, Standing, Over, Reach, Session, session_after, aims_at, at_stop, session_behind, below, ending_line, finish_aim, is_aim, is_among_places, is_quit, lines_from, marked_line, next_aim, position_line, ran, reached, run_lines, run_of, said, with_output}
use Rattle.stop_engine.proofs.MarkLaws.{among-append}
use Rattle.stop_engine_view.proofs.PlacesByAddress.{place_from-found}

-- a place that begins at an address has a number of the image
pub place_at-number : (m : Form) (a k : ℕ) → place_at m a ≡ Some k → IsPlaceNumber m k
place_at-number m a k e =
    let found = place_from-found 1 m.places a k e in
    let number : k ≡ 1 + found.index = found.number in
    let within = slice_get_within m.places found.index found.place found.stands in
    (omega arith, omega arith)

-- an ending is no stop
halt_of-place : (m : Form) (e : Ending) → IsHaltOf m (halt_of e)
halt_of-place m (Exits status) = tt
halt_of-place m NestsTooDeep = tt
halt_of-place m (Faults address) = tt
halt_of-place m Limit = tt

halt_of-line : (m : Form) (limit : ℕ) (e : Ending) → halt_line m limit (halt_of e) ≡ ending_line limit e
halt_of-line m limit (Exits status) = refl
halt_of-line m limit NestsTooDeep = refl
halt_of-line m limit (Faults address) = refl
halt_of-line m limit Limit = refl

-- what a halt says of a position: it names a place of the image, and its line is the position's
pub record SaysPosition (m : Form) (limit : ℕ) (p : Position) (h : Halt) : Type 0 where
  pub place : IsHaltOf m h
  pub line : halt_line m limit h ≡ position_line m limit p

pub halt_at-says : (m : Form) (limit : ℕ) (p : Position) (h : Halt) → halt_at m p ≡ Some h → SaysPosition m limit p h
halt_at-says m limit Fresh h e = absurd (cc)
halt_at-says m limit (Over ending) h e =
    let same : halt_of ending ≡ h = cc in
    subst (SaysPosition m limit (Over ending)) same (record { place = halt_of-place m ending; line = halt_of-line m limit ending })
halt_at-says m limit (Standing s) h e = by_place (place_at m s.pc) refl
  where
    by_place : (o : Option ℕ) → place_at m s.pc ≡ o → SaysPosition m limit (Standing s) h
    by_place None at_pc = absurd (let none : halt_at m (Standing s) ≡ None = rw at_pc refl in cc)
    by_place (Some k) at_pc =
        let here : halt_at m (Standing s) ≡ Some (At k (depth s)) = rw at_pc refl in
        let same : At k (depth s) ≡ h = cc in
        subst (SaysPosition m limit (Standing s)) same (record { place = place_at-number m s.pc k at_pc; line = rw at_pc refl })

-- what is known where a run halted at a stop
pub record StandsAt (m : Form) (w : standing_type.Standing) (s : MachineState) (place : ℕ) : Type 0 where
  pub stands : position_of w s ≡ Standing s
  pub begins : place_at m s.pc ≡ Some place

standing-place : (m : Form) (s : MachineState) (place d : ℕ) → halt_at m (Standing s) ≡ Some (At place d) → place_at m s.pc ≡ Some place
standing-place m s place d e = by_place (place_at m s.pc) refl
  where
    by_place : (o : Option ℕ) → place_at m s.pc ≡ o → place_at m s.pc ≡ Some place
    by_place None at_pc = absurd (let none : halt_at m (Standing s) ≡ None = rw at_pc refl in cc)
    by_place (Some k) at_pc =
        let here : halt_at m (Standing s) ≡ Some (At k (depth s)) = rw at_pc refl in
        let same : At k (depth s) ≡ At place d = cc in
        let number : k ≡ place = cc in
        at_pc ∙ ap Some number

pub stands_at : (m : Form) (w : standing_type.Standing) (s : MachineState) (place : ℕ) → place_of w ≡ Some place → IsStanding m w s → StandsAt m w s place
stands_at m standing.Fresh s place e is = absurd cc
stands_at m standing.UnderWay s place e is = absurd cc
stands_at m (standing.Halted (At k d)) s place e is = record { stands = refl; begins = standing-place m s k d is ∙ e }
stands_at m (standing.Halted (Exited status)) s place e is = absurd cc
stands_at m (standing.Halted Depth) s place e is = absurd cc
stands_at m (standing.Halted (Fault address)) s place e is = absurd cc
stands_at m (standing.Halted Limited) s place e is = absurd cc

-- ---- What is said at a stop

pub at_stop-said : (r : RunState) (stop : Stop) (say : MachineState → ℕ → List (List ℕ)) (lines : List (List ℕ)) → IsStopOf r stop → lines ≡ say stop.machine.now stop.place → lines ≡ at_stop r.form r.position say
at_stop-said r stop say lines is e = rw (is.position, is.place) e

-- the lines of a run, by what its halt says
pub lines-of_run : (old new : RunState) (aim : Aim) (halt : Halt) (out : List ℕ) (lines all : List (Vec ℕ Global)) (line : Vec ℕ Global) → HasRun aim old new → halt_at new.form new.position ≡ Some halt
    → out ≡ new.output → map (λ (v : Vec ℕ Global). v.items) lines ≡ out_lines out → line.items ≡ halt_line new.form new.limit halt → all ≡ lines ++ line ∷ []
    → map (λ (v : Vec ℕ Global). v.items) all ≡ run_lines old.form old.limit (ran old.form aim old.position old.events)
lines-of_run old new aim halt out lines all line h at taken outs last pushed =
    let says = halt_at-says new.form new.limit new.position halt at in
    let same : position_line new.form new.limit new.position ≡ position_line old.form old.limit new.position = rw (h.image, h.limit) refl in
    ap (map (λ (v : Vec ℕ Global). v.items)) pushed ∙ (map-append (λ (v : Vec ℕ Global). v.items) lines (line ∷ [])
    ∙ (ap (λ l. l ++ line.items ∷ []) (outs ∙ ap out_lines taken) ∙ (ap (λ x. out_lines new.output ++ x ∷ []) (last ∙ (says.line ∙ same)) ∙ ap (run_lines old.form old.limit) (sym h.reach))))

-- ---- Sessions with the same marks

-- a session stands where another does, and the same places are marked
record SameSession (s t : Session) : Type 0 where
  marks : (place : ℕ) → is_among_places s.marks place ≡ is_among_places t.marks place
  position : s.position ≡ t.position
  events : s.events ≡ t.events

-- the same places are marked
abbrev SameMarks : List ℕ → List ℕ → Type 0
SameMarks a b = (place : ℕ) → is_among_places a place ≡ is_among_places b place

-- two aims are at the same stops
abbrev AreAlike : Aim → Aim → Type 0
AreAlike a b = (deep place : ℕ) → aims_at a deep place ≡ aims_at b deep place

marks-alike : (a b : List ℕ) → SameMarks a b → AreAlike (OneOf a) (OneOf b)
marks-alike a b same deep place = same place

within-alike : (most : ℕ) (a b : List ℕ) → SameMarks a b → AreAlike (Within most a) (Within most b)
within-alike most a b same deep place = ap (λ is. is || nat_le deep most) (same place)

below-alike : (deep : ℕ) (a b : List ℕ) → SameMarks a b → AreAlike (below deep a) (below deep b)
below-alike zero a b same = marks-alike a b same
below-alike (suc deep) a b same = within-alike deep a b same

next-alike : (p : Position) (a b : List ℕ) → SameMarks a b → AreAlike (next_aim a p) (next_aim b p)
next-alike Fresh a b same deep place = refl
next-alike (Standing s) a b same deep place = within-alike (depth s) a b same deep place
next-alike (Over e) a b same deep place = refl

same_aim : (a b : Aim) (deep : ℕ) (o : Option ℕ) → AreAlike a b → option_map_or (aims_at a deep) o false ≡ option_map_or (aims_at b deep) o false
same_aim a b deep None same = refl
same_aim a b deep (Some place) same = same deep place

reached-same : (m : Form) (a b : Aim) (events : List MachineEvent) → AreAlike a b → reached m a events ≡ reached m b events
reached-same m a b [] same = refl
reached-same m a b (Byte c ∷ events) same = ap (with_output c) (reached-same m a b events same)
reached-same m a b (Arrival s ∷ events) same =
    ap (λ t. if t then (record { output = []; position = Standing s; rest = events }) else reached m a events) (same_aim a b (depth s) (place_at m s.pc) same)
    ∙ ap (λ r. if is_aim m b s then (record { output = []; position = Standing s; rest = events }) else r) (reached-same m a b events same)
reached-same m a b (Exit v ∷ events) same = refl
reached-same m a b (TooDeep ∷ events) same = refl
reached-same m a b (Faulted x ∷ events) same = refl

ran-same : (m : Form) (a b : Aim) (p : Position) (events : List MachineEvent) → AreAlike a b → ran m a p events ≡ ran m b p events
ran-same m a b Fresh events same = reached-same m a b events same
ran-same m a b (Standing s) events same = reached-same m a b events same
ran-same m a b (Over e) events same = refl

-- what two such sessions say of an order, and that they are alike behind it
record SameAnswer (m : Form) (limit : ℕ) (s t : Session) (o : Order) : Type 0 where
  lines : said m limit s o ≡ said m limit t o
  next : SameSession (session_after m s o) (session_after m t o)

same_run : (s t : Session) (r q : Reach) → r ≡ q → SameSession s t → SameSession (session_behind s r) (session_behind t q)
same_run s t r q e same = record { marks = same.marks; position = ap (λ (x : Reach). x.position) e; events = ap (λ (x : Reach). x.rest) e }

finish-none : (m : Form) (limit : ℕ) (s t : Session) → finish_aim s.marks s.position ≡ None → finish_aim t.marks t.position ≡ None
    → SameSession s t → SameAnswer m limit s t Finish
finish-none m limit s t mine other same = record {
  lines = ap (λ o. option_map_or (λ aim. run_lines m limit (run_of m s aim)) o (no_stop_line ∷ [])) mine
      ∙ sym (ap (λ o. option_map_or (λ aim. run_lines m limit (run_of m t aim)) o (no_stop_line ∷ [])) other);
  next = subst (λ u. SameSession u (session_after m t Finish)) (sym (ap (λ o. option_map_or (λ aim. session_behind s (run_of m s aim)) o s) mine))
      (subst (SameSession s) (sym (ap (λ o. option_map_or (λ aim. session_behind t (run_of m t aim)) o t) other)) same);
}

finish-ran : (m : Form) (limit : ℕ) (s t : Session) (a b : Aim) → finish_aim s.marks s.position ≡ Some a → finish_aim t.marks t.position ≡ Some b
    → run_of m s a ≡ run_of m t b → SameSession s t → SameAnswer m limit s t Finish
finish-ran m limit s t a b mine other e same = record {
  lines = ap (λ o. option_map_or (λ aim. run_lines m limit (run_of m s aim)) o (no_stop_line ∷ [])) mine
      ∙ (ap (run_lines m limit) e ∙ sym (ap (λ o. option_map_or (λ aim. run_lines m limit (run_of m t aim)) o (no_stop_line ∷ [])) other));
  next = subst (λ u. SameSession u (session_after m t Finish)) (sym (ap (λ o. option_map_or (λ aim. session_behind s (run_of m s aim)) o s) mine))
      (subst (SameSession (session_behind s (run_of m s a))) (sym (ap (λ o. option_map_or (λ aim. session_behind t (run_of m t aim)) o t) other))
      (same_run s t (run_of m s a) (run_of m t b) e same));
}

-- runs with alike aims
runs-same : (m : Form) (s t : Session) (a b : Aim) → SameSession s t → AreAlike a b → run_of m s a ≡ run_of m t b
runs-same m s t a b same alike = rw (same.position, same.events) (ran-same m a b t.position t.events alike)

finish-same : (m : Form) (limit : ℕ) (s t : Session) (p : Position) → s.position ≡ p → t.position ≡ p → SameSession s t → SameAnswer m limit s t Finish
finish-same m limit s t Fresh es et same = finish-none m limit s t (ap (finish_aim s.marks) es) (ap (finish_aim t.marks) et) same
finish-same m limit s t (Standing x) es et same =
    let e : run_of m s (below (depth x) s.marks) ≡ run_of m t (below (depth x) t.marks) =
    runs-same m s t (below (depth x) s.marks) (below (depth x) t.marks) same (below-alike (depth x) s.marks t.marks same.marks) in
    let mine : finish_aim s.marks s.position ≡ Some (below (depth x) s.marks) = ap (finish_aim s.marks) es in
    let other : finish_aim t.marks t.position ≡ Some (below (depth x) t.marks) = ap (finish_aim t.marks) et in
    finish-ran m limit s t (below (depth x) s.marks) (below (depth x) t.marks) mine other e same
finish-same m limit s t (Over y) es et same =
    let e : run_of m s (OneOf s.marks) ≡ run_of m t (OneOf t.marks) =
    runs-same m s t (OneOf s.marks) (OneOf t.marks) same (marks-alike s.marks t.marks same.marks) in
    finish-ran m limit s t (OneOf s.marks) (OneOf t.marks) (ap (finish_aim s.marks) es) (ap (finish_aim t.marks) et) e same

answer-same : (m : Form) (limit : ℕ) (s t : Session) (o : Order) → SameSession s t → SameAnswer m limit s t o
answer-same m limit s t (Break mark) same = record {
  lines = refl;
  next = record {
    marks = λ place. among-append s.marks (break_places m mark) place ∙ (ap (λ b. b || is_among_places (break_places m mark) place) (same.marks place) ∙ sym (among-append t.marks (break_places m mark) place));
    position = same.position;
    events = same.events;
  };
}
answer-same m limit s t Step same =
    let e : run_of m s AnyStop ≡ run_of m t AnyStop = rw (same.position, same.events) refl in
    record { lines = ap (run_lines m limit) e; next = same_run s t (run_of m s AnyStop) (run_of m t AnyStop) e same }
answer-same m limit s t Continue same =
    let e : run_of m s (OneOf s.marks) ≡ run_of m t (OneOf t.marks) =
    runs-same m s t (OneOf s.marks) (OneOf t.marks) same (marks-alike s.marks t.marks same.marks) in
    record { lines = ap (run_lines m limit) e; next = same_run s t (run_of m s (OneOf s.marks)) (run_of m t (OneOf t.marks)) e same }
answer-same m limit s t Next same =
    let a = next_aim s.marks s.position in
    let b = next_aim t.marks t.position in
    let alike : AreAlike a b = subst (λ p. AreAlike (next_aim s.marks p) b) (sym same.position) (next-alike t.position s.marks t.marks same.marks) in
    let e : run_of m s a ≡ run_of m t b = runs-same m s t a b same alike in
    record { lines = ap (run_lines m limit) e; next = same_run s t (run_of m s a) (run_of m t b) e same }
answer-same m limit s t Finish same = finish-same m limit s t t.position same.position refl same
answer-same m limit s t (Print name) same = record { lines = rw same.position refl; next = same }
answer-same m limit s t Locals same = record { lines = rw same.position refl; next = same }
answer-same m limit s t Where same = record { lines = rw same.position refl; next = same }
answer-same m limit s t Quit same = record { lines = refl; next = same }

lines-same : (m : Form) (limit : ℕ) (s t : Session) (orders : List Order) → SameSession s t → lines_from m limit s orders ≡ lines_from m limit t orders
lines-same m limit s t [] same = refl
lines-same m limit s t (o ∷ orders) same =
    let answer = answer-same m limit s t o same in
    ap (λ l. l ++ (if is_quit o then [] else lines_from m limit (session_after m s o) orders)) answer.lines
    ∙ ap (λ l. said m limit t o ++ (if is_quit o then [] else l)) (lines-same m limit (session_after m s o) (session_after m t o) orders answer.next)

-- ---- The answers of an engine

pub answers-break : (e f : EngineState) (mark : Mark) (lines : List (List ℕ)) → e.has_quit ≡ false → HasMarked mark e f
    → lines ≡ marked_line mark (break_places e.run.form mark) ∷ [] → Answers e f (Break mark) lines
answers-break e f mark lines unquit h is more =
    let rest = lines-same e.run.form e.run.limit (session_after e.run.form (session_of e) (Break mark)) (session_of f) more (record { marks = λ place. sym (h.marks place); position = ap (λ (r : RunState). r.position) (sym h.run); events = ap (λ (r : RunState). r.events) (sym h.run) }) in
    let there : lines_of f more ≡ lines_from e.run.form e.run.limit (session_of f) more = rw (h.quit, unquit, h.run) refl in
    ap (λ b. if b then [] else lines_from e.run.form e.run.limit (session_of e) (Break mark ∷ more)) unquit
    ∙ (ap (λ l. l ++ lines_from e.run.form e.run.limit (session_after e.run.form (session_of e) (Break mark)) more) (sym is) ∙ ap (λ l. lines ++ l) (rest ∙ sym there))

-- what holds of a value where a fact holds, and another of the value
pub if_ok-with : {T E : Type 0} (r : Result T E) (P : Type 0) (Q R : T → Type 0) → OnOk r P → IfOk r Q → ((x : T) → P → Q x → R x) → IfOk r R
if_ok-with (Ok x) P Q R p q f = f x p q
if_ok-with (Err e) P Q R p q f = tt

-- a run of an engine that was not answered
pub leaves-off : {T E : Type 0} (r : Result T E) (e : EngineState) (aim : Aim) (run : RunState) (f : EngineState) → f ≡ with_run e run → OnErr r (Wants aim e.run run ⊎ HasRun aim e.run run) → OnErr r (LeavesOff e f)
leaves-off (Ok x) e aim run f is h = tt
leaves-off (Err x) e aim run f is (inl wants) = Wanting aim run is wants
leaves-off (Err x) e aim run f is (inr has_run) = Unsaid aim run is has_run
