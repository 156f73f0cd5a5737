-- Arguments from left to right.
use Rattle.std.proofs.Common.{◌≡◌, ℕ, ◌+◌, ◌<◌, ◌≤◌, List, [], ◌∷◌, map, Option, Some, None, Bool, true, false, ◌||◌, refl, sym, ap, ◌∙◌, subst, arith}
use Rattle.std.specs.Prelude.{if◌then◌else◌}
use Rattle.c_tree.specs.declared.object_type.ValueType.{ValueType}
use Rattle.c_tree.specs.TypedExpressions.{RvalueTree, ArgumentTrees, none, first}
use Rattle.c_tree.specs.Programs.{ProgramTree}
use Rattle.c_type_laws.specs.Expressions.{kind_of}
use Rattle.c_meaning_values.specs.declared.value.Value as source-value
use Rattle.c_meaning_steps.specs.declared.event.Ending.TheVariants as ending
use Rattle.c_meaning_values.specs.Memory.{Memory}
use Rattle.c_meaning_steps.specs.States.{State, Evaluated, Gives, Leaves, Ends, Listed, Lists, NoList, argument_listed, fronted}
use Rattle.c_meaning.specs.Expressions.{Calls, evaluate, evaluate_all}
use Rattle.graph_core.specs.Graphs.{Operand, Instruction, End}
use Rattle.graph_core.specs.Runs.{value}
use Rattle.graph_core.specs.Memory.{Memory as UnitMemory}
use Rattle.graph_build_names.specs.Operands.{held}
use Rattle.graph_build_layout.specs.declared.laid.Use.TheVariants.{Anywhere}
use Rattle.graph_build_layout.specs.Laid.{Laid, behind_move}
use Rattle.graph_build_layout.specs.Layout.{laid, passed_laid}
use Rattle.graph_build_names.specs.Writes.{writes, writes_any, is_moved}
use Rattle.graph_build_steps.specs.Drafts.{Made, Goal, To, move_if}
use Rattle.graph_build_code.specs.Code.{code_all}
use Rattle.graph_build_runs.specs.Typed.{IsOf}
use Rattle.graph_build_runs.specs.Correspondence.{SameValue, SameValues}
use Rattle.graph_build_runs.proofs.Leads.{Setting, names_in, size_in, depth_in, Local, World, at, Leads, stays, then_leads}
use Rattle.graph_build_runs.proofs.Later.{Later, later_refl, later_trans, OthersLater, others_refl, others_trans, value_later}
use Rattle.graph_build_runs.proofs.Kept.{Sound, Fits, ScalarsFirst}
use Rattle.graph_build_runs.proofs.Results.{Reached, to_made, Stuck, Valued, ToR, made_after, stuck_after}
use Rattle.graph_build_runs.proofs.Leaves.{left_stuck}
use Rattle.graph_build_runs.proofs.Typing.{Typed, Keeps, Gave, gave_by, of_later}
use Rattle.graph_build_runs.proofs.Standing.{Stands, Grows, hold_inner}
use Rattle.graph_build_runs.proofs.Operands.{Does, code_in, value_in, written_by, Low, or_false, hold_done, held_stays, behind_le}

-- values are of these types, one by one
abbrev pub AreOf : Memory → List ValueType → List source-value.Value → Type 0
AreOf memory [] [] = Unit {0}
AreOf memory [] (v ∷ vs) = ⊥
AreOf memory (t ∷ ts) [] = ⊥
AreOf memory (t ∷ ts) (v ∷ vs) = IsOf memory t v × AreOf memory ts vs

pub record Listing (p : ProgramTree) (began before : Memory) (types : List ValueType) (vs : List source-value.Value) (s : State) : Type 0 where
  pub sound : Sound p began s
  pub later : Later before s.memory
  pub are : AreOf s.memory types vs

abbrev pub KeepsList : ProgramTree → (began before : Memory) → List ValueType → Listed → Type 0
KeepsList p began before types (Lists vs s) = Listing p began before types vs s
KeepsList p began before types (NoList e s) = Unit {0}

-- Arguments come to values of these types.
abbrev pub TypedAll : Setting → Calls → List ValueType → ArgumentTrees → Type 0
TypedAll x calls types all = (s : State) → Sound x.program x.begun s → KeepsList x.program x.begun s.memory types (evaluate_all calls (depth_in x) all s)

abbrev pub passed_in : Setting → ArgumentTrees → ℕ → List Operand
passed_in x all t = (passed_laid (names_in x) all t).values

abbrev pub any_written : Setting → ArgumentTrees → ℕ → Bool
any_written x all y = writes_any (names_in x) y all

-- The run has come to what follows, with the values of the arguments.
pub record Row (x : Setting) (m : Made) (all : ArgumentTrees) (t : ℕ) (ops : List Instruction) (end : End) (l : Local) (w : World) (vs : List source-value.Value) (s : State) : Type 0 where
  pub reached : Reached x None t (any_written x all) l w (to_made x ops end l w m) s
  pub same : SameValues x.program s.memory reached.world.memory vs (map (value x.unit.statics reached.local.names) (passed_in x all t))

abbrev pub RowR : Setting → Made → ArgumentTrees → ℕ → List Instruction → End → Local → World → Listed → Type 0
RowR x m all t ops end l w (Lists vs s) = Row x m all t ops end l w vs s
RowR x m all t ops end l w (NoList e s) = Stuck x ops end l w e s

abbrev pub passing : Setting → ArgumentTrees → ℕ → Made → Made
passing x all t m = code_all (names_in x) x.place x.top all t m

-- The code of arguments does what they mean.
abbrev pub DoesAll : Setting → Calls → ArgumentTrees → Type 0
DoesAll x calls all = (t : ℕ) (m : Made) (s : State) (l : Local) (w : World) → size_in x ≤ t → Stands x.graph x.top (passing x all t m).inner → Sound x.program x.begun s → Fits x None s l w
    → RowR x m all t (passing x all t m).ops (passing x all t m).end l w (evaluate_all calls (depth_in x) all s)

pub none_does : (x : Setting) (calls : Calls) → DoesAll x calls none
none_does x calls t m s l w size st sound fits =
    record { reached = record { local = l; world = w; leads = stays; fits = fits; kept = λ y lt nw nf. refl; later = others_refl w.memory }; same = tt }

-- no temporary is written by arguments
abbrev pub SparesAny : Setting → ArgumentTrees → Type 0
SparesAny x all = (y : ℕ) → size_in x ≤ y → writes_any (names_in x) y all ≡ false

module _ (x : Setting) (calls : Calls) (low : ScalarsFirst x) (e : RvalueTree) (rest : ArgumentTrees) (typed_e : Typed x calls e) (types : List ValueType) (typed_rest : TypedAll x calls types rest) (low_e : Low x e) (spares_rest : SparesAny x rest)
    (grows_e : Grows (names_in x) x.place x.top x.graph e) (does_e : Does x calls e) (does_rest : DoesAll x calls rest) where
  abbrev moved_in : ℕ → Bool
  moved_in t = is_moved (λ y. writes_any (names_in x) y rest) (value_in x e t)

  abbrev next_in : ℕ → ℕ
  next_in t = (laid (names_in x) e Anywhere t).next

  abbrev from_in : ℕ → ℕ
  from_in t = behind_move (moved_in t) (next_in t)

  abbrev rest_in : ℕ → Made → Made
  rest_in t m = move_if (moved_in t) (next_in t) (value_in x e t) (passing x rest (from_in t) m)

  module _ (t : ℕ) (m : Made) (s : State) (l : Local) (w : World) (size : size_in x ≤ t) (st : Stands x.graph x.top (passing x (first e rest) t m).inner) (sound : Sound x.program x.begun s) (fits : Fits x None s l w) where
    abbrev whole : Made
    whole = code_in x e t (To None (rest_in t m))

    -- the values of the others, behind the first
    others_row : (v : source-value.Value) (s1 s2 : State) (k l1 : Local) (w1 : World) (vs : List source-value.Value) → Later s1.memory s2.memory → SameValue x.program s1.memory w1.memory v (value x.unit.statics l1.names (value_in x e t))
        → value x.unit.statics k.names (held (moved_in t) (value_in x e t) (next_in t)) ≡ value x.unit.statics l1.names (value_in x e t)
        → OthersLater w.memory w1.memory → Leads x.unit (at x whole.ops whole.end l w) w.seen (at x (passing x rest (from_in t) m).ops (passing x rest (from_in t) m).end k w1) w1.seen
        → ((y : ℕ) → y < t → writes (names_in x) y e ≡ false → k.names y ≡ l.names y)
        → Row x m rest (from_in t) (passing x rest (from_in t) m).ops (passing x rest (from_in t) m).end k w1 vs s2 → Row x m (first e rest) t whole.ops whole.end l w (v ∷ vs) s2
    others_row v s1 s2 k l1 w1 vs later same held_is others leads kept h =
        let r = low_e t size in
        let above : t ≤ from_in t = omega (arith, r.next, behind_le (moved_in t) (next_in t)) in
        let stays_held : value x.unit.statics h.reached.local.names (held (moved_in t) (value_in x e t) (next_in t)) ≡ value x.unit.statics l1.names (value_in x e t) =
        held_stays x.unit.statics (λ y. writes_any (names_in x) y rest) (value_in x e t) (moved_in t) (next_in t) k h.reached.local refl r.below (spares_rest (next_in t) (omega (arith, r.next, size))) (λ y lt nf. h.reached.kept y lt refl nf) ∙ held_is in
        record {
          reached = record {
            local = h.reached.local;
            world = h.reached.world;
            leads = then_leads leads h.reached.leads;
            fits = h.reached.fits;
            kept = λ y lt nw nf. (let no = or_false (writes (names_in x) y e) (writes_any (names_in x) y rest) nf in h.reached.kept y (omega (arith, lt, above)) refl no.1 ∙ kept y lt no.0);
            later = others_trans w.memory w1.memory h.reached.world.memory others h.reached.later;
          };
          same = (
            subst (SameValue x.program s2.memory h.reached.world.memory v) (sym stays_held)
                (value_later x.program s1.memory s2.memory w1.memory h.reached.world.memory later h.reached.later v (value x.unit.statics l1.names (value_in x e t)) same),
            h.same,
          );
        }

    others_result : (v : source-value.Value) (s1 : State) (k l1 : Local) (w1 : World) → SameValue x.program s1.memory w1.memory v (value x.unit.statics l1.names (value_in x e t))
        → value x.unit.statics k.names (held (moved_in t) (value_in x e t) (next_in t)) ≡ value x.unit.statics l1.names (value_in x e t)
        → OthersLater w.memory w1.memory → Leads x.unit (at x whole.ops whole.end l w) w.seen (at x (passing x rest (from_in t) m).ops (passing x rest (from_in t) m).end k w1) w1.seen
        → ((y : ℕ) → y < t → writes (names_in x) y e ≡ false → k.names y ≡ l.names y)
        → (r : Listed) → KeepsList x.program x.begun s1.memory types r → RowR x m rest (from_in t) (passing x rest (from_in t) m).ops (passing x rest (from_in t) m).end k w1 r → RowR x m (first e rest) t whole.ops whole.end l w (fronted v r)
    others_result v s1 k l1 w1 same held_is others leads kept (Lists vs s2) keeps h = others_row v s1 s2 k l1 w1 vs keeps.later same held_is others leads kept h
    others_result v s1 k l1 w1 same held_is others leads kept (NoList e2 s2) keeps h = record { configuration = h.configuration; seen = h.seen; leads = then_leads leads h.leads; ends = h.ends }

    first_result : (r : Evaluated) → Keeps x.program x.begun s.memory (kind_of x.program x.tree e) r → ToR x None (rest_in t m) (value_in x e t) t (written_by x e) whole.ops whole.end l w r
        → RowR x m (first e rest) t whole.ops whole.end l w (argument_listed r (λ v s1. fronted v (evaluate_all calls (depth_in x) rest s1)))
    first_result (Gives v s1) gave h =
        let r = low_e t size in
        let code_rest = passing x rest (from_in t) m in
        let above : t ≤ from_in t = omega (arith, r.next, behind_le (moved_in t) (next_in t)) in
        let k = hold_done x (moved_in t) (value_in x e t) (next_in t) code_rest s1 h.reached.local h.reached.world low (omega (arith, r.next, size)) h.reached.fits in
        let inner = subst (Stands x.graph x.top) (hold_inner (moved_in t) (next_in t) (value_in x e t) code_rest) (grows_e t (To None (rest_in t m)) st) in
        others_result v s1 k.local h.reached.local h.reached.world h.same k.value_is h.reached.later (then_leads h.reached.leads k.leads)
        (λ y lt nf. k.kept y (omega (arith, lt, r.next)) ∙ h.reached.kept y lt refl nf) (evaluate_all calls (depth_in x) rest s1) (typed_rest s1 gave.sound)
        (does_rest (from_in t) m s1 k.local h.reached.world (omega (arith, size, above)) inner gave.sound k.fits)
    first_result (Leaves s1) gave h = left_stuck x None (rest_in t m) t (written_by x e) whole.ops whole.end l w s1 h
    first_result (Ends e1 s1) gave h = h

  pub first_does : DoesAll x calls (first e rest)
  first_does t m s l w size st sound fits =
      first_result t m s l w size st sound fits (evaluate calls (depth_in x) e s) (typed_e s sound) (does_e t (To None (rest_in t m)) s l w size st sound fits tt)
