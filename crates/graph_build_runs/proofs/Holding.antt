-- Places that are held while later code runs, and runs before runs where a name is wanted.
use Rattle.std.proofs.Common.{◌≡◌, ℕ, ◌+◌, ◌<◌, ◌≤◌, List, Option, Some, None, Bool, true, false, slice_get, refl, sym, ap, ◌∙◌, arith}
use Rattle.std.specs.Option.{option_map_or}
use Rattle.c_tree.specs.TypedExpressions.{LvalueTree}
use Rattle.c_meaning_values.specs.declared.value.Value as source-value
use Rattle.c_meaning_steps.specs.declared.event.Ending.TheVariants as ending
use Rattle.c_meaning_steps.specs.States.{State, Evaluated, Gives, Leaves, Ends, with}
use Rattle.graph_core.specs.declared.value.Value.TheVariants.{Odd}
use Rattle.graph_core.specs.Graphs.{Operand, Name, Constant, StaticAddress, Location, Automatic, Static as StaticPlace, At, Instruction, End, StaticObject}
use Rattle.graph_core.specs.Memory.{Object, Memory, bytes_of, address_in}
use Rattle.graph_core.specs.Runs.{value}
use Rattle.graph_core.specs.Values.{is_odd, pointer_at}
use Rattle.graph_build_names.specs.Operands.{held, operand_at}
use Rattle.graph_build_layout.specs.Laid.{behind_move}
use Rattle.graph_build_names.specs.Writes.{is_moved, is_location_moved}
use Rattle.graph_build_steps.specs.Drafts.{Made, Goal, To, Unused, Either, hold_location, held_location}
use Rattle.graph_build_runs.proofs.Leads.{Setting, size_in, Local, World, then_leads}
use Rattle.graph_build_runs.proofs.Later.{OthersLater, others_trans, same_bytes}
use Rattle.graph_build_runs.proofs.Kept.{is_want, Fits, ScalarsFirst}
use Rattle.graph_build_runs.proofs.Results.{Reached, Passes, to_made, Valued, ToR, Result, ended_result, result_after}
use Rattle.graph_build_runs.proofs.Leaves.{left_stuck}
use Rattle.graph_build_runs.proofs.Operands.{IsBelow, hold_done}
use Rattle.graph_build_runs.proofs.Places.{within_written, pointed_in, Located, PlaceR}
use Rattle.graph_build_runs.proofs.Writing.{want_by}

-- an operand is not a name that is wanted
abbrev pub IsAside : Option ℕ → Operand → Type 0
IsAside want (Name y) = is_want want y ≡ false
IsAside want (Constant word) = Unit {0}
IsAside want (StaticAddress object offset) = Unit {0}

-- nor is a location found by that name
abbrev pub IsPlaceAside : Option ℕ → Location → Type 0
IsPlaceAside want (At a) = IsAside want a
IsPlaceAside want (Automatic o k) = Unit {0}
IsPlaceAside want (StaticPlace o) = Unit {0}

-- a location is found by a name below a number, if by a name
abbrev pub IsPlaceBelow : ℕ → Location → Type 0
IsPlaceBelow t (At a) = IsBelow t a
IsPlaceBelow t (Automatic o k) = Unit {0}
IsPlaceBelow t (StaticPlace o) = Unit {0}

-- A held operand is as it was behind code that writes no name below the next free one, but for those that it writes and one that is wanted.
pub held_aside : (statics : List StaticObject) (want : Option ℕ) (written : ℕ → Bool) (a : Operand) (moved : Bool) (t : ℕ) (l m : Local) → is_moved written a ≡ moved → IsBelow t a → written t ≡ false → is_want want t ≡ false → IsAside want a
    → ((y : ℕ) → y < behind_move moved t → is_want want y ≡ false → written y ≡ false → m.names y ≡ l.names y) → value statics m.names (held moved a t) ≡ value statics l.names (held moved a t)
held_aside statics want written a true t l m is below free spare aside kept = let lt : t < t + 1 = omega arith in kept t lt spare free
held_aside statics want written (Name y) false t l m is below free spare aside kept = kept y below aside is
held_aside statics want written (Constant word) false t l m is below free spare aside kept = refl
held_aside statics want written (StaticAddress object offset) false t l m is below free spare aside kept = refl

at_held : (moved : Bool) (t : ℕ) (a : Operand) → held_location moved t (At a) ≡ At (held moved a t)
at_held true t a = refl
at_held false t a = refl

automatic_held : (moved : Bool) (t o k : ℕ) → held_location moved t (Automatic o k) ≡ Automatic o k
automatic_held true t o k = refl
automatic_held false t o k = refl

static_held : (moved : Bool) (t o : ℕ) → held_location moved t (StaticPlace o) ≡ StaticPlace o
static_held true t o = refl
static_held false t o = refl

-- The place of a location that is moved, or stays where it is.
pub record PlaceHeld (x : Setting) (moved : Bool) (loc : Location) (t : ℕ) (m : Made) (s : State) (l : Local) (w : World) : Type 0 where
  pub local : Local
  pub leads : Passes x (hold_location moved t loc m).ops (hold_location moved t loc m).end l w m.ops m.end local w
  pub fits : Fits x None s local w
  pub same : pointed_in x local w (held_location moved t loc) ≡ pointed_in x l w loc
  pub kept : (y : ℕ) → y < t → local.names y ≡ l.names y

pub hold_place : (x : Setting) (moved : Bool) (loc : Location) (t : ℕ) (m : Made) (s : State) (l : Local) (w : World) → ScalarsFirst x → size_in x ≤ t → Fits x None s l w → PlaceHeld x moved loc t m s l w
hold_place x moved loc t m s l w low le fits =
    let h = hold_done x moved (operand_at loc) t m s l w low le fits in
    record { local = h.local; leads = h.leads; fits = h.fits; same = same_place loc h.local h.value_is; kept = h.kept }
  where
    same_place : (loc : Location) (k : Local) → value x.unit.statics k.names (held moved (operand_at loc) t) ≡ value x.unit.statics l.names (operand_at loc) → pointed_in x k w (held_location moved t loc) ≡ pointed_in x l w loc
    same_place (At a) k e = ap (pointed_in x k w) (at_held moved t a) ∙ e
    same_place (Automatic o j) k e = ap (pointed_in x k w) (automatic_held moved t o j)
    same_place (StaticPlace o) k e = ap (pointed_in x k w) (static_held moved t o)

-- an address in an object stays
address_stays : (memory after : Memory) (n offset : ℕ) → OthersLater memory after → is_odd (address_in memory n offset) ≡ false → address_in after n offset ≡ address_in memory n offset
address_stays memory after n offset later known = go (slice_get memory n) refl
  where
    go : (r : Option Object) → slice_get memory n ≡ r → address_in after n offset ≡ address_in memory n offset
    go None e = let odd : is_odd (address_in memory n offset) ≡ true = ap (λ q. is_odd (option_map_or (λ o. pointer_at n (bytes_of o) offset) q Odd)) e in absurd (no (sym odd ∙ known))
      where
        no : true ≡ false → ⊥
        no h = cc
    go (Some q) e =
        let b = later n q e in
        ap (λ r. option_map_or (λ o. pointer_at n (bytes_of o) offset) r Odd) b.is ∙ ap (λ k. pointer_at n k offset) (same_bytes q b.object b.element b.count)
        ∙ sym (ap (λ r. option_map_or (λ o. pointer_at n (bytes_of o) offset) r Odd) e)

-- A held place is as it was behind code that spares it.
pub place_stays : (x : Setting) (want : Option ℕ) (written : ℕ → Bool) (loc : Location) (t : ℕ) (l m : Local) (w w2 : World) → IsPlaceBelow t loc → written t ≡ false → is_want want t ≡ false → IsPlaceAside want loc
    → ((y : ℕ) → y < behind_move (is_location_moved written loc) t → is_want want y ≡ false → written y ≡ false → m.names y ≡ l.names y) → OthersLater w.memory w2.memory
    → is_odd (pointed_in x l w (held_location (is_location_moved written loc) t loc)) ≡ false
    → pointed_in x m w2 (held_location (is_location_moved written loc) t loc) ≡ pointed_in x l w (held_location (is_location_moved written loc) t loc)
place_stays x want written (At a) t l m w w2 below free spare aside kept later known =
    let moved = is_moved written a in
    ap (pointed_in x m w2) (at_held moved t a) ∙ held_aside x.unit.statics want written a moved t l m refl below free spare aside kept ∙ sym (ap (pointed_in x l w) (at_held moved t a))
place_stays x want written (Automatic o k) t l m w w2 below free spare aside kept later known = address_stays w.memory w2.memory (x.first + o) k later known
place_stays x want written (StaticPlace o) t l m w w2 below free spare aside kept later known = refl

-- A run before a run, where a name is wanted.
module _ (x : Setting) (t t2 : ℕ) (f f2 : ℕ → Bool) (ops ops2 : List Instruction) (end end2 : End) (l l2 : Local) (w w2 : World) (first : Passes x ops end l w ops2 end2 l2 w2) (later : OthersLater w.memory w2.memory) where
  abbrev pub reached_behind : (want : Option ℕ) (m : Made) (s : State) → ((y : ℕ) → y < t → is_want want y ≡ false → f y ≡ false → (y < t2) × (f2 y ≡ false) × (l2.names y ≡ l.names y)) → Reached x want t2 f2 l2 w2 (to_made x ops2 end2 l2 w2 m) s
      → Reached x want t f l w (to_made x ops end l w m) s
  reached_behind want m s spares r = record {
    local = r.local;
    world = r.world;
    leads = then_leads first r.leads;
    fits = r.fits;
    kept = λ y lt nw nf. (let c = spares y lt nw nf in r.kept y c.0 nw c.1 ∙ c.2);
    later = others_trans w.memory w2.memory r.world.memory later r.later;
  }

  pub result_behind : (g : Goal) → ((y : ℕ) → y < t → is_want (want_by g) y ≡ false → f y ≡ false → (y < t2) × (f2 y ≡ false) × (l2.names y ≡ l.names y)) → (a : Operand) (r : Evaluated) → Result x g a t2 f2 ops2 end2 l2 w2 r → Result x g a t f ops end l w r
  result_behind (To want m) spares a (Gives v s) h = record { reached = reached_behind want m s spares h.reached; same = h.same }
  result_behind (To want m) spares a (Leaves s) h = reached_behind want m s spares h
  result_behind (To want m) spares a (Ends e s) h = record { configuration = h.configuration; seen = h.seen; leads = then_leads first h.leads; ends = h.ends }
  result_behind (Unused m) spares a r h = result_after x t t2 f f2 ops ops2 end end2 l l2 w w2 first (λ y lt nf. spares y lt refl nf) later (Unused m) a r h
  result_behind (Either one other inner) spares a r h = result_after x t t2 f f2 ops ops2 end end2 l l2 w w2 first (λ y lt nf. spares y lt refl nf) later (Either one other inner) a r h

-- The value of an expression that is computed where a goal wants one is used.
pub with_wanted : (x : Setting) (g : Goal) (m : Made) (a a1 : Operand) (t t1 t2 : ℕ) (f f1 f2 : ℕ → Bool) (ops : List Instruction) (end : End) (l : Local) (w : World) (r : Evaluated) (next : source-value.Value → State → Evaluated) → t ≤ t1 → t ≤ t2
    → ((y : ℕ) → y < t → f y ≡ false → (f1 y ≡ false) × (f2 y ≡ false)) → ToR x (want_by g) m a1 t1 f1 ops end l w r
    → ((v : source-value.Value) (s : State) → r ≡ Gives v s → (h : Valued x (want_by g) m a1 t1 f1 ops end l w v s) → Result x g a t2 f2 m.ops m.end h.reached.local h.reached.world (next v s))
    → Result x g a t f ops end l w (with r next)
with_wanted x g m a a1 t t1 t2 f f1 f2 ops end l w (Gives v s) next le1 le2 spares h go_on =
    result_behind x t t2 f f2 ops m.ops end m.end l h.reached.local w h.reached.world h.reached.leads h.reached.later g
    (λ y lt nw nf. (let c = spares y lt nf in (omega (arith, lt, le2), c.1, h.reached.kept y (omega (arith, lt, le1)) nw c.0))) a (next v s) (go_on v s refl h)
with_wanted x g m a a1 t t1 t2 f f1 f2 ops end l w (Leaves s) next le1 le2 spares h go_on = ended_result x g a t f ops end l w ending.Undefined s (left_stuck x (want_by g) m t1 f1 ops end l w s h)
with_wanted x g m a a1 t t1 t2 f f1 f2 ops end l w (Ends e s) next le1 le2 spares h go_on = ended_result x g a t f ops end l w e s h

-- A place was found, and what follows works with it.
pub place_next : (x : Setting) (g : Goal) (m : Made) (lv : LvalueTree) (a : Operand) (t t2 : ℕ) (f f2 : ℕ → Bool) (ops : List Instruction) (end : End) (l : Local) (w : World) (r : Evaluated) (next : source-value.Value → State → Evaluated) → t ≤ t2
    → ((y : ℕ) → y < t → f y ≡ false → (within_written x lv y ≡ false) × (f2 y ≡ false)) → PlaceR x m lv t ops end l w r
    → ((v : source-value.Value) (s : State) → r ≡ Gives v s → (h : Located x m lv t ops end l w v s) → Result x g a t2 f2 m.ops m.end h.reached.local h.reached.world (next v s))
    → Result x g a t f ops end l w (with r next)
place_next x g m lv a t t2 f f2 ops end l w (Gives v s) next le spares h go_on =
    result_after x t t2 f f2 ops m.ops end m.end l h.reached.local w h.reached.world h.reached.leads
    (λ y lt nf. (let c = spares y lt nf in (omega (arith, lt, le), c.1, h.reached.kept y lt refl c.0))) h.reached.later g a (next v s) (go_on v s refl h)
place_next x g m lv a t t2 f f2 ops end l w (Leaves s) next le spares h go_on = ended_result x g a t f ops end l w ending.Undefined s h
place_next x g m lv a t t2 f f2 ops end l w (Ends e s) next le spares h go_on = ended_result x g a t f ops end l w e s h
