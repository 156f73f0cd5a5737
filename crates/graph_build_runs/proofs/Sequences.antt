-- Values that nothing uses: the comma, and casts to `void`.
use Rattle.std.proofs.Common.{◌≡◌, ℕ, ◌+◌, ◌<◌, ◌≤◌, List, [], ◌∷◌, Option, Some, None, Bool, true, false, ◌||◌, refl, sym, ap, ◌∙◌, subst, arith}
use Rattle.c_tree.specs.TypedExpressions.{RvalueTree, Comma, Discard}
use Rattle.c_type_laws.specs.Expressions.{kind_of}
use Rattle.c_type_laws.specs.Kind.{Kind}
use Rattle.c_meaning_values.specs.declared.value.Value as source-value
use Rattle.c_meaning_steps.specs.declared.event.Ending.TheVariants as ending
use Rattle.c_meaning_values.specs.Memory.{Memory}
use Rattle.c_meaning_steps.specs.States.{State, Evaluated, Gives, Leaves, Ends, afterwards}
use Rattle.c_meaning.specs.Expressions.{Calls, evaluate}
use Rattle.c_tree.specs.Programs.{ProgramTree}
use Rattle.graph_core.specs.Graphs.{Operand, Instruction, End}
use Rattle.graph_core.specs.Runs.{value}
use Rattle.graph_build_layout.specs.declared.laid.Use.TheVariants.{Anywhere, Nothing}
use Rattle.graph_build_names.specs.Names.{pick}
use Rattle.graph_build_layout.specs.Layout.{laid}
use Rattle.graph_build_names.specs.Writes.{writes}
use Rattle.graph_build_steps.specs.Drafts.{Made, Goal, To, Unused, Either, leaf, zero as zero_operand}
use Rattle.graph_build_runs.proofs.Leads.{Setting, names_in, size_in, depth_in, Local, World, set_name, at, stays, goes, put_elsewhere}
use Rattle.graph_build_runs.proofs.Later.{others_refl}
use Rattle.graph_build_runs.proofs.Kept.{Sound, Fits, ScalarsFirst, fits_wanted}
use Rattle.graph_build_runs.proofs.Results.{Reached, to_made, UnusedR, Result, stuck_now, ended_result, result_after}
use Rattle.graph_build_runs.proofs.Typing.{Keeps, Left, Typed}
use Rattle.graph_build_runs.proofs.Standing.{Stands, Grows, inner_of}
use Rattle.graph_build_runs.proofs.Operands.{aims_behind, Does, code_in, value_in, written_by, or_false}
use Rattle.graph_build_runs.proofs.Arithmetic.{pick_between}
use Rattle.graph_build_runs.proofs.Choices.{Tops}

-- The value of an expression is not used.
pub afterwards_then : (x : Setting) (p : ProgramTree) (began before : Memory) (k : Kind) (g : Goal) (m : Made) (a : Operand) (t t2 : ℕ) (f f1 f2 : ℕ → Bool) (ops : List Instruction) (end : End) (l : Local) (w : World) (r : Evaluated) (next : State → Evaluated) → t ≤ t2
    → ((y : ℕ) → y < t → f y ≡ false → (f1 y ≡ false) × (f2 y ≡ false)) → Keeps p began before k r → UnusedR x m t f1 ops end l w r
    → ((s : State) → Left p began before s → (h : Reached x None t f1 l w (to_made x ops end l w m) s) → Result x g a t2 f2 m.ops m.end h.local h.world (next s))
    → Result x g a t f ops end l w (afterwards r next)
afterwards_then x p began before k g m a t t2 f f1 f2 ops end l w (Gives v s) next le spares keeps h go_on =
    result_after x t t2 f f2 ops m.ops end m.end l h.local w h.world h.leads (λ y lt nf. (let c = spares y lt nf in (omega (arith, lt, le), c.1, h.kept y lt refl c.0))) h.later g a (next s)
    (go_on s (record { sound = keeps.sound; later = keeps.later }) h)
afterwards_then x p began before k g m a t t2 f f1 f2 ops end l w (Leaves s) next le spares keeps h go_on =
    result_after x t t2 f f2 ops m.ops end m.end l h.local w h.world h.leads (λ y lt nf. (let c = spares y lt nf in (omega (arith, lt, le), c.1, h.kept y lt refl c.0))) h.later g a (next s) (go_on s keeps h)
afterwards_then x p began before k g m a t t2 f f1 f2 ops end l w (Ends e s) next le spares keeps h go_on = ended_result x g a t f ops end l w e s h

pub comma_does : (x : Setting) (calls : Calls) (a b : RvalueTree) → Typed x calls a → Tops x Nothing a → Grows (names_in x) x.place x.top x.graph a → Does x calls a → Does x calls b → Does x calls (Comma a b)
comma_does x calls a b typed_a tops_a grows_a does_a does_b t g s l w size st sound fits aims =
    let k = pick (names_in x) t (laid (names_in x) a Nothing t).top in
    let m = code_in x b k g in
    let c = code_in x a t (Unused m) in
    let top = tops_a t size in
    let le : t ≤ k = pick_between (names_in x) t (laid (names_in x) a Nothing t).top t (omega arith) top in
    afterwards_then x x.program x.begun s.memory (kind_of x.program x.tree a) g m (value_in x b k) t k (λ y. writes (names_in x) y a || writes (names_in x) y b) (written_by x a) (written_by x b) c.ops c.end l w (evaluate calls (depth_in x) a s)
    (evaluate calls (depth_in x) b) le (λ y lt nf. or_false (writes (names_in x) y a) (writes (names_in x) y b) nf) (typed_a s sound) (does_a t (Unused m) s l w size st sound fits tt)
    (λ s1 left h. does_b k g s1 h.local h.world (omega (arith, size, le)) (grows_a t (Unused m) st) left.sound h.fits (aims_behind x g a b t k le aims))

-- no value, whatever it is for
pub left_done : (x : Setting) (g : Goal) (a b : Operand) (t : ℕ) (f : ℕ → Bool) (s : State) (l : Local) (w : World) → Fits x None s l w → Result x g a t f (leaf g b).ops (leaf g b).end l w (Leaves s)
left_done x (To None m) a b t f s l w fits = record { local = l; world = w; leads = stays; fits = fits; kept = λ y lt nw nf. refl; later = others_refl w.memory }
left_done x (To (Some k) m) a b t f s l w fits =
    let given = value x.unit.statics l.names b in
    record { local = set_name l k given; world = w; leads = goes refl stays; fits = fits_wanted x s l w k given fits; kept = λ y lt nw nf. put_elsewhere l.names k y given nw; later = others_refl w.memory }
left_done x (Unused m) a b t f s l w fits = record { local = l; world = w; leads = stays; fits = fits; kept = λ y lt nw nf. refl; later = others_refl w.memory }
left_done x (Either one other inner) a b t f s l w fits = stuck_now x None (leaf (Either one other inner) b).ops (leaf (Either one other inner) b).end s l w fits

pub discard_does : (x : Setting) (calls : Calls) (e : RvalueTree) → Typed x calls e → Does x calls e → Does x calls (Discard e)
discard_does x calls e typed_e does_e t g s l w size st sound fits aims =
    let m = leaf g zero_operand in
    let c = code_in x e t (Unused m) in
    afterwards_then x x.program x.begun s.memory (kind_of x.program x.tree e) g m (value_in x (Discard e) t) t t (written_by x e) (written_by x e) (λ y. false) c.ops c.end l w (evaluate calls (depth_in x) e s) Leaves (omega arith) (λ y lt nf. (nf, refl))
    (typed_e s sound) (does_e t (Unused m) s l w size st sound fits tt) (λ s1 left h. left_done x g (value_in x (Discard e) t) zero_operand t (λ y. false) s1 h.local h.world h.fits)
