-- What follows a value that stands, or that an instruction writes.
use Rattle.std.proofs.Common.{◌≡◌, ℕ, ◌+◌, ◌<◌, ◌≤◌, List, [], ◌∷◌, Option, Some, None, Bool, true, false, slice_get, refl, sym, ap, ◌∙◌, subst, arith}
use Rattle.std.specs.Prelude.{◌==◌, if◌then◌else◌}
use Rattle.c_meaning_values.specs.declared.value.Value as source-value
use Rattle.c_meaning_steps.specs.declared.event.Ending.{Ending}
use Rattle.c_meaning_steps.specs.declared.event.Ending.TheVariants as ending
use Rattle.c_meaning_values.specs.Memory.{is_usable}
use Rattle.c_meaning_values.specs.Operations.{is_true}
use Rattle.c_meaning_steps.specs.States.{State, Evaluated, Gives, Leaves, Ends, Tested, Holds, Fails, NoTest, tested_usable, by_truth, with, Both, both_operands, second, on_both}
use Rattle.graph_core.specs.declared.value.Value.{Value}
use Rattle.graph_core.specs.declared.value.Value.TheVariants.{Number}
use Rattle.graph_core.specs.declared.block.Comparison.TheVariants.{NotEqual}
use Rattle.graph_core.specs.Graphs.{Operand, Name, Constant, Instruction, End, Branch, Block}
use Rattle.graph_core.specs.Memory.{is_live}
use Rattle.graph_core.specs.Runs.{Configuration, Goes, step, value, entered, branched}
use Rattle.graph_core.specs.Values.{holds}
use Rattle.graph_build_steps.specs.Drafts.{Made, Goal, To, Unused, Either, instruction_before, leaf, target, follow}
use Rattle.graph_build_runs.specs.Correspondence.{SameValue}
use Rattle.graph_build_runs.proofs.Leads.{Setting, size_in, Local, World, set_name, at, Leads, stays, goes, then_leads, put_here, put_elsewhere, less_other}
use Rattle.graph_build_runs.proofs.Later.{others_refl}
use Rattle.graph_build_runs.proofs.Kept.{is_want, Fits, ScalarsFirst, fits_temporary, fits_wanted}
use Rattle.graph_build_runs.proofs.Results.{Reached, Passes, to_made, Stuck, operand_in, Valued, ToR, EitherR, Result, stuck_now, ended_result, result_after}
use Rattle.graph_build_runs.proofs.Tests.{HasWord, test_value}

-- a test that the end of a block makes
pub test_done : (x : Setting) (t : ℕ) (f : ℕ → Bool) (e : End) (l : Local) (w : World) (s : State) (b : Bool) (one other : ℕ) → Fits x None s l w
    → step x.unit (at x [] e l w) ≡ branched (at x [] e l w) (Some b) one other → EitherR x one other t f [] e l w (by_truth b s)
test_done x t f e l w s true one other fits goes_by =
    record { local = l; world = w; leads = λ b is. goes (goes_by ∙ ap (entered (at x [] e l w) one) is) stays; fits = fits; kept = λ y lt nw nf. refl; later = others_refl w.memory }
test_done x t f e l w s false one other fits goes_by =
    record { local = l; world = w; leads = λ b is. goes (goes_by ∙ ap (entered (at x [] e l w) other) is) stays; fits = fits; kept = λ y lt nw nf. refl; later = others_refl w.memory }

-- a value that stands in an operand is tested
tested_done : (x : Setting) (one other : ℕ) (a : Operand) (t : ℕ) (f : ℕ → Bool) (v : source-value.Value) (s : State) (l : Local) (w : World) → Fits x None s l w
    → SameValue x.program s.memory w.memory v (value x.unit.statics l.names a) → HasWord v → (usable : Bool) → is_usable s.memory v ≡ usable
    → EitherR x one other t f [] (Branch NotEqual a (Constant 0) one other) l w (tested_usable (if usable then Gives v s else Ends ending.Undefined s))
tested_done x one other a t f v s l w fits same word false u = stuck_now x None [] (Branch NotEqual a (Constant 0) one other) s l w fits
tested_done x one other a t f v s l w fits same word true u =
    let e = Branch NotEqual a (Constant 0) one other in
    test_done x t f e l w s (is_true v) one other fits
    (ap (λ h. branched (at x [] e l w) h one other) (test_value x.program s.memory w.memory (is_live w.memory) v (value x.unit.statics l.names a) same word u))

-- a value that stands in an operand
pub leaf_done : (x : Setting) (g : Goal) (a : Operand) (t : ℕ) (f : ℕ → Bool) (v : source-value.Value) (s : State) (l : Local) (w : World) → Fits x None s l w
    → SameValue x.program s.memory w.memory v (value x.unit.statics l.names a) → HasWord v → Result x g a t f (leaf g a).ops (leaf g a).end l w (Gives v s)
leaf_done x (To None m) a t f v s l w fits same word =
    record { reached = record { local = l; world = w; leads = stays; fits = fits; kept = λ y lt nw nf. refl; later = others_refl w.memory }; same = same }
leaf_done x (To (Some k) m) a t f v s l w fits same word =
    let given = value x.unit.statics l.names a in
    record {
      reached = record {
        local = set_name l k given;
        world = w;
        leads = goes refl stays;
        fits = fits_wanted x s l w k given fits;
        kept = λ y lt nw nf. put_elsewhere l.names k y given nw;
        later = others_refl w.memory;
      };
      same = subst (SameValue x.program s.memory w.memory v) (sym (put_here l.names k given)) same;
    }
leaf_done x (Unused m) a t f v s l w fits same word = record { local = l; world = w; leads = stays; fits = fits; kept = λ y lt nw nf. refl; later = others_refl w.memory }
leaf_done x (Either one other inner) a t f v s l w fits same word = tested_done x one other a t f v s l w fits same word (is_usable s.memory v) refl

-- an instruction that writes a value to a name, whichever it is
abbrev pub Writes : Setting → (ℕ → Instruction) → Value → Local → World → Type 0
Writes x i given l w = (k : ℕ) (ops : List Instruction) (end : End) → step x.unit (at x (i k ∷ ops) end l w) ≡ Goes (at x ops end (set_name l k given) w)

-- a value that an instruction writes
pub operated_done : (x : Setting) (g : Goal) (own t : ℕ) (f : ℕ → Bool) (i : ℕ → Instruction) (v : source-value.Value) (given : Value) (s : State) (l : Local) (w : World) → ScalarsFirst x → t ≤ own → size_in x ≤ own
    → Fits x None s l w → Writes x i given l w → SameValue x.program s.memory w.memory v given → HasWord v
    → Result x g (Name own) t f (instruction_before (i (target g own)) (follow g own)).ops (instruction_before (i (target g own)) (follow g own)).end l w (Gives v s)
operated_done x (To None m) own t f i v given s l w low le size fits writes same word =
    record {
      reached = record {
        local = set_name l own given;
        world = w;
        leads = goes (writes own m.ops m.end) stays;
        fits = fits_temporary x s l w own given low fits size;
        kept = λ y lt nw nf. put_elsewhere l.names own y given (less_other y own (omega (arith, lt, le)));
        later = others_refl w.memory;
      };
      same = subst (SameValue x.program s.memory w.memory v) (sym (put_here l.names own given)) same;
    }
operated_done x (To (Some k) m) own t f i v given s l w low le size fits writes same word =
    record {
      reached = record {
        local = set_name l k given;
        world = w;
        leads = goes (writes k m.ops m.end) stays;
        fits = fits_wanted x s l w k given fits;
        kept = λ y lt nw nf. put_elsewhere l.names k y given nw;
        later = others_refl w.memory;
      };
      same = subst (SameValue x.program s.memory w.memory v) (sym (put_here l.names k given)) same;
    }
operated_done x (Unused m) own t f i v given s l w low le size fits writes same word =
    record {
      local = set_name l own given;
      world = w;
      leads = goes (writes own m.ops m.end) stays;
      fits = fits_temporary x s l w own given low fits size;
      kept = λ y lt nw nf. put_elsewhere l.names own y given (less_other y own (omega (arith, lt, le)));
      later = others_refl w.memory;
    }
operated_done x (Either one other inner) own t f i v given s l w low le size fits writes same word =
    let e = Branch NotEqual (Name own) (Constant 0) one other in
    result_after x t t f f (i own ∷ []) [] e e l (set_name l own given) w w (goes (writes own [] e) stays)
    (λ y lt nf. (lt, nf, put_elsewhere l.names own y given (less_other y own (omega (arith, lt, le))))) (others_refl w.memory) (Either one other inner) (Name own) (Gives v s)
    (leaf_done x (Either one other inner) (Name own) t f v s (set_name l own given) w (fits_temporary x s l w own given low fits size)
    (subst (SameValue x.program s.memory w.memory v) (sym (put_here l.names own given)) same) word)

-- two operands are one behind the other
pub second_with : (v : source-value.Value) (r : Evaluated) (go : source-value.Value → source-value.Value → State → Evaluated) → with r (go v) ≡ on_both (second v r) go
second_with v (Gives w s) go = refl
second_with v (Leaves s) go = refl
second_with v (Ends e s) go = refl

pub both_with : (r : Evaluated) (right : State → Evaluated) (go : source-value.Value → source-value.Value → State → Evaluated) → with r (λ v s. with (right s) (go v)) ≡ on_both (both_operands r right) go
both_with (Gives v s) right go = second_with v (right s) go
both_with (Leaves s) right go = refl
both_with (Ends e s) right go = refl

-- an expression without a value where one is used
pub left_stuck : (x : Setting) (want : Option ℕ) (m : Made) (t : ℕ) (f : ℕ → Bool) (ops : List Instruction) (end : End) (l : Local) (w : World) (s : State) → Reached x want t f l w (to_made x ops end l w m) s → Stuck x ops end l w ending.Undefined s
left_stuck x want m t f ops end l w s h = record { configuration = at x m.ops m.end h.local h.world; seen = h.world.seen; leads = h.leads; ends = h.fits.events }

-- The value of an expression is used.
pub with_then : (x : Setting) (want : Option ℕ) (g : Goal) (m : Made) (a a1 : Operand) (t t1 t2 : ℕ) (f f1 f2 : ℕ → Bool) (ops : List Instruction) (end : End) (l : Local) (w : World) (r : Evaluated) (next : source-value.Value → State → Evaluated) → t ≤ t1 → t ≤ t2
    → ((y : ℕ) → y < t → f y ≡ false → (is_want want y ≡ false) × (f1 y ≡ false) × (f2 y ≡ false)) → ToR x want m a1 t1 f1 ops end l w r
    → ((v : source-value.Value) (s : State) → r ≡ Gives v s → (h : Valued x want m a1 t1 f1 ops end l w v s) → Result x g a t2 f2 m.ops m.end h.reached.local h.reached.world (next v s))
    → Result x g a t f ops end l w (with r next)
with_then x want g m a a1 t t1 t2 f f1 f2 ops end l w (Gives v s) next le1 le2 spares h go_on =
    result_after x t t2 f f2 ops m.ops end m.end l h.reached.local w h.reached.world h.reached.leads
    (λ y lt nf. (let c = spares y lt nf in (omega (arith, lt, le2), c.2, h.reached.kept y (omega (arith, lt, le1)) c.0 c.1))) h.reached.later g a (next v s) (go_on v s refl h)
with_then x want g m a a1 t t1 t2 f f1 f2 ops end l w (Leaves s) next le1 le2 spares h go_on = ended_result x g a t f ops end l w ending.Undefined s (left_stuck x want m t1 f1 ops end l w s h)
with_then x want g m a a1 t t1 t2 f f1 f2 ops end l w (Ends e s) next le1 le2 spares h go_on = ended_result x g a t f ops end l w e s h

-- a value that two instructions write, the first one to a temporary
pub two_done : (x : Setting) (g : Goal) (own temporary t : ℕ) (f : ℕ → Bool) (i j : ℕ → Instruction) (v : source-value.Value) (between given : Value) (s : State) (l : Local) (w : World) → ScalarsFirst x → t ≤ temporary → size_in x ≤ temporary → t ≤ own → size_in x ≤ own
    → Fits x None s l w → Writes x i between l w → Writes x j given (set_name l temporary between) w → SameValue x.program s.memory w.memory v given → HasWord v
    → Result x g (Name own) t f (i temporary ∷ (instruction_before (j (target g own)) (follow g own)).ops) (instruction_before (j (target g own)) (follow g own)).end l w (Gives v s)
two_done x g own temporary t f i j v between given s l w low le1 size1 le2 size2 fits first next same word =
    let m = instruction_before (j (target g own)) (follow g own) in
    result_after x t t f f (i temporary ∷ m.ops) m.ops m.end m.end l (set_name l temporary between) w w (goes (first temporary m.ops m.end) stays)
    (λ y lt nf. (lt, nf, put_elsewhere l.names temporary y between (less_other y temporary (omega (arith, lt, le1))))) (others_refl w.memory) g (Name own) (Gives v s)
    (operated_done x g own t f j v given s (set_name l temporary between) w low le2 size2 (fits_temporary x s l w temporary between low fits size1) next same word)
