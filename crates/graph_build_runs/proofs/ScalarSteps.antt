-- Updates and steps of scalars.
use Rattle.std.proofs.Common.{◌≡◌, ℕ, ◌+◌, ◌<◌, ◌≤◌, ◌∷◌, Option, Some, None, Bool, true, false, ◌||◌, refl, sym, ◌∙◌, subst, arith}
use Rattle.std.specs.Prelude.{◌==◌, if◌then◌else◌}
use Rattle.std.proofs.lemmas.Bool.{eqb-true}
use Rattle.std.proofs.lemmas.Bool.Decides.{nat_tests}
use Rattle.c_tree.specs.declared.object_type.ObjectType.{ObjectType}
use Rattle.c_tree.specs.declared.object_type.ValueType.{ValueType}
use Rattle.c_tree.specs.declared.object_type.Object.TheVariants as object
use Rattle.c_tree.specs.declared.typed_expression.Given.TheVariants.{New, Old}
use Rattle.c_tree.specs.TypedExpressions.{RvalueTree, Named}
use Rattle.c_type_rules.specs.Types.{loaded_type}
use Rattle.c_type_laws.specs.Expressions.{kind_of}
use Rattle.c_meaning_values.specs.declared.value.Value as source-value
use Rattle.c_meaning_values.specs.declared.value.Value.TheVariants as source
use Rattle.c_meaning_values.specs.Memory.{Memory as SourceMemory}
use Rattle.c_meaning_steps.specs.declared.event.Ending.TheVariants as ending
use Rattle.c_meaning_steps.specs.States.{State, Evaluated, Gives, Ends, with, on_both}
use Rattle.c_meaning.specs.Expressions.{Calls, evaluate, designate}
use Rattle.c_meaning_steps.specs.Steps.{left_side_read, store_if, replace_if, one}
use Rattle.graph_core.specs.declared.value.Value.{Value}
use Rattle.graph_core.specs.declared.value.Value.TheVariants.{Number}
use Rattle.graph_core.specs.Graphs.{Operand, Name, Constant, Move}
use Rattle.graph_core.specs.Runs.{value}
use Rattle.graph_build_names.specs.Operands.{held}
use Rattle.graph_build_layout.specs.declared.laid.Use.TheVariants.{Anywhere}
use Rattle.graph_build_names.specs.Names.{scalar_of}
use Rattle.graph_build_layout.specs.Laid.{Laid, behind_move}
use Rattle.graph_build_layout.specs.Layout.{laid}
use Rattle.graph_build_names.specs.Writes.{writes}
use Rattle.graph_build_steps.specs.Drafts.{Made, Goal, To, Unused, Either, instruction_before, leaf, note, noted, move_if}
use Rattle.graph_build_steps.specs.declared.change.Change as declared-change
use Rattle.graph_build_steps.specs.Steps.{changed, renewed_scalar, left_scalar, one_at}
use Rattle.graph_build_runs.specs.Typed.{IsOf}
use Rattle.graph_build_runs.specs.Correspondence.{SameValue}
use Rattle.graph_build_runs.proofs.Tests.{HasWord}
use Rattle.graph_build_runs.proofs.Leads.{Setting, names_in, size_in, depth_in, Local, World, set_name, at, stays, goes, put_here, put_elsewhere, less_other}
use Rattle.graph_build_runs.proofs.Later.{others_refl, value_later}
use Rattle.graph_build_runs.proofs.Kept.{is_want, Sound, Fits, ScalarsFirst, fits_temporary}
use Rattle.graph_build_runs.proofs.Results.{Stuck, Result, stuck_now, ended_result, result_after}
use Rattle.graph_build_runs.proofs.Leaves.{leaf_done, with_then}
use Rattle.graph_build_runs.proofs.Noting.{ScalarsApart}
use Rattle.graph_build_runs.proofs.Typing.{HasKind, Typed, gave_by, of_later, of_word}
use Rattle.graph_build_runs.proofs.Standing.{Stands, hold_inner}
use Rattle.graph_build_runs.proofs.Operands.{Does, code_in, value_in, written_by, IsBelow, Low, Spares, or_false, hold_done, held_stays, behind_le}
use Rattle.graph_build_runs.proofs.Holding.{result_behind}
use Rattle.graph_build_runs.proofs.PointerSums.{held_below, below_later}
use Rattle.graph_build_runs.proofs.Renewing.{Changes}
use Rattle.graph_build_runs.proofs.Anew.{fits_agree, ScalarObject, scalar_later, located_cases, by_new, restored, put_back, Anew, anew_cases}

replaced_new : (r : Option source-value.Value) (p old : source-value.Value) (s : State) → by_new (λ new q. q) r p s ≡ replace_if r New p old s
replaced_new None p old s = refl
replaced_new (Some new) p old s = refl

replaced_old : (r : Option source-value.Value) (p old : source-value.Value) (s : State) → by_new (λ new q. with q (λ a u. Gives old u)) r p s ≡ replace_if r Old p old s
replaced_old None p old s = refl
replaced_old (Some new) p old s = refl

stored_new : (r : Option source-value.Value) (p : source-value.Value) (s : State) → by_new (λ new q. q) r p s ≡ store_if r p s
stored_new None p s = refl
stored_new (Some new) p s = refl

-- what is wanted is older
abbrev pub Older : Goal → ℕ → Type 0
Older (To None m) t = Unit {0}
Older (To (Some y) m) t = y < t
Older (Unused m) t = Unit {0}
Older (Either left right inner) t = Unit {0}

-- The scalar of a variable changes.
module _ (x : Setting) (calls : Calls) (low : ScalarsFirst x) (apart : ScalarsApart x) (v k : ℕ) (named_by : scalar_of (names_in x) v ≡ Some k) (of : ObjectType) (c : declared-change.Change) (target : ValueType) (HasBy : source-value.Value → Type 0)
    (next : SourceMemory → source-value.Value → source-value.Value → Option source-value.Value) (changes : Changes x c target HasBy next)
    (holds_target : (s : State) (n : ℕ) (o : ScalarObject x v s.memory n) (u : source-value.Value) → Sound x.program x.begun s → IsOf s.memory (loaded_type o.object.element) u → IsOf s.memory target u) where
  abbrev word_target : (memory : SourceMemory) (u : source-value.Value) → IsOf memory target u → HasWord u
  word_target memory u is = of_word memory target u is

  below_scalar : (t : ℕ) → size_in x ≤ t → k < t
  below_scalar t size = let lt = low v k named_by in omega (arith, lt, size)

  -- the new value is used
  new_done : (g : Goal) (t b free : ℕ) (old by : Operand) (n : ℕ) (s : State) (l : Local) (w : World) (vo vb : source-value.Value) → size_in x ≤ b → t ≤ b → b ≤ free → IsBelow free old → Sound x.program x.begun s → Fits x None s l w → ScalarObject x v s.memory n → IsOf s.memory target vo → HasBy vb
      → SameValue x.program s.memory w.memory vo (value x.unit.statics l.names old) → SameValue x.program s.memory w.memory vb (value x.unit.statics l.names by)
      → Result x g (Name k) t (λ y. k == y) (changed c k free free old by (noted k g)).ops (changed c k free free old by (noted k g)).end l w (by_new (λ new q. q) (next s.memory vo vb) (source.Pointer n 0) s)
  new_done g t b free old by n s l w vo vb size le_b le below sound f o ho hb same_o same_b =
      let m = leaf g (Name k) in
      let code = changed c k free free old by (noted k g) in
      let undefined = ended_result x g (Name k) t (λ y. k == y) code.ops code.end l w ending.Undefined s (stuck_now x None code.ops code.end s l w f) in
      anew_cases x low apart v k named_by c target HasBy next changes free free b old by m None (Number 0) n s l w vo vb le (omega (arith, size, le)) le (omega (arith, size, le)) below refl sound f o ho hb same_o same_b (λ new q. q)
      (λ r. Result x g (Name k) t (λ y. k == y) code.ops code.end l w r) undefined (λ new. undefined)
      (λ new after gives a.
      (let word = word_target s.memory new (changes.typed s.memory vo vb new ho hb gives) in
      result_after x t t (λ y. k == y) (λ y. false) code.ops m.ops code.end m.end l a.local w w a.leads (λ y lt nf. (lt, refl, a.kept y (omega (arith, lt, le_b)) nf)) (others_refl w.memory) g (Name k) (Gives new (record s { memory = after }))
      (leaf_done x g (Name k) t (λ y. false) new (record s { memory = after }) a.local w a.fits a.same word))) (next s.memory vo vb) refl

  -- `++x` and `--x`
  pub stepped_new : (t : ℕ) (g : Goal) (s : State) (l : Local) (w : World) → size_in x ≤ t → Sound x.program x.begun s → Fits x None s l w → HasBy one
      → Result x g (Name k) t (λ y. k == y) (renewed_scalar c k (Name k) (one_at t) g).ops (renewed_scalar c k (Name k) (one_at t) g).end l w
      (on_both (left_side_read (designate calls (depth_in x) (Named (object.Automatic v) of) s)) (λ p old u. replace_if (next u.memory old one) New p old u))
  stepped_new t g s l w size sound f one_is =
      let code = renewed_scalar c k (Name k) (one_at t) g in
      located_cases x apart v k named_by calls of s l w sound f (λ r. Result x g (Name k) t (λ y. k == y) code.ops code.end l w (on_both r (λ p old u. replace_if (next u.memory old one) New p old u)))
      (ended_result x g (Name k) t (λ y. k == y) code.ops code.end l w ending.Undefined s (stuck_now x None code.ops code.end s l w f))
      (λ n u o same is.
      subst (Result x g (Name k) t (λ y. k == y) code.ops code.end l w) (replaced_new (next s.memory u one) (source.Pointer n 0) u s)
      (new_done g t t t (Name k) (Constant 1) n s l w u one size (omega arith) (omega arith) (below_scalar t size) sound f o (holds_target s n o u sound is) one_is same refl))

  -- the old value is used, which stands in an operand
  old_done : (g : Goal) (a : Operand) (m n2 : Made) (t b : ℕ) (other : Option ℕ) (before_it : Value) (n : ℕ) (s : State) (l : Local) (w : World) (vo : source-value.Value) (f : ℕ → Bool) → size_in x ≤ b → k < b → is_want other k ≡ false → Sound x.program x.begun s → Fits x None s (restored other before_it l) w
      → ScalarObject x v s.memory n → IsOf s.memory target vo → HasBy one → SameValue x.program s.memory w.memory vo (l.names k) → ((e : Evaluated) → Stuck x (changed c k b b (Name k) (Constant 1) (note k m)).ops (changed c k b b (Name k) (Constant 1) (note k m)).end l w ending.Undefined s
      → Result x g a t f (changed c k b b (Name k) (Constant 1) (note k m)).ops (changed c k b b (Name k) (Constant 1) (note k m)).end l w (Ends ending.Undefined s))
      → ((new : source-value.Value) (after : SourceMemory) → Anew x low apart v k named_by c target HasBy next changes b b b (Name k) (Constant 1) m other s l w new after
      → Result x g a t f (changed c k b b (Name k) (Constant 1) (note k m)).ops (changed c k b b (Name k) (Constant 1) (note k m)).end l w (Gives vo (record s { memory = after })))
      → Result x g a t f (changed c k b b (Name k) (Constant 1) (note k m)).ops (changed c k b b (Name k) (Constant 1) (note k m)).end l w (replace_if (next s.memory vo one) Old (source.Pointer n 0) vo s)
  old_done g a m n2 t b other before_it n s l w vo f size lt apart_k sound fits o ho one_is same stuck go_on =
      let code = changed c k b b (Name k) (Constant 1) (note k m) in
      let undefined = stuck (Ends ending.Undefined s) (record { configuration = at x code.ops code.end l w; seen = w.seen; leads = stays; ends = fits.events }) in
      subst (Result x g a t f code.ops code.end l w) (replaced_old (next s.memory vo one) (source.Pointer n 0) vo s)
      (anew_cases x low apart v k named_by c target HasBy next changes b b b (Name k) (Constant 1) m other before_it n s l w vo one (omega arith) size (omega arith) size lt apart_k sound fits o ho one_is same refl (λ new q. with q (λ z u. Gives vo u))
      (λ r. Result x g a t f code.ops code.end l w r) undefined (λ new. undefined) (λ new after gives h. go_on new after h) (next s.memory vo one) refl)

  abbrev left_of : ℕ → ℕ → Made → Made
  left_of t b m = changed c k b b (Name k) (Constant 1) (note k m)

  -- the old value is kept in a name of its own, and used from there
  kept_old : (t : ℕ) (g : Goal) (n : ℕ) (s : State) (l : Local) (w : World) (vo : source-value.Value) → size_in x ≤ t → Sound x.program x.begun s → Fits x None s l w → ScalarObject x v s.memory n → IsOf s.memory target vo → HasBy one → SameValue x.program s.memory w.memory vo (l.names k)
      → Result x g (Name t) t (λ y. k == y) (Move t (Name k) ∷ (left_of t (t + 1) (leaf g (Name t))).ops) (left_of t (t + 1) (leaf g (Name t))).end l w (replace_if (next s.memory vo one) Old (source.Pointer n 0) vo s)
  kept_old t g n s l w vo size sound fits o ho one_is same =
      let m = leaf g (Name t) in
      let code = left_of t (t + 1) m in
      let l1 = set_name l t (l.names k) in
      let lt = below_scalar t size in
      let k_kept : l1.names k ≡ l.names k = put_elsewhere l.names t k (l.names k) (less_other k t lt) in
      let fits1 = fits_temporary x s l w t (l.names k) low fits size in
      result_after x t t (λ y. k == y) (λ y. k == y) (Move t (Name k) ∷ code.ops) code.ops code.end code.end l l1 w w (goes refl stays) (λ y less nf. (less, nf, put_elsewhere l.names t y (l.names k) (less_other y t less))) (others_refl w.memory) g (Name t)
      (replace_if (next s.memory vo one) Old (source.Pointer n 0) vo s)
      (old_done g (Name t) m m t (t + 1) None (Number 0) n s l1 w vo (λ y. k == y) (omega (arith, size)) (omega (arith, lt)) refl sound fits1 o ho one_is (subst (SameValue x.program s.memory w.memory vo) (sym k_kept) same)
      (λ e h. ended_result x g (Name t) t (λ y. k == y) code.ops code.end l1 w ending.Undefined s h)
      (λ new after a.
      (let there : a.local.names t ≡ l.names k = a.kept t (omega arith) (greater_other t k lt) ∙ put_here l.names t (l.names k) in
      result_after x t t (λ y. k == y) (λ y. false) code.ops m.ops code.end m.end l1 a.local w w a.leads (λ y less nf. (less, refl, a.kept y (omega (arith, less)) nf)) (others_refl w.memory) g (Name t) (Gives vo (record s { memory = after }))
      (leaf_done x g (Name t) t (λ y. false) vo (record s { memory = after }) a.local w a.fits
      (subst (SameValue x.program after w.memory vo) (sym there) (value_later x.program s.memory after w.memory w.memory a.later (others_refl w.memory) vo (l.names k) same)) (word_target s.memory vo ho)))))
    where
      greater_other : (t k : ℕ) → k < t → k == t ≡ false
      greater_other t k lt = grind (arith, nat_tests, lt)

  -- it is not used
  unused_old : (t : ℕ) (m : Made) (n : ℕ) (s : State) (l : Local) (w : World) (vo : source-value.Value) → size_in x ≤ t → Sound x.program x.begun s → Fits x None s l w → ScalarObject x v s.memory n → IsOf s.memory target vo → HasBy one → SameValue x.program s.memory w.memory vo (l.names k)
      → Result x (Unused m) (Name t) t (λ y. k == y) (left_of t t m).ops (left_of t t m).end l w (replace_if (next s.memory vo one) Old (source.Pointer n 0) vo s)
  unused_old t m n s l w vo size sound fits o ho one_is same =
      old_done (Unused m) (Name t) m m t t None (Number 0) n s l w vo (λ y. k == y) size (below_scalar t size) refl sound fits o ho one_is same (λ e h. h)
      (λ new after a. record { local = a.local; world = w; leads = a.leads; fits = a.fits; kept = λ y lt nw nf. a.kept y lt nf; later = others_refl w.memory })

  -- it stands in a name that wants it, while the scalar changes
  wanted_old : (t y : ℕ) (m : Made) (n : ℕ) (s : State) (l : Local) (w : World) (vo : source-value.Value) → y < t → y == k ≡ false → size_in x ≤ t → Sound x.program x.begun s → Fits x None s l w → ScalarObject x v s.memory n → IsOf s.memory target vo → HasBy one → SameValue x.program s.memory w.memory vo (l.names k)
      → Result x (To (Some y) m) (Name t) t (λ i. k == i) (Move y (Name k) ∷ (left_of t t m).ops) (left_of t t m).end l w (replace_if (next s.memory vo one) Old (source.Pointer n 0) vo s)
  wanted_old t y m n s l w vo older ne size sound fits o ho one_is same =
      let code = left_of t t m in
      let g = To (Some y) m in
      let l1 = set_name l y (l.names k) in
      let ne_k : k == y ≡ false = turned ne in
      let k_kept : l1.names k ≡ l.names k = put_elsewhere l.names y k (l.names k) ne_k in
      let fits1 = fits_agree x None None s l (restored (Some y) (l.names y) l1) w fits refl (λ z i is nw. (refl, put_back l.names y i (l.names k))) in
      result_behind x t t (λ i. k == i) (λ i. k == i) (Move y (Name k) ∷ code.ops) code.ops code.end code.end l l1 w w (goes refl stays) (others_refl w.memory) g (λ i less nw nf. (less, nf, put_elsewhere l.names y i (l.names k) nw)) (Name t)
      (replace_if (next s.memory vo one) Old (source.Pointer n 0) vo s)
      (old_done g (Name t) m m t t (Some y) (l.names y) n s l1 w vo (λ i. k == i) size (below_scalar t size) ne_k sound fits1 o ho one_is (subst (SameValue x.program s.memory w.memory vo) (sym k_kept) same) (λ e h. h)
      (λ new after a.
      (let there : a.local.names y ≡ l.names k = a.kept y older ne_k ∙ put_here l.names y (l.names k) in
      record {
        reached = record { local = a.local; world = w; leads = a.leads; fits = a.fits; kept = λ i lt nw nf. a.kept i lt nf; later = others_refl w.memory };
        same = subst (SameValue x.program after w.memory vo) (sym there) (value_later x.program s.memory after w.memory w.memory a.later (others_refl w.memory) vo (l.names k) same);
      })))
    where
      turned : y == k ≡ false → k == y ≡ false
      turned h = grind (arith, nat_tests)

  by_same : (t y : ℕ) (m : Made) (n : ℕ) (s : State) (l : Local) (w : World) (vo : source-value.Value) → y < t → size_in x ≤ t → Sound x.program x.begun s → Fits x None s l w → ScalarObject x v s.memory n → IsOf s.memory target vo → HasBy one → SameValue x.program s.memory w.memory vo (l.names k) → (b : Bool) → y == k ≡ b
      → Result x (To (Some y) m) (Name t) t (λ i. k == i) (if b then instruction_before (Move t (Name k)) (left_of t (if b then t + 1 else t) (if b then instruction_before (Move k (Name t)) m else m)) else instruction_before (Move y (Name k)) (left_of t (if b then t + 1 else t) (if b then instruction_before (Move k (Name t)) m else m))).ops
      (if b then instruction_before (Move t (Name k)) (left_of t (if b then t + 1 else t) (if b then instruction_before (Move k (Name t)) m else m)) else instruction_before (Move y (Name k)) (left_of t (if b then t + 1 else t) (if b then instruction_before (Move k (Name t)) m else m))).end l w (replace_if (next s.memory vo one) Old (source.Pointer n 0) vo s)
  by_same t y m n s l w vo older size sound fits o ho one_is same true e =
      let is_k : y ≡ k = eqb-true y k e in
      subst (λ i. Result x (To (Some i) m) (Name t) t (λ i. k == i) (Move t (Name k) ∷ (left_of t (t + 1) (instruction_before (Move k (Name t)) m)).ops) (left_of t (t + 1) (instruction_before (Move k (Name t)) m)).end l w (replace_if (next s.memory vo one) Old (source.Pointer n 0) vo s)) (sym is_k)
      (kept_old t (To (Some k) m) n s l w vo size sound fits o ho one_is same)
  by_same t y m n s l w vo older size sound fits o ho one_is same false e = wanted_old t y m n s l w vo older e size sound fits o ho one_is same

  lefts : (g : Goal) (t : ℕ) (n : ℕ) (s : State) (l : Local) (w : World) (vo : source-value.Value) → size_in x ≤ t → Older g t → Sound x.program x.begun s → Fits x None s l w → ScalarObject x v s.memory n → IsOf s.memory target vo → HasBy one → SameValue x.program s.memory w.memory vo (l.names k)
      → Result x g (Name t) t (λ y. k == y) (left_scalar c k t g).ops (left_scalar c k t g).end l w (replace_if (next s.memory vo one) Old (source.Pointer n 0) vo s)
  lefts (To None m) t n s l w vo size older sound fits o ho one_is same = kept_old t (To None m) n s l w vo size sound fits o ho one_is same
  lefts (To (Some y) m) t n s l w vo size older sound fits o ho one_is same = by_same t y m n s l w vo older size sound fits o ho one_is same (y == k) refl
  lefts (Unused m) t n s l w vo size older sound fits o ho one_is same = unused_old t m n s l w vo size sound fits o ho one_is same
  lefts (Either one other inner) t n s l w vo size older sound fits o ho one_is same = kept_old t (Either one other inner) n s l w vo size sound fits o ho one_is same

  -- `x++` and `x--`
  pub stepped_old : (t : ℕ) (g : Goal) (s : State) (l : Local) (w : World) → size_in x ≤ t → Older g t → Sound x.program x.begun s → Fits x None s l w → HasBy one
      → Result x g (Name t) t (λ y. k == y) (left_scalar c k t g).ops (left_scalar c k t g).end l w
      (on_both (left_side_read (designate calls (depth_in x) (Named (object.Automatic v) of) s)) (λ p old u. replace_if (next u.memory old one) Old p old u))
  stepped_old t g s l w size older sound f one_is =
      let code = left_scalar c k t g in
      located_cases x apart v k named_by calls of s l w sound f (λ r. Result x g (Name t) t (λ y. k == y) code.ops code.end l w (on_both r (λ p old u. replace_if (next u.memory old one) Old p old u)))
      (ended_result x g (Name t) t (λ y. k == y) code.ops code.end l w ending.Undefined s (stuck_now x None code.ops code.end s l w f))
      (λ n u o same is. lefts g t n s l w u size older sound f o (holds_target s n o u sound is) one_is same)

  -- `x op= e`
  module _ (e : RvalueTree) (typed_e : Typed x calls e) (low_e : Low x e) (spares_e : Spares x e) (does_e : Does x calls e) (by_is : (memory : SourceMemory) (u : source-value.Value) → HasKind memory (kind_of x.program x.tree e) u → HasBy u) where
    abbrev moved_by_e : Bool
    moved_by_e = writes (names_in x) k e

    abbrev from_of : ℕ → ℕ
    from_of t = behind_move moved_by_e t

    abbrev old_of : ℕ → Operand
    old_of t = held moved_by_e (Name k) t

    abbrev by_of : ℕ → Laid
    by_of t = laid (names_in x) e Anywhere (from_of t)

    abbrev last_of : ℕ → Goal → Made
    last_of t g = renewed_scalar c k (old_of t) (by_of t) g

    abbrev right_of : ℕ → Goal → Made
    right_of t g = code_in x e (from_of t) (To None (last_of t g))

    abbrev whole_of : ℕ → Goal → Made
    whole_of t g = move_if moved_by_e t (Name k) (right_of t g)

    pub updated_scalar : (t : ℕ) (g : Goal) (s : State) (l : Local) (w : World) → size_in x ≤ t → Stands x.graph x.top (whole_of t g).inner → Sound x.program x.begun s → Fits x None s l w
        → Result x g (Name k) t (λ y. k == y || false || writes (names_in x) y e) (whole_of t g).ops (whole_of t g).end l w
        (on_both (left_side_read (designate calls (depth_in x) (Named (object.Automatic v) of) s)) (λ p old u. with (evaluate calls (depth_in x) e u) (λ b z. store_if (next z.memory old b) p z)))
    updated_scalar t g s l w size st sound f =
        let code = whole_of t g in
        located_cases x apart v k named_by calls of s l w sound f (λ r. Result x g (Name k) t written code.ops code.end l w (on_both r (λ p old u. with (evaluate calls (depth_in x) e u) (λ b z. store_if (next z.memory old b) p z))))
        (ended_result x g (Name k) t written code.ops code.end l w ending.Undefined s (stuck_now x None code.ops code.end s l w f))
        (λ n vo o same is. evaluates n vo o same (holds_target s n o vo sound is))
      where
        written : ℕ → Bool
        written y = k == y || false || writes (names_in x) y e

        split : (y : ℕ) → written y ≡ false → (writes (names_in x) y e ≡ false) × (k == y ≡ false)
        split y nf = let a = or_false (k == y || false) (writes (names_in x) y e) nf in (a.1, (or_false (k == y) false a.0).0)

        evaluates : (n : ℕ) (vo : source-value.Value) → ScalarObject x v s.memory n → SameValue x.program s.memory w.memory vo (l.names k) → IsOf s.memory target vo
            → Result x g (Name k) t written (whole_of t g).ops (whole_of t g).end l w (with (evaluate calls (depth_in x) e s) (λ b z. store_if (next z.memory vo b) (source.Pointer n 0) z))
        evaluates n vo o same ho =
            let m = right_of t g in
            let up = behind_le moved_by_e t in
            let lt = below_scalar t size in
            let h = hold_done x moved_by_e (Name k) t m s l w low size f in
            let inner = subst (Stands x.graph x.top) (hold_inner moved_by_e t (Name k) m) st in
            result_after x t t written written (whole_of t g).ops m.ops (whole_of t g).end m.end l h.local w w h.leads (λ y less nf. (less, nf, h.kept y less)) (others_refl w.memory) g (Name k) (with (evaluate calls (depth_in x) e s) (λ b z. store_if (next z.memory vo b) (source.Pointer n 0) z))
            (with_then x None g (last_of t g) (Name k) (value_in x e (from_of t)) t (from_of t) t written (written_by x e) (λ y. k == y) m.ops m.end h.local w (evaluate calls (depth_in x) e s) (λ b z. store_if (next z.memory vo b) (source.Pointer n 0) z) up (omega arith)
            (λ y less nf. (let a = split y nf in (refl, a.0, a.1))) (does_e (from_of t) (To None (last_of t g)) s h.local w (omega (arith, size, up)) inner sound h.fits tt)
            (λ b s2 is2 h2.
            (let gave = gave_by x.program x.begun s.memory (kind_of x.program x.tree e) (evaluate calls (depth_in x) e s) b s2 is2 (typed_e s sound) in
            let old_same : value x.unit.statics h2.reached.local.names (old_of t) ≡ l.names k =
            held_stays x.unit.statics (λ y. writes (names_in x) y e) (Name k) moved_by_e t h.local h2.reached.local refl lt (spares_e t size) (λ y less nf. h2.reached.kept y less refl nf) ∙ h.value_is in
            let next_le = (low_e (from_of t) (omega (arith, size, up))).next in
            subst (Result x g (Name k) t (λ y. k == y) (last_of t g).ops (last_of t g).end h2.reached.local h2.reached.world) (stored_new (next s2.memory vo b) (source.Pointer n 0) s2)
            (new_done g t t (by_of t).next (old_of t) (by_of t).value n s2 h2.reached.local h2.reached.world vo b size (omega arith) (omega (arith, up, next_le))
            (below_later (from_of t) (by_of t).next (old_of t) next_le (held_below moved_by_e (Name k) t lt)) gave.sound h2.reached.fits (scalar_later x v s.memory s2.memory n gave.later o) (of_later s.memory s2.memory gave.later target vo ho) (by_is s2.memory b gave.is)
            (subst (SameValue x.program s2.memory h2.reached.world.memory vo) (sym old_same) (value_later x.program s.memory s2.memory w.memory h2.reached.world.memory gave.later h2.reached.later vo (l.names k) same)) h2.same))))
