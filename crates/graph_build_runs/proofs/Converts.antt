-- Conversions: by no instruction where a word stays, and else by a truncation.
use Rattle.std.proofs.Common.{◌≡◌, ◌≢◌, ℕ, ◌+◌, ◌<◌, ◌≤◌, List, [], ◌∷◌, Option, Some, None, Bool, true, false, not, ◌||◌, refl, sym, ap, ◌∙◌, subst, arith, ℤ, pos}
use Rattle.std.specs.Prelude.{◌==◌, if◌then◌else◌}
use Rattle.std.proofs.lemmas.Bool.{eqb-true}
use Rattle.word_base.specs.Types.{holds}
use Rattle.c_tree.specs.declared.types.IntegerType.{IntegerType}
use Rattle.c_tree.specs.declared.object_type.ValueType.TheVariants.{Integer}
use Rattle.c_tree.specs.TypedExpressions.{RvalueTree, Convert}
use Rattle.c_type_rules.specs.Integers.{integer, wrapped}
use Rattle.c_type_rules.specs.ValueTypes.{type_of, integer_in}
use Rattle.c_type_laws.specs.Kind.{Kind, Of}
use Rattle.c_type_laws.specs.Expressions.{kind_of}
use Rattle.c_meaning_values.specs.declared.value.Value as source-value
use Rattle.c_meaning_values.specs.declared.value.Value.TheVariants as source
use Rattle.c_meaning_steps.specs.declared.event.Ending.TheVariants as ending
use Rattle.c_meaning_values.specs.Memory.{Memory}
use Rattle.c_meaning_values.specs.Operations.{convert}
use Rattle.c_meaning_steps.specs.States.{State, Evaluated, Gives, Leaves, Ends, value_or_undefined, mapped, condition_tested}
use Rattle.c_meaning.specs.Expressions.{Calls, evaluate}
use Rattle.graph_core.specs.declared.value.Value.{Value}
use Rattle.graph_core.specs.declared.value.Value.TheVariants.{Number}
use Rattle.graph_core.specs.Graphs as unit
use Rattle.graph_core.specs.Graphs.{Operand, Name, Truncate, Instruction, End}
use Rattle.graph_core.specs.Runs.{Goes, step, value}
use Rattle.graph_core.specs.Values.{truncate}
use Rattle.graph_build_names.specs.Conversions.{unsigned_bits, is_narrow, is_within, keeps_bits, is_kept_constant}
use Rattle.graph_build_layout.specs.declared.laid.Use.TheVariants.{Anywhere}
use Rattle.graph_build_names.specs.Names.{pick}
use Rattle.graph_build_layout.specs.Laid.{Laid, as_value, converted_laid, standing, operation_laid}
use Rattle.graph_build_layout.specs.Layout.{laid}
use Rattle.graph_build_steps.specs.Rules.{truncation_to}
use Rattle.graph_build_steps.specs.Drafts.{Made, Goal, To, Unused, Either, instruction_before, leaf, target, follow, valued, operated, tested as tested_code}
use Rattle.graph_build_runs.specs.Correspondence.{SameValue}
use Rattle.graph_build_runs.proofs.Words.{InWord, in_word}
use Rattle.graph_build_runs.proofs.Converting.{kept_word, truncated_word, converted_word}
use Rattle.graph_build_runs.proofs.Leads.{Setting, names_in, size_in, depth_in, Local, World, set_name, at, stays, goes, put_elsewhere, less_other}
use Rattle.graph_build_runs.proofs.Later.{others_refl}
use Rattle.graph_build_runs.proofs.Kept.{Sound, Fits, ScalarsFirst, fits_temporary, fits_wanted}
use Rattle.graph_build_runs.proofs.Results.{Reached, to_made, Stuck, Valued, ToR, UnusedR, Result, stuck_now, ended_result, result_after}
use Rattle.graph_build_runs.proofs.Leaves.{Writes, leaf_done, operated_done, left_stuck}
use Rattle.graph_build_runs.proofs.Sequences.{left_done}
use Rattle.graph_build_runs.proofs.Typing.{HasKind, Keeps, Typed}
use Rattle.graph_build_runs.proofs.Standing.{Stands}
use Rattle.graph_build_runs.proofs.Operands.{Does, Low, Aims, code_in, value_in, written_by}
use Rattle.graph_build_runs.proofs.Arithmetic.{pick_between}

-- an instruction writes a name, and there is no value
pub left_operated : (x : Setting) (g : Goal) (own t : ℕ) (f : ℕ → Bool) (i : ℕ → Instruction) (given_word : Value) (a : Operand) (s : State) (l : Local) (w : World) → ScalarsFirst x → t ≤ own → size_in x ≤ own → Fits x None s l w → Writes x i given_word l w
    → Result x g a t f (instruction_before (i (target g own)) (follow g own)).ops (instruction_before (i (target g own)) (follow g own)).end l w (Leaves s)
left_operated x (To None m) own t f i given_word a s l w low le size fits writes =
    record { local = set_name l own given_word; world = w; leads = goes (writes own m.ops m.end) stays; fits = fits_temporary x s l w own given_word low fits size; kept = λ y lt nw nf. put_elsewhere l.names own y given_word (less_other y own (omega (arith, lt, le))); later = others_refl w.memory }
left_operated x (To (Some k) m) own t f i given_word a s l w low le size fits writes =
    record { local = set_name l k given_word; world = w; leads = goes (writes k m.ops m.end) stays; fits = fits_wanted x s l w k given_word fits; kept = λ y lt nw nf. put_elsewhere l.names k y given_word nw; later = others_refl w.memory }
left_operated x (Unused m) own t f i given_word a s l w low le size fits writes =
    record { local = set_name l own given_word; world = w; leads = goes (writes own m.ops m.end) stays; fits = fits_temporary x s l w own given_word low fits size; kept = λ y lt nw nf. put_elsewhere l.names own y given_word (less_other y own (omega (arith, lt, le))); later = others_refl w.memory }
left_operated x (Either one other inner) own t f i given_word a s l w low le size fits writes =
    stuck_now x None (instruction_before (i own) (follow (Either one other inner) own)).ops (instruction_before (i own) (follow (Either one other inner) own)).end s l w fits

-- The value of an expression, if it has one, becomes another.
pub mapped_then : (x : Setting) (g : Goal) (m : Made) (a a1 : Operand) (t : ℕ) (f : ℕ → Bool) (ops : List Instruction) (end : End) (l : Local) (w : World) (r : Evaluated) (change : source-value.Value → Option source-value.Value) → ToR x None m a1 t f ops end l w r
    → ((v : source-value.Value) (s : State) → r ≡ Gives v s → (h : Valued x None m a1 t f ops end l w v s) → Result x g a t f m.ops m.end h.reached.local h.reached.world (value_or_undefined (change v) s))
    → ((s : State) → (h : Reached x None t f l w (to_made x ops end l w m) s) → Result x g a t f m.ops m.end h.local h.world (Leaves s)) → Result x g a t f ops end l w (mapped r change)
mapped_then x g m a a1 t f ops end l w (Gives v s) change h go_on left =
    result_after x t t f f ops m.ops end m.end l h.reached.local w h.reached.world h.reached.leads (λ y lt nf. (lt, nf, h.reached.kept y lt refl nf)) h.reached.later g a (value_or_undefined (change v) s) (go_on v s refl h)
mapped_then x g m a a1 t f ops end l w (Leaves s) change h go_on left =
    result_after x t t f f ops m.ops end m.end l h.local w h.world h.leads (λ y lt nf. (lt, nf, h.kept y lt refl nf)) h.later g a (Leaves s) (left s h)
mapped_then x g m a a1 t f ops end l w (Ends e s) change h go_on left = ended_result x g a t f ops end l w e s h

module _ (x : Setting) (calls : Calls) (low : ScalarsFirst x) (from ty : IntegerType) (e : RvalueTree) (kind_e : kind_of x.program x.tree e ≡ Of (Integer from)) (type_e : integer_in (type_of (names_in x).results e) ≡ from) (fits_ty : (z : ℤ) → holds (integer ty) (wrapped ty z) ≡ true)
    (typed_e : Typed x calls e) (low_e : Low x e) (does_e : Does x calls e) where
  in_ty : (z : ℤ) → InWord (wrapped ty z)
  in_ty z = in_word ty (wrapped ty z) (fits_ty z)

  -- a conversion that keeps the word
  module _ (keeps : keeps_bits from ty ≡ true) (t : ℕ) (f : ℕ → Bool) (ops : List Instruction) (end : End) (l : Local) (w : World) where
    kept_to : (want : Option ℕ) (m : Made) (a : Operand) (before_memory : Memory) (r : Evaluated) → Keeps x.program x.begun before_memory (Of (Integer from)) r → ToR x want m a t f ops end l w r → ToR x want m a t f ops end l w (mapped r (convert ty))
    kept_to want m a before_memory (Gives (source.Number z) s) k h = record { reached = h.reached; same = h.same ∙ ap Number (sym (kept_word from ty z keeps k.is)) }
    kept_to want m a before_memory (Gives source.Null s) k h = absurd k.is
    kept_to want m a before_memory (Gives (source.Pointer n o) s) k h = absurd k.is
    kept_to want m a before_memory (Leaves s) k h = h
    kept_to want m a before_memory (Ends c s) k h = h

    kept_unused : (m : Made) (before_memory : Memory) (r : Evaluated) → Keeps x.program x.begun before_memory (Of (Integer from)) r → UnusedR x m t f ops end l w r → UnusedR x m t f ops end l w (mapped r (convert ty))
    kept_unused m before_memory (Gives (source.Number z) s) k h = h
    kept_unused m before_memory (Gives source.Null s) k h = absurd k.is
    kept_unused m before_memory (Gives (source.Pointer n o) s) k h = absurd k.is
    kept_unused m before_memory (Leaves s) k h = h
    kept_unused m before_memory (Ends c s) k h = h

  -- a value of a number that is converted, in its place
  converts_number : (g : Goal) (a : Operand) (t : ℕ) (f : ℕ → Bool) (m : Made) (s : State) (l : Local) (w : World) → ((z : ℤ) → holds (integer from) z ≡ true → value x.unit.statics l.names (value_in x e t) ≡ Number (unsigned_bits z) → Result x g a t f m.ops m.end l w (Gives (source.Number (wrapped ty z)) s))
      → (v : source-value.Value) → HasKind s.memory (Of (Integer from)) v → SameValue x.program s.memory w.memory v (value x.unit.statics l.names (value_in x e t)) → Result x g a t f m.ops m.end l w (value_or_undefined (convert ty v) s)
  converts_number g a t f m s l w go_on (source.Number z) is same = go_on z is same
  converts_number g a t f m s l w go_on source.Null is same = absurd is
  converts_number g a t f m s l w go_on (source.Pointer n o) is same = absurd is

  kind_here : (s s1 : State) (v : source-value.Value) → Sound x.program x.begun s → evaluate calls (depth_in x) e s ≡ Gives v s1 → HasKind s1.memory (Of (Integer from)) v
  kind_here s s1 v sound is = let gave = subst (Keeps x.program x.begun s.memory (kind_of x.program x.tree e)) is (typed_e s sound) in subst (λ k. HasKind s1.memory k v) kind_e gave.is

  keeps_here : (s : State) → Sound x.program x.begun s → Keeps x.program x.begun s.memory (Of (Integer from)) (evaluate calls (depth_in x) e s)
  keeps_here s sound = subst (λ k. Keeps x.program x.begun s.memory k (evaluate calls (depth_in x) e s)) kind_e (typed_e s sound)

  kept_does : keeps_bits from ty ≡ true → (t : ℕ) (g : Goal) (s : State) (l : Local) (w : World) → size_in x ≤ t → Stands x.graph x.top (code_in x e t (valued g (value_in x e t))).inner → Sound x.program x.begun s → Fits x None s l w → Aims x g e t
      → Result x g (value_in x e t) t (written_by x e) (code_in x e t (valued g (value_in x e t))).ops (code_in x e t (valued g (value_in x e t))).end l w (mapped (evaluate calls (depth_in x) e s) (convert ty))
  kept_does keeps t (To want m) s l w size st sound fits aims =
      let c = code_in x e t (To want m) in
      kept_to keeps t (written_by x e) c.ops c.end l w want m (value_in x e t) s.memory (evaluate calls (depth_in x) e s) (keeps_here s sound) (does_e t (To want m) s l w size st sound fits aims)
  kept_does keeps t (Unused m) s l w size st sound fits aims =
      let c = code_in x e t (Unused m) in
      kept_unused keeps t (written_by x e) c.ops c.end l w m s.memory (evaluate calls (depth_in x) e s) (keeps_here s sound) (does_e t (Unused m) s l w size st sound fits aims)
  kept_does keeps t (Either one other inner) s l w size st sound fits aims =
      let m = leaf (Either one other inner) (value_in x e t) in
      let c = code_in x e t (To None m) in
      mapped_then x (Either one other inner) m (value_in x e t) (value_in x e t) t (written_by x e) c.ops c.end l w (evaluate calls (depth_in x) e s) (convert ty) (does_e t (To None m) s l w size st sound fits tt)
      (λ v s1 is h. converts_number (Either one other inner) (value_in x e t) t (written_by x e) m s1 h.reached.local h.reached.world
      (λ z hz same. leaf_done x (Either one other inner) (value_in x e t) t (written_by x e) (source.Number (wrapped ty z)) s1 h.reached.local h.reached.world h.reached.fits (same ∙ ap Number (sym (kept_word from ty z keeps hz))) (in_ty z))
      v (kind_here s s1 v sound is) h.same)
      (λ s1 h. left_done x (Either one other inner) (value_in x e t) (value_in x e t) t (written_by x e) s1 h.local h.world h.fits)

  -- what follows a conversion that changes words
  abbrev last_by : ℕ → Goal → Bool → Made
  last_by t g b = if b then leaf g (value_in x e t) else operated (names_in x) g t (laid (names_in x) e Anywhere t).next (λ k. Truncate k (truncation_to ty) (value_in x e t))

  abbrev stands_by : ℕ → Bool → Operand
  stands_by t b = if b then value_in x e t else Name (pick (names_in x) t (laid (names_in x) e Anywhere t).next)

  -- a constant whose word stays
  constant_stays : (a : Operand) (z : ℤ) (l : Local) → is_kept_constant ty a ≡ true → value x.unit.statics l.names a ≡ Number (unsigned_bits z) → value x.unit.statics l.names a ≡ Number (unsigned_bits (wrapped ty z))
  constant_stays (unit.Constant k) z l is same =
      let word : k ≡ unsigned_bits z = cc in
      let kept = eqb-true (unsigned_bits (wrapped ty (pos k))) k is in
      ap Number (sym kept ∙ ap (λ j. unsigned_bits (wrapped ty (pos j))) word ∙ ap unsigned_bits (sym (converted_word ty z)))
  constant_stays (Name y) z l is same = cc
  constant_stays (unit.StaticAddress o k) z l is same = cc

  changes : is_narrow ty ≡ true → (t : ℕ) (g : Goal) (s : State) (l : Local) (w : World) → size_in x ≤ t → Fits x None s l w → (z : ℤ) → value x.unit.statics l.names (value_in x e t) ≡ Number (unsigned_bits z) → (b : Bool) → is_kept_constant ty (value_in x e t) ≡ b
      → Result x g (stands_by t b) t (written_by x e) (last_by t g b).ops (last_by t g b).end l w (Gives (source.Number (wrapped ty z)) s)
  changes narrow t g s l w size fits z same true is = leaf_done x g (value_in x e t) t (written_by x e) (source.Number (wrapped ty z)) s l w fits (constant_stays (value_in x e t) z l is same) (in_ty z)
  changes narrow t g s l w size fits z same false is =
      let le = pick_between (names_in x) t (laid (names_in x) e Anywhere t).next t (omega arith) (low_e t size).next in
      operated_done x g (pick (names_in x) t (laid (names_in x) e Anywhere t).next) t (written_by x e) (λ k. Truncate k (truncation_to ty) (value_in x e t)) (source.Number (wrapped ty z)) (truncate (truncation_to ty) (value x.unit.statics l.names (value_in x e t))) s l w low le
      (omega (arith, le, size)) fits (λ k ops end. refl) (ap (truncate (truncation_to ty)) same ∙ ap Number (truncated_word ty z narrow)) (in_ty z)

  left_changes : (t : ℕ) (g : Goal) (s : State) (l : Local) (w : World) → size_in x ≤ t → Fits x None s l w → (b : Bool) → Result x g (stands_by t b) t (written_by x e) (last_by t g b).ops (last_by t g b).end l w (Leaves s)
  left_changes t g s l w size fits true = left_done x g (value_in x e t) (value_in x e t) t (written_by x e) s l w fits
  left_changes t g s l w size fits false =
      let own = pick (names_in x) t (laid (names_in x) e Anywhere t).next in
      let le = pick_between (names_in x) t (laid (names_in x) e Anywhere t).next t (omega arith) (low_e t size).next in
      left_operated x g own t (written_by x e) (λ k. Truncate k (truncation_to ty) (value_in x e t)) (truncate (truncation_to ty) (value x.unit.statics l.names (value_in x e t))) (Name own) s l w low le (omega (arith, le, size)) fits (λ k ops end. refl)

  changed_does : is_narrow ty ≡ true → (t : ℕ) (g : Goal) (s : State) (l : Local) (w : World) → size_in x ≤ t → (b : Bool) → is_kept_constant ty (value_in x e t) ≡ b → Stands x.graph x.top (code_in x e t (To None (last_by t g b))).inner → Sound x.program x.begun s → Fits x None s l w
      → Result x g (stands_by t b) t (written_by x e) (code_in x e t (To None (last_by t g b))).ops (code_in x e t (To None (last_by t g b))).end l w (mapped (evaluate calls (depth_in x) e s) (convert ty))
  changed_does narrow t g s l w size b is st sound fits =
      let m = last_by t g b in
      let c = code_in x e t (To None m) in
      mapped_then x g m (stands_by t b) (value_in x e t) t (written_by x e) c.ops c.end l w (evaluate calls (depth_in x) e s) (convert ty) (does_e t (To None m) s l w size st sound fits tt)
      (λ v s1 gives h. converts_number g (stands_by t b) t (written_by x e) m s1 h.reached.local h.reached.world
      (λ z hz same. changes narrow t g s1 h.reached.local h.reached.world size h.reached.fits z same b is) v (kind_here s s1 v sound gives) h.same)
      (λ s1 h. left_changes t g s1 h.local h.world size h.fits b)

  -- the code and the place of a value, by whether bits are kept
  abbrev code_by : ℕ → Goal → Bool → Made
  code_by t g b = if b then code_in x e t (valued g (value_in x e t)) else code_in x e t (To None (last_by t g (is_kept_constant ty (value_in x e t))))

  abbrev laid_by : ℕ → Bool → Laid
  laid_by t b = if b then laid (names_in x) e (as_value Anywhere) t else converted_laid (names_in x) Anywhere ty t (laid (names_in x) e Anywhere t)

  narrow_by : keeps_bits from ty ≡ false → is_narrow ty ≡ true
  narrow_by h = go (is_narrow ty) refl h
    where
      go : (b : Bool) → is_narrow ty ≡ b → not b || is_within from ty ≡ false → is_narrow ty ≡ true
      go true e h = e
      go false e h = cc

  place_is : (t : ℕ) (b : Bool) → (if b then standing (names_in x) Anywhere t (laid (names_in x) e Anywhere t) else operation_laid (names_in x) Anywhere t (laid (names_in x) e Anywhere t).next (laid (names_in x) e Anywhere t).top).value ≡ stands_by t b
  place_is t true = refl
  place_is t false = refl

  by_bits : (t : ℕ) (g : Goal) (s : State) (l : Local) (w : World) → size_in x ≤ t → (b : Bool) → keeps_bits from ty ≡ b → Stands x.graph x.top (code_by t g b).inner → Sound x.program x.begun s → Fits x None s l w → Aims x g e t
      → Result x g (laid_by t b).value t (written_by x e) (code_by t g b).ops (code_by t g b).end l w (mapped (evaluate calls (depth_in x) e s) (convert ty))
  by_bits t g s l w size true is st sound fits aims = kept_does is t g s l w size st sound fits aims
  by_bits t g s l w size false is st sound fits aims =
      let kept = is_kept_constant ty (value_in x e t) in
      let c = code_in x e t (To None (last_by t g kept)) in
      subst (λ a. Result x g a t (written_by x e) c.ops c.end l w (mapped (evaluate calls (depth_in x) e s) (convert ty))) (sym (place_is t kept)) (changed_does (narrow_by is) t g s l w size kept refl st sound fits)

  pub convert_does : Does x calls (Convert ty e)
  convert_does t g s l w size st sound fits aims =
      by_bits t g s l w size (keeps_bits (integer_in (type_of (names_in x).results e)) ty) (ap (λ q. keeps_bits q ty) (sym type_e)) st sound fits (aims_of g aims)
    where
      aims_of : (g : Goal) → Aims x g (Convert ty e) t → Aims x g e t
      aims_of (To None m) aims = aims
      aims_of (To (Some k) m) aims = aims
      aims_of (Unused m) aims = aims
      aims_of (Either one other inner) aims = aims
