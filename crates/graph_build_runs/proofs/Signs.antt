-- A sign before a number: `+` leaves its word, and `-` subtracts it from 0.
use Rattle.std.proofs.Common.{◌≡◌, ℕ, ◌+◌, ◌-◌, ◌<◌, ◌≤◌, List, [], ◌∷◌, Option, Some, None, Bool, true, false, refl, sym, ap, ◌∙◌, subst, arith, ℤ, pos, ◌-ℤ◌}
use Rattle.std.specs.Prelude.{if◌then◌else◌, option_map}
use Rattle.word_base.specs.Types.{holds}
use Rattle.word_base.specs.Operations.{negation}
use Rattle.word_base.specs.WordOperations.{word_operation as operated_words}
use Rattle.word_base.specs.declared.operation.Operation.TheVariants as operation
use Rattle.c_tree.specs.declared.types.IntegerType.{IntegerType}
use Rattle.c_tree.specs.declared.types.IntegerType.TheVariants.{Char, SignedChar, UnsignedChar, Short, UnsignedShort, Int, UnsignedInt, Long, UnsignedLong}
use Rattle.c_tree.specs.declared.object_type.ValueType.TheVariants.{Integer}
use Rattle.c_tree.specs.declared.typed_expression.Sign.TheVariants.{Plus, Minus}
use Rattle.c_tree.specs.TypedExpressions.{RvalueTree, Signed}
use Rattle.c_type_rules.specs.Integers.{integer}
use Rattle.c_type_laws.specs.Kind.{Of}
use Rattle.c_type_laws.specs.Expressions.{kind_of}
use Rattle.c_type_laws.specs.Kinds.{is_promoted}
use Rattle.c_meaning_values.specs.declared.value.Value as source-value
use Rattle.c_meaning_values.specs.declared.value.Value.TheVariants as source
use Rattle.c_meaning_steps.specs.declared.event.Ending.TheVariants as ending
use Rattle.c_meaning_values.specs.Memory.{Memory}
use Rattle.c_meaning_values.specs.Operations.{value_with_sign}
use Rattle.c_meaning_steps.specs.States.{State, Evaluated, Gives, Leaves, Ends, value_or_undefined, with}
use Rattle.c_meaning.specs.Expressions.{Calls, evaluate}
use Rattle.graph_core.specs.declared.value.Value.{Value}
use Rattle.graph_core.specs.declared.value.Value.TheVariants.{Number}
use Rattle.graph_core.specs.Graphs as unit
use Rattle.graph_core.specs.Graphs.{Operand, Name, Operate, Instruction, End}
use Rattle.graph_core.specs.Runs.{value}
use Rattle.graph_core.specs.Values.{operate}
use Rattle.graph_build_names.specs.Conversions.{unsigned_bits}
use Rattle.graph_build_layout.specs.declared.laid.Use.TheVariants.{Anywhere}
use Rattle.graph_build_names.specs.Names.{pick}
use Rattle.graph_build_layout.specs.Layout.{laid}
use Rattle.graph_build_steps.specs.Drafts.{Made, Goal, To, Unused, Either, leaf, valued, operated}
use Rattle.graph_build_runs.specs.Correspondence.{SameValue}
use Rattle.graph_build_runs.proofs.Words.{InWord, word_difference, kept_word_int, kept_word_unsigned, kept_in_int, kept_in_unsigned}
use Rattle.graph_build_runs.proofs.Leads.{Setting, names_in, size_in, depth_in, Local, World}
use Rattle.graph_build_runs.proofs.Kept.{Sound, Fits, ScalarsFirst}
use Rattle.graph_build_runs.proofs.Results.{ToR, UnusedR, Result, stuck_now, ended_result}
use Rattle.graph_build_runs.proofs.Leaves.{leaf_done, operated_done, left_stuck, with_then}
use Rattle.graph_build_runs.proofs.Typing.{HasKind, Keeps, Typed, kind_word}
use Rattle.graph_build_runs.proofs.Standing.{Stands}
use Rattle.graph_build_runs.proofs.Operands.{Does, Low, Aims, code_in, value_in, written_by}
use Rattle.graph_build_runs.proofs.Arithmetic.{pick_between}

-- what `-` makes of a word
minus_computes : (t : IntegerType) → is_promoted t ≡ true → (a z : ℤ) → negation (integer t) a ≡ Some z → (operated_words operation.Sub 0 (unsigned_bits a) ≡ unsigned_bits z) × InWord z
unfolding operated_words
minus_computes Char p a z h = cc
minus_computes SignedChar p a z h = cc
minus_computes UnsignedChar p a z h = cc
minus_computes Short p a z h = cc
minus_computes UnsignedShort p a z h = cc
minus_computes Int p a z h = (word_difference (pos 0) a (pos 0 -ℤ a) refl ∙ kept_word_int (pos 0 -ℤ a) z h, kept_in_int (pos 0 -ℤ a) z h)
minus_computes UnsignedInt p a z h = (word_difference (pos 0) a (pos 0 -ℤ a) refl ∙ kept_word_unsigned (pos 0 -ℤ a) z h, kept_in_unsigned (pos 0 -ℤ a) z h)
minus_computes Long p a z h = (word_difference (pos 0) a (pos 0 -ℤ a) refl ∙ kept_word_int (pos 0 -ℤ a) z h, kept_in_int (pos 0 -ℤ a) z h)
minus_computes UnsignedLong p a z h = (word_difference (pos 0) a (pos 0 -ℤ a) refl ∙ kept_word_unsigned (pos 0 -ℤ a) z h, kept_in_unsigned (pos 0 -ℤ a) z h)

module _ (x : Setting) (calls : Calls) (low : ScalarsFirst x) (ty : IntegerType) (e : RvalueTree) (kind_e : kind_of x.program x.tree e ≡ Of (Integer ty)) (typed_e : Typed x calls e) (low_e : Low x e) (does_e : Does x calls e) where
  keeps_in : (s : State) → Sound x.program x.begun s → Keeps x.program x.begun s.memory (Of (Integer ty)) (evaluate calls (depth_in x) e s)
  keeps_in s sound = subst (λ k. Keeps x.program x.begun s.memory k (evaluate calls (depth_in x) e s)) kind_e (typed_e s sound)

  -- `+`
  plus_to : (want : Option ℕ) (m : Made) (a : Operand) (t : ℕ) (f : ℕ → Bool) (ops : List Instruction) (end : End) (l : Local) (w : World) (before_memory : Memory) (r : Evaluated) → Keeps x.program x.begun before_memory (Of (Integer ty)) r → ToR x want m a t f ops end l w r
      → ToR x want m a t f ops end l w (with r (λ v s. value_or_undefined (value_with_sign Plus ty v) s))
  plus_to want m a t f ops end l w before_memory (Gives (source.Number z) s) k h = h
  plus_to want m a t f ops end l w before_memory (Gives source.Null s) k h = absurd k.is
  plus_to want m a t f ops end l w before_memory (Gives (source.Pointer n o) s) k h = absurd k.is
  plus_to want m a t f ops end l w before_memory (Leaves s) k h = left_stuck x want m t f ops end l w s h
  plus_to want m a t f ops end l w before_memory (Ends c s) k h = h

  plus_unused : (m : Made) (t : ℕ) (f : ℕ → Bool) (ops : List Instruction) (end : End) (l : Local) (w : World) (before_memory : Memory) (r : Evaluated) → Keeps x.program x.begun before_memory (Of (Integer ty)) r → UnusedR x m t f ops end l w r
      → UnusedR x m t f ops end l w (with r (λ v s. value_or_undefined (value_with_sign Plus ty v) s))
  plus_unused m t f ops end l w before_memory (Gives (source.Number z) s) k h = h
  plus_unused m t f ops end l w before_memory (Gives source.Null s) k h = absurd k.is
  plus_unused m t f ops end l w before_memory (Gives (source.Pointer n o) s) k h = absurd k.is
  plus_unused m t f ops end l w before_memory (Leaves s) k h = left_stuck x None m t f ops end l w s h
  plus_unused m t f ops end l w before_memory (Ends c s) k h = h

  plus_leaf : (g : Goal) (a : Operand) (t : ℕ) (s : State) (l : Local) (w : World) → Fits x None s l w → (v : source-value.Value) → HasKind s.memory (Of (Integer ty)) v → SameValue x.program s.memory w.memory v (value x.unit.statics l.names a)
      → Result x g a t (λ y. false) (leaf g a).ops (leaf g a).end l w (value_or_undefined (value_with_sign Plus ty v) s)
  plus_leaf g a t s l w fits (source.Number z) is same = leaf_done x g a t (λ y. false) (source.Number z) s l w fits same (kind_word s.memory (Of (Integer ty)) (source.Number z) is)
  plus_leaf g a t s l w fits source.Null is same = absurd is
  plus_leaf g a t s l w fits (source.Pointer n o) is same = absurd is

  pub plus_does : Does x calls (Signed Plus ty e)
  plus_does t (To None m) s l w size st sound fits aims =
      let c = code_in x e t (To None m) in
      plus_to None m (value_in x e t) t (written_by x e) c.ops c.end l w s.memory (evaluate calls (depth_in x) e s) (keeps_in s sound) (does_e t (To None m) s l w size st sound fits aims)
  plus_does t (To (Some k) m) s l w size st sound fits aims =
      let c = code_in x e t (To (Some k) m) in
      plus_to (Some k) m (value_in x e t) t (written_by x e) c.ops c.end l w s.memory (evaluate calls (depth_in x) e s) (keeps_in s sound) (does_e t (To (Some k) m) s l w size st sound fits aims)
  plus_does t (Unused m) s l w size st sound fits aims =
      let c = code_in x e t (Unused m) in
      plus_unused m t (written_by x e) c.ops c.end l w s.memory (evaluate calls (depth_in x) e s) (keeps_in s sound) (does_e t (Unused m) s l w size st sound fits aims)
  plus_does t (Either one other inner) s l w size st sound fits aims =
      let g = Either one other inner in
      let m = leaf g (value_in x e t) in
      let c = code_in x e t (To None m) in
      with_then x None g m (value_in x e t) (value_in x e t) t t t (written_by x e) (written_by x e) (λ y. false) c.ops c.end l w (evaluate calls (depth_in x) e s) (λ v s1. value_or_undefined (value_with_sign Plus ty v) s1) (omega arith) (omega arith) (λ y lt nf. (refl, nf, refl))
      (does_e t (To None m) s l w size st sound fits tt)
      (λ v s1 is h. (let gave = subst (Keeps x.program x.begun s.memory (Of (Integer ty))) is (keeps_in s sound) in plus_leaf g (value_in x e t) t s1 h.reached.local h.reached.world h.reached.fits v gave.is h.same))

  -- `-`
  abbrev own_at : ℕ → ℕ
  own_at t = pick (names_in x) t (laid (names_in x) e Anywhere t).next

  abbrev minus_in : ℕ → Goal → Made
  minus_in t g = operated (names_in x) g t (laid (names_in x) e Anywhere t).next (λ k. Operate k operation.Sub (unit.Constant 0) (value_in x e t))

  minus_number : is_promoted ty ≡ true → (t : ℕ) (g : Goal) (s : State) (l : Local) (w : World) → size_in x ≤ t → Fits x None s l w → (a : ℤ) → value x.unit.statics l.names (value_in x e t) ≡ Number (unsigned_bits a) → (r : Option ℤ) → negation (integer ty) a ≡ r
      → Result x g (Name (own_at t)) t (λ y. false) (minus_in t g).ops (minus_in t g).end l w (value_or_undefined (option_map source.Number r) s)
  minus_number promoted t g s l w size fits a same None is = ended_result x g (Name (own_at t)) t (λ y. false) (minus_in t g).ops (minus_in t g).end l w ending.Undefined s (stuck_now x None (minus_in t g).ops (minus_in t g).end s l w fits)
  minus_number promoted t g s l w size fits a same (Some z) is =
      let c = minus_computes ty promoted a z is in
      let le = pick_between (names_in x) t (laid (names_in x) e Anywhere t).next t (omega arith) (low_e t size).next in
      operated_done x g (own_at t) t (λ y. false) (λ k. Operate k operation.Sub (unit.Constant 0) (value_in x e t)) (source.Number z) (operate operation.Sub (Number 0) (value x.unit.statics l.names (value_in x e t))) s l w low le (omega (arith, le, size)) fits (λ k ops end. refl)
      (ap (operate operation.Sub (Number 0)) same ∙ ap Number c.0) c.1

  minus_value : is_promoted ty ≡ true → (t : ℕ) (g : Goal) (s : State) (l : Local) (w : World) → size_in x ≤ t → Fits x None s l w → (v : source-value.Value) → HasKind s.memory (Of (Integer ty)) v → SameValue x.program s.memory w.memory v (value x.unit.statics l.names (value_in x e t))
      → Result x g (Name (own_at t)) t (λ y. false) (minus_in t g).ops (minus_in t g).end l w (value_or_undefined (value_with_sign Minus ty v) s)
  minus_value promoted t g s l w size fits (source.Number a) is same = minus_number promoted t g s l w size fits a same (negation (integer ty) a) refl
  minus_value promoted t g s l w size fits source.Null is same = absurd is
  minus_value promoted t g s l w size fits (source.Pointer n o) is same = absurd is

  pub minus_does : is_promoted ty ≡ true → Does x calls (Signed Minus ty e)
  minus_does promoted t g s l w size st sound fits aims =
      let m = minus_in t g in
      let c = code_in x e t (To None m) in
      with_then x None g m (Name (own_at t)) (value_in x e t) t t t (written_by x e) (written_by x e) (λ y. false) c.ops c.end l w (evaluate calls (depth_in x) e s) (λ v s1. value_or_undefined (value_with_sign Minus ty v) s1) (omega arith) (omega arith) (λ y lt nf. (refl, nf, refl))
      (does_e t (To None m) s l w size st sound fits tt)
      (λ v s1 is h. (let gave = subst (Keeps x.program x.begun s.memory (Of (Integer ty))) is (keeps_in s sound) in minus_value promoted t g s1 h.reached.local h.reached.world size h.reached.fits v gave.is h.same))
