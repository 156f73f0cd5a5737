-- Operations on numbers.
use Rattle.std.proofs.Common.{◌≡◌, ℕ, ◌+◌, ◌<◌, ◌≤◌, List, Option, Some, None, Bool, true, false, refl, sym, ap, ◌∙◌, subst, arith, ℤ, pos, negsuc, ◌+ℤ◌, ◌-ℤ◌}
use Rattle.std.specs.Prelude.{if◌then◌else◌, ◌||◌, option_map}
use Rattle.word_base.specs.declared.operation.Operation.{Operation}
use Rattle.word_base.specs.Types.{holds}
use Rattle.word_base.specs.WordOperations.{word_operation as operated_words}
use Rattle.c_tree.specs.declared.types.IntegerType.{IntegerType}
use Rattle.c_tree.specs.declared.types.IntegerType.TheVariants.{Char, SignedChar, UnsignedChar, Short, UnsignedShort, Int, UnsignedInt, Long, UnsignedLong}
use Rattle.c_tree.specs.declared.typed_expression.Arithmetic.TheVariants as arithmetic-is
use Rattle.c_type_laws.specs.Kinds.{is_promoted}
use Rattle.c_meaning_values.specs.Memory.{Memory}
use Rattle.graph_build_layout.specs.Laid.{Pair}
use Rattle.c_tree.specs.declared.typed_expression.Arithmetic as declared
use Rattle.c_tree.specs.declared.object_type.ValueType.TheVariants.{Integer}
use Rattle.c_tree.specs.TypedExpressions.{RvalueTree, Arithmetic}
use Rattle.c_type_rules.specs.Constants.{calculated}
use Rattle.c_type_rules.specs.Integers.{integer}
use Rattle.c_type_laws.specs.Kind.{Kind, Of}
use Rattle.c_type_laws.specs.Expressions.{kind_of}
use Rattle.c_meaning_values.specs.declared.value.Value as source-value
use Rattle.c_meaning_values.specs.declared.value.Value.TheVariants as source
use Rattle.c_meaning_steps.specs.declared.event.Ending.TheVariants as ending
use Rattle.c_meaning_values.specs.Operations.{arithmetic}
use Rattle.c_meaning_steps.specs.States.{State, Evaluated, Gives, Ends, value_or_undefined}
use Rattle.c_meaning.specs.Expressions.{Calls, evaluate}
use Rattle.graph_core.specs.declared.value.Value.{Value}
use Rattle.graph_core.specs.declared.value.Value.TheVariants.{Number}
use Rattle.graph_core.specs.Graphs.{Operand, Name, Operate}
use Rattle.graph_core.specs.Runs.{value}
use Rattle.graph_core.specs.Values.{operate}
use Rattle.graph_build_names.specs.Conversions.{unsigned_bits}
use Rattle.graph_build_names.specs.Names.{Names, pick}
use Rattle.graph_build_steps.specs.Drafts.{Made, Goal, instruction_before, target, follow, operated}
use Rattle.graph_build_steps.specs.Rules.{operation_for}
use Rattle.graph_build_runs.specs.Correspondence.{SameValue}
use Rattle.graph_build_runs.proofs.Words.{InWord, in_word, word_sum, word_difference, kept_word_int, kept_word_unsigned, kept_in_int, kept_in_unsigned}
use Rattle.graph_build_runs.proofs.Leads.{Setting, names_in, size_in, Local, World}
use Rattle.graph_build_runs.proofs.Kept.{Sound, Fits, ScalarsFirst}
use Rattle.graph_build_runs.proofs.Results.{Result, stuck_now, ended_result}
use Rattle.graph_build_runs.proofs.Leaves.{operated_done}
use Rattle.graph_build_runs.proofs.Typing.{HasKind, Typed}
use Rattle.graph_build_runs.proofs.Standing.{Stands, Grows}
use Rattle.graph_build_runs.proofs.Operands.{Does, code_in, value_in, Low, Spares, behind_le, pair_in, pair_does}

-- a name between what begun and what is free
pub pick_between : (n : Names) (begun free t : ℕ) → t ≤ begun → t ≤ free → t ≤ pick n begun free
pick_between n begun free t le1 le2 = go n.again
  where
    go : (b : Bool) → t ≤ (if b then begun else free)
    go true = le1
    go false = le2

-- what is asked of a right operand: a shift's count has a type of its own
abbrev pub IsRight : declared.Arithmetic → IntegerType → ℤ → Type 0
IsRight arithmetic-is.ShiftLeft t z = InWord z
IsRight arithmetic-is.ShiftRight t z = InWord z
IsRight o t z = holds (integer t) z ≡ true

-- The machine's operation on words of numbers of a type gives the word of what C makes of them.
abbrev pub Computes : declared.Arithmetic → IntegerType → Type 0
Computes o t = (a b z : ℤ) → holds (integer t) a ≡ true → IsRight o t b → calculated o t a b ≡ Some z → (operated_words (operation_for o t) (unsigned_bits a) (unsigned_bits b) ≡ unsigned_bits z) × InWord z

module _ (x : Setting) (calls : Calls) (low : ScalarsFirst x) (o : declared.Arithmetic) (ty : IntegerType) (a b : RvalueTree) (computes : Computes o ty) (kind_a : kind_of x.program x.tree a ≡ Of (Integer ty))
    (right : (memory : Memory) (z : ℤ) → HasKind memory (kind_of x.program x.tree b) (source.Number z) → IsRight o ty z)
    (typed_a : Typed x calls a) (typed_b : Typed x calls b) (low_a : Low x a) (low_b : Low x b) (spares_b : Spares x b) (grows_a : Grows (names_in x) x.place x.top x.graph a) (does_a : Does x calls a) (does_b : Does x calls b) where
  abbrev q_in : ℕ → Pair
  q_in t = pair_in x a b t

  abbrev last_in : ℕ → Goal → Made
  last_in t g = operated (names_in x) g t (q_in t).next (λ k. Operate k (operation_for o ty) (q_in t).left (q_in t).right)

  abbrev own_in : ℕ → ℕ
  own_in t = pick (names_in x) t (q_in t).next

  numbers : (t : ℕ) (g : Goal) → size_in x ≤ t → (za zb : ℤ) (s : State) (l : Local) (w : World) → Fits x None s l w → value x.unit.statics l.names (q_in t).left ≡ Number (unsigned_bits za) → value x.unit.statics l.names (q_in t).right ≡ Number (unsigned_bits zb)
      → holds (integer ty) za ≡ true → IsRight o ty zb → (r : Option ℤ) → calculated o ty za zb ≡ r
      → Result x g (Name (own_in t)) t (λ y. false) (last_in t g).ops (last_in t g).end l w (value_or_undefined (option_map source.Number r) s)
  numbers t g size za zb s l w fits same_a same_b ha hb None e = ended_result x g (Name (own_in t)) t (λ y. false) (last_in t g).ops (last_in t g).end l w ending.Undefined s (stuck_now x None (last_in t g).ops (last_in t g).end s l w fits)
  numbers t g size za zb s l w fits same_a same_b ha hb (Some z) e =
      let c = computes za zb z ha hb e in
      let given_word : Value = operate (operation_for o ty) (value x.unit.statics l.names (q_in t).left) (value x.unit.statics l.names (q_in t).right) in
      let is : given_word ≡ Number (unsigned_bits z) =
      ap (λ v. operate (operation_for o ty) v (value x.unit.statics l.names (q_in t).right)) same_a ∙ ap (operate (operation_for o ty) (Number (unsigned_bits za))) same_b ∙ ap Number c.0 in
      let above : t ≤ (q_in t).next = omega (arith, (low_a t size).next, behind_le (q_in t).moved (q_in t).moved_to, (low_b (q_in t).from (omega (arith, size, (low_a t size).next, behind_le (q_in t).moved (q_in t).moved_to))).next) in
      let le : t ≤ own_in t = pick_between (names_in x) t (q_in t).next t (omega arith) above in
      operated_done x g (own_in t) t (λ y. false) (λ k. Operate k (operation_for o ty) (q_in t).left (q_in t).right) (source.Number z) given_word s l w low le (omega (arith, le, size)) fits (λ k ops end. refl) is c.1

  finishes : (t : ℕ) (g : Goal) → size_in x ≤ t → (v u : source-value.Value) (s : State) (l : Local) (w : World) → Fits x None s l w → SameValue x.program s.memory w.memory v (value x.unit.statics l.names (q_in t).left)
      → SameValue x.program s.memory w.memory u (value x.unit.statics l.names (q_in t).right) → HasKind s.memory (Of (Integer ty)) v → HasKind s.memory (kind_of x.program x.tree b) u
      → Result x g (Name (own_in t)) t (λ y. false) (last_in t g).ops (last_in t g).end l w (value_or_undefined (arithmetic o ty v u) s)
  finishes t g size (source.Number za) (source.Number zb) s l w fits same_a same_b ka kb = numbers t g size za zb s l w fits same_a same_b ka (right s.memory zb kb) (calculated o ty za zb) refl
  finishes t g size (source.Number za) source.Null s l w fits same_a same_b ka kb = ended_result x g (Name (own_in t)) t (λ y. false) (last_in t g).ops (last_in t g).end l w ending.Undefined s (stuck_now x None (last_in t g).ops (last_in t g).end s l w fits)
  finishes t g size (source.Number za) (source.Pointer n offset) s l w fits same_a same_b ka kb = ended_result x g (Name (own_in t)) t (λ y. false) (last_in t g).ops (last_in t g).end l w ending.Undefined s (stuck_now x None (last_in t g).ops (last_in t g).end s l w fits)
  finishes t g size source.Null u s l w fits same_a same_b ka kb = absurd ka
  finishes t g size (source.Pointer n offset) u s l w fits same_a same_b ka kb = absurd ka

  pub arithmetic_does : Does x calls (Arithmetic o ty a b)
  arithmetic_does t g s l w size st sound fits aims =
      pair_does x calls low a b typed_a typed_b low_a spares_b grows_a does_a does_b t g (Name (own_in t)) (last_in t g) (λ v u s1. value_or_undefined (arithmetic o ty v u) s1) s l w size st sound fits
      (λ v u s1 l1 w1 sound1 fits1 same_a same_b ka kb. finishes t g size v u s1 l1 w1 fits1 same_a same_b (subst (λ k. HasKind s1.memory k v) kind_a ka) kb)

-- sums and differences
pub add_computes : (t : IntegerType) → is_promoted t ≡ true → Computes arithmetic-is.Add t
unfolding operated_words
add_computes Char p a b z ha hb h = cc
add_computes SignedChar p a b z ha hb h = cc
add_computes UnsignedChar p a b z ha hb h = cc
add_computes Short p a b z ha hb h = cc
add_computes UnsignedShort p a b z ha hb h = cc
add_computes Int p a b z ha hb h = (word_sum a b (a +ℤ b) refl ∙ kept_word_int (a +ℤ b) z h, kept_in_int (a +ℤ b) z h)
add_computes UnsignedInt p a b z ha hb h = (word_sum a b (a +ℤ b) refl ∙ kept_word_unsigned (a +ℤ b) z h, kept_in_unsigned (a +ℤ b) z h)
add_computes Long p a b z ha hb h = (word_sum a b (a +ℤ b) refl ∙ kept_word_int (a +ℤ b) z h, kept_in_int (a +ℤ b) z h)
add_computes UnsignedLong p a b z ha hb h = (word_sum a b (a +ℤ b) refl ∙ kept_word_unsigned (a +ℤ b) z h, kept_in_unsigned (a +ℤ b) z h)

pub subtract_computes : (t : IntegerType) → is_promoted t ≡ true → Computes arithmetic-is.Subtract t
unfolding operated_words
subtract_computes Char p a b z ha hb h = cc
subtract_computes SignedChar p a b z ha hb h = cc
subtract_computes UnsignedChar p a b z ha hb h = cc
subtract_computes Short p a b z ha hb h = cc
subtract_computes UnsignedShort p a b z ha hb h = cc
subtract_computes Int p a b z ha hb h = (word_difference a b (a -ℤ b) refl ∙ kept_word_int (a -ℤ b) z h, kept_in_int (a -ℤ b) z h)
subtract_computes UnsignedInt p a b z ha hb h = (word_difference a b (a -ℤ b) refl ∙ kept_word_unsigned (a -ℤ b) z h, kept_in_unsigned (a -ℤ b) z h)
subtract_computes Long p a b z ha hb h = (word_difference a b (a -ℤ b) refl ∙ kept_word_int (a -ℤ b) z h, kept_in_int (a -ℤ b) z h)
subtract_computes UnsignedLong p a b z ha hb h = (word_difference a b (a -ℤ b) refl ∙ kept_word_unsigned (a -ℤ b) z h, kept_in_unsigned (a -ℤ b) z h)
