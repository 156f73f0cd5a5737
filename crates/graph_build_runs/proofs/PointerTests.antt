-- Comparisons of pointers.
use Rattle.std.proofs.Common.{◌≡◌, ℕ, ◌≤◌, [], ◌∷◌, Option, Some, None, Bool, true, false, not, ◌&&◌, refl, sym, ap, ◌∙◌, subst, arith, pos}
use Rattle.std.specs.Prelude.{◌==◌, if◌then◌else◌, nat_lt, option_map}
use Rattle.std.proofs.lemmas.Bool.{eqb-true}
use Rattle.word_base.specs.Operations.{truth}
use Rattle.word_base.specs.Words.{word_of_test}
use Rattle.word_base.specs.WordOperations.{word_operation as operated_words}
use Rattle.word_base.specs.declared.operation.Operation.TheVariants as operation
use Rattle.c_tree.specs.declared.typed_expression.Comparison as declared
use Rattle.c_tree.specs.declared.typed_expression.Comparison.TheVariants as comparison
use Rattle.c_tree.specs.TypedExpressions.{RvalueTree, ComparePointers}
use Rattle.c_type_rules.specs.Constants.{comparison_holds as test_of}
use Rattle.c_type_laws.specs.Expressions.{kind_of}
use Rattle.c_meaning_values.specs.declared.value.Value as source-value
use Rattle.c_meaning_values.specs.declared.value.Value.TheVariants as source
use Rattle.c_meaning_values.specs.Memory.{Memory as SourceMemory, is_usable}
use Rattle.c_meaning_values.specs.Operations.{is_same_pointer, order_of, pointers_compared, pointer_comparison, is_true}
use Rattle.c_meaning_steps.specs.declared.event.Ending.TheVariants as ending
use Rattle.c_meaning_steps.specs.States.{State, Gives, value_or_undefined, by_truth}
use Rattle.c_meaning.specs.Expressions.{Calls}
use Rattle.graph_core.specs.declared.value.Value.{Value}
use Rattle.graph_core.specs.declared.value.Value.TheVariants.{Number}
use Rattle.graph_core.specs.Graphs as unit
use Rattle.graph_core.specs.Graphs.{Operand, Name, Instruction, Operate, Same}
use Rattle.graph_core.specs.Memory.{is_live}
use Rattle.graph_core.specs.Runs.{with_value_at, step, value, branched}
use Rattle.graph_core.specs.Values.{operate, same, is_true as is_known}
use Rattle.graph_build_names.specs.Operands.{is_two_pointers}
use Rattle.graph_build_names.specs.Names.{pick}
use Rattle.graph_build_layout.specs.Laid.{behind_move}
use Rattle.graph_build_steps.specs.Drafts.{Made, Goal, To, Unused, Either, instruction_before, target, follow, branch_by, compare_pointers_by, compared_pointers, compared_pointers_value}
use Rattle.graph_build_runs.specs.Correspondence.{SamePointer, SameValue}
use Rattle.graph_build_runs.proofs.Leads.{Setting, names_in, size_in, Local, World, at, put_here}
use Rattle.graph_build_runs.proofs.Kept.{Sound, Fits, ScalarsFirst}
use Rattle.graph_build_runs.proofs.Results.{EitherR, Result, stuck_now, ended_result}
use Rattle.graph_build_runs.proofs.Leaves.{Writes, operated_done, two_done, test_done}
use Rattle.graph_build_runs.proofs.Typing.{HasKind, Typed}
use Rattle.graph_build_runs.proofs.Standing.{Grows}
use Rattle.graph_build_runs.proofs.Operands.{Does, Low, Spares, behind_le, pair_in, pair_does}
use Rattle.graph_build_runs.proofs.Arithmetic.{pick_between}
use Rattle.graph_build_runs.proofs.Laying.{behind_from}
use Rattle.graph_build_runs.proofs.Comparing.{at_most_is}
use Rattle.graph_build_runs.proofs.ComparedValues.{truth_word, truth_in}
use Rattle.graph_build_runs.proofs.TwoPointers.{IsPointer, same_pointers, lower_pointer}

xor_one : (c d : Bool) → not c ≡ d → operated_words operation.Xor (word_of_test c) 1 ≡ word_of_test d
unfolding operated_words
xor_one true d e = ap word_of_test e
xor_one false d e = ap word_of_test e

known_test : (c : Bool) → is_known (Number (word_of_test c)) ≡ Some c
known_test true = refl
known_test false = refl

unknown_test : (c : Bool) → option_map not (is_known (Number (word_of_test (not c)))) ≡ Some c
unknown_test true = refl
unknown_test false = refl

truth_true : (c : Bool) → is_true (source.Number (truth c)) ≡ c
truth_true true = refl
truth_true false = refl

not_twice : (c : Bool) → not (not c) ≡ c
not_twice true = refl
not_twice false = refl

-- What the unit's instructions tell of two values where a comparison holds, or does not.
abbrev pub Tells : (live : ℕ → Bool) → declared.Comparison → Bool → Value → Value → Type 0
Tells live comparison.Equal c a b = same live a b ≡ Number (word_of_test c)
Tells live comparison.NotEqual c a b = same live a b ≡ Number (word_of_test (not c))
Tells live comparison.Less c a b = operate operation.Sltu a b ≡ Number (word_of_test c)
Tells live comparison.Greater c a b = operate operation.Sltu b a ≡ Number (word_of_test c)
Tells live comparison.LessEqual c a b = operate operation.Sltu b a ≡ Number (word_of_test (not c))
Tells live comparison.GreaterEqual c a b = operate operation.Sltu a b ≡ Number (word_of_test (not c))

-- the end of a block
branch_tells : (x : Setting) (o : declared.Comparison) (c : Bool) (left right : Operand) (one other : ℕ) (l : Local) (w : World) → Tells (is_live w.memory) o c (value x.unit.statics l.names left) (value x.unit.statics l.names right)
    → step x.unit (at x [] (branch_by o false left right one other) l w) ≡ branched (at x [] (branch_by o false left right one other) l w) (Some c) one other
branch_tells x comparison.Equal c left right one other l w is = ap (λ h. branched (at x [] (branch_by comparison.Equal false left right one other) l w) h one other) (ap is_known is ∙ known_test c)
branch_tells x comparison.NotEqual c left right one other l w is = ap (λ h. branched (at x [] (branch_by comparison.NotEqual false left right one other) l w) h one other) (ap (λ v. option_map not (is_known v)) is ∙ unknown_test c)
branch_tells x comparison.Less c left right one other l w is = ap (λ h. branched (at x [] (branch_by comparison.Less false left right one other) l w) h one other) (ap is_known is ∙ known_test c)
branch_tells x comparison.Greater c left right one other l w is = ap (λ h. branched (at x [] (branch_by comparison.Greater false left right one other) l w) h one other) (ap is_known is ∙ known_test c)
branch_tells x comparison.LessEqual c left right one other l w is = ap (λ h. branched (at x [] (branch_by comparison.LessEqual false left right one other) l w) h one other) (ap (λ v. option_map not (is_known v)) is ∙ unknown_test c)
branch_tells x comparison.GreaterEqual c left right one other l w is = ap (λ h. branched (at x [] (branch_by comparison.GreaterEqual false left right one other) l w) h one other) (ap (λ v. option_map not (is_known v)) is ∙ unknown_test c)

module _ (x : Setting) (low : ScalarsFirst x) (g : Goal) (own temporary t : ℕ) (f : ℕ → Bool) (le1 : t ≤ temporary) (size1 : size_in x ≤ temporary) (le2 : t ≤ own) (size2 : size_in x ≤ own) (left right : Operand) (s : State) (l : Local) (w : World) (fits : Fits x None s l w) where
  abbrev In : declared.Comparison → Made
  In o = compare_pointers_by o (target g own) temporary left right (follow g own)

  -- by one instruction
  one_tells : (i : ℕ → Instruction) (given_word : Value) (c : Bool) → Writes x i given_word l w → given_word ≡ Number (word_of_test c)
      → Result x g (Name own) t f (instruction_before (i (target g own)) (follow g own)).ops (instruction_before (i (target g own)) (follow g own)).end l w (Gives (source.Number (truth c)) s)
  one_tells i given_word c writes is = operated_done x g own t f i (source.Number (truth c)) given_word s l w low le2 size2 fits writes (is ∙ ap Number (truth_word c)) (truth_in c)

  -- by two
  two_tell : (i : ℕ → Instruction) (between : Value) (c : Bool) → Writes x i between l w → between ≡ Number (word_of_test (not c))
      → Result x g (Name own) t f (i temporary ∷ (instruction_before (Operate (target g own) operation.Xor (Name temporary) (unit.Constant 1)) (follow g own)).ops) (instruction_before (Operate (target g own) operation.Xor (Name temporary) (unit.Constant 1)) (follow g own)).end l w
      (Gives (source.Number (truth c)) s)
  two_tell i between c writes is =
      two_done x g own temporary t f i (λ k. Operate k operation.Xor (Name temporary) (unit.Constant 1)) (source.Number (truth c)) between (operate operation.Xor (with_value_at l.names temporary between temporary) (Number 1)) s l w low le1 size1 le2 size2 fits writes (λ k ops end. refl)
      (ap (λ v. operate operation.Xor v (Number 1)) (put_here l.names temporary between ∙ is) ∙ ap Number (xor_one (not c) c (not_twice c) ∙ truth_word c)) (truth_in c)

  value_tells : (o : declared.Comparison) (c : Bool) → Tells (is_live w.memory) o c (value x.unit.statics l.names left) (value x.unit.statics l.names right) → Result x g (Name own) t f (In o).ops (In o).end l w (Gives (source.Number (truth c)) s)
  value_tells comparison.Equal c is = one_tells (λ k. Same k left right) (same (is_live w.memory) (value x.unit.statics l.names left) (value x.unit.statics l.names right)) c (λ k ops end. refl) is
  value_tells comparison.NotEqual c is = two_tell (λ k. Same k left right) (same (is_live w.memory) (value x.unit.statics l.names left) (value x.unit.statics l.names right)) c (λ k ops end. refl) is
  value_tells comparison.Less c is = one_tells (λ k. Operate k operation.Sltu left right) (operate operation.Sltu (value x.unit.statics l.names left) (value x.unit.statics l.names right)) c (λ k ops end. refl) is
  value_tells comparison.Greater c is = one_tells (λ k. Operate k operation.Sltu right left) (operate operation.Sltu (value x.unit.statics l.names right) (value x.unit.statics l.names left)) c (λ k ops end. refl) is
  value_tells comparison.LessEqual c is = two_tell (λ k. Operate k operation.Sltu right left) (operate operation.Sltu (value x.unit.statics l.names right) (value x.unit.statics l.names left)) c (λ k ops end. refl) is
  value_tells comparison.GreaterEqual c is = two_tell (λ k. Operate k operation.Sltu left right) (operate operation.Sltu (value x.unit.statics l.names left) (value x.unit.statics l.names right)) c (λ k ops end. refl) is

-- what the source tells of two pointers
pub data Told (live : ℕ → Bool) (o : declared.Comparison) (a b : Value) : Option source-value.Value → Type 0 where
  nothing : Told live o a b None
  told : (c : Bool) → Tells live o c a b → Told live o a b (Some (source.Number (truth c)))

module _ (x : Setting) (want : Option ℕ) (s : State) (l : Local) (w : World) (sound : Sound x.program x.begun s) (f : Fits x want s l w) where
  same_told : (v u : source-value.Value) (a b : Value) → IsPointer v → IsPointer u → is_usable s.memory v ≡ true → is_usable s.memory u ≡ true → SameValue x.program s.memory w.memory v a → SameValue x.program s.memory w.memory u b
      → same (is_live w.memory) a b ≡ Number (word_of_test (is_same_pointer v u))
  same_told v u a b pv pu uv uu sv su = same_pointers x want s l w sound f v u a b pv pu uv uu sv su ∙ ap Number (sym (truth_word (is_same_pointer v u)))

  -- the order of two pointers into one object
  order_told : (o : declared.Comparison) (n m i j : ℕ) (a b : Value) → ((p q : Bool) → operate operation.Sltu a b ≡ Number (word_of_test p) → operate operation.Sltu b a ≡ Number (word_of_test q) → p ≡ nat_lt i j → q ≡ nat_lt j i → Tells (is_live w.memory) o (test_of o (pos i) (pos j)) a b)
      → is_usable s.memory (source.Pointer n i) ≡ true → is_usable s.memory (source.Pointer m j) ≡ true → SamePointer x.program s.memory w.memory n i a → SamePointer x.program s.memory w.memory m j b
      → (c : Bool) → n == m ≡ c → Told (is_live w.memory) o a b (if c then Some (source.Number (truth (test_of o (pos i) (pos j)))) else None)
  order_told o n m i j a b tells uv uu sv su false e = nothing
  order_told o n m i j a b tells uv uu sv su true e =
      let one : n ≡ m = eqb-true n m e in
      let su_n : SamePointer x.program s.memory w.memory n j b = subst (λ k. SamePointer x.program s.memory w.memory k j b) (sym one) su in
      let uu_n : is_usable s.memory (source.Pointer n j) ≡ true = ap (λ k. is_usable s.memory (source.Pointer k j)) one ∙ uu in
      told (test_of o (pos i) (pos j)) (tells (nat_lt i j) (nat_lt j i) (lower_pointer x want s l w sound f n i j a b uv sv su_n) (lower_pointer x want s l w sound f n j i b a uu_n su_n sv) refl refl)

  ordered : (o : declared.Comparison) (v u : source-value.Value) (a b : Value)
      → ((i j : ℕ) (p q : Bool) → operate operation.Sltu a b ≡ Number (word_of_test p) → operate operation.Sltu b a ≡ Number (word_of_test q) → p ≡ nat_lt i j → q ≡ nat_lt j i → Tells (is_live w.memory) o (test_of o (pos i) (pos j)) a b)
      → is_usable s.memory v ≡ true → is_usable s.memory u ≡ true → SameValue x.program s.memory w.memory v a → SameValue x.program s.memory w.memory u b → Told (is_live w.memory) o a b (order_of o v u)
  ordered o (source.Number z) u a b tells uv uu sv su = nothing
  ordered o source.Null u a b tells uv uu sv su = nothing
  ordered o (source.Pointer n i) (source.Number z) a b tells uv uu sv su = nothing
  ordered o (source.Pointer n i) source.Null a b tells uv uu sv su = nothing
  ordered o (source.Pointer n i) (source.Pointer m j) a b tells uv uu sv su = order_told o n m i j a b (tells i j) uv uu sv su (n == m) refl

  both_usable : (o : declared.Comparison) (v u : source-value.Value) (a b : Value) → IsPointer v → IsPointer u → is_usable s.memory v ≡ true → is_usable s.memory u ≡ true → SameValue x.program s.memory w.memory v a → SameValue x.program s.memory w.memory u b
      → Told (is_live w.memory) o a b (pointers_compared o v u)
  both_usable comparison.Equal v u a b pv pu uv uu sv su = told (is_same_pointer v u) (same_told v u a b pv pu uv uu sv su)
  both_usable comparison.NotEqual v u a b pv pu uv uu sv su = told (not (is_same_pointer v u)) (same_told v u a b pv pu uv uu sv su ∙ ap (λ c. Number (word_of_test c)) (sym (not_twice (is_same_pointer v u))))
  both_usable comparison.Less v u a b pv pu uv uu sv su = ordered comparison.Less v u a b (λ i j p q hp hq ep eq. hp ∙ ap (λ c. Number (word_of_test c)) ep) uv uu sv su
  both_usable comparison.Greater v u a b pv pu uv uu sv su = ordered comparison.Greater v u a b (λ i j p q hp hq ep eq. hq ∙ ap (λ c. Number (word_of_test c)) eq) uv uu sv su
  both_usable comparison.LessEqual v u a b pv pu uv uu sv su =
      ordered comparison.LessEqual v u a b (λ i j p q hp hq ep eq. hq ∙ ap (λ c. Number (word_of_test c)) (eq ∙ sym (not_twice (nat_lt j i)) ∙ ap not (at_most_is (pos i) (pos j)))) uv uu sv su
  both_usable comparison.GreaterEqual v u a b pv pu uv uu sv su =
      ordered comparison.GreaterEqual v u a b (λ i j p q hp hq ep eq. hp ∙ ap (λ c. Number (word_of_test c)) (ep ∙ sym (not_twice (nat_lt i j)) ∙ ap not (at_most_is (pos j) (pos i)))) uv uu sv su

  -- The unit tells what the source does, where that is defined.
  pub pointers_told : (o : declared.Comparison) (v u : source-value.Value) (a b : Value) → IsPointer v → IsPointer u → SameValue x.program s.memory w.memory v a → SameValue x.program s.memory w.memory u b → Told (is_live w.memory) o a b (pointer_comparison s.memory o v u)
  pointers_told o v u a b pv pu sv su = by (is_usable s.memory v) (is_usable s.memory u) refl refl
    where
      by : (c d : Bool) → is_usable s.memory v ≡ c → is_usable s.memory u ≡ d → Told (is_live w.memory) o a b (if c && d then pointers_compared o v u else None)
      by false d uv uu = nothing
      by true false uv uu = nothing
      by true true uv uu = both_usable o v u a b pv pu uv uu sv su

module _ (x : Setting) (calls : Calls) (low : ScalarsFirst x) (o : declared.Comparison) (a b : RvalueTree) (pointer_a : (memory : SourceMemory) (v : source-value.Value) → HasKind memory (kind_of x.program x.tree a) v → IsPointer v)
    (pointer_b : (memory : SourceMemory) (v : source-value.Value) → HasKind memory (kind_of x.program x.tree b) v → IsPointer v)
    (typed_a : Typed x calls a) (typed_b : Typed x calls b) (low_a : Low x a) (low_b : Low x b) (spares_b : Spares x b) (grows_a : Grows (names_in x) x.place x.top x.graph a) (does_a : Does x calls a) (does_b : Does x calls b) where
  abbrev own_of : ℕ → ℕ
  own_of t = pick (names_in x) t (behind_move (is_two_pointers o) (pair_in x a b t).next)

  abbrev last_of : ℕ → Goal → Made
  last_of t g = compared_pointers (names_in x) g o t (pair_in x a b t)

  next_above : (t : ℕ) → size_in x ≤ t → t ≤ (pair_in x a b t).next
  next_above t size =
      let q = pair_in x a b t in
      let first = (low_a t size).next in
      let held = behind_le q.moved q.moved_to in
      let second = (low_b q.from (omega (arith, size, first, held))).next in
      omega (arith, first, held, second)

  tells_value : (t : ℕ) (g : Goal) (want : Option ℕ) (m : Made) → size_in x ≤ t → (c : Bool) (s : State) (l : Local) (w : World) → Fits x None s l w → Tells (is_live w.memory) o c (value x.unit.statics l.names (pair_in x a b t).left) (value x.unit.statics l.names (pair_in x a b t).right)
      → Result x g (Name (own_of t)) t (λ y. false) (compared_pointers_value (names_in x) g o t (pair_in x a b t)).ops (compared_pointers_value (names_in x) g o t (pair_in x a b t)).end l w (Gives (source.Number (truth c)) s)
  tells_value t g want m size c s l w fits is =
      let q = pair_in x a b t in
      let above = next_above t size in
      let behind = behind_from (names_in x) (size_in x) low (is_two_pointers o) t q.next above in
      let le1 = pick_between (names_in x) t q.next t (omega arith) above in
      let le2 = pick_between (names_in x) t (behind_move (is_two_pointers o) q.next) t (omega arith) behind in
      value_tells x low g (own_of t) (pick (names_in x) t q.next) t (λ y. false) le1 (omega (arith, le1, size)) le2 (omega (arith, le2, size)) q.left q.right s l w fits o c is

  tells : (t : ℕ) (g : Goal) → size_in x ≤ t → (c : Bool) (s : State) (l : Local) (w : World) → Fits x None s l w → Tells (is_live w.memory) o c (value x.unit.statics l.names (pair_in x a b t).left) (value x.unit.statics l.names (pair_in x a b t).right)
      → Result x g (Name (own_of t)) t (λ y. false) (last_of t g).ops (last_of t g).end l w (Gives (source.Number (truth c)) s)
  tells t (Either one other inner) size c s l w fits is =
      let q = pair_in x a b t in
      let e = branch_by o false q.left q.right one other in
      subst (λ k. EitherR x one other t (λ y. false) [] e l w (by_truth k s)) (sym (truth_true c)) (test_done x t (λ y. false) e l w s c one other fits (branch_tells x o c q.left q.right one other l w is))
  tells t (To want m) size c s l w fits is = tells_value t (To want m) want m size c s l w fits is
  tells t (Unused m) size c s l w fits is = tells_value t (Unused m) None m size c s l w fits is

  by_told : (t : ℕ) (g : Goal) → size_in x ≤ t → (s : State) (l : Local) (w : World) → Fits x None s l w → {r : Option source-value.Value} → Told (is_live w.memory) o (value x.unit.statics l.names (pair_in x a b t).left) (value x.unit.statics l.names (pair_in x a b t).right) r
      → Result x g (Name (own_of t)) t (λ y. false) (last_of t g).ops (last_of t g).end l w (value_or_undefined r s)
  by_told t g size s l w fits nothing = ended_result x g (Name (own_of t)) t (λ y. false) (last_of t g).ops (last_of t g).end l w ending.Undefined s (stuck_now x None (last_of t g).ops (last_of t g).end s l w fits)
  by_told t g size s l w fits (told c is) = tells t g size c s l w fits is

  pub pointers_compare : Does x calls (ComparePointers o a b)
  pointers_compare t g s l w size st sound fits aims =
      pair_does x calls low a b typed_a typed_b low_a spares_b grows_a does_a does_b t g (Name (own_of t)) (last_of t g) (λ v u s1. value_or_undefined (pointer_comparison s1.memory o v u) s1) s l w size st sound fits
      (λ v u s1 l1 w1 sound1 fits1 same_v same_u kind_v kind_u. by_told t g size s1 l1 w1 fits1
      (pointers_told x None s1 l1 w1 sound1 fits1 o v u (value x.unit.statics l1.names (pair_in x a b t).left) (value x.unit.statics l1.names (pair_in x a b t).right) (pointer_a s1.memory v kind_v) (pointer_b s1.memory u kind_u) same_v same_u))
