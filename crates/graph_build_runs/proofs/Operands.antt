-- Two operands in turn.
use Rattle.std.proofs.Common.{◌≡◌, ◌≢◌, ℕ, ◌+◌, ◌<◌, ◌≤◌, List, [], ◌∷◌, Option, Some, None, Bool, true, false, refl, sym, ap, ◌∙◌, subst, arith}
use Rattle.std.specs.Prelude.{if◌then◌else◌, ◌||◌}
use Rattle.c_tree.specs.TypedExpressions.{RvalueTree, LvalueTree, Constant, Null, Load, Decay, AddressOf, Convert, Discard, Signed, Not, Arithmetic, Compare, ComparePointers, Move, MoveFrom, Difference, And, Or, Conditional, Comma, Assign, Update, UpdatePointer, Step, StepPointer, Call, Named, Target, Element, ElementFrom}
use Rattle.c_type_laws.specs.Expressions.{kind_of}
use Rattle.c_meaning_values.specs.declared.value.Value as source-value
use Rattle.c_meaning_steps.specs.States.{State, Evaluated, Gives, with, both_operands, on_both}
use Rattle.c_meaning.specs.Expressions.{Calls, evaluate}
use Rattle.graph_core.specs.declared.value.Value.{Value}
use Rattle.graph_core.specs.Graphs.{Operand, Name, Constant as Word, StaticAddress, At, Instruction, End, StaticObject}
use Rattle.graph_core.specs.Runs.{value}
use Rattle.graph_build_names.specs.Operands.{held}
use Rattle.graph_build_layout.specs.declared.laid.Use.TheVariants.{Anywhere}
use Rattle.graph_build_layout.specs.Laid.{Pair, pair, behind_move}
use Rattle.graph_build_layout.specs.Layout.{laid, place_laid}
use Rattle.graph_build_names.specs.Writes.{writes, is_moved}
use Rattle.graph_build_steps.specs.Drafts.{Made, Goal, To, Unused, Either, move_if}
use Rattle.graph_build_code.specs.Code.{code}
use Rattle.graph_build_steps.specs.Steps.{in_turn}
use Rattle.graph_build_runs.specs.Correspondence.{SameValue}
use Rattle.graph_build_runs.proofs.Leads.{Setting, names_in, size_in, depth_in, Local, World, set_name, at, Leads, stays, goes, put_here, put_elsewhere, less_other}
use Rattle.graph_build_runs.proofs.Later.{others_refl, value_later}
use Rattle.graph_build_runs.proofs.Kept.{Sound, Fits, ScalarsFirst, fits_temporary}
use Rattle.graph_build_runs.proofs.Results.{Passes, Valued, Result, result_after}
use Rattle.graph_build_runs.proofs.Leaves.{both_with, with_then}
use Rattle.graph_build_runs.proofs.Typing.{HasKind, Typed, gave_by, kind_later}
use Rattle.graph_build_runs.proofs.Standing.{Stands, Grows, hold_inner}

abbrev pub code_in : Setting → RvalueTree → ℕ → Goal → Made
code_in x e t g = code (names_in x) x.place x.top e t g

-- where the value of an expression stands
abbrev pub value_in : Setting → RvalueTree → ℕ → Operand
value_in x e t = (laid (names_in x) e Anywhere t).value

abbrev pub written_by : Setting → RvalueTree → ℕ → Bool
written_by x e y = writes (names_in x) y e

-- The place of an lvalue in memory is not found by what a name holds.
abbrev pub IsFreeOf : Setting → (name : ℕ) → LvalueTree → Type 0
IsFreeOf x k l = (t : ℕ) → size_in x ≤ t → (place_laid (names_in x) l t).location ≢ At (Name k)

abbrev mutual
  -- What an expression stores once its value stands in a name is not stored where that name points: a variable is not of the type of what it points to.
  pub Apart : Setting → (name : ℕ) → RvalueTree → Type 0
  Apart x k (Constant z t) = Unit {0}
  Apart x k Null = Unit {0}
  Apart x k (Load s l) = Unit {0}
  Apart x k (Decay l) = ApartIn x k l
  Apart x k (AddressOf l) = ApartIn x k l
  Apart x k (Convert t e) = Apart x k e
  Apart x k (Discard e) = Unit {0}
  Apart x k (Signed o t e) = Apart x k e
  Apart x k (Not e) = Unit {0}
  Apart x k (Arithmetic o t a b) = Unit {0}
  Apart x k (Compare o t a b) = Unit {0}
  Apart x k (ComparePointers o a b) = Unit {0}
  Apart x k (Move d of a b) = Unit {0}
  Apart x k (MoveFrom b of a) = Unit {0}
  Apart x k (Difference of a b) = Unit {0}
  Apart x k (And a b) = Unit {0}
  Apart x k (Or a b) = Unit {0}
  Apart x k (Conditional c a b) = Unit {0}
  Apart x k (Comma a b) = Apart x k b
  Apart x k (Assign s l e) = IsFreeOf x k l × Apart x k e
  Apart x k (Update o t u l e) = IsFreeOf x k l
  Apart x k (UpdatePointer d of l e) = IsFreeOf x k l
  Apart x k (Step d g t u l) = IsFreeOf x k l
  Apart x k (StepPointer d g of l) = IsFreeOf x k l
  Apart x k (Call c all) = Unit {0}

  -- so is what the pointer stores that is an lvalue's address
  pub ApartIn : Setting → (name : ℕ) → LvalueTree → Type 0
  ApartIn x k (Named o of) = Unit {0}
  ApartIn x k (Target of p) = Apart x k p
  ApartIn x k (Element of p i) = Unit {0}
  ApartIn x k (ElementFrom of i p) = Unit {0}

-- A name that wants the value of an expression is older than the temporaries of the expression, and apart from what it stores where it is a scalar.
abbrev pub Aims : Setting → Goal → RvalueTree → ℕ → Type 0
Aims x (To None m) e t = Unit {0}
Aims x (To (Some k) m) e t = (k < t) × (k < size_in x → Apart x k e)
Aims x (Unused m) e t = Unit {0}
Aims x (Either one other inner) e t = Unit {0}

-- The code of an expression does what the expression means.
abbrev pub Does : Setting → Calls → RvalueTree → Type 0
Does x calls e = (t : ℕ) (g : Goal) (s : State) (l : Local) (w : World) → size_in x ≤ t → Stands x.graph x.top (code_in x e t g).inner → Sound x.program x.begun s → Fits x None s l w → Aims x g e t
    → Result x g (value_in x e t) t (written_by x e) (code_in x e t g).ops (code_in x e t g).end l w (evaluate calls (depth_in x) e s)

-- an operand's name is below a number
abbrev pub IsBelow : ℕ → Operand → Type 0
IsBelow t (Name y) = y < t
IsBelow t (Word word) = Unit {0}
IsBelow t (StaticAddress object offset) = Unit {0}

-- A value stands below the next name that is free.
pub record LaysLow (x : Setting) (e : RvalueTree) (t : ℕ) : Type 0 where
  pub next : t ≤ (laid (names_in x) e Anywhere t).next
  pub below : IsBelow (laid (names_in x) e Anywhere t).next (laid (names_in x) e Anywhere t).value

abbrev pub Low : Setting → RvalueTree → Type 0
Low x e = (t : ℕ) → size_in x ≤ t → LaysLow x e t

-- no temporary is among the scalars that an expression writes
abbrev pub Spares : Setting → RvalueTree → Type 0
Spares x e = (y : ℕ) → size_in x ≤ y → writes (names_in x) y e ≡ false

pub or_false : (a b : Bool) → a || b ≡ false → (a ≡ false) × (b ≡ false)
or_false false b h = (refl, h)
or_false true b h = cc

-- An operand that is moved, or stays where it is.
pub record HeldNow (x : Setting) (moved : Bool) (a : Operand) (t : ℕ) (m : Made) (s : State) (l : Local) (w : World) : Type 0 where
  pub local : Local
  pub leads : Passes x (move_if moved t a m).ops (move_if moved t a m).end l w m.ops m.end local w
  pub fits : Fits x None s local w
  pub value_is : value x.unit.statics local.names (held moved a t) ≡ value x.unit.statics l.names a
  pub kept : (y : ℕ) → y < t → local.names y ≡ l.names y

pub hold_done : (x : Setting) (moved : Bool) (a : Operand) (t : ℕ) (m : Made) (s : State) (l : Local) (w : World) → ScalarsFirst x → size_in x ≤ t → Fits x None s l w → HeldNow x moved a t m s l w
hold_done x true a t m s l w low le fits =
    let given = value x.unit.statics l.names a in
    record {
      local = set_name l t given;
      leads = goes refl stays;
      fits = fits_temporary x s l w t given low fits le;
      value_is = put_here l.names t given;
      kept = λ y lt. put_elsewhere l.names t y given (less_other y t lt);
    }
hold_done x false a t m s l w low le fits = record { local = l; leads = stays; fits = fits; value_is = refl; kept = λ y lt. refl }

-- a held operand is as it was behind code that writes no name below the next free one, but for those that it writes
pub held_stays : (statics : List StaticObject) (written : ℕ → Bool) (a : Operand) (moved : Bool) (t : ℕ) (l m : Local) → is_moved written a ≡ moved → IsBelow t a → written t ≡ false
    → ((y : ℕ) → y < behind_move moved t → written y ≡ false → m.names y ≡ l.names y) → value statics m.names (held moved a t) ≡ value statics l.names (held moved a t)
held_stays statics written a true t l m is below free kept = let lt : t < t + 1 = omega arith in kept t lt free
held_stays statics written (Name y) false t l m is below free kept = kept y below is
held_stays statics written (Word word) false t l m is below free kept = refl
held_stays statics written (StaticAddress object offset) false t l m is below free kept = refl

pub behind_le : (moved : Bool) (t : ℕ) → t ≤ behind_move moved t
behind_le true t = omega arith
behind_le false t = omega arith

-- two values in their places
abbrev pub pair_in : Setting → RvalueTree → RvalueTree → ℕ → Pair
pair_in x a b t = pair (λ y. writes (names_in x) y b) (laid (names_in x) a Anywhere t) (laid (names_in x) b Anywhere)

module _ (x : Setting) (calls : Calls) (low : ScalarsFirst x) (a b : RvalueTree) (typed_a : Typed x calls a) (typed_b : Typed x calls b) (low_a : Low x a) (spares_b : Spares x b) (grows_a : Grows (names_in x) x.place x.top x.graph a)
    (does_a : Does x calls a) (does_b : Does x calls b) where
  -- the second operand behind the first, which is held where need be
  abbrev pub held_code : ℕ → Made → Made
  held_code t z = move_if (pair_in x a b t).moved (pair_in x a b t).moved_to (pair_in x a b t).first (code_in x b (pair_in x a b t).from (To None z))

  -- what is made of two values that stand
  abbrev pub Finishes : ℕ → Goal → Operand → Made → (source-value.Value → source-value.Value → State → Evaluated) → Type 0
  Finishes t g o z next = (v u : source-value.Value) (s : State) (l : Local) (w : World) → Sound x.program x.begun s → Fits x None s l w
      → SameValue x.program s.memory w.memory v (value x.unit.statics l.names (pair_in x a b t).left) → SameValue x.program s.memory w.memory u (value x.unit.statics l.names (pair_in x a b t).right)
      → HasKind s.memory (kind_of x.program x.tree a) v → HasKind s.memory (kind_of x.program x.tree b) u → Result x g o t (λ y. false) z.ops z.end l w (next v u s)

  pub pair_does : (t : ℕ) (g : Goal) (o : Operand) (z : Made) (next : source-value.Value → source-value.Value → State → Evaluated) (s : State) (l : Local) (w : World) → size_in x ≤ t
      → Stands x.graph x.top (in_turn (code_in x a) (code_in x b) t (pair_in x a b t) z).inner → Sound x.program x.begun s → Fits x None s l w → Finishes t g o z next
      → Result x g o t (λ y. writes (names_in x) y a || writes (names_in x) y b) (in_turn (code_in x a) (code_in x b) t (pair_in x a b t) z).ops (in_turn (code_in x a) (code_in x b) t (pair_in x a b t) z).end l w
      (on_both (both_operands (evaluate calls (depth_in x) a s) (evaluate calls (depth_in x) b)) next)
  pair_does t g o z next s l w size st sound fits finish =
      subst (Result x g o t (λ y. writes (names_in x) y a || writes (names_in x) y b) (in_turn (code_in x a) (code_in x b) t (pair_in x a b t) z).ops (in_turn (code_in x a) (code_in x b) t (pair_in x a b t) z).end l w)
      (both_with (evaluate calls (depth_in x) a s) (evaluate calls (depth_in x) b) next)
      (with_then x None g (held_code t z) o (value_in x a t) t t t (λ y. writes (names_in x) y a || writes (names_in x) y b) (written_by x a) (written_by x b) (code_in x a t (To None (held_code t z))).ops (code_in x a t (To None (held_code t z))).end l w
      (evaluate calls (depth_in x) a s) (λ v s1. with (evaluate calls (depth_in x) b s1) (next v)) (omega arith) (omega arith) (λ y lt nf. (let h = or_false (writes (names_in x) y a) (writes (names_in x) y b) nf in (refl, h.0, h.1)))
      (does_a t (To None (held_code t z)) s l w size st sound fits tt) second)
    where
      second : (v : source-value.Value) (s1 : State) → evaluate calls (depth_in x) a s ≡ Gives v s1
          → (h : Valued x None (held_code t z) (value_in x a t) t (written_by x a) (code_in x a t (To None (held_code t z))).ops (code_in x a t (To None (held_code t z))).end l w v s1)
          → Result x g o t (written_by x b) (held_code t z).ops (held_code t z).end h.reached.local h.reached.world (with (evaluate calls (depth_in x) b s1) (next v))
      second v s1 e h =
          let gave = gave_by x.program x.begun s.memory (kind_of x.program x.tree a) (evaluate calls (depth_in x) a s) v s1 e (typed_a s sound) in
          let q = pair_in x a b t in
          let r = low_a t size in
          let m = code_in x b q.from (To None z) in
          let l1 = h.reached.local in
          let w1 = h.reached.world in
          let above : t ≤ q.from = omega (arith, r.next, behind_le q.moved q.moved_to) in
          let k = hold_done x q.moved q.first q.moved_to m s1 l1 w1 low (omega (arith, r.next, size)) h.reached.fits in
          let inner = subst (Stands x.graph x.top) (hold_inner q.moved q.moved_to q.first m) (grows_a t (To None (move_if q.moved q.moved_to q.first m)) st) in
          result_after x t t (written_by x b) (written_by x b) (move_if q.moved q.moved_to q.first m).ops m.ops (move_if q.moved q.moved_to q.first m).end m.end l1 k.local w1 w1 k.leads
          (λ y lt nf. (lt, nf, k.kept y (omega (arith, lt, r.next)))) (others_refl w1.memory) g o (with (evaluate calls (depth_in x) b s1) (next v))
          (with_then x None g z o q.right t q.from t (written_by x b) (written_by x b) (λ y. false) m.ops m.end k.local w1 (evaluate calls (depth_in x) b s1) (next v) above (omega arith) (λ y lt nf. (refl, nf, refl))
          (does_b q.from (To None z) s1 k.local w1 (omega (arith, size, above)) inner gave.sound k.fits tt)
          (λ u s2 e2 h2.
          (let gave2 = gave_by x.program x.begun s1.memory (kind_of x.program x.tree b) (evaluate calls (depth_in x) b s1) u s2 e2 (typed_b s1 gave.sound) in
          let left : value x.unit.statics h2.reached.local.names q.left ≡ value x.unit.statics l1.names q.first =
          held_stays x.unit.statics (λ y. writes (names_in x) y b) q.first q.moved q.moved_to k.local h2.reached.local refl r.below (spares_b q.moved_to (omega (arith, r.next, size))) (λ y lt nf. h2.reached.kept y lt refl nf) ∙ k.value_is in
          finish v u s2 h2.reached.local h2.reached.world gave2.sound h2.reached.fits
          (subst (SameValue x.program s2.memory h2.reached.world.memory v) (sym left) (value_later x.program s1.memory s2.memory w1.memory h2.reached.world.memory gave2.later h2.reached.later v (value x.unit.statics l1.names q.first) h.same))
          h2.same (kind_later s1.memory s2.memory gave2.later (kind_of x.program x.tree a) v gave.is) gave2.is)))

-- what a value is for that is an operand's, too
pub aims_behind : (x : Setting) (g : Goal) (a b : RvalueTree) (t k : ℕ) → t ≤ k → Aims x g (Comma a b) t → Aims x g b k
aims_behind x (To None m) a b t k le aims = tt
aims_behind x (To (Some j) m) a b t k le aims = (omega (arith, le, aims.0), aims.1)
aims_behind x (Unused m) a b t k le aims = tt
aims_behind x (Either one other inner) a b t k le aims = tt
