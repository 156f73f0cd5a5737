-- Variables that are marked to be kept in memory are the same ones otherwise.
use Rattle.std.proofs.Common.{◌≡◌, ◌≤◌, ◌<◌, ℕ, zero, suc, ◌+◌, List, [], ◌∷◌, length, slice_get, nat_le, nat_lt, Bool, true, false, ◌||◌, Option, Some, None, Result, Ok, Err, refl, sym, ap, ◌∙◌, subst, arith}
use Rattle.std.specs.Prelude.{if◌then◌else◌}
use Rattle.debug_records.specs.declared.code.Code.{Code}
use Rattle.debug_records.specs.declared.code.TheConstants.Code.{FUNCTION_WEIGHT, FUNCTION_OBJECTS, FUNCTION_COUNT}
use Rattle.c_tree.specs.declared.object_type.ObjectType.{ObjectType}
use Rattle.c_tree.specs.declared.object_type.ObjectType.TheVariants as object
use Rattle.c_tree.specs.Programs.{AutomaticTree, TypedFunctionTree}
use Rattle.c_places.specs.Memory.{kept_by_all}
use Rattle.c_type_bounds.specs.Bounds.{with_one_in_memory, with_all_in_memory, memory_room, variables_of, with_kept, or_breach, behind_function, behind_functions}
use Rattle.c_type_laws.specs.Laws.{is_in_memory, are_in_memory}
use Rattle.c_type_laws.specs.Names.{is_named, automatics_named}
use Rattle.c_type_laws.specs.Objects.{is_kept_array, arrays_are_kept}
use Rattle.c_source.proofs.Same.{two_true, both}
use Rattle.base_laws.proofs.Numbers.{at_least as at_most, not_less as at_most_is}

-- One variable, and the same one as it is marked.
pub record MarkedAs (a b : AutomaticTree) : Type 0 where
  pub of : b.of ≡ a.of
  pub spot : b.spot ≡ a.spot
  pub in_memory : a.in_memory ≡ true → b.in_memory ≡ true

-- Variables as they are marked.
pub record Marks (vs ws : List AutomaticTree) : Type 0 where
  pub count : length ws ≡ length vs
  pub each : (x : ℕ) (a : AutomaticTree) → slice_get vs x ≡ Some a → (b : AutomaticTree) × (slice_get ws x ≡ Some b) × MarkedAs a b
  pub arrays : arrays_are_kept vs ≡ true → arrays_are_kept ws ≡ true
  pub names : automatics_named vs ≡ true → automatics_named ws ≡ true

pub marks_itself : (vs : List AutomaticTree) → Marks vs vs
marks_itself vs = record { count = refl; each = λ x a h. (a, h, record { of = refl; spot = refl; in_memory = λ e. e }); arrays = λ h. h; names = λ h. h }

pub marks_on : {us vs ws : List AutomaticTree} → Marks us vs → Marks vs ws → Marks us ws
marks_on g h =
    record {
      count = h.count ∙ g.count;
      each = λ x a e.
          let b = g.each x a e in
          let c = h.each x b.0 b.1 in
          (c.0, c.1, record { of = c.2.of ∙ b.2.of; spot = c.2.spot ∙ b.2.spot; in_memory = λ m. c.2.in_memory (b.2.in_memory m) });
      arrays = λ e. h.arrays (g.arrays e);
      names = λ e. h.names (g.names e);
    }

kept_count : (k : ℕ) (vs : List AutomaticTree) → length (with_one_in_memory k vs) ≡ length vs
kept_count k [] = refl
kept_count zero (v ∷ vs) = refl
kept_count (suc k) (v ∷ vs) = ap suc (kept_count k vs)

kept_each : (k : ℕ) (vs : List AutomaticTree) (x : ℕ) (a : AutomaticTree) → slice_get vs x ≡ Some a → (b : AutomaticTree) × (slice_get (with_one_in_memory k vs) x ≡ Some b) × MarkedAs a b
kept_each k [] x a h = cc
kept_each zero (v ∷ vs) zero a h = let e : v ≡ a = cc in (record v { in_memory = true }, refl, record { of = ap (λ z. z.of) e; spot = ap (λ z. z.spot) e; in_memory = λ m. refl })
kept_each zero (v ∷ vs) (suc x) a h = (a, h, record { of = refl; spot = refl; in_memory = λ e. e })
kept_each (suc k) (v ∷ vs) zero a h = (a, h, record { of = refl; spot = refl; in_memory = λ e. e })
kept_each (suc k) (v ∷ vs) (suc x) a h = kept_each k vs x a h

more_kept : (m : Bool) (of : ObjectType) → is_kept_array m of ≡ true → is_kept_array true of ≡ true
more_kept m (object.Scalar s) h = refl
more_kept m (object.Array e n) h = let c = two_true (nat_le 1 n) m h in both (nat_le 1 n) true c.0 refl

kept_arrays : (k : ℕ) (vs : List AutomaticTree) → arrays_are_kept vs ≡ true → arrays_are_kept (with_one_in_memory k vs) ≡ true
kept_arrays k [] h = refl
kept_arrays zero (v ∷ vs) h = let c = two_true (is_kept_array v.in_memory v.of) (arrays_are_kept vs) h in both (is_kept_array true v.of) (arrays_are_kept vs) (more_kept v.in_memory v.of c.0) c.1
kept_arrays (suc k) (v ∷ vs) h = let c = two_true (is_kept_array v.in_memory v.of) (arrays_are_kept vs) h in both (is_kept_array v.in_memory v.of) (arrays_are_kept (with_one_in_memory k vs)) c.0 (kept_arrays k vs c.1)

kept_names : (k : ℕ) (vs : List AutomaticTree) → automatics_named vs ≡ true → automatics_named (with_one_in_memory k vs) ≡ true
kept_names k [] h = refl
kept_names zero (v ∷ vs) h = h
kept_names (suc k) (v ∷ vs) h = let c = two_true (is_named v.name v.of) (automatics_named vs) h in both (is_named v.name v.of) (automatics_named (with_one_in_memory k vs)) c.0 (kept_names k vs c.1)

pub kept_marks : (k : ℕ) (vs : List AutomaticTree) → Marks vs (with_one_in_memory k vs)
kept_marks k vs = record { count = kept_count k vs; each = λ x a h. kept_each k vs x a h; arrays = λ h. kept_arrays k vs h; names = λ h. kept_names k vs h }

pub all_marks : (ks : List ℕ) (vs : List AutomaticTree) → Marks vs (with_all_in_memory ks vs)
all_marks [] vs = marks_itself vs
all_marks (k ∷ ks) vs = marks_on (kept_marks k vs) (all_marks ks (with_one_in_memory k vs))

-- what is marked is in memory
marked_here : (k : ℕ) (vs : List AutomaticTree) → k < length vs → is_in_memory (slice_get (with_one_in_memory k vs) k) ≡ true
marked_here k [] h = absurd (omega (arith, h))
marked_here zero (v ∷ vs) h = refl
marked_here (suc k) (v ∷ vs) h = marked_here k vs (omega (arith, h))

pub stays_marked : {vs ws : List AutomaticTree} → Marks vs ws → (x : ℕ) → is_in_memory (slice_get vs x) ≡ true → is_in_memory (slice_get ws x) ≡ true
stays_marked {vs = vs} {ws = ws} m x h = by (slice_get vs x) refl h
  where
    by : (o : Option AutomaticTree) → slice_get vs x ≡ o → is_in_memory o ≡ true → is_in_memory (slice_get ws x) ≡ true
    by (Some a) e g = let b = m.each x a e in ap is_in_memory b.1 ∙ b.2.in_memory g
    by None e g = cc

-- each of some numbers is less than a number
abbrev pub AreBelow : ℕ → List ℕ → Type 0
AreBelow n [] = Unit {0}
AreBelow n (k ∷ ks) = (k < n) × AreBelow n ks

-- each of some numbers is within others
abbrev pub AreWithin : (first end : ℕ) → List ℕ → Type 0
AreWithin first end [] = Unit {0}
AreWithin first end (k ∷ ks) = ((first ≤ k) × (k < end)) × AreWithin first end ks

abbrev pub AreMarked : List AutomaticTree → List ℕ → Type 0
AreMarked vs [] = Unit {0}
AreMarked vs (k ∷ ks) = (is_in_memory (slice_get vs k) ≡ true) × AreMarked vs ks

marked_after : {vs ws : List AutomaticTree} → Marks vs ws → (ks : List ℕ) → AreMarked vs ks → AreMarked ws ks
marked_after m [] h = tt
marked_after m (k ∷ ks) h = (stays_marked m k h.0, marked_after m ks h.1)

all_marked : (ks : List ℕ) (vs : List AutomaticTree) → AreBelow (length vs) ks → AreMarked (with_all_in_memory ks vs) ks
all_marked [] vs h = tt
all_marked (k ∷ ks) vs h =
    (stays_marked (all_marks ks (with_one_in_memory k vs)) k (marked_here k vs h.0), all_marked ks (with_one_in_memory k vs) (subst (λ n. AreBelow n ks) (sym (kept_count k vs)) h.1))

pub are_marked : (vs : List AutomaticTree) (ks : List ℕ) → AreMarked vs ks → are_in_memory vs ks ≡ true
are_marked vs [] h = refl
are_marked vs (k ∷ ks) h = both (is_in_memory (slice_get vs k)) (are_in_memory vs ks) h.0 (are_marked vs ks h.1)

-- What a function that keeps its limits weighs and has.
pub record Limits (number : ℕ) (f : TypedFunctionTree) (vs : List AutomaticTree) : Type 0 where
  pub weight : nat_le f.weight 3000 ≡ true
  pub room : nat_le (memory_room (variables_of f (with_kept f vs))) 4096 ≡ true
  pub number_is : number ≤ 255
  pub parameters : nat_le f.parameters 8 ≡ true

-- the answer for one function
function_marks : (number : ℕ) (f : TypedFunctionTree) (vs ws : List AutomaticTree) → behind_function number f vs ≡ Ok ws → (ws ≡ with_kept f vs) × Limits number f vs
function_marks number f vs ws h = by (nat_lt 3000 f.weight) (nat_lt 4096 (memory_room (variables_of f (with_kept f vs)))) (nat_lt 255 number) (nat_lt 8 f.parameters) refl refl refl refl h
  where
    by : (a b c d : Bool) → nat_lt 3000 f.weight ≡ a → nat_lt 4096 (memory_room (variables_of f (with_kept f vs))) ≡ b → nat_lt 255 number ≡ c → nat_lt 8 f.parameters ≡ d
        → or_breach (if a then Some FUNCTION_WEIGHT else (if b then Some FUNCTION_OBJECTS else (if c || d then Some FUNCTION_COUNT else None))) f.spot.line (with_kept f vs) ≡ Ok ws → (ws ≡ with_kept f vs) × Limits number f vs
    by true b c d ea eb ec ed h = cc
    by false true c d ea eb ec ed h = cc
    by false false true d ea eb ec ed h = cc
    by false false false true ea eb ec ed h = cc
    by false false false false ea eb ec ed h =
        let is : ws ≡ with_kept f vs = cc in
        (is, record { weight = at_most 3000 f.weight ea; room = at_most 4096 (memory_room (variables_of f (with_kept f vs))) eb; number_is = at_most_is 255 number ec; parameters = at_most 8 f.parameters ed })

-- The functions of a source, each with the variables as they are marked before it, and as they are in the end.
pub data AllMarked : ℕ → List TypedFunctionTree → List AutomaticTree → List AutomaticTree → Type 0 where
  none : {n : ℕ} {vs : List AutomaticTree} → AllMarked n [] vs vs
  one : {n : ℕ} {f : TypedFunctionTree} {fs : List TypedFunctionTree} {vs ws : List AutomaticTree} → Limits n f vs → AllMarked (n + 1) fs (with_kept f vs) ws → AllMarked n (f ∷ fs) vs ws

-- the functions behind one
abbrev next_functions : ℕ → List TypedFunctionTree → Result (List AutomaticTree) (Code × ℕ) → Result (List AutomaticTree) (Code × ℕ)
next_functions n fs r = elim r [ Ok xs ↦ behind_functions n fs xs | Err e ↦ Err e ]

pub functions_mark : (number : ℕ) (fs : List TypedFunctionTree) (vs ws : List AutomaticTree) → behind_functions number fs vs ≡ Ok ws → AllMarked number fs vs ws
functions_mark number [] vs ws h = let e : vs ≡ ws = cc in subst (AllMarked number [] vs) e none
functions_mark number (f ∷ fs) vs ws h = by (behind_function number f vs) refl h (λ xs k. functions_mark (number + 1) fs xs ws k)
  where
    by : (r : Result (List AutomaticTree) (Code × ℕ)) → behind_function number f vs ≡ r → next_functions (number + 1) fs r ≡ Ok ws
        → ((xs : List AutomaticTree) → behind_functions (number + 1) fs xs ≡ Ok ws → AllMarked (number + 1) fs xs ws) → AllMarked number (f ∷ fs) vs ws
    by (Ok xs) e k rest = let c = function_marks number f vs xs e in one c.1 (subst (λ z. AllMarked (number + 1) fs z ws) c.0 (rest xs k))
    by (Err e) d k rest = cc

pub marked_marks : {n : ℕ} {fs : List TypedFunctionTree} {vs ws : List AutomaticTree} → AllMarked n fs vs ws → Marks vs ws
marked_marks (none {vs = vs}) = marks_itself vs
marked_marks (one {f = f} {vs = vs} l rest) = marks_on (all_marks (kept_by_all f.body []) vs) (marked_marks rest)

-- what each function keeps is in memory in the end
pub each_kept : {n : ℕ} {fs : List TypedFunctionTree} {vs ws : List AutomaticTree} → AllMarked n fs vs ws → (k : ℕ) (f : TypedFunctionTree) → slice_get fs k ≡ Some f → AreBelow (length vs) (kept_by_all f.body []) → AreMarked ws (kept_by_all f.body [])
each_kept none k f h below = cc
each_kept (one {f = g} {vs = vs} {ws = ws} l rest) zero f h below =
    let e : g ≡ f = cc in subst (λ z. AreMarked ws (kept_by_all z.body [])) e (marked_after (marked_marks rest) (kept_by_all g.body []) (all_marked (kept_by_all g.body []) vs (subst (λ z. AreBelow (length vs) (kept_by_all z.body [])) (sym e) below)))
each_kept (one {f = g} {vs = vs} l rest) (suc k) f h below = each_kept rest k f h (subst (λ n. AreBelow n (kept_by_all f.body [])) (sym (all_marks (kept_by_all g.body []) vs).count) below)

-- there are no more functions than 256
pub few : {n : ℕ} {fs : List TypedFunctionTree} {vs ws : List AutomaticTree} → AllMarked n fs vs ws → n ≤ 256 → n + length fs ≤ 256
few none h = omega (arith, h)
few (one l rest) h = let n = l.number_is in let r = few rest (omega (arith, n)) in omega (arith, r)
