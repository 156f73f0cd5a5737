-- Calls: the arguments that fit are passed, and a call of a function gives what its type says.
use Rattle.std.proofs.Common.{◌≡◌, ℕ, zero, suc, ◌+◌, List, [], ◌∷◌, length, drop, slice_get, nat_le, Bool, true, ◌&&◌, Option, Some, None, refl, sym, ap, ◌∙◌, add-one, drop_of_length-le}
use Rattle.std.specs.Prelude.{if◌then◌else◌, map}
use Rattle.debug_records.specs.declared.source.Spot.{Spot}
use Rattle.debug_records.specs.declared.code.TheConstants.Code.{ARGUMENTS}
use Rattle.c_tree.specs.declared.object_type.Scalar.{Scalar}
use Rattle.c_tree.specs.declared.typed_expression.Callee.{Callee}
use Rattle.c_tree.specs.TypedExpressions.{ArgumentTrees}
use Rattle.c_tree.specs.TypedExpressions as argument
use Rattle.c_tree.specs.Programs.{TypedFunctionTree, ProgramTree}
use Rattle.c_type_rules.specs.Types.{loaded_type}
use Rattle.c_type_values.specs.Values.{ValueTree, converted_value}
use Rattle.c_type_laws.specs.Kinds.{of_if, is_callee, is_of, taken_by}
use Rattle.c_type_laws.specs.Expressions.{kind_of, are_passed}
use Rattle.c_type_expressions.specs.Names.{SignatureTree}
use Rattle.c_type_expressions.specs.Findings.{FoundTree, Checked, gives, check_next, faulted}
use Rattle.c_type_expressions.specs.Judgements.{Passed, passed_as, passed_to, argument_before, uncallable, noted, call_tree, called}
use Rattle.c_type_expressions.specs.Expressions.{call_meaning}
use Rattle.c_source.specs.Findings.{Grows, Accepts, IsThere, HoldsOf, Good, IsGood}
use Rattle.c_source.specs.Values.{leads_to_elements, IsTyped, Means}
use Rattle.c_source.specs.Known.{IsCalled}
use Rattle.c_source.proofs.Constants.{varies_is}
use Rattle.c_source.proofs.Same.{two_true, both}
use Rattle.c_source.proofs.Growing.{grows_itself, grows_on, no_fault_before, accepts_before, grows_undefined, more_is_some, faulted_if, fine_if, given, refused, earlier}
use Rattle.c_source.proofs.Fitting.{given_kind}
use Rattle.c_source.proofs.Values.{converted_typed}
use Rattle.c_source.proofs.Judging.{le_is}

-- the rest of a list from an element on
pub rest_from : {A : Type 0} (xs : List A) (n : ℕ) (x : A) → slice_get xs n ≡ Some x → drop n xs ≡ x ∷ drop (suc n) xs
rest_from [] n x h = cc
rest_from (y ∷ xs) zero x h = let e : y ≡ x = cc in ap (λ q. q ∷ xs) e
rest_from (y ∷ xs) (suc n) x h = rest_from xs n x h

module _ (K : Type 0) (p : ProgramTree) (f : TypedFunctionTree) where
  -- Arguments from a parameter on: where the source is accepted and each fits, they are passed.
  pub record ArePassed (parameters : List Scalar) (at : ℕ) (s : FoundTree) (q : Passed) (t : FoundTree) : Type 0 where
    pub grows : Grows s t
    pub passed : Accepts K p t → q.fit ≡ true → are_passed p f (map loaded_type (drop at parameters)) q.trees ≡ true

  abbrev pub Pass : List Scalar → ℕ → FoundTree → Checked Passed → Type 0
  Pass parameters at s (gives q t) = ArePassed parameters at s q t

  pub none_passed : (parameters : List Scalar) (at : ℕ) (s : FoundTree) → Pass parameters at s (gives (record { trees = argument.none; fit = nat_le (length parameters) at }) s)
  none_passed parameters at s =
      record { grows = grows_itself s; passed = λ e fit. let nothing : drop at parameters ≡ [] = drop_of_length-le parameters (le_is (length parameters) at fit) in ap (λ q. are_passed p f (map loaded_type q) argument.none) nothing }

  -- one argument that fits
  one_fits : (o : Option Scalar) (v : Option ValueTree) (z : Bool) → HoldsOf (IsTyped p f) v → IsThere v → (passed_to o v z).1 ≡ true → (s : Scalar) × (o ≡ Some s) × (is_of (kind_of p f (passed_to o v z).0) (loaded_type s) ≡ true)
  one_fits None v z h there fit = cc
  one_fits (Some s) None z h there fit = absurd there
  one_fits (Some s) (Some v) z h there fit = by (converted_value v (loaded_type s) z) (converted_typed p f v (loaded_type s) z h) fit
    where
      by : (c : Option ValueTree) → HoldsOf (λ (r : ValueTree). is_of (kind_of p f r.tree) (loaded_type s) ≡ true) c → (passed_as c).1 ≡ true → (r : Scalar) × (Some s ≡ Some r) × (is_of (kind_of p f (passed_as c).0) (loaded_type r) ≡ true)
      by None g fit = cc
      by (Some r) g fit = (s, refl, g)

  pub one_passed : (parameters : List Scalar) (at : ℕ) (z : Bool) (s t : FoundTree) (v : Option ValueTree) (q : Checked Passed) → Good K p (IsTyped p f) s v t → Pass parameters (at + 1) t q
      → Pass parameters at s (check_next q (argument_before (passed_to (slice_get parameters at) v z)))
  one_passed parameters at z s t v (gives q u) h g =
      record {
        grows = grows_on h.grows g.grows;
        passed = λ e fit.
            let c = two_true (passed_to (slice_get parameters at) v z).1 q.fit fit in
            let d = accepts_before g.grows e in
            let one = one_fits (slice_get parameters at) v z (h.holds d) (h.there d.faults) c.0 in
            let rest : drop at parameters ≡ one.0 ∷ drop (at + 1) parameters = rest_from parameters at one.0 one.1 ∙ ap (λ k. one.0 ∷ drop k parameters) (sym (add-one at)) in
            ap (λ l. are_passed p f (map loaded_type l) (argument.first (passed_to (slice_get parameters at) v z).0 q.trees)) rest
            ∙ both (is_of (kind_of p f (passed_to (slice_get parameters at) v z).0) (loaded_type one.0)) (are_passed p f (map loaded_type (drop (at + 1) parameters)) q.trees) one.2 (g.passed e c.1);
      }

  -- an argument before others
  pub argument_passed : (parameters : List Scalar) (at : ℕ) (z : Bool) (s : FoundTree) (v : Checked (Option ValueTree)) (others : FoundTree → Checked Passed) → IsGood K p (IsTyped p f) s v
      → ((t : FoundTree) → Pass parameters (at + 1) t (others t)) → Pass parameters at s (check_next v (λ m t. check_next (others t) (argument_before (passed_to (slice_get parameters at) m z))))
  argument_passed parameters at z s (gives v t) others h each = one_passed parameters at z s t v (others t) h (each t)

  -- a call of a function
  noted_grows : (c : Option Callee) (first : Spot) (s : FoundTree) → Grows s (noted c first s)
  noted_grows (Some c) first s = grows_itself s
  noted_grows None first s = grows_undefined first s

  call_kind : (g : SignatureTree) (c : Callee) (all : ArgumentTrees) → IsCalled p g c → are_passed p f (map loaded_type g.parameters) all ≡ true → is_of (kind_of p f (call_tree (Some c) all)) g.result ≡ true
  call_kind g c all k h =
      let fine = both (is_callee p c) (are_passed p f (taken_by p c) all) k.there (ap (λ l. are_passed p f l all) k.takes ∙ h) in
      ap (λ t. is_of (of_if (is_callee p c && are_passed p f (taken_by p c) all) t) g.result) k.gives ∙ given_kind (is_callee p c && are_passed p f (taken_by p c) all) g.result fine

  function_called : (g : SignatureTree) (first : Spot) (last : ℕ) (s : FoundTree) (q : Checked Passed) → Pass g.parameters 0 (noted g.callee first s) q → (K → (c : Callee) → g.callee ≡ Some c → IsCalled p g c)
      → IsGood K p (Means p f) s (check_next q (called g first last))
  function_called g first last s (gives q t) h known =
      let on = faulted_if q.fit ARGUMENTS first last t in
      given K p (Means p f) s (if q.fit then t else faulted ARGUMENTS first last t) _ (grows_on (noted_grows g.callee first s) (grows_on h.grows on))
      (λ e.
      let d = accepts_before on e in
      let passed = h.passed d (fine_if q.fit ARGUMENTS first last t e.faults) in
      let result = by g.callee refl passed (accepts_before h.grows d) in
      record { is = result.0; elements = result.1; constant = varies_is p f g.result })
    where
      by : (c : Option Callee) → g.callee ≡ c → are_passed p f (map loaded_type g.parameters) q.trees ≡ true → Accepts K p (noted c first s)
          → (is_of (kind_of p f (call_tree c q.trees)) g.result ≡ true) × (leads_to_elements g.result ≡ true)
      by (Some c) is passed e = let k = known e.given c is in (call_kind g c q.trees k passed, k.elements)
      by None is passed e = absurd (more_is_some s.undefined first e.undefined)

  -- a call of what is no function
  other_called : (first : Spot) (last : ℕ) (r s : FoundTree) (m : Option ValueTree) (q : Checked Passed) → Good K p (IsTyped p f) r m s → Pass [] 0 s q → IsGood K p (Means p f) r (check_next q (λ (all : Passed). uncallable first last m))
  other_called first last r s (Some v) (gives q t) h g = earlier K p (Means p f) r t _ None (grows_on h.grows g.grows) (refused K p (Means p f) t _ first last)
  other_called first last r s None (gives q t) h g = record { grows = grows_on h.grows g.grows; there = λ e. h.there (no_fault_before g.grows e); holds = λ e. tt }

  pub call_good : (o : Option SignatureTree) (operand : Checked (Option ValueTree)) (arguments : List Scalar → ℕ → FoundTree → Checked Passed) (first : Spot) (last : ℕ) (s : FoundTree)
      → (K → (g : SignatureTree) (c : Callee) → o ≡ Some g → g.callee ≡ Some c → IsCalled p g c) → IsGood K p (IsTyped p f) s operand
      → ((parameters : List Scalar) (at : ℕ) (t : FoundTree) → Pass parameters at t (arguments parameters at t)) → IsGood K p (Means p f) s (call_meaning o operand arguments first last s)
  call_good (Some g) operand arguments first last s known h each = function_called g first last s (arguments g.parameters 0 (noted g.callee first s)) (each g.parameters 0 (noted g.callee first s)) (λ k c is. known k g c refl is)
  call_good None (gives m t) arguments first last s known h each = other_called first last s t m (arguments [] 0 t) h (each [] 0 t)
