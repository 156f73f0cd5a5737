-- Each function of the program of an accepted source: it is well typed, what has to stand in memory does, and it keeps its limits.
use Rattle.std.proofs.Common.{◌≡◌, ◌≤◌, ℕ, zero, suc, ◌+◌, List, [], ◌∷◌, length, slice_get, nat_le, true, false, ◌&&◌, Some, None, sym, ap, ◌∙◌, subst, arith}
use Rattle.std.specs.Prelude.{◌==◌}
use Rattle.std.proofs.lemmas.Bool.{eqb-true}
use Rattle.c_tree.specs.Trees.{ItemTree}
use Rattle.c_tree.specs.Programs.{AutomaticTree, TypedFunctionTree, ProgramTree}
use Rattle.c_places.specs.Memory.{kept_by_all}
use Rattle.c_type_laws.specs.Statements.{are_statements}
use Rattle.c_type_laws.specs.Laws.{are_in_memory, declares_its_own, follow}
use Rattle.c_source.specs.Files.{AreItemsFormed, are_typed}
use Rattle.c_source.proofs.Same.{two_true}
use Rattle.c_source.proofs.Marking.{AreBelow, AreWithin, AllMarked, one, none, each_kept, are_marked}
use Rattle.c_source.proofs.Keeping.{statements_own}
use Rattle.c_source.proofs.Programs.{Accepted, AreLinked, marks_of, marks, variables_are, functions_typed, functions_follow}

-- the variables of functions that follow one another are among all
follow_within : (next count : ℕ) (fs : List TypedFunctionTree) → follow next count fs ≡ true → next ≤ count
follow_within next count [] h = let e = eqb-true next count h in omega arith
follow_within next count (f ∷ fs) h = let c = two_true (f.first_variable == next) (follow (next + f.variables) count fs) h in let le = follow_within (next + f.variables) count fs c.1 in omega arith

pub follow_range : (next count : ℕ) (fs : List TypedFunctionTree) (k : ℕ) (f : TypedFunctionTree) → follow next count fs ≡ true → slice_get fs k ≡ Some f → f.first_variable + f.variables ≤ count
follow_range next count [] k f h at = cc
follow_range next count (g ∷ fs) zero f h at =
    let c = two_true (g.first_variable == next) (follow (next + g.variables) count fs) h in
    let first = eqb-true g.first_variable next c.0 in
    let le = follow_within (next + g.variables) count fs c.1 in
    let e : g ≡ f = cc in
    subst (λ z. z.first_variable + z.variables ≤ count) e (omega (arith, first))
follow_range next count (g ∷ fs) (suc k) f h at = follow_range (next + g.variables) count fs k f (two_true (g.first_variable == next) (follow (next + g.variables) count fs) h).1 at

pub typed_at : (p : ProgramTree) (fs : List TypedFunctionTree) (k : ℕ) (f : TypedFunctionTree) → are_typed p fs ≡ true → slice_get fs k ≡ Some f → (are_statements p f false false None f.body ≡ true) × (declares_its_own f ≡ true)
typed_at p [] k f h at = cc
typed_at p (g ∷ fs) zero f h at =
    let c = two_true (are_statements p g false false None g.body && declares_its_own g) (are_typed p fs) h in
    let e : g ≡ f = cc in
    subst (λ z. (are_statements p z false false None z.body ≡ true) × (declares_its_own z ≡ true)) e (two_true (are_statements p g false false None g.body) (declares_its_own g) c.0)
typed_at p (g ∷ fs) (suc k) f h at = typed_at p fs k f (two_true (are_statements p g false false None g.body && declares_its_own g) (are_typed p fs) h).1 at

below_more : (first m n : ℕ) (ks : List ℕ) → m ≤ n → AreWithin first m ks → AreBelow n ks
below_more first m n [] le h = tt
below_more first m n (k ∷ ks) le h = ((let lt = h.0.1 in omega arith), below_more first m n ks le h.1)

pub limits_at : {n : ℕ} {fs : List TypedFunctionTree} {vs ws : List AutomaticTree} → AllMarked n fs vs ws → (k : ℕ) (f : TypedFunctionTree) → slice_get fs k ≡ Some f → (nat_le f.weight 3000 ≡ true) × (nat_le f.parameters 8 ≡ true)
limits_at none k f h = cc
limits_at (one {f = g} l rest) zero f h = let e : g ≡ f = cc in subst (λ z. (nat_le z.weight 3000 ≡ true) × (nat_le z.parameters 8 ≡ true)) e (l.weight, l.parameters)
limits_at (one l rest) (suc k) f h = limits_at rest k f h

module _ (items : List ItemTree) (p : ProgramTree) (a : Accepted items p) where
  same_function : (k : ℕ) (f : TypedFunctionTree) → slice_get p.functions k ≡ Some f → slice_get a.functions k ≡ Some f
  same_function k f h = ap (λ z. slice_get z.functions k) (sym a.program) ∙ h

  -- A function weighs no more than 3,000, and has no more than 8 parameters.
  pub function_limits : (k : ℕ) (f : TypedFunctionTree) → slice_get p.functions k ≡ Some f → (nat_le f.weight 3000 ≡ true) × (nat_le f.parameters 8 ≡ true)
  function_limits k f h = limits_at (marks_of items p a) k f (same_function k f h)

  module _ (formed : AreItemsFormed items) (linked : AreLinked items p a) where
    -- A function is well typed, and declares its own variables.
    pub function_typed : (k : ℕ) (f : TypedFunctionTree) → slice_get p.functions k ≡ Some f → (are_statements p f false false None f.body ≡ true) × (declares_its_own f ≡ true)
    function_typed k f h = typed_at p p.functions k f (functions_typed items p a formed linked) h

    -- What has to stand in memory does.
    pub function_kept : (k : ℕ) (f : TypedFunctionTree) → slice_get p.functions k ≡ Some f → are_in_memory p.automatics (kept_by_all f.body []) ≡ true
    function_kept k f h =
        let within = follow_range 0 (length p.automatics) p.functions k f (functions_follow items p a formed) h in
        let same : length p.automatics ≡ length a.progress.automatics = ap length (variables_are items p a) ∙ (marks items p a).count in
        let own = statements_own p f false false None f.body [] (function_typed k f h).0 tt in
        let below = below_more f.first_variable (f.first_variable + f.variables) (length a.progress.automatics) (kept_by_all f.body []) (omega arith) own in
        ap (λ l. are_in_memory l (kept_by_all f.body [])) (variables_are items p a) ∙ are_marked a.variables (kept_by_all f.body []) (each_kept (marks_of items p a) k f (same_function k f h) below)
