-- What a function keeps in memory takes no more room in the end than at its own turn: later functions keep variables of their own.
use Rattle.std.proofs.Common.{◌≡◌, ◌≤◌, ℕ, zero, suc, ◌+◌, List, [], ◌∷◌, length, take, drop, slice_get, nat_le, true, false, Some, None, refl, sym, ap, ◌∙◌, subst, arith}
use Rattle.std.specs.Prelude.{◌==◌}
use Rattle.std.proofs.lemmas.Bool.{eqb-true}
use Rattle.c_tree.specs.Trees.{ItemTree}
use Rattle.c_tree.specs.Programs.{AutomaticTree, TypedFunctionTree, ProgramTree}
use Rattle.c_places.specs.Memory.{kept_by_all}
use Rattle.c_type_bounds.specs.Bounds.{with_one_in_memory, with_all_in_memory, memory_room, variables_of, with_kept}
use Rattle.c_type_laws.specs.Laws.{follow}
use Rattle.c_source.specs.Files.{AreItemsFormed}
use Rattle.c_source.proofs.Same.{two_true}
use Rattle.c_source.proofs.Marking.{AreWithin, AllMarked, none, one}
use Rattle.c_source.proofs.Keeping.{statements_own}
use Rattle.c_source.proofs.Programs.{Accepted, marks_of, variables_are, functions_follow}
use Rattle.c_source.proofs.Functions.{function_typed}
use Rattle.c_source.proofs.Callees.{linked}

-- variables before one that is marked
one_outside : (n m k : ℕ) (vs : List AutomaticTree) → m + n ≤ k → take n (drop m (with_one_in_memory k vs)) ≡ take n (drop m vs)
one_outside n m k [] h = refl
one_outside zero zero k (v ∷ vs) h = refl
one_outside (suc n) zero zero (v ∷ vs) h = absurd (omega (arith, h))
one_outside (suc n) zero (suc k) (v ∷ vs) h = ap (λ q. v ∷ q) (one_outside n zero k vs (omega (arith, h)))
one_outside n (suc m) zero (v ∷ vs) h = absurd (omega (arith, h))
one_outside n (suc m) (suc k) (v ∷ vs) h = one_outside n m k vs (omega (arith, h))

all_outside : (n m first end : ℕ) (ks : List ℕ) (vs : List AutomaticTree) → m + n ≤ first → AreWithin first end ks → take n (drop m (with_all_in_memory ks vs)) ≡ take n (drop m vs)
all_outside n m first end [] vs le h = refl
all_outside n m first end (k ∷ ks) vs le h = all_outside n m first end ks (with_one_in_memory k vs) le h.1 ∙ one_outside n m k vs (let at = h.0.0 in omega (arith, le, at))

-- functions that keep variables of their own
abbrev pub KeepOwn : List TypedFunctionTree → Type 0
KeepOwn [] = Unit {0}
KeepOwn (f ∷ fs) = AreWithin f.first_variable (f.first_variable + f.variables) (kept_by_all f.body []) × KeepOwn fs

later_outside : {k : ℕ} {fs : List TypedFunctionTree} {vs ws : List AutomaticTree} → AllMarked k fs vs ws → (n m next count : ℕ) → m + n ≤ next → follow next count fs ≡ true → KeepOwn fs → take n (drop m ws) ≡ take n (drop m vs)
later_outside none n m next count le h own = refl
later_outside (one {f = f} {fs = fs} {vs = vs} l rest) n m next count le h own =
    let c = two_true (f.first_variable == next) (follow (next + f.variables) count fs) h in
    let at = eqb-true f.first_variable next c.0 in
    later_outside rest n m (next + f.variables) count (omega (arith, le)) c.1 own.1 ∙ all_outside n m f.first_variable (f.first_variable + f.variables) (kept_by_all f.body []) vs (omega (arith, le, at)) own.0

room_at : {k : ℕ} {fs : List TypedFunctionTree} {vs ws : List AutomaticTree} → AllMarked k fs vs ws → (next count : ℕ) → follow next count fs ≡ true → KeepOwn fs → (j : ℕ) (f : TypedFunctionTree) → slice_get fs j ≡ Some f → nat_le (memory_room (variables_of f ws)) 4096 ≡ true
room_at none next count h own j f at = cc
room_at (one {f = g} {fs = fs} {vs = vs} {ws = ws} l rest) next count h own zero f at =
    let c = two_true (g.first_variable == next) (follow (next + g.variables) count fs) h in
    let first = eqb-true g.first_variable next c.0 in
    let same : variables_of g ws ≡ variables_of g (with_kept g vs) = later_outside rest g.variables g.first_variable (next + g.variables) count (omega (arith, first)) c.1 own.1 in
    let e : g ≡ f = cc in
    subst (λ z. nat_le (memory_room (variables_of z ws)) 4096 ≡ true) e (ap (λ l. nat_le (memory_room l) 4096) same ∙ l.room)
room_at (one {f = g} {fs = fs} l rest) next count h own (suc j) f at = room_at rest (next + g.variables) count (two_true (g.first_variable == next) (follow (next + g.variables) count fs) h).1 own.1 j f at

-- each of some functions
each_own : (fs : List TypedFunctionTree) → ((j : ℕ) (f : TypedFunctionTree) → slice_get fs j ≡ Some f → AreWithin f.first_variable (f.first_variable + f.variables) (kept_by_all f.body [])) → KeepOwn fs
each_own [] h = tt
each_own (f ∷ fs) h = (h 0 f refl, each_own fs (λ j g at. h (suc j) g at))

module _ (items : List ItemTree) (p : ProgramTree) (a : Accepted items p) (formed : AreItemsFormed items) where
  -- The variables of a function that are in memory take no more room than 4,096 bytes.
  pub function_room : (k : ℕ) (f : TypedFunctionTree) → slice_get p.functions k ≡ Some f → nat_le (memory_room (variables_of f p.automatics)) 4096 ≡ true
  function_room k f at =
      let same : p.functions ≡ a.functions = ap (λ z. z.functions) a.program in
      let own = each_own p.functions (λ j g h. statements_own p g false false None g.body [] (function_typed items p a formed (linked items p a formed) j g h).0 tt) in
      let follows = functions_follow items p a formed in
      ap (λ l. nat_le (memory_room (variables_of f l)) 4096) (variables_are items p a)
      ∙ room_at (marks_of items p a) 0 (length p.automatics) (subst (λ fs. follow 0 (length p.automatics) fs ≡ true) same follows) (subst KeepOwn same own) k f (ap (λ fs. slice_get fs k) (sym same) ∙ at)
