-- What is done at a point, by the numbers of what is placed and by those of temporaries.
use Rattle.std.proofs.Common.{◌≡◌, ℕ, zero, suc, ◌+◌, ◌≤◌, List, [], ◌∷◌, ◌++◌, length, take, Option, Some, None, refl, sym, ap, ◌∙◌, subst, arith}
use Rattle.std.specs.Prelude.{slice_get, slice_index_or}
use Rattle.std.proofs.Math.Seq.{take-length}
use Rattle.std.proofs.lemmas.Option.{none-some, same_Some}
use Rattle.graph_core.specs.declared.name.Name as declared-name
use Rattle.graph_core.specs.Graphs.{Instruction, Block}
use Rattle.graph_core.specs.Computations.{Computation}
use Rattle.motion_pass_points.specs.Ways.{Point, IsCome, IsInserted}
use Rattle.motion_pass_points.specs.MotionPointsComputing.{doing}
use Rattle.motion_pass_problems.proofs.Inner.{at_inside}
use Rattle.motion_pass_placement.specs.declared.placement.Placement.{Placement}
use Rattle.motion_pass_placement.specs.Placed.{AreNumbered, nothing_yet, and_none, and_one, AreDone, none_done, one_done, one_passed, all_of}
use Rattle.motion_pass_placement.specs.Moving as moving
use Rattle.motion_pass_placement.specs.Moving.{IsDoneAt, AreDoneAt}
use Rattle.motion_pass.specs.Placing.{with_temporaries}

abbrev Names : Type 0
Names = List (Option declared-name.Name)

-- Temporaries are numbered on from a name, the first of them first.
pub data NamedOn : (first : ℕ) → Names → (end : ℕ) → Type 0 where
  no_name : {first : ℕ} → NamedOn first [] first
  unnamed : {first end : ℕ} {names : Names} → NamedOn first names end → NamedOn first (None ∷ names) end
  named : {first end : ℕ} {x : declared-name.Name} {names : Names} → x.0 ≡ first → NamedOn (suc first) names end → NamedOn first (Some x ∷ names) end

unnamed_last : {first end : ℕ} {names : Names} → NamedOn first names end → NamedOn first (names ++ None ∷ []) end
unnamed_last no_name = unnamed no_name
unnamed_last (unnamed more) = unnamed (unnamed_last more)
unnamed_last (named is more) = named is (unnamed_last more)

named_last : {first end : ℕ} {names : Names} {x : declared-name.Name} → NamedOn first names end → x.0 ≡ end → NamedOn first (names ++ Some x ∷ []) (suc end)
named_last no_name is = named is no_name
named_last (unnamed more) is = unnamed (named_last more is)
named_last (named first_is more) is = named first_is (named_last more is)

pub named_on : {first end : ℕ} {names : Names} → AreNumbered first names end → NamedOn first names end
named_on nothing_yet = no_name
named_on (and_none more) = unnamed_last (named_on more)
named_on (and_one more is) = named_last (named_on more) is

-- there are as many temporaries as computations that have one
pub count_named : {first end : ℕ} {names : Names} → NamedOn first names end → (all : List Computation) → length names ≡ length all → end ≡ first + length (with_temporaries all names)
count_named no_name [] same = omega arith
count_named no_name (e ∷ all) same = absurd (omega (arith, same))
count_named (unnamed more) [] same = absurd (omega (arith, same))
count_named (unnamed more) (e ∷ all) same = count_named more all (omega (arith, same))
count_named (named is more) [] same = absurd (omega (arith, same))
count_named (named is more) (e ∷ all) same = (let rest = count_named more all (omega (arith, same)) in omega (arith, rest))

-- a computation's temporary has its number
pub temporary_at : {first end : ℕ} {names : Names} → NamedOn first names end → (all : List Computation) (k : ℕ) (e : Computation) (t : declared-name.Name) → slice_get all k ≡ Some e → slice_index_or names k None ≡ Some t
    → (j : ℕ) × ((slice_get (with_temporaries all names) j ≡ Some e) × (t.0 ≡ first + j))
temporary_at no_name all k e t at is = absurd (none-some t is)
temporary_at (unnamed more) [] k e t at is = absurd (none-some e at)
temporary_at (unnamed more) (d ∷ all) zero e t at is = absurd (none-some t is)
temporary_at (unnamed more) (d ∷ all) (suc k) e t at is = temporary_at more all k e t at is
temporary_at (named same more) [] k e t at is = absurd (none-some e at)
temporary_at (named {first} {x} same more) (d ∷ all) zero e t at is = (let one = ap (λ (n : declared-name.Name). n.0) (same_Some x t is) in (0, (at, omega (arith, one, same))))
temporary_at (named same more) (d ∷ all) (suc k) e t at is = (let rest = temporary_at more all k e t at is in (suc rest.0, (rest.1.0, omega (arith, rest.1.1))))

module _ (blocks : List Block) (p : Point) where
  -- What is done at a point, of computations with their temporaries.
  pub data PairsDone : List Computation → Names → List Instruction → Type 0 where
    no_pair : PairsDone [] [] []
    pair_done : {e : Computation} {t : declared-name.Name} {all : List Computation} {names : Names} {made : List Instruction} → IsInserted blocks e p → PairsDone all names made → PairsDone (e ∷ all) (Some t ∷ names) (doing t.0 e ∷ made)
    pair_passed : {e : Computation} {o : Option declared-name.Name} {all : List Computation} {names : Names} {made : List Instruction} → (IsInserted blocks e p → ⊥) → PairsDone all names made → PairsDone (e ∷ all) (o ∷ names) made

  done_last : {all : List Computation} {names : Names} {made : List Instruction} (e : Computation) (t : declared-name.Name) → IsInserted blocks e p → PairsDone all names made → PairsDone (all ++ e ∷ []) (names ++ Some t ∷ []) (made ++ doing t.0 e ∷ [])
  done_last e t is no_pair = pair_done is no_pair
  done_last e t is (pair_done so more) = pair_done so (done_last e t is more)
  done_last e t is (pair_passed so more) = pair_passed so (done_last e t is more)

  passed_last : {all : List Computation} {names : Names} {made : List Instruction} (e : Computation) (o : Option declared-name.Name) → (IsInserted blocks e p → ⊥) → PairsDone all names made → PairsDone (all ++ e ∷ []) (names ++ o ∷ []) made
  passed_last e o is no_pair = pair_passed is no_pair
  passed_last e o is (pair_done so more) = pair_done so (passed_last e o is more)
  passed_last e o is (pair_passed so more) = pair_passed so (passed_last e o is more)

  -- nothing is done
  pub pairs_none : (all : List Computation) (names : Names) → length names ≡ length all → ((j : ℕ) (d : Computation) → slice_get all j ≡ Some d → IsInserted blocks d p → ⊥) → PairsDone all names []
  pairs_none [] [] same never = no_pair
  pairs_none [] (o ∷ names) same never = absurd (omega (arith, same))
  pairs_none (e ∷ all) [] same never = absurd (omega (arith, same))
  pairs_none (e ∷ all) (o ∷ names) same never = pair_passed (never 0 e refl) (pairs_none all names (omega (arith, same)) (λ j d at. never (suc j) d at))

  -- just one is done
  pub pairs_one : (all : List Computation) (names : Names) (k : ℕ) (e : Computation) (t : declared-name.Name) → length names ≡ length all → slice_get all k ≡ Some e → slice_index_or names k None ≡ Some t → IsInserted blocks e p
      → ((j : ℕ) (d : Computation) → slice_get all j ≡ Some d → IsInserted blocks d p → j ≡ k) → PairsDone all names (doing t.0 e ∷ [])
  pairs_one [] names k e t same at is inserted only = absurd (none-some e at)
  pairs_one (d ∷ all) [] k e t same at is inserted only = absurd (none-some t is)
  pairs_one (d ∷ all) (o ∷ names) zero e t same at is inserted only =
      subst (λ c. PairsDone (c ∷ all) (o ∷ names) (doing t.0 e ∷ [])) (sym (same_Some d e at))
      (subst (λ n. PairsDone (e ∷ all) (n ∷ names) (doing t.0 e ∷ [])) (sym is) (pair_done inserted (pairs_none all names (omega (arith, same)) (λ j c there so. (let first = only (suc j) c there so in omega (arith, first))))))
  pairs_one (d ∷ all) (o ∷ names) (suc k) e t same at is inserted only =
      pair_passed (λ so. (let first = only 0 d refl so in omega (arith, first))) (pairs_one all names k e t (omega (arith, same)) at is inserted (λ j c there so. (let next = only (suc j) c there so in omega (arith, next))))

  -- by temporaries
  pub done_at : {first end : ℕ} {names : Names} {all : List Computation} {made : List Instruction} → IsCome blocks p → NamedOn first names end → PairsDone all names made → AreDoneAt blocks p first (with_temporaries all names) made
  done_at come no_name no_pair = moving.no_computation
  done_at come (unnamed more) (pair_passed so rest) = done_at come more rest
  done_at come (named is more) (pair_passed so rest) = moving.one_passed (λ d. so d.1) (done_at come more rest)
  done_at come (named {first} {x} is more) (pair_done {e} {t} {all} {names} {made} so rest) = subst (λ n. AreDoneAt blocks p first (e ∷ with_temporaries all names) (doing n e ∷ made)) (sym is) (moving.one_done (come, so) (done_at come more rest))

  -- nothing is done
  pub none_done_at : ((e : Computation) → IsDoneAt blocks e p → ⊥) → (first : ℕ) (treated : List Computation) → AreDoneAt blocks p first treated []
  none_done_at never first [] = moving.no_computation
  none_done_at never first (e ∷ treated) = moving.one_passed (never e) (none_done_at never (suc first) treated)

take_snoc : {A : Type 0} (xs : List A) (k : ℕ) (x : A) → slice_get xs k ≡ Some x → take (suc k) xs ≡ take k xs ++ x ∷ []
take_snoc [] k x at = absurd (none-some x at)
take_snoc (y ∷ xs) zero x at = ap (λ z. z ∷ []) (same_Some y x at)
take_snoc (y ∷ xs) (suc k) x at = ap (λ zs. y ∷ zs) (take_snoc xs k x at)

name_there : (names : Names) (k : ℕ) (t : declared-name.Name) → slice_index_or names k None ≡ Some t → slice_get names k ≡ Some (Some t)
name_there [] k t is = absurd (none-some t is)
name_there (o ∷ names) zero t is = ap Some is
name_there (o ∷ names) (suc k) t is = name_there names k t is

module _ (blocks : List Block) (p : Placement) (at : Point) (same : length p.temporaries.items ≡ length (all_of p)) where
  pairs_first : {k : ℕ} {made : List Instruction} → AreDone blocks p at k made → k ≤ length (all_of p) → PairsDone blocks at (take k (all_of p)) (take k p.temporaries.items) made
  pairs_first none_done le = no_pair
  pairs_first (one_done {k} {done = made} {e} {t} was is by_name inserted) le =
      subst (λ all. PairsDone blocks at all (take (suc k) p.temporaries.items) (made ++ doing t.0 e ∷ [])) (sym (take_snoc (all_of p) k e is))
      (subst (λ names. PairsDone blocks at (take k (all_of p) ++ e ∷ []) names (made ++ doing t.0 e ∷ [])) (sym (take_snoc p.temporaries.items k (Some t) (name_there p.temporaries.items k t by_name)))
      (done_last blocks at e t inserted (pairs_first was (omega (arith, le)))))
  pairs_first (one_passed {k} {done = made} was never) le =
      let one = at_inside (all_of p) k (omega (arith, le)) in
      let name = at_inside p.temporaries.items k (omega (arith, le, same)) in
      subst (λ all. PairsDone blocks at all (take (suc k) p.temporaries.items) made) (sym (take_snoc (all_of p) k one.0 one.1))
      (subst (λ names. PairsDone blocks at (take k (all_of p) ++ one.0 ∷ []) names made) (sym (take_snoc p.temporaries.items k name.0 name.1))
      (passed_last blocks at one.0 name.0 (never one.0 one.1) (pairs_first was (omega (arith, le)))))

  -- what is done of all computations
  pub all_pairs : {made : List Instruction} → AreDone blocks p at (length (all_of p)) made → PairsDone blocks at (all_of p) p.temporaries.items made
  all_pairs {made} are =
      subst (λ all. PairsDone blocks at all p.temporaries.items made) (take-length (all_of p))
      (subst (λ names. PairsDone blocks at (take (length (all_of p)) (all_of p)) names made) (ap (λ n. take n p.temporaries.items) (sym same) ∙ take-length p.temporaries.items) (pairs_first are (omega arith)))
