-- A unit shares no more registers than it may have scalars.
use Rattle.std.proofs.Common.{◌≡◌, ℕ, suc, ◌+◌, ◌*◌, ◌<◌, ◌≤◌, inl, inr, List, [], ◌∷◌, length, length-append, map, get_or, ap, ◌∙◌, arith}
use Rattle.std.specs.Prelude.{AllPairs}
use Rattle.std.specs.List.{All}
use Rattle.std.proofs.lemmas.List.{length-map}
use Rattle.std.proofs.lemmas.Option.{slice_get-get_or, slice_get_within}
use Rattle.graph_core.specs.Graphs.{Graph, Logged, UnitForm}
use Rattle.graph_core.specs.Paths.{Among}
use Rattle.graph_core.specs.Validity.{IsGraph, IsValid}
use Rattle.graph_core.proofs.Among.{get_among, one_of_all}
use Rattle.graph_homes.specs.Homed.{HomedForm, home_of}
use Rattle.home_assign.specs.Changes.{HaveChanges, IsBefore, IsSharing, Sharing, homes_pass}
use Rattle.home_assign.specs.Sharing.{change_of}

-- the number of a scalar among those that all functions may have
abbrev key : Sharing → ℕ
key s = s.function * 3000 + s.number

before_key : (s t : Sharing) → s.number < 3000 → IsBefore s t → key s < key t
before_key s t low (inl f) = let less : s.function < t.function = f in omega (arith, less, low)
before_key s t low (inr b) = let same : s.function ≡ t.function = b.0 in let less : s.number < t.number = b.1 in omega (arith, same, less)

-- what is known of a scalar of a unit
record IsOfUnit (least : ℕ) (s : Sharing) : Type 0 where
  at_least : least ≤ key s
  low : s.number < 3000
  below : key s < 768000

few_from : (all : List Sharing) (least : ℕ) → AllPairs IsBefore all → All (IsOfUnit least) all → least ≤ 768000 → length all + least ≤ 768000
few_from [] least pairs each most = omega (arith, most)
few_from (s ∷ all) least pairs each most =
    let here = each 0 s (omega arith) in
    let rest = few_from all (key s + 1) (λ i j d below within. pairs (suc i) (suc j) d (omega (arith, below)) (omega (arith, within)))
    (λ j d within.
    let other = each (suc j) d (omega (arith, within)) in
    let up = before_key s (get_or all j d) here.low (pairs 0 (suc j) d (omega arith) (omega (arith, within))) in
    record { at_least = omega (arith, up); low = other.low; below = other.below })
    (omega (arith, here.below)) in
    omega (arith, rest, here.at_least)

module _ (u : UnitForm) (h : HomedForm) (valid : IsValid u) where
  of_unit : (s : Sharing) → IsSharing u.log u.graphs (home_of h) s → IsOfUnit 0 s
  of_unit s is =
      let graph : IsGraph u is.graph = one_of_all (IsGraph u) u.graphs is.graph valid.graphs (get_among u.graphs s.function is.graph is.is) in
      let function : s.function < length u.graphs = slice_get_within u.graphs s.function is.graph is.is in
      let functions : length u.graphs ≤ 256 = valid.functions in
      let number : s.number < length is.graph.scalars = slice_get_within is.graph.scalars s.number s.scalar is.of in
      let names : is.graph.name_count ≤ 3000 = graph.names in
      let low : s.number < 3000 = omega (arith, number, graph.scalars, graph.temporaries, names) in
      record { at_least = omega arith; low = low; below = omega (arith, function, functions, low) }

  -- So many changes of registers that are shared stand behind its log.
  pub few_shared : HaveChanges u h → length h.unit.log ≤ length u.log + 768000
  few_shared changes =
      let all = changes.sharings in
      let told : List Logged = map (λ (s : Sharing). change_of homes_pass s.scalar) all in
      let few = few_from all 0 changes.in_order (λ i d within. of_unit (get_or all i d) (changes.only (get_or all i d) (get_among all i (get_or all i d) (slice_get-get_or all i d within)))) (omega arith) in
      let many : length told ≡ length all = length-map all (λ (s : Sharing). change_of homes_pass s.scalar) in
      let log : length h.unit.log ≡ length u.log + length told = ap length changes.log ∙ length-append u.log told in
      omega (arith, few, many, log)
