-- The places of a program that are no entries are those that the markers of its unit's graphs begin, but for their entries.
use Rattle.std.proofs.Common.{◌≡◌, ◌≢◌, ℕ, zero, suc, ◌+◌, ◌⊎◌, inl, inr, refl, sym, ap, ◌∙◌, subst, arith, ◌==◌, Bool, true, false, Some, List, [], ◌∷◌, ◌++◌, length, map, slice_get}
use Rattle.std.proofs.lemmas.Bool.{true≢false}
use Rattle.std.proofs.lemmas.Option.{none-some, same_Some}
use Rattle.c_tree.specs.Programs.{ProgramTree, TypedFunctionTree}
use Rattle.c_places.specs.Places.{Place, entry_of, places_of_function, places_of_functions, places_of_program, place_number_at}
use Rattle.c_type_laws.specs.Laws.{IsWellFormed}
use Rattle.graph_core.specs.Graphs.{Graph, UnitForm}
use Rattle.graph_core.specs.Paths.{Among, behind}
use Rattle.graph_core.specs.Validity.{markers_of_blocks}
use Rattle.graph_build.specs.Units.{graph_of, graphs_from, IsUnitOf}
use Rattle.graph_build_laws.proofs.Ascending.{AllAscend, numbered_in, places_within}
use Rattle.graph_build_laws.proofs.Accepted.{facts_of}
use Rattle.graph_build_laws.proofs.Stops.{stops_behind}
use Rattle.graph_build_laws.proofs.Markers.{graph_markers}
use Rattle.image_truth_units.proofs.Tables.{map_at, from_map, front_at, behind_at}
use Rattle.image_truth_units.proofs.ImageUnitsWhole.{of_graph}
use Rattle.image_build.specs.Tables as tables
use Rattle.rv_machine.specs.Run.{is_stop}
use Rattle.image_build.proofs.PutStops.{image_among, image_from}
use Rattle.graph_core.proofs.Among.{among_at, get_among as at_among}

-- ---- Lists

-- what stands in two lists, the one behind the other, stands in one of them
in_parts : {A : Type 0} (xs ys : List A) (k : ℕ) (x : A) → slice_get (xs ++ ys) k ≡ Some x → (slice_get xs k ≡ Some x) ⊎ ((j : ℕ) × (slice_get ys j ≡ Some x))
in_parts [] ys k x is = inr (k, is)
in_parts (y ∷ xs) ys zero x is = inl is
in_parts (y ∷ xs) ys (suc k) x is = in_parts xs ys k x is

-- ---- The places of functions

-- A place is one of a function.
record IsPlaceIn (number : ℕ) (all : List TypedFunctionTree) (q : Place) : Type 0 where
  pub function : ℕ
  pub tree : TypedFunctionTree
  pub is : slice_get all function ≡ Some tree
  pub index : ℕ
  pub at : slice_get (places_of_function (number + function) tree) index ≡ Some q

place_in : (number : ℕ) (all : List TypedFunctionTree) (i : ℕ) (q : Place) → slice_get (places_of_functions number all) i ≡ Some q → IsPlaceIn number all q
place_in number [] i q at = absurd (none-some q at)
place_in number (f ∷ all) i q at = by_part (λ j there. place_in (number + 1) all j q there) (in_parts (places_of_function number f) (places_of_functions (number + 1) all) i q at)
  where
    by_part : ((j : ℕ) → slice_get (places_of_functions (number + 1) all) j ≡ Some q → IsPlaceIn (number + 1) all q) → (slice_get (places_of_function number f) i ≡ Some q) ⊎ ((j : ℕ) × (slice_get (places_of_functions (number + 1) all) j ≡ Some q)) → IsPlaceIn number (f ∷ all) q
    by_part rest (inl here) = let none : number ≡ number + 0 = omega arith in record { function = 0; tree = f; is = refl; index = i; at = subst (λ n. slice_get (places_of_function n f) i ≡ Some q) none here }
    by_part rest (inr later) =
        let r = rest later.0 later.1 in
        let number_is : number + 1 + r.function ≡ number + suc r.function = omega arith in
        record { function = suc r.function; tree = r.tree; is = r.is; index = r.index; at = subst (λ n. slice_get (places_of_function n r.tree) r.index ≡ Some q) number_is r.at }

-- only the first place of a function is an entry
first_is_entry : (f : ℕ) (tree : TypedFunctionTree) (j : ℕ) (q : Place) → slice_get (places_of_function f tree) j ≡ Some q → q.is_entry ≡ true → q ≡ entry_of f tree
first_is_entry f tree zero q at entry = sym (same_Some (entry_of f tree) q at)
first_is_entry f tree (suc j) q at entry = absurd (true≢false (sym entry ∙ stops_behind f tree j q at))

-- the graph of a function
graph_at : (p : ProgramTree) (number : ℕ) (all : List TypedFunctionTree) (k : ℕ) (f : TypedFunctionTree) → slice_get all k ≡ Some f → (b : Bool) × (slice_get (graphs_from p number all) k ≡ Some (graph_of p f b))
graph_at p number [] k f is = absurd (none-some f is)
graph_at p number (x ∷ all) zero f is = (number == p.main, ap (λ (z : TypedFunctionTree). Some (graph_of p z (number == p.main))) (same_Some x f is))
graph_at p number (x ∷ all) (suc k) f is = graph_at p (number + 1) all k f is

-- ---- The places of a program

module _ (p : ProgramTree) (formed : IsWellFormed p) where
  ascend : AllAscend (places_of_program p)
  ascend = (facts_of p formed).ascend

  numbered : (k : ℕ) (q : Place) → slice_get (places_of_program p) k ≡ Some q → place_number_at (places_of_program p) q.spot.at ≡ k + 1
  numbered = numbered_in (places_of_program p) ascend

  -- each place of a function is one of the program's
  one_of_program : (f : ℕ) (tree : TypedFunctionTree) (j : ℕ) (q : Place) → slice_get p.functions f ≡ Some tree → slice_get (places_of_function f tree) j ≡ Some q → (i : ℕ) × (slice_get (places_of_program p) i ≡ Some q)
  one_of_program f tree j q is at =
      let none : 0 + f ≡ f = omega arith in
      let w = places_within 0 p.functions f tree is in
      let own = places_of_function (0 + f) tree in
      let here : slice_get own j ≡ Some q = ap (λ n. slice_get (places_of_function n tree) j) none ∙ at in
      (length w.before + j, ap (λ l. slice_get l (length w.before + j)) w.is ∙ behind_at w.before (own ++ w.behind) j ∙ front_at own w.behind j q here)

  -- a place is told by its number
  same_place : (i j : ℕ) (q r : Place) → slice_get (places_of_program p) i ≡ Some q → slice_get (places_of_program p) j ≡ Some r → place_number_at (places_of_program p) r.spot.at ≡ i + 1 → r ≡ q
  same_place i j q r is at number =
      let other = numbered j r at in
      let same : j ≡ i = omega (arith, number, other) in
      same_Some r q (sym at ∙ ap (slice_get (places_of_program p)) same ∙ is)

  -- The numbers of entries are those of the places that are entries.
  pub entries_tell : (i : ℕ) (q : Place) → slice_get (places_of_program p) i ≡ Some q → is_stop (map (tables.entry_of p) p.functions) (i + 1) ≡ q.is_entry
  entries_tell i q is = by_kind q.is_entry refl
    where
      entry_there : q.is_entry ≡ true → is_stop (map (tables.entry_of p) p.functions) (i + 1) ≡ true
      entry_there entry =
          let r = place_in 0 p.functions i q is in
          let same = first_is_entry (0 + r.function) r.tree r.index q r.at entry in
          image_among (tables.entry_of p) p.functions r.tree (i + 1) (at_among p.functions r.function r.tree r.is) (ap (λ (z : Place). place_number_at (places_of_program p) z.spot.at) (sym same) ∙ numbered i q is)

      no_other : q.is_entry ≡ false → (b : Bool) → is_stop (map (tables.entry_of p) p.functions) (i + 1) ≡ b → is_stop (map (tables.entry_of p) p.functions) (i + 1) ≡ false
      no_other plain false e = e
      no_other plain true e =
          let r = image_from (tables.entry_of p) p.functions (i + 1) e in
          let f = among_at p.functions r.0 r.1 in
          let at = one_of_program f.0 r.0 0 (entry_of f.0 r.0) f.1 refl in
          let same = same_place i at.0 q (entry_of f.0 r.0) is at.1 r.2 in
          absurd (true≢false (ap (λ (z : Place). z.is_entry) same ∙ plain))

      by_kind : (b : Bool) → q.is_entry ≡ b → is_stop (map (tables.entry_of p) p.functions) (i + 1) ≡ q.is_entry
      by_kind true e = entry_there e ∙ sym e
      by_kind false e = no_other e (is_stop (map (tables.entry_of p) p.functions) (i + 1)) refl ∙ sym e

  module _ (u : UnitForm) (is : IsUnitOf p u) where
    -- A place of the program that is no entry, with this number.
    pub record IsStopNumber (n : ℕ) : Type 0 where
      pub index : ℕ
      pub place : Place
      pub there : slice_get (places_of_program p) index ≡ Some place
      pub number : n ≡ index + 1
      pub stops : place.is_entry ≡ false

    -- What a marker of a graph begins, but for the graph's entry, is such a place.
    pub marked_stop : (f : ℕ) (g : Graph) (n : ℕ) → slice_get u.graphs f ≡ Some g → Among n (markers_of_blocks g.blocks) → n ≢ g.entry → IsStopNumber n
    marked_stop f g n at marker other =
        let t = of_graph p 0 p.functions f g (ap (λ l. slice_get l f) (sym is.graphs) ∙ at) in
        by_tree t.0 t.1 t.2 t.3
      where
        by_place : (tree : TypedFunctionTree) (b : Bool) → graph_of p tree b ≡ g → slice_get p.functions f ≡ Some tree → (j : ℕ) (q : Place) → slice_get (places_of_function f tree) j ≡ Some q → place_number_at (places_of_program p) q.spot.at ≡ n → IsStopNumber n
        by_place tree b same there zero q at number =
            absurd (other (sym number ∙ ap (λ (z : Place). place_number_at (places_of_program p) z.spot.at) (sym (same_Some (entry_of f tree) q at)) ∙ ap (λ (x : Graph). x.entry) same))
        by_place tree b same there (suc j) q at number =
            let i = one_of_program f tree (suc j) q there at in
            record { index = i.0; place = q; there = i.1; number = sym number ∙ numbered i.0 q i.1; stops = stops_behind f tree j q at }

        by_tree : (tree : TypedFunctionTree) (b : Bool) → slice_get p.functions f ≡ Some tree → graph_of p tree b ≡ g → IsStopNumber n
        by_tree tree b there same =
            let numbers = λ (q : Place). place_number_at (places_of_program p) q.spot.at in
            let listed = subst (Among n) (ap (λ (x : Graph). markers_of_blocks x.blocks) (sym same) ∙ graph_markers p f tree there b ascend) marker in
            let k = among_at (map (λ (q : Place). place_number_at (places_of_program p) q.spot.at) (places_of_function f tree)) n listed in
            let q = from_map (λ (q : Place). place_number_at (places_of_program p) q.spot.at) (places_of_function f tree) k.0 n k.1 in
            by_place tree b same there k.0 q.0 q.1 q.2

    -- The number of a place that a marker of a graph begins, which is not the graph's entry.
    pub record IsMarked (n : ℕ) : Type 0 where
      pub function : ℕ
      pub graph : Graph
      pub at : slice_get u.graphs function ≡ Some graph
      pub marker : Among n (markers_of_blocks graph.blocks)
      pub other : n ≢ graph.entry

    -- Each place of the program that is no entry has such a number.
    pub stop_marked : (i : ℕ) (q : Place) → slice_get (places_of_program p) i ≡ Some q → q.is_entry ≡ false → IsMarked (i + 1)
    stop_marked i q there stops =
        let r = place_in 0 p.functions i q there in
        let g = graph_at p 0 p.functions r.function r.tree r.is in
        let none : 0 + r.function ≡ r.function = omega arith in
        let own = subst (λ n. slice_get (places_of_function n r.tree) r.index ≡ Some q) none r.at in
        let listed = at_among (map (λ (q : Place). place_number_at (places_of_program p) q.spot.at) (places_of_function r.function r.tree)) r.index (i + 1)
        (map_at (λ (q : Place). place_number_at (places_of_program p) q.spot.at) (places_of_function r.function r.tree) r.index q own ∙ ap (λ n. Some n) (numbered i q there)) in
        record {
          function = r.function;
          graph = graph_of p r.tree g.0;
          at = ap (λ l. slice_get l r.function) is.graphs ∙ g.1;
          marker = subst (Among (i + 1)) (sym (graph_markers p r.function r.tree r.is g.0 ascend)) listed;
          other = λ e. let at = one_of_program r.function r.tree 0 (entry_of r.function r.tree) r.is refl in absurd (true≢false (ap (λ (z : Place). z.is_entry) (same_place i at.0 q (entry_of r.function r.tree) there at.1 (sym e)) ∙ stops));
        }
