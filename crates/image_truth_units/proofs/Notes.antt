-- Places of the unit of a well-formed program write, note, call and read as they should.
use Rattle.std.proofs.Common.{◌≡◌, ◌⊎◌, inl, inr, ℕ, zero, suc, ◌+◌, ◌≤◌, ◌<◌, Bool, true, false, Option, Some, None, List, [], ◌∷◌, length, map, slice_get, refl, sym, ap, ◌∙◌, subst, arith, ◌==◌}
use Rattle.std.specs.Prelude.{◌||◌, ◌&&◌, nat_le, option_map}
use Rattle.std.specs.List.{list_any}
use Rattle.std.proofs.lemmas.List.{length-map}
use Rattle.places.specs.Flow.{assigns}
use Rattle.c_tree.specs.Programs.{TypedFunctionTree, ProgramTree}
use Rattle.c_places.specs.Places.{parameters_of}
use Rattle.graph_core.specs.Graphs.{NoteValue, Instruction, Marker, Note, Is, Of, Name, Scalar, End, Block, Graph, UnitForm}
use Rattle.graph_core.specs.Uses.{reads_of, reads_of_end}
use Rattle.graph_core.specs.Paths.{History, Among, front, behind, Path, place_of, is_marker, is_call, is_bound, notes, reads, written, unnoted}
use Rattle.graph_core.specs.Validity.{IsGraph}
use Rattle.graph_core.specs.WellMarked.{InPlace, WrittenIn, instruction, bound, IsVariable, IsLocal}
use Rattle.graph_build_names.specs.Names.{Names, names_of, scalar_of}
use Rattle.graph_build.specs.Units.{scalars_among, variables_in, scalar_record, bound_to, binding_of, is_again, block_count, graph_of, graphs_from}
use Rattle.graph_build_laws.proofs.Blocks.{blocks_counted}
use Rattle.graph_build_laws.proofs.Keeping.{OfFunction}
use Rattle.graph_build_laws.proofs.Accepted.{ProgramFacts}
use Rattle.image_truth_units.proofs.Waiting.{wants, wants_end}
use Rattle.image_truth_units.proofs.Allowed.{Allowed}
use Rattle.image_truth_units.proofs.Assigning.{HasAssignments, May, may_statements, may_entry}
use Rattle.image_truth_units.proofs.Graphs.{code, behind_written, end_written, call_noted, in_place_allowed}
use Rattle.graph_core_weights.proofs.Placing.{marker_is, path_in_place, path_writes}
use Rattle.base_laws.proofs.Booleans.{or_cases, or_right}
use Rattle.base_laws.proofs.Numbers.{are_equal as same_name, at_most, is_most, same_is}
use Rattle.base_laws.proofs.Options.{none_is, some_same}

among_any : (y : ℕ) (all : List ℕ) → Among y all → list_any (λ (z : ℕ). z == y) all ≡ true
among_any y [] h = elim h [ ]
among_any y (x ∷ all) front = ap (λ b. b || list_any (λ (z : ℕ). z == y) all) (same_is y)
among_any y (x ∷ all) (behind h) = or_right (x == y) (list_any (λ (z : ℕ). z == y) all) (among_any y all h)

pub of_function : (p : ProgramTree) (m : ℕ) (all : List TypedFunctionTree) (k : ℕ) (g : Graph) → slice_get (graphs_from p m all) k ≡ Some g → OfFunction p all k g
of_function p m [] k g e = absurd (none_is e)
of_function p m (f ∷ all) zero g e = record { function = f; is_main = m == p.main; is = refl; same = some_same e }
of_function p m (f ∷ all) (suc k) g e = let x = of_function p (m + 1) all k g e in record { function = x.function; is_main = x.is_main; is = x.is; same = x.same }

got_variable : (all : List Scalar) (x variable : ℕ) → option_map (λ (s : Scalar). s.variable) (slice_get all x) ≡ Some variable → x < length all
got_variable [] x variable e = absurd (none_is e)
got_variable (s ∷ all) zero variable e = omega arith
got_variable (s ∷ all) (suc x) variable e = omega (arith, got_variable all x variable e)

-- a scalar that is bound is that of a parameter
bound_of : (n : Names) (all : List ℕ) (x : ℕ) → is_bound x (map (binding_of n) all) ≡ true → (v : ℕ) × Among v all × (scalar_of n v ≡ Some x)
bound_of n [] x h = cc
bound_of n (w ∷ more) x h = by (scalar_of n w) refl h (bound_of n more x)
  where
    by : (o : Option ℕ) → scalar_of n w ≡ o → is_bound x (bound_to n o w ∷ map (binding_of n) more) ≡ true → (is_bound x (map (binding_of n) more) ≡ true → (v : ℕ) × Among v more × (scalar_of n v ≡ Some x)) →
        (v : ℕ) × Among v (w ∷ more) × (scalar_of n v ≡ Some x)
    by None e h again = let r = again h in (r.0, behind r.1, r.2)
    by (Some z) e h again = one (or_cases (z == x) (is_bound x (map (binding_of n) more)) h)
      where
        one : ((z == x) ≡ true) ⊎ (is_bound x (map (binding_of n) more) ≡ true) → (v : ℕ) × Among v (w ∷ more) × (scalar_of n v ≡ Some x)
        one (inl t) = (w, front, e ∙ ap (λ y. Some y) (same_name z x t))
        one (inr t) = let r = again t in (r.0, behind r.1, r.2)

-- A graph of a function.
module _ (p : ProgramTree) (u : UnitForm) (facts : ProgramFacts p) (has : HasAssignments p u) (k : ℕ) (f : TypedFunctionTree) (is : slice_get p.functions k ≡ Some f) (is_main : Bool) (valid : IsGraph u (graph_of p f is_main)) where
  abbrev pub graph : Graph
  graph = graph_of p f is_main

  pub counted : length graph.blocks ≡ block_count p f is_main
  counted = blocks_counted p f is_main

  scalars : length graph.scalars ≡ (code p k f is is_main facts.ascend counted).scalars
  scalars =
      let c = code p k f is is_main facts.ascend counted in
      let all = scalars_among c.names (variables_in f) in
      length-map all (scalar_record p f c.entry all)

  pub of_variable : (x variable : ℕ) → IsVariable graph x variable → x < (code p k f is is_main facts.ascend counted).scalars
  of_variable x variable h = subst (λ m. x < m) scalars (got_variable graph.scalars x variable h)

  -- whether a name is a temporary
  abbrev temp : ℕ → Bool
  temp y = nat_le (code p k f is is_main facts.ascend counted).scalars y

  far : (y : ℕ) → temp y ≡ true → (code p k f is is_main facts.ascend counted).scalars ≤ y
  far y h = at_most (code p k f is is_main facts.ascend counted).scalars y h

  is_temp : (t : ℕ) → length graph.scalars ≤ t → temp t ≡ true
  is_temp t h = is_most (code p k f is is_main facts.ascend counted).scalars t (subst (λ m. m ≤ t) scalars h)

  -- A note stands behind a write of its scalar.
  pub behind_write : (h : History) (n : ℕ) (x : ℕ) (v : NoteValue) (rest : List Instruction) (e : End) → Path graph h n (Note x v ∷ rest) e → written graph x h ≡ true
  behind_write h n x v rest e way = behind_written p k f is is_main facts.ascend counted x (temp x) (far x) h n (Note x v) rest e way (ap (λ b. b || (temp x && false)) (same_is x)) refl

  reads_no_marker : (t : ℕ) (i : Instruction) → Among t (reads_of i) → is_marker i ≡ false
  reads_no_marker t i h = by (is_marker i) refl
    where
      none : (q : ℕ) → Among t (reads_of (Marker q)) → ⊥
      none q a = elim a [ ]

      by : (b : Bool) → is_marker i ≡ b → is_marker i ≡ false
      by true m = let q = marker_is i m in absurd (none q.0 (subst (λ (j : Instruction). Among t (reads_of j)) q.1 h))
      by false m = m

  -- A temporary is read only behind a write of it in the same place.
  pub local : (h : History) (n : ℕ) (i : Instruction) (t : ℕ) (rest : List Instruction) (e : End) → IsLocal graph t → Path graph h n (i ∷ rest) e → Among t (reads_of i) → written graph t h ≡ true
  local h n i t rest e is_local way there =
      let wanted : wants graph.blocks t (temp t) i ≡ true = or_right (notes t i) (temp t && reads t i) (ap (λ b. b && reads t i) (is_temp t is_local.temporary) ∙ among_any t (reads_of i) there) in
      behind_written p k f is is_main facts.ascend counted t (temp t) (far t) h n i rest e way wanted (reads_no_marker t i there)

  pub local_at_end : (h : History) (n : ℕ) (t : ℕ) (e : End) → IsLocal graph t → Path graph h n [] e → Among t (reads_of_end e) → written graph t h ≡ true
  local_at_end h n t e is_local way there =
      let wanted : wants_end graph.blocks t (temp t) e ≡ true = ap (λ b. b && list_any (λ (z : ℕ). z == t) (reads_of_end e)) (is_temp t is_local.temporary) ∙ among_any t (reads_of_end e) there in
      end_written p k f is is_main facts.ascend counted t (temp t) (far t) h n e way wanted

  -- No call stands between a write of a scalar and its note.
  pub calls : (h : History) (n : ℕ) (i : Instruction) (x variable : ℕ) (rest : List Instruction) (e : End) → IsVariable graph x variable → Path graph h n (i ∷ rest) e → is_call i ≡ true → unnoted x h ≡ false
  calls h n i x variable rest e v way call = call_noted p k f is is_main facts.ascend counted x (of_variable x variable v) h n i rest e way call

  pub within : f.first_variable + f.variables ≤ length p.automatics
  within = facts.within k f is

  allowed : (q : ℕ) (i : Instruction) → InPlace graph q i → Allowed (code p k f is is_main facts.ascend counted).scalars (May p u has k f is within is_main q) i
  allowed q i s =
      in_place_allowed p k f is is_main facts.ascend counted (May p u has k f is within is_main) (λ v z a named. may_entry p u has k f is within is_main v z a named)
      (λ a among v y is_object named. may_statements p u has k f is within is_main a among v y is_object named) q i s

  bound_parameter : (x : ℕ) → is_bound x graph.parameters ≡ true → May p u has k f is within is_main graph.entry x
  bound_parameter x h = let r = bound_of (names_of p f (is_again p f)) (parameters_of f) x h in may_entry p u has k f is within is_main r.0 x r.1 r.2

  -- A scalar is written and noted only in places that assign its variable.
  pub written_where : (q x variable : ℕ) → IsVariable graph x variable → WrittenIn graph q x → assigns u.assignments q variable ≡ true
  written_where q x variable v (instruction i s w) = (allowed q i s).writes_may x (of_variable x variable v) w variable v
  written_where q x variable v (bound at h) = subst (λ r. assigns u.assignments r variable ≡ true) (sym at) (bound_parameter x h variable v)

  pub noted_where : (q x variable : ℕ) (v : NoteValue) → IsVariable graph x variable → InPlace graph q (Note x v) → assigns u.assignments q variable ≡ true
  noted_where q x variable v is_variable s = (allowed q (Note x v) s).note.1 variable is_variable

  begins : (b : Block) → slice_get graph.blocks 0 ≡ Some b → (rest : List Instruction) × (b.instructions ≡ Marker graph.entry ∷ rest)
  begins b e = subst (λ (d : Block). (rest : List Instruction) × (d.instructions ≡ Marker graph.entry ∷ rest)) (some_same e) (_, refl)

  -- Each note that a path comes to is of the scalar itself, in a place that writes it.
  pub right : (h : History) (n : ℕ) (q x variable : ℕ) (v : NoteValue) (rest : List Instruction) (e : End) → IsVariable graph x variable → Path graph h n (Note x v ∷ rest) e → place_of h ≡ Some q → (v ≡ Is (Of (Name x))) × WrittenIn graph q x
  right h n q x variable v rest e is_variable way at =
      let s = path_in_place u graph valid.blocks begins h n q (Note x v) rest e way refl at in
      ((allowed q (Note x v) s).note.0, path_writes u graph valid.blocks begins x q h n (Note x v ∷ rest) e way (behind_write h n x v rest e way) at)
