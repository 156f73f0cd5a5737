-- The blocks of a function have a property of the rules behind their markers.
use Rattle.std.proofs.Common.{◌≡◌, ℕ, Bool, true, false, Option, Some, None, List, [], ◌∷◌, refl, sym, subst, arith, if◌then◌else◌}
use Rattle.c_tree.specs.Programs.{TypedFunctionTree}
use Rattle.c_places.specs.Places.{parameters_of}
use Rattle.c_flow.specs.Assigns.{assigned_by_statements}
use Rattle.c_flow.specs.Flow.{edge, start_of_all, ways_of_body, flow_of_all, flow_of_function}
use Rattle.graph_core.specs.Graphs as unit
use Rattle.graph_core.specs.Paths.{Among, front, behind}
use Rattle.graph_build_names.specs.Names.{Names, scalar_of}
use Rattle.graph_build_steps.specs.Drafts.{Made, ending, note}
use Rattle.graph_build_statements.specs.Coding.{Part, place_of, going}
use Rattle.graph_build.specs.Units.{note_if, note_parameters, add_close, body_part, function_part}
use Rattle.graph_build_laws.specs.Passing.{Grows}
use Rattle.graph_build_laws.proofs.GraphMarkingPieces.{grows_none}
use Rattle.image_truth_units.proofs.Growing.{going_grows}
use Rattle.image_truth_units.proofs.Statements.{Marks, M, MayAll, HoldAlong, Holds, Adds, adds_on, no_part, parts, going_has, place_adds, statements_have}

pub noted_inner : (n : Names) (all : List ℕ) (m : Made) → (note_parameters n all m).inner ≡ m.inner
noted_inner n [] m = refl
noted_inner n (v ∷ more) m = by (scalar_of n v) (noted_inner n more m)
  where
    by : (o : Option ℕ) → (note_parameters n more m).inner ≡ m.inner → (note_if n o (note_parameters n more m)).inner ≡ m.inner
    by None e = e
    by (Some y) e = e

module _ (x : Marks) where
  -- the note of a parameter's scalar keeps the property in a place
  abbrev pub KeepsNote : (at : ℕ) → (all : List ℕ) → Type 0
  KeepsNote at all = (v y : ℕ) → Among v all → scalar_of x.code.names v ≡ Some y → (m : Made) → M x at m → M x at (note y m)

  noted_all : (at : ℕ) (all : List ℕ) (m : Made) → KeepsNote at all → M x at m → M x at (note_parameters x.code.names all m)
  noted_all at [] m h k = k
  noted_all at (v ∷ more) m h k = by (scalar_of x.code.names v) refl (noted_all at more m (λ w y a e. h w y (behind a) e) k)
    where
      by : (o : Option ℕ) → scalar_of x.code.names v ≡ o → M x at (note_parameters x.code.names more m) → M x at (note_if x.code.names o (note_parameters x.code.names more m))
      by None e k = k
      by (Some y) e k = h v y front e (note_parameters x.code.names more m) k

  close_adds : (is_main : Bool) (closing : Option ℕ) (part : Part) → Adds x (add_close x.code is_main closing part) part
  close_adds is_main None part = no_part x part
  close_adds is_main (Some at) part =
      let a = if is_main then Some (unit.Constant 0) else None in
      place_adds x at (ending (unit.Return a) part.inner) part (grows_none part.inner) (λ st. (x.rules (place_of x.code at)).end a part.inner (clear is_main) st)
    where
      clear : (b : Bool) → Rattle.image_truth_units.proofs.Rules.SomeClear x.own (if b then Some (unit.Constant 0) else None)
      clear true = refl
      clear false = tt

  -- It holds of the blocks of a function, where no inner block stands at first.
  pub function_has : (f : TypedFunctionTree) (is_main : Bool) → KeepsNote f.spot.at (parameters_of f) → MayAll x (assigned_by_statements f.body) → HoldAlong x (flow_of_function f) → x.Stand [] → Holds x (function_part x.code f is_main)
  function_has f is_main noted may h none =
      let c = x.code in
      let ways = ways_of_body f in
      let empty : Part = record { placed = []; inner = [] } in
      let closing = add_close c is_main ways.next empty in
      let body = body_part c f is_main in
      let to = start_of_all f.body ways.next in
      let k = parts x (edge f.spot.at to) (flow_of_all ways f.body) h in
      let go = going c to body.inner in
      let first = note_parameters c.names (parameters_of f) go in
      let grows : Grows body.inner first.inner = subst (λ (l : List unit.Block). Grows body.inner l) (sym (noted_inner c.names (parameters_of f) go)) (going_grows c to body.inner) in
      let entry : Adds x (function_part c f is_main) body = place_adds x f.spot.at first body grows (λ st. noted_all f.spot.at (parameters_of f) go noted (going_has x f.spot.at to body.inner k.0 st)) in
      let rest = adds_on x body closing empty (statements_have x f.body c.scalars ways closing (omega arith) may k.1) (close_adds is_main ways.next empty) in
      entry.1 (rest.1 (none, tt))
