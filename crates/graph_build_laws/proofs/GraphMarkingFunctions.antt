-- What passes the code of expressions holds behind the marker of each place of a function.
use Rattle.std.proofs.Common.{◌≡◌, ℕ, Bool, true, false, Option, Some, None, List, [], ◌∷◌, ◌++◌, refl, ap, ◌∙◌, if◌then◌else◌}
use Rattle.c_tree.specs.Programs.{TypedFunctionTree}
use Rattle.c_places.specs.Flow.{reaches_end}
use Rattle.c_places.specs.Places.{Place, stop, brought_by_body, parameters_of, close_of, places_of_all, places_of_function}
use Rattle.c_flow.specs.Flow.{edge, start_of_all, ways_of_body, flow_of_all, flow_of_function}
use Rattle.graph_core.specs.Graphs as unit
use Rattle.graph_core.specs.Graphs.{Instruction}
use Rattle.graph_build_names.specs.Names.{scalar_of}
use Rattle.graph_build_steps.specs.Drafts.{Made, ending}
use Rattle.graph_build_statements.specs.Coding.{Coding, Part, place_of, going}
use Rattle.graph_build.specs.Units.{note_if, note_parameters, add_close, body_part, function_part}
use Rattle.graph_build_laws.specs.Passing.{IsPassing}
use Rattle.graph_build_laws.proofs.GraphMarkingPieces.{grows_on, grows_none}
use Rattle.graph_build_laws.proofs.GraphMarkingStatements.{Adds, Holds, HoldAlong, Brings', adds_on, no_part, one_step, no_step, steps_on, going_has, going_grows, place_adds, parts, statements_add}
use Rattle.graph_build_laws.proofs.Heads.{heads, marks, statements_come}

module _ (c : Coding) (Has : (p : ℕ) → Made → Type 0) (Leads : (p label : ℕ) → List unit.Block → Type 0) (Stand : List unit.Block → Type 0) (passing : (p : ℕ) → IsPassing p c.top (Has p) (Leads p) Stand) where
  abbrev Before' : (at : ℕ) → Made → Made → Type 0
  Before' at m k = Brings' c Has Leads Stand passing at m k

  noted_if : (at : ℕ) (o : Option ℕ) (m : Made) → Before' at (note_if c.names o m) m
  noted_if at None m = no_step c Has Leads Stand passing at m
  noted_if at (Some x) m = one_step c Has Leads Stand passing at (unit.Note x (unit.Is (unit.Of (unit.Name x)))) m refl

  noted_all : (at : ℕ) (all : List ℕ) (m : Made) → Before' at (note_parameters c.names all m) m
  noted_all at [] m = no_step c Has Leads Stand passing at m
  noted_all at (x ∷ more) m = steps_on c Has Leads Stand passing at (note_parameters c.names (x ∷ more) m) (note_parameters c.names more m) m (noted_if at (scalar_of c.names x) (note_parameters c.names more m)) (noted_all at more m)

  close_adds : (is_main : Bool) (closing : Option ℕ) (part : Part) → Adds c Has Leads Stand passing (add_close c is_main closing part) part
  close_adds is_main None part = no_part c Has Leads Stand passing part
  close_adds is_main (Some at) part =
      let a = if is_main then Some (unit.Constant 0) else None in
      place_adds c Has Leads Stand passing at (ending (unit.Return a) part.inner) part (grows_none part.inner) (λ st. (passing (place_of c at)).end a part.inner st)

  -- It holds of the blocks of a function, where no inner block stands at first.
  pub function_holds : (f : TypedFunctionTree) (is_main : Bool) → HoldAlong c Has Leads Stand passing (flow_of_function f) → Stand [] → Holds c Has Leads Stand passing (function_part c f is_main)
  function_holds f is_main h none =
      let ways = ways_of_body f in
      let empty : Part = record { placed = []; inner = [] } in
      let closing = add_close c is_main ways.next empty in
      let body = body_part c f is_main in
      let to = start_of_all f.body ways.next in
      let k = parts c Has Leads Stand passing (edge f.spot.at to) (flow_of_all ways f.body) h in
      let go = going c to body.inner in
      let first = note_parameters c.names (parameters_of f) go in
      let x = noted_all f.spot.at (parameters_of f) go in
      let entry : Adds c Has Leads Stand passing (function_part c f is_main) body = place_adds c Has Leads Stand passing f.spot.at first body (grows_on body.inner go.inner first.inner (going_grows c Has Leads Stand passing to body.inner) x.0) (λ st. x.1 (going_has c Has Leads Stand passing f.spot.at to body.inner k.0 st)) in
      let rest = adds_on c Has Leads Stand passing body closing empty (statements_add c Has Leads Stand passing f.body c.scalars ways closing k.1) (close_adds is_main ways.next empty) in
      entry.1 (rest.1 (none, tt))

-- The blocks of a function's places stand in the order of the text.
module _ (c : Coding) (number : ℕ) where
  close_come : (f : TypedFunctionTree) (is_main : Bool) (b : Bool) → heads (add_close c is_main (if b then Some f.close.at else None) (record { placed = []; inner = [] })).placed ≡
      marks c number (if b then stop number (parameters_of f ++ brought_by_body f.body) f.close ∷ [] else [])
  close_come f is_main true = refl
  close_come f is_main false = refl

  both_marks : (xs ys : List Place) → marks c number xs ++ marks c number ys ≡ marks c number (xs ++ ys)
  both_marks [] ys = refl
  both_marks (x ∷ xs) ys = ap (λ (l : List ℕ). place_of c x.spot.at ∷ l) (both_marks xs ys)

  pub function_heads : (f : TypedFunctionTree) (is_main : Bool) → heads (function_part c f is_main).placed ≡ marks c number (places_of_function number f)
  function_heads f is_main =
      let ways = ways_of_body f in
      let closing = add_close c is_main ways.next (record { placed = []; inner = [] }) in
      let body = statements_come c number f.body (parameters_of f) c.scalars ways closing in
      let own = places_of_all number (parameters_of f) f.body in
      ap (λ (l : List ℕ). place_of c f.spot.at ∷ l) (body ∙ ap (λ (l : List ℕ). marks c number own ++ l) (close_come f is_main (reaches_end f.body)) ∙ both_marks own (close_of number f))
