-- The activations of a unit's run stand at places that an image knows, and its objects are those that the image keeps.
use Rattle.std.proofs.Common.{◌≡◌, ℕ, ◌+◌, Some, List, [], ◌∷◌, length, slice_get, sym, ap, ◌∙◌, arith, true}
use Rattle.std.specs.List.{AllByRecursion}
use Rattle.std.proofs.lemmas.List.{length-map}
use Rattle.image_form.specs.Form.{Form}
use Rattle.graph_core.specs.declared.graph.MemoryObject.{MemoryObject}
use Rattle.graph_core.specs.declared.value.Owner.TheVariants.{Automatic}
use Rattle.graph_core.specs.Graphs.{Graph}
use Rattle.graph_core.specs.Memory.{Object, bytes_of}
use Rattle.graph_core.specs.Runs.{Activation, Configuration}
use Rattle.graph_homes.specs.Homed.{HomedForm, over_homes}
use Rattle.rv_emit_runs.specs.Waiting.{bytes_in}
use Rattle.rv_emit_runs.specs.Laid.{Arrangement, code_of}
use Rattle.rv_emit_runs.proofs.Frames.{graph_is}
use Rattle.graph_homes.specs.Owned.{Base, base_of, IsActivation, IsRunning}
use Rattle.graph_homes.proofs.Homes.{of_function}
use Rattle.image_truth_units.proofs.Tables.{from_map, all_at}
use Rattle.image_truth_units.specs.Keeping.{KeepsPlacesOf, IsPlaced}

module _ (h : HomedForm) (a : Arrangement) (m : Form) (places : KeepsPlacesOf h a m) where
  -- an activation of a function of the unit stands at a place that the image knows
  placed_one : (b : Activation) → IsActivation (over_homes h) b → IsPlaced h a m b
  placed_one b is =
      let f = of_function h b is in
      record { some = places.some b.function b.place f.graph f.is f.place; function = places.function b.function b.place f.graph f.is f.place; frame = places.frame b.function b.place f.graph f.is f.place }

  placed_each : (all : List Activation) → AllByRecursion (IsActivation (over_homes h)) all → AllByRecursion (IsPlaced h a m) all
  placed_each [] each = tt
  placed_each (b ∷ all) each = (placed_one b each.0, placed_each all each.1)

  pub placed_all : (c : Configuration) → IsRunning (over_homes h) c → AllByRecursion (IsPlaced h a m) (c.here ∷ c.waiting)
  placed_all c is = (placed_one c.here is.here, placed_each c.waiting is.waiting)

-- An object is that of a variable of the activation at a depth, of which the last one has depth 1.
pub record IsObjectAt (h : HomedForm) (a : Arrangement) (stack : List Activation) (variable depth n : ℕ) (q : Object) : Type 0 where
  pub index : ℕ
  pub activation : Activation
  pub there : slice_get stack index ≡ Some activation
  pub deep : depth + index ≡ length stack
  pub number : ℕ
  pub object : MemoryObject
  pub is : slice_get (code_of h a activation.function).graph.objects number ≡ Some object
  pub var : object.var.0 ≡ variable
  pub at : n ≡ activation.first_object + number
  pub bytes : bytes_of q ≡ bytes_in object

-- a live automatic object of a unit over homes is one of the unit's functions
pub object_at_depth : (h : HomedForm) (a : Arrangement) (c : Configuration) → IsRunning (over_homes h) c → (n x depth : ℕ) (q : Object) → slice_get c.memory n ≡ Some q → q.live ≡ true → q.owner ≡ Automatic x depth → IsObjectAt h a (c.here ∷ c.waiting) x depth n q
object_at_depth h a c running n x depth q is live owner =
    let its = running.owned.automatics n x depth q is live owner in
    let b = from_map base_of (c.here ∷ c.waiting) its.index its.base its.there in
    let f = of_function h b.0 (all_at (IsActivation (over_homes h)) (c.here ∷ c.waiting) its.index b.0 (running.here, running.waiting) b.1) in
    let objects : (code_of h a b.0.function).graph.objects ≡ its.base.graph.objects =
    ap (λ (g : Graph). g.objects) (graph_is h.unit b.0.function f.graph f.is) ∙ sym (ap (λ (g : Graph). g.objects) f.placed) ∙ ap (λ (y : Base). y.graph.objects) b.2 in
    let deep = its.deep in
    let many = length-map c.waiting base_of in
    record {
      index = its.index;
      activation = b.0;
      there = b.1;
      deep = omega (arith, deep, many);
      number = its.number;
      object = its.object;
      is = ap (λ l. slice_get l its.number) objects ∙ its.is;
      var = its.var;
      at = its.at ∙ ap (λ (y : Base). y.first + its.number) (sym b.2);
      bytes = its.bytes;
    }
