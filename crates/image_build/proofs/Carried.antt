-- What is so of a unit, and is so of each that has its functions and what functions share.
use Rattle.std.proofs.Common.{◌≡◌, ℕ, zero, suc, ◌+◌, inl, inr, ⊎_elim, Some, List, [], ◌∷◌, length, slice_get, refl, sym, ap, ◌∙◌, subst}
use Rattle.std.proofs.lemmas.Option.{none-some, same_Some}
use Rattle.event_runs.specs.Agreement.{Pairs}
use Rattle.c_tree.specs.Programs.{ProgramTree}
use Rattle.c_meaning_values.specs.Memory as source-memory
use Rattle.c_meaning_steps.specs.declared.event.Frame as source-frame
use Rattle.graph_core.specs.declared.graph.MemoryObject.{MemoryObject}
use Rattle.graph_core.specs.Graphs.{Graph, Scalar, UnitForm}
use Rattle.graph_core.specs.Memory as unit-memory
use Rattle.graph_core.specs.Runs as unit-event
use Rattle.graph_build_runs.specs.Correspondence as source
use Rattle.image_form.specs.Form.{Form}
use Rattle.image_truth_units.specs.Keeping.{HasPlacesOf}
use Rattle.image_truth_units.specs.ImageRulesUnits.{HasAllVariables, HasObjectOf, HasOwnPlaces, HasScalarOf}
use Rattle.image_truth_units.specs.Units.{HasVariablesIn}
use Rattle.image_truth_units.specs.Variables.{automatic_number}
use Rattle.image_build.proofs.Visible.{AreScalars}
use Rattle.pass_law.specs.Keeps.{SameFunction}
use Rattle.image_build.proofs.Markers.{place_back}

-- the first of two graphs of one function, by the number of the second
pub graph_back : (us vs : List Graph) → Pairs SameFunction us vs → (f : ℕ) (h : Graph) → slice_get vs f ≡ Some h → (g : Graph) × (slice_get us f ≡ Some g) × SameFunction g h
graph_back [] [] same f h is = absurd (none-some h is)
graph_back [] (y ∷ vs) same f h is = absurd same
graph_back (x ∷ us) [] same f h is = absurd same
graph_back (x ∷ us) (y ∷ vs) same zero h is = (x, refl, subst (SameFunction x) (same_Some y h is) same.0)
graph_back (x ∷ us) (y ∷ vs) same (suc f) h is = graph_back us vs same.1 f h is

-- the second, by the number of the first
pub graph_on : (us vs : List Graph) → Pairs SameFunction us vs → (f : ℕ) (g : Graph) → slice_get us f ≡ Some g → (h : Graph) × (slice_get vs f ≡ Some h) × SameFunction g h
graph_on [] [] same f g is = absurd (none-some g is)
graph_on [] (y ∷ vs) same f g is = absurd same
graph_on (x ∷ us) [] same f g is = absurd same
graph_on (x ∷ us) (y ∷ vs) same zero g is = (y, refl, subst (λ (z : Graph). SameFunction z y) (same_Some x g is) same.0)
graph_on (x ∷ us) (y ∷ vs) same (suc f) g is = graph_on us vs same.1 f g is

-- The graphs of two units are of the same functions, and so are their static objects.
module _ (u v : UnitForm) (statics : v.statics ≡ u.statics) (functions : Pairs SameFunction u.graphs v.graphs) where
  back : (f : ℕ) (h : Graph) → slice_get v.graphs f ≡ Some h → (g : Graph) × (slice_get u.graphs f ≡ Some g) × SameFunction g h
  back = graph_back u.graphs v.graphs functions

  -- The variables of a program that one has, the other has.
  pub has_variables : (p : ProgramTree) → HasVariablesIn p u → HasVariablesIn p v
  has_variables p has = record {
    statics = ap length statics ∙ has.statics;
    static_size = λ n t o declared is. has.static_size n t o declared (ap (λ l. slice_get l n) (sym statics) ∙ is);
    literal_size = λ n l o declared is. has.literal_size n l o declared (ap (λ all. slice_get all (length p.statics + n)) (sym statics) ∙ is);
    scalars = λ f k h s at is. (let r = back f h at in has.scalars f k r.0 s r.1 (scalar r.0 h r.2 k s is));
    objects = λ f k h o at is. (let r = back f h at in has.objects f k r.0 o r.1 (object r.0 h r.2 k o is));
    object_size = λ f k x h o a at is number declared. (let r = back f h at in has.object_size f k x r.0 o a r.1 (object r.0 h r.2 k o is) number declared);
    one_name = λ f j k h s t at first second alike. (let r = back f h at in has.one_name f j k r.0 s t r.1 (scalar r.0 h r.2 j s first) (scalar r.0 h r.2 k t second) alike);
    one_object = λ f j k h o q at first second alike. (let r = back f h at in has.one_object f j k r.0 o q r.1 (object r.0 h r.2 j o first) (object r.0 h r.2 k q second) alike);
    apart = λ f j k h s o at first second. (let r = back f h at in has.apart f j k r.0 s o r.1 (scalar r.0 h r.2 j s first) (object r.0 h r.2 k o second));
  }
    where
      scalar : (g h : Graph) → SameFunction g h → (k : ℕ) (s : Scalar) → slice_get h.scalars k ≡ Some s → slice_get g.scalars k ≡ Some s
      scalar g h same k s is = ap (λ l. slice_get l k) (sym same.scalars) ∙ is

      object : (g h : Graph) → SameFunction g h → (k : ℕ) (o : MemoryObject) → slice_get h.objects k ≡ Some o → slice_get g.objects k ≡ Some o
      object g h same k o is = ap (λ l. slice_get l k) (sym same.objects) ∙ is

  -- The markers of one are the program's places where those of the other are.
  pub has_own_places : (p : ProgramTree) → HasOwnPlaces p u → HasOwnPlaces p v
  has_own_places p has = record {
    marked = λ i q g is at. (let r = back q.function g at in (r.2.markers (i + 1)).0 (has.marked i q r.0 is r.1));
    own = λ f place g is among. (let r = back f g is in has.own f place r.0 r.1 ((r.2.markers place).1 among));
  }

  -- Each variable of a function has a home in its graph in one where it has one in the other.
  pub has_all_variables : (p : ProgramTree) → HasAllVariables p u → HasAllVariables p v
  has_all_variables p has = record {
    there = λ x f a h declared owned is. (
        let r = back f h is in
        ⊎_elim (λ (s : HasScalarOf r.0 (automatic_number p x)). inl (record { index = s.index; scalar = s.scalar; is = ap (λ l. slice_get l s.index) r.2.scalars ∙ s.is; variable_is = s.variable_is }))
        (λ (o : HasObjectOf r.0 (automatic_number p x)). inr (record { index = o.index; object = o.object; is = ap (λ l. slice_get l o.index) r.2.objects ∙ o.is; variable_is = o.variable_is }))
        (has.there x f a r.0 declared owned r.1));
    single = λ f k x h s a is at number declared. (let r = back f h is in has.single f k x r.0 s a r.1 (ap (λ l. slice_get l k) (sym r.2.scalars) ∙ at) number declared);
  }

  -- So it is of the places that an image has of a unit,
  pub has_places : (m : Form) → HasPlacesOf u m → HasPlacesOf v m
  has_places m has = record { place = λ f n h at of. (let r = back f h at in has.place f n r.0 r.1 (place_back r.0 h r.2 n of)) }

  -- of scalars for the variables that are visible,
  pub are_scalars : (p : ProgramTree) → AreScalars p u → AreScalars p v
  are_scalars p are f i k x h q tree at place of seen declared outside =
      let r = back f h at in
      let s = are f i k x r.0 q tree r.1 place (place_back r.0 h r.2 (i + 1) of) seen declared outside in
      record { index = s.index; scalar = s.scalar; is = ap (λ l. slice_get l s.index) r.2.scalars ∙ s.is; variable_is = s.variable_is; scalar_type = s.scalar_type; of_is = s.of_is }

  -- and of activations that correspond to those of a program.
  module _ (p : ProgramTree) (memory : source-memory.Memory) (others : unit-memory.Memory) where
    seen_by : (g h : Graph) → SameFunction g h → (depth : ℕ) (b : unit-event.Frame) (x : ℕ) → source.Seen p memory others g depth b x → source.Seen p memory others h depth b x
    seen_by g h same depth b x seen = record {
      number = seen.number;
      object = seen.object;
      is = seen.is;
      owner = seen.owner;
      lives = seen.lives;
      shadow = λ k s at number. seen.shadow k s (ap (λ l. slice_get l k) (sym same.scalars) ∙ at) number;
    }

    frame_same : (depth : ℕ) (a : source-frame.Frame) (b : unit-event.Frame) → source.SameFrame p memory others u depth a b → source.SameFrame p memory others v depth a b
    frame_same depth a b s = record {
      function = s.function;
      place = s.place;
      seen = λ h q x at place k is. (let r = back a.function h at in seen_by r.0 h r.2 depth b x (s.seen r.0 q x r.1 place k is));
    }

    pub frames_same : (fs : List source-frame.Frame) (gs : List unit-event.Frame) → source.SameFrames p memory others u fs gs → source.SameFrames p memory others v fs gs
    frames_same [] [] h = tt
    frames_same [] (b ∷ bs) h = absurd h
    frames_same (a ∷ more) [] h = absurd h
    frames_same (a ∷ more) (b ∷ bs) h = (frame_same _ a b h.0, frames_same more bs h.1)
