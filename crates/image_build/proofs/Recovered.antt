-- What a recovered row shows is the text of what its variable holds.
use Rattle.std.proofs.Common.{◌≡◌, ◌≢◌, ℕ, ◌+◌, ◌-◌, ◌≤◌, refl, sym, ap, ◌∙◌, subst, Bool, true, false, Some, List, [], ◌++◌, length, map, slice_get}
use Rattle.std.specs.Prelude.{slice_index, option_map}
use Rattle.std.proofs.lemmas.Option.{slice_get_within}
use Rattle.word_base.specs.Owners.{Variable as OfVariable}
use Rattle.c_tree.specs.Programs.{ProgramTree, StaticTree, AutomaticTree, LiteralTree}
use Rattle.c_places.specs.Places as places
use Rattle.c_meaning_values.specs.Memory as source-memory
use Rattle.c_meaning_values.specs.Memory.{contents}
use Rattle.c_meaning_steps.specs.declared.event.Frame as source-frame
use Rattle.c_meaning_steps.specs.States.{Shown}
use Rattle.memory_map.specs.Maps.{most_words, stub_words}
use Rattle.image_form.specs.Form.{Form}
use Rattle.image_form.specs.Rules.{IsImage}
use Rattle.image_form.specs.declared.verdicts.Verdict.TheVariants.{Recovered}
use Rattle.image_form.specs.declared.verdicts.VisibleRow.{VisibleRow}
use Rattle.image_build_tables.specs.Spans.{span, code_span}
use Rattle.image_build_tables.specs.Storages.{storages_of}
use Rattle.image_build_tables.specs.Variables.{shape, shapes_of, owner, owners_of, declared_names, name_length, length_of_name, storage}
use Rattle.rv_machine.specs.State.{MachineState}
use Rattle.rv_machine.specs.Run.{is_stop}
use Rattle.stop_engine_view.specs.Run as image
use Rattle.graph_core.specs.Graphs.{Scalar}
use Rattle.graph_core.specs.WellMarked.{IsVariable}
use Rattle.graph_core.specs.Runs.{frame}
use Rattle.graph_core.specs.Validity.{IsValid}
use Rattle.graph_homes.specs.Homes.{HoldsOnAllPaths}
use Rattle.graph_build_runs.specs.Correspondence as source
use Rattle.graph_build_runs.specs.Correspondence.{Seen}
use Rattle.graph_homes.specs.Homed.{HomedForm, HaveHomes, home_of}
use Rattle.home_assign.proofs.Stops as home-stops
use Rattle.rv_emit_tables.specs.Emitted.{EmittedForm}
use Rattle.rv_emit_runs.specs.Laid as laid
use Rattle.rv_emit_runs.specs.Laid.{IsCode}
use Rattle.rv_emit_runs.specs.Told.{Tells}
use Rattle.image_truth_units.specs.Rows.{IsShown}
use Rattle.image_truth_units.specs.Units.{HasVariablesIn}
use Rattle.image_truth_units.specs.Variables.{HasElements, automatic_number}
use Rattle.image_truth_units.specs.Keeping.{HasPlacesOf}
use Rattle.image_build.specs.Meeting.{MeetAt}
use Rattle.image_build.proofs.Stopping as stopping
use Rattle.currency.specs.declared.verdict.PlaceVerdict.{PlaceVerdict}
use Rattle.currency.specs.Sound.{AreRecovered}
use Rattle.graph_core.specs.Graphs.{recipe_view}
use Rattle.home_assign.specs.Alike.{shown_value}
use Rattle.image_build_tables.specs.Rows.{IsNodeIn, Telling, naming_at}
use Rattle.image_build.proofs.Visible.{IsScalarIn}
use Rattle.currency.specs.Evident.{IsScalarOf}
use Rattle.image_build.specs.Recovered.{AreOfScalars, ComeToRecipes}
use Rattle.image_build.proofs.Recipes as recipes
use Rattle.image_build.proofs.RecoveredRows.{GivesRecipe}

-- An image has a program's tables and a unit's storages, spans and code; all meet at a stop.
module _ (p : ProgramTree) (m : Form) (functions : map name_length m.functions ≡ map length_of_name p.functions) (variables : map shape m.variables ≡ shapes_of p) (owners : map owner m.variables ≡ owners_of p) (more : List ℕ) (names : m.names ≡ declared_names p ++ more) (rules : IsImage m)
    (static_law : (n : ℕ) (t : StaticTree) → slice_get p.statics n ≡ Some t → (t.name ≢ []) × HasElements t.of) (automatic_law : (x : ℕ) (a : AutomaticTree) → slice_get p.automatics x ≡ Some a → (a.name ≢ []) × HasElements a.of)
    (literal_law : (n : ℕ) (l : LiteralTree) → slice_get p.literals n ≡ Some l → (1 ≤ length l.bytes) × (length l.bytes ≤ 4294967295))
    (h : HomedForm) (valid : IsValid h.unit) (homed : HaveHomes h) (e : EmittedForm) (code : IsCode h e) (storages : map storage m.variables ≡ storages_of h e (length m.variables)) (spans : map span m.functions ≡ map code_span e.functions) (words : m.owners ≡ e.owners) (outermost : slice_index e.owners (stub_words e.map - 3) ≡ 0)
    (unit : HasVariablesIn p h.unit) (has : HasPlacesOf h.unit m) (tells : Tells h code.arrangement e) (stops_are : (address : ℕ) → is_stop (image.stop_addresses m) address ≡ is_stop (laid.stop_addresses e) address)
    (place deep : ℕ) (activations : List source-frame.Frame) (visible : List Shown) (memory : source-memory.Memory) (s : MachineState) (t : MeetAt p h e code.arrangement place deep activations visible memory s)
    -- a visible variable that is not in memory is a scalar of the graph
    (scalar_there : (k x : ℕ) (v : AutomaticTree) → slice_get (places.visible p.automatics t.stop.at.scope) k ≡ Some x → slice_get p.automatics x ≡ Some v → v.in_memory ≡ false → IsScalarIn t.upper.here.graph (automatic_number p x) v.of)
    -- the verdicts that rows say: where one gives a recipe, that is for a scalar, and holds on all paths, and its nodes come to the word of its value over homes
    (telling : Telling) (all : List PlaceVerdict) (gives : (i change node : ℕ) (r : VisibleRow) → slice_get m.rows i ≡ Some r → r.verdict ≡ Recovered change node → GivesRecipe telling m.nodes all r.place r.variable node)
    (recovered : AreRecovered h all) (of_scalars : AreOfScalars h all) (come : ComeToRecipes h e code.arrangement m telling) where
  short : length s.code ≤ most_words s.map
  short = stopping.short p m functions variables owners more names rules static_law automatic_law literal_law h valid homed e code storages spans words outermost unit has tells stops_are place deep activations visible memory s t

  same : source.SameMemory p memory t.lower.memory
  same = stopping.same p m functions variables owners more names rules static_law automatic_law literal_law h valid homed e code storages spans words outermost unit has tells stops_are place deep activations visible memory s t

  here_place : t.lower.here.place ≡ place
  here_place = stopping.here_place p m functions variables owners more names rules static_law automatic_law literal_law h valid homed e code storages spans words outermost unit has tells stops_are place deep activations visible memory s t

  upper_place : t.upper.here.place ≡ place
  upper_place = stopping.upper_place p m functions variables owners more names rules static_law automatic_law literal_law h valid homed e code storages spans words outermost unit has tells stops_are place deep activations visible memory s t

  many_here : length t.lower.waiting + 1 ≡ deep
  many_here = stopping.many_here p m functions variables owners more names rules static_law automatic_law literal_law h valid homed e code storages spans words outermost unit has tells stops_are place deep activations visible memory s t

  -- the variables that are visible
  abbrev there : List ℕ
  there = places.visible p.automatics t.stop.at.scope

  -- each is seen over homes
  seen_lower : (k x : ℕ) → slice_get there k ≡ Some x → Seen p memory t.lower.memory t.upper.here.graph (length t.lower.waiting + 1) (frame t.upper.here) x
  seen_lower = stopping.seen_lower p m functions variables owners more names rules static_law automatic_law literal_law h valid homed e code storages spans words outermost unit has tells stops_are place deep activations visible memory s t

  -- What a recovered row shows.
  lower_shown : (k i x change node : ℕ) (v : AutomaticTree) (r : VisibleRow) → slice_get there k ≡ Some x → slice_get p.automatics x ≡ Some v → slice_get m.rows i ≡ Some r → r.place ≡ place → r.variable ≡ automatic_number p x → r.verdict ≡ Recovered change node
      → IsShown p m s memory v.of (contents (OfVariable x (length t.lower.waiting + 1)) memory) t.lower.here.place (automatic_number p x) (Recovered change node)
  lower_shown k i x change node v r is declared at here variable verdict = by_memory v.in_memory refl
    where
      given : GivesRecipe telling m.nodes all r.place r.variable node
      given = gives i change node r at verdict

      by_memory : (b : Bool) → v.in_memory ≡ b → IsShown p m s memory v.of (contents (OfVariable x (length t.lower.waiting + 1)) memory) t.lower.here.place (automatic_number p x) (Recovered change node)
      by_memory true inside =
          let seen = seen_lower k x is in
          let scalar = subst (IsScalarOf h) (given.variable_is ∙ variable) (of_scalars given.verdict given.recipe given.change given.among given.is) in
          absurd (recipes.no_scalar p m functions variables owners more names rules static_law automatic_law literal_law h valid homed code.arrangement e storages spans words outermost unit has tells t.lower s code.map short t.stands t.running memory same t.typed t.differ t.stop.declared x seen.number (length t.lower.waiting + 1) v seen.object declared inside seen.is seen.owner seen.lives scalar)
      by_memory false outside =
          let seen = seen_lower k x is in
          let of = scalar_there k x v is declared outside in
          let graph = t.same.here.0.of in
          let within = slice_get_within t.upper.here.graph.scalars of.index of.scalar of.is in
          let where_is : r.place ≡ t.upper.here.place = here ∙ sym upper_place in
          let scalar : IsVariable t.upper.here.graph of.index given.verdict.var.0 = ap (option_map (λ (z : Scalar). z.variable)) of.is ∙ ap (λ n. Some n) (of.variable_is ∙ sym (given.variable_is ∙ variable)) in
          let holds = recovered given.verdict given.recipe given.change given.among given.is t.upper.here.function of.index t.upper.here.graph graph scalar in
          let on_all = subst (λ n. HoldsOnAllPaths (home_of h t.upper.here.function) t.upper.here.graph n of.index (recipe_view given.recipe)) (given.place_is ∙ where_is) holds in
          let named = subst (λ n. IsNodeIn m.nodes (naming_at telling n) (recipe_view given.recipe) node) where_is given.node_is in
          let means = come t.upper.here t.lower s t.stands t.running t.same.here.0 t.shown of.index node (recipe_view given.recipe) within on_all named in
          let shadow = home-stops.recipe_shown h t.upper.here t.lower.here t.shown of.index (recipe_view given.recipe) within on_all in
          recipes.recovered_text p m functions variables owners more names rules static_law automatic_law literal_law h valid homed code.arrangement e storages spans words outermost unit has tells t.lower s code.map short t.stands t.running memory same t.typed t.differ t.stop.declared
          x of.index change node v of.scalar_type t.upper.here.graph of.scalar (frame t.upper.here) (shown_value h t.upper.here.function t.lower.here.names (recipe_view given.recipe)) declared of.of_is of.is of.variable_is seen shadow means

  -- What a recovered row shows is the text of what the variable holds.
  pub recovered_shown : (k i x change node : ℕ) (v : AutomaticTree) (r : VisibleRow) → slice_get there k ≡ Some x → slice_get p.automatics x ≡ Some v → slice_get m.rows i ≡ Some r → r.place ≡ place → r.variable ≡ automatic_number p x → r.verdict ≡ Recovered change node
      → IsShown p m s memory v.of (contents (OfVariable x deep) memory) place (automatic_number p x) (Recovered change node)
  recovered_shown k i x change node v r is declared at here variable verdict =
      subst (λ n. IsShown p m s memory v.of (contents (OfVariable x deep) memory) n (automatic_number p x) (Recovered change node)) here_place
      (subst (λ d. IsShown p m s memory v.of (contents (OfVariable x d) memory) t.lower.here.place (automatic_number p x) (Recovered change node)) many_here (lower_shown k i x change node v r is declared at here variable verdict))
