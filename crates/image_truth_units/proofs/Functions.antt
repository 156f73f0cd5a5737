-- The functions of tables keep their rules.
use Rattle.std.proofs.Common.{◌≡◌, ℕ, suc, ◌+◌, ◌≤◌, ◌<◌, inl, inr, Some, List, length, slice_get, refl, sym, ap, ◌∙◌, subst, arith}
use Rattle.std.proofs.lemmas.Bool.{cases_lt}
use Rattle.std.proofs.lemmas.List.{length-map}
use Rattle.std.proofs.lemmas.Option.{same_Some, slice_get_within}
use Rattle.places.specs.declared.table.PlaceRow.{PlaceRow}
use Rattle.c_tree.specs.Programs.{ProgramTree, TypedFunctionTree}
use Rattle.c_places.specs.Places.{entry_of, places_of_program}
use Rattle.c_flow.specs.Rows.{flow_row, row_view}
use Rattle.c_type_laws.proofs.Named.{function_named, name_short, name_some}
use Rattle.graph_core.specs.Graphs.{Graph}
use Rattle.graph_homes.specs.Homed.{HomedForm}
use Rattle.rv_emit_tables.specs.Emitted.{EmittedForm, FunctionCode}
use Rattle.rv_emit_runs.specs.Laid.{code_of}
use Rattle.rv_emit_runs.proofs.Frames.{laid_out}
use Rattle.image_form.specs.Form.{Form}
use Rattle.image_form.specs.RulesOfFunctions.{FunctionRules, IsFunction, first_code_address}
use Rattle.image_form.specs.Masks.{mask_of, masked}
use Rattle.image_form.specs.declared.tables.Function.{Function}
use Rattle.image_build_tables.specs.Spans.{Span, code_span, saved, span}
use Rattle.image_build_tables.specs.Variables.{bounded_count, entry, length_of_name, name_length}
use Rattle.image_build_tables.specs.Tables.{spot, spot_of_row}
use Rattle.image_truth_units.specs.Tables.{entry_number, entry_place}
use Rattle.image_truth_units.proofs.Accepted.{facts_of}
use Rattle.image_truth_units.proofs.Given.{Given}
use Rattle.image_truth_units.proofs.Lists.{across, all_from, next_from}
use Rattle.image_truth_units.proofs.ProgramPlaces.{entry_there, in_order, numbered_at}
pub use Rattle.base_laws.proofs.Lists.{some_length}

-- The entry of a function among the places of its program.
pub record HasEntry (p : ProgramTree) (k : ℕ) (tree : TypedFunctionTree) : Type 0 where
  pub index : ℕ
  pub is : slice_get (places_of_program p) index ≡ Some (entry_of k tree)
  pub number : entry_number p tree ≡ index + 1

module _ (p : ProgramTree) (h : HomedForm) (e : EmittedForm) (rows : List PlaceRow) (m : Form) (given : Given p h e rows m) where
  pub has_entry : (k : ℕ) (tree : TypedFunctionTree) → slice_get p.functions k ≡ Some tree → HasEntry p k tree
  has_entry k tree is =
      let found = entry_there 0 p.functions k tree is in
      let here : 0 + k ≡ k = omega arith in
      let at : slice_get (places_of_program p) found.0 ≡ Some (entry_of k tree) = found.1 ∙ ap (λ n. Some (entry_of n tree)) here in
      record { index = found.0; is = at; number = numbered_at (places_of_program p) found.0 (entry_of k tree) (facts_of p given.formed).positions at }

  -- as many places as the program has
  pub places_many : length m.places ≡ length (places_of_program p)
  places_many =
      let a = length-map m.places spot in
      let b = length-map rows spot_of_row in
      let c = length-map rows row_view in
      let d = length-map (places_of_program p) (flow_row p) in
      let one = ap length given.tables.places in
      let two = ap length given.tables.rows_are in
      omega (arith, a, b, c, d, one, two)

  -- What a function of the tables is made of.
  pub record IsMade (k : ℕ) (g : Function) : Type 0 where
    pub tree : TypedFunctionTree
    pub tree_is : slice_get p.functions k ≡ Some tree
    pub name_is : g.name_length ≡ bounded_count (length tree.name)
    pub graph : Graph
    pub graph_is : slice_get h.unit.graphs k ≡ Some graph
    pub entry_is : g.entry ≡ graph.entry
    pub number_is : graph.entry ≡ entry_number p tree
    pub code : FunctionCode
    pub code_is : slice_get e.functions k ≡ Some code
    pub first_is : g.first ≡ code.first
    pub end_is : g.end ≡ code.end
    pub frame_is : g.frame ≡ code.frame

  pub made_of : (k : ℕ) (g : Function) → slice_get m.functions k ≡ Some g → IsMade k g
  made_of k g is =
      let f = across name_length length_of_name m.functions p.functions k g given.tables.functions is in
      let x = across entry entry_place m.functions h.unit.graphs k g given.tables.entries is in
      let y = across entry_place (entry_number p) h.unit.graphs p.functions k x.0 given.entries x.1 in
      let c = across span code_span m.functions e.functions k g given.tables.spans is in
      let same : y.0 ≡ f.0 = same_Some y.0 f.0 (sym y.1 ∙ f.1) in
      record {
        tree = f.0;
        tree_is = f.1;
        name_is = sym f.2;
        graph = x.0;
        graph_is = x.1;
        entry_is = sym x.2;
        number_is = sym y.2 ∙ ap (entry_number p) same;
        code = c.0;
        code_is = c.1;
        first_is = sym (ap (λ (s : Span). s.first) c.2);
        end_is = sym (ap (λ (s : Span). s.end) c.2);
        frame_is = sym (ap (λ (s : Span). s.frame) c.2);
      }

  -- no register is told of that it saves
  none_saved : (k : ℕ) (g : Function) → slice_get m.functions k ≡ Some g → g.saved ≡ 0
  none_saved k g is = sym (across saved (λ (f : TypedFunctionTree). 0) m.functions p.functions k g given.tables.saved is).2

  is_function : (k : ℕ) (g : Function) → slice_get m.functions k ≡ Some g → IsFunction m g
  unfolding first_code_address
  is_function k g is =
      let made = made_of k g is in
      let name_is = made.name_is in
      let named = function_named p given.names k made.tree made.tree_is in
      let short = name_short made.tree.name named in
      let some = some_length made.tree.name (name_some made.tree.name named) in
      let lies = given.lie.lying k made.code made.code_is in
      let begins = lies.begins in let ends = lies.ends in let less = lies.some in let within = lies.within in
      let first_is = made.first_is in let end_is = made.end_is in
      let words = ap (λ (l : List ℕ). length l) given.tables.code in
      let told = given.emits.told.functions k made.graph made.graph_is in
      let told_code : told.code ≡ made.code = same_Some told.code made.code (sym told.is ∙ made.code_is) in
      let laid = laid_out h given.valid given.homed given.emits.code.arrangement k in
      let frame : g.frame ≡ (code_of h given.emits.code.arrangement k).size = made.frame_is ∙ sym (ap (λ (c : FunctionCode). c.frame) told_code) ∙ told.frame in
      let size = laid.size in
      let small = laid.small in
      let entry = has_entry k made.tree made.tree_is in
      let number = entry.number in
      let low = slice_get_within (places_of_program p) entry.index (entry_of k made.tree) entry.is in
      let entry_is = made.entry_is in
      let number_is = made.number_is in
      let empty : 0 ≡ mask_of (masked 0) = refl in
      record {
        named = omega (arith, name_is, some, short);
        short_name = omega (arith, name_is, some, short);
        first_in_code = (omega (arith, begins, first_is), omega (arith, begins, first_is), omega (arith, begins, first_is, less, within, words));
        end_aligned = omega (arith, ends, end_is);
        not_empty = omega (arith, begins, ends, first_is, end_is, less);
        end_in_code = omega (arith, ends, end_is, within, words);
        frame_aligned = omega (arith, frame, size);
        frame_some = omega (arith, frame, size);
        frame_small = omega (arith, frame, small);
        saves_homes = subst (λ n. n ≡ mask_of (masked n)) (sym (none_saved k g is)) empty;
        entry_is_place = (omega (arith, entry_is, number_is, number), omega (arith, entry_is, number_is, number, low, places_many));
      }

  ascending : (i : ℕ) (x y : Function) → slice_get m.functions i ≡ Some x → slice_get m.functions (suc i) ≡ Some y → x.entry < y.entry
  ascending i x y is at =
      let one = made_of i x is in
      let two = made_of (suc i) y at in
      let a = has_entry i one.tree one.tree_is in
      let b = has_entry (suc i) two.tree two.tree_is in
      let a_is = a.number in let b_is = b.number in
      let x_is = one.entry_is in let x_number = one.number_is in
      let y_is = two.entry_is in let y_number = two.number_is in
      elim (cases_lt a.index b.index) [
        | inl less ↦ omega (arith, a_is, b_is, x_is, x_number, y_is, y_number, less)
        | inr most ↦ let wrong : suc i ≤ i = in_order 0 p.functions b.index a.index (entry_of (suc i) two.tree) (entry_of i one.tree) most b.is a.is in absurd (omega (arith, wrong))
      ]

  -- THE FUNCTIONS KEEP THEIR RULES.
  pub function_rules : FunctionRules m
  function_rules = record {
    each = all_from (IsFunction m) m.functions is_function;
    apart = next_from (λ (x y : Function). x.end ≤ y.first) m.functions (λ i x y is at.
        let one = made_of i x is in
        let two = made_of (suc i) y at in
        let less = given.lie.order i (suc i) one.code two.code (omega arith) one.code_is two.code_is in
        let end_is = one.end_is in
        let first_is = two.first_is in
        omega (arith, less, end_is, first_is));
    entries_ascend = next_from (λ (x y : Function). x.entry < y.entry) m.functions ascending;
    none_saved = λ untold. all_from (λ (g : Function). g.saved ≡ 0) m.functions none_saved;
  }
