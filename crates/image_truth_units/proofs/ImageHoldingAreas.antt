-- What an image keeps of a unit lies apart where the unit's objects do.
use Rattle.std.proofs.Common.{◌≡◌, ◌≢◌, ℕ, ◌+◌, ◌<◌, ◌≤◌, ◌⊎◌, ⊎_elim, inl, inr, true, false, Option, Some, None, List, ◌∷◌, length, map, slice_get, refl, sym, ap, ◌∙◌, arith}
use Rattle.std.specs.Prelude.{◌==◌}
use Rattle.std.specs.List.{AllByRecursion}
use Rattle.std.specs.Option.{option_map_or}
use Rattle.std.proofs.lemmas.Bool.{cases_lt, eqb-true}
use Rattle.std.proofs.lemmas.Option.{same_Some, slice_get_within}
use Rattle.word_base.specs.Owners.{Owner, Static, Literal, Variable as OfVariable}
use Rattle.c_tree.specs.Programs.{ProgramTree}
use Rattle.image_form.specs.Form.{Form}
use Rattle.image_form.specs.declared.variables.Storage.TheVariants as kept
use Rattle.image_form.specs.declared.variables.Variable.{Variable}
use Rattle.stop_engine_view.specs.Pointers.{function_of_place, is_variable_of, variable_size}
use Rattle.graph_core.specs.declared.graph.MemoryObject.{MemoryObject}
use Rattle.graph_core.specs.Graphs.{StaticObject, UnitForm}
use Rattle.graph_core.specs.Memory.{static_bytes}
use Rattle.graph_core.specs.Runs.{Activation}
use Rattle.graph_core.specs.Validity.{IsValid, taken_by, total}
use Rattle.graph_homes.specs.Homed.{HomedForm, HaveHomes}
use Rattle.rv_emit_storage.specs.StaticAddresses.{statics_start, static_sizes, static_at}
use Rattle.memory_map.specs.Maps.{bytes_end, bytes_start, stack_end, stack_start}
use Rattle.memory_map.proofs.Facts.{map_facts}
use Rattle.rv_emit_storage.specs.UnitMaps.{map_of_unit}
use Rattle.rv_emit_storage.proofs.UnitMaps.{statics_begin}
use Rattle.rv_emit_steps.specs.Meaning.{IsInMemory as LiesIn}
use Rattle.rv_emit_tables.specs.Emitted.{EmittedForm}
use Rattle.rv_emit_storage.specs.Storages.{object_at}
use Rattle.rv_emit_runs.specs.Waiting.{bytes_in}
use Rattle.rv_emit_runs.specs.Laid.{Arrangement, code_of}
use Rattle.rv_emit_runs.specs.Standing.{IsStack}
use Rattle.rv_emit_runs.proofs.Chunks.{lies_among, lies_before, total_both}
use Rattle.rv_emit_runs.proofs.Frames.{all_codes}
use Rattle.image_truth_units.specs.Variables.{static_count, automatic_number}
use Rattle.image_truth_units.specs.Standing.{Standing, IsArea, IsStaticArea, IsFrameArea}
use Rattle.image_truth_units.proofs.Areas.{there}
use Rattle.image_truth_units.proofs.Tables.{front_at, map_at, all_at}
use Rattle.image_truth_units.specs.Keeping.{KeepsObjectsOf, IsPlaced, standings}
use Rattle.image_truth_units.proofs.Frames.{start_of, ends_before, from_standing, many_standings, frame_there}

-- ---- Static memory

module _ (u : UnitForm) (valid : IsValid u) where
  fits : bytes_start (map_of_unit u) + total taken_by (static_sizes u) ≤ bytes_end (map_of_unit u)
  fits =
      let all = total_both static_bytes (λ (b : List ℕ). length b) u.statics u.array_bytes in
      let few = valid.statics in
      omega (arith, all, few)

  sized : (n : ℕ) (o : StaticObject) → slice_get u.statics n ≡ Some o → slice_get (static_sizes u) n ≡ Some (static_bytes o)
  sized n o is = front_at (map static_bytes u.statics) (map (λ (b : List ℕ). length b) u.array_bytes) n (static_bytes o) (map_at static_bytes u.statics n o is)

  -- a static object lies in static memory
  pub static_inside : (n : ℕ) (o : StaticObject) → slice_get u.statics n ≡ Some o → (bytes_start (map_of_unit u) ≤ static_at u n) × (static_at u n + static_bytes o + 4 ≤ bytes_end (map_of_unit u))
  static_inside n o is =
      let lies = lies_among (static_sizes u) (statics_start u) n (static_bytes o) (sized n o is) in
      let start = statics_begin u in let most = fits in let low = lies.low in let high = lies.high in
      (omega (arith, low, start), omega (arith, high, start, most))

  -- and ends before the next one
  pub static_before : (k n : ℕ) (o w : StaticObject) → k < n → slice_get u.statics k ≡ Some o → slice_get u.statics n ≡ Some w → static_at u k + static_bytes o < static_at u n
  static_before k n o w lt is other =
      let before = lies_before (static_sizes u) (statics_start u) k n (static_bytes o) lt (sized k o is) (slice_get_within (static_sizes u) n (static_bytes w) (sized n w other)) in
      omega (arith, before)

-- ---- Areas

module _ (p : ProgramTree) (h : HomedForm) (valid : IsValid h.unit) (homed : HaveHomes h) (a : Arrangement) (m : Form) (e : EmittedForm) (regions : e.map ≡ map_of_unit h.unit) (addresses memory : ℕ → ℕ) (count : length h.unit.statics ≡ static_count p) (keeps : KeepsObjectsOf h a m) (sp : ℕ) (b : Activation) (more : List Activation)
    (stack : IsStack e (code_of h a) addresses memory sp b more) (placed : AllByRecursion (IsPlaced h a m) (b ∷ more)) where
  -- an area of static storage is that of a static object of the unit
  record IsStaticOne (number start bytes : ℕ) : Type 0 where
    pub object : StaticObject
    pub is : slice_get h.unit.statics number ≡ Some object
    pub begins : start ≡ static_at h.unit number
    pub size : bytes ≡ static_bytes object

  static_one : (number start bytes : ℕ) → IsStaticArea m number start bytes → IsStaticOne number start bytes
  static_one number start bytes area =
      let low = keeps.static_only number start area.variable area.is area.storage in
      let t = there h.unit.statics number low in
      let k = keeps.statics number t.0 t.1 in
      let same : k.variable ≡ area.variable = same_Some k.variable area.variable (sym k.is ∙ area.is) in
      let stored : kept.Static (static_at h.unit number) ≡ kept.Static start = sym k.there ∙ ap (λ (v : Variable). v.storage) same ∙ area.storage in
      record { object = t.0; is = t.1; begins = address_is (static_at h.unit number) start stored; size = area.size ∙ ap variable_size (sym same) ∙ k.size }
    where
      address_is : (x y : ℕ) → kept.Static x ≡ kept.Static y → y ≡ x
      address_is x y same = cc

  -- an area of a frame is that of an object of its activation's function
  record IsFrameOne (number depth start bytes : ℕ) : Type 0 where
    pub index : ℕ
    pub activation : Activation
    pub at : slice_get (b ∷ more) index ≡ Some activation
    pub deep : depth + index ≡ length more + 1
    pub place : ℕ
    pub object : MemoryObject
    pub is : slice_get (code_of h a activation.function).graph.objects place ≡ Some object
    pub var : object.var.0 ≡ number
    pub begins : start ≡ start_of (code_of h a) sp (b ∷ more) index + object_at (code_of h a activation.function).storage place
    pub size : bytes ≡ bytes_in object

  frame_one : (number depth start bytes : ℕ) → IsFrameArea m (standings (code_of h a) sp (b ∷ more)) number depth start bytes → IsFrameOne number depth start bytes
  frame_one number depth start bytes area =
      let from = from_standing (code_of h a) sp (b ∷ more) area.index area.activation area.there in
      let place = all_at (IsPlaced h a m) (b ∷ more) area.index from.0 placed from.1 in
      let function_is : function_of_place m area.activation.place ≡ from.0.function = ap (λ (q : Standing). function_of_place m q.place) (sym from.2) ∙ place.function in
      let owner : area.variable.function ≡ Some from.0.function = owner_is area.variable (function_of_place m area.activation.place) area.own ∙ ap (λ f. Some f) function_is in
      let has = keeps.objects_only from.0.function number area.offset area.variable area.is owner area.storage in
      let k = keeps.objects from.0.function has.index has.object has.is in
      let same : k.variable ≡ area.variable = same_Some k.variable area.variable (sym k.is ∙ ap (slice_get m.variables) has.var ∙ area.is) in
      let stored : kept.Frame (object_at (code_of h a from.0.function).storage has.index) ≡ kept.Frame area.offset = sym k.there ∙ ap (λ (v : Variable). v.storage) same ∙ area.storage in
      let many = many_standings (code_of h a) sp (b ∷ more) in
      let deep = area.deep in
      record {
        index = area.index;
        activation = from.0;
        at = from.1;
        deep = omega (arith, many, deep);
        place = has.index;
        object = has.object;
        is = has.is;
        var = has.var;
        begins = area.starts ∙ ap (λ (q : Standing). q.frame + area.offset) (sym from.2) ∙ ap (λ k. start_of (code_of h a) sp (b ∷ more) area.index + k) (offset_is (object_at (code_of h a from.0.function).storage has.index) area.offset stored);
        size = area.size ∙ ap variable_size (sym same) ∙ k.size;
      }
    where
      offset_is : (x y : ℕ) → kept.Frame x ≡ kept.Frame y → y ≡ x
      offset_is x y same = cc

      owner_is : (v : Variable) (f : ℕ) → is_variable_of f v ≡ true → v.function ≡ Some f
      owner_is v f own = by_function v.function refl
        where
          by_function : (o : Option ℕ) → v.function ≡ o → v.function ≡ Some f
          by_function None is = absurd (let no : is_variable_of f v ≡ false = ap (λ o. option_map_or (λ g. g == f) o false) is in cc)
          by_function (Some g) is = is ∙ ap (λ k. Some k) (eqb-true g f (sym (ap (λ o. option_map_or (λ g. g == f) o false) is) ∙ own))

  -- ---- Inside

  -- the parts of a frame lie in it, with a word behind each
  record IsInFrame (x : Activation) (index place : ℕ) (o : MemoryObject) : Type 0 where
    pub low : start_of (code_of h a) sp (b ∷ more) index ≤ start_of (code_of h a) sp (b ∷ more) index + object_at (code_of h a x.function).storage place
    pub least : stack_start e.map ≤ start_of (code_of h a) sp (b ∷ more) index
    pub high : start_of (code_of h a) sp (b ∷ more) index + object_at (code_of h a x.function).storage place + bytes_in o + 4 ≤ start_of (code_of h a) sp (b ∷ more) index + (code_of h a x.function).size
    pub most : start_of (code_of h a) sp (b ∷ more) index + (code_of h a x.function).size ≤ stack_end e.map

  in_frame : (x : Activation) (index place : ℕ) (o : MemoryObject) → slice_get (b ∷ more) index ≡ Some x → slice_get (code_of h a x.function).graph.objects place ≡ Some o → IsInFrame x index place o
  in_frame x index place o at is =
      let frame = frame_there h a e addresses memory sp b more index x stack at in
      let code = all_codes h valid homed a h.unit x.function in
      let lies = code.objects place o is in
      let high = lies.high in
      record { low = omega arith; least = frame.low; high = omega (arith, high); most = frame.high }

  static_inside_memory : (number start bytes : ℕ) → IsStaticArea m number start bytes → (bytes_start e.map ≤ start) × (start + bytes + 4 ≤ bytes_end e.map)
  static_inside_memory number start bytes area =
      let one = static_one number start bytes area in
      let lies = static_inside h.unit valid number one.object one.is in
      let begins = one.begins in let size = one.size in let low = lies.0 in let high = lies.1 in
      let from = ap bytes_start regions in
      (omega (arith, begins, low, from), omega (arith, begins, size, high, from))

  frame_inside_memory : (number depth start bytes : ℕ) → IsFrameArea m (standings (code_of h a) sp (b ∷ more)) number depth start bytes → (stack_start e.map ≤ start) × (start + bytes + 4 ≤ stack_end e.map)
  frame_inside_memory number depth start bytes area =
      let one = frame_one number depth start bytes area in
      let lies = in_frame one.activation one.index one.place one.object one.at one.is in
      let begins = one.begins in let size = one.size in let least = lies.least in let low = lies.low in let high = lies.high in let most = lies.most in
      (omega (arith, begins, least, low), omega (arith, begins, size, high, most))

  -- An area lies in static memory or in the stack, with a word behind it.
  pub area_inside : (o : Owner) (start bytes : ℕ) → IsArea p m (standings (code_of h a) sp (b ∷ more)) o start bytes → LiesIn e.map start bytes
  area_inside (Static n) start bytes area = inl (static_inside_memory n start bytes area.1)
  area_inside (Literal n) start bytes area = inl (static_inside_memory (length p.statics + n) start bytes area.1)
  area_inside (OfVariable x depth) start bytes area = inr (frame_inside_memory (automatic_number p x) depth start bytes area)

  -- ---- Apart

  -- two ranges of addresses do not touch one another
  abbrev AreApart : (start other bytes its : ℕ) → Type 0
  AreApart start other bytes its = (start + bytes < other) ⊎ (other + its < start)

  statics_apart : (i j start other bytes its : ℕ) → i ≢ j → IsStaticArea m i start bytes → IsStaticArea m j other its → AreApart start other bytes its
  statics_apart i j start other bytes its differ first second =
      let one = static_one i start bytes first in
      let two = static_one j other its second in
      let b1 = one.begins in let s1 = one.size in let b2 = two.begins in let s2 = two.size in
      ⊎_elim
      (λ (lt : i < j). let before = static_before h.unit valid i j one.object two.object lt one.is two.is in inl (omega (arith, before, b1, s1, b2)))
      (λ (ge : j ≤ i). let other_one : i ≢ j = differ in let before = static_before h.unit valid j i two.object one.object (omega (arith, ge, other_one)) two.is one.is in inr (omega (arith, before, b2, s2, b1)))
      (cases_lt i j)

  static_below : (i number depth start other bytes its : ℕ) → IsStaticArea m i start bytes → IsFrameArea m (standings (code_of h a) sp (b ∷ more)) number depth other its → start + bytes < other
  static_below i number depth start other bytes its first second =
      let one = static_inside_memory i start bytes first in
      let two = frame_inside_memory number depth other its second in
      let high = one.1 in let low = two.0 in
      let apart = (map_facts e.map).apart in
      omega (arith, high, low, apart)

  -- two objects of activations
  inner_below : (one_index two_index one_place two_place start other bytes : ℕ) (x y : Activation) (o w : MemoryObject) → one_index < two_index → slice_get (b ∷ more) one_index ≡ Some x → slice_get (b ∷ more) two_index ≡ Some y
      → slice_get (code_of h a x.function).graph.objects one_place ≡ Some o → slice_get (code_of h a y.function).graph.objects two_place ≡ Some w
      → start ≡ start_of (code_of h a) sp (b ∷ more) one_index + object_at (code_of h a x.function).storage one_place → bytes ≡ bytes_in o
      → other ≡ start_of (code_of h a) sp (b ∷ more) two_index + object_at (code_of h a y.function).storage two_place → start + bytes < other
  inner_below one_index two_index one_place two_place start other bytes x y o w lt at1 at2 is1 is2 b1 s1 b2 =
      let first = in_frame x one_index one_place o at1 is1 in
      let second = in_frame y two_index two_place w at2 is2 in
      let between = ends_before (code_of h a) sp (b ∷ more) one_index two_index x at1 lt in
      let high = first.high in let low = second.low in
      omega (arith, between, high, low, b1, s1, b2)

  -- two of one activation
  beside : (index one_place two_place start other bytes its : ℕ) (x : Activation) (o w : MemoryObject) → one_place ≢ two_place
      → slice_get (code_of h a x.function).graph.objects one_place ≡ Some o → slice_get (code_of h a x.function).graph.objects two_place ≡ Some w
      → start ≡ start_of (code_of h a) sp (b ∷ more) index + object_at (code_of h a x.function).storage one_place → bytes ≡ bytes_in o
      → other ≡ start_of (code_of h a) sp (b ∷ more) index + object_at (code_of h a x.function).storage two_place → its ≡ bytes_in w → AreApart start other bytes its
  beside index one_place two_place start other bytes its x o w differ is1 is2 b1 s1 b2 s2 =
      ⊎_elim (λ before. inl (omega (arith, before, b1, s1, b2))) (λ behind. inr (omega (arith, behind, b1, b2, s2)))
      ((all_codes h valid homed a h.unit x.function).apart one_place two_place o w differ is1 is2)

  frames_apart : (x y d c start other bytes its : ℕ) → OfVariable x d ≢ OfVariable y c → IsFrameArea m (standings (code_of h a) sp (b ∷ more)) (automatic_number p x) d start bytes → IsFrameArea m (standings (code_of h a) sp (b ∷ more)) (automatic_number p y) c other its
      → AreApart start other bytes its
  frames_apart x y d c start other bytes its differ first second =
      by_index (frame_one (automatic_number p x) d start bytes first) (frame_one (automatic_number p y) c other its second)
    where
      by_index : IsFrameOne (automatic_number p x) d start bytes → IsFrameOne (automatic_number p y) c other its → AreApart start other bytes its
      by_index one two =
          ⊎_elim
          (λ (lt : one.index < two.index). inl (inner_below one.index two.index one.place two.place start other bytes one.activation two.activation one.object two.object lt one.at two.at one.is two.is one.begins one.size two.begins))
          (λ (ge : two.index ≤ one.index). ⊎_elim
          (λ (lt : two.index < one.index). inr (inner_below two.index one.index two.place one.place other start its two.activation one.activation two.object one.object lt two.at one.at two.is one.is two.begins two.size one.begins))
          (λ (le : one.index ≤ two.index).
          let index : two.index ≡ one.index = omega (arith, ge, le) in
          let same : two.activation ≡ one.activation = same_Some two.activation one.activation (sym two.at ∙ ap (slice_get (b ∷ more)) index ∙ one.at) in
          let is2 : slice_get (code_of h a one.activation.function).graph.objects two.place ≡ Some two.object = ap (λ (z : Activation). slice_get (code_of h a z.function).graph.objects two.place) (sym same) ∙ two.is in
          let begins : other ≡ start_of (code_of h a) sp (b ∷ more) one.index + object_at (code_of h a one.activation.function).storage two.place =
          two.begins ∙ ap (λ k. start_of (code_of h a) sp (b ∷ more) k + object_at (code_of h a two.activation.function).storage two.place) index ∙ ap (λ (z : Activation). start_of (code_of h a) sp (b ∷ more) one.index + object_at (code_of h a z.function).storage two.place) same in
          let deep1 = one.deep in let deep2 = two.deep in
          let depth : d ≡ c = omega (arith, deep1, deep2, index) in
          let places : one.place ≢ two.place = λ e.
          let object : one.object ≡ two.object = same_Some one.object two.object (sym one.is ∙ ap (slice_get (code_of h a one.activation.function).graph.objects) e ∙ is2) in
          let number : automatic_number p x ≡ automatic_number p y = sym one.var ∙ ap (λ (o : MemoryObject). o.var.0) object ∙ two.var in
          let variable : x ≡ y = omega (arith, number) in
          differ (ap (λ k. OfVariable k d) variable ∙ ap (λ k. OfVariable y k) depth) in
          beside one.index one.place two.place start other bytes its one.activation one.object two.object places one.is is2 one.begins one.size begins two.size)
          (cases_lt two.index one.index))
          (cases_lt one.index two.index)

  -- What two owners own lies apart, with a byte between.
  pub areas_apart : (o q : Owner) (start other bytes its : ℕ) → o ≢ q → IsArea p m (standings (code_of h a) sp (b ∷ more)) o start bytes → IsArea p m (standings (code_of h a) sp (b ∷ more)) q other its → (start + bytes < other) ⊎ (other + its < start)
  areas_apart (Static n) (Static k) start other bytes its differ first second = statics_apart n k start other bytes its (λ e. differ (ap (λ i. Static i) e)) first.1 second.1
  areas_apart (Static n) (Literal k) start other bytes its differ first second = statics_apart n (length p.statics + k) start other bytes its (λ e. absurd (let lt = first.0 in omega (arith, e, lt))) first.1 second.1
  areas_apart (Static n) (OfVariable y c) start other bytes its differ first second = inl (static_below n (automatic_number p y) c start other bytes its first.1 second)
  areas_apart (Literal n) (Static k) start other bytes its differ first second = statics_apart (length p.statics + n) k start other bytes its (λ e. absurd (let lt = second.0 in omega (arith, e, lt))) first.1 second.1
  areas_apart (Literal n) (Literal k) start other bytes its differ first second = statics_apart (length p.statics + n) (length p.statics + k) start other bytes its (λ e. let same : n ≡ k = omega (arith, e) in differ (ap (λ i. Literal i) same)) first.1 second.1
  areas_apart (Literal n) (OfVariable y c) start other bytes its differ first second = inl (static_below (length p.statics + n) (automatic_number p y) c start other bytes its first.1 second)
  areas_apart (OfVariable x d) (Static k) start other bytes its differ first second = inr (static_below k (automatic_number p x) d other start its bytes second.1 first)
  areas_apart (OfVariable x d) (Literal k) start other bytes its differ first second = inr (static_below (length p.statics + k) (automatic_number p x) d other start its bytes second.1 first)
  areas_apart (OfVariable x d) (OfVariable y c) start other bytes its differ first second = frames_apart x y d c start other bytes its differ first second
