-- What the words of code say of the writes of names: which word is told to write a home, and that none does where nothing is written.
use Rattle.std.proofs.Common.{◌≡◌, ◌≢◌, ℕ, zero, suc, ◌+◌, ◌<◌, ◌≤◌, ◌==◌, true, Option, Some, None, List, [], ◌∷◌, ◌++◌, length, slice_get, slice_index, get_or, refl, sym, ap, ◌∙◌, subst, arith}
use Rattle.std.specs.Prelude.{option_and_then, option_map}
use Rattle.std.specs.Option.{option_map_or}
use Rattle.std.proofs.lemmas.Bool.{eq-eqb, eqb-true}
use Rattle.std.proofs.lemmas.Option.{none-some, slice_get_within}
use Rattle.std.proofs.lemmas.List.{length-append}
use Rattle.places.specs.declared.flow.FlowTable.{FlowTable}
use Rattle.graph_core.specs.Graphs.{Block, Graph, Logged, Scalar, Instruction, ToScalar}
use Rattle.graph_core.specs.Points.{StandsWith}
use Rattle.graph_core.specs.Uses.{target_of}
use Rattle.graph_core.specs.Validity.{IsGraph, IsValid, place_behind}
use Rattle.graph_core.specs.WellMarked.{IsVariable}
use Rattle.graph_homes.specs.declared.home.Home.{Home}
use Rattle.graph_homes.specs.declared.home.Home.TheVariants.{Register, Slot}
use Rattle.graph_homes.specs.Homes.{is_same_home}
use Rattle.graph_homes.specs.Homed.{HomedForm, home_of}
use Rattle.rv_emit_tables.specs.Emitted.{EmittedForm, FunctionCode}
use Rattle.rv_emit_steps.specs.Programs.{address_of}
use Rattle.rv_emit_runs.specs.Laid.{Arrangement, code_of}
use Rattle.rv_emit_runs.proofs.Lists.{all_at}
use Rattle.rv_emit_runs.specs.Told.{instructions_before, AreCountable, IsTold, IsToldBinder, IsToldWriter, TellBinders, TellWriters, Tells}
use Rattle.rv_emit_runs.specs.Writing.{IsWriter, MayWrite, WritesIn, WritesNothingElse, instruction, binding}
use Rattle.currency_writers.specs.declared.writers.Writer as declared-writer
use Rattle.currency_writers.specs.declared.writers.Writer.TheVariants as writer
use Rattle.currency_writers.specs.Writers.{IsWriter as IsWriterOf, instruction as stands, parameter as bound}
use Rattle.currency_hiding.specs.Evidence.{IsBareRemoval}
use Rattle.image_build_tables.specs.Rows.{address_of_writer, firsts_from, instruction_number}
use Rattle.image_build.specs.Evidence.{IsBare, WritesAt}

-- ---- Homes

same_home : (a b : Home) → is_same_home a b ≡ true → a ≡ b
same_home (Register r) (Register q) e = ap (λ k. Register k) (eqb-true r q e)
same_home (Slot m) (Slot n) e = ap (λ k. Slot k) (eqb-true m n e)
same_home (Register r) (Slot n) e = cc
same_home (Slot m) (Register q) e = cc

is_itself : (a : Home) → is_same_home a a ≡ true
is_itself (Register r) = eq-eqb r r refl
is_itself (Slot n) = eq-eqb n n refl

pub home_shared : (a b : Home) → a ≡ b → is_same_home a b ≡ true
home_shared a b e = subst (λ c. is_same_home a c ≡ true) e (is_itself a)

-- A scalar of a valid graph is one of its names.
pub scalar_named : (u : HomedForm) (g : Graph) → IsGraph u.unit g → (x variable : ℕ) → IsVariable g x variable → x < g.name_count
scalar_named u g graph x variable is = by_found (slice_get g.scalars x) refl is
  where
    by_found : (found : Option Scalar) → slice_get g.scalars x ≡ found → option_map (λ (s : Scalar). s.variable) found ≡ Some variable → x < g.name_count
    by_found None at e = absurd (none-some variable e)
    by_found (Some s) at e =
        let low : x < length g.scalars = slice_get_within g.scalars x s at in
        let scalars = graph.scalars in
        let temporaries = graph.temporaries in
        omega (arith, low, scalars, temporaries)

-- ---- Numbers of instructions

firsts_are : (blocks : List Block) (n l : ℕ) → l < length blocks → n + instructions_before blocks (length blocks) ≤ 4294967295 → get_or (firsts_from n blocks) l 0 ≡ n + instructions_before blocks l
firsts_are [] n l low few = absurd (omega (arith, low))
firsts_are (b ∷ more) n zero low few = omega (arith, few)
firsts_are (b ∷ more) n (suc l) low few =
    let later : get_or (firsts_from (n + length b.instructions) more) l 0 ≡ n + length b.instructions + instructions_before more l = firsts_are more (n + length b.instructions) l (omega (arith, low)) (omega (arith, few)) in
    omega (arith, later)

before_grows : (blocks : List Block) (l : ℕ) (b : Block) → slice_get blocks l ≡ Some b → instructions_before blocks l + length b.instructions ≤ instructions_before blocks (length blocks)
before_grows [] l b at = cc
before_grows (x ∷ more) zero b at = let same : length x.instructions ≡ length b.instructions = (let both : x ≡ b = cc in ap (λ (y : Block). length y.instructions) both) in omega (arith, same)
before_grows (x ∷ more) (suc l) b at = let later = before_grows more l b at in omega (arith, later)

number_is : (g : Graph) (l k : ℕ) (b : Block) → slice_get g.blocks l ≡ Some b → k < length b.instructions → instructions_before g.blocks (length g.blocks) ≤ 4294967295 → instruction_number g l k ≡ instructions_before g.blocks l + k
number_is g l k b at low few =
    let first : get_or (firsts_from 0 g.blocks) l 0 ≡ 0 + instructions_before g.blocks l = firsts_are g.blocks 0 l (slice_get_within g.blocks l b at) (omega (arith, few)) in
    let grows = before_grows g.blocks l b at in
    omega (arith, first, grows, low, few)

-- ---- Words

module _ (h : HomedForm) (valid : IsValid h.unit) (a : Arrangement) (e : EmittedForm) (told : Tells h a e) (f : ℕ) (g : Graph) (is : slice_get h.unit.graphs f ≡ Some g) where
  graph_is : IsGraph h.unit g
  graph_is = all_at (IsGraph h.unit) h.unit.graphs f g valid.graphs is

  -- Where no code of a place writes a home, no word of it may.
  pub bare_words : WritesNothingElse h a e → (log : List Logged) (flow : FlowTable) (x variable change start : ℕ) → IsVariable g x variable → IsBareRemoval log flow (home_of h f) f g x variable change start → start ≢ 0 → IsBare h a e f start (home_of h f x)
  bare_words nothing log flow x variable change start of removal some code at index from to own may =
      none (nothing f g code is at index from to start own some x (scalar_named h g graph_is x variable of) may)
    where
      none : WritesIn h f g start (home_of h f x) → ⊥
      none (instruction l y b i before behind there parts place target home) =
          removal.bare y (writer.Instruction f l (length before)) (stands (record { block = b; before = before; is = there; instructions = parts; ends = refl; place = place }) target)
          (home_shared (home_of h f y) (home_of h f x) home)
      none (binding k y entry at home) = removal.bare y (writer.Binding f k) (bound entry at) (home_shared (home_of h f y) (home_of h f x) home)

  -- What is told to write a name is a word that writes its home, in its place.
  pub record IsToldAt (place : ℕ) (home : Home) (w : declared-writer.Writer) : Type 0 where
    pub address : ℕ
    pub at : address_of_writer h.unit.graphs e.functions w ≡ Some address
    pub word : WritesAt h a e f place home address

  code_told : IsTold h a e f
  code_told = told.functions f g is

  -- Its home may be that of another name.
  moved_home : (place y x : ℕ) (w : declared-writer.Writer) → is_same_home (home_of h f y) (home_of h f x) ≡ true → IsToldAt place (home_of h f y) w → IsToldAt place (home_of h f x) w
  moved_home place y x w shared one = subst (λ z. IsToldAt place z w) (same_home (home_of h f y) (home_of h f x) shared) one

  pub writer_words : TellWriters h a e → TellBinders h a e → AreCountable h → (place y x : ℕ) (w : declared-writer.Writer) → IsWriterOf f g place y w → is_same_home (home_of h f y) (home_of h f x) ≡ true → IsToldAt place (home_of h f x) w
  writer_words writers binders countable place y x w of shared = moved_home place y x w shared (by_form w of)
    where
      of_instruction : (l : ℕ) (i : Instruction) (rest : List Instruction) (b : Block) (before : List Instruction) → slice_get g.blocks l ≡ Some b → b.instructions ≡ before ++ (i ∷ rest) → place_behind before b.place ≡ Some place → target_of i ≡ Some y → IsToldAt place (home_of h f y) (writer.Instruction f l (length before))
      of_instruction l i rest b before at parts in_place target =
          let one : IsToldWriter h a e code_told.code f l (instructions_before g.blocks l + length before) (place_behind before b.place) (home_of h f y) = writers f g code_told.code is code_told.is l b at before rest i y parts target in
          let all = ap (λ (q : List Instruction). length q) parts ∙ length-append before (i ∷ rest) in
          let number : instruction_number g l (length before) ≡ instructions_before g.blocks l + length before = number_is g l (length before) b at (omega (arith, all)) (countable f g is) in
          record {
            address = address_of one.writer.index;
            at = ap (λ (o : Option Graph). option_and_then (λ (q : Graph). option_and_then (λ (c : FunctionCode). slice_get c.writers (instruction_number q l (length before))) (slice_get e.functions f)) o) is
                ∙ ap (λ (o : Option FunctionCode). option_and_then (λ (c : FunctionCode). slice_get c.writers (instruction_number g l (length before))) o) code_told.is ∙ ap (slice_get code_told.code.writers) number ∙ one.told;
            word = record { index = one.writer.index; is = refl; writes = one.writer.writes; owner = one.writer.owner ∙ ap (λ (o : Option ℕ). option_map_or (λ p. p) o 0) in_place };
          }

      of_binding : (k : ℕ) → place ≡ g.entry → slice_get g.parameters k ≡ Some (ToScalar y) → IsToldAt place (home_of h f y) (writer.Binding f k)
      of_binding k entry at =
          let one : IsToldBinder h a e code_told.code f k g.entry (home_of h f y) = binders f g code_told.code is code_told.is k y at in
          record {
            address = address_of one.binder.index;
            at = ap (λ (o : Option FunctionCode). option_and_then (λ (c : FunctionCode). slice_get c.bindings k) o) code_told.is ∙ one.told;
            word = record { index = one.binder.index; is = refl; writes = one.binder.writes; owner = one.binder.owner ∙ sym entry };
          }

      by_form : (w : declared-writer.Writer) → IsWriterOf f g place y w → IsToldAt place (home_of h f y) w
      by_form _ (stands {n = l} {i = i} {rest = rest} at target) = of_instruction l i rest at.block at.before at.is at.instructions at.place target
      by_form _ (bound {k = k} entry at) = of_binding k entry at
