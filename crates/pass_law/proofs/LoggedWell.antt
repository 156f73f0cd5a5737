-- What is logged for the cases of a well marked unit.
use Rattle.std.proofs.Common.{◌≡◌, ◌≢◌, inl, inr, ℕ, zero, suc, ◌≤◌, Option, Some, None, List, [], ◌∷◌, ◌++◌, length, map, refl, sym, ap, ◌∙◌, subst, arith}
use Rattle.std.specs.Prelude.{slice_get}
use Rattle.std.specs.List.{AllByRecursion}
use Rattle.std.proofs.lemmas.List.{length-map}
use Rattle.std.proofs.lemmas.Option.{none-some, same_Some}
use Rattle.debug_records.specs.declared.change.PassName.{PassName}
use Rattle.debug_records.specs.declared.change.Kind as declared-kind
use Rattle.debug_records.specs.declared.change.Kind.TheVariants.{Sunk}
use Rattle.graph_core.specs.Graphs.{Instruction, Marker, End, Block, Graph, Logged, UnitForm}
use Rattle.graph_core.specs.Paths.{Among, front, behind}
use Rattle.graph_core.specs.Points.{StandsWith}
use Rattle.graph_core.specs.Validity.{IsBlock, IsGraph, IsOwnPlace, place_behind, markers_in, markers_of_blocks, markers_of}
use Rattle.graph_core.specs.WellMarked.{IsWellMarked, AreWellMarked}
use Rattle.graph_core.proofs.Among.{among_left, among_right}
use Rattle.base_laws.proofs.Lists.{all_at, all_map, all_so}
use Rattle.pass_law.specs.declared.cases.Case.{Case}
use Rattle.pass_law.specs.Changes.{AddsChangesOf, IsCaseOf, logged_as}
use Rattle.pass_law.specs.Logs.{IsScalarIn, LogsWell, most_changes}
use Rattle.pass_law.proofs.FewCases.{AreApart, all_apart}

-- Markers of a part of a block are markers of the block.
markers_left : (before rest : List Instruction) (p : ℕ) → Among p (markers_in before) → Among p (markers_in (before ++ rest))
markers_left [] rest p among = elim among [ ]
markers_left (Marker q ∷ before) rest _ front = front
markers_left (Marker q ∷ before) rest p (behind more) = behind (markers_left before rest p more)
markers_left (_ ∷ before) rest p among = markers_left before rest p among

-- A marker of a block is one of the blocks.
marker_of_block : (blocks : List Block) (n : ℕ) (b : Block) (p : ℕ) → slice_get blocks n ≡ Some b → Among p (markers_in b.instructions) → Among p (markers_of_blocks blocks)
marker_of_block [] n b p at among = absurd (none-some b at)
marker_of_block (c ∷ blocks) zero b p at among = among_left p (markers_in c.instructions) (markers_of_blocks blocks) (subst (λ (k : Block). Among p (markers_in k.instructions)) (sym (same_Some c b at)) among)
marker_of_block (c ∷ blocks) (suc n) b p at among = among_right p (markers_in c.instructions) (markers_of_blocks blocks) (marker_of_block blocks n b p at among)

-- A marker of a graph is one of the graphs.
pub marker_of_graph : (graphs : List Graph) (f : ℕ) (g : Graph) (p : ℕ) → slice_get graphs f ≡ Some g → Among p (markers_of_blocks g.blocks) → Among p (markers_of graphs)
marker_of_graph [] f g p at among = absurd (none-some g at)
marker_of_graph (h ∷ graphs) zero g p at among = among_left p (markers_of_blocks h.blocks) (markers_of graphs) (subst (λ (k : Graph). Among p (markers_of_blocks k.blocks)) (sym (same_Some h g at)) among)
marker_of_graph (h ∷ graphs) (suc f) g p at among = among_right p (markers_of_blocks h.blocks) (markers_of graphs) (marker_of_graph graphs f g p at among)

-- The place in force behind instructions is one of these, where the one before is, and each that they begin.
place_among : (all : List ℕ) (before : List Instruction) (place : Option ℕ) (p : ℕ) → ((q : ℕ) → place ≡ Some q → Among q all) → ((q : ℕ) → Among q (markers_in before) → Among q all) → place_behind before place ≡ Some p
    → Among p all
place_among all [] place p kept begun is = kept p is
place_among all (Marker q ∷ before) place p kept begun is = place_among all before (Some q) p (λ r same. subst (λ n. Among n all) (same_Some q r same) (begun q front)) (λ r among. begun r (behind among)) is
place_among all (_ ∷ before) place p kept begun is = place_among all before place p kept begun is

-- The entry of a well marked graph has its marker.
pub entry_marked : (u : UnitForm) (g : Graph) → IsWellMarked u g → (n : ℕ) (b : Block) → slice_get g.blocks n ≡ Some b → Among g.entry (markers_of_blocks g.blocks)
entry_marked u g marked n b at = by_blocks g.blocks refl
  where
    by_blocks : (blocks : List Block) → g.blocks ≡ blocks → Among g.entry (markers_of_blocks blocks)
    by_blocks [] same = absurd (none-some b (sym (ap (λ all. slice_get all n) same) ∙ at))
    by_blocks (c ∷ blocks) same =
        let first = marked.begins c (ap (λ all. slice_get all 0) same) in
        among_left g.entry (markers_in c.instructions) (markers_of_blocks blocks) (subst (λ all. Among g.entry (markers_in all)) (sym first.1) front)

module _ (u : UnitForm) (marked : AreWellMarked u) (f : ℕ) (g : Graph) (is : slice_get u.graphs f ≡ Some g) where
  -- A POINT OF A WELL MARKED UNIT HAS A PLACE THAT A MARKER BEGINS.
  pub place_marked : (p n : ℕ) (rest : List Instruction) (e : End) → StandsWith g p n rest e → Among p (markers_of u.graphs)
  place_marked p n rest e s =
      marker_of_graph u.graphs f g p is (place_among (markers_of_blocks g.blocks) s.before s.block.place p (kept s.block.place block.own)
      (λ q among. marker_of_block g.blocks n s.block q s.is (subst (λ all. Among q (markers_in all)) (sym s.instructions) (markers_left s.before rest q among))) s.place)
    where
      valid : IsGraph u g
      valid = all_at (IsGraph u) u.graphs f g marked.valid.graphs is

      block : IsBlock u g s.block
      block = all_at (IsBlock u g) g.blocks n s.block valid.blocks s.is

      kept : (place : Option ℕ) → IsOwnPlace g place → (q : ℕ) → place ≡ Some q → Among q (markers_of_blocks g.blocks)
      kept None own q same = absurd (none-some q same)
      kept (Some r) (inl entry) q same = subst (λ k. Among k (markers_of_blocks g.blocks)) (sym entry ∙ same_Some r q same) (entry_marked u g (marked.graphs f g is) n s.block s.is)
      kept (Some r) (inr own) q same = subst (λ k. Among k (markers_of_blocks g.blocks)) (same_Some r q same) own

module _ (pass : PassName) (kind : declared-kind.Kind) (IsCase : (before after : Graph) → Case → Type 0) (u v : UnitForm) (changes : AddsChangesOf pass kind IsCase u v) where
  -- a case of a function of the unit
  abbrev pub IsOfUnit : ℕ × Case → Type 0
  IsOfUnit c = IsCaseOf IsCase u.graphs v.graphs c

  -- What is so of each case is so of the changes that are logged for them.
  changes_so : (P : Logged → Type 0) → ((c : ℕ × Case) → IsOfUnit c → P (logged_as pass kind c.1)) → AllByRecursion P (map (logged_as pass kind) changes.cases)
  changes_so P so =
      let are = (all_apart IsOfUnit changes.all.of changes.all.all).0 in
      all_map (logged_as pass kind) P changes.cases
      (subst (λ all. AllByRecursion (λ c. P (logged_as pass kind c)) all) (sym changes.all.are)
      (all_map (λ (c : ℕ × Case). c.1) (λ c. P (logged_as pass kind c)) changes.all.of (all_so IsOfUnit (λ c. P (logged_as pass kind c.1)) so changes.all.of are)))

  -- WHAT IS LOGGED FOR CASES IS LOGGED WELL, where the kind is not Sunk and there are few, each in a place that a marker begins, of a variable that is a scalar.
  pub logged_well : kind ≢ Sunk → ((cases : List (ℕ × Case)) → AllByRecursion IsOfUnit cases → AreApart cases → length cases ≤ most_changes u.room)
      → ((c : ℕ × Case) → IsOfUnit c → Among c.1.place.0 (markers_of u.graphs)) → ((c : ℕ × Case) → IsOfUnit c → IsScalarIn u c.1.var.0) → LogsWell pass u v
  logged_well unsunk few at of =
      let all = all_apart IsOfUnit changes.all.of changes.all.all in
      let most = few changes.all.of all.0 all.1 in
      let mapped = length-map changes.cases (logged_as pass kind) in
      let same : length changes.cases ≡ length changes.all.of = ap length changes.all.are ∙ length-map changes.all.of (λ (c : ℕ × Case). c.1) in
      record {
        added = map (logged_as pass kind) changes.cases;
        log = changes.log;
        few = omega (arith, most, mapped, same);
        by = changes_so (λ (c : Logged). c.pass ≡ pass) (λ c is. refl);
        kinds = changes_so (λ (c : Logged). c.kind ≢ Sunk) (λ c is. unsunk);
        at = changes_so (λ (c : Logged). Among c.place (markers_of u.graphs)) at;
        of = changes_so (λ (c : Logged). IsScalarIn u c.variable) of;
      }
