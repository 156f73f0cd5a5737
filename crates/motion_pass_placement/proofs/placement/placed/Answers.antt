use Rattle.std.proofs.Common.{◌≡◌, ◌↔◌, ℕ, ◌/◌, ◌<◌, Bool, true, false, List, Option, Some, None, length, map, refl, sym, ap, ◌∙◌, subst, arith}
use Rattle.std.specs.Prelude.{is_some, slice_index_or}
use Rattle.std.specs.BTreeMap.{get}
use Rattle.std.proofs.lemmas.List.{length-map}
use Rattle.std.proofs.lemmas.Option.{slice_get_within}
use Rattle.std.specs.Global.{Vec}
use Rattle.graph_core.specs.declared.block.Block as declared-block
use Rattle.graph_core.specs.Graphs.{Block, block_view, graph_view}
use Rattle.graph_core.specs.Computations.{Computation}
use Rattle.motion_pass_points.specs.MotionPointsComputing.{computation_view}
use Rattle.motion_pass_points.specs.Numbers.{key_cmp, views_of}
use Rattle.motion_pass_problems.proofs.Inner.{at_inside}
use Rattle.motion_pass_problems.specs.Flowing.{HasEdge}
use Rattle.motion_pass_problems.specs.Facts.{AreReached}
use Rattle.motion_pass_placement.specs.declared.fates.Fate.{Fate}
use Rattle.motion_pass_placement.specs.Columns.{AreFated, AreRows, HasFacts, fates_of, row_of}
use Rattle.motion_pass_placement.specs.Placed.{IsMovedAnywhere, temporary_of}
use Rattle.motion_pass_placement.proofs.Acted.{AreToldOf}
use Rattle.motion_pass_placement.proofs.Bounds.{computed_named, few_blocks, few_computed}
use Rattle.motion_pass_placement.proofs.Named.{named_rule}
use Rattle.motion_pass_placement.proofs.placement.placed.Goals as goal

moved_rows : {xs ys : List declared-block.Block} {rs qs : List Bool} {ns ms : List (Vec (Option ℕ))} (all : List Computation) → xs ≡ ys → rs ≡ qs → ns ≡ ms → AreRows (map block_view xs) (λ n. slice_index_or rs n false) all ns → AreRows (map block_view ys) (λ n. slice_index_or qs n false) all ms
moved_rows {xs} {ys} {rs} {qs} {ns} {ms} all p q r are =
    subst (λ (zs : List (Vec (Option ℕ))). AreRows (map block_view ys) (λ n. slice_index_or qs n false) all zs) r
    (subst (λ (zs : List Bool). AreRows (map block_view ys) (λ n. slice_index_or zs n false) all ns) q (subst (λ (zs : List declared-block.Block). AreRows (map block_view zs) (λ n. slice_index_or rs n false) all ns) p are))

pub numbers_of-requires : goal.numbers_of-requires
numbers_of-requires c = c.requires.known

pub columns-requires : goal.columns-requires
columns-requires c = record {
  few = few_blocks (graph_view c.args.graph.now) c.requires.bounded;
  reached = subst (λ (rs : List Bool). AreReached (map block_view c.args.graph.now.blocks.items) (λ n. slice_index_or rs n false)) (sym c.deref-4.ensures.value) c.requires.reached;
  once = subst (λ (rs : List Bool). (m : ℕ) → HasEdge (map block_view c.args.graph.now.blocks.items) (λ n. slice_index_or rs n false) m 0 → ⊥) (sym c.deref-4.ensures.value) c.requires.once;
  known = c.requires.known;
  computed = few_computed (graph_view c.args.graph.now) c.requires.bounded (λ n. slice_index_or c.args.reached.items n false) (views_of c.args.computations) c.requires.order;
  named = computed_named (graph_view c.args.graph.now) c.requires.bounded (λ n. slice_index_or c.args.reached.items n false) (views_of c.args.computations) c.requires.order;
  rows = moved_rows (views_of c.args.computations) c.deref.ensures.value (c.deref-2.ensures.value ∙ sym c.deref-4.ensures.value) (sym c.deref-3.ensures.value) c.in_ok-numbers.ensures.told;
}

pub fates-requires-clause-placing : goal.fates-requires-clause-placing
fates-requires-clause-placing c = record {
  few = few_blocks (graph_view c.args.graph.now) c.requires.bounded;
  reached = subst (λ (rs : List Bool). AreReached (map block_view c.args.graph.now.blocks.items) (λ n. slice_index_or rs n false)) (sym c.deref-4.ensures.value) c.requires.reached;
  once = subst (λ (rs : List Bool). (m : ℕ) → HasEdge (map block_view c.args.graph.now.blocks.items) (λ n. slice_index_or rs n false) m 0 → ⊥) (sym c.deref-4.ensures.value) c.requires.once;
  known = c.requires.known;
  computed = few_computed (graph_view c.args.graph.now) c.requires.bounded (λ n. slice_index_or c.args.reached.items n false) (views_of c.args.computations) c.requires.order;
  named = computed_named (graph_view c.args.graph.now) c.requires.bounded (λ n. slice_index_or c.args.reached.items n false) (views_of c.args.computations) c.requires.order;
  rows = moved_rows (views_of c.args.computations) c.deref.ensures.value (c.deref-2.ensures.value ∙ sym c.deref-4.ensures.value) (sym c.deref-3.ensures.value) c.in_ok-numbers.ensures.told;
}

pub numbered-requires : goal.numbered-requires
numbered-requires c =
    let size = length-map c.args.computations.all.items computation_view in
    let count : length c.deref-9.result.now ≡ c.len.result = ap length c.deref-9.ensures.value ∙ c.in_ok-treated.ensures.size in
    let few = few_computed (graph_view c.args.graph.now) c.requires.bounded (λ n. slice_index_or c.args.reached.items n false) (views_of c.args.computations) c.requires.order in
    let names = c.requires.bounded.names in
    omega (arith, size, count, few, names, c.len.ensures)

pub returns : goal.returns
returns c =
    let blocks : List Block = map block_view c.args.graph.now.blocks.items in
    let reached : ℕ → Bool = λ n. slice_index_or c.args.reached.items n false in
    let all = views_of c.args.computations in
    let rows = c.in_ok-numbers.numbers.items in
    let fates = c.in_ok-fates.fates.items in
    let columns = c.in_ok-columns.columns.items in
    let made = c.in_ok-made.made in
    let flags_are : ◌≡◌ {A = ℕ → Bool} (λ n. slice_index_or c.deref-4.result.now n false) reached = λ i n. slice_index_or (c.deref-4.ensures.value i) n false in
    let solved = c.in_ok-columns.ensures in
    let are_rows : AreRows blocks reached all rows = moved_rows all c.deref.ensures.value c.deref-2.ensures.value refl c.in_ok-numbers.ensures.told in
    let told : AreToldOf blocks reached all rows fates = record {
      whole = c.requires.reached;
      once = c.requires.order;
      along = are_rows;
      told = λ n b at comes k e is_it. subst (λ (ns : List (Vec (Option ℕ))). AreFated blocks n b (row_of ns n) k e (fates_of fates n)) c.deref-3.ensures.value (c.in_ok-fates.ensures.told n b at ((λ i. flags_are i n) ∙ comes) k e is_it);
    } in
    let numbered = c.in_ok-made.ensures.numbered in
    let flagged = c.in_ok-made.ensures.flagged in
    let sized = c.in_ok-made.ensures.size in
    record {
      reached = c.requires.reached;
      known = c.requires.known;
      once = c.requires.order;
      rows = are_rows;
      fates = told.told;
      columns = λ k e is_it.
          (let found = at_inside columns (k / 64) (solved.enough k e is_it) in
          record { solved = found.0; is = found.1; facts = subst (λ flags. HasFacts blocks flags e k found.0.facts) flags_are ((solved.each (k / 64) found.0 found.1).facts k e refl is_it) });
      few = solved.few;
      named = λ k e is_it.
          (let size = length-map c.args.computations.all.items computation_view in
          let below = slice_get_within all k e is_it in
          let inside : k < c.len.result = omega (arith, below, size, c.len.ensures) in
          let marked : (slice_index_or c.in_ok-treated.treated.items k false ≡ true) ↔ IsMovedAnywhere (length fates) rows fates k
          = subst (λ (ns : List (Vec (Option ℕ))). (slice_index_or c.in_ok-treated.treated.items k false ≡ true) ↔ IsMovedAnywhere (length fates) ns fates k) c.deref-7.ensures.value
          (subst (λ (fs : List (Vec Fate)). (slice_index_or c.in_ok-treated.treated.items k false ≡ true) ↔ IsMovedAnywhere (length fs) c.deref-7.result.now fs k) c.deref-8.ensures.value (c.in_ok-treated.ensures.marked k inside)) in
          let count : length c.deref-9.result.now ≡ c.len.result = ap length c.deref-9.ensures.value ∙ c.in_ok-treated.ensures.size in
          named_rule blocks reached all rows fates told (get key_cmp c.args.computations.numbers) c.requires.known c.in_ok-fates.ensures.sizes k e is_it (temporary_of made.temporaries.items k) (slice_index_or c.in_ok-treated.treated.items k false)
          (flagged k (omega (arith, inside, count)) ∙ ap (λ (ts : List Bool). slice_index_or ts k false) c.deref-9.ensures.value) marked);
      as_many =
          (let size = length-map c.args.computations.all.items computation_view in
          let count : length c.deref-9.result.now ≡ c.len.result = ap length c.deref-9.ensures.value ∙ c.in_ok-treated.ensures.size in
          omega (arith, sized, size, count, c.len.ensures));
      numbered = numbered;
    }
