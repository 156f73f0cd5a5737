-- A unit whose graphs are those of a valid unit with more computations is valid, if all its graphs together stay within bounds.
use Rattle.std.proofs.Common.{◌≡◌, ◌≢◌, ℕ, ◌≤◌, inl, inr, Option, Some, None, List, [], length, sym, ap, ◌∙◌, subst, arith}
use Rattle.std.specs.Prelude.{slice_get}
use Rattle.std.specs.List.{AllByRecursion}
use Rattle.event_runs.specs.Agreement.{Pairs}
use Rattle.graph_core.specs.Bounds.{most_instructions, most_blocks}
use Rattle.graph_core.specs.Graphs.{Instruction, End, Block, Graph, UnitForm, Logged}
use Rattle.graph_core.specs.Paths.{Among}
use Rattle.graph_core.specs.Uses.{targets_of}
use Rattle.graph_core.specs.Validity.{AreAllDifferent, AreEdges, AreOperandsOfEnd, HasParameters, IsBlock, IsGraph, IsInstruction, IsKept, IsOwnPlace, IsValid, arguments_of, instructions_of, place_at_end, total}
use Rattle.motion_pass.specs.Grown.{IsOnEdge, IsLedTo, directly, by_own, IsGrownEnd, returns, jumps, branches, IsGrownBlock, IsGrown}
use Rattle.motion_pass.proofs.Lists.{all_carried, all_of_both, all_so, as_many, carried_at, each_among, same_total}
use Rattle.motion_pass.proofs.Naming.{KeepParameters, end_grown, grown_graph, instructions_grown, with_graphs}
use Rattle.motion_pass.proofs.Shapes.{block_has, has_at_end, has_place, keeps_place, kept_at, own_at_end, same_at_end, same_behind, same_graph_arguments, same_graph_markers, same_markers_of}

module _ (u : UnitForm) (hs : List Graph) (log : List Logged) (graphs : Pairs (IsGrown (IsInstruction (with_graphs u hs log))) u.graphs hs) (grown : length u.log ≤ length log) where
  -- what an instruction of a graph names is there
  abbrev May : Graph → Instruction → Type 0
  May = IsInstruction (with_graphs u hs log)

  -- Functions by their number have as many parameters as before.
  keep_parameters : KeepParameters u.graphs hs
  keep_parameters f count h = carried_at (IsGrown May) (λ o. HasParameters o count) (λ o. HasParameters o count) (λ none. none) one u.graphs hs graphs f h
    where
      one : (g h : Graph) → IsGrown May g h → count ≡ length g.parameters → count ≡ length h.parameters
      one g h s e = subst (λ (k : Graph). count ≡ length k.parameters) (sym s.rest) e

  module _ (g : Graph) (count : ℕ) (blocks : List Block) (s : IsGrown May g (grown_graph g count blocks)) where
    -- what an instruction of the grown graph names is there
    abbrev MayHere : Instruction → Type 0
    MayHere = May (grown_graph g count blocks)

    -- A place that a block keeps is the entry of its graph, or has its marker there.
    own_place : (p : Option ℕ) → IsOwnPlace g p → IsOwnPlace (grown_graph g count blocks) p
    own_place None h = tt
    own_place (Some p) (inl e) = inl e
    own_place (Some p) (inr among) = inr (subst (Among p) (sym (same_graph_markers May g (grown_graph g count blocks) s)) among)

    -- What keeps the place in force still does.
    still_kept : (place : Option ℕ) (n : ℕ) → IsKept place (slice_get g.blocks n) → IsKept place (slice_get blocks n)
    still_kept place n h = subst (λ all. IsKept place (slice_get all n)) (sym s.are) (kept_at MayHere blocks place g.blocks s.first s.own s.blocks n h)

    -- So does where an edge leads now.
    led_kept : (place : Option ℕ) (to label : ℕ) → IsLedTo MayHere blocks place to label → IsKept place (slice_get g.blocks to) → IsKept place (slice_get blocks label)
    led_kept place to _ directly h = still_kept place to h
    led_kept place to label (by_own c at between) h = subst (IsKept place) (sym at) (keeps_place MayHere [] c.instructions between.instructions place c.place (sym between.place))

    -- Each edge from an end leads to a block that keeps the place in force.
    edges_kept : (place : Option ℕ) (e f : End) → IsGrownEnd MayHere blocks place e f → AreEdges g place (targets_of e) → AreEdges (grown_graph g count blocks) place (targets_of f)
    edges_kept place _ _ returns h = tt
    edges_kept place _ _ (jumps {to}) h = (still_kept place to h.0, tt)
    edges_kept place _ _ (branches {to = to} {else} {label} {other} one two) h = (led_kept place to label one h.0, (led_kept place else other two h.1.0, tt))

    -- A block that grew of a valid one is valid.
    block_valid : (b c : Block) → IsGrownBlock MayHere blocks b c → IsBlock u g b → IsBlock (with_graphs u hs log) (grown_graph g count blocks) c
    block_valid b c t v = record {
      place = block_has MayHere blocks b c t v.place;
      own = subst (IsOwnPlace (grown_graph g count blocks)) (sym t.place) (own_place b.place v.own);
      instructions = instructions_grown u hs log keep_parameters grown g count blocks s.more b.instructions c.instructions t.instructions v.instructions;
      operands = end_grown u hs log keep_parameters grown g count blocks s.more (place_at_end b) b.end c.end t.end v.operands;
      edges = subst (λ p. AreEdges (grown_graph g count blocks) p (targets_of c.end)) (sym (same_at_end MayHere blocks b c t)) (edges_kept (place_at_end b) b.end c.end t.end v.edges);
    }

    -- So is a block on an edge, which keeps the place that is in force at the end of a valid one.
    between_valid : AllByRecursion (IsBlock u g) g.blocks → (c : Block) → IsOnEdge MayHere g c → IsBlock (with_graphs u hs log) (grown_graph g count blocks) c
    between_valid valid c t =
        let v : IsBlock u g t.from = each_among (IsBlock u g) g.blocks t.from t.is valid in
        let place : Option ℕ = place_at_end t.from in
        let here : place_at_end c ≡ c.place = same_behind MayHere [] c.instructions t.between.instructions c.place in
        let led : IsKept place (slice_get g.blocks t.to) = each_among (λ l. IsKept place (slice_get g.blocks l)) (targets_of t.from.end) t.to t.leads v.edges in
        let there : IsKept (place_at_end c) (slice_get blocks t.to) = subst (λ p. IsKept p (slice_get blocks t.to)) (sym (here ∙ t.between.place)) (still_kept place t.to led) in
        record {
          place = has_place MayHere [] c.instructions t.between.instructions c.place (subst (λ p. p ≢ None) (sym t.between.place) (has_at_end t.from.instructions t.from.place v.place));
          own = subst (IsOwnPlace (grown_graph g count blocks)) (sym t.between.place) (own_place place (own_at_end g t.from t.is v.own));
          instructions = instructions_grown u hs log keep_parameters grown g count blocks s.more [] c.instructions t.between.instructions tt;
          operands = subst (AreOperandsOfEnd u.statics (grown_graph g count blocks)) (sym t.between.end) tt;
          edges = subst (λ e. AreEdges (grown_graph g count blocks) (place_at_end c) (targets_of e)) (sym t.between.end) (there, tt);
        }

    -- A valid graph is valid with all that.
    grown_valid : IsGraph u g → IsGraph (with_graphs u hs log) (grown_graph g count blocks)
    grown_valid v =
        let front : AllByRecursion (IsBlock (with_graphs u hs log) (grown_graph g count blocks)) s.first = all_carried (IsGrownBlock MayHere blocks) (IsBlock u g) (IsBlock (with_graphs u hs log) (grown_graph g count blocks)) block_valid g.blocks s.first s.blocks v.blocks in
        let back : AllByRecursion (IsBlock (with_graphs u hs log) (grown_graph g count blocks)) s.own = all_so (IsOnEdge MayHere g) (IsBlock (with_graphs u hs log) (grown_graph g count blocks)) (between_valid v.blocks) s.own s.edges in
        record {
          instructions = s.instructions;
          names = s.names;
          scalars = v.scalars;
          temporaries = omega (arith, v.temporaries, s.more);
          parameters = v.parameters;
          bindings = v.bindings;
          objects = v.objects;
          begins = still_kept (Some g.entry) 0 v.begins;
          blocks = subst (AllByRecursion (IsBlock (with_graphs u hs log) (grown_graph g count blocks))) (sym s.are) (all_of_both (IsBlock (with_graphs u hs log) (grown_graph g count blocks)) s.first s.own front back);
        }

  -- A graph that grew of a valid one is valid.
  graph_valid : (g h : Graph) → IsGrown May g h → IsGraph u g → IsGraph (with_graphs u hs log) h
  graph_valid g h s v = subst (IsGraph (with_graphs u hs log)) (sym s.rest) (grown_valid g h.name_count h.blocks (subst (IsGrown May g) s.rest s) v)

  -- A unit with such graphs, and with a log that is no shorter, is valid, if its graphs together have no more instructions and blocks than a unit may.
  pub graphs_replaced : total instructions_of hs ≤ most_instructions u.room → total (λ (g : Graph). length g.blocks) hs ≤ most_blocks u.room → IsValid u → IsValid (with_graphs u hs log)
  graphs_replaced few_instructions few_blocks v = record {
    functions = omega (arith, v.functions, as_many (IsGrown May) u.graphs hs graphs);
    main = keep_parameters u.main 0 v.main;
    instructions = few_instructions;
    blocks = few_blocks;
    markers = omega (arith, v.markers, ap (λ (l : List ℕ). length l) (same_markers_of May u.graphs hs graphs));
    arguments = omega (arith, v.arguments, same_total (IsGrown May) arguments_of arguments_of (same_graph_arguments May) u.graphs hs graphs);
    statics = v.statics;
    relocations = v.relocations;
    once = subst AreAllDifferent (sym (same_markers_of May u.graphs hs graphs)) v.once;
    graphs = all_carried (IsGrown May) (IsGraph u) (IsGraph (with_graphs u hs log)) graph_valid u.graphs hs graphs v.graphs;
  }
