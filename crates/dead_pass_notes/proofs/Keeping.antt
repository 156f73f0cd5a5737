-- A unit whose graphs are those of a valid unit without some of their writes is valid.
use Rattle.std.proofs.Common.{ℕ, ◌≤◌, inl, inr, Option, Some, None, List, [], ◌∷◌, length, refl, sym, ap, subst, arith}
use Rattle.event_runs.specs.Agreement.{Pairs}
use Rattle.graph_core.specs.Graphs.{Block, Graph, UnitForm, Logged}
use Rattle.graph_core.specs.Paths.{Among}
use Rattle.graph_core.specs.Uses.{targets_of}
use Rattle.graph_core.specs.Validity.{AreAllDifferent, AreEdges, AreOperandsOfEnd, IsOwnPlace, IsBlock, IsGraph, IsValid, arguments_of, instructions_of, place_at_end}
use Rattle.dead_pass_notes.specs.Thinned.{IsThinnedBlock, IsThinned}
use Rattle.dead_pass_notes.proofs.Lists.{as_many, less_total, all_carried}
use Rattle.dead_pass_notes.proofs.Naming.{MayBeSaid, end_stays, instructions_stay, same_parameters, with_blocks, with_graphs}
use Rattle.dead_pass_notes.proofs.Shapes.{block_has, kept_at, less_arguments, less_instructions, same_at_end, same_block_markers, same_blocks, same_markers_of}

module _ (u : UnitForm) (hs : List Graph) (log : List Logged) (graphs : Pairs (IsThinned (MayBeSaid u log)) u.graphs hs) (grown : length u.log ≤ length log) where
  module _ (g : Graph) (blocks : List Block) (thinned : Pairs (IsThinnedBlock (MayBeSaid u log g)) g.blocks blocks) where
    -- A place that a block keeps is the entry of its graph, or has its marker there.
    own_place : (p : Option ℕ) → IsOwnPlace g p → IsOwnPlace (with_blocks g blocks) p
    own_place None h = tt
    own_place (Some p) (inl e) = inl e
    own_place (Some p) (inr among) = inr (subst (Among p) (sym (same_block_markers (MayBeSaid u log g) g.blocks blocks thinned)) among)

    -- Each edge leads to a block that keeps the place in force.
    edges_kept : (place : Option ℕ) (targets : List ℕ) → AreEdges g place targets → AreEdges (with_blocks g blocks) place targets
    edges_kept place [] h = tt
    edges_kept place (l ∷ targets) h = (kept_at (MayBeSaid u log g) place g.blocks blocks thinned l h.0, edges_kept place targets h.1)

    -- A valid block is valid without some of its writes.
    block_valid : (b c : Block) → IsThinnedBlock (MayBeSaid u log g) b c → IsBlock u g b → IsBlock (with_graphs u hs log) (with_blocks g blocks) c
    block_valid b c s v =
        let edges : AreEdges (with_blocks g blocks) (place_at_end b) (targets_of b.end) = edges_kept (place_at_end b) (targets_of b.end) v.edges in
        let placed : AreEdges (with_blocks g blocks) (place_at_end c) (targets_of b.end) = subst (λ p. AreEdges (with_blocks g blocks) p (targets_of b.end)) (sym (same_at_end (MayBeSaid u log g) b c s)) edges in
        record {
          place = block_has (MayBeSaid u log g) b c s v.place;
          own = subst (IsOwnPlace (with_blocks g blocks)) (sym s.place) (own_place b.place v.own);
          instructions = instructions_stay u hs log graphs grown g blocks b.instructions c.instructions s.instructions v.instructions;
          operands = subst (AreOperandsOfEnd u.statics (with_blocks g blocks)) (sym s.end) (end_stays u hs log graphs grown g blocks b.end v.operands);
          edges = subst (λ e. AreEdges (with_blocks g blocks) (place_at_end c) (targets_of e)) (sym s.end) placed;
        }

    -- A valid graph is valid with these blocks.
    blocks_replaced : IsGraph u g → IsGraph (with_graphs u hs log) (with_blocks g blocks)
    blocks_replaced v = record {
      instructions = omega (arith, v.instructions, less_instructions (MayBeSaid u log) g (with_blocks g blocks) (record { rest = refl; blocks = thinned }));
      names = v.names;
      scalars = v.scalars;
      temporaries = v.temporaries;
      parameters = v.parameters;
      bindings = v.bindings;
      objects = v.objects;
      begins = kept_at (MayBeSaid u log g) (Some g.entry) g.blocks blocks thinned 0 v.begins;
      blocks = all_carried (IsThinnedBlock (MayBeSaid u log g)) (IsBlock u g) (IsBlock (with_graphs u hs log) (with_blocks g blocks)) block_valid g.blocks blocks thinned v.blocks;
    }

  -- A valid graph is valid without some of its writes.
  graph_valid : (g h : Graph) → IsThinned (MayBeSaid u log) g h → IsGraph u g → IsGraph (with_graphs u hs log) h
  graph_valid g h s v = subst (IsGraph (with_graphs u hs log)) (sym s.rest) (blocks_replaced g h.blocks s.blocks v)

  -- A unit with such graphs, and with a log that is no shorter, is valid.
  pub graphs_replaced : IsValid u → IsValid (with_graphs u hs log)
  graphs_replaced v = record {
    functions = omega (arith, v.functions, as_many (IsThinned (MayBeSaid u log)) u.graphs hs graphs);
    main = same_parameters (MayBeSaid u log) u.graphs hs graphs u.main 0 v.main;
    instructions = omega (arith, v.instructions, less_total (IsThinned (MayBeSaid u log)) instructions_of instructions_of (less_instructions (MayBeSaid u log)) u.graphs hs graphs);
    blocks = omega (arith, v.blocks, less_total (IsThinned (MayBeSaid u log)) (λ (g : Graph). length g.blocks) (λ (g : Graph). length g.blocks) no_more_blocks u.graphs hs graphs);
    markers = omega (arith, v.markers, ap (λ (l : List ℕ). length l) (same_markers_of (MayBeSaid u log) u.graphs hs graphs));
    arguments = omega (arith, v.arguments, less_total (IsThinned (MayBeSaid u log)) arguments_of arguments_of (less_arguments (MayBeSaid u log)) u.graphs hs graphs);
    statics = v.statics;
    relocations = v.relocations;
    once = subst AreAllDifferent (sym (same_markers_of (MayBeSaid u log) u.graphs hs graphs)) v.once;
    graphs = all_carried (IsThinned (MayBeSaid u log)) (IsGraph u) (IsGraph (with_graphs u hs log)) graph_valid u.graphs hs graphs v.graphs;
  }
    where
      no_more_blocks : (g h : Graph) → IsThinned (MayBeSaid u log) g h → length h.blocks ≤ length g.blocks
      no_more_blocks g h s = omega (arith, same_blocks (MayBeSaid u log) g h s)
