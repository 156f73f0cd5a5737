-- A unit whose graphs are like those of a valid unit but for what they read is valid.
use Rattle.std.proofs.Common.{ℕ, ◌≤◌, inl, inr, Option, Some, None, List, [], ◌∷◌, length, refl, sym, ap, subst, arith}
use Rattle.event_runs.specs.Agreement.{Pairs}
use Rattle.graph_core.specs.Graphs.{Block, Graph, UnitForm, Logged}
use Rattle.graph_core.specs.Bounds.{most_instructions_of_function}
use Rattle.graph_core.specs.Paths.{Among}
use Rattle.graph_core.specs.Uses.{targets_of}
use Rattle.graph_core.specs.Validity.{AreAllDifferent, AreEdges, IsOwnPlace, IsInstruction, IsBlock, IsGraph, IsValid, arguments_of, instructions_of, place_at_end}
use Rattle.copy_pass_rule.specs.Alike.{IsReadFor, AreAlikeInstructions, AreAlikeBlocks, AreAlike}
use Rattle.copy_pass_rule.proofs.Lists.{as_many, same_total, all_carried}
use Rattle.copy_pass_rule.proofs.Naming.{end_alike, instruction_alike, same_parameters, with_blocks, with_graphs}
use Rattle.copy_pass_rule.proofs.Shapes.{block_has, kept_at, same_arguments_of, same_at_end, same_block_markers, same_blocks, same_instructions, same_markers_of, same_targets}

module _ (u : UnitForm) (hs : List Graph) (log : List Logged) (graphs : Pairs AreAlike u.graphs hs) (grown : length u.log ≤ length log) where
  module _ (g : Graph) (blocks : List Block) (alike : Pairs (AreAlikeBlocks (IsReadFor (length g.scalars))) g.blocks blocks) where
    -- A place that a block keeps is the entry of its graph, or has its marker there.
    own_place : (p : Option ℕ) → IsOwnPlace g p → IsOwnPlace (with_blocks g blocks) p
    own_place None h = tt
    own_place (Some p) (inl e) = inl e
    own_place (Some p) (inr among) = inr (subst (Among p) (sym (same_block_markers (IsReadFor (length g.scalars)) g.blocks blocks alike)) among)

    -- Each edge leads to a block that keeps the place in force.
    edges_kept : (place : Option ℕ) (targets : List ℕ) → AreEdges g place targets → AreEdges (with_blocks g blocks) place targets
    edges_kept place [] h = tt
    edges_kept place (l ∷ targets) h = (kept_at (IsReadFor (length g.scalars)) place g.blocks blocks alike l h.0, edges_kept place targets h.1)

    -- A block that is like a valid one is valid.
    block_valid : length g.scalars ≤ g.name_count → (b c : Block) → AreAlikeBlocks (IsReadFor (length g.scalars)) b c → IsBlock u g b → IsBlock (with_graphs u hs log) (with_blocks g blocks) c
    block_valid within b c s v =
        let edges : AreEdges (with_blocks g blocks) (place_at_end b) (targets_of b.end) = edges_kept (place_at_end b) (targets_of b.end) v.edges in
        let placed : AreEdges (with_blocks g blocks) (place_at_end c) (targets_of b.end) = subst (λ p. AreEdges (with_blocks g blocks) p (targets_of b.end)) (sym (same_at_end (IsReadFor (length g.scalars)) b c s)) edges in
        record {
          place = block_has (IsReadFor (length g.scalars)) b c s v.place;
          own = subst (IsOwnPlace (with_blocks g blocks)) (sym s.place) (own_place b.place v.own);
          instructions = all_carried (AreAlikeInstructions (IsReadFor (length g.scalars))) (IsInstruction u g) (IsInstruction (with_graphs u hs log) (with_blocks g blocks)) (instruction_alike u hs log graphs grown g blocks within) b.instructions c.instructions s.instructions v.instructions;
          operands = end_alike u hs log graphs grown g blocks within b.end c.end s.end v.operands;
          edges = subst (AreEdges (with_blocks g blocks) (place_at_end c)) (sym (same_targets (IsReadFor (length g.scalars)) b.end c.end s.end)) placed;
        }

    -- A valid graph is valid with blocks that are like its own.
    blocks_replaced : IsGraph u g → IsGraph (with_graphs u hs log) (with_blocks g blocks)
    blocks_replaced v = record {
      instructions = subst (λ n. n ≤ most_instructions_of_function) (sym (same_instructions g (with_blocks g blocks) (record { rest = refl; blocks = alike }))) v.instructions;
      names = v.names;
      scalars = v.scalars;
      temporaries = v.temporaries;
      parameters = v.parameters;
      bindings = v.bindings;
      objects = v.objects;
      begins = kept_at (IsReadFor (length g.scalars)) (Some g.entry) g.blocks blocks alike 0 v.begins;
      blocks = all_carried (AreAlikeBlocks (IsReadFor (length g.scalars))) (IsBlock u g) (IsBlock (with_graphs u hs log) (with_blocks g blocks)) (block_valid (omega (arith, v.scalars, v.temporaries))) g.blocks blocks alike v.blocks;
    }

  -- A graph that is like a valid one is valid.
  graph_valid : (g h : Graph) → AreAlike g h → IsGraph u g → IsGraph (with_graphs u hs log) h
  graph_valid g h s v = subst (IsGraph (with_graphs u hs log)) (sym s.rest) (blocks_replaced g h.blocks s.blocks v)

  -- A unit with graphs that are like those of a valid unit, and with a log that is no shorter, is valid.
  pub graphs_replaced : IsValid u → IsValid (with_graphs u hs log)
  graphs_replaced v = record {
    functions = omega (arith, v.functions, as_many AreAlike u.graphs hs graphs);
    main = same_parameters u.graphs hs graphs u.main 0 v.main;
    instructions = omega (arith, v.instructions, same_total AreAlike instructions_of instructions_of same_instructions u.graphs hs graphs);
    blocks = omega (arith, v.blocks, same_total AreAlike (λ (g : Graph). length g.blocks) (λ (g : Graph). length g.blocks) same_blocks u.graphs hs graphs);
    markers = omega (arith, v.markers, ap (λ (l : List ℕ). length l) (same_markers_of u.graphs hs graphs));
    arguments = omega (arith, v.arguments, same_total AreAlike arguments_of arguments_of same_arguments_of u.graphs hs graphs);
    statics = v.statics;
    relocations = v.relocations;
    once = subst AreAllDifferent (sym (same_markers_of u.graphs hs graphs)) v.once;
    graphs = all_carried AreAlike (IsGraph u) (IsGraph (with_graphs u hs log)) graph_valid u.graphs hs graphs v.graphs;
  }
