-- What copy propagation keeps of functions.
use Rattle.std.proofs.Common.{List, [], ◌∷◌, ap}
use Rattle.graph_core.specs.Graphs.{Graph}
use Rattle.pass_law.specs.Kept.{EachFunction, KeepsAllButBlocks}
use Rattle.copy_pass_rule.specs.Copying.{IsPropagated}

propagated_keeps : (g h : Graph) → IsPropagated g h → KeepsAllButBlocks g h
propagated_keeps g h p = record {
  function = record {
    entry = ap (λ (x : Graph). x.entry) p.rest;
    parameters = ap (λ (x : Graph). x.parameters) p.rest;
    scalars = ap (λ (x : Graph). x.scalars) p.rest;
    objects = ap (λ (x : Graph). x.objects) p.rest;
    first_moved = ap (λ (x : Graph). x.first_moved) p.rest;
  };
  names = ap (λ (x : Graph). x.name_count) p.rest;
  blocks = p.count;
}

-- functions with their copies propagated keep all but their blocks
pub each_keeps : (gs hs : List Graph) → EachFunction IsPropagated gs hs → EachFunction KeepsAllButBlocks gs hs
each_keeps [] [] all = tt
each_keeps [] (h ∷ hs) all = absurd all
each_keeps (g ∷ gs) [] all = absurd all
each_keeps (g ∷ gs) (h ∷ hs) all = (propagated_keeps g h all.0, each_keeps gs hs all.1)
