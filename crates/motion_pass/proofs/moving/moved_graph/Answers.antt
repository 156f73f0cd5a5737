use Rattle.std.proofs.Common.{ap, map, refl, ◌∙◌}
use Rattle.graph_core.specs.Graphs.{binding_view, graph_view, scalar_view}
use Rattle.motion_pass_placement.specs.Placed.{all_of}
use Rattle.motion_pass.specs.Placing.{treated_by}
use Rattle.motion_pass.proofs.Acting.{names_on}
use Rattle.motion_pass.proofs.Doing.{count_named}
use Rattle.motion_pass.proofs.Treated.{are_treated}
use Rattle.motion_pass.proofs.moving.moved_graph.Goals as goal

pub blocks-requires : goal.blocks-requires
blocks-requires c = record { are = c.requires.are; few = c.requires.few; inside = c.requires.inside }

pub returns : goal.returns
returns c =
    let g = graph_view c.args.graph.now in
    let p = c.args.placement.now in
    let made = c.in_ok-blocks.ensures in
    record {
      keeps = record {
        entry = refl;
        parameters = ap (λ xs. map binding_view xs) (c.in_ok-parameters.ensures.items ∙ c.deref.ensures.value);
        scalars = ap (λ xs. map scalar_view xs) (c.in_ok-scalars.ensures.items ∙ c.deref-2.ensures.value);
        objects = c.in_ok-objects.ensures.items ∙ c.deref-3.ensures.value;
        first_moved = refl;
      };
      treated = treated_by p;
      are_treated = are_treated g p c.requires.are;
      names = c.end_name.ensures ∙ count_named (names_on g p c.requires.are) (all_of p) c.requires.are.as_many;
      moved = made.moved;
      own = made.own;
      blocks = made.blocks;
      are = made.are;
    }
