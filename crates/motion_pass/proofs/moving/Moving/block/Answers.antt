use Rattle.std.proofs.Common.{ℕ, Option, length, map, refl, ◌+◌, subst}
use Rattle.graph_core.specs.Graphs.{block_view, end_view, instruction_view}
use Rattle.motion_pass_placement.specs.Moving.{IsEnd}
use Rattle.motion_pass.specs.Placing.{blocks_of, first_of, treated_in}
use Rattle.motion_pass.proofs.moving.Moving.block.Goals as goal

pub end-requires-clause-at : goal.end-requires-clause-at
end-requires-clause-at c = record { block = block_view c.args.block.now; is = c.requires.at; ends = refl }

pub returns : goal.returns
returns c =
    let m = c.args.self.now in
    let e = c.in_ok-end.ensures in
    record {
      own = e.own;
      is = record {
        place = refl;
        moved = map instruction_view c.in_ok-instructions.instructions.items;
        instructions = c.in_ok-instructions.ensures;
        done = e.done;
        end = subst (λ (o : Option ℕ). IsEnd (blocks_of m) (first_of m) (treated_in m) c.args.number o (length (blocks_of m) + length (map block_view c.args.added.now.items)) (end_view c.args.block.now.end) e.done (end_view c.in_ok-end.end) e.own) c.end_place-place.ensures e.is;
        are = e.behind;
      };
      grown = e.grown;
    }
