use Rattle.std.proofs.Common.{ℕ, ◌∙◌, ◌&&◌, ap, false}
use Rattle.std.specs.Prelude.{◌==◌, Option, slice_index}
use Rattle.std.specs.List.{position_from}
use Rattle.std.specs.Option.{option_map_or}
use Rattle.image_form_sections.specs.Layouts.{rows_in}
use Rattle.image_form_sections.specs.TestsOfNodes.{is_new_node}
use Rattle.image_form_sections.proofs.node_rules.NodeRule.is_new_node.Goals as goal

pub returns-in-Some : goal.returns-in-Some
unfolding is_new_node
returns-in-Some c =
    let nodes = rows_in c.args.self.now.layout.now.nodes in
    let first = λ (k : ℕ × ℕ × ℕ). position_from (λ q. slice_index q 0 == k.0 && slice_index q 1 == k.1 && slice_index q 2 == k.2) 0 nodes in
    ap (λ (o : Option ℕ). option_map_or (λ j. j == c.args.row) o false) (c.in-Some.ensures.value ∙ c.requires c.node_key.result ∙ ap first c.node_key.ensures)

pub returns-in-None : goal.returns-in-None
unfolding is_new_node
returns-in-None c =
    let nodes = rows_in c.args.self.now.layout.now.nodes in
    let first = λ (k : ℕ × ℕ × ℕ). position_from (λ q. slice_index q 0 == k.0 && slice_index q 1 == k.1 && slice_index q 2 == k.2) 0 nodes in
    ap (λ (o : Option ℕ). option_map_or (λ j. j == c.args.row) o false) (c.in-None.ensures.value ∙ c.requires c.node_key.result ∙ ap first c.node_key.ensures)
