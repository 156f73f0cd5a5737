use Rattle.std.proofs.Common.{◌∙◌, ◌+◌, ◌≤◌, IfOk, length, ap, subst, sym, arith}
use Rattle.graph_core.specs.Graphs.{Recipe, Truncated, Operated, operand_view, recipe_view}
use Rattle.image_build_tables.specs.Nodes.{IsNodeOf, naming_view, size_of}
use Rattle.std.specs.Prelude.{OnOk}
use Rattle.image_build_tables.specs.Nodes.{AreNewOf, AreOnce}
use Rattle.image_build_tables.proofs.Belonging.{operand_new, operated_new, truncated_new}
use Rattle.image_build_tables.proofs.Growing.{truncated_node, operated_node}
use Rattle.image_build_tables.proofs.NodesOnce.{below_through, both_through, few_through, leaf_through, through, twice}
use Rattle.image_build_tables.proofs.nodes.Nodes.+add_recipe.Goals as goal

pub returns-in_ok-operand-in-Truncated-clause-node : goal.returns-in_ok-operand-in-Truncated-clause-node
returns-in_ok-operand-in-Truncated-clause-node d c =
    let all = c.add-in-Truncated.new.self.nodes.items in
    let is = ap (λ v. Truncated c.in-Truncated.truncation (recipe_view v)) c.deref.ensures ∙ ap recipe_view (sym c.in-Truncated.is) in
    λ few. subst (λ (r : Recipe). IfOk c.add-in-Truncated.result (λ k. IsNodeOf all (naming_view c.args.naming) r k)) is
    (truncated_node c.add_recipe.new.self.nodes.items all (naming_view c.args.naming) c.in-Truncated.truncation (recipe_view c.deref.result.now)
    c.in_ok-operand-in-Truncated.operand c.add-in-Truncated.result c.add-in-Truncated.ensures.grown c.in_ok-operand-in-Truncated.ensures.node c.add-in-Truncated.ensures.node few)

pub returns-in_ok-right-in-Operated-clause-node : goal.returns-in_ok-right-in-Operated-clause-node
returns-in_ok-right-in-Operated-clause-node d c =
    let all = c.add-in-Operated.new.self.nodes.items in
    let is = (λ i. Operated c.in-Operated.operation (recipe_view (c.deref-in-Operated.ensures i)) (recipe_view (c.deref-in-Operated-2.ensures i))) ∙ ap recipe_view (sym c.in-Operated.is) in
    λ few. subst (λ (r : Recipe). IfOk c.add-in-Operated.result (λ k. IsNodeOf all (naming_view c.args.naming) r k)) is
    (operated_node c.add_recipe-in-Operated.new.self.nodes.items c.add_recipe-in-Operated-2.new.self.nodes.items all (naming_view c.args.naming) c.in-Operated.operation
    (recipe_view c.deref-in-Operated.result.now) (recipe_view c.deref-in-Operated-2.result.now) c.in_ok-left-in-Operated.left c.in_ok-right-in-Operated.right c.add-in-Operated.result
    c.in_ok-right-in-Operated.ensures.grown c.add-in-Operated.ensures.grown c.in_ok-left-in-Operated.ensures.node c.in_ok-right-in-Operated.ensures.node c.add-in-Operated.ensures.node few)

pub returns-in_ok-operand-in-Truncated-clause-fresh : goal.returns-in_ok-operand-in-Truncated-clause-fresh
returns-in_ok-operand-in-Truncated-clause-fresh d c =
    let old = c.args.self.now.nodes.items in
    let all = c.add-in-Truncated.new.self.nodes.items in
    let n = naming_view c.args.naming in
    let is = ap (λ v. Truncated c.in-Truncated.truncation (recipe_view v)) c.deref.ensures ∙ ap recipe_view (sym c.in-Truncated.is) in
    λ few. subst (λ (r : Recipe). OnOk c.add-in-Truncated.result (AreNewOf old all n r)) is
    (truncated_new old c.add_recipe.new.self.nodes.items all n c.in-Truncated.truncation (recipe_view c.deref.result.now)
    c.in_ok-operand-in-Truncated.operand c.add-in-Truncated.result c.add-in-Truncated.ensures.grown c.in_ok-operand-in-Truncated.ensures.fresh c.in_ok-operand-in-Truncated.ensures.node c.add-in-Truncated.ensures.fresh few)

pub returns-in_ok-right-in-Operated-clause-fresh : goal.returns-in_ok-right-in-Operated-clause-fresh
returns-in_ok-right-in-Operated-clause-fresh d c =
    let old = c.args.self.now.nodes.items in
    let all = c.add-in-Operated.new.self.nodes.items in
    let n = naming_view c.args.naming in
    let is = (λ i. Operated c.in-Operated.operation (recipe_view (c.deref-in-Operated.ensures i)) (recipe_view (c.deref-in-Operated-2.ensures i))) ∙ ap recipe_view (sym c.in-Operated.is) in
    λ few. subst (λ (r : Recipe). OnOk c.add-in-Operated.result (AreNewOf old all n r)) is
    (operated_new old c.add_recipe-in-Operated.new.self.nodes.items c.add_recipe-in-Operated-2.new.self.nodes.items all n c.in-Operated.operation
    (recipe_view c.deref-in-Operated.result.now) (recipe_view c.deref-in-Operated-2.result.now) c.in_ok-left-in-Operated.left c.in_ok-right-in-Operated.right c.add-in-Operated.result
    c.in_ok-right-in-Operated.ensures.grown c.add-in-Operated.ensures.grown c.in_ok-left-in-Operated.ensures.fresh c.in_ok-right-in-Operated.ensures.fresh
    c.in_ok-left-in-Operated.ensures.node c.in_ok-right-in-Operated.ensures.node c.add-in-Operated.ensures.fresh few)

pub returns-in-Operand-clause-fresh : goal.returns-in-Operand-clause-fresh
returns-in-Operand-clause-fresh d c =
    let old = c.args.self.now.nodes.items in
    let all = c.add.new.self.nodes.items in
    let n = naming_view c.args.naming in
    λ few. subst (λ (r : Recipe). OnOk c.add.result (AreNewOf old all n r)) (ap recipe_view (sym c.in-Operand.is))
    (operand_new old all n (operand_view c.in-Operand.operand) c.operand_node.result c.add.result c.operand_node.ensures c.add.ensures.fresh)

pub returns-in_ok-operand-in-Truncated-clause-once : goal.returns-in_ok-operand-in-Truncated-clause-once
returns-in_ok-operand-in-Truncated-clause-once d c = λ few.
    through AreOnce c.args.self.now.nodes.items c.add_recipe.new.self.nodes.items c.add-in-Truncated.new.self.nodes.items c.add-in-Truncated.result c.add-in-Truncated.ensures.grown c.in_ok-operand-in-Truncated.ensures.once (c.add-in-Truncated.ensures.once few) few

pub returns-in_ok-operand-in-Truncated-clause-earlier : goal.returns-in_ok-operand-in-Truncated-clause-earlier
returns-in_ok-operand-in-Truncated-clause-earlier d c = λ few.
    let some = c.add_recipe.new.self.nodes.items in
    let all = c.add-in-Truncated.new.self.nodes.items in
    below_through c.args.self.now.nodes.items some all c.add-in-Truncated.result (naming_view c.args.naming) (recipe_view c.deref.result.now) c.in_ok-operand-in-Truncated.operand c.add-in-Truncated.ensures.grown
    c.in_ok-operand-in-Truncated.ensures.earlier c.in_ok-operand-in-Truncated.ensures.node (λ low. c.add-in-Truncated.ensures.earlier (low, tt)) few

pub returns-in_ok-right-in-Operated-clause-once : goal.returns-in_ok-right-in-Operated-clause-once
returns-in_ok-right-in-Operated-clause-once d c = λ few.
    let first = c.add_recipe-in-Operated.new.self.nodes.items in
    let some = c.add_recipe-in-Operated-2.new.self.nodes.items in
    through AreOnce c.args.self.now.nodes.items some c.add-in-Operated.new.self.nodes.items c.add-in-Operated.result c.add-in-Operated.ensures.grown
    (twice AreOnce c.args.self.now.nodes.items first some c.in_ok-right-in-Operated.ensures.grown c.in_ok-left-in-Operated.ensures.once c.in_ok-right-in-Operated.ensures.once) (c.add-in-Operated.ensures.once few) few

pub returns-in_ok-right-in-Operated-clause-earlier : goal.returns-in_ok-right-in-Operated-clause-earlier
returns-in_ok-right-in-Operated-clause-earlier d c = λ few.
    let first = c.add_recipe-in-Operated.new.self.nodes.items in
    let some = c.add_recipe-in-Operated-2.new.self.nodes.items in
    both_through c.args.self.now.nodes.items first some c.add-in-Operated.new.self.nodes.items c.add-in-Operated.result (naming_view c.args.naming) (recipe_view c.deref-in-Operated.result.now) (recipe_view c.deref-in-Operated-2.result.now) c.in_ok-left-in-Operated.left c.in_ok-right-in-Operated.right
    c.in_ok-right-in-Operated.ensures.grown c.add-in-Operated.ensures.grown c.in_ok-left-in-Operated.ensures.earlier c.in_ok-right-in-Operated.ensures.earlier c.in_ok-left-in-Operated.ensures.node c.in_ok-right-in-Operated.ensures.node
    (λ low high. c.add-in-Operated.ensures.earlier (low, (high, tt))) few

pub returns-in-Operand-clause-earlier : goal.returns-in-Operand-clause-earlier
returns-in-Operand-clause-earlier d c = λ few. leaf_through c.args.self.now.nodes.items c.add.new.self.nodes.items c.add.result (naming_view c.args.naming) (operand_view c.in-Operand.operand) c.operand_node.result c.operand_node.ensures c.add.ensures.earlier

pub returns-in-Operand-clause-few : goal.returns-in-Operand-clause-few
returns-in-Operand-clause-few d c =
    let old = c.args.self.now.nodes.items in
    let all = c.add.new.self.nodes.items in
    subst (λ (r : Recipe). OnOk c.add.result (length all ≤ length old + size_of r)) (ap recipe_view (sym c.in-Operand.is)) c.add.ensures.few

pub returns-in_ok-operand-in-Truncated-clause-few : goal.returns-in_ok-operand-in-Truncated-clause-few
returns-in_ok-operand-in-Truncated-clause-few d c =
    let old = c.args.self.now.nodes.items in
    let some = c.add_recipe.new.self.nodes.items in
    let all = c.add-in-Truncated.new.self.nodes.items in
    let size = size_of (recipe_view c.deref.result.now) in
    let first : length some ≤ length old + size = c.in_ok-operand-in-Truncated.ensures.few in
    let is = ap (λ v. Truncated c.in-Truncated.truncation (recipe_view v)) c.deref.ensures ∙ ap recipe_view (sym c.in-Truncated.is) in
    subst (λ (r : Recipe). OnOk c.add-in-Truncated.result (length all ≤ length old + size_of r)) is
    (few_through (length all) (length some) (length old + (1 + size)) c.add-in-Truncated.result c.add-in-Truncated.ensures.few (omega (arith, first)))

pub returns-in_ok-right-in-Operated-clause-few : goal.returns-in_ok-right-in-Operated-clause-few
returns-in_ok-right-in-Operated-clause-few d c =
    let old = c.args.self.now.nodes.items in
    let first = c.add_recipe-in-Operated.new.self.nodes.items in
    let some = c.add_recipe-in-Operated-2.new.self.nodes.items in
    let all = c.add-in-Operated.new.self.nodes.items in
    let left = size_of (recipe_view c.deref-in-Operated.result.now) in
    let right = size_of (recipe_view c.deref-in-Operated-2.result.now) in
    let one : length first ≤ length old + left = c.in_ok-left-in-Operated.ensures.few in
    let other : length some ≤ length first + right = c.in_ok-right-in-Operated.ensures.few in
    let is = (λ i. Operated c.in-Operated.operation (recipe_view (c.deref-in-Operated.ensures i)) (recipe_view (c.deref-in-Operated-2.ensures i))) ∙ ap recipe_view (sym c.in-Operated.is) in
    subst (λ (r : Recipe). OnOk c.add-in-Operated.result (length all ≤ length old + size_of r)) is
    (few_through (length all) (length some) (length old + (1 + left + right)) c.add-in-Operated.result c.add-in-Operated.ensures.few (omega (arith, one, other)))
