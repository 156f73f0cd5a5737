use Rattle.std.proofs.Common.{◌≡◌, List, Some, cond, length, subst, sym, ap, ◌∙◌, arith}
use Rattle.std.specs.Prelude.{is_ok}
use Rattle.std.specs.BTreeMap as tree
use Rattle.std.specs.Ordering.{is_eq}
use Rattle.image_form.specs.declared.recipes.Node.{Node}
use Rattle.image_form_sections.specs.Layouts.{node_cmp}
use Rattle.image_build_tables.specs.Nodes.{AreEarlier}
use Rattle.image_build_tables.proofs.NodesOnce.{counted_is, earlier_more, fresh_more, node_more, told_put}
use Rattle.image_build_tables.proofs.nodes.Nodes.add.Goals as goal

pub invariant_of-self-2 : goal.invariant_of-self-2
invariant_of-self-2 c =
    let old = c.args.self.now in
    let number = c.number_of-number.result in
    let many : c.len.result ≡ length old.nodes.items = omega (arith, c.len.ensures) in
    record {
      told = told_put old.numbers c.insert.new.self old.nodes.items c.args.node number old.told (λ few k at. c.find.ensures.none c.in_default.is few k at)
          (λ q. c.in_ok-insert.ensures.updates.0 q ∙ ap (λ k. cond (is_eq (node_cmp k q)) (Some number) (tree.get node_cmp old.numbers q)) c.key_of.ensures)
          (counted_is number c.len.result old.nodes.items c.number_of-number.ensures many) c.push.new.self.items (is_ok c.push.result) c.push.ensures.items;
    }

pub returns-clause-fresh : goal.returns-clause-fresh
returns-clause-fresh c = fresh_more c.args.self.now.nodes.items c.push.new.self.items c.args.node c.in_ok-push.ensures.items

pub returns-clause-node : goal.returns-clause-node
returns-clause-node c =
    let old = c.args.self.now.nodes.items in
    let many : c.len.result ≡ length old = omega (arith, c.len.ensures) in
    node_more old c.push.new.self.items c.args.node c.in_ok-push.ensures.items c.number_of-number.result (counted_is c.number_of-number.result c.len.result old c.number_of-number.ensures many)

pub returns-clause-earlier : goal.returns-clause-earlier
returns-clause-earlier c = λ own earlier.
    let old = c.args.self.now.nodes.items in
    subst (λ (l : List Node). AreEarlier l) (sym c.in_ok-push.ensures.items) (earlier_more old c.args.node own earlier)
