use Rattle.std.proofs.Common.{◌≡◌, ℕ, ◌∙◌, List, sym, ap, ◌<◌, cond, Some, [], get_or, length, arith}
use Rattle.std.specs.Prelude.{slice_index, is_some}
use Rattle.std.specs.BTreeMap as tree
use Rattle.image_form_sections.specs.Layouts.{node_cmp, rows_in}
use Rattle.image_form_sections.proofs.FirstAt.{seen_again, seen_new, three_same, same_three, three_self, three_alike}
use Rattle.image_form_sections.proofs.node_rules.first_nodes.Goals as goal
use Rattle.image_form_sections.proofs.node_rules.first_nodes.Goals.{then-not-contains_key+in_ok-insert, else-not-contains_key}

three_of : List ℕ → ℕ × ℕ × ℕ
three_of r = (slice_index r 0, slice_index r 1, slice_index r 2)

pub loop-node-preserved : goal.loop-node-preserved
unfolding three_of
loop-node-preserved c =
    let rows = rows_in c.args.layout.now.nodes in
    let first = tree.get node_cmp c.loop-node.nodes in
    let node = c.loop-node.node in
    let key = c.node_key-key.result in
    let there : node < length rows = omega (arith, c.loop-node-test.true, c.len-node-end.ensures.len) in
    let found : is_some (first (three_of (get_or rows node []))) ≡ c.contains_key.result = ap (λ n. is_some (first n)) (sym c.node_key-key.ensures) ∙ sym c.contains_key.ensures in
    elim c.if-not-contains_key.branch [
      | then-not-contains_key+in_ok-insert w ↦ λ q.
          ap (λ m. tree.get node_cmp m q) w.nodes-is
          ∙ w.in_ok-insert.ensures.updates.0 q
          ∙ ap (λ b. cond b (Some node) (first q)) (same_three key q)
          ∙ ap (λ n. cond (three_same n q) (Some node) (first q)) c.node_key-key.ensures
          ∙ seen_new three_of three_same three_self three_alike rows node [] first there c.loop-node.invariant (found ∙ w.if-not-contains_key.true) q
      | else-not-contains_key w ↦ λ q.
          ap (λ m. tree.get node_cmp m q) w.nodes-is ∙ seen_again three_of three_same three_self three_alike rows node [] first there c.loop-node.invariant (found ∙ w.if-not-contains_key.false) q
    ]
