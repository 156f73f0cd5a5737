use Rattle.std.proofs.Common.{◌≡◌, ℕ, List, Option, ◌<◌, ◌∙◌, Some, cond, bytes_eq, is_some, length, nat_cmp, sym, ap, arith}
use Rattle.std.specs.BTreeMap as tree
use Rattle.std.specs.Cmp.Lexicographic.{slice_cmp}
use Rattle.std.proofs.lemmas.Map.Text.{btree_map_updates_str}
use Rattle.image_form.specs.Views.{viewed}
use Rattle.image_form.specs.Names.{function_name}
use Rattle.image_form.specs.declared.tables.Function.{Function}
use Rattle.stop_engine.proofs.Called.{names-new, names-seen}
use Rattle.stop_engine.proofs.function_names.function_names.Goals as goal
use Rattle.stop_engine.proofs.function_names.function_names.Goals.{then-not-contains_key+in_ok-insert, else-not-contains_key}

no_function : Function
no_function = record { name_length = 0; first = 0; end = 0; frame = 0; entry = 0; saved = 0 }

pub loop-number-preserved : goal.loop-number-preserved
unfolding no_function
loop-number-preserved c =
    let m = viewed c.args.image.now in
    let i = c.loop-number.number in
    let there : i < length m.functions = omega (arith, c.loop-number-test.true, c.function_count-number-end.ensures.count) in
    let old : List ℕ → Option ℕ = λ q. tree.get_by (λ k. slice_cmp nat_cmp q k.now) c.loop-number.first in
    let found : is_some (old (function_name m i)) ≡ c.contains_key.result = ap (λ n. is_some (old n)) (sym c.function-name.ensures) ∙ sym c.contains_key.ensures in
    elim c.if-not-contains_key.branch [
      | then-not-contains_key+in_ok-insert w ↦ λ q.
          ap (λ n. tree.get_by (λ k. slice_cmp nat_cmp q k.now) n) w.first-is
          ∙ names-new m i no_function old (λ q. tree.get_by (λ k. slice_cmp nat_cmp q k.now) w.insert.new.self) there c.loop-number.invariant (found ∙ w.if-not-contains_key.true)
          (λ q. btree_map_updates_str c.function-name.result.now c.loop-number.first w.insert.new.self (Some i) w.in_ok-insert.ensures.updates q ∙ ap (λ n. cond (bytes_eq n q) (Some i) (old q)) c.function-name.ensures) q
      | else-not-contains_key w ↦ λ q.
          ap (λ n. tree.get_by (λ k. slice_cmp nat_cmp q k.now) n) w.first-is ∙ names-seen m i no_function old there c.loop-number.invariant (found ∙ w.if-not-contains_key.false) q
    ]
