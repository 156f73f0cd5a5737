use Rattle.std.proofs.lemmas.Result.{on_ok_weaker}
use Rattle.rv_emit_storage.specs.Storages.{storage_view}
use Rattle.rv_emit_words.specs.Growing.{code_state}
use Rattle.rv_emit_code.specs.Ends.{Compared, with_zero}
use Rattle.rv_emit_code.proofs.Growing.{branch_by_parts}
use Rattle.rv_emit_code.proofs.ending.branch.Goals as goal

pub returns-clause-grown : goal.returns-clause-grown
returns-clause-grown c =
    let x : Compared = with_zero c.args.compared.0 c.args.compared.1 c.args.compared.2 in
    on_ok_weaker c.go_by_test.result
    (λ last. branch_by_parts (storage_view c.args.storage.now) c.args.loads.now x c.with_zero-comparison.result.0 c.with_zero-comparison.result.1 c.with_zero-comparison.result.2 c.words_of_fetch.result c.words_of_fetch-2.result
    c.args.targets.0.0 c.args.targets.1.0 c.args.next.0 (code_state c.args.code.now) (code_state c.load_held.new.code) (code_state c.fetch_test.new.code) (code_state c.go_by_test.new.code) c.in_ok-test.test.operation c.in_ok-test.test.left c.in_ok-test.test.right
    c.with_zero-comparison.ensures.comparison c.with_zero-comparison.ensures.left c.with_zero-comparison.ensures.right c.words_of_fetch.ensures c.words_of_fetch-2.ensures
    c.in_ok-load_held.ensures.grown c.in_ok-test.ensures.grown c.in_ok-test.ensures.operation c.in_ok-test.ensures.left c.in_ok-test.ensures.right last)
    c.go_by_test.ensures.grown
