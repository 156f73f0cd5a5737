use Rattle.std.proofs.Common.{map, inl, inr, true≢false, sym, ◌∙◌, arith}
use Rattle.std.proofs.lemmas.Bool.{cases_eq}
use Rattle.graph_core.specs.Graphs.{block_view}
use Rattle.graph_paths.specs.PathMarksTable.{bits_of}
use Rattle.copy_pass_rule.proofs.Bringing.{found_by}
use Rattle.copy_pass_rule.proofs.flow.find_missing.Goals as goal

pub returns-clause-found : goal.returns-clause-found
returns-clause-found c =
    found_by (map block_view c.args.all.now) c.args.copies.now.all.now (bits_of c.in_ok-reached.reached 0) c.in_ok-reached.ensures (bits_of c.put_entry.new.marks) (bits_of c.settle.new.comes) (bits_of c.settle.new.leaves)
    (λ bit lt. c.put_entry.ensures.entry bit (omega (arith, lt, c.requires.narrow)))
    (λ n bit e. elim (cases_eq n 0) [
      | inl q ↦ q
      | inr q ↦ absurd (true≢false (sym e ∙ c.put_entry.ensures.others n bit q ∙ c.in_ok-starts.ensures.clear n bit))
    ])
    c.in_ok-settle.ensures.settled
