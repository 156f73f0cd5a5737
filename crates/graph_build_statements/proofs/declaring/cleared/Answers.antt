use Rattle.std.proofs.Common.{◌≡◌, ℕ, IfOk, if◌then◌else◌, nat_le, subst}
use Rattle.graph_core.specs.Graphs as unit
use Rattle.graph_build_steps.specs.declared.draft.Draft.{Draft}
use Rattle.graph_build_steps.specs.Drafts.{instruction_before, made_of}
use Rattle.graph_build_statements.proofs.declaring.cleared.Goals as goal

pub returns : goal.returns
returns c =
    subst (λ (w : ℕ). IfOk c.cleared_words.result (λ (d : Draft). made_of d ≡ (if nat_le w c.args.covered then made_of c.args.draft else instruction_before (unit.Zero c.args.object w) (made_of c.args.draft))))
    c.in_ok-words.ensures c.cleared_words.ensures
