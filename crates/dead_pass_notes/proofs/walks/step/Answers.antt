use Rattle.dead_pass_rule.proofs.Walking.{table_but}
use Rattle.dead_pass_notes.proofs.walks.step.Goals as goal

pub returns-clause-table : goal.returns-clause-table
returns-clause-table c = table_but c.args.blocks c.args.names c.args.marks.now c.step_in.new.marks c.requires.table c.step_in.ensures.same_count c.step_in.ensures.same_width c.step_in.ensures.others
