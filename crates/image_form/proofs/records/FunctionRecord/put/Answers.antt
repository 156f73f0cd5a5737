use Rattle.image_form.proofs.Gathered.{function_written}
use Rattle.image_form.proofs.records.FunctionRecord.put.Goals as goal

pub returns : goal.returns
returns c = function_written c.args.level c.args.self.now _ _ _ c.in_ok-put_numbers.ensures (rw c.has_callers.ensures at c.in_ok-put_last.ensures)
