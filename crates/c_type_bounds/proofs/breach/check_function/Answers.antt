use Rattle.std.proofs.Common.{arith, Ok, ap, ◌∙◌, sym}
use Rattle.std.specs.Prelude.{map}
use Rattle.c_tree.specs.Programs.{automatic_view, function_view}
use Rattle.c_type_bounds.specs.Bounds.{with_kept}
use Rattle.c_type_bounds.specs.Counts.{capped}
use Rattle.c_type_bounds.proofs.FunctionLimits.{number_refused, own_room_of, parameters_refused, room_refused, within_limits}
use Rattle.c_type_bounds.proofs.breach.check_function.Goals as goal
use Rattle.c_type_bounds.proofs.breach.check_function.Goals.{then-number-gt255-via-then-number-gt255, then-number-gt255-via-else-number-gt255+then-f-gt8}

pub returns-then-memory_room-gt4096 : goal.returns-then-memory_room-gt4096
returns-then-memory_room-gt4096 c =
    let f = function_view c.args.f.now in
    let vs = map automatic_view c.args.automatics.now in
    let counted = c.memory_room.ensures ∙ ap capped (own_room_of c.variables_of.result.now c.mark.new.automatics c.args.f.now (with_kept f vs) c.variables_of.ensures c.in_ok-mark.ensures) in
    room_refused c.args.number f vs (omega arith) (omega (arith, counted))

pub returns-then-number-gt255 : goal.returns-then-number-gt255
returns-then-number-gt255 c =
    let f = function_view c.args.f.now in
    let vs = map automatic_view c.args.automatics.now in
    let counted = c.memory_room.ensures ∙ ap capped (own_room_of c.variables_of.result.now c.mark.new.automatics c.args.f.now (with_kept f vs) c.variables_of.ensures c.in_ok-mark.ensures) in
    elim c.then-number-gt255.branch [
      | then-number-gt255-via-then-number-gt255 w ↦ number_refused c.args.number f vs (omega arith) (omega (arith, counted)) (omega arith)
      | then-number-gt255-via-else-number-gt255+then-f-gt8 w ↦ parameters_refused c.args.number f vs (omega arith) (omega (arith, counted)) (omega arith)
    ]

pub returns : goal.returns
returns c =
    let f = function_view c.args.f.now in
    let vs = map automatic_view c.args.automatics.now in
    let counted = c.memory_room.ensures ∙ ap capped (own_room_of c.variables_of.result.now c.mark.new.automatics c.args.f.now (with_kept f vs) c.variables_of.ensures c.in_ok-mark.ensures) in
    within_limits c.args.number f vs (omega arith) (omega (arith, counted)) (omega arith) (omega arith) ∙ ap (λ ws. Ok ws) (sym c.in_ok-mark.ensures)
